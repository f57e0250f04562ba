-- Pages under other names: saves and loads that name pages of a store in place of the pages themselves.
use Rattle.std.specs.Prelude.{◌≡◌, ℕ, if◌then◌else◌, List, [], ◌∷◌, Option, None, Some, nat_eq}
use Rattle.mage_instr.specs.declared.replaced.Replaced.{Replaced}
use Rattle.mage_instr.specs.declared.replaced.Replaced.TheVariants as entry

-- nothing where it is this page
abbrev pub unless_it : (page : ℕ) → Option ℕ → Option ℕ
unless_it page None = None
unless_it page (Some other) = if nat_eq page other then None else Some other

-- What each store page has: the page that was saved to it, unless that was saved elsewhere since. Here a page was saved once more.
abbrev pub saved_to : (home page : ℕ) → (has : ℕ → Option ℕ) → ℕ → Option ℕ
saved_to home page has other = if nat_eq home other then Some page else unless_it page (has other)

-- an entry is another with the name of a store page: one that is loaded has the page
abbrev pub IsRenamed : (has : ℕ → Option ℕ) → Replaced → Replaced → Type 0
IsRenamed has (entry.Fresh frame page) (entry.Fresh into new) = frame ≡ into
IsRenamed has (entry.Load frame page) (entry.Load into home) = (frame ≡ into) × (has home ≡ Some page)
IsRenamed has (entry.Save frame page) (entry.Save from home) = frame ≡ from
IsRenamed has (entry.Do job) (entry.Do other) = job ≡ other
IsRenamed has _ _ = ⊥

-- what each store page has after two such entries
abbrev pub has_after : Replaced → Replaced → (has : ℕ → Option ℕ) → ℕ → Option ℕ
has_after (entry.Save frame page) (entry.Save from home) has = saved_to home page has
has_after _ _ has = has

-- some entries are others with the names of store pages, one by one
abbrev pub AreRenamed : (has : ℕ → Option ℕ) → (list others : List Replaced) → Type 0
AreRenamed has [] [] = Unit {0}
AreRenamed has (one ∷ list) (other ∷ others) = IsRenamed has one other × AreRenamed (has_after one other has) list others
AreRenamed has [] (other ∷ others) = ⊥
AreRenamed has (one ∷ list) [] = ⊥
