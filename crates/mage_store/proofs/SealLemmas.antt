-- The digests in an ordered map.
use Rattle.std.proofs.Common.{◌≡◌, ◌<◌, ◌+◌, ◌∙◌, sym, ap, refl, ℕ, List, get_or, take, length, Bool, true, false, cond, Option, Some, None, is_some, IsSome, BTreeMap, arith}
use Rattle.std.specs.Prelude.{◌==◌, ◌||◌}
use Rattle.std.specs.List.{list_any}
use Rattle.std.specs.Ordering.{nat_cmp}
use Rattle.std.specs.BTreeMap.{is_at, UpdatesBy}
use Rattle.std.proofs.lemmas.List.Folds.{list_any_more}
use Rattle.std.proofs.lemmas.Bool.Decides.{nat_tests}
use mathlib.Core.Path.{fun_ext}
use Rattle.mage_store.specs.Seals.{digest_of, with_digest}

-- the order finds a page just where it is this one
pub at_page : (page other : ℕ) → is_at (nat_cmp page) other ≡ (page == other)
at_page page other = grind (arith, nat_tests)

pub at_swapped : (page other : ℕ) → (page == other) ≡ (other == page)
at_swapped page other = grind (arith, nat_tests)

-- an update of the map keeps a digest
pub digest_updated : (page : ℕ) (before after : BTreeMap ℕ (List ℕ)) (digest : List ℕ) → UpdatesBy nat_cmp (nat_cmp page) before after (Some digest) → digest_of after.entries ≡ with_digest (digest_of before.entries) page digest
digest_updated page before after digest updates =
    fun_ext (λ other.
    updates.0 other
    ∙ ap (λ (b : Bool). cond b (Some digest) (digest_of before.entries other)) (at_page page other ∙ at_swapped page other))

some_or : (test : Bool) (digest : List ℕ) (found : Option (List ℕ)) → is_some (cond test (Some digest) found) ≡ (is_some found || test)
some_or true digest None = refl
some_or true digest (Some other) = refl
some_or false digest None = refl
some_or false digest (Some other) = refl

-- room for one more page
pub room_more : (before after : BTreeMap ℕ (List ℕ)) (pages : List ℕ) (index page : ℕ) (digest : List ℕ) (other : ℕ) → index < length pages → page ≡ get_or pages index 0 → UpdatesBy nat_cmp (nat_cmp page) before after (Some digest) → is_some (digest_of before.entries other) ≡ list_any (λ p. p == other) (take index pages) → is_some (digest_of after.entries other) ≡ list_any (λ p. p == other) (take (index + 1) pages)
room_more before after pages index page digest other within is updates room =
    ap is_some (updates.0 other)
    ∙ some_or (is_at (nat_cmp page) other) digest (digest_of before.entries other)
    ∙ ap (λ (b : Bool). b || is_at (nat_cmp page) other) room
    ∙ ap (λ (b : Bool). list_any (λ p. p == other) (take index pages) || b) (at_page page other ∙ ap (λ (p : ℕ). p == other) is)
    ∙ sym (list_any_more (λ p. p == other) pages index 0 within)

pub no_digest : (digest : Option (List ℕ)) → digest ≡ None → IsSome digest → ⊥
no_digest digest none some = cc (ap is_some none, some)
