-- Lists that the replacement rule makes, for some choice of victims.
use Rattle.std.specs.Prelude.{◌≡◌, ◌&&◌, ◌||◌, ℕ, List, [], ◌∷◌, Bool, true, false, not, nat_eq, Some}
use Rattle.mage_instr.specs.declared.replaced.Replaced.{Replaced}
use Rattle.mage_instr.specs.declared.replaced.Replaced.TheVariants as entry
use Rattle.mage_sched.specs.Reads.{page_in, is_page}

-- whether a page came in before
abbrev pub came_in : (before : List Replaced) → (page : ℕ) → Bool
came_in [] page = false
came_in (entry.Fresh frame other ∷ before) page = nat_eq other page || came_in before page
came_in (entry.Load frame other ∷ before) page = nat_eq other page || came_in before page
came_in (entry.Save frame other ∷ before) page = came_in before page
came_in (entry.Do job ∷ before) page = came_in before page

-- whether a page was saved before, or is saved later
abbrev pub is_saved : List Replaced → (page : ℕ) → Bool
is_saved [] page = false
is_saved (entry.Fresh frame other ∷ list) page = is_saved list page
is_saved (entry.Load frame other ∷ list) page = is_saved list page
is_saved (entry.Save frame other ∷ list) page = nat_eq other page || is_saved list page
is_saved (entry.Do job ∷ list) page = is_saved list page

-- whether a page was loaded before, or is loaded later
abbrev pub is_loaded : List Replaced → (page : ℕ) → Bool
is_loaded [] page = false
is_loaded (entry.Fresh frame other ∷ list) page = is_loaded list page
is_loaded (entry.Load frame other ∷ list) page = nat_eq other page || is_loaded list page
is_loaded (entry.Save frame other ∷ list) page = is_loaded list page
is_loaded (entry.Do job ∷ list) page = is_loaded list page

-- whether a page is in memory: it came in, and its frame took no other since
abbrev pub in_memory : (before : List Replaced) → (page : ℕ) → Bool
in_memory [] page = false
in_memory (entry.Fresh frame other ∷ before) page = nat_eq other page || (in_memory before page && not (is_page (page_in before frame) page))
in_memory (entry.Load frame other ∷ before) page = nat_eq other page || (in_memory before page && not (is_page (page_in before frame) page))
in_memory (entry.Save frame other ∷ before) page = in_memory before page
in_memory (entry.Do job ∷ before) page = in_memory before page

-- whether what comes next takes a frame
abbrev pub takes : (frame : ℕ) → List Replaced → Bool
takes frame [] = false
takes frame (entry.Fresh into page ∷ list) = nat_eq into frame
takes frame (entry.Load into page ∷ list) = nat_eq into frame
takes frame (entry.Save from page ∷ list) = false
takes frame (entry.Do job ∷ list) = false

-- An entry of the rule, by those before it, the newest first, and those after it. A frame that is taken is free, or its page
-- leaves.
abbrev pub IsEntry : (before : List Replaced) → Replaced → (after : List Replaced) → Type 0
-- the page never came in
IsEntry before (entry.Fresh frame page) after = came_in before page ≡ false
-- the page isn't in memory, and was saved
IsEntry before (entry.Load frame page) after = (in_memory before page ≡ false) × (is_saved before page ≡ true)
-- the frame has the page, which leaves next, and is loaded later
IsEntry before (entry.Save frame page) after = (page_in before frame ≡ Some page) × (takes frame after ≡ true) × (is_loaded after page ≡ true)
IsEntry before (entry.Do job) after = Unit {0}

-- each of some entries is one of the rule
abbrev pub AreEntries : (before : List Replaced) → List Replaced → Type 0
AreEntries before [] = Unit {0}
AreEntries before (one ∷ list) = IsEntry before one list × AreEntries (one ∷ before) list

-- a list as the replacement rule makes one, for some choice of victims
abbrev pub IsReplaced : List Replaced → Type 0
IsReplaced list = AreEntries [] list
