-- The plain walk through a plan of residency: what stands where while its entries are done one after another, where a page that
-- is loaded or saved is there at once. It knows of no slot; all else is as in the walk of mage_carry.
use Rattle.std.specs.Prelude.{◌≡◌, ℕ, List, [], ◌∷◌, length, Option, Some, IsSomeAnd, nat_lt, slice_get}
use Rattle.mage_instr.specs.declared.instr.Instr.{Instr}
use Rattle.mage_instr.specs.declared.replaced.Replaced.{Replaced}
use Rattle.mage_instr.specs.declared.replaced.Replaced.TheVariants as entry
use Rattle.mage_carry.specs.State.{State, with_frame, with_page}
use Rattle.mage_carry.specs.Steps.{◌>>=◌, provided, fresh, do_job}
use Rattle.mage_carry.specs.Carrying.{start}

-- the frame gets what the page got when it was last saved
abbrev pub load : (frame page : ℕ) → State → Option State
load frame page state = do
  content ← state.pages page
  provided (nat_lt frame (length state.frames)) (with_frame frame content state)

-- the page gets what the frame holds
abbrev pub save : (frame page : ℕ) → State → Option State
save frame page state = do
  content ← slice_get state.frames frame
  Some (with_page page content state)

-- what an entry changes, or none where it breaks the rules: a page has so many wires
abbrev pub entry_done : List Instr → (wires : ℕ) → State → Replaced → Option State
entry_done instrs wires state (entry.Fresh frame page) = fresh frame state
entry_done instrs wires state (entry.Load frame page) = load frame page state
entry_done instrs wires state (entry.Save frame page) = save frame page state
entry_done instrs wires state (entry.Do job) = do_job instrs wires job state

-- what some entries come to, one after another
abbrev pub all_done : List Instr → (wires : ℕ) → State → List Replaced → Option State
all_done instrs wires state [] = Some state
all_done instrs wires state (one ∷ list) = entry_done instrs wires state one >>= (λ after. all_done instrs wires after list)

-- A plan of residency carries a program: from nothing, in so many frames, each entry keeps to the rules, and the instructions
-- that are done are all, in their order, each with its own arguments.
abbrev pub CarriesPlainly : (frames wires : ℕ) → List Instr → List Replaced → Type 0
CarriesPlainly frames wires instrs list =
    IsSomeAnd (all_done instrs wires (start frames 0) list) (λ end. end.next ≡ length instrs)
