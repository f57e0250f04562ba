-- Entries one after another.
use Rattle.std.proofs.Common.{◌≡◌, ◌<◌, ℕ, false, List, [], ◌∷◌, ◌++◌, Option, Some, length, refl, ◌∙◌, ap}
use Rattle.std.specs.Prelude.{slice_get}
use Rattle.std.proofs.lemmas.Bool.{lt-ltb}
use Rattle.mage_instr.specs.declared.instr.Instr.{Instr}
use Rattle.mage_instr.specs.declared.replaced.Job.{Job}
use Rattle.mage_instr.specs.declared.replaced.Replaced.{Replaced}
use Rattle.mage_instr.specs.declared.replaced.Replaced.TheVariants as entry
use Rattle.mage_instr.specs.Opcodes.{has_result}
use Rattle.mage_carry.specs.State.{Content, nothing, State, with_frame, with_page}
use Rattle.mage_carry.specs.Steps.{◌>>=◌, result_put}
use Rattle.mage_carry.proofs.Chains.{same_Some, then_some}
use Rattle.mage_residency.specs.Plain.{entry_done, all_done}

-- what one entry comes to
pub load_goes : (instrs : List Instr) (wires f page : ℕ) (s : State) (content : Content) → s.pages page ≡ Some content → f < length s.frames → all_done instrs wires s (entry.Load f page ∷ []) ≡ Some (with_frame f content s)
load_goes instrs wires f page s content is within = rw (is, lt-ltb f (length s.frames) within) refl

pub fresh_goes : (instrs : List Instr) (wires f page : ℕ) (s : State) → f < length s.frames → all_done instrs wires s (entry.Fresh f page ∷ []) ≡ Some (with_frame f nothing s)
fresh_goes instrs wires f page s within = rw (lt-ltb f (length s.frames) within) refl

pub save_goes : (instrs : List Instr) (wires f page : ℕ) (s : State) (content : Content) → slice_get s.frames f ≡ Some content → all_done instrs wires s (entry.Save f page ∷ []) ≡ Some (with_page page content s)
save_goes instrs wires f page s content is = rw is refl

-- no result is put anywhere
pub put_nothing : (instrs : List Instr) (wires : ℕ) (i : Instr) (job : Job) (s : State) → has_result i.op ≡ false → result_put instrs wires i job s ≡ Some s
put_nothing instrs wires i job s none = rw none refl

-- some entries, and then others
pub goes_on : (instrs : List Instr) (wires : ℕ) (some others : List Replaced) (s after : State) → all_done instrs wires s some ≡ Some after → all_done instrs wires s (some ++ others) ≡ all_done instrs wires after others
goes_on instrs wires [] others s after h = ap (λ a. all_done instrs wires a others) (same_Some s after h)
goes_on instrs wires (one ∷ some) others s after h =
    let first = then_some (entry_done instrs wires s one) (λ a. all_done instrs wires a some) after h in
    ap (λ (o : Option State). o >>= (λ a. all_done instrs wires a (some ++ others))) first.1 ∙ goes_on instrs wires some others first.0 after first.2
