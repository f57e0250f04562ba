-- An instruction looks at the frames and at what is next alone, and changes them alone.
use Rattle.std.proofs.Common.{◌≡◌, ◌&&◌, ℕ, Bool, true, false, cond, List, Some, refl, sym, ◌∙◌, ap}
use Rattle.std.specs.Prelude.{slice_get}
use Rattle.mage_instr.specs.declared.instr.Instr.{Instr}
use Rattle.mage_instr.specs.declared.replaced.Job.{Job}
use Rattle.mage_instr.specs.Opcodes.{has_result, width_of_result}
use Rattle.mage_carry.specs.State.{Content, State, with_frame}
use Rattle.mage_carry.specs.Steps.{provided, is_job_of, finds_all, is_within, placed, result_at, result_put, counted, do_job}
use Rattle.mage_carry.proofs.Chains.{same_Some, then_some, provided_some, map_some}

-- the frames and the next instruction of one state, with the slots and the pages of another
abbrev pub beside : (s p : State) → State
beside s p = record { frames = p.frames; slots = s.slots; pages = s.pages; next = p.next }

module _ (wires : ℕ) (instrs : List Instr) where
  put_beside : (i : Instr) (job : Job) (s p after : State) (b : Bool) → cond b (result_at instrs wires (width_of_result i.op i.width) job.out p) (Some p) ≡ Some after
      → (cond b (result_at instrs wires (width_of_result i.op i.width) job.out (beside s p)) (Some (beside s p)) ≡ Some (beside s after)) × (after.pages ≡ p.pages)
  put_beside i job s p after false h = let same = same_Some p after h in (ap (λ x. Some (beside s x)) same, ap (λ (x : State). x.pages) (sym same))
  put_beside i job s p after true h =
      let found = then_some (slice_get p.frames job.out.frame) (λ content. provided (is_within wires (width_of_result i.op i.width) job.out) (with_frame job.out.frame (placed instrs job.out.offset (width_of_result i.op i.width) p.next content) p)) after h in
      let both = provided_some (is_within wires (width_of_result i.op i.width) job.out) (with_frame job.out.frame (placed instrs job.out.offset (width_of_result i.op i.width) p.next found.0) p) after found.2 in
      (put_is found.0 found.1 both.0 ∙ ap (λ x. Some (beside s x)) both.1, ap (λ (x : State). x.pages) (sym both.1))
    where
      put_is : (content : Content) → slice_get p.frames job.out.frame ≡ Some content → is_within wires (width_of_result i.op i.width) job.out ≡ true
          → result_at instrs wires (width_of_result i.op i.width) job.out (beside s p) ≡ Some (beside s (with_frame job.out.frame (placed instrs job.out.offset (width_of_result i.op i.width) p.next content) p))
      put_is content is inside = rw (is, inside) refl

  pub job_beside : (job : Job) (s p after : State) → do_job instrs wires job p ≡ Some after → (do_job instrs wires job (beside s p) ≡ Some (beside s after)) × (after.pages ≡ p.pages)
  job_beside job s p after h =
      let found = then_some (slice_get instrs p.next) _ after h in
      let i = found.0 in
      let ready = then_some (provided (is_job_of i job && finds_all wires p.frames i job) p) _ after found.2 in
      let checked = provided_some (is_job_of i job && finds_all wires p.frames i job) p ready.0 ready.1 in
      let counts = map_some counted (result_put instrs wires i job ready.0) after ready.2 in
      let result : result_put instrs wires i job p ≡ Some counts.0 = ap (result_put instrs wires i job) checked.1 ∙ counts.1 in
      let both = put_beside i job s p counts.0 (has_result i.op) result in
      (done i counts.0 found.1 checked.0 both.0 ∙ ap (λ x. Some (beside s x)) counts.2, ap (λ (x : State). x.pages) (sym counts.2) ∙ both.1)
    where
      done : (i : Instr) (mid : State) → slice_get instrs p.next ≡ Some i → (is_job_of i job && finds_all wires p.frames i job) ≡ true → result_put instrs wires i job (beside s p) ≡ Some (beside s mid)
          → do_job instrs wires job (beside s p) ≡ Some (beside s (counted mid))
      done i mid is fit result = rw (is, fit, result) refl
