-- Each instruction of the rule's list finds its values at their places.
use Rattle.std.proofs.Common.{◌≡◌, ◌<◌, zero, suc, ℕ, Bool, true, false, cond, List, [], ◌∷◌, Some, IfSome, Contains, length, refl, ◌∙◌, ap, arith}
use Rattle.std.specs.Prelude.{slice_get, slice_index_or}
use Rattle.std.proofs.lemmas.Bool.{lt-ltb}
use Rattle.std.proofs.lemmas.Cmp.{nat_eq_equiv}
use Rattle.std.proofs.lemmas.List.Elements.{Contains-append_left, Contains-append_right}
use Rattle.std.proofs.lemmas.Map.Views.{list_any-from_Contains}
use Rattle.std.proofs.lemmas.Option.{slice_get-get_or}
use Rattle.mage_instr.specs.declared.instr.Instr.{Instr}
use Rattle.mage_instr.specs.declared.instr.Place.{Place}
use Rattle.mage_instr.specs.declared.instr.Step.{Step}
use Rattle.mage_instr.specs.declared.replaced.Replaced.{Replaced}
use Rattle.mage_instr.specs.declared.replaced.Replaced.TheVariants as entry
use Rattle.mage_instr.specs.Opcodes.{arity_of, has_result}
use Rattle.mage_instr.specs.Sound.{arg_of}
use Rattle.mage_instr.specs.Trace.{pages_of}
use Rattle.mage_place.specs.Live.{args_of, values_touched_by}
use Rattle.mage_place.specs.Places.{place_of}
use Rattle.mage_place.specs.Steps.{IsStepOf}
use Rattle.mage_place.proofs.SoundFacts.{in_front}
use Rattle.mage_belady.specs.Plan.{is_in}
use Rattle.mage_belady.specs.Rule.{Held, resident, frame_of, no_spot, spot_in, arg_spot, job_in}
use Rattle.mage_belady.proofs.Sets.{frame_of-within, frame_of-has}
use Rattle.mage_carry.proofs.Walks.{arity-le}
use Rattle.mage_residency.specs.Carried.{HaveArguments}
use Rattle.mage_sched.specs.Reads.{page_in}
use Rattle.mage_schedulable.specs.Standing.{IsSpotOf, FindsPlaces, AllFindPlaces}

module _ (instrs : List Instr) (places : List Place) where
  -- what comes in does nothing
  pub finds-entering : (t : ℕ) (before : List Replaced) (b : Bool) (f p : ℕ) (rest : List Replaced) → AllFindPlaces instrs places t (cond b (entry.Load f p) (entry.Fresh f p) ∷ before) rest
      → AllFindPlaces instrs places t before (cond b (entry.Load f p) (entry.Fresh f p) ∷ rest)
  finds-entering t before true f p rest h = h
  finds-entering t before false f p rest h = h

  module _ (t : ℕ) (i : Instr) (step : Step) (held : List Held) (before : List Replaced) (is : slice_get instrs t ≡ Some i) (its : IsStepOf places t i step) (have : HaveArguments instrs)
      (here : (q : ℕ) → is_in q (pages_of step) ≡ true → is_in q (resident held) ≡ true) (frame : (f : ℕ) → page_in before f ≡ slice_get (resident held) f) where
    spot_of : (v : ℕ) → Contains (values_touched_by i t) v → IsSpotOf places before v (spot_in held (place_of places v))
    spot_of v touched =
        let page = (place_of places v).page in
        let needed = list_any-from_Contains nat_eq_equiv page (pages_of step) ((its.pages page).1 (v, touched, refl)) in
        let there = here page needed in
        record {
          frame = frame (frame_of page (resident held)) ∙ slice_get-get_or (resident held) (frame_of page (resident held)) 0 (frame_of-within page (resident held) there) ∙ ap Some (frame_of-has page (resident held) there);
          offset = refl;
        }

    arg_at : (k : ℕ) → k < arity_of i.op → IsSpotOf places before (arg_of i k) (arg_spot held places i k)
    arg_at k below =
        let three : length i.args ≡ 3 = rw is at (have t) in
        let few = arity-le i.op in
        let among = in_front i.args (arity_of i.op) k below (omega (arith, few, three, below)) in
        rw (lt-ltb k (arity_of i.op) below) (spot_of (arg_of i k) (Contains-append_left (args_of i) _ (arg_of i k) among))

    among_three : (k : ℕ) → k < arity_of i.op → IsSpotOf places before (arg_of i k) (slice_index_or (arg_spot held places i 0 ∷ arg_spot held places i 1 ∷ arg_spot held places i 2 ∷ []) k no_spot)
    among_three zero below = arg_at 0 below
    among_three (suc zero) below = arg_at 1 below
    among_three (suc (suc zero)) below = arg_at 2 below
    among_three (suc (suc (suc k))) below = let few = arity-le i.op in absurd (omega (arith, few, below))

    result_at : has_result i.op ≡ true → IsSpotOf places before t (job_in held places t i).out
    result_at has =
        let last : Contains (cond (has_result i.op) (t ∷ []) []) t = rw has (0, omega arith, refl) in
        rw has (spot_of t (Contains-append_right (args_of i) _ t last))

    -- the instruction does, where its pages are in memory
    pub finds_places : IfSome (slice_get instrs t) (λ own. FindsPlaces places t own before (job_in held places t i))
    finds_places = rw is (record { taken = among_three; defined = result_at })
