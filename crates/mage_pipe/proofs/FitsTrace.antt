-- What `place` gives fits.
use Rattle.std.proofs.Common.{◌≡◌, ◌<◌, ℕ, List, [], ◌∷◌, Bool, true, false, length, get_or, Option, Some, None, IfSome, Contains, refl, ◌∙◌, arith, if◌then◌else◌}
use Rattle.std.specs.List.{slice_get}
use Rattle.std.proofs.lemmas.List.{get_or-take, get_or_default, length-take}
use Rattle.std.proofs.lemmas.List.Elements.{All-contains_itself, Contains-append_left, Contains-append_right}
use Rattle.std.proofs.lemmas.Bool.{false≢true}
use Rattle.std.proofs.lemmas.Option.{slice_get-get_or, slice_get_within}
use Rattle.mage_instr.specs.declared.instr.Instr.{Instr}
use Rattle.mage_instr.specs.declared.instr.Place.{Place}
use Rattle.mage_instr.specs.declared.instr.Step.{Step}
use Rattle.mage_instr.specs.Opcodes.{arity_of, has_result}
use Rattle.mage_instr.specs.Sound.{IsSound, IsSoundAt}
use Rattle.mage_place.specs.Places.{ArePlaces, nowhere, place_of}
use Rattle.mage_place.specs.Live.{values_touched_by}
use Rattle.mage_place.specs.Steps.{AreSteps, IsStepOf}
use Rattle.mage_belady.specs.Placed.{args_of, StandsIn, FindsValues, FitsTrace}

module _ (places : List Place) (t : ℕ) (i : Instr) (step : Step) (is : IsStepOf places t i step) where
  stands : (v : ℕ) → v < length places → Contains (values_touched_by i t) v → StandsIn places step v
  stands v within touched = rw (slice_get-get_or places v nowhere within) ((is.pages (place_of places v).page).1 (v, touched, refl))

pub FitsTrace-from_place : (instrs : List Instr) (page : ℕ) (places : List Place) (trace : List Step) → IsSound instrs → ArePlaces instrs page places → AreSteps instrs places trace → FitsTrace instrs places trace
FitsTrace-from_place instrs page places trace sound are steps = record {
  count = steps.count;
  each = λ t. go t (slice_get instrs t) (slice_get trace t) refl (sound.each t) (steps.each t);
} where
  go : (t : ℕ) (a : Option Instr) (b : Option Step) → slice_get instrs t ≡ a → IfSome a (IsSoundAt instrs t) → IfSome a (λ i. IfSome b (IsStepOf places t i)) → IfSome a (λ i. IfSome b (FindsValues places t i))
  go t None b at ok h = tt
  go t (Some i) None at ok h = tt
  go t (Some i) (Some step) at ok h =
      let in_places : t < length places = omega (arith, slice_get_within instrs t i at, are.count) in
      record {
        taken = λ k d l.
            let long = length-take (arity_of i.op) i.args in
            let below : k < arity_of i.op = omega (arith, l, long) in
            let in_args : k < length i.args = omega (arith, l, long) in
            let same = get_or-take (arity_of i.op) i.args k d below ∙ get_or_default i.args k d 0 in_args in
            let earlier = (ok.1 k below).0 in
            stands places t i step h (get_or (args_of i) k d) (omega (arith, same, earlier, in_places)) (Contains-append_left (args_of i) (if has_result i.op then t ∷ [] else []) (get_or (args_of i) k d) (All-contains_itself (args_of i) k d l));
        defined = λ has. stands places t i step h t in_places (Contains-append_right (args_of i) (if has_result i.op then t ∷ [] else []) t (own (has_result i.op) has));
      }
    where
      own : (b : Bool) → b ≡ true → Contains (if b then t ∷ [] else []) t
      own true e = All-contains_itself (t ∷ []) 0 t (omega arith)
      own false e = absurd (false≢true e)
