-- What a run in plain answers.
use Rattle.std.proofs.Common.{◌≡◌, ◌⊎◌, inl, inr, ℕ, List, None, Some, Ok, Err, Result, length, slice_get, refl, ◌∙◌}
use Rattle.std.specs.Prelude.{IfSome, IfOk, IfErr, OnOk}
use Rattle.mage_base.specs.declared.failure.Damage.{Damage}
use Rattle.mage_base.specs.Store.{StoreTold}
use Rattle.mage_driver.specs.Calls.{Told}
use Rattle.mage_verify.specs.Parts.{WorkerPart}
use Rattle.mage_core.specs.declared.fault.RunFault.{RunFault}
use Rattle.mage_core.specs.declared.fault.RunFault.TheVariants as fault
use Rattle.mage_core.specs.Results.{starts_of, ComesTo}
use Rattle.mage_core.specs.Steady.{IsNotOfStore, IsNotOfDriver}
use Rattle.mage_solo.specs.Stores.{AllSuffice}
use Rattle.mage_solo.specs.Plain.{PlainStops}
use Rattle.mage_solo.proofs.Lists.{Ones}
use Rattle.mage_solo.proofs.Workers.{broken_ones, damaged_ones, undamaged}

pub err_so : {T : Type 0} (P Q : RunFault → Type 0) (r : Result T RunFault) → ((f : RunFault) → P f → Q f) → IfErr r P → IfErr r Q
err_so P Q (Ok x) h e = tt
err_so P Q (Err f) h e = h f e

pub ok_so : {T : Type 0} (P Q : T → Type 0) (r : Result T RunFault) → ((x : T) → P x → Q x) → IfOk r P → IfOk r Q
ok_so P Q (Ok x) h e = h x e
ok_so P Q (Err f) h e = tt

pub on_ok : {T : Type 0} (P Q : Type 0) (r : Result T RunFault) → (P → Q) → OnOk r P → OnOk r Q
on_ok P Q (Ok x) h e = h e
on_ok P Q (Err f) h e = tt

pub ok_first : {T : Type 0} (P : Type 0) (Q : T → Type 0) (r : Result T RunFault) → IfOk r (λ x. P × Q x) → OnOk r P
ok_first P Q (Ok x) h = h.0
ok_first P Q (Err f) h = tt

pub either : {X : Type 0} {x y z : X} {Q : Type 0} → x ≡ y → (y ≡ z) ⊎ Q → (x ≡ z) ⊎ Q
either e (inl h) = inl (e ∙ h)
either e (inr h) = inr h

module _ {S : Type 0} (parts : List WorkerPart) (drivers now : List (Told S)) (before after : List (List StoreTold))
    (counted : length drivers ≡ length parts) (kept : length now ≡ length parts) (b : Ones before (length parts)) (a : Ones after (length parts)) where
  -- where the pages of a damaged store aren't told
  abbrev pub Untold : RunFault → Type 0
  Untold found = (w : ℕ) (damage : Damage) → Some found ≡ Some (fault.Damaged w damage) →
      IfSome (slice_get (starts_of parts drivers before) w) (λ start. start.store.pages ≡ None)

  pub plain_stops : (found : RunFault) → ComesTo (starts_of parts drivers before) now after (Some found) → Untold found → IsNotOfDriver (Some found) →
      PlainStops parts before after found
  plain_stops (fault.Store w) came untold no_driver = broken_ones parts drivers now before after counted kept b a w came
  plain_stops (fault.Driver w f) came untold no_driver = absurd no_driver
  plain_stops (fault.Damaged w damage) came untold no_driver = damaged_ones parts drivers now before after counted kept b a w damage came (untold w damage refl)
  plain_stops fault.Memory came untold no_driver = tt

  pub only_memory : AllSuffice parts before → (found : RunFault) → ComesTo (starts_of parts drivers before) now after (Some found) → Untold found →
      IsNotOfDriver (Some found) → IsNotOfStore (Some found) → found ≡ fault.Memory
  only_memory all (fault.Store w) came untold no_driver no_store = absurd no_store
  only_memory all (fault.Driver w f) came untold no_driver no_store = absurd no_driver
  only_memory all (fault.Damaged w damage) came untold no_driver no_store =
      absurd (undamaged parts drivers now before after counted kept b a all w damage came (untold w damage refl))
  only_memory all fault.Memory came untold no_driver no_store = refl
