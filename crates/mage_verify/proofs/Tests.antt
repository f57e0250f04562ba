-- What the tests of a directive mean.
use Rattle.std.proofs.Common.{◌≡◌, ◌<◌, ◌||◌, ◌&&◌, ℕ, zero, suc, Bool, true, false, not, cond, Option, Some, None, is_some, refl, ap, arith, true≢false}
use Rattle.std.proofs.lemmas.Bool.{false≢true}
use Rattle.std.specs.Option.{option_or}
use Rattle.mage_instr.specs.declared.directive.Directive.{Directive}
use Rattle.mage_instr.specs.declared.replaced.Limits.{Limits}
use Rattle.mage_verify.specs.declared.slot.Slot.{Slot}
use Rattle.mage_verify.specs.declared.slot.Slot.TheVariants as does
use Rattle.mage_verify.specs.declared.fault.VerifyFault.{VerifyFault}
use Rattle.mage_verify.specs.declared.fault.VerifyFault.TheVariants as wrong
use Rattle.mage_verify.specs.Range.{is_in_range, has_page}
use Rattle.mage_verify.specs.Faults.{slot_is_right, page_is_right, fault_at}
use Rattle.mage_verify.specs.Tables.{IsFine}
use Rattle.mage_verify.specs.State.{State, is_in_flight, is_reading, is_writing, some_below}

-- a directive without a fault passes each test
pub record Passes (limits : Limits) (pages : ℕ) (state : State) (directive : Directive) : Type 0 where
  pub fine : IsFine limits state directive
  pub store : has_page pages directive ≡ true

pub Passes-from_none : (limits : Limits) (pages worker d : ℕ) (state : State) (directive : Directive) → fault_at limits pages worker d state directive ≡ None → Passes limits pages state directive
Passes-from_none limits pages worker d state directive h =
    go (is_in_range limits directive) (has_page pages directive) (slot_is_right state directive) (page_is_right limits.buffer state directive) refl refl refl refl h where
      wronged : {A : Type 0} (x : VerifyFault) → Some x ≡ None → A
      wronged x e = absurd (true≢false (ap is_some e))

      go : (a s b c : Bool) → is_in_range limits directive ≡ a → has_page pages directive ≡ s → slot_is_right state directive ≡ b → page_is_right limits.buffer state directive ≡ c
          → cond (not (a && s)) (Some (wrong.Range worker d)) (cond (not b) (Some (wrong.SlotState worker d)) (cond (not c) (Some (wrong.PageState worker d)) None)) ≡ None → Passes limits pages state directive
      go false s b c ea es eb ec e = wronged _ e
      go true false b c ea es eb ec e = wronged _ e
      go true true false c ea es eb ec e = wronged _ e
      go true true true false ea es eb ec e = wronged _ e
      go true true true true ea es eb ec e = record { fine = record { range = ea; slot = eb; page = ec }; store = es }

pub none_first : {X : Type 0} (a b : Option X) → option_or a b ≡ None → a ≡ None
none_first None b h = refl
none_first (Some x) b h = h

pub none_second : {X : Type 0} (a b : Option X) → option_or a b ≡ None → b ≡ None
none_second None b h = h
none_second (Some x) b h = absurd (true≢false (ap is_some h))

pub not_true : (b : Bool) → not b ≡ true → b ≡ false
not_true true h = absurd (false≢true h)
not_true false h = refl

pub idle_when : (slot : Slot) → is_in_flight slot ≡ false → slot ≡ does.Idle
idle_when does.Idle h = refl
idle_when (does.Reading page) h = absurd (true≢false h)
idle_when (does.Writing page) h = absurd (true≢false h)

pub reading_when : (slot : Slot) → is_reading slot ≡ true → (page : ℕ) × (slot ≡ does.Reading page)
reading_when does.Idle h = absurd (false≢true h)
reading_when (does.Reading page) h = (page, refl)
reading_when (does.Writing page) h = absurd (false≢true h)

pub writing_when : (slot : Slot) → is_writing slot ≡ true → (page : ℕ) × (slot ≡ does.Writing page)
writing_when does.Idle h = absurd (false≢true h)
writing_when (does.Reading page) h = absurd (false≢true h)
writing_when (does.Writing page) h = (page, refl)

or_false : (a b : Bool) → (a || b) ≡ false → (a ≡ false) × (b ≡ false)
or_false true b h = absurd (true≢false h)
or_false false b h = (refl, h)

-- where no number below n passes a test, none does
pub none_below : (n : ℕ) (test : ℕ → Bool) → some_below n test ≡ false → (k : ℕ) → k < n → test k ≡ false
none_below zero test h k l = absurd (omega arith)
none_below (suc n) test h zero l = (or_false (test 0) (some_below n (λ k. test (suc k))) h).0
none_below (suc n) test h (suc k) l = none_below n (λ k. test (suc k)) (or_false (test 0) (some_below n (λ k. test (suc k))) h).1 k (omega arith)
