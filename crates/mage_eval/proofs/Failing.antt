-- A call that stops where the source fails, or where the stream isn't what is due.
use Rattle.std.proofs.Common.{◌≡◌, ◌⊎◌, ℕ, List, [], ◌∷◌, false, Bool, Option, Some, IsTrue, refl, sym, ◌∙◌, inl, inr, subst, arith}
use Rattle.mage_instr.specs.declared.fault.DriverFault.{DriverFault}
use Rattle.mage_instr.specs.declared.fault.DriverFault.TheVariants as fault
use Rattle.mage_label.specs.declared.labels.Label.{Label}
use Rattle.mage_driver.specs.declared.standing.Standing.TheVariants as standing
use Rattle.mage_driver.specs.Rules.{Begins}
use Rattle.mage_driver.specs.Calls.{Told, Ask, Fell, Output, RoseFor, call_of, reached}
use Rattle.mage_eval.specs.Reading.{Incoming, Fails}
use Rattle.mage_eval.specs.Rule.{Evaluating, eval_rules}
use Rattle.mage_eval.specs.Lawful.{evaluating_is_lawful}

cause : (f : DriverFault) (wrong : Option DriverFault) (before after : Incoming) → IsTrue before.told → Fails wrong before after f → ((f ≡ fault.Source) × (before.steady ≡ false)) ⊎ (wrong ≡ Some f)
cause fault.Source wrong before after told fails = inl (refl, fails.0)
cause fault.Sink wrong before after told fails = absurd fails
cause (fault.Short at) wrong before after told fails = inr (fails.0 told)
cause (fault.Long at) wrong before after told fails = inr (fails.0 told)
cause (fault.Colour at) wrong before after told fails = inr (fails.0 told)

counted : (f : DriverFault) (wrong : Option DriverFault) (before after : Incoming) → Fails wrong before after f → RoseFor f before.faults after.faults
counted fault.Source wrong before after fails = (fails.1, fails.2)
counted fault.Sink wrong before after fails = absurd fails
counted (fault.Short at) wrong before after fails = omega (arith, fails.1)
counted (fault.Long at) wrong before after fails = omega (arith, fails.1)
counted (fault.Colour at) wrong before after fails = omega (arith, fails.1)

pub fell : (ask : Ask Label) (before after : Told Evaluating) (from to : Incoming) (f : DriverFault) →
    Fails (reached eval_rules before.state ask).wrong from to f →
    before.state.steady ≡ from.steady → before.faults ≡ from.faults → after.faults ≡ to.faults → before.told ≡ from.told → after.told ≡ before.told → after.standing ≡ standing.Failed f →
    after.state.evaluator.outputs ≡ before.state.evaluator.outputs →
    Begins before.state.evaluator.outputs (reached eval_rules before.state ask).evaluator.outputs →
    Fell eval_rules (call_of eval_rules before.state ask ∷ []) before f after
fell ask before after from to f fails steady faults faults' told told' failed outputs behind =
    record {
      stopped = λ t. inl (record {
        outputs = outputs;
        behind = behind;
        cause = elim (cause f (reached eval_rules before.state ask).wrong from to (subst (λ (b : Bool). IsTrue b) told t) fails) [ inl source ↦ inl (source.0, steady ∙ source.1) | inr due ↦ inr due ];
      });
      failed = failed;
      counted = subst (λ (n : ℕ). RoseFor f n after.faults) (sym faults) (subst (λ (n : ℕ). RoseFor f from.faults n) (sym faults')
          (counted f (reached eval_rules before.state ask).wrong from to fails));
      told = told';
    }

-- an output that stops
pub fell_output : (wires : List Label) (before after : Told Evaluating) (from to : Incoming) (f : DriverFault) →
    Fails (reached eval_rules before.state (Output wires)).wrong from to f →
    before.state.steady ≡ from.steady → before.faults ≡ from.faults → after.faults ≡ to.faults → before.told ≡ from.told → after.told ≡ before.told → after.standing ≡ standing.Failed f →
    after.state.evaluator.outputs ≡ before.state.evaluator.outputs → Fell eval_rules (call_of eval_rules before.state (Output wires) ∷ []) before f after
fell_output wires before after from to f fails steady faults faults' told told' failed outputs =
    fell (Output wires) before after from to f fails steady faults faults' told told' failed outputs ((evaluating_is_lawful.output_grows before.state wires).outputs)
