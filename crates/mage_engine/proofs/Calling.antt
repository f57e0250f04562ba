-- What is asked of a driver is the same with all frames that hold the same.
use Rattle.std.proofs.Common.{◌≡◌, ℕ, Bool, true, false, cond, List, [], ◌∷◌, Option, None, Some, refl, ap}
use Rattle.mage_instr.specs.declared.directive.Directive.{Directive}
use Rattle.mage_instr.specs.declared.directive.Directive.TheVariants as entry
use Rattle.mage_instr.specs.declared.op.Op.{Op}
use Rattle.mage_instr.specs.declared.op.Op.TheVariants as op
use Rattle.mage_instr.specs.declared.replaced.Job.{Job}
use Rattle.mage_network.specs.Workers.{Moves, Stops}
use Rattle.mage_network.specs.Slots.{Acts}
use Rattle.mage_driver.specs.Rules.{Rules}
use Rattle.mage_driver.specs.Calls.{Call, Finish, call_of}
use Rattle.mage_driver.specs.Circuits.{Made}
use Rattle.mage_steps.specs.Engines.{act_of_op, doing_at, finishes}
use Rattle.mage_engine.specs.Seen.{Seen, directive_at, is_finished, engine_with, HoldSame}
use Rattle.mage_engine.specs.Ready.{IsAt}
use Rattle.mage_engine.specs.Steps.{calls_of, next_with}
use Rattle.mage_engine.proofs.Using.{circuit_same}

module _ {W : Type 0} (rules : Rules W) (old : Seen rules.State) (sound : old.fault ≡ None) (bank : ℕ → List ℕ) (same : HoldSame old bank) where
  of_op : (job : Job) → IsAt old (entry.Do job) → (o : Op) → job.op ≡ o →
      calls_of rules (Acts (act_of_op rules o job (engine_with old bank))) ≡ calls_of rules (Acts (act_of_op rules o job (engine_with old old.bank)))
  of_op job at op.Send e = refl
  of_op job at op.Recv e = refl
  of_op job at _ e = ap (λ (m : Made rules.State W (List W)). m.calls) (circuit_same rules old job at bank same old.driver.state)

  of_directive : (o : Option Directive) → directive_at old ≡ o →
      calls_of rules (doing_at rules old.part.limits.page o (engine_with old bank)) ≡ calls_of rules (doing_at rules old.part.limits.page o (engine_with old old.bank))
  of_directive None e = go (is_finished old.driver.standing)
    where
      go : (b : Bool) → calls_of rules (Acts (cond b Stops (Moves (call_of rules old.driver.state Finish ∷ []) (finishes rules (engine_with old bank)))))
          ≡ calls_of rules (Acts (cond b Stops (Moves (call_of rules old.driver.state Finish ∷ []) (finishes rules (engine_with old old.bank)))))
      go true = refl
      go false = refl
  of_directive (Some (entry.Fresh frame page)) e = refl
  of_directive (Some (entry.IssueIn slot page)) e = refl
  of_directive (Some (entry.FinishIn slot frame)) e = refl
  of_directive (Some (entry.IssueOut slot frame page)) e = refl
  of_directive (Some (entry.FinishOut slot)) e = refl
  of_directive (Some (entry.Do job)) e = of_op job (record { sound = sound; here = e }) job.op refl

  pub calls_same : calls_of rules (next_with rules old bank) ≡ calls_of rules (next_with rules old old.bank)
  calls_same = of_directive (directive_at old) refl
