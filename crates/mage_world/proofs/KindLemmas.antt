-- The kind of a worker's next turn, and a turn that is asked for by its kind.
use Rattle.std.proofs.Common.{◌≡◌, ◌≢◌, ℕ, Bool, true, false, cond, [], ◌∷◌, Option, Some, None, Result, Ok, Err, refl, sym, ap, ◌∙◌}
use Rattle.std.specs.Prelude.{slice_get}
use Rattle.mage_instr.specs.declared.directive.Directive.{Directive}
use Rattle.mage_instr.specs.declared.directive.Directive.TheVariants as entry
use Rattle.mage_instr.specs.declared.op.Op.{Op}
use Rattle.mage_instr.specs.declared.op.Op.TheVariants as op
use Rattle.mage_instr.specs.declared.replaced.Job.{Job}
use Rattle.mage_driver.specs.Rules.{Rules}
use Rattle.mage_driver.specs.Calls.{Finish, call_of}
use Rattle.mage_network.specs.Workers.{Moves, Stops}
use Rattle.mage_steps.specs.Engines.{Engine, Acting, act_of_op, doing_of, doing_at, finishes}
use Rattle.mage_verify.specs.Parts.{WorkerPart}
use Rattle.mage_world.specs.declared.event.Kind.{Kind}
use Rattle.mage_world.specs.declared.event.ApplyError.{ApplyError}
use Rattle.mage_world.specs.declared.event.ApplyError.TheVariants as error
use Rattle.mage_world.specs.Seats.{Seat}
use Rattle.mage_world.specs.Turns.{Wires, kind_of, kind_of_act, kind_of_op, kind_at, next_of, Turns, KindTurns}

module _ {W : Type 0} (rules : Rules W) where
  op_kind : (o : Op) (job : Job) (engine : Engine rules.State) → kind_of_act (act_of_op rules o job engine) ≡ Some (kind_of_op o)
  op_kind op.Send job engine = refl
  op_kind op.Recv job engine = refl
  op_kind op.Input job engine = refl
  op_kind op.Const job engine = refl
  op_kind op.Output job engine = refl
  op_kind op.Add job engine = refl
  op_kind op.Sub job engine = refl
  op_kind op.Mul job engine = refl
  op_kind op.And job engine = refl
  op_kind op.Or job engine = refl
  op_kind op.Xor job engine = refl
  op_kind op.Not job engine = refl
  op_kind op.Eq job engine = refl
  op_kind op.Lt job engine = refl
  op_kind op.Mux job engine = refl
  op_kind op.Shl job engine = refl
  op_kind op.Shr job engine = refl
  op_kind op.Resize job engine = refl
  op_kind op.Div job engine = refl
  op_kind op.Rem job engine = refl
  op_kind op.Count job engine = refl
  op_kind op.Min job engine = refl
  op_kind op.Max job engine = refl

  directive_kind : (page : ℕ) (x : Directive) (engine : Engine rules.State) (finished : Bool) → kind_of (doing_of rules page x engine) ≡ kind_at (Some x) finished
  directive_kind page (entry.Fresh frame fresh) engine finished = refl
  directive_kind page (entry.IssueIn slot stored) engine finished = refl
  directive_kind page (entry.FinishIn slot frame) engine finished = refl
  directive_kind page (entry.IssueOut slot frame stored) engine finished = refl
  directive_kind page (entry.FinishOut slot) engine finished = refl
  directive_kind page (entry.Do job) engine finished = op_kind job.op job engine

  end_kind : (b : Bool) (engine : Engine rules.State) →
      kind_of_act (cond {A = Acting rules} b Stops (Moves (call_of rules engine.driver Finish ∷ []) (finishes rules engine))) ≡ kind_at None b
  end_kind true engine = refl
  end_kind false engine = refl

  any_kind : (page : ℕ) (o : Option Directive) (engine : Engine rules.State) → kind_of (doing_at rules page o engine) ≡ kind_at o engine.is_finished
  any_kind page (Some x) engine = directive_kind page x engine engine.is_finished
  any_kind page None engine = end_kind engine.is_finished engine

module _ {W : Type 0} (rules : Rules W) (part : WorkerPart) (old new : Seat rules.State) (one : Kind) (capacity : ℕ) (before after : Wires) where
  pub kind_here : (o : Option Directive) → slice_get part.directives old.core.engine.place ≡ o →
      kind_of (next_of rules part old) ≡ kind_at o old.core.engine.is_finished
  kind_here o here = any_kind rules part.limits.page (slice_get part.directives old.core.engine.place) old.core.engine
      ∙ ap (λ (o : Option Directive). kind_at o old.core.engine.is_finished) here

  pub kind_turns : (result : Result (Unit {0}) ApplyError) → old.fault ≡ None → kind_of (next_of rules part old) ≡ Some one →
      Turns rules part capacity old new before after result → KindTurns rules part one capacity old new before after result
  kind_turns (Ok u) sound of turned = (record { sound = sound; of_kind = of; can = turned.can }, turned)
  kind_turns (Err error.NotEnabled) sound of turned =
      (λ enabled. let never : false ≡ true = sym turned.0 ∙ enabled.can in absurd cc, turned.1, turned.2)
  kind_turns (Err (error.Driver fault)) sound of turned = (record { sound = sound; of_kind = of; can = turned.can }, turned)

pub not_sound : {W : Type 0} (rules : Rules W) (part : WorkerPart) (old : Seat rules.State) (one : Kind) (capacity : ℕ) (wires : Wires) →
    old.fault ≢ None → KindTurns rules part one capacity old old wires wires (Err error.NotEnabled)
not_sound rules part old one capacity wires failed = (λ enabled. failed enabled.sound, refl, refl)

pub not_kind : {W : Type 0} (rules : Rules W) (part : WorkerPart) (old : Seat rules.State) (one : Kind) (capacity : ℕ) (wires : Wires) →
    kind_of (next_of rules part old) ≢ Some one → KindTurns rules part one capacity old old wires wires (Err error.NotEnabled)
not_kind rules part old one capacity wires other = (λ enabled. other enabled.of_kind, refl, refl)
