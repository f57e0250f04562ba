-- A run in plain.
use Rattle.std.specs.Prelude.{ℕ, ◌+◌, Bool, false, List, [], ◌∷◌, map, Vec, if◌then◌else◌}
use Rattle.std.specs.Global.{Global}
use Rattle.mage_base.specs.Store.{StoreTold}
use Rattle.mage_instr.specs.declared.directive.Directive.{Directive}
use Rattle.mage_instr.specs.declared.directive.Directive.TheVariants as entry
use Rattle.mage_driver.specs.declared.standing.Standing.TheVariants as standing
use Rattle.mage_meaning.specs.Given.{Given}
use Rattle.mage_plain.specs.Plain.{PlainMoment}
use Rattle.mage_plain_runs.specs.Plainly.{is_output}
use Rattle.mage_verify.specs.Parts.{WorkerPart}
use Rattle.mage_core.specs.declared.fault.RunFault.{RunFault}
use Rattle.mage_core.specs.declared.fault.RunFault.TheVariants as fault
use Rattle.mage_solo.specs.Stores.{HasBroken, HasDamaged}

-- what some vectors hold
abbrev pub lists_of : List (Vec ℕ Global) → List (List ℕ)
lists_of vectors = map (λ v. v.items) vectors

-- the inputs of both parties, a list for each worker
abbrev pub given_by : (garbler evaluator : List (Vec ℕ Global)) → Given
given_by garbler evaluator = record { garbler = lists_of garbler; evaluator = lists_of evaluator }

-- Why a run in plain stopped: a store failed, or brought back another page than it was given. No driver ever stops.
abbrev pub PlainStops : List WorkerPart → (before after : List (List StoreTold)) → RunFault → Type 0
PlainStops parts before after (fault.Store worker) = HasBroken parts before after worker
PlainStops parts before after (fault.Driver worker f) = ⊥
PlainStops parts before after (fault.Damaged worker damage) = HasDamaged parts before after worker damage
PlainStops parts before after fault.Memory = Unit {0}

-- whether a directive puts a value out
abbrev pub puts_out : Directive → Bool
puts_out (entry.Do job) = is_output job.op
puts_out (entry.Fresh frame page) = false
puts_out (entry.IssueIn slot page) = false
puts_out (entry.FinishIn slot frame) = false
puts_out (entry.IssueOut slot frame page) = false
puts_out (entry.FinishOut slot) = false

-- how many values some directives put out
abbrev pub outputs_done : List Directive → ℕ
outputs_done [] = 0
outputs_done (directive ∷ directives) = (if puts_out directive then 1 else 0) + outputs_done directives

-- the driver of a part on these inputs, with room for what the part puts out
abbrev pub opening : WorkerPart → (garbler evaluator : List ℕ) → PlainMoment
opening part garbler evaluator = record {
  state = record {
    garbler = garbler;
    evaluator = evaluator;
    outputs = [];
    room = outputs_done part.directives;
    ands = 0;
  };
  standing = standing.Running;
}

-- the same of each part, in order
abbrev pub openings : List WorkerPart → (garbler evaluator : List (List ℕ)) → List PlainMoment
openings (part ∷ parts) (own ∷ garbler) (other ∷ evaluator) = opening part own other ∷ openings parts garbler evaluator
openings _ _ _ = []

-- what each driver has put out
abbrev pub outputs_kept : List PlainMoment → List (List ℕ)
outputs_kept drivers = map (λ driver. driver.state.outputs) drivers
