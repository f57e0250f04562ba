-- The end of a joint run doesn't depend on its turns.
use Rattle.std.proofs.Common.{◌≡◌, ℕ, List, None}
use Rattle.mage_instr.specs.declared.directive.MemProgram.{MemProgram}
use Rattle.mage_directives.specs.Directives.{IsMemProgram}
use Rattle.mage_verify.specs.Faults.{fault_of}
use Rattle.mage_network.specs.Together.{Joint}
use Rattle.mage_network.proofs.Meeting.{orders_same}
use Rattle.mage_driver.specs.Rules.{Rules}
use Rattle.mage_steps.specs.Core.{joint_after, core_act, core_at_first}
use Rattle.mage_steps.specs.Laws.{EndsInJoint}
use Rattle.mage_verified_runs.specs.Turns.{verified_turns}
use Rattle.mage_verified_runs.proofs.Ending.{verified_ends}

pub joint_agrees : {W : Type 0} (rules : Rules W) (plan : MemProgram) (drivers : ℕ → rules.State) → IsMemProgram plan → fault_of plan ≡ None →
    (turns : List Joint) (n : ℕ) → EndsInJoint rules plan drivers turns n →
    joint_after rules plan drivers turns n ≡ joint_after rules plan drivers (verified_turns plan.workers) n
joint_agrees rules plan drivers fine none turns n ends =
    orders_same (core_act rules plan) (core_at_first rules plan drivers) (verified_turns plan.workers) turns n
    (verified_ends rules plan drivers fine none n) ends
