use Rattle.std.proofs.Common.{subst}
use Rattle.mage_verify.specs.Runs.{Runs}
use Rattle.mage_verify.proofs.Running.{Runs-from_none}
use Rattle.mage_verify.proofs.part.Part.directives.Goals as goal

pub returns-clause-runs : goal.returns-clause-runs
returns-clause-runs c = subst Runs c.self.view_is (Runs-from_none _ c.self.invariant.0.none)
