use Rattle.std.proofs.Common.{sym, subst, ◌∷◌}
use Rattle.mage_instr.specs.declared.directive.Directive.{Directive}
use Rattle.mage_verify.specs.Lefts.{IsTable}
use Rattle.mage_verify.proofs.leaving.step_back.Goals as goal

pub returns-in-Do-clause-table : goal.returns-in-Do-clause-table
returns-in-Do-clause-table c = λ rest table. subst (λ (d : Directive). IsTable c.use_values.new.left (d ∷ rest)) (sym c.in-Do.is) (c.use_values.ensures.table rest table)
