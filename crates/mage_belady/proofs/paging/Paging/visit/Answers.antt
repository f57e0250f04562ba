use Rattle.std.proofs.Common.{rules, ◌≡◌, length, sym, ◌∙◌, arith}
use Rattle.mage_instr.specs.Trace.{pages_of}
use Rattle.mage_belady.proofs.StepPages.{in_step}
use Rattle.mage_belady.proofs.Keeping.{Brings-found}
use Rattle.mage_belady.proofs.paging.Paging.visit.Goals as goal

pub returns-in-Some-clause-brings : goal.returns-in-Some-clause-brings
returns-in-Some-clause-brings g c =
    let four : length c.args.step.pages ≡ 4 = search rules in
    let needed = in_step c.args.step c.requires.step
    (omega (arith, four, c.requires.step.0)) c.args.k c.requires.within in
    λ m kept is. Brings-found c.args.frames
    (pages_of c.args.step) m _ c.requires.few needed c.args.self.now kept c.in-Some.frame
    (sym c.in-Some.is ∙ is)
