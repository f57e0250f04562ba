use Rattle.std.proofs.Common.{◌≡◌, ◌++◌, ◌∷◌, [], arith}
use Rattle.std.proofs.lemmas.Grind.{common_steps}
use Rattle.std.proofs.lemmas.Result.{err_from_is_err_and}
use Rattle.mage_instr.specs.declared.directive.Directive.{Directive}
use Rattle.mage_file.specs.Formats.{rest_of, read_all}
use Rattle.mage_file.specs.Grammar.{directive}
use Rattle.mage_file.proofs.Loops.{reads_on, reading_fails, reads_all}
use Rattle.mage_file.proofs.directives.list_of.Goals as goal

pub loop-preserved : goal.loop-preserved
loop-preserved c =
    let first = c.in_ok-first.first in
    let pushed : c.push.new.self ≡ c.loop.list ++ first ∷ [] = grind (arith, common_steps) in
    rw pushed (reads_on Directive (λ _. directive c.args.workers c.args.own) c.args.count c.loop.counter c.loop.list (rest_of c.loop.rest)
    (read_all (λ _. directive c.args.workers c.args.own) 0 c.args.count (rest_of c.args.left)) c.loop.invariant
    first (rest_of c.in_ok-first.after) c.loop-test.true c.in_ok-first.ensures)

pub returns-in_err-first : goal.returns-in_err-first
returns-in_err-first c =
    let p = err_from_is_err_and c.from_residual.result c.from_residual.ensures.1 in
    rw (p.1, p.2) (reading_fails Directive (λ _. directive c.args.workers c.args.own) c.args.count c.loop.counter c.loop.list (rest_of c.loop.rest)
    (read_all (λ _. directive c.args.workers c.args.own) 0 c.args.count (rest_of c.args.left)) c.loop.invariant
    c.in_err-first.field-0.0 c.loop-test.true c.in_err-first.ensures)

pub returns : goal.returns
returns c = reads_all Directive (λ _. directive c.args.workers c.args.own) c.args.count c.loop.counter c.loop.list (rest_of c.loop.rest)
    (read_all (λ _. directive c.args.workers c.args.own) 0 c.args.count (rest_of c.args.left)) c.loop.invariant c.loop-test.false
