use Rattle.std.proofs.Common.{◌≡◌, ◌-◌, ◌++◌, ◌∷◌, [], ◌∙◌, ap, List, Result, Ok, arith}
use Rattle.mage_instr.specs.declared.directive.MemProgram.{MemProgram}
use Rattle.std.proofs.lemmas.Grind.{common_steps}
use Rattle.std.proofs.lemmas.Result.{err_from_is_err_and}
use Rattle.mage_file.specs.declared.fault.FileFault.{FileFault}
use Rattle.mage_file.specs.declared.section.Section.{Section}
use Rattle.mage_file.specs.Formats.{Rest, after, rest_of, read_all}
use Rattle.mage_file.specs.Grammar.{section}
use Rattle.mage_file.proofs.Loops.{nothing_before, reads_on, reading_fails, reads_all, split_on, program_is, program_fails, makes}
use Rattle.mage_file.proofs.reading.sections.Goals as goal

pub loop-own-init : goal.loop-own-init
loop-own-init c =
    let all : c.args.workers - 0 ≡ c.args.workers = omega arith in (
      [],
      record { pages = c.new-stores.ensures; directives = c.new-lists.ensures },
      rw all (nothing_before (read_all (section c.args.version c.args.workers) 0 c.args.workers (rest_of c.args.left))),
    )

pub loop-own-preserved : goal.loop-own-preserved
loop-own-preserved c =
    let first = c.in_ok-section.section in
    let i = c.loop-own.invariant in
    let stored : c.push.new.self ≡ c.loop-own.stores ++ first.pages ∷ [] = grind (arith, common_steps) in
    let listed : c.push-in-loop-own.new.self ≡ c.loop-own.lists ++ first.directives ∷ [] = grind (arith, common_steps) in
    rw (stored, listed) (
      i.0 ++ first ∷ [],
      split_on i.0 c.loop-own.stores c.loop-own.lists first i.1,
      reads_on Section (section c.args.version c.args.workers) c.args.workers c.loop-own.own i.0 (rest_of c.loop-own.rest)
          (read_all (section c.args.version c.args.workers) 0 c.args.workers (rest_of c.args.left)) i.2
          first (rest_of c.in_ok-section.after) c.loop-own-test.true c.in_ok-section.ensures,
    )

pub returns-in_err-section : goal.returns-in_err-section
returns-in_err-section c =
    let i = c.loop-own.invariant in
    let p = err_from_is_err_and c.from_residual.result c.from_residual.ensures.1 in
    rw (p.1, p.2) (program_fails c.args.limits c.in_err-section.field-0.0 (read_all (section c.args.version c.args.workers) 0 c.args.workers (rest_of c.args.left))
    (reading_fails Section (section c.args.version c.args.workers) c.args.workers c.loop-own.own i.0 (rest_of c.loop-own.rest)
    (read_all (section c.args.version c.args.workers) 0 c.args.workers (rest_of c.args.left)) i.2
    c.in_err-section.field-0.0 c.loop-own-test.true c.in_err-section.ensures))

pub returns : goal.returns
returns c =
    let i = c.loop-own.invariant in
    let total = read_all (section c.args.version c.args.workers) 0 c.args.workers (rest_of c.args.left) in
    let all : total ≡ Ok (i.0, rest_of c.loop-own.rest) =
    reads_all Section (section c.args.version c.args.workers) c.args.workers c.loop-own.own i.0 (rest_of c.loop-own.rest) total i.2 c.loop-own-test.false in
    ap (λ (z : Result (List Section × Rest) FileFault). after z (makes c.args.limits)) all
    ∙ ap (λ (m : MemProgram). Ok (m, rest_of c.loop-own.rest)) (program_is c.args.limits i.0 c.loop-own.stores c.loop-own.lists i.1)
