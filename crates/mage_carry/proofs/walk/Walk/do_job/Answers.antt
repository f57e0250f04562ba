use Rattle.std.proofs.Common.{◌≡◌, List, Some, map, sym, ◌∙◌, ap}
use Rattle.std.specs.Prelude.{slice_get}
use Rattle.std.proofs.lemmas.Bool.{and_from}
use Rattle.mage_carry.specs.declared.held.Held.{Held}
use Rattle.mage_carry.specs.Steps.{finds_all}
use Rattle.mage_carry.specs.Views.{content_of, state_of}
use Rattle.mage_carry.proofs.Narrow.{result_narrow, width_ok_at}
use Rattle.mage_carry.proofs.Turns.{job_goes, read_copied}
use Rattle.mage_carry.proofs.walk.Walk.do_job.Goals as goal

pub result_put-requires-clause-width : goal.result_put-requires-clause-width
result_put-requires-clause-width c =
    let i = c.in-Some.i in
    let is : slice_get c.args.instrs.now c.args.self.now.next ≡ Some i = read_copied c.args.instrs.now c.args.self.now.next c.get.result i c.get.ensures.lookup (sym c.copied.ensures ∙ c.in-Some.is) in
    result_narrow i.op i.width i.imm (width_ok_at c.args.instrs.now c.args.self.now.next i c.requires.sound is)

pub returns : goal.returns
unfolding state_of
returns c =
    let s = c.args.self.now in
    let i = c.in-Some.i in
    let is : slice_get c.args.instrs.now s.next ≡ Some i = read_copied c.args.instrs.now c.args.self.now.next c.get.result i c.get.ensures.lookup (sym c.copied.ensures ∙ c.in-Some.is) in
    let finds = c.finds_all.ensures ∙ ap (λ (xs : List Held). finds_all c.args.wires (map content_of xs) i c.args.job) c.as_slice.ensures.value in
    job_goes c.args.instrs.now c.args.wires c.args.job (state_of s) i c.in_ok-goes.goes (state_of c.result_put.new.self) is
    (and_from _ _ (sym c.is_job_of.ensures ∙ c.if-not-is_job_of.false) (sym finds ∙ c.if-not-finds_all.false))
    c.in_ok-goes.ensures.goes
