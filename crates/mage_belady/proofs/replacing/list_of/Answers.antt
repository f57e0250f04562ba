use Rattle.std.proofs.Common.{◌<◌, length, get_or, [], refl, arith}
use Rattle.mage_instr.specs.declared.instr.Instr.{Instr}
use Rattle.mage_instr.specs.declared.instr.Step.{Step}
use Rattle.mage_instr.specs.declared.op.Op.TheVariants as op
use Rattle.mage_belady.specs.declared.paging.Paging.{Paging}
use Rattle.mage_belady.specs.Kept.{served}
use Rattle.mage_belady.proofs.Scans.{IsStep-at}
use Rattle.mage_belady.proofs.Serving.{step_fits, next_is, FindsValues-at}
use Rattle.mage_belady.proofs.Stages.{looking_past, Stage-none, Stage-more, Keeps-before, page_uses-more}
use Rattle.mage_belady.proofs.replacing.list_of.Goals as goal

pub loop-t-init : goal.loop-t-init
loop-t-init g c = record {
  stage = Stage-none c.args.frames c.args.instrs.now c.args.places.now c.args.trace.now
      c.new-paging.result c.new-paging.ensures.list c.new-paging.ensures.dirty
      c.new-paging.ensures.uses c.new-paging.ensures.seen;
  counted = omega arith;
}

pub serve-requires-clause-step : goal.serve-requires-clause-step
serve-requires-clause-step g c =
    IsStep-at c.args.trace.now c.requires.trace.each c.loop-t.t _
    (omega (arith, c.requires.places.count, c.loop-t-test.true))

pub serve-requires-clause-few : goal.serve-requires-clause-few
serve-requires-clause-few g c =
    step_fits c.args.frames c.args.places.now c.args.trace.now c.args.nexts.now c.loop-t.t _
    c.requires.trace c.requires.nexts c.requires.fit
    (omega (arith, c.requires.places.count, c.loop-t-test.true))

pub serve-requires-clause-kept : goal.serve-requires-clause-kept
serve-requires-clause-kept g c =
    let d : Step = record { pages = []; count = 0 } in
    let i : Instr = record { op = op.Input; width = 0; args = []; imm = 0 } in
    let within : c.loop-t.t < length c.args.trace.now =
    omega (arith, c.requires.places.count, c.loop-t-test.true) in
    let stage = c.loop-t.invariant.stage in (
      looking_past c.args.trace.now c.loop-t.t stage.held,
      Keeps-before c.args.frames
          c.args.instrs.now c.args.places.now c.args.trace.now c.loop-t.t i d c.loop-t-test.true
          within stage.held c.loop-t.paging stage.kept,
    )

pub job_in-job-requires-clause-step : goal.job_in-job-requires-clause-step
job_in-job-requires-clause-step g c =
    IsStep-at c.args.trace.now c.requires.trace.each c.loop-t.t _
    (omega (arith, c.requires.places.count, c.loop-t-test.true))

pub job_in-job-requires-clause-finds : goal.job_in-job-requires-clause-finds
job_in-job-requires-clause-finds g c =
    FindsValues-at c.args.instrs.now c.args.places.now c.args.trace.now c.loop-t.t _ _
    c.requires.places c.loop-t-test.true

pub put_result-requires-clause-step : goal.put_result-requires-clause-step
put_result-requires-clause-step g c =
    IsStep-at c.args.trace.now c.requires.trace.each c.loop-t.t _
    (omega (arith, c.requires.places.count, c.loop-t-test.true))

pub put_result-requires-clause-finds : goal.put_result-requires-clause-finds
put_result-requires-clause-finds g c =
    FindsValues-at c.args.instrs.now c.args.places.now c.args.trace.now c.loop-t.t _ _
    c.requires.places c.loop-t-test.true

pub put_result-requires-clause-inside : goal.put_result-requires-clause-inside
put_result-requires-clause-inside g c =
    let d : Step = record { pages = []; count = 0 } in
    let i : Instr = record { op = op.Input; width = 0; args = []; imm = 0 } in
    let trace = c.args.trace.now in
    let t = c.loop-t.t in
    let within : c.loop-t.t < length c.args.trace.now =
    omega (arith, c.requires.places.count, c.loop-t-test.true) in
    let stage = c.loop-t.invariant.stage in
    let before = Keeps-before c.args.frames c.args.instrs.now c.args.places.now trace t i d
    c.loop-t-test.true within stage.held c.loop-t.paging stage.kept in
    let s = c.in_ok-at.ensures.served (looking_past trace t stage.held) before
    (λ k below. next_is trace c.args.nexts.now t k d c.requires.trace c.requires.nexts within
    below) in
    s.inside

pub loop-t-preserved : goal.loop-t-preserved
loop-t-preserved g c =
    let d : Step = record { pages = []; count = 0 } in
    let i : Instr = record { op = op.Input; width = 0; args = []; imm = 0 } in
    let trace = c.args.trace.now in
    let t = c.loop-t.t in
    let within : c.loop-t.t < length c.args.trace.now =
    omega (arith, c.requires.places.count, c.loop-t-test.true) in
    let kept = c.loop-t.invariant in
    let stage = kept.stage in
    let before = Keeps-before c.args.frames c.args.instrs.now c.args.places.now trace t i d
    c.loop-t-test.true within stage.held c.loop-t.paging stage.kept in
    let s = c.in_ok-at.ensures.served (looking_past trace t stage.held) before
    (λ k below. next_is trace c.args.nexts.now t k d c.requires.trace c.requires.nexts within
    below) in
    let brought =
    (served c.args.frames (get_or trace t d) (looking_past trace t stage.held)).held in
    let new : Paging =
    record {
      list = c.push.new.self;
      dirty = c.put_result.new.dirty;
      uses =
          c.serve.new.self.uses;
      seen = c.serve.new.self.seen;
    } in
    let counted = c.in_ok-at.ensures.counted in
    let more = page_uses-more c.args.frames c.args.instrs.now c.args.places.now trace t i d
    c.loop-t-test.true within in
    record {
      stage = Stage-more c.args.frames c.args.instrs.now c.args.places.now trace t i d
          c.loop-t-test.true within c.loop-t.paging c.serve.new.self new c.in_ok-at.at
          c.job_in-job.result stage s
          (c.job_in-job.ensures brought s.stand) c.in_ok-push.ensures.items
          (c.put_result.ensures brought s.stand s.kept.dirty) refl refl;
      counted = (let was = kept.counted in omega (arith, counted, more, was));
    }
