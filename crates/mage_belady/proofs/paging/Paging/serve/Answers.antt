use Rattle.std.proofs.Common.{rules, ◌≡◌, length, refl, arith}
use Rattle.mage_belady.specs.declared.paging.Paging.{Paging}
use Rattle.mage_belady.specs.Rule.{resident, frame_of}
use Rattle.mage_belady.specs.Kept.{outside, served}
use Rattle.mage_instr.specs.Trace.{pages_of}
use Rattle.mage_belady.proofs.Walking.{Keeps-taken_out, AreFound-taken_out, IsServed-put_in, IsServed-from}
use Rattle.mage_belady.proofs.paging.Paging.serve.Goals as goal

pub bring_missing-requires-clause-kept : goal.bring_missing-requires-clause-kept
bring_missing-requires-clause-kept g c =
    let four : length c.args.step.pages ≡ 4 = search rules in
    let few = c.requires.step.0 in
    let old : Paging = c.args.self.now in
    let mid : Paging =
    record {
      list = c.args.self.now.list;
      dirty = c.args.self.now.dirty;
      uses =
          c.take_out-found.new.uses;
      seen = c.args.self.now.seen;
    } in
    let m = c.requires.kept.0 in
    let kept = c.requires.kept.1 in (
      m,
      Keeps-taken_out c.args.frames c.args.step c.args.t m old mid kept refl
          (λ q. refl) c.take_out-found.ensures.gone,
      AreFound-taken_out c.args.frames c.args.step c.args.t m old mid kept c.take_out-found.result
          c.requires.step (omega (arith, four, few)) c.take_out-found.ensures.found,
    )

pub returns-clause-served : goal.returns-clause-served
returns-clause-served g c =
    let four : length c.args.step.pages ≡ 4 = search rules in
    let few = c.requires.step.0 in
    let old : Paging = c.args.self.now in
    let mid : Paging =
    record {
      list = c.args.self.now.list;
      dirty = c.args.self.now.dirty;
      uses =
          c.take_out-found.new.uses;
      seen = c.args.self.now.seen;
    } in
    let new : Paging =
    record {
      list = c.bring_missing.new.self.list;
      dirty =
          c.bring_missing.new.self.dirty;
      uses = c.put_in.new.uses;
      seen =
          c.bring_missing.new.self.seen;
    } in
    λ m kept beside.
    let out = Keeps-taken_out c.args.frames c.args.step c.args.t m old mid kept refl
    (λ q. refl) c.take_out-found.ensures.gone in
    let found = AreFound-taken_out c.args.frames c.args.step c.args.t m old mid kept
    c.take_out-found.result c.requires.step
    (omega (arith, four, few)) c.take_out-found.ensures.found in
    let s = IsServed-from c.args.frames c.args.step m
    (outside (pages_of c.args.step)) old mid c.bring_missing.new.self c.in_ok-at.at refl
    (c.in_ok-at.ensures.served m out found) in
    IsServed-put_in c.args.frames c.args.step m old c.bring_missing.new.self new c.in_ok-at.at s
    refl refl (λ q. refl)
    (c.in_ok-put_in.ensures.listed m.next
    (λ page. frame_of page (resident (served c.args.frames c.args.step m).held)) beside s.stand)
