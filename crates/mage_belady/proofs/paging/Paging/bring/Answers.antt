use Rattle.std.proofs.Common.{rules, ◌≡◌, ◌<◌, ◌≤◌, length, nat_lt, true, false, refl, ◌∙◌, ap, arith, lt-ltb, le-ltb}
use Rattle.std.proofs.lemmas.Result.{IfOk-weaker}
use Rattle.mage_instr.specs.Trace.{pages_of}
use Rattle.mage_belady.specs.declared.paging.Paging.{Paging}
use Rattle.mage_belady.specs.Uses.{IsLast}
use Rattle.mage_belady.proofs.StepPages.{in_step}
use Rattle.mage_belady.proofs.Moved.{length-dirty}
use Rattle.mage_belady.proofs.Keeping.{Brings-free, Brings-full, some_listed, last-within, some_unless, at_some}
use Rattle.mage_belady.proofs.paging.Paging.bring.Goals as goal

pub unwrap-last-requires : goal.unwrap-last-requires
unwrap-last-requires g c =
    let four : length c.args.step.pages ≡ 4 = search rules in
    let needed = in_step c.args.step c.requires.step
    (omega (arith, four, c.requires.step.0)) c.args.k c.requires.within in
    let kept = c.requires.kept.1 in
    let size = ap length kept.dirty ∙ length-dirty c.requires.kept.0.held in
    let full : c.args.frames ≤ length c.args.self.now.dirty.items = search rules in
    some_unless c.take_greatest.result _ c.take_greatest.ensures.none
    (some_listed c.args.frames
    (pages_of c.args.step) c.requires.kept.0 _ c.requires.few needed c.args.self.now kept
    c.requires.kept.2 (omega (arith, size, full)))

pub take_over-requires : goal.take_over-requires
take_over-requires g c =
    let four : length c.args.step.pages ≡ 4 = search rules in
    let needed = in_step c.args.step c.requires.step
    (omega (arith, four, c.requires.step.0)) c.args.k c.requires.within in
    let is : IsLast c.args.self.now.uses c.unwrap-last.result =
    at_some c.take_greatest.result c.unwrap-last.result _ c.unwrap-last.ensures
    c.take_greatest.ensures.last in
    last-within c.args.frames
    (pages_of c.args.step) c.requires.kept.0 _ c.requires.few needed c.args.self.now
    c.requires.kept.1 c.requires.kept.2 c.unwrap-last.result is

pub returns-then-len-frames-clause-brings : goal.returns-then-len-frames-clause-brings
returns-then-len-frames-clause-brings g c =
    let four : length c.args.step.pages ≡ 4 = search rules in
    let needed = in_step c.args.step c.requires.step
    (omega (arith, four, c.requires.step.0)) c.args.k c.requires.within in
    let some : length c.args.self.now.dirty.items < c.args.frames = search rules in
    let mid : Paging =
    record {
      list = c.args.self.now.list;
      dirty = c.args.self.now.dirty;
      uses =
          c.args.self.now.uses;
      seen = c.note.new.seen;
    } in
    λ m kept missing.
    let size = ap length kept.dirty ∙ length-dirty m.held in
    let room : nat_lt (length m.held) c.args.frames
    ≡ true = lt-ltb (length m.held) c.args.frames (omega (arith, size, some)) in
    IfOk-weaker c.take_free.result _ _
    (λ frame takes. Brings-free c.args.frames
    (pages_of c.args.step) m _ c.requires.few needed c.args.self.now kept missing
    mid c.take_free.new.self c.in_ok-again.again frame refl refl c.in_ok-again.ensures.seen
    c.in_ok-again.ensures.again room (λ n q. refl) takes) c.take_free.ensures

pub returns-else-len-frames-clause-brings : goal.returns-else-len-frames-clause-brings
returns-else-len-frames-clause-brings g c =
    let four : length c.args.step.pages ≡ 4 = search rules in
    let needed = in_step c.args.step c.requires.step
    (omega (arith, four, c.requires.step.0)) c.args.k c.requires.within in
    let full : c.args.frames ≤ length c.args.self.now.dirty.items = search rules in
    let is : IsLast c.args.self.now.uses c.unwrap-last.result =
    at_some c.take_greatest.result c.unwrap-last.result _ c.unwrap-last.ensures
    c.take_greatest.ensures.last in
    let removed =
    at_some c.take_greatest.result c.unwrap-last.result _ c.unwrap-last.ensures
    c.take_greatest.ensures.removed in
    let mid : Paging =
    record {
      list = c.args.self.now.list;
      dirty = c.args.self.now.dirty;
      uses =
          c.take_greatest.new.self;
      seen = c.note.new.seen;
    } in
    λ m kept missing.
    let size = ap length kept.dirty ∙ length-dirty m.held in
    let room : nat_lt (length m.held) c.args.frames
    ≡ false = le-ltb (length m.held) c.args.frames (omega (arith, size, full)) in
    IfOk-weaker c.take_over.result _ _
    (λ frame takes. Brings-full c.args.frames
    (pages_of c.args.step) m _ c.requires.few needed c.args.self.now kept missing
    c.unwrap-last.result is
    mid c.take_over.new.self c.in_ok-again.again frame refl refl c.in_ok-again.ensures.seen
    c.in_ok-again.ensures.again room removed takes) c.take_over.ensures
