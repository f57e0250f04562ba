use Rattle.std.proofs.Common.{◌*◌, false, replicate, sym, ap, ◌∙◌, subst}
use Rattle.mage_instr.specs.declared.replaced.Limits.{Limits}
use Rattle.mage_bank.specs.Bank.{contents}
use Rattle.mage_engine.specs.Seen.{Seen}
use Rattle.mage_engine.specs.Ready.{IsReady}
use Rattle.mage_engine.proofs.Opening.{opened_so, ready_first}
use Rattle.mage_engine.proofs.course.Course.make.Goals as goal

pub invariant_of-result : goal.invariant_of-result
invariant_of-result g c =
    let rules = g.D.Driver.rules in
    let driver = g.D.Driver.tells c.args.driver in
    let port = g.P.SwapPort.tells c.args.port in
    let bytes = g.met.D.Driver.bytes in
    let safe = c.directives-directives.ensures.safe in
    let frames = c.in-Ok.ensures.frames ∙ ap (λ (l : Limits). replicate l.frames (replicate (l.page * g.D.Driver.WIRE_BYTES) 0)) c.limits.ensures in
    let spare = c.in-Ok.ensures.spare ∙ ap (λ (l : Limits). l.page * g.D.Driver.WIRE_BYTES) c.limits.ensures ∙ ap (λ n. c.args.part.limits.page * n) (sym bytes) in (
      subst (λ (m : Seen rules.State). IsReady rules.wire_bytes false m) (sym (opened_so rules g.D.Driver.WIRE_BYTES bytes c.args.part driver port safe (contents c.in-Ok.room.frames.items) frames))
          (ready_first rules g.D.Driver.WIRE_BYTES bytes c.args.part driver port safe c.directives-directives.ensures.runs c.requires.running c.requires.port),
      spare,
    )

pub returns-in-Ok-clause-opened : goal.returns-in-Ok-clause-opened
returns-in-Ok-clause-opened g c =
    let rules = g.D.Driver.rules in
    let driver = g.D.Driver.tells c.args.driver in
    let port = g.P.SwapPort.tells c.args.port in
    let frames = c.in-Ok.ensures.frames ∙ ap (λ (l : Limits). replicate l.frames (replicate (l.page * g.D.Driver.WIRE_BYTES) 0)) c.limits.ensures in
    opened_so rules g.D.Driver.WIRE_BYTES g.met.D.Driver.bytes c.args.part driver port c.directives-directives.ensures.safe (contents c.in-Ok.room.frames.items) frames
