use Rattle.std.proofs.Common.{ap, ◌+◌}
use Rattle.mage_bank.specs.Bank.{contents}
use Rattle.mage_port.specs.Port.{PortTold}
use Rattle.mage_engine.specs.Seen.{course_seen}
use Rattle.mage_engine.proofs.Issuing.{can_read, issued_in, stands_in}
use Rattle.mage_engine.proofs.course.Course.issue_in.Goals as goal

pub ask_read-requires : goal.ask_read-requires
ask_read-requires g c =
    let inside = c.self.inside in
    let at = rw (← c.self.view_is) at c.requires in
    let old = course_seen g.D.Driver.tells g.P.SwapPort.tells (record {
      part = inside.part;
      driver = inside.driver;
      port = inside.port;
      place = inside.place;
      wire = inside.wire;
      frames = contents inside.room.frames.items;
      fault = inside.fault;
    }) in
    can_read g.D.Driver.rules g.D.Driver.rules.wire_bytes inside.finished old c.args.slot c.args.page at c.self.invariant.0

pub invariant_of-self : goal.invariant_of-self
invariant_of-self g c =
    let inside = c.self.inside in
    let at = rw (← c.self.view_is) at c.requires in
    let old = course_seen g.D.Driver.tells g.P.SwapPort.tells (record {
      part = inside.part;
      driver = inside.driver;
      port = inside.port;
      place = inside.place;
      wire = inside.wire;
      frames = contents inside.room.frames.items;
      fault = inside.fault;
    }) in (
      stands_in g.D.Driver.rules g.D.Driver.rules.wire_bytes inside.finished old c.args.slot c.args.page at c.self.invariant.0 _
          (ap (λ (p : PortTold). record old { port = p; place = inside.place + 1 }) c.ask_read.ensures),
      c.self.invariant.1,
    )

pub returns : goal.returns
returns g c =
    let inside = c.self.inside in
    let at = rw (← c.self.view_is) at c.requires in
    let old = course_seen g.D.Driver.tells g.P.SwapPort.tells (record {
      part = inside.part;
      driver = inside.driver;
      port = inside.port;
      place = inside.place;
      wire = inside.wire;
      frames = contents inside.room.frames.items;
      fault = inside.fault;
    }) in
    λ link. rw (← c.self.view_is)
    (issued_in g.D.Driver.rules g.D.Driver.rules.wire_bytes inside.finished old c.args.slot c.args.page at c.self.invariant.0 _
    (ap (λ (p : PortTold). record old { port = p; place = inside.place + 1 }) c.ask_read.ensures) link)
