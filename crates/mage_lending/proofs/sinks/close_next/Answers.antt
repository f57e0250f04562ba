use Rattle.std.proofs.Common.{Ok, Err}
use Rattle.mage_lending.proofs.Closing.{closes_next}
use Rattle.mage_lending.proofs.sinks.close_next.Goals as goal

pub returns-in-Ok-clause-closed : goal.returns-in-Ok-clause-closed
returns-in-Ok-clause-closed g c = λ before names sinks long so.
    closes_next before (g.D.Desk.tells c.args.desk.now) (g.D.Desk.tells c.close_out-this.new.self) names sinks c.args.name.now (g.D.Output.Sink.tells c.args.sink) long
    (Ok c.in-Ok.field-0) c.close_out-this.result (rw c.in-Ok.is at so) c.close_out-this.ensures.closed

pub returns-in-Err-clause-closed : goal.returns-in-Err-clause-closed
returns-in-Err-clause-closed g c = λ before names sinks long so.
    closes_next before (g.D.Desk.tells c.args.desk.now) (g.D.Desk.tells c.close_out-this.new.self) names sinks c.args.name.now (g.D.Output.Sink.tells c.args.sink) long
    (Err c.in-Err.field-0) c.close_out-this.result (rw c.in-Err.is at so) c.close_out-this.ensures.closed
