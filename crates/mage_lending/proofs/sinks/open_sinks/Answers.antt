use Rattle.std.proofs.Common.{List, String, length, map, sym, ap, subst, ◌∙◌}
use Rattle.std.specs.Global.{Global}
use Rattle.mage_lending.specs.declared.sinks.WorkerSinks.{WorkerSinks}
use Rattle.mage_lending.specs.Names.{spelled}
use Rattle.mage_lending.specs.Sinks.{HaveFiles, ClosesAll}
use Rattle.mage_lending.proofs.Opening.{named_count, there_again, stopped_opening, steady_still, no_fault_so}
use Rattle.mage_lending.proofs.sinks.open_sinks.Goals as goal

pub close_sinks-requires-clause-count : goal.close_sinks-requires-clause-count
close_sinks-requires-clause-count g c κs within =
    let opened = c.open_each.new.opened in
    ap (λ (l : List (String Global)). length l) c.as_slice.ensures.value ∙ named_count c.args.prefix.now opened.names.items (length opened.sinks.items) c.open_each.ensures.names

pub close_sinks-requires-clause-there : goal.close_sinks-requires-clause-there
close_sinks-requires-clause-there g c κs within =
    let o = c.open_each.ensures in
    let opened = c.open_each.new.opened in
    let there = there_again g.D.Output.Sink.tells (g.D.Desk.tells c.args.desk.now) (g.D.Desk.tells c.open_each.new.desk) (g.D.Desk.tells c.open_each.new.desk) c.args.prefix.now
    c.args.rooms.now opened.names.items opened.sinks.items o.sinks o.names o.rest in
    subst (λ (l : List (String Global)). HaveFiles (g.D.Desk.tells c.open_each.new.desk).files (spelled l)) (sym c.as_slice.ensures.value) there

pub returns-in-Ok-open_each-clause-there : goal.returns-in-Ok-open_each-clause-there
returns-in-Ok-open_each-clause-there g c =
    let o = c.open_each.ensures in
    let opened = c.open_each.new.opened in
    there_again g.D.Output.Sink.tells (g.D.Desk.tells c.args.desk.now) (g.D.Desk.tells c.open_each.new.desk) (g.D.Desk.tells c.open_each.new.desk) c.args.prefix.now
    c.args.rooms.now opened.names.items opened.sinks.items o.sinks o.names o.rest

pub returns-in-Ok-open_each-clause-count : goal.returns-in-Ok-open_each-clause-count
returns-in-Ok-open_each-clause-count g c =
    let opened = c.open_each.new.opened in
    let all = c.in-Ok-open_each.ensures.all in
    (named_count c.args.prefix.now opened.names.items (length opened.sinks.items) c.open_each.ensures.names ∙ all, all)

pub returns-in-Err-clause-steady : goal.returns-in-Err-clause-steady
returns-in-Err-clause-steady g c = λ calm.
    let o = c.open_each.ensures in
    let opened = c.open_each.new.opened in
    let none = c.in-Err.ensures.steady calm in (
      no_fault_so (Unit {0}) (WorkerSinks g.row.D-Output.Denot) c.in-Err.error none,
      steady_still g.D.Output.Sink.tells (g.D.Desk.tells c.args.desk.now) (g.D.Desk.tells c.open_each.new.desk) (g.D.Desk.tells c.close_sinks.new.desk) c.args.prefix.now
          c.args.rooms.now opened.names.items opened.sinks.items o.sinks o.names o.rest (Unit {0}) c.close_sinks.result c.in-Err.error calm none c.in-Err.ensures.cause
          c.close_sinks.ensures.steady c.close_sinks.ensures.quiet,
    )

pub returns-in-Err-clause-rest : goal.returns-in-Err-clause-rest
returns-in-Err-clause-rest g c =
    let o = c.open_each.ensures in
    let opened = c.open_each.new.opened in
    stopped_opening g.D.Output.Sink.tells (g.D.Desk.tells c.args.desk.now) (g.D.Desk.tells c.open_each.new.desk) (g.D.Desk.tells c.close_sinks.new.desk) c.args.prefix.now
    c.args.rooms.now opened.names.items opened.sinks.items o.sinks o.names o.rest c.close_sinks.result (length c.args.rooms.now) o.some
    (subst (λ (l : List (String Global)). ClosesAll (g.D.Desk.tells c.open_each.new.desk) (g.D.Desk.tells c.close_sinks.new.desk) (spelled l)
    (map g.D.Output.Sink.tells opened.sinks.items) c.close_sinks.result) c.as_slice.ensures.value c.close_sinks.ensures.closed)
