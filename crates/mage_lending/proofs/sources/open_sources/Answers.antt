use Rattle.std.proofs.Common.{List, String, length, map, ap, ◌∙◌}
use Rattle.std.specs.Global.{Global}
use Rattle.mage_lending.specs.declared.sources.WorkerSources.{WorkerSources}
use Rattle.mage_lending.specs.Names.{worker_files}
use Rattle.mage_lending.proofs.Opening.{named_count}
use Rattle.mage_lending.proofs.Reading.{none_have_failed, read_counted}
use Rattle.mage_lending.proofs.sources.open_sources.Goals as goal

pub close_sources-requires-after_bounds : goal.close_sources-requires-after_bounds
close_sources-requires-after_bounds g c κs within =
    let opened = c.open_each.new.opened in
    ap (λ (l : List (String Global)). length l) c.as_slice.ensures.value ∙ named_count c.args.prefix.now opened.names.items (length opened.sources.items) c.open_each.ensures.names

pub returns-in-Err-clause-cause : goal.returns-in-Err-clause-cause
returns-in-Err-clause-cause g c =
    let opened = c.open_each.new.opened in
    read_counted (Unit {0}) (WorkerSources g.row.D-Input.Denot) (g.D.Desk.tells c.args.desk.now).faults (g.D.Desk.tells c.open_each.new.desk).faults
    (g.D.Desk.tells c.close_sources.new.desk).faults c.in-Err.error c.in-Err.ensures.cause
    (c.close_sources.ensures.quiet (none_have_failed (g.D.Desk.tells c.args.desk.now) (worker_files c.args.prefix.now 0 (length opened.sources.items))
    (map g.D.Input.Source.tells opened.sources.items) c.open_each.ensures.sources))

pub returns-in-Ok-open_each-clause-count : goal.returns-in-Ok-open_each-clause-count
returns-in-Ok-open_each-clause-count g c =
    let opened = c.open_each.new.opened in
    let all = c.in-Ok-open_each.ensures.all in
    (named_count c.args.prefix.now opened.names.items (length opened.sources.items) c.open_each.ensures.names ∙ all, all)
