use Rattle.mage_planner.proofs.WritingLemmas.{performs_files}
use Rattle.mage_planner.specs.Work.{dealt_by}
use Rattle.mage_planner.proofs.labels.deal_labels.Goals as goal

pub returns-clause-performs : goal.returns-clause-performs
returns-clause-performs g c =
    performs_files (dealt_by c.args.dealing.now).files c.write_labels.result (g.D.Desk.tells c.args.desk.now) (g.D.Desk.tells c.write_labels.new.desk) c.write_labels.ensures.writes
