use Rattle.mage_file.proofs.LengthLaws.{fits}
use Rattle.mage_planner.proofs.upgrade.renamed.Goals as goal

pub returns-in-Ok-rehome-clause-short : goal.returns-in-Ok-rehome-clause-short
returns-in-Ok-rehome-clause-short c =
    fits c.args.program c.in-Ok-rehome.renamed c.requires.fields c.requires.short c.in-Ok-rehome.ensures.fields.counted
    (c.in-Ok-rehome.ensures.counts c.args.program c.in-Ok.ensures.parts)
