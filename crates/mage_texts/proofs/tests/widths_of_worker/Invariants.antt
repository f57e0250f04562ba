use Rattle.std.specs.List.{All}
use Rattle.mage_texts.specs.InputText.{IsWidth}
use Rattle.mage_texts.proofs.tests.widths_of_worker.Given as goal

abbrev pub invariant-loop-width : goal.invariant-loop-width
invariant-loop-width l = All IsWidth l.widths.items
