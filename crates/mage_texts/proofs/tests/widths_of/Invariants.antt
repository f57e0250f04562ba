use Rattle.std.specs.List.{All}
use Rattle.mage_texts.specs.InputText.{IsWidth}
use Rattle.mage_texts.proofs.tests.widths_of.Given as goal

abbrev pub invariant-loop-worker : goal.invariant-loop-worker
invariant-loop-worker l = All (λ own. All IsWidth own.items) l.widths.items
