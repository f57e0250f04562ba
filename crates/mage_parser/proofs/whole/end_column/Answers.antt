use Rattle.std.proofs.Common.{◌≡◌, ◌<◌, ◌+◌, ◌==◌, length, get_or, take, true, false, sym, ◌∙◌, arith}
use Rattle.std.proofs.lemmas.Bool.Decides.{nat_tests}
use Rattle.mage_lex.specs.Places.{column_after}
use Rattle.mage_parser.proofs.Columns.{column_start, column_new, column_on}
use Rattle.mage_parser.proofs.whole.end_column.Goals as goal
use Rattle.mage_parser.proofs.whole.end_column.Goals.{then-byte-eq10, else-byte-eq10}

pub loop-byte-init : goal.loop-byte-init
loop-byte-init c = record { counted = sym column_start; bound = omega arith }

pub loop-byte-preserved : goal.loop-byte-preserved
loop-byte-preserved c =
    let within : c.loop-byte.byte-index < length c.args.text.now = omega arith in
    elim c.if-byte-eq10.branch [
      | then-byte-eq10 w ↦
          let e : (get_or c.args.text.now c.loop-byte.byte-index 0 == 10) ≡ true = grind (arith, nat_tests, w.if-byte-eq10.true) in
          record { counted = w.column-is ∙ sym (column_new c.args.text.now c.loop-byte.byte-index within e); bound = omega arith }
      | else-byte-eq10 w ↦
          let e : (get_or c.args.text.now c.loop-byte.byte-index 0 == 10) ≡ false = grind (arith, nat_tests, w.if-byte-eq10.false) in
          let one_on : c.loop-byte.column + 1 ≡ column_after (take (c.loop-byte.byte-index + 1) c.args.text.now) = omega (arith, column_on c.args.text.now c.loop-byte.byte-index within e, c.loop-byte.invariant.counted) in
          record { counted = w.column-is ∙ one_on; bound = omega arith }
    ]
