use Rattle.std.proofs.Common.{◌≡◌, ◌+◌, ◌≤◌, take}
use Rattle.mage_lex.specs.Places.{column_after}
use Rattle.mage_parser.proofs.whole.end_column.Given as goal

abbrev pub invariant-loop-byte : goal.invariant-loop-byte
invariant-loop-byte l = record {
  counted : l.column ≡ column_after (take l.byte-index l.text);
  bound : l.column ≤ l.byte-index + 1;
}
