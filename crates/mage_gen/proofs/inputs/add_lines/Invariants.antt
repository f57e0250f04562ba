use Rattle.std.proofs.Common.{◌≡◌, ◌++◌, ◌-◌}
use Rattle.std.specs.String.{string_bytes}
use Rattle.mage_gen.specs.Generator.{input_lines, numbers_from, last_from}
use Rattle.mage_gen.proofs.inputs.add_lines.Given as goal

-- the lines so far, in front of those of the numbers that are to come, are all, and the last number is that of all
abbrev pub invariant-loop : goal.invariant-loop
invariant-loop l = record {
  lines : string_bytes l.text ++ input_lines (numbers_from l.value (l.count - l.counter))
      ≡ string_bytes l.initial.text ++ input_lines (numbers_from l.number l.count);
  last : last_from l.value (l.count - l.counter) ≡ last_from l.number l.count;
}
