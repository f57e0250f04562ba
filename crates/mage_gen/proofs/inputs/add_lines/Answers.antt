use Rattle.std.proofs.Common.{◌≡◌, ◌-◌, ◌+◌, ◌++◌, suc, rules, arith}
use Rattle.std.specs.String.{string_bytes}
use Rattle.mage_gen.specs.Generator.{input_lines, numbers_from, last_from}
use Rattle.mage_gen.proofs.Numbers.{one_line_more, last_one_later}
use Rattle.mage_gen.proofs.inputs.add_lines.Goals as goal

pub loop-preserved : goal.loop-preserved
loop-preserved c =
    let left = c.args.count - c.loop.counter in
    let less = c.args.count - (c.loop.counter + 1) in
    let turn : left ≡ suc less = omega (arith, c.loop-test.true) in
    let whole = string_bytes c.args.text.now ++ input_lines (numbers_from c.args.number c.args.count) in
    record {
      lines = one_line_more (string_bytes c.loop.text) (string_bytes c.writeln.new.self) whole c.loop.value c.next_number-value.result left less turn
          c.next_number-value.ensures (search rules) c.loop.invariant.lines;
      last = last_one_later c.loop.value c.next_number-value.result left less (last_from c.args.number c.args.count) turn c.next_number-value.ensures
          c.loop.invariant.last;
    }
