use Rattle.std.proofs.Common.{◌≡◌, ◌≤◌, ◌++◌, drop, All}
use Rattle.mage_instr.specs.Inputs.{widths_in}
use Rattle.mage_instr.proofs.inputs.widths_of.Given as goal

abbrev pub invariant-loop-instr : goal.invariant-loop-instr
invariant-loop-instr l = record {
  widths : l.own.items ++ widths_in l.whose (drop l.instr-index l.instrs) ≡ widths_in l.whose l.instrs;
  in_range : All (λ width. (1 ≤ width) × (width ≤ 128)) l.own.items;
}
