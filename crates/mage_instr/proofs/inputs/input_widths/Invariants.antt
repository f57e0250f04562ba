use Rattle.std.proofs.Common.{◌≡◌, ◌≤◌, ◌++◌, drop, map, All}
use Rattle.mage_instr.specs.Inputs.{widths_in}
use Rattle.mage_instr.proofs.inputs.input_widths.Given as goal

abbrev pub invariant-loop-instrs : goal.invariant-loop-instrs
invariant-loop-instrs l = record {
  widths : map (λ own. own.items) l.widths.items ++ map (widths_in l.party) (drop l.instrs-index l.program.workers) ≡ map (widths_in l.party) l.program.workers;
  in_range : All (λ own. All (λ width. (1 ≤ width) × (width ≤ 128)) own.items) l.widths.items;
}
