use Rattle.std.proofs.Common.{◌+◌, ◌∙◌, drop, arith}
use Rattle.mage_instr.proofs.InputLemmas.{width_at, widths-more}
use Rattle.mage_instr.proofs.inputs.widths_of.Goals as goal

pub loop-instr-preserved : goal.loop-instr-preserved
loop-instr-preserved c = record {
  widths = c.in_ok-add_width.ensures.in_front (drop (c.loop-instr.instr-index + 1) c.args.instrs.now) ∙ widths-more _ _ c.args.instrs.now c.loop-instr.instr-index _ (omega arith) ∙ c.loop-instr.invariant.widths;
  in_range = c.in_ok-add_width.ensures.in_range (width_at c.args.instrs.now c.loop-instr.instr-index _ c.requires (omega arith)) c.loop-instr.invariant.in_range;
}
