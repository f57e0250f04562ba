use Rattle.std.proofs.Common.{arith}
use Rattle.mage_place.proofs.TooWideLemmas.{found_here}
use Rattle.mage_place.proofs.SoundFacts.{no_instr}
use Rattle.mage_place.proofs.too_wide.page_tight.Goals as goal

pub returns-in-Some : goal.returns-in-Some
returns-in-Some c = found_here c.loop-t.t c.args.page c.args.instrs.now no_instr c.in-Some.class _ (omega arith) c.in-Some.ensures c.loop-t.invariant
