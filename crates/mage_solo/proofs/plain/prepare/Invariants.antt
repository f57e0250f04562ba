use Rattle.std.proofs.Common.{◌≡◌, ◌++◌, length, drop}
use Rattle.mage_solo.specs.Plain.{lists_of, openings}
use Rattle.mage_solo.proofs.plain.prepare.Given as goal

abbrev pub invariant-loop-worker : goal.invariant-loop-worker
invariant-loop-worker l = record {
  made : l.drivers.items ++ openings (drop l.worker l.parts) (drop l.worker (lists_of l.garbler.items)) (drop l.worker (lists_of l.evaluator.items))
      ≡ openings l.parts (lists_of l.fn.garbler.items) (lists_of l.fn.evaluator.items);
  garbler : length l.garbler.items ≡ length l.parts;
  evaluator : length l.evaluator.items ≡ length l.parts;
}
