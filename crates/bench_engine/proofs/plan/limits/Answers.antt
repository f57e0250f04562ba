use Rattle.std.proofs.Common.{refl, arith}
use Rattle.bench_engine.proofs.plan.limits.Goals as goal

pub returns : goal.returns
returns c = record {
  page = (10, omega arith, omega arith, refl);
  some_frame = omega arith;
  frames = omega arith;
  buffer = omega arith;
  ahead = omega arith;
  wires = omega arith;
}
