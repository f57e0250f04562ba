use Rattle.std.proofs.Common.{◌≡◌, ◌≤◌, ◌-◌, [], ◌++◌, length, take}
use Rattle.std.specs.Prelude.{unwrap_or, IsTrue}
use Rattle.mage_eval.specs.Reading.{tells_left}
use Rattle.mage_eval.proofs.filling.fill.Given as goal

abbrev pub invariant-loop-now : goal.invariant-loop-now
invariant-loop-now g l = record {
  told : tells_left (g.R.Source.tells l.source) ≡ tells_left (g.R.Source.tells l.initial.source);
  within : l.now ≤ length l.buffer;
  same : IsTrue (tells_left (g.R.Source.tells l.initial.source)) → take l.now l.buffer ++ unwrap_or (g.R.Source.tells l.source).left []
      ≡ take l.ready l.initial.buffer ++ unwrap_or (g.R.Source.tells l.initial.source).left [];
  faults : (g.R.Source.tells l.source).faults ≡ (g.R.Source.tells l.initial.source).faults;
  steady : (g.R.Source.tells l.source).steady ≡ (g.R.Source.tells l.initial.source).steady;
}

abbrev pub decreases-loop-now : goal.decreases-loop-now
decreases-loop-now g l = l.due - l.now
