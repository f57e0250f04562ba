-- So many frames are made, and nothing stands in them.
use Rattle.std.proofs.Common.{◌≡◌, map, replicate}
use Rattle.mage_carry.specs.State.{nothing}
use Rattle.mage_carry.specs.Views.{content_of}
use Rattle.mage_carry.proofs.walk.empty_frames.Given as goal

abbrev pub invariant-loop-frame : goal.invariant-loop-frame
invariant-loop-frame l = map content_of l.frames.items ≡ replicate l._frame nothing
