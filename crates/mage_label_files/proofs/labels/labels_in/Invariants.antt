use Rattle.std.proofs.Common.{◌≡◌, ◌-◌, ◌*◌, ◌++◌, drop}
use Rattle.mage_label_files.specs.Labels.{labels_from}
use Rattle.mage_label_files.proofs.labels.labels_in.Given as goal

abbrev pub invariant-loop-k : goal.invariant-loop-k
invariant-loop-k l = l.labels.items ++ labels_from (l.count - l.k) (drop (16 * l.k) l.bytes) ≡ labels_from l.count l.bytes
