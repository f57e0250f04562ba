use Rattle.std.proofs.Common.{◌≡◌, ◌≤◌, ◌+◌, ◌-◌, ◌*◌, drop, length}
use Rattle.mage_bits.specs.Bits.{bits}
use Rattle.mage_streams.specs.Garbling.{active_labels, bytes_of}
use Rattle.mage_garble.specs.Sending.{most_waiting, with_waiting}
use Rattle.mage_garble.proofs.inputs.say_active.Given as goal

abbrev pub invariant-loop-zero : goal.invariant-loop-zero
invariant-loop-zero g l = record {
  fits : length l.out.sending.waiting + 16 * (length l.zeros - l.zero-index) ≤ most_waiting;
  said : record l.out { sending = with_waiting l.out.sending (bytes_of (active_labels l.offset (drop l.zero-index l.zeros) (bits l.left (length l.zeros - l.zero-index)))) }
      ≡ record l.initial.out { sending = with_waiting l.initial.out.sending (bytes_of (active_labels l.offset l.zeros (bits l.initial.left (length l.zeros)))) };
}
