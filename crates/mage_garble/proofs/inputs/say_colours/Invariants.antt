use Rattle.std.proofs.Common.{◌≡◌, ◌≤◌, ◌+◌, ◌-◌, drop, length, map}
use Rattle.mage_streams.specs.Garbling.{colour_of}
use Rattle.mage_garble.specs.Sending.{most_waiting, with_waiting}
use Rattle.mage_garble.proofs.inputs.say_colours.Given as goal

abbrev pub invariant-loop-wire : goal.invariant-loop-wire
invariant-loop-wire g l = record {
  fits : length l.out.sending.waiting + (length l.wires - l.wire-index) ≤ most_waiting;
  said : record l.out { sending = with_waiting l.out.sending (map colour_of (drop l.wire-index l.wires)) }
      ≡ record l.initial.out { sending = with_waiting l.initial.out.sending (map colour_of l.wires) };
}
