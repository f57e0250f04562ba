use Rattle.std.proofs.Common.{◌≡◌, ◌+◌, ◌^◌, ◌<◌, drop}
use Rattle.mage_bits.specs.Bits.{number, number_from}
use Rattle.mage_bits.proofs.digits.number_of.Given as goal

-- the sum so far and that of the digits that are left are the number
abbrev pub invariant-loop-place : goal.invariant-loop-place
invariant-loop-place l = (l.sum < 2 ^ l.place) × (l.sum + number_from l.place (drop l.place l.bits) ≡ number l.bits)
