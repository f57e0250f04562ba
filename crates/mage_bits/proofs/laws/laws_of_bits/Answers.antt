use Rattle.mage_bits.proofs.BitLaws.{number-bits, slice_get-bits, length-bits, number-lt, bits-number}
use Rattle.mage_bits.proofs.laws.laws_of_bits.Goals as goal

pub returns-clause-remainder : goal.returns-clause-remainder
returns-clause-remainder c = number-bits

pub returns-clause-place : goal.returns-clause-place
returns-clause-place c = slice_get-bits

pub returns-clause-count : goal.returns-clause-count
returns-clause-count c = length-bits

pub returns-clause-below : goal.returns-clause-below
returns-clause-below c = number-lt

pub returns-clause-back : goal.returns-clause-back
returns-clause-back c = bits-number
