use Rattle.mage_bits.proofs.ModularLaws.{arithmetic-lt, bitwise-lt, tests-lt, shifts-lt, mod_pow-lt, add_mod-sub_mod, division-lt, counts-lt}
use Rattle.mage_bits.proofs.laws.laws_of_modular_arithmetic.Goals as goal

pub returns-clause-arithmetic : goal.returns-clause-arithmetic
returns-clause-arithmetic c = arithmetic-lt

pub returns-clause-bitwise : goal.returns-clause-bitwise
returns-clause-bitwise c = bitwise-lt

pub returns-clause-tests : goal.returns-clause-tests
returns-clause-tests c = tests-lt

pub returns-clause-shifts : goal.returns-clause-shifts
returns-clause-shifts c = shifts-lt

pub returns-clause-resized : goal.returns-clause-resized
returns-clause-resized c = mod_pow-lt

pub returns-clause-difference : goal.returns-clause-difference
returns-clause-difference c = add_mod-sub_mod

pub returns-clause-division : goal.returns-clause-division
returns-clause-division c = division-lt

pub returns-clause-counts : goal.returns-clause-counts
returns-clause-counts c = counts-lt
