use Rattle.mage_circuit_laws.proofs.Operations.{const_right, add_right, sub_right, mul_right, and_right, or_right, xor_right, not_right, eq_right, lt_right, mux_right, shl_right, shr_right, resize_right, div_right, rem_right, count_right, min_right, max_right, all_right}
use Rattle.mage_circuit_laws.proofs.laws.circuits_are_right.Goals as goal

pub returns-clause-constant : goal.returns-clause-constant
returns-clause-constant c = const_right

pub returns-clause-add : goal.returns-clause-add
returns-clause-add c = add_right

pub returns-clause-sub : goal.returns-clause-sub
returns-clause-sub c = sub_right

pub returns-clause-mul : goal.returns-clause-mul
returns-clause-mul c = mul_right

pub returns-clause-and : goal.returns-clause-and
returns-clause-and c = and_right

pub returns-clause-or : goal.returns-clause-or
returns-clause-or c = or_right

pub returns-clause-xor : goal.returns-clause-xor
returns-clause-xor c = xor_right

pub returns-clause-not : goal.returns-clause-not
returns-clause-not c = not_right

pub returns-clause-eq : goal.returns-clause-eq
returns-clause-eq c = eq_right

pub returns-clause-lt : goal.returns-clause-lt
returns-clause-lt c = lt_right

pub returns-clause-mux : goal.returns-clause-mux
returns-clause-mux c = mux_right

pub returns-clause-shl : goal.returns-clause-shl
returns-clause-shl c = shl_right

pub returns-clause-shr : goal.returns-clause-shr
returns-clause-shr c = shr_right

pub returns-clause-resize : goal.returns-clause-resize
returns-clause-resize c = resize_right

pub returns-clause-div : goal.returns-clause-div
returns-clause-div c = div_right

pub returns-clause-rem : goal.returns-clause-rem
returns-clause-rem c = rem_right

pub returns-clause-count : goal.returns-clause-count
returns-clause-count c = count_right

pub returns-clause-min : goal.returns-clause-min
returns-clause-min c = min_right

pub returns-clause-max : goal.returns-clause-max
returns-clause-max c = max_right

pub returns-clause-every : goal.returns-clause-every
returns-clause-every c = all_right
