use Rattle.mage_halfgates.proofs.GateLemmas.{IsActive-and, IsActive-constant, IsActive-input, IsActive-not, IsActive-xor, IsOffset-offset_of, decoded_bit-active}
use Rattle.mage_halfgates.proofs.gates.laws_of_half_gates.Goals as goal

pub returns-clause-offset : goal.returns-clause-offset
returns-clause-offset c = IsOffset-offset_of

pub returns-clause-input : goal.returns-clause-input
returns-clause-input c = IsActive-input

pub returns-clause-constant : goal.returns-clause-constant
returns-clause-constant c = IsActive-constant

pub returns-clause-xor_gate : goal.returns-clause-xor_gate
returns-clause-xor_gate c = IsActive-xor

pub returns-clause-not_gate : goal.returns-clause-not_gate
returns-clause-not_gate c = IsActive-not

pub returns-clause-and_gate : goal.returns-clause-and_gate
returns-clause-and_gate c = IsActive-and

pub returns-clause-decoding : goal.returns-clause-decoding
returns-clause-decoding c = decoded_bit-active
