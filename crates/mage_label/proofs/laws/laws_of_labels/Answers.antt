use Rattle.mage_label.proofs.LabelLemmas.{IsWhole-digest_label, IsWhole-hash_of, IsWhole-offset_of, IsWhole-xor, lsb-offset_of, lsb-xor, xor_associative, xor_blank, xor_cancels, xor_commutative, xor_inverse}
use Rattle.mage_label.proofs.laws.laws_of_labels.Goals as goal

pub returns-clause-associative : goal.returns-clause-associative
returns-clause-associative c = xor_associative

pub returns-clause-commutative : goal.returns-clause-commutative
returns-clause-commutative c = xor_commutative

pub returns-clause-neutral : goal.returns-clause-neutral
returns-clause-neutral c = xor_blank

pub returns-clause-cancels : goal.returns-clause-cancels
returns-clause-cancels c = xor_cancels

pub returns-clause-self_inverse : goal.returns-clause-self_inverse
returns-clause-self_inverse c = xor_inverse

pub returns-clause-lowest_bit : goal.returns-clause-lowest_bit
returns-clause-lowest_bit c = lsb-xor

pub returns-clause-odd : goal.returns-clause-odd
returns-clause-odd c = lsb-offset_of

pub returns-clause-whole_xor : goal.returns-clause-whole_xor
returns-clause-whole_xor c = IsWhole-xor

pub returns-clause-whole_digest : goal.returns-clause-whole_digest
returns-clause-whole_digest c = IsWhole-digest_label

pub returns-clause-whole_offset : goal.returns-clause-whole_offset
returns-clause-whole_offset c = IsWhole-offset_of

pub returns-clause-whole_hash : goal.returns-clause-whole_hash
returns-clause-whole_hash c = IsWhole-hash_of
