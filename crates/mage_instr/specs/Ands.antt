-- How many ANDs the circuit of each opcode has.
use Rattle.std.specs.Prelude.{◌+◌, ◌-◌, ◌*◌, ◌/◌, ◌^◌, ℕ, zero, suc, nat_lt, if◌then◌else◌}
use Rattle.mage_instr.specs.declared.op.Op.{Op}
use Rattle.mage_instr.specs.declared.op.Op.TheVariants as op

-- the greatest k up to this many with 2 ^ k at most w, which is at least 1
abbrev pub log_up_to : ℕ → ℕ → ℕ
log_up_to zero w = 0
log_up_to (suc k) w = if nat_lt w (2 ^ suc k) then log_up_to k w else suc k

-- the greatest k with 2 ^ k at most w, for w from 1 to 255
abbrev pub log_of : ℕ → ℕ
log_of w = log_up_to 7 w

-- counting the bits of w: with 2 ^ k at most w and w below 2 ^ (k + 1)
abbrev pub ands_of_count : (w k : ℕ) → ℕ
ands_of_count w k = (w + 1) * k + 2 - 2 ^ (k + 1)

-- how many ANDs an instruction of width w is made of
abbrev pub and_count_of : Op → (w : ℕ) → ℕ
and_count_of op.Input w = 0
and_count_of op.Const w = 0
and_count_of op.Output w = 0
and_count_of op.Add w = w - 1
and_count_of op.Sub w = w - 1
and_count_of op.Mul w = w * (w + 1) / 2 + (w - 1) * (w - 2) / 2
and_count_of op.And w = w
and_count_of op.Or w = w
and_count_of op.Xor w = 0
and_count_of op.Not w = 0
and_count_of op.Eq w = w - 1
and_count_of op.Lt w = w
and_count_of op.Mux w = w
and_count_of op.Shl w = 0
and_count_of op.Shr w = 0
and_count_of op.Resize w = 0
and_count_of op.Send w = 0
and_count_of op.Recv w = 0
and_count_of op.Div w = w * (2 * w + 1)
and_count_of op.Rem w = w * (2 * w + 1)
and_count_of op.Count w = ands_of_count w (log_of w)
and_count_of op.Min w = 2 * w
and_count_of op.Max w = 2 * w
