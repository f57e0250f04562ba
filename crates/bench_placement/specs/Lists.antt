-- What the lists of the bench have.
use Rattle.std.specs.Prelude.{◌≡◌, ◌<◌, ℕ, List, slice_get, IfSome, IsSomeAnd}
use Rattle.mage_instr.specs.declared.instr.Instr.{Instr}
use Rattle.mage_instr.specs.declared.op.Op.TheVariants as op
use Rattle.mage_instr.specs.Sound.{Defines}

-- each instruction defines a value of this width
abbrev pub DefineWidth : List Instr → (width : ℕ) → Type 0
DefineWidth instrs width = (t : ℕ) → IfSome (slice_get instrs t) (λ i. Defines i width)

-- each of the first n instructions is an input
abbrev pub AreInputs : List Instr → (n : ℕ) → Type 0
AreInputs instrs n = (t : ℕ) → t < n → IsSomeAnd (slice_get instrs t) (λ i. i.op ≡ op.Input)
