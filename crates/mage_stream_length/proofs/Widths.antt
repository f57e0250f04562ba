-- The widths of instructions that can run.
use Rattle.std.proofs.Common.{◌≡◌, ◌≤◌, ◌<◌, ℕ, zero, suc, Some, List, [], ◌∷◌, length, slice_get, get_or, IfSome, refl, ap, arith}
use Rattle.std.specs.List.{All}
use Rattle.mage_instr.specs.declared.instr.Instr.{Instr}
use Rattle.mage_instr.specs.declared.instr.TheConstants.{NEVER}
use Rattle.mage_instr.specs.Opcodes.{WidthOk}
use Rattle.mage_instr.specs.Sound.{IsSound, IsSoundAt}

abbrev pub HasItsWidth : Instr → Type 0
HasItsWidth i = WidthOk i.op i.width i.imm

-- a fact of each that is there holds at each index
at_each : (P : Instr → Type 0) (xs : List Instr) → ((k : ℕ) → IfSome (slice_get xs k) P) → (k : ℕ) (d : Instr) → k < length xs → P (get_or xs k d)
at_each P [] each k d inside = absurd (omega (arith, inside))
at_each P (x ∷ xs) each zero d inside = each 0
at_each P (x ∷ xs) each (suc k) d inside = at_each P xs (λ n. each (suc n)) k d (omega (arith, inside))

weaker : (xs : List Instr) (instrs : List Instr) (t : ℕ) → ((k : ℕ) → IfSome (slice_get xs k) (IsSoundAt instrs (t)) → IfSome (slice_get xs k) HasItsWidth)
weaker [] instrs t zero h = tt
weaker [] instrs t (suc k) h = tt
weaker (x ∷ xs) instrs t zero h = h.0
weaker (x ∷ xs) instrs t (suc k) h = weaker xs instrs t k h

pub sound_widths : (instrs : List Instr) → IsSound instrs → All HasItsWidth instrs × (length instrs ≤ 4294967295)
sound_widths instrs sound = (at_each HasItsWidth instrs (λ k. weaker instrs instrs k k (sound.each k)), sound.count)
