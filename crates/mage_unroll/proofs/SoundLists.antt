-- A list of instructions that is sound stays so with one more that can run after it.
use Rattle.std.proofs.Common.{◌<◌, ℕ, zero, suc, List, [], ◌∷◌, ◌++◌, length, Option, Some, None, IfSome, IsSomeAnd, arith}
use Rattle.std.specs.Prelude.{slice_get}
use Rattle.std.proofs.lemmas.List.{length_push}
use Rattle.mage_instr.specs.declared.instr.TheConstants.{NEVER}
use Rattle.mage_instr.specs.declared.instr.Instr.{Instr}
use Rattle.mage_instr.specs.Opcodes.{arity_of, width_of_arg, WidthOk}
use Rattle.mage_instr.specs.Sound.{arg_of, Defines, IsSoundAt, IsSound}

-- the instruction with this index defines a value of this width
abbrev pub DefinesAt : List Instr → (index width : ℕ) → Type 0
DefinesAt instrs index width = IsSomeAnd (slice_get instrs index) (λ source. Defines source width)

-- the instruction can run after these
pub record CanFollow (instrs : List Instr) (i : Instr) : Type 0 where
  pub width_ok : WidthOk i.op i.width i.imm
  pub args : (k : ℕ) → k < arity_of i.op → DefinesAt instrs (arg_of i k) (width_of_arg i.op i.width i.imm k)

-- ---- what is at an index

some_append : (P : Instr → Type 0) (xs ys : List Instr) (i : ℕ) → IsSomeAnd (slice_get xs i) P → IsSomeAnd (slice_get (xs ++ ys) i) P
some_append P [] ys i h = absurd h
some_append P (x ∷ xs) ys zero h = h
some_append P (x ∷ xs) ys (suc i) h = some_append P xs ys i h

some_within : (P : Instr → Type 0) (xs : List Instr) (i : ℕ) → IsSomeAnd (slice_get xs i) P → i < length xs
some_within P [] i h = absurd h
some_within P (x ∷ xs) zero h = omega arith
some_within P (x ∷ xs) (suc i) h = omega (arith, some_within P xs i h)

some_weaker : (P Q : Instr → Type 0) (o : Option Instr) → ((x : Instr) → P x → Q x) → IfSome o P → IfSome o Q
some_weaker P Q None w h = tt
some_weaker P Q (Some x) w h = w x h

each_push : (Q : ℕ → Instr → Type 0) (xs : List Instr) (x : Instr) → ((t : ℕ) → IfSome (slice_get xs t) (Q t)) → Q (length xs) x → (t : ℕ) → IfSome (slice_get (xs ++ x ∷ []) t) (Q t)
each_push Q [] x h q zero = q
each_push Q [] x h q (suc t) = tt
each_push Q (y ∷ xs) x h q zero = h zero
each_push Q (y ∷ xs) x h q (suc t) = each_push (λ n. Q (suc n)) xs x (λ n. h (suc n)) q t

-- ---- lists that grow

pub DefinesAt-append : (xs ys : List Instr) (index width : ℕ) → DefinesAt xs index width → DefinesAt (xs ++ ys) index width
DefinesAt-append xs ys index width h = some_append (λ source. Defines source width) xs ys index h

-- the last instruction
pub DefinesAt-last : (xs : List Instr) (i : Instr) (width : ℕ) → Defines i width → DefinesAt (xs ++ i ∷ []) (length xs) width
DefinesAt-last [] i width h = h
DefinesAt-last (x ∷ xs) i width h = DefinesAt-last xs i width h

sound_append : (xs ys : List Instr) (t : ℕ) (i : Instr) → IsSoundAt xs t i → IsSoundAt (xs ++ ys) t i
sound_append xs ys t i h = (h.0, λ k below. ((h.1 k below).0, DefinesAt-append xs ys (arg_of i k) (width_of_arg i.op i.width i.imm k) (h.1 k below).1))

sound_last : (xs : List Instr) (i : Instr) → CanFollow xs i → IsSoundAt (xs ++ i ∷ []) (length xs) i
sound_last xs i h = (
  h.width_ok,
  λ k below.
      let width = width_of_arg i.op i.width i.imm k in
      (some_within (λ source. Defines source width) xs (arg_of i k) (h.args k below), DefinesAt-append xs (i ∷ []) (arg_of i k) width (h.args k below)),
)

pub IsSound-push : (xs : List Instr) (i : Instr) → length xs < NEVER → IsSound xs → CanFollow xs i → IsSound (xs ++ i ∷ [])
IsSound-push xs i few sound h =
    record {
      count = omega (arith, length_push xs i);
      each = each_push (IsSoundAt (xs ++ i ∷ [])) xs i
          (λ t. some_weaker (IsSoundAt xs t) (IsSoundAt (xs ++ i ∷ []) t) (slice_get xs t) (λ x. sound_append xs (i ∷ []) t x) (sound.each t))
          (sound_last xs i h);
    }
