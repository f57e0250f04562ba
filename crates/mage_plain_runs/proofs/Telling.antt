-- The unplaced program over plain drivers, step by step with what it means on numbers.
use Rattle.std.proofs.Common.{◌≡◌, ◌≤◌, ◌<◌, ◌+◌, ◌^◌, ℕ, zero, suc, Bool, true, false, List, [], ◌∷◌, ◌++◌, length, get_or, nat_lt, Option, Some, None, IfSome, IsSomeAnd, IsTrue, refl, sym, ap, ◌∙◌, subst, slice_get, arith}
use Rattle.std.proofs.lemmas.Bool.Decides.{nat_tests}
use Rattle.std.proofs.lemmas.List.{length-append}
use Rattle.std.proofs.Math.Nat.{mod-eq_of_lt}
use Rattle.mage_bits.specs.Bits.{bits, number}
use Rattle.mage_bits.proofs.BitLaws.{number-bits}
use Rattle.mage_instr.specs.declared.instr.Instr.{Instr}
use Rattle.mage_instr.specs.declared.op.Op.{Op}
use Rattle.mage_instr.specs.declared.op.Op.TheVariants as op
use Rattle.mage_instr.specs.Opcodes.{arity_of, has_result, width_of_result, width_of_arg}
use Rattle.mage_instr.specs.Sound.{IsSound, IsSoundAt, Defines, arg_of}
use Rattle.mage_linked.specs.Transfers.{is_send, is_recv}
use Rattle.mage_meaning.specs.Means.{Running, acted, after_instr}
use Rattle.mage_meaning.specs.Means as means
use Rattle.mage_circuit_laws.specs.Right.{computes}

-- bits of a number that fits them
pub number_fits : (v w : ℕ) → v < 2 ^ w → number (bits v w) ≡ v
number_fits v w h = number-bits v w ∙ mod-eq_of_lt h

-- a list of wires tells the numbers
pub record Tells (instrs : List Instr) (wires : List (List Bool)) (numbers : List ℕ) : Type 0 where
  pub same : length wires ≡ length numbers
  pub each : (v : ℕ) (i : Instr) → slice_get instrs v ≡ Some i → v < length wires → has_result i.op ≡ true →
      (get_or wires v [] ≡ bits (get_or numbers v 0) (width_of_result i.op i.width))
      × (get_or numbers v 0 < 2 ^ width_of_result i.op i.width)

at_front : {A : Type 0} (xs : List A) (y d : A) (v : ℕ) → v < length xs → get_or (xs ++ y ∷ []) v d ≡ get_or xs v d
at_front [] y d v h = absurd (omega arith)
at_front (x ∷ xs) y d zero h = refl
at_front (x ∷ xs) y d (suc v) h = at_front xs y d v (let e : suc v < suc (length xs) = h in omega arith)

at_last : {A : Type 0} (xs : List A) (y d : A) → get_or (xs ++ y ∷ []) (length xs) d ≡ y
at_last [] y d = refl
at_last (x ∷ xs) y d = at_last xs y d

same_instr : (i j : Instr) (o : Option Instr) → o ≡ Some i → o ≡ Some j → i ≡ j
same_instr i j o e f = let s : Some i ≡ Some j = sym e ∙ f in cc

pub tells_more : (instrs : List Instr) (wires : List (List Bool)) (numbers : List ℕ) (i : Instr) (w : List Bool) (x : ℕ) →
    Tells instrs wires numbers → slice_get instrs (length wires) ≡ Some i →
    (has_result i.op ≡ true → (w ≡ bits x (width_of_result i.op i.width)) × (x < 2 ^ width_of_result i.op i.width)) →
    Tells instrs (wires ++ w ∷ []) (numbers ++ x ∷ [])
tells_more instrs wires numbers i w x h here new = record {
  same = length-append wires (w ∷ []) ∙ ap (λ n. n + 1) h.same ∙ sym (length-append numbers (x ∷ []));
  each = λ v j e within has. go v j e within has (nat_lt v (length wires)) refl;
}
  where
    go : (v : ℕ) (j : Instr) → slice_get instrs v ≡ Some j → v < length (wires ++ w ∷ []) → has_result j.op ≡ true →
        (b : Bool) → nat_lt v (length wires) ≡ b →
        (get_or (wires ++ w ∷ []) v [] ≡ bits (get_or (numbers ++ x ∷ []) v 0) (width_of_result j.op j.width))
        × (get_or (numbers ++ x ∷ []) v 0 < 2 ^ width_of_result j.op j.width)
    go v j e within has true f =
        let below : v < length wires = grind (arith, nat_tests) in
        let old = h.each v j e below has in
        let num = at_front numbers x 0 v (let s = h.same in omega arith) in (
          at_front wires w [] v below ∙ old.0 ∙ ap (λ n. bits n (width_of_result j.op j.width)) (sym num),
          subst (λ n. n < 2 ^ width_of_result j.op j.width) (sym num) old.1,
        )
    go v j e within has false f =
        let last : v ≡ length wires = (let l = length-append wires (w ∷ []) in let g : length wires ≤ v = grind (arith, nat_tests) in omega arith) in
        let is : j ≡ i = same_instr j i (slice_get instrs v) e (ap (slice_get instrs) last ∙ here) in
        let fits = new (ap (λ (k : Instr). has_result k.op) (sym is) ∙ has) in
        let num : get_or (numbers ++ x ∷ []) v 0 ≡ x = ap (λ k. get_or (numbers ++ x ∷ []) k 0) (last ∙ h.same) ∙ at_last numbers x 0 in (
          ap (λ k. get_or (wires ++ w ∷ []) k []) last ∙ at_last wires w [] ∙ fits.0
              ∙ ap (λ n. bits n (width_of_result i.op i.width)) (sym num)
              ∙ ap (λ (k : Instr). bits (get_or (numbers ++ x ∷ []) v 0) (width_of_result k.op k.width)) (sym is),
          subst (λ n. n < 2 ^ width_of_result j.op j.width) (sym num)
              (subst (λ (k : Instr). x < 2 ^ width_of_result k.op k.width) (sym is) fits.1),
        )

-- an argument of the next instruction
pub sound_at : (instrs : List Instr) (t : ℕ) (i : Instr) → IsSound instrs → slice_get instrs t ≡ Some i → IsSoundAt instrs t i
sound_at instrs t i sound e = subst (λ o. IfSome o (IsSoundAt instrs t)) e (sound.each t)

true_so : (b : Bool) → IsTrue b → b ≡ true
true_so b h = h

arg_told : (instrs : List Instr) (wires : List (List Bool)) (numbers : List ℕ) (v t width : ℕ) (o : Option Instr) →
    slice_get instrs v ≡ o → IsSomeAnd o (λ source. Defines source width) → Tells instrs wires numbers → v < length wires →
    (get_or wires v [] ≡ bits (get_or numbers v 0) width) × (get_or numbers v 0 < 2 ^ width)
arg_told instrs wires numbers v t width None e d h within = absurd d
arg_told instrs wires numbers v t width (Some source) e d h within =
    let one = h.each v source e within (true_so (has_result source.op) d.0) in
    subst (λ k. (get_or wires v [] ≡ bits (get_or numbers v 0) k) × (get_or numbers v 0 < 2 ^ k)) d.1 one

pub arg_tells : (instrs : List Instr) (wires : List (List Bool)) (numbers : List ℕ) (i : Instr) (k : ℕ) → IsSound instrs →
    slice_get instrs (length wires) ≡ Some i → Tells instrs wires numbers → k < arity_of i.op →
    (get_or wires (arg_of i k) [] ≡ bits (get_or numbers (arg_of i k) 0) (width_of_arg i.op i.width i.imm k))
    × (get_or numbers (arg_of i k) 0 < 2 ^ width_of_arg i.op i.width i.imm k)
arg_tells instrs wires numbers i k sound here h within =
    let a = (sound_at instrs (length wires) i sound here).1 k within in
    arg_told instrs wires numbers (arg_of i k) k (width_of_arg i.op i.width i.imm k) (slice_get instrs (arg_of i k)) refl a.1 h a.0

pub acted_computes : (o : Op) (n : ℕ) (i : Instr) (r : Running) → computes o ≡ true → acted o n i r ≡ means.computes o n i r
acted_computes op.Input n i r is = absurd cc
acted_computes op.Const n i r is = refl
acted_computes op.Output n i r is = absurd cc
acted_computes op.Add n i r is = refl
acted_computes op.Sub n i r is = refl
acted_computes op.Mul n i r is = refl
acted_computes op.And n i r is = refl
acted_computes op.Or n i r is = refl
acted_computes op.Xor n i r is = refl
acted_computes op.Not n i r is = refl
acted_computes op.Eq n i r is = refl
acted_computes op.Lt n i r is = refl
acted_computes op.Mux n i r is = refl
acted_computes op.Shl n i r is = refl
acted_computes op.Shr n i r is = refl
acted_computes op.Resize n i r is = refl
acted_computes op.Send n i r is = absurd cc
acted_computes op.Recv n i r is = absurd cc
acted_computes op.Div n i r is = refl
acted_computes op.Rem n i r is = refl
acted_computes op.Count n i r is = refl
acted_computes op.Min n i r is = refl
acted_computes op.Max n i r is = refl

-- which of the three an instruction is that speaks of no other worker
pub data Kind (o : Op) : Type 0 where
  takes : o ≡ op.Input → Kind o
  puts : o ≡ op.Output → Kind o
  reckons : computes o ≡ true → Kind o

pub kind_of : (o : Op) → is_send o ≡ false → is_recv o ≡ false → Kind o
kind_of op.Input s t = takes refl
kind_of op.Const s t = reckons refl
kind_of op.Output s t = puts refl
kind_of op.Add s t = reckons refl
kind_of op.Sub s t = reckons refl
kind_of op.Mul s t = reckons refl
kind_of op.And s t = reckons refl
kind_of op.Or s t = reckons refl
kind_of op.Xor s t = reckons refl
kind_of op.Not s t = reckons refl
kind_of op.Eq s t = reckons refl
kind_of op.Lt s t = reckons refl
kind_of op.Mux s t = reckons refl
kind_of op.Shl s t = reckons refl
kind_of op.Shr s t = reckons refl
kind_of op.Resize s t = reckons refl
kind_of op.Send s t = absurd cc
kind_of op.Recv s t = absurd cc
kind_of op.Div s t = reckons refl
kind_of op.Rem s t = reckons refl
kind_of op.Count s t = reckons refl
kind_of op.Min s t = reckons refl
kind_of op.Max s t = reckons refl
