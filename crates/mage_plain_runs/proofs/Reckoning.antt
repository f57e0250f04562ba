-- What the circuit of an instruction that computes leaves of a plain driver, and what it gives.
use Rattle.std.proofs.Common.{◌≡◌, ◌<◌, ◌^◌, ℕ, Bool, true, false, cond, List, [], length, replicate, nat_lt, refl, sym, ap, ◌∙◌, arith}
use Rattle.std.proofs.lemmas.Bool.Decides.{nat_tests}
use Rattle.std.proofs.lemmas.List.{length-replicate}
use Rattle.mage_bits.specs.Bits.{bits, number}
use Rattle.mage_bits.proofs.BitLaws.{length-bits}
use Rattle.mage_instr.specs.declared.op.Op.{Op}
use Rattle.mage_instr.specs.declared.op.Op.TheVariants as op
use Rattle.mage_instr.specs.Opcodes.{arity_of, width_of_result, width_of_arg, WidthOk}
use Rattle.mage_instr.specs.Computed.{computed}
use Rattle.mage_driver.specs.Rules.{Rules}
use Rattle.mage_driver.specs.Operations.{circuit_of}
use Rattle.mage_plain.specs.Plain.{Plain, plain_rules}
use Rattle.mage_steps.proofs.Growing.{keeps_circuit}
use Rattle.mage_circuit_laws.specs.Right.{IsRight, computes}
use Rattle.mage_plain_runs.proofs.Numbers.{used_number, computed_used}
use Rattle.mage_plain_runs.proofs.Telling.{number_fits}

-- the same inputs to come, outputs and room
pub record Same (from to : Plain) : Type 0 where
  pub garbler : to.garbler ≡ from.garbler
  pub evaluator : to.evaluator ≡ from.evaluator
  pub outputs : to.outputs ≡ from.outputs
  pub room : to.room ≡ from.room

same_self : (s : Plain) → Same s s
same_self s = record { garbler = refl; evaluator = refl; outputs = refl; room = refl }

same_then : (s t u : Plain) → Same s t → Same t u → Same s u
same_then s t u h k = record {
  garbler = k.garbler ∙ h.garbler;
  evaluator = k.evaluator ∙ h.evaluator;
  outputs = k.outputs ∙ h.outputs;
  room = k.room ∙ h.room;
}

-- the plain rules, where nothing comes in or goes out
abbrev inner_rules : Rules Bool
inner_rules = record plain_rules {
  input = λ s whose count. (s, []);
  output = λ s wires. s;
}

inner : (o : Op) (width imm : ℕ) (a b c : List Bool) (s : Plain) → Same s (circuit_of inner_rules o width imm a b c s).state
inner o width imm a b c s =
    keeps_circuit inner_rules Same same_self same_then
    (λ t x y. record { garbler = refl; evaluator = refl; outputs = refl; room = refl })
    (λ t whose count. same_self t) (λ t wires. same_self t) o width imm a b c s

pub reckoning_keeps : (o : Op) (width imm : ℕ) (a b c : List Bool) (s : Plain) → computes o ≡ true →
    Same s (circuit_of plain_rules o width imm a b c s).state
reckoning_keeps op.Input width imm a b c s is = absurd cc
reckoning_keeps op.Const width imm a b c s is = inner op.Const width imm a b c s
reckoning_keeps op.Output width imm a b c s is = absurd cc
reckoning_keeps op.Add width imm a b c s is = inner op.Add width imm a b c s
reckoning_keeps op.Sub width imm a b c s is = inner op.Sub width imm a b c s
reckoning_keeps op.Mul width imm a b c s is = inner op.Mul width imm a b c s
reckoning_keeps op.And width imm a b c s is = inner op.And width imm a b c s
reckoning_keeps op.Or width imm a b c s is = inner op.Or width imm a b c s
reckoning_keeps op.Xor width imm a b c s is = inner op.Xor width imm a b c s
reckoning_keeps op.Not width imm a b c s is = inner op.Not width imm a b c s
reckoning_keeps op.Eq width imm a b c s is = inner op.Eq width imm a b c s
reckoning_keeps op.Lt width imm a b c s is = inner op.Lt width imm a b c s
reckoning_keeps op.Mux width imm a b c s is = inner op.Mux width imm a b c s
reckoning_keeps op.Shl width imm a b c s is = inner op.Shl width imm a b c s
reckoning_keeps op.Shr width imm a b c s is = inner op.Shr width imm a b c s
reckoning_keeps op.Resize width imm a b c s is = inner op.Resize width imm a b c s
reckoning_keeps op.Send width imm a b c s is = absurd cc
reckoning_keeps op.Recv width imm a b c s is = absurd cc
reckoning_keeps op.Div width imm a b c s is = inner op.Div width imm a b c s
reckoning_keeps op.Rem width imm a b c s is = inner op.Rem width imm a b c s
reckoning_keeps op.Count width imm a b c s is = inner op.Count width imm a b c s
reckoning_keeps op.Min width imm a b c s is = inner op.Min width imm a b c s
reckoning_keeps op.Max width imm a b c s is = inner op.Max width imm a b c s

-- an argument, or zeros where the opcode has none
abbrev filled : Op → (width imm k : ℕ) → List Bool → List Bool
filled o width imm k wires = cond (nat_lt k (arity_of o)) wires (replicate (width_of_arg o width imm k) false)

circuit_filled : (o : Op) (width imm : ℕ) (a b c : List Bool) (s : Plain) →
    circuit_of plain_rules o width imm (filled o width imm 0 a) (filled o width imm 1 b) (filled o width imm 2 c) s ≡
    circuit_of plain_rules o width imm a b c s
circuit_filled op.Input width imm a b c s = refl
circuit_filled op.Const width imm a b c s = refl
circuit_filled op.Output width imm a b c s = refl
circuit_filled op.Add width imm a b c s = refl
circuit_filled op.Sub width imm a b c s = refl
circuit_filled op.Mul width imm a b c s = refl
circuit_filled op.And width imm a b c s = refl
circuit_filled op.Or width imm a b c s = refl
circuit_filled op.Xor width imm a b c s = refl
circuit_filled op.Not width imm a b c s = refl
circuit_filled op.Eq width imm a b c s = refl
circuit_filled op.Lt width imm a b c s = refl
circuit_filled op.Mux width imm a b c s = refl
circuit_filled op.Shl width imm a b c s = refl
circuit_filled op.Shr width imm a b c s = refl
circuit_filled op.Resize width imm a b c s = refl
circuit_filled op.Send width imm a b c s = refl
circuit_filled op.Recv width imm a b c s = refl
circuit_filled op.Div width imm a b c s = refl
circuit_filled op.Rem width imm a b c s = refl
circuit_filled op.Count width imm a b c s = refl
circuit_filled op.Min width imm a b c s = refl
circuit_filled op.Max width imm a b c s = refl

filled_long : (o : Op) (width imm k : ℕ) (wires : List Bool) → (k < arity_of o → length wires ≡ width_of_arg o width imm k) →
    length (filled o width imm k wires) ≡ width_of_arg o width imm k
filled_long o width imm k wires h = go (nat_lt k (arity_of o)) refl
  where
    go : (b : Bool) → nat_lt k (arity_of o) ≡ b →
        length (cond b wires (replicate (width_of_arg o width imm k) false)) ≡ width_of_arg o width imm k
    go true e = h (grind (arith, nat_tests))
    go false e = length-replicate (width_of_arg o width imm k) false

used_filled : (o : Op) (width imm k : ℕ) (wires : List Bool) (v : ℕ) → (k < arity_of o → number wires ≡ v) →
    used_number o k (number (filled o width imm k wires)) ≡ used_number o k v
used_filled o width imm k wires v h = go (nat_lt k (arity_of o)) refl
  where
    go : (b : Bool) → nat_lt k (arity_of o) ≡ b →
        cond b (number (cond b wires (replicate (width_of_arg o width imm k) false))) 0 ≡ cond b v 0
    go true e = h (grind (arith, nat_tests))
    go false e = refl

-- the bits of what the numbers of the arguments come to
pub reckoned : (o : Op) (width imm : ℕ) (a b c : List Bool) (x y z : ℕ) (s : Plain) → IsRight o → WidthOk o width imm →
    (0 < arity_of o → (a ≡ bits x (width_of_arg o width imm 0)) × (x < 2 ^ width_of_arg o width imm 0)) →
    (1 < arity_of o → (b ≡ bits y (width_of_arg o width imm 1)) × (y < 2 ^ width_of_arg o width imm 1)) →
    (2 < arity_of o → (c ≡ bits z (width_of_arg o width imm 2)) × (z < 2 ^ width_of_arg o width imm 2)) →
    (circuit_of plain_rules o width imm a b c s).wires ≡ bits (computed o width imm x y z) (width_of_result o width)
reckoned o width imm a b c x y z s right ok ha hb hc =
    ap (λ m. m.wires) (sym (circuit_filled o width imm a b c s))
    ∙ right width imm (filled o width imm 0 a) (filled o width imm 1 b) (filled o width imm 2 c) s ok
    (filled_long o width imm 0 a (λ w. ap length (ha w).0 ∙ length-bits x (width_of_arg o width imm 0)))
    (filled_long o width imm 1 b (λ w. ap length (hb w).0 ∙ length-bits y (width_of_arg o width imm 1)))
    (filled_long o width imm 2 c (λ w. ap length (hc w).0 ∙ length-bits z (width_of_arg o width imm 2)))
    ∙ ap (λ n. bits n (width_of_result o width))
    (sym (computed_used o width imm (number (filled o width imm 0 a)) (number (filled o width imm 1 b)) (number (filled o width imm 2 c)))
    ∙ ap (λ n. computed o width imm n (used_number o 1 (number (filled o width imm 1 b))) (used_number o 2 (number (filled o width imm 2 c))))
    (used_filled o width imm 0 a x (λ w. ap number (ha w).0 ∙ number_fits x (width_of_arg o width imm 0) (ha w).1))
    ∙ ap (λ n. computed o width imm (used_number o 0 x) n (used_number o 2 (number (filled o width imm 2 c))))
    (used_filled o width imm 1 b y (λ w. ap number (hb w).0 ∙ number_fits y (width_of_arg o width imm 1) (hb w).1))
    ∙ ap (λ n. computed o width imm (used_number o 0 x) (used_number o 1 y) n)
    (used_filled o width imm 2 c z (λ w. ap number (hc w).0 ∙ number_fits z (width_of_arg o width imm 2) (hc w).1))
    ∙ computed_used o width imm x y z)
