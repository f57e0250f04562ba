-- How many bytes a garbler says at one instruction.
use Rattle.std.proofs.Common.{◌≡◌, ◌≤◌, ◌<◌, ◌*◌, ◌==◌, ℕ, zero, suc, ◌+◌, Bool, true, false, cond, nat_lt, List, [], ◌∷◌, ◌++◌, length, map, bit_xor, replicate, refl, sym, ap, ◌∙◌, length-append, arith}
use Rattle.std.specs.Simd.Lanes.{zip2}
use Rattle.std.proofs.lemmas.Bool.{ltb-true}
use Rattle.std.proofs.lemmas.List.{length-map, length-replicate}
use Rattle.mage_bits.specs.Bits.{bits}
use Rattle.mage_instr.specs.declared.op.Op.{Op}
use Rattle.mage_instr.specs.declared.op.Op.TheVariants as op
use Rattle.mage_instr.specs.declared.party.Party.{Party}
use Rattle.mage_instr.specs.declared.party.Party.TheVariants as party
use Rattle.mage_instr.specs.Ands.{and_count_of}
use Rattle.mage_instr.specs.Opcodes.{WidthOk, arity_of, width_of_arg}
use Rattle.mage_label.specs.declared.labels.Label.{Label}
use Rattle.mage_label.specs.Labels.{IsWhole, blank, hash_of, input_label_of, xor, xor_times}
use Rattle.mage_label.proofs.LabelLemmas.{IsWhole-xor, IsWhole-digest_label, IsWhole-hash_of, IsWhole-offset_of}
use Rattle.mage_halfgates.specs.HalfGates.{tables_of, evaluator_tweak}
use Rattle.mage_driver.specs.Calls.{Ask, And, Input, Output, Finish, Call}
use Rattle.mage_driver.specs.Counts.{ands_in}
use Rattle.mage_driver.specs.Operations.{circuit_of}
use Rattle.mage_driver.proofs.AndCounts.{all_ands}
use Rattle.mage_streams.specs.Numbers.{number_after, next_value}
use Rattle.mage_streams.specs.Garbling as said
use Rattle.mage_streams.specs.Garbling.{Garbler, garbling, active_labels, colour_of, offset_in, said_for, said_at, table_bytes, zero_labels}
use Rattle.mage_streams.proofs.Reading.{IsWhole-generator}
use Rattle.mage_stream_length.specs.Length.{bytes_at}
use Rattle.mage_stream_length.proofs.AndsAlone.{IsAnd, AreAnds, ands_circuit}

-- ---- labels

few_bytes : (f : ℕ → ℕ → ℕ) (xs ys : List ℕ) → length (zip2 f xs ys) ≤ length xs
few_bytes f [] [] = omega arith
few_bytes f [] (y ∷ ys) = omega arith
few_bytes f (x ∷ xs) [] = omega arith
few_bytes f (x ∷ xs) (y ∷ ys) = let rest = few_bytes f xs ys in omega (arith, rest)

few_xor : (a b : Label) → length a.bytes ≤ 16 → length (xor a b).bytes ≤ 16
unfolding xor
few_xor a b few = let both = few_bytes bit_xor a.bytes b.bytes in omega (arith, few, both)

few_times : (a : Label) (bit : Bool) (b : Label) → length a.bytes ≤ 16 → length (xor_times a bit b).bytes ≤ 16
few_times a true b few = few_xor a b few
few_times a false b few = few

whole_few : (label : Label) → IsWhole label → length label.bytes ≤ 16
whole_few label whole = omega (arith, whole)

few_evaluator : (offset : Label) (worker gate : ℕ) (a b : Label) → length (tables_of offset worker gate a b).evaluator.bytes ≤ 16
unfolding tables_of
few_evaluator offset worker gate a b =
    let k : ℕ = evaluator_tweak gate in
    let first : Label = hash_of b worker k in
    let second : Label = hash_of (xor b offset) worker k in
    few_xor (xor first second) a (few_xor first second (whole_few first (IsWhole-hash_of b worker k)))

few_tables : (offset : Label) (worker gate : ℕ) (a b : Label) → IsWhole offset → length (table_bytes (tables_of offset worker gate a b)) ≤ 32
few_tables offset worker gate a b whole =
    let tables = tables_of offset worker gate a b in
    let generator = IsWhole-generator offset worker gate a b whole in
    let evaluator = few_evaluator offset worker gate a b in
    omega (arith, generator, evaluator, length-append tables.generator.bytes tables.evaluator.bytes)

-- the active labels of an input
few_active : (offset : Label) (seed : List ℕ) (worker first count : ℕ) (values : List Bool)
    → length (said.bytes_of (active_labels offset (zero_labels seed worker first count) values)) ≤ 16 * count
few_active offset seed worker first zero values = omega arith
few_active offset seed worker first (suc count) [] = omega arith
few_active offset seed worker first (suc count) (value ∷ values) =
    let label : Label = xor_times (input_label_of seed worker first) value offset in
    let one = few_times (input_label_of seed worker first) value offset (whole_few (input_label_of seed worker first) (IsWhole-digest_label _)) in
    let rest = few_active offset seed worker (number_after first 1) count values in
    omega (arith, one, rest, length-append label.bytes (said.bytes_of (active_labels offset (zero_labels seed worker (number_after first 1) count) values)))

-- ---- calls

few_at : (calls : List (Call Garbler Label)) → AreAnds calls → length (said_at calls) ≤ 32 * ands_in calls
few_at [] ands = omega arith
few_at (call ∷ calls) ands = go call.ask ands.0 (few_at calls ands.1) where
  go : (ask : Ask Label) → IsAnd ask → length (said_at calls) ≤ 32 * ands_in calls
      → length (said_for call.state ask ++ said_at calls) ≤ 32 * ands_in (record { state = call.state; ask = ask } ∷ calls)
  go (And a b) is rest =
      let g : Garbler = call.state in
      let one = few_tables (offset_in g) g.worker g.gates a b (IsWhole-offset_of g.seed) in
      omega (arith, one, rest, length-append (said_for g (And a b)) (said_at calls))
  go (Input whose count) is rest = absurd is
  go (Output wires) is rest = absurd is
  go Finish is rest = absurd is

-- ---- one instruction

-- wires in place of an argument that the opcode doesn't have
abbrev filled : Op → (width imm k : ℕ) → List Label → List Label
filled o width imm k wires = cond (nat_lt k (arity_of o)) wires (replicate (width_of_arg o width imm k) blank)

filled_long : (o : Op) (width imm k : ℕ) (wires : List Label) → (k < arity_of o → length wires ≡ width_of_arg o width imm k)
    → length (filled o width imm k wires) ≡ width_of_arg o width imm k
filled_long o width imm k wires long = go (nat_lt k (arity_of o)) refl where
  go : (b : Bool) → nat_lt k (arity_of o) ≡ b → length (cond b wires (replicate (width_of_arg o width imm k) blank)) ≡ width_of_arg o width imm k
  go true e = long (ltb-true k (arity_of o) e)
  go false e = length-replicate (width_of_arg o width imm k) blank

-- they make no difference
filled_same : (o : Op) (width imm : ℕ) (a b c : List Label) (s : Garbler)
    → circuit_of garbling o width imm (filled o width imm 0 a) (filled o width imm 1 b) (filled o width imm 2 c) s ≡ circuit_of garbling o width imm a b c s
filled_same op.Input width imm a b c s = refl
filled_same op.Const width imm a b c s = refl
filled_same op.Output width imm a b c s = refl
filled_same op.Add width imm a b c s = refl
filled_same op.Sub width imm a b c s = refl
filled_same op.Mul width imm a b c s = refl
filled_same op.And width imm a b c s = refl
filled_same op.Or width imm a b c s = refl
filled_same op.Xor width imm a b c s = refl
filled_same op.Not width imm a b c s = refl
filled_same op.Eq width imm a b c s = refl
filled_same op.Lt width imm a b c s = refl
filled_same op.Mux width imm a b c s = refl
filled_same op.Shl width imm a b c s = refl
filled_same op.Shr width imm a b c s = refl
filled_same op.Resize width imm a b c s = refl
filled_same op.Send width imm a b c s = refl
filled_same op.Recv width imm a b c s = refl
filled_same op.Div width imm a b c s = refl
filled_same op.Rem width imm a b c s = refl
filled_same op.Count width imm a b c s = refl
filled_same op.Min width imm a b c s = refl
filled_same op.Max width imm a b c s = refl

-- the arguments are as wide as the opcode asks for
pub record AreArgs (o : Op) (width imm : ℕ) (a b c : List Label) : Type 0 where
  pub first : 0 < arity_of o → length a ≡ width_of_arg o width imm 0
  pub second : 1 < arity_of o → length b ≡ width_of_arg o width imm 1
  pub third : 2 < arity_of o → length c ≡ width_of_arg o width imm 2

ands_are : (o : Op) (width imm : ℕ) (a b c : List Label) (s : Garbler) → WidthOk o width imm → AreArgs o width imm a b c
    → ands_in (circuit_of garbling o width imm a b c s).calls ≡ and_count_of o width
ands_are o width imm a b c s ok args =
    sym (ap (λ made. ands_in made.calls) (filled_same o width imm a b c s))
    ∙ all_ands garbling o width imm (filled o width imm 0 a) (filled o width imm 1 b) (filled o width imm 2 c) s ok
    (filled_long o width imm 0 a args.first) (filled_long o width imm 1 b args.second) (filled_long o width imm 2 c args.third)

said_input : (s : Garbler) (width imm : ℕ) → length (said_at ((circuit_of garbling op.Input width imm [] [] [] s).calls)) ≤ bytes_at op.Input width imm
said_input s width imm = go (imm == 0) where
  go : (b : Bool) → length (said_for s (Input (cond b party.Garbler party.Evaluator) width) ++ []) ≤ cond b (16 * width) 0
  go true =
      let few = few_active (offset_in s) s.seed s.worker s.wires width (bits (next_value s.values) width) in
      omega (arith, few, length-append (said_for s (Input party.Garbler width)) [])
  go false = omega arith

said_output : (s : Garbler) (width imm : ℕ) (a : List Label) → length a ≡ width → length (said_at ((circuit_of garbling op.Output width imm a [] [] s).calls)) ≤ width
said_output s width imm a long = omega (arith, long, length-map a colour_of, length-append (map colour_of a) [])

said_ands : (o : Op) (width imm : ℕ) (a b c : List Label) (s : Garbler) → AreAnds (circuit_of garbling o width imm a b c s).calls → WidthOk o width imm
    → AreArgs o width imm a b c → length (said_at ((circuit_of garbling o width imm a b c s).calls)) ≤ 32 * and_count_of o width
said_ands o width imm a b c s ands ok args =
    let few = few_at (circuit_of garbling o width imm a b c s).calls ands in
    let count = ands_are o width imm a b c s ok args in
    omega (arith, few, ap (λ n. 32 * n) count)

pub said_few : (o : Op) (width imm : ℕ) (a b c : List Label) (s : Garbler) → WidthOk o width imm → AreArgs o width imm a b c
    → length (said_at ((circuit_of garbling o width imm a b c s).calls)) ≤ bytes_at o width imm
said_few op.Input width imm a b c s ok args = said_input s width imm
said_few op.Output width imm a b c s ok args = said_output s width imm a (args.first (omega arith))
said_few o width imm a b c s ok args = said_ands o width imm a b c s (ands_circuit garbling o refl width imm a b c s) ok args
