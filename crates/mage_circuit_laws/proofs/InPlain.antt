-- An instruction made in plain gives the bits of what it computes.
use Rattle.std.proofs.Common.{◌≡◌, ◌≤◌, ℕ, zero, suc, List, [], ◌∷◌, Bool, length, take, Result, Ok, Err, refl, ◌∙◌, arith, inl, inr}
use Rattle.std.specs.Prelude.{IsTrue}
use Rattle.std.proofs.lemmas.Bool.{false≢true}
use Rattle.std.proofs.lemmas.List.{length-take}
use Rattle.mage_bits.specs.Bits.{bits, number}
use Rattle.mage_instr.specs.declared.fault.DriverFault.{DriverFault}
use Rattle.mage_instr.specs.declared.op.Op.{Op}
use Rattle.mage_instr.specs.declared.op.Op.TheVariants as op
use Rattle.mage_instr.specs.Opcodes.{WidthOk, width_of_arg, width_of_result}
use Rattle.mage_instr.specs.Computed.{computed}
use Rattle.mage_driver.specs.declared.standing.Standing.TheVariants as standing
use Rattle.mage_driver.specs.Calls.{Told, Call, SomeStops}
use Rattle.mage_driver.specs.Circuits.{Leaves}
use Rattle.mage_driver.specs.Operations.{circuit_of}
use Rattle.mage_driver.proofs.Making.{went_runs}
use Rattle.mage_plain.specs.Plain.{Plain, plain_rules}
use Rattle.mage_circuit.specs.Results.{is_made}
use Rattle.mage_circuit_laws.specs.Right.{computes}
use Rattle.mage_circuit_laws.proofs.Operations.{all_right}

-- no call of the plain driver stops
no_stops : (calls : List (Call Plain Bool)) (f : DriverFault) (s : Plain) → SomeStops plain_rules calls f s → ⊥
no_stops [] f s stops = stops
no_stops (call ∷ calls) f s stops = elim stops [ inl here ↦ here | inr later ↦ no_stops calls f s later ]

-- an argument is at most 128 bits wide
pub argument_fits : (o : Op) (w imm k : ℕ) → WidthOk o w imm → width_of_arg o w imm k ≤ 128
argument_fits op.Input w imm k ok = ok.1
argument_fits op.Const w imm k ok = ok.1
argument_fits op.Output w imm k ok = ok.1
argument_fits op.Add w imm k ok = ok.1
argument_fits op.Sub w imm k ok = ok.1
argument_fits op.Mul w imm k ok = ok.1
argument_fits op.And w imm k ok = ok.1
argument_fits op.Or w imm k ok = ok.1
argument_fits op.Xor w imm k ok = ok.1
argument_fits op.Not w imm k ok = ok.1
argument_fits op.Eq w imm k ok = ok.1
argument_fits op.Lt w imm k ok = ok.1
argument_fits op.Mux w imm zero ok = omega arith
argument_fits op.Mux w imm (suc k) ok = ok.1
argument_fits op.Shl w imm k ok = ok.1
argument_fits op.Shr w imm k ok = ok.1
argument_fits op.Resize w imm k ok = omega arith
argument_fits op.Send w imm k ok = ok.1
argument_fits op.Recv w imm k ok = ok.1
argument_fits op.Div w imm k ok = ok.1
argument_fits op.Rem w imm k ok = ok.1
argument_fits op.Count w imm k ok = ok.1
argument_fits op.Min w imm k ok = ok.1
argument_fits op.Max w imm k ok = ok.1

pub computes_made : (o : Op) → IsTrue (computes o) → IsTrue (is_made o)
computes_made op.Input is = absurd (false≢true is)
computes_made op.Const is = refl
computes_made op.Output is = absurd (false≢true is)
computes_made op.Add is = refl
computes_made op.Sub is = refl
computes_made op.Mul is = refl
computes_made op.And is = refl
computes_made op.Or is = refl
computes_made op.Xor is = refl
computes_made op.Not is = refl
computes_made op.Eq is = refl
computes_made op.Lt is = refl
computes_made op.Mux is = refl
computes_made op.Shl is = refl
computes_made op.Shr is = refl
computes_made op.Resize is = refl
computes_made op.Send is = absurd (false≢true is)
computes_made op.Recv is = absurd (false≢true is)
computes_made op.Div is = refl
computes_made op.Rem is = refl
computes_made op.Count is = refl
computes_made op.Min is = refl
computes_made op.Max is = refl

pub plain_bits : (o : Op) (width imm : ℕ) (first second third found : List Bool) (before after : Told Plain) (result : Result (Unit {0}) DriverFault) →
    IsTrue before.told → IsTrue (computes o) → WidthOk o width imm → length first ≡ 128 → length second ≡ 128 → length third ≡ 128 →
    Leaves plain_rules (circuit_of plain_rules o width imm (take (width_of_arg o width imm 0) first) (take (width_of_arg o width imm 1) second) (take (width_of_arg o width imm 2) third))
    before after (λ _. found) result →
    (after.standing ≡ standing.Running)
    × (found ≡ bits (computed o width imm (number (take (width_of_arg o width imm 0) first)) (number (take (width_of_arg o width imm 1) second)) (number (take (width_of_arg o width imm 2) third))) (width_of_result o width))
plain_bits o width imm first second third found before after (Ok _) told is ok lf ls lt left =
    let a = take (width_of_arg o width imm 0) first in
    let b = take (width_of_arg o width imm 1) second in
    let c = take (width_of_arg o width imm 2) third in
    let la : length a ≡ width_of_arg o width imm 0 = omega (arith, length-take (width_of_arg o width imm 0) first, argument_fits o width imm 0 ok) in
    let lb : length b ≡ width_of_arg o width imm 1 = omega (arith, length-take (width_of_arg o width imm 1) second, argument_fits o width imm 1 ok) in
    let lc : length c ≡ width_of_arg o width imm 2 = omega (arith, length-take (width_of_arg o width imm 2) third, argument_fits o width imm 2 ok) in (
      went_runs plain_rules (circuit_of plain_rules o width imm a b c) before after found left,
      left.wires told ∙ all_right o is width imm a b c before.state ok la lb lc,
    )
plain_bits o width imm first second third found before after (Err f) told is ok lf ls lt left =
    absurd (no_stops _ f after.state (left.stopped told))
