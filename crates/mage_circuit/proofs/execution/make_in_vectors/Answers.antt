use Rattle.std.proofs.Common.{◌≡◌, List, length, take, drop, Ok, Err, sym, ap, ◌∙◌, arith}
use Rattle.std.proofs.lemmas.List.{take_at}
use Rattle.std.proofs.lemmas.Result.{err_from_is_err_and}
use Rattle.mage_instr.specs.Opcodes.{width_of_arg}
use Rattle.mage_driver.specs.Operations.{circuit_of}
use Rattle.mage_driver.proofs.Making.{went_to}
use Rattle.mage_circuit.specs.Results.{wires_of_result}
use Rattle.mage_circuit.proofs.Loops.{leaves_at}
use Rattle.mage_circuit.proofs.execution.make_in_vectors.Goals as goal

pub returns-clause-circuit : goal.returns-clause-circuit
returns-clause-circuit g c =
    let o = c.args.op in
    let width = c.args.width in
    let imm = c.args.imm in
    let before = g.D.Driver.tells c.args.driver.now in
    let after = g.D.Driver.tells c.make_in_slices.new.driver in
    let new : List g.row.D-Wire.Denot = c.make_in_slices.new.out in
    let s = before.state in
    let same = ap (λ xs. (circuit_of g.D.Driver.rules o width imm (take (width_of_arg o width imm 0) xs) (take (width_of_arg o width imm 1) c.as_slice-2.result.now) (take (width_of_arg o width imm 2) c.as_slice-3.result.now)) s) c.as_slice.ensures.value
    ∙ ap (λ xs. (circuit_of g.D.Driver.rules o width imm (take (width_of_arg o width imm 0) c.args.first.now.items) (take (width_of_arg o width imm 1) xs) (take (width_of_arg o width imm 2) c.as_slice-3.result.now)) s) c.as_slice-2.ensures.value
    ∙ ap (λ xs. (circuit_of g.D.Driver.rules o width imm (take (width_of_arg o width imm 0) c.args.first.now.items) (take (width_of_arg o width imm 1) c.args.second.now.items) (take (width_of_arg o width imm 2) xs)) s) c.as_slice-3.ensures.value in
    let items : List g.row.D-Wire.Denot = c.args.out.now.items in
    let lent_is = c.as_mut_slice.ensures.value in
    let long : length new ≡ c.args.out.now.len = omega (arith, c.args.out.now.ok.0, ap length lent_is) in
    let went = leaves_at g.D.Driver.rules {X = List g.row.D-Wire.Denot} {Y = Unit {0}} (circuit_of g.D.Driver.rules o width imm (take (width_of_arg o width imm 0) c.as_slice.result.now) (take (width_of_arg o width imm 1) c.as_slice-2.result.now) (take (width_of_arg o width imm 2) c.as_slice-3.result.now)) (circuit_of g.D.Driver.rules o width imm (take (width_of_arg o width imm 0) c.args.first.now.items) (take (width_of_arg o width imm 1) c.args.second.now.items) (take (width_of_arg o width imm 2) c.args.third.now.items)) before after (λ _. take (wires_of_result o width) new) (Ok tt) same c.in_ok-make_in_slices.ensures in
    went_to g.D.Driver.rules (circuit_of g.D.Driver.rules o width imm (take (width_of_arg o width imm 0) c.args.first.now.items) (take (width_of_arg o width imm 1) c.args.second.now.items) (take (width_of_arg o width imm 2) c.args.third.now.items)) before after (take (wires_of_result o width) new) _ went
    (ap (λ ys. take {A = g.row.D-Wire.Denot} (wires_of_result o width) ys) (sym (take_at {A = g.row.D-Wire.Denot} new (drop (length new) items) c.args.out.now.len long)))

pub returns-in_err-make_in_slices-clause-circuit : goal.returns-in_err-make_in_slices-clause-circuit
returns-in_err-make_in_slices-clause-circuit g c =
    let p = err_from_is_err_and c.from_residual.result c.from_residual.ensures.1 in
    let o = c.args.op in
    let width = c.args.width in
    let imm = c.args.imm in
    let before = g.D.Driver.tells c.args.driver.now in
    let after = g.D.Driver.tells c.make_in_slices.new.driver in
    let new : List g.row.D-Wire.Denot = c.make_in_slices.new.out in
    let s = before.state in
    let same = ap (λ xs. (circuit_of g.D.Driver.rules o width imm (take (width_of_arg o width imm 0) xs) (take (width_of_arg o width imm 1) c.as_slice-2.result.now) (take (width_of_arg o width imm 2) c.as_slice-3.result.now)) s) c.as_slice.ensures.value
    ∙ ap (λ xs. (circuit_of g.D.Driver.rules o width imm (take (width_of_arg o width imm 0) c.args.first.now.items) (take (width_of_arg o width imm 1) xs) (take (width_of_arg o width imm 2) c.as_slice-3.result.now)) s) c.as_slice-2.ensures.value
    ∙ ap (λ xs. (circuit_of g.D.Driver.rules o width imm (take (width_of_arg o width imm 0) c.args.first.now.items) (take (width_of_arg o width imm 1) c.args.second.now.items) (take (width_of_arg o width imm 2) xs)) s) c.as_slice-3.ensures.value in
    rw (p.1, p.2) (leaves_at g.D.Driver.rules {X = List g.row.D-Wire.Denot} {Y = Unit {0}} (circuit_of g.D.Driver.rules o width imm (take (width_of_arg o width imm 0) c.as_slice.result.now) (take (width_of_arg o width imm 1) c.as_slice-2.result.now) (take (width_of_arg o width imm 2) c.as_slice-3.result.now)) (circuit_of g.D.Driver.rules o width imm (take (width_of_arg o width imm 0) c.args.first.now.items) (take (width_of_arg o width imm 1) c.args.second.now.items) (take (width_of_arg o width imm 2) c.args.third.now.items)) before after (λ _. take (wires_of_result o width) new) (Err c.in_err-make_in_slices.field-0.0) same c.in_err-make_in_slices.ensures)
