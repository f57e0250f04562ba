use Rattle.std.proofs.Common.{◌≡◌, ◌≤◌, List, length, take, drop, Ok, Err, ap, ◌∙◌, arith}
use Rattle.std.proofs.lemmas.List.{length-take}
use Rattle.std.proofs.lemmas.Result.{err_from_is_err_and}
use Rattle.mage_instr.specs.Opcodes.{width_of_arg}
use Rattle.mage_driver.specs.Operations.{circuit_of}
use Rattle.mage_circuit.specs.Results.{wires_of_result}
use Rattle.mage_driver.proofs.Making.{went_to}
use Rattle.mage_circuit.proofs.Lending.{result_fits, same_circuit, front_kept}
use Rattle.mage_circuit.proofs.Loops.{leaves_at}
use Rattle.mage_circuit.proofs.execution.make_in_slices.Goals as goal

pub returns : goal.returns
returns g c =
    let o = c.args.op in
    let width = c.args.width in
    let imm = c.args.imm in
    let w = c.from-w.result in
    let wide = c.first_width-wide.result in
    let before = g.D.Driver.tells c.args.driver.now in
    let after = g.D.Driver.tells c.make.new.driver in
    let old : List g.row.D-Wire.Denot = c.args.out.now in
    let new : List g.row.D-Wire.Denot = c.make.new.out in
    let n = length (take w old) in
    let w_is : w ≡ width = c.from-w.ensures in
    let within : width ≤ 128 = c.requires.width.1 in
    let n_is : n ≡ width = omega (arith, length-take w old) in
    let new_long : length new ≡ width = omega arith in
    let fits : wires_of_result o width ≤ width = result_fits o width c.requires.width.0 in
    let first = ap (λ k. take k c.args.first.now) (c.first_width-wide.ensures ∙ ap (λ k. width_of_arg o k imm 0) w_is) in
    let second = ap (λ k. take k c.args.second.now) w_is in
    let third = ap (λ k. take k c.args.third.now) w_is in
    let s = before.state in
    let same = ap (λ k. circuit_of g.D.Driver.rules o k imm (take wide c.args.first.now) (take w c.args.second.now) (take w c.args.third.now) s) n_is
    ∙ ap (λ xs. circuit_of g.D.Driver.rules o width imm xs (take w c.args.second.now) (take w c.args.third.now) s) first
    ∙ ap (λ xs. circuit_of g.D.Driver.rules o width imm (take (width_of_arg o width imm 0) c.args.first.now) xs (take w c.args.third.now) s) second
    ∙ ap (λ xs. circuit_of g.D.Driver.rules o width imm (take (width_of_arg o width imm 0) c.args.first.now) (take width c.args.second.now) xs s) third
    ∙ same_circuit g.D.Driver.rules o width imm (take (width_of_arg o width imm 0) c.args.first.now) c.args.second.now c.args.third.now s in
    let went = leaves_at g.D.Driver.rules {X = List g.row.D-Wire.Denot} {Y = Unit {0}} (circuit_of g.D.Driver.rules o n imm (take wide c.args.first.now) (take w c.args.second.now) (take w c.args.third.now)) (circuit_of g.D.Driver.rules o width imm (take (width_of_arg o width imm 0) c.args.first.now) (take (width_of_arg o width imm 1) c.args.second.now) (take (width_of_arg o width imm 2) c.args.third.now)) before after (λ _. take (wires_of_result o n) new) (Ok tt) same c.in_ok-make.ensures in
    went_to g.D.Driver.rules (circuit_of g.D.Driver.rules o width imm (take (width_of_arg o width imm 0) c.args.first.now) (take (width_of_arg o width imm 1) c.args.second.now) (take (width_of_arg o width imm 2) c.args.third.now)) before after (take (wires_of_result o n) new) _ went
    (ap (λ k. take {A = g.row.D-Wire.Denot} (wires_of_result o k) new) n_is ∙ front_kept {W = g.row.D-Wire.Denot} new (drop w old) (wires_of_result o width) (omega arith))

pub returns-in_err-make : goal.returns-in_err-make
returns-in_err-make g c =
    let p = err_from_is_err_and c.from_residual.result c.from_residual.ensures.1 in
    let o = c.args.op in
    let width = c.args.width in
    let imm = c.args.imm in
    let w = c.from-w.result in
    let wide = c.first_width-wide.result in
    let before = g.D.Driver.tells c.args.driver.now in
    let after = g.D.Driver.tells c.make.new.driver in
    let old : List g.row.D-Wire.Denot = c.args.out.now in
    let new : List g.row.D-Wire.Denot = c.make.new.out in
    let n = length (take w old) in
    let w_is : w ≡ width = c.from-w.ensures in
    let within : width ≤ 128 = c.requires.width.1 in
    let n_is : n ≡ width = omega (arith, length-take w old) in
    let new_long : length new ≡ width = omega arith in
    let fits : wires_of_result o width ≤ width = result_fits o width c.requires.width.0 in
    let first = ap (λ k. take k c.args.first.now) (c.first_width-wide.ensures ∙ ap (λ k. width_of_arg o k imm 0) w_is) in
    let second = ap (λ k. take k c.args.second.now) w_is in
    let third = ap (λ k. take k c.args.third.now) w_is in
    let s = before.state in
    let same = ap (λ k. circuit_of g.D.Driver.rules o k imm (take wide c.args.first.now) (take w c.args.second.now) (take w c.args.third.now) s) n_is
    ∙ ap (λ xs. circuit_of g.D.Driver.rules o width imm xs (take w c.args.second.now) (take w c.args.third.now) s) first
    ∙ ap (λ xs. circuit_of g.D.Driver.rules o width imm (take (width_of_arg o width imm 0) c.args.first.now) xs (take w c.args.third.now) s) second
    ∙ ap (λ xs. circuit_of g.D.Driver.rules o width imm (take (width_of_arg o width imm 0) c.args.first.now) (take width c.args.second.now) xs s) third
    ∙ same_circuit g.D.Driver.rules o width imm (take (width_of_arg o width imm 0) c.args.first.now) c.args.second.now c.args.third.now s in
    rw (p.1, p.2) (leaves_at g.D.Driver.rules {X = List g.row.D-Wire.Denot} {Y = Unit {0}} (circuit_of g.D.Driver.rules o n imm (take wide c.args.first.now) (take w c.args.second.now) (take w c.args.third.now)) (circuit_of g.D.Driver.rules o width imm (take (width_of_arg o width imm 0) c.args.first.now) (take (width_of_arg o width imm 1) c.args.second.now) (take (width_of_arg o width imm 2) c.args.third.now)) before after (λ _. take (wires_of_result o n) new) (Err c.in_err-make.field-0.0) same c.in_err-make.ensures)
