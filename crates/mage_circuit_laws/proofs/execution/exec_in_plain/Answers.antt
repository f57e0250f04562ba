use Rattle.std.proofs.Common.{take, refl}
use Rattle.mage_plain.specs.Plain.{told_of}
use Rattle.mage_circuit.specs.Results.{wires_of_result}
use Rattle.mage_circuit_laws.proofs.InPlain.{computes_made, plain_bits}
use Rattle.mage_circuit_laws.proofs.execution.exec_in_plain.Goals as goal

pub exec-requires-clause-made : goal.exec-requires-clause-made
exec-requires-clause-made c = λ _. computes_made c.args.op c.requires.computes

pub returns-clause-running : goal.returns-clause-running
returns-clause-running c =
    let old = c.args.scratch.now in
    (plain_bits c.args.op c.args.width c.args.imm old.first.items old.second.items old.third.items (take (wires_of_result c.args.op c.args.width) c.exec.new.scratch.result.items) (told_of c.args.driver.now) (told_of c.exec.new.driver) c.exec.result
    refl c.requires.computes c.requires.width old.first_length old.second_length old.third_length c.exec.ensures.circuit).0

pub returns-clause-bits : goal.returns-clause-bits
returns-clause-bits c =
    let old = c.args.scratch.now in
    (plain_bits c.args.op c.args.width c.args.imm old.first.items old.second.items old.third.items (take (wires_of_result c.args.op c.args.width) c.exec.new.scratch.result.items) (told_of c.args.driver.now) (told_of c.exec.new.driver) c.exec.result
    refl c.requires.computes c.requires.width old.first_length old.second_length old.third_length c.exec.ensures.circuit).1
