use Rattle.std.proofs.Common.{length, ap, ◌∙◌}
use Rattle.std.proofs.lemmas.List.{length-reverse}
use Rattle.mage_core.proofs.Lending.{turned_so, verified_turned, ends_turned}
use Rattle.mage_core.proofs.turns.run_from_last.Goals as goal

pub run-fault-requires-clause-verified : goal.run-fault-requires-clause-verified
run-fault-requires-clause-verified g c κs within =
    verified_turned (λ machine. machine.part) c.args.machines.now.items _
    (turned_so c.args.machines.now.items c.reverse.new.self c.as_mut_slice.result.now c.args.machines.now.len c.args.machines.now.ok.0 c.as_mut_slice.ensures.value c.reverse.ensures.after)
    c.requires.verified

pub returns-clause-count : goal.returns-clause-count
returns-clause-count g c =
    ap length (turned_so c.run-fault.new.machines.items c.reverse-2.new.self c.as_mut_slice-2.result.now c.run-fault.new.machines.len c.run-fault.new.machines.ok.0
    c.as_mut_slice-2.ensures.value c.reverse-2.ensures.after)
    ∙ length-reverse c.run-fault.new.machines.items ∙ c.run-fault.ensures.count
    ∙ ap length (turned_so c.args.machines.now.items c.reverse.new.self c.as_mut_slice.result.now c.args.machines.now.len c.args.machines.now.ok.0
    c.as_mut_slice.ensures.value c.reverse.ensures.after)
    ∙ length-reverse c.args.machines.now.items

pub returns-clause-ends : goal.returns-clause-ends
returns-clause-ends g c =
    ends_turned g.D.Driver.rules g.D.Driver.tells g.S.Store.tells c.args.machines.now.items _ c.run-fault.new.machines.items _ c.run-fault.new.link c.run-fault.result
    (turned_so c.args.machines.now.items c.reverse.new.self c.as_mut_slice.result.now c.args.machines.now.len c.args.machines.now.ok.0
    c.as_mut_slice.ensures.value c.reverse.ensures.after)
    (turned_so c.run-fault.new.machines.items c.reverse-2.new.self c.as_mut_slice-2.result.now c.run-fault.new.machines.len c.run-fault.new.machines.ok.0
    c.as_mut_slice-2.ensures.value c.reverse-2.ensures.after)
    c.run-fault.ensures.ends
