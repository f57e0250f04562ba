use Rattle.std.proofs.Common.{◌≡◌, ◌+◌, ◌∷◌, [], ℕ, List, length, sym, ap, ◌∙◌, subst}
use Rattle.std.specs.Prelude.{Vec}
use Rattle.std.specs.Global.{Global}
use Rattle.std.specs.Vec.{with_items}
use Rattle.mage_instr.specs.declared.directive.Directive.TheVariants as entry
use Rattle.mage_bank.specs.Bank.{contents, bank_of, lengths_of, Lies}
use Rattle.mage_link.specs.Queues.{lies_in, HasPlace, queues_without}
use Rattle.mage_steps.specs.Frames.{received_form, with_wires, spot_of_wire}
use Rattle.mage_world.proofs.SlotCalls.{back_again}
use Rattle.mage_world.proofs.Standing.{few, value_in}
use Rattle.mage_world.proofs.Passing.{received_fits, past_stands, taken_turns, queue_taken}
use Rattle.mage_world.proofs.instructions.pop.Goals as goal

pub receive-requires-clause-lies : goal.receive-requires-clause-lies
receive-requires-clause-lies g c κs outlives =
    let rules = g.D.Driver.rules in
    let part = c.args.part.now in
    let driver = g.D.Driver.tells c.args.driver.now in
    let worker = c.args.worker.now in
    let stands = c.requires.stands in
    let at = c.requires.here in
    let job = c.args.job in
    let x = entry.Do c.args.job in
    subst (λ (l : List (Vec ℕ Global)). Lies g.D.Driver.WIRE_BYTES (contents l) job.out (worker.wire + 1)) (sym c.as_mut_slice.ensures.value)
    (subst (λ (n : ℕ). Lies n (contents worker.frames.items) job.out (worker.wire + 1)) g.met.D.Driver.bytes
    (value_in rules part driver worker stands (worker.wire + 1) job.out (received_fits rules part driver worker stands job at c.requires.receives)))

pub past_wire-requires-clause-place : goal.past_wire-requires-clause-place
past_wire-requires-clause-place g c =
    let rules = g.D.Driver.rules in
    let part = c.args.part.now in
    let driver = g.D.Driver.tells c.args.driver.now in
    let worker = c.args.worker.now in
    let stands = c.requires.stands in
    let at = c.requires.here in
    let job = c.args.job in
    let x = entry.Do c.args.job in
    few rules part driver worker stands x at

pub returns-in-Some-clause-stands : goal.returns-in-Some-clause-stands
returns-in-Some-clause-stands g c =
    let rules = g.D.Driver.rules in
    let part = c.args.part.now in
    let driver = g.D.Driver.tells c.args.driver.now in
    let worker = c.args.worker.now in
    let stands = c.requires.stands in
    let at = c.requires.here in
    let job = c.args.job in
    let x = entry.Do c.args.job in
    let value : c.as_mut_slice.result.now ≡ worker.frames.items = c.as_mut_slice.ensures.value in
    let same : length c.receive.new.frames ≡ length worker.frames.items = c.receive.auto.frames ∙ ap (λ (l : List (Vec ℕ Global)). length l) value in
    let back = back_again worker.frames c.receive.new.frames same in
    let lengths = ap (λ (l : List (Vec ℕ Global)). lengths_of (contents l)) back ∙ c.receive.ensures.lengths ∙ ap (λ (l : List (Vec ℕ Global)). lengths_of (contents l)) value in
    past_stands rules part driver worker stands job at (with_items worker.frames c.receive.new.frames) lengths c.past_wire.result.0 c.past_wire.result.1 c.past_wire.ensures.place c.past_wire.ensures.wire

pub returns-in-Some-clause-turn : goal.returns-in-Some-clause-turn
returns-in-Some-clause-turn g c =
    let rules = g.D.Driver.rules in
    let part = c.args.part.now in
    let driver = g.D.Driver.tells c.args.driver.now in
    let worker = c.args.worker.now in
    let stands = c.requires.stands in
    let at = c.requires.here in
    let job = c.args.job in
    let x = entry.Do c.args.job in
    let links = c.args.links.now in
    let bytes = c.in-Some.wire.bytes in
    let value : c.as_mut_slice.result.now ≡ worker.frames.items = c.as_mut_slice.ensures.value in
    let same : length c.receive.new.frames ≡ length worker.frames.items = c.receive.auto.frames ∙ ap (λ (l : List (Vec ℕ Global)). length l) value in
    let back = back_again worker.frames c.receive.new.frames same in
    let filled = ap (λ (l : List (Vec ℕ Global)). bank_of (contents l)) back ∙ c.receive.ensures.bank
    ∙ ap (λ (l : List (Vec ℕ Global)). with_wires rules (bank_of (contents l)) (spot_of_wire job.out worker.wire) (received_form rules bytes ∷ [])) value in
    let taken = c.in-Some.ensures.first in
    let first = ap (λ (k : ℕ). lies_in links job.imm k) (sym c.worker-2.ensures) ∙ taken.1 in
    let has = subst (λ (k : ℕ). HasPlace links.links job.imm k) c.worker.ensures c.lying.ensures.there in
    let put = queue_taken links c.try_recv.new.self job.imm part.worker bytes taken.0 has (taken.2 ∙ ap (λ (k : ℕ). queues_without links job.imm k bytes taken.0) c.worker-2.ensures) in
    taken_turns rules part driver worker stands job at c.past_wire.result.0 c.past_wire.result.1 c.past_wire.ensures.place c.past_wire.ensures.wire links.capacity
    (lies_in links) (lies_in c.try_recv.new.self) c.requires.receives bytes taken.0 first (with_items worker.frames c.receive.new.frames) filled put
