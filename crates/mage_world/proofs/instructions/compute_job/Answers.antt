use Rattle.std.proofs.Common.{◌≡◌, ℕ, List, length, sym, ap, ◌∙◌, subst, arith}
use Rattle.std.specs.Prelude.{Vec}
use Rattle.std.specs.Global.{Global}
use Rattle.std.specs.Vec.{with_items}
use Rattle.mage_instr.specs.declared.directive.Directive.TheVariants as entry
use Rattle.mage_bank.specs.Bank.{contents, lengths_of}
use Rattle.mage_bank.specs.Jobs.{JobLies}
use Rattle.mage_world.proofs.SlotCalls.{back_again}
use Rattle.mage_world.proofs.Standing.{meets, few, values_lie}
use Rattle.mage_world.proofs.Handling.{made_stands}
use Rattle.mage_world.proofs.instructions.compute_job.Goals as goal

pub compute-requires-clause-lies : goal.compute-requires-clause-lies
compute-requires-clause-lies g c κs outlives =
    let rules = g.D.Driver.rules in
    let part = c.args._part.now in
    let driver = g.D.Driver.tells c.args.driver.now in
    let worker = c.args.worker.now in
    let stands = c.requires.stands in
    let at = c.requires.here in
    let x = entry.Do c.args.job in
    subst (λ (l : List (Vec ℕ Global)). JobLies g.D.Driver.WIRE_BYTES (contents l) c.args.job) (sym c.as_mut_slice.ensures.value)
    (subst (λ (n : ℕ). JobLies n (contents worker.frames.items) c.args.job) g.met.D.Driver.bytes
    (values_lie rules part driver worker stands c.args.job (meets rules part driver worker stands x at)))

pub overflow_add-worker : goal.overflow_add-worker
overflow_add-worker g c =
    let rules = g.D.Driver.rules in
    let part = c.args._part.now in
    let driver = g.D.Driver.tells c.args.driver.now in
    let worker = c.args.worker.now in
    let stands = c.requires.stands in
    let at = c.requires.here in
    let x = entry.Do c.args.job in
    let f = few rules part driver worker stands x at in omega (arith, f)

pub returns-in-Ok-clause-stands : goal.returns-in-Ok-clause-stands
returns-in-Ok-clause-stands g c =
    let rules = g.D.Driver.rules in
    let part = c.args._part.now in
    let driver = g.D.Driver.tells c.args.driver.now in
    let worker = c.args.worker.now in
    let stands = c.requires.stands in
    let at = c.requires.here in
    let x = entry.Do c.args.job in
    let value : c.as_mut_slice.result.now ≡ worker.frames.items = c.as_mut_slice.ensures.value in
    let same : length c.compute.new.frames ≡ length worker.frames.items = c.compute.auto.frames ∙ ap (λ (l : List (Vec ℕ Global)). length l) value in
    let back = back_again worker.frames c.compute.new.frames same in
    let after = g.D.Driver.tells c.compute.new.driver in
    let lengths = ap (λ (l : List (Vec ℕ Global)). lengths_of (contents l)) back ∙ c.compute.ensures.lengths ∙ ap (λ (l : List (Vec ℕ Global)). lengths_of (contents l)) value in
    made_stands rules part driver worker stands c.args.job c.requires.made at after c.in-Ok.ensures.circuit.rest (with_items worker.frames c.compute.new.frames) lengths
