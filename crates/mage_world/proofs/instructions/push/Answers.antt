use Rattle.std.proofs.Common.{◌≡◌, ◌≢◌, ◌+◌, ℕ, List, length, refl, sym, ap, ◌∙◌, subst}
use Rattle.std.specs.Prelude.{Vec, slice_index_or}
use Rattle.std.specs.Global.{Global}
use Rattle.mage_instr.specs.declared.directive.Directive.TheVariants as entry
use Rattle.mage_bank.specs.Bank.{contents, bank_of, Lies}
use Rattle.mage_link.specs.Queues.{lies_in, queues_with}
use Rattle.mage_steps.specs.Engines.{no_spot}
use Rattle.mage_steps.specs.Frames.{sent_form, spot_of_wire, wire_at}
use Rattle.mage_world.proofs.Standing.{few, value_in}
use Rattle.mage_world.proofs.Passing.{sent_fits, past_stands, sent_turns, sent_when, queue_sent, has_room}
use Rattle.mage_world.proofs.instructions.push.Goals as goal

pub send-bytes-requires-clause-lies : goal.send-bytes-requires-clause-lies
send-bytes-requires-clause-lies g c κs outlives =
    let rules = g.D.Driver.rules in
    let part = c.args.part.now in
    let driver = g.D.Driver.tells c.args.driver.now in
    let worker = c.args.worker.now in
    let stands = c.requires.stands in
    let at = c.requires.here in
    let job = c.args.job in
    let x = entry.Do c.args.job in
    subst (λ (l : List (Vec ℕ Global)). Lies g.D.Driver.WIRE_BYTES (contents l) (slice_index_or job.args 0 no_spot) (worker.wire + 1)) (sym c.as_slice.ensures.value)
    (subst (λ (n : ℕ). Lies n (contents worker.frames.items) (slice_index_or job.args 0 no_spot) (worker.wire + 1)) g.met.D.Driver.bytes
    (value_in rules part driver worker stands (worker.wire + 1) (slice_index_or job.args 0 no_spot) (sent_fits rules part driver worker stands job at c.requires.sends)))

pub past_wire-requires-clause-place : goal.past_wire-requires-clause-place
past_wire-requires-clause-place g c =
    let rules = g.D.Driver.rules in
    let part = c.args.part.now in
    let driver = g.D.Driver.tells c.args.driver.now in
    let worker = c.args.worker.now in
    let stands = c.requires.stands in
    let at = c.requires.here in
    let job = c.args.job in
    let x = entry.Do c.args.job in
    few rules part driver worker stands x at

pub returns-clause-stands : goal.returns-clause-stands
returns-clause-stands g c =
    let rules = g.D.Driver.rules in
    let part = c.args.part.now in
    let driver = g.D.Driver.tells c.args.driver.now in
    let worker = c.args.worker.now in
    let stands = c.requires.stands in
    let at = c.requires.here in
    let job = c.args.job in
    let x = entry.Do c.args.job in
    past_stands rules part driver worker stands job at worker.frames refl c.past_wire.result.0 c.past_wire.result.1 c.past_wire.ensures.place c.past_wire.ensures.wire

pub returns-clause-turn : goal.returns-clause-turn
returns-clause-turn g c =
    let rules = g.D.Driver.rules in
    let part = c.args.part.now in
    let driver = g.D.Driver.tells c.args.driver.now in
    let worker = c.args.worker.now in
    let stands = c.requires.stands in
    let at = c.requires.here in
    let job = c.args.job in
    let x = entry.Do c.args.job in
    let links = c.args.links.now in
    let me = c.worker.result in
    let apart : length (lies_in links me job.imm) ≢ links.capacity = λ e. c.if-lying-from.false (c.lying.ensures.count ∙ e ∙ sym (c.from.ensures ∙ c.capacity.ensures)) in
    let room = has_room (length (lies_in links me job.imm)) links.capacity c.lying.ensures.within apart in
    let value : c.as_slice.result.now ≡ worker.frames.items = c.as_slice.ensures.value in
    let bytes = c.send-bytes.ensures ∙ ap (λ (l : List (Vec ℕ Global)). sent_form rules (wire_at rules (bank_of (contents l)) (spot_of_wire (slice_index_or job.args 0 no_spot) worker.wire))) value in
    let same : c.worker-2.result ≡ me = c.worker-2.ensures ∙ sym c.worker.ensures in
    let gone = sent_when links c.try_send.new.self c.worker-2.result job.imm c.send-bytes.result c.try_send.result c.try_send.ensures.appends c.try_send.ensures.full.0
    (subst (λ (k : ℕ). length (lies_in links k job.imm) ≢ links.capacity) (sym same) apart) in
    let put = queue_sent links c.try_send.new.self me job.imm c.send-bytes.result c.lying.ensures.there
    (gone ∙ ap (λ (k : ℕ). queues_with links k job.imm c.send-bytes.result) same) in
    sent_turns rules part driver worker stands job at c.past_wire.result.0 c.past_wire.result.1 c.past_wire.ensures.place c.past_wire.ensures.wire links.capacity
    (lies_in links) (lies_in c.try_send.new.self) c.requires.sends (rw c.worker.ensures at room) (rw (c.worker.ensures, bytes) at put)
