-- The directives of a list, in the pages' own numbers, are a schedule of it.
use Rattle.std.proofs.Common.{◌≡◌, ◌≤◌, ℕ, zero, suc, List, [], ◌∷◌, length, None, refl, sym, ◌∙◌, ap, arith}
use Rattle.std.proofs.lemmas.Bool.{false≢true}
use Rattle.std.proofs.lemmas.List.{length-replicate}
use Rattle.mage_instr.specs.declared.replaced.Replaced.{Replaced}
use Rattle.mage_sched.specs.declared.slot.Slot.TheVariants as state
use Rattle.mage_sched.specs.declared.read.Read.{Read}
use Rattle.mage_sched.specs.declared.read.Timed.{Timed}
use Rattle.mage_sched.specs.Reads.{reads_of, timed_of}
use Rattle.mage_sched.specs.Rule.{IsReplaced}
use Rattle.mage_sched.specs.Slots.{idle_slots, idle_buffer}
use Rattle.mage_sched.specs.Schedule.{schedule_of, buffer_tight}
use Rattle.mage_sched.specs.Issues.{unseen}
use Rattle.mage_sched.specs.Turns.{at_rest}
use Rattle.mage_sched.specs.Plainly.{plainly}
use Rattle.mage_sched.specs.Scheduled.{IsSchedule, SchedulesArePlain}
use Rattle.mage_sched.proofs.Issues.{length-timed_from}
use Rattle.mage_sched.proofs.Kept.{order_is_kept}
use Rattle.mage_sched.proofs.Coming.{Each, lost_by_due, due_in_order}
use Rattle.mage_sched.proofs.Spacing.{AllReads}
use Rattle.mage_sched.proofs.Memories.{nothing_in}
use Rattle.mage_sched.proofs.Tables.{slot_at, readers-idle, idle_reads, idle_writes}
use Rattle.mage_sched.proofs.Buffers.{AreSlots}
use Rattle.mage_sched.proofs.Turning.{Turn}
use Rattle.mage_sched.proofs.Course.{has_room, room_for_reads, times_of, walk}

each_all : {X : Type 0} (P : X → Type 0) → ((x : X) → P x) → (xs : List X) → Each P xs
each_all P f [] = tt
each_all P f (x ∷ xs) = (f x, each_all P f xs)

pub all_idle : (count slot : ℕ) → slot_at (idle_slots count) slot ≡ state.Idle
all_idle zero slot = refl
all_idle (suc count) zero = refl
all_idle (suc count) (suc slot) = all_idle count slot

-- at first nothing is in flight
slots_at_rest : (buffer : ℕ) (list : List Replaced) (waiting : List Timed) → AreSlots buffer [] list [] waiting (idle_buffer buffer) unseen at_rest
slots_at_rest buffer list waiting = record {
  count = length-replicate buffer state.Idle;
  does = λ slot. sym (all_idle buffer slot);
  reading = λ slot page h. absurd (idle_reads page h);
  writing = λ slot page h. absurd (idle_writes page h);
  alone = λ slot other page h k. absurd (false≢true h);
  writes = λ slot. refl;
  kept = λ page h. absurd (false≢true h);
  air = tt;
  number = readers-idle (idle_slots buffer) (all_idle buffer);
  distinct = tt;
}

-- the directives of a list are in turn
pub own_turn : (buffer ahead : ℕ) (list : List Replaced) → IsReplaced list → buffer_tight buffer list ≡ None
    → Turn buffer unseen at_rest (schedule_of buffer ahead list) list (reads_of list) (times_of (timed_of buffer ahead (reads_of list))) (length (timed_of buffer ahead (reads_of list)))
own_turn buffer ahead list rule loose =
    let reads = reads_of list in
    let all = timed_of buffer ahead reads in
    let has = has_room buffer list loose in
    let whole : AllReads buffer reads = record { order = due_in_order [] list; lost = lost_by_due [] list; room = λ some. room_for_reads buffer [] list has some } in
    walk buffer ahead reads whole all list [] 0 [] [] all (idle_buffer buffer) unseen at_rest
    (record {
      entries = rule;
      has = has;
      memory = nothing_in;
      stand = record { past = []; count = refl; whole = refl };
      whole = refl;
      number = refl;
      coming = refl;
      due = tt;
      early = tt;
      late = each_all (λ (read : Timed). 0 ≤ read.issue) (λ read. omega arith) all;
    })
    (slots_at_rest buffer list all)
    (record { now = refl; holds = λ frame. refl; left = λ page. refl })

pub own_schedule : (buffer ahead : ℕ) (list : List Replaced) → IsReplaced list → buffer_tight buffer list ≡ None → IsSchedule buffer ahead list (schedule_of buffer ahead list)
own_schedule buffer ahead list rule loose =
    let turn = own_turn buffer ahead list rule loose in
    let order = order_is_kept buffer ahead list in
    record {
      reads = turn.done;
      timely = turn.issued ∙ sym (ap (λ (reads : List Read). times_of (timed_of buffer ahead reads)) turn.done);
      turns = turn.turns;
      asked = turn.asks ∙ length-timed_from buffer ahead (reads_of list) (reads_of list) 0;
      sent = ap length order.0;
      jobs = order.1;
      plain = ap (plainly at_rest) turn.own ∙ turn.same;
    }

-- they name the pages that are transferred, and read plainly they are the list
pub schedules_are_plain : SchedulesArePlain
schedules_are_plain buffer ahead list rule loose =
    let turn = own_turn buffer ahead list rule loose in
    (turn.own, turn.same)
