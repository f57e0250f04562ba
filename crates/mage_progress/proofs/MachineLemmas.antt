-- Machines over queues make the steps of their parts.
use Rattle.std.proofs.Common.{◌≡◌, ◌≢◌, ◌≤◌, ◌<◌, ◌+◌, ◌∙◌, ℕ, zero, suc, true, List, [], ◌∷◌, length, Option, Some, None, Result, Ok, Err, refl, sym, ap, subst, arith}
use Rattle.std.specs.Prelude.{slice_get}
use Rattle.mage_base.specs.Faults.{next_count}
use Rattle.mage_instr.specs.declared.directive.Directive.{Directive}
use Rattle.mage_instr.specs.declared.directive.Directive.TheVariants as entry
use Rattle.mage_instr.specs.declared.directive.MemProgram.{MemProgram}
use Rattle.mage_instr.specs.declared.fault.MachineFault.{MachineFault}
use Rattle.mage_instr.specs.declared.op.Op.{Op}
use Rattle.mage_instr.specs.declared.op.Op.TheVariants as op
use Rattle.mage_driver.specs.Rules.{Rules}
use Rattle.mage_driver.specs.Calls.{Told}
use Rattle.mage_driver.specs.declared.standing.Standing.{Standing}
use Rattle.mage_driver.specs.declared.standing.Standing.TheVariants as standing
use Rattle.mage_link.specs.Links.{LinkTold}
use Rattle.mage_link.specs.Queues.{QueueState, queue_told}
use Rattle.mage_port.specs.Port.{PortTold}
use Rattle.mage_verify.specs.Parts.{WorkerPart, part_of, parts_from}
use Rattle.mage_verify.specs.Runs.{AreVerified}
use Rattle.mage_engine.specs.declared.turn.Kind.{Kind}
use Rattle.mage_engine.specs.declared.turn.Turn.{Turn}
use Rattle.mage_engine.specs.declared.turn.Turn.TheVariants as turn
use Rattle.mage_engine.specs.declared.turn.Why.TheVariants as why
use Rattle.mage_engine.specs.Ready.{opened}
use Rattle.mage_engine.specs.Seen.{Seen, directive_at, is_finished, IsEnded}
use Rattle.mage_engine.specs.Steps.{OverLink, AtLink, IsMove, IsWait, Steps}
use Rattle.mage_progress.specs.Stands.{Stand, at_first, directives_in, next_in, HasEnded, stand_after, AtLinks, GoesOn, Waits}
use Rattle.mage_progress.specs.Machines.{stand_of, lying}
use Rattle.mage_progress.proofs.Lying.{at_links, full_waits, empty_waits}

-- ---- parts

directives_are : (parts : List WorkerPart) (worker : ℕ) (part : WorkerPart) → slice_get parts worker ≡ Some part →
    directives_in parts worker ≡ part.directives
directives_are [] zero part e = absurd cc
directives_are [] (suc worker) part e = absurd cc
directives_are (first ∷ parts) zero part e = let same : Some first ≡ Some part = e in ap (λ (p : WorkerPart). p.directives) (let one : first ≡ part = cc in one)
directives_are (first ∷ parts) (suc worker) part e = directives_are parts worker part e

numbered : (plan : MemProgram) (from : ℕ) (workers : List (List Directive)) (k : ℕ) (part : WorkerPart) →
    slice_get (parts_from plan.limits plan.stores from workers) k ≡ Some part → part.worker ≡ from + k
numbered plan from [] zero part e = absurd cc
numbered plan from [] (suc k) part e = absurd cc
numbered plan from (directives ∷ workers) zero part e =
    let same : Some (part_of plan.limits plan.stores from directives) ≡ Some part = e in
    let one : part_of plan.limits plan.stores from directives ≡ part = cc in
    let here : from ≡ from + 0 = omega arith in sym (ap (λ (p : WorkerPart). p.worker) one) ∙ here
numbered plan from (directives ∷ workers) (suc k) part e =
    let next : from + 1 + k ≡ from + suc k = omega arith in numbered plan (from + 1) workers k part e ∙ next

-- the part at a place is that of the worker with this number
pub worker_is : (parts : List WorkerPart) (worker : ℕ) (part : WorkerPart) → AreVerified parts → slice_get parts worker ≡ Some part →
    part.worker ≡ worker
worker_is parts worker part verified e =
    let first : 0 + worker ≡ worker = omega arith in
    numbered verified.whole.0 0 verified.whole.0.workers worker part (subst (λ (ps : List WorkerPart). slice_get ps worker ≡ Some part) verified.whole.2 e) ∙ first

-- ---- links keep their room

over_room : (o : Op) (imm worker : ℕ) (before after : LinkTold) → OverLink o imm worker before after → after.room ≡ before.room
over_room op.Send imm worker before after h = ap (λ (l : LinkTold). l.room) h.1
over_room op.Recv imm worker before after h = ap (λ (l : LinkTold). l.room) h.1
over_room _ imm worker before after h = ap (λ (l : LinkTold). l.room) h

at_room : (o : Option Directive) (worker : ℕ) (before after : LinkTold) → AtLink o worker before after → after.room ≡ before.room
at_room None worker before after h = ap (λ (l : LinkTold). l.room) h
at_room (Some (entry.Fresh frame page)) worker before after h = ap (λ (l : LinkTold). l.room) h
at_room (Some (entry.IssueIn slot page)) worker before after h = ap (λ (l : LinkTold). l.room) h
at_room (Some (entry.FinishIn slot frame)) worker before after h = ap (λ (l : LinkTold). l.room) h
at_room (Some (entry.IssueOut slot frame page)) worker before after h = ap (λ (l : LinkTold). l.room) h
at_room (Some (entry.FinishOut slot)) worker before after h = ap (λ (l : LinkTold). l.room) h
at_room (Some (entry.Do job)) worker before after h = over_room job.op job.imm worker before after h

finished_so : (s : Standing) → is_finished s ≡ true → s ≡ standing.Finished
finished_so standing.Running e = absurd cc
finished_so standing.Finished e = refl
finished_so (standing.Failed f) e = absurd cc

module _ {W : Type 0} (rules : Rules W) where
  pub opened_first : (part : WorkerPart) (driver : Told rules.State) (port : PortTold) → driver.standing ≡ standing.Running →
      stand_of (opened rules part driver port) ≡ at_first
  opened_first part driver port e = ap (λ (s : Standing). record { place = 0; wire = 0; finished = is_finished s }) e

  pub ended_so : (machine : Seen rules.State) → IsEnded machine → HasEnded (directive_at machine) (stand_of machine)
  ended_so machine ended = record { past = ended.past; finished = ap is_finished ended.finished }

  pub done_so : (machine : Seen rules.State) → HasEnded (directive_at machine) (stand_of machine) → IsEnded machine
  done_so machine ended = record { past = ended.past; finished = finished_so machine.driver.standing ended.finished }

  pub next_is : (parts : List WorkerPart) (worker : ℕ) (stands : ℕ → Stand) (machine : Seen rules.State) →
      slice_get parts worker ≡ Some machine.part → stands worker ≡ stand_of machine → next_in parts stands worker ≡ directive_at machine
  next_is parts worker stands machine here at =
      ap (λ (ds : List Directive). slice_get ds (stands worker).place) (directives_are parts worker machine.part here)
      ∙ ap (λ (s : Stand). slice_get machine.part.directives s.place) at

  step_room : (old new : Seen rules.State) (before after : LinkTold) (result : Result Turn MachineFault) →
      Steps rules old new before after result → after.room ≡ before.room
  step_room old new before after (Ok (turn.Moved kind)) h = at_room (directive_at old) old.part.worker before after h.link
  step_room old new before after (Ok (turn.Blocked (why.Slot slot))) h = ap (λ (l : LinkTold). l.room) h.3
  step_room old new before after (Ok (turn.Blocked (why.Full to))) h = ap (λ (l : LinkTold). l.room) h.2
  step_room old new before after (Ok (turn.Blocked (why.Empty from))) h = ap (λ (l : LinkTold). l.room) h.2
  step_room old new before after (Ok turn.Ended) h = ap (λ (l : LinkTold). l.room) h.2
  step_room old new before after (Err fault) h = ap (λ (l : LinkTold). l.room) h.1

  pub capacity_stays : (old new : Seen rules.State) (before after : QueueState) (result : Result Turn MachineFault) →
      Steps rules old new (queue_told before) (queue_told after) result → after.capacity ≡ before.capacity
  capacity_stays old new before after result h =
      let same : Some after.capacity ≡ Some before.capacity = step_room old new (queue_told before) (queue_told after) result h in cc

  pub never_pends : (old new : Seen rules.State) (before after : LinkTold) (slot : ℕ) → IsWait rules old new before after (why.Slot slot) →
      old.port.waits ≡ 0 → new.port.waits ≡ 0 → ⊥
  never_pends old new before after slot h first last =
      let rose : next_count old.port.waits ≤ new.port.waits = h.2.2 in
      let one : next_count 0 ≤ 0 = subst (λ (n : ℕ). next_count 0 ≤ n) last (subst (λ (n : ℕ). next_count n ≤ new.port.waits) first rose) in
      omega (arith, one)

  module _ (parts : List WorkerPart) (worker : ℕ) (old new : Seen rules.State) (before after : QueueState) (verified : AreVerified parts)
      (here : slice_get parts worker ≡ Some old.part) where
    number : old.part.worker ≡ worker
    number = worker_is parts worker old.part verified here

    pub full_so : (to : ℕ) → IsWait rules old new (queue_told before) (queue_told after) (why.Full to) →
        Waits (directive_at old) before.capacity worker (lying before)
    full_so to h =
        subst (λ (n : ℕ). Waits (directive_at old) before.capacity n (lying before)) number
        (full_waits before old.part.worker (directive_at old) to h.0 h.3)

    pub empty_so : (from : ℕ) → IsWait rules old new (queue_told before) (queue_told after) (why.Empty from) →
        Waits (directive_at old) before.capacity worker (lying before)
    empty_so from h =
        subst (λ (n : ℕ). Waits (directive_at old) before.capacity n (lying before)) number
        (empty_waits before old.part.worker (directive_at old) from h.0 h.3)

    pub moved_so : (stands later : ℕ → Stand) (moved : Kind) → IsMove rules old new (queue_told before) (queue_told after) moved →
        (IsEnded old → ⊥) → stands worker ≡ stand_of old → later worker ≡ stand_of new →
        ((other : ℕ) → other < length parts → worker ≢ other → later other ≡ stands other) →
        GoesOn parts worker stands (lying before) later (lying after)
    moved_so stands later moved move runs at then_at others = record {
      runs = λ ended. runs (record {
        past = sym next ∙ ended.past;
        finished = finished_so old.driver.standing (sym (ap (λ (s : Stand). s.finished) at) ∙ ended.finished);
      });
      stand = then_at ∙ stands_so ∙ ap (λ (o : Option Directive). stand_after o (stand_of old)) (sym next)
          ∙ ap (λ (s : Stand). stand_after (next_in parts stands worker) s) (sym at);
      others = others;
      links = subst (λ (o : Option Directive). AtLinks o worker (lying before) (lying after)) (sym next)
          (subst (λ (n : ℕ). AtLinks (directive_at old) n (lying before) (lying after)) number
          (at_links before after (directive_at old) old.part.worker move.link));
    }
      where
        next : next_in parts stands worker ≡ directive_at old
        next = next_is parts worker stands old here at

        stands_so : stand_of new ≡ stand_after (directive_at old) (stand_of old)
        stands_so =
            ap (λ (m : Seen rules.State). record { place = m.place; wire = m.wire; finished = is_finished new.driver.standing }) move.rest
            ∙ ap (λ (d : Told rules.State). record (stand_after (directive_at old) (stand_of old)) { finished = is_finished d.standing }) move.driver
