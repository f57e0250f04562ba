-- The workers of a memory program, over slots and links: where they begin, what each does on its own,
-- and what all do together.
use Rattle.std.specs.Prelude.{ℕ, zero, suc, List, [], length, Option, Some, None, not, if◌then◌else◌, nat_eq, nat_lt, slice_index_or}
use Rattle.std.specs.Option.{option_or}
use Rattle.mage_instr.specs.declared.directive.Directive.{Directive}
use Rattle.mage_instr.specs.declared.directive.MemProgram.{MemProgram}
use Rattle.mage_network.specs.Workers.{Act, Moves, Sends, Takes, Stops, Worker, fresh}
use Rattle.mage_network.specs.Together.{Joint, Alone, Hands, joint, together}
use Rattle.mage_network.specs.Slots.{Paged, idle, at_once}
use Rattle.mage_network.specs.Answers.{Hearing, Answered, answered}
use Rattle.mage_network.specs.Reading.{Flying, flying_of, hearing}
use Rattle.mage_driver.specs.Rules.{Rules}
use Rattle.mage_driver.specs.Calls.{Call}
use Rattle.mage_steps.specs.Frames.{cleared}
use Rattle.mage_steps.specs.Engines.{Engine, Next, doing, opened}

-- the directives of a worker; none beside the workers
abbrev pub directives_of : MemProgram → (worker : ℕ) → List Directive
directives_of plan worker = slice_index_or plan.workers worker []

-- the two that hand a wire over, if their acts meet
abbrev pub met : {S L W : Type 0} → (source target : ℕ) → (sending taking : Act S L W) →
    Option Joint
met source target (Sends to wire sent) (Takes from took) =
    if nat_eq to target then if nat_eq from source then Some (Hands source target) else None else
    None
met source target _ _ = None

-- the joint turn in which a worker that has this act goes on, if it can
abbrev pub turn_of : {S L W : Type 0} → (acts : ℕ → Act S L W) → (worker : ℕ) → Act S L W →
    Option Joint
turn_of acts worker (Moves said after) = Some (Alone worker)
turn_of acts worker (Sends target wire after) = met worker target (acts worker) (acts target)
turn_of acts worker (Takes source after) = met source worker (acts source) (acts worker)
turn_of acts worker Stops = None

-- the turn of the lowest worker below a number that can go on
abbrev pub lowest_turn : {S L W : Type 0} → (acts : ℕ → Act S L W) → (count : ℕ) → Option Joint
lowest_turn acts zero = None
lowest_turn acts (suc count) =
    option_or (lowest_turn acts count) (turn_of acts count (acts count))

-- a turn, if there is one
abbrev pub turned : {S L W : Type 0} → (ℕ → S → Act S L W) → Option Joint → (ℕ → Worker S L W) →
    ℕ → Worker S L W
turned next None workers = workers
turned next (Some turn) workers = joint next turn workers

-- so many joint turns, each of the lowest worker that can go on
abbrev pub lowest_first : {S L W : Type 0} → (ℕ → S → Act S L W) → (count turns : ℕ) → (ℕ →
    Worker S L W) → ℕ → Worker S L W
lowest_first next count zero workers = workers
lowest_first next count (suc turns) workers = lowest_first next count turns
    (turned next (lowest_turn (λ n. next n (workers n).state) count) workers)

module _ {W : Type 0} (rules : Rules W) (plan : MemProgram) where
  -- what a worker's engine does next
  abbrev pub engine_of : (worker : ℕ) → Engine rules.State → Next rules
  engine_of worker = doing rules plan.limits.page (directives_of plan worker)

  -- a worker before its first directive, with its driver in this state; beside the workers one that
  -- has ended
  abbrev pub engine_at_first : (drivers : ℕ → rules.State) → (worker : ℕ) → Engine rules.State
  engine_at_first drivers worker =
      record (opened rules plan.limits.page (drivers worker)) {
        is_finished = not (nat_lt worker (length plan.workers));
      }

  abbrev pub Core : Type 0
  Core = Paged (Engine rules.State) (List ℕ)

  -- no slot is in flight, and no page was written
  abbrev pub core_at_first : (drivers : ℕ → rules.State) → (worker : ℕ) → Core
  core_at_first drivers worker = idle (engine_at_first drivers worker) (λ page. cleared rules
      plan.limits.page)

  -- what a worker means to do next: each transfer is asked, claimed and served at once
  abbrev pub core_act : (worker : ℕ) → Core → Act Core (Call rules.State W) (List ℕ)
  core_act = at_once engine_of

  -- all workers after some joint turns, in whatever order: one goes on alone, or a Send with its Recv
  abbrev pub joint_after : (drivers : ℕ → rules.State) → List Joint →
      ℕ → Worker Core (Call rules.State W) (List ℕ)
  joint_after drivers turns = together core_act (core_at_first drivers) turns

  -- so many turns, each of the lowest worker that can go on
  abbrev pub joint_core : (drivers : ℕ → rules.State) → (turns : ℕ) →
      ℕ → Worker Core (Call rules.State W) (List ℕ)
  joint_core drivers turns = lowest_first core_act (length plan.workers) turns
      (λ worker. fresh (core_at_first drivers worker))

  -- a worker without its pages, whose reads are answered
  abbrev pub Flight : Type 0
  Flight = Flying (Engine rules.State) (List ℕ)

  abbrev pub flight_at_first : (drivers : ℕ → rules.State) → (worker : ℕ) → Flight
  flight_at_first drivers worker = flying_of (core_at_first drivers worker)

  -- what such a worker does next: a read takes the next answer of its page
  abbrev pub core_hearing : (worker : ℕ) → Flight →
      Hearing Flight (Call rules.State W) (List ℕ) (List ℕ)
  core_hearing = hearing engine_of

  -- the same over answers: the k-th read of a page of a worker takes the k-th of its answers, and zeros
  -- past the last
  abbrev pub answered_act : (worker : ℕ) → Answered Flight (List ℕ) →
      Act (Answered Flight (List ℕ)) (Call rules.State W) (List ℕ)
  answered_act worker = answered (Some (cleared rules plan.limits.page)) (core_hearing worker)

  abbrev pub answered_after : (drivers : ℕ → rules.State) → (answers : ℕ → ℕ → List (List ℕ)) →
      List Joint → ℕ → Worker (Answered Flight (List ℕ)) (Call rules.State W) (List ℕ)
  answered_after drivers answers turns = together answered_act
      (λ worker. record { state = flight_at_first drivers worker; answers = answers worker }) turns
