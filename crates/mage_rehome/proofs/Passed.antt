-- What the passes made of a program when each page was stored under its own number: it carries the program, and is accepted.
use Rattle.std.proofs.Common.{◌≡◌, ◌<◌, ◌≤◌, ◌+◌, ◌⊎◌, inl, inr, zero, suc, ℕ, Bool, true, false, not, cond, List, [], ◌∷◌, Option, None, Some, IfSome, length, map, max, nat_eq, refl, sym, ◌∙◌, ap, arith, ⊎_elim, subst}
use Rattle.std.specs.Prelude.{slice_get}
use Rattle.std.specs.List.{filter}
use Rattle.std.proofs.lemmas.Bool.{eqb-true, false≢true}
use Rattle.std.proofs.lemmas.List.{length-map}
use Rattle.std.proofs.lemmas.List.Filters.{length-filter_both}
use Rattle.mage_instr.specs.declared.instr.Instr.{Instr}
use Rattle.mage_instr.specs.declared.instr.Place.{Place}
use Rattle.mage_instr.specs.declared.instr.Step.{Step}
use Rattle.mage_instr.specs.declared.op.Op.{Op}
use Rattle.mage_instr.specs.declared.op.Op.TheVariants as op
use Rattle.mage_instr.specs.declared.directive.Directive.{Directive}
use Rattle.mage_instr.specs.declared.directive.Directive.TheVariants as entry
use Rattle.mage_instr.specs.declared.replaced.Limits.{Limits}
use Rattle.mage_instr.specs.declared.replaced.Replaced.{Replaced}
use Rattle.mage_instr.specs.Opcodes.{WidthOk}
use Rattle.mage_instr.specs.Sound.{IsSoundAt}
use Rattle.mage_linked.specs.declared.emitted.Emitted.{Emitted}
use Rattle.mage_linked.specs.Emission.{own_instrs, program_of}
use Rattle.mage_linked.specs.Workers.{list_at}
use Rattle.mage_linked.proofs.EmissionLemmas.{length-own_instrs}
use Rattle.mage_linked.proofs.LinkedLemmas.{AreLinked-below}
use Rattle.mage_place.specs.Places.{ArePlaces}
use Rattle.mage_place.specs.Placing.{places_of, trace_of}
use Rattle.mage_place.specs.Steps.{AreSteps}
use Rattle.mage_place.proofs.PlacesComputed.{ArePlaces-computed}
use Rattle.mage_place.proofs.StepsComputed.{AreSteps-computed}
use Rattle.mage_belady.specs.Rule.{rule_of}
use Rattle.mage_carry.specs.Carrying.{break_of}
use Rattle.mage_residency.specs.Plain.{CarriesPlainly}
use Rattle.mage_residency.proofs.Carrying.{rule_carries}
use Rattle.mage_residency.proofs.Cutting.{cut_transfers_carry}
use Rattle.mage_residency.proofs.Joining.{new_or_old}
use Rattle.mage_sched.specs.declared.slot.Slot.{Slot}
use Rattle.mage_sched.specs.declared.slot.Slot.TheVariants as state
use Rattle.mage_sched.specs.Homes.{Homed, Store, empty_store, store_after, homed_from, homed_of}
use Rattle.mage_sched.specs.Plainly.{page_of, plainly}
use Rattle.mage_sched.specs.Rule.{IsReplaced}
use Rattle.mage_sched.specs.Scheduled.{AreBelow}
use Rattle.mage_sched.specs.Turns.{Flight, at_rest, stored_by, flight_after, AreInTurn}
use Rattle.mage_sched.proofs.Own.{own_schedule, schedules_are_plain}
use Rattle.mage_schedulable.specs.Planning.{AllCarry, program_of as memory_program_of}
use Rattle.mage_schedulable.specs.PlanOf.{CanBePlanned, AllCanBePlanned, passed}
use Rattle.mage_schedulable.proofs.Entries.{rule_lists_are_replaced}
use Rattle.mage_schedulable.proofs.Planning.{programs_carry}
use Rattle.mage_directives.specs.Directives.{most_pages, LinksTo, IsPart, IsMemProgram}
use Rattle.mage_accepted.proofs.Directives.{AreRight, written_from, each_in_range, length-homed}
use Rattle.mage_accepted.proofs.Lists.{AreInstrs, AreFine, rule_is_short}
use Rattle.mage_accepted.proofs.Pages.{AreLow as AreLowSteps, steps_are_low}
use Rattle.mage_accepted.proofs.Ranges.{passed_plans_are_accepted}
use Rattle.mage_accepted.proofs.Stores.{AreWritten}
use Rattle.mage_accepted.proofs.Together.{workers_are, carrying_plans_have_no_fault}
use Rattle.mage_rehome.specs.Earlier.{scheduled, above_all, on_own_pages, earlier_of, EarlierPlansComeToTodays, EarlierPlansAreAccepted}
use Rattle.mage_rehome.proofs.Ranges.{right_of, IsInRange, made_in_range}

-- ---- one above the greatest page of a transfer

-- each transfer names a page below it
below_above : (n : ℕ) (part : List Directive) → above_all part ≤ n → AreBelow n part
below_above n [] le = tt
below_above n (entry.Fresh frame page ∷ part) le = (tt, below_above n part (omega (arith, le)))
below_above n (entry.IssueIn slot page ∷ part) le = (omega (arith, le), below_above n part (omega (arith, le)))
below_above n (entry.FinishIn slot frame ∷ part) le = (tt, below_above n part (omega (arith, le)))
below_above n (entry.IssueOut slot frame page ∷ part) le = (omega (arith, le), below_above n part (omega (arith, le)))
below_above n (entry.FinishOut slot ∷ part) le = (tt, below_above n part (omega (arith, le)))
below_above n (entry.Do job ∷ part) le = (tt, below_above n part (omega (arith, le)))

-- and it is the least such number
above_least : (n : ℕ) (part : List Directive) → AreBelow n part → above_all part ≤ n
above_least n [] below = omega arith
above_least n (entry.Fresh frame page ∷ part) below = let rest = above_least n part below.1 in omega (arith, rest)
above_least n (entry.IssueIn slot page ∷ part) below = let rest = above_least n part below.1 in let first = below.0 in omega (arith, first, rest)
above_least n (entry.FinishIn slot frame ∷ part) below = let rest = above_least n part below.1 in omega (arith, rest)
above_least n (entry.IssueOut slot frame page ∷ part) below = let rest = above_least n part below.1 in let first = below.0 in omega (arith, first, rest)
above_least n (entry.FinishOut slot ∷ part) below = let rest = above_least n part below.1 in omega (arith, rest)
above_least n (entry.Do job ∷ part) below = let rest = above_least n part below.1 in omega (arith, rest)

-- ---- what is read was written, so both name pages below a number

record AreLow (n : ℕ) (flight : Flight) : Type 0 where
  stored : (q : ℕ) → flight.stored q ≡ true → q < n
  writes : (s q : ℕ) → flight.does s ≡ state.Writes q → q < n

idle_not_writes : (page : ℕ) → state.Idle ≡ state.Writes page → ⊥
idle_not_writes page e = cc

reads_not_writes : (other page : ℕ) → state.Reads other ≡ state.Writes page → ⊥
reads_not_writes other page e = cc

-- a page that is stored by a slot was written by it, or stored before
written_or_stored : (doing : Slot) (stored : ℕ → Bool) (q : ℕ) → stored_by doing stored q ≡ true → (doing ≡ state.Writes q) ⊎ (stored q ≡ true)
written_or_stored state.Idle stored q h = inr h
written_or_stored (state.Reads page) stored q h = inr h
written_or_stored (state.Writes page) stored q h = go (nat_eq page q) refl h where
  go : (b : Bool) → nat_eq page q ≡ b → cond b true (stored q) ≡ true → (state.Writes page ≡ state.Writes q) ⊎ (stored q ≡ true)
  go true e f = inl (ap state.Writes (eqb-true page q e))
  go false e f = inr f

all_low : (n buffer : ℕ) (flight : Flight) (part : List Directive) → AreLow n flight → AreInTurn buffer flight part → AreWritten n part → AreBelow n part
all_low n buffer flight [] low turns written = tt
all_low n buffer flight (entry.Fresh frame page ∷ part) low turns written = (tt, all_low n buffer flight part low turns.1 written.1)
all_low n buffer flight (entry.IssueIn slot page ∷ part) low turns written = (
  low.stored page turns.0.1,
  all_low n buffer (flight_after (entry.IssueIn slot page) flight) part (record {
    stored = low.stored;
    writes = λ s q e. ⊎_elim (λ new. absurd (reads_not_writes page q new)) (λ old. low.writes s q old) (new_or_old slot (state.Reads page) flight.does s (state.Writes q) e);
  }) turns.1 written.1,
)
all_low n buffer flight (entry.FinishIn slot frame ∷ part) low turns written = (
  tt,
  all_low n buffer (flight_after (entry.FinishIn slot frame) flight) part (record {
    stored = low.stored;
    writes = λ s q e. ⊎_elim (λ new. absurd (idle_not_writes q new)) (λ old. low.writes s q old) (new_or_old slot state.Idle flight.does s (state.Writes q) e);
  }) turns.1 written.1,
)
all_low n buffer flight (entry.IssueOut slot frame page ∷ part) low turns written = (
  written.0,
  all_low n buffer (flight_after (entry.IssueOut slot frame page) flight) part (record {
    stored = low.stored;
    writes = λ s q e. ⊎_elim (λ new. subst (λ k. k < n) (ap page_of new) written.0) (λ old. low.writes s q old) (new_or_old slot (state.Writes page) flight.does s (state.Writes q) e);
  }) turns.1 written.1,
)
all_low n buffer flight (entry.FinishOut slot ∷ part) low turns written = (
  tt,
  all_low n buffer (flight_after (entry.FinishOut slot) flight) part (record {
    stored = λ q e. ⊎_elim (λ new. low.writes slot q new) (λ old. low.stored q old) (written_or_stored (flight.does slot) flight.stored q e);
    writes = λ s q e. ⊎_elim (λ new. absurd (idle_not_writes q new)) (λ old. low.writes s q old) (new_or_old slot state.Idle flight.does s (state.Writes q) e);
  }) turns.1 written.1,
)
all_low n buffer flight (entry.Do job ∷ part) low turns written = (tt, all_low n buffer flight part low turns.1 written.1)

none_low : (n : ℕ) → AreLow n at_rest
none_low n = record { stored = λ q e. absurd (false≢true e); writes = λ s q e. absurd (idle_not_writes q e) }

-- ---- one worker

-- one above the greatest immediate
abbrev above_imms : List Instr → ℕ
above_imms [] = 0
above_imms (i ∷ instrs) = max (i.imm + 1) (above_imms instrs)

links_far : (n : ℕ) (o : Op) (imm : ℕ) → imm < n → LinksTo n n o imm
links_far n op.Send imm lt = (lt, λ e. omega (arith, e, lt))
links_far n op.Recv imm lt = (lt, λ e. omega (arith, e, lt))
links_far n _ imm lt = tt

-- Among enough workers the links of any instructions lead somewhere. Which pages the rule's list names doesn't rest on links.
far_instrs : (n : ℕ) (instrs : List Instr) → ((t : ℕ) → IfSome (slice_get instrs t) (λ i. WidthOk i.op i.width i.imm)) → above_imms instrs ≤ n → AreInstrs n n instrs
far_instrs n [] wide le = tt
far_instrs n (i ∷ instrs) wide le = (record { width = wide 0; link = links_far n i.op i.imm (omega (arith, le)) }, far_instrs n instrs (λ t. wide (suc t)) (omega (arith, le)))

wide_at : (o : Option Instr) (instrs : List Instr) (t : ℕ) → IfSome o (IsSoundAt instrs t) → IfSome o (λ i. WidthOk i.op i.width i.imm)
wide_at None instrs t h = tt
wide_at (Some i) instrs t h = h.0

-- the rule's list names pages below the number of instructions
rule_is_low : (frames n : ℕ) (places : List Place) (trace : List Step) (instrs : List Instr) → AreLowSteps (length instrs) trace → AreInstrs n n instrs
    → AreFine (length instrs) n n (rule_of frames instrs places trace)
rule_is_low frames n places trace [] low are = tt
rule_is_low frames n places trace (i ∷ instrs) low are =
    (rule_is_short (length (i ∷ instrs)) n n (omega arith) frames places 0 [] [] (i ∷ instrs) trace (λ q h. absurd (false≢true h)) low are).fine

-- directives with store pages are right, and so are those that they came from
right_before : (n workers own : ℕ) (store : Store) (part : List Directive) → AreRight n workers own (homed_from store part).directives → AreRight n workers own part
right_before n workers own store [] h = tt
right_before n workers own store (entry.Fresh frame page ∷ part) h = (h.0, right_before n workers own (store_after (entry.Fresh frame page) part store) part h.1)
right_before n workers own store (entry.IssueIn slot page ∷ part) h = (tt, right_before n workers own (store_after (entry.IssueIn slot page) part store) part h.1)
right_before n workers own store (entry.FinishIn slot frame ∷ part) h = (tt, right_before n workers own (store_after (entry.FinishIn slot frame) part store) part h.1)
right_before n workers own store (entry.IssueOut slot frame page ∷ part) h = (tt, right_before n workers own (store_after (entry.IssueOut slot frame page) part store) part h.1)
right_before n workers own store (entry.FinishOut slot ∷ part) h = (tt, right_before n workers own (store_after (entry.FinishOut slot) part store) part h.1)
right_before n workers own store (entry.Do job ∷ part) h = (h.0, right_before n workers own (store_after (entry.Do job) part store) part h.1)

module _ (limits : Limits) (instrs : List Instr) (can : CanBePlanned limits instrs) where
  abbrev places : List Place
  places = places_of instrs limits.page

  abbrev trace : List Step
  trace = trace_of instrs places

  abbrev list : List Replaced
  list = rule_of limits.frames instrs places trace

  are : ArePlaces instrs limits.page places
  are = ArePlaces-computed instrs limits.page

  steps : AreSteps instrs places trace
  steps = AreSteps-computed instrs places can.sound are.count

  rule : IsReplaced list
  rule = rule_lists_are_replaced limits.frames instrs places trace can.sound steps can.frames

  turns : AreInTurn limits.buffer at_rest (scheduled limits instrs)
  turns = (own_schedule limits.buffer limits.ahead list rule can.buffer).turns

  plain : plainly at_rest (scheduled limits instrs) ≡ list
  plain = (schedules_are_plain limits.buffer limits.ahead list rule can.buffer).1

  earlier_carries : break_of limits (above_all (scheduled limits instrs)) instrs (scheduled limits instrs) ≡ None
  earlier_carries =
      let Carries : List Replaced → Type 0 = CarriesPlainly limits.frames limits.page instrs in
      cut_transfers_carry limits (above_all (scheduled limits instrs)) instrs (scheduled limits instrs) turns
      (below_above (above_all (scheduled limits instrs)) (scheduled limits instrs) (omega arith))
      (subst Carries (sym plain) (rule_carries limits.frames limits.page instrs places trace can.sound can.have can.page are steps can.frames))

  -- each transfer names a page below the number of instructions
  low : AreBelow (length instrs) (scheduled limits instrs)
  low =
      let n = above_imms instrs in
      let instrs_are = far_instrs n instrs (λ t. wide_at (slice_get instrs t) instrs t (can.sound.each t)) (omega arith) in
      let Fine : List Replaced → Type 0 = AreFine (length instrs) n n in
      let fine = subst Fine (sym plain) (rule_is_low limits.frames n places trace instrs (steps_are_low instrs limits.page places trace are steps) instrs_are) in
      all_low (length instrs) limits.buffer at_rest (scheduled limits instrs) (none_low (length instrs)) turns
      (written_from (length instrs) n n at_rest (scheduled limits instrs) fine)

  earlier_in_range : (total own : ℕ) → length instrs ≤ most_pages → IsPart total own (passed limits instrs).directives
      → IsInRange total own (on_own_pages (scheduled limits instrs))
  earlier_in_range total own few today =
      let part = scheduled limits instrs in
      let right = right_before most_pages total own empty_store part (right_of total own (passed limits instrs).directives today.each) in
      let long : length (passed limits instrs).directives ≡ length part = length-homed empty_store part in
      let pages : above_all part ≤ length instrs = above_least (length instrs) part low in
      let short = today.count in
      record {
        part = record {
          count = omega (arith, short, long);
          each = each_in_range most_pages total own (length instrs) part (omega arith) few right low;
        };
        stores = omega (arith, pages, few);
      }

-- ---- all workers

all_carry : (limits : Limits) (workers : List (List Instr)) → AllCanBePlanned limits workers
    → AllCarry limits workers (map (λ instrs. on_own_pages (scheduled limits instrs)) workers)
all_carry limits [] can = tt
all_carry limits (instrs ∷ workers) can = (earlier_carries limits instrs can.0, all_carry limits workers can.1)

-- a worker has at most as many instructions as are emitted
few_own : (emitted : List Emitted) (w : ℕ) → length (own_instrs emitted w) ≤ length emitted
few_own emitted w =
    let both = length-filter_both (λ (e : Emitted). nat_eq e.worker w) (λ (e : Emitted). not (nat_eq e.worker w)) (λ e. refl) emitted in
    let own : length (own_instrs emitted w) ≡ length (filter (λ (e : Emitted). nat_eq e.worker w) emitted) = length-own_instrs emitted w in
    omega (arith, both, own)

abbrev today_of : Limits → List (List Instr) → List Homed
today_of limits workers = map (passed limits) workers

abbrev before_of : Limits → List (List Instr) → List Homed
before_of limits workers = map (λ instrs. on_own_pages (scheduled limits instrs)) workers

abbrev lists_in : List Homed → List (List Directive)
lists_in parts = map (λ (part : Homed). part.directives) parts

abbrev counts_in : List Homed → List ℕ
counts_in parts = map (λ (part : Homed). part.count) parts

all_in_range : (limits : Limits) (total from : ℕ) (workers : List (List Instr)) → AllCanBePlanned limits workers → ((w : ℕ) → length (list_at workers w) ≤ most_pages)
    → ((w : ℕ) → IfSome (slice_get (lists_in (today_of limits workers)) w) (IsPart total (from + w)))
    → (w : ℕ) → IfSome (slice_get (before_of limits workers) w) (IsInRange total (from + w))
all_in_range limits total from [] can few today zero = tt
all_in_range limits total from [] can few today (suc w) = tt
all_in_range limits total from (instrs ∷ workers) can few today zero = earlier_in_range limits instrs can.0 total (from + 0) (few 0) (today 0)
all_in_range limits total from (instrs ∷ workers) can few today (suc w) =
    let next : from + 1 + w ≡ from + suc w = omega arith in
    subst (λ k. IfSome (slice_get (before_of limits workers) w) (IsInRange total k)) next
    (all_in_range limits total (from + 1) workers can.1 (λ v. few (suc v)) (λ v. let same : from + suc v ≡ from + 1 + v = omega arith in subst (λ k. IfSome (slice_get (lists_in (today_of limits workers)) v) (IsPart total k)) same (today (suc v))) w)

-- the fields of what was made before are in range where those of what is made now are
earlier_fields : (limits : Limits) (workers : List (List Instr)) → AllCanBePlanned limits workers → ((w : ℕ) → length (list_at workers w) ≤ most_pages)
    → IsMemProgram (memory_program_of limits (today_of limits workers)) → IsMemProgram (earlier_of limits workers)
earlier_fields limits workers can few today =
    let parts = before_of limits workers in
    let total = length (lists_in (today_of limits workers)) in
    let each : (w : ℕ) → IfSome (slice_get parts w) (IsInRange total w) = λ w.
    let same : 0 + w ≡ w = omega arith in
    subst (λ k. IfSome (slice_get parts w) (IsInRange total k)) same
    (all_in_range limits total 0 workers can few (λ v. let other : v ≡ 0 + v = omega arith in subst (λ k. IfSome (slice_get (lists_in (today_of limits workers)) v) (IsPart total k)) other (today.parts v)) w) in
    let long : length (lists_in parts) ≡ total =
    length-map parts (λ (part : Homed). part.directives) ∙ length-map workers (λ instrs. on_own_pages (scheduled limits instrs))
    ∙ sym (length-map (today_of limits workers) (λ (part : Homed). part.directives) ∙ length-map workers (passed limits)) in
    made_in_range limits parts total long today.limits today.some_worker today.few each

pub earlier_plans_are_accepted : EarlierPlansAreAccepted
earlier_plans_are_accepted limits count emitted ranges some most few linked can =
    let program = program_of count emitted in
    let below = AreLinked-below count emitted linked in
    let today = passed_plans_are_accepted limits count emitted ranges some most few linked can in
    record {
      fields = earlier_fields limits program.workers can (λ w. let own : length (list_at program.workers w) ≡ length (own_instrs emitted w) = ap length (workers_are count emitted w below) in let less = few_own emitted w in omega (arith, own, less, few)) today.fields;
      none = carrying_plans_have_no_fault count emitted (earlier_of limits program.workers) linked
          (programs_carry limits program (before_of limits program.workers) (all_carry limits program.workers can));
    }

-- homes are given to what was made before as they are now
lists_same : (limits : Limits) (workers : List (List Instr))
    → map homed_of (lists_in (before_of limits workers)) ≡ today_of limits workers
lists_same limits [] = refl
lists_same limits (instrs ∷ workers) = ap (λ parts. passed limits instrs ∷ parts) (lists_same limits workers)

pub earlier_plans_come_to_todays : EarlierPlansComeToTodays
earlier_plans_come_to_todays limits workers = ap (memory_program_of limits) (lists_same limits workers)
