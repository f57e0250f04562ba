-- Where the verifier finds no fault, each transfer is in turn, and on a page of the store.
use Rattle.std.proofs.Common.{◌≡◌, ◌≤◌, ◌<◌, ◌+◌, ◌||◌, ℕ, Bool, true, false, not, cond, List, [], ◌∷◌, Some, None, is_some, nat_eq, nat_lt, refl, sym, ◌∙◌, ap, arith, ⊎_elim, true≢false}
use Rattle.std.proofs.lemmas.Bool.{cases_lt, and_parts, ltb-true, ne_eqb}
use Rattle.mage_instr.specs.declared.directive.Directive.{Directive}
use Rattle.mage_instr.specs.declared.directive.Directive.TheVariants as entry
use Rattle.mage_instr.specs.declared.replaced.Limits.{Limits}
use Rattle.mage_sched.specs.declared.slot.Slot.{Slot as Turning}
use Rattle.mage_sched.specs.declared.slot.Slot.TheVariants as state
use Rattle.mage_sched.specs.Issues.{put}
use Rattle.mage_sched.specs.Scheduled.{IsBelow, AreBelow}
use Rattle.mage_sched.specs.Turns.{Flight, at_rest, is_for, stored_by, flight_after, IsFree, IsInTurn, AreInTurn}
use Rattle.mage_verify.specs.declared.fault.VerifyFault.TheVariants as wrong
use Rattle.mage_verify.specs.declared.slot.Slot.{Slot}
use Rattle.mage_verify.specs.declared.slot.Slot.TheVariants as does
use Rattle.mage_verify.specs.Faults.{fault_at, fault_from}
use Rattle.mage_verify.specs.Range.{has_page}
use Rattle.mage_verify.specs.State.{State, opening, after, is_in_flight, is_moving, is_busy, names, writes, with_slot}
use Rattle.mage_verify.specs.Tables.{IsFine}
use Rattle.mage_verify.proofs.Tests.{Passes-from_none, none_first, none_second, not_true, idle_when, reading_when, writing_when, none_below}
use Rattle.mage_accepted.proofs.Own.{same_test}

-- what a slot of the verifier does, for the schedule
abbrev pub turning : Slot → Turning
turning does.Idle = state.Idle
turning (does.Reading page) = state.Reads page
turning (does.Writing page) = state.Writes page

-- the verifier and the schedule say the same of slots and pages, and no slot behind the buffer is in flight
pub record AreTied (buffer : ℕ) (v : State) (flight : Flight) : Type 0 where
  pub each : (s : ℕ) → turning (v.slot s) ≡ flight.does s
  pub idle : (s : ℕ) → buffer ≤ s → v.slot s ≡ does.Idle
  pub stored : (page : ℕ) → v.stored page ≡ flight.stored page

pub named : (page : ℕ) (x : Slot) → is_for (turning x) page ≡ names page x
named page does.Idle = refl
named page (does.Reading p) = same_test p page
named page (does.Writing p) = same_test p page

-- ---- after a directive

-- one slot does something else
slots_tied : (at : ℕ) (x : Slot) (f : ℕ → Slot) (g : ℕ → Turning) → ((s : ℕ) → turning (f s) ≡ g s)
    → (s : ℕ) → turning (with_slot at x f s) ≡ put at (turning x) g s
slots_tied at x f g each s = rw (same_test s at) (go (nat_eq at s)) where
  go : (b : Bool) → turning (cond b x (f s)) ≡ cond b (turning x) (g s)
  go true = refl
  go false = each s

idle_behind : (buffer at : ℕ) (x : Slot) (f : ℕ → Slot) → at < buffer → ((s : ℕ) → buffer ≤ s → f s ≡ does.Idle)
    → (s : ℕ) → buffer ≤ s → with_slot at x f s ≡ does.Idle
idle_behind buffer at x f lt idle s le =
    let other : nat_eq s at ≡ false = ne_eqb s at (λ e. omega (arith, e, lt, le)) in
    rw other (idle s le)

stored_tied : (x : Slot) (page : ℕ) (a : Bool) (b : ℕ → Bool) → a ≡ b page → (writes page x || a) ≡ stored_by (turning x) b page
stored_tied does.Idle page a b e = e
stored_tied (does.Reading p) page a b e = e
stored_tied (does.Writing p) page a b e = rw (same_test page p) (go (nat_eq p page)) where
  go : (c : Bool) → (c || a) ≡ cond c true (b page)
  go true = refl
  go false = e

module _ (buffer : ℕ) (v : State) (flight : Flight) (tied : AreTied buffer v flight) where
  tied_issue_in : (slot page : ℕ) → slot < buffer → AreTied buffer (after v (entry.IssueIn slot page)) (flight_after (entry.IssueIn slot page) flight)
  tied_issue_in slot page lt = record {
    each = slots_tied slot (does.Reading page) v.slot flight.does tied.each;
    idle = idle_behind buffer slot (does.Reading page) v.slot lt tied.idle;
    stored = tied.stored;
  }

  tied_finish_in : (slot frame : ℕ) → slot < buffer → AreTied buffer (after v (entry.FinishIn slot frame)) (flight_after (entry.FinishIn slot frame) flight)
  tied_finish_in slot frame lt = record {
    each = slots_tied slot does.Idle v.slot flight.does tied.each;
    idle = idle_behind buffer slot does.Idle v.slot lt tied.idle;
    stored = tied.stored;
  }

  tied_issue_out : (slot frame page : ℕ) → slot < buffer → AreTied buffer (after v (entry.IssueOut slot frame page)) (flight_after (entry.IssueOut slot frame page) flight)
  tied_issue_out slot frame page lt = record {
    each = slots_tied slot (does.Writing page) v.slot flight.does tied.each;
    idle = idle_behind buffer slot (does.Writing page) v.slot lt tied.idle;
    stored = tied.stored;
  }

  tied_finish_out : (slot : ℕ) → slot < buffer → AreTied buffer (after v (entry.FinishOut slot)) (flight_after (entry.FinishOut slot) flight)
  tied_finish_out slot lt = record {
    each = slots_tied slot does.Idle v.slot flight.does tied.each;
    idle = idle_behind buffer slot does.Idle v.slot lt tied.idle;
    stored = λ page. stored_tied (v.slot slot) page (v.stored page) flight.stored (tied.stored page)
        ∙ ap (λ (x : Turning). stored_by x flight.stored page) (tied.each slot);
  }

  -- ---- a directive without a fault is in turn

  -- no slot names a page that stands still
  alone : (page : ℕ) → is_moving buffer v page ≡ false → (other : ℕ) → is_for (flight.does other) page ≡ false
  alone page still other = ap (λ (x : Turning). is_for x page) (sym (tied.each other)) ∙ ⊎_elim
      (λ lt. named page (v.slot other) ∙ none_below buffer (λ s. names page (v.slot s)) still other lt)
      (λ le. ap (λ (x : Slot). is_for (turning x) page) (tied.idle other le))
      (cases_lt other buffer)

  free : (slot page : ℕ) → nat_lt slot buffer ≡ true → not (is_in_flight (v.slot slot)) ≡ true → is_moving buffer v page ≡ false
      → IsFree buffer flight slot page
  free slot page within right still = record {
    within = ltb-true slot buffer within;
    idle = sym (tied.each slot) ∙ ap turning (idle_when (v.slot slot) (not_true (is_in_flight (v.slot slot)) right));
    alone = alone page still;
  }

-- a directive in turn, and what is tied behind it
pub record Turns (limits : Limits) (pages : ℕ) (one : Directive) (v : State) (flight : Flight) : Type 0 where
  pub turn : IsInTurn limits.buffer flight one
  pub below : IsBelow pages one
  pub tied : AreTied limits.buffer (after v one) (flight_after one flight)

pub turns : (limits : Limits) (pages : ℕ) (one : Directive) (v : State) (flight : Flight) → AreTied limits.buffer v flight → IsFine limits v one
    → has_page pages one ≡ true → Turns limits pages one v flight
turns limits pages (entry.Fresh frame page) v flight tied fine there = record { turn = tt; below = tt; tied = tied }
turns limits pages (entry.IssueIn slot page) v flight tied fine there =
    let both = and_parts (not (is_moving limits.buffer v page)) (v.stored page) fine.page in
    record {
      turn = (free limits.buffer v flight tied slot page fine.range fine.slot (not_true (is_moving limits.buffer v page) both.0), sym (tied.stored page) ∙ both.1);
      below = ltb-true page pages there;
      tied = tied_issue_in limits.buffer v flight tied slot page (ltb-true slot limits.buffer fine.range);
    }
turns limits pages (entry.FinishIn slot frame) v flight tied fine there =
    let both = and_parts (nat_lt slot limits.buffer) (nat_lt frame limits.frames) fine.range in
    let reads = reading_when (v.slot slot) fine.slot in
    record {
      turn = (reads.0, sym (tied.each slot) ∙ ap turning reads.1);
      below = tt;
      tied = tied_finish_in limits.buffer v flight tied slot frame (ltb-true slot limits.buffer both.0);
    }
turns limits pages (entry.IssueOut slot frame page) v flight tied fine there =
    let both = and_parts (nat_lt slot limits.buffer) (nat_lt frame limits.frames) fine.range in
    record {
      turn = free limits.buffer v flight tied slot page both.0 fine.slot (not_true (is_moving limits.buffer v page) fine.page);
      below = ltb-true page pages there;
      tied = tied_issue_out limits.buffer v flight tied slot frame page (ltb-true slot limits.buffer both.0);
    }
turns limits pages (entry.FinishOut slot) v flight tied fine there =
    let writes = writing_when (v.slot slot) fine.slot in
    record {
      turn = (writes.0, sym (tied.each slot) ∙ ap turning writes.1);
      below = tt;
      tied = tied_finish_out limits.buffer v flight tied slot (ltb-true slot limits.buffer fine.range);
    }
turns limits pages (entry.Do job) v flight tied fine there = record { turn = tt; below = tt; tied = tied }

-- ---- all directives

-- all in turn, on pages of the store
pub record AreTurned (buffer pages : ℕ) (flight : Flight) (part : List Directive) : Type 0 where
  pub turns : AreInTurn buffer flight part
  pub below : AreBelow pages part

-- no slot is in flight at the end
all_idle : (limits : Limits) (worker d : ℕ) (v : State) (flight : Flight) → AreTied limits.buffer v flight
    → cond (is_busy limits.buffer v) (Some (wrong.SlotState worker d)) None ≡ None
    → (s : ℕ) → flight.does s ≡ state.Idle
all_idle limits worker d v flight tied h s = sym (tied.each s) ∙ ap turning (⊎_elim
    (λ lt. idle_when (v.slot s) (none_below limits.buffer (λ s. is_in_flight (v.slot s)) (not_busy (is_busy limits.buffer v) h) s lt))
    (tied.idle s)
    (cases_lt s limits.buffer))
  where
    not_busy : (b : Bool) → cond b (Some (wrong.SlotState worker d)) None ≡ None → b ≡ false
    not_busy true e = absurd (true≢false (ap is_some e))
    not_busy false e = refl

all_turned : (limits : Limits) (pages worker d : ℕ) (v : State) (flight : Flight) (part : List Directive) → AreTied limits.buffer v flight
    → fault_from limits pages worker d v part ≡ None → AreTurned limits.buffer pages flight part
all_turned limits pages worker d v flight [] tied h = record { turns = all_idle limits worker d v flight tied h; below = tt }
all_turned limits pages worker d v flight (one ∷ part) tied h =
    let first = none_first (fault_at limits pages worker d v one) (fault_from limits pages worker (d + 1) (after v one) part) h in
    let others = none_second (fault_at limits pages worker d v one) (fault_from limits pages worker (d + 1) (after v one) part) h in
    let passes = Passes-from_none limits pages worker d v one first in
    let now = turns limits pages one v flight tied passes.fine passes.store in
    let rest = all_turned limits pages worker (d + 1) (after v one) (flight_after one flight) part now.tied others in
    record { turns = (now.turn, rest.turns); below = (now.below, rest.below) }

-- at first the verifier and the schedule say the same
pub tied_at_first : (buffer : ℕ) → AreTied buffer opening at_rest
tied_at_first buffer = record { each = λ s. refl; idle = λ s le. refl; stored = λ page. refl }

-- where a worker's part has no fault by itself
pub turned : (limits : Limits) (pages worker : ℕ) (part : List Directive) → fault_from limits pages worker 0 opening part ≡ None
    → AreTurned limits.buffer pages at_rest part
turned limits pages worker part none =
    all_turned limits pages worker 0 opening at_rest part (tied_at_first limits.buffer) none
