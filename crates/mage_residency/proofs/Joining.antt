-- The plain walk goes beside the walk with slots.
use Rattle.std.proofs.Common.{◌≡◌, ◌+◌, ◌⊎◌, inl, inr, ℕ, Bool, true, false, cond, List, [], ◌∷◌, ◌++◌, Option, None, Some, IsSomeAnd, length, ltb, refl, sym, ◌∙◌, ap, subst, ⊎_elim}
use Rattle.std.specs.Prelude.{slice_get, is_some, nat_eq}
use Rattle.std.specs.List.{list_all}
use Rattle.std.proofs.lemmas.Bool.{eq-eqb, eqb-true, ltb-true, and_parts, false≢true}
use Rattle.mage_instr.specs.declared.instr.Instr.{Instr}
use Rattle.mage_instr.specs.declared.directive.Directive.{Directive}
use Rattle.mage_instr.specs.declared.directive.Directive.TheVariants as directive
use Rattle.mage_carry.specs.State.{Content, nothing, Writes, State, is_idle, may_issue, with_frame, with_slot}
use Rattle.mage_carry.specs.Steps.{◌>>=◌, provided, page_read, do_job, step_of}
use Rattle.mage_carry.specs.Carrying.{start, unless_broken, walked, is_over, broken_at, break_of}
use Rattle.mage_carry.proofs.Chains.{some_not_none, same_Some, then_some, provided_some}
use Rattle.mage_residency.specs.Plain.{all_done}
use Rattle.mage_residency.specs.Cut.{TransfersAtOnceCarry}
use Rattle.mage_residency.proofs.Beside.{beside, job_beside}
use Rattle.mage_residency.proofs.Cutting.{AreApart, IsCut, goes, cut_at_first}
use Rattle.mage_residency.proofs.Doing.{load_goes, fresh_goes, save_goes, goes_on}
use Rattle.mage_sched.specs.declared.slot.Slot.{Slot as Doing}
use Rattle.mage_sched.specs.declared.slot.Slot.TheVariants as state
use Rattle.mage_sched.specs.Issues.{put}
use Rattle.mage_sched.specs.Turns.{Flight, at_rest, is_for, stored_by, flight_after, IsInTurn, AreInTurn}
use Rattle.mage_sched.specs.Plainly.{page_of, plain_entry, plainly}
use Rattle.mage_sched.specs.Scheduled.{AreBelow}

-- ---- what is read was written

-- each page that a slot reads was written
abbrev AreStored : Flight → Type 0
AreStored flight = (slot page : ℕ) → flight.does slot ≡ state.Reads page → flight.stored page ≡ true

-- what a slot does is new, or as it was
pub new_or_old : (at : ℕ) (new : Doing) (old : ℕ → Doing) (i : ℕ) (x : Doing) → put at new old i ≡ x → (new ≡ x) ⊎ (old i ≡ x)
new_or_old at new old i x = go (nat_eq at i) where
  go : (b : Bool) → cond b new (old i) ≡ x → (new ≡ x) ⊎ (old i ≡ x)
  go true e = inl e
  go false e = inr e

idle_not_reads : (page : ℕ) → state.Idle ≡ state.Reads page → ⊥
idle_not_reads page e = cc

writes_not_reads : (page other : ℕ) → state.Writes other ≡ state.Reads page → ⊥
writes_not_reads page other e = cc

still_stored : (doing : Doing) (stored : ℕ → Bool) (page : ℕ) → stored page ≡ true → stored_by doing stored page ≡ true
still_stored state.Idle stored page e = e
still_stored (state.Reads other) stored page e = e
still_stored (state.Writes other) stored page e = go (nat_eq other page) where
  go : (b : Bool) → cond b true (stored page) ≡ true
  go true = refl
  go false = e

stored_after : (buffer : ℕ) (one : Directive) (flight : Flight) → IsInTurn buffer flight one → AreStored flight → AreStored (flight_after one flight)
stored_after buffer (directive.Fresh frame page) flight turn are i q e = are i q e
stored_after buffer (directive.IssueIn slot page) flight turn are i q e = ⊎_elim
    (λ new. subst (λ n. flight.stored n ≡ true) (ap page_of new) turn.1)
    (λ old. are i q old)
    (new_or_old slot (state.Reads page) flight.does i (state.Reads q) e)
stored_after buffer (directive.FinishIn slot frame) flight turn are i q e = ⊎_elim
    (λ new. absurd (idle_not_reads q new))
    (λ old. are i q old)
    (new_or_old slot state.Idle flight.does i (state.Reads q) e)
stored_after buffer (directive.IssueOut slot frame page) flight turn are i q e = ⊎_elim
    (λ new. absurd (writes_not_reads q page new))
    (λ old. are i q old)
    (new_or_old slot (state.Writes page) flight.does i (state.Reads q) e)
stored_after buffer (directive.FinishOut slot) flight turn are i q e = ⊎_elim
    (λ new. absurd (idle_not_reads q new))
    (λ old. still_stored (flight.does slot) flight.stored q (are i q old))
    (new_or_old slot state.Idle flight.does i (state.Reads q) e)
stored_after buffer (directive.Do job) flight turn are i q e = are i q e

-- ---- one directive

there_is : (o : Option Content) → is_some o ≡ true → (content : Content) × (o ≡ Some content)
there_is None h = absurd (false≢true h)
there_is (Some content) h = (content, refl)

-- no slot writes a page that another reads
none_writes : (does : ℕ → Doing) (slot page : ℕ) → AreApart does → does slot ≡ state.Reads page → (i : ℕ) → does i ≡ state.Writes page → ⊥
none_writes does slot page apart reads i writes =
    let same : i ≡ slot = apart i slot page (ap (λ (x : Doing). is_for x page) writes ∙ eq-eqb page page refl) (ap (λ (x : Doing). is_for x page) reads ∙ eq-eqb page page refl) in
    writes_not_reads page page (sym writes ∙ ap does same ∙ reads)

module _ (buffer store wires : ℕ) (instrs : List Instr) where
  -- what a directive is, with transfers done at once, can be done
  abbrev CanDo : Directive → Flight → State → Type 0
  CanDo one flight p = (after : State) × (all_done instrs wires p (plain_entry flight one) ≡ Some after)

  within : (flight : Flight) (s p : State) (f : ℕ) → IsCut buffer store wires instrs flight s p → ltb f (length s.frames) ≡ true → ltb f (length p.frames) ≡ true
  within flight s p f c h = ap (λ xs. ltb f (length xs)) (sym c.frames) ∙ h

  can_do : (one : Directive) (flight : Flight) (s p after : State) → IsCut buffer store wires instrs flight s p → AreStored flight → IsInTurn buffer flight one
      → step_of instrs wires store s one ≡ Some after → CanDo one flight p
  can_do (directive.Fresh f page) flight s p after c are turn h =
      let both = provided_some (ltb f (length s.frames)) (with_frame f nothing s) after h in
      (with_frame f nothing p, fresh_goes instrs wires f page p (ltb-true f (length p.frames) (within flight s p f c both.0)))
  can_do (directive.IssueIn slot page) flight s p after c are turn h = (p, refl)
  can_do (directive.FinishIn slot frame) flight s p after c are turn h =
      let page = turn.0 in
      let found = there_is (s.pages page) (c.stored page ∙ are slot page turn.1) in
      let same : p.pages page ≡ Some found.0 = c.others page (none_writes flight.does slot page c.apart turn.1) ∙ found.1 in
      let read = then_some (page_read slot s.slots) _ after h in
      let both = provided_some (ltb frame (length s.frames)) _ after read.2 in
      let loaded = load_goes instrs wires frame page p found.0 same (ltb-true frame (length p.frames) (within flight s p frame c both.0)) in
      (with_frame frame found.0 p, subst (λ (x : Doing). all_done instrs wires p (plain_entry (record { does = λ other. x; stored = flight.stored }) (directive.FinishIn slot frame)) ≡ Some (with_frame frame found.0 p)) (sym turn.1) loaded)
  can_do (directive.IssueOut slot frame page) flight s p after c are turn h =
      let written = then_some (slice_get s.frames frame) (λ content. provided (may_issue store slot page s.slots) (with_slot slot (Writes page content) s)) after h in
      (_, save_goes instrs wires frame page p written.0 (ap (λ xs. slice_get xs frame) (sym c.frames) ∙ written.1))
  can_do (directive.FinishOut slot) flight s p after c are turn h = (p, refl)
  can_do (directive.Do job) flight s p after c are turn h =
      let both = job_beside wires instrs job p s after h in
      let same : beside p s ≡ p = ap (λ xs. record { frames = xs; slots = p.slots; pages = p.pages; next = s.next }) c.frames ∙ ap (λ n. record { frames = p.frames; slots = p.slots; pages = p.pages; next = n }) c.next in
      (beside p after, did (do_job instrs wires job p) (beside p after) (sym (ap (do_job instrs wires job) same) ∙ both.0))
    where
      did : (o : Option State) (x : State) → o ≡ Some x → (o >>= (λ a. Some a)) ≡ Some x
      did o x e = rw e refl

  -- ---- all directives

  over : (b : Bool) (count : ℕ) → cond b None (Some count) ≡ None → b ≡ true
  over true count h = refl
  over false count h = absurd (some_not_none count h)

  plain_beside : (part : List Directive) (d count : ℕ) (flight : Flight) (s p : State) → IsCut buffer store wires instrs flight s p → AreStored flight
      → AreInTurn buffer flight part → AreBelow store part
      → broken_at instrs count (walked instrs wires store d s part) ≡ None
      → IsSomeAnd (all_done instrs wires p (plainly flight part)) (λ end. end.next ≡ length instrs)
  plain_beside [] d count flight s p c are turns below h =
      let both = and_parts (nat_eq s.next (length instrs)) (list_all is_idle s.slots) (over (is_over instrs s) count h) in
      sym c.next ∙ eqb-true s.next (length instrs) both.0
  plain_beside (one ∷ part) d count flight s p c are turns below h = go (step_of instrs wires store s one) refl h
      (λ after mid cut stored f. plain_beside part (d + 1) count (flight_after one flight) after mid cut stored turns.1 below.1 f) where
        go : (o : Option State) → step_of instrs wires store s one ≡ o
            → broken_at instrs count (unless_broken d o (λ after. walked instrs wires store (d + 1) after part)) ≡ None
            → ((after mid : State) → IsCut buffer store wires instrs (flight_after one flight) after mid → AreStored (flight_after one flight)
            → broken_at instrs count (walked instrs wires store (d + 1) after part) ≡ None
            → IsSomeAnd (all_done instrs wires mid (plainly (flight_after one flight) part)) (λ end. end.next ≡ length instrs))
            → IsSomeAnd (all_done instrs wires p (plain_entry flight one ++ plainly (flight_after one flight) part)) (λ end. end.next ≡ length instrs)
        go None e f rest = absurd (some_not_none d f)
        go (Some after) e f rest =
            let can = can_do one flight s p after c are turns.0 e in
            let step = goes buffer store wires instrs one flight s p can.0 c turns.0 below.0 can.1 in
            let same : step.0 ≡ after = same_Some step.0 after (sym step.1 ∙ e) in
            subst (λ (o : Option State). IsSomeAnd o (λ end. end.next ≡ length instrs))
            (sym (goes_on instrs wires (plain_entry flight one) (plainly (flight_after one flight) part) p can.0 can.1))
            (rest after can.0 (subst (λ x. IsCut buffer store wires instrs (flight_after one flight) x can.0) same step.2) (stored_after buffer one flight turns.0 are) f)

pub transfers_at_once_carry : TransfersAtOnceCarry
unfolding break_of
transfers_at_once_carry limits store instrs part below turns none =
    plain_beside limits.buffer store limits.page instrs part 0 (length part) at_rest (start limits.frames limits.buffer) (start limits.frames 0)
    (cut_at_first limits.frames limits.buffer store limits.page instrs) (λ slot page e. absurd (idle_not_reads page e)) turns below none
