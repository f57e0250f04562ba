-- What the issue and the finish of a read change of the slots, and what a page that enters and an instruction leave.
use Rattle.std.proofs.Common.{◌≡◌, ◌<◌, ◌⊎◌, ℕ, List, [], ◌∷◌, ◌++◌, length, set, true, false, nat_eq, Some, inl, inr, refl, sym, subst, ◌∙◌, ap, arith}
use Rattle.std.proofs.lemmas.Bool.{false≢true, eqb-true, or_right, cases_eq}
use Rattle.std.proofs.lemmas.List.{length-set, length-append}
use Rattle.mage_instr.specs.declared.replaced.Replaced.{Replaced}
use Rattle.mage_instr.specs.declared.replaced.Replaced.TheVariants as entry
use Rattle.mage_instr.specs.declared.replaced.Job.{Job}
use Rattle.mage_instr.specs.declared.directive.Directive.TheVariants as directive
use Rattle.mage_sched.specs.declared.slot.Slot.{Slot}
use Rattle.mage_sched.specs.declared.slot.Slot.TheVariants as state
use Rattle.mage_sched.specs.declared.read.Timed.{Timed}
use Rattle.mage_sched.specs.Reads.{page_in, is_page}
use Rattle.mage_sched.specs.Rule.{in_memory, came_in}
use Rattle.mage_sched.specs.Slots.{Buffer}
use Rattle.mage_sched.specs.Issues.{Seen, put, seen_after}
use Rattle.mage_sched.specs.Turns.{Flight, is_for, flight_after}
use Rattle.mage_sched.proofs.Coming.{each_map, each_both, each_append, is_read}
use Rattle.mage_sched.proofs.Tables.{idle_reads, idle_writes, reads_writes, reads_same, for_reads, for_writes, not_for_idle, put_at, put_off, slot_at, slot_within, does_set, reads_one, readers-set, times}
use Rattle.mage_sched.proofs.Memories.{some-is_page, gone_after}
use Rattle.mage_sched.proofs.Buffers.{AreSlots, IsReading, IsWriting, IsLeaving, IsKept, IsInAir, writes_one, is_read-left, is_read-push, distinct-push, read_later, others_read}

-- ---- a read is issued

module _ (buffer : ℕ) (before after : List Replaced) (flying : List Timed) (read : Timed) (waiting : List Timed) (table : Buffer) (seen : Seen) (flight : Flight) (slot : ℕ)
    (kept : AreSlots buffer before after flying (read ∷ waiting) table seen flight)
    (inside : slot < buffer) (idle : flight.does slot ≡ state.Idle)
    (free : (other : ℕ) → is_for (flight.does other) read.page ≡ false)
    (has : seen.store read.page ≡ Some read.page) (gap : seen.gap ≡ read.issue) (new : is_read read.page flying ≡ false) where
  does_now : (other : ℕ) → slot ≡ other → put slot (state.Reads read.page) flight.does other ≡ state.Reads read.page
  does_now other e = put_at slot (state.Reads read.page) flight.does other e

  does_still : (other : ℕ) → (slot ≡ other → ⊥) → put slot (state.Reads read.page) flight.does other ≡ flight.does other
  does_still other n = put_off slot (state.Reads read.page) flight.does other n

  in_reading : (other q : ℕ) → (slot ≡ other) ⊎ (slot ≡ other → ⊥) → put slot (state.Reads read.page) flight.does other ≡ state.Reads q → IsReading (seen_after (directive.IssueIn slot read.page) seen) (flying ++ read ∷ []) other q
  in_reading other q (inl e) h =
      let same = reads_same read.page q (sym (does_now other e) ∙ h) in
      let P : ℕ → Type 0 = λ n. IsReading (seen_after (directive.IssueIn slot read.page) seen) (flying ++ read ∷ []) other n in
      subst P same (record {
        named = put_at slot read.page seen.named other e;
        has = has;
        read = is_read-push read.page flying read refl;
      })
  in_reading other q (inr n) h =
      let old = kept.reading other q (sym (does_still other n) ∙ h) in
      record { named = put_off slot read.page seen.named other n ∙ old.named; has = old.has; read = is_read-left q flying (read ∷ []) old.read }

  in_writing : (other q : ℕ) → (slot ≡ other) ⊎ (slot ≡ other → ⊥) → put slot (state.Reads read.page) flight.does other ≡ state.Writes q → IsWriting before after (seen_after (directive.IssueIn slot read.page) seen) waiting other q
  in_writing other q (inl e) h = absurd (reads_writes read.page q (sym (does_now other e) ∙ h))
  in_writing other q (inr n) h =
      let was = sym (does_still other n) ∙ h in
      let old = kept.writing other q was in
      record {
        named = put_off slot read.page seen.named other n ∙ old.named;
        sent = old.sent;
        read = read_later q read waiting (λ e. false≢true (sym (free other) ∙ ap (λ (m : ℕ). is_for (flight.does other) m) e ∙ for_writes (flight.does other) q was)) old.read;
        came = old.came;
        leaves = old.leaves;
      }

  none_for : (other q : ℕ) → read.page ≡ q → is_for (flight.does other) q ≡ true → ⊥
  none_for other q e h = false≢true (sym (free other) ∙ ap (λ (n : ℕ). is_for (flight.does other) n) e ∙ h)

  in_page : (other q : ℕ) → slot ≡ other → is_for (put slot (state.Reads read.page) flight.does other) q ≡ true → read.page ≡ q
  in_page other q e h = eqb-true read.page q (sym (ap (λ (s : Slot). is_for s q) (does_now other e)) ∙ h)

  in_old : (other q : ℕ) → (slot ≡ other → ⊥) → is_for (put slot (state.Reads read.page) flight.does other) q ≡ true → is_for (flight.does other) q ≡ true
  in_old other q n h = sym (ap (λ (s : Slot). is_for s q) (does_still other n)) ∙ h

  in_alone : (one other q : ℕ) → (slot ≡ one) ⊎ (slot ≡ one → ⊥) → (slot ≡ other) ⊎ (slot ≡ other → ⊥)
      → is_for (put slot (state.Reads read.page) flight.does one) q ≡ true → is_for (put slot (state.Reads read.page) flight.does other) q ≡ true → one ≡ other
  in_alone one other q (inl e) (inl f) h k = sym e ∙ f
  in_alone one other q (inl e) (inr n) h k = absurd (none_for other q (in_page one q e h) (in_old other q n k))
  in_alone one other q (inr m) (inl f) h k = absurd (none_for one q (in_page other q f k) (in_old one q m h))
  in_alone one other q (inr m) (inr n) h k = kept.alone one other q (in_old one q m h) (in_old other q n k)

  in_writes : (other : ℕ) → (slot ≡ other) ⊎ (slot ≡ other → ⊥) → times other table.writes ≡ writes_one (put slot (state.Reads read.page) flight.does other)
  in_writes other (inl e) = kept.writes other ∙ ap (λ (n : ℕ). writes_one (flight.does n)) (sym e) ∙ ap writes_one idle ∙ sym (ap writes_one (does_now other e))
  in_writes other (inr n) = kept.writes other ∙ sym (ap writes_one (does_still other n))

  in_kept : (q : ℕ) → IsKept seen flight q ⊎ ((other : ℕ) × (flight.does other ≡ state.Writes q))
      → IsKept (seen_after (directive.IssueIn slot read.page) seen) (flight_after (directive.IssueIn slot read.page) flight) q ⊎ ((other : ℕ) × (put slot (state.Reads read.page) flight.does other ≡ state.Writes q))
  in_kept q (inl k) = inl (record { has = k.has; stored = k.stored })
  in_kept q (inr w) = inr (w.0, does_still w.0 (λ e. idle_writes q (sym idle ∙ ap (λ (n : ℕ). flight.does n) e ∙ w.1)) ∙ w.1)

  in_air : (r : Timed) → IsInAir seen flight r → IsInAir (seen_after (directive.IssueIn slot read.page) seen) (flight_after (directive.IssueIn slot read.page) flight) r
  in_air r h =
      let other = λ (e : slot ≡ h.0). idle_reads r.page (sym idle ∙ ap (λ (n : ℕ). flight.does n) e ∙ h.1) in
      (h.0, does_still h.0 other ∙ h.1, put_off slot seen.gap seen.asked h.0 other ∙ h.2)

  in_within : slot < length table.slots
  in_within = let e = kept.count in omega (arith, e, inside)

  pub slots_issue_in : AreSlots buffer before after (flying ++ read ∷ []) waiting (record { slots = set table.slots slot (state.Reads read.page); writes = table.writes })
      (seen_after (directive.IssueIn slot read.page) seen) (flight_after (directive.IssueIn slot read.page) flight)
  slots_issue_in = record {
    count = length-set table.slots slot (state.Reads read.page) ∙ kept.count;
    does = does_set table.slots flight.does slot (state.Reads read.page) in_within kept.does;
    reading = λ other q h. in_reading other q (cases_eq slot other) h;
    writing = λ other q h. in_writing other q (cases_eq slot other) h;
    alone = λ one other q h k. in_alone one other q (cases_eq slot one) (cases_eq slot other) h k;
    writes = λ other. in_writes other (cases_eq slot other);
    kept = λ q h. in_kept q (kept.kept q h);
    air = each_append (IsInAir (seen_after (directive.IssueIn slot read.page) seen) (flight_after (directive.IssueIn slot read.page) flight)) flying (read ∷ [])
        (each_map (IsInAir seen flight) (IsInAir (seen_after (directive.IssueIn slot read.page) seen) (flight_after (directive.IssueIn slot read.page) flight)) in_air flying kept.air)
        ((slot, does_now slot refl, put_at slot seen.gap seen.asked slot refl ∙ gap), tt);
    number =
        let e = readers-set table.slots slot (state.Reads read.page) in_within in
        let f : reads_one (slot_at table.slots slot) ≡ 0 = ap reads_one (sym (kept.does slot) ∙ idle) in
        let g = kept.number in
        let h = length-append flying (read ∷ []) in omega (arith, e, f, g, h);
    distinct = distinct-push flying read kept.distinct new;
  }

-- ---- a read is finished

module _ (buffer : ℕ) (before rest : List Replaced) (read : Timed) (flying waiting : List Timed) (table : Buffer) (seen : Seen) (flight : Flight) (slot frame : ℕ)
    (kept : AreSlots buffer before (entry.Load frame read.page ∷ rest) (read ∷ flying) waiting table seen flight)
    (reads : flight.does slot ≡ state.Reads read.page) where
  idle_then : (other : ℕ) → slot ≡ other → put slot state.Idle flight.does other ≡ state.Idle
  idle_then other e = put_at slot state.Idle flight.does other e

  still : (other : ℕ) → (slot ≡ other → ⊥) → put slot state.Idle flight.does other ≡ flight.does other
  still other n = put_off slot state.Idle flight.does other n

  -- no other slot is for the page
  apart : (other q : ℕ) → (slot ≡ other → ⊥) → is_for (flight.does other) q ≡ true → read.page ≡ q → ⊥
  apart other q n h e = n (kept.alone slot other q (for_reads (flight.does slot) q (reads ∙ ap (λ (m : ℕ). state.Reads m) e)) h)

  back_reading : (other q : ℕ) → (slot ≡ other) ⊎ (slot ≡ other → ⊥) → put slot state.Idle flight.does other ≡ state.Reads q → IsReading (seen_after (directive.FinishIn slot frame) seen) flying other q
  back_reading other q (inl e) h = absurd (idle_reads q (sym (idle_then other e) ∙ h))
  back_reading other q (inr n) h =
      let was = sym (still other n) ∙ h in
      let old = kept.reading other q was in
      record { named = old.named; has = old.has; read = read_later q read flying (apart other q n (for_reads (flight.does other) q was)) old.read }

  leaves_now : (q : ℕ) → (read.page ≡ q → ⊥) → IsLeaving before (entry.Load frame read.page ∷ rest) q → IsLeaving (entry.Load frame read.page ∷ before) rest q
  leaves_now q n (inl e) = inl (gone_after (in_memory before q) (is_page (page_in before frame) q) read.page q n (inl e))
  leaves_now q n (inr w) =
      let same = eqb-true frame w.0 w.2 in
      inl (gone_after (in_memory before q) (is_page (page_in before frame) q) read.page q n (inr (some-is_page (page_in before frame) q (ap (λ (m : ℕ). page_in before m) same ∙ w.1))))

  back_writing : (other q : ℕ) → (slot ≡ other) ⊎ (slot ≡ other → ⊥) → put slot state.Idle flight.does other ≡ state.Writes q → IsWriting (entry.Load frame read.page ∷ before) rest (seen_after (directive.FinishIn slot frame) seen) waiting other q
  back_writing other q (inl e) h = absurd (idle_writes q (sym (idle_then other e) ∙ h))
  back_writing other q (inr n) h =
      let was = sym (still other n) ∙ h in
      let old = kept.writing other q was in
      record {
        named = old.named;
        sent = old.sent;
        read = old.read;
        came = or_right (nat_eq read.page q) (came_in before q) old.came;
        leaves = leaves_now q (apart other q n (for_writes (flight.does other) q was)) old.leaves;
      }

  back_for : (other q : ℕ) → (slot ≡ other) ⊎ (slot ≡ other → ⊥) → is_for (put slot state.Idle flight.does other) q ≡ true → is_for (flight.does other) q ≡ true
  back_for other q (inl e) h = absurd (not_for_idle (put slot state.Idle flight.does other) q (idle_then other e) h)
  back_for other q (inr n) h = sym (ap (λ (s : Slot). is_for s q) (still other n)) ∙ h

  back_writes : (other : ℕ) → (slot ≡ other) ⊎ (slot ≡ other → ⊥) → times other table.writes ≡ writes_one (put slot state.Idle flight.does other)
  back_writes other (inl e) = kept.writes other ∙ ap (λ (n : ℕ). writes_one (flight.does n)) (sym e) ∙ ap writes_one reads ∙ sym (ap writes_one (idle_then other e))
  back_writes other (inr n) = kept.writes other ∙ sym (ap writes_one (still other n))

  back_kept : (q : ℕ) → IsKept seen flight q ⊎ ((other : ℕ) × (flight.does other ≡ state.Writes q))
      → IsKept (seen_after (directive.FinishIn slot frame) seen) (flight_after (directive.FinishIn slot frame) flight) q ⊎ ((other : ℕ) × (put slot state.Idle flight.does other ≡ state.Writes q))
  back_kept q (inl k) = inl (record { has = k.has; stored = k.stored })
  back_kept q (inr w) = inr (w.0, still w.0 (λ e. reads_writes read.page q (sym reads ∙ ap (λ (n : ℕ). flight.does n) e ∙ w.1)) ∙ w.1)

  back_air : (r : Timed) → IsInAir seen flight r → (r.page ≡ read.page → ⊥) → IsInAir (seen_after (directive.FinishIn slot frame) seen) (flight_after (directive.FinishIn slot frame) flight) r
  back_air r h n = (h.0, still h.0 (λ e. n (reads_same r.page read.page (sym h.1 ∙ ap (λ (m : ℕ). flight.does m) (sym e) ∙ reads))) ∙ h.1, h.2)

  back_within : slot < length table.slots
  back_within = slot_within table.slots slot (λ e. idle_reads read.page (sym e ∙ sym (kept.does slot) ∙ reads))

  pub slots_finish_in : AreSlots buffer (entry.Load frame read.page ∷ before) rest flying waiting (record { slots = set table.slots slot state.Idle; writes = table.writes })
      (seen_after (directive.FinishIn slot frame) seen) (flight_after (directive.FinishIn slot frame) flight)
  slots_finish_in = record {
    count = length-set table.slots slot state.Idle ∙ kept.count;
    does = does_set table.slots flight.does slot state.Idle back_within kept.does;
    reading = λ other q h. back_reading other q (cases_eq slot other) h;
    writing = λ other q h. back_writing other q (cases_eq slot other) h;
    alone = λ one other q h k. kept.alone one other q (back_for one q (cases_eq slot one) h) (back_for other q (cases_eq slot other) k);
    writes = λ other. back_writes other (cases_eq slot other);
    kept = λ q h. back_kept q (kept.kept q h);
    air = each_both (IsInAir seen flight) (λ (r : Timed). r.page ≡ read.page → ⊥) (IsInAir (seen_after (directive.FinishIn slot frame) seen) (flight_after (directive.FinishIn slot frame) flight)) back_air flying kept.air.1 (others_read read.page flying kept.distinct.0);
    number =
        let e = readers-set table.slots slot state.Idle back_within in
        let f : reads_one (slot_at table.slots slot) ≡ 1 = ap reads_one (sym (kept.does slot) ∙ reads) in
        let g = kept.number in omega (arith, e, f, g);
    distinct = kept.distinct.1;
  }

-- ---- a page that never came in enters

module _ (buffer : ℕ) (before rest : List Replaced) (flying waiting : List Timed) (table : Buffer) (seen : Seen) (flight : Flight) (frame page : ℕ)
    (kept : AreSlots buffer before (entry.Fresh frame page ∷ rest) flying waiting table seen flight)
    (new : came_in before page ≡ false) where
  fresh_leaves : (q : ℕ) → (page ≡ q → ⊥) → IsLeaving before (entry.Fresh frame page ∷ rest) q → IsLeaving (entry.Fresh frame page ∷ before) rest q
  fresh_leaves q n (inl e) = inl (gone_after (in_memory before q) (is_page (page_in before frame) q) page q n (inl e))
  fresh_leaves q n (inr w) =
      let same = eqb-true frame w.0 w.2 in
      inl (gone_after (in_memory before q) (is_page (page_in before frame) q) page q n (inr (some-is_page (page_in before frame) q (ap (λ (m : ℕ). page_in before m) same ∙ w.1))))

  fresh_writing : (slot q : ℕ) → IsWriting before (entry.Fresh frame page ∷ rest) seen waiting slot q → IsWriting (entry.Fresh frame page ∷ before) rest (seen_after (directive.Fresh frame page) seen) waiting slot q
  fresh_writing slot q old = record {
    named = old.named;
    sent = old.sent;
    read = old.read;
    came = or_right (nat_eq page q) (came_in before q) old.came;
    leaves = fresh_leaves q (λ e. false≢true (sym new ∙ ap (λ (m : ℕ). came_in before m) e ∙ old.came)) old.leaves;
  }

  pub slots_fresh : AreSlots buffer (entry.Fresh frame page ∷ before) rest flying waiting table (seen_after (directive.Fresh frame page) seen) flight
  slots_fresh = record {
    count = kept.count;
    does = kept.does;
    reading = λ slot q h. let old = kept.reading slot q h in record { named = old.named; has = old.has; read = old.read };
    writing = λ slot q h. fresh_writing slot q (kept.writing slot q h);
    alone = kept.alone;
    writes = kept.writes;
    kept = λ q h. fresh_kept q (kept.kept q h);
    air = kept.air;
    number = kept.number;
    distinct = kept.distinct;
  } where
    fresh_kept : (q : ℕ) → IsKept seen flight q ⊎ ((other : ℕ) × (flight.does other ≡ state.Writes q)) → IsKept (seen_after (directive.Fresh frame page) seen) flight q ⊎ ((other : ℕ) × (flight.does other ≡ state.Writes q))
    fresh_kept q (inl k) = inl (record { has = k.has; stored = k.stored })
    fresh_kept q (inr w) = inr w

-- ---- an instruction is done

module _ (buffer : ℕ) (before rest : List Replaced) (flying waiting : List Timed) (table : Buffer) (seen : Seen) (flight : Flight) (job : Job)
    (kept : AreSlots buffer before (entry.Do job ∷ rest) flying waiting table seen flight) where
  do_leaves : (q : ℕ) → IsLeaving before (entry.Do job ∷ rest) q → IsLeaving (entry.Do job ∷ before) rest q
  do_leaves q (inl e) = inl e
  do_leaves q (inr w) = absurd (false≢true w.2)

  do_writing : (slot q : ℕ) → IsWriting before (entry.Do job ∷ rest) seen waiting slot q → IsWriting (entry.Do job ∷ before) rest (seen_after (directive.Do job) seen) waiting slot q
  do_writing slot q old = record { named = old.named; sent = old.sent; read = old.read; came = old.came; leaves = do_leaves q old.leaves }

  pub slots_do : AreSlots buffer (entry.Do job ∷ before) rest flying waiting table (seen_after (directive.Do job) seen) flight
  slots_do = record {
    count = kept.count;
    does = kept.does;
    reading = λ slot q h. let old = kept.reading slot q h in record { named = old.named; has = old.has; read = old.read };
    writing = λ slot q h. do_writing slot q (kept.writing slot q h);
    alone = kept.alone;
    writes = kept.writes;
    kept = λ q h. do_kept q (kept.kept q h);
    air = kept.air;
    number = kept.number;
    distinct = kept.distinct;
  } where
    do_kept : (q : ℕ) → IsKept seen flight q ⊎ ((other : ℕ) × (flight.does other ≡ state.Writes q)) → IsKept (seen_after (directive.Do job) seen) flight q ⊎ ((other : ℕ) × (flight.does other ≡ state.Writes q))
    do_kept q (inl k) = inl (record { has = k.has; stored = k.stored })
    do_kept q (inr w) = inr w
