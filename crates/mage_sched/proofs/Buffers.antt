-- What is kept of the slots while the moves of a list are made, and what each directive changes of it.
use Rattle.std.proofs.Common.{◌≡◌, ◌<◌, ◌||◌, ◌⊎◌, ℕ, List, [], ◌∷◌, ◌++◌, length, set, Bool, true, false, nat_eq, Some, inl, inr, refl, sym, subst, ◌∙◌, ap, arith}
use Rattle.std.proofs.lemmas.Bool.{true≢false, false≢true, eqb-true, eq-eqb, ne_eqb, or_left, or_right, or_cases, or_from, or_parts, cases_eq}
use Rattle.std.proofs.lemmas.List.{length-set}
use Rattle.mage_instr.specs.declared.replaced.Replaced.{Replaced}
use Rattle.mage_instr.specs.declared.replaced.Replaced.TheVariants as entry
use Rattle.mage_instr.specs.declared.directive.Directive.TheVariants as directive
use Rattle.mage_sched.specs.declared.slot.Slot.{Slot}
use Rattle.mage_sched.specs.declared.slot.Slot.TheVariants as state
use Rattle.mage_sched.specs.declared.read.Timed.{Timed}
use Rattle.mage_sched.specs.Reads.{page_in}
use Rattle.mage_sched.specs.Rule.{in_memory, is_saved, came_in, takes}
use Rattle.mage_sched.specs.Slots.{Buffer, without}
use Rattle.mage_sched.specs.Issues.{Seen, put, seen_after}
use Rattle.mage_sched.specs.Turns.{Flight, is_for, stored_by, flight_after}
use Rattle.mage_sched.proofs.Coming.{Each, each_map, is_read}
use Rattle.mage_sched.proofs.Tables.{idle_reads, idle_writes, reads_writes, writes_same, not_for_idle, put_at, put_off, slot_at, slot_within, does_set, readers, reads_one, readers-set, times, one_if, one_if-same, one_if-other, times-push, times-without}

-- a slot reads a page, which was written
pub record IsReading (seen : Seen) (flying : List Timed) (slot page : ℕ) : Type 0 where
  pub named : seen.named slot ≡ page
  pub has : seen.store page ≡ Some page
  pub read : is_read page flying ≡ true

-- a page is out of memory, or leaves next
abbrev pub IsLeaving : (before after : List Replaced) → (page : ℕ) → Type 0
IsLeaving before after page = (in_memory before page ≡ false) ⊎ ((frame : ℕ) × (page_in before frame ≡ Some page) × (takes frame after ≡ true))

-- a slot writes a page, which is read later
pub record IsWriting (before after : List Replaced) (seen : Seen) (waiting : List Timed) (slot page : ℕ) : Type 0 where
  pub named : seen.named slot ≡ page
  pub sent : seen.sent slot ≡ Some page
  pub read : is_read page waiting ≡ true
  pub came : came_in before page ≡ true
  pub leaves : IsLeaving before after page

-- a page was written
pub record IsKept (seen : Seen) (flight : Flight) (page : ℕ) : Type 0 where
  pub has : seen.store page ≡ Some page
  pub stored : flight.stored page ≡ true

-- a read is in flight
abbrev pub IsInAir : (seen : Seen) (flight : Flight) → Timed → Type 0
IsInAir seen flight read = (slot : ℕ) × (flight.does slot ≡ state.Reads read.page) × (seen.asked slot ≡ read.issue)

-- each of some reads is of a page of its own
abbrev pub AreDistinct : List Timed → Type 0
AreDistinct [] = Unit {0}
AreDistinct (read ∷ reads) = (is_read read.page reads ≡ false) × AreDistinct reads

-- how often a slot is among those that write
abbrev pub writes_one : Slot → ℕ
writes_one state.Idle = 0
writes_one (state.Reads page) = 0
writes_one (state.Writes page) = 1

-- The slots, between two directives: `flying` are the reads that were issued and not finished, `waiting` those that weren't
-- issued, in their order.
pub record AreSlots (buffer : ℕ) (before after : List Replaced) (flying waiting : List Timed) (table : Buffer) (seen : Seen) (flight : Flight) : Type 0 where
  pub count : length table.slots ≡ buffer
  pub does : (slot : ℕ) → flight.does slot ≡ slot_at table.slots slot
  pub reading : (slot page : ℕ) → flight.does slot ≡ state.Reads page → IsReading seen flying slot page
  pub writing : (slot page : ℕ) → flight.does slot ≡ state.Writes page → IsWriting before after seen waiting slot page
  pub alone : (slot other page : ℕ) → is_for (flight.does slot) page ≡ true → is_for (flight.does other) page ≡ true → slot ≡ other
  pub writes : (slot : ℕ) → times slot table.writes ≡ writes_one (flight.does slot)
  pub kept : (page : ℕ) → is_saved before page ≡ true → IsKept seen flight page ⊎ ((slot : ℕ) × (flight.does slot ≡ state.Writes page))
  pub air : Each (IsInAir seen flight) flying
  pub number : readers table.slots ≡ length flying
  pub distinct : AreDistinct flying

-- ---- pages that are read

or_weaker : (a b c : Bool) → (b ≡ true → c ≡ true) → (a || b) ≡ true → (a || c) ≡ true
or_weaker true b c f h = refl
or_weaker false b c f h = f h

pub is_read-left : (page : ℕ) (xs ys : List Timed) → is_read page xs ≡ true → is_read page (xs ++ ys) ≡ true
is_read-left page [] ys h = absurd (false≢true h)
is_read-left page (x ∷ xs) ys h = or_weaker (nat_eq x.page page) (is_read page xs) (is_read page (xs ++ ys)) (is_read-left page xs ys) h

pub is_read-push : (page : ℕ) (xs : List Timed) (read : Timed) → read.page ≡ page → is_read page (xs ++ read ∷ []) ≡ true
is_read-push page [] read e = or_left (nat_eq read.page page) false (eq-eqb read.page page e)
is_read-push page (x ∷ xs) read e = or_right (nat_eq x.page page) (is_read page (xs ++ read ∷ [])) (is_read-push page xs read e)

is_read-none : (page : ℕ) (xs : List Timed) (read : Timed) → is_read page xs ≡ false → (read.page ≡ page → ⊥) → is_read page (xs ++ read ∷ []) ≡ false
is_read-none page [] read none n = or_from (nat_eq read.page page) false (ne_eqb read.page page n) refl
is_read-none page (x ∷ xs) read none n =
    let parts = or_parts (nat_eq x.page page) (is_read page xs) none in
    or_from (nat_eq x.page page) (is_read page (xs ++ read ∷ [])) parts.0 (is_read-none page xs read parts.1 n)

pub distinct-push : (xs : List Timed) (read : Timed) → AreDistinct xs → is_read read.page xs ≡ false → AreDistinct (xs ++ read ∷ [])
distinct-push [] read h none = (refl, tt)
distinct-push (x ∷ xs) read h none =
    let parts = or_parts (nat_eq x.page read.page) (is_read read.page xs) none in
    (is_read-none x.page xs read h.0 (λ e. true≢false (sym (eq-eqb x.page read.page (sym e)) ∙ parts.0)), distinct-push xs read h.1 parts.1)

-- a page that isn't read first is read later
pub read_later : (page : ℕ) (read : Timed) (rest : List Timed) → (read.page ≡ page → ⊥) → is_read page (read ∷ rest) ≡ true → is_read page rest ≡ true
read_later page read rest n h = go (or_cases (nat_eq read.page page) (is_read page rest) h) where
  go : (nat_eq read.page page ≡ true) ⊎ (is_read page rest ≡ true) → is_read page rest ≡ true
  go (inl e) = absurd (n (eqb-true read.page page e))
  go (inr e) = e

pub others_read : (page : ℕ) (reads : List Timed) → is_read page reads ≡ false → Each (λ (read : Timed). read.page ≡ page → ⊥) reads
others_read page [] none = tt
others_read page (read ∷ reads) none =
    let parts = or_parts (nat_eq read.page page) (is_read page reads) none in
    ((λ e. true≢false (sym (eq-eqb read.page page e) ∙ parts.0)), others_read page reads parts.1)

-- ---- a write is finished

module _ (buffer : ℕ) (before after : List Replaced) (flying waiting : List Timed) (table : Buffer) (seen : Seen) (flight : Flight)
    (kept : AreSlots buffer before after flying waiting table seen flight) (slot page : ℕ) (writes : flight.does slot ≡ state.Writes page) where
  within : slot < length table.slots
  within = slot_within table.slots slot (λ e. idle_writes page (sym e ∙ sym (kept.does slot) ∙ writes))

  store_kept : (q : ℕ) → seen.store q ≡ Some q → put (seen.named slot) (seen.sent slot) seen.store q ≡ Some q
  store_kept q h = go (cases_eq (seen.named slot) q) where
    go : (seen.named slot ≡ q) ⊎ (seen.named slot ≡ q → ⊥) → put (seen.named slot) (seen.sent slot) seen.store q ≡ Some q
    go (inl e) = put_at (seen.named slot) (seen.sent slot) seen.store q e ∙ (kept.writing slot page writes).sent ∙ ap (λ (n : ℕ). Some n) (sym (kept.writing slot page writes).named ∙ e)
    go (inr n) = put_off (seen.named slot) (seen.sent slot) seen.store q n ∙ h

  stored_kept : (q : ℕ) → flight.stored q ≡ true → stored_by (flight.does slot) flight.stored q ≡ true
  stored_kept q h = ap (λ (s : Slot). stored_by s flight.stored q) writes ∙ go (cases_eq page q) where
    go : (page ≡ q) ⊎ (page ≡ q → ⊥) → put page true flight.stored q ≡ true
    go (inl e) = put_at page true flight.stored q e
    go (inr n) = put_off page true flight.stored q n ∙ h

  now_kept : (q : ℕ) → page ≡ q → IsKept (seen_after (directive.FinishOut slot) seen) (flight_after (directive.FinishOut slot) flight) q
  now_kept q e = record {
    has = put_at (seen.named slot) (seen.sent slot) seen.store q ((kept.writing slot page writes).named ∙ e) ∙ (kept.writing slot page writes).sent ∙ ap (λ (n : ℕ). Some n) e;
    stored = ap (λ (s : Slot). stored_by s flight.stored q) writes ∙ put_at page true flight.stored q e;
  }

  idle_now : (other : ℕ) → slot ≡ other → put slot state.Idle flight.does other ≡ state.Idle
  idle_now other e = put_at slot state.Idle flight.does other e

  as_before : (other : ℕ) → (slot ≡ other → ⊥) → put slot state.Idle flight.does other ≡ flight.does other
  as_before other n = put_off slot state.Idle flight.does other n

  reading_then : (other q : ℕ) → (slot ≡ other) ⊎ (slot ≡ other → ⊥) → put slot state.Idle flight.does other ≡ state.Reads q → IsReading (seen_after (directive.FinishOut slot) seen) flying other q
  reading_then other q (inl e) h = absurd (idle_reads q (sym (idle_now other e) ∙ h))
  reading_then other q (inr n) h =
      let old = kept.reading other q (sym (as_before other n) ∙ h) in
      record { named = old.named; has = store_kept q old.has; read = old.read }

  writing_then : (other q : ℕ) → (slot ≡ other) ⊎ (slot ≡ other → ⊥) → put slot state.Idle flight.does other ≡ state.Writes q → IsWriting before after (seen_after (directive.FinishOut slot) seen) waiting other q
  writing_then other q (inl e) h = absurd (idle_writes q (sym (idle_now other e) ∙ h))
  writing_then other q (inr n) h =
      let old = kept.writing other q (sym (as_before other n) ∙ h) in
      record { named = old.named; sent = old.sent; read = old.read; came = old.came; leaves = old.leaves }

  for_then : (other q : ℕ) → (slot ≡ other) ⊎ (slot ≡ other → ⊥) → is_for (put slot state.Idle flight.does other) q ≡ true → is_for (flight.does other) q ≡ true
  for_then other q (inl e) h = absurd (not_for_idle (put slot state.Idle flight.does other) q (idle_now other e) h)
  for_then other q (inr n) h = sym (ap (λ (s : Slot). is_for s q) (as_before other n)) ∙ h

  there : 0 < times slot table.writes
  there = let e = kept.writes slot in let f = ap writes_one writes in omega (arith, e, f)

  writes_then : (other : ℕ) → (slot ≡ other) ⊎ (slot ≡ other → ⊥) → times other (without slot table.writes) ≡ writes_one (put slot state.Idle flight.does other)
  writes_then other (inl e) =
      let gone = times-without other slot table.writes there in
      let own : one_if other slot ≡ 1 = ap (λ (n : ℕ). one_if n slot) (sym e) ∙ one_if-same slot in
      let was : times other table.writes ≡ 1 = kept.writes other ∙ ap (λ (n : ℕ). writes_one (flight.does n)) (sym e) ∙ ap writes_one writes in
      let now : writes_one (put slot state.Idle flight.does other) ≡ 0 = ap writes_one (idle_now other e) in
      omega (arith, gone, own, was, now)
  writes_then other (inr n) =
      let gone = times-without other slot table.writes there in
      let own = one_if-other other slot (λ e. n (sym e)) in
      let was = kept.writes other in
      let now = ap writes_one (as_before other n) in
      omega (arith, gone, own, was, now)

  kept_then : (q : ℕ) → IsKept seen flight q ⊎ ((other : ℕ) × (flight.does other ≡ state.Writes q))
      → IsKept (seen_after (directive.FinishOut slot) seen) (flight_after (directive.FinishOut slot) flight) q ⊎ ((other : ℕ) × (put slot state.Idle flight.does other ≡ state.Writes q))
  kept_then q (inl k) = inl (record { has = store_kept q k.has; stored = stored_kept q k.stored })
  kept_then q (inr w) = go (cases_eq slot w.0) where
    go : (slot ≡ w.0) ⊎ (slot ≡ w.0 → ⊥) → IsKept (seen_after (directive.FinishOut slot) seen) (flight_after (directive.FinishOut slot) flight) q ⊎ ((other : ℕ) × (put slot state.Idle flight.does other ≡ state.Writes q))
    go (inl e) = inl (now_kept q (writes_same page q (sym writes ∙ ap (λ (n : ℕ). flight.does n) e ∙ w.1)))
    go (inr n) = inr (w.0, as_before w.0 n ∙ w.1)

  air_then : (read : Timed) → IsInAir seen flight read → IsInAir (seen_after (directive.FinishOut slot) seen) (flight_after (directive.FinishOut slot) flight) read
  air_then read h = (h.0, as_before h.0 (λ e. reads_writes read.page page (sym h.1 ∙ ap (λ (n : ℕ). flight.does n) (sym e) ∙ writes)) ∙ h.1, h.2)

  pub slots_finish_out : AreSlots buffer before after flying waiting (record { slots = set table.slots slot state.Idle; writes = without slot table.writes })
      (seen_after (directive.FinishOut slot) seen) (flight_after (directive.FinishOut slot) flight)
  slots_finish_out = record {
    count = length-set table.slots slot state.Idle ∙ kept.count;
    does = does_set table.slots flight.does slot state.Idle within kept.does;
    reading = λ other q h. reading_then other q (cases_eq slot other) h;
    writing = λ other q h. writing_then other q (cases_eq slot other) h;
    alone = λ one other q h k. kept.alone one other q (for_then one q (cases_eq slot one) h) (for_then other q (cases_eq slot other) k);
    writes = λ other. writes_then other (cases_eq slot other);
    kept = λ q h. kept_then q (kept.kept q h);
    air = each_map (IsInAir seen flight) (IsInAir (seen_after (directive.FinishOut slot) seen) (flight_after (directive.FinishOut slot) flight)) air_then flying kept.air;
    number =
        let e = readers-set table.slots slot state.Idle within in
        let f : reads_one (slot_at table.slots slot) ≡ 0 = ap reads_one (sym (kept.does slot) ∙ writes) in
        let g = kept.number in omega (arith, e, f, g);
    distinct = kept.distinct;
  }

-- ---- a write is issued

module _ (buffer : ℕ) (before rest : List Replaced) (flying waiting : List Timed) (table : Buffer) (seen : Seen) (flight : Flight) (slot frame page : ℕ)
    (kept : AreSlots buffer before (entry.Save frame page ∷ rest) flying waiting table seen flight)
    (inside : slot < buffer) (idle : flight.does slot ≡ state.Idle)
    (free : (other : ℕ) → is_for (flight.does other) page ≡ false)
    (holds : seen.frames frame ≡ Some page) (held : page_in before frame ≡ Some page) (leaves : takes frame rest ≡ true)
    (came : came_in before page ≡ true) (read : is_read page waiting ≡ true) where
  does_now : (other : ℕ) → slot ≡ other → put slot (state.Writes page) flight.does other ≡ state.Writes page
  does_now other e = put_at slot (state.Writes page) flight.does other e

  does_still : (other : ℕ) → (slot ≡ other → ⊥) → put slot (state.Writes page) flight.does other ≡ flight.does other
  does_still other n = put_off slot (state.Writes page) flight.does other n

  out_reading : (other q : ℕ) → (slot ≡ other) ⊎ (slot ≡ other → ⊥) → put slot (state.Writes page) flight.does other ≡ state.Reads q → IsReading (seen_after (directive.IssueOut slot frame page) seen) flying other q
  out_reading other q (inl e) h = absurd (reads_writes q page (sym h ∙ does_now other e))
  out_reading other q (inr n) h =
      let old = kept.reading other q (sym (does_still other n) ∙ h) in
      record { named = put_off slot page seen.named other n ∙ old.named; has = old.has; read = old.read }

  still_leaves : (q : ℕ) → IsLeaving before (entry.Save frame page ∷ rest) q → IsLeaving (entry.Save frame page ∷ before) rest q
  still_leaves q (inl e) = inl e
  still_leaves q (inr w) = absurd (false≢true w.2)

  out_writing : (other q : ℕ) → (slot ≡ other) ⊎ (slot ≡ other → ⊥) → put slot (state.Writes page) flight.does other ≡ state.Writes q → IsWriting (entry.Save frame page ∷ before) rest (seen_after (directive.IssueOut slot frame page) seen) waiting other q
  out_writing other q (inl e) h =
      let same = writes_same page q (sym (does_now other e) ∙ h) in
      let P : ℕ → Type 0 = λ n. IsWriting (entry.Save frame page ∷ before) rest (seen_after (directive.IssueOut slot frame page) seen) waiting other n in
      subst P same (record {
        named = put_at slot page seen.named other e;
        sent = put_at slot (seen.frames frame) seen.sent other e ∙ holds;
        read = read;
        came = came;
        leaves = inr (frame, held, leaves);
      })
  out_writing other q (inr n) h =
      let old = kept.writing other q (sym (does_still other n) ∙ h) in
      record {
        named = put_off slot page seen.named other n ∙ old.named;
        sent = put_off slot (seen.frames frame) seen.sent other n ∙ old.sent;
        read = old.read;
        came = old.came;
        leaves = still_leaves q old.leaves;
      }

  none_for : (other q : ℕ) → page ≡ q → is_for (flight.does other) q ≡ true → ⊥
  none_for other q e h = false≢true (sym (free other) ∙ ap (λ (n : ℕ). is_for (flight.does other) n) e ∙ h)

  out_page : (other q : ℕ) → slot ≡ other → is_for (put slot (state.Writes page) flight.does other) q ≡ true → page ≡ q
  out_page other q e h = eqb-true page q (sym (ap (λ (s : Slot). is_for s q) (does_now other e)) ∙ h)

  out_old : (other q : ℕ) → (slot ≡ other → ⊥) → is_for (put slot (state.Writes page) flight.does other) q ≡ true → is_for (flight.does other) q ≡ true
  out_old other q n h = sym (ap (λ (s : Slot). is_for s q) (does_still other n)) ∙ h

  out_alone : (one other q : ℕ) → (slot ≡ one) ⊎ (slot ≡ one → ⊥) → (slot ≡ other) ⊎ (slot ≡ other → ⊥)
      → is_for (put slot (state.Writes page) flight.does one) q ≡ true → is_for (put slot (state.Writes page) flight.does other) q ≡ true → one ≡ other
  out_alone one other q (inl e) (inl f) h k = sym e ∙ f
  out_alone one other q (inl e) (inr n) h k = absurd (none_for other q (out_page one q e h) (out_old other q n k))
  out_alone one other q (inr m) (inl f) h k = absurd (none_for one q (out_page other q f k) (out_old one q m h))
  out_alone one other q (inr m) (inr n) h k = kept.alone one other q (out_old one q m h) (out_old other q n k)

  out_writes : (other : ℕ) → (slot ≡ other) ⊎ (slot ≡ other → ⊥) → times other (table.writes ++ slot ∷ []) ≡ writes_one (put slot (state.Writes page) flight.does other)
  out_writes other (inl e) =
      let more = times-push other table.writes slot in
      let own : one_if other slot ≡ 1 = ap (λ (n : ℕ). one_if n slot) (sym e) ∙ one_if-same slot in
      let was : times other table.writes ≡ 0 = kept.writes other ∙ ap (λ (n : ℕ). writes_one (flight.does n)) (sym e) ∙ ap writes_one idle in
      let now : writes_one (put slot (state.Writes page) flight.does other) ≡ 1 = ap writes_one (does_now other e) in
      omega (arith, more, own, was, now)
  out_writes other (inr n) =
      let more = times-push other table.writes slot in
      let own = one_if-other other slot (λ e. n (sym e)) in
      let was = kept.writes other in
      let now = ap writes_one (does_still other n) in
      omega (arith, more, own, was, now)

  out_kept : (q : ℕ) → (nat_eq page q ≡ true) ⊎ (is_saved before q ≡ true)
      → IsKept (seen_after (directive.IssueOut slot frame page) seen) (flight_after (directive.IssueOut slot frame page) flight) q ⊎ ((other : ℕ) × (put slot (state.Writes page) flight.does other ≡ state.Writes q))
  out_kept q (inl e) = inr (slot, does_now slot refl ∙ ap (λ (n : ℕ). state.Writes n) (eqb-true page q e))
  out_kept q (inr e) = go (kept.kept q e) where
    go : IsKept seen flight q ⊎ ((other : ℕ) × (flight.does other ≡ state.Writes q))
        → IsKept (seen_after (directive.IssueOut slot frame page) seen) (flight_after (directive.IssueOut slot frame page) flight) q ⊎ ((other : ℕ) × (put slot (state.Writes page) flight.does other ≡ state.Writes q))
    go (inl k) = inl (record { has = k.has; stored = k.stored })
    go (inr w) = inr (w.0, does_still w.0 (λ e. idle_writes q (sym idle ∙ ap (λ (n : ℕ). flight.does n) e ∙ w.1)) ∙ w.1)

  out_air : (r : Timed) → IsInAir seen flight r → IsInAir (seen_after (directive.IssueOut slot frame page) seen) (flight_after (directive.IssueOut slot frame page) flight) r
  out_air r h = (h.0, does_still h.0 (λ e. idle_reads r.page (sym idle ∙ ap (λ (n : ℕ). flight.does n) e ∙ h.1)) ∙ h.1, h.2)

  out_within : slot < length table.slots
  out_within = let e = kept.count in omega (arith, e, inside)

  pub slots_issue_out : AreSlots buffer (entry.Save frame page ∷ before) rest flying waiting (record { slots = set table.slots slot (state.Writes page); writes = table.writes ++ slot ∷ [] })
      (seen_after (directive.IssueOut slot frame page) seen) (flight_after (directive.IssueOut slot frame page) flight)
  slots_issue_out = record {
    count = length-set table.slots slot (state.Writes page) ∙ kept.count;
    does = does_set table.slots flight.does slot (state.Writes page) out_within kept.does;
    reading = λ other q h. out_reading other q (cases_eq slot other) h;
    writing = λ other q h. out_writing other q (cases_eq slot other) h;
    alone = λ one other q h k. out_alone one other q (cases_eq slot one) (cases_eq slot other) h k;
    writes = λ other. out_writes other (cases_eq slot other);
    kept = λ q h. out_kept q (or_cases (nat_eq page q) (is_saved before q) h);
    air = each_map (IsInAir seen flight) (IsInAir (seen_after (directive.IssueOut slot frame page) seen) (flight_after (directive.IssueOut slot frame page) flight)) out_air flying kept.air;
    number =
        let e = readers-set table.slots slot (state.Writes page) out_within in
        let f : reads_one (slot_at table.slots slot) ≡ 0 = ap reads_one (sym (kept.does slot) ∙ idle) in
        let g = kept.number in omega (arith, e, f, g);
    distinct = kept.distinct;
  }
