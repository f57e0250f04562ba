-- Directives that are in turn, put together from the parts of a move.
use Rattle.std.proofs.Common.{◌≡◌, ◌<◌, ◌+◌, ◌⊎◌, ℕ, suc, List, [], ◌∷◌, ◌++◌, length, set, Bool, true, false, cond, nat_eq, Option, Some, None, unwrap_or, inl, inr, refl, sym, subst, ◌∙◌, ap, arith, append_assoc}
use Rattle.std.proofs.lemmas.Bool.{true≢false, false≢true, eqb-true, eq-eqb, cases_eq, false_from_ne_true}
use Rattle.std.proofs.lemmas.List.{length-set}
use Rattle.std.specs.List.{position, flat_map}
use Rattle.mage_instr.specs.declared.replaced.Replaced.{Replaced}
use Rattle.mage_instr.specs.declared.replaced.Replaced.TheVariants as entry
use Rattle.mage_instr.specs.declared.directive.Directive.{Directive}
use Rattle.mage_instr.specs.declared.directive.Directive.TheVariants as directive
use Rattle.mage_sched.specs.declared.slot.Slot.{Slot}
use Rattle.mage_sched.specs.declared.slot.Slot.TheVariants as state
use Rattle.mage_sched.specs.declared.read.Read.{Read}
use Rattle.mage_sched.specs.declared.read.Timed.{Timed}
use Rattle.mage_sched.specs.Reads.{gap_after, page_in, is_page, lost_in}
use Rattle.mage_sched.specs.Rule.{is_saved, came_in, takes}
use Rattle.mage_sched.specs.Slots.{Buffer, is_idle, reads_page, writes_page, lowest, finish_first, room_at, make_room, finish_in_slot, finish_write, finish_out, issue_in, issue_out, finish_in, read_issued, write_issued}
use Rattle.mage_sched.specs.Issues.{Seen, put, loses, seen_after, read_of, reads_in, issues_in}
use Rattle.mage_sched.specs.Turns.{Flight, is_for, flight_after, AreInTurn}
use Rattle.mage_sched.specs.Plainly.{paged_in, page_of, plainly}
use Rattle.mage_sched.specs.Scheduled.{page_read}
use Rattle.mage_sched.proofs.Coming.{is_read}
use Rattle.mage_sched.proofs.Tables.{idle_reads, idle_writes, for_reads, for_writes, put_at, put_off, slot_at, slot_within, reads_one, free_reader, found, finds, times, one_if, one_if-same}
use Rattle.mage_sched.proofs.Buffers.{AreSlots, IsKept, writes_one, slots_finish_out, slots_issue_out}
use Rattle.mage_sched.proofs.Arrivals.{slots_issue_in, slots_finish_in}

-- Directives that are in turn, name the pages that are transferred, are this list read plainly, whose reads and issues are these,
-- and that issue so many reads.
pub record Turn (buffer : ℕ) (seen : Seen) (flight : Flight) (list : List Directive) (plain : List Replaced) (reads : List Read) (issues : List ℕ) (asked : ℕ) : Type 0 where
  pub done : reads_in seen list ≡ reads
  pub issued : issues_in seen list ≡ issues
  pub turns : AreInTurn buffer flight list
  pub asks : length (flat_map page_read list) ≡ asked
  pub same : plainly flight list ≡ plain
  pub own : paged_in seen list ≡ list

pub turn_list : (buffer : ℕ) (seen : Seen) (flight : Flight) (list other : List Directive) (plain : List Replaced) (reads : List Read) (issues : List ℕ) (asked : ℕ) → list ≡ other → Turn buffer seen flight list plain reads issues asked → Turn buffer seen flight other plain reads issues asked
turn_list buffer seen flight list other plain reads issues asked e h = let P : List Directive → Type 0 = λ xs. Turn buffer seen flight xs plain reads issues asked in subst P e h

pub one_more : {xs ys : List Directive} (one : Directive) → xs ≡ ys → one ∷ xs ≡ one ∷ ys
one_more one e = ap (λ (zs : List Directive). one ∷ zs) e

-- a transfer of the page that there is
pub same_transfer : {xs ys : List Directive} (transfer : ℕ → Directive) (o : Option ℕ) (page : ℕ) → o ≡ Some page → xs ≡ ys → transfer (unwrap_or o 0) ∷ xs ≡ transfer page ∷ ys
same_transfer {xs = xs} transfer o page e same = ap (λ (p : Option ℕ). transfer (unwrap_or p 0) ∷ xs) e ∙ one_more (transfer page) same

-- what was seen is what the entries before say
pub record Remembers (before : List Replaced) (seen : Seen) : Type 0 where
  pub now : seen.gap ≡ gap_after before
  pub holds : (frame : ℕ) → seen.frames frame ≡ page_in before frame
  pub left : (page : ℕ) → seen.lost page ≡ lost_in before page

-- no slot writes a page
abbrev pub NoneWrites : (page : ℕ) → Flight → Type 0
NoneWrites page flight = (slot : ℕ) → flight.does slot ≡ state.Writes page → ⊥

-- an idle slot is found
abbrev pub HasIdle : Buffer → Flight → Type 0
HasIdle table flight = (slot : ℕ) × (position is_idle table.slots ≡ Some slot) × (slot < length table.slots) × (flight.does slot ≡ state.Idle)

idle_is : (slot : Slot) → is_idle slot ≡ true → slot ≡ state.Idle
idle_is state.Idle h = refl
idle_is (state.Reads page) h = absurd (false≢true h)
idle_is (state.Writes page) h = absurd (false≢true h)

writes_is : (slot : Slot) → is_idle slot ≡ false → reads_one slot ≡ 0 → (page : ℕ) × (slot ≡ state.Writes page)
writes_is state.Idle h k = absurd (true≢false h)
writes_is (state.Reads page) h k = absurd (omega (arith, k))
writes_is (state.Writes page) h k = (page, refl)

one_writes : (slot : Slot) → 0 < writes_one slot → (page : ℕ) × (slot ≡ state.Writes page)
one_writes state.Idle h = absurd (omega (arith, h))
one_writes (state.Reads page) h = absurd (omega (arith, h))
one_writes (state.Writes page) h = (page, refl)

page_writes : (slot : Slot) (page : ℕ) → writes_page page slot ≡ true → slot ≡ state.Writes page
page_writes state.Idle page h = absurd (false≢true h)
page_writes (state.Reads other) page h = absurd (false≢true h)
page_writes (state.Writes other) page h = ap (λ (n : ℕ). state.Writes n) (sym (eqb-true page other h))

page_reads : (slot : Slot) (page : ℕ) → reads_page page slot ≡ true → slot ≡ state.Reads page
page_reads state.Idle page h = absurd (false≢true h)
page_reads (state.Reads other) page h = ap (λ (n : ℕ). state.Reads n) (sym (eqb-true page other h))
page_reads (state.Writes other) page h = absurd (false≢true h)

for_cases : (slot : Slot) (page : ℕ) → is_for slot page ≡ true → (slot ≡ state.Reads page) ⊎ (slot ≡ state.Writes page)
for_cases state.Idle page h = absurd (false≢true h)
for_cases (state.Reads other) page h = inl (ap (λ (n : ℕ). state.Reads n) (eqb-true other page h))
for_cases (state.Writes other) page h = inr (ap (λ (n : ℕ). state.Writes n) (eqb-true other page h))

module _ (buffer : ℕ) (before after : List Replaced) (flying waiting : List Timed) (table : Buffer) (seen : Seen) (flight : Flight)
    (kept : AreSlots buffer before after flying waiting table seen flight) where
  pub idle_at : (slot : ℕ) → position is_idle table.slots ≡ Some slot → HasIdle table flight
  idle_at slot e =
      let at = found is_idle table.slots state.Idle (Some slot) e in
      (slot, e, at.0, kept.does slot ∙ idle_is (slot_at table.slots slot) at.1)

  pub has_idle : (slot : ℕ) → slot < length table.slots → flight.does slot ≡ state.Idle → HasIdle table flight
  has_idle slot within e =
      let at = finds is_idle table.slots state.Idle slot within (ap is_idle (sym (kept.does slot) ∙ e)) in
      (at.0, at.1, at.2, kept.does at.0 ∙ idle_is (slot_at table.slots at.0) at.3)

  -- where none is idle, and not all read, one writes
  pub some_writes : position is_idle table.slots ≡ None → length flying < buffer → (slot : ℕ) × (page : ℕ) × (flight.does slot ≡ state.Writes page)
  some_writes none few =
      let free = free_reader table.slots (let e = kept.count in let f = kept.number in omega (arith, e, f, few)) in
      let busy = found is_idle table.slots state.Idle None none free.0 free.1 in
      let writes = writes_is (slot_at table.slots free.0) busy free.2 in
      (free.0, writes.0, kept.does free.0 ∙ writes.1)

  pub head_writes : (slot : ℕ) (slots : List ℕ) → table.writes ≡ slot ∷ slots → (page : ℕ) × (flight.does slot ≡ state.Writes page)
  head_writes slot slots e =
      let more : times slot table.writes ≡ one_if slot slot + times slot slots = ap (times slot) e in
      let own = one_if-same slot in
      let is = kept.writes slot in
      let writes = one_writes (flight.does slot) (omega (arith, more, own, is)) in
      (writes.0, writes.1)

  pub none_write : table.writes ≡ [] → (slot page : ℕ) → flight.does slot ≡ state.Writes page → ⊥
  none_write e slot page h =
      let none : times slot table.writes ≡ 0 = ap (times slot) e in
      let is = kept.writes slot in
      let one : writes_one (flight.does slot) ≡ 1 = ap writes_one h in absurd (omega (arith, none, is, one))

  -- no slot is for a page that none reads and none writes
  pub none_for : (page : ℕ) → is_read page flying ≡ false → NoneWrites page flight → (slot : ℕ) → is_for (flight.does slot) page ≡ false
  none_for page unread unwritten slot = false_from_ne_true (is_for (flight.does slot) page) (λ t. go (for_cases (flight.does slot) page t)) where
    go : (flight.does slot ≡ state.Reads page) ⊎ (flight.does slot ≡ state.Writes page) → ⊥
    go (inl e) = false≢true (sym unread ∙ (kept.reading slot page e).read)
    go (inr e) = unwritten slot e

  -- a page that was saved and that no slot writes was written
  pub written : (page : ℕ) → is_saved before page ≡ true → NoneWrites page flight → IsKept seen flight page
  written page saved unwritten = go (kept.kept page saved) where
    go : IsKept seen flight page ⊎ ((slot : ℕ) × (flight.does slot ≡ state.Writes page)) → IsKept seen flight page
    go (inl k) = k
    go (inr w) = absurd (unwritten w.0 w.1)

-- finishing a write leaves what others do
pub still_none : (page slot : ℕ) (flight : Flight) → NoneWrites page flight → NoneWrites page (flight_after (directive.FinishOut slot) flight)
still_none page slot flight none other h = go (cases_eq slot other) where
  go : (slot ≡ other) ⊎ (slot ≡ other → ⊥) → ⊥
  go (inl e) = idle_writes page (sym (put_at slot state.Idle flight.does other e) ∙ h)
  go (inr n) = none other (sym (put_off slot state.Idle flight.does other n) ∙ h)

pub same_remembered : (before : List Replaced) (slot : ℕ) (seen : Seen) → Remembers before seen → Remembers before (seen_after (directive.FinishOut slot) seen)
same_remembered before slot seen was = record { now = was.now; holds = was.holds; left = was.left }

-- ---- what goes on once a slot is idle

module _ (buffer : ℕ) (before after : List Replaced) (flying waiting : List Timed) (page : ℕ) (next : Buffer → List Directive) (plain : List Replaced) (reads : List Read) (issues : List ℕ) (asked : ℕ) where
  -- the rest is in turn, wherever no slot writes the page
  abbrev pub GoesOn : Type 0
  GoesOn = (table : Buffer) (seen : Seen) (flight : Flight) → AreSlots buffer before after flying waiting table seen flight → Remembers before seen → NoneWrites page flight
      → Turn buffer seen flight (next table) plain reads issues asked

  -- and a slot is idle
  abbrev pub GoesOnIdle : Type 0
  GoesOnIdle = (table : Buffer) (seen : Seen) (flight : Flight) → AreSlots buffer before after flying waiting table seen flight → Remembers before seen → NoneWrites page flight → HasIdle table flight
      → Turn buffer seen flight (next table) plain reads issues asked

  module _ (table : Buffer) (seen : Seen) (flight : Flight) (kept : AreSlots buffer before after flying waiting table seen flight) (was : Remembers before seen) where
    first_goes : length flying < buffer → NoneWrites page flight → GoesOnIdle → position is_idle table.slots ≡ None → (writes : List ℕ) → table.writes ≡ writes
        → Turn buffer seen flight ((finish_first writes table).directives ++ next (finish_first writes table).buffer) plain reads issues asked
    first_goes few none goes full [] e =
        let busy = some_writes buffer before after flying waiting table seen flight kept full few in
        absurd (none_write buffer before after flying waiting table seen flight kept e busy.0 busy.1 busy.2)
    first_goes few none goes full (slot ∷ slots) e =
        let busy = head_writes buffer before after flying waiting table seen flight kept slot slots e in
        let moved = slots_finish_out buffer before after flying waiting table seen flight kept slot busy.0 busy.1 in
        let within = slot_within table.slots slot (λ i. idle_writes busy.0 (sym i ∙ sym (kept.does slot) ∙ busy.1)) in
        let idle = has_idle buffer before after flying waiting (finish_out slot table).buffer (seen_after (directive.FinishOut slot) seen) (flight_after (directive.FinishOut slot) flight) moved
        slot (let l = length-set table.slots slot state.Idle in omega (arith, l, within)) (put_at slot state.Idle flight.does slot refl) in
        let rest = goes (finish_out slot table).buffer (seen_after (directive.FinishOut slot) seen) (flight_after (directive.FinishOut slot) flight) moved (same_remembered before slot seen was) (still_none page slot flight none) idle in
        record { done = rest.done; issued = rest.issued; turns = ((busy.0, busy.1), rest.turns); asks = rest.asks; same = rest.same; own = one_more (directive.FinishOut slot) rest.own }

    room_at_goes : length flying < buffer → NoneWrites page flight → GoesOnIdle → (place : Option ℕ) → position is_idle table.slots ≡ place
        → Turn buffer seen flight ((room_at place table).directives ++ next (room_at place table).buffer) plain reads issues asked
    room_at_goes few none goes None e = first_goes few none goes e table.writes refl
    room_at_goes few none goes (Some slot) e = goes table seen flight kept was none (idle_at buffer before after flying waiting table seen flight kept slot e)

    -- room is made, and the rest goes on
    pub room_goes : length flying < buffer → NoneWrites page flight → GoesOnIdle
        → Turn buffer seen flight ((make_room table).directives ++ next (make_room table).buffer) plain reads issues asked
    room_goes few none goes = room_at_goes few none goes (position is_idle table.slots) refl

    write_at_goes : GoesOn → (place : Option ℕ) → position (writes_page page) table.slots ≡ place
        → Turn buffer seen flight ((finish_in_slot place table).directives ++ next (finish_in_slot place table).buffer) plain reads issues asked
    write_at_goes goes None e = goes table seen flight kept was (λ slot h.
        let at = sym (kept.does slot) ∙ h in
        let within = slot_within table.slots slot (λ i. idle_writes page (sym i ∙ at)) in
        let none = found (writes_page page) table.slots state.Idle None e slot within in
        false≢true (sym none ∙ ap (writes_page page) at ∙ eq-eqb page page refl))
    write_at_goes goes (Some slot) e =
        let at = found (writes_page page) table.slots state.Idle (Some slot) e in
        let writes = kept.does slot ∙ page_writes (slot_at table.slots slot) page at.1 in
        let moved = slots_finish_out buffer before after flying waiting table seen flight kept slot page writes in
        let rest = goes (finish_out slot table).buffer (seen_after (directive.FinishOut slot) seen) (flight_after (directive.FinishOut slot) flight) moved (same_remembered before slot seen was) (λ other h. none_left slot writes other h (cases_eq slot other)) in
        record { done = rest.done; issued = rest.issued; turns = ((page, writes), rest.turns); asks = rest.asks; same = rest.same; own = one_more (directive.FinishOut slot) rest.own }
      where
        none_left : (slot : ℕ) → flight.does slot ≡ state.Writes page → (other : ℕ) → put slot state.Idle flight.does other ≡ state.Writes page → (slot ≡ other) ⊎ (slot ≡ other → ⊥) → ⊥
        none_left slot writes other h (inl e) = idle_writes page (sym (put_at slot state.Idle flight.does other e) ∙ h)
        none_left slot writes other h (inr n) = n (kept.alone slot other page (for_writes (flight.does slot) page writes) (for_writes (flight.does other) page (sym (put_off slot state.Idle flight.does other n) ∙ h)))

    -- the write of the page is finished, and the rest goes on
    pub write_goes : GoesOn → Turn buffer seen flight ((finish_write page table).directives ++ next (finish_write page table).buffer) plain reads issues asked
    write_goes goes = write_at_goes goes (position (writes_page page) table.slots) refl

lowest_is : (test : Slot → Bool) (table : Buffer) (slot : ℕ) → position test table.slots ≡ Some slot → lowest test table ≡ slot
lowest_is test table slot e = ap (λ (o : Option ℕ). unwrap_or o 0) e

-- ---- a read is issued

module _ (buffer : ℕ) (before after : List Replaced) (flying : List Timed) (read : Timed) (waiting : List Timed) (next : Buffer → List Directive) (plain : List Replaced) (reads : List Read) (issues : List ℕ)
    (few : length flying < buffer) (new : is_read read.page flying ≡ false) (saved : is_saved before read.page ≡ true) (gap : gap_after before ≡ read.issue)
    (goes : (table : Buffer) (seen : Seen) (flight : Flight) → AreSlots buffer before after (flying ++ read ∷ []) waiting table seen flight → Remembers before seen → Turn buffer seen flight (next table) plain reads issues (length waiting)) where
  abbrev then_issued : Buffer → List Directive
  then_issued table = (issue_in read.page table).directives ++ next (issue_in read.page table).buffer

  abbrev then_room : Buffer → List Directive
  then_room table = (make_room table).directives ++ then_issued (make_room table).buffer

  issue_goes : (table : Buffer) (seen : Seen) (flight : Flight) → AreSlots buffer before after flying (read ∷ waiting) table seen flight → Remembers before seen → NoneWrites read.page flight → HasIdle table flight
      → Turn buffer seen flight (then_issued table) plain reads issues (suc (length waiting))
  issue_goes table seen flight kept was none idle =
      let slot = idle.0 in
      let is = written buffer before after flying (read ∷ waiting) table seen flight kept read.page saved none in
      let free = none_for buffer before after flying (read ∷ waiting) table seen flight kept read.page new none in
      let inside : slot < buffer = let e = kept.count in let f = idle.2 in omega (arith, e, f) in
      let moved = slots_issue_in buffer before after flying read waiting table seen flight slot kept inside idle.3 free is.has (was.now ∙ gap) new in
      let rest = goes (record { slots = set table.slots slot (state.Reads read.page); writes = table.writes }) (seen_after (directive.IssueIn slot read.page) seen) (flight_after (directive.IssueIn slot read.page) flight) moved
      (record { now = was.now; holds = was.holds; left = was.left }) in
      let P : ℕ → Type 0 = λ n. Turn buffer seen flight (directive.IssueIn n read.page ∷ next (record { slots = set table.slots n (state.Reads read.page); writes = table.writes })) plain reads issues (suc (length waiting)) in
      subst P (sym (lowest_is is_idle table slot idle.1)) (record {
        done = rest.done;
        issued = rest.issued;
        turns = ((record { within = inside; idle = idle.3; alone = free }, is.stored), rest.turns);
        asks = let e = rest.asks in omega (arith, e);
        same = rest.same;
        own = same_transfer (directive.IssueIn slot) (seen.store read.page) read.page is.has rest.own;
      })

  pub read_goes : (table : Buffer) (seen : Seen) (flight : Flight) → AreSlots buffer before after flying (read ∷ waiting) table seen flight → Remembers before seen
      → Turn buffer seen flight ((read_issued read.page table).directives ++ next (read_issued read.page table).buffer) plain reads issues (suc (length waiting))
  read_goes table seen flight kept was =
      let a = (finish_write read.page table).directives in
      let first = (finish_write read.page table).buffer in
      let b = (make_room first).directives in
      let second = (make_room first).buffer in
      let c = (issue_in read.page second).directives in
      let d = next (issue_in read.page second).buffer in
      turn_list buffer seen flight (a ++ (b ++ (c ++ d))) (((a ++ b) ++ c) ++ d) plain reads issues (suc (length waiting))
      (sym (append_assoc (a ++ b) c d ∙ append_assoc a b (c ++ d)))
      (write_goes buffer before after flying (read ∷ waiting) read.page then_room plain reads issues (suc (length waiting)) table seen flight kept was (λ table1 seen1 flight1 kept1 was1 none1.
      room_goes buffer before after flying (read ∷ waiting) read.page then_issued plain reads issues (suc (length waiting)) table1 seen1 flight1 kept1 was1 few none1 issue_goes))

-- ---- a write is issued

module _ (buffer : ℕ) (before rest : List Replaced) (flying waiting : List Timed) (frame page : ℕ) (next : Buffer → List Directive) (plain : List Replaced) (reads : List Read) (issues : List ℕ)
    (few : length flying < buffer) (new : is_read page flying ≡ false) (held : page_in before frame ≡ Some page) (leaves : takes frame rest ≡ true) (came : came_in before page ≡ true) (later : is_read page waiting ≡ true)
    (goes : (table : Buffer) (seen : Seen) (flight : Flight) → AreSlots buffer (entry.Save frame page ∷ before) rest flying waiting table seen flight → Remembers (entry.Save frame page ∷ before) seen → Turn buffer seen flight (next table) plain reads issues (length waiting)) where
  abbrev then_sent : Buffer → List Directive
  then_sent table = (issue_out frame page table).directives ++ next (issue_out frame page table).buffer

  save_remembered : (seen : Seen) (slot : ℕ) → Remembers before seen → Remembers (entry.Save frame page ∷ before) (seen_after (directive.IssueOut slot frame page) seen)
  save_remembered seen slot was = record {
    now = was.now;
    holds = was.holds;
    left = λ q. ap (λ (o : Option ℕ). loses o seen.gap seen.lost q) (was.holds frame ∙ held) ∙ lost_is q;
  } where
    lost_is : (q : ℕ) → put page seen.gap seen.lost q ≡ lost_in (entry.Save frame page ∷ before) q
    lost_is q = rw (was.now, was.left q) refl

  send_goes : (table : Buffer) (seen : Seen) (flight : Flight) → AreSlots buffer before (entry.Save frame page ∷ rest) flying waiting table seen flight → Remembers before seen → NoneWrites page flight → HasIdle table flight
      → Turn buffer seen flight (then_sent table) (entry.Save frame page ∷ plain) reads issues (length waiting)
  send_goes table seen flight kept was none idle =
      let slot = idle.0 in
      let free = none_for buffer before (entry.Save frame page ∷ rest) flying waiting table seen flight kept page new none in
      let inside : slot < buffer = let e = kept.count in let f = idle.2 in omega (arith, e, f) in
      let moved = slots_issue_out buffer before rest flying waiting table seen flight slot frame page kept inside idle.3 free (was.holds frame ∙ held) held leaves came later in
      let rest = goes (record { slots = set table.slots slot (state.Writes page); writes = table.writes ++ slot ∷ [] }) (seen_after (directive.IssueOut slot frame page) seen) (flight_after (directive.IssueOut slot frame page) flight) moved
      (save_remembered seen slot was) in
      let P : ℕ → Type 0 = λ n. Turn buffer seen flight (directive.IssueOut n frame page ∷ next (record { slots = set table.slots n (state.Writes page); writes = table.writes ++ n ∷ [] })) (entry.Save frame page ∷ plain) reads issues (length waiting) in
      subst P (sym (lowest_is is_idle table slot idle.1)) (record {
        done = rest.done;
        issued = rest.issued;
        turns = (record { within = inside; idle = idle.3; alone = free }, rest.turns);
        asks = rest.asks;
        same = ap (λ (xs : List Replaced). entry.Save frame page ∷ xs) rest.same;
        own = same_transfer (directive.IssueOut slot frame) (seen.frames frame) page (was.holds frame ∙ held) rest.own;
      })

  pub save_goes : (table : Buffer) (seen : Seen) (flight : Flight) → AreSlots buffer before (entry.Save frame page ∷ rest) flying waiting table seen flight → Remembers before seen → NoneWrites page flight
      → Turn buffer seen flight ((write_issued frame page table).directives ++ next (write_issued frame page table).buffer) (entry.Save frame page ∷ plain) reads issues (length waiting)
  save_goes table seen flight kept was none =
      let a = (make_room table).directives in
      let b = (issue_out frame page (make_room table).buffer).directives in
      let c = next (issue_out frame page (make_room table).buffer).buffer in
      turn_list buffer seen flight (a ++ (b ++ c)) ((a ++ b) ++ c) (entry.Save frame page ∷ plain) reads issues (length waiting) (sym (append_assoc a b c))
      (room_goes buffer before (entry.Save frame page ∷ rest) flying waiting page then_sent (entry.Save frame page ∷ plain) reads issues (length waiting) table seen flight kept was few none send_goes)

-- ---- a read is finished

abbrev read_with : (page due lost : ℕ) → Read
read_with page due lost = record { page = page; due = due; lost = lost }

same_read : (a b : Read) (xs ys : List Read) → a.page ≡ b.page → a.due ≡ b.due → a.lost ≡ b.lost → xs ≡ ys → a ∷ xs ≡ b ∷ ys
same_read a b xs ys p d l e =
    ap (λ (n : ℕ). read_with n a.due a.lost ∷ xs) p ∙ ap (λ (n : ℕ). read_with b.page n a.lost ∷ xs) d
    ∙ ap (λ (n : ℕ). read_with b.page b.due n ∷ xs) l ∙ ap (λ (zs : List Read). b ∷ zs) e

same_issue : (a b : ℕ) (xs ys : List ℕ) → a ≡ b → xs ≡ ys → a ∷ xs ≡ b ∷ ys
same_issue a b xs ys p e = cc

same_load : (frame page other : ℕ) (xs ys : List Replaced) → page ≡ other → xs ≡ ys → entry.Load frame page ∷ xs ≡ entry.Load frame other ∷ ys
same_load frame page other xs ys p e = cc

loses_is : (o : Option ℕ) (gap : ℕ) (lost : ℕ → ℕ) (q : ℕ) → loses o gap lost q ≡ cond (is_page o q) gap (lost q)
loses_is None gap lost q = refl
loses_is (Some page) gap lost q = refl

-- a frame takes a page
pub enter_remembered : (before after : List Replaced) (seen other_seen : Seen) (frame page : ℕ) → Remembers before seen
    → other_seen.gap ≡ seen.gap → ((other : ℕ) → other_seen.frames other ≡ put frame (Some page) seen.frames other) → ((q : ℕ) → other_seen.lost q ≡ loses (seen.frames frame) seen.gap seen.lost q)
    → gap_after after ≡ gap_after before → ((other : ℕ) → page_in after other ≡ put frame (Some page) (page_in before) other)
    → ((q : ℕ) → lost_in after q ≡ cond (is_page (page_in before frame) q) (gap_after before) (lost_in before q))
    → Remembers after other_seen
enter_remembered before after seen other_seen frame page was gap frames lost gap_is pages lost_is = record {
  now = gap ∙ was.now ∙ sym gap_is;
  holds = λ other. frames other ∙ ap (λ (o : Option ℕ). cond (nat_eq frame other) (Some page) o) (was.holds other) ∙ sym (pages other);
  left = λ q. lost q ∙ loses_is (seen.frames frame) seen.gap seen.lost q ∙ rw (was.holds frame, was.now, was.left q) refl ∙ sym (lost_is q);
}

module _ (buffer : ℕ) (before rest : List Replaced) (read : Timed) (flying waiting : List Timed) (frame : ℕ) (next : Buffer → List Directive) (plain : List Replaced) (reads : List Read) (issues : List ℕ)
    (goes : (table : Buffer) (seen : Seen) (flight : Flight) → AreSlots buffer (entry.Load frame read.page ∷ before) rest flying waiting table seen flight → Remembers (entry.Load frame read.page ∷ before) seen → Turn buffer seen flight (next table) plain reads issues (length waiting)) where
  pub load_goes : (table : Buffer) (seen : Seen) (flight : Flight) → AreSlots buffer before (entry.Load frame read.page ∷ rest) (read ∷ flying) waiting table seen flight → Remembers before seen
      → Turn buffer seen flight ((finish_in frame read.page table).directives ++ next (finish_in frame read.page table).buffer)
      (entry.Load frame read.page ∷ plain) (record { page = read.page; due = gap_after before; lost = lost_in before read.page } ∷ reads) (read.issue ∷ issues) (length waiting)
  load_goes table seen flight kept was =
      let slot = kept.air.0.0 in
      let does = kept.air.0.1 in
      let is = kept.reading slot read.page does in
      let within = slot_within table.slots slot (λ i. idle_reads read.page (sym i ∙ sym (kept.does slot) ∙ does)) in
      let at = finds (reads_page read.page) table.slots state.Idle slot within (ap (reads_page read.page) (sym (kept.does slot) ∙ does) ∙ eq-eqb read.page read.page refl) in
      let here = kept.does at.0 ∙ page_reads (slot_at table.slots at.0) read.page at.3 in
      let same = kept.alone at.0 slot read.page (for_reads (flight.does at.0) read.page here) (for_reads (flight.does slot) read.page does) in
      let low = lowest_is (reads_page read.page) table at.0 at.1 ∙ same in
      let moved = slots_finish_in buffer before rest read flying waiting table seen flight slot frame kept does in
      let stored : seen.store (seen.named slot) ≡ Some read.page = ap seen.store is.named ∙ is.has in
      let remembered = enter_remembered before (entry.Load frame read.page ∷ before) seen (seen_after (directive.FinishIn slot frame) seen) frame read.page was refl (λ other. ap (λ (o : Option ℕ). put frame o seen.frames other) stored) (λ q. refl) refl (λ other. refl) (λ q. refl) in
      let after = goes (record { slots = set table.slots slot state.Idle; writes = table.writes }) (seen_after (directive.FinishIn slot frame) seen) (flight_after (directive.FinishIn slot frame) flight) moved remembered in
      let page_is : unwrap_or (seen.store (seen.named slot)) 0 ≡ read.page = ap (λ (o : Option ℕ). unwrap_or o 0) stored in
      let P : ℕ → Type 0 = λ n. Turn buffer seen flight (directive.FinishIn n frame ∷ next (record { slots = set table.slots n state.Idle; writes = table.writes }))
      (entry.Load frame read.page ∷ plain) (record { page = read.page; due = gap_after before; lost = lost_in before read.page } ∷ reads) (read.issue ∷ issues) (length waiting) in
      subst P (sym low) (record {
        done = same_read (read_of slot seen) (record { page = read.page; due = gap_after before; lost = lost_in before read.page }) (reads_in (seen_after (directive.FinishIn slot frame) seen) (next (record { slots = set table.slots slot state.Idle; writes = table.writes }))) reads
            page_is was.now (was.left (unwrap_or (seen.store (seen.named slot)) 0) ∙ ap (lost_in before) page_is) after.done;
        issued = same_issue (seen.asked slot) read.issue (issues_in (seen_after (directive.FinishIn slot frame) seen) (next (record { slots = set table.slots slot state.Idle; writes = table.writes }))) issues kept.air.0.2 after.issued;
        turns = ((read.page, does), after.turns);
        asks = after.asks;
        same = same_load frame (page_of (flight.does slot)) read.page (plainly (flight_after (directive.FinishIn slot frame) flight) (next (record { slots = set table.slots slot state.Idle; writes = table.writes }))) plain
            (ap page_of does) after.same;
        own = one_more (directive.FinishIn slot frame) after.own;
      })
