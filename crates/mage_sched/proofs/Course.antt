-- The moves of a list, entry by entry, and that what they come to is in turn.
use Rattle.std.proofs.Common.{◌≡◌, ◌≤◌, ◌<◌, ◌+◌, ◌||◌, ◌⊎◌, ℕ, zero, suc, List, [], ◌∷◌, ◌++◌, length, get_or, map, Bool, true, false, cond, nat_eq, nat_lt, Some, None, inl, inr, refl, sym, subst, ◌∙◌, ap, arith, append_assoc}
use Rattle.std.proofs.lemmas.Bool.{true≢false, false≢true, eq-eqb, ne_eqb, lt-ltb, le-ltb, or_from, and_from, and_left, and_right, cases_eq, cases_lt, true_from_ne_false}
use Rattle.std.proofs.lemmas.List.{length-append, get_or_append_left}
use Rattle.std.proofs.Math.Seq.{get_or-append_seam}
use Rattle.std.proofs.lemmas.List.Elements.{filter-append}
use Rattle.std.specs.List.{filter}
use Rattle.mage_instr.specs.declared.replaced.Job.{Job}
use Rattle.mage_instr.specs.declared.replaced.Replaced.{Replaced}
use Rattle.mage_instr.specs.declared.replaced.Replaced.TheVariants as entry
use Rattle.mage_instr.specs.declared.directive.Directive.{Directive}
use Rattle.mage_instr.specs.declared.directive.Directive.TheVariants as directive
use Rattle.mage_sched.specs.declared.slot.Slot.{Slot}
use Rattle.mage_sched.specs.declared.slot.Slot.TheVariants as state
use Rattle.mage_sched.specs.declared.read.Read.{Read}
use Rattle.mage_sched.specs.declared.read.Timed.{Timed}
use Rattle.mage_sched.specs.Reads.{gap_after, lost_in, reads_from, timed_from, issue_of}
use Rattle.mage_sched.specs.Rule.{in_memory, is_saved, AreEntries}
use Rattle.mage_sched.specs.Slots.{Buffer, Step, Move, Takes, Reads, Does, all_done, read_issued, finish_in}
use Rattle.mage_sched.specs.Schedule.{no_timed, issued, is_ahead_at, issued_ahead, loaded, moves_from, first_swap, tight_at, buffer_tight}
use Rattle.mage_sched.specs.Issues.{Seen, seen_after}
use Rattle.mage_sched.specs.Turns.{Flight}
use Rattle.mage_sched.proofs.Issues.{length-timed_from}
use Rattle.mage_sched.proofs.Walks.{all_done-append}
use Rattle.mage_sched.proofs.Coming.{Each, each_map, each_left, each_append, each_at, is_read, is_read-loaded, stays, saved_first, due_from_now}
use Rattle.mage_sched.proofs.Spacing.{Stand, stand_next, AllReads, AreSorted, AreApart, timed_due, timed_by_due, timed_lost, timed_sorted, timed_freed, timed_apart, sorted_right}
use Rattle.mage_sched.proofs.Memories.{AreInMemory, memory_fresh, memory_load, memory_save}
use Rattle.mage_sched.proofs.Buffers.{AreSlots, IsLeaving}
use Rattle.mage_sched.proofs.Arrivals.{slots_fresh, slots_do}
use Rattle.mage_sched.proofs.Turning.{Turn, turn_list, one_more, Remembers, enter_remembered, read_goes, save_goes, load_goes}

-- there is a slot where one is needed
abbrev pub HasRoom : (buffer : ℕ) → List Replaced → Type 0
HasRoom buffer [] = Unit {0}
HasRoom buffer (entry.Fresh frame page ∷ list) = HasRoom buffer list
HasRoom buffer (entry.Load frame page ∷ list) = (0 < buffer) × HasRoom buffer list
HasRoom buffer (entry.Save frame page ∷ list) = (0 < buffer) × HasRoom buffer list
HasRoom buffer (entry.Do job ∷ list) = HasRoom buffer list

some_swap : (t : ℕ) → tight_at (Some t) ≡ None → ⊥
some_swap t e = cc

no_swap : (buffer t : ℕ) (list : List Replaced) → tight_at (first_swap t list) ≡ None → HasRoom buffer list
no_swap buffer t [] none = tt
no_swap buffer t (entry.Fresh frame page ∷ list) none = no_swap buffer t list none
no_swap buffer t (entry.Load frame page ∷ list) none = absurd (some_swap t none)
no_swap buffer t (entry.Save frame page ∷ list) none = absurd (some_swap t none)
no_swap buffer t (entry.Do job ∷ list) none = no_swap buffer (t + 1) list none

room : (buffer : ℕ) (list : List Replaced) → 0 < buffer → HasRoom buffer list
room buffer [] some = tt
room buffer (entry.Fresh frame page ∷ list) some = room buffer list some
room buffer (entry.Load frame page ∷ list) some = (some, room buffer list some)
room buffer (entry.Save frame page ∷ list) some = (some, room buffer list some)
room buffer (entry.Do job ∷ list) some = room buffer list some

pub has_room : (buffer : ℕ) (list : List Replaced) → buffer_tight buffer list ≡ None → HasRoom buffer list
has_room zero list none = no_swap 0 0 list none
has_room (suc buffer) list none = room (suc buffer) list (omega arith)

pub room_for_reads : (buffer : ℕ) (before list : List Replaced) → HasRoom buffer list → 0 < length (reads_from before list) → 0 < buffer
room_for_reads buffer before [] has some = absurd (omega (arith, some))
room_for_reads buffer before (entry.Fresh frame page ∷ list) has some = room_for_reads buffer (entry.Fresh frame page ∷ before) list has some
room_for_reads buffer before (entry.Load frame page ∷ list) has some = has.0
room_for_reads buffer before (entry.Save frame page ∷ list) has some = has.0
room_for_reads buffer before (entry.Do job ∷ list) has some = room_for_reads buffer (entry.Do job ∷ before) list has some

-- ---- lists in two parts

cons_not : {X : Type 0} → (x : X) (xs : List X) → x ∷ xs ≡ [] → ⊥
cons_not x xs e = cc

nothing_left : (xs ys : List Timed) → xs ++ ys ≡ [] → (xs ≡ []) × (ys ≡ [])
nothing_left [] ys e = (refl, e)
nothing_left (x ∷ xs) ys e = absurd (cons_not x (xs ++ ys) e)

head_same : {X : Type 0} (x y : X) (xs ys : List X) → x ∷ xs ≡ y ∷ ys → x ≡ y
head_same x y xs ys e = cc

tail_same : {X : Type 0} (x y : X) (xs ys : List X) → x ∷ xs ≡ y ∷ ys → xs ≡ ys
tail_same x y xs ys e = cc

each_seam : {X : Type 0} (P : X → Type 0) (xs : List X) (x : X) (ys : List X) → Each P (xs ++ x ∷ ys) → P x
each_seam P [] x ys h = h.0
each_seam P (y ∷ xs) x ys h = each_seam P xs x ys h.1

or_else : (a b c d : Bool) → (a || b) ≡ false → (b ≡ false → c ≡ true → d ≡ true) → (a || c) ≡ true → d ≡ true
or_else true b c d none f h = absurd (true≢false none)
or_else false b c d none f h = f none h

read_right : (page : ℕ) (xs ys : List Timed) → is_read page xs ≡ false → is_read page (xs ++ ys) ≡ true → is_read page ys ≡ true
read_right page [] ys none h = h
read_right page (x ∷ xs) ys none h = or_else (nat_eq x.page page) (is_read page xs) (is_read page (xs ++ ys)) (is_read page ys) none (λ none h. read_right page xs ys none h) h

-- no read that was issued before a gap is of a page that isn't read before it
none_read : (page gap : ℕ) (flying : List Timed) → Each (λ (read : Timed). read.page ≡ page → gap ≤ read.issue) flying → Each (λ (read : Timed). read.issue < gap) flying → is_read page flying ≡ false
none_read page gap [] lost early = refl
none_read page gap (read ∷ flying) lost early =
    or_from (nat_eq read.page page) (is_read page flying)
    (ne_eqb read.page page (λ e. let h = lost.0 e in let k = early.0 in absurd (omega (arith, h, k))))
    (none_read page gap flying lost.1 early.1)

apart_at : (gap : ℕ) (flying : List Timed) (read : Timed) (rest : List Timed) → AreApart (flying ++ read ∷ rest) → Each (λ (other : Timed). gap < other.due) (flying ++ read ∷ rest) → read.issue ≤ gap → is_read read.page flying ≡ false
apart_at gap [] read rest apart due now = refl
apart_at gap (other ∷ flying) read rest apart due now =
    or_from (nat_eq other.page read.page) (is_read read.page flying)
    (ne_eqb other.page read.page (λ e.
    let h = each_seam (λ (one : Timed). one.page ≡ other.page → other.due ≤ one.issue) flying read rest apart.0 (sym e) in
    let k = due.0 in absurd (omega (arith, h, k, now))))
    (apart_at gap flying read rest apart.1 due.1 now)

-- ---- the reads that are issued ahead in a gap

ahead_true : (gap : ℕ) (read : Timed) → read.issue ≡ gap → gap < read.due → is_ahead_at gap read ≡ true
ahead_true gap read e h = and_from (nat_eq read.issue gap) (nat_lt gap read.due) (eq-eqb read.issue gap e) (lt-ltb gap read.due h)

ahead_false : (gap : ℕ) (read : Timed) → (read.issue ≡ gap → ⊥) → is_ahead_at gap read ≡ false
ahead_false gap read n = and_left (nat_eq read.issue gap) (nat_lt gap read.due) (ne_eqb read.issue gap n)

ahead_past : (gap : ℕ) (read : Timed) → read.due ≤ gap → is_ahead_at gap read ≡ false
ahead_past gap read h = and_right (nat_eq read.issue gap) (nat_lt gap read.due) (le-ltb gap read.due h)

filter_yes : (test : Timed → Bool) (read : Timed) (rest : List Timed) → test read ≡ true → filter test (read ∷ rest) ≡ read ∷ filter test rest
filter_yes test read rest e = rw e refl

filter_nothing : (test : Timed → Bool) (reads : List Timed) → Each (λ (read : Timed). test read ≡ false) reads → filter test reads ≡ []
filter_nothing test [] h = refl
filter_nothing test (read ∷ reads) h = rw (h.0) (filter_nothing test reads h.1)

-- what the reads of past entries and those in flight add to what is issued ahead: nothing
ahead_of : (gap : ℕ) (past flying waiting : List Timed) → Each (λ (read : Timed). read.due ≤ gap) past → Each (λ (read : Timed). read.issue < gap) flying
    → issued_ahead (past ++ (flying ++ waiting)) gap ≡ map issued (filter (is_ahead_at gap) waiting)
ahead_of gap past flying waiting due early =
    let test = is_ahead_at gap in
    let none = filter_nothing test past (each_map (λ (read : Timed). read.due ≤ gap) (λ (read : Timed). is_ahead_at gap read ≡ false) (λ read h. ahead_past gap read h) past due) in
    let nor = filter_nothing test flying (each_map (λ (read : Timed). read.issue < gap) (λ (read : Timed). is_ahead_at gap read ≡ false) (λ read h. ahead_false gap read (λ e. absurd (omega (arith, h, e)))) flying early) in
    ap (map issued) (filter-append test past (flying ++ waiting) ∙ ap (λ (xs : List Timed). xs ++ filter test (flying ++ waiting)) none
    ∙ filter-append test flying waiting ∙ ap (λ (xs : List Timed). xs ++ filter test waiting) nor)

-- what the reads that come give the slots at the end of a gap
pub record AreReady (buffer gap : ℕ) (before : List Replaced) (all : List Timed) : Type 0 where
  pub due : Each (λ (read : Timed). gap < read.due) all
  pub few : (flying : List Timed) (read : Timed) (rest : List Timed) → flying ++ read ∷ rest ≡ all → read.issue ≤ gap → length flying < buffer
  pub new : (flying : List Timed) (read : Timed) (rest : List Timed) → flying ++ read ∷ rest ≡ all → read.issue ≤ gap → is_read read.page flying ≡ false
  pub saved : (flying : List Timed) (read : Timed) (rest : List Timed) → flying ++ read ∷ rest ≡ all → read.issue ≤ gap → is_saved before read.page ≡ true

module _ (buffer : ℕ) (before after : List Replaced) (all : List Timed) (next : Buffer → List Directive) (plain : List Replaced) (reads : List Read) (issues : List ℕ)
    (ready : AreReady buffer (gap_after before) before all)
    (goes : (flying waiting : List Timed) (table : Buffer) (seen : Seen) (flight : Flight) → AreSlots buffer before after flying waiting table seen flight → Remembers before seen
    → flying ++ waiting ≡ all → Each (λ (read : Timed). gap_after before < read.issue) waiting → Each (λ (read : Timed). read.issue ≤ gap_after before) flying
    → Turn buffer seen flight (next table) plain reads issues (length waiting)) where
  abbrev pub then_ahead : List Timed → Buffer → List Directive
  then_ahead waiting table = (all_done (map issued (filter (is_ahead_at (gap_after before)) waiting)) table).directives ++ next (all_done (map issued (filter (is_ahead_at (gap_after before)) waiting)) table).buffer

  none_ahead : (waiting : List Timed) (table : Buffer) (seen : Seen) (flight : Flight) → filter (is_ahead_at (gap_after before)) waiting ≡ []
      → Turn buffer seen flight (next table) plain reads issues (length waiting) → Turn buffer seen flight (then_ahead waiting table) plain reads issues (length waiting)
  none_ahead waiting table seen flight none h =
      let P : List Timed → Type 0 = λ xs. Turn buffer seen flight ((all_done (map issued xs) table).directives ++ next (all_done (map issued xs) table).buffer) plain reads issues (length waiting) in
      subst P (sym none) h

  ahead_one : (read : Timed) (waiting flying : List Timed) (table : Buffer) (seen : Seen) (flight : Flight) → AreSlots buffer before after flying (read ∷ waiting) table seen flight → Remembers before seen
      → flying ++ read ∷ waiting ≡ all → Each (λ (other : Timed). read.issue ≤ other.issue) waiting → gap_after before ≤ read.issue → Each (λ (other : Timed). other.issue ≤ gap_after before) flying
      → (read.issue ≡ gap_after before) ⊎ (read.issue ≡ gap_after before → ⊥)
      → ((table1 : Buffer) (seen1 : Seen) (flight1 : Flight) → AreSlots buffer before after (flying ++ read ∷ []) waiting table1 seen1 flight1 → Remembers before seen1 → Each (λ (other : Timed). other.issue ≤ gap_after before) (flying ++ read ∷ [])
      → Turn buffer seen1 flight1 (then_ahead waiting table1) plain reads issues (length waiting))
      → Turn buffer seen flight (then_ahead (read ∷ waiting) table) plain reads issues (suc (length waiting))
  ahead_one read waiting flying table seen flight kept was whole sorted from early (inr n) others_go =
      let late : gap_after before < read.issue = grind (arith, from, n) in
      let others = each_map (λ (other : Timed). read.issue ≤ other.issue) (λ (other : Timed). gap_after before < other.issue) (λ other h. omega (arith, h, late)) waiting sorted in
      none_ahead (read ∷ waiting) table seen flight
      (filter_nothing (is_ahead_at (gap_after before)) (read ∷ waiting) (ahead_false (gap_after before) read n, each_map (λ (other : Timed). gap_after before < other.issue) (λ (other : Timed). is_ahead_at (gap_after before) other ≡ false) (λ other h. ahead_false (gap_after before) other (λ e. absurd (omega (arith, h, e)))) waiting others))
      (goes flying (read ∷ waiting) table seen flight kept was whole (late, others) early)
  ahead_one read waiting flying table seen flight kept was whole sorted from early (inl e) others_go =
      let now : read.issue ≤ gap_after before = omega (arith, e) in
      let due = each_seam (λ (other : Timed). gap_after before < other.due) flying read waiting (let P : List Timed → Type 0 = λ xs. Each (λ (other : Timed). gap_after before < other.due) xs in subst P (sym whole) ready.due) in
      let more = read_goes buffer before after flying read waiting (then_ahead waiting) plain reads issues (ready.few flying read waiting whole now) (ready.new flying read waiting whole now) (ready.saved flying read waiting whole now) (sym e)
      (λ table1 seen1 flight1 kept1 was1. others_go table1 seen1 flight1 kept1 was1 (each_append (λ (other : Timed). other.issue ≤ gap_after before) flying (read ∷ []) early (now, tt)))
      table seen flight kept was in
      let P : List Timed → Type 0 = λ xs. Turn buffer seen flight ((all_done (map issued xs) table).directives ++ next (all_done (map issued xs) table).buffer) plain reads issues (suc (length waiting)) in
      subst P (sym (filter_yes (is_ahead_at (gap_after before)) read waiting (ahead_true (gap_after before) read e due)))
      (turn_list buffer seen flight _ _ plain reads issues (suc (length waiting)) (sym (append_assoc (read_issued read.page table).directives (all_done (map issued (filter (is_ahead_at (gap_after before)) waiting)) (read_issued read.page table).buffer).directives _)) more)

  pub ahead_goes : (waiting flying : List Timed) (table : Buffer) (seen : Seen) (flight : Flight) → AreSlots buffer before after flying waiting table seen flight → Remembers before seen
      → flying ++ waiting ≡ all → AreSorted waiting → Each (λ (read : Timed). gap_after before ≤ read.issue) waiting → Each (λ (read : Timed). read.issue ≤ gap_after before) flying
      → Turn buffer seen flight (then_ahead waiting table) plain reads issues (length waiting)
  ahead_goes [] flying table seen flight kept was whole sorted from early = goes flying [] table seen flight kept was whole tt early
  ahead_goes (read ∷ waiting) flying table seen flight kept was whole sorted from early =
      ahead_one read waiting flying table seen flight kept was whole sorted.0 from.0 early (cases_eq read.issue (gap_after before))
      (λ table1 seen1 flight1 kept1 was1 early1. ahead_goes waiting (flying ++ read ∷ []) table1 seen1 flight1 kept1 was1 (append_assoc flying (read ∷ []) waiting ∙ whole) sorted.1 from.1 early1)

-- ---- the whole list

pub busy_cases : (slot : Slot) → (slot ≡ state.Idle) ⊎ (((page : ℕ) × (slot ≡ state.Reads page)) ⊎ ((page : ℕ) × (slot ≡ state.Writes page)))
busy_cases state.Idle = inl refl
busy_cases (state.Reads page) = inr (inl (page, refl))
busy_cases (state.Writes page) = inr (inr (page, refl))

abbrev pub times_of : List Timed → List ℕ
times_of reads = map (λ (read : Timed). read.issue) reads

-- where a list stands: `all` are its reads, of which `past` were finished
pub record IsAt (buffer ahead : ℕ) (reads : List Read) (all : List Timed) (before list : List Replaced) (i : ℕ) (past flying waiting : List Timed) : Type 0 where
  pub entries : AreEntries before list
  pub has : HasRoom buffer list
  pub memory : AreInMemory before
  pub stand : Stand reads i (reads_from before list)
  pub whole : past ++ (flying ++ waiting) ≡ all
  pub number : length past ≡ i
  pub coming : flying ++ waiting ≡ timed_from buffer ahead reads i (reads_from before list)
  pub due : Each (λ (read : Timed). read.due ≤ gap_after before) past
  pub early : Each (λ (read : Timed). read.issue < gap_after before) flying
  pub late : Each (λ (read : Timed). gap_after before ≤ read.issue) waiting

module _ (buffer ahead : ℕ) (reads : List Read) (whole : AllReads buffer reads) where
  -- the reads that come, from number i on
  abbrev pub to_come : (before list : List Replaced) (i : ℕ) → List Timed
  to_come before list i = timed_from buffer ahead reads i (reads_from before list)

  long_as : (before list : List Replaced) (i : ℕ) → length (to_come before list i) ≡ length (reads_from before list)
  long_as before list i = length-timed_from buffer ahead reads (reads_from before list) i

  come_due : (before list : List Replaced) (i : ℕ) → Each (λ (read : Timed). gap_after before ≤ read.due) (to_come before list i)
  come_due before list i = timed_due buffer ahead reads i (gap_after before) (reads_from before list) (due_from_now before list)

  pub ready : (before list : List Replaced) (job : Job) (i : ℕ) → AreEntries before (entry.Do job ∷ list) → Stand reads i (reads_from before (entry.Do job ∷ list))
      → AreReady buffer (gap_after before) before (to_come before (entry.Do job ∷ list) i)
  ready before list job i entries stand = record {
    due = due;
    few = λ flying read rest e now. few flying read rest e now (cases_lt (length flying) buffer);
    new = λ flying read rest e now. apart_at (gap_after before) flying read rest (let P : List Timed → Type 0 = AreApart in subst P (sym e) apart) (let P : List Timed → Type 0 = λ xs. Each (λ (one : Timed). gap_after before < one.due) xs in subst P (sym e) due) now;
    saved = λ flying read rest e now. true_from_ne_false (is_saved before read.page) (λ none.
        let lost = timed_lost buffer ahead reads i (reads_from before (entry.Do job ∷ list)) read.page (gap_after (entry.Do job ∷ before)) stand (saved_first (entry.Do job ∷ before) list read.page entries.1 none) in
        let P : List Timed → Type 0 = λ xs. Each (λ (one : Timed). one.page ≡ read.page → gap_after before + 1 ≤ one.issue) xs in
        let here = each_seam (λ (one : Timed). one.page ≡ read.page → gap_after before + 1 ≤ one.issue) flying read rest (subst P (sym e) lost) refl in
        absurd (omega (arith, here, now)));
  } where
    all : List Timed
    all = to_come before (entry.Do job ∷ list) i

    due : Each (λ (read : Timed). gap_after before < read.due) (to_come before (entry.Do job ∷ list) i)
    due = each_map (λ (read : Timed). gap_after before + 1 ≤ read.due) (λ (read : Timed). gap_after before < read.due) (λ read h. omega (arith, h)) (to_come before (entry.Do job ∷ list) i) (come_due (entry.Do job ∷ before) list i)

    apart : AreApart (to_come before (entry.Do job ∷ list) i)
    apart = timed_apart buffer ahead reads i before (entry.Do job ∷ list) entries stand

    few : (flying : List Timed) (read : Timed) (rest : List Timed) → flying ++ read ∷ rest ≡ to_come before (entry.Do job ∷ list) i → read.issue ≤ gap_after before → (length flying < buffer) ⊎ (buffer ≤ length flying) → length flying < buffer
    few flying read rest e now (inl h) = h
    few flying read rest e now (inr h) =
        let long : length flying + suc (length rest) ≡ length (reads_from before (entry.Do job ∷ list)) = sym (length-append flying (read ∷ rest)) ∙ ap length e ∙ long_as before (entry.Do job ∷ list) i in
        let at : get_or (to_come before (entry.Do job ∷ list) i) (length flying) no_timed ≡ read = ap (λ (xs : List Timed). get_or xs (length flying) no_timed) (sym e) ∙ get_or-append_seam flying read rest no_timed in
        let freed = timed_freed buffer ahead reads i (reads_from before (entry.Do job ∷ list)) (length flying) whole stand (omega (arith, h)) (omega (arith, long)) in
        let first = each_at (λ (one : Timed). gap_after before + 1 ≤ one.due) (to_come before (entry.Do job ∷ list) i) 0 no_timed (come_due (entry.Do job ∷ before) list i) (let l = long_as before (entry.Do job ∷ list) i in omega (arith, l, long)) in
        let issue = ap (λ (one : Timed). one.issue) at in
        absurd (omega (arith, freed, first, issue, now))

  -- in the middle of a gap, not all slots read
  pub few_fly : (before list : List Replaced) (i : ℕ) (flying waiting : List Timed) → Stand reads i (reads_from before list) → flying ++ waiting ≡ to_come before list i
      → Each (λ (read : Timed). read.issue < gap_after before) flying → 0 < buffer → length flying < buffer
  few_fly before list i [] waiting stand e early some = some
  few_fly before list i (read ∷ flying) waiting stand e early some = go (cases_lt (suc (length flying)) buffer) where
    go : (suc (length flying) < buffer) ⊎ (buffer ≤ suc (length flying)) → suc (length flying) < buffer
    go (inl h) = h
    go (inr h) =
        let long : suc (length flying) + length waiting ≡ length (reads_from before list) = sym (length-append (read ∷ flying) waiting) ∙ ap length e ∙ long_as before list i in
        let at : get_or (to_come before list i) (length flying) no_timed ≡ get_or (read ∷ flying) (length flying) no_timed = ap (λ (xs : List Timed). get_or xs (length flying) no_timed) (sym e) ∙ get_or_append_left (read ∷ flying) waiting no_timed (length flying) (omega arith) in
        let soon = each_at (λ (one : Timed). one.issue < gap_after before) (read ∷ flying) (length flying) no_timed early (omega arith) in
        let freed = timed_freed buffer ahead reads i (reads_from before list) (length flying) whole stand (omega (arith, h)) (omega (arith, long)) in
        let first = each_at (λ (one : Timed). gap_after before ≤ one.due) (to_come before list i) 0 no_timed (come_due before list i) (let l = long_as before list i in omega (arith, l, long)) in
        let issue = ap (λ (one : Timed). one.issue) at in
        absurd (omega (arith, freed, first, issue, soon))

  module _ (all : List Timed) where
    abbrev pub Walks : (list before : List Replaced) (i : ℕ) (flying waiting : List Timed) (table : Buffer) (seen : Seen) (flight : Flight) → Type 0
    Walks list before i flying waiting table seen flight =
        Turn buffer seen flight (all_done (moves_from all (gap_after before) i list) table).directives list (reads_from before list) (times_of (to_come before list i)) (length waiting)

    at_end : (before : List Replaced) (i : ℕ) (past flying waiting : List Timed) (table : Buffer) (seen : Seen) (flight : Flight)
        → IsAt buffer ahead reads all before [] i past flying waiting → AreSlots buffer before [] flying waiting table seen flight → Walks [] before i flying waiting table seen flight
    at_end before i past flying waiting table seen flight at kept =
        let none = nothing_left flying waiting at.coming in
        record {
          done = refl;
          issued = refl;
          turns = λ slot. idle none.0 none.1 slot (busy_cases (flight.does slot));
          asks = sym (ap length none.1);
          same = refl;
          own = refl;
        } where
          idle : flying ≡ [] → waiting ≡ [] → (slot : ℕ) → (flight.does slot ≡ state.Idle) ⊎ (((page : ℕ) × (flight.does slot ≡ state.Reads page)) ⊎ ((page : ℕ) × (flight.does slot ≡ state.Writes page))) → flight.does slot ≡ state.Idle
          idle f w slot (inl e) = e
          idle f w slot (inr (inl r)) = absurd (false≢true (sym (ap (is_read r.0) f) ∙ (kept.reading slot r.0 r.1).read))
          idle f w slot (inr (inr r)) = absurd (false≢true (sym (ap (is_read r.0) w) ∙ (kept.writing slot r.0 r.1).read))

    -- the read that a load finishes
    load_at : (i : ℕ) (past : List Timed) (read : Timed) (rest : List Timed) → past ++ (read ∷ rest) ≡ all → length past ≡ i → get_or all i no_timed ≡ read
    load_at i past read rest e n =
        let P : ℕ → Type 0 = λ k. get_or all k no_timed ≡ read in
        subst P n (ap (λ (xs : List Timed). get_or xs (length past) no_timed) (sym e) ∙ get_or-append_seam past read rest no_timed)

    -- the read that the next load finishes
    abbrev first_of : (before : List Replaced) (i page : ℕ) → Timed
    first_of before i page = record { page = page; due = gap_after before; issue = issue_of buffer ahead reads i }

    module _ (before list : List Replaced) (i : ℕ) (past : List Timed) (frame page : ℕ)
        (entries : AreEntries before (entry.Load frame page ∷ list)) (has : HasRoom buffer (entry.Load frame page ∷ list)) (memory : AreInMemory before)
        (stand : Stand reads i (reads_from before (entry.Load frame page ∷ list))) (number : length past ≡ i) (past_due : Each (λ (one : Timed). one.due ≤ gap_after before) past)
        (more : (flying waiting : List Timed) (table : Buffer) (seen : Seen) (flight : Flight)
        → IsAt buffer ahead reads all (entry.Load frame page ∷ before) list (i + 1) (past ++ first_of before i page ∷ []) flying waiting
        → AreSlots buffer (entry.Load frame page ∷ before) list flying waiting table seen flight → Remembers (entry.Load frame page ∷ before) seen
        → Walks list (entry.Load frame page ∷ before) (i + 1) flying waiting table seen flight) where
      abbrev after_load : Buffer → List Directive
      after_load table = (all_done (moves_from all (gap_after before) (i + 1) list) table).directives

      next_at : (flying waiting : List Timed) → flying ++ waiting ≡ to_come (entry.Load frame page ∷ before) list (i + 1) → past ++ (first_of before i page ∷ (flying ++ waiting)) ≡ all
          → Each (λ (one : Timed). one.issue < gap_after before) flying → Each (λ (one : Timed). gap_after before ≤ one.issue) waiting
          → IsAt buffer ahead reads all (entry.Load frame page ∷ before) list (i + 1) (past ++ first_of before i page ∷ []) flying waiting
      next_at flying waiting coming e early late = record {
        entries = entries.1;
        has = has.1;
        memory = memory_load before frame page memory entries.0.0;
        stand = stand_next reads i (record { page = page; due = gap_after before; lost = lost_in before page }) (reads_from (entry.Load frame page ∷ before) list) stand;
        whole = append_assoc past (first_of before i page ∷ []) (flying ++ waiting) ∙ e;
        number = let n = length-append past (first_of before i page ∷ []) in omega (arith, n, number);
        coming = coming;
        due = each_append (λ (one : Timed). one.due ≤ gap_after before) past (first_of before i page ∷ []) past_due (omega arith, tt);
        early = early;
        late = late;
      }

      -- the moves of the load, where its read is known
      as_moves : (table : Buffer) (seen : Seen) (flight : Flight) (asked : ℕ) → get_or all i no_timed ≡ first_of before i page
          → Turn buffer seen flight (all_done (loaded (first_of before i page) frame page ++ moves_from all (gap_after before) (i + 1) list) table).directives (entry.Load frame page ∷ list) (reads_from before (entry.Load frame page ∷ list)) (times_of (to_come before (entry.Load frame page ∷ list) i)) asked
          → Turn buffer seen flight (all_done (moves_from all (gap_after before) i (entry.Load frame page ∷ list)) table).directives (entry.Load frame page ∷ list) (reads_from before (entry.Load frame page ∷ list)) (times_of (to_come before (entry.Load frame page ∷ list) i)) asked
      as_moves table seen flight asked e h =
          let P : Timed → Type 0 = λ r. Turn buffer seen flight (all_done (loaded r frame page ++ moves_from all (gap_after before) (i + 1) list) table).directives (entry.Load frame page ∷ list) (reads_from before (entry.Load frame page ∷ list)) (times_of (to_come before (entry.Load frame page ∷ list) i)) asked in
          subst P (sym e) h

      load_air : (flying waiting : List Timed) (table : Buffer) (seen : Seen) (flight : Flight)
          → AreSlots buffer before (entry.Load frame page ∷ list) (first_of before i page ∷ flying) waiting table seen flight → Remembers before seen
          → flying ++ waiting ≡ to_come (entry.Load frame page ∷ before) list (i + 1) → past ++ (first_of before i page ∷ (flying ++ waiting)) ≡ all
          → issue_of buffer ahead reads i < gap_after before → Each (λ (one : Timed). one.issue < gap_after before) flying → Each (λ (one : Timed). gap_after before ≤ one.issue) waiting
          → Walks (entry.Load frame page ∷ list) before i (first_of before i page ∷ flying) waiting table seen flight
      load_air flying waiting table seen flight kept was coming e soon early late =
          let done = load_goes buffer before list (first_of before i page) flying waiting frame after_load list (reads_from (entry.Load frame page ∷ before) list) (times_of (to_come (entry.Load frame page ∷ before) list (i + 1)))
          (λ table1 seen1 flight1 kept1 was1. more flying waiting table1 seen1 flight1 (next_at flying waiting coming e early late) kept1 was1) table seen flight kept was in
          as_moves table seen flight (length waiting) (load_at i past (first_of before i page) (flying ++ waiting) e number)
          (let P : Bool → Type 0 = λ b. Turn buffer seen flight (all_done (cond b (Takes frame page ∷ []) (Reads page ∷ Takes frame page ∷ []) ++ moves_from all (gap_after before) (i + 1) list) table).directives (entry.Load frame page ∷ list) (reads_from before (entry.Load frame page ∷ list)) (times_of (to_come before (entry.Load frame page ∷ list) i)) (length waiting) in
          subst P (sym (lt-ltb (issue_of buffer ahead reads i) (gap_after before) soon)) done)

      load_now : (waiting : List Timed) (table : Buffer) (seen : Seen) (flight : Flight)
          → AreSlots buffer before (entry.Load frame page ∷ list) [] (first_of before i page ∷ waiting) table seen flight → Remembers before seen
          → waiting ≡ to_come (entry.Load frame page ∷ before) list (i + 1) → past ++ (first_of before i page ∷ waiting) ≡ all
          → gap_after before ≤ issue_of buffer ahead reads i → Each (λ (one : Timed). gap_after before ≤ one.issue) waiting
          → Walks (entry.Load frame page ∷ list) before i [] (first_of before i page ∷ waiting) table seen flight
      load_now waiting table seen flight kept was coming e late others =
          let by_due = timed_by_due buffer ahead reads i (reads_from before (entry.Load frame page ∷ list)) whole stand in
          let now = by_due.0 in
          let done = read_goes buffer before (entry.Load frame page ∷ list) [] (first_of before i page) waiting (λ b. (finish_in frame page b).directives ++ after_load (finish_in frame page b).buffer)
          (entry.Load frame page ∷ list) (reads_from before (entry.Load frame page ∷ list)) (times_of (to_come before (entry.Load frame page ∷ list) i)) has.0 refl entries.0.1 (omega (arith, late, now))
          (λ table1 seen1 flight1 kept1 was1. load_goes buffer before list (first_of before i page) [] waiting frame after_load list (reads_from (entry.Load frame page ∷ before) list) (times_of (to_come (entry.Load frame page ∷ before) list (i + 1)))
          (λ table2 seen2 flight2 kept2 was2. more [] waiting table2 seen2 flight2 (next_at [] waiting coming e tt others) kept2 was2) table1 seen1 flight1 kept1 was1)
          table seen flight kept was in
          as_moves table seen flight (suc (length waiting)) (load_at i past (first_of before i page) waiting e number)
          (let P : Bool → Type 0 = λ b. Turn buffer seen flight (all_done (cond b (Takes frame page ∷ []) (Reads page ∷ Takes frame page ∷ []) ++ moves_from all (gap_after before) (i + 1) list) table).directives (entry.Load frame page ∷ list) (reads_from before (entry.Load frame page ∷ list)) (times_of (to_come before (entry.Load frame page ∷ list) i)) (suc (length waiting)) in
          subst P (sym (le-ltb (issue_of buffer ahead reads i) (gap_after before) late)) done)

      load_walk : (flying waiting : List Timed) (table : Buffer) (seen : Seen) (flight : Flight)
          → AreSlots buffer before (entry.Load frame page ∷ list) flying waiting table seen flight → Remembers before seen
          → flying ++ waiting ≡ first_of before i page ∷ to_come (entry.Load frame page ∷ before) list (i + 1) → past ++ (flying ++ waiting) ≡ all
          → Each (λ (one : Timed). one.issue < gap_after before) flying → Each (λ (one : Timed). gap_after before ≤ one.issue) waiting
          → Walks (entry.Load frame page ∷ list) before i flying waiting table seen flight
      load_walk [] [] table seen flight kept was coming e early late = absurd (cons_not (first_of before i page) (to_come (entry.Load frame page ∷ before) list (i + 1)) (sym coming))
      load_walk [] (read ∷ waiting) table seen flight kept was coming e early late =
          let same = head_same read (first_of before i page) waiting (to_come (entry.Load frame page ∷ before) list (i + 1)) coming in
          let rest = tail_same read (first_of before i page) waiting (to_come (entry.Load frame page ∷ before) list (i + 1)) coming in
          let S : Timed → Type 0 = λ r. AreSlots buffer before (entry.Load frame page ∷ list) [] (r ∷ waiting) table seen flight in
          let A : Timed → Type 0 = λ r. past ++ (r ∷ waiting) ≡ all in
          let L : Timed → Type 0 = λ r. gap_after before ≤ r.issue in
          load_now waiting table seen flight (subst S same kept) was rest (subst A same e) (subst L same late.0) late.1
      load_walk (read ∷ flying) waiting table seen flight kept was coming e early late =
          let same = head_same read (first_of before i page) (flying ++ waiting) (to_come (entry.Load frame page ∷ before) list (i + 1)) coming in
          let rest = tail_same read (first_of before i page) (flying ++ waiting) (to_come (entry.Load frame page ∷ before) list (i + 1)) coming in
          let S : Timed → Type 0 = λ r. AreSlots buffer before (entry.Load frame page ∷ list) (r ∷ flying) waiting table seen flight in
          let A : Timed → Type 0 = λ r. past ++ (r ∷ (flying ++ waiting)) ≡ all in
          let L : Timed → Type 0 = λ r. r.issue < gap_after before in
          load_air flying waiting table seen flight (subst S same kept) was rest (subst A same e) (subst L same early.0) early.1 late

    none_leaves : (before list : List Replaced) (frame page : ℕ) → in_memory before page ≡ true → IsLeaving before (entry.Save frame page ∷ list) page → ⊥
    none_leaves before list frame page here (inl e) = false≢true (sym e ∙ here)
    none_leaves before list frame page here (inr w) = false≢true w.2

    -- the directives of a list are in turn
    pub walk : (list before : List Replaced) (i : ℕ) (past flying waiting : List Timed) (table : Buffer) (seen : Seen) (flight : Flight)
        → IsAt buffer ahead reads all before list i past flying waiting → AreSlots buffer before list flying waiting table seen flight → Remembers before seen
        → Walks list before i flying waiting table seen flight
    walk [] before i past flying waiting table seen flight at kept was = at_end before i past flying waiting table seen flight at kept
    walk (entry.Fresh frame page ∷ list) before i past flying waiting table seen flight at kept was =
        let rest = walk list (entry.Fresh frame page ∷ before) i past flying waiting table (seen_after (directive.Fresh frame page) seen) flight
        (record { entries = at.entries.1; has = at.has; memory = memory_fresh before frame page at.memory at.entries.0; stand = at.stand; whole = at.whole; number = at.number; coming = at.coming; due = at.due; early = at.early; late = at.late })
        (slots_fresh buffer before list flying waiting table seen flight frame page kept at.entries.0)
        (enter_remembered before (entry.Fresh frame page ∷ before) seen (seen_after (directive.Fresh frame page) seen) frame page was refl (λ other. refl) (λ q. refl) refl (λ other. refl) (λ q. refl)) in
        record { done = rest.done; issued = rest.issued; turns = (tt, rest.turns); asks = rest.asks; same = ap (λ (xs : List Replaced). entry.Fresh frame page ∷ xs) rest.same; own = one_more (directive.Fresh frame page) rest.own }
    walk (entry.Load frame page ∷ list) before i past flying waiting table seen flight at kept was =
        load_walk before list i past frame page at.entries at.has at.memory at.stand at.number at.due
        (λ flying1 waiting1 table1 seen1 flight1 at1 kept1 was1. walk list (entry.Load frame page ∷ before) (i + 1) (past ++ first_of before i page ∷ []) flying1 waiting1 table1 seen1 flight1 at1 kept1 was1)
        flying waiting table seen flight kept was at.coming at.whole at.early at.late
    walk (entry.Save frame page ∷ list) before i past flying waiting table seen flight at kept was =
        let held = at.entries.0.0 in
        let here = at.memory.inside frame page held in
        let lost = timed_lost buffer ahead reads i (reads_from before (entry.Save frame page ∷ list)) page (gap_after before) at.stand (stays before (entry.Save frame page ∷ list) page at.entries here) in
        let P : List Timed → Type 0 = λ xs. Each (λ (one : Timed). one.page ≡ page → gap_after before ≤ one.issue) xs in
        let unread = none_read page (gap_after before) flying (each_left (λ (one : Timed). one.page ≡ page → gap_after before ≤ one.issue) flying waiting (subst P (sym at.coming) lost)) at.early in
        let later = read_right page flying waiting unread (ap (is_read page) at.coming ∙ is_read-loaded buffer ahead reads i before (entry.Save frame page ∷ list) page ∙ at.entries.0.2) in
        save_goes buffer before list flying waiting frame page (λ b. (all_done (moves_from all (gap_after before) i list) b).directives) list (reads_from before (entry.Save frame page ∷ list)) (times_of (to_come before (entry.Save frame page ∷ list) i))
        (few_fly before (entry.Save frame page ∷ list) i flying waiting at.stand at.coming at.early at.has.0) unread held at.entries.0.1 (at.memory.came page here) later
        (λ table1 seen1 flight1 kept1 was1. walk list (entry.Save frame page ∷ before) i past flying waiting table1 seen1 flight1
        (record { entries = at.entries.1; has = at.has.1; memory = memory_save before frame page at.memory; stand = at.stand; whole = at.whole; number = at.number; coming = at.coming; due = at.due; early = at.early; late = at.late })
        kept1 was1)
        table seen flight kept was (λ slot h. none_leaves before list frame page here (kept.writing slot page h).leaves)
    walk (entry.Do job ∷ list) before i past flying waiting table seen flight at kept was =
        let next : Buffer → List Directive = λ b. directive.Do job ∷ (all_done (moves_from all (gap_after before + 1) i list) b).directives in
        let done = ahead_goes buffer before (entry.Do job ∷ list) (to_come before (entry.Do job ∷ list) i) next (entry.Do job ∷ list) (reads_from before (entry.Do job ∷ list)) (times_of (to_come before (entry.Do job ∷ list) i))
        (ready before list job i at.entries at.stand)
        (λ flying1 waiting1 table1 seen1 flight1 kept1 was1 whole1 late1 early1.
        let rest = walk list (entry.Do job ∷ before) i past flying1 waiting1 table1 (seen_after (directive.Do job) seen1) flight1
        (record {
          entries = at.entries.1;
          has = at.has;
          memory = record { inside = at.memory.inside; once = at.memory.once; came = at.memory.came };
          stand = at.stand;
          whole = ap (λ (xs : List Timed). past ++ xs) (whole1 ∙ sym at.coming) ∙ at.whole;
          number = at.number;
          coming = whole1;
          due = each_map (λ (one : Timed). one.due ≤ gap_after before) (λ (one : Timed). one.due ≤ gap_after before + 1) (λ one h. omega (arith, h)) past at.due;
          early = each_map (λ (one : Timed). one.issue ≤ gap_after before) (λ (one : Timed). one.issue < gap_after before + 1) (λ one h. omega (arith, h)) flying1 early1;
          late = each_map (λ (one : Timed). gap_after before < one.issue) (λ (one : Timed). gap_after before + 1 ≤ one.issue) (λ one h. omega (arith, h)) waiting1 late1;
        })
        (slots_do buffer before list flying1 waiting1 table1 seen1 flight1 job kept1)
        (record { now = ap (λ (n : ℕ). n + 1) was1.now; holds = was1.holds; left = was1.left }) in
        record { done = rest.done; issued = rest.issued; turns = (tt, rest.turns); asks = rest.asks; same = ap (λ (xs : List Replaced). entry.Do job ∷ xs) rest.same; own = one_more (directive.Do job) rest.own })
        waiting flying table seen flight kept was at.coming
        (sorted_right flying waiting (let P : List Timed → Type 0 = AreSorted in subst P (sym at.coming) (timed_sorted buffer ahead reads i (reads_from before (entry.Do job ∷ list)))))
        at.late (each_map (λ (one : Timed). one.issue < gap_after before) (λ (one : Timed). one.issue ≤ gap_after before) (λ one h. omega (arith, h)) flying at.early) in
        let same : issued_ahead all (gap_after before) ≡ map issued (filter (is_ahead_at (gap_after before)) waiting) =
        ap (λ (xs : List Timed). issued_ahead xs (gap_after before)) (sym at.whole) ∙ ahead_of (gap_after before) past flying waiting at.due at.early in
        let rest : List Move = Does job ∷ moves_from all (gap_after before + 1) i list in
        let list_is : (all_done (map issued (filter (is_ahead_at (gap_after before)) waiting)) table).directives ++ next (all_done (map issued (filter (is_ahead_at (gap_after before)) waiting)) table).buffer ≡ (all_done (issued_ahead all (gap_after before) ++ rest) table).directives =
        ap (λ (step : Step). step.directives) (sym (all_done-append (map issued (filter (is_ahead_at (gap_after before)) waiting)) rest table)) ∙ ap (λ (xs : List Move). (all_done (xs ++ rest) table).directives) (sym same) in
        turn_list buffer seen flight _ _ (entry.Do job ∷ list) (reads_from before (entry.Do job ∷ list)) (times_of (to_come before (entry.Do job ∷ list) i)) (length waiting) list_is done
