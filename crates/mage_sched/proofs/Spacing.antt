-- How the issues of reads are spaced.
use Rattle.std.proofs.Common.{◌≡◌, ◌≤◌, ◌<◌, ◌+◌, ◌-◌, ℕ, zero, suc, List, [], ◌∷◌, ◌++◌, Bool, true, false, cond, length, get_or, nat_eq, nat_lt, refl, sym, subst, ◌∙◌, ap, arith, append_assoc}
use Rattle.std.proofs.lemmas.Bool.{le-ltb, eq-eqb, or_left}
use Rattle.std.proofs.lemmas.List.{get_or-append-add, length-append}
use Rattle.mage_instr.specs.declared.replaced.Replaced.{Replaced}
use Rattle.mage_instr.specs.declared.replaced.Replaced.TheVariants as entry
use Rattle.mage_sched.specs.declared.read.Read.{Read}
use Rattle.mage_sched.specs.declared.read.Timed.{Timed}
use Rattle.mage_sched.specs.Reads.{gap_after, lost_in, reads_from, no_read, read_at, freed_for, earliest, issue_of, timed_from}
use Rattle.mage_sched.specs.Schedule.{no_timed}
use Rattle.mage_sched.specs.Rule.{in_memory, AreEntries}
use Rattle.mage_sched.proofs.Coming.{Each, each_at, AreLostFrom, AreDueInOrder, stays}
use Rattle.mage_sched.proofs.Issues.{issue_of-ordered}

-- some reads stand behind the first i of all
pub record Stand (reads : List Read) (i : ℕ) (rest : List Read) : Type 0 where
  pub past : List Read
  pub count : length past ≡ i
  pub whole : past ++ rest ≡ reads

pub stand_next : (reads : List Read) (i : ℕ) (read : Read) (rest : List Read) → Stand reads i (read ∷ rest) → Stand reads (i + 1) rest
stand_next reads i read rest stand = record {
  past = stand.past ++ read ∷ [];
  count = let e = length-append stand.past (read ∷ []) in let f = stand.count in omega (arith, e, f);
  whole = append_assoc stand.past (read ∷ []) rest ∙ stand.whole;
}

pub stand_at : (reads : List Read) (i : ℕ) (rest : List Read) (k : ℕ) → Stand reads i rest → read_at reads (k + i) ≡ get_or rest k no_read
stand_at reads i rest k stand =
    let place : k + i ≡ length stand.past + k = let f = stand.count in omega (arith, f) in
    ap (λ (n : ℕ). get_or reads n no_read) place
    ∙ ap (λ (xs : List Read). get_or xs (length stand.past + k) no_read) (sym stand.whole)
    ∙ get_or-append-add stand.past rest k no_read

pub stand_length : (reads : List Read) (i : ℕ) (rest : List Read) → Stand reads i rest → length reads ≡ i + length rest
stand_length reads i rest stand = let e = length-append stand.past rest in let f = stand.count in let g = ap length stand.whole in omega (arith, e, f, g)

due_at : (reads : List Read) → AreDueInOrder reads → (j k : ℕ) (d : Read) → j ≤ k → k < length reads → (get_or reads j d).due ≤ (get_or reads k d).due
due_at [] order j k d le within = absurd (omega arith)
due_at (read ∷ reads) order zero zero d le within = omega arith
due_at (read ∷ reads) order zero (suc k) d le within = each_at (λ (other : Read). read.due ≤ other.due) reads k d order.0 (omega arith)
due_at (read ∷ reads) order (suc j) zero d le within = absurd (omega arith)
due_at (read ∷ reads) order (suc j) (suc k) d le within = due_at reads order.1 j k d (omega arith) (omega arith)

-- what holds of all reads
pub record AllReads (buffer : ℕ) (reads : List Read) : Type 0 where
  pub order : AreDueInOrder reads
  pub lost : Each (λ (read : Read). read.lost ≤ read.due) reads
  pub room : 0 < length reads → 0 < buffer

freed_by_due : (buffer : ℕ) (reads : List Read) → AllReads buffer reads → (i : ℕ) → i < length reads → freed_for buffer reads i ≤ (read_at reads i).due
freed_by_due buffer reads all i within = go (nat_lt (i + 1) buffer) where
  go : (b : Bool) → cond b 0 (read_at reads ((i + 1) - buffer)).due ≤ (read_at reads i).due
  go true = omega arith
  go false = due_at reads all.order ((i + 1) - buffer) i no_read (let e = all.room (omega arith) in omega (arith, e)) within

earliest_by_due : (buffer ahead : ℕ) (reads : List Read) → AllReads buffer reads → (i : ℕ) → i < length reads → earliest buffer ahead reads i ≤ (read_at reads i).due
earliest_by_due buffer ahead reads all i within =
    let freed = freed_by_due buffer reads all i within in
    let lost = each_at (λ (read : Read). read.lost ≤ read.due) reads i no_read all.lost within in
    omega (arith, freed, lost)

issue_by_due : (buffer ahead : ℕ) (reads : List Read) → AllReads buffer reads → (i : ℕ) → i < length reads → issue_of buffer ahead reads i ≤ (read_at reads i).due
issue_by_due buffer ahead reads all zero within = earliest_by_due buffer ahead reads all 0 within
issue_by_due buffer ahead reads all (suc i) within =
    let own = earliest_by_due buffer ahead reads all (suc i) within in
    let last = issue_by_due buffer ahead reads all i (omega arith) in
    let due = due_at reads all.order i (suc i) no_read (omega arith) within in
    omega (arith, own, last, due)

issue_from_lost : (buffer ahead : ℕ) (reads : List Read) (i : ℕ) → (read_at reads i).lost ≤ issue_of buffer ahead reads i
issue_from_lost buffer ahead reads zero = omega arith
issue_from_lost buffer ahead reads (suc i) = omega arith

issue_from_freed : (buffer ahead : ℕ) (reads : List Read) (i : ℕ) → freed_for buffer reads i ≤ issue_of buffer ahead reads i
issue_from_freed buffer ahead reads zero = omega arith
issue_from_freed buffer ahead reads (suc i) = omega arith

freed_is : (buffer : ℕ) (reads : List Read) (i : ℕ) → buffer ≤ i + 1 → freed_for buffer reads i ≡ (read_at reads ((i + 1) - buffer)).due
freed_is buffer reads i le = let e = le-ltb (i + 1) buffer le in ap (λ (b : Bool). cond b 0 (read_at reads ((i + 1) - buffer)).due) e

-- ---- reads with their issues, from number i on

-- a fact of each, by its number
pub each_timed : (buffer ahead : ℕ) (reads : List Read) (P : Timed → Type 0) (i : ℕ) (rest : List Read)
    → ((k : ℕ) → k < length rest → P (record { page = (get_or rest k no_read).page; due = (get_or rest k no_read).due; issue = issue_of buffer ahead reads (k + i) }))
    → Each P (timed_from buffer ahead reads i rest)
each_timed buffer ahead reads P i [] at = tt
each_timed buffer ahead reads P i (read ∷ rest) at = (
  (let Q : ℕ → Type 0 = λ n. P (record { page = read.page; due = read.due; issue = issue_of buffer ahead reads n }) in
      let e : 0 + i ≡ i = omega arith in subst Q e (at 0 (omega arith))),
  each_timed buffer ahead reads P (i + 1) rest (λ k within.
      let Q : ℕ → Type 0 = λ n. P (record { page = (get_or rest k no_read).page; due = (get_or rest k no_read).due; issue = issue_of buffer ahead reads n }) in
      let e : suc k + i ≡ k + (i + 1) = omega arith in subst Q e (at (suc k) (omega arith))),
)

pub timed_due : (buffer ahead : ℕ) (reads : List Read) (i gap : ℕ) (rest : List Read) → Each (λ (read : Read). gap ≤ read.due) rest → Each (λ (read : Timed). gap ≤ read.due) (timed_from buffer ahead reads i rest)
timed_due buffer ahead reads i gap [] h = tt
timed_due buffer ahead reads i gap (read ∷ rest) h = (h.0, timed_due buffer ahead reads (i + 1) gap rest h.1)

pub timed_by_due : (buffer ahead : ℕ) (reads : List Read) (i : ℕ) (rest : List Read) → AllReads buffer reads → Stand reads i rest → Each (λ (read : Timed). read.issue ≤ read.due) (timed_from buffer ahead reads i rest)
timed_by_due buffer ahead reads i rest all stand = each_timed buffer ahead reads (λ (read : Timed). read.issue ≤ read.due) i rest (λ k within.
    let long = stand_length reads i rest stand in
    let here = issue_by_due buffer ahead reads all (k + i) (omega (arith, long, within)) in
    let P : Read → Type 0 = λ read. issue_of buffer ahead reads (k + i) ≤ read.due in
    subst P (stand_at reads i rest k stand) here)

-- a read isn't issued before its page left
pub timed_lost : (buffer ahead : ℕ) (reads : List Read) (i : ℕ) (rest : List Read) (page gap : ℕ) → Stand reads i rest → AreLostFrom page gap rest → Each (λ (read : Timed). read.page ≡ page → gap ≤ read.issue) (timed_from buffer ahead reads i rest)
timed_lost buffer ahead reads i rest page gap stand h = each_timed buffer ahead reads (λ (read : Timed). read.page ≡ page → gap ≤ read.issue) i rest (λ k within same.
    let lost = each_at (λ (read : Read). read.page ≡ page → gap ≤ read.lost) rest k no_read h within same in
    let here = issue_from_lost buffer ahead reads (k + i) in
    let at = ap (λ (read : Read). read.lost) (stand_at reads i rest k stand) in
    omega (arith, lost, here, at))

-- reads in the order of their issues
abbrev pub AreSorted : List Timed → Type 0
AreSorted [] = Unit {0}
AreSorted (read ∷ reads) = Each (λ (other : Timed). read.issue ≤ other.issue) reads × AreSorted reads

pub timed_sorted : (buffer ahead : ℕ) (reads : List Read) (i : ℕ) (rest : List Read) → AreSorted (timed_from buffer ahead reads i rest)
timed_sorted buffer ahead reads i [] = tt
timed_sorted buffer ahead reads i (read ∷ rest) = (
  each_timed buffer ahead reads (λ (other : Timed). issue_of buffer ahead reads i ≤ other.issue) (i + 1) rest (λ k within.
      let e = issue_of-ordered buffer ahead reads i (suc k) in
      let P : ℕ → Type 0 = λ n. issue_of buffer ahead reads i ≤ issue_of buffer ahead reads n in
      let place : suc k + i ≡ k + (i + 1) = omega arith in subst P place e),
  timed_sorted buffer ahead reads (i + 1) rest,
)

pub sorted_right : (xs ys : List Timed) → AreSorted (xs ++ ys) → AreSorted ys
sorted_right [] ys h = h
sorted_right (x ∷ xs) ys h = sorted_right xs ys h.1

timed_at : (buffer ahead : ℕ) (reads : List Read) (i : ℕ) (rest : List Read) (k : ℕ) → k < length rest
    → get_or (timed_from buffer ahead reads i rest) k no_timed ≡ record { page = (get_or rest k no_read).page; due = (get_or rest k no_read).due; issue = issue_of buffer ahead reads (k + i) }
timed_at buffer ahead reads i [] k within = absurd (omega arith)
timed_at buffer ahead reads i (read ∷ rest) zero within = let e : 0 + i ≡ i = omega arith in rw e refl
timed_at buffer ahead reads i (read ∷ rest) (suc k) within =
    let e : suc k + i ≡ k + (i + 1) = omega arith in
    rw e (timed_at buffer ahead reads (i + 1) rest k (omega arith))

-- the read that comes `buffer` - 1 reads later isn't issued before this one is due
pub timed_freed : (buffer ahead : ℕ) (reads : List Read) (i : ℕ) (rest : List Read) (k : ℕ) → AllReads buffer reads → Stand reads i rest → buffer ≤ k + 1 → k < length rest
    → (get_or (timed_from buffer ahead reads i rest) 0 no_timed).due ≤ (get_or (timed_from buffer ahead reads i rest) k no_timed).issue
timed_freed buffer ahead reads i rest k all stand far within =
    let first = ap (λ (read : Timed). read.due) (timed_at buffer ahead reads i rest 0 (omega arith)) in
    let this = ap (λ (read : Timed). read.issue) (timed_at buffer ahead reads i rest k within) in
    let long = stand_length reads i rest stand in
    let freed = issue_from_freed buffer ahead reads (k + i) in
    let is = freed_is buffer reads (k + i) (omega (arith, far)) in
    let order = due_at reads all.order i (((k + i) + 1) - buffer) no_read (omega (arith, far)) (let room = all.room (omega (arith, long, within)) in omega (arith, long, within, room)) in
    let here = ap (λ (read : Read). read.due) (stand_at reads i rest 0 stand) in
    let place : 0 + i ≡ i = omega arith in
    let at = ap (λ (n : ℕ). (read_at reads n).due) place in
    omega (arith, first, this, freed, is, order, here, at)

-- no read of a page is issued before another one of it is due
abbrev pub AreApart : List Timed → Type 0
AreApart [] = Unit {0}
AreApart (read ∷ reads) = Each (λ (other : Timed). other.page ≡ read.page → read.due ≤ other.issue) reads × AreApart reads

loaded_here : (frame page : ℕ) (before : List Replaced) → in_memory (entry.Load frame page ∷ before) page ≡ true
loaded_here frame page before = or_left (nat_eq page page) _ (eq-eqb page page refl)

pub timed_apart : (buffer ahead : ℕ) (reads : List Read) (i : ℕ) (before list : List Replaced) → AreEntries before list → Stand reads i (reads_from before list) → AreApart (timed_from buffer ahead reads i (reads_from before list))
timed_apart buffer ahead reads i before [] each stand = tt
timed_apart buffer ahead reads i before (entry.Fresh frame page ∷ list) each stand = timed_apart buffer ahead reads i (entry.Fresh frame page ∷ before) list each.1 stand
timed_apart buffer ahead reads i before (entry.Load frame page ∷ list) each stand =
    let next = stand_next reads i (record { page = page; due = gap_after before; lost = lost_in before page }) (reads_from (entry.Load frame page ∷ before) list) stand in (
      timed_lost buffer ahead reads (i + 1) (reads_from (entry.Load frame page ∷ before) list) page (gap_after before) next
          (stays (entry.Load frame page ∷ before) list page each.1 (loaded_here frame page before)),
      timed_apart buffer ahead reads (i + 1) (entry.Load frame page ∷ before) list each.1 next,
    )
timed_apart buffer ahead reads i before (entry.Save frame page ∷ list) each stand = timed_apart buffer ahead reads i (entry.Save frame page ∷ before) list each.1 stand
timed_apart buffer ahead reads i before (entry.Do job ∷ list) each stand = timed_apart buffer ahead reads i (entry.Do job ∷ before) list each.1 stand
