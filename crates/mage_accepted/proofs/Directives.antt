-- The directives of a schedule, with store pages: their fields are in range, and there are few of them.
use Rattle.std.proofs.Common.{◌≡◌, ◌≢◌, ◌<◌, ◌≤◌, ◌+◌, zero, suc, ℕ, Bool, true, false, cond, List, [], ◌∷◌, IfSome, length, nat_eq, refl, sym, ◌∙◌, ap, arith, ⊎_elim, flat_map}
use Rattle.std.specs.Prelude.{slice_get}
use Rattle.std.proofs.lemmas.Bool.{cases_lt, eq-eqb, eqb-true}
use Rattle.mage_instr.specs.declared.replaced.Replaced.{Replaced}
use Rattle.mage_instr.specs.declared.replaced.Replaced.TheVariants as listed
use Rattle.mage_instr.specs.declared.directive.Directive.{Directive}
use Rattle.mage_instr.specs.declared.directive.Directive.TheVariants as entry
use Rattle.mage_sched.specs.declared.slot.Slot.{Slot}
use Rattle.mage_sched.specs.declared.slot.Slot.TheVariants as state
use Rattle.mage_sched.specs.Homes.{Store, store_after, homed_from}
use Rattle.mage_sched.specs.Issues.{put}
use Rattle.mage_sched.specs.Plainly.{plainly}
use Rattle.mage_sched.specs.Reads.{reads_from}
use Rattle.mage_sched.specs.Scheduled.{page_saved, page_written, page_read, IsBelow, AreBelow}
use Rattle.mage_sched.specs.Turns.{Flight, at_rest, flight_after, AreInTurn}
use Rattle.mage_directives.specs.Directives.{most_pages, IsJob, IsDirective}
use Rattle.mage_accepted.proofs.Lists.{AreFine}
use Rattle.mage_accepted.proofs.Stores.{AreWritten}
use Rattle.mage_accepted.proofs.Turning.{sum, sum_le, sum_less}

module _ (n workers own : ℕ) where
  -- a page that comes in new is below a number, and a job has its fields in range
  abbrev pub IsRight : Directive → Type 0
  IsRight (entry.Fresh frame page) = page < n
  IsRight (entry.Do job) = IsJob workers own job
  IsRight _ = Unit {0}

  abbrev pub AreRight : List Directive → Type 0
  AreRight [] = Unit {0}
  AreRight (one ∷ part) = IsRight one × AreRight part

  -- so it is where what the directives are read plainly is fine
  pub right_from : (flight : Flight) (part : List Directive) → AreFine n workers own (plainly flight part) → AreRight part
  right_from flight [] h = tt
  right_from flight (entry.Fresh frame page ∷ part) h = (h.0, right_from (flight_after (entry.Fresh frame page) flight) part h.1)
  right_from flight (entry.IssueIn slot page ∷ part) h = (tt, right_from (flight_after (entry.IssueIn slot page) flight) part h)
  right_from flight (entry.FinishIn slot frame ∷ part) h = (tt, right_from (flight_after (entry.FinishIn slot frame) flight) part h.1)
  right_from flight (entry.IssueOut slot frame page ∷ part) h = (tt, right_from (flight_after (entry.IssueOut slot frame page) flight) part h.1)
  right_from flight (entry.FinishOut slot ∷ part) h = (tt, right_from (flight_after (entry.FinishOut slot) flight) part h)
  right_from flight (entry.Do job ∷ part) h = (h.0, right_from (flight_after (entry.Do job) flight) part h.1)

  pub written_from : (flight : Flight) (part : List Directive) → AreFine n workers own (plainly flight part) → AreWritten n part
  written_from flight [] h = tt
  written_from flight (entry.Fresh frame page ∷ part) h = (tt, written_from (flight_after (entry.Fresh frame page) flight) part h.1)
  written_from flight (entry.IssueIn slot page ∷ part) h = (tt, written_from (flight_after (entry.IssueIn slot page) flight) part h)
  written_from flight (entry.FinishIn slot frame ∷ part) h = (tt, written_from (flight_after (entry.FinishIn slot frame) flight) part h.1)
  written_from flight (entry.IssueOut slot frame page ∷ part) h = (h.0, written_from (flight_after (entry.IssueOut slot frame page) flight) part h.1)
  written_from flight (entry.FinishOut slot ∷ part) h = (tt, written_from (flight_after (entry.FinishOut slot) flight) part h)
  written_from flight (entry.Do job ∷ part) h = (tt, written_from (flight_after (entry.Do job) flight) part h.1)

  -- with store pages too
  pub right_homed : (store : Store) (part : List Directive) → AreRight part → AreRight (homed_from store part).directives
  right_homed store [] h = tt
  right_homed store (entry.Fresh frame page ∷ part) h = (h.0, right_homed (store_after (entry.Fresh frame page) part store) part h.1)
  right_homed store (entry.IssueIn slot page ∷ part) h = (tt, right_homed (store_after (entry.IssueIn slot page) part store) part h.1)
  right_homed store (entry.FinishIn slot frame ∷ part) h = (tt, right_homed (store_after (entry.FinishIn slot frame) part store) part h.1)
  right_homed store (entry.IssueOut slot frame page ∷ part) h = (tt, right_homed (store_after (entry.IssueOut slot frame page) part store) part h.1)
  right_homed store (entry.FinishOut slot ∷ part) h = (tt, right_homed (store_after (entry.FinishOut slot) part store) part h.1)
  right_homed store (entry.Do job ∷ part) h = (h.0, right_homed (store_after (entry.Do job) part store) part h.1)

  -- each field of a directive is in its range
  in_range : (count : ℕ) (one : Directive) → n ≤ most_pages → count ≤ most_pages → IsRight one → IsBelow count one
      → IsDirective workers own one
  in_range count (entry.Fresh frame page) few most right below = omega (arith, few, right)
  in_range count (entry.IssueIn slot page) few most right below = omega (arith, most, below)
  in_range count (entry.FinishIn slot frame) few most right below = tt
  in_range count (entry.IssueOut slot frame page) few most right below = omega (arith, most, below)
  in_range count (entry.FinishOut slot) few most right below = tt
  in_range count (entry.Do job) few most right below = right

  pub each_in_range : (count : ℕ) (part : List Directive) → n ≤ most_pages → count ≤ most_pages → AreRight part
      → AreBelow count part
      → (d : ℕ) → IfSome (slice_get part d) (IsDirective workers own)
  each_in_range count [] few most right below zero = tt
  each_in_range count [] few most right below (suc d) = tt
  each_in_range count (one ∷ part) few most right below zero = in_range count one few most right.0 below.0
  each_in_range count (one ∷ part) few most right below (suc d) = each_in_range count part few most right.1 below.1 d

pub length-homed : (store : Store) (part : List Directive) → length (homed_from store part).directives ≡ length part
length-homed store [] = refl
length-homed store (one ∷ part) = ap suc (length-homed (store_after one part store) part)

-- ---- how many directives there are

pub sum_more : (n : ℕ) (f g : ℕ → ℕ) (w : ℕ) → ((k : ℕ) → k ≢ w → g k ≤ f k) → g w ≤ f w + 1 → sum n g ≤ sum n f + 1
sum_more zero f g w h more = omega arith
sum_more (suc n) f g zero h more =
    let rest = sum_le n (λ k. g (suc k)) (λ k. f (suc k)) (λ k. h (suc k) (λ e. omega (arith, e))) in
    omega (arith, rest, more)
sum_more (suc n) f g (suc w) h more =
    let rest = sum_more n (λ k. f (suc k)) (λ k. g (suc k)) w (λ k ne. h (suc k) (λ e. ne (omega (arith, e)))) more in
    let first = h 0 (λ e. omega (arith, e)) in
    omega (arith, rest, first)

pub sum_zero : (n : ℕ) → sum n (λ k. 0) ≡ 0
sum_zero zero = refl
sum_zero (suc n) = let rest = sum_zero n in omega (arith, rest)

-- 1 for a slot that writes
abbrev writing : Slot → ℕ
writing state.Idle = 0
writing (state.Reads page) = 0
writing (state.Writes page) = 1

module _ (buffer : ℕ) where
  -- how many slots write
  abbrev writers : Flight → ℕ
  writers flight = sum buffer (λ s. writing (flight.does s))

  -- no slot behind the buffer is in flight
  abbrev AreIdle : Flight → Type 0
  AreIdle flight = (s : ℕ) → buffer ≤ s → flight.does s ≡ state.Idle

  none_more : (does : ℕ → Slot) (slot : ℕ) (x : Slot) → writing x ≡ 0 → (s : ℕ) → writing (put slot x does s) ≤ writing (does s)
  none_more does slot x none s = go (nat_eq slot s) where
    go : (b : Bool) → writing (cond b x (does s)) ≤ writing (does s)
    go true = omega (arith, none)
    go false = omega arith

  put_at : (does : ℕ → Slot) (slot : ℕ) (x : Slot) → put slot x does slot ≡ x
  put_at does slot x = rw (eq-eqb slot slot refl) refl

  put_off : (does : ℕ → Slot) (slot : ℕ) (x : Slot) (s : ℕ) → (nat_eq slot s ≡ true → ⊥) → put slot x does s ≡ does s
  put_off does slot x s ne = go (nat_eq slot s) refl where
    go : (b : Bool) → nat_eq slot s ≡ b → cond b x (does s) ≡ does s
    go true e = absurd (ne e)
    go false e = refl

  idle_put : (flight : Flight) (slot : ℕ) (x : Slot) → slot < buffer → AreIdle flight → (s : ℕ) → buffer ≤ s
      → put slot x flight.does s ≡ state.Idle
  idle_put flight slot x lt idle s le = put_off flight.does slot x s (λ e. let same = eqb-true slot s e in omega (arith, same, lt, le)) ∙ idle s le

  inside : (flight : Flight) (slot : ℕ) → AreIdle flight → (flight.does slot ≡ state.Idle → ⊥) → slot < buffer
  inside flight slot idle busy = ⊎_elim (λ lt. lt) (λ le. absurd (busy (idle slot le))) (cases_lt slot buffer)

  reads_busy : (slot : Slot) (page : ℕ) → slot ≡ state.Reads page → slot ≡ state.Idle → ⊥
  reads_busy slot page e f = let both : state.Reads page ≡ state.Idle = sym e ∙ f in cc

  writes_busy : (slot : Slot) (page : ℕ) → slot ≡ state.Writes page → slot ≡ state.Idle → ⊥
  writes_busy slot page e f = let both : state.Writes page ≡ state.Idle = sym e ∙ f in cc

  -- as many as they are read plainly, and one for each read and for each write, and for each that is under way
  pub few_in_turn : (part : List Directive) (flight : Flight) → AreIdle flight → AreInTurn buffer flight part
      → length part ≤ length (plainly flight part) + length (flat_map page_read part) + writers flight + length (flat_map page_written part)
  few_in_turn [] flight idle turns = omega arith
  few_in_turn (entry.Fresh frame page ∷ part) flight idle turns =
      let rest = few_in_turn part flight idle turns.1 in omega (arith, rest)
  few_in_turn (entry.IssueIn slot page ∷ part) flight idle turns =
      let after = flight_after (entry.IssueIn slot page) flight in
      let rest = few_in_turn part after (idle_put flight slot (state.Reads page) turns.0.0.within idle) turns.1 in
      let less = sum_le buffer (λ s. writing (after.does s)) (λ s. writing (flight.does s)) (none_more flight.does slot (state.Reads page) refl) in
      omega (arith, rest, less)
  few_in_turn (entry.FinishIn slot frame ∷ part) flight idle turns =
      let after = flight_after (entry.FinishIn slot frame) flight in
      let lt = inside flight slot idle (reads_busy (flight.does slot) turns.0.0 turns.0.1) in
      let rest = few_in_turn part after (idle_put flight slot state.Idle lt idle) turns.1 in
      let less = sum_le buffer (λ s. writing (after.does s)) (λ s. writing (flight.does s)) (none_more flight.does slot state.Idle refl) in
      omega (arith, rest, less)
  few_in_turn (entry.IssueOut slot frame page ∷ part) flight idle turns =
      let after = flight_after (entry.IssueOut slot frame page) flight in
      let rest = few_in_turn part after (idle_put flight slot (state.Writes page) turns.0.within idle) turns.1 in
      let here : writing (after.does slot) ≡ 1 = ap writing (put_at flight.does slot (state.Writes page)) in
      let more = sum_more buffer (λ s. writing (flight.does s)) (λ s. writing (after.does s)) slot
      (λ s ne. let same : writing (after.does s) ≡ writing (flight.does s) = ap writing (put_off flight.does slot (state.Writes page) s (λ e. ne (sym (eqb-true slot s e)))) in omega (arith, same))
      (omega (arith, here)) in
      omega (arith, rest, more)
  few_in_turn (entry.FinishOut slot ∷ part) flight idle turns =
      let after = flight_after (entry.FinishOut slot) flight in
      let lt = inside flight slot idle (writes_busy (flight.does slot) turns.0.0 turns.0.1) in
      let rest = few_in_turn part after (idle_put flight slot state.Idle lt idle) turns.1 in
      let now : writing (after.does slot) ≡ 0 = ap writing (put_at flight.does slot state.Idle) in
      let before : writing (flight.does slot) ≡ 1 = ap writing turns.0.1 in
      let less = sum_less buffer (λ s. writing (after.does s)) (λ s. writing (flight.does s)) (none_more flight.does slot state.Idle refl) slot lt (omega (arith, now, before)) in
      omega (arith, rest, less)
  few_in_turn (entry.Do job ∷ part) flight idle turns =
      let rest = few_in_turn part flight idle turns.1 in omega (arith, rest)

  -- at first no slot is under way
  pub none_yet : writers at_rest ≡ 0
  none_yet = sum_zero buffer

  pub all_idle : AreIdle at_rest
  all_idle s le = refl

-- a list has at most as many reads and saves as entries, since no entry is both
pub few_moves : (before list : List Replaced) → length (reads_from before list) + length (flat_map page_saved list) ≤ length list
few_moves before [] = omega arith
few_moves before (listed.Fresh frame page ∷ list) = let rest = few_moves (listed.Fresh frame page ∷ before) list in omega (arith, rest)
few_moves before (listed.Load frame page ∷ list) = let rest = few_moves (listed.Load frame page ∷ before) list in omega (arith, rest)
few_moves before (listed.Save frame page ∷ list) = let rest = few_moves (listed.Save frame page ∷ before) list in omega (arith, rest)
few_moves before (listed.Do job ∷ list) = let rest = few_moves (listed.Do job ∷ before) list in omega (arith, rest)
