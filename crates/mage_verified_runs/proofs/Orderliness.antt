-- A part that the verifier accepts is orderly: its slots are those of the core, as far as the buffer goes, and idle behind it.
use Rattle.std.proofs.Common.{◌≡◌, ◌≢◌, ◌≤◌, ◌<◌, ◌+◌, ℕ, zero, suc, Bool, true, false, cond, List, [], ◌∷◌, length, take, nat_eq, Option, Some, None, IfSome, refl, sym, ap, ◌∙◌, slice_get, slice_index_or, inl, inr, arith}
use Rattle.std.proofs.lemmas.Bool.{eqb-true, eq-eqb, cases_lt}
use Rattle.std.specs.Option.{option_or}
use Rattle.mage_instr.specs.declared.directive.Directive.{Directive}
use Rattle.mage_instr.specs.declared.directive.Directive.TheVariants as entry
use Rattle.mage_instr.specs.declared.directive.MemProgram.{MemProgram}
use Rattle.mage_instr.specs.declared.replaced.Limits.{Limits}
use Rattle.mage_network.specs.Network as net
use Rattle.mage_steps.specs.Orderly.{Flight, Reading, Writing, page_of_flight, flights_after, flights_after_all, IsStill, Fits, IsOrderly, AreOrderly}
use Rattle.mage_verify.specs.declared.slot.Slot.{Slot}
use Rattle.mage_verify.specs.declared.slot.Slot.TheVariants as does
use Rattle.mage_verify.specs.State.{State, opening, after, after_all, with_slot}
use Rattle.mage_verify.specs.Parts.{WorkerPart, part_of, parts_from, parts_of}
use Rattle.mage_verify.specs.Faults.{own_fault, lowest, fault_of}
use Rattle.mage_verify.specs.Runs.{Meets, Runs}
use Rattle.mage_verify.specs.Runs as verifier
use Rattle.mage_verify.proofs.Running.{Runs-from_none}

-- what a slot has in flight
abbrev flight_of : Slot → Option Flight
flight_of does.Idle = None
flight_of (does.Reading page) = Some (Reading page)
flight_of (does.Writing page) = Some (Writing page)

abbrev Match : State → (ℕ → Option Flight) → Type 0
Match state flights = (s : ℕ) → flight_of (state.slot s) ≡ flights s

-- slots behind the buffer are idle
abbrev Bounded : (buffer : ℕ) → State → Type 0
Bounded buffer state = (s : ℕ) → buffer ≤ s → state.slot s ≡ does.Idle

pub same_test : (a b : ℕ) → nat_eq a b ≡ nat_eq b a
same_test a b = go (nat_eq a b) (nat_eq b a) refl refl
  where
    go : (x y : Bool) → nat_eq a b ≡ x → nat_eq b a ≡ y → nat_eq a b ≡ nat_eq b a
    go true y e f = e ∙ sym (eq-eqb b a (sym (eqb-true a b e)))
    go false true e f = eq-eqb a b (sym (eqb-true b a f)) ∙ sym f
    go false false e f = e ∙ sym f

match_put : (state : State) (flights : ℕ → Option Flight) (slot : ℕ) (now : Slot) → Match state flights → (s : ℕ) →
    flight_of (with_slot slot now state.slot s) ≡ net.put flights slot (flight_of now) s
match_put state flights slot now h s =
    ap (λ b. flight_of (cond b now (state.slot s))) (same_test s slot) ∙ go (nat_eq slot s)
  where
    go : (b : Bool) → flight_of (cond b now (state.slot s)) ≡ cond b (flight_of now) (flights s)
    go true = refl
    go false = h s

match_after : (state : State) (flights : ℕ → Option Flight) (x : Directive) → Match state flights → Match (after state x) (flights_after flights x)
match_after state flights (entry.Fresh frame page) h = h
match_after state flights (entry.IssueIn slot page) h = match_put state flights slot (does.Reading page) h
match_after state flights (entry.FinishIn slot frame) h = match_put state flights slot does.Idle h
match_after state flights (entry.IssueOut slot frame page) h = match_put state flights slot (does.Writing page) h
match_after state flights (entry.FinishOut slot) h = match_put state flights slot does.Idle h
match_after state flights (entry.Do job) h = h

bounded_put : (buffer : ℕ) (state : State) (slot : ℕ) (now : Slot) → slot < buffer → Bounded buffer state → (s : ℕ) → buffer ≤ s →
    with_slot slot now state.slot s ≡ does.Idle
bounded_put buffer state slot now within h s past = go (nat_eq s slot) refl
  where
    go : (b : Bool) → nat_eq s slot ≡ b → cond b now (state.slot s) ≡ does.Idle
    go true e = let same : s ≡ slot = eqb-true s slot e in absurd (omega arith)
    go false e = h s past

bounded_after : (limits : Limits) (pages : ℕ) (state : State) (x : Directive) → Meets limits pages state x → Bounded limits.buffer state →
    Bounded limits.buffer (after state x)
bounded_after limits pages state (entry.Fresh frame page) m h = h
bounded_after limits pages state (entry.IssueIn slot page) m h = bounded_put limits.buffer state slot (does.Reading page) m.0 h
bounded_after limits pages state (entry.FinishIn slot frame) m h = bounded_put limits.buffer state slot does.Idle m.0 h
bounded_after limits pages state (entry.IssueOut slot frame page) m h = bounded_put limits.buffer state slot (does.Writing page) m.0 h
bounded_after limits pages state (entry.FinishOut slot) m h = bounded_put limits.buffer state slot does.Idle m.0 h
bounded_after limits pages state (entry.Do job) m h = h

-- ---- one directive

names_other : (slot : Slot) (flight : Flight) (page : ℕ) → flight_of slot ≡ Some flight → (slot ≡ does.Reading page → ⊥) × (slot ≡ does.Writing page → ⊥) →
    page_of_flight flight ≢ page
names_other does.Idle flight page e h = absurd cc
names_other (does.Reading p) flight page e h = λ same.
    let f : Reading p ≡ flight = cc in h.0 (ap does.Reading (ap page_of_flight f ∙ same))
names_other (does.Writing p) flight page e h = λ same.
    let f : Writing p ≡ flight = cc in h.1 (ap does.Writing (ap page_of_flight f ∙ same))

still_so : (buffer : ℕ) (state : State) (flights : ℕ → Option Flight) (page : ℕ) → Match state flights → Bounded buffer state →
    verifier.IsStill buffer state page → IsStill flights page
still_so buffer state flights page h bounded still s = go (flights s) refl
  where
    go : (o : Option Flight) → flights s ≡ o → IfSome o (λ flight. page_of_flight flight ≢ page)
    go None e = tt
    go (Some flight) e = elim (cases_lt s buffer) [ inl less ↦ names_other (state.slot s) flight page (h s ∙ e) (still s less) | inr past ↦ idle past ]
      where
        idle : buffer ≤ s → page_of_flight flight ≢ page
        idle past = let none : None ≡ Some flight = sym (ap flight_of (bounded s past)) ∙ h s ∙ e in absurd cc

fits_so : (limits : Limits) (pages : ℕ) (state : State) (flights : ℕ → Option Flight) (x : Directive) → Match state flights →
    Bounded limits.buffer state → Meets limits pages state x → Fits flights x
fits_so limits pages state flights (entry.Fresh frame page) h b m = tt
fits_so limits pages state flights (entry.IssueIn slot page) h b m =
    (sym (h slot) ∙ ap flight_of m.2, still_so limits.buffer state flights page h b m.3)
fits_so limits pages state flights (entry.FinishIn slot frame) h b m = (m.2.0, sym (h slot) ∙ ap flight_of m.2.1)
fits_so limits pages state flights (entry.IssueOut slot frame page) h b m =
    (sym (h slot) ∙ ap flight_of m.3, still_so limits.buffer state flights page h b m.4)
fits_so limits pages state flights (entry.FinishOut slot) h b m = (m.1.0, sym (h slot) ∙ ap flight_of m.1.1)
fits_so limits pages state flights (entry.Do job) h b m = tt

-- ---- all of a part

module _ (limits : Limits) (pages : ℕ) where
  abbrev AllMeet : State → List Directive → Type 0
  AllMeet state xs = (d : ℕ) → IfSome (slice_get xs d) (Meets limits pages (after_all state (take d xs)))

  each_fits : (xs : List Directive) (state : State) (flights : ℕ → Option Flight) → Match state flights → Bounded limits.buffer state →
      AllMeet state xs → (d : ℕ) → IfSome (slice_get xs d) (Fits (flights_after_all flights (take d xs)))
  each_fits [] state flights h b all d = tt
  each_fits (x ∷ xs) state flights h b all zero = fits_so limits pages state flights x h b (all 0)
  each_fits (x ∷ xs) state flights h b all (suc d) =
      each_fits xs (after state x) (flights_after flights x) (match_after state flights x h)
      (bounded_after limits pages state x (all 0) b) (λ k. all (suc k)) d

  idle_at_end : (xs : List Directive) (state : State) (flights : ℕ → Option Flight) → Match state flights → Bounded limits.buffer state →
      AllMeet state xs → ((s : ℕ) → s < limits.buffer → (after_all state (take (length xs) xs)).slot s ≡ does.Idle) →
      (s : ℕ) → flights_after_all flights (take (length xs) xs) s ≡ None
  idle_at_end [] state flights h b all idle s = sym (h s) ∙ ap flight_of (elim (cases_lt s limits.buffer) [ inl less ↦ idle s less | inr past ↦ b s past ])
  idle_at_end (x ∷ xs) state flights h b all idle s =
      idle_at_end xs (after state x) (flights_after flights x) (match_after state flights x h)
      (bounded_after limits pages state x (all 0) b) (λ k. all (suc k)) idle s

part_is_orderly : (part : WorkerPart) → own_fault part ≡ None → IsOrderly part.directives
part_is_orderly part h =
    let runs = Runs-from_none part h in record {
      each = each_fits part.limits part.pages part.directives opening (λ s. None) (λ s. refl) (λ s past. refl) runs.each;
      idle = idle_at_end part.limits part.pages part.directives opening (λ s. None) (λ s. refl) (λ s past. refl) runs.each runs.idle;
    }

none_is_orderly : IsOrderly []
none_is_orderly = record { each = λ d. tt; idle = λ s. refl }

-- ---- all workers

first_none : {A : Type 0} (a b : Option A) → option_or a b ≡ None → (a ≡ None) × (b ≡ None)
first_none None b e = (refl, e)
first_none (Some a) b e = absurd cc

all_orderly : (limits : Limits) (stores : List ℕ) (n : ℕ) (workers : List (List Directive)) →
    lowest own_fault (parts_from limits stores n workers) ≡ None → (w : ℕ) → IsOrderly (slice_index_or workers w [])
all_orderly limits stores n [] h zero = none_is_orderly
all_orderly limits stores n [] h (suc w) = none_is_orderly
all_orderly limits stores n (directives ∷ workers) h zero =
    part_is_orderly (part_of limits stores n directives)
    (first_none (own_fault (part_of limits stores n directives)) (lowest own_fault (parts_from limits stores (n + 1) workers)) h).0
all_orderly limits stores n (directives ∷ workers) h (suc w) =
    all_orderly limits stores (n + 1) workers
    (first_none (own_fault (part_of limits stores n directives)) (lowest own_fault (parts_from limits stores (n + 1) workers)) h).1 w

pub verified_is_orderly : (plan : MemProgram) → fault_of plan ≡ None → AreOrderly plan
verified_is_orderly plan h =
    all_orderly plan.limits plan.stores 0 plan.workers (first_none (lowest own_fault (parts_of plan)) _ h).0
