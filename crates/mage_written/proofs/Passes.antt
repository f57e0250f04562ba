-- What the passes make has three arguments in each instruction, and what they made before is as long as what they make now.
use Rattle.std.proofs.Common.{◌≡◌, ◌+◌, ℕ, Bool, true, false, cond, ◌&&◌, not, List, [], ◌∷◌, ◌++◌, length, get_or, map, nat_eq, nat_lt, refl, sym, subst, arith}
use Rattle.std.specs.List.{AllByRecursion}
use Rattle.std.proofs.lemmas.List.Sums.{sum_by-cons}
use Rattle.mage_instr.specs.declared.instr.TheConstants.{NEVER}
use Rattle.mage_instr.specs.declared.instr.Instr.{Instr}
use Rattle.mage_instr.specs.declared.instr.Place.{Place}
use Rattle.mage_instr.specs.declared.instr.Step.{Step}
use Rattle.mage_instr.specs.declared.replaced.Limits.{Limits}
use Rattle.mage_instr.specs.declared.replaced.Replaced.{Replaced}
use Rattle.mage_instr.specs.declared.replaced.Replaced.TheVariants as listed
use Rattle.mage_instr.specs.declared.directive.Directive.{Directive}
use Rattle.mage_instr.specs.declared.directive.Directive.TheVariants as entry
use Rattle.mage_instr.specs.Trace.{pages_of}
use Rattle.mage_next.specs.Next.{first_use}
use Rattle.mage_place.specs.Placing.{places_of, trace_of}
use Rattle.mage_place.proofs.PlacesComputed.{ArePlaces-computed}
use Rattle.mage_place.proofs.StepsComputed.{AreSteps-computed}
use Rattle.mage_belady.specs.Plan.{is_in}
use Rattle.mage_belady.specs.Rule.{Held, Moved, resident, victim_in, frame_of, entering, into_free, into_victims, visited, all_brought_in, job_in, after_result, rule_from, rule_of}
use Rattle.mage_sched.specs.Homes.{Store, empty_store, store_after, homed_from}
use Rattle.mage_sched.specs.Plainly.{plainly}
use Rattle.mage_sched.specs.Turns.{Flight, at_rest, flight_after}
use Rattle.mage_sched.proofs.Own.{schedules_are_plain}
use Rattle.mage_schedulable.specs.Planning.{program_of}
use Rattle.mage_schedulable.specs.PlanOf.{CanBePlanned, AllCanBePlanned, passed}
use Rattle.mage_schedulable.proofs.Entries.{rule_lists_are_replaced}
use Rattle.mage_accepted.specs.Accepting.{directives_in}
use Rattle.mage_accepted.proofs.Directives.{length-homed}
use Rattle.mage_rehome.specs.Earlier.{scheduled, earlier_of}
use Rattle.mage_written.specs.Written.{HasArguments, AllHaveArguments}

-- ---- the list of the rule

-- an instruction of an entry has three arguments
abbrev HasThree : Replaced → Type 0
HasThree (listed.Fresh frame page) = Unit {0}
HasThree (listed.Load frame page) = Unit {0}
HasThree (listed.Save frame page) = Unit {0}
HasThree (listed.Do job) = length job.args ≡ 3

abbrev HaveThree : List Replaced → Type 0
HaveThree list = AllByRecursion HasThree list

three_both : (xs ys : List Replaced) → HaveThree xs → HaveThree ys → HaveThree (xs ++ ys)
three_both [] ys h k = k
three_both (x ∷ xs) ys h k = (h.0, three_both xs ys h.1 k)

module _ (frames : ℕ) (next : ℕ → ℕ) (seen pages : List ℕ) where
  enters : (frame page : ℕ) → HasThree (entering seen frame page)
  enters frame page = go (is_in page seen) where
    go : (b : Bool) → HasThree (cond b (listed.Load frame page) (listed.Fresh frame page))
    go true = tt
    go false = tt

  victims : (held : List Held) (page : ℕ) → HaveThree (into_victims next seen pages held page).entries
  victims held page =
      saves ((get_or held (frame_of (victim_in next pages held) (resident held)) (record { page = 0; dirty = false })).dirty && not (nat_eq (next (victim_in next pages held)) NEVER))
      (frame_of (victim_in next pages held) (resident held))
    where
      saves : (b : Bool) (frame : ℕ) → HaveThree (cond b (listed.Save frame (victim_in next pages held) ∷ []) [] ++ entering seen frame page ∷ [])
      saves true frame = (tt, (enters frame page, tt))
      saves false frame = (enters frame page, tt)

  one : (held : List Held) (page : ℕ) → HaveThree (visited frames next seen pages held page).entries
  one held page = go (is_in page (resident held)) (nat_lt (length held) frames) where
    go : (b c : Bool) → HaveThree (cond {A = Moved} b (record { entries = []; held = held }) (cond c (into_free seen held page) (into_victims next seen pages held page))).entries
    go true c = tt
    go false true = (enters (length held) page, tt)
    go false false = victims held page

  all : (todo : List ℕ) (held : List Held) → HaveThree (all_brought_in frames next seen pages todo held).entries
  all [] held = tt
  all (page ∷ todo) held =
      three_both (visited frames next seen pages held page).entries (all_brought_in frames next seen pages todo (visited frames next seen pages held page).held).entries
      (one held page) (all todo (visited frames next seen pages held page).held)

rule_three : (frames : ℕ) (places : List Place) (t : ℕ) (seen : List ℕ) (held : List Held) (instrs : List Instr) (steps : List Step)
    → HaveThree (rule_from frames places t seen held instrs steps)
rule_three frames places t seen held [] steps = tt
rule_three frames places t seen held (i ∷ instrs) [] = tt
rule_three frames places t seen held (i ∷ instrs) (step ∷ steps) =
    let moved = all_brought_in frames (first_use steps (t + 1)) seen (pages_of step) (pages_of step) held in
    let others = rule_from frames places (t + 1) (seen ++ pages_of step) (after_result places t i moved.held) instrs steps in
    three_both moved.entries (listed.Do (job_in moved.held places t i) ∷ others) (all frames (first_use steps (t + 1)) seen (pages_of step) (pages_of step) held)
    (refl, rule_three frames places (t + 1) (seen ++ pages_of step) (after_result places t i moved.held) instrs steps)

-- ---- directives

-- so it is where it is with what the directives are read plainly
from_plain : (flight : Flight) (part : List Directive) → HaveThree (plainly flight part) → AllByRecursion HasArguments part
from_plain flight [] h = tt
from_plain flight (entry.Fresh frame page ∷ part) h = (tt, from_plain (flight_after (entry.Fresh frame page) flight) part h.1)
from_plain flight (entry.IssueIn slot page ∷ part) h = (tt, from_plain (flight_after (entry.IssueIn slot page) flight) part h)
from_plain flight (entry.FinishIn slot frame ∷ part) h = (tt, from_plain (flight_after (entry.FinishIn slot frame) flight) part h.1)
from_plain flight (entry.IssueOut slot frame page ∷ part) h = (tt, from_plain (flight_after (entry.IssueOut slot frame page) flight) part h.1)
from_plain flight (entry.FinishOut slot ∷ part) h = (tt, from_plain (flight_after (entry.FinishOut slot) flight) part h)
from_plain flight (entry.Do job ∷ part) h = (h.0, from_plain (flight_after (entry.Do job) flight) part h.1)

-- with store pages too
homed_three : (store : Store) (part : List Directive) → AllByRecursion HasArguments part → AllByRecursion HasArguments (homed_from store part).directives
homed_three store [] h = tt
homed_three store (entry.Fresh frame page ∷ part) h = (tt, homed_three (store_after (entry.Fresh frame page) part store) part h.1)
homed_three store (entry.IssueIn slot page ∷ part) h = (tt, homed_three (store_after (entry.IssueIn slot page) part store) part h.1)
homed_three store (entry.FinishIn slot frame ∷ part) h = (tt, homed_three (store_after (entry.FinishIn slot frame) part store) part h.1)
homed_three store (entry.IssueOut slot frame page ∷ part) h = (tt, homed_three (store_after (entry.IssueOut slot frame page) part store) part h.1)
homed_three store (entry.FinishOut slot ∷ part) h = (tt, homed_three (store_after (entry.FinishOut slot) part store) part h.1)
homed_three store (entry.Do job ∷ part) h = (h.0, homed_three (store_after (entry.Do job) part store) part h.1)

scheduled_three : (limits : Limits) (instrs : List Instr) → CanBePlanned limits instrs → AllByRecursion HasArguments (scheduled limits instrs)
scheduled_three limits instrs can =
    let places = places_of instrs limits.page in
    let trace = trace_of instrs places in
    let list = rule_of limits.frames instrs places trace in
    let are = ArePlaces-computed instrs limits.page in
    let steps = AreSteps-computed instrs places can.sound are.count in
    let rule = rule_lists_are_replaced limits.frames instrs places trace can.sound steps can.frames in
    let plain = (schedules_are_plain limits.buffer limits.ahead list rule can.buffer).1 in
    from_plain at_rest (scheduled limits instrs) (subst (λ (xs : List Replaced). HaveThree xs) (sym plain) (rule_three limits.frames places 0 [] [] instrs trace))

pub passed_have_arguments : (limits : Limits) (workers : List (List Instr)) → AllCanBePlanned limits workers
    → AllHaveArguments (program_of limits (map (passed limits) workers))
passed_have_arguments limits [] can = tt
passed_have_arguments limits (instrs ∷ workers) can =
    (homed_three empty_store (scheduled limits instrs) (scheduled_three limits instrs can.0), passed_have_arguments limits workers can.1)

pub earlier_have_arguments : (limits : Limits) (workers : List (List Instr)) → AllCanBePlanned limits workers → AllHaveArguments (earlier_of limits workers)
earlier_have_arguments limits [] can = tt
earlier_have_arguments limits (instrs ∷ workers) can = (scheduled_three limits instrs can.0, earlier_have_arguments limits workers can.1)

-- ---- how many directives there are

pub as_many : (limits : Limits) (workers : List (List Instr))
    → directives_in (earlier_of limits workers) ≡ directives_in (program_of limits (map (passed limits) workers))
as_many limits [] = refl
as_many limits (instrs ∷ workers) =
    let before = sum_by-cons (λ (part : List Directive). length part) (scheduled limits instrs) (earlier_of limits workers).workers in
    let now = sum_by-cons (λ (part : List Directive). length part) (passed limits instrs).directives (program_of limits (map (passed limits) workers)).workers in
    let long = length-homed empty_store (scheduled limits instrs) in
    let rest = as_many limits workers in
    omega (arith, before, now, long, rest)
