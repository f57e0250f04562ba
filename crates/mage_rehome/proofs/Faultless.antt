-- A memory program without a fault has none with store pages.
use Rattle.std.proofs.Common.{◌≡◌, ◌+◌, zero, suc, ℕ, Bool, true, false, not, cond, List, [], ◌∷◌, ◌++◌, Option, None, Some, length, map, nat_eq, refl, sym, ◌∙◌, ap, ap₂, subst, append_assoc}
use Rattle.std.specs.Prelude.{slice_get}
use Rattle.std.specs.Option.{option_map, option_or}
use Rattle.std.proofs.lemmas.Bool.{and_from, lt-ltb}
use Rattle.std.proofs.lemmas.List.{length-map, length_push}
use mathlib.Core.Path.{fun_ext}
use Rattle.mage_instr.specs.declared.directive.Directive.{Directive}
use Rattle.mage_instr.specs.declared.directive.Directive.TheVariants as entry
use Rattle.mage_instr.specs.declared.replaced.Limits.{Limits}
use Rattle.mage_carry.specs.Carrying.{store_of}
use Rattle.mage_sched.specs.declared.slot.Slot.TheVariants as state
use Rattle.mage_sched.specs.Homes.{Homed, Store, empty_store, store_after, renamed, homed_from, homed_of}
use Rattle.mage_sched.specs.Scheduled.{IsBelow, AreBelow}
use Rattle.mage_sched.specs.Turns.{Flight, at_rest, is_for, flight_after, IsInTurn, AreInTurn}
use Rattle.mage_sched.proofs.Planned.{homes_keep_turns}
use Rattle.mage_verify.specs.declared.fault.VerifyFault.{VerifyFault}
use Rattle.mage_verify.specs.declared.fault.VerifyFault.TheVariants as wrong
use Rattle.mage_verify.specs.declared.slot.Slot.{Slot}
use Rattle.mage_verify.specs.declared.slot.Slot.TheVariants as does
use Rattle.mage_verify.specs.declared.turn.Place.{Place}
use Rattle.mage_verify.specs.declared.turn.Stand.{Stand}
use Rattle.mage_verify.specs.declared.turn.Turn.{Turn}
use Rattle.mage_verify.specs.declared.turn.Turn.TheVariants as turn
use Rattle.mage_verify.specs.Faults.{fault_at, fault_from, own_fault, lowest, joint_fault}
use Rattle.mage_verify.specs.Joint.{stand_at, width_at, stands, first_turn, after_turn, after_turns, then_turns, joint_order, lower, differing_at, differing, waiting_at, waiting, lists_at, count_all, none_done, order_of, done_of, waiting_of, differing_of}
use Rattle.mage_verify.specs.Parts.{WorkerPart, part_of, parts_from, parts_of}
use Rattle.mage_verify.specs.Range.{is_in_range, has_page}
use Rattle.mage_verify.specs.State.{State, opening, after, is_in_flight, is_reading, is_writing, is_moving, is_busy, names, some_below}
use Rattle.mage_verify.specs.Tables.{IsFine}
use Rattle.mage_verify.proofs.Tests.{Passes-from_none, none_first, none_second}
use Rattle.mage_accepted.proofs.Directives.{length-homed}
use Rattle.mage_rehome.specs.Rehomed.{RenamingMakesNoFault}
use Rattle.mage_rehome.proofs.Renaming.{counts_of, lists_of, count_here}
use Rattle.mage_rehome.proofs.Turned.{turning, AreTied, tied_at_first, named, turns, turned}

-- ---- what is asked of places holds with store pages too

-- the frames, slots and values of each directive are there
abbrev AreThere : Limits → List Directive → Type 0
AreThere limits [] = Unit {0}
AreThere limits (one ∷ part) = (is_in_range limits one ≡ true) × AreThere limits part

there_when : (limits : Limits) (pages worker d : ℕ) (v : State) (part : List Directive) → fault_from limits pages worker d v part ≡ None → AreThere limits part
there_when limits pages worker d v [] h = tt
there_when limits pages worker d v (one ∷ part) h =
    let first = none_first (fault_at limits pages worker d v one) (fault_from limits pages worker (d + 1) (after v one) part) h in
    let others = none_second (fault_at limits pages worker d v one) (fault_from limits pages worker (d + 1) (after v one) part) h in
    let passes = Passes-from_none limits pages worker d v one first in
    (passes.fine.range, there_when limits pages worker (d + 1) (after v one) part others)

range_renamed : (limits : Limits) (one : Directive) (holders : List (Option ℕ)) → is_in_range limits (renamed one holders) ≡ is_in_range limits one
range_renamed limits (entry.Fresh frame page) holders = refl
range_renamed limits (entry.IssueIn slot page) holders = refl
range_renamed limits (entry.FinishIn slot frame) holders = refl
range_renamed limits (entry.IssueOut slot frame page) holders = refl
range_renamed limits (entry.FinishOut slot) holders = refl
range_renamed limits (entry.Do job) holders = refl

there_homed : (limits : Limits) (store : Store) (part : List Directive) → AreThere limits part → AreThere limits (homed_from store part).directives
there_homed limits store [] h = tt
there_homed limits store (one ∷ part) h = (range_renamed limits one (store_after one part store).holders ∙ h.0, there_homed limits (store_after one part store) part h.1)

-- ---- directives in turn have no fault

resting : (x : Slot) → turning x ≡ state.Idle → is_in_flight x ≡ false
resting does.Idle e = refl
resting (does.Reading page) e = absurd (cc)
resting (does.Writing page) e = absurd (cc)

reads_when : (x : Slot) (page : ℕ) → turning x ≡ state.Reads page → is_reading x ≡ true
reads_when does.Idle page e = absurd (cc)
reads_when (does.Reading other) page e = refl
reads_when (does.Writing other) page e = absurd (cc)

writes_when : (x : Slot) (page : ℕ) → turning x ≡ state.Writes page → is_writing x ≡ true
writes_when does.Idle page e = absurd (cc)
writes_when (does.Reading other) page e = absurd (cc)
writes_when (does.Writing other) page e = refl

none_passes : (n : ℕ) (test : ℕ → Bool) → ((k : ℕ) → test k ≡ false) → some_below n test ≡ false
none_passes zero test h = refl
none_passes (suc n) test h = rw (h 0) (none_passes n (λ k. test (suc k)) (λ k. h (suc k)))

still : (buffer : ℕ) (v : State) (flight : Flight) (page : ℕ) → AreTied buffer v flight → ((other : ℕ) → is_for (flight.does other) page ≡ false) → is_moving buffer v page ≡ false
still buffer v flight page tied alone = none_passes buffer (λ s. names page (v.slot s)) (λ s. sym (named page (v.slot s)) ∙ ap (λ x. is_for x page) (tied.each s) ∙ alone s)

fine_in_turn : (limits : Limits) (one : Directive) (v : State) (flight : Flight) → AreTied limits.buffer v flight → IsInTurn limits.buffer flight one
    → is_in_range limits one ≡ true → IsFine limits v one
fine_in_turn limits (entry.Fresh frame page) v flight tied is there = record { range = there; slot = refl; page = refl }
fine_in_turn limits (entry.IssueIn slot page) v flight tied is there = record {
  range = there;
  slot = ap not (resting (v.slot slot) (tied.each slot ∙ is.0.idle));
  page = and_from (not (is_moving limits.buffer v page)) (v.stored page) (ap not (still limits.buffer v flight page tied is.0.alone)) (tied.stored page ∙ is.1);
}
fine_in_turn limits (entry.FinishIn slot frame) v flight tied is there = record { range = there; slot = reads_when (v.slot slot) is.0 (tied.each slot ∙ is.1); page = refl }
fine_in_turn limits (entry.IssueOut slot frame page) v flight tied is there = record {
  range = there;
  slot = ap not (resting (v.slot slot) (tied.each slot ∙ is.idle));
  page = ap not (still limits.buffer v flight page tied is.alone);
}
fine_in_turn limits (entry.FinishOut slot) v flight tied is there = record { range = there; slot = writes_when (v.slot slot) is.0 (tied.each slot ∙ is.1); page = refl }
fine_in_turn limits (entry.Do job) v flight tied is there = record { range = there; slot = refl; page = refl }

page_below : (pages : ℕ) (one : Directive) → IsBelow pages one → has_page pages one ≡ true
page_below pages (entry.Fresh frame page) below = refl
page_below pages (entry.IssueIn slot page) below = lt-ltb page pages below
page_below pages (entry.FinishIn slot frame) below = refl
page_below pages (entry.IssueOut slot frame page) below = lt-ltb page pages below
page_below pages (entry.FinishOut slot) below = refl
page_below pages (entry.Do job) below = refl

no_fault : (limits : Limits) (pages worker d : ℕ) (v : State) (one : Directive) → IsFine limits v one → has_page pages one ≡ true → fault_at limits pages worker d v one ≡ None
no_fault limits pages worker d v one fine there = rw (fine.range, there, fine.slot, fine.page) refl

none_in_turn : (limits : Limits) (pages worker d : ℕ) (v : State) (flight : Flight) (part : List Directive) → AreTied limits.buffer v flight
    → AreInTurn limits.buffer flight part → AreBelow pages part → AreThere limits part
    → fault_from limits pages worker d v part ≡ None
none_in_turn limits pages worker d v flight [] tied are below there =
    let idle : is_busy limits.buffer v ≡ false = none_passes limits.buffer (λ s. is_in_flight (v.slot s)) (λ s. resting (v.slot s) (tied.each s ∙ are s)) in
    rw idle refl
none_in_turn limits pages worker d v flight (one ∷ part) tied are below there =
    let fine = fine_in_turn limits one v flight tied are.0 there.0 in
    let page = page_below pages one below.0 in
    let now = turns limits pages one v flight tied fine page in
    let rest = none_in_turn limits pages worker (d + 1) (after v one) (flight_after one flight) part now.tied are.1 below.1 there.1 in
    ap₂ (λ (a b : Option VerifyFault). option_or a b) (no_fault limits pages worker d v one fine page) rest

none_homed : (limits : Limits) (pages worker : ℕ) (part : List Directive) → fault_from limits pages worker 0 opening part ≡ None
    → fault_from limits (homed_of part).count worker 0 opening (homed_of part).directives ≡ None
none_homed limits pages worker part none =
    let homed = homes_keep_turns limits.buffer part (turned limits pages worker part none).turns in
    none_in_turn limits (homed_of part).count worker 0 opening at_rest (homed_of part).directives (tied_at_first limits.buffer) homed.turns homed.below
    (there_homed limits empty_store part (there_when limits pages worker 0 opening part none))

-- each worker by itself
lowest_homed : (limits : Limits) (stores : List ℕ) (before parts : List (List Directive)) → lowest own_fault (parts_from limits stores (length before) parts) ≡ None
    → lowest own_fault (parts_from limits (counts_of (before ++ parts)) (length before) (lists_of parts)) ≡ None
lowest_homed limits stores before [] none = refl
lowest_homed limits stores before (part ∷ parts) none =
    let worker = length before in
    let all = before ++ part ∷ parts in
    let first = none_first (own_fault (part_of limits stores worker part)) (lowest own_fault (parts_from limits stores (worker + 1) parts)) none in
    let others = none_second (own_fault (part_of limits stores worker part)) (lowest own_fault (parts_from limits stores (worker + 1) parts)) none in
    let here : own_fault (part_of limits (counts_of all) worker (homed_of part).directives) ≡ None =
    ap (λ (n : ℕ). fault_from limits n worker 0 opening (homed_of part).directives) (count_here before part parts) ∙ none_homed limits (store_of stores worker) worker part first in
    let one_more : length (before ++ part ∷ []) ≡ worker + 1 = length_push before part in
    let further = lowest_homed limits stores (before ++ part ∷ []) parts (subst (λ k. lowest own_fault (parts_from limits stores k parts) ≡ None) (sym one_more) others) in
    let moved : lowest own_fault (parts_from limits (counts_of ((before ++ part ∷ []) ++ parts)) (worker + 1) (lists_of parts)) ≡ None =
    subst (λ k. lowest own_fault (parts_from limits (counts_of ((before ++ part ∷ []) ++ parts)) k (lists_of parts)) ≡ None) one_more further in
    let rest : lowest own_fault (parts_from limits (counts_of all) (worker + 1) (lists_of parts)) ≡ None =
    subst (λ xs. lowest own_fault (parts_from limits (counts_of xs) (worker + 1) (lists_of parts)) ≡ None) (append_assoc before (part ∷ []) parts) moved in
    ap₂ (λ (a b : Option VerifyFault). option_or a b) here rest

-- ---- all together: the joint run looks at instructions alone

-- each worker stands at the same in both
record AreAlike (all others : ℕ → List Directive) : Type 0 where
  stand : (w d : ℕ) → stand_at (slice_get (all w) d) ≡ stand_at (slice_get (others w) d)
  width : (w d : ℕ) → width_at (slice_get (all w) d) ≡ width_at (slice_get (others w) d)

then_same : (o : Option Turn) (f g : Turn → List Turn) → ((next : Turn) → f next ≡ g next) → then_turns o f ≡ then_turns o g
then_same None f g h = refl
then_same (Some next) f g h = ap (λ ts. next ∷ ts) (h next)

module _ (all others : ℕ → List Directive) (alike : AreAlike all others) where
  same_stands : (done : ℕ → ℕ) → stands all done ≡ stands others done
  same_stands done = fun_ext (λ w. alike.stand w (done w))

  same_order : (workers count : ℕ) (done : ℕ → ℕ) → joint_order all workers count done ≡ joint_order others workers count done
  same_order workers zero done = refl
  same_order workers (suc count) done =
      ap (λ standing. then_turns (first_turn standing 0 workers) (λ next. joint_order all workers count (after_turn next done))) (same_stands done)
      ∙ then_same (first_turn (stands others done) 0 workers) (λ next. joint_order all workers count (after_turn next done)) (λ next. joint_order others workers count (after_turn next done))
      (λ next. same_order workers count (after_turn next done))

  same_waiting : (done : ℕ → ℕ) (from count : ℕ) → waiting all done from count ≡ waiting others done from count
  same_waiting done from zero = refl
  same_waiting done from (suc count) = ap₂ (λ standing (rest : Option Place). option_or (waiting_at standing (record { worker = from; directive = done from })) rest)
      (alike.stand from (done from)) (same_waiting done (from + 1) count)

  same_at : (next : Turn) (done : ℕ → ℕ) → differing_at all next done ≡ differing_at others next done
  same_at (turn.Alone worker) done = refl
  same_at (turn.Hands source target) done =
      ap₂ (λ (a b : ℕ). cond (nat_eq a b) None (Some (record { worker = target; directive = done target }))) (alike.width source (done source)) (alike.width target (done target))

  same_differing : (next : List Turn) (done : ℕ → ℕ) → differing all next done ≡ differing others next done
  same_differing [] done = refl
  same_differing (first ∷ next) done = ap₂ lower (same_at first done) (same_differing next (after_turn first done))

same_joint : (xs ys : List (List Directive)) → length xs ≡ length ys → count_all xs ≡ count_all ys → AreAlike (lists_at xs) (lists_at ys) → joint_fault xs ≡ joint_fault ys
same_joint xs ys long counted alike =
    let order : order_of xs ≡ order_of ys = same_order (lists_at xs) (lists_at ys) alike (length xs) (count_all xs) none_done
    ∙ ap₂ (λ (n k : ℕ). joint_order (lists_at ys) n k none_done) long counted in
    let waits : waiting_of xs ≡ waiting_of ys = same_waiting (lists_at xs) (lists_at ys) alike (done_of xs) 0 (length xs)
    ∙ ap₂ (λ (next : List Turn) (n : ℕ). waiting (lists_at ys) (after_turns next none_done) 0 n) order long in
    let differs : differing_of xs ≡ differing_of ys = same_differing (lists_at xs) (lists_at ys) alike (order_of xs) none_done
    ∙ ap (λ next. differing (lists_at ys) next none_done) order in
    ap₂ (λ (w d : Option Place). option_or (option_map (λ p. wrong.Links p.worker p.directive) w) (option_map (λ p. wrong.Width p.worker p.directive) d)) waits differs

-- what is seen of a directive, where its store page doesn't matter
module _ (A : Type 0) (see : Option Directive → A) (same : (one : Directive) (holders : List (Option ℕ)) → see (Some (renamed one holders)) ≡ see (Some one)) where
  seen_homed : (store : Store) (part : List Directive) (d : ℕ) → see (slice_get (homed_from store part).directives d) ≡ see (slice_get part d)
  seen_homed store [] zero = refl
  seen_homed store [] (suc d) = refl
  seen_homed store (one ∷ part) zero = same one (store_after one part store).holders
  seen_homed store (one ∷ part) (suc d) = seen_homed (store_after one part store) part d

  seen_in : (parts : List (List Directive)) (w d : ℕ) → see (slice_get (lists_at (lists_of parts) w) d) ≡ see (slice_get (lists_at parts w) d)
  seen_in [] zero d = refl
  seen_in [] (suc w) d = refl
  seen_in (part ∷ parts) zero d = seen_homed empty_store part d
  seen_in (part ∷ parts) (suc w) d = seen_in parts w d

stand_renamed : (one : Directive) (holders : List (Option ℕ)) → stand_at (Some (renamed one holders)) ≡ stand_at (Some one)
stand_renamed (entry.Fresh frame page) holders = refl
stand_renamed (entry.IssueIn slot page) holders = refl
stand_renamed (entry.FinishIn slot frame) holders = refl
stand_renamed (entry.IssueOut slot frame page) holders = refl
stand_renamed (entry.FinishOut slot) holders = refl
stand_renamed (entry.Do job) holders = refl

width_renamed : (one : Directive) (holders : List (Option ℕ)) → width_at (Some (renamed one holders)) ≡ width_at (Some one)
width_renamed (entry.Fresh frame page) holders = refl
width_renamed (entry.IssueIn slot page) holders = refl
width_renamed (entry.FinishIn slot frame) holders = refl
width_renamed (entry.IssueOut slot frame page) holders = refl
width_renamed (entry.FinishOut slot) holders = refl
width_renamed (entry.Do job) holders = refl

count_homed : (parts : List (List Directive)) → count_all (lists_of parts) ≡ count_all parts
count_homed [] = refl
count_homed (part ∷ parts) = ap₂ (λ (n k : ℕ). n + k) (length-homed empty_store part) (count_homed parts)

directives_are : (limits : Limits) (stores : List ℕ) (worker : ℕ) (parts : List (List Directive))
    → map (λ (part : WorkerPart). part.directives) (parts_from limits stores worker parts) ≡ parts
directives_are limits stores worker [] = refl
directives_are limits stores worker (part ∷ parts) = ap (λ xs. part ∷ xs) (directives_are limits stores (worker + 1) parts)

pub renaming_makes_no_fault : RenamingMakesNoFault
renaming_makes_no_fault plan none =
    let limits = plan.limits in
    let workers = plan.workers in
    let directives = map (λ (part : WorkerPart). part.directives) (parts_of plan) in
    let own = lowest_homed limits plan.stores [] workers (none_first (lowest own_fault (parts_of plan)) (joint_fault directives) none) in
    let joint : joint_fault workers ≡ None = ap joint_fault (sym (directives_are limits plan.stores 0 workers)) ∙ none_second (lowest own_fault (parts_of plan)) (joint_fault directives) none in
    let long : length (lists_of workers) ≡ length workers = length-map (map homed_of workers) (λ (part : Homed). part.directives) ∙ length-map workers homed_of in
    let same = same_joint (lists_of workers) workers long (count_homed workers)
    (record { stand = λ w d. seen_in Stand stand_at stand_renamed workers w d; width = λ w d. seen_in ℕ width_at width_renamed workers w d }) in
    ap₂ (λ (a b : Option VerifyFault). option_or a b) own
    (ap joint_fault (directives_are limits (counts_of workers) 0 (lists_of workers)) ∙ same ∙ joint)
