-- What comes back from a run, also with a fault, begins the joint run over pages, or a store answered with other bytes than were written.
use Rattle.std.proofs.Common.{◌≡◌, ◌<◌, ◌≤◌, ◌++◌, ◌==◌, ◌⊎◌, inl, inr, ℕ, zero, suc, Bool, true, false, cond, List, [], ◌∷◌, length, Option, None, Some, slice_get, append_assoc, refl, sym, ap, ◌∙◌, subst, arith, map}
use Rattle.std.proofs.lemmas.Bool.{eqb-true, eqb-false, eq-eqb, cases_lt}
use Rattle.std.specs.List.{All}
use Rattle.std.specs.Option.{option_map}
use Rattle.mage_base.specs.Store.{StoreTold, Transfer, Wrote, Answered}
use Rattle.mage_base.specs.declared.failure.Damage.{Damage}
use Rattle.mage_instr.specs.declared.directive.MemProgram.{MemProgram}
use Rattle.mage_instr.specs.declared.fault.MachineFault.{MachineFault}
use Rattle.mage_instr.specs.declared.fault.MachineFault.TheVariants as stops
use Rattle.mage_directives.specs.Directives.{IsMemProgram}
use Rattle.mage_network.specs.Pasts.{IsPrefix}
use Rattle.mage_network.specs.Workers.{said_in}
use Rattle.mage_driver.specs.Rules.{Rules, AreLawful}
use Rattle.mage_driver.specs.Calls.{Told}
use Rattle.mage_link.specs.Queues.{QueueState}
use Rattle.mage_port.specs.Port.{PortTold, SlotState, Idle, AskedRead, AskedWrite, HasFailed, IsDamaged, slot_state, Spoils}
use Rattle.mage_store.specs.SerialPort.{transfers_of}
use Rattle.mage_store.specs.SealedPort.{AreSealed, AreSealedAfter, is_damaged_at}
use Rattle.mage_steps.specs.Core.{joint_after}
use Rattle.mage_verified_runs.specs.Turns.{verified_turns}
use Rattle.mage_verify.specs.Faults.{fault_of}
use Rattle.mage_verify.specs.Parts.{parts_of}
use Rattle.mage_engine.specs.Seen.{Seen}
use Rattle.mage_engine.specs.Steps.{IsCause}
use Rattle.mage_core.specs.declared.fault.RunFault.{RunFault}
use Rattle.mage_core.specs.Ports.{RunMachine, store_of, CameBy}
use Rattle.mage_core.specs.Turns.{sights}
use Rattle.mage_core.specs.Going.{Start, HasGone, EndsAs, is_sound}
use Rattle.mage_core.specs.Paging.{AreRightAfter, AllRight}
use Rattle.mage_core.specs.Answered.{AreStates, AreTold}
use Rattle.mage_core.specs.Joined.{WasDeceived}
use Rattle.mage_core.specs.Begun.{StopsFirst, BeginsJoint}
use Rattle.mage_core.proofs.Starting.{if_found, get_within, all_get}
use Rattle.mage_core.proofs.Storing.{slots_so, fails_differs, spoils_differs}
use Rattle.mage_core.proofs.Ending.{handed_so, damaged_slot}
use Rattle.mage_core.proofs.Whole.{sight, some_one, driver_at, store_at}
use Rattle.mage_core.proofs.Answered.{none_beyond}
use Rattle.mage_core.proofs.Deciding.{SomeWrong, decide_first, never_wrong, sealed_there, untold_so, undamaged}
use Rattle.mage_core.proofs.Sufficing.{Leaves, leaves_all}
use Rattle.mage_core.proofs.Last.{Last, last_of, Was, IsSame, HasStopped, was_grown}
use Rattle.mage_core.proofs.Fronts.{EndsJoint, ends_joint, stops_first}
use Rattle.mage_core.proofs.Handed.{part_so, told_so, state_so}
use Rattle.mage_core.proofs.Beginning.{drivers, stores, seen_count, seen_at, of_each, back_between}

-- ---- sealed transfers

sealed_front : (written : List ℕ) (xs ys : List Transfer) → AreSealedAfter written (xs ++ ys) → AreSealedAfter written xs
sealed_front written [] ys h = tt
sealed_front written (Wrote page bytes ∷ xs) ys h = sealed_front bytes xs ys h
sealed_front written (Answered page bytes ∷ xs) ys h = (h.0, sealed_front written xs ys h.1)

none_there : (xs : List Transfer) (x : Transfer) → [] ≡ xs ++ x ∷ [] → ⊥
none_there [] x e = cc
none_there (y ∷ xs) x e = cc

-- what stands before the last of them
same_front : (xs ys : List Transfer) (x y : Transfer) → xs ++ x ∷ [] ≡ ys ++ y ∷ [] → xs ≡ ys
same_front [] [] x y e = refl
same_front [] (z ∷ ys) x y e = absurd (none_there ys y (let tails : [] ≡ ys ++ y ∷ [] = cc in tails))
same_front (z ∷ xs) [] x y e = absurd (none_there xs x (let tails : [] ≡ xs ++ x ∷ [] = sym (let t : xs ++ x ∷ [] ≡ [] = cc in t) in tails))
same_front (z ∷ xs) (w ∷ ys) x y e =
    let heads : z ≡ w = cc in
    let tails : xs ++ x ∷ [] ≡ ys ++ y ∷ [] = cc in
    ap (λ (l : List Transfer). z ∷ l) (same_front xs ys x y tails) ∙ ap (λ (t : Transfer). t ∷ ys) heads

-- a read that found damage was the last transfer of its page
damaged_last : (before after : PortTold) (slot : ℕ) (damage : Damage) (state : SlotState) → is_sound state ≡ true → Spoils before after slot damage state →
    (bytes : List ℕ) × (after.finished damage.page ≡ before.finished damage.page ++ Answered damage.page bytes ∷ [])
damaged_last before after slot damage Idle sound h = absurd h
damaged_last before after slot damage (AskedRead page) sound h =
    let lists = ap (λ (p : PortTold). p.finished damage.page) h.1.left in
    (h.0, lists ∙ go (damage.page == page) (eq-eqb damage.page page h.1.of_page))
  where
    go : (b : Bool) → b ≡ true → cond b (before.finished damage.page ++ Answered page h.0 ∷ []) (before.finished damage.page)
        ≡ before.finished damage.page ++ Answered damage.page h.0 ∷ []
    go true e = ap (λ (p : ℕ). before.finished damage.page ++ Answered p h.0 ∷ []) (sym h.1.of_page)
    go false e = absurd cc
damaged_last before after slot damage (AskedWrite page bytes) sound h = absurd h
damaged_last before after slot damage (HasFailed page) sound h = absurd h
damaged_last before after slot damage (IsDamaged found) sound h = absurd cc

-- ---- each of some numbers

decide_each : (A : ℕ → Type 0) (B : Type 0) → ((w : ℕ) → A w ⊎ B) → (count : ℕ) → ((w : ℕ) → w < count → A w) ⊎ B
decide_each A B decide zero = inl (λ w less. absurd (omega (arith, less)))
decide_each A B decide (suc count) = go (decide_each A B decide count) (decide count)
  where
    go : ((w : ℕ) → w < count → A w) ⊎ B → A count ⊎ B → ((w : ℕ) → w < suc count → A w) ⊎ B
    go (inr b) h = inr b
    go (inl below) (inr b) = inr b
    go (inl below) (inl here) = inl (λ w less. at w less (w == count) refl)
      where
        at : (w : ℕ) → w < suc count → (b : Bool) → (w == count) ≡ b → A w
        at w less true e = subst A (sym (eqb-true w count e)) here
        at w less false e = below w (let apart : w ≡ count → ⊥ = eqb-false w count e in omega (arith, less, apart))

-- ---- what comes back

module _ {W D S : Type 0} (rules : Rules W) (driver_tells : D → Told rules.State) (store_tells : S → StoreTold)
    (starts : List (Start rules.State)) (machines : List (RunMachine D S)) (links : QueueState) (result : Option RunFault)
    (ends : EndsAs rules starts (sights driver_tells store_tells machines) links result) (came : All (CameBy store_tells) machines) where
  abbrev ds : List (Told rules.State)
  ds = drivers rules driver_tells store_tells starts machines

  abbrev ss : List (List StoreTold)
  ss = stores rules driver_tells store_tells starts machines

  abbrev last : Last rules starts (sights driver_tells store_tells machines) result
  last = last_of rules starts (sights driver_tells store_tells machines) links result ends

  found_at : (w : ℕ) (m : RunMachine D S) → slice_get machines w ≡ Some m → slice_get (sights driver_tells store_tells machines) w ≡ Some (sight rules driver_tells store_tells m)
  found_at w m at = seen_at rules driver_tells store_tells starts machines w m at

  -- the machine of a worker before the last turn
  module _ (w : ℕ) (m : RunMachine D S) (at : slice_get machines w ≡ Some m) where
    abbrev now : Seen rules.State
    now = sight rules driver_tells store_tells m

    was : Was rules last.before result w now
    was = last.was w now (found_at w m at)

    gone : HasGone rules starts w last.links was.machine
    gone = if_found (HasGone rules starts w last.links)
        (slice_get last.before w) was.machine was.at
        (last.all w)

    grown : (page : ℕ) → IsPrefix (was.machine.port.finished page) (transfers_of m.port.port.made page)
    grown page = was_grown rules last.before result w now was page

    came_by : CameBy store_tells m
    came_by = all_get (CameBy store_tells) machines w m came at

    -- all of its transfers are sealed where no slot found damage of the page
    sealed_whole : (page : ℕ) → ((slot : ℕ) → is_damaged_at page (slot_state now.port slot) ≡ false) → AreSealed (was.machine.port.finished page)
    sealed_whole page none_found =
        sealed_front [] (was.machine.port.finished page) (grown page).0
        (subst AreSealed (sym (grown page).1) (came_by.over.sealed page none_found))

    unfound : (page slot : ℕ) → is_damaged_at page (slot_state was.machine.port slot) ≡ false
    unfound page slot = undamaged page (slot_state was.machine.port slot) (gone.going.slots slot)

    sealed_by : (page : ℕ) (by : MachineFault) → IsCause rules was.machine now by → AreSealed (was.machine.port.finished page)
    sealed_by page stops.Store cause =
        let failed = fails_differs was.machine.port now.port cause.0 (slot_state was.machine.port cause.0) (gone.going.slots cause.0) cause.2 in
        sealed_whole page (slots_so (λ (state : SlotState). is_damaged_at page state ≡ false) was.machine.port now.port cause.0 (HasFailed failed.0) failed.1 refl (unfound page))
    sealed_by page (stops.Driver f) cause =
        sealed_whole page (λ slot. ap (λ (x : Seen rules.State). is_damaged_at page (slot_state x.port slot)) cause.1 ∙ unfound page slot)
    sealed_by page (stops.Damaged damage) cause = go (damage.page == page) refl
      where
        go : (b : Bool) → (damage.page == page) ≡ b → AreSealed (was.machine.port.finished page)
        go false e =
            let spoiled = spoils_differs was.machine.port now.port cause.0 damage (slot_state was.machine.port cause.0) (gone.going.slots cause.0) cause.2 in
            sealed_whole page (slots_so (λ (state : SlotState). is_damaged_at page state ≡ false) was.machine.port now.port cause.0 (IsDamaged damage) spoiled.0 e (unfound page))
        go true e =
            let found = damaged_slot was.machine.port now.port cause.0 damage (slot_state was.machine.port cause.0) refl (gone.going.slots cause.0) cause.2 in
            let end = came_by.over.damaged cause.0 damage found.0 in
            let last = damaged_last was.machine.port now.port cause.0 damage (slot_state was.machine.port cause.0) (gone.going.slots cause.0) cause.2 in
            subst (λ (p : ℕ). AreSealed (was.machine.port.finished p)) (eqb-true damage.page page e)
            (subst AreSealed (sym (same_front (was.machine.port.finished damage.page) end.before (Answered damage.page last.0) (Answered damage.page end.bytes)
            (sym last.1 ∙ end.is))) end.sealed)

    sealed_was : (page : ℕ) → AreSealed (was.machine.port.finished page)
    sealed_was page = go was.ended
      where
        go : IsSame result w was.machine now ⊎ HasStopped rules result w was.machine now → AreSealed (was.machine.port.finished page)
        go (inl h) = sealed_whole page (λ slot. ap (λ (x : Seen rules.State). is_damaged_at page (slot_state x.port slot)) h.same ∙ unfound page slot)
        go (inr h) = sealed_by page h.by h.cause

    -- a wrong answer that was used
    deceived_here : SomeWrong was.machine.port.finished → WasDeceived starts ds ss
    deceived_here some =
        let wrong = some.wrong in
        let left = if_found (Leaves rules starts result w) (slice_get (sights driver_tells store_tells machines) w) now (found_at w m at)
        (leaves_all rules starts (sights driver_tells store_tells machines) links result ends w) in
        let start : left.start ≡ gone.start = some_one left.start gone.start (sym left.from ∙ gone.from) in
        record {
          worker = w;
          back = record {
            start = gone.start;
            driver = driver_tells m.driver;
            store = store_tells (store_of m);
            starts_so = gone.from;
            driver_so = driver_at rules driver_tells store_tells machines w m at;
            store_so = store_at rules driver_tells store_tells machines w m at;
          };
          untold = untold_so gone.start.store.pages was.machine.port.pages gone.going.store.pages
              (λ known. wrong.other (never_wrong [] wrong.before wrong.after wrong.page wrong.bytes
              (subst (λ (xs : List Transfer). AreRightAfter [] xs) wrong.is (gone.going.keeps.right known some.page))));
          made = m.port.port.made;
          gained = came_by.came.log ∙ ap (λ (s : StoreTold). option_map (λ earlier. earlier ++ m.port.port.made) s.log)
              (handed_so rules driver_tells store_tells left.start m left.handed ∙ ap (λ (s : Start rules.State). s.store) start);
          page = some.page;
          forged = record {
            before = wrong.before;
            after = wrong.after ++ (grown some.page).0;
            page = wrong.page;
            bytes = wrong.bytes;
            is = sym (grown some.page).1 ∙ ap (λ (l : List Transfer). l ++ (grown some.page).0) wrong.is
                ∙ append_assoc wrong.before (Answered wrong.page wrong.bytes ∷ wrong.after) (grown some.page).0;
            other = wrong.other;
            same = sealed_there [] wrong.before wrong.after wrong.page wrong.bytes (subst AreSealed wrong.is (sealed_was some.page));
          };
        }

    decide_found : AllRight was.machine.port.finished ⊎ WasDeceived starts ds ss
    decide_found = elim (decide_first m.port.port.made was.machine.port.finished grown) [
      | inl right ↦ inl right
      | inr some ↦ inr (deceived_here some)
    ]

  -- each answer of a worker that was used was right
  abbrev IsRight : ℕ → Type 0
  IsRight w = (x : Seen rules.State) → slice_get last.before w ≡ Some x → AllRight x.port.finished

  module _ (count : length machines ≡ length starts) where
    beside : (w : ℕ) → length machines ≤ w → IsRight w
    beside w past x is = absurd (
        let within = get_within last.before w x is in
        let long = last.count in
        let all = seen_count rules driver_tells store_tells starts machines count in
        omega (arith, past, within, long, all, count))

    decide_at : (w : ℕ) (found : Option (RunMachine D S)) → slice_get machines w ≡ found → IsRight w ⊎ WasDeceived starts ds ss
    decide_at w None is = inl (beside w (none_beyond machines w is))
    decide_at w (Some m) is = elim (decide_found w m is) [
      | inl right ↦ inl (λ x at. subst (λ (y : Seen rules.State). AllRight y.port.finished) (some_one (was w m is).machine x (sym (was w m is).at ∙ at)) right)
      | inr deceived ↦ inr deceived
    ]

    decide_all : ((w : ℕ) → IsRight w) ⊎ WasDeceived starts ds ss
    decide_all = elim (decide_each IsRight (WasDeceived starts ds ss) (λ w. decide_at w (slice_get machines w) refl) (length machines)) [
      | inl below ↦ inl (λ w. elim (cases_lt w (length machines)) [
        | inl less ↦ below w less
        | inr past ↦ beside w past
      ])
      | inr deceived ↦ inr deceived
    ]

  module _ (lawful : AreLawful rules) (count : length machines ≡ length starts) (plan : MemProgram) (fine : IsMemProgram plan) (none : fault_of plan ≡ None)
      (parts : map (λ (start : Start rules.State). start.part) starts ≡ parts_of plan) (states : ℕ → rules.State) (are : AreStates starts states) (told : AreTold starts) where
    ends_at : (right : (w : ℕ) → IsRight w) (w : ℕ) (m : RunMachine D S) → slice_get machines w ≡ Some m →
        EndsJoint rules lawful plan states starts (part_so rules starts plan parts) (told_so rules starts told) (state_so rules starts states are)
        (sights driver_tells store_tells machines) result last (seen_count rules driver_tells store_tells starts machines count) right w (sight rules driver_tells store_tells m)
    ends_at right w m at =
        ends_joint rules lawful plan states starts (part_so rules starts plan parts) (told_so rules starts told) (state_so rules starts states are)
        (sights driver_tells store_tells machines) result last (seen_count rules driver_tells store_tells starts machines count) right
        fine none w (sight rules driver_tells store_tells m) (found_at w m at)

    joint_so : ((w : ℕ) → IsRight w) → BeginsJoint rules plan states starts ds ss result
    joint_so right = record {
      grows = λ w back. let of = of_each rules driver_tells store_tells starts machines links result ends came w back in
          back_between rules driver_tells store_tells starts machines links result ends came states are w back
          (joint_after rules plan states (verified_turns plan.workers) w).state.engine.driver (ends_at right w of.machine of.at).ends.between;
      caused = λ w f e back. let of = of_each rules driver_tells store_tells starts machines links result ends came w back in
          subst (λ (d : Told rules.State). StopsFirst rules (said_in (joint_after rules plan states (verified_turns plan.workers) w).past) f d.state) of.driver
          (stops_first rules lawful plan states starts (part_so rules starts plan parts) (told_so rules starts told) (state_so rules starts states are)
          (sights driver_tells store_tells machines) result last (seen_count rules driver_tells store_tells starts machines count) right
          w (sight rules driver_tells store_tells of.machine) (ends_at right w of.machine of.at) f e);
    }

    pub begins_or_deceived : BeginsJoint rules plan states starts ds ss result ⊎ WasDeceived starts ds ss
    begins_or_deceived = elim (decide_all count) [
      | inl right ↦ inl (joint_so right)
      | inr deceived ↦ inr deceived
    ]
