-- What the machines of a run were before the turn in which it ended.
use Rattle.std.proofs.lemmas.List.{length-set}
use Rattle.std.proofs.Common.{◌≡◌, ◌≢◌, ◌++◌, ◌==◌, ◌⊎◌, inl, inr, ℕ, zero, suc, Bool, true, false, cond, List, [], ◌∷◌, length, set, Option, None, Some, slice_get, append-nil, refl, sym, ap, ◌∙◌, subst, arith}
use Rattle.mage_base.specs.Store.{Transfer, Wrote, Answered}
use Rattle.mage_base.specs.declared.failure.Damage.{Damage}
use Rattle.mage_instr.specs.declared.fault.DriverFault.{DriverFault}
use Rattle.mage_instr.specs.declared.fault.MachineFault.{MachineFault}
use Rattle.mage_instr.specs.declared.fault.MachineFault.TheVariants as stops
use Rattle.mage_network.specs.Pasts.{IsPrefix}
use Rattle.mage_network.specs.Workers as net
use Rattle.mage_network.specs.Workers.{Moves}
use Rattle.mage_network.specs.Slots.{Acts, Asks, Finishes_read, Finishes_write}
use Rattle.mage_steps.specs.Engines.{Engine, Next}
use Rattle.mage_driver.specs.Rules.{Rules}
use Rattle.mage_driver.specs.Calls.{Call, SomeStops}
use Rattle.mage_link.specs.Queues.{QueueState, queue_told}
use Rattle.mage_port.specs.Port.{PortTold, SlotState, Idle, AskedRead, AskedWrite, HasFailed, IsDamaged, slot_state, with_transfer, Fails, Spoils}
use Rattle.mage_engine.specs.Seen.{Seen}
use Rattle.mage_engine.specs.Steps.{IsCause, IsFall, answers_in, calls_of}
use Rattle.mage_core.specs.declared.fault.RunFault.{RunFault}
use Rattle.mage_core.specs.declared.fault.RunFault.TheVariants as fault
use Rattle.mage_core.specs.Turns.{run_fault, Falls}
use Rattle.mage_core.specs.Going.{Start, HasGone, AllGo, NoOthersSend, EndsAs}
use Rattle.mage_core.proofs.Starting.{if_found}
use Rattle.mage_core.proofs.Whole.{some_one}
use Rattle.mage_core.proofs.Answered.{none_beyond}

-- ---- lists

set_place : {X : Type 0} (xs : List X) (k w : ℕ) (y z : X) → slice_get (set xs k y) w ≡ Some z → ((slice_get xs w ≡ Some z) × (w ≢ k)) ⊎ ((z ≡ y) × (w ≡ k))
set_place [] zero zero y z e = absurd cc
set_place [] zero (suc w) y z e = absurd cc
set_place [] (suc k) zero y z e = absurd cc
set_place [] (suc k) (suc w) y z e = absurd cc
set_place (x ∷ xs) zero zero y z e = inr (sym (some_one y z e), refl)
set_place (x ∷ xs) zero (suc w) y z e = inl (e, omega arith)
set_place (x ∷ xs) (suc k) zero y z e = inl (e, omega arith)
set_place {X} (x ∷ xs) (suc k) (suc w) y z e = deeper (set_place xs k w y z e)
  where
    deeper : ((slice_get xs w ≡ Some z) × (w ≢ k)) ⊎ ((z ≡ y) × (w ≡ k)) → ((slice_get (x ∷ xs) (suc w) ≡ Some z) × (suc w ≢ suc k)) ⊎ ((z ≡ y) × (suc w ≡ suc k))
    deeper (inl h) = inl (h.0, let apart = h.1 in omega (arith, apart))
    deeper (inr h) = inr (h.0, ap suc h.1)

begins_itself : {X : Type 0} (xs : List X) → IsPrefix xs xs
begins_itself xs = ([], append-nil xs)

answers_after : (xs ys : List Transfer) → answers_in (xs ++ ys) ≡ answers_in xs ++ answers_in ys
answers_after [] ys = refl
answers_after (Wrote page bytes ∷ xs) ys = answers_after xs ys
answers_after (Answered page bytes ∷ xs) ys = ap (λ (l : List (List ℕ)). bytes ∷ l) (answers_after xs ys)

-- the answers among transfers that come first are the first answers
pub first_answers : (xs ys : List Transfer) → IsPrefix xs ys → IsPrefix (answers_in xs) (answers_in ys)
first_answers xs ys begins = (answers_in begins.0, sym (answers_after xs begins.0) ∙ ap answers_in begins.1)

-- ---- one machine

names_worker : (by : MachineFault) (worker w : ℕ) (f : DriverFault) → run_fault worker by ≡ fault.Driver w f → worker ≡ w
names_worker stops.Store worker w f e = absurd cc
names_worker (stops.Driver g) worker w f e = cc
names_worker (stops.Damaged damage) worker w f e = absurd cc

cause_of : {W : Type 0} (rules : Rules W) (was : Option MachineFault) (old new : Seen rules.State) (f : MachineFault) → was ≡ None → IsFall rules old new was f →
    IsCause rules old new f
cause_of rules None old new f e h = h
cause_of rules (Some other) old new f e h = absurd cc

-- it is as it was, and no run stopped for its driver
pub record IsSame {X : Type 0} (result : Option RunFault) (worker : ℕ) (was now : Seen X) : Type 0 where
  pub same : now ≡ was
  pub unstopped : (f : DriverFault) → result ≡ Some (fault.Driver worker f) → ⊥

-- or it stopped, and the run with it
pub record HasStopped {W : Type 0} (rules : Rules W) (result : Option RunFault) (worker : ℕ) (was now : Seen rules.State) : Type 0 where
  pub by : MachineFault
  pub is : result ≡ Some (run_fault worker by)
  pub cause : IsCause rules was now by

-- ---- its transfers

module _ (before after : PortTold) where
  abbrev Grown : Type 0
  Grown = (page : ℕ) → IsPrefix (before.finished page) (after.finished page)

  same_lists : (after.finished ≡ before.finished) → Grown
  same_lists e page = ([], append-nil (before.finished page) ∙ ap (λ (lists : ℕ → List Transfer). lists page) (sym e))

  one_list : (asked : ℕ) (transfer : Transfer) → after.finished ≡ with_transfer before.finished asked transfer → Grown
  one_list asked transfer e page = go (page == asked) (ap (λ (lists : ℕ → List Transfer). lists page) e)
    where
      go : (b : Bool) → after.finished page ≡ cond b (before.finished page ++ transfer ∷ []) (before.finished page) → IsPrefix (before.finished page) (after.finished page)
      go true is = (transfer ∷ [], sym is)
      go false is = ([], append-nil (before.finished page) ∙ sym is)

  fails_grown : (slot : ℕ) (state : SlotState) → Fails before after slot state → Grown
  fails_grown slot Idle h = absurd h
  fails_grown slot (AskedRead page) h = same_lists (ap (λ (p : PortTold). p.finished) h)
  fails_grown slot (AskedWrite page bytes) h = same_lists (ap (λ (p : PortTold). p.finished) h.1)
  fails_grown slot (HasFailed page) h = same_lists (ap (λ (p : PortTold). p.finished) h)
  fails_grown slot (IsDamaged damage) h = absurd h

  spoils_grown : (slot : ℕ) (damage : Damage) (state : SlotState) → Spoils before after slot damage state → Grown
  spoils_grown slot damage Idle h = absurd h
  spoils_grown slot damage (AskedRead page) h = one_list page (Answered page h.0) (ap (λ (p : PortTold). p.finished) h.1.left)
  spoils_grown slot damage (AskedWrite page bytes) h = absurd h
  spoils_grown slot damage (HasFailed page) h = absurd h
  spoils_grown slot damage (IsDamaged found) h = same_lists (ap (λ (p : PortTold). p.finished) h.1)

-- no transfer that was finished is lost
cause_grown : {W : Type 0} (rules : Rules W) (was now : Seen rules.State) (by : MachineFault) → IsCause rules was now by →
    (page : ℕ) → IsPrefix (was.port.finished page) (now.port.finished page)
cause_grown rules was now stops.Store h = fails_grown was.port now.port h.0 (slot_state was.port h.0) h.2
cause_grown rules was now (stops.Driver f) h = same_lists was.port now.port (ap (λ (m : Seen rules.State). m.port.finished) h.1)
cause_grown rules was now (stops.Damaged damage) h = spoils_grown was.port now.port h.0 damage (slot_state was.port h.0) h.2

-- a driver that didn't stop stands where it stood
same_driver : {W : Type 0} (rules : Rules W) (was now : Seen rules.State) → (by : MachineFault) → ((f : DriverFault) → by ≡ stops.Driver f → ⊥) →
    IsCause rules was now by → now.driver.state ≡ was.driver.state
same_driver rules was now stops.Store other h = ap (λ (m : Seen rules.State). m.driver.state) h.3
same_driver rules was now (stops.Driver f) other h = absurd (other f refl)
same_driver rules was now (stops.Damaged damage) other h = ap (λ (m : Seen rules.State). m.driver.state) h.3

not_of_driver : (by : MachineFault) → ((f : DriverFault) → by ≡ stops.Driver f → ⊥) → (w : ℕ) (g : DriverFault) (result : Option RunFault) →
    result ≡ Some (run_fault w by) → result ≡ Some (fault.Driver w g) → ⊥
not_of_driver stops.Store other w g result e h = absurd (let never : Some (fault.Store w) ≡ Some (fault.Driver w g) = sym e ∙ h in cc)
not_of_driver (stops.Driver f) other w g result e h = other f refl
not_of_driver (stops.Damaged damage) other w g result e h = absurd (let never : Some (fault.Damaged w damage) ≡ Some (fault.Driver w g) = sym e ∙ h in cc)

-- by whether the driver was stopped
pub ended_cases : {W : Type 0} (rules : Rules W) (result : Option RunFault) (worker : ℕ) (was now : Seen rules.State) (P : Type 0) →
    (now.driver.state ≡ was.driver.state → ((f : DriverFault) → result ≡ Some (fault.Driver worker f) → ⊥) → P) →
    ((f : DriverFault) → result ≡ Some (run_fault worker (stops.Driver f)) → IsCause rules was now (stops.Driver f) → P) →
    IsSame result worker was now ⊎ HasStopped rules result worker was now → P
ended_cases rules result worker was now P still stopped (inl h) = still (ap (λ (m : Seen rules.State). m.driver.state) h.same) h.unstopped
ended_cases rules result worker was now P still stopped (inr h) = by_fault h.by h.is h.cause
  where
    by_fault : (by : MachineFault) → result ≡ Some (run_fault worker by) → IsCause rules was now by → P
    by_fault stops.Store e cause =
        still (same_driver rules was now stops.Store (λ f k. absurd cc) cause) (λ f. not_of_driver stops.Store (λ g k. absurd cc) worker f result e)
    by_fault (stops.Driver f) e cause = stopped f e cause
    by_fault (stops.Damaged damage) e cause =
        still (same_driver rules was now (stops.Damaged damage) (λ f k. absurd cc) cause) (λ f. not_of_driver (stops.Damaged damage) (λ g k. absurd cc) worker f result e)

-- a driver is stopped only where the engine moves
pub stopped_moves : {W : Type 0} (rules : Rules W) (P : Type 0) (d : Next rules) (f : DriverFault) (after : rules.State) → SomeStops rules (calls_of rules d) f after →
    ((step : List (Call rules.State W)) (to : Engine rules.State) → d ≡ Acts (Moves step to) → SomeStops rules step f after → P) → P
stopped_moves rules P (Acts (Moves step to)) f after stopped goes = goes step to refl stopped
stopped_moves rules P (Acts (net.Sends target wire to)) f after stopped goes = absurd stopped
stopped_moves rules P (Acts (net.Takes source to)) f after stopped goes = absurd stopped
stopped_moves rules P (Acts net.Stops) f after stopped goes = absurd stopped
stopped_moves rules P (Asks slot transfer to) f after stopped goes = absurd stopped
stopped_moves rules P (Finishes_read slot to) f after stopped goes = absurd stopped
stopped_moves rules P (Finishes_write slot to) f after stopped goes = absurd stopped

-- ---- all machines

module _ {W : Type 0} (rules : Rules W) where
  -- the machine of a worker before the last turn
  pub record Was (before : List (Seen rules.State)) (result : Option RunFault) (worker : ℕ) (now : Seen rules.State) : Type 0 where
    pub machine : Seen rules.State
    pub at : slice_get before worker ≡ Some machine
    pub ended : IsSame result worker machine now ⊎ HasStopped rules result worker machine now

  pub was_grown : (before : List (Seen rules.State)) (result : Option RunFault) (worker : ℕ) (now : Seen rules.State) (was : Was before result worker now) →
      (page : ℕ) → IsPrefix (was.machine.port.finished page) (now.port.finished page)
  was_grown before result worker now was = go was.ended
    where
      go : IsSame result worker was.machine now ⊎ HasStopped rules result worker was.machine now → (page : ℕ) → IsPrefix (was.machine.port.finished page) (now.port.finished page)
      go (inl h) page = subst (λ (m : Seen rules.State). IsPrefix (was.machine.port.finished page) (m.port.finished page)) (sym h.same) (begins_itself (was.machine.port.finished page))
      go (inr h) page = cause_grown rules was.machine now h.by h.cause page

  module _ (starts : List (Start rules.State)) where
    pub record Last (machines : List (Seen rules.State)) (result : Option RunFault) : Type 0 where
      pub before : List (Seen rules.State)
      pub links : QueueState
      pub all : AllGo rules starts before links
      pub quiet : NoOthersSend rules starts links
      pub count : length before ≡ length machines
      pub was : (w : ℕ) (now : Seen rules.State) → slice_get machines w ≡ Some now → Was before result w now

    falls_last : (machines : List (Seen rules.State)) (links : QueueState) (found : RunFault) (before : List (Seen rules.State)) (old : QueueState) →
        AllGo rules starts before old → Falls rules before machines old links found → NoOthersSend rules starts old → Last machines (Some found)
    falls_last machines links found before old all f quiet = record {
      before = before;
      links = old;
      all = all;
      quiet = quiet;
      count = sym (length-set before f.worker f.next) ∙ ap (λ (l : List (Seen rules.State)). length l) (sym f.sets);
      was = λ w now at. by_place w now (set_place before f.worker w f.next now (ap (λ (l : List (Seen rules.State)). slice_get l w) (sym f.sets) ∙ at));
    }
      where
        by_place : (w : ℕ) (now : Seen rules.State) → ((slice_get before w ≡ Some now) × (w ≢ f.worker)) ⊎ ((now ≡ f.next) × (w ≡ f.worker)) → Was before (Some found) w now
        by_place w now (inl old_at) = record {
          machine = now;
          at = old_at.0;
          ended = inl (record {
            same = refl;
            unstopped = λ g e. old_at.1 (sym (names_worker f.stopped_by f.worker w g (sym f.is ∙ some_one found (fault.Driver w g) e)));
          });
        }
        by_place w now (inr new) =
            let at : slice_get before w ≡ Some f.machine = subst (λ k. slice_get before k ≡ Some f.machine) (sym new.1) f.at in
            let gone = if_found (HasGone rules starts w old) (slice_get before w) f.machine at (all w) in
            record {
              machine = f.machine;
              at = at;
              ended = inr (record {
                by = f.stopped_by;
                is = ap (λ (r : RunFault). Some r) f.is ∙ ap (λ k. Some (run_fault k f.stopped_by)) (sym new.1);
                cause = subst (λ (m : Seen rules.State). IsCause rules f.machine m f.stopped_by) (sym new.0)
                    (cause_of rules f.machine.fault f.machine f.next f.stopped_by gone.going.sound f.falls);
              });
            }

    pub last_of : (machines : List (Seen rules.State)) (links : QueueState) (result : Option RunFault) → EndsAs rules starts machines links result → Last machines result
    last_of machines links None ends = record {
      before = machines;
      links = links;
      all = ends.0;
      quiet = ends.2;
      count = refl;
      was = λ w now at. record { machine = now; at = at; ended = inl (record { same = refl; unstopped = λ f e. absurd cc }) };
    }
    last_of machines links (Some found) ends = falls_last machines links found ends.0 ends.1 ends.2 ends.3 ends.4

    -- beside the workers nobody sent
    pub nobody_beyond : (machines : List (Seen rules.State)) (result : Option RunFault) (last : Last machines result) → length machines ≡ length starts →
        (m n : ℕ) → slice_get last.before n ≡ None → (queue_told last.links).sent n m ≡ []
    nobody_beyond machines result last count m n is =
        let past = none_beyond last.before n is in
        let long = last.count in
        last.quiet n m (omega (arith, past, long, count))
