-- What stays of each worker, however a run ends.
use Rattle.std.proofs.Common.{◌≡◌, ◌≤◌, ◌+◌, ◌++◌, ◌⊎◌, inl, inr, ℕ, zero, suc, List, [], ◌∷◌, map, set, Option, None, Some, slice_get, refl, sym, ap, ◌∙◌, subst, arith}
use Rattle.std.proofs.lemmas.List.{append-nil}
use Rattle.std.specs.List.{All}
use Rattle.std.specs.Option.{option_map}
use Rattle.mage_base.specs.Store.{StoreTold, Transfer}
use Rattle.mage_base.specs.declared.failure.Damage.{Damage}
use Rattle.mage_instr.specs.declared.fault.MachineFault.{MachineFault}
use Rattle.mage_instr.specs.declared.fault.MachineFault.TheVariants as stops
use Rattle.mage_driver.specs.Rules.{Rules}
use Rattle.mage_driver.specs.Calls.{Told}
use Rattle.mage_link.specs.Queues.{QueueState}
use Rattle.mage_port.specs.Port.{PortTold, SlotState, Idle, AskedRead, AskedWrite, HasFailed, IsDamaged, slot_state, Fails, Spoils}
use Rattle.mage_verify.specs.Parts.{WorkerPart}
use Rattle.mage_engine.specs.Seen.{Seen}
use Rattle.mage_engine.specs.Steps.{IsCause, IsFall}
use Rattle.mage_core.specs.declared.fault.RunFault.{RunFault}
use Rattle.mage_core.specs.Ports.{RunMachine, port_tells, store_of, first_of, CameBy}
use Rattle.mage_core.specs.Turns.{sights}
use Rattle.mage_core.specs.Going.{Start, IsGoing, HasGone, EndsAs}
use Rattle.mage_core.specs.Results.{starts_of, Back, Grew, Stays, AllStay}
use Rattle.mage_core.proofs.Starting.{if_found, map_get, all_get}
use Rattle.mage_core.proofs.Ending.{handed_so}
use Rattle.mage_core.proofs.Whole.{unmap, some_one, head_one, driver_at, store_at, drivers_in, stores_in, sight}

-- ---- ports

-- the counts of a port didn't fall, and it was made over the same store
record Counts (before after : PortTold) : Type 0 where
  reads : before.reads ≤ after.reads
  writes : before.writes ≤ after.writes
  handed : after.handed_in ≡ before.handed_in

same_counts : (before after : PortTold) → after.reads ≡ before.reads → after.writes ≡ before.writes → after.handed_in ≡ before.handed_in → Counts before after
same_counts before after r w h = record { reads = omega (arith, r); writes = omega (arith, w); handed = h }

same_port : (before after : PortTold) → after ≡ before → Counts before after
same_port before after e = same_counts before after (ap (λ (p : PortTold). p.reads) e) (ap (λ (p : PortTold). p.writes) e) (ap (λ (p : PortTold). p.handed_in) e)

failed_counts : (before after : PortTold) (slot : ℕ) (state : SlotState) → Fails before after slot state → Counts before after
failed_counts before after slot Idle h = absurd h
failed_counts before after slot (AskedRead page) h =
    same_counts before after (ap (λ (p : PortTold). p.reads) h) (ap (λ (p : PortTold). p.writes) h) (ap (λ (p : PortTold). p.handed_in) h)
failed_counts before after slot (AskedWrite page bytes) h =
    same_counts before after (ap (λ (p : PortTold). p.reads) h.1) (ap (λ (p : PortTold). p.writes) h.1) (ap (λ (p : PortTold). p.handed_in) h.1)
failed_counts before after slot (HasFailed page) h = same_port before after h
failed_counts before after slot (IsDamaged damage) h = absurd h

spoiled_counts : (before after : PortTold) (slot : ℕ) (damage : Damage) (state : SlotState) → Spoils before after slot damage state → Counts before after
spoiled_counts before after slot damage Idle h = absurd h
spoiled_counts before after slot damage (AskedRead page) h =
    let reads : after.reads ≡ before.reads + 1 = ap (λ (p : PortTold). p.reads) h.1.left in
    let writes : after.writes ≡ before.writes = ap (λ (p : PortTold). p.writes) h.1.left in
    record { reads = omega (arith, reads); writes = omega (arith, writes); handed = ap (λ (p : PortTold). p.handed_in) h.1.left }
spoiled_counts before after slot damage (AskedWrite page bytes) h = absurd h
spoiled_counts before after slot damage (HasFailed page) h = absurd h
spoiled_counts before after slot damage (IsDamaged found) h = same_port before after h.1

-- so it is with a machine's port, and its driver tells as much
record Behind {X : Type 0} (before after : Seen X) : Type 0 where
  counts : Counts before.port after.port
  told : after.driver.told ≡ before.driver.told

cause_behind : {W : Type 0} (rules : Rules W) (old new : Seen rules.State) (f : MachineFault) → IsCause rules old new f → Behind old new
cause_behind rules old new stops.Store h = record {
  counts = failed_counts old.port new.port h.0 (slot_state old.port h.0) h.2;
  told = ap (λ (m : Seen rules.State). m.driver.told) h.3;
}
cause_behind rules old new (stops.Damaged damage) h = record {
  counts = spoiled_counts old.port new.port h.0 damage (slot_state old.port h.0) h.2;
  told = ap (λ (m : Seen rules.State). m.driver.told) h.3;
}
cause_behind rules old new (stops.Driver f) h = record {
  counts = same_port old.port new.port (ap (λ (m : Seen rules.State). m.port) h.1);
  told = h.0.told;
}

same_machine : {X : Type 0} (before after : Seen X) → after ≡ before → Behind before after
same_machine {X} before after e = record {
  counts = same_port before.port after.port (ap (λ (m : Seen X). m.port) e);
  told = ap (λ (m : Seen X). m.driver.told) e;
}

-- ---- lists

set_cases : {X : Type 0} (xs : List X) (k w : ℕ) (y z : X) → slice_get (set xs k y) w ≡ Some z → (slice_get xs w ≡ Some z) ⊎ ((z ≡ y) × (w ≡ k))
set_cases [] zero zero y z e = absurd cc
set_cases [] zero (suc w) y z e = absurd cc
set_cases [] (suc k) zero y z e = absurd cc
set_cases [] (suc k) (suc w) y z e = absurd cc
set_cases (x ∷ xs) zero zero y z e = inr (sym (some_one y z e), refl)
set_cases (x ∷ xs) zero (suc w) y z e = inl e
set_cases (x ∷ xs) (suc k) zero y z e = inl e
set_cases {X} (x ∷ xs) (suc k) (suc w) y z e = deeper (set_cases xs k w y z e)
  where
    deeper : (slice_get xs w ≡ Some z) ⊎ ((z ≡ y) × (w ≡ k)) → (slice_get (x ∷ xs) (suc w) ≡ Some z) ⊎ ((z ≡ y) × (suc w ≡ suc k))
    deeper (inl h) = inl h
    deeper (inr h) = inr (h.0, ap suc h.1)

no_more : (log : Option (List Transfer)) → log ≡ option_map (λ earlier. earlier ++ []) log
no_more None = refl
no_more (Some log) = ap (λ (l : List Transfer). Some l) (sym (append-nil log))

-- a store that tells the same grew by nothing
pub grew_none : (store : StoreTold) → Grew store store
grew_none store = record { reads = omega arith; writes = omega arith; faults = omega arith; log = ([], no_more store.log) }

-- the driver and the first store of a worker
first_of_each : {S : Type 0} (ps : List WorkerPart) (ds : List (Told S)) (ss : List (List StoreTold)) (w : ℕ) (start : Start S) →
    slice_get (starts_of ps ds ss) w ≡ Some start →
    (rest : List StoreTold) × (slice_get ss w ≡ Some (start.store ∷ rest)) × (slice_get ds w ≡ Some start.driver)
first_of_each [] ds ss zero start e = absurd cc
first_of_each [] ds ss (suc w) start e = absurd cc
first_of_each (p ∷ ps) [] ss zero start e = absurd cc
first_of_each (p ∷ ps) [] ss (suc w) start e = absurd cc
first_of_each (p ∷ ps) (d ∷ ds) [] zero start e = absurd cc
first_of_each (p ∷ ps) (d ∷ ds) [] (suc w) start e = absurd cc
first_of_each (p ∷ ps) (d ∷ ds) ([] ∷ ss) zero start e = absurd cc
first_of_each (p ∷ ps) (d ∷ ds) ([] ∷ ss) (suc w) start e = absurd cc
first_of_each {S} (p ∷ ps) (d ∷ ds) ((s ∷ rest) ∷ ss) zero start e =
    let same : ◌≡◌ {A = Start S} (record { part = p; driver = d; store = s }) start = some_one _ start e in
    (rest, ap (λ (x : Start S). Some (x.store ∷ rest)) same, ap (λ (x : Start S). Some x.driver) same)
first_of_each (p ∷ ps) (d ∷ ds) ((s ∷ rest) ∷ ss) (suc w) start e = first_of_each ps ds ss w start e

heads : (x y : StoreTold) (rest : List StoreTold) → Some (x ∷ rest) ≡ Some (y ∷ []) → x ≡ y
heads x y rest e = cc

-- where all drivers and stores are as they were
pub same_all : {S : Type 0} (ps : List WorkerPart) (ds now : List (Told S)) (before after : List (List StoreTold)) → now ≡ ds → after ≡ before →
    AllStay (starts_of ps ds before) now after
same_all {S} ps ds now before after are is w back =
    let first = first_of_each ps ds before w back.start back.starts_so in
    let same : back.start.store ≡ back.store = heads back.start.store back.store first.0
    (sym first.1 ∙ ap (λ (l : List (List StoreTold)). slice_get l w) (sym is) ∙ back.store_so) in
    let driver : back.driver ≡ back.start.driver = some_one back.driver back.start.driver
    (sym back.driver_so ∙ ap (λ (l : List (Told S)). slice_get l w) are ∙ first.2) in record {
      grew = subst (λ (s : StoreTold). Grew back.start.store s) same (grew_none back.start.store);
      told = ap (λ (d : Told S). d.told) driver;
    }

-- ---- machines

module _ {W D S : Type 0} (rules : Rules W) (driver_tells : D → Told rules.State) (store_tells : S → StoreTold) where
  -- one whose port stands behind that of a machine that has gone some way
  grew_behind : (start : Start rules.State) (worker : ℕ) (links : QueueState) (before : Seen rules.State) (machine : RunMachine D S) →
      IsGoing rules start worker links before → Counts before.port (port_tells store_tells machine.port) → CameBy store_tells machine →
      Grew start.store (store_tells (store_of machine))
  grew_behind start worker links before machine g counts came =
      let first : store_tells (first_of machine) ≡ start.store = handed_so rules driver_tells store_tells start machine (counts.handed ∙ g.handed) in
      let was_read = g.reads in
      let was_written = g.writes in
      let reads : before.port.reads ≤ (store_tells (store_of machine)).reads = counts.reads in
      let writes : before.port.writes ≤ (store_tells (store_of machine)).writes = counts.writes in record {
        reads = omega (arith, was_read, reads);
        writes = omega (arith, was_written, writes);
        faults = subst (λ (s : StoreTold). s.faults ≤ (store_tells (store_of machine)).faults) first came.came.grown;
        log = (
          machine.port.port.made,
          came.came.log ∙ ap (λ (s : StoreTold). option_map (λ earlier. earlier ++ machine.port.port.made) s.log) first,
        );
      }

  abbrev seen_of : RunMachine D S → Seen rules.State
  seen_of machine = sight rules driver_tells store_tells machine

  cause_of : (before next : Seen rules.State) (f : MachineFault) (was : Option MachineFault) → was ≡ None → IsFall rules before next was f → IsCause rules before next f
  cause_of before next f None e h = h
  cause_of before next f (Some other) e h = absurd cc

  module _ (starts : List (Start rules.State)) (machines : List (RunMachine D S)) (came : All (CameBy store_tells) machines) where
    abbrev Kept : ℕ → Type 0
    Kept w = Back starts (drivers_in rules driver_tells store_tells machines) (stores_in rules driver_tells store_tells machines) w

    here : (w : ℕ) → Kept w → (m : RunMachine D S) × (slice_get machines w ≡ Some m)
    here w back =
        let of_driver = unmap driver_tells (map (λ machine. machine.driver) machines) w back.driver back.driver_so in
        let of = unmap (λ (m : RunMachine D S). m.driver) machines w of_driver.0 of_driver.1 in (of.0, of.1)

    -- of a machine that stands behind one that has gone
    stays_behind : (w : ℕ) (back : Kept w) (links : QueueState) (before : Seen rules.State) → HasGone rules starts w links before →
        Behind before (seen_of (here w back).0) → Stays back.start back.driver back.store
    stays_behind w back links before gone behind =
        let m = (here w back).0 in
        let at : slice_get machines w ≡ Some m = (here w back).1 in
        let grown = grew_behind gone.start w links before m gone.going behind.counts (all_get (CameBy store_tells) machines w m came at) in
        let start : gone.start ≡ back.start = some_one gone.start back.start (sym gone.from ∙ back.starts_so) in
        let store : store_tells (store_of m) ≡ back.store = head_one _ _ (sym (store_at rules driver_tells store_tells machines w m at) ∙ back.store_so) in
        let driver : driver_tells m.driver ≡ back.driver = some_one _ _ (sym (driver_at rules driver_tells store_tells machines w m at) ∙ back.driver_so) in record {
          grew = subst (λ (s : Start rules.State). Grew s.store back.store) start (subst (λ (s : StoreTold). Grew gone.start.store s) store grown);
          told = ap (λ (d : Told rules.State). d.told) (sym driver) ∙ behind.told ∙ gone.going.told ∙ ap (λ (s : Start rules.State). s.driver.told) start;
        }

    pub stays_so : (links : QueueState) (result : Option RunFault) → EndsAs rules starts (sights driver_tells store_tells machines) links result →
        AllStay starts (drivers_in rules driver_tells store_tells machines) (stores_in rules driver_tells store_tells machines)
    stays_so links None ends w back =
        let m = here w back in
        stays_behind w back links (seen_of m.0)
        (if_found (HasGone rules starts w links) _ (seen_of m.0) (map_get (sight rules driver_tells store_tells) machines w m.0 m.1) (ends.0 w))
        (same_machine (seen_of m.0) (seen_of m.0) refl)
    stays_so links (Some found) ends w back =
        by_place (set_cases ends.0 ends.3.worker w ends.3.next (seen_of (here w back).0)
        (ap (λ (l : List (Seen rules.State)). slice_get l w) (sym ends.3.sets) ∙ map_get (sight rules driver_tells store_tells) machines w (here w back).0 (here w back).1))
      where
        by_place : (slice_get ends.0 w ≡ Some (seen_of (here w back).0)) ⊎ ((seen_of (here w back).0 ≡ ends.3.next) × (w ≡ ends.3.worker)) →
            Stays back.start back.driver back.store
        by_place (inl old) =
            stays_behind w back ends.1 (seen_of (here w back).0)
            (if_found (HasGone rules starts w ends.1) _ (seen_of (here w back).0) old (ends.2 w))
            (same_machine (seen_of (here w back).0) (seen_of (here w back).0) refl)
        by_place (inr new) =
            let at : slice_get ends.0 w ≡ Some ends.3.machine = subst (λ k. slice_get ends.0 k ≡ Some ends.3.machine) (sym new.1) ends.3.at in
            let gone = if_found (HasGone rules starts w ends.1) _ ends.3.machine at (ends.2 w) in
            stays_behind w back ends.1 ends.3.machine gone
            (subst (Behind ends.3.machine) (sym new.0) (cause_behind rules ends.3.machine ends.3.next ends.3.stopped_by
            (cause_of ends.3.machine ends.3.next ends.3.stopped_by ends.3.machine.fault gone.going.sound ends.3.falls)))
