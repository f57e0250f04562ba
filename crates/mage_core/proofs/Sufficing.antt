-- What stopped a run, and what its stores tell in the end.
use Rattle.std.proofs.Common.{◌≡◌, ◌<◌, ◌≤◌, ◌+◌, ◌++◌, inl, inr, ℕ, zero, suc, true, false, List, [], ◌∷◌, length, map, take, Option, None, Some, Err, slice_get, refl, sym, ap, ◌∙◌, subst, arith}
use Rattle.std.specs.Prelude.{IfSome, IsTrue, is_some}
use Rattle.std.specs.List.{All}
use Rattle.std.proofs.lemmas.List.Elements.{All-contains}
use Rattle.mage_base.specs.Faults.{top}
use Rattle.mage_base.specs.Store.{StoreTold, Pages, Transfer}
use Rattle.mage_base.specs.declared.failure.Damage.{Damage}
use Rattle.mage_instr.specs.declared.directive.Directive.{Directive}
use Rattle.mage_instr.specs.declared.directive.Directive.TheVariants as entry
use Rattle.mage_instr.specs.declared.fault.DriverFault.{DriverFault}
use Rattle.mage_instr.specs.declared.fault.MachineFault.{MachineFault}
use Rattle.mage_instr.specs.declared.fault.MachineFault.TheVariants as stops
use Rattle.mage_driver.specs.Rules.{Rules}
use Rattle.mage_driver.specs.Calls.{Told, Call, led_to, SomeStops}
use Rattle.mage_link.specs.Queues.{QueueState}
use Rattle.mage_port.specs.Port.{PortTold, SlotState, Idle, AskedRead, AskedWrite, HasFailed, IsDamaged, slot_state, Fails, KeepsOn}
use Rattle.mage_port.specs.declared.ready.PortWait.TheVariants as waits
use Rattle.mage_store.specs.SerialPort.{has_failed}
use Rattle.mage_store.specs.SealedPort.{IsOver}
use Rattle.mage_verify.specs.Parts.{WorkerPart}
use Rattle.mage_engine.specs.Seen.{Seen}
use Rattle.mage_engine.specs.Steps.{IsCause, IsFall}
use Rattle.mage_core.specs.declared.fault.RunFault.{RunFault}
use Rattle.mage_core.specs.declared.fault.RunFault.TheVariants as fault
use Rattle.mage_core.specs.Ports.{RunMachine, store_of, first_of, CameBy, pages_moved}
use Rattle.mage_core.specs.Turns.{sights, run_fault, Falls}
use Rattle.mage_core.specs.Going.{Start, IsGoing, HasGone, AllGo, EndsAs, is_sound, read_in, reads_of, write_in, writes_of}
use Rattle.mage_core.specs.Results.{starts_of, Back}
use Rattle.mage_core.specs.Answered.{AreTold}
use Rattle.mage_core.specs.Stores.{IsOfPart, KeepsStore}
use Rattle.mage_core.specs.Steady.{Suffices, IsNotOfStore, IsNotOfDriver, TellsAlike}
use Rattle.mage_core.proofs.Starting.{if_some, if_found, map_get, all_get}
use Rattle.mage_core.proofs.Turning.{set_each}
use Rattle.mage_core.proofs.Ending.{none_failed, handed_so}
use Rattle.mage_core.proofs.Whole.{sight, drivers_in, stores_in, unmap, some_one, head_one, store_at}
use Rattle.mage_core.proofs.Storing.{keeps_so, keeps_same, slots_so, some_map, fails_differs, spoils_differs}

-- ---- counts

read_one : (x : Directive) → read_in x ≤ 1
read_one (entry.Fresh frame page) = omega arith
read_one (entry.IssueIn slot page) = omega arith
read_one (entry.FinishIn slot frame) = omega arith
read_one (entry.IssueOut slot frame page) = omega arith
read_one (entry.FinishOut slot) = omega arith
read_one (entry.Do job) = omega arith

write_one : (x : Directive) → write_in x ≤ 1
write_one (entry.Fresh frame page) = omega arith
write_one (entry.IssueIn slot page) = omega arith
write_one (entry.FinishIn slot frame) = omega arith
write_one (entry.IssueOut slot frame page) = omega arith
write_one (entry.FinishOut slot) = omega arith
write_one (entry.Do job) = omega arith

reads_few : (xs : List Directive) (n : ℕ) → reads_of (take n xs) ≤ length xs
reads_few [] zero = omega arith
reads_few [] (suc n) = omega arith
reads_few (x ∷ xs) zero = omega arith
reads_few (x ∷ xs) (suc n) = let rest = reads_few xs n in let one = read_one x in omega (arith, rest, one)

writes_few : (xs : List Directive) (n : ℕ) → writes_of (take n xs) ≤ length xs
writes_few [] zero = omega arith
writes_few [] (suc n) = omega arith
writes_few (x ∷ xs) zero = omega arith
writes_few (x ∷ xs) (suc n) = let rest = writes_few xs n in let one = write_one x in omega (arith, rest, one)

-- a count that began at none is far from its greatest value
far_from_top : (count first done many : ℕ) → count ≡ first + done → first ≡ 0 → done ≤ many → many < 4294967296 → count < top
far_from_top count first done many is none few bound = omega (arith, is, none, few, bound)

-- a slot that was asked doesn't fail
never_fails : (part : WorkerPart) (port before after : PortTold) (slot : ℕ) (state : SlotState) → is_sound state ≡ true → Fails before after slot state → IsOfPart part state →
    All (λ page. page < port.page_count) (pages_moved part.directives) → port.reads < top → port.writes < top → KeepsOn port state (Err waits.Failed) → ⊥
never_fails part port before after slot Idle sound fails of pages reads writes keeps = fails
never_fails part port before after slot (AskedRead page) sound fails of pages reads writes keeps =
    keeps (All-contains (λ page. page < port.page_count) (pages_moved part.directives) page pages of) reads
never_fails part port before after slot (AskedWrite page bytes) sound fails of pages reads writes keeps =
    keeps (All-contains (λ page. page < port.page_count) (pages_moved part.directives) page pages of) writes
never_fails part port before after slot (HasFailed page) sound fails of pages reads writes keeps = absurd cc
never_fails part port before after slot (IsDamaged damage) sound fails of pages reads writes keeps = fails

-- ---- what stopped a run

untold_so : (now first : Option Pages) → is_some now ≡ is_some first → is_some now ≡ false → first ≡ None
untold_so now None same is = refl
untold_so now (Some pages) same is = absurd (let never : false ≡ true = sym is ∙ same in cc)

no_stops : {W : Type 0} (rules : Rules W) → ((from to after : rules.State) (f : DriverFault) → rules.Stops from to f after → ⊥) →
    (calls : List (Call rules.State W)) (f : DriverFault) (s : rules.State) → SomeStops rules calls f s → ⊥
no_stops rules never [] f s h = h
no_stops rules never (call ∷ calls) f s (inl h) = never call.state (led_to rules call) s f h
no_stops rules never (call ∷ calls) f s (inr h) = no_stops rules never calls f s h

sound_unfailed : (state : SlotState) → is_sound state ≡ true → has_failed state ≡ false
sound_unfailed Idle sound = refl
sound_unfailed (AskedRead page) sound = refl
sound_unfailed (AskedWrite page bytes) sound = refl
sound_unfailed (HasFailed page) sound = absurd cc
sound_unfailed (IsDamaged damage) sound = refl

unfailed_below : (above below : SlotState) → IsOver above below → has_failed above ≡ false → has_failed below ≡ false
unfailed_below above below (inl e) is = ap has_failed (sym e) ∙ is
unfailed_below above below (inr h) is = ap has_failed h.2

module _ {W : Type 0} (rules : Rules W) (starts : List (Start rules.State)) where
  -- the machine that stopped, and why
  record Stopped (found : RunFault) : Type 0 where
    worker : ℕ
    start : Start rules.State
    from : slice_get starts worker ≡ Some start
    machine : Seen rules.State
    next : Seen rules.State
    links : QueueState
    going : IsGoing rules start worker links machine
    by : MachineFault
    is : found ≡ run_fault worker by
    cause : IsCause rules machine next by

  cause_of : (was : Option MachineFault) (old new : Seen rules.State) (f : MachineFault) → was ≡ None → IsFall rules old new was f → IsCause rules old new f
  cause_of None old new f e h = h
  cause_of (Some other) old new f e h = absurd cc

  stopped_of : (before : List (Seen rules.State)) (old : QueueState) → AllGo rules starts before old → (machines : List (Seen rules.State)) (links : QueueState)
      (found : RunFault) → Falls rules before machines old links found → Stopped found
  stopped_of before old all machines links found f =
      let gone = if_found (HasGone rules starts f.worker old) (slice_get before f.worker) f.machine f.at (all f.worker) in
      record {
        worker = f.worker;
        start = gone.start;
        from = gone.from;
        machine = f.machine;
        next = f.next;
        links = old;
        going = gone.going;
        by = f.stopped_by;
        is = f.is;
        cause = cause_of f.machine.fault f.machine f.next f.stopped_by gone.going.sound f.falls;
      }

  -- what is known of the start of a worker, of whom only the number is known
  at_start : (P : Start rules.State → Type 0) (w worker : ℕ) (start : Start rules.State) → worker ≡ w → slice_get starts worker ≡ Some start → P start →
      IfSome (slice_get starts w) P
  at_start P w worker start e from h =
      subst (λ n. IfSome (slice_get starts n) P) e (subst (λ (o : Option (Start rules.State)). IfSome o P) (sym from) h)

  pub untold_end : (machines : List (Seen rules.State)) (links : QueueState) (result : Option RunFault) → EndsAs rules starts machines links result →
      (w : ℕ) (damage : Damage) → result ≡ Some (fault.Damaged w damage) → IfSome (slice_get starts w) (λ start. start.store.pages ≡ None)
  untold_end machines links None ends w damage e = absurd cc
  untold_end machines links (Some found) ends w damage e =
      let s = stopped_of ends.0 ends.1 ends.2 machines links found ends.3 in
      by_fault s.by s.worker s.start s.machine s.next s.links s.from s.going (sym s.is ∙ some_one found (fault.Damaged w damage) e) s.cause
    where
      by_fault : (by : MachineFault) (worker : ℕ) (start : Start rules.State) (machine next : Seen rules.State) (links : QueueState) → slice_get starts worker ≡ Some start →
          IsGoing rules start worker links machine → run_fault worker by ≡ fault.Damaged w damage → IsCause rules machine next by →
          IfSome (slice_get starts w) (λ start. start.store.pages ≡ None)
      by_fault stops.Store worker start machine next links from g is cause = absurd cc
      by_fault (stops.Driver f) worker start machine next links from g is cause = absurd cc
      by_fault (stops.Damaged found) worker start machine next links from g is cause =
          let same : worker ≡ w = cc in
          let spoiled = spoils_differs machine.port next.port cause.0 found (slot_state machine.port cause.0) (g.slots cause.0) cause.2 in
          at_start (λ start. start.store.pages ≡ None) w worker start same from (untold_so machine.port.pages start.store.pages g.store.pages spoiled.1)

  pub unfailing_end : ((from to after : rules.State) (f : DriverFault) → rules.Stops from to f after → ⊥) → AreTold starts →
      (machines : List (Seen rules.State)) (links : QueueState) (result : Option RunFault) → EndsAs rules starts machines links result → IsNotOfDriver result
  unfailing_end never told machines links None ends = tt
  unfailing_end never told machines links (Some found) ends =
      let s = stopped_of ends.0 ends.1 ends.2 machines links found ends.3 in
      subst (λ (r : RunFault). IsNotOfDriver (Some r)) (sym s.is) (by_fault s.by s.worker s.start s.machine s.next s.links s.from s.going s.cause)
    where
      by_fault : (by : MachineFault) (worker : ℕ) (start : Start rules.State) (machine next : Seen rules.State) (links : QueueState) → slice_get starts worker ≡ Some start →
          IsGoing rules start worker links machine → IsCause rules machine next by → IsNotOfDriver (Some (run_fault worker by))
      by_fault stops.Store worker start machine next links from g cause = tt
      by_fault (stops.Driver f) worker start machine next links from g cause =
          no_stops rules never _ f next.driver.state
          (cause.0.stopped (subst IsTrue (sym g.told) (if_found (λ (s : Start rules.State). IsTrue s.driver.told) (slice_get starts worker) start from (told worker))))
      by_fault (stops.Damaged damage) worker start machine next links from g cause = tt

  -- ---- stores that suffice

  pub steady_end : ((w : ℕ) → IfSome (slice_get starts w) Suffices) → (machines : List (Seen rules.State)) (links : QueueState) (result : Option RunFault) →
      EndsAs rules starts machines links result → IsNotOfStore result
  steady_end suffice machines links None ends = tt
  steady_end suffice machines links (Some found) ends =
      let s = stopped_of ends.0 ends.1 ends.2 machines links found ends.3 in
      subst (λ (r : RunFault). IsNotOfStore (Some r)) (sym s.is)
      (by_fault s.by s.worker s.start s.machine s.next s.links s.going (if_found Suffices (slice_get starts s.worker) s.start s.from (suffice s.worker)) s.cause)
    where
      by_fault : (by : MachineFault) (worker : ℕ) (start : Start rules.State) (machine next : Seen rules.State) (links : QueueState) →
          IsGoing rules start worker links machine → Suffices start → IsCause rules machine next by → IsNotOfStore (Some (run_fault worker by))
      by_fault stops.Store worker start machine next links g s cause =
          let many = g.safe.fields.count in
          never_fails start.part machine.port machine.port next.port cause.0 (slot_state machine.port cause.0) (g.slots cause.0) cause.2 (g.store.slots cause.0)
          (subst (λ n. All (λ page. page < n) (pages_moved start.part.directives)) (sym g.store.page_count) s.pages)
          (far_from_top machine.port.reads start.store.reads (reads_of (take machine.place start.part.directives)) (length start.part.directives) g.reads s.no_reads
          (reads_few start.part.directives machine.place) many)
          (far_from_top machine.port.writes start.store.writes (writes_of (take machine.place start.part.directives)) (length start.part.directives) g.writes s.no_writes
          (writes_few start.part.directives machine.place) many)
          (cause.4 (subst IsTrue (sym g.store.steady) s.steady))
      by_fault (stops.Driver f) worker start machine next links g s cause = tt
      by_fault (stops.Damaged damage) worker start machine next links g s cause = tt

  -- ---- what is left of each worker

  -- a machine as the run leaves it
  pub record Leaves (result : Option RunFault) (worker : ℕ) (machine : Seen rules.State) : Type 0 where
    pub start : Start rules.State
    pub from : slice_get starts worker ≡ Some start
    pub handed : machine.port.handed_in ≡ start.store ∷ []
    pub keeps : KeepsStore start.part start.store machine.port
    pub unfailed : IsNotOfStore result → (slot : ℕ) → has_failed (slot_state machine.port slot) ≡ false

  going_leaves : (result : Option RunFault) (worker : ℕ) (links : QueueState) (machine : Seen rules.State) → HasGone rules starts worker links machine →
      Leaves result worker machine
  going_leaves result worker links machine h = record {
    start = h.start;
    from = h.from;
    handed = h.going.handed;
    keeps = h.going.store;
    unfailed = λ not slot. sound_unfailed (slot_state machine.port slot) (h.going.slots slot);
  }

  stopped_leaves : (result : Option RunFault) (worker : ℕ) (start : Start rules.State) (machine next : Seen rules.State) (links : QueueState) (by : MachineFault) →
      result ≡ Some (run_fault worker by) → slice_get starts worker ≡ Some start → IsGoing rules start worker links machine → IsCause rules machine next by →
      Leaves result worker next
  stopped_leaves result worker start machine next links stops.Store is from g cause =
      let failed = fails_differs machine.port next.port cause.0 (slot_state machine.port cause.0) (g.slots cause.0) cause.2 in
      record {
        start = start;
        from = from;
        handed = failed.1.handed ∙ g.handed;
        keeps = keeps_so start.part start.store machine.port next.port cause.0 (HasFailed failed.0) failed.1 tt g.store;
        unfailed = λ not slot. absurd (subst IsNotOfStore is not);
      }
  stopped_leaves result worker start machine next links (stops.Driver f) is from g cause =
      let same : next.port ≡ machine.port = ap (λ (m : Seen rules.State). m.port) cause.1 in
      record {
        start = start;
        from = from;
        handed = ap (λ (p : PortTold). p.handed_in) same ∙ g.handed;
        keeps = keeps_same start.part start.store machine.port next.port same g.store;
        unfailed = λ not slot. ap (λ (p : PortTold). has_failed (slot_state p slot)) same ∙ sound_unfailed (slot_state machine.port slot) (g.slots slot);
      }
  stopped_leaves result worker start machine next links (stops.Damaged damage) is from g cause =
      let spoiled = spoils_differs machine.port next.port cause.0 damage (slot_state machine.port cause.0) (g.slots cause.0) cause.2 in
      record {
        start = start;
        from = from;
        handed = spoiled.0.handed ∙ g.handed;
        keeps = keeps_so start.part start.store machine.port next.port cause.0 (IsDamaged damage) spoiled.0 tt g.store;
        unfailed = λ not slot. slots_so (λ (state : SlotState). has_failed state ≡ false) machine.port next.port cause.0 (IsDamaged damage) spoiled.0 refl
            (λ other. sound_unfailed (slot_state machine.port other) (g.slots other)) slot;
      }

  pub leaves_all : (machines : List (Seen rules.State)) (links : QueueState) (result : Option RunFault) → EndsAs rules starts machines links result →
      (w : ℕ) → IfSome (slice_get machines w) (Leaves result w)
  leaves_all machines links None ends w =
      if_some (HasGone rules starts w links) (Leaves None w) (slice_get machines w) (λ m is h. going_leaves None w links m h) (ends.0 w)
  leaves_all machines links (Some found) ends w =
      let f = ends.3 in
      let gone = if_found (HasGone rules starts f.worker ends.1) (slice_get ends.0 f.worker) f.machine f.at (ends.2 f.worker) in
      subst (λ (ms : List (Seen rules.State)). (w : ℕ) → IfSome (slice_get ms w) (Leaves (Some found) w)) (sym f.sets)
      (set_each (λ w m. HasGone rules starts w ends.1 m) (λ w m. Leaves (Some found) w m) ends.0 f.worker f.next
      (stopped_leaves (Some found) f.worker gone.start f.machine f.next ends.1 f.stopped_by (ap (λ (r : RunFault). Some r) f.is) gone.from gone.going
      (cause_of f.machine.fault f.machine f.next f.stopped_by gone.going.sound f.falls))
      (λ w m ne is h. going_leaves (Some found) w ends.1 m h) ends.2) w

-- ---- the stores in the end

module _ {W D S : Type 0} (rules : Rules W) (driver_tells : D → Told rules.State) (store_tells : S → StoreTold)
    (starts : List (Start rules.State)) (machines : List (RunMachine D S)) (came : All (CameBy store_tells) machines) (links : QueueState) (result : Option RunFault)
    (ends : EndsAs rules starts (sights driver_tells store_tells machines) links result) where
  abbrev drivers : List (Told rules.State)
  drivers = drivers_in rules driver_tells store_tells machines

  abbrev stores : List (List StoreTold)
  stores = stores_in rules driver_tells store_tells machines

  -- the machine of a worker that comes back
  pub record Of (w : ℕ) (back : Back starts drivers stores w) : Type 0 where
    pub machine : RunMachine D S
    pub at : slice_get machines w ≡ Some machine
    pub driver : driver_tells machine.driver ≡ back.driver
    pub store : store_tells (store_of machine) ≡ back.store
    pub came_by : CameBy store_tells machine
    pub leaves : Leaves rules starts result w (sight rules driver_tells store_tells machine)
    pub start : leaves.start ≡ back.start

  pub of_back : (w : ℕ) (back : Back starts drivers stores w) → Of w back
  of_back w back =
      let of_driver = unmap driver_tells (map (λ machine. machine.driver) machines) w back.driver back.driver_so in
      let of = unmap (λ (m : RunMachine D S). m.driver) machines w of_driver.0 of_driver.1 in
      let m = of.0 in
      let at = map_get (sight rules driver_tells store_tells) machines w m of.1 in
      let left = if_found (Leaves rules starts result w) (slice_get (sights driver_tells store_tells machines) w) (sight rules driver_tells store_tells m) at
      (leaves_all rules starts (sights driver_tells store_tells machines) links result ends w) in
      record {
        machine = m;
        at = of.1;
        driver = ap driver_tells of.2 ∙ of_driver.2;
        store = head_one _ _ (sym (store_at rules driver_tells store_tells machines w m of.1) ∙ back.store_so);
        came_by = all_get (CameBy store_tells) machines w m came of.1;
        leaves = left;
        start = some_one left.start back.start (sym left.from ∙ back.starts_so);
      }

  -- where no store failed, none counts a failure
  pub faults_end : IsNotOfStore result → (w : ℕ) (back : Back starts drivers stores w) → back.store.faults ≡ back.start.store.faults
  faults_end not w back =
      let of = of_back w back in
      let m = of.machine in
      ap (λ (s : StoreTold). s.faults) (sym of.store)
      ∙ of.came_by.came.sound (none_failed m.port.port.slots.states (λ slot. unfailed_below _ _ (of.came_by.over.slots slot) (of.leaves.unfailed not slot)))
      ∙ ap (λ (s : StoreTold). s.faults) (handed_so rules driver_tells store_tells of.leaves.start m of.leaves.handed)
      ∙ ap (λ (s : Start rules.State). s.store.faults) of.start

  pub alike_end : (w : ℕ) (back : Back starts drivers stores w) → TellsAlike back.start.store back.store
  alike_end w back =
      let of = of_back w back in
      let m = of.machine in
      let handed = handed_so rules driver_tells store_tells of.leaves.start m of.leaves.handed in
      subst (λ (s : Start rules.State). TellsAlike s.store back.store) of.start
      (subst (λ (s : StoreTold). TellsAlike of.leaves.start.store s) of.store (record {
        pages = of.leaves.keeps.pages;
        log = ap (λ (log : Option (List Transfer)). is_some log) of.came_by.came.log ∙ some_map (λ earlier. earlier ++ m.port.port.made) (store_tells (first_of m)).log
            ∙ ap (λ (s : StoreTold). is_some s.log) handed;
        page_bytes = sym of.came_by.came.page_bytes ∙ of.leaves.keeps.page_bytes;
        steady = of.leaves.keeps.steady;
        page_count = of.leaves.keeps.page_count;
      }))

-- ---- without memory

nothing_at : {X : Type 0} (w : ℕ) (x : X) → slice_get [] w ≡ Some x → ⊥
nothing_at zero x e = absurd cc
nothing_at (suc w) x e = absurd cc

-- what was handed in is what comes back
same_store : {S : Type 0} (parts : List WorkerPart) (drivers : List (Told S)) (stores : List (List StoreTold)) (w : ℕ) (start : Start S) (store : StoreTold) →
    slice_get (starts_of parts drivers stores) w ≡ Some start → slice_get stores w ≡ Some (store ∷ []) → store ≡ start.store
same_store [] drivers stores zero start store is at = absurd cc
same_store [] drivers stores (suc w) start store is at = absurd cc
same_store (part ∷ parts) [] stores zero start store is at = absurd cc
same_store (part ∷ parts) [] stores (suc w) start store is at = absurd cc
same_store (part ∷ parts) (driver ∷ drivers) [] w start store is at = absurd (nothing_at w start is)
same_store (part ∷ parts) (driver ∷ drivers) ([] ∷ stores) w start store is at = absurd (nothing_at w start is)
same_store {S} (part ∷ parts) (driver ∷ drivers) ((s ∷ rest) ∷ stores) zero start store is at =
    let one : s ≡ store = cc in
    let same : ◌≡◌ {A = Start S} (record { part = part; driver = driver; store = s }) start = some_one _ _ is in
    sym one ∙ ap (λ (x : Start S). x.store) same
same_store (part ∷ parts) (driver ∷ drivers) ((s ∷ rest) ∷ stores) (suc w) start store is at = same_store parts drivers stores w start store is at

pub back_same : {S : Type 0} (parts : List WorkerPart) (drivers now : List (Told S)) (stores left : List (List StoreTold)) → left ≡ stores →
    (w : ℕ) (back : Back (starts_of parts drivers stores) now left w) → back.store ≡ back.start.store
back_same parts drivers now stores left same w back =
    same_store parts drivers stores w back.start back.store back.starts_so (ap (λ (l : List (List StoreTold)). slice_get l w) (sym same) ∙ back.store_so)

pub alike_same : (before after : StoreTold) → after ≡ before → TellsAlike before after
alike_same before after e = record {
  pages = ap (λ (s : StoreTold). is_some s.pages) e;
  log = ap (λ (s : StoreTold). is_some s.log) e;
  page_bytes = ap (λ (s : StoreTold). s.page_bytes) e;
  steady = ap (λ (s : StoreTold). s.steady) e;
  page_count = ap (λ (s : StoreTold). s.page_count) e;
}
