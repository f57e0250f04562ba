-- A world before its first event.
use Rattle.std.proofs.Common.{◌≡◌, ◌*◌, ℕ, zero, suc, Bool, true, false, cond, List, [], ◌∷◌, length, map, get_or, replicate, Option, None, refl, sym, ap, ap₂, ◌∙◌, subst, arith}
use Rattle.std.specs.Prelude.{slice_get, IfSome}
use Rattle.std.specs.List.{All}
use Rattle.std.proofs.lemmas.List.Elements.{All-head, All-tail, All-weaker}
use mathlib.Core.Path.{fun_ext}
use Rattle.mage_instr.specs.declared.fault.DriverFault.{DriverFault}
use Rattle.mage_bank.specs.Bank.{contents, bank_of}
use Rattle.mage_bank.proofs.Banking.{bank_opened}
use Rattle.mage_driver.specs.declared.standing.Standing.{Standing}
use Rattle.mage_driver.specs.declared.standing.Standing.TheVariants as standing
use Rattle.mage_driver.specs.Rules.{Rules}
use Rattle.mage_driver.specs.Calls.{Told}
use Rattle.mage_link.specs.Queues.{LinkState, QueueState, new_queues, unused_link}
use Rattle.mage_network.specs.Slots as net
use Rattle.mage_steps.specs.Engines as engines
use Rattle.mage_steps.specs.Frames.{cleared}
use Rattle.mage_verify.specs.Parts.{WorkerPart}
use Rattle.mage_verify.specs.Runs.{AreVerified}
use Rattle.mage_world.specs.declared.slot.Slot.{Slot}
use Rattle.mage_world.specs.declared.slot.Work.TheVariants as work
use Rattle.mage_world.specs.declared.worker.Worker.{Worker}
use Rattle.mage_world.specs.Slots.{slot_with, in_slots, page_at, AreWithin, Within}
use Rattle.mage_world.specs.Seats.{Seat, state_of, seat_of, page_bytes, IsWire, IsWorker, Stands}
use Rattle.mage_world.specs.Rooms.{IsNewWorker, AreNewWorkers}
use Rattle.mage_world.specs.Worlds.{Seen, seats_of, seats_opened, wires_of, opened, Each, IsWorld, AllRun}
use Rattle.mage_world.proofs.Standing.{first_wire, runs_so}

-- ---- equal elements

same_element : {X : Type 0} (n i : ℕ) (x : X) → get_or (replicate n x) i x ≡ x
same_element zero i x = refl
same_element (suc n) zero x = refl
same_element (suc n) (suc i) x = same_element n i x

row_or_none : {X : Type 0} (n k i j : ℕ) (x : X) → get_or (get_or (replicate n (replicate k x)) i []) j x ≡ x
row_or_none zero k i j x = refl
row_or_none (suc n) k zero j x = same_element k j x
row_or_none (suc n) k (suc i) j x = row_or_none n k i j x

pub no_wires : (n capacity : ℕ) → wires_of (new_queues n capacity).links ≡ (λ source target. [])
no_wires n capacity = fun_ext (λ s. fun_ext (λ t. ap (λ (l : LinkState). l.lying) (row_or_none n n s t unused_link)))

idle_each : (slots : List Slot) → All (λ slot. slot.work ≡ work.Idle) slots → (i : ℕ) → in_slots slots i ≡ net.Idle
idle_each [] all i = refl
idle_each (s ∷ slots) all zero = ap (λ w. slot_with w s.bytes.items) (All-head (λ (s : Slot). s.work ≡ work.Idle) s slots all)
idle_each (s ∷ slots) all (suc i) = idle_each slots (All-tail (λ (s : Slot). s.work ≡ work.Idle) s slots all) i

idle_within : (pages : ℕ) (slots : List Slot) → All (λ slot. slot.work ≡ work.Idle) slots → AreWithin pages slots
idle_within pages slots all = All-weaker (λ (s : Slot). s.work ≡ work.Idle) (λ (s : Slot). Within pages s.work) (λ s idle. subst (Within pages) (sym idle) tt) slots all

-- ---- one worker

module _ {W : Type 0} (rules : Rules W) (wb : ℕ) (same : rules.wire_bytes ≡ wb) (part : WorkerPart) (driver : Told rules.State) (worker : Worker)
    (new : IsNewWorker wb part worker) where
  abbrev made : (place wire : ℕ) (finished : Bool) (fault : Option DriverFault) (bank : ℕ → List ℕ) (slots : ℕ → net.Slot (List ℕ)) (pages : ℕ → List ℕ) → Seat rules.State
  made place wire finished fault bank slots pages = record {
    driver = driver;
    fault = fault;
    core = record {
      engine = record { place = place; wire = wire; driver = driver.state; is_finished = finished; bank = bank };
      slots = slots;
      pages = pages;
    };
  }

  empty : ℕ → List ℕ
  empty i = cleared rules part.limits.page

  bytes_same : part.limits.page * wb ≡ part.limits.page * rules.wire_bytes
  bytes_same = ap (λ n. part.limits.page * n) (sym same)

  banks : bank_of (contents worker.frames.items) ≡ (λ frame. cleared rules part.limits.page)
  banks =
      ap bank_of new.frames ∙ bank_opened part.limits.frames (page_bytes wb part) new.safe.limits.some_frame
      ∙ ap (λ (n : ℕ). λ (frame : ℕ). replicate n 0) bytes_same

  page_lists : page_at (cleared rules part.limits.page) (contents worker.pages.items) ≡ (λ page. cleared rules part.limits.page)
  page_lists =
      ap (page_at (cleared rules part.limits.page)) (new.pages ∙ ap (λ (n : ℕ). replicate part.pages (replicate n 0)) bytes_same)
      ∙ fun_ext (λ p. same_element part.pages p (cleared rules part.limits.page))

  idle_slots : in_slots worker.slots.items ≡ (λ slot. net.Idle)
  idle_slots = fun_ext (idle_each worker.slots.items new.slots.idle)

  pub new_seat : seat_of rules part.limits.page driver (state_of worker) ≡
      record { driver = driver; fault = None; core = net.idle (engines.opened rules part.limits.page driver.state) (λ page. cleared rules part.limits.page) }
  new_seat =
      ap₂ (λ (p w : ℕ). made p w worker.finished worker.fault (bank_of (contents worker.frames.items)) (in_slots worker.slots.items) (page_at (cleared rules part.limits.page) (contents worker.pages.items))) new.place new.wire
      ∙ ap₂ (λ (b : Bool) (f : Option DriverFault). made 0 0 b f (bank_of (contents worker.frames.items)) (in_slots worker.slots.items) (page_at (cleared rules part.limits.page) (contents worker.pages.items))) new.finished new.fault
      ∙ ap₂ (λ (bank : ℕ → List ℕ) (slots : ℕ → net.Slot (List ℕ)). made 0 0 false None bank slots (page_at (cleared rules part.limits.page) (contents worker.pages.items))) banks idle_slots
      ∙ ap (λ (pages : ℕ → List ℕ). made 0 0 false None (λ frame. cleared rules part.limits.page) (λ slot. net.Idle) pages) page_lists

  pub new_stands : driver.standing ≡ standing.Running → Stands rules part driver worker
  new_stands runs = record {
    safe = new.safe;
    runs = new.runs;
    worker_is = subst (λ (n : ℕ). IsWorker n part worker) (sym same) (record {
      frames = new.frames_long;
      count = new.slots.count_is;
      long = new.slots.long;
      named = idle_within part.pages worker.slots.items new.slots.idle;
      pages = new.pages_long;
      within = let z = new.place in omega (arith, z);
      wire = subst (λ (w : ℕ). IfSome (slice_get part.directives worker.place) (IsWire w)) (sym new.wire)
          (first_wire part.worker (slice_get part.directives worker.place) (new.safe.fields.each worker.place));
      early = λ e. absurd (let never : true ≡ false = sym e ∙ new.finished in cc);
    });
    driver_runs = runs_so worker.fault worker.finished driver.standing new.fault
        (runs ∙ ap (λ b. cond {A = Standing} b standing.Finished standing.Running) (sym new.finished));
  }

-- ---- all of them

module _ {D W : Type 0} (rules : Rules W) (tells : D → Told rules.State) (wb : ℕ) (same : rules.wire_bytes ≡ wb) where
  pub new_count : (parts : List WorkerPart) (workers : List Worker) → AreNewWorkers wb parts workers → length workers ≡ length parts
  new_count [] [] are = refl
  new_count [] (w ∷ workers) are = absurd are
  new_count (p ∷ parts) [] are = absurd are
  new_count (p ∷ parts) (w ∷ workers) are = ap suc (new_count parts workers are.1)

  pub new_seats : (parts : List WorkerPart) (drivers : List D) (workers : List Worker) → AreNewWorkers wb parts workers →
      seats_of rules tells parts drivers (map state_of workers) ≡ seats_opened rules tells parts drivers
  new_seats [] drivers [] are = refl
  new_seats [] drivers (w ∷ workers) are = absurd are
  new_seats (p ∷ parts) drivers [] are = absurd are
  new_seats (p ∷ parts) [] (w ∷ workers) are = refl
  new_seats (p ∷ parts) (d ∷ drivers) (w ∷ workers) are =
      ap₂ (λ (s : Seat rules.State) (ss : List (Seat rules.State)). s ∷ ss) (new_seat rules wb same p (tells d) w are.0) (new_seats parts drivers workers are.1)

  pub new_each : (parts : List WorkerPart) (drivers : List D) (workers : List Worker) → AreNewWorkers wb parts workers → AllRun tells drivers →
      Each rules tells parts drivers workers
  new_each [] drivers workers are run n part driver worker p d w = absurd cc
  new_each (q ∷ parts) drivers [] are run n part driver worker p d w = absurd are
  new_each (q ∷ parts) [] (v ∷ workers) are run n part driver worker p d w = absurd cc
  new_each (q ∷ parts) (e ∷ drivers) (v ∷ workers) are run zero part driver worker p d w =
      let sp : q ≡ part = cc in let sd : e ≡ driver = cc in let sw : v ≡ worker = cc in
      subst (λ (x : WorkerPart). Stands rules x (tells driver) worker) sp
      (subst (λ (x : D). Stands rules q (tells x) worker) sd
      (subst (λ (x : Worker). Stands rules q (tells e) x) sw (new_stands rules wb same q (tells e) v are.0 (run 0 e refl))))
  new_each (q ∷ parts) (e ∷ drivers) (v ∷ workers) are run (suc n) part driver worker p d w =
      new_each parts drivers workers are.1 (λ m x at. run (suc m) x at) n part driver worker p d w

  pub new_world : (parts : List WorkerPart) (drivers : List D) (workers : List Worker) (capacity : ℕ) (queues : QueueState) → AreNewWorkers wb parts workers →
      queues ≡ new_queues (length parts) capacity → (seen : Seen rules.State) →
      seen ≡ record { parts = parts; seats = seats_of rules tells parts drivers (map state_of workers); capacity = queues.capacity; wires = wires_of queues.links } →
      seen ≡ opened rules tells parts drivers capacity
  new_world parts drivers workers capacity queues are empty seen is =
      is
      ∙ ap (λ (q : QueueState). record {
        parts = parts;
        seats = seats_of rules tells parts drivers (map state_of workers);
        capacity = q.capacity;
        wires = wires_of q.links;
      }) empty
      ∙ ap₂ (λ (ss : List (Seat rules.State)) (ws : ℕ → ℕ → List (List ℕ)). record { parts = parts; seats = ss; capacity = capacity; wires = ws })
      (new_seats parts drivers workers are) (no_wires (length parts) capacity)

  pub is_world : (parts : List WorkerPart) (drivers : List D) (workers : List Worker) (capacity links : ℕ) → AreVerified parts →
      length drivers ≡ length parts → AllRun tells drivers → AreNewWorkers wb parts workers → links ≡ length parts →
      IsWorld rules tells parts drivers workers links
  is_world parts drivers workers capacity links verified count run are linked = record {
    verified = verified;
    as_many_drivers = count;
    as_many_workers = new_count parts workers are;
    as_many_links = linked;
    each = new_each parts drivers workers are run;
  }
