-- What is left of each worker where a run ends.
use Rattle.std.proofs.Common.{◌≡◌, ◌≤◌, ◌+◌, ◌||◌, ◌++◌, inl, inr, ℕ, zero, suc, Bool, true, false, List, [], ◌∷◌, take, set, get_or, Option, None, Some, slice_get, refl, sym, ap, ◌∙◌, subst}
use Rattle.std.specs.List.{list_any}
use Rattle.std.specs.Option.{option_map}
use Rattle.mage_base.specs.Faults.{Rose}
use Rattle.mage_base.specs.Store.{StoreTold}
use Rattle.mage_base.specs.declared.failure.Damage.{Damage}
use Rattle.mage_instr.specs.declared.fault.MachineFault.{MachineFault}
use Rattle.mage_instr.specs.declared.fault.MachineFault.TheVariants as stops
use Rattle.mage_driver.specs.Rules.{Rules}
use Rattle.mage_driver.specs.Calls.{Told, RoseFor}
use Rattle.mage_link.specs.Queues.{QueueState}
use Rattle.mage_port.specs.Port.{PortTold, SlotState, Idle, AskedRead, AskedWrite, HasFailed, IsDamaged, slot_state, Fails, Spoils}
use Rattle.mage_store.specs.SerialPort.{has_failed}
use Rattle.mage_store.specs.SealedPort.{IsOver}
use Rattle.mage_store.specs.SerialPort as serial
use Rattle.mage_verify.specs.Parts.{WorkerPart}
use Rattle.mage_engine.specs.Seen.{Seen, seen, IsEnded}
use Rattle.mage_engine.specs.Steps.{IsCause, IsFall}
use Rattle.mage_core.specs.Ports.{RunMachine, port_tells, store_of, first_of, CameBy}
use Rattle.mage_core.specs.Turns.{run_fault}
use Rattle.mage_core.specs.Going.{Start, IsGoing, is_sound, reads_of, writes_of}
use Rattle.mage_core.specs.Results.{IsDone, CausedBy}

-- ---- slots

sound_below : (above below : SlotState) → IsOver above below → is_sound above ≡ true → has_failed below ≡ false
sound_below above below (inl e) sound = ap has_failed (sym e) ∙ go above sound
  where
    go : (state : SlotState) → is_sound state ≡ true → has_failed state ≡ false
    go Idle s = refl
    go (AskedRead page) s = refl
    go (AskedWrite page bytes) s = refl
    go (HasFailed page) s = absurd cc
    go (IsDamaged damage) s = refl
sound_below above below (inr h) sound = ap has_failed h.2

pub none_failed : (states : List SlotState) → ((slot : ℕ) → has_failed (get_or states slot Idle) ≡ false) → list_any has_failed states ≡ false
none_failed [] h = refl
none_failed (x ∷ xs) h = ap (λ b. b || list_any has_failed xs) (h zero) ∙ none_failed xs (λ slot. h (suc slot))

or_true : (b : Bool) → (b || true) ≡ true
or_true true = refl
or_true false = refl

some_failed : (states : List SlotState) (slot : ℕ) → has_failed (get_or states slot Idle) ≡ true → list_any has_failed states ≡ true
some_failed [] zero h = absurd cc
some_failed [] (suc slot) h = absurd cc
some_failed (x ∷ xs) zero h = ap (λ b. b || list_any has_failed xs) h
some_failed (x ∷ xs) (suc slot) h = ap (λ b. has_failed x || b) (some_failed xs slot h) ∙ or_true (has_failed x)

failed_below : (above below : SlotState) (page : ℕ) → IsOver above below → above ≡ HasFailed page → has_failed below ≡ true
failed_below above below page (inl e) is = ap has_failed (sym e ∙ is)
failed_below above below page (inr h) is = absurd (let never : IsDamaged h.0 ≡ HasFailed page = sym h.1 ∙ is in cc)

-- a slot that does something takes the state that it is set to
abbrev is_busy : SlotState → Bool
is_busy Idle = false
is_busy (AskedRead page) = true
is_busy (AskedWrite page bytes) = true
is_busy (HasFailed page) = true
is_busy (IsDamaged damage) = true

set_busy : (states : List SlotState) (slot : ℕ) (state : SlotState) → is_busy (get_or states slot Idle) ≡ true → get_or (set states slot state) slot Idle ≡ state
set_busy [] zero state busy = absurd cc
set_busy [] (suc slot) state busy = absurd cc
set_busy (x ∷ xs) zero state busy = refl
set_busy (x ∷ xs) (suc slot) state busy = set_busy xs slot state busy

-- a slot over which a transfer failed has failed
failed_slot : (before after : PortTold) (slot : ℕ) (state : SlotState) → state ≡ slot_state before slot → is_sound state ≡ true → Fails before after slot state →
    (page : ℕ) × (slot_state after slot ≡ HasFailed page) × (after.handed_in ≡ before.handed_in)
failed_slot before after slot Idle is sound h = absurd h
failed_slot before after slot (AskedRead page) is sound h = (
  page,
  ap (λ (p : PortTold). slot_state p slot) h ∙ set_busy before.slots slot (HasFailed page) (ap is_busy (sym is)),
  ap (λ (p : PortTold). p.handed_in) h,
)
failed_slot before after slot (AskedWrite page bytes) is sound h = (
  page,
  ap (λ (p : PortTold). slot_state p slot) h.1 ∙ set_busy before.slots slot (HasFailed page) (ap is_busy (sym is)),
  ap (λ (p : PortTold). p.handed_in) h.1,
)
failed_slot before after slot (HasFailed page) is sound h = absurd cc
failed_slot before after slot (IsDamaged damage) is sound h = absurd h

-- a slot over which damage was found is damaged
pub damaged_slot : (before after : PortTold) (slot : ℕ) (damage : Damage) (state : SlotState) → state ≡ slot_state before slot → is_sound state ≡ true →
    Spoils before after slot damage state → (slot_state after slot ≡ IsDamaged damage) × (after.handed_in ≡ before.handed_in)
damaged_slot before after slot damage Idle is sound h = absurd h
damaged_slot before after slot damage (AskedRead page) is sound h = (
  ap (λ (p : PortTold). slot_state p slot) h.1.left ∙ set_busy before.slots slot (IsDamaged damage) (ap is_busy (sym is)),
  ap (λ (p : PortTold). p.handed_in) h.1.left,
)
damaged_slot before after slot damage (AskedWrite page bytes) is sound h = absurd h
damaged_slot before after slot damage (HasFailed page) is sound h = absurd h
damaged_slot before after slot damage (IsDamaged found) is sound h = absurd cc

-- ---- lists

take_past : {X : Type 0} (xs : List X) (d : ℕ) → slice_get xs d ≡ None → take d xs ≡ xs
take_past [] zero e = refl
take_past [] (suc d) e = refl
take_past (x ∷ xs) zero e = absurd cc
take_past (x ∷ xs) (suc d) e = ap (λ l. x ∷ l) (take_past xs d e)

only_one : {X : Type 0} (x y : X) → x ∷ [] ≡ y ∷ [] → x ≡ y
only_one x y e = cc

-- ---- one worker

module _ {W D S : Type 0} (rules : Rules W) (driver_tells : D → Told rules.State) (store_tells : S → StoreTold) (start : Start rules.State) where
  abbrev sight : RunMachine D S → Seen rules.State
  sight machine = seen driver_tells (port_tells store_tells) machine

  -- the store that was handed in
  pub handed_so : (machine : RunMachine D S) → (port_tells store_tells machine.port).handed_in ≡ start.store ∷ [] → store_tells (first_of machine) ≡ start.store
  handed_so machine e = only_one (store_tells (first_of machine)) start.store e

  -- a worker that has ended
  pub done_so : (worker : ℕ) (links : QueueState) (machine : RunMachine D S) → IsGoing rules start worker links (sight machine) → IsEnded (sight machine) →
      CameBy store_tells machine → IsDone start (driver_tells machine.driver) (store_tells (store_of machine))
  done_so worker links machine g ended came = record {
    finished = ended.finished;
    driver_faults = g.faults;
    store_faults = came.came.sound (none_failed machine.port.port.slots.states (λ slot. sound_below _ _ (came.over.slots slot) (g.slots slot)))
        ∙ ap (λ (s : StoreTold). s.faults) (handed_so machine g.handed);
    reads = g.reads ∙ ap (λ ds. start.store.reads + reads_of ds) whole;
    writes = g.writes ∙ ap (λ ds. start.store.writes + writes_of ds) whole;
  }
    where
      whole : take machine.place start.part.directives ≡ start.part.directives
      whole = take_past start.part.directives machine.place (ap (λ (p : WorkerPart). slice_get p.directives machine.place) (sym g.part) ∙ ended.past)

  -- a worker that stopped
  pub caused_so : (worker : ℕ) (links : QueueState) (before : Seen rules.State) (machine : RunMachine D S) (f : MachineFault) → IsGoing rules start worker links before →
      IsFall rules before (sight machine) before.fault f → CameBy store_tells machine →
      CausedBy start (driver_tells machine.driver) (store_tells (store_of machine)) (run_fault worker f)
  caused_so worker links before machine f g falls came = go f (cause before.fault g.sound falls)
    where
      cause : (was : Option MachineFault) → was ≡ None → IsFall rules before (sight machine) was f → IsCause rules before (sight machine) f
      cause None e h = h
      cause (Some other) e h = absurd cc

      go : (f : MachineFault) → IsCause rules before (sight machine) f → CausedBy start (driver_tells machine.driver) (store_tells (store_of machine)) (run_fault worker f)
      go stops.Store h =
          let failed = failed_slot before.port (port_tells store_tells machine.port) h.0 (slot_state before.port h.0) refl (g.slots h.0) h.2 in
          let first = handed_so machine (failed.2 ∙ g.handed) in
          let at : has_failed (slot_state (serial.port_told store_tells machine.port.port) h.0) ≡ true =
          failed_below _ _ failed.0 (came.over.slots h.0) failed.1 in
          let rose = came.came.broken (some_failed machine.port.port.slots.states h.0 at) in (
            subst (λ (s : StoreTold). s.faults ≤ (store_tells (store_of machine)).faults) first came.came.grown,
            subst (λ (s : StoreTold). Rose s.faults (store_tells (store_of machine)).faults) first rose,
          )
      go (stops.Driver fell) h = (h.0.failed, subst (λ n. RoseFor fell n (driver_tells machine.driver).faults) g.faults h.0.counted)
      go (stops.Damaged damage) h =
          let damaged = damaged_slot before.port (port_tells store_tells machine.port) h.0 damage (slot_state before.port h.0) refl (g.slots h.0) h.2 in
          let first = handed_so machine (damaged.1 ∙ g.handed) in (
            machine.port.port.made,
            came.came.log ∙ ap (λ (s : StoreTold). option_map (λ earlier. earlier ++ machine.port.port.made) s.log) first,
            came.over.damaged h.0 damage damaged.0,
          )
