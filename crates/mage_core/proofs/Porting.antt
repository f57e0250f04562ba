-- A machine that was just made over the ports of its store.
use Rattle.std.proofs.Common.{◌≡◌, ◌*◌, ◌+◌, ◌++◌, ℕ, zero, suc, List, [], ◌∷◌, length, replicate, get_or, refl, sym, ap, ◌∙◌, subst, arith, length-append, append_assoc, append-nil}
use Rattle.std.proofs.lemmas.List.{length-replicate}
use Rattle.std.proofs.lemmas.List.Elements.{All-cons}
use Rattle.std.specs.List.{All}
use Rattle.mage_base.specs.Store.{StoreTold}
use Rattle.mage_driver.specs.declared.standing.Standing.TheVariants as standing
use Rattle.mage_driver.specs.Rules.{Rules}
use Rattle.mage_driver.specs.Calls.{Told}
use Rattle.mage_port.specs.Port.{PortTold, Idle, IsUnused, slot_state}
use Rattle.mage_store.specs.SerialPort as serial
use Rattle.mage_store.specs.SerialPort.{SerialState, CameFrom, new_serial}
use Rattle.mage_store.specs.SealedPort.{StandsOver}
use Rattle.mage_verify.specs.Parts.{WorkerPart}
use Rattle.mage_verify.specs.Runs.{IsSafe, Runs}
use Rattle.mage_engine.specs.Seen.{Seen, seen}
use Rattle.mage_engine.specs.Ready.{Serves, Takes, opened}
use Rattle.mage_core.specs.Ports.{RunPort, RunMachine, port_tells, store_of, CameBy, LeftOf}
use Rattle.mage_core.specs.Made.{IsNew, HasStoreOf}
use Rattle.mage_core.proofs.Holding.{all_head, all_none}

idle_at : (n slot : ℕ) → get_or (replicate n Idle) slot Idle ≡ Idle
idle_at zero zero = refl
idle_at zero (suc slot) = refl
idle_at (suc n) zero = refl
idle_at (suc n) (suc slot) = idle_at n slot

module _ {S : Type 0} (tells : S → StoreTold) (wire_bytes : ℕ) (part : WorkerPart) (store : S) (sealed : RunPort S)
    (over : sealed.port ≡ new_serial store part.limits.buffer (part.limits.page * wire_bytes))
    (told : port_tells tells sealed ≡ record (serial.port_told tells sealed.port) { takes = (port_tells tells sealed).takes })
    (takes : Takes (port_tells tells sealed).takes part) where
  tells_so : port_tells tells sealed ≡
      record (serial.port_told tells (new_serial store part.limits.buffer (part.limits.page * wire_bytes))) { takes = (port_tells tells sealed).takes }
  tells_so = told ∙ ap (λ (p : SerialState S). record (serial.port_told tells p) { takes = (port_tells tells sealed).takes }) over

  pub unused_so : IsUnused (port_tells tells sealed)
  unused_so = record {
    idle = λ slot. ap (λ (p : PortTold). slot_state p slot) tells_so ∙ idle_at part.limits.buffer slot;
    empty = λ page. ap (λ (p : PortTold). p.finished page) tells_so;
  }

  pub serves_so : Serves wire_bytes (port_tells tells sealed) part
  serves_so = record {
    unused = unused_so;
    slots = ap (λ (p : PortTold). length p.slots) tells_so ∙ length-replicate part.limits.buffer Idle;
    bytes = ap (λ (p : PortTold). p.page_bytes) tells_so;
    takes = takes;
  }

-- the one store of a shelf
pub one_store : {S : Type 0} (before after : List S) (store : S) → length before ≡ 1 → before ≡ after ++ store ∷ [] → (after ≡ []) × (before ≡ store ∷ [])
one_store before [] store one is = (refl, is)
one_store before (x ∷ xs) store one is = absurd (
    let long : length ((x ∷ xs) ++ store ∷ []) ≡ length (x ∷ xs) + 1 = length-append (x ∷ xs) (store ∷ []) in
    let same : length before ≡ length ((x ∷ xs) ++ store ∷ []) = ap length is in
    omega (arith, long, same, one))

pub store_bytes : {S : Type 0} (wire_bytes : ℕ) (tells : S → StoreTold) (part : WorkerPart) (before : List S) (store : S) → HasStoreOf wire_bytes tells part before →
    before ≡ store ∷ [] → (tells store).page_bytes ≡ part.limits.page * wire_bytes
store_bytes {S} wire_bytes tells part before store has is =
    all_head (λ s. (tells s).page_bytes ≡ part.limits.page * wire_bytes) store [] (subst (λ (l : List S). All (λ s. (tells s).page_bytes ≡ part.limits.page * wire_bytes) l) is has.bytes)

module _ {W D S : Type 0} (rules : Rules W) (driver_tells : D → Told rules.State) (store_tells : S → StoreTold)
    (machine : RunMachine D S) (part : WorkerPart) (driver : D) (sealed : RunPort S) (store : S) (buffer bytes : ℕ)
    (opens : seen driver_tells (port_tells store_tells) machine ≡ opened rules part (driver_tells driver) (port_tells store_tells sealed))
    (driver_is : machine.driver ≡ driver) (port_is : machine.port ≡ sealed) (over : sealed.port ≡ new_serial store buffer bytes)
    (long : bytes ≡ (store_tells store).page_bytes) where
  pub part_is : machine.part ≡ part
  part_is = ap (λ (m : Seen rules.State). m.part) opens

  pub store_is : store_of machine ≡ store
  store_is = ap (λ (p : RunPort S). p.port.store) port_is ∙ ap (λ (p : SerialState S). p.store) over

  pub new_so : IsUnused (port_tells store_tells sealed) → (driver_tells driver).standing ≡ standing.Running → IsSafe part → Runs part →
      IsNew rules driver_tells store_tells machine
  new_so unused running safe runs = record {
    opens = opens
        ∙ ap (λ (p : WorkerPart). opened rules p (driver_tells driver) (port_tells store_tells sealed)) (sym part_is)
        ∙ ap (λ (d : D). opened rules machine.part (driver_tells d) (port_tells store_tells sealed)) (sym driver_is)
        ∙ ap (λ (p : RunPort S). opened rules machine.part (driver_tells machine.driver) (port_tells store_tells p)) (sym port_is);
    unused = subst (λ (p : RunPort S). IsUnused (port_tells store_tells p)) (sym port_is) unused;
    running = subst (λ (d : D). (driver_tells d).standing ≡ standing.Running) (sym driver_is) running;
    first = ap (λ (p : RunPort S). p.port.first) port_is ∙ ap (λ (p : SerialState S). p.first) over ∙ sym store_is;
    bytes = ap (λ (p : RunPort S). p.port.slots.page_bytes) port_is ∙ ap (λ (p : SerialState S). p.slots.page_bytes) over ∙ long
        ∙ sym (ap (λ (p : RunPort S). (store_tells p.port.first).page_bytes) port_is ∙ ap (λ (p : SerialState S). (store_tells p.first).page_bytes) over);
    safe = subst IsSafe (sym part_is) safe;
    runs = subst Runs (sym part_is) runs;
  }

-- what closing a machine's ports says of its store
pub came_so : {D S : Type 0} (tells : S → StoreTold) (m : RunMachine D S) (p : RunPort S) (q : SerialState S) → p ≡ m.port → q ≡ p.port →
    StandsOver (port_tells tells p) (serial.port_told tells q) → CameFrom (tells q.first) (tells q.store) q.slots q.made → CameBy tells m
came_so {D} {S} tells m p q port below over came =
    let deep : q ≡ m.port.port = below ∙ ap (λ (x : RunPort S). x.port) port in
    record {
      over = subst (λ (x : SerialState S). StandsOver (port_tells tells m.port) (serial.port_told tells x)) deep
          (subst (λ (x : RunPort S). StandsOver (port_tells tells x) (serial.port_told tells q)) port over);
      came = subst (λ (x : SerialState S). CameFrom (tells x.first) (tells x.store) x.slots x.made) deep came;
    }

-- one machine more is taken apart
pub left_more : {D S : Type 0} (tells : S → StoreTold) (ms ms' all : List (RunMachine D S)) (m : RunMachine D S) → LeftOf tells ms all → ms ≡ ms' ++ m ∷ [] →
    CameBy tells m → LeftOf tells ms' all
left_more {D} {S} tells ms ms' all m h front came = record {
  later = m ∷ h.later;
  whole = sym (append_assoc ms' (m ∷ []) h.later) ∙ ap (λ (l : List (RunMachine D S)). l ++ h.later) (sym front) ∙ h.whole;
  came = All-cons (CameBy tells) m h.later came h.came;
}

pub left_none : {D S : Type 0} (tells : S → StoreTold) (all : List (RunMachine D S)) → LeftOf tells all all
left_none tells all = record { later = []; whole = append-nil all; came = all_none (CameBy tells) }

pub left_all : {D S : Type 0} (tells : S → StoreTold) (ms all : List (RunMachine D S)) → LeftOf tells ms all → ms ≡ [] → All (CameBy tells) all
left_all {D} {S} tells ms all h none =
    subst (All (CameBy tells)) (ap (λ (l : List (RunMachine D S)). l ++ h.later) (sym none) ∙ h.whole) h.came
