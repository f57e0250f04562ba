-- What a step of one machine is among all of them.
use Rattle.std.proofs.Common.{◌≡◌, ◌<◌, ◌⊎◌, inl, inr, ℕ, zero, suc, false, List, [], ◌∷◌, length, map, set, get_or, Option, Some, Result, Ok, Err, slice_get, refl, sym, ap, ◌∙◌, subst, arith}
use Rattle.std.specs.Prelude.{IfSome}
use Rattle.mage_base.specs.Store.{StoreTold}
use Rattle.mage_instr.specs.declared.fault.MachineFault.{MachineFault}
use Rattle.mage_driver.specs.Rules.{Rules}
use Rattle.mage_driver.specs.Calls.{Told}
use Rattle.mage_link.specs.Links.{LinkTold, after_wait}
use Rattle.mage_link.specs.Queues.{QueueState, queue_told}
use Rattle.mage_verify.specs.Parts.{WorkerPart}
use Rattle.mage_engine.specs.declared.turn.Turn.{Turn}
use Rattle.mage_engine.specs.declared.turn.Turn.TheVariants as turn
use Rattle.mage_engine.specs.declared.turn.Why.{Why}
use Rattle.mage_engine.specs.declared.turn.Why.TheVariants as why
use Rattle.mage_engine.specs.Seen.{Seen, seen, IsEnded}
use Rattle.mage_engine.specs.Ready.{Connects}
use Rattle.mage_engine.specs.Steps.{IsWait, Steps}
use Rattle.mage_progress.proofs.Lying.{stays}
use Rattle.mage_progress.proofs.MachineLemmas.{capacity_stays, never_pends}
use Rattle.mage_core.specs.Ports.{RunMachine, port_tells}
use Rattle.mage_core.specs.Turns.{sights, AllConnect, SameWires, StandsStill, StepsTo, run_answer}
use Rattle.mage_core.proofs.Starting.{if_found, map_get}
use Rattle.mage_core.proofs.Waiting.{same_itself}

map_set : {X Y : Type 0} (f : X → Y) (xs : List X) (k : ℕ) (y : X) → map f (set xs k y) ≡ set (map f xs) k (f y)
map_set f [] zero y = refl
map_set f [] (suc k) y = refl
map_set f (x ∷ xs) zero y = refl
map_set f (x ∷ xs) (suc k) y = ap (λ l. f x ∷ l) (map_set f xs k y)

set_found : {X : Type 0} (xs : List X) (k : ℕ) (x : X) → slice_get xs k ≡ Some x → set xs k x ≡ xs
set_found [] zero x e = refl
set_found [] (suc k) x e = refl
set_found (y ∷ xs) zero x e = let same : y ≡ x = cc in ap (λ z. z ∷ xs) (sym same)
set_found (y ∷ xs) (suc k) x e = ap (λ l. y ∷ l) (set_found xs k x e)

-- what stands at a place that is there
pub at_place : {X : Type 0} (xs : List X) (k : ℕ) (x : X) → k < length xs → x ≡ get_or xs k x → slice_get xs k ≡ Some x
at_place [] zero x h e = absurd (omega arith)
at_place [] (suc k) x h e = absurd (omega arith)
at_place (y ∷ xs) zero x h e = ap (λ z. Some z) (sym e)
at_place (y ∷ xs) (suc k) x h e = at_place xs k x (omega arith) e

-- a machine may use its links
pub connect_at : {W D S : Type 0} (rules : Rules W) (driver_tells : D → Told rules.State) (store_tells : S → StoreTold) (ms : List (RunMachine D S)) (worker : ℕ)
    (m : RunMachine D S) (links : QueueState) → slice_get ms worker ≡ Some m → AllConnect links (sights driver_tells store_tells ms) → Connects (queue_told links) m.part
connect_at rules driver_tells store_tells ms worker m links at all =
    if_found (λ (x : Seen rules.State). Connects (queue_told links) x.part) (slice_get (sights driver_tells store_tells ms) worker)
    (seen driver_tells (port_tells store_tells) m) (map_get (λ machine. seen driver_tells (port_tells store_tells) machine) ms worker m at) (all worker)

-- only the count of waits differs
same_wires : (before after : QueueState) → (queue_told after ≡ queue_told before) ⊎ (queue_told after ≡ after_wait (queue_told before)) →
    after.capacity ≡ before.capacity → SameWires before after
same_wires before after (inl e) capacity = record {
  told = e ∙ ap (λ n. record (queue_told before) { waits = n }) (sym (ap (λ (l : LinkTold). l.waits) e));
  capacity = capacity;
  lying = stays before after (inl e);
}
same_wires before after (inr e) capacity = record {
  told = e ∙ ap (λ n. record (queue_told before) { waits = n }) (sym (ap (λ (l : LinkTold). l.waits) e));
  capacity = capacity;
  lying = stays before after (inr e);
}

module _ {W D S : Type 0} (rules : Rules W) (driver_tells : D → Told rules.State) (store_tells : S → StoreTold)
    (ms new : List (RunMachine D S)) (worker : ℕ) (m next : RunMachine D S) (before after : QueueState)
    (at : slice_get ms worker ≡ Some m) (sets : new ≡ set ms worker next) where
  abbrev sight : RunMachine D S → Seen rules.State
  sight machine = seen driver_tells (port_tells store_tells) machine

  at_sight : slice_get (sights driver_tells store_tells ms) worker ≡ Some (sight m)
  at_sight = map_get sight ms worker m at

  sets_sight : sights driver_tells store_tells new ≡ set (sights driver_tells store_tells ms) worker (sight next)
  sets_sight = ap (λ (l : List (RunMachine D S)). sights driver_tells store_tells l) sets ∙ map_set sight ms worker next

  -- a machine that stands where it stood leaves all where they stood
  all_same : sight next ≡ sight m → sights driver_tells store_tells new ≡ sights driver_tells store_tells ms
  all_same e = sets_sight ∙ ap (λ x. set (sights driver_tells store_tells ms) worker x) e
      ∙ set_found (sights driver_tells store_tells ms) worker (sight m) at_sight

  waits_so : (cause : Why) → IsWait rules (sight m) (sight next) (queue_told before) (queue_told after) cause → after.capacity ≡ before.capacity →
      StepsTo rules (sights driver_tells store_tells ms) (sights driver_tells store_tells new) before after worker (Ok false)
  waits_so (why.Slot slot) h capacity = absurd (never_pends rules (sight m) (sight next) (queue_told before) (queue_told after) slot h refl refl)
  waits_so (why.Full to) h capacity = (
    all_same h.1,
    same_wires before after (inr h.2) capacity,
    subst (λ (o : Option (Seen rules.State)). IfSome o (StandsStill rules before)) (sym at_sight) (inr (record {
      before = before;
      after = after;
      same = same_itself before;
      why = why.Full to;
      at_link = λ slot e. absurd cc;
      wait = (h.0, refl, h.2, h.3);
    })),
  )
  waits_so (why.Empty from) h capacity = (
    all_same h.1,
    same_wires before after (inr h.2) capacity,
    subst (λ (o : Option (Seen rules.State)). IfSome o (StandsStill rules before)) (sym at_sight) (inr (record {
      before = before;
      after = after;
      same = same_itself before;
      why = why.Empty from;
      at_link = λ slot e. absurd cc;
      wait = (h.0, refl, h.2, h.3);
    })),
  )

  pub step_so : (answer : Result Turn MachineFault) → Steps rules (sight m) (sight next) (queue_told before) (queue_told after) answer →
      (IsEnded (sight m) → answer ≡ Ok turn.Ended) → ((part : WorkerPart) → Connects (queue_told before) part → Connects (queue_told after) part) →
      StepsTo rules (sights driver_tells store_tells ms) (sights driver_tells store_tells new) before after worker (run_answer worker answer)
  step_so (Ok (turn.Moved kind)) h ended connects = record {
    machine = sight m;
    next = sight next;
    at = at_sight;
    sets = sets_sight;
    links = before;
    same = same_itself before;
    kind = kind;
    move = h;
    capacity = capacity_stays rules (sight m) (sight next) before after (Ok (turn.Moved kind)) h;
    connects = connects;
    going = λ is. absurd (let never : Ok (turn.Moved kind) ≡ Ok turn.Ended = ended is in cc);
  }
  step_so (Ok (turn.Blocked cause)) h ended connects =
      waits_so cause h (capacity_stays rules (sight m) (sight next) before after (Ok (turn.Blocked cause)) h)
  step_so (Ok turn.Ended) h ended connects = (
    all_same h.1,
    same_wires before after (inl h.2) (capacity_stays rules (sight m) (sight next) before after (Ok turn.Ended) h),
    subst (λ (o : Option (Seen rules.State)). IfSome o (StandsStill rules before)) (sym at_sight) (inl h.0),
  )
  step_so (Err f) h ended connects = record {
    worker = worker;
    machine = sight m;
    next = sight next;
    at = at_sight;
    sets = sets_sight;
    stopped_by = f;
    is = refl;
    falls = h.0;
    same = same_wires before after (inl h.1) (capacity_stays rules (sight m) (sight next) before after (Err f) h);
  }
