-- A whole run, from its pieces.
use Rattle.std.proofs.Common.{◌≡◌, ◌++◌, ℕ, zero, suc, List, [], ◌∷◌, map, set, Option, None, Some, slice_get, refl, sym, ap, ap₂, ◌∙◌, subst}
use Rattle.std.proofs.lemmas.List.{reverse-append, map-append}
use Rattle.std.proofs.lemmas.List.Elements.{All-append, All-cons}
use Rattle.std.specs.Prelude.{IfSome, reverse}
use Rattle.std.specs.List.{All}
use Rattle.mage_base.specs.Store.{StoreTold}
use Rattle.mage_instr.specs.declared.fault.MachineFault.{MachineFault}
use Rattle.mage_instr.specs.declared.fault.MachineFault.TheVariants as stops
use Rattle.mage_driver.specs.Rules.{Rules}
use Rattle.mage_driver.specs.Calls.{Told}
use Rattle.mage_link.specs.Queues.{QueueState}
use Rattle.mage_engine.specs.Seen.{Seen, seen, IsEnded}
use Rattle.mage_engine.specs.Steps.{IsFall}
use Rattle.mage_core.specs.declared.fault.RunFault.{RunFault}
use Rattle.mage_core.specs.declared.fault.RunFault.TheVariants as fault
use Rattle.mage_core.specs.Ports.{RunMachine, port_tells, store_of, CameBy}
use Rattle.mage_core.specs.Made.{IsNew}
use Rattle.mage_core.specs.Turns.{sights, run_fault, Falls}
use Rattle.mage_core.specs.Going.{Start, HasGone, AllGo, EndsAs, start_of}
use Rattle.mage_core.specs.Results.{starts_of, Back, IsDone, CausedBy, ComesTo}
use Rattle.mage_core.proofs.Starting.{if_found, map_get, all_get}
use Rattle.mage_core.proofs.Holding.{all_head, all_tail, all_none}
use Rattle.mage_core.proofs.Ending.{done_so, caused_so}

-- ---- lists

pub rev_cons : {X : Type 0} (x : X) (xs : List X) → reverse (x ∷ xs) ≡ reverse xs ++ x ∷ []
rev_cons x xs = reverse-append (x ∷ []) xs

pub map_reverse : {X Y : Type 0} (f : X → Y) (xs : List X) → map f (reverse xs) ≡ reverse (map f xs)
map_reverse f [] = refl
map_reverse f (x ∷ xs) =
    ap (map f) (rev_cons x xs) ∙ map-append f (reverse xs) (x ∷ []) ∙ ap (λ l. l ++ f x ∷ []) (map_reverse f xs) ∙ sym (rev_cons (f x) (map f xs))

pub all_reverse : {X : Type 0} (P : X → Type 0) (xs : List X) → All P xs → All P (reverse xs)
all_reverse P [] all = all
all_reverse P (x ∷ xs) all =
    subst (All P) (sym (rev_cons x xs)) (All-append P (reverse xs) (x ∷ []) (all_reverse P xs (all_tail P x xs all)) (All-cons P x [] (all_head P x xs all) (all_none P)))

-- what is found in a mapped list comes of something
pub unmap : {X Y : Type 0} (f : X → Y) (xs : List X) (w : ℕ) (y : Y) → slice_get (map f xs) w ≡ Some y → (x : X) × (slice_get xs w ≡ Some x) × (f x ≡ y)
unmap f [] zero y e = absurd cc
unmap f [] (suc w) y e = absurd cc
unmap f (x ∷ xs) zero y e = (x, refl, let same : f x ≡ y = cc in same)
unmap f (x ∷ xs) (suc w) y e = unmap f xs w y e

pub some_one : {X : Type 0} (x y : X) → Some x ≡ Some y → x ≡ y
some_one x y e = cc

get_set : {X : Type 0} (xs : List X) (w : ℕ) (x y : X) → slice_get xs w ≡ Some x → slice_get (set xs w y) w ≡ Some y
get_set [] zero x y e = absurd cc
get_set [] (suc w) x y e = absurd cc
get_set (z ∷ xs) zero x y e = refl
get_set (z ∷ xs) (suc w) x y e = get_set xs w x y e

pub head_one : {X : Type 0} (x y : X) → Some (x ∷ []) ≡ Some (y ∷ []) → x ≡ y
head_one x y e = cc

module _ {W D S : Type 0} (rules : Rules W) (driver_tells : D → Told rules.State) (store_tells : S → StoreTold) where
  abbrev pub sight : RunMachine D S → Seen rules.State
  sight machine = seen driver_tells (port_tells store_tells) machine

  abbrev pub drivers_in : List (RunMachine D S) → List (Told rules.State)
  drivers_in machines = map driver_tells (map (λ machine. machine.driver) machines)

  abbrev pub stores_in : List (RunMachine D S) → List (List StoreTold)
  stores_in machines = map (λ shelf. map store_tells shelf) (map (λ machine. store_of machine ∷ []) machines)

  -- the workers are those that the machines started from
  pub starts_so : (machines : List (RunMachine D S)) → All (IsNew rules driver_tells store_tells) machines →
      starts_of (map (λ machine. machine.part) machines) (drivers_in machines) (stores_in machines) ≡ map (start_of driver_tells store_tells) machines
  starts_so [] all = refl
  starts_so (m ∷ ms) all =
      ap₂ (λ (s : S) (l : List (Start rules.State)). record { part = m.part; driver = driver_tells m.driver; store = store_tells s } ∷ l)
      (sym (all_head (IsNew rules driver_tells store_tells) m ms all).first) (starts_so ms (all_tail (IsNew rules driver_tells store_tells) m ms all))

  pub driver_at : (machines : List (RunMachine D S)) (w : ℕ) (machine : RunMachine D S) → slice_get machines w ≡ Some machine →
      slice_get (drivers_in machines) w ≡ Some (driver_tells machine.driver)
  driver_at machines w machine is = map_get driver_tells (map (λ machine. machine.driver) machines) w machine.driver (map_get (λ (m : RunMachine D S). m.driver) machines w machine is)

  pub store_at : (machines : List (RunMachine D S)) (w : ℕ) (machine : RunMachine D S) → slice_get machines w ≡ Some machine →
      slice_get (stores_in machines) w ≡ Some (store_tells (store_of machine) ∷ [])
  store_at machines w machine is =
      map_get (λ (shelf : List S). map store_tells shelf) (map (λ machine. store_of machine ∷ []) machines) w (store_of machine ∷ [])
      (map_get (λ (m : RunMachine D S). store_of m ∷ []) machines w machine is)

  module _ (starts : List (Start rules.State)) (machines : List (RunMachine D S)) (came : All (CameBy store_tells) machines) where
    -- each worker has ended
    done_all : (links : QueueState) → AllGo rules starts (sights driver_tells store_tells machines) links →
        ((w : ℕ) → IfSome (slice_get (sights driver_tells store_tells machines) w) IsEnded) →
        (w : ℕ) (back : Back starts (drivers_in machines) (stores_in machines) w) → IsDone back.start back.driver back.store
    done_all links all ended w back =
        let of_driver = unmap driver_tells (map (λ machine. machine.driver) machines) w back.driver back.driver_so in
        let of = unmap (λ (m : RunMachine D S). m.driver) machines w of_driver.0 of_driver.1 in
        let m = of.0 in
        let at = map_get sight machines w m of.1 in
        let gone = if_found (HasGone rules starts w links) _ (sight m) at (all w) in
        let done = done_so rules driver_tells store_tells gone.start w links m gone.going (if_found IsEnded _ (sight m) at (ended w))
        (all_get (CameBy store_tells) machines w m came of.1) in
        let start : gone.start ≡ back.start = some_one gone.start back.start (sym gone.from ∙ back.starts_so) in
        let driver : driver_tells m.driver ≡ back.driver = some_one _ _ (sym (driver_at machines w m of.1) ∙ back.driver_so) in
        let store : store_tells (store_of m) ≡ back.store = head_one _ _ (sym (store_at machines w m of.1) ∙ back.store_so) in
        subst (λ (s : Start rules.State). IsDone s back.driver back.store) start
        (subst (λ (d : Told rules.State). IsDone gone.start d back.store) driver
        (subst (λ (s : StoreTold). IsDone gone.start (driver_tells m.driver) s) store done))

    -- one stopped
    caused_one : (before : List (Seen rules.State)) (old links : QueueState) (found : RunFault) → AllGo rules starts before old →
        Falls rules before (sights driver_tells store_tells machines) old links found → ComesTo starts (drivers_in machines) (stores_in machines) (Some found)
    caused_one before old links found all f =
        let at_next : slice_get (sights driver_tells store_tells machines) f.worker ≡ Some f.next =
        ap (λ (ms : List (Seen rules.State)). slice_get ms f.worker) f.sets ∙ get_set before f.worker f.machine f.next f.at in
        let of = unmap sight machines f.worker f.next at_next in
        let m = of.0 in
        let gone = if_found (HasGone rules starts f.worker old) _ f.machine f.at (all f.worker) in
        let back : Back starts (drivers_in machines) (stores_in machines) f.worker = record {
          start = gone.start;
          driver = driver_tells m.driver;
          store = store_tells (store_of m);
          starts_so = gone.from;
          driver_so = driver_at machines f.worker m of.1;
          store_so = store_at machines f.worker m of.1;
        } in
        let caused = caused_so rules driver_tells store_tells gone.start f.worker old f.machine m f.stopped_by gone.going
        (subst (λ (x : Seen rules.State). IsFall rules f.machine x f.machine.fault f.stopped_by) (sym of.2) f.falls)
        (all_get (CameBy store_tells) machines f.worker m came of.1) in
        subst (λ (r : RunFault). ComesTo starts (drivers_in machines) (stores_in machines) (Some r)) (sym f.is)
        (by_fault f.worker f.stopped_by back caused)
      where
        by_fault : (worker : ℕ) (stopped : MachineFault) (back : Back starts (drivers_in machines) (stores_in machines) worker) →
            CausedBy back.start back.driver back.store (run_fault worker stopped) → ComesTo starts (drivers_in machines) (stores_in machines) (Some (run_fault worker stopped))
        by_fault worker stops.Store back caused = (back, caused)
        by_fault worker (stops.Driver f) back caused = (back, caused)
        by_fault worker (stops.Damaged damage) back caused = (back, caused)

    pub comes_so : (links : QueueState) (result : Option RunFault) → EndsAs rules starts (sights driver_tells store_tells machines) links result →
        ComesTo starts (drivers_in machines) (stores_in machines) result
    comes_so links None ends = done_all links ends.0 ends.1
    comes_so links (Some found) ends = caused_one ends.0 ends.1 links found ends.2 ends.3

  -- a fault of the outside isn't want of memory
  pub never_memory : (starts : List (Start rules.State)) (machines : List (Seen rules.State)) (links : QueueState) (result : Option RunFault) →
      EndsAs rules starts machines links result → result ≡ Some fault.Memory → ⊥
  never_memory starts machines links None ends e = absurd cc
  never_memory starts machines links (Some found) ends e = by_fault found ends.3.worker ends.3.stopped_by ends.3.is (some_one found fault.Memory e)
    where
      by_fault : (found : RunFault) (worker : ℕ) (stopped : MachineFault) → found ≡ run_fault worker stopped → found ≡ fault.Memory → ⊥
      by_fault found worker stops.Store is e = absurd (let never : fault.Store worker ≡ fault.Memory = sym is ∙ e in cc)
      by_fault found worker (stops.Driver f) is e = absurd (let never : fault.Driver worker f ≡ fault.Memory = sym is ∙ e in cc)
      by_fault found worker (stops.Damaged damage) is e = absurd (let never : fault.Damaged worker damage ≡ fault.Memory = sym is ∙ e in cc)

-- what holds but for want of memory
pub but_for_memory : {S : Type 0} (starts : List (Start S)) (drivers : List (Told S)) (stores : List (List StoreTold)) (result : Option RunFault) →
    ((result ≡ Some fault.Memory → ⊥) → ComesTo starts drivers stores result) → ComesTo starts drivers stores result
but_for_memory starts drivers stores None h = h (λ e. absurd cc)
but_for_memory starts drivers stores (Some fault.Memory) h = tt
but_for_memory starts drivers stores (Some (fault.Store worker)) h = h (λ e. absurd cc)
but_for_memory starts drivers stores (Some (fault.Driver worker f)) h = h (λ e. absurd cc)
but_for_memory starts drivers stores (Some (fault.Damaged worker damage)) h = h (λ e. absurd cc)
