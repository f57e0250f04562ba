-- Turns come to an end, and then all machines have ended.
use Rattle.std.proofs.Common.{◌≡◌, ◌≢◌, ◌<◌, ◌≤◌, ◌++◌, inl, inr, ℕ, zero, suc, true, false, Ok, Err, List, [], ◌∷◌, length, map, set, Option, None, Some, slice_get, refl, sym, ap, ◌∙◌, subst, arith}
use Rattle.std.proofs.lemmas.List.{length-map}
use Rattle.std.specs.Prelude.{IfSome}
use Rattle.std.specs.List.{All}
use Rattle.mage_base.specs.Store.{StoreTold}
use Rattle.mage_driver.specs.declared.standing.Standing.{Standing}
use Rattle.mage_driver.specs.Rules.{Rules}
use Rattle.mage_driver.specs.Calls.{Told}
use Rattle.mage_link.specs.Links as links
use Rattle.mage_link.specs.Links.{LinkTold}
use Rattle.mage_link.specs.Queues.{QueueState, queue_told, new_queues, received_from, lies_in}
use Rattle.mage_verify.specs.Parts.{WorkerPart}
use Rattle.mage_verify.specs.Runs.{AreVerified}
use Rattle.mage_engine.specs.declared.turn.Why.{Why}
use Rattle.mage_engine.specs.declared.turn.Why.TheVariants as why
use Rattle.mage_instr.specs.declared.directive.Directive.{Directive}
use Rattle.mage_engine.specs.Seen.{Seen, seen, directive_at, IsEnded, is_finished}
use Rattle.mage_engine.specs.Steps.{IsWait}
use Rattle.mage_progress.specs.Stands as progress
use Rattle.mage_progress.specs.Stands.{Stand, Held, at_first, next_in, HasEnded, GoesOn, IsReached, Starts, Goes, left_of}
use Rattle.mage_progress.specs.Machines.{stand_of, lying}
use Rattle.mage_progress.proofs.Tracking.{reached_same}
use Rattle.mage_progress.proofs.Stuck.{reached_ends, still_same}
use Rattle.mage_progress.proofs.Shrinking.{step_shrinks}
use Rattle.mage_progress.proofs.MachineLemmas.{next_is, moved_so, full_so, empty_so, ended_so, done_so}
use Rattle.mage_core.specs.declared.fault.RunFault.{RunFault}
use Rattle.mage_core.specs.Ports.{RunMachine, port_tells}
use Rattle.mage_core.specs.Made.{IsNew}
use Rattle.mage_core.specs.Turns.{sights, SameWires, Moves, StandsStill, TurnsTo}
use Rattle.mage_core.specs.Going.{Start, HasGone, EndsAs, start_of}
use Rattle.mage_core.specs.Reached.{parts_in, stands_in, GoOn}
use Rattle.mage_core.proofs.Holding.{all_head, all_tail}
use Rattle.mage_core.proofs.Starting.{if_some, if_found, map_get, get_within, all_start}
use Rattle.mage_core.proofs.Going.{LeavesLinks, link_leaves}
use Rattle.mage_core.proofs.Turning.{all_go_on, all_beside}

-- ---- lists

found_at : {X : Type 0} (xs : List X) (w : ℕ) → w < length xs → (x : X) × (slice_get xs w ≡ Some x)
found_at [] zero h = absurd (omega arith)
found_at [] (suc w) h = absurd (omega arith)
found_at (x ∷ xs) zero h = (x, refl)
found_at (x ∷ xs) (suc w) h = found_at xs w (omega arith)

map_set : {X Y : Type 0} (f : X → Y) (xs : List X) (k : ℕ) (y : X) → map f (set xs k y) ≡ set (map f xs) k (f y)
map_set f [] zero y = refl
map_set f [] (suc k) y = refl
map_set f (x ∷ xs) zero y = refl
map_set f (x ∷ xs) (suc k) y = ap (λ l. f x ∷ l) (map_set f xs k y)

set_found : {X : Type 0} (xs : List X) (k : ℕ) (x : X) → slice_get xs k ≡ Some x → set xs k x ≡ xs
set_found [] zero x e = refl
set_found [] (suc k) x e = refl
set_found (y ∷ xs) zero x e = let same : y ≡ x = cc in ap (λ z. z ∷ xs) (sym same)
set_found (y ∷ xs) (suc k) x e = ap (λ l. y ∷ l) (set_found xs k x e)

nothing_behind : {X : Type 0} (xs ys : List X) → xs ++ ys ≡ [] → ys ≡ []
nothing_behind [] ys e = e
nothing_behind (x ∷ xs) ys e = absurd cc

module _ {S : Type 0} where
  stands_get : (machines : List (Seen S)) (w : ℕ) (machine : Seen S) → slice_get machines w ≡ Some machine → stands_in machines w ≡ stand_of machine
  stands_get [] zero machine e = absurd cc
  stands_get [] (suc w) machine e = absurd cc
  stands_get (m ∷ ms) zero machine e = let same : m ≡ machine = cc in ap (λ (x : Seen S). stand_of x) same
  stands_get (m ∷ ms) (suc w) machine e = stands_get ms w machine e

  stands_here : (machines : List (Seen S)) (w : ℕ) (next : Seen S) → w < length machines → stands_in (set machines w next) w ≡ stand_of next
  stands_here [] zero next h = absurd (omega arith)
  stands_here [] (suc w) next h = absurd (omega arith)
  stands_here (m ∷ ms) zero next h = refl
  stands_here (m ∷ ms) (suc w) next h = stands_here ms w next (omega arith)

  stands_other : (machines : List (Seen S)) (w other : ℕ) (next : Seen S) → w ≢ other → stands_in (set machines w next) other ≡ stands_in machines other
  stands_other [] zero other next ne = refl
  stands_other [] (suc w) other next ne = refl
  stands_other (m ∷ ms) zero zero next ne = absurd (ne refl)
  stands_other (m ∷ ms) zero (suc other) next ne = refl
  stands_other (m ∷ ms) (suc w) zero next ne = refl
  stands_other (m ∷ ms) (suc w) (suc other) next ne = stands_other ms w other next (λ e. ne (ap suc e))

module _ {W : Type 0} (rules : Rules W) (starts : List (Start rules.State)) (parts : List WorkerPart) (verified : AreVerified parts) where
  abbrev part_in : Seen rules.State → WorkerPart
  part_in machine = machine.part

  -- the machine of a worker has its part
  here_so : (machines : List (Seen rules.State)) (w : ℕ) (machine : Seen rules.State) → parts_in machines ≡ parts → slice_get machines w ≡ Some machine →
      slice_get parts w ≡ Some machine.part
  here_so machines w machine are is = subst (λ (ps : List WorkerPart). slice_get ps w ≡ Some machine.part) are (map_get part_in machines w machine is)

  count_so : (machines : List (Seen rules.State)) → parts_in machines ≡ parts → length machines ≡ length parts
  count_so machines are = sym (length-map machines part_in) ∙ ap length are

  -- ---- a machine moves

  module _ (old new : List (Seen rules.State)) (before after : QueueState) (worker : ℕ) (m : Moves rules old new before after worker)
      (h : GoOn rules starts parts old before) where
    inside : worker < length old
    inside = get_within old worker m.machine m.at

    on : GoesOn parts worker (stands_in old) (lying m.links) (stands_in (set old worker m.next)) (lying after)
    on = moved_so rules parts worker m.machine m.next m.links after verified (here_so old worker m.machine h.parts_are m.at)
        (stands_in old) (stands_in (set old worker m.next)) m.kind m.move m.going (stands_get old worker m.machine m.at) (stands_here old worker m.next inside)
        (λ other within ne. stands_other old worker other m.next ne)

    reached : IsReached parts (stands_in old) (lying m.links)
    reached = reached_same parts (stands_in old) (stands_in old) (lying before) (lying m.links) h.reached (λ w within. refl) m.same.lying

    within : worker < length parts
    within = subst (λ n. worker < n) (count_so old h.parts_are) inside

    -- it isn't one beside the workers
    leaves : (s : ℕ) → length starts ≤ s → LeavesLinks s (queue_told m.links) (queue_told after)
    leaves s beyond =
        let gone = if_found (HasGone rules starts worker before) (slice_get old worker) m.machine m.at (h.gone worker) in
        let number : m.machine.part.worker ≡ worker = ap (λ (p : WorkerPart). p.worker) gone.going.part ∙ gone.going.number in
        let below : worker < length starts = get_within starts worker gone.start gone.from in
        link_leaves (directive_at m.machine) m.machine.part.worker s (queue_told m.links) (queue_told after)
        (omega (arith, number, below, beyond)) m.move.link

    pub goes_on_so : GoOn rules starts parts new after
    goes_on_so = record {
      gone = all_go_on rules starts old new before after worker m h.gone;
      parts_are = ap (λ (ms : List (Seen rules.State)). parts_in ms) m.sets ∙ map_set part_in old worker m.next
          ∙ ap (λ (p : WorkerPart). set (parts_in old) worker p) (ap (λ (x : Seen rules.State). x.part) m.move.rest)
          ∙ set_found (parts_in old) worker m.machine.part (map_get part_in old worker m.machine m.at) ∙ h.parts_are;
      reached = subst (λ (ms : List (Seen rules.State)). IsReached parts (stands_in ms) (lying after)) (sym m.sets) (Goes reached within on);
      capacity = m.capacity ∙ h.capacity;
      quiet = λ s t beyond. (leaves s beyond).sent t ∙ ap (λ (l : LinkTold). l.sent s t) m.same.told ∙ h.quiet s t beyond;
    }

    pub less_is_left : left_of parts (stands_in new) < left_of parts (stands_in old)
    less_is_left = subst (λ (ms : List (Seen rules.State)). left_of parts (stands_in ms) < left_of parts (stands_in old)) (sym m.sets)
        (step_shrinks parts (stands_in old) (stands_in (set old worker m.next)) (lying m.links) (lying after) worker verified reached within on)

  -- ---- all stand still

  module _ (machines : List (Seen rules.State)) (links : QueueState) (h : GoOn rules starts parts machines links)
      (still : (w : ℕ) → IfSome (slice_get machines w) (StandsStill rules links)) where
    abbrev Still : ℕ → Type 0
    Still w = progress.StandsStill parts (stands_in machines) 64 w (lying links)

    next_at : (w : ℕ) (machine : Seen rules.State) → slice_get machines w ≡ Some machine → next_in parts (stands_in machines) w ≡ directive_at machine
    next_at w machine is = next_is rules parts w (stands_in machines) machine (here_so machines w machine h.parts_are is) (stands_get machines w machine is)

    waits_so : (w : ℕ) (machine : Seen rules.State) (before after : QueueState) (cause : Why) → slice_get machines w ≡ Some machine → SameWires links before →
        ((slot : ℕ) → cause ≡ why.Slot slot → ⊥) → IsWait rules machine machine (queue_told before) (queue_told after) cause → Still w
    waits_so w machine before after (why.Slot slot) is same at wait = absurd (at slot refl)
    waits_so w machine before after (why.Full to) is same at wait =
        still_same parts (stands_in machines) (stands_in machines) 64 w (lying before) (lying links) refl (λ s t. sym (same.lying s t))
        (inr (subst (λ n. progress.Waits (next_in parts (stands_in machines) w) n w (lying before)) (same.capacity ∙ h.capacity)
        (subst (λ (o : Option Directive). progress.Waits o before.capacity w (lying before)) (sym (next_at w machine is))
        (full_so rules parts w machine machine before after verified (here_so machines w machine h.parts_are is) to wait))))
    waits_so w machine before after (why.Empty from) is same at wait =
        still_same parts (stands_in machines) (stands_in machines) 64 w (lying before) (lying links) refl (λ s t. sym (same.lying s t))
        (inr (subst (λ n. progress.Waits (next_in parts (stands_in machines) w) n w (lying before)) (same.capacity ∙ h.capacity)
        (subst (λ (o : Option Directive). progress.Waits o before.capacity w (lying before)) (sym (next_at w machine is))
        (empty_so rules parts w machine machine before after verified (here_so machines w machine h.parts_are is) from wait))))

    still_so : (w : ℕ) (machine : Seen rules.State) → slice_get machines w ≡ Some machine → StandsStill rules links machine → Still w
    still_so w machine is (inl ended) =
        inl (subst (λ (s : Stand). HasEnded (next_in parts (stands_in machines) w) s) (sym (stands_get machines w machine is))
        (subst (λ (o : Option Directive). HasEnded o (stand_of machine)) (sym (next_at w machine is)) (ended_so rules machine ended)))
    still_so w machine is (inr waits) = waits_so w machine waits.before waits.after waits.why is waits.same waits.at_link waits.wait

    pub all_have_ended : (w : ℕ) → IfSome (slice_get machines w) IsEnded
    all_have_ended w = if_some (StandsStill rules links) IsEnded (slice_get machines w) (λ machine is stands.
        let inside : w < length parts = subst (λ n. w < n) (count_so machines h.parts_are) (get_within machines w machine is) in
        let ended : HasEnded (next_in parts (stands_in machines) w) (stands_in machines w) =
        reached_ends parts 64 (stands_in machines) (lying links) verified (omega arith) h.reached
        (λ v below. let found = found_at machines v (subst (λ n. v < n) (sym (count_so machines h.parts_are)) below) in
        still_so v found.0 found.1 (if_found (StandsStill rules links) (slice_get machines v) found.0 found.1 (still v))) w inside in
        done_so rules machine (subst (λ (o : Option Directive). HasEnded o (stand_of machine)) (next_at w machine is)
        (subst (λ (s : Stand). HasEnded (next_in parts (stands_in machines) w) s) (stands_get machines w machine is) ended))) (still w)

  -- ---- what a turn leaves

  pub turned_on : (old new : List (Seen rules.State)) (before after : QueueState) → GoOn rules starts parts old before → TurnsTo rules old new before after (Ok true) →
      GoOn rules starts parts new after × (left_of parts (stands_in new) < left_of parts (stands_in old))
  turned_on old new before after h t = (goes_on_so old new before after t.0 t.1 h, less_is_left old new before after t.0 t.1 h)

  pub turned_last : (old new : List (Seen rules.State)) (before after : QueueState) → GoOn rules starts parts old before → TurnsTo rules old new before after (Ok false) →
      EndsAs rules starts new after None
  turned_last old new before after h t =
      subst (λ (ms : List (Seen rules.State)). EndsAs rules starts ms after None) (sym t.0) (
        all_beside rules starts old before after t.1 h.gone,
        all_have_ended old before h t.2,
        λ s target beyond. ap (λ (l : LinkTold). l.sent s target) t.1.told ∙ h.quiet s target beyond,
      )

  pub turned_down : (old new : List (Seen rules.State)) (before after : QueueState) (found : RunFault) → GoOn rules starts parts old before →
      TurnsTo rules old new before after (Err found) → EndsAs rules starts new after (Some found)
  turned_down old new before after found h t = (old, before, h.gone, t, h.quiet)

-- ---- at first

module _ {W D S : Type 0} (rules : Rules W) (driver_tells : D → Told rules.State) (store_tells : S → StoreTold) where
  abbrev sight : RunMachine D S → Seen rules.State
  sight machine = seen driver_tells (port_tells store_tells) machine

  same_parts : (machines : List (RunMachine D S)) → parts_in (sights driver_tells store_tells machines) ≡ map (λ machine. machine.part) machines
  same_parts [] = refl
  same_parts (m ∷ ms) = ap (λ l. m.part ∷ l) (same_parts ms)

  stands_first : (machines : List (RunMachine D S)) (w : ℕ) → All (IsNew rules driver_tells store_tells) machines →
      stands_in (sights driver_tells store_tells machines) w ≡ at_first
  stands_first [] w all = refl
  stands_first (m ∷ ms) zero all =
      ap (λ (x : Seen rules.State). stand_of x) (all_head (IsNew rules driver_tells store_tells) m ms all).opens
      ∙ ap (λ (s : Standing). record { place = 0; wire = 0; finished = is_finished s }) (all_head (IsNew rules driver_tells store_tells) m ms all).running
  stands_first (m ∷ ms) (suc w) all = stands_first ms w (all_tail (IsNew rules driver_tells store_tells) m ms all)

  pub goes_first : (machines : List (RunMachine D S)) (queues : QueueState) → All (IsNew rules driver_tells store_tells) machines →
      AreVerified (map (λ machine. machine.part) machines) → queues ≡ new_queues (length machines) 64 → links.IsUnused (queue_told queues) →
      GoOn rules (map (start_of driver_tells store_tells) machines) (map (λ machine. machine.part) machines) (sights driver_tells store_tells machines) queues
  goes_first machines queues new verified are unused = record {
    gone = all_start rules driver_tells store_tells queues machines verified are unused new;
    parts_are = same_parts machines;
    reached = Starts (λ w within. stands_first machines w new)
        (λ s t. ap length (nothing_behind (received_from queues s t) (lies_in queues s t) (unused.sent s t)));
    capacity = ap (λ (q : QueueState). q.capacity) are;
    quiet = λ s t beyond. unused.sent s t;
  }
