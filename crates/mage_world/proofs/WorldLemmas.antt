-- One worker of a world changes.
use Rattle.std.proofs.Common.{◌≡◌, ◌≢◌, ◌<◌, ◌≤◌, ◌+◌, ℕ, zero, suc, Bool, true, false, List, [], ◌∷◌, length, map, set, nat_eq, Option, Some, None, Result, Ok, Err, refl, sym, ap, ap₂, ◌∙◌, subst, arith}
use Rattle.std.specs.Prelude.{slice_get, IfSome}
use Rattle.std.proofs.lemmas.Bool.{eqb-true, eqb-false}
use Rattle.std.proofs.lemmas.List.{length-set}
use Rattle.mage_link.specs.Queues.{LinkState}
use Rattle.mage_instr.specs.declared.directive.Directive.{Directive}
use Rattle.mage_instr.specs.declared.replaced.Limits.{Limits}
use Rattle.mage_directives.specs.Directives.{IsDirective, IsPart}
use Rattle.mage_driver.specs.Rules.{Rules}
use Rattle.mage_driver.specs.Calls.{Told}
use Rattle.mage_network.specs.Slots.{Service, becomes}
use Rattle.mage_verify.specs.Parts.{WorkerPart, part_of, parts_from}
use Rattle.mage_verify.specs.Runs.{AreVerified}
use Rattle.mage_world.specs.declared.event.Kind.{Kind}
use Rattle.mage_world.specs.declared.event.ApplyError.{ApplyError}
use Rattle.mage_world.specs.declared.event.ApplyError.TheVariants as error
use Rattle.mage_world.specs.declared.worker.Worker.{Worker}
use Rattle.mage_world.specs.Seats.{Seat, state_of, seat_of, Stands, IsLinked}
use Rattle.mage_world.specs.Turns.{Wires, KindTurns}
use Rattle.mage_world.specs.Worlds.{Seen, seen, seats_of, wires_of, IsWorld, Each, Served, What, IsTurn, IsService, HappensAt, CanBe, Changes}

-- ---- one element of a list

pub get_set_same : {X : Type 0} (xs : List X) (n : ℕ) (x : X) → n < length xs → slice_get (set xs n x) n ≡ Some x
get_set_same [] n x inside = absurd (omega arith)
get_set_same (y ∷ xs) zero x inside = refl
get_set_same (y ∷ xs) (suc n) x inside = get_set_same xs n x (omega arith)

pub get_set_other : {X : Type 0} (xs : List X) (n m : ℕ) (x : X) → n ≢ m → slice_get (set xs n x) m ≡ slice_get xs m
get_set_other [] n m x apart = refl
get_set_other (y ∷ xs) zero zero x apart = absurd (apart refl)
get_set_other (y ∷ xs) zero (suc m) x apart = refl
get_set_other (y ∷ xs) (suc n) zero x apart = refl
get_set_other (y ∷ xs) (suc n) (suc m) x apart = get_set_other xs n m x (λ e. apart (ap suc e))

pub set_same : {X : Type 0} (xs : List X) (n : ℕ) (x : X) → slice_get xs n ≡ Some x → set xs n x ≡ xs
set_same [] n x e = refl
set_same (y ∷ xs) zero x e = let same : y ≡ x = cc in ap (λ z. z ∷ xs) (sym same)
set_same (y ∷ xs) (suc n) x e = ap (λ zs. y ∷ zs) (set_same xs n x e)

pub within : {X : Type 0} (xs : List X) (n : ℕ) (x : X) → slice_get xs n ≡ Some x → n < length xs
within [] n x e = absurd cc
within (y ∷ xs) zero x e = omega arith
within (y ∷ xs) (suc n) x e = let rest = within xs n x e in omega arith

some_same : {X : Type 0} (o : Option X) (x y : X) → o ≡ Some x → o ≡ Some y → x ≡ y
some_same o x y e f = let same : Some x ≡ Some y = sym e ∙ f in cc

-- ---- seats

module _ {D W : Type 0} (rules : Rules W) (tells : D → Told rules.State) where
  pub seat_here : (parts : List WorkerPart) (drivers : List D) (workers : List Worker) (n : ℕ) (part : WorkerPart) (driver : D) (worker : Worker) →
      slice_get parts n ≡ Some part → slice_get drivers n ≡ Some driver → slice_get workers n ≡ Some worker →
      slice_get (seats_of rules tells parts drivers (map state_of workers)) n ≡ Some (seat_of rules part.limits.page (tells driver) (state_of worker))
  seat_here [] drivers workers n part driver worker p d w = absurd cc
  seat_here (q ∷ parts) [] workers n part driver worker p d w = absurd cc
  seat_here (q ∷ parts) (e ∷ drivers) [] n part driver worker p d w = absurd cc
  seat_here (q ∷ parts) (e ∷ drivers) (v ∷ workers) zero part driver worker p d w =
      let sp : q ≡ part = cc in let sd : e ≡ driver = cc in let sw : v ≡ worker = cc in
      ap₂ (λ (x : WorkerPart) (y : D). Some (seat_of rules x.limits.page (tells y) (state_of v))) sp sd
      ∙ ap (λ (z : Worker). Some (seat_of rules part.limits.page (tells driver) (state_of z))) sw
  seat_here (q ∷ parts) (e ∷ drivers) (v ∷ workers) (suc n) part driver worker p d w = seat_here parts drivers workers n part driver worker p d w

  pub seats_set : (parts : List WorkerPart) (drivers : List D) (workers : List Worker) (n : ℕ) (part : WorkerPart) (driver : D) (worker : Worker) →
      slice_get parts n ≡ Some part → length drivers ≡ length parts → length workers ≡ length parts →
      seats_of rules tells parts (set drivers n driver) (map state_of (set workers n worker))
      ≡ set (seats_of rules tells parts drivers (map state_of workers)) n (seat_of rules part.limits.page (tells driver) (state_of worker))
  seats_set [] drivers workers n part driver worker p d w = absurd cc
  seats_set (q ∷ parts) [] workers n part driver worker p d w = absurd (omega arith)
  seats_set (q ∷ parts) (e ∷ drivers) [] n part driver worker p d w = absurd (omega arith)
  seats_set (q ∷ parts) (e ∷ drivers) (v ∷ workers) zero part driver worker p d w =
      let sp : q ≡ part = cc in
      ap (λ (x : WorkerPart). seat_of rules x.limits.page (tells driver) (state_of worker) ∷ seats_of rules tells parts drivers (map state_of workers)) sp
  seats_set (q ∷ parts) (e ∷ drivers) (v ∷ workers) (suc n) part driver worker p d w =
      ap (λ ss. seat_of rules q.limits.page (tells e) (state_of v) ∷ ss) (seats_set parts drivers workers n part driver worker p (omega arith) (omega arith))

  pub each_set : (parts : List WorkerPart) (drivers : List D) (workers : List Worker) (n : ℕ) (part : WorkerPart) (driver : D) (worker : Worker) →
      slice_get parts n ≡ Some part → n < length drivers → n < length workers → Each rules tells parts drivers workers →
      Stands rules part (tells driver) worker → Each rules tells parts (set drivers n driver) (set workers n worker)
  each_set parts drivers workers n part driver worker at_part in_drivers in_workers each stands m q e v is_q is_e is_v = go (nat_eq n m) refl
    where
      go : (b : Bool) → nat_eq n m ≡ b → Stands rules q (tells e) v
      go true same =
          let here = eqb-true n m same in
          let sq = some_same (slice_get parts n) part q at_part (subst (λ k. slice_get parts k ≡ Some q) (sym here) is_q) in
          let se = some_same (slice_get (set drivers n driver) n) driver e (get_set_same drivers n driver in_drivers)
          (subst (λ k. slice_get (set drivers n driver) k ≡ Some e) (sym here) is_e) in
          let sv = some_same (slice_get (set workers n worker) n) worker v (get_set_same workers n worker in_workers)
          (subst (λ k. slice_get (set workers n worker) k ≡ Some v) (sym here) is_v) in
          subst (λ (x : WorkerPart). Stands rules x (tells e) v) sq
          (subst (λ (x : D). Stands rules part (tells x) v) se
          (subst (λ (x : Worker). Stands rules part (tells driver) x) sv stands))
      go false apart =
          let other = eqb-false n m apart in
          each m q e v is_q (sym (get_set_other drivers n m driver other) ∙ is_e) (sym (get_set_other workers n m worker other) ∙ is_v)

-- ---- parts

part_at : (limits : Limits) (stores : List ℕ) (first : ℕ) (workers : List (List Directive)) (n : ℕ) (part : WorkerPart) →
    slice_get (parts_from limits stores first workers) n ≡ Some part →
    (directives : List Directive) × (slice_get workers n ≡ Some directives) × (part.worker ≡ first + n) × (part.directives ≡ directives)
part_at limits stores first [] n part e = absurd cc
part_at limits stores first (ds ∷ workers) zero part e =
    let same : part_of limits stores first ds ≡ part = cc in
    let zero_more : first ≡ first + 0 = omega arith in
    (ds, refl, sym (ap (λ (p : WorkerPart). p.worker) same) ∙ zero_more, sym (ap (λ (p : WorkerPart). p.directives) same))
part_at limits stores first (ds ∷ workers) (suc n) part e =
    let found = part_at limits stores (first + 1) workers n part e in
    let number : first + 1 + n ≡ first + suc n = omega arith in
    (found.0, found.1, found.2 ∙ number, found.3)

parts_count : (limits : Limits) (stores : List ℕ) (first : ℕ) (workers : List (List Directive)) →
    length (parts_from limits stores first workers) ≡ length workers
parts_count limits stores first [] = refl
parts_count limits stores first (ds ∷ workers) = ap suc (parts_count limits stores (first + 1) workers)

pub linked : (parts : List WorkerPart) (n : ℕ) (part : WorkerPart) → AreVerified parts → slice_get parts n ≡ Some part → IsLinked (length parts) part
linked parts n part verified here =
    let plan = verified.whole.0 in
    let whole = verified.whole.1 in
    let same = verified.whole.2 in
    let found = part_at plan.limits plan.stores 0 plan.workers n part (ap (λ ps. slice_get ps n) (sym same) ∙ here) in
    let count : length parts ≡ length plan.workers = ap (λ (ps : List WorkerPart). length ps) same ∙ parts_count plan.limits plan.stores 0 plan.workers in
    let inside = within parts n part here in
    let none_more : 0 + n ≡ n = omega arith in
    let number : part.worker ≡ n = found.2 ∙ none_more in
    let own : IsPart (length plan.workers) n found.0 = subst (λ (o : Option (List Directive)). IfSome o (IsPart (length plan.workers) n)) found.1 (whole.parts n) in
    record {
      within = subst (λ k. k < length parts) (sym number) inside;
      each = λ d. subst (λ k. IfSome (slice_get part.directives d) (IsDirective k part.worker)) (sym count)
          (subst (λ k. IfSome (slice_get part.directives d) (IsDirective (length plan.workers) k)) (sym number)
          (subst (λ ds. IfSome (slice_get ds d) (IsDirective (length plan.workers) n)) (sym found.3) (own.each d)));
    }

-- as many workers as a program may have
pub some_parts : (parts : List WorkerPart) → AreVerified parts → (1 ≤ length parts) × (length parts ≤ 16)
some_parts parts verified =
    let plan = verified.whole.0 in
    let whole = verified.whole.1 in
    let count : length parts ≡ length plan.workers = ap (λ (ps : List WorkerPart). length ps) verified.whole.2 ∙ parts_count plan.limits plan.stores 0 plan.workers in
    (subst (λ k. 1 ≤ k) (sym count) whole.some_worker, subst (λ k. k ≤ 16) (sym count) whole.few)

-- ---- what an event comes to

module _ {W : Type 0} (rules : Rules W) (old new : Seen rules.State) (n : ℕ) (part : WorkerPart) (was is : Seat rules.State)
    (part_is : slice_get old.parts n ≡ Some part) (was_is : slice_get old.seats n ≡ Some was) where
  kept : is ≡ was → new.wires ≡ old.wires → new ≡ record old { seats = set old.seats n is; wires = new.wires } → new ≡ old
  kept same links rest =
      rest ∙ ap₂ (λ (ss : List (Seat rules.State)) (ws : Wires). record old { seats = ss; wires = ws })
      (ap (λ s. set old.seats n s) same ∙ set_same old.seats n was was_is) links

  changes : new ≡ record old { seats = set old.seats n is; wires = new.wires } → Changes rules old new n part was is
  changes rest = record { part_is = part_is; was_is = was_is; rest = rest }

  same_part : (p : WorkerPart) → slice_get old.parts n ≡ Some p → p ≡ part
  same_part p e = some_same (slice_get old.parts n) p part e part_is

  same_seat : (s : Seat rules.State) → slice_get old.seats n ≡ Some s → s ≡ was
  same_seat s e = some_same (slice_get old.seats n) s was e was_is

  pub turn_happens : (one : Kind) (result : Result (Unit {0}) ApplyError) → new ≡ record old { seats = set old.seats n is; wires = new.wires } →
      KindTurns rules part one old.capacity was is old.wires new.wires result → HappensAt rules old new n (IsTurn one) result
  turn_happens one (Ok u) rest turned = ((part, was, part_is, was_is, turned.0), part, was, is, changes rest, turned.1)
  turn_happens one (Err error.NotEnabled) rest turned = (
    λ can. turned.0 (subst (λ (p : WorkerPart). IsEnabledAt p was) (same_part can.0 can.2) (subst (λ (s : Seat rules.State). IsEnabledAt can.0 s) (same_seat can.1 can.3) can.4)),
    kept turned.1 turned.2 rest,
  )
    where
      IsEnabledAt : WorkerPart → Seat rules.State → Type 0
      IsEnabledAt p s = CanBe rules (IsTurn one) old.capacity p s old.wires
  turn_happens one (Err (error.Driver fault)) rest turned = ((part, was, part_is, was_is, turned.0), part, was, is, changes rest, turned.1)

  pub service_happens : (one : Service) (result : Result (Unit {0}) ApplyError) → new ≡ record old { seats = set old.seats n is; wires = new.wires } →
      new.wires ≡ old.wires → Served one was is result → HappensAt rules old new n (IsService one) result
  service_happens one (Ok u) rest links served = ((part, was, part_is, was_is, (is.core, served.0)), part, was, is, changes rest, (served.0, served.1, links))
  service_happens one (Err error.NotEnabled) rest links served = (
    λ can.
        let same = same_seat can.1 can.3 in
        let found = can.4 in
        let never : None ≡ Some found.0 = sym served.0 ∙ ap (λ (s : Seat rules.State). becomes one s.core) (sym same) ∙ found.1 in absurd cc,
    kept served.1 links rest,
  )
  service_happens one (Err (error.Driver fault)) rest links served = absurd served

-- a worker that isn't there
pub nobody : {W : Type 0} (rules : Rules W) (old : Seen rules.State) (n : ℕ) (one : What) → length old.parts ≤ n →
    HappensAt rules old old n one (Err error.NotEnabled)
nobody rules old n one past = (λ can. absurd (let inside = within old.parts n can.0 can.2 in omega (arith, inside, past)), refl)

-- ---- a world of which one worker changed

module _ {D W : Type 0} (rules : Rules W) (tells : D → Told rules.State) (parts : List WorkerPart) (drivers : List D) (workers : List Worker) (count : ℕ)
    (world : IsWorld rules tells parts drivers workers count) (n : ℕ) (part : WorkerPart) (driver : D) (worker : Worker)
    (p : slice_get parts n ≡ Some part) (d : slice_get drivers n ≡ Some driver) (w : slice_get workers n ≡ Some worker) where
  pub stands_here : Stands rules part (tells driver) worker
  stands_here = world.each n part driver worker p d w

  pub world_both : (driver' : D) (worker' : Worker) → Stands rules part (tells driver') worker' → IsWorld rules tells parts (set drivers n driver') (set workers n worker') count
  world_both driver' worker' stands = record {
    verified = world.verified;
    as_many_drivers = length-set drivers n driver' ∙ world.as_many_drivers;
    as_many_workers = length-set workers n worker' ∙ world.as_many_workers;
    as_many_links = world.as_many_links;
    each = each_set rules tells parts drivers workers n part driver' worker' p (within drivers n driver d) (within workers n worker w) world.each stands;
  }

  pub world_worker : (worker' : Worker) → Stands rules part (tells driver) worker' → IsWorld rules tells parts drivers (set workers n worker') count
  world_worker worker' stands =
      subst (λ (ds : List D). IsWorld rules tells parts ds (set workers n worker') count) (set_same drivers n driver d) (world_both driver worker' stands)

  abbrev pub view : List D → List Worker → (capacity : ℕ) → List (List LinkState) → Seen rules.State
  view ds ws capacity links = seen rules tells (record { parts = parts; drivers = ds; workers = map state_of ws; capacity = capacity; links = links })

  abbrev pub seat_with : D → Worker → Seat rules.State
  seat_with e v = seat_of rules part.limits.page (tells e) (state_of v)

  pub turn_seen : (one : Kind) (driver' : D) (worker' : Worker) (capacity capacity' : ℕ) (links links' : List (List LinkState)) (result : Result (Unit {0}) ApplyError) →
      capacity' ≡ capacity →
      KindTurns rules part one capacity (seat_with driver worker) (seat_with driver' worker') (wires_of links) (wires_of links') result →
      HappensAt rules (view drivers workers capacity links) (view (set drivers n driver') (set workers n worker') capacity' links') n (IsTurn one) result
  turn_seen one driver' worker' capacity capacity' links links' result same turned =
      turn_happens rules (view drivers workers capacity links) (view (set drivers n driver') (set workers n worker') capacity' links') n part (seat_with driver worker) (seat_with driver' worker')
      p (seat_here rules tells parts drivers workers n part driver worker p d w) one result
      (ap₂ (λ (ss : List (Seat rules.State)) (k : ℕ). record (view drivers workers k links) { seats = ss; wires = wires_of links' })
      (seats_set rules tells parts drivers workers n part driver' worker' p world.as_many_drivers world.as_many_workers) same) turned

  pub service_seen : (one : Service) (worker' : Worker) (capacity : ℕ) (links : List (List LinkState)) (result : Result (Unit {0}) ApplyError) →
      Served one (seat_with driver worker) (seat_with driver worker') result →
      HappensAt rules (view drivers workers capacity links) (view drivers (set workers n worker') capacity links) n (IsService one) result
  service_seen one worker' capacity links result served =
      service_happens rules (view drivers workers capacity links) (view drivers (set workers n worker') capacity links) n part (seat_with driver worker) (seat_with driver worker')
      p (seat_here rules tells parts drivers workers n part driver worker p d w) one result
      (ap (λ (ss : List (Seat rules.State)). record (view drivers workers capacity links) { seats = ss })
      (ap (λ (ds : List D). seats_of rules tells parts ds (map state_of (set workers n worker'))) (sym (set_same drivers n driver d))
      ∙ seats_set rules tells parts drivers workers n part driver worker' p world.as_many_drivers world.as_many_workers)) refl served
