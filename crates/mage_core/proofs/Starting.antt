-- Machines before the first step.
use Rattle.std.proofs.Common.{◌≡◌, ◌<◌, ◌+◌, ℕ, zero, suc, List, [], ◌∷◌, length, map, take, Option, None, Some, slice_get, slice_index_or, refl, sym, ap, ◌∙◌, subst, arith}
use Rattle.std.specs.Prelude.{IfSome, is_some}
use Rattle.std.specs.List.{All}
use Rattle.std.proofs.lemmas.List.{length-map}
use Rattle.mage_base.specs.Store.{StoreTold}
use Rattle.mage_instr.specs.declared.directive.Directive.{Directive}
use Rattle.mage_instr.specs.declared.directive.Directive.TheVariants as entry
use Rattle.mage_instr.specs.declared.replaced.Limits.{Limits}
use Rattle.mage_instr.specs.declared.op.Op.{Op}
use Rattle.mage_instr.specs.declared.op.Op.TheVariants as op
use Rattle.mage_directives.specs.Directives.{IsDirective, IsPart, LinksTo}
use Rattle.mage_driver.specs.Rules.{Rules}
use Rattle.mage_driver.specs.Calls.{Told}
use Rattle.mage_link.specs.Links as links
use Rattle.mage_link.specs.Queues.{QueueState, queue_told, new_queues}
use Rattle.mage_verify.specs.Parts.{WorkerPart, parts_from}
use Rattle.mage_verify.specs.Runs.{AreVerified}
use Rattle.mage_engine.specs.Seen.{Seen, seen, directive_at}
use Rattle.mage_engine.specs.Steps.{GoesAlong, first_worker}
use Rattle.mage_engine.specs.Ready.{Connects, target_of, source_of, sent_by, received_by, wires_of}
use Rattle.mage_engine.proofs.Along.{along_first}
use Rattle.mage_core.specs.Ports.{RunMachine, port_tells, store_of, first_of}
use Rattle.mage_core.specs.Stores.{IsOfPart}
use Rattle.mage_core.specs.Made.{IsNew}
use Rattle.mage_core.specs.Turns.{sights}
use Rattle.mage_core.specs.Going.{IsGoing, HasGone, AllGo, start_of, is_sound, reads_of, writes_of}
use Rattle.mage_core.specs.Paging.{GoesOverPages, first_paged}
use Rattle.mage_engine.proofs.Advancing.{some_wires}
use Rattle.mage_core.proofs.Paging.{first_keeps, over_first}

pub if_some : {X : Type 0} (P Q : X → Type 0) (o : Option X) → ((x : X) → o ≡ Some x → P x → Q x) → IfSome o P → IfSome o Q
if_some P Q None f h = tt
if_some P Q (Some x) f h = f x refl h

pub if_found : {X : Type 0} (P : X → Type 0) (o : Option X) (x : X) → o ≡ Some x → IfSome o P → P x
if_found {X} P o x e h = subst (λ (p : Option X). IfSome p P) e h

pub get_map_all : {X Y : Type 0} (f : X → Y) (P : Y → Type 0) (xs : List X) (w : ℕ) → ((x : X) → slice_get xs w ≡ Some x → P (f x)) →
    IfSome (slice_get (map f xs) w) P
get_map_all f P [] zero h = tt
get_map_all f P [] (suc w) h = tt
get_map_all f P (x ∷ xs) zero h = h x refl
get_map_all f P (x ∷ xs) (suc w) h = get_map_all f P xs w h

pub map_get : {X Y : Type 0} (f : X → Y) (xs : List X) (w : ℕ) (x : X) → slice_get xs w ≡ Some x → slice_get (map f xs) w ≡ Some (f x)
map_get f [] zero x e = absurd cc
map_get f [] (suc w) x e = absurd cc
map_get f (y ∷ xs) zero x e = let same : y ≡ x = cc in ap (λ z. Some (f z)) same
map_get f (y ∷ xs) (suc w) x e = map_get f xs w x e

pub get_within : {X : Type 0} (xs : List X) (w : ℕ) (x : X) → slice_get xs w ≡ Some x → w < length xs
get_within [] zero x e = absurd cc
get_within [] (suc w) x e = absurd cc
get_within (y ∷ xs) zero x e = omega arith
get_within (y ∷ xs) (suc w) x e = let rest = get_within xs w x e in omega (arith, rest)

index_is : {X : Type 0} (xs : List X) (w : ℕ) (x : X) → slice_get xs w ≡ Some x → slice_index_or xs w x ≡ x
index_is [] zero x e = refl
index_is [] (suc w) x e = refl
index_is (y ∷ xs) zero x e = cc
index_is (y ∷ xs) (suc w) x e = index_is xs w x e

pub all_get : {X : Type 0} (P : X → Type 0) (xs : List X) (w : ℕ) (x : X) → All P xs → slice_get xs w ≡ Some x → P x
all_get P xs w x all e = subst P (index_is xs w x e) (all w x (get_within xs w x e))

-- ---- parts

-- the part of a worker has its number, and its directives
pub part_at : (limits : Limits) (stores : List ℕ) (first : ℕ) (workers : List (List Directive)) (w : ℕ) →
    IfSome (slice_get (parts_from limits stores first workers) w) (λ part. (part.worker ≡ first + w) × (slice_get workers w ≡ Some part.directives))
part_at limits stores first [] zero = tt
part_at limits stores first [] (suc w) = tt
part_at limits stores first (x ∷ xs) zero = (omega arith, refl)
part_at limits stores first (x ∷ xs) (suc w) =
    if_some _ _ (slice_get (parts_from limits stores (first + 1) xs) w) (λ part is h. (let same = h.0 in omega (arith, same), h.1))
    (part_at limits stores (first + 1) xs w)

pub parts_count : (limits : Limits) (stores : List ℕ) (first : ℕ) (workers : List (List Directive)) →
    length (parts_from limits stores first workers) ≡ length workers
parts_count limits stores first [] = refl
parts_count limits stores first (x ∷ xs) = ap suc (parts_count limits stores (first + 1) xs)

-- a worker is within the others, has its number, and names only others
pub record IsAmong (count w : ℕ) (part : WorkerPart) : Type 0 where
  pub number : part.worker ≡ w
  pub fields : IsPart count w part.directives

pub parts_among : (parts : List WorkerPart) → AreVerified parts → (w : ℕ) (part : WorkerPart) → slice_get parts w ≡ Some part → IsAmong (length parts) w part
parts_among parts verified w part is =
    let plan = verified.whole.0 in
    let fine = verified.whole.1 in
    let are = verified.whole.2 in
    let found = if_found _ _ part (ap (λ (ps : List WorkerPart). slice_get ps w) (sym are) ∙ is) (part_at plan.limits plan.stores 0 plan.workers w) in
    let count : length plan.workers ≡ length parts = sym (parts_count plan.limits plan.stores 0 plan.workers) ∙ ap length (sym are) in
    record {
      number = (let n = found.0 in omega (arith, n));
      fields = subst (λ n. IsPart n w part.directives) count (if_found (IsPart (length plan.workers) w) (slice_get plan.workers w) part.directives found.1 (fine.parts w));
    }

-- ---- links

targets_within : (count own : ℕ) (x : Directive) → IsDirective count own x → IfSome (target_of x) (λ other. other < count)
targets_within count own (entry.Fresh frame page) is = tt
targets_within count own (entry.IssueIn slot page) is = tt
targets_within count own (entry.FinishIn slot frame) is = tt
targets_within count own (entry.IssueOut slot frame page) is = tt
targets_within count own (entry.FinishOut slot) is = tt
targets_within count own (entry.Do job) is = go job.op is.link
  where
    go : (o : Op) → LinksTo count own o job.imm → IfSome (sent_by o job.imm) (λ other. other < count)
    go op.Send h = h.0
    go _ h = tt

sources_within : (count own : ℕ) (x : Directive) → IsDirective count own x → IfSome (source_of x) (λ other. other < count)
sources_within count own (entry.Fresh frame page) is = tt
sources_within count own (entry.IssueIn slot page) is = tt
sources_within count own (entry.FinishIn slot frame) is = tt
sources_within count own (entry.IssueOut slot frame page) is = tt
sources_within count own (entry.FinishOut slot) is = tt
sources_within count own (entry.Do job) is = go job.op is.link
  where
    go : (o : Op) → LinksTo count own o job.imm → IfSome (received_by o job.imm) (λ other. other < count)
    go op.Recv h = h.0
    go _ h = tt

pub connects_first : (count capacity w : ℕ) (part : WorkerPart) → IsAmong count w part → w < count → Connects (queue_told (new_queues count capacity)) part
connects_first count capacity w part among within = record {
  within = subst (λ n. n < count) (sym among.number) within;
  allowed = refl;
  targets = λ d. if_some (IsDirective count w) _ (slice_get part.directives d) (λ x is h. targets_within count w x h) (among.fields.each d);
  sources = λ d. if_some (IsDirective count w) _ (slice_get part.directives d) (λ x is h. sources_within count w x h) (among.fields.each d);
}

-- ---- machines

module _ {W D S : Type 0} (rules : Rules W) (driver_tells : D → Told rules.State) (store_tells : S → StoreTold) where
  abbrev sight : RunMachine D S → Seen rules.State
  sight machine = seen driver_tells (port_tells store_tells) machine

  pub new_goes : (queues : QueueState) (w : ℕ) (machine : RunMachine D S) → links.IsUnused (queue_told queues) → machine.part.worker ≡ w →
      Connects (queue_told queues) machine.part → IsNew rules driver_tells store_tells machine →
      IsGoing rules (start_of driver_tells store_tells machine) w queues (sight machine)
  new_goes queues w machine unused number connects new = record {
    part = refl;
    number = number;
    safe = new.safe;
    runs = new.runs;
    sound = ap (λ (m : Seen rules.State). m.fault) new.opens;
    wire = subst (λ (m : Seen rules.State). m.wire < wires_of (directive_at m)) (sym new.opens)
        (some_wires machine.part.worker (slice_get machine.part.directives 0) (new.safe.fields.each 0));
    faults = refl;
    told = refl;
    handed = refl;
    reads = (let same : (store_tells (store_of machine)).reads ≡ (store_tells (first_of machine)).reads = ap (λ (s : S). (store_tells s).reads) (sym new.first) in
        let none : reads_of (take machine.place machine.part.directives) ≡ 0 = ap (λ (m : Seen rules.State). reads_of (take m.place machine.part.directives)) new.opens in
        omega (arith, same, none));
    writes = (let same : (store_tells (store_of machine)).writes ≡ (store_tells (first_of machine)).writes = ap (λ (s : S). (store_tells s).writes) (sym new.first) in
        let none : writes_of (take machine.place machine.part.directives) ≡ 0 = ap (λ (m : Seen rules.State). writes_of (take m.place machine.part.directives)) new.opens in
        omega (arith, same, none));
    slots = λ slot. ap is_sound (new.unused.idle slot);
    store = record {
      pages = ap (λ (s : S). is_some (store_tells s).pages) (sym new.first);
      page_bytes = new.bytes;
      steady = ap (λ (s : S). (store_tells s).steady) (sym new.first);
      page_count = ap (λ (s : S). (store_tells s).page_count) (sym new.first);
      slots = λ slot. subst (IsOfPart machine.part) (sym (new.unused.idle slot)) tt;
    };
    connects = connects;
    along = λ told. subst (λ (m : Seen rules.State). GoesAlong rules (first_worker rules machine.part.limits.page (driver_tells machine.driver).state) m (queue_told queues)) (sym new.opens)
        (along_first rules machine.part (driver_tells machine.driver) (port_tells store_tells machine.port) (queue_told queues) new.running new.unused unused);
    keeps = first_keeps (port_tells store_tells machine.port) new.unused;
    over = λ told right. subst (λ (m : Seen rules.State). GoesOverPages rules (first_paged rules machine.part.limits.page (driver_tells machine.driver).state) m (queue_told queues)) (sym new.opens)
        (over_first rules machine.part (driver_tells machine.driver) (port_tells store_tells machine.port) (queue_told queues) new.running new.unused unused);
  }

  -- each machine stands at its start
  pub all_start : (queues : QueueState) (machines : List (RunMachine D S)) → AreVerified (map (λ machine. machine.part) machines) →
      queues ≡ new_queues (length machines) 64 → links.IsUnused (queue_told queues) → All (IsNew rules driver_tells store_tells) machines →
      AllGo rules (map (start_of driver_tells store_tells) machines) (sights driver_tells store_tells machines) queues
  all_start queues machines verified are unused new w =
      get_map_all sight (HasGone rules (map (start_of driver_tells store_tells) machines) w queues) machines w
      (λ machine is. let among = parts_among (map part_of_machine machines) verified w machine.part (map_get part_of_machine machines w machine is) in record {
        start = start_of driver_tells store_tells machine;
        from = map_get (start_of driver_tells store_tells) machines w machine is;
        going = new_goes queues w machine unused among.number
            (subst (λ (q : QueueState). Connects (queue_told q) machine.part) (sym are)
            (connects_first (length machines) 64 w machine.part
            (subst (λ n. IsAmong n w machine.part) (length-map machines part_of_machine) among) (get_within machines w machine is)))
            (all_get (IsNew rules driver_tells store_tells) machines w machine new is);
      })
    where
      part_of_machine : RunMachine D S → WorkerPart
      part_of_machine machine = machine.part
