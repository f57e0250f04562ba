-- The workers of a run, by their parts and stores alone.
use Rattle.std.proofs.Common.{◌≡◌, ◌+◌, ℕ, zero, suc, List, [], ◌∷◌, length, map, replicate, Option, None, Some, slice_get, refl, sym, ap, ap₂, ◌∙◌, subst, arith}
use Rattle.std.proofs.lemmas.List.Elements.{All-head}
use Rattle.std.specs.Prelude.{IfSome, IsSome, Vec}
use Rattle.std.specs.Global.{Global}
use Rattle.std.specs.List.{All}
use Rattle.mage_base.specs.declared.failure.Damage.{Damage}
use Rattle.mage_base.specs.Store.{StoreTold}
use Rattle.mage_driver.specs.Calls.{Told}
use Rattle.mage_verify.specs.Parts.{WorkerPart}
use Rattle.mage_core.specs.declared.fault.RunFault.TheVariants as fault
use Rattle.mage_core.specs.Going.{Start, reads_of, writes_of}
use Rattle.mage_core.specs.Joined.{WasDeceived}
use Rattle.mage_core.specs.Made.{HasStoreOf, shelves}
use Rattle.mage_core.specs.Results.{starts_of, Back, ComesTo, Grew, AllStay}
use Rattle.mage_core.specs.Steady.{Suffices}
use Rattle.mage_solo.specs.Stores.{Stored, AreMoved, HaveGrown, HasBroken, HasDamaged, WereDeceived, AllSuffice, SufficesFor}
use Rattle.mage_solo.proofs.Lists.{same_some, if_found, if_each, map_get, unmap, found_beside, Ones, ones_of}

-- the shelf of each worker has one store
pub ones_given : {S : Type 0} (wire_bytes : ℕ) (tells : S → StoreTold) (parts : List WorkerPart) (stores : List (Vec S Global)) → length stores ≡ length parts →
    ((w : ℕ) → IfSome (slice_get parts w) (λ part. IfSome (slice_get stores w) (λ shelf. HasStoreOf wire_bytes tells part shelf.items))) →
    map (λ (shelf : List S). length shelf) (shelves stores) ≡ replicate (length parts) 1
ones_given wire_bytes tells [] [] long h = refl
ones_given wire_bytes tells [] (x ∷ xs) long h = absurd (omega (arith, long))
ones_given wire_bytes tells (p ∷ ps) [] long h = absurd (omega (arith, long))
ones_given {S} wire_bytes tells (p ∷ ps) (x ∷ xs) long h =
    ap₂ (λ (n : ℕ) (l : List ℕ). n ∷ l) (h zero).one (ones_given wire_bytes tells ps xs (omega (arith, long)) (λ w. h (suc w)))

-- what a worker that was handed in is made of
pub record IsAt {S : Type 0} (parts : List WorkerPart) (drivers : List (Told S)) (stores : List StoreTold) (w : ℕ) (start : Start S) : Type 0 where
  pub part : slice_get parts w ≡ Some start.part
  pub driver : slice_get drivers w ≡ Some start.driver
  pub store : slice_get stores w ≡ Some start.store

pub start_at : {S : Type 0} (parts : List WorkerPart) (drivers : List (Told S)) (stores : List StoreTold) (w : ℕ) (start : Start S) →
    slice_get (starts_of parts drivers (ones_of stores)) w ≡ Some start → IsAt parts drivers stores w start
start_at [] ds ss zero start e = absurd cc
start_at [] ds ss (suc w) start e = absurd cc
start_at (p ∷ ps) [] ss zero start e = absurd cc
start_at (p ∷ ps) [] ss (suc w) start e = absurd cc
start_at (p ∷ ps) (d ∷ ds) [] zero start e = absurd cc
start_at (p ∷ ps) (d ∷ ds) [] (suc w) start e = absurd cc
start_at {S} (p ∷ ps) (d ∷ ds) (s ∷ ss) zero start e =
    let same : ◌≡◌ {A = Start S} (record { part = p; driver = d; store = s }) start = same_some _ start e in record {
      part = ap (λ (x : Start S). Some x.part) same;
      driver = ap (λ (x : Start S). Some x.driver) same;
      store = ap (λ (x : Start S). Some x.store) same;
    }
start_at (p ∷ ps) (d ∷ ds) (s ∷ ss) (suc w) start e =
    let rest = start_at ps ds ss w start e in record { part = rest.part; driver = rest.driver; store = rest.store }

pub at_start : {S : Type 0} (parts : List WorkerPart) (drivers : List (Told S)) (stores : List StoreTold) (w : ℕ) (part : WorkerPart) (driver : Told S) (store : StoreTold) →
    slice_get parts w ≡ Some part → slice_get drivers w ≡ Some driver → slice_get stores w ≡ Some store →
    slice_get (starts_of parts drivers (ones_of stores)) w ≡ Some (record { part = part; driver = driver; store = store })
at_start [] ds ss zero part driver store p d s = absurd cc
at_start [] ds ss (suc w) part driver store p d s = absurd cc
at_start (x ∷ ps) [] ss zero part driver store p d s = absurd cc
at_start (x ∷ ps) [] ss (suc w) part driver store p d s = absurd cc
at_start (x ∷ ps) (y ∷ ds) [] zero part driver store p d s = absurd cc
at_start (x ∷ ps) (y ∷ ds) [] (suc w) part driver store p d s = absurd cc
at_start {S} (x ∷ ps) (y ∷ ds) (z ∷ ss) zero part driver store p d s =
    let same_part : x ≡ part = same_some x part p in
    let same_driver : y ≡ driver = same_some y driver d in
    let same_store : z ≡ store = same_some z store s in
    let whole : ◌≡◌ {A = Start S} (record { part = x; driver = y; store = z }) (record { part = part; driver = driver; store = store }) = cc in
    ap (λ (start : Start S). Some start) whole
at_start (x ∷ ps) (y ∷ ds) (z ∷ ss) (suc w) part driver store p d s = at_start ps ds ss w part driver store p d s

one_of : {X : Type 0} (x y : X) → x ∷ [] ≡ y ∷ [] → x ≡ y
one_of x y e = cc

-- the one store of a worker
pub store_at : (stores : List StoreTold) (w : ℕ) (store : StoreTold) → slice_get (ones_of stores) w ≡ Some (store ∷ []) → slice_get stores w ≡ Some store
store_at stores w store e =
    let found = unmap (λ (s : StoreTold). s ∷ []) stores w (store ∷ []) e in
    found.1 ∙ ap (λ (s : StoreTold). Some s) (one_of found.0 store found.2)

pub at_store : (stores : List StoreTold) (w : ℕ) (store : StoreTold) → slice_get stores w ≡ Some store → slice_get (ones_of stores) w ≡ Some (store ∷ [])
at_store stores w store e = map_get (λ (s : StoreTold). s ∷ []) stores w store e

-- ---- a run

module _ {S : Type 0} (parts : List WorkerPart) (drivers now : List (Told S)) (before after : List StoreTold)
    (counted : length drivers ≡ length parts) (kept : length now ≡ length parts) where
  abbrev pub starts : List (Start S)
  starts = starts_of parts drivers (ones_of before)

  -- what comes back of a worker
  pub stored_of : (w : ℕ) (back : Back starts now (ones_of after) w) → Stored parts (ones_of before) (ones_of after) w
  stored_of w back =
      let at = start_at parts drivers before w back.start back.starts_so in record {
        part = back.start.part;
        old = back.start.store;
        new = back.store;
        part_so = at.part;
        old_so = at_store before w back.start.store at.store;
        new_so = back.store_so;
      }

  -- a worker with its driver
  pub record Whole (w : ℕ) (worker : Stored parts (ones_of before) (ones_of after) w) : Type 0 where
    pub driver : Told S
    pub driver_so : slice_get drivers w ≡ Some driver
    pub back : Back starts now (ones_of after) w
    pub is : back.start ≡ record { part = worker.part; driver = driver; store = worker.old }
    pub store : back.store ≡ worker.new

  pub whole_of : (w : ℕ) (worker : Stored parts (ones_of before) (ones_of after) w) → Whole w worker
  whole_of w worker =
      let driver = found_beside parts drivers w worker.part counted worker.part_so in
      let end = found_beside parts now w worker.part kept worker.part_so in record {
        driver = driver.0;
        driver_so = driver.1;
        back = record {
          start = record { part = worker.part; driver = driver.0; store = worker.old };
          driver = end.0;
          store = worker.new;
          starts_so = at_start parts drivers before w worker.part driver.0 worker.old worker.part_so driver.1 (store_at before w worker.old worker.old_so);
          driver_so = end.1;
          store_so = worker.new_so;
        };
        is = refl;
        store = refl;
      }

  pub moved_so : ComesTo starts now (ones_of after) None → AreMoved parts (ones_of before) (ones_of after)
  moved_so done w worker =
      let whole = whole_of w worker in
      let d = done w whole.back in record {
        reads = ap (λ (s : StoreTold). s.reads) (sym whole.store) ∙ d.reads ∙ ap (λ (s : Start S). s.store.reads + reads_of s.part.directives) whole.is;
        writes = ap (λ (s : StoreTold). s.writes) (sym whole.store) ∙ d.writes ∙ ap (λ (s : Start S). s.store.writes + writes_of s.part.directives) whole.is;
        faults = ap (λ (s : StoreTold). s.faults) (sym whole.store) ∙ d.store_faults ∙ ap (λ (s : Start S). s.store.faults) whole.is;
      }

  pub grown_so : AllStay starts now (ones_of after) → HaveGrown parts (ones_of before) (ones_of after)
  grown_so stay w worker =
      let whole = whole_of w worker in
      let it : Grew whole.back.start.store whole.back.store = (stay w whole.back).grew in
      subst (λ (s : StoreTold). Grew s worker.new) (ap (λ (s : Start S). s.store) whole.is)
      (subst (λ (s : StoreTold). Grew whole.back.start.store s) whole.store it)

  pub broken_so : (w : ℕ) → ComesTo starts now (ones_of after) (Some (fault.Store w)) → HasBroken parts (ones_of before) (ones_of after) w
  unfolding stored_of
  broken_so w came = (stored_of w came.0, came.1.0, came.1.1)

  pub damaged_so : (w : ℕ) (damage : Damage) → ComesTo starts now (ones_of after) (Some (fault.Damaged w damage)) →
      IfSome (slice_get starts w) (λ start. start.store.pages ≡ None) → HasDamaged parts (ones_of before) (ones_of after) w damage
  unfolding stored_of
  damaged_so w damage came untold = (
    stored_of w came.0,
    record {
      untold = if_found (λ (start : Start S). start.store.pages ≡ None) (slice_get starts w) came.0.start came.0.starts_so untold;
      made = came.1.0;
      gained = came.1.1;
      ends = came.1.2;
    },
  )

  pub deceived_so : WasDeceived starts now (ones_of after) → WereDeceived parts (ones_of before) (ones_of after)
  unfolding stored_of
  deceived_so was = record {
    number = was.worker;
    worker = stored_of was.worker was.back;
    untold = was.untold;
    made = was.made;
    gained = was.gained;
    page = was.page;
    forged = was.forged;
  }

  pub suffices_so : AllSuffice parts (ones_of before) → (w : ℕ) → IfSome (slice_get starts w) Suffices
  suffices_so all w = if_each Suffices (slice_get starts w) (λ start e.
      let at = start_at parts drivers before w start e in
      let one = if_found (λ (shelf : List StoreTold). All (SufficesFor start.part) shelf) (slice_get (ones_of before) w) (start.store ∷ [])
      (at_store before w start.store at.store)
      (if_found (λ (part : WorkerPart). IfSome (slice_get (ones_of before) w) (All (SufficesFor part))) (slice_get parts w) start.part at.part (all w)) in
      let it = All-head (SufficesFor start.part) start.store [] one in record {
        told = it.told;
        steady = it.steady;
        no_reads = it.no_reads;
        no_writes = it.no_writes;
        pages = it.pages;
      })

-- ---- the same where each worker's list has one store

module _ {S : Type 0} (parts : List WorkerPart) (drivers now : List (Told S)) (before after : List (List StoreTold))
    (counted : length drivers ≡ length parts) (kept : length now ≡ length parts) (b : Ones before (length parts)) (a : Ones after (length parts)) where
  by_ones : (P : List (List StoreTold) → List (List StoreTold) → Type 0) → P (ones_of b.each) (ones_of a.each) → P before after
  by_ones P h = subst (λ x. P x after) (sym b.is) (subst (λ y. P (ones_of b.each) y) (sym a.is) h)

  pub grown_ones : AllStay (starts_of parts drivers before) now after → HaveGrown parts before after
  grown_ones = by_ones (λ x y. AllStay (starts_of parts drivers x) now y → HaveGrown parts x y) (grown_so parts drivers now b.each a.each counted kept)

  pub moved_ones : ComesTo (starts_of parts drivers before) now after None → AreMoved parts before after
  moved_ones = by_ones (λ x y. ComesTo (starts_of parts drivers x) now y None → AreMoved parts x y) (moved_so parts drivers now b.each a.each counted kept)

  pub broken_ones : (w : ℕ) → ComesTo (starts_of parts drivers before) now after (Some (fault.Store w)) → HasBroken parts before after w
  broken_ones w = by_ones (λ x y. ComesTo (starts_of parts drivers x) now y (Some (fault.Store w)) → HasBroken parts x y w)
      (broken_so parts drivers now b.each a.each counted kept w)

  pub damaged_ones : (w : ℕ) (damage : Damage) → ComesTo (starts_of parts drivers before) now after (Some (fault.Damaged w damage)) →
      IfSome (slice_get (starts_of parts drivers before) w) (λ start. start.store.pages ≡ None) → HasDamaged parts before after w damage
  damaged_ones w damage = by_ones (λ x y. ComesTo (starts_of parts drivers x) now y (Some (fault.Damaged w damage)) →
      IfSome (slice_get (starts_of parts drivers x) w) (λ start. start.store.pages ≡ None) → HasDamaged parts x y w damage)
      (damaged_so parts drivers now b.each a.each counted kept w damage)

  pub suffices_ones : AllSuffice parts before → (w : ℕ) → IfSome (slice_get (starts_of parts drivers before) w) Suffices
  suffices_ones = by_ones (λ x y. AllSuffice parts x → (w : ℕ) → IfSome (slice_get (starts_of parts drivers x) w) Suffices)
      (suffices_so parts drivers now b.each a.each counted kept)

  -- a store that suffices tells its pages, so that no damage is found
  pub undamaged : AllSuffice parts before → (w : ℕ) (damage : Damage) → ComesTo (starts_of parts drivers before) now after (Some (fault.Damaged w damage)) →
      IfSome (slice_get (starts_of parts drivers before) w) (λ start. start.store.pages ≡ None) → ⊥
  undamaged all w damage came untold =
      let back = came.0 in
      let told = (if_found Suffices (slice_get (starts_of parts drivers before) w) back.start back.starts_so (suffices_ones all w)).told in
      let none = if_found (λ (start : Start S). start.store.pages ≡ None) (slice_get (starts_of parts drivers before) w) back.start back.starts_so untold in
      never back.start.store.pages told none
    where
      never : {X : Type 0} (o : Option X) → IsSome o → o ≡ None → ⊥
      never None h e = absurd cc
      never (Some x) h e = absurd cc
