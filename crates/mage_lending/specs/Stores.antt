-- The stores that workers borrow of a desk: each worker has one, in its own name and with the shard 0.
use Rattle.std.specs.Prelude.{◌≡◌, ◌≤◌, ◌<◌, ◌+◌, ◌++◌, ℕ, zero, suc, nat_lt, Bool, List, [], ◌∷◌, length, map, slice_index_or, if◌then◌else◌, Some, None, Result, Ok, Err, Vec}
use Rattle.std.specs.List.{count_by}
use Rattle.std.specs.Global.{Global}
use Rattle.mage_base.specs.Desk.{DeskTold, StoreId, Returned, HandsStore, is_store, joined, with_store, after_giving}
use Rattle.mage_base.specs.declared.failure.DeskError.{DeskError}
use Rattle.mage_base.specs.Faults.{count_after}
use Rattle.mage_base.specs.Store.{StoreTold}
use Rattle.mage_lending.specs.declared.stores.StoreOrder.{StoreOrder}

abbrev pub own_store : (worker : ℕ) → StoreId
own_store worker = record { worker = worker; shard = 0 }

-- the stores of so many workers, from this one on
abbrev pub own_stores : (first count : ℕ) → List StoreId
own_stores first zero = []
own_stores first (suc count) = own_store first ∷ own_stores (first + 1) count

-- what the stores on each worker's shelf tell
abbrev pub told_on : {S : Type 0} → (S → StoreTold) → List (Vec S Global) → List (List StoreTold)
told_on tells shelves = map (λ shelf. map tells shelf) (map (λ shelf. shelf.items) shelves)

-- On a shelf lies one store, as it was ordered, to which nothing was written yet.
abbrev pub IsLent : DeskTold → StoreOrder → (shelf : List StoreTold) → Type 0
IsLent desk order [] = ⊥
IsLent desk order (store ∷ []) = HandsStore desk order.pages order.page_bytes store
IsLent desk order (store ∷ next ∷ others) = ⊥

-- the same of each worker's shelf
abbrev pub AreLent : DeskTold → List StoreOrder → (shelves : List (List StoreTold)) → Type 0
AreLent desk [] [] = Unit {0}
AreLent desk [] (shelf ∷ shelves) = ⊥
AreLent desk (order ∷ orders) [] = ⊥
AreLent desk (order ∷ orders) (shelf ∷ shelves) = IsLent desk order shelf × AreLent desk orders shelves

-- how many of these stores have this name
abbrev pub times : StoreId → List StoreId → ℕ
times id stores = count_by (λ store. is_store store id) stores

-- The desk has lent what it had lent earlier: each store as often, and the list is the same unless it had already lent a
-- store with the name of one of these workers', since the first of two with one name is taken from the list.
pub record AreLentAgain (earlier now : List StoreId) (workers : ℕ) : Type 0 where
  pub often : (id : StoreId) → times id now ≡ times id earlier
  pub same : ((worker : ℕ) → worker < workers → times (own_store worker) earlier ≡ 0) → now ≡ earlier

-- what was given back of a worker, and the store on this shelf too
abbrev pub with_shelf : Returned → List StoreTold → Returned
with_shelf returned [] = returned
with_shelf returned (store ∷ others) = with_store returned store

-- the shelf of a worker; one that isn't there has no store
abbrev pub shelf_at : List (List StoreTold) → (worker : ℕ) → List StoreTold
shelf_at shelves worker = slice_index_or shelves worker []

-- The stores were given back, each as its worker's, and nothing else changed.
pub record AreBack (earlier : List StoreId) (before after : DeskTold) (shelves : List (List StoreTold)) : Type 0 where
  pub lent : AreLentAgain earlier after.lent (length shelves)
  pub rest : after ≡ record before {
    lent = after.lent;
    returned = λ worker. with_shelf (before.returned worker) (shelf_at shelves worker);
  }

-- what the desk tells after the store on a worker's shelf was given back
abbrev pub after_shelf : DeskTold → (worker : ℕ) → List StoreTold → DeskTold
after_shelf desk worker [] = desk
after_shelf desk worker (store ∷ others) = after_giving desk (own_store worker) store

-- what was given back of a worker, and a store too that was neither read nor written
abbrev pub with_unused : (tells_logs : Bool) → Returned → Returned
with_unused tells_logs returned =
    record {
      reads = count_after returned.reads 0;
      writes = count_after returned.writes 0;
      faults = count_after returned.faults 0;
      log = joined returned.log (if tells_logs then Some [] else None);
    }

-- Nothing stays lent: so many of the first workers' stores, that were lent, are given back unused.
pub record NoneAreLent (before after : DeskTold) (workers : ℕ) : Type 0 where
  pub count : ℕ
  pub few : count ≤ workers
  pub lent : AreLentAgain before.lent after.lent count
  pub rest : after ≡ record before {
    lent = after.lent;
    returned = λ worker. if nat_lt worker count then with_unused before.stores_tell_logs (before.returned worker) else before.returned worker;
    faults = after.faults;
  }

-- what lending to so many workers leaves
abbrev pub LendsAll : {T : Type 0} → (before after : DeskTold) → (workers : ℕ) → Result T DeskError → Type 0
LendsAll before after workers (Ok _) = after ≡ record before { lent = before.lent ++ own_stores 0 workers }
LendsAll before after workers (Err _) = NoneAreLent before after workers
