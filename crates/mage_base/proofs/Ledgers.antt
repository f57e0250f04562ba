-- The stores that a desk in memory handed out and got back.
use Rattle.std.proofs.Common.{add-one, zero, suc, ◌≡◌, ◌<◌, ◌+◌, ℕ, true, false, List, [], ◌∷◌, ◌++◌, length, get_or, take, drop, map, replicate, refl, ap, append_assoc, Contains}
use Rattle.std.specs.List.{remove}
use Rattle.std.proofs.lemmas.List.{drop_more, take_more, map-append}
use Rattle.std.proofs.lemmas.List.Elements.{All-contains, All-map}
use mathlib.Core.Path.{fun_ext}
use Rattle.mage_base.specs.declared.ledger.LentStore.{LentStore}
use Rattle.mage_base.specs.declared.ledger.StoreCounts.{StoreCounts}
use Rattle.mage_base.specs.Desk.{StoreId, is_store, without_store}
use Rattle.mage_base.specs.Ledger.{id_of, no_counts, returned_of, returned_in, Covers}

-- the stores before a place, and those from there on without the first with this name
abbrev pub passed : (lent : List LentStore) (place : ℕ) → StoreId → List StoreId
passed lent place id = map id_of (take place lent) ++ without_store (map id_of (drop place lent)) id

pub passed_other : (lent : List LentStore) (place : ℕ) (d : LentStore) (id : StoreId) → place < length lent → is_store (id_of (get_or lent place d)) id ≡ false → passed lent place id ≡ passed lent (place + 1) id
passed_other lent place d id within differs = rw (drop_more lent place d within, differs, take_more lent place d within, map-append, append_assoc) refl

pub passed_this : (lent : List LentStore) (place : ℕ) (d : LentStore) (id : StoreId) → place < length lent → is_store (id_of (get_or lent place d)) id ≡ true → passed lent place id ≡ map id_of (remove lent place)
passed_this lent place d id within same = rw (drop_more lent place d within, same, map-append, add-one place) refl

grown_at : (totals : List StoreCounts) (n other : ℕ) → get_or (totals ++ replicate n no_counts) other no_counts ≡ get_or totals other no_counts
grown_at [] zero other = refl
grown_at [] (suc n) zero = refl
grown_at [] (suc n) (suc other) = grown_at [] n other
grown_at (t ∷ ts) n zero = refl
grown_at (t ∷ ts) n (suc other) = grown_at ts n other

-- a longer table says the same
pub returned_grown : (totals : List StoreCounts) (n : ℕ) → returned_in (totals ++ replicate n no_counts) ≡ returned_in totals
returned_grown totals n = fun_ext (λ other. ap returned_of (grown_at totals n other))

-- the worker of a store that is handed out has its sums
pub covered : (totals : List StoreCounts) (lent : List LentStore) (id : StoreId) → Covers totals lent → Contains (map id_of lent) id → id.worker < length totals
covered totals lent id covers lends =
    let Covered = λ (store : StoreId). store.worker < length totals in
    All-contains Covered (map id_of lent) id (All-map Covered id_of lent covers) lends
