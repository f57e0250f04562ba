-- The map of one scope, as a function from the bytes of a name.
use Rattle.std.proofs.Common.{◌≡◌, ℕ, List, ◌++◌, length, take, drop, Some, Result, Ok, Err, OnErr, ap, ◌∙◌}
use Rattle.std.specs.Ordering.{nat_cmp}
use Rattle.std.specs.Cmp.Lexicographic.{slice_cmp}
use Rattle.std.specs.BTreeMap.{BTreeMap, UpdatesBy, IsUnchanged, is_at}
use Rattle.std.specs.Map.{lookup}
use Rattle.std.proofs.Math.ListN.{set, length-set}
use Rattle.std.proofs.lemmas.List.{take_at}
use Rattle.std.proofs.lemmas.Map.Text.{btree_map_updates_str}
use denote.Ref.{Bor}
use mathlib.Core.Path.{fun_ext}
use Rattle.mage_scopes.specs.Scopes.{meaning_of, declared}

pub declared_from_updates : {V : Type 0} (name : List ℕ) (before after : BTreeMap (Bor (List ℕ)) V) (value : V) → UpdatesBy (λ x y. slice_cmp nat_cmp x.now y.now) (λ k. slice_cmp nat_cmp name k.now) before after (Some value) → meaning_of after ≡ declared (meaning_of before) name value
declared_from_updates name before after value updates =
    fun_ext (λ other. btree_map_updates_str name before after (Some value) updates other)

pub same_from_unchanged : {V : Type 0} (before after : BTreeMap (Bor (List ℕ)) V) → IsUnchanged before after → meaning_of after ≡ meaning_of before
same_from_unchanged before after unchanged =
    fun_ext (λ name. ap (lookup (is_at (λ k. slice_cmp nat_cmp name k.now))) unchanged)

-- the items of a vector after a write through a borrow of all of them
pub written : {X : Type 0} (xs ys : List X) (count i : ℕ) (y : X) → length ys ≡ count → take count (set ys i y ++ drop (length (set ys i y)) xs) ≡ set ys i y
written xs ys count i y counted = take_at (set ys i y) (drop (length (set ys i y)) xs) count (length-set ys i y ∙ counted)

-- the same, where nothing was written
pub written_none : {X : Type 0} (xs ys : List X) (count : ℕ) → length xs ≡ count → ys ≡ xs → take count (ys ++ drop (length ys) xs) ≡ xs
written_none xs ys count counted same = take_at ys (drop (length ys) xs) count (ap length same ∙ counted) ∙ same

pub on_err : {T E P : Type 0} (r : Result T E) → P → OnErr r P
on_err (Ok x) p = tt
on_err (Err e) p = p
