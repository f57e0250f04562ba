-- The lists of calls that are to fail.
use Rattle.std.proofs.Common.{◌≡◌, ◌&&◌, ap, String, true, false, ℕ, Bool, List, [], ◌∷◌, IsTrue, refl, arith}
use Rattle.std.specs.List.{list_all}
use Rattle.mage_base.specs.declared.mem_desk.handed_fails.NamedCalls.{NamedCalls}
use Rattle.mage_base.specs.declared.desk_fails.DeskFails.{DeskFails}
use Rattle.mage_base.specs.Calls.{is_empty}
use Rattle.mage_base.specs.DeskFails.{by_name, handed_of, hands_no_fault, lists_nothing, calls_named, calls_of_store}

empty_is : (calls : List ℕ) → IsTrue (is_empty calls) → calls ≡ []
empty_is [] h = refl
empty_is (c ∷ cs) h = grind arith

-- where no entry has a call, none is found
pub no_named_calls : (entries : List NamedCalls) (name : List ℕ) → IsTrue (list_all (λ entry. is_empty entry.calls) entries) → calls_named entries name ≡ []
no_named_calls [] name h = refl
no_named_calls (e ∷ es) name h = grind (arith, no_named_calls es name, empty_is)

pub no_store_calls : (entries : List (ℕ × ℕ × List ℕ)) (worker shard : ℕ) → IsTrue (list_all (λ store. is_empty store.2) entries) → calls_of_store entries worker shard ≡ []
no_store_calls [] worker shard h = refl
no_store_calls (e ∷ es) worker shard h = grind (arith, no_store_calls es worker shard, empty_is)

same_tests : (a b c d : Bool) → (a && (b && c && d)) ≡ (a && b && c && d)
same_tests true b c d = refl
same_tests false b c d = refl

list_all-by_name : {Z : Type 0} (entries : List (String Z × List ℕ)) → list_all (λ entry. is_empty entry.calls) (by_name entries) ≡ list_all (λ entry. is_empty entry.1) entries
list_all-by_name [] = refl
list_all-by_name (e ∷ es) = ap (λ others. is_empty e.1 && others) (list_all-by_name es)

-- the desk's own copy lists no call where the lists have none
pub lists_nothing-handed : (fails : DeskFails) → (is_empty fails.desk && hands_no_fault (handed_of fails)) ≡ lists_nothing fails
lists_nothing-handed fails = rw (list_all-by_name fails.inputs, list_all-by_name fails.outputs) (same_tests (is_empty fails.desk) (list_all (λ store. is_empty store.2) fails.stores) (list_all (λ input. is_empty input.1) fails.inputs) (list_all (λ output. is_empty output.1) fails.outputs))
