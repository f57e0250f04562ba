-- What statements do to lists and names.
use Rattle.std.proofs.Common.{◌≡◌, ℕ, zero, suc, ◌+◌, ◌-◌, ◌<◌, ◌≤◌, List, [], ◌∷◌, ◌++◌, map, set, drop, length, get_or, Option, Some, refl, sym, ap, ◌∙◌, arith}
use Rattle.std.specs.Prelude.{slice_index}
use Rattle.std.proofs.lemmas.List.{append_assoc, map-set, drop-drop}
use Rattle.mage_scopes.specs.Scopes.{Meaning, found, replaced}
use Rattle.mage_scopes.proofs.Laws.{replaced-replaced}
use Rattle.mage_meaning.specs.declared.known.Known.{Known}
use Rattle.mage_meaning.specs.declared.known.Known.TheVariants as known
use Rattle.mage_meaning.specs.declared.known.Row.{Row}
use Rattle.mage_linked.specs.Workers.{list_at}
use Rattle.mage_meaning.specs.Value.{as_row, first_of, without_first, with_output}

-- ---- lists of lists

pub list_at-within : {A : Type 0} (f : A → List ℕ) (xs : List A) (i : ℕ) (d : A) → i < length xs → list_at (map f xs) i ≡ f (get_or xs i d)
list_at-within f [] i d h = absurd (omega arith)
list_at-within f (x ∷ xs) zero d h = refl
list_at-within f (x ∷ xs) (suc i) d h = list_at-within f xs i d (omega arith)

pub list_at-beyond : {A : Type 0} (f : A → List ℕ) (xs : List A) (i : ℕ) → length xs ≤ i → list_at (map f xs) i ≡ []
list_at-beyond f [] i h = refl
list_at-beyond f (x ∷ xs) zero h = absurd (omega arith)
list_at-beyond f (x ∷ xs) (suc i) h = list_at-beyond f xs i (omega arith)

set-beyond : (xs : List (List ℕ)) (i : ℕ) (y : List ℕ) → length xs ≤ i → set xs i y ≡ xs
set-beyond [] i y h = refl
set-beyond (x ∷ xs) zero y h = absurd (omega arith)
set-beyond (x ∷ xs) (suc i) y h = ap (λ l. x ∷ l) (set-beyond xs i y (omega arith))

-- a worker's list lacks its first values
pub take_first-is : {A : Type 0} (f : A → List ℕ) (xs : List A) (i count : ℕ) (old new : A) → i < length xs → old ≡ get_or xs i old → f new ≡ drop count (f old) → map f (set xs i new) ≡ without_first count i (map f xs)
take_first-is f xs i count old new h e n =
    map-set f xs i new ∙ ap (λ l. set (map f xs) i l) (n ∙ ap (λ x. drop count (f x)) e ∙ ap (λ l. drop count l) (sym (list_at-within f xs i old h)))

-- a worker has an output more
pub add_output-is : {A : Type 0} (f : A → List ℕ) (xs : List A) (i value : ℕ) (old new : A) → i < length xs → old ≡ get_or xs i old → f new ≡ f old ++ value ∷ [] → map f (set xs i new) ≡ with_output (map f xs) i value
add_output-is f xs i value old new h e n =
    map-set f xs i new ∙ ap (λ l. set (map f xs) i l) (n ∙ ap (λ x. f x ++ value ∷ []) e ∙ ap (λ l. l ++ value ∷ []) (sym (list_at-within f xs i old h)))

-- ---- the first values

slice_index-drop : (i : ℕ) (xs : List ℕ) → slice_index (drop i xs) 0 ≡ slice_index xs i
slice_index-drop zero xs = refl
slice_index-drop (suc i) [] = refl
slice_index-drop (suc i) (x ∷ xs) = slice_index-drop i xs

pub first_of-more : (count place : ℕ) (values : List ℕ) → place < count → first_of (count - place) (drop place values) ≡ slice_index values place ∷ first_of (count - (place + 1)) (drop (place + 1) values)
first_of-more count place values h =
    let n : count - place ≡ suc (count - (place + 1)) = omega arith in
    ap (λ k. first_of k (drop place values)) n
    ∙ ap (λ x. x ∷ first_of (count - (place + 1)) (drop 1 (drop place values))) (slice_index-drop place values)
    ∙ ap (λ l. slice_index values place ∷ first_of (count - (place + 1)) l) (drop-drop 1 place values)

pub first_of-turn : (items more values total : List ℕ) (count place x : ℕ) → place < count → more ≡ items ++ x ∷ [] → x ≡ slice_index values place → items ++ first_of (count - place) (drop place values) ≡ total → more ++ first_of (count - (place + 1)) (drop (place + 1) values) ≡ total
first_of-turn items more values total count place x h push is e =
    let rest = first_of (count - (place + 1)) (drop (place + 1) values) in
    ap (λ l. l ++ rest) push ∙ append_assoc items (x ∷ []) rest ∙ ap (λ y. items ++ y ∷ rest) is
    ∙ ap (λ l. items ++ l) (sym (first_of-more count place values h)) ∙ e

-- ---- an item of an array that a name stands for

pub set_item-is : (s0 s1 s2 : List (Meaning Known)) (name : List ℕ) (nothing : Known) (row r : Row) (position value : ℕ) → s1 ≡ replaced s0 name nothing → s2 ≡ replaced s1 name (known.Array r) → r ≡ record row { values = set row.values position value } → found s0 name ≡ Some (known.Array row) → s2 ≡ replaced s0 name (known.Array (record (as_row (found s0 name)) { values = set (as_row (found s0 name)).values position value }))
set_item-is s0 s1 s2 name nothing row r position value e1 e2 e3 here =
    e2 ∙ ap (λ s. replaced s name (known.Array r)) e1 ∙ replaced-replaced s0 name nothing (known.Array r)
    ∙ ap (λ (x : Row). replaced s0 name (known.Array x)) e3
    ∙ ap (λ (o : Option Known). replaced s0 name (known.Array (record (as_row o) { values = set (as_row o).values position value }))) (sym here)
