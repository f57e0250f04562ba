-- Walking over the maps of the scopes, the outermost first.
use Rattle.std.proofs.Common.{◌≡◌, ◌+◌, ◌-◌, ◌<◌, ◌≤◌, ◌↔◌, ℕ, List, [], ◌∷◌, ◌++◌, length, map, take, drop, get_or, Option, None, Some, IsSome, Bool, true, false, refl, ap, sym, ◌∙◌, arith}
use Rattle.std.specs.Option.{option_to_list}
use Rattle.std.proofs.Math.ListN.{set, drop_of_length-le}
use Rattle.std.proofs.lemmas.List.{at_drop_more, map_more, map-append, take-append-drop, take_all, take-set, drop-set}
use Rattle.mage_scopes.specs.Scopes.{Meaning, declared, found, left, with_name, replaced}
use Rattle.mage_scopes.proofs.Laws.{neither, found-append, option_or-none, left-append, with_name-append}

-- a list taken apart at an element
apart : {X : Type 0} (xs : List X) (i : ℕ) (x : X) → i < length xs → x ≡ get_or xs i x → xs ≡ take i xs ++ x ∷ drop (i + 1) xs
apart xs i x within is =
    sym (take-append-drop i xs) ∙ at_drop_more (λ (r : List _). take i xs ++ r) xs i x within
    ∙ ap (λ (y : _). take i xs ++ y ∷ drop (i + 1) xs) (sym is)

set_apart : {X : Type 0} (xs : List X) (i : ℕ) (y : X) → i < length xs → set xs i y ≡ take i xs ++ y ∷ drop (i + 1) xs
set_apart xs i y within =
    sym (take-append-drop i (set xs i y)) ∙ rw (take-set xs i y, drop-set xs i y within) refl

-- one more scope that hasn't the name
pub passed_more : {X V : Type 0} (f : X → Meaning V) (xs : List X) (i : ℕ) (x : X) (name : List ℕ) → i < length xs → x ≡ get_or xs i x → found (map f (take i xs)) name ≡ None → f x name ≡ None → found (map f (take (i + 1) xs)) name ≡ None
passed_more f xs i x name within is passed none =
    ap (λ (s : List (Meaning _)). found s name) (map_more f xs i x within)
    ∙ found-append (map f (take i xs)) (f (get_or xs i x) ∷ []) name
    ∙ rw passed (option_or-none (f (get_or xs i x) name) ∙ ap (λ (y : _). f y name) (sym is) ∙ none)

-- no scope has the name
pub passed_all : {X V : Type 0} (f : X → Meaning V) (xs : List X) (i : ℕ) (name : List ℕ) → length xs ≤ i → found (map f (take i xs)) name ≡ None → found (map f xs) name ≡ None
passed_all f xs i name all passed = ap (λ (r : List _). found (map f r) name) (sym (take_all i xs all)) ∙ passed

found_behind : {X V : Type 0} (f : X → Meaning V) (outer : List X) (x : X) (inner : List X) (name : List ℕ) (held : V) → found (map f outer) name ≡ None → f x name ≡ Some held → found (map f (outer ++ x ∷ inner)) name ≡ Some held
found_behind f [] x inner name held passed here = rw here refl
found_behind f (y ∷ outer) x inner name held passed here =
    let parts = neither (f y name) (found (map f outer) name) passed in
    rw parts.0 (found_behind f outer x inner name held parts.1 here)

-- the first scope that has the name
pub found_here : {X V : Type 0} (f : X → Meaning V) (xs : List X) (i : ℕ) (x : X) (name : List ℕ) (held : V) → i < length xs → x ≡ get_or xs i x → found (map f (take i xs)) name ≡ None → f x name ≡ Some held → found (map f xs) name ≡ Some held
found_here f xs i x name held within is passed here =
    ap (λ (r : List _). found (map f r) name) (apart xs i x within is)
    ∙ found_behind f (take i xs) x (drop (i + 1) xs) name held passed here

replaced_behind : {X V : Type 0} (f : X → Meaning V) (outer : List X) (x y : X) (inner : List X) (name : List ℕ) (held value : V) → found (map f outer) name ≡ None → f x name ≡ Some held → f y ≡ declared (f x) name value → map f (outer ++ y ∷ inner) ≡ replaced (map f (outer ++ x ∷ inner)) name value
replaced_behind f [] x y inner name held value passed here is = rw here (ap (λ (s : Meaning _). s ∷ map f inner) is)
replaced_behind f (z ∷ outer) x y inner name held value passed here is =
    let parts = neither (f z name) (found (map f outer) name) passed in
    rw parts.0 (ap (λ (r : List (Meaning _)). f z ∷ r) (replaced_behind f outer x y inner name held value parts.1 here is))

pub replaced_here : {X V : Type 0} (f : X → Meaning V) (xs : List X) (i : ℕ) (x y : X) (name : List ℕ) (held value : V) → i < length xs → x ≡ get_or xs i x → found (map f (take i xs)) name ≡ None → f x name ≡ Some held → f y ≡ declared (f x) name value → map f (set xs i y) ≡ replaced (map f xs) name value
replaced_here f xs i x y name held value within is passed here now =
    ap (map f) (set_apart xs i y within)
    ∙ replaced_behind f (take i xs) x y (drop (i + 1) xs) name held value passed here now
    ∙ ap (λ (r : List _). replaced (map f r) name value) (sym (apart xs i x within is))

-- the innermost scope, and another in its place
pub declared_last : {X V : Type 0} (f : X → Meaning V) (xs : List X) (count : ℕ) (x y : X) (name : List ℕ) (value : V) → length xs ≡ count → 0 < count → x ≡ get_or xs (count - 1) x → f y ≡ declared (f x) name value → map f (set xs (count - 1) y) ≡ with_name (map f xs) name value
declared_last f xs count x y name value counted some is now =
    let within : count - 1 < length xs = omega arith in
    let outer = take (count - 1) xs in
    let rest : drop (count - 1 + 1) xs ≡ [] = drop_of_length-le xs (omega arith) in
    ap (map f) (set_apart xs (count - 1) y within ∙ ap (λ (r : List _). outer ++ y ∷ r) rest)
    ∙ map-append f outer (y ∷ [])
    ∙ ap (λ (s : Meaning _). map f outer ++ s ∷ []) now
    ∙ sym (with_name-append (map f outer) (f x) name value)
    ∙ ap (λ (s : List (Meaning _)). with_name s name value) (sym (map-append f outer (x ∷ [])))
    ∙ ap (λ (r : List _). with_name (map f r) name value) (sym (apart xs (count - 1) x within is ∙ ap (λ (r : List _). outer ++ x ∷ r) rest))

-- the scopes without the innermost one, which `pop` gave
pub popped : {X V : Type 0} (f : X → Meaning V) (xs : List X) (count : ℕ) (ys : List X) (o : Option X) → length xs ≡ count → xs ≡ ys ++ option_to_list o → (IsSome o ↔ (0 < count)) → map f ys ≡ left (map f xs)
popped f xs count ys (Some x) counted is some = rw (is, map-append f ys (x ∷ [])) (sym (left-append (map f ys) (f x)))
popped f [] count [] None counted is some = refl
popped f [] count (y ∷ ys) None counted is some = absurd (cc)
popped f (x ∷ xs) count ys None counted is some = let none_is_some : ◌≡◌ {A = Bool} false true = some.1 (omega arith) in absurd (cc)
