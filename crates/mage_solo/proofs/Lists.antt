-- Lists, by what is found in them.
use Rattle.std.proofs.Common.{◌≡◌, ◌<◌, ◌≤◌, ℕ, zero, suc, List, [], ◌∷◌, length, map, replicate, Option, None, Some, slice_get, slice_index_or, refl, sym, ap, ap₂, ◌∙◌, subst, arith}
use Rattle.std.proofs.lemmas.List.{length-map}
use Rattle.std.specs.Prelude.{IfSome}
use Rattle.mage_linked.specs.Workers.{list_at}

pub same_some : {X : Type 0} (x y : X) → Some x ≡ Some y → x ≡ y
same_some x y e = cc

pub if_found : {X : Type 0} (P : X → Type 0) (o : Option X) (x : X) → o ≡ Some x → IfSome o P → P x
if_found {X} P o x e h = subst (λ (p : Option X). IfSome p P) e h

-- a fact of each of some values, from what is found
pub if_each : {X : Type 0} (P : X → Type 0) (o : Option X) → ((x : X) → o ≡ Some x → P x) → IfSome o P
if_each P None f = tt
if_each P (Some x) f = f x refl

pub map_get : {X Y : Type 0} (f : X → Y) (xs : List X) (w : ℕ) (x : X) → slice_get xs w ≡ Some x → slice_get (map f xs) w ≡ Some (f x)
map_get f [] zero x e = absurd cc
map_get f [] (suc w) x e = absurd cc
map_get f (y ∷ xs) zero x e = let same : y ≡ x = cc in ap (λ z. Some (f z)) same
map_get f (y ∷ xs) (suc w) x e = map_get f xs w x e

-- what is found in a mapped list comes of something
pub unmap : {X Y : Type 0} (f : X → Y) (xs : List X) (w : ℕ) (y : Y) → slice_get (map f xs) w ≡ Some y → (x : X) × (slice_get xs w ≡ Some x) × (f x ≡ y)
unmap f [] zero y e = absurd cc
unmap f [] (suc w) y e = absurd cc
unmap f (x ∷ xs) zero y e = (x, refl, let same : f x ≡ y = cc in same)
unmap f (x ∷ xs) (suc w) y e = unmap f xs w y e

pub get_within : {X : Type 0} (xs : List X) (w : ℕ) (x : X) → slice_get xs w ≡ Some x → w < length xs
get_within [] zero x e = absurd cc
get_within [] (suc w) x e = absurd cc
get_within (y ∷ xs) zero x e = omega arith
get_within (y ∷ xs) (suc w) x e = let rest = get_within xs w x e in omega (arith, rest)

-- below the length something is found
pub found_below : {X : Type 0} (xs : List X) (w : ℕ) → w < length xs → (x : X) × (slice_get xs w ≡ Some x)
found_below [] w h = absurd (omega arith)
found_below (x ∷ xs) zero h = (x, refl)
found_below (x ∷ xs) (suc w) h = found_below xs w (let h2 : suc w < suc (length xs) = h in omega arith)

-- of lists of one length, each has what another has
pub found_beside : {X Y : Type 0} (xs : List X) (ys : List Y) (w : ℕ) (x : X) → length ys ≡ length xs → slice_get xs w ≡ Some x → (y : Y) × (slice_get ys w ≡ Some y)
found_beside xs ys w x long e = found_below ys w (subst (λ n. w < n) (sym long) (get_within xs w x e))

pub index_found : {X : Type 0} (xs : List X) (w : ℕ) (x d : X) → slice_get xs w ≡ Some x → slice_index_or xs w d ≡ x
index_found [] zero x d e = absurd cc
index_found [] (suc w) x d e = absurd cc
index_found (y ∷ xs) zero x d e = cc
index_found (y ∷ xs) (suc w) x d e = index_found xs w x d e

pub list_found : {X : Type 0} (xs : List (List X)) (w : ℕ) (x : List X) → slice_get xs w ≡ Some x → list_at xs w ≡ x
list_found [] zero x e = absurd cc
list_found [] (suc w) x e = absurd cc
list_found (y ∷ xs) zero x e = cc
list_found (y ∷ xs) (suc w) x e = list_found xs w x e

-- lists of one length that have the same at each worker
pub same_lists : {X : Type 0} (xs ys : List (List X)) → length xs ≡ length ys → ((w : ℕ) → w < length xs → list_at xs w ≡ list_at ys w) → xs ≡ ys
same_lists [] [] long each = refl
same_lists [] (y ∷ ys) long each = absurd (omega (arith, long))
same_lists (x ∷ xs) [] long each = absurd (omega (arith, long))
same_lists {X} (x ∷ xs) (y ∷ ys) long each =
    ap₂ (λ (one : List X) (all : List (List X)). one ∷ all) (each zero (omega arith))
    (same_lists xs ys (omega (arith, long)) (λ w h. each (suc w) (omega (arith, h))))

-- ---- lists of lists of one

abbrev pub ones_of : {X : Type 0} → List X → List (List X)
ones_of xs = map (λ x. x ∷ []) xs

-- each of so many lists has one item
pub record Ones {X : Type 0} (lists : List (List X)) (count : ℕ) : Type 0 where
  pub each : List X
  pub long : length each ≡ count
  pub is : lists ≡ ones_of each

only : {X : Type 0} (xs : List X) → length xs ≡ 1 → (x : X) × (xs ≡ x ∷ [])
only [] e = absurd (omega (arith, e))
only (x ∷ []) e = (x, refl)
only (x ∷ y ∷ rest) e = absurd (omega (arith, e))

pub ones_so : {X : Type 0} (lists : List (List X)) (count : ℕ) → map (λ (list : List X). length list) lists ≡ replicate count 1 → Ones lists count
ones_so [] zero e = record { each = []; long = refl; is = refl }
ones_so [] (suc n) e = absurd cc
ones_so (xs ∷ lists) zero e = absurd cc
ones_so {X} (xs ∷ lists) (suc n) e =
    let first : length xs ≡ 1 = cc in
    let others : map (λ (list : List X). length list) lists ≡ replicate n 1 = cc in
    let rest = ones_so lists n others in
    let one = only xs first in
    record {
      each = one.0 ∷ rest.each;
      long = ap suc rest.long;
      is = ap₂ (λ (a : List X) (l : List (List X)). a ∷ l) one.1 rest.is;
    }

pub mapped_ones : {X Y : Type 0} (f : X → Y) (lists : List (List X)) (count : ℕ) → map (λ (list : List X). length list) lists ≡ replicate count 1 →
    Ones (map (λ list. map f list) lists) count
mapped_ones {X} {Y} f lists count e = ones_so (map (λ list. map f list) lists) count (lengths lists ∙ e)
  where
    lengths : (xs : List (List X)) → map (λ (list : List Y). length list) (map (λ list. map f list) xs) ≡ map (λ (list : List X). length list) xs
    lengths [] = refl
    lengths (x ∷ xs) = ap₂ (λ (n : ℕ) (l : List ℕ). n ∷ l) (length-map x f) (lengths xs)

-- ---- past the end

pub list_past : {X : Type 0} (xs : List (List X)) (w : ℕ) → length xs ≤ w → list_at xs w ≡ []
list_past [] w h = refl
list_past (x ∷ xs) zero h = absurd (omega (arith, h))
list_past (x ∷ xs) (suc w) h = list_past xs w (omega (arith, h))

pub index_past : {X : Type 0} (xs : List X) (w : ℕ) (d : X) → length xs ≤ w → slice_index_or xs w d ≡ d
index_past [] zero d h = refl
index_past [] (suc w) d h = refl
index_past (x ∷ xs) zero d h = absurd (omega (arith, h))
index_past (x ∷ xs) (suc w) d h = index_past xs w d (omega (arith, h))
