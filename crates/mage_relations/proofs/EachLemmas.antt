-- Lists that are related item by item.
use Rattle.std.proofs.Common.{◌≡◌, ℕ, zero, suc, List, [], ◌∷◌, ◌++◌, length, take, drop, map, reverse, replicate, get_or, refl, sym, ap, ap₂, subst}
use Rattle.std.specs.List.{zip}
use Rattle.std.proofs.lemmas.List.{reverse-append}
use Rattle.mage_relations.specs.Each.{Each}

module _ {A B C : Type 0} (Q : A → B → C → Type 0) where
  pub each_append : (xs xs' : List A) (ys ys' : List B) (zs zs' : List C) → Each Q xs ys zs → Each Q xs' ys' zs' → Each Q (xs ++ xs') (ys ++ ys') (zs ++ zs')
  each_append [] xs' [] ys' [] zs' e f = f
  each_append [] xs' [] ys' (z ∷ zs) zs' e f = absurd e
  each_append [] xs' (y ∷ ys) ys' [] zs' e f = absurd e
  each_append [] xs' (y ∷ ys) ys' (z ∷ zs) zs' e f = absurd e
  each_append (x ∷ xs) xs' [] ys' [] zs' e f = absurd e
  each_append (x ∷ xs) xs' [] ys' (z ∷ zs) zs' e f = absurd e
  each_append (x ∷ xs) xs' (y ∷ ys) ys' [] zs' e f = absurd e
  each_append (x ∷ xs) xs' (y ∷ ys) ys' (z ∷ zs) zs' e f = (e.0, each_append xs xs' ys ys' zs zs' e.1 f)

  pub each_take : (n : ℕ) (xs : List A) (ys : List B) (zs : List C) → Each Q xs ys zs → Each Q (take n xs) (take n ys) (take n zs)
  each_take zero xs ys zs e = tt
  each_take (suc n) [] [] [] e = tt
  each_take (suc n) [] [] (z ∷ zs) e = absurd e
  each_take (suc n) [] (y ∷ ys) [] e = absurd e
  each_take (suc n) [] (y ∷ ys) (z ∷ zs) e = absurd e
  each_take (suc n) (x ∷ xs) [] [] e = absurd e
  each_take (suc n) (x ∷ xs) [] (z ∷ zs) e = absurd e
  each_take (suc n) (x ∷ xs) (y ∷ ys) [] e = absurd e
  each_take (suc n) (x ∷ xs) (y ∷ ys) (z ∷ zs) e = (e.0, each_take n xs ys zs e.1)

  pub each_drop : (n : ℕ) (xs : List A) (ys : List B) (zs : List C) → Each Q xs ys zs → Each Q (drop n xs) (drop n ys) (drop n zs)
  each_drop zero xs ys zs e = e
  each_drop (suc n) [] [] [] e = tt
  each_drop (suc n) [] [] (z ∷ zs) e = absurd e
  each_drop (suc n) [] (y ∷ ys) [] e = absurd e
  each_drop (suc n) [] (y ∷ ys) (z ∷ zs) e = absurd e
  each_drop (suc n) (x ∷ xs) [] [] e = absurd e
  each_drop (suc n) (x ∷ xs) [] (z ∷ zs) e = absurd e
  each_drop (suc n) (x ∷ xs) (y ∷ ys) [] e = absurd e
  each_drop (suc n) (x ∷ xs) (y ∷ ys) (z ∷ zs) e = each_drop n xs ys zs e.1

  pub each_long : (xs : List A) (ys : List B) (zs : List C) → Each Q xs ys zs → (length xs ≡ length ys) × (length ys ≡ length zs)
  each_long [] [] [] e = (refl, refl)
  each_long [] [] (z ∷ zs) e = absurd e
  each_long [] (y ∷ ys) [] e = absurd e
  each_long [] (y ∷ ys) (z ∷ zs) e = absurd e
  each_long (x ∷ xs) [] [] e = absurd e
  each_long (x ∷ xs) [] (z ∷ zs) e = absurd e
  each_long (x ∷ xs) (y ∷ ys) [] e = absurd e
  each_long (x ∷ xs) (y ∷ ys) (z ∷ zs) e = let l = each_long xs ys zs e.1 in (ap suc l.0, ap suc l.1)

  pub each_replicate : (n : ℕ) (x : A) (y : B) (z : C) → Q x y z → Each Q (replicate n x) (replicate n y) (replicate n z)
  each_replicate zero x y z q = tt
  each_replicate (suc n) x y z q = (q, each_replicate n x y z q)

  pub each_get : (xs : List A) (ys : List B) (zs : List C) (n : ℕ) (x : A) (y : B) (z : C) → Each Q xs ys zs → Q x y z → Q (get_or xs n x) (get_or ys n y) (get_or zs n z)
  each_get [] [] [] n x y z e q = q
  each_get [] [] (z' ∷ zs) n x y z e q = absurd e
  each_get [] (y' ∷ ys) [] n x y z e q = absurd e
  each_get [] (y' ∷ ys) (z' ∷ zs) n x y z e q = absurd e
  each_get (x' ∷ xs) [] [] n x y z e q = absurd e
  each_get (x' ∷ xs) [] (z' ∷ zs) n x y z e q = absurd e
  each_get (x' ∷ xs) (y' ∷ ys) [] n x y z e q = absurd e
  each_get (x' ∷ xs) (y' ∷ ys) (z' ∷ zs) zero x y z e q = e.0
  each_get (x' ∷ xs) (y' ∷ ys) (z' ∷ zs) (suc n) x y z e q = each_get xs ys zs n x y z e.1 q

  pub each_reverse : (xs : List A) (ys : List B) (zs : List C) → Each Q xs ys zs → Each Q (reverse xs) (reverse ys) (reverse zs)
  each_reverse [] [] [] e = tt
  each_reverse [] [] (z ∷ zs) e = absurd e
  each_reverse [] (y ∷ ys) [] e = absurd e
  each_reverse [] (y ∷ ys) (z ∷ zs) e = absurd e
  each_reverse (x ∷ xs) [] [] e = absurd e
  each_reverse (x ∷ xs) [] (z ∷ zs) e = absurd e
  each_reverse (x ∷ xs) (y ∷ ys) [] e = absurd e
  each_reverse (x ∷ xs) (y ∷ ys) (z ∷ zs) e =
      rw (reverse-append (x ∷ []) xs, reverse-append (y ∷ []) ys, reverse-append (z ∷ []) zs)
      (each_append (reverse xs) (x ∷ []) (reverse ys) (y ∷ []) (reverse zs) (z ∷ []) (each_reverse xs ys zs e.1) (e.0, tt))

-- pairs are related by both parts
abbrev pub Both : {A B C A' B' C' : Type 0} → (A → B → C → Type 0) → (A' → B' → C' → Type 0) → A × A' → B × B' → C × C' → Type 0
Both Q P x y z = Q x.0 y.0 z.0 × P x.1 y.1 z.1

module _ {A B C : Type 0} (Q : A → B → C → Type 0) where
  pub each_zip : (xs xs' : List A) (ys ys' : List B) (zs zs' : List C) → Each Q xs ys zs → Each Q xs' ys' zs' → Each (Both Q Q) (zip xs xs') (zip ys ys') (zip zs zs')
  each_zip [] xs' [] ys' [] zs' e f = tt
  each_zip [] xs' [] ys' (z ∷ zs) zs' e f = absurd e
  each_zip [] xs' (y ∷ ys) ys' [] zs' e f = absurd e
  each_zip [] xs' (y ∷ ys) ys' (z ∷ zs) zs' e f = absurd e
  each_zip (x ∷ xs) xs' [] ys' [] zs' e f = absurd e
  each_zip (x ∷ xs) xs' [] ys' (z ∷ zs) zs' e f = absurd e
  each_zip (x ∷ xs) xs' (y ∷ ys) ys' [] zs' e f = absurd e
  each_zip (x ∷ xs) [] (y ∷ ys) [] (z ∷ zs) [] e f = tt
  each_zip (x ∷ xs) [] (y ∷ ys) [] (z ∷ zs) (z' ∷ zs') e f = absurd f
  each_zip (x ∷ xs) [] (y ∷ ys) (y' ∷ ys') (z ∷ zs) [] e f = absurd f
  each_zip (x ∷ xs) [] (y ∷ ys) (y' ∷ ys') (z ∷ zs) (z' ∷ zs') e f = absurd f
  each_zip (x ∷ xs) (x' ∷ xs') (y ∷ ys) [] (z ∷ zs) [] e f = absurd f
  each_zip (x ∷ xs) (x' ∷ xs') (y ∷ ys) [] (z ∷ zs) (z' ∷ zs') e f = absurd f
  each_zip (x ∷ xs) (x' ∷ xs') (y ∷ ys) (y' ∷ ys') (z ∷ zs) [] e f = absurd f
  each_zip (x ∷ xs) (x' ∷ xs') (y ∷ ys) (y' ∷ ys') (z ∷ zs) (z' ∷ zs') e f = ((e.0, f.0), each_zip xs xs' ys ys' zs zs' e.1 f.1)

-- related lists whose items are mapped so that what comes of related items is related
pub each_map : {A B C A' B' C' : Type 0} (Q : A → B → C → Type 0) (P : A' → B' → C' → Type 0) (f : A → A') (g : B → B') (h : C → C') →
    ((x : A) (y : B) (z : C) → Q x y z → P (f x) (g y) (h z)) → (xs : List A) (ys : List B) (zs : List C) → Each Q xs ys zs → Each P (map f xs) (map g ys) (map h zs)
each_map Q P f g h keeps [] [] [] e = tt
each_map Q P f g h keeps [] [] (z ∷ zs) e = absurd e
each_map Q P f g h keeps [] (y ∷ ys) [] e = absurd e
each_map Q P f g h keeps [] (y ∷ ys) (z ∷ zs) e = absurd e
each_map Q P f g h keeps (x ∷ xs) [] [] e = absurd e
each_map Q P f g h keeps (x ∷ xs) [] (z ∷ zs) e = absurd e
each_map Q P f g h keeps (x ∷ xs) (y ∷ ys) [] e = absurd e
each_map Q P f g h keeps (x ∷ xs) (y ∷ ys) (z ∷ zs) e = (keeps x y z e.0, each_map Q P f g h keeps xs ys zs e.1)

-- the same thing three times
abbrev pub Same : {A : Type 0} → A → A → A → Type 0
Same a b c = (a ≡ b) × (c ≡ b)

-- and lists of it
module _ {A : Type 0} where
  pub each_same : (xs : List A) → Each Same xs xs xs
  each_same [] = tt
  each_same (x ∷ xs) = ((refl, refl), each_same xs)

  pub each_of : (xs ys zs : List A) → xs ≡ ys → zs ≡ ys → Each Same xs ys zs
  each_of xs ys zs e f = subst (λ (l : List A). Each Same l ys zs) (sym e) (subst (λ (l : List A). Each Same ys ys l) (sym f) (each_same ys))

  pub same_lists : (xs ys zs : List A) → Each Same xs ys zs → (xs ≡ ys) × (zs ≡ ys)
  same_lists [] [] [] e = (refl, refl)
  same_lists [] [] (z ∷ zs) e = absurd e
  same_lists [] (y ∷ ys) [] e = absurd e
  same_lists [] (y ∷ ys) (z ∷ zs) e = absurd e
  same_lists (x ∷ xs) [] [] e = absurd e
  same_lists (x ∷ xs) [] (z ∷ zs) e = absurd e
  same_lists (x ∷ xs) (y ∷ ys) [] e = absurd e
  same_lists (x ∷ xs) (y ∷ ys) (z ∷ zs) e =
      let rest = same_lists xs ys zs e.1 in
      (ap₂ (λ (v : A) (vs : List A). v ∷ vs) e.0.0 rest.0, ap₂ (λ (v : A) (vs : List A). v ∷ vs) e.0.1 rest.1)
