-- Prefixes of lists.
use Rattle.std.proofs.Common.{◌≡◌, ◌≤◌, ◌+◌, List, [], ◌∷◌, ◌++◌, refl, sym, ap, ◌∙◌, subst, length, length-append, append_assoc, append-nil, arith, slice_get, Some}
use Rattle.std.proofs.lemmas.List.{append_cancel_left, nil_from_length}
use Rattle.mage_network.specs.Pasts.{IsPrefix}

pub prefix_same : {X : Type 0} (xs ys : List X) → xs ≡ ys → IsPrefix xs ys
prefix_same xs ys e = ([], append-nil xs ∙ e)

pub prefix_append : {X : Type 0} (xs ys : List X) → IsPrefix xs (xs ++ ys)
prefix_append xs ys = (ys, refl)

pub prefix_then : {X : Type 0} (xs ys zs : List X) → IsPrefix xs ys → IsPrefix ys zs →
    IsPrefix xs zs
prefix_then xs ys zs h k = (
  h.0 ++ k.0,
  sym (append_assoc xs h.0 k.0)
      ∙ (ap (λ l. l ++ k.0) h.1 ∙ k.1),
)

pub prefix_length : {X : Type 0} (xs ys : List X) → IsPrefix xs ys → length xs ≤ length ys
prefix_length {X} xs ys h =
    let e : length xs + length h.0 ≡ length ys = sym (length-append xs h.0) ∙ ap length h.1 in
    omega arith

pub length-append_one : {X : Type 0} (xs : List X) (x : X) → length (xs ++ x ∷ []) ≡ length xs + 1
length-append_one xs x = length-append xs (x ∷ [])

head_same : {X : Type 0} (x y : X) (xs ys : List X) → x ∷ xs ≡ y ∷ ys → x ≡ y
head_same x y xs ys e = cc

-- two lists that go on, each by one, to prefixes of one list
pub same_next : {X : Type 0} (xs : List X) (x y : X) (whole : List X) →
    IsPrefix (xs ++ x ∷ []) whole → IsPrefix (xs ++ y ∷ []) whole → x ≡ y
same_next xs x y whole h k =
    head_same x y h.0 k.0 (append_cancel_left xs (x ∷ h.0) (y ∷ k.0)
    (sym (append_assoc xs (x ∷ []) h.0) ∙ (h.1 ∙ (sym k.1 ∙ append_assoc xs (y ∷ []) k.0))))

-- what stands behind a prefix
pub slice_get-next : {X : Type 0} (xs : List X) (x : X) (whole : List X) →
    IsPrefix (xs ++ x ∷ []) whole → slice_get whole (length xs) ≡ Some x
slice_get-next {X} xs x whole h = subst (λ l. slice_get l (length xs) ≡ Some x) h.1 (go xs h.0)
  where
    go : (xs rest : List X) → slice_get ((xs ++ x ∷ []) ++ rest) (length xs) ≡ Some x
    go [] rest = refl
    go (y ∷ ys) rest = go ys rest

pub prefix_nothing : {X : Type 0} (xs ys : List X) → IsPrefix xs ys → length ys ≤ length xs →
    xs ≡ ys
prefix_nothing {X} xs ys h l =
    let e : length xs + length h.0 ≡ length ys = sym (length-append xs h.0) ∙ ap length h.1 in
    let none : length h.0 ≡ 0 = omega arith in
    sym (append-nil xs) ∙ (ap (λ r. xs ++ r) (sym (nil_from_length h.0 none)) ∙ h.1)
