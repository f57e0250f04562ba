-- Words that are pairs.
use Rattle.std.proofs.Common.{◌≡◌, ◌∙◌, ◌≤◌, ◌==◌, ◌&&◌, ◌||◌, ℕ, Bool, cond, true, false, refl, sym, ap, ap₂, subst, arith, List, [], ◌∷◌, length, drop, get_or, Option, Some, None, is_some, option_map, String}
use Rattle.std.specs.List.{list_any, starts_with}
use Rattle.std.specs.Prelude.{codes, nat_eq, nat_lt}
use Rattle.std.specs.Option.{unwrap_or}
use Rattle.std.specs.String.{string_bytes}
use Rattle.std.specs.declared.alloc.Global.{Global}
use Rattle.std.proofs.lemmas.Bool.Decides.{Decides-eqb}
use Rattle.clap.specs.Walk.{Text}
use Rattle.mage_words.specs.Words.{Pair, bytes_of_words, is_option_word, is_value_word, pairs_of}
use Rattle.mage_words.proofs.Rows.{both, not_true}
use Rattle.mage_words.proofs.Walked.{HasForm, dashed, has_form}
use Rattle.mage_words.proofs.Faultless.{HaveForm, words_of}

abbrev pair_of : Text → Text → Pair
pair_of word value = record { name = drop 2 word; value = value }

right_false : (a b : Bool) → (a || b) ≡ false → b ≡ false
right_false true b h = cc
right_false false b h = h

-- two words of the form are those of their pair
two_words : (word value : Text) → is_option_word word ≡ true → is_value_word value ≡ true → (word ≡ dashed (drop 2 word)) × HasForm (pair_of word value)
two_words [] value h g = cc
two_words (a ∷ []) value h g = let p = both (starts_with nat_eq (a ∷ []) (codes "--")) _ h in let short : false ≡ true = p.1 in cc
two_words (a ∷ b ∷ []) value h g = let p = both (starts_with nat_eq (a ∷ b ∷ []) (codes "--")) _ h in let short : false ≡ true = p.1 in cc
two_words (a ∷ b ∷ x ∷ xs) [] h g = cc
two_words (a ∷ b ∷ x ∷ xs) (y ∷ ys) h g =
    let p = both (starts_with nat_eq (a ∷ b ∷ x ∷ xs) (codes "--")) _ h in
    let dashes = both (nat_eq 45 a) _ p.0 in
    let second = both (nat_eq 45 b) _ dashes.1 in
    let q = both (nat_lt 2 (length (a ∷ b ∷ x ∷ xs))) _ p.1 in
    let a_is : a ≡ 45 = sym ((Decides-eqb 45 a).0 dashes.0) in
    let b_is : b ≡ 45 = sym ((Decides-eqb 45 b).0 second.0) in
    let lacks : list_any (λ byte. byte == 61) (a ∷ b ∷ x ∷ xs) ≡ false = not_true _ q.1 in
    let behind : list_any (λ byte. byte == 61) (x ∷ xs) ≡ false = right_false (b == 61) _ (right_false (a == 61) _ lacks) in
    (ap₂ (λ (m n : ℕ). m ∷ n ∷ x ∷ xs) a_is b_is, has_form x y xs ys behind (not_true _ g))

-- the words of pairs, and their form
pub pairs_form : (words : List Text) (pairs : List Pair) → pairs_of words ≡ Some pairs → (words ≡ words_of pairs) × HaveForm pairs
pairs_form [] pairs e =
    let is : [] ≡ pairs = ap (λ o. unwrap_or o []) e in
    subst (λ (all : List Pair). ([] ≡ words_of all) × HaveForm all) is (refl, tt)
pairs_form (word ∷ []) pairs e = cc
pairs_form (word ∷ value ∷ rest) pairs e = go (is_option_word word && is_value_word value) refl (pairs_of rest) (λ ps is. pairs_form rest ps is) refl e
  where
    go : (b : Bool) → (is_option_word word && is_value_word value) ≡ b → (o : Option (List Pair))
        → ((ps : List Pair) → pairs_of rest ≡ Some ps → (rest ≡ words_of ps) × HaveForm ps) → pairs_of rest ≡ o
        → cond b (option_map (λ ps. pair_of word value ∷ ps) o) None ≡ Some pairs → (word ∷ value ∷ rest ≡ words_of pairs) × HaveForm pairs
    go false t o next i e = cc
    go true t None next i e = cc
    go true t (Some ps) next i e =
        let more = next ps i in
        let parts = both _ _ t in
        let first = two_words word value parts.0 parts.1 in
        let is : pair_of word value ∷ ps ≡ pairs = ap (λ o. unwrap_or o []) e in
        subst (λ (all : List Pair). (word ∷ value ∷ rest ≡ words_of all) × HaveForm all) is
        (ap₂ (λ (a : Text) (r : List Text). a ∷ value ∷ r) first.0 more.0, (first.1, more.1))

-- the words behind a pair are pairs where all are
pub more_pairs : (words : List (String Global)) (a b : String Global) → 2 ≤ length words → a ≡ get_or words 0 a → b ≡ get_or words 1 b
    → is_option_word (string_bytes a) ≡ true → is_value_word (string_bytes b) ≡ true
    → is_some (pairs_of (bytes_of_words (drop 2 words))) ≡ is_some (pairs_of (bytes_of_words words))
more_pairs [] a b two ia ib h g = absurd (omega arith)
more_pairs (x ∷ []) a b two ia ib h g = absurd (omega arith)
more_pairs (x ∷ y ∷ rest) a b two ia ib h g =
    let hx : is_option_word (string_bytes x) ≡ true = ap (λ w. is_option_word (string_bytes w)) (sym ia) ∙ h in
    let gy : is_value_word (string_bytes y) ≡ true = ap (λ w. is_value_word (string_bytes w)) (sym ib) ∙ g in
    go _ _ hx gy (pairs_of (bytes_of_words rest))
  where
    go : (p q : Bool) → p ≡ true → q ≡ true → (o : Option (List Pair))
        → is_some o ≡ is_some (cond (p && q) (option_map (λ ps. pair_of (string_bytes x) (string_bytes y) ∷ ps) o) None)
    go true true hp hq None = refl
    go true true hp hq (Some ps) = refl
    go true false hp hq o = cc
    go false q hp hq o = cc

-- two words that aren't of the form are no pair
pub no_pair : (words : List (String Global)) (a b : String Global) → 2 ≤ length words → a ≡ get_or words 0 a → b ≡ get_or words 1 b
    → (is_option_word (string_bytes a) && is_value_word (string_bytes b)) ≡ false → is_some (pairs_of (bytes_of_words words)) ≡ false
no_pair [] a b two ia ib h = absurd (omega arith)
no_pair (x ∷ []) a b two ia ib h = absurd (omega arith)
no_pair (x ∷ y ∷ rest) a b two ia ib h =
    let hx : (is_option_word (string_bytes x) && is_value_word (string_bytes y)) ≡ false = ap₂ (λ (v w : String Global). is_option_word (string_bytes v) && is_value_word (string_bytes w)) (sym ia) (sym ib) ∙ h in
    rw hx refl

-- fewer than two words are pairs where there are none
pub few_pairs : (words : List (String Global)) → (2 ≤ length words → ⊥) → (length words == 0) ≡ is_some (pairs_of (bytes_of_words words))
few_pairs [] few = refl
few_pairs (x ∷ []) few = refl
few_pairs (x ∷ y ∷ rest) few = absurd (few (omega arith))
