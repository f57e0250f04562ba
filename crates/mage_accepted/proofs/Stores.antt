-- Two pages never hold one store page, so a store has at most as many pages as there are pages at all.
use Rattle.std.proofs.Common.{◌≡◌, ◌<◌, ◌≤◌, ◌⊎◌, inl, inr, zero, suc, ℕ, Bool, true, false, cond, List, [], ◌∷◌, ◌++◌, Option, None, Some, is_some, length, map, get_or, set, nat_eq, refl, sym, ◌∙◌, ap, arith, ⊎_elim, position, true≢false}
use Rattle.std.specs.List.{position_or_len}
use Rattle.std.proofs.Math.Dec.{ltb}
use Rattle.std.proofs.lemmas.Bool.{cases_eq, ltb-false, false≢true, false_from_ne_true}
use Rattle.std.proofs.lemmas.List.Sums.{fails_before_first}
use Rattle.mage_instr.specs.declared.directive.Directive.{Directive}
use Rattle.mage_instr.specs.declared.directive.Directive.TheVariants as entry
use Rattle.mage_belady.specs.Plan.{is_in, AreDistinct}
use Rattle.mage_belady.proofs.Counts.{is_in-cons, is_in-here, is_in-tail, how_many-le, how_many-all}
use Rattle.mage_belady.proofs.Sets.{not-in-tail, not-in-head}
use Rattle.mage_sched.specs.Reads.{is_page}
use Rattle.mage_sched.specs.Homes.{Store, is_free, number_held, home_of, taken, housed_at, housed, cleared, let_go, store_after, homed_from, empty_store, homed_of}
use Rattle.mage_accepted.proofs.Own.{same_test}

-- the pages that hold a store page
abbrev holding : List (Option ℕ) → List ℕ
holding [] = []
holding (None ∷ holders) = holding holders
holding (Some page ∷ holders) = page ∷ holding holders

number_is : (holders : List (Option ℕ)) → number_held holders ≡ length (holding holders)
number_is [] = refl
number_is (None ∷ holders) = number_is holders
number_is (Some page ∷ holders) = let rest = number_is holders in omega (arith, rest)

-- ---- a page takes a store page

-- what is held, once one more page is
in_set : (holders : List (Option ℕ)) (k page q : ℕ) → is_in q (holding (set holders k (Some page))) ≡ true
    → (q ≡ page) ⊎ (is_in q (holding holders) ≡ true)
in_set [] k page q h = inr h
in_set (None ∷ holders) zero page q h = is_in-cons q page (holding holders) h
in_set (Some old ∷ holders) zero page q h = ⊎_elim inl (λ m. inr (is_in-tail q old (holding holders) m)) (is_in-cons q page (holding holders) h)
in_set (None ∷ holders) (suc k) page q h = in_set holders k page q h
in_set (Some old ∷ holders) (suc k) page q h = ⊎_elim
    (λ e. inr (is_in-here q old (holding holders) e))
    (λ m. ⊎_elim inl (λ n. inr (is_in-tail q old (holding holders) n)) (in_set holders k page q m))
    (is_in-cons q old (holding (set holders k (Some page))) h)

distinct_set : (holders : List (Option ℕ)) (k page : ℕ) → AreDistinct (holding holders) → is_in page (holding holders) ≡ false
    → AreDistinct (holding (set holders k (Some page)))
distinct_set [] k page d new = tt
distinct_set (None ∷ holders) zero page d new = (new, d)
distinct_set (Some old ∷ holders) zero page d new = (not-in-tail page old (holding holders) new, d.1)
distinct_set (None ∷ holders) (suc k) page d new = distinct_set holders k page d new
distinct_set (Some old ∷ holders) (suc k) page d new = (
  false_from_ne_true (is_in old (holding (set holders k (Some page)))) (λ m. ⊎_elim
      (λ e. not-in-head page old (holding holders) new (sym e))
      (λ n. true≢false (sym n ∙ d.0))
      (in_set holders k page old m)),
  distinct_set holders k page d.1 (not-in-tail page old (holding holders) new),
)

in_push : (holders : List (Option ℕ)) (page q : ℕ) → is_in q (holding (holders ++ Some page ∷ [])) ≡ true
    → (q ≡ page) ⊎ (is_in q (holding holders) ≡ true)
in_push [] page q h = is_in-cons q page [] h
in_push (None ∷ holders) page q h = in_push holders page q h
in_push (Some old ∷ holders) page q h = ⊎_elim
    (λ e. inr (is_in-here q old (holding holders) e))
    (λ m. ⊎_elim inl (λ n. inr (is_in-tail q old (holding holders) n)) (in_push holders page q m))
    (is_in-cons q old (holding (holders ++ Some page ∷ [])) h)

distinct_push : (holders : List (Option ℕ)) (page : ℕ) → AreDistinct (holding holders) → is_in page (holding holders) ≡ false
    → AreDistinct (holding (holders ++ Some page ∷ []))
distinct_push [] page d new = (refl, tt)
distinct_push (None ∷ holders) page d new = distinct_push holders page d new
distinct_push (Some old ∷ holders) page d new = (
  false_from_ne_true (is_in old (holding (holders ++ Some page ∷ []))) (λ m. ⊎_elim
      (λ e. not-in-head page old (holding holders) new (sym e))
      (λ n. true≢false (sym n ∙ d.0))
      (in_push holders page old m)),
  distinct_push holders page d.1 (not-in-tail page old (holding holders) new),
)

-- ---- a page lets its store page go

in_cleared : (holders : List (Option ℕ)) (page q : ℕ) → is_in q (holding (map (cleared page) holders)) ≡ true
    → is_in q (holding holders) ≡ true
in_cleared [] page q h = h
in_cleared (None ∷ holders) page q h = in_cleared holders page q h
in_cleared (Some old ∷ holders) page q h = go (nat_eq old page) h (in_cleared holders page q) where
  go : (b : Bool) → is_in q (holding (cond b None (Some old) ∷ map (cleared page) holders)) ≡ true
      → (is_in q (holding (map (cleared page) holders)) ≡ true → is_in q (holding holders) ≡ true)
      → is_in q (old ∷ holding holders) ≡ true
  go true m rest = is_in-tail q old (holding holders) (rest m)
  go false m rest = ⊎_elim (is_in-here q old (holding holders)) (λ n. is_in-tail q old (holding holders) (rest n)) (is_in-cons q old (holding (map (cleared page) holders)) m)

distinct_cleared : (holders : List (Option ℕ)) (page : ℕ) → AreDistinct (holding holders)
    → AreDistinct (holding (map (cleared page) holders))
distinct_cleared [] page d = d
distinct_cleared (None ∷ holders) page d = distinct_cleared holders page d
distinct_cleared (Some old ∷ holders) page d = go (nat_eq old page) (distinct_cleared holders page d.1) where
  go : (b : Bool) → AreDistinct (holding (map (cleared page) holders))
      → AreDistinct (holding (cond b None (Some old) ∷ map (cleared page) holders))
  go true rest = rest
  go false rest = (false_from_ne_true (is_in old (holding (map (cleared page) holders))) (λ m. true≢false (sym (in_cleared holders page old m) ∙ d.0)), rest)

-- ---- pages that hold none

absent : (holders : List (Option ℕ)) (page : ℕ) → ((k : ℕ) → k < length holders → is_page (get_or holders k None) page ≡ false)
    → is_in page (holding holders) ≡ false
absent [] page h = refl
absent (None ∷ holders) page h = absent holders page (λ k lt. h (suc k) (omega (arith, lt)))
absent (Some old ∷ holders) page h =
    let other : nat_eq page old ≡ false = same_test page old ∙ h 0 (omega arith) in
    rw other (absent holders page (λ k lt. h (suc k) (omega (arith, lt))))

homeless : (holders : List (Option ℕ)) (page : ℕ) → home_of holders page ≡ None → is_in page (holding holders) ≡ false
homeless holders page h = go (ltb (position_or_len (λ holder. is_page holder page) holders) (length holders)) refl h where
  go : (b : Bool) → ltb (position_or_len (λ holder. is_page holder page) holders) (length holders) ≡ b
      → cond b (Some (position_or_len (λ holder. is_page holder page) holders)) None ≡ None
      → is_in page (holding holders) ≡ false
  go true e f = absurd (true≢false (ap is_some f))
  go false e f =
      let past = ltb-false (position_or_len (λ holder. is_page holder page) holders) (length holders) e in
      absent holders page (λ k lt. fails_before_first (λ holder. is_page holder page) holders k None (omega (arith, past, lt)))

-- ---- all directives

-- the pages that hold store pages are distinct, and below a number
record AreHeld (n : ℕ) (holders : List (Option ℕ)) : Type 0 where
  distinct : AreDistinct (holding holders)
  below : (q : ℕ) → is_in q (holding holders) ≡ true → q < n

-- the numbers below n
abbrev up_to : ℕ → List ℕ
up_to zero = []
up_to (suc n) = n ∷ up_to n

length-up_to : (n : ℕ) → length (up_to n) ≡ n
length-up_to zero = refl
length-up_to (suc n) = ap suc (length-up_to n)

in_up_to : (n q : ℕ) → q < n → is_in q (up_to n) ≡ true
in_up_to zero q lt = absurd (omega (arith, lt))
in_up_to (suc n) q lt = ⊎_elim (is_in-here q n (up_to n)) (λ ne. is_in-tail q n (up_to n) (in_up_to n q (omega (arith, lt, ne)))) (cases_eq q n)

few_held : (n : ℕ) (holders : List (Option ℕ)) → AreHeld n holders → number_held holders ≤ n
few_held n holders h =
    let le = how_many-le (λ q. true) (λ q. true) (holding holders) (up_to n) h.distinct (λ q m e. (in_up_to n q (h.below q m), refl)) in
    let left = how_many-all (holding holders) in
    let right = how_many-all (up_to n) in
    let long = length-up_to n in
    let number = number_is holders in
    omega (arith, le, left, right, long, number)

housed_held : (n : ℕ) (holders : List (Option ℕ)) (page : ℕ) → page < n → AreHeld n holders → AreHeld n (housed page holders)
housed_held n holders page lt h = go (home_of holders page) refl where
  takes : (o : Option ℕ) → is_in page (holding holders) ≡ false → AreHeld n (taken o page holders)
  takes None new = record {
    distinct = distinct_push holders page h.distinct new;
    below = λ q m. ⊎_elim (λ e. let same : q ≡ page = e in omega (arith, same, lt)) (h.below q) (in_push holders page q m);
  }
  takes (Some home) new = record {
    distinct = distinct_set holders home page h.distinct new;
    below = λ q m. ⊎_elim (λ e. let same : q ≡ page = e in omega (arith, same, lt)) (h.below q) (in_set holders home page q m);
  }

  go : (o : Option ℕ) → home_of holders page ≡ o → AreHeld n (housed_at o page holders)
  go None e = takes (position is_free holders) (homeless holders page e)
  go (Some home) e = h

let_go_held : (n : ℕ) (holders : List (Option ℕ)) (o : Option ℕ) → AreHeld n holders → AreHeld n (let_go o holders)
let_go_held n holders None h = h
let_go_held n holders (Some page) h = record { distinct = distinct_cleared holders page h.distinct; below = λ q m. h.below q (in_cleared holders page q m) }

-- an issue of a write names a page below a number
abbrev pub IsWritten : (n : ℕ) → Directive → Type 0
IsWritten n (entry.IssueOut slot frame page) = page < n
IsWritten n _ = Unit {0}

abbrev pub AreWritten : (n : ℕ) → List Directive → Type 0
AreWritten n [] = Unit {0}
AreWritten n (one ∷ list) = IsWritten n one × AreWritten n list

after_held : (n : ℕ) (one : Directive) (later : List Directive) (store : Store) → IsWritten n one → AreHeld n store.holders
    → AreHeld n (store_after one later store).holders
after_held n (entry.Fresh frame page) later store w h = h
after_held n (entry.IssueIn slot page) later store w h = h
after_held n (entry.FinishIn slot frame) later store w h = let_go_held n store.holders (store.ends slot) h
after_held n (entry.IssueOut slot frame page) later store w h = housed_held n store.holders page w h
after_held n (entry.FinishOut slot) later store w h = let_go_held n store.holders (store.ends slot) h
after_held n (entry.Do job) later store w h = h

few_from : (n : ℕ) (store : Store) (list : List Directive) → AreWritten n list → AreHeld n store.holders
    → (homed_from store list).count ≤ n
few_from n store [] w h = few_held n store.holders h
few_from n store (one ∷ later) w h =
    let now = few_held n store.holders h in
    let rest = few_from n (store_after one later store) later w.1 (after_held n one later store w.0 h) in
    omega (arith, now, rest)

-- the number of store pages is at most that of pages
pub few_store_pages : (n : ℕ) (list : List Directive) → AreWritten n list → (homed_of list).count ≤ n
few_store_pages n list w = few_from n empty_store list w (record { distinct = tt; below = λ q m. absurd (false≢true m) })
