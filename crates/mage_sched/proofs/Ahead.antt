-- Which reads are issued ahead in a gap, by how far the reads before it went.
use Rattle.std.proofs.Common.{◌≡◌, ◌≤◌, ◌<◌, ◌+◌, ◌&&◌, ℕ, zero, suc, List, [], ◌∷◌, Bool, true, false, length, get_or, drop, map, nat_eq, nat_lt, refl, ◌∙◌, ap, arith, below_more}
use Rattle.std.specs.List.{filter}
use Rattle.std.proofs.lemmas.Bool.{ne_eqb, le-ltb}
use Rattle.std.proofs.lemmas.Bool.Decides.{nat_tests}
use Rattle.std.proofs.lemmas.List.{at_drop_more, at_drop_all}
use Rattle.mage_sched.specs.declared.read.Timed.{Timed}
use Rattle.mage_sched.specs.Schedule.{no_timed, is_ahead_at, issued, issued_ahead}
use Rattle.mage_sched.specs.Slots.{Move}
use Rattle.mage_sched.specs.Views.{AreOrdered, AreBefore, issue_at}

-- the reads from number k on that are issued ahead in a gap
abbrev pub ahead_from : List Timed → (gap k : ℕ) → List Move
ahead_from reads gap k = map issued (filter (is_ahead_at gap) (drop k reads))

filter-dropped : {X : Type 0} (test : X → Bool) (xs : List X) (d : X) (n : ℕ) → ((k : ℕ) → k < n → k < length xs → test (get_or xs k d) ≡ false) → filter test (drop n xs) ≡ filter test xs
filter-dropped test xs d zero none = refl
filter-dropped test [] d (suc n) none = refl
filter-dropped test (x ∷ xs) d (suc n) none = rw (none 0 (omega arith) (omega arith)) (filter-dropped test xs d n (λ k below within. none (suc k) (omega arith) (omega arith)))

filter-none : {X : Type 0} (test : X → Bool) (xs : List X) (d : X) (n : ℕ) → ((k : ℕ) → n ≤ k → k < length xs → test (get_or xs k d) ≡ false) → filter test (drop n xs) ≡ []
filter-none test [] d zero none = refl
filter-none test [] d (suc n) none = refl
filter-none test (x ∷ xs) d zero none = rw (none 0 (omega arith) (omega arith)) (filter-none test xs d 0 (λ k below within. none (suc k) (omega arith) (omega arith)))
filter-none test (x ∷ xs) d (suc n) none = filter-none test xs d n (λ k below within. none (suc k) (omega arith) (omega arith))

before_is_not_ahead : (gap : ℕ) (read : Timed) → read.issue < gap → is_ahead_at gap read ≡ false
before_is_not_ahead gap read h = let e : nat_eq read.issue gap ≡ false = ne_eqb _ _ (λ same. omega (arith, same, h)) in rw e refl

behind_is_not_ahead : (gap : ℕ) (read : Timed) → gap < read.issue → is_ahead_at gap read ≡ false
behind_is_not_ahead gap read h = let e : nat_eq read.issue gap ≡ false = ne_eqb _ _ (λ same. omega (arith, same, h)) in rw e refl

pub ahead_from-first : (reads : List Timed) (gap next : ℕ) → AreBefore reads next gap → ahead_from reads gap next ≡ issued_ahead reads gap
ahead_from-first reads gap next before = ap (map issued) (filter-dropped (is_ahead_at gap) reads no_timed next (λ k below within. before_is_not_ahead gap (get_or reads k no_timed) (before k below)))

pub ahead_from-stop : (reads : List Timed) (gap k : ℕ) → AreOrdered reads → k < length reads → gap < issue_at reads k → ahead_from reads gap k ≡ []
ahead_from-stop reads gap k ordered within behind = ap (map issued) (filter-none (is_ahead_at gap) reads no_timed k (λ j from inside. behind_is_not_ahead gap (get_or reads j no_timed) (omega (arith, behind, ordered.order k j from inside))))

pub ahead_from-end : (reads : List Timed) (gap k : ℕ) → length reads ≤ k → ahead_from reads gap k ≡ []
ahead_from-end reads gap k past = at_drop_all (λ xs. map issued (filter (is_ahead_at gap) xs)) reads k past

pub ahead_from-taken : (reads : List Timed) (gap k : ℕ) → k < length reads → issue_at reads k ≡ gap → gap < (get_or reads k no_timed).due → ahead_from reads gap k ≡ issued (get_or reads k no_timed) ∷ ahead_from reads gap (k + 1)
ahead_from-taken reads gap k within same later =
    let e : is_ahead_at gap (get_or reads k no_timed) ≡ true = grind (arith, nat_tests) in
    at_drop_more (λ xs. map issued (filter (is_ahead_at gap) xs)) reads k no_timed within ∙ rw e refl

pub ahead_from-left : (reads : List Timed) (gap k : ℕ) → k < length reads → (get_or reads k no_timed).due ≤ gap → ahead_from reads gap k ≡ ahead_from reads gap (k + 1)
ahead_from-left reads gap k within due =
    let e : nat_lt gap (get_or reads k no_timed).due ≡ false = le-ltb _ _ due in
    let f : is_ahead_at gap (get_or reads k no_timed) ≡ false = rw e (and-false (nat_eq (issue_at reads k) gap)) in
    at_drop_more (λ xs. map issued (filter (is_ahead_at gap) xs)) reads k no_timed within ∙ rw f refl
  where
    and-false : (b : Bool) → (b && false) ≡ false
    and-false true = refl
    and-false false = refl

pub before_more : (reads : List Timed) (k gap : ℕ) → AreBefore reads k (gap + 1) → issue_at reads k ≤ gap → AreBefore reads (k + 1) (gap + 1)
before_more reads k gap before here = below_more (λ j. issue_at reads j < gap + 1) k before (omega (arith, here))
