-- One step of a trace, seen from the sets of two plans: one that evicts what is used latest, and any other.
--
-- The potential: for each count of steps, the pages that are used within that many steps and were had before. While
-- the loads so far and the other's such pages are at most the other's reads and its own such pages, no more was read.
use Rattle.std.proofs.Common.{◌≡◌, ◌≤◌, ◌+◌, ◌&&◌, ◌||◌, ◌⊎◌, ℕ, List, Bool, true, false, not, length, refl, arith, ⊎_elim}
use Rattle.std.proofs.lemmas.Bool.{false≢true, and_parts}
use Rattle.mage_belady.specs.Plan.{is_in, AreDistinct, how_many}
use Rattle.mage_belady.proofs.Counts.{one, how_many-le, how_many-sum, how_many-parts, how_many-more, how_many-all, how_many-none}

-- from what each truth value adds
two_parts : (e i o : Bool) → one (e && not o && i) + one (e && not o && not i) ≤ one (e && not o)
two_parts true true true = omega arith
two_parts true true false = omega arith
two_parts true false true = omega arith
two_parts true false false = omega arith
two_parts false i o = omega arith

kept_or_new : (e p o : Bool) → one (e && p) ≤ one (e && p && o) + one (e && not o && p)
kept_or_new true true true = omega arith
kept_or_new true true false = omega arith
kept_or_new true false true = omega arith
kept_or_new true false false = omega arith
kept_or_new false p o = omega arith

drop_third : (a i w : Bool) → one (a && (not i && w)) ≤ one (a && not i)
drop_third true true w = omega arith
drop_third true false true = omega arith
drop_third true false false = omega arith
drop_third false i w = omega arith

read_or_held : (e r : Bool) → one (e && not r) + one (e && r) ≤ one e
read_or_held true true = omega arith
read_or_held true false = omega arith
read_or_held false r = omega arith

now_or_later : (e i w : Bool) → one (e && i) + one (e && (not i && w)) ≤ one (e && (i || w))
now_or_later true true w = omega arith
now_or_later true false true = omega arith
now_or_later true false false = omega arith
now_or_later false i w = omega arith

now_or_later_of : (i w : Bool) → one (i || w) ≤ one i + one (not i && w)
now_or_later_of true w = omega arith
now_or_later_of false w = omega arith

in_or_out : (i w : Bool) → one (i && w) + one (not i && w) ≤ one w
in_or_out true w = omega arith
in_or_out false w = omega arith

seen_later : (e i w : Bool) → one ((e || i) && w) ≤ one (i && w) + one (e && (not i && w))
seen_later true true w = omega arith
seen_later true false true = omega arith
seen_later true false false = omega arith
seen_later false true w = omega arith
seen_later false false w = omega arith

in_or_not : (i : Bool) → 1 ≤ one i + one (not i)
in_or_not true = omega arith
in_or_not false = omega arith

in_and_not : (i : Bool) → one i + one (not i) ≤ 1
in_and_not true = omega arith
in_and_not false = omega arith

only_out : (e i w : Bool) → one (e && (not i && w)) ≤ one (not i)
only_out true true w = omega arith
only_out true false true = omega arith
only_out true false false = omega arith
only_out false true w = omega arith
only_out false false w = omega arith

never : (i : Bool) → (not i && false) ≡ false
never true = refl
never false = refl

not-true : (i : Bool) → not i ≡ true → i ≡ false
not-true true h = absurd (false≢true h)
not-true false h = refl

both : (a b : Bool) → a ≡ true → b ≡ true → (a && b) ≡ true
both true b ha hb = hb
both false b ha hb = absurd (false≢true ha)

-- S: the pages of the step. R, O: the sets before it. O', R': those after it. E: what a step before had.
-- L, G: what was read before. W: what is used within some count of steps after this one.
module _ (S R O O' : List ℕ) (E : ℕ → Bool) (L G : ℕ) (dS : AreDistinct S) (dR : AreDistinct R) (dO' : AreDistinct O')
    (known : (x : ℕ) → is_in x R ≡ true → E x ≡ true)
    (has : (x : ℕ) → is_in x S ≡ true → is_in x O' ≡ true) where
  -- what the other plan keeps or reads
  moved : (p : ℕ → Bool) → how_many (λ x. E x && p x) O' ≤ how_many (λ x. E x && p x) O + how_many (λ x. E x && not (is_in x O) && p x) O'
  moved p =
      let parts = how_many-sum (λ x. E x && p x) (λ x. E x && p x && is_in x O) (λ x. E x && not (is_in x O) && p x) O' (λ x. kept_or_new (E x) (p x) (is_in x O)) in
      let kept = how_many-le (λ x. E x && p x && is_in x O) (λ x. E x && p x) O' O dO' (λ x m h. let w = and_parts (E x && p x) (is_in x O) h in (w.1, w.0)) in
      omega (arith, parts, kept)

  -- before victims are chosen, the step keeps the potential
  pub step_before : (W : ℕ → Bool)
      → L + how_many (λ x. E x && (is_in x S || W x)) O ≤ G + how_many (λ x. is_in x S || W x) R
      → L + how_many (λ x. E x && not (is_in x R)) S + how_many (λ x. E x && (not (is_in x S) && W x)) O'
      ≤ G + how_many (λ x. E x && not (is_in x O)) O' + how_many (λ x. not (is_in x S) && W x) R
  step_before W inv =
      let f1 = how_many-le (λ x. is_in x S) (λ x. E x && is_in x R) R S dR (λ x m h. (h, both (E x) (is_in x R) (known x m) m)) in
      let f2 = how_many-parts E (λ x. E x && not (is_in x R)) (λ x. E x && is_in x R) S (λ x. read_or_held (E x) (is_in x R)) in
      let f3 = how_many-le E (λ x. E x && is_in x S) S O' dS (λ x m h. (has x m, both (E x) (is_in x S) h m)) in
      let f4 = moved (λ x. is_in x S) in
      let f5 = moved (λ x. not (is_in x S) && W x) in
      let f6 = how_many-more (λ x. E x && not (is_in x O) && (not (is_in x S) && W x)) (λ x. E x && not (is_in x O) && not (is_in x S)) O' (λ x. drop_third (E x && not (is_in x O)) (is_in x S) (W x)) in
      let f7 = how_many-parts (λ x. E x && not (is_in x O)) (λ x. E x && not (is_in x O) && is_in x S) (λ x. E x && not (is_in x O) && not (is_in x S)) O' (λ x. two_parts (E x) (is_in x S) (is_in x O)) in
      let f8 = how_many-parts (λ x. E x && (is_in x S || W x)) (λ x. E x && is_in x S) (λ x. E x && (not (is_in x S) && W x)) O (λ x. now_or_later (E x) (is_in x S) (W x)) in
      let f9 = how_many-sum (λ x. is_in x S || W x) (λ x. is_in x S) (λ x. not (is_in x S) && W x) R (λ x. now_or_later_of (is_in x S) (W x)) in
      omega (arith, inv, f1, f2, f3, f4, f5, f6, f7, f8, f9)

  -- what the rule leaves in memory, R': at each W it has kept what is used within it, or nothing else fills its frames
  module _ (R' : List ℕ) (frames loads : ℕ) (dR' : AreDistinct R') (mine : (x : ℕ) → is_in x S ≡ true → is_in x R' ≡ true)
      (fits : length O' ≤ frames) (few : loads ≤ how_many (λ x. E x && not (is_in x R)) S) where
    pub step_after : (W : ℕ → Bool)
        → (how_many (λ x. not (is_in x S) && W x) R ≤ how_many (λ x. not (is_in x S) && W x) R') ⊎ ((frames ≤ length R') × ((x : ℕ) → is_in x R' ≡ true → is_in x S ≡ false → W x ≡ true))
        → L + how_many (λ x. E x && (is_in x S || false)) O ≤ G + how_many (λ x. is_in x S || false) R
        → L + how_many (λ x. E x && (is_in x S || W x)) O ≤ G + how_many (λ x. is_in x S || W x) R
        → L + loads + how_many (λ x. (E x || is_in x S) && W x) O' ≤ G + how_many (λ x. E x && not (is_in x O)) O' + how_many W R'
    step_after W fair none inv = ⊎_elim kept full fair where
      start : how_many (λ x. (E x || is_in x S) && W x) O' ≤ how_many (λ x. is_in x S && W x) O' + how_many (λ x. E x && (not (is_in x S) && W x)) O'
      start = how_many-sum _ _ _ O' (λ x. seen_later (E x) (is_in x S) (W x))

      step : how_many (λ x. is_in x S && W x) O' ≤ how_many (λ x. is_in x S && W x) R'
      step = how_many-le _ _ O' R' dO' (λ x m h. (mine x (and_parts (is_in x S) (W x) h).0, h))

      end : how_many (λ x. is_in x S && W x) R' + how_many (λ x. not (is_in x S) && W x) R' ≤ how_many W R'
      end = how_many-parts _ _ _ R' (λ x. in_or_out (is_in x S) (W x))

      kept : how_many (λ x. not (is_in x S) && W x) R ≤ how_many (λ x. not (is_in x S) && W x) R' → L + loads + how_many (λ x. (E x || is_in x S) && W x) O' ≤ G + how_many (λ x. E x && not (is_in x O)) O' + how_many W R'
      kept h = let before = step_before W inv in omega (arith, start, step, end, before, h, few)

      full : (frames ≤ length R') × ((x : ℕ) → is_in x R' ≡ true → is_in x S ≡ false → W x ≡ true) → L + loads + how_many (λ x. (E x || is_in x S) && W x) O' ≤ G + how_many (λ x. E x && not (is_in x O)) O' + how_many W R'
      full h =
          let a = how_many-sum (λ _. true) (λ x. is_in x S) (λ x. not (is_in x S)) R' (λ x. in_or_not (is_in x S)) in
          let a' = how_many-all R' in
          let b = how_many-le (λ x. not (is_in x S)) (λ x. not (is_in x S) && W x) R' R' dR' (λ x m n. (m, both (not (is_in x S)) (W x) n (h.1 x m (not-true (is_in x S) n)))) in
          let c = how_many-le (λ x. is_in x S) (λ x. is_in x S) R' O' dR' (λ x m i. (has x i, i)) in
          let d = how_many-parts (λ _. true) (λ x. is_in x S) (λ x. not (is_in x S)) O' (λ x. in_and_not (is_in x S)) in
          let d' = how_many-all O' in
          let e = how_many-more (λ x. E x && (not (is_in x S) && W x)) (λ x. not (is_in x S)) O' (λ x. only_out (E x) (is_in x S) (W x)) in
          let g = step_before (λ _. false) none in
          let g' = how_many-none (λ x. not (is_in x S) && false) R (λ x. never (is_in x S)) in
          omega (arith, start, step, end, few, a, a', b, c, d, d', e, g, g', h.0, fits)
