-- The pages in memory while those of a step come in.
use Rattle.std.proofs.Common.{◌≡◌, ◌≢◌, ◌<◌, ◌≤◌, ◌+◌, ◌&&◌, ◌⊎◌, ℕ, List, [], ◌∷◌, ◌++◌, Bool, true, false, not, length, get_or, set, inl, inr, refl, sym, ◌∙◌, ap, arith, ⊎_elim, length-append, length-set}
use Rattle.std.specs.List.{filter}
use Rattle.std.proofs.lemmas.Bool.{false≢true}
use Rattle.mage_belady.specs.Plan.{is_in, AreDistinct, how_many}
use Rattle.mage_belady.specs.Rule.{victim_of}
use Rattle.mage_belady.proofs.Counts.{one, how_many-le, how_many-all, how_many-without, is_in-without, without}
use Rattle.mage_belady.proofs.Sets.{how_many-set, is_in-set, is_in-set_other, AreDistinct-set, how_many-push, is_in-push, is_in-push_old, AreDistinct-push, is_in-filter, filter-is_in, victim_of-in, victim_of-latest}

-- what is used outside the step
abbrev pub out : List ℕ → (ℕ → Bool) → ℕ → Bool
out S w = λ x. not (is_in x S) && w x

-- a test that passes a page passes each that is used no later
abbrev pub IsEarly : (ℕ → ℕ) → (ℕ → Bool) → Type 0
IsEarly next w = (p q : ℕ) → next q ≤ next p → w p ≡ true → w q ≡ true

-- R: the pages in memory before the step. S: those of the step. E: what a step before had. now: what is in memory.
pub record Going (frames : ℕ) (S R : List ℕ) (E : ℕ → Bool) (next : ℕ → ℕ) (now : List ℕ) (loads : ℕ) : Type 0 where
  pub distinct : AreDistinct now
  pub fits : length now ≤ frames
  pub from : (q : ℕ) → is_in q now ≡ true → (is_in q R ≡ true) ⊎ (is_in q S ≡ true)
  pub kept : (q : ℕ) → is_in q R ≡ true → is_in q S ≡ true → is_in q now ≡ true
  pub fair : (w : ℕ → Bool) → IsEarly next w → (how_many (out S w) R ≤ how_many (out S w) now) ⊎ ((frames ≤ length now) × ((x : ℕ) → is_in x now ≡ true → is_in x S ≡ false → w x ≡ true))
  pub reads : how_many (λ x. E x && not (is_in x R)) now ≤ loads

one_first : (a b : Bool) → one (a && b) ≤ one a
one_first true true = omega arith
one_first true false = omega arith
one_first false b = omega arith

out_none : (i w : Bool) → w ≡ false → (not i && w) ≡ false
out_none true w h = refl
out_none false w h = h

module _ (frames : ℕ) (S R : List ℕ) (E : ℕ → Bool) (next : ℕ → ℕ) where
  pub starts : AreDistinct R → length R ≤ frames → Going frames S R E next R 0
  starts d f = record {
    distinct = d;
    fits = f;
    from = λ q m. inl m;
    kept = λ q m s. m;
    fair = λ w early. inl (omega arith);
    reads = none (λ x m. m);
  } where
    not_both : (a b : Bool) → (a && not b) ≡ true → b ≡ true → ⊥
    not_both true true h e = false≢true h
    not_both true false h e = false≢true e
    not_both false b h e = false≢true h

    none : ((x : ℕ) → is_in x R ≡ true → is_in x R ≡ true) → how_many (λ x. E x && not (is_in x R)) R ≤ 0
    none same = how_many-le (λ x. E x && not (is_in x R)) (λ _. false) R [] d (λ x m h. absurd (not_both (E x) (is_in x R) h m))

  module _ (now : List ℕ) (loads p : ℕ) (g : Going frames S R E next now loads) (needed : is_in p S ≡ true) (missing : is_in p now ≡ false) where
    -- a free frame takes the page
    pub goes_free : length now < frames → Going frames S R E next (now ++ p ∷ []) (loads + one (E p))
    goes_free room = record {
      distinct = AreDistinct-push now p g.distinct missing;
      fits = let l = length-append now (p ∷ []) in omega (arith, l, room);
      from = λ q m. ⊎_elim (λ e. inr (rw e needed)) (g.from q) (is_in-push q now p m);
      kept = λ q m s. is_in-push_old q now p (g.kept q m s);
      fair = λ w early. ⊎_elim (λ h. let c = how_many-push (out S w) now p in inl (omega (arith, h, c))) (λ h. absurd (omega (arith, room, h.0))) (g.fair w early);
      reads = let c = how_many-push (λ x. E x && not (is_in x R)) now p in let o = one_first (E p) (not (is_in p R)) in let r = g.reads in omega (arith, c, o, r);
    }

    -- the frame of a page outside the step, which is used no earlier than any other, takes the page
    module _ (f : ℕ) (full : frames ≤ length now) (within : f < length now) (outside : is_in (get_or now f 0) S ≡ false)
        (latest : (x : ℕ) → is_in x now ≡ true → is_in x S ≡ false → next x ≤ next (get_or now f 0)) where
      v : ℕ
      v = get_or now f 0

      old : (x : ℕ) → is_in x (set now f p) ≡ true → is_in x S ≡ false → is_in x now ≡ true
      old x m n = ⊎_elim (λ e. absurd (false≢true (sym n ∙ rw e needed))) (λ k. k) (is_in-set x now f p m)

      pub goes_full_fair : (w : ℕ → Bool) → IsEarly next w → (how_many (out S w) R ≤ how_many (out S w) (set now f p)) ⊎ ((frames ≤ length (set now f p)) × ((x : ℕ) → is_in x (set now f p) ≡ true → is_in x S ≡ false → w x ≡ true))
      unfolding old
      goes_full_fair w early = go (w (get_or now f 0)) refl where
        long : frames ≤ length (set now f p)
        long = let l = length-set now f p in omega (arith, l, full)

        go : (b : Bool) → w (get_or now f 0) ≡ b → (how_many (out S w) R ≤ how_many (out S w) (set now f p)) ⊎ ((frames ≤ length (set now f p)) × ((x : ℕ) → is_in x (set now f p) ≡ true → is_in x S ≡ false → w x ≡ true))
        go true e = inr (long, λ x m n. early (get_or now f 0) x (latest x (old x m n) n) e)
        go false e =
            let c = how_many-set (out S w) now f p within in
            let z : one (out S w (get_or now f 0)) ≡ 0 = ap one (out_none (is_in (get_or now f 0) S) (w (get_or now f 0)) e) in
            ⊎_elim (λ h. inl (omega (arith, h, c, z))) (λ h. inr (long, λ x m n. h.1 x (old x m n) n)) (g.fair w early)

      pub goes_full : Going frames S R E next (set now f p) (loads + one (E p))
      goes_full = record {
        distinct = AreDistinct-set now f p g.distinct missing;
        fits = let l = length-set now f p in let r = g.fits in omega (arith, l, r);
        from = λ q m. ⊎_elim (λ e. inr (rw e needed)) (g.from q) (is_in-set q now f p m);
        kept = λ q m s. is_in-set_other q now f p (g.kept q m s) (λ e. false≢true (sym outside ∙ ap (λ x. is_in x S) (sym e) ∙ s));
        fair = goes_full_fair;
        reads = let c = how_many-set (λ x. E x && not (is_in x R)) now f p within in let o = one_first (E p) (not (is_in p R)) in let r = g.reads in omega (arith, c, o, r);
      }

-- where the frames are full, and a page of the step is missing, there is a page outside the step
pub some_outside : (frames : ℕ) (S now : List ℕ) (p : ℕ) → AreDistinct now → is_in p S ≡ true → is_in p now ≡ false → length S ≤ frames → frames ≤ length now
    → filter (λ q. not (is_in q S)) now ≢ []
some_outside frames S now p d needed missing few full none =
    let a = how_many-all now in
    let b = how_many-all S in
    let c = how_many-without (λ _. true) p S needed refl in
    let l = how_many-le (λ _. true) (λ _. true) now (without p S) d (λ x m t. (is_in-without x p S (inside x m) (λ e. false≢true (sym missing ∙ ap (λ y. is_in y now) (sym e) ∙ m)), refl)) in
    omega (arith, a, b, c, l, few, full)
  where
    inside : (x : ℕ) → is_in x now ≡ true → is_in x S ≡ true
    inside x m = go (is_in x S) refl where
      go : (b : Bool) → is_in x S ≡ b → is_in x S ≡ true
      go true e = e
      go false e = absurd (false≢true (ap (is_in x) (sym none) ∙ filter-is_in (λ q. not (is_in q S)) x now m (ap not e)))

-- the victim of the rule
pub record Leaves (S now : List ℕ) (next : ℕ → ℕ) (v : ℕ) : Type 0 where
  pub here : is_in v now ≡ true
  pub outside : is_in v S ≡ false
  pub latest : (x : ℕ) → is_in x now ≡ true → is_in x S ≡ false → next x ≤ next v

not-true : (i : Bool) → not i ≡ true → i ≡ false
not-true true h = absurd (false≢true h)
not-true false h = refl

pub Leaves-victim_of : (S now : List ℕ) (next : ℕ → ℕ) → filter (λ q. not (is_in q S)) now ≢ [] → Leaves S now next (victim_of next (filter (λ q. not (is_in q S)) now))
Leaves-victim_of S now next some = go (filter (λ q. not (is_in q S)) now) refl where
  test : ℕ → Bool
  test = λ q. not (is_in q S)

  go : (xs : List ℕ) → filter (λ q. not (is_in q S)) now ≡ xs → Leaves S now next (victim_of next xs)
  go [] e = absurd (some e)
  go (y ∷ ys) e =
      let v = victim_of next (y ∷ ys) in
      let m : is_in v (filter (λ q. not (is_in q S)) now) ≡ true = ap (is_in v) e ∙ victim_of-in next y ys in
      let both = is_in-filter (λ q. not (is_in q S)) v now m in
      record {
        here = both.0;
        outside = not-true (is_in v S) both.1;
        latest = λ x k n. victim_of-latest next x y ys (ap (is_in x) (sym e) ∙ filter-is_in (λ q. not (is_in q S)) x now k (ap not n));
      }
