-- Where pages are in memory once one came in.
use Rattle.std.proofs.Common.{◌≡◌, ◌≢◌, ◌<◌, ◌+◌, ◌||◌, ℕ, zero, suc, List, [], ◌∷◌, ◌++◌, Bool, true, false, cond, length, get_or, set, nat_eq, Some, None, refl, sym, ◌∙◌, ap, arith}
use Rattle.std.proofs.lemmas.Bool.{false≢true, eq-eqb, ne_eqb}
use Rattle.mage_belady.specs.Plan.{is_in, AreDistinct}
use Rattle.mage_belady.specs.Rule.{Held, resident, frame_of, written}
use Rattle.mage_instr.specs.declared.instr.Step.{Step}
use Rattle.mage_belady.specs.Kept.{AreBeside, IsBeside, frame_if, dirty_of}
use Rattle.mage_belady.proofs.Sets.{not-in-tail, not-in-head, not-in-cons, frame_of-within, frame_of-has}
use Rattle.mage_belady.proofs.StepPages.{is_in-at}

frame_of-push : (q p : ℕ) (xs : List ℕ) → is_in q xs ≡ true
    → frame_of q (xs ++ p ∷ []) ≡ frame_of q xs
frame_of-push q p [] h = absurd (false≢true h)
frame_of-push q p (x ∷ xs) h = go (nat_eq q x) h (frame_of-push q p xs) where
  go : (b : Bool) → (b || is_in q xs) ≡ true
      → (is_in q xs ≡ true → frame_of q (xs ++ p ∷ []) ≡ frame_of q xs)
      → cond b 0 (frame_of q (xs ++ p ∷ []) + 1) ≡ cond b 0 (frame_of q xs + 1)
  go true m rest = refl
  go false m rest = ap (λ n. n + 1) (rest m)

pub frame_of-push_new : (p : ℕ) (xs : List ℕ) → is_in p xs ≡ false
    → frame_of p (xs ++ p ∷ []) ≡ length xs
frame_of-push_new p [] h = rw (eq-eqb p p refl) refl
frame_of-push_new p (x ∷ xs) h =
    let rest = frame_of-push_new p xs (not-in-tail p x xs h) in
    rw (ne_eqb p x (not-in-head p x xs h)) (omega (arith, rest))

is_in-push_other : (q p : ℕ) (xs : List ℕ) → q ≢ p → is_in q (xs ++ p ∷ []) ≡ is_in q xs
is_in-push_other q p [] n = rw (ne_eqb q p n) refl
is_in-push_other q p (x ∷ xs) n = ap (λ b. nat_eq q x || b) (is_in-push_other q p xs n)

-- a page is where it was, once another came into a free frame
pub frame_if-push : (q p : ℕ) (xs : List ℕ) → q ≢ p → frame_if q (xs ++ p ∷ []) ≡ frame_if q xs
frame_if-push q p xs n =
    ap (λ b. cond b (Some (frame_of q (xs ++ p ∷ []))) None) (is_in-push_other q p xs n)
    ∙ go (is_in q xs) refl where
      go : (b : Bool) → is_in q xs ≡ b
          → cond b (Some (frame_of q (xs ++ p ∷ []))) None ≡ cond b (Some (frame_of q xs)) None
      go true e = ap Some (frame_of-push q p xs e)
      go false e = refl

is_in-set_apart : (q p f : ℕ) (xs : List ℕ) → q ≢ p → f < length xs → q ≢ get_or xs f 0
    → is_in q (set xs f p) ≡ is_in q xs
is_in-set_apart q p f [] n h m = refl
is_in-set_apart q p zero (x ∷ xs) n h m = rw (ne_eqb q p n, ne_eqb q x m) refl
is_in-set_apart q p (suc f) (x ∷ xs) n h m =
    ap (λ b. nat_eq q x || b) (is_in-set_apart q p f xs n (omega arith) m)

frame_of-set_apart : (q p f : ℕ) (xs : List ℕ) → q ≢ p → f < length xs → q ≢ get_or xs f 0
    → frame_of q (set xs f p) ≡ frame_of q xs
frame_of-set_apart q p f [] n h m = refl
frame_of-set_apart q p zero (x ∷ xs) n h m = rw (ne_eqb q p n, ne_eqb q x m) refl
frame_of-set_apart q p (suc f) (x ∷ xs) n h m =
    ap (λ k. cond (nat_eq q x) 0 (k + 1)) (frame_of-set_apart q p f xs n (omega arith) m)

-- a page is where it was, once another came into a third one's frame
pub frame_if-set : (q p v : ℕ) (xs : List ℕ) → is_in v xs ≡ true → q ≢ p → q ≢ v
    → frame_if q (set xs (frame_of v xs) p) ≡ frame_if q xs
frame_if-set q p v xs here n m =
    let within = frame_of-within v xs here in
    let other : q ≢ get_or xs (frame_of v xs) 0 = λ e. m (e ∙ frame_of-has v xs here) in
    rw (
      is_in-set_apart q p (frame_of v xs) xs n within other,
      frame_of-set_apart q p
          (frame_of v xs) xs n within other,
    ) refl

frame_of-set_at : (p f : ℕ) (xs : List ℕ) → is_in p xs ≡ false → f < length xs
    → frame_of p (set xs f p) ≡ f
frame_of-set_at p f [] n h = absurd (omega arith)
frame_of-set_at p zero (x ∷ xs) n h = rw (eq-eqb p p refl) refl
frame_of-set_at p (suc f) (x ∷ xs) n h =
    let rest = frame_of-set_at p f xs (not-in-tail p x xs n) (omega arith) in
    rw (ne_eqb p x (not-in-head p x xs n)) (omega (arith, rest))

-- a page that comes into a frame is there
pub frame_of-set_new : (p v : ℕ) (xs : List ℕ) → is_in p xs ≡ false → is_in v xs ≡ true
    → frame_of p (set xs (frame_of v xs) p) ≡ frame_of v xs
frame_of-set_new p v xs n here = frame_of-set_at p (frame_of v xs) xs n (frame_of-within v xs here)

not-in-set_out : (p f : ℕ) (xs : List ℕ) → AreDistinct xs → f < length xs → get_or xs f 0 ≢ p
    → is_in (get_or xs f 0) (set xs f p) ≡ false
not-in-set_out p f [] d h n = absurd (omega arith)
not-in-set_out p zero (x ∷ xs) d h n = not-in-cons x p xs n d.0
not-in-set_out p (suc f) (x ∷ xs) d h n =
    not-in-cons (get_or xs f 0) x (set xs f p)
    (λ e. false≢true (sym d.0 ∙ ap (λ y. is_in y xs) (sym e) ∙ is_in-at xs f (omega arith)))
    (not-in-set_out p f xs d.1 (omega arith) n)

-- a page whose frame another took is no longer in memory
pub frame_if-set_victim : (p v : ℕ) (xs : List ℕ) → AreDistinct xs → is_in v xs ≡ true → v ≢ p
    → frame_if v (set xs (frame_of v xs) p) ≡ None
frame_if-set_victim p v xs d here n =
    let within = frame_of-within v xs here in
    let has = frame_of-has v xs here in
    let gone = not-in-set_out p (frame_of v xs) xs d within (λ e. n (sym has ∙ e)) in
    let out : is_in v (set xs (frame_of v xs) p)
    ≡ false = ap (λ w. is_in w (set xs (frame_of v xs) p)) (sym has) ∙ gone in
    rw out refl

-- which frames are dirty
pub dirty-push : (held : List Held) (h : Held)
    → dirty_of (held ++ h ∷ []) ≡ dirty_of held ++ h.dirty ∷ []
dirty-push [] h = refl
dirty-push (x ∷ held) h = ap (λ ds. x.dirty ∷ ds) (dirty-push held h)

pub dirty-set : (held : List Held) (f : ℕ) (h : Held)
    → dirty_of (set held f h) ≡ set (dirty_of held) f h.dirty
dirty-set [] f h = refl
dirty-set (x ∷ held) zero h = refl
dirty-set (x ∷ held) (suc f) h = ap (λ ds. x.dirty ∷ ds) (dirty-set held f h)

pub dirty-at : (held : List Held) (f : ℕ)
    → get_or (dirty_of held) f false ≡ (get_or held f (record { page = 0; dirty = false })).dirty
dirty-at [] f = refl
dirty-at (x ∷ held) zero = refl
dirty-at (x ∷ held) (suc f) = dirty-at held f

pub length-dirty : (held : List Held) → length (dirty_of held) ≡ length held
length-dirty [] = refl
length-dirty (x ∷ held) = ap suc (length-dirty held)

-- a result is put in a page, whose frame stands beside it
pub dirty-written : (step : Step) (at : List ℕ) (page frame : ℕ) (held : List Held)
    (dirty : List Bool) → IsBeside step at page frame
    → AreBeside step at (λ p. frame_of p (resident held))
    → dirty ≡ dirty_of held → set dirty frame true ≡ dirty_of (written page held)
dirty-written step at page frame held dirty is beside same =
    let stands : frame ≡ frame_of page (resident held) = sym is.3 ∙ beside is.0 is.1
    ∙ ap (λ p. frame_of p (resident held)) is.2 in
    rw (same, stands)
    (sym (dirty-set held (frame_of page (resident held))
    (record { page = page; dirty = true })))
