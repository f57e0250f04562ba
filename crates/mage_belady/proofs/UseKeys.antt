-- The keys of the map from which victims are taken.
use Rattle.std.proofs.Common.{◌≡◌, ◌<◌, ◌≤◌, ◌-◌, ◌&&◌, ◌⊎◌, ℕ, [], Bool, true, false, cond, nat_eq, nat_le, Option, Some, None, IsSome, inl, inr, refl, ◌∙◌, ap, arith, ⊎_elim}
use Rattle.std.specs.declared.cmp.Ordering.{Ordering}
use Rattle.std.specs.Ordering.{nat_cmp, is_eq, is_lt, ordering_then}
use Rattle.std.specs.BTreeMap.{get, IsUpperBound, Updates}
use Rattle.std.proofs.lemmas.Bool.{false≢true, ne_eqb}
use Rattle.std.proofs.lemmas.Bool.Decides.{nat_tests}
use Rattle.mage_instr.specs.declared.instr.TheConstants.{NEVER}
use Rattle.mage_belady.specs.declared.use_map.UseMap.{UseMap}
use Rattle.mage_belady.specs.Uses.{key_cmp, frame_at, IsLast}

both_equal : (a b : ℕ) (o : Ordering)
    → is_eq (ordering_then (nat_cmp a b) o) ≡ (nat_eq b a && is_eq o)
both_equal a b o = grind (arith, nat_tests)

flipped_alike : (p q : ℕ) → p ≤ NEVER → q ≤ NEVER
    → is_eq (nat_cmp (NEVER - p) (NEVER - q)) ≡ nat_eq q p
flipped_alike p q hp hq = grind (arith, nat_tests)

-- two keys are equal where their next uses and their pages are
key_at : (n m p q : ℕ) → p ≤ NEVER → q ≤ NEVER
    → is_eq (key_cmp (n, NEVER - p) (m, NEVER - q)) ≡ (nat_eq m n && nat_eq q p)
key_at n m p q hp hq = both_equal n m (nat_cmp (NEVER - p) (NEVER - q))
    ∙ ap (λ b. nat_eq m n && b) (flipped_alike p q hp hq)

le-true : (a b : ℕ) → nat_le a b ≡ true → a ≤ b
le-true a b h = grind (arith, nat_tests)

le-false : (a b : ℕ) → nat_le a b ≡ false → b < a
le-false a b h = grind (arith, nat_tests)

true-le : (a b : ℕ) → a ≤ b → nat_le a b ≡ true
true-le a b h = grind (arith, nat_tests)

and-false : (b : Bool) → (b && false) ≡ false
and-false true = refl
and-false false = refl

-- the map at each page, where it changed at one key
pub frame_at-updates : (old new : UseMap) (next page : ℕ) (w : Option ℕ) → page ≤ NEVER
    → Updates key_cmp old.frames new.frames (next, NEVER - page) w
    → (n q : ℕ) → frame_at new n q ≡ cond (nat_eq n next && nat_eq q page) w (frame_at old n q)
frame_at-updates old new next page w small updates n q = go (nat_le q NEVER) refl where
  go : (b : Bool) → nat_le q NEVER ≡ b
      → cond b (get key_cmp new.frames (n, NEVER - q)) None
      ≡ cond (nat_eq n next && nat_eq q page) w
      (cond b (get key_cmp old.frames (n, NEVER - q)) None)
  go true e = updates.0 (n, NEVER - q)
      ∙ ap (λ b. cond b w (get key_cmp old.frames (n, NEVER - q)))
      (key_at next n page q small (le-true q NEVER e))
  go false e =
      let large = le-false q NEVER e in
      let other : (nat_eq n next && nat_eq q page)
      ≡ false = rw (ne_eqb q page (λ s. absurd (omega (arith, large, small, s))))
      (and-false (nat_eq n next)) in
      rw other refl

-- the map at a page that a number of 32 bits can be
pub frame_at-get : (map : UseMap) (n page : ℕ) → page ≤ NEVER
    → frame_at map n page ≡ get key_cmp map.frames (n, NEVER - page)
frame_at-get map n page small = rw (true-le page NEVER small) refl

pub frame_at-none : (map : UseMap) (n page : ℕ) → map.frames.entries ≡ []
    → frame_at map n page ≡ None
frame_at-none map n page none = rw none (go (nat_le page NEVER)) where
  go : (b : Bool) → cond {A = Option ℕ} b None None ≡ None
  go true = refl
  go false = refl

not_less : (a b c d : ℕ) → is_lt (key_cmp (a, b) (c, d)) ≡ false → (c < a) ⊎ ((c ≡ a) × (d ≤ b))
not_less a b c d h = grind (arith, nat_tests)

pub unflipped : (flipped : ℕ) → flipped ≤ NEVER → NEVER - (NEVER - flipped) ≡ flipped
unflipped flipped h = omega (arith, h)

some_in : (b : Bool) (o : Option ℕ) → IsSome (cond b o None) → (b ≡ true) × IsSome o
some_in true o h = (refl, h)
some_in false o h = absurd (false≢true h)

-- the greatest key is that of the page which leaves first
pub IsLast-greatest : (map : UseMap) (next flipped frame : ℕ) → flipped ≤ NEVER
    → get key_cmp map.frames (next, flipped) ≡ Some frame
    → IsUpperBound key_cmp map.frames (next, flipped)
    → IsLast map (record { next = next; page = NEVER - flipped; frame = frame })
IsLast-greatest map next flipped frame small here greatest = record {
  listed = rw (true-le (NEVER - flipped) NEVER (omega arith), unflipped flipped small) here;
  first = λ n page some.
      let both = some_in (nat_le page NEVER) (get key_cmp map.frames (n, NEVER - page)) some in
      let le = le-true page NEVER both.0 in
      ⊎_elim (λ l. inl l) (λ e. inr (e.0, omega (arith, e.1, le, small)))
      (not_less next flipped n (NEVER - page) (greatest (n, NEVER - page) both.1));
}
