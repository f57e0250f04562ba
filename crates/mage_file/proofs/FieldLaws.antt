-- A field is spelled by its bytes.
use Rattle.std.proofs.Common.{◌≡◌, ℕ, ◌^◌, ◌<◌, ◌≤◌, Bool, true, false, ◌&&◌, cond, ltb, leb, List, [], ◌∷◌, ◌++◌, length, take, drop, Result, Ok, Err, refl, sym, ap, subst, ◌∙◌, arith, ◌%◌}
use Rattle.std.specs.Prelude.{nat_eq}
use Rattle.std.specs.Int.{Width, w8, w16, w32, w64, byte_len, from_be_bytes, to_be_bytes}
use Rattle.std.specs.List.{starts_with}
use Rattle.std.specs.Cmp.Lexicographic.{bytes_decides, pointwise}
use Rattle.std.proofs.lemmas.Bool.{ltb-false, le-ltb, leb-true, le-leb}
use Rattle.std.proofs.lemmas.List.{take_at, drop_at, take-append-drop, length-append, length-take}
use Rattle.std.proofs.lemmas.Nat.{be_bytes_2, be_bytes_4, be_bytes_8, from_be_bytes-to_be_bytes_2, from_be_bytes-to_be_bytes_4, from_be_bytes-to_be_bytes_8}
use Rattle.mage_file.specs.declared.fault.FileFault.{FileFault}
use Rattle.mage_file.specs.declared.fault.FileFault.TheVariants as faults
use Rattle.mage_file.specs.Rules.{within}
use Rattle.mage_file.specs.Formats.{Rest, after, Format, ◌of◌, chain, number_of, number, field, text, place}
use Rattle.mage_file.specs.Laws.{AreBytes}
use Rattle.mage_file.proofs.Spells.{AreBytes-drop, AreBytes-take, after_ok, right, left_with, Spells, respelled, spells_chain}

-- numbers below a limit as so many bytes, and back
pub record IsWide (w : Width) (limit : ℕ) : Type 0 where
  pub len : (n : ℕ) → length (to_be_bytes w n) ≡ byte_len w
  pub back : (bytes : List ℕ) → length bytes ≡ byte_len w → AreBytes bytes → to_be_bytes w (from_be_bytes w bytes) ≡ bytes
  pub again : (n : ℕ) → n < limit → from_be_bytes w (to_be_bytes w n) ≡ n
  pub below : (bytes : List ℕ) → AreBytes bytes → from_be_bytes w bytes < limit

one_byte : (bytes : List ℕ) → length bytes ≡ 1 → AreBytes bytes → to_be_bytes w8 (from_be_bytes w8 bytes) ≡ bytes
one_byte [] e fits = absurd (omega arith)
one_byte (b ∷ []) e fits = let small = fits 0 in let same : b % 256 ≡ b = omega (arith, small) in ap (λ (n : ℕ). n ∷ []) same
one_byte (b ∷ c ∷ bytes) e fits = absurd (omega arith)

pub wide8 : IsWide w8 (2 ^ 8)
wide8 = record {
  len = λ n. refl;
  back = one_byte;
  again = λ n lt. omega (arith, lt);
  below = λ bytes fits. fits 0;
}

pub wide16 : IsWide w16 (2 ^ 16)
wide16 = record {
  len = λ n. refl;
  back = λ bytes len fits. be_bytes_2 bytes _ len fits refl;
  again = λ n lt. from_be_bytes-to_be_bytes_2 n lt;
  below = λ bytes fits. omega (arith, fits 0, fits 1);
}

pub wide32 : IsWide w32 (2 ^ 32)
wide32 = record {
  len = λ n. refl;
  back = λ bytes len fits. be_bytes_4 bytes _ len fits refl;
  again = λ n lt. from_be_bytes-to_be_bytes_4 n lt;
  below = λ bytes fits. omega (arith, fits 0, fits 1, fits 2, fits 3);
}

pub wide64 : IsWide w64 (2 ^ 64)
wide64 = record {
  len = λ n. refl;
  back = λ bytes len fits. be_bytes_8 bytes _ len fits refl;
  again = λ n lt. from_be_bytes-to_be_bytes_8 n lt;
  below = λ bytes fits. omega (arith, fits 0, fits 1, fits 2, fits 3, fits 4, fits 5, fits 6, fits 7);
}

-- a test that did not fail
pub guard_ok : {A : Type 0} (b : Bool) (d : FileFault) (z : Result A FileFault) (y : A) → cond b (Err d) z ≡ Ok y → (b ≡ false) × (z ≡ Ok y)
guard_ok true d z y e = absurd cc
guard_ok false d z y e = (refl, e)

-- a test that passed
pub passed_ok : {A : Type 0} (b : Bool) (d : FileFault) (x y : A) → cond b (Ok x) (Err d) ≡ Ok y → (b ≡ true) × (x ≡ y)
passed_ok true d x y e = (refl, cc)
passed_ok false d x y e = absurd cc

pub spells_number : (w : Width) (limit : ℕ) → IsWide w limit → Spells ℕ (number w) (λ n. n < limit)
unfolding number
spells_number w limit wide = record {
  takes = λ rest x fits e.
      let front = take (byte_len w) rest.bytes in
      let back : Rest = record { bytes = drop (byte_len w) rest.bytes; total = rest.total } in
      let g = guard_ok (ltb (length rest.bytes) (byte_len w)) (faults.Short rest.total) (Ok (from_be_bytes w front, back)) x e in
      let same : (from_be_bytes w front, back) ≡ x = cc in
      let long : byte_len w ≤ length rest.bytes = ltb-false _ _ g.0 in
      let fit = AreBytes-take (byte_len w) rest.bytes fits in
      let spelled : to_be_bytes w (from_be_bytes w front) ≡ front = wide.back front (omega (arith, length-take (byte_len w) rest.bytes)) fit in
      let parts : rest.bytes ≡ to_be_bytes w (from_be_bytes w front) ++ back.bytes =
      sym (take-append-drop (byte_len w) rest.bytes) ∙ ap (λ (t : List ℕ). t ++ back.bytes) (sym spelled) in
      subst (λ (y : ℕ × Rest). (rest.bytes ≡ to_be_bytes w y.0 ++ y.1.bytes) × AreBytes y.1.bytes × (y.0 < limit)) same
      (parts, AreBytes-drop (byte_len w) rest.bytes fits, wide.below front fit);
  again = λ n more total lt.
      let s = to_be_bytes w n in
      let len = wide.len n in
      let long : ltb (length (s ++ more)) (byte_len w) ≡ false = le-ltb _ _ (omega (arith, length-append s more)) in
      rw (long, take_at s more (byte_len w) len, drop_at s more (byte_len w) len, wide.again n lt) refl;
}

-- the numbers that a field may have
abbrev pub Fields : ℕ → (ℕ → Bool) → ℕ → Type 0
Fields limit rule n = (n < limit) × (rule n ≡ true)

pub spells_field : (w : Width) (limit : ℕ) (rule : ℕ → Bool) → IsWide w limit → Spells ℕ (field w rule) (Fields limit rule)
unfolding field number
spells_field w limit rule wide =
    let of_number : Spells ℕ (number w) (λ n. n < limit) = spells_number w limit wide in record {
      takes = λ rest x fits e.
          let step = after_ok (number_of w rest) (λ n left. cond (rule n) (Ok (n, left)) (Err (faults.Field (place rest)))) x e in
          let taken = of_number.takes rest step.0 fits step.1 in
          let passed = passed_ok (rule step.0.0) (faults.Field (place rest)) (step.0.0, step.0.1) x step.2 in
          subst (λ (y : ℕ × Rest). (rest.bytes ≡ to_be_bytes w y.0 ++ y.1.bytes) × AreBytes y.1.bytes × ((y.0 < limit) × (rule y.0 ≡ true))) passed.1
          (taken.0, taken.1, (taken.2, passed.0));
      again = λ n more total has.
          let rest : Rest = left_with (to_be_bytes w n ++ more) total in
          let follows : ℕ → Rest → Result (ℕ × Rest) FileFault = λ m behind. cond (rule m) (Ok (m, behind)) (Err (faults.Field (place rest))) in
          ap (λ (z : Result (ℕ × Rest) FileFault). after z follows) (of_number.again n more total has.0)
          ∙ ap (λ (b : Bool). cond b (right (n, left_with more total)) (Err (faults.Field (place rest)))) has.1;
    }

pub spells_text : (expected : List ℕ) (fault : FileFault) → Spells (Unit {0}) (text expected fault) (λ _. Unit {0})
unfolding text
spells_text expected fault = record {
  takes = λ rest x fits e.
      let n : ℕ = length expected in
      let left : Rest = record rest { bytes = drop n rest.bytes } in
      let long = guard_ok (ltb (length rest.bytes) n) (faults.Short rest.total) (cond (starts_with nat_eq rest.bytes expected) (Ok (tt, left)) (Err fault)) x e in
      let same = passed_ok (starts_with nat_eq rest.bytes expected) fault (tt, left) x long.1 in
      let front : expected ≡ take n rest.bytes = (bytes_decides expected (take n rest.bytes)).0 same.0 in
      let parts : rest.bytes ≡ expected ++ left.bytes = sym (take-append-drop n rest.bytes) ∙ ap (λ (t : List ℕ). t ++ left.bytes) (sym front) in
      let result : (rest.bytes ≡ expected ++ left.bytes) × AreBytes left.bytes × Unit {0} = (parts, AreBytes-drop n rest.bytes fits, tt) in
      subst (λ (y : Unit {0} × Rest). (rest.bytes ≡ expected ++ y.1.bytes) × AreBytes y.1.bytes × Unit {0}) same.1 result;
  again = λ x more total rule.
      let long : ltb (length (expected ++ more)) (length expected) ≡ false = le-ltb _ _ (omega (arith, length-append expected more)) in
      let front : take (length expected) (expected ++ more) ≡ expected = take_at expected more (length expected) refl in
      let same : pointwise nat_eq expected (take (length expected) (expected ++ more)) ≡ true = (bytes_decides expected (take (length expected) (expected ++ more))).1 (sym front) in
      rw (long, same, drop_at expected more (length expected) refl) refl;
}

-- ---- tests

pub and_both : (a b : Bool) → (a && b) ≡ true → (a ≡ true) × (b ≡ true)
and_both true b e = (refl, e)
and_both false b e = absurd cc

pub both_and : (a b : Bool) → a ≡ true → b ≡ true → (a && b) ≡ true
both_and a b p q = rw (p, q) refl

pub within_is : (least most n : ℕ) → within least most n ≡ true → (least ≤ n) × (n ≤ most)
within_is least most n e = let p = and_both (leb least n) (leb n most) e in (leb-true least n p.0, leb-true n most p.1)

pub is_within : (least most n : ℕ) → least ≤ n → n ≤ most → within least most n ≡ true
is_within least most n p q = both_and (leb least n) (leb n most) (le-leb least n p) (le-leb n most q)

-- ---- what has no choice

-- a field that has to be 0, and what follows it
pub zero_then : (B : Type 0) (w : Width) (limit : ℕ) (f : ℕ → Format B) (Q : B → Type 0) → IsWide w limit → 0 < limit
    → Spells B (f 0) Q → Spells B (chain (field w (within 0 0) of (λ _. 0)) f) Q
zero_then B w limit f Q wide some law =
    respelled B (chain (field w (within 0 0) of (λ _. 0)) f) (λ y. Fields limit (within 0 0) 0 × ((0 ≡ 0) × Q y)) Q
    (spells_chain ℕ B (field w (within 0 0)) (λ _. 0) f (Fields limit (within 0 0)) (λ a y. (0 ≡ a) × Q y)
    (spells_field w limit (within 0 0) wide)
    (λ a has. let nothing : 0 ≡ a = omega (arith, (within_is 0 0 a has.1).1) in
    subst (λ (n : ℕ). Spells B (f n) (λ y. (0 ≡ n) × Q y)) nothing
    (respelled B (f 0) Q (λ y. (0 ≡ 0) × Q y) law (λ y q. (refl, q)) (λ y q. q.1)))
    (λ a y p q. q.0))
    (λ y q. q.1.1) (λ y q. ((some, refl), (refl, q)))

-- a text, and what follows it
pub text_then : (B : Type 0) (expected : List ℕ) (fault : FileFault) (f : Unit {0} → Format B) (Q : B → Type 0)
    → Spells B (f tt) Q → Spells B (chain (text expected fault of (λ _. tt)) f) Q
text_then B expected fault f Q law =
    respelled B (chain (text expected fault of (λ _. tt)) f) (λ y. Unit {0} × Q y) Q
    (spells_chain (Unit {0}) B (text expected fault) (λ _. tt) f (λ _. Unit {0}) (λ _ y. Q y)
    (spells_text expected fault) (λ a _. law) (λ a y p q. refl))
    (λ y q. q.1) (λ y q. (tt, q))
