-- Formats that read just what they spell.
use Rattle.std.proofs.Common.{◌≡◌, ℕ, zero, suc, ◌+◌, Bool, true, false, List, [], ◌∷◌, take, drop, length, Result, Ok, Err, refl, sym, ap, subst, ◌∙◌, arith, inl, inr}
use Rattle.std.proofs.lemmas.Bool.{cases_lt}
use Rattle.std.proofs.lemmas.List.{length-take, get_or-drop, get_or-take, get_or_past}
use Rattle.mage_file.specs.declared.fault.FileFault.{FileFault}
use Rattle.mage_file.specs.Formats.{Rest, after, Format, ◌of◌, chain, done, either, read_all, spell_all}
use Rattle.mage_file.specs.Laws.{AreBytes}

pub AreBytes-drop : (n : ℕ) (bytes : List ℕ) → AreBytes bytes → AreBytes (drop n bytes)
AreBytes-drop n bytes h i = rw get_or-drop (h (n + i))

pub AreBytes-take : (n : ℕ) (bytes : List ℕ) → AreBytes bytes → AreBytes (take n bytes)
AreBytes-take n bytes h i =
    elim (cases_lt i n) [
      | inl lt ↦ rw (get_or-take n bytes i 0 lt) (h i)
      | inr le ↦ rw (get_or_past (take n bytes) i 0 (omega (arith, length-take n bytes))) (omega arith)
    ]

-- the two steps that succeeded
pub after_ok : {A B : Type 0} (r : Result (A × Rest) FileFault) (f : A → Rest → Result (B × Rest) FileFault) (y : B × Rest)
    → after r f ≡ Ok y → (x : A × Rest) × (r ≡ Ok x) × (f x.0 x.1 ≡ Ok y)
after_ok (Ok x) f y e = (x, refl, e)
after_ok (Err d) f y e = absurd cc

abbrev pub right : {A : Type 0} → A → Result A FileFault
right x = Ok x

pub ok_is : {A : Type 0} (x y : A) → right x ≡ right y → x ≡ y
ok_is x y e = cc

abbrev pub left_with : List ℕ → ℕ → Rest
left_with bytes total = record { bytes = bytes; total = total }

-- A format reads just what it spells of the values with P.
pub record Spells (A : Type 0) (f : Format A) (P : A → Type 0) : Type 0 where
  pub takes : (rest : Rest) (x : A × Rest) → AreBytes rest.bytes → f.read rest ≡ Ok x
      → (rest.bytes ≡ f.spell x.0 x.1.bytes) × AreBytes x.1.bytes × P x.0
  pub again : (x : A) (more : List ℕ) (total : ℕ) → P x → f.read (left_with (f.spell x more) total) ≡ Ok (x, left_with more total)

-- the same in other words
pub respelled : (A : Type 0) (f : Format A) (P Q : A → Type 0) → Spells A f P → ((x : A) → P x → Q x) → ((x : A) → Q x → P x) → Spells A f Q
respelled A f P Q it there back = record {
  takes = λ rest x bytes e. let found = it.takes rest x bytes e in (found.0, found.1, there x.0 found.2);
  again = λ x more total rule. it.again x more total (back x rule);
}

-- nothing is read
pub spells_done : (A : Type 0) (x : A) → Spells A (done x) (λ y. y ≡ x)
unfolding done
spells_done A x = record {
  takes = λ rest y bytes e. let same = ok_is (x, rest) y e in
      (ap (λ (p : A × Rest). p.1.bytes) same, subst (λ (p : A × Rest). AreBytes p.1.bytes) same bytes, sym (ap (λ (p : A × Rest). p.0) same));
  again = λ y more total e. ap (λ (z : A). right (z, left_with more total)) (sym e);
}

-- one thing and then another: `first` gives the first back from the whole
pub spells_chain : (A B : Type 0) (one : Format A) (first : B → A) (others : A → Format B) (P : A → Type 0) (Q : A → B → Type 0)
    → Spells A one P → ((a : A) → P a → Spells B (others a) (Q a)) → ((a : A) (y : B) → P a → Q a y → first y ≡ a)
    → Spells B (chain (one of first) others) (λ y. P (first y) × Q (first y) y)
unfolding chain
spells_chain A B one first others P Q law laws tells = record {
  takes = λ rest y bytes e.
      let step = after_ok (one.read rest) (λ x left. (others x).read left) y e in
      let x : A × Rest = step.0 in
      let front = law.takes rest x bytes step.1 in
      let back = (laws x.0 front.2).takes x.1 y front.1 step.2 in
      let same : first y.0 ≡ x.0 = tells x.0 y.0 front.2 back.2 in
      let spelled : rest.bytes ≡ one.spell (first y.0) ((others (first y.0)).spell y.0 y.1.bytes) =
      front.0 ∙ ap (one.spell x.0) back.0 ∙ ap (λ (a : A). one.spell a ((others a).spell y.0 y.1.bytes)) (sym same) in
      (spelled, back.1, (subst P (sym same) front.2, subst (λ (a : A). Q a y.0) (sym same) back.2));
  again = λ y more total rule.
      let a : A = first y in
      let start : one.read (left_with (one.spell a ((others a).spell y more)) total) ≡ Ok (a, left_with ((others a).spell y more) total) =
      law.again a ((others a).spell y more) total rule.0 in
      ap (λ (z : Result (A × Rest) FileFault). after z (λ x left. (others x).read left)) start ∙ (laws a rule.0).again y more total rule.1;
}

-- one thing, made into another, from which `member` gives it back
pub spells_made : (A B : Type 0) (one : Format A) (member : B → A) (g : A → B) (P : A → Type 0) (Q : B → Type 0)
    → Spells A one P → ((a : A) → P a → member (g a) ≡ a) → ((a : A) → P a → Q (g a)) → ((y : B) → Q y → P (member y) × (y ≡ g (member y)))
    → Spells B (chain (one of member) (λ a. done (g a))) Q
spells_made A B one member g P Q law tells there back =
    respelled B (chain (one of member) (λ a. done (g a))) (λ y. P (member y) × (y ≡ g (member y))) Q
    (spells_chain A B one member (λ a. done (g a)) P (λ a y. y ≡ g a) law (λ a p. spells_done B (g a)) (λ a y p e. ap member e ∙ tells a p))
    (λ y q. subst Q (sym q.1) (there (member y) q.0))
    back

-- one of two
pub spells_one : (A : Type 0) (b : Bool) (one other : Format A) (P : A → Type 0) → b ≡ true → Spells A one P → Spells A (either b one other) P
unfolding either
spells_one A true one other P e law = law
spells_one A false one other P e law = absurd cc

pub spells_other : (A : Type 0) (b : Bool) (one other : Format A) (P : A → Type 0) → b ≡ false → Spells A other P → Spells A (either b one other) P
unfolding either
spells_other A true one other P e law = absurd cc
spells_other A false one other P e law = law

-- ---- lists

-- P of each item, with its number
abbrev pub AllFrom : {X : Type 0} → (ℕ → X → Type 0) → (from : ℕ) → List X → Type 0
AllFrom P from [] = Unit {0}
AllFrom P from (x ∷ xs) = P from x × AllFrom P (from + 1) xs

abbrev pub listed_from : {X : Type 0} → (ℕ → Format X) → (from count : ℕ) → Format (List X)
listed_from each from count = record { read = read_all each from count; spell = spell_all each from }

abbrev pub AreListed : {X : Type 0} → (ℕ → X → Type 0) → (from count : ℕ) → List X → Type 0
AreListed P from count xs = (length xs ≡ count) × AllFrom P from xs

module _ (X : Type 0) (each : ℕ → Format X) (P : ℕ → X → Type 0) (laws : (n : ℕ) → Spells X (each n) (P n)) where
  none_taken : (from : ℕ) (rest : Rest) (y : List X × Rest) → AreBytes rest.bytes → read_all each from 0 rest ≡ Ok y
      → (rest.bytes ≡ spell_all each from y.0 y.1.bytes) × AreBytes y.1.bytes × AreListed P from 0 y.0
  unfolding read_all spell_all
  none_taken from rest y bytes e =
      subst (λ (z : List X × Rest). (rest.bytes ≡ spell_all each from z.0 z.1.bytes) × AreBytes z.1.bytes × AreListed P from 0 z.0)
      (ok_is ([], rest) y e) (refl, bytes, (refl, tt))

  none_again : (from : ℕ) (y : List X) (more : List ℕ) (total : ℕ) → AreListed P from 0 y
      → read_all each from 0 (left_with (spell_all each from y more) total) ≡ Ok (y, left_with more total)
  unfolding read_all spell_all
  none_again from [] more total rule = refl
  none_again from (x ∷ xs) more total rule = absurd (omega (arith, rule.0))

  more_taken : (from count : ℕ) → Spells (List X) (listed_from each (from + 1) count) (AreListed P (from + 1) count)
      → (rest : Rest) (y : List X × Rest) → AreBytes rest.bytes → read_all each from (suc count) rest ≡ Ok y
      → (rest.bytes ≡ spell_all each from y.0 y.1.bytes) × AreBytes y.1.bytes × AreListed P from (suc count) y.0
  unfolding read_all spell_all
  more_taken from count law rest y bytes e =
      let step = after_ok ((each from).read rest) (λ x left. after (read_all each (from + 1) count left) (λ xs behind. Ok (x ∷ xs, behind))) y e in
      let x : X × Rest = step.0 in
      let next = after_ok (read_all each (from + 1) count x.1) (λ xs behind. Ok (x.0 ∷ xs, behind)) y step.2 in
      let xs : List X × Rest = next.0 in
      let front = (laws from).takes rest x bytes step.1 in
      let back = law.takes x.1 xs front.1 next.1 in
      subst (λ (z : List X × Rest). (rest.bytes ≡ spell_all each from z.0 z.1.bytes) × AreBytes z.1.bytes × AreListed P from (suc count) z.0)
      (ok_is (x.0 ∷ xs.0, xs.1) y next.2)
      (front.0 ∙ ap ((each from).spell x.0) back.0, back.1, (ap suc back.2.0, (front.2, back.2.1)))

  more_again : (from count : ℕ) → Spells (List X) (listed_from each (from + 1) count) (AreListed P (from + 1) count)
      → (y : List X) (more : List ℕ) (total : ℕ) → AreListed P from (suc count) y
      → read_all each from (suc count) (left_with (spell_all each from y more) total) ≡ Ok (y, left_with more total)
  unfolding read_all spell_all
  more_again from count law [] more total rule = absurd (omega (arith, rule.0))
  more_again from count law (x ∷ xs) more total rule =
      let behind : List ℕ = spell_all each (from + 1) xs more in
      let start : (each from).read (left_with ((each from).spell x behind) total) ≡ Ok (x, left_with behind total) = (laws from).again x behind total rule.1.0 in
      let others : read_all each (from + 1) count (left_with behind total) ≡ Ok (xs, left_with more total) =
      law.again xs more total (omega (arith, rule.0), rule.1.1) in
      ap (λ (z : Result (X × Rest) FileFault). after z (λ x left. after (read_all each (from + 1) count left) (λ xs behind. Ok (x ∷ xs, behind)))) start
      ∙ ap (λ (z : Result (List X × Rest) FileFault). after z (λ xs behind. right (x ∷ xs, behind))) others

  pub spells_listed : (from count : ℕ) → Spells (List X) (listed_from each from count) (AreListed P from count)
  spells_listed from zero = record { takes = none_taken from; again = none_again from }
  spells_listed from (suc count) = record {
    takes = more_taken from count (spells_listed (from + 1) count);
    again = more_again from count (spells_listed (from + 1) count);
  }
