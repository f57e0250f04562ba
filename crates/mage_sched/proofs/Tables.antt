-- Tables of slots: what changes where one slot does something else.
use Rattle.std.proofs.Common.{◌≡◌, ◌≤◌, ◌<◌, ◌+◌, ◌⊎◌, ℕ, zero, suc, List, [], ◌∷◌, ◌++◌, length, get_or, set, Bool, true, false, cond, nat_eq, nat_lt, Option, Some, None, inl, inr, refl, sym, subst, ◌∙◌, ap, arith}
use Rattle.std.proofs.lemmas.Bool.{false≢true, eqb-true, eq-eqb, ne_eqb, ltb-false, cond-true, cond-false, cases_eq, cases_lt, cases_Bool}
use Rattle.std.proofs.lemmas.List.{get_or-set_same, get_or-set_other, get_or_past}
use Rattle.std.proofs.lemmas.List.Quantifiers.{position-Some}
use Rattle.std.proofs.lemmas.List.Sums.{fails_before_first}
use Rattle.std.specs.List.{position, position_or_len, remove}
use Rattle.mage_sched.specs.declared.slot.Slot.{Slot}
use Rattle.mage_sched.specs.declared.slot.Slot.TheVariants as state
use Rattle.mage_sched.specs.Slots.{left_of, without}
use Rattle.mage_sched.specs.Issues.{put}
use Rattle.mage_sched.specs.Turns.{is_for}

-- ---- what a slot does

pub idle_reads : (page : ℕ) → state.Idle ≡ state.Reads page → ⊥
idle_reads page e = cc

pub idle_writes : (page : ℕ) → state.Idle ≡ state.Writes page → ⊥
idle_writes page e = cc

pub reads_writes : (page other : ℕ) → state.Reads page ≡ state.Writes other → ⊥
reads_writes page other e = cc

pub reads_same : (page other : ℕ) → state.Reads page ≡ state.Reads other → page ≡ other
reads_same page other e = cc

pub writes_same : (page other : ℕ) → state.Writes page ≡ state.Writes other → page ≡ other
writes_same page other e = cc

pub for_reads : (slot : Slot) (page : ℕ) → slot ≡ state.Reads page → is_for slot page ≡ true
for_reads slot page e = ap (λ (s : Slot). is_for s page) e ∙ eq-eqb page page refl

pub for_writes : (slot : Slot) (page : ℕ) → slot ≡ state.Writes page → is_for slot page ≡ true
for_writes slot page e = ap (λ (s : Slot). is_for s page) e ∙ eq-eqb page page refl

pub not_for_idle : (slot : Slot) (page : ℕ) → slot ≡ state.Idle → is_for slot page ≡ true → ⊥
not_for_idle slot page e h = false≢true (sym (ap (λ (s : Slot). is_for s page) e) ∙ h)

-- ---- one number of a function

pub put_at : {A : Type 0} (at : ℕ) (new : A) (old : ℕ → A) (other : ℕ) → at ≡ other → put at new old other ≡ new
put_at at new old other e = cond-true (nat_eq at other) new (old other) (eq-eqb at other e)

pub put_off : {A : Type 0} (at : ℕ) (new : A) (old : ℕ → A) (other : ℕ) → (at ≡ other → ⊥) → put at new old other ≡ old other
put_off at new old other n = cond-false (nat_eq at other) new (old other) (ne_eqb at other n)

-- ---- a table

abbrev pub slot_at : List Slot → (slot : ℕ) → Slot
slot_at slots slot = get_or slots slot state.Idle

pub slot_within : (slots : List Slot) (slot : ℕ) → (slot_at slots slot ≡ state.Idle → ⊥) → slot < length slots
slot_within slots slot busy = go (cases_lt slot (length slots)) where
  go : (slot < length slots) ⊎ (length slots ≤ slot) → slot < length slots
  go (inl h) = h
  go (inr h) = absurd (busy (get_or_past slots slot state.Idle h))

pub does_set : (slots : List Slot) (does : ℕ → Slot) (slot : ℕ) (new : Slot) → slot < length slots → ((other : ℕ) → does other ≡ slot_at slots other)
    → (other : ℕ) → put slot new does other ≡ slot_at (set slots slot new) other
does_set slots does slot new within tie other = go (cases_eq slot other) where
  go : (slot ≡ other) ⊎ (slot ≡ other → ⊥) → put slot new does other ≡ slot_at (set slots slot new) other
  go (inl e) =
      let P : ℕ → Type 0 = λ n. new ≡ slot_at (set slots slot new) n in
      put_at slot new does other e ∙ subst P e (sym (get_or-set_same slots slot new state.Idle within))
  go (inr n) = put_off slot new does other n ∙ tie other ∙ sym (get_or-set_other slots slot other new state.Idle (λ e. n (sym e)))

-- how many slots read
abbrev pub reads_one : Slot → ℕ
reads_one state.Idle = 0
reads_one (state.Reads page) = 1
reads_one (state.Writes page) = 0

abbrev pub readers : List Slot → ℕ
readers [] = 0
readers (slot ∷ slots) = reads_one slot + readers slots

pub readers-set : (slots : List Slot) (slot : ℕ) (new : Slot) → slot < length slots → readers (set slots slot new) + reads_one (slot_at slots slot) ≡ readers slots + reads_one new
readers-set [] slot new within = absurd (omega arith)
readers-set (one ∷ slots) zero new within = omega arith
readers-set (one ∷ slots) (suc slot) new within = let e = readers-set slots slot new (omega arith) in omega (arith, e)

pub readers-idle : (slots : List Slot) → ((slot : ℕ) → slot_at slots slot ≡ state.Idle) → readers slots ≡ 0
readers-idle [] idle = refl
readers-idle (slot ∷ slots) idle =
    let e = readers-idle slots (λ k. idle (suc k)) in
    let f = ap reads_one (idle 0) in omega (arith, e, f)

-- a slot that doesn't read
pub free_reader : (slots : List Slot) → readers slots < length slots → (slot : ℕ) × (slot < length slots) × (reads_one (slot_at slots slot) ≡ 0)
free_reader [] h = absurd (omega arith)
free_reader (state.Idle ∷ slots) h = (0, omega arith, refl)
free_reader (state.Writes page ∷ slots) h = (0, omega arith, refl)
free_reader (state.Reads page ∷ slots) h =
    let other = free_reader slots (omega arith) in
    (suc other.0, (let e = other.1 in omega (arith, e)), other.2)

-- ---- the first that passes

abbrev pub Found : {X : Type 0} → (test : X → Bool) (xs : List X) (d : X) → Option ℕ → Type 0
Found test xs d None = (k : ℕ) → k < length xs → test (get_or xs k d) ≡ false
Found test xs d (Some k) = (k < length xs) × (test (get_or xs k d) ≡ true)

some_none : (n : ℕ) → Some n ≡ None → ⊥
some_none n h = cc

nowhere : {X : Type 0} (test : X → Bool) (xs : List X) (d : X) → position test xs ≡ None → (k : ℕ) → k < length xs → test (get_or xs k d) ≡ false
nowhere test xs d none k within = go (cases_Bool (nat_lt (position_or_len test xs) (length xs))) where
  go : (nat_lt (position_or_len test xs) (length xs) ≡ true) ⊎ (nat_lt (position_or_len test xs) (length xs) ≡ false) → test (get_or xs k d) ≡ false
  go (inl e) = absurd (some_none (position_or_len test xs) (sym (cond-true (nat_lt (position_or_len test xs) (length xs)) (Some (position_or_len test xs)) None e) ∙ none))
  go (inr e) = let far = ltb-false (position_or_len test xs) (length xs) e in fails_before_first test xs k d (omega (arith, far, within))

pub found : {X : Type 0} (test : X → Bool) (xs : List X) (d : X) (place : Option ℕ) → position test xs ≡ place → Found test xs d place
found test xs d None e = nowhere test xs d e
found test xs d (Some k) e = let at = position-Some test xs k d e in (at.0, at.1)

-- where one passes, one is found
pub finds : {X : Type 0} (test : X → Bool) (xs : List X) (d : X) (k : ℕ) → k < length xs → test (get_or xs k d) ≡ true
    → (place : ℕ) × (position test xs ≡ Some place) × (place < length xs) × (test (get_or xs place d) ≡ true)
finds test xs d k within here = go (position test xs) refl where
  go : (place : Option ℕ) → position test xs ≡ place → (place : ℕ) × (position test xs ≡ Some place) × (place < length xs) × (test (get_or xs place d) ≡ true)
  go None e = absurd (false≢true (sym (nowhere test xs d e k within) ∙ here))
  go (Some place) e = let at = position-Some test xs place d e in (place, e, at.0, at.1)

-- ---- how often a slot is among some

abbrev pub one_if : (slot other : ℕ) → ℕ
one_if slot other = cond (nat_eq slot other) 1 0

abbrev pub times : (slot : ℕ) → List ℕ → ℕ
times slot [] = 0
times slot (other ∷ slots) = one_if slot other + times slot slots

pub one_if-same : (slot : ℕ) → one_if slot slot ≡ 1
one_if-same slot = cond-true (nat_eq slot slot) 1 0 (eq-eqb slot slot refl)

pub one_if-other : (slot other : ℕ) → (slot ≡ other → ⊥) → one_if slot other ≡ 0
one_if-other slot other n = cond-false (nat_eq slot other) 1 0 (ne_eqb slot other n)

pub times-push : (slot : ℕ) (slots : List ℕ) (new : ℕ) → times slot (slots ++ new ∷ []) ≡ times slot slots + one_if slot new
times-push slot [] new = omega arith
times-push slot (other ∷ slots) new = let e = times-push slot slots new in omega (arith, e)

times-remove : (slot : ℕ) (slots : List ℕ) (k : ℕ) → k < length slots → times slot (remove slots k) + one_if slot (get_or slots k 0) ≡ times slot slots
times-remove slot [] k within = absurd (omega arith)
times-remove slot (other ∷ slots) zero within = omega arith
times-remove slot (other ∷ slots) (suc k) within = let e = times-remove slot slots k (omega arith) in omega (arith, e)

times-none : (slot : ℕ) (slots : List ℕ) → ((k : ℕ) → k < length slots → nat_eq slot (get_or slots k 0) ≡ false) → times slot slots ≡ 0
times-none slot [] none = refl
times-none slot (other ∷ slots) none =
    let here = cond-false {A = ℕ} (nat_eq slot other) 1 0 (none 0 (omega arith)) in
    let rest = times-none slot slots (λ k within. none (suc k) (omega arith)) in
    omega (arith, here, rest)

-- one of some slots goes
pub times-without : (slot gone : ℕ) (slots : List ℕ) → 0 < times gone slots → times slot (without gone slots) + one_if slot gone ≡ times slot slots
times-without slot gone slots there = go (position (nat_eq gone) slots) refl where
  go : (place : Option ℕ) → position (nat_eq gone) slots ≡ place → times slot (left_of place slots) + one_if slot gone ≡ times slot slots
  go None e = absurd (let none = times-none gone slots (found (nat_eq gone) slots 0 None e) in omega (arith, none, there))
  go (Some k) e =
      let at = found (nat_eq gone) slots 0 (Some k) e in
      let same = eqb-true gone (get_or slots k 0) at.1 in
      let P : ℕ → Type 0 = λ n. times slot (remove slots k) + one_if slot n ≡ times slot slots in
      subst P (sym same) (times-remove slot slots k at.0)
