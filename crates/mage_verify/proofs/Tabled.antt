-- What the tables of the check say of the state that they stand for.
use Rattle.std.proofs.Common.{◌≡◌, ◌<◌, ◌+◌, ◌&&◌, ◌||◌, ℕ, zero, suc, List, [], ◌∷◌, Bool, true, false, not, cond, length, get_or, refl, sym, subst, ◌∙◌, ap, ap₂, arith, nat_eq, nat_lt}
use Rattle.std.proofs.Math.ListN.{set, replicate}
use Rattle.std.specs.HashSet.{contains}
use Rattle.std.specs.List.{list_any}
use Rattle.std.proofs.lemmas.Bool.{false≢true, and_parts, ltb-true, lt-ltb, eqb-true, eqb-false}
use Rattle.std.proofs.lemmas.List.{length-set, get_or-set_same, get_or-set_other, length-replicate, get_or_past}
use mathlib.Core.Path.{fun_ext}
use Rattle.mage_instr.specs.declared.directive.Directive.{Directive}
use Rattle.mage_instr.specs.declared.directive.Directive.TheVariants as entry
use Rattle.mage_instr.specs.declared.replaced.Limits.{Limits}
use Rattle.mage_verify.specs.declared.slot.Slot.{Slot}
use Rattle.mage_verify.specs.declared.slot.Slot.TheVariants as does
use Rattle.mage_verify.specs.declared.swaps.Swaps.{Swaps}
use Rattle.mage_verify.specs.State.{State, opening, after, with_slot, is_in_flight, is_reading, is_moving, names, writes, some_below}
use Rattle.mage_verify.specs.Tables.{how_many, slot_in, state_in, AreKept, IsFine, IsStarted, IsFinished}
use Rattle.mage_verify.proofs.Tests.{idle_when, not_true}

-- a slot is changed: the count loses what it was and wins what it is
how_many-set : (test : Slot → Bool) (xs : List Slot) (i : ℕ) (v d : Slot) → i < length xs
    → how_many test (set xs i v) + cond (test (get_or xs i d)) 1 0 ≡ how_many test xs + cond (test v) 1 0
how_many-set test [] i v d l = absurd (omega arith)
how_many-set test (x ∷ xs) zero v d l = turned (cond (test v) 1 0) (how_many test xs) (cond (test x) 1 0) where
  turned : (a b c : ℕ) → a + b + c ≡ c + b + a
  turned a b c = omega arith
how_many-set test (x ∷ xs) (suc i) v d l = moved (cond (test x) 1 0) (how_many test (set xs i v)) (how_many test xs) (cond (test (get_or xs i d)) 1 0) (cond (test v) 1 0) (how_many-set test xs i v d (omega arith)) where
  moved : (x a b c e : ℕ) → a + c ≡ b + e → x + a + c ≡ x + b + e
  moved x a b c e h = omega (arith, h)

plain : (n : ℕ) → n ≡ 0 + n
plain n = omega arith

-- some slot passes a test where a positive number of them do
any-how_many : (test : Slot → Bool) (xs : List Slot) → list_any test xs ≡ nat_lt 0 (how_many test xs)
any-how_many test [] = refl
any-how_many test (x ∷ xs) = go (test x) (any-how_many test xs) where
  go : (b : Bool) → list_any test xs ≡ nat_lt 0 (how_many test xs) → (b || list_any test xs) ≡ nat_lt 0 (cond b 1 0 + how_many test xs)
  go true rest = sym (lt-ltb 0 (1 + how_many test xs) (omega arith))
  go false rest = rest ∙ ap (nat_lt 0) (plain (how_many test xs))

-- some slot of a buffer passes a test where one of the list does
pub below-any : (test : Slot → Bool) (xs : List Slot) → some_below (length xs) (λ s. test (get_or xs s does.Idle)) ≡ list_any test xs
below-any test [] = refl
below-any test (x ∷ xs) = ap (λ b. test x || b) (below-any test xs)

-- a page is in the set of those in flight where a slot names it
pub moving_is : (buffer : ℕ) (swaps : Swaps) (page : ℕ) → AreKept buffer swaps → is_moving buffer (state_in swaps) page ≡ contains nat_eq swaps.in_flight page
moving_is buffer swaps page kept =
    ap (λ n. some_below n (λ s. names page (slot_in swaps s))) (sym kept.slots)
    ∙ below-any (names page) swaps.slots.items
    ∙ any-how_many (names page) swaps.slots.items
    ∙ ap (nat_lt 0) (kept.in_flight page)
    ∙ one (contains nat_eq swaps.in_flight page) where
      one : (b : Bool) → nat_lt 0 (cond b 1 0) ≡ b
      one true = refl
      one false = refl

-- two states that agree at each slot and each page are one
same_state : (a b : State) → ((s : ℕ) → a.slot s ≡ b.slot s) → ((page : ℕ) → a.stored page ≡ b.stored page) → a ≡ b
same_state a b slots pages = ap₂ (λ (slot : ℕ → Slot) (stored : ℕ → Bool). record { slot = slot; stored = stored }) (fun_ext slots) (fun_ext pages)

-- one slot of a list is changed
changed : (xs : List Slot) (i : ℕ) (v : Slot) → i < length xs → (s : ℕ) → get_or (set xs i v) s does.Idle ≡ with_slot i v (λ t. get_or xs t does.Idle) s
changed xs i v l s = go (nat_eq s i) refl where
  go : (b : Bool) → nat_eq s i ≡ b → get_or (set xs i v) s does.Idle ≡ cond b v (get_or xs s does.Idle)
  go true e = ap (λ t. get_or (set xs i v) t does.Idle) (eqb-true s i e) ∙ get_or-set_same xs i v does.Idle l
  go false e = get_or-set_other xs i s v does.Idle (eqb-false s i e)

same_sum : (a b : ℕ) → a + 0 ≡ b + 0 → a ≡ b
same_sum a b h = omega (arith, h)

-- a slot starts: it was idle, and names its page from now on
module _ (old new : Swaps) (s page : ℕ) (now : Slot) (within : s < length old.slots.items) (does_now : IsStarted old new s page now) where
  pub started_state : state_in new ≡ record { slot = with_slot s now (slot_in old); stored = contains nat_eq old.stored }
  started_state = same_state (state_in new) _ (λ t. ap (λ xs. get_or xs t does.Idle) does_now.slots ∙ changed old.slots.items s now within t) does_now.stored

  module _ (buffer : ℕ) (kept : AreKept buffer old) (idle : slot_in old s ≡ does.Idle) (still : contains nat_eq old.in_flight page ≡ false) (naming : (p : ℕ) → names p now ≡ nat_eq p page) where
    counted : (p : ℕ) → how_many (names p) (set old.slots.items s now) + 0 ≡ cond (contains nat_eq old.in_flight p) 1 0 + cond (nat_eq p page) 1 0
    counted p =
        sym (ap (λ (slot : Slot). how_many (names p) (set old.slots.items s now) + cond (names p slot) 1 0) idle)
        ∙ how_many-set (names p) old.slots.items s now does.Idle within
        ∙ ap₂ (λ (n : ℕ) (b : Bool). n + cond b 1 0) (kept.in_flight p) (naming p)

    count : (p : ℕ) (b : Bool) → nat_eq p page ≡ b → how_many (names p) (set old.slots.items s now) ≡ cond (b || contains nat_eq old.in_flight p) 1 0
    count p true e =
        let was : contains nat_eq old.in_flight p ≡ false = ap (contains nat_eq old.in_flight) (eqb-true p page e) ∙ still in
        let sums : how_many (names p) (set old.slots.items s now) + 0 ≡ 0 + 1 = counted p ∙ ap₂ (λ (a b : Bool). cond a 1 0 + cond b 1 0) was e in
        omega (arith, sums)
    count p false e =
        same_sum (how_many (names p) (set old.slots.items s now)) (cond (contains nat_eq old.in_flight p) 1 0)
        (counted p ∙ ap (λ (b : Bool). cond (contains nat_eq old.in_flight p) 1 0 + cond b 1 0) e)

    pub started_kept : AreKept buffer new
    started_kept = record {
      slots = ap length does_now.slots ∙ length-set old.slots.items s now ∙ kept.slots;
      in_flight = λ p. ap (how_many (names p)) does_now.slots ∙ count p (nat_eq p page) refl ∙ ap (λ (b : Bool). cond b 1 0) (sym (does_now.in_flight p));
    }

-- a slot is finished
module _ (old new : Swaps) (s : ℕ) (within : s < length old.slots.items) (does_now : IsFinished old new s) where
  pub finished_state : state_in new ≡ record { slot = with_slot s does.Idle (slot_in old); stored = λ page. writes page (slot_in old s) || contains nat_eq old.stored page }
  finished_state = same_state (state_in new) _ (λ t. ap (λ xs. get_or xs t does.Idle) does_now.slots ∙ changed old.slots.items s does.Idle within t) does_now.stored

  pub read_state : is_reading (slot_in old s) ≡ true → state_in new ≡ record { slot = with_slot s does.Idle (slot_in old); stored = contains nat_eq old.stored }
  read_state reads = finished_state ∙ same_state _ _ (λ t. refl) (λ page. go page (slot_in old s) reads) where
    go : (page : ℕ) (slot : Slot) → is_reading slot ≡ true → (writes page slot || contains nat_eq old.stored page) ≡ contains nat_eq old.stored page
    go page does.Idle h = absurd (false≢true h)
    go page (does.Reading p) h = refl
    go page (does.Writing p) h = absurd (false≢true h)

  pub finished_kept : (buffer : ℕ) → AreKept buffer old → AreKept buffer new
  finished_kept buffer kept = record {
    slots = ap length does_now.slots ∙ length-set old.slots.items s does.Idle ∙ kept.slots;
    in_flight = λ p. ap (how_many (names p)) does_now.slots ∙ count p (names p (slot_in old s)) (contains nat_eq old.in_flight p) (step p) ∙ ap (λ b. cond b 1 0) (sym (does_now.in_flight p));
  } where
    step : (p : ℕ) → how_many (names p) (set old.slots.items s does.Idle) + cond (names p (slot_in old s)) 1 0 ≡ cond (contains nat_eq old.in_flight p) 1 0 + 0
    step p = how_many-set (names p) old.slots.items s does.Idle does.Idle within ∙ ap (λ n. n + 0) (kept.in_flight p)

    count : (p : ℕ) (named moving : Bool) → how_many (names p) (set old.slots.items s does.Idle) + cond named 1 0 ≡ cond moving 1 0 + 0 → how_many (names p) (set old.slots.items s does.Idle) ≡ cond (not named && moving) 1 0
    count p true true h = omega (arith, h)
    count p true false h = absurd (omega (arith, h))
    count p false true h = omega (arith, h)
    count p false false h = omega (arith, h)

-- the tables of a buffer whose slots are idle
none_named : (page n : ℕ) → how_many (names page) (replicate n does.Idle) ≡ 0
none_named page zero = refl
none_named page (suc n) = ap (λ (n : ℕ). 0 + n) (none_named page n)

idle_in : (n s : ℕ) → get_or (replicate n does.Idle) s does.Idle ≡ does.Idle
idle_in zero s = get_or_past [] s does.Idle (omega arith)
idle_in (suc n) zero = refl
idle_in (suc n) (suc s) = idle_in n s

pub opened_state : (slots : List Slot) (stored : ℕ → Bool) (n : ℕ) → slots ≡ replicate n does.Idle → ((page : ℕ) → stored page ≡ false)
    → ◌≡◌ {A = State} (record { slot = λ s. get_or slots s does.Idle; stored = stored }) opening
opened_state slots stored n are none = same_state (record { slot = λ s. get_or slots s does.Idle; stored = stored }) opening (λ s. ap (λ (xs : List Slot). get_or xs s does.Idle) are ∙ idle_in n s) none

pub opened_kept : (swaps : Swaps) (n : ℕ) → swaps.slots.items ≡ replicate n does.Idle → ((page : ℕ) → contains nat_eq swaps.in_flight page ≡ false) → AreKept n swaps
opened_kept swaps n slots in_flight = record {
  slots = ap length slots ∙ length-replicate n does.Idle;
  in_flight = λ page. ap (how_many (names page)) slots ∙ none_named page n ∙ ap (λ b. cond b 1 0) (sym (in_flight page));
}

-- the slot of a directive in range is in the list
pub in_list : (buffer : ℕ) (swaps : Swaps) (s : ℕ) → AreKept buffer swaps → nat_lt s buffer ≡ true → s < length swaps.slots.items
in_list buffer swaps s kept h = let below = ltb-true s buffer h in let same = kept.slots in omega (arith, below, same)

-- the tables after a directive that has no fault
pub record Applied (limits : Limits) (old new : Swaps) (directive : Directive) : Type 0 where
  pub kept : AreKept limits.buffer new
  pub state : state_in new ≡ after (state_in old) directive

module _ (limits : Limits) (old new : Swaps) (kept : AreKept limits.buffer old) where
  still_when : (page : ℕ) → not (is_moving limits.buffer (state_in old) page) ≡ true → contains nat_eq old.in_flight page ≡ false
  still_when page h = sym (moving_is limits.buffer old page kept) ∙ not_true (is_moving limits.buffer (state_in old) page) h

  pub issued_in : (slot page : ℕ) → nat_lt slot limits.buffer ≡ true → not (is_in_flight (slot_in old slot)) ≡ true → (not (is_moving limits.buffer (state_in old) page) && contains nat_eq old.stored page) ≡ true
      → IsStarted old new slot page (does.Reading page) → Applied limits old new (entry.IssueIn slot page)
  issued_in slot page range idle right did =
      let here = in_list limits.buffer old slot kept range in
      let both = and_parts (not (is_moving limits.buffer (state_in old) page)) (contains nat_eq old.stored page) right in
      record {
        kept = started_kept old new slot page (does.Reading page) here did limits.buffer kept (idle_when (slot_in old slot) (not_true (is_in_flight (slot_in old slot)) idle)) (still_when page both.0) (λ p. refl);
        state = started_state old new slot page (does.Reading page) here did;
      }

  pub issued_out : (slot frame page : ℕ) → (nat_lt slot limits.buffer && nat_lt frame limits.frames) ≡ true → not (is_in_flight (slot_in old slot)) ≡ true → not (is_moving limits.buffer (state_in old) page) ≡ true
      → IsStarted old new slot page (does.Writing page) → Applied limits old new (entry.IssueOut slot frame page)
  issued_out slot frame page range idle right did =
      let here = in_list limits.buffer old slot kept (and_parts (nat_lt slot limits.buffer) (nat_lt frame limits.frames) range).0 in
      record {
        kept = started_kept old new slot page (does.Writing page) here did limits.buffer kept (idle_when (slot_in old slot) (not_true (is_in_flight (slot_in old slot)) idle)) (still_when page right) (λ p. refl);
        state = started_state old new slot page (does.Writing page) here did;
      }

  pub finished_in : (slot frame : ℕ) → (nat_lt slot limits.buffer && nat_lt frame limits.frames) ≡ true → is_reading (slot_in old slot) ≡ true
      → IsFinished old new slot → Applied limits old new (entry.FinishIn slot frame)
  finished_in slot frame range reads did =
      let here = in_list limits.buffer old slot kept (and_parts (nat_lt slot limits.buffer) (nat_lt frame limits.frames) range).0 in
      record {
        kept = finished_kept old new slot here did limits.buffer kept;
        state = read_state old new slot here did reads;
      }

  pub finished_out : (slot : ℕ) → nat_lt slot limits.buffer ≡ true → IsFinished old new slot → Applied limits old new (entry.FinishOut slot)
  finished_out slot range did =
      let here = in_list limits.buffer old slot kept range in
      record {
        kept = finished_kept old new slot here did limits.buffer kept;
        state = finished_state old new slot here did;
      }

-- Below, a directive passes each test, and `did` says what its slot did.
module _ (limits : Limits) (old new : Swaps) (kept : AreKept limits.buffer old) (directive : Directive) (fine : IsFine limits (state_in old) directive) where
  fine_as : (d : Directive) → directive ≡ d → IsFine limits (state_in old) d
  fine_as d is = subst (IsFine limits (state_in old)) is fine

  pub here_in : (slot page : ℕ) → directive ≡ entry.IssueIn slot page → slot < length old.slots.items
  here_in slot page is = let own = fine_as _ is in in_list limits.buffer old slot kept own.range

  pub here_read : (slot frame : ℕ) → directive ≡ entry.FinishIn slot frame → slot < length old.slots.items
  here_read slot frame is = let own = fine_as _ is in in_list limits.buffer old slot kept (and_parts (nat_lt slot limits.buffer) (nat_lt frame limits.frames) own.range).0

  pub here_out : (slot frame page : ℕ) → directive ≡ entry.IssueOut slot frame page → slot < length old.slots.items
  here_out slot frame page is = let own = fine_as _ is in in_list limits.buffer old slot kept (and_parts (nat_lt slot limits.buffer) (nat_lt frame limits.frames) own.range).0

  pub here_written : (slot : ℕ) → directive ≡ entry.FinishOut slot → slot < length old.slots.items
  here_written slot is = let own = fine_as _ is in in_list limits.buffer old slot kept own.range

  pub does_in : (slot page : ℕ) → directive ≡ entry.IssueIn slot page → IsStarted old new slot page (does.Reading page) → Applied limits old new directive
  does_in slot page is did = let own = fine_as _ is in subst (Applied limits old new) (sym is) (issued_in limits old new kept slot page own.range own.slot own.page did)

  pub does_read : (slot frame : ℕ) → directive ≡ entry.FinishIn slot frame → IsFinished old new slot → Applied limits old new directive
  does_read slot frame is did = let own = fine_as _ is in subst (Applied limits old new) (sym is) (finished_in limits old new kept slot frame own.range own.slot did)

  pub does_out : (slot frame page : ℕ) → directive ≡ entry.IssueOut slot frame page → IsStarted old new slot page (does.Writing page) → Applied limits old new directive
  does_out slot frame page is did = let own = fine_as _ is in subst (Applied limits old new) (sym is) (issued_out limits old new kept slot frame page own.range own.slot own.page did)

  pub does_write : (slot : ℕ) → directive ≡ entry.FinishOut slot → IsFinished old new slot → Applied limits old new directive
  does_write slot is did = let own = fine_as _ is in subst (Applied limits old new) (sym is) (finished_out limits old new kept slot own.range did)
