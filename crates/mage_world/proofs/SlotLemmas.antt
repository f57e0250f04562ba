-- Lists of slots and pages, of which one changes, as functions of numbers.
use Rattle.std.proofs.Common.{◌≡◌, ◌<◌, ℕ, zero, suc, Bool, true, false, cond, List, [], ◌∷◌, length, get_or, set, nat_eq, refl, sym, ap, ◌∙◌, subst, arith}
use Rattle.std.specs.List.{All}
use Rattle.std.proofs.lemmas.Bool.{eqb-true, eqb-false}
use Rattle.std.proofs.lemmas.List.{length-map, length-set, map-set, get_or-set_same, get_or-set_other}
use Rattle.std.proofs.lemmas.List.Elements.{All-set, All-get_or}
use mathlib.Core.Path.{fun_ext}
use Rattle.mage_network.specs.Network.{put}
use Rattle.mage_network.specs.Slots as net
use Rattle.mage_world.specs.declared.slot.Slot.{Slot}
use Rattle.mage_world.specs.declared.slot.Work.{Work}
use Rattle.mage_world.specs.Slots.{slot_with, slot_of, slots_of, in_slots, Becomes, AreLong, AreWithin, Within}

-- ---- one element of a list

pub all_set : {X : Type 0} (P : X → Type 0) (xs : List X) (i : ℕ) (x : X) → All P xs → P x → All P (set xs i x)
all_set P xs i x all is = All-set P xs i x is all

pub all_at : {X : Type 0} (P : X → Type 0) (xs : List X) (i : ℕ) (x : X) → All P xs → i < length xs → x ≡ get_or xs i x → P x
all_at P xs i x all inside here = subst P (sym here) (All-get_or P xs i x inside all)

-- a list of which one element is given anew, as a function with a default
pub put_set : {X : Type 0} (xs : List X) (i : ℕ) (x none : X) → i < length xs →
    (λ k. get_or (set xs i x) k none) ≡ put (λ k. get_or xs k none) i x
put_set xs i x none inside = fun_ext (λ k. at k (nat_eq i k) refl)
  where
    at : (k : ℕ) (b : Bool) → nat_eq i k ≡ b → get_or (set xs i x) k none ≡ cond b x (get_or xs k none)
    at k true e = subst (λ j. get_or (set xs i x) j none ≡ x) (eqb-true i k e) (get_or-set_same xs i x none inside)
    at k false e = get_or-set_other xs i k x none (λ other. eqb-false i k e (sym other))

-- ---- slots

pub slot_here : (slots : List Slot) (i : ℕ) (slot : Slot) → i < length slots → slot ≡ get_or slots i slot → in_slots slots i ≡ slot_of slot
slot_here [] i slot inside here = absurd (omega arith)
slot_here (s ∷ slots) zero slot inside here = ap slot_of (sym here)
slot_here (s ∷ slots) (suc i) slot inside here = slot_here slots i slot (omega arith) here

pub slots_set : (slots : List Slot) (i : ℕ) (slot : Slot) → i < length slots → in_slots (set slots i slot) ≡ put (in_slots slots) i (slot_of slot)
slots_set slots i slot inside =
    let long = length-map slots slot_of in
    ap (λ (l : List (net.Slot (List ℕ))). λ (k : ℕ). get_or l k net.Idle) (map-set slot_of slots i slot)
    ∙ put_set (slots_of slots) i (slot_of slot) net.Idle (omega (arith, long, inside))

pub becomes : (slots : List Slot) (i : ℕ) (old slot : Slot) → i < length slots → old ≡ get_or slots i old →
    length slot.bytes.items ≡ length old.bytes.items → Becomes slots (set slots i slot) i (slot_of slot)
becomes slots i old slot inside here same = record {
  slots = slots_set slots i slot inside;
  count = length-set slots i slot;
  long = λ bytes long. all_set (λ (s : Slot). length s.bytes.items ≡ bytes) slots i slot long
      (same ∙ all_at (λ (s : Slot). length s.bytes.items ≡ bytes) slots i old long inside here);
}

pub named_set : (pages : ℕ) (slots : List Slot) (i : ℕ) (slot : Slot) → AreWithin pages slots → Within pages slot.work → AreWithin pages (set slots i slot)
named_set pages slots i slot all is = all_set (λ (s : Slot). Within pages s.work) slots i slot all is

pub named_at : (pages : ℕ) (slots : List Slot) (i : ℕ) (slot : Slot) → AreWithin pages slots → i < length slots → slot ≡ get_or slots i slot → Within pages slot.work
named_at pages slots i slot all inside here = all_at (λ (s : Slot). Within pages s.work) slots i slot all inside here

pub long_at : (bytes : ℕ) (slots : List Slot) (i : ℕ) (slot : Slot) → AreLong bytes slots → i < length slots → slot ≡ get_or slots i slot → length slot.bytes.items ≡ bytes
long_at bytes slots i slot all inside here = all_at (λ (s : Slot). length s.bytes.items ≡ bytes) slots i slot all inside here

-- ---- what a slot's work says

pub with_work : (work : Work) (slot : Slot) → slot.work ≡ work → slot_of slot ≡ slot_with work slot.bytes.items
with_work work slot is = ap (λ w. slot_with w slot.bytes.items) is
