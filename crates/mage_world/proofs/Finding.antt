-- The first worker and the first slot that has an event.
use Rattle.std.proofs.Common.{◌≡◌, ◌≤◌, ◌<◌, ◌+◌, ℕ, zero, suc, true, false, List, [], ◌∷◌, length, map, get_or, Option, Some, None, is_some, inl, inr, refl, sym, ap, ◌∙◌, subst, arith}
use Rattle.std.specs.Prelude.{slice_get}
use Rattle.std.proofs.lemmas.Bool.{cases_lt}
use Rattle.mage_driver.specs.Rules.{Rules}
use Rattle.mage_driver.specs.Calls.{Told}
use Rattle.mage_link.specs.Queues.{QueueState}
use Rattle.mage_network.specs.Slots as net
use Rattle.mage_verify.specs.Parts.{WorkerPart}
use Rattle.mage_world.specs.declared.event.Event.{Event}
use Rattle.mage_world.specs.declared.slot.Slot.{Slot}
use Rattle.mage_world.specs.declared.worker.Worker.{Worker}
use Rattle.mage_world.specs.Slots.{in_slots, slot_of, is_asked, is_busy}
use Rattle.mage_world.specs.Seats.{Seat, state_of}
use Rattle.mage_world.specs.Worlds.{Seen, seen, What, CanBe, CanHappenAt, what_in}
use Rattle.mage_world.specs.Ready.{IsService, ReadyAt, NoneBelow, Readies}
use Rattle.mage_world.proofs.WorldLemmas.{within}

-- ---- slots

-- none of so many slots is asked or busy
abbrev pub NoneIn : List Slot → (count : ℕ) → Type 0
NoneIn slots count = (slot : ℕ) → slot < count → (is_asked (in_slots slots slot) ≡ false) × (is_busy (in_slots slots slot) ≡ false)

-- a slot that is read
pub slot_read : (slots : List Slot) (i : ℕ) (other : Slot) → i < length slots → in_slots slots i ≡ slot_of (get_or slots i other)
slot_read [] i other inside = absurd (omega arith)
slot_read (s ∷ slots) zero other inside = refl
slot_read (s ∷ slots) (suc i) other inside = slot_read slots i other (omega arith)

past_slots : (slots : List Slot) (i : ℕ) → length slots ≤ i → in_slots slots i ≡ net.Idle
past_slots [] i past = refl
past_slots (s ∷ slots) zero past = absurd (omega arith)
past_slots (s ∷ slots) (suc i) past = past_slots slots i (omega arith)

pub one_slot_more : (slots : List Slot) (count : ℕ) → NoneIn slots count → is_asked (in_slots slots count) ≡ false → is_busy (in_slots slots count) ≡ false →
    NoneIn slots (count + 1)
one_slot_more slots count none asked busy slot inside = elim (cases_lt slot count) [
  | inl before ↦ none slot before
  | inr past ↦
      let here : count ≡ slot = omega (arith, inside, past) in
      subst (λ (i : ℕ). (is_asked (in_slots slots i) ≡ false) × (is_busy (in_slots slots i) ≡ false)) here (asked, busy)
]

pub no_slot : (slots : List Slot) (count w : ℕ) → NoneIn slots count → length slots ≤ count → IsService slots w None
no_slot slots count w none all slot = elim (cases_lt slot count) [
  | inl inside ↦ none slot inside
  | inr past ↦
      let idle = past_slots slots slot (omega (arith, all, past)) in (ap is_asked idle, ap is_busy idle)
]

-- ---- workers

abbrev pub world_of : {D W : Type 0} (rules : Rules W) → (D → Told rules.State) → List WorkerPart → List D → List Worker → QueueState → Seen rules.State
world_of rules tells parts drivers workers links = seen rules tells (record {
  parts = parts;
  drivers = drivers;
  workers = map state_of workers;
  capacity = links.capacity;
  links = links.links;
})

module _ {W : Type 0} (rules : Rules W) (world : Seen rules.State) where
  pub none_at_first : NoneBelow rules world 0
  none_at_first n what inside can = omega (arith, inside)

  pub none_at_all : (count : ℕ) → NoneBelow rules world count → length world.parts ≤ count → Readies rules world None
  none_at_all count none all n what can =
      let inside = within world.parts n can.0 can.2 in none n what (omega (arith, inside, all)) can

  module _ (n w : ℕ) (part : WorkerPart) (seat : Seat rules.State) (number : w ≡ n) (part_is : slice_get world.parts n ≡ Some part)
      (seat_is : slice_get world.seats n ≡ Some seat) where
    some_same : {X : Type 0} (o : Option X) (x y : X) → o ≡ Some x → o ≡ Some y → x ≡ y
    some_same o x y e f = let same : Some x ≡ Some y = sym e ∙ f in cc

    none_here : ReadyAt rules world.capacity w part seat world.wires None → (what : What) → CanHappenAt rules world n what → ⊥
    none_here ready what can =
        ready what (subst (λ (p : WorkerPart). CanBe rules what world.capacity p seat world.wires) (some_same (slice_get world.parts n) can.0 part can.2 part_is)
        (subst (λ (s : Seat rules.State). CanBe rules what world.capacity can.0 s world.wires) (some_same (slice_get world.seats n) can.1 seat can.3 seat_is) can.4))

    one_more : ReadyAt rules world.capacity w part seat world.wires None → NoneBelow rules world n → NoneBelow rules world (n + 1)
    one_more ready none m what inside can = elim (cases_lt m n) [
      | inl before ↦ none m what before can
      | inr past ↦
          let here : m ≡ n = omega (arith, inside, past) in
          none_here ready what (subst (λ (k : ℕ). CanHappenAt rules world k what) here can)
    ]

    pub one_worker_on : (found : Option Event) → is_some found ≡ false → ReadyAt rules world.capacity w part seat world.wires found → NoneBelow rules world n →
        NoneBelow rules world (n + 1)
    one_worker_on (Some one) e ready none = absurd cc
    one_worker_on None e ready none = one_more ready none

    pub found_here : (found : Option Event) → is_some found ≡ true → ReadyAt rules world.capacity w part seat world.wires found → Readies rules world found
    found_here (Some one) e ready =
        subst (λ (k : ℕ). CanHappenAt rules world k (what_in one)) (sym (ready.0 ∙ number)) (part, seat, part_is, seat_is, ready.1)
    found_here None e ready = absurd cc
