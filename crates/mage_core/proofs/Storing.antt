-- A step of a machine keeps what its port tells of the store.
use Rattle.std.proofs.Common.{◌≡◌, ℕ, zero, suc, true, false, List, [], ◌∷◌, set, get_or, Option, None, Some, slice_get, refl, sym, ap, ◌∙◌, subst, arith}
use Rattle.std.specs.Prelude.{is_some, IsNone}
use Rattle.std.specs.List.{Contains}
use Rattle.std.specs.Option.{option_map, option_to_list}
use Rattle.std.proofs.lemmas.List.Elements.{Contains-append_left, Contains-append_right}
use Rattle.mage_base.specs.Store.{StoreTold, Pages, with_page}
use Rattle.mage_base.specs.declared.failure.Damage.{Damage}
use Rattle.mage_instr.specs.declared.directive.Directive.{Directive}
use Rattle.mage_instr.specs.declared.directive.Directive.TheVariants as entry
use Rattle.mage_port.specs.Port.{PortTold, SlotState, Idle, AskedRead, AskedWrite, HasFailed, IsDamaged, slot_state, Brings, Saves, Fails, Spoils}
use Rattle.mage_verify.specs.Parts.{WorkerPart}
use Rattle.mage_engine.specs.Ready.{page_moved}
use Rattle.mage_engine.specs.Steps.{AtPort}
use Rattle.mage_core.specs.Ports.{pages_moved}
use Rattle.mage_core.specs.Going.{is_sound}
use Rattle.mage_core.specs.Stores.{IsOfPart, KeepsStore}

-- ---- the pages of a part

contains_moved : (xs : List Directive) (d : ℕ) (x : Directive) (page : ℕ) → slice_get xs d ≡ Some x → page_moved x ≡ Some page → Contains (pages_moved xs) page
contains_moved [] zero x page at is = absurd cc
contains_moved [] (suc d) x page at is = absurd cc
contains_moved (y ∷ ys) zero x page at is =
    let same : y ≡ x = cc in
    Contains-append_left (option_to_list (page_moved y)) (pages_moved ys) page
    (subst (λ (o : Option ℕ). Contains (option_to_list o) page) (sym (ap page_moved same ∙ is)) (0, omega arith, refl))
contains_moved (y ∷ ys) (suc d) x page at is =
    Contains-append_right (option_to_list (page_moved y)) (pages_moved ys) page (contains_moved ys d x page at is)

-- the page of the directive that comes next
abbrev pub moved_at : Option Directive → Option ℕ
moved_at None = None
moved_at (Some x) = page_moved x

pub contains_at : (xs : List Directive) (d : ℕ) (o : Option Directive) → o ≡ slice_get xs d → (page : ℕ) → moved_at o ≡ Some page → Contains (pages_moved xs) page
contains_at xs d None at page is = absurd cc
contains_at xs d (Some x) at page is = contains_moved xs d x page (sym at) is

-- ---- slots

-- what holds of a state that a slot is set to, and of all others, holds of all
pub set_holds : (P : SlotState → Type 0) (states : List SlotState) (slot : ℕ) (state : SlotState) → P state →
    ((other : ℕ) → P (get_or states other Idle)) → (other : ℕ) → P (get_or (set states slot state) other Idle)
set_holds P [] zero state here all other = all other
set_holds P [] (suc slot) state here all other = all other
set_holds P (x ∷ xs) zero state here all zero = here
set_holds P (x ∷ xs) zero state here all (suc other) = all (suc other)
set_holds P (x ∷ xs) (suc slot) state here all zero = all zero
set_holds P (x ∷ xs) (suc slot) state here all (suc other) = set_holds P xs slot state here (λ o. all (suc o)) other

pub some_map : {X Y : Type 0} (f : X → Y) (o : Option X) → is_some (option_map f o) ≡ is_some o
some_map f None = refl
some_map f (Some x) = refl

-- a port of which one slot changed, and what its pages hold
pub record Differs (before after : PortTold) (slot : ℕ) (state : SlotState) : Type 0 where
  pub handed : after.handed_in ≡ before.handed_in
  pub pages : is_some after.pages ≡ is_some before.pages
  pub page_bytes : after.page_bytes ≡ before.page_bytes
  pub steady : after.steady ≡ before.steady
  pub page_count : after.page_count ≡ before.page_count
  pub slots : after.slots ≡ set before.slots slot state

pub slots_so : (P : SlotState → Type 0) (before after : PortTold) (slot : ℕ) (state : SlotState) → Differs before after slot state → P state →
    ((other : ℕ) → P (slot_state before other)) → (other : ℕ) → P (slot_state after other)
slots_so P before after slot state d here all other =
    subst (λ (states : List SlotState). P (get_or states other Idle)) (sym d.slots) (set_holds P before.slots slot state here all other)

module _ (part : WorkerPart) (store : StoreTold) where
  pub keeps_same : (before after : PortTold) → after ≡ before → KeepsStore part store before → KeepsStore part store after
  keeps_same before after e = subst (λ (p : PortTold). KeepsStore part store p) (sym e)

  pub keeps_so : (before after : PortTold) (slot : ℕ) (state : SlotState) → Differs before after slot state → IsOfPart part state →
      KeepsStore part store before → KeepsStore part store after
  keeps_so before after slot state d of k = record {
    pages = d.pages ∙ k.pages;
    page_bytes = d.page_bytes ∙ k.page_bytes;
    steady = d.steady ∙ k.steady;
    page_count = d.page_count ∙ k.page_count;
    slots = slots_so (IsOfPart part) before after slot state d of k.slots;
  }

-- ---- one call of a port

pub brings_differs : (before after : PortTold) (slot : ℕ) (bytes : List ℕ) (state : SlotState) → Brings before after slot bytes state → Differs before after slot Idle
brings_differs before after slot bytes Idle h = absurd h
brings_differs before after slot bytes (AskedRead page) h = record {
  handed = ap (λ (p : PortTold). p.handed_in) h.1;
  pages = ap (λ (p : PortTold). is_some p.pages) h.1;
  page_bytes = ap (λ (p : PortTold). p.page_bytes) h.1;
  steady = ap (λ (p : PortTold). p.steady) h.1;
  page_count = ap (λ (p : PortTold). p.page_count) h.1;
  slots = ap (λ (p : PortTold). p.slots) h.1;
}
brings_differs before after slot bytes (AskedWrite page b) h = absurd h
brings_differs before after slot bytes (HasFailed page) h = absurd h
brings_differs before after slot bytes (IsDamaged damage) h = absurd h

pub saves_differs : (before after : PortTold) (slot : ℕ) (state : SlotState) → Saves before after slot state → Differs before after slot Idle
saves_differs before after slot Idle h = absurd h
saves_differs before after slot (AskedRead page) h = absurd h
saves_differs before after slot (AskedWrite page bytes) h = record {
  handed = ap (λ (p : PortTold). p.handed_in) h;
  pages = ap (λ (p : PortTold). is_some p.pages) h ∙ some_map (λ (pages : Pages). with_page pages page bytes) before.pages;
  page_bytes = ap (λ (p : PortTold). p.page_bytes) h;
  steady = ap (λ (p : PortTold). p.steady) h;
  page_count = ap (λ (p : PortTold). p.page_count) h;
  slots = ap (λ (p : PortTold). p.slots) h;
}
saves_differs before after slot (HasFailed page) h = absurd h
saves_differs before after slot (IsDamaged damage) h = absurd h

pub asks_differs : (before after : PortTold) (slot : ℕ) (state : SlotState) → after ≡ record before { slots = set before.slots slot state } → Differs before after slot state
asks_differs before after slot state h = record {
  handed = ap (λ (p : PortTold). p.handed_in) h;
  pages = ap (λ (p : PortTold). is_some p.pages) h;
  page_bytes = ap (λ (p : PortTold). p.page_bytes) h;
  steady = ap (λ (p : PortTold). p.steady) h;
  page_count = ap (λ (p : PortTold). p.page_count) h;
  slots = ap (λ (p : PortTold). p.slots) h;
}

-- a transfer that fails leaves its slot failed
pub fails_differs : (before after : PortTold) (slot : ℕ) (state : SlotState) → is_sound state ≡ true → Fails before after slot state →
    (page : ℕ) × Differs before after slot (HasFailed page)
fails_differs before after slot Idle sound h = absurd h
fails_differs before after slot (AskedRead page) sound h = (page, asks_differs before after slot (HasFailed page) h)
fails_differs before after slot (AskedWrite page bytes) sound h = (
  page,
  record {
    handed = ap (λ (p : PortTold). p.handed_in) h.1;
    pages = ap (λ (p : PortTold). is_some p.pages) h.1 ∙ some_map (λ (pages : Pages). with_page pages page h.0) before.pages;
    page_bytes = ap (λ (p : PortTold). p.page_bytes) h.1;
    steady = ap (λ (p : PortTold). p.steady) h.1;
    page_count = ap (λ (p : PortTold). p.page_count) h.1;
    slots = ap (λ (p : PortTold). p.slots) h.1;
  },
)
fails_differs before after slot (HasFailed page) sound h = absurd cc
fails_differs before after slot (IsDamaged damage) sound h = absurd h

-- a read that brings other bytes leaves its slot damaged, over a store that doesn't tell its pages
pub spoils_differs : (before after : PortTold) (slot : ℕ) (damage : Damage) (state : SlotState) → is_sound state ≡ true → Spoils before after slot damage state →
    Differs before after slot (IsDamaged damage) × (is_some before.pages ≡ false)
spoils_differs before after slot damage Idle sound h = absurd h
spoils_differs before after slot damage (AskedRead page) sound h = (
  record {
    handed = ap (λ (p : PortTold). p.handed_in) h.1.left;
    pages = ap (λ (p : PortTold). is_some p.pages) h.1.left;
    page_bytes = ap (λ (p : PortTold). p.page_bytes) h.1.left;
    steady = ap (λ (p : PortTold). p.steady) h.1.left;
    page_count = ap (λ (p : PortTold). p.page_count) h.1.left;
    slots = ap (λ (p : PortTold). p.slots) h.1.left;
  },
  none_so before.pages h.1.untold,
)
  where
    none_so : (o : Option Pages) → IsNone o → is_some o ≡ false
    none_so None e = refl
    none_so (Some pages) e = absurd cc
spoils_differs before after slot damage (AskedWrite page bytes) sound h = absurd h
spoils_differs before after slot damage (HasFailed page) sound h = absurd h
spoils_differs before after slot damage (IsDamaged found) sound h = absurd cc

-- ---- one step

pub port_keeps : (part : WorkerPart) (store : StoreTold) (o : Option Directive) (bank filled : ℕ → List ℕ) (before after : PortTold) → AtPort o bank filled before after →
    ((page : ℕ) → moved_at o ≡ Some page → Contains (pages_moved part.directives) page) → KeepsStore part store before → KeepsStore part store after
port_keeps part store None bank filled before after h of = keeps_same part store before after h
port_keeps part store (Some (entry.Fresh frame page)) bank filled before after h of = keeps_same part store before after h
port_keeps part store (Some (entry.IssueIn slot page)) bank filled before after h of =
    keeps_so part store before after slot (AskedRead page) (asks_differs before after slot (AskedRead page) h) (of page refl)
port_keeps part store (Some (entry.FinishIn slot frame)) bank filled before after h of =
    keeps_so part store before after slot Idle (brings_differs before after slot (filled frame) (slot_state before slot) h) tt
port_keeps part store (Some (entry.IssueOut slot frame page)) bank filled before after h of =
    keeps_so part store before after slot (AskedWrite page (bank frame)) (asks_differs before after slot (AskedWrite page (bank frame)) h) (of page refl)
port_keeps part store (Some (entry.FinishOut slot)) bank filled before after h of =
    keeps_so part store before after slot Idle (saves_differs before after slot (slot_state before slot) h) tt
port_keeps part store (Some (entry.Do job)) bank filled before after h of = keeps_same part store before after h
