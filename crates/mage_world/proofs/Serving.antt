-- Transfers that are claimed and served.
use Rattle.std.proofs.Common.{◌≡◌, ◌≤◌, ℕ, zero, suc, true, false, List, [], ◌∷◌, length, Some, None, refl, sym, ap, ap₂, ◌∙◌, arith}
use Rattle.std.specs.Prelude.{Vec}
use Rattle.std.specs.Global.{Global}
use Rattle.mage_bank.specs.Bank.{contents}
use Rattle.mage_driver.specs.Rules.{Rules}
use Rattle.mage_driver.specs.Calls.{Told}
use Rattle.mage_network.specs.Slots as net
use Rattle.mage_steps.specs.Engines.{Engine}
use Rattle.mage_steps.specs.Frames.{cleared}
use Rattle.mage_verify.specs.Parts.{WorkerPart}
use Rattle.mage_world.specs.declared.slot.Slot.{Slot}
use Rattle.mage_world.specs.declared.worker.Worker.{Worker}
use Rattle.mage_world.specs.Slots.{in_slots, page_at, is_asked, is_busy, AreWithin, Claims, Serves}
use Rattle.mage_world.specs.Seats.{Seat, state_of, seat_of, page_bytes, Stands}
use Rattle.mage_world.proofs.Standing.{moved}

module _ {S : Type 0} where
  claims_none : (slot : ℕ) (now : net.Slot (List ℕ)) (worker : net.Paged (Engine S) (List ℕ)) → is_asked now ≡ false → net.claims slot now worker ≡ None
  claims_none slot net.Idle worker e = refl
  claims_none slot (net.Asked t) worker e = absurd cc
  claims_none slot (net.Busy t) worker e = refl
  claims_none slot (net.Served t b) worker e = refl

  serves_none : (slot : ℕ) (now : net.Slot (List ℕ)) (worker : net.Paged (Engine S) (List ℕ)) → is_busy now ≡ false → net.serves slot now worker ≡ None
  serves_none slot net.Idle worker e = refl
  serves_none slot (net.Asked t) worker e = refl
  serves_none slot (net.Busy t) worker e = absurd cc
  serves_none slot (net.Served t b) worker e = refl

slot_past : (slots : List Slot) (i : ℕ) → length slots ≤ i → in_slots slots i ≡ net.Idle
slot_past [] i past = refl
slot_past (s ∷ slots) zero past = absurd (omega arith)
slot_past (s ∷ slots) (suc i) past = slot_past slots i (omega arith)

module _ {W : Type 0} (rules : Rules W) (part : WorkerPart) (driver : Told rules.State) (worker : Worker)
    (stands : Stands rules part driver worker) (slot : ℕ) where
  abbrev Sits : Worker → Seat rules.State
  Sits w = seat_of rules part.limits.page driver (state_of w)

  abbrev old : Seat rules.State
  old = Sits worker

  pub claim_past : length worker.slots.items ≤ slot → net.becomes (net.Claims slot) old.core ≡ None
  claim_past past = ap (λ s. net.claims slot s old.core) (slot_past worker.slots.items slot past)

  pub serve_past : length worker.slots.items ≤ slot → net.becomes (net.Serves slot) old.core ≡ None
  serve_past past = ap (λ s. net.serves slot s old.core) (slot_past worker.slots.items slot past)

  module _ (slots : Vec Slot Global) where
    pub claim_done : Claims worker.slots.items slots.items slot true →
        net.becomes (net.Claims slot) old.core ≡ Some (Sits (record worker { slots = slots })).core
    claim_done claims =
        ap (λ s. net.claims slot s old.core) claims.1
        ∙ ap (λ (f : ℕ → net.Slot (List ℕ)). Some (record old.core { slots = f })) (sym claims.2.slots)

    pub claim_stands : Claims worker.slots.items slots.items slot true → AreWithin part.pages slots.items →
        Stands rules part driver (record worker { slots = slots })
    claim_stands claims named =
        moved rules part driver worker stands worker.frames slots worker.pages refl claims.2.count (claims.2.long (page_bytes rules.wire_bytes part) stands.worker_is.long) named refl

    pub claim_refused : Claims worker.slots.items slots.items slot false →
        (net.becomes (net.Claims slot) old.core ≡ None) × (Sits (record worker { slots = slots }) ≡ old)
    claim_refused claims = (
      claims_none slot (in_slots worker.slots.items slot) old.core claims.0,
      ap (λ (l : List Slot). record old { core = record old.core { slots = in_slots l } }) claims.1,
    )

  module _ (slots : Vec Slot Global) (pages : Vec (Vec ℕ Global) Global) where
    pub serve_done : Serves worker.slots.items slots.items slot (contents worker.pages.items) (contents pages.items) true →
        net.becomes (net.Serves slot) old.core ≡ Some (Sits (record worker { slots = slots; pages = pages })).core
    serve_done serves =
        let gone = serves.2 (cleared rules part.limits.page) in
        ap (λ s. net.serves slot s old.core) serves.1
        ∙ ap₂ (λ (f : ℕ → net.Slot (List ℕ)) (g : ℕ → List ℕ). Some (record old.core { slots = f; pages = g })) (sym gone.0.slots) (sym gone.1)

    pub serve_stands : Serves worker.slots.items slots.items slot (contents worker.pages.items) (contents pages.items) true → AreWithin part.pages slots.items →
        Stands rules part driver (record worker { slots = slots; pages = pages })
    serve_stands serves named =
        let gone = serves.2 (cleared rules part.limits.page) in
        moved rules part driver worker stands worker.frames slots pages refl gone.0.count (gone.0.long (page_bytes rules.wire_bytes part) stands.worker_is.long) named serves.3

    pub serve_refused : Serves worker.slots.items slots.items slot (contents worker.pages.items) (contents pages.items) false →
        (net.becomes (net.Serves slot) old.core ≡ None) × (Sits (record worker { slots = slots; pages = pages }) ≡ old)
    serve_refused serves = (
      serves_none slot (in_slots worker.slots.items slot) old.core serves.0,
      ap₂ (λ (l : List Slot) (p : List (List ℕ)). record old { core = record old.core { slots = in_slots l; pages = page_at (cleared rules part.limits.page) p } }) serves.1 serves.2,
    )
