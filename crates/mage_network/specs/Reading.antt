-- The same workers over slots, whose reads are answered: what pages hold has no part in them.
use Rattle.std.specs.Prelude.{ℕ, List, [], ◌∷◌, Option, None, Some}
use Rattle.mage_network.specs.Workers.{Act, Moves, Sends, Takes, Stops, Deed}
use Rattle.mage_network.specs.Pasts.{Leads}
use Rattle.mage_network.specs.Network.{put, appended}
use Rattle.mage_network.specs.Slots.{Transfer, Reads, Writes, Slot, Idle, Asked, Busy, Served, Paged, Doing, Asks, Finishes_read, Finishes_write, at_once}
use Rattle.mage_network.specs.Answers.{Hearing, Does, Hears, Answered}

-- an engine, and what each slot was asked for
pub record Flying (Eng B : Type 0) : Type 0 where
  pub engine : Eng
  pub flights : ℕ → Option (Transfer B)

abbrev pub flight_of : {B : Type 0} → Slot B → Option (Transfer B)
flight_of Idle = None
flight_of (Asked transfer) = Some transfer
flight_of (Busy transfer) = Some transfer
flight_of (Served transfer bytes) = Some transfer

-- a worker without its pages
abbrev pub flying_of : {Eng B : Type 0} → Paged Eng B → Flying Eng B
flying_of worker = record { engine = worker.engine; flights = λ i. flight_of (worker.slots i) }

abbrev pub flies : {Eng B : Type 0} → (slot : ℕ) → Option (Transfer B) → (after : Eng) →
    Flying Eng B → Flying Eng B
flies slot flight after worker =
    record { engine = after; flights = put worker.flights slot flight }

abbrev pub act_flying : {Eng L W B : Type 0} → Act Eng L W → Flying Eng B →
    Act (Flying Eng B) L W
act_flying (Moves said after) worker = Moves said (record worker { engine = after })
act_flying (Sends target wire after) worker = Sends target wire (record worker { engine = after })
act_flying (Takes source after) worker = Takes source
    (λ wire. record worker { engine = after wire })
act_flying Stops worker = Stops

abbrev pub asks_flying : {Eng L W B : Type 0} → Option (Transfer B) → (slot : ℕ) → Transfer B →
    (after : Eng) → Flying Eng B → Hearing (Flying Eng B) L W B
asks_flying None slot transfer after worker = Does
    (Moves [] (flies slot (Some transfer) after worker))
asks_flying (Some other) slot transfer after worker = Does Stops

-- the bytes of a read are the next answer of its page
abbrev pub reads_flying : {Eng L W B : Type 0} → Option (Transfer B) → (slot : ℕ) →
    (after : B → Eng) → Flying Eng B → Hearing (Flying Eng B) L W B
reads_flying (Some (Reads page)) slot after worker =
    Hears page (λ bytes. flies slot None (after bytes) worker)
reads_flying _ slot after worker = Does Stops

abbrev pub writes_flying : {Eng L W B : Type 0} → Option (Transfer B) → (slot : ℕ) →
    (after : Eng) → Flying Eng B → Hearing (Flying Eng B) L W B
writes_flying (Some (Writes page bytes)) slot after worker =
    Does (Moves [] (flies slot None after worker))
writes_flying _ slot after worker = Does Stops

abbrev pub hears_in : {Eng L W B : Type 0} → Doing Eng L W B → Flying Eng B →
    Hearing (Flying Eng B) L W B
hears_in (Doing.Acts act) worker = Does (act_flying act worker)
hears_in (Asks slot transfer after) worker =
    asks_flying (worker.flights slot) slot transfer after worker
hears_in (Finishes_read slot after) worker = reads_flying (worker.flights slot) slot after worker
hears_in (Finishes_write slot after) worker = writes_flying (worker.flights slot) slot after worker

abbrev pub hearing : {Eng L W B : Type 0} → (ℕ → Eng → Doing Eng L W B) → ℕ → Flying Eng B →
    Hearing (Flying Eng B) L W B
hearing engine n worker = hears_in (engine n worker.engine) worker

-- what is heard by then: where a read is finished, the bytes of its slot, which are those of its
-- page as last written when it was asked for
abbrev pub hears_slot : {B : Type 0} → Slot B → (ℕ → List B) → ℕ → List B
hears_slot (Served (Reads page) bytes) heard = put heard page (appended (heard page) bytes)
hears_slot _ heard = heard

abbrev pub heard_after : {Eng L W B : Type 0} → Doing Eng L W B → (ℕ → Slot B) → (ℕ → List B) →
    ℕ → List B
heard_after (Finishes_read slot after) slots heard = hears_slot (slots slot) heard
heard_after _ slots heard = heard

-- all that a run over pages reads, for each page in order
abbrev pub heard_in : {Eng L W B : Type 0} → (engine : ℕ → Eng → Doing Eng L W B) → (n : ℕ) →
    (start : Paged Eng B) → (past : List (Deed L W)) → (worker : Paged Eng B) →
    Leads (at_once engine n) start past worker → ℕ → List B
heard_in engine n start [] worker leads = λ page. []
heard_in engine n start (deed ∷ past) worker leads =
    heard_after (engine n leads.0.engine) leads.0.slots
    (heard_in engine n start past leads.0 leads.1)

-- a worker's part of an answered network
abbrev pub answered_start : {Eng B : Type 0} → Paged Eng B → (ℕ → List B) →
    Answered (Flying Eng B) B
answered_start worker answers = record { state = flying_of worker; answers = answers }
