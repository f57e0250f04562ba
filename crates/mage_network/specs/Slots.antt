-- Workers that move pages between their engine and a store, over slots with transfers in flight.
-- What pages hold, and what the engine is, is left open.
use Rattle.std.specs.Prelude.{◌≡◌, ◌≢◌, ℕ, List, [], Option, None, Some}
use Rattle.mage_network.specs.Workers.{Act, Moves, Sends, Takes, Stops, Deed}
use Rattle.mage_network.specs.Pasts.{Leads}
use Rattle.mage_network.specs.Network.{put}
use Rattle.mage_network.specs.Waiting.{Waiting}

-- a transfer: the bytes of a page come to the engine, or these bytes go to the page
pub data Transfer (B : Type 0) : Type 0 where
  Reads : (page : ℕ) → Transfer B
  Writes : (page : ℕ) (bytes : B) → Transfer B

-- What a slot has: nothing; a transfer that is asked; one that somebody has claimed, to serve it;
-- or one that is served, with the bytes that went over.
pub data Slot (B : Type 0) : Type 0 where
  Idle : Slot B
  Asked : Transfer B → Slot B
  Busy : Transfer B → Slot B
  Served : Transfer B → B → Slot B

-- a worker: its engine, its slots, and what its pages hold
pub record Paged (Eng B : Type 0) : Type 0 where
  pub engine : Eng
  pub slots : ℕ → Slot B
  pub pages : ℕ → B

-- What an engine does next: an act of its own; it asks a slot for a transfer; or it finishes a
-- slot's read, whose bytes it gets, or its write.
pub data Doing (Eng L W B : Type 0) : Type 0 where
  Acts : Act Eng L W → Doing Eng L W B
  Asks : (slot : ℕ) → Transfer B → (after : Eng) → Doing Eng L W B
  Finishes_read : (slot : ℕ) → (after : B → Eng) → Doing Eng L W B
  Finishes_write : (slot : ℕ) → (after : Eng) → Doing Eng L W B

-- what others do silently
pub data Service : Type 0 where
  Claims : (slot : ℕ) → Service
  Serves : (slot : ℕ) → Service

-- nothing is in flight
abbrev pub idle : {Eng B : Type 0} → Eng → (ℕ → B) → Paged Eng B
idle engine pages = record { engine = engine; slots = λ slot. Idle; pages = pages }

abbrev pub page_of : {B : Type 0} → Transfer B → ℕ
page_of (Reads page) = page
page_of (Writes page bytes) = page

-- the bytes that go over
abbrev pub bytes_of : {B : Type 0} → Transfer B → (ℕ → B) → B
bytes_of (Reads page) pages = pages page
bytes_of (Writes page bytes) pages = bytes

-- the pages after the transfer
abbrev pub pages_after : {B : Type 0} → Transfer B → (ℕ → B) → ℕ → B
pages_after (Reads page) pages = pages
pages_after (Writes page bytes) pages = put pages page bytes

-- an ask makes a slot asked
abbrev pub asked : {Eng B : Type 0} → (slot : ℕ) → Transfer B → (after : Eng) → Paged Eng B →
    Paged Eng B
asked slot transfer after worker = record {
  engine = after;
  slots = put worker.slots slot (Asked transfer);
  pages = worker.pages;
}

-- a transfer is served: its bytes go over
abbrev pub served : {Eng B : Type 0} → (slot : ℕ) → Transfer B → Paged Eng B → Paged Eng B
served slot transfer worker = record {
  engine = worker.engine;
  slots = put worker.slots slot (Served transfer (bytes_of transfer worker.pages));
  pages = pages_after transfer worker.pages;
}

-- what an ask means: the transfer is served at once, so that its bytes are fixed
abbrev pub served_at_once : {Eng B : Type 0} → (slot : ℕ) → Transfer B → (after : Eng) →
    Paged Eng B → Paged Eng B
served_at_once slot transfer after worker = served slot transfer (record worker { engine = after })

-- a finish leaves the slot idle
abbrev pub finished : {Eng B : Type 0} → (slot : ℕ) → (after : Eng) → Paged Eng B → Paged Eng B
finished slot after worker = record {
  engine = after;
  slots = put worker.slots slot Idle;
  pages = worker.pages;
}

-- the act of an engine, as that of its worker
abbrev pub act_of : {Eng L W B : Type 0} → Act Eng L W → Paged Eng B → Act (Paged Eng B) L W
act_of (Moves said after) worker = Moves said (record worker { engine = after })
act_of (Sends target wire after) worker = Sends target wire (record worker { engine = after })
act_of (Takes source after) worker = Takes source (λ wire. record worker { engine = after wire })
act_of Stops worker = Stops

-- where the slot is idle, an ask goes on, and `left` is what it leaves
abbrev pub asks_of : {Eng L W B : Type 0} → Slot B → (left : Paged Eng B) →
    Option (Act (Paged Eng B) L W)
asks_of Idle left = Some (Moves [] left)
asks_of _ left = None

abbrev pub finishes_read : {Eng L W B : Type 0} → Slot B → (slot : ℕ) → (after : B → Eng) →
    Paged Eng B → Option (Act (Paged Eng B) L W)
finishes_read (Served (Reads page) bytes) slot after worker =
    Some (Moves [] (finished slot (after bytes) worker))
finishes_read _ slot after worker = None

abbrev pub finishes_write : {Eng L W B : Type 0} → Slot B → (slot : ℕ) → (after : Eng) →
    Paged Eng B → Option (Act (Paged Eng B) L W)
finishes_write (Served (Writes page bytes) same) slot after worker =
    Some (Moves [] (finished slot after worker))
finishes_write _ slot after worker = None

-- The act of a worker whose engine does this, or none where the slot isn't ready for it. What an
-- ask leaves is given.
abbrev pub act_in : {Eng L W B : Type 0} →
    (ask : ℕ → Transfer B → Eng → Paged Eng B → Paged Eng B) →
    Doing Eng L W B → Paged Eng B → Option (Act (Paged Eng B) L W)
act_in ask (Acts act) worker = Some (act_of act worker)
act_in ask (Asks slot transfer after) worker =
    asks_of (worker.slots slot) (ask slot transfer after worker)
act_in ask (Finishes_read slot after) worker =
    finishes_read (worker.slots slot) slot after worker
act_in ask (Finishes_write slot after) worker =
    finishes_write (worker.slots slot) slot after worker

abbrev pub or_stops : {S L W : Type 0} → Option (Act S L W) → Act S L W
or_stops None = Stops
or_stops (Some act) = act

-- the slot's word after a claim, where it is asked
abbrev pub claims : {Eng B : Type 0} → (slot : ℕ) → Slot B → Paged Eng B → Option (Paged Eng B)
claims slot (Asked transfer) worker =
    Some (record worker { slots = put worker.slots slot (Busy transfer) })
claims slot _ worker = None

-- the worker after a transfer is served, where it is claimed
abbrev pub serves : {Eng B : Type 0} → (slot : ℕ) → Slot B → Paged Eng B → Option (Paged Eng B)
serves slot (Busy transfer) worker = Some (served slot transfer worker)
serves slot _ worker = None

abbrev pub becomes : {Eng B : Type 0} → Service → Paged Eng B → Option (Paged Eng B)
becomes (Claims slot) worker = claims slot (worker.slots slot) worker
becomes (Serves slot) worker = serves slot (worker.slots slot) worker

-- the real workers: transfers are asked, claimed and served, in whatever order others serve them
abbrev pub over_slots : {Eng L W B : Type 0} → (ℕ → Eng → Doing Eng L W B) →
    Waiting (Paged Eng B) Service L W
over_slots engine = record {
  act = λ n worker. act_in asked (engine n worker.engine) worker;
  becomes = λ n service worker. becomes service worker;
}

-- what they mean: each transfer is asked, claimed and served at once; where a slot isn't ready for
-- what the engine does, the worker stops
abbrev pub at_once : {Eng L W B : Type 0} → (ℕ → Eng → Doing Eng L W B) → ℕ → Paged Eng B →
    Act (Paged Eng B) L W
at_once engine n worker = or_stops (act_in served_at_once (engine n worker.engine) worker)

-- the page that a slot was asked for
abbrev pub in_flight : {B : Type 0} → Slot B → Option ℕ
in_flight Idle = None
in_flight (Asked transfer) = Some (page_of transfer)
in_flight (Busy transfer) = Some (page_of transfer)
in_flight (Served transfer bytes) = Some (page_of transfer)

-- an engine that asks asks for a page that no slot was asked for
abbrev pub AsksFreePage : {Eng L W B : Type 0} → Doing Eng L W B → (ℕ → Slot B) → Type 0
AsksFreePage (Asks slot transfer after) slots =
    (i : ℕ) → in_flight (slots i) ≢ Some (page_of transfer)
AsksFreePage _ slots = Unit {0}

-- on no own run, whatever wires it takes, does a worker ask for a page that is in flight
abbrev pub NeverAsksTwice : {Eng L W B : Type 0} → (ℕ → Eng → Doing Eng L W B) →
    (starts : ℕ → Paged Eng B) → Type 0
NeverAsksTwice {Eng} {L} {W} {B} engine starts =
    (n : ℕ) (past : List (Deed L W)) (worker : Paged Eng B) →
    Leads (at_once engine n) (starts n) past worker →
    AsksFreePage (engine n worker.engine) worker.slots

-- what a transfer that isn't served yet is to bring, against the real pages and the meant ones
abbrev pub IsPending : {B : Type 0} → (real meant : ℕ → B) → Transfer B → B → Type 0
IsPending real meant (Reads page) bytes = real page ≡ bytes
IsPending real meant (Writes page sent) bytes = (sent ≡ bytes) × (meant page ≡ bytes)

-- a slot's word, against the meant one, which is idle or served
abbrev pub SlotMeans : {B : Type 0} → (real meant : ℕ → B) → Slot B → Slot B → Type 0
SlotMeans real meant Idle Idle = Unit {0}
SlotMeans real meant (Asked transfer) (Served same bytes) =
    (transfer ≡ same) × IsPending real meant transfer bytes
SlotMeans real meant (Busy transfer) (Served same bytes) =
    (transfer ≡ same) × IsPending real meant transfer bytes
SlotMeans real meant (Served transfer bytes) (Served same again) =
    (transfer ≡ same) × (bytes ≡ again)
SlotMeans real meant _ _ = ⊥

-- the page that a slot's write still has to change
abbrev pub to_be_written : {B : Type 0} → Slot B → Option ℕ
to_be_written (Asked (Writes page bytes)) = Some page
to_be_written (Busy (Writes page bytes)) = Some page
to_be_written _ = None

-- A real worker and its meaning: the engines are the same; so are the pages, but for those that a
-- slot has still to write; each slot means what it has; and no page is in flight in two slots.
pub record PagesMean {Eng B : Type 0} (real meant : Paged Eng B) : Type 0 where
  pub engines : real.engine ≡ meant.engine
  pub each : (i : ℕ) → SlotMeans real.pages meant.pages (real.slots i) (meant.slots i)
  pub others : (page : ℕ) → ((i : ℕ) → to_be_written (real.slots i) ≢ Some page) →
      real.pages page ≡ meant.pages page
  pub differ : (i j page : ℕ) → in_flight (real.slots i) ≡ Some page →
      in_flight (real.slots j) ≡ Some page → i ≡ j

-- A real worker is tied to a meaning that an own run reaches.
pub record IsServed {Eng L W B : Type 0} (engine : ℕ → Eng → Doing Eng L W B)
    (starts : ℕ → Paged Eng B) (n : ℕ) (real meant : Paged Eng B) : Type 0 where
  pub means : PagesMean real meant
  pub past : List (Deed L W)
  pub leads : Leads (at_once engine n) (starts n) past meant
