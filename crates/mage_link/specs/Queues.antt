-- Links that are queues on one thread: the wires that lie in each.
use Rattle.std.specs.Prelude.{◌≡◌, ◌<◌, ◌++◌, ◌∷◌, ℕ, List, [], length, get_or, set, replicate, true, Option, None, Some, Result, Ok, Err}
use Rattle.mage_base.specs.Faults.{next_count}
use Rattle.mage_network.specs.Network.{appended}
use Rattle.mage_link.specs.declared.wire.Wire16.{Wire16}
use Rattle.mage_link.specs.Links.{LinkTold}

-- what was received from a link, and what lies in it, the oldest wire first
pub record LinkState : Type 0 where
  pub received : List (List ℕ)
  pub lying : List (List ℕ)

pub record QueueState : Type 0 where
  -- how many workers there are, and how many wires a link holds at most
  pub workers : ℕ
  pub capacity : ℕ
  -- the links, by who sends and then by who receives
  pub links : List (List LinkState)
  -- how often an answer was that a link is full, or that it is empty
  pub waits : ℕ

-- ---- places in rows

abbrev pub place_at : {X : Type 0} → (none : X) → List (List X) → (row place : ℕ) → X
place_at none rows row place = get_or (get_or rows row []) place none

abbrev pub with_place : {X : Type 0} → List (List X) → (row place : ℕ) → X → List (List X)
with_place rows row place x = set rows row (set (get_or rows row []) place x)

-- there is such a place
pub record HasPlace {X : Type 0} (rows : List (List X)) (row place : ℕ) : Type 0 where
  pub within : row < length rows
  pub inside : place < length (get_or rows row [])

-- ---- the queues

abbrev pub unused_link : LinkState
unused_link = record { received = []; lying = [] }

abbrev pub new_queues : (workers capacity : ℕ) → QueueState
new_queues workers capacity = record {
  workers = workers;
  capacity = capacity;
  links = replicate workers (replicate workers unused_link);
  waits = 0;
}

-- the link from one worker to another
abbrev pub link_at : QueueState → (source target : ℕ) → LinkState
link_at queues source target = place_at unused_link queues.links source target

abbrev pub with_link : QueueState → (source target : ℕ) → LinkState → QueueState
with_link queues source target link =
    record queues { links = with_place queues.links source target link }

-- the wires that lie in a link
abbrev pub lies_in : QueueState → (source target : ℕ) → List (List ℕ)
lies_in queues source target = (link_at queues source target).lying

abbrev pub received_from : QueueState → (source target : ℕ) → List (List ℕ)
received_from queues source target = (link_at queues source target).received

-- What the port tells. What was sent on a link was received from it, or still lies in it.
abbrev pub queue_told : QueueState → LinkTold
queue_told queues = record {
  workers = queues.workers;
  may_be_me = λ me. true;
  sent = λ source target. received_from queues source target ++ lies_in queues source target;
  received = received_from queues;
  waits = queues.waits;
  room = Some queues.capacity;
}

-- ---- calls

-- a link with a wire at its end
abbrev pub link_with : LinkState → (wire : List ℕ) → LinkState
link_with link wire = record link { lying = appended link.lying wire }

-- a link from which this wire was received, and in which these still lie
abbrev pub link_without : LinkState → (wire : List ℕ) → (left : List (List ℕ)) → LinkState
link_without link wire left = record { received = appended link.received wire; lying = left }

-- the queues once a wire was sent
abbrev pub queues_with : QueueState → (source target : ℕ) → (wire : List ℕ) → QueueState
queues_with queues source target wire =
    with_link queues source target (link_with (link_at queues source target) wire)

-- the queues once a wire was received, in whose link these still lie
abbrev pub queues_without : QueueState → (source target : ℕ) → (wire : List ℕ) →
    (left : List (List ℕ)) → QueueState
queues_without queues source target wire left =
    with_link queues source target (link_without (link_at queues source target) wire left)

-- the queues after an answer that changes nothing and is counted
abbrev pub queues_waiting : QueueState → QueueState
queues_waiting queues = record queues { waits = next_count queues.waits }

-- What an answer of `try_send` leaves: the wire lies at the end of its link, or nothing changed.
abbrev pub Appends : {T E : Type 0} → (before after : QueueState) → (me to : ℕ) →
    (wire : List ℕ) → Result T E → Type 0
Appends before after me to wire (Ok _) = after ≡ queues_with before me to wire
Appends before after me to wire (Err _) = after ≡ queues_waiting before

-- What an answer of `try_recv` leaves: the wire lay in front of those that are left in its link, or
-- nothing changed.
abbrev pub TakesFirst : (before after : QueueState) → (me from : ℕ) → Option Wire16 → Type 0
TakesFirst before after me from (Some wire) =
    (left : List (List ℕ))
    × (lies_in before from me ≡ wire.bytes ∷ left)
    × (after ≡ queues_without before from me wire.bytes left)
TakesFirst before after me from None = after ≡ queues_waiting before
