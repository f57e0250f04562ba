-- The links as the code keeps them: a row for each worker that sends, with a link to each worker.
use Rattle.std.specs.Prelude.{◌≡◌, ◌<◌, ◌≤◌, ◌++◌, ◌∷◌, ℕ, List, [], Vec, length, map, get_or, Option, None, Some, Result, Ok, Err}
use Rattle.std.specs.List.{All}
use Rattle.std.specs.declared.alloc.Global.{Global}
use Rattle.circular_buffer.specs.Buffer.{buffer}
use Rattle.mage_link.specs.declared.wire.Wire16.{Wire16}
use Rattle.mage_link.specs.declared.link.Link.{Link}
use Rattle.mage_link.specs.Queues.{LinkState, QueueState, place_at, with_place}

abbrev pub rows_of : Vec (Vec Link Global) Global → List (List Link)
rows_of links = map (λ row. row.items) links.items

-- what a clause sees of a link
abbrev pub state_of : Link → LinkState
state_of link = record {
  received = link.received.wires;
  lying = map (λ wire. wire.bytes) link.queue.items;
}

abbrev pub states_of : List (List Link) → List (List LinkState)
states_of rows = map (map state_of) rows

-- and of all of them
abbrev pub queues_of : (workers capacity : ℕ) → List (List Link) → (waits : ℕ) → QueueState
queues_of workers capacity rows waits = record {
  workers = workers;
  capacity = capacity;
  links = states_of rows;
  waits = waits;
}

-- a link with room for so many wires, which wasn't used yet
abbrev pub new_link : (capacity : ℕ) → Link
new_link capacity = record {
  queue = buffer [] capacity;
  received = record { marker = record {}; wires = [] };
}

abbrev pub link_in : List (List Link) → (source target : ℕ) → Link
link_in rows source target = place_at (new_link 0) rows source target

-- there is such a link
pub record HasLink (rows : List (List Link)) (source target : ℕ) : Type 0 where
  pub row : source < length rows
  pub place : target < length (get_or rows source [])

-- a link has room for just so many wires
pub record HasRoom (capacity : ℕ) (link : Link) : Type 0 where
  pub capacity_is : link.queue.capacity ≡ capacity
  pub within : length link.queue.items ≤ capacity

-- there is a link from each worker to each, and all have room for so many wires
pub record AreLinks (workers capacity : ℕ) (rows : List (List Link)) : Type 0 where
  pub count : length rows ≡ workers
  pub counts : All (λ row. length row ≡ workers) rows
  pub room : All (All (HasRoom capacity)) rows

-- ---- calls

-- a link with a wire at the end of its queue
abbrev pub link_pushed : Link → Wire16 → Link
link_pushed link wire =
    record link { queue = buffer (link.queue.items ++ wire ∷ []) link.queue.capacity }

-- a link from which a wire was taken, with these left
abbrev pub link_popped : Link → Wire16 → (left : List Wire16) → Link
link_popped link wire left = record {
  queue = buffer left link.queue.capacity;
  received = record link.received { wires = link.received.wires ++ wire.bytes ∷ [] };
}

abbrev pub Pushes : {T E : Type 0} → (before after : List (List Link)) → (source target : ℕ) →
    Wire16 → Result T E → Type 0
Pushes before after source target wire (Ok _) =
    after ≡ with_place before source target (link_pushed (link_in before source target) wire)
Pushes before after source target wire (Err _) = after ≡ before

abbrev pub Pops : (before after : List (List Link)) → (source target : ℕ) → Option Wire16 → Type 0
Pops before after source target (Some wire) =
    (left : List Wire16)
    × ((link_in before source target).queue.items ≡ wire ∷ left)
    × (after ≡ with_place before source target
    (link_popped (link_in before source target) wire left))
Pops before after source target None =
    ((link_in before source target).queue.items ≡ []) × (after ≡ before)
