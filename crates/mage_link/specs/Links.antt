-- What a port of links tells, and what its calls ask for and leave.
use Rattle.std.specs.Prelude.{◌≡◌, ◌≢◌, ◌<◌, ◌+◌, ℕ, List, [], length, Bool, IsTrue, Option, None, Some, IfSome, Result, Ok, Err}
use Rattle.mage_base.specs.Faults.{next_count}
use Rattle.mage_network.specs.Network.{put_link, appended}
use Rattle.mage_link.specs.declared.wire.Wire16.{Wire16}

-- For a worker that sends and one that receives, some wires, the oldest first. A wire is its bytes.
abbrev pub Wires : Type 0
Wires = (source target : ℕ) → List (List ℕ)

-- What passes between a call that sends and the one that receives isn't told: a port may be one end
-- of its links, and then sees the wires that it sent and received itself, and no others.
pub record LinkTold : Type 0 where
  -- how many workers there are, and which of them may be `me`: no call changes these
  pub workers : ℕ
  pub may_be_me : ℕ → Bool
  -- what was sent and received on each link by this port since it was made
  pub sent : Wires
  pub received : Wires
  -- how often an answer was that a link is full, or that none of its wires is there
  pub waits : ℕ
  -- how many wires a link holds at most, where every wire of each link passes through this port; no
  -- call changes it
  pub room : Option ℕ

-- a worker may use a link with another one, by sending or by receiving
pub record CanUse (port : LinkTold) (me other : ℕ) : Type 0 where
  pub within : me < port.workers
  pub other_within : other < port.workers
  pub allowed : IsTrue (port.may_be_me me)
  pub apart : me ≢ other

-- the port serves so many workers, and each of them may be `me`
pub record ServesAll (port : LinkTold) (workers : ℕ) : Type 0 where
  pub workers_are : port.workers ≡ workers
  pub all : (me : ℕ) → me < workers → IsTrue (port.may_be_me me)

-- nothing was sent or received yet
pub record IsUnused (port : LinkTold) : Type 0 where
  pub sent : (source target : ℕ) → port.sent source target ≡ []
  pub received : (source target : ℕ) → port.received source target ≡ []

-- one wire more of those of a link
abbrev pub with_wire : Wires → (source target : ℕ) → (wire : List ℕ) → Wires
with_wire wires source target wire =
    put_link wires source target (appended (wires source target) wire)

abbrev pub after_send : LinkTold → (me to : ℕ) → (wire : List ℕ) → LinkTold
after_send port me to wire = record port { sent = with_wire port.sent me to wire }

abbrev pub after_receive : LinkTold → (me from : ℕ) → (wire : List ℕ) → LinkTold
after_receive port me from wire = record port { received = with_wire port.received from me wire }

-- after an answer that changes nothing and is counted
abbrev pub after_wait : LinkTold → LinkTold
after_wait port = record port { waits = next_count port.waits }

-- where the port has all of the wires: this link holds as many as it has room for
abbrev pub IsFull : LinkTold → (source target : ℕ) → Type 0
IsFull port source target = IfSome port.room
    (λ room. length (port.sent source target) ≡ length (port.received source target) + room)

-- the same of a link that holds none
abbrev pub IsDrained : LinkTold → (source target : ℕ) → Type 0
IsDrained port source target =
    IfSome port.room (λ room. port.sent source target ≡ port.received source target)

-- What an answer of `try_send` leaves: the wire was sent, or the link was full and nothing was.
abbrev pub Sends : {T E : Type 0} → (before after : LinkTold) → (me to : ℕ) → (wire : List ℕ) →
    Result T E → Type 0
Sends before after me to wire (Ok _) = after ≡ after_send before me to wire
Sends before after me to wire (Err _) = (after ≡ after_wait before) × IsFull before me to

-- What an answer of `try_recv` leaves: this wire was received, or the link was empty and none was.
abbrev pub Receives : (before after : LinkTold) → (me from : ℕ) → Option Wire16 → Type 0
Receives before after me from (Some wire) = after ≡ after_receive before me from wire.bytes
Receives before after me from None = (after ≡ after_wait before) × IsDrained before from me
