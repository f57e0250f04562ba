-- Workers that are determined: what one does next is a function of its state.
use Rattle.std.specs.Prelude.{ℕ, zero, suc, List, [], ◌∷◌, ◌++◌, Option, None, Some, if◌then◌else◌, length, slice_get, nat_eq}

-- What a worker does next, and its state after it: it says some things, which may be none; it
-- sends a wire to a worker; it takes the oldest wire of those that a worker sent; or it has
-- stopped for good.
pub data Act (S L W : Type 0) : Type 0 where
  Moves : (said : List L) (after : S) → Act S L W
  Sends : (target : ℕ) (wire : W) (after : S) → Act S L W
  Takes : (source : ℕ) (after : W → S) → Act S L W
  Stops : Act S L W

-- what a worker did
pub data Deed (L W : Type 0) : Type 0 where
  Moved : (said : List L) → Deed L W
  Sent : (target : ℕ) (wire : W) → Deed L W
  Took : (source : ℕ) (wire : W) → Deed L W

-- a worker: where it stands, and all that it did, the newest deed first
pub record Worker (S L W : Type 0) : Type 0 where
  pub state : S
  pub past : List (Deed L W)

-- what was said in a past, in order
abbrev pub said_in : {L W : Type 0} → List (Deed L W) → List L
said_in [] = []
said_in (Moved said ∷ past) = said_in past ++ said
said_in (Sent target wire ∷ past) = said_in past
said_in (Took source wire ∷ past) = said_in past

-- the wires that were sent to a worker, in order
abbrev pub sent_to : {L W : Type 0} → ℕ → List (Deed L W) → List W
sent_to worker [] = []
sent_to worker (Moved said ∷ past) = sent_to worker past
sent_to worker (Sent target wire ∷ past) =
    if nat_eq target worker then sent_to worker past ++ wire ∷ [] else sent_to worker past
sent_to worker (Took source wire ∷ past) = sent_to worker past

-- the wires that were taken from a worker, in order
abbrev pub taken_from : {L W : Type 0} → ℕ → List (Deed L W) → List W
taken_from worker [] = []
taken_from worker (Moved said ∷ past) = taken_from worker past
taken_from worker (Sent target wire ∷ past) = taken_from worker past
taken_from worker (Took source wire ∷ past) =
    if nat_eq source worker then taken_from worker past ++ wire ∷ [] else taken_from worker past

-- a worker that has done nothing
abbrev pub fresh : {S L W : Type 0} → S → Worker S L W
fresh start = record { state = start; past = [] }

-- the worker does one thing more, and is then in this state
abbrev pub doing : {S L W : Type 0} → Worker S L W → Deed L W → S → Worker S L W
doing worker deed after = record { state = after; past = deed ∷ worker.past }

-- a worker that takes a wire, if there is one
abbrev pub taking : {S L W : Type 0} → Worker S L W → ℕ → (W → S) → Option W → Worker S L W
taking worker source after None = worker
taking worker source after (Some wire) = doing worker (Took source wire) (after wire)

-- One turn of a worker alone. What it takes from a worker is the next of those that it receives
-- from it, if there is one; else it stays where it is.
abbrev pub goes_alone : {S L W : Type 0} → (received : ℕ → List W) → Act S L W →
    Worker S L W → Worker S L W
goes_alone received (Moves said after) worker = doing worker (Moved said) after
goes_alone received (Sends target wire after) worker = doing worker (Sent target wire) after
goes_alone received (Takes source after) worker =
    taking worker source after
    (slice_get (received source) (length (taken_from source worker.past)))
goes_alone received Stops worker = worker

abbrev pub alone : {S L W : Type 0} → (S → Act S L W) → (received : ℕ → List W) →
    Worker S L W → Worker S L W
alone next received worker = goes_alone received (next worker.state) worker

-- the own run of a worker: some turns of it alone, from a state, over what it receives
abbrev pub own_run : {S L W : Type 0} → (S → Act S L W) → S → (received : ℕ → List W) →
    (turns : ℕ) → Worker S L W
own_run next start received zero = fresh start
own_run next start received (suc turns) = alone next received (own_run next start received turns)
