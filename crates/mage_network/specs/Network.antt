-- A network: workers, and a link from each to each on which wires lie first in, first out. A
-- schedule is a list of workers' numbers, in any order whatever.
use Rattle.std.specs.Prelude.{ℕ, List, [], ◌∷◌, ◌++◌, Bool, true, false, ◌&&◌, if◌then◌else◌, length, nat_eq, nat_lt}
use Rattle.mage_network.specs.Workers.{Act, Moves, Sends, Takes, Stops, Moved, Sent, Took, Worker, fresh, doing}

-- links n m: the wires that lie between n, who sent them, and m, the oldest first
pub record Network (S L W : Type 0) : Type 0 where
  pub workers : ℕ → Worker S L W
  pub links : ℕ → ℕ → List W

abbrev pub put : {X : Type 0} → (ℕ → X) → ℕ → X → ℕ → X
put each place x k = if nat_eq place k then x else each k

abbrev pub put_link : {W : Type 0} → (ℕ → ℕ → List W) → (source target : ℕ) → List W →
    ℕ → ℕ → List W
put_link links source target wires n m =
    if nat_eq source n && nat_eq target m then wires else links n m

-- every worker stands at its start, and every link is empty
abbrev pub opening : {S L W : Type 0} → (ℕ → S) → Network S L W
opening starts = record { workers = λ n. fresh (starts n); links = λ n m. [] }

-- a wire at the end of a link
abbrev pub appended : {W : Type 0} → List W → W → List W
appended wires wire = wires ++ wire ∷ []

-- a send, where the link has room; else the network stays
abbrev pub sends : {S L W : Type 0} → (capacity number target : ℕ) → W → S → Network S L W →
    Network S L W
sends capacity number target wire after network =
    if nat_lt (length (network.links number target)) capacity
    then record {
      workers = put network.workers number (doing (network.workers number) (Sent target wire)
          after);
      links = put_link network.links number target (appended (network.links number target) wire);
    }
    else network

-- a take of the oldest wire of a link; where it has none the network stays
abbrev pub takes : {S L W : Type 0} → (number source : ℕ) → (W → S) → (link : List W) →
    Network S L W → Network S L W
takes number source after [] network = network
takes number source after (wire ∷ rest) network = record {
  workers = put network.workers number (doing (network.workers number) (Took source wire)
      (after wire));
  links = put_link network.links source number rest;
}

-- the turn of a worker that has this act
abbrev pub acts : {S L W : Type 0} → (capacity number : ℕ) → Act S L W → Network S L W →
    Network S L W
acts capacity number (Moves said after) network =
    record network {
      workers = put network.workers number
          (doing (network.workers number) (Moved said) after);
    }
acts capacity number (Sends target wire after) network = sends capacity number target wire after
    network
acts capacity number (Takes source after) network =
    takes number source after (network.links source number) network
acts capacity number Stops network = network

abbrev pub turn : {S L W : Type 0} → (ℕ → S → Act S L W) → (capacity number : ℕ) →
    Network S L W → Network S L W
turn next capacity number network =
    acts capacity number (next number (network.workers number).state) network

-- a whole schedule
abbrev pub run : {S L W : Type 0} → (ℕ → S → Act S L W) → (capacity : ℕ) → List ℕ →
    Network S L W → Network S L W
run next capacity [] network = network
run next capacity (number ∷ schedule) network =
    run next capacity schedule (turn next capacity number network)

-- the turn of a worker that has this act would go on
abbrev pub can_act : {S L W : Type 0} → (capacity number : ℕ) → Act S L W →
    (ℕ → ℕ → List W) → Bool
can_act capacity number (Moves said after) links = true
can_act capacity number (Sends target wire after) links = nat_lt (length (links number target))
    capacity
can_act capacity number (Takes source after) links = nat_lt 0 (length (links source number))
can_act capacity number Stops links = false

abbrev pub is_enabled : {S L W : Type 0} → (ℕ → S → Act S L W) → (capacity number : ℕ) →
    Network S L W → Bool
is_enabled next capacity number network =
    can_act capacity number (next number (network.workers number).state) network.links
