-- Pasts: which one leads from a state to another, and which comes before which.
use Rattle.std.specs.Prelude.{◌≡◌, ℕ, List, [], ◌∷◌, ◌++◌, ◌⊎◌}
use Rattle.mage_network.specs.Workers.{Act, Moves, Sends, Takes, Deed, Moved, Sent, Took, Worker, said_in, sent_to, taken_from}

-- the act has this deed, which leaves this state
abbrev pub Allows : {S L W : Type 0} → Act S L W → Deed L W → S → Type 0
Allows (Moves said after) (Moved x) state = (said ≡ x) × (after ≡ state)
Allows (Sends target wire after) (Sent w x) state = (target ≡ w) × (wire ≡ x) × (after ≡ state)
Allows (Takes source after) (Took w x) state = (source ≡ w) × (after x ≡ state)
Allows _ _ state = ⊥

-- The past leads from the start to the state: each deed is one that the worker's act has in the
-- state before it. Which wires it took is left open.
abbrev pub Leads : {S L W : Type 0} → (S → Act S L W) → S → List (Deed L W) → S → Type 0
Leads next start [] state = start ≡ state
Leads {S} next start (deed ∷ past) state =
    (before : S) × Leads next start past before × Allows (next before) deed state

-- the worker went some way on its own, over some wires
abbrev pub WentAlone : {S L W : Type 0} → (S → Act S L W) → S → Worker S L W → Type 0
WentAlone next start worker = Leads next start worker.past worker.state

-- the one past is an earlier state of the other, or the same
abbrev pub IsBefore : {L W : Type 0} → List (Deed L W) → List (Deed L W) → Type 0
IsBefore early [] = early ≡ []
IsBefore early (deed ∷ late) = (early ≡ deed ∷ late) ⊎ IsBefore early late

abbrev pub IsPrefix : {X : Type 0} → List X → List X → Type 0
IsPrefix {X} xs ys = (rest : List X) × (xs ++ rest ≡ ys)

-- all that is said and sent, and all that is taken, begins so
pub record BeginsSo {L W : Type 0} (early late : List (Deed L W)) : Type 0 where
  pub said : IsPrefix (said_in early) (said_in late)
  pub sent : (worker : ℕ) → IsPrefix (sent_to worker early) (sent_to worker late)
  pub taken : (worker : ℕ) → IsPrefix (taken_from worker early) (taken_from worker late)

-- one of the two pasts is an earlier state of the other, or both are the same
abbrev pub AreComparable : {L W : Type 0} → List (Deed L W) → List (Deed L W) → Type 0
AreComparable one other = IsBefore one other ⊎ IsBefore other one

-- For code that keeps no past: some past leads from the start to the state, and in it these things
-- are said, these wires taken from each worker, and these sent to each.
pub record IsAlong {S L W : Type 0} (next : S → Act S L W) (start state : S)
    (said : List L) (taken sent : ℕ → List W) : Type 0 where
  pub past : List (Deed L W)
  pub leads : Leads next start past state
  pub says : said_in past ≡ said
  pub takes : (worker : ℕ) → taken_from worker past ≡ taken worker
  pub sends : (worker : ℕ) → sent_to worker past ≡ sent worker
