-- Workers that are answered: what one hears is given beforehand, in a list of answers for each key.
use Rattle.std.specs.Prelude.{◌≡◌, ℕ, List, [], ◌∷◌, ◌++◌, Option, None, Some}
use Rattle.mage_network.specs.Workers.{Act, Moves, Sends, Takes, Stops, Worker, said_in, sent_to}
use Rattle.mage_network.specs.Pasts.{IsPrefix, IsAlong}
use Rattle.mage_network.specs.Network.{put}

-- what a worker does next: an act, or it hears the next answer of a key
pub data Hearing (S L W B : Type 0) : Type 0 where
  Does : Act S L W → Hearing S L W B
  Hears : (key : ℕ) → (after : B → S) → Hearing S L W B

-- a worker's state, and the answers that are still to come
pub record Answered (S B : Type 0) : Type 0 where
  pub state : S
  pub answers : ℕ → List B

-- an act, which leaves the answers alone
abbrev pub act_beside : {S L W B : Type 0} → Act S L W → (ℕ → List B) → Act (Answered S B) L W
act_beside (Moves said after) answers = Moves said (record { state = after; answers = answers })
act_beside (Sends target wire after) answers =
    Sends target wire (record { state = after; answers = answers })
act_beside (Takes source after) answers =
    Takes source (λ wire. record { state = after wire; answers = answers })
act_beside Stops answers = Stops

-- The next answer is heard. Past the end of the answers the worker hears the one that is given for
-- then, or stops where none is given.
abbrev pub hears : {S L W B : Type 0} → (past_end : Option B) → (key : ℕ) → (B → S) →
    (left : List B) → (ℕ → List B) → Act (Answered S B) L W
hears past_end key after (answer ∷ left) answers =
    Moves [] (record { state = after answer; answers = put answers key left })
hears (Some answer) key after [] answers =
    Moves [] (record { state = after answer; answers = answers })
hears None key after [] answers = Stops

abbrev pub act_on : {S L W B : Type 0} → (past_end : Option B) → Hearing S L W B →
    (ℕ → List B) → Act (Answered S B) L W
act_on past_end (Does act) answers = act_beside act answers
act_on past_end (Hears key after) answers = hears past_end key after (answers key) answers

abbrev pub answered : {S L W B : Type 0} → (past_end : Option B) → (S → Hearing S L W B) →
    Answered S B → Act (Answered S B) L W
answered past_end next worker = act_on past_end (next worker.state) worker.answers

-- Along its own run with what it heard: whatever answers come after these.
abbrev pub IsAlongAnswers : {S L W B : Type 0} → (S → Hearing S L W B) → (start state : S) →
    (heard : ℕ → List B) → List L → (taken sent : ℕ → List W) → Type 0
IsAlongAnswers {S} {L} {W} {B} next start state heard said taken sent = (rest : ℕ → List B) →
    IsAlong (answered None next)
    (record { state = start; answers = λ key. heard key ++ rest key })
    (record { state = state; answers = rest })
    said taken sent

-- the workers are along their own runs, over prefixes of what was sent to each, and over answers
-- that begin those that are given
pub record AreAnswered {S L W B : Type 0} (next : ℕ → S → Hearing S L W B) (starts states : ℕ → S)
    (answers heard : ℕ → ℕ → List B) (said : ℕ → List L) (taken sent : ℕ → ℕ → List W) :
    Type 0 where
  pub along : (n : ℕ) →
      IsAlongAnswers (next n) (starts n) (states n) (heard n) (said n) (taken n) (sent n)
  pub given : (n key : ℕ) → IsPrefix (heard n key) (answers n key)
  pub received : (n m : ℕ) → IsPrefix (taken m n) (sent n m)

-- all that was done, at the end
pub record IsAllAnswered {S L W B : Type 0} (whole : Worker (Answered S B) L W) (state : S)
    (said : List L) (sent : ℕ → List W) : Type 0 where
  pub stands : state ≡ whole.state.state
  pub says : said ≡ said_in whole.past
  pub sends : (m : ℕ) → sent m ≡ sent_to m whole.past

pub record BeginsAnswered {S L W B : Type 0} (next : S → Hearing S L W B)
    (whole : Worker (Answered S B) L W) (state : S) (said : List L) (sent : ℕ → List W) :
    Type 0 where
  pub says : IsPrefix said (said_in whole.past)
  pub sends : (m : ℕ) → IsPrefix (sent m) (sent_to m whole.past)
  pub done : next state ≡ Does Stops → IsAllAnswered whole state said sent
