-- Workers that go on together: one alone, or two that hand a wire over, so that none ever waits
-- on a link.
use Rattle.std.specs.Prelude.{ℕ, List, [], ◌∷◌, ◌&&◌, if◌then◌else◌, nat_eq}
use Rattle.mage_network.specs.Workers.{Act, Moves, Sends, Takes, Moved, Sent, Took, Worker, fresh, doing}
use Rattle.mage_network.specs.Network.{put}

-- a worker goes on alone, or one hands a wire to another
pub data Joint : Type 0 where
  Alone : (number : ℕ) → Joint
  Hands : (source target : ℕ) → Joint

-- a worker that has this act goes on alone, if the act needs no other
abbrev pub moves : {S L W : Type 0} → (number : ℕ) → Act S L W → (ℕ → Worker S L W) →
    ℕ → Worker S L W
moves number (Moves said after) workers = put workers number
    (doing (workers number) (Moved said) after)
moves number _ workers = workers

-- two workers that have these acts hand a wire over, if the one sends to the other, and the other
-- takes from the one
abbrev pub hands : {S L W : Type 0} → (source target : ℕ) → (sending taking : Act S L W) →
    (ℕ → Worker S L W) → ℕ → Worker S L W
hands source target (Sends to wire sent) (Takes from took) workers =
    if nat_eq target to && nat_eq source from
    then put (put workers source (doing (workers source) (Sent target wire) sent)) target
    (doing (workers target) (Took source wire) (took wire))
    else workers
hands source target _ _ workers = workers

abbrev pub joint : {S L W : Type 0} → (ℕ → S → Act S L W) → Joint → (ℕ → Worker S L W) →
    ℕ → Worker S L W
joint next (Alone number) workers = moves number (next number (workers number).state) workers
joint next (Hands source target) workers =
    hands source target (next source (workers source).state) (next target (workers target).state)
    workers

-- the workers after some joint turns, in any order
abbrev pub joint_run : {S L W : Type 0} → (ℕ → S → Act S L W) → List Joint →
    (ℕ → Worker S L W) → ℕ → Worker S L W
joint_run next [] workers = workers
joint_run next (first ∷ turns) workers = joint_run next turns (joint next first workers)

-- the joint run from the start
abbrev pub together : {S L W : Type 0} → (ℕ → S → Act S L W) → (ℕ → S) → List Joint →
    ℕ → Worker S L W
together next starts turns = joint_run next turns (λ n. fresh (starts n))
