-- Where a deed leads.
use Rattle.std.proofs.Common.{◌≡◌, ℕ, List}
use Rattle.mage_network.specs.Workers.{Moves, Sends, Takes, Deed, Moved, Sent, Took}
use Rattle.mage_network.specs.Pasts.{Allows}

-- where a move leads
pub moved : {S L W : Type 0} (said : List L) (to after : S) (deed : Deed L W) →
    Allows (Moves said to) deed after → to ≡ after
moved said to after (Moved x) h = h.1
moved said to after _ h = absurd h

pub sent : {S L W : Type 0} (target : ℕ) (wire : W) (to after : S) (deed : Deed L W) →
    Allows (Sends target wire to) deed after → to ≡ after
sent target wire to after (Sent w x) h = h.2
sent target wire to after _ h = absurd h

pub taken : {S L W : Type 0} (source : ℕ) (to : W → S) (after : S) (deed : Deed L W) →
    Allows (Takes source to) deed after → (wire : W) × (to wire ≡ after)
taken source to after (Took w x) h = (x, h.1)
taken source to after _ h = absurd h
