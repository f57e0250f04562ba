-- What code that keeps no past has to know.
use Rattle.std.proofs.Common.{◌≡◌, ℕ, Bool, true, false, cond, eqb, List, [], ◌∷◌, ◌++◌, refl, sym, ap, ◌∙◌, subst}
use Rattle.mage_network.specs.Workers.{Act, Moves, Sends, Takes, Stops, Moved, Sent, Took, Worker, said_in, sent_to, taken_from}
use Rattle.mage_network.specs.Pasts.{Allows, IsPrefix, IsAlong}
use Rattle.mage_network.specs.Network.{put, appended}
use Rattle.mage_network.specs.Together.{Joint, together}
use Rattle.mage_network.specs.Laws.{WentApart, Begins, AreAlong, IsAll, BeginsAlong}
use Rattle.mage_network.proofs.Meeting.{runs_begin}
use Rattle.std.proofs.lemmas.Bool.{eqb-true}

pub along_start : {S L W : Type 0} (next : S → Act S L W) (start : S) → IsAlong next start start []
    (λ m. []) (λ m. [])
along_start next start = record {
  past = [];
  leads = refl;
  says = refl;
  takes = λ m. refl;
  sends =
      λ m. refl;
}

-- one wire more at one place
appends_at : {W : Type 0} (n : ℕ) (old : ℕ → List W) (m : ℕ) (wire : W) (before : List W) →
    before ≡ old m → cond (eqb n m) (before ++ wire ∷ []) before ≡ put old n (appended (old n) wire)
    m
appends_at {W} n old m wire before e = go (eqb n m) refl
  where
    go : (b : Bool) → eqb n m ≡ b → cond b (before ++ wire ∷ []) before ≡ cond b
        (appended (old n) wire) (old m)
    go true d = ap (λ l. l ++ wire ∷ []) (e ∙ ap old (sym (eqb-true n m d)))
    go false d = e

pub along_moved : {S L W : Type 0} (next : S → Act S L W) (start state after : S) (said x : List L)
    (taken sent : ℕ → List W) →
    next state ≡ Moves x after → IsAlong next start state said taken sent → IsAlong next start after
    (said ++ x) taken sent
along_moved next start state after said x taken sent e h = record {
  past = Moved x ∷ h.past;
  leads = (state, h.leads, subst (λ a. Allows a (Moved x) after) (sym e) (refl, refl));
  says = ap (λ l. l ++ x) h.says;
  takes = h.takes;
  sends = h.sends;
}

pub along_sends : {S L W : Type 0} (next : S → Act S L W) (start state after : S) (said : List L)
    (taken sent : ℕ → List W) (target : ℕ) (wire : W) →
    next state ≡ Sends target wire after → IsAlong next start state said taken sent →
    IsAlong next start after said taken (put sent target (appended (sent target) wire))
along_sends next start state after said taken sent target wire e h = record {
  past = Sent target wire ∷ h.past;
  leads = (
    state,
    h.leads,
    subst (λ a. Allows a (Sent target wire) after) (sym e)
        (refl, refl, refl),
  );
  says = h.says;
  takes = h.takes;
  sends = λ m. appends_at target sent m wire (sent_to m h.past) (h.sends m);
}

pub along_takes : {S L W : Type 0} (next : S → Act S L W) (start state : S) (after : W → S)
    (said : List L) (taken sent : ℕ → List W) (source : ℕ) (wire : W) →
    next state ≡ Takes source after → IsAlong next start state said taken sent →
    IsAlong next start (after wire) said (put taken source (appended (taken source) wire)) sent
along_takes next start state after said taken sent source wire e h = record {
  past = Took source wire ∷ h.past;
  leads = (
    state,
    h.leads,
    subst (λ a. Allows a (Took source wire) (after wire)) (sym e)
        (refl, refl),
  );
  says = h.says;
  takes = λ m. appends_at source taken m wire (taken_from m h.past) (h.takes m);
  sends = h.sends;
}

-- what it said and sent begins what is said and sent in the joint run
pub along_begins : {S L W : Type 0} (next : ℕ → S → Act S L W) (starts states : ℕ → S)
    (said : ℕ → List L) (taken sent : ℕ → ℕ → List W) (turns : List Joint) →
    AreAlong next starts states said taken sent → (n : ℕ) →
    next n (together next starts turns n).state ≡ Stops →
    BeginsAlong (next n) (together next starts turns n) (states n) (said n) (sent n)
along_begins {S} {L} {W} next starts states said taken sent turns h n stops = record {
  says = subst (λ l. IsPrefix l (said_in whole.past)) (h.along n).says begins.prefixes.said;
  sends = λ m. subst (λ l. IsPrefix l (sent_to m whole.past)) ((h.along n).sends m)
      (begins.prefixes.sent m);
  done = λ e. all (begins.done e);
}
  where
    workers : ℕ → Worker S L W
    workers n = record { state = states n; past = (h.along n).past }

    whole : Worker S L W
    whole = together next starts turns n

    apart : WentApart next starts workers
    apart = record {
      alone = λ n. (h.along n).leads;
      received = λ n m. subst (λ l. IsPrefix l (sent_to m (h.along n).past))
          (sym ((h.along m).takes n)) (subst (λ l. IsPrefix (taken m n) l)
          (sym ((h.along n).sends m)) (h.received n m));
    }

    begins : Begins (next n) (workers n) whole
    begins = runs_begin next starts workers turns apart n stops

    all : workers n ≡ whole → IsAll whole (states n) (said n) (sent n)
    all e = record {
      stands = ap (λ w. w.state) e;
      says = sym (h.along n).says ∙ ap (λ w. said_in w.past) e;
      sends = λ m. sym ((h.along n).sends m) ∙ ap (λ w. sent_to m w.past) e;
    }
