-- Real workers and what they mean: each event of the real network is a turn of the meant one, or
-- nothing.
use Rattle.std.proofs.Common.{◌≡◌, ℕ, Bool, true, false, cond, eqb, ltb, List, [], ◌∷◌, Option, None, Some, is_some, refl, sym, ap, ◌∙◌, subst, ◌⊎◌, inl, inr, length}
use Rattle.std.proofs.Math.Path.{fun_ext}
use Rattle.std.proofs.lemmas.Bool.{eqb-true}
use Rattle.mage_network.specs.Workers.{Act, Moves, Sends, Takes, Stops, Deed, Moved, Sent, Took, Worker, doing}
use Rattle.mage_network.specs.Network.{Network, put, put_link, appended, takes, acts, opening, can_act}
use Rattle.mage_network.specs.Together.{Joint, together}
use Rattle.mage_network.specs.Pasts.{AreComparable}
use Rattle.mage_network.specs.Laws.{IsCapacity, Begins}
use Rattle.mage_network.specs.Waiting.{Waiting, Event, Turn, Happens, may_act, may_become, event, events, after_events, may_go_on, SomeCanHappen, SameAct, SameOrWaits, Means, StandsAs, BeginsTied}
use Rattle.mage_network.proofs.Places.{put_each}
use Rattle.mage_network.proofs.Accounts.{Accounts, accounts_fresh, accounts_moved, accounts_sent, accounts_took}
use Rattle.mage_network.proofs.Meeting.{accounts_begin, together_meets}
use Rattle.mage_network.proofs.Stuck.{SomeCanAct, accounts_stop}

-- the same pasts with other states
abbrev pub meaning : {R S L W : Type 0} → (ℕ → S) → (ℕ → Worker R L W) → ℕ → Worker S L W
meaning meant workers n = record { state = meant n; past = (workers n).past }

-- a network of real workers, with what they mean
pub record IsMeant {R S L W : Type 0} (tied : ℕ → R → S → Type 0) (next : ℕ → S → Act S L W)
    (starts : ℕ → S) (network : Network R L W) : Type 0 where
  pub meant : ℕ → S
  pub accounts : Accounts next starts (meaning meant network.workers) network.links
  pub ties : (n : ℕ) → tied n (network.workers n).state (meant n)

-- one deed more, of a real worker and of its meaning
meaning_doing : {R S L W : Type 0} (meant : ℕ → S) (workers : ℕ → Worker R L W) (n : ℕ)
    (deed : Deed L W) (r : R) (s : S) →
    put (meaning meant workers) n (doing (meaning meant workers n) deed s) ≡ meaning (put meant n s)
    (put workers n (doing (workers n) deed r))
meaning_doing {R} {S} {L} {W} meant workers n deed r s = fun_ext (λ k. go k (eqb n k))
  where
    go : (k : ℕ) (b : Bool) → cond b (doing (meaning meant workers n) deed s)
        (meaning meant workers k) ≡ record {
          state = cond b s (meant k);
          past =
              (cond b (doing (workers n) deed r) (workers k)).past;
        }
    go k true = refl
    go k false = refl

tied_doing : {R S L W : Type 0} (tied : ℕ → R → S → Type 0) (meant : ℕ → S)
    (workers : ℕ → Worker R L W) (n : ℕ) (deed : Deed L W) (r : R) (s : S) →
    ((k : ℕ) → tied k (workers k).state (meant k)) → tied n r s → (k : ℕ) →
    tied k (put workers n (doing (workers n) deed r) k).state (put meant n s k)
tied_doing {R} {S} {L} {W} tied meant workers n deed r s old new k = go (eqb n k) refl
  where
    go : (b : Bool) → eqb n k ≡ b → tied k (cond b (doing (workers n) deed r) (workers k)).state
        (cond b s (meant k))
    go true e = subst (λ i. tied i r s) (eqb-true n k e) new
    go false e = old k

stops_same : {R S L W : Type 0} (tied : R → S → Type 0) (act : Act S L W) →
    SameAct {R = R} tied Stops act → act ≡ Stops
stops_same tied Stops h = refl
stops_same tied _ h = absurd h

module _ {R E S L W : Type 0} (tied : ℕ → R → S → Type 0) (real : Waiting R E L W)
    (next : ℕ → S → Act S L W) (real_starts : ℕ → R) (starts : ℕ → S)
    (means : Means tied real next real_starts starts) where
  -- the turn of a real worker that has this act, as its meaning has
  act_meant : (capacity : ℕ) (network : Network R L W) (n : ℕ)
      (h : IsMeant tied next starts network) (act : Act R L W) (other : Act S L W) →
      next n (h.meant n) ≡ other → SameAct (tied n) act other → IsMeant tied next starts
      (acts capacity n act network)
  act_meant capacity network n h (Moves said r) (Moves x s) e same = record {
    meant = put h.meant n s;
    accounts = subst (λ w. Accounts next starts w network.links)
        (meaning_doing h.meant network.workers n (Moved said) r s)
        (accounts_moved next starts (meaning h.meant network.workers) network.links n said s
        (e ∙ ap (λ l. Moves l s) (sym same.0)) h.accounts);
    ties = tied_doing tied h.meant network.workers n (Moved said) r s h.ties same.1;
  }
  act_meant capacity network n h (Sends target wire r) (Sends m x s) e same =
      go (ltb (length (network.links n target)) capacity)
    where
      sent : Network R L W
      sent = record {
        workers = put network.workers n
            (doing (network.workers n) (Sent target wire) r);
        links = put_link network.links n target
            (appended (network.links n target) wire);
      }

      go : (b : Bool) → IsMeant tied next starts (cond b sent network)
      go true = record {
        meant = put h.meant n s;
        accounts = subst (λ w. Accounts next starts w sent.links)
            (meaning_doing h.meant network.workers n (Sent target wire) r s)
            (accounts_sent next starts (meaning h.meant network.workers) network.links n target wire
            s (e ∙ (ap (λ l. Sends l x s) (sym same.0) ∙ ap (λ l. Sends target l s)
            (sym same.1))) h.accounts);
        ties = tied_doing tied h.meant network.workers n (Sent target wire) r s h.ties same.2;
      }
      go false = h
  act_meant capacity network n h (Takes source r) (Takes m s) e same =
      go (network.links source n) refl
    where
      go : (link : List W) → network.links source n ≡ link → IsMeant tied next starts
          (takes n source r link network)
      go [] lies = h
      go (wire ∷ left) lies = record {
        meant = put h.meant n (s wire);
        accounts = subst (λ w. Accounts next starts w (put_link network.links source n left))
            (meaning_doing h.meant network.workers n (Took source wire) (r wire) (s wire))
            (accounts_took next starts (meaning h.meant network.workers) network.links n source s
            wire left (e ∙ ap (λ l. Takes l s) (sym same.0)) lies h.accounts);
        ties = tied_doing tied h.meant network.workers n (Took source wire) (r wire) (s wire) h.ties
            (same.1 wire);
      }
  act_meant capacity network n h Stops Stops e same = h
  act_meant capacity network n h _ _ e same = absurd same

  event_meant : (capacity : ℕ) (network : Network R L W) (one : Event E) → IsMeant tied next starts
      network → IsMeant tied next starts (event real capacity one network)
  event_meant capacity network (Turn n) h = go (real.act n (network.workers n).state)
      (means.acts_alike n (network.workers n).state (h.meant n) (h.ties n))
    where
      go : (act : Option (Act R L W)) → SameOrWaits (tied n) act (next n (h.meant n)) →
          IsMeant tied next starts (may_act capacity n act network)
      go None same = h
      go (Some act) same = act_meant capacity network n h act (next n (h.meant n)) refl same
  event_meant capacity network (Happens n thing) h =
      go (real.becomes n thing (network.workers n).state) refl
    where
      go : (after : Option R) → real.becomes n thing (network.workers n).state ≡ after →
          IsMeant tied next starts (may_become n after network)
      go None e = h
      go (Some after) e = record {
        meant = h.meant;
        accounts = subst (λ w. Accounts next starts w network.links)
            (fun_ext (λ k. ap (λ p. record { state = h.meant k; past = p }) (sym (pasts k))))
            h.accounts;
        ties = put_each (λ k w. tied k w.state (h.meant k)) network.workers n became
            (means.happens n thing (network.workers n).state after (h.meant n) (h.ties n) e)
            (λ k d. h.ties k);
      }
        where
          became : Worker R L W
          became = record { state = after; past = (network.workers n).past }

          pasts : (k : ℕ) → (put network.workers n became k).past ≡ (network.workers k).past
          pasts k = put_each (λ i w. w.past ≡ (network.workers i).past) network.workers n became
              refl (λ i d. refl) k

  events_meant : (capacity : ℕ) (list : List (Event E)) (network : Network R L W) →
      IsMeant tied next starts network → IsMeant tied next starts
      (events real capacity list network)
  events_meant capacity [] network h = h
  events_meant capacity (one ∷ list) network h =
      events_meant capacity list (event real capacity one network)
      (event_meant capacity network one h)

  pub after_meant : (capacity : ℕ) (list : List (Event E)) → IsMeant tied next starts
      (after_events real real_starts capacity list)
  after_meant capacity list = events_meant capacity list (opening real_starts)
      (record { meant = starts; accounts = accounts_fresh next starts; ties = means.starts_tied })

  pub events_comparable : (capacity : ℕ) (list : List (Event E)) (turns : List Joint) (n : ℕ) →
      AreComparable ((after_events real real_starts capacity list).workers n).past
      (together next starts turns n).past
  events_comparable capacity list turns n =
      let network = after_events real real_starts capacity list in
      let h = after_meant capacity list in
      (together_meets next starts (meaning h.meant network.workers) network.links h.accounts
      turns).1 n

  pub events_begin : (capacity : ℕ) (list : List (Event E)) (turns : List Joint) (n : ℕ) →
      next n (together next starts turns n).state ≡ Stops →
      BeginsTied (tied n) (real.act n) ((after_events real real_starts capacity list).workers n)
      (together next starts turns n)
  events_begin capacity list turns n stops = record {
    before = begins.before;
    prefixes = begins.prefixes;
    done = λ e. stands e;
  }
    where
      network : Network R L W
      network = after_events real real_starts capacity list

      h : IsMeant tied next starts network
      h = after_meant capacity list

      whole : Worker S L W
      whole = together next starts turns n

      begins : Begins (next n) (meaning h.meant network.workers n) whole
      begins = accounts_begin next starts (meaning h.meant network.workers) network.links h.accounts
          turns n stops

      stands : real.act n (network.workers n).state ≡ Some Stops →
          StandsAs (tied n) (network.workers n) whole
      stands e =
          let same = begins.done (stops_same (tied n) (next n (h.meant n))
          (subst (λ a. SameOrWaits (tied n) a (next n (h.meant n))) e
          (means.acts_alike n (network.workers n).state (h.meant n) (h.ties n)))) in
          record {
            did = ap (λ w. w.past) same;
            means = subst (λ s. tied n (network.workers n).state s) (ap (λ w. w.state) same)
                (h.ties n);
          }

  -- where the meaning can go on, the real worker can, or something can happen to it
  act_goes_on : (capacity n : ℕ) (links : ℕ → ℕ → List W) (act : Act R L W) (other : Act S L W) →
      SameAct (tied n) act other → can_act capacity n other links ≡ true →
      can_act capacity n act links ≡ true
  act_goes_on capacity n links (Moves said r) (Moves x s) same can = refl
  act_goes_on capacity n links (Sends target wire r) (Sends m x s) same can =
      subst (λ i. ltb (length (links n i)) capacity ≡ true) (sym same.0) can
  act_goes_on capacity n links (Takes source r) (Takes m s) same can =
      subst (λ i. ltb 0 (length (links i n)) ≡ true) (sym same.0) can
  act_goes_on capacity n links Stops Stops same can = can
  act_goes_on capacity n links _ _ same can = absurd same

  meant_goes_on : (capacity : ℕ) (network : Network R L W) (h : IsMeant tied next starts network) →
      SomeCanAct next capacity (meaning h.meant network.workers) network.links →
      SomeCanHappen real capacity network
  meant_goes_on capacity network h some = go (real.act n (network.workers n).state) refl
      (means.acts_alike n (network.workers n).state (h.meant n) (h.ties n))
    where
      n : ℕ
      n = some.0

      waits : (next n (h.meant n) ≡ Stops) ⊎ ((thing : E)
          × (is_some (real.becomes n thing (network.workers n).state) ≡ true)) →
          SomeCanHappen real capacity network
      waits (inl stops) = let none : false ≡ true =
          sym (ap (λ a. can_act capacity n a network.links) stops) ∙ some.1 in absurd (cc)
      waits (inr thing) = (Happens n thing.0, thing.1)

      go : (act : Option (Act R L W)) → real.act n (network.workers n).state ≡ act →
          SameOrWaits (tied n) act (next n (h.meant n)) → SomeCanHappen real capacity network
      go None e same = waits (means.waits n (network.workers n).state (h.meant n) (h.ties n) e)
      go (Some act) e same = (
        Turn n,
        ap (λ a. may_go_on capacity n a network.links) e ∙ act_goes_on
            capacity n network.links act (next n (h.meant n)) same some.1,
      )

  pub events_stop : (capacity : ℕ) (list : List (Event E)) (turns : List Joint) →
      IsCapacity capacity →
      SomeCanHappen real capacity (after_events real real_starts capacity list)
      ⊎ ((n : ℕ) → next n (together next starts turns n).state ≡ Stops →
      StandsAs (tied n) ((after_events real real_starts capacity list).workers n)
      (together next starts turns n))
  events_stop capacity list turns room = go (accounts_stop next starts capacity
      (meaning h.meant network.workers) network.links room h.accounts turns)
    where
      network : Network R L W
      network = after_events real real_starts capacity list

      h : IsMeant tied next starts network
      h = after_meant capacity list

      go : SomeCanAct next capacity (meaning h.meant network.workers) network.links ⊎
          ((n : ℕ) → next n (together next starts turns n).state ≡ Stops →
          meaning h.meant network.workers n ≡ together next starts turns n) →
          SomeCanHappen real capacity network ⊎
          ((n : ℕ) → next n (together next starts turns n).state ≡ Stops →
          StandsAs (tied n) (network.workers n) (together next starts turns n))
      go (inl some) = inl (meant_goes_on capacity network h some)
      go (inr same) = inr (λ n stops. record {
        did = ap (λ w. w.past) (same n stops);
        means = subst (λ s. tied n (network.workers n).state s) (ap (λ w. w.state) (same n stops))
            (h.ties n);
      })
