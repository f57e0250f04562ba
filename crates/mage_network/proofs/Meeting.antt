-- Workers that went apart against workers that go on together: their pasts stay comparable, since
-- the wire that is handed over is the next that was sent to the one who takes it.
use Rattle.std.proofs.Common.{◌≡◌, ◌+◌, ℕ, List, [], ◌∷◌, ◌++◌, sym, ap, ◌∙◌, subst, ◌⊎◌, inl, inr, length, length-append, append-nil, arith}
use Rattle.mage_network.specs.Workers.{Act, Moves, Sends, Takes, Stops, Deed, Moved, Sent, Took, Worker, sent_to, taken_from, doing, fresh}
use Rattle.mage_network.specs.Pasts.{Allows, WentAlone, IsBefore, IsPrefix, AreComparable}
use Rattle.mage_network.specs.Network.{put}
use Rattle.mage_network.specs.Together.{Joint, joint, together}
use Rattle.mage_network.specs.Laws.{WentApart, Begins, network_after}
use Rattle.mage_network.proofs.Places.{put_each}
use Rattle.mage_network.proofs.Prefixes.{prefix_then, prefix_length, length-append_one, same_next}
use Rattle.mage_network.proofs.Orders.{LeadsOn, before_leads_on, before_same, before_nothing, before_begins, moves_allows, sends_allows, takes_allows, stops_allows, sent_to-sent, taken_from-took, worker_same}
use Rattle.mage_network.proofs.Accounts.{Accounts, accounts_fresh, accounts_apart}
use Rattle.mage_network.proofs.Turns.{joint_each, joint_run_keeps, network_accounts}

-- The next deed of an early state, where all that the act of this state has is one deed.
pub next_before : {S L W : Type 0} (next : S → Act S L W) (start : S) (early late : Worker S L W)
    (deed : Deed L W) →
    ((other : Deed L W) (after : S) → Allows (next early.state) other after → deed ≡ other) →
    WentAlone next start early → WentAlone next start late → IsBefore early.past late.past →
    ((early.past ≡ late.past) × (early.state ≡ late.state)) ⊎ IsBefore (deed ∷ early.past) late.past
next_before {S} next start early late deed only h k b =
    go (before_leads_on next start early.past late.past early.state late.state h k b)
  where
    go : LeadsOn next early.past early.state late.past late.state →
        ((early.past ≡ late.past) × (early.state ≡ late.state)) ⊎ IsBefore (deed ∷ early.past)
        late.past
    go (inl same) = inl same
    go (inr on) = inr (subst (λ d. IsBefore (d ∷ early.past) late.past) (sym (only on.0 on.1 on.2))
        on.3)

pub only_moved : {S L W : Type 0} (act : Act S L W) (said : List L) (after : S) →
    act ≡ Moves said after → (other : Deed L W) (state : S) → Allows act other state →
    Moved said ≡ other
only_moved act said after e other state h = moves_allows said after other state
    (subst (λ a. Allows a other state) e h)

pub only_sent : {S L W : Type 0} (act : Act S L W) (target : ℕ) (wire : W) (after : S) →
    act ≡ Sends target wire after → (other : Deed L W) (state : S) → Allows act other state →
    Sent target wire ≡ other
only_sent act target wire after e other state h = sends_allows target wire after other state
    (subst (λ a. Allows a other state) e h)

-- no deed follows where a worker has stopped
pub stops_here : {S L W : Type 0} (next : S → Act S L W) (start : S) (early late : Worker S L W) →
    next early.state ≡ Stops →
    WentAlone next start early → WentAlone next start late → IsBefore early.past late.past →
    early ≡ late
stops_here {S} {L} {W} next start early late stops h k b =
    go (before_leads_on next start early.past late.past early.state late.state h k b)
  where
    go : LeadsOn next early.past early.state late.past late.state → early ≡ late
    go (inl same) = worker_same early late same.0 same.1
    go (inr on) = absurd (stops_allows {S = S} on.0 on.1
        (subst (λ a. Allows a on.0 on.1) stops on.2))

-- comparable pasts stay so when the one that goes on has the one deed that its act allows
grows_so : {S L W : Type 0} (next : S → Act S L W) (start : S) (apart whole : Worker S L W)
    (deed : Deed L W) →
    ((other : Deed L W) (after : S) → Allows (next whole.state) other after → deed ≡ other) →
    WentAlone next start apart → WentAlone next start whole → AreComparable apart.past whole.past →
    AreComparable apart.past (deed ∷ whole.past)
grows_so next start apart whole deed only h k (inl b) = inl (inr b)
grows_so {S} {L} {W} next start apart whole deed only h k (inr b) =
    go (next_before next start whole apart deed only k h b)
  where
    go : ((whole.past ≡ apart.past) × (whole.state ≡ apart.state)) ⊎ IsBefore (deed ∷ whole.past)
        apart.past → AreComparable apart.past (deed ∷ whole.past)
    go (inl same) = inl (inr (subst (λ p. IsBefore p whole.past) same.0 (before_same whole.past)))
    go (inr on) = inr on

-- Two workers of a network (`a` sends to `b`), and the same two in the joint run, where no wire
-- lies between them. The wire that b took next in the network is the one that a sent next.
pub same_wire : {S L W : Type 0} (a b ja jb : Worker S L W) (source target : ℕ) (link : List W)
    (wire x : W) →
    sent_to target a.past ≡ taken_from source b.past ++ link → sent_to target ja.past ≡ taken_from
    source jb.past ++ [] →
    IsBefore (Sent target wire ∷ ja.past) a.past → IsBefore (Took source x ∷ jb.past) b.past →
    x ≡ wire
same_wire a b ja jb source target link wire x rest none sends takes =
    let given = subst (λ l. IsPrefix l (sent_to target a.past))
    (sent_to-sent target wire ja.past ∙ ap (λ l. l ++ wire ∷ [])
    (none ∙ append-nil (taken_from source jb.past)))
    ((before_begins (Sent target wire ∷ ja.past) a.past sends).sent target) in
    let got = subst (λ l. IsPrefix l (taken_from source b.past)) (taken_from-took source x jb.past)
    ((before_begins (Took source x ∷ jb.past) b.past takes).taken source) in
    same_next (taken_from source jb.past) x wire (sent_to target a.past)
    (prefix_then (taken_from source jb.past ++ x ∷ []) (taken_from source b.past)
    (sent_to target a.past) got (link, sym rest))
    given

-- where b took more than it did in the joint run, a sent more than it did there
pub sender_is_ahead : {S L W : Type 0} (a b ja jb : Worker S L W) (source target : ℕ)
    (link : List W) (x : W) →
    sent_to target a.past ≡ taken_from source b.past ++ link → sent_to target ja.past ≡ taken_from
    source jb.past ++ [] →
    IsBefore a.past ja.past → IsBefore (Took source x ∷ jb.past) b.past → ⊥
sender_is_ahead a b ja jb source target link x rest none sends takes =
    let fewer = prefix_length (sent_to target a.past) (sent_to target ja.past)
    ((before_begins a.past ja.past sends).sent target) in
    let got = subst (λ l. IsPrefix l (taken_from source b.past)) (taken_from-took source x jb.past)
    ((before_begins (Took source x ∷ jb.past) b.past takes).taken source) in
    let more = prefix_length (taken_from source jb.past ++ x ∷ []) (taken_from source b.past) got
    in
    let one = length-append_one (taken_from source jb.past) x in
    let all : length (sent_to target a.past) ≡ length (taken_from source b.past) + length link =
    ap length rest ∙ length-append (taken_from source b.past) link in
    let same : length (sent_to target ja.past) ≡ length (taken_from source jb.past) =
    ap length (none ∙ append-nil (taken_from source jb.past)) in
    omega arith

-- one worker, against one that is done in the joint run
begins_done : {S L W : Type 0} (next : S → Act S L W) (start : S) (apart whole : Worker S L W) →
    WentAlone next start apart → WentAlone next start whole →
    next whole.state ≡ Stops → AreComparable apart.past whole.past → Begins next apart whole
begins_done {S} {L} {W} next start apart whole h k stops meets = record {
  before = before meets;
  prefixes = before_begins apart.past whole.past (before meets);
  done = λ e. stops_here next start apart whole e h k (before meets);
}
  where
    before : AreComparable apart.past whole.past → IsBefore apart.past whole.past
    before (inl b) = b
    before (inr b) = subst (λ w. IsBefore w.past whole.past)
        (stops_here next start whole apart stops k h b) (before_same whole.past)

-- comparable workers, at each number
abbrev pub Meet : {S L W : Type 0} → (workers whole : ℕ → Worker S L W) → Type 0
Meet workers whole = (n : ℕ) → AreComparable (workers n).past (whole n).past

module _ {S L W : Type 0} (next : ℕ → S → Act S L W) (starts : ℕ → S) where
  -- the one who takes a wire that is handed over
  takes_so : (workers whole : ℕ → Worker S L W) (links : ℕ → ℕ → List W)
      (source target : ℕ) (wire : W) (sent : S) (took : W → S) →
      next source (whole source).state ≡ Sends target wire sent →
      next target (whole target).state ≡ Takes source took →
      Accounts next starts workers links → Accounts next starts whole (λ n m. []) →
      Meet workers whole →
      AreComparable (workers target).past (Took source wire ∷ (whole target).past)
  takes_so workers whole links source target wire sent took e f h k meets = go (meets target)
    where
      a : Worker S L W
      a = workers source

      b : Worker S L W
      b = workers target

      ja : Worker S L W
      ja = whole source

      jb : Worker S L W
      jb = whole target

      -- b took x next: then a sent it
      sender : (x : W) → IsBefore (Took source x ∷ jb.past) b.past → AreComparable a.past ja.past →
          IsBefore (Took source wire ∷ jb.past) b.past
      sender x on (inl behind) = absurd (sender_is_ahead a b ja jb source target
          (links source target) x (h.rest source target) (k.rest source target) behind on)
      sender x on (inr ahead) = ahead_too (next_before (next source) (starts source) ja a
          (Sent target wire) (only_sent (next source ja.state) target wire sent e) (k.alone source)
          (h.alone source) ahead)
        where
          ahead_too : ((ja.past ≡ a.past) × (ja.state ≡ a.state)) ⊎
              IsBefore (Sent target wire ∷ ja.past) a.past → IsBefore (Took source wire ∷ jb.past)
              b.past
          ahead_too (inl same) = absurd (sender_is_ahead a b ja jb source target
              (links source target) x (h.rest source target) (k.rest source target)
              (subst (λ p. IsBefore p ja.past) same.0 (before_same ja.past)) on)
          ahead_too (inr gave) = subst (λ y. IsBefore (Took source y ∷ jb.past) b.past)
              (same_wire a b ja jb source target (links source target) wire x (h.rest source target)
              (k.rest source target) gave on) on

      taker : LeadsOn (next target) jb.past jb.state b.past b.state →
          AreComparable b.past (Took source wire ∷ jb.past)
      taker (inl same) = inl (inr (subst (λ p. IsBefore p jb.past) same.0 (before_same jb.past)))
      taker (inr on) =
          let taken = takes_allows source took on.0 on.1 (subst (λ x. Allows x on.0 on.1) f on.2) in
          inr (sender taken.0 (subst (λ d. IsBefore (d ∷ jb.past) b.past) (sym taken.1) on.3)
          (meets source))

      go : AreComparable b.past jb.past → AreComparable b.past (Took source wire ∷ jb.past)
      go (inl behind) = inl (inr behind)
      go (inr ahead) = taker (before_leads_on (next target) (starts target) jb.past b.past jb.state
          b.state (k.alone target) (h.alone target) ahead)

  meets_joint : (workers : ℕ → Worker S L W) (links : ℕ → ℕ → List W) → Accounts next starts workers
      links →
      (whole : ℕ → Worker S L W) (turn : Joint) → Accounts next starts whole (λ n m. []) →
      Meet workers whole → Meet workers (joint next turn whole)
  meets_joint workers links h whole turn k meets =
      joint_each next whole (Meet workers) meets
      (λ n said after e. put_each (λ i w. AreComparable (workers i).past w.past) whole n
      (doing (whole n) (Moved said) after) (moved n said after e) (λ i d. meets i))
      (λ source target wire sent took d e f.
      put_each (λ i w. AreComparable (workers i).past w.past)
      (put whole source (doing (whole source) (Sent target wire) sent)) target
      (doing (whole target) (Took source wire) (took wire))
      (takes_so workers whole links source target wire sent took e f h k meets)
      (λ i c. put_each (λ i w. AreComparable (workers i).past w.past) whole source
      (doing (whole source) (Sent target wire) sent)
      (gave source target wire sent e) (λ j b. meets j) i))
      turn
    where
      moved : (n : ℕ) (said : List L) (after : S) → next n (whole n).state ≡ Moves said after →
          AreComparable (workers n).past (Moved said ∷ (whole n).past)
      moved n said after e = grows_so (next n) (starts n) (workers n) (whole n) (Moved said)
          (only_moved (next n (whole n).state) said after e) (h.alone n) (k.alone n) (meets n)

      gave : (n target : ℕ) (wire : W) (after : S) → next n (whole n).state ≡ Sends target wire
          after → AreComparable (workers n).past (Sent target wire ∷ (whole n).past)
      gave n target wire after e = grows_so (next n) (starts n) (workers n) (whole n)
          (Sent target wire) (only_sent (next n (whole n).state) target wire after e) (h.alone n)
          (k.alone n) (meets n)

  pub together_keeps : (P : (ℕ → Worker S L W) → Type 0) →
      ((workers : ℕ → Worker S L W) (turn : Joint) → Accounts next starts workers (λ n m. []) →
      P workers → P (joint next turn workers)) →
      P (λ n. fresh (starts n)) → (turns : List Joint) →
      Accounts next starts (together next starts turns) (λ n m. []) × P
      (together next starts turns)
  together_keeps P keeps first turns = joint_run_keeps next starts P keeps turns
      (λ n. fresh (starts n)) (accounts_fresh next starts) first

  pub together_meets : (workers : ℕ → Worker S L W) (links : ℕ → ℕ → List W) →
      Accounts next starts workers links →
      (turns : List Joint) → Accounts next starts (together next starts turns) (λ n m. []) × Meet
      workers (together next starts turns)
  together_meets workers links h turns =
      together_keeps (Meet workers) (λ whole turn k meets. meets_joint workers links h whole turn k
      meets) (λ n. inr (before_nothing (workers n).past)) turns

  pub accounts_begin : (workers : ℕ → Worker S L W) (links : ℕ → ℕ → List W) →
      Accounts next starts workers links →
      (turns : List Joint) (n : ℕ) → next n (together next starts turns n).state ≡ Stops →
      Begins (next n) (workers n) (together next starts turns n)
  accounts_begin workers links h turns n stops =
      let both = together_meets workers links h turns in
      begins_done (next n) (starts n) (workers n) (together next starts turns n) (h.alone n)
      (both.0.alone n) stops (both.1 n)

  pub runs_comparable : (workers : ℕ → Worker S L W) (turns : List Joint) →
      WentApart next starts workers →
      (n : ℕ) → AreComparable (workers n).past (together next starts turns n).past
  runs_comparable workers turns h n = (together_meets workers (λ n m. (h.received n m).0)
      (accounts_apart next starts workers h) turns).1 n

  pub runs_begin : (workers : ℕ → Worker S L W) (turns : List Joint) →
      WentApart next starts workers →
      (n : ℕ) → next n (together next starts turns n).state ≡ Stops → Begins (next n) (workers n)
      (together next starts turns n)
  runs_begin workers turns h n stops = accounts_begin workers (λ n m. (h.received n m).0)
      (accounts_apart next starts workers h) turns n stops

  pub schedules_begin : (capacity : ℕ) (schedule : List ℕ) (turns : List Joint) (n : ℕ) →
      next n (together next starts turns n).state ≡ Stops →
      Begins (next n) ((network_after next starts capacity schedule).workers n)
      (together next starts turns n)
  schedules_begin capacity schedule turns n stops =
      let network = network_after next starts capacity schedule in
      accounts_begin network.workers network.links (network_accounts next starts capacity schedule)
      turns n stops

  pub orders_same : (turns others : List Joint) (n : ℕ) →
      next n (together next starts turns n).state ≡ Stops →
      next n (together next starts others n).state ≡ Stops →
      together next starts others n ≡ together next starts turns n
  orders_same turns others n stops done =
      let h = (together_keeps (λ workers. Unit {0}) (λ workers turn k kept. tt) tt others).0 in
      (accounts_begin (together next starts others) (λ k m. []) h turns n stops).done done
