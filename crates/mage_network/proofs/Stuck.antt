-- No network is stuck before its workers are where they come together: some worker is enabled, or
-- each past of the joint run is an earlier state of the network's.
use Rattle.std.proofs.Common.{◌≡◌, ◌+◌, ◌<◌, ℕ, true, ltb, List, [], ◌∷◌, ◌++◌, refl, sym, ap, ◌∙◌, subst, ◌⊎◌, inl, inr, length, length-append, append-nil, arith}
use Rattle.std.proofs.lemmas.Bool.Decides.{nat_tests}
use Rattle.mage_network.specs.Workers.{Act, Moves, Sends, Takes, Stops, Moved, Sent, Took, Worker, sent_to, taken_from, doing}
use Rattle.mage_network.specs.Pasts.{Allows, IsBefore, IsPrefix}
use Rattle.mage_network.specs.Network.{Network, put, can_act}
use Rattle.mage_network.specs.Together.{Joint, joint, together}
use Rattle.mage_network.specs.Laws.{SomeIsEnabled, AreDone, network_after}
use Rattle.mage_network.proofs.Places.{put_each}
use Rattle.mage_network.proofs.Prefixes.{prefix_length, length-append_one}
use Rattle.mage_network.proofs.Orders.{LeadsOn, before_leads_on, before_nothing, before_begins, takes_allows, sent_to-sent}
use Rattle.mage_network.proofs.Accounts.{Accounts}
use Rattle.mage_network.proofs.Turns.{joint_each, network_accounts}
use Rattle.mage_network.proofs.Meeting.{next_before, only_moved, only_sent, stops_here, same_wire, together_keeps}

-- a worker whose act can go on
abbrev pub SomeCanAct : {S L W : Type 0} → (ℕ → S → Act S L W) → (capacity : ℕ) →
    (ℕ → Worker S L W) → (ℕ → ℕ → List W) → Type 0
SomeCanAct next capacity workers links = (n : ℕ) × (can_act capacity n (next n (workers n).state)
    links ≡ true)

abbrev pub IsPast : {S L W : Type 0} → (workers whole : ℕ → Worker S L W) → Type 0
IsPast workers whole = (n : ℕ) → IsBefore (whole n).past (workers n).past

acts_at : {S L W : Type 0} (next : ℕ → S → Act S L W) (capacity : ℕ) (workers : ℕ → Worker S L W)
    (links : ℕ → ℕ → List W) (n : ℕ) (state : S) (act : Act S L W) →
    state ≡ (workers n).state → next n state ≡ act → can_act capacity n act links ≡ true →
    SomeCanAct next capacity workers links
acts_at next capacity workers links n state act s e h =
    (n, ap (λ a. can_act capacity n a links) (ap (next n) (sym s) ∙ e) ∙ h)

lt_ltb : (a b : ℕ) → a < b → ltb a b ≡ true
lt_ltb a b h = grind (arith, nat_tests)

-- a sender who is where it is in the joint run faces an empty link
faces_none : {S L W : Type 0} (a b ja jb : Worker S L W) (source target : ℕ) (link : List W) →
    sent_to target a.past ≡ taken_from source b.past ++ link → sent_to target ja.past ≡ taken_from
    source jb.past ++ [] →
    ja.past ≡ a.past → IsBefore jb.past b.past → length link ≡ 0
faces_none a b ja jb source target link rest none same before =
    let more = prefix_length (taken_from source jb.past) (taken_from source b.past)
    ((before_begins jb.past b.past before).taken source) in
    let all : length (sent_to target a.past) ≡ length (taken_from source b.past) + length link =
    ap length rest ∙ length-append (taken_from source b.past) link in
    let joint : length (sent_to target ja.past) ≡ length (taken_from source jb.past) =
    ap length (none ∙ append-nil (taken_from source jb.past)) in
    let equal : length (sent_to target ja.past) ≡ length (sent_to target a.past) =
    ap (λ p. length (sent_to target p)) same in
    omega arith

-- a taker who is where it is in the joint run finds a wire, where the sender has sent it
finds_one : {S L W : Type 0} (a b ja jb : Worker S L W) (source target : ℕ) (link : List W)
    (wire : W) →
    sent_to target a.past ≡ taken_from source b.past ++ link → sent_to target ja.past ≡ taken_from
    source jb.past ++ [] →
    IsBefore (Sent target wire ∷ ja.past) a.past → jb.past ≡ b.past → 0 < length link
finds_one a b ja jb source target link wire rest none sends same =
    let gave = subst (λ l. IsPrefix l (sent_to target a.past)) (sent_to-sent target wire ja.past)
    ((before_begins (Sent target wire ∷ ja.past) a.past sends).sent target) in
    let more = prefix_length (sent_to target ja.past ++ wire ∷ []) (sent_to target a.past) gave
    in
    let one = length-append_one (sent_to target ja.past) wire in
    let all : length (sent_to target a.past) ≡ length (taken_from source b.past) + length link =
    ap length rest ∙ length-append (taken_from source b.past) link in
    let joint : length (sent_to target ja.past) ≡ length (taken_from source jb.past) =
    ap length (none ∙ append-nil (taken_from source jb.past)) in
    let equal : length (taken_from source jb.past) ≡ length (taken_from source b.past) =
    ap (λ p. length (taken_from source p)) same in
    omega arith

module _ {S L W : Type 0} (next : ℕ → S → Act S L W) (starts : ℕ → S) where
  joint_catches : (capacity : ℕ) (workers : ℕ → Worker S L W) (links : ℕ → ℕ → List W) →
      0 < capacity → Accounts next starts workers links →
      (whole : ℕ → Worker S L W) (turn : Joint) → Accounts next starts whole (λ n m. []) →
      SomeCanAct next capacity workers links ⊎ IsPast workers whole →
      SomeCanAct next capacity workers links ⊎ IsPast workers (joint next turn whole)
  joint_catches capacity workers links room h whole turn k (inl some) = inl some
  joint_catches capacity workers links room h whole turn k (inr past) =
      joint_each next whole (λ w. SomeCanAct next capacity workers links ⊎ IsPast workers w)
      (inr past)
      (λ n said after e. moved n said after e
      (next_before (next n) (starts n) (whole n) (workers n) (Moved said)
      (only_moved (next n (whole n).state) said after e) (k.alone n) (h.alone n) (past n)))
      (λ source target wire sent took d e f. gave source target wire sent took e f
      (next_before (next source) (starts source) (whole source) (workers source)
      (Sent target wire) (only_sent (next source (whole source).state) target wire sent e)
      (k.alone source) (h.alone source) (past source)))
      turn
    where
      Result : (ℕ → Worker S L W) → Type 0
      Result w = SomeCanAct next capacity workers links ⊎ IsPast workers w

      moved : (n : ℕ) (said : List L) (after : S) → next n (whole n).state ≡ Moves said after →
          (((whole n).past ≡ (workers n).past) × ((whole n).state ≡ (workers n).state)) ⊎
          IsBefore (Moved said ∷ (whole n).past) (workers n).past →
          Result (put whole n (doing (whole n) (Moved said) after))
      moved n said after e (inl same) = inl (acts_at next capacity workers links n (whole n).state
          (Moves said after) same.1 e refl)
      moved n said after e (inr on) = inr (put_each (λ i w. IsBefore w.past (workers i).past) whole
          n (doing (whole n) (Moved said) after) on (λ i d. past i))

      took_too : (source target : ℕ) (wire : W) (sent : S) (took : W → S) →
          next target (whole target).state ≡ Takes source took →
          IsBefore (Sent target wire ∷ (whole source).past) (workers source).past →
          LeadsOn (next target) (whole target).past (whole target).state (workers target).past
          (workers target).state →
          Result (put (put whole source (doing (whole source) (Sent target wire) sent)) target
          (doing (whole target) (Took source wire) (took wire)))
      took_too source target wire sent took f gave (inl same) =
          let found = finds_one (workers source) (workers target) (whole source) (whole target)
          source target (links source target) wire (h.rest source target) (k.rest source target)
          gave same.0 in
          inl (acts_at next capacity workers links target (whole target).state (Takes source took)
          same.1 f (lt_ltb 0 (length (links source target)) found))
      took_too source target wire sent took f gave (inr on) =
          let taken = takes_allows source took on.0 on.1 (subst (λ x. Allows x on.0 on.1) f on.2) in
          let takes = subst (λ d. IsBefore (d ∷ (whole target).past) (workers target).past)
          (sym taken.1) on.3 in
          let same = same_wire (workers source) (workers target) (whole source) (whole target)
          source target (links source target) wire taken.0 (h.rest source target)
          (k.rest source target) gave takes in
          inr (put_each (λ i w. IsBefore w.past (workers i).past)
          (put whole source (doing (whole source) (Sent target wire) sent)) target
          (doing (whole target) (Took source wire) (took wire))
          (subst (λ y. IsBefore (Took source y ∷ (whole target).past) (workers target).past)
          same takes)
          (λ i c. put_each (λ i w. IsBefore w.past (workers i).past) whole source
          (doing (whole source) (Sent target wire) sent) gave (λ j d. past j) i))

      gave : (source target : ℕ) (wire : W) (sent : S) (took : W → S) →
          next source (whole source).state ≡ Sends target wire sent →
          next target (whole target).state ≡ Takes source took →
          (((whole source).past ≡ (workers source).past)
          × ((whole source).state ≡ (workers source).state)) ⊎
          IsBefore (Sent target wire ∷ (whole source).past) (workers source).past →
          Result (put (put whole source (doing (whole source) (Sent target wire) sent)) target
          (doing (whole target) (Took source wire) (took wire)))
      gave source target wire sent took e f (inl same) =
          let none = faces_none (workers source) (workers target) (whole source) (whole target)
          source target (links source target) (h.rest source target) (k.rest source target)
          same.0 (past target) in
          inl (acts_at next capacity workers links source (whole source).state
          (Sends target wire sent) same.1 e
          (lt_ltb (length (links source target)) capacity
          (subst (λ l. l < capacity) (sym none) room)))
      gave source target wire sent took e f (inr on) =
          took_too source target wire sent took f on
          (before_leads_on (next target) (starts target) (whole target).past
          (workers target).past (whole target).state (workers target).state (k.alone target)
          (h.alone target) (past target))

  -- Some worker's act can go on, or each past of the joint run is an earlier state of the
  -- network's.
  pub accounts_catch : (capacity : ℕ) (workers : ℕ → Worker S L W) (links : ℕ → ℕ → List W) →
      0 < capacity → Accounts next starts workers links →
      (turns : List Joint) → Accounts next starts (together next starts turns)
      (λ n m. []) × (SomeCanAct next capacity workers links ⊎
      IsPast workers (together next starts turns))
  accounts_catch capacity workers links room h turns =
      together_keeps next starts (λ w. SomeCanAct next capacity workers links ⊎ IsPast workers w)
      (λ whole turn k p. joint_catches capacity workers links room h whole turn k p)
      (inr (λ n. before_nothing (workers n).past)) turns

  -- and then each worker that is done in the joint run stands where it stands there
  pub accounts_stop : (capacity : ℕ) (workers : ℕ → Worker S L W) (links : ℕ → ℕ → List W) →
      0 < capacity → Accounts next starts workers links →
      (turns : List Joint) → SomeCanAct next capacity workers links ⊎
      ((n : ℕ) → next n (together next starts turns n).state ≡ Stops → workers n ≡ together next
      starts turns n)
  accounts_stop capacity workers links room h turns =
      go (accounts_catch capacity workers links room h turns)
    where
      go : Accounts next starts (together next starts turns)
          (λ n m. []) × (SomeCanAct next capacity workers links ⊎
          IsPast workers (together next starts turns)) →
          SomeCanAct next capacity workers links ⊎
          ((n : ℕ) → next n (together next starts turns n).state ≡ Stops →
          workers n ≡ together next starts turns n)
      go both = at both.0 both.1
        where
          at : Accounts next starts (together next starts turns) (λ n m. []) →
              SomeCanAct next capacity workers links ⊎ IsPast workers (together next starts turns) →
              SomeCanAct next capacity workers links ⊎
              ((n : ℕ) → next n (together next starts turns n).state ≡ Stops →
              workers n ≡ together next starts turns n)
          at k (inl some) = inl some
          at k (inr past) = inr (λ n stops. sym
              (stops_here (next n) (starts n) (together next starts turns n) (workers n) stops
              (k.alone n) (h.alone n) (past n)))

  pub stopped_or_enabled : (capacity : ℕ) (schedule : List ℕ) (turns : List Joint) → 0 < capacity →
      SomeIsEnabled next capacity (network_after next starts capacity schedule) ⊎
      ((n : ℕ) → next n (together next starts turns n).state ≡ Stops →
      (network_after next starts capacity schedule).workers n ≡ together next starts turns n)
  stopped_or_enabled capacity schedule turns room =
      let network = network_after next starts capacity schedule in
      accounts_stop capacity network.workers network.links room
      (network_accounts next starts capacity schedule) turns

  pub done_or_enabled : (capacity : ℕ) (schedule : List ℕ) (turns : List Joint) → 0 < capacity →
      AreDone next (together next starts turns) →
      SomeIsEnabled next capacity (network_after next starts capacity schedule) ⊎
      AreDone next (network_after next starts capacity schedule).workers
  done_or_enabled capacity schedule turns room done =
      go (stopped_or_enabled capacity schedule turns room)
    where
      network : Network S L W
      network = network_after next starts capacity schedule

      go : SomeIsEnabled next capacity network ⊎
          ((n : ℕ) → next n (together next starts turns n).state ≡ Stops →
          network.workers n ≡ together next starts turns n) → SomeIsEnabled next capacity network ⊎
          AreDone next network.workers
      go (inl some) = inl some
      go (inr same) = inr (λ n. ap (λ w. next n w.state) (same n (done n)) ∙ done n)
