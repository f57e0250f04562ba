-- What a turn of a network, and a joint turn, may be.
use Rattle.std.proofs.Common.{◌≡◌, ℕ, Bool, true, false, cond, eqb, ltb, List, [], ◌∷◌, ◌&&◌, refl, sym, ap, ◌∙◌, length}
use Rattle.std.proofs.lemmas.Bool.{eqb-true}
use Rattle.mage_network.specs.Workers.{Act, Moves, Sends, Takes, Stops, Moved, Sent, Took, Worker, doing}
use Rattle.mage_network.specs.Network.{Network, put, put_link, appended, takes, acts, turn, run, opening}
use Rattle.mage_network.specs.Together.{Joint, Alone, Hands, moves, hands, joint, joint_run}
use Rattle.mage_network.specs.Laws.{network_after}
use Rattle.mage_network.proofs.Accounts.{Accounts, accounts_fresh, accounts_moved, accounts_sent, accounts_took, accounts_handed}

abbrev pub AccountsFor : {S L W : Type 0} → (ℕ → S → Act S L W) → (ℕ → S) → Network S L W → Type 0
AccountsFor next starts network = Accounts next starts network.workers network.links

-- What holds where a joint turn leaves the workers as they were, where one moves, and where a wire
-- is handed over, holds after each joint turn.
pub joint_each : {S L W : Type 0} (next : ℕ → S → Act S L W) (workers : ℕ → Worker S L W)
    (P : (ℕ → Worker S L W) → Type 0) → P workers →
    ((n : ℕ) (said : List L) (after : S) → next n (workers n).state ≡ Moves said after →
    P (put workers n (doing (workers n) (Moved said) after))) →
    ((source target : ℕ) (wire : W) (sent : S) (took : W → S) → eqb source target ≡ false →
    next source (workers source).state ≡ Sends target wire sent →
    next target (workers target).state ≡ Takes source took →
    P (put (put workers source (doing (workers source) (Sent target wire) sent)) target
    (doing (workers target) (Took source wire) (took wire)))) →
    (turn : Joint) → P (joint next turn workers)
joint_each {S} {L} {W} next workers P stays moved handed (Alone n) = go (next n (workers n).state)
    refl
  where
    go : (act : Act S L W) → next n (workers n).state ≡ act → P (moves n act workers)
    go (Moves said after) e = moved n said after e
    go _ e = stays
joint_each {S} {L} {W} next workers P stays moved handed (Hands source target) =
    go (next source (workers source).state) (next target (workers target).state) refl refl
  where
    different : (to from : ℕ) (wire : W) (sent : S) (took : W → S) →
        next source (workers source).state ≡ Sends to wire sent →
        next target (workers target).state ≡ Takes from took → (b : Bool) → eqb source target ≡ b →
        eqb source target ≡ false
    different to from wire sent took e f false d = d
    different to from wire sent took e f true d =
        let both : Sends to wire sent ≡ Takes from took =
        sym e ∙ (ap (λ i. next i (workers i).state) (eqb-true source target d) ∙ f) in absurd
        (cc)

    over : (to from : ℕ) (wire : W) (sent : S) (took : W → S) →
        next source (workers source).state ≡ Sends to wire sent →
        next target (workers target).state ≡ Takes from took → (b c : Bool) → eqb target to ≡ b →
        eqb source from ≡ c →
        P (cond (b && c) (put (put workers source (doing (workers source) (Sent target wire) sent))
        target (doing (workers target) (Took source wire) (took wire))) workers)
    over to from wire sent took e f true true d k =
        handed source target wire sent took (different to from wire sent took e f
        (eqb source target) refl)
        (e ∙ ap (λ i. Sends i wire sent) (sym (eqb-true target to d)))
        (f ∙ ap (λ i. Takes i took) (sym (eqb-true source from k)))
    over to from wire sent took e f true false d k = stays
    over to from wire sent took e f false c d k = stays

    go : (one other : Act S L W) → next source (workers source).state ≡ one →
        next target (workers target).state ≡ other → P (hands source target one other workers)
    go (Sends to wire sent) (Takes from took) e f = over to from wire sent took e f (eqb target to)
        (eqb source from) refl refl
    go _ _ e f = stays

module _ {S L W : Type 0} (next : ℕ → S → Act S L W) (starts : ℕ → S) where
  acts_accounts : (capacity : ℕ) (network : Network S L W) (n : ℕ) (act : Act S L W) →
      next n (network.workers n).state ≡ act → AccountsFor next starts network →
      AccountsFor next starts (acts capacity n act network)
  acts_accounts capacity network n (Moves said after) e h =
      accounts_moved next starts network.workers network.links n said after e h
  acts_accounts capacity network n (Sends target wire after) e h =
      go (ltb (length (network.links n target)) capacity)
    where
      sent : Network S L W
      sent = record {
        workers = put network.workers n
            (doing (network.workers n) (Sent target wire) after);
        links =
            put_link network.links n target (appended (network.links n target) wire);
      }

      go : (b : Bool) → AccountsFor next starts (cond b sent network)
      go true = accounts_sent next starts network.workers network.links n target wire after e h
      go false = h
  acts_accounts capacity network n (Takes source after) e h = go (network.links source n) refl
    where
      go : (link : List W) → network.links source n ≡ link →
          AccountsFor next starts (takes n source after link network)
      go [] lies = h
      go (wire ∷ left) lies = accounts_took next starts network.workers network.links n source after
          wire left e lies h
  acts_accounts capacity network n Stops e h = h

  pub turn_accounts : (capacity : ℕ) (network : Network S L W) (n : ℕ) →
      AccountsFor next starts network → AccountsFor next starts (turn next capacity n network)
  turn_accounts capacity network n h = acts_accounts capacity network n
      (next n (network.workers n).state) refl h

  pub run_accounts : (capacity : ℕ) (schedule : List ℕ) (network : Network S L W) →
      AccountsFor next starts network → AccountsFor next starts (run next capacity schedule network)
  run_accounts capacity [] network h = h
  run_accounts capacity (n ∷ schedule) network h =
      run_accounts capacity schedule (turn next capacity n network)
      (turn_accounts capacity network n h)

  pub network_accounts : (capacity : ℕ) (schedule : List ℕ) →
      AccountsFor next starts (network_after next starts capacity schedule)
  network_accounts capacity schedule = run_accounts capacity schedule (opening starts)
      (accounts_fresh next starts)

  pub joint_accounts : (workers : ℕ → Worker S L W) → Accounts next starts workers (λ n m. []) →
      (turn : Joint) → Accounts next starts (joint next turn workers) (λ n m. [])
  joint_accounts workers h turn =
      joint_each next workers (λ w. Accounts next starts w (λ n m. [])) h
      (λ n said after e. accounts_moved next starts workers (λ n m. []) n said after e h)
      (λ source target wire sent took d e f. accounts_handed next starts workers source target
      wire sent took d e f h) turn

  -- what the workers keep at each joint turn they keep in the joint run
  pub joint_run_keeps : (P : (ℕ → Worker S L W) → Type 0) →
      ((workers : ℕ → Worker S L W) (turn : Joint) → Accounts next starts workers (λ n m. []) →
      P workers → P (joint next turn workers)) →
      (turns : List Joint) (workers : ℕ → Worker S L W) → Accounts next starts workers (λ n m. []) →
      P workers → Accounts next starts (joint_run next turns workers) (λ n m. []) × P
      (joint_run next turns workers)
  joint_run_keeps P keeps [] workers h p = (h, p)
  joint_run_keeps P keeps (turn ∷ turns) workers h p =
      joint_run_keeps P keeps turns (joint next turn workers) (joint_accounts workers h turn)
      (keeps workers turn h p)
