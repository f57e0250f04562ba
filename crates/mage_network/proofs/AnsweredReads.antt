-- A run over pages is the run that is answered with what it reads.
use Rattle.std.proofs.Common.{◌≡◌, ℕ, Bool, true, false, cond, eqb, List, [], ◌∷◌, ◌++◌, Option, None, Some, refl, sym, ap, ◌∙◌, subst, append-nil}
use Rattle.std.proofs.Math.Path.{fun_ext}
use Rattle.mage_network.specs.Workers.{Act, Moves, Sends, Takes, Stops, Deed, Moved, Sent, Took, Worker}
use Rattle.mage_network.specs.Pasts.{Allows, Leads, WentAlone}
use Rattle.mage_network.specs.Network.{put}
use Rattle.mage_network.specs.Together.{Joint, together}
use Rattle.mage_network.specs.Slots.{Transfer, Reads, Writes, Slot, Idle, Served, Paged, Doing, Asks, Finishes_read, Finishes_write, bytes_of, pages_after, served_at_once, finished, act_of, asks_of, finishes_read, finishes_write, act_in, or_stops, at_once}
use Rattle.mage_network.specs.Answers.{Answered, act_beside, act_on, hears, answered}
use Rattle.mage_network.specs.Reading.{Flying, flight_of, flying_of, flies, act_flying, asks_flying, reads_flying, writes_flying, hears_in, hearing, hears_slot, heard_after, heard_in, answered_start}
use Rattle.mage_network.proofs.Places.{put_here}
use Rattle.mage_network.proofs.Orders.{stops_allows}
use Rattle.mage_network.proofs.Accounts.{Accounts}
use Rattle.mage_network.proofs.Meeting.{together_keeps, accounts_begin}
use Rattle.mage_network.proofs.Answering.{answer_first, answer_gone, leads_too}

-- a slot given anew, without its pages
flies_so : {Eng B : Type 0} (worker : Paged Eng B) (slot : ℕ) (word : Slot B) (after : Eng)
    (pages : ℕ → B) →
    flies slot (flight_of word) after (flying_of worker) ≡ flying_of
    (record { engine = after; slots = put worker.slots slot word; pages = pages })
flies_so {Eng} {B} worker slot word after pages = ap (λ f. record { engine = after; flights = f })
    (fun_ext (λ i. go i (eqb slot i)))
  where
    go : (i : ℕ) (b : Bool) → cond b (flight_of word) (flight_of (worker.slots i)) ≡ flight_of
        (cond b word (worker.slots i))
    go i true = refl
    go i false = refl

module _ {Eng L W B : Type 0} (before worker : Paged Eng B) (rest : ℕ → List B) where
  act_answered : (act : Act Eng L W) (deed : Deed L W) → Allows (act_of act before) deed worker →
      Allows (act_beside (act_flying act (flying_of before)) rest) deed (answered_start worker rest)
  act_answered (Moves said after) (Moved x) h = (h.0, ap (λ w. answered_start w rest) h.1)
  act_answered (Sends target wire after) (Sent w x) h =
      (h.0, h.1, ap (λ w. answered_start w rest) h.2)
  act_answered (Takes source after) (Took w x) h = (h.0, ap (λ w. answered_start w rest) h.1)
  act_answered _ _ h = absurd h

  -- a silent move to the same state without pages
  quiet : (left : Paged Eng B) (flown : Flying Eng B) (deed : Deed L W) → flown ≡ flying_of left →
      Allows (Moves [] left) deed worker → Allows
      (Moves [] (record { state = flown; answers = rest })) deed (answered_start worker rest)
  quiet left flown (Moved x) e h = (
    h.0,
    ap (λ f. record { state = f; answers = rest })
        e ∙ ap (λ w. answered_start w rest) h.1,
  )
  quiet left flown _ e h = absurd h

  asks_answered : (slot : ℕ) (t : Transfer B) (after : Eng) (word : Slot B) (deed : Deed L W) →
      Allows (or_stops (asks_of word (served_at_once slot t after before))) deed worker →
      Allows (act_on None (asks_flying (flight_of word) slot t after (flying_of before)) rest) deed
      (answered_start worker rest)
  asks_answered slot t after Idle deed h = quiet (served_at_once slot t after before)
      (flies slot (Some t) after (flying_of before)) deed
      (flies_so before slot (Served t (bytes_of t before.pages)) after (pages_after t before.pages))
      h
  asks_answered slot t after _ deed h = absurd (stops_allows {S = Paged Eng B} deed worker h)

  writes_answered : (slot : ℕ) (after : Eng) (word : Slot B) (deed : Deed L W) →
      Allows (or_stops (finishes_write word slot after before)) deed worker →
      Allows (act_on None (writes_flying (flight_of word) slot after (flying_of before)) rest) deed
      (answered_start worker rest)
  writes_answered slot after (Served (Writes p x) b) deed h = quiet (finished slot after before)
      (flies slot None after (flying_of before)) deed (flies_so before slot Idle after before.pages)
      h
  writes_answered slot after _ deed h = absurd (stops_allows {S = Paged Eng B} deed worker h)

  reads_answered : (slot : ℕ) (after : B → Eng) (p : ℕ) (b : B) (deed : Deed L W) →
      Allows (Moves [] (finished slot (after b) before)) deed worker →
      Allows (act_on None (reads_flying (Some (Reads p)) slot after (flying_of before))
      (put rest p (b ∷ rest p))) deed (answered_start worker rest)
  reads_answered slot after p b deed h =
      subst (λ a. Allows a deed (answered_start worker rest))
      (sym (ap (λ l. hears None p (λ bytes. flies slot None (after bytes) (flying_of before)) l
      (put rest p (b ∷ rest p))) (put_here rest p (b ∷ rest p))
      ∙ ap (λ r. Moves [] (record {
        state = flies slot None (after b) (flying_of before);
        answers = r;
      })) (answer_gone rest p (b ∷ rest p))))
      (quiet (finished slot (after b) before) (flies slot None (after b) (flying_of before))
      deed (flies_so before slot Idle (after b) before.pages) h)

module _ {Eng L W B : Type 0} (engine : ℕ → Eng → Doing Eng L W B) (n : ℕ) (start : Paged Eng B)
  where
    -- the answered run, from a state with what was heard and what is to come
    abbrev Along : (ℕ → List B) → List (Deed L W) → Paged Eng B → (ℕ → List B) → Type 0
    Along heard past worker rest = Leads (answered None (hearing engine n))
        (answered_start start (λ page. heard page ++ rest page)) past (answered_start worker rest)

    -- one deed more
    step : (before worker : Paged Eng B) (past : List (Deed L W)) (deed : Deed L W)
        (heard rest : ℕ → List B) → ((more : ℕ → List B) → Along heard past before more) →
        (doing : Doing Eng L W B) → engine n before.engine ≡ doing →
        Allows (or_stops (act_in served_at_once doing before)) deed worker →
        Along (heard_after doing before.slots heard) (deed ∷ past) worker rest
    step before worker past deed heard rest along (Doing.Acts act) e h = (
      answered_start before rest,
      along rest,
      subst (λ d. Allows (act_on None (hears_in d (flying_of before)) rest) deed
          (answered_start worker rest)) (sym e) (act_answered before worker rest act deed h),
    )
    step before worker past deed heard rest along (Asks slot t after) e h = (
      answered_start before rest,
      along rest,
      subst (λ d. Allows (act_on None (hears_in d (flying_of before)) rest) deed
          (answered_start worker rest)) (sym e) (asks_answered before worker rest slot t after
          (before.slots slot) deed h),
    )
    step before worker past deed heard rest along (Finishes_write slot after) e h = (
      answered_start before rest,
      along rest,
      subst (λ d. Allows (act_on None (hears_in d (flying_of before)) rest) deed
          (answered_start worker rest)) (sym e) (writes_answered before worker rest slot after
          (before.slots slot) deed h),
    )
    step before worker past deed heard rest along (Finishes_read slot after) e h =
        go (before.slots slot) refl h
      where
        go : (word : Slot B) → before.slots slot ≡ word →
            Allows (or_stops (finishes_read word slot after before)) deed worker →
            Along (hears_slot word heard) (deed ∷ past) worker rest
        go (Served (Reads p) b) is k = (
          answered_start before (put rest p (b ∷ rest p)),
          subst (λ a. Leads (answered None (hearing engine n)) (answered_start start a) past
              (answered_start before (put rest p (b ∷ rest p)))) (answer_first heard rest p b)
              (along (put rest p (b ∷ rest p))),
          subst (λ d. Allows (act_on None (hears_in d (flying_of before))
              (put rest p (b ∷ rest p))) deed (answered_start worker rest)) (sym e)
              (subst (λ w. Allows (act_on None
              (reads_flying (flight_of w) slot after (flying_of before))
              (put rest p (b ∷ rest p))) deed (answered_start worker rest)) (sym is)
              (reads_answered before worker rest slot after p b deed k)),
        )
        go _ is k = absurd (stops_allows {S = Paged Eng B} deed worker k)

    pub run_is_answered : (past : List (Deed L W)) (worker : Paged Eng B)
        (leads : Leads (at_once engine n) start past worker) (rest : ℕ → List B) →
        Along (heard_in engine n start past worker leads) past worker rest
    run_is_answered [] worker leads rest = ap (λ w. answered_start w rest) leads
    run_is_answered (deed ∷ past) worker leads rest =
        step leads.0 worker past deed (heard_in engine n start past leads.0 leads.1) rest
        (run_is_answered past leads.0 leads.1) (engine n leads.0.engine) refl leads.2

-- The joint run that is answered with what the joint run reads is the same, at each worker that is
-- done.
module _ {Eng L W B : Type 0} (past_end : Option B) (engine : ℕ → Eng → Doing Eng L W B)
    (starts : ℕ → Paged Eng B) (turns others : List Joint)
    (leads : (n : ℕ) → WentAlone (at_once engine n) (starts n)
    (together (at_once engine) starts turns n)) where
  abbrev opening : ℕ → Answered (Flying Eng B) B
  opening n = answered_start (starts n) (heard_in engine n (starts n)
      (together (at_once engine) starts turns n).past
      (together (at_once engine) starts turns n).state (leads n))

  abbrev ended : ℕ → Worker (Answered (Flying Eng B) B) L W
  ended n = record {
    state = answered_start (together (at_once engine) starts turns n).state
        (λ page. []);
    past = (together (at_once engine) starts turns n).past;
  }

  ended_alone : (n : ℕ) → WentAlone (answered past_end (hearing engine n)) (opening n) (ended n)
  ended_alone n =
      let worker = together (at_once engine) starts turns n in
      leads_too past_end (hearing engine n) (opening n) worker.past
      (answered_start worker.state (λ page. []))
      (subst (λ a. Leads (answered None (hearing engine n)) (answered_start (starts n) a)
      worker.past (answered_start worker.state (λ page. [])))
      (fun_ext (λ page. append-nil (heard_in engine n (starts n) worker.past worker.state
      (leads n) page)))
      (run_is_answered engine n (starts n) worker.past worker.state (leads n) (λ page. [])))

  ended_accounts : Accounts (λ n. answered past_end (hearing engine n)) opening ended (λ n m. [])
  ended_accounts = record {
    alone = ended_alone;
    rest =
        (together_keeps (at_once engine) starts (λ w. Unit {0}) (λ w t a u. tt) tt turns).0.rest;
  }

  pub joint_is_answered : (n : ℕ) → engine n (together (at_once engine) starts turns n).state.engine
      ≡ Doing.Acts Stops →
      answered past_end (hearing engine n) (together (λ m. answered past_end (hearing engine m))
      opening others n).state ≡ Stops →
      (together (at_once engine) starts turns n).past
      ≡ (together (λ m. answered past_end (hearing engine m)) opening others n).past
  joint_is_answered n done stops =
      let worker = together (at_once engine) starts turns n in
      let begins = accounts_begin (λ m. answered past_end (hearing engine m)) opening ended
      (λ k m. []) ended_accounts others n stops in
      ap (λ w. w.past) (begins.done (ap (λ d. act_on past_end (hears_in d (flying_of worker.state))
      (λ page. [])) done))
