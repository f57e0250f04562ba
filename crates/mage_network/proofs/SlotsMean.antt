-- Workers over slots mean workers whose transfers are served at once: the four facts.
use Rattle.std.proofs.Common.{◌≡◌, ◌≢◌, ℕ, true, [], ◌∷◌, None, Some, is_some, refl, sym, ap, subst, ◌⊎◌, inl, inr}
use Rattle.mage_network.specs.Workers.{Act, Moves, Sends, Takes, Stops, Deed, Moved, Sent, Took}
use Rattle.mage_network.specs.Pasts.{Allows}
use Rattle.mage_network.specs.Network.{put}
use Rattle.mage_network.specs.Waiting.{SameAct, SameOrWaits, Means}
use Rattle.mage_network.specs.Slots.{Transfer, Reads, Writes, Slot, Idle, Asked, Busy, Served, Paged, Doing, Acts, Asks, Finishes_read, Finishes_write, Service, Claims, Serves, idle, page_of, bytes_of, pages_after, asked, served_at_once, finished, act_of, asks_of, finishes_read, finishes_write, act_in, or_stops, claims, serves, becomes, over_slots, at_once, in_flight, AsksFreePage, NeverAsksTwice, SlotMeans, PagesMean, IsServed}
use Rattle.mage_network.proofs.Orders.{leads_keeps}
use Rattle.mage_network.proofs.SlotLemmas.{some_same, none_some, asked_means, finished_means, claimed_means, served_means}

-- the same slots and pages, with another engine
engine_means : {Eng B : Type 0} (real meant : Paged Eng B) (after : Eng) → PagesMean real meant →
    PagesMean (record { engine = after; slots = real.slots; pages = real.pages })
    (record { engine = after; slots = meant.slots; pages = meant.pages })
engine_means real meant after h = record {
  engines = refl;
  each = h.each;
  others =
      h.others;
  differ = h.differ;
}

idle_starts : {Eng B : Type 0} (engine : Eng) (pages : ℕ → B) → PagesMean (idle engine pages)
    (idle engine pages)
idle_starts engine pages = record {
  engines = refl;
  each = λ i. tt;
  others =
      λ page free. refl;
  differ = λ i j page e f. absurd (none_some page e);
}

module _ {Eng L W B : Type 0} (engine : ℕ → Eng → Doing Eng L W B) (starts : ℕ → Paged Eng B) where
  -- one deed more of the meaning
  on : (n : ℕ) (real meant real_after meant_after : Paged Eng B) (deed : Deed L W) →
      IsServed engine starts n real meant → Allows (at_once engine n meant) deed meant_after →
      PagesMean real_after meant_after → IsServed engine starts n real_after meant_after
  on n real meant real_after meant_after deed h allows means =
      record { means = means; past = deed ∷ h.past; leads = (meant, h.leads, allows) }

  allowed : (n : ℕ) (meant : Paged Eng B) (act : Act (Paged Eng B) L W) (deed : Deed L W)
      (after : Paged Eng B) → at_once engine n meant ≡ act → Allows act deed after →
      Allows (at_once engine n meant) deed after
  allowed n meant act deed after e h = subst (λ a. Allows a deed after) (sym e) h

  engine_alike : (n : ℕ) (real meant : Paged Eng B) (h : IsServed engine starts n real meant)
      (act : Act Eng L W) → at_once engine n meant ≡ act_of act meant →
      SameAct (IsServed engine starts n) (act_of act real) (act_of act meant)
  engine_alike n real meant h (Moves said after) e = (
    refl,
    on n real meant (record real { engine = after }) (record meant { engine = after })
        (Moved said) h
        (allowed n meant (Moves said (record meant { engine = after })) (Moved said)
        (record meant { engine = after }) e (refl, refl)) (engine_means real meant after h.means),
  )
  engine_alike n real meant h (Sends target wire after) e = (
    refl,
    refl,
    on n real meant (record real { engine = after })
        (record meant { engine = after }) (Sent target wire) h
        (allowed n meant (Sends target wire (record meant { engine = after })) (Sent target wire)
        (record meant { engine = after }) e (refl, refl, refl))
        (engine_means real meant after h.means),
  )
  engine_alike n real meant h (Takes source after) e = (
    refl,
    λ wire. on n real meant (record real { engine = after wire })
        (record meant { engine = after wire }) (Took source wire) h
        (allowed n meant (act_of (Takes source after) meant) (Took source wire)
        (record meant { engine = after wire }) e (refl, refl))
        (engine_means real meant (after wire) h.means),
  )
  engine_alike n real meant h Stops e = tt

  -- a silent move of the meaning
  quietly : (n : ℕ) (real meant real_after meant_after : Paged Eng B) →
      IsServed engine starts n real meant → at_once engine n meant ≡ Moves [] meant_after →
      PagesMean real_after meant_after → SameAct {L = L} {W = W} (IsServed engine starts n)
      (Moves [] real_after) (Moves [] meant_after)
  quietly n real meant real_after meant_after h e means = (
    refl,
    on n real meant real_after meant_after (Moved []) h
        (allowed n meant (Moves [] meant_after) (Moved []) meant_after e (refl, refl)) means,
  )

  asks_alike : (n : ℕ) (real meant : Paged Eng B) (h : IsServed engine starts n real meant)
      (slot : ℕ) (t : Transfer B) (after : Eng) →
      ((i : ℕ) → in_flight (meant.slots i) ≢ Some (page_of t)) → (word other : Slot B) →
      real.slots slot ≡ word →
      at_once engine n meant ≡ or_stops (asks_of other (served_at_once slot t after meant)) →
      SlotMeans real.pages meant.pages word other →
      SameOrWaits {L = L} {W = W} (IsServed engine starts n)
      (asks_of word (asked slot t after real))
      (or_stops (asks_of other (served_at_once slot t after meant)))
  asks_alike n real meant h slot t after free Idle Idle is e means =
      quietly n real meant (asked slot t after real) (served_at_once slot t after meant) h e
      (asked_means real meant slot after h.means t free is)
  asks_alike n real meant h slot t after free Idle _ is e means = absurd means
  asks_alike n real meant h slot t after free _ _ is e means = tt

  reads_alike : (n : ℕ) (real meant : Paged Eng B) (h : IsServed engine starts n real meant)
      (slot : ℕ) (after : B → Eng) (word other : Slot B) → real.slots slot ≡ word →
      at_once engine n meant ≡ or_stops (finishes_read other slot after meant) →
      SlotMeans real.pages meant.pages word other →
      SameOrWaits {L = L} {W = W} (IsServed engine starts n) (finishes_read word slot after real)
      (or_stops (finishes_read other slot after meant))
  reads_alike n real meant h slot after (Served (Reads p) b) (Served (Reads q) c) is e means =
      quietly n real meant (finished slot (after b) real) (finished slot (after c) meant) h e
      (finished_means real meant slot (after b) h.means (after c) (Reads p) b (ap after means.1) is)
  reads_alike n real meant h slot after (Served (Reads p) b) (Served (Writes q x) c) is e means =
      let both : Reads p ≡ Writes q x = means.0 in absurd (cc)
  reads_alike n real meant h slot after (Served (Reads p) b) _ is e means = absurd means
  reads_alike n real meant h slot after _ _ is e means = tt

  writes_alike : (n : ℕ) (real meant : Paged Eng B) (h : IsServed engine starts n real meant)
      (slot : ℕ) (after : Eng) (word other : Slot B) → real.slots slot ≡ word →
      at_once engine n meant ≡ or_stops (finishes_write other slot after meant) →
      SlotMeans real.pages meant.pages word other →
      SameOrWaits {L = L} {W = W} (IsServed engine starts n) (finishes_write word slot after real)
      (or_stops (finishes_write other slot after meant))
  writes_alike n real meant h slot after (Served (Writes p x) b) (Served (Writes q y) c) is e
      means = quietly n real meant (finished slot after real) (finished slot after meant) h e
      (finished_means real meant slot after h.means after (Writes p x) b refl is)
  writes_alike n real meant h slot after (Served (Writes p x) b) (Served (Reads q) c) is e means =
      let both : Writes p x ≡ Reads q = means.0 in absurd (cc)
  writes_alike n real meant h slot after (Served (Writes p x) b) _ is e means = absurd means
  writes_alike n real meant h slot after _ _ is e means = tt

  doing_alike : (n : ℕ) (real meant : Paged Eng B) (h : IsServed engine starts n real meant)
      (doing : Doing Eng L W B) → AsksFreePage doing meant.slots →
      at_once engine n meant ≡ or_stops (act_in served_at_once doing meant) →
      SameOrWaits (IsServed engine starts n) (act_in asked doing real)
      (or_stops (act_in served_at_once doing meant))
  doing_alike n real meant h (Acts act) free e = engine_alike n real meant h act e
  doing_alike n real meant h (Asks slot t after) free e = asks_alike n real meant h slot t after
      free (real.slots slot) (meant.slots slot) refl e (h.means.each slot)
  doing_alike n real meant h (Finishes_read slot after) free e = reads_alike n real meant h slot
      after (real.slots slot) (meant.slots slot) refl e (h.means.each slot)
  doing_alike n real meant h (Finishes_write slot after) free e = writes_alike n real meant h slot
      after (real.slots slot) (meant.slots slot) refl e (h.means.each slot)

  claims_keep : (n : ℕ) (real meant after : Paged Eng B) (h : IsServed engine starts n real meant)
      (slot : ℕ) (word : Slot B) → real.slots slot ≡ word → claims slot word real ≡ Some after →
      PagesMean after meant
  claims_keep n real meant after h slot (Asked t) is e = subst (λ w. PagesMean w meant)
      (some_same (record real { slots = put real.slots slot (Busy t) }) after e)
      (claimed_means real meant slot t h.means is)
  claims_keep n real meant after h slot _ is e = absurd (none_some after e)

  serves_keep : (n : ℕ) (real meant after : Paged Eng B) (h : IsServed engine starts n real meant)
      (slot : ℕ) (word : Slot B) → real.slots slot ≡ word → serves slot word real ≡ Some after →
      PagesMean after meant
  serves_keep n real meant after h slot (Busy t) is e =
      subst (λ w. PagesMean w meant) (some_same
      (record {
        engine = real.engine;
        slots =
            put real.slots slot (Served t (bytes_of t real.pages));
        pages =
            pages_after t real.pages;
      }) after e) (served_means real meant slot t h.means is)
  serves_keep n real meant after h slot _ is e = absurd (none_some after e)

  services_keep : (n : ℕ) (service : Service) (real after meant : Paged Eng B) →
      IsServed engine starts n real meant → becomes service real ≡ Some after →
      IsServed engine starts n after meant
  services_keep n (Claims slot) real after meant h e =
      record {
        means = claims_keep n real meant after h slot (real.slots slot) refl e;
        past =
            h.past;
        leads = h.leads;
      }
  services_keep n (Serves slot) real after meant h e =
      record {
        means = serves_keep n real meant after h slot (real.slots slot) refl e;
        past =
            h.past;
        leads = h.leads;
      }

  -- where a real worker waits, its meaning has stopped, or its slot can be claimed or served
  abbrev MayGo : ℕ → Paged Eng B → Act (Paged Eng B) L W → Type 0
  MayGo n real act = (act ≡ Stops) ⊎ ((service : Service) × (is_some (becomes service real) ≡ true))

  asked_goes : (n : ℕ) (real : Paged Eng B) (act : Act (Paged Eng B) L W) (slot : ℕ)
      (t : Transfer B) → real.slots slot ≡ Asked t → MayGo n real act
  asked_goes n real act slot t is = inr (Claims slot, ap (λ w. is_some (claims slot w real)) is)

  busy_goes : (n : ℕ) (real : Paged Eng B) (act : Act (Paged Eng B) L W) (slot : ℕ)
      (t : Transfer B) → real.slots slot ≡ Busy t → MayGo n real act
  busy_goes n real act slot t is = inr (Serves slot, ap (λ w. is_some (serves slot w real)) is)

  asks_wait : (n : ℕ) (real meant left right : Paged Eng B) (word other : Slot B) →
      asks_of {Eng = Eng} {L = L} {W = W} word left ≡ None → SlotMeans real.pages meant.pages word
      other → MayGo n real (or_stops (asks_of other right))
  asks_wait n real meant left right Idle _ e means = absurd (none_some (Moves [] left) (sym e))
  asks_wait n real meant left right _ Idle e means = absurd means
  asks_wait n real meant left right _ _ e means = inl refl

  reads_wait : (n : ℕ) (real meant : Paged Eng B) (slot : ℕ) (after : B → Eng)
      (word other : Slot B) → real.slots slot ≡ word → finishes_read {Eng = Eng} {L = L} {W = W}
      word slot after real ≡ None → SlotMeans real.pages meant.pages word other →
      MayGo n real (or_stops (finishes_read other slot after meant))
  reads_wait n real meant slot after (Asked t) other is e means =
      asked_goes n real (or_stops (finishes_read other slot after meant)) slot t is
  reads_wait n real meant slot after (Busy t) other is e means =
      busy_goes n real (or_stops (finishes_read other slot after meant)) slot t is
  reads_wait n real meant slot after (Served (Reads p) b) other is e means =
      absurd (none_some (Moves [] (finished slot (after b) real)) (sym e))
  reads_wait n real meant slot after (Served (Writes p x) b) (Served (Writes q y) c) is e means =
      inl refl
  reads_wait n real meant slot after (Served (Writes p x) b) (Served (Reads q) c) is e means =
      let both : Writes p x ≡ Reads q = means.0 in absurd (cc)
  reads_wait n real meant slot after (Served (Writes p x) b) _ is e means = absurd means
  reads_wait n real meant slot after Idle Idle is e means = inl refl
  reads_wait n real meant slot after Idle _ is e means = absurd means

  writes_wait : (n : ℕ) (real meant : Paged Eng B) (slot : ℕ) (after : Eng) (word other : Slot B) →
      real.slots slot ≡ word → finishes_write {Eng = Eng} {L = L} {W = W} word slot after
      real ≡ None → SlotMeans real.pages meant.pages word other →
      MayGo n real (or_stops (finishes_write other slot after meant))
  writes_wait n real meant slot after (Asked t) other is e means =
      asked_goes n real (or_stops (finishes_write other slot after meant)) slot t is
  writes_wait n real meant slot after (Busy t) other is e means =
      busy_goes n real (or_stops (finishes_write other slot after meant)) slot t is
  writes_wait n real meant slot after (Served (Writes p x) b) other is e means =
      absurd (none_some (Moves [] (finished slot after real)) (sym e))
  writes_wait n real meant slot after (Served (Reads p) b) (Served (Reads q) c) is e means =
      inl refl
  writes_wait n real meant slot after (Served (Reads p) b) (Served (Writes q x) c) is e means =
      let both : Reads p ≡ Writes q x = means.0 in absurd (cc)
  writes_wait n real meant slot after (Served (Reads p) b) _ is e means = absurd means
  writes_wait n real meant slot after Idle Idle is e means = inl refl
  writes_wait n real meant slot after Idle _ is e means = absurd means

  doing_waits : (n : ℕ) (real meant : Paged Eng B) (h : IsServed engine starts n real meant)
      (doing : Doing Eng L W B) → act_in asked doing real ≡ None →
      MayGo n real (or_stops (act_in served_at_once doing meant))
  doing_waits n real meant h (Acts act) e = absurd (none_some (act_of act real) (sym e))
  doing_waits n real meant h (Asks slot t after) e =
      asks_wait n real meant (asked slot t after real) (served_at_once slot t after meant)
      (real.slots slot) (meant.slots slot) e (h.means.each slot)
  doing_waits n real meant h (Finishes_read slot after) e = reads_wait n real meant slot after
      (real.slots slot) (meant.slots slot) refl e (h.means.each slot)
  doing_waits n real meant h (Finishes_write slot after) e = writes_wait n real meant slot after
      (real.slots slot) (meant.slots slot) refl e (h.means.each slot)

  same_doing : (n : ℕ) (real meant : Paged Eng B) → PagesMean real meant →
      engine n meant.engine ≡ engine n real.engine
  same_doing n real meant h = ap (engine n) (sym h.engines)

-- the four facts
pub slots_mean : {Eng L W B : Type 0} (engine : ℕ → Eng → Doing Eng L W B) (engines : ℕ → Eng)
    (pages : ℕ → ℕ → B) → NeverAsksTwice engine (λ n. idle (engines n) (pages n)) →
    Means (IsServed engine (λ n. idle (engines n) (pages n))) (over_slots engine) (at_once engine)
    (λ n. idle (engines n) (pages n)) (λ n. idle (engines n) (pages n))
slots_mean {Eng} {L} {W} {B} engine engines pages never = record {
  starts_tied = λ n. record { means = idle_starts (engines n) (pages n); past = []; leads = refl };
  acts_alike = λ n real meant h. subst (λ d. SameOrWaits (IsServed engine starts n)
      (act_in asked d real) (at_once engine n meant))
      (same_doing engine starts n real meant h.means)
      (doing_alike engine starts n real meant h (engine n meant.engine)
      (never n h.past meant h.leads) refl);
  happens = λ n service real after meant h e. services_keep engine starts n service real after meant
      h e;
  waits = λ n real meant h e. doing_waits engine starts n real meant h (engine n meant.engine)
      (subst (λ d. act_in asked d real ≡ None) (sym (same_doing engine starts n real meant h.means))
      e);
}
  where
    starts : ℕ → Paged Eng B
    starts n = idle (engines n) (pages n)

-- what each worker has at its start, and keeps at each deed, may show that it never asks twice
pub never_asks_twice : {Eng L W B : Type 0} (engine : ℕ → Eng → Doing Eng L W B)
    (starts : ℕ → Paged Eng B) (Kept : ℕ → Paged Eng B → Type 0) →
    ((n : ℕ) → Kept n (starts n)) →
    ((n : ℕ) (before after : Paged Eng B) (deed : Deed L W) → Kept n before →
    Allows (at_once engine n before) deed after → Kept n after) →
    ((n : ℕ) (worker : Paged Eng B) → Kept n worker →
    AsksFreePage (engine n worker.engine) worker.slots) →
    NeverAsksTwice engine starts
never_asks_twice engine starts Kept first keeps free n past worker h =
    free n worker
    (leads_keeps (at_once engine n) (starts n) (Kept n) (first n) (keeps n) past worker h)
