-- What every network keeps: each worker is where its past leads, and on each link, what was sent is
-- what was taken and then what lies on it. A wire handed over is one sent and then taken.
use Rattle.std.proofs.Common.{◌≡◌, ℕ, Bool, true, false, cond, eqb, List, [], ◌∷◌, ◌++◌, ◌&&◌, refl, sym, ap, ◌∙◌, subst, append_assoc}
use Rattle.std.proofs.lemmas.Bool.{eqb-true}
use Rattle.mage_network.specs.Workers.{Act, Moves, Sends, Takes, Deed, Moved, Sent, Took, Worker, sent_to, taken_from, doing, fresh}
use Rattle.mage_network.specs.Pasts.{Allows, WentAlone}
use Rattle.mage_network.specs.Network.{put, put_link, appended}
use Rattle.mage_network.specs.Laws.{LinksHoldTheRest, WentApart}
use Rattle.mage_network.proofs.Places.{put_each, put_other, put_link_here, put_link_source, put_link_target}

pub record Accounts {S L W : Type 0} (next : ℕ → S → Act S L W) (starts : ℕ → S)
    (workers : ℕ → Worker S L W) (links : ℕ → ℕ → List W) : Type 0 where
  pub alone : (n : ℕ) → WentAlone (next n) (starts n) (workers n)
  pub rest : LinksHoldTheRest workers links

sent_stays : {S L W : Type 0} (workers : ℕ → Worker S L W) (n : ℕ) (deed : Deed L W) (after : S)
    (m k : ℕ) →
    sent_to m (deed ∷ (workers n).past) ≡ sent_to m (workers n).past →
    sent_to m (put workers n (doing (workers n) deed after) k).past ≡ sent_to m (workers k).past
sent_stays workers n deed after m k e =
    put_each (λ i w. sent_to m w.past ≡ sent_to m (workers i).past) workers n
    (doing (workers n) deed after) e (λ i d. refl) k

taken_stays : {S L W : Type 0} (workers : ℕ → Worker S L W) (n : ℕ) (deed : Deed L W) (after : S)
    (m k : ℕ) →
    taken_from m (deed ∷ (workers n).past) ≡ taken_from m (workers n).past →
    taken_from m (put workers n (doing (workers n) deed after) k).past ≡ taken_from m
    (workers k).past
taken_stays workers n deed after m k e =
    put_each (λ i w. taken_from m w.past ≡ taken_from m (workers i).past) workers n
    (doing (workers n) deed after) e (λ i d. refl) k

module _ {S L W : Type 0} (next : ℕ → S → Act S L W) (starts : ℕ → S) where
  pub accounts_fresh : Accounts next starts (λ n. fresh (starts n)) (λ n m. [])
  accounts_fresh = record { alone = λ n. refl; rest = λ n m. refl }

  -- links that are the same at each pair
  pub accounts_links : (workers : ℕ → Worker S L W) (links others : ℕ → ℕ → List W) →
      ((n m : ℕ) → links n m ≡ others n m) → Accounts next starts workers links →
      Accounts next starts workers others
  accounts_links workers links others same h =
      record {
        alone = h.alone;
        rest = λ n m. h.rest n m ∙ ap
            (λ l. taken_from n (workers m).past ++ l) (same n m);
      }

  -- workers that went apart: what lies on a link is what is left
  pub accounts_apart : (workers : ℕ → Worker S L W) (h : WentApart next starts workers) →
      Accounts next starts workers (λ n m. (h.received n m).0)
  accounts_apart workers h = record { alone = h.alone; rest = λ n m. sym (h.received n m).1 }

  pub apart_accounts : (workers : ℕ → Worker S L W) (links : ℕ → ℕ → List W) →
      Accounts next starts workers links → WentApart next starts workers
  apart_accounts workers links h = record {
    alone = h.alone;
    received =
        λ n m. (links n m, sym (h.rest n m));
  }

  -- one deed more of one worker
  alone_more : (workers : ℕ → Worker S L W) (n : ℕ) (deed : Deed L W) (after : S) →
      ((k : ℕ) → WentAlone (next k) (starts k) (workers k)) → Allows (next n (workers n).state) deed
      after →
      (k : ℕ) → WentAlone (next k) (starts k) (put workers n (doing (workers n) deed after) k)
  alone_more workers n deed after h allows k =
      put_each (λ i w. WentAlone (next i) (starts i) w) workers n (doing (workers n) deed after)
      ((workers n).state, h n, allows) (λ i e. h i) k

  pub accounts_moved : (workers : ℕ → Worker S L W) (links : ℕ → ℕ → List W) (n : ℕ) (said : List L)
      (after : S) →
      next n (workers n).state ≡ Moves said after → Accounts next starts workers links →
      Accounts next starts (put workers n (doing (workers n) (Moved said) after)) links
  accounts_moved workers links n said after e h = record {
    alone = alone_more workers n (Moved said) after h.alone
        (subst (λ a. Allows a (Moved said) after) (sym e) (refl, refl));
    rest = λ k m. sent_stays workers n (Moved said) after m k
        refl ∙ (h.rest k m ∙ ap (λ l. l ++ links k m)
        (sym (taken_stays workers n (Moved said) after k m refl)));
  }

  pub accounts_sent : (workers : ℕ → Worker S L W) (links : ℕ → ℕ → List W) (n target : ℕ)
      (wire : W) (after : S) →
      next n (workers n).state ≡ Sends target wire after → Accounts next starts workers links →
      Accounts next starts (put workers n (doing (workers n) (Sent target wire) after))
      (put_link links n target (appended (links n target) wire))
  accounts_sent workers links n target wire after e h = record {
    alone = alone_more workers n (Sent target wire) after h.alone
        (subst (λ a. Allows a (Sent target wire) after) (sym e) (refl, refl, refl));
    rest = λ k m. held k m ∙ ap (λ l. l ++ put_link links n target longer k m)
        (sym (taken_stays workers n (Sent target wire) after k m refl));
  }
    where
      longer : List W
      longer = appended (links n target) wire

      Held : ℕ → ℕ → List W → Type 0
      Held m k sent = sent ≡ taken_from k (workers m).past ++ put_link links n target longer k m

      -- the link itself
      here : Held target n (sent_to target (workers n).past ++ wire ∷ [])
      here = ap (λ l. l ++ wire ∷ []) (h.rest n target)
          ∙ (append_assoc (taken_from n (workers target).past) (links n target) (wire ∷ []) ∙ ap
          (λ l. taken_from n (workers target).past ++ l)
          (sym (put_link_here links n target longer)))

      -- links from the same worker
      sender : (m : ℕ) (b : Bool) → eqb target m ≡ b →
          Held m n (cond b (sent_to m (workers n).past ++ wire ∷ []) (sent_to m (workers n).past))
      sender m true d = subst (λ i. Held i n (sent_to i (workers n).past ++ wire ∷ []))
          (eqb-true target m d) here
      sender m false d = h.rest n m ∙ ap (λ l. taken_from n (workers m).past ++ l)
          (sym (put_link_target links n target longer n m d))

      held : (k m : ℕ) → Held m k (sent_to m (put workers n
          (doing (workers n) (Sent target wire) after) k).past)
      held k m = put_each (λ i w. Held m i (sent_to m w.past)) workers n
          (doing (workers n) (Sent target wire) after) (sender m (eqb target m) refl)
          (λ i d. h.rest i m ∙ ap (λ l. taken_from i (workers m).past ++ l)
          (sym (put_link_source links n target longer i m d))) k

  pub accounts_took : (workers : ℕ → Worker S L W) (links : ℕ → ℕ → List W) (n source : ℕ)
      (after : W → S) (wire : W) (left : List W) →
      next n (workers n).state ≡ Takes source after → links source n ≡ wire ∷ left →
      Accounts next starts workers links →
      Accounts next starts (put workers n (doing (workers n) (Took source wire) (after wire)))
      (put_link links source n left)
  accounts_took workers links n source after wire left e lies h = record {
    alone = alone_more workers n (Took source wire) (after wire) h.alone
        (subst (λ a. Allows a (Took source wire) (after wire)) (sym e) (refl, refl));
    rest = λ k m. sent_stays workers n (Took source wire) (after wire) m k refl ∙ held k m;
  }
    where
      Held : ℕ → ℕ → List W → Type 0
      Held m k taken = sent_to m (workers k).past ≡ taken ++ put_link links source n left k m

      -- the link itself
      here : Held n source (taken_from source (workers n).past ++ wire ∷ [])
      here = h.rest source n ∙ (ap (λ l. taken_from source (workers n).past ++ l)
          lies ∙ (sym (append_assoc (taken_from source (workers n).past) (wire ∷ []) left) ∙ ap
          (λ l. (taken_from source (workers n).past ++ wire ∷ []) ++ l)
          (sym (put_link_here links source n left))))

      -- links to the same worker
      taker : (k : ℕ) (b : Bool) → eqb source k ≡ b →
          Held n k (cond b (taken_from k (workers n).past ++ wire ∷ [])
          (taken_from k (workers n).past))
      taker k true d = subst (λ i. Held n i (taken_from i (workers n).past ++ wire ∷ []))
          (eqb-true source k d) here
      taker k false d = h.rest k n ∙ ap (λ l. taken_from k (workers n).past ++ l)
          (sym (put_link_source links source n left k n d))

      held : (k m : ℕ) → Held m k (taken_from k
          (put workers n (doing (workers n) (Took source wire) (after wire)) m).past)
      held k m = put_each (λ i w. Held i k (taken_from k w.past)) workers n
          (doing (workers n) (Took source wire) (after wire)) (taker k (eqb source k) refl)
          (λ i d. h.rest k i ∙ ap (λ l. taken_from k (workers i).past ++ l)
          (sym (put_link_target links source n left k i d))) m

  -- a wire handed over, where no wire lies on any link
  pub accounts_handed : (workers : ℕ → Worker S L W) (source target : ℕ) (wire : W) (sent : S)
      (took : W → S) →
      eqb source target ≡ false → next source (workers source).state ≡ Sends target wire sent →
      next target (workers target).state ≡ Takes source took →
      Accounts next starts workers (λ n m. []) →
      Accounts next starts (put (put workers source
      (doing (workers source) (Sent target wire) sent)) target
      (doing (workers target) (Took source wire) (took wire))) (λ n m. [])
  accounts_handed workers source target wire sent took apart e f h =
      subst (λ w. Accounts next starts (put between target (doing w (Took source wire) (took wire)))
      (λ n m. [])) other
      (accounts_links (put between target (doing (between target) (Took source wire)
      (took wire))) (put_link link source target []) (λ n m. []) none
      (accounts_took between link target source took wire []
      (ap (λ w. next target w.state) other ∙ f)
      (put_link_here (λ n m. []) source target (wire ∷ []))
      (accounts_sent workers (λ n m. []) source target wire sent e h)))
    where
      between : ℕ → Worker S L W
      between = put workers source (doing (workers source) (Sent target wire) sent)

      link : ℕ → ℕ → List W
      link = put_link (λ n m. []) source target (wire ∷ [])

      other : between target ≡ workers target
      other = put_other workers source (doing (workers source) (Sent target wire) sent) target apart

      cleared : (b : Bool) → cond b [] (cond b (wire ∷ []) []) ≡ []
      cleared true = refl
      cleared false = refl

      none : (n m : ℕ) → put_link link source target [] n m ≡ []
      none n m = cleared (eqb source n && eqb target m)
