-- Slots with transfers in flight, and what they mean: each step of the real worker keeps the
-- meaning.
use Rattle.std.proofs.Common.{◌≡◌, ◌≢◌, ℕ, Bool, true, false, cond, eqb, None, Some, refl, sym, ap, ◌∙◌, subst}
use Rattle.std.proofs.lemmas.Bool.{eqb-true, eq-eqb}
use Rattle.mage_network.specs.Network.{put}
use Rattle.mage_network.specs.Slots.{Transfer, Reads, Writes, Slot, Idle, Asked, Busy, Served, Paged, page_of, bytes_of, pages_after, asked, served_at_once, finished, in_flight, IsPending, SlotMeans, to_be_written, PagesMean}
use Rattle.mage_network.proofs.Places.{put_here, put_other}

pub some_same : {X : Type 0} (x y : X) → Some x ≡ Some y → x ≡ y
some_same x y e = cc

pub none_some : {X : Type 0} (x : X) → None ≡ Some x → ⊥
none_some x e = cc

pub different : (n m : ℕ) → (n ≡ m → ⊥) → eqb n m ≡ false
different n m apart = go (eqb n m) refl
  where
    go : (b : Bool) → eqb n m ≡ b → b ≡ false
    go true e = absurd (apart (eqb-true n m e))
    go false e = refl

pub equal_not : (n m : ℕ) → eqb n m ≡ false → n ≡ m → ⊥
equal_not n m e same = let both : true ≡ false = sym (eq-eqb n m same) ∙ e in absurd (cc)

-- a slot and its meaning are in flight with one page
pub in_flight_same : {B : Type 0} (real meant : ℕ → B) (word other : Slot B) →
    SlotMeans real meant word other → in_flight word ≡ in_flight other
in_flight_same real meant Idle Idle h = refl
in_flight_same real meant (Asked t) (Served u b) h = ap (λ x. Some (page_of x)) h.0
in_flight_same real meant (Busy t) (Served u b) h = ap (λ x. Some (page_of x)) h.0
in_flight_same real meant (Served t b) (Served u c) h = ap (λ x. Some (page_of x)) h.0
in_flight_same real meant _ _ h = absurd h

-- a meant page that changes concerns the slots in flight with it alone
pending_elsewhere : {B : Type 0} (real meant : ℕ → B) (t : Transfer B) (b : B) (page : ℕ)
    (bytes : B) → (page ≡ page_of t → ⊥) → IsPending real meant t b →
    IsPending real (put meant page bytes) t b
pending_elsewhere real meant (Reads q) b page bytes apart h = h
pending_elsewhere real meant (Writes q x) b page bytes apart h =
    (h.0, put_other meant page bytes q (different page q apart) ∙ h.1)

pub means_elsewhere : {B : Type 0} (real meant : ℕ → B) (word other : Slot B) (page : ℕ)
    (bytes : B) → in_flight word ≢ Some page → SlotMeans real meant word other →
    SlotMeans real (put meant page bytes) word other
means_elsewhere real meant Idle Idle page bytes apart h = tt
means_elsewhere real meant (Asked t) (Served u b) page bytes apart h =
    (h.0, pending_elsewhere real meant t b page bytes (λ e. apart (ap (λ p. Some p) (sym e))) h.1)
means_elsewhere real meant (Busy t) (Served u b) page bytes apart h =
    (h.0, pending_elsewhere real meant t b page bytes (λ e. apart (ap (λ p. Some p) (sym e))) h.1)
means_elsewhere real meant (Served t b) (Served u c) page bytes apart h = h
means_elsewhere real meant _ _ page bytes apart h = absurd h

-- so does a real page that changes
pending_stored : {B : Type 0} (real meant : ℕ → B) (t : Transfer B) (b : B) (page : ℕ) (bytes : B) →
    (page ≡ page_of t → ⊥) → IsPending real meant t b → IsPending (put real page bytes) meant t b
pending_stored real meant (Reads q) b page bytes apart h =
    put_other real page bytes q (different page q apart) ∙ h
pending_stored real meant (Writes q x) b page bytes apart h = h

pub means_stored : {B : Type 0} (real meant : ℕ → B) (word other : Slot B) (page : ℕ) (bytes : B) →
    in_flight word ≢ Some page → SlotMeans real meant word other → SlotMeans (put real page bytes)
    meant word other
means_stored real meant Idle Idle page bytes apart h = tt
means_stored real meant (Asked t) (Served u b) page bytes apart h =
    (h.0, pending_stored real meant t b page bytes (λ e. apart (ap (λ p. Some p) (sym e))) h.1)
means_stored real meant (Busy t) (Served u b) page bytes apart h =
    (h.0, pending_stored real meant t b page bytes (λ e. apart (ap (λ p. Some p) (sym e))) h.1)
means_stored real meant (Served t b) (Served u c) page bytes apart h = h
means_stored real meant _ _ page bytes apart h = absurd h

-- what is to be written at one slot given anew
pub free_before : {B : Type 0} (slots : ℕ → Slot B) (slot page : ℕ) (word : Slot B) →
    (to_be_written (slots slot) ≡ Some page → to_be_written word ≡ Some page) →
    ((i : ℕ) → to_be_written (put slots slot word i) ≢ Some page) → (i : ℕ) →
    to_be_written (slots i) ≢ Some page
free_before {B} slots slot page word kept free i = go (eqb slot i) refl
  where
    go : (b : Bool) → eqb slot i ≡ b → to_be_written (slots i) ≡ Some page → ⊥
    go true e h = free slot (ap (λ w. to_be_written w) (put_here slots slot word) ∙ kept
        (ap (λ k. to_be_written (slots k)) (eqb-true slot i e) ∙ h))
    go false e h = free i (ap (λ w. to_be_written w) (put_other slots slot word i e) ∙ h)

-- pages in flight still differ
pub differ_after : {B : Type 0} (slots : ℕ → Slot B) (slot : ℕ) (word : Slot B) →
    ((i j page : ℕ) → in_flight (slots i) ≡ Some page → in_flight (slots j) ≡ Some page → i ≡ j) →
    ((j page : ℕ) → eqb slot j ≡ false → in_flight word ≡ Some page → in_flight (slots j) ≢ Some
    page) →
    (i j page : ℕ) → in_flight (put slots slot word i) ≡ Some page →
    in_flight (put slots slot word j) ≡ Some page → i ≡ j
differ_after {B} slots slot word differ fresh i j page = go (eqb slot i) (eqb slot j) refl refl
  where
    go : (b c : Bool) → eqb slot i ≡ b → eqb slot j ≡ c → in_flight (cond b word (slots i)) ≡ Some
        page → in_flight (cond c word (slots j)) ≡ Some page → i ≡ j
    go true true e f h k = sym (eqb-true slot i e) ∙ eqb-true slot j f
    go true false e f h k = absurd (fresh j page f h k)
    go false true e f h k = absurd (fresh i page e k h)
    go false false e f h k = differ i j page h k

-- where the word is in flight with the page of the slot's old word, or with none
pub still_fresh : {B : Type 0} (slots : ℕ → Slot B) (slot : ℕ) (word : Slot B) →
    ((i j page : ℕ) → in_flight (slots i) ≡ Some page → in_flight (slots j) ≡ Some page → i ≡ j) →
    ((page : ℕ) → in_flight word ≡ Some page → in_flight (slots slot) ≡ Some page) →
    (j page : ℕ) → eqb slot j ≡ false → in_flight word ≡ Some page → in_flight (slots j) ≢ Some page
still_fresh slots slot word differ old j page e h k =
    equal_not slot j e (differ slot j page (old page h) k)

-- An ask, and what it means.
module _ {Eng B : Type 0} (real meant : Paged Eng B) (slot : ℕ) (after : Eng)
    (h : PagesMean real meant) where
  asked_each : (t : Transfer B) → ((i : ℕ) → in_flight (meant.slots i) ≢ Some (page_of t)) →
      real.slots slot ≡ Idle → (i : ℕ) →
      SlotMeans real.pages (pages_after t meant.pages) (put real.slots slot (Asked t) i)
      (put meant.slots slot (Served t (bytes_of t meant.pages)) i)
  asked_each t free idle i = go (eqb slot i)
    where
      real_free : (k : ℕ) → in_flight (real.slots k) ≢ Some (page_of t)
      real_free k e = free k (sym (in_flight_same real.pages meant.pages (real.slots k)
          (meant.slots k) (h.each k)) ∙ e)

      written : (page : ℕ) (w : Slot B) → to_be_written w ≡ Some page → in_flight w ≡ Some page
      written page (Asked (Writes p b)) e = e
      written page (Busy (Writes p b)) e = e
      written page (Asked (Reads p)) e = absurd (none_some page e)
      written page (Busy (Reads p)) e = absurd (none_some page e)
      written page _ e = absurd (none_some page e)

      pending : (u : Transfer B) → u ≡ t → IsPending real.pages (pages_after u meant.pages) u
          (bytes_of u meant.pages)
      pending (Reads p) e = h.others p (λ k f. real_free k
          (written p (real.slots k) f ∙ ap (λ x. Some (page_of x)) e))
      pending (Writes p b) e = (refl, put_here meant.pages p b)

      other : (u : Transfer B) → u ≡ t → SlotMeans real.pages (pages_after u meant.pages)
          (real.slots i) (meant.slots i)
      other (Reads p) e = h.each i
      other (Writes p b) e = means_elsewhere real.pages meant.pages (real.slots i) (meant.slots i) p
          b (λ f. real_free i (f ∙ ap (λ x. Some (page_of x)) e)) (h.each i)

      go : (b : Bool) → SlotMeans real.pages (pages_after t meant.pages)
          (cond b (Asked t) (real.slots i)) (cond b (Served t (bytes_of t meant.pages))
          (meant.slots i))
      go true = (refl, pending t refl)
      go false = other t refl

  asked_others : (t : Transfer B) → real.slots slot ≡ Idle → (page : ℕ) →
      ((i : ℕ) → to_be_written (put real.slots slot (Asked t) i) ≢ Some page) →
      real.pages page ≡ pages_after t meant.pages page
  asked_others t idle page free = go t free
    where
      old : (w : Slot B) → to_be_written (real.slots slot) ≡ Some page → to_be_written w ≡ Some page
      old w e = absurd (none_some page (ap (λ x. to_be_written x) (sym idle) ∙ e))

      go : (u : Transfer B) → ((i : ℕ) → to_be_written (put real.slots slot (Asked u) i) ≢ Some
          page) → real.pages page ≡ pages_after u meant.pages page
      go (Reads p) f = h.others page (free_before real.slots slot page (Asked (Reads p))
          (old (Asked (Reads p))) f)
      go (Writes p b) f = h.others page (free_before real.slots slot page (Asked (Writes p b))
          (old (Asked (Writes p b))) f)
          ∙ sym (put_other meant.pages p b page
          (different p page (λ e. f slot (ap (λ w. to_be_written w)
          (put_here real.slots slot (Asked (Writes p b))) ∙ ap (λ x. Some x) e))))

  pub asked_means : (t : Transfer B) → ((i : ℕ) → in_flight (meant.slots i) ≢ Some (page_of t)) →
      real.slots slot ≡ Idle →
      PagesMean (asked slot t after real) (served_at_once slot t after meant)
  asked_means t free idle = record {
    engines = refl;
    each = asked_each t free idle;
    others = asked_others t idle;
    differ = differ_after real.slots slot (Asked t) h.differ
        (λ j page e f k. free j (sym (in_flight_same real.pages meant.pages (real.slots j)
        (meant.slots j) (h.each j)) ∙ (k ∙ sym f)));
  }

  -- A finish, of a slot that is served.
  pub finished_means : (other : Eng) (t : Transfer B) (b : B) → after ≡ other →
      real.slots slot ≡ Served t b →
      PagesMean (finished slot after real) (finished slot other meant)
  finished_means other t b same served = record {
    engines = same;
    each = λ i. each i (eqb slot i);
    others = λ page free. h.others page (free_before real.slots slot page Idle
        (λ e. absurd (none_some page (ap (λ w. to_be_written w) (sym served) ∙ e))) free);
    differ = differ_after real.slots slot Idle h.differ (λ j page e f k. none_some page f);
  }
    where
      each : (i : ℕ) (c : Bool) → SlotMeans real.pages meant.pages (cond c Idle (real.slots i))
          (cond c Idle (meant.slots i))
      each i true = tt
      each i false = h.each i

-- A claim: nothing that is meant changes.
claim_means : {B : Type 0} (real meant : ℕ → B) (t : Transfer B) (other : Slot B) →
    SlotMeans real meant (Asked t) other → SlotMeans real meant (Busy t) other
claim_means real meant t (Served u b) h = h
claim_means real meant t _ h = absurd h

claim_written : {B : Type 0} (t : Transfer B) → to_be_written (Asked t) ≡ to_be_written (Busy t)
claim_written (Reads p) = refl
claim_written (Writes p b) = refl

pub claimed_means : {Eng B : Type 0} (real meant : Paged Eng B) (slot : ℕ) (t : Transfer B) →
    PagesMean real meant → real.slots slot ≡ Asked t →
    PagesMean (record {
      engine = real.engine;
      slots = put real.slots slot (Busy t);
      pages =
          real.pages;
    }) meant
claimed_means {Eng} {B} real meant slot t h asks = record {
  engines = h.engines;
  each = λ i. each i (eqb slot i) refl;
  others = λ page free. h.others page (free_before real.slots slot page (Busy t)
      (λ e. sym (claim_written t) ∙ (ap (λ w. to_be_written w) (sym asks) ∙ e)) free);
  differ = differ_after real.slots slot (Busy t) h.differ
      (still_fresh real.slots slot (Busy t) h.differ (λ page e. ap (λ w. in_flight w) asks ∙ e));
}
  where
    each : (i : ℕ) (c : Bool) → eqb slot i ≡ c → SlotMeans real.pages meant.pages
        (cond c (Busy t) (real.slots i)) (meant.slots i)
    each i true e = subst (λ k. SlotMeans real.pages meant.pages (Busy t) (meant.slots k))
        (eqb-true slot i e)
        (claim_means real.pages meant.pages t (meant.slots slot)
        (subst (λ w. SlotMeans real.pages meant.pages w (meant.slots slot)) asks (h.each slot)))
    each i false e = h.each i

-- A transfer is served: then nothing is to be written at its slot, and the pages agree.
serve_means : {B : Type 0} (real stored meant : ℕ → B) (t : Transfer B) (other : Slot B) →
    SlotMeans real meant (Busy t) other → SlotMeans stored meant (Served t (bytes_of t real)) other
serve_means real stored meant (Reads p) (Served u b) h = h
serve_means real stored meant (Writes p x) (Served u b) h = (h.0, h.1.0)
serve_means real stored meant _ _ h = absurd h

write_arrives : {B : Type 0} (real meant : ℕ → B) (page : ℕ) (bytes : B) (other : Slot B) →
    SlotMeans real meant (Busy (Writes page bytes)) other → bytes ≡ meant page
write_arrives real meant page bytes (Served u b) h = h.1.0 ∙ sym h.1.1
write_arrives real meant page bytes _ h = absurd h

pub served_means : {Eng B : Type 0} (real meant : Paged Eng B) (slot : ℕ) (t : Transfer B) →
    PagesMean real meant → real.slots slot ≡ Busy t →
    PagesMean (record {
      engine = real.engine;
      slots =
          put real.slots slot (Served t (bytes_of t real.pages));
      pages = pages_after t real.pages;
    })
    meant
served_means {Eng} {B} real meant slot t h busy = record {
  engines = h.engines;
  each = λ i. each i (eqb slot i) refl;
  others = λ page free. others t busy page (λ kept. free_before real.slots slot page
      (Served t (bytes_of t real.pages)) kept free);
  differ = differ_after real.slots slot (Served t (bytes_of t real.pages)) h.differ
      (still_fresh real.slots slot (Served t (bytes_of t real.pages)) h.differ
      (λ page e. ap (λ w. in_flight w) busy ∙ e));
}
  where
    here : SlotMeans real.pages meant.pages (Busy t) (meant.slots slot)
    here = subst (λ w. SlotMeans real.pages meant.pages w (meant.slots slot)) busy (h.each slot)

    elsewhere : (i : ℕ) → eqb slot i ≡ false → (u : Transfer B) → real.slots slot ≡ Busy u →
        SlotMeans (pages_after u real.pages) meant.pages (real.slots i) (meant.slots i)
    elsewhere i e (Reads p) b = h.each i
    elsewhere i e (Writes p x) b = means_stored real.pages meant.pages (real.slots i)
        (meant.slots i) p x (λ f. equal_not slot i e
        (h.differ slot i p (ap (λ w. in_flight w) b) f)) (h.each i)

    each : (i : ℕ) (c : Bool) → eqb slot i ≡ c → SlotMeans (pages_after t real.pages) meant.pages
        (cond c (Served t (bytes_of t real.pages)) (real.slots i)) (meant.slots i)
    each i true e = subst (λ k. SlotMeans (pages_after t real.pages) meant.pages
        (Served t (bytes_of t real.pages)) (meant.slots k)) (eqb-true slot i e)
        (serve_means real.pages (pages_after t real.pages) meant.pages t (meant.slots slot) here)
    each i false e = elsewhere i e t busy

    others : (u : Transfer B) → real.slots slot ≡ Busy u → (page : ℕ) →
        ((to_be_written (real.slots slot) ≡ Some page → None ≡ Some page) → (i : ℕ) →
        to_be_written (real.slots i) ≢ Some page) → pages_after u real.pages page ≡ meant.pages page
    others (Reads p) b page free = h.others page (free (λ e. ap (λ w. to_be_written w) (sym b) ∙ e))
    others (Writes p x) b page free = go (eqb p page) refl
      where
        go : (c : Bool) → eqb p page ≡ c → cond c x (real.pages page) ≡ meant.pages page
        go true e = write_arrives real.pages meant.pages p x (meant.slots slot)
            (subst (λ w. SlotMeans real.pages meant.pages w (meant.slots slot)) b (h.each slot))
            ∙ ap meant.pages (eqb-true p page e)
        go false e = h.others page (free (λ f.
            absurd (equal_not p page e (some_same p page (ap (λ w. to_be_written w) (sym b) ∙ f)))))

-- where nothing is in flight in the meaning, nothing is, and the pages are the same
idle_means : {B : Type 0} (real meant : ℕ → B) (word other : Slot B) → other ≡ Idle →
    SlotMeans real meant word other → word ≡ Idle
idle_means {B} real meant word other e h = go word (subst (λ o. SlotMeans real meant word o) e h)
  where
    go : (w : Slot B) → SlotMeans real meant w Idle → w ≡ Idle
    go Idle k = refl
    go _ k = absurd k

pub settled : {Eng B : Type 0} (real meant : Paged Eng B) → PagesMean real meant →
    ((i : ℕ) → meant.slots i ≡ Idle) → ((i : ℕ) → real.slots i ≡ Idle) × ((page : ℕ) →
    real.pages page ≡ meant.pages page)
settled {Eng} {B} real meant h idle = (
  none,
  λ page. h.others page
      (λ i e. none_some page (ap (λ w. to_be_written w) (sym (none i)) ∙ e)),
)
  where
    none : (i : ℕ) → real.slots i ≡ Idle
    none i = idle_means real.pages meant.pages (real.slots i) (meant.slots i) (idle i) (h.each i)
