-- What slots, finished transfers and pages keep over a transfer that is asked for or finished.
use Rattle.std.proofs.Common.{◌≡◌, ◌≢◌, ◌<◌, ◌==◌, ◌++◌, ℕ, Bool, true, false, cond, List, [], ◌∷◌, length, set, get_or, Option, None, Some, nat_eq, refl, sym, ap, ◌∙◌, subst}
use Rattle.std.specs.Prelude.{IfSome, IsSome}
use Rattle.std.specs.Option.{option_map}
use Rattle.std.proofs.lemmas.Bool.{eqb-true, eqb-false, eq-eqb}
use Rattle.std.proofs.lemmas.List.{get_or-set_same, get_or-set_other}
use mathlib.Core.Path.{fun_ext}
use Rattle.mage_base.specs.Store.{Pages, Transfer, Wrote, Answered, with_page}
use Rattle.mage_network.specs.Network.{put}
use Rattle.mage_network.specs.Slots as net
use Rattle.mage_port.specs.Port.{SlotState, Transfers, Idle, AskedRead, AskedWrite, HasFailed, IsDamaged, has_page, has_transfers, last_written, last_written_after, with_transfer}
use Rattle.mage_core.specs.Paging.{AreRightAfter, AllRight, KeepsPages, HasPages, slot_of, is_writing}

-- ---- slots by their numbers

pub states_set : (states : List SlotState) (slot : ℕ) (state : SlotState) → slot < length states →
    (λ s. get_or (set states slot state) s Idle) ≡ put (λ s. get_or states s Idle) slot state
states_set states slot state within = fun_ext (λ s. go s (nat_eq slot s) refl)
  where
    go : (s : ℕ) (b : Bool) → nat_eq slot s ≡ b → get_or (set states slot state) s Idle ≡ cond b state (get_or states s Idle)
    go s true e = subst (λ k. get_or (set states slot state) k Idle ≡ state) (eqb-true slot s e) (get_or-set_same states slot state Idle within)
    go s false e = get_or-set_other states slot s state Idle (λ other. eqb-false slot s e (sym other))

-- what holds of the slot that changed, and of each other one
put_so : {X : Type 0} (P : ℕ → X → Type 0) (each : ℕ → X) (slot : ℕ) (x : X) → P slot x → ((s : ℕ) → nat_eq slot s ≡ false → P s (each s)) →
    (s : ℕ) → P s (put each slot x s)
put_so P each slot x here there s = go (nat_eq slot s) refl
  where
    go : (b : Bool) → nat_eq slot s ≡ b → P s (cond b x (each s))
    go true e = subst (λ k. P k x) (eqb-true slot s e) here
    go false e = there s e

turned : (a b : ℕ) → nat_eq a b ≡ false → nat_eq b a ≡ false
turned a b e = go (nat_eq b a) refl
  where
    go : (x : Bool) → nat_eq b a ≡ x → nat_eq b a ≡ false
    go true f = absurd (eqb-false a b e (sym (eqb-true b a f)))
    go false f = f

-- ---- transfers

pub written_last : (written : List ℕ) (xs : List Transfer) (page : ℕ) (bytes : List ℕ) → last_written_after written (xs ++ Wrote page bytes ∷ []) ≡ bytes
written_last written [] page bytes = refl
written_last written (Wrote p b ∷ xs) page bytes = written_last b xs page bytes
written_last written (Answered p b ∷ xs) page bytes = written_last written xs page bytes

pub answered_last : (written : List ℕ) (xs : List Transfer) (page : ℕ) (bytes : List ℕ) →
    last_written_after written (xs ++ Answered page bytes ∷ []) ≡ last_written_after written xs
answered_last written [] page bytes = refl
answered_last written (Wrote p b ∷ xs) page bytes = answered_last b xs page bytes
answered_last written (Answered p b ∷ xs) page bytes = answered_last written xs page bytes

some_more : (xs : List Transfer) (t : Transfer) → has_transfers (xs ++ t ∷ []) ≡ true
some_more [] t = refl
some_more (x ∷ xs) t = refl

still_held : (finished : Transfers) (page p : ℕ) (t : Transfer) → has_transfers (finished p) ≡ true → has_transfers (with_transfer finished page t p) ≡ true
still_held finished page p t held = go (p == page)
  where
    go : (b : Bool) → has_transfers (cond b (finished p ++ t ∷ []) (finished p)) ≡ true
    go true = some_more (finished p) t
    go false = held

-- a list with one transfer more is right where the list is, and the transfer
wrote_right : (written : List ℕ) (xs : List Transfer) (page : ℕ) (bytes : List ℕ) → AreRightAfter written xs → AreRightAfter written (xs ++ Wrote page bytes ∷ [])
wrote_right written [] page bytes h = tt
wrote_right written (Wrote p b ∷ xs) page bytes h = wrote_right b xs page bytes h
wrote_right written (Answered p b ∷ xs) page bytes h = (h.0, wrote_right written xs page bytes h.1)

answered_right : (written : List ℕ) (xs : List Transfer) (page : ℕ) (bytes : List ℕ) → AreRightAfter written xs → bytes ≡ last_written_after written xs →
    AreRightAfter written (xs ++ Answered page bytes ∷ [])
answered_right written [] page bytes h e = (e, tt)
answered_right written (Wrote p b ∷ xs) page bytes h e = answered_right b xs page bytes h e
answered_right written (Answered p b ∷ xs) page bytes h e = (h.0, answered_right written xs page bytes h.1 e)

-- and back
front_right : (written : List ℕ) (xs : List Transfer) (t : Transfer) → AreRightAfter written (xs ++ t ∷ []) → AreRightAfter written xs
front_right written [] t h = tt
front_right written (Wrote p b ∷ xs) t h = front_right b xs t h
front_right written (Answered p b ∷ xs) t h = (h.0, front_right written xs t h.1)

last_right : (written : List ℕ) (xs : List Transfer) (page : ℕ) (bytes : List ℕ) → AreRightAfter written (xs ++ Answered page bytes ∷ []) →
    bytes ≡ last_written_after written xs
last_right written [] page bytes h = h.0
last_right written (Wrote p b ∷ xs) page bytes h = last_right b xs page bytes h
last_right written (Answered p b ∷ xs) page bytes h = last_right written xs page bytes h.1

-- before a transfer all were right
pub were_right : (finished : Transfers) (page : ℕ) (t : Transfer) → AllRight (with_transfer finished page t) → AllRight finished
were_right finished page t right p = go (p == page) (right p)
  where
    go : (b : Bool) → AreRightAfter [] (cond b (finished p ++ t ∷ []) (finished p)) → AreRightAfter [] (finished p)
    go true h = front_right [] (finished p) t h
    go false h = h

pub was_right : (finished : Transfers) (page : ℕ) (bytes : List ℕ) → AllRight (with_transfer finished page (Answered page bytes)) → bytes ≡ last_written (finished page)
was_right finished page bytes right =
    last_right [] (finished page) page bytes
    (subst (λ b. AreRightAfter [] (cond b (finished page ++ Answered page bytes ∷ []) (finished page))) (eq-eqb page page refl) (right page))

-- an answer leaves what was last written
same_written : (finished : Transfers) (page p : ℕ) (bytes : List ℕ) → last_written (with_transfer finished page (Answered page bytes) p) ≡ last_written (finished p)
same_written finished page p bytes = go (p == page)
  where
    go : (b : Bool) → last_written (cond b (finished p ++ Answered page bytes ∷ []) (finished p)) ≡ last_written (finished p)
    go true = answered_last [] (finished p) page bytes
    go false = refl

-- where an answered page is held, it was before
was_held : (finished : Transfers) (page p : ℕ) (t : Transfer) → has_transfers (finished page) ≡ true → has_transfers (with_transfer finished page t p) ≡ true →
    has_transfers (finished p) ≡ true
was_held finished page p t held = go (p == page) refl
  where
    go : (b : Bool) → (p == page) ≡ b → has_transfers (cond b (finished p ++ t ∷ []) (finished p)) ≡ true → has_transfers (finished p) ≡ true
    go true e h = ap (λ k. has_transfers (finished k)) (eqb-true p page e) ∙ held
    go false e h = h

-- pages hold what was last written after one write more
wrote_holds : (finished : Transfers) (page : ℕ) (bytes : List ℕ) (p : ℕ) (o : Option Pages) → has_transfers (with_transfer finished page (Wrote page bytes) p) ≡ true →
    (has_transfers (finished p) ≡ true → IfSome o (λ told. told p ≡ last_written (finished p))) →
    IfSome (option_map (λ told. with_page told page bytes) o) (λ told. told p ≡ last_written (with_transfer finished page (Wrote page bytes) p))
wrote_holds finished page bytes p None held was = tt
wrote_holds finished page bytes p (Some told) held was = go (p == page) held
  where
    go : (b : Bool) → has_transfers (cond b (finished p ++ Wrote page bytes ∷ []) (finished p)) ≡ true →
        cond b bytes (told p) ≡ last_written (cond b (finished p ++ Wrote page bytes ∷ []) (finished p))
    go true h = sym (written_last [] (finished p) page bytes)
    go false h = was h

-- ---- a transfer is asked for

module _ (pages : Option Pages) (states : ℕ → SlotState) (finished : Transfers) (keeps : KeepsPages pages states finished) (slot page : ℕ)
    (free : (other : ℕ) → has_page page (states other) ≡ false) where
  asks_keep : (state : SlotState) → ((p : ℕ) → has_page p state ≡ (page == p)) → ((p : ℕ) → state ≡ AskedRead p → has_transfers (finished p) ≡ true) →
      KeepsPages pages (put states slot state) finished
  asks_keep state of held = record {
    reads = put_so (λ s x. (p : ℕ) → x ≡ AskedRead p → has_transfers (finished p) ≡ true) states slot state held (λ s off. keeps.reads s);
    apart = λ p s o ne. put_so (λ k x. k ≢ o → has_page p x ≡ true → has_page p (put states slot state o) ≡ false) states slot state
        (λ other h. put_so (λ k x. slot ≢ k → has_page p x ≡ false) states slot state (λ never. absurd (never refl))
        (λ k off never. subst (λ n. has_page n (states k) ≡ false) (eqb-true page p (sym (of p) ∙ h)) (free k)) o other)
        (λ k off other h. put_so (λ j x. k ≢ j → has_page p x ≡ false) states slot state
        (λ never. of p ∙ off_page k p h)
        (λ j away never. keeps.apart p k j never h) o other) s ne;
    holds = keeps.holds;
    right = keeps.right;
  }
    where
      off_page : (k p : ℕ) → has_page p (states k) ≡ true → (page == p) ≡ false
      off_page k p h = go (page == p) refl
        where
          go : (b : Bool) → (page == p) ≡ b → (page == p) ≡ false
          go true e = absurd (let never : true ≡ false = sym h ∙ ap (λ n. has_page n (states k)) (sym (eqb-true page p e)) ∙ free k in cc)
          go false e = e

  pub ask_read_keeps : has_transfers (finished page) ≡ true → KeepsPages pages (put states slot (AskedRead page)) finished
  ask_read_keeps held = asks_keep (AskedRead page) (λ p. refl) (λ p e. let same : page ≡ p = cc in ap (λ k. has_transfers (finished k)) (sym same) ∙ held)

  pub ask_write_keeps : (bytes : List ℕ) → KeepsPages pages (put states slot (AskedWrite page bytes)) finished
  ask_write_keeps bytes = asks_keep (AskedWrite page bytes) (λ p. refl) (λ p e. absurd cc)

-- ---- a transfer is finished

module _ (pages : Option Pages) (states : ℕ → SlotState) (finished : Transfers) (keeps : KeepsPages pages states finished) (slot page : ℕ) where
  module _ (t : Transfer) where
    reads_still : (s p : ℕ) → put states slot Idle s ≡ AskedRead p → has_transfers (with_transfer finished page t p) ≡ true
    reads_still = put_so (λ s x. (p : ℕ) → x ≡ AskedRead p → has_transfers (with_transfer finished page t p) ≡ true) states slot Idle (λ p e. absurd cc)
        (λ s off p e. still_held finished page p t (keeps.reads s p e))

    apart_still : (p s o : ℕ) → s ≢ o → has_page p (put states slot Idle s) ≡ true → has_page p (put states slot Idle o) ≡ false
    apart_still p s o ne = put_so (λ k x. k ≢ o → has_page p x ≡ true → has_page p (put states slot Idle o) ≡ false) states slot Idle
        (λ other h. absurd cc)
        (λ k off other h. put_so (λ j x. k ≢ j → has_page p x ≡ false) states slot Idle (λ never. refl) (λ j away never. keeps.apart p k j never h) o other) s ne

  pub read_keeps : (bytes : List ℕ) → states slot ≡ AskedRead page → IfSome pages (λ told. bytes ≡ told page) →
      KeepsPages pages (put states slot Idle) (with_transfer finished page (Answered page bytes))
  read_keeps bytes is brings = record {
    reads = reads_still (Answered page bytes);
    apart = apart_still (Answered page bytes);
    holds = λ p held. subst (λ w. IfSome pages (λ told. told p ≡ w)) (sym (same_written finished page p bytes))
        (keeps.holds p (was_held finished page p (Answered page bytes) (keeps.reads slot page is) held));
    right = λ told p. go p (p == page) refl (keeps.right told p) (as_written pages told (keeps.holds page (keeps.reads slot page is)) brings);
  }
    where
      as_written : (o : Option Pages) → IsSome o → IfSome o (λ told. told page ≡ last_written (finished page)) → IfSome o (λ told. bytes ≡ told page) → bytes ≡ last_written (finished page)
      as_written None never h b = absurd cc
      as_written (Some told) some h b = b ∙ h

      go : (p : ℕ) (b : Bool) → (p == page) ≡ b → AreRightAfter [] (finished p) → bytes ≡ last_written (finished page) →
          AreRightAfter [] (cond b (finished p ++ Answered page bytes ∷ []) (finished p))
      go p true e right same = answered_right [] (finished p) page bytes right (same ∙ ap (λ k. last_written (finished k)) (sym (eqb-true p page e)))
      go p false e right same = right

  pub write_keeps : (bytes : List ℕ) → KeepsPages (option_map (λ told. with_page told page bytes) pages) (put states slot Idle) (with_transfer finished page (Wrote page bytes))
  write_keeps bytes = record {
    reads = reads_still (Wrote page bytes);
    apart = apart_still (Wrote page bytes);
    holds = λ p held. wrote_holds finished page bytes p pages held (keeps.holds p);
    right = λ told p. go p (p == page) (keeps.right (was_told pages told) p);
  }
    where
      was_told : (o : Option Pages) → IsSome (option_map (λ told. with_page told page bytes) o) → IsSome o
      was_told None h = absurd cc
      was_told (Some told) h = refl

      go : (p : ℕ) (b : Bool) → AreRightAfter [] (finished p) → AreRightAfter [] (cond b (finished p ++ Wrote page bytes ∷ []) (finished p))
      go p true right = wrote_right [] (finished p) page bytes right
      go p false right = right

-- ---- a worker over pages beside it

not_writing : (page : ℕ) (state : SlotState) → has_page page state ≡ false → is_writing page state ≡ false
not_writing page Idle h = refl
not_writing page (AskedRead asked) h = refl
not_writing page (AskedWrite asked bytes) h = h
not_writing page (HasFailed asked) h = refl
not_writing page (IsDamaged damage) h = refl

module _ (states : ℕ → SlotState) (finished : Transfers) (slots : ℕ → net.Slot (List ℕ)) (held_pages : ℕ → List ℕ)
    (has : HasPages states finished slots held_pages) (slot page : ℕ) where
  each_put : (state : SlotState) (word : net.Slot (List ℕ)) → word ≡ slot_of finished state → (s : ℕ) → put slots slot word s ≡ slot_of finished (put states slot state s)
  each_put state word e s = go (nat_eq slot s)
    where
      go : (b : Bool) → cond b word (slots s) ≡ slot_of finished (cond b state (states s))
      go true = e
      go false = has.each s

  -- where none writes a page once a slot changed, none did before, if that slot didn't
  none_before : (state : SlotState) (p : ℕ) → is_writing p (states slot) ≡ false → ((s : ℕ) → is_writing p (put states slot state s) ≡ false) →
      (s : ℕ) → is_writing p (states s) ≡ false
  none_before state p here none s = go (nat_eq slot s) refl (none s)
    where
      go : (b : Bool) → nat_eq slot s ≡ b → is_writing p (cond b state (states s)) ≡ false → is_writing p (states s) ≡ false
      go true e h = ap (λ k. is_writing p (states k)) (sym (eqb-true slot s e)) ∙ here
      go false e h = h

  -- what the slot does once it changed
  slot_now : (state : SlotState) → put states slot state slot ≡ state
  slot_now state = ap (λ b. cond b state (states slot)) (eq-eqb slot slot refl)

  pub ask_read_has : states slot ≡ Idle → ((other : ℕ) → has_page page (states other) ≡ false) → has_transfers (finished page) ≡ true →
      HasPages (put states slot (AskedRead page)) finished (put slots slot (net.Served (net.Reads page) (held_pages page))) held_pages
  ask_read_has idle free held = record {
    each = each_put (AskedRead page) (net.Served (net.Reads page) (held_pages page))
        (ap (λ b. net.Served (net.Reads page) b) (has.settled page (λ s. not_writing page (states s) (free s)) held));
    written = put_so (λ s x. (p : ℕ) (bytes : List ℕ) → x ≡ AskedWrite p bytes → held_pages p ≡ bytes) states slot (AskedRead page) (λ p bytes e. absurd cc)
        (λ s off. has.written s);
    settled = λ p none. has.settled p (none_before (AskedRead page) p (ap (is_writing p) idle) none);
  }

  pub ask_write_has : (bytes : List ℕ) → states slot ≡ Idle → ((other : ℕ) → has_page page (states other) ≡ false) →
      HasPages (put states slot (AskedWrite page bytes)) finished (put slots slot (net.Served (net.Writes page bytes) bytes)) (put held_pages page bytes)
  ask_write_has bytes idle free = record {
    each = each_put (AskedWrite page bytes) (net.Served (net.Writes page bytes) bytes) refl;
    written = put_so (λ s x. (p : ℕ) (b : List ℕ) → x ≡ AskedWrite p b → put held_pages page bytes p ≡ b) states slot (AskedWrite page bytes)
        (λ p b e. let same : page ≡ p = cc in let bytes_same : bytes ≡ b = cc in
        ap (λ t. cond t bytes (held_pages p)) (eq-eqb page p same) ∙ bytes_same)
        (λ s off p b e. ap (λ t. cond t bytes (held_pages p)) (turned p page (ap (has_page page) (sym e) ∙ free s)) ∙ has.written s p b e);
    settled = λ p none held. ap (λ t. cond t bytes (held_pages p)) (ap (is_writing p) (sym (slot_now (AskedWrite page bytes))) ∙ none slot)
        ∙ has.settled p (none_before (AskedWrite page bytes) p (ap (is_writing p) idle) none) held;
  }

  -- the words of slots that read stay where what was last written stays
  word_same : (later : Transfers) (state : SlotState) → ((p : ℕ) → has_page p state ≡ true → last_written (later p) ≡ last_written (finished p)) →
      slot_of finished state ≡ slot_of later state
  word_same later Idle same = refl
  word_same later (AskedRead p) same = ap (λ b. net.Served (net.Reads p) b) (sym (same p (eq-eqb p p refl)))
  word_same later (AskedWrite p bytes) same = refl
  word_same later (HasFailed p) same = refl
  word_same later (IsDamaged damage) same = refl

  each_idle : (later : Transfers) → ((s p : ℕ) → nat_eq slot s ≡ false → has_page p (states s) ≡ true → last_written (later p) ≡ last_written (finished p)) →
      (s : ℕ) → put slots slot net.Idle s ≡ slot_of later (put states slot Idle s)
  each_idle later same s = go (nat_eq slot s) refl
    where
      go : (b : Bool) → nat_eq slot s ≡ b → cond b net.Idle (slots s) ≡ slot_of later (cond b Idle (states s))
      go true e = refl
      go false e = has.each s ∙ word_same later (states s) (λ p. same s p e)

  written_still : (s p : ℕ) (b : List ℕ) → put states slot Idle s ≡ AskedWrite p b → held_pages p ≡ b
  written_still = put_so (λ s x. (p : ℕ) (b : List ℕ) → x ≡ AskedWrite p b → held_pages p ≡ b) states slot Idle (λ p b e. absurd cc) (λ s off. has.written s)

  pub read_has : (bytes : List ℕ) → states slot ≡ AskedRead page → has_transfers (finished page) ≡ true →
      HasPages (put states slot Idle) (with_transfer finished page (Answered page bytes)) (put slots slot net.Idle) held_pages
  read_has bytes is held = record {
    each = each_idle (with_transfer finished page (Answered page bytes)) (λ s p off of. same_written finished page p bytes);
    written = written_still;
    settled = λ p none held'. has.settled p (none_before Idle p (ap (is_writing p) is) none) (was_held finished page p (Answered page bytes) held held')
        ∙ sym (same_written finished page p bytes);
  }

  pub write_has : (bytes : List ℕ) → states slot ≡ AskedWrite page bytes → ((other : ℕ) → slot ≢ other → has_page page (states other) ≡ false) →
      HasPages (put states slot Idle) (with_transfer finished page (Wrote page bytes)) (put slots slot net.Idle) held_pages
  write_has bytes is apart = record {
    each = each_idle (with_transfer finished page (Wrote page bytes)) (λ s p off of. other_same s p of (apart s (eqb-false slot s off)) (p == page) refl);
    written = written_still;
    settled = λ p none held. settled_now p none (p == page) refl held;
  }
    where
      other_same : (s p : ℕ) → has_page p (states s) ≡ true → has_page page (states s) ≡ false → (b : Bool) → (p == page) ≡ b →
          last_written (cond b (finished p ++ Wrote page bytes ∷ []) (finished p)) ≡ last_written (finished p)
      other_same s p of none true e = absurd (let never : true ≡ false = sym of ∙ ap (λ k. has_page k (states s)) (eqb-true p page e) ∙ none in cc)
      other_same s p of none false e = refl

      settled_now : (p : ℕ) → ((s : ℕ) → is_writing p (put states slot Idle s) ≡ false) → (b : Bool) → (p == page) ≡ b →
          has_transfers (cond b (finished p ++ Wrote page bytes ∷ []) (finished p)) ≡ true →
          held_pages p ≡ last_written (cond b (finished p ++ Wrote page bytes ∷ []) (finished p))
      settled_now p none true e held = ap held_pages (eqb-true p page e) ∙ has.written slot page bytes is ∙ sym (written_last [] (finished p) page bytes)
      settled_now p none false e held = has.settled p (none_before Idle p (ap (is_writing p) is ∙ turned p page e) none) held
