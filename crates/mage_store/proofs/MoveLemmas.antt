-- What a sealed port keeps after each kind of move.
use Rattle.std.proofs.Common.{◌≡◌, ◌≢◌, ◌∙◌, sym, subst, ap, refl, ℕ, List, [], ◌∷◌, ◌++◌, Bool, true, false, IsTrue, Option, Some, IfSome}
use Rattle.std.specs.Prelude.{◌==◌}
use Rattle.std.specs.Option.{option_map}
use Rattle.std.proofs.lemmas.Bool.{eq-eqb, eqb-true, eqb-false}
use Rattle.mage_base.specs.declared.failure.Damage.{Damage}
use Rattle.mage_base.specs.Store.{Pages, Transfer, Wrote, Answered, with_page}
use Rattle.sha2.specs.Sha256.{sha256}
use Rattle.mage_port.specs.Port.{Transfers, Idle, AskedRead, AskedWrite, HasFailed, IsDamaged, has_page, has_transfers, last_written, with_transfer}
use Rattle.mage_store.specs.Seals.{Digests, with_digest}
use Rattle.mage_store.specs.SealedPort.{AreSealed, IsKept, held_in, KeepsState, is_damaged_at, States, IsFree, IsUndamaged, AreKept}
use Rattle.mage_store.proofs.KeptLemmas.{put, moves, last_written-wrote, last_written-answered, sealed-wrote, sealed-answered, with_transfer-here, with_transfer-other, held-here, held-other, undamaged}

-- a page that differs from another doesn't equal it
differs : (page other : ℕ) → (other == page) ≡ false → (page == other) ≡ false
differs page other apart = go (page == other) refl
  where
    go : (test : Bool) → (page == other) ≡ test → (page == other) ≡ false
    go true e = absurd (eqb-false other page apart (sym (eqb-true page other e)))
    go false e = e

module _ (states : States) (finished : Transfers) (pages : Option Pages) (digests : Digests) (kept : AreKept states finished pages digests) (slot page : ℕ) where
  -- no other slot has the page of a slot
  others : IsTrue (has_page page (states slot)) → (other : ℕ) → (other == slot) ≡ false → has_page page (states other) ≡ false
  others has other apart = kept.apart page slot other (λ same. eqb-false other slot apart (sym same)) has

  -- an idle slot has no page
  idle_was : states slot ≡ Idle → (other : ℕ) → has_page other (states slot) ≡ false
  idle_was idle other = ap (has_page other) idle

  -- a slot is asked for a read of a page that was written and that no slot has
  pub asked_read : states slot ≡ Idle → IsFree states page → IsTrue (has_transfers (finished page)) → AreKept (put states slot (AskedRead page)) finished pages digests
  asked_read idle free held =
      moves states finished finished pages pages digests digests slot page (AskedRead page) kept
      (record {
        others = λ other apart. free other;
        was = λ other apart. idle_was idle other;
        is = λ other apart. differs page other apart;
        same_finished = λ other apart. refl;
        same_pages = λ other apart. refl;
        same_digests = λ other apart. refl;
        here = kept.free page free held;
        free = λ none. absurd (cc (eq-eqb page page refl, none));
        sealed = λ none. kept.sealed page (λ j. undamaged (states j) page (free j));
      })

  -- a slot is asked to write these bytes to a page that no slot has
  pub asked_write : (bytes : List ℕ) → states slot ≡ Idle → IsFree states page → AreKept (put states slot (AskedWrite page bytes)) finished pages (with_digest digests page (sha256 bytes))
  asked_write bytes idle free =
      moves states finished finished pages pages digests (with_digest digests page (sha256 bytes)) slot page (AskedWrite page bytes) kept
      (record {
        others = λ other apart. free other;
        was = λ other apart. idle_was idle other;
        is = λ other apart. differs page other apart;
        same_finished = λ other apart. refl;
        same_pages = λ other apart. refl;
        same_digests = λ other apart. rw apart refl;
        here = rw (eq-eqb page page refl) refl;
        free = λ none. absurd (cc (eq-eqb page page refl, none));
        sealed = λ none. kept.sealed page (λ j. undamaged (states j) page (free j));
      })

-- the same last write
kept_as : (transfers transfers' : List Transfer) (held digest : Option (List ℕ)) → last_written transfers' ≡ last_written transfers → IsKept transfers held digest → IsKept transfers' held digest
kept_as transfers transfers' held digest same kept =
    record {
      digest_is = kept.digest_is ∙ ap (λ (w : List ℕ). Some (sha256 w)) (sym same);
      held_is = subst (λ (w : List ℕ). IfSome held (λ bytes. bytes ≡ w)) (sym same) kept.held_is;
    }

-- a page that no slot found damaged but one that has another state
whole_but : (states : States) (slot page : ℕ) → ((other : ℕ) → (other == slot) ≡ false → has_page page (states other) ≡ false) → is_damaged_at page (states slot) ≡ false → IsUndamaged states page
whole_but states slot page apart here j = go (j == slot) refl
  where
    go : (test : Bool) → (j == slot) ≡ test → is_damaged_at page (states j) ≡ false
    go true e = subst (λ (i : ℕ). is_damaged_at page (states i) ≡ false) (sym (eqb-true j slot e)) here
    go false e = undamaged (states j) page (apart j e)

module _ (states : States) (finished : Transfers) (pages : Option Pages) (digests : Digests) (kept : AreKept states finished pages digests) (slot page : ℕ) where
  read_others : states slot ≡ AskedRead page → (other : ℕ) → (other == slot) ≡ false → has_page page (states other) ≡ false
  read_others is = others states finished pages digests kept slot page (ap (has_page page) is ∙ eq-eqb page page refl)

  read_whole : states slot ≡ AskedRead page → AreSealed (finished page)
  read_whole is = kept.sealed page (whole_but states slot page (read_others is) (ap (is_damaged_at page) is))

  pub read_kept : states slot ≡ AskedRead page → IsKept (finished page) (held_in pages page) (digests page)
  read_kept is = subst (KeepsState finished pages digests) is (kept.slots slot)

  -- a read that was answered with a page of the digest that is kept
  pub read_right : (bytes : List ℕ) → states slot ≡ AskedRead page → sha256 bytes ≡ sha256 (last_written (finished page)) → AreKept (put states slot Idle) (with_transfer finished page (Answered page bytes)) pages digests
  read_right bytes is same =
      moves states finished (with_transfer finished page (Answered page bytes)) pages pages digests digests slot page Idle kept
      (record {
        others = read_others is;
        was = λ other apart. ap (has_page other) is ∙ differs page other apart;
        is = λ other apart. refl;
        same_finished = λ other apart. with_transfer-other finished page (Answered page bytes) other apart;
        same_pages = λ other apart. refl;
        same_digests = λ other apart. refl;
        here = tt;
        free = λ none held. subst (λ (l : List Transfer). IsKept l (held_in pages page) (digests page)) (sym (with_transfer-here finished page (Answered page bytes)))
            (kept_as (finished page) (finished page ++ Answered page bytes ∷ []) (held_in pages page) (digests page) (last_written-answered [] (finished page) page bytes) (read_kept is));
        sealed = λ none. subst AreSealed (sym (with_transfer-here finished page (Answered page bytes))) (sealed-answered [] (finished page) page bytes (read_whole is) same);
      })

  -- a read that failed
  pub failed_read : states slot ≡ AskedRead page → AreKept (put states slot (HasFailed page)) finished pages digests
  failed_read is =
      moves states finished finished pages pages digests digests slot page (HasFailed page) kept
      (record {
        others = read_others is;
        was = λ other apart. ap (has_page other) is ∙ differs page other apart;
        is = λ other apart. differs page other apart;
        same_finished = λ other apart. refl;
        same_pages = λ other apart. refl;
        same_digests = λ other apart. refl;
        here = tt;
        free = λ none. absurd (cc (eq-eqb page page refl, none));
        sealed = λ none. read_whole is;
      })

  module _ (bytes : List ℕ) (is : states slot ≡ AskedWrite page bytes) where
    write_others : (other : ℕ) → (other == slot) ≡ false → has_page page (states other) ≡ false
    write_others = others states finished pages digests kept slot page (ap (has_page page) is ∙ eq-eqb page page refl)

    write_whole : AreSealed (finished page)
    write_whole = kept.sealed page (whole_but states slot page write_others (ap (is_damaged_at page) is))

    write_kept : digests page ≡ Some (sha256 bytes)
    write_kept = subst (KeepsState finished pages digests) is (kept.slots slot)

    after_wrote : IsKept (finished page ++ Wrote page bytes ∷ []) (held_in (option_map (λ told. with_page told page bytes) pages) page) (digests page)
    after_wrote =
        let last = last_written-wrote [] (finished page) page bytes in
        record {
          digest_is = write_kept ∙ ap (λ (w : List ℕ). Some (sha256 w)) (sym last);
          held_is = subst (λ (w : List ℕ). IfSome (held_in (option_map (λ told. with_page told page bytes) pages) page) (λ held. held ≡ w)) (sym last) (held-here pages page bytes);
        }

    -- a write that was made
    pub wrote : AreKept (put states slot Idle) (with_transfer finished page (Wrote page bytes)) (option_map (λ told. with_page told page bytes) pages) digests
    wrote =
        moves states finished (with_transfer finished page (Wrote page bytes)) pages (option_map (λ told. with_page told page bytes) pages) digests digests slot page Idle kept
        (record {
          others = write_others;
          was = λ other apart. ap (has_page other) is ∙ differs page other apart;
          is = λ other apart. refl;
          same_finished = λ other apart. with_transfer-other finished page (Wrote page bytes) other apart;
          same_pages = λ other apart. held-other pages page bytes other apart;
          same_digests = λ other apart. refl;
          here = tt;
          free = λ none held. subst (λ (l : List Transfer). IsKept l (held_in (option_map (λ told. with_page told page bytes) pages) page) (digests page)) (sym (with_transfer-here finished page (Wrote page bytes))) after_wrote;
          sealed = λ none. subst AreSealed (sym (with_transfer-here finished page (Wrote page bytes))) (sealed-wrote [] (finished page) page bytes write_whole);
        })

    -- a write that failed
    pub failed_write : (left : List ℕ) → AreKept (put states slot (HasFailed page)) finished (option_map (λ told. with_page told page left) pages) digests
    failed_write left =
        moves states finished finished pages (option_map (λ told. with_page told page left) pages) digests digests slot page (HasFailed page) kept
        (record {
          others = write_others;
          was = λ other apart. ap (has_page other) is ∙ differs page other apart;
          is = λ other apart. differs page other apart;
          same_finished = λ other apart. refl;
          same_pages = λ other apart. held-other pages page left other apart;
          same_digests = λ other apart. refl;
          here = tt;
          free = λ none. absurd (cc (eq-eqb page page refl, none));
          sealed = λ none. write_whole;
        })

-- a read that was answered with a page of another digest
pub read_wrong : (states : States) (finished : Transfers) (pages : Option Pages) (digests : Digests) (kept : AreKept states finished pages digests) (slot : ℕ) (damage : Damage) (bytes : List ℕ) → states slot ≡ AskedRead damage.page → damage.kept ≡ sha256 (last_written (finished damage.page)) → damage.found ≡ sha256 bytes → damage.kept ≢ damage.found → AreKept (put states slot (IsDamaged damage)) (with_transfer finished damage.page (Answered damage.page bytes)) pages digests
read_wrong states finished pages digests kept slot damage bytes is digest found apart =
    let page = damage.page in
    moves states finished (with_transfer finished page (Answered page bytes)) pages pages digests digests slot page (IsDamaged damage) kept
    (record {
      others = read_others states finished pages digests kept slot page is;
      was = λ other apart'. ap (has_page other) is ∙ differs page other apart';
      is = λ other apart'. differs page other apart';
      same_finished = λ other apart'. with_transfer-other finished page (Answered page bytes) other apart';
      same_pages = λ other apart'. refl;
      same_digests = λ other apart'. refl;
      here = record {
        before = finished page;
        bytes = bytes;
        is = with_transfer-here finished page (Answered page bytes);
        sealed = read_whole states finished pages digests kept slot page is;
        kept = digest;
        found = found;
        differs = apart;
      };
      free = λ none. absurd (cc (eq-eqb page page refl, none));
      sealed = λ none. absurd (cc (eq-eqb page page refl, none));
    })
