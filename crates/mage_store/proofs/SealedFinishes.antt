-- What a sealed port holds, and what it then tells, after it asked the port below whether a transfer is done.
use Rattle.std.proofs.Common.{◌≡◌, ◌≢◌, ◌<◌, ◌∙◌, sym, subst, ap, refl, ℕ, List, length, get_or, set, Bool, IsNone, IfSome, Option, Some, None, Result, Ok, Err}
use Rattle.std.specs.Option.{option_map}
use Rattle.mage_base.specs.declared.failure.Damage.{Damage}
use Rattle.mage_base.specs.Store.{Pages, Answered, with_page}
use Rattle.sha2.specs.Sha256.{sha256}
use Rattle.mage_port.specs.declared.ready.Ready.{Ready}
use Rattle.mage_port.specs.declared.ready.Ready.TheVariants as ready
use Rattle.mage_port.specs.declared.ready.PortWait.{PortWait}
use Rattle.mage_port.specs.declared.ready.PortWait.TheVariants as waits
use Rattle.mage_port.specs.Port.{PortTold, SlotState, Idle, AskedRead, AskedWrite, HasFailed, IsDamaged, slot_state, with_state, last_written, with_transfer, after_read, after_write, Finishes, Brings, Saves, Waits, Fails, Spoils, IsUnderWay, KeepsOn}
use Rattle.mage_store.specs.declared.watch.Watch.{Watch}
use Rattle.mage_store.specs.Seals.{Digests}
use Rattle.mage_store.specs.SealedPort.{no_watch, all_watched, sealed_told, held_in, AreKept, Watches, IsSealed, IsDamageOf, Judges, HasSealOf, BringsSealed}
use Rattle.mage_store.proofs.KeptLemmas.{put}
use Rattle.mage_store.proofs.MoveLemmas.{read_kept, read_right, read_wrong, failed_read, wrote, failed_write}
use Rattle.mage_store.proofs.SlotLemmas.{within_active}
use Rattle.mage_store.proofs.SealedLemmas.{all_watched-set}
use Rattle.mage_store.proofs.SealedCalls.{watches_after, watches_same, watched_same, state_whole, kept_as_set}

-- pages that brought other bytes than were last written aren't told
untold : (pages : Option Pages) (page : ℕ) (bytes last : List ℕ) → IfSome pages (λ told. bytes ≡ told page) → IfSome (held_in pages page) (λ held. held ≡ last) → sha256 last ≢ sha256 bytes → IsNone pages
untold None page bytes last came held differs = refl
untold (Some told) page bytes last came held differs = absurd (differs (ap sha256 (sym (came ∙ held))))

if_some : (digest : Option (List ℕ)) (d : List ℕ) (P : List ℕ → Type 0) → digest ≡ Some d → IfSome digest P → P d
if_some digest d P is holds = subst (λ (o : Option (List ℕ)). IfSome o P) is holds

same_is_under_way : (below below' : PortTold) (watches : List Watch) (digests : Digests) → IsUnderWay below below' → IsUnderWay (sealed_told below watches digests) (sealed_told below' watches digests)
same_is_under_way below below' watches digests under_way =
    (ap (λ (b : PortTold). sealed_told b watches digests) under_way.0, under_way.1, under_way.2)

-- the steps of a port that keeps on are those of the port above it
pub keeps_on_above : (below : PortTold) (watches : List Watch) (digests : Digests) (state : SlotState) (result : Result Ready PortWait) → KeepsOn below state result → KeepsOn (sealed_told below watches digests) state result
keeps_on_above below watches digests Idle result keeps = tt
keeps_on_above below watches digests (AskedRead page) result keeps = keeps
keeps_on_above below watches digests (AskedWrite page bytes) result keeps = keeps
keeps_on_above below watches digests (HasFailed page) result keeps = tt
keeps_on_above below watches digests (IsDamaged damage) result keeps = tt

-- damage is no failure
pub keeps_on_damaged : (port : PortTold) (state : SlotState) (damage : Damage) → KeepsOn port state (Err (waits.Damaged damage))
keeps_on_damaged port Idle damage = tt
keeps_on_damaged port (AskedRead page) damage = λ within below. tt
keeps_on_damaged port (AskedWrite page bytes) damage = λ within below. tt
keeps_on_damaged port (HasFailed page) damage = tt
keeps_on_damaged port (IsDamaged found) damage = tt

module _ (below below' : PortTold) (watches : List Watch) (digests : Digests) (known : IsSealed below watches digests) (slot : ℕ) (whole : (get_or watches slot no_watch).damage ≡ None) where
  -- what the slot is doing above
  is_above : (state : SlotState) → slot_state below slot ≡ state → slot_state (sealed_told below watches digests) slot ≡ state
  is_above state is = state_whole below watches digests known slot whole ∙ is

  -- the port below, of which the slot came into another state, and what is kept then
  abbrev Sealed : PortTold → Type 0
  Sealed b = IsSealed b watches digests

  sealed_by : (state : SlotState) (b : PortTold) → b.slots ≡ set below.slots slot state → b.takes ≡ below.takes → slot < length below.slots → ((page : ℕ) → state ≡ AskedRead page → (get_or watches slot no_watch).page ≡ page) → AreKept (put (slot_state (sealed_told below watches digests)) slot state) b.finished b.pages digests → IsSealed b watches digests
  sealed_by state b slots takes within asked kept =
      let same = ap (all_watched watches) slots ∙ watched_same watches below.slots slot state known.watch.count whole in
      record {
        watch = subst (λ (t : ℕ → Bool). Watches b.slots t watches digests) (sym takes)
            (subst (λ (l : List SlotState). Watches l below.takes watches digests) (sym slots)
            (watches_same below.slots below.takes watches digests slot state known.watch within asked whole));
        kept = kept_as_set below watches digests known slot (all_watched watches b.slots) state b.finished b.pages digests same within kept;
      }

  -- the slots above, of which one changed
  slots_above : (state : SlotState) → all_watched watches (set below.slots slot state) ≡ set (all_watched watches below.slots) slot state
  slots_above state = watched_same watches below.slots slot state known.watch.count whole

  -- a read that brought a page of the digest that is kept
  module _ (bytes : List ℕ) (judged : IfSome (digests (get_or watches slot no_watch).page) (λ kept. kept ≡ sha256 bytes)) where
    same_digest : (page : ℕ) → slot_state below slot ≡ AskedRead page → sha256 bytes ≡ sha256 (last_written (below.finished page))
    same_digest page is =
        let kept = read_kept (slot_state (sealed_told below watches digests)) below.finished below.pages digests known.kept slot page (is_above (AskedRead page) is) in
        let here = subst (λ (q : ℕ). IfSome (digests q) (λ (d : List ℕ). d ≡ sha256 bytes)) (known.watch.asked slot page is) judged in
        sym (if_some (digests page) (sha256 (last_written (below.finished page))) (λ (d : List ℕ). d ≡ sha256 bytes) kept.digest_is here)

    read_finishes : (state : SlotState) → slot_state below slot ≡ state → Brings below below' slot bytes state → IsSealed below' watches digests × Brings (sealed_told below watches digests) (sealed_told below' watches digests) slot bytes state
    read_finishes Idle is brings = absurd brings
    read_finishes (AskedRead page) is brings =
        let within = within_active below.slots slot (AskedRead page) is refl in
        let kept = read_right (slot_state (sealed_told below watches digests)) below.finished below.pages digests known.kept slot page bytes (is_above (AskedRead page) is) (same_digest page is) in (
          subst Sealed (sym brings.1) (sealed_by Idle (after_read below slot page bytes) refl refl within (λ q same. absurd (cc same)) kept),
          (brings.0, ap (λ (b : PortTold). sealed_told b watches digests) brings.1 ∙ ap (λ (l : List SlotState). record (after_read (sealed_told below watches digests) slot page bytes) { slots = l }) (slots_above Idle)),
        )
    read_finishes (AskedWrite _ _) is brings = absurd brings
    read_finishes (HasFailed _) is brings = absurd brings
    read_finishes (IsDamaged _) is brings = absurd brings

    pub sealed_read : Brings below below' slot bytes (slot_state below slot) → IsSealed below' watches digests
    sealed_read brings = (read_finishes (slot_state below slot) refl brings).0

    pub told_read : Brings below below' slot bytes (slot_state below slot) → Brings (sealed_told below watches digests) (sealed_told below' watches digests) slot bytes (slot_state (sealed_told below watches digests) slot)
    told_read brings = subst (Brings (sealed_told below watches digests) (sealed_told below' watches digests) slot bytes) (sym (state_whole below watches digests known slot whole)) ((read_finishes (slot_state below slot) refl brings).1)

  -- a write
  write_finishes : (state : SlotState) → slot_state below slot ≡ state → Saves below below' slot state → IsSealed below' watches digests × Saves (sealed_told below watches digests) (sealed_told below' watches digests) slot state
  write_finishes Idle is saves = absurd saves
  write_finishes (AskedRead _) is saves = absurd saves
  write_finishes (AskedWrite page bytes) is saves =
      let within = within_active below.slots slot (AskedWrite page bytes) is refl in
      let kept = wrote (slot_state (sealed_told below watches digests)) below.finished below.pages digests known.kept slot page bytes (is_above (AskedWrite page bytes) is) in (
        subst Sealed (sym saves) (sealed_by Idle (after_write below slot page bytes) refl refl within (λ q same. absurd (cc same)) kept),
        ap (λ (b : PortTold). sealed_told b watches digests) saves ∙ ap (λ (l : List SlotState). record (after_write (sealed_told below watches digests) slot page bytes) { slots = l }) (slots_above Idle),
      )
  write_finishes (HasFailed _) is saves = absurd saves
  write_finishes (IsDamaged _) is saves = absurd saves

  still_sealed : below' ≡ record below { waits = below'.waits } → IsSealed below' watches digests
  still_sealed same =
      let b : PortTold = record below { waits = below'.waits } in
      let held : IsSealed b watches digests = record { watch = known.watch; kept = known.kept } in
      subst Sealed (sym same) held

  -- a transfer that is under way
  waits_on : (state : SlotState) → Waits below below' state → IsSealed below' watches digests × Waits (sealed_told below watches digests) (sealed_told below' watches digests) state
  waits_on Idle under_way = absurd under_way
  waits_on (AskedRead _) under_way = (still_sealed under_way.0, same_is_under_way below below' watches digests under_way)
  waits_on (AskedWrite _ _) under_way = (still_sealed under_way.0, same_is_under_way below below' watches digests under_way)
  waits_on (HasFailed _) under_way = absurd under_way
  waits_on (IsDamaged _) under_way = absurd under_way

  -- a transfer that failed
  fails : (state : SlotState) → slot_state below slot ≡ state → Fails below below' slot state → IsSealed below' watches digests × Fails (sealed_told below watches digests) (sealed_told below' watches digests) slot state
  fails Idle is left = absurd left
  fails (AskedRead page) is left =
      let within = within_active below.slots slot (AskedRead page) is refl in
      let kept = failed_read (slot_state (sealed_told below watches digests)) below.finished below.pages digests known.kept slot page (is_above (AskedRead page) is) in (
        subst Sealed (sym left) (sealed_by (HasFailed page) (with_state below slot (HasFailed page)) refl refl within (λ q same. absurd (cc same)) kept),
        ap (λ (b : PortTold). sealed_told b watches digests) left ∙ ap (λ (l : List SlotState). record (sealed_told below watches digests) { slots = l }) (slots_above (HasFailed page)),
      )
  fails (AskedWrite page bytes) is left =
      let within = within_active below.slots slot (AskedWrite page bytes) is refl in
      let pages = option_map (λ told. with_page told page left.0) below.pages in
      let kept = failed_write (slot_state (sealed_told below watches digests)) below.finished below.pages digests known.kept slot page bytes (is_above (AskedWrite page bytes) is) left.0 in (
        subst Sealed (sym left.1) (sealed_by (HasFailed page) (record (with_state below slot (HasFailed page)) { pages = pages }) refl refl within (λ q same. absurd (cc same)) kept),
        (left.0, ap (λ (b : PortTold). sealed_told b watches digests) left.1 ∙ ap (λ (l : List SlotState). record (sealed_told below watches digests) { slots = l; pages = pages }) (slots_above (HasFailed page))),
      )
  fails (HasFailed page) is left = (subst Sealed (sym left) known, ap (λ (b : PortTold). sealed_told b watches digests) left)
  fails (IsDamaged _) is left = absurd left

  -- the kept digest, by the page of the damage
  damaged_at : (damage : Damage) (page : ℕ) (bytes : List ℕ) → slot_state below slot ≡ AskedRead page → damage.page ≡ page → damage.kept ≡ sha256 (last_written (below.finished page)) → damage.found ≡ sha256 bytes → damage.kept ≢ damage.found → AreKept (put (slot_state (sealed_told below watches digests)) slot (IsDamaged damage)) (with_transfer below.finished page (Answered page bytes)) below.pages digests
  damaged_at damage page bytes is page_is kept_is found differs =
      subst (λ (q : ℕ). AreKept (put (slot_state (sealed_told below watches digests)) slot (IsDamaged damage)) (with_transfer below.finished q (Answered q bytes)) below.pages digests) page_is
      (read_wrong (slot_state (sealed_told below watches digests)) below.finished below.pages digests known.kept slot damage bytes
      (is_above (AskedRead page) is ∙ ap AskedRead (sym page_is))
      (kept_is ∙ ap (λ (q : ℕ). sha256 (last_written (below.finished q))) (sym page_is)) found differs)

  -- damage that the port below found
  spoils : (damage : Damage) (state : SlotState) → slot_state below slot ≡ state → Spoils below below' slot damage state → IsSealed below' watches digests × Spoils (sealed_told below watches digests) (sealed_told below' watches digests) slot damage state
  spoils damage Idle is left = absurd left
  spoils damage (AskedRead page) is left =
      let bytes = left.0 in
      let spoiled = left.1 in
      let within = within_active below.slots slot (AskedRead page) is refl in
      let b : PortTold = record (after_read below slot page bytes) { slots = set below.slots slot (IsDamaged damage) } in
      let kept = damaged_at damage page bytes is spoiled.of_page spoiled.kept spoiled.found spoiled.differs in (
        subst Sealed (sym spoiled.left) (sealed_by (IsDamaged damage) b refl refl within (λ q same. absurd (cc same)) kept),
        (
          bytes,
          record {
            untold = spoiled.untold;
            of_page = spoiled.of_page;
            kept = spoiled.kept;
            found = spoiled.found;
            differs = spoiled.differs;
            left = ap (λ (b : PortTold). sealed_told b watches digests) spoiled.left ∙ ap (λ (l : List SlotState). record (after_read (sealed_told below watches digests) slot page bytes) { slots = l }) (slots_above (IsDamaged damage));
          },
        ),
      )
  spoils damage (AskedWrite _ _) is left = absurd left
  spoils damage (HasFailed _) is left = absurd left
  spoils damage (IsDamaged found) is left = (subst Sealed (sym left.1) known, (left.0, ap (λ (b : PortTold). sealed_told b watches digests) left.1))

  above_again : (P : SlotState → Type 0) → P (slot_state below slot) → P (slot_state (sealed_told below watches digests) slot)
  above_again P holds = subst P (sym (state_whole below watches digests known slot whole)) holds

  pub sealed_wrote : Saves below below' slot (slot_state below slot) → IsSealed below' watches digests
  sealed_wrote saves = (write_finishes (slot_state below slot) refl saves).0

  pub told_wrote : Saves below below' slot (slot_state below slot) → Saves (sealed_told below watches digests) (sealed_told below' watches digests) slot (slot_state (sealed_told below watches digests) slot)
  told_wrote saves = above_again (Saves (sealed_told below watches digests) (sealed_told below' watches digests) slot) ((write_finishes (slot_state below slot) refl saves).1)

  -- every answer of the port below but that a transfer is done
  pub sealed_err : (old new : List ℕ) (wait : PortWait) → Finishes below below' slot old new (Err wait) → IsSealed below' watches digests
  sealed_err old new waits.Pending left = (waits_on (slot_state below slot) left.1).0
  sealed_err old new waits.Failed left = (fails (slot_state below slot) refl left).0
  sealed_err old new (waits.Damaged damage) left = (spoils damage (slot_state below slot) refl left).0

  pub told_err : (old new : List ℕ) (wait : PortWait) → Finishes below below' slot old new (Err wait) → Finishes (sealed_told below watches digests) (sealed_told below' watches digests) slot old new (Err wait)
  told_err old new waits.Pending left = (left.0, above_again (Waits (sealed_told below watches digests) (sealed_told below' watches digests)) ((waits_on (slot_state below slot) left.1).1))
  told_err old new waits.Failed left = above_again (Fails (sealed_told below watches digests) (sealed_told below' watches digests) slot) ((fails (slot_state below slot) refl left).1)
  told_err old new (waits.Damaged damage) left = above_again (Spoils (sealed_told below watches digests) (sealed_told below' watches digests) slot damage) ((spoils damage (slot_state below slot) refl left).1)

  -- a read that brought a page of another digest, which is noted
  module _ (bytes : List ℕ) (damage : Damage) (judged : IfSome (digests (get_or watches slot no_watch).page) (λ kept. IsDamageOf kept (get_or watches slot no_watch).page bytes damage)) where
    abbrev pub watches' : List Watch
    watches' = set watches slot (record (get_or watches slot no_watch) { damage = Some damage })

    wrong_finishes : (state : SlotState) → slot_state below slot ≡ state → Brings below below' slot bytes state → IsSealed below' watches' digests × Spoils (sealed_told below watches digests) (sealed_told below' watches' digests) slot damage state
    wrong_finishes Idle is brings = absurd brings
    wrong_finishes (AskedRead page) is brings =
        let last = sha256 (last_written (below.finished page)) in
        let within = within_active below.slots slot (AskedRead page) is refl in
        let kept = read_kept (slot_state (sealed_told below watches digests)) below.finished below.pages digests known.kept slot page (is_above (AskedRead page) is) in
        let h = if_some (digests page) last (λ (d : List ℕ). IsDamageOf d page bytes damage) kept.digest_is
        (subst (λ (q : ℕ). IfSome (digests q) (λ (d : List ℕ). IsDamageOf d q bytes damage)) (known.watch.asked slot page is) judged) in
        let after = damaged_at damage page bytes is h.page_is h.kept_is h.found h.differs in
        let same_slots = all_watched-set watches below.slots slot (record (get_or watches slot no_watch) { damage = Some damage }) Idle known.watch.count in
        let b : PortTold = after_read below slot page bytes in
        let sealed : IsSealed b watches' digests = record {
          watch = watches_after below.slots below.takes watches digests slot Idle (record (get_or watches slot no_watch) { damage = Some damage }) known.watch within (λ q same. absurd (cc same)) (λ some. refl);
          kept = kept_as_set below watches digests known slot (all_watched watches' (set below.slots slot Idle)) (IsDamaged damage) b.finished b.pages digests same_slots within after;
        } in (
          subst (λ (c : PortTold). IsSealed c watches' digests) (sym brings.1) sealed,
          (
            bytes,
            record {
              untold = untold below.pages page bytes (last_written (below.finished page)) brings.0 kept.held_is (λ same. h.differs (h.kept_is ∙ same ∙ sym h.found));
              of_page = h.page_is;
              kept = h.kept_is;
              found = h.found;
              differs = h.differs;
              left = ap (λ (c : PortTold). sealed_told c watches' digests) brings.1 ∙ ap (λ (l : List SlotState). record (after_read (sealed_told below watches digests) slot page bytes) { slots = l }) same_slots;
            },
          ),
        )
    wrong_finishes (AskedWrite _ _) is brings = absurd brings
    wrong_finishes (HasFailed _) is brings = absurd brings
    wrong_finishes (IsDamaged _) is brings = absurd brings

    pub sealed_wrong : Brings below below' slot bytes (slot_state below slot) → IsSealed below' watches' digests
    sealed_wrong brings = (wrong_finishes (slot_state below slot) refl brings).0

    pub told_wrong : Brings below below' slot bytes (slot_state below slot) → Spoils (sealed_told below watches digests) (sealed_told below' watches' digests) slot damage (slot_state (sealed_told below watches digests) slot)
    told_wrong brings = above_again (Spoils (sealed_told below watches digests) (sealed_told below' watches' digests) slot damage) ((wrong_finishes (slot_state below slot) refl brings).1)

-- ---- what was judged

pub keeps_judged : (port : PortTold) (state : SlotState) (digest : Option (List ℕ)) (bytes : List ℕ) (before after : List Watch) (slot : ℕ) (result : Result Ready PortWait) → Judges digest bytes before after slot result → KeepsOn port state result
keeps_judged port Idle digest bytes before after slot result judged = tt
keeps_judged port (AskedRead page) digest bytes before after slot (Ok ready.Read) judged = λ within below. tt
keeps_judged port (AskedRead page) digest bytes before after slot (Ok ready.Wrote) judged = λ within below. tt
keeps_judged port (AskedRead page) digest bytes before after slot (Err waits.Pending) judged = λ within below. tt
keeps_judged port (AskedRead page) digest bytes before after slot (Err waits.Failed) judged = absurd judged
keeps_judged port (AskedRead page) digest bytes before after slot (Err (waits.Damaged damage)) judged = λ within below. tt
keeps_judged port (AskedWrite page written) digest bytes before after slot (Ok ready.Read) judged = λ within below. tt
keeps_judged port (AskedWrite page written) digest bytes before after slot (Ok ready.Wrote) judged = λ within below. tt
keeps_judged port (AskedWrite page written) digest bytes before after slot (Err waits.Pending) judged = λ within below. tt
keeps_judged port (AskedWrite page written) digest bytes before after slot (Err waits.Failed) judged = absurd judged
keeps_judged port (AskedWrite page written) digest bytes before after slot (Err (waits.Damaged damage)) judged = λ within below. tt
keeps_judged port (HasFailed page) digest bytes before after slot result judged = tt
keeps_judged port (IsDamaged damage) digest bytes before after slot result judged = tt

module _ (below below' : PortTold) (watches watches' : List Watch) (digests : Digests) (known : IsSealed below watches digests) (slot : ℕ) (whole : (get_or watches slot no_watch).damage ≡ None) (bytes : List ℕ) (brings : Brings below below' slot bytes (slot_state below slot)) where
  pub sealed_judged : (result : Result Ready PortWait) → Judges (digests (get_or watches slot no_watch).page) bytes watches watches' slot result → IsSealed below' watches' digests
  sealed_judged (Ok ready.Read) judged = subst (λ (ws : List Watch). IsSealed below' ws digests) (sym judged.1) (sealed_read below below' watches digests known slot whole bytes judged.0 brings)
  sealed_judged (Ok ready.Wrote) judged = absurd judged
  sealed_judged (Err waits.Pending) judged = absurd judged
  sealed_judged (Err waits.Failed) judged = absurd judged
  sealed_judged (Err (waits.Damaged damage)) judged = subst (λ (ws : List Watch). IsSealed below' ws digests) (sym judged.1) (sealed_wrong below below' watches digests known slot whole bytes damage judged.0 brings)

  pub told_judged : (old : List ℕ) (result : Result Ready PortWait) → Judges (digests (get_or watches slot no_watch).page) bytes watches watches' slot result → Finishes (sealed_told below watches digests) (sealed_told below' watches' digests) slot old bytes result
  told_judged old (Ok ready.Read) judged = subst (λ (ws : List Watch). Finishes (sealed_told below watches digests) (sealed_told below' ws digests) slot old bytes (Ok ready.Read)) (sym judged.1) (told_read below below' watches digests known slot whole bytes judged.0 brings)
  told_judged old (Ok ready.Wrote) judged = absurd judged
  told_judged old (Err waits.Pending) judged = absurd judged
  told_judged old (Err waits.Failed) judged = absurd judged
  told_judged old (Err (waits.Damaged damage)) judged = subst (λ (ws : List Watch). Finishes (sealed_told below watches digests) (sealed_told below' ws digests) slot old bytes (Err (waits.Damaged damage))) (sym judged.1) (told_wrong below below' watches digests known slot whole bytes damage judged.0 brings)

  seal_of : IfSome (digests (get_or watches slot no_watch).page) (λ kept. kept ≡ sha256 bytes) → (state : SlotState) → slot_state below slot ≡ state → HasSealOf (sealed_told below watches digests) bytes state
  seal_of whole_page Idle is = tt
  seal_of whole_page (AskedRead page) is = same_digest below below' watches digests known slot whole bytes whole_page page is
  seal_of whole_page (AskedWrite _ _) is = tt
  seal_of whole_page (HasFailed _) is = tt
  seal_of whole_page (IsDamaged _) is = tt

  pub brings_sealed : (result : Result Ready PortWait) → Judges (digests (get_or watches slot no_watch).page) bytes watches watches' slot result → BringsSealed (sealed_told below watches digests) slot bytes result
  brings_sealed (Ok ready.Read) judged = subst (HasSealOf (sealed_told below watches digests) bytes) (sym (state_whole below watches digests known slot whole)) (seal_of judged.0 (slot_state below slot) refl)
  brings_sealed (Ok ready.Wrote) judged = tt
  brings_sealed (Err _) judged = tt
