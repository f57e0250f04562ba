-- What a sealed port holds after each of its calls, and what it then tells.
use Rattle.std.proofs.Common.{◌≡◌, ◌<◌, ◌∙◌, sym, subst, ap, refl, ℕ, zero, suc, List, [], ◌∷◌, length, get_or, set, Bool, true, false, IsSome, IfSome, is_some, Option, Some, None, arith}
use Rattle.std.specs.Prelude.{◌==◌, if◌then◌else◌}
use Rattle.std.proofs.lemmas.List.{get_or-set_same, get_or-set_other, length-set, set-get_or}
use Rattle.std.proofs.lemmas.Bool.{eq-eqb, eqb-true, eqb-false}
use mathlib.Core.Path.{fun_ext}
use Rattle.mage_base.specs.declared.failure.Damage.{Damage}
use Rattle.mage_base.specs.Store.{Pages}
use Rattle.sha2.specs.Sha256.{sha256}
use Rattle.mage_port.specs.Port.{PortTold, SlotState, Transfers, Idle, AskedRead, AskedWrite, IsDamaged, slot_state, with_state, has_page, is_idle, is_asked_write, CanAsk, CanRead, CanWrite, IsAsked, IsAskedRead}
use Rattle.mage_store.specs.declared.watch.Watch.{Watch}
use Rattle.mage_store.specs.Seals.{Digests, with_digest}
use Rattle.mage_store.specs.SealedPort.{no_watch, watched_by, all_watched, sealed_told, States, AreKept, Watches, IsSealed}
use Rattle.mage_store.proofs.KeptLemmas.{put}
use Rattle.mage_store.proofs.SlotLemmas.{within_active}
use Rattle.mage_store.proofs.MoveLemmas.{asked_read, asked_write}
use Rattle.mage_store.proofs.SealedLemmas.{all_watched-get_or, all_watched-set, all_watched-length, states_set}

-- ---- slots that are watched

watch_at : (watches : List Watch) (slot : ℕ) (watch other : Watch) → slot < length watches → get_or watches slot watch ≡ get_or watches slot other
watch_at [] slot watch other within = absurd (omega arith)
watch_at (first ∷ watches) zero watch other within = refl
watch_at (first ∷ watches) (suc slot) watch other within =
    let rest : slot < length watches = omega arith in
    watch_at watches slot watch other rest

-- a watch that was read
pub read_watch : (watches : List Watch) (slot : ℕ) (watch : Watch) → watch ≡ get_or watches slot watch → slot < length watches → watch ≡ get_or watches slot no_watch
read_watch watches slot watch is within = is ∙ watch_at watches slot watch no_watch within

-- a page that has the digest that is kept of it
pub judged_whole : (digest : Option (List ℕ)) (kept found bytes : List ℕ) → IfSome digest (λ d. kept ≡ d) → kept ≡ found → found ≡ sha256 bytes → IfSome digest (λ d. d ≡ sha256 bytes)
judged_whole None kept found bytes is same made = tt
judged_whole (Some d) kept found bytes is same made = sym is ∙ same ∙ made

-- what holds of each pair of entries of two lists holds after both changed at one place, if it holds there
set_both : {X Y : Type 0} (P : X → Y → Type 0) (xs : List X) (ys : List Y) (place : ℕ) (x d : X) (y e : Y) → place < length xs → place < length ys → P x y → ((other : ℕ) → P (get_or xs other d) (get_or ys other e)) → (other : ℕ) → P (get_or (set xs place x) other d) (get_or (set ys place y) other e)
set_both {X} {Y} P xs ys place x d y e within within' here there other = go (other == place) refl
  where
    At : ℕ → Type 0
    At i = P (get_or (set xs place x) i d) (get_or (set ys place y) i e)

    go : (test : Bool) → (other == place) ≡ test → At other
    go true same =
        subst At (sym (eqb-true other place same))
        (subst (λ (a : X). P a (get_or (set ys place y) place e)) (sym (get_or-set_same xs place x d within))
        (subst (λ (b : Y). P x b) (sym (get_or-set_same ys place y e within')) here))
    go false apart =
        subst (λ (a : X). P a (get_or (set ys place y) other e)) (sym (get_or-set_other xs place other x d (eqb-false other place apart)))
        (subst (λ (b : Y). P (get_or xs other d) b) (sym (get_or-set_other ys place other y e (eqb-false other place apart))) (there other))

none_some : (damage : Option Damage) → damage ≡ None → IsSome damage → ⊥
none_some damage none some = cc (ap is_some none, some)

-- the slots after one of them changed, and what is known of it
pub watches_after : (states : List SlotState) (takes : ℕ → Bool) (watches : List Watch) (digests : Digests) (slot : ℕ) (state : SlotState) (watch : Watch) → Watches states takes watches digests → slot < length states → ((page : ℕ) → state ≡ AskedRead page → watch.page ≡ page) → (IsSome watch.damage → state ≡ Idle) → Watches (set states slot state) takes (set watches slot watch) digests
watches_after states takes watches digests slot state watch known within asked idle =
    let within' : slot < length watches = omega (arith, known.count) in
    record {
      count = length-set watches slot watch ∙ known.count ∙ sym (length-set states slot state);
      asked = set_both (λ (s : SlotState) (w : Watch). (page : ℕ) → s ≡ AskedRead page → w.page ≡ page) states watches slot state Idle watch no_watch within within' asked known.asked;
      idle = set_both (λ (s : SlotState) (w : Watch). IsSome w.damage → s ≡ Idle) states watches slot state Idle watch no_watch within within' idle known.idle;
      taken = known.taken;
    }

-- the same, where the watch stays
pub watches_same : (states : List SlotState) (takes : ℕ → Bool) (watches : List Watch) (digests : Digests) (slot : ℕ) (state : SlotState) → Watches states takes watches digests → slot < length states → ((page : ℕ) → state ≡ AskedRead page → (get_or watches slot no_watch).page ≡ page) → (get_or watches slot no_watch).damage ≡ None → Watches (set states slot state) takes watches digests
watches_same states takes watches digests slot state known within asked whole =
    subst (λ (ws : List Watch). Watches (set states slot state) takes ws digests) (set-get_or watches slot no_watch)
    (watches_after states takes watches digests slot state (get_or watches slot no_watch) known within asked (λ some. absurd (none_some (get_or watches slot no_watch).damage whole some)))

-- the states of slots of which one changes, where no damage is known of it
pub watched_after : (watches : List Watch) (states : List SlotState) (slot : ℕ) (watch : Watch) (state : SlotState) → length watches ≡ length states → watch.damage ≡ None → all_watched (set watches slot watch) (set states slot state) ≡ set (all_watched watches states) slot state
watched_after watches states slot watch state same whole =
    all_watched-set watches states slot watch state same ∙ ap (λ (d : Option Damage). set (all_watched watches states) slot (watched_by d state)) whole

pub watched_same : (watches : List Watch) (states : List SlotState) (slot : ℕ) (state : SlotState) → length watches ≡ length states → (get_or watches slot no_watch).damage ≡ None → all_watched watches (set states slot state) ≡ set (all_watched watches states) slot state
watched_same watches states slot state same whole =
    ap (λ (ws : List Watch). all_watched ws (set states slot state)) (sym (set-get_or watches slot no_watch)) ∙ watched_after watches states slot (get_or watches slot no_watch) state same whole

-- ---- what the slots below do

idle_pair : (damage : Option Damage) (state : SlotState) → watched_by damage state ≡ Idle → (state ≡ Idle) × (damage ≡ None)
idle_pair None state is = (is, refl)
idle_pair (Some damage) state is = absurd (cc)

has_page_below : (damage : Option Damage) (state : SlotState) (page : ℕ) → (IsSome damage → state ≡ Idle) → has_page page (watched_by damage state) ≡ false → has_page page state ≡ false
has_page_below None state page idle none = none
has_page_below (Some damage) state page idle none = ap (has_page page) (idle refl)

some_with : (digests : Digests) (page : ℕ) (digest : List ℕ) (other : ℕ) → is_some (digests page) ≡ true → is_some (with_digest digests page digest other) ≡ is_some (digests other)
some_with digests page digest other some = go (other == page) refl
  where
    go : (test : Bool) → (other == page) ≡ test → is_some (with_digest digests page digest other) ≡ is_some (digests other)
    go true e = subst (λ (i : ℕ). is_some (with_digest digests page digest i) ≡ is_some (digests i)) (sym (eqb-true other page e)) (ap (λ (b : Bool). is_some (if b then Some digest else digests page)) (eq-eqb page page refl) ∙ sym some)
    go false e = ap (λ (b : Bool). is_some (if b then Some digest else digests other)) e

-- ---- asking

module _ (below : PortTold) (watches : List Watch) (digests : Digests) (known : IsSealed below watches digests) (slot : ℕ) where
  -- what the slot is doing, where no damage of it is known
  pub state_whole : (get_or watches slot no_watch).damage ≡ None → slot_state (sealed_told below watches digests) slot ≡ slot_state below slot
  state_whole whole = all_watched-get_or watches below.slots slot known.watch.count ∙ ap (λ (d : Option Damage). watched_by d (slot_state below slot)) whole

  -- what the slot is doing, where damage of it is known
  pub state_damaged : (damage : Damage) → (get_or watches slot no_watch).damage ≡ Some damage → slot_state (sealed_told below watches digests) slot ≡ IsDamaged damage
  state_damaged damage some = all_watched-get_or watches below.slots slot known.watch.count ∙ ap (λ (d : Option Damage). watched_by d (slot_state below slot)) some

  -- a slot that may be asked, and one that was, is watched
  pub watched_within : slot < length (all_watched watches below.slots) → slot < length watches
  watched_within within = subst (λ (n : ℕ). slot < n) (all_watched-length watches below.slots ∙ sym known.watch.count) within

  pub asked_within : IsAsked (sealed_told below watches digests) slot → slot < length watches
  asked_within asked = watched_within (within_active (all_watched watches below.slots) slot (slot_state (sealed_told below watches digests) slot) refl asked)

  pub asked_below : (get_or watches slot no_watch).damage ≡ None → IsAsked (sealed_told below watches digests) slot → IsAsked below slot
  asked_below whole asked = subst (λ (s : SlotState). is_idle s ≡ false) (state_whole whole) asked

  pub asked_read_below : (get_or watches slot no_watch).damage ≡ None → IsAskedRead (sealed_told below watches digests) slot → IsAskedRead below slot
  asked_read_below whole asked =
      record {
        asked = asked_below whole asked.asked;
        no_write = subst (λ (s : SlotState). is_asked_write s ≡ false) (state_whole whole) asked.no_write;
      }

  idle_below : slot_state (sealed_told below watches digests) slot ≡ Idle → (slot_state below slot ≡ Idle) × ((get_or watches slot no_watch).damage ≡ None)
  idle_below idle = idle_pair (get_or watches slot no_watch).damage (slot_state below slot) (sym (all_watched-get_or watches below.slots slot known.watch.count) ∙ idle)

  can_ask_below : (page : ℕ) → CanAsk (sealed_told below watches digests) slot page → CanAsk below slot page
  can_ask_below page can =
      record {
        within = subst (λ (n : ℕ). slot < n) (all_watched-length watches below.slots) can.within;
        idle = (idle_below can.idle).0;
        taken = known.watch.taken page can.taken;
        free = λ other. has_page_below (get_or watches other no_watch).damage (slot_state below other) page (known.watch.idle other)
            (ap (has_page page) (sym (all_watched-get_or watches below.slots other known.watch.count)) ∙ can.free other);
      }

  pub can_read_below : (page : ℕ) → CanRead (sealed_told below watches digests) slot page → CanRead below slot page
  can_read_below page can = record { can_ask = can_ask_below page can.can_ask; held = can.held }

  pub can_write_below : (page : ℕ) (bytes : List ℕ) → CanWrite (sealed_told below watches digests) slot page bytes → CanWrite below slot page bytes
  can_write_below page bytes can = record { can_ask = can_ask_below page can.can_ask; whole = can.whole }

  -- what is kept, of slots of which one changed
  pub kept_as_set : (states : List SlotState) (state : SlotState) (finished : Transfers) (pages : Option Pages) (digests' : Digests) → states ≡ set (all_watched watches below.slots) slot state → slot < length below.slots → AreKept (put (slot_state (sealed_told below watches digests)) slot state) finished pages digests' → AreKept (λ (j : ℕ). get_or states j Idle) finished pages digests'
  kept_as_set states state finished pages digests' same within kept =
      let within' : slot < length (all_watched watches below.slots) = subst (λ (n : ℕ). slot < n) (sym (all_watched-length watches below.slots)) within in
      subst (λ (l : List SlotState). AreKept (λ (j : ℕ). get_or l j Idle) finished pages digests') (sym same)
      (subst (λ (f : States). AreKept f finished pages digests') (sym (states_set (all_watched watches below.slots) slot state within')) kept)

  module _ (page : ℕ) where
    module _ (watch : Watch) (can : CanRead (sealed_told below watches digests) slot page) (page_is : watch.page ≡ page) (damage_is : watch.damage ≡ (get_or watches slot no_watch).damage) where
      read_whole : watch.damage ≡ None
      read_whole = damage_is ∙ (idle_below can.can_ask.idle).1

      read_slots : all_watched (set watches slot watch) (set below.slots slot (AskedRead page)) ≡ set (all_watched watches below.slots) slot (AskedRead page)
      read_slots = watched_after watches below.slots slot watch (AskedRead page) known.watch.count read_whole

      pub sealed_asked_read : IsSealed (with_state below slot (AskedRead page)) (set watches slot watch) digests
      sealed_asked_read =
          let within = (can_ask_below page can.can_ask).within in
          record {
            watch = watches_after below.slots below.takes watches digests slot (AskedRead page) watch known.watch within (λ q same. cc) (λ some. absurd (none_some watch.damage read_whole some));
            kept = kept_as_set (all_watched (set watches slot watch) (set below.slots slot (AskedRead page))) (AskedRead page) below.finished below.pages digests read_slots within
                (asked_read (slot_state (sealed_told below watches digests)) below.finished below.pages digests known.kept slot page can.can_ask.idle can.can_ask.free can.held);
          }

      pub told_asked_read : sealed_told (with_state below slot (AskedRead page)) (set watches slot watch) digests ≡ with_state (sealed_told below watches digests) slot (AskedRead page)
      told_asked_read = ap (λ (l : List SlotState). record (sealed_told below watches digests) { slots = l }) read_slots

    module _ (bytes : List ℕ) (can : CanWrite (sealed_told below watches digests) slot page bytes) where
      write_slots : all_watched watches (set below.slots slot (AskedWrite page bytes)) ≡ set (all_watched watches below.slots) slot (AskedWrite page bytes)
      write_slots = watched_same watches below.slots slot (AskedWrite page bytes) known.watch.count (idle_below can.can_ask.idle).1

      write_takes : (sealed_told below watches (with_digest digests page (sha256 bytes))).takes ≡ (sealed_told below watches digests).takes
      write_takes = fun_ext (λ q. some_with digests page (sha256 bytes) q can.can_ask.taken)

      pub sealed_asked_write : IsSealed (with_state below slot (AskedWrite page bytes)) watches (with_digest digests page (sha256 bytes))
      sealed_asked_write =
          let within = (can_ask_below page can.can_ask).within in
          let watched = watches_same below.slots below.takes watches digests slot (AskedWrite page bytes) known.watch within (λ q same. absurd (cc same)) (idle_below can.can_ask.idle).1 in
          record {
            watch = record {
              count = watched.count;
              asked = watched.asked;
              idle = watched.idle;
              taken = λ q some. known.watch.taken q (sym (some_with digests page (sha256 bytes) q can.can_ask.taken) ∙ some);
            };
            kept = kept_as_set (all_watched watches (set below.slots slot (AskedWrite page bytes))) (AskedWrite page bytes) below.finished below.pages (with_digest digests page (sha256 bytes)) write_slots within
                (asked_write (slot_state (sealed_told below watches digests)) below.finished below.pages digests known.kept slot page bytes can.can_ask.idle can.can_ask.free);
          }

      pub told_asked_write : sealed_told (with_state below slot (AskedWrite page bytes)) watches (with_digest digests page (sha256 bytes)) ≡ with_state (sealed_told below watches digests) slot (AskedWrite page bytes)
      told_asked_write =
          ap (λ (l : List SlotState). record (sealed_told (with_state below slot (AskedWrite page bytes)) watches (with_digest digests page (sha256 bytes))) { slots = l }) write_slots
          ∙ ap (λ (t : ℕ → Bool). record (with_state (sealed_told below watches digests) slot (AskedWrite page bytes)) { takes = t }) write_takes

      -- the same, where the digests are these
      pub sealed_written : (digests' : Digests) → digests' ≡ with_digest digests page (sha256 bytes) → IsSealed (with_state below slot (AskedWrite page bytes)) watches digests'
      sealed_written digests' same = subst (λ (d : Digests). IsSealed (with_state below slot (AskedWrite page bytes)) watches d) (sym same) sealed_asked_write

      pub told_written : (digests' : Digests) → digests' ≡ with_digest digests page (sha256 bytes) → sealed_told (with_state below slot (AskedWrite page bytes)) watches digests' ≡ with_state (sealed_told below watches digests) slot (AskedWrite page bytes)
      told_written digests' same = ap (λ (d : Digests). sealed_told (with_state below slot (AskedWrite page bytes)) watches d) same ∙ told_asked_write
