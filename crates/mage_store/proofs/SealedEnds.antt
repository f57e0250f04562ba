-- A sealed port when it is made, and when it is given up.
use Rattle.std.proofs.Common.{◌≡◌, inl, inr, ◌∙◌, sym, subst, ap, refl, ℕ, zero, suc, List, [], ◌∷◌, length, get_or, replicate, Bool, true, IsTrue, IsSome, is_some, Option, Some, None}
use Rattle.std.specs.Prelude.{◌==◌}
use Rattle.std.specs.List.{All, list_any}
use Rattle.std.proofs.lemmas.Bool.{eqb-true}
use Rattle.std.proofs.lemmas.List.{length-replicate}
use Rattle.std.proofs.lemmas.List.Elements.{All-contains}
use Rattle.std.proofs.lemmas.Map.Views.{Contains-from_any}
use mathlib.Core.Path.{fun_ext}
use Rattle.mage_base.specs.declared.failure.Damage.{Damage}
use Rattle.mage_base.specs.Store.{Pages}
use Rattle.mage_port.specs.Port.{PortTold, SlotState, Transfers, Idle, slot_state, has_page, has_transfers, IsUnused}
use Rattle.mage_store.specs.declared.watch.Watch.{Watch}
use Rattle.mage_store.specs.Seals.{Digests}
use Rattle.mage_store.specs.SealedPort.{no_watch, watched_by, all_watched, sealed_told, States, AreSealed, KeepsState, AreKept, IsSealed, IsOver, StandsOver}
use Rattle.mage_store.proofs.SealedLemmas.{all_watched-get_or}

-- ---- when it is made

unwatched : (states : List SlotState) → all_watched (replicate (length states) no_watch) states ≡ states
unwatched [] = refl
unwatched (state ∷ states) = ap (λ (l : List SlotState). state ∷ l) (unwatched states)

-- slots of which none was asked are what they are below
pub unwatched_by : (states : List SlotState) (count : ℕ) → count ≡ length states → all_watched (replicate count no_watch) states ≡ states
unwatched_by states count same = subst (λ (n : ℕ). all_watched (replicate n no_watch) states ≡ states) (sym same) (unwatched states)

no_watch_at : (count slot : ℕ) → get_or (replicate count no_watch) slot no_watch ≡ no_watch
no_watch_at zero slot = refl
no_watch_at (suc count) zero = refl
no_watch_at (suc count) (suc slot) = no_watch_at count slot

taken_by : (takes : ℕ → Bool) (pages : List ℕ) (page : ℕ) → All (λ p. IsTrue (takes p)) pages → list_any (λ p. p == page) pages ≡ true → IsTrue (takes page)
taken_by takes pages page all some =
    All-contains (λ (p : ℕ). IsTrue (takes p)) pages page all (Contains-from_any {eq = λ (x y : ℕ). y == x} (λ x y e. sym (eqb-true y x e)) page pages some)

empty_kept : (states : States) (finished : Transfers) (pages : Option Pages) (digests : Digests) → ((slot : ℕ) → states slot ≡ Idle) → ((page : ℕ) → finished page ≡ []) → AreKept states finished pages digests
empty_kept states finished pages digests idle empty =
    record {
      slots = λ slot. subst (KeepsState finished pages digests) (sym (idle slot)) tt;
      free = λ page free held. absurd (cc (ap has_transfers (empty page), held));
      sealed = λ page whole. subst AreSealed (sym (empty page)) tt;
      apart = λ page slot other differ has. absurd (cc (ap (has_page page) (idle slot), has));
    }

-- a port of which nothing was asked yet is sealed
pub sealed_new : (below : PortTold) (count : ℕ) (pages : List ℕ) (digests : Digests) → IsUnused below → All (λ page. IsTrue (below.takes page)) pages → count ≡ length below.slots → ((page : ℕ) → is_some (digests page) ≡ list_any (λ p. p == page) pages) → IsSealed below (replicate count no_watch) digests
sealed_new below count pages digests unused all_taken same room =
    let slots = unwatched_by below.slots count same in
    record {
      watch = record {
        count = length-replicate count no_watch ∙ same;
        asked = λ slot page is. absurd (cc (unused.idle slot, is));
        idle = λ slot some. unused.idle slot;
        taken = λ page some. taken_by below.takes pages page all_taken (sym (room page) ∙ some);
      };
      kept = empty_kept (slot_state (sealed_told below (replicate count no_watch) digests)) below.finished below.pages digests
          (λ slot. ap (λ (l : List SlotState). get_or l slot Idle) slots ∙ unused.idle slot) unused.empty;
    }

-- what it tells then
pub told_new : (below : PortTold) (count : ℕ) (pages : List ℕ) (digests : Digests) → count ≡ length below.slots → ((page : ℕ) → is_some (digests page) ≡ list_any (λ p. p == page) pages) → sealed_told below (replicate count no_watch) digests ≡ record below { takes = λ page. list_any (λ p. p == page) pages }
told_new below count pages digests same room =
    ap (λ (l : List SlotState). record below { slots = l; takes = λ page. is_some (digests page) }) (unwatched_by below.slots count same)
    ∙ ap (λ (t : ℕ → Bool). record below { takes = t }) (fun_ext room)

-- ---- when it is given up

over : (damage : Option Damage) (state : SlotState) → (IsSome damage → state ≡ Idle) → IsOver (watched_by damage state) state
over None state idle = inl refl
over (Some damage) state idle = inr (damage, refl, idle refl)

pub stands_over : (below : PortTold) (watches : List Watch) (digests : Digests) → IsSealed below watches digests → StandsOver (sealed_told below watches digests) below
stands_over below watches digests known =
    record {
      same = refl;
      slots = λ slot. subst (λ (s : SlotState). IsOver s (slot_state below slot)) (sym (all_watched-get_or watches below.slots slot known.watch.count))
          (over (get_or watches slot no_watch).damage (slot_state below slot) (known.watch.idle slot));
      sealed = known.kept.sealed;
      damaged = λ slot damage is. subst (KeepsState below.finished below.pages digests) is (known.kept.slots slot);
    }
