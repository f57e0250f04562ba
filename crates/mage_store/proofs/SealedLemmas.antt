-- The slots of a sealed port, over those of the port below.
use Rattle.std.proofs.Common.{◌≡◌, ◌≤◌, ◌<◌, ap, refl, ℕ, zero, suc, List, [], ◌∷◌, length, get_or, set, Option, Some, None, arith}
use Rattle.std.proofs.lemmas.List.{get_or-set_same, get_or-set_other}
use mathlib.Core.Path.{fun_ext}
use Rattle.mage_base.specs.declared.failure.Damage.{Damage}
use Rattle.mage_port.specs.Port.{SlotState, Idle}
use Rattle.mage_store.specs.declared.watch.Watch.{Watch}
use Rattle.mage_store.specs.SealedPort.{no_watch, watched, watched_by, all_watched}
use Rattle.mage_store.proofs.KeptLemmas.{put}

-- what a slot is doing, or its damage
pub all_watched-get_or : (watches : List Watch) (states : List SlotState) (slot : ℕ) → length watches ≡ length states → get_or (all_watched watches states) slot Idle ≡ watched (get_or watches slot no_watch) (get_or states slot Idle)
all_watched-get_or [] [] slot same = refl
all_watched-get_or [] (state ∷ states) slot same = absurd (cc)
all_watched-get_or (watch ∷ watches) [] slot same = absurd (cc)
all_watched-get_or (watch ∷ watches) (state ∷ states) zero same = refl
all_watched-get_or (watch ∷ watches) (state ∷ states) (suc slot) same =
    let rest : length watches ≡ length states = omega arith in
    all_watched-get_or watches states slot rest

-- a slot of which both change
pub all_watched-set : (watches : List Watch) (states : List SlotState) (slot : ℕ) (watch : Watch) (state : SlotState) → length watches ≡ length states → all_watched (set watches slot watch) (set states slot state) ≡ set (all_watched watches states) slot (watched watch state)
all_watched-set [] [] slot watch state same = refl
all_watched-set [] (first ∷ states) slot watch state same = absurd (cc)
all_watched-set (first ∷ watches) [] slot watch state same = absurd (cc)
all_watched-set (first ∷ watches) (second ∷ states) zero watch state same = refl
all_watched-set (first ∷ watches) (second ∷ states) (suc slot) watch state same =
    let rest : length watches ≡ length states = omega arith in
    ap (λ (l : List SlotState). watched first second ∷ l) (all_watched-set watches states slot watch state rest)

pub all_watched-length : (watches : List Watch) (states : List SlotState) → length (all_watched watches states) ≡ length states
all_watched-length watches [] = refl
all_watched-length [] (state ∷ states) = refl
all_watched-length (watch ∷ watches) (state ∷ states) = ap (λ (n : ℕ). suc n) (all_watched-length watches states)

at_set : (states : List SlotState) (slot : ℕ) (state : SlotState) (other : ℕ) → slot < length states → get_or (set states slot state) other Idle ≡ put (λ i. get_or states i Idle) slot state other
at_set states slot state other within = grind (arith, get_or-set_same, get_or-set_other)

-- the states of slots of which one changes
pub states_set : (states : List SlotState) (slot : ℕ) (state : SlotState) → slot < length states → (λ (other : ℕ). get_or (set states slot state) other Idle) ≡ put (λ i. get_or states i Idle) slot state
states_set states slot state within = fun_ext (λ other. at_set states slot state other within)

-- ---- a slot of which the damage isn't known yet

pub watched_idle : (damage : Option Damage) (state : SlotState) → watched_by damage state ≡ Idle → state ≡ Idle
watched_idle None state is = is
watched_idle (Some damage) state is = cc

pub past_end : (states : List SlotState) (slot : ℕ) → length states ≤ slot → get_or states slot Idle ≡ Idle
past_end [] slot past = refl
past_end (state ∷ states) zero past = absurd (omega arith)
past_end (state ∷ states) (suc slot) past =
    let rest : length states ≤ slot = omega arith in
    past_end states slot rest
