-- A turn asks the machines one after the other.
use Rattle.std.proofs.Common.{◌≡◌, ◌<◌, ◌≤◌, ◌+◌, ◌⊎◌, inl, inr, ℕ, zero, suc, true, false, List, [], ◌∷◌, length, Ok, Err, slice_get, refl, sym, ap, ◌∙◌, subst, arith}
use Rattle.std.specs.Prelude.{IfSome}
use Rattle.mage_driver.specs.Rules.{Rules}
use Rattle.mage_link.specs.Queues.{QueueState, queue_told}
use Rattle.mage_engine.specs.Seen.{Seen}
use Rattle.mage_engine.specs.Ready.{Connects}
use Rattle.mage_core.specs.declared.fault.RunFault.{RunFault}
use Rattle.mage_core.specs.Turns.{SameWires, Moves, StandsStill, Falls, StepsTo, TurnsTo, AllConnect}
use Rattle.mage_core.proofs.Starting.{if_some}
use Rattle.mage_core.proofs.Going.{connects_beside}
use Rattle.mage_core.proofs.Waiting.{same_itself, same_then, still_from, moves_from, falls_from}

none_past : {X : Type 0} (P : X → Type 0) (xs : List X) (w : ℕ) → length xs ≤ w → IfSome (slice_get xs w) P
none_past P [] zero h = tt
none_past P [] (suc w) h = tt
none_past P (x ∷ xs) zero h = absurd (omega arith)
none_past P (x ∷ xs) (suc w) h = none_past P xs w (omega arith)

module _ {W : Type 0} (rules : Rules W) where
  -- what is known after the first so many machines were asked
  pub record Asked (first now : List (Seen rules.State)) (before links : QueueState) (count : ℕ) : Type 0 where
    pub sights : now ≡ first
    pub wires : SameWires before links
    pub still : (w : ℕ) → w < count → IfSome (slice_get first w) (StandsStill rules before)

  pub asked_none : (first : List (Seen rules.State)) (links : QueueState) → Asked first first links links 0
  asked_none first links = record {
    sights = refl;
    wires = same_itself links;
    still = λ w below. absurd (omega arith);
  }

  pub asked_more : (first now next : List (Seen rules.State)) (before links after : QueueState) (count : ℕ) → Asked first now before links count →
      StepsTo rules now next links after count (Ok false) → Asked first next before after (count + 1)
  asked_more first now next before links after count a h = record {
    sights = h.0 ∙ a.sights;
    wires = same_then before links after a.wires h.1;
    still = λ w below. go w (less_or w count below);
  }
    where
      less_or : (w n : ℕ) → w < n + 1 → (w < n) ⊎ (w ≡ n)
      less_or zero zero h = inr refl
      less_or zero (suc n) h = inl (omega arith)
      less_or (suc w) zero h = absurd (omega arith)
      less_or (suc w) (suc n) h = more w n (less_or w n (omega arith))
        where
          more : (w n : ℕ) → (w < n) ⊎ (w ≡ n) → (suc w < suc n) ⊎ (suc w ≡ suc n)
          more w n (inl l) = inl (omega (arith, l))
          more w n (inr e) = inr (ap suc e)

      go : (w : ℕ) → (w < count) ⊎ (w ≡ count) → IfSome (slice_get first w) (StandsStill rules before)
      go w (inl below) = a.still w below
      go w (inr e) = subst (λ n. IfSome (slice_get first n) (StandsStill rules before)) (sym e)
          (if_some (StandsStill rules links) (StandsStill rules before) (slice_get first count) (λ m is s. still_from rules before links m a.wires s)
          (subst (λ (l : List (Seen rules.State)). IfSome (slice_get l count) (StandsStill rules links)) a.sights h.2))

  pub asked_moves : (first now next : List (Seen rules.State)) (before links after : QueueState) (count : ℕ) → Asked first now before links count →
      StepsTo rules now next links after count (Ok true) → TurnsTo rules first next before after (Ok true)
  asked_moves first now next before links after count a h = (
    count,
    moves_from rules first next before links after count a.wires
        (subst (λ (l : List (Seen rules.State)). Moves rules l next links after count) a.sights h),
  )

  pub asked_falls : (first now next : List (Seen rules.State)) (before links after : QueueState) (count : ℕ) (found : RunFault) → Asked first now before links count →
      StepsTo rules now next links after count (Err found) → TurnsTo rules first next before after (Err found)
  asked_falls first now next before links after count found a h =
      falls_from rules first next before links after found a.wires
      (subst (λ (l : List (Seen rules.State)). Falls rules l next links after found) a.sights h)

  pub asked_all : (first now : List (Seen rules.State)) (before links : QueueState) (count : ℕ) → Asked first now before links count → length first ≤ count →
      TurnsTo rules first now before links (Ok false)
  asked_all first now before links count a all = (a.sights, a.wires, λ w. go w (less_or w count))
    where
      less_or : (w n : ℕ) → (w < n) ⊎ (n ≤ w)
      less_or w zero = inr (omega arith)
      less_or zero (suc n) = inl (omega arith)
      less_or (suc w) (suc n) = more w n (less_or w n)
        where
          more : (w n : ℕ) → (w < n) ⊎ (n ≤ w) → (suc w < suc n) ⊎ (suc n ≤ suc w)
          more w n (inl l) = inl (omega (arith, l))
          more w n (inr l) = inr (omega (arith, l))

      go : (w : ℕ) → (w < count) ⊎ (count ≤ w) → IfSome (slice_get first w) (StandsStill rules before)
      go w (inl below) = a.still w below
      go w (inr past) = none_past (StandsStill rules before) first w (omega (arith, all, past))

  -- each machine may still use its links
  pub still_connect : (first now : List (Seen rules.State)) (before links : QueueState) (count : ℕ) → Asked first now before links count → AllConnect before first →
      AllConnect links now
  still_connect first now before links count a all w =
      subst (λ (l : List (Seen rules.State)). IfSome (slice_get l w) (λ machine. Connects (queue_told links) machine.part)) (sym a.sights)
      (if_some (λ (machine : Seen rules.State). Connects (queue_told before) machine.part) (λ (machine : Seen rules.State). Connects (queue_told links) machine.part)
      (slice_get first w) (λ m is c. connects_beside before links m.part a.wires c) (all w))
