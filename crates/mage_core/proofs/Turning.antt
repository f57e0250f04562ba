-- A turn takes one machine further, and leaves all others.
use Rattle.std.proofs.Common.{◌≡◌, ◌≢◌, ℕ, zero, suc, List, [], ◌∷◌, set, Some, slice_get, refl, sym, ap, ◌∙◌, subst, arith}
use Rattle.std.specs.Prelude.{IfSome}
use Rattle.mage_driver.specs.Rules.{Rules}
use Rattle.mage_link.specs.Queues.{QueueState, queue_told}
use Rattle.mage_verify.specs.Parts.{WorkerPart}
use Rattle.mage_engine.specs.Seen.{Seen}
use Rattle.mage_engine.specs.Ready.{Connects}
use Rattle.mage_core.specs.Turns.{SameWires, Moves, AllConnect}
use Rattle.mage_core.specs.Going.{Start, IsGoing, HasGone, AllGo}
use Rattle.mage_core.proofs.Going.{goes_beside, goes_on, goes_by}
use Rattle.mage_core.proofs.Starting.{if_some, if_found}

-- one place changes, and what is known of each place is known anew
pub set_each : {X : Type 0} (P Q : ℕ → X → Type 0) (xs : List X) (k : ℕ) (y : X) → Q k y →
    ((w : ℕ) (x : X) → w ≢ k → slice_get xs w ≡ Some x → P w x → Q w x) →
    ((w : ℕ) → IfSome (slice_get xs w) (P w)) → (w : ℕ) → IfSome (slice_get (set xs k y) w) (Q w)
set_each P Q [] zero y q other all zero = tt
set_each P Q [] zero y q other all (suc w) = tt
set_each P Q [] (suc k) y q other all zero = tt
set_each P Q [] (suc k) y q other all (suc w) = tt
set_each P Q (x ∷ xs) zero y q other all zero = q
set_each P Q (x ∷ xs) zero y q other all (suc w) =
    if_some (P (suc w)) (Q (suc w)) (slice_get xs w) (λ z e p. other (suc w) z (omega arith) e p) (all (suc w))
set_each P Q (x ∷ xs) (suc k) y q other all zero = other zero x (omega arith) refl (all zero)
set_each P Q (x ∷ xs) (suc k) y q other all (suc w) =
    set_each (λ w' z. P (suc w') z) (λ w' z. Q (suc w') z) xs k y q (λ w' z ne e p. other (suc w') z (omega (arith, ne)) e p) (λ w'. all (suc w')) w

module _ {W : Type 0} (rules : Rules W) (starts : List (Start rules.State)) where
  pub gone_beside : (w : ℕ) (before after : QueueState) (machine : Seen rules.State) → SameWires before after →
      HasGone rules starts w before machine → HasGone rules starts w after machine
  gone_beside w before after machine same h = record {
    start = h.start;
    from = h.from;
    going = goes_beside rules h.start w machine before after same h.going;
  }

  -- answers that machines wait leave all where they are
  pub all_beside : (machines : List (Seen rules.State)) (before after : QueueState) → SameWires before after →
      AllGo rules starts machines before → AllGo rules starts machines after
  all_beside machines before after same all w =
      if_some (HasGone rules starts w before) (HasGone rules starts w after) (slice_get machines w) (λ m is h. gone_beside w before after m same h) (all w)

  -- a machine moves
  pub all_go_on : (old new : List (Seen rules.State)) (before after : QueueState) (worker : ℕ) → Moves rules old new before after worker →
      AllGo rules starts old before → AllGo rules starts new after
  all_go_on old new before after worker m all =
      subst (λ (ms : List (Seen rules.State)). AllGo rules starts ms after) (sym m.sets)
      (set_each (λ w x. HasGone rules starts w before x) (λ w x. HasGone rules starts w after x) old worker m.next moved
      (λ w x ne is h. let by = gone_beside w before m.links x m.same h in record {
        start = by.start;
        from = by.from;
        going = goes_by rules by.start w x m.machine m.next m.links after m.kind m.move m.connects
            (λ e. ne (sym (number by.start w x by.going) ∙ sym e ∙ number mine.start worker m.machine mine.going)) by.going;
      }) all)
    where
      mine : HasGone rules starts worker m.links m.machine
      mine = gone_beside worker before m.links m.machine m.same (if_found (HasGone rules starts worker before) (slice_get old worker) m.machine m.at (all worker))

      number : (start : Start rules.State) (w : ℕ) (x : Seen rules.State) → IsGoing rules start w m.links x → x.part.worker ≡ w
      number start w x g = ap (λ (p : WorkerPart). p.worker) g.part ∙ g.number

      moved : HasGone rules starts worker after m.next
      moved = record {
        start = mine.start;
        from = mine.from;
        going = goes_on rules mine.start worker m.machine m.next m.links after m.kind m.move m.connects mine.going;
      }

  -- so each machine may use its links
  pub all_connect : (machines : List (Seen rules.State)) (links : QueueState) → AllGo rules starts machines links → AllConnect links machines
  all_connect machines links all w =
      if_some (HasGone rules starts w links) _ (slice_get machines w)
      (λ m is h. subst (λ (p : WorkerPart). Connects (queue_told links) p) (sym h.going.part) h.going.connects) (all w)
