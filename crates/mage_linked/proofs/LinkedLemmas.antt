-- Linked instructions stay so with others behind them, and name workers below the number. Other
-- crates cite these.
use Rattle.std.proofs.Common.{◌≡◌, ℕ, ◌<◌, false, List, [], ◌∷◌, ◌++◌, sym, subst}
use Rattle.mage_linked.specs.declared.emitted.Emitted.{Emitted}
use Rattle.mage_linked.specs.Emission.{own_instrs, emission_of, program_of}
use Rattle.mage_linked.specs.Linked.{is_transfer, IsTransfer, AreLinked, IsLinked}
use Rattle.mage_linked.specs.Linked.AreLinked.{nothing, alone, transfer}
use Rattle.mage_linked.proofs.WorkerLemmas.{length-map_below}
use Rattle.mage_linked.proofs.EmissionLemmas.{AreBelow, emission_of-program_of}

pub AreLinked-append : (workers : ℕ) (p q : List Emitted) → AreLinked workers p → AreLinked workers q → AreLinked workers (p ++ q)
AreLinked-append workers p q nothing k = k
AreLinked-append workers p q (alone is below rest) k = alone is below (AreLinked-append workers _ q rest k)
AreLinked-append workers p q (transfer is rest) k = transfer is (AreLinked-append workers _ q rest k)

-- one more that speaks of no other worker, and one more transfer
pub AreLinked-push : (workers : ℕ) (p : List Emitted) (e : Emitted) → AreLinked workers p → is_transfer e.instr.op ≡ false → e.worker < workers → AreLinked workers (p ++ e ∷ [])
AreLinked-push workers p e h is below = AreLinked-append workers p (e ∷ []) h (alone is below nothing)

pub AreLinked-transfer : (workers : ℕ) (p : List Emitted) (send recv : Emitted) → AreLinked workers p → IsTransfer workers send recv → AreLinked workers (p ++ send ∷ recv ∷ [])
AreLinked-transfer workers p send recv h is = AreLinked-append workers p (send ∷ recv ∷ []) h (transfer is nothing)

pub AreLinked-below : (workers : ℕ) (p : List Emitted) → AreLinked workers p → AreBelow workers p
AreLinked-below workers p nothing = tt
AreLinked-below workers p (alone is below rest) = (below, AreLinked-below workers _ rest)
AreLinked-below workers p (transfer is rest) = (is.sender, (is.receiver, AreLinked-below workers _ rest))

-- the program of linked instructions is linked
pub program_of-linked : (workers : ℕ) (p : List Emitted) → AreLinked workers p → IsLinked (program_of workers p)
program_of-linked workers p h =
    subst (λ n. AreLinked n (emission_of (program_of workers p))) (sym (length-map_below (own_instrs p) workers))
    (subst (λ (l : List Emitted). AreLinked workers l) (sym (emission_of-program_of workers p (AreLinked-below workers p h))) h)
