-- How many instructions a worker has.
use Rattle.std.proofs.Common.{◌≤◌, ◌==◌, ℕ, List, length, not, refl, arith}
use Rattle.std.proofs.lemmas.List.Filters.{length-filter_both}
use Rattle.mage_linked.specs.declared.emitted.Emitted.{Emitted}
use Rattle.mage_linked.specs.Emission.{count_of}

-- no more than all
pub count_of-le : (worker : ℕ) (program : List Emitted) → count_of worker program ≤ length program
count_of-le worker program =
    omega (arith, length-filter_both (λ (e : Emitted). e.worker == worker) (λ (e : Emitted). not (e.worker == worker)) (λ x. refl) program)
