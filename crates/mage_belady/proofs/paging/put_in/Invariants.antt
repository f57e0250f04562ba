-- The pages so far are listed.
use Rattle.std.proofs.Common.{◌≡◌, ◌+◌, ◌&&◌, ℕ, Some, nat_eq, take, if◌then◌else◌}
use Rattle.mage_belady.specs.Plan.{is_in}
use Rattle.mage_belady.specs.Uses.{frame_at}
use Rattle.mage_belady.specs.Kept.{AreBeside}
use Rattle.mage_belady.proofs.paging.put_in.Given as goal

abbrev pub invariant-loop-k : goal.invariant-loop-k
invariant-loop-k g l = record {
  counted : l.steps ≡ l.initial.steps + l.k;
  listed : (after stands : ℕ → ℕ) → AreBeside l.step l.next after → AreBeside l.step l.at stands
      → (n page : ℕ) → frame_at l.uses n page
      ≡ (if is_in page (take l.k l.step.pages) && nat_eq n (after page) then Some
      (stands page) else frame_at l.initial.uses n page);
}
