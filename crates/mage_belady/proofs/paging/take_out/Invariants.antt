-- The pages so far were taken out, and their frames are known.
use Rattle.std.proofs.Common.{◌≡◌, ◌<◌, ◌+◌, ◌&&◌, ℕ, None, nat_eq, take, length, if◌then◌else◌, slice_index, slice_index_or}
use Rattle.mage_belady.specs.Plan.{is_in}
use Rattle.mage_belady.specs.Uses.{frame_at}
use Rattle.mage_belady.proofs.paging.take_out.Given as goal

abbrev pub invariant-loop-k : goal.invariant-loop-k
invariant-loop-k g l = record {
  slots : length l.found ≡ 4;
  counted : l.steps ≡ l.initial.steps + l.k;
  found : (j : ℕ) → j < l.k
      → slice_index_or l.found j None ≡ frame_at l.initial.uses l.t (slice_index l.step.pages j);
  gone : (n page : ℕ) → frame_at l.uses n page
      ≡ (if nat_eq n l.t && is_in page
      (take l.k l.step.pages) then None else frame_at l.initial.uses n page);
}
