-- The ordered map from which victims are taken, as the frame of each page under its next use.
use Rattle.std.specs.Prelude.{◌≡◌, ◌<◌, ◌≤◌, ◌-◌, ◌⊎◌, ℕ, Option, Some, None, IsSome, if◌then◌else◌, nat_le}
use Rattle.std.specs.declared.cmp.Ordering.{Ordering}
use Rattle.std.specs.Ordering.{nat_cmp, ordering_then}
use Rattle.std.specs.BTreeMap.{get}
use Rattle.mage_instr.specs.declared.instr.TheConstants.{NEVER}
use Rattle.mage_belady.specs.declared.use_map.Listed.{Listed}
use Rattle.mage_belady.specs.declared.use_map.UseMap.{UseMap}

-- keys in order: by the next use, and of one next use by the second number
abbrev pub key_cmp : (a b : ℕ × ℕ) → Ordering
key_cmp a b = ordering_then (nat_cmp a.0 b.0) (nat_cmp a.1 b.1)

-- the frame of a page whose next use is n. The key's second number falls as the page rises.
abbrev pub frame_at : UseMap → (n page : ℕ) → Option ℕ
frame_at map n page =
    if nat_le page NEVER then get key_cmp map.frames (n, NEVER - page) else None

-- a page is listed, and none leaves before it: none is used later, and of those used alike none is
-- lower
pub record IsLast (map : UseMap) (last : Listed) : Type 0 where
  pub listed : frame_at map last.next last.page ≡ Some last.frame
  pub first : (n page : ℕ) → IsSome (frame_at map n page)
      → (n < last.next) ⊎ ((n ≡ last.next) × (last.page ≤ page))
