-- Digests that are kept, by page.
use Rattle.std.specs.Prelude.{◌==◌, ℕ, List, Option, Some, if◌then◌else◌}
use Rattle.std.specs.Map.{lookup}
use Rattle.std.specs.Ordering.{nat_cmp}
use Rattle.std.specs.BTreeMap.{is_at}

-- the digest of each page that has room for one
abbrev pub Digests : Type 0
Digests = ℕ → Option (List ℕ)

-- the digests in the entries of an ordered map
abbrev pub digest_of : List (ℕ × List ℕ) → Digests
digest_of entries page = lookup (is_at (nat_cmp page)) entries

-- digests of which one is kept anew
abbrev pub with_digest : Digests → (page : ℕ) → (digest : List ℕ) → Digests
with_digest digests page digest other = if other == page then Some digest else digests other
