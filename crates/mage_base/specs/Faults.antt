-- Counts, which are kept in 64 bits and stay at their greatest value.
use Rattle.std.specs.Prelude.{◌≡◌, ◌≤◌, ℕ, ◌+◌, ◌-◌, ◌^◌, min, Result, Ok, Err}

-- the greatest value of a count
abbrev pub top : ℕ
top = 2 ^ 64 - 1

-- a count after one more
abbrev pub next_count : ℕ → ℕ
next_count n = min (n + 1) top

-- a count after so many more
abbrev pub count_after : ℕ → ℕ → ℕ
count_after n more = min (n + more) top

-- the count rose, or stands at its greatest value
abbrev pub Rose : ℕ → ℕ → Type 0
Rose before now = next_count before ≤ now

-- A call that answers an error failed; it raised the count, and no other call did.
abbrev pub Counted : {T E : Type 0} → ℕ → ℕ → Result T E → Type 0
Counted before now (Ok _) = now ≡ before
Counted before now (Err _) = (before ≤ now) × Rose before now
