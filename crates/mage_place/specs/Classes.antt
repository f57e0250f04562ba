-- The classes of values by their width.
use Rattle.std.specs.Prelude.{◌≡◌, ◌≤◌, ◌^◌, ℕ, if◌then◌else◌, nat_le}

-- c is a power of two, not below the width, and no power of two not below the width is less
pub record IsLeastPower (width c : ℕ) : Type 0 where
  pub power : (k : ℕ) × (c ≡ 2 ^ k)
  pub wide : width ≤ c
  pub least : (k : ℕ) → width ≤ 2 ^ k → c ≤ 2 ^ k

-- the least power of two not below a width that a value may have
abbrev pub class_of_width : ℕ → ℕ
class_of_width w =
    if nat_le w 1 then 1 else (if nat_le w 2 then 2 else (if nat_le w 4 then 4 else (if nat_le w 8 then 8 else
    (if nat_le w 16 then 16 else (if nat_le w 32 then 32 else (if nat_le w 64 then 64 else 128))))))
