-- Arithmetic modulo a power of two, on numbers below 2 to the width. Each operation takes the width first.
use Rattle.std.specs.Prelude.{ℕ, ◌+◌, ◌-◌, ◌*◌, ◌/◌, ◌%◌, ◌^◌, ◌==◌, nat_lt, min, max, Bool, if◌then◌else◌, bit_and, bit_or, bit_xor, count_ones}

-- 1 where a test holds, and else 0
abbrev pub bit_of : Bool → ℕ
bit_of test = if test then 1 else 0

abbrev pub add_mod : ℕ → ℕ → ℕ → ℕ
add_mod width a b = (a + b) % 2 ^ width

abbrev pub sub_mod : ℕ → ℕ → ℕ → ℕ
sub_mod width a b = (a + 2 ^ width - b) % 2 ^ width

abbrev pub mul_mod : ℕ → ℕ → ℕ → ℕ
mul_mod width a b = a * b % 2 ^ width

abbrev pub and_mod : ℕ → ℕ → ℕ → ℕ
and_mod width a b = bit_and a b

abbrev pub or_mod : ℕ → ℕ → ℕ → ℕ
or_mod width a b = bit_or a b

abbrev pub xor_mod : ℕ → ℕ → ℕ → ℕ
xor_mod width a b = bit_xor a b

-- each of the width's bits turned
abbrev pub not_mod : ℕ → ℕ → ℕ
not_mod width a = 2 ^ width - 1 - a

-- whether two numbers are equal, and whether one is less
abbrev pub eq_mod : ℕ → ℕ → ℕ → ℕ
eq_mod width a b = bit_of (a == b)

abbrev pub lt_mod : ℕ → ℕ → ℕ → ℕ
lt_mod width a b = bit_of (nat_lt a b)

-- the bits moved by an amount towards the highest or the lowest place, with zeros after them
abbrev pub shl_mod : ℕ → ℕ → ℕ → ℕ
shl_mod width a amount = a * 2 ^ amount % 2 ^ width

abbrev pub shr_mod : ℕ → ℕ → ℕ → ℕ
shr_mod width a amount = a / 2 ^ amount

-- a number of any width at this width
abbrev pub resize_mod : ℕ → ℕ → ℕ
resize_mod width a = a % 2 ^ width

-- the whole quotient, and each bit 1 where the divisor is 0
abbrev pub div_mod : ℕ → ℕ → ℕ → ℕ
div_mod width a b = if b == 0 then 2 ^ width - 1 else a / b

-- what division leaves, and the dividend where the divisor is 0
abbrev pub rem_mod : ℕ → ℕ → ℕ → ℕ
rem_mod width a b = if b == 0 then a else a % b

-- how many of the bits are 1
abbrev pub count_mod : ℕ → ℕ → ℕ
count_mod width a = count_ones a

abbrev pub min_mod : ℕ → ℕ → ℕ → ℕ
min_mod width a b = min a b

abbrev pub max_mod : ℕ → ℕ → ℕ → ℕ
max_mod width a b = max a b
