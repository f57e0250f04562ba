-- Formats: how a value is read from bytes, and how each value is spelled. A format of several fields is written once, as
-- the fields in their order, and both are taken from it.
use Rattle.std.specs.Prelude.{◌≡◌, ◌+◌, ◌-◌, ℕ, zero, suc, Bool, List, [], ◌∷◌, ◌++◌, length, take, drop, Result, Ok, Err, OnOk, nat_lt, nat_eq, if◌then◌else◌}
use Rattle.std.specs.Int.{Width, byte_len, from_be_bytes, to_be_bytes}
use Rattle.std.specs.List.{starts_with}
use Rattle.mage_file.specs.declared.fault.FileFault.{FileFault}
use Rattle.mage_file.specs.declared.fault.FileFault.TheVariants as faults
use Rattle.mage_file.specs.declared.left.Left.{Left}

-- what is left of an input of so many bytes
pub record Rest : Type 0 where
  pub bytes : List ℕ
  pub total : ℕ

abbrev pub rest_of : Left → Rest
rest_of left = record { bytes = left.bytes.now; total = left.total }

-- where it begins in the input
abbrev pub place : Rest → ℕ
place rest = rest.total - length rest.bytes

-- a value and what is left behind it, or the first fault
abbrev pub Read : Type 0 → Type 0
Read A = Result (A × Rest) FileFault

abbrev pub after : {A B : Type 0} → Result (A × Rest) FileFault → (A → Rest → Result (B × Rest) FileFault) → Result (B × Rest) FileFault
after (Ok x) f = f x.0 x.1
after (Err e) f = Err e

-- `read` takes a value from the front of what is left; `spell` puts the bytes of a value in front of others
pub record Format (A : Type 0) : Type 0 where
  pub read : Rest → Result (A × Rest) FileFault
  pub spell : A → (more : List ℕ) → List ℕ

-- the format of a member of B
pub record Member (A B : Type 0) : Type 0 where
  pub format : Format A
  pub member : B → A

infixl 20 ◌of◌
abbrev pub ◌of◌ : {A B : Type 0} → Format A → (B → A) → Member A B
format of member = record { format = format; member = member }

-- a member, and behind it what may depend on it
unfoldable pub chain : {A B : Type 0} → Member A B → (A → Format B) → Format B
chain first others = record {
  read = λ rest. after (first.format.read rest) (λ x left. (others x).read left);
  spell = λ y more. first.format.spell (first.member y) ((others (first.member y)).spell y more);
}

infixl 10 ◌>>=◌
abbrev pub ◌>>=◌ : {A B : Type 0} → Member A B → (A → Format B) → Format B
first >>= others = chain first others

-- nothing is left to read of a value
unfoldable pub done : {A : Type 0} → A → Format A
done x = record { read = λ rest. Ok (x, rest); spell = λ y more. more }

-- one of two formats
unfoldable pub either : {A : Type 0} → Bool → Format A → Format A → Format A
either first one other = record {
  read = λ rest. if first then one.read rest else other.read rest;
  spell = λ y more. if first then one.spell y more else other.spell y more;
}

abbrev pub number_of : Width → Rest → Result (ℕ × Rest) FileFault
number_of w rest =
    if nat_lt (length rest.bytes) (byte_len w) then Err (faults.Short rest.total)
    else Ok (from_be_bytes w (take (byte_len w) rest.bytes), record rest { bytes = drop (byte_len w) rest.bytes })

-- a number in so many bytes, the highest first; the input has to have them all
unfoldable pub number : Width → Format ℕ
number w = record { read = number_of w; spell = λ n more. to_be_bytes w n ++ more }

-- a number that meets a rule
unfoldable pub field : Width → (ℕ → Bool) → Format ℕ
field w rule = record {
  read = λ rest. after (number_of w rest) (λ n left. if rule n then Ok (n, left) else Err (faults.Field (place rest)));
  spell = λ n more. to_be_bytes w n ++ more;
}

-- a field that is a text; the fault where it is another
unfoldable pub text : List ℕ → FileFault → Format (Unit {0})
text expected fault = record {
  read = λ rest.
      if nat_lt (length rest.bytes) (length expected) then Err (faults.Short rest.total)
      else (if starts_with nat_eq rest.bytes expected then Ok (tt, record rest { bytes = drop (length expected) rest.bytes }) else Err fault);
  spell = λ _ more. expected ++ more;
}

-- so many values, which are numbered from `from` on
unfoldable pub read_all : {A : Type 0} → (ℕ → Format A) → (from count : ℕ) → Rest → Result (List A × Rest) FileFault
read_all each from zero rest = Ok ([], rest)
read_all each from (suc count) rest =
    after ((each from).read rest) (λ x left. after (read_all each (from + 1) count left) (λ xs behind. Ok (x ∷ xs, behind)))

unfoldable pub spell_all : {A : Type 0} → (ℕ → Format A) → (from : ℕ) → List A → (more : List ℕ) → List ℕ
spell_all each from [] more = more
spell_all each from (x ∷ xs) more = (each from).spell x (spell_all each (from + 1) xs more)

abbrev pub listed : {A : Type 0} → (count : ℕ) → (ℕ → Format A) → Format (List A)
listed count each = record { read = read_all each 0 count; spell = spell_all each 0 }

-- the fault is the one that was read, or want of memory
abbrev pub Fails : {Y : Type 0} → FileFault → Result Y FileFault → Type 0
Fails faults.Memory read = Unit {0}
Fails fault read = read ≡ Err fault

-- what a function returned, seen by view, is what reading gives, unless memory ran out
abbrev pub Gives : {X Y : Type 0} → (X → Y) → Result X FileFault → Result Y FileFault → Type 0
Gives view (Ok x) read = read ≡ Ok (view x)
Gives view (Err fault) read = Fails fault read

-- the value that a function took from the front of what was left is what the format reads there
abbrev pub Reads : {A : Type 0} → Format A → Result (A × Left) FileFault → Left → Type 0
Reads format result left = Gives (λ x. (x.0, rest_of x.1)) result (format.read (rest_of left))

-- what was added spells the value, in front of whatever comes behind it
abbrev pub Adds : {A E : Type 0} → Format A → A → Result (Unit {0}) E → (old new : List ℕ) → Type 0
Adds format x result old new = (more : List ℕ) → OnOk result (new ++ more ≡ old ++ format.spell x more)
