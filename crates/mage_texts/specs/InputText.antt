-- The numbers that an input text gives, or its first faulty line.
use Rattle.std.specs.Prelude.{◌≡◌, ◌+◌, ◌^◌, ◌<◌, ◌≤◌, ◌==◌, ◌&&◌, nat_le, nat_lt, ℕ, Bool, List, [], ◌∷◌, length, take, drop, Option, Some, None, Result, Ok, Err, Vec, if◌then◌else◌}
use Rattle.std.specs.List.{slice_split, list_all, concat, AllZip}
use Rattle.std.specs.Char.{is_ascii_digit}
use Rattle.std.specs.Str.Parse.{digits_value}
use Rattle.std.specs.declared.alloc.Global.{Global}
use Rattle.mage_texts.specs.Lists.{lists_of}
use Rattle.mage_texts.specs.declared.input_text.InputFault.{InputFault}
use Rattle.mage_texts.specs.declared.input_text.InputFault.TheVariants as faults

-- the parts of a text without the last, where that is empty
abbrev pub without_empty_end : List (List ℕ) → List (List ℕ)
without_empty_end [] = []
without_empty_end ([] ∷ []) = []
without_empty_end (part ∷ parts) = part ∷ without_empty_end parts

-- The lines of a text: line feeds part them, and a last line feed is optional. An empty text has no line.
abbrev pub lines_of : List ℕ → List (List ℕ)
lines_of text = without_empty_end (slice_split (λ byte. byte == 10) text)

-- the most digits of a line, with leading zeros
abbrev pub most_digits : ℕ
most_digits = 39

-- a line is 1 to 39 decimal digits
abbrev pub is_number : List ℕ → Bool
is_number line = nat_le 1 (length line) && (nat_le (length line) most_digits && list_all is_ascii_digit line)

-- the number of a line, where the line is right for a value of this width
abbrev pub number_of_line : ℕ → List ℕ → Option ℕ
number_of_line width line =
    if is_number line && nat_lt (digits_value 10 line) (2 ^ width) then Some (digits_value 10 line) else None

-- a number in front of the others, unless there is none or the others are faulty
abbrev pub with_first : ℕ → Option ℕ → Result (List ℕ) ℕ → Result (List ℕ) ℕ
with_first line None others = Err line
with_first line (Some number) (Ok numbers) = Ok (number ∷ numbers)
with_first line (Some number) (Err fault) = Err fault

-- The numbers of these lines for values of these widths, or the first line that is bad, missing or too many. The
-- first line has this number.
abbrev pub numbers_of : ℕ → List (List ℕ) → List ℕ → Result (List ℕ) ℕ
numbers_of first [] [] = Ok []
numbers_of first [] (width ∷ widths) = Err first
numbers_of first (line ∷ lines) [] = Err first
numbers_of first (line ∷ lines) (width ∷ widths) =
    with_first first (number_of_line width line) (numbers_of (first + 1) lines widths)

-- the numbers cut into one list for each worker, which has as many as the worker has widths
abbrev pub by_worker : List (List ℕ) → List ℕ → List (List ℕ)
by_worker [] numbers = []
by_worker (own ∷ others) numbers = take (length own) numbers ∷ by_worker others (drop (length own) numbers)

abbrev pub cut_by_worker : List (List ℕ) → Result (List ℕ) ℕ → Result (List (List ℕ)) ℕ
cut_by_worker widths (Ok numbers) = Ok (by_worker widths numbers)
cut_by_worker widths (Err line) = Err line

-- The numbers of an input text by worker, or its first faulty line, counted from 1: worker 0's values come first,
-- each worker's in order.
abbrev pub inputs_of : List ℕ → List (List ℕ) → Result (List (List ℕ)) ℕ
inputs_of text widths = cut_by_worker widths (numbers_of 1 (lines_of text) (concat widths))

-- what a call answers where these are the inputs
abbrev pub IsReadOf : Result (List (List ℕ)) ℕ → Result (Vec (Vec ℕ Global) Global) InputFault → Type 0
IsReadOf inputs (Ok numbers) = inputs ≡ Ok (lists_of numbers.items)
IsReadOf inputs (Err (faults.Line line)) = inputs ≡ Err line
IsReadOf inputs (Err faults.Memory) = Unit {0}

-- the greatest width of a value, in bits
abbrev pub most_bits : ℕ
most_bits = 128

-- the width of an input value, in bits
abbrev pub IsWidth : ℕ → Type 0
IsWidth width = (1 ≤ width) × (width ≤ most_bits)

-- a list of numbers for each list of widths, a number for each width, and each number below 2 to its width
abbrev pub FitWidths : List (List ℕ) → List (List ℕ) → Type 0
FitWidths widths numbers = AllZip (AllZip (λ width number. number < 2 ^ width)) widths numbers
