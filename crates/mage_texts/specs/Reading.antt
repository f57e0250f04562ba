-- What the parts of a reader of input texts say, where they read some values' lines from the front of what is left.
use Rattle.std.specs.Prelude.{◌≡◌, ℕ, List, ◌++◌, Result, Ok, Err}
use Rattle.mage_texts.specs.InputText.{lines_of, numbers_of}
use Rattle.mage_texts.specs.declared.input_text.InputFault.{InputFault}
use Rattle.mage_texts.specs.declared.input_text.InputFault.TheVariants as faults

-- these numbers in front of the others
abbrev pub with_front : List ℕ → Result (List ℕ) ℕ → Result (List ℕ) ℕ
with_front front (Ok numbers) = Ok (front ++ numbers)
with_front front (Err line) = Err line

-- the numbers of these widths come first, whatever values come after, and then those of the text that is left
abbrev pub IsFront : ℕ → List ℕ → List ℕ → List ℕ → ℕ → List ℕ → Type 0
IsFront first text widths numbers next left = (more : List ℕ)
    → numbers_of first (lines_of text) (widths ++ more)
    ≡ with_front numbers (numbers_of next (lines_of left) more)

-- the fault is want of memory, or the first faulty line, whatever values come after
abbrev pub IsFaultIn : ℕ → List ℕ → List ℕ → InputFault → Type 0
IsFaultIn first text widths (faults.Line line) =
    (more : List ℕ) → numbers_of first (lines_of text) (widths ++ more) ≡ Err line
IsFaultIn first text widths faults.Memory = Unit {0}
