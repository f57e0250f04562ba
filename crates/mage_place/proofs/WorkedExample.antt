-- The definition computes the worked example of docs/PLANNING.md, and one in which two pages are open.
use Rattle.std.proofs.Common.{◌≡◌, ◌∷◌, [], ℕ, List, refl}
use Rattle.mage_instr.specs.declared.instr.Instr.{Instr}
use Rattle.mage_instr.specs.declared.instr.Place.{Place}
use Rattle.mage_instr.specs.declared.instr.Step.{Step}
use Rattle.mage_instr.specs.declared.op.Op.{Op}
use Rattle.mage_instr.specs.declared.op.Op.TheVariants as op
use Rattle.mage_place.specs.Placing.{places_of, trace_of}

abbrev instr : Op → (width first second : ℕ) → Instr
instr o width first second = record { op = o; width = width; args = first ∷ second ∷ 0 ∷ []; imm = 0 }

abbrev at : (page offset : ℕ) → Place
at page offset = record { page = page; offset = offset }

abbrev one_page : ℕ → Step
one_page q = record { pages = q ∷ 0 ∷ 0 ∷ 0 ∷ []; count = 1 }

abbrev two_pages : (q r : ℕ) → Step
two_pages q r = record { pages = q ∷ r ∷ 0 ∷ 0 ∷ []; count = 2 }

-- `c = a + a; d = b ^ b; output c; output d;` with an input of 8 bits and one of 64
abbrev two_classes : List Instr
two_classes = instr op.Input 8 0 0 ∷ instr op.Input 64 0 0 ∷ instr op.Add 8 0 0 ∷ instr op.Xor 64 1 1 ∷ instr op.Output 8 2 0 ∷ instr op.Output 64 3 0 ∷ []

places_of_two_classes : places_of two_classes 64 ≡ at 0 0 ∷ at 1 0 ∷ at 0 8 ∷ at 2 0 ∷ at 0 0 ∷ at 0 0 ∷ []
unfolding places_of
places_of_two_classes = refl

trace_of_two_classes : trace_of two_classes (places_of two_classes 64) ≡ one_page 0 ∷ one_page 1 ∷ one_page 0 ∷ two_pages 1 2 ∷ one_page 0 ∷ one_page 2 ∷ []
unfolding places_of trace_of
trace_of_two_classes = refl

-- When the first value is gone, pages 0 and 1 are open: page 1 is filled first, and then the free place of page 0.
abbrev two_open_pages : List Instr
two_open_pages = instr op.Input 32 0 0 ∷ instr op.Input 32 0 0 ∷ instr op.Input 32 0 0 ∷ instr op.Output 32 0 0 ∷ instr op.Input 32 0 0 ∷ instr op.Input 32 0 0 ∷ instr op.And 32 1 2 ∷ instr op.Or 32 4 5 ∷ []

places_of_two_open_pages : places_of two_open_pages 64 ≡ at 0 0 ∷ at 0 32 ∷ at 1 0 ∷ at 0 0 ∷ at 1 32 ∷ at 0 0 ∷ at 2 0 ∷ at 1 0 ∷ []
unfolding places_of
places_of_two_open_pages = refl
