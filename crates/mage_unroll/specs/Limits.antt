-- How much a program may have.
use Rattle.std.specs.Prelude.{ℕ}

-- steps
abbrev pub MOST_STEPS : ℕ
MOST_STEPS = 16000000

-- instructions, of all workers together
abbrev pub MOST_INSTRS : ℕ
MOST_INSTRS = 2000000

-- bits of a literal: it is an immediate
abbrev pub LITERAL_BITS : ℕ
LITERAL_BITS = 64
