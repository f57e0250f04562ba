-- The law that ties unrolling to the direct meaning.
use Rattle.std.specs.Prelude.{◌≡◌, List, Option, Ok}
use Rattle.mage_instr.specs.declared.instr.Program.{Program}
use Rattle.mage_lex.specs.declared.token.Token.{Token}
use Rattle.mage_tree.specs.declared.tree.Stmt.{Stmt}
use Rattle.mage_unroll.specs.Unrolled.{unrolled_of}
use Rattle.mage_meaning.specs.Given.{Given}
use Rattle.mage_meaning.specs.Means.{means_of}
use Rattle.mage_meaning.specs.Value.{value_of}

-- the program that a source unrolls to means what the source means, whatever the inputs
abbrev pub UnrolledMeansTheSame : Type 0
UnrolledMeansTheSame =
    (count : Option Token) (body : List Stmt) (program : Program) (given : Given) →
    unrolled_of count body ≡ Ok program → means_of program given ≡ value_of count body given
