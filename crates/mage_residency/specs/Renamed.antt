-- Pages under other names don't matter to what a list carries.
use Rattle.std.specs.Prelude.{◌↔◌, ℕ, List, None}
use Rattle.mage_instr.specs.declared.instr.Instr.{Instr}
use Rattle.mage_instr.specs.declared.replaced.Replaced.{Replaced}
use Rattle.mage_sched.specs.Renamed.{AreRenamed}
use Rattle.mage_residency.specs.Plain.{CarriesPlainly}

-- Whatever names the pages have: the one list carries the instructions exactly where the other does.
abbrev pub NamesDontMatter : Type 0
NamesDontMatter =
    (frames wires : ℕ) (instrs : List Instr) (list others : List Replaced)
    → AreRenamed (λ home. None) list others
    → CarriesPlainly frames wires instrs list ↔ CarriesPlainly frames wires instrs others
