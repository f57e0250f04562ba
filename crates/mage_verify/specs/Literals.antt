-- Lists whose directives have each field in its range, as tests write them out.
use Rattle.std.specs.Prelude.{ℕ, List, [], ◌∷◌}
use Rattle.mage_instr.specs.declared.directive.Directive.{Directive}
use Rattle.mage_directives.specs.Directives.{IsDirective}

-- each directive of a list has its fields in their ranges
abbrev pub AreDirectives : (workers own : ℕ) → List Directive → Type 0
AreDirectives workers own [] = Unit {0}
AreDirectives workers own (directive ∷ directives) = IsDirective workers own directive × AreDirectives workers own directives
