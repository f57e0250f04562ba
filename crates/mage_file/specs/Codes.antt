-- The first byte of each directive.
use Rattle.std.specs.Prelude.{ℕ, List, [], ◌∷◌, Option, ◌==◌}
use Rattle.std.specs.List.{find}
use Rattle.mage_instr.specs.declared.op.Op.TheVariants as op
use Rattle.mage_instr.specs.declared.directive.Directive.{Directive}
use Rattle.mage_instr.specs.declared.directive.Directive.TheVariants as entry
use Rattle.mage_file.specs.declared.kind.Kind.{Kind}
use Rattle.mage_file.specs.declared.kind.Kind.TheVariants as kind

-- the number of an opcode, or the code of another directive
abbrev pub code_of : Kind → ℕ
code_of (kind.Do op.Input) = 0
code_of (kind.Do op.Const) = 1
code_of (kind.Do op.Output) = 2
code_of (kind.Do op.Add) = 3
code_of (kind.Do op.Sub) = 4
code_of (kind.Do op.Mul) = 5
code_of (kind.Do op.And) = 6
code_of (kind.Do op.Or) = 7
code_of (kind.Do op.Xor) = 8
code_of (kind.Do op.Not) = 9
code_of (kind.Do op.Eq) = 10
code_of (kind.Do op.Lt) = 11
code_of (kind.Do op.Mux) = 12
code_of (kind.Do op.Shl) = 13
code_of (kind.Do op.Shr) = 14
code_of (kind.Do op.Resize) = 15
code_of (kind.Do op.Send) = 16
code_of (kind.Do op.Recv) = 17
code_of (kind.Do op.Div) = 18
code_of (kind.Do op.Rem) = 19
code_of (kind.Do op.Count) = 20
code_of (kind.Do op.Min) = 21
code_of (kind.Do op.Max) = 22
code_of kind.Fresh = 0x40
code_of kind.IssueIn = 0x41
code_of kind.FinishIn = 0x42
code_of kind.IssueOut = 0x43
code_of kind.FinishOut = 0x44

-- each kind once
abbrev pub kinds : List Kind
kinds =
    kind.Do op.Input ∷ kind.Do op.Const ∷ kind.Do op.Output ∷ kind.Do op.Add ∷ kind.Do op.Sub ∷ kind.Do op.Mul
    ∷ kind.Do op.And ∷ kind.Do op.Or ∷ kind.Do op.Xor ∷ kind.Do op.Not ∷ kind.Do op.Eq ∷ kind.Do op.Lt ∷ kind.Do op.Mux
    ∷ kind.Do op.Shl ∷ kind.Do op.Shr ∷ kind.Do op.Resize ∷ kind.Do op.Send ∷ kind.Do op.Recv ∷ kind.Do op.Div
    ∷ kind.Do op.Rem ∷ kind.Do op.Count ∷ kind.Do op.Min ∷ kind.Do op.Max
    ∷ kind.Fresh ∷ kind.IssueIn ∷ kind.FinishIn ∷ kind.IssueOut ∷ kind.FinishOut ∷ []

-- the kind with a code, if there is one
unfoldable pub kind_with : ℕ → Option Kind
kind_with code = find (λ k. code_of k == code) kinds

-- the kind of a directive
abbrev pub kind_of : Directive → Kind
kind_of (entry.Do job) = kind.Do job.op
kind_of (entry.Fresh frame page) = kind.Fresh
kind_of (entry.IssueIn slot page) = kind.IssueIn
kind_of (entry.FinishIn slot frame) = kind.FinishIn
kind_of (entry.IssueOut slot frame page) = kind.IssueOut
kind_of (entry.FinishOut slot) = kind.FinishOut
