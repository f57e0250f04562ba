use Rattle.std.proofs.Common.{ap, ◌∙◌, List, ℕ, ◌++◌}
use Rattle.std.proofs.lemmas.Result.{on_ok_weaker}
use Rattle.mage_file.specs.Formats.{chain}
use Rattle.mage_file.specs.Codes.{kind_of}
use Rattle.mage_file.specs.declared.kind.Kind.{Kind}
use Rattle.mage_file.specs.Grammar.{code, directive, directive_of}
use Rattle.mage_file.proofs.writing.put_directive.Goals as goal

pub returns : goal.returns
unfolding chain directive
returns c = λ more.
    let behind : List ℕ = (directive_of 0 0 (kind_of c.args.directive)).spell c.args.directive more in
    on_ok_weaker c.put_behind.result
    (λ e. e ∙ c.in_ok-put_code.ensures behind ∙ ap (λ (k : Kind). c.args.out.now.items ++ code.spell k behind) c.kind_of.ensures)
    (c.put_behind.ensures more)
