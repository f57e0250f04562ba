use Rattle.std.proofs.Common.{ap, ◌∙◌, ℕ, ◌++◌}
use Rattle.std.proofs.lemmas.Result.{on_ok_weaker}
use Rattle.std.specs.Int.{w8, to_be_bytes}
use Rattle.mage_file.specs.Formats.{number}
use Rattle.mage_file.specs.Grammar.{code}
use Rattle.mage_file.proofs.writing.put_code.Goals as goal

pub returns : goal.returns
unfolding number code
returns c = λ more. on_ok_weaker c.put_u8.result (λ e. e ∙ ap (λ (n : ℕ). c.args.out.now.items ++ (to_be_bytes w8 n ++ more)) c.code.ensures) (c.put_u8.ensures more)
