use Rattle.std.proofs.Common.{rules, sym, ◌≡◌, ◌∙◌, ap, List, ℕ, ◌++◌, true, false}
use Rattle.std.proofs.lemmas.Result.{on_ok_weaker}
use Rattle.mage_file.specs.Formats.{number}
use Rattle.mage_file.specs.Rules.{is_const}
use Rattle.mage_file.proofs.Adding.{constant_spelled, instruction_spelled}
use Rattle.mage_file.proofs.writing.put_job.Goals as goal

pub returns-then-is_const : goal.returns-then-is_const
unfolding number
returns-then-is_const c = λ more.
    let const : is_const c.args.job.op ≡ true = search rules in
    on_ok_weaker c.put_constant.result
    (λ e. e ∙ c.in_ok-put_u8.ensures _ ∙ ap (λ (t : List ℕ). c.args.out.now.items ++ t) (sym (constant_spelled c.args.job more const)))
    (c.put_constant.ensures more)

pub returns-else-is_const : goal.returns-else-is_const
unfolding number
returns-else-is_const c = λ more.
    let other : is_const c.args.job.op ≡ false = search rules in
    on_ok_weaker c.put_instruction.result
    (λ e. e ∙ c.in_ok-put_u8.ensures _ ∙ ap (λ (t : List ℕ). c.args.out.now.items ++ t) (sym (instruction_spelled c.args.job more other)))
    (c.put_instruction.ensures more)
