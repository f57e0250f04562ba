use Rattle.std.proofs.Common.{◌∙◌, ap, ap₂}
use Rattle.clap.specs.Simple.{with_rule}
use Rattle.mage_words.specs.declared.option.OptionName.TheVariants as option
use Rattle.mage_words.specs.Clap.{clap_rule}
use Rattle.mage_words.proofs.Made.{one_more}
use Rattle.mage_words.proofs.matches.command_of.Goals as goal

pub loop-option-preserved : goal.loop-option-preserved
loop-option-preserved c =
    c.in_ok-command.ensures.shape c.arg_of.ensures.global
    ∙ ap₂ with_rule c.loop-option.invariant (c.arg_of.ensures.rule ∙ ap clap_rule c.rule_of.ensures)
    ∙ one_more c.args.name.now c.args.options.now c.loop-option.option-index option.Source c.loop-option-test.true
