-- The command has the options so far.
use Rattle.std.proofs.Common.{◌≡◌, map, take}
use Rattle.clap.specs.Words.{app_of}
use Rattle.mage_words.specs.Options.{rule_of}
use Rattle.mage_words.specs.Clap.{clap_app}
use Rattle.mage_words.proofs.matches.command_of.Given as goal

abbrev pub invariant-loop-option : goal.invariant-loop-option
invariant-loop-option l = app_of l.command ≡ clap_app l.name (map rule_of (take l.option-index l.options))
