-- The command that the code makes, option by option.
use Rattle.std.proofs.Common.{◌≡◌, ◌∙◌, ◌<◌, ◌+◌, ℕ, sym, ap, arith, List, [], ◌∷◌, ◌++◌, map, length, take, suc, get_or, true}
use Rattle.std.proofs.Math.Seq.{take-suc}
use Rattle.std.proofs.lemmas.List.{map-append}
use Rattle.clap.specs.Walk.{Rule, Text}
use Rattle.clap.specs.Simple.{App, app_of_fields, new_app, new_shape, with_rule}
use Rattle.clap.specs.declared.builder.command.Command.{Command}
use Rattle.clap.specs.declared.builder.command.Command.TheOpen.{Command-F}
use Rattle.mage_words.specs.declared.option.OptionName.{OptionName}
use Rattle.mage_words.specs.Options.{rule_of}
use Rattle.mage_words.specs.Clap.{clap_app, clap_rule}

abbrev without_help : App → App
without_help a = record a { top = record a.top { disable_help_flag = true } }

-- the command before its options
pub no_option_yet : (name : Text) (old new : Command-F Command) → app_of_fields old ≡ new_app name → new ≡ record old { disable_help_flag = true } → app_of_fields new ≡ clap_app name []
no_option_yet name old new is changed = ap app_of_fields changed ∙ ap without_help is

abbrev app_with : Text → List Rule → App
app_with name rules = record { top = record (new_shape name) { rules = rules; disable_help_flag = true }; subs = [] }

-- and with one more
pub one_more : (name : Text) (options : List OptionName) (i : ℕ) (d : OptionName) → i < length options
    → with_rule (clap_app name (map rule_of (take i options))) (clap_rule (rule_of (get_or options i d))) ≡ clap_app name (map rule_of (take (i + 1) options))
one_more name options i d lt =
    let more : i + 1 ≡ suc i = omega arith in
    let next : take (i + 1) options ≡ take i options ++ get_or options i d ∷ [] = ap (λ k. take k options) more ∙ take-suc options i d lt in
    ap (app_with name)
    (sym (map-append clap_rule (map rule_of (take i options)) (rule_of (get_or options i d) ∷ []))
    ∙ ap (map clap_rule) (sym (map-append rule_of (take i options) (get_or options i d ∷ [])) ∙ ap (map rule_of) (sym next)))
