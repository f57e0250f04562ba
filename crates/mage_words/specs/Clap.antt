-- What `clap` is handed: a simple command whose options take one value each.
use Rattle.std.specs.Prelude.{Bool, true, not, List, [], ◌∷◌, ◌&&◌, map, Some}
use Rattle.std.specs.List.{list_any}
use Rattle.std.specs.Str.{bytes_eq}
use Rattle.clap.specs.Words.{App, Rule, Text, new_rule}
use Rattle.clap.specs.Simple.{new_shape}
use Rattle.mage_words.specs.Options.{OptionRule, Absence, Default}
use Rattle.mage_words.specs.Words.{is_required}

abbrev pub defaults_of : Absence → List Text
defaults_of (Default text) = text ∷ []
defaults_of other = []

-- an option
abbrev pub clap_rule : OptionRule → Rule
clap_rule rule = record (new_rule rule.name) {
  long = Some rule.name;
  required = is_required rule.absence;
  defaults = defaults_of rule.absence;
}

-- a command with these options, and without the flag for help
abbrev pub clap_app : Text → List OptionRule → App
clap_app name rules = record {
  top = record (new_shape name) { rules = map clap_rule rules; disable_help_flag = true };
  subs = [];
}

-- no two options have one name
abbrev pub are_apart : List OptionRule → Bool
are_apart [] = true
are_apart (rule ∷ rules) = not (list_any (λ other. bytes_eq other.name rule.name) rules) && are_apart rules
