-- The commands: the word of each, and the options that it takes.
use Rattle.std.specs.Prelude.{ℕ, List, [], ◌∷◌, Option, find, map, codes}
use Rattle.std.specs.Str.{bytes_eq}
use Rattle.mage_words.specs.declared.command.CommandName.{CommandName}
use Rattle.mage_words.specs.declared.command.CommandName.TheVariants as command
use Rattle.mage_words.specs.declared.command.CommandRule as code_rule
use Rattle.mage_words.specs.declared.option.OptionName.{OptionName}
use Rattle.mage_words.specs.declared.option.OptionName.TheVariants as option
use Rattle.mage_words.specs.Options.{OptionRule, rule_of}

-- the command's word, and the options that it takes
pub record CommandRule : Type 0 where
  pub name : List ℕ
  pub options : List OptionName

-- a row of the table
abbrev pub command_row : List ℕ → List OptionName → CommandRule
command_row name options = record { name = name; options = options }

-- the options that say what a plan may use
abbrev pub limit_options : List OptionName
limit_options = option.Page ∷ option.Frames ∷ option.Buffer ∷ option.Ahead ∷ []

-- the table
abbrev pub command_rule : CommandName → CommandRule
command_rule command.Solo = command_row (codes "solo")
    (option.Source ∷ option.Driver ∷ option.Garbler ∷ option.Evaluator ∷ option.Seed ∷ option.Stream ∷ option.Labels ∷ limit_options)
command_rule command.Stats = command_row (codes "stats") (option.Source ∷ limit_options)
command_rule command.Deal = command_row (codes "deal")
    (option.Source ∷ option.Evaluator ∷ option.Seed ∷ option.Labels ∷ [])
command_rule command.Plan = command_row (codes "plan") (option.Source ∷ option.Out ∷ limit_options)
command_rule command.Check = command_row (codes "check") (option.Source ∷ option.Program ∷ [])
command_rule command.Upgrade = command_row (codes "upgrade") (option.Program ∷ option.Out ∷ [])
command_rule command.Gen = command_row (codes "gen")
    (option.Items ∷ option.Rows ∷ option.Workers ∷ option.Number ∷ option.Out ∷ limit_options)

-- all commands
abbrev pub commands : List CommandName
commands =
    command.Solo ∷ command.Stats ∷ command.Deal ∷ command.Plan ∷ command.Check ∷ command.Upgrade ∷ command.Gen ∷ []

-- the command that a word names
abbrev pub command_named : List ℕ → Option CommandName
command_named word = find (λ name. bytes_eq (command_rule name).name word) commands

-- the rows of the options that a command takes
abbrev pub rules_of : CommandName → List OptionRule
rules_of name = map rule_of (command_rule name).options

-- what a row of the code's table says
abbrev pub command_view : code_rule.CommandRule → CommandRule
command_view rule = command_row rule.name.now rule.options.now
