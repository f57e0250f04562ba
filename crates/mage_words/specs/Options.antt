-- The options of the commands: what each is called, what its value has to be, and what stands for it where it isn't
-- given.
use Rattle.std.specs.Prelude.{ℕ, List, codes}
use Rattle.mage_instr.specs.Limits.{most_frames, most_slots, most_ahead}
use Rattle.mage_words.specs.declared.option.OptionName.{OptionName}
use Rattle.mage_words.specs.declared.option.OptionName.TheVariants as option
use Rattle.mage_words.specs.declared.option.Kind.{Kind}
use Rattle.mage_words.specs.declared.option.Kind.TheVariants.{File, Driver, Number, PowerOfTwo}
use Rattle.mage_words.specs.declared.option.Absence as code_absence
use Rattle.mage_words.specs.declared.option.Absence.TheVariants as code
use Rattle.mage_words.specs.declared.option.OptionRule as code_rule

-- What stands for an option that isn't given: nothing, so that it has to be given; nothing, where the command or its
-- driver says whether it has to be given; or this value.
pub data Absence : Type 0 where
  Required : Absence
  Optional : Absence
  Default : List ℕ → Absence

-- the name is the option's word without the two dashes in front
pub record OptionRule : Type 0 where
  pub name : List ℕ
  pub kind : Kind
  pub absence : Absence

abbrev pub row : List ℕ → Kind → Absence → OptionRule
row name kind absence = record { name = name; kind = kind; absence = absence }

-- The wires of the shortest page and of the longest: a power of two from the one to the other is a page size
-- (mage_instr's IsPageSize).
abbrev pub shortest_page : ℕ
shortest_page = 64

abbrev pub longest_page : ℕ
longest_page = 65536

-- the most that `gen` may be asked for
abbrev pub most_items : ℕ
most_items = 65536

abbrev pub most_rows : ℕ
most_rows = 1024

abbrev pub most_gen_workers : ℕ
most_gen_workers = 16

abbrev pub most_number : ℕ
most_number = 4294967295

-- the table
abbrev pub rule_of : OptionName → OptionRule
rule_of option.Source = row (codes "source") File Required
rule_of option.Driver = row (codes "driver") Driver (Default (codes "plain"))
rule_of option.Garbler = row (codes "garbler") File Optional
rule_of option.Evaluator = row (codes "evaluator") File Optional
rule_of option.Seed = row (codes "seed") File Optional
rule_of option.Stream = row (codes "stream") File Optional
rule_of option.Labels = row (codes "labels") File Optional
rule_of option.Page = row (codes "page") (PowerOfTwo shortest_page longest_page) (Default (codes "256"))
rule_of option.Frames = row (codes "frames") (Number 1 most_frames) (Default (codes "64"))
rule_of option.Buffer = row (codes "buffer") (Number 0 most_slots) (Default (codes "8"))
rule_of option.Ahead = row (codes "ahead") (Number 0 most_ahead) (Default (codes "64"))
rule_of option.Program = row (codes "program") File Required
rule_of option.Out = row (codes "out") File Required
rule_of option.Items = row (codes "items") (Number 1 most_items) Required
rule_of option.Rows = row (codes "rows") (Number 1 most_rows) (Default (codes "1"))
rule_of option.Workers = row (codes "workers") (Number 1 most_gen_workers) (Default (codes "1"))
rule_of option.Number = row (codes "number") (Number 0 most_number) (Default (codes "0"))

-- what a row of the code's table says
abbrev pub absence_view : code_absence.Absence → Absence
absence_view code.Required = Required
absence_view code.Optional = Optional
absence_view (code.Default text) = Default text.now

abbrev pub rule_view : code_rule.OptionRule → OptionRule
rule_view rule = row rule.name.now rule.kind (absence_view rule.absence)
