-- The words of a command: a command word, and then pairs of words, an option's name and its value.
use Rattle.std.specs.Prelude.{ℕ, ◌==◌, ◌≤◌, ◌+◌, ◌*◌, ◌&&◌, ◌||◌, nat_le, nat_lt, Bool, true, false, not, List, [], ◌∷◌, length, drop, map, find, Option, Some, None, is_some, option_map, option_and_then, nat_eq, String, codes, if◌then◌else◌}
use Rattle.std.specs.List.{list_any, list_all, starts_with}
use Rattle.std.specs.Option.{option_or}
use Rattle.std.specs.Char.{is_ascii_digit}
use Rattle.std.specs.Int.{is_power_of_two}
use Rattle.std.specs.String.{string_bytes}
use Rattle.std.specs.Str.{bytes_eq}
use Rattle.std.specs.Str.Parse.{digits_value}
use Rattle.std.specs.declared.alloc.Global.{Global}
use Rattle.mage_instr.specs.declared.replaced.Limits.{Limits}
use Rattle.mage_instr.specs.Limits.{AreInRange, most_wires}
use Rattle.mage_words.specs.declared.option.OptionName.{OptionName}
use Rattle.mage_words.specs.declared.option.OptionName.TheVariants as option
use Rattle.mage_words.specs.declared.option.Kind.{Kind}
use Rattle.mage_words.specs.declared.option.Kind.TheVariants as kind
use Rattle.mage_words.specs.declared.driver.DriverName.{DriverName}
use Rattle.mage_words.specs.declared.driver.DriverName.TheVariants as driver
use Rattle.mage_words.specs.declared.command.CommandName.{CommandName}
use Rattle.mage_words.specs.declared.command.CommandName.TheVariants as command
use Rattle.mage_words.specs.Options.{OptionRule, Absence, Required, Default, most_items, most_rows, most_gen_workers, most_number, rule_of}
use Rattle.mage_words.specs.Commands.{command_named, rules_of}

infixl 10 ◌>>=◌
abbrev pub ◌>>=◌ : {A B : Type 0} → Option A → (A → Option B) → Option B
o >>= f = option_and_then f o

-- the bytes of each word
abbrev pub bytes_of_words : List (String Global) → List (List ℕ)
bytes_of_words words = map string_bytes words

-- ---- the form of pairs

-- an option's name, without the two dashes in front, and its value
pub record Pair : Type 0 where
  pub name : List ℕ
  pub value : List ℕ

-- a first word: two dashes, at least one byte more, and no `=` (61)
abbrev pub is_option_word : List ℕ → Bool
is_option_word word =
    starts_with nat_eq word (codes "--") && (nat_lt 2 (length word) && not (list_any (λ byte. byte == 61) word))

-- a second word: it isn't empty, and doesn't begin with a dash
abbrev pub is_value_word : List ℕ → Bool
is_value_word [] = false
is_value_word (first ∷ rest) = not (first == 45)

-- the pairs that the words are, if they are pairs
abbrev pub pairs_of : List (List ℕ) → Option (List Pair)
pairs_of [] = Some []
pairs_of (word ∷ []) = None
pairs_of (word ∷ value ∷ rest) =
    if is_option_word word && is_value_word value
    then option_map (λ pairs. record { name = drop 2 word; value = value } ∷ pairs) (pairs_of rest)
    else None

-- ---- the options of a command, by the rows of the table

-- the value that the pairs give an option
abbrev pub given : List Pair → (name : List ℕ) → Option (List ℕ)
given pairs name = option_map (λ pair. pair.value) (find (λ pair. bytes_eq pair.name name) pairs)

-- one of the options is named
abbrev pub is_known : List OptionRule → Pair → Bool
is_known rules pair = list_any (λ rule. bytes_eq rule.name pair.name) rules

-- no option is named twice
abbrev pub are_distinct : List Pair → Bool
are_distinct [] = true
are_distinct (pair ∷ pairs) = not (list_any (λ other. bytes_eq other.name pair.name) pairs) && are_distinct pairs

abbrev pub is_required : Absence → Bool
is_required Required = true
is_required other = false

-- the option is given, where it has to be
abbrev pub is_there : List Pair → OptionRule → Bool
is_there pairs rule = not (is_required rule.absence) || is_some (given pairs rule.name)

-- a command with these options takes the pairs
abbrev pub takes : List OptionRule → List Pair → Bool
takes rules pairs = list_all (is_known rules) pairs && (are_distinct pairs && list_all (is_there pairs) rules)

abbrev pub default_of : Absence → Option (List ℕ)
default_of (Default text) = Some text
default_of other = None

-- the value of an option: what is given, or else its default
abbrev pub value_of : List Pair → OptionRule → Option (List ℕ)
value_of pairs rule = option_or (given pairs rule.name) (default_of rule.absence)

-- ---- values

-- the most digits of a number, with leading zeros
abbrev pub most_digits : ℕ
most_digits = 20

-- 1 to 20 decimal digits
abbrev pub is_number : List ℕ → Bool
is_number text = nat_le 1 (length text) && (nat_le (length text) most_digits && list_all is_ascii_digit text)

-- the number that a text writes, where it is one in this range
abbrev pub number_in : (least most : ℕ) → List ℕ → Option ℕ
number_in least most text =
    if is_number text && (nat_le least (digits_value 10 text) && nat_le (digits_value 10 text) most)
    then Some (digits_value 10 text) else None

abbrev pub if_power_of_two : ℕ → Option ℕ
if_power_of_two n = if is_power_of_two n then Some n else None

-- the number that a text writes, where it is one that the option may have
abbrev pub number_for : Kind → List ℕ → Option ℕ
number_for (kind.Number least most) text = number_in least most text
number_for (kind.PowerOfTwo least most) text = number_in least most text >>= if_power_of_two
number_for other text = None

-- the limits, where frames and buffer hold no more wires together than they may
abbrev pub if_within : Limits → Option Limits
if_within limits = if nat_le ((limits.frames + limits.buffer) * limits.page) most_wires then Some limits else None

-- the driver that a word names
abbrev pub driver_named : List ℕ → Option DriverName
driver_named word =
    if bytes_eq word (codes "plain") then Some driver.Plain
    else if bytes_eq word (codes "garble") then Some driver.Garble
    else if bytes_eq word (codes "eval") then Some driver.Eval
    else None

-- ---- what commands are asked for

-- what runs the circuits of `solo`, with the files of its own
pub data Driver : Type 0 where
  Plain : (garbler evaluator : Option (List ℕ)) → Driver
  Garble : (garbler : Option (List ℕ)) → (seed stream : List ℕ) → Driver
  Eval : (stream labels : List ℕ) → Driver

-- what `solo` is asked for
pub record SoloRequest : Type 0 where
  pub source : List ℕ
  pub driver : Driver
  pub limits : Limits

-- what `stats` is asked for
pub record StatsRequest : Type 0 where
  pub source : List ℕ
  pub limits : Limits

-- what `deal` is asked for
pub record DealRequest : Type 0 where
  pub source : List ℕ
  pub evaluator : Option (List ℕ)
  pub seed : List ℕ
  pub labels : List ℕ

-- what `plan` is asked for
pub record PlanRequest : Type 0 where
  pub source : List ℕ
  pub out : List ℕ
  pub limits : Limits

-- what `check` is asked for
pub record CheckRequest : Type 0 where
  pub source : List ℕ
  pub program : List ℕ

-- what `upgrade` is asked for
pub record UpgradeRequest : Type 0 where
  pub program : List ℕ
  pub out : List ℕ

-- what `gen` is asked for
pub record GenRequest : Type 0 where
  pub items : ℕ
  pub rows : ℕ
  pub workers : ℕ
  pub number : ℕ
  pub out : List ℕ
  pub limits : Limits

-- what a command is asked for
pub data Request : Type 0 where
  Solo : SoloRequest → Request
  Stats : StatsRequest → Request
  Deal : DealRequest → Request
  Plan : PlanRequest → Request
  Check : CheckRequest → Request
  Upgrade : UpgradeRequest → Request
  Gen : GenRequest → Request

-- what a plan may use is in range, where a plan is to be made
abbrev pub LimitsAreInRange : Request → Type 0
LimitsAreInRange (Solo solo) = AreInRange solo.limits
LimitsAreInRange (Stats stats) = AreInRange stats.limits
LimitsAreInRange (Deal deal) = Unit {0}
LimitsAreInRange (Plan plan) = AreInRange plan.limits
LimitsAreInRange (Check check) = Unit {0}
LimitsAreInRange (Upgrade upgrade) = Unit {0}
LimitsAreInRange (Gen gen) = AreInRange gen.limits

-- the numbers of `gen` are in range
pub record GenIsInRange (gen : GenRequest) : Type 0 where
  pub some_item : 1 ≤ gen.items
  pub items : gen.items ≤ most_items
  pub some_row : 1 ≤ gen.rows
  pub rows : gen.rows ≤ most_rows
  pub some_worker : 1 ≤ gen.workers
  pub workers : gen.workers ≤ most_gen_workers
  pub number : gen.number ≤ most_number

-- what is to be generated is in range, where something is
abbrev pub NumbersAreInRange : Request → Type 0
NumbersAreInRange (Gen gen) = GenIsInRange gen
NumbersAreInRange other = Unit {0}

-- Below, `value` has the value of each option.
module _ (value : OptionName → Option (List ℕ)) where
  -- the number of an option
  abbrev pub number : OptionName → Option ℕ
  number name = value name >>= number_for (rule_of name).kind

  -- the limits, where each is in its range and they are within the wires
  unfoldable pub limits_of : Option Limits
  limits_of = do
    page ← number option.Page
    frames ← number option.Frames
    buffer ← number option.Buffer
    ahead ← number option.Ahead
    if_within (record { page = page; frames = frames; buffer = buffer; ahead = ahead })

  -- a driver, where none of these options is given, which are those of other drivers
  abbrev pub unless_given : List OptionName → Driver → Option Driver
  unless_given others driver = if list_any (λ name. is_some (value name)) others then None else Some driver

  -- what the values ask each driver for
  unfoldable pub plain_of_values : Option Driver
  plain_of_values =
      unless_given (option.Seed ∷ option.Stream ∷ option.Labels ∷ [])
      (Plain (value option.Garbler) (value option.Evaluator))

  unfoldable pub garble_of_values : Option Driver
  garble_of_values = do
    seed ← value option.Seed
    stream ← value option.Stream
    unless_given (option.Evaluator ∷ option.Labels ∷ []) (Garble (value option.Garbler) seed stream)

  unfoldable pub eval_of_values : Option Driver
  eval_of_values = do
    stream ← value option.Stream
    labels ← value option.Labels
    unless_given (option.Garbler ∷ option.Evaluator ∷ option.Seed ∷ []) (Eval stream labels)

  -- what the values ask the driver of this name for
  abbrev pub driver_of_values : DriverName → Option Driver
  driver_of_values driver.Plain = plain_of_values
  driver_of_values driver.Garble = garble_of_values
  driver_of_values driver.Eval = eval_of_values

  -- what the values ask `solo` for
  unfoldable pub solo_of_values : Option SoloRequest
  solo_of_values = do
    source ← value option.Source
    name ← value option.Driver >>= driver_named
    driver ← driver_of_values name
    limits ← limits_of
    Some (record { source = source; driver = driver; limits = limits })

  -- what the values ask `stats` for
  unfoldable pub stats_of_values : Option StatsRequest
  stats_of_values = do
    source ← value option.Source
    limits ← limits_of
    Some (record { source = source; limits = limits })

  -- what the values ask `deal` for
  unfoldable pub deal_of_values : Option DealRequest
  deal_of_values = do
    source ← value option.Source
    seed ← value option.Seed
    labels ← value option.Labels
    Some (record {
      source = source;
      evaluator = value option.Evaluator;
      seed = seed;
      labels = labels;
    })

  -- what the values ask `plan` for
  unfoldable pub plan_of_values : Option PlanRequest
  plan_of_values = do
    source ← value option.Source
    out ← value option.Out
    limits ← limits_of
    Some (record { source = source; out = out; limits = limits })

  -- what the values ask `check` for
  unfoldable pub check_of_values : Option CheckRequest
  check_of_values = do
    source ← value option.Source
    program ← value option.Program
    Some (record { source = source; program = program })

  -- what the values ask `upgrade` for
  unfoldable pub upgrade_of_values : Option UpgradeRequest
  upgrade_of_values = do
    program ← value option.Program
    out ← value option.Out
    Some (record { program = program; out = out })

  -- what the values ask `gen` for
  unfoldable pub gen_of_values : Option GenRequest
  gen_of_values = do
    items ← number option.Items
    rows ← number option.Rows
    workers ← number option.Workers
    start ← number option.Number
    out ← value option.Out
    limits ← limits_of
    Some (record {
      items = items;
      rows = rows;
      workers = workers;
      number = start;
      out = out;
      limits = limits;
    })

-- what the values of its options ask a command for
abbrev pub asked_of : CommandName → (OptionName → Option (List ℕ)) → Option Request
asked_of command.Solo value = option_map Solo (solo_of_values value)
asked_of command.Stats value = option_map Stats (stats_of_values value)
asked_of command.Deal value = option_map Deal (deal_of_values value)
asked_of command.Plan value = option_map Plan (plan_of_values value)
asked_of command.Check value = option_map Check (check_of_values value)
asked_of command.Upgrade value = option_map Upgrade (upgrade_of_values value)
asked_of command.Gen value = option_map Gen (gen_of_values value)

-- what pairs ask a command for
abbrev pub asked_of_pairs : CommandName → List Pair → Option Request
asked_of_pairs name pairs =
    if takes (rules_of name) pairs then asked_of name (λ option. value_of pairs (rule_of option)) else None

-- what the words ask for: the first names the command, and the rest are pairs
unfoldable pub request_of : List (List ℕ) → Option Request
request_of [] = None
request_of (word ∷ words) = do
  name ← command_named word
  pairs ← pairs_of words
  asked_of_pairs name pairs

-- the command that the first word names, where pairs stand behind it
abbrev pub command_in : List (List ℕ) → Option CommandName
command_in [] = None
command_in (word ∷ words) = if is_some (pairs_of words) then command_named word else None
