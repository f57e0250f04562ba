-- What clap's clauses say of words that are pairs, and what the words ask for.
use Rattle.std.proofs.Common.{◌≡◌, ◌∙◌, ◌<◌, ℕ, cond, true, false, refl, sym, ap, ap₂, subst, arith, inl, inr, List, [], ◌∷◌, map, drop, length, Option, Some, None, is_some, Err, ok_or, option_map, String}
use mathlib.Core.Path.{fun_ext}
use Rattle.std.specs.List.{All, slice_index_or}
use Rattle.std.specs.String.{string_bytes}
use Rattle.std.specs.declared.alloc.Global.{Global}
use Rattle.std.proofs.lemmas.List.{get_or-map, length-map}
use Rattle.clap.specs.Faults.{fault_of}
use Rattle.clap.specs.Kinds.{HasKind, Kinds}
use Rattle.clap.specs.Matches.{first_value}
use Rattle.clap.specs.declared.parser.matches.Found.{Found}
use Rattle.clap.specs.Simple.{App, matches_of}
use Rattle.clap.specs.Values.{kind_of}
use Rattle.clap.specs.Walk.{Text, first_of}
use Rattle.clap.specs.declared.error.Error.{Error}
use Rattle.clap.specs.declared.error.kind.ErrorKind.TheVariants as kind
use Rattle.mage_instr.specs.declared.replaced.Limits.{Limits}
use Rattle.mage_words.specs.declared.fault.WordsFault.{WordsFault}
use Rattle.mage_words.specs.declared.fault.WordsFault.TheVariants as fault
use Rattle.mage_words.specs.declared.option.OptionName.{OptionName}
use Rattle.mage_words.specs.declared.option.OptionName.TheVariants as option
use Rattle.mage_words.specs.Options.{OptionRule, rule_of}
use Rattle.mage_words.specs.declared.command.CommandName.{CommandName}
use Rattle.mage_words.specs.declared.command.CommandName.TheVariants as command
use Rattle.mage_words.specs.Commands.{command_named, command_rule, rules_of}
use Rattle.mage_words.specs.declared.driver.DriverName.{DriverName}
use Rattle.mage_words.specs.declared.driver.DriverName.TheVariants as driver
use Rattle.mage_words.specs.Words.{◌>>=◌, Driver, Pair, Request, Solo, SoloRequest, driver_named, asked_of, asked_of_pairs, bytes_of_words, command_in, limits_of, pairs_of, request_of, plain_of_values, garble_of_values, eval_of_values, driver_of_values, solo_of_values, stats_of_values, deal_of_values, plan_of_values, check_of_values, upgrade_of_values, gen_of_values, takes, value_of}
use Rattle.mage_words.specs.Clap.{are_apart, clap_app}
use Rattle.mage_words.specs.Answers.{Reads, value_in}
use Rattle.mage_words.proofs.Faultless.{none}
use Rattle.mage_words.proofs.Parsed.{none_exactly, values_exactly}
use Rattle.mage_words.proofs.PairLemmas.{pairs_form}

-- ---- clap

pub has_words : (words : List (String Global)) → 0 < length words → 0 < length (bytes_of_words words)
has_words words some = omega (arith, length-map words string_bytes, some)

module _ (name : Text) (os : List OptionRule) (a : App) (made : a ≡ clap_app name os) where
  pub none_where_taken : (words : List Text) (pairs : List Pair) → 0 < length words → pairs_of (drop 1 words) ≡ Some pairs → none (fault_of a words) ≡ takes os pairs
  none_where_taken [] pairs some is = absurd (omega arith)
  none_where_taken (w ∷ ws) pairs some is =
      let f = pairs_form ws pairs is in
      ap₂ (λ (x : App) (y : List Text). none (fault_of x (w ∷ y))) made f.0 ∙ none_exactly name w os pairs f.1

  pub value_where_taken : (words : List Text) (pairs : List Pair) → 0 < length words → pairs_of (drop 1 words) ≡ Some pairs → takes os pairs ≡ true → are_apart os ≡ true
      → (k : ℕ) (d : OptionRule) → k < length os → first_of (slice_index_or os k d).name (matches_of a words) ≡ value_of pairs (slice_index_or os k d)
  value_where_taken [] pairs some is taken apart k d lt = absurd (omega arith)
  value_where_taken (w ∷ ws) pairs some is taken apart k d lt =
      let f = pairs_form ws pairs is in
      ap₂ (λ (x : App) (y : List Text). first_of (slice_index_or os k d).name (matches_of x (w ∷ y))) made f.0 ∙ values_exactly name w os pairs f.1 taken apart k d lt

-- an error that isn't want of memory has one of the kinds
pub some_kind : (kinds : Kinds) (e : Error) → HasKind kinds e → (kind_of e ≡ kind.OutOfMemory → ⊥) → none kinds ≡ false
some_kind [] e (inl memory) other = absurd (other memory)
some_kind [] e (inr among) other = absurd among
some_kind (k ∷ ks) e has other = refl

-- ---- what the words ask for

-- words without a command or without pairs ask for nothing
pub nothing_asked : (words : List Text) → command_in words ≡ None → request_of words ≡ None
unfolding request_of
nothing_asked [] h = refl
nothing_asked (word ∷ words) h = go (command_named word) (pairs_of words) h
  where
    go : (named : Option CommandName) (pairs : Option (List Pair)) → cond (is_some pairs) named None ≡ None
        → (named >>= (λ name. pairs >>= asked_of_pairs name)) ≡ None
    go None pairs h = refl
    go (Some name) None h = refl
    go (Some name) (Some pairs) h = cc

-- others ask for what their pairs ask their command for
pub pairs_asked : (words : List Text) (name : CommandName) → command_in words ≡ Some name
    → (pairs : List Pair) × (0 < length words) × (pairs_of (drop 1 words) ≡ Some pairs) × (request_of words ≡ asked_of_pairs name pairs)
unfolding request_of
pairs_asked [] name h = cc
pairs_asked (word ∷ words) name h = go (command_named word) (pairs_of words) h
  where
    go : (named : Option CommandName) (o : Option (List Pair)) → cond (is_some o) named None ≡ Some name
        → (pairs : List Pair) × (0 < length (word ∷ words)) × (o ≡ Some pairs) × ((named >>= (λ name. o >>= asked_of_pairs name)) ≡ asked_of_pairs name pairs)
    go named None h = cc
    go named (Some pairs) h = (pairs, omega arith, refl, ap (λ (known : Option CommandName). known >>= (λ name. asked_of_pairs name pairs)) h)

-- what a driver is asked for rests on the values of its options, and of those of other drivers
same_driver : (name : DriverName) (f g : OptionName → Option Text)
    → f option.Garbler ≡ g option.Garbler → f option.Evaluator ≡ g option.Evaluator → f option.Seed ≡ g option.Seed
    → f option.Stream ≡ g option.Stream → f option.Labels ≡ g option.Labels
    → driver_of_values f name ≡ driver_of_values g name
unfolding plain_of_values garble_of_values eval_of_values
same_driver driver.Plain f g garbler evaluator seed stream labels = rw (garbler, evaluator, seed, stream, labels) refl
same_driver driver.Garble f g garbler evaluator seed stream labels = rw (garbler, evaluator, seed, stream, labels) refl
same_driver driver.Eval f g garbler evaluator seed stream labels = rw (garbler, evaluator, seed, stream, labels) refl

-- what `solo` is asked for, with its driver given as a function of the driver's name
abbrev solo_with : (source name : Option Text) → (DriverName → Option Driver) → Option Limits → Option SoloRequest
solo_with source name driver limits =
    source >>= (λ source. (name >>= driver_named) >>= (λ name. driver name >>= (λ driver. limits >>= (λ limits.
    Some (record { source = source; driver = driver; limits = limits })))))

-- what a command is asked for rests on the values of its options alone
same_asked : (name : CommandName) (f g : OptionName → Option Text)
    → All (λ option. f option ≡ g option) (command_rule name).options → asked_of name f ≡ asked_of name g
unfolding solo_of_values stats_of_values deal_of_values plan_of_values check_of_values upgrade_of_values gen_of_values limits_of
same_asked command.Solo f g same =
    let at = λ (k : ℕ) (lt : k < 11). same k option.Source lt in
    let drivers : driver_of_values f ≡ driver_of_values g =
    fun_ext (λ name. same_driver name f g (at 2 (omega arith)) (at 3 (omega arith)) (at 4 (omega arith)) (at 5 (omega arith)) (at 6 (omega arith))) in
    let limits : limits_of f ≡ limits_of g =
    rw (at 7 (omega arith), at 8 (omega arith), at 9 (omega arith), at 10 (omega arith)) refl in
    ap (option_map Solo)
    (ap₂ (λ source name. solo_with source name (driver_of_values f) (limits_of f)) (at 0 (omega arith)) (at 1 (omega arith))
    ∙ ap₂ (λ driver limits. solo_with (g option.Source) (g option.Driver) driver limits) drivers limits)
same_asked command.Stats f g same =
    let at = λ (k : ℕ) (lt : k < 5). same k option.Source lt in
    rw (at 0 (omega arith), at 1 (omega arith), at 2 (omega arith), at 3 (omega arith), at 4 (omega arith)) refl
same_asked command.Deal f g same =
    let at = λ (k : ℕ) (lt : k < 4). same k option.Source lt in
    rw (at 0 (omega arith), at 1 (omega arith), at 2 (omega arith), at 3 (omega arith)) refl
same_asked command.Plan f g same =
    let at = λ (k : ℕ) (lt : k < 6). same k option.Source lt in
    rw (at 0 (omega arith), at 1 (omega arith), at 2 (omega arith), at 3 (omega arith), at 4 (omega arith), at 5 (omega arith)) refl
same_asked command.Check f g same =
    let at = λ (k : ℕ) (lt : k < 2). same k option.Source lt in
    rw (at 0 (omega arith), at 1 (omega arith)) refl
same_asked command.Upgrade f g same =
    let at = λ (k : ℕ) (lt : k < 2). same k option.Source lt in
    rw (at 0 (omega arith), at 1 (omega arith)) refl
same_asked command.Gen f g same =
    let at = λ (k : ℕ) (lt : k < 9). same k option.Source lt in
    rw (at 0 (omega arith), at 1 (omega arith), at 2 (omega arith), at 3 (omega arith), at 4 (omega arith), at 5 (omega arith), at 6 (omega arith), at 7 (omega arith), at 8 (omega arith)) refl

-- what holds of each row of some options
each_option : (P : OptionRule → Type 0) (options : List OptionName) → All P (map rule_of options) → All (λ option. P (rule_of option)) options
each_option P options all k any lt = subst P (get_or-map rule_of options k any (rule_of any) lt) (all k (rule_of any) (omega (arith, length-map options rule_of, lt)))

-- what the values ask for is the answer
pub asked_is : {X : Type 0} (view : X → Request) (o : Option X) (asked : Option Request) → option_map view o ≡ asked → Reads view asked (ok_or o fault.Words)
asked_is view None asked is = sym is
asked_is view (Some x) asked is = sym is

-- and a refusal is one where they ask for nothing
pub refused_is : {X : Type 0} (view : X → Request) (f : WordsFault) (asked : Option Request) → (f ≡ fault.Words → asked ≡ None) → Reads view asked (Err f)
refused_is view fault.Words asked h = h refl
refused_is view fault.Memory asked h = tt

-- `rules` are the rows of the command's options
module _ (name : CommandName) (rules : List OptionRule) (own : rules ≡ rules_of name) (pairs : List Pair) where
  -- the matches of what a command takes ask for what the pairs do
  pub all_asked : (found : Found) → takes rules pairs ≡ true → All (λ rule. first_value found rule.name ≡ value_of pairs rule) rules
      → asked_of name (value_in found) ≡ asked_of_pairs name pairs
  all_asked found taken values =
      let P : OptionRule → Type 0 = λ rule. first_value found rule.name ≡ value_of pairs rule in
      let given : OptionName → Option Text = λ option. value_of pairs (rule_of option) in
      same_asked name (value_in found) given (each_option P (command_rule name).options (subst (λ (rs : List OptionRule). All P rs) own values))
      ∙ sym (ap (λ b. cond b (asked_of name given) None) (ap (λ rs. takes rs pairs) (sym own) ∙ taken))

  -- and others ask for nothing
  pub none_asked : takes rules pairs ≡ false → asked_of_pairs name pairs ≡ None
  none_asked refused = ap (λ b. cond b (asked_of name (λ option. value_of pairs (rule_of option))) None) (ap (λ rs. takes rs pairs) (sym own) ∙ refused)
