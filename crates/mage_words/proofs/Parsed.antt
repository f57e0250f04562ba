-- What clap makes of pairs of words: exactly where it takes them, and the value of each option.
use Rattle.std.proofs.Common.{◌≡◌, ◌∙◌, ◌<◌, ◌&&◌, ◌||◌, ℕ, Bool, cond, true, false, not, refl, sym, ap, ap₂, List, [], ◌∷◌, map, length, Option, Some, None, is_some}
use Rattle.std.specs.List.{fold, list_any, list_all, slice_index_or}
use Rattle.clap.specs.Kinds.{Kinds, check_kinds, or_else}
use Rattle.clap.specs.Faults.{built_fault, check_fault, defaults_fault, default_fault, entered_fault, fault_of, is_free_app, is_simple_and_free, level_fault, settle_fault, walk_fault}
use Rattle.clap.specs.Simple.{App, built, entered, filled, filled_from, is_ready, is_ready_leaf, is_simple, matches_of, names_of}
use Rattle.clap.specs.Takes.{is_given}
use Rattle.clap.specs.Walk.{Row, Rule, Text, Walk, finished, first_of, has_row, is_early_multiple, nothing_held, rows_after, settled, with_default}
use Rattle.mage_words.specs.Options.{OptionRule, Absence, Required, Optional, Default}
use Rattle.mage_words.specs.Words.{Pair, takes, is_there, is_required, given, value_of, are_distinct}
use Rattle.mage_words.specs.Clap.{clap_rule, clap_app, are_apart}
use Rattle.mage_words.proofs.Rows.{both, whole_rule, end_rows, first_of-end, is_given-end}
use Rattle.mage_words.proofs.Walked.{rules_of, shape}
use Rattle.mage_words.proofs.Faultless.{none, words_of, HaveForm, faultless_is, rows_are, passes, passes_is, start, end, are_options}

-- ---- the command as clap builds it

filled_is : (o : OptionRule) → filled (clap_rule o) ≡ whole_rule o
filled_is o = go o.absence
  where
    go : (a : Absence) → filled (clap_rule (record o { absence = a })) ≡ whole_rule (record o { absence = a })
    go Required = refl
    go Optional = refl
    go (Default text) = refl

all_filled : (i : ℕ) (os : List OptionRule) → filled_from i (map clap_rule os) ≡ rules_of os
all_filled i [] = refl
all_filled i (o ∷ os) = ap₂ (λ (r : Rule) (rs : List Rule). r ∷ rs) (filled_is o) (all_filled i os)

abbrev built_app : Text → List Rule → App
built_app command rules = record { top = shape command rules; subs = [] }

built_is : (command : Text) (os : List OptionRule) → built (clap_app command os) ≡ built_app command (rules_of os)
built_is command os = ap (built_app command) (all_filled 1 os)

-- ---- it is a simple one

rules_simple : (os : List OptionRule) → list_all (λ (a : Rule). a.is_simple) (map clap_rule os) ≡ true
rules_simple [] = refl
rules_simple (o ∷ os) = rules_simple os

whole_simple : (os : List OptionRule) → list_all (λ (a : Rule). a.is_simple) (rules_of os) ≡ true
whole_simple [] = refl
whole_simple (o ∷ os) = whole_simple os

whole_free : (os : List OptionRule) → list_all (λ (a : Rule). a.is_free) (rules_of os) ≡ true
whole_free [] = refl
whole_free (o ∷ os) = whole_free os

none_early : (n : ℕ) (os : List OptionRule) → list_any (is_early_multiple n) (rules_of os) ≡ false
none_early n [] = refl
none_early n (o ∷ os) = none_early n os

ready_app : (command : Text) (os : List OptionRule) → is_ready (shape command (rules_of os)) ≡ true
ready_app command os = ap₂ (λ a b. a && not b) (whole_simple os) (none_early _ os)

pub simple_app : (command : Text) (os : List OptionRule) → is_simple (clap_app command os) ≡ true
simple_app command os =
    ap₂ (λ a b. a && b) (ap (λ b. b && true) (rules_simple os))
    (ap (λ (a : App). is_ready a.top && list_all is_ready_leaf a.subs) (built_is command os) ∙ ap (λ b. b && true) (ready_app command os))

pub simple_and_free : (command : Text) (os : List OptionRule) → is_simple_and_free (clap_app command os) ≡ true
simple_and_free command os =
    ap₂ (λ a b. a && b) (simple_app command os) (ap is_free_app (built_is command os) ∙ ap (λ b. b && true) (whole_free os))

-- ---- after the walk

either_empty : (b : Bool) (k : Kinds) → cond (b || true) [] k ≡ []
either_empty true k = refl
either_empty false k = refl

both_empty : (b : Bool) → cond {A = Kinds} (b || false) [] [] ≡ []
both_empty true = refl
both_empty false = refl

no_default_fault : (rows : List Row) (o : OptionRule) → default_fault rows (whole_rule o) ≡ []
no_default_fault rows o = go o.absence
  where
    go : (a : Absence) → default_fault rows (whole_rule (record o { absence = a })) ≡ []
    go Required = either_empty (has_row o.name rows) _
    go Optional = either_empty (has_row o.name rows) _
    go (Default text) = both_empty (has_row o.name rows)

pub no_defaults_fault : (os : List OptionRule) (rows : List Row) → defaults_fault rows (rules_of os) ≡ []
unfolding defaults_fault
no_defaults_fault [] rows = refl
no_defaults_fault (o ∷ os) rows = ap (λ k. or_else k (defaults_fault (with_default rows (whole_rule o)) (rules_of os))) (no_default_fault rows o) ∙ no_defaults_fault os (with_default rows (whole_rule o))

-- whether a required option is missing, by the rows at the end and by the pairs
missing_is : (all : List OptionRule) (pairs : List Pair) (os : List OptionRule)
    → list_any (λ (a : Rule). a.required && not (is_given a.id (end_rows all pairs))) (rules_of os) ≡ not (list_all (is_there pairs) os)
missing_is all pairs [] = refl
missing_is all pairs (o ∷ os) =
    ap₂ (λ (b : Bool) (c : Bool). (is_required o.absence && not b) || c) (is_given-end all pairs o.name) (missing_is all pairs os)
    ∙ go (is_required o.absence) (is_some (given pairs o.name)) (list_all (is_there pairs) os)
  where
    go : (a b c : Bool) → ((a && not b) || not c) ≡ not ((not a || b) && c)
    go true true c = refl
    go true false c = refl
    go false b c = refl

abbrev missing_kinds : Bool → Kinds
missing_kinds b = check_kinds false false b

none_missing : (b : Bool) → none (missing_kinds (not b)) ≡ b
none_missing true = refl
none_missing false = refl

none_or_else : (a b : Kinds) → none (or_else a b) ≡ (none a && none b)
none_or_else [] b = refl
none_or_else (k ∷ ks) b = refl

-- ---- the whole parse

and_assoc : (a b c : Bool) → ((a && b) && c) ≡ (a && (b && c))
and_assoc true b c = refl
and_assoc false b c = refl

no_kinds : (k : Kinds) → none k ≡ true → k ≡ []
no_kinds [] h = refl
no_kinds (x ∷ xs) h = cc

no_subcommand : (command : Text) (rs : List Rule) (stop : Option (Text × List Text)) → entered (built_app command rs) stop ≡ None
no_subcommand command rs None = refl
no_subcommand command rs (Some p) = refl

no_subcommand_fault : (command : Text) (rs : List Rule) (stop : Option (Text × List Text)) → entered_fault (built_app command rs) stop ≡ []
no_subcommand_fault command rs None = refl
no_subcommand_fault command rs (Some p) = refl

-- the faults of a level, part by part
abbrev level : (walk settle defaults checks : Kinds) → Kinds
level walk settle defaults checks = or_else walk (or_else [] (or_else settle (or_else defaults checks)))

level_refused : (walk settle defaults checks : Kinds) → (none walk && none settle) ≡ false → none (level walk settle defaults checks) ≡ false
level_refused [] [] d c h = cc
level_refused [] (k ∷ ks) d c h = refl
level_refused (k ∷ ks) s d c h = refl

level_checked : (walk settle defaults checks : Kinds) → (none walk && none settle) ≡ true → defaults ≡ [] → level walk settle defaults checks ≡ checks
level_checked walk settle defaults checks h d =
    let parts = both (none walk) (none settle) h in
    rw (no_kinds walk parts.0, no_kinds settle parts.1, d) refl

module _ (command word : Text) (os : List OptionRule) (pairs : List Pair) (forms : HaveForm pairs) where
  abbrev rs : List Rule
  rs = rules_of os

  abbrev last : Walk
  last = end rs (start [] None) pairs

  end_is : passes os [] None pairs ≡ true → finished rs last.held ≡ end_rows os pairs
  end_is h = ap (λ rows. fold with_default rows rs) (rows_are command os [] None pairs tt forms h)

  abbrev walk_part : Kinds
  walk_part = walk_fault (shape command rs) [] (start [] None) (words_of pairs)

  abbrev settle_part : Kinds
  settle_part = settle_fault rs false last.held

  abbrev default_part : Kinds
  default_part = defaults_fault (settled rs last.held).rows rs

  abbrev check_part : List Row → Kinds
  check_part rows = check_fault (shape command rs) rows false

  fault_is_level : fault_of (clap_app command os) (word ∷ words_of pairs) ≡ level walk_part settle_part default_part (check_part (finished rs last.held))
  fault_is_level =
      ap (λ a. built_fault a nothing_held (words_of pairs)) (built_is command os)
      ∙ ap₂ (λ b k. level_fault (shape command rs) [] nothing_held (words_of pairs) b k) (ap is_some (no_subcommand command rs last.stopped)) (no_subcommand_fault command rs last.stopped)

  -- a parse finds no fault exactly where the command takes the pairs
  pub none_exactly : none (fault_of (clap_app command os) (word ∷ words_of pairs)) ≡ takes os pairs
  none_exactly =
      ap none fault_is_level ∙ go (passes os [] None pairs) refl
      ∙ ap (λ b. b && list_all (is_there pairs) os) (passes_is os pairs)
      ∙ and_assoc (are_options os pairs) (are_distinct pairs) (list_all (is_there pairs) os)
    where
      go : (b : Bool) → passes os [] None pairs ≡ b
          → none (level walk_part settle_part default_part (check_part (finished rs last.held))) ≡ (passes os [] None pairs && list_all (is_there pairs) os)
      go true e =
          ap none (level_checked walk_part settle_part default_part (check_part (finished rs last.held)) (faultless_is command os [] None pairs tt forms ∙ e) (no_defaults_fault os (settled rs last.held).rows))
          ∙ ap (λ rows. none (check_part rows)) (end_is e)
          ∙ ap (λ b. none (missing_kinds b)) (missing_is os pairs os)
          ∙ none_missing (list_all (is_there pairs) os)
          ∙ sym (ap (λ b. b && list_all (is_there pairs) os) e)
      go false e =
          level_refused walk_part settle_part default_part (check_part (finished rs last.held)) (faultless_is command os [] None pairs tt forms ∙ e)
          ∙ sym (ap (λ b. b && list_all (is_there pairs) os) e)

  -- and then each option has its value
  pub rows_exactly : takes os pairs ≡ true → matches_of (clap_app command os) (word ∷ words_of pairs) ≡ end_rows os pairs
  rows_exactly h =
      let parts = both (are_options os pairs && are_distinct pairs) (list_all (is_there pairs) os) (and_assoc (are_options os pairs) (are_distinct pairs) (list_all (is_there pairs) os) ∙ h) in
      ap (λ a. rows_after a.top.rules (names_of a) (words_of pairs)) (built_is command os)
      ∙ end_is (passes_is os pairs ∙ parts.0)

  pub values_exactly : takes os pairs ≡ true → are_apart os ≡ true → (k : ℕ) (d : OptionRule) → k < length os
      → first_of (slice_index_or os k d).name (matches_of (clap_app command os) (word ∷ words_of pairs)) ≡ value_of pairs (slice_index_or os k d)
  values_exactly h apart k d lt =
      ap (first_of (slice_index_or os k d).name) (rows_exactly h) ∙ first_of-end os pairs k d lt apart
