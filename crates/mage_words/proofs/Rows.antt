-- The rows that clap makes of pairs and of defaults.
use Rattle.std.proofs.Common.{◌≡◌, ◌∙◌, ◌<◌, ◌&&◌, ◌||◌, ℕ, Bool, cond, true, false, not, zero, suc, refl, sym, ap, ap₂, arith, List, [], ◌∷◌, ◌++◌, map, length, Option, Some, None, is_some}
use Rattle.std.specs.List.{find, fold, list_any, slice_index_or}
use Rattle.std.specs.Option.{option_map, option_map_or, option_or}
use Rattle.std.specs.Bool.{one_answer}
use Rattle.std.specs.Prelude.{option_and_then, slice_get}
use Rattle.std.specs.Str.{bytes_eq}
use Rattle.std.proofs.lemmas.List.Folds.{find-append, list_any_at}
use Rattle.std.proofs.lemmas.Slice.Eq.{bytes_eq-Decides}
use Rattle.clap.specs.Facts.{explicit_source}
use Rattle.clap.specs.Values.{reading_of}
use Rattle.clap.specs.Walk.{Row, Rule, Text, at_row, first_of, default_rows, has_row, more_values, with_default}
use Rattle.clap.specs.Takes.{is_given}
use Rattle.clap.specs.declared.builder.action.ArgAction.TheVariants.{Set}
use Rattle.clap.specs.declared.builder.value_parser.ValueParser.TheVariants as parser
use Rattle.clap.specs.declared.parser.matches.ValueSource.{ValueSource}
use Rattle.clap.specs.declared.parser.matches.ValueSource.TheVariants.{CommandLine, DefaultValue}
use Rattle.clap.proofs.WalkLemmas.{find-map, list_any-map}
use Rattle.mage_words.specs.Options.{OptionRule, Absence, Required, Optional, Default}
use Rattle.mage_words.specs.Words.{Pair, given, default_of, value_of}
use Rattle.mage_words.specs.Clap.{clap_rule, defaults_of, are_apart}

-- an option's rule, as clap fills it in
abbrev pub whole_rule : OptionRule → Rule
whole_rule o = record (clap_rule o) {
  action = Some Set;
  parser = Some parser.String;
  range = Some (record { start_inclusive = 1; end_inclusive = 1 });
}

abbrev pub row_of : ValueSource → (id text : Text) → Row
row_of source id text = record {
  id = id;
  values = text ∷ [];
  count = None;
  source = Some source;
  reading = reading_of parser.String;
}

abbrev pub row_of_pair : Pair → Row
row_of_pair p = row_of CommandLine p.name p.value

abbrev pub is_named : Text → List Pair → Bool
is_named id pairs = list_any (λ p. bytes_eq p.name id) pairs

abbrev pub row_at : Text → List Row → Option Row
row_at id rows = find (λ r. bytes_eq r.id id) rows

-- ---- rows of pairs

pub has_row-pairs : (id : Text) (pairs : List Pair) → has_row id (map row_of_pair pairs) ≡ is_named id pairs
has_row-pairs id pairs = sym (list_any-map (λ (r : Row). bytes_eq r.id id) row_of_pair pairs)

pub at_row-new : (id : Text) (change : Row → List Row) (missing rows : List Row) → has_row id rows ≡ false → at_row id change missing rows ≡ rows ++ missing
at_row-new id change missing [] new = refl
at_row-new id change missing (r ∷ rs) new = go (bytes_eq r.id id) new (at_row-new id change missing rs)
  where
    go : (b : Bool) → (b || has_row id rs) ≡ false → (has_row id rs ≡ false → at_row id change missing rs ≡ rs ++ missing)
        → cond b (change r ++ rs) (r ∷ at_row id change missing rs) ≡ r ∷ (rs ++ missing)
    go true e next = cc
    go false e next = ap (λ rest. r ∷ rest) (next e)

pub row_at-pairs : (id : Text) (pairs : List Pair) → row_at id (map row_of_pair pairs) ≡ option_map row_of_pair (find (λ p. bytes_eq p.name id) pairs)
row_at-pairs id pairs = sym (find-map (λ (r : Row). bytes_eq r.id id) row_of_pair pairs)

-- ---- defaults

-- the row of an option's default, where the option has this name
abbrev pub default_if : Bool → OptionRule → Option Row
default_if true o = option_map (row_of DefaultValue o.name) (default_of o.absence)
default_if false o = None

abbrev pub default_row : OptionRule → Text → Option Row
default_row o id = default_if (bytes_eq o.name id) o

-- the row of the first option of this name that has a default
abbrev pub first_default : List OptionRule → Text → Option Row
first_default [] id = None
first_default (o ∷ os) id = option_or (default_row o id) (first_default os id)

or_none : {X : Type 0} (x : Option X) → option_or x None ≡ x
or_none None = refl
or_none (Some x) = refl

or_or : {X : Type 0} (x y z : Option X) → option_or (option_or x y) z ≡ option_or x (option_or y z)
or_or None y z = refl
or_or (Some x) y z = refl

found_row : (id : Text) (rows : List Row) → has_row id rows ≡ true → (r : Row) × (row_at id rows ≡ Some r)
found_row id [] h = cc
found_row id (r ∷ rs) h = go (bytes_eq r.id id) h (found_row id rs)
  where
    go : (b : Bool) → (b || has_row id rs) ≡ true → (has_row id rs ≡ true → (x : Row) × (row_at id rs ≡ Some x))
        → (x : Row) × (cond b (Some r) (row_at id rs) ≡ Some x)
    go true e next = (r, refl)
    go false e next = next e

module _ (rows : List Row) (o : OptionRule) (id : Text) where
  has_already : has_row o.name rows ≡ true → row_at id rows ≡ option_or (row_at id rows) (default_row o id)
  has_already h = go (bytes_eq o.name id) refl
    where
      go : (b : Bool) → bytes_eq o.name id ≡ b → row_at id rows ≡ option_or (row_at id rows) (default_if b o)
      go true e =
          let same : o.name ≡ id = (bytes_eq-Decides o.name id).0 e in
          let found = found_row id rows (ap (λ name. has_row name rows) (sym same) ∙ h) in
          rw found.1 refl
      go false e = sym (or_none (row_at id rows))

  no_default : default_of o.absence ≡ None → default_row o id ≡ None
  no_default h = go (bytes_eq o.name id)
    where
      go : (b : Bool) → default_if b o ≡ None
      go true = ap (option_map (row_of DefaultValue o.name)) h
      go false = refl

  nothing_added : default_of o.absence ≡ None → row_at id rows ≡ option_or (row_at id rows) (default_row o id)
  nothing_added h = sym (ap (option_or (row_at id rows)) (no_default h) ∙ or_none (row_at id rows))

  added : (change : Row → List Row) (text : Text) → o.absence ≡ Default text → has_row o.name rows ≡ false
      → row_at id (at_row o.name change (row_of DefaultValue o.name text ∷ []) rows) ≡ option_or (row_at id rows) (default_row o id)
  added change text is new =
      ap (row_at id) (at_row-new o.name change (row_of DefaultValue o.name text ∷ []) rows new)
      ∙ find-append (λ (r : Row). bytes_eq r.id id) rows (row_of DefaultValue o.name text ∷ [])
      ∙ ap (option_or (row_at id rows)) (go (bytes_eq o.name id))
    where
      go : (b : Bool) → cond b (Some (row_of DefaultValue o.name text)) None ≡ default_if b o
      go true = ap (λ a. option_map (row_of DefaultValue o.name) (default_of a)) (sym is)
      go false = refl

  after_default : row_at id (with_default rows (whole_rule o)) ≡ option_or (row_at id rows) (default_row o id)
  after_default = by_row (has_row o.name rows) refl
    where
      by_absence : has_row o.name rows ≡ false → (a : Absence) → o.absence ≡ a
          → row_at id (default_rows o.name (reading_of parser.String) (defaults_of a) rows) ≡ option_or (row_at id rows) (default_row o id)
      by_absence new Required is = nothing_added (ap default_of is)
      by_absence new Optional is = nothing_added (ap default_of is)
      by_absence new (Default text) is = added (more_values DefaultValue (text ∷ [])) text is new

      by_row : (b : Bool) → has_row o.name rows ≡ b
          → row_at id (cond b rows (default_rows o.name (reading_of parser.String) (defaults_of o.absence) rows)) ≡ option_or (row_at id rows) (default_row o id)
      by_row true e = has_already e
      by_row false e = by_absence e o.absence refl

-- the row of a name, once each option has had its default
pub row_at-defaults : (id : Text) (os : List OptionRule) (rows : List Row) → row_at id (fold with_default rows (map whole_rule os)) ≡ option_or (row_at id rows) (first_default os id)
row_at-defaults id [] rows = sym (or_none (row_at id rows))
row_at-defaults id (o ∷ os) rows =
    row_at-defaults id os (with_default rows (whole_rule o))
    ∙ ap (λ x. option_or x (first_default os id)) (after_default rows o id)
    ∙ or_or (row_at id rows) (default_row o id) (first_default os id)

no_first_default : (os : List OptionRule) (id : Text) → list_any (λ o. bytes_eq o.name id) os ≡ false → first_default os id ≡ None
no_first_default [] id h = refl
no_first_default (o ∷ os) id h = go (bytes_eq o.name id) h (no_first_default os id)
  where
    go : (b : Bool) → (b || list_any (λ o. bytes_eq o.name id) os) ≡ false → (list_any (λ o. bytes_eq o.name id) os ≡ false → first_default os id ≡ None)
        → option_or (default_if b o) (first_default os id) ≡ None
    go true e next = cc
    go false e next = next e

pub bytes_eq-sym : (a b : Text) → bytes_eq a b ≡ bytes_eq b a
bytes_eq-sym a b =
    let d = bytes_eq-Decides b a in
    one_answer (bytes_eq a b) (bytes_eq b a) (bytes_eq-Decides a b) ((λ e. sym (d.0 e)), (λ same. d.1 (sym same)))

pub bytes_eq-same : (a : Text) → bytes_eq a a ≡ true
bytes_eq-same a = (bytes_eq-Decides a a).1 refl

pub not_true : (b : Bool) → not b ≡ true → b ≡ false
not_true true e = cc
not_true false e = refl

pub both : (a b : Bool) → (a && b) ≡ true → (a ≡ true) × (b ≡ true)
both true b e = (refl, e)
both false b e = cc

-- where no two options have one name, the default of an option's name is its own
own_default : (os : List OptionRule) (k : ℕ) (d : OptionRule) → k < length os → are_apart os ≡ true
    → first_default os (slice_index_or os k d).name ≡ option_map (row_of DefaultValue (slice_index_or os k d).name) (default_of (slice_index_or os k d).absence)
own_default [] k d lt apart = absurd (omega arith)
own_default (o ∷ os) zero d lt apart =
    let alone = not_true _ (both _ _ apart).0 in
    ap₂ (λ (b : Bool) (rest : Option Row). option_or (default_if b o) rest) (bytes_eq-same o.name) (no_first_default os o.name alone)
    ∙ or_none (option_map (row_of DefaultValue o.name) (default_of o.absence))
own_default (o ∷ os) (suc k) d lt apart =
    let parts = both _ _ apart in
    let other = slice_index_or os k d in
    let differs : bytes_eq o.name other.name ≡ false = go (bytes_eq other.name o.name) refl (not_true _ parts.0) in
    ap (λ b. option_or (default_if b o) (first_default os other.name)) differs ∙ own_default os k d (omega arith) parts.1
  where
    go : (b : Bool) → bytes_eq (slice_index_or os k d).name o.name ≡ b → list_any (λ x. bytes_eq x.name o.name) os ≡ false
        → bytes_eq o.name (slice_index_or os k d).name ≡ false
    go true e none =
        let found = list_any_at (λ x. bytes_eq x.name o.name) os k d (omega arith) e in
        cc
    go false e none = bytes_eq-sym o.name (slice_index_or os k d).name ∙ e

-- ---- the rows at the end

abbrev pub end_rows : List OptionRule → List Pair → List Row
end_rows os pairs = fold with_default (map row_of_pair pairs) (map whole_rule os)

row_at-end : (os : List OptionRule) (pairs : List Pair) (id : Text) → row_at id (end_rows os pairs) ≡ option_or (option_map row_of_pair (find (λ p. bytes_eq p.name id) pairs)) (first_default os id)
row_at-end os pairs id = row_at-defaults id os (map row_of_pair pairs) ∙ ap (λ x. option_or x (first_default os id)) (row_at-pairs id pairs)

pub first_of-end : (os : List OptionRule) (pairs : List Pair) (k : ℕ) (d : OptionRule) → k < length os → are_apart os ≡ true
    → first_of (slice_index_or os k d).name (end_rows os pairs) ≡ value_of pairs (slice_index_or os k d)
first_of-end os pairs k d lt apart =
    let o = slice_index_or os k d in
    ap (option_and_then (λ (r : Row). slice_get r.values 0)) (row_at-end os pairs o.name ∙ ap (option_or (option_map row_of_pair (find (λ p. bytes_eq p.name o.name) pairs))) (own_default os k d lt apart))
    ∙ go (find (λ p. bytes_eq p.name o.name) pairs) (default_of o.absence)
  where
    go : (x : Option Pair) (y : Option Text)
        → option_and_then (λ (r : Row). slice_get r.values 0) (option_or (option_map row_of_pair x) (option_map (row_of DefaultValue (slice_index_or os k d).name) y))
        ≡ option_or (option_map (λ p. p.value) x) y
    go None None = refl
    go None (Some y) = refl
    go (Some x) y = refl

abbrev is_explicit : Option Row → Bool
is_explicit row = option_map_or (λ r. explicit_source r.source) row false

not_explicit : (os : List OptionRule) (id : Text) → is_explicit (first_default os id) ≡ false
not_explicit [] id = refl
not_explicit (o ∷ os) id = go (bytes_eq o.name id) (default_of o.absence) refl (not_explicit os id)
  where
    go : (b : Bool) (x : Option Text) → default_of o.absence ≡ x → is_explicit (first_default os id) ≡ false → is_explicit (option_or (default_if b o) (first_default os id)) ≡ false
    go false x is next = next
    go true None is next = ap (λ y. is_explicit (option_or (option_map (row_of DefaultValue o.name) y) (first_default os id))) is ∙ next
    go true (Some text) is next = ap (λ y. is_explicit (option_or (option_map (row_of DefaultValue o.name) y) (first_default os id))) is

pub is_given-end : (os : List OptionRule) (pairs : List Pair) (id : Text) → is_given id (end_rows os pairs) ≡ is_some (given pairs id)
is_given-end os pairs id = ap is_explicit (row_at-end os pairs id) ∙ go (find (λ p. bytes_eq p.name id) pairs)
  where
    go : (x : Option Pair) → is_explicit (option_or (option_map row_of_pair x) (first_default os id)) ≡ is_some (option_map (λ p. p.value) x)
    go None = not_explicit os id
    go (Some x) = refl
