-- What clap's walk makes of one pair of words.
use Rattle.std.proofs.Common.{◌≡◌, ◌∙◌, ◌<◌, ◌==◌, ◌&&◌, ◌||◌, ℕ, Bool, cond, true, false, refl, sym, ap, arith, List, [], ◌∷◌, ◌++◌, map, length, Option, Some, None, append-nil, take, get_or}
use Rattle.std.specs.List.{find, list_any, before_first}
use Rattle.std.specs.Option.{option_map}
use Rattle.std.specs.Str.{bytes_eq}
use Rattle.std.proofs.lemmas.List.{map-append, take_all}
use Rattle.std.proofs.lemmas.List.Folds.{list_any_at}
use Rattle.std.proofs.lemmas.List.Sums.{position_or_len_is}
use Rattle.clap.specs.Lexer.{long_of, short_of, has_byte}
use Rattle.clap.specs.Kinds.{Kinds, or_else}
use Rattle.clap.specs.Faults.{settle_fault, turn_fault}
use Rattle.clap.specs.Simple.{Shape, new_shape}
use Rattle.clap.specs.Walk.{Held, Row, Rule, Text, Walk, arg_by_id, arg_by_long, idle, option, settled_rows, walked}
use Rattle.clap.specs.declared.error.kind.ErrorKind.TheVariants as kind
use Rattle.clap.proofs.WalkLemmas.{find-map}
use Rattle.mage_words.specs.Options.{OptionRule}
use Rattle.mage_words.specs.Words.{Pair}
use Rattle.std.proofs.lemmas.Slice.Eq.{bytes_eq-Decides}
use Rattle.mage_words.proofs.Rows.{whole_rule, row_of_pair, is_named, has_row-pairs, at_row-new, bytes_eq-same}

-- ---- looking an option up

abbrev pub is_option : List OptionRule → Text → Bool
is_option os name = list_any (λ o. bytes_eq o.name name) os

abbrev pub rules_of : List OptionRule → List Rule
rules_of os = map whole_rule os

pub by_id : (os : List OptionRule) (name : Text) → arg_by_id (rules_of os) name ≡ option_map whole_rule (find (λ o. bytes_eq o.name name) os)
by_id os name = sym (find-map (λ (a : Rule). bytes_eq a.id name) whole_rule os)

pub by_long : (os : List OptionRule) (name : Text) → arg_by_long (rules_of os) name ≡ option_map whole_rule (find (λ o. bytes_eq o.name name) os)
by_long [] name = refl
by_long (o ∷ os) name = go (bytes_eq o.name name) (by_long os name)
  where
    go : (b : Bool) → arg_by_long (rules_of os) name ≡ option_map whole_rule (find (λ o. bytes_eq o.name name) os)
        → cond (b || false) (Some (whole_rule o)) (arg_by_long (rules_of os) name) ≡ option_map whole_rule (cond b (Some o) (find (λ o. bytes_eq o.name name) os))
    go true e = refl
    go false e = e

-- the rule of an option, by its name
abbrev pub rule_named : Text → OptionRule → Rule
rule_named name o = whole_rule (record o { name = name })

pub record IsFound (rs : List Rule) (name : Text) (a : Rule) : Type 0 where
  pub long : arg_by_long rs name ≡ Some a
  pub id : arg_by_id rs name ≡ Some a

pub found_option : (os : List OptionRule) (name : Text) → is_option os name ≡ true → (o : OptionRule) × IsFound (rules_of os) name (rule_named name o)
found_option os name h = let f = go os h in (f.0, record { long = by_long os name ∙ ap (option_map whole_rule) f.1; id = by_id os name ∙ ap (option_map whole_rule) f.1 })
  where
    go : (xs : List OptionRule) → is_option xs name ≡ true → (o : OptionRule) × (find (λ o. bytes_eq o.name name) xs ≡ Some (record o { name = name }))
    go [] h = cc
    go (x ∷ xs) h = here (bytes_eq x.name name) refl h (go xs)
      where
        here : (b : Bool) → bytes_eq x.name name ≡ b → (b || is_option xs name) ≡ true
            → (is_option xs name ≡ true → (o : OptionRule) × (find (λ o. bytes_eq o.name name) xs ≡ Some (record o { name = name })))
            → (o : OptionRule) × (cond b (Some x) (find (λ o. bytes_eq o.name name) xs) ≡ Some (record o { name = name }))
        here true e h next = (x, ap (λ n. Some (record x { name = n })) ((bytes_eq-Decides x.name name).0 e))
        here false e h next = next h

pub no_option : (os : List OptionRule) (name : Text) → is_option os name ≡ false → arg_by_long (rules_of os) name ≡ None
no_option os name h = by_long os name ∙ ap (option_map whole_rule) (go os h)
  where
    go : (xs : List OptionRule) → is_option xs name ≡ false → find (λ o. bytes_eq o.name name) xs ≡ None
    go [] h = refl
    go (x ∷ xs) h = here (bytes_eq x.name name) h (go xs)
      where
        here : (b : Bool) → (b || is_option xs name) ≡ false → (is_option xs name ≡ false → find (λ o. bytes_eq o.name name) xs ≡ None)
            → cond b (Some x) (find (λ o. bytes_eq o.name name) xs) ≡ None
        here true h next = cc
        here false h next = next h

-- ---- how the words look

-- the words of a pair are of the form
pub record HasForm (p : Pair) : Type 0 where
  pub dashed : bytes_eq (45 ∷ 45 ∷ p.name) (45 ∷ 45 ∷ []) ≡ false
  pub long : long_of (45 ∷ 45 ∷ p.name) ≡ Some (p.name, None)
  pub plain : bytes_eq p.value (45 ∷ 45 ∷ []) ≡ false
  pub not_long : long_of p.value ≡ None
  pub not_short : short_of p.value ≡ None

before-none : (text : Text) → has_byte 61 text ≡ false → before_first (λ x. x == 61) text ≡ text
before-none text h =
    ap (λ n. take n text) (position_or_len_is (λ x. x == 61) text (length text) 0 (omega arith) lacks (λ lt. absurd (omega arith)))
    ∙ take_all (length text) text (omega arith)
  where
    lacks : (k : ℕ) → k < length text → (get_or text k 0 == 61) ≡ false
    lacks k lt = go (get_or text k 0 == 61) refl
      where
        go : (b : Bool) → (get_or text k 0 == 61) ≡ b → (get_or text k 0 == 61) ≡ false
        go true e = let any = list_any_at (λ x. x == 61) text k 0 lt e in cc
        go false e = e

long_name : (x : ℕ) (xs : Text) → has_byte 61 (x ∷ xs) ≡ false → long_of (45 ∷ 45 ∷ x ∷ xs) ≡ Some (x ∷ xs, None)
long_name x xs h = rw (before-none (x ∷ xs) h, h) refl

pub has_form : (x y : ℕ) (xs ys : Text) → has_byte 61 (x ∷ xs) ≡ false → (y == 45) ≡ false → HasForm (record { name = x ∷ xs; value = y ∷ ys })
has_form x y xs ys h g = record {
  dashed = refl;
  long = long_name x xs h;
  plain = ap (λ b. b && bytes_eq ys (45 ∷ [])) g;
  not_long = rw g refl;
  not_short = rw g refl;
}

-- ---- the walk before a pair, between its words and behind it

abbrev pub pending_of : Option Pair → Option (Text × List Text)
pending_of = option_map (λ p. (p.name, p.value ∷ []))

abbrev pub held : List Row → Option Pair → Held
held rows last = record { rows = rows; pending = pending_of last; skip = 0 }

abbrev pub between : List Row → Option Pair → Walk
between rows last = record { held = held rows last; waiting = idle; position = 1; is_trailing = false; stopped = None }

abbrev pub inside : List Row → Text → Walk
inside rows name = record {
  held = record { rows = rows; pending = Some (name, []); skip = 0 };
  waiting = option name;
  position = 1;
  is_trailing = false;
  stopped = None;
}

abbrev pub dashed : Text → Text
dashed name = 45 ∷ 45 ∷ name

-- the command as it is built
abbrev pub shape : Text → List Rule → Shape
shape name rules = record (new_shape name) { rules = rules; disable_help_flag = true; disable_help_subcommand = true; is_built = true }

module _ (command : Text) (rs : List Rule) (rows : List Row) (last : Option Pair) (p : Pair) (form : HasForm p) where
  pub first_walked : (o : OptionRule) → IsFound rs p.name (rule_named p.name o)
      → walked rs [] (between rows last) (dashed p.name) ≡ inside (settled_rows rs (pending_of last) rows) p.name
  unfolding walked
  first_walked o found = rw (form.dashed, form.long, found.long) refl

  pub second_walked : (o : OptionRule) → IsFound rs p.name (rule_named p.name o)
      → walked rs [] (inside rows p.name) p.value ≡ between rows (Some p)
  unfolding walked
  second_walked o found = rw (form.plain, form.not_long, form.not_short, found.id, bytes_eq-same p.name) refl

  pub first_fault : (o : OptionRule) → IsFound rs p.name (rule_named p.name o)
      → turn_fault (shape command rs) [] (between rows last) (dashed p.name) ≡ or_else (settle_fault rs false (held rows last)) []
  first_fault o found = rw (form.dashed, form.long, found.long) refl

  pub unknown_fault : arg_by_long rs p.name ≡ None → turn_fault (shape command rs) [] (between rows last) (dashed p.name) ≡ kind.UnknownArgument ∷ []
  unknown_fault none = rw (form.dashed, form.long, none) refl

  pub second_fault : turn_fault (shape command rs) [] (inside rows p.name) p.value ≡ []
  second_fault = rw (form.plain, form.not_long, form.not_short) refl

-- ---- the use of a pair

abbrev pub repeat_kinds : Bool → Kinds
repeat_kinds true = kind.ArgumentConflict ∷ []
repeat_kinds false = []

module _ (rs : List Rule) (done : List Pair) (p : Pair) (o : OptionRule) (found : IsFound rs p.name (rule_named p.name o)) where
  pub pair_fault : settle_fault rs false (held (map row_of_pair done) (Some p)) ≡ repeat_kinds (is_named p.name done)
  pair_fault = rw (found.id, has_row-pairs p.name done) (go (is_named p.name done))
    where
      go : (b : Bool) → or_else (cond (b && true) (kind.ArgumentConflict ∷ []) []) [] ≡ repeat_kinds b
      go true = refl
      go false = refl

  pub pair_used : is_named p.name done ≡ false → settled_rows rs (pending_of (Some p)) (map row_of_pair done) ≡ map row_of_pair (done ++ p ∷ [])
  pair_used new =
      let none = has_row-pairs p.name done ∙ new in
      rw (found.id, at_row-new p.name (λ _. []) [] (map row_of_pair done) none, append-nil (map row_of_pair done), at_row-new p.name _ _ (map row_of_pair done) none) (sym (map-append row_of_pair done (p ∷ [])))
