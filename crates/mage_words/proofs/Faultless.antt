-- Where clap's walk over pairs finds no fault, and what it holds at the end.
use Rattle.std.proofs.Common.{◌≡◌, ◌∙◌, ◌&&◌, ◌||◌, Bool, true, false, not, refl, sym, ap, ap₂, List, [], ◌∷◌, ◌++◌, map, Option, Some, None, append-nil, append_assoc}
use Rattle.std.specs.List.{fold, list_any, list_all}
use Rattle.std.specs.Str.{bytes_eq}
use Rattle.std.proofs.lemmas.List.Folds.{list_any-append}
use Rattle.clap.specs.Kinds.{Kinds, or_else}
use Rattle.clap.specs.Faults.{settle_fault, turn_fault, walk_fault}
use Rattle.clap.specs.Walk.{Rule, Text, Walk, settled_rows, walked}
use Rattle.clap.specs.declared.error.kind.ErrorKind.TheVariants as kind
use Rattle.mage_words.specs.Options.{OptionRule}
use Rattle.mage_words.specs.Words.{Pair, are_distinct, is_known}
use Rattle.mage_words.proofs.Rows.{row_of_pair, is_named, bytes_eq-sym, both, not_true}
use Rattle.mage_words.proofs.Walked.{HasForm, IsFound, rule_named, rules_of, is_option, found_option, no_option, between, held, pending_of, dashed, shape, first_walked, second_walked, first_fault, second_fault, unknown_fault, repeat_kinds, pair_fault, pair_used}

abbrev pub none : Kinds → Bool
none [] = true
none (k ∷ ks) = false

abbrev pub words_of : List Pair → List Text
words_of [] = []
words_of (p ∷ ps) = dashed p.name ∷ p.value ∷ words_of ps

abbrev pub HaveForm : List Pair → Type 0
HaveForm [] = Unit {0}
HaveForm (p ∷ ps) = HasForm p × HaveForm ps

-- ---- the pair that waits for its use

abbrev pub listed : Option Pair → List Pair
listed None = []
listed (Some p) = p ∷ []

abbrev pub is_repeat : List Pair → Option Pair → Bool
is_repeat done None = false
is_repeat done (Some p) = is_named p.name done

abbrev pub IsOption : List OptionRule → Option Pair → Type 0
IsOption os None = Unit {0}
IsOption os (Some p) = (o : OptionRule) × IsFound (rules_of os) p.name (rule_named p.name o)

last_fault : (os : List OptionRule) (done : List Pair) (last : Option Pair) → IsOption os last
    → settle_fault (rules_of os) false (held (map row_of_pair done) last) ≡ repeat_kinds (is_repeat done last)
last_fault os done None known = refl
last_fault os done (Some p) known = pair_fault (rules_of os) done p known.0 known.1

last_used : (os : List OptionRule) (done : List Pair) (last : Option Pair) → IsOption os last → is_repeat done last ≡ false
    → settled_rows (rules_of os) (pending_of last) (map row_of_pair done) ≡ map row_of_pair (done ++ listed last)
last_used os done None known new = ap (map row_of_pair) (sym (append-nil done))
last_used os done (Some p) known new = pair_used (rules_of os) done p known.0 known.1 new

-- ---- one pair after another

-- whether the walk over some pairs finds no fault, after those that are done and one that waits
abbrev pub passes : List OptionRule → List Pair → Option Pair → List Pair → Bool
passes os done last [] = not (is_repeat done last)
passes os done last (p ∷ ps) = not (is_repeat done last) && (is_option os p.name && passes os (done ++ listed last) (Some p) ps)

abbrev pub start : List Pair → Option Pair → Walk
start done last = between (map row_of_pair done) last

abbrev pub end : List Rule → Walk → List Pair → Walk
end rs w ps = fold (walked rs []) w (words_of ps)

two_words : (command : Text) (rs : List Rule) (w : Walk) (a b : Text) (rest : List Text)
    → walk_fault (shape command rs) [] w (a ∷ b ∷ rest) ≡ or_else (turn_fault (shape command rs) [] w a)
    (or_else (turn_fault (shape command rs) [] (walked rs [] w a) b) (walk_fault (shape command rs) [] (walked rs [] (walked rs [] w a) b) rest))
unfolding walk_fault
two_words command rs w a b rest = refl

no_words : (command : Text) (rs : List Rule) (w : Walk) → walk_fault (shape command rs) [] w [] ≡ []
unfolding walk_fault
no_words command rs w = refl

and_false : (a : Bool) → (a && false) ≡ false
and_false true = refl
and_false false = refl

module _ (command : Text) (os : List OptionRule) where
  abbrev pub faultless : Walk → List Pair → Bool
  faultless w ps = none (walk_fault (shape command (rules_of os)) [] w (words_of ps)) && none (settle_fault (rules_of os) false (end (rules_of os) w ps).held)

  module _ (done : List Pair) (last : Option Pair) (known : IsOption os last) (p : Pair) (ps : List Pair) (form : HasForm p) where
    -- the walk after the pair, where it names an option and the one before it isn't a repeat
    after : (o : OptionRule) → IsFound (rules_of os) p.name (rule_named p.name o) → is_repeat done last ≡ false
        → walked (rules_of os) [] (walked (rules_of os) [] (start done last) (dashed p.name)) p.value ≡ start (done ++ listed last) (Some p)
    after o found new =
        let rs = rules_of os in
        let rows = map row_of_pair done in
        ap (λ w. walked rs [] w p.value) (first_walked command rs rows last p form o found)
        ∙ second_walked command rs (settled_rows rs (pending_of last) rows) last p form o found
        ∙ ap (λ r. between r (Some p)) (last_used os done last known new)

    first_of_pair : (o : OptionRule) → IsFound (rules_of os) p.name (rule_named p.name o)
        → turn_fault (shape command (rules_of os)) [] (start done last) (dashed p.name) ≡ or_else (repeat_kinds (is_repeat done last)) []
    first_of_pair o found = first_fault command (rules_of os) (map row_of_pair done) last p form o found ∙ ap (λ k. or_else k []) (last_fault os done last known)

    second_of_pair : (o : OptionRule) → IsFound (rules_of os) p.name (rule_named p.name o)
        → turn_fault (shape command (rules_of os)) [] (walked (rules_of os) [] (start done last) (dashed p.name)) p.value ≡ []
    second_of_pair o found =
        let rs = rules_of os in
        let rows = map row_of_pair done in
        ap (λ w. turn_fault (shape command rs) [] w p.value) (first_walked command rs rows last p form o found)
        ∙ second_fault command rs (settled_rows rs (pending_of last) rows) last p form

    -- the faults behind the first word
    abbrev later : Kinds
    later =
        let rs = rules_of os in
        or_else (turn_fault (shape command rs) [] (walked rs [] (start done last) (dashed p.name)) p.value)
        (walk_fault (shape command rs) [] (walked rs [] (walked rs [] (start done last) (dashed p.name)) p.value) (words_of ps))

    abbrev settles : Walk → List Pair → Bool
    settles w rest = none (settle_fault (rules_of os) false (end (rules_of os) w rest).held)

    refused : (k : Kinds) → turn_fault (shape command (rules_of os)) [] (start done last) (dashed p.name) ≡ k → none k ≡ false → faultless (start done last) (p ∷ ps) ≡ false
    refused k is some =
        ap (λ f. none f && settles (start done last) (p ∷ ps)) (two_words command (rules_of os) (start done last) (dashed p.name) p.value (words_of ps) ∙ ap (λ x. or_else x later) is)
        ∙ go k later (settles (start done last) (p ∷ ps)) some
      where
        go : (k rest : Kinds) (b : Bool) → none k ≡ false → (none (or_else k rest) && b) ≡ false
        go [] rest b e = cc
        go (x ∷ xs) rest b e = refl

    goes_on : (o : OptionRule) → IsFound (rules_of os) p.name (rule_named p.name o) → is_repeat done last ≡ false
        → faultless (start done last) (p ∷ ps) ≡ faultless (start (done ++ listed last) (Some p)) ps
    goes_on o found new =
        let rs = rules_of os in
        let first : turn_fault (shape command rs) [] (start done last) (dashed p.name) ≡ [] = first_of_pair o found ∙ ap (λ b. or_else (repeat_kinds b) []) new in
        let behind = walk_fault (shape command rs) [] (walked rs [] (walked rs [] (start done last) (dashed p.name)) p.value) (words_of ps) in
        let walks = two_words command rs (start done last) (dashed p.name) p.value (words_of ps)
        ∙ ap₂ (λ x y. or_else x (or_else y behind)) first (second_of_pair o found) in
        ap (λ f. none f && settles (start done last) (p ∷ ps)) walks
        ∙ ap (λ w. none (walk_fault (shape command rs) [] w (words_of ps)) && settles w ps) (after o found new)

  pub faultless_is : (done : List Pair) (last : Option Pair) (ps : List Pair) → IsOption os last → HaveForm ps → faultless (start done last) ps ≡ passes os done last ps
  faultless_is done last [] known forms =
      ap (λ f. none f && none (settle_fault (rules_of os) false (held (map row_of_pair done) last))) (no_words command (rules_of os) (start done last))
      ∙ ap none (last_fault os done last known) ∙ go (is_repeat done last)
    where
      go : (b : Bool) → none (repeat_kinds b) ≡ not b
      go true = refl
      go false = refl
  faultless_is done last (p ∷ ps) known forms =
      by_name (λ found. faultless_is (done ++ listed last) (Some p) ps found forms.1) (is_option os p.name) refl
    where
      by_repeat : faultless (start (done ++ listed last) (Some p)) ps ≡ passes os (done ++ listed last) (Some p) ps
          → IsOption os (Some p) → (b : Bool) → is_repeat done last ≡ b
          → faultless (start done last) (p ∷ ps) ≡ (not b && passes os (done ++ listed last) (Some p) ps)
      by_repeat next found true e =
          refused done last known p ps forms.0 (kind.ArgumentConflict ∷ []) (first_of_pair done last known p ps forms.0 found.0 found.1 ∙ ap (λ b. or_else (repeat_kinds b) []) e) refl
      by_repeat next found false e = goes_on done last known p ps forms.0 found.0 found.1 e ∙ next

      by_name : (IsOption os (Some p) → faultless (start (done ++ listed last) (Some p)) ps ≡ passes os (done ++ listed last) (Some p) ps)
          → (b : Bool) → is_option os p.name ≡ b
          → faultless (start done last) (p ∷ ps) ≡ (not (is_repeat done last) && (b && passes os (done ++ listed last) (Some p) ps))
      by_name next true e = let found = found_option os p.name e in by_repeat (next found) found (is_repeat done last) refl
      by_name next false e =
          refused done last known p ps forms.0 (kind.UnknownArgument ∷ []) (unknown_fault command (rules_of os) (map row_of_pair done) last p forms.0 (no_option os p.name e)) refl
          ∙ sym (and_false (not (is_repeat done last)))

  -- the rows at the end, of a walk without a fault
  pub rows_are : (done : List Pair) (last : Option Pair) (ps : List Pair) → IsOption os last → HaveForm ps → passes os done last ps ≡ true
      → settled_rows (rules_of os) (end (rules_of os) (start done last) ps).held.pending (end (rules_of os) (start done last) ps).held.rows ≡ map row_of_pair ((done ++ listed last) ++ ps)
  rows_are done last [] known forms h = last_used os done last known (not_true _ h) ∙ ap (map row_of_pair) (sym (append-nil (done ++ listed last)))
  rows_are done last (p ∷ ps) known forms h =
      let parts = both (not (is_repeat done last)) _ h in
      let more = both (is_option os p.name) _ parts.1 in
      let found = found_option os p.name more.0 in
      let rs = rules_of os in
      ap (λ w. settled_rows rs (end rs w ps).held.pending (end rs w ps).held.rows) (after done last known p ps forms.0 found.0 found.1 (not_true _ parts.0))
      ∙ rows_are (done ++ listed last) (Some p) ps found forms.1 more.1
      ∙ ap (map row_of_pair) (append_assoc (done ++ listed last) (p ∷ []) ps)

-- ---- the same, without an order of work

abbrev fresh : List Pair → List Pair → Bool
fresh done [] = true
fresh done (p ∷ ps) = not (is_named p.name done) && fresh (done ++ p ∷ []) ps

abbrev pub are_options : List OptionRule → List Pair → Bool
are_options os ps = list_all (is_known os) ps

passes-fresh : (os : List OptionRule) (done : List Pair) (last : Option Pair) (ps : List Pair) → passes os done last ps ≡ (are_options os ps && fresh done (listed last ++ ps))
passes-fresh os done None [] = refl
passes-fresh os done (Some p) [] = go (is_named p.name done)
  where
    go : (b : Bool) → not b ≡ (not b && true)
    go true = refl
    go false = refl
passes-fresh os done None (p ∷ ps) =
    let e : done ++ listed None ≡ done = append-nil done in
    ap (λ d. is_option os p.name && passes os d (Some p) ps) e ∙ ap (λ b. is_option os p.name && b) (passes-fresh os done (Some p) ps)
    ∙ go (is_option os p.name) (are_options os ps) (fresh done (p ∷ ps))
  where
    go : (a b c : Bool) → (a && (b && c)) ≡ ((a && b) && c)
    go true b c = refl
    go false b c = refl
passes-fresh os done (Some l) (p ∷ ps) =
    ap (λ b. not (is_named l.name done) && (is_option os p.name && b)) (passes-fresh os (done ++ l ∷ []) (Some p) ps)
    ∙ go (not (is_named l.name done)) (is_option os p.name) (are_options os ps) (fresh (done ++ l ∷ []) (p ∷ ps))
  where
    go : (r a b c : Bool) → (r && (a && (b && c))) ≡ ((a && b) && (r && c))
    go true true b c = refl
    go true false b c = refl
    go false true true c = refl
    go false true false c = refl
    go false false b c = refl

-- no pair has a name of those that are done
abbrev apart : List Pair → List Pair → Bool
apart done ps = list_all (λ p. not (is_named p.name done)) ps

apart-more : (done : List Pair) (p : Pair) (ps : List Pair) → apart (done ++ p ∷ []) ps ≡ (apart done ps && not (list_any (λ q. bytes_eq q.name p.name) ps))
apart-more done p [] = refl
apart-more done p (q ∷ qs) =
    ap₂ (λ (b : Bool) (c : Bool). not b && c) (list_any-append (λ x. bytes_eq x.name q.name) done (p ∷ []) ∙ ap (λ b. is_named q.name done || (b || false)) (bytes_eq-sym p.name q.name)) (apart-more done p qs)
    ∙ go (is_named q.name done) (bytes_eq q.name p.name) (apart done qs) (list_any (λ x. bytes_eq x.name p.name) qs)
  where
    go : (a b c d : Bool) → (not (a || (b || false)) && (c && not d)) ≡ ((not a && c) && not (b || d))
    go true b c d = refl
    go false true true d = refl
    go false true false d = refl
    go false false c d = refl

fresh-apart : (done ps : List Pair) → fresh done ps ≡ (apart done ps && are_distinct ps)
fresh-apart done [] = refl
fresh-apart done (p ∷ ps) =
    ap (λ b. not (is_named p.name done) && b) (fresh-apart (done ++ p ∷ []) ps ∙ ap (λ b. b && are_distinct ps) (apart-more done p ps))
    ∙ go (not (is_named p.name done)) (apart done ps) (not (list_any (λ q. bytes_eq q.name p.name) ps)) (are_distinct ps)
  where
    go : (a b c d : Bool) → (a && ((b && c) && d)) ≡ ((a && b) && (c && d))
    go true true c d = refl
    go true false c d = refl
    go false b c d = refl

apart-nil : (ps : List Pair) → apart [] ps ≡ true
apart-nil [] = refl
apart-nil (p ∷ ps) = apart-nil ps

pub passes_is : (os : List OptionRule) (ps : List Pair) → passes os [] None ps ≡ (are_options os ps && are_distinct ps)
passes_is os ps = passes-fresh os [] None ps ∙ ap (λ b. are_options os ps && b) (fresh-apart [] ps ∙ ap (λ b. b && are_distinct ps) (apart-nil ps))
