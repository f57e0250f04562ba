-- What `gen` wrote is found by its names.
use Rattle.std.proofs.Common.{◌≡◌, ◌≢◌, ◌≤◌, ◌+◌, ◌++◌, ℕ, List, [], ◌∷◌, length, nat_lt, Bool, true, false, cond, Option, Some, refl, ap, ap₂, subst, ◌∙◌, arith, length-append}
use Rattle.std.specs.Prelude.{codes}
use Rattle.std.specs.List.{concat}
use Rattle.std.proofs.lemmas.Bool.{ltb-true}
use Rattle.mage_base.specs.Desk.{Files, with_file}
use Rattle.mage_gen.specs.Generator.{IsOrder}
use Rattle.mage_gen.proofs.OrderTexts.{source_is_short, garbler_is_short, evaluator_is_short}
use Rattle.mage_lex.specs.Limits.{MOST_BYTES}
use Rattle.mage_words.specs.Words.{Solo, Stats, GenRequest, GenIsInRange}
use Rattle.mage_planner.specs.Outcome.{order_of, source_file, garbler_file, evaluator_file, found_for_gen, solo_for, stats_for}
use Rattle.mage_planner.specs.Found.{File, Long, Held, INPUT_LIMIT, file_of, nothing_found, found_in}
use Rattle.mage_planner.specs.Finding.{GeneratedFilesAreFound}
use Rattle.mage_planner.proofs.WritingLemmas.{names_it, off}

-- names with endings of other lengths differ
name_long : (stem ending : List ℕ) → length (concat (stem ∷ ending ∷ [])) ≡ length stem + length ending
name_long stem ending =
    let behind = length-append ending [] in
    let whole = length-append stem (ending ++ []) in
    omega (arith, whole, behind)

differ : (stem first second : List ℕ) (m n : ℕ) → length first ≡ m → length second ≡ n → m ≢ n → concat (stem ∷ first ∷ []) ≢ concat (stem ∷ second ∷ [])
differ stem first second m n is is_too other same =
    let one = name_long stem first in
    let two = name_long stem second in
    let both = ap (λ (name : List ℕ). length name) same in
    other (omega (arith, one, two, both, is, is_too))

-- a file that isn't too long
held : (limit : ℕ) (bytes : List ℕ) → length bytes ≤ limit → file_of limit (Some bytes) ≡ Held bytes
held limit bytes short = go (nat_lt limit (length bytes)) refl where
  go : (b : Bool) → nat_lt limit (length bytes) ≡ b → cond b Long (Held bytes) ≡ Held bytes
  go true long = let more = ltb-true limit (length bytes) long in absurd (omega (arith, more, short))
  go false short = refl

some_is : (x y : Files) → ◌≡◌ {A = Option Files} (Some x) (Some y) → x ≡ y
some_is x y e = cc

order_is : (gen : GenRequest) → GenIsInRange gen → IsOrder (order_of gen)
order_is gen range = record {
  items = (range.some_item, range.items);
  rows = (range.some_row, range.rows);
  workers = (range.some_worker, range.workers);
  number = let most = range.number in omega (arith, most);
}

module _ (files : Files) (gen : GenRequest) (range : GenIsInRange gen) where
  abbrev with_source : Files
  with_source = with_file files (source_file gen).name (source_file gen).bytes

  abbrev with_garbler : Files
  with_garbler = with_file with_source (garbler_file gen).name (garbler_file gen).bytes

  abbrev with_all : Files
  with_all = with_file with_garbler (evaluator_file gen).name (evaluator_file gen).bytes

  source_there : with_all (source_file gen).name ≡ Some (source_file gen).bytes
  source_there =
      off with_garbler (evaluator_file gen).name (evaluator_file gen).bytes (source_file gen).name (differ gen.out (codes ".evaluator") (codes ".mage") 10 5 refl refl (λ e. cc))
      ∙ off with_source (garbler_file gen).name (garbler_file gen).bytes (source_file gen).name (differ gen.out (codes ".garbler") (codes ".mage") 8 5 refl refl (λ e. cc))
      ∙ names_it files (source_file gen).name (source_file gen).bytes

  garbler_there : with_all (garbler_file gen).name ≡ Some (garbler_file gen).bytes
  garbler_there =
      off with_garbler (evaluator_file gen).name (evaluator_file gen).bytes (garbler_file gen).name (differ gen.out (codes ".evaluator") (codes ".garbler") 10 8 refl refl (λ e. cc))
      ∙ names_it with_source (garbler_file gen).name (garbler_file gen).bytes

  source_found : file_of MOST_BYTES (with_all (source_file gen).name) ≡ Held (source_file gen).bytes
  source_found =
      let short = source_is_short (order_of gen) (order_is gen range) in
      ap (file_of MOST_BYTES) source_there ∙ held MOST_BYTES (source_file gen).bytes (omega (arith, short))

  garbler_found : file_of INPUT_LIMIT (with_all (garbler_file gen).name) ≡ Held (garbler_file gen).bytes
  garbler_found = ap (file_of INPUT_LIMIT) garbler_there ∙ held INPUT_LIMIT (garbler_file gen).bytes (garbler_is_short (order_of gen))

  evaluator_found : file_of INPUT_LIMIT (with_all (evaluator_file gen).name) ≡ Held (evaluator_file gen).bytes
  evaluator_found =
      ap (file_of INPUT_LIMIT) (names_it with_garbler (evaluator_file gen).name (evaluator_file gen).bytes)
      ∙ held INPUT_LIMIT (evaluator_file gen).bytes (evaluator_is_short (order_of gen))

  all_found : record nothing_found {
    source = file_of MOST_BYTES (with_all (source_file gen).name);
    garbler = file_of INPUT_LIMIT (with_all (garbler_file gen).name);
    evaluator = file_of INPUT_LIMIT (with_all (evaluator_file gen).name);
  } ≡ found_for_gen gen
  all_found =
      ap (λ (source : File). record nothing_found {
        source = source;
        garbler = file_of INPUT_LIMIT (with_all (garbler_file gen).name);
        evaluator = file_of INPUT_LIMIT (with_all (evaluator_file gen).name);
      }) source_found
      ∙ ap₂ (λ (garbler evaluator : File). record nothing_found { source = Held (source_file gen).bytes; garbler = garbler; evaluator = evaluator }) garbler_found evaluator_found

pub generated_files_are_found : GeneratedFilesAreFound
generated_files_are_found files after gen range is =
    subst (λ (f : Files). (found_in f (Solo (solo_for gen)) ≡ found_for_gen gen) × ((found_in f (Stats (stats_for gen))).source ≡ (found_for_gen gen).source))
    (some_is _ after is) (all_found files gen range, source_found files gen range)
