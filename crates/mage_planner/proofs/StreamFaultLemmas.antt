-- What is wrong with streams rests on what they have left alone, and so on the files that are read.
use Rattle.std.proofs.Common.{◌≡◌, ◌<◌, ◌≤◌, ◌+◌, ◌∷◌, ◌++◌, ℕ, zero, suc, List, [], length, map, slice_get, unwrap_or, IsTrue, is_some, Option, Some, None, IfSome, refl, sym, ap, ap₂, subst, ◌∙◌, min, arith}
use Rattle.std.proofs.Math.Path.{fun_ext}
use Rattle.std.specs.Prelude.{IsSomeAnd}
use Rattle.mage_base.specs.Desk.{DeskTold, Files, HandsSource}
use Rattle.mage_base.specs.Faults.{top}
use Rattle.mage_base.specs.Source.{SourceTold}
use Rattle.mage_driver.specs.Calls.{Call}
use Rattle.mage_eval.specs.Lawful.{evaluating_is_lawful}
use Rattle.mage_eval.specs.Rule.{Evaluating, eval_rules}
use Rattle.mage_instr.specs.declared.instr.Program.{Program}
use Rattle.mage_instr.specs.declared.party.Party.{Party}
use Rattle.mage_label.specs.declared.labels.Label.{Label}
use Rattle.mage_label.specs.Labels.{xor}
use Rattle.mage_lending.specs.Names.{worker_file, worker_files}
use Rattle.mage_lending.specs.Sources.{AreSources, NoneHaveFailed, with_source_faults}
use Rattle.mage_linked.specs.Emission.{emission_of}
use Rattle.mage_linked.specs.Workers.{list_at, below}
use Rattle.mage_relations.specs.Each.{Each}
use Rattle.mage_relations.specs.Unplaced.{Unplaced, calls_of, starting_in}
use Rattle.mage_relations.proofs.Keeping.{KeepsCalls}
use Rattle.mage_relations.proofs.Runs.{Related, keeps_run}
use Rattle.mage_solo.specs.Evaluating.{AllSteady, AllTellLeft, Drawn, NoneFailed, decoded_by, evaluators_of, rooms_of, source_at, stream_at, stream_fault}
use Rattle.mage_streams.specs.Evaluating.{label_of_and}
use Rattle.mage_streams.specs.Streams.{decoded_outputs, new_evaluator}
use Rattle.mage_planner.specs.Evaluated.{source_with}
use Rattle.mage_planner.specs.Outcome.{bytes_held, streams_held}
use Rattle.mage_planner.specs.Found.{File, Held, whole_file}

-- ---- two runs of evaluators that differ in the steadiness of their sources

-- the same but for that
abbrev Differ : Evaluating → Evaluating → Evaluating → List (Call Evaluating Label) → Type 0
Differ r s t rest = t ≡ record s { steady = t.steady }

abbrev Same : Label → Label → Label → Type 0
Same a b c = c ≡ b

each_same : (rs bs : List Label) → length rs ≡ length bs → Each Same rs bs bs
each_same [] [] long = tt
each_same [] (b ∷ bs) long = absurd (omega (arith, long))
each_same (a ∷ rs) [] long = absurd (omega (arith, long))
each_same (a ∷ rs) (b ∷ bs) long = (refl, each_same rs bs (omega (arith, long)))

same_each : (rs bs cs : List Label) → Each Same rs bs cs → cs ≡ bs
same_each [] [] [] e = refl
same_each [] [] (c ∷ cs) e = absurd e
same_each [] (b ∷ bs) [] e = absurd e
same_each [] (b ∷ bs) (c ∷ cs) e = absurd e
same_each (a ∷ rs) [] [] e = absurd e
same_each (a ∷ rs) [] (c ∷ cs) e = absurd e
same_each (a ∷ rs) (b ∷ bs) [] e = absurd e
same_each (a ∷ rs) (b ∷ bs) (c ∷ cs) e = ap₂ (λ (x : Label) (xs : List Label). x ∷ xs) e.0 (same_each rs bs cs e.1)

ands : (s t : Evaluating) (x y x' y' : Label) → t ≡ record s { steady = t.steady } → x' ≡ x → y' ≡ y
    → ((eval_rules.and t x' y').0 ≡ record ((eval_rules.and s x y).0) { steady = (eval_rules.and t x' y').0.steady })
    × ((eval_rules.and t x' y').1 ≡ (eval_rules.and s x y).1)
ands s t x y x' y' same at at' =
    subst (λ (e : Evaluating). ((eval_rules.and e x' y').0 ≡ record ((eval_rules.and s x y).0) { steady = (eval_rules.and e x' y').0.steady })
    × ((eval_rules.and e x' y').1 ≡ (eval_rules.and s x y).1)) (sym same)
    (refl, ap₂ (label_of_and s.evaluator) at at')

inputs : (r s t : Evaluating) (whose : Party) (count : ℕ) → t ≡ record s { steady = t.steady }
    → ((eval_rules.input t whose count).0 ≡ record ((eval_rules.input s whose count).0) { steady = (eval_rules.input t whose count).0.steady })
    × Each Same ((eval_rules.input r whose count).1) ((eval_rules.input s whose count).1) ((eval_rules.input t whose count).1)
inputs r s t whose count same =
    subst (λ (e : Evaluating). ((eval_rules.input e whose count).0 ≡ record ((eval_rules.input s whose count).0) { steady = (eval_rules.input e whose count).0.steady })
    × Each Same ((eval_rules.input r whose count).1) ((eval_rules.input s whose count).1) ((eval_rules.input e whose count).1)) (sym same) (
      both whose,
      each_same ((eval_rules.input r whose count).1) ((eval_rules.input s whose count).1)
          (evaluating_is_lawful.inputs r whose count ∙ sym (evaluating_is_lawful.inputs s whose count)),
    )
  where
    both : (p : Party) → (eval_rules.input (record s { steady = t.steady }) p count).0 ≡ record ((eval_rules.input s p count).0) { steady = t.steady }
    both p = refl

outputs : (s t : Evaluating) (xs ys : List Label) → t ≡ record s { steady = t.steady } → ys ≡ xs
    → eval_rules.output t ys ≡ record (eval_rules.output s xs) { steady = (eval_rules.output t ys).steady }
outputs s t xs ys same equal =
    subst (λ (zs : List Label). eval_rules.output t zs ≡ record (eval_rules.output s xs) { steady = (eval_rules.output t zs).steady }) (sym equal)
    (subst (λ (e : Evaluating). eval_rules.output e xs ≡ record (eval_rules.output s xs) { steady = (eval_rules.output e xs).steady }) (sym same) refl)

keeps : KeepsCalls eval_rules eval_rules eval_rules Differ Same
keeps = record {
  constant = λ r s t rest bit h. refl;
  xor = λ a a' b b' c c' at at'. ap₂ xor at at';
  not = λ r s t rest a b c h at. at;
  and = λ r s t rest a a' b b' c c' h at at'. ands s t b b' c c' h at at';
  input = λ r s t rest whose count h. inputs r s t whose count h;
  output = λ r s t rest xs ys zs h each. outputs s t ys zs h (same_each xs ys zs each);
}

module _ (program : Program) (labels : List (List Label)) (sources others : List SourceTold) (same : (w : ℕ) → stream_at sources w ≡ stream_at others w) where
  -- what is wrong with the stream of a worker is the same
  pub fault_same : (worker : ℕ) → stream_fault program labels sources worker ≡ stream_fault program labels others worker
  fault_same worker =
      let s : Unplaced Evaluating Label = starting_in (evaluators_of program labels others) in
      let t : Unplaced Evaluating Label = starting_in (evaluators_of program labels sources) in
      let related : Related eval_rules eval_rules eval_rules (λ w. Differ) Same (λ w. keeps) s s t (λ w. calls_of eval_rules w s (emission_of program) ++ []) = record {
        states = λ w. begun w;
        values = λ w. tt;
        sent = λ v w. tt;
      } in
      let end = (keeps_run eval_rules eval_rules eval_rules (λ w. Differ) Same (λ w. keeps) (emission_of program) s s t (λ w. []) related).states worker in
      ap (λ (e : Evaluating). (eval_rules.finish e).wrong) end
    where
      begun : (w : ℕ) → evaluators_of program labels sources w ≡ record (evaluators_of program labels others w) { steady = (evaluators_of program labels sources w).steady }
      begun w =
          ap (λ (left : List ℕ). record {
            evaluator = new_evaluator w (list_at labels w) left;
            at = 0;
            steady = (source_at sources w).steady;
            room = rooms_of program w;
            wrong = None;
          }) (same w)

  -- and so is what is decoded
  pub decoded_same : (count : ℕ) → decoded_by program labels sources count ≡ decoded_by program labels others count
  decoded_same count = ap (λ (streams : ℕ → List ℕ). map (decoded_outputs program (list_at labels) streams) (below count)) (fun_ext same)

-- ---- the sources of files

pub sources_count : (desk : DeskTold) (stem : List ℕ) (first count : ℕ) (sources : List SourceTold) → AreSources desk (worker_files stem first count) sources → length sources ≡ count
sources_count desk stem first zero [] are = refl
sources_count desk stem first zero (s ∷ sources) are = absurd are
sources_count desk stem first (suc count) [] are = absurd are
sources_count desk stem first (suc count) (s ∷ sources) are = ap suc (sources_count desk stem (first + 1) count sources are.1)

-- Below, the desk tells its files, and the streams are those of its files.
module _ (desk : DeskTold) (told : Files) (files : desk.files ≡ Some told) (stem : List ℕ) (streams : ℕ → File) (own : (w : ℕ) → streams w ≡ whole_file (told (worker_file stem w))) where
  -- the file of a source that was handed out
  record Opened (source : SourceTold) (file : File) : Type 0 where
    bytes : List ℕ
    left : source.left ≡ Some bytes
    held : file ≡ Held bytes

  opened : (w : ℕ) (source : SourceTold) → HandsSource desk (worker_file stem w) source → Opened source (streams w)
  opened w source hands =
      go (told (worker_file stem w)) refl (subst (λ (f : Option Files). IfSome f (λ fs. IsSomeAnd (fs (worker_file stem w)) (λ bytes. source.left ≡ Some bytes))) files hands.bytes)
    where
      go : (file : Option (List ℕ)) → told (worker_file stem w) ≡ file → IsSomeAnd file (λ bytes. source.left ≡ Some bytes) → Opened source (streams w)
      go None is has = absurd has
      go (Some bytes) is has = record { bytes = bytes; left = has; held = own w ∙ ap whole_file is }

  -- each stream is there
  pub are_held : (first count : ℕ) (sources : List SourceTold) → AreSources desk (worker_files stem first count) sources → (w : ℕ) → w < count
      → (bytes : List ℕ) × (streams (first + w) ≡ Held bytes)
  are_held first zero sources are w inside = absurd (omega (arith, inside))
  are_held first (suc count) [] are w inside = absurd are
  are_held first (suc count) (s ∷ sources) are zero inside =
      let at : first ≡ first + 0 = omega arith in
      let one = opened first s are.0 in
      (one.bytes, subst (λ (n : ℕ). streams n ≡ Held one.bytes) at one.held)
  are_held first (suc count) (s ∷ sources) are (suc w) inside =
      let at : first + 1 + w ≡ first + suc w = omega arith in
      let rest = are_held (first + 1) count sources are.1 w (omega (arith, inside)) in
      (rest.0, subst (λ (n : ℕ). streams n ≡ Held rest.0) at rest.1)

  -- each source tells what it has left
  pub all_tell : (first count : ℕ) (sources : List SourceTold) → AreSources desk (worker_files stem first count) sources → AllTellLeft sources
  all_tell first zero [] are zero = tt
  all_tell first zero [] are (suc w) = tt
  all_tell first zero (s ∷ sources) are w = absurd are
  all_tell first (suc count) [] are w = absurd are
  all_tell first (suc count) (s ∷ sources) are zero = let one = opened first s are.0 in ap (λ (left : Option (List ℕ)). is_some left) one.left
  all_tell first (suc count) (s ∷ sources) are (suc w) = all_tell (first + 1) count sources are.1 w

  -- and has the bytes of the file
  pub streams_same : (first count : ℕ) (sources : List SourceTold) → AreSources desk (worker_files stem first count) sources → (w : ℕ)
      → stream_at sources w ≡ stream_at (map source_with (streams_held streams first count)) w
  streams_same first zero [] are w = refl
  streams_same first zero (s ∷ sources) are w = absurd are
  streams_same first (suc count) [] are w = absurd are
  streams_same first (suc count) (s ∷ sources) are zero =
      let one = opened first s are.0 in
      ap (λ (left : Option (List ℕ)). unwrap_or left []) one.left ∙ sym (ap (λ (file : File). bytes_held file) one.held)
  streams_same first (suc count) (s ∷ sources) are (suc w) = streams_same (first + 1) count sources are.1 w

-- each source is steady
pub all_steady : (desk : DeskTold) (stem : List ℕ) (first count : ℕ) (sources : List SourceTold) → AreSources desk (worker_files stem first count) sources → IsTrue desk.steady → AllSteady sources
all_steady desk stem first zero [] are calm zero = tt
all_steady desk stem first zero [] are calm (suc w) = tt
all_steady desk stem first zero (s ∷ sources) are calm w = absurd are
all_steady desk stem first (suc count) [] are calm w = absurd are
all_steady desk stem first (suc count) (s ∷ sources) are calm zero = are.0.steady calm
all_steady desk stem first (suc count) (s ∷ sources) are calm (suc w) = all_steady desk stem (first + 1) count sources are.1 calm w

-- no source had a fault
pub fresh_at : (desk : DeskTold) (stem : List ℕ) (first count : ℕ) (sources : List SourceTold) → AreSources desk (worker_files stem first count) sources → (w : ℕ) (source : SourceTold)
    → slice_get sources w ≡ Some source → source.faults ≡ 0
fresh_at desk stem first zero [] are zero source is = absurd (cc)
fresh_at desk stem first zero [] are (suc w) source is = absurd (cc)
fresh_at desk stem first zero (s ∷ sources) are w source is = absurd are
fresh_at desk stem first (suc count) [] are w source is = absurd are
fresh_at desk stem first (suc count) (s ∷ sources) are zero source is = let same : s ≡ source = cc in ap (λ (x : SourceTold). x.faults) (sym same) ∙ are.0.no_fault
fresh_at desk stem first (suc count) (s ∷ sources) are (suc w) source is = fresh_at desk stem (first + 1) count sources are.1 w source is

-- the worker behind the first one
abbrev behind : {old new : SourceTold} {before after : List SourceTold} (w : ℕ) → Drawn before after w → Drawn (old ∷ before) (new ∷ after) (suc w)
behind w source = record { old = source.old; new = source.new; old_so = source.old_so; new_so = source.new_so }

-- nor has it one where none failed
pub none_have : (desk : DeskTold) (stem : List ℕ) (first count : ℕ) (before after : List SourceTold) → AreSources desk (worker_files stem first count) before → length after ≡ length before
    → NoneFailed before after → NoneHaveFailed after
none_have desk stem first count before [] are long none = tt
none_have desk stem first zero [] (new ∷ after) are long none = absurd (omega (arith, long))
none_have desk stem first zero (old ∷ before) (new ∷ after) are long none = absurd are
none_have desk stem first (suc count) [] (new ∷ after) are long none = absurd are
none_have desk stem first (suc count) (old ∷ before) (new ∷ after) are long none = (
  none 0 (record { old = old; new = new; old_so = refl; new_so = refl }) ∙ are.0.no_fault,
  none_have desk stem (first + 1) count before after are.1 (omega (arith, long)) (λ w source. none (suc w) (behind w source)),
)

-- ---- counts of faults

keeps_count : (t b : ℕ) (sources : List SourceTold) → t ≡ top → min b t ≤ with_source_faults b sources
keeps_count t b [] is = omega arith
keeps_count t b (source ∷ sources) is =
    let rest = keeps_count t (min (b + source.faults) t) sources is in
    let same : with_source_faults (min (b + source.faults) t) sources ≡ with_source_faults b (source ∷ sources) = ap (λ (u : ℕ). with_source_faults (min (b + source.faults) u) sources) is in
    omega (arith, rest, same)

raised : (t b : ℕ) (sources : List SourceTold) (w : ℕ) (source : SourceTold) → t ≡ top → slice_get sources w ≡ Some source → 1 ≤ source.faults → min (b + 1) t ≤ with_source_faults b sources
raised t b [] zero source is e failed = absurd (cc)
raised t b [] (suc w) source is e failed = absurd (cc)
raised t b (s ∷ sources) zero source is e failed =
    let own : s ≡ source = cc in
    let faults = ap (λ (x : SourceTold). x.faults) own in
    let rest = keeps_count t (min (b + s.faults) t) sources is in
    let same : with_source_faults (min (b + s.faults) t) sources ≡ with_source_faults b (s ∷ sources) = ap (λ (u : ℕ). with_source_faults (min (b + s.faults) u) sources) is in
    omega (arith, rest, same, faults, failed)
raised t b (s ∷ sources) (suc w) source is e failed =
    let rest = raised t (min (b + s.faults) t) sources w source is e failed in
    let same : with_source_faults (min (b + s.faults) t) sources ≡ with_source_faults b (s ∷ sources) = ap (λ (u : ℕ). with_source_faults (min (b + s.faults) u) sources) is in
    omega (arith, rest, same)

-- a source that failed raises the count
pub sources_raise : (b : ℕ) (sources : List SourceTold) (w : ℕ) (source : SourceTold) → slice_get sources w ≡ Some source → 1 ≤ source.faults → min (b + 1) top ≤ with_source_faults b sources
sources_raise b sources w source e failed = raised top b sources w source refl e failed
