-- The label files of workers, one after the other.
use Rattle.std.proofs.Common.{◌≡◌, ◌<◌, ◌+◌, ◌*◌, ◌==◌, ◌++◌, ℕ, suc, List, [], ◌∷◌, length, take, drop, get_or, nat_lt, Bool, true, false, cond, Option, Some, None, Vec, Result, Ok, Err, refl, sym, ap, ap₂, subst, ◌∙◌, arith}
use Rattle.std.proofs.lemmas.Bool.Decides.{nat_tests}
use Rattle.std.proofs.Math.Seq.{take-suc, drop-cons}
use Rattle.std.proofs.lemmas.List.{length-take-le, map-append, take-append-drop}
use Rattle.mage_solo.specs.Evaluating.{labels_in}
use Rattle.std.specs.Option.{IfSome}
use Rattle.std.specs.declared.alloc.Global.{Global}
use Rattle.mage_base.specs.Desk.{Files}
use Rattle.mage_chains.specs.Chains.{◌>>=◌}
use Rattle.mage_chains.proofs.Ends.{then_ok}
use Rattle.mage_instr.specs.declared.instr.Instr.{Instr}
use Rattle.mage_label.specs.declared.labels.Label.{Label}
use Rattle.mage_label_files.specs.Labels.{labels_from, wires_in}
use Rattle.mage_lending.specs.Names.{worker_file}
use Rattle.mage_planner.specs.declared.refusal.Refusal.{Refusal}
use Rattle.mage_planner.specs.declared.refusal.Refusal.TheVariants as refusal
use Rattle.mage_planner.specs.Outcome.{bytes_or, if_labels, labels_due, labels_of}
use Rattle.mage_planner.specs.Found.{File, Absent, Long, Held, file_of, whole_file}
use Rattle.mage_planner.specs.Steps.{Refuses}
use Rattle.mage_planner.proofs.StepLemmas.{both_done, told_so}

-- a file of labels is found the same, whether the fetch has the limit or not
pub same_due : (wires worker : ℕ) (file : Option (List ℕ)) → labels_due wires worker (file_of (16 * wires) file) ≡ labels_due wires worker (whole_file file)
unfolding labels_due
same_due wires worker None = refl
same_due wires worker (Some bytes) = go (nat_lt (16 * wires) (length bytes)) refl where
  go : (long : Bool) → nat_lt (16 * wires) (length bytes) ≡ long
      → (bytes_or (refusal.InputLabels worker) (cond long Long (Held bytes)) >>= if_labels wires worker) ≡ if_labels wires worker bytes
  go false e = refl
  go true e = ap (λ (same : Bool). cond {A = Result (List Label) Refusal} same (Ok (labels_from wires bytes)) (Err (refusal.InputLabels worker))) (sym (differs e)) where
    differs : nat_lt (16 * wires) (length bytes) ≡ true → (length bytes == 16 * wires) ≡ false
    differs e = grind (arith, nat_tests)

-- the labels that are due of a worker
abbrev pub own_due : (ℕ → File) → (worker : ℕ) → List Instr → Result (List Label) Refusal
own_due files worker instrs = labels_due (wires_in instrs) worker (files worker)

-- and those of the others too
abbrev pub with_others : (ℕ → File) → ℕ → List (List Instr) → List Label → Result (List (List Label)) Refusal
with_others files next workers own = labels_of files next workers >>= (λ (others : List (List Label)). Ok (own ∷ others))

abbrev pub in_front : List Label → List (List Label) → Result (List (List Label)) Refusal
in_front own others = Ok (own ∷ others)

pub same_lists : (xs ys : List (List Label)) → ◌≡◌ {A = Result (List (List Label)) Refusal} (Ok xs) (Ok ys) → xs ≡ ys
same_lists xs ys e = cc

module _ (files : ℕ → File) where
  -- a worker's labels more
  pub more_labels : (first : ℕ) (workers : List (List Instr)) (instrs : List Instr) (all : List (List Label)) (own : List Label) (worker : ℕ) → worker ≡ first + length workers
      → labels_of files first workers ≡ Ok all → own_due files worker instrs ≡ Ok own → labels_of files first (workers ++ instrs ∷ []) ≡ Ok (all ++ own ∷ [])
  more_labels first [] instrs all own worker at none due =
      let same : all ≡ [] = sym (same_lists [] all none) in
      let here : worker ≡ first = omega (arith, at) in
      let due_here : own_due files first instrs ≡ Ok own = subst (λ (w : ℕ). own_due files w instrs ≡ Ok own) here due in
      both_done (own_due files first instrs) own (with_others files (first + 1) []) (own ∷ []) due_here refl
      ∙ ap (λ (l : List (List Label)). Ok (l ++ own ∷ [])) (sym same)
  more_labels first (next ∷ workers) instrs all own worker at so_far due =
      let begun = then_ok (own_due files first next) (with_others files (first + 1) workers) all so_far in
      let rest = then_ok (labels_of files (first + 1) workers) (in_front begun.0) all begun.2 in
      let longer = more_labels (first + 1) workers instrs rest.0 own worker (omega (arith, at)) rest.1 due in
      both_done (own_due files first next) begun.0 (with_others files (first + 1) (workers ++ instrs ∷ [])) (begun.0 ∷ (rest.0 ++ own ∷ [])) begun.1
      (both_done (labels_of files (first + 1) (workers ++ instrs ∷ [])) (rest.0 ++ own ∷ []) (in_front begun.0) (begun.0 ∷ (rest.0 ++ own ∷ [])) longer refl)
      ∙ ap (λ (l : List (List Label)). Ok (l ++ own ∷ [])) (same_lists (begun.0 ∷ rest.0) all rest.2)

  -- a worker's labels are refused
  pub stopped_labels : (first : ℕ) (workers : List (List Instr)) (instrs : List Instr) (others : List (List Instr)) (all : List (List Label)) (why : Refusal) (worker : ℕ)
      → worker ≡ first + length workers → labels_of files first workers ≡ Ok all → own_due files worker instrs ≡ Err why
      → labels_of files first (workers ++ instrs ∷ others) ≡ Err why
  stopped_labels first [] instrs others all why worker at none due =
      let here : worker ≡ first = omega (arith, at) in
      let due_here : own_due files first instrs ≡ Err why = subst (λ (w : ℕ). own_due files w instrs ≡ Err why) here due in
      ap (λ (step : Result (List Label) Refusal). step >>= with_others files (first + 1) others) due_here
  stopped_labels first (next ∷ workers) instrs others all why worker at so_far due =
      let begun = then_ok (own_due files first next) (with_others files (first + 1) workers) all so_far in
      let rest = then_ok (labels_of files (first + 1) workers) (in_front begun.0) all begun.2 in
      ap (λ (step : Result (List Label) Refusal). step >>= with_others files (first + 1) (workers ++ instrs ∷ others)) begun.1
      ∙ ap (λ (step : Result (List (List Label)) Refusal). step >>= in_front begun.0) (stopped_labels (first + 1) workers instrs others rest.0 why worker (omega (arith, at)) rest.1 due)

  -- there is a list for each worker
  pub labels_count : (first : ℕ) (workers : List (List Instr)) (all : List (List Label)) → labels_of files first workers ≡ Ok all → length all ≡ length workers
  labels_count first [] all none = ap (λ (l : List (List Label)). length l) (sym (same_lists [] all none))
  labels_count first (next ∷ workers) all so_far =
      let begun = then_ok (own_due files first next) (with_others files (first + 1) workers) all so_far in
      let rest = then_ok (labels_of files (first + 1) workers) (in_front begun.0) all begun.2 in
      ap (λ (l : List (List Label)). length l) (sym (same_lists (begun.0 ∷ rest.0) all rest.2)) ∙ ap suc (labels_count (first + 1) workers rest.0 rest.1)

-- files that are the same as far as the workers go
pub same_labels : (f g : ℕ → File) (first : ℕ) (workers : List (List Instr)) → ((worker : ℕ) → worker < first + length workers → f worker ≡ g worker)
    → labels_of f first workers ≡ labels_of g first workers
same_labels f g first [] same = refl
same_labels f g first (next ∷ workers) same =
    ap₂ (λ (own : Result (List Label) Refusal) (others : Result (List (List Label)) Refusal). own >>= (λ (o : List Label). others >>= in_front o))
    (ap (labels_due (wires_in next) first) (same first (omega arith)))
    (same_labels f g (first + 1) workers (λ worker inside. same worker (omega (arith, inside))))

-- the files with another one of this worker
abbrev pub put_file : (ℕ → File) → (worker : ℕ) → File → ℕ → File
put_file files worker file other = cond (other == worker) file (files other)

pub put_before : (files : ℕ → File) (worker : ℕ) (file : File) (other : ℕ) → other < worker → files other ≡ put_file files worker file other
put_before files worker file other less =
    let differs : (other == worker) ≡ false = grind (arith, nat_tests) in ap (λ (b : Bool). cond b file (files other)) (sym differs)

pub put_there : (files : ℕ → File) (worker : ℕ) (file : File) → put_file files worker file worker ≡ file
put_there files worker file =
    let same : (worker == worker) ≡ true = grind (arith, nat_tests) in ap (λ (b : Bool). cond b file (files worker)) same

-- ---- in the loop over the workers

-- each worker's label file, as it is found
abbrev pub found_labels : Files → (stem : List ℕ) → ℕ → File
found_labels files stem worker = whole_file (files (worker_file stem worker))

module _ (workers : List (List Instr)) (k worker : ℕ) (number : worker ≡ k) (inside : k < length workers) (instrs : List Instr) (is : instrs ≡ get_or workers k instrs) where
  pub next_worker : take (k + 1) workers ≡ take k workers ++ instrs ∷ []
  next_worker =
      let next : k + 1 ≡ suc k = omega arith in
      ap (λ (n : ℕ). take n workers) next ∙ take-suc workers k instrs inside ∙ ap (λ (i : List Instr). take k workers ++ i ∷ []) (sym is)

  all_workers : take k workers ++ instrs ∷ drop (suc k) workers ≡ workers
  all_workers =
      ap (λ (i : List Instr). take k workers ++ i ∷ drop (suc k) workers) is
      ∙ ap (λ (l : List (List Instr)). take k workers ++ l) (sym (drop-cons workers k instrs inside)) ∙ take-append-drop k workers

  here : worker ≡ 0 + length (take k workers)
  here = let long = length-take-le k workers (omega (arith, inside)) in omega (arith, long, number)

  pub stopped_told : (files : Option Files) (steady : Bool) (stem : List ℕ) (labels : List (List Label)) (why : Refusal)
      → IfSome files (λ f. labels_of (found_labels f stem) 0 (take k workers) ≡ Ok labels)
      → IfSome files (λ f. Refuses steady why (labels_due (wires_in instrs) worker (file_of (16 * wires_in instrs) (f (worker_file stem worker)))))
      → IfSome files (λ f. Refuses steady why (labels_of (found_labels f stem) 0 workers))
  stopped_told None steady stem labels why so_far refused = tt
  stopped_told (Some f) steady stem labels why so_far refused =
      told_so steady why (labels_due (wires_in instrs) worker (file_of (16 * wires_in instrs) (f (worker_file stem worker)))) (labels_of (found_labels f stem) 0 workers)
      (λ e. ap (labels_of (found_labels f stem) 0) (sym all_workers)
      ∙ stopped_labels (found_labels f stem) 0 (take k workers) instrs (drop (suc k) workers) labels why worker here so_far
      (sym (same_due (wires_in instrs) worker (f (worker_file stem worker))) ∙ e)) refused

  pub more_told : (files : Option Files) (stem : List ℕ) (labels : List (List Label)) (own : List Label)
      → IfSome files (λ f. labels_of (found_labels f stem) 0 (take k workers) ≡ Ok labels)
      → IfSome files (λ f. labels_due (wires_in instrs) worker (file_of (16 * wires_in instrs) (f (worker_file stem worker))) ≡ Ok own)
      → IfSome files (λ f. labels_of (found_labels f stem) 0 (take (k + 1) workers) ≡ Ok (labels ++ own ∷ []))
  more_told None stem labels own so_far due = tt
  more_told (Some f) stem labels own so_far due =
      ap (labels_of (found_labels f stem) 0) next_worker
      ∙ more_labels (found_labels f stem) 0 (take k workers) instrs labels own worker here so_far
      (sym (same_due (wires_in instrs) worker (f (worker_file stem worker))) ∙ due)

  -- the same files but for the worker's
  moved : (files : ℕ → File) (file : File) (labels : List (List Label)) → labels_of files 0 (take k workers) ≡ Ok labels
      → labels_of (put_file files worker file) 0 (take k workers) ≡ Ok labels
  moved files file labels so_far =
      sym (same_labels files (put_file files worker file) 0 (take k workers) (λ other less. put_before files worker file other (omega (arith, here, less)))) ∙ so_far

  pub more_some : (files : ℕ → File) (file : File) (labels : List (List Label)) (own : List Label) → labels_of files 0 (take k workers) ≡ Ok labels
      → labels_due (wires_in instrs) worker file ≡ Ok own → labels_of (put_file files worker file) 0 (take (k + 1) workers) ≡ Ok (labels ++ own ∷ [])
  more_some files file labels own so_far due =
      ap (labels_of (put_file files worker file) 0) next_worker
      ∙ more_labels (put_file files worker file) 0 (take k workers) instrs labels own worker here (moved files file labels so_far)
      (ap (labels_due (wires_in instrs) worker) (put_there files worker file) ∙ due)

  pub stopped_some : (files : ℕ → File) (file : File) (labels : List (List Label)) (why : Refusal) → labels_of files 0 (take k workers) ≡ Ok labels
      → Refuses true why (labels_due (wires_in instrs) worker file) → Refuses true why (labels_of (put_file files worker file) 0 workers)
  stopped_some files file labels why so_far refused =
      told_so true why (labels_due (wires_in instrs) worker file) (labels_of (put_file files worker file) 0 workers)
      (λ e. ap (labels_of (put_file files worker file) 0) (sym all_workers)
      ∙ stopped_labels (put_file files worker file) 0 (take k workers) instrs (drop (suc k) workers) labels why worker here (moved files file labels so_far)
      (ap (labels_due (wires_in instrs) worker) (put_there files worker file) ∙ e)) refused

-- ---- lists in vectors

nothing_read : (labels : List (Vec Label Global)) → labels ≡ [] → ◌≡◌ {A = Result (List (List Label)) Refusal} (Ok []) (Ok (labels_in labels))
nothing_read labels none = ap (λ (l : List (Vec Label Global)). Ok (labels_in l)) (sym none)

pub nothing_told : (files : Option Files) (labels : List (Vec Label Global)) → labels ≡ []
    → IfSome files (λ f. ◌≡◌ {A = Result (List (List Label)) Refusal} (Ok []) (Ok (labels_in labels)))
nothing_told None labels none = tt
nothing_told (Some f) labels none = nothing_read labels none

pub nothing_some : (labels : List (Vec Label Global)) → labels ≡ [] → (files : ℕ → File) × ◌≡◌ {A = Result (List (List Label)) Refusal} (Ok []) (Ok (labels_in labels))
nothing_some labels none = (λ worker. Absent, nothing_read labels none)

pub in_vectors : (labels new : List (Vec Label Global)) (own : Vec Label Global) → new ≡ labels ++ own ∷ [] → labels_in labels ++ own.items ∷ [] ≡ labels_in new
in_vectors labels new own same = sym (map-append (λ (v : Vec Label Global). v.items) labels (own ∷ [])) ∙ ap labels_in (sym same)

pub told_in : (files : Option Files) (stem : List ℕ) (workers : List (List Instr)) (xs ys : List (List Label)) → xs ≡ ys
    → IfSome files (λ f. labels_of (found_labels f stem) 0 workers ≡ Ok xs) → IfSome files (λ f. labels_of (found_labels f stem) 0 workers ≡ Ok ys)
told_in None stem workers xs ys same told = tt
told_in (Some f) stem workers xs ys same told = told ∙ ap (λ (l : List (List Label)). Ok l) same
