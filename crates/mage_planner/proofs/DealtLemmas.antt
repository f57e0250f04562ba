-- How many labels are dealt to a worker, and that a label file of them is read back.
use Rattle.std.proofs.Common.{◌≡◌, ◌<◌, ◌≤◌, ◌+◌, ◌*◌, ◌==◌, ◌&&◌, ◌++◌, ℕ, zero, suc, List, [], ◌∷◌, length, map, sum, not, Bool, true, false, cond, Option, Some, None, slice_get, Result, Ok, Err, length-append, refl, sym, ap, ap₂, ◌∙◌, subst, arith}
use Rattle.std.specs.List.{filter}
use Rattle.std.specs.Option.{IfSome}
use Rattle.std.proofs.lemmas.Bool.Decides.{nat_tests}
use Rattle.std.proofs.lemmas.List.Sums.{sum_by-cons}
use Rattle.mage_bits.specs.Bits.{bits}
use Rattle.mage_bits.proofs.BitLaws.{length-bits}
use Rattle.mage_deal.specs.Dealing.{Dealer, labels_for, after_input, all_labels, new_dealer}
use Rattle.mage_deal.proofs.Dealt.{dealt_is}
use Rattle.mage_garbled_runs.specs.Runs.{AreWhole}
use Rattle.mage_instr.specs.declared.instr.Instr.{Instr}
use Rattle.mage_instr.specs.declared.op.Op.{Op}
use Rattle.mage_instr.specs.declared.op.Op.TheVariants as op
use Rattle.mage_instr.specs.declared.party.Party.TheVariants as party
use Rattle.mage_instr.specs.Inputs.{is_input, is_input_of}
use Rattle.mage_instr.specs.Opcodes.{WidthOk}
use Rattle.mage_instr.specs.Sound.{IsSound, IsSoundAt}
use Rattle.mage_label.specs.declared.labels.Label.{Label}
use Rattle.mage_label.specs.Labels.{offset_of}
use Rattle.mage_label_files.specs.Labels.{labels_from, wires_in}
use Rattle.mage_label_files.proofs.Reading.{labels_are_read_back}
use Rattle.mage_linked.specs.declared.emitted.Emitted.{Emitted}
use Rattle.mage_linked.specs.Emission.{own_instrs, program_of}
use Rattle.mage_linked.specs.Workers.{list_at}
use Rattle.mage_linked.proofs.EmissionLemmas.{emission_of-program_of}
use Rattle.mage_linked.proofs.LinkedLemmas.{AreLinked-below}
use Rattle.mage_linked.proofs.WorkerLemmas.{list_at-map}
use Rattle.mage_carried.specs.Laws.{CanRun}
use Rattle.mage_streams.specs.Garbling.{active_labels, bytes_of, zero_labels}
use Rattle.mage_streams.specs.Numbers.{next_value, number_after}
use Rattle.mage_streams.specs.Streams.{dealt_labels}
use Rattle.mage_planner.specs.declared.refusal.Refusal.{Refusal}
use Rattle.mage_planner.specs.declared.refusal.Refusal.TheVariants as refusal
use Rattle.mage_planner.specs.Evaluated.{source_with}
use Rattle.mage_planner.specs.Outcome.{bytes_held, labels_due, labels_of, streams_held}
use Rattle.mage_planner.specs.Found.{File, Held}
use Rattle.mage_planner.proofs.StepLemmas.{both_done}
use Rattle.mage_planner.proofs.LabelFileLemmas.{in_front, own_due, with_others}

-- ---- how many labels are dealt

length_active : (offset : Label) (zeros : List Label) (values : List Bool) → length zeros ≡ length values → length (active_labels offset zeros values) ≡ length zeros
length_active offset [] [] same = refl
length_active offset [] (value ∷ values) same = refl
length_active offset (label ∷ zeros) [] same = absurd (omega (arith, same))
length_active offset (label ∷ zeros) (value ∷ values) same = ap suc (length_active offset zeros values (omega (arith, same)))

length_zeros : (seed : List ℕ) (worker first count : ℕ) → length (zero_labels seed worker first count) ≡ count
length_zeros seed worker first zero = refl
length_zeros seed worker first (suc count) = ap suc (length_zeros seed worker (number_after first 1) count)

length_for : (d : Dealer) (count : ℕ) → length (labels_for d party.Evaluator count) ≡ count
length_for d count =
    length_active (offset_of d.seed) (zero_labels d.seed d.worker d.wires count) (bits (next_value d.values) count)
    (length_zeros d.seed d.worker d.wires count ∙ sym (length-bits (next_value d.values) count)) ∙ length_zeros d.seed d.worker d.wires count

-- the immediate of an input is a party's
abbrev AllParties : List Instr → Type 0
AllParties [] = Unit {0}
AllParties (i ∷ others) = (is_input i.op ≡ true → i.imm ≤ 1) × AllParties others

party_so : (o : Op) (width imm : ℕ) → WidthOk o width imm → is_input o ≡ true → imm ≤ 1
party_so op.Input width imm ok is = ok.2
party_so other width imm ok is = cc

all_parties : (instrs : List Instr) → ((t : ℕ) → IfSome (slice_get instrs t) (λ i. WidthOk i.op i.width i.imm)) → AllParties instrs
all_parties [] each = tt
all_parties (i ∷ others) each = (party_so i.op i.width i.imm (each 0), all_parties others (λ t. each (suc t)))

parties_of : (instrs : List Instr) → IsSound instrs → AllParties instrs
parties_of instrs sound = all_parties instrs (λ t. weaker t (slice_get instrs t) (sound.each t)) where
  weaker : (t : ℕ) (o : Option Instr) → IfSome o (IsSoundAt instrs t) → IfSome o (λ i. WidthOk i.op i.width i.imm)
  weaker t None ok = tt
  weaker t (Some i) ok = ok.0

by_imm : (imm : ℕ) → imm ≤ 1 → (imm == 1) ≡ not (imm == 0)
by_imm zero small = refl
by_imm (suc zero) small = refl
by_imm (suc (suc imm)) small = absurd (omega (arith, small))

counted : (d : Dealer) (instrs : List Instr) → AllParties instrs → length (all_labels d instrs) ≡ wires_in instrs
counted d [] ok = refl
counted d (i ∷ others) ok =
    go (λ next. counted next others ok.1) (is_input i.op) (i.imm == 0) (i.imm == 1) (λ is. by_imm i.imm (ok.0 is))
  where
    go : ((next : Dealer) → length (all_labels next others) ≡ wires_in others) → (is own other : Bool) → (is ≡ true → other ≡ not own)
        → length (cond is (labels_for d (cond own party.Garbler party.Evaluator) i.width) [] ++ all_labels (cond is (after_input d (cond own party.Garbler party.Evaluator) i.width) d) others)
        ≡ sum (map (λ (j : Instr). j.width) (cond (is && other) (i ∷ filter (is_input_of party.Evaluator) others) (filter (is_input_of party.Evaluator) others)))
    go rest false own other same = rest d
    go rest true true true same = let wrong = same refl in cc
    go rest true true false same = rest (after_input d party.Garbler i.width)
    go rest true false false same = let wrong = same refl in cc
    go rest true false true same =
        length-append (labels_for d party.Evaluator i.width) (all_labels (after_input d party.Evaluator i.width) others)
        ∙ ap₂ (λ (m n : ℕ). m + n) (length_for d i.width) (rest (after_input d party.Evaluator i.width))
        ∙ sym (sum_by-cons (λ (n : ℕ). n) i.width (map (λ (j : Instr). j.width) (filter (is_input_of party.Evaluator) others)))

-- ---- the instructions of a program that can run

module _ (count : ℕ) (emitted : List Emitted) (can : CanRun count emitted) (w : ℕ) (inside : w < count) where
  -- a worker's instructions
  pub worker_instrs : list_at (program_of count emitted).workers w ≡ own_instrs emitted w
  worker_instrs = list_at-map (own_instrs emitted) count w inside

  -- as many labels are dealt to a worker as its inputs of the evaluator have wires
  pub dealt_count : (seed : List ℕ) (garbler evaluator : ℕ → List ℕ) → length (dealt_labels (program_of count emitted) seed garbler evaluator w) ≡ wires_in (own_instrs emitted w)
  dealt_count seed garbler evaluator =
      ap (λ (labels : List Label). length labels) (dealt_is (program_of count emitted) seed garbler evaluator w)
      ∙ ap (λ (es : List Emitted). length (all_labels (new_dealer seed w (evaluator w)) (own_instrs es w))) (emission_of-program_of count emitted (AreLinked-below count emitted can.linked))
      ∙ counted (new_dealer seed w (evaluator w)) (own_instrs emitted w) (parties_of (own_instrs emitted w) (can.sound w inside))

-- ---- label files

length_bytes : (labels : List Label) → AreWhole labels → length (bytes_of labels) ≡ 16 * length labels
length_bytes [] whole = refl
length_bytes (label ∷ labels) whole =
    let both = length-append label.bytes (bytes_of labels) in
    let rest = length_bytes labels whole.1 in
    let own = whole.0 in
    omega (arith, both, rest, own)

-- what was dealt is what is due
pub due_is : (labels : List Label) (wires worker : ℕ) → AreWhole labels → length labels ≡ wires → labels_due wires worker (Held (bytes_of labels)) ≡ Ok labels
unfolding labels_due
due_is labels wires worker whole many =
    let bytes = length_bytes labels whole in
    let long : length (bytes_of labels) ≡ 16 * wires = omega (arith, bytes, many) in
    let same : (length (bytes_of labels) == 16 * wires) ≡ true = grind (arith, nat_tests) in
    ap (λ (b : Bool). cond {A = Result (List Label) Refusal} b (Ok (labels_from wires (bytes_of labels))) (Err (refusal.InputLabels worker))) same
    ∙ ap (λ (l : List Label). Ok l) (ap (λ (n : ℕ). labels_from n (bytes_of labels)) (sym many) ∙ labels_are_read_back labels whole)

-- the labels of so many workers, from this one on
abbrev pub dealt_from : (ℕ → List Label) → (first count : ℕ) → List (List Label)
dealt_from dealt first zero = []
dealt_from dealt first (suc count) = dealt first ∷ dealt_from dealt (first + 1) count

pub dealt_long : (dealt : ℕ → List Label) (first count : ℕ) → length (dealt_from dealt first count) ≡ count
dealt_long dealt first zero = refl
dealt_long dealt first (suc count) = ap suc (dealt_long dealt (first + 1) count)

pub dealt_at : (dealt : ℕ → List Label) (first count w : ℕ) → IfSome (slice_get (dealt_from dealt first count) w) (λ own. own ≡ dealt (first + w))
dealt_at dealt first zero zero = tt
dealt_at dealt first zero (suc w) = tt
dealt_at dealt first (suc count) zero = let same : first ≡ first + 0 = omega arith in ap dealt same
dealt_at dealt first (suc count) (suc w) =
    let same : first + 1 + w ≡ first + suc w = omega arith in
    subst (λ (n : ℕ). IfSome (slice_get (dealt_from dealt (first + 1) count) w) (λ own. own ≡ dealt n)) same (dealt_at dealt (first + 1) count w)

-- where each worker's labels are what is due, so are all
pub all_due : (files : ℕ → File) (dealt : ℕ → List Label) (first : ℕ) (workers : List (List Instr))
    → ((w : ℕ) → w < length workers → labels_due (wires_in (list_at workers w)) (first + w) (files (first + w)) ≡ Ok (dealt (first + w)))
    → labels_of files first workers ≡ Ok (dealt_from dealt first (length workers))
all_due files dealt first [] each = refl
all_due files dealt first (own ∷ workers) each =
    let none : first + 0 ≡ first = omega arith in
    both_done (own_due files first own) (dealt first) (with_others files (first + 1) workers) (dealt first ∷ dealt_from dealt (first + 1) (length workers))
    (subst (λ (n : ℕ). labels_due (wires_in own) n (files n) ≡ Ok (dealt n)) none (each 0 (omega arith)))
    (both_done (labels_of files (first + 1) workers) (dealt_from dealt (first + 1) (length workers)) (in_front (dealt first)) (dealt first ∷ dealt_from dealt (first + 1) (length workers))
    (all_due files dealt (first + 1) workers (λ w inside. later w (each (suc w) (omega (arith, inside))))) refl)
  where
    later : (w : ℕ) → labels_due (wires_in (list_at workers w)) (first + suc w) (files (first + suc w)) ≡ Ok (dealt (first + suc w))
        → labels_due (wires_in (list_at workers w)) (first + 1 + w) (files (first + 1 + w)) ≡ Ok (dealt (first + 1 + w))
    later w due =
        let same : first + suc w ≡ first + 1 + w = omega arith in
        subst (λ (n : ℕ). labels_due (wires_in (list_at workers w)) n (files n) ≡ Ok (dealt n)) same due

-- ---- stream files

pub streams_long : (files : ℕ → File) (first count : ℕ) → length (map source_with (streams_held files first count)) ≡ count
streams_long files first zero = refl
streams_long files first (suc count) = ap suc (streams_long files (first + 1) count)

pub streams_at : (files : ℕ → File) (streams : ℕ → List ℕ) (first count : ℕ) → ((w : ℕ) → w < count → files (first + w) ≡ Held (streams (first + w))) → (w : ℕ)
    → IfSome (slice_get (map source_with (streams_held files first count)) w) (λ source. source.left ≡ Some (streams (first + w)))
streams_at files streams first zero each zero = tt
streams_at files streams first zero each (suc w) = tt
streams_at files streams first (suc count) each zero =
    let none : first + 0 ≡ first = omega arith in
    let own : files first ≡ Held (streams first) = subst (λ (n : ℕ). files n ≡ Held (streams n)) none (each 0 (omega arith)) in
    subst (λ (n : ℕ). Some (bytes_held (files first)) ≡ Some (streams n)) (sym none) (ap (λ (file : File). Some (bytes_held file)) own)
streams_at files streams first (suc count) each (suc w) =
    let same : first + 1 + w ≡ first + suc w = omega arith in
    subst (λ (n : ℕ). IfSome (slice_get (map source_with (streams_held files (first + 1) count)) w) (λ source. source.left ≡ Some (streams n))) same
    (streams_at files streams (first + 1) count (λ v inside. later v (each (suc v) (omega (arith, inside)))) w)
  where
    later : (v : ℕ) → files (first + suc v) ≡ Held (streams (first + suc v)) → files (first + 1 + v) ≡ Held (streams (first + 1 + v))
    later v own = let same : first + suc v ≡ first + 1 + v = omega arith in subst (λ (n : ℕ). files n ≡ Held (streams n)) same own
