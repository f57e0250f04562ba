-- A run that evaluates labels and streams of one seed puts out what the program means.
use Rattle.std.proofs.Common.{◌≡◌, ◌<◌, ◌≤◌, ◌++◌, ◌⊎◌, inl, inr, ℕ, Bool, true, false, cond, nat_eq, nat_lt, List, [], ◌∷◌, length, is_some, None, Some, slice_get, unwrap_or, refl, sym, ap, ap₂, ◌∙◌, subst, arith}
use Rattle.std.proofs.lemmas.Bool.Decides.{nat_tests}
use Rattle.std.proofs.Math.Path.{fun_ext}
use Rattle.std.specs.Prelude.{IsTrue}
use Rattle.mage_base.specs.Source.{SourceTold}
use Rattle.mage_driver.specs.Rules.{Rules}
use Rattle.mage_label.specs.declared.labels.Label.{Label}
use Rattle.mage_linked.specs.declared.emitted.Emitted.{Emitted}
use Rattle.mage_linked.specs.Emission.{program_of, emission_of}
use Rattle.mage_linked.specs.Workers.{list_at}
use Rattle.mage_linked.proofs.EmissionLemmas.{AreBelow, emission_of-program_of}
use Rattle.mage_linked.proofs.LinkedLemmas.{AreLinked-below}
use Rattle.mage_meaning.specs.Given.{Given}
use Rattle.mage_meaning.specs.Means.{means_of}
use Rattle.mage_relations.specs.Unplaced.{Unplaced, starting_in, made_by, after_emitted, calls_of}
use Rattle.mage_streams.specs.Garbling.{garbling, said_at}
use Rattle.mage_streams.specs.Streams.{decoded_outputs, new_evaluator, new_garbler, garbler_calls, dealt_at}
use Rattle.mage_garbled_runs.specs.Runs.{AreWhole}
use Rattle.mage_garbled_runs.specs.Meant.{CanRunOn, labels_of, streams_of}
use Rattle.mage_garbled_runs.proofs.Meant.{decoded_is_meant, whole_dealt}
use Rattle.mage_eval.specs.Reading.{tells_left}
use Rattle.mage_solo.specs.Evaluating.{AreDealt, AreStreams, AllTellLeft, evaluators_of, stream_fault, no_source, stream_at, decoded_by}
use Rattle.mage_solo.proofs.Lists.{if_found, if_each, found_below, index_found, index_past, list_found, list_past, same_lists}
use Rattle.mage_solo.proofs.Plainly.{means_count}
use Rattle.mage_solo.proofs.Clean.{nothing_wrong}
use Rattle.mage_solo.proofs.Evaluation.{decoded_count, decoded_at}

-- a worker that none of the instructions is of has no calls
calls_none : {W : Type 0} (rules : Rules W) (count w : ℕ) → count ≤ w → (es : List Emitted) (r : Unplaced rules.State W) → AreBelow count es →
    calls_of rules w r es ≡ []
calls_none rules count w past [] r h = refl
calls_none rules count w past (e ∷ es) r h =
    let under : e.worker < count = h.0 in
    let other : nat_eq w e.worker ≡ false = grind (arith, nat_tests) in
    ap (λ (b : Bool). cond b (made_by rules r e).calls [] ++ calls_of rules w (after_emitted rules r e) es) other
    ∙ calls_none rules count w past es (after_emitted rules r e) h.1

module _ (count : ℕ) (emitted : List Emitted) (given : Given) (seed : List ℕ) (can : CanRunOn count emitted given) where
  all_below : AreBelow count (emission_of (program_of count emitted))
  all_below =
      let linked = AreLinked-below count emitted can.runs.linked in
      subst (λ (es : List Emitted). AreBelow count es) (sym (emission_of-program_of count emitted linked)) linked

  no_calls : (w : ℕ) → count ≤ w → garbler_calls (program_of count emitted) seed (list_at given.garbler) w ≡ []
  no_calls w past = calls_none garbling count w past (emission_of (program_of count emitted))
      (starting_in (λ v. new_garbler seed v (list_at given.garbler v))) all_below

  module _ (labels : List (List Label)) (sources : List SourceTold) (long_l : length labels ≡ count) (long_s : length sources ≡ count)
      (dealt : AreDealt count emitted given seed labels) (streams : AreStreams count emitted given seed sources) where
    each_labels : (w : ℕ) → list_at labels w ≡ labels_of count emitted given seed w
    each_labels w = go (nat_lt w count) refl
      where
        go : (b : Bool) → nat_lt w count ≡ b → list_at labels w ≡ labels_of count emitted given seed w
        go true e =
            let within : w < count = grind (arith, nat_tests) in
            let found = found_below labels w (subst (λ n. w < n) (sym long_l) within) in
            list_found labels w found.0 found.1
            ∙ if_found (λ (own : List Label). own ≡ labels_of count emitted given seed w) (slice_get labels w) found.0 found.1 (dealt w)
        go false e =
            let past : count ≤ w = grind (arith, nat_tests) in
            list_past labels w (subst (λ n. n ≤ w) (sym long_l) past)
            ∙ sym (ap (λ calls. dealt_at calls (list_at given.evaluator w)) (no_calls w past))

    each_stream : (w : ℕ) → stream_at sources w ≡ streams_of count emitted given seed w
    each_stream w = go (nat_lt w count) refl
      where
        go : (b : Bool) → nat_lt w count ≡ b → stream_at sources w ≡ streams_of count emitted given seed w
        go true e =
            let within : w < count = grind (arith, nat_tests) in
            let found = found_below sources w (subst (λ n. w < n) (sym long_s) within) in
            ap (λ (s : SourceTold). unwrap_or s.left []) (index_found sources w found.0 no_source found.1)
            ∙ ap (λ left. unwrap_or left []) (if_found (λ (s : SourceTold). s.left ≡ Some (streams_of count emitted given seed w)) (slice_get sources w) found.0 found.1 (streams w))
        go false e =
            let past : count ≤ w = grind (arith, nat_tests) in
            ap (λ (s : SourceTold). unwrap_or s.left []) (index_past sources w no_source (subst (λ n. n ≤ w) (sym long_s) past))
            ∙ sym (ap said_at (no_calls w past))

    pub streams_tell : AllTellLeft sources
    streams_tell w = if_each (λ (s : SourceTold). IsTrue (tells_left s)) (slice_get sources w) (λ s e.
        ap is_some (if_found (λ (t : SourceTold). t.left ≡ Some (streams_of count emitted given seed w)) (slice_get sources w) s e (streams w)))

    pub dealt_whole : (w : ℕ) → AreWhole (list_at labels w)
    dealt_whole w =
        subst (λ (own : List Label). AreWhole own) (sym (each_labels w))
        (whole_dealt (garbler_calls (program_of count emitted) seed (list_at given.garbler) w) (list_at given.evaluator w))

    -- nothing is wrong with them
    pub streams_right : (w : ℕ) → stream_fault (program_of count emitted) labels sources w ≡ None
    streams_right w =
        nothing_wrong (program_of count emitted) seed (list_at given.garbler) (list_at given.evaluator) (evaluators_of (program_of count emitted) labels sources)
        (λ v. ap₂ (new_evaluator v) (each_labels v) (each_stream v)) (λ v. refl) w

    pub decoded_meant : decoded_by (program_of count emitted) labels sources count ≡ means_of (program_of count emitted) given
    decoded_meant =
        same_lists (decoded_by (program_of count emitted) labels sources count) (means_of (program_of count emitted) given)
        (decoded_count count (decoded_outputs (program_of count emitted) (list_at labels) (stream_at sources)) ∙ sym (means_count count emitted given))
        (λ w h. each w (subst (λ n. w < n) (decoded_count count (decoded_outputs (program_of count emitted) (list_at labels) (stream_at sources))) h))
      where
        each : (w : ℕ) → w < count → list_at (decoded_by (program_of count emitted) labels sources count) w ≡ list_at (means_of (program_of count emitted) given) w
        each w within =
            decoded_at count (decoded_outputs (program_of count emitted) (list_at labels) (stream_at sources)) w within
            ∙ ap₂ (λ (ls : ℕ → List Label) (ss : ℕ → List ℕ). decoded_outputs (program_of count emitted) ls ss w) (fun_ext each_labels) (fun_ext each_stream)
            ∙ decoded_is_meant count emitted given seed can w within

-- what is decoded is what is meant
pub meant_so : {X P Q : Type 0} {x y z : X} → y ≡ z → ((x ≡ y) × P) ⊎ Q → (x ≡ z) ⊎ Q
meant_so e (inl h) = inl (h.0 ∙ e)
meant_so e (inr h) = inr h
