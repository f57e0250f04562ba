-- What is decoded is the value.
use Rattle.std.proofs.Common.{ℕ, Bool, List, [], ◌++◌, refl, sym, ap}
use Rattle.std.proofs.lemmas.List.{append-nil}
use Rattle.mage_linked.specs.Emission.{emission_of}
use Rattle.mage_label.specs.declared.labels.Label.{Label}
use Rattle.mage_driver.specs.Calls.{Call}
use Rattle.mage_relations.specs.Unplaced.{Unplaced, starting_in}
use Rattle.mage_relations.proofs.Runs.{Related, keeps_run}
use Rattle.mage_streams.specs.Garbling.{Garbler, garbling, said_at}
use Rattle.mage_streams.specs.Evaluating.{Evaluator, evaluating}
use Rattle.mage_streams.specs.Reckoning.{Reckoner, reckoning}
use Rattle.mage_streams.specs.Streams.{new_garbler, new_evaluator, new_reckoner, garbler_calls, garbled_stream, dealt_at, dealt_labels}
use Rattle.mage_streams.specs.Laws.{DecodingGivesTheValue}
use Rattle.mage_streams.proofs.Reading.{Active}
use Rattle.mage_streams.proofs.Halves.{Meets, halves_keep}

pub decoding_gives_the_value : DecodingGivesTheValue
decoding_gives_the_value program seed garbler evaluator worker =
    let r : Unplaced Reckoner Bool = starting_in (λ w. new_reckoner (garbler w) (evaluator w)) in
    let g : Unplaced Garbler Label = starting_in (λ w. new_garbler seed w (garbler w)) in
    let calls : ℕ → List (Call Garbler Label) = garbler_calls program seed garbler in
    let e : Unplaced Evaluator Label = starting_in (λ w. new_evaluator w (dealt_labels program seed garbler evaluator w) (garbled_stream program seed garbler w)) in
    let related : Related reckoning garbling evaluating (λ w. Meets seed) (Active seed) (λ w. halves_keep seed) r g e (λ w. calls w ++ []) = record {
      states = λ w. record {
        of_seed = refl;
        workers = refl;
        gates = refl;
        values = refl;
        left = ap said_at (sym (append-nil (calls w)));
        labels = ap (λ (xs : List (Call Garbler Label)). dealt_at xs (evaluator w)) (sym (append-nil (calls w)));
        outputs = refl;
      };
      values = λ w. tt;
      sent = λ v w. tt;
    } in
    ((keeps_run reckoning garbling evaluating (λ w. Meets seed) (Active seed) (λ w. halves_keep seed) (emission_of program) r g e (λ w. []) related).states worker).outputs
