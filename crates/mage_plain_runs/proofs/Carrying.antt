-- The laws of plain runs.
use Rattle.std.proofs.Common.{◌≡◌, true, ◌<◌, ℕ, zero, suc, Bool, List, [], ◌∷◌, length, map, get_or, refl, sym, ap, ◌∙◌, arith}
use Rattle.mage_instr.specs.declared.directive.MemProgram.{MemProgram}
use Rattle.mage_linked.specs.Emission.{own_instrs, program_of, emission_of}
use Rattle.mage_linked.specs.Workers.{list_at, below}
use Rattle.mage_linked.specs.declared.emitted.Emitted.{Emitted}
use Rattle.mage_linked.proofs.EmissionLemmas.{emission_of-program_of}
use Rattle.mage_linked.proofs.LinkedLemmas.{AreLinked-below}
use Rattle.mage_meaning.specs.Given.{Given}
use Rattle.mage_meaning.specs.Means.{start, run_all, means_of}
use Rattle.mage_relations.specs.Unplaced.{starting_in}
use Rattle.mage_plain.specs.Plain.{Plain, plain_rules, taken_in}
use Rattle.mage_plain.specs.PlainLaws.{plain_is_lawful}
use Rattle.mage_circuit_laws.proofs.Operations.{all_right}
use Rattle.mage_carried.specs.Laws.{CanRun, Carries, RunsAsUnplaced}
use Rattle.mage_carried.specs.Wires.{AreWires, CallsGiveWires}
use Rattle.mage_carried.proofs.Wired.{makes_wires}
use Rattle.mage_carried.proofs.Carried.{carried_runs}
use Rattle.mage_carried.proofs.Starting.{at_below, map_long, below_long}
use Rattle.mage_plain_runs.specs.Plainly.{CanRunPlainly, RunsAsMeant, unplaced_outputs}
use Rattle.mage_plain_runs.proofs.Programs.{AllAgree, program_agrees}

list_at_get : (lists : List (List ℕ)) (n : ℕ) → list_at lists n ≡ get_or lists n []
list_at_get [] zero = refl
list_at_get [] (suc n) = refl
list_at_get (l ∷ lists) zero = refl
list_at_get (l ∷ lists) (suc n) = list_at_get lists n

means_at : (count : ℕ) (emitted : List Emitted) (given : Given) → CanRun count emitted → (n : ℕ) → n < count →
    list_at (means_of (program_of count emitted) given) n ≡ (run_all emitted (start given)).outputs n
unfolding means_of
means_at count emitted given can n within =
    ap (λ (k : ℕ). list_at (map (run_all (emission_of (program_of count emitted)) (start given)).outputs (below k)) n) many
    ∙ ap (λ es. list_at (map (run_all es (start given)).outputs (below count)) n)
    (emission_of-program_of count emitted (AreLinked-below count emitted can.linked))
    ∙ list_at_get (map (run_all emitted (start given)).outputs (below count)) n
    ∙ at_below (run_all emitted (start given)).outputs count n [] within
  where
    many : length (map (own_instrs emitted) (below count)) ≡ count
    many = map_long (own_instrs emitted) (below count) ∙ below_long count

module _ (count : ℕ) (emitted : List Emitted) (given : Given) (drivers : ℕ → Plain) (can : CanRunPlainly count emitted given drivers) where
  all_start : AllAgree all_right count (own_instrs emitted) can.runs.sound emitted (starting_in drivers) (start given)
  all_start = record {
    each = λ n within. record {
      tells = record { same = refl; each = λ v i e below has. absurd (omega arith) };
      garbler_left = can.handed.garbler n;
      evaluator_left = can.handed.evaluator n;
      put = can.handed.outputs n;
      room = (let r = can.room n within in omega arith);
      fits = can.fit n within;
      done = [];
      split = refl;
      count = refl;
    };
    wires_taken = λ from to. refl;
    numbers_taken = λ from to. refl;
  }

  unplaced_is : (n : ℕ) → n < count → unplaced_outputs emitted drivers n ≡ (run_all emitted (start given)).outputs n
  unplaced_is n within =
      ((program_agrees all_right count (own_instrs emitted) can.runs.sound emitted can.runs.linked (starting_in drivers) (start given)
      all_start).each n within).put

pub unplaced_means : (count : ℕ) (emitted : List Emitted) (given : Given) (drivers : ℕ → Plain) →
    CanRunPlainly count emitted given drivers → (n : ℕ) → n < count →
    unplaced_outputs emitted drivers n ≡ list_at (means_of (program_of count emitted) given) n
unplaced_means count emitted given drivers can n within =
    unplaced_is count emitted given drivers can n within ∙ sym (means_at count emitted given can.runs n within)

bits_are_wires : (wires : List Bool) → AreWires plain_rules wires
bits_are_wires [] = tt
bits_are_wires (wire ∷ wires) = (tt, bits_are_wires wires)

plain_gives_wires : CallsGiveWires plain_rules (λ s. true)
plain_gives_wires = record {
  constant = λ s bit h. tt;
  xor = λ a b h k. tt;
  not = λ s a f h. tt;
  and = λ s a b f h k. (tt, refl);
  input = λ s whose count h. (bits_are_wires ((taken_in s whose count).1), refl);
  output = λ s wires h are. refl;
}

pub carried_means : (count : ℕ) (emitted : List Emitted) (given : Given) (drivers : ℕ → Plain) (plan : MemProgram) →
    CanRunPlainly count emitted given drivers → Carries count emitted plan → RunsAsMeant count emitted given drivers plan
carried_means count emitted given drivers plan can carried = record {
  turns = run.turns;
  ends = run.ends;
  put = λ n within. ap (λ (s : Plain). s.outputs) (run.did n within).driver ∙ unplaced_means count emitted given drivers can n within;
}
  where
    run : RunsAsUnplaced plain_rules emitted drivers count plan
    run = carried_runs plain_rules plain_is_lawful (λ s. true)
        (makes_wires plain_rules plain_is_lawful (λ s. true) plain_gives_wires) plan count emitted drivers (λ n. refl)
        can.runs carried
