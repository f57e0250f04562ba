-- What is evaluated over streams that were garbled, with labels that were dealt.
use Rattle.std.specs.Prelude.{◌≡◌, ◌<◌, ℕ, List, length, None, Ok, Result, IfSome, IsOkAnd}
use Rattle.mage_instr.specs.declared.instr.Program.{Program}
use Rattle.mage_instr.specs.declared.party.Party.TheVariants as party
use Rattle.mage_instr.specs.Limits.{AreInRange}
use Rattle.mage_linked.specs.Workers.{list_at}
use Rattle.mage_pipe.specs.declared.loaded.Loaded.{Loaded}
use Rattle.mage_streams.specs.Streams.{garbled_stream}
use Rattle.mage_words.specs.Words.{SoloRequest}
use Rattle.mage_planner.specs.declared.refusal.Refusal.{Refusal}
use Rattle.mage_planner.specs.Outcome.{Done, label_bytes, source_of, numbers_of, solo_outcome, eval_outcome}
use Rattle.mage_planner.specs.Found.{Found, Held}

-- Each worker's label file is the one that `deal` writes, and its stream the one that `solo` garbles, by one seed.
pub record AreOfOneSeed (found : Found) (program : Program) (seed : List ℕ) (garbler evaluator : List (List ℕ)) : Type 0 where
  pub labels : (worker : ℕ) → worker < length program.workers → found.labels worker ≡ Held (label_bytes program seed evaluator worker)
  pub streams : (worker : ℕ) → worker < length program.workers → found.streams worker ≡ Held (garbled_stream program seed (list_at garbler) worker)

-- the same is said, as many pages are moved, and nothing is wrong with the stream of any of so many workers
pub record SaysAs (workers : ℕ) (plain evaluated : Done) : Type 0 where
  pub said : evaluated.said ≡ plain.said
  pub moves : evaluated.moves ≡ plain.moves
  pub right : IfSome evaluated.reads (λ reads. (worker : ℕ) → worker < workers → reads.wrong worker ≡ None)

abbrev pub EvaluatesAs : (workers : ℕ) → (plain : Done) → Result Done Refusal → Type 0
EvaluatesAs workers plain outcome = IsOkAnd outcome (SaysAs workers plain)

-- What `solo` says over the evaluator of such files is what it says in plain on the same numbers.
abbrev pub EvaluatingSaysPlain : Type 0
EvaluatingSaysPlain =
    (found : Found) (loaded : Loaded) (seed : List ℕ) (garbler evaluator : List (List ℕ)) (plain : SoloRequest) (stream : List ℕ) (done : Done)
    → AreInRange plain.limits → source_of found.source ≡ Ok loaded
    → numbers_of party.Garbler loaded found.garbler ≡ Ok garbler → numbers_of party.Evaluator loaded found.evaluator ≡ Ok evaluator
    → AreOfOneSeed found loaded.program seed garbler evaluator → solo_outcome found plain ≡ Ok done
    → EvaluatesAs (length loaded.program.workers) done (eval_outcome found plain.limits stream)
