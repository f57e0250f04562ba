-- What a command's fetches find.
use Rattle.std.specs.Prelude.{ℕ, List, [], length, Option, Some, None, nat_lt, if◌then◌else◌}
use Rattle.mage_base.specs.Desk.{Files}
use Rattle.mage_file.specs.Grammar.{most_bytes, most_first_bytes}
use Rattle.mage_lending.specs.Names.{worker_file}
use Rattle.mage_lex.specs.Limits.{MOST_BYTES}
use Rattle.mage_words.specs.Words.{Driver, Plain, Garble, Eval, Request, Solo, Stats, Deal, Plan, Check, Upgrade, Gen}

-- a file as a fetch with a limit finds it
pub data File : Type 0 where
  Absent : File
  Long : File
  Held : List ℕ → File

abbrev pub file_of : ℕ → Option (List ℕ) → File
file_of limit None = Absent
file_of limit (Some bytes) = if nat_lt limit (length bytes) then Long else Held bytes

abbrev pub file_at : Files → List ℕ → ℕ → File
file_at files name limit = file_of limit (files name)

-- a file that is read from end to end, however long it is
abbrev pub whole_file : Option (List ℕ) → File
whole_file None = Absent
whole_file (Some bytes) = Held bytes

-- an input text: that of the file, where one is named, and else the empty one
abbrev pub file_named : Files → Option (List ℕ) → ℕ → File
file_named files None limit = Held []
file_named files (Some name) limit = file_at files name limit

-- the files that a command reads, as its fetches find them: one that couldn't be read counts as absent
pub record Found : Type 0 where
  pub source : File
  pub garbler : File
  pub evaluator : File
  pub seed : File
  pub program : File
  -- the label file and the stream file of each worker
  pub labels : ℕ → File
  pub streams : ℕ → File

-- no file was read
abbrev pub nothing_found : Found
nothing_found = record {
  source = Absent;
  garbler = Absent;
  evaluator = Absent;
  seed = Absent;
  program = Absent;
  labels = λ worker. Absent;
  streams = λ worker. Absent;
}

-- the bytes of a seed
abbrev pub SEED_BYTES : ℕ
SEED_BYTES = 32

-- the most bytes of an input text
abbrev pub INPUT_LIMIT : ℕ
INPUT_LIMIT = 67108864

-- the files of a driver's input texts
abbrev pub garbler_of : Driver → Option (List ℕ)
garbler_of (Plain garbler evaluator) = garbler
garbler_of (Garble garbler seed stream) = garbler
garbler_of (Eval stream labels) = None

abbrev pub evaluator_of : Driver → Option (List ℕ)
evaluator_of (Plain garbler evaluator) = evaluator
evaluator_of (Garble garbler seed stream) = None
evaluator_of (Eval stream labels) = None

-- the file of a driver's seed
abbrev pub seed_for : Files → Driver → File
seed_for files (Plain garbler evaluator) = Absent
seed_for files (Garble garbler seed stream) = file_at files seed SEED_BYTES
seed_for files (Eval stream labels) = Absent

-- each worker's file of labels, and of its stream
abbrev pub labels_for : Files → Driver → ℕ → File
labels_for files (Plain garbler evaluator) worker = Absent
labels_for files (Garble garbler seed stream) worker = Absent
labels_for files (Eval stream labels) worker = whole_file (files (worker_file labels worker))

abbrev pub streams_for : Files → Driver → ℕ → File
streams_for files (Plain garbler evaluator) worker = Absent
streams_for files (Garble garbler seed stream) worker = Absent
streams_for files (Eval stream labels) worker = whole_file (files (worker_file stream worker))

-- A source is no longer than a text may be, nor a memory program than its file. What a command doesn't read counts as absent.
abbrev pub found_in : Files → Request → Found
found_in files (Solo solo) = record nothing_found {
  source = file_at files solo.source MOST_BYTES;
  garbler = file_named files (garbler_of solo.driver) INPUT_LIMIT;
  evaluator = file_named files (evaluator_of solo.driver) INPUT_LIMIT;
  seed = seed_for files solo.driver;
  labels = labels_for files solo.driver;
  streams = streams_for files solo.driver;
}
found_in files (Stats stats) = record nothing_found { source = file_at files stats.source MOST_BYTES }
found_in files (Deal deal) = record nothing_found {
  source = file_at files deal.source MOST_BYTES;
  evaluator = file_named files deal.evaluator INPUT_LIMIT;
  seed = file_at files deal.seed SEED_BYTES;
}
found_in files (Plan plan) = record nothing_found { source = file_at files plan.source MOST_BYTES }
found_in files (Check check) = record nothing_found {
  source = file_at files check.source MOST_BYTES;
  program = file_at files check.program most_bytes;
}
found_in files (Upgrade upgrade) = record nothing_found { program = file_at files upgrade.program most_first_bytes }
found_in files (Gen gen) = nothing_found

-- where the words ask for nothing, no file is read
abbrev pub found_for : Files → Option Request → Found
found_for files None = nothing_found
found_for files (Some request) = found_in files request
