-- What a call answers, against what its command comes to.
use Rattle.std.specs.Prelude.{◌≡◌, ◌≢◌, ◌≤◌, ◌<◌, ◌+◌, ◌⊎◌, ℕ, List, [], ◌∷◌, ◌++◌, length, map, take, Bool, false, IsTrue, All, Option, Some, None, IsSome, IsSomeAnd, Result, Ok, Err, IsOkAnd}
use Rattle.mage_base.specs.declared.failure.Damage.{Damage}
use Rattle.mage_base.specs.Desk.{DeskTold, Files, files_with}
use Rattle.mage_base.specs.Faults.{Rose}
use Rattle.mage_base.specs.Store.{StoreTold}
use Rattle.mage_driver.specs.Rules.{Begins}
use Rattle.mage_lending.specs.Names.{worker_file}
use Rattle.mage_source_runs.specs.Moves.{Moves}
use Rattle.mage_words.specs.Words.{Driver, Plain, Garble, Eval, Request, Solo, Stats, Deal, Plan, Check, Upgrade, Gen}
use Rattle.mage_planner.specs.declared.refusal.Refusal.{Refusal}
use Rattle.mage_planner.specs.declared.refusal.Refusal.TheVariants as refusal
use Rattle.mage_planner.specs.declared.status.Status.{Status}
use Rattle.mage_planner.specs.declared.status.Status.TheVariants as status
use Rattle.mage_planner.specs.Lines.{status_of, line_of}
use Rattle.mage_planner.specs.declared.refusal.StreamFault.{StreamFault}
use Rattle.mage_planner.specs.Outcome.{Done, NewFile, Reading}
use Rattle.mage_planner.specs.Found.{whole_file}
use Rattle.mage_planner.specs.Stores.{GivesBack, HaveMoved, HasBroken, HasDamaged, IsRight, WereDeceived}
use Rattle.mage_planner.specs.Warned.{Grows, WarnsLine}

-- ---- streams that are read

-- what is read is the stream files that are there
abbrev pub ReadsThese : Option Files → Option Reading → Type 0
ReadsThese told None = Unit {0}
ReadsThese told (Some reads) =
    IsSomeAnd told (λ files. (worker : ℕ) → reads.files worker ≡ whole_file (files (worker_file reads.stem worker)))

-- nothing is wrong with the stream of any of so many workers
abbrev pub NothingIsWrong : (workers : ℕ) → Option Reading → Type 0
NothingIsWrong workers None = Unit {0}
NothingIsWrong workers (Some reads) = (worker : ℕ) → worker < workers → reads.wrong worker ≡ None

-- this is wrong with the stream of a worker
abbrev pub IsWrong : (worker : ℕ) → Refusal → Option Reading → Type 0
IsWrong worker why None = ⊥
IsWrong worker why (Some reads) = reads.wrong worker ≡ Some why

-- ---- what a command does

-- the desk's files, and in them those that are written, one after the other
abbrev pub with_files : Option Files → List NewFile → Option Files
with_files files [] = files
with_files files (first ∷ others) = with_files (files_with files first.name first.bytes) others

-- It says a text and writes files. Of all else that the desk tells nothing changes, but that a steady desk has that much less
-- room for what is said.
pub record Finishes (text : List ℕ) (written : List NewFile) (before after : DeskTold) : Type 0 where
  pub said : Grows before.said after.said (λ old new. new ≡ old ++ text)
  pub room : IsTrue before.steady → after.room + length text ≡ before.room
  pub rest : after ≡ record before {
    files = with_files before.files written;
    said = after.said;
    room = after.room;
  }

-- It asks for a store for each worker, moves their pages as often as it has to, and gives them back; it says its text and writes
-- its files and streams. The text, and the bytes of the streams, are others where the stores deceived. Where it reads the desk's
-- own streams nothing is wrong with them.
pub record Does (done : Done) (before after : DeskTold) : Type 0 where
  pub shelves : List (List StoreTold)
  pub moved : HaveMoved done.moves shelves
  pub between : DeskTold
  pub given : GivesBack shelves before between
  pub text : List ℕ
  pub right : ReadsThese before.files done.reads → IsRight before shelves done.said text
  pub sound : ReadsThese before.files done.reads → NothingIsWrong (length done.moves) done.reads ⊎ WereDeceived before shelves
  pub filled : List NewFile
  pub right_streams : IsRight before shelves done.streams filled
  pub named : map (λ file. file.name) filled ≡ map (λ file. file.name) done.streams
  pub finishes : Finishes text (filled ++ done.files) between after

-- ---- what a refusal leaves

-- what a command says, writes and moves, if it isn't refused
abbrev pub text_of : Result Done Refusal → List ℕ
text_of (Ok done) = done.said
text_of (Err why) = []

abbrev pub files_of : Result Done Refusal → List NewFile
files_of (Ok done) = done.streams ++ done.files
files_of (Err why) = []

abbrev pub streams_of : Result Done Refusal → List NewFile
streams_of (Ok done) = done.streams
streams_of (Err why) = []

abbrev pub others_of : Result Done Refusal → List NewFile
others_of (Ok done) = done.files
others_of (Err why) = []

abbrev pub reads_of : Result Done Refusal → Option Reading
reads_of (Ok done) = done.reads
reads_of (Err why) = None

abbrev pub moves_in : Result Done Refusal → List Moves
moves_in (Ok done) = done.moves
moves_in (Err why) = []

-- each file stays that has none of these names
abbrev pub OthersStay : List NewFile → (before after : Option Files) → Type 0
OthersStay written None after = after ≡ None
OthersStay written (Some old) after =
    IsSomeAnd after (λ new.
    (name : List ℕ) → All (λ file. file.name ≢ name) written → new name ≡ old name)

-- a fault of the desk while this was said and these files were written: a front of the text is said
pub record BreaksOff (text : List ℕ) (written : List NewFile) (before after : DeskTold) : Type 0 where
  pub said : Grows before.said after.said (λ old new. (n : ℕ) × (new ≡ old ++ take n text))
  pub files : OthersStay written before.files after.files
  pub rises : before.faults ≤ after.faults
  pub rose : Rose before.faults after.faults
  pub rest : after ≡ record before {
    files = after.files;
    said = after.said;
    faults = after.faults;
    room = after.room;
  }

-- want of memory while these files were written
pub record Ceases (written : List NewFile) (before after : DeskTold) : Type 0 where
  pub files : OthersStay written before.files after.files
  pub rest : after ≡ record before { files = after.files }

-- Stores of the first of so many workers were lent and are given back.
pub record Returns (workers : ℕ) (shelves : List (List StoreTold)) (before after : DeskTold) : Type 0 where
  pub few : length shelves ≤ workers
  pub given : GivesBack shelves before after

-- these files are the first of those, in order, each with a front of what it is to hold
abbrev pub AreFronts : (begun whole : List NewFile) → Type 0
AreFronts [] whole = Unit {0}
AreFronts (file ∷ begun) [] = ⊥
AreFronts (file ∷ begun) (own ∷ whole) = (file.name ≡ own.name) × Begins file.bytes own.bytes × AreFronts begun whole

-- The first of the streams were written, each as far as it came, and then others of the files; each further file stays.
pub record HasBegun (streams others : List NewFile) (before after : Option Files) : Type 0 where
  pub begun : List NewFile
  pub fronts : AreFronts begun streams
  pub rest : OthersStay others (with_files before begun) after

-- what a command that was stopped leaves of its streams, unless the stores deceived
abbrev pub StreamsBegin : Result Done Refusal → (before : DeskTold) → (shelves : List (List StoreTold)) → (after : DeskTold) → Type 0
StreamsBegin outcome before shelves after =
    HasBegun (streams_of outcome) (others_of outcome) before.files after.files ⊎ WereDeceived before shelves

-- What a fault of the desk leaves: it may come while stores are asked for, and while a command writes its files and says its text.
pub record Fails (outcome : Result Done Refusal) (before after : DeskTold) : Type 0 where
  pub shelves : List (List StoreTold)
  pub between : DeskTold
  pub returns : Returns (length (moves_in outcome)) shelves before between
  pub text : List ℕ
  pub right : ReadsThese before.files (reads_of outcome) → IsRight before shelves (text_of outcome) text
  pub breaks : BreaksOff text (files_of outcome) between after
  pub fronts : StreamsBegin outcome before shelves after

-- Streams were closed after a run was stopped: only the count of faults may have risen, and it stays where there are none.
pub record Closes (streams : List NewFile) (reads : Option Reading) (before after : DeskTold) : Type 0 where
  pub rises : before.faults ≤ after.faults
  pub calm : streams ≡ [] → reads ≡ None → after.faults ≡ before.faults
  pub rest : after ≡ record before { faults = after.faults }

-- what want of memory leaves: it may come whenever a command runs, and while it writes its files
pub record Stops (outcome : Result Done Refusal) (before after : DeskTold) : Type 0 where
  pub shelves : List (List StoreTold)
  pub between : DeskTold
  pub returns : Returns (length (moves_in outcome)) shelves before between
  pub stopped : DeskTold
  pub ceases : Ceases (files_of outcome) between stopped
  pub closes : Closes (streams_of outcome) (reads_of outcome) stopped after
  pub fronts : StreamsBegin outcome before shelves after

-- What a store's fault leaves: nothing is said, and each file stays that isn't one of the command's; of its streams each that was
-- opened has a front of what it is to hold.
pub record Breaks (outcome : Result Done Refusal) (worker : ℕ) (before after : DeskTold) : Type 0 where
  pub shelves : List (List StoreTold)
  pub between : DeskTold
  pub returns : Returns (length (moves_in outcome)) shelves before between
  pub broken : HasBroken shelves worker
  pub rose : Rose (before.returned worker).faults (after.returned worker).faults
  pub stopped : DeskTold
  pub ceases : Ceases (files_of outcome) between stopped
  pub closes : Closes (streams_of outcome) (reads_of outcome) stopped after
  pub fronts : StreamsBegin outcome before shelves after

-- what a damaged page leaves: the same
pub record Damages (outcome : Result Done Refusal) (worker : ℕ) (damage : Damage) (before after : DeskTold) : Type 0 where
  pub shelves : List (List StoreTold)
  pub between : DeskTold
  pub returns : Returns (length (moves_in outcome)) shelves before between
  pub damaged : HasDamaged before shelves worker damage
  pub stopped : DeskTold
  pub ceases : Ceases (files_of outcome) between stopped
  pub closes : Closes (streams_of outcome) (reads_of outcome) stopped after
  pub fronts : StreamsBegin outcome before shelves after

-- What a fault of a worker's stream leaves: nothing is said and no file written, and where the desk's own streams are read it is what is
-- wrong with that one, unless the stores deceived. Only the count of faults may have risen as the streams were closed.
pub record Misreads (outcome : Result Done Refusal) (worker : ℕ) (fault : StreamFault) (before after : DeskTold) : Type 0 where
  pub reads : IsSome (reads_of outcome)
  pub shelves : List (List StoreTold)
  pub between : DeskTold
  pub returns : Returns (length (moves_in outcome)) shelves before between
  pub wrong : ReadsThese before.files (reads_of outcome) → IsWrong worker (refusal.Stream worker fault) (reads_of outcome) ⊎ WereDeceived before shelves
  pub rises : between.faults ≤ after.faults
  pub rest : after ≡ record between { faults = after.faults }

-- what a refusal leaves before its line is warned; any other leaves all that the desk tells
abbrev pub Leaves : Result Done Refusal → Refusal → (before after : DeskTold) → Type 0
Leaves outcome refusal.Desk before after = Fails outcome before after
Leaves outcome refusal.Memory before after = Stops outcome before after
Leaves outcome (refusal.Store worker) before after = Breaks outcome worker before after
Leaves outcome (refusal.Damaged worker damage) before after = Damages outcome worker damage before after
Leaves outcome (refusal.Stream worker fault) before after = Misreads outcome worker fault before after
Leaves outcome other before after = after ≡ before

-- ---- the answer

-- the refusal that an outcome is, if it is one: an absent file is the desk's fault, and no refusal
abbrev pub refusal_of : Result Done Refusal → Option Refusal
refusal_of (Ok done) = None
refusal_of (Err refusal.Desk) = None
refusal_of (Err other) = Some other

-- A refusal is the one that the outcome is, but that want of memory may come in its place. The desk's fault
-- comes where a file is absent, or where the command could not be done to its end; where the desk isn't
-- steady it may come in place of any refusal too. A store's fault, a damaged page and a fault of a stream come only where nothing is
-- refused, of a worker for whom a store is asked, and the last only where streams are read.
abbrev pub ComesFrom : (steady : Bool) → Result Done Refusal → Refusal → Type 0
ComesFrom steady outcome refusal.Desk = IsTrue steady → refusal_of outcome ≡ None
ComesFrom steady outcome refusal.Memory = Unit {0}
ComesFrom steady outcome (refusal.Store worker) = worker < length (moves_in outcome)
ComesFrom steady outcome (refusal.Damaged worker damage) = worker < length (moves_in outcome)
ComesFrom steady outcome (refusal.Stream worker fault) = (worker < length (moves_in outcome)) × IsSome (reads_of outcome)
ComesFrom steady outcome other = outcome ≡ Err other

-- the work before a line is warned: the command is done, or refused
abbrev pub Works : {T : Type 0} → (steady : Bool) → Result Done Refusal → Result T Refusal
    → (before after : DeskTold) → Type 0
Works steady outcome (Ok x) before after = IsOkAnd outcome (λ done. Does done before after)
Works steady outcome (Err why) before after =
    ComesFrom steady outcome why × Leaves outcome why before after

-- A refusal with this status: the work was refused, and then its line is warned.
pub record AnswersRefusal (steady : Bool) (outcome : Result Done Refusal) (answer : Status)
    (before after : DeskTold) (why : Refusal) : Type 0 where
  pub answered : answer ≡ status_of why
  pub comes : ComesFrom steady outcome why
  pub between : DeskTold
  pub leaves : Leaves outcome why before between
  pub warns : WarnsLine (line_of why) between after

-- A command that comes to this outcome answers so: Ok where it is done, and nothing is warned then; or the
-- status of a refusal.
abbrev pub Answers :
    (steady : Bool) → Result Done Refusal → Status → (before after : DeskTold) → Type 0
Answers steady outcome status.Ok before after = IsOkAnd outcome (λ done. Does done before after)
Answers steady outcome other before after =
    (why : Refusal) × AnswersRefusal steady outcome other before after why

-- Ok leaves the count of faults, and Desk comes only where it rose. With any other answer it rises only
-- where the line could not be warned.
abbrev pub AnswerCounted : (before now : ℕ) → Status → Type 0
AnswerCounted before now status.Ok = now ≡ before
AnswerCounted before now status.Desk = (before ≤ now) × Rose before now
AnswerCounted before now other = before ≤ now

-- what is answered of a command that isn't refused, where no count of faults rose
abbrev pub IsComplete : (tells_pages : Bool) → Option Reading → Status → Type 0
IsComplete tells_pages reads status.Ok = Unit {0}
IsComplete tells_pages reads status.Memory = Unit {0}
IsComplete tells_pages reads status.Damaged = tells_pages ≡ false
IsComplete tells_pages reads status.Stream = IsSome reads
IsComplete tells_pages reads other = ⊥

-- what words may be answered that ask for nothing
abbrev pub IsWordsOrMemory : Status → Type 0
IsWordsOrMemory status.Words = Unit {0}
IsWordsOrMemory status.Memory = Unit {0}
IsWordsOrMemory other = ⊥

-- a driver that fills no stream
abbrev pub FillsNoStream : Driver → Type 0
FillsNoStream (Plain garbler evaluator) = Unit {0}
FillsNoStream (Garble garbler seed stream) = ⊥
FillsNoStream (Eval stream labels) = Unit {0}

-- the words don't ask for a command that writes files
abbrev pub WritesNoFile : Option Request → Type 0
WritesNoFile None = Unit {0}
WritesNoFile (Some (Solo solo)) = FillsNoStream solo.driver
WritesNoFile (Some (Stats stats)) = Unit {0}
WritesNoFile (Some (Deal deal)) = ⊥
WritesNoFile (Some (Plan plan)) = ⊥
WritesNoFile (Some (Check check)) = Unit {0}
WritesNoFile (Some (Upgrade upgrade)) = ⊥
WritesNoFile (Some (Gen gen)) = ⊥

-- the words don't ask for a command that asks for stores
abbrev pub RunsNothing : Option Request → Type 0
RunsNothing None = Unit {0}
RunsNothing (Some (Solo solo)) = ⊥
RunsNothing (Some (Stats stats)) = Unit {0}
RunsNothing (Some (Deal deal)) = Unit {0}
RunsNothing (Some (Plan plan)) = Unit {0}
RunsNothing (Some (Check check)) = Unit {0}
RunsNothing (Some (Upgrade upgrade)) = Unit {0}
RunsNothing (Some (Gen gen)) = ⊥

-- ---- when the desk doesn't fail

-- there is room for what is to be said, or warned
abbrev pub HasRoom : DeskTold → Result Done Refusal → Type 0
HasRoom desk (Ok done) = length done.said ≤ desk.room
HasRoom desk (Err other) = length (line_of other) ≤ desk.warn_room

-- where stores are asked for they tell their pages
abbrev pub TellsStores : DeskTold → Result Done Refusal → Type 0
TellsStores desk outcome = moves_in outcome ≢ [] → IsTrue desk.stores_tell_pages

-- nothing is wrong with the streams that are read
abbrev pub StreamsAreRight : Result Done Refusal → Type 0
StreamsAreRight (Ok done) = NothingIsWrong (length done.moves) done.reads
StreamsAreRight (Err other) = Unit {0}

-- no count of faults of the stores that were given back rose
abbrev pub StoresAreSound : (before after : DeskTold) → Type 0
StoresAreSound before after = (worker : ℕ) → (after.returned worker).faults ≤ (before.returned worker).faults
