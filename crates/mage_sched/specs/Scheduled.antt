-- What a schedule of a list is, read off its directives alone.
use Rattle.std.specs.Prelude.{◌≡◌, ◌<◌, ℕ, List, [], ◌∷◌, length, None}
use Rattle.std.specs.List.{flat_map}
use Rattle.mage_instr.specs.declared.replaced.Job.{Job}
use Rattle.mage_instr.specs.declared.replaced.Replaced.{Replaced}
use Rattle.mage_instr.specs.declared.replaced.Replaced.TheVariants as entry
use Rattle.mage_instr.specs.declared.directive.Directive.{Directive}
use Rattle.mage_instr.specs.declared.directive.Directive.TheVariants as directive
use Rattle.mage_sched.specs.Reads.{reads_of}
use Rattle.mage_sched.specs.Homes.{homed_of}
use Rattle.mage_sched.specs.Rule.{IsReplaced}
use Rattle.mage_sched.specs.Schedule.{schedule_of, buffer_tight}
use Rattle.mage_sched.specs.Issues.{unseen, reads_in, issues_in, AreTimely}
use Rattle.mage_sched.specs.Turns.{at_rest, AreInTurn}
use Rattle.mage_sched.specs.Plainly.{paged_in, plainly}
use Rattle.mage_sched.specs.Renamed.{AreRenamed}

-- the page that a save, or an issue of a write, names
abbrev pub page_saved : Replaced → List ℕ
page_saved (entry.Fresh frame page) = []
page_saved (entry.Load frame page) = []
page_saved (entry.Save frame page) = page ∷ []
page_saved (entry.Do job) = []

abbrev pub page_written : Directive → List ℕ
page_written (directive.Fresh frame page) = []
page_written (directive.IssueIn slot page) = []
page_written (directive.FinishIn slot frame) = []
page_written (directive.IssueOut slot frame page) = page ∷ []
page_written (directive.FinishOut slot) = []
page_written (directive.Do job) = []

-- the page that an issue of a read names
abbrev pub page_read : Directive → List ℕ
page_read (directive.Fresh frame page) = []
page_read (directive.IssueIn slot page) = page ∷ []
page_read (directive.FinishIn slot frame) = []
page_read (directive.IssueOut slot frame page) = []
page_read (directive.FinishOut slot) = []
page_read (directive.Do job) = []

-- the instruction that is done
abbrev pub job_of : Replaced → List Job
job_of (entry.Fresh frame page) = []
job_of (entry.Load frame page) = []
job_of (entry.Save frame page) = []
job_of (entry.Do job) = job ∷ []

abbrev pub job_done : Directive → List Job
job_done (directive.Fresh frame page) = []
job_done (directive.IssueIn slot page) = []
job_done (directive.FinishIn slot frame) = []
job_done (directive.IssueOut slot frame page) = []
job_done (directive.FinishOut slot) = []
job_done (directive.Do job) = job ∷ []

-- a transfer names a store page of these
abbrev pub IsBelow : (count : ℕ) → Directive → Type 0
IsBelow count (directive.Fresh frame page) = Unit {0}
IsBelow count (directive.IssueIn slot home) = home < count
IsBelow count (directive.FinishIn slot frame) = Unit {0}
IsBelow count (directive.IssueOut slot frame home) = home < count
IsBelow count (directive.FinishOut slot) = Unit {0}
IsBelow count (directive.Do job) = Unit {0}

-- all transfers do
abbrev pub AreBelow : (count : ℕ) → List Directive → Type 0
AreBelow count [] = Unit {0}
AreBelow count (one ∷ list) = IsBelow count one × AreBelow count list

-- Directives that are a schedule of a list, read off them alone.
pub record IsSchedule (buffer ahead : ℕ) (list : List Replaced) (directives : List Directive) : Type 0 where
  -- each read is that of a load
  pub reads : reads_in unseen directives ≡ reads_of list
  -- and is issued in its gap
  pub timely : AreTimely buffer ahead directives
  -- each slot has one transfer at a time, and none is in flight at the end
  pub turns : AreInTurn buffer at_rest directives
  -- as many reads are issued as there are loads, and as many writes as there are saves
  pub asked : length (flat_map page_read directives) ≡ length (reads_of list)
  pub sent : length (flat_map page_written directives) ≡ length (flat_map page_saved list)
  -- the instructions are those of the list
  pub jobs : flat_map job_done directives ≡ flat_map job_of list
  -- with the pages that are transferred, each write done when it is issued and each read when it is finished, they are the list
  pub plain : plainly at_rest (paged_in unseen directives) ≡ list

-- Such directives with store pages, of which there are so many.
pub record IsPlanned (buffer ahead : ℕ) (list : List Replaced) (directives : List Directive) (count : ℕ) : Type 0 where
  pub schedule : IsSchedule buffer ahead list directives
  pub below : AreBelow count directives
  -- the store pages, and their number, are the homes of the pages that are transferred
  pub homes : homed_of (paged_in unseen directives) ≡ record { directives = directives; count = count }

-- The directives of a list that the replacement rule makes are a schedule of it, where the buffer has a slot or needs none: in
-- the pages' own numbers, and with store pages.
abbrev pub ListsAreScheduled : Type 0
ListsAreScheduled =
    (buffer ahead : ℕ) (list : List Replaced)
    → IsReplaced list → buffer_tight buffer list ≡ None
    → IsSchedule buffer ahead list (schedule_of buffer ahead list)
    × IsSchedule buffer ahead list (homed_of (schedule_of buffer ahead list)).directives

-- The directives of such a list, in the pages' own numbers, name the pages that are transferred, and read plainly they are the
-- list itself.
abbrev pub SchedulesArePlain : Type 0
SchedulesArePlain =
    (buffer ahead : ℕ) (list : List Replaced)
    → IsReplaced list → buffer_tight buffer list ≡ None
    → (paged_in unseen (schedule_of buffer ahead list) ≡ schedule_of buffer ahead list)
    × (plainly at_rest (schedule_of buffer ahead list) ≡ list)

-- Directives with store pages in place of the pages of others: the transfers are in turn as they were, what is read and when it
-- is issued stays, and each store page is one of so many. The pages that are transferred stay, and read plainly the directives
-- are what the others are, with other names of pages.
pub record IsHomed (buffer : ℕ) (before : List Directive) (count : ℕ) (after : List Directive) : Type 0 where
  pub turns : AreInTurn buffer at_rest after
  pub reads : reads_in unseen after ≡ reads_in unseen before
  pub issues : issues_in unseen after ≡ issues_in unseen before
  pub below : AreBelow count after
  pub pages : paged_in unseen after ≡ paged_in unseen before
  pub renamed : AreRenamed (λ home. None) (plainly at_rest before) (plainly at_rest after)

-- So it is with homes, for directives in turn.
abbrev pub HomesKeepTurns : Type 0
HomesKeepTurns =
    (buffer : ℕ) (directives : List Directive)
    → AreInTurn buffer at_rest directives
    → IsHomed buffer directives (homed_of directives).count (homed_of directives).directives

-- Saves and instructions keep their order, whatever the list.
abbrev pub OrderIsKept : Type 0
OrderIsKept =
    (buffer ahead : ℕ) (list : List Replaced)
    → (flat_map page_written (schedule_of buffer ahead list) ≡ flat_map page_saved list)
    × (flat_map job_done (schedule_of buffer ahead list) ≡ flat_map job_of list)
