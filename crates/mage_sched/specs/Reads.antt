-- The reads of a list: when each is due, when its page left, and when it is issued.
use Rattle.std.specs.Prelude.{◌+◌, ◌-◌, ℕ, zero, suc, max, List, [], ◌∷◌, Bool, false, if◌then◌else◌, nat_eq, nat_lt, slice_index_or, Option, Some, None}
use Rattle.mage_instr.specs.declared.replaced.Replaced.{Replaced}
use Rattle.mage_instr.specs.declared.replaced.Replaced.TheVariants as entry
use Rattle.mage_sched.specs.declared.read.Read.{Read}
use Rattle.mage_sched.specs.declared.read.Timed.{Timed}

-- The gap of instruction t is what stands before its Do and behind the Do before it. What comes next stands in this gap,
-- where these stand before it, the newest first.
abbrev pub gap_after : (before : List Replaced) → ℕ
gap_after [] = 0
gap_after (entry.Fresh frame page ∷ before) = gap_after before
gap_after (entry.Load frame page ∷ before) = gap_after before
gap_after (entry.Save frame page ∷ before) = gap_after before
gap_after (entry.Do job ∷ before) = gap_after before + 1

-- the page that a frame has
abbrev pub page_in : (before : List Replaced) → (frame : ℕ) → Option ℕ
page_in [] frame = None
page_in (entry.Fresh into page ∷ before) frame = if nat_eq into frame then Some page else page_in before frame
page_in (entry.Load into page ∷ before) frame = if nat_eq into frame then Some page else page_in before frame
page_in (entry.Save from page ∷ before) frame = page_in before frame
page_in (entry.Do job ∷ before) frame = page_in before frame

-- whether it is this page that a frame has
abbrev pub is_page : Option ℕ → (page : ℕ) → Bool
is_page None page = false
is_page (Some other) page = nat_eq other page

-- the gap in which a page last lost its frame: it was saved there, or its frame took a page
abbrev pub lost_in : (before : List Replaced) → (page : ℕ) → ℕ
lost_in [] page = 0
lost_in (entry.Fresh frame other ∷ before) page = if is_page (page_in before frame) page then gap_after before else lost_in before page
lost_in (entry.Load frame other ∷ before) page = if is_page (page_in before frame) page then gap_after before else lost_in before page
lost_in (entry.Save frame other ∷ before) page = if nat_eq other page then gap_after before else lost_in before page
lost_in (entry.Do job ∷ before) page = lost_in before page

-- the reads of what comes next, in the order of its loads
abbrev pub reads_from : (before : List Replaced) → List Replaced → List Read
reads_from before [] = []
reads_from before (entry.Fresh frame page ∷ list) = reads_from (entry.Fresh frame page ∷ before) list
reads_from before (entry.Load frame page ∷ list) = record { page = page; due = gap_after before; lost = lost_in before page } ∷ reads_from (entry.Load frame page ∷ before) list
reads_from before (entry.Save frame page ∷ list) = reads_from (entry.Save frame page ∷ before) list
reads_from before (entry.Do job ∷ list) = reads_from (entry.Do job ∷ before) list

-- the reads of a list, numbered from 0
abbrev pub reads_of : List Replaced → List Read
reads_of list = reads_from [] list

-- what stands for no read
abbrev pub no_read : Read
no_read = record { page = 0; due = 0; lost = 0 }

-- read i
abbrev pub read_at : List Read → (i : ℕ) → Read
read_at reads i = slice_index_or reads i no_read

-- the gap in which a slot is sure to be idle again for read i: that in which read i - buffer + 1 is due, 0 where there is none
abbrev pub freed_for : (buffer : ℕ) → List Read → (i : ℕ) → ℕ
freed_for buffer reads i = if nat_lt (i + 1) buffer then 0 else (read_at reads ((i + 1) - buffer)).due

-- The first gap in which read i may be issued: no more than so many instructions ahead, once its page has left, and once a
-- slot is idle for it.
abbrev pub earliest : (buffer ahead : ℕ) → List Read → (i : ℕ) → ℕ
earliest buffer ahead reads i = max (max ((read_at reads i).due - ahead) (read_at reads i).lost) (freed_for buffer reads i)

-- the gap in which read i is issued: the first in which it may, but not before the read before it
abbrev pub issue_of : (buffer ahead : ℕ) → List Read → (i : ℕ) → ℕ
issue_of buffer ahead reads zero = earliest buffer ahead reads 0
issue_of buffer ahead reads (suc i) = max (issue_of buffer ahead reads i) (earliest buffer ahead reads (suc i))

-- reads from number i on, with the gaps in which they are issued
abbrev pub timed_from : (buffer ahead : ℕ) → (reads : List Read) → (i : ℕ) → List Read → List Timed
timed_from buffer ahead reads i [] = []
timed_from buffer ahead reads i (read ∷ rest) = record { page = read.page; due = read.due; issue = issue_of buffer ahead reads i } ∷ timed_from buffer ahead reads (i + 1) rest

-- the reads with the gaps in which they are issued
abbrev pub timed_of : (buffer ahead : ℕ) → List Read → List Timed
timed_of buffer ahead reads = timed_from buffer ahead reads 0 reads
