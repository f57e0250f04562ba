-- The directives of a list: each read is issued in its gap, and slots are given out.
use Rattle.std.specs.Prelude.{◌+◌, ◌&&◌, ℕ, Bool, List, [], ◌∷◌, ◌++◌, map, if◌then◌else◌, nat_eq, nat_lt, slice_index_or, Option, Some, None}
use Rattle.std.specs.List.{filter}
use Rattle.mage_instr.specs.declared.replaced.Replaced.{Replaced}
use Rattle.mage_instr.specs.declared.replaced.Replaced.TheVariants as entry
use Rattle.mage_instr.specs.declared.replaced.Tight.{Tight}
use Rattle.mage_instr.specs.declared.replaced.Tight.TheVariants as tight
use Rattle.mage_instr.specs.declared.directive.Directive.{Directive}
use Rattle.mage_sched.specs.declared.read.Timed.{Timed}
use Rattle.mage_sched.specs.Reads.{reads_of, timed_of}
use Rattle.mage_sched.specs.Slots.{Move, Enters, Writes, Reads, Takes, Does, all_done, idle_buffer}

-- how many instructions a list has
abbrev pub jobs_of : List Replaced → ℕ
jobs_of [] = 0
jobs_of (entry.Fresh frame page ∷ list) = jobs_of list
jobs_of (entry.Load frame page ∷ list) = jobs_of list
jobs_of (entry.Save frame page ∷ list) = jobs_of list
jobs_of (entry.Do job ∷ list) = 1 + jobs_of list

-- what stands for no read
abbrev pub no_timed : Timed
no_timed = record { page = 0; due = 0; issue = 0 }

-- a read is issued
abbrev pub issued : Timed → Move
issued read = Reads read.page

-- whether a read is issued in the gap of instruction t and due later
abbrev pub is_ahead_at : (t : ℕ) → Timed → Bool
is_ahead_at t read = nat_eq read.issue t && nat_lt t read.due

-- the reads that are issued in the gap of instruction t and due later, in their order
abbrev pub issued_ahead : List Timed → (t : ℕ) → List Move
issued_ahead reads t = map issued (filter (is_ahead_at t) reads)

-- a load is the finish of its read, which is issued here where it was not before
abbrev pub loaded : Timed → (frame page : ℕ) → List Move
loaded read frame page = if nat_lt read.issue read.due then Takes frame page ∷ [] else Reads page ∷ Takes frame page ∷ []

-- The moves of a list that begins in the gap of instruction t, and whose first load is read i. At the end of each gap stand
-- the reads that are issued ahead.
abbrev pub moves_from : List Timed → (t i : ℕ) → List Replaced → List Move
moves_from reads t i [] = []
moves_from reads t i (entry.Fresh frame page ∷ list) = Enters frame page ∷ moves_from reads t i list
moves_from reads t i (entry.Save frame page ∷ list) = Writes frame page ∷ moves_from reads t i list
moves_from reads t i (entry.Load frame page ∷ list) = loaded (slice_index_or reads i no_timed) frame page ++ moves_from reads t (i + 1) list
moves_from reads t i (entry.Do job ∷ list) = issued_ahead reads t ++ Does job ∷ moves_from reads (t + 1) i list

-- the moves of a list
abbrev pub moves_of : (buffer ahead : ℕ) → List Replaced → List Move
moves_of buffer ahead list = moves_from (timed_of buffer ahead (reads_of list)) 0 0 list

-- the directives of a list, with so many slots, and reads issued at most so many instructions ahead
abbrev pub schedule_of : (buffer ahead : ℕ) → List Replaced → List Directive
schedule_of buffer ahead list = (all_done (moves_of buffer ahead list) (idle_buffer buffer)).directives

-- the instruction in whose gap the first load or save stands, where a list begins in the gap of instruction t
abbrev pub first_swap : (t : ℕ) → List Replaced → Option ℕ
first_swap t [] = None
first_swap t (entry.Fresh frame page ∷ list) = first_swap t list
first_swap t (entry.Load frame page ∷ list) = Some t
first_swap t (entry.Save frame page ∷ list) = Some t
first_swap t (entry.Do job ∷ list) = first_swap (t + 1) list

-- the first instruction that needs a slot, where there is none
abbrev pub tight_at : Option ℕ → Option Tight
tight_at None = None
tight_at (Some t) = Some (tight.Buffer t)

-- the first instruction that needs a slot, where the buffer has none
abbrev pub buffer_tight : (buffer : ℕ) → List Replaced → Option Tight
buffer_tight buffer list = if nat_eq buffer 0 then tight_at (first_swap 0 list) else None
