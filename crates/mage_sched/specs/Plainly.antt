-- Directives read plainly: with the pages that are transferred, and as a list in which each transfer is done at once.
use Rattle.std.specs.Prelude.{ℕ, List, [], ◌∷◌, ◌++◌, unwrap_or}
use Rattle.mage_instr.specs.declared.replaced.Replaced.{Replaced}
use Rattle.mage_instr.specs.declared.replaced.Replaced.TheVariants as entry
use Rattle.mage_instr.specs.declared.directive.Directive.{Directive}
use Rattle.mage_instr.specs.declared.directive.Directive.TheVariants as directive
use Rattle.mage_sched.specs.declared.slot.Slot.{Slot}
use Rattle.mage_sched.specs.declared.slot.Slot.TheVariants as state
use Rattle.mage_sched.specs.Issues.{Seen, seen_after}
use Rattle.mage_sched.specs.Turns.{Flight, flight_after}

-- A directive that names the page that its transfer is of: one is read that the store page has, and one is written that the
-- frame holds. Where there is none it is 0.
abbrev pub with_page : Seen → Directive → Directive
with_page seen (directive.Fresh frame page) = directive.Fresh frame page
with_page seen (directive.IssueIn slot home) = directive.IssueIn slot (unwrap_or (seen.store home) 0)
with_page seen (directive.FinishIn slot frame) = directive.FinishIn slot frame
with_page seen (directive.IssueOut slot frame home) = directive.IssueOut slot frame (unwrap_or (seen.frames frame) 0)
with_page seen (directive.FinishOut slot) = directive.FinishOut slot
with_page seen (directive.Do job) = directive.Do job

-- the same of some directives
abbrev pub paged_in : Seen → List Directive → List Directive
paged_in seen [] = []
paged_in seen (one ∷ list) = with_page seen one ∷ paged_in (seen_after one seen) list

-- the page that a slot reads or writes, or 0
abbrev pub page_of : Slot → ℕ
page_of state.Idle = 0
page_of (state.Reads page) = page
page_of (state.Writes page) = page

-- a write is done when it is issued, and a read when it is finished
abbrev pub plain_entry : Flight → Directive → List Replaced
plain_entry flight (directive.Fresh frame page) = entry.Fresh frame page ∷ []
plain_entry flight (directive.IssueIn slot page) = []
plain_entry flight (directive.FinishIn slot frame) = entry.Load frame (page_of (flight.does slot)) ∷ []
plain_entry flight (directive.IssueOut slot frame page) = entry.Save frame page ∷ []
plain_entry flight (directive.FinishOut slot) = []
plain_entry flight (directive.Do job) = entry.Do job ∷ []

-- the same of some directives
abbrev pub plainly : Flight → List Directive → List Replaced
plainly flight [] = []
plainly flight (one ∷ list) = plain_entry flight one ++ plainly (flight_after one flight) list
