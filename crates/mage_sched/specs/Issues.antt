-- Where each read of some directives is issued, read off the directives alone.
use Rattle.std.specs.Prelude.{◌≡◌, ◌+◌, ℕ, List, [], ◌∷◌, map, if◌then◌else◌, nat_eq, unwrap_or, Option, Some, None}
use Rattle.mage_instr.specs.declared.directive.Directive.{Directive}
use Rattle.mage_instr.specs.declared.directive.Directive.TheVariants as directive
use Rattle.mage_sched.specs.declared.read.Read.{Read}
use Rattle.mage_sched.specs.declared.read.Timed.{Timed}
use Rattle.mage_sched.specs.Reads.{timed_of}

-- What some directives did, as far as they went: no table of slots is kept, but what each slot last issued.
pub record Seen : Type 0 where
  -- the instruction in whose gap the next directive stands
  pub gap : ℕ
  -- the page that each frame holds
  pub frames : ℕ → Option ℕ
  -- the page that each page of the store has
  pub store : ℕ → Option ℕ
  -- the store page that each slot last named
  pub named : ℕ → ℕ
  -- the page that the frame of each slot's last write held then
  pub sent : ℕ → Option ℕ
  -- the gap of each slot's last IssueIn
  pub asked : ℕ → ℕ
  -- the gap in which each page last lost its frame: its write was issued there, or its frame took another page
  pub lost : ℕ → ℕ

-- nothing was done yet
abbrev pub unseen : Seen
unseen = record { gap = 0; frames = λ frame. None; store = λ home. None; named = λ slot. 0; sent = λ slot. None; asked = λ slot. 0; lost = λ page. 0 }

-- a function that is this at one number
abbrev pub put : {A : Type 0} → (at : ℕ) → A → (ℕ → A) → ℕ → A
put at new old other = if nat_eq at other then new else old other

-- a page, or none, loses its frame in a gap
abbrev pub loses : Option ℕ → (gap : ℕ) → (lost : ℕ → ℕ) → ℕ → ℕ
loses None gap lost = lost
loses (Some page) gap lost = put page gap lost

-- A frame holds the page that its last Fresh named, or after a FinishIn the page of the store page that was read. A store page
-- has the page that the frame of its last finished IssueOut held there.
abbrev pub seen_after : Directive → Seen → Seen
seen_after (directive.Fresh frame page) seen = record seen { frames = put frame (Some page) seen.frames; lost = loses (seen.frames frame) seen.gap seen.lost }
seen_after (directive.IssueIn slot home) seen = record seen { named = put slot home seen.named; asked = put slot seen.gap seen.asked }
seen_after (directive.FinishIn slot frame) seen = record seen { frames = put frame (seen.store (seen.named slot)) seen.frames; lost = loses (seen.frames frame) seen.gap seen.lost }
seen_after (directive.IssueOut slot frame home) seen = record seen { named = put slot home seen.named; sent = put slot (seen.frames frame) seen.sent; lost = loses (seen.frames frame) seen.gap seen.lost }
seen_after (directive.FinishOut slot) seen = record seen { store = put (seen.named slot) (seen.sent slot) seen.store }
seen_after (directive.Do job) seen = record seen { gap = seen.gap + 1 }

-- the read that a slot finishes: the page that its frame holds then, when it is due, and when the page last left
abbrev pub read_of : (slot : ℕ) → Seen → Read
read_of slot seen =
    let page = unwrap_or (seen.store (seen.named slot)) 0 in
    record { page = page; due = seen.gap; lost = seen.lost page }

-- the reads of some directives, in the order of their finishes
abbrev pub reads_in : Seen → List Directive → List Read
reads_in seen [] = []
reads_in seen (directive.Fresh frame page ∷ list) = reads_in (seen_after (directive.Fresh frame page) seen) list
reads_in seen (directive.IssueIn slot home ∷ list) = reads_in (seen_after (directive.IssueIn slot home) seen) list
reads_in seen (directive.FinishIn slot frame ∷ list) = read_of slot seen ∷ reads_in (seen_after (directive.FinishIn slot frame) seen) list
reads_in seen (directive.IssueOut slot frame home ∷ list) = reads_in (seen_after (directive.IssueOut slot frame home) seen) list
reads_in seen (directive.FinishOut slot ∷ list) = reads_in (seen_after (directive.FinishOut slot) seen) list
reads_in seen (directive.Do job ∷ list) = reads_in (seen_after (directive.Do job) seen) list

-- the gap in which each of these reads was issued: that of the last IssueIn of its slot
abbrev pub issues_in : Seen → List Directive → List ℕ
issues_in seen [] = []
issues_in seen (directive.Fresh frame page ∷ list) = issues_in (seen_after (directive.Fresh frame page) seen) list
issues_in seen (directive.IssueIn slot home ∷ list) = issues_in (seen_after (directive.IssueIn slot home) seen) list
issues_in seen (directive.FinishIn slot frame ∷ list) = seen.asked slot ∷ issues_in (seen_after (directive.FinishIn slot frame) seen) list
issues_in seen (directive.IssueOut slot frame home ∷ list) = issues_in (seen_after (directive.IssueOut slot frame home) seen) list
issues_in seen (directive.FinishOut slot ∷ list) = issues_in (seen_after (directive.FinishOut slot) seen) list
issues_in seen (directive.Do job ∷ list) = issues_in (seen_after (directive.Do job) seen) list

-- each read is issued in the gap that the rule gives for the reads
abbrev pub AreTimely : (buffer ahead : ℕ) → List Directive → Type 0
AreTimely buffer ahead directives = issues_in unseen directives ≡ map (λ (read : Timed). read.issue) (timed_of buffer ahead (reads_in unseen directives))
