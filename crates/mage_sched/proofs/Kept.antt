-- Saves and instructions keep their order, through the moves and the slots.
use Rattle.std.proofs.Common.{◌≡◌, ◌+◌, ℕ, List, [], ◌∷◌, ◌++◌, Bool, true, false, cond, get_or, map, nat_lt, Option, Some, None, refl, ◌∙◌}
use Rattle.std.specs.List.{flat_map, filter}
use Rattle.std.proofs.lemmas.Grind.{flat_map-append}
use Rattle.mage_instr.specs.declared.replaced.Job.{Job}
use Rattle.mage_instr.specs.declared.replaced.Replaced.{Replaced}
use Rattle.mage_instr.specs.declared.replaced.Replaced.TheVariants as entry
use Rattle.mage_instr.specs.declared.directive.Directive.{Directive}
use Rattle.mage_instr.specs.declared.directive.Directive.TheVariants as directive
use Rattle.mage_sched.specs.declared.read.Timed.{Timed}
use Rattle.mage_sched.specs.Schedule.{no_timed, is_ahead_at, issued, issued_ahead, loaded, moves_from, moves_of}
use Rattle.mage_sched.specs.Slots.{Move, Enters, Writes, Reads, Takes, Does, Buffer, done, all_done, finish_first, finish_in_slot, room_at, make_room, finish_write, read_issued, write_issued, issue_in, issue_out, idle_buffer}
use Rattle.mage_sched.specs.Scheduled.{page_written, page_saved, job_done, job_of, OrderIsKept}

-- A part of each directive passes over the finishes of writes.
abbrev Passes : {X : Type 0} → (Directive → List X) → Type 0
Passes part = (slot : ℕ) → part (directive.FinishOut slot) ≡ []

first_passes : {X : Type 0} (part : Directive → List X) → Passes part → (writes : List ℕ) (buffer : Buffer) → flat_map part (finish_first writes buffer).directives ≡ []
first_passes part passes [] buffer = refl
first_passes part passes (slot ∷ slots) buffer = rw (passes slot) refl

room_passes : {X : Type 0} (part : Directive → List X) → Passes part → (idle : Option ℕ) (buffer : Buffer) → flat_map part (room_at idle buffer).directives ≡ []
room_passes part passes None buffer = first_passes part passes buffer.writes buffer
room_passes part passes (Some slot) buffer = refl

slot_passes : {X : Type 0} (part : Directive → List X) → Passes part → (found : Option ℕ) (buffer : Buffer) → flat_map part (finish_in_slot found buffer).directives ≡ []
slot_passes part passes None buffer = refl
slot_passes part passes (Some slot) buffer = rw (passes slot) refl

append_nothing : {X : Type 0} (part : Directive → List X) (front back : List Directive) → flat_map part front ≡ [] → flat_map part (front ++ back) ≡ flat_map part back
append_nothing part front back none = flat_map-append part front back ∙ rw none refl

write_part : {X : Type 0} (part : Directive → List X) → Passes part → (frame page : ℕ) (buffer : Buffer) → flat_map part (write_issued frame page buffer).directives ≡ flat_map part (issue_out frame page (make_room buffer).buffer).directives
write_part part passes frame page buffer = append_nothing part (make_room buffer).directives _ (room_passes part passes _ buffer)

read_part : {X : Type 0} (part : Directive → List X) → Passes part → (page : ℕ) (buffer : Buffer) → flat_map part (read_issued page buffer).directives ≡ flat_map part (issue_in page (make_room (finish_write page buffer).buffer).buffer).directives
read_part part passes page buffer =
    append_nothing part ((finish_write page buffer).directives ++ (make_room (finish_write page buffer).buffer).directives) _
    (append_nothing part (finish_write page buffer).directives _ (slot_passes part passes _ buffer) ∙ room_passes part passes _ (finish_write page buffer).buffer)

-- What each move gives of a part, all moves give in their order.
all_parts : {X : Type 0} (part : Directive → List X) (of : Move → List X) → ((move : Move) (buffer : Buffer) → flat_map part (done move buffer).directives ≡ of move) → (moves : List Move) (buffer : Buffer) → flat_map part (all_done moves buffer).directives ≡ flat_map of moves
all_parts part of each [] buffer = refl
all_parts part of each (move ∷ moves) buffer =
    flat_map-append part (done move buffer).directives (all_done moves (done move buffer).buffer).directives
    ∙ rw (each move buffer, all_parts part of each moves (done move buffer).buffer) refl

-- reads have no part in what these moves give
record Same {X : Type 0} (of : Move → List X) (from : Replaced → List X) : Type 0 where
  enters : (frame page : ℕ) → of (Enters frame page) ≡ from (entry.Fresh frame page)
  writes : (frame page : ℕ) → of (Writes frame page) ≡ from (entry.Save frame page)
  loads : (frame page : ℕ) → from (entry.Load frame page) ≡ []
  reads : (page : ℕ) → of (Reads page) ≡ []
  takes : (frame page : ℕ) → of (Takes frame page) ≡ []
  does : (job : Job) → of (Does job) ≡ from (entry.Do job)

loaded_nothing : {X : Type 0} (of : Move → List X) → ((page : ℕ) → of (Reads page) ≡ []) → ((frame page : ℕ) → of (Takes frame page) ≡ []) → (late : Bool) (frame page : ℕ) → flat_map of (cond late (Takes frame page ∷ []) (Reads page ∷ Takes frame page ∷ [])) ≡ []
loaded_nothing of reads takes true frame page = rw (takes frame page) refl
loaded_nothing of reads takes false frame page = rw (reads page, takes frame page) refl

ahead_nothing : {X : Type 0} (of : Move → List X) → ((page : ℕ) → of (Reads page) ≡ []) → (reads : List Timed) → flat_map of (map issued reads) ≡ []
ahead_nothing of none [] = refl
ahead_nothing of none (read ∷ reads) = rw (none read.page) (ahead_nothing of none reads)

moves_parts : {X : Type 0} (of : Move → List X) (from : Replaced → List X) → Same of from → (reads : List Timed) (t i : ℕ) (list : List Replaced) → flat_map of (moves_from reads t i list) ≡ flat_map from list
moves_parts of from same reads t i [] = refl
moves_parts of from same reads t i (entry.Fresh frame page ∷ list) = rw (same.enters frame page, moves_parts of from same reads t i list) refl
moves_parts of from same reads t i (entry.Save frame page ∷ list) = rw (same.writes frame page, moves_parts of from same reads t i list) refl
moves_parts of from same reads t i (entry.Load frame page ∷ list) =
    flat_map-append of (loaded (get_or reads i no_timed) frame page) (moves_from reads t (i + 1) list)
    ∙ rw (loaded_nothing of same.reads same.takes (nat_lt (get_or reads i no_timed).issue (get_or reads i no_timed).due) frame page, moves_parts of from same reads t (i + 1) list, same.loads frame page) refl
moves_parts of from same reads t i (entry.Do job ∷ list) =
    flat_map-append of (issued_ahead reads t) (Does job ∷ moves_from reads (t + 1) i list)
    ∙ rw (ahead_nothing of same.reads (filter (is_ahead_at t) reads), same.does job, moves_parts of from same reads (t + 1) i list) refl

page_of : Move → List ℕ
page_of (Enters frame page) = []
page_of (Writes frame page) = page ∷ []
page_of (Reads page) = []
page_of (Takes frame page) = []
page_of (Does job) = []

page_of-done : (move : Move) (buffer : Buffer) → flat_map page_written (done move buffer).directives ≡ page_of move
unfolding page_of
page_of-done (Enters frame page) buffer = refl
page_of-done (Writes frame page) buffer = write_part page_written (λ slot. refl) frame page buffer
page_of-done (Reads page) buffer = read_part page_written (λ slot. refl) page buffer
page_of-done (Takes frame page) buffer = refl
page_of-done (Does job) buffer = refl

page_of-same : Same page_of page_saved
unfolding page_of
page_of-same = record { enters = λ frame page. refl; writes = λ frame page. refl; loads = λ frame page. refl; reads = λ page. refl; takes = λ frame page. refl; does = λ job. refl }

job_in : Move → List Job
job_in (Enters frame page) = []
job_in (Writes frame page) = []
job_in (Reads page) = []
job_in (Takes frame page) = []
job_in (Does job) = job ∷ []

job_in-done : (move : Move) (buffer : Buffer) → flat_map job_done (done move buffer).directives ≡ job_in move
unfolding job_in
job_in-done (Enters frame page) buffer = refl
job_in-done (Writes frame page) buffer = write_part job_done (λ slot. refl) frame page buffer
job_in-done (Reads page) buffer = read_part job_done (λ slot. refl) page buffer
job_in-done (Takes frame page) buffer = refl
job_in-done (Does job) buffer = refl

job_in-same : Same job_in job_of
unfolding job_in
job_in-same = record { enters = λ frame page. refl; writes = λ frame page. refl; loads = λ frame page. refl; reads = λ page. refl; takes = λ frame page. refl; does = λ job. refl }

pub order_is_kept : OrderIsKept
order_is_kept buffer ahead list = (
  all_parts page_written page_of page_of-done (moves_of buffer ahead list) (idle_buffer buffer) ∙ moves_parts page_of page_saved page_of-same _ 0 0 list,
  all_parts job_done job_in job_in-done (moves_of buffer ahead list) (idle_buffer buffer) ∙ moves_parts job_in job_of job_in-same _ 0 0 list,
)
