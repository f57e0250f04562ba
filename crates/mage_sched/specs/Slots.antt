-- The slots of the buffer, and which slot a move takes.
use Rattle.std.specs.Prelude.{ℕ, List, [], ◌∷◌, ◌++◌, Bool, true, false, nat_eq, unwrap_or, set, replicate, Option, Some, None}
use Rattle.std.specs.List.{position, remove}
use Rattle.mage_instr.specs.declared.replaced.Job.{Job}
use Rattle.mage_instr.specs.declared.directive.Directive.{Directive}
use Rattle.mage_instr.specs.declared.directive.Directive.TheVariants as directive
use Rattle.mage_sched.specs.declared.slot.Slot.{Slot}
use Rattle.mage_sched.specs.declared.slot.Slot.TheVariants as state

-- what is done next, before slots are given out
pub data Move : Type 0 where
  -- a frame takes a page that no move named before
  Enters : (frame page : ℕ) → Move
  -- the write of the page that a frame has is issued
  Writes : (frame page : ℕ) → Move
  -- the read of a page is issued
  Reads : (page : ℕ) → Move
  -- the read of a page is finished, into a frame
  Takes : (frame page : ℕ) → Move
  -- an instruction is done
  Does : Job → Move

-- what each slot does, and the slots that write, in the order in which their writes were issued
pub record Buffer : Type 0 where
  pub slots : List Slot
  pub writes : List ℕ

-- directives, and the buffer after them
pub record Step : Type 0 where
  pub directives : List Directive
  pub buffer : Buffer

-- whether a slot is idle
abbrev pub is_idle : Slot → Bool
is_idle state.Idle = true
is_idle (state.Reads page) = false
is_idle (state.Writes page) = false

-- whether a slot reads a page
abbrev pub reads_page : (page : ℕ) → Slot → Bool
reads_page page state.Idle = false
reads_page page (state.Reads other) = nat_eq page other
reads_page page (state.Writes other) = false

-- whether a slot writes a page
abbrev pub writes_page : (page : ℕ) → Slot → Bool
writes_page page state.Idle = false
writes_page page (state.Reads other) = false
writes_page page (state.Writes other) = nat_eq page other

-- nothing is done
abbrev pub stays : Buffer → Step
stays buffer = record { directives = []; buffer = buffer }

-- one step and then another
abbrev pub then_step : Step → (Buffer → Step) → Step
then_step first next = record { directives = first.directives ++ (next first.buffer).directives; buffer = (next first.buffer).buffer }

-- what is left where one of some slots goes
abbrev pub left_of : Option ℕ → List ℕ → List ℕ
left_of None slots = slots
left_of (Some k) slots = remove slots k

-- some slots without one of them
abbrev pub without : (slot : ℕ) → List ℕ → List ℕ
without slot slots = left_of (position (nat_eq slot) slots) slots

-- a write is finished
abbrev pub finish_out : (slot : ℕ) → Buffer → Step
finish_out slot buffer = record {
  directives = directive.FinishOut slot ∷ [];
  buffer = record { slots = set buffer.slots slot state.Idle; writes = without slot buffer.writes };
}

-- the write in a slot is finished, where there is one
abbrev pub finish_in_slot : Option ℕ → Buffer → Step
finish_in_slot None buffer = stays buffer
finish_in_slot (Some slot) buffer = finish_out slot buffer

-- the write of a page is finished, where one is in flight
abbrev pub finish_write : (page : ℕ) → Buffer → Step
finish_write page buffer = finish_in_slot (position (writes_page page) buffer.slots) buffer

-- the write that was issued first of those in flight is finished
abbrev pub finish_first : List ℕ → Buffer → Step
finish_first [] buffer = stays buffer
finish_first (slot ∷ slots) buffer = finish_out slot buffer

-- room for a transfer, where this slot is idle or none is
abbrev pub room_at : Option ℕ → Buffer → Step
room_at None buffer = finish_first buffer.writes buffer
room_at (Some slot) buffer = stays buffer

-- some slot is idle: where none was, the write that was issued first is finished
abbrev pub make_room : Buffer → Step
make_room buffer = room_at (position is_idle buffer.slots) buffer

-- the lowest slot of some kind, or 0 where there is none
abbrev pub lowest : (Slot → Bool) → Buffer → ℕ
lowest test buffer = unwrap_or (position test buffer.slots) 0

-- a read is issued, in the lowest idle slot
abbrev pub issue_in : (page : ℕ) → Buffer → Step
issue_in page buffer = record {
  directives = directive.IssueIn (lowest is_idle buffer) page ∷ [];
  buffer = record { slots = set buffer.slots (lowest is_idle buffer) (state.Reads page); writes = buffer.writes };
}

-- a write is issued, in the lowest idle slot
abbrev pub issue_out : (frame page : ℕ) → Buffer → Step
issue_out frame page buffer = record {
  directives = directive.IssueOut (lowest is_idle buffer) frame page ∷ [];
  buffer = record { slots = set buffer.slots (lowest is_idle buffer) (state.Writes page); writes = buffer.writes ++ lowest is_idle buffer ∷ [] };
}

-- a read is finished
abbrev pub finish_in : (frame page : ℕ) → Buffer → Step
finish_in frame page buffer = record {
  directives = directive.FinishIn (lowest (reads_page page) buffer) frame ∷ [];
  buffer = record { slots = set buffer.slots (lowest (reads_page page) buffer) state.Idle; writes = buffer.writes };
}

-- one directive that no slot takes part in
abbrev pub says : Directive → Buffer → Step
says one buffer = record { directives = one ∷ []; buffer = buffer }

-- a read waits for the write of its page, and then for a slot
abbrev pub read_issued : (page : ℕ) → Buffer → Step
read_issued page buffer = then_step (then_step (finish_write page buffer) make_room) (issue_in page)

-- a write waits for a slot
abbrev pub write_issued : (frame page : ℕ) → Buffer → Step
write_issued frame page buffer = then_step (make_room buffer) (issue_out frame page)

-- what is done at a move
abbrev pub done : Move → Buffer → Step
done (Enters frame page) buffer = says (directive.Fresh frame page) buffer
done (Writes frame page) buffer = write_issued frame page buffer
done (Reads page) buffer = read_issued page buffer
done (Takes frame page) buffer = finish_in frame page buffer
done (Does job) buffer = says (directive.Do job) buffer

-- what is done at some moves in turn
abbrev pub all_done : List Move → Buffer → Step
all_done [] buffer = stays buffer
all_done (move ∷ moves) buffer = then_step (done move buffer) (all_done moves)

-- so many idle slots
abbrev pub idle_slots : (count : ℕ) → List Slot
idle_slots count = replicate count state.Idle

-- a buffer of so many slots, with nothing in flight
abbrev pub idle_buffer : (count : ℕ) → Buffer
idle_buffer count = record { slots = idle_slots count; writes = [] }
