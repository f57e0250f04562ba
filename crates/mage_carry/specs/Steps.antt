-- What a directive changes, and where it breaks the rules.
use Rattle.std.specs.Prelude.{ℕ, ◌+◌, ◌&&◌, ◌||◌, Bool, List, length, Option, Some, None, is_some, option_map, option_and_then, unwrap_or, nat_eq, nat_lt, nat_le, slice_get, slice_index_or, if◌then◌else◌}
use Rattle.mage_instr.specs.declared.instr.Instr.{Instr}
use Rattle.mage_instr.specs.declared.replaced.Job.{Job}
use Rattle.mage_instr.specs.declared.replaced.Spot.{Spot}
use Rattle.mage_instr.specs.declared.directive.Directive.{Directive}
use Rattle.mage_instr.specs.declared.directive.Directive.TheVariants as entry
use Rattle.mage_instr.specs.Opcodes.{arity_of, has_result, width_of_result, width_of_arg}
use Rattle.mage_instr.specs.Sound.{arg_of}
use Rattle.mage_carry.specs.Opcode.{same_op}
use Rattle.mage_carry.specs.State.{Content, nothing, Slot, Idle, Reads, Writes, State, has, may_issue, with_frame, with_slot, with_page}

-- one step after another: where a step breaks, so do both
infixl 10 ◌>>=◌
abbrev pub ◌>>=◌ : {A B : Type 0} → Option A → (A → Option B) → Option B
None >>= f = None
(Some x) >>= f = f x

-- what comes of a step that breaks unless a condition holds
abbrev pub provided : {A : Type 0} → Bool → A → Option A
provided holds x = if holds then Some x else None

-- a page comes new into a frame: nothing stands there
abbrev pub fresh : (frame : ℕ) → State → Option State
fresh frame state = provided (nat_lt frame (length state.frames)) (with_frame frame nothing state)

-- a slot begins to read a page of the store, of which a write has finished
abbrev pub issue_in : (store slot page : ℕ) → State → Option State
issue_in store slot page state = provided (may_issue store slot page state.slots && is_some (state.pages page)) (with_slot slot (Reads page) state)

-- the page that a slot reads
abbrev pub read_by : Slot → Option ℕ
read_by Idle = None
read_by (Reads page) = Some page
read_by (Writes page content) = None

-- the page that a slot reads, where the slot is there
abbrev pub page_read : (slot : ℕ) → List Slot → Option ℕ
page_read slot slots = option_and_then read_by (slice_get slots slot)

-- the frame gets what the page has that a slot reads
abbrev pub finish_in : (slot frame : ℕ) → State → Option State
finish_in slot frame state = do
  page ← page_read slot state.slots
  provided (nat_lt frame (length state.frames)) (with_slot slot Idle (with_frame frame (unwrap_or (state.pages page) nothing) state))

-- a slot begins to write what a frame holds to a page of the store
abbrev pub issue_out : (store slot frame page : ℕ) → State → Option State
issue_out store slot frame page state = do
  content ← slice_get state.frames frame
  provided (may_issue store slot page state.slots) (with_slot slot (Writes page content) state)

-- the state, once a slot has written
abbrev pub after_write : (slot : ℕ) → Slot → State → Option State
after_write slot Idle state = None
after_write slot (Reads page) state = None
after_write slot (Writes page content) state = Some (with_slot slot Idle (with_page page content state))

-- the page has what the slot wrote
abbrev pub finish_out : (slot : ℕ) → State → Option State
finish_out slot state = do
  doing ← slice_get state.slots slot
  after_write slot doing state

-- the width of a variable: that of the result of its instruction
abbrev pub width_of : List Instr → (variable : ℕ) → ℕ
width_of instrs variable = unwrap_or (option_map (λ i. width_of_result i.op i.width) (slice_get instrs variable)) 0

-- whether wires from `offset` on, so many of them, and wires from `other` on have one in common
abbrev pub overlap : (offset width other count : ℕ) → Bool
overlap offset width other count = nat_lt offset (other + count) && nat_lt other (offset + width)

-- what stands at an offset, unless it overlaps `count` wires from `other` on
abbrev pub unless_overlaps : List Instr → (other count offset : ℕ) → Option ℕ → Option ℕ
unless_overlaps instrs other count offset None = None
unless_overlaps instrs other count offset (Some v) = if overlap offset (width_of instrs v) other count then None else Some v

-- `count` wires from `other` on are freed: each variable that overlaps them goes
abbrev pub freed : List Instr → (other count : ℕ) → Content → Content
freed instrs other count content offset = unless_overlaps instrs other count offset (content offset)

-- a variable is put at an offset
abbrev pub put : (offset variable : ℕ) → Content → Content
put offset variable content other = if nat_eq offset other then Some variable else content other

-- a variable takes the place of those that it overlaps
abbrev pub placed : List Instr → (offset width variable : ℕ) → Content → Content
placed instrs offset width variable content = put offset variable (freed instrs offset width content)

-- what stands for no spot
abbrev pub no_spot : Spot
no_spot = record { frame = 0; offset = 0 }

-- whether a job is the instruction, by opcode, width and immediate
abbrev pub is_job_of : Instr → Job → Bool
is_job_of i job = same_op job.op i.op && nat_eq job.width i.width && nat_eq job.imm i.imm

-- whether a variable of this width at a spot lies in the page, which has so many wires
abbrev pub is_within : (wires width : ℕ) → Spot → Bool
is_within wires width spot = nat_le (spot.offset + width) wires

-- whether the variable stands at the spot
abbrev pub stands_at : List Content → (variable : ℕ) → Spot → Bool
stands_at frames variable spot = has (λ content. has (nat_eq variable) (content spot.offset)) (slice_get frames spot.frame)

-- whether argument k of an instruction, if it has one, stands at the spot that the job names
abbrev pub finds : (wires : ℕ) → List Content → Instr → Job → (k : ℕ) → Bool
finds wires frames i job k =
    let spot = slice_index_or job.args k no_spot in
    nat_le (arity_of i.op) k || (is_within wires (width_of_arg i.op i.width i.imm k) spot && stands_at frames (arg_of i k) spot)

-- whether each argument does
abbrev pub finds_all : (wires : ℕ) → List Content → Instr → Job → Bool
finds_all wires frames i job = finds wires frames i job 0 && finds wires frames i job 1 && finds wires frames i job 2

-- a result of this width is put at a spot
abbrev pub result_at : List Instr → (wires width : ℕ) → Spot → State → Option State
result_at instrs wires width spot state = do
  content ← slice_get state.frames spot.frame
  provided (is_within wires width spot) (with_frame spot.frame (placed instrs spot.offset width state.next content) state)

-- the result of the instruction, if it has one, is put at the spot that the job names
abbrev pub result_put : List Instr → (wires : ℕ) → Instr → Job → State → Option State
result_put instrs wires i job state = if has_result i.op then result_at instrs wires (width_of_result i.op i.width) job.out state else Some state

-- one more instruction is done
abbrev pub counted : State → State
counted state = record state { next = state.next + 1 }

-- the next instruction is done
abbrev pub do_job : List Instr → (wires : ℕ) → Job → State → Option State
do_job instrs wires job state = do
  i ← slice_get instrs state.next
  ready ← provided (is_job_of i job && finds_all wires state.frames i job) state
  option_map counted (result_put instrs wires i job ready)

-- what a directive changes, or none where it breaks the rules: a page has so many wires, and the store so many pages
abbrev pub step_of : List Instr → (wires store : ℕ) → State → Directive → Option State
step_of instrs wires store state (entry.Fresh frame page) = fresh frame state
step_of instrs wires store state (entry.IssueIn slot page) = issue_in store slot page state
step_of instrs wires store state (entry.FinishIn slot frame) = finish_in slot frame state
step_of instrs wires store state (entry.IssueOut slot frame page) = issue_out store slot frame page state
step_of instrs wires store state (entry.FinishOut slot) = finish_out slot state
step_of instrs wires store state (entry.Do job) = do_job instrs wires job state
