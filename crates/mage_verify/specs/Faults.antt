-- What can go wrong in a memory program.
use Rattle.std.specs.Prelude.{◌+◌, ◌&&◌, ℕ, List, [], ◌∷◌, Bool, true, not, if◌then◌else◌, Option, Some, None, option_map, map}
use Rattle.std.specs.Option.{option_or}
use Rattle.mage_instr.specs.declared.directive.Directive.{Directive}
use Rattle.mage_instr.specs.declared.directive.Directive.TheVariants as entry
use Rattle.mage_instr.specs.declared.directive.MemProgram.{MemProgram}
use Rattle.mage_instr.specs.declared.replaced.Limits.{Limits}
use Rattle.mage_verify.specs.declared.fault.VerifyFault.{VerifyFault}
use Rattle.mage_verify.specs.declared.fault.VerifyFault.TheVariants as wrong
use Rattle.mage_verify.specs.Parts.{WorkerPart, parts_of}
use Rattle.mage_verify.specs.Range.{is_in_range, has_page}
use Rattle.mage_verify.specs.Joint.{waiting_of, differing_of}
use Rattle.mage_verify.specs.State.{State, opening, after, is_in_flight, is_reading, is_writing, is_busy, is_moving}

-- an issue asks for an idle slot, the end of a read for one that reads, and the end of a write for one that writes
abbrev pub slot_is_right : State → Directive → Bool
slot_is_right state (entry.IssueIn slot page) = not (is_in_flight (state.slot slot))
slot_is_right state (entry.FinishIn slot frame) = is_reading (state.slot slot)
slot_is_right state (entry.IssueOut slot frame page) = not (is_in_flight (state.slot slot))
slot_is_right state (entry.FinishOut slot) = is_writing (state.slot slot)
slot_is_right state _ = true

-- an issue asks for a page that no slot in flight names, and that of a read for a stored one
abbrev pub page_is_right : (buffer : ℕ) → State → Directive → Bool
page_is_right buffer state (entry.IssueIn slot page) = not (is_moving buffer state page) && state.stored page
page_is_right buffer state (entry.IssueOut slot frame page) = not (is_moving buffer state page)
page_is_right buffer state _ = true

-- what is wrong with directive d of a worker with so many store pages, who comes to it in this state
abbrev pub fault_at : Limits → (pages worker d : ℕ) → State → Directive → Option VerifyFault
fault_at limits pages worker d state directive =
    if not (is_in_range limits directive && has_page pages directive) then Some (wrong.Range worker d)
    else if not (slot_is_right state directive) then Some (wrong.SlotState worker d)
    else if not (page_is_right limits.buffer state directive) then Some (wrong.PageState worker d)
    else None

-- the first fault of the directives from d on; past the last one no slot may be in flight
abbrev pub fault_from : Limits → (pages worker d : ℕ) → State → List Directive → Option VerifyFault
fault_from limits pages worker d state [] = if is_busy limits.buffer state then Some (wrong.SlotState worker d) else None
fault_from limits pages worker d state (directive ∷ directives) =
    option_or (fault_at limits pages worker d state directive) (fault_from limits pages worker (d + 1) (after state directive) directives)

-- the first fault that a worker's part has by itself
abbrev pub own_fault : WorkerPart → Option VerifyFault
own_fault part = fault_from part.limits part.pages part.worker 0 opening part.directives

-- the first fault of all workers together: one that waits for ever comes before a width
abbrev pub joint_fault : List (List Directive) → Option VerifyFault
joint_fault workers =
    option_or (option_map (λ p. wrong.Links p.worker p.directive) (waiting_of workers))
    (option_map (λ p. wrong.Width p.worker p.directive) (differing_of workers))

-- a fault of the lowest worker that has one
abbrev pub lowest : (WorkerPart → Option VerifyFault) → List WorkerPart → Option VerifyFault
lowest fault [] = None
lowest fault (part ∷ parts) = option_or (fault part) (lowest fault parts)

-- the first fault of parts together: each part by itself comes first, and then what they are to one another
abbrev pub fault_in : List WorkerPart → Option VerifyFault
fault_in parts = option_or (lowest own_fault parts) (joint_fault (map (λ part. part.directives) parts))

-- the first fault of a memory program
abbrev pub fault_of : MemProgram → Option VerifyFault
fault_of plan = fault_in (parts_of plan)
