-- A program of instructions over the rules of any driver, in the order of emission: each worker keeps
-- the wires of all its instructions, and there are no pages, frames or links of a bounded length.
use Rattle.std.specs.Prelude.{ℕ, ◌==◌, List, [], ◌∷◌, ◌++◌, drop, slice_index, slice_index_or, if◌then◌else◌}
use Rattle.mage_instr.specs.declared.instr.Instr.{Instr}
use Rattle.mage_linked.specs.Transfers.{is_send, is_recv}
use Rattle.mage_linked.specs.Workers.{with_at}
use Rattle.mage_linked.specs.declared.emitted.Emitted.{Emitted}
use Rattle.mage_driver.specs.Rules.{Rules}
use Rattle.mage_driver.specs.Calls.{Call}
use Rattle.mage_driver.specs.Circuits.{Made}
use Rattle.mage_driver.specs.Operations.{circuit_of}

-- a run so far, with the states S of each worker's driver and the wires W
pub record Unplaced (S W : Type 0) : Type 0 where
  pub states : ℕ → S
  -- the wires of each worker's instructions, from the first on; one that defines no value has none
  pub values : ℕ → List (List W)
  -- what one worker has sent to another and that one hasn't taken yet
  pub sent : (from to : ℕ) → List (List W)

-- a run that begins in these states
abbrev pub starting_in : {S W : Type 0} → (ℕ → S) → Unplaced S W
starting_in states = record { states = states; values = λ w. []; sent = λ from to. [] }

-- the wires of argument k of a worker's instruction
abbrev pub wires_of_arg : {S W : Type 0} → Unplaced S W → (worker : ℕ) → Instr → (k : ℕ) → List W
wires_of_arg r worker i k = slice_index_or (r.values worker) (slice_index i.args k) []

-- what one worker sends to another, given anew
abbrev pub with_sent : {S W : Type 0} → Unplaced S W → (from to : ℕ) → List (List W) → Unplaced S W
with_sent r from to queue = record r { sent = with_at r.sent from (with_at (r.sent from) to queue) }

-- the wires of a worker's next instruction
abbrev pub with_wires : {S W : Type 0} → Unplaced S W → (worker : ℕ) → List W → Unplaced S W
with_wires r worker wires =
    record r { values = with_at r.values worker (r.values worker ++ wires ∷ []) }

module _ {W : Type 0} (rules : Rules W) where
  -- the circuit of a worker's instruction, on the wires of its arguments
  abbrev pub made_by : Unplaced rules.State W → Emitted → Made rules.State W (List W)
  made_by r e = circuit_of rules e.instr.op e.instr.width e.instr.imm
      (wires_of_arg r e.worker e.instr 0) (wires_of_arg r e.worker e.instr 1)
      (wires_of_arg r e.worker e.instr 2) (r.states e.worker)

  -- a worker sends the wires of its argument, takes the wires that were sent to it first, or makes a circuit
  abbrev pub after_emitted : Unplaced rules.State W → Emitted → Unplaced rules.State W
  after_emitted r e =
      if is_send e.instr.op then
      with_wires
      (with_sent r e.worker e.instr.imm (r.sent e.worker e.instr.imm ++ wires_of_arg r e.worker e.instr 0 ∷ []))
      e.worker []
      else if is_recv e.instr.op then
      with_wires
      (with_sent r e.instr.imm e.worker (drop 1 (r.sent e.instr.imm e.worker)))
      e.worker (slice_index_or (r.sent e.instr.imm e.worker) 0 [])
      else
      with_wires
      (record r { states = with_at r.states e.worker (made_by r e).state })
      e.worker (made_by r e).wires

  abbrev pub run_of : Unplaced rules.State W → List Emitted → Unplaced rules.State W
  run_of r [] = r
  run_of r (e ∷ es) = run_of (after_emitted r e) es

  -- a worker's calls of its driver, in order, each with the state in which it is made
  abbrev pub calls_of : (worker : ℕ) → Unplaced rules.State W → List Emitted → List (Call rules.State W)
  calls_of worker r [] = []
  calls_of worker r (e ∷ es) =
      (if worker == e.worker then (made_by r e).calls else []) ++ calls_of worker (after_emitted r e) es
