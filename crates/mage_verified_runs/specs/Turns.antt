-- The verifier's joint order as turns of the core, which hands wires over one by one.
use Rattle.std.specs.Prelude.{◌+◌, ℕ, zero, suc, List, [], ◌∷◌, ◌++◌, length, replicate}
use Rattle.mage_instr.specs.declared.directive.Directive.{Directive}
use Rattle.mage_network.specs.Together.{Joint, Alone, Hands}
use Rattle.mage_verify.specs.declared.turn.Turn.{Turn}
use Rattle.mage_verify.specs.declared.turn.Turn.TheVariants as turn
use Rattle.mage_verify.specs.Joint.{next_of, width_at, after_turn, lists_at, none_done, order_of}

-- a turn of the verifier: a directive alone, or each wire of a value
abbrev pub wire_turns : (all : ℕ → List Directive) → (done : ℕ → ℕ) → Turn → List Joint
wire_turns all done (turn.Alone worker) = Alone worker ∷ []
wire_turns all done (turn.Hands source target) =
    replicate (width_at (next_of all done source)) (Hands source target)

-- the same of some turns, in order
abbrev pub all_wire_turns : (all : ℕ → List Directive) → (done : ℕ → ℕ) → List Turn → List Joint
all_wire_turns all done [] = []
all_wire_turns all done (next ∷ turns) =
    wire_turns all done next ++ all_wire_turns all (after_turn next done) turns

-- each of so many workers, from one on, finishes its driver
abbrev pub finishing : (from count : ℕ) → List Joint
finishing from zero = []
finishing from (suc count) = Alone from ∷ finishing (from + 1) count

-- all turns of the workers: in the verifier's order, and then each finishes its driver
abbrev pub verified_turns : List (List Directive) → List Joint
verified_turns workers =
    all_wire_turns (lists_at workers) none_done (order_of workers) ++ finishing 0 (length workers)
