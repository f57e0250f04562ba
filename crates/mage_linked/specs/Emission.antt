-- The instructions of a program in the order of their emission.
use Rattle.std.specs.Prelude.{ℕ, ◌==◌, List, [], ◌∷◌, map, drop, length}
use Rattle.std.specs.List.{filter}
use Rattle.mage_instr.specs.declared.instr.Instr.{Instr}
use Rattle.mage_instr.specs.declared.instr.Program.{Program}
use Rattle.mage_linked.specs.declared.emitted.Emitted.{Emitted}
use Rattle.mage_linked.specs.Workers.{list_at, with_at, below}

-- a worker's next instruction, where it has one left, in front of the others
abbrev pub in_front : (worker : ℕ) → (left : List Instr) → List Emitted → List Emitted
in_front worker [] others = others
in_front worker (next ∷ rest) others = record { worker = worker; instr = next } ∷ others

-- in the order of these workers each does its next instruction; `left` are those that each has left
abbrev pub emission_from : (left : ℕ → List Instr) → (order : List ℕ) → List Emitted
emission_from left [] = []
emission_from left (worker ∷ order) =
    in_front worker (left worker) (emission_from (with_at left worker (drop 1 (left worker))) order)

-- the instructions of a program, each with its worker
abbrev pub emission_of : Program → List Emitted
emission_of program = emission_from (list_at program.workers) program.order

-- the instructions of a worker
abbrev pub own_instrs : List Emitted → (worker : ℕ) → List Instr
own_instrs emitted worker = map (λ e. e.instr) (filter (λ e. e.worker == worker) emitted)

-- how many instructions a worker has
abbrev pub count_of : (worker : ℕ) → List Emitted → ℕ
count_of worker emitted = length (filter (λ e. e.worker == worker) emitted)

-- the program of emitted instructions
abbrev pub program_of : (workers : ℕ) → List Emitted → Program
program_of workers emitted = record {
  workers = map (own_instrs emitted) (below workers);
  order = map (λ e. e.worker) emitted;
}
