-- What a program of instructions means: they run in the order of their emission, and each acts on
-- whole numbers as the table of opcodes says.
use Rattle.std.specs.Prelude.{ℕ, ◌==◌, List, [], ◌∷◌, ◌++◌, map, drop, length, slice_index, if◌then◌else◌}
use Rattle.mage_instr.specs.Computed.{computed}
use Rattle.mage_instr.specs.declared.instr.Instr.{Instr}
use Rattle.mage_instr.specs.declared.instr.Program.{Program}
use Rattle.mage_instr.specs.declared.op.Op.{Op}
use Rattle.mage_instr.specs.declared.op.Op.TheVariants as op
use Rattle.mage_linked.specs.Emission.{emission_of}
use Rattle.mage_linked.specs.Workers.{list_at, with_at, below}
use Rattle.mage_linked.specs.declared.emitted.Emitted.{Emitted}
use Rattle.mage_meaning.specs.Given.{Given}

-- a run of instructions so far
pub record Running : Type 0 where
  -- the values of each worker's instructions so far; an instruction that defines none counts as 0
  pub values : ℕ → List ℕ
  -- each worker's input values that aren't taken yet
  pub garbler : ℕ → List ℕ
  pub evaluator : ℕ → List ℕ
  -- each worker's outputs
  pub outputs : ℕ → List ℕ
  -- what one worker has sent to another and that one hasn't taken yet
  pub sent : (from to : ℕ) → List ℕ

-- the value of argument k of a worker's instruction
abbrev pub arg : Running → (worker : ℕ) → Instr → (k : ℕ) → ℕ
arg r worker i k = slice_index (r.values worker) (slice_index i.args k)

-- the instruction defines this value
abbrev pub with_value : (worker value : ℕ) → Running → Running
with_value worker value r =
    record r { values = with_at r.values worker (r.values worker ++ value ∷ []) }

-- an instruction that computes, on its arguments
abbrev pub computes : Op → (worker : ℕ) → Instr → Running → Running
computes o worker i r =
    let value = computed o i.width i.imm (arg r worker i 0) (arg r worker i 1) (arg r worker i 2) in
    with_value worker value r

-- what an instruction does by its opcode: an input comes from the garbler where imm is 0, else from
-- the evaluator; for `Send` and `Recv` imm is the other worker
abbrev pub acted : Op → (worker : ℕ) → Instr → Running → Running
acted op.Input worker i r =
    if i.imm == 0 then
    with_value worker (slice_index (r.garbler worker) 0)
    (record r { garbler = with_at r.garbler worker (drop 1 (r.garbler worker)) })
    else
    with_value worker (slice_index (r.evaluator worker) 0)
    (record r { evaluator = with_at r.evaluator worker (drop 1 (r.evaluator worker)) })
acted op.Output worker i r =
    let outputs = r.outputs worker ++ arg r worker i 0 ∷ [] in
    with_value worker 0 (record r { outputs = with_at r.outputs worker outputs })
acted op.Send worker i r =
    let queue = r.sent worker i.imm ++ arg r worker i 0 ∷ [] in
    let sent = with_at r.sent worker (with_at (r.sent worker) i.imm queue) in
    with_value worker 0 (record r { sent = sent })
acted op.Recv worker i r =
    let queue = drop 1 (r.sent i.imm worker) in
    with_value worker (slice_index (r.sent i.imm worker) 0)
    (record r { sent = with_at r.sent i.imm (with_at (r.sent i.imm) worker queue) })
acted op.Const worker i r = computes op.Const worker i r
acted op.Add worker i r = computes op.Add worker i r
acted op.Sub worker i r = computes op.Sub worker i r
acted op.Mul worker i r = computes op.Mul worker i r
acted op.And worker i r = computes op.And worker i r
acted op.Or worker i r = computes op.Or worker i r
acted op.Xor worker i r = computes op.Xor worker i r
acted op.Not worker i r = computes op.Not worker i r
acted op.Eq worker i r = computes op.Eq worker i r
acted op.Lt worker i r = computes op.Lt worker i r
acted op.Mux worker i r = computes op.Mux worker i r
acted op.Shl worker i r = computes op.Shl worker i r
acted op.Shr worker i r = computes op.Shr worker i r
acted op.Resize worker i r = computes op.Resize worker i r
acted op.Div worker i r = computes op.Div worker i r
acted op.Rem worker i r = computes op.Rem worker i r
acted op.Count worker i r = computes op.Count worker i r
acted op.Min worker i r = computes op.Min worker i r
acted op.Max worker i r = computes op.Max worker i r

-- what an instruction does
unfoldable pub after_instr : (worker : ℕ) → Instr → Running → Running
after_instr worker i r = acted i.op worker i r

-- how it begins
abbrev pub start : Given → Running
start given = record {
  values = λ worker. [];
  garbler = list_at given.garbler;
  evaluator = list_at given.evaluator;
  outputs = λ worker. [];
  sent = λ from to. [];
}

-- emitted instructions, one after the other
abbrev pub run_all : List Emitted → Running → Running
run_all [] r = r
run_all (e ∷ es) r = run_all es (after_instr e.worker e.instr r)

-- each worker's outputs, in order
unfoldable pub means_of : Program → Given → List (List ℕ)
means_of program given =
    map (run_all (emission_of program) (start given)).outputs (below (length program.workers))
