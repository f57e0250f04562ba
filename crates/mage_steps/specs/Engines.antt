-- What the engine of one worker does next, directive by directive, over the rules of any driver.
use Rattle.std.specs.Prelude.{ℕ, suc, ◌==◌, List, [], ◌∷◌, Bool, true, false, if◌then◌else◌, Option, Some, None, nat_lt, slice_get, slice_index_or}
use Rattle.mage_instr.specs.declared.directive.Directive.{Directive}
use Rattle.mage_instr.specs.declared.directive.Directive.TheVariants as entry
use Rattle.mage_instr.specs.declared.op.Op.{Op}
use Rattle.mage_instr.specs.declared.op.Op.TheVariants as op
use Rattle.mage_instr.specs.declared.replaced.Job.{Job}
use Rattle.mage_instr.specs.declared.replaced.Spot.{Spot}
use Rattle.mage_instr.specs.Opcodes.{arity_of, has_result, width_of_arg}
use Rattle.mage_network.specs.Network.{put}
use Rattle.mage_network.specs.Workers.{Act, Moves, Sends, Takes, Stops}
use Rattle.mage_network.specs.Slots.{Reads, Writes, Doing, Acts, Asks, Finishes_read, Finishes_write}
use Rattle.mage_driver.specs.Rules.{Rules}
use Rattle.mage_driver.specs.Calls.{Call, Finish, call_of}
use Rattle.mage_driver.specs.Circuits.{Made}
use Rattle.mage_driver.specs.Operations.{circuit_of}
use Rattle.mage_steps.specs.Frames.{cleared, spot_of_wire, wire_at, wires_at, with_wires, sent_form, received_form}

-- an engine: how many directives are done, and how many wires of the Send or Recv that comes next;
-- its driver's state, and whether the driver is finished; and the bytes of each frame
pub record Engine (S : Type 0) : Type 0 where
  pub place : ℕ
  pub wire : ℕ
  pub driver : S
  pub is_finished : Bool
  pub bank : ℕ → List ℕ

-- the spot that stands for none
abbrev pub no_spot : Spot
no_spot = record { frame = 0; offset = 0 }

-- a directive is done
abbrev pub advanced : {S : Type 0} → Engine S → Engine S
advanced engine = record engine { place = suc engine.place; wire = 0 }

-- a wire more of a value of this width is done, and with the last one the directive
abbrev pub past_wire : {S : Type 0} → (width : ℕ) → Engine S → Engine S
past_wire width engine =
    if suc engine.wire == width then advanced engine else record engine { wire = suc engine.wire }

module _ {W : Type 0} (rules : Rules W) where
  -- what an engine says: the calls of its driver, each with the state in which it is made
  abbrev pub Acting : Type 0
  Acting = Act (Engine rules.State) (Call rules.State W) (List ℕ)

  abbrev pub Next : Type 0
  Next = Doing (Engine rules.State) (Call rules.State W) (List ℕ) (List ℕ)

  -- the wires of argument k, where there is one
  abbrev pub operand : Job → (bank : ℕ → List ℕ) → (k : ℕ) → List W
  operand job bank k =
      if nat_lt k (arity_of job.op)
      then wires_at rules bank (slice_index_or job.args k no_spot) (width_of_arg job.op job.width
      job.imm k)
      else []

  -- what the circuit of an instruction comes to on the wires of its arguments
  abbrev pub made_of : Job → Engine rules.State → Made rules.State W (List W)
  made_of job engine = circuit_of rules job.op job.width job.imm
      (operand job engine.bank 0) (operand job engine.bank 1) (operand job engine.bank 2)
      engine.driver

  -- the frames once a result stands at its spot, where there is one
  abbrev pub with_result : Job → (bank : ℕ → List ℕ) → List W → ℕ → List ℕ
  with_result job bank wires =
      if has_result job.op then with_wires rules bank job.out wires else bank

  -- a circuit is made, and its result stored
  abbrev pub computes : Job → Engine rules.State → Acting
  computes job engine = Moves (made_of job engine).calls (record (advanced engine) {
    driver = (made_of job engine).state;
    bank = with_result job engine.bank (made_of job engine).wires;
  })

  -- the next wire of the argument goes to the other worker
  abbrev pub sends_wire : Job → Engine rules.State → Acting
  sends_wire job engine = Sends job.imm
      (sent_form rules
      (wire_at rules engine.bank (spot_of_wire (slice_index_or job.args 0 no_spot) engine.wire)))
      (past_wire job.width engine)

  -- the next wire of the result comes from the other worker
  abbrev pub takes_wire : Job → Engine rules.State → Acting
  takes_wire job engine = Takes job.imm
      (λ bytes. past_wire job.width (record engine {
        bank = with_wires rules engine.bank (spot_of_wire job.out engine.wire)
            (received_form rules bytes ∷ []);
      }))

  abbrev pub act_of_op : Op → Job → Engine rules.State → Acting
  act_of_op op.Input = computes
  act_of_op op.Const = computes
  act_of_op op.Output = computes
  act_of_op op.Add = computes
  act_of_op op.Sub = computes
  act_of_op op.Mul = computes
  act_of_op op.And = computes
  act_of_op op.Or = computes
  act_of_op op.Xor = computes
  act_of_op op.Not = computes
  act_of_op op.Eq = computes
  act_of_op op.Lt = computes
  act_of_op op.Mux = computes
  act_of_op op.Shl = computes
  act_of_op op.Shr = computes
  act_of_op op.Resize = computes
  act_of_op op.Send = sends_wire
  act_of_op op.Recv = takes_wire
  act_of_op op.Div = computes
  act_of_op op.Rem = computes
  act_of_op op.Count = computes
  act_of_op op.Min = computes
  act_of_op op.Max = computes

  -- A read's bytes fill a frame as they are, and a write takes a frame's bytes as they are.
  abbrev pub doing_of : (page : ℕ) → Directive → Engine rules.State → Next
  doing_of page (entry.Fresh frame fresh) engine =
      Acts (Moves [] (record (advanced engine) {
        bank =
            put engine.bank frame (cleared rules page);
      }))
  doing_of page (entry.IssueIn slot stored) engine = Asks slot (Reads stored) (advanced engine)
  doing_of page (entry.FinishIn slot frame) engine = Finishes_read slot
      (λ bytes. record (advanced engine) { bank = put engine.bank frame bytes })
  doing_of page (entry.IssueOut slot frame stored) engine =
      Asks slot (Writes stored (engine.bank frame)) (advanced engine)
  doing_of page (entry.FinishOut slot) engine = Finishes_write slot (advanced engine)
  doing_of page (entry.Do job) engine = Acts (act_of_op job.op job engine)

  -- an engine whose driver is finished
  abbrev pub finishes : Engine rules.State → Engine rules.State
  finishes engine = record engine { driver = rules.finish engine.driver; is_finished = true }

  -- past its last directive an engine finishes its driver, and then stops
  abbrev pub ends : Engine rules.State → Acting
  ends engine =
      if engine.is_finished
      then Stops
      else Moves (call_of rules engine.driver Finish ∷ []) (finishes engine)

  abbrev pub doing_at : (page : ℕ) → Option Directive → Engine rules.State → Next
  doing_at page (Some directive) engine = doing_of page directive engine
  doing_at page None engine = Acts (ends engine)

  -- what the engine of a worker with these directives does next
  abbrev pub doing : (page : ℕ) → List Directive → Engine rules.State → Next
  doing page directives engine = doing_at page (slice_get directives engine.place) engine

  -- before its first directive
  abbrev pub opened : (page : ℕ) → rules.State → Engine rules.State
  opened page driver = record {
    place = 0;
    wire = 0;
    driver = driver;
    is_finished = false;
    bank = λ frame. cleared rules page;
  }
