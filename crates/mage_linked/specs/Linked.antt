-- Programs whose workers are linked.
use Rattle.std.specs.Prelude.{◌≡◌, ◌≢◌, ◌<◌, ℕ, Bool, false, ◌||◌, List, [], ◌∷◌, length}
use Rattle.mage_instr.specs.declared.instr.Program.{Program}
use Rattle.mage_instr.specs.declared.op.Op.{Op}
use Rattle.mage_instr.specs.declared.op.Op.TheVariants as op
use Rattle.mage_linked.specs.declared.emitted.Emitted.{Emitted}
use Rattle.mage_linked.specs.Emission.{emission_of}
use Rattle.mage_linked.specs.Transfers.{is_send, is_recv}

-- whether the opcode speaks of another worker
abbrev pub is_transfer : Op → Bool
is_transfer o = is_send o || is_recv o

-- one worker sends what another receives, in the same width
pub record IsTransfer (workers : ℕ) (send recv : Emitted) : Type 0 where
  pub sends : send.instr.op ≡ op.Send
  pub receives : recv.instr.op ≡ op.Recv
  pub to : send.instr.imm ≡ recv.worker
  pub from : recv.instr.imm ≡ send.worker
  pub apart : send.worker ≢ recv.worker
  pub sender : send.worker < workers
  pub receiver : recv.worker < workers
  pub same_width : send.instr.width ≡ recv.instr.width

-- Instructions in the order of their emission: each is one of a worker below the number of workers
-- that speaks of no other worker, or a Send that is directly followed by its Recv.
pub data AreLinked (workers : ℕ) : List Emitted → Type 0 where
  nothing : AreLinked workers []
  alone : {e : Emitted} {others : List Emitted} →
      is_transfer e.instr.op ≡ false → e.worker < workers → AreLinked workers others →
      AreLinked workers (e ∷ others)
  transfer : {send recv : Emitted} {others : List Emitted} →
      IsTransfer workers send recv → AreLinked workers others →
      AreLinked workers (send ∷ recv ∷ others)

-- the program's instructions, in the order of their emission, are
abbrev pub IsLinked : Program → Type 0
IsLinked program = AreLinked (length program.workers) (emission_of program)
