-- What a world has before its first event.
use Rattle.std.specs.Prelude.{◌≡◌, ℕ, List, [], ◌∷◌, false, None, length, replicate}
use Rattle.mage_bank.specs.Bank.{contents, AreOf}
use Rattle.mage_verify.specs.Parts.{WorkerPart}
use Rattle.mage_verify.specs.Runs as verifier
use Rattle.mage_world.specs.declared.slot.Slot.{Slot}
use Rattle.mage_world.specs.declared.slot.Work.TheVariants as work
use Rattle.mage_world.specs.declared.worker.Worker.{Worker}
use Rattle.mage_world.specs.Seats.{page_bytes}
use Rattle.mage_world.specs.Slots.{AreLong}
use Rattle.std.specs.List.{All}

-- so many idle slots, each with room for so many bytes
pub record AreNewSlots (count bytes : ℕ) (slots : List Slot) : Type 0 where
  pub count_is : length slots ≡ count
  pub idle : All (λ slot. slot.work ≡ work.Idle) slots
  pub long : AreLong bytes slots

-- A worker of a part that has done nothing.
pub record IsNewWorker (wire_bytes : ℕ) (part : WorkerPart) (worker : Worker) : Type 0 where
  pub place : worker.place ≡ 0
  pub wire : worker.wire ≡ 0
  pub finished : worker.finished ≡ false
  pub fault : worker.fault ≡ None
  pub frames : contents worker.frames.items ≡ replicate part.limits.frames (replicate (page_bytes wire_bytes part) 0)
  pub frames_long : AreOf part.limits.frames (page_bytes wire_bytes part) (contents worker.frames.items)
  pub slots : AreNewSlots part.limits.buffer (page_bytes wire_bytes part) worker.slots.items
  pub pages : contents worker.pages.items ≡ replicate part.pages (replicate (page_bytes wire_bytes part) 0)
  pub pages_long : AreOf part.pages (page_bytes wire_bytes part) (contents worker.pages.items)
  pub safe : verifier.IsSafe part
  pub runs : verifier.Runs part

-- a worker of each part
abbrev pub AreNewWorkers : (wire_bytes : ℕ) → List WorkerPart → List Worker → Type 0
AreNewWorkers wire_bytes [] [] = Unit {0}
AreNewWorkers wire_bytes (part ∷ parts) (worker ∷ workers) =
    IsNewWorker wire_bytes part worker × AreNewWorkers wire_bytes parts workers
AreNewWorkers wire_bytes _ _ = ⊥
