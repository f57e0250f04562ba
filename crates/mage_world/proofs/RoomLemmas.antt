-- Workers that are made one by one.
use Rattle.std.proofs.Common.{◌≡◌, ◌+◌, ℕ, zero, suc, List, [], ◌∷◌, ◌++◌, length, take, Some, sym, ap, ◌∙◌, subst, arith}
use Rattle.std.specs.Prelude.{slice_get}
use Rattle.std.proofs.lemmas.List.{length-append}
use Rattle.std.proofs.lemmas.List.Elements.{All-push}
use Rattle.mage_verify.specs.Parts.{WorkerPart}
use Rattle.mage_world.specs.declared.slot.Slot.{Slot}
use Rattle.mage_world.specs.declared.slot.Work.TheVariants as work
use Rattle.mage_world.specs.declared.worker.Worker.{Worker}
use Rattle.mage_world.specs.Rooms.{AreNewSlots, IsNewWorker, AreNewWorkers}

pub one_slot_more : (n bytes : ℕ) (slots longer : List Slot) (made : Slot) → AreNewSlots n bytes slots → made.work ≡ work.Idle →
    length made.bytes.items ≡ bytes → longer ≡ slots ++ made ∷ [] → AreNewSlots (n + 1) bytes longer
one_slot_more n bytes slots longer made are idle long is = subst (AreNewSlots (n + 1) bytes) (sym is) (record {
  count_is = length-append slots (made ∷ []) ∙ ap (λ k. k + 1) are.count_is;
  idle = All-push (λ (s : Slot). s.work ≡ work.Idle) slots made are.idle idle;
  long = All-push (λ (s : Slot). length s.bytes.items ≡ bytes) slots made are.long long;
})

one_more : (wb : ℕ) (parts : List WorkerPart) (workers : List Worker) (i : ℕ) (part : WorkerPart) (made : Worker) → slice_get parts i ≡ Some part →
    AreNewWorkers wb (take i parts) workers → IsNewWorker wb part made → AreNewWorkers wb (take (suc i) parts) (workers ++ made ∷ [])
one_more wb [] workers i part made here are new = absurd cc
one_more wb (p ∷ parts) [] zero part made here are new = let same : p ≡ part = cc in (subst (λ (q : WorkerPart). IsNewWorker wb q made) (sym same) new, tt)
one_more wb (p ∷ parts) (w ∷ workers) zero part made here are new = absurd are
one_more wb (p ∷ parts) [] (suc i) part made here are new = absurd are
one_more wb (p ∷ parts) (w ∷ workers) (suc i) part made here are new = (are.0, one_more wb parts workers i part made here are.1 new)

pub one_worker_more : (wb : ℕ) (parts : List WorkerPart) (workers longer : List Worker) (i : ℕ) (part : WorkerPart) (made : Worker) → slice_get parts i ≡ Some part →
    AreNewWorkers wb (take i parts) workers → IsNewWorker wb part made → longer ≡ workers ++ made ∷ [] → AreNewWorkers wb (take (i + 1) parts) longer
one_worker_more wb parts workers longer i part made here are new is =
    let next : suc i ≡ i + 1 = omega arith in
    subst (λ (n : ℕ). AreNewWorkers wb (take n parts) longer) next
    (subst (λ (ws : List Worker). AreNewWorkers wb (take (suc i) parts) ws) (sym is) (one_more wb parts workers i part made here are new))
