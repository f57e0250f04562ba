-- A machine that was just made.
use Rattle.std.proofs.Common.{◌≡◌, ◌*◌, ℕ, zero, suc, false, List, ◌∷◌, replicate, None, slice_get, refl, sym, ap, ap₂, ◌∙◌, arith}
use Rattle.std.proofs.lemmas.List.{length-replicate}
use Rattle.mage_driver.specs.declared.standing.Standing.TheVariants as standing
use Rattle.mage_driver.specs.Rules.{Rules}
use Rattle.mage_driver.specs.Calls.{Told}
use Rattle.mage_bank.specs.Bank.{bank_of, lengths_of}
use Rattle.mage_bank.proofs.Banking.{bank_opened}
use Rattle.mage_port.specs.Port.{PortTold}
use Rattle.mage_verify.specs.Parts.{WorkerPart}
use Rattle.mage_verify.specs.Runs.{IsSafe, Runs}
use Rattle.mage_engine.specs.Ready.{IsReady, Serves, opened, does_of}
use Rattle.mage_engine.proofs.Views.{seen_of}
use Rattle.mage_engine.proofs.Advancing.{some_wires}

lengths_opened : (count bytes : ℕ) → lengths_of (replicate count (replicate bytes 0)) ≡ replicate count bytes
lengths_opened zero bytes = refl
lengths_opened (suc count) bytes = ap₂ (λ (n : ℕ) (ns : List ℕ). n ∷ ns) (length-replicate bytes 0) (lengths_opened count bytes)

module _ {W : Type 0} (rules : Rules W) (wire_bytes : ℕ) (same : rules.wire_bytes ≡ wire_bytes) (part : WorkerPart) (driver : Told rules.State) (port : PortTold) (safe : IsSafe part) where
  pub opened_so : (frames : List (List ℕ)) → frames ≡ replicate part.limits.frames (replicate (part.limits.page * wire_bytes) 0) →
      seen_of part driver port 0 0 frames None ≡ opened rules part driver port
  opened_so frames are =
      let bytes : part.limits.page * wire_bytes ≡ part.limits.page * rules.wire_bytes = ap (λ n. part.limits.page * n) (sym same) in
      let is : frames ≡ replicate part.limits.frames (replicate (part.limits.page * rules.wire_bytes) 0) = are ∙ ap (λ n. replicate part.limits.frames (replicate n 0)) bytes in
      ap₂ (λ (b : ℕ → List ℕ) (l : List ℕ). record (seen_of part driver port 0 0 frames None) { bank = b; lengths = l })
      (ap bank_of is ∙ bank_opened part.limits.frames (part.limits.page * rules.wire_bytes) safe.limits.some_frame)
      (ap lengths_of is ∙ lengths_opened part.limits.frames (part.limits.page * rules.wire_bytes))

  pub ready_first : Runs part → driver.standing ≡ standing.Running → Serves wire_bytes port part → IsReady rules.wire_bytes false (opened rules part driver port)
  ready_first runs running serves = record {
    safe = safe;
    runs = runs;
    within = omega arith;
    wire = some_wires part.worker (slice_get part.directives 0) (safe.fields.each 0);
    lengths = refl;
    bytes = serves.bytes ∙ ap (λ n. part.limits.page * n) (sym same);
    count = serves.slots;
    takes = serves.takes;
    slots = λ slot. ap does_of (serves.unused.idle slot);
    held = λ page is. absurd cc;
    standing = running;
    early = λ is. absurd cc;
  }
