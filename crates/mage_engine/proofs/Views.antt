-- A machine of which some parts changed.
use Rattle.std.proofs.Common.{◌≡◌, ℕ, List, Option, ap₂, ◌∙◌}
use Rattle.mage_instr.specs.declared.fault.MachineFault.{MachineFault}
use Rattle.mage_driver.specs.Calls.{Told}
use Rattle.mage_port.specs.Port.{PortTold}
use Rattle.mage_bank.specs.Bank.{bank_of, lengths_of}
use Rattle.mage_verify.specs.Parts.{WorkerPart}
use Rattle.mage_engine.specs.Seen.{Seen}

-- what is seen of a machine of these parts
abbrev pub seen_of : {S : Type 0} (part : WorkerPart) (driver : Told S) (port : PortTold) (place wire : ℕ) (frames : List (List ℕ)) (fault : Option MachineFault) → Seen S
seen_of part driver port place wire frames fault = record {
  part = part;
  driver = driver;
  port = port;
  place = place;
  wire = wire;
  bank = bank_of frames;
  lengths = lengths_of frames;
  fault = fault;
}

pub changed : {S : Type 0} (m : Seen S) (place wire : ℕ) (d d' : Told S) (p p' : PortTold) (b b' : ℕ → List ℕ) (l : List ℕ) →
    d ≡ d' → p ≡ p' → b ≡ b' → l ≡ m.lengths →
    record m { driver = d; port = p; place = place; wire = wire; bank = b; lengths = l } ≡
    record m { driver = d'; port = p'; place = place; wire = wire; bank = b' }
changed m place wire d d' p p' b b' l ed ep eb el =
    ap₂ (λ (x : Told _) (y : PortTold). record m { driver = x; port = y; place = place; wire = wire; bank = b; lengths = l }) ed ep
    ∙ ap₂ (λ (x : ℕ → List ℕ) (y : List ℕ). record m { driver = d'; port = p'; place = place; wire = wire; bank = x; lengths = y }) eb el
