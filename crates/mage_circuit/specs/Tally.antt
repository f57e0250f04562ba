-- The rules of the driver that counts its calls and stops at one of them.
use Rattle.std.specs.Prelude.{◌≡◌, ℕ, ◌+◌, ◌==◌, [], Bool, true, false, not, ◌&&◌, Option, Some, None, if◌then◌else◌, replicate, slice_index, ◌%◌, ◌∷◌}
use Rattle.mage_instr.specs.declared.fault.DriverFault.TheVariants as fault
use Rattle.mage_instr.specs.declared.fault.DriverFault.{DriverFault}
use Rattle.mage_driver.specs.declared.standing.Standing.{Standing}
use Rattle.mage_driver.specs.Rules.{Rules}
use Rattle.mage_driver.specs.Calls.{Told}

pub record Tally : Type 0 where
  -- how many calls were answered Ok, and how many will be
  pub calls : ℕ
  pub last : ℕ
  -- how many of them were ANDs
  pub ands : ℕ

-- the driver as its callers see it
pub record TallyMoment : Type 0 where
  pub state : Tally
  pub standing : Standing

-- what it tells: it has no source and no sink that could fail, and its state is always told
abbrev pub told_of : TallyMoment → Told Tally
told_of d = record { state = d.state; standing = d.standing; faults = 0; told = true }

-- one call more
abbrev pub called : Tally → Tally
called s = record s { calls = s.calls + 1 }

abbrev pub called_and : Tally → Tally
called_and s = record s { calls = s.calls + 1; ands = s.ands + 1 }

-- a call that is one too many
abbrev pub stop_of : Tally → Option DriverFault
stop_of s = if s.calls == s.last then Some (fault.Short s.calls) else None

abbrev pub differ : Bool → Bool → Bool
differ a b = if a then not b else b

-- a wire is its bit, and each input is 0
abbrev pub tally_rules : Rules Bool
tally_rules = record {
  State = Tally;
  constant = λ s bit. bit;
  xor = differ;
  not = λ s a. not a;
  and = λ s a b. (called_and s, a && b);
  input = λ s party count. (called s, replicate count false);
  output = λ s wires. called s;
  finish = called;
  due = λ from to. stop_of from;
  Stops = λ from to f after. (stop_of from ≡ Some f) × (after ≡ from);
  outputs = λ s. [];
  stream = λ s k. [];
  IsWire = λ wire. Unit {0};
  wire_bytes = 1;
  pack = λ wire. (if wire then 1 else 0) ∷ [];
  unpack = λ bytes. slice_index bytes 0 % 2 == 1;
}
