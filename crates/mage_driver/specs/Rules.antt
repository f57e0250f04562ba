-- The rules of a driver, as plain data: what each call makes of a state and of wires. Whatever runs
-- over drivers is defined over any rules.
use Rattle.std.specs.Prelude.{◌≡◌, ◌≤◌, ℕ, List, ◌++◌, Bool, Option, Some, length, replicate, ◌⊎◌}
use Rattle.mage_instr.specs.declared.fault.DriverFault.{DriverFault}
use Rattle.mage_instr.specs.declared.fault.DriverFault.TheVariants as fault
use Rattle.mage_instr.specs.declared.party.Party.{Party}

pub record Rules (W : Type 0) : Type 1 where
  pub State : Type 0
  -- the wire of a bit, the wire of two wires' exclusive or, and that of a wire's opposite
  pub constant : State → Bool → W
  pub xor : W → W → W
  pub not : State → W → W
  -- the state and the wires after a call that is answered Ok: `and` of two wires, `input` of so many
  -- bits of a party, lowest first, `output` of wires, and `finish`
  pub and : State → W → W → State × W
  pub input : State → Party → ℕ → State × List W
  pub output : State → List W → State
  pub finish : State → State
  -- the fault that a call has to answer which leads from one state to another, unless the outside
  -- fails before it
  pub due : (from to : State) → Option DriverFault
  -- whether a call that leads from one state to another may answer a fault and leave a third
  pub Stops : (from to : State) → DriverFault → State → Type 0
  -- what has been put out, and what has been written to each stream, by the stream's number
  pub outputs : State → List ℕ
  pub stream : State → ℕ → List ℕ
  -- which values are wires, how many bytes a wire takes, and how it is written in them and read back
  pub IsWire : W → Type 0
  pub wire_bytes : ℕ
  pub pack : W → List ℕ
  pub unpack : List ℕ → W

-- a list begins another
abbrev pub Begins : {X : Type 0} → List X → List X → Type 0
Begins {X} front whole = (rest : List X) × (whole ≡ front ++ rest)

-- a fault of the source or of the sink of a stream
abbrev pub IsOfOutside : DriverFault → Type 0
IsOfOutside f = (f ≡ fault.Source) ⊎ (f ≡ fault.Sink)

module _ {W : Type 0} (rules : Rules W) where
  -- what was put out and written in one state begins what it is in another
  pub record Grows (from to : rules.State) : Type 0 where
    pub outputs : Begins (rules.outputs from) (rules.outputs to)
    pub streams : (k : ℕ) → Begins (rules.stream from k) (rules.stream to k)

  -- what holds of the rules of every driver
  pub record AreLawful : Type 0 where
    -- a wire is packed into as many bytes as it says, 1 to 16, and unpacked as it was
    pub some_bytes : 1 ≤ rules.wire_bytes
    pub few_bytes : rules.wire_bytes ≤ 16
    pub packed : (wire : W) → rules.IsWire wire → length (rules.pack wire) ≡ rules.wire_bytes
    pub unpacked : (wire : W) → rules.IsWire wire → rules.unpack (rules.pack wire) ≡ wire
    -- what zero bytes are unpacked to is packed to zero bytes
    pub zeros : rules.pack (rules.unpack (replicate rules.wire_bytes 0))
        ≡ replicate rules.wire_bytes 0
    -- an input has as many wires as asked for
    pub inputs : (s : rules.State) (party : Party) (count : ℕ) →
        length ((rules.input s party count).1) ≡ count
    -- no call takes back what was put out or written
    pub and_grows : (s : rules.State) (a b : W) → Grows s ((rules.and s a b).0)
    pub input_grows : (s : rules.State) (party : Party) (count : ℕ) →
        Grows s ((rules.input s party count).0)
    pub output_grows : (s : rules.State) (wires : List W) → Grows s (rules.output s wires)
    pub finish_grows : (s : rules.State) → Grows s (rules.finish s)
    -- a call that is stopped leaves a front of what it would have put out and written
    pub stopped_grows : (from to after : rules.State) (f : DriverFault) →
        rules.Stops from to f after → Grows from after × Grows after to
    -- a call answers no faults but those of the outside and the one that is due
    pub causes : (from to after : rules.State) (f : DriverFault) →
        rules.Stops from to f after → IsOfOutside f ⊎ (rules.due from to ≡ Some f)
