-- Half gates (Zahur, Rosulek, Evans: Two Halves Make a Whole, Eurocrypt 2015) on labels. The
-- garbler has the zero label of each wire and one offset R. The evaluator has one label of each
-- wire, its active label: the zero label, xor R where the wire's value is 1.
use Rattle.std.specs.Prelude.{◌≡◌, ℕ, ◌+◌, ◌*◌, Bool, IsTrue, if◌then◌else◌}
use Rattle.std.specs.Bool.{xor as xor_bits}
use Rattle.mage_label.specs.declared.labels.Label.{Label}
use Rattle.mage_label.specs.Labels.{IsWhole, blank, hash_of, lsb, xor, xor_times}

-- an offset has 16 bytes, and its lowest bit is 1
pub record IsOffset (offset : Label) : Type 0 where
  pub whole : IsWhole offset
  pub odd : IsTrue (lsb offset)

-- the evaluator's label at a wire with this zero label and this value
pub record IsActive (offset zero : Label) (value : Bool) (active : Label) : Type 0 where
  pub whole : IsWhole zero
  pub label : active ≡ xor_times zero value offset

-- ---- gates without tables: XOR of wires is xor of labels, for both parties; NOT is xor R for the
-- garbler, and nothing for the evaluator

-- the garbler's label of a constant bit; the evaluator's is blank
abbrev pub constant_zero : Label → Bool → Label
constant_zero offset bit = if bit then offset else blank

-- ---- AND gates, numbered from 0 for each worker

-- the tweaks of a gate's two halves
abbrev pub generator_tweak : ℕ → ℕ
generator_tweak gate = 2 * gate

abbrev pub evaluator_tweak : ℕ → ℕ
evaluator_tweak gate = 2 * gate + 1

-- what the garbler sends for an AND: a table for each half
pub record Tables : Type 0 where
  pub generator : Label
  pub evaluator : Label

-- the tables of an AND of wires with the zero labels a and b: the generator's carries the lowest bit
-- of b, and the evaluator's the label a
unfoldable pub tables_of : Label → ℕ → ℕ → Label → Label → Tables
tables_of offset worker gate a b =
    let j : ℕ = generator_tweak gate in
    let k : ℕ = evaluator_tweak gate in
    let of_a : Label = xor (hash_of a worker j) (hash_of (xor a offset) worker j) in
    let of_b : Label = xor (hash_of b worker k) (hash_of (xor b offset) worker k) in
    record { generator = xor_times of_a (lsb b) offset; evaluator = xor of_b a }

-- what each half gives for labels of its inputs
unfoldable pub generator_half : ℕ → ℕ → Tables → Label → Label
generator_half worker gate tables a =
    xor_times (hash_of a worker (generator_tweak gate)) (lsb a) tables.generator

unfoldable pub evaluator_half : ℕ → ℕ → Tables → Label → Label → Label
evaluator_half worker gate tables a b =
    xor_times (hash_of b worker (evaluator_tweak gate)) (lsb b) (xor tables.evaluator a)

-- the label of an AND, from labels of its inputs
abbrev pub and_label : ℕ → ℕ → Tables → Label → Label → Label
and_label worker gate tables a b =
    xor (generator_half worker gate tables a) (evaluator_half worker gate tables a b)

-- the garbler's zero label of an AND: what its tables give for the zero labels
abbrev pub and_zero : Label → ℕ → ℕ → Label → Label → Label
and_zero offset worker gate a b = and_label worker gate (tables_of offset worker gate a b) a b

-- ---- outputs

-- the bit of an output wire: the lowest bit of its zero label, which the garbler sends, xor that of
-- its active label
abbrev pub decoded_bit : Bool → Label → Bool
decoded_bit colour active = xor_bits colour (lsb active)
