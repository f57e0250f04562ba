-- The circuit of each instruction, over the rules of any driver. Bits are lowest first.
use Rattle.std.specs.Prelude.{ℕ, ◌+◌, ◌-◌, ◌^◌, ◌==◌, List, [], ◌∷◌, ◌++◌, true, false, if◌then◌else◌, length, take, drop, map, reverse, replicate, slice_index_or}
use Rattle.std.specs.List.{zip}
use Rattle.mage_bits.specs.Bits.{bits}
use Rattle.mage_instr.specs.declared.op.Op.{Op}
use Rattle.mage_instr.specs.declared.op.Op.TheVariants as op
use Rattle.mage_instr.specs.declared.party.Party.{Party}
use Rattle.mage_instr.specs.declared.party.Party.TheVariants as party
use Rattle.mage_driver.specs.Rules.{Rules}
use Rattle.mage_driver.specs.Calls.{Input, Output, call_of}
use Rattle.mage_driver.specs.Circuits.{Circuit, given, followed, formed, anded, inverted, folded, closed}

-- a carry, and the bits so far
pub record Carried (W : Type 0) : Type 0 where
  pub carry : W
  pub bits : List W

-- the bits of a product that are done, and those of the sum that go on
pub record Summed (W : Type 0) : Type 0 where
  pub done : List W
  pub sum : List W

-- the bits of a quotient so far, and what is left of the dividend
pub record Divided (W : Type 0) : Type 0 where
  pub quotient : List W
  pub rest : List W

-- how many bits were counted, and the bits of how many of them are 1
pub record Counted (W : Type 0) : Type 0 where
  pub seen : ℕ
  pub bits : List W

-- the party of an input's immediate
abbrev pub party_of : ℕ → Party
party_of imm = if imm == 0 then party.Garbler else party.Evaluator

-- a bit more of a quotient, and what is left after it
abbrev pub divided_by : {W : Type 0} → Divided W → Carried W → Divided W
divided_by so_far one = record { quotient = one.carry ∷ so_far.quotient; rest = one.bits }

module _ {W : Type 0} (rules : Rules W) where
  -- one bit more, and one bit for each item
  abbrev pub one_more : {I : Type 0} → (I → Circuit rules W) → List W → I → Circuit rules (List W)
  one_more bit bits item = formed rules (λ wire. bits ++ wire ∷ []) (bit item)

  abbrev pub each : {I : Type 0} → (I → Circuit rules W) → List I → Circuit rules (List W)
  each bit items = folded rules (one_more bit) [] items

  abbrev pub and_bit : W × W → Circuit rules W
  and_bit pair = anded rules pair.0 pair.1

  -- a ^ b ^ (a . b)
  abbrev pub or_bit : W × W → Circuit rules W
  or_bit pair = formed rules (λ both. rules.xor (rules.xor pair.0 pair.1) both) (anded rules pair.0 pair.1)

  -- the first of two bits where the condition is 1, else the second: b ^ (c . (a ^ b))
  abbrev pub choose_bit : W → W × W → Circuit rules W
  choose_bit condition pair =
      formed rules (λ both. rules.xor pair.1 both) (anded rules condition (rules.xor pair.0 pair.1))

  -- the second of two bits where the condition is 1, else the first: a ^ (c . (a ^ b))
  abbrev pub replace_bit : W → W × W → Circuit rules W
  replace_bit condition pair =
      formed rules (λ both. rules.xor pair.0 both) (anded rules condition (rules.xor pair.0 pair.1))

  -- the next carry of an addition: c ^ ((a ^ c) . (b ^ c))
  abbrev pub carry_of : W → W → W → Circuit rules W
  carry_of a b c = formed rules (λ both. rules.xor c both) (anded rules (rules.xor a c) (rules.xor b c))

  -- a ^ b ^ c
  abbrev pub sum_bit : W → W → W → W
  sum_bit a b c = rules.xor (rules.xor a b) c

  -- a carry, before any bit
  abbrev pub starting : W → Carried W
  starting carry = record { carry = carry; bits = [] }

  -- a carry beside some bits
  abbrev pub with_carry : W → List W → Carried W
  with_carry carry bits = record { carry = carry; bits = bits }

  -- a bit below the others
  abbrev pub below : W → Carried W → Carried W
  below bit so_far = record { carry = so_far.carry; bits = bit ∷ so_far.bits }

  -- one bit of an addition, with its carry and without
  abbrev pub add_bit : Carried W → W × W → Circuit rules (Carried W)
  add_bit so_far pair = formed rules
      (λ carry. record {
        carry = carry;
        bits = so_far.bits ++ sum_bit pair.0 pair.1 so_far.carry ∷ [];
      })
      (carry_of pair.0 pair.1 so_far.carry)

  abbrev pub add_last : Carried W → W × W → Circuit rules (Carried W)
  add_last so_far pair = given rules (record so_far {
    bits = so_far.bits ++ sum_bit pair.0 pair.1 so_far.carry ∷ [];
  })

  -- a sum: the first carry is a . b, and the last bit makes none
  abbrev pub added : List (W × W) → Circuit rules (List W)
  added [] = given rules []
  added (pair ∷ []) = given rules (rules.xor pair.0 pair.1 ∷ [])
  added (pair ∷ next ∷ pairs) = followed rules (anded rules pair.0 pair.1)
      (λ carry. formed rules (λ so_far. rules.xor pair.0 pair.1 ∷ so_far.bits)
      (closed rules add_bit add_last (starting carry) (next ∷ pairs)))

  -- one bit of a subtraction: the second bit is turned
  abbrev pub subtract_bit : Carried W → W × W → Circuit rules (Carried W)
  subtract_bit so_far pair =
      followed rules (inverted rules pair.1) (λ turned. add_bit so_far (pair.0, turned))

  abbrev pub subtract_last : Carried W → W × W → Circuit rules (Carried W)
  subtract_last so_far pair =
      followed rules (inverted rules pair.1) (λ turned. add_last so_far (pair.0, turned))

  -- the first carry of a subtraction: ~((~a) . b)
  abbrev pub first_carry : W × W → Circuit rules W
  first_carry pair = followed rules (inverted rules pair.0)
      (λ turned. followed rules (anded rules turned pair.1) (inverted rules))

  -- a difference: the last bit makes no carry
  abbrev pub subtracted : List (W × W) → Circuit rules (List W)
  subtracted [] = given rules []
  subtracted (pair ∷ []) = given rules (rules.xor pair.0 pair.1 ∷ [])
  subtracted (pair ∷ next ∷ pairs) = followed rules (first_carry pair)
      (λ carry. formed rules (λ so_far. rules.xor pair.0 pair.1 ∷ so_far.bits)
      (closed rules subtract_bit subtract_last (starting carry) (next ∷ pairs)))

  -- the same with the carry of the last bit, which is 0 where the first number is less
  abbrev pub compared : List (W × W) → Circuit rules (Carried W)
  compared [] = λ s. given rules (record { carry = rules.constant s true; bits = [] }) s
  compared (pair ∷ pairs) = followed rules (first_carry pair)
      (λ carry. formed rules (below (rules.xor pair.0 pair.1))
      (folded rules subtract_bit (starting carry) pairs))

  abbrev pub less : List (W × W) → Circuit rules W
  less pairs = followed rules (compared pairs) (λ so_far. inverted rules so_far.carry)

  -- ~(a ^ b) of the first bits, and then its AND with that of each further bit
  abbrev pub same_bit : W → W × W → Circuit rules W
  same_bit same pair = followed rules (inverted rules (rules.xor pair.0 pair.1))
      (λ turned. anded rules same turned)

  abbrev pub equal : List (W × W) → Circuit rules W
  equal [] = λ s. given rules (rules.constant s true) s
  equal (pair ∷ pairs) = followed rules (inverted rules (rules.xor pair.0 pair.1))
      (λ same. folded rules same_bit same pairs)

  -- the lesser of two numbers, and the greater
  abbrev pub least : List (W × W) → Circuit rules (List W)
  least pairs = followed rules (less pairs) (λ is_less. each (choose_bit is_less) pairs)

  abbrev pub greatest : List (W × W) → Circuit rules (List W)
  greatest pairs = followed rules (less pairs) (λ is_less. each (replace_bit is_less) pairs)

  -- a row of a product: each bit of the first number with one bit of the second
  abbrev pub row : List W → W → Circuit rules (List W)
  row a b = each (λ bit. anded rules bit b) a

  -- one bit of the second number: the lowest bit of the sum is done, and a row is added to the others
  abbrev pub multiply_bit : List W → Summed W → W → Circuit rules (Summed W)
  multiply_bit a so_far b = followed rules (row (take (length so_far.sum - 1) a) b)
      (λ line. formed rules
      (λ sum. record { done = so_far.done ++ take 1 so_far.sum; sum = sum })
      (added (zip (drop 1 so_far.sum) line)))

  abbrev pub multiplied : (a b : List W) → Circuit rules (List W)
  multiplied a [] = given rules []
  multiplied a (bit ∷ bits) = followed rules (row a bit)
      (λ line. formed rules (λ so_far. so_far.done ++ so_far.sum)
      (folded rules (multiply_bit a) (record { done = []; sum = line }) bits))

  -- what is left, with a bit of the dividend below it, without its highest bit; and that bit
  abbrev pub moved_in : W → List W → List W
  moved_in bit rest = bit ∷ take (length rest - 1) rest

  abbrev pub highest_of : W → List W → W
  highest_of bit rest = slice_index_or rest (length rest - 1) bit

  -- h ^ c ^ (h . c), where the AND is made already
  abbrev pub either : W → W → W → W
  either a b both = rules.xor (rules.xor a b) both

  -- The divisor is taken away from what is left where that leaves no less than 0: where the bit that left at the top is
  -- 1, or the carry is. The bit of the quotient, which says so, and what is left then.
  abbrev pub taken_away : List W → W → List W → Circuit rules (Carried W)
  taken_away b bit rest = followed rules (compared (zip (moved_in bit rest) b))
      (λ difference. followed rules (anded rules (highest_of bit rest) difference.carry)
      (λ both. formed rules
      (with_carry (either (highest_of bit rest) difference.carry both))
      (each (replace_bit (either (highest_of bit rest) difference.carry both))
      (zip (moved_in bit rest) difference.bits))))

  -- one bit of the dividend, from the highest on, comes below what is left of the bits above it
  abbrev pub divide_bit : List W → Divided W → W → Circuit rules (Divided W)
  divide_bit b so_far bit = formed rules (divided_by so_far) (taken_away b bit so_far.rest)

  abbrev pub divided : (a b : List W) → Circuit rules (Divided W)
  divided a b = λ s. folded rules (divide_bit b)
      (record { quotient = []; rest = replicate (length a) (rules.constant s false) }) (reverse a) s

  -- one bit of a number to which a bit is added
  abbrev pub count_up : Carried W → W → Circuit rules (Carried W)
  count_up so_far bit = formed rules
      (λ carry. record { carry = carry; bits = so_far.bits ++ rules.xor bit so_far.carry ∷ [] })
      (anded rules bit so_far.carry)

  abbrev pub count_last : Carried W → W → Circuit rules (Carried W)
  count_last so_far bit = given rules (record so_far {
    bits = so_far.bits ++ rules.xor bit so_far.carry ∷ [];
  })

  -- one bit more is counted; the number has a bit more where it was full
  abbrev pub count_bit : Counted W → W → Circuit rules (Counted W)
  count_bit so_far bit =
      if so_far.seen + 1 == 2 ^ length so_far.bits
      then formed rules (λ (up : Carried W). record { seen = so_far.seen + 1; bits = up.bits ++ up.carry ∷ [] })
      (folded rules count_up (starting bit) so_far.bits)
      else formed rules (λ (up : Carried W). record { seen = so_far.seen + 1; bits = up.bits })
      (closed rules count_up count_last (starting bit) so_far.bits)

  abbrev pub counted : List W → Circuit rules (Counted W)
  counted [] = given rules (record { seen = 0; bits = [] })
  counted (bit ∷ bits) = folded rules count_bit (record { seen = 1; bits = bit ∷ [] }) bits

  -- so many wires, the first of the list, with zeros above them
  abbrev pub resized : ℕ → List W → Circuit rules (List W)
  resized width wires = λ s. given rules
      (take width (wires ++ replicate width (rules.constant s false))) s

  -- moved up by an amount, with zeros below
  abbrev pub moved_up : ℕ → ℕ → List W → Circuit rules (List W)
  moved_up width amount wires = λ s. given rules
      (take width (replicate amount (rules.constant s false) ++ wires)) s

  -- the circuit of an instruction, from the wires of its arguments
  abbrev pub circuit_of : Op → (width imm : ℕ) → (a b c : List W) → Circuit rules (List W)
  circuit_of op.Input width imm a b c = λ s. record {
    calls = call_of rules s (Input (party_of imm) width) ∷ [];
    state = (rules.input s (party_of imm) width).0;
    wires = (rules.input s (party_of imm) width).1;
  }
  circuit_of op.Const width imm a b c = λ s. given rules (map (rules.constant s) (bits imm width)) s
  circuit_of op.Output width imm a b c = λ s. record {
    calls = call_of rules s (Output a) ∷ [];
    state = rules.output s a;
    wires = [];
  }
  circuit_of op.Add width imm a b c = added (zip a b)
  circuit_of op.Sub width imm a b c = subtracted (zip a b)
  circuit_of op.Mul width imm a b c = multiplied a b
  circuit_of op.And width imm a b c = each and_bit (zip a b)
  circuit_of op.Or width imm a b c = each or_bit (zip a b)
  circuit_of op.Xor width imm a b c = given rules (map (λ pair. rules.xor pair.0 pair.1) (zip a b))
  circuit_of op.Not width imm a b c = λ s. given rules (map (rules.not s) a) s
  circuit_of op.Eq width imm a b c = formed rules (λ same. same ∷ []) (equal (zip a b))
  circuit_of op.Lt width imm a b c = formed rules (λ is_less. is_less ∷ []) (less (zip a b))
  circuit_of op.Mux width imm a b c = λ s. each (choose_bit (slice_index_or a 0 (rules.constant s false))) (zip b c) s
  circuit_of op.Shl width imm a b c = moved_up width imm a
  circuit_of op.Shr width imm a b c = resized width (drop imm a)
  circuit_of op.Resize width imm a b c = resized width a
  circuit_of op.Send width imm a b c = given rules []
  circuit_of op.Recv width imm a b c = given rules []
  circuit_of op.Div width imm a b c = formed rules (λ all. all.quotient) (divided a b)
  circuit_of op.Rem width imm a b c = formed rules (λ all. all.rest) (divided a b)
  circuit_of op.Count width imm a b c = followed rules (counted a) (λ all. resized width all.bits)
  circuit_of op.Min width imm a b c = least (zip a b)
  circuit_of op.Max width imm a b c = greatest (zip a b)
