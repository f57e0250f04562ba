-- What an AND keeps of a driver's state, a circuit keeps.
use Rattle.std.proofs.Common.{ℕ, ◌+◌, ◌^◌, ◌==◌, ◌-◌, Bool, true, false, cond, List, [], ◌∷◌, ◌++◌, take, drop, length, reverse, replicate, slice_index_or}
use Rattle.std.specs.List.{zip}
use Rattle.mage_instr.specs.declared.op.Op.{Op}
use Rattle.mage_instr.specs.declared.op.Op.TheVariants as op
use Rattle.mage_instr.specs.declared.party.Party.{Party}
use Rattle.mage_driver.specs.Rules.{Rules}
use Rattle.mage_driver.specs.Circuits.{Circuit, formed, anded, folded, closed}
use Rattle.mage_driver.specs.Operations.{Carried, Summed, Divided, Counted, party_of, circuit_of, one_more, each, and_bit, or_bit, choose_bit, replace_bit, starting, add_bit, add_last, added, subtract_bit, subtract_last, first_carry, subtracted, compared, less, same_bit, equal, least, greatest, row, multiply_bit, multiplied, moved_in, highest_of, either, taken_away, divide_bit, divided, count_up, count_last, count_bit, counted}

module _ {W : Type 0} (rules : Rules W) (R : rules.State → rules.State → Type 0) (same : (s : rules.State) → R s s)
    (next : (s t u : rules.State) → R s t → R t u → R s u)
    (anding : (s : rules.State) (a b : W) → R s ((rules.and s a b).0)) where
  abbrev pub Keeps : {X : Type 0} → Circuit rules X → Type 0
  Keeps circuit = (s : rules.State) → R s (circuit s).state

  keeps_folded : {X I : Type 0} (step : X → I → Circuit rules X) → ((x : X) (i : I) → Keeps (step x i)) →
      (x : X) (items : List I) → Keeps (folded rules step x items)
  keeps_folded step h x [] s = same s
  keeps_folded step h x (item ∷ items) s =
      next s (step x item s).state (folded rules step x (item ∷ items) s).state (h x item s)
      (keeps_folded step h (step x item s).wires items (step x item s).state)

  keeps_closed : {X I : Type 0} (step last : X → I → Circuit rules X) → ((x : X) (i : I) → Keeps (step x i)) →
      ((x : X) (i : I) → Keeps (last x i)) → (x : X) (items : List I) → Keeps (closed rules step last x items)
  keeps_closed {X} step last h k x items s =
      let front = folded rules step x (take (length items - 1) items) s in
      next s front.state (closed rules step last x items s).state
      (keeps_folded step h x (take (length items - 1) items) s)
      (keeps_folded last k front.wires (drop (length items - 1) items) front.state)

  keeps_each : {I : Type 0} (bit : I → Circuit rules W) → ((i : I) → Keeps (bit i)) → (items : List I) → Keeps (each rules bit items)
  keeps_each bit h items = keeps_folded (one_more rules bit) (λ bits i. h i) [] items

  keeps_add_bit : (so_far : Carried W) (pair : W × W) → Keeps (add_bit rules so_far pair)
  keeps_add_bit so_far pair s = anding s (rules.xor pair.0 so_far.carry) (rules.xor pair.1 so_far.carry)

  keeps_add_last : (so_far : Carried W) (pair : W × W) → Keeps (add_last rules so_far pair)
  keeps_add_last so_far pair s = same s

  keeps_added : (pairs : List (W × W)) → Keeps (added rules pairs)
  keeps_added [] s = same s
  keeps_added (pair ∷ []) s = same s
  keeps_added (pair ∷ one ∷ pairs) s =
      next s (rules.and s pair.0 pair.1).0 (added rules (pair ∷ one ∷ pairs) s).state (anding s pair.0 pair.1)
      (keeps_closed (add_bit rules) (add_last rules) keeps_add_bit keeps_add_last
      (starting rules (rules.and s pair.0 pair.1).1) (one ∷ pairs) (rules.and s pair.0 pair.1).0)

  keeps_subtract_bit : (so_far : Carried W) (pair : W × W) → Keeps (subtract_bit rules so_far pair)
  keeps_subtract_bit so_far pair s = keeps_add_bit so_far (pair.0, rules.not s pair.1) s

  keeps_subtract_last : (so_far : Carried W) (pair : W × W) → Keeps (subtract_last rules so_far pair)
  keeps_subtract_last so_far pair s = same s

  keeps_first_carry : (pair : W × W) → Keeps (first_carry rules pair)
  keeps_first_carry pair s = anding s (rules.not s pair.0) pair.1

  keeps_subtracted : (pairs : List (W × W)) → Keeps (subtracted rules pairs)
  keeps_subtracted [] s = same s
  keeps_subtracted (pair ∷ []) s = same s
  keeps_subtracted (pair ∷ one ∷ pairs) s =
      let first = first_carry rules pair s in
      next s first.state (subtracted rules (pair ∷ one ∷ pairs) s).state (keeps_first_carry pair s)
      (keeps_closed (subtract_bit rules) (subtract_last rules) keeps_subtract_bit keeps_subtract_last
      (starting rules first.wires) (one ∷ pairs) first.state)

  keeps_compared : (pairs : List (W × W)) → Keeps (compared rules pairs)
  keeps_compared [] s = same s
  keeps_compared (pair ∷ pairs) s =
      let first = first_carry rules pair s in
      next s first.state (compared rules (pair ∷ pairs) s).state (keeps_first_carry pair s)
      (keeps_folded (subtract_bit rules) keeps_subtract_bit (starting rules first.wires) pairs first.state)

  keeps_less : (pairs : List (W × W)) → Keeps (less rules pairs)
  keeps_less pairs s = keeps_compared pairs s

  keeps_same_bit : (so_far : W) (pair : W × W) → Keeps (same_bit rules so_far pair)
  keeps_same_bit so_far pair s = anding s so_far (rules.not s (rules.xor pair.0 pair.1))

  keeps_equal : (pairs : List (W × W)) → Keeps (equal rules pairs)
  keeps_equal [] s = same s
  keeps_equal (pair ∷ pairs) s =
      keeps_folded (same_bit rules) keeps_same_bit (rules.not s (rules.xor pair.0 pair.1)) pairs s

  keeps_and : (pairs : List (W × W)) → Keeps (each rules (and_bit rules) pairs)
  keeps_and pairs = keeps_each (and_bit rules) (λ pair s. anding s pair.0 pair.1) pairs

  keeps_or : (pairs : List (W × W)) → Keeps (each rules (or_bit rules) pairs)
  keeps_or pairs = keeps_each (or_bit rules) (λ pair s. anding s pair.0 pair.1) pairs

  keeps_choose : (c : W) (pairs : List (W × W)) → Keeps (each rules (choose_bit rules c) pairs)
  keeps_choose c pairs = keeps_each (choose_bit rules c) (λ pair s. anding s c (rules.xor pair.0 pair.1)) pairs

  keeps_replace : (c : W) (pairs : List (W × W)) → Keeps (each rules (replace_bit rules c) pairs)
  keeps_replace c pairs = keeps_each (replace_bit rules c) (λ pair s. anding s c (rules.xor pair.0 pair.1)) pairs

  keeps_least : (pairs : List (W × W)) → Keeps (least rules pairs)
  keeps_least pairs s =
      let is_less = less rules pairs s in
      next s is_less.state (least rules pairs s).state (keeps_less pairs s) (keeps_choose is_less.wires pairs is_less.state)

  keeps_greatest : (pairs : List (W × W)) → Keeps (greatest rules pairs)
  keeps_greatest pairs s =
      let is_less = less rules pairs s in
      next s is_less.state (greatest rules pairs s).state (keeps_less pairs s) (keeps_replace is_less.wires pairs is_less.state)

  keeps_row : (a : List W) (b : W) → Keeps (row rules a b)
  keeps_row a b = keeps_each (λ bit. anded rules bit b) (λ bit s. anding s bit b) a

  keeps_multiply_bit : (a : List W) (so_far : Summed W) (b : W) → Keeps (multiply_bit rules a so_far b)
  keeps_multiply_bit a so_far b s =
      let line = row rules (take (length so_far.sum - 1) a) b s in
      next s line.state (multiply_bit rules a so_far b s).state (keeps_row (take (length so_far.sum - 1) a) b s)
      (keeps_added (zip (drop 1 so_far.sum) line.wires) line.state)

  keeps_multiplied : (a b : List W) → Keeps (multiplied rules a b)
  keeps_multiplied a [] s = same s
  keeps_multiplied a (bit ∷ bits) s =
      let line = row rules a bit s in
      let start : Summed W = record { done = []; sum = line.wires } in
      next s line.state (multiplied rules a (bit ∷ bits) s).state (keeps_row a bit s)
      (keeps_folded (multiply_bit rules a) (keeps_multiply_bit a) start bits line.state)

  keeps_taken_away : (b : List W) (bit : W) (rest : List W) → Keeps (taken_away rules b bit rest)
  keeps_taken_away b bit rest s =
      let pairs = zip (moved_in rules bit rest) b in
      let difference = compared rules pairs s in
      let h = highest_of rules bit rest in
      let both = rules.and difference.state h difference.wires.carry in
      next s difference.state (taken_away rules b bit rest s).state (keeps_compared pairs s)
      (next difference.state both.0 (taken_away rules b bit rest s).state (anding difference.state h difference.wires.carry)
      (keeps_replace (either rules h difference.wires.carry both.1)
      (zip (moved_in rules bit rest) difference.wires.bits) both.0))

  keeps_divided : (a b : List W) → Keeps (divided rules a b)
  keeps_divided a b s =
      let start : Divided W = record { quotient = []; rest = replicate (length a) (rules.constant s false) } in
      keeps_folded (divide_bit rules b) (λ so_far bit. keeps_taken_away b bit so_far.rest) start (reverse a) s

  keeps_count_bit : (so_far : Counted W) (bit : W) → Keeps (count_bit rules so_far bit)
  keeps_count_bit so_far bit s = go (so_far.seen + 1 == 2 ^ length so_far.bits)
    where
      full : Circuit rules (Counted W)
      full = formed rules (λ (up : Carried W). record { seen = so_far.seen + 1; bits = up.bits ++ up.carry ∷ [] })
          (folded rules (count_up rules) (starting rules bit) so_far.bits)

      more : Circuit rules (Counted W)
      more = formed rules (λ (up : Carried W). record { seen = so_far.seen + 1; bits = up.bits })
          (closed rules (count_up rules) (count_last rules) (starting rules bit) so_far.bits)

      go : (b : Bool) → R s (cond b full more s).state
      go true = keeps_folded (count_up rules) (λ up b s'. anding s' b up.carry) (starting rules bit) so_far.bits s
      go false = keeps_closed (count_up rules) (count_last rules) (λ up b s'. anding s' b up.carry) (λ up b s'. same s')
          (starting rules bit) so_far.bits s

  keeps_counted : (a : List W) → Keeps (counted rules a)
  keeps_counted [] s = same s
  keeps_counted (bit ∷ bits) s =
      let start : Counted W = record { seen = 1; bits = bit ∷ [] } in
      keeps_folded (count_bit rules) keeps_count_bit start bits s

  -- an instruction
  pub keeps_circuit : ((s : rules.State) (party : Party) (count : ℕ) → R s ((rules.input s party count).0)) →
      ((s : rules.State) (wires : List W) → R s (rules.output s wires)) →
      (o : Op) (width imm : ℕ) (a b c : List W) → Keeps (circuit_of rules o width imm a b c)
  keeps_circuit inputs outputs op.Input width imm a b c s = inputs s (party_of imm) width
  keeps_circuit inputs outputs op.Const width imm a b c s = same s
  keeps_circuit inputs outputs op.Output width imm a b c s = outputs s a
  keeps_circuit inputs outputs op.Add width imm a b c s = keeps_added (zip a b) s
  keeps_circuit inputs outputs op.Sub width imm a b c s = keeps_subtracted (zip a b) s
  keeps_circuit inputs outputs op.Mul width imm a b c s = keeps_multiplied a b s
  keeps_circuit inputs outputs op.And width imm a b c s = keeps_and (zip a b) s
  keeps_circuit inputs outputs op.Or width imm a b c s = keeps_or (zip a b) s
  keeps_circuit inputs outputs op.Xor width imm a b c s = same s
  keeps_circuit inputs outputs op.Not width imm a b c s = same s
  keeps_circuit inputs outputs op.Eq width imm a b c s = keeps_equal (zip a b) s
  keeps_circuit inputs outputs op.Lt width imm a b c s = keeps_less (zip a b) s
  keeps_circuit inputs outputs op.Mux width imm a b c s =
      keeps_choose (slice_index_or a 0 (rules.constant s false)) (zip b c) s
  keeps_circuit inputs outputs op.Shl width imm a b c s = same s
  keeps_circuit inputs outputs op.Shr width imm a b c s = same s
  keeps_circuit inputs outputs op.Resize width imm a b c s = same s
  keeps_circuit inputs outputs op.Send width imm a b c s = same s
  keeps_circuit inputs outputs op.Recv width imm a b c s = same s
  keeps_circuit inputs outputs op.Div width imm a b c s = keeps_divided a b s
  keeps_circuit inputs outputs op.Rem width imm a b c s = keeps_divided a b s
  keeps_circuit inputs outputs op.Count width imm a b c s = keeps_counted a s
  keeps_circuit inputs outputs op.Min width imm a b c s = keeps_least (zip a b) s
  keeps_circuit inputs outputs op.Max width imm a b c s = keeps_greatest (zip a b) s
