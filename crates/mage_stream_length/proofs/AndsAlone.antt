-- Circuits of all instructions but inputs and outputs ask a driver for ANDs alone.
use Rattle.std.proofs.Common.{◌≡◌, ℕ, ◌+◌, ◌-◌, ◌^◌, ◌==◌, List, [], ◌∷◌, ◌++◌, Bool, true, false, cond, length, take, drop, reverse, get_or}
use Rattle.std.specs.List.{zip}
use Rattle.mage_instr.specs.declared.op.Op.{Op}
use Rattle.mage_instr.specs.declared.op.Op.TheVariants as op
use Rattle.mage_driver.specs.Rules.{Rules}
use Rattle.mage_driver.specs.Calls.{Ask, And, Input, Output, Finish, Call}
use Rattle.mage_driver.specs.Circuits.{Circuit, given, followed, formed, anded, inverted, folded, closed}
use Rattle.mage_driver.specs.Operations.{Carried, Summed, Counted, one_more, each, and_bit, or_bit, choose_bit, replace_bit, starting, with_carry, below, add_bit, add_last, added, subtract_bit, subtract_last, first_carry, subtracted, compared, less, same_bit, equal, least, greatest, row, multiply_bit, multiplied, moved_in, highest_of, either, taken_away, divide_bit, divided_by, divided, count_up, count_last, count_bit, counted, resized, circuit_of}
use Rattle.mage_stream_length.specs.Length.{is_said}

-- an AND is asked for
abbrev pub IsAnd : {W : Type 0} → Ask W → Type 0
IsAnd (And a b) = Unit {0}
IsAnd (Input party count) = ⊥
IsAnd (Output wires) = ⊥
IsAnd Finish = ⊥

abbrev pub AreAnds : {S W : Type 0} → List (Call S W) → Type 0
AreAnds [] = Unit {0}
AreAnds (call ∷ calls) = IsAnd call.ask × AreAnds calls

both_ands : {S W : Type 0} (xs ys : List (Call S W)) → AreAnds xs → AreAnds ys → AreAnds (xs ++ ys)
both_ands [] ys h k = k
both_ands (x ∷ xs) ys h k = (h.0, both_ands xs ys h.1 k)

module _ {W : Type 0} (rules : Rules W) where
  -- a circuit of ANDs alone
  abbrev pub Anded : {X : Type 0} → Circuit rules X → Type 0
  Anded c = (s : rules.State) → AreAnds (c s).calls

  -- ---- what circuits are put together from

  ands_given : {X : Type 0} (x : X) → Anded (given rules x)
  ands_given x s = tt

  ands_followed : {X Y : Type 0} (c : Circuit rules X) (d : X → Circuit rules Y) → Anded c → ((x : X) → Anded (d x)) → Anded (followed rules c d)
  ands_followed c d one next s = both_ands (c s).calls (d (c s).wires (c s).state).calls (one s) (next (c s).wires (c s).state)

  ands_formed : {X Y : Type 0} (f : X → Y) (c : Circuit rules X) → Anded c → Anded (formed rules f c)
  ands_formed f c one s = one s

  ands_anded : (a b : W) → Anded (anded rules a b)
  ands_anded a b s = (tt, tt)

  ands_inverted : (a : W) → Anded (inverted rules a)
  ands_inverted a s = tt

  ands_folded : {X I : Type 0} (c : X → I → Circuit rules X) → ((x : X) (i : I) → Anded (c x i)) → (x : X) (is : List I) → Anded (folded rules c x is)
  ands_folded c step x [] = ands_given x
  ands_folded c step x (i ∷ is) = ands_followed (c x i) (λ y. folded rules c y is) (step x i) (λ y. ands_folded c step y is)

  ands_closed : {X I : Type 0} (c d : X → I → Circuit rules X) → ((x : X) (i : I) → Anded (c x i)) → ((x : X) (i : I) → Anded (d x i)) →
      (x : X) (is : List I) → Anded (closed rules c d x is)
  ands_closed c d step last x is =
      ands_followed (folded rules c x (take (length is - 1) is)) (λ y. folded rules d y (drop (length is - 1) is))
      (ands_folded c step x (take (length is - 1) is)) (λ y. ands_folded d last y (drop (length is - 1) is))

  ands_each : {I : Type 0} (c : I → Circuit rules W) → ((i : I) → Anded (c i)) → (is : List I) → Anded (each rules c is)
  ands_each c bit is =
      ands_folded (one_more rules c) (λ x i. ands_formed (λ wire. x ++ wire ∷ []) (c i) (bit i)) [] is

  -- ---- operations

  ands_choose : (condition : W) (p : W × W) → Anded (choose_bit rules condition p)
  ands_choose condition p = λ s. (tt, tt)

  ands_replace : (condition : W) (p : W × W) → Anded (replace_bit rules condition p)
  ands_replace condition p = λ s. (tt, tt)

  ands_add_bit : (x : Carried W) (p : W × W) → Anded (add_bit rules x p)
  ands_add_bit x p = λ s. (tt, tt)

  ands_add_last : (x : Carried W) (p : W × W) → Anded (add_last rules x p)
  ands_add_last x p = λ s. tt

  ands_subtract_bit : (x : Carried W) (p : W × W) → Anded (subtract_bit rules x p)
  ands_subtract_bit x p = λ s. (tt, tt)

  ands_subtract_last : (x : Carried W) (p : W × W) → Anded (subtract_last rules x p)
  ands_subtract_last x p = λ s. tt

  ands_first_carry : (p : W × W) → Anded (first_carry rules p)
  ands_first_carry p = λ s. (tt, tt)

  ands_added : (ps : List (W × W)) → Anded (added rules ps)
  ands_added [] = λ s. tt
  ands_added (p ∷ []) = λ s. tt
  ands_added (p ∷ q ∷ ps) =
      ands_followed (anded rules p.0 p.1)
      (λ carry. formed rules (λ so_far. rules.xor p.0 p.1 ∷ so_far.bits) (closed rules (add_bit rules) (add_last rules) (starting rules carry) (q ∷ ps)))
      (ands_anded p.0 p.1)
      (λ carry. ands_formed (λ so_far. rules.xor p.0 p.1 ∷ so_far.bits) (closed rules (add_bit rules) (add_last rules) (starting rules carry) (q ∷ ps))
      (ands_closed (add_bit rules) (add_last rules) ands_add_bit ands_add_last (starting rules carry) (q ∷ ps)))

  ands_subtracted : (ps : List (W × W)) → Anded (subtracted rules ps)
  ands_subtracted [] = λ s. tt
  ands_subtracted (p ∷ []) = λ s. tt
  ands_subtracted (p ∷ q ∷ ps) =
      ands_followed (first_carry rules p)
      (λ carry. formed rules (λ so_far. rules.xor p.0 p.1 ∷ so_far.bits) (closed rules (subtract_bit rules) (subtract_last rules) (starting rules carry) (q ∷ ps)))
      (ands_first_carry p)
      (λ carry. ands_formed (λ so_far. rules.xor p.0 p.1 ∷ so_far.bits) (closed rules (subtract_bit rules) (subtract_last rules) (starting rules carry) (q ∷ ps))
      (ands_closed (subtract_bit rules) (subtract_last rules) ands_subtract_bit ands_subtract_last (starting rules carry) (q ∷ ps)))

  ands_compared : (ps : List (W × W)) → Anded (compared rules ps)
  ands_compared [] = λ s. tt
  ands_compared (p ∷ ps) =
      ands_followed (first_carry rules p)
      (λ carry. formed rules (below rules (rules.xor p.0 p.1)) (folded rules (subtract_bit rules) (starting rules carry) ps))
      (ands_first_carry p)
      (λ carry. ands_formed (below rules (rules.xor p.0 p.1)) (folded rules (subtract_bit rules) (starting rules carry) ps)
      (ands_folded (subtract_bit rules) ands_subtract_bit (starting rules carry) ps))

  ands_less : (ps : List (W × W)) → Anded (less rules ps)
  ands_less ps =
      ands_followed (compared rules ps) (λ so_far. inverted rules so_far.carry) (ands_compared ps) (λ so_far. ands_inverted so_far.carry)

  ands_same_bit : (same : W) (p : W × W) → Anded (same_bit rules same p)
  ands_same_bit same p = λ s. (tt, tt)

  ands_equal : (ps : List (W × W)) → Anded (equal rules ps)
  ands_equal [] = λ s. tt
  ands_equal (p ∷ ps) =
      ands_followed (inverted rules (rules.xor p.0 p.1)) (λ same. folded rules (same_bit rules) same ps)
      (ands_inverted (rules.xor p.0 p.1)) (λ same. ands_folded (same_bit rules) ands_same_bit same ps)

  ands_least : (ps : List (W × W)) → Anded (least rules ps)
  ands_least ps =
      ands_followed (less rules ps) (λ is_less. each rules (choose_bit rules is_less) ps) (ands_less ps)
      (λ is_less. ands_each (choose_bit rules is_less) (ands_choose is_less) ps)

  ands_greatest : (ps : List (W × W)) → Anded (greatest rules ps)
  ands_greatest ps =
      ands_followed (less rules ps) (λ is_less. each rules (replace_bit rules is_less) ps) (ands_less ps)
      (λ is_less. ands_each (replace_bit rules is_less) (ands_replace is_less) ps)

  ands_row : (xs : List W) (b : W) → Anded (row rules xs b)
  ands_row xs b = ands_each (λ bit. anded rules bit b) (λ bit. ands_anded bit b) xs

  ands_multiply_bit : (a : List W) (x : Summed W) (b : W) → Anded (multiply_bit rules a x b)
  ands_multiply_bit a x b =
      let form : List W → Summed W = λ sum. record { done = x.done ++ take 1 x.sum; sum = sum } in
      ands_followed {Y = Summed W} (row rules (take (length x.sum - 1) a) b)
      (λ line. formed rules form (added rules (zip (drop 1 x.sum) line)))
      (ands_row (take (length x.sum - 1) a) b)
      (λ line. ands_formed form (added rules (zip (drop 1 x.sum) line)) (ands_added (zip (drop 1 x.sum) line)))

  ands_multiplied : (a b : List W) → Anded (multiplied rules a b)
  ands_multiplied a [] = λ s. tt
  ands_multiplied a (bit ∷ bits) =
      ands_followed (row rules a bit)
      (λ line. formed rules (λ so_far. so_far.done ++ so_far.sum) (folded rules (multiply_bit rules a) (record { done = []; sum = line }) bits))
      (ands_row a bit)
      (λ line. ands_formed (λ so_far. so_far.done ++ so_far.sum) (folded rules (multiply_bit rules a) (record { done = []; sum = line }) bits)
      (ands_folded (multiply_bit rules a) (ands_multiply_bit a) (record { done = []; sum = line }) bits))

  ands_taken_away : (b : List W) (bit : W) (rest : List W) → Anded (taken_away rules b bit rest)
  ands_taken_away b bit rest =
      ands_followed (compared rules (zip (moved_in rules bit rest) b))
      (λ difference. followed rules (anded rules (highest_of rules bit rest) difference.carry) (λ both. last difference both))
      (ands_compared (zip (moved_in rules bit rest) b))
      (λ difference. ands_followed (anded rules (highest_of rules bit rest) difference.carry) (λ both. last difference both)
      (ands_anded (highest_of rules bit rest) difference.carry)
      (λ both. let out : W = either rules (highest_of rules bit rest) difference.carry both in
      ands_formed (with_carry rules out) (each rules (replace_bit rules out) (zip (moved_in rules bit rest) difference.bits))
      (ands_each (replace_bit rules out) (ands_replace out) (zip (moved_in rules bit rest) difference.bits))))
    where
      last : Carried W → W → Circuit rules (Carried W)
      last difference both =
          formed rules (with_carry rules (either rules (highest_of rules bit rest) difference.carry both))
          (each rules (replace_bit rules (either rules (highest_of rules bit rest) difference.carry both)) (zip (moved_in rules bit rest) difference.bits))

  ands_divided : (a b : List W) → Anded (divided rules a b)
  ands_divided a b = λ s.
      ands_folded (divide_bit rules b) (λ so_far bit. ands_formed (divided_by so_far) (taken_away rules b bit so_far.rest) (ands_taken_away b bit so_far.rest)) _ (reverse a) s

  ands_count_up : (x : Carried W) (bit : W) → Anded (count_up rules x bit)
  ands_count_up x bit = λ s. (tt, tt)

  ands_count_last : (x : Carried W) (bit : W) → Anded (count_last rules x bit)
  ands_count_last x bit = λ s. tt

  ands_either : {X : Type 0} (b : Bool) (c d : Circuit rules X) → Anded c → Anded d → Anded (cond b c d)
  ands_either true c d h k = h
  ands_either false c d h k = k

  ands_count_bit : (x : Counted W) (bit : W) → Anded (count_bit rules x bit)
  ands_count_bit x bit =
      ands_either (x.seen + 1 == 2 ^ length x.bits) _ _
      (λ s. ands_folded (count_up rules) ands_count_up (starting rules bit) x.bits s)
      (λ s. ands_closed (count_up rules) (count_last rules) ands_count_up ands_count_last (starting rules bit) x.bits s)

  ands_counted : (bits : List W) → Anded (counted rules bits)
  ands_counted [] = λ s. tt
  ands_counted (bit ∷ bits) = ands_folded (count_bit rules) ands_count_bit (record { seen = 1; bits = bit ∷ [] }) bits

  -- ---- instructions

  pub ands_circuit : (o : Op) → is_said o ≡ false → (width imm : ℕ) (a b c : List W) → Anded (circuit_of rules o width imm a b c)
  ands_circuit op.Input none width imm a b c = cc
  ands_circuit op.Const none width imm a b c = λ s. tt
  ands_circuit op.Output none width imm a b c = cc
  ands_circuit op.Add none width imm a b c = ands_added (zip a b)
  ands_circuit op.Sub none width imm a b c = ands_subtracted (zip a b)
  ands_circuit op.Mul none width imm a b c = ands_multiplied a b
  ands_circuit op.And none width imm a b c = ands_each (and_bit rules) (λ p s. (tt, tt)) (zip a b)
  ands_circuit op.Or none width imm a b c = ands_each (or_bit rules) (λ p s. (tt, tt)) (zip a b)
  ands_circuit op.Xor none width imm a b c = λ s. tt
  ands_circuit op.Not none width imm a b c = λ s. tt
  ands_circuit op.Eq none width imm a b c = λ s. ands_equal (zip a b) s
  ands_circuit op.Lt none width imm a b c = λ s. ands_less (zip a b) s
  ands_circuit op.Mux none width imm a b c = λ s.
      let condition : W = get_or a 0 (rules.constant s false) in
      ands_each (choose_bit rules condition) (ands_choose condition) (zip b c) s
  ands_circuit op.Shl none width imm a b c = λ s. tt
  ands_circuit op.Shr none width imm a b c = λ s. tt
  ands_circuit op.Resize none width imm a b c = λ s. tt
  ands_circuit op.Send none width imm a b c = λ s. tt
  ands_circuit op.Recv none width imm a b c = λ s. tt
  ands_circuit op.Div none width imm a b c = λ s. ands_divided a b s
  ands_circuit op.Rem none width imm a b c = λ s. ands_divided a b s
  ands_circuit op.Count none width imm a b c =
      ands_followed (counted rules a) (λ all. resized rules width all.bits) (ands_counted a) (λ all s. tt)
  ands_circuit op.Min none width imm a b c = ands_least (zip a b)
  ands_circuit op.Max none width imm a b c = ands_greatest (zip a b)
