-- Circuits of all instructions but inputs ask a garbler for no input, and leave all that it tells but the number of ANDs.
use Rattle.std.proofs.Common.{◌≡◌, ℕ, ◌+◌, ◌-◌, ◌^◌, ◌==◌, List, [], ◌∷◌, ◌++◌, Bool, true, false, cond, length, take, drop, reverse, get_or, refl, ap, ◌∙◌}
use Rattle.std.specs.List.{zip}
use Rattle.mage_instr.specs.declared.op.Op.{Op}
use Rattle.mage_instr.specs.declared.op.Op.TheVariants as op
use Rattle.mage_instr.specs.Inputs.{is_input}
use Rattle.mage_label.specs.declared.labels.Label.{Label}
use Rattle.mage_driver.specs.Calls.{Ask, And, Input, Output, Finish, Call}
use Rattle.mage_driver.specs.Circuits.{Circuit, given, followed, formed, anded, inverted, folded, closed}
use Rattle.mage_driver.specs.Operations.{Carried, Summed, Counted, one_more, each, and_bit, or_bit, choose_bit, replace_bit, starting, with_carry, below, add_bit, add_last, added, subtract_bit, subtract_last, first_carry, subtracted, compared, less, same_bit, equal, least, greatest, row, multiply_bit, multiplied, moved_in, highest_of, either, taken_away, divide_bit, divided_by, divided, count_up, count_last, count_bit, counted, resized, circuit_of}
use Rattle.mage_streams.specs.Garbling.{Garbler, garbling}

-- no input is asked for
abbrev pub IsQuiet : Ask Label → Type 0
IsQuiet (And a b) = Unit {0}
IsQuiet (Input party count) = ⊥
IsQuiet (Output wires) = Unit {0}
IsQuiet Finish = Unit {0}

abbrev pub AreQuiet : List (Call Garbler Label) → Type 0
AreQuiet [] = Unit {0}
AreQuiet (call ∷ calls) = IsQuiet call.ask × AreQuiet calls

-- a circuit without inputs
abbrev pub Quiet : {X : Type 0} → Circuit garbling X → Type 0
Quiet c = (s : Garbler) → AreQuiet (c s).calls × ((c s).state ≡ record s { gates = (c s).state.gates })

both_quiet : (xs ys : List (Call Garbler Label)) → AreQuiet xs → AreQuiet ys → AreQuiet (xs ++ ys)
both_quiet [] ys h k = k
both_quiet (x ∷ xs) ys h k = (h.0, both_quiet xs ys h.1 k)

-- ---- what circuits are put together from

quiet_given : {X : Type 0} (x : X) → Quiet (given garbling x)
quiet_given x s = (tt, refl)

quiet_followed : {X Y : Type 0} (c : Circuit garbling X) (d : X → Circuit garbling Y) → Quiet c → ((x : X) → Quiet (d x)) → Quiet (followed garbling c d)
quiet_followed c d one next s =
    let first = one s in
    let second = next (c s).wires (c s).state in (
      both_quiet (c s).calls (d (c s).wires (c s).state).calls first.0 second.0,
      second.1 ∙ ap (λ (g : Garbler). record g { gates = (d (c s).wires (c s).state).state.gates }) first.1,
    )

quiet_formed : {X Y : Type 0} (f : X → Y) (c : Circuit garbling X) → Quiet c → Quiet (formed garbling f c)
quiet_formed f c one s = one s

quiet_anded : (a b : Label) → Quiet (anded garbling a b)
quiet_anded a b s = ((tt, tt), refl)

quiet_inverted : (a : Label) → Quiet (inverted garbling a)
quiet_inverted a s = (tt, refl)

quiet_folded : {X I : Type 0} (c : X → I → Circuit garbling X) → ((x : X) (i : I) → Quiet (c x i)) → (x : X) (is : List I) → Quiet (folded garbling c x is)
quiet_folded c step x [] = quiet_given x
quiet_folded c step x (i ∷ is) = quiet_followed (c x i) (λ y. folded garbling c y is) (step x i) (λ y. quiet_folded c step y is)

quiet_closed : {X I : Type 0} (c d : X → I → Circuit garbling X) → ((x : X) (i : I) → Quiet (c x i)) → ((x : X) (i : I) → Quiet (d x i)) →
    (x : X) (is : List I) → Quiet (closed garbling c d x is)
quiet_closed c d step last x is =
    quiet_followed (folded garbling c x (take (length is - 1) is)) (λ y. folded garbling d y (drop (length is - 1) is))
    (quiet_folded c step x (take (length is - 1) is)) (λ y. quiet_folded d last y (drop (length is - 1) is))

quiet_each : {I : Type 0} (c : I → Circuit garbling Label) → ((i : I) → Quiet (c i)) → (is : List I) → Quiet (each garbling c is)
quiet_each c bit is =
    quiet_folded (one_more garbling c) (λ x i. quiet_formed (λ wire. x ++ wire ∷ []) (c i) (bit i)) [] is

-- ---- operations

quiet_choose : (condition : Label) (p : Label × Label) → Quiet (choose_bit garbling condition p)
quiet_choose condition p = λ s. ((tt, tt), refl)

quiet_replace : (condition : Label) (p : Label × Label) → Quiet (replace_bit garbling condition p)
quiet_replace condition p = λ s. ((tt, tt), refl)

quiet_add_bit : (x : Carried Label) (p : Label × Label) → Quiet (add_bit garbling x p)
quiet_add_bit x p = λ s. ((tt, tt), refl)

quiet_add_last : (x : Carried Label) (p : Label × Label) → Quiet (add_last garbling x p)
quiet_add_last x p = λ s. (tt, refl)

quiet_subtract_bit : (x : Carried Label) (p : Label × Label) → Quiet (subtract_bit garbling x p)
quiet_subtract_bit x p = λ s. ((tt, tt), refl)

quiet_subtract_last : (x : Carried Label) (p : Label × Label) → Quiet (subtract_last garbling x p)
quiet_subtract_last x p = λ s. (tt, refl)

quiet_first_carry : (p : Label × Label) → Quiet (first_carry garbling p)
quiet_first_carry p = λ s. ((tt, tt), refl)

quiet_added : (ps : List (Label × Label)) → Quiet (added garbling ps)
quiet_added [] = λ s. (tt, refl)
quiet_added (p ∷ []) = λ s. (tt, refl)
quiet_added (p ∷ q ∷ ps) =
    quiet_followed (anded garbling p.0 p.1)
    (λ carry. formed garbling (λ so_far. garbling.xor p.0 p.1 ∷ so_far.bits) (closed garbling (add_bit garbling) (add_last garbling) (starting garbling carry) (q ∷ ps)))
    (quiet_anded p.0 p.1)
    (λ carry. quiet_formed (λ so_far. garbling.xor p.0 p.1 ∷ so_far.bits) (closed garbling (add_bit garbling) (add_last garbling) (starting garbling carry) (q ∷ ps))
    (quiet_closed (add_bit garbling) (add_last garbling) quiet_add_bit quiet_add_last (starting garbling carry) (q ∷ ps)))

quiet_subtracted : (ps : List (Label × Label)) → Quiet (subtracted garbling ps)
quiet_subtracted [] = λ s. (tt, refl)
quiet_subtracted (p ∷ []) = λ s. (tt, refl)
quiet_subtracted (p ∷ q ∷ ps) =
    quiet_followed (first_carry garbling p)
    (λ carry. formed garbling (λ so_far. garbling.xor p.0 p.1 ∷ so_far.bits) (closed garbling (subtract_bit garbling) (subtract_last garbling) (starting garbling carry) (q ∷ ps)))
    (quiet_first_carry p)
    (λ carry. quiet_formed (λ so_far. garbling.xor p.0 p.1 ∷ so_far.bits) (closed garbling (subtract_bit garbling) (subtract_last garbling) (starting garbling carry) (q ∷ ps))
    (quiet_closed (subtract_bit garbling) (subtract_last garbling) quiet_subtract_bit quiet_subtract_last (starting garbling carry) (q ∷ ps)))

quiet_compared : (ps : List (Label × Label)) → Quiet (compared garbling ps)
quiet_compared [] = λ s. (tt, refl)
quiet_compared (p ∷ ps) =
    quiet_followed (first_carry garbling p)
    (λ carry. formed garbling (below garbling (garbling.xor p.0 p.1)) (folded garbling (subtract_bit garbling) (starting garbling carry) ps))
    (quiet_first_carry p)
    (λ carry. quiet_formed (below garbling (garbling.xor p.0 p.1)) (folded garbling (subtract_bit garbling) (starting garbling carry) ps)
    (quiet_folded (subtract_bit garbling) quiet_subtract_bit (starting garbling carry) ps))

quiet_less : (ps : List (Label × Label)) → Quiet (less garbling ps)
quiet_less ps =
    quiet_followed (compared garbling ps) (λ so_far. inverted garbling so_far.carry) (quiet_compared ps) (λ so_far. quiet_inverted so_far.carry)

quiet_same_bit : (same : Label) (p : Label × Label) → Quiet (same_bit garbling same p)
quiet_same_bit same p = λ s. ((tt, tt), refl)

quiet_equal : (ps : List (Label × Label)) → Quiet (equal garbling ps)
quiet_equal [] = λ s. (tt, refl)
quiet_equal (p ∷ ps) =
    quiet_followed (inverted garbling (garbling.xor p.0 p.1)) (λ same. folded garbling (same_bit garbling) same ps)
    (quiet_inverted (garbling.xor p.0 p.1)) (λ same. quiet_folded (same_bit garbling) quiet_same_bit same ps)

quiet_least : (ps : List (Label × Label)) → Quiet (least garbling ps)
quiet_least ps =
    quiet_followed (less garbling ps) (λ is_less. each garbling (choose_bit garbling is_less) ps) (quiet_less ps)
    (λ is_less. quiet_each (choose_bit garbling is_less) (quiet_choose is_less) ps)

quiet_greatest : (ps : List (Label × Label)) → Quiet (greatest garbling ps)
quiet_greatest ps =
    quiet_followed (less garbling ps) (λ is_less. each garbling (replace_bit garbling is_less) ps) (quiet_less ps)
    (λ is_less. quiet_each (replace_bit garbling is_less) (quiet_replace is_less) ps)

quiet_row : (xs : List Label) (b : Label) → Quiet (row garbling xs b)
quiet_row xs b = quiet_each (λ bit. anded garbling bit b) (λ bit. quiet_anded bit b) xs

quiet_multiply_bit : (a : List Label) (x : Summed Label) (b : Label) → Quiet (multiply_bit garbling a x b)
quiet_multiply_bit a x b =
    let form : List Label → Summed Label = λ sum. record { done = x.done ++ take 1 x.sum; sum = sum } in
    quiet_followed {Y = Summed Label} (row garbling (take (length x.sum - 1) a) b)
    (λ line. formed garbling form (added garbling (zip (drop 1 x.sum) line)))
    (quiet_row (take (length x.sum - 1) a) b)
    (λ line. quiet_formed form (added garbling (zip (drop 1 x.sum) line)) (quiet_added (zip (drop 1 x.sum) line)))

quiet_multiplied : (a b : List Label) → Quiet (multiplied garbling a b)
quiet_multiplied a [] = λ s. (tt, refl)
quiet_multiplied a (bit ∷ bits) =
    quiet_followed (row garbling a bit)
    (λ line. formed garbling (λ so_far. so_far.done ++ so_far.sum) (folded garbling (multiply_bit garbling a) (record { done = []; sum = line }) bits))
    (quiet_row a bit)
    (λ line. quiet_formed (λ so_far. so_far.done ++ so_far.sum) (folded garbling (multiply_bit garbling a) (record { done = []; sum = line }) bits)
    (quiet_folded (multiply_bit garbling a) (quiet_multiply_bit a) (record { done = []; sum = line }) bits))

quiet_taken_away : (b : List Label) (bit : Label) (rest : List Label) → Quiet (taken_away garbling b bit rest)
quiet_taken_away b bit rest =
    quiet_followed (compared garbling (zip (moved_in garbling bit rest) b))
    (λ difference. followed garbling (anded garbling (highest_of garbling bit rest) difference.carry) (λ both. last difference both))
    (quiet_compared (zip (moved_in garbling bit rest) b))
    (λ difference. quiet_followed (anded garbling (highest_of garbling bit rest) difference.carry) (λ both. last difference both)
    (quiet_anded (highest_of garbling bit rest) difference.carry)
    (λ both. let out : Label = either garbling (highest_of garbling bit rest) difference.carry both in
    quiet_formed (with_carry garbling out) (each garbling (replace_bit garbling out) (zip (moved_in garbling bit rest) difference.bits))
    (quiet_each (replace_bit garbling out) (quiet_replace out) (zip (moved_in garbling bit rest) difference.bits))))
  where
    last : Carried Label → Label → Circuit garbling (Carried Label)
    last difference both =
        formed garbling (with_carry garbling (either garbling (highest_of garbling bit rest) difference.carry both))
        (each garbling (replace_bit garbling (either garbling (highest_of garbling bit rest) difference.carry both)) (zip (moved_in garbling bit rest) difference.bits))

quiet_divided : (a b : List Label) → Quiet (divided garbling a b)
quiet_divided a b = λ s.
    quiet_folded (divide_bit garbling b) (λ so_far bit. quiet_formed (divided_by so_far) (taken_away garbling b bit so_far.rest) (quiet_taken_away b bit so_far.rest)) _ (reverse a) s

quiet_count_up : (x : Carried Label) (bit : Label) → Quiet (count_up garbling x bit)
quiet_count_up x bit = λ s. ((tt, tt), refl)

quiet_count_last : (x : Carried Label) (bit : Label) → Quiet (count_last garbling x bit)
quiet_count_last x bit = λ s. (tt, refl)

quiet_either : {X : Type 0} (b : Bool) (c d : Circuit garbling X) → Quiet c → Quiet d → Quiet (cond b c d)
quiet_either true c d h k = h
quiet_either false c d h k = k

quiet_count_bit : (x : Counted Label) (bit : Label) → Quiet (count_bit garbling x bit)
quiet_count_bit x bit =
    quiet_either (x.seen + 1 == 2 ^ length x.bits) _ _
    (λ s. quiet_folded (count_up garbling) quiet_count_up (starting garbling bit) x.bits s)
    (λ s. quiet_closed (count_up garbling) (count_last garbling) quiet_count_up quiet_count_last (starting garbling bit) x.bits s)

quiet_counted : (bits : List Label) → Quiet (counted garbling bits)
quiet_counted [] = λ s. (tt, refl)
quiet_counted (bit ∷ bits) = quiet_folded (count_bit garbling) quiet_count_bit (record { seen = 1; bits = bit ∷ [] }) bits

-- ---- instructions

pub quiet_circuit : (o : Op) → is_input o ≡ false → (width imm : ℕ) (a b c : List Label) → Quiet (circuit_of garbling o width imm a b c)
quiet_circuit op.Input none width imm a b c = cc
quiet_circuit op.Const none width imm a b c = λ s. (tt, refl)
quiet_circuit op.Output none width imm a b c = λ s. ((tt, tt), refl)
quiet_circuit op.Add none width imm a b c = quiet_added (zip a b)
quiet_circuit op.Sub none width imm a b c = quiet_subtracted (zip a b)
quiet_circuit op.Mul none width imm a b c = quiet_multiplied a b
quiet_circuit op.And none width imm a b c = quiet_each (and_bit garbling) (λ p s. ((tt, tt), refl)) (zip a b)
quiet_circuit op.Or none width imm a b c = quiet_each (or_bit garbling) (λ p s. ((tt, tt), refl)) (zip a b)
quiet_circuit op.Xor none width imm a b c = λ s. (tt, refl)
quiet_circuit op.Not none width imm a b c = λ s. (tt, refl)
quiet_circuit op.Eq none width imm a b c = λ s. quiet_equal (zip a b) s
quiet_circuit op.Lt none width imm a b c = λ s. quiet_less (zip a b) s
quiet_circuit op.Mux none width imm a b c = λ s.
    let condition : Label = get_or a 0 (garbling.constant s false) in
    quiet_each (choose_bit garbling condition) (quiet_choose condition) (zip b c) s
quiet_circuit op.Shl none width imm a b c = λ s. (tt, refl)
quiet_circuit op.Shr none width imm a b c = λ s. (tt, refl)
quiet_circuit op.Resize none width imm a b c = λ s. (tt, refl)
quiet_circuit op.Send none width imm a b c = λ s. (tt, refl)
quiet_circuit op.Recv none width imm a b c = λ s. (tt, refl)
quiet_circuit op.Div none width imm a b c = λ s. quiet_divided a b s
quiet_circuit op.Rem none width imm a b c = λ s. quiet_divided a b s
quiet_circuit op.Count none width imm a b c =
    quiet_followed (counted garbling a) (λ all. resized garbling width all.bits) (quiet_counted a) (λ all s. (tt, refl))
quiet_circuit op.Min none width imm a b c = quiet_least (zip a b)
quiet_circuit op.Max none width imm a b c = quiet_greatest (zip a b)
