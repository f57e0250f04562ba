-- How many wires the circuit of an instruction gives.
use Rattle.std.proofs.Common.{◌≡◌, ◌≤◌, ◌<◌, ℕ, zero, suc, ◌+◌, ◌-◌, true, false, List, [], ◌∷◌, ◌++◌, length, take, drop, map, reverse, replicate, get_or, refl, sym, ap, ◌∙◌, subst, arith}
use Rattle.std.proofs.lemmas.List.{length-append, length-replicate, length-take-le, length-drop, length-reverse}
use Rattle.std.specs.List.{zip}
use Rattle.mage_bits.specs.Bits.{bits}
use Rattle.mage_bits.proofs.BitLaws.{length-bits}
use Rattle.mage_instr.specs.declared.op.Op.{Op}
use Rattle.mage_instr.specs.declared.op.Op.TheVariants as op
use Rattle.mage_instr.specs.Opcodes.{arity_of, width_of_arg, width_of_result, has_result}
use Rattle.mage_linked.specs.Transfers.{is_recv}
use Rattle.mage_driver.specs.Rules.{Rules, AreLawful}
use Rattle.mage_driver.specs.Circuits.{Made, Circuit, anded, folded, closed}
use Rattle.mage_driver.specs.Operations.{Carried, Summed, Divided, circuit_of, party_of, one_more, each, and_bit, or_bit, choose_bit, replace_bit, starting, add_bit, add_last, added, subtract_bit, subtract_last, first_carry, subtracted, compared, less, row, multiply_bit, multiplied, moved_in, highest_of, either, taken_away, divide_bit, counted, resized, moved_up}

zip_long : {A B : Type 0} (a : List A) (b : List B) (n : ℕ) → length a ≡ n → length b ≡ n → length (zip a b) ≡ n
zip_long [] [] n e f = e
zip_long [] (y ∷ b) n e f = e
zip_long (x ∷ a) [] n e f = f
zip_long (x ∷ a) (y ∷ b) zero e f = absurd (let t : suc (length a) ≡ 0 = e in omega arith)
zip_long (x ∷ a) (y ∷ b) (suc n) e f =
    ap suc (zip_long a b n (let t : suc (length a) ≡ suc n = e in omega arith) (let t : suc (length b) ≡ suc n = f in omega arith))

map_long : {A B : Type 0} (f : A → B) (xs : List A) → length (map f xs) ≡ length xs
map_long f [] = refl
map_long f (x ∷ xs) = ap suc (map_long f xs)

reverse_long : {A : Type 0} (xs : List A) → length (reverse xs) ≡ length xs
reverse_long xs = length-reverse xs

module _ {W : Type 0} (rules : Rules W) where
  -- a fold whose steps each give one bit more
  folded_more : {X I : Type 0} (size : X → ℕ) (step : X → I → Circuit rules X) →
      ((x : X) (i : I) (s : rules.State) → size (step x i s).wires ≡ size x + 1) →
      (x : X) (items : List I) (s : rules.State) → size (folded rules step x items s).wires ≡ size x + length items
  folded_more size step h x [] s = omega arith
  folded_more size step h x (item ∷ items) s =
      folded_more size step h (step x item s).wires items (step x item s).state
      ∙ ap (λ n. n + length items) (h x item s)
      ∙ (let e : size x + 1 + length items ≡ size x + suc (length items) = omega arith in e)

  closed_more : {X I : Type 0} (size : X → ℕ) (step last : X → I → Circuit rules X) →
      ((x : X) (i : I) (s : rules.State) → size (step x i s).wires ≡ size x + 1) →
      ((x : X) (i : I) (s : rules.State) → size (last x i s).wires ≡ size x + 1) →
      (x : X) (items : List I) (s : rules.State) → size (closed rules step last x items s).wires ≡ size x + length items
  closed_more {X} {I} size step last h k x items s =
      let front = folded rules step x (take (length items - 1) items) s in
      folded_more size last k front.wires (drop (length items - 1) items) front.state
      ∙ ap (λ n. n + length (drop (length items - 1) items)) (folded_more size step h x (take (length items - 1) items) s)
      ∙ (let a = length-take-le (length items - 1) items (omega arith) in
      let b = length-drop (length items - 1) items in
      let e : size x + length (take (length items - 1) items) + length (drop (length items - 1) items) ≡ size x + length items = omega arith in e)

  each_long : {I : Type 0} (bit : I → Circuit rules W) (items : List I) (s : rules.State) →
      length (each rules bit items s).wires ≡ length items
  each_long {I} bit items s =
      folded_more length (one_more rules bit) (λ bits i t. length-append bits ((bit i t).wires ∷ [])) [] items s
      ∙ (let e : 0 + length items ≡ length items = omega arith in e)

  carried_size : Carried W → ℕ
  carried_size so_far = length so_far.bits

  add_more : (so_far : Carried W) (pair : W × W) (s : rules.State) → length (add_bit rules so_far pair s).wires.bits ≡ length so_far.bits + 1
  add_more so_far pair s = length-append so_far.bits _

  last_more : (so_far : Carried W) (pair : W × W) (s : rules.State) → length (add_last rules so_far pair s).wires.bits ≡ length so_far.bits + 1
  last_more so_far pair s = length-append so_far.bits _

  subtract_more : (so_far : Carried W) (pair : W × W) (s : rules.State) → length (subtract_bit rules so_far pair s).wires.bits ≡ length so_far.bits + 1
  subtract_more so_far pair s = length-append so_far.bits _

  subtract_last_more : (so_far : Carried W) (pair : W × W) (s : rules.State) → length (subtract_last rules so_far pair s).wires.bits ≡ length so_far.bits + 1
  subtract_last_more so_far pair s = length-append so_far.bits _

  added_long : (pairs : List (W × W)) (s : rules.State) → length (added rules pairs s).wires ≡ length pairs
  added_long [] s = refl
  added_long (pair ∷ []) s = refl
  added_long (pair ∷ one ∷ pairs) s =
      ap suc (closed_more (λ (c : Carried W). length c.bits) (add_bit rules) (add_last rules) add_more last_more
      (starting rules (rules.and s pair.0 pair.1).1) (one ∷ pairs) (rules.and s pair.0 pair.1).0
      ∙ (let e : 0 + suc (length pairs) ≡ suc (length pairs) = omega arith in e))

  subtracted_long : (pairs : List (W × W)) (s : rules.State) → length (subtracted rules pairs s).wires ≡ length pairs
  subtracted_long [] s = refl
  subtracted_long (pair ∷ []) s = refl
  subtracted_long (pair ∷ one ∷ pairs) s =
      ap suc (closed_more (λ (c : Carried W). length c.bits) (subtract_bit rules) (subtract_last rules) subtract_more subtract_last_more
      (starting rules (first_carry rules pair s).wires) (one ∷ pairs) (first_carry rules pair s).state
      ∙ (let e : 0 + suc (length pairs) ≡ suc (length pairs) = omega arith in e))

  compared_long : (pairs : List (W × W)) (s : rules.State) → length (compared rules pairs s).wires.bits ≡ length pairs
  compared_long [] s = refl
  compared_long (pair ∷ pairs) s =
      ap suc (folded_more (λ (c : Carried W). length c.bits) (subtract_bit rules) subtract_more
      (starting rules (first_carry rules pair s).wires) pairs (first_carry rules pair s).state
      ∙ (let e : 0 + length pairs ≡ length pairs = omega arith in e))

  -- the bits of a product that are done, and those of the sum
  product_long : (a : List W) (so_far : Summed W) (bits : List W) (s : rules.State) → length bits < length so_far.sum →
      length so_far.sum ≤ length a →
      let end = (folded rules (multiply_bit rules a) so_far bits s).wires in
      length (end.done ++ end.sum) ≡ length so_far.done + length so_far.sum
  product_long a so_far [] s h k = length-append so_far.done so_far.sum
  product_long a so_far (bit ∷ bits) s h k =
      product_long a after.wires bits after.state (let m = more in let t : length (bit ∷ bits) ≡ suc (length bits) = refl in omega arith)
      (let m = more in omega arith)
      ∙ (let m = more in let d = done_more in let t : length (bit ∷ bits) ≡ suc (length bits) = refl in omega arith)
    where
      after : Made rules.State W (Summed W)
      after = multiply_bit rules a so_far bit s

      line : Made rules.State W (List W)
      line = row rules (take (length so_far.sum - 1) a) bit s

      more : length after.wires.sum ≡ length so_far.sum - 1
      more = added_long (zip (drop 1 so_far.sum) line.wires) line.state
          ∙ zip_long (drop 1 so_far.sum) line.wires (length so_far.sum - 1) (length-drop 1 so_far.sum)
          (each_long (λ x. anded rules x bit) (take (length so_far.sum - 1) a) s ∙ length-take-le (length so_far.sum - 1) a (omega arith))

      done_more : length after.wires.done ≡ length so_far.done + 1
      done_more = length-append so_far.done (take 1 so_far.sum)
          ∙ ap (λ n. length so_far.done + n) (length-take-le 1 so_far.sum (let t : length (bit ∷ bits) ≡ suc (length bits) = refl in omega arith))

  multiplied_long : (a b : List W) (s : rules.State) → length a ≡ length b → length (multiplied rules a b s).wires ≡ length b
  multiplied_long a [] s e = refl
  multiplied_long a (bit ∷ bits) s e =
      let line = row rules a bit s in
      let start : Summed W = record { done = []; sum = line.wires } in
      let long : length line.wires ≡ length a = each_long (λ x. anded rules x bit) a s in
      let t : length (bit ∷ bits) ≡ suc (length bits) = refl in
      product_long a start bits line.state (let l = long in omega arith) (let l = long in omega arith)
      ∙ (let f : 0 + length line.wires ≡ length line.wires = omega arith in f) ∙ long ∙ e

  -- what is left stays as long as the divisor
  taken_long : (b : List W) (bit : W) (rest : List W) (s : rules.State) → length rest ≡ length b → 1 ≤ length b →
      length (taken_away rules b bit rest s).wires.bits ≡ length b
  taken_long b bit rest s e h =
      each_long (replace_bit rules (either rules (highest_of rules bit rest) difference.wires.carry both.1))
      (zip (moved_in rules bit rest) difference.wires.bits) both.0
      ∙ zip_long (moved_in rules bit rest) difference.wires.bits (length b) in_long
      (compared_long (zip (moved_in rules bit rest) b) s ∙ zip_long (moved_in rules bit rest) b (length b) in_long refl)
    where
      difference : Made rules.State W (Carried W)
      difference = compared rules (zip (moved_in rules bit rest) b) s

      both : rules.State × W
      both = rules.and difference.state (highest_of rules bit rest) difference.wires.carry

      in_long : length (moved_in rules bit rest) ≡ length b
      in_long = ap suc (length-take-le (length rest - 1) rest (omega arith)) ∙ (let t = e in omega arith)

  divided_long : (b bits : List W) (so_far : Divided W) (s : rules.State) → length so_far.rest ≡ length b → 1 ≤ length b →
      let end = (folded rules (divide_bit rules b) so_far bits s).wires in
      (length end.quotient ≡ length so_far.quotient + length bits) × (length end.rest ≡ length b)
  divided_long b [] so_far s e h = (omega arith, e)
  divided_long b (bit ∷ bits) so_far s e h =
      let after = divide_bit rules b so_far bit s in
      let l = divided_long b bits after.wires after.state (taken_long b bit so_far.rest s e h) h in
      (l.0 ∙ (let f : suc (length so_far.quotient) + length bits ≡ length so_far.quotient + suc (length bits) = omega arith in f), l.1)

  resized_long : (width : ℕ) (wires : List W) (s : rules.State) → length (resized rules width wires s).wires ≡ width
  resized_long width wires s =
      length-take-le width (wires ++ replicate width (rules.constant s false))
      (let a = length-append wires (replicate width (rules.constant s false)) in
      let b = length-replicate width (rules.constant s false) in omega arith)

  moved_up_long : (width amount : ℕ) (wires : List W) (s : rules.State) → length wires ≡ width →
      length (moved_up rules width amount wires s).wires ≡ width
  moved_up_long width amount wires s e =
      length-take-le width (replicate amount (rules.constant s false) ++ wires)
      (let a = length-append (replicate amount (rules.constant s false)) wires in omega arith)

  -- the wires of an instruction's value
  pub circuit_long : AreLawful rules → (o : Op) (width imm : ℕ) (a b c : List W) (s : rules.State) → 1 ≤ width →
      has_result o ≡ true → is_recv o ≡ false →
      (0 < arity_of o → length a ≡ width_of_arg o width imm 0) → (1 < arity_of o → length b ≡ width_of_arg o width imm 1) →
      (2 < arity_of o → length c ≡ width_of_arg o width imm 2) →
      length (circuit_of rules o width imm a b c s).wires ≡ width_of_result o width
  circuit_long lawful op.Input width imm a b c s some has recv la lb lc = lawful.inputs s (party_of imm) width
  circuit_long lawful op.Const width imm a b c s some has recv la lb lc =
      map_long (rules.constant s) (bits imm width) ∙ length-bits imm width
  circuit_long lawful op.Output width imm a b c s some has recv la lb lc = absurd cc
  circuit_long lawful op.Add width imm a b c s some has recv la lb lc =
      added_long (zip a b) s ∙ zip_long a b width (la (omega arith)) (lb (omega arith))
  circuit_long lawful op.Sub width imm a b c s some has recv la lb lc =
      subtracted_long (zip a b) s ∙ zip_long a b width (la (omega arith)) (lb (omega arith))
  circuit_long lawful op.Mul width imm a b c s some has recv la lb lc =
      multiplied_long a b s (la (omega arith) ∙ sym (lb (omega arith))) ∙ lb (omega arith)
  circuit_long lawful op.And width imm a b c s some has recv la lb lc =
      each_long (and_bit rules) (zip a b) s ∙ zip_long a b width (la (omega arith)) (lb (omega arith))
  circuit_long lawful op.Or width imm a b c s some has recv la lb lc =
      each_long (or_bit rules) (zip a b) s ∙ zip_long a b width (la (omega arith)) (lb (omega arith))
  circuit_long lawful op.Xor width imm a b c s some has recv la lb lc =
      map_long _ (zip a b) ∙ zip_long a b width (la (omega arith)) (lb (omega arith))
  circuit_long lawful op.Not width imm a b c s some has recv la lb lc = map_long (rules.not s) a ∙ la (omega arith)
  circuit_long lawful op.Eq width imm a b c s some has recv la lb lc = refl
  circuit_long lawful op.Lt width imm a b c s some has recv la lb lc = refl
  circuit_long lawful op.Mux width imm a b c s some has recv la lb lc =
      each_long (choose_bit rules (get_or a 0 (rules.constant s false))) (zip b c) s
      ∙ zip_long b c width (lb (omega arith)) (lc (omega arith))
  circuit_long lawful op.Shl width imm a b c s some has recv la lb lc = moved_up_long width imm a s (la (omega arith))
  circuit_long lawful op.Shr width imm a b c s some has recv la lb lc = resized_long width (drop imm a) s
  circuit_long lawful op.Resize width imm a b c s some has recv la lb lc = resized_long width a s
  circuit_long lawful op.Send width imm a b c s some has recv la lb lc = absurd cc
  circuit_long lawful op.Recv width imm a b c s some has recv la lb lc = absurd cc
  circuit_long lawful op.Div width imm a b c s some has recv la lb lc =
      let start : Divided W = record { quotient = []; rest = replicate (length a) (rules.constant s false) } in
      let d = divided_long b (reverse a) start s
      (length-replicate (length a) (rules.constant s false) ∙ la (omega arith) ∙ sym (lb (omega arith)))
      (subst (λ n. 1 ≤ n) (sym (lb (omega arith))) some) in
      d.0 ∙ (let f : 0 + length (reverse a) ≡ length (reverse a) = omega arith in f) ∙ reverse_long a ∙ la (omega arith)
  circuit_long lawful op.Rem width imm a b c s some has recv la lb lc =
      let start : Divided W = record { quotient = []; rest = replicate (length a) (rules.constant s false) } in
      let d = divided_long b (reverse a) start s
      (length-replicate (length a) (rules.constant s false) ∙ la (omega arith) ∙ sym (lb (omega arith)))
      (subst (λ n. 1 ≤ n) (sym (lb (omega arith))) some) in
      d.1 ∙ lb (omega arith)
  circuit_long lawful op.Count width imm a b c s some has recv la lb lc =
      resized_long width (counted rules a s).wires.bits (counted rules a s).state
  circuit_long lawful op.Min width imm a b c s some has recv la lb lc =
      each_long (choose_bit rules (less rules (zip a b) s).wires) (zip a b) (less rules (zip a b) s).state
      ∙ zip_long a b width (la (omega arith)) (lb (omega arith))
  circuit_long lawful op.Max width imm a b c s some has recv la lb lc =
      each_long (replace_bit rules (less rules (zip a b) s).wires) (zip a b) (less rules (zip a b) s).state
      ∙ zip_long a b width (la (omega arith)) (lb (omega arith))
