-- A list of instructions that is written out is sound where a test that computes says so.
use Rattle.std.proofs.Common.{◌≡◌, ◌<◌, ◌≤◌, ◌^◌, ◌+◌, ◌&&◌, ◌∷◌, [], zero, suc, ℕ, List, Bool, true, false, Option, None, Some, IfSome, IsSomeAnd, eqb, ltb, leb, length, arith, ⊎_elim, subst}
use Rattle.std.specs.List.{slice_get}
use Rattle.std.proofs.lemmas.Bool.{and_parts, cases_eq, eqb-true, ltb-true, leb-true, false≢true}
use Rattle.mage_instr.specs.declared.instr.TheConstants.{NEVER}
use Rattle.mage_instr.specs.declared.instr.Instr.{Instr}
use Rattle.mage_instr.specs.declared.op.Op.{Op}
use Rattle.mage_instr.specs.declared.op.Op.TheVariants as op
use Rattle.mage_instr.specs.Opcodes.{arity_of, has_result, width_of_result, width_of_arg, ImmOk}
use Rattle.mage_instr.specs.Sound.{arg_of, Defines, IsArgument, IsSoundAt, IsSound}

abbrev imm_ok : Op → (w imm : ℕ) → Bool
imm_ok op.Input w imm = leb imm 1
imm_ok op.Const w imm = ltb imm (2 ^ w) && ltb imm (2 ^ 64)
imm_ok op.Output w imm = eqb imm 0
imm_ok op.Add w imm = eqb imm 0
imm_ok op.Sub w imm = eqb imm 0
imm_ok op.Mul w imm = eqb imm 0
imm_ok op.And w imm = eqb imm 0
imm_ok op.Or w imm = eqb imm 0
imm_ok op.Xor w imm = eqb imm 0
imm_ok op.Not w imm = eqb imm 0
imm_ok op.Eq w imm = eqb imm 0
imm_ok op.Lt w imm = eqb imm 0
imm_ok op.Mux w imm = eqb imm 0
imm_ok op.Shl w imm = leb imm 128
imm_ok op.Shr w imm = leb imm 128
imm_ok op.Resize w imm = leb 1 imm && leb imm 128
imm_ok op.Send w imm = ltb imm 16
imm_ok op.Recv w imm = ltb imm 16
imm_ok op.Div w imm = eqb imm 0
imm_ok op.Rem w imm = eqb imm 0
imm_ok op.Count w imm = eqb imm 0
imm_ok op.Min w imm = eqb imm 0
imm_ok op.Max w imm = eqb imm 0

ImmOk-from_test : (o : Op) (w imm : ℕ) → imm_ok o w imm ≡ true → ImmOk o w imm
ImmOk-from_test op.Input w imm h = leb-true imm 1 h
ImmOk-from_test op.Const w imm h = let both = and_parts (ltb imm (2 ^ w)) (ltb imm (2 ^ 64)) h in (ltb-true imm (2 ^ w) both.0, ltb-true imm (2 ^ 64) both.1)
ImmOk-from_test op.Output w imm h = eqb-true imm 0 h
ImmOk-from_test op.Add w imm h = eqb-true imm 0 h
ImmOk-from_test op.Sub w imm h = eqb-true imm 0 h
ImmOk-from_test op.Mul w imm h = eqb-true imm 0 h
ImmOk-from_test op.And w imm h = eqb-true imm 0 h
ImmOk-from_test op.Or w imm h = eqb-true imm 0 h
ImmOk-from_test op.Xor w imm h = eqb-true imm 0 h
ImmOk-from_test op.Not w imm h = eqb-true imm 0 h
ImmOk-from_test op.Eq w imm h = eqb-true imm 0 h
ImmOk-from_test op.Lt w imm h = eqb-true imm 0 h
ImmOk-from_test op.Mux w imm h = eqb-true imm 0 h
ImmOk-from_test op.Shl w imm h = leb-true imm 128 h
ImmOk-from_test op.Shr w imm h = leb-true imm 128 h
ImmOk-from_test op.Resize w imm h = let both = and_parts (leb 1 imm) (leb imm 128) h in (leb-true 1 imm both.0, leb-true imm 128 both.1)
ImmOk-from_test op.Send w imm h = ltb-true imm 16 h
ImmOk-from_test op.Recv w imm h = ltb-true imm 16 h
ImmOk-from_test op.Div w imm h = eqb-true imm 0 h
ImmOk-from_test op.Rem w imm h = eqb-true imm 0 h
ImmOk-from_test op.Count w imm h = eqb-true imm 0 h
ImmOk-from_test op.Min w imm h = eqb-true imm 0 h
ImmOk-from_test op.Max w imm h = eqb-true imm 0 h

abbrev defines : Option Instr → ℕ → Bool
defines None w = false
defines (Some j) w = has_result j.op && eqb (width_of_result j.op j.width) w

Defines-from_test : (o : Option Instr) (w : ℕ) → defines o w ≡ true → IsSomeAnd o (λ j. Defines j w)
Defines-from_test None w h = false≢true h
Defines-from_test (Some j) w h = let both = and_parts (has_result j.op) (eqb (width_of_result j.op j.width) w) h in (both.0, eqb-true (width_of_result j.op j.width) w both.1)

abbrev each_below : ℕ → (ℕ → Bool) → Bool
each_below zero f = true
each_below (suc n) f = each_below n f && f n

below_from_test : (n : ℕ) (f : ℕ → Bool) → each_below n f ≡ true → (k : ℕ) → k < n → f k ≡ true
below_from_test zero f h k l = absurd (omega arith)
below_from_test (suc n) f h k l = ⊎_elim (λ e. rw e both.1) (λ ne. below_from_test n f both.0 k (omega arith)) (cases_eq k n) where
  both : (each_below n f ≡ true) × (f n ≡ true)
  both = and_parts (each_below n f) (f n) h

abbrev arg_ok : List Instr → ℕ → Instr → ℕ → Bool
arg_ok all t i k = ltb (arg_of i k) t && defines (slice_get all (arg_of i k)) (width_of_arg i.op i.width i.imm k)

abbrev instr_ok : List Instr → ℕ → Instr → Bool
instr_ok all t i = (leb 1 i.width && (leb i.width 128 && imm_ok i.op i.width i.imm)) && each_below (arity_of i.op) (arg_ok all t i)

IsSoundAt-from_test : (all : List Instr) (t : ℕ) (i : Instr) → instr_ok all t i ≡ true → IsSoundAt all t i
IsSoundAt-from_test all t i h =
    let parts = and_parts (leb 1 i.width && (leb i.width 128 && imm_ok i.op i.width i.imm)) (each_below (arity_of i.op) (arg_ok all t i)) h in
    let wide = and_parts (leb 1 i.width) (leb i.width 128 && imm_ok i.op i.width i.imm) parts.0 in
    let more = and_parts (leb i.width 128) (imm_ok i.op i.width i.imm) wide.1 in
    ((leb-true 1 i.width wide.0, leb-true i.width 128 more.0, ImmOk-from_test i.op i.width i.imm more.1), args parts.1) where
      args : each_below (arity_of i.op) (arg_ok all t i) ≡ true → (k : ℕ) → k < arity_of i.op → IsArgument all t i k
      args good k l =
          let both = and_parts (ltb (arg_of i k) t) (defines (slice_get all (arg_of i k)) (width_of_arg i.op i.width i.imm k)) (below_from_test (arity_of i.op) (arg_ok all t i) good k l) in
          (ltb-true (arg_of i k) t both.0, Defines-from_test (slice_get all (arg_of i k)) (width_of_arg i.op i.width i.imm k) both.1)

-- whether each of the instructions, which are numbered from n, can run
abbrev pub are_sound : (all : List Instr) → (n : ℕ) → List Instr → Bool
are_sound all n [] = true
are_sound all n (i ∷ is) = instr_ok all n i && are_sound all (n + 1) is

sound_each : (all : List Instr) (n : ℕ) (is : List Instr) → are_sound all n is ≡ true → (t : ℕ) → IfSome (slice_get is t) (IsSoundAt all (n + t))
sound_each all n [] h t = tt
sound_each all n (i ∷ is) h zero = let e : n ≡ n + 0 = omega arith in subst (λ x. IsSoundAt all x i) e (IsSoundAt-from_test all n i (and_parts (instr_ok all n i) (are_sound all (n + 1) is) h).0)
sound_each all n (i ∷ is) h (suc t) = let e : n + 1 + t ≡ n + suc t = omega arith in subst (λ x. IfSome (slice_get is t) (IsSoundAt all x)) e (sound_each all (n + 1) is (and_parts (instr_ok all n i) (are_sound all (n + 1) is) h).1 t)

pub IsSound-from_test : (instrs : List Instr) → length instrs ≤ NEVER → are_sound instrs 0 instrs ≡ true → IsSound instrs
IsSound-from_test instrs count h = record { count = count; each = λ t. let e : 0 + t ≡ t = omega arith in subst (λ x. IfSome (slice_get instrs t) (IsSoundAt instrs x)) e (sound_each instrs 0 instrs h t) }
