-- What a sound list says of its arguments, and how last uses go on.
use Rattle.std.proofs.Common.{◌≡◌, ◌≢◌, ◌<◌, ◌≤◌, ◌+◌, ◌++◌, ◌∷◌, [], ℕ, List, true, false, cond, eqb, Option, Some, None, inl, inr, length, take, get_or, slice_index, Contains, refl, sym, ◌∙◌, arith, subst, ⊎_elim, IsSomeAnd}
use Rattle.std.specs.List.{slice_get, list_any}
use Rattle.std.proofs.lemmas.Bool.{cases_eq, cases_Bool, false≢true, cond-true, cond-false}
use Rattle.std.proofs.lemmas.Cmp.{nat_eq_equiv}
use Rattle.std.proofs.lemmas.List.{length-take, get_or-take, get_or_default, get_or_push, get_or_append_left}
use Rattle.std.proofs.lemmas.Map.Views.{Contains-from_any, list_any-from_Contains, exact_unsigned_eq}
use Rattle.std.proofs.lemmas.Option.{slice_get_within}
use Rattle.mage_instr.specs.declared.instr.Instr.{Instr}
use Rattle.mage_instr.specs.declared.op.Op.{Op}
use Rattle.mage_instr.specs.declared.op.Op.TheVariants as variants
use Rattle.mage_instr.specs.Opcodes.{arity_of, has_result}
use Rattle.mage_instr.specs.Sound.{arg_of, IsSound, IsSoundAt}
use Rattle.mage_place.specs.Live.{args_of, Takes, IsLastUse}

-- what stands past the end of a list
abbrev pub no_instr : Instr
no_instr = record { op = variants.Input; width = 0; args = []; imm = 0 }

pub some_and : {X : Type 0} (o : Option X) (P : X → Type 0) → IsSomeAnd o P → (x : X) × (o ≡ Some x) × P x
some_and None P h = absurd h
some_and (Some x) P h = (x, refl, h)

-- instruction v defines a value
abbrev pub Defined : List Instr → ℕ → Type 0
Defined instrs v = (i : Instr) × (slice_get instrs v ≡ Some i) × (has_result i.op ≡ true)

pub sound_at : (instrs : List Instr) (t : ℕ) (i : Instr) → IsSound instrs → slice_get instrs t ≡ Some i → IsSoundAt instrs t i
sound_at instrs t i ok is = rw is at (ok.each t)

-- a number among the first n is one of them
pub place_in_front : (xs : List ℕ) (n v : ℕ) → Contains (take n xs) v → (k : ℕ) × (k < n) × (k < length xs) × (get_or xs k 0 ≡ v)
place_in_front xs n v h =
    let k = h.0 in
    let within : k < n = omega (arith, h.1, length-take n xs) in
    let inside : k < length xs = omega (arith, h.1, length-take n xs) in
    (k, within, inside, get_or_default xs k 0 v inside ∙ sym (get_or-take n xs k v within) ∙ h.2)

pub in_front : (xs : List ℕ) (n k : ℕ) → k < n → k < length xs → Contains (take n xs) (get_or xs k 0)
in_front xs n k below inside = let at = get_or-take n xs k (get_or xs k 0) below in (k, omega (arith, length-take n xs), at ∙ get_or_default xs k (get_or xs k 0) 0 inside)

pub arg_below : (instrs : List Instr) (t v : ℕ) (i : Instr) → IsSound instrs → slice_get instrs t ≡ Some i → Contains (args_of i) v → (v < t) × Defined instrs v
arg_below instrs t v i ok is h =
    let found = place_in_front i.args (arity_of i.op) v h in
    let fact = (sound_at instrs t i ok is).1 found.0 found.1 in
    let source = some_and (slice_get instrs (arg_of i found.0)) _ fact.1 in
    (subst (λ x. x < t) found.3 fact.0, (source.0, subst (λ x. slice_get instrs x ≡ Some source.0) found.3 source.1, source.2.0))

pub Takes-at : (instrs : List Instr) (s v : ℕ) (i : Instr) → slice_get instrs s ≡ Some i → Contains (args_of i) v → Takes instrs s v
Takes-at instrs s v i is h = rw is h

pub args-from_Takes : (instrs : List Instr) (s v : ℕ) → Takes instrs s v → (i : Instr) × (slice_get instrs s ≡ Some i) × Contains (args_of i) v
args-from_Takes instrs s v h = some_and (slice_get instrs s) _ h

-- what an instruction takes was defined before it
pub taken_below : (instrs : List Instr) (s v : ℕ) → IsSound instrs → Takes instrs s v → (v < s) × (s < length instrs) × Defined instrs v
taken_below instrs s v ok h =
    let i = args-from_Takes instrs s v h in let fact = arg_below instrs s v i.0 ok i.1 i.2 in
    (fact.0, slice_get_within instrs s i.0 i.1, fact.1)

-- no later instruction takes a value, if the next doesn't
none_after_more : (instrs : List Instr) (t v u : ℕ) (i : Instr) → slice_get instrs t ≡ Some i → list_any (eqb v) (args_of i) ≡ false → IsLastUse instrs t v u → (s : ℕ) → s < t + 1 → Takes instrs s v → s ≤ u
none_after_more instrs t v u i is unused was s fits takes = ⊎_elim at_t before (cases_eq s t) where
  contained : Takes instrs t v → Contains (args_of i) v
  contained has = rw is at has

  at_t : s ≡ t → s ≤ u
  at_t e = absurd (false≢true (sym unused ∙ list_any-from_Contains nat_eq_equiv v (args_of i) (contained (subst (λ x. Takes instrs x v) e takes))))

  before : s ≢ t → s ≤ u
  before ne = was.none_after s (omega arith) takes

-- one more instruction
pub IsLastUse-more : (instrs : List Instr) (last new : List ℕ) (t : ℕ) (i : Instr) → slice_get instrs t ≡ Some i → ((v : ℕ) → Contains (args_of i) v → v < t) → length last ≡ t
    → ((v : ℕ) → v < t → IsLastUse instrs t v (slice_index last v))
    → ((v : ℕ) → slice_index new v ≡ cond (list_any (eqb v) (args_of i)) t (slice_index (last ++ t ∷ []) v))
    → (v : ℕ) → v < t + 1 → IsLastUse instrs (t + 1) v (slice_index new v)
IsLastUse-more instrs last new t i is below count was now v fits = ⊎_elim used unused (cases_Bool (list_any (eqb v) (args_of i))) where
  used : list_any (eqb v) (args_of i) ≡ true → IsLastUse instrs (t + 1) v (slice_index new v)
  used h =
      let among = Contains-from_any exact_unsigned_eq v (args_of i) h in
      let value : slice_index new v ≡ t = now v ∙ cond-true (list_any (eqb v) (args_of i)) t (slice_index (last ++ t ∷ []) v) h in
      rw value (record { use_or_own = inr (below v among, Takes-at instrs t v i is among); none_after = λ s l takes. omega arith })

  unused : list_any (eqb v) (args_of i) ≡ false → IsLastUse instrs (t + 1) v (slice_index new v)
  unused h =
      let value : slice_index new v ≡ slice_index (last ++ t ∷ []) v = now v ∙ cond-false (list_any (eqb v) (args_of i)) t (slice_index (last ++ t ∷ []) v) h in
      rw value (⊎_elim own_value (earlier) (cases_eq v t)) where
        own_value : v ≡ t → IsLastUse instrs (t + 1) v (slice_index (last ++ t ∷ []) v)
        own_value e = let own : slice_index (last ++ t ∷ []) v ≡ t = rw e (get_or_push last t 0 t count) in rw own (record { use_or_own = inl (sym e); none_after = λ s l takes. omega arith })

        earlier : v ≢ t → IsLastUse instrs (t + 1) v (slice_index (last ++ t ∷ []) v)
        earlier ne =
            let less : v < t = omega arith in
            let same : slice_index (last ++ t ∷ []) v ≡ slice_index last v = get_or_append_left last (t ∷ []) 0 v (omega arith) in
            rw same (record { use_or_own = (was v less).use_or_own; none_after = none_after_more instrs t v (slice_index last v) i is h (was v less) })

-- an instruction without a result takes something
pub takes_without_result : (o : Op) → has_result o ≡ false → 0 < arity_of o
takes_without_result variants.Output h = omega arith
takes_without_result variants.Send h = omega arith
takes_without_result _ h = cc
