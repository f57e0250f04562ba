-- An instruction is read exactly where it is one of the worker's, in range.
use Rattle.std.proofs.Common.{◌≡◌, ◌≢◌, ℕ, zero, suc, ◌^◌, ◌<◌, ◌≤◌, Bool, true, false, not, ltb, eqb, List, [], ◌∷◌, length, refl, sym, ap, subst, ◌∙◌, arith, eqb-true, eq-eqb}
use Rattle.std.specs.Bool.{Decides}
use Rattle.std.specs.Int.{w8, w16, w64}
use Rattle.std.specs.List.{slice_index_or, AllByRecursion}
use Rattle.std.proofs.lemmas.Bool.{ltb-true, lt-ltb, le-ltb, ltb-false}
use Rattle.mage_instr.specs.declared.op.Op.{Op}
use Rattle.mage_instr.specs.declared.op.Op.TheVariants as op
use Rattle.mage_instr.specs.declared.replaced.Job.{Job}
use Rattle.mage_instr.specs.declared.replaced.Spot.{Spot}
use Rattle.mage_instr.specs.Opcodes.{arity_of, has_result, greatest_width, ImmOk, WidthOk}
use Rattle.mage_directives.specs.Directives.{no_spot, arg_at, LinksTo, IsJob}
use Rattle.mage_file.specs.Rules.{within, most_if, most_of_two_bytes, width_test, is_imm, is_link, is_immediate, is_const, both_pass}
use Rattle.mage_file.specs.Formats.{Format, ◌of◌, chain, done, either, field}
use Rattle.mage_file.specs.Grammar.{spot, instruction, constant, job}
use Rattle.mage_file.specs.Laws.{IsSpotValue, IsJobValue}
use Rattle.mage_file.proofs.Spells.{Spells, respelled, spells_done, spells_chain, spells_one, spells_other}
use Rattle.mage_file.proofs.FieldLaws.{Fields, wide8, wide16, wide64, spells_field, and_both, both_and, within_is, is_within, zero_then}

-- ---- spots

-- a number of two bytes, which is 0 where it isn't there
abbrev pub Half : Bool → ℕ → Type 0
Half there = Fields (2 ^ 16) (within 0 (most_if there most_of_two_bytes))

abbrev pub Spotted : Bool → Spot → Type 0
Spotted there y = Half there y.frame × Half there y.offset

pub half : (there : Bool) → Spells ℕ (field w16 (within 0 (most_if there most_of_two_bytes))) (Half there)
half there = spells_field w16 (2 ^ 16) (within 0 (most_if there most_of_two_bytes)) wide16

pub spells_spot : (there : Bool) → Spells Spot (spot there) (Spotted there)
unfolding spot
spells_spot there =
    let made : ℕ → ℕ → Spot = λ frame offset. record { frame = frame; offset = offset } in
    let rule : ℕ → Bool = within 0 (most_if there most_of_two_bytes) in
    let with_frame : ℕ → Format Spot = λ frame. chain (field w16 rule of (λ (s : Spot). s.offset)) (λ offset. done (made frame offset)) in
    respelled Spot (spot there) (λ y. Half there y.frame × (Half there y.offset × (y ≡ made y.frame y.offset))) (Spotted there)
    (spells_chain ℕ Spot (field w16 rule) (λ y. y.frame) with_frame (Half there) (λ a y. Half there y.offset × (y ≡ made a y.offset)) (half there)
    (λ frame _. spells_chain ℕ Spot (field w16 rule) (λ y. y.offset) (λ offset. done (made frame offset)) (Half there) (λ a y. y ≡ made frame a) (half there)
    (λ offset _. spells_done Spot (made frame offset))
    (λ a y p q. ap (λ (z : Spot). z.offset) q))
    (λ a y p q. ap (λ (z : Spot). z.frame) q.1))
    (λ y q. (q.0, q.1.0)) (λ y q. (q.0, (q.1, refl)))

-- ---- instructions

-- the number of an immediate
abbrev pub Imm : (workers own : ℕ) → Op → (width : ℕ) → ℕ → Type 0
Imm workers own o width = Fields (2 ^ 16) (is_immediate workers own o width)

abbrev pub made : Op → (width imm : ℕ) → (out first second third : Spot) → Job
made o width imm out first second third = record { op = o; width = width; imm = imm; out = out; args = first ∷ second ∷ third ∷ [] }

-- what is read behind the width of an instruction but Const
abbrev pub Read : (workers own : ℕ) → Op → (width : ℕ) → Job → Type 0
Read workers own o width y =
    Imm workers own o width y.imm × (Spotted (has_result o) y.out × (Spotted (ltb 0 (arity_of o)) (arg_at 0 y)
    × (Spotted (ltb 1 (arity_of o)) (arg_at 1 y) × (Spotted (ltb 2 (arity_of o)) (arg_at 2 y)
    × (y ≡ made o width y.imm y.out (arg_at 0 y) (arg_at 1 y) (arg_at 2 y))))))

pub spells_instruction : (workers own : ℕ) (o : Op) (width : ℕ) → Spells Job (instruction workers own o width) (Read workers own o width)
unfolding instruction
spells_instruction workers own o width =
    let third : ℕ → Spot → Spot → Spot → Spot → Format Job = λ imm out a b c. done (made o width imm out a b c) in
    let second : ℕ → Spot → Spot → Spot → Format Job = λ imm out a b. chain (spot (ltb 2 (arity_of o)) of arg_at 2) (third imm out a b) in
    let first : ℕ → Spot → Spot → Format Job = λ imm out a. chain (spot (ltb 1 (arity_of o)) of arg_at 1) (second imm out a) in
    let behind : ℕ → Spot → Format Job = λ imm out. chain (spot (ltb 0 (arity_of o)) of arg_at 0) (first imm out) in
    let start : ℕ → Format Job = λ imm. chain (spot (has_result o) of (λ (j : Job). j.out)) (behind imm) in
    spells_chain ℕ Job (field w16 (is_immediate workers own o width)) (λ y. y.imm) start
    (Imm workers own o width)
    (λ imm y. Spotted (has_result o) y.out × (Spotted (ltb 0 (arity_of o)) (arg_at 0 y) × (Spotted (ltb 1 (arity_of o)) (arg_at 1 y)
    × (Spotted (ltb 2 (arity_of o)) (arg_at 2 y) × (y ≡ made o width imm y.out (arg_at 0 y) (arg_at 1 y) (arg_at 2 y))))))
    (spells_field w16 (2 ^ 16) (is_immediate workers own o width) wide16)
    (λ imm _. spells_chain Spot Job (spot (has_result o)) (λ y. y.out) (behind imm)
    (Spotted (has_result o))
    (λ out y. Spotted (ltb 0 (arity_of o)) (arg_at 0 y) × (Spotted (ltb 1 (arity_of o)) (arg_at 1 y)
    × (Spotted (ltb 2 (arity_of o)) (arg_at 2 y) × (y ≡ made o width imm out (arg_at 0 y) (arg_at 1 y) (arg_at 2 y)))))
    (spells_spot (has_result o))
    (λ out _. spells_chain Spot Job (spot (ltb 0 (arity_of o))) (arg_at 0) (first imm out)
    (Spotted (ltb 0 (arity_of o)))
    (λ a y. Spotted (ltb 1 (arity_of o)) (arg_at 1 y) × (Spotted (ltb 2 (arity_of o)) (arg_at 2 y) × (y ≡ made o width imm out a (arg_at 1 y) (arg_at 2 y))))
    (spells_spot (ltb 0 (arity_of o)))
    (λ a _. spells_chain Spot Job (spot (ltb 1 (arity_of o))) (arg_at 1) (second imm out a)
    (Spotted (ltb 1 (arity_of o)))
    (λ b y. Spotted (ltb 2 (arity_of o)) (arg_at 2 y) × (y ≡ made o width imm out a b (arg_at 2 y)))
    (spells_spot (ltb 1 (arity_of o)))
    (λ b _. spells_chain Spot Job (spot (ltb 2 (arity_of o))) (arg_at 2) (third imm out a b)
    (Spotted (ltb 2 (arity_of o)))
    (λ c y. y ≡ made o width imm out a b c)
    (spells_spot (ltb 2 (arity_of o)))
    (λ c _. spells_done Job (made o width imm out a b c))
    (λ c y p q. ap (arg_at 2) q))
    (λ b y p q. ap (arg_at 1) q.1))
    (λ a y p q. ap (arg_at 0) q.1.1))
    (λ out y p q. ap (λ (z : Job). z.out) q.1.1.1))
    (λ imm y p q. ap (λ (z : Job). z.imm) q.1.1.1.1)

-- what is read behind the width of Const
abbrev pub ReadConst : (width : ℕ) → Job → Type 0
ReadConst width y =
    Spotted true y.out × (Fields (2 ^ 64) (is_imm op.Const width) y.imm × (Spotted false (arg_at 2 y)
    × (y ≡ made op.Const width y.imm y.out no_spot no_spot (arg_at 2 y))))

pub spells_constant : (width : ℕ) → Spells Job (constant width) (ReadConst width)
unfolding constant
spells_constant width =
    let third : Spot → ℕ → Spot → Format Job = λ out imm c. done (made op.Const width imm out no_spot no_spot c) in
    let second : Spot → ℕ → Format Job = λ out imm. chain (spot false of arg_at 2) (third out imm) in
    let first : Spot → Format Job = λ out. chain (field w64 (is_imm op.Const width) of (λ (j : Job). j.imm)) (second out) in
    let start : ℕ → Format Job = λ none. chain (spot true of (λ (j : Job). j.out)) first in
    zero_then Job w16 (2 ^ 16) start (ReadConst width) wide16 (omega arith)
    (spells_chain Spot Job (spot true) (λ y. y.out) first
    (Spotted true)
    (λ out y. Fields (2 ^ 64) (is_imm op.Const width) y.imm × (Spotted false (arg_at 2 y) × (y ≡ made op.Const width y.imm out no_spot no_spot (arg_at 2 y))))
    (spells_spot true)
    (λ out _. spells_chain ℕ Job (field w64 (is_imm op.Const width)) (λ y. y.imm) (second out)
    (Fields (2 ^ 64) (is_imm op.Const width))
    (λ imm y. Spotted false (arg_at 2 y) × (y ≡ made op.Const width imm out no_spot no_spot (arg_at 2 y)))
    (spells_field w64 (2 ^ 64) (is_imm op.Const width) wide64)
    (λ imm _. spells_chain Spot Job (spot false) (arg_at 2) (third out imm)
    (Spotted false)
    (λ c y. y ≡ made op.Const width imm out no_spot no_spot c)
    (spells_spot false)
    (λ c _. spells_done Job (made op.Const width imm out no_spot no_spot c))
    (λ c y p q. ap (arg_at 2) q))
    (λ imm y p q. ap (λ (z : Job). z.imm) q.1))
    (λ out y p q. ap (λ (z : Job). z.out) q.1.1))

-- ---- tests

differs : (a b : ℕ) → Decides (not (eqb a b)) (a ≢ b)
differs a b = (λ e same. none (eqb a b) e (eq-eqb a b same), λ h. some (eqb a b) (λ t. h (eqb-true a b t)))
  where
    none : (t : Bool) → not t ≡ true → t ≡ true → ⊥
    none true e f = absurd cc
    none false e f = absurd cc

    some : (t : Bool) → (t ≡ true → ⊥) → not t ≡ true
    some true h = absurd (h refl)
    some false h = refl

pub link_decides : (workers own : ℕ) (o : Op) (imm : ℕ) → Decides (is_link workers own o imm) (LinksTo workers own o imm)
unfolding is_link
link_decides workers own op.Send imm = both_pass (ltb imm workers) (not (eqb imm own)) (ltb-true imm workers, lt-ltb imm workers) (differs imm own)
link_decides workers own op.Recv imm = both_pass (ltb imm workers) (not (eqb imm own)) (ltb-true imm workers, lt-ltb imm workers) (differs imm own)
link_decides workers own _ imm = (λ e. tt, λ t. refl)

pub const_is : (o : Op) → is_const o ≡ true → o ≡ op.Const
unfolding is_const
const_is op.Const e = refl
const_is _ e = absurd cc

pub imm_small : (o : Op) (w imm : ℕ) → is_const o ≡ false → ImmOk o w imm → imm < 2 ^ 16
unfolding is_const
imm_small op.Const w imm e h = absurd cc
imm_small _ w imm e h = omega arith

-- the test of the table, as a fact
pub imm_decides : (o : Op) (w imm : ℕ) → Decides (is_imm o w imm) (WidthOk o w imm)
imm_decides o w imm = (width_test o w imm).decides

-- ---- what is read is in range

pub absent : (n : ℕ) → Half false n → n ≡ 0
absent n h = omega (arith, (within_is 0 0 n h.1).1)

pub no_spot_at : (there : Bool) (s : Spot) → Spotted there s → there ≡ false → s ≡ no_spot
no_spot_at true s h e = absurd cc
no_spot_at false s h e =
    let spot_of : ℕ → ℕ → Spot = λ frame offset. record { frame = frame; offset = offset } in
    ap (λ (n : ℕ). spot_of n s.offset) (absent s.frame h.0) ∙ ap (λ (n : ℕ). spot_of 0 n) (absent s.offset h.1)

spot_value : (there : Bool) (s : Spot) → Spotted there s → IsSpotValue s
spot_value there s h = record { frame = h.0.0; offset = h.1.0 }

pub half_of : (there : Bool) (n : ℕ) → n < 2 ^ 16 → (there ≡ false → n ≡ 0) → Half there n
half_of true n lt h = (lt, is_within 0 most_of_two_bytes n (omega arith) (omega arith))
half_of false n lt h = (lt, is_within 0 0 n (omega arith) (omega (arith, h refl)))

pub spotted_of : (there : Bool) (s : Spot) → IsSpotValue s → (there ≡ false → s ≡ no_spot) → Spotted there s
spotted_of there s v h = (half_of there s.frame v.frame (λ e. ap (λ (z : Spot). z.frame) (h e)), half_of there s.offset v.offset (λ e. ap (λ (z : Spot). z.offset) (h e)))

three : (xs : List Spot) → length xs ≡ 3 → xs ≡ slice_index_or xs 0 no_spot ∷ slice_index_or xs 1 no_spot ∷ slice_index_or xs 2 no_spot ∷ []
three [] e = absurd (omega arith)
three (a ∷ []) e = absurd (omega arith)
three (a ∷ b ∷ []) e = absurd (omega arith)
three (a ∷ b ∷ c ∷ []) e = refl
three (a ∷ b ∷ c ∷ d ∷ xs) e = absurd (omega arith)

values_at : (xs : List Spot) → length xs ≡ 3 → AllByRecursion IsSpotValue xs
    → IsSpotValue (slice_index_or xs 0 no_spot) × IsSpotValue (slice_index_or xs 1 no_spot) × IsSpotValue (slice_index_or xs 2 no_spot)
values_at [] e v = absurd (omega arith)
values_at (a ∷ []) e v = absurd (omega arith)
values_at (a ∷ b ∷ []) e v = absurd (omega arith)
values_at (a ∷ b ∷ c ∷ []) e v = (v.0, v.1.0, v.1.1.0)
values_at (a ∷ b ∷ c ∷ d ∷ xs) e v = absurd (omega arith)

-- an instruction of the opcode, of the worker, with numbers that its fields can hold
pub record Is (workers own : ℕ) (o : Op) (y : Job) : Type 0 where
  pub of_op : y.op ≡ o
  pub in_range : IsJob workers own y
  pub value : IsJobValue y

no_args_of : (o : Op) (a b c : Spot) → Spotted (ltb 0 (arity_of o)) a → Spotted (ltb 1 (arity_of o)) b → Spotted (ltb 2 (arity_of o)) c
    → (k : ℕ) → arity_of o ≤ k → k < 3 → slice_index_or (a ∷ b ∷ c ∷ []) k no_spot ≡ no_spot
no_args_of o a b c p q r zero le lt = no_spot_at (ltb 0 (arity_of o)) a p (le-ltb 0 (arity_of o) le)
no_args_of o a b c p q r (suc zero) le lt = no_spot_at (ltb 1 (arity_of o)) b q (le-ltb 1 (arity_of o) le)
no_args_of o a b c p q r (suc (suc zero)) le lt = no_spot_at (ltb 2 (arity_of o)) c r (le-ltb 2 (arity_of o) le)
no_args_of o a b c p q r (suc (suc (suc k))) le lt = absurd (omega arith)

-- the width of an instruction
abbrev pub Wide : ℕ → Type 0
Wide = Fields (2 ^ 8) (within 1 greatest_width)

read_is : (workers own : ℕ) (o : Op) (w imm : ℕ) (out a b c : Spot) → Imm workers own o w imm
    → Spotted (has_result o) out → Spotted (ltb 0 (arity_of o)) a → Spotted (ltb 1 (arity_of o)) b → Spotted (ltb 2 (arity_of o)) c
    → Is workers own o (made o w imm out a b c)
read_is workers own o w imm out a b c small s p q r =
    let tests = and_both (is_imm o w imm) (is_link workers own o imm) small.1 in
    record {
      of_op = refl;
      in_range = record {
        width = (width_test o w imm).decides.0 tests.0;
        link = (link_decides workers own o imm).0 tests.1;
        no_result = λ e. no_spot_at (has_result o) out s e;
        no_args = no_args_of o a b c p q r;
      };
      value = record {
        out = spot_value (has_result o) out s;
        count = refl;
        args = (spot_value (ltb 0 (arity_of o)) a p, (spot_value (ltb 1 (arity_of o)) b q, (spot_value (ltb 2 (arity_of o)) c r, tt)));
      };
    }

const_is_read : (workers own w imm : ℕ) (out c : Spot) → Fields (2 ^ 64) (is_imm op.Const w) imm
    → Spotted true out → Spotted false c → Is workers own op.Const (made op.Const w imm out no_spot no_spot c)
const_is_read workers own w imm out c value s r =
    let nothing : Spotted false no_spot = spotted_of false no_spot (record { frame = omega arith; offset = omega arith }) (λ e. refl) in
    record {
      of_op = refl;
      in_range = record {
        width = (width_test op.Const w imm).decides.0 value.1;
        link = tt;
        no_result = λ e. no_spot_at true out s e;
        no_args = no_args_of op.Const no_spot no_spot c nothing nothing r;
      };
      value = record {
        out = spot_value true out s;
        count = refl;
        args = (spot_value false no_spot nothing, (spot_value false no_spot nothing, (spot_value false c r, tt)));
      };
    }

-- ---- what is in range is read

back_is : (workers own : ℕ) (y : Job) → IsJob workers own y → IsJobValue y → is_const y.op ≡ false → Wide y.width × Read workers own y.op y.width y
back_is workers own y j v e =
    let values = values_at y.args v.count v.args in
    let there : (k : ℕ) → k < 3 → ltb k (arity_of y.op) ≡ false → arg_at k y ≡ no_spot = λ k lt f. j.no_args k (ltb-false k (arity_of y.op) f) lt in
    let same : y ≡ made y.op y.width y.imm y.out (arg_at 0 y) (arg_at 1 y) (arg_at 2 y) = ap (λ (xs : List Spot). record y { args = xs }) (three y.args v.count) in (
      (omega (arith, j.width.1), is_within 1 greatest_width y.width j.width.0 j.width.1),
      (
        (imm_small y.op y.width y.imm e j.width.2, both_and (is_imm y.op y.width y.imm) (is_link workers own y.op y.imm) ((width_test y.op y.width y.imm).decides.1 j.width) ((link_decides workers own y.op y.imm).1 j.link)),
        (
          spotted_of (has_result y.op) y.out v.out j.no_result,
          (
            spotted_of (ltb 0 (arity_of y.op)) (arg_at 0 y) values.0 (there 0 (omega arith)),
            (
              spotted_of (ltb 1 (arity_of y.op)) (arg_at 1 y) values.1 (there 1 (omega arith)),
              (
                spotted_of (ltb 2 (arity_of y.op)) (arg_at 2 y) values.2 (there 2 (omega arith)),
                same,
              ),
            ),
          ),
        ),
      ),
    )

const_is_back : (workers own : ℕ) (y : Job) → IsJob workers own y → IsJobValue y → y.op ≡ op.Const → Wide y.width × ReadConst y.width y
const_is_back workers own y j v e =
    let values = values_at y.args v.count v.args in
    let none : arity_of y.op ≡ 0 = ap arity_of e in
    let nothing : (k : ℕ) → k < 3 → arg_at k y ≡ no_spot = λ k lt. j.no_args k (omega (arith, none)) lt in
    let wide : WidthOk op.Const y.width y.imm = subst (λ (o : Op). WidthOk o y.width y.imm) e j.width in
    let args : y.args ≡ no_spot ∷ no_spot ∷ arg_at 2 y ∷ [] =
    three y.args v.count ∙ ap (λ (s : Spot). s ∷ arg_at 1 y ∷ arg_at 2 y ∷ []) (nothing 0 (omega arith)) ∙ ap (λ (s : Spot). no_spot ∷ s ∷ arg_at 2 y ∷ []) (nothing 1 (omega arith)) in
    let same : y ≡ made op.Const y.width y.imm y.out no_spot no_spot (arg_at 2 y) =
    ap (λ (o : Op). record y { op = o }) e ∙ ap (λ (xs : List Spot). record { op = op.Const; width = y.width; imm = y.imm; out = y.out; args = xs }) args in (
      (omega (arith, wide.1), is_within 1 greatest_width y.width wide.0 wide.1),
      (
        spotted_of true y.out v.out (λ f. absurd cc),
        (
          (wide.2.1, (width_test op.Const y.width y.imm).decides.1 wide),
          (
            spotted_of false (arg_at 2 y) values.2 (λ f. nothing 2 (omega arith)),
            same,
          ),
        ),
      ),
    )

job_with : (workers own : ℕ) (o : Op) (b : Bool) → is_const o ≡ b → Spells Job (job workers own o) (Is workers own o)
unfolding job
job_with workers own o true e =
    let o-is : o ≡ op.Const = const_is o e in
    respelled Job (job workers own o) (λ y. Wide y.width × ReadConst y.width y) (Is workers own o)
    (spells_chain ℕ Job (field w8 (within 1 greatest_width)) (λ y. y.width) (λ width. either (is_const o) (constant width) (instruction workers own o width)) Wide ReadConst
    (spells_field w8 (2 ^ 8) (within 1 greatest_width) wide8)
    (λ width _. spells_one Job (is_const o) (constant width) (instruction workers own o width) (ReadConst width) e (spells_constant width))
    (λ width y p q. ap (λ (z : Job). z.width) q.1.1.1))
    (λ y q. subst (λ (p : Op). Is workers own p y) (sym o-is) (subst (λ (z : Job). Is workers own op.Const z) (sym q.1.1.1.1)
    (const_is_read workers own y.width y.imm y.out (arg_at 2 y) q.1.1.0 q.1.0 q.1.1.1.0)))
    (λ y it. const_is_back workers own y it.in_range it.value (it.of_op ∙ o-is))
job_with workers own o false e =
    respelled Job (job workers own o) (λ y. Wide y.width × Read workers own o y.width y) (Is workers own o)
    (spells_chain ℕ Job (field w8 (within 1 greatest_width)) (λ y. y.width) (λ width. either (is_const o) (constant width) (instruction workers own o width)) Wide (Read workers own o)
    (spells_field w8 (2 ^ 8) (within 1 greatest_width) wide8)
    (λ width _. spells_other Job (is_const o) (constant width) (instruction workers own o width) (Read workers own o width) e (spells_instruction workers own o width))
    (λ width y p q. ap (λ (z : Job). z.width) q.1.1.1.1.1))
    (λ y q. subst (λ (z : Job). Is workers own o z) (sym q.1.1.1.1.1.1)
    (read_is workers own o y.width y.imm y.out (arg_at 0 y) (arg_at 1 y) (arg_at 2 y) q.1.0 q.1.1.0 q.1.1.1.0 q.1.1.1.1.0 q.1.1.1.1.1.0))
    (λ y it. subst (λ (p : Op). Wide y.width × Read workers own p y.width y) it.of_op
    (back_is workers own y it.in_range it.value (ap is_const it.of_op ∙ e)))

pub spells_job : (workers own : ℕ) (o : Op) → Spells Job (job workers own o) (Is workers own o)
spells_job workers own o = job_with workers own o (is_const o) refl
