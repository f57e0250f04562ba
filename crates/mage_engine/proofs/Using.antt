-- What an instruction uses isn't left, so it is the same in all frames that hold the same.
use Rattle.std.proofs.Common.{◌≡◌, ◌+◌, ◌*◌, ℕ, suc, Bool, true, false, cond, List, [], take, drop, map, nat_eq, nat_lt, refl, ap, ap₂, ◌∙◌}
use Rattle.std.specs.Prelude.{◌||◌, ◌&&◌, slice_index_or}
use Rattle.std.specs.List.{range_with_len, flat_map}
use Rattle.std.proofs.lemmas.Bool.{eq-eqb}
use Rattle.mage_instr.specs.declared.directive.Directive.TheVariants as entry
use Rattle.mage_instr.specs.declared.replaced.Job.{Job}
use Rattle.mage_instr.specs.Opcodes.{arity_of, has_result, width_of_arg}
use Rattle.mage_network.specs.Network.{put}
use Rattle.mage_driver.specs.Rules.{Rules}
use Rattle.mage_driver.specs.Operations.{circuit_of}
use Rattle.mage_bank.specs.Jobs.{circuit_on}
use Rattle.mage_steps.specs.Frames.{wires_at, with_wires, with_piece}
use Rattle.mage_steps.specs.Engines.{no_spot, operand, with_result}
use Rattle.mage_verify.specs.Leaving.{is_left, has_value_in, has_arg_in}
use Rattle.mage_engine.specs.Seen.{Seen, HoldSame}
use Rattle.mage_engine.specs.Ready.{IsAt}
use Rattle.mage_engine.proofs.Advancing.{left_here}

or_left : (a b : Bool) → a ≡ true → (a || b) ≡ true
or_left a b e = ap (λ x. x || b) e

or_right : (a b : Bool) → b ≡ true → (a || b) ≡ true
or_right true b e = refl
or_right false b e = e

module _ (job : Job) where
  result_used : has_result job.op ≡ true → has_value_in job.out.frame job ≡ true
  result_used has =
      let here : (has_result job.op && nat_eq job.out.frame job.out.frame) ≡ true = ap₂ (λ a b. a && b) has (eq-eqb job.out.frame job.out.frame refl) in
      or_left _ _ (or_left _ _ (or_left _ _ here))

  arg_here : (k : ℕ) → nat_lt k (arity_of job.op) ≡ true → has_arg_in (slice_index_or job.args k no_spot).frame job k ≡ true
  arg_here k has = ap₂ (λ a b. a && b) has (eq-eqb (slice_index_or job.args k no_spot).frame (slice_index_or job.args k no_spot).frame refl)

  first_used : nat_lt 0 (arity_of job.op) ≡ true → has_value_in (slice_index_or job.args 0 no_spot).frame job ≡ true
  first_used has = or_left _ _ (or_left _ _ (or_right _ _ (arg_here 0 has)))

  second_used : nat_lt 1 (arity_of job.op) ≡ true → has_value_in (slice_index_or job.args 1 no_spot).frame job ≡ true
  second_used has = or_left _ _ (or_right _ _ (arg_here 1 has))

  third_used : nat_lt 2 (arity_of job.op) ≡ true → has_value_in (slice_index_or job.args 2 no_spot).frame job ≡ true
  third_used has = or_right _ _ (arg_here 2 has)

module _ {W : Type 0} (rules : Rules W) (old : Seen rules.State) (job : Job) (at : IsAt old (entry.Do job)) where
  used_before : (f : ℕ) → has_value_in f job ≡ true → is_left f (drop old.place old.part.directives) ≡ false
  used_before f e = ap (is_left f) (left_here old.part.directives old.place (entry.Do job) at.here)
      ∙ ap (λ b. cond b false (is_left f (drop (suc old.place) old.part.directives))) e

  pub other_before : (f : ℕ) → is_left f (drop (suc old.place) old.part.directives) ≡ false → is_left f (drop old.place old.part.directives) ≡ false
  other_before f left = ap (is_left f) (left_here old.part.directives old.place (entry.Do job) at.here) ∙ go (has_value_in f job)
    where
      go : (b : Bool) → cond b false (is_left f (drop (suc old.place) old.part.directives)) ≡ false
      go true = refl
      go false = left

  module _ (bank : ℕ → List ℕ) (same : HoldSame old bank) where
    pub first_same : nat_lt 0 (arity_of job.op) ≡ true → bank (slice_index_or job.args 0 no_spot).frame ≡ old.bank (slice_index_or job.args 0 no_spot).frame
    first_same has = same _ (used_before _ (first_used job has))

    pub out_same : has_result job.op ≡ true → bank job.out.frame ≡ old.bank job.out.frame
    out_same has = same _ (used_before _ (result_used job has))

    operand_so : (k : ℕ) → (nat_lt k (arity_of job.op) ≡ true → bank (slice_index_or job.args k no_spot).frame ≡ old.bank (slice_index_or job.args k no_spot).frame) →
        operand rules job bank k ≡ operand rules job old.bank k
    operand_so k holds = go (nat_lt k (arity_of job.op)) refl
      where
        go : (b : Bool) → nat_lt k (arity_of job.op) ≡ b →
            cond {A = List W} b (wires_at rules bank (slice_index_or job.args k no_spot) (width_of_arg job.op job.width job.imm k)) [] ≡
            cond {A = List W} b (wires_at rules old.bank (slice_index_or job.args k no_spot) (width_of_arg job.op job.width job.imm k)) []
        go true e = ap (λ (bytes : List ℕ). map (λ j. rules.unpack (take rules.wire_bytes (drop (((slice_index_or job.args k no_spot).offset + j) * rules.wire_bytes) bytes)))
            (range_with_len 0 (width_of_arg job.op job.width job.imm k))) (holds e)
        go false e = refl

    -- the circuit is the same
    pub circuit_same : (s : rules.State) → circuit_on rules job bank s ≡ circuit_on rules job old.bank s
    circuit_same s =
        ap₂ (λ (a b : List W). circuit_of rules job.op job.width job.imm a b (operand rules job bank 2) s) (operand_so 0 first_same)
        (operand_so 1 (λ has. same _ (used_before _ (second_used job has))))
        ∙ ap (λ (c : List W). circuit_of rules job.op job.width job.imm (operand rules job old.bank 0) (operand rules job old.bank 1) c s)
        (operand_so 2 (λ has. same _ (used_before _ (third_used job has))))

    -- wires at the result's spot, or at a wire of it, leave frames that hold the same
    pub written_same : (place : ℕ) (piece : List ℕ) (f : ℕ) → has_result job.op ≡ true → bank f ≡ old.bank f →
        put bank job.out.frame (with_piece (bank job.out.frame) place piece) f ≡ put old.bank job.out.frame (with_piece (old.bank job.out.frame) place piece) f
    written_same place piece f has here =
        ap₂ (λ (x y : List ℕ). cond (nat_eq job.out.frame f) (with_piece x place piece) y) (out_same has) here

    pub stored_same : (wires : List W) (f : ℕ) → bank f ≡ old.bank f → with_result rules job bank wires f ≡ with_result rules job old.bank wires f
    stored_same wires f here = go (has_result job.op) refl
      where
        go : (b : Bool) → has_result job.op ≡ b →
            cond {A = ℕ → List ℕ} b (with_wires rules bank job.out wires) bank f ≡ cond {A = ℕ → List ℕ} b (with_wires rules old.bank job.out wires) old.bank f
        go true e = written_same (job.out.offset * rules.wire_bytes) (flat_map rules.pack wires) f e here
        go false e = here
