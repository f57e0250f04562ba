-- A driver whose calls give wires makes circuits that give wires.
use Rattle.std.proofs.Common.{◌≡◌, ℕ, suc, Bool, true, false, cond, List, [], ◌∷◌, length, nat_lt, refl, sym, ◌∙◌, subst, arith}
use Rattle.std.proofs.lemmas.Bool.Decides.{nat_tests}
use Rattle.mage_instr.specs.declared.op.Op.{Op}
use Rattle.mage_instr.specs.Opcodes.{arity_of}
use Rattle.mage_driver.specs.Rules.{Rules, AreLawful}
use Rattle.mage_driver.specs.Calls.{Call}
use Rattle.mage_relations.specs.Each.{Each}
use Rattle.mage_relations.proofs.Keeping.{KeepsCalls}
use Rattle.mage_relations.proofs.Instructions.{keeps_circuit}
use Rattle.mage_carried.specs.Wires.{AreWires, IsOperand, MakesWires, CallsGiveWires}
use Rattle.mage_carried.proofs.Computing.{used, circuit_used}
use Rattle.mage_carried.proofs.Lengths.{circuit_long}

module _ {W : Type 0} (rules : Rules W) (lawful : AreLawful rules) (fine : rules.State → Bool)
    (gives : CallsGiveWires rules fine) where
  -- the first of three is a wire
  abbrev IsFirst : W → W → W → Type 0
  IsFirst a b c = rules.IsWire a

  abbrev Fine : rules.State → rules.State → rules.State → List (Call rules.State W) → Type 0
  Fine s t u rest = fine s ≡ true

  first_of : (xs ys zs : List W) → AreWires rules xs → length xs ≡ length ys → length xs ≡ length zs → Each IsFirst xs ys zs
  first_of [] [] [] are e f = tt
  first_of [] [] (z ∷ zs) are e f = absurd cc
  first_of [] (y ∷ ys) zs are e f = absurd cc
  first_of (x ∷ xs) [] zs are e f = absurd cc
  first_of (x ∷ xs) (y ∷ ys) [] are e f = absurd cc
  first_of (x ∷ xs) (y ∷ ys) (z ∷ zs) are e f = (
    are.0,
    first_of xs ys zs are.1 (let t : suc (length xs) ≡ suc (length ys) = e in omega arith)
        (let t : suc (length xs) ≡ suc (length zs) = f in omega arith),
  )

  wires_of : (xs ys zs : List W) → Each IsFirst xs ys zs → AreWires rules xs
  wires_of [] [] [] e = tt
  wires_of [] [] (z ∷ zs) e = absurd e
  wires_of [] (y ∷ ys) [] e = absurd e
  wires_of [] (y ∷ ys) (z ∷ zs) e = absurd e
  wires_of (x ∷ xs) [] [] e = absurd e
  wires_of (x ∷ xs) [] (z ∷ zs) e = absurd e
  wires_of (x ∷ xs) (y ∷ ys) [] e = absurd e
  wires_of (x ∷ xs) (y ∷ ys) (z ∷ zs) e = (e.0, wires_of xs ys zs e.1)

  calls : KeepsCalls rules rules rules Fine IsFirst
  calls = record {
    constant = λ s t u rest bit h. gives.constant s bit h;
    xor = λ a a' b b' c c' v v'. gives.xor a a' v v';
    not = λ s t u rest a b c h v. gives.not s a h v;
    and = λ s t u rest a a' b b' c c' h v v'. let g = gives.and s a a' h v v' in (g.1, g.0);
    input = λ s t u rest party count h. let g = gives.input s party count h in (
      g.1,
      first_of ((rules.input s party count).1) ((rules.input t party count).1)
          ((rules.input u party count).1) g.0
          (lawful.inputs s party count ∙ sym (lawful.inputs t party count))
          (lawful.inputs s party count ∙ sym (lawful.inputs u party count)),
    );
    output = λ s t u rest xs ys zs h e. gives.output s xs h (wires_of xs ys zs e);
  }

  used_wires : (o : Op) (width imm k : ℕ) (wires : List W) → IsOperand rules o width imm k wires →
      Each IsFirst (used o k wires) (used o k wires) (used o k wires)
  used_wires o width imm k wires is = go (nat_lt k (arity_of o)) refl
    where
      go : (b : Bool) → nat_lt k (arity_of o) ≡ b → Each IsFirst (cond b wires []) (cond b wires []) (cond b wires [])
      go true e = first_of wires wires wires (is (grind (arith, nat_tests))).1 refl refl
      go false e = tt

  pub makes_wires : MakesWires rules fine
  makes_wires = record {
    made = λ o width imm a b c s h ia ib ic.
        let k = keeps_circuit rules rules rules Fine IsFirst calls o width imm (used o 0 a) (used o 0 a) (used o 0 a)
        (used o 1 b) (used o 1 b) (used o 1 b) (used o 2 c) (used o 2 c) (used o 2 c)
        (used_wires o width imm 0 a ia) (used_wires o width imm 1 b ib) (used_wires o width imm 2 c ic) s s s [] h in
        subst (λ m. AreWires rules m.wires × (fine m.state ≡ true)) (circuit_used rules o width imm a b c s)
        (wires_of _ _ _ k.1, k.0);
    long = λ o width imm a b c s ok has recv ia ib ic.
        circuit_long rules lawful o width imm a b c s ok.0 has recv (λ w. (ia w).0) (λ w. (ib w).0) (λ w. (ic w).0);
  }
