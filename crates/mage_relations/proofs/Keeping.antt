-- What has to hold of the calls of three drivers, so that they stay related over every circuit. Drivers are related by their
-- states, and by the calls of the second driver that are still to come; wires by themselves.
use Rattle.std.proofs.Common.{ℕ, List, ◌∷◌, ◌++◌, Bool}
use Rattle.mage_instr.specs.declared.party.Party.{Party}
use Rattle.mage_driver.specs.Rules.{Rules}
use Rattle.mage_driver.specs.Calls.{Call, And, Input, Output, call_of}
use Rattle.mage_driver.specs.Circuits.{Circuit}
use Rattle.mage_relations.specs.Each.{Each}

module _ {A B C : Type 0} (first : Rules A) (second : Rules B) (third : Rules C)
    (S : first.State → second.State → third.State → List (Call second.State B) → Type 0) (V : A → B → C → Type 0) where
  pub record KeepsCalls : Type 0 where
    pub constant : (s : first.State) (t : second.State) (u : third.State) (rest : List (Call second.State B)) (bit : Bool) →
        S s t u rest → V (first.constant s bit) (second.constant t bit) (third.constant u bit)
    pub xor : (a a' : A) (b b' : B) (c c' : C) → V a b c → V a' b' c' → V (first.xor a a') (second.xor b b') (third.xor c c')
    pub not : (s : first.State) (t : second.State) (u : third.State) (rest : List (Call second.State B)) (a : A) (b : B) (c : C) →
        S s t u rest → V a b c → V (first.not s a) (second.not t b) (third.not u c)
    pub and : (s : first.State) (t : second.State) (u : third.State) (rest : List (Call second.State B)) (a a' : A) (b b' : B) (c c' : C) →
        S s t u (call_of second t (And b b') ∷ rest) → V a b c → V a' b' c' →
        S ((first.and s a a').0) ((second.and t b b').0) ((third.and u c c').0) rest
        × V ((first.and s a a').1) ((second.and t b b').1) ((third.and u c c').1)
    pub input : (s : first.State) (t : second.State) (u : third.State) (rest : List (Call second.State B)) (party : Party) (count : ℕ) →
        S s t u (call_of second t (Input party count) ∷ rest) →
        S ((first.input s party count).0) ((second.input t party count).0) ((third.input u party count).0) rest
        × Each V ((first.input s party count).1) ((second.input t party count).1) ((third.input u party count).1)
    pub output : (s : first.State) (t : second.State) (u : third.State) (rest : List (Call second.State B)) (xs : List A) (ys : List B) (zs : List C) →
        S s t u (call_of second t (Output ys) ∷ rest) → Each V xs ys zs → S (first.output s xs) (second.output t ys) (third.output u zs) rest

  -- three circuits lead from related states to related states and wires
  abbrev pub Keeps : {X Y Z : Type 0} → (X → Y → Z → Type 0) → Circuit first X → Circuit second Y → Circuit third Z → Type 0
  Keeps Q c d e = (s : first.State) (t : second.State) (u : third.State) (rest : List (Call second.State B)) →
      S s t u ((d t).calls ++ rest) → S (c s).state (d t).state (e u).state rest × Q (c s).wires (d t).wires (e u).wires
