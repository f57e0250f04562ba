-- The circuit of each instruction keeps three drivers related.
use Rattle.std.proofs.Common.{◌≡◌, ℕ, List, [], ◌∷◌, Bool, false, drop, map, get_or}
use Rattle.std.specs.List.{zip}
use Rattle.mage_bits.specs.Bits.{bits}
use Rattle.mage_instr.specs.declared.op.Op.{Op}
use Rattle.mage_instr.specs.declared.op.Op.TheVariants as op
use Rattle.mage_driver.specs.Rules.{Rules}
use Rattle.mage_driver.specs.Calls.{Call}
use Rattle.mage_driver.specs.Circuits.{Circuit}
use Rattle.mage_driver.specs.Operations.{Divided, Counted, and_bit, or_bit, choose_bit, less, equal, divided, counted, resized, moved_up, party_of, circuit_of}
use Rattle.mage_relations.specs.Each.{Each}
use Rattle.mage_relations.proofs.Keeping.{KeepsCalls, Keeps}
use Rattle.mage_relations.proofs.EachLemmas.{Both, each_append, each_take, each_drop, each_replicate, each_get, each_zip, each_map}
use Rattle.mage_relations.proofs.Circuits.{keeps_given, keeps_followed, keeps_formed, keeps_each, keeps_added, keeps_subtracted, keeps_multiplied, keeps_and_bit, keeps_or_bit, keeps_choose_bit, keeps_equal, keeps_less, keeps_divided, keeps_counted, keeps_least, keeps_greatest}

module _ {A B C : Type 0} (first : Rules A) (second : Rules B) (third : Rules C)
    (S : first.State → second.State → third.State → List (Call second.State B) → Type 0) (V : A → B → C → Type 0)
    (calls : KeepsCalls first second third S V) where
  -- circuits that are related
  abbrev pub Alike : {X Y Z : Type 0} → (X → Y → Z → Type 0) → Circuit first X → Circuit second Y → Circuit third Z → Type 0
  Alike Q c d e = Keeps first second third S V Q c d e

  -- pairs of wires
  abbrev pub VV : A × A → B × B → C × C → Type 0
  VV p q r = Both V V p q r

  -- bits of a quotient beside what is left, and bits of a count
  abbrev pub VDivided : Divided A → Divided B → Divided C → Type 0
  VDivided x y z = Each V x.quotient y.quotient z.quotient × Each V x.rest y.rest z.rest

  abbrev pub VCounted : Counted A → Counted B → Counted C → Type 0
  VCounted x y z = (x.seen ≡ y.seen) × (y.seen ≡ z.seen) × Each V x.bits y.bits z.bits

  keeps_resized : (width : ℕ) (xs : List A) (ys : List B) (zs : List C) → Each V xs ys zs → Alike (Each V) (resized first width xs) (resized second width ys) (resized third width zs)
  keeps_resized width xs ys zs e s t u rest h =
      (h, each_take V width _ _ _ (each_append V xs _ ys _ zs _ e (each_replicate V width _ _ _ (calls.constant s t u rest false h))))

  keeps_moved_up : (width amount : ℕ) (xs : List A) (ys : List B) (zs : List C) → Each V xs ys zs → Alike (Each V) (moved_up first width amount xs) (moved_up second width amount ys) (moved_up third width amount zs)
  keeps_moved_up width amount xs ys zs e s t u rest h =
      (h, each_take V width _ _ _ (each_append V _ xs _ ys _ zs (each_replicate V amount _ _ _ (calls.constant s t u rest false h)) e))

  -- wires of bits that everybody knows
  each_constant : (s : first.State) (t : second.State) (u : third.State) (rest : List (Call second.State B)) (digits : List Bool) → S s t u rest →
      Each V (map (first.constant s) digits) (map (second.constant t) digits) (map (third.constant u) digits)
  each_constant s t u rest [] h = tt
  each_constant s t u rest (digit ∷ digits) h = (calls.constant s t u rest digit h, each_constant s t u rest digits h)

  -- the circuit of each instruction
  pub keeps_circuit : (o : Op) (width imm : ℕ) (a : List A) (b : List B) (c : List C) (a' : List A) (b' : List B) (c' : List C) (a'' : List A) (b'' : List B) (c'' : List C) →
      Each V a b c → Each V a' b' c' → Each V a'' b'' c'' → Alike (Each V) (circuit_of first o width imm a a' a'') (circuit_of second o width imm b b' b'') (circuit_of third o width imm c c' c'')
  keeps_circuit op.Input width imm a b c a' b' c' a'' b'' c'' e e' e'' = λ s t u rest h. calls.input s t u rest (party_of imm) width h
  keeps_circuit op.Const width imm a b c a' b' c' a'' b'' c'' e e' e'' = λ s t u rest h. (h, each_constant s t u rest (bits imm width) h)
  keeps_circuit op.Output width imm a b c a' b' c' a'' b'' c'' e e' e'' = λ s t u rest h. (calls.output s t u rest a b c h e, tt)
  keeps_circuit op.Add width imm a b c a' b' c' a'' b'' c'' e e' e'' = keeps_added first second third S V calls (zip a a') (zip b b') (zip c c') (each_zip V a a' b b' c c' e e')
  keeps_circuit op.Sub width imm a b c a' b' c' a'' b'' c'' e e' e'' = keeps_subtracted first second third S V calls (zip a a') (zip b b') (zip c c') (each_zip V a a' b b' c c' e e')
  keeps_circuit op.Mul width imm a b c a' b' c' a'' b'' c'' e e' e'' = keeps_multiplied first second third S V calls a b c a' b' c' e e'
  keeps_circuit op.And width imm a b c a' b' c' a'' b'' c'' e e' e'' =
      keeps_each first second third S V calls VV (and_bit first) (and_bit second) (and_bit third) (keeps_and_bit first second third S V calls) (zip a a') (zip b b') (zip c c') (each_zip V a a' b b' c c' e e')
  keeps_circuit op.Or width imm a b c a' b' c' a'' b'' c'' e e' e'' =
      keeps_each first second third S V calls VV (or_bit first) (or_bit second) (or_bit third) (keeps_or_bit first second third S V calls) (zip a a') (zip b b') (zip c c') (each_zip V a a' b b' c c' e e')
  keeps_circuit op.Xor width imm a b c a' b' c' a'' b'' c'' e e' e'' = λ s t u rest h. (h, each_map VV V (λ p. first.xor p.0 p.1) (λ q. second.xor q.0 q.1) (λ r. third.xor r.0 r.1) (λ p q r v. calls.xor p.0 p.1 q.0 q.1 r.0 r.1 v.0 v.1) (zip a a') (zip b b') (zip c c') (each_zip V a a' b b' c c' e e'))
  keeps_circuit op.Not width imm a b c a' b' c' a'' b'' c'' e e' e'' = λ s t u rest h. (h, each_map V V (first.not s) (second.not t) (third.not u) (λ x y z v. calls.not s t u rest x y z h v) a b c e)
  keeps_circuit op.Eq width imm a b c a' b' c' a'' b'' c'' e e' e'' =
      keeps_formed first second third S V calls V (Each V) (λ same. same ∷ []) (λ same. same ∷ []) (λ same. same ∷ []) (equal first (zip a a')) (equal second (zip b b')) (equal third (zip c c'))
      (keeps_equal first second third S V calls (zip a a') (zip b b') (zip c c') (each_zip V a a' b b' c c' e e')) (λ x y z v. (v, tt))
  keeps_circuit op.Lt width imm a b c a' b' c' a'' b'' c'' e e' e'' =
      keeps_formed first second third S V calls V (Each V) (λ is_less. is_less ∷ []) (λ is_less. is_less ∷ []) (λ is_less. is_less ∷ []) (less first (zip a a')) (less second (zip b b')) (less third (zip c c'))
      (keeps_less first second third S V calls (zip a a') (zip b b') (zip c c') (each_zip V a a' b b' c c' e e')) (λ x y z v. (v, tt))
  keeps_circuit op.Mux width imm a b c a' b' c' a'' b'' c'' e e' e'' = λ s t u rest h. let x : A = get_or a 0 (first.constant s false) in
      let y : B = get_or b 0 (second.constant t false) in
      let z : C = get_or c 0 (third.constant u false) in
      keeps_each first second third S V calls VV (choose_bit first x) (choose_bit second y) (choose_bit third z)
      (keeps_choose_bit first second third S V calls x y z (each_get V a b c 0 _ _ _ e (calls.constant s t u _ false h)))
      (zip a' a'') (zip b' b'') (zip c' c'') (each_zip V a' a'' b' b'' c' c'' e' e'') s t u rest h
  keeps_circuit op.Shl width imm a b c a' b' c' a'' b'' c'' e e' e'' = keeps_moved_up width imm a b c e
  keeps_circuit op.Shr width imm a b c a' b' c' a'' b'' c'' e e' e'' = keeps_resized width (drop imm a) (drop imm b) (drop imm c) (each_drop V imm a b c e)
  keeps_circuit op.Resize width imm a b c a' b' c' a'' b'' c'' e e' e'' = keeps_resized width a b c e
  keeps_circuit op.Send width imm a b c a' b' c' a'' b'' c'' e e' e'' = keeps_given first second third S V calls (Each V) [] [] [] tt
  keeps_circuit op.Recv width imm a b c a' b' c' a'' b'' c'' e e' e'' = keeps_given first second third S V calls (Each V) [] [] [] tt
  keeps_circuit op.Div width imm a b c a' b' c' a'' b'' c'' e e' e'' =
      keeps_formed first second third S V calls VDivided (Each V) (λ all. all.quotient) (λ all. all.quotient) (λ all. all.quotient) (divided first a a') (divided second b b') (divided third c c') (keeps_divided first second third S V calls a b c a' b' c' e e') (λ x y z w. w.0)
  keeps_circuit op.Rem width imm a b c a' b' c' a'' b'' c'' e e' e'' =
      keeps_formed first second third S V calls VDivided (Each V) (λ all. all.rest) (λ all. all.rest) (λ all. all.rest) (divided first a a') (divided second b b') (divided third c c') (keeps_divided first second third S V calls a b c a' b' c' e e') (λ x y z w. w.1)
  keeps_circuit op.Count width imm a b c a' b' c' a'' b'' c'' e e' e'' =
      keeps_followed first second third S V calls VCounted (Each V) (counted first a) (counted second b) (counted third c) (λ all. resized first width all.bits) (λ all. resized second width all.bits) (λ all. resized third width all.bits)
      (keeps_counted first second third S V calls a b c e) (λ x y z w. keeps_resized width x.bits y.bits z.bits w.2)
  keeps_circuit op.Min width imm a b c a' b' c' a'' b'' c'' e e' e'' = keeps_least first second third S V calls (zip a a') (zip b b') (zip c c') (each_zip V a a' b b' c c' e e')
  keeps_circuit op.Max width imm a b c a' b' c' a'' b'' c'' e e' e'' = keeps_greatest first second third S V calls (zip a a') (zip b b') (zip c c') (each_zip V a a' b b' c c' e e')
