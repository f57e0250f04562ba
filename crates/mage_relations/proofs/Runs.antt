-- Runs of a program over three related drivers stay related.
use Rattle.std.proofs.Common.{◌≡◌, ℕ, ◌==◌, List, [], ◌∷◌, ◌++◌, Bool, true, false, cond, drop, get_or, slice_index, refl, ap, sym, subst, ◌∙◌, append_assoc}
use Rattle.std.proofs.lemmas.Bool.{eqb-true, eq-eqb, false≢true}
use Rattle.mage_instr.specs.declared.op.Op.{Op}
use Rattle.mage_instr.specs.declared.op.Op.TheVariants as op
use Rattle.mage_instr.specs.declared.instr.Instr.{Instr}
use Rattle.mage_linked.specs.Transfers.{is_send, is_recv}
use Rattle.mage_linked.specs.Workers.{with_at}
use Rattle.mage_linked.specs.declared.emitted.Emitted.{Emitted}
use Rattle.mage_driver.specs.Rules.{Rules}
use Rattle.mage_driver.specs.Calls.{Call}
use Rattle.mage_driver.specs.Operations.{circuit_of}
use Rattle.mage_relations.specs.Each.{Each}
use Rattle.mage_relations.specs.Unplaced.{Unplaced, wires_of_arg, with_sent, with_wires, made_by, after_emitted, run_of, calls_of}
use Rattle.mage_relations.proofs.Keeping.{KeepsCalls}
use Rattle.mage_relations.proofs.EachLemmas.{each_append, each_drop, each_get}
use Rattle.mage_relations.proofs.Instructions.{keeps_circuit}

-- what holds of each worker holds still where one of them is given anew
with_at_each : {X Y Z : Type 0} (P : ℕ → X → Y → Z → Type 0) (f : ℕ → X) (g : ℕ → Y) (h : ℕ → Z) (worker : ℕ) (x : X) (y : Y) (z : Z) →
    P worker x y z → ((w : ℕ) → P w (f w) (g w) (h w)) → (w : ℕ) → P w (with_at f worker x w) (with_at g worker y w) (with_at h worker z w)
with_at_each {X} {Y} {Z} P f g h worker x y z new old w = go (w == worker) refl
  where
    go : (b : Bool) → (w == worker) ≡ b → P w (cond b x (f w)) (cond b y (g w)) (cond b z (h w))
    go true is = subst (λ (v : ℕ). P v x y z) (sym (eqb-true w worker is)) new
    go false is = old w

-- an instruction that sends or receives makes no call
no_call : {W : Type 0} (rules : Rules W) (o : Op) (width imm : ℕ) (a b c : List W) (s : rules.State) → (is_send o ≡ true) → (circuit_of rules o width imm a b c s).calls ≡ []
no_call rules op.Send width imm a b c s sends = refl
no_call rules op.Input width imm a b c s sends = absurd (false≢true sends)
no_call rules op.Const width imm a b c s sends = absurd (false≢true sends)
no_call rules op.Output width imm a b c s sends = absurd (false≢true sends)
no_call rules op.Add width imm a b c s sends = absurd (false≢true sends)
no_call rules op.Sub width imm a b c s sends = absurd (false≢true sends)
no_call rules op.Mul width imm a b c s sends = absurd (false≢true sends)
no_call rules op.And width imm a b c s sends = absurd (false≢true sends)
no_call rules op.Or width imm a b c s sends = absurd (false≢true sends)
no_call rules op.Xor width imm a b c s sends = absurd (false≢true sends)
no_call rules op.Not width imm a b c s sends = absurd (false≢true sends)
no_call rules op.Eq width imm a b c s sends = absurd (false≢true sends)
no_call rules op.Lt width imm a b c s sends = absurd (false≢true sends)
no_call rules op.Mux width imm a b c s sends = absurd (false≢true sends)
no_call rules op.Shl width imm a b c s sends = absurd (false≢true sends)
no_call rules op.Shr width imm a b c s sends = absurd (false≢true sends)
no_call rules op.Resize width imm a b c s sends = absurd (false≢true sends)
no_call rules op.Recv width imm a b c s sends = absurd (false≢true sends)
no_call rules op.Div width imm a b c s sends = absurd (false≢true sends)
no_call rules op.Rem width imm a b c s sends = absurd (false≢true sends)
no_call rules op.Count width imm a b c s sends = absurd (false≢true sends)
no_call rules op.Min width imm a b c s sends = absurd (false≢true sends)
no_call rules op.Max width imm a b c s sends = absurd (false≢true sends)

no_call_either : {W : Type 0} (rules : Rules W) (o : Op) (width imm : ℕ) (a b c : List W) (s : rules.State) → (is_recv o ≡ true) → (circuit_of rules o width imm a b c s).calls ≡ []
no_call_either rules op.Recv width imm a b c s receives = refl
no_call_either rules op.Input width imm a b c s receives = absurd (false≢true receives)
no_call_either rules op.Const width imm a b c s receives = absurd (false≢true receives)
no_call_either rules op.Output width imm a b c s receives = absurd (false≢true receives)
no_call_either rules op.Add width imm a b c s receives = absurd (false≢true receives)
no_call_either rules op.Sub width imm a b c s receives = absurd (false≢true receives)
no_call_either rules op.Mul width imm a b c s receives = absurd (false≢true receives)
no_call_either rules op.And width imm a b c s receives = absurd (false≢true receives)
no_call_either rules op.Or width imm a b c s receives = absurd (false≢true receives)
no_call_either rules op.Xor width imm a b c s receives = absurd (false≢true receives)
no_call_either rules op.Not width imm a b c s receives = absurd (false≢true receives)
no_call_either rules op.Eq width imm a b c s receives = absurd (false≢true receives)
no_call_either rules op.Lt width imm a b c s receives = absurd (false≢true receives)
no_call_either rules op.Mux width imm a b c s receives = absurd (false≢true receives)
no_call_either rules op.Shl width imm a b c s receives = absurd (false≢true receives)
no_call_either rules op.Shr width imm a b c s receives = absurd (false≢true receives)
no_call_either rules op.Resize width imm a b c s receives = absurd (false≢true receives)
no_call_either rules op.Send width imm a b c s receives = absurd (false≢true receives)
no_call_either rules op.Div width imm a b c s receives = absurd (false≢true receives)
no_call_either rules op.Rem width imm a b c s receives = absurd (false≢true receives)
no_call_either rules op.Count width imm a b c s receives = absurd (false≢true receives)
no_call_either rules op.Min width imm a b c s receives = absurd (false≢true receives)
no_call_either rules op.Max width imm a b c s receives = absurd (false≢true receives)

cond_same : {X : Type 0} (b : Bool) (x : X) → cond b x x ≡ x
cond_same true x = refl
cond_same false x = refl

module _ {A B C : Type 0} (first : Rules A) (second : Rules B) (third : Rules C)
    (S : ℕ → first.State → second.State → third.State → List (Call second.State B) → Type 0) (V : A → B → C → Type 0)
    (calls : (worker : ℕ) → KeepsCalls first second third (S worker) V) where
  -- wires of several instructions
  abbrev pub Wires : List (List A) → List (List B) → List (List C) → Type 0
  Wires xs ys zs = Each (Each V) xs ys zs

  -- runs are related, with these calls of the second driver still to come for each worker
  pub record Related (r : Unplaced first.State A) (r' : Unplaced second.State B) (r'' : Unplaced third.State C) (rest : ℕ → List (Call second.State B)) : Type 0 where
    pub states : (w : ℕ) → S w (r.states w) (r'.states w) (r''.states w) (rest w)
    pub values : (w : ℕ) → Wires (r.values w) (r'.values w) (r''.values w)
    pub sent : (v w : ℕ) → Wires (r.sent v w) (r'.sent v w) (r''.sent v w)

  args : (r : Unplaced first.State A) (r' : Unplaced second.State B) (r'' : Unplaced third.State C) → ((w : ℕ) → Wires (r.values w) (r'.values w) (r''.values w)) →
      (worker : ℕ) (i : Instr) (k : ℕ) → Each V (wires_of_arg r worker i k) (wires_of_arg r' worker i k) (wires_of_arg r'' worker i k)
  args r r' r'' values worker i k = each_get (Each V) (r.values worker) (r'.values worker) (r''.values worker) (slice_index i.args k) [] [] [] (values worker) tt

  values_with : (r : Unplaced first.State A) (r' : Unplaced second.State B) (r'' : Unplaced third.State C) → ((w : ℕ) → Wires (r.values w) (r'.values w) (r''.values w)) →
      (worker : ℕ) (x : List A) (y : List B) (z : List C) → Each V x y z → (w : ℕ) →
      Wires (with_at r.values worker (r.values worker ++ x ∷ []) w) (with_at r'.values worker (r'.values worker ++ y ∷ []) w) (with_at r''.values worker (r''.values worker ++ z ∷ []) w)
  values_with r r' r'' values worker x y z new =
      with_at_each (λ (w : ℕ) (xs : List (List A)) (ys : List (List B)) (zs : List (List C)). Wires xs ys zs) r.values r'.values r''.values worker _ _ _
      (each_append (Each V) (r.values worker) (x ∷ []) (r'.values worker) (y ∷ []) (r''.values worker) (z ∷ []) (values worker) (new, tt)) values

  sent_with : (r : Unplaced first.State A) (r' : Unplaced second.State B) (r'' : Unplaced third.State C) → ((v w : ℕ) → Wires (r.sent v w) (r'.sent v w) (r''.sent v w)) →
      (from to : ℕ) (xs : List (List A)) (ys : List (List B)) (zs : List (List C)) → Wires xs ys zs → (v w : ℕ) →
      Wires ((with_sent r from to xs).sent v w) ((with_sent r' from to ys).sent v w) ((with_sent r'' from to zs).sent v w)
  sent_with r r' r'' sent from to xs ys zs new v =
      with_at_each (λ (v : ℕ) (f : ℕ → List (List A)) (g : ℕ → List (List B)) (h : ℕ → List (List C)). (w : ℕ) → Wires (f w) (g w) (h w)) r.sent r'.sent r''.sent from _ _ _
      (with_at_each (λ (w : ℕ) (xs : List (List A)) (ys : List (List B)) (zs : List (List C)). Wires xs ys zs) (r.sent from) (r'.sent from) (r''.sent from) to xs ys zs new (sent from))
      sent v

  -- the calls of an instruction, and those that are still to come after it
  abbrev pub coming : Unplaced second.State B → Emitted → (ℕ → List (Call second.State B)) → ℕ → List (Call second.State B)
  coming r e rest w = cond (w == e.worker) (made_by second r e).calls [] ++ rest w

  -- an instruction that makes no call leaves what is still to come
  no_more : (r : Unplaced second.State B) (e : Emitted) (rest : ℕ → List (Call second.State B)) → (made_by second r e).calls ≡ [] → (w : ℕ) → coming r e rest w ≡ rest w
  no_more r e rest none w = ap (λ (xs : List (Call second.State B)). cond (w == e.worker) xs [] ++ rest w) none ∙ ap (λ (xs : List (Call second.State B)). xs ++ rest w) (cond_same (w == e.worker) [])

  keeps_emitted : (e : Emitted) (r : Unplaced first.State A) (r' : Unplaced second.State B) (r'' : Unplaced third.State C) (rest : ℕ → List (Call second.State B)) →
      Related r r' r'' (coming r' e rest) → Related (after_emitted first r e) (after_emitted second r' e) (after_emitted third r'' e) rest
  keeps_emitted e r r' r'' rest related = by_kind (is_send e.instr.op) (is_recv e.instr.op) refl refl
    where
      arg : (k : ℕ) → Each V (wires_of_arg r e.worker e.instr k) (wires_of_arg r' e.worker e.instr k) (wires_of_arg r'' e.worker e.instr k)
      arg k = args r r' r'' related.values e.worker e.instr k

      stay : (made_by second r' e).calls ≡ [] → (w : ℕ) → S w (r.states w) (r'.states w) (r''.states w) (rest w)
      stay none w = subst (λ (xs : List (Call second.State B)). S w (r.states w) (r'.states w) (r''.states w) xs) (no_more r' e rest none w) (related.states w)

      circuit : (xs : List (Call second.State B)) → S e.worker (r.states e.worker) (r'.states e.worker) (r''.states e.worker) ((made_by second r' e).calls ++ xs) →
          S e.worker (made_by first r e).state (made_by second r' e).state (made_by third r'' e).state xs × Each V (made_by first r e).wires (made_by second r' e).wires (made_by third r'' e).wires
      circuit xs h = keeps_circuit first second third (S e.worker) V (calls e.worker) e.instr.op e.instr.width e.instr.imm _ _ _ _ _ _ _ _ _ (arg 0) (arg 1) (arg 2)
          (r.states e.worker) (r'.states e.worker) (r''.states e.worker) xs h

      moved : (w : ℕ) (b : Bool) → (w == e.worker) ≡ b → S w (r.states w) (r'.states w) (r''.states w) (cond b (made_by second r' e).calls [] ++ rest w) →
          S w (cond b (made_by first r e).state (r.states w)) (cond b (made_by second r' e).state (r'.states w)) (cond b (made_by third r'' e).state (r''.states w)) (rest w)
      moved w false is h = h
      moved w true is h = subst (λ (v : ℕ). S v (made_by first r e).state (made_by second r' e).state (made_by third r'' e).state (rest w)) (sym (eqb-true w e.worker is))
          (circuit (rest w) (subst (λ (v : ℕ). S v (r.states v) (r'.states v) (r''.states v) ((made_by second r' e).calls ++ rest w)) (eqb-true w e.worker is) h)).0

      own : S e.worker (r.states e.worker) (r'.states e.worker) (r''.states e.worker) ((made_by second r' e).calls ++ rest e.worker)
      own = subst (λ (b : Bool). S e.worker (r.states e.worker) (r'.states e.worker) (r''.states e.worker) (cond b (made_by second r' e).calls [] ++ rest e.worker)) (eq-eqb e.worker e.worker refl) (related.states e.worker)

      by_kind : (p q : Bool) → is_send e.instr.op ≡ p → is_recv e.instr.op ≡ q → Related
          (cond p (with_wires (with_sent r e.worker e.instr.imm (r.sent e.worker e.instr.imm ++ wires_of_arg r e.worker e.instr 0 ∷ [])) e.worker [])
          (cond q (with_wires (with_sent r e.instr.imm e.worker (drop 1 (r.sent e.instr.imm e.worker))) e.worker (get_or (r.sent e.instr.imm e.worker) 0 []))
          (with_wires (record r { states = with_at r.states e.worker (made_by first r e).state }) e.worker (made_by first r e).wires)))
          (cond p (with_wires (with_sent r' e.worker e.instr.imm (r'.sent e.worker e.instr.imm ++ wires_of_arg r' e.worker e.instr 0 ∷ [])) e.worker [])
          (cond q (with_wires (with_sent r' e.instr.imm e.worker (drop 1 (r'.sent e.instr.imm e.worker))) e.worker (get_or (r'.sent e.instr.imm e.worker) 0 []))
          (with_wires (record r' { states = with_at r'.states e.worker (made_by second r' e).state }) e.worker (made_by second r' e).wires)))
          (cond p (with_wires (with_sent r'' e.worker e.instr.imm (r''.sent e.worker e.instr.imm ++ wires_of_arg r'' e.worker e.instr 0 ∷ [])) e.worker [])
          (cond q (with_wires (with_sent r'' e.instr.imm e.worker (drop 1 (r''.sent e.instr.imm e.worker))) e.worker (get_or (r''.sent e.instr.imm e.worker) 0 []))
          (with_wires (record r'' { states = with_at r''.states e.worker (made_by third r'' e).state }) e.worker (made_by third r'' e).wires)))
          rest
      by_kind true q sends receives = record {
        states = stay (no_call second e.instr.op e.instr.width e.instr.imm _ _ _ _ sends);
        values = values_with r r' r'' related.values e.worker [] [] [] tt;
        sent = sent_with r r' r'' related.sent e.worker e.instr.imm _ _ _
            (each_append (Each V) (r.sent e.worker e.instr.imm) _ (r'.sent e.worker e.instr.imm) _ (r''.sent e.worker e.instr.imm) _ (related.sent e.worker e.instr.imm) (arg 0, tt));
      }
      by_kind false true sends receives = record {
        states = stay (no_call_either second e.instr.op e.instr.width e.instr.imm _ _ _ _ receives);
        values = values_with r r' r'' related.values e.worker _ _ _
            (each_get (Each V) (r.sent e.instr.imm e.worker) (r'.sent e.instr.imm e.worker) (r''.sent e.instr.imm e.worker) 0 [] [] [] (related.sent e.instr.imm e.worker) tt);
        sent = sent_with r r' r'' related.sent e.instr.imm e.worker _ _ _
            (each_drop (Each V) 1 (r.sent e.instr.imm e.worker) (r'.sent e.instr.imm e.worker) (r''.sent e.instr.imm e.worker) (related.sent e.instr.imm e.worker));
      }
      by_kind false false sends receives = record {
        states = λ w. moved w (w == e.worker) refl (related.states w);
        values = values_with r r' r'' related.values e.worker _ _ _ (circuit (rest e.worker) own).1;
        sent = related.sent;
      }

  pub keeps_run : (es : List Emitted) (r : Unplaced first.State A) (r' : Unplaced second.State B) (r'' : Unplaced third.State C) (rest : ℕ → List (Call second.State B)) →
      Related r r' r'' (λ w. calls_of second w r' es ++ rest w) → Related (run_of first r es) (run_of second r' es) (run_of third r'' es) rest
  keeps_run [] r r' r'' rest related = related
  keeps_run (e ∷ es) r r' r'' rest related =
      let later : ℕ → List (Call second.State B) = λ w. calls_of second w (after_emitted second r' e) es ++ rest w in
      keeps_run es (after_emitted first r e) (after_emitted second r' e) (after_emitted third r'' e) rest
      (keeps_emitted e r r' r'' later (record {
        states = λ w. subst (λ (xs : List (Call second.State B)). S w (r.states w) (r'.states w) (r''.states w) xs)
            (append_assoc (cond (w == e.worker) (made_by second r' e).calls []) (calls_of second w (after_emitted second r' e) es) (rest w)) (related.states w);
        values = related.values;
        sent = related.sent;
      }))
