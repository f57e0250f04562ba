-- The execution of statements keeps the agreement with the direct meaning.
use Rattle.std.proofs.Common.{◌≡◌, ℕ, zero, suc, ◌+◌, ◌<◌, Bool, true, false, eqb, List, [], ◌∷◌, ◌++◌, map, replicate, ℤ, pos, Option, Some, None, Result, Ok, refl, sym, ap, ◌∙◌, subst}
use Rattle.std.specs.Prelude.{slice_get, slice_index, unsigned_abs, ◌+ℤ◌, set}
use Rattle.std.proofs.lemmas.Bool.{eqb-true}
use Rattle.mage_instr.specs.declared.op.Op.TheVariants as op
use Rattle.mage_lex.specs.declared.fault.LangFault.{LangFault}
use Rattle.mage_lex.specs.declared.token.Token.{Token}
use Rattle.mage_scopes.specs.Scopes.{Meaning, found, replaced, entered, left}
use Rattle.mage_tree.specs.Words.{bytes_of}
use Rattle.mage_tree.specs.declared.tree.ConstExpr.{ConstExpr}
use Rattle.mage_tree.specs.declared.tree.Stmt.{Stmt, map-Stmt, roll-Stmt}
use Rattle.mage_tree.specs.declared.tree.Stmt.TheOpen.{Stmt-F}
use Rattle.mage_tree.specs.declared.tree.Stmt.TheFolds.{fold-roll-Stmt, ind-Stmt}
use Rattle.mage_unroll.specs.declared.state.Array.{Array}
use Rattle.mage_linked.specs.declared.emitted.Emitted.{Emitted}
use Rattle.mage_unroll.specs.declared.state.Named.{Named}
use Rattle.mage_unroll.specs.declared.state.Named.TheVariants as named
use Rattle.mage_unroll.specs.declared.state.Scalar.{Scalar}
use Rattle.mage_unroll.specs.declared.state.Variable.{Variable}
use Rattle.mage_constants.specs.Constants.{constant_of}
use Rattle.mage_unroll.specs.Expressions.{variable_of}
use Rattle.mage_unroll.specs.declared.state.Held.{Held}
use Rattle.mage_unroll.specs.State as state
use Rattle.mage_unroll.specs.State.{State, held_scalar, place_with, instr_of, stepped, stepped_by, is_free, own_place, place_of, width_at, is_as_wide}
use Rattle.mage_unroll.specs.Statements as unroll
use Rattle.mage_linked.specs.Workers.{below}
use Rattle.mage_constants.specs.Ranges.{number_below, holds, distance}
use Rattle.mage_unroll.specs.Statements.{condition, turn, Act, all_acts, in_scope, length_at, named_scalar, named_array, turns, branch, stmt_layer, executed}
use Rattle.mage_meaning.specs.declared.known.Known.{Known}
use Rattle.mage_meaning.specs.declared.known.Known.TheVariants as known
use Rattle.mage_meaning.specs.declared.known.Wide.{Wide}
use Rattle.mage_linked.specs.Workers.{with_at}
use Rattle.mage_meaning.specs.Given.{Given}
use Rattle.mage_meaning.specs.Means.{Running, with_value, after_instr}
use Rattle.mage_meaning.specs.Value as value
use Rattle.mage_meaning.specs.Value.{Moment, Change, all_changes, number_of_expr, change_layer, change_of}
use Rattle.mage_meaning.proofs.Agree.{Stands, StandFor, Same, Same-Extends, same_found, Agree, SameNames-Extends, stepped-is, Agree-scopes, Agree-steps, Agree-bound, Agree-stepped, constant-Agree}
use Rattle.mage_unroll.proofs.SoundPlaces.{scalar-found, array-found, own_place-is}
use Rattle.mage_unroll.proofs.SoundStates.{after_emission, emitted_is}
use Rattle.mage_meaning.proofs.EmissionLemmas.{Evaluates, value_of_variable}
use Rattle.mage_meaning.proofs.ExpressionLaw.{variable_of-Law}
use Rattle.mage_meaning.proofs.InputLemmas.{length-Agree, input_of-Agree}
use Rattle.mage_meaning.proofs.MoveLemmas.{moved-Agree}
use Rattle.mage_meaning.proofs.PlaceLemmas.{StandFor-set, array-Both, item-Held, place_of-Held, width_at-is}
use Rattle.mage_chains.proofs.Ends.{cond_ok, then_ok, same_Ok}
use Rattle.mage_constants.proofs.Trees.{or_fault_ok}
use Rattle.mage_constants.proofs.RangeLemmas.{number_below-is}
use Rattle.mage_meaning.proofs.Runs.{ran, ran-push, Extends-ran}
use Rattle.mage_meaning.proofs.ScopeLemmas.{replaced-Same, entered-Same, left-Same}
use Rattle.mage_linked.proofs.WorkerLemmas.{list_at-map}
use Rattle.mage_meaning.proofs.WorkerLists.{map-with_at}

StandFor-replicate : (values : List ℕ) (n i x : ℕ) → slice_get values i ≡ Some x → StandFor values (replicate n i) (replicate n x)
StandFor-replicate values zero i x h = tt
StandFor-replicate values (suc n) i x h = (h, StandFor-replicate values n i x h)

module _ (given : Given) (workers : ℕ) where
  -- what an act comes to agrees with the change
  abbrev pub StmtLaw : Act → Change → Type 0
  StmtLaw act change = (s s' : State) (m : Moment) → Agree given workers s m → act s ≡ Ok s' → Agree given workers s' (change m)

  -- ---- outputs

  -- one output more
  outputs_more : (f : ℕ → List ℕ) (outputs : List (List ℕ)) (w v x y : ℕ) → map f (below workers) ≡ outputs → w ≡ v → x ≡ y → w < workers → map (with_at f w (f w ++ x ∷ [])) (below workers) ≡ value.with_output outputs v y
  outputs_more f outputs w v x y p q e below_all =
      map-with_at f w (f w ++ x ∷ []) workers below_all
      ∙ ap (λ (l : List ℕ). set (map f (below workers)) w (l ++ x ∷ [])) (sym (list_at-map f workers w below_all))
      ∙ ap (λ (l : List (List ℕ)). value.with_output l w x) p ∙ ap (λ u. value.with_output outputs u x) q ∙ ap (λ u. value.with_output outputs v u) e

  Agree-output : (s : State) (m : Moment) (worker : ℕ) (v : Variable) (x : Wide) → Agree given workers s m → worker ≡ m.worker → worker < workers → Stands ((ran given s.program).values m.worker) v x → Agree given workers (after_emission worker (instr_of op.Output v.width (v.index ∷ 0 ∷ 0 ∷ []) 0) s) (record m { outputs = value.with_output m.outputs m.worker x.value })
  unfolding after_instr
  Agree-output s m worker v x a same below_all h =
      let i = instr_of op.Output v.width (v.index ∷ 0 ∷ 0 ∷ []) 0 in
      let e : Emitted = record { worker = worker; instr = i } in
      let p = s.program in
      let r = ran given p in
      let y = slice_index (r.values worker) v.index in
      let now : Running = record r { outputs = with_at r.outputs worker (r.outputs worker ++ y ∷ []) } in
      let run : ran given (p ++ e ∷ []) ≡ with_value worker 0 now = ran-push given p e in
      let out = ap (λ w. slice_index (r.values w) v.index) same ∙ value_of_variable given workers s m.worker v x h in
      let outputs = outputs_more r.outputs m.outputs worker m.worker y x.value a.follows.outputs_so_far same out below_all in
      record {
        worker = a.worker;
        within = a.within;
        count = a.count;
        names = SameNames-Extends given workers p (p ++ e ∷ []) s.scopes m.scopes (Extends-ran given p e) a.names;
        follows = record {
          garbler_left = ap (λ (z : Running). z.garbler) run ∙ a.follows.garbler_left;
          evaluator_left = ap (λ (z : Running). z.evaluator) run ∙ a.follows.evaluator_left;
          outputs_so_far = ap (λ (z : Running). map z.outputs (below workers)) run ∙ outputs;
          nothing_sent = λ from to. ap (λ (z : Running). z.sent from to) run ∙ a.follows.nothing_sent from to;
        };
      }

  -- ---- assignments

  -- the name of a scalar
  scalar-Agree : (name : Token) (scalar : Scalar) (v : Variable) (s s' : State) (m : Moment) (x : Wide) → Agree given workers s m → Evaluates given workers s s' m v x → state.as_scalar (found s.scopes (bytes_of name)) ≡ Some scalar → scalar.worker ≡ s.worker → scalar.variable.width ≡ v.width → Agree given workers (state.assigned name None v.index s') (record m { scopes = replaced m.scopes (bytes_of name) (known.Number x) })
  scalar-Agree name scalar v s s' m x a k h worker width =
      let n = bytes_of name in
      let there = ap (λ (l : List (Meaning Named)). found l n) k.same_scopes ∙ scalar-found (found s.scopes n) scalar h in
      let anew = named.Scalar (record scalar { variable = record { width = scalar.variable.width; index = v.index } }) in
      let values = (ran given s'.program).values in
      let below = subst (λ w. w < workers) (sym worker) a.within in
      let stands = subst (λ w. slice_get (values w) v.index ≡ Some x.value) (sym (worker ∙ a.worker)) k.stands.0 in
      let same : Same workers values anew (known.Number x) = (below, (stands, width ∙ k.stands.1)) in
      let scopes = replaced-Same Named Known (Same workers values) s'.scopes m.scopes n anew (known.Number x) same k.agree.names in
      subst (λ o. Agree given workers (state.rebound_name o name None v.index s') (record m { scopes = replaced m.scopes n (known.Number x) })) (sym there)
      (Agree-scopes given workers s' m (replaced s'.scopes n anew) (replaced m.scopes n (known.Number x)) k.agree scopes)

  -- an item of an array
  item-Agree : (name : Token) (array : Array) (p : ℕ) (v : Variable) (s s' : State) (m : Moment) (x : Wide) → Agree given workers s m → Evaluates given workers s s' m v x → state.as_array (found s.scopes (bytes_of name)) ≡ Some array → array.worker ≡ s.worker → Agree given workers (state.assigned name (Some p) v.index s') (record m { scopes = replaced m.scopes (bytes_of name) (known.Array (record (value.as_row (found m.scopes (bytes_of name))) { values = set (value.as_row (found m.scopes (bytes_of name))).values p x.value })) })
  item-Agree name array p v s s' m x a k h worker =
      let n = bytes_of name in
      let there = ap (λ (l : List (Meaning Named)). found l n) k.same_scopes ∙ array-found (found s.scopes n) array h in
      let row = value.as_row (found m.scopes n) in
      let anew = named.Array (record array { items = set array.items p v.index }) in
      let other = known.Array (record row { values = set row.values p x.value }) in
      let values = (ran given s'.program).values in
      let before = Same-Extends workers (ran given s.program).values values k.kept (named.Array array) (known.Array row)
      (array-Both workers (ran given s.program).values (found s.scopes n) (found m.scopes n) array (same_found given workers s m n a) h) in
      let stands = subst (λ w. slice_get (values w) v.index ≡ Some x.value) (sym (worker ∙ a.worker)) k.stands.0 in
      let same : Same workers values anew other = (before.0, before.1, StandFor-set (values array.worker) array.items row.values p v.index x.value before.2 stands) in
      let scopes = replaced-Same Named Known (Same workers values) s'.scopes m.scopes n anew other same k.agree.names in
      subst (λ o. Agree given workers (state.rebound_name o name (Some p) v.index s') (record m { scopes = replaced m.scopes n other })) (sym there)
      (Agree-scopes given workers s' m (replaced s'.scopes n anew) (replaced m.scopes n other) k.agree scopes)

  assigned-Agree : (name : Token) (index : Option (Token × ConstExpr)) (held : Held) (v : Variable) (s s' : State) (m : Moment) (x : Wide) → Agree given workers s m → Evaluates given workers s s' m v x → place_with name index s ≡ Ok held → held.worker ≡ s.worker → held.variable.width ≡ v.width → Agree given workers (state.assigned name held.position v.index s') (value.assigned name index x m)
  unfolding place_with
  assigned-Agree name None held v s s' m x a k h worker width =
      let b = then_ok _ _ held h in
      let is = same_Ok (held_scalar b.0) held b.2 in
      subst (λ o. Agree given workers (state.assigned name o v.index s') (value.assigned name None x m)) (ap (λ (y : Held). y.position) is)
      (scalar-Agree name b.0 v s s' m x a k (or_fault_ok _ name _ b.0 b.1) (ap (λ (y : Held). y.worker) is ∙ worker) (ap (λ (y : Held). y.variable.width) is ∙ width))
  assigned-Agree name (Some index) held v s s' m x a k h worker width =
      let n = bytes_of name in
      let b = then_ok _ _ held h in
      let array = or_fault_ok _ name _ b.0 b.1 in
      let same = array-Both workers (ran given s.program).values (found s.scopes n) (found m.scopes n) b.0 (same_found given workers s m n a) array in
      let is = item-Held given workers s m name index.1 b.0 (value.as_row (found m.scopes n)) held a same b.2 in
      subst (λ o. Agree given workers (state.assigned name o v.index s') (value.assigned name (Some index) x m)) (sym is.2)
      (item-Agree name b.0 (value.number_in index.1 m) v s s' m x a k array (sym is.0 ∙ worker))

  -- a new array, each item of which stands for the same number
  array-Agree : (name : Token) (width n : ℕ) (size : ConstExpr) (v : Variable) (worker : ℕ) (s after s' : State) (m : Moment) (x : Wide) → Agree given workers s m → Stands ((ran given s.program).values m.worker) v x → worker < workers → worker ≡ m.worker → width ≡ x.width → value.number_in size m ≡ n → (word : Token) → stepped_by n word s ≡ Ok after → ◌≡◌ {A = Result State LangFault} (Ok (state.bound name (named_array worker width (replicate n v.index)) after)) (Ok s') → Agree given workers s' (value.bound name (known.Array (record { width = x.width; values = replicate (value.number_in size m) x.value })) m)
  array-Agree name width n size v worker s after s' m x a h below same wide length word stepped e =
      let stands = subst (λ w. slice_get ((ran given s.program).values w) v.index ≡ Some x.value) (sym same) h.0 in
      let array = named_array worker width (replicate n v.index) in
      let row = known.Array (record { width = x.width; values = replicate n x.value }) in
      let steps = s.steps + n in
      let bound = Agree-bound given workers (record s { steps = steps }) m name array row (Agree-steps given workers s m steps a) (below, wide, StandFor-replicate ((ran given s.program).values worker) n v.index x.value stands) in
      let bound' = subst (λ y. Agree given workers (state.bound name array y) (value.bound name row m)) (stepped-is n word s after stepped) bound in
      subst (λ k. Agree given workers s' (value.bound name (known.Array (record { width = x.width; values = replicate k x.value })) m)) (sym length)
      (subst (λ y. Agree given workers y (value.bound name row m)) (same_Ok (state.bound name array after) s' e) bound')

  -- ---- scopes, turns and branches

  in_scope-Law : (act : Act) (change : Change) → StmtLaw act change → StmtLaw (in_scope act) (value.in_scope change)
  in_scope-Law act change law s s' m a h =
      let inside = Agree-scopes given workers s m (entered s.scopes) (entered m.scopes) a (entered-Same _ _ _ s.scopes m.scopes a.names) in
      let b = then_ok (act (record s { scopes = entered s.scopes })) _ s' h in
      let after = change (record m { scopes = entered m.scopes }) in
      let done = law (record s { scopes = entered s.scopes }) b.0 (record m { scopes = entered m.scopes }) inside b.1 in
      subst (λ y. Agree given workers y (record after { scopes = left after.scopes })) (same_Ok (record b.0 { scopes = left b.0.scopes }) s' b.2)
      (Agree-scopes given workers b.0 after (left b.0.scopes) (left after.scopes) done (left-Same _ _ _ b.0.scopes after.scopes done.names))

  turns-Law : (act : Act) (change : Change) → StmtLaw act change → (n : ℕ) (number : ℤ) (word name : Token) → StmtLaw (turns n number word name act) (value.turns n number name change)
  turns-Law act change law zero number word name s s' m a h = subst (λ y. Agree given workers y m) (same_Ok s s' h) a
  turns-Law act change law (suc n) number word name s s' m a h =
      let t = then_ok (turn number word name act s) _ s' h in
      let b = then_ok (stepped word s) _ t.0 t.1 in
      let inner : StmtLaw (λ inner. act (state.bound name (named.Constant number) inner)) (λ inner. change (value.bound name (known.Constant number) inner)) =
      λ t t' u k e. law (state.bound name (named.Constant number) t) t' (value.bound name (known.Constant number) u) (Agree-bound given workers t u name (named.Constant number) (known.Constant number) k refl) e in
      let one = in_scope-Law _ _ inner b.0 t.0 m (Agree-stepped given workers 1 word s b.0 m a b.1) b.2 in
      turns-Law act change law n (number +ℤ pos 1) word name t.0 s' _ one t.2

  abbrev OtherLaw : Option (List Act) → Option (List Change) → Type 0
  OtherLaw None None = Unit {0}
  OtherLaw (Some acts) (Some changes) = StmtLaw (all_acts acts) (all_changes changes)
  OtherLaw _ _ = ⊥

  branch-Law : (test : Bool) (acts : List Act) (changes : List Change) (other : Option (List Act)) (other' : Option (List Change)) → StmtLaw (all_acts acts) (all_changes changes) → OtherLaw other other' → StmtLaw (branch test acts other) (value.branch test changes other')
  branch-Law true acts changes other other' law law' = in_scope-Law (all_acts acts) (all_changes changes) law
  branch-Law false acts changes (Some others) (Some others') law law' = in_scope-Law (all_acts others) (all_changes others') law'
  branch-Law false acts changes None None law law' = λ s s' m a h. subst (λ y. Agree given workers y m) (same_Ok s s' h) a
  branch-Law false acts changes _ _ law law' = absurd law'

  if-Law : (word : Token) (lower : ConstExpr) (op : Token) (upper : ConstExpr) (acts : List Act) (changes : List Change) (other : Option (List Act)) (other' : Option (List Change)) → StmtLaw (all_acts acts) (all_changes changes) → OtherLaw other other' → StmtLaw (stmt_layer (Stmt-F.If word lower op upper acts other)) (change_layer (Stmt-F.If word lower op upper changes other'))
  unfolding stmt_layer change_layer condition
  if-Law word lower op upper acts changes other other' law law' s s' m a h =
      let held = then_ok (condition word lower op upper s) _ s' h in
      let b = then_ok (stepped word s) _ held.0 held.1 in
      let first = then_ok (constant_of lower (state.constants_of b.0)) _ held.0 b.2 in
      let second = then_ok (constant_of upper (state.constants_of b.0)) _ held.0 first.2 in
      let test = holds op first.0 second.0 in
      let taken = subst (λ (p : Bool × State). branch p.0 acts other p.1 ≡ Ok s') (sym (same_Ok (test, b.0) held.0 second.2)) held.2 in
      let a1 = Agree-stepped given workers 1 word s b.0 m a b.1 in
      let done = branch-Law test acts changes other other' law law' b.0 s' m a1 taken in
      subst (λ x. Agree given workers s' (value.branch (holds op x (value.constant_in upper m)) changes other' m)) (sym (constant-Agree given workers b.0 m lower first.0 a1 first.1))
      (subst (λ y. Agree given workers s' (value.branch (holds op first.0 y) changes other' m)) (sym (constant-Agree given workers b.0 m upper second.0 a1 second.1)) done)

  module _ (X : Type 0) (f : X → Act) (g : X → Change) (Y : Type 0) (base : Y → X) (law : (t : Y) → StmtLaw (f (base t)) (g (base t))) where
    all-Law : (body : List Y) → StmtLaw (all_acts (map f (map base body))) (all_changes (map g (map base body)))
    all-Law [] s s' m a h = subst (λ y. Agree given workers y m) (same_Ok s s' h) a
    all-Law (first ∷ others) s s' m a h =
        let b = then_ok (f (base first) s) _ s' h in
        all-Law others b.0 s' (g (base first) m) (law first s b.0 m a b.1) b.2

    layer-Law : (e : Stmt-F Y) → StmtLaw (stmt_layer (map-Stmt X Act f (map-Stmt Y X base e))) (change_layer (map-Stmt X Change g (map-Stmt Y X base e)))
    unfolding stmt_layer change_layer
    layer-Law (Stmt-F.Constant word name e) s s' m a h =
        let b = then_ok (stepped word s) _ s' h in
        let c = then_ok (is_free name b.0) _ s' b.2 in
        let z = then_ok (constant_of e (state.constants_of b.0)) _ s' c.2 in
        let a1 = Agree-stepped given workers 1 word s b.0 m a b.1 in
        let same = constant-Agree given workers b.0 m e z.0 a1 z.1 in
        subst (λ y. Agree given workers y (value.bound name (known.Constant (value.constant_in e m)) m)) (same_Ok (state.bound name (named.Constant z.0) b.0) s' z.2)
        (Agree-bound given workers b.0 m name (named.Constant z.0) (known.Constant (value.constant_in e m)) a1 (sym same))
    layer-Law (Stmt-F.Input word party name ty size) s s' m a h =
        let b = then_ok (stepped word s) _ s' h in
        let c = then_ok (is_free name b.0) _ s' b.2 in
        let w = then_ok (width_at ty) _ s' c.2 in
        let a1 = Agree-stepped given workers 1 word s b.0 m a b.1 in
        subst (λ width. Agree given workers s' (value.with_input size party name width m)) (sym (width_at-is ty w.0 w.1)) (input_of-Agree given workers size word party name w.0 b.0 s' m a1 w.2)
    layer-Law (Stmt-F.Let word name e) s s' m a h =
        let b = then_ok (stepped word s) _ s' h in
        let c = then_ok (is_free name b.0) _ s' b.2 in
        let v = then_ok (variable_of e word b.0) _ s' c.2 in
        let a1 = Agree-stepped given workers 1 word s b.0 m a b.1 in
        let k = variable_of-Law given workers e word b.0 v.0.1 m v.0.0 a1 v.1 in
        let stands = subst (λ w. Stands ((ran given v.0.1.program).values w) v.0.0 (number_of_expr e m)) (sym a1.worker) k.stands in
        subst (λ y. Agree given workers y (value.bound name (known.Number (number_of_expr e m)) m)) (same_Ok (state.bound name (named_scalar b.0.worker v.0.0) v.0.1) s' v.2)
        (Agree-bound given workers v.0.1 m name (named_scalar b.0.worker v.0.0) (known.Number (number_of_expr e m)) k.agree (a1.within, stands))
    layer-Law (Stmt-F.Array word name ty size eq e) s s' m a h =
        let b = then_ok (stepped word s) _ s' h in
        let c = then_ok (is_free name b.0) _ s' b.2 in
        let w = then_ok (width_at ty) _ s' c.2 in
        let n = then_ok (length_at size b.0) _ s' w.2 in
        let v = then_ok (variable_of e word b.0) _ s' n.2 in
        let same = then_ok (is_as_wide eq w.0 v.0.0.width) _ s' v.2 in
        let after = then_ok (stepped_by n.0 word v.0.1) _ s' same.2 in
        let a1 = Agree-stepped given workers 1 word s b.0 m a b.1 in
        let k = variable_of-Law given workers e word b.0 v.0.1 m v.0.0 a1 v.1 in
        let width = eqb-true w.0 v.0.0.width (cond_ok (eqb w.0 v.0.0.width) tt same.0 _ same.1).0 in
        array-Agree name w.0 n.0 size.1 v.0.0 b.0.worker v.0.1 after.0 s' m (number_of_expr e m) k.agree k.stands a1.within a1.worker (width ∙ k.stands.1) (length-Agree given workers b.0 m size n.0 a1 n.1) word after.1 after.2
    layer-Law (Stmt-F.Assign place eq e) s s' m a h =
        let b = then_ok (stepped place.name s) _ s' h in
        let held = then_ok (own_place place b.0) _ s' b.2 in
        let v = then_ok (variable_of e place.name b.0) _ s' held.2 in
        let is = own_place-is b.0 place held.0 held.1 in
        let w = then_ok (is_as_wide eq held.0.variable.width v.0.0.width) _ s' v.2 in
        let a1 = Agree-stepped given workers 1 place.name s b.0 m a b.1 in
        let k = variable_of-Law given workers e place.name b.0 v.0.1 m v.0.0 a1 v.1 in
        let same = eqb-true held.0.variable.width v.0.0.width (cond_ok (eqb held.0.variable.width v.0.0.width) tt w.0 _ w.1).0 in
        subst (λ y. Agree given workers y (value.assigned place.name place.index (number_of_expr e m) m)) (same_Ok (state.assigned place.name held.0.position v.0.0.index v.0.1) s' w.2)
        (assigned-Agree place.name place.index held.0 v.0.0 b.0 v.0.1 m (number_of_expr e m) a1 k is.0 is.1 same)
    layer-Law (Stmt-F.Move word name place) s s' m a h =
        let b = then_ok (stepped word s) _ s' h in
        let c = then_ok (is_free name b.0) _ s' b.2 in
        let held = then_ok (place_of place b.0) _ s' c.2 in
        let a1 = Agree-stepped given workers 1 word s b.0 m a b.1 in
        moved-Agree given workers word name held.0 (value.item_at place m) b.0 s' m a1 (place_of-Held given workers b.0 m place held.0 a1 held.1) held.2
    layer-Law (Stmt-F.On word worker body) s s' m a h =
        let b = then_ok (stepped word s) _ s' h in
        let z = then_ok (constant_of worker (state.constants_of b.0)) _ s' b.2 in
        let w = then_ok _ _ s' z.2 in
        let after = then_ok (all_acts (map f (map base body)) (record b.0 { worker = w.0 })) _ s' w.2 in
        let a1 = Agree-stepped given workers 1 word s b.0 m a b.1 in
        let chosen = number_below-is b.0.workers z.0 w.0 (or_fault_ok _ (unroll.first_token worker) (number_below b.0.workers z.0) w.0 w.1) in
        let same = ap unsigned_abs (constant-Agree given workers b.0 m worker z.0 a1 z.1) ∙ chosen.0 in
        let moment = record m { worker = value.number_in worker m } in
        let there : Agree given workers (record b.0 { worker = w.0 }) moment =
        record { worker = sym same; within = subst (λ k. w.0 < k) a1.count chosen.1; count = a1.count; names = a1.names; follows = a1.follows } in
        let done = all-Law body (record b.0 { worker = w.0 }) after.0 moment there after.1 in
        subst (λ y. Agree given workers y (record (all_changes (map g (map base body)) moment) { worker = m.worker })) (same_Ok (record after.0 { worker = b.0.worker }) s' after.2)
        (record { worker = a1.worker; within = a1.within; count = done.count; names = done.names; follows = done.follows })
    layer-Law (Stmt-F.For word name from to body) s s' m a h =
        let b = then_ok (stepped word s) _ s' h in
        let c = then_ok (is_free name b.0) _ s' b.2 in
        let first = then_ok (constant_of from (state.constants_of b.0)) _ s' c.2 in
        let end = then_ok (constant_of to (state.constants_of b.0)) _ s' first.2 in
        let a1 = Agree-stepped given workers 1 word s b.0 m a b.1 in
        let change = all_changes (map g (map base body)) in
        let done = turns-Law (all_acts (map f (map base body))) change (all-Law body) (distance first.0 end.0) first.0 word name b.0 s' m a1 end.2 in
        subst (λ x. Agree given workers s' (value.turns (distance x (value.constant_in to m)) x name change m)) (sym (constant-Agree given workers b.0 m from first.0 a1 first.1))
        (subst (λ y. Agree given workers s' (value.turns (distance first.0 y) first.0 name change m)) (sym (constant-Agree given workers b.0 m to end.0 a1 end.1)) done)
    layer-Law (Stmt-F.If word lower op upper body None) s s' m a h = if-Law word lower op upper (map f (map base body)) (map g (map base body)) None None (all-Law body) tt s s' m a h
    layer-Law (Stmt-F.If word lower op upper body (Some other)) s s' m a h =
        if-Law word lower op upper (map f (map base body)) (map g (map base body)) (Some (map f (map base other))) (Some (map g (map base other))) (all-Law body) (all-Law other) s s' m a h
    layer-Law (Stmt-F.Output word e) s s' m a h =
        let b = then_ok (stepped word s) _ s' h in
        let v = then_ok (variable_of e word b.0) _ s' b.2 in
        let a1 = Agree-stepped given workers 1 word s b.0 m a b.1 in
        let k = variable_of-Law given workers e word b.0 v.0.1 m v.0.0 a1 v.1 in
        subst (λ y. Agree given workers y (record m { outputs = value.with_output m.outputs m.worker (number_of_expr e m).value }))
        ((emitted_is word b.0.worker (instr_of op.Output v.0.0.width (v.0.0.index ∷ 0 ∷ 0 ∷ []) 0) v.0.1 s' v.2).1)
        (Agree-output v.0.1 m b.0.worker v.0.0 (number_of_expr e m) k.agree a1.worker a1.within k.stands)

  roll-Law : (Y : Type 0) (base : Y → Stmt) (law : (t : Y) → StmtLaw (executed (base t)) (change_of (base t))) (e : Stmt-F Y) → StmtLaw (executed (roll-Stmt (map-Stmt Y Stmt base e))) (change_of (roll-Stmt (map-Stmt Y Stmt base e)))
  unfolding executed change_of
  roll-Law Y base law e =
      let z = map-Stmt Y Stmt base e in
      let act = fold-roll-Stmt Act stmt_layer z in
      let change = fold-roll-Stmt Change change_layer z in
      subst (λ (c : Change). StmtLaw (executed (roll-Stmt z)) c) (sym change)
      (subst (λ (x : Act). StmtLaw x (change_layer (map-Stmt Stmt Change change_of z))) (sym act)
      (layer-Law Stmt executed change_of Y base law e))

  -- the law of statements
  pub executed-Law : (statement : Stmt) → StmtLaw (executed statement) (change_of statement)
  executed-Law = ind-Stmt (λ e. StmtLaw (executed e) (change_of e)) (λ x y is.
      subst (λ (z : Stmt-F Stmt). StmtLaw (executed (roll-Stmt z)) (change_of (roll-Stmt z))) is (roll-Law _ (λ e. e.0) (λ e. e.1) y))

  pub all_executed-Law : (body : List Stmt) → StmtLaw (all_acts (map executed body)) (all_changes (map change_of body))
  all_executed-Law [] s s' m a h = subst (λ y. Agree given workers y m) (same_Ok s s' h) a
  all_executed-Law (first ∷ others) s s' m a h =
      let b = then_ok (executed first s) _ s' h in
      all_executed-Law others b.0 s' (change_of first m) (executed-Law first s b.0 m a b.1) b.2
