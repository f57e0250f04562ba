-- The execution of statements keeps each worker's list sound.
use Rattle.std.proofs.Common.{◌≡◌, ◌<◌, ℕ, zero, suc, Bool, true, false, List, [], ◌∷◌, map, replicate, ℤ, pos, ◌+ℤ◌, Option, Some, None, Ok, refl, sym, subst}
use Rattle.mage_instr.specs.declared.op.Op.TheVariants as op
use Rattle.mage_lex.specs.declared.fault.LangKind.TheVariants as wrong
use Rattle.mage_lex.specs.declared.token.Token.{Token}
use Rattle.mage_scopes.specs.Scopes.{entered, left}
use Rattle.mage_tree.specs.declared.tree.ConstExpr.{ConstExpr}
use Rattle.mage_tree.specs.declared.tree.Stmt.{Stmt, map-Stmt, roll-Stmt}
use Rattle.mage_tree.specs.declared.tree.Stmt.TheOpen.{Stmt-F}
use Rattle.mage_tree.specs.declared.tree.Stmt.TheFolds.{fold-roll-Stmt, ind-Stmt}
use Rattle.mage_unroll.specs.declared.state.Named.{Named}
use Rattle.mage_unroll.specs.declared.state.Named.TheVariants as named
use Rattle.mage_constants.specs.Answer.{or_fault}
use Rattle.mage_constants.specs.Constants.{constant_of}
use Rattle.mage_unroll.specs.Expressions.{variable_of}
use Rattle.mage_unroll.specs.State.{State, instr_of, stepped, stepped_by, is_free, bound, constants_of, own_place, place_of, width_at, is_as_wide, assigned}
use Rattle.mage_constants.specs.Ranges.{number_below, distance, holds}
use Rattle.mage_unroll.specs.Statements.{Act, all_acts, entering, leaving, in_scope, length_at, named_scalar, named_array, first_token, turn, turns, condition, branch, stmt_layer, executed}
use Rattle.mage_linked.specs.Emission.{own_instrs}
use Rattle.mage_unroll.proofs.SoundEffects.{follows_output, bound_variable, input_of-Well, moved-Well, assigned-Well}
use Rattle.mage_unroll.proofs.SoundExpressions.{variable_of-Law}
use Rattle.mage_unroll.proofs.SoundNames.{entered-Means, left-Means}
use Rattle.mage_unroll.proofs.SoundPlaces.{AreItems-replicate, place_of-Held, own_place-is, same_width, IsWidth-at}
use Rattle.mage_chains.proofs.Ends.{then_ok, same_Ok}
use Rattle.mage_constants.proofs.Trees.{or_fault_ok}
use Rattle.mage_constants.proofs.RangeLemmas.{number_below-is}
use Rattle.mage_unroll.proofs.SoundStates.{IsNamed, Well, After-emitted, After-stepped, variable_before, IsNamed-Keeps, Well-bound, Well-scopes}

module _ (workers : ℕ) where
  -- an act keeps each worker's list sound
  abbrev pub StmtLaw : Act → Type 0
  StmtLaw act = (s s' : State) → Well workers s → act s ≡ Ok s' → Well workers s'

  Well-stepped : (word : Token) (s s' : State) → Well workers s → stepped word s ≡ Ok s' → Well workers s'
  Well-stepped word s s' a h = (After-stepped workers 1 word s s' a h).well

  -- another worker is the current one
  Well-on : (s : State) (worker : ℕ) → worker < workers → Well workers s → Well workers (record s { worker = worker })
  Well-on s worker below a = record { count = a.count; few = a.few; within = below; room = a.room; linked = a.linked; sound = a.sound; names = a.names }

  -- ---- scopes, turns and branches

  in_scope-Law : (act : Act) → StmtLaw act → StmtLaw (in_scope act)
  in_scope-Law act law s s' a h =
      let P = IsNamed workers in
      let inside = Well-scopes workers s (entered s.scopes) a (entered-Means Named (P s.program) s.scopes a.names) in
      let b = then_ok (act (entering s)) _ s' h in
      let done = law (entering s) b.0 inside b.1 in
      subst (λ y. Well workers y) (same_Ok (leaving b.0) s' b.2) (Well-scopes workers b.0 (left b.0.scopes) done (left-Means Named (P b.0.program) b.0.scopes done.names))

  turns-Law : (act : Act) → StmtLaw act → (n : ℕ) (number : ℤ) (word name : Token) → StmtLaw (turns n number word name act)
  turns-Law act law zero number word name s s' a h = subst (λ y. Well workers y) (same_Ok s s' h) a
  turns-Law act law (suc n) number word name s s' a h =
      let t = then_ok (turn number word name act s) _ s' h in
      let b = then_ok (stepped word s) _ t.0 t.1 in
      let inner : StmtLaw (λ inner. act (bound name (named.Constant number) inner)) =
      λ t t' k e. law (bound name (named.Constant number) t) t' (Well-bound workers t name (named.Constant number) k tt) e in
      let one = in_scope-Law _ inner b.0 t.0 (Well-stepped word s b.0 a b.1) b.2 in
      turns-Law act law n (number +ℤ pos 1) word name t.0 s' one t.2

  abbrev OtherLaw : Option (List Act) → Type 0
  OtherLaw None = Unit {0}
  OtherLaw (Some acts) = StmtLaw (all_acts acts)

  branch-Law : (test : Bool) (acts : List Act) (other : Option (List Act)) → StmtLaw (all_acts acts) → OtherLaw other → StmtLaw (branch test acts other)
  branch-Law true acts other law law' = in_scope-Law (all_acts acts) law
  branch-Law false acts (Some others) law law' = in_scope-Law (all_acts others) law'
  branch-Law false acts None law law' = λ s s' a h. subst (λ y. Well workers y) (same_Ok s s' h) a

  condition-Well : (word : Token) (lower : ConstExpr) (op : Token) (upper : ConstExpr) (s : State) (held : Bool × State) → Well workers s → condition word lower op upper s ≡ Ok held → Well workers held.1
  unfolding condition
  condition-Well word lower op upper s held a h =
      let b = then_ok (stepped word s) _ held h in
      let first = then_ok (constant_of lower (constants_of b.0)) _ held b.2 in
      let second = then_ok (constant_of upper (constants_of b.0)) _ held first.2 in
      subst (λ (p : Bool × State). Well workers p.1) (same_Ok (holds op first.0 second.0, b.0) held second.2) (Well-stepped word s b.0 a b.1)

  if-Law : (word : Token) (lower : ConstExpr) (op : Token) (upper : ConstExpr) (acts : List Act) (other : Option (List Act)) → StmtLaw (all_acts acts) → OtherLaw other → StmtLaw (stmt_layer (Stmt-F.If word lower op upper acts other))
  unfolding stmt_layer
  if-Law word lower op upper acts other law law' s s' a h =
      let held = then_ok (condition word lower op upper s) _ s' h in
      branch-Law held.0.0 acts other law law' held.0.1 s' (condition-Well word lower op upper s held.0 a held.1) held.2

  -- ---- statements

  module _ (X : Type 0) (f : X → Act) (Y : Type 0) (base : Y → X) (law : (t : Y) → StmtLaw (f (base t))) where
    all-Law : (body : List Y) → StmtLaw (all_acts (map f (map base body)))
    all-Law [] s s' a h = subst (λ y. Well workers y) (same_Ok s s' h) a
    all-Law (first ∷ others) s s' a h =
        let b = then_ok (f (base first) s) _ s' h in
        all-Law others b.0 s' (law first s b.0 a b.1) b.2

    layer-Law : (e : Stmt-F Y) → StmtLaw (stmt_layer (map-Stmt X Act f (map-Stmt Y X base e)))
    unfolding stmt_layer
    layer-Law (Stmt-F.Constant word name e) s s' a h =
        let b = then_ok (stepped word s) _ s' h in
        let c = then_ok (is_free name b.0) _ s' b.2 in
        let z = then_ok (constant_of e (constants_of b.0)) _ s' c.2 in
        subst (λ y. Well workers y) (same_Ok (bound name (named.Constant z.0) b.0) s' z.2) (Well-bound workers b.0 name (named.Constant z.0) (Well-stepped word s b.0 a b.1) tt)
    layer-Law (Stmt-F.Input word party name ty size) s s' a h =
        let b = then_ok (stepped word s) _ s' h in
        let c = then_ok (is_free name b.0) _ s' b.2 in
        let w = then_ok (width_at ty) _ s' c.2 in
        input_of-Well workers size word party name w.0 b.0 s' (Well-stepped word s b.0 a b.1) (IsWidth-at ty w.0 w.1) w.2
    layer-Law (Stmt-F.Let word name e) s s' a h =
        let b = then_ok (stepped word s) _ s' h in
        let c = then_ok (is_free name b.0) _ s' b.2 in
        let v = then_ok (variable_of e word b.0) _ s' c.2 in
        let a1 = Well-stepped word s b.0 a b.1 in
        let made = variable_of-Law workers e word b.0 v.0.1 v.0.0 a1 v.1 in
        subst (λ y. Well workers y) (same_Ok (bound name (named_scalar b.0.worker v.0.0) v.0.1) s' v.2) (bound_variable workers b.0 v.0.1 name v.0.0 a1 made)
    layer-Law (Stmt-F.Array word name ty size eq e) s s' a h =
        let b = then_ok (stepped word s) _ s' h in
        let c = then_ok (is_free name b.0) _ s' b.2 in
        let w = then_ok (width_at ty) _ s' c.2 in
        let n = then_ok (length_at size b.0) _ s' w.2 in
        let v = then_ok (variable_of e word b.0) _ s' n.2 in
        let same = then_ok (is_as_wide eq w.0 v.0.0.width) _ s' v.2 in
        let after = then_ok (stepped_by n.0 word v.0.1) _ s' same.2 in
        let a1 = Well-stepped word s b.0 a b.1 in
        let made = variable_of-Law workers e word b.0 v.0.1 v.0.0 a1 v.1 in
        let there = variable_before workers b.0 v.0.1 v.0.0 made in
        let width = sym (same_width eq w.0 v.0.0.width same.0 same.1) in
        let items = AreItems-replicate v.0.1.program b.0.worker v.0.0.width n.0 v.0.0.index there.defines in
        let last = After-stepped workers n.0 word v.0.1 after.0 made.after.well after.1 in
        let array = named_array b.0.worker w.0 (replicate n.0 v.0.0.index) in
        let is : IsNamed workers v.0.1.program array = subst (λ k. IsNamed workers v.0.1.program (named_array b.0.worker k (replicate n.0 v.0.0.index))) width (a1.within, there.width, items) in
        let is' = IsNamed-Keeps workers v.0.1.program after.0.program array last.kept is in
        subst (λ y. Well workers y) (same_Ok (bound name array after.0) s' after.2) (Well-bound workers after.0 name array last.well is')
    layer-Law (Stmt-F.Assign place eq e) s s' a h =
        let b = then_ok (stepped place.name s) _ s' h in
        let held = then_ok (own_place place b.0) _ s' b.2 in
        let v = then_ok (variable_of e place.name b.0) _ s' held.2 in
        let is = own_place-is b.0 place held.0 held.1 in
        let w = then_ok (is_as_wide eq held.0.variable.width v.0.0.width) _ s' v.2 in
        let a1 = Well-stepped place.name s b.0 a b.1 in
        let made = variable_of-Law workers e place.name b.0 v.0.1 v.0.0 a1 v.1 in
        subst (λ y. Well workers y) (same_Ok (assigned place.name held.0.position v.0.0.index v.0.1) s' w.2)
        (assigned-Well workers place.name place.index held.0 v.0.0 b.0 v.0.1 a1 made is.0 is.1 (same_width eq held.0.variable.width v.0.0.width w.0 w.1))
    layer-Law (Stmt-F.Move word name place) s s' a h =
        let b = then_ok (stepped word s) _ s' h in
        let c = then_ok (is_free name b.0) _ s' b.2 in
        let held = then_ok (place_of place b.0) _ s' c.2 in
        let a1 = Well-stepped word s b.0 a b.1 in
        moved-Well workers word name held.0 b.0 s' a1 (place_of-Held workers b.0 place held.0 a1 held.1) held.2
    layer-Law (Stmt-F.On word worker body) s s' a h =
        let b = then_ok (stepped word s) _ s' h in
        let z = then_ok (constant_of worker (constants_of b.0)) _ s' b.2 in
        let w = then_ok (or_fault wrong.BadWorker (first_token worker) (number_below b.0.workers z.0)) _ s' z.2 in
        let after = then_ok (all_acts (map f (map base body)) (record b.0 { worker = w.0 })) _ s' w.2 in
        let a1 = Well-stepped word s b.0 a b.1 in
        let chosen = (number_below-is b.0.workers z.0 w.0 (or_fault_ok _ (first_token worker) (number_below b.0.workers z.0) w.0 w.1)).1 in
        let there = Well-on b.0 w.0 (subst (λ k. w.0 < k) a1.count chosen) a1 in
        let done = all-Law body (record b.0 { worker = w.0 }) after.0 there after.1 in
        subst (λ y. Well workers y) (same_Ok (record after.0 { worker = b.0.worker }) s' after.2) (Well-on after.0 b.0.worker a1.within done)
    layer-Law (Stmt-F.For word name from to body) s s' a h =
        let b = then_ok (stepped word s) _ s' h in
        let c = then_ok (is_free name b.0) _ s' b.2 in
        let first = then_ok (constant_of from (constants_of b.0)) _ s' c.2 in
        let end = then_ok (constant_of to (constants_of b.0)) _ s' first.2 in
        turns-Law (all_acts (map f (map base body))) (all-Law body) (distance first.0 end.0) first.0 word name b.0 s' (Well-stepped word s b.0 a b.1) end.2
    layer-Law (Stmt-F.If word lower op upper body None) s s' a h = if-Law word lower op upper (map f (map base body)) None (all-Law body) tt s s' a h
    layer-Law (Stmt-F.If word lower op upper body (Some other)) s s' a h =
        if-Law word lower op upper (map f (map base body)) (Some (map f (map base other))) (all-Law body) (all-Law other) s s' a h
    layer-Law (Stmt-F.Output word e) s s' a h =
        let b = then_ok (stepped word s) _ s' h in
        let v = then_ok (variable_of e word b.0) _ s' b.2 in
        let a1 = Well-stepped word s b.0 a b.1 in
        let made = variable_of-Law workers e word b.0 v.0.1 v.0.0 a1 v.1 in
        let there = variable_before workers b.0 v.0.1 v.0.0 made in
        let output = instr_of op.Output v.0.0.width (v.0.0.index ∷ 0 ∷ 0 ∷ []) 0 in
        (After-emitted workers word b.0.worker output v.0.1 s' made.after.well refl a1.within (follows_output (own_instrs v.0.1.program b.0.worker) v.0.0 there.width there.defines) v.2).well

  roll-Law : (Y : Type 0) (base : Y → Stmt) (law : (t : Y) → StmtLaw (executed (base t))) (e : Stmt-F Y) → StmtLaw (executed (roll-Stmt (map-Stmt Y Stmt base e)))
  unfolding executed
  roll-Law Y base law e =
      let z = map-Stmt Y Stmt base e in
      subst (λ (x : Act). StmtLaw x) (sym (fold-roll-Stmt Act stmt_layer z)) (layer-Law Stmt executed Y base law e)

  -- the law of statements
  pub executed-Law : (statement : Stmt) → StmtLaw (executed statement)
  executed-Law = ind-Stmt (λ e. StmtLaw (executed e)) (λ x y is.
      subst (λ (z : Stmt-F Stmt). StmtLaw (executed (roll-Stmt z))) is (roll-Law _ (λ e. e.0) (λ e. e.1) y))

  pub all_executed-Law : (body : List Stmt) → StmtLaw (all_acts (map executed body))
  all_executed-Law [] s s' a h = subst (λ y. Well workers y) (same_Ok s s' h) a
  all_executed-Law (first ∷ others) s s' a h =
      let b = then_ok (executed first s) _ s' h in
      all_executed-Law others b.0 s' (executed-Law first s b.0 a b.1) b.2
