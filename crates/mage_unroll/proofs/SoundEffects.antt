-- What statements emit and bind: inputs, moves, and places that are bound anew.
use Rattle.std.proofs.Common.{◌≡◌, ◌<◌, ◌≤◌, ◌+◌, length, ℕ, zero, suc, Bool, true, false, cond, eqb, List, [], ◌∷◌, ◌++◌, Option, Some, None, Ok, set, refl, sym, ap, ◌∙◌, subst, ⊎_elim, arith}
use Rattle.std.specs.Prelude.{slice_index, codes}
use Rattle.std.specs.Str.{bytes_eq}
use Rattle.std.proofs.lemmas.Bool.{eqb-true, eq-eqb, cases_Bool, cond-true, cond-false}
use Rattle.std.proofs.lemmas.List.{length_push}
use Rattle.mage_instr.specs.declared.instr.Instr.{Instr}
use Rattle.mage_instr.specs.declared.op.Op.TheVariants as op
use Rattle.mage_instr.specs.Opcodes.{most_workers, width_of_arg}
use Rattle.mage_lex.specs.declared.token.Token.{Token}
use Rattle.mage_scopes.specs.Scopes.{Meaning, found, replaced}
use Rattle.mage_tree.specs.Words.{bytes_of}
use Rattle.mage_tree.specs.declared.tree.ConstExpr.{ConstExpr}
use Rattle.mage_unroll.specs.declared.state.Array.{Array}
use Rattle.mage_linked.specs.declared.emitted.Emitted.{Emitted}
use Rattle.mage_unroll.specs.declared.state.Held.{Held}
use Rattle.mage_unroll.specs.declared.state.Named.{Named}
use Rattle.mage_unroll.specs.declared.state.Named.TheVariants as named
use Rattle.mage_unroll.specs.declared.state.Scalar.{Scalar}
use Rattle.mage_unroll.specs.declared.state.Variable.{Variable}
use Rattle.mage_unroll.specs.Limits.{MOST_INSTRS}
use Rattle.mage_unroll.specs.State.{State, held_scalar, place_with, instr_of, stepped, emitted, defined, as_scalar, as_array, bound, rebound_name, assigned}
use Rattle.mage_unroll.specs.Statements.{length_at, named_scalar, named_array, party_of, inputs, input_of, transferred, moved}
use Rattle.mage_linked.specs.Emission.{own_instrs}
use Rattle.mage_linked.specs.Linked.{IsTransfer}
use Rattle.mage_unroll.proofs.SoundLists.{DefinesAt, CanFollow}
use Rattle.mage_unroll.proofs.SoundNames.{replaced-Means}
use Rattle.mage_unroll.proofs.SoundExpressions.{args_none, args_one}
use Rattle.mage_unroll.proofs.SoundPlaces.{AreItems-set, scalar-found, array-found, array-Named, IsHeld, item-is}
use Rattle.mage_chains.proofs.Ends.{then_ok, same_Ok}
use Rattle.mage_constants.proofs.Trees.{or_fault_ok}
use Rattle.mage_unroll.proofs.SoundStates.{IsWidth, IsVariable, AreItems, IsNamed, Well, After, Makes, AreItems-Keeps, After-transfer, IsVariable-new, after_emission, new_variable, emitted_is, defined_is, Makes-defined, After-nothing, After-stepped, then_After, variable_before, Well-bound, Well-scopes}

true_not_false : ◌≡◌ {A = Bool} true false → ⊥
true_not_false h = cc

-- ---- instructions that can follow

pub follows_output : (xs : List Instr) (v : Variable) → IsWidth v.width → DefinesAt xs v.index v.width → CanFollow xs (instr_of op.Output v.width (v.index ∷ 0 ∷ 0 ∷ []) 0)
follows_output xs v w h =
    record { width_ok = (w.0, w.1, refl); args = args_one (λ k. DefinesAt xs (slice_index (v.index ∷ 0 ∷ 0 ∷ []) k) (width_of_arg op.Output v.width 0 k)) h }

follows_send : (xs : List Instr) (v : Variable) (to : ℕ) → to < most_workers → IsWidth v.width → DefinesAt xs v.index v.width → CanFollow xs (instr_of op.Send v.width (v.index ∷ 0 ∷ 0 ∷ []) to)
follows_send xs v to few w h =
    record { width_ok = (w.0, w.1, few); args = args_one (λ k. DefinesAt xs (slice_index (v.index ∷ 0 ∷ 0 ∷ []) k) (width_of_arg op.Send v.width to k)) h }

follows_recv : (xs : List Instr) (width from : ℕ) → from < most_workers → IsWidth width → CanFollow xs (instr_of op.Recv width (0 ∷ 0 ∷ 0 ∷ []) from)
follows_recv xs width from few w =
    record { width_ok = (w.0, w.1, few); args = args_none (λ k. DefinesAt xs (slice_index (0 ∷ 0 ∷ 0 ∷ []) k) (width_of_arg op.Recv width from k)) }

party_small : (test : Bool) → cond test 1 0 ≤ 1
party_small true = omega arith
party_small false = omega arith

follows_input : (xs : List Instr) (width : ℕ) (party : Token) → IsWidth width → CanFollow xs (instr_of op.Input width (0 ∷ 0 ∷ 0 ∷ []) (party_of party))
follows_input xs width party w =
    record {
      width_ok = (w.0, w.1, party_small (bytes_eq (bytes_of party) (codes "evaluator")));
      args = args_none (λ k. DefinesAt xs (slice_index (0 ∷ 0 ∷ 0 ∷ []) k) (width_of_arg op.Input width (party_of party) k));
    }

-- ---- inputs

AreItems-push : (program : List Emitted) (worker width : ℕ) (items : List ℕ) (i : ℕ) → AreItems program worker width items → DefinesAt (own_instrs program worker) i width → AreItems program worker width (items ++ i ∷ [])
AreItems-push program worker width [] i h d = (d, tt)
AreItems-push program worker width (x ∷ xs) i h d = (h.0, AreItems-push program worker width xs i h.1 d)

module _ (workers : ℕ) where
  -- an input, of the width that is asked for
  input-Makes : (word party : Token) (width : ℕ) (s s' : State) (v : Variable) → Well workers s → IsWidth width → defined word (instr_of op.Input width (0 ∷ 0 ∷ 0 ∷ []) (party_of party)) s ≡ Ok (v, s') → Makes workers s s' v × (v.width ≡ width)
  input-Makes word party width s s' v a w h =
      let i = instr_of op.Input width (0 ∷ 0 ∷ 0 ∷ []) (party_of party) in
      let b = then_ok (emitted word s.worker i s) _ (v, s') h in
      (Makes-defined workers word i s s' v a refl (follows_input (own_instrs s.program s.worker) width party w) refl h, sym (ap (λ (p : Variable × State). p.0.width) (same_Ok _ (v, s') b.2)))

  inputs-After : (n : ℕ) (word party : Token) (width : ℕ) (items items' : List ℕ) (s s' : State) → Well workers s → IsWidth width → AreItems s.program s.worker width items → inputs n word party width items s ≡ Ok (items', s') → After workers s s' × AreItems s'.program s.worker width items'
  inputs-After zero word party width items items' s s' a w h e =
      subst (λ (p : List ℕ × State). After workers s p.1 × AreItems p.1.program s.worker width p.0) (same_Ok (items, s) (items', s') e) (After-nothing workers s a, h)
  inputs-After (suc n) word party width items items' s s' a w h e =
      let b = then_ok (stepped word s) _ (items', s') e in
      let c = then_ok (defined word (instr_of op.Input width (0 ∷ 0 ∷ 0 ∷ []) (party_of party)) b.0) _ (items', s') b.2 in
      let step = After-stepped workers 1 word s b.0 a b.1 in
      let one = input-Makes word party width b.0 c.0.1 c.0.0 step.well w c.1 in
      let so_far = then_After workers s b.0 c.0.1 step one.0.after in
      let before = AreItems-Keeps s.program c.0.1.program s.worker width items so_far.kept h in
      let new = subst (λ x. DefinesAt (own_instrs c.0.1.program s.worker) c.0.0.index x) one.1 (subst (λ x. DefinesAt (own_instrs c.0.1.program x) c.0.0.index c.0.0.width) so_far.same_worker one.0.variable.defines) in
      let more = items ++ c.0.0.index ∷ [] in
      let now = AreItems-push c.0.1.program s.worker width items c.0.0.index before new in
      let there = subst (λ x. AreItems c.0.1.program x width more) (sym so_far.same_worker) now in
      let rest = inputs-After n word party width more items' c.0.1 s' so_far.well w there c.2 in
      (then_After workers s c.0.1 s' so_far rest.0, subst (λ x. AreItems s'.program x width items') so_far.same_worker rest.1)

  -- what is held by the worker of an earlier state may be bound
  pub bound_variable : (s s' : State) (name : Token) (v : Variable) → Well workers s → Makes workers s s' v → Well workers (bound name (named_scalar s.worker v) s')
  bound_variable s s' name v a made =
      Well-bound workers s' name (named_scalar s.worker v) made.after.well (a.within, variable_before workers s s' v made)

  pub input_of-Well : (size : Option (Token × ConstExpr)) (word party name : Token) (width : ℕ) (s s' : State) → Well workers s → IsWidth width → input_of size word party name width s ≡ Ok s' → Well workers s'
  unfolding input_of
  input_of-Well None word party name width s s' a w h =
      let b = then_ok (defined word (instr_of op.Input width (0 ∷ 0 ∷ 0 ∷ []) (party_of party)) s) _ s' h in
      let one = input-Makes word party width s b.0.1 b.0.0 a w b.1 in
      subst (λ y. Well workers y) (same_Ok (bound name (named_scalar s.worker b.0.0) b.0.1) s' b.2) (bound_variable s b.0.1 name b.0.0 a one.0)
  input_of-Well (Some size) word party name width s s' a w h =
      let n = then_ok (length_at size s) _ s' h in
      let items = then_ok (inputs n.0 word party width [] s) _ s' n.2 in
      let both = inputs-After n.0 word party width [] items.0.0 s items.0.1 a w tt items.1 in
      let array = named_array s.worker width items.0.0 in
      subst (λ y. Well workers y) (same_Ok (bound name array items.0.1) s' items.2) (Well-bound workers items.0.1 name array both.0.well (a.within, w, both.1))

  -- ---- moves

  transferred-Makes : (word : Token) (held : Held) (s s' : State) (v : Variable) → Well workers s → IsHeld workers s.program held → (held.worker ≡ s.worker → ⊥) → transferred word held s ≡ Ok (v, s') → Makes workers s s' v
  unfolding transferred
  transferred-Makes word held s s' v a h apart e =
      let x = held.variable in
      let w = held.worker in
      let send = instr_of op.Send x.width (x.index ∷ 0 ∷ 0 ∷ []) s.worker in
      let recv = instr_of op.Recv x.width (0 ∷ 0 ∷ 0 ∷ []) w in
      let sent : Emitted = record { worker = w; instr = send } in
      let received : Emitted = record { worker = s.worker; instr = recv } in
      let b = then_ok (emitted word w send s) _ (v, s') e in
      let is = emitted_is word w send s b.0 b.1 in
      let last = defined_is word recv (after_emission w send s) s' v (subst (λ y. defined word recv y ≡ Ok (v, s')) (sym is.1) b.2) in
      let to : s.worker < most_workers = omega (arith, a.within, a.few) in
      let from : w < most_workers = omega (arith, h.0, a.few) in
      let can_send = follows_send (own_instrs s.program w) x s.worker to h.1.width h.1.defines in
      let p1 = s.program ++ sent ∷ [] in
      let can_receive = follows_recv (own_instrs p1 s.worker) x.width w from h.1.width in
      let pair : IsTransfer workers sent received = record { sends = refl; receives = refl; to = refl; from = refl; apart = apart; sender = h.0; receiver = a.within; same_width = refl } in
      let room : length s.program + 1 < MOST_INSTRS = omega (arith, length_push s.program sent, last.0) in
      let made : Makes workers s (after_emission s.worker recv (after_emission w send s)) (new_variable s.worker recv p1) = record {
        after = After-transfer workers sent received s a room pair can_send can_receive;
        variable = IsVariable-new p1 s.worker recv can_receive refl;
      } in
      subst (λ y. Makes workers s s' y) last.2 (subst (λ y. Makes workers s y (new_variable s.worker recv p1)) last.1 made)

  pub moved-Well : (word name : Token) (held : Held) (s s' : State) → Well workers s → IsHeld workers s.program held → moved word name held s ≡ Ok s' → Well workers s'
  unfolding moved
  moved-Well word name held s s' a h e = ⊎_elim here there (cases_Bool (eqb held.worker s.worker))
    where
      here : eqb held.worker s.worker ≡ true → Well workers s'
      here t =
          let same = same_Ok (bound name (named_scalar s.worker held.variable) s) s' (sym (cond-true (eqb held.worker s.worker) _ _ t) ∙ e) in
          let variable = subst (λ w. IsVariable s.program w held.variable) (eqb-true held.worker s.worker t) h.1 in
          subst (λ y. Well workers y) same (Well-bound workers s name (named_scalar s.worker held.variable) a (a.within, variable))

      differs : held.worker ≡ s.worker → eqb held.worker s.worker ≡ false → ⊥
      differs same t = true_not_false (sym (eq-eqb held.worker s.worker same) ∙ t)

      there : eqb held.worker s.worker ≡ false → Well workers s'
      there t =
          let c = then_ok (transferred word held s) _ s' (sym (cond-false (eqb held.worker s.worker) _ _ t) ∙ e) in
          subst (λ y. Well workers y) (same_Ok (bound name (named_scalar s.worker c.0.0) c.0.1) s' c.2) (bound_variable s c.0.1 name c.0.0 a (transferred-Makes word held s c.0.1 c.0.0 a h (λ same. differs same t) c.1))

  -- ---- places that are bound anew

  replaced_by : (s : State) (name : Token) (x : Named) → Well workers s → IsNamed workers s.program x → Well workers (record s { scopes = replaced s.scopes (bytes_of name) x })
  replaced_by s name x a h = Well-scopes workers s _ a (replaced-Means Named (IsNamed workers s.program) s.scopes (bytes_of name) x h a.names)

  -- the name of a scalar
  scalar-Well : (name : Token) (scalar : Scalar) (v : Variable) (s s' : State) → Well workers s → Makes workers s s' v → as_scalar (found s.scopes (bytes_of name)) ≡ Some scalar → scalar.worker ≡ s.worker → scalar.variable.width ≡ v.width → Well workers (assigned name None v.index s')
  scalar-Well name scalar v s s' a made h worker width =
      let n = bytes_of name in
      let there = ap (λ (l : List (Meaning Named)). found l n) made.after.same_scopes ∙ scalar-found (found s.scopes n) scalar h in
      let now : Variable = record { width = scalar.variable.width; index = v.index } in
      let before = variable_before workers s s' v made in
      let defines = subst (λ w. DefinesAt (own_instrs s'.program w) v.index scalar.variable.width) (sym worker) (subst (λ w. DefinesAt (own_instrs s'.program s.worker) v.index w) (sym width) before.defines) in
      let variable : IsVariable s'.program scalar.worker now = record { width = subst IsWidth (sym width) before.width; defines = defines } in
      let below = subst (λ w. w < workers) (sym worker) a.within in
      subst (λ o. Well workers (rebound_name o name None v.index s')) (sym there) (replaced_by s' name (named.Scalar (record scalar { variable = now })) made.after.well (below, variable))

  -- an item of an array
  item-Well : (name : Token) (array : Array) (p : ℕ) (v : Variable) (s s' : State) → Well workers s → Makes workers s s' v → as_array (found s.scopes (bytes_of name)) ≡ Some array → array.worker ≡ s.worker → array.width ≡ v.width → Well workers (assigned name (Some p) v.index s')
  item-Well name array p v s s' a made h worker width =
      let n = bytes_of name in
      let there = ap (λ (l : List (Meaning Named)). found l n) made.after.same_scopes ∙ array-found (found s.scopes n) array h in
      let is = array-Named workers s name array a h in
      let items = AreItems-Keeps s.program s'.program array.worker array.width array.items made.after.kept is.2 in
      let before = variable_before workers s s' v made in
      let defines = subst (λ w. DefinesAt (own_instrs s'.program w) v.index array.width) (sym worker) (subst (λ w. DefinesAt (own_instrs s'.program s.worker) v.index w) (sym width) before.defines) in
      let anew = AreItems-set s'.program array.worker array.width array.items p v.index items defines in
      subst (λ o. Well workers (rebound_name o name (Some p) v.index s')) (sym there) (replaced_by s' name (named.Array (record array { items = set array.items p v.index })) made.after.well (is.0, is.1, anew))

  pub assigned-Well : (name : Token) (index : Option (Token × ConstExpr)) (held : Held) (v : Variable) (s s' : State) → Well workers s → Makes workers s s' v → place_with name index s ≡ Ok held → held.worker ≡ s.worker → held.variable.width ≡ v.width → Well workers (assigned name held.position v.index s')
  unfolding place_with
  assigned-Well name None held v s s' a made h worker width =
      let b = then_ok _ _ held h in
      let is = same_Ok (held_scalar b.0) held b.2 in
      subst (λ o. Well workers (assigned name o v.index s')) (ap (λ (y : Held). y.position) is)
      (scalar-Well name b.0 v s s' a made (or_fault_ok _ name _ b.0 b.1) (ap (λ (y : Held). y.worker) is ∙ worker) (ap (λ (y : Held). y.variable.width) is ∙ width))
  assigned-Well name (Some index) held v s s' a made h worker width =
      let b = then_ok _ _ held h in
      let item = item-is name index.1 b.0 s held b.2 in
      subst (λ o. Well workers (assigned name o v.index s')) (ap (λ (y : Held). y.position) item.3)
      (item-Well name b.0 item.0 v s s' a made (or_fault_ok _ name _ b.0 b.1) (ap (λ (y : Held). y.worker) item.3 ∙ worker) (ap (λ (y : Held). y.variable.width) item.3 ∙ width))
