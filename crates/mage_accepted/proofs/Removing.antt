-- What is left of linked instructions, once a worker has done its first one, or two workers a transfer: they are linked too.
use Rattle.std.proofs.Common.{◌≡◌, ◌≢◌, ℕ, true, false, List, [], ◌∷◌, eqb, sym, ap, ◌∙◌, ⊎_elim, true≢false, map}
use Rattle.std.specs.List.{filter}
use Rattle.std.proofs.lemmas.Bool.{cases_eq, cond-true, eq-eqb}
use Rattle.mage_instr.specs.declared.instr.Instr.{Instr}
use Rattle.mage_instr.specs.declared.op.Op.{Op}
use Rattle.mage_instr.specs.declared.op.Op.TheVariants as op
use Rattle.mage_linked.specs.declared.emitted.Emitted.{Emitted}
use Rattle.mage_linked.specs.Emission.{own_instrs}
use Rattle.mage_linked.specs.Transfers.{is_send}
use Rattle.mage_linked.specs.Linked.{is_transfer, AreLinked, nothing, alone, transfer}
use Rattle.mage_linked.proofs.EmissionLemmas.{own_instrs-other}

no_instr_first : (i : Instr) (rest : List Instr) → ◌≡◌ {A = List Instr} [] (i ∷ rest) → ⊥
no_instr_first i rest h = cc

pub first_same : (i j : Instr) (is js : List Instr) → i ∷ is ≡ j ∷ js → i ≡ j
first_same i j is js h = cc

pub rest_same : (i j : Instr) (is js : List Instr) → i ∷ is ≡ j ∷ js → is ≡ js
rest_same i j is js h = cc

-- the first instruction of a worker
pub own_first : (e : Emitted) (es : List Emitted) (w : ℕ) → e.worker ≡ w → own_instrs (e ∷ es) w ≡ e.instr ∷ own_instrs es w
own_first e es w same =
    ap (λ (l : List Emitted). map (λ (x : Emitted). x.instr) l)
    (cond-true (eqb e.worker w) (e ∷ filter (λ x. eqb x.worker w) es) (filter (λ x. eqb x.worker w) es) (eq-eqb e.worker w same))

-- one more in front
own_more : (e : Emitted) (xs ys : List Emitted) (w : ℕ) → own_instrs xs w ≡ own_instrs ys w
    → own_instrs (e ∷ xs) w ≡ own_instrs (e ∷ ys) w
own_more e xs ys w h = ⊎_elim
    (λ same. own_first e xs w same ∙ ap (λ l. e.instr ∷ l) h ∙ sym (own_first e ys w same))
    (λ other. own_instrs-other e xs w other ∙ h ∙ sym (own_instrs-other e ys w other))
    (cases_eq e.worker w)

send_links : (o : Op) → o ≡ op.Send → is_transfer o ≡ true
send_links o e = ap is_transfer e

recv_links : (o : Op) → o ≡ op.Recv → is_transfer o ≡ true
recv_links o e = ap is_transfer e

send_no_recv : (o : Op) → o ≡ op.Send → o ≡ op.Recv → ⊥
send_no_recv o e f = true≢false (ap is_send (sym e ∙ f))

-- a worker has done its first instruction, and the others none
pub record OneDone (count : ℕ) (es : List Emitted) (w : ℕ) (rest : List Instr) : Type 0 where
  pub left : List Emitted
  pub linked : AreLinked count left
  pub own : own_instrs left w ≡ rest
  pub others : (m : ℕ) → m ≢ w → own_instrs left m ≡ own_instrs es m

pub one_done : (count : ℕ) (es : List Emitted) → AreLinked count es → (w : ℕ) (i : Instr) (rest : List Instr)
    → own_instrs es w ≡ i ∷ rest → is_transfer i.op ≡ false → OneDone count es w rest
one_done count [] nothing w i rest h none = absurd (no_instr_first i rest h)
one_done count (e ∷ es) (alone is below linked) w i rest h none = ⊎_elim here (there (λ own. one_done count es linked w i rest own none)) (cases_eq e.worker w) where
  here : e.worker ≡ w → OneDone count (e ∷ es) w rest
  here same = record {
    left = es;
    linked = linked;
    own = rest_same e.instr i (own_instrs es w) rest (sym (own_first e es w same) ∙ h);
    others = λ m other. sym (own_instrs-other e es m (λ f. other (sym f ∙ same)));
  }

  there : (own_instrs es w ≡ i ∷ rest → OneDone count es w rest) → (e.worker ≡ w → ⊥) → OneDone count (e ∷ es) w rest
  there later other =
      let d = later (sym (own_instrs-other e es w other) ∙ h) in
      record {
        left = e ∷ d.left;
        linked = alone is below d.linked;
        own = own_instrs-other e d.left w other ∙ d.own;
        others = λ m ne. own_more e d.left es m (d.others m ne);
      }
one_done count (send ∷ recv ∷ es) (transfer is linked) w i rest h none =
    let d = one_done count es linked w i rest (sym (own_instrs-other recv es w not_recv) ∙ after_send) none in
    record {
      left = send ∷ recv ∷ d.left;
      linked = transfer is d.linked;
      own = own_instrs-other send (recv ∷ d.left) w not_send ∙ own_instrs-other recv d.left w not_recv ∙ d.own;
      others = λ m ne. own_more send (recv ∷ d.left) (recv ∷ es) m (own_more recv d.left es m (d.others m ne));
    }
  where
    not_send : send.worker ≡ w → ⊥
    not_send same =
        let first = first_same send.instr i (own_instrs (recv ∷ es) w) rest (sym (own_first send (recv ∷ es) w same) ∙ h) in
        true≢false (sym (send_links send.instr.op is.sends) ∙ ap (λ (x : Instr). is_transfer x.op) first ∙ none)

    after_send : own_instrs (recv ∷ es) w ≡ i ∷ rest
    after_send = sym (own_instrs-other send (recv ∷ es) w not_send) ∙ h

    not_recv : recv.worker ≡ w → ⊥
    not_recv same =
        let first = first_same recv.instr i (own_instrs es w) rest (sym (own_first recv es w same) ∙ after_send) in
        true≢false (sym (recv_links recv.instr.op is.receives) ∙ ap (λ (x : Instr). is_transfer x.op) first ∙ none)

-- two workers have each done their first instruction, which are a Send and its Recv, in one width
pub record PairDone (count : ℕ) (es : List Emitted) (source target : ℕ) (sent received : List Instr) (a b : Instr) : Type 0 where
  pub left : List Emitted
  pub linked : AreLinked count left
  pub from : own_instrs left source ≡ sent
  pub to : own_instrs left target ≡ received
  pub others : (m : ℕ) → m ≢ source → m ≢ target → own_instrs left m ≡ own_instrs es m
  pub width : a.width ≡ b.width

-- a Send to the target is the next instruction of the source, and a Recv from the source that of the target
pub record AreNext (es : List Emitted) (source target : ℕ) (sent received : List Instr) (a b : Instr) : Type 0 where
  pub from : own_instrs es source ≡ a ∷ sent
  pub to : own_instrs es target ≡ b ∷ received
  pub sends : a.op ≡ op.Send
  pub receives : b.op ≡ op.Recv
  pub to_target : a.imm ≡ target
  pub from_source : b.imm ≡ source

pub pair_done : (count : ℕ) (es : List Emitted) → AreLinked count es
    → (source target : ℕ) (sent received : List Instr) (a b : Instr)
    → AreNext es source target sent received a b → PairDone count es source target sent received a b
pair_done count [] nothing source target sent received a b n = absurd (no_instr_first a sent n.from)
pair_done count (e ∷ es) (alone is below linked) source target sent received a b n =
    let d = pair_done count es linked source target sent received a b (record {
      from = sym (own_instrs-other e es source not_source) ∙ n.from;
      to = sym (own_instrs-other e es target not_target) ∙ n.to;
      sends = n.sends;
      receives = n.receives;
      to_target = n.to_target;
      from_source = n.from_source;
    }) in
    record {
      left = e ∷ d.left;
      linked = alone is below d.linked;
      from = own_instrs-other e d.left source not_source ∙ d.from;
      to = own_instrs-other e d.left target not_target ∙ d.to;
      others = λ m ns nt. own_more e d.left es m (d.others m ns nt);
      width = d.width;
    }
  where
    not_source : e.worker ≡ source → ⊥
    not_source same =
        let first = first_same e.instr a (own_instrs es source) sent (sym (own_first e es source same) ∙ n.from) in
        true≢false (sym (send_links a.op n.sends) ∙ ap (λ (x : Instr). is_transfer x.op) (sym first) ∙ is)

    not_target : e.worker ≡ target → ⊥
    not_target same =
        let first = first_same e.instr b (own_instrs es target) received (sym (own_first e es target same) ∙ n.to) in
        true≢false (sym (recv_links b.op n.receives) ∙ ap (λ (x : Instr). is_transfer x.op) (sym first) ∙ is)
pair_done count (send ∷ recv ∷ es) (transfer is linked) source target sent received a b n =
    ⊎_elim here (there (pair_done count es linked source target sent received a b)) (cases_eq send.worker source) where
      -- this is the pair
      here : send.worker ≡ source → PairDone count (send ∷ recv ∷ es) source target sent received a b
      here same =
          let whole = sym (own_first send (recv ∷ es) source same) ∙ n.from in
          let first = first_same send.instr a (own_instrs (recv ∷ es) source) sent whole in
          let at_target : recv.worker ≡ target = sym is.to ∙ ap (λ (x : Instr). x.imm) first ∙ n.to_target in
          let not_recv : recv.worker ≡ source → ⊥ = λ e. is.apart (same ∙ sym e) in
          let not_send : send.worker ≡ target → ⊥ = λ e. is.apart (e ∙ sym at_target) in
          let other = sym (own_first recv es target at_target) ∙ sym (own_instrs-other send (recv ∷ es) target not_send) ∙ n.to in
          let second = first_same recv.instr b (own_instrs es target) received other in
          record {
            left = es;
            linked = linked;
            from = sym (own_instrs-other recv es source not_recv) ∙ rest_same send.instr a (own_instrs (recv ∷ es) source) sent whole;
            to = rest_same recv.instr b (own_instrs es target) received other;
            others = λ m ns nt. sym (own_instrs-other send (recv ∷ es) m (λ e. ns (sym e ∙ same)) ∙ own_instrs-other recv es m (λ e. nt (sym e ∙ at_target)));
            width = ap (λ (x : Instr). x.width) (sym first) ∙ is.same_width ∙ ap (λ (x : Instr). x.width) second;
          }

      -- the pair comes later
      there : (AreNext es source target sent received a b → PairDone count es source target sent received a b)
          → (send.worker ≡ source → ⊥)
          → PairDone count (send ∷ recv ∷ es) source target sent received a b
      there later other =
          let from_rest : own_instrs (recv ∷ es) source ≡ a ∷ sent = sym (own_instrs-other send (recv ∷ es) source other) ∙ n.from in
          let not_recv : recv.worker ≡ source → ⊥ = λ e.
          send_no_recv a.op n.sends (ap (λ (x : Instr). x.op) (sym (first_same recv.instr a (own_instrs es source) sent (sym (own_first recv es source e) ∙ from_rest))) ∙ is.receives) in
          let not_send : send.worker ≡ target → ⊥ = λ e.
          send_no_recv b.op (ap (λ (x : Instr). x.op) (sym (first_same send.instr b (own_instrs (recv ∷ es) target) received (sym (own_first send (recv ∷ es) target e) ∙ n.to))) ∙ is.sends) n.receives in
          let to_rest : own_instrs (recv ∷ es) target ≡ b ∷ received = sym (own_instrs-other send (recv ∷ es) target not_send) ∙ n.to in
          let not_target : recv.worker ≡ target → ⊥ = λ e.
          other (sym is.from ∙ ap (λ (x : Instr). x.imm) (first_same recv.instr b (own_instrs es target) received (sym (own_first recv es target e) ∙ to_rest)) ∙ n.from_source) in
          let d = later (record {
            from = sym (own_instrs-other recv es source not_recv) ∙ from_rest;
            to = sym (own_instrs-other recv es target not_target) ∙ to_rest;
            sends = n.sends;
            receives = n.receives;
            to_target = n.to_target;
            from_source = n.from_source;
          }) in
          record {
            left = send ∷ recv ∷ d.left;
            linked = transfer is d.linked;
            from = own_instrs-other send (recv ∷ d.left) source other ∙ own_instrs-other recv d.left source not_recv ∙ d.from;
            to = own_instrs-other send (recv ∷ d.left) target not_send ∙ own_instrs-other recv d.left target not_target ∙ d.to;
            others = λ m ns nt. own_more send (recv ∷ d.left) (recv ∷ es) m (own_more recv d.left es m (d.others m ns nt));
            width = d.width;
          }
