-- What is dealt over a whole program is what is dealt instruction by instruction.
use Rattle.std.proofs.Common.{◌≡◌, ℕ, zero, suc, ◌==◌, List, [], ◌∷◌, ◌++◌, Some, slice_get, Bool, true, false, cond, eqb, length, take, drop, refl, sym, ap, ap₂, subst, ◌∙◌, ⊎_elim}
use Rattle.std.specs.List.{filter}
use Rattle.std.proofs.lemmas.Bool.{cases_eq, cond-true, cond-false, eq-eqb, ne_eqb}
use Rattle.mage_instr.specs.declared.instr.Instr.{Instr}
use Rattle.mage_instr.specs.declared.instr.Program.{Program}
use Rattle.mage_instr.specs.declared.op.Op.{Op}
use Rattle.mage_instr.specs.declared.op.Op.TheVariants as op
use Rattle.mage_instr.specs.declared.party.Party.{Party}
use Rattle.mage_instr.specs.declared.party.Party.TheVariants as party
use Rattle.mage_instr.specs.Inputs.{is_input}
use Rattle.mage_label.specs.declared.labels.Label.{Label}
use Rattle.mage_linked.specs.Emission.{in_front, emission_from, emission_of, own_instrs}
use Rattle.mage_linked.specs.Transfers.{is_send, is_recv}
use Rattle.mage_linked.specs.Workers.{list_at, with_at}
use Rattle.mage_linked.specs.declared.emitted.Emitted.{Emitted}
use Rattle.mage_linked.proofs.EmissionLemmas.{own_instrs-first, own_instrs-other}
use Rattle.mage_linked.proofs.WorkerLemmas.{with_at-same, with_at-other}
use Rattle.mage_driver.specs.Calls.{Ask, And, Input, Output, Finish, Call}
use Rattle.mage_driver.specs.Operations.{circuit_of, party_of}
use Rattle.mage_relations.specs.Unplaced.{Unplaced, starting_in, made_by, after_emitted, calls_of, wires_of_arg}
use Rattle.mage_streams.specs.Garbling.{Garbler, garbling}
use Rattle.mage_streams.specs.Streams.{dealt_at, dealt_for, values_behind, dealt_labels, new_garbler}
use Rattle.mage_deal.specs.Dealing.{Dealer, labels_for, after_input, labels_by, after_op, all_labels, new_dealer, turns_of}
use Rattle.mage_deal.proofs.Quiet.{IsQuiet, AreQuiet, quiet_circuit}

-- ---- calls

-- nothing is dealt for calls that are no inputs
quiet_dealt : (p q : List (Call Garbler Label)) (values : List ℕ) → AreQuiet p → dealt_at (p ++ q) values ≡ dealt_at q values
quiet_dealt [] q values h = refl
quiet_dealt (call ∷ p) q values h = go call.ask h.0 (quiet_dealt p q values h.1) where
  go : (ask : Ask Label) → IsQuiet ask → dealt_at (p ++ q) values ≡ dealt_at q values →
      dealt_for call.state ask values ++ dealt_at (p ++ q) (values_behind ask values) ≡ dealt_at q values
  go (And a b) k rest = rest
  go (Input whose count) k rest = absurd k
  go (Output wires) k rest = rest
  go Finish k rest = rest

-- the dealer beside a garbler
abbrev pub dealer_of : Garbler → (values : List ℕ) → Dealer
dealer_of g values = record { seed = g.seed; worker = g.worker; wires = g.wires; values = values }

-- ---- one instruction

-- what is dealt for an instruction, and the dealer behind it
abbrev IsDealt : Garbler → Op → (width imm : ℕ) → (a b c : List Label) → (values : List ℕ) → List (Call Garbler Label) → Type 0
IsDealt s o width imm a b c values rest =
    (dealt_at ((circuit_of garbling o width imm a b c s).calls ++ rest) values
    ≡ labels_by (dealer_of s values) o width imm ++ dealt_at rest (after_op (dealer_of s values) o width imm).values)
    × (dealer_of (circuit_of garbling o width imm a b c s).state (after_op (dealer_of s values) o width imm).values
    ≡ after_op (dealer_of s values) o width imm)

input_dealt : (s : Garbler) (width imm : ℕ) (a b c : List Label) (values : List ℕ) (rest : List (Call Garbler Label)) →
    IsDealt s op.Input width imm a b c values rest
input_dealt s width imm a b c values rest = go (party_of imm) where
  go : (whose : Party) →
      (dealt_for s (Input whose width) values ++ dealt_at rest (values_behind (Input whose width) values)
      ≡ labels_for (dealer_of s values) whose width ++ dealt_at rest (after_input (dealer_of s values) whose width).values)
      × (dealer_of ((garbling.input s whose width).0) (after_input (dealer_of s values) whose width).values ≡ after_input (dealer_of s values) whose width)
  go party.Garbler = (refl, refl)
  go party.Evaluator = (refl, refl)

other_dealt : (s : Garbler) (o : Op) (width imm : ℕ) (a b c : List Label) (values : List ℕ) (rest : List (Call Garbler Label)) →
    is_input o ≡ false → IsDealt s o width imm a b c values rest
other_dealt s o width imm a b c values rest none =
    let quiet = quiet_circuit o none width imm a b c s in
    let calls = (circuit_of garbling o width imm a b c s).calls in
    let state = (circuit_of garbling o width imm a b c s).state in
    go (is_input o) none (quiet_dealt calls rest values quiet.0) (ap (λ (g : Garbler). dealer_of g values) quiet.1)
  where
    go : (b' : Bool) → b' ≡ false →
        dealt_at ((circuit_of garbling o width imm a b c s).calls ++ rest) values ≡ dealt_at rest values →
        dealer_of (circuit_of garbling o width imm a b c s).state values ≡ dealer_of s values →
        (dealt_at ((circuit_of garbling o width imm a b c s).calls ++ rest) values
        ≡ cond b' (labels_for (dealer_of s values) (party_of imm) width) [] ++ dealt_at rest (cond b' (after_input (dealer_of s values) (party_of imm) width) (dealer_of s values)).values)
        × (dealer_of (circuit_of garbling o width imm a b c s).state (cond b' (after_input (dealer_of s values) (party_of imm) width) (dealer_of s values)).values
        ≡ cond b' (after_input (dealer_of s values) (party_of imm) width) (dealer_of s values))
    go true e h k = cc
    go false e h k = (h, k)

instr_dealt : (s : Garbler) (o : Op) (width imm : ℕ) (a b c : List Label) (values : List ℕ) (rest : List (Call Garbler Label)) →
    IsDealt s o width imm a b c values rest
instr_dealt s op.Input width imm a b c values rest = input_dealt s width imm a b c values rest
instr_dealt s o width imm a b c values rest = other_dealt s o width imm a b c values rest refl

-- ---- the states of a run

send_no_input : (o : Op) → is_send o ≡ true → is_input o ≡ false
send_no_input op.Input e = cc
send_no_input o e = refl

recv_no_input : (o : Op) → is_recv o ≡ true → is_input o ≡ false
recv_no_input op.Input e = cc
recv_no_input o e = refl

-- what holds of the states of one of three runs
one_of : (P : (ℕ → Garbler) → Type 0) (p q : Bool) (a b c : Unplaced Garbler Label) →
    (p ≡ true → P a.states) → (q ≡ true → P b.states) → P c.states → P ((cond p a (cond q b c)).states)
one_of P true q a b c f g h = f refl
one_of P false true a b c f g h = g refl
one_of P false false a b c f g h = h

module _ (r : Unplaced Garbler Label) (e : Emitted) where
  abbrev state_behind : Garbler
  state_behind = (made_by garbling r e).state

  -- an instruction that isn't an input leaves the dealer beside the garbler
  same_dealer : (values : List ℕ) → is_input e.instr.op ≡ false → dealer_of (r.states e.worker) values ≡ dealer_of state_behind values
  same_dealer values none =
      sym (ap (λ (g : Garbler). dealer_of g values) (quiet_circuit e.instr.op none e.instr.width e.instr.imm _ _ _ (r.states e.worker)).1)

  own_state : (values : List ℕ) → dealer_of ((after_emitted garbling r e).states e.worker) values ≡ dealer_of state_behind values
  own_state values =
      one_of (λ (states : ℕ → Garbler). dealer_of (states e.worker) values ≡ dealer_of state_behind values)
      (is_send e.instr.op) (is_recv e.instr.op) _ _ _
      (λ sends. same_dealer values (send_no_input e.instr.op sends))
      (λ receives. same_dealer values (recv_no_input e.instr.op receives))
      (ap (λ (g : Garbler). dealer_of g values) (with_at-same r.states e.worker state_behind))

  other_state : (w : ℕ) → (w ≡ e.worker → ⊥) → (after_emitted garbling r e).states w ≡ r.states w
  other_state w other =
      one_of (λ (states : ℕ → Garbler). states w ≡ r.states w) (is_send e.instr.op) (is_recv e.instr.op) _ _ _
      (λ sends. refl) (λ receives. refl) (with_at-other r.states e.worker state_behind w other)

-- ---- a whole program

-- what is dealt for the instructions from here on
abbrev Deals : (w : ℕ) → Unplaced Garbler Label → List Emitted → (values : List ℕ) → Type 0
Deals w r es values =
    dealt_at (calls_of garbling w r es) values ≡ all_labels (dealer_of (r.states w) values) (own_instrs es w)

first_own : (r : Unplaced Garbler Label) (e : Emitted) (es : List Emitted) (values : List ℕ) →
    ((more : List ℕ) → Deals e.worker (after_emitted garbling r e) es more) → Deals e.worker r (e ∷ es) values
first_own r e es values rest =
    let i = e.instr in
    let later = calls_of garbling e.worker (after_emitted garbling r e) es in
    let made = made_by garbling r e in
    let d = dealer_of (r.states e.worker) values in
    let d' = after_op d i.op i.width i.imm in
    let one = instr_dealt (r.states e.worker) i.op i.width i.imm
    (wires_of_arg r e.worker i 0) (wires_of_arg r e.worker i 1) (wires_of_arg r e.worker i 2) values later in
    ap (λ (calls : List (Call Garbler Label)). dealt_at (calls ++ later) values)
    (cond-true (eqb e.worker e.worker) made.calls [] (eq-eqb e.worker e.worker refl))
    ∙ one.0
    ∙ ap (λ (labels : List Label). labels_by d i.op i.width i.imm ++ labels)
    (rest d'.values ∙ ap (λ (x : Dealer). all_labels x (own_instrs es e.worker)) (own_state r e d'.values ∙ one.1))
    ∙ sym (ap (all_labels d) (own_instrs-first e es))

first_other : (w : ℕ) (r : Unplaced Garbler Label) (e : Emitted) (es : List Emitted) (values : List ℕ) → (w ≡ e.worker → ⊥) →
    Deals w (after_emitted garbling r e) es values → Deals w r (e ∷ es) values
first_other w r e es values other rest =
    ap (λ (calls : List (Call Garbler Label)). dealt_at (calls ++ calls_of garbling w (after_emitted garbling r e) es) values)
    (cond-false (eqb w e.worker) (made_by garbling r e).calls [] (ne_eqb w e.worker other))
    ∙ rest
    ∙ ap₂ (λ (g : Garbler) (is : List Instr). all_labels (dealer_of g values) is) (other_state r e w other)
    (sym (own_instrs-other e es w (λ same. other (sym same))))

deals : (w : ℕ) (r : Unplaced Garbler Label) (es : List Emitted) (values : List ℕ) → Deals w r es values
deals w r [] values = refl
deals w r (e ∷ es) values = step (λ more. deals w (after_emitted garbling r e) es more) where
  step : ((more : List ℕ) → Deals w (after_emitted garbling r e) es more) → Deals w r (e ∷ es) values
  step rest = ⊎_elim
      (λ (same : w ≡ e.worker).
      subst (λ v. ((more : List ℕ) → Deals v (after_emitted garbling r e) es more) → Deals v r (e ∷ es) values) (sym same)
      (first_own r e es values) rest)
      (λ (other : w ≡ e.worker → ⊥). first_other w r e es values other (rest values))
      (cases_eq w e.worker)

-- the labels that are dealt are those of the worker's instructions
pub dealt_is : (program : Program) (seed : List ℕ) (garbler evaluator : ℕ → List ℕ) (worker : ℕ) →
    dealt_labels program seed garbler evaluator worker
    ≡ all_labels (new_dealer seed worker (evaluator worker)) (own_instrs (emission_of program) worker)
dealt_is program seed garbler evaluator worker =
    deals worker (starting_in (λ w. new_garbler seed w (garbler w))) (emission_of program) (evaluator worker)

pub dealt_alone : (program : Program) (seed : List ℕ) (garbler garbler' evaluator evaluator' : ℕ → List ℕ) (worker : ℕ) →
    evaluator worker ≡ evaluator' worker →
    dealt_labels program seed garbler evaluator worker ≡ dealt_labels program seed garbler' evaluator' worker
dealt_alone program seed garbler garbler' evaluator evaluator' worker same =
    dealt_is program seed garbler evaluator worker
    ∙ ap (λ (values : List ℕ). all_labels (new_dealer seed worker values) (own_instrs (emission_of program) worker)) same
    ∙ sym (dealt_is program seed garbler' evaluator' worker)

-- ---- the instructions of a worker

-- a worker's emitted instructions are the first of its own, as many as it has turns
pub own_taken : (left : ℕ → List Instr) (order : List ℕ) (w : ℕ) → own_instrs (emission_from left order) w ≡ take (turns_of w order) (left w)
own_taken left [] w = refl
own_taken left (o ∷ order) w = step (own_taken (with_at left o (drop 1 (left o))) order w) where
  others : List Emitted
  others = emission_from (with_at left o (drop 1 (left o))) order

  -- where it is this worker's turn
  mine : (is : List Instr) → own_instrs others o ≡ take (turns_of o order) (drop 1 is) →
      own_instrs (in_front o is others) o ≡ take (suc (turns_of o order)) is
  mine [] rest = rest ∙ nothing (turns_of o order) where
    nothing : (n : ℕ) → take n (let none : List Instr = [] in none) ≡ []
    nothing zero = refl
    nothing (suc n) = refl
  mine (i ∷ is) rest = own_instrs-first (record { worker = o; instr = i }) others ∙ ap (λ (xs : List Instr). i ∷ xs) rest

  theirs : (is : List Instr) → (o ≡ w → ⊥) → own_instrs (in_front o is others) w ≡ own_instrs others w
  theirs [] other = refl
  theirs (i ∷ is) other = own_instrs-other (record { worker = o; instr = i }) others w other

  counted : (b : Bool) → (o == w) ≡ b → turns_of w (o ∷ order) ≡ length (cond b (o ∷ filter (λ turn. turn == w) order) (filter (λ turn. turn == w) order))
  counted b is = ap (λ (b : Bool). length (cond b (o ∷ filter (λ turn. turn == w) order) (filter (λ turn. turn == w) order))) is

  step : own_instrs others w ≡ take (turns_of w order) (with_at left o (drop 1 (left o)) w) →
      own_instrs (in_front o (left o) others) w ≡ take (turns_of w (o ∷ order)) (left w)
  step rest = ⊎_elim
      (λ (same : o ≡ w).
      subst (λ v. own_instrs others v ≡ take (turns_of v order) (with_at left o (drop 1 (left o)) v) → turns_of v (o ∷ order) ≡ suc (turns_of v order) →
      own_instrs (in_front o (left o) others) v ≡ take (turns_of v (o ∷ order)) (left v)) same
      (λ here count. mine (left o) (here ∙ ap (take (turns_of o order)) (with_at-same left o (drop 1 (left o)))) ∙ ap (λ n. take n (left o)) (sym count))
      rest (counted true (eq-eqb o w same)))
      (λ (other : o ≡ w → ⊥).
      theirs (left o) other ∙ rest
      ∙ ap (take (turns_of w order)) (with_at-other left o (drop 1 (left o)) w (λ same. other (sym same)))
      ∙ ap (λ n. take n (left w)) (sym (counted false (ne_eqb o w other))))
      (cases_eq o w)

-- what a worker has in a list of lists
pub list_at-found : (xs : List (List Instr)) (w : ℕ) (own : List Instr) → slice_get xs w ≡ Some own → list_at xs w ≡ own
list_at-found [] w own e = cc
list_at-found (x ∷ xs) zero own e = cc
list_at-found (x ∷ xs) (suc w) own e = list_at-found xs w own e
