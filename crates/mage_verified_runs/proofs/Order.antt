-- What the turns of the verifier's order find the workers at.
use Rattle.std.proofs.Common.{◌≡◌, ◌+◌, ℕ, zero, suc, Bool, true, false, cond, List, Option, None, Some, IfSome, refl, ap, ◌∙◌, subst, nat_eq, nat_lt, option_map}
use Rattle.std.proofs.lemmas.Bool.{eqb-true}
use Rattle.std.specs.Option.{option_or}
use Rattle.mage_instr.specs.declared.directive.Directive.{Directive}
use Rattle.mage_instr.specs.declared.directive.Directive.TheVariants as entry
use Rattle.mage_instr.specs.declared.op.Op.{Op}
use Rattle.mage_instr.specs.declared.op.Op.TheVariants as op
use Rattle.mage_instr.specs.declared.replaced.Job.{Job}
use Rattle.mage_verify.specs.declared.turn.Stand.{Stand}
use Rattle.mage_verify.specs.declared.turn.Stand.TheVariants as stand
use Rattle.mage_verify.specs.declared.turn.Turn.{Turn}
use Rattle.mage_verify.specs.declared.turn.Turn.TheVariants as turn
use Rattle.mage_verify.specs.declared.turn.Place.{Place}
use Rattle.mage_verify.specs.Joint.{stand_of, stand_at, takes_from, gives_to, turn_at, first_turn, lower, differing_of, waiting_of}
use Rattle.mage_verify.specs.Faults.{joint_fault}
use Rattle.mage_verify.specs.declared.fault.VerifyFault.TheVariants as wrong
use Rattle.mage_verify.proofs.Tests.{none_second}

-- ---- the verifier's turns

-- what a turn finds its workers at
abbrev pub IsTurn : (ℕ → Stand) → Turn → Type 0
IsTurn others (turn.Alone worker) = others worker ≡ stand.Alone
IsTurn others (turn.Hands source target) = (others source ≡ stand.Sends target) × (others target ≡ stand.Receives source)

taken_so : (others : ℕ → Stand) (worker target : ℕ) (t : Turn) (s : Stand) → others worker ≡ stand.Sends target → others target ≡ s →
    takes_from worker s (turn.Hands worker target) ≡ Some t → IsTurn others t
taken_so others worker target t (stand.Receives source) sends here found = go (nat_eq source worker) refl found
  where
    go : (b : Bool) → nat_eq source worker ≡ b → cond b (Some (turn.Hands worker target)) None ≡ Some t → IsTurn others t
    go true e f =
        let same : turn.Hands worker target ≡ t = cc in
        subst (IsTurn others) same (sends, here ∙ ap stand.Receives (eqb-true source worker e))
    go false e f = absurd cc
taken_so others worker target t _ sends here found = absurd cc

given_so : (others : ℕ → Stand) (worker source : ℕ) (t : Turn) (s : Stand) → others worker ≡ stand.Receives source → others source ≡ s →
    gives_to worker s (turn.Hands source worker) ≡ Some t → IsTurn others t
given_so others worker source t (stand.Sends target) receives here found = go (nat_eq target worker) refl found
  where
    go : (b : Bool) → nat_eq target worker ≡ b → cond b (Some (turn.Hands source worker)) None ≡ Some t → IsTurn others t
    go true e f =
        let same : turn.Hands source worker ≡ t = cc in
        subst (IsTurn others) same (here ∙ ap stand.Sends (eqb-true target worker e), receives)
    go false e f = absurd cc
given_so others worker source t _ receives here found = absurd cc

turn_so : (others : ℕ → Stand) (worker : ℕ) (t : Turn) (s : Stand) → others worker ≡ s → turn_at worker s others ≡ Some t → IsTurn others t
turn_so others worker t stand.Ended here found = absurd cc
turn_so others worker t stand.Alone here found =
    let same : turn.Alone worker ≡ t = cc in subst (IsTurn others) same here
turn_so others worker t (stand.Sends target) here found = taken_so others worker target t (others target) here refl found
turn_so others worker t (stand.Receives source) here found = given_so others worker source t (others source) here refl found

pub first_so : (others : ℕ → Stand) (from count : ℕ) (t : Turn) → first_turn others from count ≡ Some t → IsTurn others t
first_so others from zero t found = absurd cc
first_so others from (suc count) t found =
    go (turn_at from (others from) others) refl found (λ f. first_so others (from + 1) count t f)
  where
    go : (o : Option Turn) → turn_at from (others from) others ≡ o → option_or o (first_turn others (from + 1) count) ≡ Some t →
        (first_turn others (from + 1) count ≡ Some t → IsTurn others t) → IsTurn others t
    go None e f rest = rest f
    go (Some x) e f rest = let same : Some x ≡ Some t = f in turn_so others from t (others from) refl (e ∙ same)

pub both_none : (a b : Option Place) → lower a b ≡ None → (a ≡ None) × (b ≡ None)
both_none None b h = (refl, h)
both_none (Some x) None h = absurd cc
both_none (Some x) (Some y) h = go (nat_lt y.worker x.worker) h
  where
    go : (b : Bool) → cond b (Some y) (Some x) ≡ None → (Some x ≡ None) × (Some y ≡ None)
    go true e = absurd cc
    go false e = absurd cc

pub same_width : (a b : ℕ) (p : Place) → cond (nat_eq a b) None (Some p) ≡ None → a ≡ b
same_width a b p h = go (nat_eq a b) refl h
  where
    go : (t : Bool) → nat_eq a b ≡ t → cond t None (Some p) ≡ None → a ≡ b
    go true e f = eqb-true a b e
    go false e f = absurd cc

map_none : {X Y : Type 0} (f : X → Y) (o : Option X) → option_map f o ≡ None → o ≡ None
map_none f None e = refl
map_none f (Some x) e = absurd cc

pub no_widths : (workers : List (List Directive)) → joint_fault workers ≡ None → differing_of workers ≡ None
no_widths workers h = map_none (λ p. wrong.Width p.worker p.directive) (differing_of workers)
    (none_second (option_map (λ p. wrong.Links p.worker p.directive) (waiting_of workers)) _ h)

-- the instruction at which a worker sends, or receives
send_op : (o : Op) (imm target : ℕ) → stand_of o imm ≡ stand.Sends target → (o ≡ op.Send) × (imm ≡ target)
send_op op.Send imm target e = (refl, cc)
send_op op.Recv imm target e = absurd cc
send_op op.Input imm target e = absurd cc
send_op op.Const imm target e = absurd cc
send_op op.Output imm target e = absurd cc
send_op op.Add imm target e = absurd cc
send_op op.Sub imm target e = absurd cc
send_op op.Mul imm target e = absurd cc
send_op op.And imm target e = absurd cc
send_op op.Or imm target e = absurd cc
send_op op.Xor imm target e = absurd cc
send_op op.Not imm target e = absurd cc
send_op op.Eq imm target e = absurd cc
send_op op.Lt imm target e = absurd cc
send_op op.Mux imm target e = absurd cc
send_op op.Shl imm target e = absurd cc
send_op op.Shr imm target e = absurd cc
send_op op.Resize imm target e = absurd cc
send_op op.Div imm target e = absurd cc
send_op op.Rem imm target e = absurd cc
send_op op.Count imm target e = absurd cc
send_op op.Min imm target e = absurd cc
send_op op.Max imm target e = absurd cc

recv_op : (o : Op) (imm source : ℕ) → stand_of o imm ≡ stand.Receives source → (o ≡ op.Recv) × (imm ≡ source)
recv_op op.Send imm source e = absurd cc
recv_op op.Recv imm source e = (refl, cc)
recv_op op.Input imm source e = absurd cc
recv_op op.Const imm source e = absurd cc
recv_op op.Output imm source e = absurd cc
recv_op op.Add imm source e = absurd cc
recv_op op.Sub imm source e = absurd cc
recv_op op.Mul imm source e = absurd cc
recv_op op.And imm source e = absurd cc
recv_op op.Or imm source e = absurd cc
recv_op op.Xor imm source e = absurd cc
recv_op op.Not imm source e = absurd cc
recv_op op.Eq imm source e = absurd cc
recv_op op.Lt imm source e = absurd cc
recv_op op.Mux imm source e = absurd cc
recv_op op.Shl imm source e = absurd cc
recv_op op.Shr imm source e = absurd cc
recv_op op.Resize imm source e = absurd cc
recv_op op.Div imm source e = absurd cc
recv_op op.Rem imm source e = absurd cc
recv_op op.Count imm source e = absurd cc
recv_op op.Min imm source e = absurd cc
recv_op op.Max imm source e = absurd cc

-- a worker whose next directive is such an instruction
pub record IsAtJob (found : Option Directive) (o : Op) (imm : ℕ) : Type 0 where
  pub job : Job
  pub here : found ≡ Some (entry.Do job)
  pub does : job.op ≡ o
  pub with : job.imm ≡ imm

pub send_job : (found : Option Directive) (target : ℕ) → stand_at found ≡ stand.Sends target → IsAtJob found op.Send target
send_job None target e = absurd cc
send_job (Some (entry.Do job)) target e = let h = send_op job.op job.imm target e in record { job = job; here = refl; does = h.0; with = h.1 }
send_job (Some (entry.Fresh frame page)) target e = absurd cc
send_job (Some (entry.IssueIn slot page)) target e = absurd cc
send_job (Some (entry.FinishIn slot frame)) target e = absurd cc
send_job (Some (entry.IssueOut slot frame page)) target e = absurd cc
send_job (Some (entry.FinishOut slot)) target e = absurd cc

pub recv_job : (found : Option Directive) (source : ℕ) → stand_at found ≡ stand.Receives source → IsAtJob found op.Recv source
recv_job None source e = absurd cc
recv_job (Some (entry.Do job)) source e = let h = recv_op job.op job.imm source e in record { job = job; here = refl; does = h.0; with = h.1 }
recv_job (Some (entry.Fresh frame page)) source e = absurd cc
recv_job (Some (entry.IssueIn slot page)) source e = absurd cc
recv_job (Some (entry.FinishIn slot frame)) source e = absurd cc
recv_job (Some (entry.IssueOut slot frame page)) source e = absurd cc
recv_job (Some (entry.FinishOut slot)) source e = absurd cc

pub alone_some : (found : Option Directive) → stand_at found ≡ stand.Alone → (x : Directive) × (found ≡ Some x)
alone_some None e = absurd cc
alone_some (Some x) e = (x, refl)

pub found_in : {X : Type 0} (P : X → Type 0) (o : Option X) (x : X) → o ≡ Some x → IfSome o P → P x
found_in P o x e h = subst (λ o'. IfSome o' P) e h
