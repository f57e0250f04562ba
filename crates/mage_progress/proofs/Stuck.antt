-- Where all wait at links, all have ended.
use Rattle.std.proofs.Common.{◌≡◌, ◌≤◌, ◌<◌, ◌+◌, ◌∙◌, ℕ, suc, true, false, List, [], ◌∷◌, length, Option, None, Some, refl, sym, ap, subst, slice_get, nat_lt, ◌⊎◌, inl, inr, arith}
use Rattle.std.proofs.lemmas.Bool.{cases_lt, le-ltb}
use Rattle.mage_instr.specs.declared.directive.Directive.{Directive}
use Rattle.mage_instr.specs.declared.directive.Directive.TheVariants as entry
use Rattle.mage_instr.specs.declared.directive.MemProgram.{MemProgram}
use Rattle.mage_instr.specs.declared.op.Op.{Op}
use Rattle.mage_instr.specs.declared.op.Op.TheVariants as op
use Rattle.mage_instr.specs.declared.replaced.Job.{Job}
use Rattle.mage_network.specs.Workers.{Stops}
use Rattle.mage_network.specs.Network.{can_act}
use Rattle.mage_network.specs.Laws.{IsCapacity}
use Rattle.mage_network.proofs.Stuck.{accounts_stop}
use Rattle.mage_steps.specs.Core.{directives_of}
use Rattle.mage_steps.specs.Orderly.{AreOrderly, IsThrough}
use Rattle.mage_steps.specs.Laws.{EndsInJoint}
use Rattle.mage_steps.proofs.Through.{own_run_through}
use Rattle.mage_directives.specs.Directives.{IsMemProgram}
use Rattle.mage_verify.specs.Faults.{fault_in, fault_of}
use Rattle.mage_verify.specs.Joint.{lists_at}
use Rattle.mage_verify.specs.Parts.{WorkerPart, parts_from, parts_of}
use Rattle.mage_verify.specs.Runs.{AreVerified}
use Rattle.mage_verified_runs.specs.Turns.{verified_turns}
use Rattle.mage_verified_runs.proofs.Moving.{sends_on, takes_on}
use Rattle.mage_verified_runs.proofs.Orderliness.{verified_is_orderly}
use Rattle.mage_verified_runs.proofs.Ending.{directives_are, ended_act, past_end, past_workers, verified_ends}
use Rattle.mage_progress.specs.Stands.{Stand, Held, directives_in, next_in, HasEnded, IsReached, WaitsAt, Waits, AreSame, StandsStill}
use Rattle.mage_progress.proofs.Quiet.{quiet}
use Rattle.mage_progress.proofs.Tracking.{Tracks, act, starts, drivers, tracks_reached}

module _ (parts : List WorkerPart) (plan : MemProgram) (fine : IsMemProgram plan) (none : fault_of plan ≡ None)
    (count : length parts ≡ length plan.workers) (are : (worker : ℕ) → directives_in parts worker ≡ directives_of plan worker)
    (stands : ℕ → Stand) (held : Held) (tracks : Tracks parts plan fine (verified_is_orderly plan none) count are stands held)
    (capacity : ℕ) where
  abbrev orderly : AreOrderly plan
  orderly = verified_is_orderly plan none

  -- where the core's worker stands
  place_is : (n : ℕ) → n < length parts → (o : Option Directive) → next_in parts stands n ≡ o →
      slice_get (directives_of plan n) (tracks.workers n).state.engine.place ≡ o
  place_is n inside o e =
      ap (λ (at : Stand). slice_get (directives_of plan n) at.place) (tracks.stand n inside)
      ∙ ap (λ (ds : List Directive). slice_get ds (stands n).place) (sym (are n)) ∙ e

  -- a worker that has ended, and one beside the workers, can't go on
  ended_stops : (n : ℕ) → n < length parts → HasEnded (next_in parts stands n) (stands n) → act parts plan fine orderly count are n (tracks.workers n).state ≡ Stops
  ended_stops n inside ended =
      ended_act quiet plan (drivers parts plan fine orderly count are) n (tracks.workers n).state true (place_is n inside None ended.past)
      (ap (λ (at : Stand). at.finished) (tracks.stand n inside) ∙ ended.finished)

  beside_stops : (n : ℕ) → length parts ≤ n → act parts plan fine orderly count are n (tracks.workers n).state ≡ Stops
  beside_stops n past =
      ended_act quiet plan (drivers parts plan fine orderly count are) n (tracks.workers n).state true
      (ap (λ (ds : List Directive). slice_get ds (tracks.workers n).state.engine.place) (past_workers plan.workers n (omega (arith, past, count)))
      ∙ past_end [] (tracks.workers n).state.engine.place (omega arith))
      (tracks.beside n past)

  -- nor can one that waits at a link
  waits_at : (n : ℕ) → n < length parts → (job : Job) (o : Op) → job.op ≡ o → next_in parts stands n ≡ Some (entry.Do job) →
      WaitsAt o job.imm capacity n held →
      can_act capacity n (act parts plan fine orderly count are n (tracks.workers n).state) tracks.links ≡ true → ⊥
  waits_at n inside job op.Send e here waits can =
      let on = sends_on quiet plan n job.imm job.width (tracks.workers n).state job (place_is n inside (Some (entry.Do job)) here) e refl refl in
      let goes : nat_lt (length (tracks.links n job.imm)) capacity ≡ true = sym (ap (λ a. can_act capacity n a tracks.links) on.acts) ∙ can in
      let lies = tracks.lies n job.imm in
      let off : nat_lt (length (tracks.links n job.imm)) capacity ≡ false = le-ltb (length (tracks.links n job.imm)) capacity (omega (arith, lies, waits)) in
      let clash : true ≡ false = sym goes ∙ off in cc
  waits_at n inside job op.Recv e here waits can =
      let on = takes_on quiet plan n job.imm job.width (tracks.workers n).state job (place_is n inside (Some (entry.Do job)) here) e refl refl in
      let goes : nat_lt 0 (length (tracks.links job.imm n)) ≡ true = sym (ap (λ a. can_act capacity n a tracks.links) on.acts) ∙ can in
      let empty : length (tracks.links job.imm n) ≡ 0 = tracks.lies job.imm n ∙ waits in
      let off : nat_lt 0 (length (tracks.links job.imm n)) ≡ false = ap (nat_lt 0) empty in
      let clash : true ≡ false = sym goes ∙ off in cc
  waits_at n inside job _ e here waits can = waits

  waits_here : (n : ℕ) → n < length parts → (o : Option Directive) → next_in parts stands n ≡ o → Waits o capacity n held →
      can_act capacity n (act parts plan fine orderly count are n (tracks.workers n).state) tracks.links ≡ true → ⊥
  waits_here n inside None here waits can = waits
  waits_here n inside (Some (entry.Fresh frame page)) here waits can = waits
  waits_here n inside (Some (entry.IssueIn slot page)) here waits can = waits
  waits_here n inside (Some (entry.FinishIn slot frame)) here waits can = waits
  waits_here n inside (Some (entry.IssueOut slot frame page)) here waits can = waits
  waits_here n inside (Some (entry.FinishOut slot)) here waits can = waits
  waits_here n inside (Some (entry.Do job)) here waits can = waits_at n inside job job.op refl here waits can

  abbrev pub AllWait : Type 0
  AllWait = (n : ℕ) → n < length parts → HasEnded (next_in parts stands n) (stands n) ⊎ Waits (next_in parts stands n) capacity n held

  no_more : (n : ℕ) → act parts plan fine orderly count are n (tracks.workers n).state ≡ Stops →
      can_act capacity n (act parts plan fine orderly count are n (tracks.workers n).state) tracks.links ≡ true → ⊥
  no_more n stops can =
      let clash : false ≡ true = sym (ap (λ a. can_act capacity n a tracks.links) stops) ∙ can in cc

  none_can : AllWait → (n : ℕ) → can_act capacity n (act parts plan fine orderly count are n (tracks.workers n).state) tracks.links ≡ true → ⊥
  none_can all n can = elim (cases_lt n (length parts)) [
    | inl inside ↦ (elim (all n inside) [
      | inl ended ↦ no_more n (ended_stops n inside ended) can
      | inr waits ↦ waits_here n inside (next_in parts stands n) refl waits can
    ])
    | inr past ↦ no_more n (beside_stops n past) can
  ]

  pub all_ended : IsCapacity capacity → AllWait → (n : ℕ) → n < length parts → HasEnded (next_in parts stands n) (stands n)
  all_ended room all n inside =
      elim (accounts_stop (act parts plan fine orderly count are) (starts parts plan fine orderly count are) capacity tracks.workers tracks.links room
      tracks.accounts (verified_turns plan.workers)) [
        | inl some ↦ absurd (none_can all some.0 some.1)
        | inr same ↦ through (own_run_through quiet plan (drivers parts plan fine orderly count are) orderly n (tracks.workers n).past (tracks.workers n).state
            (tracks.accounts.alone n) (ap (λ w. act parts plan fine orderly count are n w.state) (same n (ends n)) ∙ ends n))
      ]
    where
      ends : (k : ℕ) → EndsInJoint quiet plan (drivers parts plan fine orderly count are) (verified_turns plan.workers) k
      ends k = verified_ends quiet plan (drivers parts plan fine orderly count are) fine none k

      through : IsThrough quiet plan n (tracks.workers n).state → HasEnded (next_in parts stands n) (stands n)
      through is = record {
        past = ap (λ (ds : List Directive). slice_get ds (stands n).place) (are n)
            ∙ sym (ap (λ (at : Stand). slice_get (directives_of plan n) at.place) (tracks.stand n inside)) ∙ is.place;
        finished = sym (ap (λ (at : Stand). at.finished) (tracks.stand n inside)) ∙ is.finished;
      }

-- ---- parts

-- the program whose parts these are
pub record IsOf (parts : List WorkerPart) (plan : MemProgram) : Type 0 where
  pub fine : IsMemProgram plan
  pub none : fault_of plan ≡ None
  pub count : length parts ≡ length plan.workers
  pub are : (worker : ℕ) → directives_in parts worker ≡ directives_of plan worker

counted : (plan : MemProgram) (n : ℕ) (workers : List (List Directive)) →
    length (parts_from plan.limits plan.stores n workers) ≡ length workers
counted plan n [] = refl
counted plan n (directives ∷ workers) = ap suc (counted plan (n + 1) workers)

pub program_of : (parts : List WorkerPart) (verified : AreVerified parts) → IsOf parts verified.whole.0
program_of parts verified = record {
  fine = verified.whole.1;
  none = subst (λ (ps : List WorkerPart). fault_in ps ≡ None) verified.whole.2 verified.none;
  count = ap (λ (ps : List WorkerPart). length ps) verified.whole.2 ∙ counted verified.whole.0 0 verified.whole.0.workers;
  are = λ worker. ap (λ (ps : List WorkerPart). directives_in ps worker) verified.whole.2
      ∙ ap (λ (ws : List (List Directive)). lists_at ws worker) (directives_are verified.whole.0 0 verified.whole.0.workers);
}

pub program_verified : (plan : MemProgram) → IsMemProgram plan → fault_of plan ≡ None → AreVerified (parts_of plan)
program_verified plan fine none = record { whole = (plan, fine, refl); none = none }

pub reached_ends : (parts : List WorkerPart) (capacity : ℕ) (stands : ℕ → Stand) (held : Held) → AreVerified parts → IsCapacity capacity →
    IsReached parts stands held →
    ((n : ℕ) → n < length parts → HasEnded (next_in parts stands n) (stands n) ⊎ Waits (next_in parts stands n) capacity n held) →
    (n : ℕ) → n < length parts → HasEnded (next_in parts stands n) (stands n)
reached_ends parts capacity stands held verified room reached all =
    let p = program_of parts verified in
    let plan = verified.whole.0 in
    all_ended parts plan p.fine p.none p.count p.are stands held
    (tracks_reached parts plan p.fine (verified_is_orderly plan p.none) p.count p.are stands held reached) capacity room all

-- ---- functions that are the same at each number

waits_at_same : (o : Op) (imm capacity worker : ℕ) (held left : Held) → AreSame held left → WaitsAt o imm capacity worker held →
    WaitsAt o imm capacity worker left
waits_at_same op.Send imm capacity worker held left same h = subst (λ (n : ℕ). capacity ≤ n) (sym (same worker imm)) h
waits_at_same op.Recv imm capacity worker held left same h = same imm worker ∙ h
waits_at_same _ imm capacity worker held left same h = absurd h

waits_same : (o : Option Directive) (capacity worker : ℕ) (held left : Held) → AreSame held left → Waits o capacity worker held →
    Waits o capacity worker left
waits_same None capacity worker held left same h = absurd h
waits_same (Some (entry.Fresh frame page)) capacity worker held left same h = absurd h
waits_same (Some (entry.IssueIn slot page)) capacity worker held left same h = absurd h
waits_same (Some (entry.FinishIn slot frame)) capacity worker held left same h = absurd h
waits_same (Some (entry.IssueOut slot frame page)) capacity worker held left same h = absurd h
waits_same (Some (entry.FinishOut slot)) capacity worker held left same h = absurd h
waits_same (Some (entry.Do job)) capacity worker held left same h = waits_at_same job.op job.imm capacity worker held left same h

-- a worker that stands still does so where its stand and the links are the same
pub still_same : (parts : List WorkerPart) (stands others : ℕ → Stand) (capacity worker : ℕ) (held left : Held) →
    others worker ≡ stands worker → AreSame held left → StandsStill parts stands capacity worker held →
    StandsStill parts others capacity worker left
still_same parts stands others capacity worker held left at same h =
    subst (λ (s : Stand). HasEnded (slice_get (directives_in parts worker) s.place) s
    ⊎ Waits (slice_get (directives_in parts worker) s.place) capacity worker left) (sym at) (go h)
  where
    go : StandsStill parts stands capacity worker held → StandsStill parts stands capacity worker left
    go (inl ended) = inl ended
    go (inr waits) = inr (waits_same (next_in parts stands worker) capacity worker held left same waits)
