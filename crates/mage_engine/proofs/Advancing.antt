-- A machine that has done a directive is ready again.
use Rattle.std.proofs.Common.{◌≡◌, ◌≤◌, ◌<◌, ◌+◌, ℕ, zero, suc, Bool, true, false, cond, List, [], ◌∷◌, length, take, drop, Option, Some, None, IfSome, slice_get, refl, sym, ap, ◌∙◌, subst, arith}
use Rattle.std.specs.Prelude.{IsTrue}
use Rattle.mage_instr.specs.declared.directive.Directive.{Directive}
use Rattle.mage_instr.specs.declared.directive.Directive.TheVariants as entry
use Rattle.mage_instr.specs.declared.fault.MachineFault.{MachineFault}
use Rattle.mage_instr.specs.declared.op.Op.{Op}
use Rattle.mage_instr.specs.declared.op.Op.TheVariants as op
use Rattle.mage_directives.specs.Directives.{IsDirective}
use Rattle.mage_driver.specs.declared.standing.Standing.{Standing}
use Rattle.mage_driver.specs.declared.standing.Standing.TheVariants as standing
use Rattle.mage_driver.specs.Calls.{Told}
use Rattle.mage_port.specs.Port.{PortTold, slot_state, is_held}
use Rattle.mage_verify.specs.Runs.{Meets, ValuesFit}
use Rattle.mage_verify.specs.State.{State, opening, after, after_all, state_before}
use Rattle.mage_engine.specs.Seen.{Seen, IsEnded}
use Rattle.mage_bank.specs.Bank.{bank_of, lengths_of, AreOf}
use Rattle.mage_bank.specs.Bank.{Lies}
use Rattle.mage_bank.specs.Jobs.{JobLies, Fits}
use Rattle.mage_bank.proofs.Fitting.{count_is, frame_long, job_lies, value_lies}
use Rattle.mage_instr.specs.declared.replaced.Job.{Job}
use Rattle.mage_instr.specs.declared.replaced.Spot.{Spot}
use Rattle.mage_engine.specs.Ready.{Takes, page_bytes_of, IsAt, IsReady, Stands, does_of, wires_of, wires_of_op, state_at}

pub here_within : {X : Type 0} (xs : List X) (d : ℕ) (x : X) → slice_get xs d ≡ Some x → d < length xs
here_within [] d x e = absurd cc
here_within (y ∷ xs) zero x e = omega arith
here_within (y ∷ xs) (suc d) x e = let rest = here_within xs d x e in omega arith

pub left_here : {X : Type 0} (xs : List X) (d : ℕ) (x : X) → slice_get xs d ≡ Some x → drop d xs ≡ x ∷ drop (suc d) xs
left_here [] d x e = absurd cc
left_here (y ∷ xs) zero x e = let same : y ≡ x = cc in ap (λ z. z ∷ xs) same
left_here (y ∷ xs) (suc d) x e = left_here xs d x e

next_state : (state : State) (xs : List Directive) (d : ℕ) (x : Directive) → slice_get xs d ≡ Some x →
    after_all state (take (suc d) xs) ≡ after (after_all state (take d xs)) x
next_state state [] d x e = absurd cc
next_state state (y ∷ xs) zero x e = let same : y ≡ x = cc in ap (λ z. after state z) same
next_state state (y ∷ xs) (suc d) x e = next_state (after state y) xs d x e

op_wires : (o : Op) (width : ℕ) → 1 ≤ width → 0 < wires_of_op o width
op_wires op.Send width some = omega (arith, some)
op_wires op.Recv width some = omega (arith, some)
op_wires _ width some = omega arith

pub some_wires : (worker : ℕ) (o : Option Directive) → IfSome o (IsDirective 16 worker) → 0 < wires_of o
some_wires worker None is = omega arith
some_wires worker (Some (entry.Fresh frame page)) is = omega arith
some_wires worker (Some (entry.IssueIn slot page)) is = omega arith
some_wires worker (Some (entry.FinishIn slot frame)) is = omega arith
some_wires worker (Some (entry.IssueOut slot frame page)) is = omega arith
some_wires worker (Some (entry.FinishOut slot)) is = omega arith
some_wires worker (Some (entry.Do job)) is = op_wires job.op job.width is.width.0

pub ready_of : {S : Type 0} (wb : ℕ) (finished : Bool) (f : Option MachineFault) (m : Seen S) → f ≡ None → Stands wb finished f m → IsReady wb finished m
ready_of wb finished None m e stands = stands
ready_of wb finished (Some fault) m e stands = absurd cc

pub stands_of : {S : Type 0} (wb : ℕ) (finished : Bool) (f : Option MachineFault) (m : Seen S) → f ≡ None → IsReady wb finished m → Stands wb finished f m
stands_of wb finished None m e ready = ready
stands_of wb finished (Some fault) m e ready = absurd cc

-- a machine that has ended has no fault
pub ended_sound : {S : Type 0} (wb : ℕ) (finished : Bool) (f : Option MachineFault) (m : Seen S) → Stands wb finished f m → IsEnded m → f ≡ None
ended_sound wb finished None m stands ended = refl
ended_sound wb finished (Some fault) m stands ended = absurd (stands ended)

module _ {S : Type 0} (wb : ℕ) (finished : Bool) (m : Seen S) (x : Directive) (at : IsAt m x) (stands : Stands wb finished m.fault m) where
  pub ready : IsReady wb finished m
  ready = ready_of wb finished m.fault m at.sound stands

  pub meets : Meets m.part.limits m.part.pages (state_at m) x
  meets = subst (λ (o : Option Directive). IfSome o (Meets m.part.limits m.part.pages (state_at m))) at.here (ready.runs.each m.place)

  pub is_directive : IsDirective 16 m.part.worker x
  is_directive = subst (λ (o : Option Directive). IfSome o (IsDirective 16 m.part.worker)) at.here (ready.safe.fields.each m.place)

  pub inside : m.place < length m.part.directives
  inside = here_within m.part.directives m.place x at.here

  -- the place after this one has a number of 32 bits too
  pub few : m.place + 1 < 4294967296
  few = let i = inside in let count = ready.safe.fields.count in omega (arith, i, count)

  pub unfinished : finished ≡ false
  unfinished = go finished refl
    where
      go : (b : Bool) → finished ≡ b → finished ≡ false
      go true e = let none : None ≡ Some x = sym (ready.early e) ∙ at.here in absurd cc
      go false e = e

  pub running : m.driver.standing ≡ standing.Running
  running = ready.standing ∙ ap (λ (b : Bool). cond {A = Standing} b standing.Finished standing.Running) unfinished

  pub wire_within : m.wire < wires_of (Some x)
  wire_within = subst (λ (o : Option Directive). m.wire < wires_of o) at.here ready.wire

  pub next_is : state_before m.part.directives (suc m.place) ≡ after (state_at m) x
  next_is = next_state opening m.part.directives m.place x at.here

  pub next_ready : (driver : Told S) (port : PortTold) (bank : ℕ → List ℕ) → driver.standing ≡ standing.Running →
      port.page_bytes ≡ m.port.page_bytes → port.takes ≡ m.port.takes → length port.slots ≡ length m.port.slots →
      ((slot : ℕ) → does_of (slot_state port slot) ≡ Some ((after (state_at m) x).slot slot)) →
      ((page : ℕ) → (after (state_at m) x).stored page ≡ true → IsTrue (is_held port page)) →
      IsReady wb finished (record m { driver = driver; port = port; place = suc m.place; wire = 0; bank = bank })
  next_ready driver port bank runs bytes takes count slots held = record {
    safe = ready.safe;
    runs = ready.runs;
    within = let i = inside in omega (arith, i);
    wire = some_wires m.part.worker (slice_get m.part.directives (suc m.place)) (ready.safe.fields.each (suc m.place));
    lengths = ready.lengths;
    bytes = bytes ∙ ready.bytes;
    count = count ∙ ready.count;
    takes = subst (λ (t : ℕ → Bool). Takes t m.part) (sym takes) ready.takes;
    slots = λ slot. slots slot ∙ ap (λ (v : State). Some (v.slot slot)) (sym next_is);
    held = λ page is. held page (ap (λ (v : State). v.stored page) (sym next_is) ∙ is);
    standing = runs ∙ sym running ∙ ready.standing;
    early = λ e. absurd (let never : true ≡ false = sym e ∙ unfinished in cc);
  }

  -- a wire more of a Send or Recv
  pub wire_ready : (wire : ℕ) (bank : ℕ → List ℕ) → wire < wires_of (Some x) → IsReady wb finished (record m { wire = wire; bank = bank })
  wire_ready wire bank less = record {
    safe = ready.safe;
    runs = ready.runs;
    within = ready.within;
    wire = subst (λ (o : Option Directive). wire < wires_of o) (sym at.here) less;
    lengths = ready.lengths;
    bytes = ready.bytes;
    count = ready.count;
    takes = ready.takes;
    slots = ready.slots;
    held = ready.held;
    standing = ready.standing;
    early = ready.early;
  }

-- ---- frames

-- the frames of a machine that is ready, which are as long as a page
module _ {S : Type 0} (wb : ℕ) (finished : Bool) (m : Seen S) (r : IsReady wb finished m) (frames : List (List ℕ)) (are : m.lengths ≡ lengths_of frames) where
  pub frames_are : AreOf m.part.limits.frames (page_bytes_of wb m.part) frames
  frames_are = sym are ∙ r.lengths

  pub as_many : length frames ≡ m.part.limits.frames
  as_many = count_is m.part.limits.frames (page_bytes_of wb m.part) frames frames_are

  pub frame_whole : (frame : ℕ) → frame < m.part.limits.frames → length (bank_of frames frame) ≡ m.port.page_bytes
  frame_whole frame inside = frame_long m.part.limits.frames (page_bytes_of wb m.part) frame frames frames_are inside ∙ sym r.bytes

  -- an instruction whose values fit lies within them
  pub values_lie : (job : Job) → ValuesFit m.part.limits job → JobLies wb frames job
  values_lie job fit = job_lies wb m.part.limits.frames m.part.limits.page frames job frames_are (record { result = fit.result; args = fit.args })

  pub value_in : (width : ℕ) (spot : Spot) → Fits m.part.limits.frames m.part.limits.page width spot → Lies wb frames spot width
  value_in width spot fit = value_lies wb m.part.limits.frames m.part.limits.page frames width spot frames_are fit
