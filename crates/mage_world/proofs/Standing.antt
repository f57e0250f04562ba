-- A worker that has done a directive is ready again.
use Rattle.std.proofs.Common.{◌≡◌, ◌<◌, ◌+◌, ℕ, zero, suc, Bool, true, false, cond, List, [], ◌∷◌, length, Option, Some, None, refl, sym, ap, ◌∙◌, subst, arith}
use Rattle.std.specs.Prelude.{IfSome, slice_get, Vec}
use Rattle.std.specs.Global.{Global}
use Rattle.mage_instr.specs.declared.directive.Directive.{Directive}
use Rattle.mage_instr.specs.declared.directive.Directive.TheVariants as entry
use Rattle.mage_instr.specs.declared.fault.DriverFault.{DriverFault}
use Rattle.mage_instr.specs.declared.replaced.Job.{Job}
use Rattle.mage_instr.specs.declared.replaced.Spot.{Spot}
use Rattle.mage_bank.specs.Bank.{contents, bank_of, lengths_of, Lies}
use Rattle.mage_bank.specs.Jobs.{Fits, JobLies}
use Rattle.mage_bank.proofs.Fitting.{count_is, frame_long, job_lies, value_lies}
use Rattle.mage_bank.proofs.Banking.{count_of}
use Rattle.mage_directives.specs.Directives.{IsDirective}
use Rattle.mage_driver.specs.declared.standing.Standing.{Standing}
use Rattle.mage_driver.specs.declared.standing.Standing.TheVariants as standing
use Rattle.mage_driver.specs.Rules.{Rules}
use Rattle.mage_driver.specs.Calls.{Told}
use Rattle.mage_verify.specs.Parts.{WorkerPart}
use Rattle.mage_verify.specs.Runs as verifier
use Rattle.mage_verify.specs.State.{state_before}
use Rattle.mage_world.specs.declared.slot.Slot.{Slot}
use Rattle.mage_world.specs.declared.worker.Worker.{Worker}
use Rattle.mage_world.specs.Slots.{AreLong, AreWithin}
use Rattle.mage_world.specs.Seats.{page_bytes, IsWire, Runs, Stands, IsAt}

pub here_within : {X : Type 0} (xs : List X) (d : ℕ) (x : X) → slice_get xs d ≡ Some x → d < length xs
here_within [] d x e = absurd cc
here_within (y ∷ xs) zero x e = omega arith
here_within (y ∷ xs) (suc d) x e = let rest = here_within xs d x e in omega arith

-- no wire of the value that comes next is done
pub first_wire : (worker : ℕ) (o : Option Directive) → IfSome o (IsDirective 16 worker) → IfSome o (IsWire 0)
first_wire worker None is = is
first_wire worker (Some (entry.Fresh frame page)) is = tt
first_wire worker (Some (entry.IssueIn slot page)) is = tt
first_wire worker (Some (entry.FinishIn slot frame)) is = tt
first_wire worker (Some (entry.IssueOut slot frame page)) is = tt
first_wire worker (Some (entry.FinishOut slot)) is = tt
first_wire worker (Some (entry.Do job)) is = let some = is.width.0 in omega (arith, some)

runs_when : (f : Option DriverFault) (finished : Bool) (s : Standing) → f ≡ None → Runs f finished s →
    s ≡ cond {A = Standing} finished standing.Finished standing.Running
runs_when None finished s e runs = runs
runs_when (Some fault) finished s e runs = absurd cc

pub runs_so : (f : Option DriverFault) (finished : Bool) (s : Standing) → f ≡ None →
    s ≡ cond {A = Standing} finished standing.Finished standing.Running → Runs f finished s
runs_so None finished s e is = is
runs_so (Some fault) finished s e is = absurd cc

module _ {W : Type 0} (rules : Rules W) (part : WorkerPart) (driver : Told rules.State) (worker : Worker)
    (stands : Stands rules part driver worker) where
  -- the driver runs where there is no fault, until it is finished
  pub driver_stands : worker.fault ≡ None → driver.standing ≡ cond {A = Standing} worker.finished standing.Finished standing.Running
  driver_stands sound = runs_when worker.fault worker.finished driver.standing sound stands.driver_runs

  pub running_when : worker.fault ≡ None → worker.finished ≡ false → driver.standing ≡ standing.Running
  running_when sound unfinished = driver_stands sound
      ∙ ap (λ b. cond {A = Standing} b standing.Finished standing.Running) unfinished

  pub frames_count : length worker.frames.items ≡ part.limits.frames
  frames_count = sym (count_of worker.frames.items)
      ∙ count_is part.limits.frames (page_bytes rules.wire_bytes part) (contents worker.frames.items) stands.worker_is.frames

  pub pages_count : length worker.pages.items ≡ part.pages
  pages_count = sym (count_of worker.pages.items)
      ∙ count_is part.pages (page_bytes rules.wire_bytes part) (contents worker.pages.items) stands.worker_is.pages

  pub frame_whole : (frame : ℕ) → frame < part.limits.frames → length (bank_of (contents worker.frames.items) frame) ≡ page_bytes rules.wire_bytes part
  frame_whole frame inside = frame_long part.limits.frames (page_bytes rules.wire_bytes part) frame (contents worker.frames.items) stands.worker_is.frames inside

  pub values_lie : (job : Job) → verifier.ValuesFit part.limits job → JobLies rules.wire_bytes (contents worker.frames.items) job
  values_lie job fit = job_lies rules.wire_bytes part.limits.frames part.limits.page (contents worker.frames.items) job stands.worker_is.frames
      (record { result = fit.result; args = fit.args })

  pub value_in : (width : ℕ) (spot : Spot) → Fits part.limits.frames part.limits.page width spot → Lies rules.wire_bytes (contents worker.frames.items) spot width
  value_in width spot fit = value_lies rules.wire_bytes part.limits.frames part.limits.page (contents worker.frames.items) width spot stands.worker_is.frames fit

  module _ (x : Directive) (at : IsAt part worker x) where
    pub meets : verifier.Meets part.limits part.pages (state_before part.directives worker.place) x
    meets = subst (λ (o : Option Directive). IfSome o (verifier.Meets part.limits part.pages (state_before part.directives worker.place))) at.here
        (stands.runs.each worker.place)

    pub is_directive : IsDirective 16 part.worker x
    is_directive = subst (λ (o : Option Directive). IfSome o (IsDirective 16 part.worker)) at.here (stands.safe.fields.each worker.place)

    pub inside : worker.place < length part.directives
    inside = here_within part.directives worker.place x at.here

    pub few : worker.place + 1 < 4294967296
    few = let i = inside in let count = stands.safe.fields.count in omega (arith, i, count)

    pub unfinished : worker.finished ≡ false
    unfinished = go worker.finished refl
      where
        go : (b : Bool) → worker.finished ≡ b → worker.finished ≡ false
        go true e = let none : None ≡ Some x = sym (stands.worker_is.early e) ∙ at.here in absurd cc
        go false e = e

    pub running : driver.standing ≡ standing.Running
    running = running_when at.sound unfinished

    pub wire_is : IsWire worker.wire x
    wire_is = subst (λ (o : Option Directive). IfSome o (IsWire worker.wire)) at.here stands.worker_is.wire

    -- the worker behind the directive
    pub behind : (driver' : Told rules.State) → driver'.standing ≡ standing.Running →
        (frames : Vec (Vec ℕ Global) Global) (slots : Vec Slot Global) →
        lengths_of (contents frames.items) ≡ lengths_of (contents worker.frames.items) →
        length slots.items ≡ length worker.slots.items → AreLong (page_bytes rules.wire_bytes part) slots.items →
        AreWithin part.pages slots.items →
        Stands rules part driver' (record worker { place = worker.place + 1; wire = 0; frames = frames; slots = slots })
    behind driver' runs frames slots lengths count long named = record {
      safe = stands.safe;
      runs = stands.runs;
      worker_is = record {
        frames = lengths ∙ stands.worker_is.frames;
        count = count ∙ stands.worker_is.count;
        long = long;
        named = named;
        pages = stands.worker_is.pages;
        within = let i = inside in omega (arith, i);
        wire = first_wire part.worker (slice_get part.directives (worker.place + 1)) (stands.safe.fields.each (worker.place + 1));
        early = λ e. absurd (let never : true ≡ false = sym e ∙ unfinished in cc);
      };
      driver_runs = runs_so worker.fault worker.finished driver'.standing at.sound
          (runs ∙ ap (λ b. cond {A = Standing} b standing.Finished standing.Running) (sym unfinished));
    }

    -- the same worker, one wire further in the same directive
    pub one_wire : (wire : ℕ) (frames : Vec (Vec ℕ Global) Global) → IsWire wire x →
        lengths_of (contents frames.items) ≡ lengths_of (contents worker.frames.items) →
        Stands rules part driver (record worker { wire = wire; frames = frames })
    one_wire wire frames is lengths = record {
      safe = stands.safe;
      runs = stands.runs;
      worker_is = record {
        frames = lengths ∙ stands.worker_is.frames;
        count = stands.worker_is.count;
        long = stands.worker_is.long;
        named = stands.worker_is.named;
        pages = stands.worker_is.pages;
        within = stands.worker_is.within;
        wire = subst (λ (o : Option Directive). IfSome o (IsWire wire)) (sym at.here) is;
        early = stands.worker_is.early;
      };
      driver_runs = stands.driver_runs;
    }

  -- a worker whose driver has failed
  pub failed : (driver' : Told rules.State) (fault : DriverFault) (frames : Vec (Vec ℕ Global) Global) →
      lengths_of (contents frames.items) ≡ lengths_of (contents worker.frames.items) →
      Stands rules part driver' (record worker { fault = Some fault; frames = frames })
  failed driver' fault frames lengths = record {
    safe = stands.safe;
    runs = stands.runs;
    worker_is = record {
      frames = lengths ∙ stands.worker_is.frames;
      count = stands.worker_is.count;
      long = stands.worker_is.long;
      named = stands.worker_is.named;
      pages = stands.worker_is.pages;
      within = stands.worker_is.within;
      wire = stands.worker_is.wire;
      early = stands.worker_is.early;
    };
    driver_runs = tt;
  }

  -- a worker whose driver is finished
  pub ended : (driver' : Told rules.State) → worker.fault ≡ None → slice_get part.directives worker.place ≡ None →
      driver'.standing ≡ standing.Finished → Stands rules part driver' (record worker { finished = true })
  ended driver' sound past finished = record {
    safe = stands.safe;
    runs = stands.runs;
    worker_is = record {
      frames = stands.worker_is.frames;
      count = stands.worker_is.count;
      long = stands.worker_is.long;
      named = stands.worker_is.named;
      pages = stands.worker_is.pages;
      within = stands.worker_is.within;
      wire = stands.worker_is.wire;
      early = λ e. past;
    };
    driver_runs = runs_so worker.fault true driver'.standing sound finished;
  }

  -- a worker whose frames, slots and pages changed
  pub moved : (frames : Vec (Vec ℕ Global) Global) (slots : Vec Slot Global) (pages : Vec (Vec ℕ Global) Global) →
      lengths_of (contents frames.items) ≡ lengths_of (contents worker.frames.items) →
      length slots.items ≡ length worker.slots.items →
      AreLong (page_bytes rules.wire_bytes part) slots.items → AreWithin part.pages slots.items →
      lengths_of (contents pages.items) ≡ lengths_of (contents worker.pages.items) →
      Stands rules part driver (record worker { frames = frames; slots = slots; pages = pages })
  moved frames slots pages framed count long named lengths = record {
    safe = stands.safe;
    runs = stands.runs;
    worker_is = record {
      frames = framed ∙ stands.worker_is.frames;
      count = count ∙ stands.worker_is.count;
      long = long;
      named = named;
      pages = lengths ∙ stands.worker_is.pages;
      within = stands.worker_is.within;
      wire = stands.worker_is.wire;
      early = stands.worker_is.early;
    };
    driver_runs = stands.driver_runs;
  }

  -- a worker that was handed on, with the same in it
  pub kept : (frames : Vec (Vec ℕ Global) Global) (slots : Vec Slot Global) (pages : Vec (Vec ℕ Global) Global) →
      contents frames.items ≡ contents worker.frames.items → slots.items ≡ worker.slots.items →
      contents pages.items ≡ contents worker.pages.items →
      Stands rules part driver (record worker { frames = frames; slots = slots; pages = pages })
  kept frames slots pages framed same paged =
      moved frames slots pages (ap lengths_of framed) (ap (λ (l : List Slot). length l) same)
      (subst (AreLong (page_bytes rules.wire_bytes part)) (sym same) stands.worker_is.long)
      (subst (AreWithin part.pages) (sym same) stands.worker_is.named) (ap lengths_of paged)
