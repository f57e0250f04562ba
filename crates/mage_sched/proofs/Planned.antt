-- What holds of the directives of a list with store pages.
use Rattle.std.proofs.Common.{◌≡◌, ℕ, suc, List, [], ◌∷◌, length, Some, None, Result, Ok, Err, IfOk, refl, sym, subst, ◌∙◌, ap, arith}
use Rattle.std.proofs.lemmas.Bool.{false≢true}
use Rattle.std.specs.List.{flat_map}
use Rattle.mage_instr.specs.declared.replaced.Job.{Job}
use Rattle.mage_instr.specs.declared.replaced.Replaced.{Replaced}
use Rattle.mage_instr.specs.declared.directive.Directive.{Directive}
use Rattle.mage_instr.specs.declared.directive.Directive.TheVariants as directive
use Rattle.mage_sched.specs.declared.read.Read.{Read}
use Rattle.mage_sched.specs.Reads.{timed_of}
use Rattle.mage_sched.specs.Rule.{IsReplaced}
use Rattle.mage_sched.specs.Homes.{Store, empty_store, store_after, homed_from, homed_of}
use Rattle.mage_sched.specs.Schedule.{schedule_of, buffer_tight}
use Rattle.mage_sched.specs.Issues.{unseen}
use Rattle.mage_sched.specs.Turns.{at_rest, AreInTurn}
use Rattle.mage_sched.specs.Plainly.{plainly}
use Rattle.mage_sched.specs.Scheduled.{page_read, page_written, job_done, IsSchedule, IsHomed, IsPlanned, ListsAreScheduled, HomesKeepTurns}
use Rattle.mage_sched.proofs.Tables.{idle_reads, idle_writes}
use Rattle.mage_sched.proofs.Course.{times_of}
use Rattle.mage_sched.proofs.Own.{own_schedule, schedules_are_plain}
use Rattle.mage_sched.proofs.Homing.{homing}

none_some : (n : ℕ) → None ≡ Some n → ⊥
none_some n e = cc

-- directives in turn stay so
pub homes_keep_turns : HomesKeepTurns
homes_keep_turns buffer directives turns =
    let all = homing buffer (homed_of directives).count directives unseen at_rest at_rest (λ slot. 0) (λ home. None) (λ page. None) empty_store
    (record {
      beside = record {
        reads = λ slot page h. absurd (idle_reads page h);
        writes = λ slot page h. absurd (idle_writes page h);
        idle = λ slot h. refl;
        alone = λ slot one page h k. absurd (false≢true h);
        kept = λ page home e. absurd (none_some home e);
        gone = λ page e is. absurd (false≢true is);
        last = λ slot page e. absurd (none_some page e);
      };
      are = record { tie = λ page home. refl };
      most = omega arith;
    }) turns in
    record {
      turns = all.turns;
      reads = all.reads;
      issues = all.issues;
      below = all.below;
      pages = all.pages;
      renamed = all.renamed (λ home. None) (λ page home e. absurd (none_some home e));
    }

homed_read : (store : Store) (list : List Directive) → length (flat_map page_read (homed_from store list).directives) ≡ length (flat_map page_read list)
homed_read store [] = refl
homed_read store (directive.Fresh frame page ∷ list) = homed_read store list
homed_read store (directive.IssueIn slot page ∷ list) = ap suc (homed_read (store_after (directive.IssueIn slot page) list store) list)
homed_read store (directive.FinishIn slot frame ∷ list) = homed_read (store_after (directive.FinishIn slot frame) list store) list
homed_read store (directive.IssueOut slot frame page ∷ list) = homed_read (store_after (directive.IssueOut slot frame page) list store) list
homed_read store (directive.FinishOut slot ∷ list) = homed_read (store_after (directive.FinishOut slot) list store) list
homed_read store (directive.Do job ∷ list) = homed_read store list

homed_written : (store : Store) (list : List Directive) → length (flat_map page_written (homed_from store list).directives) ≡ length (flat_map page_written list)
homed_written store [] = refl
homed_written store (directive.Fresh frame page ∷ list) = homed_written store list
homed_written store (directive.IssueIn slot page ∷ list) = homed_written (store_after (directive.IssueIn slot page) list store) list
homed_written store (directive.FinishIn slot frame ∷ list) = homed_written (store_after (directive.FinishIn slot frame) list store) list
homed_written store (directive.IssueOut slot frame page ∷ list) = ap suc (homed_written (store_after (directive.IssueOut slot frame page) list store) list)
homed_written store (directive.FinishOut slot ∷ list) = homed_written (store_after (directive.FinishOut slot) list store) list
homed_written store (directive.Do job ∷ list) = homed_written store list

homed_jobs : (store : Store) (list : List Directive) → flat_map job_done (homed_from store list).directives ≡ flat_map job_done list
homed_jobs store [] = refl
homed_jobs store (directive.Fresh frame page ∷ list) = homed_jobs store list
homed_jobs store (directive.IssueIn slot page ∷ list) = homed_jobs (store_after (directive.IssueIn slot page) list store) list
homed_jobs store (directive.FinishIn slot frame ∷ list) = homed_jobs (store_after (directive.FinishIn slot frame) list store) list
homed_jobs store (directive.IssueOut slot frame page ∷ list) = homed_jobs (store_after (directive.IssueOut slot frame page) list store) list
homed_jobs store (directive.FinishOut slot ∷ list) = homed_jobs (store_after (directive.FinishOut slot) list store) list
homed_jobs store (directive.Do job ∷ list) = ap (λ (jobs : List Job). job ∷ jobs) (homed_jobs store list)

-- a schedule stays one
homed_schedule : (buffer ahead : ℕ) (list : List Replaced) (directives : List Directive) → IsSchedule buffer ahead list directives → IsSchedule buffer ahead list (homed_of directives).directives
homed_schedule buffer ahead list directives own =
    let homed = homes_keep_turns buffer directives own.turns in
    record {
      reads = homed.reads ∙ own.reads;
      timely = homed.issues ∙ own.timely ∙ sym (ap (λ (reads : List Read). times_of (timed_of buffer ahead reads)) homed.reads);
      turns = homed.turns;
      asked = homed_read empty_store directives ∙ own.asked;
      sent = homed_written empty_store directives ∙ own.sent;
      jobs = homed_jobs empty_store directives ∙ own.jobs;
      plain = ap (plainly at_rest) homed.pages ∙ own.plain;
    }

pub lists_are_scheduled : ListsAreScheduled
lists_are_scheduled buffer ahead list rule loose =
    let own = own_schedule buffer ahead list rule loose in
    (own, homed_schedule buffer ahead list (schedule_of buffer ahead list) own)

pub lists_are_planned : (buffer ahead : ℕ) (list : List Replaced) → IsReplaced list → buffer_tight buffer list ≡ None
    → IsPlanned buffer ahead list (homed_of (schedule_of buffer ahead list)).directives (homed_of (schedule_of buffer ahead list)).count
lists_are_planned buffer ahead list rule loose = record {
  schedule = (lists_are_scheduled buffer ahead list rule loose).1;
  below = (homes_keep_turns buffer (schedule_of buffer ahead list) (own_schedule buffer ahead list rule loose).turns).below;
  homes = ap homed_of ((homes_keep_turns buffer (schedule_of buffer ahead list) (own_schedule buffer ahead list rule loose).turns).pages ∙ (schedules_are_plain buffer ahead list rule loose).0);
}

pub own_if : (buffer ahead : ℕ) (list : List Replaced) (directives : List Directive) → directives ≡ schedule_of buffer ahead list
    → IsReplaced list → buffer_tight buffer list ≡ None → IsSchedule buffer ahead list directives
own_if buffer ahead list directives e rule loose = let P : List Directive → Type 0 = λ xs. IsSchedule buffer ahead list xs in subst P (sym e) (own_schedule buffer ahead list rule loose)

pub planned_if : (buffer ahead : ℕ) (list : List Replaced) (given directives : List Directive) (count : ℕ)
    → given ≡ schedule_of buffer ahead list → directives ≡ (homed_of given).directives → count ≡ (homed_of given).count
    → IsReplaced list → buffer_tight buffer list ≡ None → IsPlanned buffer ahead list directives count
planned_if buffer ahead list given directives count same e n rule loose =
    let P : List Directive → Type 0 = λ xs. IsPlanned buffer ahead list xs count in
    let Q : ℕ → Type 0 = λ m. IsPlanned buffer ahead list (homed_of (schedule_of buffer ahead list)).directives m in
    subst P (sym (e ∙ ap (λ (xs : List Directive). (homed_of xs).directives) same))
    (subst Q (sym (n ∙ ap (λ (xs : List Directive). (homed_of xs).count) same)) (lists_are_planned buffer ahead list rule loose))

pub homed_if : (buffer : ℕ) (given directives : List Directive) (count : ℕ)
    → directives ≡ (homed_of given).directives → count ≡ (homed_of given).count → AreInTurn buffer at_rest given → IsHomed buffer given count directives
homed_if buffer given directives count e n turns =
    let P : List Directive → Type 0 = λ xs. IsHomed buffer given count xs in
    let Q : ℕ → Type 0 = λ m. IsHomed buffer given m (homed_of given).directives in
    subst P (sym e) (subst Q (sym n) (homes_keep_turns buffer given turns))

-- a value of which two facts are known
pub both_if : {X Y : Type 0} (P Q R : X → Type 0) → ((x : X) → P x → Q x → R x) → (r : Result X Y) → IfOk r P → IfOk r Q → IfOk r R
both_if P Q R f (Ok x) p q = f x p q
both_if P Q R f (Err y) p q = tt
