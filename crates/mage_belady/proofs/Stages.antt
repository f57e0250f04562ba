-- The list so far, and what is kept, before step t.
use Rattle.std.proofs.Common.{◌≡◌, ◌<◌, ◌+◌, ℕ, List, [], ◌∷◌, ◌++◌, Bool, true, false, cond, length, get_or, drop, nat_eq, Option, None, refl, sym, ◌∙◌, ap, arith, subst}
use Rattle.std.specs.HashSet.{contains}
use Rattle.std.proofs.lemmas.Bool.{false≢true}
use Rattle.std.proofs.lemmas.List.Sums.{sum_by-drop_more}
use Rattle.std.proofs.Math.Path.{fun_ext}
use Rattle.mage_instr.specs.declared.instr.Instr.{Instr}
use Rattle.mage_instr.specs.declared.instr.Place.{Place}
use Rattle.mage_instr.specs.declared.instr.Step.{Step}
use Rattle.mage_instr.specs.declared.replaced.Job.{Job}
use Rattle.mage_instr.specs.declared.replaced.Replaced.TheVariants as entry
use Rattle.mage_instr.specs.Opcodes.{has_result}
use Rattle.mage_next.specs.Next.{first_use}
use Rattle.mage_next.proofs.FirstUses.{first_use_before}
use Rattle.mage_belady.specs.declared.paging.Paging.{Paging}
use Rattle.mage_belady.specs.Plan.{is_in}
use Rattle.mage_belady.specs.Rule.{Held, resident, job_in, after_result, rule_from, rule_of, page_uses}
use Rattle.mage_belady.specs.Uses.{frame_at}
use Rattle.mage_belady.specs.Kept.{Moment, Keeps, IsServed, any_page, before, served, dirty_of, frame_if}
use Rattle.mage_belady.proofs.Scans.{touched, touched-zero, touched-more}
use Rattle.mage_belady.proofs.Bringing.{length-resident}
use Rattle.mage_belady.proofs.Least.{resident-after}
use Rattle.mage_belady.proofs.Serving.{rule_more}

-- the moment before step t, and the same with the uses after the step
abbrev pub moment_at : List Step → (t : ℕ) → List Held → Moment
moment_at trace t held =
    record { held = held; next = first_use (drop t trace) t; known = touched t trace }

abbrev pub looking_past : List Step → (t : ℕ) → List Held → Moment
looking_past trace t held =
    record { held = held; next = first_use (drop (t + 1) trace) (t + 1); known = touched t trace }

pub record Stage (frames : ℕ) (instrs : List Instr) (places : List Place) (trace : List Step)
    (t : ℕ) (paging : Paging) : Type 0 where
  pub held : List Held
  pub kept : Keeps frames (moment_at trace t held) any_page paging
  pub list : paging.list.items ++ rule_from frames places t (touched t trace) held (drop t instrs)
      (drop t trace) ≡ rule_of frames instrs places trace

none_either : (b : Bool) → None ≡ cond {A = Option ℕ} b None None
none_either true = refl
none_either false = refl

-- before the first step
pub Stage-none : (frames : ℕ) (instrs : List Instr) (places : List Place) (trace : List Step)
    (paging : Paging) → paging.list.items ≡ [] → paging.dirty.items ≡ []
    → ((n page : ℕ) → frame_at paging.uses n page ≡ None)
    → ((page : ℕ) → contains nat_eq paging.seen page ≡ false)
    → Stage frames instrs places trace 0 paging
Stage-none frames instrs places trace paging list dirty uses seen = record {
  held = [];
  kept = record {
    distinct = tt;
    fits = omega arith;
    known = λ q i. absurd (false≢true i);
    seen = λ q. seen q ∙ ap (is_in q) (sym (touched-zero trace));
    dirty = dirty;
    uses = λ n q. uses n q ∙ none_either (nat_eq n (first_use trace 0 q));
  };
  list = rw (list, touched-zero trace) refl;
}

module _ (frames : ℕ) (instrs : List Instr) (places : List Place) (trace : List Step) (t : ℕ)
    (i : Instr) (d : Step) (in_instrs : t < length instrs) (in_trace : t < length trace) where
  -- what is kept, as the step sees it
  pub Keeps-before : (held : List Held) (paging : Paging)
      → Keeps frames (moment_at trace t held) any_page paging
      → Keeps frames (before (get_or trace t d) t (looking_past trace t held)) any_page paging
  Keeps-before held paging k =
      subst (λ (f : ℕ → ℕ). Keeps frames
      (record { held = held; next = f; known = touched t trace }) any_page paging)
      (fun_ext (λ q. first_use_before trace t d in_trace q)) k

  -- after the step
  pub Stage-more : (old mid new : Paging) (at : List ℕ) (job : Job)
      (stage : Stage frames instrs places trace t old)
      → IsServed frames (get_or trace t d) (looking_past trace t stage.held) any_page old mid at
      → job ≡ job_in
      (served frames (get_or trace t d) (looking_past trace t stage.held)).held places t
      (get_or instrs t i)
      → new.list.items ≡ mid.list.items ++ entry.Do job ∷ []
      → new.dirty.items
      ≡ dirty_of (after_result places t (get_or instrs t i)
      (served frames (get_or trace t d) (looking_past trace t stage.held)).held)
      → new.uses ≡ mid.uses → new.seen ≡ mid.seen → Stage frames instrs places trace (t + 1) new
  Stage-more old mid new at job stage s its_job emitted dirty uses seen =
      let brought = (served frames (get_or trace t d) (looking_past trace t stage.held)).held in
      let after : List Held = after_result places t (get_or instrs t i) brought in
      let same : resident
      (after_result places t (get_or instrs t i)
      (served frames (get_or trace t d) (looking_past trace t stage.held)).held)
      ≡ resident (served frames (get_or trace t d) (looking_past trace t stage.held)).held =
      resident-after (has_result (get_or instrs t i).op)
      (get_or places t (record { page = 0; offset = 0 })).page brought in
      let more = touched-more trace t d in_trace in
      let k = s.kept in
      record {
        held = after;
        kept = record {
          distinct = rw same k.distinct;
          fits = (let one = length-resident after in let two = length-resident brought in
              let three = ap length same in let f = k.fits in omega (arith, one, two, three, f));
          known = λ q m. ap (is_in q) more ∙ k.known q (rw same at m);
          seen = λ q. ap (λ set. contains nat_eq set q) seen ∙ k.seen q ∙ ap (is_in q) (sym more);
          dirty = dirty;
          uses = λ n q. ap (λ map. frame_at map n q) uses ∙ k.uses n q
              ∙ ap (λ r. cond (nat_eq n (first_use (drop (t + 1) trace) (t + 1) q))
              (frame_if q r) None) (sym same);
        };
        list = rule_more frames instrs places trace t i d in_instrs in_trace (touched t trace)
            (touched (t + 1) trace)
            (first_use (drop (t + 1) trace) (t + 1)) stage.held brought after
            old.list.items mid.list.items new.list.items
            (rule_of frames instrs places trace) job stage.list refl s.list refl its_job emitted
            refl more;
      }

  -- the steps that are left
  pub page_uses-more : page_uses (drop t trace)
      ≡ (get_or trace t d).count + page_uses (drop (t + 1) trace)
  page_uses-more = sum_by-drop_more (λ step. step.count) trace t d in_trace
