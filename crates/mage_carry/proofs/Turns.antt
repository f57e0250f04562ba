-- From directive to directive, and from worker to worker.
use Rattle.std.proofs.Common.{◌≡◌, ◌+◌, ◌<◌, ◌≤◌, ◌&&◌, ℕ, Bool, true, false, List, [], ◌∷◌, length, map, drop, get_or, Option, Some, None, refl, sym, ◌∙◌, ap}
use Rattle.std.specs.Prelude.{slice_get, nat_eq}
use Rattle.std.specs.List.{list_all}
use Rattle.std.specs.Option.{option_copied}
use Rattle.std.specs.Slice.{IsItemAt}
use Rattle.std.proofs.lemmas.Option.{slice_get_read}
use denote.Ref.{Bor}
use Rattle.mage_carry.proofs.Chains.{none_not_some}
use Rattle.std.proofs.lemmas.Bool.{eq-eqb, ne_eqb}
use Rattle.std.proofs.lemmas.List.{at_drop_more, at_drop_all}
use Rattle.std.proofs.lemmas.List.Folds.{list_all-map}
use Rattle.mage_instr.specs.declared.instr.Instr.{Instr}
use Rattle.mage_instr.specs.declared.instr.Program.{Program}
use Rattle.mage_instr.specs.declared.replaced.Job.{Job}
use Rattle.mage_instr.specs.declared.replaced.Limits.{Limits}
use Rattle.mage_instr.specs.declared.directive.Directive.{Directive}
use Rattle.mage_instr.specs.declared.directive.MemProgram.{MemProgram}
use Rattle.mage_carry.specs.declared.carry.Carry.{Carry}
use Rattle.mage_carry.specs.declared.carry.Carry.TheVariants as carry
use Rattle.mage_carry.specs.declared.transfer.Transfer.{Transfer}
use Rattle.mage_carry.specs.State.{State, is_idle}
use Rattle.mage_carry.specs.Steps.{is_job_of, finds_all, result_put, counted, do_job, step_of}
use Rattle.mage_carry.specs.Carrying.{walked, unless_broken, is_over, broken_at, break_of, unless_break, store_of, carried_from, carries_of}
use Rattle.mage_carry.specs.Views.{slot_of, Goes}

-- A directive `x` of a worker, at which a walk stands.
module _ (instrs : List Instr) (wires store : ℕ) (part : List Directive) (d : ℕ) (s : State) where
  abbrev pub break_from : State → (d : ℕ) → Option ℕ
  break_from state at = broken_at instrs (length part) (walked instrs wires store at state (drop at part))

  turn : (x : Directive) → d < length part → x ≡ get_or part d x → break_from s d ≡ broken_at instrs (length part) (unless_broken d (step_of instrs wires store s x) (λ after. walked instrs wires store (d + 1) after (drop (d + 1) part)))
  turn x within is =
      at_drop_more (λ (r : List Directive). broken_at instrs (length part) (walked instrs wires store d s r)) part d x within
      ∙ ap (λ (y : Directive). broken_at instrs (length part) (walked instrs wires store d s (y ∷ drop (d + 1) part))) (sym is)

  -- it keeps to the rules
  pub turn_goes : (x : Directive) (after : State) → d < length part → x ≡ get_or part d x → step_of instrs wires store s x ≡ Some after → break_from after (d + 1) ≡ break_from s d
  turn_goes x after within is h = sym (rw h at (turn x within is))

  -- it breaks them
  pub turn_breaks : (x : Directive) → d < length part → x ≡ get_or part d x → step_of instrs wires store s x ≡ None → break_from s d ≡ Some d
  turn_breaks x within is h = rw h at (turn x within is)

  -- behind the last one
  at_end : length part ≤ d → break_from s d ≡ (broken_at instrs (length part) (walked instrs wires store d s []))
  at_end past = at_drop_all (λ (r : List Directive). broken_at instrs (length part) (walked instrs wires store d s r)) part d past

  pub end_over : length part ≤ d → is_over instrs s ≡ true → break_from s d ≡ None
  end_over past over = at_end past ∙ rw over refl

  pub end_left : length part ≤ d → is_over instrs s ≡ false → break_from s d ≡ Some (length part)
  end_left past over = at_end past ∙ rw over refl

-- whether a walk is over, by what the code computes
pub over_is : (instrs : List Instr) (slots : List Transfer) (next : ℕ) (idle : Bool) → idle ≡ list_all (λ slot. is_idle (slot_of slot)) slots → next ≡ length instrs → idle ≡ (nat_eq next (length instrs) && list_all is_idle (map slot_of slots))
over_is instrs slots next idle is all = rw (eq-eqb next (length instrs) all) (is ∙ sym (list_all-map is_idle slot_of slots))

-- an instruction that was read
pub read_copied : (xs : List Instr) (n : ℕ) (r : Option (Bor Instr)) (i : Instr) → IsItemAt xs n r → option_copied r ≡ Some i → slice_get xs n ≡ Some i
read_copied xs n (Some x) i item e = slice_get_read xs (length xs) n x.now refl item.3.0 item.1 ∙ e
read_copied xs n None i item e = absurd (none_not_some i e)

-- An instruction that is done, or isn't.
module _ (instrs : List Instr) (wires : ℕ) (job : Job) (s : State) where
  pub job_none : slice_get instrs s.next ≡ None → do_job instrs wires job s ≡ None
  job_none is = rw is refl

  pub job_unfit : (i : Instr) → slice_get instrs s.next ≡ Some i → (is_job_of i job && finds_all wires s.frames i job) ≡ false → do_job instrs wires job s ≡ None
  job_unfit i is unfit = rw (is, unfit) refl

  pub job_done : (i : Instr) (after : State) → slice_get instrs s.next ≡ Some i → (is_job_of i job && finds_all wires s.frames i job) ≡ true → result_put instrs wires i job s ≡ Some after → do_job instrs wires job s ≡ Some (counted after)
  job_done i after is fit put = rw (is, fit, put) refl

  pub job_breaks : (i : Instr) → slice_get instrs s.next ≡ Some i → (is_job_of i job && finds_all wires s.frames i job) ≡ true → result_put instrs wires i job s ≡ None → do_job instrs wires job s ≡ None
  job_breaks i is fit put = rw (is, fit, put) refl

  -- by what comes of its result
  pub job_goes : (i : Instr) (goes : Bool) (after : State) → slice_get instrs s.next ≡ Some i → (is_job_of i job && finds_all wires s.frames i job) ≡ true → Goes goes after (result_put instrs wires i job s) → Goes goes (counted after) (do_job instrs wires job s)
  job_goes i true after is fit put = job_done i after is fit put
  job_goes i false after is fit put = job_breaks i is fit put

-- Worker k, with its instructions and its part.
module _ (limits : Limits) (stores : List ℕ) (programs : List (List Instr)) (parts : List (List Directive)) (k : ℕ) where
  abbrev pub carried_at : (k : ℕ) → Carry
  carried_at at = carried_from limits stores at (drop at programs) (drop at parts)

  worker_turn : (instrs : List Instr) (part : List Directive) → k < length programs → k < length parts → instrs ≡ get_or programs k instrs → part ≡ get_or parts k part → carried_at k ≡ unless_break k (break_of limits (store_of stores k) instrs part) (carried_at (k + 1))
  worker_turn instrs part in_programs in_parts own its =
      at_drop_more (λ (r : List (List Instr)). carried_from limits stores k r (drop k parts)) programs k instrs in_programs
      ∙ at_drop_more (λ (r : List (List Directive)). carried_from limits stores k (get_or programs k instrs ∷ drop (k + 1) programs) r) parts k part in_parts
      ∙ ap (λ (i : List Instr). carried_from limits stores k (i ∷ drop (k + 1) programs) (get_or parts k part ∷ drop (k + 1) parts)) (sym own)
      ∙ ap (λ (p : List Directive). carried_from limits stores k (instrs ∷ drop (k + 1) programs) (p ∷ drop (k + 1) parts)) (sym its)

  -- it breaks no rule
  pub worker_goes : (instrs : List Instr) (part : List Directive) → k < length programs → k < length parts → instrs ≡ get_or programs k instrs → part ≡ get_or parts k part → break_of limits (store_of stores k) instrs part ≡ None → carried_at (k + 1) ≡ carried_at k
  worker_goes instrs part in_programs in_parts own its h = sym (rw h at (worker_turn instrs part in_programs in_parts own its))

  -- it breaks one
  pub worker_breaks : (instrs : List Instr) (part : List Directive) (d : ℕ) → k < length programs → k < length parts → instrs ≡ get_or programs k instrs → part ≡ get_or parts k part → break_of limits (store_of stores k) instrs part ≡ Some d → carried_at k ≡ carry.No k d
  worker_breaks instrs part d in_programs in_parts own its h = rw h at (worker_turn instrs part in_programs in_parts own its)

  -- behind the last one
  pub workers_end : length programs ≤ k → carried_at k ≡ carry.Yes
  workers_end past = at_drop_all (λ (r : List (List Instr)). carried_from limits stores k r (drop k parts)) programs k past

-- the answer, where the numbers of workers agree, and where they don't
pub same_number : (program : Program) (plan : MemProgram) → length program.workers ≡ length plan.workers → carried_from plan.limits plan.stores 0 program.workers plan.workers ≡ carries_of program plan
unfolding carries_of
same_number program plan same = rw (eq-eqb (length program.workers) (length plan.workers) same) refl

pub other_number : (program : Program) (plan : MemProgram) → (length program.workers ≡ length plan.workers → ⊥) → carries_of program plan ≡ carry.No 0 0
unfolding carries_of
other_number program plan differ = rw (ne_eqb (length program.workers) (length plan.workers) differ) refl
