-- A memory program without a fault carries a program exactly where the one with store pages does.
use Rattle.std.proofs.Common.{◌≡◌, ◌↔◌, ◌+◌, ℕ, Bool, true, false, cond, List, [], ◌∷◌, ◌++◌, Option, None, Some, length, map, nat_eq, refl, sym, ◌∙◌, ap, subst, append_assoc}
use Rattle.std.proofs.lemmas.List.{length-map, length_push}
use Rattle.mage_instr.specs.declared.instr.Instr.{Instr}
use Rattle.mage_instr.specs.declared.directive.Directive.{Directive}
use Rattle.mage_instr.specs.declared.replaced.Limits.{Limits}
use Rattle.mage_carry.specs.declared.carry.Carry.{Carry}
use Rattle.mage_carry.specs.declared.carry.Carry.TheVariants as carry
use Rattle.mage_carry.specs.Carrying.{break_of, unless_break, store_of, carried_from, carries_of}
use Rattle.mage_residency.proofs.Cutting.{cut_transfers_carry}
use Rattle.mage_residency.proofs.Joining.{transfers_at_once_carry}
use Rattle.mage_residency.proofs.Renaming.{names_dont_matter}
use Rattle.mage_sched.specs.Homes.{Homed, homed_of}
use Rattle.mage_sched.specs.Plainly.{plainly}
use Rattle.mage_sched.specs.Turns.{at_rest}
use Rattle.mage_sched.proofs.Planned.{homes_keep_turns}
use Rattle.mage_verify.specs.Faults.{own_fault, lowest, joint_fault}
use Rattle.mage_verify.specs.Parts.{part_of, parts_from, parts_of}
use Rattle.mage_verify.proofs.Tests.{none_first, none_second}
use Rattle.mage_rehome.specs.Rehomed.{RenamingKeepsCarried}
use Rattle.mage_rehome.proofs.Turned.{AreTurned, turned}

-- ---- one worker

module _ (limits : Limits) (store : ℕ) (instrs : List Instr) (part : List Directive) (are : AreTurned limits.buffer store at_rest part) where
  -- directives in turn break no rule of the walk exactly where those with store pages do
  part_carries : (break_of limits (homed_of part).count instrs (homed_of part).directives ≡ None) ↔ (break_of limits store instrs part ≡ None)
  part_carries =
      let after = (homed_of part).directives in
      let homed = homes_keep_turns limits.buffer part are.turns in
      let names = names_dont_matter limits.frames limits.page instrs (plainly at_rest part) (plainly at_rest after) homed.renamed in (
        λ none. cut_transfers_carry limits store instrs part are.turns are.below
            (names.1 (transfers_at_once_carry limits (homed_of part).count instrs after homed.below homed.turns none)),
        λ none. cut_transfers_carry limits (homed_of part).count instrs after homed.turns homed.below
            (names.0 (transfers_at_once_carry limits store instrs part are.below are.turns none)),
      )

-- ---- all workers

abbrev pub counts_of : List (List Directive) → List ℕ
counts_of parts = map (λ (part : Homed). part.count) (map homed_of parts)

abbrev pub lists_of : List (List Directive) → List (List Directive)
lists_of parts = map (λ (part : Homed). part.directives) (map homed_of parts)

pub count_here : (before : List (List Directive)) (part : List Directive) (parts : List (List Directive))
    → store_of (counts_of (before ++ part ∷ parts)) (length before) ≡ (homed_of part).count
count_here [] part parts = refl
count_here (first ∷ before) part parts = count_here before part parts

no_break : (worker : ℕ) (o : Option ℕ) (others : Carry) → o ≡ None → others ≡ carry.Yes → unless_break worker o others ≡ carry.Yes
no_break worker None others e f = f
no_break worker (Some d) others e f = absurd (cc)

neither_breaks : (worker : ℕ) (o : Option ℕ) (others : Carry) → unless_break worker o others ≡ carry.Yes → (o ≡ None) × (others ≡ carry.Yes)
neither_breaks worker None others h = (refl, h)
neither_breaks worker (Some d) others h = absurd (cc)

module _ (limits : Limits) (stores : List ℕ) where
  -- the same of workers from one on, where all of them have so many store pages
  abbrev BothCarry : (counts : List ℕ) (worker : ℕ) (programs : List (List Instr)) (parts : List (List Directive)) → Type 0
  BothCarry counts worker programs parts =
      (carried_from limits counts worker programs (lists_of parts) ≡ carry.Yes) ↔ (carried_from limits stores worker programs parts ≡ carry.Yes)

  both_carry : (before parts : List (List Directive)) (programs : List (List Instr)) → lowest own_fault (parts_from limits stores (length before) parts) ≡ None
      → BothCarry (counts_of (before ++ parts)) (length before) programs parts
  both_carry before [] [] none = (λ h. refl, λ h. refl)
  both_carry before [] (instrs ∷ programs) none = (λ h. refl, λ h. refl)
  both_carry before (part ∷ parts) [] none = (λ h. refl, λ h. refl)
  both_carry before (part ∷ parts) (instrs ∷ programs) none =
      let worker = length before in
      let all = before ++ part ∷ parts in
      let first = none_first (own_fault (part_of limits stores worker part)) (lowest own_fault (parts_from limits stores (worker + 1) parts)) none in
      let others = none_second (own_fault (part_of limits stores worker part)) (lowest own_fault (parts_from limits stores (worker + 1) parts)) none in
      let are = turned limits (store_of stores worker) worker part first in
      let here = part_carries limits (store_of stores worker) instrs part are in
      let count : store_of (counts_of all) worker ≡ (homed_of part).count = count_here before part parts in
      let one_more : length (before ++ part ∷ []) ≡ worker + 1 = length_push before part in
      let further = both_carry (before ++ part ∷ []) parts programs (subst (λ k. lowest own_fault (parts_from limits stores k parts) ≡ None) (sym one_more) others) in
      let moved : BothCarry (counts_of ((before ++ part ∷ []) ++ parts)) (worker + 1) programs parts =
      subst (λ k. BothCarry (counts_of ((before ++ part ∷ []) ++ parts)) k programs parts) one_more further in
      let rest : BothCarry (counts_of all) (worker + 1) programs parts =
      subst (λ xs. BothCarry (counts_of xs) (worker + 1) programs parts) (append_assoc before (part ∷ []) parts) moved in
      let counted : break_of limits (store_of (counts_of all) worker) instrs (homed_of part).directives ≡ break_of limits (homed_of part).count instrs (homed_of part).directives =
      ap (λ (n : ℕ). break_of limits n instrs (homed_of part).directives) count in (
        λ h.
            let both = neither_breaks worker (break_of limits (store_of (counts_of all) worker) instrs (homed_of part).directives) (carried_from limits (counts_of all) (worker + 1) programs (lists_of parts)) h in
            no_break worker (break_of limits (store_of stores worker) instrs part) (carried_from limits stores (worker + 1) programs parts) (here.0 (sym counted ∙ both.0)) (rest.0 both.1),
        λ h.
            let both = neither_breaks worker (break_of limits (store_of stores worker) instrs part) (carried_from limits stores (worker + 1) programs parts) h in
            no_break worker (break_of limits (store_of (counts_of all) worker) instrs (homed_of part).directives) (carried_from limits (counts_of all) (worker + 1) programs (lists_of parts)) (counted ∙ here.1 both.0) (rest.1 both.1),
      )

-- another number of workers is a break in both
both_or_neither : (b : Bool) (x y : Carry) → (x ≡ carry.Yes) ↔ (y ≡ carry.Yes)
    → (cond b x (carry.No 0 0) ≡ carry.Yes) ↔ (cond b y (carry.No 0 0) ≡ carry.Yes)
both_or_neither true x y both = both
both_or_neither false x y both = (λ h. h, λ h. h)

pub renaming_keeps_carried : RenamingKeepsCarried
unfolding carries_of
renaming_keeps_carried program plan none =
    let limits = plan.limits in
    let new = carried_from limits (counts_of plan.workers) 0 program.workers (lists_of plan.workers) in
    let old = carried_from limits plan.stores 0 program.workers plan.workers in
    let own = none_first (lowest own_fault (parts_of plan)) (joint_fault (map (λ part. part.directives) (parts_of plan))) none in
    let both : (new ≡ carry.Yes) ↔ (old ≡ carry.Yes) = both_carry limits plan.stores [] plan.workers program.workers own in
    let as_many : length (lists_of plan.workers) ≡ length plan.workers =
    length-map (map homed_of plan.workers) (λ (part : Homed). part.directives) ∙ length-map plan.workers homed_of in
    subst (λ (n : ℕ). (cond (nat_eq (length program.workers) n) new (carry.No 0 0) ≡ carry.Yes) ↔ (cond (nat_eq (length program.workers) (length plan.workers)) old (carry.No 0 0) ≡ carry.Yes))
    (sym as_many) (both_or_neither (nat_eq (length program.workers) (length plan.workers)) new old both)
