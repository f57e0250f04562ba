-- The directives of a walk that breaks no rule do just its instructions, in their order.
use Rattle.std.proofs.Common.{◌≡◌, ◌+◌, zero, suc, ℕ, List, [], ◌∷◌, Some, None, length, drop, ◌∙◌, ap, arith, subst}
use Rattle.std.specs.Prelude.{slice_get, nat_eq}
use Rattle.std.specs.List.{list_all}
use Rattle.std.proofs.lemmas.Bool.{and_parts, eqb-true}
use Rattle.std.proofs.lemmas.List.{drop_all}
use Rattle.mage_instr.specs.declared.instr.Instr.{Instr}
use Rattle.mage_instr.specs.declared.replaced.Limits.{Limits}
use Rattle.mage_instr.specs.declared.directive.Directive.{Directive}
use Rattle.mage_instr.specs.declared.directive.Directive.TheVariants as entry
use Rattle.mage_carry.specs.State as walk
use Rattle.mage_carry.specs.Steps.{step_of}
use Rattle.mage_carry.specs.Carrying.{start, walked, broken_at, break_of}
use Rattle.mage_verify.specs.State.{State, opening, after}
use Rattle.mage_accepted.proofs.Own.{AreTied, IsJobOf, Does, passes, goes_first, over_at_end, begins_tied}

-- the jobs among some directives are these instructions
abbrev pub AreJobs : List Directive → List Instr → Type 0
AreJobs [] instrs = instrs ≡ []
AreJobs (entry.Do job ∷ part) instrs = (i : Instr) × (rest : List Instr) × (instrs ≡ i ∷ rest) × IsJobOf job i × AreJobs part rest
AreJobs (entry.Fresh frame page ∷ part) instrs = AreJobs part instrs
AreJobs (entry.IssueIn slot page ∷ part) instrs = AreJobs part instrs
AreJobs (entry.FinishIn slot frame ∷ part) instrs = AreJobs part instrs
AreJobs (entry.IssueOut slot frame page ∷ part) instrs = AreJobs part instrs
AreJobs (entry.FinishOut slot ∷ part) instrs = AreJobs part instrs

-- what is found at a place stands in front of what is behind it
pub drop_found : {X : Type 0} (xs : List X) (n : ℕ) (x : X) → slice_get xs n ≡ Some x → drop n xs ≡ x ∷ drop (n + 1) xs
drop_found [] zero x h = absurd cc
drop_found [] (suc n) x h = absurd cc
drop_found (y ∷ xs) zero x h = ap (λ z. z ∷ xs) (let s : Some y ≡ Some x = h in cc)
drop_found (y ∷ xs) (suc n) x h = let e : suc (n + 1) ≡ suc n + 1 = omega arith in drop_found xs n x h ∙ ap (λ k. x ∷ drop k (y ∷ xs)) e

module _ (limits : Limits) (instrs : List Instr) (store count : ℕ) where
  jobs_from : (part : List Directive) (d : ℕ) (w : walk.State) (v : State) → AreTied limits w v
      → broken_at instrs count (walked instrs limits.page store d w part) ≡ None
      → AreJobs part (drop w.next instrs)
  jobs_from [] d w v t h =
      let next = eqb-true w.next (length instrs) (and_parts (nat_eq w.next (length instrs)) (list_all walk.is_idle w.slots) (over_at_end instrs count w h)).0 in
      drop_all w.next instrs (omega (arith, next))
  jobs_from (x ∷ part) d w v t h =
      let first = goes_first instrs count d (step_of instrs limits.page store w x) (λ next. walked instrs limits.page store (d + 1) next part) h in
      let p = passes limits instrs store w v t x first.0 first.1 in
      goes x first.0 p.done (jobs_from part (d + 1) first.0 (after v x) p.tied first.2)
    where
      stays : (next : walk.State) → next.next ≡ w.next → AreJobs part (drop next.next instrs)
          → AreJobs part (drop w.next instrs)
      stays next e rest = subst (λ n. AreJobs part (drop n instrs)) e rest

      goes : (y : Directive) (next : walk.State) → Does limits instrs w next y → AreJobs part (drop next.next instrs)
          → AreJobs (y ∷ part) (drop w.next instrs)
      goes (entry.Fresh frame page) next e rest = stays next e rest
      goes (entry.IssueIn slot page) next e rest = stays next e rest
      goes (entry.FinishIn slot frame) next e rest = stays next e rest
      goes (entry.IssueOut slot frame page) next e rest = stays next e rest
      goes (entry.FinishOut slot) next e rest = stays next e rest
      goes (entry.Do job) next found rest =
          (found.instr, drop (w.next + 1) instrs, drop_found instrs w.next found.instr found.here, found.is, subst (λ n. AreJobs part (drop n instrs)) found.after rest)

pub are_jobs : (limits : Limits) (store : ℕ) (instrs : List Instr) (part : List Directive)
    → break_of limits store instrs part ≡ None → AreJobs part instrs
unfolding break_of
are_jobs limits store instrs part h = jobs_from limits instrs store (length part) part 0 (start limits.frames limits.buffer) opening (begins_tied limits) h
