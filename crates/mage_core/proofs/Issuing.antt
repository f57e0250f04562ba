-- A part finishes as many transfers as it asks for.
use Rattle.std.proofs.Common.{◌≡◌, ◌≤◌, ◌<◌, ◌+◌, ℕ, zero, suc, Bool, true, false, cond, List, [], ◌∷◌, length, take, nat_eq, Option, Some, None, slice_get, refl, sym, ap, ◌∙◌, arith}
use Rattle.std.proofs.lemmas.Bool.{eqb-true, eqb-false}
use Rattle.std.specs.Prelude.{IfSome}
use Rattle.std.specs.Option.{option_or}
use Rattle.mage_instr.specs.declared.directive.Directive.{Directive}
use Rattle.mage_instr.specs.declared.directive.Directive.TheVariants as entry
use Rattle.mage_instr.specs.declared.directive.MemProgram.{MemProgram}
use Rattle.mage_instr.specs.declared.replaced.Limits.{Limits}
use Rattle.mage_verify.specs.declared.slot.Slot.{Slot}
use Rattle.mage_verify.specs.declared.slot.Slot.TheVariants as does
use Rattle.mage_verify.specs.declared.fault.VerifyFault.{VerifyFault}
use Rattle.mage_verify.specs.Faults.{own_fault, lowest, fault_of}
use Rattle.mage_verify.specs.Parts.{WorkerPart, part_of, parts_from, parts_of}
use Rattle.mage_verify.specs.Runs.{Meets, Runs}
use Rattle.mage_verify.specs.State.{State, opening, with_slot, after, after_all}
use Rattle.mage_verify.proofs.Running.{Runs-from_none}
use Rattle.mage_core.specs.Going.{read_in, reads_of, write_in, writes_of}
use Rattle.mage_core.specs.Issues.{issue_in, issues_in, issue_out, issues_out}

-- what counts of each of the first n slots
abbrev total : (one : Slot → ℕ) → (n : ℕ) → (ℕ → Slot) → ℕ
total one zero slot = 0
total one (suc n) slot = total one n slot + one (slot n)

-- a slot from n on doesn't count
total_off : (one : Slot → ℕ) (n s : ℕ) (now : Slot) (slot : ℕ → Slot) → n ≤ s → total one n (with_slot s now slot) ≡ total one n slot
total_off one zero s now slot past = refl
total_off one (suc n) s now slot past =
    let rest = total_off one n s now slot (omega (arith, past)) in
    let same : one (with_slot s now slot n) ≡ one (slot n) = go (nat_eq n s) refl in
    omega (arith, rest, same)
  where
    go : (b : Bool) → nat_eq n s ≡ b → one (cond b now (slot n)) ≡ one (slot n)
    go true e = absurd (let same : n ≡ s = eqb-true n s e in omega (arith, same, past))
    go false e = refl

-- one slot changes
total_put : (one : Slot → ℕ) (n s : ℕ) (now : Slot) (slot : ℕ → Slot) → s < n → total one n (with_slot s now slot) + one (slot s) ≡ total one n slot + one now
total_put one zero s now slot below = absurd (omega (arith, below))
total_put one (suc n) s now slot below = go (nat_eq n s) refl (total_put one n s now slot)
  where
    go : (b : Bool) → nat_eq n s ≡ b → (s < n → total one n (with_slot s now slot) + one (slot s) ≡ total one n slot + one now) →
        (total one n (with_slot s now slot) + one (cond b now (slot n))) + one (slot s) ≡ (total one n slot + one (slot n)) + one now
    go true e more =
        let same : n ≡ s = eqb-true n s e in
        let rest = total_off one n s now slot (omega (arith, same)) in
        let here : one (slot n) ≡ one (slot s) = ap (λ k. one (slot k)) same in
        omega (arith, rest, here)
    go false e more =
        let apart : n ≡ s → ⊥ = eqb-false n s e in
        let rest = more (omega (arith, below, apart)) in
        omega (arith, rest)

abbrev reads_one : Slot → ℕ
reads_one does.Idle = 0
reads_one (does.Reading page) = 1
reads_one (does.Writing page) = 0

abbrev writes_one : Slot → ℕ
writes_one does.Idle = 0
writes_one (does.Reading page) = 0
writes_one (does.Writing page) = 1

total_none : (one : Slot → ℕ) → one does.Idle ≡ 0 → (n : ℕ) (slot : ℕ → Slot) → ((s : ℕ) → s < n → slot s ≡ does.Idle) → total one n slot ≡ 0
total_none one none zero slot idle = refl
total_none one none (suc n) slot idle =
    let rest = total_none one none n slot (λ s below. idle s (omega (arith, below))) in
    let here : one (slot n) ≡ 0 = ap one (idle n (omega arith)) ∙ none in
    omega (arith, rest, here)

module _ (limits : Limits) (pages : ℕ) where
  abbrev reading : State → ℕ
  reading state = total reads_one limits.buffer state.slot

  abbrev writing : State → ℕ
  writing state = total writes_one limits.buffer state.slot

  reads_step : (state : State) (x : Directive) → Meets limits pages state x → reading (after state x) + read_in x ≡ reading state + issue_in x
  reads_step state (entry.Fresh frame page) m = refl
  reads_step state (entry.IssueIn slot page) m =
      let put = total_put reads_one limits.buffer slot (does.Reading page) state.slot m.0 in
      let was : reads_one (state.slot slot) ≡ 0 = ap reads_one m.2 in
      omega (arith, put, was)
  reads_step state (entry.FinishIn slot frame) m =
      let put = total_put reads_one limits.buffer slot does.Idle state.slot m.0 in
      let was : reads_one (state.slot slot) ≡ 1 = ap reads_one m.2.1 in
      omega (arith, put, was)
  reads_step state (entry.IssueOut slot frame page) m =
      let put = total_put reads_one limits.buffer slot (does.Writing page) state.slot m.0 in
      let was : reads_one (state.slot slot) ≡ 0 = ap reads_one m.3 in
      omega (arith, put, was)
  reads_step state (entry.FinishOut slot) m =
      let put = total_put reads_one limits.buffer slot does.Idle state.slot m.0 in
      let was : reads_one (state.slot slot) ≡ 0 = ap reads_one m.1.1 in
      omega (arith, put, was)
  reads_step state (entry.Do job) m = refl

  writes_step : (state : State) (x : Directive) → Meets limits pages state x → writing (after state x) + write_in x ≡ writing state + issue_out x
  writes_step state (entry.Fresh frame page) m = refl
  writes_step state (entry.IssueIn slot page) m =
      let put = total_put writes_one limits.buffer slot (does.Reading page) state.slot m.0 in
      let was : writes_one (state.slot slot) ≡ 0 = ap writes_one m.2 in
      omega (arith, put, was)
  writes_step state (entry.FinishIn slot frame) m =
      let put = total_put writes_one limits.buffer slot does.Idle state.slot m.0 in
      let was : writes_one (state.slot slot) ≡ 0 = ap writes_one m.2.1 in
      omega (arith, put, was)
  writes_step state (entry.IssueOut slot frame page) m =
      let put = total_put writes_one limits.buffer slot (does.Writing page) state.slot m.0 in
      let was : writes_one (state.slot slot) ≡ 0 = ap writes_one m.3 in
      omega (arith, put, was)
  writes_step state (entry.FinishOut slot) m =
      let put = total_put writes_one limits.buffer slot does.Idle state.slot m.0 in
      let was : writes_one (state.slot slot) ≡ 1 = ap writes_one m.1.1 in
      omega (arith, put, was)
  writes_step state (entry.Do job) m = refl

  -- what is finished from a state on was asked for from it on, or in flight in it
  from_here : (state : State) (xs : List Directive) → ((d : ℕ) → IfSome (slice_get xs d) (Meets limits pages (after_all state (take d xs)))) →
      ((s : ℕ) → s < limits.buffer → (after_all state xs).slot s ≡ does.Idle) →
      (reads_of xs ≡ issues_in xs + reading state) × (writes_of xs ≡ issues_out xs + writing state)
  from_here state [] each idle =
      let no_reads = total_none reads_one refl limits.buffer state.slot idle in
      let no_writes = total_none writes_one refl limits.buffer state.slot idle in
      (omega (arith, no_reads), omega (arith, no_writes))
  from_here state (x ∷ xs) each idle =
      let rest = from_here (after state x) xs (λ d. each (suc d)) idle in
      let more_reads = reads_step state x (each zero) in
      let more_writes = writes_step state x (each zero) in
      let reads = rest.0 in
      let writes = rest.1 in
      (omega (arith, reads, more_reads), omega (arith, writes, more_writes))

take_whole : {X : Type 0} (xs : List X) → take (length xs) xs ≡ xs
take_whole [] = refl
take_whole (x ∷ xs) = ap (λ l. x ∷ l) (take_whole xs)

pub finishes_all : (part : WorkerPart) → Runs part → (reads_of part.directives ≡ issues_in part.directives) × (writes_of part.directives ≡ issues_out part.directives)
finishes_all part runs =
    let all = from_here part.limits part.pages opening part.directives runs.each
    (λ s below. ap (λ (l : List Directive). (after_all opening l).slot s) (sym (take_whole part.directives)) ∙ runs.idle s below) in
    let no_reads = total_none reads_one refl part.limits.buffer opening.slot (λ s below. refl) in
    let no_writes = total_none writes_one refl part.limits.buffer opening.slot (λ s below. refl) in
    let reads = all.0 in
    let writes = all.1 in
    (omega (arith, reads, no_reads), omega (arith, writes, no_writes))

-- ---- the parts of a program

or_first : (a b : Option VerifyFault) → option_or a b ≡ None → a ≡ None
or_first None b e = refl
or_first (Some f) b e = absurd cc

or_second : (a b : Option VerifyFault) → option_or a b ≡ None → b ≡ None
or_second None b e = e
or_second (Some f) b e = absurd cc

each_finishes : (limits : Limits) (stores : List ℕ) (first : ℕ) (workers : List (List Directive)) → lowest own_fault (parts_from limits stores first workers) ≡ None →
    (w : ℕ) → IfSome (slice_get workers w) (λ directives. (reads_of directives ≡ issues_in directives) × (writes_of directives ≡ issues_out directives))
each_finishes limits stores first [] none zero = tt
each_finishes limits stores first [] none (suc w) = tt
each_finishes limits stores first (x ∷ xs) none zero =
    let part = part_of limits stores first x in
    finishes_all part (Runs-from_none part (or_first (own_fault part) (lowest own_fault (parts_from limits stores (first + 1) xs)) none))
each_finishes limits stores first (x ∷ xs) none (suc w) =
    each_finishes limits stores (first + 1) xs
    (or_second (own_fault (part_of limits stores first x)) (lowest own_fault (parts_from limits stores (first + 1) xs)) none) w

pub program_finishes : (plan : MemProgram) → fault_of plan ≡ None →
    (w : ℕ) → IfSome (slice_get plan.workers w) (λ directives. (reads_of directives ≡ issues_in directives) × (writes_of directives ≡ issues_out directives))
program_finishes plan none = each_finishes plan.limits plan.stores 0 plan.workers (or_first (lowest own_fault (parts_of plan)) _ none)
