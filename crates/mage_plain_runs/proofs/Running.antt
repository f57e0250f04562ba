-- The whole unplaced program over plain drivers, and what it means.
use Rattle.std.proofs.Common.{◌≡◌, ◌≤◌, ◌<◌, ◌+◌, ◌^◌, ℕ, zero, suc, Bool, true, false, cond, List, [], ◌∷◌, ◌++◌, length, drop, map, get_or, Some, refl, sym, ap, ◌∙◌, subst, slice_get, arith}
use Rattle.std.specs.List.{filter}
use Rattle.mage_instr.specs.declared.instr.Instr.{Instr}
use Rattle.mage_instr.specs.declared.party.Party.{Party}
use Rattle.mage_instr.specs.Inputs.{is_input_of, widths_in}
use Rattle.mage_plain.specs.Plain.{Plain}
use Rattle.mage_plain_runs.specs.Plainly.{Fit, InputsFit, outputs_in}
use Rattle.mage_plain_runs.proofs.Telling.{Tells}

-- one worker of the unplaced program, and what it means
pub record Agrees (instrs rest : List Instr) (wires : List (List Bool)) (state : Plain) (numbers garbler evaluator outputs : List ℕ) : Type 0 where
  pub tells : Tells instrs wires numbers
  pub garbler_left : state.garbler ≡ garbler
  pub evaluator_left : state.evaluator ≡ evaluator
  pub put : state.outputs ≡ outputs
  pub room : length outputs + outputs_in rest ≤ state.room
  pub fits : InputsFit rest garbler evaluator
  pub done : List Instr
  pub split : instrs ≡ done ++ rest
  pub count : length done ≡ length wires

-- where its next instruction stands
pub next_here : (instrs : List Instr) (i : Instr) (rest : List Instr) (wires : List (List Bool)) (state : Plain)
    (numbers garbler evaluator outputs : List ℕ) → Agrees instrs (i ∷ rest) wires state numbers garbler evaluator outputs →
    slice_get instrs (length wires) ≡ Some i
next_here instrs i rest wires state numbers garbler evaluator outputs h =
    ap (slice_get instrs) (sym h.count) ∙ ap (λ l. slice_get l (length h.done)) h.split ∙ behind h.done i rest
  where
    behind : (front : List Instr) (x : Instr) (more : List Instr) → slice_get (front ++ x ∷ more) (length front) ≡ Some x
    behind [] x more = refl
    behind (y ∷ front) x more = behind front x more

-- the values of a party that an instruction doesn't take fit what is left of its widths
pub fit_other : (whose : Party) (i : Instr) (rest : List Instr) (values : List ℕ) → is_input_of whose i ≡ false →
    Fit values (widths_in whose (i ∷ rest)) → Fit values (widths_in whose rest)
fit_other whose i rest values e h =
    subst (Fit values) (ap (λ b. map (λ (x : Instr). x.width) (cond b (i ∷ filter (is_input_of whose) rest) (filter (is_input_of whose) rest))) e) h

pub fit_next : (whose : Party) (i : Instr) (rest : List Instr) (values : List ℕ) → is_input_of whose i ≡ true →
    Fit values (widths_in whose (i ∷ rest)) → (get_or values 0 0 < 2 ^ i.width) × Fit (drop 1 values) (widths_in whose rest)
fit_next whose i rest values e h =
    let f : Fit values (i.width ∷ widths_in whose rest) =
    subst (Fit values) (ap (λ b. map (λ (x : Instr). x.width) (cond b (i ∷ filter (is_input_of whose) rest) (filter (is_input_of whose) rest))) e) h in
    (f 0 (omega arith), λ k within. dropped values k (f (suc k) (let t : suc k < suc (length (widths_in whose rest)) = omega arith in t)))
  where
    dropped : (l : List ℕ) (k : ℕ) → get_or l (suc k) 0 < 2 ^ get_or (widths_in whose rest) k 0 →
        get_or (drop 1 l) k 0 < 2 ^ get_or (widths_in whose rest) k 0
    dropped [] k g = subst (λ n. n < 2 ^ get_or (widths_in whose rest) k 0) (none k) g
      where
        none : (m : ℕ) → get_or [] (suc m) 0 ≡ get_or (drop 1 (let l : List ℕ = [] in l)) m 0
        none zero = refl
        none (suc m) = refl
    dropped (x ∷ l) k g = g
