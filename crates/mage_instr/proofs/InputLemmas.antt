-- The widths of instructions that can run.
use Rattle.std.proofs.Common.{◌≡◌, ◌≤◌, ◌<◌, ℕ, ◌+◌, ◌++◌, ◌∷◌, List, length, drop, get_or, Some, IfSome, ap, sym, subst, suc, arith}
use Rattle.std.proofs.Math.Seq.{drop-cons}
use Rattle.std.proofs.lemmas.Option.{slice_get-get_or}
use Rattle.mage_instr.specs.declared.instr.Instr.{Instr}
use Rattle.mage_instr.specs.Sound.{IsSound, IsSoundAt}
use Rattle.mage_instr.specs.declared.party.Party.{Party}
use Rattle.mage_instr.specs.Inputs.{widths_in}

-- the width of each is 1 to 64
pub width_at : (instrs : List Instr) (t : ℕ) (d : Instr) → IsSound instrs → t < length instrs → (1 ≤ (get_or instrs t d).width) × ((get_or instrs t d).width ≤ 128)
width_at instrs t d sound within =
    let at : IfSome (Some (get_or instrs t d)) (IsSoundAt instrs t) = subst (λ o. IfSome o (IsSoundAt instrs t)) (slice_get-get_or instrs t d within) (sound.each t) in
    (at.0.0, at.0.1)

-- behind some widths, those of an instruction and the ones after it are those that are left
pub widths-more : (front : List ℕ) (whose : Party) (instrs : List Instr) (t : ℕ) (d : Instr) → t < length instrs → front ++ widths_in whose (get_or instrs t d ∷ drop (t + 1) instrs) ≡ front ++ widths_in whose (drop t instrs)
widths-more front whose instrs t d within =
    let one : suc t ≡ t + 1 = omega arith in
    let next : drop t instrs ≡ get_or instrs t d ∷ drop (t + 1) instrs = subst (λ (n : ℕ). drop t instrs ≡ get_or instrs t d ∷ drop n instrs) one (drop-cons instrs t d within) in
    ap (λ (xs : List Instr). front ++ widths_in whose xs) (sym next)
