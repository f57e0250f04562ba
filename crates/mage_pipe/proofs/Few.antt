-- A program has few workers.
use Rattle.std.proofs.Common.{◌≡◌, ◌≤◌, ◌∙◌, ap, ℕ, zero, suc, Bool, true, false, List, [], ◌∷◌, length, Option, Some, None, Result, Ok, Err, IfOk, refl, arith, length-append}
use Rattle.std.specs.Prelude.{◌&&◌, nat_le, if◌then◌else◌}
use Rattle.std.proofs.lemmas.List.{length-map}
use Rattle.std.proofs.lemmas.Bool.Decides.{nat_tests}
use Rattle.mage_chains.specs.Chains.{◌>>=◌}
use Rattle.mage_constants.specs.Answer.{Gives, or_fault}
use Rattle.mage_constants.specs.Tokens.{number_of}
use Rattle.mage_instr.specs.Opcodes.{most_workers}
use Rattle.mage_instr.specs.declared.instr.Program.{Program}
use Rattle.mage_lex.specs.declared.fault.LangFault.{LangFault}
use Rattle.mage_lex.specs.declared.fault.LangKind.TheVariants as wrong
use Rattle.mage_lex.specs.declared.token.Token.{Token}
use Rattle.mage_linked.specs.Emission.{own_instrs, program_of}
use Rattle.mage_linked.specs.Workers.{below}
use Rattle.mage_linked.specs.declared.emitted.Emitted.{Emitted}
use Rattle.mage_tree.specs.declared.tree.Stmt.{Stmt}
use Rattle.mage_unroll.specs.Unrolled.{workers_in, workers_of, emitted_by, unrolled_of}

pub length-below : (n : ℕ) → length (below n) ≡ n
length-below zero = refl
length-below (suc n) = let more = length-append (below n) (n ∷ []) in let less = length-below n in omega (arith, more, less)

few_in : (n w : ℕ) → workers_in n ≡ Some w → w ≤ most_workers
few_in n w h = go (nat_le 1 n) (nat_le n most_workers) refl h where
  go : (some few : Bool) → nat_le n most_workers ≡ few → (if some && few then Some n else None) ≡ Some w → w ≤ most_workers
  go true true e h = let same : n ≡ w = cc in grind (arith, nat_tests)
  go true false e h = absurd (cc)
  go false few e h = absurd (cc)

few_of : (count : Option Token) (w : ℕ) → workers_of count ≡ Ok w → w ≤ most_workers
few_of None w h = let one : 1 ≡ w = cc in omega arith
few_of (Some number) w h = go (workers_in (number_of number)) refl h where
  go : (o : Option ℕ) → workers_in (number_of number) ≡ o → or_fault wrong.BadWorker number o ≡ Ok w → w ≤ most_workers
  go (Some n) e h = few_in (number_of number) w (e ∙ cc)
  go None e h = absurd (cc)

-- a program of so many workers
few_after : (w : ℕ) (emitted : Result (List Emitted) LangFault) (program : Program) → w ≤ most_workers → (emitted >>= (λ e. Ok (program_of w e))) ≡ Ok program → length program.workers ≤ most_workers
few_after w (Ok e) program few h =
    let is : program_of w e ≡ program = cc in
    let all = length-map (below w) (own_instrs e) in
    let numbers = length-below w in
    let same = ap (λ (p : Program). length p.workers) is in
    omega (arith, all, numbers, few, same)
few_after w (Err fault) program few h = absurd (cc)

-- the program has as many workers as the source says, which are few
pub few_workers : (count : Option Token) (body : List Stmt) (program : Program) → unrolled_of count body ≡ Ok program → length program.workers ≤ most_workers
unfolding unrolled_of
few_workers count body program h = go (workers_of count) refl h where
  go : (workers : Result ℕ LangFault) → workers_of count ≡ workers → (workers >>= (λ w. emitted_by w body >>= (λ e. Ok (program_of w e)))) ≡ Ok program → length program.workers ≤ most_workers
  go (Ok w) of h = few_after w (emitted_by w body) program (few_of count w of) h
  go (Err fault) of h = absurd (cc)

pub few_answer : (answer : Result Program LangFault) (count : Option Token) (body : List Stmt) → Gives {X = Program} (λ program. program) answer (unrolled_of count body) → IfOk answer (λ program. length program.workers ≤ most_workers)
few_answer (Ok program) count body h = few_workers count body program h
few_answer (Err fault) count body h = tt
