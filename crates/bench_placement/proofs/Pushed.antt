-- A list with one instruction more.
use Rattle.std.proofs.Common.{◌≡◌, ◌<◌, ◌+◌, ◌++◌, ◌∷◌, [], zero, suc, ℕ, List, Option, None, Some, IfSome, IsSomeAnd, length, arith, ⊎_elim}
use Rattle.std.specs.List.{slice_get}
use Rattle.std.proofs.lemmas.Bool.{cases_eq}
use Rattle.std.proofs.lemmas.List.{length_push}
use Rattle.mage_instr.specs.declared.op.Op.TheVariants as op
use Rattle.bench_placement.specs.Lists.{AreInputs, DefineWidth}
use Rattle.mage_instr.specs.declared.instr.TheConstants.{NEVER}
use Rattle.mage_instr.specs.declared.instr.Instr.{Instr}
use Rattle.mage_instr.specs.Sound.{Defines, arg_of, IsSound, IsSoundAt}

pub each-push : {X : Type 0} (P : ℕ → X → Type 0) (xs : List X) (x : X) → ((t : ℕ) → IfSome (slice_get xs t) (P t)) → P (length xs) x → (t : ℕ) → IfSome (slice_get (xs ++ x ∷ []) t) (P t)
each-push P [] x all here zero = here
each-push P [] x all here (suc t) = tt
each-push P (y ∷ ys) x all here zero = all 0
each-push P (y ∷ ys) x all here (suc t) = each-push (λ n. P (suc n)) ys x (λ n. all (suc n)) here t

pub some-push : {X : Type 0} (P : X → Type 0) (xs : List X) (x : X) (t : ℕ) → IsSomeAnd (slice_get xs t) P → IsSomeAnd (slice_get (xs ++ x ∷ []) t) P
some-push P [] x t h = absurd h
some-push P (y ∷ ys) x zero h = h
some-push P (y ∷ ys) x (suc t) h = some-push P ys x t h

pub some-last : {X : Type 0} (P : X → Type 0) (xs : List X) (x : X) → P x → IsSomeAnd (slice_get (xs ++ x ∷ []) (length xs)) P
some-last P [] x h = h
some-last P (y ∷ ys) x h = some-last P ys x h

IsSoundAt-push : (instrs : List Instr) (x i : Instr) (t : ℕ) → IsSoundAt instrs t i → IsSoundAt (instrs ++ x ∷ []) t i
IsSoundAt-push instrs x i t ok = (ok.0, λ k h. ((ok.1 k h).0, some-push _ instrs x (arg_of i k) (ok.1 k h).1))

if_some : {X : Type 0} (o : Option X) (P Q : X → Type 0) → ((x : X) → P x → Q x) → IfSome o P → IfSome o Q
if_some None P Q to h = tt
if_some (Some x) P Q to h = to x h

pub sound_pushed : (instrs : List Instr) (x : Instr) → IsSound instrs → IsSoundAt instrs (length instrs) x → length instrs < NEVER → IsSound (instrs ++ x ∷ [])
sound_pushed instrs x ok next room = record {
  count = omega (arith, room, length_push instrs x);
  each = each-push (IsSoundAt (instrs ++ x ∷ [])) instrs x (λ t. if_some (slice_get instrs t) _ _ (λ i. IsSoundAt-push instrs x i t) (ok.each t)) (IsSoundAt-push instrs x x (length instrs) next);
}

-- an input more
pub AreInputs-push : (instrs : List Instr) (x : Instr) → AreInputs instrs (length instrs) → x.op ≡ op.Input → AreInputs (instrs ++ x ∷ []) (length instrs + 1)
AreInputs-push instrs x was is t h = ⊎_elim (λ e. rw e (some-last _ instrs x is)) (λ ne. some-push _ instrs x t (was t (omega (arith, h, ne)))) (cases_eq t (length instrs))

pub AreInputs-kept : (instrs : List Instr) (x : Instr) (n : ℕ) → AreInputs instrs n → AreInputs (instrs ++ x ∷ []) n
AreInputs-kept instrs x n was t h = some-push _ instrs x t (was t h)

-- a value more of the one width
pub wide_pushed : (instrs : List Instr) (x : Instr) (width : ℕ) → DefineWidth instrs width → Defines x width → DefineWidth (instrs ++ x ∷ []) width
wide_pushed instrs x width was is = each-push (λ t i. Defines i width) instrs x was is
