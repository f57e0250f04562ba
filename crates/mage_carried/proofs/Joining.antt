-- The workers of the core together: turns of one worker alone.
use Rattle.std.proofs.Common.{◌≡◌, ◌≤◌, ◌<◌, ℕ, Bool, true, false, cond, List, [], ◌∷◌, ◌++◌, nat_eq, refl, sym, ap, ◌∙◌, subst, arith}
use Rattle.std.proofs.lemmas.Bool.{eqb-true, eq-eqb}
use mathlib.Core.Path.{fun_ext}
use Rattle.mage_instr.specs.declared.directive.Directive.{Directive}
use Rattle.mage_instr.specs.declared.directive.Directive.TheVariants as entry
use Rattle.mage_instr.specs.declared.directive.MemProgram.{MemProgram}
use Rattle.mage_instr.specs.declared.instr.Instr.{Instr}
use Rattle.mage_linked.specs.Workers.{with_at}
use Rattle.mage_network.specs.Workers.{Act, Moves, Moved, Worker, fresh, doing as doing_on}
use Rattle.mage_network.specs.Network as net
use Rattle.mage_network.specs.Together.{Joint, Alone, joint, joint_run, moves}
use Rattle.mage_driver.specs.Rules.{Rules, AreLawful}
use Rattle.mage_driver.specs.Calls.{Call}
use Rattle.mage_steps.specs.Core.{Core, core_act, core_at_first}
use Rattle.mage_carried.proofs.Standing as standing
use Rattle.mage_carried.proofs.Standing.{transfer_goes, GoesOn}

-- one run after another
pub run_then : {S L W : Type 0} (next : ℕ → S → Act S L W) (turns more : List Joint) (ws : ℕ → Worker S L W) →
    joint_run next (turns ++ more) ws ≡ joint_run next more (joint_run next turns ws)
run_then next [] more ws = refl
run_then next (turn ∷ turns) more ws = run_then next turns more (joint next turn ws)

-- a fact that some turns lead to
abbrev pub Leads : {S L W : Type 0} → (ℕ → S → Act S L W) → ((ℕ → Worker S L W) → Type 0) → (ℕ → Worker S L W) → Type 0
Leads next P ws = (turns : List Joint) × P (joint_run next turns ws)

pub leads_then : {S L W : Type 0} (next : ℕ → S → Act S L W) (P Q : (ℕ → Worker S L W) → Type 0) (ws : ℕ → Worker S L W) →
    Leads next P ws → ((others : ℕ → Worker S L W) → P others → Leads next Q others) → Leads next Q ws
leads_then next P Q ws h k =
    let l = k (joint_run next h.0 ws) h.1 in (h.0 ++ l.0, subst Q (sym (run_then next h.0 l.0 ws)) l.1)

pub alone_moves : {S L W : Type 0} (next : ℕ → S → Act S L W) (n : ℕ) (said : List L) (after : S) (ws : ℕ → Worker S L W) →
    next n (ws n).state ≡ Moves said after →
    joint next (Alone n) ws ≡ net.put ws n (doing_on (ws n) (Moved said) after)
alone_moves next n said after ws e = ap (λ a. moves n a ws) e

pub with_here : {A : Type 0} (f : ℕ → A) (n : ℕ) (x : A) → with_at f n x n ≡ x
with_here f n x = ap (λ b. cond b x (f n)) (eq-eqb n n refl)

pub with_other : {A : Type 0} (f : ℕ → A) (n : ℕ) (x : A) (m : ℕ) → nat_eq m n ≡ false → with_at f n x m ≡ f m
with_other f n x m e = ap (λ b. cond b x (f m)) e

-- what a function has already, given anew
pub with_same : {A : Type 0} (f : ℕ → A) (n : ℕ) (x : A) → f n ≡ x → with_at f n x ≡ f
with_same {A} f n x e = fun_ext (λ m. go m (nat_eq m n) refl)
  where
    go : (m : ℕ) (b : Bool) → nat_eq m n ≡ b → cond b x (f m) ≡ f m
    go m true e' = sym e ∙ ap f (sym (eqb-true m n e'))
    go m false e' = refl

pub with_twice : {A : Type 0} (f : ℕ → A) (n : ℕ) (x y : A) → with_at (with_at f n x) n y ≡ with_at f n y
with_twice {A} f n x y = fun_ext (λ m. go m (nat_eq m n))
  where
    go : (m : ℕ) (b : Bool) → cond b y (cond b x (f m)) ≡ cond b y (f m)
    go m true = refl
    go m false = refl

module _ {W : Type 0} (rules : Rules W) (lawful : AreLawful rules) (fine : rules.State → Bool) (plan : MemProgram) (count : ℕ) (drivers : ℕ → rules.State)
    (instrs : ℕ → List Instr) (stores : ℕ → ℕ) where
  abbrev pub Workers : Type 0
  Workers = ℕ → Worker (Core rules plan) (Call rules.State W) (List ℕ)

  -- each worker has these values, its driver this state, these calls made, and these directives left; beside
  -- the workers none has done anything
  pub record Joined (values : ℕ → List (List W)) (states : ℕ → rules.State) (calls : ℕ → List (Call rules.State W))
      (left : ℕ → List Directive) (ws : Workers) : Type 0 where
    pub each : (n : ℕ) → n < count →
        standing.Stands rules lawful fine plan n (instrs n) (stores n) (values n) (states n) (calls n) (left n) (ws n)
    pub beside : (n : ℕ) → count ≤ n → ws n ≡ fresh (core_at_first rules plan drivers n)

  -- one worker goes on
  pub joined_one : (values : ℕ → List (List W)) (states : ℕ → rules.State) (calls : ℕ → List (Call rules.State W))
      (left : ℕ → List Directive) (ws : Workers) (n : ℕ) (v : List (List W)) (s : rules.State) (c : List (Call rules.State W))
      (l : List Directive) (w : Worker (Core rules plan) (Call rules.State W) (List ℕ)) →
      Joined values states calls left ws → n < count →
      standing.Stands rules lawful fine plan n (instrs n) (stores n) v s c l w →
      Joined (with_at values n v) (with_at states n s) (with_at calls n c) (with_at left n l) (net.put ws n w)
  joined_one values states calls left ws n v s c l w h within one = record {
    each = λ m below. each m below (nat_eq m n) refl;
    beside = λ m past. beside m past (nat_eq n m) refl;
  }
    where
      flip : (m : ℕ) → nat_eq m n ≡ false → nat_eq n m ≡ false
      flip m e = go (nat_eq n m) refl
        where
          go : (b : Bool) → nat_eq n m ≡ b → b ≡ false
          go true e' = (let t : true ≡ false = sym (eq-eqb m n (sym (eqb-true n m e'))) ∙ e in absurd cc)
          go false e' = refl

      each : (m : ℕ) → m < count → (b : Bool) → nat_eq m n ≡ b →
          standing.Stands rules lawful fine plan m (instrs m) (stores m) (with_at values n v m) (with_at states n s m)
          (with_at calls n c m) (with_at left n l m) (net.put ws n w m)
      each m below true e =
          subst (λ k. standing.Stands rules lawful fine plan k (instrs k) (stores k) (with_at values n v k) (with_at states n s k)
          (with_at calls n c k) (with_at left n l k) (net.put ws n w k)) (sym (eqb-true m n e))
          (subst (λ (x : Worker (Core rules plan) (Call rules.State W) (List ℕ)). standing.Stands rules lawful fine plan n (instrs n)
          (stores n) (with_at values n v n) (with_at states n s n) (with_at calls n c n) (with_at left n l n) x)
          (sym (ap (λ b. cond b w (ws n)) (eq-eqb n n refl)))
          (subst (λ b. standing.Stands rules lawful fine plan n (instrs n) (stores n) (cond b v (values n)) (cond b s (states n))
          (cond b c (calls n)) (cond b l (left n)) w) (sym (eq-eqb n n refl)) one))
      each m below false e =
          subst (λ b. standing.Stands rules lawful fine plan m (instrs m) (stores m) (with_at values n v m) (with_at states n s m)
          (with_at calls n c m) (with_at left n l m) (cond b w (ws m))) (sym (flip m e))
          (subst (λ b. standing.Stands rules lawful fine plan m (instrs m) (stores m) (cond b v (values m)) (cond b s (states m))
          (cond b c (calls m)) (cond b l (left m)) (ws m)) (sym e) (h.each m below))

      beside : (m : ℕ) → count ≤ m → (b : Bool) → nat_eq n m ≡ b → cond b w (ws m) ≡ fresh (core_at_first rules plan drivers m)
      beside m past true e = absurd (let t = eqb-true n m e in omega arith)
      beside m past false e = h.beside m past

  -- the directives begin with an instruction, or none is left
  abbrev pub IsReady : List Directive → Type 0
  IsReady [] = Unit {0}
  IsReady (entry.Fresh frame page ∷ rest) = ⊥
  IsReady (entry.IssueIn slot page ∷ rest) = ⊥
  IsReady (entry.FinishIn slot frame ∷ rest) = ⊥
  IsReady (entry.IssueOut slot frame page ∷ rest) = ⊥
  IsReady (entry.FinishOut slot ∷ rest) = ⊥
  IsReady (entry.Do job ∷ rest) = Unit {0}

  -- some turns lead to where a worker comes to its next instruction, or to its end
  abbrev pub ReadyAfter : (values : ℕ → List (List W)) → (states : ℕ → rules.State) → (calls : ℕ → List (Call rules.State W)) →
      (left : ℕ → List Directive) → (n : ℕ) → Workers → Type 0
  ReadyAfter values states calls left n ws = (ds : List Directive) × IsReady ds × Joined values states calls (with_at left n ds) ws

  here_ready : (values : ℕ → List (List W)) (states : ℕ → rules.State) (calls : ℕ → List (Call rules.State W))
      (left : ℕ → List Directive) (n : ℕ) (ds : List Directive) (ws : Workers) → left n ≡ ds → IsReady ds →
      Joined values states calls left ws → Leads (core_act rules plan) (ReadyAfter values states calls left n) ws
  here_ready values states calls left n ds ws e ready h =
      ([], (ds, ready, subst (λ l. Joined values states calls l ws) (sym (with_same left n ds e)) h))

  -- one transfer, and then on
  transfer_then : (values : ℕ → List (List W)) (states : ℕ → rules.State) (calls : ℕ → List (Call rules.State W))
      (left : ℕ → List Directive) (n : ℕ) (x : Directive) (rest : List Directive) (ws : Workers) → n < count → left n ≡ x ∷ rest →
      standing.IsTransfer rules lawful fine plan n (instrs n) (stores n) x → Joined values states calls left ws →
      ((ws' : Workers) → Joined values states calls (with_at left n rest) ws' →
      Leads (core_act rules plan) (ReadyAfter values states calls (with_at left n rest) n) ws') →
      Leads (core_act rules plan) (ReadyAfter values states calls left n) ws
  transfer_then values states calls left n x rest ws within e is h next =
      let g = transfer_goes rules lawful fine plan n (instrs n) (stores n) (values n) (states n) (calls n) x rest (ws n) is
      (subst (λ l. standing.Stands rules lawful fine plan n (instrs n) (stores n) (values n) (states n) (calls n) l (ws n)) e
      (h.each n within)) in
      let ws' = net.put ws n (doing_on (ws n) (Moved []) g.0) in
      let one : Joined values states calls (with_at left n rest) ws' =
      subst (λ v. Joined v states calls (with_at left n rest) ws') (with_same values n (values n) refl)
      (subst (λ s. Joined (with_at values n (values n)) s calls (with_at left n rest) ws') (with_same states n (states n) refl)
      (subst (λ c. Joined (with_at values n (values n)) (with_at states n (states n)) c (with_at left n rest) ws')
      (with_same calls n (calls n) refl)
      (joined_one values states calls left ws n (values n) (states n) (calls n) rest (doing_on (ws n) (Moved []) g.0) h within g.2))) in
      let l = next ws' one in (
        Alone n ∷ l.0,
        (
          l.1.0,
          l.1.1,
          subst (λ f. Joined values states calls f (joint_run (core_act rules plan) (Alone n ∷ l.0) ws)) (with_twice left n rest l.1.0)
              (subst (λ w. Joined values states calls (with_at (with_at left n rest) n l.1.0) (joint_run (core_act rules plan) l.0 w))
              (sym (alone_moves (core_act rules plan) n [] g.0 ws g.1)) l.1.2),
        ),
      )

  pub local_runs : (ds : List Directive) (values : ℕ → List (List W)) (states : ℕ → rules.State) (calls : ℕ → List (Call rules.State W))
      (left : ℕ → List Directive) (n : ℕ) (ws : Workers) → n < count → left n ≡ ds → Joined values states calls left ws →
      Leads (core_act rules plan) (ReadyAfter values states calls left n) ws
  local_runs [] values states calls left n ws within e h = here_ready values states calls left n [] ws e tt h
  local_runs (entry.Fresh frame page ∷ rest) values states calls left n ws within e h =
      transfer_then values states calls left n (entry.Fresh frame page) rest ws within e tt h
      (λ ws' h'. local_runs rest values states calls (with_at left n rest) n ws' within (with_here left n rest) h')
  local_runs (entry.IssueIn slot page ∷ rest) values states calls left n ws within e h =
      transfer_then values states calls left n (entry.IssueIn slot page) rest ws within e tt h
      (λ ws' h'. local_runs rest values states calls (with_at left n rest) n ws' within (with_here left n rest) h')
  local_runs (entry.FinishIn slot frame ∷ rest) values states calls left n ws within e h =
      transfer_then values states calls left n (entry.FinishIn slot frame) rest ws within e tt h
      (λ ws' h'. local_runs rest values states calls (with_at left n rest) n ws' within (with_here left n rest) h')
  local_runs (entry.IssueOut slot frame page ∷ rest) values states calls left n ws within e h =
      transfer_then values states calls left n (entry.IssueOut slot frame page) rest ws within e tt h
      (λ ws' h'. local_runs rest values states calls (with_at left n rest) n ws' within (with_here left n rest) h')
  local_runs (entry.FinishOut slot ∷ rest) values states calls left n ws within e h =
      transfer_then values states calls left n (entry.FinishOut slot) rest ws within e tt h
      (λ ws' h'. local_runs rest values states calls (with_at left n rest) n ws' within (with_here left n rest) h')
  local_runs (entry.Do job ∷ rest) values states calls left n ws within e h =
      here_ready values states calls left n (entry.Do job ∷ rest) ws e tt h
