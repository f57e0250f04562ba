-- One worker of the core along the walk of its directives: what it does next, and where that leads.
use Rattle.std.proofs.Common.{◌≡◌, Bool, true, ◌+◌, ◌*◌, ℕ, suc, true, false, List, [], ◌∷◌, ◌++◌, length, Option, Some, None, Ok, refl, sym, ap, ◌∙◌, slice_get, arith, append-nil, append_assoc}
use Rattle.std.proofs.lemmas.List.{length-append, length-replicate}
use Rattle.mage_instr.specs.declared.directive.Directive.{Directive}
use Rattle.mage_instr.specs.declared.directive.Directive.TheVariants as entry
use Rattle.mage_instr.specs.declared.directive.MemProgram.{MemProgram}
use Rattle.mage_instr.specs.declared.instr.Instr.{Instr}
use Rattle.mage_network.specs.Workers.{Moves, Moved, Worker, said_in, doing as doing_on}
use Rattle.mage_network.specs.Network as net
use Rattle.mage_network.specs.Slots as core
use Rattle.mage_driver.specs.Rules.{Rules, AreLawful}
use Rattle.mage_driver.specs.Calls.{Call}
use Rattle.mage_steps.specs.Frames.{cleared}
use Rattle.mage_steps.specs.Engines.{Engine, advanced, doing_of, doing_at}
use Rattle.mage_steps.specs.Core.{Core, directives_of, core_act}
use Rattle.mage_carry.specs.State as walk
use Rattle.mage_carry.specs.Steps.{step_of}
use Rattle.mage_carry.specs.Carrying.{walked, unless_broken, is_over}
use Rattle.mage_carried.proofs.Relation.{Follows}
use Rattle.mage_carried.proofs.Transfers.{follows_fresh, follows_issue_in, follows_issue_out, follows_finish_in, follows_finish_out}

-- the item behind some others
pub behind : {X : Type 0} (front : List X) (x : X) (rest : List X) → slice_get (front ++ x ∷ rest) (length front) ≡ Some x
behind [] x rest = refl
behind (y ∷ front) x rest = behind front x rest

pub behind_all : {X : Type 0} (front : List X) → slice_get (front ++ []) (length front) ≡ None
behind_all [] = refl
behind_all (y ∷ front) = behind_all front

-- the walk of some directives comes to its end, and is over there
abbrev pub WalksOn : (instrs : List Instr) (page store : ℕ) → walk.State → List Directive → Type 0
WalksOn instrs page store w left =
    (d : ℕ) × (end : walk.State) × (walked instrs page store d w left ≡ Ok end) × (is_over instrs end ≡ true)

-- its first step
step_so : (o : Option walk.State) (instrs : List Instr) (page store d : ℕ) (left : List Directive) (end : walk.State) →
    unless_broken d o (λ after. walked instrs page store (d + 1) after left) ≡ Ok end →
    (after : walk.State) × (o ≡ Some after) × (walked instrs page store (d + 1) after left ≡ Ok end)
step_so None instrs page store d left end e = absurd cc
step_so (Some after) instrs page store d left end e = (after, refl, e)

pub walks_first : (instrs : List Instr) (page store : ℕ) (w : walk.State) (x : Directive) (left : List Directive) →
    WalksOn instrs page store w (x ∷ left) →
    (after : walk.State) × (step_of instrs page store w x ≡ Some after) × WalksOn instrs page store after left
walks_first instrs page store w x left h =
    let s = step_so (step_of instrs page store w x) instrs page store h.0 left h.1 h.2 in
    (s.0, s.1, (h.0 + 1, h.1, s.2, h.3))

module _ {W : Type 0} (rules : Rules W) (lawful : AreLawful rules) (fine : rules.State → Bool) (plan : MemProgram) (n : ℕ) (instrs : List Instr) (store : ℕ) where
  -- A worker that has the values of its first instructions, with its driver in this state and these calls
  -- made, and these directives left.
  pub record Stands (values : List (List W)) (driver : rules.State) (calls : List (Call rules.State W))
      (left : List Directive) (worker : Worker (Core rules plan) (Call rules.State W) (List ℕ)) : Type 0 where
    pub w : walk.State
    pub follows : Follows rules plan.limits.page instrs values w worker.state.engine.bank worker.state.slots worker.state.pages
    pub wire : worker.state.engine.wire ≡ 0
    pub unfinished : worker.state.engine.is_finished ≡ false
    pub same : worker.state.engine.driver ≡ driver
    pub is_fine : fine driver ≡ true
    pub front : List Directive
    pub split : directives_of plan n ≡ front ++ left
    pub place : worker.state.engine.place ≡ length front
    pub walks : WalksOn instrs plan.limits.page store w left
    pub said : said_in worker.past ≡ calls

  -- the directive at which it stands
  pub stands_at : (values : List (List W)) (driver : rules.State) (calls : List (Call rules.State W)) (x : Directive)
      (rest : List Directive) (worker : Worker (Core rules plan) (Call rules.State W) (List ℕ)) →
      Stands values driver calls (x ∷ rest) worker →
      slice_get (directives_of plan n) worker.state.engine.place ≡ Some x
  stands_at values driver calls x rest worker h =
      ap (slice_get (directives_of plan n)) h.place ∙ ap (λ l. slice_get l (length h.front)) h.split ∙ behind h.front x rest

  -- a directive that no instruction is
  abbrev pub IsTransfer : Directive → Type 0
  IsTransfer (entry.Fresh frame page) = Unit {0}
  IsTransfer (entry.IssueIn slot page) = Unit {0}
  IsTransfer (entry.FinishIn slot frame) = Unit {0}
  IsTransfer (entry.IssueOut slot frame page) = Unit {0}
  IsTransfer (entry.FinishOut slot) = Unit {0}
  IsTransfer (entry.Do job) = ⊥

  -- where it stands after an act
  abbrev pub GoesOn : (values : List (List W)) → (driver : rules.State) → (calls : List (Call rules.State W)) → (left : List Directive) →
      (worker : Worker (Core rules plan) (Call rules.State W) (List ℕ)) → (said : List (Call rules.State W)) → Type 0
  GoesOn values driver calls left worker said = (after : Core rules plan)
      × (core_act rules plan n worker.state ≡ Moves said after)
      × Stands values driver calls left (doing_on worker (Moved said) after)

  moves_on : (values : List (List W)) (driver : rules.State) (calls : List (Call rules.State W)) (x : Directive)
      (rest : List Directive) (worker : Worker (Core rules plan) (Call rules.State W) (List ℕ)) (after : Core rules plan) (w : walk.State) →
      Stands values driver calls (x ∷ rest) worker →
      core.or_stops (core.act_in core.served_at_once (doing_of rules plan.limits.page x worker.state.engine) worker.state) ≡ Moves [] after →
      Follows rules plan.limits.page instrs values w after.engine.bank after.slots after.pages →
      after.engine.wire ≡ 0 → after.engine.is_finished ≡ false → after.engine.driver ≡ driver →
      after.engine.place ≡ suc worker.state.engine.place → WalksOn instrs plan.limits.page store w rest →
      GoesOn values driver calls rest worker []
  moves_on values driver calls x rest worker after w h act follows wire going same place walks = (
    after,
    ap (λ o. core.or_stops (core.act_in core.served_at_once (doing_at rules plan.limits.page o worker.state.engine) worker.state))
        (stands_at values driver calls x rest worker h) ∙ act,
    record {
      w = w;
      follows = follows;
      wire = wire;
      unfinished = going;
      same = same;
      is_fine = h.is_fine;
      front = h.front ++ x ∷ [];
      split = h.split ∙ sym (append_assoc h.front (x ∷ []) rest);
      place = place ∙ ap suc h.place ∙ sym (length-append h.front (x ∷ [])
          ∙ (let e : length h.front + 1 ≡ suc (length h.front) = omega arith in e));
      walks = walks;
      said = append-nil (said_in worker.past) ∙ h.said;
    },
  )

  cleared_long : length (cleared rules plan.limits.page) ≡ plan.limits.page * rules.wire_bytes
  cleared_long = length-replicate (plan.limits.page * rules.wire_bytes) 0

  -- a transfer is done
  pub transfer_goes : (values : List (List W)) (driver : rules.State) (calls : List (Call rules.State W)) (x : Directive)
      (rest : List Directive) (worker : Worker (Core rules plan) (Call rules.State W) (List ℕ)) → IsTransfer x →
      Stands values driver calls (x ∷ rest) worker → GoesOn values driver calls rest worker []
  transfer_goes values driver calls (entry.Fresh frame page) rest worker is h =
      let s = walks_first instrs plan.limits.page store h.w (entry.Fresh frame page) rest h.walks in
      moves_on values driver calls (entry.Fresh frame page) rest worker
      (record worker.state {
        engine = record (advanced worker.state.engine) {
          bank = net.put worker.state.engine.bank frame (cleared rules plan.limits.page);
        };
      }) s.0 h refl
      (follows_fresh rules lawful plan.limits.page instrs values h.w s.0 worker.state.engine.bank worker.state.slots
      worker.state.pages frame (cleared rules plan.limits.page) s.1 cleared_long h.follows)
      refl h.unfinished h.same refl s.2
  transfer_goes values driver calls (entry.IssueIn slot page) rest worker is h =
      let s = walks_first instrs plan.limits.page store h.w (entry.IssueIn slot page) rest h.walks in
      let f = follows_issue_in rules lawful plan.limits.page instrs values h.w s.0 worker.state.engine.bank worker.state.slots
      worker.state.pages store slot page s.1 h.follows in
      moves_on values driver calls (entry.IssueIn slot page) rest worker
      (core.served_at_once slot (core.Reads page) (advanced worker.state.engine) worker.state) s.0 h
      (ap (λ word. core.or_stops (core.asks_of {L = Call rules.State W} {W = List ℕ} word
      (core.served_at_once slot (core.Reads page) (advanced worker.state.engine) worker.state))) f.0) f.1
      refl h.unfinished h.same refl s.2
  transfer_goes values driver calls (entry.FinishIn slot frame) rest worker is h =
      let s = walks_first instrs plan.limits.page store h.w (entry.FinishIn slot frame) rest h.walks in
      let f = follows_finish_in rules lawful plan.limits.page instrs values h.w s.0 worker.state.engine.bank worker.state.slots
      worker.state.pages slot frame s.1 h.follows in
      let to : List ℕ → Engine rules.State = λ bytes. record (advanced worker.state.engine) {
        bank = net.put worker.state.engine.bank frame bytes;
      } in
      moves_on values driver calls (entry.FinishIn slot frame) rest worker
      (core.finished slot (to f.bytes) worker.state) s.0 h
      (ap (λ word. core.or_stops (core.finishes_read {L = Call rules.State W} {W = List ℕ} word slot to worker.state)) f.served) f.follows
      refl h.unfinished h.same refl s.2
  transfer_goes values driver calls (entry.IssueOut slot frame page) rest worker is h =
      let s = walks_first instrs plan.limits.page store h.w (entry.IssueOut slot frame page) rest h.walks in
      let f = follows_issue_out rules lawful plan.limits.page instrs values h.w s.0 worker.state.engine.bank worker.state.slots
      worker.state.pages store slot frame page s.1 h.follows in
      let transfer : core.Transfer (List ℕ) = core.Writes page (worker.state.engine.bank frame) in
      moves_on values driver calls (entry.IssueOut slot frame page) rest worker
      (core.served_at_once slot transfer (advanced worker.state.engine) worker.state) s.0 h
      (ap (λ word. core.or_stops (core.asks_of {L = Call rules.State W} {W = List ℕ} word
      (core.served_at_once slot transfer (advanced worker.state.engine) worker.state))) f.0) f.1
      refl h.unfinished h.same refl s.2
  transfer_goes values driver calls (entry.FinishOut slot) rest worker is h =
      let s = walks_first instrs plan.limits.page store h.w (entry.FinishOut slot) rest h.walks in
      let f = follows_finish_out rules lawful plan.limits.page instrs values h.w s.0 worker.state.engine.bank worker.state.slots
      worker.state.pages slot s.1 h.follows in
      moves_on values driver calls (entry.FinishOut slot) rest worker
      (core.finished slot (advanced worker.state.engine) worker.state) s.0 h
      (ap (λ word. core.or_stops (core.finishes_write {L = Call rules.State W} {W = List ℕ} word slot
      (advanced worker.state.engine) worker.state)) f.served) f.follows
      refl h.unfinished h.same refl s.2
  transfer_goes values driver calls (entry.Do job) rest worker is h = absurd is
