-- Two runs together whose workers have acts of one shape take the same turns; so the answered run ends where the run over pages does.
use Rattle.std.proofs.Common.{◌≡◌, ℕ, suc, Bool, true, false, cond, ◌&&◌, List, [], ◌∷◌, Option, None, Some, slice_get, nat_eq, refl, ap, subst}
use Rattle.std.proofs.lemmas.Bool.{eqb-true}
use Rattle.mage_instr.specs.declared.directive.Directive.{Directive}
use Rattle.mage_instr.specs.declared.directive.Directive.TheVariants as entry
use Rattle.mage_instr.specs.declared.directive.MemProgram.{MemProgram}
use Rattle.mage_instr.specs.declared.op.Op.{Op}
use Rattle.mage_instr.specs.declared.op.Op.TheVariants as op
use Rattle.mage_instr.specs.declared.replaced.Job.{Job}
use Rattle.mage_network.specs.Workers.{Act, Moves, Sends, Takes, Stops, Worker, Moved, Sent, Took, doing as doing_on, fresh}
use Rattle.mage_network.specs.Network as net
use Rattle.mage_network.specs.Together.{Joint, Alone, Hands, joint, joint_run, moves, hands}
use Rattle.mage_network.specs.Slots.{Transfer, Reads, Writes, Slot, Idle, Asked, Busy, Served, act_of, act_in, asks_of, finishes_read, finishes_write, or_stops, served_at_once, bytes_of, finished}
use Rattle.mage_network.specs.Answers.{Hearing, Does, Answered, act_on, hears}
use Rattle.mage_network.specs.Reading.{hears_in, asks_flying, reads_flying, writes_flying, act_flying, flies}
use Rattle.mage_driver.specs.Rules.{Rules}
use Rattle.mage_driver.specs.Calls.{Call, Finish, call_of}
use Rattle.mage_steps.specs.Engines.{Engine, doing_at, act_of_op, advanced, past_wire, finishes}
use Rattle.mage_steps.specs.Core.{Core, Flight, directives_of, core_act, core_at_first, flight_at_first, answered_act, answered_after}
use Rattle.mage_steps.specs.Frames.{cleared}
use Rattle.mage_steps.specs.Laws.{EndsInJoint}

-- ---- acts of one shape

-- two acts that are of one kind, with the same other worker, and lead to states that stay so
abbrev pub ActsAlike : {S T L M W : Type 0} → (R : S → T → Type 0) → Act S L W → Act T M W → Type 0
ActsAlike R (Moves said s) (Moves more t) = R s t
ActsAlike R (Sends to wire s) (Sends other same t) = (to ≡ other) × R s t
ActsAlike {S} {T} {L} {M} {W} R (Takes from s) (Takes other t) = (from ≡ other) × ((wire same : W) → R (s wire) (t same))
ActsAlike R Stops Stops = Unit {0}
ActsAlike R _ _ = ⊥

module _ {S T L M W : Type 0} (next : ℕ → S → Act S L W) (other : ℕ → T → Act T M W) (R : ℕ → S → T → Type 0)
    (alike : (n : ℕ) (s : S) (t : T) → R n s t → ActsAlike (R n) (next n s) (other n t)) where
  abbrev Beside : (ℕ → Worker S L W) → (ℕ → Worker T M W) → Type 0
  Beside xs ys = (n : ℕ) → R n (xs n).state (ys n).state

  put_beside : (xs : ℕ → Worker S L W) (ys : ℕ → Worker T M W) (n : ℕ) (x : Worker S L W) (y : Worker T M W) → Beside xs ys → R n x.state y.state →
      Beside (net.put xs n x) (net.put ys n y)
  put_beside xs ys n x y h r m = go (nat_eq n m) refl
    where
      go : (b : Bool) → nat_eq n m ≡ b → R m (cond b x (xs m)).state (cond b y (ys m)).state
      go true e = subst (λ k. R k x.state y.state) (eqb-true n m e) r
      go false e = h m

  moves_beside : (n : ℕ) (a : Act S L W) (b : Act T M W) (xs : ℕ → Worker S L W) (ys : ℕ → Worker T M W) → ActsAlike (R n) a b → Beside xs ys →
      Beside (moves n a xs) (moves n b ys)
  moves_beside n (Moves said s) (Moves more t) xs ys r h = put_beside xs ys n (doing_on (xs n) (Moved said) s) (doing_on (ys n) (Moved more) t) h r
  moves_beside n (Moves said s) (Sends to wire t) xs ys r h = absurd r
  moves_beside n (Moves said s) (Takes from t) xs ys r h = absurd r
  moves_beside n (Moves said s) Stops xs ys r h = absurd r
  moves_beside n (Sends to wire s) (Moves more t) xs ys r h = absurd r
  moves_beside n (Sends to wire s) (Sends to' wire' t) xs ys r h = h
  moves_beside n (Sends to wire s) (Takes from t) xs ys r h = absurd r
  moves_beside n (Sends to wire s) Stops xs ys r h = absurd r
  moves_beside n (Takes from s) (Moves more t) xs ys r h = absurd r
  moves_beside n (Takes from s) (Sends to wire t) xs ys r h = absurd r
  moves_beside n (Takes from s) (Takes from' t) xs ys r h = h
  moves_beside n (Takes from s) Stops xs ys r h = absurd r
  moves_beside n Stops (Moves more t) xs ys r h = absurd r
  moves_beside n Stops (Sends to wire t) xs ys r h = absurd r
  moves_beside n Stops (Takes from t) xs ys r h = absurd r
  moves_beside n Stops Stops xs ys r h = h

  -- a wire that is handed over, or isn't, in both
  both_hand : (source target to to' from from' : ℕ) (wire wire' : W) (s : S) (t : T) (u : W → S) (v : W → T) (xs : ℕ → Worker S L W) (ys : ℕ → Worker T M W) →
      to ≡ to' → from ≡ from' → R source s t → ((w w' : W) → R target (u w) (v w')) → Beside xs ys →
      Beside (hands source target (Sends to wire s) (Takes from u) xs) (hands source target (Sends to' wire' t) (Takes from' v) ys)
  both_hand source target to to' from from' wire wire' s t u v xs ys et ef r q h n =
      subst (λ k. R n (hands source target (Sends to wire s) (Takes from u) xs n).state (hands source target (Sends k wire' t) (Takes from' v) ys n).state) et
      (subst (λ k. R n (hands source target (Sends to wire s) (Takes from u) xs n).state (hands source target (Sends to wire' t) (Takes k v) ys n).state) ef
      (go (nat_eq target to && nat_eq source from)))
    where
      xs' : ℕ → Worker S L W
      xs' = net.put xs source (doing_on (xs source) (Sent target wire) s)

      ys' : ℕ → Worker T M W
      ys' = net.put ys source (doing_on (ys source) (Sent target wire') t)

      go : (b : Bool) → R n (cond b (net.put xs' target (doing_on (xs target) (Took source wire) (u wire))) xs n).state
          (cond b (net.put ys' target (doing_on (ys target) (Took source wire') (v wire'))) ys n).state
      go true = put_beside xs' ys' target (doing_on (xs target) (Took source wire) (u wire)) (doing_on (ys target) (Took source wire') (v wire'))
          (put_beside xs ys source (doing_on (xs source) (Sent target wire) s) (doing_on (ys source) (Sent target wire') t) h r) (q wire wire') n
      go false = h n

  -- an act that sends, against one that takes; all others leave both
  hands_beside : (source target : ℕ) (a : Act S L W) (b : Act T M W) (c : Act S L W) (d : Act T M W) (xs : ℕ → Worker S L W) (ys : ℕ → Worker T M W) →
      ActsAlike (R source) a b → ActsAlike (R target) c d → Beside xs ys → Beside (hands source target a c xs) (hands source target b d ys)
  hands_beside source target (Sends to wire s) (Sends to' wire' t) (Takes from u) (Takes from' v) xs ys r q h =
      both_hand source target to to' from from' wire wire' s t u v xs ys r.0 q.0 r.1 q.1 h
  hands_beside source target (Sends to wire s) (Sends to' wire' t) (Moves said u) (Moves more v) xs ys r q h = h
  hands_beside source target (Sends to wire s) (Sends to' wire' t) (Sends x y u) (Sends x' y' v) xs ys r q h = h
  hands_beside source target (Sends to wire s) (Sends to' wire' t) Stops Stops xs ys r q h = h
  hands_beside source target (Sends to wire s) (Sends to' wire' t) (Takes from u) (Moves more v) xs ys r q h = absurd q
  hands_beside source target (Sends to wire s) (Sends to' wire' t) (Takes from u) (Sends x y v) xs ys r q h = absurd q
  hands_beside source target (Sends to wire s) (Sends to' wire' t) (Takes from u) Stops xs ys r q h = absurd q
  hands_beside source target (Sends to wire s) (Sends to' wire' t) (Moves said u) (Sends x y v) xs ys r q h = absurd q
  hands_beside source target (Sends to wire s) (Sends to' wire' t) (Moves said u) (Takes x v) xs ys r q h = absurd q
  hands_beside source target (Sends to wire s) (Sends to' wire' t) (Moves said u) Stops xs ys r q h = absurd q
  hands_beside source target (Sends to wire s) (Sends to' wire' t) (Sends x y u) (Moves more v) xs ys r q h = absurd q
  hands_beside source target (Sends to wire s) (Sends to' wire' t) (Sends x y u) (Takes x' v) xs ys r q h = absurd q
  hands_beside source target (Sends to wire s) (Sends to' wire' t) (Sends x y u) Stops xs ys r q h = absurd q
  hands_beside source target (Sends to wire s) (Sends to' wire' t) Stops (Moves more v) xs ys r q h = absurd q
  hands_beside source target (Sends to wire s) (Sends to' wire' t) Stops (Sends x y v) xs ys r q h = absurd q
  hands_beside source target (Sends to wire s) (Sends to' wire' t) Stops (Takes x v) xs ys r q h = absurd q
  hands_beside source target (Sends to wire s) (Moves more t) c d xs ys r q h = absurd r
  hands_beside source target (Sends to wire s) (Takes x t) c d xs ys r q h = absurd r
  hands_beside source target (Sends to wire s) Stops c d xs ys r q h = absurd r
  hands_beside source target (Moves said s) (Moves more t) c d xs ys r q h = h
  hands_beside source target (Moves said s) (Sends x y t) c d xs ys r q h = absurd r
  hands_beside source target (Moves said s) (Takes x t) c d xs ys r q h = absurd r
  hands_beside source target (Moves said s) Stops c d xs ys r q h = absurd r
  hands_beside source target (Takes from s) (Takes x t) c d xs ys r q h = h
  hands_beside source target (Takes from s) (Moves more t) c d xs ys r q h = absurd r
  hands_beside source target (Takes from s) (Sends x y t) c d xs ys r q h = absurd r
  hands_beside source target (Takes from s) Stops c d xs ys r q h = absurd r
  hands_beside source target Stops Stops c d xs ys r q h = h
  hands_beside source target Stops (Moves more t) c d xs ys r q h = absurd r
  hands_beside source target Stops (Sends x y t) c d xs ys r q h = absurd r
  hands_beside source target Stops (Takes x t) c d xs ys r q h = absurd r

  joint_beside : (turn : Joint) (xs : ℕ → Worker S L W) (ys : ℕ → Worker T M W) → Beside xs ys → Beside (joint next turn xs) (joint other turn ys)
  joint_beside (Alone n) xs ys h = moves_beside n (next n (xs n).state) (other n (ys n).state) xs ys (alike n (xs n).state (ys n).state (h n)) h
  joint_beside (Hands source target) xs ys h =
      hands_beside source target (next source (xs source).state) (other source (ys source).state) (next target (xs target).state) (other target (ys target).state) xs ys
      (alike source (xs source).state (ys source).state (h source)) (alike target (xs target).state (ys target).state (h target)) h

  pub run_beside : (turns : List Joint) (xs : ℕ → Worker S L W) (ys : ℕ → Worker T M W) → Beside xs ys → Beside (joint_run next turns xs) (joint_run other turns ys)
  run_beside [] xs ys h = h
  run_beside (turn ∷ turns) xs ys h = run_beside turns (joint next turn xs) (joint other turn ys) (joint_beside turn xs ys h)

-- where the one stops, so does the other
pub stops_alike : {S T L M W : Type 0} (R : S → T → Type 0) (a : Act S L W) (b : Act T M W) → ActsAlike R a b → a ≡ Stops → b ≡ Stops
stops_alike R (Moves said s) b h e = absurd cc
stops_alike R (Sends to wire s) b h e = absurd cc
stops_alike R (Takes from s) b h e = absurd cc
stops_alike R Stops (Moves more t) h e = absurd h
stops_alike R Stops (Sends to wire t) h e = absurd h
stops_alike R Stops (Takes from t) h e = absurd h
stops_alike R Stops Stops h e = refl

-- ---- the core, and the core whose reads are answered

-- a slot that is idle or served, and what it has in flight
abbrev pub SlotsAlike : {B : Type 0} → Slot B → Option (Transfer B) → Type 0
SlotsAlike Idle None = Unit {0}
SlotsAlike (Served (Reads page) bytes) (Some (Reads other)) = Unit {0}
SlotsAlike (Served (Writes page sent) bytes) (Some (Writes other same)) = Unit {0}
SlotsAlike _ _ = ⊥

served_none : {B : Type 0} (t : Transfer B) (bytes : B) → SlotsAlike (Served t bytes) None → ⊥
served_none (Reads page) bytes h = h
served_none (Writes page sent) bytes h = h

module _ {W : Type 0} (rules : Rules W) (plan : MemProgram) where
  -- two workers stand at one place
  pub record EnginesAlike (e f : Engine rules.State) : Type 0 where
    pub place : e.place ≡ f.place
    pub wire : e.wire ≡ f.wire
    pub finished : e.is_finished ≡ f.is_finished

  pub record Alike (core : Core rules plan) (answered : Answered (Flight rules plan) (List ℕ)) : Type 0 where
    pub engines : EnginesAlike core.engine answered.state.engine
    pub slots : (slot : ℕ) → SlotsAlike (core.slots slot) (answered.state.flights slot)

  slots_put : (slots : ℕ → Slot (List ℕ)) (flights : ℕ → Option (Transfer (List ℕ))) (slot : ℕ) (word : Slot (List ℕ)) (flight : Option (Transfer (List ℕ))) →
      ((i : ℕ) → SlotsAlike (slots i) (flights i)) → SlotsAlike word flight → (i : ℕ) → SlotsAlike (net.put slots slot word i) (net.put flights slot flight i)
  slots_put slots flights slot word flight h new i = go (nat_eq slot i)
    where
      go : (b : Bool) → SlotsAlike (cond b word (slots i)) (cond b flight (flights i))
      go true = new
      go false = h i

  advanced_alike : (e f : Engine rules.State) → EnginesAlike e f → EnginesAlike (advanced e) (advanced f)
  advanced_alike e f h = record { place = ap suc h.place; wire = refl; finished = h.finished }

  past_alike : (width : ℕ) (e f : Engine rules.State) → EnginesAlike e f → EnginesAlike (past_wire width e) (past_wire width f)
  past_alike width e f h =
      subst (λ n. EnginesAlike (past_wire width e) (cond (nat_eq (suc n) width) (advanced f) (record f { wire = suc n }))) h.wire (go (nat_eq (suc e.wire) width))
    where
      go : (b : Bool) → EnginesAlike (cond b (advanced e) (record e { wire = suc e.wire })) (cond b (advanced f) (record f { wire = suc e.wire }))
      go true = advanced_alike e f h
      go false = record { place = h.place; wire = refl; finished = h.finished }

  module _ (core : Core rules plan) (flight : Flight rules plan) (answers : ℕ → List (List ℕ))
      (slots : (slot : ℕ) → SlotsAlike (core.slots slot) (flight.flights slot)) where
    abbrev Both : Act (Core rules plan) (Call rules.State W) (List ℕ) → Act (Answered (Flight rules plan) (List ℕ)) (Call rules.State W) (List ℕ) → Type 0
    Both a b = ActsAlike Alike a b

    abbrev over : Hearing (Flight rules plan) (Call rules.State W) (List ℕ) (List ℕ) → Act (Answered (Flight rules plan) (List ℕ)) (Call rules.State W) (List ℕ)
    over h = act_on (Some (cleared rules plan.limits.page)) h answers

    -- what an engine does by itself
    acts_both : (a b : Act (Engine rules.State) (Call rules.State W) (List ℕ)) → ActsAlike EnginesAlike a b → Both (act_of a core) (over (Does (act_flying b flight)))
    acts_both (Moves said s) (Moves more t) h = record { engines = h; slots = slots }
    acts_both (Sends to wire s) (Sends to' wire' t) h = (h.0, record { engines = h.1; slots = slots })
    acts_both (Takes from s) (Takes from' t) h = (h.0, λ w w'. record { engines = h.1 w w'; slots = slots })
    acts_both Stops Stops h = tt
    acts_both (Moves said s) (Sends to' wire' t) h = absurd h
    acts_both (Moves said s) (Takes from' t) h = absurd h
    acts_both (Moves said s) Stops h = absurd h
    acts_both (Sends to wire s) (Moves more t) h = absurd h
    acts_both (Sends to wire s) (Takes from' t) h = absurd h
    acts_both (Sends to wire s) Stops h = absurd h
    acts_both (Takes from s) (Moves more t) h = absurd h
    acts_both (Takes from s) (Sends to' wire' t) h = absurd h
    acts_both (Takes from s) Stops h = absurd h
    acts_both Stops (Moves more t) h = absurd h
    acts_both Stops (Sends to' wire' t) h = absurd h
    acts_both Stops (Takes from' t) h = absurd h

    -- a transfer is asked for
    asks_both : (word : Slot (List ℕ)) (found : Option (Transfer (List ℕ))) (slot : ℕ) (t u : Transfer (List ℕ)) (e f : Engine rules.State) →
        SlotsAlike word found → ((bytes : List ℕ) → SlotsAlike (Served t bytes) (Some u)) → EnginesAlike e f →
        Both (or_stops (asks_of word (served_at_once slot t e core))) (over (asks_flying found slot u f flight))
    asks_both Idle None slot t u e f h new engines = record {
      engines = engines;
      slots = slots_put core.slots flight.flights slot (Served t (bytes_of t core.pages)) (Some u) slots (new (bytes_of t core.pages));
    }
    asks_both Idle (Some v) slot t u e f h new engines = absurd h
    asks_both (Asked v) None slot t u e f h new engines = absurd h
    asks_both (Asked v) (Some w) slot t u e f h new engines = absurd h
    asks_both (Busy v) None slot t u e f h new engines = absurd h
    asks_both (Busy v) (Some w) slot t u e f h new engines = absurd h
    asks_both (Served v bytes) None slot t u e f h new engines = absurd (served_none v bytes h)
    asks_both (Served v bytes) (Some w) slot t u e f h new engines = tt

    -- the finish of a read
    reads_both : (word : Slot (List ℕ)) (found : Option (Transfer (List ℕ))) (slot : ℕ) (after later : List ℕ → Engine rules.State) →
        SlotsAlike word found → ((bytes other : List ℕ) → EnginesAlike (after bytes) (later other)) →
        Both (or_stops (finishes_read word slot after core)) (over (reads_flying found slot later flight))
    reads_both (Served (Reads page) bytes) (Some (Reads other)) slot after later h engines = go (answers other)
      where
        idle : (i : ℕ) → SlotsAlike (net.put core.slots slot Idle i) (net.put flight.flights slot None i)
        idle = slots_put core.slots flight.flights slot Idle None slots tt

        go : (left : List (List ℕ)) → Both (Moves [] (finished slot (after bytes) core))
            (hears (Some (cleared rules plan.limits.page)) other (λ b. flies slot None (later b) flight) left answers)
        go [] = record { engines = engines bytes (cleared rules plan.limits.page); slots = idle }
        go (answer ∷ left) = record { engines = engines bytes answer; slots = idle }
    reads_both (Served (Writes page sent) bytes) (Some (Writes other same)) slot after later h engines = tt
    reads_both (Served (Reads page) bytes) (Some (Writes other same)) slot after later h engines = absurd h
    reads_both (Served (Writes page sent) bytes) (Some (Reads other)) slot after later h engines = absurd h
    reads_both (Served (Reads page) bytes) None slot after later h engines = absurd h
    reads_both (Served (Writes page sent) bytes) None slot after later h engines = absurd h
    reads_both Idle None slot after later h engines = tt
    reads_both Idle (Some v) slot after later h engines = absurd h
    reads_both (Asked v) None slot after later h engines = absurd h
    reads_both (Asked v) (Some w) slot after later h engines = absurd h
    reads_both (Busy v) None slot after later h engines = absurd h
    reads_both (Busy v) (Some w) slot after later h engines = absurd h

    -- the finish of a write
    writes_both : (word : Slot (List ℕ)) (found : Option (Transfer (List ℕ))) (slot : ℕ) (after later : Engine rules.State) →
        SlotsAlike word found → EnginesAlike after later →
        Both (or_stops (finishes_write word slot after core)) (over (writes_flying found slot later flight))
    writes_both (Served (Writes page sent) bytes) (Some (Writes other same)) slot after later h engines = record {
      engines = engines;
      slots = slots_put core.slots flight.flights slot Idle None slots tt;
    }
    writes_both (Served (Reads page) bytes) (Some (Reads other)) slot after later h engines = tt
    writes_both (Served (Reads page) bytes) (Some (Writes other same)) slot after later h engines = absurd h
    writes_both (Served (Writes page sent) bytes) (Some (Reads other)) slot after later h engines = absurd h
    writes_both (Served (Reads page) bytes) None slot after later h engines = absurd h
    writes_both (Served (Writes page sent) bytes) None slot after later h engines = absurd h
    writes_both Idle None slot after later h engines = tt
    writes_both Idle (Some v) slot after later h engines = absurd h
    writes_both (Asked v) None slot after later h engines = absurd h
    writes_both (Asked v) (Some w) slot after later h engines = absurd h
    writes_both (Busy v) None slot after later h engines = absurd h
    writes_both (Busy v) (Some w) slot after later h engines = absurd h

    module _ (engines : EnginesAlike core.engine flight.engine) where
      op_both : (job : Job) (o : Op) → ActsAlike EnginesAlike (act_of_op rules o job core.engine) (act_of_op rules o job flight.engine)
      op_both job op.Send = (refl, past_alike job.width core.engine flight.engine engines)
      op_both job op.Recv = (refl, λ w w'. past_alike job.width _ _ (record { place = engines.place; wire = engines.wire; finished = engines.finished }))
      op_both job _ = record { place = ap suc engines.place; wire = refl; finished = engines.finished }

      ends_both : (b c : Bool) → b ≡ c → core.engine.is_finished ≡ b → flight.engine.is_finished ≡ c →
          ActsAlike {S = Engine rules.State} {T = Engine rules.State} {L = Call rules.State W} {M = Call rules.State W} {W = List ℕ} EnginesAlike
          (cond {A = Act (Engine rules.State) (Call rules.State W) (List ℕ)} b Stops (Moves (call_of rules core.engine.driver Finish ∷ []) (finishes rules core.engine)))
          (cond {A = Act (Engine rules.State) (Call rules.State W) (List ℕ)} c Stops (Moves (call_of rules flight.engine.driver Finish ∷ []) (finishes rules flight.engine)))
      ends_both true true e p q = tt
      ends_both false false e p q = record { place = engines.place; wire = engines.wire; finished = refl }
      ends_both true false e p q = absurd cc
      ends_both false true e p q = absurd cc

      doing_both : (found : Option Directive) → Both (or_stops (act_in served_at_once (doing_at rules plan.limits.page found core.engine) core))
          (over (hears_in (doing_at rules plan.limits.page found flight.engine) flight))
      doing_both None = acts_both _ _ (ends_both core.engine.is_finished flight.engine.is_finished engines.finished refl refl)
      doing_both (Some (entry.Fresh frame page)) = record { engines = record { place = ap suc engines.place; wire = refl; finished = engines.finished }; slots = slots }
      doing_both (Some (entry.IssueIn slot page)) =
          asks_both (core.slots slot) (flight.flights slot) slot (Reads page) (Reads page) (advanced core.engine) (advanced flight.engine) (slots slot) (λ bytes. tt)
          (advanced_alike core.engine flight.engine engines)
      doing_both (Some (entry.FinishIn slot frame)) =
          reads_both (core.slots slot) (flight.flights slot) slot _ _ (slots slot)
          (λ bytes other. record { place = ap suc engines.place; wire = refl; finished = engines.finished })
      doing_both (Some (entry.IssueOut slot frame page)) =
          asks_both (core.slots slot) (flight.flights slot) slot (Writes page (core.engine.bank frame)) (Writes page (flight.engine.bank frame))
          (advanced core.engine) (advanced flight.engine) (slots slot) (λ bytes. tt) (advanced_alike core.engine flight.engine engines)
      doing_both (Some (entry.FinishOut slot)) =
          writes_both (core.slots slot) (flight.flights slot) slot (advanced core.engine) (advanced flight.engine) (slots slot) (advanced_alike core.engine flight.engine engines)
      doing_both (Some (entry.Do job)) = acts_both _ _ (op_both job job.op)

  alike_acts : (n : ℕ) (core : Core rules plan) (answered : Answered (Flight rules plan) (List ℕ)) → Alike core answered →
      ActsAlike Alike (core_act rules plan n core) (answered_act rules plan n answered)
  alike_acts n core answered h =
      subst (λ found. ActsAlike Alike (core_act rules plan n core)
      (act_on (Some (cleared rules plan.limits.page)) (hears_in (doing_at rules plan.limits.page found answered.state.engine) answered.state) answered.answers))
      (ap (λ d. slice_get (directives_of plan n) d) h.engines.place)
      (doing_both core answered.state answered.answers h.slots h.engines (slice_get (directives_of plan n) core.engine.place))

  -- so the answered run ends where the run over pages ends, whatever is answered
  pub answered_ends : (drivers : ℕ → rules.State) (answers : ℕ → ℕ → List (List ℕ)) (turns : List Joint) (n : ℕ) → EndsInJoint rules plan drivers turns n →
      answered_act rules plan n (answered_after rules plan drivers answers turns n).state ≡ Stops
  answered_ends drivers answers turns n ends =
      let both = run_beside (core_act rules plan) (answered_act rules plan) (λ m core answered. Alike core answered) alike_acts turns
      (λ m. fresh (core_at_first rules plan drivers m)) (λ m. fresh (record { state = flight_at_first rules plan drivers m; answers = answers m }))
      (λ m. record { engines = record { place = refl; wire = refl; finished = refl }; slots = λ slot. tt }) n in
      stops_alike Alike _ _ (alike_acts n _ _ both) ends
