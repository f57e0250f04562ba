-- The joint run against every list of events, and against workers that went on their own.
use Rattle.std.proofs.Common.{◌≡◌, ℕ, zero, suc, cond, List, [], ◌∷◌, Option, None, Some, refl, sym, ap, ◌∙◌, subst, slice_get, ◌⊎◌, inl, inr}
use Rattle.mage_instr.specs.declared.directive.MemProgram.{MemProgram}
use Rattle.mage_network.specs.Workers.{Act, Moves, Stops, Worker}
use Rattle.mage_network.specs.Pasts.{WentAlone, IsBefore}
use Rattle.mage_network.specs.Together.{Joint, joint, joint_run}
use Rattle.mage_network.specs.Laws.{IsCapacity}
use Rattle.mage_network.specs.Waiting.{Event, StandsAs}
use Rattle.mage_network.specs.Slots.{Service, act_of, act_in, asked, over_slots, IsServed}
use Rattle.mage_network.proofs.Tied.{after_meant, events_begin, events_stop}
use Rattle.mage_network.proofs.SlotLemmas.{settled}
use Rattle.mage_network.proofs.SlotsMean.{slots_mean}
use Rattle.mage_network.proofs.Meeting.{together_keeps}
use Rattle.mage_driver.specs.Rules.{Rules, AreLawful, Grows}
use Rattle.mage_driver.specs.Calls.{Call, Finish, call_of}
use Rattle.mage_steps.specs.Engines.{doing_at, ends, finishes}
use Rattle.mage_steps.specs.Core.{Core, directives_of, core_act, core_at_first, engine_of, engine_at_first, joint_after, lowest_first, lowest_turn, turned}
use Rattle.mage_steps.specs.Frames.{cleared}
use Rattle.mage_steps.specs.Orderly.{AreOrderly, IsThrough}
use Rattle.mage_steps.specs.Laws.{core_after, SomeIsEnabled, EndsInJoint, IsWhole, BeginsJoint}
use Rattle.mage_steps.proofs.Outputs.{run_grows}
use Rattle.mage_steps.proofs.Through.{never_twice, own_run_through}

-- a run of the lowest first is a run of some turns
pub lowest_is_joint : {S L W : Type 0} (next : ℕ → S → Act S L W) (count turns : ℕ) (workers : ℕ → Worker S L W) →
    (list : List Joint) × (joint_run next list workers ≡ lowest_first next count turns workers)
lowest_is_joint next count zero workers = ([], refl)
lowest_is_joint {S} {L} {W} next count (suc turns) workers =
    go (λ others. lowest_is_joint next count turns others) (lowest_turn (λ n. next n (workers n).state) count)
  where
    go : ((others : ℕ → Worker S L W) → (list : List Joint) ×
        (joint_run next list others ≡ lowest_first next count turns others)) → (turn : Option Joint) →
        (list : List Joint) × (joint_run next list workers ≡ lowest_first next count turns (turned next turn workers))
    go rest None = rest workers
    go rest (Some turn) = let r = rest (joint next turn workers) in (turn ∷ r.0, r.1)

module _ {W : Type 0} (rules : Rules W) (lawful : AreLawful rules) (plan : MemProgram) (drivers : ℕ → rules.State) where
  -- a worker that is through stops
  through_stops : (n : ℕ) (worker : Core rules plan) → IsThrough rules plan n worker →
      act_in {L = Call rules.State W} {W = List ℕ} asked (engine_of rules plan n worker.engine) worker ≡ Some Stops
  through_stops n worker h =
      ap (λ o. act_in {L = Call rules.State W} {W = List ℕ} asked (doing_at rules plan.limits.page o worker.engine) worker) h.place
      ∙ ap (λ b. Some (act_of {L = Call rules.State W} {W = List ℕ}
      (cond b Stops (Moves (call_of rules worker.engine.driver Finish ∷ []) (finishes rules worker.engine))) worker)) h.finished

  -- where it stands as in the joint run, it has the same engine and pages, and no slot in flight
  stands_whole : (n : ℕ) (worker whole : Worker (Core rules plan) (Call rules.State W) (List ℕ)) →
      IsThrough rules plan n whole.state →
      StandsAs (IsServed (engine_of rules plan) (core_at_first rules plan drivers) n) worker whole →
      IsThrough rules plan n worker.state × IsWhole rules plan worker whole
  stands_whole n worker whole h stands =
      let s = settled worker.state whole.state stands.means.means h.idle in
      let e = stands.means.means.engines in (
        record {
          place = ap (λ engine. slice_get (directives_of plan n) engine.place) e ∙ h.place;
          finished = ap (λ engine. engine.is_finished) e ∙ h.finished;
          idle = s.0;
        },
        record { engine = e; pages = s.1; past = stands.did },
      )

  -- each worker of the joint run is on its own run
  joint_alone : (turns : List Joint) (n : ℕ) → WentAlone (core_act rules plan n) (core_at_first rules plan drivers n)
      (joint_after rules plan drivers turns n)
  joint_alone turns n =
      (together_keeps (core_act rules plan) (core_at_first rules plan drivers) (λ workers. Unit {0})
      (λ workers turn h kept. tt) tt turns).0.alone n

  pub joint_through : (turns : List Joint) (n : ℕ) → AreOrderly plan → EndsInJoint rules plan drivers turns n →
      IsThrough rules plan n (joint_after rules plan drivers turns n).state
  joint_through turns n orderly ends =
      own_run_through rules plan drivers orderly n (joint_after rules plan drivers turns n).past
      (joint_after rules plan drivers turns n).state (joint_alone turns n) ends

  -- the driver of a real worker, which is that of its meaning, against the joint run's
  driver_grows : AreOrderly plan → (capacity : ℕ) (events : List (Event Service)) (turns : List Joint) (n : ℕ) →
      IsBefore ((core_after rules plan drivers capacity events).workers n).past (joint_after rules plan drivers turns n).past →
      Grows rules ((core_after rules plan drivers capacity events).workers n).state.engine.driver
      (joint_after rules plan drivers turns n).state.engine.driver
  driver_grows orderly capacity events turns n before =
      let meant = after_meant (IsServed (engine_of rules plan) (core_at_first rules plan drivers)) (over_slots (engine_of rules plan))
      (core_act rules plan) (core_at_first rules plan drivers) (core_at_first rules plan drivers)
      (slots_mean (engine_of rules plan) (engine_at_first rules plan drivers) (λ m page. cleared rules plan.limits.page)
      (never_twice rules plan drivers orderly)) capacity events in
      let worker = (core_after rules plan drivers capacity events).workers n in
      let whole = joint_after rules plan drivers turns n in
      subst (λ engine. Grows rules engine.driver whole.state.engine.driver) (sym (meant.ties n).means.engines)
      (run_grows rules lawful plan n (core_at_first rules plan drivers n) worker.past whole.past (meant.meant n) whole.state
      (meant.accounts.alone n) (joint_alone turns n) before)

  pub events_begin_joint : AreOrderly plan → (capacity : ℕ) (events : List (Event Service)) (turns : List Joint) (n : ℕ) →
      EndsInJoint rules plan drivers turns n →
      BeginsJoint rules plan n ((core_after rules plan drivers capacity events).workers n)
      (joint_after rules plan drivers turns n)
  events_begin_joint orderly capacity events turns n ends =
      let worker = (core_after rules plan drivers capacity events).workers n in
      let whole = joint_after rules plan drivers turns n in
      let begins = events_begin (IsServed (engine_of rules plan) (core_at_first rules plan drivers)) (over_slots (engine_of rules plan))
      (core_act rules plan) (core_at_first rules plan drivers) (core_at_first rules plan drivers)
      (slots_mean (engine_of rules plan) (engine_at_first rules plan drivers) (λ m page. cleared rules plan.limits.page)
      (never_twice rules plan drivers orderly)) capacity events turns n ends in
      record {
        said = begins.prefixes.said;
        sent = begins.prefixes.sent;
        grows = driver_grows orderly capacity events turns n begins.before;
        through = λ h. (stands_whole n worker whole (joint_through turns n orderly ends)
            (begins.done (through_stops n worker.state h))).1;
      }

  pub none_stuck : AreOrderly plan → (capacity : ℕ) (events : List (Event Service)) (turns : List Joint) → IsCapacity capacity →
      ((n : ℕ) → EndsInJoint rules plan drivers turns n) →
      SomeIsEnabled rules plan drivers capacity events ⊎
      ((n : ℕ) → IsThrough rules plan n ((core_after rules plan drivers capacity events).workers n).state
      × IsWhole rules plan ((core_after rules plan drivers capacity events).workers n) (joint_after rules plan drivers turns n))
  none_stuck orderly capacity events turns room ends = go
      (events_stop (IsServed (engine_of rules plan) (core_at_first rules plan drivers)) (over_slots (engine_of rules plan))
      (core_act rules plan) (core_at_first rules plan drivers) (core_at_first rules plan drivers)
      (slots_mean (engine_of rules plan) (engine_at_first rules plan drivers) (λ m page. cleared rules plan.limits.page)
      (never_twice rules plan drivers orderly)) capacity events turns room)
    where
      go : SomeIsEnabled rules plan drivers capacity events ⊎
          ((n : ℕ) → core_act rules plan n (joint_after rules plan drivers turns n).state ≡ Stops →
          StandsAs (IsServed (engine_of rules plan) (core_at_first rules plan drivers) n)
          ((core_after rules plan drivers capacity events).workers n) (joint_after rules plan drivers turns n)) →
          SomeIsEnabled rules plan drivers capacity events ⊎
          ((n : ℕ) → IsThrough rules plan n ((core_after rules plan drivers capacity events).workers n).state
          × IsWhole rules plan ((core_after rules plan drivers capacity events).workers n) (joint_after rules plan drivers turns n))
      go (inl one) = inl one
      go (inr stand) = inr (λ n. stands_whole n ((core_after rules plan drivers capacity events).workers n)
          (joint_after rules plan drivers turns n) (joint_through turns n orderly (ends n)) (stand n (ends n)))
