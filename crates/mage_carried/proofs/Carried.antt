-- The law of carried programs.
use Rattle.std.proofs.Common.{◌≡◌, ◌≤◌, ℕ, zero, suc, Bool, true, false, not, List, [], ◌∷◌, length, nat_lt, None, refl, sym, ap, ◌∙◌, subst, slice_get, arith, cond, IfSome}
use Rattle.std.proofs.lemmas.Bool.Decides.{nat_tests}
use Rattle.std.proofs.lemmas.List.{get_or_past}
use Rattle.mage_instr.specs.declared.directive.Directive.{Directive}
use Rattle.mage_instr.specs.declared.directive.MemProgram.{MemProgram}
use Rattle.mage_linked.specs.Emission.{own_instrs}
use Rattle.mage_linked.specs.declared.emitted.Emitted.{Emitted}
use Rattle.mage_network.specs.Workers.{Moves, Stops, Worker, fresh}
use Rattle.mage_network.specs.Together.{joint_run}
use Rattle.mage_network.specs.Slots as core
use Rattle.mage_driver.specs.Rules.{Rules, AreLawful}
use Rattle.mage_driver.specs.Calls.{Call, Finish, call_of}
use Rattle.mage_relations.specs.Unplaced.{starting_in, run_of, calls_of}
use Rattle.mage_steps.specs.Engines.{doing_at, finishes}
use Rattle.mage_steps.specs.Core.{Core, core_act, core_at_first, directives_of}
use Rattle.mage_steps.specs.Orderly.{flights_before, Fits, IsOrderly, AreOrderly}
use Rattle.mage_carry.specs.State as walk
use Rattle.mage_carry.specs.Carrying.{start, store_of}
use Rattle.mage_carried.specs.Wires.{MakesWires}
use Rattle.mage_carried.specs.Laws.{CanRun, Carries, RunsAsUnplaced}
use Rattle.mage_carried.proofs.Orderliness.{flight_of, walk_is_orderly}
use Rattle.mage_carried.proofs.Joining.{Leads}
use Rattle.mage_carried.proofs.Starting.{IsCarried, carried_so, stands_start, replicate_at}
use Rattle.mage_carried.proofs.Ending.{AreEnded, whole_run}

-- no directives are orderly
beside_none : (plan : MemProgram) (count n : ℕ) → length plan.workers ≡ count → count ≤ n → directives_of plan n ≡ []
beside_none plan count n many past = get_or_past plan.workers n [] (omega arith)

pub carried_is_orderly : (count : ℕ) (emitted : List Emitted) (plan : MemProgram) → Carries count emitted plan → AreOrderly plan
carried_is_orderly count emitted plan carried n = go (nat_lt n count) refl
  where
    h : IsCarried count emitted plan
    h = carried_so count emitted plan carried

    none : (d : ℕ) → slice_get {X = Directive} [] d ≡ None
    none zero = refl
    none (suc d) = refl

    go : (b : Bool) → nat_lt n count ≡ b → IsOrderly (directives_of plan n)
    go true e = walk_is_orderly (own_instrs emitted n) plan.limits.page (store_of plan.stores n) (directives_of plan n)
        (start plan.limits.frames plan.limits.buffer)
        (λ s. ap flight_of (replicate_at plan.limits.buffer s walk.Idle)) (h.walks n (grind (arith, nat_tests)))
    go false e =
        let nothing : directives_of plan n ≡ [] = beside_none plan count n h.workers (grind (arith, nat_tests)) in
        subst IsOrderly (sym nothing) (record {
          each = λ d. subst (λ o. IfSome o (Fits (flights_before [] d))) (sym (none d)) tt;
          idle = λ slot. refl;
        })

module _ {W : Type 0} (rules : Rules W) (lawful : AreLawful rules) (fine : rules.State → Bool) (makes : MakesWires rules fine) (plan : MemProgram) (count : ℕ)
    (emitted : List Emitted) (drivers : ℕ → rules.State) (all_fine : (n : ℕ) → fine (drivers n) ≡ true) where
  -- beside the workers each has stopped at the start
  beside_stops : (n : ℕ) → length plan.workers ≡ count → count ≤ n →
      core_act rules plan n (core_at_first rules plan drivers n) ≡ Stops
  beside_stops n many past =
      let state = core_at_first rules plan drivers n in
      ap (λ l. core.or_stops (core.act_in core.served_at_once (doing_at rules plan.limits.page (slice_get l 0) state.engine) state))
      (beside_none plan count n many past)
      ∙ ap (λ b. core.act_of (cond (not b) Stops (Moves (call_of rules state.engine.driver Finish ∷ []) (finishes rules state.engine))) state)
      (let t : nat_lt n (length plan.workers) ≡ false = grind (arith, nat_tests) in t)

  pub carried_runs : CanRun count emitted → Carries count emitted plan → RunsAsUnplaced rules emitted drivers count plan
  carried_runs can carried = record {
    turns = run.0;
    ends = λ n. go n (nat_lt n count) refl;
    did = λ n within. record { driver = (run.1.ended n within).driver; calls = (run.1.ended n within).said };
  }
    where
      h : IsCarried count emitted plan
      h = carried_so count emitted plan carried

      run : Leads (core_act rules plan)
          (AreEnded rules lawful fine makes plan count drivers (own_instrs emitted) can.sound (store_of plan.stores)
          (run_of rules (starting_in drivers) emitted).values (run_of rules (starting_in drivers) emitted).states
          (λ n. calls_of rules n (starting_in drivers) emitted) count) (λ n. fresh (core_at_first rules plan drivers n))
      run = whole_run rules lawful fine makes plan count drivers (own_instrs emitted) can.sound (store_of plan.stores) emitted can.linked
          (starting_in drivers) (λ n. []) (λ n. fresh (core_at_first rules plan drivers n)) (
            directives_of plan,
            record {
              joined = record { each = λ n within. stands_start rules lawful fine plan drivers count emitted n h (all_fine n) within; beside = λ n past. refl };
              rest = λ n within. ([], refl, refl);
              taken = λ from to. refl;
            },
          )

      go : (n : ℕ) (b : Bool) → nat_lt n count ≡ b →
          core_act rules plan n (joint_run (core_act rules plan) run.0 (λ m. fresh (core_at_first rules plan drivers m)) n).state ≡ Stops
      go n true e = (run.1.ended n (grind (arith, nat_tests))).stops
      go n false e =
          let past : count ≤ n = grind (arith, nat_tests) in
          ap (λ (w : Worker (Core rules plan) (Call rules.State W) (List ℕ)). core_act rules plan n w.state) (run.1.beside n past)
          ∙ beside_stops n h.workers past
