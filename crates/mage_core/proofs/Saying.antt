-- What a worker says on its own run are calls in a row, from its driver's first state to the one in which it stands.
use Rattle.std.proofs.Common.{◌≡◌, ◌++◌, ℕ, suc, Bool, true, false, cond, List, [], ◌∷◌, Option, None, Some, slice_get, nat_eq, append-nil, refl, ap, ◌∙◌, subst}
use Rattle.mage_instr.specs.declared.directive.Directive.{Directive}
use Rattle.mage_instr.specs.declared.directive.Directive.TheVariants as entry
use Rattle.mage_instr.specs.declared.directive.MemProgram.{MemProgram}
use Rattle.mage_instr.specs.declared.op.Op.{Op}
use Rattle.mage_instr.specs.declared.op.Op.TheVariants as op
use Rattle.mage_instr.specs.declared.replaced.Job.{Job}
use Rattle.mage_network.specs.Workers.{Moves, Sends, Takes, Stops, Deed, Moved, Sent, Took, said_in}
use Rattle.mage_network.specs.Pasts.{Allows, Leads}
use Rattle.mage_network.specs.Slots.{Transfer, Reads, Writes, Acts, Asks, Finishes_read, Finishes_write}
use Rattle.mage_network.specs.Answers.{Answered, hears, act_on, answered}
use Rattle.mage_network.specs.Reading.{Flying, flies, asks_flying, reads_flying, writes_flying, hears_in, answered_start}
use Rattle.mage_network.proofs.Orders.{stops_allows}
use Rattle.mage_network.proofs.AnsweredReads.{run_is_answered}
use Rattle.mage_driver.specs.Rules.{Rules, AreLawful}
use Rattle.mage_driver.specs.Calls.{Call, Finish, call_of}
use Rattle.mage_steps.specs.Engines.{Engine, Next, act_of_op, computes, sends_wire, takes_wire, operand, doing_of, doing_at, finishes, advanced, past_wire}
use Rattle.mage_steps.specs.Core.{Core, Flight, directives_of, engine_of, core_act, core_hearing}
use Rattle.mage_core.proofs.Rows.{IsRow, row_then, circuit_row}

-- what is said in one deed
abbrev pub said_of : {L W : Type 0} → Deed L W → List L
said_of (Moved said) = said
said_of (Sent target wire) = []
said_of (Took source wire) = []

said_more : {L W : Type 0} (deed : Deed L W) (past : List (Deed L W)) → said_in past ++ said_of deed ≡ said_in (deed ∷ past)
said_more (Moved said) past = refl
said_more (Sent target wire) past = append-nil (said_in past)
said_more (Took source wire) past = append-nil (said_in past)

module _ {W : Type 0} (rules : Rules W) where
  -- ---- what an engine does next

  -- the calls that come next lead from this state of the driver to the one after them; where there is none it stays
  abbrev GoesFrom : rules.State → Next rules → Type 0
  GoesFrom driver (Acts (Moves said after)) = IsRow rules driver said after.driver
  GoesFrom driver (Acts (Sends target wire after)) = driver ≡ after.driver
  GoesFrom driver (Acts (Takes source after)) = (wire : List ℕ) → driver ≡ (after wire).driver
  GoesFrom driver (Acts Stops) = Unit {0}
  GoesFrom driver (Asks slot transfer after) = driver ≡ after.driver
  GoesFrom driver (Finishes_read slot after) = (bytes : List ℕ) → driver ≡ (after bytes).driver
  GoesFrom driver (Finishes_write slot after) = driver ≡ after.driver

  past_driver : (width : ℕ) (engine : Engine rules.State) → engine.driver ≡ (past_wire width engine).driver
  past_driver width engine = go (nat_eq (suc engine.wire) width)
    where
      go : (b : Bool) → engine.driver ≡ (cond b (advanced engine) (record engine { wire = suc engine.wire })).driver
      go true = refl
      go false = refl

  module _ (lawful : AreLawful rules) where
    computes_from : (job : Job) (engine : Engine rules.State) → GoesFrom engine.driver (Acts (computes rules job engine))
    computes_from job engine =
        circuit_row rules lawful job.op job.width job.imm (operand rules job engine.bank 0) (operand rules job engine.bank 1) (operand rules job engine.bank 2) engine.driver

    sends_from : (job : Job) (engine : Engine rules.State) → GoesFrom engine.driver (Acts (sends_wire rules job engine))
    sends_from job engine = past_driver job.width engine

    takes_from : (job : Job) (engine : Engine rules.State) → GoesFrom engine.driver (Acts (takes_wire rules job engine))
    takes_from job engine wire = past_driver job.width (record engine { bank = _ })

    op_from : (o : Op) (job : Job) (engine : Engine rules.State) → GoesFrom engine.driver (Acts (act_of_op rules o job engine))
    op_from op.Input = computes_from
    op_from op.Const = computes_from
    op_from op.Output = computes_from
    op_from op.Add = computes_from
    op_from op.Sub = computes_from
    op_from op.Mul = computes_from
    op_from op.And = computes_from
    op_from op.Or = computes_from
    op_from op.Xor = computes_from
    op_from op.Not = computes_from
    op_from op.Eq = computes_from
    op_from op.Lt = computes_from
    op_from op.Mux = computes_from
    op_from op.Shl = computes_from
    op_from op.Shr = computes_from
    op_from op.Resize = computes_from
    op_from op.Send = sends_from
    op_from op.Recv = takes_from
    op_from op.Div = computes_from
    op_from op.Rem = computes_from
    op_from op.Count = computes_from
    op_from op.Min = computes_from
    op_from op.Max = computes_from

    ends_from : (engine : Engine rules.State) (b : Bool) →
        GoesFrom engine.driver (Acts (cond b Stops (Moves (call_of rules engine.driver Finish ∷ []) (finishes rules engine))))
    ends_from engine true = tt
    ends_from engine false = (refl, refl)

    directive_from : (page : ℕ) (x : Directive) (engine : Engine rules.State) → GoesFrom engine.driver (doing_of rules page x engine)
    directive_from page (entry.Fresh frame fresh) engine = refl
    directive_from page (entry.IssueIn slot stored) engine = refl
    directive_from page (entry.FinishIn slot frame) engine = λ bytes. refl
    directive_from page (entry.IssueOut slot frame stored) engine = refl
    directive_from page (entry.FinishOut slot) engine = refl
    directive_from page (entry.Do job) engine = op_from job.op job engine

    next_from : (page : ℕ) (o : Option Directive) (engine : Engine rules.State) → GoesFrom engine.driver (doing_at rules page o engine)
    next_from page None engine = ends_from engine engine.is_finished
    next_from page (Some x) engine = directive_from page x engine

  -- ---- what its worker does, whose reads are answered

  abbrev Flies : Type 0
  Flies = Flying (Engine rules.State) (List ℕ)

  module _ (driver : rules.State) (after : Answered Flies (List ℕ)) where
    abbrev Row : Deed (Call rules.State W) (List ℕ) → Type 0
    Row deed = IsRow rules driver (said_of deed) after.state.engine.driver

    moved_row : (said : List (Call rules.State W)) (to : Answered Flies (List ℕ)) (deed : Deed (Call rules.State W) (List ℕ)) →
        IsRow rules driver said to.state.engine.driver → Allows (Moves said to) deed after → Row deed
    moved_row said to (Moved x) row h =
        subst (λ (s : Answered Flies (List ℕ)). IsRow rules driver x s.state.engine.driver) h.1
        (subst (λ (l : List (Call rules.State W)). IsRow rules driver l to.state.engine.driver) h.0 row)
    moved_row said to _ row h = absurd h

    sent_row : (target : ℕ) (wire : List ℕ) (to : Answered Flies (List ℕ)) (deed : Deed (Call rules.State W) (List ℕ)) →
        driver ≡ to.state.engine.driver → Allows {L = Call rules.State W} (Sends target wire to) deed after → Row deed
    sent_row target wire to (Sent w x) same h = same ∙ ap (λ (s : Answered Flies (List ℕ)). s.state.engine.driver) h.2
    sent_row target wire to _ same h = absurd h

    took_row : (source : ℕ) (to : List ℕ → Answered Flies (List ℕ)) (deed : Deed (Call rules.State W) (List ℕ)) →
        ((wire : List ℕ) → driver ≡ (to wire).state.engine.driver) → Allows {L = Call rules.State W} (Takes source to) deed after → Row deed
    took_row source to (Took w x) same h = same x ∙ ap (λ (s : Answered Flies (List ℕ)). s.state.engine.driver) h.1
    took_row source to _ same h = absurd h

    module _ (past_end : Option (List ℕ)) (worker : Flies) (answers : ℕ → List (List ℕ)) where
      asks_row : (flight : Option (Transfer (List ℕ))) (slot : ℕ) (transfer : Transfer (List ℕ)) (to : Engine rules.State)
          (deed : Deed (Call rules.State W) (List ℕ)) → driver ≡ to.driver →
          Allows (act_on past_end (asks_flying flight slot transfer to worker) answers) deed after → Row deed
      asks_row None slot transfer to deed same h = moved_row [] _ deed same h
      asks_row (Some other) slot transfer to deed same h = absurd (stops_allows {S = Answered Flies (List ℕ)} deed after h)

      heard_row : (past : Option (List ℕ)) (key : ℕ) (to : List ℕ → Flies) (left : List (List ℕ)) (deed : Deed (Call rules.State W) (List ℕ)) →
          ((bytes : List ℕ) → driver ≡ (to bytes).engine.driver) → Allows (hears past key to left answers) deed after → Row deed
      heard_row past key to (answer ∷ left) deed same h = moved_row [] _ deed (same answer) h
      heard_row (Some answer) key to [] deed same h = moved_row [] _ deed (same answer) h
      heard_row None key to [] deed same h = absurd (stops_allows {S = Answered Flies (List ℕ)} deed after h)

      reads_row : (flight : Option (Transfer (List ℕ))) (slot : ℕ) (to : List ℕ → Engine rules.State) (deed : Deed (Call rules.State W) (List ℕ)) →
          ((bytes : List ℕ) → driver ≡ (to bytes).driver) →
          Allows (act_on past_end (reads_flying flight slot to worker) answers) deed after → Row deed
      reads_row (Some (Reads page)) slot to deed same h =
          heard_row past_end page (λ bytes. flies slot None (to bytes) worker) (answers page) deed same h
      reads_row _ slot to deed same h = absurd (stops_allows {S = Answered Flies (List ℕ)} deed after h)

      writes_row : (flight : Option (Transfer (List ℕ))) (slot : ℕ) (to : Engine rules.State) (deed : Deed (Call rules.State W) (List ℕ)) →
          driver ≡ to.driver → Allows (act_on past_end (writes_flying flight slot to worker) answers) deed after → Row deed
      writes_row (Some (Writes page bytes)) slot to deed same h = moved_row [] _ deed same h
      writes_row _ slot to deed same h = absurd (stops_allows {S = Answered Flies (List ℕ)} deed after h)

      next_row : (d : Next rules) (deed : Deed (Call rules.State W) (List ℕ)) → GoesFrom driver d →
          Allows (act_on past_end (hears_in d worker) answers) deed after → Row deed
      next_row (Acts (Moves said to)) deed from h = moved_row said _ deed from h
      next_row (Acts (Sends target wire to)) deed from h = sent_row target wire _ deed from h
      next_row (Acts (Takes source to)) deed from h = took_row source _ deed from h
      next_row (Acts Stops) deed from h = absurd (stops_allows {S = Answered Flies (List ℕ)} deed after h)
      next_row (Asks slot transfer to) deed from h = asks_row (worker.flights slot) slot transfer to deed from h
      next_row (Finishes_read slot to) deed from h = reads_row (worker.flights slot) slot to deed from h
      next_row (Finishes_write slot to) deed from h = writes_row (worker.flights slot) slot to deed from h

  -- ---- its whole run

  module _ (lawful : AreLawful rules) (plan : MemProgram) (n : ℕ) where
    pub answered_row : (past_end : Option (List ℕ)) (start : Answered (Flight rules plan) (List ℕ)) (past : List (Deed (Call rules.State W) (List ℕ)))
        (state : Answered (Flight rules plan) (List ℕ)) → Leads (answered past_end (core_hearing rules plan n)) start past state →
        IsRow rules start.state.engine.driver (said_in past) state.state.engine.driver
    answered_row past_end start [] state leads = ap (λ (s : Answered (Flight rules plan) (List ℕ)). s.state.engine.driver) leads
    answered_row past_end start (deed ∷ past) state leads =
        let was = leads.0 in
        subst (λ (l : List (Call rules.State W)). IsRow rules start.state.engine.driver l state.state.engine.driver) (said_more deed past)
        (row_then rules start.state.engine.driver was.state.engine.driver state.state.engine.driver (said_in past) (said_of deed)
        (answered_row past_end start past was leads.1)
        (next_row was.state.engine.driver state past_end was.state was.answers (engine_of rules plan n was.state.engine) deed
        (next_from lawful plan.limits.page (slice_get (directives_of plan n) was.state.engine.place) was.state.engine) leads.2))

    -- the same over pages
    pub paged_row : (start : Core rules plan) (past : List (Deed (Call rules.State W) (List ℕ))) (state : Core rules plan) →
        Leads (core_act rules plan n) start past state → IsRow rules start.engine.driver (said_in past) state.engine.driver
    paged_row start past state leads =
        answered_row None _ past (answered_start state (λ page. [])) (run_is_answered (engine_of rules plan) n start past state leads (λ page. []))
