-- On every own run, whatever wires it takes, the slots have in flight what the directives say.
use Rattle.std.proofs.Common.{◌≡◌, ℕ, zero, suc, Bool, true, false, cond, List, [], ◌∷◌, Option, None, Some, refl, sym, ap, ◌∙◌, subst, slice_get, ◌⊎◌, inl, inr, take, nat_eq}
use Rattle.mage_instr.specs.declared.directive.Directive.{Directive}
use Rattle.mage_instr.specs.declared.directive.Directive.TheVariants as entry
use Rattle.mage_instr.specs.declared.directive.MemProgram.{MemProgram}
use Rattle.mage_instr.specs.declared.op.Op.{Op}
use Rattle.mage_instr.specs.declared.op.Op.TheVariants as op
use Rattle.mage_instr.specs.declared.replaced.Job.{Job}
use Rattle.mage_network.specs.Workers.{Moves, Stops, Deed}
use Rattle.mage_network.specs.Pasts.{Allows, Leads}
use Rattle.mage_network.specs.Network.{put}
use Rattle.mage_network.specs.Slots.{Transfer, Reads, Writes, Slot, Idle, Asked, Busy, Served, act_of, asks_of, finishes_read, finishes_write, act_in, or_stops, served_at_once, finished, bytes_of}
use Rattle.mage_network.proofs.Orders.{stops_allows}
use Rattle.mage_driver.specs.Rules.{Rules}
use Rattle.mage_driver.specs.Calls.{Call, Finish, call_of}
use Rattle.mage_steps.proofs.Deeds.{moved, sent, taken}
use Rattle.mage_steps.specs.Engines.{Engine, advanced, act_of_op, computes, sends_wire, takes_wire, doing_of, doing_at, finishes}
use Rattle.mage_steps.specs.Core.{Core, directives_of, core_act}
use Rattle.mage_steps.specs.Orderly.{Flight, Reading, Writing, flights_after, flights_after_all, flights_before}

abbrev pub flight_of : {B : Type 0} → Transfer B → Flight
flight_of (Reads page) = Reading page
flight_of (Writes page bytes) = Writing page

abbrev pub flight_in : {B : Type 0} → Slot B → Option Flight
flight_in Idle = None
flight_in (Asked transfer) = Some (flight_of transfer)
flight_in (Busy transfer) = Some (flight_of transfer)
flight_in (Served transfer bytes) = Some (flight_of transfer)

-- one directive more
flights_next : (flights : ℕ → Option Flight) (directives : List Directive) (d : ℕ) (x : Directive) →
    slice_get directives d ≡ Some x →
    flights_after_all flights (take (suc d) directives) ≡
    flights_after (flights_after_all flights (take d directives)) x
flights_next flights [] d x e = absurd cc
flights_next flights (y ∷ directives) zero x e =
    ap (λ z. flights_after flights z) (let s : Some y ≡ Some x = e in cc)
flights_next flights (y ∷ directives) (suc d) x e =
    flights_next (flights_after flights y) directives d x e

module _ {W : Type 0} (rules : Rules W) (plan : MemProgram) (n : ℕ) where
  -- the slots have in flight what the directives say
  abbrev pub FlightsAre : Core rules plan → Type 0
  FlightsAre worker = (slot : ℕ) →
      flight_in (worker.slots slot) ≡ flights_before (directives_of plan n) worker.engine.place slot

  -- an act that leaves the slots, and is done with a directive or not
  pub record IsBeside (before after : Core rules plan) : Type 0 where
    pub slots : before.slots ≡ after.slots
    pub place : (before.engine.place ≡ after.engine.place) ⊎ (suc before.engine.place ≡ after.engine.place)

  wire_past : (width : ℕ) (engine : Engine rules.State) (b : Bool) →
      let next = cond b (advanced engine) (record engine { wire = suc engine.wire }) in
      (engine.place ≡ next.place) ⊎ (suc engine.place ≡ next.place)
  wire_past width engine true = inr refl
  wire_past width engine false = inl refl

  computes_beside : (job : Job) (before after : Core rules plan) (deed : Deed (Call rules.State W) (List ℕ)) →
      Allows (act_of (computes rules job before.engine) before) deed after → IsBeside before after
  computes_beside job before after deed h =
      subst (λ a. IsBeside before a) (moved _ _ after deed h) (record { slots = refl; place = inr refl })

  sends_beside : (job : Job) (before after : Core rules plan) (deed : Deed (Call rules.State W) (List ℕ)) →
      Allows (act_of (sends_wire rules job before.engine) before) deed after → IsBeside before after
  sends_beside job before after deed h =
      subst (λ a. IsBeside before a) (sent _ _ _ after deed h) (record {
        slots = refl;
        place = wire_past job.width before.engine (nat_eq (suc before.engine.wire) job.width);
      })

  takes_beside : (job : Job) (before after : Core rules plan) (deed : Deed (Call rules.State W) (List ℕ)) →
      Allows (act_of (takes_wire rules job before.engine) before) deed after → IsBeside before after
  takes_beside job before after deed h =
      let t = taken _ _ after deed h in
      subst (λ a. IsBeside before a) t.1 (record {
        slots = refl;
        place = wire_past job.width (record before.engine { bank = _ }) (nat_eq (suc before.engine.wire) job.width);
      })

  does_beside : (o : Op) (job : Job) (before after : Core rules plan) (deed : Deed (Call rules.State W) (List ℕ)) →
      Allows (act_of (act_of_op rules o job before.engine) before) deed after → IsBeside before after
  does_beside op.Input = computes_beside
  does_beside op.Const = computes_beside
  does_beside op.Output = computes_beside
  does_beside op.Add = computes_beside
  does_beside op.Sub = computes_beside
  does_beside op.Mul = computes_beside
  does_beside op.And = computes_beside
  does_beside op.Or = computes_beside
  does_beside op.Xor = computes_beside
  does_beside op.Not = computes_beside
  does_beside op.Eq = computes_beside
  does_beside op.Lt = computes_beside
  does_beside op.Mux = computes_beside
  does_beside op.Shl = computes_beside
  does_beside op.Shr = computes_beside
  does_beside op.Resize = computes_beside
  does_beside op.Send = sends_beside
  does_beside op.Recv = takes_beside
  does_beside op.Div = computes_beside
  does_beside op.Rem = computes_beside
  does_beside op.Count = computes_beside
  does_beside op.Min = computes_beside
  does_beside op.Max = computes_beside

  -- beside a directive that moves no page, the slots stay right
  beside_keeps : (before after : Core rules plan) (x : Directive) →
      slice_get (directives_of plan n) before.engine.place ≡ Some x →
      ((flights : ℕ → Option Flight) → flights_after flights x ≡ flights) →
      IsBeside before after → FlightsAre before → FlightsAre after
  beside_keeps before after x e same beside are slot =
      ap (λ slots. flight_in (slots slot)) (sym beside.slots) ∙ are slot ∙ go beside.place
    where
      go : (before.engine.place ≡ after.engine.place) ⊎ (suc before.engine.place ≡ after.engine.place) →
          flights_before (directives_of plan n) before.engine.place slot ≡
          flights_before (directives_of plan n) after.engine.place slot
      go (inl e') = ap (λ d. flights_before (directives_of plan n) d slot) e'
      go (inr e') =
          ap (λ flights. flights slot) (sym (flights_next (λ slot. None) (directives_of plan n) before.engine.place x e
          ∙ same (flights_before (directives_of plan n) before.engine.place)))
          ∙ ap (λ d. flights_before (directives_of plan n) d slot) e'

  -- a transfer changes one slot, as its directive says
  slot_keeps : (before after : Core rules plan) (x : Directive) (slot : ℕ) (word : Slot (List ℕ)) →
      slice_get (directives_of plan n) before.engine.place ≡ Some x →
      ((flights : ℕ → Option Flight) → flights_after flights x ≡ put flights slot (flight_in word)) →
      put before.slots slot word ≡ after.slots → suc before.engine.place ≡ after.engine.place →
      FlightsAre before → FlightsAre after
  slot_keeps before after x slot word e one slots place are i =
      ap (λ words. flight_in (words i)) (sym slots)
      ∙ go (nat_eq slot i)
      ∙ ap (λ flights. flights i) (sym (flights_next (λ s. None) (directives_of plan n) before.engine.place x e
      ∙ one (flights_before (directives_of plan n) before.engine.place)))
      ∙ ap (λ d. flights_before (directives_of plan n) d i) place
    where
      go : (b : Bool) → flight_in (cond b word (before.slots i)) ≡
          cond b (flight_in word) (flights_before (directives_of plan n) before.engine.place i)
      go true = refl
      go false = are i

  -- what is asked of an idle slot alone
  asked_keeps : (before after : Core rules plan) (x : Directive) (slot : ℕ) (transfer : Transfer (List ℕ))
      (engine : Engine rules.State) (word : Slot (List ℕ)) (deed : Deed (Call rules.State W) (List ℕ)) →
      slice_get (directives_of plan n) before.engine.place ≡ Some x →
      ((flights : ℕ → Option Flight) → flights_after flights x ≡ put flights slot (Some (flight_of transfer))) →
      suc before.engine.place ≡ engine.place → FlightsAre before →
      Allows {S = Core rules plan} (or_stops (asks_of word (served_at_once slot transfer engine before))) deed after → FlightsAre after
  asked_keeps before after x slot transfer engine Idle deed e one place are h =
      subst FlightsAre (moved _ _ after deed h)
      (slot_keeps before (served_at_once slot transfer engine before) x slot
      (Served transfer (bytes_of transfer before.pages)) e one refl place are)
  asked_keeps before after x slot transfer engine _ deed e one place are h = absurd (stops_allows deed after h)

  -- a slot whose transfer is finished
  finished_keeps : (before after : Core rules plan) (x : Directive) (slot : ℕ)
      (engine : Engine rules.State) (deed : Deed (Call rules.State W) (List ℕ)) →
      slice_get (directives_of plan n) before.engine.place ≡ Some x →
      ((flights : ℕ → Option Flight) → flights_after flights x ≡ put flights slot None) →
      suc before.engine.place ≡ engine.place → FlightsAre before →
      Allows {S = Core rules plan} (Moves [] (finished slot engine before)) deed after → FlightsAre after
  finished_keeps before after x slot engine deed e one place are h =
      subst FlightsAre (moved _ _ after deed h)
      (slot_keeps before (finished slot engine before) x slot Idle e one refl place are)

  read_keeps : (before after : Core rules plan) (x : Directive) (slot : ℕ) (to : List ℕ → Engine rules.State)
      (word : Slot (List ℕ)) (deed : Deed (Call rules.State W) (List ℕ)) →
      slice_get (directives_of plan n) before.engine.place ≡ Some x →
      ((flights : ℕ → Option Flight) → flights_after flights x ≡ put flights slot None) →
      ((bytes : List ℕ) → suc before.engine.place ≡ (to bytes).place) → FlightsAre before →
      Allows {S = Core rules plan} (or_stops (finishes_read word slot to before)) deed after → FlightsAre after
  read_keeps before after x slot to (Served (Reads page) bytes) deed e one place are h =
      finished_keeps before after x slot (to bytes) deed e one (place bytes) are h
  read_keeps before after x slot to _ deed e one place are h = absurd (stops_allows deed after h)

  write_keeps : (before after : Core rules plan) (x : Directive) (slot : ℕ) (to : Engine rules.State)
      (word : Slot (List ℕ)) (deed : Deed (Call rules.State W) (List ℕ)) →
      slice_get (directives_of plan n) before.engine.place ≡ Some x →
      ((flights : ℕ → Option Flight) → flights_after flights x ≡ put flights slot None) →
      suc before.engine.place ≡ to.place → FlightsAre before →
      Allows {S = Core rules plan} (or_stops (finishes_write word slot to before)) deed after → FlightsAre after
  write_keeps before after x slot to (Served (Writes page sent) same) deed e one place are h =
      finished_keeps before after x slot to deed e one place are h
  write_keeps before after x slot to _ deed e one place are h = absurd (stops_allows deed after h)

  ended_keeps : (before after : Core rules plan) (deed : Deed (Call rules.State W) (List ℕ)) (b : Bool) →
      FlightsAre before →
      Allows (act_of (cond b Stops (Moves (call_of rules before.engine.driver Finish ∷ []) (finishes rules before.engine))) before)
      deed after → FlightsAre after
  ended_keeps before after deed true are h = absurd (stops_allows deed after h)
  ended_keeps before after deed false are h = subst FlightsAre (moved _ _ after deed h) are

  directive_keeps : (before after : Core rules plan) (x : Directive) (deed : Deed (Call rules.State W) (List ℕ)) →
      slice_get (directives_of plan n) before.engine.place ≡ Some x → FlightsAre before →
      Allows (or_stops (act_in served_at_once (doing_of rules plan.limits.page x before.engine) before)) deed after →
      FlightsAre after
  directive_keeps before after (entry.Fresh frame page) deed e are h =
      beside_keeps before after (entry.Fresh frame page) e (λ flights. refl)
      (subst (λ a. IsBeside before a) (moved _ _ after deed h) (record { slots = refl; place = inr refl })) are
  directive_keeps before after (entry.IssueIn slot page) deed e are h =
      asked_keeps before after (entry.IssueIn slot page) slot (Reads page) (advanced before.engine)
      (before.slots slot) deed e (λ flights. refl) refl are h
  directive_keeps before after (entry.FinishIn slot frame) deed e are h =
      read_keeps before after (entry.FinishIn slot frame) slot _ (before.slots slot) deed e (λ flights. refl)
      (λ bytes. refl) are h
  directive_keeps before after (entry.IssueOut slot frame page) deed e are h =
      asked_keeps before after (entry.IssueOut slot frame page) slot (Writes page (before.engine.bank frame))
      (advanced before.engine) (before.slots slot) deed e (λ flights. refl) refl are h
  directive_keeps before after (entry.FinishOut slot) deed e are h =
      write_keeps before after (entry.FinishOut slot) slot _ (before.slots slot) deed e (λ flights. refl) refl are h
  directive_keeps before after (entry.Do job) deed e are h =
      beside_keeps before after (entry.Do job) e (λ flights. refl) (does_beside job.op job before after deed h) are

  act_keeps : (before after : Core rules plan) (deed : Deed (Call rules.State W) (List ℕ)) → FlightsAre before →
      Allows (core_act rules plan n before) deed after → FlightsAre after
  act_keeps before after deed are h = go (slice_get (directives_of plan n) before.engine.place) refl h
    where
      go : (found : Option Directive) → slice_get (directives_of plan n) before.engine.place ≡ found →
          Allows (or_stops (act_in served_at_once (doing_at rules plan.limits.page found before.engine) before)) deed after →
          FlightsAre after
      go None e h' = ended_keeps before after deed before.engine.is_finished are h'
      go (Some x) e h' = directive_keeps before after x deed e are h'

  -- on every own run
  pub run_keeps : (start : Core rules plan) (past : List (Deed (Call rules.State W) (List ℕ))) (worker : Core rules plan) →
      FlightsAre start → Leads (core_act rules plan n) start past worker → FlightsAre worker
  run_keeps start [] worker are leads = subst FlightsAre leads are
  run_keeps start (deed ∷ past) worker are leads =
      act_keeps leads.0 worker deed (run_keeps start past leads.0 are leads.1) leads.2
