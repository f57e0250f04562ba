-- On own runs what a driver puts out and writes only grows.
use Rattle.std.proofs.Common.{◌≡◌, ℕ, suc, Bool, true, false, cond, List, [], ◌∷◌, ◌++◌, Option, None, Some, refl, sym, ap, ◌∙◌, subst, slice_get, append_assoc, append-nil, inl, inr, nat_eq}
use Rattle.mage_instr.specs.declared.directive.Directive.{Directive}
use Rattle.mage_instr.specs.declared.directive.Directive.TheVariants as entry
use Rattle.mage_instr.specs.declared.directive.MemProgram.{MemProgram}
use Rattle.mage_instr.specs.declared.op.Op.{Op}
use Rattle.mage_instr.specs.declared.op.Op.TheVariants as op
use Rattle.mage_instr.specs.declared.replaced.Job.{Job}
use Rattle.mage_network.specs.Workers.{Moves, Stops, Deed}
use Rattle.mage_network.specs.Pasts.{Allows, Leads, IsBefore}
use Rattle.mage_network.specs.Slots.{Transfer, Reads, Writes, Slot, Idle, Served, act_of, asks_of, finishes_read, finishes_write, act_in, or_stops, served_at_once}
use Rattle.mage_network.proofs.Orders.{leads_one, stops_allows}
use Rattle.mage_driver.specs.Rules.{Rules, AreLawful, Begins, Grows}
use Rattle.mage_driver.specs.Calls.{Call, Finish, call_of}
use Rattle.mage_steps.specs.Engines.{Engine, act_of_op, computes, sends_wire, takes_wire, made_of, operand, doing_of, doing_at, finishes, advanced, past_wire}
use Rattle.mage_steps.specs.Core.{Core, directives_of, core_act}
use Rattle.mage_steps.proofs.Deeds.{moved, sent, taken}
use Rattle.mage_steps.proofs.Growing.{keeps_circuit}

begins_same : {X : Type 0} (xs : List X) → Begins xs xs
begins_same xs = ([], sym (append-nil xs))

begins_then : {X : Type 0} (xs ys zs : List X) → Begins xs ys → Begins ys zs → Begins xs zs
begins_then xs ys zs h k = (h.0 ++ k.0, k.1 ∙ ap (λ l. l ++ k.0) h.1 ∙ append_assoc xs h.0 k.0)

module _ {W : Type 0} (rules : Rules W) where
  pub grows_same : (s : rules.State) → Grows rules s s
  grows_same s = record { outputs = begins_same (rules.outputs s); streams = λ k. begins_same (rules.stream s k) }

  pub grows_then : (s t u : rules.State) → Grows rules s t → Grows rules t u → Grows rules s u
  grows_then s t u h k = record {
    outputs = begins_then (rules.outputs s) (rules.outputs t) (rules.outputs u) h.outputs k.outputs;
    streams = λ i. begins_then (rules.stream s i) (rules.stream t i) (rules.stream u i) (h.streams i) (k.streams i);
  }

  pub circuit_grows : AreLawful rules → (job : Job) (engine : Engine rules.State) →
      Grows rules engine.driver (made_of rules job engine).state
  circuit_grows lawful job engine =
      keeps_circuit rules (Grows rules) grows_same grows_then lawful.and_grows lawful.input_grows lawful.output_grows
      job.op job.width job.imm (operand rules job engine.bank 0) (operand rules job engine.bank 1)
      (operand rules job engine.bank 2) engine.driver

module _ {W : Type 0} (rules : Rules W) (lawful : AreLawful rules) (plan : MemProgram) (n : ℕ) where
  abbrev Grown : (before after : Core rules plan) → Type 0
  Grown before after = Grows rules before.engine.driver after.engine.driver

  past_driver : (width : ℕ) (engine : Engine rules.State) → (past_wire width engine).driver ≡ engine.driver
  past_driver width engine = go (nat_eq (suc engine.wire) width)
    where
      go : (b : Bool) → (cond b (advanced engine) (record engine { wire = suc engine.wire })).driver ≡ engine.driver
      go true = refl
      go false = refl

  computes_grows : (job : Job) (before after : Core rules plan) (deed : Deed (Call rules.State W) (List ℕ)) →
      Allows (act_of (computes rules job before.engine) before) deed after → Grown before after
  computes_grows job before after deed h =
      subst (Grown before) (moved _ _ after deed h) (circuit_grows rules lawful job before.engine)

  sends_grows : (job : Job) (before after : Core rules plan) (deed : Deed (Call rules.State W) (List ℕ)) →
      Allows (act_of (sends_wire rules job before.engine) before) deed after → Grown before after
  sends_grows job before after deed h =
      subst (Grown before) (sent _ _ _ after deed h)
      (subst (Grows rules before.engine.driver) (sym (past_driver job.width before.engine)) (grows_same rules before.engine.driver))

  takes_grows : (job : Job) (before after : Core rules plan) (deed : Deed (Call rules.State W) (List ℕ)) →
      Allows (act_of (takes_wire rules job before.engine) before) deed after → Grown before after
  takes_grows job before after deed h =
      let t = taken _ _ after deed h in
      subst (Grown before) t.1
      (subst (Grows rules before.engine.driver) (sym (past_driver job.width (record before.engine { bank = _ })))
      (grows_same rules before.engine.driver))

  does_grows : (o : Op) (job : Job) (before after : Core rules plan) (deed : Deed (Call rules.State W) (List ℕ)) →
      Allows (act_of (act_of_op rules o job before.engine) before) deed after → Grown before after
  does_grows op.Input = computes_grows
  does_grows op.Const = computes_grows
  does_grows op.Output = computes_grows
  does_grows op.Add = computes_grows
  does_grows op.Sub = computes_grows
  does_grows op.Mul = computes_grows
  does_grows op.And = computes_grows
  does_grows op.Or = computes_grows
  does_grows op.Xor = computes_grows
  does_grows op.Not = computes_grows
  does_grows op.Eq = computes_grows
  does_grows op.Lt = computes_grows
  does_grows op.Mux = computes_grows
  does_grows op.Shl = computes_grows
  does_grows op.Shr = computes_grows
  does_grows op.Resize = computes_grows
  does_grows op.Send = sends_grows
  does_grows op.Recv = takes_grows
  does_grows op.Div = computes_grows
  does_grows op.Rem = computes_grows
  does_grows op.Count = computes_grows
  does_grows op.Min = computes_grows
  does_grows op.Max = computes_grows

  asked_grows : (before after : Core rules plan) (slot : ℕ) (transfer : Transfer (List ℕ)) (engine : Engine rules.State)
      (word : Slot (List ℕ)) (deed : Deed (Call rules.State W) (List ℕ)) → before.engine.driver ≡ engine.driver →
      Allows {S = Core rules plan} (or_stops (asks_of word (served_at_once slot transfer engine before))) deed after →
      Grown before after
  asked_grows before after slot transfer engine Idle deed e h =
      subst (Grown before) (moved _ _ after deed h)
      (subst (Grows rules before.engine.driver) e (grows_same rules before.engine.driver))
  asked_grows before after slot transfer engine _ deed e h = absurd (stops_allows deed after h)

  read_grows : (before after : Core rules plan) (slot : ℕ) (to : List ℕ → Engine rules.State) (word : Slot (List ℕ))
      (deed : Deed (Call rules.State W) (List ℕ)) → ((bytes : List ℕ) → before.engine.driver ≡ (to bytes).driver) →
      Allows {S = Core rules plan} (or_stops (finishes_read word slot to before)) deed after → Grown before after
  read_grows before after slot to (Served (Reads page) bytes) deed e h =
      subst (Grown before) (moved _ _ after deed h)
      (subst (Grows rules before.engine.driver) (e bytes) (grows_same rules before.engine.driver))
  read_grows before after slot to _ deed e h = absurd (stops_allows deed after h)

  write_grows : (before after : Core rules plan) (slot : ℕ) (to : Engine rules.State) (word : Slot (List ℕ))
      (deed : Deed (Call rules.State W) (List ℕ)) → before.engine.driver ≡ to.driver →
      Allows {S = Core rules plan} (or_stops (finishes_write word slot to before)) deed after → Grown before after
  write_grows before after slot to (Served (Writes page bytes) same) deed e h =
      subst (Grown before) (moved _ _ after deed h)
      (subst (Grows rules before.engine.driver) e (grows_same rules before.engine.driver))
  write_grows before after slot to _ deed e h = absurd (stops_allows deed after h)

  ends_grows : (before after : Core rules plan) (deed : Deed (Call rules.State W) (List ℕ)) (b : Bool) →
      Allows (act_of (cond b Stops (Moves (call_of rules before.engine.driver Finish ∷ []) (finishes rules before.engine))) before)
      deed after → Grown before after
  ends_grows before after deed true h = absurd (stops_allows deed after h)
  ends_grows before after deed false h =
      subst (Grown before) (moved _ _ after deed h) (lawful.finish_grows before.engine.driver)

  directive_grows : (before after : Core rules plan) (x : Directive) (deed : Deed (Call rules.State W) (List ℕ)) →
      Allows (or_stops (act_in served_at_once (doing_of rules plan.limits.page x before.engine) before)) deed after →
      Grown before after
  directive_grows before after (entry.Fresh frame page) deed h =
      subst (Grown before) (moved _ _ after deed h) (grows_same rules before.engine.driver)
  directive_grows before after (entry.IssueIn slot page) deed h =
      asked_grows before after slot (Reads page) (advanced before.engine) (before.slots slot) deed refl h
  directive_grows before after (entry.FinishIn slot frame) deed h =
      read_grows before after slot _ (before.slots slot) deed (λ bytes. refl) h
  directive_grows before after (entry.IssueOut slot frame page) deed h =
      asked_grows before after slot (Writes page (before.engine.bank frame)) (advanced before.engine)
      (before.slots slot) deed refl h
  directive_grows before after (entry.FinishOut slot) deed h =
      write_grows before after slot _ (before.slots slot) deed refl h
  directive_grows before after (entry.Do job) deed h = does_grows job.op job before after deed h

  act_grows : (before after : Core rules plan) (deed : Deed (Call rules.State W) (List ℕ)) →
      Allows (core_act rules plan n before) deed after → Grown before after
  act_grows before after deed h = go (slice_get (directives_of plan n) before.engine.place) h
    where
      go : (found : Option Directive) →
          Allows (or_stops (act_in served_at_once (doing_at rules plan.limits.page found before.engine) before)) deed after →
          Grown before after
      go None h' = ends_grows before after deed before.engine.is_finished h'
      go (Some x) h' = directive_grows before after x deed h'

  -- from an earlier state of an own run to a later one
  pub run_grows : (start : Core rules plan) (early late : List (Deed (Call rules.State W) (List ℕ))) (s t : Core rules plan) →
      Leads (core_act rules plan n) start early s → Leads (core_act rules plan n) start late t →
      IsBefore early late → Grown s t
  run_grows start early [] s t h k e =
      subst (Grown s)
      (leads_one (core_act rules plan n) start early s t h
      (subst (λ p. Leads (core_act rules plan n) start p t) (sym e) k)) (grows_same rules s.engine.driver)
  run_grows start early (deed ∷ late) s t h k (inl e) =
      subst (Grown s)
      (leads_one (core_act rules plan n) start early s t h
      (subst (λ p. Leads (core_act rules plan n) start p t) (sym e) k)) (grows_same rules s.engine.driver)
  run_grows start early (deed ∷ late) s t h k (inr e) =
      grows_then rules s.engine.driver k.0.engine.driver t.engine.driver
      (run_grows start early late s k.0 h k.1 e) (act_grows k.0 t deed k.2)
