-- A run that garbles into steady sinks with room for their streams is stopped by none of them.
use Rattle.std.proofs.Common.{◌≡◌, ◌<◌, ◌++◌, ◌⊎◌, inl, inr, ℕ, true, List, [], ◌∷◌, length, Option, None, Some, slice_get, refl, sym, ap, ◌∙◌, subst}
use Rattle.std.specs.Prelude.{IfSome, IsSome}
use Rattle.mage_base.specs.Sink.{SinkTold}
use Rattle.mage_base.specs.Store.{StoreTold}
use Rattle.mage_instr.specs.declared.fault.DriverFault.{DriverFault}
use Rattle.mage_instr.specs.declared.directive.MemProgram.{MemProgram}
use Rattle.mage_directives.specs.Directives.{IsMemProgram}
use Rattle.mage_label.specs.declared.labels.Label.{Label}
use Rattle.mage_driver.specs.Calls.{Call, Told, Finish, SomeStops, call_of}
use Rattle.mage_linked.specs.declared.emitted.Emitted.{Emitted}
use Rattle.mage_linked.specs.Emission.{program_of}
use Rattle.mage_linked.specs.Workers.{list_at}
use Rattle.mage_linked.proofs.EmissionLemmas.{emission_of-program_of}
use Rattle.mage_linked.proofs.LinkedLemmas.{AreLinked-below}
use Rattle.mage_network.specs.Workers.{said_in}
use Rattle.mage_relations.specs.Unplaced.{starting_in, run_of, calls_of}
use Rattle.mage_verify.specs.Faults.{fault_of}
use Rattle.mage_verify.specs.Parts.{WorkerPart, parts_of}
use Rattle.mage_streams.specs.Streams.{garbled_stream}
use Rattle.mage_garble.specs.Rule.{Garbling, garble_rules}
use Rattle.mage_garble.specs.Lawful.{garbling_is_lawful}
use Rattle.mage_garble.specs.Laws.{program_calls}
use Rattle.mage_garble.proofs.Fitting.{none_stops}
use Rattle.mage_carried.specs.Laws.{CanRun, Carries, RunsAsUnplaced}
use Rattle.mage_carried.proofs.Carried.{carried_runs}
use Rattle.mage_carried.proofs.Starting.{carried_so}
use Rattle.mage_carried.proofs.Wired.{makes_wires}
use Rattle.mage_garbled_runs.specs.Runs.{garblers}
use Rattle.mage_garbled_runs.proofs.Garbled.{garbler_gives_wires}
use Rattle.mage_steps.specs.Core.{joint_after}
use Rattle.mage_verified_runs.specs.Turns.{verified_turns}
use Rattle.mage_core.specs.Answered.{AreStates}
use Rattle.mage_core.specs.Begun.{BeginsJoint, StopsFirst}
use Rattle.mage_core.specs.Going.{Start}
use Rattle.mage_core.specs.Joined.{WasDeceived}
use Rattle.mage_core.specs.Results.{starts_of, Back, ComesTo}
use Rattle.mage_core.specs.Steady.{Suffices}
use Rattle.mage_core.specs.declared.fault.RunFault.{RunFault}
use Rattle.mage_core.specs.declared.fault.RunFault.TheVariants as fault
use Rattle.mage_solo.specs.Stores.{AllSuffice}
use Rattle.mage_solo.specs.Garbling.{AllHaveRoom, AreClosed, HasRoomFor, IsOfNoStore, garbler_openings}
use Rattle.mage_solo.proofs.Lists.{if_found, found_beside, get_within, index_found, Ones, ones_of}
use Rattle.mage_solo.proofs.Workers.{start_at, suffices_ones}
use Rattle.mage_solo.proofs.Agreeing.{joint_agrees}
use Rattle.mage_solo.proofs.Plainly.{parts_count}
use Rattle.mage_solo.proofs.Streaming.{are_states, no_sink, sink_at}

none_told : {X : Type 0} (o : Option X) → IsSome o → o ≡ None → ⊥
none_told None h e = absurd cc
none_told (Some x) h e = absurd cc

-- a store that suffices tells its pages, and so deceives nobody
undeceived : {S : Type 0} (starts : List (Start S)) (drivers : List (Told S)) (stores : List (List StoreTold)) → ((w : ℕ) → IfSome (slice_get starts w) Suffices) →
    WasDeceived starts drivers stores → ⊥
undeceived starts drivers stores all was =
    none_told was.back.start.store.pages (if_found Suffices (slice_get starts was.worker) was.back.start was.back.starts_so (all was.worker)).told was.untold

stops_behind : (before calls : List (Call Garbling Label)) (f : DriverFault) (after : Garbling) → SomeStops garble_rules calls f after →
    SomeStops garble_rules (before ++ calls) f after
stops_behind [] calls f after h = h
stops_behind (c ∷ cs) calls f after h = inr (stops_behind cs calls f after h)

stops_before : (calls later : List (Call Garbling Label)) (f : DriverFault) (after : Garbling) → SomeStops garble_rules calls f after →
    SomeStops garble_rules (calls ++ later) f after
stops_before [] later f after h = absurd h
stops_before (c ∷ cs) later f after (inl h) = inl h
stops_before (c ∷ cs) later f after (inr h) = inr (stops_before cs later f after h)

-- one of the calls stopped
some_stops : (calls : List (Call Garbling Label)) (f : DriverFault) (after : Garbling) → StopsFirst garble_rules calls f after → SomeStops garble_rules calls f after
some_stops calls f after h =
    subst (λ (cs : List (Call Garbling Label)). SomeStops garble_rules cs f after) (sym h.are)
    (stops_behind h.before (h.step ++ h.later) f after (stops_before h.step h.later f after h.stopped))

module _ (parts : List WorkerPart) (seed : List ℕ) (garbler : List (List ℕ)) (sinks : List SinkTold) (now : List (Told Garbling))
    (before after : List StoreTold) (long_s : length sinks ≡ length parts) (count : ℕ) (emitted : List Emitted) (plan : MemProgram) (fine : IsMemProgram plan)
    (is : parts ≡ parts_of plan) (none : fault_of plan ≡ None) (carried : Carries count emitted plan) (can : CanRun count emitted) where
  abbrev these : List (Start Garbling)
  these = starts_of parts (garbler_openings seed 0 garbler sinks) (ones_of before)

  abbrev states : ℕ → Garbling
  states = garblers seed (list_at garbler) (sink_at sinks)

  abbrev stream : ℕ → List ℕ
  stream = garbled_stream (program_of count emitted) seed (list_at garbler)

  run : RunsAsUnplaced garble_rules emitted states count plan
  run = carried_runs garble_rules garbling_is_lawful (λ s. true) (makes_wires garble_rules garbling_is_lawful (λ s. true) garbler_gives_wires) plan count emitted
      states (λ n. refl) can carried

  -- the calls of a worker's driver in the joint run are those over the program
  said_so : (w : ℕ) → w < count → said_in (joint_after garble_rules plan states (verified_turns plan.workers) w).past
      ≡ program_calls (program_of count emitted) seed (list_at garbler) (sink_at sinks) w
  said_so w within =
      ap (λ worker. said_in worker.past) (sym (joint_agrees garble_rules plan states fine none run.turns w (run.ends w)))
      ∙ (run.did w within).calls
      ∙ ap (λ (es : List Emitted). calls_of garble_rules w (starting_in states) es ++ call_of garble_rules ((run_of garble_rules (starting_in states) es).states w) Finish ∷ [])
      (sym (emission_of-program_of count emitted (AreLinked-below count emitted can.linked)))

  no_sink_stops : AllHaveRoom sinks stream → (w : ℕ) (f : DriverFault) (back : Back these now (ones_of after) w) →
      SomeStops garble_rules (said_in (joint_after garble_rules plan states (verified_turns plan.workers) w).past) f back.driver.state → ⊥
  no_sink_stops room w f back stops =
      let at = start_at parts (garbler_openings seed 0 garbler sinks) before w back.start back.starts_so in
      let sink = found_beside parts sinks w back.start.part long_s at.part in
      let workers = ap length is ∙ parts_count plan ∙ (carried_so count emitted plan carried).workers in
      let within : w < count = subst (λ n. w < n) workers (get_within parts w back.start.part at.part) in
      let has : HasRoomFor sink.0 (stream w) = if_found (λ (s : SinkTold). HasRoomFor s (stream w)) (slice_get sinks w) sink.0 sink.1 (room w) in
      let here : sink_at sinks w ≡ sink.0 = index_found sinks w sink.0 no_sink sink.1 in
      let own : HasRoomFor (sink_at sinks w) (stream w) = subst (λ (s : SinkTold). HasRoomFor s (stream w)) (sym here) has in
      none_stops (program_of count emitted) seed (list_at garbler) (sink_at sinks) w f back.driver.state own.steady own.room
      (subst (λ (cs : List (Call Garbling Label)). SomeStops garble_rules cs f back.driver.state) (said_so w within) stops)

  stopped_here : AllHaveRoom sinks stream → ((w : ℕ) → IfSome (slice_get these w) Suffices) → (w : ℕ) (f : DriverFault) → Back these now (ones_of after) w →
      BeginsJoint garble_rules plan states these now (ones_of after) (Some (fault.Driver w f)) ⊎ WasDeceived these now (ones_of after) → ⊥
  stopped_here room all w f back (inl begun) = no_sink_stops room w f back (some_stops _ f back.driver.state (begun.caused w f refl back))
  stopped_here room all w f back (inr was) = undeceived these now (ones_of after) all was

  pub roomy_so : AllHaveRoom sinks stream → ((w : ℕ) → IfSome (slice_get these w) Suffices) → (found : Option RunFault) → IfSome found IsOfNoStore →
      ComesTo these now (ones_of after) found →
      ((found ≡ Some fault.Memory → ⊥) → BeginsJoint garble_rules plan states these now (ones_of after) found ⊎ WasDeceived these now (ones_of after)) →
      IfSome found (λ f. f ≡ fault.Memory)
  roomy_so room all None spared came begins = tt
  roomy_so room all (Some (fault.Store w)) spared came begins = absurd spared
  roomy_so room all (Some (fault.Driver w f)) spared came begins = absurd (stopped_here room all w f came.0 (begins (λ e. cc)))
  roomy_so room all (Some (fault.Damaged w damage)) spared came begins = absurd spared
  roomy_so room all (Some fault.Memory) spared came begins = refl

module _ (parts : List WorkerPart) (seed : List ℕ) (garbler : List (List ℕ)) (sinks : List SinkTold) (drivers now : List (Told Garbling)) (sinks' : List SinkTold)
    (before after : List (List StoreTold)) (made : drivers ≡ garbler_openings seed 0 garbler sinks) (long_g : length garbler ≡ length parts)
    (long_s : length sinks ≡ length parts) (counted : length drivers ≡ length parts) (kept : length now ≡ length parts) (closed : AreClosed now sinks')
    (b : Ones before (length parts)) (a : Ones after (length parts)) (count : ℕ) (emitted : List Emitted) (plan : MemProgram) (fine : IsMemProgram plan)
    (is : parts ≡ parts_of plan) (none : fault_of plan ≡ None) (carried : Carries count emitted plan) (can : CanRun count emitted) where
  -- why a run stopped, with all that is asked of it
  abbrev Answers : List (Told Garbling) → (before after : List (List StoreTold)) → Option RunFault → Type 0
  Answers ds x y found =
      ((w : ℕ) → IfSome (slice_get (starts_of parts ds x) w) Suffices) → ComesTo (starts_of parts ds x) now y found →
      ((states : ℕ → Garbling) → AreStates (starts_of parts ds x) states → (found ≡ Some fault.Memory → ⊥) →
      BeginsJoint garble_rules plan states (starts_of parts ds x) now y found ⊎ WasDeceived (starts_of parts ds x) now y) →
      IfSome found (λ f. f ≡ fault.Memory)

  pub roomy_end : AllSuffice parts before → AllHaveRoom sinks (garbled_stream (program_of count emitted) seed (list_at garbler)) → (found : Option RunFault) →
      IfSome found IsOfNoStore → ComesTo (starts_of parts drivers before) now after found →
      ((states : ℕ → Garbling) → AreStates (starts_of parts drivers before) states → (found ≡ Some fault.Memory → ⊥) →
      BeginsJoint garble_rules plan states (starts_of parts drivers before) now after found ⊎ WasDeceived (starts_of parts drivers before) now after) →
      IfSome found (λ f. f ≡ fault.Memory)
  roomy_end all room found spared =
      subst (λ (ds : List (Told Garbling)). Answers ds before after found) (sym made)
      (subst (λ (x : List (List StoreTold)). Answers (garbler_openings seed 0 garbler sinks) x after found) (sym b.is)
      (subst (λ (y : List (List StoreTold)). Answers (garbler_openings seed 0 garbler sinks) (ones_of b.each) y found) (sym a.is)
      (λ enough came begins.
      roomy_so parts seed garbler sinks now b.each a.each long_s count emitted plan fine is none carried can room enough found spared came
      (begins (garblers seed (list_at garbler) (sink_at sinks)) (are_states parts seed garbler sinks now sinks' b.each a.each long_g long_s kept closed)))))
      (suffices_ones parts drivers now before after counted kept b a all)
