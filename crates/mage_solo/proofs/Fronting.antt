-- What sinks took before a run that garbles was stopped begins the streams of the program.
use Rattle.std.proofs.Common.{◌≡◌, ◌++◌, ◌⊎◌, inl, inr, ℕ, List, [], ◌∷◌, length, Option, None, unwrap_or, sym, ap, ◌∙◌, append_assoc}
use Rattle.mage_base.specs.Sink.{SinkTold}
use Rattle.mage_base.specs.Store.{StoreTold}
use Rattle.mage_instr.specs.declared.directive.MemProgram.{MemProgram}
use Rattle.mage_directives.specs.Directives.{IsMemProgram}
use Rattle.mage_driver.specs.Calls.{Told}
use Rattle.mage_linked.specs.declared.emitted.Emitted.{Emitted}
use Rattle.mage_linked.specs.Emission.{program_of}
use Rattle.mage_linked.specs.Workers.{list_at}
use Rattle.mage_verify.specs.Faults.{fault_of}
use Rattle.mage_verify.specs.Parts.{WorkerPart, parts_of}
use Rattle.mage_streams.specs.Streams.{garbled_stream}
use Rattle.mage_garble.specs.Rule.{Garbling, garble_rules}
use Rattle.mage_carried.specs.Laws.{CanRun, Carries}
use Rattle.mage_garbled_runs.specs.Runs.{garblers}
use Rattle.mage_core.specs.declared.fault.RunFault.{RunFault}
use Rattle.mage_core.specs.Answered.{AreStates}
use Rattle.mage_core.specs.Begun.{BeginsJoint}
use Rattle.mage_core.specs.Joined.{WasDeceived}
use Rattle.mage_core.specs.Results.{starts_of, AllStay}
use Rattle.mage_solo.specs.Stores.{WereDeceived}
use Rattle.mage_solo.specs.Garbling.{AllTellTaken, AreClosed, garbler_openings}
use Rattle.mage_solo.specs.Fronts.{AllTookFronts}
use Rattle.mage_solo.proofs.Lists.{Ones, ones_of}
use Rattle.mage_solo.proofs.Workers.{deceived_so}
use Rattle.mage_solo.proofs.Streaming.{sink_at, counted, Here, here, whole_stream, tells_old, tells_new, taken_more, are_states, carry_over}

-- what stands behind the same bytes is the same
same_behind : (xs ys zs : List ℕ) → xs ++ ys ≡ xs ++ zs → ys ≡ zs
same_behind [] ys zs e = e
same_behind (x ∷ xs) ys zs e = same_behind xs ys zs (let tails : xs ++ ys ≡ xs ++ zs = cc in tails)

module _ (parts : List WorkerPart) (seed : List ℕ) (garbler : List (List ℕ)) (sinks : List SinkTold) (now : List (Told Garbling)) (sinks' : List SinkTold)
    (before after : List StoreTold) (long_g : length garbler ≡ length parts) (long_s : length sinks ≡ length parts) (kept : length now ≡ length parts)
    (closed : AreClosed now sinks') (count : ℕ) (emitted : List Emitted) (plan : MemProgram) (fine : IsMemProgram plan) (is : parts ≡ parts_of plan)
    (none : fault_of plan ≡ None) (carried : Carries count emitted plan) (can : CanRun count emitted) (long_b : length before ≡ length parts)
    (long_a : length after ≡ length parts) (tell : AllTellTaken sinks) (found : Option RunFault) where
  abbrev openings : List (Told Garbling)
  openings = garbler_openings seed 0 garbler sinks

  abbrev Begun : Type 0
  Begun = BeginsJoint garble_rules plan (garblers seed (list_at garbler) (sink_at sinks)) (starts_of parts openings (ones_of before)) now (ones_of after) found

  abbrev stream : ℕ → List ℕ
  stream = garbled_stream (program_of count emitted) seed (list_at garbler)

  all_fronts : Begun → AllStay (starts_of parts openings (ones_of before)) now (ones_of after) → AllTookFronts sinks sinks' stream
  all_fronts begun stay w sink =
      let at : Here parts seed garbler sinks now sinks' before after long_g long_s kept closed w sink =
      here parts seed garbler sinks now sinks' before after long_g long_s kept closed long_b long_a w sink in
      let between = begun.grows w at.back in
      let since = between.since.streams 0 in
      let until = between.until.streams 0 in
      let grown : unwrap_or sink.new.taken [] ≡ unwrap_or sink.old.taken [] ++ since.0 =
      sym at.closes.stream ∙ since.1 ∙ ap (λ (d : Told Garbling). d.state.sending.stream ++ since.0) at.opens in
      let whole : unwrap_or sink.old.taken [] ++ stream w ≡ unwrap_or sink.old.taken [] ++ (since.0 ++ until.0) =
      sym (whole_stream parts seed garbler sinks now sinks' before after long_g long_s kept closed count emitted plan fine is none carried can long_b long_a tell w sink)
      ∙ until.1 ∙ ap (λ (l : List ℕ). l ++ until.0) (at.closes.stream ∙ grown) ∙ append_assoc (unwrap_or sink.old.taken []) since.0 until.0 in
      record {
        front = since.0;
        taken = taken_more sink.old.taken sink.new.taken since.0
            (tells_old parts seed garbler sinks now sinks' before after long_g long_s kept closed count emitted plan fine is none carried can long_b long_a tell w sink)
            (tells_new parts seed garbler sinks now sinks' before after long_g long_s kept closed count emitted plan fine is none carried can long_b long_a tell w sink at
            (stay w at.back).told) grown;
        begins = (until.0, same_behind (unwrap_or sink.old.taken []) (stream w) (since.0 ++ until.0) whole);
      }

  pub fronts_so : AllStay (starts_of parts openings (ones_of before)) now (ones_of after) →
      Begun ⊎ WasDeceived (starts_of parts openings (ones_of before)) now (ones_of after) →
      AllTookFronts sinks sinks' stream ⊎ WereDeceived parts (ones_of before) (ones_of after)
  fronts_so stay (inl begun) = inl (all_fronts begun stay)
  fronts_so stay (inr was) = inr (deceived_so parts openings now before after
      (counted parts seed garbler sinks now sinks' before after long_g long_s kept closed) kept was)

-- the same of a run whose drivers were made over the sinks
module _ (parts : List WorkerPart) (seed : List ℕ) (garbler : List (List ℕ)) (sinks : List SinkTold) (drivers now : List (Told Garbling)) (sinks' : List SinkTold)
    (before after : List (List StoreTold)) (made : drivers ≡ garbler_openings seed 0 garbler sinks) (long_g : length garbler ≡ length parts)
    (long_s : length sinks ≡ length parts) (kept : length now ≡ length parts) (closed : AreClosed now sinks')
    (b : Ones before (length parts)) (a : Ones after (length parts))
    (count : ℕ) (emitted : List Emitted) (plan : MemProgram) (fine : IsMemProgram plan) (is : parts ≡ parts_of plan) (none : fault_of plan ≡ None)
    (carried : Carries count emitted plan) (can : CanRun count emitted) (tell : AllTellTaken sinks) (found : Option RunFault) where
  pub fronts_end : AllStay (starts_of parts drivers before) now after →
      ((states : ℕ → Garbling) → AreStates (starts_of parts drivers before) states →
      BeginsJoint garble_rules plan states (starts_of parts drivers before) now after found ⊎ WasDeceived (starts_of parts drivers before) now after) →
      AllTookFronts sinks sinks' (garbled_stream (program_of count emitted) seed (list_at garbler)) ⊎ WereDeceived parts before after
  fronts_end = carry_over parts seed garbler sinks drivers now sinks' before after made long_g long_s kept closed b a
      (λ ds x y. AllStay (starts_of parts ds x) now y →
      ((states : ℕ → Garbling) → AreStates (starts_of parts ds x) states →
      BeginsJoint garble_rules plan states (starts_of parts ds x) now y found ⊎ WasDeceived (starts_of parts ds x) now y) →
      AllTookFronts sinks sinks' (garbled_stream (program_of count emitted) seed (list_at garbler)) ⊎ WereDeceived parts x y)
      (λ stay begun. fronts_so parts seed garbler sinks now sinks' b.each a.each long_g long_s kept closed count emitted plan fine is none carried can b.long a.long tell found
      stay (begun (garblers seed (list_at garbler) (sink_at sinks)) (are_states parts seed garbler sinks now sinks' b.each a.each long_g long_s kept closed)))
