-- A run in plain puts out what the program means.
use Rattle.std.proofs.Common.{◌≡◌, ◌<◌, ◌+◌, ◌⊎◌, inl, inr, ℕ, zero, suc, List, [], ◌∷◌, length, map, None, Some, slice_get, refl, sym, ap, ◌∙◌, subst, arith}
use Rattle.std.proofs.lemmas.List.{length-map}
use Rattle.std.proofs.lemmas.List.Elements.{All-cons}
use Rattle.std.specs.Prelude.{IfSome, IsTrue}
use Rattle.std.specs.List.{All}
use Rattle.mage_base.specs.Store.{StoreTold}
use Rattle.mage_instr.specs.declared.directive.Directive.{Directive}
use Rattle.mage_instr.specs.declared.directive.MemProgram.{MemProgram}
use Rattle.mage_instr.specs.declared.replaced.Limits.{Limits}
use Rattle.mage_directives.specs.Directives.{IsMemProgram, IsPart}
use Rattle.mage_driver.specs.declared.standing.Standing.TheVariants as standing
use Rattle.mage_driver.specs.Calls.{Told}
use Rattle.mage_linked.specs.declared.emitted.Emitted.{Emitted}
use Rattle.mage_linked.specs.Emission.{program_of, own_instrs}
use Rattle.mage_linked.specs.Workers.{list_at, below}
use Rattle.mage_meaning.specs.Given.{Given}
use Rattle.mage_meaning.specs.Means.{means_of}
use Rattle.mage_verify.specs.Faults.{fault_of}
use Rattle.mage_verify.specs.Runs.{AreVerified}
use Rattle.mage_verify.specs.Parts.{WorkerPart, parts_of, parts_from}
use Rattle.mage_plain.specs.Plain.{Plain, PlainMoment, plain_rules, told_of}
use Rattle.mage_plain_runs.specs.Plainly.{CanRunPlainly}
use Rattle.mage_plain_runs.proofs.Carrying.{carried_means}
use Rattle.mage_carried.specs.Laws.{Carries}
use Rattle.mage_carried.proofs.Starting.{below_long, map_long, carried_so}
use Rattle.mage_garbled_runs.specs.Meant.{CanRunOn}
use Rattle.mage_steps.specs.Core.{directives_of, joint_after}
use Rattle.mage_verified_runs.specs.Turns.{verified_turns}
use Rattle.mage_core.specs.Answered.{AreStates, AreTold}
use Rattle.mage_core.specs.Going.{Start}
use Rattle.mage_core.specs.Joined.{RunsJoint, WasDeceived}
use Rattle.mage_core.specs.Results.{starts_of, Back}
use Rattle.mage_solo.specs.Stores.{WereDeceived}
use Rattle.mage_solo.specs.Plain.{opening, openings, outputs_done}
use Rattle.mage_solo.proofs.Lists.{same_some, if_found, if_each, map_get, unmap, found_below, index_found, list_found, same_lists, Ones, ones_of}
use Rattle.mage_solo.proofs.Workers.{start_at, at_start, at_store, deceived_so}
use Rattle.mage_solo.proofs.Counting.{room_enough}
use Rattle.mage_solo.proofs.Agreeing.{joint_agrees}

-- ---- parts

part_from : (limits : Limits) (stores : List ℕ) (k : ℕ) (workers : List (List Directive)) (w : ℕ) (part : WorkerPart) →
    slice_get (parts_from limits stores k workers) w ≡ Some part → slice_get workers w ≡ Some part.directives
part_from limits stores k [] zero part e = absurd cc
part_from limits stores k [] (suc w) part e = absurd cc
part_from limits stores k (x ∷ xs) zero part e = ap (λ (p : WorkerPart). Some p.directives) (same_some _ part e)
part_from limits stores k (x ∷ xs) (suc w) part e = part_from limits stores (k + 1) xs w part e

-- the directives of a part
pub part_does : (plan : MemProgram) (w : ℕ) (part : WorkerPart) → slice_get (parts_of plan) w ≡ Some part → directives_of plan w ≡ part.directives
part_does plan w part e = index_found plan.workers w part.directives [] (part_from plan.limits plan.stores 0 plan.workers w part e)

-- the directives of each part have a number of four bytes
pub parts_short : (parts : List WorkerPart) → AreVerified parts → (w : ℕ) → IfSome (slice_get parts w) (λ part. length part.directives < 4294967296)
parts_short parts verified w = if_each (λ (part : WorkerPart). length part.directives < 4294967296) (slice_get parts w) (λ part e.
    let plan = verified.whole.0 in
    let at = part_from plan.limits plan.stores 0 plan.workers w part (subst (λ (ps : List WorkerPart). slice_get ps w ≡ Some part) verified.whole.2 e) in
    (if_found (IsPart (length plan.workers) w) (slice_get plan.workers w) part.directives at (verified.whole.1.parts w)).count)

pub parts_count : (plan : MemProgram) → length (parts_of plan) ≡ length plan.workers
parts_count plan = go 0 plan.workers
  where
    go : (k : ℕ) (workers : List (List Directive)) → length (parts_from plan.limits plan.stores k workers) ≡ length workers
    go k [] = refl
    go k (x ∷ xs) = ap suc (go (k + 1) xs)

-- ---- the drivers at first

pub openings_count : (parts : List WorkerPart) (garbler evaluator : List (List ℕ)) → length garbler ≡ length parts → length evaluator ≡ length parts →
    length (openings parts garbler evaluator) ≡ length parts
openings_count [] g e long also = refl
openings_count (p ∷ ps) [] e long also = absurd (omega (arith, long))
openings_count (p ∷ ps) (x ∷ g) [] long also = absurd (omega (arith, also))
openings_count (p ∷ ps) (x ∷ g) (y ∷ e) long also = ap suc (openings_count ps g e (omega (arith, long)) (omega (arith, also)))

opening_at : (parts : List WorkerPart) (garbler evaluator : List (List ℕ)) (w : ℕ) (part : WorkerPart) (driver : PlainMoment) →
    slice_get parts w ≡ Some part → slice_get (openings parts garbler evaluator) w ≡ Some driver →
    driver ≡ opening part (list_at garbler w) (list_at evaluator w)
opening_at [] g e zero part driver p d = absurd cc
opening_at [] g e (suc w) part driver p d = absurd cc
opening_at (x ∷ ps) [] e zero part driver p d = absurd cc
opening_at (x ∷ ps) [] e (suc w) part driver p d = absurd cc
opening_at (x ∷ ps) (a ∷ g) [] zero part driver p d = absurd cc
opening_at (x ∷ ps) (a ∷ g) [] (suc w) part driver p d = absurd cc
opening_at (x ∷ ps) (a ∷ g) (b ∷ e) zero part driver p d =
    sym (same_some (opening x a b) driver d) ∙ ap (λ (q : WorkerPart). opening q a b) (same_some x part p)
opening_at (x ∷ ps) (a ∷ g) (b ∷ e) (suc w) part driver p d = opening_at ps g e w part driver p d

pub all_run : (parts : List WorkerPart) (garbler evaluator : List (List ℕ)) →
    All (λ (driver : PlainMoment). (told_of driver).standing ≡ standing.Running) (openings parts garbler evaluator)
all_run [] g e = λ k d h. absurd (omega (arith, h))
all_run (p ∷ ps) [] e = λ k d h. absurd (omega (arith, h))
all_run (p ∷ ps) (x ∷ g) [] = λ k d h. absurd (omega (arith, h))
all_run (p ∷ ps) (x ∷ g) (y ∷ e) = All-cons (λ (driver : PlainMoment). (told_of driver).standing ≡ standing.Running) (opening p x y) (openings ps g e) refl (all_run ps g e)

-- ---- the run

-- the state of a worker's driver at first
abbrev pub state_of : MemProgram → Given → (worker : ℕ) → Plain
state_of plan given worker = record {
  garbler = list_at given.garbler worker;
  evaluator = list_at given.evaluator worker;
  outputs = [];
  room = outputs_done (directives_of plan worker);
  ands = 0;
}

can_run : (count : ℕ) (emitted : List Emitted) (plan : MemProgram) (given : Given) → Carries count emitted plan → CanRunOn count emitted given →
    CanRunPlainly count emitted given (state_of plan given)
can_run count emitted plan given carried can = record {
  runs = can.runs;
  fit = can.fit;
  handed = record { garbler = λ n. refl; evaluator = λ n. refl; outputs = λ n. refl };
  room = room_enough count emitted plan carried;
}

pub means_count : (count : ℕ) (emitted : List Emitted) (given : Given) → length (means_of (program_of count emitted) given) ≡ count
unfolding means_of
means_count count emitted given =
    map_long _ (below (length (program_of count emitted).workers)) ∙ below_long (length (program_of count emitted).workers)
    ∙ map_long (own_instrs emitted) (below count) ∙ below_long count

abbrev pub tells : List PlainMoment → List (Told Plain)
tells drivers = map told_of drivers

module _ (parts : List WorkerPart) (garbler evaluator : List (List ℕ)) (now : List PlainMoment) (before after : List StoreTold) where
  abbrev given : Given
  given = record { garbler = garbler; evaluator = evaluator }

  abbrev these : List (Start Plain)
  these = starts_of parts (tells (openings parts garbler evaluator)) (ones_of before)

  abbrev outputs_now : List (List ℕ)
  outputs_now = map (λ (driver : PlainMoment). driver.state.outputs) now

  pub are_states : (plan : MemProgram) → parts ≡ parts_of plan → AreStates these (state_of plan given)
  are_states plan is w = if_each (λ (start : Start Plain). state_of plan given w ≡ start.driver.state) (slice_get these w) (λ start e.
      let at = start_at parts (tells (openings parts garbler evaluator)) before w start e in
      let found = unmap told_of (openings parts garbler evaluator) w start.driver at.driver in
      let opened = opening_at parts garbler evaluator w start.part found.0 at.part found.1 in
      let does = part_does plan w start.part (subst (λ (ps : List WorkerPart). slice_get ps w ≡ Some start.part) is at.part) in
      ap (λ (ds : List Directive). record { garbler = list_at garbler w; evaluator = list_at evaluator w; outputs = []; room = outputs_done ds; ands = 0 }) does
      ∙ sym (ap (λ (d : PlainMoment). d.state) opened) ∙ ap (λ (d : Told Plain). d.state) found.2)

  pub are_told : AreTold these
  are_told w = if_each (λ (start : Start Plain). IsTrue start.driver.told) (slice_get these w) (λ start e.
      let at = start_at parts (tells (openings parts garbler evaluator)) before w start e in
      let found = unmap told_of (openings parts garbler evaluator) w start.driver at.driver in
      ap (λ (d : Told Plain). d.told) (sym found.2))

  -- each worker's outputs are what its worker of the program means
  means_each : (count : ℕ) (emitted : List Emitted) (plan : MemProgram) → IsMemProgram plan → fault_of plan ≡ None → Carries count emitted plan →
      CanRunOn count emitted given → (w : ℕ) → w < count →
      (joint_after plain_rules plan (state_of plan given) (verified_turns plan.workers) w).state.engine.driver.outputs ≡ list_at (means_of (program_of count emitted) given) w
  means_each count emitted plan fine none carried can w within =
      let run = carried_means count emitted given (state_of plan given) plan (can_run count emitted plan given carried can) carried in
      ap (λ worker. worker.state.engine.driver.outputs)
      (sym (joint_agrees plain_rules plan (state_of plan given) fine none run.turns w (run.ends w)))
      ∙ run.put w within

  pub said_so : (count : ℕ) (emitted : List Emitted) (plan : MemProgram) → length garbler ≡ length parts → length evaluator ≡ length parts →
      length now ≡ length parts → length before ≡ length parts → length after ≡ length parts →
      IsMemProgram plan → parts ≡ parts_of plan → fault_of plan ≡ None → Carries count emitted plan → CanRunOn count emitted given →
      RunsJoint plain_rules plan (state_of plan given) these (tells now) (ones_of after) ⊎ WasDeceived these (tells now) (ones_of after) →
      (outputs_now ≡ means_of (program_of count emitted) given) ⊎ WereDeceived parts (ones_of before) (ones_of after)
  said_so count emitted plan long_g long_e kept long_b long_a fine is none carried can (inr was) =
      inr (deceived_so parts (tells (openings parts garbler evaluator)) (tells now) before after
      (length-map (openings parts garbler evaluator) told_of ∙ openings_count parts garbler evaluator long_g long_e)
      (length-map now told_of ∙ kept) was)
  said_so count emitted plan long_g long_e kept long_b long_a fine is none carried can (inl ran) =
      inl (same_lists outputs_now (means_of (program_of count emitted) given) (long ∙ sym (means_count count emitted given))
      (λ w h. each w (subst (λ n. w < n) long h)))
    where
      workers : length parts ≡ count
      workers = ap length is ∙ parts_count plan ∙ (carried_so count emitted plan carried).workers

      long : length outputs_now ≡ count
      long = length-map now (λ (driver : PlainMoment). driver.state.outputs) ∙ kept ∙ workers

      each : (w : ℕ) → w < count → list_at outputs_now w ≡ list_at (means_of (program_of count emitted) given) w
      each w within =
          let part = found_below parts w (omega (arith, workers, within)) in
          let driver = found_below (openings parts garbler evaluator) w
          (let n = openings_count parts garbler evaluator long_g long_e in omega (arith, n, workers, within)) in
          let store = found_below before w (omega (arith, long_b, workers, within)) in
          let end = found_below now w (omega (arith, kept, workers, within)) in
          let last = found_below after w (omega (arith, long_a, workers, within)) in
          let back : Back these (tells now) (ones_of after) w = record {
            start = record { part = part.0; driver = told_of driver.0; store = store.0 };
            driver = told_of end.0;
            store = last.0;
            starts_so = at_start parts (tells (openings parts garbler evaluator)) before w part.0 (told_of driver.0) store.0 part.1
                (map_get told_of (openings parts garbler evaluator) w driver.0 driver.1) store.1;
            driver_so = map_get told_of now w end.0 end.1;
            store_so = at_store after w last.0 last.1;
          } in
          list_found outputs_now w end.0.state.outputs (map_get (λ (d : PlainMoment). d.state.outputs) now w end.0 end.1)
          ∙ ap (λ (s : Plain). s.outputs) (ran.stands w back)
          ∙ means_each count emitted plan fine none carried can w within

-- the same of a run whose drivers were made for the parts
module _ (parts : List WorkerPart) (garbler evaluator : List (List ℕ)) (drivers now : List PlainMoment) (before after : List (List StoreTold))
    (made : drivers ≡ openings parts garbler evaluator) (long_g : length garbler ≡ length parts) (long_e : length evaluator ≡ length parts)
    (kept : length now ≡ length parts) (b : Ones before (length parts)) (a : Ones after (length parts)) where
  abbrev pub from_here : List (Start Plain)
  from_here = starts_of parts (tells drivers) before

  same_starts : starts_of parts (tells (openings parts garbler evaluator)) (ones_of b.each) ≡ from_here
  same_starts = ap (λ (ds : List PlainMoment). starts_of parts (tells ds) (ones_of b.each)) (sym made)
      ∙ ap (λ (ss : List (List StoreTold)). starts_of parts (tells drivers) ss) (sym b.is)

  pub told_end : AreTold from_here
  told_end = subst (λ (starts : List (Start Plain)). AreTold starts) same_starts (are_told parts garbler evaluator now b.each a.each)

  pub said_end : (count : ℕ) (emitted : List Emitted) (plan : MemProgram) → IsMemProgram plan → parts ≡ parts_of plan → fault_of plan ≡ None →
      Carries count emitted plan → CanRunOn count emitted (record { garbler = garbler; evaluator = evaluator }) →
      ((states : ℕ → Plain) → AreStates from_here states → RunsJoint plain_rules plan states from_here (tells now) after ⊎ WasDeceived from_here (tells now) after) →
      (map (λ (driver : PlainMoment). driver.state.outputs) now ≡ means_of (program_of count emitted) (record { garbler = garbler; evaluator = evaluator }))
      ⊎ WereDeceived parts before after
  said_end count emitted plan fine is none carried can joint =
      let states = state_of plan (record { garbler = garbler; evaluator = evaluator }) in
      let ran = joint states (subst (λ (starts : List (Start Plain)). AreStates starts states) same_starts (are_states parts garbler evaluator now b.each a.each plan is)) in
      let here = subst (λ (starts : List (Start Plain)). RunsJoint plain_rules plan states starts (tells now) (ones_of a.each) ⊎ WasDeceived starts (tells now) (ones_of a.each))
      (sym same_starts)
      (subst (λ (ss : List (List StoreTold)). RunsJoint plain_rules plan states from_here (tells now) ss ⊎ WasDeceived from_here (tells now) ss) a.is ran) in
      subst (λ (ss : List (List StoreTold)). (map (λ (driver : PlainMoment). driver.state.outputs) now
      ≡ means_of (program_of count emitted) (record { garbler = garbler; evaluator = evaluator })) ⊎ WereDeceived parts ss after) (sym b.is)
      (subst (λ (ss : List (List StoreTold)). (map (λ (driver : PlainMoment). driver.state.outputs) now
      ≡ means_of (program_of count emitted) (record { garbler = garbler; evaluator = evaluator })) ⊎ WereDeceived parts (ones_of b.each) ss) (sym a.is)
      (said_so parts garbler evaluator now b.each a.each count emitted plan long_g long_e kept b.long a.long fine is none carried can here))
