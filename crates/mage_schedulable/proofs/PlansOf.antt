-- What the passes make of a program is a plan of it.
use Rattle.std.proofs.Common.{◌≡◌, List, [], ◌∷◌, length, map, refl, sym, ◌∙◌, subst, arith}
use Rattle.std.specs.List.{flat_map}
use Rattle.mage_instr.specs.declared.instr.Instr.{Instr}
use Rattle.mage_instr.specs.declared.replaced.Limits.{Limits}
use Rattle.mage_instr.specs.declared.replaced.Replaced.{Replaced}
use Rattle.mage_instr.specs.declared.replaced.Replaced.TheVariants as entry
use Rattle.mage_place.specs.Places.{ArePlaces}
use Rattle.mage_place.specs.Placing.{places_of, trace_of}
use Rattle.mage_place.specs.Steps.{AreSteps}
use Rattle.mage_place.proofs.PlacesComputed.{ArePlaces-computed}
use Rattle.mage_place.proofs.StepsComputed.{AreSteps-computed}
use Rattle.mage_place.proofs.Stepped.{IsTrace-from_steps}
use Rattle.mage_belady.specs.Rule.{loads_of, sets_of, rule_of}
use Rattle.mage_belady.proofs.Fits.{ReadsLeast-rule_of}
use Rattle.mage_sched.specs.Reads.{reads_from}
use Rattle.mage_sched.specs.Scheduled.{page_read, IsPlanned}
use Rattle.mage_sched.proofs.Planned.{lists_are_planned}
use Rattle.mage_schedulable.specs.Bringing.{ComeInOnce}
use Rattle.mage_schedulable.specs.Planning.{AllCarry, program_of}
use Rattle.mage_schedulable.specs.PlanOf.{IsPartOf, AreParts, CanBePlanned, AllCanBePlanned, passed, PassesPlan}
use Rattle.mage_schedulable.specs.Standing.{AllFindPlaces}
use Rattle.mage_schedulable.proofs.Bringing.{rule_lists_bring_once}
use Rattle.mage_schedulable.proofs.Entries.{rule_lists_are_replaced, rule_lists_find_places}
use Rattle.mage_schedulable.proofs.Planning.{plans_carry, programs_carry}

-- a list has as many reads as loads
reads_are_loads : (before list : List Replaced) → length (reads_from before list) ≡ loads_of list
reads_are_loads before [] = refl
reads_are_loads before (entry.Fresh frame page ∷ list) = reads_are_loads (entry.Fresh frame page ∷ before) list
reads_are_loads before (entry.Load frame page ∷ list) = let rest = reads_are_loads (entry.Load frame page ∷ before) list in omega (arith, rest)
reads_are_loads before (entry.Save frame page ∷ list) = reads_are_loads (entry.Save frame page ∷ before) list
reads_are_loads before (entry.Do job ∷ list) = reads_are_loads (entry.Do job ∷ before) list

module _ (limits : Limits) (instrs : List Instr) (can : CanBePlanned limits instrs) where
  are : ArePlaces instrs limits.page (places_of instrs limits.page)
  are = ArePlaces-computed instrs limits.page

  steps : AreSteps instrs (places_of instrs limits.page) (trace_of instrs (places_of instrs limits.page))
  steps = AreSteps-computed instrs (places_of instrs limits.page) can.sound are.count

  abbrev list : List Replaced
  list = rule_of limits.frames instrs (places_of instrs limits.page) (trace_of instrs (places_of instrs limits.page))

  planned : IsPlanned limits.buffer limits.ahead list (passed limits instrs).directives (passed limits instrs).count
  planned = lists_are_planned limits.buffer limits.ahead list (rule_lists_are_replaced limits.frames instrs (places_of instrs limits.page) (trace_of instrs (places_of instrs limits.page)) can.sound steps can.frames) can.buffer

  -- a worker's directives are a plan of its instructions
  pub is_part : IsPartOf limits instrs (passed limits instrs).count (passed limits instrs).directives
  is_part =
      let places = places_of instrs limits.page in
      let trace = trace_of instrs places in
      let least = ReadsLeast-rule_of limits.frames instrs places trace (IsTrace-from_steps instrs places trace can.sound steps) (sym steps.count) can.frames in
      let asked : length (flat_map page_read (passed limits instrs).directives) ≡ loads_of list = planned.schedule.asked ∙ reads_are_loads [] list in
      let Find : List Replaced → Type 0 = AllFindPlaces instrs places 0 [] in
      let Bring : List Replaced → Type 0 = ComeInOnce trace in
      record {
        carries = plans_carry limits instrs places trace can.sound can.have can.page are steps can.frames can.buffer;
        found = subst Find (sym planned.schedule.plain) (rule_lists_find_places limits.frames instrs places trace can.sound can.have steps can.frames);
        fresh = subst Bring (sym planned.schedule.plain) (rule_lists_bring_once limits.frames instrs places trace can.sound can.have steps can.frames);
        least = record {
          reached = (sets_of list, least.serves, least.reads ∙ sym asked);
          least = λ plan serves. rw asked (least.least plan serves);
        };
        timely = planned.schedule.timely;
        homes = planned.homes;
      }

all_carry : (limits : Limits) (workers : List (List Instr)) → AllCanBePlanned limits workers → AllCarry limits workers (map (passed limits) workers)
all_carry limits [] all = tt
all_carry limits (instrs ∷ workers) all = ((is_part limits instrs all.0).carries, all_carry limits workers all.1)

are_parts : (limits : Limits) (workers : List (List Instr)) → AllCanBePlanned limits workers
    → AreParts limits workers (program_of limits (map (passed limits) workers)).stores (program_of limits (map (passed limits) workers)).workers
are_parts limits [] all = tt
are_parts limits (instrs ∷ workers) all = (is_part limits instrs all.0, are_parts limits workers all.1)

pub passes_plan : PassesPlan
passes_plan limits program all = record {
  within = refl;
  carries = programs_carry limits program (map (passed limits) program.workers) (all_carry limits program.workers all);
  parts = are_parts limits program.workers all;
}
