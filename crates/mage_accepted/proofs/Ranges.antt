-- The memory program that the passes make of a linked program has each field in its range.
use Rattle.std.proofs.Common.{◌≡◌, ◌≤◌, ◌+◌, ◌*◌, zero, suc, ℕ, false, List, [], ◌∷◌, Option, None, Some, IfSome, length, map, sym, ◌∙◌, ap, arith, ⊎_elim, subst, true≢false}
use Rattle.std.specs.Prelude.{slice_get}
use Rattle.std.proofs.lemmas.Bool.{cases_eq, false≢true}
use Rattle.std.proofs.lemmas.List.{length-map}
use Rattle.mage_instr.specs.declared.instr.Instr.{Instr}
use Rattle.mage_instr.specs.declared.instr.Place.{Place}
use Rattle.mage_instr.specs.declared.instr.Step.{Step}
use Rattle.mage_instr.specs.declared.op.Op.{Op}
use Rattle.mage_instr.specs.declared.op.Op.TheVariants as op
use Rattle.mage_instr.specs.declared.directive.Directive.{Directive}
use Rattle.mage_instr.specs.declared.replaced.Limits.{Limits}
use Rattle.mage_instr.specs.declared.replaced.Replaced.{Replaced}
use Rattle.mage_instr.specs.Opcodes.{WidthOk}
use Rattle.mage_instr.specs.Sound.{IsSoundAt}
use Rattle.mage_linked.specs.declared.emitted.Emitted.{Emitted}
use Rattle.mage_linked.specs.Workers.{list_at}
use Rattle.mage_linked.specs.Emission.{own_instrs, program_of}
use Rattle.mage_linked.specs.Linked.{is_transfer, AreLinked, nothing, alone, transfer}
use Rattle.mage_linked.proofs.EmissionLemmas.{own_instrs-other}
use Rattle.mage_linked.proofs.LinkedLemmas.{AreLinked-below}
use Rattle.mage_linked.proofs.WorkerLemmas.{length-map_below}
use Rattle.mage_place.specs.Placing.{places_of, trace_of}
use Rattle.mage_place.proofs.PlacesComputed.{ArePlaces-computed}
use Rattle.mage_place.proofs.StepsComputed.{AreSteps-computed}
use Rattle.mage_belady.specs.Rule.{rule_of}
use Rattle.mage_sched.specs.Homes.{Homed, empty_store}
use Rattle.mage_sched.specs.Schedule.{schedule_of}
use Rattle.mage_sched.specs.Scheduled.{AreBelow}
use Rattle.mage_sched.specs.Turns.{at_rest}
use Rattle.mage_sched.specs.Plainly.{plainly}
use Rattle.mage_sched.proofs.Own.{own_schedule, schedules_are_plain}
use Rattle.mage_sched.proofs.Planned.{lists_are_planned}
use Rattle.mage_schedulable.specs.Planning.{program_of as memory_program_of}
use Rattle.mage_schedulable.specs.PlanOf.{CanBePlanned, AllCanBePlanned, passed}
use Rattle.mage_schedulable.proofs.Entries.{rule_lists_are_replaced}
use Rattle.mage_schedulable.proofs.PlansOf.{passes_plan}
use Rattle.mage_directives.specs.Directives.{most_pages, LinksTo, IsPart}
use Rattle.mage_accepted.specs.Accepting.{PassedPlansAreAccepted}
use Rattle.mage_accepted.proofs.Directives.{AreRight, right_from, written_from, right_homed, each_in_range, length-homed, few_in_turn, none_yet, all_idle, few_moves}
use Rattle.mage_accepted.proofs.Lists.{AreInstrs, AreFine, rule_is_short}
use Rattle.mage_accepted.proofs.Pages.{AreLow, steps_are_low}
use Rattle.mage_accepted.proofs.Removing.{own_first}
use Rattle.mage_accepted.proofs.Stores.{few_store_pages}
use Rattle.mage_accepted.proofs.Together.{workers_are, carrying_plans_have_no_fault}

-- ---- the other ends of links

-- the other end of each link of a worker is another worker
abbrev pub AreLinks : (workers own : ℕ) → List Instr → Type 0
AreLinks workers own [] = Unit {0}
AreLinks workers own (i ∷ instrs) = LinksTo workers own i.op i.imm × AreLinks workers own instrs

links_alone : (workers own : ℕ) (o : Op) (imm : ℕ) → is_transfer o ≡ false → LinksTo workers own o imm
links_alone workers own op.Send imm h = absurd (true≢false h)
links_alone workers own op.Recv imm h = absurd (true≢false h)
links_alone workers own _ imm h = tt

links_first : (workers own : ℕ) (e : Emitted) (es : List Emitted)
    → (e.worker ≡ own → LinksTo workers own e.instr.op e.instr.imm) → AreLinks workers own (own_instrs es own)
    → AreLinks workers own (own_instrs (e ∷ es) own)
links_first workers own e es link rest = ⊎_elim
    (λ same. subst (AreLinks workers own) (sym (own_first e es own same)) (link same, rest))
    (λ other. subst (AreLinks workers own) (sym (own_instrs-other e es own other)) rest)
    (cases_eq e.worker own)

pub own_links : (workers own : ℕ) (es : List Emitted) → AreLinked workers es → AreLinks workers own (own_instrs es own)
own_links workers own [] nothing = tt
own_links workers own (e ∷ es) (alone is below linked) =
    links_first workers own e es (λ same. links_alone workers own e.instr.op e.instr.imm is) (own_links workers own es linked)
own_links workers own (send ∷ recv ∷ es) (transfer is linked) =
    links_first workers own send (recv ∷ es)
    (λ same. subst (λ o. LinksTo workers own o send.instr.imm) (sym is.sends)
    (let to = is.to in let within = is.receiver in omega (arith, to, within), λ e. is.apart (same ∙ sym e ∙ is.to)))
    (links_first workers own recv es
    (λ same. subst (λ o. LinksTo workers own o recv.instr.imm) (sym is.receives)
    (let from = is.from in let within = is.sender in omega (arith, from, within), λ e. is.apart (sym is.from ∙ e ∙ sym same)))
    (own_links workers own es linked))

few_own : (es : List Emitted) (w : ℕ) → length (own_instrs es w) ≤ length es
few_own [] w = omega arith
few_own (e ∷ es) w =
    let rest = few_own es w in
    ⊎_elim
    (λ same. let one : length (own_instrs (e ∷ es) w) ≡ suc (length (own_instrs es w)) = ap length (own_first e es w same) in omega (arith, one, rest))
    (λ other. let none : length (own_instrs (e ∷ es) w) ≡ length (own_instrs es w) = ap length (own_instrs-other e es w other) in omega (arith, none, rest))
    (cases_eq e.worker w)

-- ---- one worker

-- instructions that can run, with links, have their fields in range
are_instrs : (workers own : ℕ) (instrs : List Instr) → ((t : ℕ) → IfSome (slice_get instrs t) (λ i. WidthOk i.op i.width i.imm))
    → AreLinks workers own instrs → AreInstrs workers own instrs
are_instrs workers own [] wide links = tt
are_instrs workers own (i ∷ instrs) wide links = (record { width = wide 0; link = links.0 }, are_instrs workers own instrs (λ t. wide (suc t)) links.1)

wide_at : (o : Option Instr) (instrs : List Instr) (t : ℕ) → IfSome o (IsSoundAt instrs t)
    → IfSome o (λ i. WidthOk i.op i.width i.imm)
wide_at None instrs t h = tt
wide_at (Some i) instrs t h = h.0

-- the list of the rule is fine, and short
short : (workers own frames : ℕ) (places : List Place) (trace : List Step) (instrs : List Instr) → AreLow (length instrs) trace
    → AreInstrs workers own instrs
    → AreFine (length instrs) workers own (rule_of frames instrs places trace) × (length (rule_of frames instrs places trace) ≤ 9 * length instrs)
short workers own frames places trace [] low are = (tt, omega arith)
short workers own frames places trace (i ∷ instrs) low are =
    let s = rule_is_short (length (i ∷ instrs)) workers own (omega arith) frames places 0 [] [] (i ∷ instrs) trace (λ q h. absurd (false≢true h)) low are in
    (s.fine, s.few)

-- what the rule of replacement makes of a worker's instructions, and its schedule
abbrev replaced : Limits → List Instr → List Replaced
replaced limits instrs = rule_of limits.frames instrs (places_of instrs limits.page) (trace_of instrs (places_of instrs limits.page))

abbrev given : Limits → List Instr → List Directive
given limits instrs = schedule_of limits.buffer limits.ahead (replaced limits instrs)

-- what the passes make of a worker's instructions is fine, short, and on the pages of its store
pub record IsShort (limits : Limits) (workers own : ℕ) (instrs : List Instr) : Type 0 where
  pub fine : AreFine (length instrs) workers own (plainly at_rest (given limits instrs))
  pub few : length (passed limits instrs).directives ≤ 18 * length instrs
  pub below : AreBelow (passed limits instrs).count (passed limits instrs).directives

pub passed_is_short : (limits : Limits) (workers own : ℕ) (instrs : List Instr) → CanBePlanned limits instrs
    → AreLinks workers own instrs
    → IsShort limits workers own instrs
passed_is_short limits workers own instrs can links =
    let places = places_of instrs limits.page in
    let trace = trace_of instrs places in
    let are = ArePlaces-computed instrs limits.page in
    let steps = AreSteps-computed instrs places can.sound are.count in
    let list = replaced limits instrs in
    let rule = rule_lists_are_replaced limits.frames instrs places trace can.sound steps can.frames in
    let s = short workers own limits.frames places trace instrs (steps_are_low instrs limits.page places trace are steps)
    (are_instrs workers own instrs (λ t. wide_at (slice_get instrs t) instrs t (can.sound.each t)) links) in
    let schedule = own_schedule limits.buffer limits.ahead list rule can.buffer in
    let plain : plainly at_rest (given limits instrs) ≡ list = (schedules_are_plain limits.buffer limits.ahead list rule can.buffer).1 in
    let planned = lists_are_planned limits.buffer limits.ahead list rule can.buffer in
    let long : length (passed limits instrs).directives ≡ length (given limits instrs) = length-homed empty_store (given limits instrs) in
    let turns = few_in_turn limits.buffer (given limits instrs) at_rest (all_idle limits.buffer) schedule.turns in
    let none = none_yet limits.buffer in
    let listed : length (plainly at_rest (given limits instrs)) ≡ length list = ap length plain in
    let moves = few_moves [] list in
    let asked = schedule.asked in
    let sent = schedule.sent in
    let nine = s.1 in
    record {
      fine = subst (AreFine (length instrs) workers own) (sym plain) s.0;
      few = omega (arith, nine, long, turns, none, listed, moves, asked, sent);
      below = planned.below;
    }

-- what the passes make of a worker's instructions is in range
record IsInRange (workers own : ℕ) (made : Homed) : Type 0 where
  part : IsPart workers own made.directives
  stores : made.count ≤ most_pages

passed_in_range : (limits : Limits) (workers own : ℕ) (instrs : List Instr) → CanBePlanned limits instrs
    → length instrs ≤ most_pages → AreLinks workers own instrs
    → IsInRange workers own (passed limits instrs)
passed_in_range limits workers own instrs can few links =
    let is = passed_is_short limits workers own instrs can links in
    let count : (passed limits instrs).count ≤ length instrs = few_store_pages (length instrs) (given limits instrs) (written_from (length instrs) workers own at_rest (given limits instrs) is.fine) in
    let right : AreRight (length instrs) workers own (passed limits instrs).directives =
    right_homed (length instrs) workers own empty_store (given limits instrs) (right_from (length instrs) workers own at_rest (given limits instrs) is.fine) in
    let short = is.few in
    record {
      part = record {
        count = omega (arith, few, short);
        each = each_in_range (length instrs) workers own (passed limits instrs).count (passed limits instrs).directives few (omega (arith, count, few)) right is.below;
      };
      stores = omega (arith, count, few);
    }

-- ---- all workers

module _ (limits : Limits) (total : ℕ) where
  all_in_range : (from : ℕ) (programs : List (List Instr)) → AllCanBePlanned limits programs
      → ((w : ℕ) → length (list_at programs w) ≤ most_pages)
      → ((w : ℕ) → AreLinks total (from + w) (list_at programs w)) → (w : ℕ)
      → IfSome (slice_get (map (passed limits) programs) w) (IsInRange total (from + w))
  all_in_range from [] can few links zero = tt
  all_in_range from [] can few links (suc w) = tt
  all_in_range from (instrs ∷ programs) can few links zero = passed_in_range limits total (from + 0) instrs can.0 (few 0) (links 0)
  all_in_range from (instrs ∷ programs) can few links (suc w) =
      let next : from + 1 + w ≡ from + suc w = omega arith in
      subst (λ k. IfSome (slice_get (map (passed limits) programs) w) (IsInRange total k)) next
      (all_in_range (from + 1) programs can.1 (λ v. few (suc v)) (λ v. let same : from + suc v ≡ from + 1 + v = omega arith in subst (λ k. AreLinks total k (list_at programs v)) same (links (suc v))) w)

  parts_at : (parts : List Homed) (from : ℕ) → ((w : ℕ) → IfSome (slice_get parts w) (IsInRange total (from + w)))
      → (w : ℕ) → IfSome (slice_get (map (λ (part : Homed). part.directives) parts) w) (IsPart total (from + w))
  parts_at [] from h zero = tt
  parts_at [] from h (suc w) = tt
  parts_at (part ∷ parts) from h zero = let own = h 0 in own.part
  parts_at (part ∷ parts) from h (suc w) =
      let next : from + 1 + w ≡ from + suc w = omega arith in
      subst (λ k. IfSome (slice_get (map (λ (one : Homed). one.directives) parts) w) (IsPart total k)) next
      (parts_at parts (from + 1) (λ v. let same : from + suc v ≡ from + 1 + v = omega arith in subst (λ k. IfSome (slice_get parts v) (IsInRange total k)) same (h (suc v))) w)

  stores_at : (parts : List Homed) (from : ℕ) → ((w : ℕ) → IfSome (slice_get parts w) (IsInRange total (from + w)))
      → (w : ℕ) → IfSome (slice_get (map (λ (part : Homed). part.count) parts) w) (λ pages. pages ≤ most_pages)
  stores_at [] from h zero = tt
  stores_at [] from h (suc w) = tt
  stores_at (part ∷ parts) from h zero = let own = h 0 in own.stores
  stores_at (part ∷ parts) from h (suc w) =
      stores_at parts (from + 1) (λ v. let same : from + suc v ≡ from + 1 + v = omega arith in subst (λ k. IfSome (slice_get parts v) (IsInRange total k)) same (h (suc v))) w

pub passed_plans_are_accepted : PassedPlansAreAccepted
passed_plans_are_accepted limits count emitted ranges some most few linked can =
    let program = program_of count emitted in
    let parts = map (passed limits) program.workers in
    let below = AreLinked-below count emitted linked in
    let long : length (map (λ (part : Homed). part.directives) parts) ≡ count =
    length-map parts (λ (part : Homed). part.directives) ∙ length-map program.workers (passed limits) ∙ length-map_below (own_instrs emitted) count in
    let stored : length (map (λ (part : Homed). part.count) parts) ≡ length (map (λ (part : Homed). part.directives) parts) =
    length-map parts (λ (part : Homed). part.count) ∙ sym (length-map parts (λ (part : Homed). part.directives)) in
    let each : (w : ℕ) → IfSome (slice_get parts w) (IsInRange count (0 + w)) = all_in_range limits count 0 program.workers can
    (λ w. let own : length (list_at program.workers w) ≡ length (own_instrs emitted w) = ap length (workers_are count emitted w below) in let less = few_own emitted w in omega (arith, own, less, few))
    (λ w. subst (AreLinks count (0 + w)) (sym (workers_are count emitted w below)) (let same : w ≡ 0 + w = omega arith in subst (λ k. AreLinks count k (own_instrs emitted w)) same (own_links count w emitted linked))) in
    record {
      fields = record {
        limits = ranges;
        some_worker = omega (arith, some, long);
        few = omega (arith, most, long);
        counted = stored;
        stores = stores_at limits count parts 0 each;
        parts = λ w.
            let same : 0 + w ≡ w = omega arith in
            subst (λ n. IfSome (slice_get (map (λ (part : Homed). part.directives) parts) w) (IsPart n w)) (sym long)
            (subst (λ k. IfSome (slice_get (map (λ (part : Homed). part.directives) parts) w) (IsPart count k)) same (parts_at limits count parts 0 each w));
      };
      none = carrying_plans_have_no_fault count emitted (memory_program_of limits parts) linked (passes_plan limits program can).carries;
    }
