use Rattle.std.proofs.Common.{◌≡◌, ℕ, List, length, map, replicate, reverse, None, refl, sym, ap, ◌∙◌, subst, arith}
use Rattle.std.proofs.lemmas.List.{length-map}
use Rattle.mage_verify.specs.Parts.{WorkerPart}
use Rattle.mage_verify.specs.Faults.{fault_in}
use Rattle.mage_core.specs.Made.{shelves}
use Rattle.mage_core.specs.Going.{Start}
use Rattle.mage_core.specs.Results.{starts_of, Back, AllStay}
use Rattle.mage_base.specs.Store.{StoreTold}
use Rattle.mage_core.specs.Ports.{CameBy}
use Rattle.mage_core.specs.Turns.{sights}
use Rattle.mage_core.specs.Steady.{IsNotOfStore, IsNotOfDriver, TellsAlike}
use Rattle.mage_core.proofs.Sufficing.{steady_end, untold_end, unfailing_end, faults_end, alike_end, back_same, alike_same}
use Rattle.mage_core.proofs.Finishing.{back_end, comes_end, stays_end, answered_end, joint_end, begins_answered_end, begins_end, ones_end, ones_given, starts_parts, told_lengths, by_memory}
use Rattle.mage_core.proofs.Whole.{all_reverse, but_for_memory}
use Rattle.mage_core.proofs.Grown.{same_all}
use Rattle.mage_core.proofs.Lending.{some_parts, few_parts, end_count}
use Rattle.mage_core.proofs.serial.solo.Goals as goal

pub overflow_cast-len : goal.overflow_cast-len
overflow_cast-len g c =
    let few = few_parts c.args.parts.items c.requires.verified in
    let items = c.args.parts.ok.0 in
    let len = c.len.ensures in
    omega (arith, few, items, len)

pub room-requires-after_bounds : goal.room-requires-after_bounds
room-requires-after_bounds g c κs within =
    let some = some_parts c.args.parts.items c.requires.verified in
    let few = few_parts c.args.parts.items c.requires.verified in
    let items = c.args.parts.ok.0 in
    let len = c.len.ensures in
    (omega (arith, some, items, len), omega (arith, few, items, len))

pub run_all-fault-requires-clause-few : goal.run_all-fault-requires-clause-few
run_all-fault-requires-clause-few g c κs within = few_parts c.args.parts.items c.requires.verified

pub returns-clause-drivers : goal.returns-clause-drivers
returns-clause-drivers g c =
    end_count (λ machine. machine.driver) c.run_all-fault.new.drivers.items c.run_all-fault.new.machines.items c.close_all.new.drivers.items (length c.args.drivers.items)
    c.close_all.ensures.drivers c.run_all-fault.ensures.total

pub returns-clause-stores : goal.returns-clause-stores
returns-clause-stores g c =
    by_memory (map (λ shelf. length shelf) (shelves c.close_all.new.stores.items) ≡ map (λ shelf. length shelf) (shelves c.args.stores.items)) c.run_all-fault.result
    (λ e. ap (map (λ shelf. length shelf)) (c.close_all.ensures.stores ∙ (c.run_all-fault.ensures.memory e).stores_are))
    (λ not. let none = (c.run_all-fault.ensures.ran not).0 in
    let empty : length c.run_all-fault.new.drivers.items ≡ 0 = ap length none in
    let total = c.run_all-fault.ensures.total in
    let drivers = c.requires.drivers in
    let count : length c.run_all-fault.new.machines.items ≡ length c.args.parts.items = omega (arith, empty, total, drivers) in
    ones_end g.D.Driver.rules g.D.Driver.tells g.S.Store.tells
    (starts_of c.args.parts.items (map g.D.Driver.tells c.args.drivers.items) (map (λ shelf. map g.S.Store.tells shelf) (shelves c.args.stores.items)))
    c.run_all-fault.new.machines.items c.run_all-fault.new.drivers.items c.close_all.new.drivers.items c.run_all-fault.new.stores.items c.close_all.new.stores.items
    c.close_all.ensures.drivers c.close_all.ensures.stores none
    ∙ ap (λ n. replicate n 1) count
    ∙ sym (ones_given g.D.Driver.WIRE_BYTES g.S.Store.tells c.args.parts.items c.args.stores.items c.requires.stores c.requires.suits))

pub returns-clause-comes : goal.returns-clause-comes
returns-clause-comes g c =
    let starts = starts_of c.args.parts.items (map g.D.Driver.tells c.args.drivers.items) (map (λ shelf. map g.S.Store.tells shelf) (shelves c.args.stores.items)) in
    but_for_memory starts (map g.D.Driver.tells c.close_all.new.drivers.items) (map (λ shelf. map g.S.Store.tells shelf) (shelves c.close_all.new.stores.items)) c.run_all-fault.result
    (λ not. comes_end g.D.Driver.rules g.D.Driver.tells g.S.Store.tells starts c.run_all-fault.new.machines.items c.run_all-fault.new.drivers.items
    c.close_all.new.drivers.items c.run_all-fault.new.stores.items c.close_all.new.stores.items c.close_all.ensures.drivers c.close_all.ensures.stores
    (c.run_all-fault.ensures.ran not).0 c.run_all-fault.new.link c.run_all-fault.result c.close_all.ensures.came (c.run_all-fault.ensures.ran not).1)

pub returns-in_default-clause-stays : goal.returns-in_default-clause-stays
returns-in_default-clause-stays g c =
    same_all c.args.parts.items (map g.D.Driver.tells c.args.drivers.items) (map g.D.Driver.tells c.args.drivers.items)
    (map (λ shelf. map g.S.Store.tells shelf) (shelves c.args.stores.items)) (map (λ shelf. map g.S.Store.tells shelf) (shelves c.args.stores.items)) refl refl

pub returns-clause-stays : goal.returns-clause-stays
returns-clause-stays g c =
    let starts = starts_of c.args.parts.items (map g.D.Driver.tells c.args.drivers.items) (map (λ shelf. map g.S.Store.tells shelf) (shelves c.args.stores.items)) in
    by_memory (AllStay starts (map g.D.Driver.tells c.close_all.new.drivers.items) (map (λ shelf. map g.S.Store.tells shelf) (shelves c.close_all.new.stores.items))) c.run_all-fault.result
    (λ e. same_all c.args.parts.items (map g.D.Driver.tells c.args.drivers.items) (map g.D.Driver.tells c.close_all.new.drivers.items)
    (map (λ shelf. map g.S.Store.tells shelf) (shelves c.args.stores.items)) (map (λ shelf. map g.S.Store.tells shelf) (shelves c.close_all.new.stores.items))
    (ap (map g.D.Driver.tells) (c.close_all.ensures.drivers ∙ (c.run_all-fault.ensures.memory e).drivers_are))
    (ap (map (λ shelf. map g.S.Store.tells shelf)) (c.close_all.ensures.stores ∙ (c.run_all-fault.ensures.memory e).stores_are)))
    (λ not. stays_end g.D.Driver.rules g.D.Driver.tells g.S.Store.tells starts c.run_all-fault.new.machines.items c.run_all-fault.new.drivers.items
    c.close_all.new.drivers.items c.run_all-fault.new.stores.items c.close_all.new.stores.items c.close_all.ensures.drivers c.close_all.ensures.stores
    (c.run_all-fault.ensures.ran not).0 c.run_all-fault.new.link c.run_all-fault.result c.close_all.ensures.came (c.run_all-fault.ensures.ran not).1)

pub returns-clause-answered : goal.returns-clause-answered
returns-clause-answered g c plan states fine same are told is =
    let starts = starts_of c.args.parts.items (map g.D.Driver.tells c.args.drivers.items) (map (λ shelf. map g.S.Store.tells shelf) (shelves c.args.stores.items)) in
    let ran = c.run_all-fault.ensures.ran (λ e. absurd (let never = sym is ∙ e in cc)) in
    let parts_are : map (λ (start : Start g.D.Driver.rules.State). start.part) starts ≡ c.args.parts.items =
    starts_parts c.args.parts.items (map g.D.Driver.tells c.args.drivers.items) (map (λ shelf. map g.S.Store.tells shelf) (shelves c.args.stores.items))
    (length-map c.args.drivers.items g.D.Driver.tells ∙ c.requires.drivers)
    (told_lengths g.S.Store.tells (shelves c.args.stores.items)
    ∙ ones_given g.D.Driver.WIRE_BYTES g.S.Store.tells c.args.parts.items c.args.stores.items c.requires.stores c.requires.suits) in
    let empty : length c.run_all-fault.new.drivers.items ≡ 0 = ap length ran.0 in
    let total = c.run_all-fault.ensures.total in
    let drivers = c.requires.drivers in
    let long : length starts ≡ length c.args.parts.items = sym (length-map starts (λ (start : Start g.D.Driver.rules.State). start.part)) ∙ ap length parts_are in
    let count : length c.run_all-fault.new.machines.items ≡ length starts = omega (arith, empty, total, drivers, long) in
    answered_end g.D.Driver.rules g.D.Driver.tells g.S.Store.tells starts c.run_all-fault.new.machines.items c.run_all-fault.new.drivers.items
    c.close_all.new.drivers.items c.run_all-fault.new.stores.items c.close_all.new.stores.items c.close_all.ensures.drivers c.close_all.ensures.stores ran.0
    c.run_all-fault.new.link c.run_all-fault.result c.close_all.ensures.came ran.1 is count plan fine
    (subst (λ (ps : List WorkerPart). fault_in ps ≡ None) same c.requires.verified.none) (parts_are ∙ same) states are told

pub returns-clause-joint : goal.returns-clause-joint
returns-clause-joint g c plan states fine same are told is =
    let starts = starts_of c.args.parts.items (map g.D.Driver.tells c.args.drivers.items) (map (λ shelf. map g.S.Store.tells shelf) (shelves c.args.stores.items)) in
    let ran = c.run_all-fault.ensures.ran (λ e. absurd (let never = sym is ∙ e in cc)) in
    let parts_are : map (λ (start : Start g.D.Driver.rules.State). start.part) starts ≡ c.args.parts.items =
    starts_parts c.args.parts.items (map g.D.Driver.tells c.args.drivers.items) (map (λ shelf. map g.S.Store.tells shelf) (shelves c.args.stores.items))
    (length-map c.args.drivers.items g.D.Driver.tells ∙ c.requires.drivers)
    (told_lengths g.S.Store.tells (shelves c.args.stores.items)
    ∙ ones_given g.D.Driver.WIRE_BYTES g.S.Store.tells c.args.parts.items c.args.stores.items c.requires.stores c.requires.suits) in
    let empty : length c.run_all-fault.new.drivers.items ≡ 0 = ap length ran.0 in
    let total = c.run_all-fault.ensures.total in
    let drivers = c.requires.drivers in
    let long : length starts ≡ length c.args.parts.items = sym (length-map starts (λ (start : Start g.D.Driver.rules.State). start.part)) ∙ ap length parts_are in
    let count : length c.run_all-fault.new.machines.items ≡ length starts = omega (arith, empty, total, drivers, long) in
    joint_end g.D.Driver.rules g.D.Driver.tells g.S.Store.tells starts c.run_all-fault.new.machines.items c.run_all-fault.new.drivers.items
    c.close_all.new.drivers.items c.run_all-fault.new.stores.items c.close_all.new.stores.items c.close_all.ensures.drivers c.close_all.ensures.stores ran.0
    c.run_all-fault.new.link c.run_all-fault.result c.close_all.ensures.came ran.1 is count plan fine
    (subst (λ (ps : List WorkerPart). fault_in ps ≡ None) same c.requires.verified.none) (parts_are ∙ same) states are told

pub returns-clause-begins_answered : goal.returns-clause-begins_answered
returns-clause-begins_answered g c plan states fine same are told not =
    let starts = starts_of c.args.parts.items (map g.D.Driver.tells c.args.drivers.items) (map (λ shelf. map g.S.Store.tells shelf) (shelves c.args.stores.items)) in
    let ran = c.run_all-fault.ensures.ran not in
    let parts_are : map (λ (start : Start g.D.Driver.rules.State). start.part) starts ≡ c.args.parts.items =
    starts_parts c.args.parts.items (map g.D.Driver.tells c.args.drivers.items) (map (λ shelf. map g.S.Store.tells shelf) (shelves c.args.stores.items))
    (length-map c.args.drivers.items g.D.Driver.tells ∙ c.requires.drivers)
    (told_lengths g.S.Store.tells (shelves c.args.stores.items)
    ∙ ones_given g.D.Driver.WIRE_BYTES g.S.Store.tells c.args.parts.items c.args.stores.items c.requires.stores c.requires.suits) in
    let empty : length c.run_all-fault.new.drivers.items ≡ 0 = ap length ran.0 in
    let total = c.run_all-fault.ensures.total in
    let drivers = c.requires.drivers in
    let long : length starts ≡ length c.args.parts.items = sym (length-map starts (λ (start : Start g.D.Driver.rules.State). start.part)) ∙ ap length parts_are in
    let count : length c.run_all-fault.new.machines.items ≡ length starts = omega (arith, empty, total, drivers, long) in
    begins_answered_end g.D.Driver.rules g.D.Driver.tells g.S.Store.tells starts c.run_all-fault.new.machines.items c.run_all-fault.new.drivers.items
    c.close_all.new.drivers.items c.run_all-fault.new.stores.items c.close_all.new.stores.items c.close_all.ensures.drivers c.close_all.ensures.stores ran.0
    g.met.D.Driver.lawful c.run_all-fault.new.link c.run_all-fault.result c.close_all.ensures.came ran.1 count plan fine
    (subst (λ (ps : List WorkerPart). fault_in ps ≡ None) same c.requires.verified.none) (parts_are ∙ same) states are told

pub returns-clause-begins : goal.returns-clause-begins
returns-clause-begins g c plan states fine same are told not =
    let starts = starts_of c.args.parts.items (map g.D.Driver.tells c.args.drivers.items) (map (λ shelf. map g.S.Store.tells shelf) (shelves c.args.stores.items)) in
    let ran = c.run_all-fault.ensures.ran not in
    let parts_are : map (λ (start : Start g.D.Driver.rules.State). start.part) starts ≡ c.args.parts.items =
    starts_parts c.args.parts.items (map g.D.Driver.tells c.args.drivers.items) (map (λ shelf. map g.S.Store.tells shelf) (shelves c.args.stores.items))
    (length-map c.args.drivers.items g.D.Driver.tells ∙ c.requires.drivers)
    (told_lengths g.S.Store.tells (shelves c.args.stores.items)
    ∙ ones_given g.D.Driver.WIRE_BYTES g.S.Store.tells c.args.parts.items c.args.stores.items c.requires.stores c.requires.suits) in
    let empty : length c.run_all-fault.new.drivers.items ≡ 0 = ap length ran.0 in
    let total = c.run_all-fault.ensures.total in
    let drivers = c.requires.drivers in
    let long : length starts ≡ length c.args.parts.items = sym (length-map starts (λ (start : Start g.D.Driver.rules.State). start.part)) ∙ ap length parts_are in
    let count : length c.run_all-fault.new.machines.items ≡ length starts = omega (arith, empty, total, drivers, long) in
    begins_end g.D.Driver.rules g.D.Driver.tells g.S.Store.tells starts c.run_all-fault.new.machines.items c.run_all-fault.new.drivers.items
    c.close_all.new.drivers.items c.run_all-fault.new.stores.items c.close_all.new.stores.items c.close_all.ensures.drivers c.close_all.ensures.stores ran.0
    g.met.D.Driver.lawful c.run_all-fault.new.link c.run_all-fault.result c.close_all.ensures.came ran.1 count plan fine
    (subst (λ (ps : List WorkerPart). fault_in ps ≡ None) same c.requires.verified.none) (parts_are ∙ same) states are told

pub returns-clause-steady : goal.returns-clause-steady
returns-clause-steady g c suffice =
    let told = map g.D.Driver.tells c.args.drivers.items in
    let stores = map (λ shelf. map g.S.Store.tells shelf) (shelves c.args.stores.items) in
    let starts = starts_of c.args.parts.items told stores in
    let drivers = map g.D.Driver.tells c.close_all.new.drivers.items in
    let left = map (λ shelf. map g.S.Store.tells shelf) (shelves c.close_all.new.stores.items) in
    by_memory (IsNotOfStore c.run_all-fault.result × ((w : ℕ) (back : Back starts drivers left w) → back.store.faults ≡ back.start.store.faults)) c.run_all-fault.result
    (λ e. let same = ap (map (λ shelf. map g.S.Store.tells shelf)) (c.close_all.ensures.stores ∙ (c.run_all-fault.ensures.memory e).stores_are) in (
      subst IsNotOfStore (sym e) tt,
      λ w back. ap (λ (s : StoreTold). s.faults) (back_same c.args.parts.items told drivers stores left same w back),
    ))
    (λ not. let ran = c.run_all-fault.ensures.ran not in
    let sights_of = sights g.D.Driver.tells g.S.Store.tells (reverse c.run_all-fault.new.machines.items) in
    let fine = steady_end g.D.Driver.rules starts suffice sights_of c.run_all-fault.new.link c.run_all-fault.result ran.1 in (
      fine,
      back_end g.D.Driver.rules g.D.Driver.tells g.S.Store.tells starts c.run_all-fault.new.machines.items c.run_all-fault.new.drivers.items
          c.close_all.new.drivers.items c.run_all-fault.new.stores.items c.close_all.new.stores.items c.close_all.ensures.drivers c.close_all.ensures.stores ran.0
          (λ ds ss. (w : ℕ) (back : Back starts ds ss w) → back.store.faults ≡ back.start.store.faults)
          (faults_end g.D.Driver.rules g.D.Driver.tells g.S.Store.tells starts (reverse c.run_all-fault.new.machines.items)
          (all_reverse (CameBy g.S.Store.tells) c.run_all-fault.new.machines.items c.close_all.ensures.came) c.run_all-fault.new.link c.run_all-fault.result ran.1 fine),
    ))

pub returns-clause-untold : goal.returns-clause-untold
returns-clause-untold g c w damage is =
    let starts = starts_of c.args.parts.items (map g.D.Driver.tells c.args.drivers.items) (map (λ shelf. map g.S.Store.tells shelf) (shelves c.args.stores.items)) in
    let ran = c.run_all-fault.ensures.ran (λ e. absurd (let never = sym is ∙ e in cc)) in
    untold_end g.D.Driver.rules starts (sights g.D.Driver.tells g.S.Store.tells (reverse c.run_all-fault.new.machines.items)) c.run_all-fault.new.link
    c.run_all-fault.result ran.1 w damage is

pub returns-clause-unfailing : goal.returns-clause-unfailing
returns-clause-unfailing g c never told =
    let starts = starts_of c.args.parts.items (map g.D.Driver.tells c.args.drivers.items) (map (λ shelf. map g.S.Store.tells shelf) (shelves c.args.stores.items)) in
    by_memory (IsNotOfDriver c.run_all-fault.result) c.run_all-fault.result (λ e. subst IsNotOfDriver (sym e) tt)
    (λ not. unfailing_end g.D.Driver.rules starts never told (sights g.D.Driver.tells g.S.Store.tells (reverse c.run_all-fault.new.machines.items))
    c.run_all-fault.new.link c.run_all-fault.result (c.run_all-fault.ensures.ran not).1)

pub returns-clause-pages : goal.returns-clause-pages
returns-clause-pages g c =
    let told = map g.D.Driver.tells c.args.drivers.items in
    let stores = map (λ shelf. map g.S.Store.tells shelf) (shelves c.args.stores.items) in
    let starts = starts_of c.args.parts.items told stores in
    let drivers = map g.D.Driver.tells c.close_all.new.drivers.items in
    let left = map (λ shelf. map g.S.Store.tells shelf) (shelves c.close_all.new.stores.items) in
    by_memory ((w : ℕ) (back : Back starts drivers left w) → TellsAlike back.start.store back.store) c.run_all-fault.result
    (λ e. let same = ap (map (λ shelf. map g.S.Store.tells shelf)) (c.close_all.ensures.stores ∙ (c.run_all-fault.ensures.memory e).stores_are) in
    λ w back. alike_same back.start.store back.store (back_same c.args.parts.items told drivers stores left same w back))
    (λ not. let ran = c.run_all-fault.ensures.ran not in
    back_end g.D.Driver.rules g.D.Driver.tells g.S.Store.tells starts c.run_all-fault.new.machines.items c.run_all-fault.new.drivers.items
    c.close_all.new.drivers.items c.run_all-fault.new.stores.items c.close_all.new.stores.items c.close_all.ensures.drivers c.close_all.ensures.stores ran.0
    (λ ds ss. (w : ℕ) (back : Back starts ds ss w) → TellsAlike back.start.store back.store)
    (alike_end g.D.Driver.rules g.D.Driver.tells g.S.Store.tells starts (reverse c.run_all-fault.new.machines.items)
    (all_reverse (CameBy g.S.Store.tells) c.run_all-fault.new.machines.items c.close_all.ensures.came) c.run_all-fault.new.link c.run_all-fault.result ran.1))

pub returns-in_default-clause-steady : goal.returns-in_default-clause-steady
returns-in_default-clause-steady g c suffice = (
  tt,
  λ w back. ap (λ (s : StoreTold). s.faults) (back_same c.args.parts.items (map g.D.Driver.tells c.args.drivers.items) _ _ _ refl w back),
)

pub returns-in_default-clause-pages : goal.returns-in_default-clause-pages
returns-in_default-clause-pages g c w back =
    alike_same back.start.store back.store (back_same c.args.parts.items (map g.D.Driver.tells c.args.drivers.items) _ _ _ refl w back)
