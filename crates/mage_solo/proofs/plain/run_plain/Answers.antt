use Rattle.std.proofs.Common.{◌≡◌, ◌<◌, List, length, map, slice_get, Option, None, Some, sym, ap, ◌∙◌, subst, arith}
use Rattle.std.proofs.lemmas.List.{length-map, length-reverse, reverse-reverse}
use Rattle.std.specs.Prelude.{IfSome, reverse}
use Rattle.std.specs.List.{All}
use Rattle.mage_driver.specs.declared.standing.Standing.TheVariants as standing
use Rattle.mage_verify.specs.Parts.{WorkerPart}
use Rattle.mage_verify.specs.Faults.{fault_in}
use Rattle.mage_plain.specs.Plain.{PlainMoment, told_of}
use Rattle.mage_core.specs.declared.fault.RunFault.{RunFault}
use Rattle.mage_core.specs.Made.{shelves}
use Rattle.mage_core.specs.Results.{ComesTo, starts_of}
use Rattle.mage_core.specs.Steady.{IsNotOfStore, IsNotOfDriver}
use Rattle.mage_solo.specs.Stores.{told_by}
use Rattle.mage_solo.specs.Plain.{lists_of, openings, outputs_kept}
use Rattle.mage_solo.proofs.Lists.{Ones, mapped_ones}
use Rattle.mage_solo.proofs.Workers.{ones_given, grown_ones, moved_ones, suffices_ones}
use Rattle.mage_solo.proofs.Answering.{err_so, ok_so, on_ok, ok_first, either, plain_stops, only_memory}
use Rattle.mage_solo.proofs.Plainly.{parts_short, openings_count, all_run, told_end, said_end}
use Rattle.mage_solo.proofs.plain.run_plain.Goals as goal

pub prepare-requires-clause-few : goal.prepare-requires-clause-few
prepare-requires-clause-few g c w =
    subst (λ (ps : List WorkerPart). IfSome (slice_get ps w) (λ part. length part.directives < 4294967296)) (sym c.as_slice.ensures.value)
    (parts_short c.args.parts.items c.requires.verified w)

pub solo-drivers-requires-clause-drivers : goal.solo-drivers-requires-clause-drivers
solo-drivers-requires-clause-drivers g c κs within =
    let parts = c.args.parts.items in
    let garbler = lists_of c.args.garbler.items in
    let evaluator = lists_of c.args.evaluator.items in
    let made : c.in-Ok.drivers.items ≡ openings parts garbler evaluator = c.in-Ok.ensures.drivers ∙ ap (λ (ps : List WorkerPart). openings ps garbler evaluator) c.as_slice.ensures.value in
    ap length made ∙ openings_count parts garbler evaluator (length-map c.args.garbler.items (λ v. v.items) ∙ c.requires.garbler)
    (length-map c.args.evaluator.items (λ v. v.items) ∙ c.requires.evaluator)

pub solo-drivers-requires-clause-running : goal.solo-drivers-requires-clause-running
solo-drivers-requires-clause-running g c κs within =
    let parts = c.args.parts.items in
    let garbler = lists_of c.args.garbler.items in
    let evaluator = lists_of c.args.evaluator.items in
    let made : c.in-Ok.drivers.items ≡ openings parts garbler evaluator = c.in-Ok.ensures.drivers ∙ ap (λ (ps : List WorkerPart). openings ps garbler evaluator) c.as_slice.ensures.value in
    subst (All (λ (driver : PlainMoment). (told_of driver).standing ≡ standing.Running)) (sym made) (all_run parts garbler evaluator)

pub take_outputs-requires-clause-room : goal.take_outputs-requires-clause-room
take_outputs-requires-clause-room g c =
    let parts = c.args.parts.items in
    let ended = c.solo-drivers.result in
    let garbler = lists_of c.args.garbler.items in
    let evaluator = lists_of c.args.evaluator.items in
    let made : c.in-Ok.drivers.items ≡ openings parts garbler evaluator = c.in-Ok.ensures.drivers ∙ ap (λ (ps : List WorkerPart). openings ps garbler evaluator) c.as_slice.ensures.value in
    let long_g : length garbler ≡ length parts = length-map c.args.garbler.items (λ v. v.items) ∙ c.requires.garbler in
    let long_e : length evaluator ≡ length parts = length-map c.args.evaluator.items (λ v. v.items) ∙ c.requires.evaluator in
    let many : length c.in-Ok.drivers.items ≡ length parts = ap length made ∙ openings_count parts garbler evaluator long_g long_e in
    let kept : length ended.drivers.items ≡ length parts = c.solo-drivers.ensures.drivers ∙ many in
    let room = c.in-Ok.ensures.room in
    let slice : length c.as_slice.result.now ≡ length parts = ap length c.as_slice.ensures.value in
    let turned : length c.turned.result.items ≡ length ended.drivers.items = ap length c.turned.ensures ∙ length-reverse ended.drivers.items in
    omega (arith, room, slice, turned, kept)

pub returns-clause-grown : goal.returns-clause-grown
returns-clause-grown g c =
    let parts = c.args.parts.items in
    let ended = c.solo-drivers.result in
    let garbler = lists_of c.args.garbler.items in
    let evaluator = lists_of c.args.evaluator.items in
    let made : c.in-Ok.drivers.items ≡ openings parts garbler evaluator = c.in-Ok.ensures.drivers ∙ ap (λ (ps : List WorkerPart). openings ps garbler evaluator) c.as_slice.ensures.value in
    let long_g : length garbler ≡ length parts = length-map c.args.garbler.items (λ v. v.items) ∙ c.requires.garbler in
    let long_e : length evaluator ≡ length parts = length-map c.args.evaluator.items (λ v. v.items) ∙ c.requires.evaluator in
    let many : length c.in-Ok.drivers.items ≡ length parts = ap length made ∙ openings_count parts garbler evaluator long_g long_e in
    let kept : length ended.drivers.items ≡ length parts = c.solo-drivers.ensures.drivers ∙ many in
    let before = told_by g.S.Store.tells c.args.stores.items in
    let after = told_by g.S.Store.tells ended.stores.items in
    let ones = ones_given 1 g.S.Store.tells parts c.args.stores.items c.requires.stores c.requires.suits in
    let b : Ones before (length parts) = mapped_ones g.S.Store.tells (shelves c.args.stores.items) (length parts) ones in
    let a : Ones after (length parts) = mapped_ones g.S.Store.tells (shelves ended.stores.items) (length parts) (c.solo-drivers.ensures.stores ∙ ones) in
    let drivers = map told_of c.in-Ok.drivers.items in
    let now = map told_of ended.drivers.items in
    let counted : length drivers ≡ length parts = length-map c.in-Ok.drivers.items told_of ∙ many in
    let came_back : length now ≡ length parts = length-map ended.drivers.items told_of ∙ kept in
    grown_ones parts drivers now before after counted came_back b a c.solo-drivers.ensures.stays

pub returns-clause-count : goal.returns-clause-count
returns-clause-count g c =
    let parts = c.args.parts.items in
    let ended = c.solo-drivers.result in
    let garbler = lists_of c.args.garbler.items in
    let evaluator = lists_of c.args.evaluator.items in
    let made : c.in-Ok.drivers.items ≡ openings parts garbler evaluator = c.in-Ok.ensures.drivers ∙ ap (λ (ps : List WorkerPart). openings ps garbler evaluator) c.as_slice.ensures.value in
    let long_g : length garbler ≡ length parts = length-map c.args.garbler.items (λ v. v.items) ∙ c.requires.garbler in
    let long_e : length evaluator ≡ length parts = length-map c.args.evaluator.items (λ v. v.items) ∙ c.requires.evaluator in
    let many : length c.in-Ok.drivers.items ≡ length parts = ap length made ∙ openings_count parts garbler evaluator long_g long_e in
    let kept : length ended.drivers.items ≡ length parts = c.solo-drivers.ensures.drivers ∙ many in
    let before = told_by g.S.Store.tells c.args.stores.items in
    let after = told_by g.S.Store.tells ended.stores.items in
    let ones = ones_given 1 g.S.Store.tells parts c.args.stores.items c.requires.stores c.requires.suits in
    let b : Ones before (length parts) = mapped_ones g.S.Store.tells (shelves c.args.stores.items) (length parts) ones in
    let a : Ones after (length parts) = mapped_ones g.S.Store.tells (shelves ended.stores.items) (length parts) (c.solo-drivers.ensures.stores ∙ ones) in
    let drivers = map told_of c.in-Ok.drivers.items in
    let now = map told_of ended.drivers.items in
    let counted : length drivers ≡ length parts = length-map c.in-Ok.drivers.items told_of ∙ many in
    let came_back : length now ≡ length parts = length-map ended.drivers.items told_of ∙ kept in
    on_ok (ended.fault ≡ None) _ c.unless_stopped.result
    (λ is. moved_ones parts drivers now before after counted came_back b a
    (subst (λ (r : Option RunFault). ComesTo (starts_of parts drivers before) now after r) is c.solo-drivers.ensures.comes))
    (ok_first (ended.fault ≡ None) _ c.unless_stopped.result c.unless_stopped.ensures.ok)

pub returns-clause-comes : goal.returns-clause-comes
returns-clause-comes g c =
    let parts = c.args.parts.items in
    let ended = c.solo-drivers.result in
    let garbler = lists_of c.args.garbler.items in
    let evaluator = lists_of c.args.evaluator.items in
    let made : c.in-Ok.drivers.items ≡ openings parts garbler evaluator = c.in-Ok.ensures.drivers ∙ ap (λ (ps : List WorkerPart). openings ps garbler evaluator) c.as_slice.ensures.value in
    let long_g : length garbler ≡ length parts = length-map c.args.garbler.items (λ v. v.items) ∙ c.requires.garbler in
    let long_e : length evaluator ≡ length parts = length-map c.args.evaluator.items (λ v. v.items) ∙ c.requires.evaluator in
    let many : length c.in-Ok.drivers.items ≡ length parts = ap length made ∙ openings_count parts garbler evaluator long_g long_e in
    let kept : length ended.drivers.items ≡ length parts = c.solo-drivers.ensures.drivers ∙ many in
    let before = told_by g.S.Store.tells c.args.stores.items in
    let after = told_by g.S.Store.tells ended.stores.items in
    let ones = ones_given 1 g.S.Store.tells parts c.args.stores.items c.requires.stores c.requires.suits in
    let b : Ones before (length parts) = mapped_ones g.S.Store.tells (shelves c.args.stores.items) (length parts) ones in
    let a : Ones after (length parts) = mapped_ones g.S.Store.tells (shelves ended.stores.items) (length parts) (c.solo-drivers.ensures.stores ∙ ones) in
    let drivers = map told_of c.in-Ok.drivers.items in
    let now = map told_of ended.drivers.items in
    let counted : length drivers ≡ length parts = length-map c.in-Ok.drivers.items told_of ∙ many in
    let came_back : length now ≡ length parts = length-map ended.drivers.items told_of ∙ kept in
    err_so (λ f. ended.fault ≡ Some f) _ c.unless_stopped.result
    (λ f is. plain_stops parts drivers now before after counted came_back b a f
    (subst (λ (r : Option RunFault). ComesTo (starts_of parts drivers before) now after r) is c.solo-drivers.ensures.comes)
    (λ w damage e. c.solo-drivers.ensures.untold w damage (is ∙ e))
    (subst IsNotOfDriver is (c.solo-drivers.ensures.unfailing (λ from to after f stops. stops)
    (told_end parts garbler evaluator c.in-Ok.drivers.items ended.drivers.items before after made long_g long_e kept b a))))
    c.unless_stopped.ensures.err

pub returns-clause-steady : goal.returns-clause-steady
returns-clause-steady g c all =
    let parts = c.args.parts.items in
    let ended = c.solo-drivers.result in
    let garbler = lists_of c.args.garbler.items in
    let evaluator = lists_of c.args.evaluator.items in
    let made : c.in-Ok.drivers.items ≡ openings parts garbler evaluator = c.in-Ok.ensures.drivers ∙ ap (λ (ps : List WorkerPart). openings ps garbler evaluator) c.as_slice.ensures.value in
    let long_g : length garbler ≡ length parts = length-map c.args.garbler.items (λ v. v.items) ∙ c.requires.garbler in
    let long_e : length evaluator ≡ length parts = length-map c.args.evaluator.items (λ v. v.items) ∙ c.requires.evaluator in
    let many : length c.in-Ok.drivers.items ≡ length parts = ap length made ∙ openings_count parts garbler evaluator long_g long_e in
    let kept : length ended.drivers.items ≡ length parts = c.solo-drivers.ensures.drivers ∙ many in
    let before = told_by g.S.Store.tells c.args.stores.items in
    let after = told_by g.S.Store.tells ended.stores.items in
    let ones = ones_given 1 g.S.Store.tells parts c.args.stores.items c.requires.stores c.requires.suits in
    let b : Ones before (length parts) = mapped_ones g.S.Store.tells (shelves c.args.stores.items) (length parts) ones in
    let a : Ones after (length parts) = mapped_ones g.S.Store.tells (shelves ended.stores.items) (length parts) (c.solo-drivers.ensures.stores ∙ ones) in
    let drivers = map told_of c.in-Ok.drivers.items in
    let now = map told_of ended.drivers.items in
    let counted : length drivers ≡ length parts = length-map c.in-Ok.drivers.items told_of ∙ many in
    let came_back : length now ≡ length parts = length-map ended.drivers.items told_of ∙ kept in
    err_so (λ f. ended.fault ≡ Some f) _ c.unless_stopped.result
    (λ f is. only_memory parts drivers now before after counted came_back b a all f
    (subst (λ (r : Option RunFault). ComesTo (starts_of parts drivers before) now after r) is c.solo-drivers.ensures.comes)
    (λ w damage e. c.solo-drivers.ensures.untold w damage (is ∙ e))
    (subst IsNotOfDriver is (c.solo-drivers.ensures.unfailing (λ from to after f stops. stops)
    (told_end parts garbler evaluator c.in-Ok.drivers.items ended.drivers.items before after made long_g long_e kept b a)))
    (subst IsNotOfStore is (c.solo-drivers.ensures.steady (suffices_ones parts drivers now before after counted came_back b a all)).0))
    c.unless_stopped.ensures.err

pub returns-clause-workers : goal.returns-clause-workers
returns-clause-workers g c =
    let parts = c.args.parts.items in
    let ended = c.solo-drivers.result in
    let garbler = lists_of c.args.garbler.items in
    let evaluator = lists_of c.args.evaluator.items in
    let made : c.in-Ok.drivers.items ≡ openings parts garbler evaluator = c.in-Ok.ensures.drivers ∙ ap (λ (ps : List WorkerPart). openings ps garbler evaluator) c.as_slice.ensures.value in
    let long_g : length garbler ≡ length parts = length-map c.args.garbler.items (λ v. v.items) ∙ c.requires.garbler in
    let long_e : length evaluator ≡ length parts = length-map c.args.evaluator.items (λ v. v.items) ∙ c.requires.evaluator in
    let many : length c.in-Ok.drivers.items ≡ length parts = ap length made ∙ openings_count parts garbler evaluator long_g long_e in
    let kept : length ended.drivers.items ≡ length parts = c.solo-drivers.ensures.drivers ∙ many in
    let outputs : lists_of c.take_outputs.new.outputs.items ≡ outputs_kept (reverse c.turned.result.items) = c.take_outputs.ensures in
    let many_out : length c.take_outputs.new.outputs.items ≡ length parts =
    sym (length-map c.take_outputs.new.outputs.items (λ v. v.items)) ∙ ap length outputs
    ∙ length-map (reverse c.turned.result.items) (λ (d : PlainMoment). d.state.outputs) ∙ length-reverse c.turned.result.items
    ∙ ap length c.turned.ensures ∙ length-reverse ended.drivers.items ∙ kept in
    ok_so (λ all. (ended.fault ≡ None) × (all ≡ c.take_outputs.new.outputs)) _ c.unless_stopped.result
    (λ all h. ap (λ v. length v.items) h.1 ∙ many_out) c.unless_stopped.ensures.ok

pub returns-clause-said : goal.returns-clause-said
returns-clause-said g c plan count emitted fine same carried can =
    let parts = c.args.parts.items in
    let ended = c.solo-drivers.result in
    let garbler = lists_of c.args.garbler.items in
    let evaluator = lists_of c.args.evaluator.items in
    let made : c.in-Ok.drivers.items ≡ openings parts garbler evaluator = c.in-Ok.ensures.drivers ∙ ap (λ (ps : List WorkerPart). openings ps garbler evaluator) c.as_slice.ensures.value in
    let long_g : length garbler ≡ length parts = length-map c.args.garbler.items (λ v. v.items) ∙ c.requires.garbler in
    let long_e : length evaluator ≡ length parts = length-map c.args.evaluator.items (λ v. v.items) ∙ c.requires.evaluator in
    let many : length c.in-Ok.drivers.items ≡ length parts = ap length made ∙ openings_count parts garbler evaluator long_g long_e in
    let kept : length ended.drivers.items ≡ length parts = c.solo-drivers.ensures.drivers ∙ many in
    let before = told_by g.S.Store.tells c.args.stores.items in
    let after = told_by g.S.Store.tells ended.stores.items in
    let ones = ones_given 1 g.S.Store.tells parts c.args.stores.items c.requires.stores c.requires.suits in
    let b : Ones before (length parts) = mapped_ones g.S.Store.tells (shelves c.args.stores.items) (length parts) ones in
    let a : Ones after (length parts) = mapped_ones g.S.Store.tells (shelves ended.stores.items) (length parts) (c.solo-drivers.ensures.stores ∙ ones) in
    let drivers = map told_of c.in-Ok.drivers.items in
    let now = map told_of ended.drivers.items in
    let counted : length drivers ≡ length parts = length-map c.in-Ok.drivers.items told_of ∙ many in
    let came_back : length now ≡ length parts = length-map ended.drivers.items told_of ∙ kept in
    let outputs : lists_of c.take_outputs.new.outputs.items ≡ outputs_kept ended.drivers.items =
    c.take_outputs.ensures ∙ ap (λ (ds : List PlainMoment). outputs_kept (reverse ds)) c.turned.ensures ∙ ap outputs_kept (reverse-reverse ended.drivers.items) in
    ok_so (λ all. (ended.fault ≡ None) × (all ≡ c.take_outputs.new.outputs)) _ c.unless_stopped.result
    (λ all h. either (ap (λ v. lists_of v.items) h.1 ∙ outputs)
    (said_end parts garbler evaluator c.in-Ok.drivers.items ended.drivers.items before after made long_g long_e kept b a count emitted plan fine same
    (subst (λ (ps : List WorkerPart). fault_in ps ≡ None) same c.requires.verified.none) carried can
    (λ states are. c.solo-drivers.ensures.joint plan states fine same are
    (told_end parts garbler evaluator c.in-Ok.drivers.items ended.drivers.items before after made long_g long_e kept b a) h.0)))
    c.unless_stopped.ensures.ok
