use Rattle.std.proofs.Common.{◌≡◌, List, [], length, map, None, Option, refl, sym, ap, ◌∙◌, subst, arith}
use Rattle.std.proofs.lemmas.List.{length-map}
use Rattle.std.specs.Prelude.{reverse}
use Rattle.std.specs.List.{All}
use Rattle.mage_driver.specs.declared.standing.Standing.TheVariants as standing
use Rattle.mage_driver.specs.Calls.{Told}
use Rattle.mage_verify.specs.Parts.{WorkerPart}
use Rattle.mage_verify.specs.Faults.{fault_in}
use Rattle.mage_garble.specs.Rule.{Garbling}
use Rattle.mage_core.specs.declared.fault.RunFault.{RunFault}
use Rattle.mage_core.specs.Made.{shelves}
use Rattle.mage_core.specs.Results.{ComesTo, starts_of}
use Rattle.mage_solo.specs.Stores.{told_by}
use Rattle.mage_solo.specs.Plain.{lists_of}
use Rattle.mage_solo.specs.Garbling.{AreClosed, garbler_openings}
use Rattle.mage_solo.proofs.Lists.{Ones, mapped_ones}
use Rattle.mage_solo.proofs.Workers.{ones_given, grown_ones, moved_ones, suffices_ones}
use Rattle.mage_solo.proofs.Streaming.{all_run, garbler_openings_count, closed_count, made_all, none_made, same_map, few_parts, closed_end, none_end, sinks_count, ok_all, garble_stops, garble_spared, told_end, tell_end, tell_none, quiet_end, streams_end}
use Rattle.mage_solo.proofs.Fronting.{fronts_end}
use Rattle.mage_solo.proofs.Roomy.{roomy_end}
use Rattle.mage_solo.proofs.garbling.run_garbling.Goals as goal

pub make_all-requires-clause-few : goal.make_all-requires-clause-few
make_all-requires-clause-few g c =
    let few = few_parts c.args.parts.items c.requires.verified in
    let sinks = c.requires.sinks in omega (arith, few, sinks)

pub returns-then-is_err-clause-memory : goal.returns-then-is_err-clause-memory
returns-then-is_err-clause-memory g c e = (
  refl,
  none_made g.K.Sink.tells c.args.seed c.args.garbler.items c.args.sinks.items c.make_all.new.sinks.items c.close_all.new.sinks.items (reverse c.make_all.new.drivers.items)
      (c.requires.garbler ∙ sym c.requires.sinks) c.make_all.ensures.made c.close_all.ensures.back,
)

pub returns-then-is_err-clause-sinks : goal.returns-then-is_err-clause-sinks
returns-then-is_err-clause-sinks g c =
    sinks_count g.K.Sink.tells c.args.seed c.args.garbler.items c.args.sinks.items c.make_all.new.sinks.items c.close_all.new.sinks.items (reverse c.make_all.new.drivers.items)
    (c.requires.garbler ∙ sym c.requires.sinks) c.make_all.ensures.made c.close_all.ensures.back

pub solo-ended-requires-clause-drivers : goal.solo-ended-requires-clause-drivers
solo-ended-requires-clause-drivers g c κs within =
    let parts = c.args.parts.items in
    let garbler = lists_of c.args.garbler.items in
    let sinks = map g.K.Sink.tells c.args.sinks.items in
    let long_g : length garbler ≡ length parts = length-map c.args.garbler.items (λ v. v.items) ∙ c.requires.garbler in
    let long_s : length sinks ≡ length parts = length-map c.args.sinks.items g.K.Sink.tells ∙ c.requires.sinks in
    let together : length garbler ≡ length sinks = omega (arith, long_g, long_s) in
    let none : c.make_all.new.sinks.items ≡ [] = ok_all _ c.make_all.result c.make_all.ensures.all c.is_err.ensures.value c.if-is_err.false in
    let made : c.turned.result.items ≡ garbler_openings c.args.seed 0 garbler sinks =
    c.turned.ensures ∙ made_all g.K.Sink.tells c.args.seed c.args.garbler.items c.args.sinks.items c.make_all.new.sinks.items (reverse c.make_all.new.drivers.items)
    c.make_all.ensures.made none in
    let many : length c.turned.result.items ≡ length parts = ap length made ∙ garbler_openings_count c.args.seed 0 garbler sinks together ∙ long_s in
    many

pub solo-ended-requires-clause-running : goal.solo-ended-requires-clause-running
solo-ended-requires-clause-running g c κs within =
    let parts = c.args.parts.items in
    let garbler = lists_of c.args.garbler.items in
    let sinks = map g.K.Sink.tells c.args.sinks.items in
    let long_g : length garbler ≡ length parts = length-map c.args.garbler.items (λ v. v.items) ∙ c.requires.garbler in
    let long_s : length sinks ≡ length parts = length-map c.args.sinks.items g.K.Sink.tells ∙ c.requires.sinks in
    let together : length garbler ≡ length sinks = omega (arith, long_g, long_s) in
    let none : c.make_all.new.sinks.items ≡ [] = ok_all _ c.make_all.result c.make_all.ensures.all c.is_err.ensures.value c.if-is_err.false in
    let made : c.turned.result.items ≡ garbler_openings c.args.seed 0 garbler sinks =
    c.turned.ensures ∙ made_all g.K.Sink.tells c.args.seed c.args.garbler.items c.args.sinks.items c.make_all.new.sinks.items (reverse c.make_all.new.drivers.items)
    c.make_all.ensures.made none in
    let many : length c.turned.result.items ≡ length parts = ap length made ∙ garbler_openings_count c.args.seed 0 garbler sinks together ∙ long_s in
    subst (All (λ (driver : Told Garbling). driver.standing ≡ standing.Running)) (sym made) (all_run c.args.seed 0 garbler sinks)

pub returns-clause-memory : goal.returns-clause-memory
returns-clause-memory g c e =
    let parts = c.args.parts.items in
    let garbler = lists_of c.args.garbler.items in
    let sinks = map g.K.Sink.tells c.args.sinks.items in
    let long_g : length garbler ≡ length parts = length-map c.args.garbler.items (λ v. v.items) ∙ c.requires.garbler in
    let long_s : length sinks ≡ length parts = length-map c.args.sinks.items g.K.Sink.tells ∙ c.requires.sinks in
    let together : length garbler ≡ length sinks = omega (arith, long_g, long_s) in
    let none : c.make_all.new.sinks.items ≡ [] = ok_all _ c.make_all.result c.make_all.ensures.all c.is_err.ensures.value c.if-is_err.false in
    let made : c.turned.result.items ≡ garbler_openings c.args.seed 0 garbler sinks =
    c.turned.ensures ∙ made_all g.K.Sink.tells c.args.seed c.args.garbler.items c.args.sinks.items c.make_all.new.sinks.items (reverse c.make_all.new.drivers.items)
    c.make_all.ensures.made none in
    let many : length c.turned.result.items ≡ length parts = ap length made ∙ garbler_openings_count c.args.seed 0 garbler sinks together ∙ long_s in
    let ended = c.solo-ended.result in
    let drivers = map (λ (d : Told Garbling). d) c.turned.result.items in
    let now = map (λ (d : Told Garbling). d) ended.drivers.items in
    let sinks' = map g.K.Sink.tells c.close_all-2.new.sinks.items in
    let opened : drivers ≡ garbler_openings c.args.seed 0 garbler sinks = same_map c.turned.result.items ∙ made in
    let counted : length drivers ≡ length parts = ap length (same_map c.turned.result.items) ∙ many in
    let kept : length now ≡ length parts = ap length (same_map ended.drivers.items) ∙ c.solo-ended.ensures.drivers ∙ many in
    let closed : AreClosed now sinks' = closed_end g.K.Sink.tells c.turned-drivers.result.items ended.drivers.items c.make_all.new.sinks.items
    c.close_all-2.new.sinks.items none c.turned-drivers.ensures c.close_all-2.ensures.back in
    let before = told_by g.S.Store.tells c.args.stores.items in
    let after = told_by g.S.Store.tells ended.stores.items in
    let ones = ones_given 16 g.S.Store.tells parts c.args.stores.items c.requires.stores c.requires.suits in
    let b : Ones before (length parts) = mapped_ones g.S.Store.tells (shelves c.args.stores.items) (length parts) ones in
    let a : Ones after (length parts) = mapped_ones g.S.Store.tells (shelves ended.stores.items) (length parts) (c.solo-ended.ensures.stores ∙ ones) in
    let same = c.solo-ended.ensures.memory e in (
      same.1,
      none_end c.args.seed garbler sinks now sinks' closed (same_map ended.drivers.items ∙ same.0 ∙ made) together,
    )

pub returns-clause-sinks : goal.returns-clause-sinks
returns-clause-sinks g c =
    let parts = c.args.parts.items in
    let garbler = lists_of c.args.garbler.items in
    let sinks = map g.K.Sink.tells c.args.sinks.items in
    let long_g : length garbler ≡ length parts = length-map c.args.garbler.items (λ v. v.items) ∙ c.requires.garbler in
    let long_s : length sinks ≡ length parts = length-map c.args.sinks.items g.K.Sink.tells ∙ c.requires.sinks in
    let together : length garbler ≡ length sinks = omega (arith, long_g, long_s) in
    let none : c.make_all.new.sinks.items ≡ [] = ok_all _ c.make_all.result c.make_all.ensures.all c.is_err.ensures.value c.if-is_err.false in
    let made : c.turned.result.items ≡ garbler_openings c.args.seed 0 garbler sinks =
    c.turned.ensures ∙ made_all g.K.Sink.tells c.args.seed c.args.garbler.items c.args.sinks.items c.make_all.new.sinks.items (reverse c.make_all.new.drivers.items)
    c.make_all.ensures.made none in
    let many : length c.turned.result.items ≡ length parts = ap length made ∙ garbler_openings_count c.args.seed 0 garbler sinks together ∙ long_s in
    let ended = c.solo-ended.result in
    let drivers = map (λ (d : Told Garbling). d) c.turned.result.items in
    let now = map (λ (d : Told Garbling). d) ended.drivers.items in
    let sinks' = map g.K.Sink.tells c.close_all-2.new.sinks.items in
    let opened : drivers ≡ garbler_openings c.args.seed 0 garbler sinks = same_map c.turned.result.items ∙ made in
    let counted : length drivers ≡ length parts = ap length (same_map c.turned.result.items) ∙ many in
    let kept : length now ≡ length parts = ap length (same_map ended.drivers.items) ∙ c.solo-ended.ensures.drivers ∙ many in
    let closed : AreClosed now sinks' = closed_end g.K.Sink.tells c.turned-drivers.result.items ended.drivers.items c.make_all.new.sinks.items
    c.close_all-2.new.sinks.items none c.turned-drivers.ensures c.close_all-2.ensures.back in
    let before = told_by g.S.Store.tells c.args.stores.items in
    let after = told_by g.S.Store.tells ended.stores.items in
    let ones = ones_given 16 g.S.Store.tells parts c.args.stores.items c.requires.stores c.requires.suits in
    let b : Ones before (length parts) = mapped_ones g.S.Store.tells (shelves c.args.stores.items) (length parts) ones in
    let a : Ones after (length parts) = mapped_ones g.S.Store.tells (shelves ended.stores.items) (length parts) (c.solo-ended.ensures.stores ∙ ones) in
    sym (length-map c.close_all-2.new.sinks.items g.K.Sink.tells) ∙ closed_count now sinks' closed ∙ kept ∙ sym c.requires.sinks

pub returns-then-is_err-clause-kept : goal.returns-then-is_err-clause-kept
returns-then-is_err-clause-kept g c =
    tell_none (map g.K.Sink.tells c.args.sinks.items) (map g.K.Sink.tells c.close_all.new.sinks.items)
    (none_made g.K.Sink.tells c.args.seed c.args.garbler.items c.args.sinks.items c.make_all.new.sinks.items c.close_all.new.sinks.items (reverse c.make_all.new.drivers.items)
    (c.requires.garbler ∙ sym c.requires.sinks) c.make_all.ensures.made c.close_all.ensures.back)

pub returns-clause-kept : goal.returns-clause-kept
returns-clause-kept g c =
    let parts = c.args.parts.items in
    let garbler = lists_of c.args.garbler.items in
    let sinks = map g.K.Sink.tells c.args.sinks.items in
    let long_g : length garbler ≡ length parts = length-map c.args.garbler.items (λ v. v.items) ∙ c.requires.garbler in
    let long_s : length sinks ≡ length parts = length-map c.args.sinks.items g.K.Sink.tells ∙ c.requires.sinks in
    let together : length garbler ≡ length sinks = omega (arith, long_g, long_s) in
    let none : c.make_all.new.sinks.items ≡ [] = ok_all _ c.make_all.result c.make_all.ensures.all c.is_err.ensures.value c.if-is_err.false in
    let made : c.turned.result.items ≡ garbler_openings c.args.seed 0 garbler sinks =
    c.turned.ensures ∙ made_all g.K.Sink.tells c.args.seed c.args.garbler.items c.args.sinks.items c.make_all.new.sinks.items (reverse c.make_all.new.drivers.items)
    c.make_all.ensures.made none in
    let many : length c.turned.result.items ≡ length parts = ap length made ∙ garbler_openings_count c.args.seed 0 garbler sinks together ∙ long_s in
    let ended = c.solo-ended.result in
    let drivers = map (λ (d : Told Garbling). d) c.turned.result.items in
    let now = map (λ (d : Told Garbling). d) ended.drivers.items in
    let sinks' = map g.K.Sink.tells c.close_all-2.new.sinks.items in
    let opened : drivers ≡ garbler_openings c.args.seed 0 garbler sinks = same_map c.turned.result.items ∙ made in
    let counted : length drivers ≡ length parts = ap length (same_map c.turned.result.items) ∙ many in
    let kept : length now ≡ length parts = ap length (same_map ended.drivers.items) ∙ c.solo-ended.ensures.drivers ∙ many in
    let closed : AreClosed now sinks' = closed_end g.K.Sink.tells c.turned-drivers.result.items ended.drivers.items c.make_all.new.sinks.items
    c.close_all-2.new.sinks.items none c.turned-drivers.ensures c.close_all-2.ensures.back in
    let before = told_by g.S.Store.tells c.args.stores.items in
    let after = told_by g.S.Store.tells ended.stores.items in
    let ones = ones_given 16 g.S.Store.tells parts c.args.stores.items c.requires.stores c.requires.suits in
    let b : Ones before (length parts) = mapped_ones g.S.Store.tells (shelves c.args.stores.items) (length parts) ones in
    let a : Ones after (length parts) = mapped_ones g.S.Store.tells (shelves ended.stores.items) (length parts) (c.solo-ended.ensures.stores ∙ ones) in
    tell_end parts c.args.seed garbler sinks drivers now sinks' before after opened long_g long_s kept closed b a c.solo-ended.ensures.stays

pub returns-clause-quiet : goal.returns-clause-quiet
returns-clause-quiet g c is =
    let parts = c.args.parts.items in
    let garbler = lists_of c.args.garbler.items in
    let sinks = map g.K.Sink.tells c.args.sinks.items in
    let long_g : length garbler ≡ length parts = length-map c.args.garbler.items (λ v. v.items) ∙ c.requires.garbler in
    let long_s : length sinks ≡ length parts = length-map c.args.sinks.items g.K.Sink.tells ∙ c.requires.sinks in
    let together : length garbler ≡ length sinks = omega (arith, long_g, long_s) in
    let none : c.make_all.new.sinks.items ≡ [] = ok_all _ c.make_all.result c.make_all.ensures.all c.is_err.ensures.value c.if-is_err.false in
    let made : c.turned.result.items ≡ garbler_openings c.args.seed 0 garbler sinks =
    c.turned.ensures ∙ made_all g.K.Sink.tells c.args.seed c.args.garbler.items c.args.sinks.items c.make_all.new.sinks.items (reverse c.make_all.new.drivers.items)
    c.make_all.ensures.made none in
    let many : length c.turned.result.items ≡ length parts = ap length made ∙ garbler_openings_count c.args.seed 0 garbler sinks together ∙ long_s in
    let ended = c.solo-ended.result in
    let drivers = map (λ (d : Told Garbling). d) c.turned.result.items in
    let now = map (λ (d : Told Garbling). d) ended.drivers.items in
    let sinks' = map g.K.Sink.tells c.close_all-2.new.sinks.items in
    let opened : drivers ≡ garbler_openings c.args.seed 0 garbler sinks = same_map c.turned.result.items ∙ made in
    let counted : length drivers ≡ length parts = ap length (same_map c.turned.result.items) ∙ many in
    let kept : length now ≡ length parts = ap length (same_map ended.drivers.items) ∙ c.solo-ended.ensures.drivers ∙ many in
    let closed : AreClosed now sinks' = closed_end g.K.Sink.tells c.turned-drivers.result.items ended.drivers.items c.make_all.new.sinks.items
    c.close_all-2.new.sinks.items none c.turned-drivers.ensures c.close_all-2.ensures.back in
    let before = told_by g.S.Store.tells c.args.stores.items in
    let after = told_by g.S.Store.tells ended.stores.items in
    let ones = ones_given 16 g.S.Store.tells parts c.args.stores.items c.requires.stores c.requires.suits in
    let b : Ones before (length parts) = mapped_ones g.S.Store.tells (shelves c.args.stores.items) (length parts) ones in
    let a : Ones after (length parts) = mapped_ones g.S.Store.tells (shelves ended.stores.items) (length parts) (c.solo-ended.ensures.stores ∙ ones) in
    quiet_end parts c.args.seed garbler sinks drivers now sinks' before after opened long_g long_s kept closed b a
    (subst (λ (r : Option RunFault). ComesTo (starts_of parts drivers before) now after r) is c.solo-ended.ensures.comes)

pub returns-clause-grown : goal.returns-clause-grown
returns-clause-grown g c =
    let parts = c.args.parts.items in
    let garbler = lists_of c.args.garbler.items in
    let sinks = map g.K.Sink.tells c.args.sinks.items in
    let long_g : length garbler ≡ length parts = length-map c.args.garbler.items (λ v. v.items) ∙ c.requires.garbler in
    let long_s : length sinks ≡ length parts = length-map c.args.sinks.items g.K.Sink.tells ∙ c.requires.sinks in
    let together : length garbler ≡ length sinks = omega (arith, long_g, long_s) in
    let none : c.make_all.new.sinks.items ≡ [] = ok_all _ c.make_all.result c.make_all.ensures.all c.is_err.ensures.value c.if-is_err.false in
    let made : c.turned.result.items ≡ garbler_openings c.args.seed 0 garbler sinks =
    c.turned.ensures ∙ made_all g.K.Sink.tells c.args.seed c.args.garbler.items c.args.sinks.items c.make_all.new.sinks.items (reverse c.make_all.new.drivers.items)
    c.make_all.ensures.made none in
    let many : length c.turned.result.items ≡ length parts = ap length made ∙ garbler_openings_count c.args.seed 0 garbler sinks together ∙ long_s in
    let ended = c.solo-ended.result in
    let drivers = map (λ (d : Told Garbling). d) c.turned.result.items in
    let now = map (λ (d : Told Garbling). d) ended.drivers.items in
    let sinks' = map g.K.Sink.tells c.close_all-2.new.sinks.items in
    let opened : drivers ≡ garbler_openings c.args.seed 0 garbler sinks = same_map c.turned.result.items ∙ made in
    let counted : length drivers ≡ length parts = ap length (same_map c.turned.result.items) ∙ many in
    let kept : length now ≡ length parts = ap length (same_map ended.drivers.items) ∙ c.solo-ended.ensures.drivers ∙ many in
    let closed : AreClosed now sinks' = closed_end g.K.Sink.tells c.turned-drivers.result.items ended.drivers.items c.make_all.new.sinks.items
    c.close_all-2.new.sinks.items none c.turned-drivers.ensures c.close_all-2.ensures.back in
    let before = told_by g.S.Store.tells c.args.stores.items in
    let after = told_by g.S.Store.tells ended.stores.items in
    let ones = ones_given 16 g.S.Store.tells parts c.args.stores.items c.requires.stores c.requires.suits in
    let b : Ones before (length parts) = mapped_ones g.S.Store.tells (shelves c.args.stores.items) (length parts) ones in
    let a : Ones after (length parts) = mapped_ones g.S.Store.tells (shelves ended.stores.items) (length parts) (c.solo-ended.ensures.stores ∙ ones) in
    grown_ones parts drivers now before after counted kept b a c.solo-ended.ensures.stays

pub returns-clause-count : goal.returns-clause-count
returns-clause-count g c is =
    let parts = c.args.parts.items in
    let garbler = lists_of c.args.garbler.items in
    let sinks = map g.K.Sink.tells c.args.sinks.items in
    let long_g : length garbler ≡ length parts = length-map c.args.garbler.items (λ v. v.items) ∙ c.requires.garbler in
    let long_s : length sinks ≡ length parts = length-map c.args.sinks.items g.K.Sink.tells ∙ c.requires.sinks in
    let together : length garbler ≡ length sinks = omega (arith, long_g, long_s) in
    let none : c.make_all.new.sinks.items ≡ [] = ok_all _ c.make_all.result c.make_all.ensures.all c.is_err.ensures.value c.if-is_err.false in
    let made : c.turned.result.items ≡ garbler_openings c.args.seed 0 garbler sinks =
    c.turned.ensures ∙ made_all g.K.Sink.tells c.args.seed c.args.garbler.items c.args.sinks.items c.make_all.new.sinks.items (reverse c.make_all.new.drivers.items)
    c.make_all.ensures.made none in
    let many : length c.turned.result.items ≡ length parts = ap length made ∙ garbler_openings_count c.args.seed 0 garbler sinks together ∙ long_s in
    let ended = c.solo-ended.result in
    let drivers = map (λ (d : Told Garbling). d) c.turned.result.items in
    let now = map (λ (d : Told Garbling). d) ended.drivers.items in
    let sinks' = map g.K.Sink.tells c.close_all-2.new.sinks.items in
    let opened : drivers ≡ garbler_openings c.args.seed 0 garbler sinks = same_map c.turned.result.items ∙ made in
    let counted : length drivers ≡ length parts = ap length (same_map c.turned.result.items) ∙ many in
    let kept : length now ≡ length parts = ap length (same_map ended.drivers.items) ∙ c.solo-ended.ensures.drivers ∙ many in
    let closed : AreClosed now sinks' = closed_end g.K.Sink.tells c.turned-drivers.result.items ended.drivers.items c.make_all.new.sinks.items
    c.close_all-2.new.sinks.items none c.turned-drivers.ensures c.close_all-2.ensures.back in
    let before = told_by g.S.Store.tells c.args.stores.items in
    let after = told_by g.S.Store.tells ended.stores.items in
    let ones = ones_given 16 g.S.Store.tells parts c.args.stores.items c.requires.stores c.requires.suits in
    let b : Ones before (length parts) = mapped_ones g.S.Store.tells (shelves c.args.stores.items) (length parts) ones in
    let a : Ones after (length parts) = mapped_ones g.S.Store.tells (shelves ended.stores.items) (length parts) (c.solo-ended.ensures.stores ∙ ones) in
    moved_ones parts drivers now before after counted kept b a
    (subst (λ (r : Option RunFault). ComesTo (starts_of parts drivers before) now after r) is c.solo-ended.ensures.comes)

pub returns-clause-comes : goal.returns-clause-comes
returns-clause-comes g c =
    let parts = c.args.parts.items in
    let garbler = lists_of c.args.garbler.items in
    let sinks = map g.K.Sink.tells c.args.sinks.items in
    let long_g : length garbler ≡ length parts = length-map c.args.garbler.items (λ v. v.items) ∙ c.requires.garbler in
    let long_s : length sinks ≡ length parts = length-map c.args.sinks.items g.K.Sink.tells ∙ c.requires.sinks in
    let together : length garbler ≡ length sinks = omega (arith, long_g, long_s) in
    let none : c.make_all.new.sinks.items ≡ [] = ok_all _ c.make_all.result c.make_all.ensures.all c.is_err.ensures.value c.if-is_err.false in
    let made : c.turned.result.items ≡ garbler_openings c.args.seed 0 garbler sinks =
    c.turned.ensures ∙ made_all g.K.Sink.tells c.args.seed c.args.garbler.items c.args.sinks.items c.make_all.new.sinks.items (reverse c.make_all.new.drivers.items)
    c.make_all.ensures.made none in
    let many : length c.turned.result.items ≡ length parts = ap length made ∙ garbler_openings_count c.args.seed 0 garbler sinks together ∙ long_s in
    let ended = c.solo-ended.result in
    let drivers = map (λ (d : Told Garbling). d) c.turned.result.items in
    let now = map (λ (d : Told Garbling). d) ended.drivers.items in
    let sinks' = map g.K.Sink.tells c.close_all-2.new.sinks.items in
    let opened : drivers ≡ garbler_openings c.args.seed 0 garbler sinks = same_map c.turned.result.items ∙ made in
    let counted : length drivers ≡ length parts = ap length (same_map c.turned.result.items) ∙ many in
    let kept : length now ≡ length parts = ap length (same_map ended.drivers.items) ∙ c.solo-ended.ensures.drivers ∙ many in
    let closed : AreClosed now sinks' = closed_end g.K.Sink.tells c.turned-drivers.result.items ended.drivers.items c.make_all.new.sinks.items
    c.close_all-2.new.sinks.items none c.turned-drivers.ensures c.close_all-2.ensures.back in
    let before = told_by g.S.Store.tells c.args.stores.items in
    let after = told_by g.S.Store.tells ended.stores.items in
    let ones = ones_given 16 g.S.Store.tells parts c.args.stores.items c.requires.stores c.requires.suits in
    let b : Ones before (length parts) = mapped_ones g.S.Store.tells (shelves c.args.stores.items) (length parts) ones in
    let a : Ones after (length parts) = mapped_ones g.S.Store.tells (shelves ended.stores.items) (length parts) (c.solo-ended.ensures.stores ∙ ones) in
    garble_stops parts c.args.seed garbler sinks drivers now sinks' before after opened long_g long_s counted kept closed b a ended.fault
    c.solo-ended.ensures.comes c.solo-ended.ensures.untold

pub returns-clause-steady : goal.returns-clause-steady
returns-clause-steady g c all =
    let parts = c.args.parts.items in
    let garbler = lists_of c.args.garbler.items in
    let sinks = map g.K.Sink.tells c.args.sinks.items in
    let long_g : length garbler ≡ length parts = length-map c.args.garbler.items (λ v. v.items) ∙ c.requires.garbler in
    let long_s : length sinks ≡ length parts = length-map c.args.sinks.items g.K.Sink.tells ∙ c.requires.sinks in
    let together : length garbler ≡ length sinks = omega (arith, long_g, long_s) in
    let none : c.make_all.new.sinks.items ≡ [] = ok_all _ c.make_all.result c.make_all.ensures.all c.is_err.ensures.value c.if-is_err.false in
    let made : c.turned.result.items ≡ garbler_openings c.args.seed 0 garbler sinks =
    c.turned.ensures ∙ made_all g.K.Sink.tells c.args.seed c.args.garbler.items c.args.sinks.items c.make_all.new.sinks.items (reverse c.make_all.new.drivers.items)
    c.make_all.ensures.made none in
    let many : length c.turned.result.items ≡ length parts = ap length made ∙ garbler_openings_count c.args.seed 0 garbler sinks together ∙ long_s in
    let ended = c.solo-ended.result in
    let drivers = map (λ (d : Told Garbling). d) c.turned.result.items in
    let now = map (λ (d : Told Garbling). d) ended.drivers.items in
    let sinks' = map g.K.Sink.tells c.close_all-2.new.sinks.items in
    let opened : drivers ≡ garbler_openings c.args.seed 0 garbler sinks = same_map c.turned.result.items ∙ made in
    let counted : length drivers ≡ length parts = ap length (same_map c.turned.result.items) ∙ many in
    let kept : length now ≡ length parts = ap length (same_map ended.drivers.items) ∙ c.solo-ended.ensures.drivers ∙ many in
    let closed : AreClosed now sinks' = closed_end g.K.Sink.tells c.turned-drivers.result.items ended.drivers.items c.make_all.new.sinks.items
    c.close_all-2.new.sinks.items none c.turned-drivers.ensures c.close_all-2.ensures.back in
    let before = told_by g.S.Store.tells c.args.stores.items in
    let after = told_by g.S.Store.tells ended.stores.items in
    let ones = ones_given 16 g.S.Store.tells parts c.args.stores.items c.requires.stores c.requires.suits in
    let b : Ones before (length parts) = mapped_ones g.S.Store.tells (shelves c.args.stores.items) (length parts) ones in
    let a : Ones after (length parts) = mapped_ones g.S.Store.tells (shelves ended.stores.items) (length parts) (c.solo-ended.ensures.stores ∙ ones) in
    garble_spared parts c.args.seed garbler sinks drivers now sinks' before after opened long_g long_s counted kept closed b a all ended.fault
    c.solo-ended.ensures.comes c.solo-ended.ensures.untold (c.solo-ended.ensures.steady (suffices_ones parts drivers now before after counted kept b a all)).0

pub returns-clause-streams : goal.returns-clause-streams
returns-clause-streams g c plan count emitted fine same carried can tell is =
    let parts = c.args.parts.items in
    let garbler = lists_of c.args.garbler.items in
    let sinks = map g.K.Sink.tells c.args.sinks.items in
    let long_g : length garbler ≡ length parts = length-map c.args.garbler.items (λ v. v.items) ∙ c.requires.garbler in
    let long_s : length sinks ≡ length parts = length-map c.args.sinks.items g.K.Sink.tells ∙ c.requires.sinks in
    let together : length garbler ≡ length sinks = omega (arith, long_g, long_s) in
    let none : c.make_all.new.sinks.items ≡ [] = ok_all _ c.make_all.result c.make_all.ensures.all c.is_err.ensures.value c.if-is_err.false in
    let made : c.turned.result.items ≡ garbler_openings c.args.seed 0 garbler sinks =
    c.turned.ensures ∙ made_all g.K.Sink.tells c.args.seed c.args.garbler.items c.args.sinks.items c.make_all.new.sinks.items (reverse c.make_all.new.drivers.items)
    c.make_all.ensures.made none in
    let many : length c.turned.result.items ≡ length parts = ap length made ∙ garbler_openings_count c.args.seed 0 garbler sinks together ∙ long_s in
    let ended = c.solo-ended.result in
    let drivers = map (λ (d : Told Garbling). d) c.turned.result.items in
    let now = map (λ (d : Told Garbling). d) ended.drivers.items in
    let sinks' = map g.K.Sink.tells c.close_all-2.new.sinks.items in
    let opened : drivers ≡ garbler_openings c.args.seed 0 garbler sinks = same_map c.turned.result.items ∙ made in
    let counted : length drivers ≡ length parts = ap length (same_map c.turned.result.items) ∙ many in
    let kept : length now ≡ length parts = ap length (same_map ended.drivers.items) ∙ c.solo-ended.ensures.drivers ∙ many in
    let closed : AreClosed now sinks' = closed_end g.K.Sink.tells c.turned-drivers.result.items ended.drivers.items c.make_all.new.sinks.items
    c.close_all-2.new.sinks.items none c.turned-drivers.ensures c.close_all-2.ensures.back in
    let before = told_by g.S.Store.tells c.args.stores.items in
    let after = told_by g.S.Store.tells ended.stores.items in
    let ones = ones_given 16 g.S.Store.tells parts c.args.stores.items c.requires.stores c.requires.suits in
    let b : Ones before (length parts) = mapped_ones g.S.Store.tells (shelves c.args.stores.items) (length parts) ones in
    let a : Ones after (length parts) = mapped_ones g.S.Store.tells (shelves ended.stores.items) (length parts) (c.solo-ended.ensures.stores ∙ ones) in
    streams_end parts c.args.seed garbler sinks drivers now sinks' before after opened long_g long_s kept closed b a count emitted plan fine same
    (subst (λ (ps : List WorkerPart). fault_in ps ≡ None) same c.requires.verified.none) carried can tell c.solo-ended.ensures.stays
    (subst (λ (r : Option RunFault). ComesTo (starts_of parts drivers before) now after r) is c.solo-ended.ensures.comes)
    (λ states are. c.solo-ended.ensures.joint plan states fine same are
    (told_end parts c.args.seed garbler sinks drivers now sinks' before after opened long_g long_s kept closed b a tell) is)

pub returns-clause-fronts : goal.returns-clause-fronts
returns-clause-fronts g c plan count emitted fine same carried can tell not =
    let parts = c.args.parts.items in
    let garbler = lists_of c.args.garbler.items in
    let sinks = map g.K.Sink.tells c.args.sinks.items in
    let long_g : length garbler ≡ length parts = length-map c.args.garbler.items (λ v. v.items) ∙ c.requires.garbler in
    let long_s : length sinks ≡ length parts = length-map c.args.sinks.items g.K.Sink.tells ∙ c.requires.sinks in
    let together : length garbler ≡ length sinks = omega (arith, long_g, long_s) in
    let none : c.make_all.new.sinks.items ≡ [] = ok_all _ c.make_all.result c.make_all.ensures.all c.is_err.ensures.value c.if-is_err.false in
    let made : c.turned.result.items ≡ garbler_openings c.args.seed 0 garbler sinks =
    c.turned.ensures ∙ made_all g.K.Sink.tells c.args.seed c.args.garbler.items c.args.sinks.items c.make_all.new.sinks.items (reverse c.make_all.new.drivers.items)
    c.make_all.ensures.made none in
    let many : length c.turned.result.items ≡ length parts = ap length made ∙ garbler_openings_count c.args.seed 0 garbler sinks together ∙ long_s in
    let ended = c.solo-ended.result in
    let drivers = map (λ (d : Told Garbling). d) c.turned.result.items in
    let now = map (λ (d : Told Garbling). d) ended.drivers.items in
    let sinks' = map g.K.Sink.tells c.close_all-2.new.sinks.items in
    let opened : drivers ≡ garbler_openings c.args.seed 0 garbler sinks = same_map c.turned.result.items ∙ made in
    let counted : length drivers ≡ length parts = ap length (same_map c.turned.result.items) ∙ many in
    let kept : length now ≡ length parts = ap length (same_map ended.drivers.items) ∙ c.solo-ended.ensures.drivers ∙ many in
    let closed : AreClosed now sinks' = closed_end g.K.Sink.tells c.turned-drivers.result.items ended.drivers.items c.make_all.new.sinks.items
    c.close_all-2.new.sinks.items none c.turned-drivers.ensures c.close_all-2.ensures.back in
    let before = told_by g.S.Store.tells c.args.stores.items in
    let after = told_by g.S.Store.tells ended.stores.items in
    let ones = ones_given 16 g.S.Store.tells parts c.args.stores.items c.requires.stores c.requires.suits in
    let b : Ones before (length parts) = mapped_ones g.S.Store.tells (shelves c.args.stores.items) (length parts) ones in
    let a : Ones after (length parts) = mapped_ones g.S.Store.tells (shelves ended.stores.items) (length parts) (c.solo-ended.ensures.stores ∙ ones) in
    fronts_end parts c.args.seed garbler sinks drivers now sinks' before after opened long_g long_s kept closed b a count emitted plan fine same
    (subst (λ (ps : List WorkerPart). fault_in ps ≡ None) same c.requires.verified.none) carried can tell ended.fault c.solo-ended.ensures.stays
    (λ states are. c.solo-ended.ensures.begins plan states fine same are
    (told_end parts c.args.seed garbler sinks drivers now sinks' before after opened long_g long_s kept closed b a tell) not)

pub returns-then-is_err-clause-fronts : goal.returns-then-is_err-clause-fronts
returns-then-is_err-clause-fronts g c plan count emitted fine same carried can tell not = absurd (not refl)

pub returns-in_default-clause-fronts : goal.returns-in_default-clause-fronts
returns-in_default-clause-fronts g c plan count emitted fine same carried can tell not = absurd (not refl)

pub returns-clause-roomy : goal.returns-clause-roomy
returns-clause-roomy g c plan count emitted fine same carried can tell all room =
    let parts = c.args.parts.items in
    let garbler = lists_of c.args.garbler.items in
    let sinks = map g.K.Sink.tells c.args.sinks.items in
    let long_g : length garbler ≡ length parts = length-map c.args.garbler.items (λ v. v.items) ∙ c.requires.garbler in
    let long_s : length sinks ≡ length parts = length-map c.args.sinks.items g.K.Sink.tells ∙ c.requires.sinks in
    let together : length garbler ≡ length sinks = omega (arith, long_g, long_s) in
    let none : c.make_all.new.sinks.items ≡ [] = ok_all _ c.make_all.result c.make_all.ensures.all c.is_err.ensures.value c.if-is_err.false in
    let made : c.turned.result.items ≡ garbler_openings c.args.seed 0 garbler sinks =
    c.turned.ensures ∙ made_all g.K.Sink.tells c.args.seed c.args.garbler.items c.args.sinks.items c.make_all.new.sinks.items (reverse c.make_all.new.drivers.items)
    c.make_all.ensures.made none in
    let many : length c.turned.result.items ≡ length parts = ap length made ∙ garbler_openings_count c.args.seed 0 garbler sinks together ∙ long_s in
    let ended = c.solo-ended.result in
    let drivers = map (λ (d : Told Garbling). d) c.turned.result.items in
    let now = map (λ (d : Told Garbling). d) ended.drivers.items in
    let sinks' = map g.K.Sink.tells c.close_all-2.new.sinks.items in
    let opened : drivers ≡ garbler_openings c.args.seed 0 garbler sinks = same_map c.turned.result.items ∙ made in
    let counted : length drivers ≡ length parts = ap length (same_map c.turned.result.items) ∙ many in
    let kept : length now ≡ length parts = ap length (same_map ended.drivers.items) ∙ c.solo-ended.ensures.drivers ∙ many in
    let closed : AreClosed now sinks' = closed_end g.K.Sink.tells c.turned-drivers.result.items ended.drivers.items c.make_all.new.sinks.items
    c.close_all-2.new.sinks.items none c.turned-drivers.ensures c.close_all-2.ensures.back in
    let before = told_by g.S.Store.tells c.args.stores.items in
    let after = told_by g.S.Store.tells ended.stores.items in
    let ones = ones_given 16 g.S.Store.tells parts c.args.stores.items c.requires.stores c.requires.suits in
    let b : Ones before (length parts) = mapped_ones g.S.Store.tells (shelves c.args.stores.items) (length parts) ones in
    let a : Ones after (length parts) = mapped_ones g.S.Store.tells (shelves ended.stores.items) (length parts) (c.solo-ended.ensures.stores ∙ ones) in
    let spared = garble_spared parts c.args.seed garbler sinks drivers now sinks' before after opened long_g long_s counted kept closed b a all ended.fault
    c.solo-ended.ensures.comes c.solo-ended.ensures.untold (c.solo-ended.ensures.steady (suffices_ones parts drivers now before after counted kept b a all)).0 in
    roomy_end parts c.args.seed garbler sinks drivers now sinks' before after opened long_g long_s counted kept closed b a count emitted plan fine same
    (subst (λ (ps : List WorkerPart). fault_in ps ≡ None) same c.requires.verified.none) carried can all room ended.fault spared c.solo-ended.ensures.comes
    (λ states are not_memory. c.solo-ended.ensures.begins plan states fine same are
    (told_end parts c.args.seed garbler sinks drivers now sinks' before after opened long_g long_s kept closed b a tell) not_memory)
