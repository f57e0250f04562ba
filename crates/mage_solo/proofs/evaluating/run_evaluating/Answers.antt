use Rattle.std.proofs.Common.{◌≡◌, ◌<◌, ◌⊎◌, List, length, map, slice_get, None, Some, Option, refl, sym, ap, ◌∙◌, subst, arith}
use Rattle.std.proofs.lemmas.List.{length-map}
use Rattle.std.specs.Prelude.{IfSome, reverse}
use Rattle.std.specs.List.{All}
use Rattle.mage_driver.specs.declared.standing.Standing.TheVariants as standing
use Rattle.mage_driver.specs.Calls.{Told}
use Rattle.mage_verify.specs.Parts.{WorkerPart}
use Rattle.mage_verify.specs.Faults.{fault_in}
use Rattle.mage_eval.specs.Rule.{Evaluating, eval_rules}
use Rattle.mage_core.specs.Steady.{IsNotOfStore}
use Rattle.mage_core.specs.Begun.{BeginsJoint}
use Rattle.mage_core.specs.Joined.{WasDeceived}
use Rattle.mage_core.specs.declared.fault.RunFault.{RunFault}
use Rattle.mage_core.specs.declared.fault.RunFault.TheVariants as fault
use Rattle.mage_core.specs.Results.{ComesTo, starts_of}
use Rattle.mage_solo.specs.Stores.{told_by}
use Rattle.mage_solo.specs.Evaluating.{IsOfNoStore, labels_in}
use Rattle.mage_solo.proofs.Lists.{same_some}
use Rattle.mage_solo.proofs.Workers.{ones_given, grown_ones, moved_ones, suffices_ones}
use Rattle.mage_solo.proofs.Answering.{err_so, ok_so, on_ok, ok_first}
use Rattle.mage_carried.proofs.Starting.{carried_so}
use Rattle.mage_solo.proofs.Plainly.{parts_short, parts_count}
use Rattle.mage_solo.proofs.Streaming.{few_parts, ok_all}
use Rattle.mage_solo.proofs.Drawing.{none_failed, as_many, unmade}
use Rattle.mage_solo.proofs.Evaluation.{all_run}
use Rattle.mage_solo.proofs.Dealt.{streams_tell, streams_right, dealt_whole, decoded_meant, meant_so}
use Rattle.mage_solo.proofs.Concluding.{opened_so, opened_count, ran_so, outputs_so, first_so, told_end, unfailed_end, unmoved, back_count, eval_stops, eval_spared, eval_steady, both_err, said_end, wrong_end, runs_end}
use Rattle.mage_solo.proofs.evaluating.run_evaluating.Goals as goal

pub make_all-requires-clause-few : goal.make_all-requires-clause-few
make_all-requires-clause-few g c =
    let few = few_parts c.args.parts.items c.requires.verified in
    let sources = c.requires.sources in omega (arith, few, sources)

pub make_all-requires-clause-short : goal.make_all-requires-clause-short
make_all-requires-clause-short g c w =
    subst (λ (ps : List WorkerPart). IfSome (slice_get ps w) (λ part. length part.directives < 4294967296)) (sym c.as_slice.ensures.value)
    (parts_short c.args.parts.items c.requires.verified w)

pub returns-then-is_err-clause-memory : goal.returns-then-is_err-clause-memory
returns-then-is_err-clause-memory g c e =
    let parts = c.args.parts.items in
    let labels = c.args.labels.items in
    let sources = c.args.sources.items in
    let same =
    unmade g.I.Source.tells c.as_slice.result.now labels sources c.make_all.new.sources.items c.close_all.new.sources.items (reverse c.make_all.new.drivers.items)
    (c.requires.sources ∙ sym (ap length c.as_slice.ensures.value)) (c.requires.labels ∙ sym c.requires.sources) c.make_all.ensures.made c.close_all.ensures.back in
    (refl, none_failed (map g.I.Source.tells sources) (map g.I.Source.tells c.close_all.new.sources.items) same)

pub returns-then-is_err-clause-sources : goal.returns-then-is_err-clause-sources
returns-then-is_err-clause-sources g c =
    let parts = c.args.parts.items in
    let labels = c.args.labels.items in
    let sources = c.args.sources.items in
    let same =
    unmade g.I.Source.tells c.as_slice.result.now labels sources c.make_all.new.sources.items c.close_all.new.sources.items (reverse c.make_all.new.drivers.items)
    (c.requires.sources ∙ sym (ap length c.as_slice.ensures.value)) (c.requires.labels ∙ sym c.requires.sources) c.make_all.ensures.made c.close_all.ensures.back in
    sym (length-map c.close_all.new.sources.items g.I.Source.tells)
    ∙ as_many (map g.I.Source.tells sources) (map g.I.Source.tells c.close_all.new.sources.items) same ∙ length-map sources g.I.Source.tells

pub solo-ended-requires-clause-drivers : goal.solo-ended-requires-clause-drivers
solo-ended-requires-clause-drivers g c κs within =
    let parts = c.args.parts.items in
    let labels = c.args.labels.items in
    let sources = c.args.sources.items in
    let turned = c.turned.result.items in
    opened_count g.I.Source.tells g.S.Store.tells parts c.as_slice.result.now labels sources c.make_all.new.sources.items c.make_all.new.drivers.items turned
    c.requires.labels c.requires.sources c.as_slice.ensures.value (ok_all _ c.make_all.result c.make_all.ensures.all c.is_err.ensures.value c.if-is_err.false)
    c.turned.ensures c.make_all.ensures.made

pub solo-ended-requires-clause-running : goal.solo-ended-requires-clause-running
solo-ended-requires-clause-running g c κs within =
    let parts = c.args.parts.items in
    let labels = c.args.labels.items in
    let sources = c.args.sources.items in
    let turned = c.turned.result.items in
    subst (All (λ (driver : Told Evaluating). driver.standing ≡ standing.Running))
    (sym (opened_so g.I.Source.tells g.S.Store.tells parts c.as_slice.result.now labels sources c.make_all.new.sources.items c.make_all.new.drivers.items turned
    c.requires.labels c.requires.sources c.as_slice.ensures.value (ok_all _ c.make_all.result c.make_all.ensures.all c.is_err.ensures.value c.if-is_err.false)
    c.turned.ensures c.make_all.ensures.made))
    (all_run 0 parts (labels_in labels) (map g.I.Source.tells sources))

pub returns-clause-memory : goal.returns-clause-memory
returns-clause-memory g c =
    let parts = c.args.parts.items in
    let labels = c.args.labels.items in
    let sources = c.args.sources.items in
    let turned = c.turned.result.items in
    let ended = c.solo-ended.result in
    let back = c.turned-drivers.result.items in
    let now = c.close_all-2.new.sources.items in
    let drivers = map (λ (d : Told Evaluating). d) turned in
    let these = map (λ (d : Told Evaluating). d) ended.drivers.items in
    let before = told_by g.S.Store.tells c.args.stores.items in
    let after = told_by g.S.Store.tells ended.stores.items in
    let r = ran_so g.I.Source.tells g.S.Store.tells parts c.as_slice.result.now labels sources c.make_all.new.sources.items c.make_all.new.drivers.items turned
    c.requires.labels c.requires.sources c.as_slice.ensures.value (ok_all _ c.make_all.result c.make_all.ensures.all c.is_err.ensures.value c.if-is_err.false)
    c.turned.ensures c.make_all.ensures.made
    now c.args.stores.items ended.stores.items ended.drivers.items back c.solo-ended.ensures.drivers c.turned-drivers.ensures
    c.close_all-2.ensures.back (ones_given 16 g.S.Store.tells parts c.args.stores.items c.requires.stores c.requires.suits) c.solo-ended.ensures.stores in
    err_so (λ f. ended.fault ≡ Some f) _ c.unless_stopped.result
    (λ f is e.
    let same = c.solo-ended.ensures.memory (is ∙ ap (λ (x : RunFault). Some x) e) in
    (same.1, unmoved parts (labels_in labels) (map g.I.Source.tells sources) drivers these (map g.I.Source.tells now) before after r (ap (λ (ds : List (Told Evaluating)). map (λ (d : Told Evaluating). d) ds) same.0)))
    c.unless_stopped.ensures.err

pub returns-clause-sources : goal.returns-clause-sources
returns-clause-sources g c =
    let parts = c.args.parts.items in
    let labels = c.args.labels.items in
    let sources = c.args.sources.items in
    let turned = c.turned.result.items in
    let ended = c.solo-ended.result in
    let back = c.turned-drivers.result.items in
    let now = c.close_all-2.new.sources.items in
    let drivers = map (λ (d : Told Evaluating). d) turned in
    let these = map (λ (d : Told Evaluating). d) ended.drivers.items in
    let before = told_by g.S.Store.tells c.args.stores.items in
    let after = told_by g.S.Store.tells ended.stores.items in
    let r = ran_so g.I.Source.tells g.S.Store.tells parts c.as_slice.result.now labels sources c.make_all.new.sources.items c.make_all.new.drivers.items turned
    c.requires.labels c.requires.sources c.as_slice.ensures.value (ok_all _ c.make_all.result c.make_all.ensures.all c.is_err.ensures.value c.if-is_err.false)
    c.turned.ensures c.make_all.ensures.made
    now c.args.stores.items ended.stores.items ended.drivers.items back c.solo-ended.ensures.drivers c.turned-drivers.ensures
    c.close_all-2.ensures.back (ones_given 16 g.S.Store.tells parts c.args.stores.items c.requires.stores c.requires.suits) c.solo-ended.ensures.stores in
    sym (length-map now g.I.Source.tells) ∙ back_count parts (labels_in labels) (map g.I.Source.tells sources) drivers these (map g.I.Source.tells now) before after r ∙ sym c.requires.sources

pub returns-clause-grown : goal.returns-clause-grown
returns-clause-grown g c =
    let parts = c.args.parts.items in
    let labels = c.args.labels.items in
    let sources = c.args.sources.items in
    let turned = c.turned.result.items in
    let ended = c.solo-ended.result in
    let back = c.turned-drivers.result.items in
    let now = c.close_all-2.new.sources.items in
    let drivers = map (λ (d : Told Evaluating). d) turned in
    let these = map (λ (d : Told Evaluating). d) ended.drivers.items in
    let before = told_by g.S.Store.tells c.args.stores.items in
    let after = told_by g.S.Store.tells ended.stores.items in
    let r = ran_so g.I.Source.tells g.S.Store.tells parts c.as_slice.result.now labels sources c.make_all.new.sources.items c.make_all.new.drivers.items turned
    c.requires.labels c.requires.sources c.as_slice.ensures.value (ok_all _ c.make_all.result c.make_all.ensures.all c.is_err.ensures.value c.if-is_err.false)
    c.turned.ensures c.make_all.ensures.made
    now c.args.stores.items ended.stores.items ended.drivers.items back c.solo-ended.ensures.drivers c.turned-drivers.ensures
    c.close_all-2.ensures.back (ones_given 16 g.S.Store.tells parts c.args.stores.items c.requires.stores c.requires.suits) c.solo-ended.ensures.stores in
    grown_ones parts drivers these before after r.counted r.kept r.b r.a c.solo-ended.ensures.stays

pub returns-clause-count : goal.returns-clause-count
returns-clause-count g c =
    let parts = c.args.parts.items in
    let labels = c.args.labels.items in
    let sources = c.args.sources.items in
    let turned = c.turned.result.items in
    let ended = c.solo-ended.result in
    let back = c.turned-drivers.result.items in
    let now = c.close_all-2.new.sources.items in
    let drivers = map (λ (d : Told Evaluating). d) turned in
    let these = map (λ (d : Told Evaluating). d) ended.drivers.items in
    let before = told_by g.S.Store.tells c.args.stores.items in
    let after = told_by g.S.Store.tells ended.stores.items in
    let r = ran_so g.I.Source.tells g.S.Store.tells parts c.as_slice.result.now labels sources c.make_all.new.sources.items c.make_all.new.drivers.items turned
    c.requires.labels c.requires.sources c.as_slice.ensures.value (ok_all _ c.make_all.result c.make_all.ensures.all c.is_err.ensures.value c.if-is_err.false)
    c.turned.ensures c.make_all.ensures.made
    now c.args.stores.items ended.stores.items ended.drivers.items back c.solo-ended.ensures.drivers c.turned-drivers.ensures
    c.close_all-2.ensures.back (ones_given 16 g.S.Store.tells parts c.args.stores.items c.requires.stores c.requires.suits) c.solo-ended.ensures.stores in
    on_ok (ended.fault ≡ None) _ c.unless_stopped.result
    (λ is. moved_ones parts drivers these before after r.counted r.kept r.b r.a
    (subst (λ (found : Option RunFault). ComesTo (starts_of parts drivers before) these after found) is c.solo-ended.ensures.comes))
    (ok_first (ended.fault ≡ None) _ c.unless_stopped.result c.unless_stopped.ensures.ok)

pub returns-clause-unfailed : goal.returns-clause-unfailed
returns-clause-unfailed g c =
    let parts = c.args.parts.items in
    let labels = c.args.labels.items in
    let sources = c.args.sources.items in
    let turned = c.turned.result.items in
    let ended = c.solo-ended.result in
    let back = c.turned-drivers.result.items in
    let now = c.close_all-2.new.sources.items in
    let drivers = map (λ (d : Told Evaluating). d) turned in
    let these = map (λ (d : Told Evaluating). d) ended.drivers.items in
    let before = told_by g.S.Store.tells c.args.stores.items in
    let after = told_by g.S.Store.tells ended.stores.items in
    let r = ran_so g.I.Source.tells g.S.Store.tells parts c.as_slice.result.now labels sources c.make_all.new.sources.items c.make_all.new.drivers.items turned
    c.requires.labels c.requires.sources c.as_slice.ensures.value (ok_all _ c.make_all.result c.make_all.ensures.all c.is_err.ensures.value c.if-is_err.false)
    c.turned.ensures c.make_all.ensures.made
    now c.args.stores.items ended.stores.items ended.drivers.items back c.solo-ended.ensures.drivers c.turned-drivers.ensures
    c.close_all-2.ensures.back (ones_given 16 g.S.Store.tells parts c.args.stores.items c.requires.stores c.requires.suits) c.solo-ended.ensures.stores in
    on_ok (ended.fault ≡ None) _ c.unless_stopped.result
    (λ is. unfailed_end parts (labels_in labels) (map g.I.Source.tells sources) drivers these (map g.I.Source.tells now) before after r
    (subst (λ (found : Option RunFault). ComesTo (starts_of parts drivers before) these after found) is c.solo-ended.ensures.comes))
    (ok_first (ended.fault ≡ None) _ c.unless_stopped.result c.unless_stopped.ensures.ok)

pub returns-clause-comes : goal.returns-clause-comes
returns-clause-comes g c =
    let parts = c.args.parts.items in
    let labels = c.args.labels.items in
    let sources = c.args.sources.items in
    let turned = c.turned.result.items in
    let ended = c.solo-ended.result in
    let back = c.turned-drivers.result.items in
    let now = c.close_all-2.new.sources.items in
    let drivers = map (λ (d : Told Evaluating). d) turned in
    let these = map (λ (d : Told Evaluating). d) ended.drivers.items in
    let before = told_by g.S.Store.tells c.args.stores.items in
    let after = told_by g.S.Store.tells ended.stores.items in
    let r = ran_so g.I.Source.tells g.S.Store.tells parts c.as_slice.result.now labels sources c.make_all.new.sources.items c.make_all.new.drivers.items turned
    c.requires.labels c.requires.sources c.as_slice.ensures.value (ok_all _ c.make_all.result c.make_all.ensures.all c.is_err.ensures.value c.if-is_err.false)
    c.turned.ensures c.make_all.ensures.made
    now c.args.stores.items ended.stores.items ended.drivers.items back c.solo-ended.ensures.drivers c.turned-drivers.ensures
    c.close_all-2.ensures.back (ones_given 16 g.S.Store.tells parts c.args.stores.items c.requires.stores c.requires.suits) c.solo-ended.ensures.stores in
    err_so (λ f. ended.fault ≡ Some f) _ c.unless_stopped.result
    (λ f is. eval_stops parts (labels_in labels) (map g.I.Source.tells sources) drivers these (map g.I.Source.tells now) before after r f
    (subst (λ (found : Option RunFault). ComesTo (starts_of parts drivers before) these after found) is c.solo-ended.ensures.comes)
    (λ w damage e. c.solo-ended.ensures.untold w damage (is ∙ e)))
    c.unless_stopped.ensures.err

pub returns-clause-stores : goal.returns-clause-stores
returns-clause-stores g c all =
    let parts = c.args.parts.items in
    let labels = c.args.labels.items in
    let sources = c.args.sources.items in
    let turned = c.turned.result.items in
    let ended = c.solo-ended.result in
    let back = c.turned-drivers.result.items in
    let now = c.close_all-2.new.sources.items in
    let drivers = map (λ (d : Told Evaluating). d) turned in
    let these = map (λ (d : Told Evaluating). d) ended.drivers.items in
    let before = told_by g.S.Store.tells c.args.stores.items in
    let after = told_by g.S.Store.tells ended.stores.items in
    let r = ran_so g.I.Source.tells g.S.Store.tells parts c.as_slice.result.now labels sources c.make_all.new.sources.items c.make_all.new.drivers.items turned
    c.requires.labels c.requires.sources c.as_slice.ensures.value (ok_all _ c.make_all.result c.make_all.ensures.all c.is_err.ensures.value c.if-is_err.false)
    c.turned.ensures c.make_all.ensures.made
    now c.args.stores.items ended.stores.items ended.drivers.items back c.solo-ended.ensures.drivers c.turned-drivers.ensures
    c.close_all-2.ensures.back (ones_given 16 g.S.Store.tells parts c.args.stores.items c.requires.stores c.requires.suits) c.solo-ended.ensures.stores in
    let spared = err_so (λ f. ended.fault ≡ Some f) IsOfNoStore c.unless_stopped.result
    (λ f is. eval_spared parts (labels_in labels) (map g.I.Source.tells sources) drivers these (map g.I.Source.tells now) before after r all f
    (subst (λ (found : Option RunFault). ComesTo (starts_of parts drivers before) these after found) is c.solo-ended.ensures.comes)
    (λ w damage e. c.solo-ended.ensures.untold w damage (is ∙ e))
    (subst IsNotOfStore is (c.solo-ended.ensures.steady (suffices_ones parts drivers these before after r.counted r.kept r.b r.a all)).0))
    c.unless_stopped.ensures.err in
    spared

pub returns-clause-steady : goal.returns-clause-steady
returns-clause-steady g c all steady =
    let parts = c.args.parts.items in
    let labels = c.args.labels.items in
    let sources = c.args.sources.items in
    let turned = c.turned.result.items in
    let ended = c.solo-ended.result in
    let back = c.turned-drivers.result.items in
    let now = c.close_all-2.new.sources.items in
    let drivers = map (λ (d : Told Evaluating). d) turned in
    let these = map (λ (d : Told Evaluating). d) ended.drivers.items in
    let before = told_by g.S.Store.tells c.args.stores.items in
    let after = told_by g.S.Store.tells ended.stores.items in
    let r = ran_so g.I.Source.tells g.S.Store.tells parts c.as_slice.result.now labels sources c.make_all.new.sources.items c.make_all.new.drivers.items turned
    c.requires.labels c.requires.sources c.as_slice.ensures.value (ok_all _ c.make_all.result c.make_all.ensures.all c.is_err.ensures.value c.if-is_err.false)
    c.turned.ensures c.make_all.ensures.made
    now c.args.stores.items ended.stores.items ended.drivers.items back c.solo-ended.ensures.drivers c.turned-drivers.ensures
    c.close_all-2.ensures.back (ones_given 16 g.S.Store.tells parts c.args.stores.items c.requires.stores c.requires.suits) c.solo-ended.ensures.stores in
    let spared = err_so (λ f. ended.fault ≡ Some f) IsOfNoStore c.unless_stopped.result
    (λ f is. eval_spared parts (labels_in labels) (map g.I.Source.tells sources) drivers these (map g.I.Source.tells now) before after r all f
    (subst (λ (found : Option RunFault). ComesTo (starts_of parts drivers before) these after found) is c.solo-ended.ensures.comes)
    (λ w damage e. c.solo-ended.ensures.untold w damage (is ∙ e))
    (subst IsNotOfStore is (c.solo-ended.ensures.steady (suffices_ones parts drivers these before after r.counted r.kept r.b r.a all)).0))
    c.unless_stopped.ensures.err in
    both_err (λ f. ended.fault ≡ Some f) IsOfNoStore _ c.unless_stopped.result
    (λ f is of_none. eval_steady parts (labels_in labels) (map g.I.Source.tells sources) drivers these (map g.I.Source.tells now) before after r steady f of_none
    (eval_stops parts (labels_in labels) (map g.I.Source.tells sources) drivers these (map g.I.Source.tells now) before after r f
    (subst (λ (found : Option RunFault). ComesTo (starts_of parts drivers before) these after found) is c.solo-ended.ensures.comes)
    (λ w damage e. c.solo-ended.ensures.untold w damage (is ∙ e))))
    c.unless_stopped.ensures.err spared

pub returns-clause-workers : goal.returns-clause-workers
returns-clause-workers g c =
    let parts = c.args.parts.items in
    let labels = c.args.labels.items in
    let sources = c.args.sources.items in
    let turned = c.turned.result.items in
    let ended = c.solo-ended.result in
    let back = c.turned-drivers.result.items in
    let now = c.close_all-2.new.sources.items in
    let drivers = map (λ (d : Told Evaluating). d) turned in
    let these = map (λ (d : Told Evaluating). d) ended.drivers.items in
    let before = told_by g.S.Store.tells c.args.stores.items in
    let after = told_by g.S.Store.tells ended.stores.items in
    let r = ran_so g.I.Source.tells g.S.Store.tells parts c.as_slice.result.now labels sources c.make_all.new.sources.items c.make_all.new.drivers.items turned
    c.requires.labels c.requires.sources c.as_slice.ensures.value (ok_all _ c.make_all.result c.make_all.ensures.all c.is_err.ensures.value c.if-is_err.false)
    c.turned.ensures c.make_all.ensures.made
    now c.args.stores.items ended.stores.items ended.drivers.items back c.solo-ended.ensures.drivers c.turned-drivers.ensures
    c.close_all-2.ensures.back (ones_given 16 g.S.Store.tells parts c.args.stores.items c.requires.stores c.requires.suits) c.solo-ended.ensures.stores in
    let put = outputs_so c.close_all-2.new.outputs.items ended.drivers.items back c.turned-drivers.ensures c.close_all-2.ensures.outputs in
    let many : length c.close_all-2.new.outputs.items ≡ length parts =
    sym (length-map c.close_all-2.new.outputs.items (λ v. v.items)) ∙ ap length put
    ∙ length-map these (λ (d : Told Evaluating). d.state.evaluator.outputs) ∙ r.kept in
    ok_so (λ all. (ended.fault ≡ None) × (all ≡ c.close_all-2.new.outputs)) _ c.unless_stopped.result
    (λ all h. ap (λ v. length v.items) h.1 ∙ many) c.unless_stopped.ensures.ok

pub returns-clause-said : goal.returns-clause-said
returns-clause-said g c plan count emitted fine same carried can tell whole =
    let parts = c.args.parts.items in
    let labels = c.args.labels.items in
    let sources = c.args.sources.items in
    let turned = c.turned.result.items in
    let ended = c.solo-ended.result in
    let back = c.turned-drivers.result.items in
    let now = c.close_all-2.new.sources.items in
    let drivers = map (λ (d : Told Evaluating). d) turned in
    let these = map (λ (d : Told Evaluating). d) ended.drivers.items in
    let before = told_by g.S.Store.tells c.args.stores.items in
    let after = told_by g.S.Store.tells ended.stores.items in
    let r = ran_so g.I.Source.tells g.S.Store.tells parts c.as_slice.result.now labels sources c.make_all.new.sources.items c.make_all.new.drivers.items turned
    c.requires.labels c.requires.sources c.as_slice.ensures.value (ok_all _ c.make_all.result c.make_all.ensures.all c.is_err.ensures.value c.if-is_err.false)
    c.turned.ensures c.make_all.ensures.made
    now c.args.stores.items ended.stores.items ended.drivers.items back c.solo-ended.ensures.drivers c.turned-drivers.ensures
    c.close_all-2.ensures.back (ones_given 16 g.S.Store.tells parts c.args.stores.items c.requires.stores c.requires.suits) c.solo-ended.ensures.stores in
    let put = outputs_so c.close_all-2.new.outputs.items ended.drivers.items back c.turned-drivers.ensures c.close_all-2.ensures.outputs in
    ok_so (λ all. (ended.fault ≡ None) × (all ≡ c.close_all-2.new.outputs)) _ c.unless_stopped.result
    (λ all h. first_so (ap (λ v. map (λ w. w.items) v.items) h.1 ∙ put)
    (said_end parts (labels_in labels) (map g.I.Source.tells sources) drivers these (map g.I.Source.tells now) before after r
    count emitted plan fine same (subst (λ (ps : List WorkerPart). fault_in ps ≡ None) same c.requires.verified.none) carried can whole
    (λ states are. c.solo-ended.ensures.joint plan states fine same are (told_end parts (labels_in labels) (map g.I.Source.tells sources) drivers these (map g.I.Source.tells now) before after r tell) h.0)))
    c.unless_stopped.ensures.ok

pub returns-clause-meant : goal.returns-clause-meant
returns-clause-meant g c plan count emitted given seed fine same carried can dealt streams =
    let parts = c.args.parts.items in
    let labels = c.args.labels.items in
    let sources = c.args.sources.items in
    let turned = c.turned.result.items in
    let ended = c.solo-ended.result in
    let back = c.turned-drivers.result.items in
    let now = c.close_all-2.new.sources.items in
    let drivers = map (λ (d : Told Evaluating). d) turned in
    let these = map (λ (d : Told Evaluating). d) ended.drivers.items in
    let before = told_by g.S.Store.tells c.args.stores.items in
    let after = told_by g.S.Store.tells ended.stores.items in
    let r = ran_so g.I.Source.tells g.S.Store.tells parts c.as_slice.result.now labels sources c.make_all.new.sources.items c.make_all.new.drivers.items turned
    c.requires.labels c.requires.sources c.as_slice.ensures.value (ok_all _ c.make_all.result c.make_all.ensures.all c.is_err.ensures.value c.if-is_err.false)
    c.turned.ensures c.make_all.ensures.made
    now c.args.stores.items ended.stores.items ended.drivers.items back c.solo-ended.ensures.drivers c.turned-drivers.ensures
    c.close_all-2.ensures.back (ones_given 16 g.S.Store.tells parts c.args.stores.items c.requires.stores c.requires.suits) c.solo-ended.ensures.stores in
    let workers : length parts ≡ count = ap length same ∙ parts_count plan ∙ (carried_so count emitted plan carried).workers in
    let long_l = r.long_l ∙ workers in
    let long_s = r.long_s ∙ workers in
    let tell = streams_tell count emitted given seed can (labels_in labels) (map g.I.Source.tells sources) long_l long_s dealt streams in
    let whole = dealt_whole count emitted given seed can (labels_in labels) (map g.I.Source.tells sources) long_l long_s dealt streams in
    let put = outputs_so c.close_all-2.new.outputs.items ended.drivers.items back c.turned-drivers.ensures c.close_all-2.ensures.outputs in
    ok_so (λ all. (ended.fault ≡ None) × (all ≡ c.close_all-2.new.outputs)) _ c.unless_stopped.result
    (λ all h. meant_so (decoded_meant count emitted given seed can (labels_in labels) (map g.I.Source.tells sources) long_l long_s dealt streams)
    (first_so (ap (λ v. map (λ w. w.items) v.items) h.1 ∙ put)
    (said_end parts (labels_in labels) (map g.I.Source.tells sources) drivers these (map g.I.Source.tells now) before after r
    count emitted plan fine same (subst (λ (ps : List WorkerPart). fault_in ps ≡ None) same c.requires.verified.none) carried can.runs whole
    (λ states are. c.solo-ended.ensures.joint plan states fine same are (told_end parts (labels_in labels) (map g.I.Source.tells sources) drivers these (map g.I.Source.tells now) before after r tell) h.0))))
    c.unless_stopped.ensures.ok

pub returns-clause-wrong : goal.returns-clause-wrong
returns-clause-wrong g c plan count emitted fine same carried can tell whole =
    let parts = c.args.parts.items in
    let labels = c.args.labels.items in
    let sources = c.args.sources.items in
    let turned = c.turned.result.items in
    let ended = c.solo-ended.result in
    let back = c.turned-drivers.result.items in
    let now = c.close_all-2.new.sources.items in
    let drivers = map (λ (d : Told Evaluating). d) turned in
    let these = map (λ (d : Told Evaluating). d) ended.drivers.items in
    let before = told_by g.S.Store.tells c.args.stores.items in
    let after = told_by g.S.Store.tells ended.stores.items in
    let r = ran_so g.I.Source.tells g.S.Store.tells parts c.as_slice.result.now labels sources c.make_all.new.sources.items c.make_all.new.drivers.items turned
    c.requires.labels c.requires.sources c.as_slice.ensures.value (ok_all _ c.make_all.result c.make_all.ensures.all c.is_err.ensures.value c.if-is_err.false)
    c.turned.ensures c.make_all.ensures.made
    now c.args.stores.items ended.stores.items ended.drivers.items back c.solo-ended.ensures.drivers c.turned-drivers.ensures
    c.close_all-2.ensures.back (ones_given 16 g.S.Store.tells parts c.args.stores.items c.requires.stores c.requires.suits) c.solo-ended.ensures.stores in
    err_so (λ f. ended.fault ≡ Some f) _ c.unless_stopped.result
    (λ f is. wrong_end parts (labels_in labels) (map g.I.Source.tells sources) drivers these (map g.I.Source.tells now) before after r
    count emitted plan fine same (subst (λ (ps : List WorkerPart). fault_in ps ≡ None) same c.requires.verified.none) carried can whole f
    (subst (λ (found : Option RunFault). ComesTo (starts_of parts drivers before) these after found) is c.solo-ended.ensures.comes)
    (λ no states are. subst (λ (x : Option RunFault). BeginsJoint eval_rules plan states (starts_of parts drivers before) these after x
    ⊎ WasDeceived (starts_of parts drivers before) these after) is
    (c.solo-ended.ensures.begins plan states fine same are (told_end parts (labels_in labels) (map g.I.Source.tells sources) drivers these (map g.I.Source.tells now) before after r tell) (λ e. no (same_some f fault.Memory (sym is ∙ e)))))) c.unless_stopped.ensures.err

pub returns-clause-runs : goal.returns-clause-runs
returns-clause-runs g c plan count emitted fine same carried can tell whole all steady right =
    let parts = c.args.parts.items in
    let labels = c.args.labels.items in
    let sources = c.args.sources.items in
    let turned = c.turned.result.items in
    let ended = c.solo-ended.result in
    let back = c.turned-drivers.result.items in
    let now = c.close_all-2.new.sources.items in
    let drivers = map (λ (d : Told Evaluating). d) turned in
    let these = map (λ (d : Told Evaluating). d) ended.drivers.items in
    let before = told_by g.S.Store.tells c.args.stores.items in
    let after = told_by g.S.Store.tells ended.stores.items in
    let r = ran_so g.I.Source.tells g.S.Store.tells parts c.as_slice.result.now labels sources c.make_all.new.sources.items c.make_all.new.drivers.items turned
    c.requires.labels c.requires.sources c.as_slice.ensures.value (ok_all _ c.make_all.result c.make_all.ensures.all c.is_err.ensures.value c.if-is_err.false)
    c.turned.ensures c.make_all.ensures.made
    now c.args.stores.items ended.stores.items ended.drivers.items back c.solo-ended.ensures.drivers c.turned-drivers.ensures
    c.close_all-2.ensures.back (ones_given 16 g.S.Store.tells parts c.args.stores.items c.requires.stores c.requires.suits) c.solo-ended.ensures.stores in
    let spared = err_so (λ f. ended.fault ≡ Some f) IsOfNoStore c.unless_stopped.result
    (λ f is. eval_spared parts (labels_in labels) (map g.I.Source.tells sources) drivers these (map g.I.Source.tells now) before after r all f
    (subst (λ (found : Option RunFault). ComesTo (starts_of parts drivers before) these after found) is c.solo-ended.ensures.comes)
    (λ w damage e. c.solo-ended.ensures.untold w damage (is ∙ e))
    (subst IsNotOfStore is (c.solo-ended.ensures.steady (suffices_ones parts drivers these before after r.counted r.kept r.b r.a all)).0))
    c.unless_stopped.ensures.err in
    both_err (λ f. ended.fault ≡ Some f) IsOfNoStore _ c.unless_stopped.result
    (λ f is of_none. runs_end parts (labels_in labels) (map g.I.Source.tells sources) drivers these (map g.I.Source.tells now) before after r
    count emitted plan fine same (subst (λ (ps : List WorkerPart). fault_in ps ≡ None) same c.requires.verified.none) carried can whole
    all steady right f (subst (λ (found : Option RunFault). ComesTo (starts_of parts drivers before) these after found) is c.solo-ended.ensures.comes) of_none
    (wrong_end parts (labels_in labels) (map g.I.Source.tells sources) drivers these (map g.I.Source.tells now) before after r
    count emitted plan fine same (subst (λ (ps : List WorkerPart). fault_in ps ≡ None) same c.requires.verified.none) carried can whole f
    (subst (λ (found : Option RunFault). ComesTo (starts_of parts drivers before) these after found) is c.solo-ended.ensures.comes)
    (λ no states are. subst (λ (x : Option RunFault). BeginsJoint eval_rules plan states (starts_of parts drivers before) these after x
    ⊎ WasDeceived (starts_of parts drivers before) these after) is
    (c.solo-ended.ensures.begins plan states fine same are (told_end parts (labels_in labels) (map g.I.Source.tells sources) drivers these (map g.I.Source.tells now) before after r tell) (λ e. no (same_some f fault.Memory (sym is ∙ e))))))) c.unless_stopped.ensures.err spared

pub returns-clause-succeeds : goal.returns-clause-succeeds
returns-clause-succeeds g c plan count emitted given seed fine same carried can dealt streams all steady =
    let parts = c.args.parts.items in
    let labels = c.args.labels.items in
    let sources = c.args.sources.items in
    let turned = c.turned.result.items in
    let ended = c.solo-ended.result in
    let back = c.turned-drivers.result.items in
    let now = c.close_all-2.new.sources.items in
    let drivers = map (λ (d : Told Evaluating). d) turned in
    let these = map (λ (d : Told Evaluating). d) ended.drivers.items in
    let before = told_by g.S.Store.tells c.args.stores.items in
    let after = told_by g.S.Store.tells ended.stores.items in
    let r = ran_so g.I.Source.tells g.S.Store.tells parts c.as_slice.result.now labels sources c.make_all.new.sources.items c.make_all.new.drivers.items turned
    c.requires.labels c.requires.sources c.as_slice.ensures.value (ok_all _ c.make_all.result c.make_all.ensures.all c.is_err.ensures.value c.if-is_err.false)
    c.turned.ensures c.make_all.ensures.made
    now c.args.stores.items ended.stores.items ended.drivers.items back c.solo-ended.ensures.drivers c.turned-drivers.ensures
    c.close_all-2.ensures.back (ones_given 16 g.S.Store.tells parts c.args.stores.items c.requires.stores c.requires.suits) c.solo-ended.ensures.stores in
    let workers : length parts ≡ count = ap length same ∙ parts_count plan ∙ (carried_so count emitted plan carried).workers in
    let long_l = r.long_l ∙ workers in
    let long_s = r.long_s ∙ workers in
    let tell = streams_tell count emitted given seed can (labels_in labels) (map g.I.Source.tells sources) long_l long_s dealt streams in
    let whole = dealt_whole count emitted given seed can (labels_in labels) (map g.I.Source.tells sources) long_l long_s dealt streams in
    let right = streams_right count emitted given seed can (labels_in labels) (map g.I.Source.tells sources) long_l long_s dealt streams in
    let spared = err_so (λ f. ended.fault ≡ Some f) IsOfNoStore c.unless_stopped.result
    (λ f is. eval_spared parts (labels_in labels) (map g.I.Source.tells sources) drivers these (map g.I.Source.tells now) before after r all f
    (subst (λ (found : Option RunFault). ComesTo (starts_of parts drivers before) these after found) is c.solo-ended.ensures.comes)
    (λ w damage e. c.solo-ended.ensures.untold w damage (is ∙ e))
    (subst IsNotOfStore is (c.solo-ended.ensures.steady (suffices_ones parts drivers these before after r.counted r.kept r.b r.a all)).0))
    c.unless_stopped.ensures.err in
    both_err (λ f. ended.fault ≡ Some f) IsOfNoStore _ c.unless_stopped.result
    (λ f is of_none. runs_end parts (labels_in labels) (map g.I.Source.tells sources) drivers these (map g.I.Source.tells now) before after r
    count emitted plan fine same (subst (λ (ps : List WorkerPart). fault_in ps ≡ None) same c.requires.verified.none) carried can.runs whole
    all steady (λ w within. right w) f (subst (λ (found : Option RunFault). ComesTo (starts_of parts drivers before) these after found) is c.solo-ended.ensures.comes) of_none
    (wrong_end parts (labels_in labels) (map g.I.Source.tells sources) drivers these (map g.I.Source.tells now) before after r
    count emitted plan fine same (subst (λ (ps : List WorkerPart). fault_in ps ≡ None) same c.requires.verified.none) carried can.runs whole f
    (subst (λ (found : Option RunFault). ComesTo (starts_of parts drivers before) these after found) is c.solo-ended.ensures.comes)
    (λ no states are. subst (λ (x : Option RunFault). BeginsJoint eval_rules plan states (starts_of parts drivers before) these after x
    ⊎ WasDeceived (starts_of parts drivers before) these after) is
    (c.solo-ended.ensures.begins plan states fine same are (told_end parts (labels_in labels) (map g.I.Source.tells sources) drivers these (map g.I.Source.tells now) before after r tell) (λ e. no (same_some f fault.Memory (sym is ∙ e))))))) c.unless_stopped.ensures.err spared
