use Rattle.std.proofs.Common.{subst, ap, true}
use Rattle.std.specs.Option.{option_map}
use Rattle.std.proofs.lemmas.Option.{IfSome_then}
use Rattle.mage_words.specs.Answers.{driver_view, solo_view}
use Rattle.mage_words.specs.Words.{Eval, Garble, Solo, SoloRequest}
use Rattle.mage_planner.specs.Outcome.{solo_outcome, garble_outcome, eval_outcome}
use Rattle.mage_planner.specs.Found.{found_in}
use Rattle.mage_planner.specs.Work.{GivesSo, IsEvaluationOf, IsGarblingOf, IsRunOf, IsWorkOf}
use Rattle.mage_planner.proofs.GarbleLemmas.{asked_same, driven_garble, driven_plain}
use Rattle.mage_planner.proofs.EvalLemmas.{driven_eval}
use Rattle.mage_planner.proofs.command.driven.Goals as goal

pub returns-in-Plain-clause-cause : goal.returns-in-Plain-clause-cause
returns-in-Plain-clause-cause g c = c.to_run.ensures.counts _ _ c.solo.ensures.cause

pub returns-in-Garble-clause-cause : goal.returns-in-Garble-clause-cause
returns-in-Garble-clause-cause g c = c.to_garble.ensures.counts _ _ c.garble.ensures.cause

pub returns-in-Plain-clause-told : goal.returns-in-Plain-clause-told
returns-in-Plain-clause-told g c =
    IfSome_then (g.D.Desk.tells c.args.desk.now).files
    {P = λ files. GivesSo (g.D.Desk.tells c.args.desk.now).steady IsRunOf c.solo.result (solo_outcome (found_in files (Solo (solo_view c.args.request))) (solo_view c.args.request))}
    c.solo.ensures.told
    (λ files h. driven_plain (GivesSo (g.D.Desk.tells c.args.desk.now).steady IsWorkOf c.to_run.result) (solo_view c.args.request).driver _ _
    (found_in files (Solo (solo_view c.args.request))) (solo_view c.args.request) (ap driver_view c.in-Plain.is) (c.to_run.ensures.gives _ _ h))

pub returns-in-Plain-clause-some : goal.returns-in-Plain-clause-some
returns-in-Plain-clause-some g c =
    let some = c.solo.ensures.some in (
      some.0,
      driven_plain (GivesSo true IsWorkOf c.to_run.result) (solo_view c.args.request).driver _ _ some.0 (solo_view c.args.request) (ap driver_view c.in-Plain.is) (c.to_run.ensures.gives _ _ some.1),
    )

pub returns-in-Garble-clause-told : goal.returns-in-Garble-clause-told
returns-in-Garble-clause-told g c =
    let own : SoloRequest = solo_view c.args.request in
    let is = ap driver_view c.in-Garble.is in
    let asked : SoloRequest = record own { driver = Garble (option_map (λ name. name.now) c.in-Garble.garbler) c.in-Garble.seed.now c.in-Garble.stream.now } in
    IfSome_then (g.D.Desk.tells c.args.desk.now).files
    {P = λ files. GivesSo (g.D.Desk.tells c.args.desk.now).steady IsGarblingOf c.garble.result (garble_outcome (found_in files (Solo asked)) own.limits c.in-Garble.stream.now)}
    c.garble.ensures.told
    (λ files h. driven_garble (GivesSo (g.D.Desk.tells c.args.desk.now).steady IsWorkOf c.to_garble.result) own.driver _ _ _
    (found_in files (Solo own)) own is
    (c.to_garble.ensures.gives _ _
    (subst (λ (r : SoloRequest). GivesSo (g.D.Desk.tells c.args.desk.now).steady IsGarblingOf c.garble.result (garble_outcome (found_in files (Solo r)) own.limits c.in-Garble.stream.now))
    (asked_same own asked.driver is) h)))

pub returns-in-Garble-clause-some : goal.returns-in-Garble-clause-some
returns-in-Garble-clause-some g c =
    let some = c.garble.ensures.some in (
      some.0,
      driven_garble (GivesSo true IsWorkOf c.to_garble.result) (solo_view c.args.request).driver _ _ _ some.0 (solo_view c.args.request) (ap driver_view c.in-Garble.is)
          (c.to_garble.ensures.gives _ _ some.1),
    )

pub returns-in-Eval-clause-cause : goal.returns-in-Eval-clause-cause
returns-in-Eval-clause-cause g c = c.to_evaluate.ensures.counts _ _ c.evaluated.ensures.cause

pub returns-in-Eval-clause-told : goal.returns-in-Eval-clause-told
returns-in-Eval-clause-told g c =
    let own : SoloRequest = solo_view c.args.request in
    let is = ap driver_view c.in-Eval.is in
    let asked : SoloRequest = record own { driver = Eval c.in-Eval.stream.now c.in-Eval.labels.now } in
    IfSome_then (g.D.Desk.tells c.args.desk.now).files
    {P = λ files. GivesSo (g.D.Desk.tells c.args.desk.now).steady IsEvaluationOf c.evaluated.result (eval_outcome (found_in files (Solo asked)) own.limits c.in-Eval.stream.now)}
    c.evaluated.ensures.told
    (λ files h. driven_eval (GivesSo (g.D.Desk.tells c.args.desk.now).steady IsWorkOf c.to_evaluate.result) own.driver _ _
    (found_in files (Solo own)) own is
    (c.to_evaluate.ensures.gives _ _
    (subst (λ (r : SoloRequest). GivesSo (g.D.Desk.tells c.args.desk.now).steady IsEvaluationOf c.evaluated.result (eval_outcome (found_in files (Solo r)) own.limits c.in-Eval.stream.now))
    (asked_same own asked.driver is) h)))

pub returns-in-Eval-clause-some : goal.returns-in-Eval-clause-some
returns-in-Eval-clause-some g c =
    let some = c.evaluated.ensures.some in (
      some.0,
      driven_eval (GivesSo true IsWorkOf c.to_evaluate.result) (solo_view c.args.request).driver _ _ some.0 (solo_view c.args.request) (ap driver_view c.in-Eval.is)
          (c.to_evaluate.ensures.gives _ _ some.1),
    )
