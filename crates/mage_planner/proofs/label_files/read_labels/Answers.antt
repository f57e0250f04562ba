use Rattle.std.proofs.Common.{rules, ◌≡◌, ◌<◌, ◌≤◌, ◌+◌, ◌∙◌, ◌++◌, ◌∷◌, [], ℕ, List, Ok, length, get_or, take, take_all, refl, ap, subst, arith}
use Rattle.std.proofs.lemmas.Result.{err_from_is_err_and}
use Rattle.mage_base.specs.Desk.{DeskTold}
use Rattle.std.specs.Option.{IfSome}
use Rattle.mage_instr.specs.declared.instr.Instr.{Instr}
use Rattle.mage_label.specs.declared.labels.Label.{Label}
use Rattle.mage_planner.specs.Outcome.{labels_of}
use Rattle.mage_solo.specs.Evaluating.{labels_in}
use Rattle.mage_planner.proofs.LabelFileLemmas.{found_labels, stopped_told, stopped_some, more_told, more_some, put_file, nothing_told, nothing_some, in_vectors, told_in}
use Rattle.mage_planner.proofs.label_files.read_labels.Goals as goal

pub loop-instrs-init : goal.loop-instrs-init
loop-instrs-init g c = record {
  number = refl;
  desk = refl;
  told = nothing_told (g.D.Desk.tells c.args.desk.now).files c.new-labels.result.items c.new-labels.ensures.items;
  some = nothing_some c.new-labels.result.items c.new-labels.ensures.items;
}

pub returns-in_err-own-clause-told : goal.returns-in_err-own-clause-told
returns-in_err-own-clause-told g c =
    let p = err_from_is_err_and c.from_residual.result c.from_residual.ensures.1 in
    let l = c.loop-instrs in
    let items = c.as_slice-instrs-items.ensures in
    let inside : l.instrs-index < length c.args.program.now.workers = let long = ap (λ (w : List (List Instr)). length w) items in let less = c.loop-instrs-test.true in omega (arith, long, less) in
    let is = c.instrs-item.is ∙ ap (λ (w : List (List Instr)). get_or w l.instrs-index c.instrs-item.result) items in
    let files = ap (λ (desk : DeskTold). desk.files) l.invariant.desk in
    let steady = ap (λ (desk : DeskTold). desk.steady) l.invariant.desk in
    rw (p.1, p.2) (stopped_told c.args.program.now.workers l.instrs-index l.worker l.invariant.number inside c.instrs-item.result is
    (g.D.Desk.tells c.args.desk.now).files (g.D.Desk.tells c.args.desk.now).steady c.args.stem.now (labels_in l.labels.items) c.in_err-own.field-0.0
    l.invariant.told (rw (files, steady, c.as_slice.ensures) at c.in_err-own.ensures.told))

pub returns-in_err-own-clause-some : goal.returns-in_err-own-clause-some
returns-in_err-own-clause-some g c =
    let p = err_from_is_err_and c.from_residual.result c.from_residual.ensures.1 in
    let l = c.loop-instrs in
    let items = c.as_slice-instrs-items.ensures in
    let inside : l.instrs-index < length c.args.program.now.workers = let long = ap (λ (w : List (List Instr)). length w) items in let less = c.loop-instrs-test.true in omega (arith, long, less) in
    let is = c.instrs-item.is ∙ ap (λ (w : List (List Instr)). get_or w l.instrs-index c.instrs-item.result) items in
    let some = rw (c.as_slice.ensures) at c.in_err-own.ensures.some in (
      put_file l.invariant.some.0 l.worker some.0,
      rw (p.1, p.2) (stopped_some c.args.program.now.workers l.instrs-index l.worker l.invariant.number inside c.instrs-item.result is
          l.invariant.some.0 some.0 (labels_in l.labels.items) c.in_err-own.field-0.0 l.invariant.some.1 some.1),
    )

pub loop-instrs-preserved : goal.loop-instrs-preserved
loop-instrs-preserved g c =
    let l = c.loop-instrs in
    let items = c.as_slice-instrs-items.ensures in
    let inside : l.instrs-index < length c.args.program.now.workers = let long = ap (λ (w : List (List Instr)). length w) items in let less = c.loop-instrs-test.true in omega (arith, long, less) in
    let is = c.instrs-item.is ∙ ap (λ (w : List (List Instr)). get_or w l.instrs-index c.instrs-item.result) items in
    let files = ap (λ (desk : DeskTold). desk.files) l.invariant.desk in
    let some = rw (c.as_slice.ensures) at c.in_ok-own.ensures.some in
    let same : c.push.new.self.items ≡ l.labels.items ++ c.in_ok-own.own ∷ [] = search rules in
    let joined = in_vectors l.labels.items c.push.new.self.items c.in_ok-own.own same in
    record {
      number = ap (λ (n : ℕ). n + 1) l.invariant.number;
      desk = c.in_ok-own.ensures.rest ∙ ap (λ (n : ℕ). record (g.D.Desk.tells l.desk) { faults = n }) c.in_ok-own.ensures.cause ∙ l.invariant.desk;
      told = told_in (g.D.Desk.tells c.args.desk.now).files c.args.stem.now (take (l.instrs-index + 1) c.args.program.now.workers) _ _ joined
          (more_told c.args.program.now.workers l.instrs-index l.worker l.invariant.number inside c.instrs-item.result is
          (g.D.Desk.tells c.args.desk.now).files c.args.stem.now (labels_in l.labels.items) c.in_ok-own.own.items
          l.invariant.told (rw (files, c.as_slice.ensures) at c.in_ok-own.ensures.told));
      some = (
        put_file l.invariant.some.0 l.worker some.0,
        more_some c.args.program.now.workers l.instrs-index l.worker l.invariant.number inside c.instrs-item.result is
            l.invariant.some.0 some.0 (labels_in l.labels.items) c.in_ok-own.own.items l.invariant.some.1 some.1
            ∙ ap (λ (labels : List (List Label)). Ok labels) joined,
      );
    }

pub returns-clause-told : goal.returns-clause-told
returns-clause-told g c =
    let l = c.loop-instrs in
    let items = c.as_slice-instrs-items.ensures in
    let long : length c.args.program.now.workers ≤ l.instrs-index = let many = ap (λ (w : List (List Instr)). length w) items in let past = c.loop-instrs-test.false in omega (arith, many, past) in
    subst (λ (workers : List (List Instr)). IfSome (g.D.Desk.tells c.args.desk.now).files (λ files. labels_of (found_labels files c.args.stem.now) 0 workers ≡ Ok (labels_in l.labels.items)))
    (take_all l.instrs-index c.args.program.now.workers long) l.invariant.told
