use Rattle.std.proofs.Common.{◌≡◌, ℕ, suc, ◌+◌, ◌-◌, List, [], ◌∷◌, ◌++◌, length, refl, ap, arith}
use Rattle.std.proofs.lemmas.Result.{err_from_is_err_and}
use Rattle.mage_instr.specs.declared.instr.Instr.{Instr}
use Rattle.mage_texts.specs.Lists.{lists_of}
use Rattle.mage_planner.specs.Outcome.{NewFile, label_files}
use Rattle.mage_planner.specs.Work.{dealt_by, file_by}
use Rattle.mage_planner.proofs.WritingLemmas.{one_more_file, so_far_next, stopped_file}
use Rattle.mage_planner.proofs.labels.write_labels.Goals as goal

pub loop-worker-init : goal.loop-worker-init
loop-worker-init g c =
    let dealing = c.args.dealing.now in
    let count : length dealing.program.workers ≡ length c.as_slice.result.now - 0 =
    omega (arith, ap (λ (workers : List (List Instr)). length workers) c.as_slice.ensures) in (
      [],
      record {
        whole = ap (λ (n : ℕ). label_files dealing.labels.now dealing.program dealing.seed (lists_of dealing.evaluator.items) 0 n) count;
        rest = refl;
      },
    )

pub returns-in_err-write_labels_of-clause-writes : goal.returns-in_err-write_labels_of-clause-writes
returns-in_err-write_labels_of-clause-writes g c =
    let p = err_from_is_err_and c.from_residual.result c.from_residual.ensures.1 in
    let dealing = c.args.dealing.now in
    let l = c.loop-worker in
    let m : ℕ = length c.as_slice.result.now - (l.worker + 1) in
    let others : List NewFile = label_files dealing.labels.now dealing.program dealing.seed (lists_of dealing.evaluator.items) (l.worker + 1) m in
    let next : length c.as_slice.result.now - l.worker ≡ suc m = omega (arith, c.loop-worker-test.true) in
    rw (p.1, p.2) (stopped_file l.invariant.0 (file_by dealing l.worker) others (dealt_by dealing).files _ _ _ c.in_err-write_labels_of.field-0.0
    (so_far_next dealing l.worker _ m l.invariant.0 (dealt_by dealing).files _ _ next l.invariant.1) c.in_err-write_labels_of.ensures.writes)

pub loop-worker-preserved : goal.loop-worker-preserved
loop-worker-preserved g c =
    let dealing = c.args.dealing.now in
    let l = c.loop-worker in
    let m : ℕ = length c.as_slice.result.now - (l.worker + 1) in
    let file : NewFile = file_by dealing l.worker in
    let others : List NewFile = label_files dealing.labels.now dealing.program dealing.seed (lists_of dealing.evaluator.items) (l.worker + 1) m in
    let next : length c.as_slice.result.now - l.worker ≡ suc m = omega (arith, c.loop-worker-test.true) in (
      l.invariant.0 ++ file ∷ [],
      one_more_file l.invariant.0 file others (dealt_by dealing).files _ _ _
          (so_far_next dealing l.worker _ m l.invariant.0 (dealt_by dealing).files _ _ next l.invariant.1) c.in_ok-write_labels_of.ensures.writes,
    )
