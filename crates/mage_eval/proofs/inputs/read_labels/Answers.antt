use Rattle.std.proofs.Common.{◌≡◌, ℕ, suc, ◌+◌, ◌-◌, ◌++◌, ◌∙◌, length, length-drop, take, sym, ap, append_assoc, arith}
use Rattle.std.proofs.lemmas.List.{take_more_set}
use Rattle.mage_streams.specs.Evaluating.{next_labels}
use Rattle.mage_eval.specs.Reading.{Incoming, after_labels}
use Rattle.mage_eval.proofs.Bytes.{labels_after, labels_none}
use Rattle.mage_eval.proofs.inputs.read_labels.Goals as goal

pub loop-i-preserved : goal.loop-i-preserved
loop-i-preserved g c =
    let l = c.loop-i in
    let n = length c.args.into.now in
    let m : ℕ = n - (l.i + 1) in
    let next : n - l.i ≡ suc m = omega arith in
    let written = take_more_set l.into l.i c.read_label.result (omega arith) in
    record {
      here = rw c.read_label.ensures.left (omega (arith, l.invariant.here));
      enough = rw c.read_label.ensures.left (omega (arith, l.invariant.enough, length-drop 16 l.stream.left));
      labels = rw (written, c.read_label.ensures.left, c.read_label.ensures.label, append_assoc)
          (ap (λ (k : ℕ). take l.i l.into ++ next_labels k l.stream.left) (sym next) ∙ l.invariant.labels);
      after = ap (λ (s : Incoming). after_labels s m) c.read_label.ensures.left ∙ labels_after l.stream m ∙ ap (λ (k : ℕ). after_labels l.stream k) (sym next) ∙ l.invariant.after;
    }

pub returns-clause-left : goal.returns-clause-left
returns-clause-left g c =
    let l = c.loop-i in
    let done : length c.args.into.now - l.i ≡ 0 = omega arith in
    sym (labels_none l.stream) ∙ (rw done at l.invariant.after)
