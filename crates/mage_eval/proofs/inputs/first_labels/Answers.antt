use Rattle.std.proofs.Common.{◌≡◌, ℕ, suc, ◌+◌, ◌-◌, ◌++◌, ◌∙◌, List, length, take, drop, sym, ap, append_assoc, arith}
use Rattle.std.proofs.lemmas.List.{take_more_set}
use Rattle.mage_label.specs.declared.labels.Label.{Label}
use Rattle.mage_streams.specs.Evaluating.{first_labels}
use Rattle.mage_eval.proofs.inputs.first_labels.Goals as goal

pub loop-i-preserved : goal.loop-i-preserved
loop-i-preserved c =
    let l = c.loop-i in
    let n = length c.args.into.now in
    let next : n - l.i ≡ suc (n - (l.i + 1)) = omega arith in
    let written = take_more_set l.into l.i c.label_at-behind.result.0 (omega arith) in
    record {
      within = c.label_at-behind.ensures.within;
      labels = rw (written, append_assoc) (ap (λ (xs : List Label). take l.i l.into ++ xs) (sym (c.label_at-behind.ensures.label (n - (l.i + 1))))
          ∙ ap (λ (k : ℕ). take l.i l.into ++ first_labels k (drop l.next c.args.labels.now)) (sym next) ∙ l.invariant.labels);
      place = sym (c.label_at-behind.ensures.place (n - (l.i + 1))) ∙ ap (λ (k : ℕ). drop k (drop l.next c.args.labels.now)) (sym next) ∙ l.invariant.place;
    }
