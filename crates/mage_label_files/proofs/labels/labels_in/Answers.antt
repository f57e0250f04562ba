use Rattle.std.proofs.Common.{◌≡◌, ◌+◌, ◌*◌, ◌-◌, ℕ, List, [], ◌∷◌, ◌++◌, ap, sym, subst, ◌∙◌, take, drop, arith}
use Rattle.mage_label.specs.declared.labels.Label.{Label}
use Rattle.mage_label_files.specs.Labels.{labels_from}
use Rattle.mage_label_files.proofs.Reading.{one_more}
use Rattle.mage_label_files.proofs.labels.labels_in.Goals as goal

pub loop-k-preserved : goal.loop-k-preserved
loop-k-preserved c =
    let k : ℕ = c.loop-k.k in
    let bytes : List ℕ = c.args.bytes.now in
    let long : (16 * k + 16) - 16 * k ≡ 16 = omega arith in
    let items : c.push.new.self.items ≡ c.loop-k.labels.items ++ c.label_of.result ∷ [] = c.in_ok-push.ensures.items in
    subst (λ (all : List Label). all ++ labels_from (c.args.count - (k + 1)) (drop (16 * (k + 1)) bytes) ≡ labels_from c.args.count bytes) (sym items)
    (one_more c.loop-k.labels.items c.args.count k bytes c.label_of.result (labels_from c.args.count bytes) c.loop-k-test.true
    (c.label_of.ensures ∙ ap (λ (n : ℕ). take n (drop (16 * k) bytes)) long) c.loop-k.invariant)
