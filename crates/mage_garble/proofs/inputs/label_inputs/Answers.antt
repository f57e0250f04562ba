use Rattle.std.proofs.Common.{◌≡◌, ℕ, suc, ◌+◌, ◌-◌, ◌++◌, ◌∙◌, length, take, sym, ap, append_assoc, arith}
use Rattle.std.proofs.lemmas.List.{take_all, take_more_set, append-nil}
use Rattle.mage_streams.specs.Garbling.{zero_labels}
use Rattle.mage_garble.proofs.inputs.label_inputs.Goals as goal

pub loop-i-preserved : goal.loop-i-preserved
loop-i-preserved c =
    let l = c.loop-i in
    let n = length c.args.into.now in
    let next : n - l.i ≡ suc (n - (l.i + 1)) = omega arith in
    let written = take_more_set l.into l.i c.input_label.result (omega arith) in (
      omega arith,
      rw (written, c.input_label.ensures, append_assoc) (ap (λ (k : ℕ). take l.i l.into ++ zero_labels c.args.seed.now c.args.worker l.wire k) (sym next) ∙ l.invariant.1),
    )

pub returns : goal.returns
returns c =
    let l = c.loop-i in
    let done : length c.args.into.now - l.i ≡ 0 = omega arith in
    sym (take_all l.i l.into (omega arith)) ∙ sym (append-nil (take l.i l.into)) ∙ (rw done at l.invariant.1)
