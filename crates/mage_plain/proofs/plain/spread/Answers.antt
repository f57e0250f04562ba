use Rattle.std.proofs.Common.{◌≡◌, ◌+◌, ◌-◌, ◌%◌, ◌==◌, ◌++◌, ◌∙◌, length, take, sym, ap, append_assoc, arith}
use Rattle.std.proofs.lemmas.List.{take_all, take_more_set, append-nil}
use Rattle.mage_bits.proofs.BitLaws.{bits-step}
use Rattle.mage_plain.proofs.plain.spread.Goals as goal

pub loop-i-preserved : goal.loop-i-preserved
loop-i-preserved c =
    let l = c.loop-i in
    let n = length c.args.into.now in
    let step = bits-step l.left (n - l.i) (omega arith) in
    let next : n - (l.i + 1) ≡ n - l.i - 1 = omega arith in
    let written = take_more_set l.into l.i (l.left % 2 == 1) (omega arith) in
    rw (next, written, append_assoc) (ap (λ digits. take l.i l.into ++ digits) (sym step) ∙ l.invariant)

pub returns : goal.returns
returns c =
    let l = c.loop-i in
    let done : length c.args.into.now - l.i ≡ 0 = omega arith in
    sym (take_all l.i l.into (omega arith)) ∙ sym (append-nil (take l.i l.into)) ∙ (rw done at l.invariant)
