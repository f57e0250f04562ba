use Rattle.std.proofs.Common.{◌≡◌, ◌+◌, ◌-◌, ◌%◌, ◌==◌, ◌++◌, ◌∷◌, [], ap, sym, ◌∙◌, append_assoc, arith}
use Rattle.std.proofs.lemmas.Grind.{common_steps}
use Rattle.mage_bits.proofs.BitLaws.{bits-step}
use Rattle.mage_bits.proofs.digits.bits_of.Goals as goal

pub loop-place-preserved : goal.loop-place-preserved
loop-place-preserved c =
    let l = c.loop-place in
    let step = bits-step l.left (c.args.count - l._place) (omega arith) in
    let pushed : c.push.new.self.items ≡ l.digits.items ++ (l.left % 2 == 1) ∷ [] = grind (arith, common_steps) in
    let next : c.args.count - (l._place + 1) ≡ c.args.count - l._place - 1 = omega arith in
    rw (pushed, next, append_assoc) (ap (λ digits. l.digits.items ++ digits) (sym step) ∙ l.invariant)
