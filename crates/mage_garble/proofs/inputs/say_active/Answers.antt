use Rattle.std.proofs.Common.{◌≡◌, ℕ, List, length, ap, ◌∙◌, length-append, arith, rules}
use Rattle.mage_garble.proofs.Adding.{one_more}
use Rattle.mage_garble.proofs.inputs.say_active.Goals as goal

pub loop-zero-preserved : goal.loop-zero-preserved
loop-zero-preserved g c =
    let l = c.loop-zero in
    let less = c.loop-zero-test.true in
    let active = c.xor_times-active.result in
    let long : length active.bytes ≡ 16 = search rules in
    let more = one_more l.out.sending.waiting c.args.offset c.args.zeros.now l.zero-index l.left _ active less c.xor_times-active.ensures in
    record {
      fits = rw c.add.ensures (omega (arith, length-append l.out.sending.waiting active.bytes, long, l.invariant.fits, less));
      said = rw c.add.ensures (ap (λ (ws : List ℕ). record l.out { sending = record l.out.sending { waiting = ws } }) more ∙ l.invariant.said);
    }
