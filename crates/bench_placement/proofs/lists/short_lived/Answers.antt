use Rattle.std.proofs.Common.{◌≡◌, ◌++◌, ◌∷◌, [], arith}
use Rattle.std.proofs.lemmas.List.{length_push}
use Rattle.bench_placement.proofs.Pushed.{wide_pushed}
use Rattle.bench_placement.proofs.lists.short_lived.Goals as goal

pub loop-t-preserved : goal.loop-t-preserved
loop-t-preserved c =
    let old = c.loop-t.list.items in let instr = c.value_at-instr.result in
    let pushed : c.add.new.list.items ≡ old ++ instr ∷ [] = c.in_ok-add.ensures.list in
    rw pushed (record {
      sound = rw (← pushed) c.in_ok-add.ensures.sound;
      wide = wide_pushed old instr c.args.width c.loop-t.invariant.wide c.value_at-instr.ensures.wide;
      count = omega (arith, length_push old instr, c.loop-t.invariant.count);
    })
