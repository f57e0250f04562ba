use Rattle.std.proofs.Common.{◌≡◌, ◌≤◌, ◌-◌, length, arith, rules}
use Rattle.mage_eval.proofs.Bytes.{after_read, read_held}
use Rattle.mage_eval.proofs.incoming.Stream.read.Goals as goal

pub returns-clause-left : goal.returns-clause-left
returns-clause-left g c =
    let s = c.self.inside in
    let n = length c.args.into.now in
    let held : length s.held ≡ 4096 = search rules in
    let here : n ≤ s.to - s.from = rw (← c.self.view_is) at c.requires in
    rw (← c.self.view_is)
    (after_read _ n _ _ _ (read_held s.held _ s.from s.to n (omega (arith, here, c.self.invariant.0)) (omega (arith, held, c.self.invariant.1))) (omega arith) c.saturating_add-self-inside.ensures)
