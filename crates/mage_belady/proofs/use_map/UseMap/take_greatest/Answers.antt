use Rattle.std.proofs.Common.{rules, ◌≤◌, ◌-◌, ℕ, None, subst, sym, arith}
use Rattle.std.specs.BTreeMap.{Updates}
use Rattle.mage_instr.specs.declared.instr.TheConstants.{NEVER}
use Rattle.mage_belady.specs.Uses.{key_cmp}
use Rattle.mage_belady.proofs.UseKeys.{frame_at-updates, unflipped, IsLast-greatest}
use Rattle.mage_belady.proofs.use_map.UseMap.take_greatest.Goals as goal

pub returns-clause-last : goal.returns-clause-last
returns-clause-last g c =
    let small : c.in_ok-next.flipped ≤ NEVER = search rules in
    IsLast-greatest c.args.self.now c.in_ok-next.next c.in_ok-next.flipped c.in_ok-next.frame small
    c.in_ok-next.ensures.value c.in_ok-next.ensures.greatest

pub returns-clause-removed : goal.returns-clause-removed
returns-clause-removed g c =
    let small : c.in_ok-next.flipped ≤ NEVER = search rules in
    let updates =
    subst (λ (second : ℕ). Updates key_cmp c.args.self.now.frames c.pop_last.new.self
    (c.in_ok-next.next, second) None)
    (sym (unflipped c.in_ok-next.flipped small)) c.in_ok-next.ensures.updates in
    frame_at-updates c.args.self.now (record { frames = c.pop_last.new.self }) c.in_ok-next.next
    (NEVER - c.in_ok-next.flipped) None (omega arith) updates
