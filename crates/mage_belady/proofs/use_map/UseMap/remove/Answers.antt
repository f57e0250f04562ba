use Rattle.std.proofs.Common.{rules, ◌≤◌, ℕ, None, subst}
use Rattle.std.specs.BTreeMap.{Updates}
use Rattle.mage_instr.specs.declared.instr.TheConstants.{NEVER}
use Rattle.mage_belady.specs.Uses.{key_cmp}
use Rattle.mage_belady.proofs.UseKeys.{frame_at-updates}
use Rattle.mage_belady.proofs.use_map.UseMap.remove.Goals as goal

pub returns-clause-removed : goal.returns-clause-removed
returns-clause-removed g c =
    let small : c.args.page ≤ NEVER = search rules in
    let updates =
    subst (λ (key : ℕ × ℕ). Updates key_cmp c.args.self.now.frames c.remove.new.self key None)
    c.key.ensures c.remove.ensures.updates in
    frame_at-updates c.args.self.now
    (record { frames = c.remove.new.self }) c.args.next c.args.page None small updates
