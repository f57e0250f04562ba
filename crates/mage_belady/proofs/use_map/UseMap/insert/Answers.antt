use Rattle.std.proofs.Common.{rules, ◌≤◌, ℕ, Some, subst}
use Rattle.std.specs.BTreeMap.{Updates}
use Rattle.mage_instr.specs.declared.instr.TheConstants.{NEVER}
use Rattle.mage_belady.specs.Uses.{key_cmp}
use Rattle.mage_belady.proofs.UseKeys.{frame_at-updates}
use Rattle.mage_belady.proofs.use_map.UseMap.insert.Goals as goal

pub returns-clause-listed : goal.returns-clause-listed
returns-clause-listed g c =
    let small : c.args.listed.page ≤ NEVER = search rules in
    let updates =
    subst (λ (key : ℕ × ℕ). Updates key_cmp c.args.self.now.frames c.insert.new.self key
    (Some c.args.listed.frame)) c.key.ensures c.in_ok-insert.ensures.updates in
    frame_at-updates c.args.self.now
    (record { frames = c.insert.new.self }) c.args.listed.next c.args.listed.page
    (Some c.args.listed.frame) small updates
