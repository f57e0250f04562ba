use Rattle.std.proofs.Common.{sym}
use Rattle.mage_scopes.specs.Scopes.{scopes_of, meaning_of}
use Rattle.mage_scopes.proofs.Walks.{popped}
use Rattle.mage_scopes.proofs.Scopes.leave.Goals as goal

pub returns : goal.returns
unfolding scopes_of
returns g c =
    let maps = c.args.self.now.maps in
    popped meaning_of maps.items maps.len c.pop.new.self.items c.pop.result (sym maps.ok.0) c.pop.ensures.items c.pop.ensures.variant
