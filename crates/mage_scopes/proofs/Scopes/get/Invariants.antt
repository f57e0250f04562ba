use Rattle.std.proofs.Common.{◌≡◌, None, map, take}
use Rattle.mage_scopes.specs.Scopes.{found, meaning_of}
use Rattle.mage_scopes.proofs.Scopes.get.Given as goal

abbrev pub invariant-loop-map : goal.invariant-loop-map
invariant-loop-map g l = found (map meaning_of (take l.map-index l.self.maps.items)) l.name ≡ None
