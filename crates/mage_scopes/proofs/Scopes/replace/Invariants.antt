use Rattle.std.proofs.Common.{◌≡◌, None, map, take}
use Rattle.mage_scopes.specs.Scopes.{found, meaning_of}
use Rattle.mage_scopes.proofs.Scopes.replace.Given as goal

abbrev pub invariant-loop-map : goal.invariant-loop-map
invariant-loop-map g l = record {
  same : l.map-items ≡ l.fn.self.maps.items;
  passed : found (map meaning_of (take l.map-index l.map-items)) l.name ≡ None;
}
