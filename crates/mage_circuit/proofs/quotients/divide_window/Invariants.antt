use Rattle.std.proofs.Common.{◌-◌, take, reverse}
use Rattle.mage_driver.specs.Operations.{Divided, divide_bit}
use Rattle.mage_driver.proofs.Making.{Goes}
use Rattle.mage_circuit.specs.Windows.{started}
use Rattle.mage_circuit.proofs.Dividing.{InWindow}
use Rattle.mage_circuit.proofs.quotients.divide_window.Given as goal

abbrev pub invariant-loop-k : goal.invariant-loop-k
invariant-loop-k g l =
    (all : Divided g.row.D-Wire.Denot)
    × InWindow (take l.width l.initial.window) (l.width - l.k) l.window all
    × Goes g.D.Driver.rules (divide_bit g.D.Driver.rules l.b) (started l.width l.initial.window) (g.D.Driver.tells l.initial.driver) (reverse (take l.width l.initial.window)) all (g.D.Driver.tells l.driver) (reverse (take (l.width - l.k) (take l.width l.initial.window)))
