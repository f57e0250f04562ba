use Rattle.std.proofs.Common.{List, String, sym, subst}
use Rattle.std.specs.Global.{Global}
use Rattle.mage_lending.specs.Names.{spelled}
use Rattle.mage_lending.specs.Sinks.{HaveFiles}
use Rattle.mage_lending_tests.proofs.files.write_all.Goals as goal

pub close_sinks-requires-clause-there : goal.close_sinks-requires-clause-there
close_sinks-requires-clause-there g c κs within =
    subst (λ (l : List (String Global)). HaveFiles (g.D.Desk.tells c.open_sinks.new.desk).files (spelled l)) (sym c.as_slice.ensures.value) c.in-Ok.ensures.there
