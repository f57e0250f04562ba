use Rattle.std.proofs.Common.{ℕ, refl, ap, ◌∙◌, rules}
use Rattle.mage_label.proofs.LabelLemmas.{IsWhole-offset_of}
use Rattle.mage_label.specs.Labels.{IsWhole, offset_of}
use Rattle.mage_driver.specs.Calls.{And}
use Rattle.mage_streams.proofs.Reading.{length-tables}
use Rattle.mage_garble.specs.Sending.{Sending, with_room}
use Rattle.mage_garble.proofs.Failing.{fell}
use Rattle.mage_garble.proofs.driver.GarbleDriverDriver.and.Goals as goal

pub returns-in-Err-clause-call : goal.returns-in-Err-clause-call
returns-in-Err-clause-call g c =
    let d = c.self.inside in
    let whole : IsWhole c.args.a = search rules in
    let long = length-tables (offset_of d.seed) d.worker d.gates c.args.a c.args.b (IsWhole-offset_of d.seed) whole in
    rw (← c.self.view_is)
    (fell (And c.args.a c.args.b) _ _ c.begin.new.self c.in-Err.fault c.in-Err.ensures.sink c.in-Err.ensures.broke
    (ap (λ (n : ℕ). (with_room d.out.sending n).stream) long ∙ ap (λ (s : Sending). s.stream) c.in-Err.ensures.puts) refl refl refl refl)
