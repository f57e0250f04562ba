-- A call that stops where the sink fails.
use Rattle.std.proofs.Common.{◌≡◌, ◌≤◌, ℕ, [], ◌∷◌, ◌++◌, ap, ◌∙◌, inl}
use Rattle.mage_instr.specs.declared.fault.DriverFault.{DriverFault}
use Rattle.mage_instr.specs.declared.fault.DriverFault.TheVariants as fault
use Rattle.mage_base.specs.Faults.{Rose}
use Rattle.mage_label.specs.declared.labels.Label.{Label}
use Rattle.mage_driver.specs.declared.standing.Standing.TheVariants as standing
use Rattle.mage_driver.specs.Calls.{Told, Ask, Fell, RoseFor, call_of, reached}
use Rattle.mage_garble.specs.Sending.{Sending, Outgoing, Broke}
use Rattle.mage_garble.specs.Rule.{Garbling, garble_rules}

rose_for_sink : (f : DriverFault) (before now : ℕ) → f ≡ fault.Sink → before ≤ now → Rose before now → RoseFor f before now
rose_for_sink fault.Sink before now is kept rose = (kept, rose)
rose_for_sink fault.Source before now is kept rose = (kept, rose)
rose_for_sink (fault.Short at) before now is kept rose = kept
rose_for_sink (fault.Long at) before now is kept rose = kept
rose_for_sink (fault.Colour at) before now is kept rose = kept

pub fell : (ask : Ask Label) (before after : Told Garbling) (out : Outgoing) (f : DriverFault) →
    f ≡ fault.Sink → Broke (record { sending = before.state.sending; faults = before.faults; told = before.told }) out →
    (reached garble_rules before.state ask).sending.stream ≡ before.state.sending.stream ++ before.state.sending.waiting →
    after.state.sending ≡ out.sending → after.faults ≡ out.faults → after.told ≡ out.told → after.standing ≡ standing.Failed f →
    Fell garble_rules (call_of garble_rules before.state ask ∷ []) before f after
fell ask before after out f sink broke puts sending faults told failed = record {
  stopped = λ t. inl (record {
    sink = sink;
    puts = puts;
    failed = record {
      front = ((broke.failed t).front.0, ap (λ (s : Sending). s.stream) sending ∙ (broke.failed t).front.1);
      full = (broke.failed t).full;
    };
  });
  failed = failed;
  counted = rose_for_sink f before.faults after.faults sink (rw faults broke.kept) (rw faults broke.rose);
  told = told ∙ broke.told;
}
