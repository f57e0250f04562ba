-- What the outside tells over real files: its counts alone, since no clause can say what a file holds.
use Rattle.std.specs.Prelude.{ℕ, None, false}
use Rattle.mage_base.specs.Desk.{DeskTold}
use Rattle.mage_base.specs.Ledger.{LedgerState, returned_in}
use Rattle.mage_base.specs.Sink.{SinkTold}
use Rattle.mage_base.specs.Source.{SourceTold}
use Rattle.mage_base.specs.Store.{StoreTold}

abbrev pub untold_source : (faults : ℕ) → SourceTold
untold_source faults = record { left = None; faults = faults; steady = false }

abbrev pub untold_sink : (faults : ℕ) → SinkTold
untold_sink faults = record { taken = None; faults = faults; steady = false; room = 0 }

abbrev pub untold_store : (page_bytes reads writes faults : ℕ) → StoreTold
untold_store page_bytes reads writes faults =
    record {
      page_bytes = page_bytes;
      pages = None;
      reads = reads;
      writes = writes;
      faults = faults;
      log = None;
      steady = false;
      page_count = 0;
    }

abbrev pub untold_desk : (faults : ℕ) → LedgerState → DeskTold
untold_desk faults ledger =
    record {
      files = None;
      said = None;
      warned = None;
      faults = faults;
      steady = false;
      room = 0;
      warn_room = 0;
      stores_tell_pages = false;
      stores_tell_logs = false;
      lent = ledger.lent;
      returned = returned_in ledger.totals;
    }
