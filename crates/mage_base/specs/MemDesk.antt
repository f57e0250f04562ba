-- The desk in memory: what it tells, and what each call leaves.
use Rattle.std.specs.Prelude.{ℕ, List, [], Bool, ◌&&◌, ◌||◌, true, false, Some, is_none, if◌then◌else◌}
use Rattle.std.specs.Map.{lookup}
use Rattle.std.specs.Str.{bytes_eq}
use Rattle.mage_base.specs.declared.calls.Calls.{Calls}
use Rattle.mage_base.specs.declared.desk_fails.DeskFails.{DeskFails}
use Rattle.mage_base.specs.declared.mem_desk.handed_fails.HandedFails.{HandedFails}
use Rattle.mage_base.specs.Bounded.{Bounded, no_bytes, room_left, passes_room, with_fitting}
use Rattle.mage_base.specs.Calls.{no_call_yet, is_listed, after_call, is_empty, counted}
use Rattle.mage_base.specs.Desk.{DeskTold, Files}
use Rattle.mage_base.specs.DeskFails.{handed_of, hands_no_fault}
use Rattle.mage_base.specs.Ledger.{LedgerState, empty_ledger, returned_in}

-- what a desk in memory holds: the names and bytes of its files, what was said and what was warned with the room for
-- each, its count of faults, its calls with those that are to fail, those of what it hands out, and its stores
pub record DeskState : Type 0 where
  pub files : List (List ℕ × List ℕ)
  pub said : Bounded
  pub warned : Bounded
  pub faults : ℕ
  pub calls : Calls
  pub fails : HandedFails
  pub ledger : LedgerState

-- the bytes of each file of a list of names and bytes
abbrev pub files_in : List (List ℕ × List ℕ) → Files
files_in entries name = lookup (bytes_eq name) entries

abbrev pub files_of : DeskState → Files
files_of desk = files_in desk.files

-- what it tells, which is all but the logs of stores; it is steady where no call is to fail
abbrev pub desk_told : DeskState → DeskTold
desk_told desk =
    record {
      files = Some (files_of desk);
      said = Some desk.said.bytes;
      warned = Some desk.warned.bytes;
      faults = desk.faults;
      steady = is_empty desk.calls.failing && hands_no_fault desk.fails;
      room = room_left desk.said;
      warn_room = room_left desk.warned;
      stores_tell_pages = true;
      stores_tell_logs = false;
      lent = desk.ledger.lent;
      returned = returned_in desk.ledger.totals;
    }

-- a desk without a file, on which nothing was said or warned yet
abbrev pub empty_desk : (said_room : ℕ) → DeskFails → DeskState
empty_desk said_room fails =
    record {
      files = [];
      said = no_bytes said_room;
      warned = no_bytes said_room;
      faults = 0;
      calls = no_call_yet fails.desk;
      fails = handed_of fails;
      ledger = empty_ledger;
    }

-- whether a call that reads this file fails: it is to fail, or there is no such file
abbrev pub cannot_find : DeskState → (name : List ℕ) → Bool
cannot_find desk name = is_listed desk.calls || is_none (files_of desk name)

-- whether saying, or warning, these bytes fails: the call is to fail, or they pass the room
abbrev pub cannot_say : DeskState → (bytes : List ℕ) → Bool
cannot_say desk bytes = is_listed desk.calls || passes_room desk.said bytes

abbrev pub cannot_warn : DeskState → (bytes : List ℕ) → Bool
cannot_warn desk bytes = is_listed desk.calls || passes_room desk.warned bytes

-- the desk after a call that failed, or didn't
abbrev pub after_desk_call : DeskState → (failed : Bool) → DeskState
after_desk_call desk failed = record desk { faults = counted failed desk.faults; calls = after_call desk.calls }

-- the desk after saying, or warning, these bytes: what fits was added, and nothing by a call that is to fail
abbrev pub after_say : DeskState → (bytes : List ℕ) → DeskState
after_say desk bytes =
    record (after_desk_call desk (cannot_say desk bytes)) {
      said = if is_listed desk.calls then desk.said else with_fitting desk.said bytes;
    }

abbrev pub after_warn : DeskState → (bytes : List ℕ) → DeskState
after_warn desk bytes =
    record (after_desk_call desk (cannot_warn desk bytes)) {
      warned = if is_listed desk.calls then desk.warned else with_fitting desk.warned bytes;
    }
