-- Which calls of a desk in memory, and of what it hands out, are to fail.
use Rattle.std.specs.Prelude.{ℕ, ◌==◌, List, [], ◌∷◌, map, Bool, ◌&&◌, String, string_bytes, if◌then◌else◌}
use Rattle.std.specs.List.{list_all}
use Rattle.std.specs.Str.{bytes_eq}
use Rattle.mage_base.specs.declared.desk_fails.DeskFails.{DeskFails}
use Rattle.mage_base.specs.declared.mem_desk.handed_fails.HandedFails.{HandedFails}
use Rattle.mage_base.specs.declared.mem_desk.handed_fails.NamedCalls.{NamedCalls}
use Rattle.mage_base.specs.Calls.{is_empty}

-- whether no call of the desk, of a store, of a source or of a sink is listed
abbrev pub lists_nothing : DeskFails → Bool
lists_nothing fails = is_empty fails.desk && list_all (λ store. is_empty store.2) fails.stores
    && list_all (λ input. is_empty input.1) fails.inputs && list_all (λ output. is_empty output.1) fails.outputs

-- calls by name, with the bytes of each name
abbrev pub by_name : {Z : Type 0} → List (String Z × List ℕ) → List NamedCalls
by_name entries = map (λ entry. record { name = string_bytes entry.0; calls = entry.1 }) entries

-- those of what the desk hands out
abbrev pub handed_of : DeskFails → HandedFails
handed_of fails = record { stores = fails.stores; inputs = by_name fails.inputs; outputs = by_name fails.outputs }

-- whether no call of what the desk hands out is to fail
abbrev pub hands_no_fault : HandedFails → Bool
hands_no_fault fails = list_all (λ store. is_empty store.2) fails.stores
    && list_all (λ input. is_empty input.calls) fails.inputs && list_all (λ output. is_empty output.calls) fails.outputs

-- the calls of the first entry with this name, or none
abbrev pub calls_named : List NamedCalls → (name : List ℕ) → List ℕ
calls_named [] name = []
calls_named (entry ∷ entries) name = if bytes_eq entry.name name then entry.calls else calls_named entries name

-- the calls of the first entry with this worker and shard, or none
abbrev pub calls_of_store : List (ℕ × ℕ × List ℕ) → (worker shard : ℕ) → List ℕ
calls_of_store [] worker shard = []
calls_of_store (entry ∷ entries) worker shard =
    if entry.0 == worker && entry.1 == shard then entry.2 else calls_of_store entries worker shard
