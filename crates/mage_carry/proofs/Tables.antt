-- What each directive makes of the tables of the code.
use Rattle.std.proofs.Common.{◌≡◌, ◌<◌, ◌≤◌, ℕ, Bool, true, false, List, [], ◌∷◌, length, map, Option, Some, None, not, is_some, unwrap_or, refl, ◌∙◌, ap, ltb, arith}
use Rattle.std.specs.Prelude.{slice_get, option_map}
use Rattle.std.specs.List.{list_any}
use Rattle.std.proofs.Math.ListN.{set}
use Rattle.std.proofs.lemmas.Bool.{lt-ltb, le-ltb}
use Rattle.std.proofs.lemmas.List.{map-set, length-map}
use Rattle.std.proofs.lemmas.Option.{slice_get-map, slice_get_past}
use Rattle.mage_instr.specs.declared.instr.Instr.{Instr}
use Rattle.mage_instr.specs.declared.replaced.Spot.{Spot}
use Rattle.mage_carry.specs.declared.held.Held.{Held}
use Rattle.mage_carry.specs.declared.transfer.Transfer.{Transfer}
use Rattle.mage_carry.specs.declared.transfer.Transfer.TheVariants as transfer
use Rattle.mage_carry.specs.State.{Content, nothing, State, names, may_name, may_issue, got}
use Rattle.mage_carry.specs.Steps.{provided, fresh, issue_in, page_read, finish_in, issue_out, finish_out, is_within, placed, result_at}
use Rattle.mage_carry.specs.Views.{content_of, slot_of}

list_any-map : {X Y : Type 0} (test : Y → Bool) (f : X → Y) (xs : List X) → list_any test (map f xs) ≡ list_any (λ x. test (f x)) xs
list_any-map test f [] = refl
list_any-map test f (x ∷ xs) = rw (list_any-map test f xs) refl

pub is_some-map : {X Y : Type 0} (f : X → Y) (o : Option X) → is_some (option_map f o) ≡ is_some o
is_some-map f None = refl
is_some-map f (Some x) = refl

provided_yes : {A : Type 0} (holds : Bool) (x : A) → holds ≡ true → provided holds x ≡ Some x
provided_yes holds x h = rw h refl

provided_no : {A : Type 0} (holds : Bool) (x : A) → holds ≡ false → provided holds x ≡ None
provided_no holds x h = rw h refl

-- Below, these are the tables.
module _ (frames : List Held) (slots : List Transfer) (pages : ℕ → Option Content) (next : ℕ) where
  abbrev pub here : State
  here = record { frames = map content_of frames; slots = map slot_of slots; pages = pages; next = next }

  there : (frame : ℕ) → frame < length frames → ltb frame (length (map content_of frames)) ≡ true
  there frame within = lt-ltb frame (length (map content_of frames)) (omega (arith, length-map frames content_of, within))

  not_there : (frame : ℕ) → length frames ≤ frame → ltb frame (length (map content_of frames)) ≡ false
  not_there frame past = le-ltb frame (length (map content_of frames)) (omega (arith, length-map frames content_of, past))

  pub fresh_goes : (frame at : ℕ) (held : Held) → at ≡ frame → frame < length frames → content_of held ≡ nothing → fresh frame here ≡ Some (record { frames = map content_of (set frames at held); slots = map slot_of slots; pages = pages; next = next })
  fresh_goes frame at held e within empty = rw (e, there frame within, map-set content_of frames frame held, empty) refl

  pub fresh_breaks : (frame : ℕ) → length frames ≤ frame → fresh frame here ≡ None
  fresh_breaks frame past = rw (not_there frame past) refl

  pub issue_in_goes : (store slot at page : ℕ) → at ≡ slot → may_issue store slot page (map slot_of slots) ≡ true → is_some (pages page) ≡ true → issue_in store slot page here ≡ Some (record { frames = map content_of frames; slots = map slot_of (set slots at (transfer.Read page)); pages = pages; next = next })
  issue_in_goes store slot at page e may written = rw (e, may, written, map-set slot_of slots slot (transfer.Read page)) refl

  pub finish_in_goes : (slot frame page slot_at frame_at : ℕ) (held : Held) → slot_at ≡ slot → frame_at ≡ frame → page_read slot (map slot_of slots) ≡ Some page → frame < length frames → content_of held ≡ unwrap_or (pages page) nothing → finish_in slot frame here ≡ Some (record { frames = map content_of (set frames frame_at held); slots = map slot_of (set slots slot_at transfer.Idle); pages = pages; next = next })
  finish_in_goes slot frame page slot_at frame_at held e f reads within same = rw (e, f, reads, there frame within, map-set content_of frames frame held, map-set slot_of slots slot transfer.Idle, same) refl

  pub finish_in_breaks : (slot frame page : ℕ) → page_read slot (map slot_of slots) ≡ Some page → length frames ≤ frame → finish_in slot frame here ≡ None
  finish_in_breaks slot frame page reads past = rw (reads, not_there frame past) refl

  pub finish_in_idle : (slot frame : ℕ) → page_read slot (map slot_of slots) ≡ None → finish_in slot frame here ≡ None
  finish_in_idle slot frame reads = rw reads refl

  frame_at : (frame : ℕ) (held : Held) → slice_get frames frame ≡ Some held → slice_get (map content_of frames) frame ≡ Some (content_of held)
  frame_at frame held is = slice_get-map content_of frames frame ∙ ap (option_map content_of) is

  pub issue_out_goes : (store slot frame page at : ℕ) (held copy : Held) → at ≡ slot → slice_get frames frame ≡ Some held → content_of copy ≡ content_of held → may_issue store slot page (map slot_of slots) ≡ true → issue_out store slot frame page here ≡ Some (record { frames = map content_of frames; slots = map slot_of (set slots at (transfer.Write page copy)); pages = pages; next = next })
  issue_out_goes store slot frame page at held copy e is same may = rw (e, frame_at frame held is, may, map-set slot_of slots slot (transfer.Write page copy), same) refl

  pub issue_out_breaks : (store slot frame page : ℕ) (held : Held) → slice_get frames frame ≡ Some held → may_issue store slot page (map slot_of slots) ≡ false → issue_out store slot frame page here ≡ None
  issue_out_breaks store slot frame page held is may = rw (frame_at frame held is, may) refl

  pub issue_out_nowhere : (store slot frame page : ℕ) → slice_get frames frame ≡ None → issue_out store slot frame page here ≡ None
  issue_out_nowhere store slot frame page is = rw (slice_get-map content_of frames frame, is) refl

  slot_at : (slot : ℕ) (doing : Transfer) → slice_get slots slot ≡ Some doing → slice_get (map slot_of slots) slot ≡ Some (slot_of doing)
  slot_at slot doing is = slice_get-map slot_of slots slot ∙ ap (option_map slot_of) is

  pub finish_out_goes : (slot page at : ℕ) (held : Held) (now : Transfer) (after : ℕ → Option Content) → at ≡ slot → now ≡ transfer.Idle → slice_get slots slot ≡ Some (transfer.Write page held) → after ≡ got page (content_of held) pages → finish_out slot here ≡ Some (record { frames = map content_of frames; slots = map slot_of (set slots at now); pages = after; next = next })
  finish_out_goes slot page at held now after e idle is same = rw (e, idle, slot_at slot (transfer.Write page held) is, map-set slot_of slots slot transfer.Idle, same) refl

  pub finish_out_idle : (slot : ℕ) → slice_get slots slot ≡ Some transfer.Idle → finish_out slot here ≡ None
  finish_out_idle slot is = rw (slot_at slot transfer.Idle is) refl

  pub finish_out_reads : (slot page : ℕ) → slice_get slots slot ≡ Some (transfer.Read page) → finish_out slot here ≡ None
  finish_out_reads slot page is = rw (slot_at slot (transfer.Read page) is) refl

  pub finish_out_nowhere : (slot : ℕ) → slice_get slots slot ≡ None → finish_out slot here ≡ None
  finish_out_nowhere slot is = rw (slice_get-map slot_of slots slot, is) refl

  pub result_goes : (instrs : List Instr) (wires width at : ℕ) (spot : Spot) (held after : Held) → at ≡ spot.frame → slice_get frames spot.frame ≡ Some held → is_within wires width spot ≡ true → content_of after ≡ placed instrs spot.offset width next (content_of held) → result_at instrs wires width spot here ≡ Some (record { frames = map content_of (set frames at after); slots = map slot_of slots; pages = pages; next = next })
  result_goes instrs wires width at spot held after e is within same = rw (e, frame_at spot.frame held is, within, map-set content_of frames spot.frame after, same) refl

  pub result_nowhere : (instrs : List Instr) (wires width : ℕ) (spot : Spot) → length frames ≤ spot.frame → result_at instrs wires width spot here ≡ None
  result_nowhere instrs wires width spot past = rw (slice_get-map content_of frames spot.frame, slice_get_past frames spot.frame past) refl

  pub result_breaks : (instrs : List Instr) (wires width : ℕ) (spot : Spot) (o : Option Content) → slice_get (map content_of frames) spot.frame ≡ o → is_within wires width spot ≡ false → result_at instrs wires width spot here ≡ None
  result_breaks instrs wires width spot None is out = rw is refl
  result_breaks instrs wires width spot (Some content) is out = rw (is, out) refl

-- whether a page is there, by what the code computes
pub may_name-is : (slots : List Transfer) (store page : ℕ) (named : Bool) → named ≡ list_any (λ s. names page (slot_of s)) slots → page < store → not named ≡ may_name store page (map slot_of slots)
may_name-is slots store page named any within = rw (lt-ltb page store within, any, list_any-map (names page) slot_of slots) refl
