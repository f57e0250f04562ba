-- The rule of Places and Steps as functions that compute: the place of each instruction, and the pages that it needs.
-- They look at nothing but the instructions and the places before, and are there to be read rather than run.
use Rattle.std.specs.Prelude.{◌*◌, ◌-◌, ◌/◌, ◌==◌, ◌&&◌, ℕ, zero, suc, Bool, false, not, List, [], ◌∷◌, ◌++◌, Option, Some, None, if◌then◌else◌, length, map, drop, replicate, nat_eq, slice_get}
use Rattle.std.specs.List.{filter, find, fold, list_any, range_with_len, enumerate_from}
use Rattle.std.specs.Option.{option_map_or, unwrap_or}
use Rattle.mage_instr.specs.declared.instr.Instr.{Instr}
use Rattle.mage_instr.specs.declared.instr.Place.{Place}
use Rattle.mage_instr.specs.declared.instr.Step.{Step}
use Rattle.mage_instr.specs.Opcodes.{has_result}
use Rattle.mage_place.specs.Live.{args_of, values_touched_by, class_of_result}
use Rattle.mage_place.specs.Places.{nowhere, place_of, next_page}

-- the numbers below n, ascending
abbrev pub below : (n : ℕ) → List ℕ
below n = range_with_len 0 n

-- the greatest number below n that passes a test
abbrev pub greatest_below : (test : ℕ → Bool) → (n : ℕ) → Option ℕ
greatest_below test zero = None
greatest_below test (suc n) = if test n then Some n else greatest_below test n

-- whether instruction v defines a value of the class c
abbrev pub has_class : List Instr → (v c : ℕ) → Bool
has_class instrs v c = option_map_or (λ i. has_result i.op && (class_of_result i == c)) (slice_get instrs v) false

-- Below, `before` has the places of the instructions before the next one.
module _ (instrs : List Instr) (page : ℕ) (before : List Place) where
  -- whether the value of v, which was defined before, is live: the next instruction or a later one takes it
  abbrev pub is_live : (v : ℕ) → Bool
  is_live v = list_any (λ i. list_any (nat_eq v) (args_of i)) (drop (length before) instrs)

  -- whether the value of v is live, and stands on page q
  abbrev pub lives_on : (q v : ℕ) → Bool
  lives_on q v = is_live v && ((place_of before v).page == q)

  -- whether place k of page q, whose class is c, is free: no live value stands there
  abbrev pub is_free : (q c k : ℕ) → Bool
  is_free q c k = not (list_any (λ v. lives_on q v && ((place_of before v).offset == k * c)) (below (length before)))

  -- whether page q has the class c, a live value and a free place
  abbrev pub is_open : (c q : ℕ) → Bool
  is_open c q = list_any (λ v. lives_on q v && has_class instrs v c) (below (length before))
      && list_any (is_free q c) (below (page / c))

  -- the lowest free place of page q, whose class is c; an open page has one
  abbrev pub lowest_place : (c q : ℕ) → Place
  lowest_place c q = record { page = q; offset = unwrap_or (find (is_free q c) (below (page / c))) 0 * c }

  -- the place of a value of the class c: on the open page with the highest number, or else the first of a new page
  abbrev pub place_in : (c : ℕ) → Place
  place_in c = option_map_or (lowest_place c) (greatest_below (is_open c) (next_page before))
      (record { page = next_page before; offset = 0 })

  -- the place of the next instruction
  abbrev pub next_place : Instr → Place
  next_place i = if has_result i.op then place_in (class_of_result i) else nowhere

-- the place of each instruction, after those before it
unfoldable pub places_of : List Instr → (page : ℕ) → List Place
places_of instrs page = fold (λ before i. before ++ next_place instrs page before i ∷ []) [] instrs

-- the pages that instruction t needs, ascending: those on which a value stands that it touches
abbrev pub needed_pages : List Place → (t : ℕ) → Instr → List ℕ
needed_pages places t i =
    filter (λ q. list_any (λ v. (place_of places v).page == q) (values_touched_by i t)) (below (next_page places))

-- the step of instruction t: the pages that it needs, and 0 behind them, four in all
abbrev pub step_for : List Place → (t : ℕ) → Instr → Step
step_for places t i =
    let pages = needed_pages places t i in
    record { pages = pages ++ replicate (4 - length pages) 0; count = length pages }

-- the step of each instruction
unfoldable pub trace_of : List Instr → List Place → List Step
trace_of instrs places = map (λ p. step_for places p.0 p.1) (enumerate_from 0 instrs)
