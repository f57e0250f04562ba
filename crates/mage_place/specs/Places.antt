-- The places of values in pages. Page q has `page` wires; a page of the class c has page / c places, and place k
-- begins at wire k * c.
use Rattle.std.specs.Prelude.{◌≡◌, ◌<◌, ◌+◌, ◌*◌, ◌/◌, ℕ, List, [], ◌∷◌, max, length, take, slice_get, slice_index_or, IsTrue, IfSome, false, ◌⊎◌}
use Rattle.mage_instr.specs.declared.instr.Instr.{Instr}
use Rattle.mage_instr.specs.declared.instr.Place.{Place}
use Rattle.mage_instr.specs.Opcodes.{has_result}
use Rattle.mage_place.specs.Live.{IsLive, HasClass, class_of_result}

-- the place of an instruction without a result
abbrev pub nowhere : Place
nowhere = record { page = 0; offset = 0 }

-- the place of instruction v
abbrev pub place_of : List Place → ℕ → Place
place_of places v = slice_index_or places v nowhere

-- One more than the greatest page so far. An instruction without a result counts with page 0: it takes a value, so
-- page 0 stands already.
abbrev pub next_page : List Place → ℕ
next_page [] = 0
next_page (place ∷ places) = max (place.page + 1) (next_page places)

-- Below, `before` has the places of the instructions before one of them.
module _ (instrs : List Instr) (page : ℕ) (before : List Place) where
  -- the value of v is live, and stands on page q
  abbrev pub LivesOn : (v q : ℕ) → Type 0
  LivesOn v q = IsLive instrs (length before) v × ((place_of before v).page ≡ q)

  -- place k of page q, whose class is c, is free: no live value stands there
  abbrev pub IsFree : (q c k : ℕ) → Type 0
  IsFree q c k = (k < page / c) × ((v : ℕ) → LivesOn v q → ¬ ((place_of before v).offset ≡ k * c))

  -- page q has the class c, a live value and a free place
  abbrev pub IsOpen : (q c : ℕ) → Type 0
  IsOpen q c = ((v : ℕ) × LivesOn v q × HasClass instrs v c) × ((k : ℕ) × IsFree q c k)

  -- q is the open page of the class c with the highest number, and k its lowest free place
  pub record IsFound (q c k : ℕ) : Type 0 where
    pub open_page : IsOpen q c
    pub highest : (r : ℕ) → q < r → ¬ IsOpen r c
    pub free : IsFree q c k
    pub lowest : (j : ℕ) → j < k → ¬ IsFree q c j

  -- A value of the class c goes to the lowest free place of the highest open page. Where no page is open, a new
  -- page is made with the next number, and its place 0 is taken.
  abbrev pub IsPlaceIn : (c : ℕ) → Place → Type 0
  IsPlaceIn c place = ((k : ℕ) × IsFound place.page c k × (place.offset ≡ k * c))
      ⊎ (((q : ℕ) → ¬ IsOpen q c) × (place.page ≡ next_page before) × (place.offset ≡ 0))

  -- the place of an instruction: of its result, or page 0 and wire 0 where it has none
  pub record IsPlaceOf (i : Instr) (place : Place) : Type 0 where
    pub with_result : IsTrue (has_result i.op) → IsPlaceIn (class_of_result i) place
    pub without : has_result i.op ≡ false → place ≡ nowhere

-- each instruction has its place, after those before it
pub record ArePlaces (instrs : List Instr) (page : ℕ) (places : List Place) : Type 0 where
  pub count : length places ≡ length instrs
  pub each : (t : ℕ) → IfSome (slice_get instrs t)
      (λ i. IsPlaceOf instrs page (take t places) i (place_of places t))
