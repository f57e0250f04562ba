-- What is kept of all pages.
use Rattle.std.specs.Prelude.{◌≡◌, ◌<◌, ◌+◌, ◌*◌, ◌/◌, ◌==◌, ◌&&◌, ◌||◌, not, ◌⊎◌, ℕ, Bool, true, false, List, length, slice_get, slice_index}
use Rattle.std.specs.List.{list_any}
use Rattle.std.specs.Option.{option_map_or, ForSome}
use Rattle.std.specs.Ordering.{nat_cmp}
use Rattle.std.specs.BTreeSet.{BTreeSet, contains}
use Rattle.mage_instr.specs.declared.instr.Place.{Place}
use Rattle.mage_instr.specs.Opcodes.{greatest_width}
use Rattle.mage_place.specs.declared.page.Page.{Page}
use Rattle.mage_place.specs.declared.pool.Pool.{Pool}
use Rattle.mage_place.specs.Places.{place_of}
use Rattle.mage_place.specs.Pages.{is_taken_on, is_used, has_room, IsPage}

-- whether place k of page q is taken
abbrev pub is_taken : List Page → (q k : ℕ) → Bool
is_taken pages q k = option_map_or (λ p. is_taken_on p k) (slice_get pages q) false

-- the class of page q
abbrev pub class_at : List Page → (q : ℕ) → ℕ
class_at pages q = option_map_or (λ p. p.class) (slice_get pages q) 0

-- whether a page has the class c, a place that is taken and a free one
abbrev pub is_open_page : (wires c : ℕ) → Page → Bool
is_open_page wires c p = (p.class == c) && (is_used p && has_room wires p)

abbrev pub is_open : (wires : ℕ) → List Page → (c q : ℕ) → Bool
is_open wires pages c q = option_map_or (is_open_page wires c) (slice_get pages q) false

-- whether page q is kept among the open ones of the class c
abbrev pub is_listed : List (BTreeSet ℕ) → (c q : ℕ) → Bool
is_listed open_pages c q = option_map_or (λ s. contains nat_cmp s q) (slice_get open_pages c) false

-- the pages are kept right
abbrev pub ArePages : (wires : ℕ) → List Page → Type 0
ArePages wires pages = (q : ℕ) → ForSome (slice_get pages q) (IsPage wires)

-- how many lists of open pages there are: one for each class, from 0 to the greatest width
abbrev pub list_count : ℕ
list_count = greatest_width + 1

-- the pages are kept right, and so are the lists of the open ones
pub record IsPool (pool : Pool) : Type 0 where
  pub classes : length pool.open.items ≡ list_count
  pub pages : ArePages pool.wires pool.pages.items
  pub open_pages : (c q : ℕ) → c < list_count
      → is_listed pool.open.items c q ≡ is_open pool.wires pool.pages.items c q

-- the same, but that page r may be listed wrong
pub record IsPoolBut (pool : Pool) (r : ℕ) : Type 0 where
  pub classes : length pool.open.items ≡ list_count
  pub pages : ArePages pool.wires pool.pages.items
  pub open_pages : (c q : ℕ) → c < list_count → ((c == class_at pool.pages.items r) && (q == r)) ≡ false
      → is_listed pool.open.items c q ≡ is_open pool.wires pool.pages.items c q

-- place k of the page r, whose class is c, is taken in the new pages; all else is as in the old ones
pub record TakesPlace (old new : List Page) (wires c r k : ℕ) : Type 0 where
  pub within : k < wires / c
  pub class_of_page : class_at new r ≡ c
  pub classes : (q : ℕ) → q < length old → class_at new q ≡ class_at old q
  pub taken_places : (q j : ℕ) → is_taken new q j ≡ (is_taken old q j || ((q == r) && (j == k)))

-- r is the open page of the class c with the highest number, and k its lowest free place
pub record IsReused (old new : List Page) (wires c r k : ℕ) : Type 0 where
  pub count : length new ≡ length old
  pub open_page : is_open wires old c r ≡ true
  pub highest : (q : ℕ) → r < q → is_open wires old c q ≡ false
  pub free : is_taken old r k ≡ false
  pub lowest : (j : ℕ) → j < k → is_taken old r j ≡ true

-- no page of the class c is open, and r is a new page
pub record IsAdded (old new : List Page) (wires c r k : ℕ) : Type 0 where
  pub count : length new ≡ length old + 1
  pub none_open : (q : ℕ) → is_open wires old c q ≡ false
  pub page : r ≡ length old
  pub first : k ≡ 0

-- the lowest free place of page r, whose class is c
abbrev pub IsOfPage : (old new : List Page) → (wires c r : ℕ) → Place → Type 0
IsOfPage old new wires c r place = (k : ℕ) × (place.page ≡ r) × (place.offset ≡ k * c)
    × (length new ≡ length old) × TakesPlace old new wires c r k × (is_taken old r k ≡ false)
    × ((j : ℕ) → j < k → is_taken old r j ≡ true)

-- a value of the class c gets this place
abbrev pub Gives : (old new : List Page) → (wires c : ℕ) → Place → Type 0
Gives old new wires c place = (k : ℕ) × (place.offset ≡ k * c) × TakesPlace old new wires c place.page k
    × (IsReused old new wires c place.page k ⊎ IsAdded old new wires c place.page k)

-- whether this is place j of page q
abbrev pub is_place : List Page → Place → (q j : ℕ) → Bool
is_place pages place q j = (place.page == q) && (place.offset == j * class_at pages q)

-- it is a place of one of the pages
abbrev pub IsOn : List Page → Place → Type 0
IsOn pages place = (place.page < length pages) × (k : ℕ) × (place.offset ≡ k * class_at pages place.page)

-- the place is free in the new pages; all else is as in the old ones
pub record Frees (old new : List Page) (place : Place) : Type 0 where
  pub count : length new ≡ length old
  pub classes : (q : ℕ) → class_at new q ≡ class_at old q
  pub taken_places : (q j : ℕ) → is_taken new q j ≡ (is_taken old q j && not (is_place old place q j))

-- whether value v ends at instruction t and this is its place
abbrev pub ends_at : List Page → List Place → (last : List ℕ) → (t q j v : ℕ) → Bool
ends_at pages places last t q j v = (slice_index last v == t) && is_place pages (place_of places v) q j

-- the places of those of the values that end at instruction t are free in the new pages; all else is as in the old ones
pub record FreesEnded (old new : List Page) (places : List Place) (last : List ℕ) (t : ℕ)
    (values : List ℕ) : Type 0 where
  pub count : length new ≡ length old
  pub classes : (q : ℕ) → class_at new q ≡ class_at old q
  pub taken_places : (q j : ℕ) → is_taken new q j
      ≡ (is_taken old q j && not (list_any (ends_at old places last t q j) values))
