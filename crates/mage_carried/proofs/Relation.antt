-- What a worker of the core holds, as the walk of its directives says it.
use Rattle.std.proofs.Common.{◌≡◌, ◌≤◌, ◌<◌, ◌+◌, ◌-◌, ◌*◌, ℕ, zero, suc, Bool, true, false, cond, List, [], ◌∷◌, ◌++◌, length, get_or, nat_eq, nat_lt, set, Option, Some, None, refl, sym, ap, ap₂, ◌∙◌, subst, arith, ◌&&◌, ◌⊎◌, inl, inr}
use Rattle.std.proofs.lemmas.Bool.{eqb-true, eq-eqb}
use Rattle.std.proofs.lemmas.Bool.Decides.{nat_tests}
use Rattle.std.specs.List.{flat_map}
use Rattle.std.proofs.lemmas.List.{get_or-set_same, get_or-set_other, length-append}
use Rattle.mage_instr.specs.declared.instr.Instr.{Instr}
use Rattle.mage_network.specs.Slots as core
use Rattle.mage_driver.specs.Rules.{Rules, AreLawful}
use Rattle.mage_steps.specs.Frames.{with_piece}
use Rattle.mage_carry.specs.State as walk
use Rattle.mage_carry.specs.Steps.{width_of, overlap, unless_overlaps, freed, placed}
use Rattle.mage_carried.specs.Wires.{AreWires}
use Rattle.mage_carried.proofs.Pieces.{has_written, written_long, has_before, has_behind}
use Rattle.mage_carried.proofs.Reading.{HasWires, packed_long}

-- the value of a variable
abbrev pub value_of : {W : Type 0} → List (List W) → ℕ → List W
value_of values v = get_or values v []

-- what a frame and a slot have in a walk; past the last, nothing
abbrev pub frame_in : walk.State → ℕ → walk.Content
frame_in w f = get_or w.frames f walk.nothing

abbrev pub slot_in : walk.State → ℕ → walk.Slot
slot_in w s = get_or w.slots s walk.Idle

-- whether a slot writes the page
abbrev pub writes : (page : ℕ) → walk.Slot → Bool
writes page walk.Idle = false
writes page (walk.Reads other) = false
writes page (walk.Writes other content) = nat_eq page other

module _ {W : Type 0} (rules : Rules W) (page : ℕ) (instrs : List Instr) where
  -- a variable is whole: it is defined, and it has its wires
  pub record IsWhole (values : List (List W)) (v : ℕ) : Type 0 where
    pub defined : v < length values
    pub long : length (value_of values v) ≡ width_of instrs v
    pub wires : AreWires rules (value_of values v)

  -- a page's bytes hold what stands there
  pub record Holds (values : List (List W)) (bytes : List ℕ) (content : walk.Content) : Type 0 where
    pub long : length bytes ≡ page * rules.wire_bytes
    pub each : (offset v : ℕ) → content offset ≡ Some v → IsWhole values v × HasWires rules bytes offset (value_of values v)

  -- what a slot has, as the walk says it
  abbrev pub SlotHolds : (values : List (List W)) → (walked : ℕ → Option walk.Content) → (pages : ℕ → List ℕ) →
      walk.Slot → core.Slot (List ℕ) → Type 0
  SlotHolds values walked pages walk.Idle core.Idle = Unit {0}
  SlotHolds values walked pages (walk.Reads p) (core.Served (core.Reads q) bytes) =
      (p ≡ q) × ((content : walk.Content) × (walked p ≡ Some content) × Holds values bytes content)
  SlotHolds values walked pages (walk.Writes p content) (core.Served (core.Writes q sent) bytes) =
      (p ≡ q) × (pages p ≡ sent) × Holds values sent content
  SlotHolds values walked pages _ _ = ⊥

  -- a worker of the core and the state of the walk
  pub record Follows (values : List (List W)) (w : walk.State) (bank : ℕ → List ℕ)
      (slots : ℕ → core.Slot (List ℕ)) (pages : ℕ → List ℕ) : Type 0 where
    pub frames : (f : ℕ) → Holds values (bank f) (frame_in w f)
    pub each : (s : ℕ) → SlotHolds values w.pages pages (slot_in w s) (slots s)
    pub stored : (p : ℕ) (content : walk.Content) → w.pages p ≡ Some content →
        ((s : ℕ) → writes p (slot_in w s) ≡ false) → Holds values (pages p) content
    pub differ : (i j p : ℕ) → walk.names p (slot_in w i) ≡ true → walk.names p (slot_in w j) ≡ true → i ≡ j
    pub next : w.next ≡ length values

-- a list that got one more
pub value_more : {W : Type 0} (values : List (List W)) (wires : List W) (v : ℕ) → v < length values →
    value_of (values ++ wires ∷ []) v ≡ value_of values v
value_more [] wires v h = absurd (omega arith)
value_more (x ∷ values) wires zero h = refl
value_more (x ∷ values) wires (suc v) h = value_more values wires v (let e : suc v < suc (length values) = h in omega arith)

pub value_last : {W : Type 0} (values : List (List W)) (wires : List W) →
    value_of (values ++ wires ∷ []) (length values) ≡ wires
value_last [] wires = refl
value_last (x ∷ values) wires = value_last values wires

pub set_at : {X : Type 0} (xs : List X) (i j : ℕ) (y d : X) → i < length xs →
    get_or (set xs i y) j d ≡ cond (nat_eq i j) y (get_or xs j d)
set_at {X} xs i j y d within = go (nat_eq i j) refl
  where
    go : (b : Bool) → nat_eq i j ≡ b → get_or (set xs i y) j d ≡ cond b y (get_or xs j d)
    go true e = ap (λ k. get_or (set xs i y) k d) (sym (eqb-true i j e)) ∙ get_or-set_same xs i y d within
    go false e = get_or-set_other xs i j y d
        (λ same. let b : true ≡ false = sym (eq-eqb i j (sym same)) ∙ e in absurd cc)

module _ {W : Type 0} (rules : Rules W) (lawful : AreLawful rules) (page : ℕ) (instrs : List Instr) where
  whole_more : (values : List (List W)) (wires : List W) (v : ℕ) → IsWhole rules page instrs values v →
      IsWhole rules page instrs (values ++ wires ∷ []) v
  whole_more values wires v h = record {
    defined = (let e = length-append values (wires ∷ []) in let d = h.defined in omega arith);
    long = ap length (value_more values wires v h.defined) ∙ h.long;
    wires = subst (AreWires rules) (sym (value_more values wires v h.defined)) h.wires;
  }

  pub holds_more : (values : List (List W)) (wires : List W) (bytes : List ℕ) (content : walk.Content) →
      Holds rules page instrs values bytes content → Holds rules page instrs (values ++ wires ∷ []) bytes content
  holds_more values wires bytes content h = record {
    long = h.long;
    each = λ offset v e. let one = h.each offset v e in (
      whole_more values wires v one.0,
      subst (HasWires rules bytes offset) (sym (value_more values wires v one.0.defined)) one.1,
    );
  }

  pub holds_nothing : (values : List (List W)) (bytes : List ℕ) → length bytes ≡ page * rules.wire_bytes →
      Holds rules page instrs values bytes walk.nothing
  holds_nothing values bytes long = record { long = long; each = λ offset v e. absurd cc }

  -- where two stretches of wires have none in common, one lies before the other
  apart : (offset width other count : ℕ) → overlap offset width other count ≡ false →
      (offset < other + count → other < offset + width → ⊥)
  apart offset width other count e h k =
      let t : overlap offset width other count ≡ true = (let a : nat_lt offset (other + count) ≡ true = grind (arith, nat_tests) in
      let b : nat_lt other (offset + width) ≡ true = grind (arith, nat_tests) in
      ap₂ (λ x y. x && y) a b) in
      let c : true ≡ false = sym t ∙ e in absurd cc

  -- one ends before the other begins
  one_first : (a b c d : ℕ) → (a < c + d → c < a + b → ⊥) → (a + b ≤ c) ⊎ (c + d ≤ a)
  one_first a b c d h = go (nat_lt a (c + d)) refl
    where
      go : (t : Bool) → nat_lt a (c + d) ≡ t → (a + b ≤ c) ⊎ (c + d ≤ a)
      go false e = inr (grind (arith, nat_tests))
      go true e = inl (go' (nat_lt c (a + b)) refl)
        where
          go' : (u : Bool) → nat_lt c (a + b) ≡ u → a + b ≤ c
          go' false e' = grind (arith, nat_tests)
          go' true e' = absurd (h (grind (arith, nat_tests)) (grind (arith, nat_tests)))

  pub times_le : (a b c k : ℕ) → a + b ≤ c → a * k + b * k ≤ c * k
  times_le a b c k h =
      let d : c ≡ a + b + (c - (a + b)) = omega arith in
      let e : c * k ≡ a * k + b * k + (c - (a + b)) * k = ap (λ n. n * k) d ∙ (let f : (a + b + (c - (a + b))) * k ≡ a * k + b * k + (c - (a + b)) * k = omega arith in f) in
      omega arith

  kept_from : (content : walk.Content) (values : List (List W)) (bytes : List ℕ) (offset width other v : ℕ) (o : Option ℕ) →
      content other ≡ o → unless_overlaps instrs offset width other o ≡ Some v →
      (content other ≡ Some v) × (overlap other (width_of instrs v) offset width ≡ false)
  kept_from content values bytes offset width other v None e h = absurd cc
  kept_from content values bytes offset width other v (Some u) e h = go (overlap other (width_of instrs u) offset width) refl h
    where
      go : (t : Bool) → overlap other (width_of instrs u) offset width ≡ t → cond t None (Some u) ≡ Some v →
          (content other ≡ Some v) × (overlap other (width_of instrs v) offset width ≡ false)
      go true e' h' = absurd cc
      go false e' h' =
          let same : u ≡ v = (let s : Some u ≡ Some v = h' in cc) in
          (e ∙ ap Some same, subst (λ x. overlap other (width_of instrs x) offset width ≡ false) same e')

  -- a result is put at a spot of a frame
  pub holds_placed : (values : List (List W)) (wires : List W) (bytes : List ℕ) (content : walk.Content) (offset width : ℕ) →
      Holds rules page instrs values bytes content → AreWires rules wires → length wires ≡ width →
      width_of instrs (length values) ≡ width → offset + width ≤ page →
      Holds rules page instrs (values ++ wires ∷ [])
      (with_piece bytes (offset * rules.wire_bytes) (flat_map rules.pack wires))
      (placed instrs offset width (length values) content)
  holds_placed values wires bytes content offset width h are long own fits = record {
    long = written_long bytes (offset * rules.wire_bytes) (flat_map rules.pack wires) room ∙ h.long;
    each = λ other v e. go other v (nat_eq offset other) refl e;
  }
    where
      size : length (flat_map rules.pack wires) ≡ width * rules.wire_bytes
      size = packed_long rules lawful wires are ∙ ap (λ n. n * rules.wire_bytes) long

      room : offset * rules.wire_bytes + length (flat_map rules.pack wires) ≤ length bytes
      room = let t = times_le offset width page rules.wire_bytes fits in
          let s = size in let l = h.long in omega arith

      old : (other v : ℕ) → content other ≡ Some v → overlap other (width_of instrs v) offset width ≡ false →
          IsWhole rules page instrs (values ++ wires ∷ []) v
          × HasWires rules (with_piece bytes (offset * rules.wire_bytes) (flat_map rules.pack wires)) other
          (value_of (values ++ wires ∷ []) v)
      old other v e clear =
          let one = h.each other v e in (
            whole_more values wires v one.0,
            subst (HasWires rules (with_piece bytes (offset * rules.wire_bytes) (flat_map rules.pack wires)) other)
                (sym (value_more values wires v one.0.defined))
                (beside (one_first other (width_of instrs v) offset width (apart other (width_of instrs v) offset width clear)) one),
          )
        where
          beside : ((other + width_of instrs v ≤ offset) ⊎ (offset + width ≤ other)) →
              (IsWhole rules page instrs values v × HasWires rules bytes other (value_of values v)) →
              HasWires rules (with_piece bytes (offset * rules.wire_bytes) (flat_map rules.pack wires)) other (value_of values v)
          beside (inl first) one = has_before bytes (offset * rules.wire_bytes) (flat_map rules.pack wires)
              (other * rules.wire_bytes) (flat_map rules.pack (value_of values v)) one.1
              (let t = times_le other (width_of instrs v) offset rules.wire_bytes first in
              let s = packed_long rules lawful (value_of values v) one.0.wires ∙ ap (λ n. n * rules.wire_bytes) one.0.long in
              omega arith)
          beside (inr first) one = has_behind bytes (offset * rules.wire_bytes) (flat_map rules.pack wires)
              (other * rules.wire_bytes) (flat_map rules.pack (value_of values v)) one.1
              (let t = times_le offset width other rules.wire_bytes first in let s = size in omega arith)

      new : IsWhole rules page instrs (values ++ wires ∷ []) (length values)
          × HasWires rules (with_piece bytes (offset * rules.wire_bytes) (flat_map rules.pack wires)) offset
          (value_of (values ++ wires ∷ []) (length values))
      new = (
        record {
          defined = (let e = length-append values (wires ∷ []) in omega arith);
          long = ap length (value_last values wires) ∙ long ∙ sym own;
          wires = subst (AreWires rules) (sym (value_last values wires)) are;
        },
        subst (HasWires rules (with_piece bytes (offset * rules.wire_bytes) (flat_map rules.pack wires)) offset)
            (sym (value_last values wires))
            (has_written bytes (offset * rules.wire_bytes) (flat_map rules.pack wires) room),
      )

      go : (other v : ℕ) (b : Bool) → nat_eq offset other ≡ b →
          cond b (Some (length values)) (freed instrs offset width content other) ≡ Some v →
          IsWhole rules page instrs (values ++ wires ∷ []) v
          × HasWires rules (with_piece bytes (offset * rules.wire_bytes) (flat_map rules.pack wires)) other
          (value_of (values ++ wires ∷ []) v)
      go other v true e h' =
          let same : length values ≡ v = (let s : Some (length values) ≡ Some v = h' in cc) in
          subst (λ x. IsWhole rules page instrs (values ++ wires ∷ []) x
          × HasWires rules (with_piece bytes (offset * rules.wire_bytes) (flat_map rules.pack wires)) other
          (value_of (values ++ wires ∷ []) x)) same
          (subst (λ x. IsWhole rules page instrs (values ++ wires ∷ []) (length values)
          × HasWires rules (with_piece bytes (offset * rules.wire_bytes) (flat_map rules.pack wires)) x
          (value_of (values ++ wires ∷ []) (length values))) (eqb-true offset other e) new)
      go other v false e h' =
          let k = kept_from content values bytes offset width other v (content other) refl h' in old other v k.0 k.1
