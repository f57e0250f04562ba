-- Wires that are freed, offset by offset.
use Rattle.std.proofs.Common.{◌≡◌, ◌+◌, ◌-◌, ◌<◌, ◌≤◌, ℕ, Bool, true, false, cond, List, Option, Some, None, refl, sym, ◌∙◌, ap, eqb, ltb, ⊎_elim, arith}
use Rattle.std.proofs.lemmas.Bool.{cases_eq, cases_lt, ltb-true, lt-ltb, le-ltb, eq-eqb, ne_eqb, and_left, and_right}
use mathlib.Core.Path.{fun_ext}
use Rattle.mage_instr.specs.declared.instr.Instr.{Instr}
use Rattle.std.specs.Prelude.{option_map}
use Rattle.std.specs.Ordering.{is_eq, nat_cmp}
use Rattle.std.specs.declared.cmp.Ordering.TheVariants.{Less, Equal, Greater}
use Rattle.std.specs.BTreeMap.{BTreeMap, Updates, get}
use Rattle.mage_carry.specs.declared.held.Held.{Held}
use Rattle.mage_carry.specs.State.{Content, got}
use Rattle.mage_carry.specs.Steps.{width_of, overlap, unless_overlaps, freed, placed}
use Rattle.mage_carry.specs.Views.{content_of}

-- what overlaps nothing stays
stays : (instrs : List Instr) (other count offset : ℕ) (o : Option ℕ) → ((v : ℕ) → overlap offset (width_of instrs v) other count ≡ false) → unless_overlaps instrs other count offset o ≡ o
stays instrs other count offset None apart = refl
stays instrs other count offset (Some v) apart = rw (apart v) refl

-- what ends before the wires stays
stays_before : (instrs : List Instr) (other count : ℕ) (content : Content) (q : ℕ) → ((v : ℕ) → width_of instrs v ≤ 128) → q < other - 127 → freed instrs other count content q ≡ content q
stays_before instrs other count content q narrow before =
    stays instrs other count q (content q) (λ v.
    let narrow_v = narrow v in
    and_right (ltb q (other + count)) (ltb other (q + width_of instrs v)) (le-ltb other (q + width_of instrs v) (omega (arith, narrow_v, before))))

-- what begins behind them stays
stays_behind : (instrs : List Instr) (other count : ℕ) (content : Content) (q : ℕ) → other + count ≤ q → freed instrs other count content q ≡ content q
stays_behind instrs other count content q behind =
    stays instrs other count q (content q) (λ v.
    and_left (ltb q (other + count)) (ltb other (q + width_of instrs v)) (le-ltb q (other + count) behind))

-- `g` below k, and `f` from there on
abbrev pub joined : (f g : Content) → (k q : ℕ) → Option ℕ
joined f g k q = cond (ltb q k) (g q) (f q)

module _ (instrs : List Instr) (other count : ℕ) (content : Content) where
  -- at first nothing is freed
  pub freed_none : (k : ℕ) → ((v : ℕ) → width_of instrs v ≤ 128) → k ≤ other - 127 → (q : ℕ) → content q ≡ joined content (freed instrs other count content) k q
  freed_none k narrow low q =
      ⊎_elim (λ below. rw (lt-ltb q k below) (sym (stays_before instrs other count content q narrow (omega arith))))
      (λ above. rw (le-ltb q k above) refl) (cases_lt q k)

  -- one offset more
  pub freed_more : (old new : Content) (k : ℕ) → ((q : ℕ) → old q ≡ joined content (freed instrs other count content) k q) → ((q : ℕ) → new q ≡ cond (eqb k q) (unless_overlaps instrs other count k (old k)) (old q)) → (q : ℕ) → new q ≡ joined content (freed instrs other count content) (k + 1) q
  freed_more old new k kept now q =
      now q
      ∙ ⊎_elim (λ e. here e) (λ ne. ⊎_elim (λ below. before ne below) (λ above. behind ne above) (cases_lt q k)) (cases_eq k q)
    where
      at : old k ≡ content k
      at = kept k ∙ rw (le-ltb k k (omega arith)) refl

      here : k ≡ q → cond (eqb k q) (unless_overlaps instrs other count k (old k)) (old q) ≡ joined content (freed instrs other count content) (k + 1) q
      here e = rw (eq-eqb k q e, lt-ltb q (k + 1) (omega arith)) (ap (unless_overlaps instrs other count k) at ∙ ap (λ n. freed instrs other count content n) e)

      before : (k ≡ q → ⊥) → q < k → cond (eqb k q) (unless_overlaps instrs other count k (old k)) (old q) ≡ joined content (freed instrs other count content) (k + 1) q
      before ne below = rw (ne_eqb k q ne, lt-ltb q (k + 1) (omega arith)) (kept q ∙ rw (lt-ltb q k below) refl)

      behind : (k ≡ q → ⊥) → k ≤ q → cond (eqb k q) (unless_overlaps instrs other count k (old k)) (old q) ≡ joined content (freed instrs other count content) (k + 1) q
      behind ne above = rw (ne_eqb k q ne, le-ltb q (k + 1) (omega arith)) (kept q ∙ rw (le-ltb q k above) refl)

  -- at the end all is freed
  pub freed_all : (new : Content) (k : ℕ) → other + count ≤ k → ((q : ℕ) → new q ≡ joined content (freed instrs other count content) k q) → new ≡ freed instrs other count content
  freed_all new k past kept = fun_ext (λ q.
      kept q ∙ ⊎_elim (λ below. rw (lt-ltb q k below) refl) (λ above. rw (le-ltb q k above) (sym (stays_behind instrs other count content q (omega arith)))) (cases_lt q k))

-- The maps of the code, by their keys.

equal_alone : (less same : Bool) → (less ≡ true → same ≡ false) → is_eq (cond less Less (cond same Equal Greater)) ≡ same
equal_alone true same h = sym (h refl)
equal_alone false true h = refl
equal_alone false false h = refl

is_eq-nat_cmp : (k q : ℕ) → is_eq (nat_cmp k q) ≡ eqb k q
is_eq-nat_cmp k q = equal_alone (ltb k q) (eqb k q) (λ less. ne_eqb k q (λ e. omega (arith, ltb-true k q less)))

-- what an insertion makes of a map
pub inserted : {X : Type 0} (before after : BTreeMap ℕ X) (k : ℕ) (x : X) → Updates nat_cmp before after k (Some x) → (q : ℕ) → get nat_cmp after q ≡ cond (eqb k q) (Some x) (get nat_cmp before q)
inserted before after k x updates q = updates.0 q ∙ ap (λ b. cond b (Some x) (get nat_cmp before q)) (is_eq-nat_cmp k q)

-- a variable that is put in its place
pub placed_is : (instrs : List Instr) (offset at width variable : ℕ) (start freed_then after : Held) → at ≡ offset → content_of freed_then ≡ freed instrs offset width (content_of start) → Updates nat_cmp freed_then.variables after.variables at (Some variable) → content_of after ≡ placed instrs offset width variable (content_of start)
placed_is instrs offset at width variable start freed_then after e gone updates =
    fun_ext (λ q.
    inserted freed_then.variables after.variables at variable updates q
    ∙ ap (λ (content : Content). cond (eqb at q) (Some variable) (content q)) gone
    ∙ ap (λ n. cond (eqb n q) (Some variable) (freed instrs offset width (content_of start) q)) e)

-- a page that got what was written
pub got_is : (before after : BTreeMap ℕ Held) (page : ℕ) (held : Held) → Updates nat_cmp before after page (Some held) → (λ q. option_map content_of (get nat_cmp after q)) ≡ got page (content_of held) (λ q. option_map content_of (get nat_cmp before q))
got_is before after page held updates =
    fun_ext (λ q. ap (option_map content_of) (inserted before after page held updates q) ∙ mapped (eqb page q) (get nat_cmp before q))
  where
    mapped : (b : Bool) (o : Option Held) → option_map content_of (cond b (Some held) o) ≡ cond b (Some (content_of held)) (option_map content_of o)
    mapped true o = refl
    mapped false o = refl
