-- Each step makes what is still to come smaller.
use Rattle.std.proofs.Common.{◌≡◌, ◌≢◌, ◌≤◌, ◌<◌, ◌+◌, ◌-◌, ◌∙◌, ℕ, zero, suc, Bool, true, false, cond, List, [], ◌∷◌, length, drop, Option, None, Some, refl, sym, ap, subst, slice_get, nat_eq, arith}
use Rattle.std.proofs.lemmas.Bool.{eqb-true, eqb-false}
use Rattle.mage_instr.specs.declared.directive.Directive.{Directive}
use Rattle.mage_verify.specs.Parts.{WorkerPart}
use Rattle.mage_verify.specs.Runs.{AreVerified}
use Rattle.mage_verified_runs.proofs.Orderliness.{verified_is_orderly}
use Rattle.mage_engine.specs.Ready.{wires_of}
use Rattle.mage_progress.specs.Stands.{Stand, Held, directives_in, next_in, HasEnded, stand_after, GoesOn, IsReached, wires_in, left_for, left_below, left_of}
use Rattle.mage_progress.proofs.Tracking.{FitsAt, tracks_reached}
use Rattle.mage_progress.proofs.Stuck.{program_of}

-- the directive at a place, and those behind it
wires_at : (directives : List Directive) (place : ℕ) (x : Directive) → slice_get directives place ≡ Some x →
    wires_in (drop place directives) ≡ wires_of (Some x) + wires_in (drop (suc place) directives)
wires_at [] zero x e = absurd cc
wires_at [] (suc place) x e = absurd cc
wires_at (y ∷ directives) zero x e = let same : Some y ≡ Some x = e in ap (λ (o : Option Directive). wires_of o + wires_in directives) same
wires_at (y ∷ directives) (suc place) x e = wires_at directives place x e

module _ (directives : List Directive) (at : Stand) where
  abbrev to_come : ℕ
  to_come = wires_in (drop at.place directives)

  ends_once : (b : Bool) → at.finished ≡ b → (HasEnded None at → ⊥) → to_come - at.wire + 0 < to_come - at.wire + cond b 0 1
  ends_once true e runs = absurd (runs (record { past = refl; finished = e }))
  ends_once false e runs = omega arith

  one_less : (x : Directive) → slice_get directives at.place ≡ Some x → at.wire < wires_of (Some x) → (b : Bool) →
      nat_eq (suc at.wire) (wires_of (Some x)) ≡ b →
      wires_in (drop (cond b (suc at.place) at.place) directives) - cond b 0 (suc at.wire) + 1 < to_come - at.wire + 1
  one_less x here less true e =
      let all = wires_at directives at.place x here in
      let last = eqb-true (suc at.wire) (wires_of (Some x)) e in
      omega (arith, all, last, less)
  one_less x here less false e =
      let all = wires_at directives at.place x here in
      let off = eqb-false (suc at.wire) (wires_of (Some x)) e in
      omega (arith, all, off, less)

  step_less : (o : Option Directive) → slice_get directives at.place ≡ o → (HasEnded o at → ⊥) → FitsAt o at →
      left_for directives (stand_after o at) < left_for directives at
  step_less None here runs fits = ends_once at.finished refl runs
  step_less (Some x) here runs fits =
      subst (λ (b : Bool). left_for directives (stand_after (Some x) at) < to_come - at.wire + cond b 0 1) (sym fits.0)
      (one_less x here fits.1 (nat_eq (suc at.wire) (wires_of (Some x))) refl)

-- ---- all workers

module _ (parts : List WorkerPart) (stands later : ℕ → Stand) (worker : ℕ)
    (others : (other : ℕ) → other < length parts → worker ≢ other → later other ≡ stands other) where
  same_below : (count : ℕ) → count ≤ length parts → count ≤ worker → left_below parts later count ≡ left_below parts stands count
  same_below zero within below = refl
  same_below (suc count) within below =
      let same = others count (omega (arith, within)) (λ e. omega (arith, below, e)) in
      ap (λ (n : ℕ). n + left_for (directives_in parts count) (later count)) (same_below count (omega (arith, within)) (omega (arith, below)))
      ∙ ap (λ (at : Stand). left_below parts stands count + left_for (directives_in parts count) at) same

  less_below : left_for (directives_in parts worker) (later worker) < left_for (directives_in parts worker) (stands worker) →
      (count : ℕ) → count ≤ length parts → worker < count → left_below parts later count < left_below parts stands count
  less_below less zero within inside = absurd (omega (arith, inside))
  less_below less (suc count) within inside = go (nat_eq worker count) refl (λ past. less_below less count (omega (arith, within)) past)
    where
      go : (b : Bool) → nat_eq worker count ≡ b → (worker < count → left_below parts later count < left_below parts stands count) →
          left_below parts later count + left_for (directives_in parts count) (later count)
          < left_below parts stands count + left_for (directives_in parts count) (stands count)
      go true e rest =
          let here = eqb-true worker count e in
          let before = same_below count (omega (arith, within)) (omega (arith, here)) in
          let smaller : left_for (directives_in parts count) (later count) < left_for (directives_in parts count) (stands count) =
          subst (λ (k : ℕ). left_for (directives_in parts k) (later k) < left_for (directives_in parts k) (stands k)) here less in
          omega (arith, before, smaller)
      go false e rest =
          let off = eqb-false worker count e in
          let before = rest (omega (arith, inside, off)) in
          let same = ap (λ (at : Stand). left_for (directives_in parts count) at) (others count (omega (arith, within)) off) in
          omega (arith, before, same)

same_all : (parts : List WorkerPart) (stands others : ℕ → Stand) →
    ((worker : ℕ) → worker < length parts → others worker ≡ stands worker) → (count : ℕ) → count ≤ length parts →
    left_below parts others count ≡ left_below parts stands count
same_all parts stands others same zero within = refl
same_all parts stands others same (suc count) within =
    ap (λ (n : ℕ). n + left_for (directives_in parts count) (others count)) (same_all parts stands others same count (omega (arith, within)))
    ∙ ap (λ (at : Stand). left_below parts stands count + left_for (directives_in parts count) at) (same count (omega (arith, within)))

pub left_same : (parts : List WorkerPart) (stands others : ℕ → Stand) →
    ((worker : ℕ) → worker < length parts → others worker ≡ stands worker) → left_of parts others ≡ left_of parts stands
left_same parts stands others same = same_all parts stands others same (length parts) (omega arith)

pub step_shrinks : (parts : List WorkerPart) (stands later : ℕ → Stand) (held left : Held) (worker : ℕ) → AreVerified parts →
    IsReached parts stands held → worker < length parts → GoesOn parts worker stands held later left → left_of parts later < left_of parts stands
step_shrinks parts stands later held left worker verified reached inside on =
    let p = program_of parts verified in
    let plan = verified.whole.0 in
    let tracks = tracks_reached parts plan p.fine (verified_is_orderly plan p.none) p.count p.are stands held reached in
    less_below parts stands later worker on.others
    (subst (λ (at : Stand). left_for (directives_in parts worker) at < left_for (directives_in parts worker) (stands worker)) (sym on.stand)
    (step_less (directives_in parts worker) (stands worker) (next_in parts stands worker) refl on.runs (tracks.fits worker inside)))
    (length parts) (omega arith) inside
