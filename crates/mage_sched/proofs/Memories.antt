-- Which page is in memory, by the entries before.
use Rattle.std.proofs.Common.{◌≡◌, ◌&&◌, ◌||◌, ◌⊎◌, ℕ, List, [], ◌∷◌, Bool, true, false, not, nat_eq, Option, Some, None, inl, inr, refl, sym, ◌∙◌, ap}
use Rattle.std.proofs.lemmas.Bool.{ne_eqb, false≢true, eqb-true, eq-eqb, or_left, or_right, and_from, not_from_false, cases_eq, false_from_ne_true, or_cases, and_parts}
use Rattle.mage_instr.specs.declared.replaced.Replaced.{Replaced}
use Rattle.mage_instr.specs.declared.replaced.Replaced.TheVariants as entry
use Rattle.mage_sched.specs.Reads.{page_in, is_page}
use Rattle.mage_sched.specs.Rule.{in_memory, came_in}
use Rattle.mage_sched.specs.Issues.{put}
use Rattle.mage_sched.proofs.Tables.{put_at, put_off}

-- frames and pages agree
pub record AreInMemory (before : List Replaced) : Type 0 where
  pub inside : (frame page : ℕ) → page_in before frame ≡ Some page → in_memory before page ≡ true
  pub once : (frame other page : ℕ) → page_in before frame ≡ Some page → page_in before other ≡ Some page → frame ≡ other
  pub came : (page : ℕ) → in_memory before page ≡ true → came_in before page ≡ true

some_same : (p q : ℕ) → Some p ≡ Some q → p ≡ q
some_same p q e = cc

none_some : (p : ℕ) → None ≡ Some p → ⊥
none_some p e = cc

is_page-some : (o : Option ℕ) (page : ℕ) → is_page o page ≡ true → o ≡ Some page
is_page-some None page h = absurd (false≢true h)
is_page-some (Some other) page h = ap (λ (n : ℕ). Some n) (eqb-true other page h)

pub some-is_page : (o : Option ℕ) (page : ℕ) → o ≡ Some page → is_page o page ≡ true
some-is_page o page e = ap (λ (x : Option ℕ). is_page x page) e ∙ eq-eqb page page refl

pub nothing_in : AreInMemory []
nothing_in = record {
  inside = λ frame page h. absurd (none_some page h);
  once = λ frame other page h k. absurd (none_some page h);
  came = λ page h. absurd (false≢true h);
}

-- a frame takes a page that isn't in memory
module _ (before after : List Replaced) (frame page : ℕ) (was : AreInMemory before)
    (pages : (other : ℕ) → page_in after other ≡ put frame (Some page) (page_in before) other)
    (memory : (q : ℕ) → in_memory after q ≡ (nat_eq page q || (in_memory before q && not (is_page (page_in before frame) q))))
    (came : (q : ℕ) → came_in after q ≡ (nat_eq page q || came_in before q))
    (out : in_memory before page ≡ false) where
  own : (other q : ℕ) → frame ≡ other → page_in after other ≡ Some q → page ≡ q
  own other q e h = some_same page q (sym (put_at frame (Some page) (page_in before) other e) ∙ sym (pages other) ∙ h)

  its : (other q : ℕ) → (frame ≡ other → ⊥) → page_in after other ≡ Some q → page_in before other ≡ Some q
  its other q n h = sym (put_off frame (Some page) (page_in before) other n) ∙ sym (pages other) ∙ h

  inside_at : (other q : ℕ) → (frame ≡ other) ⊎ (frame ≡ other → ⊥) → page_in after other ≡ Some q → in_memory after q ≡ true
  inside_at other q (inl e) h = memory q ∙ or_left (nat_eq page q) (in_memory before q && not (is_page (page_in before frame) q)) (eq-eqb page q (own other q e h))
  inside_at other q (inr n) h =
      let here = its other q n h in
      memory q ∙ or_right (nat_eq page q) (in_memory before q && not (is_page (page_in before frame) q))
      (and_from (in_memory before q) (not (is_page (page_in before frame) q)) (was.inside other q here)
      (not_from_false (is_page (page_in before frame) q) (false_from_ne_true (is_page (page_in before frame) q) (λ t. n (was.once frame other q (is_page-some (page_in before frame) q t) here)))))

  gone : (other q : ℕ) → page ≡ q → page_in before other ≡ Some q → ⊥
  gone other q same h = false≢true (sym out ∙ ap (λ (n : ℕ). in_memory before n) same ∙ was.inside other q h)

  once_at : (one other q : ℕ) → (frame ≡ one) ⊎ (frame ≡ one → ⊥) → (frame ≡ other) ⊎ (frame ≡ other → ⊥)
      → page_in after one ≡ Some q → page_in after other ≡ Some q → one ≡ other
  once_at one other q (inl e) (inl f) h k = sym e ∙ f
  once_at one other q (inl e) (inr n) h k = absurd (gone other q (own one q e h) (its other q n k))
  once_at one other q (inr m) (inl f) h k = absurd (gone one q (own other q f k) (its one q m h))
  once_at one other q (inr m) (inr n) h k = was.once one other q (its one q m h) (its other q n k)

  came_at : (q : ℕ) → (nat_eq page q ≡ true) ⊎ ((in_memory before q && not (is_page (page_in before frame) q)) ≡ true) → came_in after q ≡ true
  came_at q (inl e) = came q ∙ or_left (nat_eq page q) (came_in before q) e
  came_at q (inr e) = came q ∙ or_right (nat_eq page q) (came_in before q) (was.came q (and_parts (in_memory before q) (not (is_page (page_in before frame) q)) e).0)

  pub memory_enters : AreInMemory after
  memory_enters = record {
    inside = λ other q h. inside_at other q (cases_eq frame other) h;
    once = λ one other q h k. once_at one other q (cases_eq frame one) (cases_eq frame other) h k;
    came = λ q h. came_at q (or_cases (nat_eq page q) (in_memory before q && not (is_page (page_in before frame) q)) (sym (memory q) ∙ h));
  }

pub memory_fresh : (before : List Replaced) (frame page : ℕ) → AreInMemory before → came_in before page ≡ false → AreInMemory (entry.Fresh frame page ∷ before)
memory_fresh before frame page was new =
    memory_enters before (entry.Fresh frame page ∷ before) frame page was (λ other. refl) (λ q. refl) (λ q. refl)
    (false_from_ne_true (in_memory before page) (λ t. false≢true (sym new ∙ was.came page t)))

pub memory_load : (before : List Replaced) (frame page : ℕ) → AreInMemory before → in_memory before page ≡ false → AreInMemory (entry.Load frame page ∷ before)
memory_load before frame page was out = memory_enters before (entry.Load frame page ∷ before) frame page was (λ other. refl) (λ q. refl) (λ q. refl) out

pub memory_save : (before : List Replaced) (frame page : ℕ) → AreInMemory before → AreInMemory (entry.Save frame page ∷ before)
memory_save before frame page was = record { inside = was.inside; once = was.once; came = was.came }

-- a page that was saved out of a frame is gone once the frame takes another
and_no : (b : Bool) → (b && false) ≡ false
and_no true = refl
and_no false = refl

pub gone_after : (out lost : Bool) (page q : ℕ) → (page ≡ q → ⊥) → (out ≡ false) ⊎ (lost ≡ true) → (nat_eq page q || (out && not lost)) ≡ false
gone_after out lost page q n (inl e) = rw (ne_eqb page q n, e) refl
gone_after out lost page q n (inr e) = rw (ne_eqb page q n, e) (and_no out)
