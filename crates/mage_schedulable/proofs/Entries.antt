-- Each entry of the rule's list is one that the schedule takes.
use Rattle.std.proofs.Common.{◌≡◌, ◌≢◌, ◌<◌, ◌≤◌, ◌+◌, ◌-◌, ◌&&◌, ◌||◌, ◌⊎◌, inl, inr, zero, suc, ℕ, Bool, true, false, not, cond, List, [], ◌∷◌, ◌++◌, None, Some, Contains, length, drop, get_or, set, nat_eq, nat_lt, refl, sym, ◌∙◌, ap, arith, ⊎_elim, subst, append_assoc}
use Rattle.std.specs.Prelude.{slice_get}
use Rattle.std.specs.List.{filter}
use Rattle.std.proofs.lemmas.Bool.{cases_eq, or_left, or_right, and_right, eq-eqb, ne_eqb, eqb-true, ltb-true, ltb-false, false≢true, false_from_ne_true}
use Rattle.std.proofs.lemmas.List.{at_drop_all, length-drop, length-set, length_push}
use Rattle.std.proofs.lemmas.List.Elements.{Contains-append_right}
use Rattle.std.proofs.lemmas.List.Folds.{list_any-append}
use Rattle.std.proofs.lemmas.Option.{slice_get-get_or, slice_get_past}
use Rattle.mage_instr.specs.declared.instr.TheConstants.{NEVER}
use Rattle.mage_instr.specs.declared.instr.Instr.{Instr}
use Rattle.mage_instr.specs.declared.instr.Place.{Place}
use Rattle.mage_instr.specs.declared.instr.Step.{Step}
use Rattle.mage_instr.specs.declared.replaced.Replaced.{Replaced}
use Rattle.mage_instr.specs.declared.replaced.Replaced.TheVariants as entry
use Rattle.mage_instr.specs.Opcodes.{has_result}
use Rattle.mage_instr.specs.Sound.{IsSound}
use Rattle.mage_instr.specs.Trace.{pages_of}
use Rattle.mage_next.specs.Next.{first_use}
use Rattle.mage_place.specs.Live.{args_of}
use Rattle.mage_place.specs.Places.{place_of}
use Rattle.mage_place.specs.Steps.{AreSteps}
use Rattle.mage_place.proofs.At.{slice_get-set_same, slice_get-set_other, slice_get-push_same, slice_get-push_other}
use Rattle.mage_place.proofs.SoundFacts.{no_instr}
use Rattle.mage_belady.specs.Plan.{is_in, AreDistinct}
use Rattle.mage_belady.specs.Rule.{Held, Moved, resident, victim_of, frame_of, entering, into_free, into_victims, brought_in, visited, all_brought_in, job_in, written, rule_from, rule_of, tight_of}
use Rattle.mage_belady.proofs.Bringing.{resident-set, resident-push, length-resident}
use Rattle.mage_belady.proofs.Counts.{is_in-head, is_in-tail}
use Rattle.mage_belady.proofs.Fits.{AllFit-from_none}
use Rattle.mage_belady.proofs.Going.{some_outside, Leaves, Leaves-victim_of}
use Rattle.mage_belady.proofs.Least.{AllFit, Ready, came, after_ready, at_first, resident-after}
use Rattle.mage_belady.proofs.Sets.{AreDistinct-push, AreDistinct-set, is_in-push, is_in-push_new, is_in-set, is_in-set_same, frame_of-within, frame_of-has}
use Rattle.mage_sched.specs.Reads.{page_in, is_page}
use Rattle.mage_sched.specs.Rule.{came_in, is_saved, is_loaded, in_memory, takes, IsEntry, AreEntries}
use Rattle.mage_residency.proofs.Coming.{clean_page, still, turned}
use Rattle.mage_residency.proofs.Dirty.{is_dirty, is_dirty-at, is_dirty-missing, is_dirty-push, is_dirty-set, is_dirty-written}
use Rattle.mage_residency.proofs.Kept.{Known}
use Rattle.mage_residency.proofs.Turning.{no_step, IsTurn, turn_at, each_step, rule_turns, AddsPages, adds_pages}
use Rattle.mage_residency.specs.Carried.{HaveArguments}
use Rattle.mage_schedulable.specs.Replacing.{RuleListsAreReplaced}
use Rattle.mage_schedulable.specs.Standing.{AllFindPlaces, RuleListsFindPlaces}
use Rattle.mage_schedulable.proofs.Standing.{finds-entering, finds_places}
use Rattle.mage_schedulable.proofs.Leaving.{push_other, gone, set_other}
use Rattle.mage_schedulable.proofs.Loading.{loaded_right, absent_visited, loads_later}

-- what a page that comes in changes, whether it is loaded or comes in new
module _ (before : List Replaced) (f p : ℕ) where
  page_in-entering : (b : Bool) (g : ℕ) → page_in (cond b (entry.Load f p) (entry.Fresh f p) ∷ before) g ≡ cond (nat_eq f g) (Some p) (page_in before g)
  page_in-entering true g = refl
  page_in-entering false g = refl

  in_memory-entering : (b : Bool) (q : ℕ) → in_memory (cond b (entry.Load f p) (entry.Fresh f p) ∷ before) q ≡ (nat_eq p q || (in_memory before q && not (is_page (page_in before f) q)))
  in_memory-entering true q = refl
  in_memory-entering false q = refl

  came_in-entering : (b : Bool) (q : ℕ) → came_in (cond b (entry.Load f p) (entry.Fresh f p) ∷ before) q ≡ (nat_eq p q || came_in before q)
  came_in-entering true q = refl
  came_in-entering false q = refl

  is_saved-entering : (b : Bool) (q : ℕ) → is_saved (cond b (entry.Load f p) (entry.Fresh f p) ∷ before) q ≡ is_saved before q
  is_saved-entering true q = refl
  is_saved-entering false q = refl

takes-entering : (b : Bool) (f p : ℕ) (rest : List Replaced) → takes f (cond b (entry.Load f p) (entry.Fresh f p) ∷ rest) ≡ true
takes-entering true f p rest = eq-eqb f f refl
takes-entering false f p rest = eq-eqb f f refl

loaded-entering : (b : Bool) (f p q : ℕ) (rest : List Replaced) → is_loaded rest q ≡ true → is_loaded (cond b (entry.Load f p) (entry.Fresh f p) ∷ rest) q ≡ true
loaded-entering true f p q rest h = or_right (nat_eq p q) (is_loaded rest q) h
loaded-entering false f p q rest h = h

and_true : (b : Bool) → (b && true) ≡ b
and_true true = refl
and_true false = refl

module _ (frames : ℕ) where
  -- what these entries, the newest first, say of memory and of what was saved
  record Follows (t : ℕ) (seen S : List ℕ) (held : List Held) (steps : List Step) (before : List Replaced) : Type 0 where
    distinct : AreDistinct (resident held)
    fits : length held ≤ frames
    frame : (f : ℕ) → page_in before f ≡ slice_get (resident held) f
    memory : (q : ℕ) → in_memory before q ≡ is_in q (resident held)
    came : (q : ℕ) → is_in q seen ≡ false → is_in q (resident held) ≡ false → came_in before q ≡ false
    from : (q : ℕ) → is_in q (resident held) ≡ true → (is_in q seen ≡ true) ⊎ (is_in q S ≡ true)
    saved : (q : ℕ) → is_in q seen ≡ true → is_dirty q held ≡ false → first_use steps t q ≢ NEVER → is_saved before q ≡ true

module _ (frames : ℕ) (instrs : List Instr) (places : List Place) where
  -- Entries behind others are ones that the schedule takes, and each instruction among them, from instruction t on, finds its
  -- values at their places.
  abbrev Right : (t : ℕ) → (before list : List Replaced) → Type 0
  Right t before list = AreEntries before list × (HaveArguments instrs → AllFindPlaces instrs places t before list)

  module _ (t : ℕ) (seen : List ℕ) (step : Step) (steps : List Step) (early : t < NEVER) (few : length (pages_of step) ≤ frames) where
    abbrev Now : List Held → List Replaced → Type 0
    Now held before = Follows frames t seen (pages_of step) held (step ∷ steps) before

    -- the rest of the list fits behind what leads to these frames
    abbrev Then : List Held → List Replaced → Type 0
    Then held rest = (before : List Replaced) → Now held before → Right t before rest

    used_now : (p : ℕ) → is_in p (pages_of step) ≡ true → first_use (step ∷ steps) t p ≢ NEVER
    used_now p needed e = let same : t ≡ NEVER = rw needed at e in omega (arith, early, same)

    is_entry : (held : List Held) (before : List Replaced) (f p : ℕ) (rest : List Replaced) → is_in p (pages_of step) ≡ true → is_in p (resident held) ≡ false → in_memory before p ≡ is_in p (resident held)
        → (is_in p seen ≡ false → came_in before p ≡ false) → (is_in p seen ≡ true → is_saved before p ≡ true) → IsEntry before (entering seen f p) rest
    is_entry held before f p rest needed missing memory new old = go (is_in p seen) refl where
      go : (b : Bool) → is_in p seen ≡ b → IsEntry before (cond b (entry.Load f p) (entry.Fresh f p)) rest
      go true e = (memory ∙ missing, old e)
      go false e = new e

    -- a page comes in, and the rest is right behind it
    enters : (held : List Held) (before : List Replaced) (f p : ℕ) (rest : List Replaced) → is_in p (pages_of step) ≡ true → is_in p (resident held) ≡ false → in_memory before p ≡ is_in p (resident held)
        → (is_in p seen ≡ false → came_in before p ≡ false) → (is_in p seen ≡ true → is_saved before p ≡ true) → Right t (entering seen f p ∷ before) rest → Right t before (entering seen f p ∷ rest)
    enters held before f p rest needed missing memory new old right =
        ((is_entry held before f p rest needed missing memory new old, right.0), λ have. finds-entering instrs places t before (is_in p seen) f p rest (right.1 have))

    comes_free : (held : List Held) (before : List Replaced) (p : ℕ) (rest : List Replaced) → length held < frames → is_in p (pages_of step) ≡ true → is_in p (resident held) ≡ false
        → Now held before → Then (held ++ clean_page p ∷ []) rest → Right t before (entering seen (length held) p ∷ rest)
    comes_free held before p rest room needed missing k after =
        let pushed = resident-push held (clean_page p) in
        let long = length-resident held in
        let more = length_push held (clean_page p) in
        let right = after (entering seen (length held) p ∷ before) (record {
          distinct = rw pushed (AreDistinct-push (resident held) p k.distinct missing);
          fits = omega (arith, room, more);
          frame = λ g. page_in-entering before (length held) p (is_in p seen) g ∙ frame_now g ∙ ap (λ xs. slice_get xs g) (sym pushed);
          memory = λ q. in_memory-entering before (length held) p (is_in p seen) q ∙ memory_now q ∙ ap (is_in q) (sym pushed);
          came = λ q new absent. came_in-entering before (length held) p (is_in p seen) q ∙ came_now q new (ap (is_in q) (sym pushed) ∙ absent);
          from = λ q m. from_now q (ap (is_in q) (sym pushed) ∙ m);
          saved = λ q m clean used. is_saved-entering before (length held) p (is_in p seen) q ∙ k.saved q m (sym (is_dirty-push q held (clean_page p) refl) ∙ clean) used;
        }) in
        enters held before (length held) p rest needed missing (k.memory p) (λ e. k.came p e missing) (λ e. k.saved p e (is_dirty-missing p held missing) (used_now p needed)) right
      where
        nowhere : page_in before (length held) ≡ None
        nowhere = let long = length-resident held in k.frame (length held) ∙ slice_get_past (resident held) (length held) (omega (arith, long))

        frame_now : (g : ℕ) → cond (nat_eq (length held) g) (Some p) (page_in before g) ≡ slice_get (resident held ++ p ∷ []) g
        frame_now g = by_frame (cases_eq (length held) g) where
          by_frame : (length held ≡ g) ⊎ (length held ≢ g) → cond (nat_eq (length held) g) (Some p) (page_in before g) ≡ slice_get (resident held ++ p ∷ []) g
          by_frame (inl e) = rw (eq-eqb (length held) g e) (sym (slice_get-push_same (resident held) p) ∙ ap (slice_get (resident held ++ p ∷ [])) (length-resident held ∙ e))
          by_frame (inr ne) = rw (ne_eqb (length held) g ne) (k.frame g ∙ sym (slice_get-push_other (resident held) p g (λ e. ne (sym (length-resident held) ∙ sym e))))

        memory_now : (q : ℕ) → (nat_eq p q || (in_memory before q && not (is_page (page_in before (length held)) q))) ≡ is_in q (resident held ++ p ∷ [])
        memory_now q = by_page (cases_eq p q) where
          by_page : (p ≡ q) ⊎ (p ≢ q) → (nat_eq p q || (in_memory before q && not (is_page (page_in before (length held)) q))) ≡ is_in q (resident held ++ p ∷ [])
          by_page (inl e) = rw (eq-eqb p q e) (sym (ap (λ x. is_in x (resident held ++ p ∷ [])) (sym e) ∙ is_in-push_new (resident held) p))
          by_page (inr ne) = rw (ne_eqb p q ne, nowhere, k.memory q) (and_true (is_in q (resident held)) ∙ sym (push_other q p (resident held) (λ e. ne (sym e))))

        came_now : (q : ℕ) → is_in q seen ≡ false → is_in q (resident held ++ p ∷ []) ≡ false → (nat_eq p q || came_in before q) ≡ false
        came_now q new absent = by_page (cases_eq p q) where
          by_page : (p ≡ q) ⊎ (p ≢ q) → (nat_eq p q || came_in before q) ≡ false
          by_page (inl e) = absurd (false≢true (sym absent ∙ ap (λ x. is_in x (resident held ++ p ∷ [])) (sym e) ∙ is_in-push_new (resident held) p))
          by_page (inr ne) = rw (ne_eqb p q ne) (k.came q new (sym (push_other q p (resident held) (λ e. ne (sym e))) ∙ absent))

        from_now : (q : ℕ) → is_in q (resident held ++ p ∷ []) ≡ true → (is_in q seen ≡ true) ⊎ (is_in q (pages_of step) ≡ true)
        from_now q m = ⊎_elim (λ e. inr (ap (λ x. is_in x (pages_of step)) e ∙ needed)) (k.from q) (is_in-push q (resident held) p m)

    -- the frame of the victim is taken
    module _ (held : List Held) (p : ℕ) (needed : is_in p (pages_of step) ≡ true) (missing : is_in p (resident held) ≡ false) (v : ℕ) (leaves : Leaves (pages_of step) (resident held) (first_use steps (t + 1)) v) where
      at_f : get_or (resident held) (frame_of v (resident held)) 0 ≡ v
      at_f = frame_of-has v (resident held) leaves.here

      other : v ≢ p
      other e = false≢true (sym missing ∙ ap (λ x. is_in x (resident held)) (sym e) ∙ leaves.here)

      -- a list of entries that says the same of memory, and what was saved but for the page that leaves
      record Same (old : List Replaced) (before : List Replaced) : Type 0 where
        frame : (g : ℕ) → page_in before g ≡ page_in old g
        memory : (q : ℕ) → in_memory before q ≡ in_memory old q
        came : (q : ℕ) → came_in before q ≡ came_in old q

      follows : (old before : List Replaced) → Now held old → Same old before
          → ((q : ℕ) → is_in q seen ≡ true → is_dirty q (set held (frame_of v (resident held)) (clean_page p)) ≡ false → first_use (step ∷ steps) t q ≢ NEVER → is_saved before q ≡ true)
          → Now (set held (frame_of v (resident held)) (clean_page p)) (entering seen (frame_of v (resident held)) p ∷ before)
      follows old before k same saves = record {
        distinct = rw put (AreDistinct-set (resident held) (frame_of v (resident held)) p k.distinct missing);
        fits = let l = length-set held (frame_of v (resident held)) (clean_page p) in let few_held = k.fits in omega (arith, l, few_held);
        frame = λ g. page_in-entering before (frame_of v (resident held)) p (is_in p seen) g ∙ frame_now g ∙ ap (λ xs. slice_get xs g) (sym put);
        memory = λ q. in_memory-entering before (frame_of v (resident held)) p (is_in p seen) q ∙ memory_now q ∙ ap (is_in q) (sym put);
        came = λ q new absent. came_in-entering before (frame_of v (resident held)) p (is_in p seen) q ∙ came_now q new (ap (is_in q) (sym put) ∙ absent);
        from = λ q m. from_now q (ap (is_in q) (sym put) ∙ m);
        saved = λ q m clean used. is_saved-entering before (frame_of v (resident held)) p (is_in p seen) q ∙ saves q m clean used;
      } where
        put : resident (set held (frame_of v (resident held)) (clean_page p)) ≡ set (resident held) (frame_of v (resident held)) p
        put = resident-set held (frame_of v (resident held)) (clean_page p)

        inside : frame_of v (resident held) < length (resident held)
        inside = frame_of-within v (resident held) leaves.here

        there : page_in before (frame_of v (resident held)) ≡ Some v
        there = same.frame (frame_of v (resident held)) ∙ k.frame (frame_of v (resident held)) ∙ slice_get-get_or (resident held) (frame_of v (resident held)) 0 inside ∙ ap Some at_f

        frame_now : (g : ℕ) → cond (nat_eq (frame_of v (resident held)) g) (Some p) (page_in before g) ≡ slice_get (set (resident held) (frame_of v (resident held)) p) g
        frame_now g = by_frame (cases_eq (frame_of v (resident held)) g) where
          by_frame : (frame_of v (resident held) ≡ g) ⊎ (frame_of v (resident held) ≢ g) → cond (nat_eq (frame_of v (resident held)) g) (Some p) (page_in before g) ≡ slice_get (set (resident held) (frame_of v (resident held)) p) g
          by_frame (inl e) = rw (eq-eqb (frame_of v (resident held)) g e) (sym (slice_get-set_same (resident held) (frame_of v (resident held)) p inside) ∙ ap (slice_get (set (resident held) (frame_of v (resident held)) p)) e)
          by_frame (inr ne) = rw (ne_eqb (frame_of v (resident held)) g ne) (same.frame g ∙ k.frame g ∙ sym (slice_get-set_other (resident held) (frame_of v (resident held)) g p (λ e. ne (sym e))))

        memory_now : (q : ℕ) → (nat_eq p q || (in_memory before q && not (is_page (page_in before (frame_of v (resident held))) q))) ≡ is_in q (set (resident held) (frame_of v (resident held)) p)
        memory_now q = by_page (cases_eq p q) (cases_eq v q) where
          by_page : (p ≡ q) ⊎ (p ≢ q) → (v ≡ q) ⊎ (v ≢ q) → (nat_eq p q || (in_memory before q && not (is_page (page_in before (frame_of v (resident held))) q))) ≡ is_in q (set (resident held) (frame_of v (resident held)) p)
          by_page (inl e) b = rw (eq-eqb p q e) (sym (ap (λ x. is_in x (set (resident held) (frame_of v (resident held)) p)) (sym e) ∙ is_in-set_same (resident held) (frame_of v (resident held)) p inside))
          by_page (inr ne) (inl e) = rw (ne_eqb p q ne, there, eq-eqb v q e) (and_right (in_memory before q) false refl ∙ sym (ap (λ x. is_in x (set (resident held) (frame_of v (resident held)) p)) (sym e) ∙ gone (resident held) v p k.distinct leaves.here other))
          by_page (inr ne) (inr nv) = rw (ne_eqb p q ne, there, ne_eqb v q nv) (and_true (in_memory before q) ∙ same.memory q ∙ k.memory q ∙ sym (set_other q (resident held) (frame_of v (resident held)) p (λ e. ne (sym e)) (λ e. nv (sym (e ∙ at_f)))))

        victim_seen : is_in v seen ≡ true
        victim_seen = ⊎_elim (λ e. e) (λ e. absurd (false≢true (sym leaves.outside ∙ e))) (k.from v leaves.here)

        came_now : (q : ℕ) → is_in q seen ≡ false → is_in q (set (resident held) (frame_of v (resident held)) p) ≡ false → (nat_eq p q || came_in before q) ≡ false
        came_now q new absent = by_page (cases_eq p q) where
          by_page : (p ≡ q) ⊎ (p ≢ q) → (nat_eq p q || came_in before q) ≡ false
          by_page (inl e) = absurd (false≢true (sym absent ∙ ap (λ x. is_in x (set (resident held) (frame_of v (resident held)) p)) (sym e) ∙ is_in-set_same (resident held) (frame_of v (resident held)) p inside))
          by_page (inr ne) =
              let nv : q ≢ v = λ e. false≢true (sym new ∙ ap (λ x. is_in x seen) e ∙ victim_seen) in
              let was : is_in q (resident held) ≡ false = sym (set_other q (resident held) (frame_of v (resident held)) p (λ e. ne (sym e)) (λ e. nv (e ∙ at_f))) ∙ absent in
              rw (ne_eqb p q ne) (same.came q ∙ k.came q new was)

        from_now : (q : ℕ) → is_in q (set (resident held) (frame_of v (resident held)) p) ≡ true → (is_in q seen ≡ true) ⊎ (is_in q (pages_of step) ≡ true)
        from_now q m = ⊎_elim (λ e. inr (ap (λ x. is_in x (pages_of step)) e ∙ needed)) (k.from q) (is_in-set q (resident held) (frame_of v (resident held)) p m)

      clean_before : (q : ℕ) → q ≢ v → is_dirty q (set held (frame_of v (resident held)) (clean_page p)) ≡ false → is_dirty q held ≡ false
      clean_before q ne c = ⊎_elim (λ e. ap (λ x. is_dirty x held) e ∙ is_dirty-missing p held missing) (λ np. sym (is_dirty-set q held (frame_of v (resident held)) (clean_page p) (λ e. ne (e ∙ at_f)) np) ∙ c) (cases_eq q p)

      comes_full : (before : List Replaced) (rest : List Replaced) → Now held before → Then (set held (frame_of v (resident held)) (clean_page p)) rest → (first_use steps (t + 1) v ≢ NEVER → is_loaded rest v ≡ true)
          → (dirty used : Bool) → is_dirty v held ≡ dirty → not (nat_eq (first_use steps (t + 1) v) NEVER) ≡ used
          → Right t before ((cond (dirty && used) (entry.Save (frame_of v (resident held)) v ∷ []) [] ++ entering seen (frame_of v (resident held)) p ∷ []) ++ rest)
      comes_full before rest k after later true true d u =
          let inside = frame_of-within v (resident held) leaves.here in
          let there : page_in before (frame_of v (resident held)) ≡ Some v = k.frame (frame_of v (resident held)) ∙ slice_get-get_or (resident held) (frame_of v (resident held)) 0 inside ∙ ap Some at_f in
          let again : first_use steps (t + 1) v ≢ NEVER = λ e. false≢true (ap not (sym (eq-eqb (first_use steps (t + 1) v) NEVER e)) ∙ u) in
          let saved_now : (q : ℕ) → is_in q seen ≡ true → is_dirty q held ≡ false → first_use (step ∷ steps) t q ≢ NEVER → is_saved (entry.Save (frame_of v (resident held)) v ∷ before) q ≡ true = λ q m c used. or_right (nat_eq v q) (is_saved before q) (k.saved q m c used) in
          let right = enters held (entry.Save (frame_of v (resident held)) v ∷ before) (frame_of v (resident held)) p rest needed missing (k.memory p) (λ e. k.came p e missing) (λ e. saved_now p e (is_dirty-missing p held missing) (used_now p needed))
          (after (entering seen (frame_of v (resident held)) p ∷ entry.Save (frame_of v (resident held)) v ∷ before)
          (follows before (entry.Save (frame_of v (resident held)) v ∷ before) k (record { frame = λ g. refl; memory = λ q. refl; came = λ q. refl }) (λ q m c used. ⊎_elim (λ e. or_left (nat_eq v q) (is_saved before q) (eq-eqb v q (sym e))) (λ ne. saved_now q m (clean_before q ne c) used) (cases_eq q v)))) in
          (((there, takes-entering (is_in p seen) (frame_of v (resident held)) p rest, loaded-entering (is_in p seen) (frame_of v (resident held)) p v rest (later again)), right.0), right.1)
      comes_full before rest k after later false used d u =
          enters held before (frame_of v (resident held)) p rest needed missing (k.memory p) (λ e. k.came p e missing) (λ e. k.saved p e (is_dirty-missing p held missing) (used_now p needed))
          (after (entering seen (frame_of v (resident held)) p ∷ before)
          (follows before before k (record { frame = λ g. refl; memory = λ q. refl; came = λ q. refl }) (λ q m c again. k.saved q m (⊎_elim (λ e. ap (λ x. is_dirty x held) e ∙ d) (λ ne. clean_before q ne c) (cases_eq q v)) again)))
      comes_full before rest k after later true false d u =
          enters held before (frame_of v (resident held)) p rest needed missing (k.memory p) (λ e. k.came p e missing) (λ e. k.saved p e (is_dirty-missing p held missing) (used_now p needed))
          (after (entering seen (frame_of v (resident held)) p ∷ before)
          (follows before before k (record { frame = λ g. refl; memory = λ q. refl; came = λ q. refl }) (λ q m c again. ⊎_elim (λ e. absurd (again (ap (first_use (step ∷ steps) t) e ∙ never))) (λ ne. k.saved q m (clean_before q ne c) again) (cases_eq q v)))) where
            never : first_use (step ∷ steps) t v ≡ NEVER
            never = rw leaves.outside (eqb-true (first_use steps (t + 1) v) NEVER (turned (nat_eq (first_use steps (t + 1) v) NEVER) u))

    -- a page outside the step that isn't in memory isn't there behind the pages of the step
    absent_all : (todo : List ℕ) (held : List Held) (q : ℕ) → ((x : ℕ) → is_in x todo ≡ true → is_in x (pages_of step) ≡ true) → is_in q (pages_of step) ≡ false → is_in q (resident held) ≡ false
        → is_in q (resident (all_brought_in frames (first_use steps (t + 1)) seen (pages_of step) todo held).held) ≡ false
    absent_all [] held q among outside missing = missing
    absent_all (p ∷ todo) held q among outside missing =
        absent_all todo (visited frames (first_use steps (t + 1)) seen (pages_of step) held p).held q (λ x m. among x (is_in-tail x p todo m)) outside
        (absent_visited frames (first_use steps (t + 1)) seen (pages_of step) held p q (λ e. false≢true (sym outside ∙ ap (λ x. is_in x (pages_of step)) e ∙ among p (is_in-head p todo))) missing)

    -- the rest of the list loads what was had before, is gone and is used again
    abbrev Later : List Held → List Replaced → Type 0
    Later held rest = (q : ℕ) → is_in q seen ≡ true → is_in q (resident held) ≡ false → first_use steps (t + 1) q ≢ NEVER → is_loaded rest q ≡ true

    -- a page of the step that isn't in memory comes in
    brings : (held : List Held) (before : List Replaced) (p : ℕ) (rest : List Replaced) → is_in p (pages_of step) ≡ true → is_in p (resident held) ≡ false → Now held before
        → Then (brought_in frames (first_use steps (t + 1)) seen (pages_of step) held p).held rest
        → ((q : ℕ) → is_in q seen ≡ true → is_in q (pages_of step) ≡ false → is_in q (resident (brought_in frames (first_use steps (t + 1)) seen (pages_of step) held p).held) ≡ false → first_use steps (t + 1) q ≢ NEVER → is_loaded rest q ≡ true)
        → Right t before ((brought_in frames (first_use steps (t + 1)) seen (pages_of step) held p).entries ++ rest)
    brings held before p rest needed missing k = go (nat_lt (length held) frames) refl where
      go : (b : Bool) → nat_lt (length held) frames ≡ b
          → Then (cond b (into_free seen held p) (into_victims (first_use steps (t + 1)) seen (pages_of step) held p)).held rest
          → ((q : ℕ) → is_in q seen ≡ true → is_in q (pages_of step) ≡ false → is_in q (resident (cond b (into_free seen held p) (into_victims (first_use steps (t + 1)) seen (pages_of step) held p)).held) ≡ false → first_use steps (t + 1) q ≢ NEVER → is_loaded rest q ≡ true)
          → Right t before ((cond b (into_free seen held p) (into_victims (first_use steps (t + 1)) seen (pages_of step) held p)).entries ++ rest)
      go true e after later = comes_free held before p rest (ltb-true (length held) frames e) needed missing k after
      go false e after later =
          let v = victim_of (first_use steps (t + 1)) (filter (λ q. not (is_in q (pages_of step))) (resident held)) in
          let no_room = ltb-false (length held) frames e in
          let long = length-resident held in
          let full : frames ≤ length (resident held) = omega (arith, no_room, long) in
          let leaves = Leaves-victim_of (pages_of step) (resident held) (first_use steps (t + 1)) (some_outside frames (pages_of step) (resident held) p k.distinct needed missing few full) in
          let seen_v : is_in v seen ≡ true = ⊎_elim (λ m. m) (λ m. absurd (false≢true (sym leaves.outside ∙ m))) (k.from v leaves.here) in
          let differs : v ≢ p = λ s. false≢true (sym leaves.outside ∙ ap (λ x. is_in x (pages_of step)) s ∙ needed) in
          let left : is_in v (resident (set held (frame_of v (resident held)) (clean_page p))) ≡ false = ap (is_in v) (resident-set held (frame_of v (resident held)) (clean_page p)) ∙ gone (resident held) v p k.distinct leaves.here differs in
          comes_full held p needed missing v leaves before rest k after (λ used. later v seen_v leaves.outside left used)
          (get_or held (frame_of v (resident held)) (clean_page 0)).dirty (not (nat_eq (first_use steps (t + 1) v) NEVER)) (is_dirty-at v held (clean_page 0) refl) refl

    brings_all : (todo : List ℕ) (held : List Held) (before : List Replaced) (rest : List Replaced) → ((q : ℕ) → is_in q todo ≡ true → is_in q (pages_of step) ≡ true) → Now held before
        → Then (all_brought_in frames (first_use steps (t + 1)) seen (pages_of step) todo held).held rest
        → Later (all_brought_in frames (first_use steps (t + 1)) seen (pages_of step) todo held).held rest
        → Right t before ((all_brought_in frames (first_use steps (t + 1)) seen (pages_of step) todo held).entries ++ rest)
    brings_all [] held before rest among k after later = after before k
    brings_all (p ∷ todo) held before rest among k after later =
        subst (Right t before) (sym (append_assoc one.entries more.entries rest)) (go (is_in p (resident held)) refl (λ h b. brings_all todo h b rest (λ q m. among q (is_in-tail q p todo m))) after later)
      where
        one : Moved
        one = visited frames (first_use steps (t + 1)) seen (pages_of step) held p

        more : Moved
        more = all_brought_in frames (first_use steps (t + 1)) seen (pages_of step) todo (visited frames (first_use steps (t + 1)) seen (pages_of step) held p).held

        needed : is_in p (pages_of step) ≡ true
        needed = among p (is_in-head p todo)

        go : (b : Bool) → is_in p (resident held) ≡ b
            → ((h : List Held) (b : List Replaced) → Now h b → Then (all_brought_in frames (first_use steps (t + 1)) seen (pages_of step) todo h).held rest → Later (all_brought_in frames (first_use steps (t + 1)) seen (pages_of step) todo h).held rest
            → Right t b ((all_brought_in frames (first_use steps (t + 1)) seen (pages_of step) todo h).entries ++ rest))
            → Then (all_brought_in frames (first_use steps (t + 1)) seen (pages_of step) todo (cond b (still held) (brought_in frames (first_use steps (t + 1)) seen (pages_of step) held p)).held).held rest
            → Later (all_brought_in frames (first_use steps (t + 1)) seen (pages_of step) todo (cond b (still held) (brought_in frames (first_use steps (t + 1)) seen (pages_of step) held p)).held).held rest
            → Right t before ((cond b (still held) (brought_in frames (first_use steps (t + 1)) seen (pages_of step) held p)).entries ++ ((all_brought_in frames (first_use steps (t + 1)) seen (pages_of step) todo (cond b (still held) (brought_in frames (first_use steps (t + 1)) seen (pages_of step) held p)).held).entries ++ rest))
        go true e others after later = others held before k after later
        go false e others after later =
            let now = (brought_in frames (first_use steps (t + 1)) seen (pages_of step) held p).held in
            let behind = (all_brought_in frames (first_use steps (t + 1)) seen (pages_of step) todo now).entries in
            brings held before p (behind ++ rest) needed e k (λ b h. others now b h after later)
            (λ q had outside absent used. loaded_right behind rest q (later q had (absent_all todo now q (λ x m. among x (is_in-tail x p todo m)) outside absent) used))

module _ (frames : ℕ) (instrs : List Instr) (places : List Place) (sound : IsSound instrs) where
  abbrev page_of : ℕ → ℕ
  page_of v = (place_of places v).page

  module _ (t : ℕ) (i : Instr) (step : Step) (steps : List Step) (seen : List ℕ) (pages : AddsPages frames instrs places t i step steps seen) where
    -- behind the instruction
    goes_on : (S : List ℕ) (held : List Held) (before : List Replaced) → ((q : ℕ) → is_in q (pages_of step) ≡ true → is_in q (resident held) ≡ true) → Follows frames t seen (pages_of step) held (step ∷ steps) before
        → Follows frames (t + 1) (seen ++ pages_of step) S (cond (has_result i.op) (written (page_of t) held) held) steps (entry.Do (job_in held places t i) ∷ before)
    goes_on S held before here k = record {
      distinct = rw same k.distinct;
      fits = go_fits (has_result i.op);
      frame = λ f. k.frame f ∙ ap (λ xs. slice_get xs f) (sym same);
      memory = λ q. k.memory q ∙ ap (is_in q) (sym same);
      came = λ q new absent. k.came q (not_had q new) (ap (is_in q) (sym same) ∙ absent);
      from = λ q m. inl (list_any-append (nat_eq q) seen (pages_of step) ∙ either q (k.from q (ap (is_in q) (sym same) ∙ m)));
      saved = λ q m clean later. kept q m later (has_result i.op) refl clean;
    } where
      same : resident (cond (has_result i.op) (written (page_of t) held) held) ≡ resident held
      same = resident-after (has_result i.op) (page_of t) held

      go_fits : (b : Bool) → length (cond b (written (page_of t) held) held) ≤ frames
      go_fits true = let size = length-set held (frame_of (page_of t) (resident held)) (record { page = page_of t; dirty = true }) in let few = k.fits in omega (arith, size, few)
      go_fits false = k.fits

      not_had : (q : ℕ) → is_in q (seen ++ pages_of step) ≡ false → is_in q seen ≡ false
      not_had q new = false_from_ne_true (is_in q seen) (λ e. false≢true (sym new ∙ list_any-append (nat_eq q) seen (pages_of step) ∙ or_left (is_in q seen) (is_in q (pages_of step)) e))

      either : (q : ℕ) → (is_in q seen ≡ true) ⊎ (is_in q (pages_of step) ≡ true) → (is_in q seen || is_in q (pages_of step)) ≡ true
      either q (inl e) = or_left (is_in q seen) (is_in q (pages_of step)) e
      either q (inr e) = or_right (is_in q seen) (is_in q (pages_of step)) e

      kept : (q : ℕ) → is_in q (seen ++ pages_of step) ≡ true → first_use steps (t + 1) q ≢ NEVER → (b : Bool) → has_result i.op ≡ b → is_dirty q (cond b (written (page_of t) held) held) ≡ false → is_saved before q ≡ true
      kept q m later false e clean = k.saved q (pages.had_before q (λ r. absurd (false≢true (sym e ∙ r))) m) clean (pages.used_before q later)
      kept q m later true e clean =
          let last : Contains (cond (has_result i.op) (t ∷ []) []) t = rw e (0, omega arith, refl) in
          let there = here (page_of t) (pages.needed t (Contains-append_right (args_of i) _ t last)) in
          let was = is_dirty-written (page_of t) q held there (frame_of-has (page_of t) (resident held) there) clean in
          k.saved q (pages.had_before q (λ r p. was.0 (sym p)) m) was.1 (pages.used_before q later)

  module _ (trace : List Step) (steps_are : AreSteps instrs places trace) (none : tight_of frames 0 trace ≡ None) where
    walks : (n t : ℕ) (seen : List ℕ) (held : List Held) (before : List Replaced) → t + n ≡ length instrs → Known frames instrs places t seen → AllFit frames (drop t trace) → Ready frames places seen held
        → ((S : List ℕ) → Follows frames t seen S held (drop t trace) before) → Right frames instrs places t before (rule_from frames places t seen held (drop t instrs) (drop t trace))
    walks zero t seen held before all known fit ready k =
        let ended : rule_from frames places t seen held (drop t instrs) (drop t trace) ≡ [] = at_drop_all (λ (rest : List Instr). rule_from frames places t seen held rest (drop t trace)) instrs t (omega (arith, all)) in
        rw ended (tt, λ have. tt)
    walks (suc n) t seen held before all known fit ready k =
        let in_instrs : t < length instrs = omega (arith, all) in
        let i = get_or instrs t no_instr in
        let step = get_or trace t no_step in
        let steps = drop (t + 1) trace in
        let here : IsTurn instrs places trace t i step = turn_at instrs places trace steps_are t in_instrs in
        let few_instrs = sound.count in
        let early : t < NEVER = omega (arith, in_instrs, few_instrs) in
        let fit_now : AllFit frames (step ∷ steps) = subst (AllFit frames) here.front fit in
        let pages = pages_of step in
        let now : Follows frames t seen pages held (step ∷ steps) before = subst (λ rest. Follows frames t seen pages held rest before) here.front (k pages) in
        let moved = all_brought_in frames (first_use steps (t + 1)) seen pages pages held in
        let c = came frames places t seen held step steps ready fit_now.1 in
        let after : List Held = cond (has_result i.op) (written (page_of t) moved.held) moved.held in
        let ready_then = after_ready frames places (first_use steps (t + 1)) seen pages held moved (has_result i.op) (page_of t) ready c in
        let more = adds_pages frames instrs places sound t i step steps seen here.is here.its early known in
        let rest = rule_from frames places (t + 1) (seen ++ pages) after (drop (t + 1) instrs) steps in
        let turn : rule_from frames places t seen held (drop t instrs) (drop t trace) ≡ moved.entries ++ entry.Do (job_in moved.held places t i) ∷ rest =
        rule_turns instrs places trace steps_are frames t seen held in_instrs in
        let as_many : length (drop (t + 1) instrs) ≡ length steps = lengths (t + 1) in
        let done : Right frames instrs places t before (moved.entries ++ entry.Do (job_in moved.held places t i) ∷ rest) =
        brings_all frames instrs places t seen step steps early fit_now.1 pages held before (entry.Do (job_in moved.held places t i) ∷ rest) (λ q m. m) now
        (λ b h.
        let right = walks n (t + 1) (seen ++ pages) after (entry.Do (job_in moved.held places t i) ∷ b) (omega (arith, all)) more.known_more fit_now.2 ready_then
        (λ S. goes_on t i step steps seen more S moved.held b c.has h) in
        ((tt, right.0), λ have. (finds_places instrs places t i step moved.held b here.is here.its have c.has h.frame, right.1 have)))
        (λ q had absent used. loads_later frames places steps (drop (t + 1) instrs) (t + 1) (seen ++ pages) after q fit_now.2 ready_then as_many
        (list_any-append (nat_eq q) seen pages ∙ or_left (is_in q seen) (is_in q pages) had)
        (ap (is_in q) (resident-after (has_result i.op) (page_of t) moved.held) ∙ absent) used) in
        rw turn done
      where
        lengths : (k : ℕ) → length (drop k instrs) ≡ length (drop k trace)
        lengths k = length-drop k instrs ∙ ap (λ m. m - k) (sym steps_are.count) ∙ sym (length-drop k trace)

rule_lists_are_right : (frames : ℕ) (instrs : List Instr) (places : List Place) (trace : List Step) → IsSound instrs → AreSteps instrs places trace → tight_of frames 0 trace ≡ None
    → Right frames instrs places 0 [] (rule_of frames instrs places trace)
rule_lists_are_right frames instrs places trace sound steps_are none =
    walks frames instrs places sound trace steps_are none (length instrs) 0 [] [] [] (omega arith) (λ v less. absurd (omega (arith, less))) (AllFit-from_none frames 0 trace (each_step instrs places trace steps_are) none) (at_first frames places) (λ S. record {
      distinct = tt;
      fits = omega arith;
      frame = λ f. refl;
      memory = λ q. refl;
      came = λ q new absent. refl;
      from = λ q m. absurd (false≢true m);
      saved = λ q m. absurd (false≢true m);
    })

pub rule_lists_are_replaced : RuleListsAreReplaced
rule_lists_are_replaced frames instrs places trace sound steps_are none = (rule_lists_are_right frames instrs places trace sound steps_are none).0

pub rule_lists_find_places : RuleListsFindPlaces
rule_lists_find_places frames instrs places trace sound have steps_are none = (rule_lists_are_right frames instrs places trace sound steps_are none).1 have
