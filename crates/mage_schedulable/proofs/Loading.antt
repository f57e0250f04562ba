-- A page that was had before, isn't in memory and is used again is loaded later.
use Rattle.std.proofs.Common.{◌≡◌, ◌≢◌, ◌+◌, ◌&&◌, ◌||◌, ◌⊎◌, inl, inr, ℕ, Bool, true, false, not, cond, List, [], ◌∷◌, ◌++◌, length, get_or, nat_eq, nat_lt, refl, sym, ◌∙◌, ap, arith, ⊎_elim}
use Rattle.std.specs.List.{filter}
use Rattle.std.proofs.lemmas.Bool.{cases_eq, cases_Bool, or_cases, or_left, or_right, eq-eqb, false≢true, false_from_ne_true}
use Rattle.std.proofs.lemmas.List.Folds.{list_any-append}
use Rattle.mage_instr.specs.declared.instr.TheConstants.{NEVER}
use Rattle.mage_instr.specs.declared.instr.Instr.{Instr}
use Rattle.mage_instr.specs.declared.instr.Place.{Place}
use Rattle.mage_instr.specs.declared.instr.Step.{Step}
use Rattle.mage_instr.specs.declared.replaced.Replaced.{Replaced}
use Rattle.mage_instr.specs.declared.replaced.Replaced.TheVariants as entry
use Rattle.mage_instr.specs.Trace.{pages_of}
use Rattle.mage_instr.specs.Opcodes.{has_result}
use Rattle.mage_next.specs.Next.{first_use}
use Rattle.mage_belady.specs.Plan.{is_in}
use Rattle.mage_belady.specs.Rule.{Held, resident, victim_of, frame_of, entering, into_free, into_victims, brought_in, visited, all_brought_in, job_in, written, rule_from}
use Rattle.mage_belady.proofs.Bringing.{resident-set, resident-push}
use Rattle.mage_belady.proofs.Counts.{is_in-cons}
use Rattle.mage_belady.proofs.Least.{AllFit, Ready, came, after_ready, resident-after}
use Rattle.mage_sched.specs.Rule.{is_loaded}
use Rattle.mage_residency.proofs.Coming.{clean_page}
use Rattle.mage_schedulable.proofs.Leaving.{push_other, absent_set}

pub loaded_right : (xs ys : List Replaced) (q : ℕ) → is_loaded ys q ≡ true → is_loaded (xs ++ ys) q ≡ true
loaded_right [] ys q h = h
loaded_right (entry.Fresh f p ∷ xs) ys q h = loaded_right xs ys q h
loaded_right (entry.Load f p ∷ xs) ys q h = or_right (nat_eq p q) (is_loaded (xs ++ ys) q) (loaded_right xs ys q h)
loaded_right (entry.Save f p ∷ xs) ys q h = loaded_right xs ys q h
loaded_right (entry.Do job ∷ xs) ys q h = loaded_right xs ys q h

pub loaded_left : (xs ys : List Replaced) (q : ℕ) → is_loaded xs q ≡ true → is_loaded (xs ++ ys) q ≡ true
loaded_left [] ys q h = absurd (false≢true h)
loaded_left (entry.Fresh f p ∷ xs) ys q h = loaded_left xs ys q h
loaded_left (entry.Load f p ∷ xs) ys q h = by_first (or_cases (nat_eq p q) (is_loaded xs q) h) (loaded_left xs ys q) where
  by_first : (nat_eq p q ≡ true) ⊎ (is_loaded xs q ≡ true) → (is_loaded xs q ≡ true → is_loaded (xs ++ ys) q ≡ true) → (nat_eq p q || is_loaded (xs ++ ys) q) ≡ true
  by_first (inl e) rest = or_left (nat_eq p q) (is_loaded (xs ++ ys) q) e
  by_first (inr e) rest = or_right (nat_eq p q) (is_loaded (xs ++ ys) q) (rest e)
loaded_left (entry.Save f p ∷ xs) ys q h = loaded_left xs ys q h
loaded_left (entry.Do job ∷ xs) ys q h = loaded_left xs ys q h

behind_save : (b : Bool) (f v : ℕ) (one : Replaced) (q : ℕ) → is_loaded (one ∷ []) q ≡ true → is_loaded (cond b (entry.Save f v ∷ []) [] ++ one ∷ []) q ≡ true
behind_save true f v one q h = h
behind_save false f v one q h = h

module _ (frames : ℕ) (next : ℕ → ℕ) (seen S : List ℕ) where
  entering_loads : (f q : ℕ) → is_in q seen ≡ true → is_loaded (entering seen f q ∷ []) q ≡ true
  entering_loads f q had = rw (had, eq-eqb q q refl) refl

  brought_loads : (held : List Held) (q : ℕ) → is_in q seen ≡ true → is_loaded (brought_in frames next seen S held q).entries q ≡ true
  brought_loads held q had = go (nat_lt (length held) frames) where
    go : (b : Bool) → is_loaded (cond b (into_free seen held q) (into_victims next seen S held q)).entries q ≡ true
    go true = entering_loads (length held) q had
    go false =
        let v = victim_of next (filter (λ p. not (is_in p S)) (resident held)) in
        let f = frame_of v (resident held) in
        behind_save ((get_or held f (clean_page 0)).dirty && not (nat_eq (next v) NEVER)) f v (entering seen f q) q (entering_loads f q had)

  -- a page that isn't in memory isn't there behind another that came in
  absent_brought : (held : List Held) (p q : ℕ) → q ≢ p → is_in q (resident held) ≡ false → is_in q (resident (brought_in frames next seen S held p).held) ≡ false
  absent_brought held p q ne missing = go (nat_lt (length held) frames) where
    go : (b : Bool) → is_in q (resident (cond b (into_free seen held p) (into_victims next seen S held p)).held) ≡ false
    go true = ap (is_in q) (resident-push held (clean_page p)) ∙ push_other q p (resident held) ne ∙ missing
    go false = ap (is_in q) (resident-set held (frame_of (victim_of next (filter (λ x. not (is_in x S)) (resident held))) (resident held)) (clean_page p)) ∙ absent_set q (resident held) (frame_of (victim_of next (filter (λ x. not (is_in x S)) (resident held))) (resident held)) p ne missing

  pub absent_visited : (held : List Held) (p q : ℕ) → q ≢ p → is_in q (resident held) ≡ false → is_in q (resident (visited frames next seen S held p).held) ≡ false
  absent_visited held p q ne missing = go (is_in p (resident held)) where
    go : (b : Bool) → is_in q (resident (cond b (record { entries = []; held = held }) (brought_in frames next seen S held p)).held) ≡ false
    go true = missing
    go false = absent_brought held p q ne missing

  -- a page of the step that was had before is loaded
  coming_in : (todo : List ℕ) (held : List Held) (q : ℕ) → is_in q todo ≡ true → is_in q (resident held) ≡ false → is_in q seen ≡ true → is_loaded (all_brought_in frames next seen S todo held).entries q ≡ true
  coming_in [] held q m missing had = absurd (false≢true m)
  coming_in (p ∷ todo) held q m missing had = by_page (cases_eq q p) (coming_in todo (visited frames next seen S held p).held q) where
    by_page : (q ≡ p) ⊎ (q ≢ p) → (is_in q todo ≡ true → is_in q (resident (visited frames next seen S held p).held) ≡ false → is_in q seen ≡ true → is_loaded (all_brought_in frames next seen S todo (visited frames next seen S held p).held).entries q ≡ true)
        → is_loaded ((visited frames next seen S held p).entries ++ (all_brought_in frames next seen S todo (visited frames next seen S held p).held).entries) q ≡ true
    by_page (inl e) rest = loaded_left (visited frames next seen S held p).entries (all_brought_in frames next seen S todo (visited frames next seen S held p).held).entries q (here e) where
      here : q ≡ p → is_loaded (visited frames next seen S held p).entries q ≡ true
      here e =
          let absent : is_in p (resident held) ≡ false = ap (λ x. is_in x (resident held)) (sym e) ∙ missing in
          rw absent (ap (λ x. is_loaded (brought_in frames next seen S held x).entries q) (sym e) ∙ brought_loads held q had)
    by_page (inr ne) rest =
        loaded_right (visited frames next seen S held p).entries (all_brought_in frames next seen S todo (visited frames next seen S held p).held).entries q
        (rest (⊎_elim (λ e. absurd (ne e)) (λ k. k) (is_in-cons q p todo m)) (absent_visited held p q ne missing) had)

module _ (frames : ℕ) (places : List Place) where
  -- from a step on
  pub loads_later : (steps : List Step) (instrs : List Instr) (t : ℕ) (seen : List ℕ) (held : List Held) (q : ℕ) → AllFit frames steps → Ready frames places seen held → length instrs ≡ length steps
      → is_in q seen ≡ true → is_in q (resident held) ≡ false → first_use steps t q ≢ NEVER → is_loaded (rule_from frames places t seen held instrs steps) q ≡ true
  loads_later [] instrs t seen held q fit ready same had missing used = absurd (used refl)
  loads_later (step ∷ steps) [] t seen held q fit ready same had missing used = absurd (omega (arith, same))
  loads_later (step ∷ steps) (i ∷ instrs) t seen held q fit ready same had missing used =
      let c = came frames places t seen held step steps ready fit.1 in
      let moved = all_brought_in frames (first_use steps (t + 1)) seen (pages_of step) (pages_of step) held in
      let page = (get_or places t (record { page = 0; offset = 0 })).page in
      let after : List Held = cond (has_result i.op) (written page moved.held) moved.held in
      let rest = loads_later steps instrs (t + 1) (seen ++ pages_of step) after q fit.2 (after_ready frames places (first_use steps (t + 1)) seen (pages_of step) held moved (has_result i.op) page ready c) (omega (arith, same)) in
      let others = rule_from frames places (t + 1) (seen ++ pages_of step) after instrs steps in
      let doing = entry.Do (job_in moved.held places t i) in
      ⊎_elim
      (λ m. loaded_left moved.entries (doing ∷ others) q (coming_in frames (first_use steps (t + 1)) seen (pages_of step) (pages_of step) held q m missing had))
      (λ n. loaded_right moved.entries (doing ∷ others) q (rest
      (list_any-append (nat_eq q) seen (pages_of step) ∙ or_left (is_in q seen) (is_in q (pages_of step)) had)
      (ap (is_in q) (resident-after (has_result i.op) page moved.held) ∙ false_from_ne_true (is_in q (resident moved.held)) (λ m. ⊎_elim (λ k. false≢true (sym missing ∙ k)) (λ k. false≢true (sym n ∙ k)) (c.going.from q m)))
      (λ e. used (rw n e))))
      (cases_Bool (is_in q (pages_of step)))
