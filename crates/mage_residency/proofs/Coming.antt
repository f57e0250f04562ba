-- The pages of a step come in, and what is kept holds on.
use Rattle.std.proofs.Common.{◌≡◌, ◌≢◌, ◌<◌, ◌≤◌, ◌+◌, ◌&&◌, ℕ, Bool, true, false, not, cond, List, [], ◌∷◌, ◌++◌, Option, Some, IsSomeAnd, length, get_or, set, nat_eq, nat_lt, refl, sym, ◌∙◌, ap, arith, ⊎_elim, subst}
use Rattle.std.specs.Prelude.{slice_get}
use Rattle.std.specs.List.{filter}
use Rattle.std.proofs.lemmas.Bool.{cases_eq, eq-eqb, ne_eqb, eqb-true, ltb-true, ltb-false, false≢true}
use Rattle.std.proofs.lemmas.List.{length-set, length_push, get_or-set_same, get_or-set_other, get_or_append_left, get_or_push}
use Rattle.mage_instr.specs.declared.instr.TheConstants.{NEVER}
use Rattle.mage_instr.specs.declared.instr.Instr.{Instr}
use Rattle.mage_instr.specs.declared.instr.Place.{Place}
use Rattle.mage_instr.specs.declared.instr.Step.{Step}
use Rattle.mage_instr.specs.declared.replaced.Replaced.{Replaced}
use Rattle.mage_instr.specs.declared.replaced.Replaced.TheVariants as entry
use Rattle.mage_instr.specs.Sound.{IsSound}
use Rattle.mage_instr.specs.Trace.{pages_of}
use Rattle.mage_next.specs.Next.{first_use}
use Rattle.mage_place.proofs.At.{slice_get-set_same, slice_get-set_other}
use Rattle.mage_place.proofs.SoundFacts.{some_and, taken_below}
use Rattle.mage_belady.specs.Plan.{is_in}
use Rattle.mage_belady.specs.Rule.{Held, Moved, resident, victim_of, frame_of, entering, into_free, into_victims, brought_in, visited, all_brought_in}
use Rattle.mage_belady.proofs.Counts.{is_in-head, is_in-tail}
use Rattle.mage_belady.proofs.Sets.{AreDistinct-push, AreDistinct-set, frame_of-within, frame_of-has}
use Rattle.mage_belady.proofs.Going.{some_outside, Leaves, Leaves-victim_of}
use Rattle.mage_belady.proofs.Bringing.{resident-set, resident-push, length-resident}
use Rattle.mage_carry.specs.State.{Content, nothing, State, with_frame, with_page}
use Rattle.mage_residency.specs.Plain.{all_done}
use Rattle.mage_residency.proofs.Dirty.{is_dirty, is_dirty-at, is_dirty-missing, is_dirty-push, is_dirty-entered, is_dirty-set}
use Rattle.mage_residency.proofs.Doing.{load_goes, fresh_goes, save_goes, goes_on}
use Rattle.mage_residency.proofs.Kept.{HasLive, Known, Keeps, KeepsBut}

pub some_from : {X : Type 0} (o : Option X) (x : X) (P : X → Type 0) → o ≡ Some x → P x → IsSomeAnd o P
some_from o x P is h = rw is h

pub turned : (b : Bool) → not b ≡ false → b ≡ true
turned true h = refl
turned false h = sym h

-- a page that was in memory stays as it was
abbrev pub still : List Held → Moved
still held = record { entries = []; held = held }

-- the page comes in with no result in it
abbrev pub clean_page : (page : ℕ) → Held
clean_page page = record { page = page; dirty = false }

module _ (frames wires : ℕ) (instrs : List Instr) (places : List Place) (t : ℕ) (seen : List ℕ) (step : Step) (steps : List Step)
    (sound : IsSound instrs) (early : t < NEVER) (known : Known frames instrs places t seen) (few : length (pages_of step) ≤ frames) where
  -- the live values of page q stand there
  abbrev Has : (q : ℕ) → Content → Type 0
  Has q content = HasLive frames instrs places content t q

  -- what a list of entries comes to, where frames have these pages then
  abbrev pub Comes : State → List Replaced → List Held → Type 0
  Comes s entries held = (after : State) × (all_done instrs wires s entries ≡ Some after) × Keeps frames instrs places t seen held (step ∷ steps) after

  -- a page of the step is used now
  used_now : (p : ℕ) → is_in p (pages_of step) ≡ true → first_use (step ∷ steps) t p ≢ NEVER
  used_now p needed e = let same : t ≡ NEVER = rw needed at e in omega (arith, early, same)

  -- a page of the step comes into a frame
  enters : (held : List Held) (f p : ℕ) (s : State) → f < frames → is_in p (pages_of step) ≡ true → get_or (resident held) f 0 ≡ p → is_dirty p held ≡ false
      → KeepsBut frames instrs places f t seen held (step ∷ steps) s → Comes s (entering seen f p ∷ []) held
  enters held f p s inside needed on clean k = go (is_in p seen) refl where
    within : f < length s.frames
    within = let c = k.count in omega (arith, inside, c)

    put : (content : Content) → Has p content → Keeps frames instrs places t seen held (step ∷ steps) (with_frame f content s)
    put content has = record {
      count = length-set s.frames f content ∙ k.count;
      next = k.next;
      distinct = k.distinct;
      fits = k.fits;
      in_frames = λ g less. ⊎_elim
          (λ e. subst (λ x. IsSomeAnd (slice_get (set s.frames f content) x) (Has (get_or (resident held) x 0))) (sym e)
          (some_from (slice_get (set s.frames f content) f) content (Has (get_or (resident held) f 0)) (slice_get-set_same s.frames f content within) (subst (λ q. Has q content) (sym on) has)))
          (λ ne. subst (λ o. IsSomeAnd o (Has (get_or (resident held) g 0))) (sym (slice_get-set_other s.frames f g content ne)) (k.others g less ne)) (cases_eq g f);
      in_store = k.in_store;
    }

    go : (b : Bool) → is_in p seen ≡ b → Comes s (cond b (entry.Load f p) (entry.Fresh f p) ∷ []) held
    go true e =
        let found = some_and (s.pages p) (Has p) (k.in_store p e clean (used_now p needed)) in
        (with_frame f found.0 s, load_goes instrs wires f p s found.0 found.1 within, put found.0 found.2)
    go false e = (
      with_frame f nothing s,
      fresh_goes instrs wires f p s within,
      put nothing (λ v live on_p. absurd (false≢true (sym e ∙ ap (λ q. is_in q seen) (sym on_p) ∙ known v live.0 (taken_below instrs live.1 v sound live.3).2))),
    )

  -- a free frame takes it
  comes_free : (held : List Held) (p : ℕ) (s : State) → length held < frames → is_in p (pages_of step) ≡ true → is_in p (resident held) ≡ false → Keeps frames instrs places t seen held (step ∷ steps) s
      → Comes s (entering seen (length held) p ∷ []) (held ++ clean_page p ∷ [])
  comes_free held p s room needed missing k =
      let pushed = resident-push held (clean_page p) in
      let long = length-resident held in
      let more = length_push held (clean_page p) in
      enters (held ++ clean_page p ∷ []) (length held) p s room needed
      (ap (λ xs. get_or xs (length held) 0) pushed ∙ get_or_push (resident held) p 0 (length held) long)
      (is_dirty-push p held (clean_page p) refl ∙ is_dirty-missing p held missing)
      (record {
        count = k.count;
        next = k.next;
        distinct = rw pushed (AreDistinct-push (resident held) p k.distinct missing);
        fits = omega (arith, room, more);
        others = λ g less ne.
            let old : g < length held = omega (arith, less, ne, more) in
            let same : get_or (resident (held ++ clean_page p ∷ [])) g 0 ≡ get_or (resident held) g 0 = ap (λ xs. get_or xs g 0) pushed ∙ get_or_append_left (resident held) (p ∷ []) 0 g (omega (arith, old, long)) in
            rw same (k.in_frames g old);
        in_store = λ q m c u. k.in_store q m (sym (is_dirty-push q held (clean_page p) refl) ∙ c) u;
      })

  -- the frame of the victim takes it
  module _ (held : List Held) (p : ℕ) (s : State) (needed : is_in p (pages_of step) ≡ true) (missing : is_in p (resident held) ≡ false)
      (k : Keeps frames instrs places t seen held (step ∷ steps) s) (v : ℕ) (leaves : Leaves (pages_of step) (resident held) (first_use steps (t + 1)) v) where
    f : ℕ
    f = frame_of v (resident held)

    within : frame_of v (resident held) < length held
    within = let l = frame_of-within v (resident held) leaves.here in let long = length-resident held in omega (arith, l, long)

    at_f : get_or (resident held) (frame_of v (resident held)) 0 ≡ v
    at_f = frame_of-has v (resident held) leaves.here

    -- what is clean then was clean before, but for the victim
    clean_before : (q : ℕ) → q ≢ v → is_dirty q (set held (frame_of v (resident held)) (clean_page p)) ≡ false → is_dirty q held ≡ false
    clean_before q ne c = ⊎_elim (λ e. ap (λ x. is_dirty x held) e ∙ is_dirty-missing p held missing) (λ np. sym (is_dirty-set q held (frame_of v (resident held)) (clean_page p) (λ e. ne (e ∙ at_f)) np) ∙ c) (cases_eq q p)

    but : (after : State) → after.frames ≡ s.frames → after.next ≡ s.next
        → ((q : ℕ) → is_in q seen ≡ true → is_dirty q (set held (frame_of v (resident held)) (clean_page p)) ≡ false → first_use (step ∷ steps) t q ≢ NEVER → IsSomeAnd (after.pages q) (Has q))
        → KeepsBut frames instrs places (frame_of v (resident held)) t seen (set held (frame_of v (resident held)) (clean_page p)) (step ∷ steps) after
    but after same count store =
        let put = resident-set held (frame_of v (resident held)) (clean_page p) in
        let long = length-set held (frame_of v (resident held)) (clean_page p) in
        record {
          count = ap length same ∙ k.count;
          next = count ∙ k.next;
          distinct = rw put (AreDistinct-set (resident held) (frame_of v (resident held)) p k.distinct missing);
          fits = let few_held = k.fits in omega (arith, long, few_held);
          others = λ g less ne.
              let stays : get_or (resident (set held (frame_of v (resident held)) (clean_page p))) g 0 ≡ get_or (resident held) g 0 = ap (λ xs. get_or xs g 0) put ∙ get_or-set_other (resident held) (frame_of v (resident held)) g p 0 ne in
              rw (same, stays) (k.in_frames g (omega (arith, less, long)));
          in_store = store;
        }

    -- the victim was saved, or wasn't, and the page comes into its frame
    goes : (after : State) (b : Bool) → KeepsBut frames instrs places (frame_of v (resident held)) t seen (set held (frame_of v (resident held)) (clean_page p)) (step ∷ steps) after
        → all_done instrs wires s (cond b (entry.Save (frame_of v (resident held)) v ∷ []) []) ≡ Some after
        → Comes s (cond b (entry.Save (frame_of v (resident held)) v ∷ []) [] ++ entering seen (frame_of v (resident held)) p ∷ []) (set held (frame_of v (resident held)) (clean_page p))
    goes after b kept saved =
        let put = resident-set held (frame_of v (resident held)) (clean_page p) in
        let in_memory = length-resident held in
        let few_held = k.fits in
        let inside : frame_of v (resident held) < frames = let l = within in omega (arith, l, few_held) in
        let come = enters (set held (frame_of v (resident held)) (clean_page p)) (frame_of v (resident held)) p after inside needed
        (ap (λ xs. get_or xs (frame_of v (resident held)) 0) put ∙ get_or-set_same (resident held) (frame_of v (resident held)) p 0 (frame_of-within v (resident held) leaves.here))
        (is_dirty-entered p held (frame_of v (resident held)) missing) kept in
        (come.0, goes_on instrs wires (cond b (entry.Save (frame_of v (resident held)) v ∷ []) []) (entering seen (frame_of v (resident held)) p ∷ []) s after saved ∙ come.1, come.2)

    pub comes_full : (dirty used : Bool) → is_dirty v held ≡ dirty → not (nat_eq (first_use steps (t + 1) v) NEVER) ≡ used
        → Comes s (cond (dirty && used) (entry.Save (frame_of v (resident held)) v ∷ []) [] ++ entering seen (frame_of v (resident held)) p ∷ []) (set held (frame_of v (resident held)) (clean_page p))
    comes_full true true d u =
        let found = some_and (slice_get s.frames (frame_of v (resident held))) _ (k.in_frames (frame_of v (resident held)) within) in
        let has : Has v found.0 = subst (λ q. Has q found.0) at_f found.2 in
        let after : State = with_page v found.0 s in
        goes after true
        (but after refl refl (λ q m c used. ⊎_elim (λ e. rw (eq-eqb v q (sym e)) (subst (λ x. Has x found.0) (sym e) has)) (λ ne. rw (ne_eqb v q (λ e. ne (sym e))) (k.in_store q m (clean_before q ne c) used)) (cases_eq q v)))
        (save_goes instrs wires (frame_of v (resident held)) v s found.0 found.1)
    comes_full false used d u =
        goes s false
        (but s refl refl (λ q m c later. k.in_store q m (⊎_elim (λ e. ap (λ x. is_dirty x held) e ∙ d) (λ ne. clean_before q ne c) (cases_eq q v)) later))
        refl
    comes_full true false d u =
        goes s false
        (but s refl refl (λ q m c later. ⊎_elim (λ e. absurd (later (ap (first_use (step ∷ steps) t) e ∙ never))) (λ ne. k.in_store q m (clean_before q ne c) later) (cases_eq q v)))
        refl
      where
        never : first_use (step ∷ steps) t v ≡ NEVER
        never = rw leaves.outside (eqb-true (first_use steps (t + 1) v) NEVER (turned (nat_eq (first_use steps (t + 1) v) NEVER) u))

  -- a page of the step that isn't in memory comes in
  brings : (held : List Held) (p : ℕ) (s : State) → is_in p (pages_of step) ≡ true → is_in p (resident held) ≡ false → Keeps frames instrs places t seen held (step ∷ steps) s
      → Comes s (brought_in frames (first_use steps (t + 1)) seen (pages_of step) held p).entries (brought_in frames (first_use steps (t + 1)) seen (pages_of step) held p).held
  brings held p s needed missing k = go (nat_lt (length held) frames) refl where
    go : (b : Bool) → nat_lt (length held) frames ≡ b
        → Comes s (cond b (into_free seen held p) (into_victims (first_use steps (t + 1)) seen (pages_of step) held p)).entries (cond b (into_free seen held p) (into_victims (first_use steps (t + 1)) seen (pages_of step) held p)).held
    go true e = comes_free held p s (ltb-true (length held) frames e) needed missing k
    go false e =
        let v = victim_of (first_use steps (t + 1)) (filter (λ q. not (is_in q (pages_of step))) (resident held)) in
        let no_room = ltb-false (length held) frames e in
        let long = length-resident held in
        let full : frames ≤ length (resident held) = omega (arith, no_room, long) in
        let leaves = Leaves-victim_of (pages_of step) (resident held) (first_use steps (t + 1)) (some_outside frames (pages_of step) (resident held) p k.distinct needed missing few full) in
        comes_full held p s needed missing k v leaves (get_or held (frame_of v (resident held)) (clean_page 0)).dirty (not (nat_eq (first_use steps (t + 1) v) NEVER)) (is_dirty-at v held (clean_page 0) refl) refl

  -- each page of the step, where it isn't in memory
  visits : (held : List Held) (p : ℕ) (s : State) → is_in p (pages_of step) ≡ true → Keeps frames instrs places t seen held (step ∷ steps) s
      → Comes s (visited frames (first_use steps (t + 1)) seen (pages_of step) held p).entries (visited frames (first_use steps (t + 1)) seen (pages_of step) held p).held
  visits held p s needed k = go (is_in p (resident held)) refl where
    go : (b : Bool) → is_in p (resident held) ≡ b
        → Comes s (cond b (still held) (brought_in frames (first_use steps (t + 1)) seen (pages_of step) held p)).entries (cond b (still held) (brought_in frames (first_use steps (t + 1)) seen (pages_of step) held p)).held
    go true e = (s, refl, k)
    go false e = brings held p s needed e k

  -- all pages of the step in turn
  pub all_come : (todo : List ℕ) (held : List Held) (s : State) → ((q : ℕ) → is_in q todo ≡ true → is_in q (pages_of step) ≡ true) → Keeps frames instrs places t seen held (step ∷ steps) s
      → Comes s (all_brought_in frames (first_use steps (t + 1)) seen (pages_of step) todo held).entries (all_brought_in frames (first_use steps (t + 1)) seen (pages_of step) todo held).held
  all_come [] held s among k = (s, refl, k)
  all_come (p ∷ todo) held s among k =
      let one = visits held p s (among p (is_in-head p todo)) k in
      let moved = visited frames (first_use steps (t + 1)) seen (pages_of step) held p in
      let rest = all_come todo moved.held one.0 (λ q m. among q (is_in-tail q p todo m)) one.2 in (
        rest.0,
        goes_on instrs wires moved.entries (all_brought_in frames (first_use steps (t + 1)) seen (pages_of step) todo moved.held).entries s one.0 one.1 ∙ rest.1,
        rest.2,
      )
