-- The pages of a step come in one after another, and then they are listed again.
use Rattle.std.proofs.Common.{◌≡◌, ◌≢◌, ◌<◌, ◌≤◌, ◌+◌, ◌&&◌, ◌||◌, ℕ, List, [], ◌∷◌, ◌++◌, Bool, true, false, not, cond, length, get_or, set, take, nat_eq, Option, Some, None, is_some, refl, sym, ◌∙◌, ap, ap₂, arith, ⊎_elim, append_assoc, append-nil, subst, true≢false}
use Rattle.std.specs.HashSet.{contains}
use Rattle.std.proofs.lemmas.Bool.{eq-eqb, ne_eqb, cases_eq}
use Rattle.std.proofs.lemmas.List.Folds.{list_any-append}
use Rattle.std.proofs.lemmas.List.{get_or-set_same, get_or-set_other}
use Rattle.mage_instr.specs.declared.instr.Step.{Step}
use Rattle.mage_instr.specs.Trace.{pages_of, IsStep}
use Rattle.mage_belady.specs.declared.paging.Paging.{Paging}
use Rattle.mage_belady.specs.Plan.{is_in}
use Rattle.mage_belady.specs.Rule.{Held, Moved, resident, frame_of, visited, all_brought_in}
use Rattle.mage_belady.specs.Uses.{frame_at}
use Rattle.mage_belady.specs.Kept.{Moment, Keeps, Brings, IsServed, AreBeside, AreFound, frame_if, any_page, outside, before, came, served}
use Rattle.mage_belady.proofs.StepPages.{not_before, in_step, apart, take-more}
use Rattle.mage_belady.proofs.Sets.{frame_of-within}
use Rattle.mage_belady.proofs.Moved.{length-dirty}
use Rattle.mage_belady.proofs.Going.{starts}
use Rattle.mage_belady.proofs.Bringing.{came_all, length-resident}
use Rattle.mage_belady.proofs.Keeping.{visited-known, frame_if-came, is_in-more}

module _ (frames : ℕ) (next : ℕ → ℕ) (known S : List ℕ) where
  held-push : (todo : List ℕ) (p : ℕ) (held : List Held)
      → (all_brought_in frames next known S (todo ++ p ∷ []) held).held
      ≡ (visited frames next known S (all_brought_in frames next known S todo held).held p).held
  held-push [] p held = refl
  held-push (x ∷ todo) p held = held-push todo p (visited frames next known S held x).held

  entries-push : (todo : List ℕ) (p : ℕ) (held : List Held)
      → (all_brought_in frames next known S (todo ++ p ∷ []) held).entries
      ≡ (all_brought_in frames next known S todo held).entries ++ (visited frames next known S
      (all_brought_in frames next known S todo held).held p).entries
  entries-push [] p held = append-nil (visited frames next known S held p).entries
  entries-push (x ∷ todo) p held =
      ap (λ es. (visited frames next known S held x).entries ++ es)
      (entries-push todo p (visited frames next known S held x).held)
      ∙ sym (append_assoc (visited frames next known S held x).entries
      (all_brought_in frames next known S todo
      (visited frames next known S held x).held).entries _)

-- the moment once some pages of a step came in
abbrev pub part : (frames : ℕ) (S todo : List ℕ) → Moment → Moment
part frames S todo m = record {
  held = (all_brought_in frames m.next m.known S todo m.held).held;
  next = m.next;
  known = m.known ++ todo;
}

-- what holds once the first k pages of a step came in
pub record Under (frames : ℕ) (step : Step) (k : ℕ) (m : Moment) (old now : Paging)
    (found : List (Option ℕ)) (at : List ℕ) : Type 0 where
  pub list : now.list.items
      ≡ old.list.items ++ (all_brought_in frames m.next m.known (pages_of step)
      (take k step.pages) m.held).entries
  pub kept : Keeps frames (part frames (pages_of step) (take k step.pages) m)
      (outside (pages_of step)) now
  pub done : (j : ℕ) → j < k
      → frame_if (get_or step.pages j 0)
      (resident (part frames (pages_of step) (take k step.pages) m).held) ≡ Some (get_or at j 0)
  pub left : (j : ℕ) → k ≤ j → j < step.count
      → get_or found j None
      ≡ frame_if (get_or step.pages j 0)
      (resident (part frames (pages_of step) (take k step.pages) m).held)

or_false : (b : Bool) → (b || false) ≡ b
or_false true = refl
or_false false = refl

at_frame : (b : Bool) (f g : ℕ) → cond b (Some f) None ≡ Some g → g ≡ f
at_frame true f g e = cc
at_frame false f g e = absurd (true≢false (ap is_some (sym e)))

module _ (frames : ℕ) (step : Step) (m : Moment) (old : Paging) (found : List (Option ℕ))
    (few : length (pages_of step) ≤ frames) where
  S : List ℕ
  S = pages_of step

  pub Under-none : (at : List ℕ) → Keeps frames m (outside (pages_of step)) old
      → AreFound step found (resident m.held) → Under frames step 0 m old old found at
  Under-none at k is = record {
    list = sym (append-nil old.list.items);
    kept = record {
      distinct = k.distinct;
      fits = k.fits;
      known = λ q i. rw (append-nil m.known) (k.known q i);
      seen = λ q. rw (append-nil m.known) (k.seen q);
      dirty = k.dirty;
      uses = k.uses;
    };
    done = λ j l. absurd (omega (arith, l));
    left = λ j l below. is j below;
  }

  module _ (is : IsStep step) (long : step.count ≤ length step.pages) where
    module _ (k : ℕ) (below : k < step.count) (now new : Paging) (at : List ℕ) (frame : ℕ)
        (room : k < length at) (under : Under frames step k m old now found at)
        (brings : Brings frames (pages_of step) (get_or step.pages k 0)
        (part frames (pages_of step) (take k step.pages) m) now new frame) where
      pages_more : take (k + 1) step.pages ≡ take k step.pages ++ get_or step.pages k 0 ∷ []
      pages_more = take-more k step.pages (omega (arith, below, long))

      fresh : is_in (get_or step.pages k 0) (m.known ++ take k step.pages)
          ≡ is_in (get_or step.pages k 0) m.known
      fresh = list_any-append (nat_eq (get_or step.pages k 0)) m.known (take k step.pages)
          ∙ ap (λ b. is_in (get_or step.pages k 0) m.known || b) (not_before step is long k below)
          ∙ or_false (is_in (get_or step.pages k 0) m.known)

      same_visit : visited frames m.next (m.known ++ take k step.pages) (pages_of step)
          (all_brought_in frames m.next m.known (pages_of step) (take k step.pages) m.held).held
          (get_or step.pages k 0)
          ≡ visited frames m.next m.known (pages_of step)
          (all_brought_in frames m.next m.known (pages_of step) (take k step.pages) m.held).held
          (get_or step.pages k 0)
      unfolding fresh
      same_visit = visited-known frames m.next m.known (m.known ++ take k step.pages)
          (pages_of step)
          (all_brought_in frames m.next m.known (pages_of step) (take k step.pages) m.held).held
          (get_or step.pages k 0) fresh

      same_moment : came frames (pages_of step) (get_or step.pages k 0)
          (part frames (pages_of step) (take k step.pages) m)
          ≡ part frames (pages_of step) (take (k + 1) step.pages) m
      unfolding pages_more same_visit
      same_moment =
          ap₂ (λ (h : List Held) (ps : List ℕ). record { held = h; next = m.next; known = ps })
          (ap (λ (v : Moved). v.held) same_visit
          ∙ sym (held-push frames m.next m.known (pages_of step) (take k step.pages)
          (get_or step.pages k 0) m.held)
          ∙ ap (λ ps. (all_brought_in frames m.next m.known (pages_of step) ps m.held).held)
          (sym pages_more))
          (append_assoc m.known (take k step.pages) (get_or step.pages k 0 ∷ [])
          ∙ ap (λ ps. m.known ++ ps) (sym pages_more))

      stays : (j : ℕ) → j ≢ k → j < step.count
          → frame_if (get_or step.pages j 0)
          (resident (part frames (pages_of step) (take (k + 1) step.pages) m).held)
          ≡ frame_if (get_or step.pages j 0)
          (resident (part frames (pages_of step) (take k step.pages) m).held)
      unfolding same_moment
      stays j n within =
          ap (λ (w : Moment). frame_if (get_or step.pages j 0) (resident w.held)) (sym same_moment)
          ∙ frame_if-came frames (pages_of step) (part frames (pages_of step) (take k step.pages) m)
          (get_or step.pages k 0) few (in_step step is long k below) now under.kept
          (get_or step.pages j 0) (in_step step is long j within)
          (apart step is long j k n within below)

      -- one page more
      pub Under-more : Under frames step (k + 1) m old new found (set at k frame)
      unfolding pages_more same_visit same_moment stays
      Under-more = record {
        list = brings.list
            ∙ ap (λ l. l ++ (visited frames m.next (m.known ++ take k step.pages) (pages_of step)
            (all_brought_in frames m.next m.known (pages_of step)
            (take k step.pages) m.held).held (get_or step.pages k 0)).entries) under.list
            ∙ append_assoc old.list.items
            (all_brought_in frames m.next m.known (pages_of step)
            (take k step.pages) m.held).entries
            (visited frames m.next (m.known ++ take k step.pages) (pages_of step)
            (all_brought_in frames m.next m.known (pages_of step)
            (take k step.pages) m.held).held (get_or step.pages k 0)).entries
            ∙ ap (λ (v : Moved).
            old.list.items ++ ((all_brought_in frames m.next m.known (pages_of step)
            (take k step.pages) m.held).entries ++ v.entries)) same_visit
            ∙ ap (λ es. old.list.items ++ es)
            (sym (entries-push frames m.next m.known (pages_of step) (take k step.pages)
            (get_or step.pages k 0) m.held))
            ∙ ap (λ ps. old.list.items ++ (all_brought_in frames m.next m.known
            (pages_of step) ps m.held).entries) (sym pages_more);
        kept = subst (λ w. Keeps frames w (outside (pages_of step)) new) same_moment brings.kept;
        done = λ j l. ⊎_elim (here j) (there j l) (cases_eq j k);
        left = λ j l within. under.left j (omega (arith, l)) within
            ∙ sym (stays j (λ e. absurd (omega (arith, e, l))) within);
      } where
        here : (j : ℕ) → j ≡ k
            → frame_if (get_or step.pages j 0)
            (resident (part frames (pages_of step) (take (k + 1) step.pages) m).held)
            ≡ Some (get_or (set at k frame) j 0)
        here j e = rw e
            (ap (λ (w : Moment). frame_if (get_or step.pages k 0) (resident w.held))
            (sym same_moment) ∙ brings.stands ∙ ap Some (sym (get_or-set_same at k frame 0 room)))

        there : (j : ℕ) → j < k + 1 → j ≢ k
            → frame_if (get_or step.pages j 0)
            (resident (part frames (pages_of step) (take (k + 1) step.pages) m).held)
            ≡ Some (get_or (set at k frame) j 0)
        there j l n = stays j n (omega (arith, l, below)) ∙ under.done j (omega (arith, l, n))
            ∙ ap Some (sym (get_or-set_other at k j frame 0 n))

    -- no page more
    pub IsServed-under : (now : Paging) (at : List ℕ) (k : ℕ) → k ≡ step.count
        → Keeps frames m (outside (pages_of step)) old → Under frames step k m old now found at
        → IsServed frames step m (outside (pages_of step)) old now at
    IsServed-under now at k all first under =
        let ended = subst (λ n. Under frames step n m old now found at) all under in
        let c = came_all frames m.next m.known (pages_of step) (resident m.held) few
        (pages_of step) m.held 0 (λ q i. i)
        (starts frames (pages_of step) (resident m.held)
        (λ x. is_in x m.known) m.next first.distinct
        (let l = length-resident m.held in let f = first.fits in omega (arith, l, f))) in
        record {
          list = ended.list;
          kept = ended.kept;
          stand = λ j within. at_frame
              (is_in (get_or step.pages j 0) (resident (served frames step m).held))
              (frame_of (get_or step.pages j 0) (resident (served frames step m).held))
              (get_or at j 0) (ended.done j within);
          has = c.has;
          inside = λ j within.
              let stands = at_frame
              (is_in (get_or step.pages j 0) (resident (served frames step m).held))
              (frame_of (get_or step.pages j 0) (resident (served frames step m).held))
              (get_or at j 0) (ended.done j within) in
              let below = frame_of-within (get_or step.pages j 0)
              (resident (served frames step m).held)
              (c.has (get_or step.pages j 0) (in_step step is long j within)) in
              let one = length-resident (served frames step m).held in
              let two = ap length ended.kept.dirty ∙ length-dirty (served frames step m).held in
              omega (arith, stands, below, one, two);
        }

-- The loops over the pages of a step.
is_in-take_more : (q k : ℕ) (xs : List ℕ) → k < length xs
    → is_in q (take (k + 1) xs) ≡ (is_in q (take k xs) || nat_eq q (get_or xs k 0))
is_in-take_more q k xs h = ap (is_in q) (take-more k xs h)
    ∙ is_in-more q (get_or xs k 0) (take k xs)

twice : (x a b : Bool) (o : Option ℕ)
    → cond (x && b) None (cond (x && a) None o) ≡ cond (x && (a || b)) None o
twice true true true o = refl
twice true true false o = refl
twice true false true o = refl
twice true false false o = refl
twice false a b o = refl

never : (b : Bool) (o w : Option ℕ) → cond (b && false) w o ≡ o
never true o w = refl
never false o w = refl

-- one page more was taken out
pub gone-more : (x : Bool) (q k : ℕ) (xs : List ℕ) (o : Option ℕ) → k < length xs
    → cond (x && nat_eq q (get_or xs k 0)) None (cond (x && is_in q (take k xs)) None o)
    ≡ cond (x && is_in q (take (k + 1) xs)) None o
gone-more x q k xs o h =
    twice x (is_in q (take k xs)) (nat_eq q (get_or xs k 0)) o
    ∙ ap (λ b. cond (x && b) None o) (sym (is_in-take_more q k xs h))

put_here : (a c : Bool) (s : ℕ) (o : Option ℕ)
    → cond (c && true) (Some s) (cond (a && c) (Some s) o) ≡ cond ((a || true) && c) (Some s) o
put_here true true s o = refl
put_here true false s o = refl
put_here false true s o = refl
put_here false false s o = refl

-- one page more was listed
pub put-more : (step : Step) (next at : List ℕ) (after stands : ℕ → ℕ) → AreBeside step next after
    → AreBeside step at stands → (k : ℕ) → k < step.count → step.count ≤ length step.pages
    → (n q : ℕ) (o : Option ℕ)
    → cond (nat_eq n (get_or next k 0) && nat_eq q (get_or step.pages k 0)) (Some (get_or at k 0))
    (cond (is_in q (take k step.pages) && nat_eq n (after q)) (Some (stands q)) o)
    ≡ cond (is_in q (take (k + 1) step.pages) && nat_eq n (after q)) (Some (stands q)) o
put-more step next at after stands a s k below long n q o =
    ⊎_elim here there (cases_eq q (get_or step.pages k 0))
    ∙ ap (λ b. cond (b && nat_eq n (after q)) (Some (stands q)) o)
    (sym (is_in-take_more q k step.pages (omega (arith, below, long))))
  where
    here : q ≡ get_or step.pages k 0
        → cond (nat_eq n (get_or next k 0) && nat_eq q (get_or step.pages k 0))
        (Some (get_or at k 0))
        (cond (is_in q (take k step.pages) && nat_eq n (after q)) (Some (stands q)) o)
        ≡ cond ((is_in q (take k step.pages) || nat_eq q (get_or step.pages k 0)) && nat_eq n
        (after q)) (Some (stands q)) o
    here e =
        let used : get_or next k 0 ≡ after q = a k below ∙ ap after (sym e) in
        let stand : get_or at k 0 ≡ stands q = s k below ∙ ap stands (sym e) in
        rw (used, stand, eq-eqb q (get_or step.pages k 0) e)
        (put_here (is_in q (take k step.pages)) (nat_eq n (after q)) (stands q) o)

    there : q ≢ get_or step.pages k 0
        → cond (nat_eq n (get_or next k 0) && nat_eq q (get_or step.pages k 0))
        (Some (get_or at k 0))
        (cond (is_in q (take k step.pages) && nat_eq n (after q)) (Some (stands q)) o)
        ≡ cond ((is_in q (take k step.pages) || nat_eq q (get_or step.pages k 0)) && nat_eq n
        (after q)) (Some (stands q)) o
    there ne =
        rw (ne_eqb q (get_or step.pages k 0) ne, or_false (is_in q (take k step.pages)))
        (never (nat_eq n (get_or next k 0))
        (cond (is_in q (take k step.pages) && nat_eq n (after q)) (Some (stands q)) o)
        (Some (get_or at k 0)))

-- what was found of page k, where none of the pages before it is it
pub found-here : (x : Bool) (b : Bool) (o : Option ℕ) → b ≡ false → cond (x && b) None o ≡ o
found-here x b o h = rw h (never x o None)

-- The pages of the step are taken out.
module _ (frames : ℕ) (step : Step) (t : ℕ) (m : Moment) (old mid : Paging)
    (k : Keeps frames (before step t m) any_page old) where
  taken : (a b c : Bool) (o : Option ℕ)
      → cond (a && b) None (cond (cond b a c) o None) ≡ cond (not b && c) o None
  taken true true c o = refl
  taken false true c o = refl
  taken true false c o = refl
  taken false false c o = refl

  used_at : (n q : ℕ) (b : Bool)
      → nat_eq n (cond b t (m.next q)) ≡ cond b (nat_eq n t) (nat_eq n (m.next q))
  used_at n q true = refl
  used_at n q false = refl

  pub Keeps-taken_out : mid.dirty.items ≡ old.dirty.items
      → ((q : ℕ) → contains nat_eq mid.seen q ≡ contains nat_eq old.seen q)
      → ((n q : ℕ) → frame_at mid.uses n q
      ≡ cond (nat_eq n t && is_in q (pages_of step)) None (frame_at old.uses n q))
      → Keeps frames m (outside (pages_of step)) mid
  Keeps-taken_out dirty seen gone = record {
    distinct = k.distinct;
    fits = k.fits;
    known = k.known;
    seen = λ q. seen q ∙ k.seen q;
    dirty = dirty ∙ k.dirty;
    uses = λ n q. gone n q
        ∙ ap (λ o. cond (nat_eq n t && is_in q (pages_of step)) None o) (k.uses n q)
        ∙ ap (λ b. cond (nat_eq n t && is_in q (pages_of step)) None
        (cond b (frame_if q (resident m.held)) None)) (used_at n q (is_in q (pages_of step)))
        ∙ taken (nat_eq n t) (is_in q (pages_of step)) (nat_eq n (m.next q))
        (frame_if q (resident m.held));
  }

  pub AreFound-taken_out : (found : List (Option ℕ)) → IsStep step → step.count ≤ length step.pages
      → ((j : ℕ) → j < step.count
      → get_or found j None ≡ frame_at old.uses t (get_or step.pages j 0))
      → AreFound step found (resident m.held)
  AreFound-taken_out found is long at j below =
      let q = get_or step.pages j 0 in
      let here = in_step step is long j below in
      at j below ∙ k.uses t (get_or step.pages j 0)
      ∙ ap (λ b. cond b (frame_if (get_or step.pages j 0) (resident m.held)) None)
      (used_at t (get_or step.pages j 0) (is_in (get_or step.pages j 0) (pages_of step)))
      ∙ ap (λ b. cond (cond b (nat_eq t t) (nat_eq t (m.next (get_or step.pages j 0))))
      (frame_if (get_or step.pages j 0) (resident m.held)) None) here
      ∙ ap (λ b. cond b (frame_if (get_or step.pages j 0) (resident m.held)) None) (eq-eqb t t refl)

-- The pages of the step are listed again.
listed_again : (b c : Bool) (i : Bool) (f : ℕ) → (b ≡ true → i ≡ true)
    → cond (b && c) (Some f) (cond (not b && c) (cond i (Some f) None) None)
    ≡ cond (true && c) (cond i (Some f) None) None
listed_again true true i f h = rw (h refl) refl
listed_again true false i f h = refl
listed_again false c i f h = refl

pub IsServed-put_in : (frames : ℕ) (step : Step) (m : Moment) (old mid new : Paging) (at : List ℕ)
    → IsServed frames step m (outside (pages_of step)) old mid at
    → new.list.items ≡ mid.list.items → new.dirty.items ≡ mid.dirty.items
    → ((q : ℕ) → contains nat_eq new.seen q ≡ contains nat_eq mid.seen q)
    → ((n q : ℕ) → frame_at new.uses n q
    ≡ cond (is_in q (pages_of step) && nat_eq n (m.next q))
    (Some (frame_of q (resident (served frames step m).held))) (frame_at mid.uses n q))
    → IsServed frames step m any_page old new at
IsServed-put_in frames step m old mid new at s list dirty seen put =
    let k = s.kept in
    record {
      list = list ∙ s.list;
      kept = record {
        distinct = k.distinct;
        fits = k.fits;
        known = k.known;
        seen = λ q. seen q ∙ k.seen q;
        dirty = dirty ∙ k.dirty;
        uses = λ n q. put n q
            ∙ ap (λ o. cond (is_in q (pages_of step) && nat_eq n (m.next q))
            (Some (frame_of q (resident (served frames step m).held))) o) (k.uses n q)
            ∙ listed_again (is_in q (pages_of step)) (nat_eq n (m.next q))
            (is_in q (resident (served frames step m).held))
            (frame_of q (resident (served frames step m).held)) (s.has q);
      };
      stand = s.stand;
      has = s.has;
      inside = λ k within. let below = s.inside k within in let same = ap length dirty in
          omega (arith, below, same);
    }

-- from one list to another
pub IsServed-from : (frames : ℕ) (step : Step) (m : Moment) (test : ℕ → Bool) (old mid new : Paging)
    (at : List ℕ) → mid.list.items ≡ old.list.items → IsServed frames step m test mid new at
    → IsServed frames step m test old new at
IsServed-from frames step m test old mid new at list s = record {
  list = s.list
      ∙ ap (λ l. l ++ (all_brought_in frames m.next m.known (pages_of step)
      (pages_of step) m.held).entries) list;
  kept = s.kept;
  stand = s.stand;
  has = s.has;
  inside = s.inside;
}
