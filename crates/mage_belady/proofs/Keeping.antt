-- What the code keeps stands for the rule's frames while the pages of a step come in.
use Rattle.std.proofs.Common.{◌≡◌, ◌≢◌, ◌<◌, ◌≤◌, ◌&&◌, ◌||◌, ℕ, List, [], ◌∷◌, ◌++◌, Bool, true, false, not, cond, length, get_or, set, nat_eq, nat_lt, Option, Some, None, is_some, IsSome, IfSome, IfNone, subst, inl, inr, refl, sym, ◌∙◌, ap, arith, ⊎_elim, append-nil, true≢false}
use Rattle.std.specs.HashSet.{contains}
use Rattle.std.specs.List.{filter}
use Rattle.std.proofs.lemmas.Bool.{false≢true, eq-eqb, eqb-true, ne_eqb, cases_eq, ltb-false}
use Rattle.std.proofs.lemmas.List.Folds.{list_any-append}
use Rattle.mage_instr.specs.declared.instr.TheConstants.{NEVER}
use Rattle.mage_instr.specs.declared.replaced.Replaced.TheVariants as entry
use Rattle.mage_belady.specs.declared.paging.Paging.{Paging}
use Rattle.mage_belady.specs.declared.use_map.Listed.{Listed}
use Rattle.mage_belady.specs.Plan.{is_in}
use Rattle.mage_belady.specs.Rule.{Held, resident, frame_of, victim_of, into_victims, brought_in, visited}
use Rattle.mage_belady.specs.Uses.{frame_at, IsLast}
use Rattle.mage_belady.specs.Kept.{Moment, Keeps, Brings, TakesFree, TakesOver, frame_if, dirty_of, listing, outside, came, comes_into, saved}
use Rattle.mage_belady.proofs.Sets.{IsBefore, is_in-set, is_in-push, is_in-push_old, is_in-push_new, is_in-set_same, frame_of-within, is_in-filter, filter-is_in, victim_of-unique}
use Rattle.mage_belady.proofs.Going.{Leaves, Leaves-victim_of, some_outside, starts}
use Rattle.mage_belady.proofs.Bringing.{came_one, resident-set, resident-push, length-resident}
use Rattle.mage_belady.proofs.Moved.{frame_of-push_new, frame_if-push, frame_if-set, frame_of-set_new, frame_if-set_victim, dirty-push, dirty-set, dirty-at, length-dirty}

-- an optional frame under three tests
record Found (a b c : Bool) (f g : ℕ) : Type 0 where
  first : a ≡ true
  second : b ≡ true
  third : c ≡ true
  same : f ≡ g

found : (a b c : Bool) (f g : ℕ) → cond (a && b) (cond c (Some f) None) None ≡ Some g
    → Found a b c f g
found true true true f g e = record { first = refl; second = refl; third = refl; same = cc }
found true true false f g e = absurd (true≢false (ap is_some (sym e)))
found true false c f g e = absurd (true≢false (ap is_some (sym e)))
found false b c f g e = absurd (true≢false (ap is_some (sym e)))

pub some_unless : {X : Type 0} (o : Option X) (P : Type 0) → IfNone o P → (P → ⊥) → IsSome o
some_unless None P h never = absurd (never h)
some_unless (Some x) P h never = refl

pub at_some : {X : Type 0} (o : Option X) (x : X) (P : X → Type 0) → o ≡ Some x → IfSome o P → P x
at_some o x P e h = subst (λ p. IfSome p P) e h

not-true : (b : Bool) → not b ≡ true → b ≡ false
not-true true h = absurd (false≢true h)
not-true false h = refl

or-true : (a b : Bool) → b ≡ true → (a || b) ≡ true
or-true true b h = refl
or-true false b h = h

or_false : (b : Bool) → (b || false) ≡ b
or_false true = refl
or_false false = refl

pub is_in-more : (q p : ℕ) (xs : List ℕ) → is_in q (xs ++ p ∷ []) ≡ (is_in q xs || nat_eq q p)
is_in-more q p xs = list_any-append (nat_eq q) xs (p ∷ [])
    ∙ ap (λ b. is_in q xs || b) (or_false (nat_eq q p))

-- one more page, which was among them
is_in-again : (q p : ℕ) (xs : List ℕ) → is_in p xs ≡ true → is_in q (xs ++ p ∷ []) ≡ is_in q xs
is_in-again q p xs h = is_in-more q p xs
    ∙ go (nat_eq q p) (is_in q xs) refl (λ e. ap (λ y. is_in y xs) e ∙ h) where
      go : (c b : Bool) → nat_eq q p ≡ c → (q ≡ p → b ≡ true) → (b || c) ≡ b
      go true b e m = or-true b true refl ∙ sym (m (eqb-true q p e))
      go false b e m = or_false b

-- pages outside a step are listed alike where they are in the same frames
listing-same : (S : List ℕ) (n q : ℕ) (next : ℕ → ℕ) (held after : List Held) (known more : List ℕ)
    → (is_in q S ≡ false → frame_if q (resident after) ≡ frame_if q (resident held))
    → listing (outside S) (record { held = held; next = next; known = known }) n q
    ≡ listing (outside S) (record { held = after; next = next; known = more }) n q
listing-same S n q next held after known more h = go (is_in q S) h where
  go : (b : Bool) → (b ≡ false → frame_if q (resident after) ≡ frame_if q (resident held))
      → cond (not b && nat_eq n (next q)) (frame_if q (resident held)) None
      ≡ cond (not b && nat_eq n (next q)) (frame_if q (resident after)) None
  go true e = refl
  go false e = ap (λ o. cond (nat_eq n (next q)) o None) (sym (e refl))

-- what is emitted where a page takes a victim's frame, from the values that the code computes
taken_over : (next : ℕ → ℕ) (seen S : List ℕ) (held : List Held) (page v f n : ℕ) (b again : Bool)
    → v ≡ victim_of next (filter (λ p. not (is_in p S)) (resident held))
    → f ≡ frame_of v (resident held)
    → n ≡ next v → b ≡ get_or (dirty_of held) f false → again ≡ is_in page seen
    → cond (b && not (nat_eq n NEVER)) (entry.Save f v ∷ []) [] ++ comes_into again f page ∷ []
    ≡ (into_victims next seen S held page).entries
taken_over next seen S held page v f n b again is at used dirty had =
    rw (dirty ∙ dirty-at held f, had, used, at, is) refl

-- a visit looks at the pages that came in before for this page alone
pub visited-known : (frames : ℕ) (next : ℕ → ℕ) (seen more S : List ℕ) (held : List Held) (page : ℕ)
    → is_in page more ≡ is_in page seen
    → visited frames next more S held page ≡ visited frames next seen S held page
visited-known frames next seen more S held page e = rw e refl

module _ (frames : ℕ) (S : List ℕ) (m : Moment) (p : ℕ) (few : length S ≤ frames)
    (needed : is_in p S ≡ true) (old : Paging) (k : Keeps frames m (outside S) old) where
  -- a page that is in memory
  pub Brings-found : (frame : ℕ) → Some frame ≡ frame_if p (resident m.held)
      → Brings frames S p m old old frame
  Brings-found frame e = go (is_in p (resident m.held)) refl e where
    go : (b : Bool) → is_in p (resident m.held) ≡ b
        → Some frame ≡ cond b (Some (frame_of p (resident m.held))) None
        → Brings frames S p m old old frame
    go false h e = absurd (true≢false (ap is_some e))
    go true h e = record {
      list = rw h (sym (append-nil old.list.items));
      kept = record {
        distinct = rw h k.distinct;
        fits = rw h k.fits;
        known = λ q i. is_in-again q p m.known (k.known p h) ∙ k.known q (rw h at i);
        seen = λ q. k.seen q ∙ sym (is_in-again q p m.known (k.known p h));
        dirty = rw h k.dirty;
        uses = λ n q. rw h (k.uses n q);
      };
      stands = rw (h, h) (sym e);
    }

  module _ (missing : is_in p (resident m.held) ≡ false) where
    R : List ℕ
    R = resident m.held

    apart : (q : ℕ) → is_in q S ≡ false → q ≢ p
    apart q out e = false≢true (sym out ∙ ap (λ y. is_in y S) e ∙ needed)

    module _ (mid new : Paging) (again : Bool) (frame : ℕ) (list : mid.list.items ≡ old.list.items)
        (dirty : mid.dirty.items ≡ old.dirty.items)
        (seen : (q : ℕ) → contains nat_eq mid.seen q ≡ (contains nat_eq old.seen q || nat_eq q p))
        (had : again ≡ contains nat_eq old.seen p) where
      now_seen : (q : ℕ) → contains nat_eq mid.seen q ≡ is_in q (m.known ++ p ∷ [])
      now_seen q = seen q ∙ ap (λ b. b || nat_eq q p) (k.seen q) ∙ sym (is_in-more q p m.known)

      was_known : again ≡ is_in p m.known
      was_known = had ∙ k.seen p

      -- a free frame takes the page
      pub Brings-free : nat_lt (length m.held) frames ≡ true
          → ((n q : ℕ) → frame_at mid.uses n q ≡ frame_at old.uses n q)
          → TakesFree mid new again p frame → Brings frames S p m old new frame
      unfolding now_seen was_known apart
      Brings-free room uses takes =
          let c = came_one frames m.next m.known S (resident m.held) few m.held 0 p
          (starts frames S (resident m.held) (λ x. is_in x m.known) m.next k.distinct
          (let l = length-resident m.held in let f = k.fits in omega (arith, l, f))) needed
          missing in
          let distinct = c.going.distinct in
          let fits = c.going.fits in
          let pushed = resident-push m.held (record { page = p; dirty = false }) in
          let long = length-resident m.held in
          let size = length-dirty m.held in
          let at : frame ≡ length m.held = takes.taken ∙ ap length dirty ∙ ap length k.dirty
          ∙ size in
          record {
            list = rw (missing, room)
                (takes.list ∙ ap (λ l. l ++ comes_into again frame p ∷ []) list
                ∙ ap (λ b. old.list.items ++ comes_into b frame p ∷ []) was_known
                ∙ ap (λ f. old.list.items ++ comes_into (is_in p m.known) f p ∷ []) at);
            kept = record {
              distinct = rw missing distinct;
              fits = rw missing
                  (let l = length-resident (brought_in frames m.next m.known S m.held p).held in
                  omega (arith, fits, l));
              known = λ q i. ⊎_elim (λ e. rw e (is_in-push_new m.known p))
                  (λ r. is_in-push_old q m.known p (k.known q r))
                  (is_in-push q (resident m.held) p (rw (missing, room, pushed) at i));
              seen = λ q. rw takes.seen (now_seen q);
              dirty = rw (missing, room)
                  (takes.dirty ∙ ap (λ ds. ds ++ false ∷ []) (dirty ∙ k.dirty)
                  ∙ sym (dirty-push m.held (record { page = p; dirty = false })));
              uses = λ n q. rw (missing, room)
                  (ap (λ u. frame_at u n q) takes.uses ∙ uses n q ∙ k.uses n q
                  ∙ listing-same S n q m.next m.held
                  (m.held ++ record { page = p; dirty = false } ∷ []) m.known
                  (m.known ++ p ∷ [])
                  (λ out. ap (frame_if q) pushed
                  ∙ frame_if-push q p (resident m.held) (apart q out)));
            };
            stands = rw (missing, room, pushed, is_in-push_new (resident m.held) p)
                (ap Some (frame_of-push_new p (resident m.held) missing ∙ long ∙ sym at));
          }

    -- a victim outside the step, where all frames are in use
    leaves : frames ≤ length m.held
        → Leaves S (resident m.held) m.next
        (victim_of m.next (filter (λ q. not (is_in q S)) (resident m.held)))
    leaves full =
        let long = length-resident m.held in
        Leaves-victim_of S (resident m.held) m.next
        (some_outside frames S (resident m.held) p k.distinct needed missing few
        (omega (arith, full, long)))

    -- there is a page that may leave
    pub some_listed : frames ≤ length m.held → ((n q : ℕ) → frame_at old.uses n q ≡ None) → ⊥
    some_listed full none =
        let v = victim_of m.next (filter (λ q. not (is_in q S)) (resident m.held)) in
        let gone = leaves full in
        let here : listing (outside S) m (m.next v) v
        ≡ Some (frame_of v (resident m.held)) =
        rw (gone.outside, gone.here, eq-eqb (m.next v) (m.next v) refl) refl in
        true≢false (ap is_some (sym here ∙ sym (k.uses (m.next v) v) ∙ none (m.next v) v))

    module _ (last : Listed) (is : IsLast old.uses last) where
      -- what is listed last is the rule's victim
      listed : Found (not (is_in last.page S)) (nat_eq last.next (m.next last.page))
          (is_in last.page (resident m.held)) (frame_of last.page (resident m.held)) last.frame
      listed = found (not (is_in last.page S)) (nat_eq last.next (m.next last.page))
          (is_in last.page (resident m.held)) (frame_of last.page (resident m.held)) last.frame
          (sym (k.uses last.next last.page) ∙ is.listed)

      first : (x : ℕ) → is_in x (filter (λ q. not (is_in q S)) (resident m.held)) ≡ true
          → IsBefore m.next x last.page
      unfolding listed
      first x i =
          let both = is_in-filter (λ q. not (is_in q S)) x (resident m.held) i in
          let used = eqb-true last.next (m.next last.page) listed.second in
          let here : listing (outside S) m (m.next x) x
          ≡ Some (frame_of x (resident m.held)) =
          rw (both.1, both.0, eq-eqb (m.next x) (m.next x) refl) refl in
          let some : IsSome (frame_at old.uses (m.next x) x) =
          rw (k.uses (m.next x) x, here) refl in
          ⊎_elim (λ l. inl (omega (arith, l, used))) (λ e. inr (omega (arith, e.0, used), e.1))
          (is.first (m.next x) x some)

      pub is_victim : last.page ≡ victim_of m.next (filter (λ q. not (is_in q S)) (resident m.held))
      unfolding listed first
      is_victim = victim_of-unique m.next last.page
          (filter (λ q. not (is_in q S)) (resident m.held))
          (filter-is_in (λ q. not (is_in q S)) last.page
          (resident m.held) listed.third listed.first) first

      pub last-within : last.frame < length old.dirty.items
      unfolding listed
      last-within =
          let within = frame_of-within last.page (resident m.held) listed.third in
          let long = length-resident m.held in
          let size = ap length k.dirty ∙ length-dirty m.held in
          let at = listed.same in
          omega (arith, within, long, size, at)

      gone : (a b : Bool) (o : Option ℕ) → cond (b && true) None (cond (a && b) o None) ≡ None
      gone a true o = refl
      gone true false o = refl
      gone false false o = refl

      none_either : (b : Bool) → cond {A = Option ℕ} b None None ≡ None
      none_either true = refl
      none_either false = refl

      kept_other : (b : Bool) (o : Option ℕ) → cond (b && false) None o ≡ o
      kept_other true o = refl
      kept_other false o = refl

      held' : List Held
      held' = set m.held (frame_of last.page (resident m.held)) (record { page = p; dirty = false })

      other_page : last.page ≢ p
      unfolding listed
      other_page e =
          false≢true (sym missing ∙ ap (λ y. is_in y (resident m.held)) (sym e) ∙ listed.third)

      now_resident : resident
          (set m.held (frame_of last.page (resident m.held)) (record { page = p; dirty = false }))
          ≡ set (resident m.held) (frame_of last.page (resident m.held)) p
      now_resident =
          resident-set m.held (frame_of last.page (resident m.held))
          (record { page = p; dirty = false })

      -- the map once the victim was taken out lists the pages that are left
      listed_after : (n q : ℕ)
          → cond (nat_eq n last.next && nat_eq q last.page) None (frame_at old.uses n q)
          ≡ listing (outside S)
          (record {
            held =
                set m.held (frame_of last.page (resident m.held))
                (record { page = p; dirty = false });
            next = m.next;
            known = m.known ++ p ∷ [];
          }) n q
      unfolding listed other_page now_resident apart
      listed_after n q = ⊎_elim same other (cases_eq q last.page) where
        used : last.next ≡ m.next last.page
        used = eqb-true last.next (m.next last.page) listed.second

        same : q ≡ last.page
            → cond (nat_eq n last.next && nat_eq q last.page) None (frame_at old.uses n q)
            ≡ listing (outside S)
            (record {
              held =
                  set m.held (frame_of last.page (resident m.held))
                  (record { page = p; dirty = false });
              next = m.next;
              known = m.known ++ p ∷ [];
            }) n
            q
        same e =
            let here : cond (nat_eq n last.next && nat_eq q last.page) None (frame_at old.uses n q)
            ≡ None = rw (e, k.uses n last.page, used, eq-eqb last.page last.page refl)
            (gone (not (is_in last.page S)) (nat_eq n (m.next last.page))
            (frame_if last.page (resident m.held))) in
            let out : frame_if q
            (resident (set m.held (frame_of last.page (resident m.held))
            (record { page = p; dirty = false })))
            ≡ None = rw (e, now_resident)
            (frame_if-set_victim p last.page
            (resident m.held) k.distinct listed.third other_page) in
            here ∙ sym (ap (λ o. cond (not (is_in q S) && nat_eq n (m.next q)) o None) out
            ∙ none_either (not (is_in q S) && nat_eq n (m.next q)))

        other : q ≢ last.page
            → cond (nat_eq n last.next && nat_eq q last.page) None (frame_at old.uses n q)
            ≡ listing (outside S)
            (record {
              held =
                  set m.held (frame_of last.page (resident m.held))
                  (record { page = p; dirty = false });
              next = m.next;
              known = m.known ++ p ∷ [];
            }) n
            q
        other ne =
            ap (λ b. cond (nat_eq n last.next && b) None (frame_at old.uses n q))
            (ne_eqb q last.page ne)
            ∙ kept_other (nat_eq n last.next) (frame_at old.uses n q)
            ∙ k.uses n q
            ∙ listing-same S n q m.next m.held
            (set m.held (frame_of last.page (resident m.held))
            (record { page = p; dirty = false })) m.known (m.known ++ p ∷ [])
            (λ out. ap (frame_if q) now_resident
            ∙ frame_if-set q p last.page (resident m.held) listed.third (apart q out) ne)

      -- the victim's frame takes the page
      pub Brings-full : (mid new : Paging) (again : Bool) (frame : ℕ)
          (list : mid.list.items ≡ old.list.items) (dirty : mid.dirty.items ≡ old.dirty.items)
          (seen : (q : ℕ) → contains nat_eq mid.seen q ≡ (contains nat_eq old.seen q || nat_eq q p))
          (had : again ≡ contains nat_eq old.seen p)
          → nat_lt (length m.held) frames ≡ false
          → ((n q : ℕ) → frame_at mid.uses n q
          ≡ cond (nat_eq n last.next && nat_eq q last.page) None (frame_at old.uses n q))
          → TakesOver mid new last again p frame → Brings frames S p m old new frame
      unfolding listed now_resident
      Brings-full mid new again frame list dirty seen had room uses takes =
          let c = came_one frames m.next m.known S (resident m.held) few m.held 0 p
          (starts frames S (resident m.held) (λ x. is_in x m.known) m.next k.distinct
          (let l = length-resident m.held in let f = k.fits in omega (arith, l, f))) needed
          missing in
          let distinct = c.going.distinct in
          let fits = c.going.fits in
          let within = frame_of-within last.page (resident m.held) listed.third in
          let used = eqb-true last.next (m.next last.page) listed.second in
          let had_before = was_known mid new again frame list dirty seen had in
          let was_dirty : get_or mid.dirty.items last.frame false
          ≡ get_or (dirty_of m.held) last.frame false =
          ap (λ ds. get_or ds last.frame false) (dirty ∙ k.dirty) in
          record {
            list = rw (missing, room) (takes.list
                ∙ ap (λ l. l ++ (saved
                (get_or mid.dirty.items last.frame false) last ++ comes_into again frame
                p ∷ [])) list
                ∙ ap (λ f. old.list.items ++ (saved
                (get_or mid.dirty.items last.frame false) last ++ comes_into again f p ∷ []))
                takes.taken
                ∙ ap (λ es. old.list.items ++ es)
                (taken_over m.next m.known S m.held p last.page last.frame last.next
                (get_or mid.dirty.items last.frame false) again is_victim
                (sym listed.same) used was_dirty had_before));
            kept = record {
              distinct = rw missing distinct;
              fits = rw missing
                  (let l = length-resident (brought_in frames m.next m.known S m.held p).held in
                  omega (arith, fits, l));
              known = λ q i. ⊎_elim (λ e. rw e (is_in-push_new m.known p))
                  (λ r. is_in-push_old q m.known p (k.known q r))
                  (is_in-set q (resident m.held) (frame_of last.page (resident m.held)) p
                  (rw (missing, room, ← is_victim, now_resident) at i));
              seen = λ q. rw takes.seen (now_seen mid new again frame list dirty seen had q);
              dirty = rw (missing, room, ← is_victim)
                  (takes.dirty ∙ ap (λ ds. set ds last.frame false) (dirty ∙ k.dirty)
                  ∙ ap (λ f. set (dirty_of m.held) f false) (sym listed.same)
                  ∙ sym (dirty-set m.held (frame_of last.page (resident m.held))
                  (record { page = p; dirty = false })));
              uses = λ n q. rw (missing, room, ← is_victim)
                  (ap (λ u. frame_at u n q) takes.uses ∙ uses n q ∙ listed_after n q);
            };
            stands = rw (
              missing,
              room,
              ← is_victim,
              now_resident,
              is_in-set_same (resident m.held)
                  (frame_of last.page (resident m.held)) p within,
            )
                (ap Some (frame_of-set_new p last.page (resident m.held) missing listed.third
                ∙ listed.same ∙ sym takes.taken));
          }

  -- another page of the step is where it was
  pub frame_if-came : (q : ℕ) → is_in q S ≡ true → q ≢ p
      → frame_if q (resident (came frames S p m).held) ≡ frame_if q (resident m.held)
  frame_if-came q in_step n =
      go (is_in p (resident m.held)) (nat_lt (length m.held) frames) refl refl where
        go : (b c : Bool) → is_in p (resident m.held) ≡ b → nat_lt (length m.held) frames ≡ c
            → frame_if q (resident (came frames S p m).held) ≡ frame_if q (resident m.held)
        go true c h r = rw h refl
        go false true h r =
            rw (h, r, resident-push m.held (record { page = p; dirty = false }))
            (frame_if-push q p (resident m.held) n)
        go false false h r =
            let gone = leaves h (ltb-false (length m.held) frames r) in
            let v = victim_of m.next (filter (λ x. not (is_in x S)) (resident m.held)) in
            rw (
              h,
              r,
              resident-set m.held
                  (frame_of (victim_of m.next (filter (λ x. not (is_in x S)) (resident m.held)))
                  (resident m.held)) (record { page = p; dirty = false }),
            )
            (frame_if-set q p (victim_of m.next (filter (λ x. not (is_in x S)) (resident m.held)))
            (resident m.held) gone.here n
            (λ e. false≢true (sym gone.outside ∙ ap (λ x. is_in x S) (sym e) ∙ in_step)))
