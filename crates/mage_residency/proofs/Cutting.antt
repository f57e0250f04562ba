-- The walk with slots goes beside the plain walk.
use Rattle.std.proofs.Common.{◌≡◌, ◌≢◌, ◌<◌, ◌+◌, ◌&&◌, ◌⊎◌, inl, inr, zero, suc, ℕ, Bool, true, false, not, List, [], ◌∷◌, ◌++◌, Option, None, Some, IsSomeAnd, length, get_or, set, replicate, ltb, refl, sym, ◌∙◌, ap, arith, ⊎_elim, subst}
use Rattle.std.specs.Prelude.{slice_get, is_some, nat_eq}
use Rattle.std.specs.List.{list_any, list_all}
use Rattle.std.proofs.lemmas.Bool.{cases_lt, cases_eq, and_from, eq-eqb, ne_eqb, eqb-true, lt-ltb, false≢true}
use Rattle.std.proofs.lemmas.List.{length-set, length-replicate, get_or-set_same, get_or-set_other, get_or_past}
use Rattle.std.proofs.lemmas.Option.{slice_get-get_or}
use Rattle.mage_instr.specs.declared.instr.Instr.{Instr}
use Rattle.mage_instr.specs.declared.replaced.Job.{Job}
use Rattle.mage_instr.specs.declared.replaced.Replaced.{Replaced}
use Rattle.mage_instr.specs.declared.directive.Directive.{Directive}
use Rattle.mage_instr.specs.declared.directive.Directive.TheVariants as directive
use Rattle.mage_carry.specs.State.{Content, nothing, Slot, Idle, Reads, Writes, State, is_idle, names, has, may_name, may_issue, with_frame, with_slot, with_page, got}
use Rattle.mage_carry.specs.Steps.{◌>>=◌, provided, fresh, page_read, finish_in, issue_out, finish_out, do_job, step_of}
use Rattle.mage_carry.specs.Carrying.{start, unless_broken, walked, broken_at, break_of}
use Rattle.mage_carry.proofs.Chains.{same_Some, then_some, provided_some}
use Rattle.mage_residency.specs.Plain.{load, save, entry_done, all_done}
use Rattle.mage_residency.proofs.Beside.{beside, job_beside}
use Rattle.mage_sched.specs.declared.slot.Slot.{Slot as Doing}
use Rattle.mage_sched.specs.declared.slot.Slot.TheVariants as state
use Rattle.mage_sched.specs.Issues.{put}
use Rattle.mage_sched.specs.Turns.{Flight, at_rest, is_for, stored_by, flight_after, IsFree, IsInTurn, AreInTurn}
use Rattle.mage_sched.specs.Plainly.{page_of, plain_entry, plainly}
use Rattle.mage_sched.specs.Scheduled.{IsBelow, AreBelow}
use Rattle.mage_residency.specs.Cut.{CutTransfersCarry}

-- what a slot of the walk is doing
abbrev pub doing : Slot → Doing
doing Idle = state.Idle
doing (Reads page) = state.Reads page
doing (Writes page content) = state.Writes page

given : {A : Type 0} (b : Bool) (x : A) → b ≡ true → provided b x ≡ Some x
given b x h = rw h refl

-- kinds of slots

is_resting : (x : Slot) → doing x ≡ state.Idle → is_idle x ≡ true
is_resting Idle h = refl
is_resting (Reads page) h = absurd (cc)
is_resting (Writes page content) h = absurd (cc)

is_reading : (x : Slot) (page : ℕ) → doing x ≡ state.Reads page → x ≡ Reads page
is_reading Idle page h = absurd (cc)
is_reading (Reads other) page h = ap Reads (ap page_of h)
is_reading (Writes other content) page h = absurd (cc)

is_writing : (x : Slot) (page : ℕ) → doing x ≡ state.Writes page → (content : Content) × (x ≡ Writes page content)
is_writing Idle page h = absurd (cc)
is_writing (Reads other) page h = absurd (cc)
is_writing (Writes other content) page h = (content, ap (λ q. Writes q content) (ap page_of h))

same_test : (a b : ℕ) → nat_eq a b ≡ nat_eq b a
same_test a b = go (nat_eq a b) (nat_eq b a) refl refl where
  go : (x y : Bool) → nat_eq a b ≡ x → nat_eq b a ≡ y → nat_eq a b ≡ nat_eq b a
  go true y e f = e ∙ sym (eq-eqb b a (sym (eqb-true a b e)))
  go false true e f = eq-eqb a b (sym (eqb-true b a f)) ∙ sym f
  go false false e f = e ∙ sym f

names-doing : (page : ℕ) (x : Slot) → names page x ≡ is_for (doing x) page
names-doing page Idle = refl
names-doing page (Reads other) = same_test page other
names-doing page (Writes other content) = same_test page other

none_names : (page : ℕ) (xs : List Slot) → ((i : ℕ) → is_for (doing (get_or xs i Idle)) page ≡ false) → list_any (names page) xs ≡ false
none_names page [] h = refl
none_names page (x ∷ xs) h = rw (names-doing page x, h 0) (none_names page xs (λ i. h (suc i)))

resting_not_writing : (q : ℕ) → state.Idle ≢ state.Writes q
resting_not_writing q h = cc

reading_not_writing : (page q : ℕ) → state.Reads page ≢ state.Writes q
reading_not_writing page q h = cc

resting_not_reading : (q : ℕ) → state.Idle ≢ state.Reads q
resting_not_reading q h = cc

idle_not_writes : (q : ℕ) (content : Content) → Idle ≢ Writes q content
idle_not_writes q content h = cc

reads_not_writes : (page q : ℕ) (content : Content) → Reads page ≢ Writes q content
reads_not_writes page q content h = cc

-- what a slot writes
abbrev sent_by : Slot → Content
sent_by Idle = nothing
sent_by (Reads page) = nothing
sent_by (Writes page content) = content

same_content : (page q : ℕ) (content other : Content) → Writes page content ≡ Writes q other → content ≡ other
same_content page q content other e = ap sent_by e

-- what a slot does, once one of them does something else

put_here : {A : Type 0} (at : ℕ) (new : A) (old : ℕ → A) (i : ℕ) → at ≡ i → put at new old i ≡ new
put_here at new old i e = rw (eq-eqb at i e) refl

put_there : {A : Type 0} (at : ℕ) (new : A) (old : ℕ → A) (i : ℕ) → at ≢ i → put at new old i ≡ old i
put_there at new old i ne = rw (ne_eqb at i ne) refl

each_set : (slots : List Slot) (does : ℕ → Doing) (slot : ℕ) (x : Slot) → slot < length slots → ((i : ℕ) → doing (get_or slots i Idle) ≡ does i) → (i : ℕ) → doing (get_or (set slots slot x) i Idle) ≡ put slot (doing x) does i
each_set slots does slot x within each i = ⊎_elim here there (cases_eq slot i) where
  here : slot ≡ i → doing (get_or (set slots slot x) i Idle) ≡ put slot (doing x) does i
  here e = ap (λ n. doing (get_or (set slots slot x) n Idle)) (sym e) ∙ ap doing (get_or-set_same slots slot x Idle within) ∙ sym (put_here slot (doing x) does i e)

  there : slot ≢ i → doing (get_or (set slots slot x) i Idle) ≡ put slot (doing x) does i
  there ne = ap doing (get_or-set_other slots slot i x Idle (λ e. ne (sym e))) ∙ each i ∙ sym (put_there slot (doing x) does i ne)

-- a slot is the one that was set, or as it was
new_or_old : (slots : List Slot) (slot : ℕ) (x y : Slot) (i : ℕ) → slot < length slots → get_or (set slots slot x) i Idle ≡ y → ((slot ≡ i) × (x ≡ y)) ⊎ ((slot ≢ i) × (get_or slots i Idle ≡ y))
new_or_old slots slot x y i within is = ⊎_elim (λ e. inl (e, sym (get_or-set_same slots slot x Idle within) ∙ ap (λ n. get_or (set slots slot x) n Idle) e ∙ is)) (λ ne. inr (ne, sym (get_or-set_other slots slot i x Idle (λ e. ne (sym e))) ∙ is)) (cases_eq slot i)

abbrev pub AreApart : (ℕ → Doing) → Type 0
AreApart does = (i j q : ℕ) → is_for (does i) q ≡ true → is_for (does j) q ≡ true → i ≡ j

apart_put : (does : ℕ → Doing) (slot : ℕ) (y : Doing) → ((q : ℕ) → is_for y q ≡ true → (other : ℕ) → is_for (does other) q ≡ false) → AreApart does → AreApart (put slot y does)
apart_put does slot y alone apart i j q for_i for_j = ⊎_elim (λ e. ⊎_elim (λ f. sym e ∙ f) (λ nf. absurd (first e nf)) (cases_eq slot j)) (λ ne. ⊎_elim (λ f. absurd (second ne f)) (third ne) (cases_eq slot j)) (cases_eq slot i) where
  first : slot ≡ i → slot ≢ j → ⊥
  first e nf =
      let new : is_for y q ≡ true = ap (λ (x : Doing). is_for x q) (sym (put_here slot y does i e)) ∙ for_i in
      let old : is_for (does j) q ≡ true = ap (λ (x : Doing). is_for x q) (sym (put_there slot y does j nf)) ∙ for_j in
      false≢true (sym (alone q new j) ∙ old)

  second : slot ≢ i → slot ≡ j → ⊥
  second ne f =
      let new : is_for y q ≡ true = ap (λ (x : Doing). is_for x q) (sym (put_here slot y does j f)) ∙ for_j in
      let old : is_for (does i) q ≡ true = ap (λ (x : Doing). is_for x q) (sym (put_there slot y does i ne)) ∙ for_i in
      false≢true (sym (alone q new i) ∙ old)

  third : slot ≢ i → slot ≢ j → i ≡ j
  third ne nf = apart i j q (ap (λ (x : Doing). is_for x q) (sym (put_there slot y does i ne)) ∙ for_i) (ap (λ (x : Doing). is_for x q) (sym (put_there slot y does j nf)) ∙ for_j)

resting_alone : (does : ℕ → Doing) (q : ℕ) → is_for state.Idle q ≡ true → (other : ℕ) → is_for (does other) q ≡ false
resting_alone does q h = absurd (false≢true h)

-- a page that no slot writes then was written by none before, but for the slot that was set
unwritten : (does : ℕ → Doing) (slot : ℕ) (y : Doing) (q : ℕ) → does slot ≢ state.Writes q → ((i : ℕ) → put slot y does i ≢ state.Writes q) → (i : ℕ) → does i ≢ state.Writes q
unwritten does slot y q differs none i is = ⊎_elim (λ e. differs (ap does e ∙ is)) (λ ne. none i (put_there slot y does i ne ∙ is)) (cases_eq slot i)

module _ (buffer store wires : ℕ) (instrs : List Instr) where
  -- The walk with slots stands beside the plain one. What a slot writes the plain walk has written already.
  pub record IsCut (flight : Flight) (s p : State) : Type 0 where
    pub frames : s.frames ≡ p.frames
    pub next : s.next ≡ p.next
    pub slots : length s.slots ≡ buffer
    pub each : (i : ℕ) → doing (get_or s.slots i Idle) ≡ flight.does i
    pub stored : (q : ℕ) → is_some (s.pages q) ≡ flight.stored q
    pub written : (i q : ℕ) (content : Content) → get_or s.slots i Idle ≡ Writes q content → p.pages q ≡ Some content
    pub others : (q : ℕ) → ((i : ℕ) → flight.does i ≢ state.Writes q) → p.pages q ≡ s.pages q
    pub apart : AreApart flight.does

  -- one directive
  abbrev pub Goes : Directive → Flight → (s p : State) → Type 0
  Goes one flight s p = (after : State) × (step_of instrs wires store s one ≡ Some after) × IsCut (flight_after one flight) after p

  framed : (flight : Flight) (s p : State) (f : ℕ) (content : Content) → IsCut flight s p → IsCut flight (with_frame f content s) (with_frame f content p)
  framed flight s p f content c = record {
    frames = ap (λ xs. set xs f content) c.frames;
    next = c.next;
    slots = c.slots;
    each = c.each;
    stored = c.stored;
    written = c.written;
    others = c.others;
    apart = c.apart;
  }

  there : (flight : Flight) (s p : State) (f : ℕ) → IsCut flight s p → ltb f (length p.frames) ≡ true → ltb f (length s.frames) ≡ true
  there flight s p f c h = ap (λ xs. ltb f (length xs)) c.frames ∙ h

  goes_fresh : (flight : Flight) (s p after : State) (f page : ℕ) → IsCut flight s p → fresh f p ≡ Some after → Goes (directive.Fresh f page) flight s after
  goes_fresh flight s p after f page c h =
      let both = provided_some (ltb f (length p.frames)) (with_frame f nothing p) after h in (
        with_frame f nothing s,
        given (ltb f (length s.frames)) (with_frame f nothing s) (there flight s p f c both.0),
        subst (λ x. IsCut flight (with_frame f nothing s) x) both.1 (framed flight s p f nothing c),
      )

  within : (flight : Flight) (s p : State) (slot : ℕ) → IsCut flight s p → flight.does slot ≢ state.Idle → slot < length s.slots
  within flight s p slot c busy = ⊎_elim (λ l. l) (λ past. absurd (busy (sym (c.each slot) ∙ ap doing (get_or_past s.slots slot Idle past)))) (cases_lt slot (length s.slots))

  may : (flight : Flight) (s p : State) (slot page : ℕ) → IsCut flight s p → IsFree buffer flight slot page → page < store → may_issue store slot page s.slots ≡ true
  may flight s p slot page c free below =
      let long = c.slots in
      let inside : slot < length s.slots = let l = free.within in omega (arith, l, long) in
      let idle : has is_idle (slice_get s.slots slot) ≡ true = ap (has is_idle) (slice_get-get_or s.slots slot Idle inside) ∙ is_resting (get_or s.slots slot Idle) (c.each slot ∙ free.idle) in
      let named : list_any (names page) s.slots ≡ false = none_names page s.slots (λ i. ap (λ (x : Doing). is_for x page) (c.each i) ∙ free.alone i) in
      and_from (has is_idle (slice_get s.slots slot)) (may_name store page s.slots) idle (and_from (ltb page store) (not (list_any (names page) s.slots)) (lt-ltb page store below) (ap not named))

  alone_for : (flight : Flight) (slot page : ℕ) → IsFree buffer flight slot page → (q : ℕ) → nat_eq page q ≡ true → (other : ℕ) → is_for (flight.does other) q ≡ false
  alone_for flight slot page free q same other = ap (λ n. is_for (flight.does other) n) (sym (eqb-true page q same)) ∙ free.alone other

  goes_issue_in : (flight : Flight) (s p : State) (slot page : ℕ) → IsCut flight s p → IsFree buffer flight slot page → page < store → flight.stored page ≡ true → Goes (directive.IssueIn slot page) flight s p
  goes_issue_in flight s p slot page c free below was =
      let long = c.slots in
      let inside : slot < length s.slots = let l = free.within in omega (arith, l, long) in (
        with_slot slot (Reads page) s,
        given (may_issue store slot page s.slots && is_some (s.pages page)) (with_slot slot (Reads page) s) (and_from (may_issue store slot page s.slots) (is_some (s.pages page)) (may flight s p slot page c free below) (c.stored page ∙ was)),
        record {
          frames = c.frames;
          next = c.next;
          slots = length-set s.slots slot (Reads page) ∙ c.slots;
          each = each_set s.slots flight.does slot (Reads page) inside c.each;
          stored = c.stored;
          written = λ i q content is. ⊎_elim (λ new. absurd (reads_not_writes page q content new.1)) (λ old. c.written i q content old.1) (new_or_old s.slots slot (Reads page) (Writes q content) i inside is);
          others = λ q none. c.others q (unwritten flight.does slot (state.Reads page) q (λ e. resting_not_writing q (sym free.idle ∙ e)) none);
          apart = apart_put flight.does slot (state.Reads page) (alone_for flight slot page free) c.apart;
        },
      )

  finish_in_is : (s : State) (slot frame page : ℕ) (content : Content) → page_read slot s.slots ≡ Some page → s.pages page ≡ Some content → ltb frame (length s.frames) ≡ true → finish_in slot frame s ≡ Some (with_slot slot Idle (with_frame frame content s))
  finish_in_is s slot frame page content reads is inside = rw (reads, is, inside) refl

  goes_finish_in : (flight : Flight) (s p after : State) (slot frame page : ℕ) → IsCut flight s p → flight.does slot ≡ state.Reads page → load frame page p ≡ Some after → Goes (directive.FinishIn slot frame) flight s after
  goes_finish_in flight s p after slot frame page c reads h =
      let loaded = then_some (p.pages page) (λ content. provided (ltb frame (length p.frames)) (with_frame frame content p)) after h in
      let both = provided_some (ltb frame (length p.frames)) (with_frame frame loaded.0 p) after loaded.2 in
      let inside = within flight s p slot c (λ e. resting_not_reading page (sym e ∙ reads)) in
      let slot_reads : get_or s.slots slot Idle ≡ Reads page = is_reading (get_or s.slots slot Idle) page (c.each slot ∙ reads) in
      let found : page_read slot s.slots ≡ Some page = reads_page s.slots slot page inside slot_reads in
      let same : s.pages page ≡ Some loaded.0 = sym (c.others page (λ i writes. unread i writes)) ∙ loaded.1 in (
        with_slot slot Idle (with_frame frame loaded.0 s),
        finish_in_is s slot frame page loaded.0 found same (there flight s p frame c both.0),
        subst (λ x. IsCut (flight_after (directive.FinishIn slot frame) flight) (with_slot slot Idle (with_frame frame loaded.0 s)) x) both.1 (cut inside loaded.0),
      )
    where
      reads_page : (slots : List Slot) (slot page : ℕ) → slot < length slots → get_or slots slot Idle ≡ Reads page → page_read slot slots ≡ Some page
      reads_page slots slot page inside is = rw (slice_get-get_or slots slot Idle inside, is) refl

      unread : (i : ℕ) → flight.does i ≡ state.Writes page → ⊥
      unread i writes =
          let same : i ≡ slot = c.apart i slot page (ap (λ (x : Doing). is_for x page) writes ∙ eq-eqb page page refl) (ap (λ (x : Doing). is_for x page) reads ∙ eq-eqb page page refl) in
          reading_not_writing page page (sym reads ∙ ap flight.does (sym same) ∙ writes)

      cut : slot < length s.slots → (content : Content) → IsCut (flight_after (directive.FinishIn slot frame) flight) (with_slot slot Idle (with_frame frame content s)) (with_frame frame content p)
      cut inside content = record {
        frames = ap (λ xs. set xs frame content) c.frames;
        next = c.next;
        slots = length-set s.slots slot Idle ∙ c.slots;
        each = each_set s.slots flight.does slot Idle inside c.each;
        stored = c.stored;
        written = λ i q other is. ⊎_elim (λ new. absurd (idle_not_writes q other new.1)) (λ old. c.written i q other old.1) (new_or_old s.slots slot Idle (Writes q other) i inside is);
        others = λ q none. c.others q (unwritten flight.does slot state.Idle q (λ e. reading_not_writing page q (sym reads ∙ e)) none);
        apart = apart_put flight.does slot state.Idle (resting_alone flight.does) c.apart;
      }

  issue_out_is : (s : State) (slot frame page : ℕ) (content : Content) → slice_get s.frames frame ≡ Some content → may_issue store slot page s.slots ≡ true → issue_out store slot frame page s ≡ Some (with_slot slot (Writes page content) s)
  issue_out_is s slot frame page content is free = rw (is, free) refl

  goes_issue_out : (flight : Flight) (s p after : State) (slot frame page : ℕ) → IsCut flight s p → IsFree buffer flight slot page → page < store → save frame page p ≡ Some after → Goes (directive.IssueOut slot frame page) flight s after
  goes_issue_out flight s p after slot frame page c free below h =
      let saved = then_some (slice_get p.frames frame) (λ content. Some (with_page page content p)) after h in
      let long = c.slots in
      let inside : slot < length s.slots = let l = free.within in omega (arith, l, long) in (
        with_slot slot (Writes page saved.0) s,
        issue_out_is s slot frame page saved.0 (ap (λ xs. slice_get xs frame) c.frames ∙ saved.1) (may flight s p slot page c free below),
        subst (λ x. IsCut (flight_after (directive.IssueOut slot frame page) flight) (with_slot slot (Writes page saved.0) s) x) (same_Some (with_page page saved.0 p) after saved.2) (cut inside saved.0),
      )
    where
      written_then : (content : Content) → slot < length s.slots → (i q : ℕ) (other : Content) → get_or (set s.slots slot (Writes page content)) i Idle ≡ Writes q other → got page content p.pages q ≡ Some other
      written_then content inside i q other is = by_slot (new_or_old s.slots slot (Writes page content) (Writes q other) i inside is) where
        by_slot : ((slot ≡ i) × (Writes page content ≡ Writes q other)) ⊎ ((slot ≢ i) × (get_or s.slots i Idle ≡ Writes q other)) → got page content p.pages q ≡ Some other
        by_slot (inl new) =
            let same : page ≡ q = ap (λ (x : Slot). page_of (doing x)) new.1 in
            rw (eq-eqb page q same) (ap Some (same_content page q content other new.1))
        by_slot (inr old) =
            let writes : state.Writes q ≡ flight.does i = ap doing (sym old.1) ∙ c.each i in
            let other_page : page ≢ q = λ e. false≢true (sym (free.alone i) ∙ ap (λ (x : Doing). is_for x page) (sym writes) ∙ eq-eqb q page (sym e)) in
            rw (ne_eqb page q other_page) (c.written i q other old.1)

      others_then : (content : Content) (q : ℕ) → ((i : ℕ) → put slot (state.Writes page) flight.does i ≢ state.Writes q) → got page content p.pages q ≡ s.pages q
      others_then content q none = ⊎_elim
          (λ e. absurd (none slot (put_here slot (state.Writes page) flight.does slot refl ∙ ap state.Writes e)))
          (λ ne. rw (ne_eqb page q ne) (c.others q (unwritten flight.does slot (state.Writes page) q (λ e. resting_not_writing q (sym free.idle ∙ e)) none)))
          (cases_eq page q)

      cut : slot < length s.slots → (content : Content) → IsCut (flight_after (directive.IssueOut slot frame page) flight) (with_slot slot (Writes page content) s) (with_page page content p)
      cut inside content = record {
        frames = c.frames;
        next = c.next;
        slots = length-set s.slots slot (Writes page content) ∙ c.slots;
        each = each_set s.slots flight.does slot (Writes page content) inside c.each;
        stored = c.stored;
        written = written_then content inside;
        others = others_then content;
        apart = apart_put flight.does slot (state.Writes page) (alone_for flight slot page free) c.apart;
      }

  finish_out_is : (s : State) (slot page : ℕ) (content : Content) → slot < length s.slots → get_or s.slots slot Idle ≡ Writes page content → finish_out slot s ≡ Some (with_slot slot Idle (with_page page content s))
  finish_out_is s slot page content inside is = rw (slice_get-get_or s.slots slot Idle inside, is) refl

  goes_finish_out : (flight : Flight) (s p : State) (slot page : ℕ) → IsCut flight s p → flight.does slot ≡ state.Writes page → Goes (directive.FinishOut slot) flight s p
  goes_finish_out flight s p slot page c writes =
      let inside = within flight s p slot c (λ e. resting_not_writing page (sym e ∙ writes)) in
      let found = is_writing (get_or s.slots slot Idle) page (c.each slot ∙ writes) in
      (with_slot slot Idle (with_page page found.0 s), finish_out_is s slot page found.0 inside found.1, cut inside found.0 found.1)
    where
      stored_then : (content : Content) (q : ℕ) → is_some (got page content s.pages q) ≡ stored_by (flight.does slot) flight.stored q
      stored_then content q = by_page (cases_eq page q) ∙ ap (λ x. stored_by x flight.stored q) (sym writes) where
        by_page : (page ≡ q) ⊎ (page ≢ q) → is_some (got page content s.pages q) ≡ put page true flight.stored q
        by_page (inl e) = rw (eq-eqb page q e) refl
        by_page (inr ne) = rw (ne_eqb page q ne) (c.stored q)

      others_then : (content : Content) → get_or s.slots slot Idle ≡ Writes page content → (q : ℕ) → ((i : ℕ) → put slot state.Idle flight.does i ≢ state.Writes q) → p.pages q ≡ got page content s.pages q
      others_then content is q none = ⊎_elim
          (λ e. rw (eq-eqb page q e) (ap p.pages (sym e) ∙ c.written slot page content is))
          (λ ne. rw (ne_eqb page q ne) (c.others q (unwritten flight.does slot state.Idle q (λ e. ne (ap page_of (sym writes ∙ e))) none)))
          (cases_eq page q)

      cut : slot < length s.slots → (content : Content) → get_or s.slots slot Idle ≡ Writes page content → IsCut (flight_after (directive.FinishOut slot) flight) (with_slot slot Idle (with_page page content s)) p
      cut inside content is = record {
        frames = c.frames;
        next = c.next;
        slots = length-set s.slots slot Idle ∙ c.slots;
        each = each_set s.slots flight.does slot Idle inside c.each;
        stored = stored_then content;
        written = λ i q other at. ⊎_elim (λ new. absurd (idle_not_writes q other new.1)) (λ old. c.written i q other old.1) (new_or_old s.slots slot Idle (Writes q other) i inside at);
        others = others_then content is;
        apart = apart_put flight.does slot state.Idle (resting_alone flight.does) c.apart;
      }

  goes_do : (flight : Flight) (s p after : State) (job : Job) → IsCut flight s p → do_job instrs wires job p ≡ Some after → Goes (directive.Do job) flight s after
  goes_do flight s p after job c h =
      let both = job_beside wires instrs job s p after h in
      let same : s ≡ beside s p = ap (λ xs. record { frames = xs; slots = s.slots; pages = s.pages; next = s.next }) c.frames ∙ ap (λ n. record { frames = p.frames; slots = s.slots; pages = s.pages; next = n }) c.next in (
        beside s after,
        ap (do_job instrs wires job) same ∙ both.0,
        record {
          frames = refl;
          next = refl;
          slots = c.slots;
          each = c.each;
          stored = c.stored;
          written = λ i q content is. ap (λ (f : ℕ → Option Content). f q) both.1 ∙ c.written i q content is;
          others = λ q none. ap (λ (f : ℕ → Option Content). f q) both.1 ∙ c.others q none;
          apart = c.apart;
        },
      )

  one_entry : (o : Option State) (after : State) → (o >>= (λ x. Some x)) ≡ Some after → o ≡ Some after
  one_entry None after h = h
  one_entry (Some x) after h = h

  pub goes : (one : Directive) (flight : Flight) (s p after : State) → IsCut flight s p → IsInTurn buffer flight one → IsBelow store one → all_done instrs wires p (plain_entry flight one) ≡ Some after → Goes one flight s after
  goes (directive.Fresh f page) flight s p after c turn below h = goes_fresh flight s p after f page c (one_entry (fresh f p) after h)
  goes (directive.IssueIn slot page) flight s p after c turn below h = subst (Goes (directive.IssueIn slot page) flight s) (same_Some p after h) (goes_issue_in flight s p slot page c turn.0 below turn.1)
  goes (directive.FinishIn slot frame) flight s p after c turn below h =
      let loads : load frame (page_of (flight.does slot)) p ≡ Some after = one_entry (load frame (page_of (flight.does slot)) p) after h in
      goes_finish_in flight s p after slot frame turn.0 c turn.1 (ap (λ x. load frame (page_of x) p) (sym turn.1) ∙ loads)
  goes (directive.IssueOut slot frame page) flight s p after c turn below h = goes_issue_out flight s p after slot frame page c turn below (one_entry (save frame page p) after h)
  goes (directive.FinishOut slot) flight s p after c turn below h = subst (Goes (directive.FinishOut slot) flight s) (same_Some p after h) (goes_finish_out flight s p slot turn.0 c turn.1)
  goes (directive.Do job) flight s p after c turn below h = goes_do flight s p after job c (one_entry (do_job instrs wires job p) after h)

  -- entries that could be done could be done one part after the other
  in_parts : (some others : List Replaced) (p end : State) → all_done instrs wires p (some ++ others) ≡ Some end → (mid : State) × (all_done instrs wires p some ≡ Some mid) × (all_done instrs wires mid others ≡ Some end)
  in_parts [] others p end h = (p, refl, h)
  in_parts (one ∷ some) others p end h =
      let first = then_some (entry_done instrs wires p one) (λ a. all_done instrs wires a (some ++ others)) end h in
      let rest = in_parts some others first.0 end first.2 in
      (rest.0, ap (λ (o : Option State). o >>= (λ a. all_done instrs wires a some)) first.1 ∙ rest.1, rest.2)

  all_idle : (xs : List Slot) → ((i : ℕ) → doing (get_or xs i Idle) ≡ state.Idle) → list_all is_idle xs ≡ true
  all_idle [] h = refl
  all_idle (x ∷ xs) h = and_from (is_idle x) (list_all is_idle xs) (is_resting x (h 0)) (all_idle xs (λ i. h (suc i)))

  walks_beside : (part : List Directive) (d count : ℕ) (flight : Flight) (s p end : State) → IsCut flight s p → AreInTurn buffer flight part → AreBelow store part
      → all_done instrs wires p (plainly flight part) ≡ Some end → end.next ≡ length instrs → broken_at instrs count (walked instrs wires store d s part) ≡ None
  walks_beside [] d count flight s p end c turns below h all =
      let same = same_Some p end h in
      let next : s.next ≡ length instrs = c.next ∙ ap (λ (x : State). x.next) same ∙ all in
      let idle : list_all is_idle s.slots ≡ true = all_idle s.slots (λ i. c.each i ∙ turns i) in
      rw (eq-eqb s.next (length instrs) next, idle) refl
  walks_beside (one ∷ part) d count flight s p end c turns below h all =
      let parts = in_parts (plain_entry flight one) (plainly (flight_after one flight) part) p end h in
      let step = goes one flight s p parts.0 c turns.0 below.0 parts.1 in
      let rest = walks_beside part (d + 1) count (flight_after one flight) step.0 parts.0 end step.2 turns.1 below.1 parts.2 all in
      ap (λ (o : Option State). broken_at instrs count (unless_broken d o (λ after. walked instrs wires store (d + 1) after part))) step.1 ∙ rest

get_or_none : (frames slots i : ℕ) → get_or (replicate slots Idle) i Idle ≡ Idle
get_or_none frames slots i = go slots i where
  go : (slots i : ℕ) → get_or (replicate slots Idle) i Idle ≡ Idle
  go zero i = refl
  go (suc slots) zero = refl
  go (suc slots) (suc i) = go slots i

some_ends : (o : Option State) (n : ℕ) → IsSomeAnd o (λ end. end.next ≡ n) → (end : State) × (o ≡ Some end) × (end.next ≡ n)
some_ends None n h = absurd h
some_ends (Some end) n h = (end, refl, h)

-- at first the two walks stand beside one another
pub cut_at_first : (frames buffer store wires : ℕ) (instrs : List Instr) → IsCut buffer store wires instrs at_rest (start frames buffer) (start frames 0)
cut_at_first frames buffer store wires instrs = record {
  frames = refl;
  next = refl;
  slots = length-replicate buffer Idle;
  each = λ i. ap doing (get_or_none frames buffer i);
  stored = λ q. refl;
  written = λ i q content is. absurd (idle_not_writes q content (sym (get_or_none frames buffer i) ∙ is));
  others = λ q none. refl;
  apart = λ i j q for_i for_j. absurd (false≢true for_i);
}

pub cut_transfers_carry : CutTransfersCarry
unfolding break_of
cut_transfers_carry limits store instrs part turns below carries =
    let end = some_ends (all_done instrs limits.page (start limits.frames 0) (plainly at_rest part)) (length instrs) carries in
    walks_beside limits.buffer store limits.page instrs part 0 (length part) at_rest (start limits.frames limits.buffer) (start limits.frames 0) end.0
    (cut_at_first limits.frames limits.buffer store limits.page instrs) turns below end.1 end.2
