-- Two runs side by side: directives in the pages' own numbers, and the same with store pages.
use Rattle.std.proofs.Common.{◌≡◌, ◌≤◌, ◌+◌, ◌⊎◌, ℕ, List, ◌∷◌, Bool, true, false, cond, nat_eq, Option, Some, None, inl, inr, refl, sym, subst, ◌∙◌, ap, arith}
use Rattle.std.proofs.lemmas.Bool.{false≢true, eqb-true, cases_eq, false_from_ne_true}
use Rattle.mage_instr.specs.declared.directive.Directive.{Directive}
use Rattle.mage_sched.specs.declared.slot.Slot.{Slot}
use Rattle.mage_sched.specs.declared.slot.Slot.TheVariants as state
use Rattle.mage_sched.specs.Homes.{names, transfers_of, last_of, at_finish}
use Rattle.mage_sched.specs.Issues.{put}
use Rattle.mage_sched.specs.Turns.{is_for}
use Rattle.mage_sched.proofs.Tables.{idle_reads, idle_writes, reads_writes, reads_same, writes_same, for_reads, for_writes, not_for_idle, put_at, put_off}
use Rattle.mage_sched.proofs.Housing.{AreHomes, one_page, with_home, without_home, still_home, kept_home, homeless}

-- what the first run has: what its slots do, the pages that were written, what each slot named, and what each page has
pub record Side : Type 0 where
  pub does : ℕ → Slot
  pub stored : ℕ → Bool
  pub named : ℕ → ℕ
  pub store : ℕ → Option ℕ

-- a slot reads a page, and in the other run its store page
pub record BothRead (own other : Side) (homes : ℕ → Option ℕ) (slot page : ℕ) : Type 0 where
  pub home : ℕ
  pub holds : homes page ≡ Some home
  pub does : other.does slot ≡ state.Reads home
  pub names : other.named slot ≡ home
  pub named : own.named slot ≡ page
  pub same : own.store page ≡ other.store home

pub record BothWrite (own other : Side) (homes : ℕ → Option ℕ) (slot page : ℕ) : Type 0 where
  pub home : ℕ
  pub holds : homes page ≡ Some home
  pub does : other.does slot ≡ state.Writes home
  pub names : other.named slot ≡ home
  pub named : own.named slot ≡ page

-- a page that was written has in the other run what its store page has
pub record BothKeep (own other : Side) (page home : ℕ) : Type 0 where
  pub stored : other.stored home ≡ true
  pub same : own.store page ≡ other.store home

-- no slot writes a page
abbrev pub NoneWrote : (does : ℕ → Slot) → (page : ℕ) → Type 0
NoneWrote does page = (slot : ℕ) → does slot ≡ state.Writes page → ⊥

-- the two runs, where these directives come
pub record AreBeside (own other : Side) (homes : ℕ → Option ℕ) (ends : ℕ → Option ℕ) (later : List Directive) : Type 0 where
  pub reads : (slot page : ℕ) → own.does slot ≡ state.Reads page → BothRead own other homes slot page
  pub writes : (slot page : ℕ) → own.does slot ≡ state.Writes page → BothWrite own other homes slot page
  pub idle : (slot : ℕ) → own.does slot ≡ state.Idle → other.does slot ≡ state.Idle
  pub alone : (slot one page : ℕ) → is_for (own.does slot) page ≡ true → is_for (own.does one) page ≡ true → slot ≡ one
  pub kept : (page home : ℕ) → homes page ≡ Some home → own.stored page ≡ true → NoneWrote own.does page → BothKeep own other page home
  pub gone : (page : ℕ) → homes page ≡ None → own.stored page ≡ true → transfers_of later page ≡ 0
  pub last : (slot page : ℕ) → ends slot ≡ Some page → (is_for (own.does slot) page ≡ true) × (transfers_of later page ≡ 0)

-- ---- transfers that come

cond_least : (b : Bool) (n : ℕ) → n ≤ cond b (n + 1) n
cond_least true n = omega arith
cond_least false n = omega arith

pub fewer : (one : Directive) (later : List Directive) (page : ℕ) → transfers_of (one ∷ later) page ≡ 0 → transfers_of later page ≡ 0
fewer one later page none = let e = cond_least (names one page) (transfers_of later page) in omega (arith, e, none)

pub some_named : (one : Directive) (later : List Directive) (page : ℕ) → names one page ≡ true → transfers_of (one ∷ later) page ≡ 0 → ⊥
some_named one later page is none =
    let e : transfers_of (one ∷ later) page ≡ transfers_of later page + 1 = ap (λ (b : Bool). cond b (transfers_of later page + 1) (transfers_of later page)) is in
    absurd (omega (arith, e, none))

none_some : (q : ℕ) → None ≡ Some q → ⊥
none_some q k = cc

some_same : (p q : ℕ) → Some p ≡ Some q → p ≡ q
some_same p q k = cc

last_is : (later : List Directive) (page q : ℕ) → last_of later page ≡ Some q → (page ≡ q) × (transfers_of later page ≡ 0)
last_is later page q h = go (nat_eq (transfers_of later page) 0) refl h where
  go : (b : Bool) → nat_eq (transfers_of later page) 0 ≡ b → cond b (Some page) None ≡ Some q → (page ≡ q) × (transfers_of later page ≡ 0)
  go true e k = (some_same page q k, eqb-true (transfers_of later page) 0 e)
  go false e k = absurd (none_some q k)

-- the directives behind one that issues nothing
pub beside_later : (own other : Side) (homes : ℕ → Option ℕ) (ends : ℕ → Option ℕ) (one : Directive) (later : List Directive)
    → ((page : ℕ) → transfers_of (one ∷ later) page ≡ transfers_of later page) → AreBeside own other homes ends (one ∷ later) → AreBeside own other homes ends later
beside_later own other homes ends one later none beside = record {
  reads = beside.reads;
  writes = beside.writes;
  idle = beside.idle;
  alone = beside.alone;
  kept = beside.kept;
  gone = λ page e is. sym (none page) ∙ beside.gone page e is;
  last = λ slot page e. let was = beside.last slot page e in (was.0, sym (none page) ∙ was.1);
}

-- ---- no slot of the other run is for a store page, where none is for its page

pub for_other : (own other : Side) (homes : ℕ → Option ℕ) (holders : List (Option ℕ)) (ends : ℕ → Option ℕ) (later : List Directive) (page home slot : ℕ)
    → AreBeside own other homes ends later → AreHomes homes holders → homes page ≡ Some home
    → is_for (own.does slot) page ≡ false → is_for (other.does slot) home ≡ false
for_other own other homes holders ends later page home slot beside are holds none = go (own.does slot) refl where
  go : (does : Slot) → own.does slot ≡ does → is_for (other.does slot) home ≡ false
  go state.Idle e = ap (λ (s : Slot). is_for s home) (beside.idle slot e)
  go (state.Reads q) e =
      let both = beside.reads slot q e in
      false_from_ne_true (is_for (other.does slot) home) (λ t.
      let same = eqb-true both.home home (sym (ap (λ (s : Slot). is_for s home) both.does) ∙ t) in
      let page_is = one_page homes holders q page home are (both.holds ∙ ap (λ (n : ℕ). Some n) same) holds in
      false≢true (sym none ∙ for_reads (own.does slot) page (e ∙ ap (λ (n : ℕ). state.Reads n) page_is)))
  go (state.Writes q) e =
      let both = beside.writes slot q e in
      false_from_ne_true (is_for (other.does slot) home) (λ t.
      let same = eqb-true both.home home (sym (ap (λ (s : Slot). is_for s home) both.does) ∙ t) in
      let page_is = one_page homes holders q page home are (both.holds ∙ ap (λ (n : ℕ). Some n) same) holds in
      false≢true (sym none ∙ for_writes (own.does slot) page (e ∙ ap (λ (n : ℕ). state.Writes n) page_is)))

-- ---- a page takes a store page

module _ (own other : Side) (homes : ℕ → Option ℕ) (ends : ℕ → Option ℕ) (later : List Directive) (page home : ℕ)
    (beside : AreBeside own other homes ends later) (none : homes page ≡ None) (new : own.stored page ≡ true → ⊥) where
  as_was : (q h : ℕ) → homes q ≡ Some h → with_home homes page home q ≡ Some h
  as_was q h e = go (nat_eq page q) refl where
    go : (b : Bool) → nat_eq page q ≡ b → cond b (Some home) (homes q) ≡ Some h
    go true s = absurd (none_some h (sym none ∙ ap homes (eqb-true page q s) ∙ e))
    go false s = e

  was_or_new : (q h : ℕ) → with_home homes page home q ≡ Some h → (homes q ≡ Some h) ⊎ (page ≡ q)
  was_or_new q h e = go (nat_eq page q) refl e where
    go : (b : Bool) → nat_eq page q ≡ b → cond b (Some home) (homes q) ≡ Some h → (homes q ≡ Some h) ⊎ (page ≡ q)
    go true s k = inr (eqb-true page q s)
    go false s k = inl k

  was_none : (q : ℕ) → with_home homes page home q ≡ None → homes q ≡ None
  was_none q e = go (nat_eq page q) e where
    go : (b : Bool) → cond b (Some home) (homes q) ≡ None → homes q ≡ None
    go true k = absurd (none_some home (sym k))
    go false k = k

  house_kept : (q h : ℕ) → (homes q ≡ Some h) ⊎ (page ≡ q) → own.stored q ≡ true → NoneWrote own.does q → BothKeep own other q h
  house_kept q h (inl e) stored unwritten = beside.kept q h e stored unwritten
  house_kept q h (inr e) stored unwritten = absurd (new (ap own.stored e ∙ stored))

  pub beside_housed : AreBeside own other (with_home homes page home) ends later
  beside_housed = record {
    reads = λ slot q e. let both = beside.reads slot q e in record { home = both.home; holds = as_was q both.home both.holds; does = both.does; names = both.names; named = both.named; same = both.same };
    writes = λ slot q e. let both = beside.writes slot q e in record { home = both.home; holds = as_was q both.home both.holds; does = both.does; names = both.names; named = both.named };
    idle = beside.idle;
    alone = beside.alone;
    kept = λ q h e. house_kept q h (was_or_new q h e);
    gone = λ q e. beside.gone q (was_none q e);
    last = beside.last;
  }

-- ---- a transfer is issued

-- what a slot starts: in the other run the same of the store page
abbrev pub Starts : (own other : Side) (page home : ℕ) (new new_home : Slot) → Type 0
Starts own other page home new new_home =
    ((new ≡ state.Reads page) × (new_home ≡ state.Reads home) × (own.store page ≡ other.store home))
    ⊎ ((new ≡ state.Writes page) × (new_home ≡ state.Writes home))

abbrev pub started : Side → (slot : ℕ) (new : Slot) (page : ℕ) → Side
started side slot new page = record { does = put slot new side.does; stored = side.stored; named = put slot page side.named; store = side.store }

module _ (own other : Side) (homes : ℕ → Option ℕ) (ends : ℕ → Option ℕ) (one : Directive) (later : List Directive) (slot page home : ℕ) (new new_home : Slot)
    (beside : AreBeside own other homes ends (one ∷ later)) (idle : own.does slot ≡ state.Idle) (free : (k : ℕ) → is_for (own.does k) page ≡ false)
    (holds : homes page ≡ Some home) (starts : Starts own other page home new new_home) where
  now_own : (k : ℕ) → slot ≡ k → put slot new own.does k ≡ new
  now_own k e = put_at slot new own.does k e

  still_own : (k : ℕ) → (slot ≡ k → ⊥) → put slot new own.does k ≡ own.does k
  still_own k n = put_off slot new own.does k n

  start_reads : (k q : ℕ) → (slot ≡ k) ⊎ (slot ≡ k → ⊥) → put slot new own.does k ≡ state.Reads q → Starts own other page home new new_home
      → BothRead (started own slot new page) (started other slot new_home home) homes k q
  start_reads k q (inl e) h (inl s) =
      let same = reads_same page q (sym s.0 ∙ sym (now_own k e) ∙ h) in
      let P : ℕ → Type 0 = λ n. BothRead (started own slot new page) (started other slot new_home home) homes k n in
      subst P same (record {
        home = home;
        holds = holds;
        does = put_at slot new_home other.does k e ∙ s.1;
        names = put_at slot home other.named k e;
        named = put_at slot page own.named k e;
        same = s.2;
      })
  start_reads k q (inl e) h (inr s) = absurd (reads_writes q page (sym h ∙ now_own k e ∙ s.0))
  start_reads k q (inr n) h s =
      let both = beside.reads k q (sym (still_own k n) ∙ h) in
      record {
        home = both.home;
        holds = both.holds;
        does = put_off slot new_home other.does k n ∙ both.does;
        names = put_off slot home other.named k n ∙ both.names;
        named = put_off slot page own.named k n ∙ both.named;
        same = both.same;
      }

  start_writes : (k q : ℕ) → (slot ≡ k) ⊎ (slot ≡ k → ⊥) → put slot new own.does k ≡ state.Writes q → Starts own other page home new new_home
      → BothWrite (started own slot new page) (started other slot new_home home) homes k q
  start_writes k q (inl e) h (inl s) = absurd (reads_writes page q (sym s.0 ∙ sym (now_own k e) ∙ h))
  start_writes k q (inl e) h (inr s) =
      let same = writes_same page q (sym s.0 ∙ sym (now_own k e) ∙ h) in
      let P : ℕ → Type 0 = λ n. BothWrite (started own slot new page) (started other slot new_home home) homes k n in
      subst P same (record {
        home = home;
        holds = holds;
        does = put_at slot new_home other.does k e ∙ s.1;
        names = put_at slot home other.named k e;
        named = put_at slot page own.named k e;
      })
  start_writes k q (inr n) h s =
      let both = beside.writes k q (sym (still_own k n) ∙ h) in
      record {
        home = both.home;
        holds = both.holds;
        does = put_off slot new_home other.does k n ∙ both.does;
        names = put_off slot home other.named k n ∙ both.names;
        named = put_off slot page own.named k n ∙ both.named;
      }

  busy_now : Starts own other page home new new_home → new ≡ state.Idle → ⊥
  busy_now (inl s) e = idle_reads page (sym e ∙ s.0)
  busy_now (inr s) e = idle_writes page (sym e ∙ s.0)

  for_now : Starts own other page home new new_home → (q : ℕ) → is_for new q ≡ true → page ≡ q
  for_now (inl s) q h = eqb-true page q (sym (ap (λ (x : Slot). is_for x q) s.0) ∙ h)
  for_now (inr s) q h = eqb-true page q (sym (ap (λ (x : Slot). is_for x q) s.0) ∙ h)

  own_for : Starts own other page home new new_home → is_for new page ≡ true
  own_for (inl s) = for_reads new page s.0
  own_for (inr s) = for_writes new page s.0

  start_idle : (k : ℕ) → (slot ≡ k) ⊎ (slot ≡ k → ⊥) → put slot new own.does k ≡ state.Idle → put slot new_home other.does k ≡ state.Idle
  start_idle k (inl e) h = absurd (busy_now starts (sym (now_own k e) ∙ h))
  start_idle k (inr n) h = put_off slot new_home other.does k n ∙ beside.idle k (sym (still_own k n) ∙ h)

  page_of : (k q : ℕ) → slot ≡ k → is_for (put slot new own.does k) q ≡ true → page ≡ q
  page_of k q e h = for_now starts q (sym (ap (λ (x : Slot). is_for x q) (now_own k e)) ∙ h)

  old_of : (k q : ℕ) → (slot ≡ k → ⊥) → is_for (put slot new own.does k) q ≡ true → is_for (own.does k) q ≡ true
  old_of k q n h = sym (ap (λ (x : Slot). is_for x q) (still_own k n)) ∙ h

  none_of : (k q : ℕ) → page ≡ q → is_for (own.does k) q ≡ true → ⊥
  none_of k q e h = false≢true (sym (free k) ∙ ap (λ (n : ℕ). is_for (own.does k) n) e ∙ h)

  start_alone : (k l q : ℕ) → (slot ≡ k) ⊎ (slot ≡ k → ⊥) → (slot ≡ l) ⊎ (slot ≡ l → ⊥) → is_for (put slot new own.does k) q ≡ true → is_for (put slot new own.does l) q ≡ true → k ≡ l
  start_alone k l q (inl e) (inl f) h i = sym e ∙ f
  start_alone k l q (inl e) (inr n) h i = absurd (none_of l q (page_of k q e h) (old_of l q n i))
  start_alone k l q (inr m) (inl f) h i = absurd (none_of k q (page_of l q f i) (old_of k q m h))
  start_alone k l q (inr m) (inr n) h i = beside.alone k l q (old_of k q m h) (old_of l q n i)

  unwritten : (q : ℕ) → NoneWrote (put slot new own.does) q → NoneWrote own.does q
  unwritten q none k h = none k (still_own k (λ e. idle_writes q (sym idle ∙ ap own.does e ∙ h)) ∙ h)

  start_kept : (q h : ℕ) → homes q ≡ Some h → own.stored q ≡ true → NoneWrote (put slot new own.does) q → BothKeep (started own slot new page) (started other slot new_home home) q h
  start_kept q h e stored none = let both = beside.kept q h e stored (unwritten q none) in record { stored = both.stored; same = both.same }

  start_last : (k q : ℕ) → (slot ≡ k) ⊎ (slot ≡ k → ⊥) → at_finish slot (last_of later page) ends k ≡ Some q → (is_for (put slot new own.does k) q ≡ true) × (transfers_of later q ≡ 0)
  start_last k q (inl e) h =
      let is = last_is later page q (sym (put_at slot (last_of later page) ends k e) ∙ h) in
      (ap (λ (x : Slot). is_for x q) (now_own k e) ∙ ap (is_for new) (sym is.0) ∙ own_for starts, ap (transfers_of later) (sym is.0) ∙ is.1)
  start_last k q (inr n) h =
      let was = beside.last k q (sym (put_off slot (last_of later page) ends k n) ∙ h) in
      (ap (λ (x : Slot). is_for x q) (still_own k n) ∙ was.0, fewer one later q was.1)

  pub beside_started : AreBeside (started own slot new page) (started other slot new_home home) homes (at_finish slot (last_of later page) ends) later
  beside_started = record {
    reads = λ k q h. start_reads k q (cases_eq slot k) h starts;
    writes = λ k q h. start_writes k q (cases_eq slot k) h starts;
    idle = λ k h. start_idle k (cases_eq slot k) h;
    alone = λ k l q h i. start_alone k l q (cases_eq slot k) (cases_eq slot l) h i;
    kept = start_kept;
    gone = λ q e stored. fewer one later q (beside.gone q e stored);
    last = λ k q h. start_last k q (cases_eq slot k) h;
  }

-- ---- a transfer is finished

abbrev pub ended : Side → (slot : ℕ) (stored : ℕ → Bool) (store : ℕ → Option ℕ) → Side
ended side slot stored store = record { does = put slot state.Idle side.does; stored = stored; named = side.named; store = store }

module _ (own other : Side) (homes : ℕ → Option ℕ) (ends : ℕ → Option ℕ) (later : List Directive) (slot page : ℕ)
    (stored stored_home : ℕ → Bool) (store store_home : ℕ → Option ℕ)
    (beside : AreBeside own other homes ends later) (for_page : is_for (own.does slot) page ≡ true)
    (same_still : (q h : ℕ) → homes q ≡ Some h → (page ≡ q → ⊥) → own.store q ≡ other.store h → store q ≡ store_home h)
    (keeps : (q h : ℕ) → homes q ≡ Some h → stored q ≡ true → NoneWrote (put slot state.Idle own.does) q → BothKeep (ended own slot stored store) (ended other slot stored_home store_home) q h)
    (new_or_old : (q : ℕ) → stored q ≡ true → (own.stored q ≡ true) ⊎ (page ≡ q))
    (homed_page : homes page ≡ None → ⊥) where
  own_rest : (k : ℕ) → (slot ≡ k → ⊥) → put slot state.Idle own.does k ≡ own.does k
  own_rest k n = put_off slot state.Idle own.does k n

  other_rest : (k : ℕ) → (slot ≡ k → ⊥) → put slot state.Idle other.does k ≡ other.does k
  other_rest k n = put_off slot state.Idle other.does k n

  own_idle : (k : ℕ) → slot ≡ k → put slot state.Idle own.does k ≡ state.Idle
  own_idle k e = put_at slot state.Idle own.does k e

  -- another slot is for another page
  another : (k q : ℕ) → (slot ≡ k → ⊥) → is_for (own.does k) q ≡ true → page ≡ q → ⊥
  another k q n h e = n (beside.alone slot k q (ap (is_for (own.does slot)) (sym e) ∙ for_page) h)

  -- and it keeps its home: the page that leaves is that of the slot
  left_is : (q : ℕ) → ends slot ≡ Some q → page ≡ q
  left_is q e = for_one (own.does slot) page q for_page (beside.last slot q e).0 where
    for_one : (s : Slot) (p q : ℕ) → is_for s p ≡ true → is_for s q ≡ true → p ≡ q
    for_one state.Idle p q h k = absurd (false≢true h)
    for_one (state.Reads r) p q h k = sym (eqb-true r p h) ∙ eqb-true r q k
    for_one (state.Writes r) p q h k = sym (eqb-true r p h) ∙ eqb-true r q k

  keeps_home : (q : ℕ) → (page ≡ q → ⊥) → without_home (ends slot) homes q ≡ homes q
  keeps_home q n = kept_home (ends slot) homes q (λ r e same. n (left_is r e ∙ same))

  end_reads : (k q : ℕ) → (slot ≡ k) ⊎ (slot ≡ k → ⊥) → put slot state.Idle own.does k ≡ state.Reads q → BothRead (ended own slot stored store) (ended other slot stored_home store_home) (without_home (ends slot) homes) k q
  end_reads k q (inl e) h = absurd (idle_reads q (sym (own_idle k e) ∙ h))
  end_reads k q (inr n) h =
      let was = sym (own_rest k n) ∙ h in
      let both = beside.reads k q was in
      let far = another k q n (for_reads (own.does k) q was) in
      record {
        home = both.home;
        holds = keeps_home q far ∙ both.holds;
        does = other_rest k n ∙ both.does;
        names = both.names;
        named = both.named;
        same = same_still q both.home both.holds far both.same;
      }

  end_writes : (k q : ℕ) → (slot ≡ k) ⊎ (slot ≡ k → ⊥) → put slot state.Idle own.does k ≡ state.Writes q → BothWrite (ended own slot stored store) (ended other slot stored_home store_home) (without_home (ends slot) homes) k q
  end_writes k q (inl e) h = absurd (idle_writes q (sym (own_idle k e) ∙ h))
  end_writes k q (inr n) h =
      let was = sym (own_rest k n) ∙ h in
      let both = beside.writes k q was in
      record {
        home = both.home;
        holds = keeps_home q (another k q n (for_writes (own.does k) q was)) ∙ both.holds;
        does = other_rest k n ∙ both.does;
        names = both.names;
        named = both.named;
      }

  end_idle : (k : ℕ) → (slot ≡ k) ⊎ (slot ≡ k → ⊥) → put slot state.Idle own.does k ≡ state.Idle → put slot state.Idle other.does k ≡ state.Idle
  end_idle k (inl e) h = put_at slot state.Idle other.does k e
  end_idle k (inr n) h = other_rest k n ∙ beside.idle k (sym (own_rest k n) ∙ h)

  end_for : (k q : ℕ) → (slot ≡ k) ⊎ (slot ≡ k → ⊥) → is_for (put slot state.Idle own.does k) q ≡ true → is_for (own.does k) q ≡ true
  end_for k q (inl e) h = absurd (not_for_idle (put slot state.Idle own.does k) q (own_idle k e) h)
  end_for k q (inr n) h = sym (ap (λ (x : Slot). is_for x q) (own_rest k n)) ∙ h

  end_gone : (q : ℕ) → (homes q ≡ None) ⊎ (ends slot ≡ Some q) → stored q ≡ true → transfers_of later q ≡ 0
  end_gone q (inr e) is = (beside.last slot q e).1
  end_gone q (inl e) is = old (new_or_old q is) where
    old : (own.stored q ≡ true) ⊎ (page ≡ q) → transfers_of later q ≡ 0
    old (inl o) = beside.gone q e o
    old (inr s) = absurd (homed_page (ap homes s ∙ e))

  end_last : (k q : ℕ) → (slot ≡ k) ⊎ (slot ≡ k → ⊥) → at_finish slot None ends k ≡ Some q → (is_for (put slot state.Idle own.does k) q ≡ true) × (transfers_of later q ≡ 0)
  end_last k q (inl e) h = absurd (none_some q (sym (put_at slot None ends k e) ∙ h))
  end_last k q (inr n) h =
      let was = beside.last k q (sym (put_off slot None ends k n) ∙ h) in
      (ap (λ (x : Slot). is_for x q) (own_rest k n) ∙ was.0, was.1)

  pub beside_ended : AreBeside (ended own slot stored store) (ended other slot stored_home store_home) (without_home (ends slot) homes) (at_finish slot None ends) later
  beside_ended = record {
    reads = λ k q h. end_reads k q (cases_eq slot k) h;
    writes = λ k q h. end_writes k q (cases_eq slot k) h;
    idle = λ k h. end_idle k (cases_eq slot k) h;
    alone = λ k l q h i. beside.alone k l q (end_for k q (cases_eq slot k) h) (end_for l q (cases_eq slot l) i);
    kept = λ q h e. keeps q h (still_home (ends slot) homes q h e);
    gone = λ q e. end_gone q (homeless (ends slot) homes q e);
    last = λ k q h. end_last k q (cases_eq slot k) h;
  }
