-- Directives in turn stay in turn with store pages, and their reads and issues stay.
use Rattle.std.proofs.Common.{◌≡◌, ◌<◌, ◌⊎◌, ℕ, List, [], ◌∷◌, length, max, Bool, true, false, cond, nat_eq, Option, Some, None, unwrap_or, inl, inr, refl, sym, subst, ◌∙◌, ap, arith}
use Rattle.std.proofs.lemmas.Bool.{false≢true, eq-eqb, ne_eqb, cases_eq}
use Rattle.mage_instr.specs.declared.directive.Directive.{Directive}
use Rattle.mage_instr.specs.declared.directive.Directive.TheVariants as directive
use Rattle.mage_instr.specs.declared.replaced.Replaced.TheVariants as entry
use Rattle.mage_sched.specs.declared.slot.Slot.{Slot}
use Rattle.mage_sched.specs.declared.slot.Slot.TheVariants as state
use Rattle.mage_sched.specs.declared.read.Read.{Read}
use Rattle.mage_sched.specs.Homes.{Store, transfers_of, home_of, housed, let_go, store_after, homed_from}
use Rattle.mage_sched.specs.Issues.{Seen, put, seen_after, read_of, reads_in, issues_in}
use Rattle.mage_sched.specs.Turns.{Flight, is_for, stored_by, flight_after, IsFree, AreInTurn}
use Rattle.mage_sched.specs.Plainly.{paged_in, page_of, plainly}
use Rattle.mage_sched.specs.Renamed.{unless_it, saved_to, IsRenamed, AreRenamed}
use Rattle.mage_sched.specs.Scheduled.{AreBelow}
use Rattle.mage_sched.proofs.Keeping.{count_more}
use Rattle.mage_sched.proofs.Tables.{for_reads, for_writes, put_at, put_off}
use Rattle.mage_sched.proofs.Turning.{one_more}
use Rattle.mage_sched.proofs.Housing.{AreHomes, home_is, home_within, one_page, with_home, takes_place, stays_home, without_home, leaves_home, still_home}
use Rattle.mage_sched.proofs.Beside.{Side, BothWrite, BothKeep, NoneWrote, AreBeside, ended, for_other, some_named, beside_later, beside_housed, beside_started, beside_ended}

-- what the second run has seen: the same but for the store
abbrev pub beside_seen : Seen → (named : ℕ → ℕ) (store : ℕ → Option ℕ) → Seen
beside_seen seen named store = record { gap = seen.gap; frames = seen.frames; store = store; named = named; sent = seen.sent; asked = seen.asked; lost = seen.lost }

abbrev pub side_of : Flight → (named : ℕ → ℕ) (store : ℕ → Option ℕ) → Side
side_of flight named store = record { does = flight.does; stored = flight.stored; named = named; store = store }

-- each store page that a page holds has it
abbrev pub HavePages : (has : ℕ → Option ℕ) → (holders : List (Option ℕ)) → Type 0
HavePages has holders = (page home : ℕ) → home_of holders page ≡ Some home → has home ≡ Some page

-- what holds of the directives with store pages
pub record Homing (buffer count : ℕ) (seen other_seen : Seen) (flight other : Flight) (holders : List (Option ℕ)) (list homed : List Directive) : Type 0 where
  pub reads : reads_in other_seen homed ≡ reads_in seen list
  pub issues : issues_in other_seen homed ≡ issues_in seen list
  pub turns : AreInTurn buffer other homed
  pub below : AreBelow count homed
  pub pages : paged_in other_seen homed ≡ paged_in seen list
  pub renamed : (has : ℕ → Option ℕ) → HavePages has holders → AreRenamed has (plainly flight list) (plainly other homed)

-- the two runs where a list begins
pub record IsHoming (count : ℕ) (seen : Seen) (flight other : Flight) (named : ℕ → ℕ) (stored : ℕ → Option ℕ) (homes : ℕ → Option ℕ) (store : Store) (list : List Directive) : Type 0 where
  pub beside : AreBeside (side_of flight seen.named seen.store) (side_of other named stored) homes store.ends list
  pub are : AreHomes homes store.holders
  pub most : max (length store.holders) (homed_from store list).count ≡ count

within_count : (count : ℕ) (store : Store) (list : List Directive) (home : ℕ) → max (length store.holders) (homed_from store list).count ≡ count → home < length store.holders → home < count
within_count count store list home most within = omega (arith, most, within)

-- a page that is written and isn't written now holds a store page, where a transfer of it comes
homed_if : (homes : ℕ → Option ℕ) (page : ℕ) → (homes page ≡ None → ⊥) → (home : ℕ) × (homes page ≡ Some home)
homed_if homes page none = go (homes page) refl where
  go : (o : Option ℕ) → homes page ≡ o → (home : ℕ) × (homes page ≡ Some home)
  go None e = absurd (none e)
  go (Some home) e = (home, e)

none_writes : (flight : Flight) (page : ℕ) → ((slot : ℕ) → is_for (flight.does slot) page ≡ false) → NoneWrote flight.does page
none_writes flight page free slot h = false≢true (sym (free slot) ∙ for_writes (flight.does slot) page h)

some_same : (a b : ℕ) → Some a ≡ Some b → a ≡ b
some_same a b e = cc

-- which page each store page has, where a page, or none, lets its store page go
still_have : (has : ℕ → Option ℕ) (end : Option ℕ) (homes : ℕ → Option ℕ) (holders : List (Option ℕ)) → AreHomes homes holders → HavePages has holders → HavePages has (let_go end holders)
still_have has end homes holders are have q h e =
    have q h (home_is homes holders q are ∙ still_home end homes q h (sym (home_is (without_home end homes) (let_go end holders) q (leaves_home end homes holders are)) ∙ e))

module _ (page home : ℕ) (homes homes1 : ℕ → Option ℕ) (holders holders1 : List (Option ℕ)) (has : ℕ → Option ℕ)
    (are : AreHomes homes holders) (are1 : AreHomes homes1 holders1) (holds : homes1 page ≡ Some home)
    (others : (q h : ℕ) → (page ≡ q → ⊥) → homes1 q ≡ Some h → homes q ≡ Some h) (have : HavePages has holders) where
  unless_other : (o : Option ℕ) (q : ℕ) → (page ≡ q → ⊥) → o ≡ Some q → unless_it page o ≡ Some q
  unless_other o q n e = ap (unless_it page) e ∙ go (nat_eq page q) (ne_eqb page q n) where
    go : (b : Bool) → b ≡ false → cond b None (Some q) ≡ Some q
    go b e = ap (λ (x : Bool). cond x None (Some q)) e

  have_at : (q h : ℕ) → (page ≡ q) ⊎ (page ≡ q → ⊥) → homes1 q ≡ Some h → saved_to home page has h ≡ Some q
  have_at q h (inl e) is =
      put_at home (Some page) (λ other. unless_it page (has other)) h (some_same home h (sym holds ∙ ap homes1 e ∙ is)) ∙ ap (λ (n : ℕ). Some n) e
  have_at q h (inr n) is =
      put_off home (Some page) (λ other. unless_it page (has other)) h (λ e. n (one_page homes1 holders1 page q h are1 (holds ∙ ap (λ (m : ℕ). Some m) e) is))
      ∙ unless_other (has h) q n (have q h (home_is homes holders q are ∙ others q h n is))

  -- and where a page is saved to the store page that it holds
  then_have : HavePages (saved_to home page has) holders1
  then_have q h e = have_at q h (cases_eq page q) (sym (home_is homes1 holders1 q are1) ∙ e)

same_read : {xs ys : List Directive} (slot : ℕ) (o p : Option ℕ) → o ≡ p → xs ≡ ys → directive.IssueIn slot (unwrap_or o 0) ∷ xs ≡ directive.IssueIn slot (unwrap_or p 0) ∷ ys
same_read {xs = xs} slot o p e same = ap (λ (q : Option ℕ). directive.IssueIn slot (unwrap_or q 0) ∷ xs) e ∙ one_more (directive.IssueIn slot (unwrap_or p 0)) same

same_load : (has : ℕ → Option ℕ) (frame own other page home : ℕ) → own ≡ page → other ≡ home → has home ≡ Some page → IsRenamed has (entry.Load frame own) (entry.Load frame other)
same_load has frame own other page home p h e = (refl, ap has h ∙ e ∙ ap (λ (n : ℕ). Some n) (sym p))

module _ (buffer count : ℕ) where
  abbrev pub Homes : (seen : Seen) (flight other : Flight) (named : ℕ → ℕ) (stored : ℕ → Option ℕ) (store : Store) (list : List Directive) → Type 0
  Homes seen flight other named stored store list = Homing buffer count seen (beside_seen seen named stored) flight other store.holders list (homed_from store list).directives

  -- ---- a read is issued
  module _ (slot page : ℕ) (later : List Directive) (seen : Seen) (flight other : Flight) (named : ℕ → ℕ) (stored : ℕ → Option ℕ) (homes : ℕ → Option ℕ) (store : Store)
      (at : IsHoming count seen flight other named stored homes store (directive.IssueIn slot page ∷ later))
      (free : IsFree buffer flight slot page) (written : flight.stored page ≡ true)
      (more : (other1 : Flight) (named1 : ℕ → ℕ) (stored1 : ℕ → Option ℕ) (homes1 : ℕ → Option ℕ) → IsHoming count (seen_after (directive.IssueIn slot page) seen) (flight_after (directive.IssueIn slot page) flight) other1 named1 stored1 homes1 (store_after (directive.IssueIn slot page) later store) later
      → Homes (seen_after (directive.IssueIn slot page) seen) (flight_after (directive.IssueIn slot page) flight) other1 named1 stored1 (store_after (directive.IssueIn slot page) later store) later) where
    issue_in_homed : (home : ℕ) → homes page ≡ Some home → Homes seen flight other named stored store (directive.IssueIn slot page ∷ later)
    issue_in_homed home holds =
        let one = directive.IssueIn slot page in
        let both = at.beside.kept page home holds written (none_writes flight page free.alone) in
        let next = beside_started (side_of flight seen.named seen.store) (side_of other named stored) homes store.ends one later slot page home (state.Reads page) (state.Reads home) at.beside free.idle free.alone holds (inl (refl, refl, both.same)) in
        let rest = more (flight_after (directive.IssueIn slot home) other) (put slot home named) stored homes (record {
          beside = next;
          are = at.are;
          most = count_more one later store count at.most;
        }) in
        let named_is : unwrap_or (home_of store.holders page) 0 ≡ home = ap (λ (o : Option ℕ). unwrap_or o 0) (home_is homes store.holders page at.are ∙ holds) in
        let P : ℕ → Type 0 = λ n. Homing buffer count seen (beside_seen seen named stored) flight other store.holders (one ∷ later) (directive.IssueIn slot n ∷ (homed_from (store_after one later store) later).directives) in
        subst P (sym named_is) (record {
          reads = rest.reads;
          issues = rest.issues;
          turns = (
            (
              record {
                within = free.within;
                idle = at.beside.idle slot free.idle;
                alone = λ k. for_other (side_of flight seen.named seen.store) (side_of other named stored) homes store.holders store.ends (one ∷ later) page home k at.beside at.are holds (free.alone k);
              },
              both.stored,
            ),
            rest.turns,
          );
          below = (within_count count store (one ∷ later) home at.most (home_within homes store.holders page home at.are holds), rest.below);
          pages = same_read slot (stored home) (seen.store page) (sym both.same) rest.pages;
          renamed = rest.renamed;
        })

    pub homing_issue_in : Homes seen flight other named stored store (directive.IssueIn slot page ∷ later)
    homing_issue_in =
        let home = homed_if homes page (λ none. some_named (directive.IssueIn slot page) later page (eq-eqb page page refl) (at.beside.gone page none written)) in
        issue_in_homed home.0 home.1

  -- ---- a write is issued
  module _ (slot frame page : ℕ) (later : List Directive) (seen : Seen) (flight other : Flight) (named : ℕ → ℕ) (stored : ℕ → Option ℕ) (homes : ℕ → Option ℕ) (store : Store)
      (at : IsHoming count seen flight other named stored homes store (directive.IssueOut slot frame page ∷ later))
      (free : IsFree buffer flight slot page)
      (more : (other1 : Flight) (named1 : ℕ → ℕ) (stored1 : ℕ → Option ℕ) (homes1 : ℕ → Option ℕ) → IsHoming count (seen_after (directive.IssueOut slot frame page) seen) (flight_after (directive.IssueOut slot frame page) flight) other1 named1 stored1 homes1 (store_after (directive.IssueOut slot frame page) later store) later
      → Homes (seen_after (directive.IssueOut slot frame page) seen) (flight_after (directive.IssueOut slot frame page) flight) other1 named1 stored1 (store_after (directive.IssueOut slot frame page) later store) later) where
    issue_out_homed : (homes1 : ℕ → Option ℕ) (home : ℕ) → homes1 page ≡ Some home → AreHomes homes1 (housed page store.holders)
        → ((q h : ℕ) → (page ≡ q → ⊥) → homes1 q ≡ Some h → homes q ≡ Some h)
        → AreBeside (side_of flight seen.named seen.store) (side_of other named stored) homes1 store.ends (directive.IssueOut slot frame page ∷ later)
        → Homes seen flight other named stored store (directive.IssueOut slot frame page ∷ later)
    issue_out_homed homes1 home holds are others beside =
        let one = directive.IssueOut slot frame page in
        let next = beside_started (side_of flight seen.named seen.store) (side_of other named stored) homes1 store.ends one later slot page home (state.Writes page) (state.Writes home) beside free.idle free.alone holds (inr (refl, refl)) in
        let most = count_more one later store count at.most in
        let rest = more (flight_after (directive.IssueOut slot frame home) other) (put slot home named) stored homes1 (record { beside = next; are = are; most = most }) in
        let named_is : unwrap_or (home_of (housed page store.holders) page) 0 ≡ home = ap (λ (o : Option ℕ). unwrap_or o 0) (home_is homes1 (housed page store.holders) page are ∙ holds) in
        let P : ℕ → Type 0 = λ n. Homing buffer count seen (beside_seen seen named stored) flight other store.holders (one ∷ later) (directive.IssueOut slot frame n ∷ (homed_from (store_after one later store) later).directives) in
        subst P (sym named_is) (record {
          reads = rest.reads;
          issues = rest.issues;
          turns = (
            record {
              within = free.within;
              idle = beside.idle slot free.idle;
              alone = λ k. for_other (side_of flight seen.named seen.store) (side_of other named stored) homes1 (housed page store.holders) store.ends (one ∷ later) page home k beside are holds (free.alone k);
            },
            rest.turns,
          );
          below = (within_count count (store_after one later store) later home most (home_within homes1 (housed page store.holders) page home are holds), rest.below);
          pages = one_more (directive.IssueOut slot frame (unwrap_or (seen.frames frame) 0)) rest.pages;
          renamed = λ has have. (refl, rest.renamed (saved_to home page has) (then_have page home homes homes1 store.holders (housed page store.holders) has at.are are holds others have));
        })

    pub homing_issue_out : (o : Option ℕ) → homes page ≡ o → Homes seen flight other named stored store (directive.IssueOut slot frame page ∷ later)
    homing_issue_out (Some home) e = issue_out_homed homes home e (stays_home homes store.holders page home at.are e) (λ q h n is. is) at.beside
    homing_issue_out None e =
        let place = takes_place homes store.holders page at.are e in
        let new : flight.stored page ≡ true → ⊥ = λ is. some_named (directive.IssueOut slot frame page) later page (eq-eqb page page refl) (at.beside.gone page e is) in
        issue_out_homed (with_home homes page place.0) place.0 (put_at page (Some place.0) homes page refl) place.1
        (λ q h n is. sym (put_off page (Some place.0) homes q n) ∙ is)
        (beside_housed (side_of flight seen.named seen.store) (side_of other named stored) homes store.ends (directive.IssueOut slot frame page ∷ later) page place.0 at.beside e new)

  -- ---- a read is finished
  module _ (slot frame page : ℕ) (later : List Directive) (seen : Seen) (flight other : Flight) (named : ℕ → ℕ) (stored : ℕ → Option ℕ) (homes : ℕ → Option ℕ) (store : Store)
      (at : IsHoming count seen flight other named stored homes store (directive.FinishIn slot frame ∷ later))
      (does : flight.does slot ≡ state.Reads page)
      (more : (other1 : Flight) (named1 : ℕ → ℕ) (stored1 : ℕ → Option ℕ) (homes1 : ℕ → Option ℕ) → IsHoming count (seen_after (directive.FinishIn slot frame) seen) (flight_after (directive.FinishIn slot frame) flight) other1 named1 stored1 homes1 (store_after (directive.FinishIn slot frame) later store) later
      → Homes (seen_after (directive.FinishIn slot frame) seen) (flight_after (directive.FinishIn slot frame) flight) other1 named1 stored1 (store_after (directive.FinishIn slot frame) later store) later) where
    read_unwritten : (q : ℕ) → NoneWrote (put slot state.Idle flight.does) q → NoneWrote flight.does q
    read_unwritten q none k h = none k (put_off slot state.Idle flight.does k (λ e. apart e h) ∙ h) where
      apart : slot ≡ k → flight.does k ≡ state.Writes q → ⊥
      apart e h = reads_not_writes (sym does ∙ ap flight.does e ∙ h) where
        reads_not_writes : state.Reads page ≡ state.Writes q → ⊥
        reads_not_writes i = cc

    pub homing_finish_in : Homes seen flight other named stored store (directive.FinishIn slot frame ∷ later)
    homing_finish_in =
        let one = directive.FinishIn slot frame in
        let both = at.beside.reads slot page does in
        let next = beside_ended (side_of flight seen.named seen.store) (side_of other named stored) homes store.ends later slot page flight.stored other.stored seen.store stored
        (beside_later (side_of flight seen.named seen.store) (side_of other named stored) homes store.ends one later (λ q. refl) at.beside) (for_reads (flight.does slot) page does) (λ q h e n same. same)
        (λ q h e is none. let old = at.beside.kept q h e is (read_unwritten q none) in record { stored = old.stored; same = old.same })
        (λ q is. inl is) (λ none. none_some both.home (sym none ∙ both.holds)) in
        let rest = more (flight_after (directive.FinishIn slot frame) other) named stored (without_home (store.ends slot) homes) (record {
          beside = next;
          are = leaves_home (store.ends slot) homes store.holders at.are;
          most = count_more one later store count at.most;
        }) in
        -- the page that the slot read is the same in both runs
        let same : stored (named slot) ≡ seen.store (seen.named slot) = ap stored both.names ∙ sym both.same ∙ sym (ap seen.store both.named) in
        let frames : Seen = record { gap = seen.gap; frames = put frame (seen.store (seen.named slot)) seen.frames; store = stored; named = named; sent = seen.sent; asked = seen.asked; lost = (seen_after one seen).lost } in
        let list = (homed_from (store_after one later store) later).directives in
        let P : Option ℕ → Type 0 = λ o.
        reads_in (record { gap = seen.gap; frames = put frame o seen.frames; store = stored; named = named; sent = seen.sent; asked = seen.asked; lost = (seen_after one seen).lost }) list ≡ reads_in (seen_after one seen) later in
        let R : Option ℕ → Type 0 = λ o.
        paged_in (record { gap = seen.gap; frames = put frame o seen.frames; store = stored; named = named; sent = seen.sent; asked = seen.asked; lost = (seen_after one seen).lost }) list ≡ paged_in (seen_after one seen) later in
        let Q : Option ℕ → Type 0 = λ o.
        issues_in (record { gap = seen.gap; frames = put frame o seen.frames; store = stored; named = named; sent = seen.sent; asked = seen.asked; lost = (seen_after one seen).lost }) list ≡ issues_in (seen_after one seen) later in
        record {
          reads = same_reads (read_of slot (beside_seen seen named stored)) (read_of slot seen) _ _ (ap (λ (o : Option ℕ). read_at_page seen (unwrap_or o 0)) same) (subst P (sym same) rest.reads);
          issues = same_issues (seen.asked slot) _ _ (subst Q (sym same) rest.issues);
          turns = ((both.home, both.does), rest.turns);
          below = (tt, rest.below);
          pages = one_more (directive.FinishIn slot frame) (subst R (sym same) rest.pages);
          renamed = λ has have. (
            same_load has frame (page_of (flight.does slot)) (page_of (other.does slot)) page both.home (ap page_of does) (ap page_of both.does) (have page both.home (home_is homes store.holders page at.are ∙ both.holds)),
            rest.renamed has (still_have has (store.ends slot) homes store.holders at.are have),
          );
        } where
          read_at_page : Seen → ℕ → Read
          read_at_page seen page = record { page = page; due = seen.gap; lost = seen.lost page }

          none_some : (home : ℕ) → None ≡ Some home → ⊥
          none_some home e = cc

          same_reads : (a b : Read) (xs ys : List Read) → a ≡ b → xs ≡ ys → a ∷ xs ≡ b ∷ ys
          same_reads a b xs ys e f = cc

          same_issues : (a : ℕ) (xs ys : List ℕ) → xs ≡ ys → a ∷ xs ≡ a ∷ ys
          same_issues a xs ys e = cc

  -- ---- a write is finished
  module _ (slot page : ℕ) (later : List Directive) (seen : Seen) (flight other : Flight) (named : ℕ → ℕ) (stored : ℕ → Option ℕ) (homes : ℕ → Option ℕ) (store : Store)
      (at : IsHoming count seen flight other named stored homes store (directive.FinishOut slot ∷ later))
      (does : flight.does slot ≡ state.Writes page)
      (more : (other1 : Flight) (named1 : ℕ → ℕ) (stored1 : ℕ → Option ℕ) (homes1 : ℕ → Option ℕ) → IsHoming count (seen_after (directive.FinishOut slot) seen) (flight_after (directive.FinishOut slot) flight) other1 named1 stored1 homes1 (store_after (directive.FinishOut slot) later store) later
      → Homes (seen_after (directive.FinishOut slot) seen) (flight_after (directive.FinishOut slot) flight) other1 named1 stored1 (store_after (directive.FinishOut slot) later store) later) where
    wrote : BothWrite (side_of flight seen.named seen.store) (side_of other named stored) homes slot page
    wrote = at.beside.writes slot page does

    own_store : (q : ℕ) → (page ≡ q → ⊥) → put (seen.named slot) (seen.sent slot) seen.store q ≡ seen.store q
    own_store q n = put_off (seen.named slot) (seen.sent slot) seen.store q (λ e. n (sym wrote.named ∙ e))

    -- no other page has its store page
    not_home : (q h : ℕ) → homes q ≡ Some h → (page ≡ q → ⊥) → named slot ≡ h → ⊥
    not_home q h e n same = n (one_page homes store.holders page q h at.are (wrote.holds ∙ ap (λ (m : ℕ). Some m) (sym wrote.names ∙ same)) e)

    other_store : (q h : ℕ) → homes q ≡ Some h → (page ≡ q → ⊥) → put (named slot) (seen.sent slot) stored h ≡ stored h
    other_store q h e n = put_off (named slot) (seen.sent slot) stored h (not_home q h e n)

    store_same : (q h : ℕ) → homes q ≡ Some h → (page ≡ q → ⊥) → seen.store q ≡ stored h → put (seen.named slot) (seen.sent slot) seen.store q ≡ put (named slot) (seen.sent slot) stored h
    store_same q h e n same = own_store q n ∙ same ∙ sym (other_store q h e n)

    own_stored : (q : ℕ) → stored_by (flight.does slot) flight.stored q ≡ put page true flight.stored q
    own_stored q = ap (λ (s : Slot). stored_by s flight.stored q) does

    other_stored : (h : ℕ) → stored_by (other.does slot) other.stored h ≡ put wrote.home true other.stored h
    other_stored h = ap (λ (s : Slot). stored_by s other.stored h) wrote.does

    new_or_old : (q : ℕ) → (page ≡ q) ⊎ (page ≡ q → ⊥) → stored_by (flight.does slot) flight.stored q ≡ true → (flight.stored q ≡ true) ⊎ (page ≡ q)
    new_or_old q (inl e) is = inr e
    new_or_old q (inr n) is = inl (sym (put_off page true flight.stored q n) ∙ sym (own_stored q) ∙ is)

    none_some : (home : ℕ) → None ≡ Some home → ⊥
    none_some home e = cc

    write_unwritten : (q : ℕ) → (page ≡ q → ⊥) → NoneWrote (put slot state.Idle flight.does) q → NoneWrote flight.does q
    write_unwritten q n none k h = none k (put_off slot state.Idle flight.does k (λ e. n (same_page q (sym does ∙ ap flight.does e ∙ h))) ∙ h) where
      same_page : (q : ℕ) → state.Writes page ≡ state.Writes q → page ≡ q
      same_page q e = cc

    keeps : (q h : ℕ) → (page ≡ q) ⊎ (page ≡ q → ⊥) → homes q ≡ Some h → stored_by (flight.does slot) flight.stored q ≡ true → NoneWrote (put slot state.Idle flight.does) q
        → BothKeep (ended (side_of flight seen.named seen.store) slot (stored_by (flight.does slot) flight.stored) (put (seen.named slot) (seen.sent slot) seen.store))
        (ended (side_of other named stored) slot (stored_by (other.does slot) other.stored) (put (named slot) (seen.sent slot) stored)) q h
    keeps q h (inl same) e is none =
        let home : wrote.home ≡ h = some_same wrote.home h (sym wrote.holds ∙ ap homes same ∙ e) in
        record {
          stored = other_stored h ∙ put_at wrote.home true other.stored h home;
          same = put_at (seen.named slot) (seen.sent slot) seen.store q (wrote.named ∙ same) ∙ sym (put_at (named slot) (seen.sent slot) stored h (wrote.names ∙ home));
        }
    keeps q h (inr n) e is none =
        let was : flight.stored q ≡ true = sym (put_off page true flight.stored q n) ∙ sym (own_stored q) ∙ is in
        let old = at.beside.kept q h e was (write_unwritten q n none) in
        record {
          stored = other_stored h ∙ put_off wrote.home true other.stored h (λ same. not_home q h e n (wrote.names ∙ same)) ∙ old.stored;
          same = store_same q h e n old.same;
        }

    pub homing_finish_out : Homes seen flight other named stored store (directive.FinishOut slot ∷ later)
    homing_finish_out =
        let one = directive.FinishOut slot in
        let next = beside_ended (side_of flight seen.named seen.store) (side_of other named stored) homes store.ends later slot page
        (stored_by (flight.does slot) flight.stored) (stored_by (other.does slot) other.stored) (put (seen.named slot) (seen.sent slot) seen.store) (put (named slot) (seen.sent slot) stored)
        (beside_later (side_of flight seen.named seen.store) (side_of other named stored) homes store.ends one later (λ q. refl) at.beside) (for_writes (flight.does slot) page does) store_same
        (λ q h e is none. keeps q h (cases_eq page q) e is none) (λ q is. new_or_old q (cases_eq page q) is) (λ none. none_some wrote.home (sym none ∙ wrote.holds)) in
        let rest = more (flight_after (directive.FinishOut slot) other) named (put (named slot) (seen.sent slot) stored) (without_home (store.ends slot) homes) (record {
          beside = next;
          are = leaves_home (store.ends slot) homes store.holders at.are;
          most = count_more one later store count at.most;
        }) in
        record {
          reads = rest.reads;
          issues = rest.issues;
          turns = ((wrote.home, wrote.does), rest.turns);
          below = (tt, rest.below);
          pages = one_more one rest.pages;
          renamed = λ has have. rest.renamed has (still_have has (store.ends slot) homes store.holders at.are have);
        }

  -- a directive that names no page changes nothing
  pass_beside : (seen seen1 : Seen) (flight other : Flight) (named : ℕ → ℕ) (stored : ℕ → Option ℕ) (homes : ℕ → Option ℕ) (store : Store) (one : Directive) (later : List Directive)
      → seen1.named ≡ seen.named → seen1.store ≡ seen.store → ((page : ℕ) → transfers_of (one ∷ later) page ≡ transfers_of later page) → store_after one later store ≡ store
      → IsHoming count seen flight other named stored homes store (one ∷ later) → IsHoming count seen1 flight other named stored homes store later
  pass_beside seen seen1 flight other named stored homes store one later same_named same_store none stays at =
      let N : (ℕ → ℕ) → Type 0 = λ f. AreBeside (side_of flight f seen1.store) (side_of other named stored) homes store.ends later in
      let S : (ℕ → Option ℕ) → Type 0 = λ f. AreBeside (side_of flight seen.named f) (side_of other named stored) homes store.ends later in
      let beside = beside_later (side_of flight seen.named seen.store) (side_of other named stored) homes store.ends one later none at.beside in
      let M : Store → Type 0 = λ s. max (length s.holders) (homed_from s later).count ≡ count in
      record {
        beside = subst N (sym same_named) (subst S (sym same_store) beside);
        are = at.are;
        most = subst M stays (count_more one later store count at.most);
      }

  -- ---- the whole list
  pub homing : (list : List Directive) (seen : Seen) (flight other : Flight) (named : ℕ → ℕ) (stored : ℕ → Option ℕ) (homes : ℕ → Option ℕ) (store : Store)
      → IsHoming count seen flight other named stored homes store list → AreInTurn buffer flight list → Homes seen flight other named stored store list
  homing [] seen flight other named stored homes store at turns = record { reads = refl; issues = refl; turns = λ slot. at.beside.idle slot (turns slot); below = tt; pages = refl; renamed = λ has have. tt }
  homing (directive.Fresh frame page ∷ list) seen flight other named stored homes store at turns =
      let rest = homing list (seen_after (directive.Fresh frame page) seen) flight other named stored homes store
      (pass_beside seen (seen_after (directive.Fresh frame page) seen) flight other named stored homes store (directive.Fresh frame page) list refl refl (λ q. refl) refl at) turns.1 in
      record { reads = rest.reads; issues = rest.issues; turns = (tt, rest.turns); below = (tt, rest.below); pages = one_more (directive.Fresh frame page) rest.pages; renamed = λ has have. (refl, rest.renamed has have) }
  homing (directive.IssueIn slot page ∷ list) seen flight other named stored homes store at turns =
      homing_issue_in slot page list seen flight other named stored homes store at turns.0.0 turns.0.1
      (λ other1 named1 stored1 homes1 at1. homing list (seen_after (directive.IssueIn slot page) seen) (flight_after (directive.IssueIn slot page) flight) other1 named1 stored1 homes1 (store_after (directive.IssueIn slot page) list store) at1 turns.1)
  homing (directive.FinishIn slot frame ∷ list) seen flight other named stored homes store at turns =
      homing_finish_in slot frame turns.0.0 list seen flight other named stored homes store at turns.0.1
      (λ other1 named1 stored1 homes1 at1. homing list (seen_after (directive.FinishIn slot frame) seen) (flight_after (directive.FinishIn slot frame) flight) other1 named1 stored1 homes1 (store_after (directive.FinishIn slot frame) list store) at1 turns.1)
  homing (directive.IssueOut slot frame page ∷ list) seen flight other named stored homes store at turns =
      homing_issue_out slot frame page list seen flight other named stored homes store at turns.0
      (λ other1 named1 stored1 homes1 at1. homing list (seen_after (directive.IssueOut slot frame page) seen) (flight_after (directive.IssueOut slot frame page) flight) other1 named1 stored1 homes1 (store_after (directive.IssueOut slot frame page) list store) at1 turns.1)
      (homes page) refl
  homing (directive.FinishOut slot ∷ list) seen flight other named stored homes store at turns =
      homing_finish_out slot turns.0.0 list seen flight other named stored homes store at turns.0.1
      (λ other1 named1 stored1 homes1 at1. homing list (seen_after (directive.FinishOut slot) seen) (flight_after (directive.FinishOut slot) flight) other1 named1 stored1 homes1 (store_after (directive.FinishOut slot) list store) at1 turns.1)
  homing (directive.Do job ∷ list) seen flight other named stored homes store at turns =
      let rest = homing list (seen_after (directive.Do job) seen) flight other named stored homes store
      (pass_beside seen (seen_after (directive.Do job) seen) flight other named stored homes store (directive.Do job) list refl refl (λ q. refl) refl at) turns.1 in
      record { reads = rest.reads; issues = rest.issues; turns = (tt, rest.turns); below = (tt, rest.below); pages = one_more (directive.Do job) rest.pages; renamed = λ has have. (refl, rest.renamed has have) }
