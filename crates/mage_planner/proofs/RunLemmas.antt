-- A run over stores of the desk: what they come to, and what is said.
use Rattle.std.proofs.Common.{◌≡◌, ◌<◌, ◌≤◌, ◌*◌, ◌++◌, ℕ, zero, suc, List, [], ◌∷◌, length, map, Bool, true, false, cond, IsTrue, Option, Some, None, IsSome, slice_get, refl, sym, ap, subst, ◌∙◌, arith}
use Rattle.std.specs.List.{All, flat_map}
use Rattle.std.specs.Option.{IfSome, option_map, option_or, option_to_list}
use Rattle.mage_base.specs.declared.failure.Damage.{Damage}
use Rattle.mage_base.specs.Desk.{DeskTold, Returned, HandsStore, with_store}
use Rattle.mage_base.specs.Faults.{Rose}
use Rattle.mage_base.specs.Store.{StoreTold, Pages, Transfer}
use Rattle.mage_instr.specs.declared.directive.Directive.{Directive}
use Rattle.mage_instr.specs.declared.directive.Directive.TheVariants as entry
use Rattle.mage_instr.specs.declared.replaced.Limits.{Limits}
use Rattle.mage_sched.specs.Scheduled.{page_read, page_written}
use Rattle.mage_engine.specs.Ready.{page_moved}
use Rattle.mage_verify.specs.declared.fault.VerifyFault.{VerifyFault}
use Rattle.mage_verify.specs.Faults.{own_fault, joint_fault, lowest}
use Rattle.mage_verify.specs.Parts.{WorkerPart}
use Rattle.mage_verify.specs.Runs.{AreVerified, Meets}
use Rattle.mage_verify.specs.State.{State, state_before}
use Rattle.mage_verify.proofs.Running.{Runs-from_none}
use Rattle.mage_core.specs.Going.{reads_of, writes_of}
use Rattle.mage_core.specs.Issues.{issues_in, issues_out}
use Rattle.mage_core.proofs.Issuing.{finishes_all}
use Rattle.mage_core.specs.Ports.{pages_moved}
use Rattle.mage_core.specs.Results.{Gained, Grew}
use Rattle.mage_lending.specs.Stores.{AreLent, AreBack, with_shelf, shelf_at}
use Rattle.mage_solo.specs.Stores as solo
use Rattle.mage_solo.specs.Stores.{Stored, IsMoved, IsDamagedBy, SufficesFor, AreMoved, HaveGrown, HasBroken, HasDamaged, AllSuffice}
use Rattle.mage_source_runs.specs.Moves.{Moves}
use Rattle.mage_planner.specs.Stores as desk
use Rattle.mage_planner.specs.Stores.{Made, AreOfDesk, GivesBack, HasMoved, HaveMoved}
use Rattle.mage_planner.specs.Ran.{orders_of}
use Rattle.mage_planner.proofs.WritingLemmas.{both_all}

-- ---- workers one by one

-- a fact of each worker: of its part, of its store as it was lent, and as it is given back
abbrev pub Each : (P : WorkerPart → StoreTold → StoreTold → Type 0) → List WorkerPart → (fresh shelves : List (List StoreTold)) → Type 0
Each P [] [] [] = Unit {0}
Each P (part ∷ parts) ((old ∷ []) ∷ fresh) ((new ∷ []) ∷ shelves) = P part old new × Each P parts fresh shelves
Each P _ _ _ = ⊥

-- a store was lent to the part's worker, where a wire takes so many bytes
abbrev pub IsOwn : (bytes : ℕ) → DeskTold → WorkerPart → StoreTold → StoreTold → Type 0
IsOwn bytes before part old new = HandsStore before part.pages (part.limits.page * bytes) old

-- as many stores are on each shelf
abbrev pub counts : List (List StoreTold) → List ℕ
counts shelves = map (λ shelf. length shelf) shelves

same_first : (m n : ℕ) (ms ns : List ℕ) → m ∷ ms ≡ n ∷ ns → m ≡ n
same_first m n ms ns e = cc

same_rest : (m n : ℕ) (ms ns : List ℕ) → m ∷ ms ≡ n ∷ ns → ms ≡ ns
same_rest m n ms ns e = cc

pub each_own : (bytes : ℕ) (before : DeskTold) (parts : List WorkerPart) (fresh shelves : List (List StoreTold)) → AreLent before (orders_of bytes parts) fresh
    → counts shelves ≡ counts fresh → Each (IsOwn bytes before) parts fresh shelves
each_own bytes before [] [] [] lent same = tt
each_own bytes before [] [] (shelf ∷ shelves) lent same = absurd (cc)
each_own bytes before [] (shelf ∷ fresh) shelves lent same = absurd lent
each_own bytes before (part ∷ parts) [] shelves lent same = absurd lent
each_own bytes before (part ∷ parts) ([] ∷ fresh) shelves lent same = absurd lent.0
each_own bytes before (part ∷ parts) ((old ∷ next ∷ others) ∷ fresh) shelves lent same = absurd lent.0
each_own bytes before (part ∷ parts) ((old ∷ []) ∷ fresh) [] lent same = absurd (cc)
each_own bytes before (part ∷ parts) ((old ∷ []) ∷ fresh) ([] ∷ shelves) lent same =
    let e = same_first 0 1 (counts shelves) (counts fresh) same in absurd (omega (arith, e))
each_own bytes before (part ∷ parts) ((old ∷ []) ∷ fresh) ((new ∷ []) ∷ shelves) lent same =
    (lent.0, each_own bytes before parts fresh shelves lent.1 (same_rest 1 1 (counts shelves) (counts fresh) same))
each_own bytes before (part ∷ parts) ((old ∷ []) ∷ fresh) ((new ∷ next ∷ others) ∷ shelves) lent same =
    let e = same_first (length (new ∷ next ∷ others)) 1 (counts shelves) (counts fresh) same in absurd (omega (arith, e))

-- what holds of each worker of a run too
pub each_too : (P Q : WorkerPart → StoreTold → StoreTold → Type 0) (parts : List WorkerPart) (fresh shelves : List (List StoreTold)) → Each P parts fresh shelves
    → ((w : ℕ) (worker : Stored parts fresh shelves w) → Q worker.part worker.old worker.new)
    → Each (λ part old new. P part old new × Q part old new) parts fresh shelves
each_too P Q [] [] [] each too = tt
each_too P Q (part ∷ parts) ((old ∷ []) ∷ fresh) ((new ∷ []) ∷ shelves) each too = (
  (each.0, too 0 (record { part = part; old = old; new = new; part_so = refl; old_so = refl; new_so = refl })),
  each_too P Q parts fresh shelves each.1 (λ w worker. too (suc w) (record {
    part = worker.part;
    old = worker.old;
    new = worker.new;
    part_so = worker.part_so;
    old_so = worker.old_so;
    new_so = worker.new_so;
  })),
)
each_too P Q _ _ _ each too = absurd each

-- ---- what is told of a store that was lent

-- its log, and what it gained
log_made : (tells : Bool) (old new : Option (List Transfer)) (made : List Transfer) → old ≡ cond tells (Some []) None
    → new ≡ option_map (λ earlier. earlier ++ made) old → new ≡ cond tells (Some made) None
log_made true old new made first gained = gained ∙ ap (λ (log : Option (List Transfer)). option_map (λ earlier. earlier ++ made) log) first
log_made false old new made first gained = gained ∙ ap (λ (log : Option (List Transfer)). option_map (λ earlier. earlier ++ made) log) first

-- one that doesn't tell its pages is of a desk whose stores don't
untold : (tells : Bool) (pages : Option Pages) (own : Pages) → pages ≡ cond tells (Some own) None → pages ≡ None → tells ≡ false
untold true pages own is none = absurd (cc)
untold false pages own is none = refl

-- each issue names a page
issues_read : (directives : List Directive) → issues_in directives ≡ length (flat_map page_read directives)
issues_read [] = refl
issues_read (entry.Fresh frame page ∷ directives) = let rest = issues_read directives in omega (arith, rest)
issues_read (entry.IssueIn slot page ∷ directives) = let rest = issues_read directives in omega (arith, rest)
issues_read (entry.FinishIn slot frame ∷ directives) = let rest = issues_read directives in omega (arith, rest)
issues_read (entry.IssueOut slot frame page ∷ directives) = let rest = issues_read directives in omega (arith, rest)
issues_read (entry.FinishOut slot ∷ directives) = let rest = issues_read directives in omega (arith, rest)
issues_read (entry.Do job ∷ directives) = let rest = issues_read directives in omega (arith, rest)

issues_written : (directives : List Directive) → issues_out directives ≡ length (flat_map page_written directives)
issues_written [] = refl
issues_written (entry.Fresh frame page ∷ directives) = let rest = issues_written directives in omega (arith, rest)
issues_written (entry.IssueIn slot page ∷ directives) = let rest = issues_written directives in omega (arith, rest)
issues_written (entry.FinishIn slot frame ∷ directives) = let rest = issues_written directives in omega (arith, rest)
issues_written (entry.IssueOut slot frame page ∷ directives) = let rest = issues_written directives in omega (arith, rest)
issues_written (entry.FinishOut slot ∷ directives) = let rest = issues_written directives in omega (arith, rest)
issues_written (entry.Do job ∷ directives) = let rest = issues_written directives in omega (arith, rest)

-- how often parts move pages
abbrev pub moves_of_parts : List WorkerPart → List Moves
moves_of_parts parts = map (λ part. record { reads = length (flat_map page_read part.directives); writes = length (flat_map page_written part.directives) }) parts

module _ (bytes : ℕ) (before : DeskTold) where
  made_of : (part : WorkerPart) (old new : StoreTold) (made : List Transfer) → IsOwn bytes before part old new → Gained old new made → Made before new made
  made_of part old new made own gained =
      log_made before.stores_tell_logs old.log new.log made (ap (λ (store : StoreTold). store.log) own.fresh) gained

  untold_of : (part : WorkerPart) (old new : StoreTold) → IsOwn bytes before part old new → old.pages ≡ None → before.stores_tell_pages ≡ false
  untold_of part old new own none = untold before.stores_tell_pages old.pages _ (ap (λ (store : StoreTold). store.pages) own.fresh) none

  -- the stores are the desk's
  of_desk : (parts : List WorkerPart) (fresh shelves : List (List StoreTold)) → Each (λ part old new. IsOwn bytes before part old new × Grew old new) parts fresh shelves
      → AreOfDesk before shelves
  of_desk [] [] [] each = tt
  of_desk (part ∷ parts) ((old ∷ []) ∷ fresh) ((new ∷ []) ∷ shelves) each =
      ((each.0.1.log.0, made_of part old new each.0.1.log.0 each.0.0 each.0.1.log.1), of_desk parts fresh shelves each.1)
  of_desk _ _ _ each = absurd each

  -- what was lent to a worker
  own_at : (parts : List WorkerPart) (fresh shelves : List (List StoreTold)) → Each (IsOwn bytes before) parts fresh shelves
      → (w : ℕ) (worker : Stored parts fresh shelves w) → IsOwn bytes before worker.part worker.old worker.new
  own_at [] [] [] each w worker = let e = worker.part_so in absurd (none_there w e) where
    none_there : (w : ℕ) {x : WorkerPart} → slice_get [] w ≡ Some x → ⊥
    none_there zero e = cc
    none_there (suc w) e = cc
  own_at (part ∷ parts) ((old ∷ []) ∷ fresh) ((new ∷ []) ∷ shelves) each zero worker =
      let same_part : part ≡ worker.part = some_is part worker.part worker.part_so in
      let same_old : old ≡ worker.old = one_is old worker.old worker.old_so in
      subst (λ (p : WorkerPart). IsOwn bytes before p worker.old worker.new) same_part (subst (λ (s : StoreTold). IsOwn bytes before part s worker.new) same_old each.0)
    where
      some_is : (x y : WorkerPart) → Some x ≡ Some y → x ≡ y
      some_is x y e = cc

      one_is : (x y : StoreTold) → ◌≡◌ {A = Option (List StoreTold)} (Some (x ∷ [])) (Some (y ∷ [])) → x ≡ y
      one_is x y e = cc
  own_at (part ∷ parts) ((old ∷ []) ∷ fresh) ((new ∷ []) ∷ shelves) each (suc w) worker =
      own_at parts fresh shelves each.1 w (record {
        part = worker.part;
        old = worker.old;
        new = worker.new;
        part_so = worker.part_so;
        old_so = worker.old_so;
        new_so = worker.new_so;
      })
  own_at _ _ _ each w worker = absurd each

  -- ---- the stores that were moved

  -- as many pages as the part's issues, where each issue is finished
  pub record Moved (part : WorkerPart) (old new : StoreTold) : Type 0 where
    pub own : IsOwn bytes before part old new
    pub moved : IsMoved part old new
    pub reads : reads_of part.directives ≡ length (flat_map page_read part.directives)
    pub writes : writes_of part.directives ≡ length (flat_map page_written part.directives)

  has_moved : (part : WorkerPart) (old new : StoreTold) → Moved part old new
      → HasMoved (record { reads = length (flat_map page_read part.directives); writes = length (flat_map page_written part.directives) }) new
  has_moved part old new m =
      let none = ap (λ (store : StoreTold). store.reads) m.own.fresh in
      let none_too = ap (λ (store : StoreTold). store.writes) m.own.fresh in
      let none_last = ap (λ (store : StoreTold). store.faults) m.own.fresh in
      let reads = m.moved.reads in
      let writes = m.moved.writes in
      let due = m.reads in
      let due_too = m.writes in
      record {
        reads = omega (arith, none, reads, due);
        writes = omega (arith, none_too, writes, due_too);
        faults = m.moved.faults ∙ none_last;
      }

  have_moved : (parts : List WorkerPart) (fresh shelves : List (List StoreTold)) → Each Moved parts fresh shelves → HaveMoved (moves_of_parts parts) shelves
  have_moved [] [] [] each = tt
  have_moved (part ∷ parts) ((old ∷ []) ∷ fresh) ((new ∷ []) ∷ shelves) each = (has_moved part old new each.0, have_moved parts fresh shelves each.1)
  have_moved _ _ _ each = absurd each

-- ---- shelves

-- no store on them failed
abbrev pub AreSound : (shelves : List (List StoreTold)) → Type 0
AreSound [] = Unit {0}
AreSound ((store ∷ []) ∷ shelves) = (store.faults ≡ 0) × AreSound shelves
AreSound _ = ⊥

sound_moved : (moves : List Moves) (shelves : List (List StoreTold)) → HaveMoved moves shelves → AreSound shelves
sound_moved [] [] moved = tt
sound_moved (own ∷ moves) ((store ∷ []) ∷ shelves) moved = (moved.0.faults, sound_moved moves shelves moved.1)
sound_moved _ _ moved = absurd moved

sound_fresh : (bytes : ℕ) (before : DeskTold) (parts : List WorkerPart) (fresh shelves : List (List StoreTold)) → Each (IsOwn bytes before) parts fresh shelves → AreSound fresh
sound_fresh bytes before [] [] [] each = tt
sound_fresh bytes before (part ∷ parts) ((old ∷ []) ∷ fresh) ((new ∷ []) ∷ shelves) each =
    (ap (λ (store : StoreTold). store.faults) each.0.fresh, sound_fresh bytes before parts fresh shelves each.1)
sound_fresh bytes before _ _ _ each = absurd each

-- so the faults that came back of a worker's stores don't rise
sound_at : (shelves : List (List StoreTold)) → AreSound shelves → (returned : Returned) (w : ℕ) → (with_shelf returned (shelf_at shelves w)).faults ≤ returned.faults
sound_at [] sound returned w = omega arith
sound_at ([] ∷ shelves) sound returned w = absurd sound
sound_at ((store ∷ next ∷ others) ∷ shelves) sound returned w = absurd sound
sound_at ((store ∷ []) ∷ shelves) sound returned zero = let none = sound.0 in omega (arith, none)
sound_at ((store ∷ []) ∷ shelves) sound returned (suc w) = sound_at shelves sound.1 returned w

-- the shelf of a worker who has one
shelf_is : (shelves : List (List StoreTold)) (w : ℕ) (shelf : List StoreTold) → slice_get shelves w ≡ Some shelf → shelf_at shelves w ≡ shelf
shelf_is [] zero shelf e = cc
shelf_is [] (suc w) shelf e = cc
shelf_is (first ∷ shelves) zero shelf e = cc
shelf_is (first ∷ shelves) (suc w) shelf e = shelf_is shelves w shelf e

within : (shelves : List (List StoreTold)) (w : ℕ) (shelf : List StoreTold) → slice_get shelves w ≡ Some shelf → w < length shelves
within [] zero shelf e = absurd (cc)
within [] (suc w) shelf e = absurd (cc)
within (first ∷ shelves) zero shelf e = omega arith
within (first ∷ shelves) (suc w) shelf e = let rest = within shelves w shelf e in omega (arith, rest)

same_count : (parts : List WorkerPart) (fresh shelves : List (List StoreTold)) (P : WorkerPart → StoreTold → StoreTold → Type 0) → Each P parts fresh shelves
    → length shelves ≡ length parts
same_count [] [] [] P each = refl
same_count (part ∷ parts) ((old ∷ []) ∷ fresh) ((new ∷ []) ∷ shelves) P each = let rest = same_count parts fresh shelves P each.1 in omega (arith, rest)
same_count _ _ _ P each = absurd each

-- ---- stores that suffice

pages_within : (directives : List Directive) (pages : ℕ) → ((d : ℕ) → IfSome (slice_get directives d) (λ directive. IfSome (page_moved directive) (λ page. page < pages)))
    → All (λ page. page < pages) (pages_moved directives)
pages_within [] pages each = λ k d inside. absurd (omega (arith, inside))
pages_within (directive ∷ directives) pages each =
    go (page_moved directive) (each 0) (pages_within directives pages (λ d. each (suc d)))
  where
    go : (o : Option ℕ) → IfSome o (λ page. page < pages) → All (λ page. page < pages) (pages_moved directives)
        → All (λ page. page < pages) (option_to_list o ++ pages_moved directives)
    go None h rest = rest
    go (Some page) h rest = both_all (λ (p : ℕ). p < pages) page (pages_moved directives) h rest

meets_within : (limits : Limits) (pages : ℕ) (state : State) (directive : Directive) → Meets limits pages state directive → IfSome (page_moved directive) (λ page. page < pages)
meets_within limits pages state (entry.Fresh frame page) meets = tt
meets_within limits pages state (entry.IssueIn slot page) meets = meets.1
meets_within limits pages state (entry.FinishIn slot frame) meets = tt
meets_within limits pages state (entry.IssueOut slot frame page) meets = meets.2
meets_within limits pages state (entry.FinishOut slot) meets = tt
meets_within limits pages state (entry.Do job) meets = tt

some_so : (o : Option Directive) (P Q : Directive → Type 0) → ((x : Directive) → P x → Q x) → IfSome o P → IfSome o Q
some_so None P Q f h = tt
some_so (Some x) P Q f h = f x h

part_within : (part : WorkerPart) → own_fault part ≡ None → All (λ page. page < part.pages) (pages_moved part.directives)
part_within part none =
    let runs = Runs-from_none part none in
    pages_within part.directives part.pages (λ d.
    some_so (slice_get part.directives d) _ _ (λ x meets. meets_within part.limits part.pages (state_before part.directives d) x meets) (runs.each d))

none_first : (o p : Option VerifyFault) → option_or o p ≡ None → o ≡ None
none_first None p e = refl
none_first (Some x) p e = absurd (cc)

none_second : (o p : Option VerifyFault) → option_or o p ≡ None → p ≡ None
none_second None p e = e
none_second (Some x) p e = absurd (cc)

pub one_all : {X : Type 0} (P : X → Type 0) (x : X) → P x → All P (x ∷ [])
one_all P x p = both_all P x [] p (λ k d inside. absurd (omega (arith, inside)))

told_pages : (tells : Bool) (pages : Option Pages) (own : Pages) → pages ≡ cond tells (Some own) None → IsTrue tells → IsSome pages
told_pages true pages own is tells = rw is refl
told_pages false pages own is tells = absurd (cc)

module _ (bytes : ℕ) (before : DeskTold) (steady : IsTrue before.steady) (tells : IsTrue before.stores_tell_pages) where
  suffice : (parts : List WorkerPart) (fresh shelves : List (List StoreTold)) → Each (IsOwn bytes before) parts fresh shelves → lowest own_fault parts ≡ None → AllSuffice parts fresh
  suffice [] [] [] each none = nothing where
    nothing : (w : ℕ) → IfSome (slice_get [] w) (λ (part : WorkerPart). IfSome (slice_get [] w) (All (SufficesFor part)))
    nothing zero = tt
    nothing (suc w) = tt
  suffice (part ∷ parts) ((old ∷ []) ∷ fresh) ((new ∷ []) ∷ shelves) each none =
      at (suffice parts fresh shelves each.1 (none_second (own_fault part) (lowest own_fault parts) none))
    where
      own : IsOwn bytes before part old new
      own = each.0

      as_lent : IsTrue old.steady × (old.page_count ≡ part.pages)
      as_lent = own.steady steady

      first : SufficesFor part old
      first = record {
        told = told_pages before.stores_tell_pages old.pages _ (ap (λ (store : StoreTold). store.pages) own.fresh) tells;
        steady = as_lent.0;
        no_reads = ap (λ (store : StoreTold). store.reads) own.fresh;
        no_writes = ap (λ (store : StoreTold). store.writes) own.fresh;
        pages = subst (λ (count : ℕ). All (λ page. page < count) (pages_moved part.directives)) (sym as_lent.1)
            (part_within part (none_first (own_fault part) (lowest own_fault parts) none));
      }

      at : AllSuffice parts fresh → (w : ℕ) → IfSome (slice_get (part ∷ parts) w) (λ (p : WorkerPart). IfSome (slice_get ((old ∷ []) ∷ fresh) w) (All (SufficesFor p)))
      at rest zero = one_all (SufficesFor part) old first
      at rest (suc w) = rest w
  suffice _ _ _ each none = absurd each

-- ---- what a run leaves

module _ (bytes : ℕ) (before after : DeskTold) (parts : List WorkerPart) (fresh shelves : List (List StoreTold))
    (lent : AreLent before (orders_of bytes parts) fresh) (shape : counts shelves ≡ counts fresh) (grown : HaveGrown parts fresh shelves)
    (back : AreBack before.lent before after shelves)
  where
    own : Each (IsOwn bytes before) parts fresh shelves
    own = each_own bytes before parts fresh shelves lent shape

    pub given : GivesBack shelves before after
    given = record {
      own = of_desk bytes before parts fresh shelves (each_too (IsOwn bytes before) (λ part old new. Grew old new) parts fresh shelves own grown);
      back = back;
    }

    pub as_many : length shelves ≡ length parts
    as_many = same_count parts fresh shelves (IsOwn bytes before) own

    pub has_broken : (w : ℕ) → HasBroken parts fresh shelves w → desk.HasBroken shelves w
    has_broken w broken =
        let old = own_at bytes before parts fresh shelves own w broken.0 in
        let none = ap (λ (store : StoreTold). store.faults) old.fresh in
        let rose = broken.2 in
        record { store = broken.0.new; of_worker = broken.0.new_so; failed = omega (arith, none, rose) }

    pub has_damaged : (w : ℕ) (damage : Damage) → HasDamaged parts fresh shelves w damage → desk.HasDamaged before shelves w damage
    has_damaged w damage damaged =
        let old = own_at bytes before parts fresh shelves own w damaged.0 in
        record {
          untold = untold_of bytes before damaged.0.part damaged.0.old damaged.0.new old damaged.1.untold;
          store = damaged.0.new;
          of_worker = damaged.0.new_so;
          made = damaged.1.made;
          made_so = made_of bytes before damaged.0.part damaged.0.old damaged.0.new damaged.1.made old damaged.1.gained;
          ends = damaged.1.ends;
        }

    pub were_deceived : solo.WereDeceived parts fresh shelves → desk.WereDeceived before shelves
    were_deceived deceived =
        let old = own_at bytes before parts fresh shelves own deceived.number deceived.worker in
        record {
          untold = untold_of bytes before deceived.worker.part deceived.worker.old deceived.worker.new old deceived.untold;
          worker = deceived.number;
          store = deceived.worker.new;
          of_worker = deceived.worker.new_so;
          made = deceived.made;
          made_so = made_of bytes before deceived.worker.part deceived.worker.old deceived.worker.new deceived.made old deceived.gained;
          page = deceived.page;
          forged = deceived.forged;
        }

    -- the count of a worker whose store failed
    pub rose : (w : ℕ) → desk.HasBroken shelves w → Rose (before.returned w).faults (after.returned w).faults
    rose w broken =
        let returned : after.returned w ≡ with_shelf (before.returned w) (shelf_at shelves w) = ap (λ (d : DeskTold). d.returned w) back.rest in
        let shelf : shelf_at shelves w ≡ broken.store ∷ [] = shelf_is shelves w (broken.store ∷ []) broken.of_worker in
        let faults : (after.returned w).faults ≡ (with_store (before.returned w) broken.store).faults =
        ap (λ (r : Returned). r.faults) returned ∙ ap (λ (s : List StoreTold). (with_shelf (before.returned w) s).faults) shelf in
        let failed = broken.failed in
        omega (arith, faults, failed)

    pub broken_inside : (w : ℕ) → desk.HasBroken shelves w → w < length parts
    broken_inside w broken = let inside = within shelves w (broken.store ∷ []) broken.of_worker in omega (arith, inside, as_many)

    pub damaged_inside : (w : ℕ) (damage : Damage) → desk.HasDamaged before shelves w damage → w < length parts
    damaged_inside w damage damaged = let inside = within shelves w (damaged.store ∷ []) damaged.of_worker in omega (arith, inside, as_many)

    -- no count of faults rose where no store failed
    pub sound_back : AreSound shelves → (w : ℕ) → (after.returned w).faults ≤ (before.returned w).faults
    sound_back sound w =
        let returned : after.returned w ≡ with_shelf (before.returned w) (shelf_at shelves w) = ap (λ (d : DeskTold). d.returned w) back.rest in
        subst (λ (r : Returned). r.faults ≤ (before.returned w).faults) (sym returned) (sound_at shelves sound (before.returned w) w)

    -- nor where they are as they were lent
    pub sound_unused : shelves ≡ fresh → AreSound shelves
    sound_unused same = subst AreSound (sym same) (sound_fresh bytes before parts fresh shelves own)

    -- nor where all were moved
    pub sound_used : AreMoved parts fresh shelves → AreSound shelves
    sound_used moved = sound_each parts fresh shelves (each_too (IsOwn bytes before) IsMoved parts fresh shelves own moved) where
      sound_each : (parts : List WorkerPart) (fresh shelves : List (List StoreTold)) → Each (λ part old new. IsOwn bytes before part old new × IsMoved part old new) parts fresh shelves → AreSound shelves
      sound_each [] [] [] each = tt
      sound_each (part ∷ parts) ((old ∷ []) ∷ fresh) ((new ∷ []) ∷ shelves) each =
          (each.0.1.faults ∙ ap (λ (store : StoreTold). store.faults) each.0.0.fresh, sound_each parts fresh shelves each.1)
      sound_each _ _ _ each = absurd each

    pub all_suffice : AreVerified parts → IsTrue before.steady → IsTrue before.stores_tell_pages → AllSuffice parts fresh
    all_suffice verified steady tells =
        suffice bytes before steady tells parts fresh shelves own (none_first (lowest own_fault parts) (joint_fault (map (λ part. part.directives) parts)) verified.none)

    -- each store was moved as often as its part issues reads and writes
    pub all_moved : AreVerified parts → AreMoved parts fresh shelves → HaveMoved (moves_of_parts parts) shelves
    all_moved verified moved =
        have_moved bytes before parts fresh shelves (all parts fresh shelves own moved (none_first (lowest own_fault parts) (joint_fault (map (λ part. part.directives) parts)) verified.none))
      where
        all : (parts : List WorkerPart) (fresh shelves : List (List StoreTold)) → Each (IsOwn bytes before) parts fresh shelves → AreMoved parts fresh shelves
            → lowest own_fault parts ≡ None → Each (Moved bytes before) parts fresh shelves
        all [] [] [] each moved none = tt
        all (part ∷ parts) ((old ∷ []) ∷ fresh) ((new ∷ []) ∷ shelves) each moved none =
            let finishes = finishes_all part (Runs-from_none part (none_first (own_fault part) (lowest own_fault parts) none)) in (
              record {
                own = each.0;
                moved = moved 0 (record { part = part; old = old; new = new; part_so = refl; old_so = refl; new_so = refl });
                reads = finishes.0 ∙ issues_read part.directives;
                writes = finishes.1 ∙ issues_written part.directives;
              },
              all parts fresh shelves each.1 (λ w worker. moved (suc w) (record {
                part = worker.part;
                old = worker.old;
                new = worker.new;
                part_so = worker.part_so;
                old_so = worker.old_so;
                new_so = worker.new_so;
              })) (none_second (own_fault part) (lowest own_fault parts) none),
            )
        all _ _ _ each moved none = absurd each
