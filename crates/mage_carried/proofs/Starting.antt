-- Before the first instruction the workers of a carried program stand as the walk begins.
use Rattle.std.proofs.Common.{◌≡◌, ◌≤◌, ◌<◌, ◌+◌, ◌*◌, ℕ, zero, suc, Bool, true, false, not, cond, List, [], ◌∷◌, ◌++◌, length, map, get_or, replicate, nat_eq, nat_lt, Option, Some, None, Result, Ok, Err, refl, sym, ap, ◌∙◌, subst, arith}
use Rattle.std.proofs.lemmas.Bool.{eqb-true}
use Rattle.std.proofs.lemmas.Bool.Decides.{nat_tests}
use Rattle.std.proofs.lemmas.List.{length-append, length-replicate}
use Rattle.mage_instr.specs.declared.directive.Directive.{Directive}
use Rattle.mage_instr.specs.declared.directive.MemProgram.{MemProgram}
use Rattle.mage_instr.specs.declared.replaced.Limits.{Limits}
use Rattle.mage_instr.specs.declared.instr.Instr.{Instr}
use Rattle.mage_instr.specs.declared.instr.Program.{Program}
use Rattle.mage_linked.specs.Workers.{below}
use Rattle.mage_linked.specs.Emission.{own_instrs, program_of}
use Rattle.mage_linked.specs.declared.emitted.Emitted.{Emitted}
use Rattle.mage_network.specs.Workers.{fresh}
use Rattle.mage_network.specs.Slots as core
use Rattle.mage_driver.specs.Rules.{Rules, AreLawful}
use Rattle.mage_steps.specs.Frames.{cleared}
use Rattle.mage_steps.specs.Core.{core_at_first, directives_of}
use Rattle.mage_carry.specs.State as walk
use Rattle.mage_carry.specs.declared.carry.Carry.{Carry}
use Rattle.mage_carry.specs.declared.carry.Carry.TheVariants as carry
use Rattle.mage_carry.specs.Carrying.{start, walked, is_over, broken_at, break_of, unless_break, store_of, carried_from, carries_of}
use Rattle.mage_carried.proofs.Relation.{Holds, SlotHolds, Follows, holds_nothing}
use Rattle.mage_carried.proofs.Standing as standing
use Rattle.mage_carried.proofs.Standing.{WalksOn}

-- where nothing breaks, the walk comes to its end and is over
walk_so : (instrs : List Instr) (count : ℕ) (r : Result walk.State ℕ) → broken_at instrs count r ≡ None →
    (end : walk.State) × (r ≡ Ok end) × (is_over instrs end ≡ true)
walk_so instrs count (Err d) e = absurd cc
walk_so instrs count (Ok state) e = (state, refl, go (is_over instrs state) refl e)
  where
    go : (b : Bool) → is_over instrs state ≡ b → cond b None (Some count) ≡ None → is_over instrs state ≡ true
    go true e' f = e'
    go false e' f = absurd cc

walks_so : (limits : Limits) (store : ℕ) (instrs : List Instr) (part : List Directive) → break_of limits store instrs part ≡ None →
    WalksOn instrs limits.page store (start limits.frames limits.buffer) part
unfolding break_of
walks_so limits store instrs part e =
    let w = walk_so instrs (length part) (walked instrs limits.page store 0 (start limits.frames limits.buffer) part) e in
    (0, w.0, w.1, w.2)

no_break : (worker : ℕ) (o : Option ℕ) (others : Carry) → unless_break worker o others ≡ carry.Yes → (o ≡ None) × (others ≡ carry.Yes)
no_break worker None others e = (refl, e)
no_break worker (Some d) others e = absurd cc

-- in each worker
carried_each : (limits : Limits) (stores : List ℕ) (programs : List (List Instr)) (parts : List (List Directive)) (first : ℕ) →
    length programs ≡ length parts → carried_from limits stores first programs parts ≡ carry.Yes → (n : ℕ) → n < length programs →
    break_of limits (store_of stores (first + n)) (get_or programs n []) (get_or parts n []) ≡ None
carried_each limits stores [] parts first same e n below = absurd (omega arith)
carried_each limits stores (instrs ∷ programs) [] first same e n below = absurd cc
carried_each limits stores (instrs ∷ programs) (part ∷ parts) first same e zero below =
    let b = no_break first (break_of limits (store_of stores first) instrs part) (carried_from limits stores (first + 1) programs parts) e in
    ap (λ k. break_of limits (store_of stores k) instrs part) (let f : first + 0 ≡ first = omega arith in f) ∙ b.0
carried_each limits stores (instrs ∷ programs) (part ∷ parts) first same e (suc n) below =
    let b = no_break first (break_of limits (store_of stores first) instrs part) (carried_from limits stores (first + 1) programs parts) e in
    ap (λ k. break_of limits (store_of stores k) (get_or programs n []) (get_or parts n []))
    (let f : first + suc n ≡ first + 1 + n = omega arith in f)
    ∙ carried_each limits stores programs parts (first + 1)
    (let f : suc (length programs) ≡ suc (length parts) = same in omega arith) b.1 n
    (let f : suc n < suc (length programs) = below in omega arith)

pub below_long : (n : ℕ) → length (below n) ≡ n
below_long zero = refl
below_long (suc n) = length-append (below n) (n ∷ []) ∙ ap (λ k. k + 1) (below_long n) ∙ (let e : n + 1 ≡ suc n = omega arith in e)

pub map_long : {A B : Type 0} (f : A → B) (xs : List A) → length (map f xs) ≡ length xs
map_long f [] = refl
map_long f (x ∷ xs) = ap suc (map_long f xs)

map_append : {A B : Type 0} (f : A → B) (xs ys : List A) → map f (xs ++ ys) ≡ map f xs ++ map f ys
map_append f [] ys = refl
map_append f (x ∷ xs) ys = ap (λ l. f x ∷ l) (map_append f xs ys)

get_front : {A : Type 0} (xs ys : List A) (n : ℕ) (d : A) → n < length xs → get_or (xs ++ ys) n d ≡ get_or xs n d
get_front [] ys n d h = absurd (omega arith)
get_front (x ∷ xs) ys zero d h = refl
get_front (x ∷ xs) ys (suc n) d h = get_front xs ys n d (let e : suc n < suc (length xs) = h in omega arith)

get_last : {A : Type 0} (xs : List A) (y d : A) → get_or (xs ++ y ∷ []) (length xs) d ≡ y
get_last [] y d = refl
get_last (x ∷ xs) y d = get_last xs y d

-- the list of worker n is that of n
pub at_below : {A : Type 0} (f : ℕ → A) (count n : ℕ) (d : A) → n < count → get_or (map f (below count)) n d ≡ f n
at_below f zero n d h = absurd (omega arith)
at_below {A} f (suc count) n d h =
    ap (λ l. get_or l n d) (map_append f (below count) (count ∷ [])) ∙ go (λ k. at_below f count n d k) (nat_lt n count) refl
  where
    long : length (map f (below count)) ≡ count
    long = map_long f (below count) ∙ below_long count

    go : (n < count → get_or (map f (below count)) n d ≡ f n) → (b : Bool) → nat_lt n count ≡ b →
        get_or (map f (below count) ++ f count ∷ []) n d ≡ f n
    go before true e = get_front (map f (below count)) (f count ∷ []) n d (subst (λ k. n < k) (sym long) (grind (arith, nat_tests)))
        ∙ before (grind (arith, nat_tests))
    go before false e =
        let same : n ≡ count = (let u : count ≤ n = grind (arith, nat_tests) in (let t : n < suc count = h in omega arith)) in
        ap (λ k. get_or (map f (below count) ++ f count ∷ []) k d) (same ∙ sym long)
        ∙ get_last (map f (below count)) (f count) d ∙ ap f (sym same)

-- a list of equal items
pub replicate_at : {A : Type 0} (k n : ℕ) (x : A) → get_or (replicate k x) n x ≡ x
replicate_at zero zero x = refl
replicate_at zero (suc n) x = refl
replicate_at (suc k) zero x = refl
replicate_at (suc k) (suc n) x = replicate_at k n x

same_count : (program : Program) (plan : MemProgram) → carries_of program plan ≡ carry.Yes →
    (length program.workers ≡ length plan.workers)
    × (carried_from plan.limits plan.stores 0 program.workers plan.workers ≡ carry.Yes)
unfolding carries_of
same_count program plan e = go (nat_eq (length program.workers) (length plan.workers)) refl e
  where
    go : (b : Bool) → nat_eq (length program.workers) (length plan.workers) ≡ b →
        cond b (carried_from plan.limits plan.stores 0 program.workers plan.workers) (carry.No 0 0) ≡ carry.Yes →
        (length program.workers ≡ length plan.workers)
        × (carried_from plan.limits plan.stores 0 program.workers plan.workers ≡ carry.Yes)
    go true f h = (eqb-true (length program.workers) (length plan.workers) f, h)
    go false f h = absurd cc

-- what a carried program says of each worker
pub record IsCarried (count : ℕ) (emitted : List Emitted) (plan : MemProgram) : Type 0 where
  pub workers : length plan.workers ≡ count
  pub walks : (n : ℕ) → n < count →
      WalksOn (own_instrs emitted n) plan.limits.page (store_of plan.stores n) (start plan.limits.frames plan.limits.buffer)
      (directives_of plan n)

pub carried_so : (count : ℕ) (emitted : List Emitted) (plan : MemProgram) →
    carries_of (program_of count emitted) plan ≡ carry.Yes → IsCarried count emitted plan
carried_so count emitted plan e = record {
  workers = sym c.0 ∙ many;
  walks = λ n within. walks_so plan.limits (store_of plan.stores n) (own_instrs emitted n) (directives_of plan n)
      (ap (λ l. break_of plan.limits (store_of plan.stores n) l (get_or plan.workers n []))
      (sym (at_below (own_instrs emitted) count n [] within))
      ∙ ap (λ k. break_of plan.limits (store_of plan.stores k) (get_or (map (own_instrs emitted) (below count)) n []) (get_or plan.workers n []))
      (let f : n ≡ 0 + n = omega arith in f)
      ∙ carried_each plan.limits plan.stores (map (own_instrs emitted) (below count)) plan.workers 0 c.0 c.1 n
      (subst (λ k. n < k) (sym many) within));
}
  where
    c : (length (map (own_instrs emitted) (below count)) ≡ length plan.workers)
        × (carried_from plan.limits plan.stores 0 (map (own_instrs emitted) (below count)) plan.workers ≡ carry.Yes)
    c = same_count (program_of count emitted) plan e

    many : length (map (own_instrs emitted) (below count)) ≡ count
    many = map_long (own_instrs emitted) (below count) ∙ below_long count

module _ {W : Type 0} (rules : Rules W) (lawful : AreLawful rules) (fine : rules.State → Bool) (plan : MemProgram) (drivers : ℕ → rules.State) where
  cleared_long : length (cleared rules plan.limits.page) ≡ plan.limits.page * rules.wire_bytes
  cleared_long = length-replicate (plan.limits.page * rules.wire_bytes) 0

  pub follows_start : (instrs : List Instr) → Follows rules plan.limits.page instrs [] (start plan.limits.frames plan.limits.buffer)
      (λ frame. cleared rules plan.limits.page) (λ slot. core.Idle) (λ page. cleared rules plan.limits.page)
  follows_start instrs = record {
    frames = λ f. subst (Holds rules plan.limits.page instrs [] (cleared rules plan.limits.page))
        (sym (replicate_at plan.limits.frames f walk.nothing))
        (holds_nothing rules lawful plan.limits.page instrs [] (cleared rules plan.limits.page) cleared_long);
    each = λ s. subst (λ x. SlotHolds rules plan.limits.page instrs [] (λ page. None) (λ page. cleared rules plan.limits.page) x core.Idle)
        (sym (replicate_at plan.limits.buffer s walk.Idle)) tt;
    stored = λ p content e none. absurd cc;
    differ = λ i j p h k. absurd (let t : walk.names p walk.Idle ≡ true =
        subst (λ x. walk.names p x ≡ true) (replicate_at plan.limits.buffer i walk.Idle) h in cc);
    next = refl;
  }

  pub stands_start : (count : ℕ) (emitted : List Emitted) (n : ℕ) → IsCarried count emitted plan → fine (drivers n) ≡ true → n < count →
      standing.Stands rules lawful fine plan n (own_instrs emitted n) (store_of plan.stores n) [] (drivers n) [] (directives_of plan n)
      (fresh (core_at_first rules plan drivers n))
  stands_start count emitted n h is_fine within = record {
    w = start plan.limits.frames plan.limits.buffer;
    follows = follows_start (own_instrs emitted n);
    wire = refl;
    unfinished = ap not (let w = h.workers in (let t : nat_lt n (length plan.workers) ≡ true = grind (arith, nat_tests) in t));
    same = refl;
    is_fine = is_fine;
    front = [];
    split = refl;
    place = refl;
    walks = h.walks n within;
    said = refl;
  }
