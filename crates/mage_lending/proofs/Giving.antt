-- What is left after the workers' stores were given back one after the other.
use Rattle.std.proofs.Common.{◌≡◌, ◌≤◌, ◌<◌, ◌+◌, ◌++◌, ◌∷◌, ◌==◌, ℕ, zero, suc, Bool, true, false, cond, List, [], length, get_or, take, map, Vec, Err, refl, sym, ap, ap₂, subst, ◌∙◌, append_assoc, append-nil, length-append, arith, Contains}
use Rattle.std.specs.Prelude.{nat_lt, if◌then◌else◌}
use Rattle.std.specs.List.{All}
use Rattle.std.specs.Global.{Global}
use Rattle.std.proofs.lemmas.Bool.{and_parts, and_from, eqb-true, eq-eqb, ne_eqb}
use Rattle.std.proofs.lemmas.Bool.Decides.{nat_tests}
use Rattle.std.proofs.lemmas.List.{map-append, take_more, length-map}
use Rattle.std.proofs.lemmas.List.Elements.{Contains-append_right, All-cons, All-nil, All-head, All-tail}
use Rattle.std.proofs.lemmas.List.Sums.{sum_by-append, sum_by-cons}
use mathlib.Core.Path.{fun_ext}
use Rattle.mage_base.specs.declared.failure.DeskError.{DeskError}
use Rattle.mage_base.specs.declared.failure.DeskError.TheVariants as errors
use Rattle.mage_base.specs.Desk.{DeskTold, StoreId, Returned, FaultCounted, IsNoFault, is_store, without_store, with_store, after_giving}
use Rattle.mage_base.specs.Store.{StoreTold, new_store}
use Rattle.mage_lending.specs.declared.stores.StoreOrder.{StoreOrder}
use Rattle.mage_lending.specs.Stores.{own_store, own_stores, told_on, IsLent, AreLent, times, with_shelf, shelf_at, after_shelf, AreBack, with_unused, NoneAreLent}

-- ---- names

same_itself : (id : StoreId) → is_store id id ≡ true
same_itself id = and_from (id.worker == id.worker) (id.shard == id.shard) (eq-eqb id.worker id.worker refl) (eq-eqb id.shard id.shard refl)

same_name : (a b : StoreId) → is_store a b ≡ true → a ≡ b
same_name a b e =
    let both = and_parts (a.worker == b.worker) (a.shard == b.shard) e in
    ap₂ (λ (worker shard : ℕ). let id : StoreId = record { worker = worker; shard = shard } in id) (eqb-true a.worker b.worker both.0) (eqb-true a.shard b.shard both.1)

one_more : (id first : StoreId) (others : List StoreId) → times id (first ∷ others) ≡ cond (is_store first id) 1 0 + times id others
one_more id first others = sum_by-cons (λ (store : StoreId). cond (is_store store id) 1 0) first others

times_both : (id : StoreId) (xs ys : List StoreId) → times id (xs ++ ys) ≡ times id xs + times id ys
times_both id xs ys = sum_by-append (λ (store : StoreId). cond (is_store store id) 1 0) xs ys

-- ---- one store is given back

-- what is taken from a list that has the store stands before what comes after it
taken_before : (xs : List StoreId) (id : StoreId) (rest : List StoreId) → without_store (xs ++ id ∷ rest) id ≡ without_store (xs ++ id ∷ []) id ++ rest
taken_before [] id rest = rw (same_itself id) refl
taken_before (x ∷ xs) id rest = step (taken_before xs id rest) (is_store x id)
  where
    step : without_store (xs ++ id ∷ rest) id ≡ without_store (xs ++ id ∷ []) id ++ rest → (b : Bool) →
        (if b then xs ++ id ∷ rest else x ∷ without_store (xs ++ id ∷ rest) id) ≡ (if b then xs ++ id ∷ [] else x ∷ without_store (xs ++ id ∷ []) id) ++ rest
    step before true = sym (append_assoc xs (id ∷ []) rest)
    step before false = ap (λ (l : List StoreId). x ∷ l) before

-- as often as before the store was added
taken_often : (xs : List StoreId) (id other : StoreId) → times other (without_store (xs ++ id ∷ []) id) ≡ times other xs
taken_often [] id other = rw (same_itself id) refl
taken_often (x ∷ xs) id other = step (taken_often xs id other) (is_store x id) refl
  where
    step : times other (without_store (xs ++ id ∷ []) id) ≡ times other xs → (b : Bool) → is_store x id ≡ b → times other (if b then xs ++ id ∷ [] else x ∷ without_store (xs ++ id ∷ []) id) ≡ times other (x ∷ xs)
    step often true e =
        let same : cond {A = ℕ} (is_store x other) 1 0 ≡ cond {A = ℕ} (is_store id other) 1 0 = ap (λ (i : StoreId). cond {A = ℕ} (is_store i other) 1 0) (same_name x id e) in
        omega (arith, same, times_both other xs (id ∷ []), one_more other id [], one_more other x xs)
    step often false e =
        omega (arith, often, one_more other x (without_store (xs ++ id ∷ []) id), one_more other x xs)

-- the same list, where it hadn't the store
taken_same : (xs : List StoreId) (id : StoreId) → times id xs ≡ 0 → without_store (xs ++ id ∷ []) id ≡ xs
taken_same [] id none = rw (same_itself id) refl
taken_same (x ∷ xs) id none = step (taken_same xs id) (is_store x id) refl
  where
    step : (times id xs ≡ 0 → without_store (xs ++ id ∷ []) id ≡ xs) → (b : Bool) → is_store x id ≡ b → (if b then xs ++ id ∷ [] else x ∷ without_store (xs ++ id ∷ []) id) ≡ x ∷ xs
    step same true e =
        let one : cond {A = ℕ} (is_store x id) 1 0 ≡ 1 = ap (λ (b : Bool). cond {A = ℕ} b 1 0) e in
        absurd (omega (arith, one, none, one_more id x xs))
    step same false e =
        let no : cond {A = ℕ} (is_store x id) 1 0 ≡ 0 = ap (λ (b : Bool). cond {A = ℕ} b 1 0) e in
        let less : times id xs ≡ 0 = omega (arith, no, none, one_more id x xs) in
        ap (λ (l : List StoreId). x ∷ l) (same less)

-- the desk's list has the next worker's store
pub has_next : (held : List StoreId) (worker : ℕ) (rest : List StoreId) → Contains (held ++ own_store worker ∷ rest) (own_store worker)
has_next held worker rest = Contains-append_right held (own_store worker ∷ rest) (own_store worker) (0, omega (arith), refl)

-- ---- all of them, one after the other

-- what the desk tells after these shelves were emptied, which are those of this worker and of the next ones
abbrev pub after_shelves : DeskTold → (worker : ℕ) → List (List StoreTold) → DeskTold
after_shelves desk worker [] = desk
after_shelves desk worker (shelf ∷ shelves) = after_shelves (after_shelf desk worker shelf) (worker + 1) shelves

-- each shelf has one store
abbrev pub HaveOne : List (List StoreTold) → Type 0
HaveOne [] = Unit {0}
HaveOne (shelf ∷ shelves) = (length shelf ≡ 1) × HaveOne shelves

-- what the desk tells then, from this worker on
pub record Gave (earlier : List StoreId) (worker : ℕ) (before after : DeskTold) (shelves : List (List StoreTold)) : Type 0 where
  pub often : (id : StoreId) → times id after.lent ≡ times id earlier
  pub same : ((other : ℕ) → worker ≤ other → other < worker + length shelves → times (own_store other) earlier ≡ 0) → after.lent ≡ earlier
  pub own : (n : ℕ) → after.returned (worker + n) ≡ with_shelf (before.returned (worker + n)) (shelf_at shelves n)
  pub others : (other : ℕ) → other < worker → after.returned other ≡ before.returned other
  pub rest : after ≡ record before { lent = after.lent; returned = after.returned }

-- what is held by the desk then, but for the stores that are still to come
abbrev pub held_then : List StoreId → (worker : ℕ) → List StoreId
held_then held worker = without_store (held ++ own_store worker ∷ []) (own_store worker)

pub lent_then : (desk : DeskTold) (held : List StoreId) (worker : ℕ) (rest : List StoreId) (store : StoreTold) →
    desk.lent ≡ held ++ own_store worker ∷ rest → (after_giving desk (own_store worker) store).lent ≡ held_then held worker ++ rest
lent_then desk held worker rest store is = ap (λ (l : List StoreId). without_store l (own_store worker)) is ∙ taken_before held (own_store worker) rest

gave_first : (earlier : List StoreId) (worker : ℕ) (before after : DeskTold) (store : StoreTold) (shelves : List (List StoreTold)) →
    Gave (held_then earlier worker) (worker + 1) (after_giving before (own_store worker) store) after shelves →
    Gave earlier worker before after ((store ∷ []) ∷ shelves)
gave_first earlier worker before after store shelves gave = record {
  often = λ id. gave.often id ∙ taken_often earlier (own_store worker) id;
  same = λ none. same-of none;
  own = λ n. own-of n;
  others = λ other below. gave.others other (omega (arith, below)) ∙ not_this other (λ e. omega (arith, e, below));
  rest = gave.rest;
}
  where
    not_this : (other : ℕ) → (other ≡ worker → ⊥) → (after_giving before (own_store worker) store).returned other ≡ before.returned other
    not_this other differs = ap (λ (b : Bool). if b then with_store (before.returned other) store else before.returned other) (ne_eqb other worker differs)

    this : (other : ℕ) → other ≡ worker → (after_giving before (own_store worker) store).returned other ≡ with_store (before.returned other) store
    this other e = ap (λ (b : Bool). if b then with_store (before.returned other) store else before.returned other) (eq-eqb other worker e)

    same-of : ((other : ℕ) → worker ≤ other → other < worker + length ((store ∷ []) ∷ shelves) → times (own_store other) earlier ≡ 0) → after.lent ≡ earlier
    same-of none =
        let held : held_then earlier worker ≡ earlier = taken_same earlier (own_store worker) (none worker (omega (arith)) (omega (arith))) in
        gave.same (λ other from to. ap (times (own_store other)) held ∙ none other (omega (arith, from)) (omega (arith, to))) ∙ held

    own-of : (n : ℕ) → after.returned (worker + n) ≡ with_shelf (before.returned (worker + n)) (shelf_at ((store ∷ []) ∷ shelves) n)
    own-of zero = gave.others (worker + 0) (omega (arith)) ∙ this (worker + 0) (omega (arith))
    own-of (suc n) =
        let next : worker + suc n ≡ worker + 1 + n = omega (arith) in
        ap after.returned next ∙ gave.own n
        ∙ ap (λ (r : Returned). with_shelf r (shelf_at shelves n)) (not_this (worker + 1 + n) (λ e. omega (arith, e)) ∙ ap before.returned (sym next))

pub gave_all : (shelves : List (List StoreTold)) (earlier : List StoreId) (worker : ℕ) (before : DeskTold) → HaveOne shelves →
    before.lent ≡ earlier ++ own_stores worker (length shelves) → Gave earlier worker before (after_shelves before worker shelves) shelves
gave_all [] earlier worker before one is = record {
  often = λ id. ap (times id) (is ∙ append-nil earlier);
  same = λ none. is ∙ append-nil earlier;
  own = λ n. refl;
  others = λ other below. refl;
  rest = refl;
}
gave_all ([] ∷ shelves) earlier worker before one is = absurd (omega (arith, one.0))
gave_all ((store ∷ []) ∷ shelves) earlier worker before one is =
    gave_first earlier worker before (after_shelves (after_giving before (own_store worker) store) (worker + 1) shelves) store shelves
    (gave_all shelves (held_then earlier worker) (worker + 1) (after_giving before (own_store worker) store) one.1
    (lent_then before earlier worker (own_stores (worker + 1) (length shelves)) store is))
gave_all ((store ∷ next ∷ others) ∷ shelves) earlier worker before one is = absurd (omega (arith, one.0))

-- that is what is said of them all
pub are_back : (shelves : List (List StoreTold)) (earlier : List StoreId) (before : DeskTold) → HaveOne shelves →
    before.lent ≡ earlier ++ own_stores 0 (length shelves) → AreBack earlier before (after_shelves before 0 shelves) shelves
are_back shelves earlier before one is = record {
  lent = record {
    often = gave.often;
    same = λ none. gave.same (λ other from to. none other (omega (arith, to)));
  };
  rest = gave.rest ∙ ap (λ (r : ℕ → Returned). record before { lent = after.lent; returned = r }) (fun_ext own);
}
  where
    after : DeskTold
    after = after_shelves before 0 shelves

    gave : Gave earlier 0 before (after_shelves before 0 shelves) shelves
    gave = gave_all shelves earlier 0 before one is

    own : (worker : ℕ) → (after_shelves before 0 shelves).returned worker ≡ with_shelf (before.returned worker) (shelf_at shelves worker)
    own worker =
        let at : 0 + worker ≡ worker = omega (arith) in
        subst (λ (w : ℕ). (after_shelves before 0 shelves).returned w ≡ with_shelf (before.returned w) (shelf_at shelves worker)) at (gave.own worker)

-- ---- stores that were never used

-- what was lent lies on its shelves
pub one_of_lent : (desk : DeskTold) (orders : List StoreOrder) (shelves : List (List StoreTold)) → AreLent desk orders shelves → HaveOne shelves
one_of_lent desk [] [] lent = tt
one_of_lent desk [] (shelf ∷ shelves) lent = absurd lent
one_of_lent desk (order ∷ orders) [] lent = absurd lent
one_of_lent desk (order ∷ orders) ([] ∷ shelves) lent = absurd lent.0
one_of_lent desk (order ∷ orders) ((store ∷ []) ∷ shelves) lent = (refl, one_of_lent desk orders shelves lent.1)
one_of_lent desk (order ∷ orders) ((store ∷ next ∷ others) ∷ shelves) lent = absurd lent.0

-- one order more
pub lent_more : (desk : DeskTold) (orders : List StoreOrder) (shelves : List (List StoreTold)) (order : StoreOrder) (shelf : List StoreTold) →
    AreLent desk orders shelves → IsLent desk order shelf → AreLent desk (orders ++ order ∷ []) (shelves ++ shelf ∷ [])
lent_more desk [] [] order shelf lent one = (one, tt)
lent_more desk [] (other ∷ shelves) order shelf lent one = absurd lent
lent_more desk (first ∷ orders) [] order shelf lent one = absurd lent
lent_more desk (first ∷ orders) (other ∷ shelves) order shelf lent one = (lent.0, lent_more desk orders shelves order shelf lent.1 one)

unused_of : (desk : DeskTold) (order : StoreOrder) (shelf : List StoreTold) (returned : Returned) → IsLent desk order shelf →
    with_shelf returned shelf ≡ with_unused desk.stores_tell_logs returned
unused_of desk order [] returned lent = absurd lent
unused_of desk order (store ∷ []) returned lent = ap (with_store returned) lent.fresh
unused_of desk order (store ∷ next ∷ others) returned lent = absurd lent

unused_at : (desk : DeskTold) (orders : List StoreOrder) (shelves : List (List StoreTold)) (worker : ℕ) (returned : Returned) →
    AreLent desk orders shelves →
    with_shelf returned (shelf_at shelves worker) ≡ (if nat_lt worker (length shelves) then with_unused desk.stores_tell_logs returned else returned)
unused_at desk [] [] worker returned lent = rw (let no : nat_lt worker 0 ≡ false = grind (arith, nat_tests) in no) refl
unused_at desk [] (shelf ∷ shelves) worker returned lent = absurd lent
unused_at desk (order ∷ orders) [] worker returned lent = absurd lent
unused_at desk (order ∷ orders) (shelf ∷ shelves) zero returned lent =
    let yes_ : nat_lt 0 (suc (length shelves)) ≡ true = grind (arith, nat_tests) in
    unused_of desk order shelf returned lent.0
    ∙ sym (ap (λ (b : Bool). if b then with_unused desk.stores_tell_logs returned else returned) yes_)
unused_at desk (order ∷ orders) (shelf ∷ shelves) (suc worker) returned lent =
    let less : nat_lt (suc worker) (suc (length shelves)) ≡ nat_lt worker (length shelves) = grind (arith, nat_tests) in
    unused_at desk orders shelves worker returned lent.1
    ∙ sym (ap (λ (b : Bool). if b then with_unused desk.stores_tell_logs returned else returned) less)

-- after an answer other than Ok nothing stays lent
pub none_lent : (before between after : DeskTold) (orders : List StoreOrder) (shelves : List (List StoreTold)) (workers : ℕ) → length shelves ≤ workers →
    AreLent before orders shelves →
    between ≡ record before { lent = before.lent ++ own_stores 0 (length shelves); faults = between.faults } →
    AreBack before.lent between after shelves → NoneAreLent before after workers
none_lent before between after orders shelves workers few lent lends back = record {
  count = length shelves;
  few = few;
  lent = back.lent;
  rest = back.rest ∙ ap (λ (d : DeskTold). record d { lent = after.lent; returned = λ worker. with_shelf (d.returned worker) (shelf_at shelves worker) }) lends
      ∙ ap₂ (λ (r : ℕ → Returned) (n : ℕ). record before { lent = after.lent; returned = r; faults = n }) (fun_ext own) (sym faults);
}
  where
    own : (worker : ℕ) → with_shelf (before.returned worker) (shelf_at shelves worker)
        ≡ (if nat_lt worker (length shelves) then with_unused before.stores_tell_logs (before.returned worker) else before.returned worker)
    own worker = unused_at before orders shelves worker (before.returned worker) lent

    faults : after.faults ≡ between.faults
    faults = ap (λ (d : DeskTold). d.faults) back.rest

-- ---- stores that are lent one after the other

stores_more : (first count : ℕ) → own_stores first (count + 1) ≡ own_stores first count ++ own_store (first + count) ∷ []
stores_more first zero = ap (λ (w : ℕ). own_store w ∷ []) (omega (arith))
stores_more first (suc count) =
    let next : first + 1 + count ≡ first + suc count = omega (arith) in
    let one : suc count + 1 ≡ suc (count + 1) = omega (arith) in
    ap (own_stores first) one
    ∙ ap (λ (l : List StoreId). own_store first ∷ l) (stores_more (first + 1) count)
    ∙ ap (λ (w : ℕ). own_store first ∷ (own_stores (first + 1) count ++ own_store w ∷ [])) next

-- a store that was lent after others
lent_later : (before now : DeskTold) (order : StoreOrder) (shelf : List StoreTold) →
    now.stores_tell_pages ≡ before.stores_tell_pages → now.stores_tell_logs ≡ before.stores_tell_logs → now.steady ≡ before.steady →
    IsLent now order shelf → IsLent before order shelf
lent_later before now order [] pages logs steady lent = absurd lent
lent_later before now order (store ∷ []) pages logs steady lent = record {
  fresh = lent.fresh ∙ ap₂ (λ (p l : Bool). new_store p l store.steady store.page_count order.page_bytes) pages logs;
  steady = λ calm. lent.steady (steady ∙ calm);
}
lent_later before now order (store ∷ next ∷ others) pages logs steady lent = absurd lent

-- what is known after so many stores were lent
pub record Lent {S : Type 0} (tells : S → StoreTold) (before now : DeskTold) (orders : List StoreOrder) (stores : List (Vec S Global)) (worker : ℕ) : Type 0 where
  pub count : length stores ≡ worker
  pub lent : AreLent before (take worker orders) (told_on tells stores)
  pub rest : now ≡ record before { lent = before.lent ++ own_stores 0 worker }

pub lent_none : {S : Type 0} (tells : S → StoreTold) (before : DeskTold) (orders : List StoreOrder) (stores : List (Vec S Global)) → stores ≡ [] →
    Lent tells before before orders stores 0
lent_none {S} tells before orders stores none = record {
  count = ap (λ (l : List (Vec S Global)). length l) none;
  lent = subst (λ (l : List (Vec S Global)). AreLent before (take 0 orders) (told_on tells l)) (sym none) tt;
  rest = ap (λ (l : List StoreId). record before { lent = l }) (sym (append-nil before.lent));
}

pub lent_next : {S : Type 0} (tells : S → StoreTold) (before old new : DeskTold) (orders : List StoreOrder) (stores stores' : List (Vec S Global)) (worker : ℕ)
    (default : StoreOrder) (shelf : Vec S Global) → worker < length orders → Lent tells before old orders stores worker →
    IsLent old (get_or orders worker default) (map tells shelf.items) → new ≡ record old { lent = old.lent ++ own_store worker ∷ [] } → stores' ≡ stores ++ shelf ∷ [] →
    Lent tells before new orders stores' (worker + 1)
lent_next {S} tells before old new orders stores stores' worker default shelf within so lent lends push = record {
  count = ap (λ (l : List (Vec S Global)). length l) push ∙ length-append stores (shelf ∷ []) ∙ ap (λ (n : ℕ). n + 1) so.count;
  lent = subst (λ (l : List (Vec S Global)). AreLent before (take (worker + 1) orders) (told_on tells l)) (sym push)
      (subst (λ (l : List (List StoreTold)). AreLent before (take (worker + 1) orders) l) (sym shelves)
      (subst (λ (l : List StoreOrder). AreLent before l (told_on tells stores ++ map tells shelf.items ∷ [])) (sym taken)
      (lent_more before (take worker orders) (told_on tells stores) (get_or orders worker default) (map tells shelf.items) so.lent
      (lent_later before old (get_or orders worker default) (map tells shelf.items) (ap (λ (d : DeskTold). d.stores_tell_pages) so.rest) (ap (λ (d : DeskTold). d.stores_tell_logs) so.rest)
      (ap (λ (d : DeskTold). d.steady) so.rest) lent))));
  rest = lends ∙ ap (λ (d : DeskTold). record d { lent = d.lent ++ own_store worker ∷ [] }) so.rest
      ∙ ap (λ (l : List StoreId). record before { lent = l }) names;
}
  where
    taken : take (worker + 1) orders ≡ take worker orders ++ get_or orders worker default ∷ []
    taken = take_more orders worker default within

    shelves : told_on tells (stores ++ shelf ∷ []) ≡ told_on tells stores ++ map tells shelf.items ∷ []
    shelves = ap (λ (l : List (List S)). map (λ (s : List S). map tells s) l) (map-append (λ (v : Vec S Global). v.items) stores (shelf ∷ []))
        ∙ map-append (λ (s : List S). map tells s) (map (λ (v : Vec S Global). v.items) stores) (shelf.items ∷ [])

    names : before.lent ++ own_stores 0 worker ++ own_store worker ∷ [] ≡ before.lent ++ own_stores 0 (worker + 1)
    names =
        let at : 0 + worker ≡ worker = omega (arith) in
        append_assoc before.lent (own_stores 0 worker) (own_store worker ∷ [])
        ∙ ap (λ (l : List StoreId). before.lent ++ l) (sym (stores_more 0 worker ∙ ap (λ (w : ℕ). own_stores 0 worker ++ own_store w ∷ []) at))

-- ---- shelves that are emptied in turn

-- what is known while these shelves are still full, of this worker and of the next ones
pub record Giving {S : Type 0} (tells : S → StoreTold) (now whole : DeskTold) (worker : ℕ) (rest : List (Vec S Global)) : Type 0 where
  pub leads : after_shelves now worker (told_on tells rest) ≡ whole
  pub lent : (held : List StoreId) × (now.lent ≡ held ++ own_stores worker (length rest))
  pub one : All (λ shelf. length shelf.items ≡ 1) rest
  pub few : worker + length rest ≤ 65535

module _ {S : Type 0} (tells : S → StoreTold) (old whole : DeskTold) (worker : ℕ) (rest others : List (Vec S Global)) (shelf : Vec S Global)
    (so : Giving tells old whole worker rest) (is : rest ≡ shelf ∷ others) where
  giving : Giving tells old whole worker (shelf ∷ others)
  giving = subst (λ (l : List (Vec S Global)). Giving tells old whole worker l) is so

  pub one_there : length shelf.items ≡ 1
  one_there = All-head (λ (v : Vec S Global). length v.items ≡ 1) shelf others giving.one

  pub lent_there : Contains old.lent (own_store worker)
  lent_there = subst (λ (l : List StoreId). Contains l (own_store worker)) (sym giving.lent.1) (has_next giving.lent.0 worker (own_stores (worker + 1) (length others)))

  pub room_there : worker + 1 ≤ 65535
  room_there = omega (arith, giving.few)

  pub given_next : (new : DeskTold) → new ≡ after_shelf old worker (map tells shelf.items) → Giving tells new whole (worker + 1) others
  given_next new given = record {
    leads = ap (λ (d : DeskTold). after_shelves d (worker + 1) (told_on tells others)) given ∙ giving.leads;
    lent = lent_of shelf.items one_there refl;
    one = All-tail (λ (v : Vec S Global). length v.items ≡ 1) shelf others giving.one;
    few = omega (arith, giving.few);
  }
    where
      lent_of : (items : List S) → length items ≡ 1 → shelf.items ≡ items → (held : List StoreId) × (new.lent ≡ held ++ own_stores (worker + 1) (length others))
      lent_of [] one has = absurd (omega (arith, one))
      lent_of (store ∷ []) one has = (
        held_then giving.lent.0 worker,
        ap (λ (d : DeskTold). d.lent) (given ∙ ap (λ (l : List S). after_shelf old worker (map tells l)) has)
            ∙ lent_then old giving.lent.0 worker (own_stores (worker + 1) (length others)) (tells store) giving.lent.1,
      )
      lent_of (store ∷ next ∷ more) one has = absurd (omega (arith, one))

one_each : {S : Type 0} (tells : S → StoreTold) (stores : List (Vec S Global)) → All (λ shelf. length shelf.items ≡ 1) stores → HaveOne (told_on tells stores)
one_each tells [] all = tt
one_each {S} tells (shelf ∷ stores) all = (
  length-map shelf.items tells ∙ All-head (λ (v : Vec S Global). length v.items ≡ 1) shelf stores all,
  one_each tells stores (All-tail (λ (v : Vec S Global). length v.items ≡ 1) shelf stores all),
)

shelves_count : {S : Type 0} (tells : S → StoreTold) (stores : List (Vec S Global)) → length (told_on tells stores) ≡ length stores
shelves_count tells [] = refl
shelves_count tells (shelf ∷ stores) = ap suc (shelves_count tells stores)

-- they were all given back
pub all_given : {S : Type 0} (tells : S → StoreTold) (before now : DeskTold) (worker : ℕ) (stores rest : List (Vec S Global)) (earlier : List StoreId) →
    All (λ shelf. length shelf.items ≡ 1) stores → Giving tells now (after_shelves before 0 (told_on tells stores)) worker rest → length rest ≡ 0 →
    before.lent ≡ earlier ++ own_stores 0 (length stores) → AreBack earlier before now (told_on tells stores)
all_given {S} tells before now worker stores rest earlier one so none is =
    subst (λ (d : DeskTold). AreBack earlier before d (told_on tells stores)) (sym (end rest none so.leads))
    (are_back (told_on tells stores) earlier before (one_each tells stores one)
    (is ∙ ap (λ (n : ℕ). earlier ++ own_stores 0 n) (sym (shelves_count tells stores))))
  where
    end : (rest : List (Vec S Global)) → length rest ≡ 0 → after_shelves now worker (told_on tells rest) ≡ after_shelves before 0 (told_on tells stores) →
        now ≡ after_shelves before 0 (told_on tells stores)
    end [] none leads = leads
    end (shelf ∷ others) none leads = absurd (omega (arith, none))

pub giving_begins : {S : Type 0} (tells : S → StoreTold) (before : DeskTold) (stores rest : List (Vec S Global)) → rest ≡ stores →
    ((earlier : List StoreId) × (before.lent ≡ earlier ++ own_stores 0 (length stores))) → All (λ shelf. length shelf.items ≡ 1) stores → length stores ≤ 65535 →
    Giving tells before (after_shelves before 0 (told_on tells stores)) 0 rest
giving_begins {S} tells before stores rest is lent one few =
    subst (λ (l : List (Vec S Global)). Giving tells before (after_shelves before 0 (told_on tells stores)) 0 l) (sym is)
    (record { leads = refl; lent = lent; one = one; few = omega (arith, few) })

-- ---- where lending ends

-- nothing was lent
pub begun_none : (before after : DeskTold) (workers : ℕ) → after ≡ before → NoneAreLent before after workers
begun_none before after workers same = record {
  count = 0;
  few = omega (arith);
  lent = record { often = λ id. ap (times id) lent; same = λ none. lent };
  rest = same ∙ ap₂ (λ (l : List StoreId) (n : ℕ). record before { lent = l; faults = n }) (sym lent) (sym (ap (λ (d : DeskTold). d.faults) same))
      ∙ ap (λ (r : ℕ → Returned). record before { lent = after.lent; returned = r; faults = after.faults }) (fun_ext own);
}
  where
    lent : after.lent ≡ before.lent
    lent = ap (λ (d : DeskTold). d.lent) same

    own : (worker : ℕ) → before.returned worker ≡ (if nat_lt worker 0 then with_unused before.stores_tell_logs (before.returned worker) else before.returned worker)
    own worker =
        let no : nat_lt worker 0 ≡ false = grind (arith, nat_tests) in
        sym (ap (λ (b : Bool). if b then with_unused before.stores_tell_logs (before.returned worker) else before.returned worker) no)

-- each shelf has the one store that was lent
pub all_one : {S : Type 0} (tells : S → StoreTold) (desk : DeskTold) (orders : List StoreOrder) (stores : List (Vec S Global)) → AreLent desk orders (told_on tells stores) →
    All (λ shelf. length shelf.items ≡ 1) stores
all_one {S} tells desk orders [] lent = All-nil (λ (shelf : Vec S Global). length shelf.items ≡ 1)
all_one {S} tells desk orders (shelf ∷ stores) lent =
    let have = one_of_lent desk orders (told_on tells (shelf ∷ stores)) lent in
    All-cons (λ (shelf : Vec S Global). length shelf.items ≡ 1) shelf stores (sym (length-map shelf.items tells) ∙ have.0) (from stores have.1)
  where
    from : (stores : List (Vec S Global)) → HaveOne (told_on tells stores) → All (λ shelf. length shelf.items ≡ 1) stores
    from [] have = All-nil (λ (shelf : Vec S Global). length shelf.items ≡ 1)
    from (shelf ∷ stores) have =
        All-cons (λ (shelf : Vec S Global). length shelf.items ≡ 1) shelf stores (sym (length-map shelf.items tells) ∙ have.0) (from stores have.1)

-- what was lent is given back
pub none_lent_so : {S : Type 0} (tells : S → StoreTold) (before between after : DeskTold) (orders : List StoreOrder) (stores : List (Vec S Global)) (workers : ℕ) →
    length stores ≤ workers → AreLent before orders (told_on tells stores) →
    between ≡ record before { lent = before.lent ++ own_stores 0 (length stores); faults = between.faults } →
    AreBack before.lent between after (told_on tells stores) → NoneAreLent before after workers
none_lent_so tells before between after orders stores workers few lent lends back =
    none_lent before between after orders (told_on tells stores) workers (omega (arith, few, shelves_count tells stores)) lent
    (lends ∙ ap (λ (n : ℕ). record before { lent = before.lent ++ own_stores 0 n; faults = between.faults }) (sym (shelves_count tells stores))) back

-- ---- the first so many are lent

-- what is known of as many as there are
pub record LentSome {S : Type 0} (tells : S → StoreTold) (before now : DeskTold) (orders : List StoreOrder) (stores : List (Vec S Global)) : Type 0 where
  pub lent : AreLent before (take (length stores) orders) (told_on tells stores)
  pub rest : now ≡ record before { lent = before.lent ++ own_stores 0 (length stores) }

pub lent_some : {S : Type 0} (tells : S → StoreTold) (before now : DeskTold) (orders : List StoreOrder) (stores : List (Vec S Global)) (worker : ℕ) →
    Lent tells before now orders stores worker → LentSome tells before now orders stores
lent_some tells before now orders stores worker so = record {
  lent = subst (λ (n : ℕ). AreLent before (take n orders) (told_on tells stores)) (sym so.count) so.lent;
  rest = so.rest ∙ ap (λ (n : ℕ). record before { lent = before.lent ++ own_stores 0 n }) (sym so.count);
}

-- after one more that failed
pub fails_next : (before old new : DeskTold) (lent : List StoreId) → old ≡ record before { lent = lent } → new ≡ record old { faults = new.faults } →
    new ≡ record before { lent = lent; faults = new.faults }
fails_next before old new lent was is = is ∙ ap (λ (d : DeskTold). record d { faults = new.faults }) was

pub ends_so : (before now : DeskTold) (lent : List StoreId) → now ≡ record before { lent = lent } → now ≡ record before { lent = lent; faults = now.faults }
ends_so before now lent is = is ∙ ap (λ (n : ℕ). record before { lent = lent; faults = n }) (sym (ap (λ (d : DeskTold). d.faults) is))

pub counted_so : (T U : Type 0) (before old new : ℕ) (e : DeskError) → old ≡ before → FaultCounted {T = T} old new (Err e) → FaultCounted {T = U} before new (Err e)
counted_so T U before old new errors.Fault same counted = (omega (arith, counted.0, same), omega (arith, counted.1, same))
counted_so T U before old new errors.TooLong same counted = counted ∙ same
counted_so T U before old new errors.Memory same counted = counted ∙ same

pub no_fault_either : (T U : Type 0) (e : DeskError) → IsNoFault {T = T} (Err e) → IsNoFault {T = U} (Err e)
no_fault_either T U errors.Fault h = h
no_fault_either T U errors.TooLong h = tt
no_fault_either T U errors.Memory h = tt
