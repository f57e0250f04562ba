-- The code's maps stand for a store, step by step.
use Rattle.std.proofs.Common.{◌≡◌, ◌≤◌, ◌+◌, ◌-◌, ◌⊎◌, ℕ, List, [], ◌∷◌, ◌++◌, length, max, Bool, true, false, cond, nat_eq, Option, Some, None, inl, inr, refl, sym, subst, ◌∙◌, ap, arith, append_assoc}
use Rattle.std.proofs.lemmas.List.{length-map}
use Rattle.std.specs.List.{position}
use Rattle.std.specs.HashMap.{get}
use Rattle.mage_instr.specs.declared.directive.Directive.{Directive}
use Rattle.mage_instr.specs.declared.directive.Directive.TheVariants as directive
use Rattle.mage_sched.specs.declared.homes.Homes.{Homes}
use Rattle.mage_sched.specs.Reads.{is_page}
use Rattle.mage_sched.specs.Homes.{Store, is_free, names, number_held, home_of, taken, housed_at, housed, cleared, let_go, transfers_of, last_of, at_finish, store_after, renamed, homed_from}
use Rattle.mage_sched.specs.Views.{count_in, is_in, IsTaken, Keeps, holders_after, ends_after}
use Rattle.mage_sched.proofs.Holders.{home_of-is, held_taken, held_left, free_left, free_stays, held_at_most, Grow, grow_taken}

-- the store page that a page holds
pub home_kept : (homes : Homes) (store : Store) (later : List Directive) (page : ℕ) → Keeps homes store later
    → home_of store.holders page ≡ get nat_eq homes.held page
home_kept homes store later page kept = home_of-is store.holders page (get nat_eq homes.held page) (kept.held page)

-- a page that holds one stays there
pub housed_stays : (homes : Homes) (store : Store) (later : List Directive) (page home : ℕ) → Keeps homes store later
    → get nat_eq homes.held page ≡ Some home → Keeps homes (holders_after store (housed page store.holders)) later
housed_stays homes store later page home kept some =
    let same : housed page store.holders ≡ store.holders = ap (λ (o : Option ℕ). housed_at o page store.holders) (home_kept homes store later page kept ∙ some) in
    let P : List (Option ℕ) → Type 0 = λ xs. Keeps homes (holders_after store xs) later in
    subst P (sym same) (record { pages = kept.pages; held = kept.held; ends = kept.ends; left = kept.left })

-- one transfer of the page is issued: what is left of it
one_less : (b : Bool) (n : ℕ) → cond b (cond b (n + 1) n - 1) (cond b (n + 1) n) ≡ n
one_less true n = omega arith
one_less false n = refl

pub left_after : (old new : ℕ → ℕ) (page : ℕ) (one : Directive) (later : List Directive)
    → ((other : ℕ) → names one other ≡ nat_eq page other)
    → ((q : ℕ) → old q ≡ transfers_of (one ∷ later) q)
    → ((q : ℕ) → new q ≡ cond (nat_eq page q) (old q - 1) (old q))
    → (q : ℕ) → new q ≡ transfers_of later q
left_after old new page one later named was update q =
    let now : old q ≡ cond (nat_eq page q) (transfers_of later q + 1) (transfers_of later q) = was q ∙ ap (λ (b : Bool). cond b (transfers_of later q + 1) (transfers_of later q)) (named q) in
    update q ∙ ap (λ (n : ℕ). cond (nat_eq page q) (n - 1) n) now ∙ one_less (nat_eq page q) (transfers_of later q)

-- one that holds none takes the lowest that is free
pub takes_home : (homes mid new : Homes) (store : Store) (later : List Directive) (page home : ℕ) → Keeps homes store later
    → get nat_eq homes.held page ≡ None → IsTaken mid home page store.holders
    → ((q : ℕ) → get nat_eq mid.held q ≡ get nat_eq homes.held q)
    → ((q : ℕ) → get nat_eq new.held q ≡ cond (nat_eq page q) (Some home) (get nat_eq mid.held q))
    → ((k : ℕ) → is_in new.free k ≡ is_in mid.free k) → new.count ≡ mid.count
    → ((q : ℕ) → count_in new.left q ≡ count_in homes.left q)
    → ((slot : ℕ) → get nat_eq new.ends slot ≡ get nat_eq homes.ends slot)
    → Keeps new (holders_after store (taken (position is_free store.holders) page store.holders)) later
takes_home homes mid new store later page home kept none takes same update free count left ends = record {
  pages = record {
    free = λ k. free k ∙ takes.rest.free k;
    count = count ∙ takes.rest.count;
  };
  held = held_taken (λ q. get nat_eq homes.held q) (λ q. get nat_eq new.held q) page home store.holders (taken (position is_free store.holders) page store.holders) (λ q. update q ∙ ap (λ (o : Option ℕ). cond (nat_eq page q) (Some home) o) (same q)) none kept.held takes.vacant takes.here takes.apart;
  ends = λ slot. ends slot ∙ kept.ends slot;
  left = λ q. left q ∙ kept.left q;
}

-- and so it holds one
pub housed_fresh : (homes : Homes) (store : Store) (later : List Directive) (page : ℕ) → Keeps homes store later
    → get nat_eq homes.held page ≡ None → housed page store.holders ≡ taken (position is_free store.holders) page store.holders
housed_fresh homes store later page kept none = ap (λ (o : Option ℕ). housed_at o page store.holders) (home_kept homes store later page kept ∙ none)

-- a page that holds one lets it go
pub leaves : (homes new : Homes) (store : Store) (later : List Directive) (page home : ℕ) → Keeps homes store later
    → get nat_eq homes.held page ≡ Some home
    → ((q : ℕ) → get nat_eq new.held q ≡ cond (nat_eq page q) None (get nat_eq homes.held q))
    → ((k : ℕ) → is_in new.free k ≡ cond (nat_eq home k) true (is_in homes.free k)) → new.count ≡ homes.count
    → ((q : ℕ) → count_in new.left q ≡ count_in homes.left q)
    → ((slot : ℕ) → get nat_eq new.ends slot ≡ get nat_eq homes.ends slot)
    → Keeps new (holders_after store (let_go (Some page) store.holders)) later
leaves homes new store later page home kept some held free count left ends = record {
  pages = record {
    free = free_left (λ q. get nat_eq homes.held q) (λ k. is_in homes.free k) (λ k. is_in new.free k) page home store.holders kept.held some kept.pages.free free;
    count = count ∙ kept.pages.count ∙ sym (length-map store.holders (cleared page));
  };
  held = held_left (λ q. get nat_eq homes.held q) (λ q. get nat_eq new.held q) page store.holders held kept.held;
  ends = λ slot. ends slot ∙ kept.ends slot;
  left = λ q. left q ∙ kept.left q;
}

-- and one that holds none has nothing to let go
pub leaves_none : (homes new : Homes) (store : Store) (later : List Directive) (page : ℕ) → Keeps homes store later
    → get nat_eq homes.held page ≡ None
    → ((q : ℕ) → get nat_eq new.held q ≡ cond (nat_eq page q) None (get nat_eq homes.held q))
    → ((k : ℕ) → is_in new.free k ≡ is_in homes.free k) → new.count ≡ homes.count
    → ((q : ℕ) → count_in new.left q ≡ count_in homes.left q)
    → ((slot : ℕ) → get nat_eq new.ends slot ≡ get nat_eq homes.ends slot)
    → Keeps new (holders_after store (let_go (Some page) store.holders)) later
leaves_none homes new store later page kept none held free count left ends = record {
  pages = record {
    free = λ k. free k ∙ free_stays (λ q. get nat_eq homes.held q) (λ n. is_in homes.free n) page store.holders kept.held none kept.pages.free k;
    count = count ∙ kept.pages.count ∙ sym (length-map store.holders (cleared page));
  };
  held = held_left (λ q. get nat_eq homes.held q) (λ q. get nat_eq new.held q) page store.holders held kept.held;
  ends = λ slot. ends slot ∙ kept.ends slot;
  left = λ q. left q ∙ kept.left q;
}

-- what ends at a slot's finish changes
pub ends_change : (homes new : Homes) (store : Store) (later : List Directive) (slot : ℕ) (page : Option ℕ) → Keeps homes store later
    → ((q : ℕ) → get nat_eq new.held q ≡ get nat_eq homes.held q)
    → ((k : ℕ) → is_in new.free k ≡ is_in homes.free k) → new.count ≡ homes.count
    → ((q : ℕ) → count_in new.left q ≡ count_in homes.left q)
    → ((other : ℕ) → get nat_eq new.ends other ≡ cond (nat_eq slot other) page (get nat_eq homes.ends other))
    → Keeps new (ends_after store (at_finish slot page store.ends)) later
ends_change homes new store later slot page kept held free count left update = record {
  pages = record {
    free = λ k. free k ∙ kept.pages.free k;
    count = count ∙ kept.pages.count;
  };
  held = λ q at. ap (λ (o : Option ℕ). is_page o at) (held q) ∙ kept.held q at;
  ends = λ other. update other ∙ ap (λ (o : Option ℕ). cond (nat_eq slot other) page o) (kept.ends other);
  left = λ q. left q ∙ kept.left q;
}

-- one transfer of its page is issued in a slot
pub begins : (homes new : Homes) (store : Store) (one : Directive) (later : List Directive) (slot page : ℕ) (ends : Option ℕ)
    → ((other : ℕ) → names one other ≡ nat_eq page other) → Keeps homes store (one ∷ later)
    → ends ≡ last_of later page
    → ((q : ℕ) → get nat_eq new.held q ≡ get nat_eq homes.held q)
    → ((k : ℕ) → is_in new.free k ≡ is_in homes.free k) → new.count ≡ homes.count
    → ((q : ℕ) → count_in new.left q ≡ cond (nat_eq page q) (count_in homes.left q - 1) (count_in homes.left q))
    → ((other : ℕ) → get nat_eq new.ends other ≡ cond (nat_eq slot other) ends (get nat_eq homes.ends other))
    → Keeps new (ends_after store (at_finish slot (last_of later page) store.ends)) later
begins homes new store one later slot page ends named kept last held free count less update = record {
  pages = record {
    free = λ k. free k ∙ kept.pages.free k;
    count = count ∙ kept.pages.count;
  };
  held = λ q at. ap (λ (o : Option ℕ). is_page o at) (held q) ∙ kept.held q at;
  ends = λ other. update other ∙ ap (λ (o : Option ℕ). cond (nat_eq slot other) o (get nat_eq homes.ends other)) last
      ∙ ap (λ (o : Option ℕ). cond (nat_eq slot other) (last_of later page) o) (kept.ends other);
  left = left_after (λ q. count_in homes.left q) (λ q. count_in new.left q) page one later named kept.left less;
}

-- a directive that names no page changes nothing
pub passes : (homes : Homes) (store : Store) (one : Directive) (later : List Directive)
    → ((page : ℕ) → transfers_of (one ∷ later) page ≡ transfers_of later page)
    → Keeps homes store (one ∷ later) → Keeps homes store later
passes homes store one later none kept = record {
  pages = kept.pages;
  held = kept.held;
  ends = kept.ends;
  left = λ page. kept.left page ∙ none page;
}

-- how many directives name a page is at most their number
one_at_most : (b : Bool) (n count : ℕ) → n ≤ count → cond b (n + 1) n ≤ count + 1
one_at_most true n count h = omega (arith, h)
one_at_most false n count h = omega (arith, h)

pub transfers_at_most : (list : List Directive) (page : ℕ) → transfers_of list page ≤ length list
transfers_at_most [] page = omega arith
transfers_at_most (one ∷ list) page =
    let e = one_at_most (names one page) (transfers_of list page) (length list) (transfers_at_most list page) in omega (arith, e)

-- a directive more is counted
pub transfers_more : (one : Directive) (list : List Directive) (page n whole : ℕ)
    → n + transfers_of (one ∷ list) page ≡ whole → (n + transfers_of (one ∷ []) page) + transfers_of list page ≡ whole
transfers_more one list page n whole h = go (names one page) h where
  go : (b : Bool) → n + cond b (transfers_of list page + 1) (transfers_of list page) ≡ whole
      → (n + cond b 1 0) + transfers_of list page ≡ whole
  go true e = omega (arith, e)
  go false e = omega (arith, e)

-- ---- the greatest number held at once

store_grows : (one : Directive) (later : List Directive) (store : Store) → Grow store.holders (store_after one later store).holders
store_grows (directive.Fresh frame page) later store = inl refl
store_grows (directive.IssueIn slot page) later store = inl refl
store_grows (directive.FinishIn slot frame) later store = gone (store.ends slot) where
  gone : (page : Option ℕ) → Grow store.holders (let_go page store.holders)
  gone None = inl refl
  gone (Some page) = inl (length-map store.holders (cleared page))
store_grows (directive.IssueOut slot frame page) later store = come (home_of store.holders page) where
  come : (home : Option ℕ) → Grow store.holders (housed_at home page store.holders)
  come None = grow_taken store.holders page
  come (Some home) = inl refl
store_grows (directive.FinishOut slot) later store = gone (store.ends slot) where
  gone : (page : Option ℕ) → Grow store.holders (let_go page store.holders)
  gone None = inl refl
  gone (Some page) = inl (length-map store.holders (cleared page))
store_grows (directive.Do job) later store = inl refl

held_within : (store : Store) (list : List Directive) → number_held store.holders ≤ (homed_from store list).count
held_within store [] = omega arith
held_within store (one ∷ later) = omega arith

more_counted : (held before after held_after rest whole : ℕ) → held ≤ before → held_after ≤ rest
    → (after ≡ before) ⊎ ((after ≡ before + 1) × (held_after ≡ after))
    → max before (max held rest) ≡ whole → max after rest ≡ whole
more_counted held before after held_after rest whole least most (inl same) h = omega (arith, same, least, h)
more_counted held before after held_after rest whole least most (inr more) h =
    let length_is = more.0 in
    let held_is = more.1 in omega (arith, length_is, held_is, least, most, h)

pub count_more : (one : Directive) (later : List Directive) (store : Store) (whole : ℕ)
    → max (length store.holders) (homed_from store (one ∷ later)).count ≡ whole
    → max (length (store_after one later store).holders) (homed_from (store_after one later store) later).count ≡ whole
count_more one later store whole h =
    more_counted (number_held store.holders) (length store.holders) (length (store_after one later store).holders) (number_held (store_after one later store).holders) (homed_from (store_after one later store) later).count whole (held_at_most store.holders)
    (held_within (store_after one later store) later) (store_grows one later store) h

pub count_end : (store : Store) (whole : ℕ) → max (length store.holders) (homed_from store []).count ≡ whole → length store.holders ≡ whole
count_end store whole h = let least = held_at_most store.holders in omega (arith, h, least)

-- ---- one directive more is renamed

pub renamed_more : (one : Directive) (later : List Directive) (store : Store) (before after : List Directive) (named : Directive) (whole : List Directive)
    → after ≡ before ++ named ∷ [] → named ≡ renamed one (store_after one later store).holders
    → before ++ (homed_from store (one ∷ later)).directives ≡ whole
    → after ++ (homed_from (store_after one later store) later).directives ≡ whole
renamed_more one later store before after named whole pushed is h =
    let rest = (homed_from (store_after one later store) later).directives in
    ap (λ (xs : List Directive). xs ++ rest) pushed ∙ append_assoc before (named ∷ []) rest
    ∙ ap (λ (d : Directive). before ++ d ∷ rest) is ∙ h
