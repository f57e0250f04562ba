-- Which store pages are held, after a page takes one and after a page lets one go.
use Rattle.std.proofs.Common.{◌≡◌, ◌≢◌, ◌≤◌, ◌<◌, ◌+◌, ◌||◌, ◌⊎◌, ℕ, zero, suc, List, [], ◌∷◌, ◌++◌, length, get_or, set, map, Bool, true, false, cond, nat_eq, Option, Some, None, inl, inr, refl, sym, subst, ◌∙◌, ap, arith}
use Rattle.std.proofs.Math.ListN.{length-set}
use Rattle.std.proofs.lemmas.List.{length_push}
use Rattle.std.proofs.lemmas.List.Sums.{position_or_len_is, fails_before_first}
use Rattle.std.proofs.lemmas.Bool.{false≢true, true≢false, ne_eqb, eq-eqb, eqb-true, lt-ltb, le-ltb, ltb-false, cond-true, cond-false, cases_eq, cases_lt, cases_Bool, false_from_ne_true}
use Rattle.std.specs.List.{position, position_or_len}
use Rattle.std.proofs.Math.Dec.{ltb}
use Rattle.mage_sched.specs.declared.homes.Homes.{Homes}
use Rattle.mage_sched.specs.Reads.{is_page}
use Rattle.mage_sched.specs.Homes.{is_free, number_held, home_of, taken, cleared}
use Rattle.mage_sched.specs.Views.{is_in, is_at, holds_at, AreFree, IsTaken}

-- ---- a list of holders, by its places

pub is_at-set_same : (test : Option ℕ → Bool) (xs : List (Option ℕ)) (i : ℕ) (y : Option ℕ) → i < length xs → is_at test (set xs i y) i ≡ test y
is_at-set_same test [] i y h = absurd (omega arith)
is_at-set_same test (x ∷ xs) zero y h = refl
is_at-set_same test (x ∷ xs) (suc i) y h = is_at-set_same test xs i y (omega arith)

pub is_at-set_other : (test : Option ℕ → Bool) (xs : List (Option ℕ)) (i j : ℕ) (y : Option ℕ) → j ≢ i → is_at test (set xs i y) j ≡ is_at test xs j
is_at-set_other test [] i j y ne = refl
is_at-set_other test (x ∷ xs) zero zero y ne = absurd (ne refl)
is_at-set_other test (x ∷ xs) zero (suc j) y ne = refl
is_at-set_other test (x ∷ xs) (suc i) zero y ne = refl
is_at-set_other test (x ∷ xs) (suc i) (suc j) y ne = is_at-set_other test xs i j y (λ e. ne (ap suc e))

pub is_at-push_same : (test : Option ℕ → Bool) (xs : List (Option ℕ)) (y : Option ℕ) → is_at test (xs ++ y ∷ []) (length xs) ≡ test y
is_at-push_same test [] y = refl
is_at-push_same test (x ∷ xs) y = is_at-push_same test xs y

pub is_at-push_other : (test : Option ℕ → Bool) (xs : List (Option ℕ)) (j : ℕ) (y : Option ℕ) → j ≢ length xs → is_at test (xs ++ y ∷ []) j ≡ is_at test xs j
is_at-push_other test [] zero y ne = absurd (ne refl)
is_at-push_other test [] (suc j) y ne = refl
is_at-push_other test (x ∷ xs) zero y ne = refl
is_at-push_other test (x ∷ xs) (suc j) y ne = is_at-push_other test xs j y (λ e. ne (ap suc e))

pub is_at-past : (test : Option ℕ → Bool) (xs : List (Option ℕ)) (j : ℕ) → length xs ≤ j → is_at test xs j ≡ false
is_at-past test [] j h = refl
is_at-past test (x ∷ xs) zero h = absurd (omega arith)
is_at-past test (x ∷ xs) (suc j) h = is_at-past test xs j (omega arith)

pub is_at-within : (test : Option ℕ → Bool) (xs : List (Option ℕ)) (j : ℕ) → is_at test xs j ≡ true → j < length xs
is_at-within test [] j h = absurd (false≢true h)
is_at-within test (x ∷ xs) zero h = omega arith
is_at-within test (x ∷ xs) (suc j) h = let e = is_at-within test xs j h in omega (arith, e)

is_at-get : (test : Option ℕ → Bool) (xs : List (Option ℕ)) (j : ℕ) → j < length xs → is_at test xs j ≡ test (get_or xs j None)
is_at-get test [] j h = absurd (omega arith)
is_at-get test (x ∷ xs) zero h = refl
is_at-get test (x ∷ xs) (suc j) h = is_at-get test xs j (omega arith)

is_at-map : (test : Option ℕ → Bool) (f : Option ℕ → Option ℕ) (xs : List (Option ℕ)) (j : ℕ) → is_at test (map f xs) j ≡ is_at (λ x. test (f x)) xs j
is_at-map test f [] j = refl
is_at-map test f (x ∷ xs) zero = refl
is_at-map test f (x ∷ xs) (suc j) = is_at-map test f xs j

is_at-same : (p q : Option ℕ → Bool) (same : (x : Option ℕ) → p x ≡ q x) (xs : List (Option ℕ)) (j : ℕ) → is_at p xs j ≡ is_at q xs j
is_at-same p q same [] j = refl
is_at-same p q same (x ∷ xs) zero = same x
is_at-same p q same (x ∷ xs) (suc j) = is_at-same p q same xs j

is_at-never : (p : Option ℕ → Bool) (never : (x : Option ℕ) → p x ≡ false) (xs : List (Option ℕ)) (j : ℕ) → is_at p xs j ≡ false
is_at-never p never [] j = refl
is_at-never p never (x ∷ xs) zero = never x
is_at-never p never (x ∷ xs) (suc j) = is_at-never p never xs j

is_at-or : (p q : Option ℕ → Bool) (xs : List (Option ℕ)) (j : ℕ) → is_at (λ x. p x || q x) xs j ≡ (is_at p xs j || is_at q xs j)
is_at-or p q [] j = refl
is_at-or p q (x ∷ xs) zero = refl
is_at-or p q (x ∷ xs) (suc j) = is_at-or p q xs j

pub free_not_held : (xs : List (Option ℕ)) (page j : ℕ) → is_at is_free xs j ≡ true → holds_at xs page j ≡ false
free_not_held [] page j h = refl
free_not_held (None ∷ xs) page zero h = refl
free_not_held (Some other ∷ xs) page zero h = absurd (false≢true h)
free_not_held (x ∷ xs) page (suc j) h = free_not_held xs page j h

-- ---- the first place that passes

position-here : (test : Option ℕ → Bool) (xs : List (Option ℕ)) (i : ℕ) → is_at test xs i ≡ true → ((k : ℕ) → k < i → is_at test xs k ≡ false) → position test xs ≡ Some i
position-here test xs i here before =
    let within = is_at-within test xs i here in
    let small : i ≤ length xs = omega (arith, within) in
    let at = position_or_len_is test xs i None small (λ k below. sym (is_at-get test xs k (omega (arith, below, within))) ∙ before k below) (λ lt. sym (is_at-get test xs i within) ∙ here) in
    ap (λ (n : ℕ). cond (ltb n (length xs)) (Some n) None) at ∙ cond-true (ltb i (length xs)) (Some i) None (lt-ltb i (length xs) within)

position-nowhere : (test : Option ℕ → Bool) (xs : List (Option ℕ)) → ((k : ℕ) → is_at test xs k ≡ false) → position test xs ≡ None
position-nowhere test xs never =
    let small : length xs ≤ length xs = omega arith in
    let at = position_or_len_is test xs (length xs) None small (λ k below. sym (is_at-get test xs k below) ∙ never k) (λ lt. absurd (omega (arith, lt))) in
    ap (λ (n : ℕ). cond (ltb n (length xs)) (Some n) None) at ∙ cond-false (ltb (length xs) (length xs)) (Some (length xs)) None (le-ltb (length xs) (length xs) small)

some_not_none : {X : Type 0} {x : X} → Some x ≡ None → ⊥
some_not_none e = cc

never_before : (test : Option ℕ → Bool) (xs : List (Option ℕ)) (k : ℕ) → length xs ≤ position_or_len test xs → (k < length xs) ⊎ (length xs ≤ k) → is_at test xs k ≡ false
never_before test xs k far (inl lt) = is_at-get test xs k lt ∙ fails_before_first test xs k None (omega (arith, far, lt))
never_before test xs k far (inr le) = is_at-past test xs k le

pub nowhere-position : (test : Option ℕ → Bool) (xs : List (Option ℕ)) → position test xs ≡ None → (k : ℕ) → is_at test xs k ≡ false
nowhere-position test xs none k = go (cases_Bool (ltb (position_or_len test xs) (length xs))) where
  go : ((ltb (position_or_len test xs) (length xs)) ≡ true) ⊎ ((ltb (position_or_len test xs) (length xs)) ≡ false) → is_at test xs k ≡ false
  go (inl e) = absurd (some_not_none (sym (cond-true (ltb (position_or_len test xs) (length xs)) (Some (position_or_len test xs)) None e) ∙ none))
  go (inr e) = never_before test xs k (ltb-false (position_or_len test xs) (length xs) e) (cases_lt k (length xs))

pub home_of-is : (holders : List (Option ℕ)) (page : ℕ) (home : Option ℕ) → ((at : ℕ) → is_page home at ≡ holds_at holders page at) → home_of holders page ≡ home
home_of-is holders page None tie = position-nowhere (λ holder. is_page holder page) holders (λ k. sym (tie k))
home_of-is holders page (Some home) tie =
    position-here (λ holder. is_page holder page) holders home (sym (tie home) ∙ eq-eqb home home refl)
    (λ k below. sym (tie k) ∙ ne_eqb home k (λ e. absurd (omega (arith, e, below))))

-- ---- a page takes a store page

set_is : (holders : List (Option ℕ)) (page : ℕ) (place : Option ℕ) → position is_free holders ≡ place → taken (position is_free holders) page holders ≡ taken place page holders
set_is holders page place e = ap (λ (o : Option ℕ). taken o page holders) e

pub taken_lowest : (homes new : Homes) (home page : ℕ) (holders : List (Option ℕ))
    → AreFree homes holders → is_in homes.free home ≡ true → ((k : ℕ) → is_in homes.free k ≡ true → home ≤ k)
    → ((k : ℕ) → is_in new.free k ≡ cond (nat_eq home k) false (is_in homes.free k)) → new.count ≡ homes.count
    → IsTaken new home page holders
taken_lowest homes new home page holders free member lowest update count =
    let free_here = sym (free.free home) ∙ member in
    let within = is_at-within is_free holders home free_here in
    let place = position-here is_free holders home free_here (λ k below. false_from_ne_true (is_at is_free holders k) (λ t. let le = lowest k (free.free k ∙ t) in absurd (omega (arith, below, le)))) in
    let after = set_is holders page (Some home) place in
    let P : List (Option ℕ) → Type 0 = λ xs. AreFree new xs in
    record {
      rest = subst P (sym after) (record {
        free = λ k. update k ∙ now k (nat_eq home k) refl within (free.free k);
        count = count ∙ free.count ∙ sym (length-set holders home (Some page));
      });
      vacant = λ other. free_not_held holders other home free_here;
      here = λ other. ap (λ (xs : List (Option ℕ)). holds_at xs other home) after ∙ is_at-set_same (λ x. is_page x other) holders home (Some page) within;
      apart = λ other at ne. ap (λ (xs : List (Option ℕ)). holds_at xs other at) after ∙ is_at-set_other (λ x. is_page x other) holders home at (Some page) ne;
    } where
      now : (k : ℕ) (b : Bool) → nat_eq home k ≡ b → home < length holders → is_in homes.free k ≡ is_at is_free holders k
          → cond b false (is_in homes.free k) ≡ is_at is_free (set holders home (Some page)) k
      now k true e within tie = sym (ap (λ (n : ℕ). is_at is_free (set holders home (Some page)) n) (sym (eqb-true home k e)) ∙ is_at-set_same is_free holders home (Some page) within)
      now k false e within tie = tie ∙ sym (is_at-set_other is_free holders home k (Some page) (λ same. absurd (true≢false (sym (eq-eqb home k (sym same)) ∙ e))))

pub taken_more : (homes new : Homes) (home page : ℕ) (holders : List (Option ℕ))
    → AreFree homes holders → ((k : ℕ) → is_in homes.free k ≡ false) → ((k : ℕ) → is_in new.free k ≡ is_in homes.free k)
    → home ≡ homes.count → new.count ≡ homes.count + 1
    → IsTaken new home page holders
taken_more homes new home page holders free none stays home_is count =
    let end = home_is ∙ free.count in
    let past : length holders ≤ home = omega (arith, end) in
    let place = position-nowhere is_free holders (λ k. sym (free.free k) ∙ none k) in
    let after = set_is holders page None place in
    let P : List (Option ℕ) → Type 0 = λ xs. AreFree new xs in
    record {
      rest = subst P (sym after) (record {
        free = λ k. stays k ∙ none k ∙ sym (now k (cases_eq k (length holders)) (sym (free.free k) ∙ none k));
        count = count ∙ ap (λ (n : ℕ). n + 1) free.count ∙ sym (length_push holders (Some page));
      });
      vacant = λ other. is_at-past (λ x. is_page x other) holders home past;
      here = λ other. ap (λ (xs : List (Option ℕ)). holds_at xs other home) after ∙ ap (λ (n : ℕ). holds_at (holders ++ Some page ∷ []) other n) end ∙ is_at-push_same (λ x. is_page x other) holders (Some page);
      apart = λ other at ne. ap (λ (xs : List (Option ℕ)). holds_at xs other at) after ∙ is_at-push_other (λ x. is_page x other) holders at (Some page) (λ e. ne (e ∙ sym end));
    } where
      now : (k : ℕ) → (k ≡ length holders) ⊎ (k ≡ length holders → ⊥) → is_at is_free holders k ≡ false → is_at is_free (holders ++ Some page ∷ []) k ≡ false
      now k (inl e) h = ap (λ (n : ℕ). is_at is_free (holders ++ Some page ∷ []) n) e ∙ is_at-push_same is_free holders (Some page)
      now k (inr ne) h = is_at-push_other is_free holders k (Some page) ne ∙ h

-- which store page each page holds, where a page took one
pub held_taken : (f g : ℕ → Option ℕ) (page home : ℕ) (holders after : List (Option ℕ))
    → ((q : ℕ) → g q ≡ cond (nat_eq page q) (Some home) (f q)) → f page ≡ None
    → ((q at : ℕ) → is_page (f q) at ≡ holds_at holders q at)
    → ((q : ℕ) → holds_at holders q home ≡ false)
    → ((q : ℕ) → holds_at after q home ≡ nat_eq page q)
    → ((q at : ℕ) → at ≢ home → holds_at after q at ≡ holds_at holders q at)
    → (q at : ℕ) → is_page (g q) at ≡ holds_at after q at
held_taken f g page home holders after update none tie vacant here apart q at =
    ap (λ (o : Option ℕ). is_page o at) (update q) ∙ go (nat_eq page q) refl (cases_eq at home) where
      go : (b : Bool) → nat_eq page q ≡ b → (at ≡ home) ⊎ (at ≡ home → ⊥) → is_page (cond b (Some home) (f q)) at ≡ holds_at after q at
      go true e (inl same) = ap (λ (n : ℕ). nat_eq home n) same ∙ eq-eqb home home refl ∙ sym e ∙ sym (here q) ∙ sym (ap (λ (n : ℕ). holds_at after q n) same)
      go true e (inr ne) =
          let gone : f q ≡ None = ap (λ (p : ℕ). f p) (sym (eqb-true page q e)) ∙ none in
          ne_eqb home at (λ s. ne (sym s)) ∙ sym (ap (λ (o : Option ℕ). is_page o at) gone) ∙ tie q at ∙ sym (apart q at ne)
      go false e (inl same) = tie q at ∙ ap (λ (n : ℕ). holds_at holders q n) same ∙ vacant q ∙ sym e ∙ sym (here q) ∙ sym (ap (λ (n : ℕ). holds_at after q n) same)
      go false e (inr ne) = tie q at ∙ sym (apart q at ne)

-- ---- a page lets its store page go

cleared_own : (page : ℕ) (x : Option ℕ) → is_page (cleared page x) page ≡ false
cleared_own page None = refl
cleared_own page (Some other) = go (nat_eq other page) refl where
  go : (b : Bool) → nat_eq other page ≡ b → is_page (cond {A = Option ℕ} b None (Some other)) page ≡ false
  go true e = refl
  go false e = e

cleared_other : (page q : ℕ) → nat_eq page q ≡ false → (x : Option ℕ) → is_page (cleared page x) q ≡ is_page x q
cleared_other page q ne None = refl
cleared_other page q ne (Some other) = go (nat_eq other page) refl where
  go : (b : Bool) → nat_eq other page ≡ b → is_page (cond {A = Option ℕ} b None (Some other)) q ≡ nat_eq other q
  go true e = sym (ap (λ (n : ℕ). nat_eq n q) (eqb-true other page e) ∙ ne)
  go false e = refl

cleared_free : (page : ℕ) (x : Option ℕ) → is_free (cleared page x) ≡ (is_free x || is_page x page)
cleared_free page None = refl
cleared_free page (Some other) = go (nat_eq other page) where
  go : (b : Bool) → is_free (cond {A = Option ℕ} b None (Some other)) ≡ (false || b)
  go true = refl
  go false = refl

pub held_left : (f g : ℕ → Option ℕ) (page : ℕ) (holders : List (Option ℕ))
    → ((q : ℕ) → g q ≡ cond (nat_eq page q) None (f q))
    → ((q at : ℕ) → is_page (f q) at ≡ holds_at holders q at)
    → (q at : ℕ) → is_page (g q) at ≡ holds_at (map (cleared page) holders) q at
held_left f g page holders update tie q at =
    ap (λ (o : Option ℕ). is_page o at) (update q) ∙ go (nat_eq page q) refl
    ∙ sym (is_at-map (λ x. is_page x q) (cleared page) holders at) where
      go : (b : Bool) → nat_eq page q ≡ b → is_page (cond b None (f q)) at ≡ is_at (λ x. is_page (cleared page x) q) holders at
      go true e = sym (is_at-never (λ x. is_page (cleared page x) q) (λ x. ap (λ (n : ℕ). is_page (cleared page x) n) (sym (eqb-true page q e)) ∙ cleared_own page x) holders at)
      go false e = tie q at ∙ sym (is_at-same (λ x. is_page (cleared page x) q) (λ x. is_page x q) (cleared_other page q e) holders at)

either_way : (a b : Bool) → cond b true a ≡ (a || b)
either_way true true = refl
either_way true false = refl
either_way false true = refl
either_way false false = refl

left_free : (page : ℕ) (holders : List (Option ℕ)) (k : ℕ) → is_at is_free (map (cleared page) holders) k ≡ (is_at is_free holders k || holds_at holders page k)
left_free page holders k =
    is_at-map is_free (cleared page) holders k
    ∙ is_at-same (λ x. is_free (cleared page x)) (λ x. is_free x || is_page x page) (cleared_free page) holders k
    ∙ is_at-or is_free (λ x. is_page x page) holders k

-- the store pages that are free, where a page let one go
pub free_left : (f : ℕ → Option ℕ) (old new : ℕ → Bool) (page home : ℕ) (holders : List (Option ℕ))
    → ((q at : ℕ) → is_page (f q) at ≡ holds_at holders q at) → f page ≡ Some home
    → ((k : ℕ) → old k ≡ is_at is_free holders k)
    → ((k : ℕ) → new k ≡ cond (nat_eq home k) true (old k))
    → (k : ℕ) → new k ≡ is_at is_free (map (cleared page) holders) k
free_left f old new page home holders tie some free update k =
    let one : nat_eq home k ≡ holds_at holders page k = ap (λ (o : Option ℕ). is_page o k) (sym some) ∙ tie page k in
    update k ∙ either_way (old k) (nat_eq home k)
    ∙ ap (λ (b : Bool). b || nat_eq home k) (free k) ∙ ap (λ (b : Bool). is_at is_free holders k || b) one
    ∙ sym (left_free page holders k)

or_false : (b : Bool) → (b || false) ≡ b
or_false true = refl
or_false false = refl

-- and where it held none
pub free_stays : (f : ℕ → Option ℕ) (old : ℕ → Bool) (page : ℕ) (holders : List (Option ℕ))
    → ((q at : ℕ) → is_page (f q) at ≡ holds_at holders q at) → f page ≡ None
    → ((k : ℕ) → old k ≡ is_at is_free holders k)
    → (k : ℕ) → old k ≡ is_at is_free (map (cleared page) holders) k
free_stays f old page holders tie none free k =
    let one : false ≡ holds_at holders page k = ap (λ (o : Option ℕ). is_page o k) (sym none) ∙ tie page k in
    free k ∙ sym (or_false (is_at is_free holders k)) ∙ ap (λ (b : Bool). is_at is_free holders k || b) one
    ∙ sym (left_free page holders k)

-- ---- how many are held

pub held_at_most : (holders : List (Option ℕ)) → number_held holders ≤ length holders
held_at_most [] = omega arith
held_at_most (None ∷ holders) = let e = held_at_most holders in omega (arith, e)
held_at_most (Some page ∷ holders) = let e = held_at_most holders in omega (arith, e)

all_held : (holders : List (Option ℕ)) → ((k : ℕ) → is_at is_free holders k ≡ false) → number_held holders ≡ length holders
all_held [] h = refl
all_held (None ∷ holders) h = absurd (true≢false (h 0))
all_held (Some page ∷ holders) h = let e = all_held holders (λ k. h (suc k)) in omega (arith, e)

one_held : (holders : List (Option ℕ)) (page : ℕ) → number_held (holders ++ Some page ∷ []) ≡ number_held holders + 1
one_held [] page = omega arith
one_held (None ∷ holders) page = one_held holders page
one_held (Some other ∷ holders) page = let e = one_held holders page in omega (arith, e)

-- holders stay as many, or become one more, all of which are held
abbrev pub Grow : (holders after : List (Option ℕ)) → Type 0
Grow holders after = (length after ≡ length holders) ⊎ ((length after ≡ length holders + 1) × (number_held after ≡ length after))

pub grow_taken : (holders : List (Option ℕ)) (page : ℕ) → Grow holders (taken (position is_free holders) page holders)
grow_taken holders page = go (position is_free holders) refl where
  go : (place : Option ℕ) → position is_free holders ≡ place → Grow holders (taken place page holders)
  go None e =
      let one = one_held holders page in
      let all = all_held holders (nowhere-position is_free holders e) in
      let more = length_push holders (Some page) in
      inr (more, omega (arith, one, all, more))
  go (Some home) e = inl (length-set holders home (Some page))
