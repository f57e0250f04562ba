-- Which store page each page holds, as a function of the page.
use Rattle.std.proofs.Common.{◌≡◌, ◌≢◌, ◌<◌, ◌⊎◌, ℕ, zero, suc, List, [], ◌∷◌, length, get_or, Bool, true, false, cond, nat_eq, Option, Some, None, inl, inr, refl, sym, subst, ◌∙◌, ap, arith}
use Rattle.std.proofs.lemmas.Bool.{false≢true, eqb-true, eq-eqb, cond-false, ne_eqb}
use Rattle.std.proofs.lemmas.List.Quantifiers.{position-Some}
use Rattle.std.specs.List.{position}
use Rattle.mage_sched.specs.Reads.{is_page}
use Rattle.mage_sched.specs.Homes.{is_free, home_of, taken, housed_at, housed, let_go}
use Rattle.mage_sched.specs.Views.{is_at, holds_at}
use Rattle.mage_sched.proofs.Holders.{is_at-set_same, is_at-set_other, is_at-push_same, is_at-push_other, is_at-past, is_at-within, free_not_held, home_of-is, held_taken, held_left}

-- a function says which store page each page holds
pub record AreHomes (homes : ℕ → Option ℕ) (holders : List (Option ℕ)) : Type 0 where
  pub tie : (page home : ℕ) → is_page (homes page) home ≡ holds_at holders page home

pub home_is : (homes : ℕ → Option ℕ) (holders : List (Option ℕ)) (page : ℕ) → AreHomes homes holders → home_of holders page ≡ homes page
home_is homes holders page are = home_of-is holders page (homes page) (are.tie page)

some_page : (o : Option ℕ) (home : ℕ) → o ≡ Some home → is_page o home ≡ true
some_page o home e = ap (λ (x : Option ℕ). is_page x home) e ∙ eq-eqb home home refl

-- two pages never hold one store page
same_holder : (holders : List (Option ℕ)) (page other home : ℕ) → holds_at holders page home ≡ true → holds_at holders other home ≡ true → page ≡ other
same_holder [] page other home h k = absurd (false≢true h)
same_holder (None ∷ holders) page other zero h k = absurd (false≢true h)
same_holder (Some holder ∷ holders) page other zero h k = sym (eqb-true holder page h) ∙ eqb-true holder other k
same_holder (holder ∷ holders) page other (suc home) h k = same_holder holders page other home h k

pub one_page : (homes : ℕ → Option ℕ) (holders : List (Option ℕ)) (page other home : ℕ) → AreHomes homes holders → homes page ≡ Some home → homes other ≡ Some home → page ≡ other
one_page homes holders page other home are h k =
    same_holder holders page other home (sym (are.tie page home) ∙ some_page (homes page) home h) (sym (are.tie other home) ∙ some_page (homes other) home k)

pub home_within : (homes : ℕ → Option ℕ) (holders : List (Option ℕ)) (page home : ℕ) → AreHomes homes holders → homes page ≡ Some home → home < length holders
home_within homes holders page home are h = is_at-within (λ holder. is_page holder page) holders home (sym (are.tie page home) ∙ some_page (homes page) home h)

-- ---- a page takes a store page

-- where it stands then
pub record IsPlace (holders after : List (Option ℕ)) (page home : ℕ) : Type 0 where
  pub vacant : (other : ℕ) → holds_at holders other home ≡ false
  pub here : (other : ℕ) → holds_at after other home ≡ nat_eq page other
  pub apart : (other at : ℕ) → at ≢ home → holds_at after other at ≡ holds_at holders other at

free_at : (holders : List (Option ℕ)) (k : ℕ) → k < length holders → is_free (get_or holders k None) ≡ true → is_at is_free holders k ≡ true
free_at [] k within h = absurd (omega arith)
free_at (holder ∷ holders) zero within h = h
free_at (holder ∷ holders) (suc k) within h = free_at holders k (omega arith) h

place_at : (holders : List (Option ℕ)) (page : ℕ) (place : Option ℕ) → position is_free holders ≡ place → (home : ℕ) × IsPlace holders (taken place page holders) page home
place_at holders page None e = (
  length holders,
  record {
    vacant = λ other. is_at-past (λ holder. is_page holder other) holders (length holders) (omega arith);
    here = λ other. is_at-push_same (λ holder. is_page holder other) holders (Some page);
    apart = λ other at n. is_at-push_other (λ holder. is_page holder other) holders at (Some page) n;
  },
)
place_at holders page (Some home) e =
    let at = position-Some is_free holders home None e in (
      home,
      record {
        vacant = λ other. free_not_held holders other home (free_at holders home at.0 at.1);
        here = λ other. is_at-set_same (λ holder. is_page holder other) holders home (Some page) at.0;
        apart = λ other at n. is_at-set_other (λ holder. is_page holder other) holders home at (Some page) n;
      },
    )

-- the homes once a page took one
abbrev pub with_home : (homes : ℕ → Option ℕ) (page home : ℕ) → ℕ → Option ℕ
with_home homes page home q = cond (nat_eq page q) (Some home) (homes q)

pub takes_place : (homes : ℕ → Option ℕ) (holders : List (Option ℕ)) (page : ℕ) → AreHomes homes holders → homes page ≡ None
    → (home : ℕ) × AreHomes (with_home homes page home) (housed page holders)
takes_place homes holders page are none =
    let place = place_at holders page (position is_free holders) refl in
    let fresh : housed page holders ≡ taken (position is_free holders) page holders = ap (λ (o : Option ℕ). housed_at o page holders) (home_is homes holders page are ∙ none) in
    let P : List (Option ℕ) → Type 0 = λ xs. AreHomes (with_home homes page place.0) xs in (
      place.0,
      subst P (sym fresh) (record {
        tie = held_taken homes (with_home homes page place.0) page place.0 holders (taken (position is_free holders) page holders) (λ q. refl) none are.tie place.1.vacant place.1.here place.1.apart;
      }),
    )

pub stays_home : (homes : ℕ → Option ℕ) (holders : List (Option ℕ)) (page home : ℕ) → AreHomes homes holders → homes page ≡ Some home → AreHomes homes (housed page holders)
stays_home homes holders page home are some =
    let same : housed page holders ≡ holders = ap (λ (o : Option ℕ). housed_at o page holders) (home_is homes holders page are ∙ some) in
    let P : List (Option ℕ) → Type 0 = λ xs. AreHomes homes xs in
    subst P (sym same) are

-- ---- a page, or none, lets its store page go

abbrev pub without_home : Option ℕ → (homes : ℕ → Option ℕ) → ℕ → Option ℕ
without_home None homes q = homes q
without_home (Some page) homes q = cond (nat_eq page q) None (homes q)

pub leaves_home : (page : Option ℕ) (homes : ℕ → Option ℕ) (holders : List (Option ℕ)) → AreHomes homes holders → AreHomes (without_home page homes) (let_go page holders)
leaves_home None homes holders are = record { tie = are.tie }
leaves_home (Some page) homes holders are = record { tie = held_left homes (without_home (Some page) homes) page holders (λ q. refl) are.tie }

none_some : (home : ℕ) → None ≡ Some home → ⊥
none_some home e = cc

-- who still holds one held it before
pub still_home : (page : Option ℕ) (homes : ℕ → Option ℕ) (q home : ℕ) → without_home page homes q ≡ Some home → homes q ≡ Some home
still_home None homes q home h = h
still_home (Some page) homes q home h = go (nat_eq page q) h where
  go : (b : Bool) → cond b None (homes q) ≡ Some home → homes q ≡ Some home
  go true e = absurd (none_some home e)
  go false e = e

-- and all but the one that leaves hold theirs
pub kept_home : (page : Option ℕ) (homes : ℕ → Option ℕ) (q : ℕ) → ((other : ℕ) → page ≡ Some other → other ≡ q → ⊥) → without_home page homes q ≡ homes q
kept_home None homes q apart = refl
kept_home (Some page) homes q apart = cond-false (nat_eq page q) None (homes q) (ne_eqb page q (apart page refl))

-- a page that holds none held none, or left
pub homeless : (page : Option ℕ) (homes : ℕ → Option ℕ) (q : ℕ) → without_home page homes q ≡ None → (homes q ≡ None) ⊎ (page ≡ Some q)
homeless None homes q h = inl h
homeless (Some page) homes q h = go (nat_eq page q) refl h where
  go : (b : Bool) → nat_eq page q ≡ b → cond b None (homes q) ≡ None → (homes q ≡ None) ⊎ (Some page ≡ Some q)
  go true e k = inr (ap (λ (n : ℕ). Some n) (eqb-true page q e))
  go false e k = inl k
