-- Which pages in memory are dirty: a result was put in them since they came in.
use Rattle.std.proofs.Common.{◌≡◌, ◌≢◌, ◌<◌, ◌+◌, zero, suc, ℕ, Bool, true, false, cond, List, [], ◌∷◌, ◌++◌, length, get_or, set, nat_eq, refl, sym, ◌∙◌, ap, arith, ⊎_elim}
use Rattle.std.proofs.lemmas.Bool.{cases_eq, eq-eqb, ne_eqb, false≢true}
use Rattle.std.proofs.lemmas.List.{get_or-set_same}
use Rattle.mage_belady.specs.Plan.{is_in}
use Rattle.mage_belady.specs.Rule.{Held, resident, frame_of, written}
use Rattle.mage_belady.proofs.Bringing.{length-resident}
use Rattle.mage_belady.proofs.Least.{resident-after}
use Rattle.mage_belady.proofs.Sets.{not-in-head, not-in-tail, frame_of-within}

-- whether a page is in memory and dirty
abbrev pub is_dirty : (page : ℕ) → List Held → Bool
is_dirty page [] = false
is_dirty page (h ∷ held) = cond (nat_eq page h.page) h.dirty (is_dirty page held)

-- it is what its frame says
pub is_dirty-at : (page : ℕ) (held : List Held) (d : Held) → d.dirty ≡ false → is_dirty page held ≡ (get_or held (frame_of page (resident held)) d).dirty
is_dirty-at page [] d clean = sym clean
is_dirty-at page (h ∷ held) d clean = go (nat_eq page h.page) (is_dirty-at page held d clean) where
  more : (n : ℕ) → get_or held n d ≡ get_or (h ∷ held) (n + 1) d
  more n = (let e : suc n ≡ n + 1 = omega arith in ap (λ m. get_or (h ∷ held) m d) e)

  go : (b : Bool) → is_dirty page held ≡ (get_or held (frame_of page (resident held)) d).dirty
      → cond b h.dirty (is_dirty page held) ≡ (get_or (h ∷ held) (cond b 0 (frame_of page (resident held) + 1)) d).dirty
  go true rest = refl
  go false rest = rest ∙ ap (λ (x : Held). x.dirty) (more (frame_of page (resident held)))

-- a page that isn't in memory is clean
pub is_dirty-missing : (page : ℕ) (held : List Held) → is_in page (resident held) ≡ false → is_dirty page held ≡ false
is_dirty-missing page [] missing = refl
is_dirty-missing page (h ∷ held) missing =
    rw (ne_eqb page h.page (not-in-head page h.page (resident held) missing))
    (is_dirty-missing page held (not-in-tail page h.page (resident held) missing))

-- a page that comes in is clean, and the others stay as they are
pub is_dirty-push : (page : ℕ) (held : List Held) (new : Held) → new.dirty ≡ false → is_dirty page (held ++ new ∷ []) ≡ is_dirty page held
is_dirty-push page [] new clean = go (nat_eq page new.page) where
  go : (b : Bool) → cond b new.dirty false ≡ false
  go true = clean
  go false = refl
is_dirty-push page (h ∷ held) new clean = ap (cond (nat_eq page h.page) h.dirty) (is_dirty-push page held new clean)

pub is_dirty-entered : (page : ℕ) (held : List Held) (f : ℕ) → is_in page (resident held) ≡ false → is_dirty page (set held f (record { page = page; dirty = false })) ≡ false
is_dirty-entered page [] f missing = refl
is_dirty-entered page (h ∷ held) zero missing = rw (eq-eqb page page refl) refl
is_dirty-entered page (h ∷ held) (suc f) missing =
    rw (ne_eqb page h.page (not-in-head page h.page (resident held) missing))
    (is_dirty-entered page held f (not-in-tail page h.page (resident held) missing))

pub is_dirty-set : (page : ℕ) (held : List Held) (f : ℕ) (new : Held) → page ≢ get_or (resident held) f 0 → page ≢ new.page → is_dirty page (set held f new) ≡ is_dirty page held
is_dirty-set page [] f new other differs = refl
is_dirty-set page (h ∷ held) zero new other differs = rw (ne_eqb page new.page differs, ne_eqb page h.page other) refl
is_dirty-set page (h ∷ held) (suc f) new other differs = ap (cond (nat_eq page h.page) h.dirty) (is_dirty-set page held f new other differs)

-- a page in which a result is put is dirty
pub is_dirty-here : (page : ℕ) (held : List Held) → is_in page (resident held) ≡ true → is_dirty page (written page held) ≡ true
is_dirty-here page held here =
    let f = frame_of page (resident held) in
    let none : Held = record { page = 0; dirty = false } in
    let now : Held = record { page = page; dirty = true } in
    let within = frame_of-within page (resident held) here in
    let long = length-resident held in
    let inside : f < length held = omega (arith, within, long) in
    is_dirty-at page (written page held) none refl
    ∙ ap (λ xs. (get_or (written page held) (frame_of page xs) none).dirty) (resident-after true page held)
    ∙ ap (λ (x : Held). x.dirty) (get_or-set_same held f now none inside)

-- what is clean then was clean before, and is another page
pub is_dirty-written : (page other : ℕ) (held : List Held) → is_in page (resident held) ≡ true → get_or (resident held) (frame_of page (resident held)) 0 ≡ page
    → is_dirty other (written page held) ≡ false → (other ≢ page) × (is_dirty other held ≡ false)
is_dirty-written page other held here at clean = ⊎_elim same different (cases_eq other page) where
  same : other ≡ page → (other ≢ page) × (is_dirty other held ≡ false)
  same e = absurd (false≢true (sym clean ∙ ap (λ q. is_dirty q (written page held)) e ∙ is_dirty-here page held here))

  different : other ≢ page → (other ≢ page) × (is_dirty other held ≡ false)
  different ne = (
    ne,
    sym (is_dirty-set other held (frame_of page (resident held)) (record { page = page; dirty = true }) (λ e. ne (e ∙ at)) ne) ∙ clean,
  )
