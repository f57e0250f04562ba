-- The definition of places leaves one list.
use Rattle.std.proofs.Common.{◌≡◌, ◌≤◌, ◌*◌, ◌++◌, ◌∷◌, [], zero, suc, ℕ, List, inl, inr, length, take, get_or, refl, sym, ap, ◌∙◌, arith, ⊎_elim, subst}
use Rattle.std.proofs.lemmas.Bool.{cases_lt, cases_Bool}
use Rattle.std.proofs.Math.Seq.{take-suc}
use Rattle.std.proofs.lemmas.List.{take_all}
use Rattle.std.proofs.lemmas.Option.{slice_get-get_or}
use Rattle.mage_instr.specs.declared.instr.Instr.{Instr}
use Rattle.mage_instr.specs.declared.instr.Place.{Place}
use Rattle.mage_instr.specs.Opcodes.{has_result}
use Rattle.mage_place.specs.Live.{class_of_result}
use Rattle.mage_place.specs.Places.{place_of, nowhere, IsFound, IsPlaceIn, IsPlaceOf, ArePlaces}
use Rattle.mage_place.proofs.SoundFacts.{no_instr}

same_place : (x y : Place) → x.page ≡ y.page → x.offset ≡ y.offset → x ≡ y
same_place x y page offset = ap on_page page ∙ ap at_wire offset where
  on_page : ℕ → Place
  on_page q = record { page = q; offset = x.offset }

  at_wire : ℕ → Place
  at_wire wire = record { page = y.page; offset = wire }

module _ (instrs : List Instr) (page : ℕ) (before : List Place) where
  same_page : (c q r k j : ℕ) → IsFound instrs page before q c k → IsFound instrs page before r c j → q ≡ r
  same_page c q r k j f g = ⊎_elim (λ l. absurd (f.highest r l g.open_page)) (λ h. ⊎_elim (λ l. absurd (g.highest q l f.open_page)) (λ m. omega (arith, h, m)) (cases_lt r q)) (cases_lt q r)

  same_number : (c q k j : ℕ) → IsFound instrs page before q c k → IsFound instrs page before q c j → k ≡ j
  same_number c q k j f g = ⊎_elim (λ l. absurd (g.lowest k l f.free)) (λ h. ⊎_elim (λ l. absurd (f.lowest j l g.free)) (λ m. omega (arith, h, m)) (cases_lt j k)) (cases_lt k j)

  one_place_in : (c : ℕ) (x y : Place) → IsPlaceIn instrs page before c x → IsPlaceIn instrs page before c y → x ≡ y
  one_place_in c x y (inl f) (inl g) =
      let on = same_page c x.page y.page f.0 g.0 f.1 g.1 in
      let at = same_number c y.page f.0 g.0 (subst (λ q. IsFound instrs page before q c f.0) on f.1) g.1 in
      same_place x y on (f.2 ∙ ap (λ n. n * c) at ∙ sym g.2)
  one_place_in c x y (inl f) (inr g) = absurd (g.0 x.page f.1.open_page)
  one_place_in c x y (inr f) (inl g) = absurd (f.0 y.page g.1.open_page)
  one_place_in c x y (inr f) (inr g) = same_place x y (f.1 ∙ sym g.1) (f.2 ∙ sym g.2)

  one_place : (i : Instr) (x y : Place) → IsPlaceOf instrs page before i x → IsPlaceOf instrs page before i y → x ≡ y
  one_place i x y f g = ⊎_elim (λ h. one_place_in (class_of_result i) x y (f.with_result h) (g.with_result h)) (λ h. f.without h ∙ sym (g.without h)) (cases_Bool (has_result i.op))

module _ (instrs : List Instr) (page : ℕ) (xs ys : List Place) (a : ArePlaces instrs page xs) (b : ArePlaces instrs page ys) where
  same_front : (t : ℕ) → t ≤ length instrs → take t xs ≡ take t ys
  same_front zero h = refl
  same_front (suc t) h =
      let was = same_front t (omega (arith, h)) in
      let i = get_or instrs t no_instr in
      let is = slice_get-get_or instrs t no_instr (omega (arith, h)) in
      let f : IsPlaceOf instrs page (take t xs) i (place_of xs t) = rw is at (a.each t) in
      let g : IsPlaceOf instrs page (take t ys) i (place_of ys t) = rw is at (b.each t) in
      let same : place_of xs t ≡ place_of ys t = one_place instrs page (take t ys) i (place_of xs t) (place_of ys t) (subst (λ front. IsPlaceOf instrs page front i (place_of xs t)) was f) g in
      take-suc xs t nowhere (omega (arith, h, a.count)) ∙ ap (λ front. front ++ place_of xs t ∷ []) was ∙ ap (λ place. take t ys ++ place ∷ []) same ∙ sym (take-suc ys t nowhere (omega (arith, h, b.count)))

  pub one_list_of_places : xs ≡ ys
  one_list_of_places = sym (take_all (length instrs) xs (omega (arith, a.count))) ∙ same_front (length instrs) (omega arith) ∙ take_all (length instrs) ys (omega (arith, b.count))
