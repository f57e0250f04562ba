-- The definition of next uses leaves one list.
use Rattle.std.proofs.Common.{◌≡◌, ◌≢◌, ◌<◌, ◌≤◌, ◌∷◌, [], zero, suc, ℕ, List, IsSomeAnd, All, length, get_or, slice_index, sym, ◌∙◌, arith, ⊎_elim}
use Rattle.std.specs.List.{slice_get}
use Rattle.std.proofs.lemmas.Bool.{cases_eq, cases_lt}
use Rattle.std.proofs.lemmas.List.{ext_get_or}
use Rattle.std.proofs.lemmas.List.Elements.{All-get_or}
use Rattle.std.proofs.lemmas.Option.{slice_get-get_or}
use Rattle.mage_instr.specs.declared.instr.TheConstants.{NEVER}
use Rattle.mage_instr.specs.declared.instr.Step.{Step}
use Rattle.mage_instr.specs.Trace.{IsTrace}
use Rattle.mage_next.specs.Next.{IsNextUse, AreUsesOf, AreNextUses}

within : {X : Type 0} (P : X → Type 0) (xs : List X) (k : ℕ) → IsSomeAnd (slice_get xs k) P → k < length xs
within P [] k h = absurd h
within P (x ∷ xs) zero h = omega arith
within P (x ∷ xs) (suc k) h = let l = within P xs k h in omega (arith, l)

module _ (trace : List Step) (few : length trace ≤ NEVER) where
  not_less : (t page u w : ℕ) → IsNextUse trace t page u → IsNextUse trace t page w → u < w → ⊥
  not_less t page u w f g less = ⊎_elim never found (cases_eq u NEVER) where
    never : u ≡ NEVER → ⊥
    never e = let has = g.later (λ is. omega (arith, less, e, is)) in let l = within _ trace w has.1 in omega (arith, less, e, l, few)

    found : u ≢ NEVER → ⊥
    found ne = let has = f.later ne in g.least u has.0 less has.1

  one_next : (t page u w : ℕ) → IsNextUse trace t page u → IsNextUse trace t page w → u ≡ w
  one_next t page u w f g = ⊎_elim (λ l. absurd (not_less t page u w f g l)) (λ h. ⊎_elim (λ l. absurd (not_less t page w u g f l)) (λ m. omega (arith, h, m)) (cases_lt w u)) (cases_lt u w)

  one_entry : (t : ℕ) (step : Step) (us ws : List ℕ) → length us ≡ 4 → length ws ≡ 4 → AreUsesOf trace t step us → AreUsesOf trace t step ws → us ≡ ws
  one_entry t step us ws u_four w_four f g = ext_get_or 0 us ws (u_four ∙ sym w_four) same where
    same : (k : ℕ) → k < length us → get_or us k 0 ≡ get_or ws k 0
    same k l = ⊎_elim (λ h. one_next t (slice_index step.pages k) (get_or us k 0) (get_or ws k 0) (f.next k h) (g.next k h)) (λ h. f.past k h (omega (arith, l, u_four)) ∙ sym (g.past k h (omega (arith, l, u_four)))) (cases_lt k step.count)

no_step : Step
no_step = record { pages = []; count = 0 }

pub one_list_of_uses : (trace : List Step) (us ws : List (List ℕ)) → IsTrace trace → All (λ u. length u ≡ 4) us → All (λ w. length w ≡ 4) ws → AreNextUses trace us → AreNextUses trace ws → us ≡ ws
one_list_of_uses trace us ws ok u_four w_four f g = ext_get_or [] us ws (f.count ∙ sym g.count) same where
  same : (t : ℕ) → t < length us → get_or us t [] ≡ get_or ws t []
  same t l =
      let step = get_or trace t no_step in
      let is = slice_get-get_or trace t no_step (omega (arith, l, f.count)) in
      let a : AreUsesOf trace t step (get_or us t []) = rw is at (f.each t) in
      let b : AreUsesOf trace t step (get_or ws t []) = rw is at (g.each t) in
      one_entry trace ok.count t step (get_or us t []) (get_or ws t []) (All-get_or (λ u. length u ≡ 4) us t [] l u_four) (All-get_or (λ w. length w ≡ 4) ws t [] (omega (arith, l, f.count, g.count)) w_four) a b
