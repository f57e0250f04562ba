-- Limits are read exactly where they are in range.
use Rattle.std.proofs.Common.{◌≡◌, ℕ, zero, suc, ◌+◌, ◌*◌, ◌^◌, ◌<◌, ◌≤◌, Bool, true, false, ◌||◌, leb, eqb, eqb-true, List, [], ◌∷◌, refl, sym, ap, ◌∙◌, arith}
use Rattle.std.specs.Int.{w32}
use Rattle.std.specs.List.{AllByRecursion, list_any}
use Rattle.std.proofs.Math.Pow.{pow_mono}
use Rattle.std.proofs.lemmas.Bool.{leb-true, le-leb}
use Rattle.mage_instr.specs.declared.replaced.Limits.{Limits}
use Rattle.mage_instr.specs.Limits.{most_frames, most_slots, most_ahead, most_wires, AreInRange}
use Rattle.mage_file.specs.Rules.{within, is_page, is_buffer}
use Rattle.mage_file.specs.Formats.{Format, ◌of◌, chain, done, field}
use Rattle.mage_file.specs.Grammar.{limits}
use Rattle.mage_file.proofs.Spells.{Spells, spells_done, spells_chain, respelled}
use Rattle.mage_file.proofs.FieldLaws.{Fields, wide32, spells_field, within_is, is_within, and_both, both_and}

abbrev made : (page frames buffer ahead : ℕ) → Limits
made page frames buffer ahead = record { page = page; frames = frames; buffer = buffer; ahead = ahead }

abbrev pub F : (ℕ → Bool) → ℕ → Type 0
F rule = Fields (2 ^ 32) rule

abbrev pub AreRead : Limits → Type 0
AreRead y = F is_page y.page × (F (within 1 most_frames) y.frames × (F (is_buffer y.page y.frames) y.buffer × (F (within 0 most_ahead) y.ahead
    × (y ≡ made y.page y.frames y.buffer y.ahead))))

four : (rule : ℕ → Bool) → Spells ℕ (field w32 rule) (F rule)
four rule = spells_field w32 (2 ^ 32) rule wide32

spells_fields : Spells Limits limits AreRead
unfolding limits
spells_fields =
    let last : ℕ → ℕ → ℕ → ℕ → Format Limits = λ p f b a. done (made p f b a) in
    let with_buffer : ℕ → ℕ → ℕ → Format Limits = λ p f b. chain (field w32 (within 0 most_ahead) of (λ (y : Limits). y.ahead)) (last p f b) in
    let with_frames : ℕ → ℕ → Format Limits = λ p f. chain (field w32 (is_buffer p f) of (λ (y : Limits). y.buffer)) (with_buffer p f) in
    let with_page : ℕ → Format Limits = λ p. chain (field w32 (within 1 most_frames) of (λ (y : Limits). y.frames)) (with_frames p) in
    spells_chain ℕ Limits (field w32 is_page) (λ y. y.page) with_page
    (F is_page)
    (λ p y. F (within 1 most_frames) y.frames × (F (is_buffer p y.frames) y.buffer × (F (within 0 most_ahead) y.ahead × (y ≡ made p y.frames y.buffer y.ahead))))
    (four is_page)
    (λ p _. spells_chain ℕ Limits (field w32 (within 1 most_frames)) (λ y. y.frames) (with_frames p)
    (F (within 1 most_frames))
    (λ f y. F (is_buffer p f) y.buffer × (F (within 0 most_ahead) y.ahead × (y ≡ made p f y.buffer y.ahead)))
    (four (within 1 most_frames))
    (λ f _. spells_chain ℕ Limits (field w32 (is_buffer p f)) (λ y. y.buffer) (with_buffer p f)
    (F (is_buffer p f))
    (λ b y. F (within 0 most_ahead) y.ahead × (y ≡ made p f b y.ahead))
    (four (is_buffer p f))
    (λ b _. spells_chain ℕ Limits (field w32 (within 0 most_ahead)) (λ y. y.ahead) (last p f b)
    (F (within 0 most_ahead)) (λ a y. y ≡ made p f b a) (four (within 0 most_ahead))
    (λ a _. spells_done Limits (made p f b a))
    (λ a y has q. ap (λ (z : Limits). z.ahead) q))
    (λ b y has q. ap (λ (z : Limits). z.buffer) q.1))
    (λ f y has q. ap (λ (z : Limits). z.frames) q.1.1))
    (λ p y has q. ap (λ (z : Limits). z.page) q.1.1.1)

or_cases : {P : Type 0} (b c : Bool) → (b || c) ≡ true → (b ≡ true → P) → (c ≡ true → P) → P
or_cases true c e yes_it other = yes_it refl
or_cases false c e yes_it other = other e

abbrev pub IsPowerIn : ℕ → Type 0
IsPowerIn n = (k : ℕ) × (6 ≤ k) × (k ≤ 16) × (n ≡ 2 ^ k)

-- a number that one of the exponents gives
power_in : (n : ℕ) (ks : List ℕ) → list_any (λ k. eqb (2 ^ k) n) ks ≡ true → AllByRecursion (λ k. (6 ≤ k) × (k ≤ 16)) ks → IsPowerIn n
power_in n [] e all = absurd cc
power_in n (k ∷ ks) e all =
    or_cases {P = IsPowerIn n} (eqb (2 ^ k) n) (list_any (λ k. eqb (2 ^ k) n) ks) e
    (λ t. (k, all.0.0, all.0.1, sym (eqb-true (2 ^ k) n t))) (λ t. power_in n ks t all.1)

in_range : (k : ℕ) → leb 6 k ≡ true → leb k 16 ≡ true → (6 ≤ k) × (k ≤ 16)
in_range k p q = (leb-true 6 k p, leb-true k 16 q)

page_is : (n : ℕ) → is_page n ≡ true → IsPowerIn n
page_is n e = power_in n (6 ∷ 7 ∷ 8 ∷ 9 ∷ 10 ∷ 11 ∷ 12 ∷ 13 ∷ 14 ∷ 15 ∷ 16 ∷ []) e (
  in_range 6 refl refl,
  (
    in_range 7 refl refl,
    (
      in_range 8 refl refl,
      (
        in_range 9 refl refl,
        (
          in_range 10 refl refl,
          (
            in_range 11 refl refl,
            (in_range 12 refl refl, (in_range 13 refl refl, (in_range 14 refl refl, (in_range 15 refl refl, (in_range 16 refl refl, tt))))),
          ),
        ),
      ),
    ),
  ),
)

power_is : (k : ℕ) → 6 ≤ k → k ≤ 16 → is_page (2 ^ k) ≡ true
power_is zero low high = absurd (omega arith)
power_is (suc zero) low high = absurd (omega arith)
power_is (suc (suc zero)) low high = absurd (omega arith)
power_is (suc (suc (suc zero))) low high = absurd (omega arith)
power_is (suc (suc (suc (suc zero)))) low high = absurd (omega arith)
power_is (suc (suc (suc (suc (suc zero))))) low high = absurd (omega arith)
power_is (suc (suc (suc (suc (suc (suc zero)))))) low high = refl
power_is (suc (suc (suc (suc (suc (suc (suc zero))))))) low high = refl
power_is (suc (suc (suc (suc (suc (suc (suc (suc zero)))))))) low high = refl
power_is (suc (suc (suc (suc (suc (suc (suc (suc (suc zero))))))))) low high = refl
power_is (suc (suc (suc (suc (suc (suc (suc (suc (suc (suc zero)))))))))) low high = refl
power_is (suc (suc (suc (suc (suc (suc (suc (suc (suc (suc (suc zero))))))))))) low high = refl
power_is (suc (suc (suc (suc (suc (suc (suc (suc (suc (suc (suc (suc zero)))))))))))) low high = refl
power_is (suc (suc (suc (suc (suc (suc (suc (suc (suc (suc (suc (suc (suc zero))))))))))))) low high = refl
power_is (suc (suc (suc (suc (suc (suc (suc (suc (suc (suc (suc (suc (suc (suc zero)))))))))))))) low high = refl
power_is (suc (suc (suc (suc (suc (suc (suc (suc (suc (suc (suc (suc (suc (suc (suc zero))))))))))))))) low high = refl
power_is (suc (suc (suc (suc (suc (suc (suc (suc (suc (suc (suc (suc (suc (suc (suc (suc zero)))))))))))))))) low high = refl
power_is (suc (suc (suc (suc (suc (suc (suc (suc (suc (suc (suc (suc (suc (suc (suc (suc (suc k))))))))))))))))) low high = absurd (omega arith)

limits_read : (y : Limits) → AreRead y → AreInRange y
limits_read y q =
    let frames = within_is 1 most_frames y.frames q.1.0.1 in
    let buffer = and_both (leb y.buffer most_slots) (leb ((y.frames + y.buffer) * y.page) most_wires) q.1.1.0.1 in
    record {
      page = page_is y.page q.0.1;
      some_frame = frames.0;
      frames = frames.1;
      buffer = leb-true y.buffer most_slots buffer.0;
      ahead = (within_is 0 most_ahead y.ahead q.1.1.1.0.1).1;
      wires = leb-true ((y.frames + y.buffer) * y.page) most_wires buffer.1;
    }

read_limits : (y : Limits) → AreInRange y → AreRead y
read_limits y r =
    let page : is_page y.page ≡ true = ap is_page r.page.3 ∙ power_is r.page.0 r.page.1 r.page.2 in
    let grows : 2 ^ r.page.0 ≤ 2 ^ 16 = pow_mono r.page.2 in
    let small : y.page < 2 ^ 32 = omega (arith, grows, r.page.3) in (
      (small, page),
      (
        (omega (arith, r.frames), is_within 1 most_frames y.frames r.some_frame r.frames),
        (
          (omega (arith, r.buffer), both_and (leb y.buffer most_slots) (leb ((y.frames + y.buffer) * y.page) most_wires) (le-leb y.buffer most_slots r.buffer) (le-leb ((y.frames + y.buffer) * y.page) most_wires r.wires)),
          ((omega (arith, r.ahead), is_within 0 most_ahead y.ahead (omega arith) r.ahead), refl),
        ),
      ),
    )

pub spells_limits : Spells Limits limits AreInRange
spells_limits = respelled Limits limits AreRead AreInRange spells_fields limits_read read_limits
