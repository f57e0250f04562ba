-- The places so far are those of the definition, and the pages hold the live values.
use Rattle.std.proofs.Common.{◌≡◌, ◌≢◌, ◌<◌, ◌≤◌, ◌+◌, ◌*◌, ◌/◌, ◌++◌, ◌∷◌, [], ◌⊎◌, ◌&&◌, max, ℕ, List, Bool, true, false, cond, eqb, leb, ◌^◌, Option, None, Some, IfSome, inl, inr, length, take, get_or, slice_index, Contains, MatchBool, refl, sym, ap, ◌∙◌, arith, ⊎_elim, subst}
use Rattle.std.specs.List.{slice_get}
use Rattle.std.proofs.lemmas.Bool.{cases_eq, cases_Bool, eqb-true, and_parts, and_from, eq-eqb, false≢true, false_from_ne_true, MatchBool-at_true, MatchBool-at_false}
use Rattle.std.proofs.Math.Nat.{eq_of_mul-eq-mul_right}
use Rattle.std.proofs.lemmas.List.{take_at, take-append-le, get_or_append_left, get_or_push, length_push, append-nil}
use Rattle.std.proofs.lemmas.List.Elements.{Contains-append_left, Contains-append_right, Contains-append_cases}
use Rattle.std.proofs.lemmas.Option.{slice_get_within}
use Rattle.mage_instr.specs.declared.instr.Instr.{Instr}
use Rattle.mage_instr.specs.declared.instr.Place.{Place}
use Rattle.mage_instr.specs.Limits.{IsPageSize}
use Rattle.mage_instr.specs.Opcodes.{has_result}
use Rattle.mage_instr.specs.Sound.{IsSound, arg_of}
use Rattle.std.proofs.Math.Pow.{pow_mono}
use Rattle.mage_place.specs.declared.page.Page.{Page}
use Rattle.mage_place.specs.declared.pool.Pool.{Pool}
use Rattle.mage_place.specs.Classes.{class_of_width}
use Rattle.mage_place.specs.Live.{IsLive, Takes, HasClass, IsLastUse, class_of_result, args_of, values_touched_by}
use Rattle.mage_place.specs.Pages.{is_used, has_room}
use Rattle.mage_place.specs.Places.{place_of, nowhere, next_page, LivesOn, IsFree, IsOpen, IsPlaceIn, IsPlaceOf, ArePlaces}
use Rattle.mage_place.specs.Pools.{is_taken, class_at, is_open, ends_at, ArePages, IsOn, IsReused, IsAdded, Gives, FreesEnded}
use Rattle.mage_place.proofs.Given.{is_taken-at, is_taken-past, class_at-at, is_open-at, is_open-within, class-of_open}
use Rattle.mage_place.proofs.Opens.{taken-from_used, used-from_taken, free-from_room, room-from_free}
use Rattle.mage_place.proofs.Ended.{IsOn-moved}
use Rattle.mage_place.proofs.Members.{any_found, any_finds, some_at}
use Rattle.mage_place.proofs.Kept.{Held, Held-same, Held-iff, Held-given, Held-freed}
use Rattle.mage_place.proofs.SoundFacts.{Defined, some_and, taken_below, arg_below, Takes-at, args-from_Takes, takes_without_result, sound_at}

-- before instruction t value v is live, by the last uses
abbrev pub Lives : (last : List ℕ) → (t v : ℕ) → Type 0
Lives last t v = (v < t) × (t ≤ slice_index last v)

-- each result before instruction t stands on a page of its class
abbrev pub AreOn : List Instr → List Place → List Page → ℕ → Type 0
AreOn instrs places pages t = (v : ℕ) (i : Instr) → v < t → slice_get instrs v ≡ Some i → has_result i.op ≡ true → IsOn pages (place_of places v) × (class_at pages (place_of places v).page ≡ class_of_result i)

-- what is kept before instruction t
pub record Kept (instrs : List Instr) (wires : ℕ) (last : List ℕ) (t : ℕ) (places : List Place) (pages : List Page) : Type 0 where
  pub count : length places ≡ t
  pub few : length pages ≤ t
  pub next : next_page places ≡ length pages
  pub on : AreOn instrs places pages t
  pub held : Held places pages (Lives last t)
  pub placed : (s : ℕ) (i : Instr) → s < t → slice_get instrs s ≡ Some i → IsPlaceOf instrs wires (take s places) i (place_of places s)

pub Kept-start : (instrs : List Instr) (wires : ℕ) (last : List ℕ) → Kept instrs wires last 0 [] []
Kept-start instrs wires last = record {
  count = refl;
  few = omega arith;
  next = refl;
  on = λ v i h. absurd (omega arith);
  held = record { back = λ q j h. absurd (false≢true h); forth = λ v h. absurd (omega (arith, h.0)); apart = λ v w h. absurd (omega (arith, h.0)) };
  placed = λ s i h. absurd (omega arith);
}

next_page-push : (places : List Place) (place : Place) → next_page (places ++ place ∷ []) ≡ max (next_page places) (place.page + 1)
next_page-push [] place = omega arith
next_page-push (p ∷ ps) place = let e = next_page-push ps place in omega (arith, e)

same_instr : (instrs : List Instr) (t : ℕ) (i j : Instr) → slice_get instrs t ≡ Some i → slice_get instrs t ≡ Some j → i ≡ j
same_instr instrs t i j a b = some_same (sym a ∙ b) where
  some_same : {x y : Instr} → Some x ≡ Some y → x ≡ y
  some_same e = cc

module _ (instrs : List Instr) (wires : ℕ) (last : List ℕ) (ok : IsSound instrs) (lasts : (v : ℕ) → v < length instrs → IsLastUse instrs (length instrs) v (slice_index last v)) where
  takes_last : (t v : ℕ) → t ≤ length instrs → Lives last t v → Takes instrs (slice_index last v) v
  takes_last t v fits lives = let below : v < length instrs = omega (arith, lives.0) in ⊎_elim (λ e. absurd (omega (arith, lives.0, lives.1, e))) (λ w. w.1) (lasts v below).use_or_own

  IsLive-from : (t v : ℕ) → t ≤ length instrs → Lives last t v → IsLive instrs t v
  IsLive-from t v fits lives = (lives.0, slice_index last v, lives.1, takes_last t v fits lives)

  Lives-from : (t v : ℕ) → IsLive instrs t v → Lives last t v
  Lives-from t v live =
      let w = taken_below instrs live.1 v ok live.3 in
      let below : v < length instrs = omega (arith, w.0, w.1) in
      let latest = (lasts v below).none_after live.1 w.1 live.3 in
      (live.0, omega (arith, latest, live.2))

  -- the definitions of free and open against what is kept of the pages
  module _ (places : List Place) (pages : List Page) (fits : length places ≤ length instrs) (held : Held places pages (Lives last (length places))) (on : AreOn instrs places pages (length places)) (all : ArePages wires pages) where
    defined : (v : ℕ) → Lives last (length places) v → Defined instrs v
    defined v lives = (taken_below instrs (slice_index last v) v ok (takes_last (length places) v fits lives)).2

    page_within : (v : ℕ) → Lives last (length places) v → (place_of places v).page < length pages
    page_within v lives = let d = defined v lives in (on v d.0 lives.0 d.1 d.2).0.0

    free_from : (q c k : ℕ) → k < wires / c → 0 < c → class_at pages q ≡ c → is_taken pages q k ≡ false → IsFree instrs wires places q c k
    free_from q c k within pos class untaken = (within, occupied) where
      occupied : (v : ℕ) → LivesOn instrs wires places v q → ¬ ((place_of places v).offset ≡ k * c)
      occupied v lives_on at =
          let w = held.forth v (Lives-from (length places) v lives_on.0) in
          let there : (place_of places v).offset ≡ w.0 * c = w.1 ∙ ap (λ x. w.0 * class_at pages x) lives_on.1 ∙ ap (λ x. w.0 * x) class in
          let same : w.0 ≡ k = eq_of_mul-eq-mul_right c pos w.0 k (sym there ∙ at) in
          let full : is_taken pages q k ≡ true = rw (← lives_on.1, ← same) w.2 in
          false≢true (sym untaken ∙ full)

    not_free_from : (q c j : ℕ) → class_at pages q ≡ c → is_taken pages q j ≡ true → ¬ IsFree instrs wires places q c j
    not_free_from q c j class full free =
        let w = held.back q j full in
        free.1 w.0 (IsLive-from (length places) w.0 fits w.1, w.2) (w.3 ∙ ap (λ x. j * x) class)

    open_from : (q c : ℕ) → 0 < c → is_open wires pages c q ≡ true → IsOpen instrs wires places q c
    open_from q c pos open_page =
        let p = some_at pages q (is_open-within wires pages c q open_page) in
        let parts = and_parts (eqb p.0.class c) (is_used p.0 && has_room wires p.0) (sym (is_open-at wires pages c q p.0 p.1) ∙ open_page) in
        let both = and_parts (is_used p.0) (has_room wires p.0) parts.1 in
        let class : p.0.class ≡ c = eqb-true p.0.class c parts.0 in
        let class_here : class_at pages q ≡ c = class_at-at pages q p.0 p.1 ∙ class in
        let used = taken-from_used p.0 both.0 in
        let w = held.back q used.0 (is_taken-at pages q used.0 p.0 p.1 ∙ used.1) in
        let d = defined w.0 w.1 in
        let of_value : class_of_result d.0 ≡ c = sym (on w.0 d.0 w.1.0 d.1 d.2).1 ∙ ap (class_at pages) w.2 ∙ class_here in
        let has : HasClass instrs w.0 c = rw d.1 (d.2, of_value) in
        let room = free-from_room wires p.0 (all q p.0 p.1) both.1 in
        let within : room.0 < wires / c = subst (λ x. room.0 < wires / x) class room.1 in
        ((w.0, (IsLive-from (length places) w.0 fits w.1, w.2), has), (room.0, free_from q c room.0 within pos class_here (is_taken-at pages q room.0 p.0 p.1 ∙ room.2)))

    is_open-from : (q c : ℕ) → 0 < c → IsOpen instrs wires places q c → is_open wires pages c q ≡ true
    is_open-from q c pos open_page =
        let v = open_page.0.0 in let lives_on = open_page.0.1 in
        let lives = Lives-from (length places) v lives_on.0 in
        let i = some_and (slice_get instrs v) _ open_page.0.2 in
        let o = on v i.0 lives.0 i.1 i.2.0 in
        let within : q < length pages = subst (λ x. x < length pages) lives_on.1 o.0.0 in
        let p = some_at pages q within in
        let class_here : class_at pages q ≡ c = ap (class_at pages) (sym lives_on.1) ∙ o.1 ∙ i.2.1 in
        let class : p.0.class ≡ c = sym (class_at-at pages q p.0 p.1) ∙ class_here in
        let w = held.forth v lives in
        let full : is_taken pages q w.0 ≡ true = subst (λ x. is_taken pages x w.0 ≡ true) lives_on.1 w.2 in
        let k = open_page.1.0 in
        let empty : is_taken pages q k ≡ false = false_from_ne_true (is_taken pages q k) (λ t. not_free_from q c k class_here t open_page.1.1) in
        let below : k < wires / p.0.class = subst (λ x. k < wires / x) (sym class) open_page.1.1.0 in
        is_open-at wires pages c q p.0 p.1 ∙ and_from (eqb p.0.class c) (is_used p.0 && has_room wires p.0) (eq-eqb p.0.class c class)
        (and_from (is_used p.0) (has_room wires p.0) (used-from_taken wires p.0 w.0 (all q p.0 p.1) (sym (is_taken-at pages q w.0 p.0 p.1) ∙ full)) (room-from_free wires p.0 k below (sym (is_taken-at pages q k p.0 p.1) ∙ empty)))

    place_in : (c : ℕ) (place : Place) (new : List Page) → 0 < c → next_page places ≡ length pages → Gives pages new wires c place → IsPlaceIn instrs wires places c place
    place_in c place new pos next gives = ⊎_elim reused added gives.3 where
      reused : IsReused pages new wires c place.page gives.0 → IsPlaceIn instrs wires places c place
      reused r =
          let p = some_at pages place.page (is_open-within wires pages c place.page r.open_page) in
          let class : class_at pages place.page ≡ c = class_at-at pages place.page p.0 p.1 ∙ class-of_open wires pages c place.page p.0 p.1 r.open_page in
          inl (
            gives.0,
            record {
              open_page = open_from place.page c pos r.open_page;
              highest = λ q h open_page. false≢true (sym (r.highest q h) ∙ is_open-from q c pos open_page);
              free = free_from place.page c gives.0 gives.2.within pos class r.free;
              lowest = λ j h. not_free_from place.page c j class (r.lowest j h);
            },
            gives.1,
          )

      added : IsAdded pages new wires c place.page gives.0 → IsPlaceIn instrs wires places c place
      added a =
          let at_0 : place.offset ≡ 0 * c = gives.1 ∙ ap (λ x. x * c) a.first in
          inr ((λ q open_page. false≢true (sym (a.none_open q) ∙ is_open-from q c pos open_page)), a.page ∙ sym next, omega (arith, at_0))

  -- one more instruction, whose result got a place, and then the values that end were freed
  module _ (t : ℕ) (i : Instr) (is : slice_get instrs t ≡ Some i) (places : List Place) (place : Place) (pages mid : List Page) (kept : Kept instrs wires last t places pages) (all : ArePages wires pages) where
    fits : t < length instrs
    fits = slice_get_within instrs t i is

    old_place : (v : ℕ) → v < t → place_of (places ++ place ∷ []) v ≡ place_of places v
    old_place v h = get_or_append_left places (place ∷ []) nowhere v (omega (arith, kept.count))

    new_place : place_of (places ++ place ∷ []) t ≡ place
    new_place = get_or_push places place nowhere t kept.count

    held_after : Held (places ++ place ∷ []) pages (Lives last t)
    held_after = Held-same places (places ++ place ∷ []) pages (Lives last t) (λ v lives. old_place v lives.0) kept.held

    kept_fits : length places ≤ length instrs
    kept_fits = omega (arith, kept.count, fits)

    within_after : (v : ℕ) → Lives last t v → (place_of (places ++ place ∷ []) v).page < length pages
    within_after v lives =
        let d = (taken_below instrs (slice_index last v) v ok (takes_last t v (omega (arith, fits)) lives)).2 in
        let on = kept.on v d.0 lives.0 d.1 d.2 in
        rw (old_place v lives.0) on.0.0

    -- a value that instruction t takes is live before it
    arg_lives : (v : ℕ) → Contains (args_of i) v → Lives last t v
    arg_lives v among =
        let below = (arg_below instrs t v i ok is among).0 in
        (below, (lasts v (omega (arith, fits, below))).none_after t fits (Takes-at instrs t v i is among))

    -- a value that ends at t is among those that t takes
    ends_among : (v : ℕ) → v < t → slice_index last v ≡ t → Contains (args_of i) v
    ends_among v below ends =
        let takes = takes_last t v (omega (arith, fits)) (below, omega (arith, ends)) in
        let w = args-from_Takes instrs t v (subst (λ x. Takes instrs x v) ends takes) in
        subst (λ x. Contains (args_of x) v) (same_instr instrs t w.0 i w.1 is) w.2

    placed_before : (s : ℕ) (j : Instr) → s < t → slice_get instrs s ≡ Some j → IsPlaceOf instrs wires (take s (places ++ place ∷ [])) j (place_of (places ++ place ∷ []) s)
    placed_before s j h at = let front : take s (places ++ place ∷ []) ≡ take s places = take-append-le s places (place ∷ []) (omega (arith, kept.count)) in rw (front, old_place s h) (kept.placed s j h at)

    placed_more : IsPlaceOf instrs wires places i place → (s : ℕ) (j : Instr) → s < t + 1 → slice_get instrs s ≡ Some j → IsPlaceOf instrs wires (take s (places ++ place ∷ [])) j (place_of (places ++ place ∷ []) s)
    placed_more now s j h at = ⊎_elim here (λ ne. placed_before s j (omega arith) at) (cases_eq s t) where
      front : take t (places ++ place ∷ []) ≡ places
      front = take_at places (place ∷ []) t kept.count

      here : s ≡ t → IsPlaceOf instrs wires (take s (places ++ place ∷ [])) j (place_of (places ++ place ∷ []) s)
      here e = let same : i ≡ j = same_instr instrs t i j is (subst (λ x. slice_get instrs x ≡ Some j) e at) in rw (e, front, new_place, ← same) now

    count_more : length (places ++ place ∷ []) ≡ t + 1
    count_more = length_push places place ∙ ap (λ n. n + 1) kept.count

    -- ---- where the instruction has a result
    module _ (has : has_result i.op ≡ true) (pos : 0 < class_of_result i) (gives : Gives pages mid wires (class_of_result i) place) where
      fresh : is_taken pages place.page gives.0 ≡ false
      fresh = ⊎_elim (λ (r : IsReused pages mid wires (class_of_result i) place.page gives.0). r.free) (λ (a : IsAdded pages mid wires (class_of_result i) place.page gives.0). is_taken-past pages place.page gives.0 (omega (arith, a.page))) gives.3

      sizes : (place.page < length mid) × (length pages ≤ length mid) × (length mid ≤ length pages + 1) × (max (length pages) (place.page + 1) ≡ length mid)
      sizes = ⊎_elim reused added gives.3 where
        reused : IsReused pages mid wires (class_of_result i) place.page gives.0 → (place.page < length mid) × (length pages ≤ length mid) × (length mid ≤ length pages + 1) × (max (length pages) (place.page + 1) ≡ length mid)
        reused r = let l = is_open-within wires pages (class_of_result i) place.page r.open_page in (omega (arith, l, r.count), omega (arith, r.count), omega (arith, r.count), omega (arith, l, r.count))

        added : IsAdded pages mid wires (class_of_result i) place.page gives.0 → (place.page < length mid) × (length pages ≤ length mid) × (length mid ≤ length pages + 1) × (max (length pages) (place.page + 1) ≡ length mid)
        added a = (omega (arith, a.page, a.count), omega (arith, a.count), omega (arith, a.count), omega (arith, a.page, a.count))

      held_mid : Held (places ++ place ∷ []) mid (λ v. Lives last t v ⊎ (v ≡ t))
      held_mid = Held-given (places ++ place ∷ []) pages mid (Lives last t) t place new_place held_after within_after wires (class_of_result i) gives.0 pos gives.2 gives.1 fresh

      on_mid : AreOn instrs (places ++ place ∷ []) mid (t + 1)
      on_mid v j h at res = ⊎_elim here there (cases_eq v t) where
        here : v ≡ t → IsOn mid (place_of (places ++ place ∷ []) v) × (class_at mid (place_of (places ++ place ∷ []) v).page ≡ class_of_result j)
        here e =
            let same : i ≡ j = same_instr instrs t i j is (subst (λ x. slice_get instrs x ≡ Some j) e at) in
            rw (e, new_place, ← same) ((sizes.0, gives.0, gives.1 ∙ ap (λ x. gives.0 * x) (sym gives.2.class_of_page)), gives.2.class_of_page)

        there : v ≢ t → IsOn mid (place_of (places ++ place ∷ []) v) × (class_at mid (place_of (places ++ place ∷ []) v).page ≡ class_of_result j)
        there ne =
            let below : v < t = omega arith in
            let o = kept.on v j below at res in
            let class = gives.2.classes (place_of places v).page o.0.0 in
            rw (old_place v below) ((omega (arith, o.0.0, sizes.1), o.0.1, o.0.2 ∙ ap (λ x. o.0.1 * x) (sym class)), class ∙ o.1)

      all_touched : values_touched_by i t ≡ args_of i ++ t ∷ []
      all_touched = ap (λ b. args_of i ++ cond b (t ∷ []) []) has

      only_t : (v : ℕ) → Contains (t ∷ []) v → v ≡ t
      only_t v c = let zeroth : c.0 ≡ 0 = omega (arith, c.1) in sym (subst (λ k. get_or (t ∷ []) k v ≡ v) zeroth c.2)

      known : (v : ℕ) → Contains (values_touched_by i t) v → slice_index last v ≡ t → Lives last t v ⊎ (v ≡ t)
      known v among ends = ⊎_elim (λ c. inl (arg_lives v c)) (λ c. inr (only_t v c)) (Contains-append_cases (args_of i) (t ∷ []) v (rw all_touched at among))

      to_later : (v : ℕ) → (Lives last t v ⊎ (v ≡ t)) × ¬ (Contains (values_touched_by i t) v × (slice_index last v ≡ t)) → Lives last (t + 1) v
      to_later v stays = ⊎_elim before here stays.0 where
        not_here : Contains (values_touched_by i t) v → slice_index last v ≢ t
        not_here c e = stays.1 (c, e)

        before : Lives last t v → Lives last (t + 1) v
        before lives = ⊎_elim (λ e. absurd (not_here (rw all_touched (Contains-append_left (args_of i) (t ∷ []) v (ends_among v lives.0 e))) e)) (λ ne. (omega (arith, lives.0), omega (arith, lives.1, ne))) (cases_eq (slice_index last v) t)

        here : v ≡ t → Lives last (t + 1) v
        here e =
            let own = lasts t fits in
            let late : t ≤ slice_index last t = ⊎_elim (λ u. omega (arith, u)) (λ w. omega (arith, w.0)) own.use_or_own in
            let last_t : Contains (values_touched_by i t) t = rw all_touched (Contains-append_right (args_of i) (t ∷ []) t (0, omega arith, refl)) in
            rw e (⊎_elim (λ u. absurd (not_here (rw e last_t) (rw e u))) (λ ne. (omega arith, omega (arith, late, ne))) (cases_eq (slice_index last t) t))

      from_later : (v : ℕ) → Lives last (t + 1) v → (Lives last t v ⊎ (v ≡ t)) × ¬ (Contains (values_touched_by i t) v × (slice_index last v ≡ t))
      from_later v lives = (⊎_elim (λ e. inr e) (λ ne. inl (omega (arith, lives.0, ne), omega (arith, lives.1))) (cases_eq v t), λ ends. omega (arith, lives.1, ends.1))

      pub values_on : (v : ℕ) → Contains (values_touched_by i t) v → (v < t + 1) × IsOn mid (place_of (places ++ place ∷ []) v)
      values_on v among = ⊎_elim args here (Contains-append_cases (args_of i) (t ∷ []) v (rw all_touched at among)) where
        args : Contains (args_of i) v → (v < t + 1) × IsOn mid (place_of (places ++ place ∷ []) v)
        args c = let b = arg_below instrs t v i ok is c in let below : v < t + 1 = omega (arith, b.0) in (below, (on_mid v b.1.0 below b.1.1 b.1.2).0)

        here : Contains (t ∷ []) v → (v < t + 1) × IsOn mid (place_of (places ++ place ∷ []) v)
        here c = let e = only_t v c in let below : v < t + 1 = omega (arith, e) in (below, (on_mid v i below (subst (λ x. slice_get instrs x ≡ Some i) (sym e) is) has).0)

      pub Kept-result : (new : List Page) → FreesEnded mid new (places ++ place ∷ []) last t (values_touched_by i t) → Kept instrs wires last (t + 1) (places ++ place ∷ []) new
      Kept-result new frees = record {
        count = count_more;
        few = omega (arith, frees.count, sizes.2, kept.few);
        next = next_page-push places place ∙ ap (λ n. max n (place.page + 1)) kept.next ∙ sizes.3 ∙ sym frees.count;
        on = λ v j h at res. let o = on_mid v j h at res in let p = place_of (places ++ place ∷ []) v in (IsOn-moved mid new p frees.count frees.classes o.0, frees.classes p.page ∙ o.1);
        held = Held-iff (places ++ place ∷ []) new _ (Lives last (t + 1)) to_later from_later
            (Held-freed (places ++ place ∷ []) mid new (λ v. Lives last t v ⊎ (v ≡ t)) held_mid last t (values_touched_by i t) frees known
            (λ q j v. any_finds (ends_at mid (places ++ place ∷ []) last t q j) (values_touched_by i t) v) (λ q j. any_found (ends_at mid (places ++ place ∷ []) last t q j) (values_touched_by i t)));
        placed = placed_more (record {
          with_result = λ yes. place_in places pages kept_fits (subst (λ n. Held places pages (Lives last n)) (sym kept.count) kept.held) (subst (AreOn instrs places pages) (sym kept.count) kept.on) all (class_of_result i) place mid pos kept.next gives;
          without = λ no. absurd (false≢true (sym no ∙ has));
        });
      }

    -- ---- where it has none
    module _ (none : has_result i.op ≡ false) (at_nowhere : place ≡ nowhere) (same_pages : mid ≡ pages) where
      only_args : values_touched_by i t ≡ args_of i
      only_args = ap (λ b. args_of i ++ cond b (t ∷ []) []) none ∙ append-nil (args_of i)

      to_next : (v : ℕ) → Lives last t v × ¬ (Contains (values_touched_by i t) v × (slice_index last v ≡ t)) → Lives last (t + 1) v
      to_next v stays = ⊎_elim (λ e. absurd (stays.1 (rw only_args (ends_among v stays.0.0 e), e))) (λ ne. (omega (arith, stays.0.0), omega (arith, stays.0.1, ne))) (cases_eq (slice_index last v) t)

      from_next : (v : ℕ) → Lives last (t + 1) v → Lives last t v × ¬ (Contains (values_touched_by i t) v × (slice_index last v ≡ t))
      from_next v lives = (⊎_elim here (λ ne. (omega (arith, lives.0, ne), omega (arith, lives.1))) (cases_eq v t), λ ends. omega (arith, lives.1, ends.1)) where
        here : v ≡ t → Lives last t v
        here e =
            let d = (taken_below instrs (slice_index last v) v ok (takes_last (t + 1) v (omega (arith, fits)) lives)).2 in
            let same : d.0 ≡ i = same_instr instrs t d.0 i (subst (λ x. slice_get instrs x ≡ Some d.0) e d.1) is in
            absurd (false≢true (sym none ∙ ap (λ (x : Instr). has_result x.op) (sym same) ∙ d.2))

      some_page : 0 < length pages
      some_page =
          let takes = takes_without_result i.op none in
          let fact = (sound_at instrs t i ok is).1 0 takes in
          let d = some_and (slice_get instrs (arg_of i 0)) _ fact.1 in
          let on = kept.on (arg_of i 0) d.0 fact.0 d.1 d.2.0 in
          omega (arith, on.0.0)

      pub values_on_none : (v : ℕ) → Contains (values_touched_by i t) v → (v < t + 1) × IsOn mid (place_of (places ++ place ∷ []) v)
      values_on_none v among =
          let b = arg_below instrs t v i ok is (rw only_args at among) in
          let o = kept.on v b.1.0 b.0 b.1.1 b.1.2 in
          (omega (arith, b.0), rw (old_place v b.0) (subst (λ ps. IsOn ps (place_of places v)) (sym same_pages) o.0))

      pub Kept-none : (new : List Page) → FreesEnded mid new (places ++ place ∷ []) last t (values_touched_by i t) → Kept instrs wires last (t + 1) (places ++ place ∷ []) new
      Kept-none new frees =
          let size : length new ≡ length pages = frees.count ∙ ap length same_pages in
          let grown : next_page (places ++ place ∷ []) ≡ max (length pages) (0 + 1) = next_page-push places place ∙ ap (λ n. max n (place.page + 1)) kept.next ∙ ap (λ (p : Place). max (length pages) (p.page + 1)) at_nowhere in
          record {
            count = count_more;
            few = omega (arith, size, kept.few);
            next = omega (arith, grown, size, some_page);
            on = λ v j h at res. ⊎_elim (λ e. absurd (false≢true (sym none ∙ ap (λ (x : Instr). has_result x.op) (same_instr instrs t i j is (subst (λ x. slice_get instrs x ≡ Some j) e at)) ∙ res)))
                (λ ne. let below : v < t = omega (arith, h, ne) in let o = kept.on v j below at res in let p = place_of places v in
                rw (old_place v below) (IsOn-moved pages new p size (λ q. frees.classes q ∙ ap (λ ps. class_at ps q) same_pages) o.0, frees.classes p.page ∙ ap (λ ps. class_at ps p.page) same_pages ∙ o.1)) (cases_eq v t);
            held = Held-iff (places ++ place ∷ []) new _ (Lives last (t + 1)) to_next from_next
                (Held-freed (places ++ place ∷ []) mid new (Lives last t) (subst (λ ps. Held (places ++ place ∷ []) ps (Lives last t)) (sym same_pages) held_after) last t (values_touched_by i t) frees
                (λ v c e. arg_lives v (rw only_args at c))
                (λ q j v. any_finds (ends_at mid (places ++ place ∷ []) last t q j) (values_touched_by i t) v) (λ q j. any_found (ends_at mid (places ++ place ∷ []) last t q j) (values_touched_by i t)));
            placed = placed_more (record { with_result = λ yes. absurd (false≢true (sym none ∙ yes)); without = λ no. at_nowhere });
          }

    -- either way
    module _ (pos : 0 < class_of_result i) (given : MatchBool (has_result i.op) (Gives pages mid wires (class_of_result i) place) ((mid ≡ pages) × (place ≡ nowhere))) where
      pub values_more : (v : ℕ) → Contains (values_touched_by i t) v → (v < t + 1) × IsOn mid (place_of (places ++ place ∷ []) v)
      values_more v among = ⊎_elim
          (λ has. values_on has pos (MatchBool-at_true (Gives pages mid wires (class_of_result i) place) ((mid ≡ pages) × (place ≡ nowhere)) has given) v among)
          (λ none. let g = MatchBool-at_false (Gives pages mid wires (class_of_result i) place) ((mid ≡ pages) × (place ≡ nowhere)) none given in values_on_none none g.1 g.0 v among)
          (cases_Bool (has_result i.op))

      pub Kept-more : (new : List Page) → FreesEnded mid new (places ++ place ∷ []) last t (values_touched_by i t) → Kept instrs wires last (t + 1) (places ++ place ∷ []) new
      Kept-more new frees = ⊎_elim
          (λ has. Kept-result has pos (MatchBool-at_true (Gives pages mid wires (class_of_result i) place) ((mid ≡ pages) × (place ≡ nowhere)) has given) new frees)
          (λ none. let g = MatchBool-at_false (Gives pages mid wires (class_of_result i) place) ((mid ≡ pages) × (place ≡ nowhere)) none given in Kept-none none g.1 g.0 new frees)
          (cases_Bool (has_result i.op))

-- what a pool gave, by its pages
pub given_pages : (b : Bool) (old new : Pool) (wires c : ℕ) (place : Place) → old.wires ≡ wires → MatchBool b (Gives old.pages.items new.pages.items old.wires c place) ((new ≡ old) × (place ≡ nowhere)) → MatchBool b (Gives old.pages.items new.pages.items wires c place) ((new.pages.items ≡ old.pages.items) × (place ≡ nowhere))
given_pages true old new wires c place e h = subst (λ w. Gives old.pages.items new.pages.items w c place) e h
given_pages false old new wires c place e h = (ap (λ (p : Pool). p.pages.items) h.0, h.1)

pos_cond : (b : Bool) (x y : ℕ) → 0 < x → 0 < y → 0 < cond b x y
pos_cond true x y h l = h
pos_cond false x y h l = l

pub class_pos : (w : ℕ) → 0 < class_of_width w
class_pos w = pos_cond (leb w 1) 1 _ (omega arith) (pos_cond (leb w 2) 2 _ (omega arith) (pos_cond (leb w 4) 4 _ (omega arith) (pos_cond (leb w 8) 8 _ (omega arith) (pos_cond (leb w 16) 16 _ (omega arith) (pos_cond (leb w 32) 32 _ (omega arith) (pos_cond (leb w 64) 64 128 (omega arith) (omega arith)))))))

pub page_bounds : (page : ℕ) → IsPageSize page → (64 ≤ page) × (page ≤ 65536)
page_bounds page size =
    let low : 64 ≤ 2 ^ size.0 = pow_mono {i = 6} size.1 in
    let high : 2 ^ size.0 ≤ 65536 = pow_mono {j = 16} size.2 in
    (omega (arith, low, size.3), omega (arith, high, size.3))

IfSome-from_ForSome : {X : Type 0} (o : Option X) (P : X → Type 0) → ((x : X) → o ≡ Some x → P x) → IfSome o P
IfSome-from_ForSome None P h = tt
IfSome-from_ForSome (Some x) P h = h x refl

pub ArePlaces-from_Kept : (instrs : List Instr) (wires : ℕ) (last : List ℕ) (t : ℕ) (places : List Place) (pages : List Page) → t ≡ length instrs → Kept instrs wires last t places pages → ArePlaces instrs wires places
ArePlaces-from_Kept instrs wires last t places pages whole kept = record {
  count = kept.count ∙ whole;
  each = λ s. IfSome-from_ForSome (slice_get instrs s) _ (λ i at. let within = slice_get_within instrs s i at in kept.placed s i (omega (arith, within, whole)) at);
}
