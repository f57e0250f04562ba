-- The rule brings in the pages of a step, and its list says so.
use Rattle.std.proofs.Common.{◌≡◌, ◌<◌, ◌≤◌, ◌+◌, ◌&&◌, ℕ, zero, suc, List, [], ◌∷◌, ◌++◌, Bool, true, false, not, cond, length, get_or, set, nat_eq, nat_lt, refl, sym, ◌∙◌, ap, arith, ⊎_elim, append_assoc}
use Rattle.std.specs.List.{filter}
use Rattle.std.proofs.lemmas.Bool.{false≢true, ltb-true, ltb-false, lt-ltb, le-ltb}
use Rattle.mage_instr.specs.declared.instr.TheConstants.{NEVER}
use Rattle.mage_instr.specs.declared.replaced.Replaced.{Replaced}
use Rattle.mage_instr.specs.declared.replaced.Replaced.TheVariants as entry
use Rattle.mage_belady.specs.Plan.{is_in, AreDistinct, how_many}
use Rattle.mage_belady.specs.Rule.{Held, Moved, resident, victim_of, frame_of, entering, brought_in, all_brought_in, loads_of, taken, sets_from}
use Rattle.mage_belady.proofs.Counts.{one, is_in-here, is_in-cons, is_in-tail, is_in-head}
use Rattle.mage_belady.proofs.Sets.{is_in-set_same, is_in-set_other, is_in-push_old, is_in-push_new, frame_of-within, frame_of-has}
use Rattle.mage_belady.proofs.Going.{Going, goes_free, goes_full, some_outside, Leaves, Leaves-victim_of}

pub loads_of-append : (a b : List Replaced) → loads_of (a ++ b) ≡ loads_of a + loads_of b
loads_of-append [] b = omega arith
loads_of-append (entry.Fresh f p ∷ a) b = loads_of-append a b
loads_of-append (entry.Load f p ∷ a) b = let rest = loads_of-append a b in omega (arith, rest)
loads_of-append (entry.Save f p ∷ a) b = loads_of-append a b
loads_of-append (entry.Do j ∷ a) b = loads_of-append a b

loads_of-entering : (seen : List ℕ) (f p : ℕ) (tail : List Replaced) → loads_of (entering seen f p ∷ tail) ≡ one (is_in p seen) + loads_of tail
loads_of-entering seen f p tail = go (is_in p seen) where
  go : (b : Bool) → loads_of (cond b (entry.Load f p) (entry.Fresh f p) ∷ tail) ≡ one b + loads_of tail
  go true = refl
  go false = omega arith

sets_from-entering : (memory seen : List ℕ) (f p : ℕ) (tail : List Replaced) → sets_from memory (entering seen f p ∷ tail) ≡ sets_from (taken f p memory) tail
sets_from-entering memory seen f p tail = go (is_in p seen) where
  go : (b : Bool) → sets_from memory (cond b (entry.Load f p) (entry.Fresh f p) ∷ tail) ≡ sets_from (taken f p memory) tail
  go true = refl
  go false = refl

loads_of-saving : (b : Bool) (f v : ℕ) (e : Replaced) → loads_of (cond b (entry.Save f v ∷ []) [] ++ e ∷ []) ≡ loads_of (e ∷ [])
loads_of-saving true f v e = refl
loads_of-saving false f v e = refl

sets_from-saving : (memory : List ℕ) (b : Bool) (f v : ℕ) (e : Replaced) (tail : List Replaced) → sets_from memory ((cond b (entry.Save f v ∷ []) [] ++ e ∷ []) ++ tail) ≡ sets_from memory (e ∷ tail)
sets_from-saving memory true f v e tail = refl
sets_from-saving memory false f v e tail = refl

pub resident-set : (held : List Held) (f : ℕ) (h : Held) → resident (set held f h) ≡ set (resident held) f h.page
resident-set [] f h = refl
resident-set (x ∷ held) zero h = refl
resident-set (x ∷ held) (suc f) h = ap (λ ps. x.page ∷ ps) (resident-set held f h)

pub resident-push : (held : List Held) (h : Held) → resident (held ++ h ∷ []) ≡ resident held ++ h.page ∷ []
resident-push [] h = refl
resident-push (x ∷ held) h = ap (λ ps. x.page ∷ ps) (resident-push held h)

pub length-resident : (held : List Held) → length (resident held) ≡ length held
length-resident [] = refl
length-resident (x ∷ held) = ap suc (length-resident held)

-- what holds once some pages of the step came in
pub record Came (frames : ℕ) (next : ℕ → ℕ) (seen S R todo : List ℕ) (loads : ℕ) (held : List Held) (moved : Moved) : Type 0 where
  pub going : Going frames S R (λ x. is_in x seen) next (resident moved.held) (loads + loads_of moved.entries)
  pub few : loads_of moved.entries ≤ how_many (λ x. is_in x seen && not (is_in x R)) todo
  pub sets : (tail : List Replaced) → sets_from (resident held) (moved.entries ++ tail) ≡ sets_from (resident moved.held) tail
  pub has : (q : ℕ) → is_in q todo ≡ true → is_in q (resident moved.held) ≡ true
  pub stays : (q : ℕ) → is_in q (resident held) ≡ true → is_in q S ≡ true → is_in q (resident moved.held) ≡ true

only : (x p : ℕ) → is_in x (p ∷ []) ≡ true → x ≡ p
only x p m = ⊎_elim (λ e. e) (λ k. absurd (false≢true k)) (is_in-cons x p [] m)

module _ (frames : ℕ) (next : ℕ → ℕ) (seen S R : List ℕ) (few_pages : length S ≤ frames) where
  -- a page that was not there before the step
  new_one : (p : ℕ) → is_in p R ≡ false → how_many (λ x. is_in x seen && not (is_in x R)) (p ∷ []) ≡ one (is_in p seen)
  new_one p h = go (is_in p seen) (is_in p R) h where
    go : (a b : Bool) → b ≡ false → one (a && not b) + 0 ≡ one a
    go true true e = absurd (false≢true (sym e))
    go true false e = refl
    go false b e = refl

  not_before : (p : ℕ) (held : List Held) (loads : ℕ) → Going frames S R (λ x. is_in x seen) next (resident held) loads → is_in p S ≡ true → is_in p (resident held) ≡ false → is_in p R ≡ false
  not_before p held loads g needed missing = go (is_in p R) refl where
    go : (b : Bool) → is_in p R ≡ b → is_in p R ≡ false
    go true e = absurd (false≢true (sym missing ∙ g.kept p e needed))
    go false e = e

  module _ (held : List Held) (loads p : ℕ) (g : Going frames S R (λ x. is_in x seen) next (resident held) loads) (needed : is_in p S ≡ true) (missing : is_in p (resident held) ≡ false) where
    last : Held
    last = record { page = p; dirty = false }

    free : length held < frames → Came frames next seen S R (p ∷ []) loads held (record { entries = entering seen (length held) p ∷ []; held = held ++ record { page = p; dirty = false } ∷ [] })
    free room =
        let now = resident held in
        let pushed = resident-push held (record { page = p; dirty = false }) in
        let one_load = loads_of-entering seen (length held) p [] in
        let long = length-resident held in
        let first_free : nat_lt (length held) (length now) ≡ false = le-ltb (length held) (length now) (omega (arith, long)) in
        let room' : length now < frames = omega (arith, room, long) in
        let size : loads + loads_of (entering seen (length held) p ∷ []) ≡ loads + one (is_in p seen) = omega (arith, one_load) in
        record {
          going = rw (pushed, size) (goes_free frames S R (λ x. is_in x seen) next now loads p g needed missing room');
          few = let n = new_one p (not_before p held loads g needed missing) in omega (arith, one_load, n);
          sets = λ tail. sets_from-entering now seen (length held) p tail ∙ ap (λ b. sets_from (cond b (set now (length held) p) (now ++ p ∷ [])) tail) first_free ∙ ap (λ m. sets_from m tail) (sym pushed);
          has = λ q m. rw (pushed, only q p m) (is_in-push_new now p);
          stays = λ q m s. rw pushed (is_in-push_old q now p m);
        }

    full : (v : ℕ) → frames ≤ length held → Leaves S (resident held) next v → (b : Bool) → Came frames next seen S R (p ∷ []) loads held (record {
      entries = cond b (entry.Save (frame_of v (resident held)) v ∷ []) [] ++ entering seen (frame_of v (resident held)) p ∷ [];
      held = set held (frame_of v (resident held)) (record { page = p; dirty = false });
    })
    full v no_room leaves b =
        let now = resident held in
        let f = frame_of v now in
        let put = resident-set held f (record { page = p; dirty = false }) in
        let one_load = loads_of-entering seen f p [] in
        let save = loads_of-saving b f v (entering seen f p) in
        let long = length-resident held in
        let within = frame_of-within v now leaves.here in
        let at = frame_of-has v now leaves.here in
        let in_use : nat_lt f (length now) ≡ true = lt-ltb f (length now) within in
        let no_room' : frames ≤ length now = omega (arith, no_room, long) in
        let size : loads + loads_of (cond b (entry.Save f v ∷ []) [] ++ entering seen f p ∷ []) ≡ loads + one (is_in p seen) = omega (arith, one_load, save) in
        let outside : is_in (get_or now f 0) S ≡ false = ap (λ x. is_in x S) at ∙ leaves.outside in
        record {
          going = rw (put, size) (goes_full frames S R (λ x. is_in x seen) next now loads p g needed missing f no_room' within outside (λ x m n. rw at (leaves.latest x m n)));
          few = let n = new_one p (not_before p held loads g needed missing) in omega (arith, one_load, save, n);
          sets = λ tail. sets_from-saving now b f v (entering seen f p) tail ∙ sets_from-entering now seen f p tail ∙ ap (λ c. sets_from (cond c (set now f p) (now ++ p ∷ [])) tail) in_use ∙ ap (λ m. sets_from m tail) (sym put);
          has = λ q m. rw (put, only q p m) (is_in-set_same now f p within);
          stays = λ q m s. rw put (is_in-set_other q now f p m (λ e. false≢true (sym outside ∙ ap (λ x. is_in x S) (sym e) ∙ s)));
        }

    pub came_one : Came frames next seen S R (p ∷ []) loads held (brought_in frames next seen S held p)
    came_one = go (nat_lt (length held) frames) refl where
      v : ℕ
      v = victim_of next (filter (λ q. not (is_in q S)) (resident held))

      go : (b : Bool) → nat_lt (length held) frames ≡ b → Came frames next seen S R (p ∷ []) loads held (cond b
          (record { entries = entering seen (length held) p ∷ []; held = held ++ record { page = p; dirty = false } ∷ [] })
          (record {
            entries = cond ((get_or held (frame_of (victim_of next (filter (λ q. not (is_in q S)) (resident held))) (resident held)) (record { page = 0; dirty = false })).dirty && not (nat_eq (next (victim_of next (filter (λ q. not (is_in q S)) (resident held)))) NEVER)) (entry.Save (frame_of (victim_of next (filter (λ q. not (is_in q S)) (resident held))) (resident held)) (victim_of next (filter (λ q. not (is_in q S)) (resident held))) ∷ []) [] ++ entering seen (frame_of (victim_of next (filter (λ q. not (is_in q S)) (resident held))) (resident held)) p ∷ [];
            held = set held (frame_of (victim_of next (filter (λ q. not (is_in q S)) (resident held))) (resident held)) (record { page = p; dirty = false });
          }))
      go true e = free (ltb-true (length held) frames e)
      go false e =
          let no_room = ltb-false (length held) frames e in
          let long = length-resident held in
          let no_room' : frames ≤ length (resident held) = omega (arith, no_room, long) in
          full _ no_room (Leaves-victim_of S (resident held) next (some_outside frames S (resident held) p g.distinct needed missing few_pages no_room')) _

  -- each page of the step in turn
  pub came_all : (todo : List ℕ) (held : List Held) (loads : ℕ) → ((q : ℕ) → is_in q todo ≡ true → is_in q S ≡ true) → Going frames S R (λ x. is_in x seen) next (resident held) loads → Came frames next seen S R todo loads held (all_brought_in frames next seen S todo held)
  came_all [] held loads within g = record {
    going = (let e : loads + 0 ≡ loads = omega arith in rw e g);
    few = omega arith;
    sets = λ tail. refl;
    has = λ q m. absurd (false≢true m);
    stays = λ q m s. m;
  }
  came_all (p ∷ todo) held loads within g = go (is_in p (resident held)) refl (λ h n. came_all todo h n (λ q m. within q (is_in-tail q p todo m))) where
    needed : is_in p S ≡ true
    needed = within p (is_in-head p todo)

    after : (moved rest : Moved) → Came frames next seen S R (p ∷ []) loads held moved → Came frames next seen S R todo (loads + loads_of moved.entries) moved.held rest → Came frames next seen S R (p ∷ todo) loads held (record { entries = moved.entries ++ rest.entries; held = rest.held })
    after moved rest c r =
        let sum = loads_of-append moved.entries rest.entries in
        let e : loads + loads_of (moved.entries ++ rest.entries) ≡ loads + loads_of moved.entries + loads_of rest.entries = omega (arith, sum) in
        record {
          going = rw e r.going;
          few = let a = c.few in let b = r.few in omega (arith, a, b, sum);
          sets = λ tail. ap (sets_from (resident held)) (append_assoc moved.entries rest.entries tail) ∙ c.sets (rest.entries ++ tail) ∙ r.sets tail;
          has = λ q m. ⊎_elim (λ s. r.stays q (c.has q (is_in-here q p [] s)) (rw s needed)) (λ k. r.has q k) (is_in-cons q p todo m);
          stays = λ q m s. r.stays q (c.stays q m s) s;
        }

    go : (b : Bool) → is_in p (resident held) ≡ b → ((h : List Held) (n : ℕ) → Going frames S R (λ x. is_in x seen) next (resident h) n → Came frames next seen S R todo n h (all_brought_in frames next seen S todo h))
        → Came frames next seen S R (p ∷ todo) loads held (record {
          entries = (cond b (record { entries = []; held = held }) (brought_in frames next seen S held p)).entries ++ (all_brought_in frames next seen S todo (cond b (record { entries = []; held = held }) (brought_in frames next seen S held p)).held).entries;
          held = (all_brought_in frames next seen S todo (cond b (record { entries = []; held = held }) (brought_in frames next seen S held p)).held).held;
        })
    go true e rest =
        let r = rest held loads g in
        record {
          going = r.going;
          few = let a = r.few in omega (arith, a);
          sets = r.sets;
          has = λ q m. ⊎_elim (λ s. rw s (r.stays p e needed)) (λ k. r.has q k) (is_in-cons q p todo m);
          stays = r.stays;
        }
    go false e rest =
        let c = came_one held loads p g needed e in
        after (brought_in frames next seen S held p) (all_brought_in frames next seen S todo (brought_in frames next seen S held p).held) c (rest (brought_in frames next seen S held p).held (loads + loads_of (brought_in frames next seen S held p).entries) c.going)

  -- a page that is missing has a frame to come into
  pub victim-within : (held : List Held) (p : ℕ) → AreDistinct (resident held) → is_in p S ≡ true → is_in p (resident held) ≡ false → frames ≤ length held → frame_of (victim_of next (filter (λ q. not (is_in q S)) (resident held))) (resident held) < length held
  victim-within held p d needed missing full =
      let long = length-resident held in
      let full' : frames ≤ length (resident held) = omega (arith, long, full) in
      let leaves = Leaves-victim_of S (resident held) next (some_outside frames S (resident held) p d needed missing few_pages full') in
      let within = frame_of-within _ (resident held) leaves.here in
      omega (arith, within, long)
