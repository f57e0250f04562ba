-- No plan of residency reads fewer pages than the rule's list loads, and the list's own sets read as many.
use Rattle.std.proofs.Common.{◌≡◌, ◌≤◌, ◌+◌, ◌&&◌, ◌||◌, ◌⊎◌, ℕ, zero, suc, List, [], ◌∷◌, ◌++◌, Bool, true, false, cond, length, get_or, set, nat_eq, inl, inr, refl, sym, ◌∙◌, ap, arith, ⊎_elim}
use Rattle.std.specs.List.{list_all}
use Rattle.std.proofs.lemmas.Bool.{false≢true, and_parts, eqb-true}
use Rattle.std.proofs.lemmas.List.Folds.{list_any-append}
use Rattle.mage_instr.specs.declared.instr.TheConstants.{NEVER}
use Rattle.mage_instr.specs.declared.instr.Instr.{Instr}
use Rattle.mage_instr.specs.declared.instr.Place.{Place}
use Rattle.mage_instr.specs.declared.instr.Step.{Step}
use Rattle.mage_instr.specs.declared.replaced.Replaced.{Replaced}
use Rattle.mage_instr.specs.declared.replaced.Replaced.TheVariants as entry
use Rattle.mage_instr.specs.Trace.{pages_of}
use Rattle.mage_instr.specs.Opcodes.{has_result}
use Rattle.mage_next.specs.Next.{first_use}
use Rattle.mage_belady.specs.Plan.{is_in, AreDistinct, how_many, Holds, Serves, comes_back, reads_from, reads_of}
use Rattle.mage_belady.specs.Rule.{Held, Moved, resident, frame_of, all_brought_in, job_in, written, rule_from, rule_of, loads_of, sets_from, sets_of, pages_by_step}
use Rattle.mage_belady.proofs.Counts.{is_in-cons, is_in-tail, is_in-head, how_many-more, how_many-none}
use Rattle.mage_belady.proofs.Potential.{step_after}
use Rattle.mage_belady.proofs.Going.{starts, IsEarly}
use Rattle.mage_belady.proofs.Bringing.{Came, came_all, loads_of-append, resident-set}

-- whether one of the next k steps has a page
pub used : (k : ℕ) → List Step → ℕ → Bool
used zero steps p = false
used (suc k) [] p = false
used (suc k) (step ∷ steps) p = is_in p (pages_of step) || used k steps p

used_none : (steps : List Step) (p : ℕ) → used zero steps p ≡ false
unfolding used
used_none steps p = refl

used_one : (step : Step) (steps : List Step) (p : ℕ) → used (suc zero) (step ∷ steps) p ≡ (is_in p (pages_of step) || false)
unfolding used
used_one step steps p = refl

first_use-from : (steps : List Step) (n p : ℕ) → n + length steps ≤ NEVER → n ≤ first_use steps n p
first_use-from [] n p h = omega arith
first_use-from (step ∷ steps) n p h = go (is_in p (pages_of step)) (first_use-from steps (n + 1) p (omega arith)) where
  go : (b : Bool) → n + 1 ≤ first_use steps (n + 1) p → n ≤ cond b n (first_use steps (n + 1) p)
  go true rest = omega arith
  go false rest = omega arith

early : (steps : List Step) (n k : ℕ) → n + length steps ≤ NEVER → IsEarly (first_use steps n) (used k steps)
unfolding used
early steps n zero h p q l u = u
early [] n (suc k) h p q l u = u
early (step ∷ steps) n (suc k) h p q l u = go (is_in p (pages_of step)) (is_in q (pages_of step)) (early steps (n + 1) k (omega arith) p q) (first_use-from steps (n + 1) q (omega arith)) l u where
  go : (a b : Bool) → (first_use steps (n + 1) q ≤ first_use steps (n + 1) p → used k steps p ≡ true → used k steps q ≡ true) → n + 1 ≤ first_use steps (n + 1) q
      → cond b n (first_use steps (n + 1) q) ≤ cond a n (first_use steps (n + 1) p) → (a || used k steps p) ≡ true → (b || used k steps q) ≡ true
  go a true rest from l u = refl
  go true false rest from l u = absurd (omega arith)
  go false false rest from l u = rest l u

-- the pages of each step differ, and fit the frames
abbrev pub AllFit : (frames : ℕ) → List Step → Type 0
AllFit frames [] = Unit {0}
AllFit frames (step ∷ steps) = AreDistinct (pages_of step) × (length (pages_of step) ≤ frames) × AllFit frames steps

list_all-each : (xs ys : List ℕ) → list_all (λ page. is_in page ys) xs ≡ true → (q : ℕ) → is_in q xs ≡ true → is_in q ys ≡ true
list_all-each [] ys h q m = absurd (false≢true m)
list_all-each (x ∷ xs) ys h q m =
    let both = and_parts (is_in x ys) (list_all (λ page. is_in page ys) xs) h in
    ⊎_elim (λ e. ap (λ y. is_in y ys) e ∙ both.0) (λ k. list_all-each xs ys both.1 q k) (is_in-cons q x xs m)

list_all-from_each : (xs ys : List ℕ) → ((q : ℕ) → is_in q xs ≡ true → is_in q ys ≡ true) → list_all (λ page. is_in page ys) xs ≡ true
list_all-from_each [] ys h = refl
list_all-from_each (x ∷ xs) ys h = rw (h x (is_in-head x xs)) (list_all-from_each xs ys (λ q m. h q (is_in-tail q x xs m)))

set-frame_of : (page : ℕ) (xs : List ℕ) → set xs (frame_of page xs) page ≡ xs
set-frame_of page [] = refl
set-frame_of page (x ∷ xs) = go (nat_eq page x) refl (set-frame_of page xs) where
  more : (n : ℕ) → set (x ∷ xs) (n + 1) page ≡ x ∷ set xs n page
  more n = (let e : n + 1 ≡ suc n = omega arith in ap (λ m. set (x ∷ xs) m page) e)

  go : (b : Bool) → nat_eq page x ≡ b → set xs (frame_of page xs) page ≡ xs → set (x ∷ xs) (cond b 0 (frame_of page xs + 1)) page ≡ x ∷ xs
  go true e rest = ap (λ y. y ∷ xs) (eqb-true page x e)
  go false e rest = more (frame_of page xs) ∙ ap (λ ys. x ∷ ys) rest

resident-written : (page : ℕ) (held : List Held) → resident (written page held) ≡ resident held
resident-written page held = resident-set held (frame_of page (resident held)) (record { page = page; dirty = true }) ∙ set-frame_of page (resident held)

pub resident-after : (b : Bool) (page : ℕ) (held : List Held) → resident (cond b (written page held) held) ≡ resident held
resident-after true page held = resident-written page held
resident-after false page held = refl

seen_more : (x : ℕ) (seen pages : List ℕ) → (is_in x seen ≡ true) ⊎ (is_in x pages ≡ true) → is_in x (seen ++ pages) ≡ true
seen_more x seen pages h = list_any-append (nat_eq x) seen pages ∙ ⊎_elim (λ e. rw e refl) (λ e. go (is_in x seen) (is_in x pages) e) h where
  go : (a b : Bool) → b ≡ true → (a || b) ≡ true
  go true b e = refl
  go false b e = e

same_count : (seen pages : List ℕ) (w : ℕ → Bool) (xs : List ℕ) → how_many (λ x. is_in x (seen ++ pages) && w x) xs ≤ how_many (λ x. (is_in x seen || is_in x pages) && w x) xs
same_count seen pages w xs = how_many-more _ _ xs (λ x. rw (list_any-append (nat_eq x) seen pages) (omega arith))

module _ (frames : ℕ) (places : List Place) where
  -- what holds of the rule's frames before a step
  pub record Ready (seen : List ℕ) (held : List Held) : Type 0 where
    pub distinct : AreDistinct (resident held)
    pub fits : length (resident held) ≤ frames
    pub known : (x : ℕ) → is_in x (resident held) ≡ true → is_in x seen ≡ true

  pub came : (t : ℕ) (seen : List ℕ) (held : List Held) (step : Step) (steps : List Step) → Ready seen held → length (pages_of step) ≤ frames
      → Came frames (first_use steps (t + 1)) seen (pages_of step) (resident held) (pages_of step) 0 held (all_brought_in frames (first_use steps (t + 1)) seen (pages_of step) (pages_of step) held)
  came t seen held step steps ready few = came_all frames (first_use steps (t + 1)) seen (pages_of step) (resident held) few (pages_of step) held 0 (λ q m. m) (starts frames (pages_of step) (resident held) (λ x. is_in x seen) (first_use steps (t + 1)) ready.distinct ready.fits)

  pub after_ready : (next : ℕ → ℕ) (seen pages : List ℕ) (held : List Held) (moved : Moved) (b : Bool) (page : ℕ) → Ready seen held → Came frames next seen pages (resident held) pages 0 held moved → Ready (seen ++ pages) (cond b (written page moved.held) moved.held)
  after_ready next seen pages held moved b page ready c = rebuilt (sym (resident-after b page moved.held)) where
    rebuilt : resident moved.held ≡ resident (cond b (written page moved.held) moved.held) → Ready (seen ++ pages) (cond b (written page moved.held) moved.held)
    rebuilt e = record {
      distinct = rw (← e) c.going.distinct;
      fits = rw (← e) c.going.fits;
      known = λ x m. seen_more x seen pages (⊎_elim (λ r. inl (ready.known x r)) inr (c.going.from x (rw (← e) at m)));
    }

  -- the potential before a step, and after it
  next_potential : (step : Step) (steps : List Step) (i : Instr) (set : List ℕ) (t loads reads : ℕ) (seen before : List ℕ) (held : List Held) (moved : Moved) (page : ℕ) (b : Bool)
      → AllFit frames (step ∷ steps) → t + 1 + length steps ≤ NEVER → Ready seen held → Holds set (pages_of step) frames
      → Came frames (first_use steps (t + 1)) seen (pages_of step) (resident held) (pages_of step) 0 held moved
      → ((k : ℕ) → loads + how_many (λ x. is_in x seen && used k (step ∷ steps) x) before ≤ reads + how_many (used k (step ∷ steps)) (resident held))
      → (k : ℕ) → loads + loads_of moved.entries + how_many (λ x. is_in x (seen ++ pages_of step) && used k steps x) set ≤ reads + how_many (comes_back seen before) set + how_many (used k steps) (resident (cond b (written page moved.held) moved.held))
  unfolding used
  next_potential step steps i set t loads reads seen before held moved page b fit short ready holds c inv k =
      let more = step_after (pages_of step) (resident held) before set (λ x. is_in x seen) loads reads fit.0 ready.distinct holds.distinct ready.known (list_all-each (pages_of step) set holds.has)
      (resident moved.held) frames (loads_of moved.entries) c.going.distinct c.has holds.fits c.few
      (used k steps) (c.going.fair (used k steps) (early steps (t + 1) k short)) (inv (suc zero)) (inv (suc k)) in
      let same = same_count seen (pages_of step) (used k steps) set in
      rw (resident-after b page moved.held) (omega (arith, more, same))

  -- the loads are no more than the reads of any plan that serves
  pub loads-le-reads : (steps : List Step) (instrs : List Instr) (plan : List (List ℕ)) (t loads reads : ℕ) (seen before : List ℕ) (held : List Held)
      → AllFit frames steps → t + length steps ≤ NEVER → Ready seen held → Serves plan (pages_by_step steps) frames
      → ((k : ℕ) → loads + how_many (λ x. is_in x seen && used k steps x) before ≤ reads + how_many (used k steps) (resident held))
      → loads + loads_of (rule_from frames places t seen held instrs steps) ≤ reads + reads_from seen before plan (pages_by_step steps)
  loads-le-reads [] [] [] t loads reads seen before held fit short ready serves inv =
      let none = how_many-none (used zero []) (resident held) (used_none []) in let h = inv zero in omega (arith, none, h)
  loads-le-reads [] (i ∷ instrs) [] t loads reads seen before held fit short ready serves inv =
      let none = how_many-none (used zero []) (resident held) (used_none []) in let h = inv zero in omega (arith, none, h)
  loads-le-reads [] instrs (set ∷ plan) t loads reads seen before held fit short ready serves inv = absurd serves
  loads-le-reads (step ∷ steps) instrs [] t loads reads seen before held fit short ready serves inv = absurd serves
  loads-le-reads (step ∷ steps) [] (set ∷ plan) t loads reads seen before held fit short ready serves inv =
      let none = how_many-none (used zero (step ∷ steps)) (resident held) (used_none (step ∷ steps)) in let h = inv zero in omega (arith, none, h)
  loads-le-reads (step ∷ steps) (i ∷ instrs) (set ∷ plan) t loads reads seen before held fit short ready serves inv =
      let c = came t seen held step steps ready fit.1 in
      let moved = all_brought_in frames (first_use steps (t + 1)) seen (pages_of step) (pages_of step) held in
      let page = (get_or places t (record { page = 0; offset = 0 })).page in
      let after : List Held = cond (has_result i.op) (written page moved.held) moved.held in
      let rest = loads-le-reads steps instrs plan (t + 1) (loads + loads_of moved.entries) (reads + how_many (comes_back seen before) set) (seen ++ pages_of step) set after
      fit.2 (omega arith) (after_ready (first_use steps (t + 1)) seen (pages_of step) held moved (has_result i.op) page ready c) serves.1
      (next_potential step steps i set t loads reads seen before held moved page (has_result i.op) fit (omega arith) ready serves.0 c inv) in
      let sum = loads_of-append moved.entries (entry.Do (job_in moved.held places t i) ∷ rule_from frames places (t + 1) (seen ++ pages_of step) after instrs steps) in
      omega (arith, rest, sum)

  -- the list's own sets serve, and read no more than its loads
  pub record Own (t : ℕ) (seen : List ℕ) (held : List Held) (instrs : List Instr) (steps : List Step) : Type 0 where
    pub serves : Serves (sets_from (resident held) (rule_from frames places t seen held instrs steps)) (pages_by_step steps) frames
    pub reads : reads_from seen (resident held) (sets_from (resident held) (rule_from frames places t seen held instrs steps)) (pages_by_step steps) ≤ loads_of (rule_from frames places t seen held instrs steps)

  own_more : (t : ℕ) (seen : List ℕ) (held after : List Held) (step : Step) (steps : List Step) (moved : Moved) (e : Replaced) (list : List Replaced)
      → Came frames (first_use steps (t + 1)) seen (pages_of step) (resident held) (pages_of step) 0 held moved
      → ((memory : List ℕ) → sets_from memory (e ∷ list) ≡ memory ∷ sets_from memory list) → loads_of (e ∷ list) ≡ loads_of list
      → resident after ≡ resident moved.held
      → Serves (sets_from (resident after) list) (pages_by_step steps) frames
      → reads_from (seen ++ pages_of step) (resident after) (sets_from (resident after) list) (pages_by_step steps) ≤ loads_of list
      → Serves (sets_from (resident held) (moved.entries ++ e ∷ list)) (pages_by_step (step ∷ steps)) frames
      × (reads_from seen (resident held) (sets_from (resident held) (moved.entries ++ e ∷ list)) (pages_by_step (step ∷ steps)) ≤ loads_of (moved.entries ++ e ∷ list))
  own_more t seen held after step steps moved e list c sets none same serves reads =
      let now = resident moved.held in
      let is : sets_from (resident held) (moved.entries ++ e ∷ list) ≡ now ∷ sets_from now list = c.sets (e ∷ list) ∙ sets now in
      let sum = loads_of-append moved.entries (e ∷ list) in
      let here = c.going.reads in
      let serves' : Serves (sets_from now list) (pages_by_step steps) frames = rw (← same) serves in
      let reads' : reads_from (seen ++ pages_of step) now (sets_from now list) (pages_by_step steps) ≤ loads_of list = rw (← same) reads in
      rw is ((record { distinct = c.going.distinct; has = list_all-from_each (pages_of step) now c.has; fits = c.going.fits }, serves'), omega (arith, here, sum, none, reads'))

  pub own : (steps : List Step) (instrs : List Instr) (t : ℕ) (seen : List ℕ) (held : List Held) → length instrs ≡ length steps → AllFit frames steps → Ready seen held → Own t seen held instrs steps
  own [] [] t seen held same fit ready = record { serves = tt; reads = omega arith }
  own [] (i ∷ instrs) t seen held same fit ready = absurd (omega arith)
  own (step ∷ steps) [] t seen held same fit ready = absurd (omega arith)
  own (step ∷ steps) (i ∷ instrs) t seen held same fit ready =
      let c = came t seen held step steps ready fit.1 in
      let moved = all_brought_in frames (first_use steps (t + 1)) seen (pages_of step) (pages_of step) held in
      let page = (get_or places t (record { page = 0; offset = 0 })).page in
      let after : List Held = cond (has_result i.op) (written page moved.held) moved.held in
      let rest = own steps instrs (t + 1) (seen ++ pages_of step) after (omega arith) fit.2 (after_ready (first_use steps (t + 1)) seen (pages_of step) held moved (has_result i.op) page ready c) in
      let both = own_more t seen held after step steps moved (entry.Do (job_in moved.held places t i)) (rule_from frames places (t + 1) (seen ++ pages_of step) after instrs steps) c (λ _. refl) refl (resident-after (has_result i.op) page moved.held) rest.serves rest.reads in
      record { serves = both.0; reads = both.1 }

  pub at_first : Ready [] []
  at_first = record { distinct = tt; fits = omega arith; known = λ x m. m }

  -- what the rule's list reads is the least
  pub rule_of-reads_least : (instrs : List Instr) (trace : List Step) → length instrs ≡ length trace → AllFit frames trace → length trace ≤ NEVER
      → Serves (sets_of (rule_of frames instrs places trace)) (pages_by_step trace) frames
      × (reads_of (sets_of (rule_of frames instrs places trace)) (pages_by_step trace) ≡ loads_of (rule_of frames instrs places trace))
      × ((plan : List (List ℕ)) → Serves plan (pages_by_step trace) frames → loads_of (rule_of frames instrs places trace) ≤ reads_of plan (pages_by_step trace))
  rule_of-reads_least instrs trace same fit short =
      let mine = own trace instrs 0 [] [] same fit at_first in
      let less = least (sets_of (rule_of frames instrs places trace)) mine.serves in
      let reads = mine.reads in
      (mine.serves, omega (arith, less, reads), least)
    where
      least : (plan : List (List ℕ)) → Serves plan (pages_by_step trace) frames → loads_of (rule_of frames instrs places trace) ≤ reads_of plan (pages_by_step trace)
      least plan serves =
          let h = loads-le-reads trace instrs plan 0 0 0 [] [] [] fit (omega arith) at_first serves (λ k. omega arith) in omega (arith, h)
