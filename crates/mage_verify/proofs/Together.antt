-- The joint run, turn by turn.
use Rattle.std.proofs.Common.{◌≡◌, ◌≢◌, ◌<◌, ◌≤◌, ◌+◌, ◌-◌, ◌∙◌, ap, ap₂, refl, sym, subst, ℕ, zero, suc, List, [], ◌∷◌, ◌++◌, Bool, true, false, cond, length, drop, get_or, Option, Some, None, is_some, IfSome, arith, true≢false, nat_eq, nat_lt, ⊎_elim, option_map}
use Rattle.std.specs.Prelude.{slice_index}
use Rattle.std.specs.List.{slice_get}
use Rattle.std.specs.Option.{option_or}
use Rattle.std.proofs.Math.ListN.{set, replicate}
use Rattle.std.proofs.lemmas.Bool.{ltb-true, ltb-false, lt-ltb, le-ltb, eqb-true, eqb-false}
use Rattle.std.proofs.lemmas.List.{get_or-set_same, get_or-set_other, get_or_past, at_drop_more, at_drop_all}
use Rattle.std.proofs.lemmas.Option.{slice_get_cases}
use mathlib.Core.Path.{fun_ext}
use Rattle.mage_instr.specs.declared.directive.Directive.{Directive}
use Rattle.mage_instr.specs.declared.directive.Directive.TheVariants as entry
use Rattle.mage_instr.specs.declared.op.Op.{Op}
use Rattle.mage_instr.specs.declared.op.Op.TheVariants as op
use Rattle.mage_directives.specs.Directives.{IsPart}
use Rattle.mage_verify.specs.declared.turn.Stand.{Stand}
use Rattle.mage_verify.specs.declared.turn.Stand.TheVariants as stand
use Rattle.mage_verify.specs.declared.turn.Turn.{Turn}
use Rattle.mage_verify.specs.declared.turn.Turn.TheVariants as turn
use Rattle.mage_verify.specs.declared.turn.Place.{Place}
use Rattle.mage_verify.specs.Joint.{stand_of, stand_at, width_at, next_of, stands, turn_at, first_turn, with_one, after_turn, after_turns, then_turns, joint_order, lower, differing_at, differing, waiting_at, waiting, lists_at, count_all, none_done, order_of, done_of, waiting_of, differing_of}
use Rattle.mage_verify.specs.declared.fault.VerifyFault.{VerifyFault}
use Rattle.mage_verify.specs.declared.fault.VerifyFault.TheVariants as wrong
use Rattle.mage_verify.specs.Faults.{joint_fault}
use Rattle.mage_verify.specs.Runs.{RunTogether}
use Rattle.mage_verify.specs.Turns.{done_in, CanGo, CanTurn}
use Rattle.mage_verify.proofs.Tests.{none_first, none_second}

-- ---- places

pub lower_none : (p : Option Place) → lower p None ≡ p
lower_none None = refl
lower_none (Some x) = refl

abbrev pick : Bool → Place → Place → Option Place
pick b first second = cond b (Some second) (Some first)

lower_three : (x y z : Place) → lower (lower (Some x) (Some y)) (Some z) ≡ lower (Some x) (lower (Some y) (Some z))
lower_three x y z = go (nat_lt y.worker x.worker) (nat_lt z.worker y.worker) (nat_lt z.worker x.worker) refl refl refl where
  go : (a b c : Bool) → nat_lt y.worker x.worker ≡ a → nat_lt z.worker y.worker ≡ b → nat_lt z.worker x.worker ≡ c
      → lower (pick a x y) (Some z) ≡ lower (Some x) (pick b y z)
  go true true c p q r =
      let high : nat_lt z.worker x.worker ≡ true = lt-ltb z.worker x.worker (omega (arith, ltb-true y.worker x.worker p, ltb-true z.worker y.worker q)) in
      ap (λ (t : Bool). pick t y z) q ∙ sym (ap (λ (t : Bool). pick t x z) high)
  go true false c p q r = ap (λ (t : Bool). pick t y z) q ∙ sym (ap (λ (t : Bool). pick t x y) p)
  go false true c p q r = refl
  go false false c p q r =
      let low : nat_lt z.worker x.worker ≡ false = le-ltb z.worker x.worker (omega (arith, ltb-false y.worker x.worker p, ltb-false z.worker y.worker q)) in
      ap (λ (t : Bool). pick t x z) low ∙ sym (ap (λ (t : Bool). pick t x y) p)

pub lower_assoc : (a b c : Option Place) → lower (lower a b) c ≡ lower a (lower b c)
lower_assoc None b c = refl
lower_assoc (Some x) None c = refl
lower_assoc (Some x) (Some y) None = lower_none (lower (Some x) (Some y))
lower_assoc (Some x) (Some y) (Some z) = lower_three x y z

-- ---- the first of some workers

-- Below, the turn of the workers from w on is that of all.
module _ (others : ℕ → Stand) (n w : ℕ) where
  turn_next : w < n → first_turn others w (n - w) ≡ option_or (turn_at w (others w) others) (first_turn others (w + 1) (n - (w + 1)))
  turn_next lt = let k : n - w ≡ suc (n - (w + 1)) = omega arith in rw k refl

  pub turn_found : (t : Turn) (whole : Option Turn) → w < n → first_turn others w (n - w) ≡ whole → turn_at w (others w) others ≡ Some t → whole ≡ Some t
  turn_found t whole lt kept e = sym kept ∙ turn_next lt ∙ ap (λ (o : Option Turn). option_or o (first_turn others (w + 1) (n - (w + 1)))) e

  pub turn_passed : (whole : Option Turn) → w < n → first_turn others w (n - w) ≡ whole → turn_at w (others w) others ≡ None → first_turn others (w + 1) (n - (w + 1)) ≡ whole
  turn_passed whole lt kept e = sym (turn_next lt ∙ ap (λ (o : Option Turn). option_or o (first_turn others (w + 1) (n - (w + 1)))) e) ∙ kept

  pub turn_none : (whole : Option Turn) → n ≤ w → first_turn others w (n - w) ≡ whole → whole ≡ None
  turn_none whole le kept = let k : n - w ≡ 0 = omega arith in sym kept ∙ ap (first_turn others w) k

module _ (all : ℕ → List Directive) (done : ℕ → ℕ) (n w : ℕ) where
  abbrev here : Option Place
  here = waiting_at (stands all done w) (record { worker = w; directive = done w })

  wait_next : w < n → waiting all done w (n - w) ≡ option_or here (waiting all done (w + 1) (n - (w + 1)))
  wait_next lt = let k : n - w ≡ suc (n - (w + 1)) = omega arith in rw k refl

  waits_here : (s : Stand) → s ≢ stand.Ended → waiting_at s (record { worker = w; directive = done w }) ≡ Some (record { worker = w; directive = done w })
  waits_here stand.Ended h = absurd (h refl)
  waits_here stand.Alone h = refl
  waits_here (stand.Sends target) h = refl
  waits_here (stand.Receives source) h = refl

  pub wait_found : (whole : Option Place) → w < n → waiting all done w (n - w) ≡ whole → stands all done w ≢ stand.Ended → whole ≡ Some (record { worker = w; directive = done w })
  wait_found whole lt kept h = sym kept ∙ wait_next lt ∙ ap (λ (o : Option Place). option_or o (waiting all done (w + 1) (n - (w + 1)))) (waits_here (stands all done w) h)

  pub wait_passed : (whole : Option Place) → w < n → waiting all done w (n - w) ≡ whole → stands all done w ≡ stand.Ended → waiting all done (w + 1) (n - (w + 1)) ≡ whole
  wait_passed whole lt kept e =
      sym (wait_next lt ∙ ap (λ (s : Stand). option_or (waiting_at s (record { worker = w; directive = done w })) (waiting all done (w + 1) (n - (w + 1)))) e) ∙ kept

  pub wait_none : (whole : Option Place) → n ≤ w → waiting all done w (n - w) ≡ whole → whole ≡ None
  wait_none whole le kept = let k : n - w ≡ 0 = omega arith in sym kept ∙ ap (waiting all done w) k

-- ---- the run

-- The run after k of so many turns: what is still to come leads to what the whole leads to.
pub record IsRun (all : ℕ → List Directive) (n turns k : ℕ) (start now : ℕ → ℕ) (lowest : Option Place) : Type 0 where
  pub leads : after_turns (joint_order all n (turns - k) now) now ≡ after_turns (joint_order all n turns start) start
  pub differs : lower lowest (differing all (joint_order all n (turns - k) now) now) ≡ differing all (joint_order all n turns start) start

pub record IsAtEnd (all : ℕ → List Directive) (n turns : ℕ) (start now : ℕ → ℕ) (lowest : Option Place) : Type 0 where
  pub leads : now ≡ after_turns (joint_order all n turns start) start
  pub differs : lowest ≡ differing all (joint_order all n turns start) start

pub run_begins : (all : ℕ → List Directive) (n turns : ℕ) (start : ℕ → ℕ) → IsRun all n turns 0 start start None
run_begins all n turns start = let k : turns - 0 ≡ turns = omega arith in record {
  leads = ap (λ (t : ℕ). after_turns (joint_order all n t start) start) k;
  differs = ap (λ (t : ℕ). differing all (joint_order all n t start) start) k;
}

module _ (all : ℕ → List Directive) (n turns k : ℕ) (start now : ℕ → ℕ) (lowest : Option Place) (run : IsRun all n turns k start now lowest) where
  order_next : (o : Option Turn) → k < turns → first_turn (stands all now) 0 n ≡ o
      → joint_order all n (turns - k) now ≡ then_turns o (λ next. joint_order all n (turns - (k + 1)) (after_turn next now))
  order_next o lt e = let m : turns - k ≡ suc (turns - (k + 1)) = omega arith in rw m (ap (λ (x : Option Turn). then_turns x (λ next. joint_order all n (turns - (k + 1)) (after_turn next now))) e)

  pub run_goes_on : (t : Turn) (after : ℕ → ℕ) → k < turns → first_turn (stands all now) 0 n ≡ Some t → after ≡ after_turn t now
      → IsRun all n turns (k + 1) start after (lower lowest (differing_at all t now))
  run_goes_on t after lt e is =
      let order = order_next (Some t) lt e in
      let others = joint_order all n (turns - (k + 1)) (after_turn t now) in
      subst (λ (d : ℕ → ℕ). IsRun all n turns (k + 1) start d (lower lowest (differing_at all t now))) (sym is)
      (record {
        leads = sym (ap (λ (ts : List Turn). after_turns ts now) order) ∙ run.leads;
        differs = lower_assoc lowest (differing_at all t now) (differing all others (after_turn t now))
            ∙ sym (ap (λ (ts : List Turn). lower lowest (differing all ts now)) order) ∙ run.differs;
      })

  pub run_stops : k < turns → first_turn (stands all now) 0 n ≡ None → IsAtEnd all n turns start now lowest
  run_stops lt e =
      let order = order_next None lt e in record {
        leads = sym (ap (λ (ts : List Turn). after_turns ts now) order) ∙ run.leads;
        differs = sym (lower_none lowest) ∙ sym (ap (λ (ts : List Turn). lower lowest (differing all ts now)) order) ∙ run.differs;
      }

  pub run_ends : turns ≤ k → IsAtEnd all n turns start now lowest
  run_ends le =
      let m : turns - k ≡ 0 = omega arith in record {
        leads = sym (ap (λ (t : ℕ). after_turns (joint_order all n t now) now) m) ∙ run.leads;
        differs = sym (lower_none lowest) ∙ sym (ap (λ (t : ℕ). lower lowest (differing all (joint_order all n t now) now)) m) ∙ run.differs;
      }

-- ---- the lists of the code

-- a worker's directives
pub list_is : (workers : List (List Directive)) (w : ℕ) (own : List Directive) → w < length workers → own ≡ get_or workers w own → lists_at workers w ≡ own
list_is [] w own lt is = absurd (omega arith)
list_is (x ∷ xs) zero own lt is = sym is
list_is (x ∷ xs) (suc w) own lt is = list_is xs w own (omega arith) is

pub none_there : (workers : List (List Directive)) (w : ℕ) → length workers ≤ w → lists_at workers w ≡ []
none_there workers w le = get_or_past workers w [] le

pub ended_there : (workers : List (List Directive)) (done : ℕ → ℕ) (w : ℕ) → length workers ≤ w → stands (lists_at workers) done w ≡ stand.Ended
ended_there workers done w le = ap (λ (xs : List Directive). stand_at (slice_get xs (done w))) (none_there workers w le)

-- each worker has few directives
few_from : (total from : ℕ) (xs : List (List Directive)) → ((k : ℕ) → IfSome (slice_get xs k) (IsPart total (from + k))) → (k : ℕ) → length (lists_at xs k) < 4294967296
few_from total from [] h k = omega arith
few_from total from (x ∷ xs) h zero = let own = h zero in own.count
few_from total from (x ∷ xs) h (suc k) =
    few_from total (from + 1) xs (λ j. let e : from + suc j ≡ from + 1 + j = omega arith in subst (λ (m : ℕ). IfSome (slice_get xs j) (IsPart total m)) e (h (suc j))) k

pub few_directives : (total : ℕ) (xs : List (List Directive)) → ((k : ℕ) → IfSome (slice_get xs k) (IsPart total k)) → (k : ℕ) → length (lists_at xs k) < 4294967296
few_directives total xs h k = few_from total 0 xs (λ j. let e : j ≡ 0 + j = omega arith in subst (λ (m : ℕ). IfSome (slice_get xs j) (IsPart total m)) e (h j)) k

-- one worker has done one directive more
pub advanced : (done : List ℕ) (w : ℕ) → w < length done → done_in (set done w (slice_index done w + 1)) ≡ with_one w (done_in done)
advanced done w lt = fun_ext (λ k. go k (nat_eq k w) refl) where
  go : (k : ℕ) (b : Bool) → nat_eq k w ≡ b → slice_index (set done w (slice_index done w + 1)) k ≡ cond b (slice_index done k + 1) (slice_index done k)
  go k true e = let same : k ≡ w = eqb-true k w e in
      ap (slice_index (set done w (slice_index done w + 1))) same ∙ get_or-set_same done w (slice_index done w + 1) 0 lt ∙ ap (λ (j : ℕ). slice_index done j + 1) (sym same)
  go k false e = get_or-set_other done w k (slice_index done w + 1) 0 (eqb-false k w e)

-- a worker that isn't this one stands where it stood
pub with_one_other : (w : ℕ) (done : ℕ → ℕ) (other : ℕ) → w ≢ other → with_one w done other ≡ done other
with_one_other w done other ne = go (nat_eq other w) refl where
  go : (b : Bool) → nat_eq other w ≡ b → cond b (done other + 1) (done other) ≡ done other
  go true e = absurd (ne (sym (eqb-true other w e)))
  go false e = refl

-- ---- what holds of workers without a fault

map_none : {X Y : Type 0} (f : X → Y) (o : Option X) → option_map f o ≡ None → o ≡ None
map_none f None h = refl
map_none f (Some x) h = absurd (true≢false (ap is_some h))

waiting_ended : (s : Stand) (p : Place) → waiting_at s p ≡ None → s ≡ stand.Ended
waiting_ended stand.Ended p h = refl
waiting_ended stand.Alone p h = absurd (true≢false (ap is_some h))
waiting_ended (stand.Sends target) p h = absurd (true≢false (ap is_some h))
waiting_ended (stand.Receives source) p h = absurd (true≢false (ap is_some h))

none_waits : (all : ℕ → List Directive) (done : ℕ → ℕ) (from count : ℕ) → waiting all done from count ≡ None → (k : ℕ) → k < count → stands all done (from + k) ≡ stand.Ended
none_waits all done from zero h k lt = absurd (omega arith)
none_waits all done from (suc count) h zero lt =
    let same : from + 0 ≡ from = omega arith in
    ap (stands all done) same ∙ waiting_ended (stands all done from) (record { worker = from; directive = done from })
    (none_first (waiting_at (stands all done from) (record { worker = from; directive = done from })) (waiting all done (from + 1) count) h)
none_waits all done from (suc count) h (suc k) lt =
    let same : from + suc k ≡ from + 1 + k = omega arith in
    ap (stands all done) same ∙ none_waits all done (from + 1) count
    (none_second (waiting_at (stands all done from) (record { worker = from; directive = done from })) (waiting all done (from + 1) count) h) k (omega arith)

standing : (o : Op) (imm : ℕ) → stand_of o imm ≡ stand.Ended → ⊥
standing op.Send imm e = absurd cc
standing op.Recv imm e = absurd cc
standing _ imm e = absurd cc

ended_none : (o : Option Directive) → stand_at o ≡ stand.Ended → o ≡ None
ended_none None e = refl
ended_none (Some (entry.Do job)) e = absurd (standing job.op job.imm e)
ended_none (Some (entry.Fresh frame page)) e = absurd cc
ended_none (Some (entry.IssueIn slot page)) e = absurd cc
ended_none (Some (entry.FinishIn slot frame)) e = absurd cc
ended_none (Some (entry.IssueOut slot frame page)) e = absurd cc
ended_none (Some (entry.FinishOut slot)) e = absurd cc

past_all : (xs : List Directive) (i : ℕ) → slice_get xs i ≡ None → length xs ≤ i
past_all xs i e = ⊎_elim (λ inside. absurd (true≢false (ap is_some (sym inside.2 ∙ e)))) (λ past. past.0) (slice_get_cases xs i).1

-- a worker that hasn't ended has a directive left
pub left_of : (workers : List (List Directive)) (done : ℕ → ℕ) (w : ℕ) → stands (lists_at workers) done w ≢ stand.Ended → CanGo workers done w
left_of workers done w h = record { there = inside; left = short } where
  inside : w < length workers
  inside = go (nat_lt w (length workers)) refl where
    go : (b : Bool) → nat_lt w (length workers) ≡ b → w < length workers
    go true e = ltb-true w (length workers) e
    go false e = absurd (h (ended_there workers done w (ltb-false w (length workers) e)))

  short : done w < length (lists_at workers w)
  short = ⊎_elim (λ found. found.1) (λ past. absurd (h (ap stand_at past.1))) (slice_get_cases (lists_at workers w) (done w)).1

both_none : (a b : Option Place) → lower a b ≡ None → (a ≡ None) × (b ≡ None)
both_none None b h = (refl, h)
both_none (Some x) None h = absurd (true≢false (ap is_some h))
both_none (Some x) (Some y) h = go (nat_lt y.worker x.worker) h where
  go : (b : Bool) → pick b x y ≡ None → (Some x ≡ None) × (Some y ≡ None)
  go true e = absurd (true≢false (ap is_some e))
  go false e = absurd (true≢false (ap is_some e))

same_widths : (all : ℕ → List Directive) (turns before others : List Turn) (source target : ℕ) (done : ℕ → ℕ) → differing all turns done ≡ None
    → turns ≡ before ++ turn.Hands source target ∷ others
    → width_at (next_of all (after_turns before done) source) ≡ width_at (next_of all (after_turns before done) target)
same_widths all turns before others source target done h e = go before done (ap (λ (ts : List Turn). differing all ts done) (sym e) ∙ h) where
  equal : (a b : ℕ) (p : Place) (t : Bool) → nat_eq a b ≡ t → cond t None (Some p) ≡ None → a ≡ b
  equal a b p true e h = eqb-true a b e
  equal a b p false e h = absurd (true≢false (ap is_some h))

  go : (front : List Turn) (done : ℕ → ℕ) → differing all (front ++ turn.Hands source target ∷ others) done ≡ None
      → width_at (next_of all (after_turns front done) source) ≡ width_at (next_of all (after_turns front done) target)
  go [] done h =
      let both = both_none (differing_at all (turn.Hands source target) done) (differing all others (after_turn (turn.Hands source target) done)) h in
      equal (width_at (next_of all done source)) (width_at (next_of all done target)) (record { worker = target; directive = done target })
      (nat_eq (width_at (next_of all done source)) (width_at (next_of all done target))) refl both.0
  go (t ∷ ts) done h =
      let both = both_none (differing_at all t done) (differing all (ts ++ turn.Hands source target ∷ others) (after_turn t done)) h in
      go ts (after_turn t done) both.1

pub RunTogether-from_none : (workers : List (List Directive)) → joint_fault workers ≡ None → RunTogether workers
RunTogether-from_none workers h =
    let links : Option VerifyFault = option_map (λ p. wrong.Links p.worker p.directive) (waiting_of workers) in
    let widths : Option VerifyFault = option_map (λ p. wrong.Width p.worker p.directive) (differing_of workers) in
    let waits : waiting_of workers ≡ None = map_none (λ p. wrong.Links p.worker p.directive) (waiting_of workers) (none_first links widths h) in
    let differs : differing_of workers ≡ None = map_none (λ p. wrong.Width p.worker p.directive) (differing_of workers) (none_second links widths h) in record {
      ends = λ w lt.
          let from : 0 + w ≡ w = omega arith in
          let ended : stands (lists_at workers) (done_of workers) w ≡ stand.Ended =
          ap (stands (lists_at workers) (done_of workers)) (sym from) ∙ none_waits (lists_at workers) (done_of workers) 0 (length workers) waits w lt in
          past_all (lists_at workers w) (done_of workers w) (ended_none (next_of (lists_at workers) (done_of workers) w) ended);
      widths = λ before others source target e. same_widths (lists_at workers) (order_of workers) before others source target none_done differs e;
    }

-- ---- all together

zeros_at : (n k : ℕ) → slice_index (replicate n 0) k ≡ 0
zeros_at zero k = refl
zeros_at (suc n) zero = refl
zeros_at (suc n) (suc k) = zeros_at n k

pub zeros : (done : List ℕ) (n : ℕ) → done ≡ replicate n 0 → done_in done ≡ none_done
zeros done n is = fun_ext (λ k. ap (λ (xs : List ℕ). slice_index xs k) is ∙ zeros_at n k)

-- what is found at the end of the run is the fault
pub joint_is : (workers : List (List Directive)) (turns : ℕ) (start now : ℕ → ℕ) (waits differs : Option Place) → start ≡ none_done → turns ≡ count_all workers
    → now ≡ after_turns (joint_order (lists_at workers) (length workers) turns start) start
    → differs ≡ differing (lists_at workers) (joint_order (lists_at workers) (length workers) turns start) start
    → waits ≡ waiting (lists_at workers) now 0 (length workers)
    → joint_fault workers ≡ option_or (option_map (λ p. wrong.Links p.worker p.directive) waits) (option_map (λ p. wrong.Width p.worker p.directive) differs)
joint_is workers turns start now waits differs from all leads found waited =
    let order : joint_order (lists_at workers) (length workers) turns start ≡ order_of workers =
    ap₂ (λ (n : ℕ) (d : ℕ → ℕ). joint_order (lists_at workers) (length workers) n d) all from in
    let reached : now ≡ done_of workers = leads ∙ ap₂ (λ (ts : List Turn) (d : ℕ → ℕ). after_turns ts d) order from in
    let differing_is : differs ≡ differing_of workers = found ∙ ap₂ (λ (ts : List Turn) (d : ℕ → ℕ). differing (lists_at workers) ts d) order from in
    let waiting_is : waits ≡ waiting_of workers = waited ∙ ap (λ (d : ℕ → ℕ). waiting (lists_at workers) d 0 (length workers)) reached in
    ap₂ (λ (w d : Option Place). option_or (option_map (λ p. wrong.Links p.worker p.directive) w) (option_map (λ p. wrong.Width p.worker p.directive) d)) (sym waiting_is) (sym differing_is)

-- ---- turns

-- the second worker of a turn can still do its directive
pub hands_few : (workers : List (List Directive)) (done after : ℕ → ℕ) (source target : ℕ) → ((w : ℕ) → IfSome (slice_get workers w) (IsPart (length workers) w))
    → CanTurn workers done (turn.Hands source target) → after ≡ with_one source done → after target < 4294967295
hands_few workers done after source target parts goes is =
    let same : after target ≡ done target = ap (λ (d : ℕ → ℕ). d target) is ∙ with_one_other source done target goes.2 in
    let few = few_directives (length workers) workers parts target in
    let left = goes.1.left in
    omega (arith, same, few, left)

-- one worker's count is added
pub count_next : (workers : List (List Directive)) (i count total : ℕ) (own : List Directive) → i < length workers → own ≡ get_or workers i own
    → count + count_all (drop i workers) ≡ total → count + length own + count_all (drop (i + 1) workers) ≡ total
count_next workers i count total own lt is kept =
    let step : count_all (drop i workers) ≡ length own + count_all (drop (i + 1) workers) =
    at_drop_more count_all workers i own lt ∙ ap (λ (ds : List Directive). length ds + count_all (drop (i + 1) workers)) (sym is) in
    omega (arith, step, kept)

pub count_last : (workers : List (List Directive)) (i count total : ℕ) → length workers ≤ i → count + count_all (drop i workers) ≡ total → count ≡ total
count_last workers i count total le kept = let none : count_all (drop i workers) ≡ 0 = at_drop_all count_all workers i le in omega (arith, none, kept)

pub few_at : (workers : List (List Directive)) (w : ℕ) (own : List Directive) → ((k : ℕ) → IfSome (slice_get workers k) (IsPart (length workers) k)) → w < length workers
    → own ≡ get_or workers w own → length own < 4294967296
few_at workers w own parts lt is = subst (λ (ds : List Directive). length ds < 4294967296) (list_is workers w own lt is) (few_directives (length workers) workers parts w)
