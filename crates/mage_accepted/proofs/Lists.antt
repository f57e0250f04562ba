-- The entries of the list of the replacement rule: the pages that they name are below the number of instructions, each job has
-- its fields in range, and there are at most nine entries for each instruction.
use Rattle.std.proofs.Common.{◌≡◌, ◌<◌, ◌≤◌, ◌+◌, ◌*◌, ◌&&◌, zero, suc, ℕ, Bool, true, false, not, cond, List, [], ◌∷◌, ◌++◌, length, get_or, nat_eq, nat_lt, refl, sym, ◌∙◌, ap, arith, ⊎_elim}
use Rattle.std.specs.List.{filter}
use Rattle.std.proofs.lemmas.Bool.{le-ltb, false≢true}
use Rattle.std.proofs.lemmas.List.{length-append}
use Rattle.mage_instr.specs.declared.instr.TheConstants.{NEVER}
use Rattle.mage_instr.specs.declared.instr.Instr.{Instr}
use Rattle.mage_instr.specs.declared.instr.Place.{Place}
use Rattle.mage_instr.specs.declared.instr.Step.{Step}
use Rattle.mage_instr.specs.declared.replaced.Replaced.{Replaced}
use Rattle.mage_instr.specs.declared.replaced.Replaced.TheVariants as entry
use Rattle.mage_instr.specs.Opcodes.{arity_of, has_result, WidthOk}
use Rattle.mage_instr.specs.Trace.{pages_of}
use Rattle.mage_next.specs.Next.{first_use}
use Rattle.mage_belady.specs.Plan.{is_in}
use Rattle.mage_belady.specs.Rule.{Held, Moved, resident, victim_of, victim_in, frame_of, entering, into_free, into_victims, visited, all_brought_in, job_in, spot_in, place_of, after_result, rule_from}
use Rattle.mage_belady.proofs.Bringing.{resident-set, resident-push}
use Rattle.mage_belady.proofs.Counts.{is_in-here, is_in-tail}
use Rattle.mage_belady.proofs.Least.{resident-after}
use Rattle.mage_belady.proofs.Sets.{is_in-push, is_in-set, is_in-filter, victim_of-in}
use Rattle.mage_directives.specs.Directives.{no_spot, arg_at, LinksTo, IsJob}
use Rattle.mage_accepted.proofs.Pages.{AreLow}

-- an instruction whose fields are in range
pub record IsInstr (workers own : ℕ) (i : Instr) : Type 0 where
  pub width : WidthOk i.op i.width i.imm
  pub link : LinksTo workers own i.op i.imm

abbrev pub AreInstrs : (workers own : ℕ) → List Instr → Type 0
AreInstrs workers own [] = Unit {0}
AreInstrs workers own (i ∷ instrs) = IsInstr workers own i × AreInstrs workers own instrs

-- the pages that an entry names are below a number, and a job has its fields in range; of a load nothing is asked
abbrev pub IsFine : (n workers own : ℕ) → Replaced → Type 0
IsFine n workers own (entry.Fresh frame page) = page < n
IsFine n workers own (entry.Load frame page) = Unit {0}
IsFine n workers own (entry.Save frame page) = page < n
IsFine n workers own (entry.Do job) = IsJob workers own job

abbrev pub AreFine : (n workers own : ℕ) → List Replaced → Type 0
AreFine n workers own [] = Unit {0}
AreFine n workers own (one ∷ list) = IsFine n workers own one × AreFine n workers own list

-- no spot where there is no value
no_spot_when : (b : Bool) (held : List Held) (place : Place) → b ≡ false → cond b (spot_in held place) no_spot ≡ no_spot
no_spot_when true held place e = absurd (false≢true (sym e))
no_spot_when false held place e = refl

pub is_job : (workers own : ℕ) (held : List Held) (places : List Place) (t : ℕ) (i : Instr) → IsInstr workers own i
    → IsJob workers own (job_in held places t i)
is_job workers own held places t i is = record {
  width = is.width;
  link = is.link;
  no_result = λ e. no_spot_when (has_result i.op) held (place_of places t) e;
  no_args = args;
} where
  args : (k : ℕ) → arity_of i.op ≤ k → k < 3 → arg_at k (job_in held places t i) ≡ no_spot
  args zero le lt = no_spot_when (nat_lt 0 (arity_of i.op)) held _ (le-ltb 0 (arity_of i.op) le)
  args (suc zero) le lt = no_spot_when (nat_lt 1 (arity_of i.op)) held _ (le-ltb 1 (arity_of i.op) le)
  args (suc (suc zero)) le lt = no_spot_when (nat_lt 2 (arity_of i.op)) held _ (le-ltb 2 (arity_of i.op) le)
  args (suc (suc (suc k))) le lt = absurd (omega (arith, lt))

module _ (n workers own : ℕ) (some : 0 < n) where
  fine_both : (xs ys : List Replaced) → AreFine n workers own xs → AreFine n workers own ys → AreFine n workers own (xs ++ ys)
  fine_both [] ys h k = k
  fine_both (x ∷ xs) ys h k = (h.0, fine_both xs ys h.1 k)

  -- the pages in memory are below the number
  abbrev AreBelow : List Held → Type 0
  AreBelow held = (q : ℕ) → is_in q (resident held) ≡ true → q < n

  -- entries that are fine, and few, and leave pages below the number
  record Brings (most : ℕ) (moved : Moved) : Type 0 where
    fine : AreFine n workers own moved.entries
    few : length moved.entries ≤ most
    below : AreBelow moved.held

  victim_low : (next : ℕ → ℕ) (pages : List ℕ) (held : List Held) → AreBelow held → victim_in next pages held < n
  victim_low next pages held below = go (filter (λ p. not (is_in p pages)) (resident held)) refl where
    go : (xs : List ℕ) → filter (λ p. not (is_in p pages)) (resident held) ≡ xs → victim_of next xs < n
    go [] e = some
    go (x ∷ xs) e =
        let found = is_in-filter (λ p. not (is_in p pages)) (victim_of next (x ∷ xs)) (resident held)
        (ap (is_in (victim_of next (x ∷ xs))) e ∙ victim_of-in next x xs) in
        below (victim_of next (x ∷ xs)) found.0

  module _ (frames : ℕ) (next : ℕ → ℕ) (seen pages : List ℕ) where
    enters : (frame page : ℕ) → page < n → IsFine n workers own (entering seen frame page)
    enters frame page lt = go (is_in page seen) where
      go : (b : Bool) → IsFine n workers own (cond b (entry.Load frame page) (entry.Fresh frame page))
      go true = tt
      go false = lt

    free_brings : (held : List Held) (page : ℕ) → AreBelow held → page < n → Brings 2 (into_free seen held page)
    free_brings held page below lt = record {
      fine = (enters (length held) page lt, tt);
      few = omega arith;
      below = λ q h. ⊎_elim (λ e. let same : q ≡ page = e in omega (arith, lt, same)) (below q)
          (is_in-push q (resident held) page (ap (is_in q) (sym (resident-push held (record { page = page; dirty = false }))) ∙ h));
    }

    victim_brings : (held : List Held) (page : ℕ) → AreBelow held → page < n → Brings 2 (into_victims next seen pages held page)
    victim_brings held page below lt =
        let victim = victim_in next pages held in
        let frame = frame_of victim (resident held) in
        record {
          fine = saves ((get_or held frame (record { page = 0; dirty = false })).dirty && not (nat_eq (next victim) NEVER)) frame;
          few = counts ((get_or held frame (record { page = 0; dirty = false })).dirty && not (nat_eq (next victim) NEVER)) frame;
          below = λ q h. ⊎_elim (λ e. let same : q ≡ page = e in omega (arith, lt, same)) (below q)
              (is_in-set q (resident held) frame page (ap (is_in q) (sym (resident-set held frame (record { page = page; dirty = false }))) ∙ h));
        }
      where
        saves : (b : Bool) (frame : ℕ)
            → AreFine n workers own (cond b (entry.Save frame (victim_in next pages held) ∷ []) [] ++ entering seen frame page ∷ [])
        saves true frame = (victim_low next pages held below, (enters frame page lt, tt))
        saves false frame = (enters frame page lt, tt)

        counts : (b : Bool) (frame : ℕ)
            → length (cond b (entry.Save frame (victim_in next pages held) ∷ []) [] ++ entering seen frame page ∷ []) ≤ 2
        counts true frame = omega arith
        counts false frame = omega arith

    one_brings : (held : List Held) (page : ℕ) → AreBelow held → page < n → Brings 2 (visited frames next seen pages held page)
    one_brings held page below lt = go (is_in page (resident held)) (nat_lt (length held) frames) where
      go : (b c : Bool)
          → Brings 2 (cond b (record { entries = []; held = held }) (cond c (into_free seen held page) (into_victims next seen pages held page)))
      go true c = record { fine = tt; few = omega arith; below = below }
      go false true = free_brings held page below lt
      go false false = victim_brings held page below lt

    all_bring : (todo : List ℕ) (held : List Held) → AreBelow held → ((q : ℕ) → is_in q todo ≡ true → q < n)
        → Brings (2 * length todo) (all_brought_in frames next seen pages todo held)
    all_bring [] held below low = record { fine = tt; few = omega arith; below = below }
    all_bring (page ∷ todo) held below low =
        let one = one_brings held page below (low page (is_in-here page page todo refl)) in
        let rest = all_bring todo (visited frames next seen pages held page).held one.below (λ q h. low q (is_in-tail q page todo h)) in
        let long = length-append (visited frames next seen pages held page).entries (all_brought_in frames next seen pages todo (visited frames next seen pages held page).held).entries in
        let first = one.few in
        let others = rest.few in
        record {
          fine = fine_both (visited frames next seen pages held page).entries (all_brought_in frames next seen pages todo (visited frames next seen pages held page).held).entries one.fine rest.fine;
          few = omega (arith, long, first, others);
          below = rest.below;
        }

  -- a list that is fine, and has few entries
  pub record IsShort (count : ℕ) (list : List Replaced) : Type 0 where
    pub fine : AreFine n workers own list
    pub few : length list ≤ 9 * count

  pub rule_is_short : (frames : ℕ) (places : List Place) (t : ℕ) (seen : List ℕ) (held : List Held) (instrs : List Instr) (steps : List Step)
      → AreBelow held → AreLow n steps → AreInstrs workers own instrs
      → IsShort (length instrs) (rule_from frames places t seen held instrs steps)
  rule_is_short frames places t seen held [] steps below low are = record { fine = tt; few = omega arith }
  rule_is_short frames places t seen held (i ∷ instrs) [] below low are = record { fine = tt; few = omega arith }
  rule_is_short frames places t seen held (i ∷ instrs) (step ∷ steps) below low are =
      let moved = all_brought_in frames (first_use steps (t + 1)) seen (pages_of step) (pages_of step) held in
      let brings = all_bring frames (first_use steps (t + 1)) seen (pages_of step) (pages_of step) held below low.0.1 in
      let same = resident-after (has_result i.op) (place_of places t).page moved.held in
      let others = rule_from frames places (t + 1) (seen ++ pages_of step) (after_result places t i moved.held) instrs steps in
      let rest = rule_is_short frames places (t + 1) (seen ++ pages_of step) (after_result places t i moved.held) instrs steps
      (λ q h. brings.below q (ap (is_in q) (sym same) ∙ h)) low.1 are.1 in
      let long = length-append moved.entries (entry.Do (job_in moved.held places t i) ∷ others) in
      let four = low.0.0 in
      let few = brings.few in
      let more = rest.few in
      record {
        fine = fine_both moved.entries (entry.Do (job_in moved.held places t i) ∷ others) brings.fine (is_job workers own moved.held places t i are.0, rest.fine);
        few = omega (arith, long, four, few, more);
      }
