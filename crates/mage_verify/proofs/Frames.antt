-- The table of frames that are left, from the last directive back to the first.
use Rattle.std.proofs.Common.{◌≡◌, ◌<◌, ◌≤◌, ◌+◌, ◌-◌, ◌&&◌, ◌||◌, ◌∙◌, ap, ap₂, refl, sym, subst, ℕ, zero, suc, List, [], ◌∷◌, Bool, true, false, cond, length, drop, get_or, Option, Some, None, arith, nat_eq, nat_lt}
use Rattle.std.specs.List.{slice_get, slice_index_or}
use Rattle.std.proofs.Math.ListN.{set, replicate}
use Rattle.std.proofs.lemmas.Bool.{false≢true, eqb-true, eqb-false}
use Rattle.std.proofs.lemmas.List.{length-set, get_or-set_same, get_or-set_other, get_or_past, at_drop_more, at_drop_all}
use Rattle.std.proofs.lemmas.Option.{slice_get_within}
use Rattle.mage_instr.specs.declared.directive.Directive.{Directive}
use Rattle.mage_instr.specs.declared.directive.Directive.TheVariants as entry
use Rattle.mage_instr.specs.declared.replaced.Job.{Job}
use Rattle.mage_instr.specs.declared.replaced.Spot.{Spot}
use Rattle.mage_instr.specs.Opcodes.{arity_of, has_result}
use Rattle.mage_directives.specs.Directives.{arg_at}
use Rattle.mage_verify.specs.Leaving.{has_arg_in, is_left, leaves_first, leaves_at, leaves_of, is_issue_out}
use Rattle.mage_verify.specs.Lefts.{entry_of, IsTable, IsUsed, IsSet}

pub is_set : (table : List Bool) (i : ℕ) (now : Bool) → i < length table → IsSet table (set table i now) i now
is_set table i now lt = record { count = length-set table i now; each = λ frame. go frame (nat_eq i frame) refl } where
  go : (frame : ℕ) (b : Bool) → nat_eq i frame ≡ b → entry_of (set table i now) frame ≡ cond b now (entry_of table frame)
  go frame true e = ap (entry_of (set table i now)) (sym (eqb-true i frame e)) ∙ get_or-set_same table i now true lt
  go frame false e = get_or-set_other table i frame now true (λ same. eqb-false i frame e (sym same))

pub used_there : (old new : List Bool) (there : Bool) (spot : Spot) → there ≡ true → IsSet old new spot.frame false → IsUsed old new there spot
used_there old new true spot e h = record { count = h.count; each = h.each }
used_there old new false spot e h = absurd (false≢true e)

pub used_nowhere : (old : List Bool) (there : Bool) (spot : Spot) → there ≡ false → IsUsed old old there spot
used_nowhere old true spot e = absurd (false≢true (sym e))
used_nowhere old false spot e = record { count = refl; each = λ frame. refl }

pub table_set : (old new : List Bool) (frame : ℕ) (now : Bool) (directive : Directive) (rest : List Directive)
    → ((f : ℕ) → is_left f (directive ∷ rest) ≡ cond (nat_eq frame f) now (is_left f rest)) → IsSet old new frame now → IsTable old rest → IsTable new (directive ∷ rest)
table_set old new frame now directive rest rule h table = record {
  count = h.count ∙ table.count;
  each = λ f lt. h.each f ∙ ap (λ (b : Bool). cond (nat_eq frame f) now b) (table.each f lt) ∙ sym (rule f);
}

pub table_kept : (table : List Bool) (directive : Directive) (rest : List Directive) → ((f : ℕ) → is_left f (directive ∷ rest) ≡ is_left f rest) → IsTable table rest → IsTable table (directive ∷ rest)
table_kept table directive rest rule h = record { count = h.count; each = λ f lt. h.each f lt ∙ sym (rule f) }

four : (a b c d x : Bool) → cond d false (cond c false (cond b false (cond a false x))) ≡ cond (a || b || c || d) false x
four true true true true x = refl
four true true true false x = refl
four true true false true x = refl
four true true false false x = refl
four true false true true x = refl
four true false true false x = refl
four true false false true x = refl
four true false false false x = refl
four false true true true x = refl
four false true true false x = refl
four false true false true x = refl
four false true false false x = refl
four false false true true x = refl
four false false true false x = refl
four false false false true x = refl
four false false false false x = refl

pub table_used : (job : Job) (rest : List Directive) (t0 t1 t2 t3 t4 : List Bool) → IsUsed t0 t1 (has_result job.op) job.out
    → IsUsed t1 t2 (nat_lt 0 (arity_of job.op)) (arg_at 0 job) → IsUsed t2 t3 (nat_lt 1 (arity_of job.op)) (arg_at 1 job) → IsUsed t3 t4 (nat_lt 2 (arity_of job.op)) (arg_at 2 job)
    → IsTable t0 rest → IsTable t4 (entry.Do job ∷ rest)
table_used job rest t0 t1 t2 t3 t4 out first second third table = record {
  count = third.count ∙ second.count ∙ first.count ∙ out.count ∙ table.count;
  each = λ f lt.
      third.each f
      ∙ ap (λ (x : Bool). cond (has_arg_in f job 2) false x)
      (second.each f ∙ ap (λ (x : Bool). cond (has_arg_in f job 1) false x)
      (first.each f ∙ ap (λ (x : Bool). cond (has_arg_in f job 0) false x)
      (out.each f ∙ ap (λ (x : Bool). cond (has_result job.op && nat_eq job.out.frame f) false x) (table.each f lt))))
      ∙ four (has_result job.op && nat_eq job.out.frame f) (has_arg_in f job 0) (has_arg_in f job 1) (has_arg_in f job 2) (is_left f rest);
}

-- at first nothing comes behind
always_true : (n f : ℕ) → entry_of (replicate n true) f ≡ true
always_true zero f = get_or_past [] f true (omega arith)
always_true (suc n) zero = refl
always_true (suc n) (suc f) = always_true n f

pub all_true : (table : List Bool) (n : ℕ) → table ≡ replicate n true → (f : ℕ) → entry_of table f ≡ true
all_true table n is f = ap (λ (t : List Bool). entry_of t f) is ∙ always_true n f

-- ---- the answers, from the last on

drop-set : (xs : List Bool) (i : ℕ) (v : Bool) → i < length xs → drop i (set xs i v) ≡ v ∷ drop (i + 1) xs
drop-set [] i v lt = absurd (omega arith)
drop-set (x ∷ xs) zero v lt = refl
drop-set (x ∷ xs) (suc i) v lt = drop-suc x (set xs i v) i ∙ drop-set xs i v (omega arith) ∙ ap (λ (bs : List Bool). v ∷ bs) (more x xs i) where
  drop-suc : (y : Bool) (ys : List Bool) (k : ℕ) → drop (suc k) (y ∷ ys) ≡ drop k ys
  drop-suc y ys k = refl

  more : (y : Bool) (ys : List Bool) (k : ℕ) → drop (k + 1) ys ≡ drop (suc k + 1) (y ∷ ys)
  more y ys k = let e : suc k + 1 ≡ suc (k + 1) = omega arith in sym (ap (λ (n : ℕ). drop n (y ∷ ys)) e)

pub record AreFound (directives : List Directive) (behind : ℕ) (left leaves : List Bool) : Type 0 where
  pub table : IsTable left (drop (length directives - behind) directives)
  pub count : length leaves ≡ length directives
  pub found : drop (length directives - behind) leaves ≡ leaves_of (drop (length directives - behind) directives)

pub found_first : (directives : List Directive) (left leaves : List Bool) → IsTable left [] → length leaves ≡ length directives → AreFound directives 0 left leaves
found_first directives left leaves opened same =
    let all : length directives - 0 ≡ length directives = omega arith in
    let nothing : drop (length directives) directives ≡ [] = at_drop_all (λ (ds : List Directive). ds) directives (length directives) (omega arith) in
    let none : drop (length directives) leaves ≡ [] = at_drop_all (λ (bs : List Bool). bs) leaves (length directives) (omega (arith, same)) in
    record {
      table = rw all (subst (IsTable left) (sym nothing) opened);
      count = same;
      found = rw all (none ∙ ap leaves_of (sym nothing));
    }

module _ (directives : List Directive) (behind : ℕ) (left leaves : List Bool) (h : AreFound directives behind left leaves) (lt : behind < length directives) where
  place_is : length directives - behind ≡ length directives - 1 - behind + 1
  place_is = omega arith

  next_is : length directives - (behind + 1) ≡ length directives - 1 - behind
  next_is = omega arith

  -- what stands behind the directive
  pub behind_it : List Directive
  behind_it = drop (length directives - 1 - behind + 1) directives

  pub table_behind : IsTable left (drop (length directives - 1 - behind + 1) directives)
  table_behind = subst (λ (k : ℕ). IsTable left (drop k directives)) place_is h.table

  pub found_next : (directive other : Directive) (here : Bool) (table : List Bool) → directive ≡ get_or directives (length directives - 1 - behind) other
      → here ≡ leaves_first (directive ∷ drop (length directives - 1 - behind + 1) directives) → IsTable table (directive ∷ drop (length directives - 1 - behind + 1) directives)
      → AreFound directives (behind + 1) table (set leaves (length directives - 1 - behind) here)
  found_next directive other here table is answer fits =
      let place : ℕ = length directives - 1 - behind in
      let inside : place < length directives = omega (arith, lt) in
      let same : drop place directives ≡ directive ∷ drop (place + 1) directives =
      at_drop_more (λ (ds : List Directive). ds) directives place other inside ∙ ap (λ (d : Directive). d ∷ drop (place + 1) directives) (sym is) in
      let there : place < length leaves = omega (arith, inside, h.count) in
      let others : drop (place + 1) leaves ≡ leaves_of (drop (place + 1) directives) =
      ap (λ (k : ℕ). drop k leaves) (sym place_is) ∙ h.found ∙ ap (λ (k : ℕ). leaves_of (drop k directives)) place_is in
      record {
        table = rw next_is (subst (IsTable table) (sym same) fits);
        count = length-set leaves place here ∙ h.count;
        found = rw next_is (drop-set leaves place here there ∙ ap₂ (λ (b : Bool) (bs : List Bool). b ∷ bs) answer others ∙ ap leaves_of (sym same));
      }

pub found_all : (directives : List Directive) (behind : ℕ) (left leaves : List Bool) → AreFound directives behind left leaves → length directives ≤ behind → leaves ≡ leaves_of directives
found_all directives behind left leaves h le =
    let none : length directives - behind ≡ 0 = omega arith in
    ap (λ (k : ℕ). drop k leaves) (sym none) ∙ h.found ∙ ap (λ (k : ℕ). leaves_of (drop k directives)) none

-- ---- a part's answer

leaves_count : (directives : List Directive) → length (leaves_of directives) ≡ length directives
leaves_count [] = refl
leaves_count (d ∷ ds) = ap suc (leaves_count ds)

leaves_get : (directives : List Directive) (d : ℕ) (other : Bool) → d < length directives → slice_index_or (leaves_of directives) d other ≡ leaves_at directives d
leaves_get [] d other lt = absurd (omega arith)
leaves_get (x ∷ xs) zero other lt = refl
leaves_get (x ∷ xs) (suc d) other lt = leaves_get xs d other (omega arith)

issue_within : (directives : List Directive) (d : ℕ) → is_issue_out (slice_get directives d) ≡ true → d < length directives
issue_within directives d h = go (slice_get directives d) refl h where
  go : (o : Option Directive) → slice_get directives d ≡ o → is_issue_out o ≡ true → d < length directives
  go None e t = absurd (false≢true t)
  go (Some x) e t = slice_get_within directives d x e

pub answer_within : (directives : List Directive) (leaves : List Bool) (d : ℕ) → leaves ≡ leaves_of directives → is_issue_out (slice_get directives d) ≡ true → d < length leaves
answer_within directives leaves d is h =
    let count : length leaves ≡ length directives = ap length is ∙ leaves_count directives in
    let within = issue_within directives d h in omega (arith, count, within)

pub answer_is : (directives : List Directive) (leaves : List Bool) (d : ℕ) (other : Bool) → leaves ≡ leaves_of directives → is_issue_out (slice_get directives d) ≡ true
    → slice_index_or leaves d other ≡ leaves_at directives d
answer_is directives leaves d other is h = ap (λ (bs : List Bool). slice_index_or bs d other) is ∙ leaves_get directives d other (issue_within directives d h)
