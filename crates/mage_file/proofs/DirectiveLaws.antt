-- A directive is read exactly where it is one of the worker's, in range.
use Rattle.std.proofs.Common.{◌≡◌, ℕ, ◌^◌, ◌<◌, Bool, true, false, cond, eqb, eqb-true, List, [], ◌∷◌, ◌++◌, Option, Some, None, Result, Ok, refl, sym, ap, subst, ◌∙◌, arith, lit<}
use Rattle.std.specs.Int.{w8, w16, w32, to_be_bytes}
use Rattle.std.specs.List.{find}
use Rattle.mage_instr.specs.declared.op.Op.{Op}
use Rattle.mage_instr.specs.declared.op.Op.TheVariants as op
use Rattle.mage_instr.specs.declared.replaced.Job.{Job}
use Rattle.mage_instr.specs.declared.directive.Directive.{Directive}
use Rattle.mage_instr.specs.declared.directive.Directive.TheVariants as entry
use Rattle.mage_directives.specs.Directives.{most_pages, IsDirective}
use Rattle.mage_file.specs.declared.fault.FileFault.{FileFault}
use Rattle.mage_file.specs.declared.kind.Kind.{Kind}
use Rattle.mage_file.specs.declared.kind.Kind.TheVariants as kind
use Rattle.mage_file.specs.declared.kind.Row.{Row}
use Rattle.mage_file.specs.Codes.{code_of, kinds, kind_with, kind_of}
use Rattle.mage_file.specs.Rules.{within, most_if, most_of_two_bytes, greatest_page}
use Rattle.mage_file.specs.Formats.{Rest, after, Format, ◌of◌, chain, done, number_of, number, field, place}
use Rattle.mage_file.specs.Laws.{AreBytes, IsDirectiveValue}
use Rattle.mage_file.specs.Grammar.{job, row, row_in, job_in, known, code, directive_of, directive}
use Rattle.mage_file.proofs.Spells.{after_ok, ok_is, left_with, Spells, spells_done, spells_chain, spells_made, respelled}
use Rattle.mage_file.proofs.FieldLaws.{Fields, wide8, wide16, wide32, spells_number, spells_field, within_is, is_within, zero_then}
use Rattle.mage_file.proofs.JobLaws.{Half, half, half_of, absent, Is, spells_job}

-- ---- rows

abbrev pub Page : Bool → ℕ → Type 0
Page there = Fields (2 ^ 32) (within 0 (most_if there greatest_page))

abbrev pub made : (slot frame page : ℕ) → Row
made slot frame page = record { slot = slot; frame = frame; page = page }

-- the fields of a row that may be other than 0
abbrev pub IsRow : (slot frame page : Bool) → Row → Type 0
IsRow slot frame page y = Half slot y.slot × (Half frame y.frame × (Page page y.page × (y ≡ made y.slot y.frame y.page)))

pub spells_row : (slot frame page : Bool) → Spells Row (row slot frame page) (IsRow slot frame page)
unfolding row
spells_row slot frame page =
    let last : ℕ → ℕ → ℕ → ℕ → Format Row = λ s f p none. done (made s f p) in
    let before_last : ℕ → ℕ → ℕ → ℕ → Format Row = λ s f p none. chain (field w32 (within 0 0) of (λ (r : Row). 0)) (last s f p) in
    let with_page : ℕ → ℕ → ℕ → Format Row = λ s f p. chain (field w32 (within 0 0) of (λ (r : Row). 0)) (before_last s f p) in
    let with_gap : ℕ → ℕ → ℕ → Format Row = λ s f none. chain (field w32 (within 0 (most_if page greatest_page)) of (λ (r : Row). r.page)) (with_page s f) in
    let with_frame : ℕ → ℕ → Format Row = λ s f. chain (field w16 (within 0 0) of (λ (r : Row). 0)) (with_gap s f) in
    let with_slot : ℕ → Format Row = λ s. chain (field w16 (within 0 (most_if frame most_of_two_bytes)) of (λ (r : Row). r.frame)) (with_frame s) in
    let start : ℕ → Format Row = λ none. chain (field w16 (within 0 (most_if slot most_of_two_bytes)) of (λ (r : Row). r.slot)) with_slot in
    zero_then Row w8 (2 ^ 8) start (IsRow slot frame page) wide8 (lit< tt)
    (spells_chain ℕ Row (field w16 (within 0 (most_if slot most_of_two_bytes))) (λ y. y.slot) with_slot
    (Half slot) (λ s y. Half frame y.frame × (Page page y.page × (y ≡ made s y.frame y.page))) (half slot)
    (λ s _. spells_chain ℕ Row (field w16 (within 0 (most_if frame most_of_two_bytes))) (λ y. y.frame) (with_frame s)
    (Half frame) (λ f y. Page page y.page × (y ≡ made s f y.page)) (half frame)
    (λ f _. zero_then Row w16 (2 ^ 16) (with_gap s f) (λ y. Page page y.page × (y ≡ made s f y.page)) wide16 (lit< tt)
    (spells_chain ℕ Row (field w32 (within 0 (most_if page greatest_page))) (λ y. y.page) (with_page s f)
    (Page page) (λ p y. y ≡ made s f p) (spells_field w32 (2 ^ 32) (within 0 (most_if page greatest_page)) wide32)
    (λ p _. zero_then Row w32 (2 ^ 32) (before_last s f p) (λ y. y ≡ made s f p) wide32 (lit< tt)
    (zero_then Row w32 (2 ^ 32) (last s f p) (λ y. y ≡ made s f p) wide32 (lit< tt) (spells_done Row (made s f p))))
    (λ p y has q. ap (λ (z : Row). z.page) q)))
    (λ f y has q. ap (λ (z : Row). z.frame) q.1))
    (λ s y has q. ap (λ (z : Row). z.slot) q.1.1))

-- ---- kinds

found_at : {X : Type 0} (p : X → Bool) (y x : X) (others : Option X) (b : Bool) → p y ≡ b → (others ≡ Some x → p x ≡ true) → cond b (Some y) others ≡ Some x → p x ≡ true
found_at p y x others true passes more e = let same : y ≡ x = cc in ap p (sym same) ∙ passes
found_at p y x others false passes more e = more e

found_passes : {X : Type 0} (p : X → Bool) (xs : List X) (x : X) → find p xs ≡ Some x → p x ≡ true
found_passes p [] x e = absurd cc
found_passes p (y ∷ xs) x e = found_at p y x (find p xs) (p y) refl (found_passes p xs x) e

kind_is : (n : ℕ) (k : Kind) → kind_with n ≡ Some k → code_of k ≡ n
unfolding kind_with
kind_is n k e = eqb-true (code_of k) n (found_passes (λ k. eqb (code_of k) n) kinds k e)

kind_back : (k : Kind) → kind_with (code_of k) ≡ Some k
unfolding kind_with
kind_back (kind.Do op.Input) = refl
kind_back (kind.Do op.Const) = refl
kind_back (kind.Do op.Output) = refl
kind_back (kind.Do op.Add) = refl
kind_back (kind.Do op.Sub) = refl
kind_back (kind.Do op.Mul) = refl
kind_back (kind.Do op.And) = refl
kind_back (kind.Do op.Or) = refl
kind_back (kind.Do op.Xor) = refl
kind_back (kind.Do op.Not) = refl
kind_back (kind.Do op.Eq) = refl
kind_back (kind.Do op.Lt) = refl
kind_back (kind.Do op.Mux) = refl
kind_back (kind.Do op.Shl) = refl
kind_back (kind.Do op.Shr) = refl
kind_back (kind.Do op.Resize) = refl
kind_back (kind.Do op.Send) = refl
kind_back (kind.Do op.Recv) = refl
kind_back (kind.Do op.Div) = refl
kind_back (kind.Do op.Rem) = refl
kind_back (kind.Do op.Count) = refl
kind_back (kind.Do op.Min) = refl
kind_back (kind.Do op.Max) = refl
kind_back kind.Fresh = refl
kind_back kind.IssueIn = refl
kind_back kind.FinishIn = refl
kind_back kind.IssueOut = refl
kind_back kind.FinishOut = refl

code_small : (k : Kind) → code_of k < 2 ^ 8
code_small (kind.Do op.Input) = lit< tt
code_small (kind.Do op.Const) = lit< tt
code_small (kind.Do op.Output) = lit< tt
code_small (kind.Do op.Add) = lit< tt
code_small (kind.Do op.Sub) = lit< tt
code_small (kind.Do op.Mul) = lit< tt
code_small (kind.Do op.And) = lit< tt
code_small (kind.Do op.Or) = lit< tt
code_small (kind.Do op.Xor) = lit< tt
code_small (kind.Do op.Not) = lit< tt
code_small (kind.Do op.Eq) = lit< tt
code_small (kind.Do op.Lt) = lit< tt
code_small (kind.Do op.Mux) = lit< tt
code_small (kind.Do op.Shl) = lit< tt
code_small (kind.Do op.Shr) = lit< tt
code_small (kind.Do op.Resize) = lit< tt
code_small (kind.Do op.Send) = lit< tt
code_small (kind.Do op.Recv) = lit< tt
code_small (kind.Do op.Div) = lit< tt
code_small (kind.Do op.Rem) = lit< tt
code_small (kind.Do op.Count) = lit< tt
code_small (kind.Do op.Min) = lit< tt
code_small (kind.Do op.Max) = lit< tt
code_small kind.Fresh = lit< tt
code_small kind.IssueIn = lit< tt
code_small kind.FinishIn = lit< tt
code_small kind.IssueOut = lit< tt
code_small kind.FinishOut = lit< tt

known_ok : (at_place : ℕ) (k : Option Kind) (left : Rest) (x : Kind × Rest) → known at_place k left ≡ Ok x → (k ≡ Some x.0) × (left ≡ x.1)
known_ok at_place (Some k) left x e = let same = ok_is (k, left) x e in (ap (λ (p : Kind × Rest). Some p.0) same, ap (λ (p : Kind × Rest). p.1) same)
known_ok at_place None left x e = absurd cc

pub spells_code : Spells Kind code (λ k. Unit {0})
unfolding code number
spells_code =
    let of_number : Spells ℕ (number w8) (λ n. n < 2 ^ 8) = spells_number w8 (2 ^ 8) wide8 in record {
      takes = λ rest x fits e.
          let step = after_ok (number_of w8 rest) (λ n left. known (place rest) (kind_with n) left) x e in
          let taken = of_number.takes rest step.0 fits step.1 in
          let found = known_ok (place rest) (kind_with step.0.0) step.0.1 x step.2 in
          let same : code_of x.0 ≡ step.0.0 = kind_is step.0.0 x.0 found.0 in (
            taken.0 ∙ ap (λ (n : ℕ). to_be_bytes w8 n ++ step.0.1.bytes) (sym same) ∙ ap (λ (left : Rest). to_be_bytes w8 (code_of x.0) ++ left.bytes) found.1,
            subst (λ (left : Rest). AreBytes left.bytes) found.1 taken.1,
            tt,
          );
      again = λ k more total rule.
          let rest : Rest = left_with (to_be_bytes w8 (code_of k) ++ more) total in
          let follows : ℕ → Rest → Result (Kind × Rest) FileFault = λ n behind. known (place rest) (kind_with n) behind in
          ap (λ (z : Result (ℕ × Rest) FileFault). after z follows) (of_number.again (code_of k) more total (code_small k))
          ∙ ap (λ (o : Option Kind). known (place rest) o (left_with more total)) (kind_back k);
    }

-- ---- directives

-- a directive of the worker, with numbers that its fields can hold
abbrev pub IsRight : (workers own : ℕ) → Directive → Type 0
IsRight workers own d = IsDirective workers own d × IsDirectiveValue d

abbrev pub IsOf : (workers own : ℕ) → Kind → Directive → Type 0
IsOf workers own k d = (kind_of d ≡ k) × IsRight workers own d

no_page : (n : ℕ) → Page false n → n ≡ 0
no_page n h = omega (arith, (within_is 0 0 n h.1).1)

some_page : (n : ℕ) → Page true n → n < most_pages
some_page n h = omega (arith, (within_is 0 greatest_page n h.1).1)

page_of : (n : ℕ) → n < most_pages → Page true n
page_of n lt = (omega arith, is_within 0 greatest_page n (omega arith) (omega arith))

page_zero : Page false 0
page_zero = (lit< tt, refl)

half_zero : Half false 0
half_zero = (lit< tt, refl)

half_there : (n : ℕ) → n < 2 ^ 16 → Half true n
half_there n lt = half_of true n lt (λ e. absurd cc)

module _ (workers own : ℕ) where
  back_Fresh : (y : Directive) → IsOf workers own kind.Fresh y → IsRow false true true (row_in y) × (y ≡ entry.Fresh (row_in y).frame (row_in y).page)
  back_Fresh (entry.Fresh frame page) q = ((half_zero, (half_there frame q.1.1, (page_of page q.1.0, refl))), refl)
  back_Fresh _ q = absurd cc

  spells_Fresh : Spells Directive (directive_of workers own kind.Fresh) (IsOf workers own kind.Fresh)
  unfolding directive_of
  spells_Fresh =
      spells_made Row Directive (row false true true) row_in (λ r. entry.Fresh r.frame r.page) (IsRow false true true) (IsOf workers own kind.Fresh)
      (spells_row false true true)
      (λ r q. ap (λ (n : ℕ). made n r.frame r.page) (sym (absent r.slot q.0)))
      (λ r q. (refl, (some_page r.page q.1.1.0, q.1.0.0)))
      back_Fresh

  back_IssueIn : (y : Directive) → IsOf workers own kind.IssueIn y → IsRow true false true (row_in y) × (y ≡ entry.IssueIn (row_in y).slot (row_in y).page)
  back_IssueIn (entry.IssueIn slot page) q = ((half_there slot q.1.1, (half_zero, (page_of page q.1.0, refl))), refl)
  back_IssueIn _ q = absurd cc

  spells_IssueIn : Spells Directive (directive_of workers own kind.IssueIn) (IsOf workers own kind.IssueIn)
  unfolding directive_of
  spells_IssueIn =
      spells_made Row Directive (row true false true) row_in (λ r. entry.IssueIn r.slot r.page) (IsRow true false true) (IsOf workers own kind.IssueIn)
      (spells_row true false true)
      (λ r q. ap (λ (n : ℕ). made r.slot n r.page) (sym (absent r.frame q.1.0)))
      (λ r q. (refl, (some_page r.page q.1.1.0, q.0.0)))
      back_IssueIn

  back_FinishIn : (y : Directive) → IsOf workers own kind.FinishIn y → IsRow true true false (row_in y) × (y ≡ entry.FinishIn (row_in y).slot (row_in y).frame)
  back_FinishIn (entry.FinishIn slot frame) q = ((half_there slot q.1.1.0, (half_there frame q.1.1.1, (page_zero, refl))), refl)
  back_FinishIn _ q = absurd cc

  spells_FinishIn : Spells Directive (directive_of workers own kind.FinishIn) (IsOf workers own kind.FinishIn)
  unfolding directive_of
  spells_FinishIn =
      spells_made Row Directive (row true true false) row_in (λ r. entry.FinishIn r.slot r.frame) (IsRow true true false) (IsOf workers own kind.FinishIn)
      (spells_row true true false)
      (λ r q. ap (λ (n : ℕ). made r.slot r.frame n) (sym (no_page r.page q.1.1.0)))
      (λ r q. (refl, (tt, (q.0.0, q.1.0.0))))
      back_FinishIn

  back_IssueOut : (y : Directive) → IsOf workers own kind.IssueOut y → IsRow true true true (row_in y) × (y ≡ entry.IssueOut (row_in y).slot (row_in y).frame (row_in y).page)
  back_IssueOut (entry.IssueOut slot frame page) q = ((half_there slot q.1.1.0, (half_there frame q.1.1.1, (page_of page q.1.0, refl))), refl)
  back_IssueOut _ q = absurd cc

  spells_IssueOut : Spells Directive (directive_of workers own kind.IssueOut) (IsOf workers own kind.IssueOut)
  unfolding directive_of
  spells_IssueOut =
      spells_made Row Directive (row true true true) row_in (λ r. entry.IssueOut r.slot r.frame r.page) (IsRow true true true) (IsOf workers own kind.IssueOut)
      (spells_row true true true)
      (λ r q. refl)
      (λ r q. (refl, (some_page r.page q.1.1.0, (q.0.0, q.1.0.0))))
      back_IssueOut

  back_FinishOut : (y : Directive) → IsOf workers own kind.FinishOut y → IsRow true false false (row_in y) × (y ≡ entry.FinishOut (row_in y).slot)
  back_FinishOut (entry.FinishOut slot) q = ((half_there slot q.1.1, (half_zero, (page_zero, refl))), refl)
  back_FinishOut _ q = absurd cc

  spells_FinishOut : Spells Directive (directive_of workers own kind.FinishOut) (IsOf workers own kind.FinishOut)
  unfolding directive_of
  spells_FinishOut =
      spells_made Row Directive (row true false false) row_in (λ r. entry.FinishOut r.slot) (IsRow true false false) (IsOf workers own kind.FinishOut)
      (spells_row true false false)
      (λ r q. ap (λ (n : ℕ). made r.slot n 0) (sym (absent r.frame q.1.0)) ∙ ap (λ (n : ℕ). made r.slot r.frame n) (sym (no_page r.page q.1.1.0)))
      (λ r q. (refl, (tt, q.0.0)))
      back_FinishOut

  back_Do : (o : Op) (y : Directive) → IsOf workers own (kind.Do o) y → Is workers own o (job_in y) × (y ≡ entry.Do (job_in y))
  back_Do o (entry.Do j) q = (record { of_op = cc; in_range = q.1.0; value = q.1.1 }, refl)
  back_Do o _ q = absurd cc

  spells_Do : (o : Op) → Spells Directive (directive_of workers own (kind.Do o)) (IsOf workers own (kind.Do o))
  unfolding directive_of
  spells_Do o =
      spells_made Job Directive (job workers own o) job_in (λ j. entry.Do j) (Is workers own o) (IsOf workers own (kind.Do o))
      (spells_job workers own o) (λ j q. refl) (λ j q. (ap (λ (p : Op). kind.Do p) q.of_op, (q.in_range, q.value))) (back_Do o)

  spells_of : (k : Kind) → Spells Directive (directive_of workers own k) (IsOf workers own k)
  spells_of (kind.Do o) = spells_Do o
  spells_of kind.Fresh = spells_Fresh
  spells_of kind.IssueIn = spells_IssueIn
  spells_of kind.FinishIn = spells_FinishIn
  spells_of kind.IssueOut = spells_IssueOut
  spells_of kind.FinishOut = spells_FinishOut

  pub spells_directive : Spells Directive (directive workers own) (IsRight workers own)
  unfolding directive
  spells_directive =
      respelled Directive (directive workers own) (λ d. Unit {0} × IsOf workers own (kind_of d) d) (IsRight workers own)
      (spells_chain Kind Directive code kind_of (directive_of workers own) (λ _. Unit {0}) (IsOf workers own)
      spells_code (λ k _. spells_of k) (λ k d p q. q.0))
      (λ d q. q.1.1) (λ d q. (tt, (refl, q)))
