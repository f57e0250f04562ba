-- What a writer adds, in front of whatever comes behind it.
use Rattle.std.proofs.Common.{◌≡◌, ℕ, ◌+◌, ◌≤◌, ◌<◌, Bool, true, false, List, [], ◌∷◌, ◌++◌, length, drop, get_or, refl, sym, ap, ◌∙◌, append_assoc, arith}
use Rattle.std.proofs.lemmas.List.{at_drop_more, at_drop_all}
use Rattle.std.specs.Int.{w8, w32, to_be_bytes}
use Rattle.mage_instr.specs.declared.replaced.Job.{Job}
use Rattle.mage_instr.specs.declared.directive.Directive.{Directive}
use Rattle.mage_file.specs.declared.section.Section.{Section}
use Rattle.mage_file.specs.declared.version.Version.{Version}
use Rattle.mage_file.specs.Rules.{is_const}
use Rattle.mage_file.specs.Formats.{Format, chain, done, either, field, number, spell_all}
use Rattle.mage_instr.specs.declared.directive.Directive.TheVariants as entry
use Rattle.mage_file.specs.Codes.{kind_of}
use Rattle.mage_file.specs.Grammar.{instruction, constant, job, row, row_in, directive_of, directive, store, told, section, sections_of}

pub adds : (old bytes more new : List ℕ) → new ≡ old ++ bytes → new ++ more ≡ old ++ (bytes ++ more)
adds old bytes more new e = ap (λ (t : List ℕ). t ++ more) e ∙ append_assoc old bytes more

pub constant_spelled : (j : Job) (more : List ℕ) → is_const j.op ≡ true → (job 0 0 j.op).spell j more ≡ to_be_bytes w8 j.width ++ (constant j.width).spell j more
unfolding job chain either field
constant_spelled j more e = rw e refl

pub instruction_spelled : (j : Job) (more : List ℕ) → is_const j.op ≡ false → (job 0 0 j.op).spell j more ≡ to_be_bytes w8 j.width ++ (instruction 0 0 j.op j.width).spell j more
unfolding job chain either field
instruction_spelled j more e = rw e refl

-- ---- lists of one format

module _ (X : Type 0) (f : Format X) where
  abbrev pub all : ℕ → List X → List ℕ → List ℕ
  all from xs more = spell_all (λ _. f) from xs more

  -- the i-th item is added
  pub adds_next : (xs : List X) (i : ℕ) (d : X) (more old mid new : List ℕ) → i < length xs
      → mid ++ all i (drop i xs) more ≡ old ++ all 0 xs more
      → ((behind : List ℕ) → new ++ behind ≡ mid ++ f.spell (get_or xs i d) behind)
      → new ++ all (i + 1) (drop (i + 1) xs) more ≡ old ++ all 0 xs more
  unfolding spell_all
  adds_next xs i d more old mid new lt so_far step =
      step (all (i + 1) (drop (i + 1) xs) more)
      ∙ ap (λ (t : List ℕ). mid ++ t) (sym (at_drop_more (λ ys. all i ys more) xs i d lt)) ∙ so_far

  pub adds_all : (xs : List X) (i : ℕ) (more old new : List ℕ) → length xs ≤ i
      → new ++ all i (drop i xs) more ≡ old ++ all 0 xs more → new ++ more ≡ old ++ all 0 xs more
  unfolding spell_all
  adds_all xs i more old new le so_far =
      ap (λ (t : List ℕ). new ++ t) (sym (at_drop_all (λ ys. all i ys more) xs i le)) ∙ so_far

-- sections from one on begin with the store and the directives of that one
pub sections_at : (stores : List ℕ) (workers : List (List Directive)) (i d : ℕ) (ds : List Directive) → i < length stores → i < length workers
    → sections_of (drop i stores) (drop i workers) ≡ record { pages = get_or stores i d; directives = get_or workers i ds } ∷ sections_of (drop (i + 1) stores) (drop (i + 1) workers)
sections_at stores workers i d ds p q =
    at_drop_more (λ ss. sections_of ss (drop i workers)) stores i d p
    ∙ at_drop_more (λ ws. sections_of (get_or stores i d ∷ drop (i + 1) stores) ws) workers i ds q

-- the section of the i-th worker is added
pub sections_next : (f : Format Section) (stores : List ℕ) (workers : List (List Directive)) (i : ℕ) (part : List Directive) (more old mid new : List ℕ)
    → i < length workers → length stores ≡ length workers → part ≡ get_or workers i part
    → mid ++ all Section f i (sections_of (drop i stores) (drop i workers)) more ≡ old ++ all Section f 0 (sections_of stores workers) more
    → ((behind : List ℕ) → new ++ behind ≡ mid ++ f.spell (record { pages = get_or stores i 0; directives = part }) behind)
    → new ++ all Section f (i + 1) (sections_of (drop (i + 1) stores) (drop (i + 1) workers)) more ≡ old ++ all Section f 0 (sections_of stores workers) more
unfolding spell_all
sections_next f stores workers i part more old mid new lt equal is so_far step =
    let there : i < length stores = omega (arith, lt, equal) in
    let others : List ℕ = all Section f (i + 1) (sections_of (drop (i + 1) stores) (drop (i + 1) workers)) more in
    step others
    ∙ ap (λ (ds : List Directive). mid ++ f.spell (record { pages = get_or stores i 0; directives = ds }) others) is
    ∙ ap (λ (ss : List Section). mid ++ all Section f i ss more) (sym (sections_at stores workers i 0 part there lt))
    ∙ so_far

pub sections_all : (f : Format Section) (stores : List ℕ) (workers : List (List Directive)) (i : ℕ) (more old new : List ℕ)
    → length workers ≤ i → length stores ≡ length workers
    → new ++ all Section f i (sections_of (drop i stores) (drop i workers)) more ≡ old ++ all Section f 0 (sections_of stores workers) more
    → new ++ more ≡ old ++ all Section f 0 (sections_of stores workers) more
unfolding spell_all
sections_all f stores workers i more old new le equal so_far =
    let past : length stores ≤ i = omega (arith, le, equal) in
    ap (λ (ss : List Section). new ++ all Section f i ss more) (sym (at_drop_all (λ ss. sections_of ss (drop i workers)) stores i past)) ∙ so_far

-- ---- directives but Do

abbrev pub is_row : Directive → Bool
is_row (entry.Do job) = false
is_row _ = true

rows_spelled : (e : Directive) (more : List ℕ) → is_row e ≡ true → (row true true true).spell (row_in e) more ≡ (directive_of 0 0 (kind_of e)).spell e more
unfolding directive_of row chain done field
rows_spelled (entry.Do j) more is = absurd cc
rows_spelled (entry.Fresh frame page) more is = refl
rows_spelled (entry.IssueIn slot page) more is = refl
rows_spelled (entry.FinishIn slot frame) more is = refl
rows_spelled (entry.IssueOut slot frame page) more is = refl
rows_spelled (entry.FinishOut slot) more is = refl

pub row_spelled : (d e : Directive) (more old : List ℕ) → d ≡ e → is_row e ≡ true → old ++ (row true true true).spell (row_in e) more ≡ old ++ (directive_of 0 0 (kind_of d)).spell d more
row_spelled d e more old same is = ap (λ (t : List ℕ). old ++ t) (rows_spelled e more is ∙ ap (λ (x : Directive). (directive_of 0 0 (kind_of x)).spell x more) (sym same))

-- ---- the bytes are the same in each worker's part

directive_same : (workers own : ℕ) (d : Directive) (more : List ℕ) → (directive 0 0).spell d more ≡ (directive workers own).spell d more
unfolding directive directive_of job instruction constant chain done either field
directive_same workers own (entry.Do j) more = refl
directive_same workers own (entry.Fresh frame page) more = refl
directive_same workers own (entry.IssueIn slot page) more = refl
directive_same workers own (entry.FinishIn slot frame) more = refl
directive_same workers own (entry.IssueOut slot frame page) more = refl
directive_same workers own (entry.FinishOut slot) more = refl

directives_same : (workers own from : ℕ) (ds : List Directive) (more : List ℕ) → spell_all (λ _. directive 0 0) from ds more ≡ spell_all (λ _. directive workers own) from ds more
unfolding spell_all
directives_same workers own from [] more = refl
directives_same workers own from (d ∷ ds) more =
    ap ((directive 0 0).spell d) (directives_same workers own (from + 1) ds more) ∙ directive_same workers own d (spell_all (λ _. directive workers own) (from + 1) ds more)

section_same : (v : Version) (workers own : ℕ) (s : Section) (more : List ℕ) → (section v 0 0).spell s more ≡ (section v workers own).spell s more
unfolding section chain done number
section_same v workers own s more =
    ap (λ (t : List ℕ). (store v).spell (told v s) (to_be_bytes w32 (length s.directives) ++ t)) (directives_same workers own 0 s.directives more)

pub sections_same : (v : Version) (workers from : ℕ) (ss : List Section) (more : List ℕ) → spell_all (λ _. section v 0 0) from ss more ≡ spell_all (section v workers) from ss more
unfolding spell_all
sections_same v workers from [] more = refl
sections_same v workers from (s ∷ ss) more =
    ap ((section v 0 0).spell s) (sections_same v workers (from + 1) ss more) ∙ section_same v workers from s (spell_all (section v workers) (from + 1) ss more)
