-- How long a spelling is.
use Rattle.std.proofs.Common.{◌≡◌, ℕ, zero, suc, ◌+◌, ◌*◌, Bool, true, false, List, [], ◌∷◌, ◌++◌, length, map, refl, sym, ap, ◌∙◌, arith}
use Rattle.std.specs.Int.{w32, to_be_bytes}
use Rattle.std.specs.List.{sum, sum_by}
use Rattle.std.proofs.lemmas.List.{length-map}
use Rattle.std.proofs.lemmas.List.Sums.{sum-map, sum_by-cons}
use Rattle.mage_instr.specs.declared.replaced.Job.{Job}
use Rattle.mage_instr.specs.declared.directive.Directive.{Directive}
use Rattle.mage_instr.specs.declared.directive.Directive.TheVariants as entry
use Rattle.mage_instr.specs.declared.directive.MemProgram.{MemProgram}
use Rattle.mage_file.specs.declared.section.Section.{Section}
use Rattle.mage_file.specs.declared.version.Version.{Version}
use Rattle.mage_file.specs.declared.version.Version.TheVariants as version
use Rattle.mage_file.specs.Rules.{is_const}
use Rattle.mage_file.specs.Formats.{Format, chain, done, either, field, number, text, spell_all}
use Rattle.mage_file.specs.Grammar.{spot, instruction, constant, job, row, code, directive_of, directive, store, told, section, sections_of, sections_in, limits, head, file, spelling_in}
use Rattle.mage_file.specs.Laws.{part_bytes, directives_in, bytes_in, SpellsSoLong, FitsAgain}

-- one more, so many times
abbrev past : (k n : ℕ) → ℕ
past zero n = n
past (suc k) n = suc (past k n)

past_is : (k n : ℕ) → past k n ≡ k + n
past_is zero n = let none : n ≡ 0 + n = omega arith in none
past_is (suc k) n = let next : suc (k + n) ≡ suc k + n = omega arith in ap suc (past_is k n) ∙ next

-- ---- directives

-- what is spelled is `n` bytes longer than what stands behind it
abbrev Adds : {A : Type 0} → Format A → A → (n : ℕ) → Type 0
Adds f x n = (more : List ℕ) → length (f.spell x more) ≡ n + length more

either_adds : {A : Type 0} (b : Bool) (one other : Format A) (x : A) (n : ℕ) → Adds one x n → Adds other x n → Adds (either b one other) x n
unfolding either
either_adds true one other x n p q = p
either_adds false one other x n p q = q

instruction_adds : (workers own : ℕ) (j : Job) → Adds (instruction workers own j.op j.width) j 18
unfolding instruction spot chain done field
instruction_adds workers own j more = past_is 18 (length more)

constant_adds : (j : Job) → Adds (constant j.width) j 18
unfolding constant spot chain done field
constant_adds j more = past_is 18 (length more)

behind_adds : (workers own : ℕ) (j : Job) → Adds (either (is_const j.op) (constant j.width) (instruction workers own j.op j.width)) j 18
behind_adds workers own j = either_adds (is_const j.op) (constant j.width) (instruction workers own j.op j.width) j 18 (constant_adds j) (instruction_adds workers own j)

two_more : (n : ℕ) → suc (suc (18 + n)) ≡ 20 + n
two_more n = omega arith

directive_adds : (workers own : ℕ) (d : Directive) → Adds (directive workers own) d 20
unfolding directive directive_of code job row chain done field
directive_adds workers own (entry.Do j) more = ap (λ (n : ℕ). suc (suc n)) (behind_adds workers own j more) ∙ two_more (length more)
directive_adds workers own (entry.Fresh frame page) more = past_is 20 (length more)
directive_adds workers own (entry.IssueIn slot page) more = past_is 20 (length more)
directive_adds workers own (entry.FinishIn slot frame) more = past_is 20 (length more)
directive_adds workers own (entry.IssueOut slot frame page) more = past_is 20 (length more)
directive_adds workers own (entry.FinishOut slot) more = past_is 20 (length more)

directives_add : (workers own from : ℕ) (ds : List Directive) (more : List ℕ) → length (spell_all (λ _. directive workers own) from ds more) ≡ 20 * length ds + length more
unfolding spell_all
directives_add workers own from [] more = let none : length more ≡ 20 * 0 + length more = omega arith in none
directives_add workers own from (d ∷ ds) more =
    let first = directive_adds workers own d (spell_all (λ _. directive workers own) (from + 1) ds more) in
    let others = directives_add workers own (from + 1) ds more in
    omega (arith, first, others)

-- ---- sections

store_adds : (v : Version) (s : Section) (more : List ℕ) → 4 + length ((store v).spell (told v s) more) ≡ part_bytes v + length more
unfolding store done field
store_adds version.First s more = refl
store_adds version.Second s more = let four : 4 + past 4 (length more) ≡ 8 + length more = omega (arith, past_is 4 (length more)) in four

section_adds : (v : Version) (workers own : ℕ) (s : Section) (more : List ℕ) → length ((section v workers own).spell s more) ≡ part_bytes v + 20 * length s.directives + length more
unfolding section chain done number
section_adds v workers own s more =
    let behind : List ℕ = spell_all (λ _. directive workers own) 0 s.directives more in
    let counted : List ℕ = to_be_bytes w32 (length s.directives) ++ behind in
    let long : length counted ≡ 4 + length behind = past_is 4 (length behind) in
    let told_long = store_adds v s counted in
    let listed = directives_add workers own 0 s.directives more in
    omega (arith, long, told_long, listed)

-- how many directives some sections have
abbrev total : List Section → ℕ
total ss = sum_by (λ part. length part) (map (λ s. s.directives) ss)

total_more : (s : Section) (ss : List Section) → total (s ∷ ss) ≡ length s.directives + total ss
total_more s ss = sum_by-cons (λ part. length part) s.directives (map (λ s. s.directives) ss)

sections_add : (v : Version) (workers from : ℕ) (ss : List Section) (more : List ℕ)
    → length (spell_all (section v workers) from ss more) ≡ part_bytes v * length ss + 20 * total ss + length more
unfolding spell_all
sections_add version.First workers from [] more = let none : length more ≡ 4 * 0 + 20 * 0 + length more = omega arith in none
sections_add version.Second workers from [] more = let none : length more ≡ 8 * 0 + 20 * 0 + length more = omega arith in none
sections_add version.First workers from (s ∷ ss) more =
    let first = section_adds version.First workers from s (spell_all (section version.First workers) (from + 1) ss more) in
    let others = sections_add version.First workers (from + 1) ss more in
    omega (arith, first, others, total_more s ss)
sections_add version.Second workers from (s ∷ ss) more =
    let first = section_adds version.Second workers from s (spell_all (section version.Second workers) (from + 1) ss more) in
    let others = sections_add version.Second workers (from + 1) ss more in
    omega (arith, first, others, total_more s ss)

-- ---- whole files

parts_back : (stores : List ℕ) (parts : List (List Directive)) → length stores ≡ length parts → map (λ s. s.directives) (sections_of stores parts) ≡ parts
parts_back [] [] e = refl
parts_back [] (part ∷ parts) e = absurd (omega arith)
parts_back (pages ∷ stores) [] e = absurd (omega arith)
parts_back (pages ∷ stores) (part ∷ parts) e = ap (λ (others : List (List Directive)). part ∷ others) (parts_back stores parts (omega arith))

file_adds : (v : Version) (m : MemProgram) → length (spelling_in v m) ≡ 28 + length (spell_all (section v (length m.workers)) 0 (sections_in m) [])
unfolding file head limits text chain done field
file_adds version.First m = past_is 28 (length (spell_all (section version.First (length m.workers)) 0 (sections_in m) []))
file_adds version.Second m = past_is 28 (length (spell_all (section version.Second (length m.workers)) 0 (sections_in m) []))

spelled_long : (v : Version) (m : MemProgram) → length m.stores ≡ length m.workers → length (spelling_in v m) ≡ bytes_in v m
spelled_long v m e =
    let parts : map (λ s. s.directives) (sections_in m) ≡ m.workers = parts_back m.stores m.workers e in
    let same : length (sections_in m) ≡ length m.workers = sym (length-map (sections_in m) (λ s. s.directives)) ∙ ap (λ (xs : List (List Directive)). length xs) parts in
    let sections : length (spell_all (section v (length m.workers)) 0 (sections_in m) []) ≡ part_bytes v * length (sections_in m) + 20 * total (sections_in m) + 0 =
    sections_add v (length m.workers) 0 (sections_in m) [] in
    let counts : part_bytes v * length (sections_in m) ≡ part_bytes v * length m.workers = ap (λ (n : ℕ). part_bytes v * n) same in
    let totals : total (sections_in m) ≡ directives_in m = ap (λ (xs : List (List Directive)). sum_by (λ part. length part) xs) parts in
    omega (arith, file_adds v m, sections, counts, totals)

pub so_long : SpellsSoLong
so_long m e = record { first = spelled_long version.First m e; second = spelled_long version.Second m e }

-- ---- programs that are alike

alike_total : (xs ys : List (List Directive)) → map (λ part. length part) xs ≡ map (λ part. length part) ys → sum_by (λ part. length part) xs ≡ sum_by (λ part. length part) ys
alike_total xs ys e = sym (sum-map (λ part. length part) xs) ∙ ap (λ (ns : List ℕ). sum ns) e ∙ sum-map (λ part. length part) ys

alike_count : (xs ys : List (List Directive)) → map (λ part. length part) xs ≡ map (λ part. length part) ys → length xs ≡ length ys
alike_count xs ys e = sym (length-map xs (λ part. length part)) ∙ ap (λ (ns : List ℕ). length ns) e ∙ length-map ys (λ part. length part)

pub fits : FitsAgain
fits old new range short counted alike =
    let before = so_long old range.counted in
    let behind = so_long new counted in
    let workers = alike_count new.workers old.workers alike in
    let totals = alike_total new.workers old.workers alike in
    omega (arith, before.first, behind.second, workers, totals, range.few, short)
