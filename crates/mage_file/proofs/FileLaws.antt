-- A file is read exactly where it is the spelling of a memory program in range, in both versions.
use Rattle.std.proofs.Common.{◌≡◌, ℕ, zero, suc, ◌+◌, ◌^◌, ◌<◌, ◌≤◌, false, ltb, eqb, eqb-true, List, [], ◌∷◌, length, map, Result, Ok, Err, refl, sym, ap, ap₂, subst, ◌∙◌, arith, lit<}
use Rattle.std.specs.Prelude.{codes, slice_get, IfSome, IfOk}
use Rattle.std.specs.Int.{w16, w32}
use Rattle.std.specs.List.{AllByRecursion}
use Rattle.std.proofs.lemmas.Bool.{ltb-false, le-ltb}
use Rattle.std.proofs.lemmas.List.{length-map, nil_from_length}
use Rattle.mage_instr.specs.declared.replaced.Limits.{Limits}
use Rattle.mage_instr.specs.declared.directive.Directive.{Directive}
use Rattle.mage_instr.specs.declared.directive.Directive.TheVariants as entry
use Rattle.mage_instr.specs.declared.directive.MemProgram.{MemProgram}
use Rattle.mage_instr.specs.Limits.{AreInRange}
use Rattle.mage_instr.specs.Opcodes.{most_workers}
use Rattle.mage_directives.specs.Directives.{most_pages, IsDirective, IsPart, IsMemProgram}
use Rattle.mage_file.specs.declared.fault.FileFault.{FileFault}
use Rattle.mage_file.specs.declared.fault.FileFault.TheVariants as faults
use Rattle.mage_file.specs.declared.left.Left.{Left}
use Rattle.mage_file.specs.declared.section.Section.{Section}
use Rattle.mage_file.specs.declared.version.Version.{Version}
use Rattle.mage_file.specs.declared.version.Version.TheVariants as version
use Rattle.mage_file.specs.Stores.{above, store_above, pages_in}
use Rattle.mage_file.specs.Rules.{within}
use Rattle.mage_file.specs.Formats.{Rest, rest_of, Format, ◌of◌, chain, done, number, field, text, listed, place, Gives}
use Rattle.mage_file.specs.Laws.{AreBytes, IsDirectiveValue, IsValue, IsFileOf, IsFirstFileOf, ReadsExactly, ReadsBack, ReadsFirstExactly, ReadsFirstBack}
use Rattle.mage_file.specs.Grammar.{directive, store, told, section, sections_of, sections_in, limits, digits, head, program_of, file, ended, most_in, spelling_in, read_in, read_of, read_first_of}
use Rattle.mage_file.proofs.Spells.{right, left_with, Spells, spells_done, spells_chain, respelled, AllFrom, AreListed, spells_listed}
use Rattle.mage_file.proofs.FieldLaws.{Fields, wide16, wide32, spells_number, spells_field, guard_ok, passed_ok, within_is, is_within, zero_then, text_then}
use Rattle.mage_file.proofs.DirectiveLaws.{IsRight, spells_directive}
use Rattle.mage_file.proofs.LimitLaws.{spells_limits}

-- ---- the part of a worker

all_of : {X : Type 0} (P : X → Type 0) (from : ℕ) (xs : List X) → AllFrom (λ _. P) from xs → AllByRecursion P xs
all_of P from [] all = tt
all_of P from (x ∷ xs) all = (all.0, all_of P (from + 1) xs all.1)

of_all : {X : Type 0} (P : X → Type 0) (from : ℕ) (xs : List X) → AllByRecursion P xs → AllFrom (λ _. P) from xs
of_all P from [] all = tt
of_all P from (x ∷ xs) all = (all.0, of_all P (from + 1) xs all.1)

-- the pages of a section are in range, or what its directives say
abbrev pub Kept : Version → Section → Type 0
Kept version.First s = s.pages ≡ store_above s.directives
Kept version.Second s = Fields (2 ^ 32) (within 0 most_pages) s.pages

abbrev pub IsSection : Version → (workers own : ℕ) → Section → Type 0
IsSection v workers own s = Kept v s × ((length s.directives < 2 ^ 32) × AllByRecursion (IsRight workers own) s.directives)

abbrev made : Version → (pages : ℕ) → List Directive → Section
made v pages directives = record { pages = pages_in v pages directives; directives = directives }

-- the numbers that are told
abbrev pub IsTold : Version → ℕ → Type 0
IsTold version.First n = n ≡ 0
IsTold version.Second n = Fields (2 ^ 32) (within 0 most_pages) n

spells_store : (v : Version) → Spells ℕ (store v) (IsTold v)
unfolding store
spells_store version.First = spells_done ℕ 0
spells_store version.Second = spells_field w32 (2 ^ 32) (within 0 most_pages) wide32

told_is : (v : Version) (n : ℕ) (ds : List Directive) → IsTold v n → told v (made v n ds) ≡ n
told_is version.First n ds is = sym is
told_is version.Second n ds is = refl

kept_of : (v : Version) (s : Section) → IsTold v (told v s) → s ≡ made v (told v s) s.directives → Kept v s
kept_of version.First s is e = ap (λ (z : Section). z.pages) e
kept_of version.Second s is e = is

of_kept : (v : Version) (s : Section) → Kept v s → IsTold v (told v s) × (s ≡ made v (told v s) s.directives)
of_kept version.First s kept = (refl, ap (λ (n : ℕ). made version.Second n s.directives) kept)
of_kept version.Second s kept = (kept, refl)

spells_section : (v : Version) (workers own : ℕ) → Spells Section (section v workers own) (IsSection v workers own)
unfolding section
spells_section v workers own =
    let rights : ℕ → List Directive → Type 0 = λ count ds. AreListed (λ _. IsRight workers own) 0 count ds in
    let last : ℕ → ℕ → List Directive → Format Section = λ p n ds. done (made v p ds) in
    let counted : ℕ → ℕ → Format Section = λ p n. chain (listed n (λ _. directive workers own) of (λ (s : Section). s.directives)) (last p n) in
    let stored : ℕ → Format Section = λ p. chain (number w32 of (λ (s : Section). length s.directives)) (counted p) in
    respelled Section (section v workers own)
    (λ s. IsTold v (told v s) × ((length s.directives < 2 ^ 32) × (rights (length s.directives) s.directives × (s ≡ made v (told v s) s.directives))))
    (IsSection v workers own)
    (spells_chain ℕ Section (store v) (told v) stored
    (IsTold v)
    (λ p s. (length s.directives < 2 ^ 32) × (rights (length s.directives) s.directives × (s ≡ made v p s.directives)))
    (spells_store v)
    (λ p _. spells_chain ℕ Section (number w32) (λ s. length s.directives) (counted p)
    (λ n. n < 2 ^ 32)
    (λ n s. rights n s.directives × (s ≡ made v p s.directives))
    (spells_number w32 (2 ^ 32) wide32)
    (λ n _. spells_chain (List Directive) Section (listed n (λ _. directive workers own)) (λ s. s.directives) (last p n)
    (rights n)
    (λ ds s. s ≡ made v p ds)
    (spells_listed Directive (λ _. directive workers own) (λ _. IsRight workers own) (λ _. spells_directive workers own) 0 n)
    (λ ds _. spells_done Section (made v p ds))
    (λ ds s has q. ap (λ (z : Section). z.directives) q))
    (λ n s has q. q.0.0))
    (λ p s has q. ap (told v) q.1.1 ∙ told_is v p s.directives has))
    (λ s q. (kept_of v s q.0 q.1.1.1, (q.1.0, all_of (IsRight workers own) 0 s.directives q.1.1.0.1)))
    (λ s q. let kept = of_kept v s q.0 in (kept.0, (q.1.0, ((refl, of_all (IsRight workers own) 0 s.directives q.1.1), kept.1))))

-- ---- the pages of a store

above_small : (workers own : ℕ) (d : Directive) → IsRight workers own d → above d ≤ most_pages
above_small workers own (entry.Fresh frame page) right = omega arith
above_small workers own (entry.IssueIn slot page) right = omega (arith, right.0)
above_small workers own (entry.FinishIn slot frame) right = omega arith
above_small workers own (entry.IssueOut slot frame page) right = omega (arith, right.0)
above_small workers own (entry.FinishOut slot) right = omega arith
above_small workers own (entry.Do job) right = omega arith

pub store_small : (workers own : ℕ) (ds : List Directive) → AllByRecursion (IsRight workers own) ds → store_above ds ≤ most_pages
store_small workers own [] all = omega arith
store_small workers own (d ∷ ds) all = omega (arith, above_small workers own d all.0, store_small workers own ds all.1)

kept_small : (v : Version) (workers own : ℕ) (s : Section) → IsSection v workers own s → s.pages ≤ most_pages
kept_small version.First workers own s is = omega (arith, is.0, store_small workers own s.directives is.1.1)
kept_small version.Second workers own s is = (within_is 0 most_pages s.pages is.0.1).1

-- directives that were read name no page that is too great
pub small_list : (workers own : ℕ) (rest : Rest) (count : ℕ) (r : Result (List Directive × Left) FileFault)
    → AreBytes rest.bytes → Gives (λ x. (x.0, rest_of x.1)) r ((listed count (λ _. directive workers own)).read rest) → IfOk r (λ x. store_above x.0 ≤ most_pages)
small_list workers own rest count (Ok x) fits given =
    let taken = (spells_listed Directive (λ _. directive workers own) (λ _. IsRight workers own) (λ _. spells_directive workers own) 0 count).takes rest (x.0, rest_of x.1) fits given in
    store_small workers own x.0 (all_of (IsRight workers own) 0 x.0 taken.2.1)
small_list workers own rest count (Err e) fits given = tt

-- ---- the head

abbrev pub IsCount : ℕ → Type 0
IsCount = Fields (2 ^ 16) (within 1 most_workers)

spells_head : (v : Version) → Spells ℕ (head v) IsCount
unfolding head
spells_head v =
    let last : ℕ → ℕ → Format ℕ = λ n none. done n in
    let with_count : ℕ → Format ℕ = λ n. chain (field w16 (within 0 0) of (λ (k : ℕ). 0)) (last n) in
    let with_version : Unit {0} → Format ℕ = λ version. chain (field w16 (within 1 most_workers) of (λ (k : ℕ). k)) with_count in
    let with_magic : Unit {0} → Format ℕ = λ magic. chain (text (digits v) faults.Version of (λ (k : ℕ). tt)) with_version in
    respelled ℕ (head v) (λ n. IsCount n × (n ≡ n)) IsCount
    (text_then ℕ (codes "MAGEMP") faults.Magic with_magic (λ n. IsCount n × (n ≡ n))
    (text_then ℕ (digits v) faults.Version with_version (λ n. IsCount n × (n ≡ n))
    (spells_chain ℕ ℕ (field w16 (within 1 most_workers)) (λ n. n) with_count IsCount (λ a n. n ≡ a)
    (spells_field w16 (2 ^ 16) (within 1 most_workers) wide16)
    (λ a _. zero_then ℕ w16 (2 ^ 16) (last a) (λ n. n ≡ a) wide16 (lit< tt) (spells_done ℕ a))
    (λ a n has q. q))))
    (λ n q. q.0) (λ n q. (q, refl))

-- ---- a program

-- sections are those of their stores and directives
sections_back : (ss : List Section) → sections_of (map (λ s. s.pages) ss) (map (λ s. s.directives) ss) ≡ ss
sections_back [] = refl
sections_back (s ∷ ss) = ap (λ (others : List Section). s ∷ others) (sections_back ss)

abbrev pub AreSections : Version → (workers : ℕ) → List Section → Type 0
AreSections v workers = AreListed (IsSection v workers) 0 workers

abbrev pub IsRead : Version → MemProgram → Type 0
IsRead v m = IsCount (length m.workers) × (AreInRange m.limits × (AreSections v (length m.workers) (sections_in m) × (m ≡ program_of m.limits (sections_in m))))

count_of : (m : MemProgram) (bounds : Limits) (ss : List Section) → m ≡ program_of bounds ss → length m.workers ≡ length ss
count_of m bounds ss e = ap (λ (z : MemProgram). length z.workers) e ∙ length-map ss (λ s. s.directives)

spells_file : (v : Version) → Spells MemProgram (file v) (IsRead v)
unfolding file
spells_file v =
    let last : ℕ → Limits → List Section → Format MemProgram = λ n bounds ss. done (program_of bounds ss) in
    let with_limits : ℕ → Limits → Format MemProgram = λ n bounds. chain (listed n (section v n) of sections_in) (last n bounds) in
    let with_count : ℕ → Format MemProgram = λ n. chain (limits of (λ (m : MemProgram). m.limits)) (with_limits n) in
    spells_chain ℕ MemProgram (head v) (λ m. length m.workers) with_count IsCount
    (λ n m. AreInRange m.limits × (AreSections v n (sections_in m) × (m ≡ program_of m.limits (sections_in m)))) (spells_head v)
    (λ n _. spells_chain Limits MemProgram limits (λ m. m.limits) (with_limits n) AreInRange
    (λ bounds m. AreSections v n (sections_in m) × (m ≡ program_of bounds (sections_in m))) spells_limits
    (λ bounds _. spells_chain (List Section) MemProgram (listed n (section v n)) sections_in (last n bounds) (AreSections v n)
    (λ ss m. m ≡ program_of bounds ss) (spells_listed Section (section v n) (IsSection v n) (spells_section v n) 0 n)
    (λ ss _. spells_done MemProgram (program_of bounds ss))
    (λ ss m has q. ap sections_in q ∙ sections_back ss))
    (λ bounds m has q. ap (λ (z : MemProgram). z.limits) q.1))
    (λ n m has q. count_of m m.limits (sections_in m) q.1.1 ∙ q.1.0.0)

-- ---- the rules by index

each_of : {X : Type 0} (P : X → Type 0) (xs : List X) → AllByRecursion P xs → (i : ℕ) → IfSome (slice_get xs i) P
each_of P [] all i = tt
each_of P (x ∷ xs) all zero = all.0
each_of P (x ∷ xs) all (suc i) = each_of P xs all.1 i

of_each : {X : Type 0} (P : X → Type 0) (xs : List X) → ((i : ℕ) → IfSome (slice_get xs i) P) → AllByRecursion P xs
of_each P [] each = tt
of_each P (x ∷ xs) each = (each zero, of_each P xs (λ i. each (suc i)))

first_all : {X : Type 0} (P Q : X → Type 0) (xs : List X) → AllByRecursion (λ x. P x × Q x) xs → AllByRecursion P xs
first_all P Q [] all = tt
first_all P Q (x ∷ xs) all = (all.0.0, first_all P Q xs all.1)

second_all : {X : Type 0} (P Q : X → Type 0) (xs : List X) → AllByRecursion (λ x. P x × Q x) xs → AllByRecursion Q xs
second_all P Q [] all = tt
second_all P Q (x ∷ xs) all = (all.0.1, second_all P Q xs all.1)

both_all : {X : Type 0} (P Q : X → Type 0) (xs : List X) → AllByRecursion P xs → AllByRecursion Q xs → AllByRecursion (λ x. P x × Q x) xs
both_all P Q [] p q = tt
both_all P Q (x ∷ xs) p q = ((p.0, q.0), both_all P Q xs p.1 q.1)

-- the pages of a store are what the version says of its directives
abbrev pub IsStore : Version → (pages : ℕ) → List Directive → Type 0
IsStore version.First pages part = pages ≡ store_above part
IsStore version.Second pages part = Unit {0}

abbrev pub AreStores : Version → (stores : List ℕ) → (parts : List (List Directive)) → Type 0
AreStores version.First stores parts = stores ≡ map store_above parts
AreStores version.Second stores parts = Unit {0}

kept_in : (v : Version) (pages : ℕ) (part : List Directive) → IsStore v pages part → pages ≤ most_pages → Kept v (record { pages = pages; directives = part })
kept_in version.First pages part store few = store
kept_in version.Second pages part store few = (omega (arith, few), is_within 0 most_pages pages (omega arith) few)

split_stores : (v : Version) (pages : ℕ) (stores : List ℕ) (part : List Directive) (parts : List (List Directive))
    → AreStores v (pages ∷ stores) (part ∷ parts) → IsStore v pages part × AreStores v stores parts
split_stores version.First pages stores part parts e = (cc, cc)
split_stores version.Second pages stores part parts e = (tt, tt)

stores_of : (v : Version) (workers from : ℕ) (ss : List Section) → AllFrom (IsSection v workers) from ss → AreStores v (map (λ s. s.pages) ss) (map (λ s. s.directives) ss)
stores_of version.First workers from [] all = refl
stores_of version.First workers from (s ∷ ss) all = ap₂ (λ (n : ℕ) (ns : List ℕ). n ∷ ns) all.0.0 (stores_of version.First workers (from + 1) ss all.1)
stores_of version.Second workers from ss all = tt

module _ (v : Version) (workers : ℕ) where
  stores_each : (from : ℕ) (ss : List Section) → AllFrom (IsSection v workers) from ss → (w : ℕ) → IfSome (slice_get (map (λ s. s.pages) ss) w) (λ pages. pages ≤ most_pages)
  stores_each from [] all w = tt
  stores_each from (s ∷ ss) all zero = kept_small v workers from s all.0
  stores_each from (s ∷ ss) all (suc w) = stores_each (from + 1) ss all.1 w

  parts_each : (from : ℕ) (ss : List Section) → AllFrom (IsSection v workers) from ss → (w : ℕ) → IfSome (slice_get (map (λ s. s.directives) ss) w) (IsPart workers (from + w))
  parts_each from [] all w = tt
  parts_each from (s ∷ ss) all zero =
      let here : from ≡ from + 0 = omega arith in
      subst (λ (n : ℕ). IsPart workers n s.directives) here
      (record { count = all.0.1.0; each = each_of (IsDirective workers from) s.directives (first_all (IsDirective workers from) IsDirectiveValue s.directives all.0.1.1) })
  parts_each from (s ∷ ss) all (suc w) =
      let next : from + 1 + w ≡ from + suc w = omega arith in
      subst (λ (n : ℕ). IfSome (slice_get (map (λ s. s.directives) ss) w) (IsPart workers n)) next (parts_each (from + 1) ss all.1 w)

  values_of : (from : ℕ) (ss : List Section) → AllFrom (IsSection v workers) from ss → AllByRecursion (AllByRecursion IsDirectiveValue) (map (λ s. s.directives) ss)
  values_of from [] all = tt
  values_of from (s ∷ ss) all = (second_all (IsDirective workers from) IsDirectiveValue s.directives all.0.1.1, values_of (from + 1) ss all.1)

  section_of : (own pages : ℕ) (part : List Directive) → IsStore v pages part → pages ≤ most_pages → IsPart workers own part → AllByRecursion IsDirectiveValue part
      → IsSection v workers own (record { pages = pages; directives = part })
  section_of own pages part store few is values =
      (kept_in v pages part store few, (is.count, both_all (IsDirective workers own) IsDirectiveValue part (of_each (IsDirective workers own) part is.each) values))

  all_sections : (from : ℕ) (stores : List ℕ) (parts : List (List Directive)) → AreStores v stores parts → ((w : ℕ) → IfSome (slice_get stores w) (λ pages. pages ≤ most_pages))
      → ((w : ℕ) → IfSome (slice_get parts w) (IsPart workers (from + w))) → AllByRecursion (AllByRecursion IsDirectiveValue) parts → AllFrom (IsSection v workers) from (sections_of stores parts)
  all_sections from [] parts given few each values = tt
  all_sections from (pages ∷ stores) [] given few each values = tt
  all_sections from (pages ∷ stores) (part ∷ parts) given few each values =
      let here : from + 0 ≡ from = omega arith in
      let split = split_stores v pages stores part parts given in (
        section_of from pages part split.0 (few zero) (subst (λ (n : ℕ). IsPart workers n part) here (each zero)) values.0,
        all_sections (from + 1) stores parts split.1 (λ w. few (suc w))
            (λ w. let next : from + suc w ≡ from + 1 + w = omega arith in subst (λ (n : ℕ). IfSome (slice_get parts w) (IsPart workers n)) next (each (suc w))) values.1,
      )

-- with a store for each worker, nothing of either is lost in their sections
count_sections : (stores : List ℕ) (parts : List (List Directive)) → length stores ≡ length parts → length (sections_of stores parts) ≡ length parts
count_sections [] [] e = refl
count_sections [] (part ∷ parts) e = absurd (omega arith)
count_sections (pages ∷ stores) [] e = absurd (omega arith)
count_sections (pages ∷ stores) (part ∷ parts) e = ap suc (count_sections stores parts (omega arith))

stores_in : (stores : List ℕ) (parts : List (List Directive)) → length stores ≡ length parts → stores ≡ map (λ s. s.pages) (sections_of stores parts)
stores_in [] [] e = refl
stores_in [] (part ∷ parts) e = absurd (omega arith)
stores_in (pages ∷ stores) [] e = absurd (omega arith)
stores_in (pages ∷ stores) (part ∷ parts) e = ap (λ (others : List ℕ). pages ∷ others) (stores_in stores parts (omega arith))

parts_in : (stores : List ℕ) (parts : List (List Directive)) → length stores ≡ length parts → parts ≡ map (λ s. s.directives) (sections_of stores parts)
parts_in [] [] e = refl
parts_in [] (part ∷ parts) e = absurd (omega arith)
parts_in (pages ∷ stores) [] e = absurd (omega arith)
parts_in (pages ∷ stores) (part ∷ parts) e = ap (λ (others : List (List Directive)). part ∷ others) (parts_in stores parts (omega arith))

abbrev pub IsRightProgram : Version → MemProgram → Type 0
IsRightProgram v m = IsMemProgram m × IsValue m × AreStores v m.stores m.workers

read_program : (v : Version) (bounds : Limits) (ss : List Section) → AreInRange bounds → IsCount (length ss) → AllFrom (IsSection v (length ss)) 0 ss
    → IsRightProgram v (program_of bounds ss)
read_program v bounds ss range count all =
    let limit = within_is 1 most_workers (length ss) count.1 in
    let stores : length (map (λ s. s.pages) ss) ≡ length ss = length-map ss (λ s. s.pages) in
    let workers : length (map (λ s. s.directives) ss) ≡ length ss = length-map ss (λ s. s.directives) in (
      record {
        limits = range;
        some_worker = omega (arith, limit.0, workers);
        few = omega (arith, limit.1, workers);
        counted = stores ∙ sym workers;
        stores = stores_each v (length ss) 0 ss all;
        parts = λ w. let index : 0 + w ≡ w = omega arith in
            subst (λ (n : ℕ). IfSome (slice_get (map (λ s. s.directives) ss) w) (IsPart (length (map (λ s. s.directives) ss)) n)) index
            (subst (λ (n : ℕ). IfSome (slice_get (map (λ s. s.directives) ss) w) (IsPart n (0 + w))) (sym workers) (parts_each v (length ss) 0 ss all w));
      },
      values_of v (length ss) 0 ss all,
      stores_of v (length ss) 0 ss all,
    )

read_right : (v : Version) (m : MemProgram) → IsRead v m → IsRightProgram v m
read_right v m q =
    let ss = sections_in m in
    let same : length m.workers ≡ length ss = count_of m m.limits ss q.1.1.1 in
    subst (IsRightProgram v) (sym q.1.1.1)
    (read_program v m.limits ss q.1.0 (subst IsCount same q.0) (subst (λ (n : ℕ). AllFrom (IsSection v n) 0 ss) same q.1.1.0.1))

right_read : (v : Version) (m : MemProgram) → IsMemProgram m → IsValue m → AreStores v m.stores m.workers → IsRead v m
right_read v m r values given = (
  (omega (arith, r.few), is_within 1 most_workers (length m.workers) r.some_worker r.few),
  (
    r.limits,
    (
      (
        count_sections m.stores m.workers r.counted,
        all_sections v (length m.workers) 0 m.stores m.workers given r.stores
            (λ w. let index : w ≡ 0 + w = omega arith in subst (λ (n : ℕ). IfSome (slice_get m.workers w) (IsPart (length m.workers) n)) index (r.parts w)) values,
      ),
      ap₂ (λ (stores : List ℕ) (workers : List (List Directive)). record { limits = m.limits; stores = stores; workers = workers })
          (stores_in m.stores m.workers r.counted) (parts_in m.stores m.workers r.counted),
    ),
  ),
)

-- ---- whole files

ended_ok : (r : Result (MemProgram × Rest) FileFault) (m : MemProgram) → ended r ≡ Ok m → (left : Rest) × (r ≡ Ok (m, left)) × (left.bytes ≡ [])
ended_ok (Ok x) m e =
    let passed = passed_ok (eqb (length x.1.bytes) 0) (faults.Extra (place x.1)) x.0 m e in
    (x.1, ap (λ (z : MemProgram). right (z, x.1)) passed.1, nil_from_length x.1.bytes (eqb-true _ _ passed.0))
ended_ok (Err d) m e = absurd cc

-- the bytes are a file of this version
pub record IsFileIn (v : Version) (m : MemProgram) (bytes : List ℕ) : Type 0 where
  pub spelled : bytes ≡ spelling_in v m
  pub in_range : IsMemProgram m
  pub value : IsValue m
  pub stores : AreStores v m.stores m.workers
  pub short : length bytes ≤ most_in v

pub read_takes : (v : Version) (bytes : List ℕ) (m : MemProgram) → AreBytes bytes → read_in v bytes ≡ Ok m → IsFileIn v m bytes
unfolding read_in
read_takes v bytes m fits e =
    let short = guard_ok (ltb (most_in v) (length bytes)) faults.Long (ended ((file v).read (left_with bytes (length bytes)))) m e in
    let found = ended_ok ((file v).read (left_with bytes (length bytes))) m short.1 in
    let taken = (spells_file v).takes (left_with bytes (length bytes)) (m, found.0) fits found.1 in
    let rules = read_right v m taken.2 in
    record { spelled = taken.0 ∙ ap ((file v).spell m) found.2; in_range = rules.0; value = rules.1; stores = rules.2; short = ltb-false _ _ short.0 }

pub takes_back : (v : Version) (m : MemProgram) → IsMemProgram m → IsValue m → AreStores v m.stores m.workers → length (spelling_in v m) ≤ most_in v
    → read_in v (spelling_in v m) ≡ Ok m
unfolding read_in
takes_back v m r values given le =
    let total : ℕ = length (spelling_in v m) in
    let found : (file v).read (left_with (spelling_in v m) total) ≡ Ok (m, left_with [] total) = (spells_file v).again m [] total (right_read v m r values given) in
    let short : ltb (most_in v) total ≡ false = le-ltb _ _ le in
    rw (short, found) refl

file_back : (v : Version) (bytes : List ℕ) (m : MemProgram) → IsFileIn v m bytes → read_in v bytes ≡ Ok m
file_back v bytes m it =
    ap (read_in v) it.spelled ∙ takes_back v m it.in_range it.value it.stores (subst (λ (t : List ℕ). length t ≤ most_in v) it.spelled it.short)

file_of : (m : MemProgram) (bytes : List ℕ) → IsFileIn version.Second m bytes → IsFileOf m bytes
file_of m bytes it = record { spelled = it.spelled; in_range = it.in_range; value = it.value; short = it.short }

of_file : (m : MemProgram) (bytes : List ℕ) → IsFileOf m bytes → IsFileIn version.Second m bytes
of_file m bytes it = record { spelled = it.spelled; in_range = it.in_range; value = it.value; stores = tt; short = it.short }

first_file_of : (m : MemProgram) (bytes : List ℕ) → IsFileIn version.First m bytes → IsFirstFileOf m bytes
first_file_of m bytes it = record { spelled = it.spelled; in_range = it.in_range; value = it.value; stores = it.stores; short = it.short }

of_first_file : (m : MemProgram) (bytes : List ℕ) → IsFirstFileOf m bytes → IsFileIn version.First m bytes
of_first_file m bytes it = record { spelled = it.spelled; in_range = it.in_range; value = it.value; stores = it.stores; short = it.short }

pub reads_back : ReadsBack
reads_back m r values le = takes_back version.Second m r values tt le

pub reads_first_back : ReadsFirstBack
reads_first_back m r values given le = takes_back version.First m r values given le

pub reads_exactly : ReadsExactly
reads_exactly bytes m fits = (λ e. file_of m bytes (read_takes version.Second bytes m fits e), λ it. file_back version.Second bytes m (of_file m bytes it))

pub reads_first_exactly : ReadsFirstExactly
reads_first_exactly bytes m fits = (λ e. first_file_of m bytes (read_takes version.First bytes m fits e), λ it. file_back version.First bytes m (of_first_file m bytes it))

pub is_found : (bytes : List ℕ) (r : Result MemProgram FileFault) → AreBytes bytes → Gives (λ m. m) r (read_of bytes) → IfOk r (λ m. IsFileOf m bytes)
is_found bytes (Ok m) fits given = file_of m bytes (read_takes version.Second bytes m fits given)
is_found bytes (Err e) fits given = tt

pub is_found_first : (bytes : List ℕ) (r : Result MemProgram FileFault) → AreBytes bytes → Gives (λ m. m) r (read_first_of bytes) → IfOk r (λ m. IsFirstFileOf m bytes)
is_found_first bytes (Ok m) fits given = first_file_of m bytes (read_takes version.First bytes m fits given)
is_found_first bytes (Err e) fits given = tt
