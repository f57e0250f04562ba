-- Stream files: their names, and what is in them.
use Rattle.std.proofs.Common.{◌≡◌, ◌≢◌, ◌≤◌, ◌+◌, ◌++◌, min, ℕ, zero, suc, List, [], ◌∷◌, length, map, Bool, true, false, cond, Option, Some, None, IfSome, is_some, slice_get, refl, sym, ap, ap₂, subst, ◌∙◌, arith}
use Rattle.std.proofs.Math.Path.{fun_ext}
use Rattle.std.specs.List.{All}
use Rattle.std.specs.Option.{option_map}
use Rattle.std.specs.Str.{bytes_eq}
use Rattle.mage_base.specs.Desk.{DeskTold, Files, files_with, with_file}
use Rattle.mage_base.specs.Faults.{top}
use Rattle.mage_base.specs.Sink.{SinkTold}
use Rattle.mage_instr.specs.declared.instr.Program.{Program}
use Rattle.mage_lending.specs.Names.{worker_file, worker_files}
use Rattle.mage_lending.specs.Sinks.{with_all, with_empty, AreOpened, AreTaken, AreFronts, with_faults}
use Rattle.mage_linked.specs.Workers.{list_at}
use Rattle.mage_solo.specs.Garbling.{Sunk, TookAll, AllTellTaken}
use Rattle.mage_streams.specs.Streams.{garbled_stream}
use Rattle.mage_planner.specs.Outcome.{NewFile, stream_files}
use Rattle.mage_planner.specs.Answer.{OthersStay, with_files}
use Rattle.mage_planner.proofs.WritingLemmas.{both_all, first_stay}

-- ---- names

abbrev pub names_of : List NewFile → List (List ℕ)
names_of files = map (λ (file : NewFile). file.name) files

-- as many as there are workers
pub count_files : (stem : List ℕ) (first count : ℕ) → length (worker_files stem first count) ≡ count
count_files stem first zero = refl
count_files stem first (suc count) = ap suc (count_files stem (first + 1) count)

-- files of these names with these bytes
abbrev pub filed : (names contents : List (List ℕ)) → List NewFile
filed [] contents = []
filed (name ∷ names) [] = []
filed (name ∷ names) (bytes ∷ contents) = record { name = name; bytes = bytes } ∷ filed names contents

pub filed_names : (names contents : List (List ℕ)) → length names ≡ length contents → names_of (filed names contents) ≡ names
filed_names [] contents long = refl
filed_names (name ∷ names) [] long = absurd (omega (arith, long))
filed_names (name ∷ names) (bytes ∷ contents) long = ap (λ (l : List (List ℕ)). name ∷ l) (filed_names names contents (omega (arith, long)))

pub stream_names : (stem : List ℕ) (program : Program) (seed : List ℕ) (garbler : List (List ℕ)) (first count : ℕ)
    → names_of (stream_files stem program seed garbler first count) ≡ worker_files stem first count
stream_names stem program seed garbler first zero = refl
stream_names stem program seed garbler first (suc count) =
    ap (λ (l : List (List ℕ)). worker_file stem first ∷ l) (stream_names stem program seed garbler (first + 1) count)

-- the first names, and the others
pub names_split : (stem : List ℕ) (first count more : ℕ) → worker_files stem first (count + more) ≡ worker_files stem first count ++ worker_files stem (first + count) more
names_split stem first zero more =
    let none : zero + more ≡ more = omega arith in
    let at : first + zero ≡ first = omega arith in
    ap (worker_files stem first) none ∙ sym (ap (λ (n : ℕ). worker_files stem n more) at)
names_split stem first (suc count) more =
    let next : suc count + more ≡ suc (count + more) = omega arith in
    let at : (first + 1) + count ≡ first + suc count = omega arith in
    ap (worker_files stem first) next
    ∙ ap (λ (l : List (List ℕ)). worker_file stem first ∷ l) (names_split stem (first + 1) count more)
    ∙ ap (λ (n : ℕ). worker_file stem first ∷ (worker_files stem (first + 1) count ++ worker_files stem n more)) at

-- no file has the name where no file of the same names has
other_names : (name : List ℕ) (xs ys : List NewFile) (rest : List (List ℕ)) → names_of ys ≡ names_of xs ++ rest → All (λ (file : NewFile). file.name ≢ name) ys
    → All (λ (file : NewFile). file.name ≢ name) xs
other_names name [] ys rest same all = λ k d less. absurd (omega (arith, less))
other_names name (x ∷ xs) [] rest same all = absurd (cc)
other_names name (x ∷ xs) (y ∷ ys) rest same all =
    let one : y.name ≡ x.name = first_is y.name x.name _ _ same in
    both_all (λ (file : NewFile). file.name ≢ name) x xs (λ is. all 0 y (omega arith) (one ∙ is))
    (other_names name xs ys rest (rest_is y.name x.name _ _ same) (λ k d less. all (suc k) d (omega (arith, less))))
  where
    first_is : (x y : List ℕ) (xs ys : List (List ℕ)) → x ∷ xs ≡ y ∷ ys → x ≡ y
    first_is x y xs ys e = cc

    rest_is : (x y : List ℕ) (xs ys : List (List ℕ)) → x ∷ xs ≡ y ∷ ys → xs ≡ ys
    rest_is x y xs ys e = cc

-- the first of some files are written, with whatever bytes: others stay
pub begun_stay : (files : Option Files) (own begun : List NewFile) (rest : List (List ℕ)) → names_of own ≡ names_of begun ++ rest → OthersStay own files (with_files files begun)
begun_stay None own begun rest same = first_stay None begun
begun_stay (Some files) own begun rest same = go (with_files (Some files) begun) (first_stay (Some files) begun) where
  go : (after : Option Files) → OthersStay begun (Some files) after → OthersStay own (Some files) after
  go None stay = absurd stay
  go (Some new) stay = λ name all. stay name (other_names name begun own rest same all)

-- ---- files that were emptied, and then filled

-- two tell the same of all other names
abbrev Agree : (names : List (List ℕ)) → (f g : Files) → Type 0
Agree names f g = (other : List ℕ) → All (λ name. bytes_eq name other ≡ false) names → f other ≡ g other

agree_put : (names : List (List ℕ)) (f g : Files) (name bytes : List ℕ) → Agree (name ∷ names) f g → Agree names (with_file f name bytes) (with_file g name bytes)
agree_put names f g name bytes agree other all = go (bytes_eq name other) refl where
  go : (b : Bool) → bytes_eq name other ≡ b → cond b (Some bytes) (f other) ≡ cond b (Some bytes) (g other)
  go true e = refl
  go false e = agree other (both_all (λ (n : List ℕ). bytes_eq n other ≡ false) name names e all)

agree_filled : (names contents : List (List ℕ)) (f g : Files) → length names ≡ length contents → Agree names f g → with_all (Some f) names contents ≡ with_all (Some g) names contents
agree_filled [] contents f g long agree = ap (λ (h : Files). Some h) (fun_ext (λ other. agree other (λ k d less. absurd (omega (arith, less)))))
agree_filled (name ∷ names) [] f g long agree = absurd (omega (arith, long))
agree_filled (name ∷ names) (bytes ∷ contents) f g long agree =
    agree_filled names contents (with_file f name bytes) (with_file g name bytes) (omega (arith, long)) (agree_put names f g name bytes agree)

-- emptying changes no other name
emptied_so : (files : Files) (names : List (List ℕ)) → (g : Files) × (with_empty (Some files) names ≡ Some g) × Agree names g files
emptied_so files [] = (files, refl, λ other all. refl)
emptied_so files (name ∷ names) =
    let rest = emptied_so (with_file files name []) names in (
      rest.0,
      rest.1,
      λ other all. rest.2 other (λ k d less. all (suc k) d (omega (arith, less)))
          ∙ ap (λ (b : Bool). cond b (Some []) (files other)) (all 0 name (omega arith)),
    )

all_untold : (names contents : List (List ℕ)) → with_all None names contents ≡ None
all_untold [] contents = refl
all_untold (name ∷ names) [] = refl
all_untold (name ∷ names) (bytes ∷ contents) = all_untold names contents

empty_untold : (names : List (List ℕ)) → with_empty None names ≡ None
empty_untold [] = refl
empty_untold (name ∷ names) = empty_untold names

pub files_untold : (files : List NewFile) → with_files None files ≡ None
files_untold [] = refl
files_untold (file ∷ files) = files_untold files

filled_so : (files : Option Files) (names contents : List (List ℕ)) → with_all files names contents ≡ with_files files (filed names contents)
filled_so files [] contents = refl
filled_so files (name ∷ names) [] = refl
filled_so files (name ∷ names) (bytes ∷ contents) = filled_so (files_with files name bytes) names contents

pub refilled : (files : Option Files) (names contents : List (List ℕ)) → length names ≡ length contents
    → with_all (with_empty files names) names contents ≡ with_files files (filed names contents)
refilled None names contents long =
    ap (λ (f : Option Files). with_all f names contents) (empty_untold names) ∙ all_untold names contents ∙ sym (files_untold (filed names contents))
refilled (Some files) names contents long =
    let emptied = emptied_so files names in
    ap (λ (f : Option Files). with_all f names contents) emptied.1 ∙ agree_filled names contents emptied.0 files long emptied.2 ∙ filled_so (Some files) names contents

-- files that were only emptied
abbrev pub nothing_in : List (List ℕ) → List NewFile
nothing_in names = map (λ (name : List ℕ). record { name = name; bytes = [] }) names

pub emptied_is : (files : Option Files) (names : List (List ℕ)) → with_empty files names ≡ with_files files (nothing_in names)
emptied_is files [] = refl
emptied_is files (name ∷ names) = emptied_is (files_with files name []) names

pub nothing_named : (names : List (List ℕ)) → names_of (nothing_in names) ≡ names
nothing_named [] = refl
nothing_named (name ∷ names) = ap (λ (l : List (List ℕ)). name ∷ l) (nothing_named names)

-- ---- sinks

pub fronts_count : (sinks : List SinkTold) (contents : List (List ℕ)) → AreFronts sinks contents → length contents ≡ length sinks
fronts_count [] [] fronts = refl
fronts_count [] (bytes ∷ contents) fronts = absurd fronts
fronts_count (sink ∷ sinks) [] fronts = absurd fronts
fronts_count (sink ∷ sinks) (bytes ∷ contents) fronts = ap suc (fronts_count sinks contents fronts.1)

pub taken_count : (sinks : List SinkTold) (contents : List (List ℕ)) → AreTaken sinks contents → length contents ≡ length sinks
taken_count [] [] taken = refl
taken_count [] (bytes ∷ contents) taken = absurd taken
taken_count (sink ∷ sinks) [] taken = absurd taken
taken_count (sink ∷ sinks) (bytes ∷ contents) taken = ap suc (taken_count sinks contents taken.1)

pub opened_count : (desk : DeskTold) (rooms : List ℕ) (sinks : List SinkTold) → AreOpened desk rooms sinks → length sinks ≡ length rooms
opened_count desk [] [] opened = refl
opened_count desk [] (sink ∷ sinks) opened = absurd opened
opened_count desk (room ∷ rooms) [] opened = absurd opened
opened_count desk (room ∷ rooms) (sink ∷ sinks) opened = ap suc (opened_count desk rooms sinks opened.1)

pub no_fault_at : (desk : DeskTold) (rooms : List ℕ) (sinks : List SinkTold) (w : ℕ) (sink : SinkTold) → AreOpened desk rooms sinks → slice_get sinks w ≡ Some sink → sink.faults ≡ 0
no_fault_at desk [] [] zero sink opened e = absurd (cc)
no_fault_at desk [] [] (suc w) sink opened e = absurd (cc)
no_fault_at desk [] (s ∷ sinks) w sink opened e = absurd opened
no_fault_at desk (room ∷ rooms) [] w sink opened e = absurd opened
no_fault_at desk (room ∷ rooms) (s ∷ sinks) zero sink opened e = let same : s ≡ sink = cc in ap (λ (x : SinkTold). x.faults) (sym same) ∙ opened.0.no_fault
no_fault_at desk (room ∷ rooms) (s ∷ sinks) (suc w) sink opened e = no_fault_at desk rooms sinks w sink opened.1 e

-- the worker behind the first one
abbrev behind : {old new : SinkTold} {before after : List SinkTold} (w : ℕ) → Sunk before after w → Sunk (old ∷ before) (new ∷ after) (suc w)
behind w sink = record { old = sink.old; new = sink.new; old_so = sink.old_so; new_so = sink.new_so }

-- no sink has a fault that had none and didn't fail
pub none_have_failed : {O : Type 0} (tells : O → SinkTold) (desk : DeskTold) (rooms : List ℕ) (before : List SinkTold) (after : List O) → AreOpened desk rooms before
    → length after ≡ length before → ((w : ℕ) (sink : Sunk before (map tells after) w) → sink.new.faults ≡ sink.old.faults)
    → All (λ (sink : O). (tells sink).faults ≡ 0) after
none_have_failed tells desk [] [] [] opened long same = λ k d less. absurd (omega (arith, less))
none_have_failed tells desk [] [] (new ∷ after) opened long same = absurd (omega (arith, long))
none_have_failed tells desk [] (old ∷ before) after opened long same = absurd opened
none_have_failed tells desk (room ∷ rooms) [] after opened long same = absurd opened
none_have_failed tells desk (room ∷ rooms) (old ∷ before) [] opened long same = absurd (omega (arith, long))
none_have_failed {O} tells desk (room ∷ rooms) (old ∷ before) (new ∷ after) opened long same =
    both_all (λ (sink : O). (tells sink).faults ≡ 0) new after
    (same 0 (record { old = old; new = tells new; old_so = refl; new_so = refl }) ∙ opened.0.no_fault)
    (none_have_failed tells desk rooms before after opened.1 (omega (arith, long)) (λ w sink. same (suc w) (behind w sink)))

-- each sink of a desk that tells its files tells what it took
pub tell_taken : (desk : DeskTold) (files : Files) (rooms : List ℕ) (sinks : List SinkTold) → desk.files ≡ Some files → AreOpened desk rooms sinks → AllTellTaken sinks
tell_taken desk files [] [] told opened zero = tt
tell_taken desk files [] [] told opened (suc w) = tt
tell_taken desk files [] (sink ∷ sinks) told opened w = absurd opened
tell_taken desk files (room ∷ rooms) [] told opened w = absurd opened
tell_taken desk files (room ∷ rooms) (sink ∷ sinks) told opened zero =
    let taken : sink.taken ≡ Some [] = subst (λ (f : Option Files). IfSome f (λ _. sink.taken ≡ Some [])) told opened.0.taken in
    ap (λ (o : Option (List ℕ)). is_some o) taken
tell_taken desk files (room ∷ rooms) (sink ∷ sinks) told opened (suc w) = tell_taken desk files rooms sinks told opened.1 w

-- the files of streams that were taken whole
pub filled_right : (desk : DeskTold) (files : Files) (stem : List ℕ) (program : Program) (seed : List ℕ) (garbler : List (List ℕ)) (first : ℕ) (rooms : List ℕ)
    (before after : List SinkTold) (contents : List (List ℕ)) → desk.files ≡ Some files → AreOpened desk rooms before → length after ≡ length before
    → ((w : ℕ) (sink : Sunk before after w) → TookAll sink.old sink.new (garbled_stream program seed (list_at garbler) (first + w)))
    → AreTaken after contents → filed (worker_files stem first (length rooms)) contents ≡ stream_files stem program seed garbler first (length rooms)
filled_right desk files stem program seed garbler first [] [] after contents told opened long took taken = refl
filled_right desk files stem program seed garbler first [] (old ∷ before) after contents told opened long took taken = absurd opened
filled_right desk files stem program seed garbler first (room ∷ rooms) [] after contents told opened long took taken = absurd opened
filled_right desk files stem program seed garbler first (room ∷ rooms) (old ∷ before) [] contents told opened long took taken = absurd (omega (arith, long))
filled_right desk files stem program seed garbler first (room ∷ rooms) (old ∷ before) (new ∷ after) [] told opened long took taken = absurd taken
filled_right desk files stem program seed garbler first (room ∷ rooms) (old ∷ before) (new ∷ after) (bytes ∷ contents) told opened long took taken =
    ap₂ (λ (b : List ℕ) (l : List NewFile). record { name = worker_file stem first; bytes = b } ∷ l) one
    (filled_right desk files stem program seed garbler (first + 1) rooms before after contents told opened.1 (omega (arith, long)) others taken.1)
  where
    empty : old.taken ≡ Some []
    empty = subst (λ (f : Option Files). IfSome f (λ _. old.taken ≡ Some [])) told opened.0.taken

    at_first : first + 0 ≡ first
    at_first = omega arith

    whole : new.taken ≡ Some (garbled_stream program seed (list_at garbler) first)
    whole =
        (took 0 (record { old = old; new = new; old_so = refl; new_so = refl })).taken
        ∙ ap (λ (o : Option (List ℕ)). option_map (λ earlier. earlier ++ garbled_stream program seed (list_at garbler) (first + 0)) o) empty
        ∙ ap (λ (n : ℕ). Some (garbled_stream program seed (list_at garbler) n)) at_first

    one : bytes ≡ garbled_stream program seed (list_at garbler) first
    one = subst (λ (o : Option (List ℕ)). IfSome o (λ taken. bytes ≡ taken)) whole taken.0

    others : (w : ℕ) (sink : Sunk before after w) → TookAll sink.old sink.new (garbled_stream program seed (list_at garbler) (first + 1 + w))
    others w sink =
        let next : first + suc w ≡ first + 1 + w = omega arith in
        subst (λ (n : ℕ). TookAll sink.old sink.new (garbled_stream program seed (list_at garbler) n)) next (took (suc w) (behind w sink))

-- ---- counts of faults

keeps : (t b : ℕ) (sinks : List SinkTold) → t ≡ top → min b t ≤ with_faults b sinks
keeps t b [] is = omega arith
keeps t b (sink ∷ sinks) is =
    let rest = keeps t (min (b + sink.faults) t) sinks is in
    let same : with_faults (min (b + sink.faults) t) sinks ≡ with_faults b (sink ∷ sinks) = ap (λ (u : ℕ). with_faults (min (b + sink.faults) u) sinks) is in
    omega (arith, rest, same)

raised : (t b : ℕ) (sinks : List SinkTold) (w : ℕ) (sink : SinkTold) → t ≡ top → slice_get sinks w ≡ Some sink → 1 ≤ sink.faults → min (b + 1) t ≤ with_faults b sinks
raised t b [] zero sink is e failed = absurd (cc)
raised t b [] (suc w) sink is e failed = absurd (cc)
raised t b (s ∷ sinks) zero sink is e failed =
    let own : s ≡ sink = cc in
    let faults = ap (λ (x : SinkTold). x.faults) own in
    let rest = keeps t (min (b + s.faults) t) sinks is in
    let same : with_faults (min (b + s.faults) t) sinks ≡ with_faults b (s ∷ sinks) = ap (λ (u : ℕ). with_faults (min (b + s.faults) u) sinks) is in
    omega (arith, rest, same, faults, failed)
raised t b (s ∷ sinks) (suc w) sink is e failed =
    let rest = raised t (min (b + s.faults) t) sinks w sink is e failed in
    let same : with_faults (min (b + s.faults) t) sinks ≡ with_faults b (s ∷ sinks) = ap (λ (u : ℕ). with_faults (min (b + s.faults) u) sinks) is in
    omega (arith, rest, same)

-- a sink that failed raises the count
pub sinks_raise : (b : ℕ) (sinks : List SinkTold) (w : ℕ) (sink : SinkTold) → slice_get sinks w ≡ Some sink → 1 ≤ sink.faults → min (b + 1) top ≤ with_faults b sinks
sinks_raise b sinks w sink e failed = raised top b sinks w sink refl e failed

-- closing them never brings it down
pub sinks_keep : (b n : ℕ) (sinks : List SinkTold) → min (with_faults b sinks + 1) top ≤ n → min (b + 1) top ≤ n
sinks_keep b n sinks rose = lifted b (with_faults b sinks) n top (keeps top b sinks refl) rose where
  lifted : (b w n t : ℕ) → min b t ≤ w → min (w + 1) t ≤ n → min (b + 1) t ≤ n
  lifted b w n t kept rose = omega (arith, kept, rose)
