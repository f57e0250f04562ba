-- Files that are written, one after the other.
use Rattle.std.proofs.Common.{◌≡◌, ◌≢◌, ◌≤◌, ◌<◌, ℕ, zero, suc, ◌+◌, List, [], ◌∷◌, ◌++◌, length, take, Bool, cond, true, false, Option, Some, None, unwrap_or, slice_get, Vec, Result, Ok, Err, refl, sym, ap, ap₂, subst, ◌∙◌, append_assoc, arith}
use Rattle.std.proofs.Math.Path.{fun_ext}
use Rattle.std.specs.List.{All, slice_index_or}
use Rattle.std.specs.Option.{IfSome}
use Rattle.std.specs.declared.alloc.Global.{Global}
use Rattle.std.specs.Str.{bytes_eq}
use Rattle.std.proofs.lemmas.Slice.Eq.{bytes_eq-Decides}
use Rattle.std.proofs.lemmas.List.{append-nil}
use Rattle.mage_base.specs.Desk.{DeskTold, Files, HandsSink, files_with, with_file}
use Rattle.mage_base.specs.Sink.{SinkTold}
use Rattle.mage_planner.specs.declared.refusal.Refusal.{Refusal}
use Rattle.mage_planner.specs.declared.refusal.Refusal.TheVariants as refusal
use Rattle.mage_planner.specs.declared.work.Dealing.{Dealing}
use Rattle.mage_planner.specs.Outcome.{NewFile, label_files}
use Rattle.mage_planner.specs.Work.{file_by}
use Rattle.mage_planner.specs.Answer.{OthersStay, with_files}
use Rattle.mage_linked.specs.Workers.{list_at}
use Rattle.mage_texts.specs.Lists.{lists_of}
use Rattle.mage_planner.specs.Warned.{Grows}
use Rattle.mage_planner.specs.Writing.{Opens, Fills, Writes, Finished}

-- ---- files by name

-- the name of the last written file has its bytes
pub names_it : (files : Files) (name bytes : List ℕ) → with_file files name bytes name ≡ Some bytes
names_it files name bytes = ap (λ (b : Bool). cond b (Some bytes) (files name)) ((bytes_eq-Decides name name).1 refl)

-- a second file of one name stands for the first
twice : (files : Files) (name first second : List ℕ) → with_file (with_file files name first) name second ≡ with_file files name second
twice files name first second = fun_ext (λ other. go other (bytes_eq name other)) where
  go : (other : List ℕ) (b : Bool) → cond b (Some second) (cond b (Some first) (files other)) ≡ cond b (Some second) (files other)
  go other true = refl
  go other false = refl

pub files_twice : (files : Option Files) (name first second : List ℕ) → files_with (files_with files name first) name second ≡ files_with files name second
files_twice None name first second = refl
files_twice (Some files) name first second = ap (λ (f : Files). Some f) (twice files name first second)

-- ---- names that stay

-- all of some, of the first and of the others
first_all : {X : Type 0} (P : X → Type 0) (x : X) (xs : List X) → All P (x ∷ xs) → P x
first_all P x xs all = all 0 x (omega arith)

others_all : {X : Type 0} (P : X → Type 0) (x : X) (xs : List X) → All P (x ∷ xs) → All P xs
others_all P x xs all = λ k d less. all (suc k) d (omega (arith, less))

pub both_all : {X : Type 0} (P : X → Type 0) (x : X) (xs : List X) → P x → All P xs → All P (x ∷ xs)
both_all {X} P x xs one all = go where
  go : (k : ℕ) (d : X) → k < length (x ∷ xs) → P (slice_index_or (x ∷ xs) k d)
  go zero d less = one
  go (suc k) d less = all k d (omega (arith, less))

-- another name is as before
pub off : (files : Files) (name bytes other : List ℕ) → name ≢ other → with_file files name bytes other ≡ files other
off files name bytes other differ = go (bytes_eq name other) refl where
  go : (b : Bool) → bytes_eq name other ≡ b → cond b (Some bytes) (files other) ≡ files other
  go true same = absurd (differ ((bytes_eq-Decides name other).0 same))
  go false same = refl

-- a file is written, or some bytes of it
pub one_stays : (files : Option Files) (name bytes : List ℕ) (whole : List ℕ) →
    OthersStay (record { name = name; bytes = whole } ∷ []) files (files_with files name bytes)
one_stays None name bytes whole = refl
one_stays (Some files) name bytes whole = λ other all. off files name bytes other (first_all (λ (file : NewFile). file.name ≢ other) _ [] all)

-- nothing is written
pub none_stays : (written : List NewFile) (files : Option Files) → OthersStay written files files
none_stays written None = refl
none_stays written (Some files) = λ name all. refl

-- the first files stay others, and so do the next
pub more_stay : (first others : List NewFile) (before between after : Option Files) →
    OthersStay first before between → OthersStay others between after → OthersStay (first ++ others) before after
more_stay first others None None after one two = two
more_stay first others None (Some g) after one two = cc
more_stay first others (Some f) None after one two = absurd one
more_stay first others (Some f) (Some g) None one two = absurd two
more_stay first others (Some f) (Some g) (Some h) one two = λ name all.
    two name (later first all) ∙ one name (earlier first all)
  where
    later : {name : List ℕ} (xs : List NewFile) → All (λ (file : NewFile). file.name ≢ name) (xs ++ others) → All (λ (file : NewFile). file.name ≢ name) others
    later [] all = all
    later {name} (x ∷ xs) all = later xs (others_all (λ (file : NewFile). file.name ≢ name) x (xs ++ others) all)

    earlier : {name : List ℕ} (xs : List NewFile) → All (λ (file : NewFile). file.name ≢ name) (xs ++ others) → All (λ (file : NewFile). file.name ≢ name) xs
    earlier [] all = λ k d less. absurd (omega (arith, less))
    earlier {name} (x ∷ xs) all =
        both_all (λ (file : NewFile). file.name ≢ name) x xs (first_all (λ (file : NewFile). file.name ≢ name) x (xs ++ others) all)
        (earlier xs (others_all (λ (file : NewFile). file.name ≢ name) x (xs ++ others) all))

-- ---- one file

-- the sink of a file that was opened is one of the desk as it is then
pub hands_on : (before between : DeskTold) (name : List ℕ) (room : ℕ) (sink : SinkTold) →
    between ≡ record before { files = files_with before.files name [] } → HandsSink before room sink → HandsSink between room sink
hands_on before between name room sink opened hands =
    subst (λ (desk : DeskTold). HandsSink desk room sink) (sym opened) (record {
      taken = told before.files hands.taken;
      no_fault = hands.no_fault;
      steady = hands.steady;
    })
  where
    told : (files : Option Files) → IfSome files (λ f. sink.taken ≡ Some []) → IfSome (files_with files name []) (λ f. sink.taken ≡ Some [])
    told None taken = tt
    told (Some files) taken = taken

-- a file is opened, and then filled
pub writes_one : (name bytes : List ℕ) (r : Result (Unit {0}) Refusal) (before between after : DeskTold) →
    between ≡ record before { files = files_with before.files name [] } → Fills name bytes r between after →
    Writes (record { name = name; bytes = bytes } ∷ []) r before after
writes_one name bytes (Ok x) before between after opened filled =
    filled ∙ ap (λ (desk : DeskTold). record desk { files = files_with desk.files name bytes }) opened
    ∙ ap (λ (files : Option Files). record before { files = files }) (files_twice before.files name [] bytes)
writes_one name bytes (Err refusal.Desk) before between after opened filled =
    let faults = ap (λ (desk : DeskTold). desk.faults) opened in
    let whole : after ≡ record before { files = files_with before.files name filled.0; faults = after.faults } =
    filled.3 ∙ ap (λ (desk : DeskTold). record desk { files = files_with desk.files name filled.0; faults = after.faults }) opened
    ∙ ap (λ (files : Option Files). record before { files = files; faults = after.faults }) (files_twice before.files name [] filled.0) in
    record {
      files = subst (λ (files : Option Files). OthersStay (record { name = name; bytes = bytes } ∷ []) before.files files)
          (sym (ap (λ (desk : DeskTold). desk.files) whole)) (one_stays before.files name filled.0 bytes);
      rises = rw faults at filled.1;
      rose = rw faults at filled.2;
      rest = whole ∙ ap (λ (files : Option Files). record before { files = files; faults = after.faults }) (sym (ap (λ (desk : DeskTold). desk.files) whole));
    }
writes_one name bytes (Err other) before between after opened filled = absurd filled

-- it isn't opened
pub writes_none : (name : List ℕ) (written : List NewFile) (why : Refusal) (before after : DeskTold) →
    Opens {T = Unit {0}} name (Err why) before after → Writes {T = Unit {0}} written (Err why) before after
writes_none name written refusal.Desk before after opens =
    let files = ap (λ (desk : DeskTold). desk.files) opens.2 in
    record {
      files = subst (λ (f : Option Files). OthersStay written before.files f) (sym files) (none_stays written before.files);
      rises = opens.0;
      rose = opens.1;
      rest = opens.2 ∙ ap (λ (f : Option Files). record before { files = f; faults = after.faults }) (sym files);
    }
writes_none name written refusal.Memory before after opens =
    let files = ap (λ (desk : DeskTold). desk.files) opens in
    record {
      files = subst (λ (f : Option Files). OthersStay written before.files f) (sym files) (none_stays written before.files);
      rest = opens ∙ ap (λ (f : Option Files). record before { files = f }) (sym files);
    }
writes_none name written other before after opens = absurd opens

-- ---- several files

-- the files so far are written
pub record SoFar (first all : List NewFile) (others : List NewFile) (before now : DeskTold) : Type 0 where
  pub whole : all ≡ first ++ others
  pub rest : now ≡ record before { files = with_files before.files first }

files_append : (files : Option Files) (first others : List NewFile) → with_files files (first ++ others) ≡ with_files (with_files files first) others
files_append files [] others = refl
files_append files (file ∷ first) others = files_append (files_with files file.name file.bytes) first others

pub first_stay : (files : Option Files) (first : List NewFile) → OthersStay first files (with_files files first)
first_stay files [] = none_stays [] files
first_stay files (file ∷ first) =
    more_stay (file ∷ []) first files (files_with files file.name file.bytes) (with_files (files_with files file.name file.bytes) first)
    (one_stays files file.name file.bytes file.bytes) (first_stay (files_with files file.name file.bytes) first)

-- one file more
pub one_more_file : (first : List NewFile) (file : NewFile) (others all : List NewFile) (before now after : DeskTold) →
    SoFar first all (file ∷ others) before now → Writes {T = Unit {0}} (file ∷ []) (Ok tt) now after → SoFar (first ++ file ∷ []) all others before after
one_more_file first file others all before now after so_far wrote = record {
  whole = so_far.whole ∙ sym (append_assoc first (file ∷ []) others);
  rest = wrote ∙ ap (λ (desk : DeskTold). record desk { files = with_files desk.files (file ∷ []) }) so_far.rest
      ∙ ap (λ (files : Option Files). record before { files = files }) (sym (files_append before.files first (file ∷ [])));
}

-- a file that isn't written
more_names : (written others : List NewFile) (before after : Option Files) → OthersStay written before after → OthersStay (written ++ others) before after
more_names written others before after stay = more_stay written others before after after stay (none_stays others after)

pub stopped_file : (first : List NewFile) (file : NewFile) (others all : List NewFile) (before now after : DeskTold) (why : Refusal) →
    SoFar first all (file ∷ others) before now → Writes {T = Unit {0}} (file ∷ []) (Err why) now after → Writes {T = Unit {0}} all (Err why) before after
stopped_file first file others all before now after why so_far wrote = by_why why wrote where
  stay : OthersStay (file ∷ []) now.files after.files → OthersStay all before.files after.files
  stay one =
      subst (λ (xs : List NewFile). OthersStay xs before.files after.files) (append_assoc first (file ∷ []) others ∙ sym so_far.whole)
      (more_names (first ++ file ∷ []) others before.files after.files
      (more_stay first (file ∷ []) before.files now.files after.files
      (subst (λ (f : Option Files). OthersStay first before.files f) (sym (ap (λ (desk : DeskTold). desk.files) so_far.rest)) (first_stay before.files first)) one))

  by_why : (why : Refusal) → Writes {T = Unit {0}} (file ∷ []) (Err why) now after → Writes {T = Unit {0}} all (Err why) before after
  by_why refusal.Desk wrote =
      let faults = ap (λ (desk : DeskTold). desk.faults) so_far.rest in
      record {
        files = stay wrote.files;
        rises = rw faults at wrote.rises;
        rose = rw faults at wrote.rose;
        rest = wrote.rest ∙ ap (λ (desk : DeskTold). record desk { files = after.files; faults = after.faults }) so_far.rest;
      }
  by_why refusal.Memory wrote = record {
    files = stay wrote.files;
    rest = wrote.rest ∙ ap (λ (desk : DeskTold). record desk { files = after.files }) so_far.rest;
  }
  by_why other wrote = absurd wrote

-- ---- what is done

grows_none : (said : Option (List ℕ)) → Grows said said (λ old new. new ≡ old ++ [])
grows_none None = tt
grows_none (Some said) = sym (append-nil said)

pub grows_front : (said : Option (List ℕ)) (text : List ℕ) → Grows said said (λ old new. (n : ℕ) × (new ≡ old ++ take n text))
grows_front None text = tt
grows_front (Some said) text = (0, sym (append-nil said))

-- where files are written and nothing is said
pub performs_files : (files : List NewFile) (r : Result (Unit {0}) Refusal) (before after : DeskTold) →
    Writes files r before after → Finished [] files r before after
performs_files files (Ok x) before after wrote = record {
  said = subst (λ (s : Option (List ℕ)). Grows before.said s (λ old new. new ≡ old ++ [])) (sym (ap (λ (desk : DeskTold). desk.said) wrote)) (grows_none before.said);
  room = λ steady. omega (arith, ap (λ (desk : DeskTold). desk.room) wrote);
  rest = rest-of;
}
  where
    rest-of : after ≡ record before { files = with_files before.files files; said = after.said; room = after.room }
    rest-of = wrote ∙ ap₂ (λ (s : Option (List ℕ)) (n : ℕ). record before { files = with_files before.files files; said = s; room = n })
        (sym (ap (λ (desk : DeskTold). desk.said) wrote)) (sym (ap (λ (desk : DeskTold). desk.room) wrote))
performs_files files (Err refusal.Desk) before after wrote = record {
  said = subst (λ (s : Option (List ℕ)). Grows before.said s (λ old new. (n : ℕ) × (new ≡ old ++ take n []))) (sym (ap (λ (desk : DeskTold). desk.said) wrote.rest)) (grows_front before.said []);
  files = wrote.files;
  rises = wrote.rises;
  rose = wrote.rose;
  rest = wrote.rest ∙ ap₂ (λ (s : Option (List ℕ)) (n : ℕ). record before { files = after.files; said = s; faults = after.faults; room = n })
      (sym (ap (λ (desk : DeskTold). desk.said) wrote.rest)) (sym (ap (λ (desk : DeskTold). desk.room) wrote.rest));
}
performs_files files (Err refusal.Memory) before after wrote = record { files = wrote.files; rest = wrote.rest }
performs_files files (Err other) before after wrote = absurd wrote

-- ---- label files

-- the numbers of a worker
pub numbers_found : (numbers : List (Vec ℕ Global)) (w : ℕ) (own : Vec ℕ Global) → slice_get numbers w ≡ Some own → list_at (lists_of numbers) w ≡ own.items
numbers_found [] w own e = cc
numbers_found (x ∷ xs) zero own e = ap (λ (o : Option (Vec ℕ Global)). (unwrap_or o x).items) e
numbers_found (x ∷ xs) (suc w) own e = numbers_found xs w own e

pub numbers_missing : (numbers : List (Vec ℕ Global)) (w : ℕ) → length numbers ≤ w → list_at (lists_of numbers) w ≡ []
numbers_missing [] w h = refl
numbers_missing (x ∷ xs) zero h = absurd (omega (arith, h))
numbers_missing (x ∷ xs) (suc w) h = numbers_missing xs w (omega (arith, h))

-- the next file is that of the next worker
pub so_far_next : (dealing : Dealing) (worker n m : ℕ) (first all : List NewFile) (before now : DeskTold) → n ≡ suc m →
    SoFar first all (label_files dealing.labels.now dealing.program dealing.seed (lists_of dealing.evaluator.items) worker n) before now →
    SoFar first all (file_by dealing worker ∷ label_files dealing.labels.now dealing.program dealing.seed (lists_of dealing.evaluator.items) (worker + 1) m) before now
so_far_next dealing worker n m first all before now next so_far =
    subst (λ (k : ℕ). SoFar first all (label_files dealing.labels.now dealing.program dealing.seed (lists_of dealing.evaluator.items) worker k) before now) next so_far
