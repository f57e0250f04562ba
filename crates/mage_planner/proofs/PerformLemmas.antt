-- What is done of what a command comes to.
use Rattle.std.proofs.Common.{◌≡◌, ◌≢◌, ◌≤◌, inl, ℕ, List, [], length, map, Bool, Option, Some, None, Result, Ok, Err, refl, sym, ap, ap₂, subst, ◌∙◌, ◌∷◌, ◌++◌, take, IsTrue, IsSome, arith}
use Rattle.std.proofs.Math.Path.{fun_ext}
use Rattle.std.specs.Option.{IfSome}
use Rattle.mage_base.specs.Desk.{DeskTold, Files, Returned, StoreId}
use Rattle.mage_base.specs.Store.{StoreTold}
use Rattle.mage_source_runs.specs.Moves.{Moves}
use Rattle.mage_planner.specs.declared.refusal.Refusal.{Refusal}
use Rattle.mage_planner.specs.declared.refusal.Refusal.TheVariants as refusal
use Rattle.mage_planner.specs.Outcome.{Done, NewFile, Reading, says_and_writes}
use Rattle.mage_planner.specs.Steps.{IsNoDeskFault, IsNotDesk, WorkCounted, RefusalCounted, Refuses}
use Rattle.mage_planner.specs.Stores.{GivesBack, HaveMoved}
use Rattle.mage_planner.specs.Answer.{Works, Ceases, Closes, HasRoom, NothingIsWrong, ReadsThese, TellsStores, OthersStay, StreamsAreRight, files_of, reads_of, streams_of, text_of, with_files}
use Rattle.mage_planner.specs.Warned.{Grows}
use Rattle.mage_planner.specs.Writing.{Finished, Performs, Writes}
use Rattle.mage_planner.proofs.WritingLemmas.{one_stays, none_stays, grows_front}
use Rattle.mage_planner.proofs.WordsLemmas.{IsBare, IsOfStore}
use Rattle.mage_planner.proofs.BegunLemmas.{nothing_begun, quiet_begun}

-- where nothing is written all files stay
pub all_stay : (before after : Option Files) → OthersStay [] before after → after ≡ before
all_stay None after stay = stay
all_stay (Some old) None stay = absurd stay
all_stay (Some old) (Some new) stay =
    ap (λ (files : Files). Some files) (fun_ext (λ name. stay name (λ k d less. absurd (omega (arith, less)))))

-- what has no name isn't there
pub unnamed : (files : List NewFile) → map (λ (file : NewFile). file.name) files ≡ [] → files ≡ []
unnamed [] none = refl
unnamed (file ∷ files) none = absurd (cc)

-- ---- frames

-- what a command may change of what the desk tells, before its line is warned
abbrev pub Frame : (before after : DeskTold) → Type 0
Frame before after = after ≡ record before {
  files = after.files;
  said = after.said;
  faults = after.faults;
  room = after.room;
  lent = after.lent;
  returned = after.returned;
}

-- so it is where all else is equated
framed : (before after : DeskTold) (files : Option Files) (said : Option (List ℕ)) (faults room : ℕ) (lent : List StoreId) (returned : ℕ → Returned)
    → after ≡ record before { files = files; said = said; faults = faults; room = room; lent = lent; returned = returned } → Frame before after
framed before after files said faults room lent returned is = subst (λ (desk : DeskTold). Frame before desk) (sym is) refl

joined_frames : (before between after : DeskTold) → Frame before between → Frame between after → Frame before after
joined_frames before between after first second =
    second ∙ ap (λ (desk : DeskTold). record desk { files = after.files; said = after.said; faults = after.faults; room = after.room; lent = after.lent; returned = after.returned }) first

-- ---- stores that are back

module _ (shelves : List (List StoreTold)) (before after : DeskTold) (given : GivesBack shelves before after) where
  pub back_frame : Frame before after
  back_frame = framed before after before.files before.said before.faults before.room after.lent _ given.back.rest

  pub back_faults : after.faults ≡ before.faults
  back_faults = ap (λ (desk : DeskTold). desk.faults) given.back.rest

  pub back_files : after.files ≡ before.files
  back_files = ap (λ (desk : DeskTold). desk.files) given.back.rest

-- no store was asked for
pub none_back : (before : DeskTold) → GivesBack [] before before
none_back before = record { own = tt; back = record { lent = record { often = λ id. refl; same = λ none. refl }; rest = refl } }

-- no stream was closed
pub none_closed : (streams : List NewFile) (reads : Option Reading) (desk : DeskTold) → Closes streams reads desk desk
none_closed streams reads desk = record { rises = omega arith; calm = λ none unread. refl; rest = refl }

-- where no store was asked for, nothing is given back
back_none : (shelves : List (List StoreTold)) (before after : DeskTold) → length shelves ≡ 0 → GivesBack shelves before after
    → (after.returned ≡ before.returned) × (after.lent ≡ before.lent)
back_none [] before after none given = (
  ap (λ (desk : DeskTold). desk.returned) given.back.rest,
  given.back.lent.same (λ worker less. absurd (omega (arith, less))),
)
back_none (shelf ∷ shelves) before after none given = absurd (omega (arith, none))

pub moved_count : (moves : List Moves) (shelves : List (List StoreTold)) → HaveMoved moves shelves → length shelves ≡ length moves
moved_count [] [] moved = refl
moved_count [] (shelf ∷ shelves) moved = absurd moved
moved_count (own ∷ moves) [] moved = absurd moved
moved_count (own ∷ moves) ([] ∷ shelves) moved = absurd moved
moved_count (own ∷ moves) ((store ∷ []) ∷ shelves) moved = let rest = moved_count moves shelves moved.1 in omega (arith, rest)
moved_count (own ∷ moves) ((store ∷ next ∷ others) ∷ shelves) moved = absurd moved

-- ---- what is done, or stopped

module _ (done : Done) (before after : DeskTold) where
  -- the count of faults
  ceased_count : (shelves : List (List StoreTold)) (between stopped : DeskTold) (written streams : List NewFile) → GivesBack shelves before between
      → Ceases written between stopped → Closes streams done.reads stopped after → stopped.faults ≡ before.faults
  ceased_count shelves between stopped written streams given ceases closes =
      ap (λ (desk : DeskTold). desk.faults) ceases.rest ∙ back_faults shelves before between given

  risen : (mid : ℕ) → mid ≡ before.faults → mid ≤ after.faults → before.faults ≤ after.faults
  risen mid same rises = omega (arith, same, rises)

  pub counts : (r : Result (Unit {0}) Refusal) → Performs done r before after → WorkCounted before.faults after.faults r
  counts (Ok x) does = ap (λ (desk : DeskTold). desk.faults) does.finishes.rest ∙ back_faults does.shelves before does.between does.given
  counts (Err refusal.Desk) fails =
      let same = back_faults fails.shelves before fails.between fails.returns.given in (rw same at fails.breaks.rises, rw same at fails.breaks.rose)
  counts (Err refusal.Memory) stops =
      risen stops.stopped.faults (ceased_count stops.shelves stops.between stops.stopped _ _ stops.returns.given stops.ceases stops.closes) stops.closes.rises
  counts (Err (refusal.Store worker)) breaks =
      risen breaks.1.stopped.faults (ceased_count breaks.1.shelves breaks.1.between breaks.1.stopped _ _ breaks.1.returns.given breaks.1.ceases breaks.1.closes) breaks.1.closes.rises
  counts (Err (refusal.Damaged worker damage)) damages =
      risen damages.1.stopped.faults (ceased_count damages.1.shelves damages.1.between damages.1.stopped _ _ damages.1.returns.given damages.1.ceases damages.1.closes)
      damages.1.closes.rises
  counts (Err (refusal.Stream worker fault)) misreads =
      risen misreads.1.between.faults (back_faults misreads.1.shelves before misreads.1.between misreads.1.returns.given) misreads.1.rises
  counts (Err other) none = absurd none

  -- without streams only the desk's fault raises it
  pub calm_counts : (r : Result (Unit {0}) Refusal) → done.streams ≡ [] → done.reads ≡ None → Performs done r before after → IsNoDeskFault r → after.faults ≡ before.faults
  calm_counts (Ok x) none unread does not = counts (Ok x) does
  calm_counts (Err refusal.Memory) none unread stops not =
      stops.closes.calm none unread ∙ ceased_count stops.shelves stops.between stops.stopped _ _ stops.returns.given stops.ceases stops.closes
  calm_counts (Err refusal.Desk) none unread performs not = absurd not
  calm_counts (Err (refusal.Store worker)) none unread performs not = absurd not
  calm_counts (Err (refusal.Damaged worker damage)) none unread performs not = absurd not
  calm_counts (Err (refusal.Stream worker fault)) none unread performs not = absurd not
  calm_counts (Err other) none unread performs not = absurd performs

  -- stores are back, and then files were written or not
  ceased : (shelves : List (List StoreTold)) (between stopped : DeskTold) (written streams : List NewFile) → GivesBack shelves before between → Ceases written between stopped
      → Closes streams done.reads stopped after → Frame before after
  ceased shelves between stopped written streams given ceases closes =
      joined_frames before between after (back_frame shelves before between given)
      (joined_frames between stopped after
      (framed between stopped stopped.files between.said between.faults between.room between.lent between.returned ceases.rest)
      (framed stopped after stopped.files stopped.said after.faults stopped.room stopped.lent stopped.returned closes.rest))

  pub changes : (r : Result (Unit {0}) Refusal) → Performs done r before after → Frame before after
  changes (Ok x) does =
      joined_frames before does.between after (back_frame does.shelves before does.between does.given)
      (framed does.between after _ after.said does.between.faults after.room does.between.lent does.between.returned does.finishes.rest)
  changes (Err refusal.Desk) fails =
      joined_frames before fails.between after (back_frame fails.shelves before fails.between fails.returns.given)
      (framed fails.between after after.files after.said after.faults after.room fails.between.lent fails.between.returned fails.breaks.rest)
  changes (Err refusal.Memory) stops = ceased stops.shelves stops.between stops.stopped (files_of (Ok done)) done.streams stops.returns.given stops.ceases stops.closes
  changes (Err (refusal.Store worker)) breaks =
      ceased breaks.1.shelves breaks.1.between breaks.1.stopped (files_of (Ok done)) done.streams breaks.1.returns.given breaks.1.ceases breaks.1.closes
  changes (Err (refusal.Damaged worker damage)) damages =
      ceased damages.1.shelves damages.1.between damages.1.stopped (files_of (Ok done)) done.streams damages.1.returns.given damages.1.ceases damages.1.closes
  changes (Err (refusal.Stream worker fault)) misreads =
      joined_frames before misreads.1.between after (back_frame misreads.1.shelves before misreads.1.between misreads.1.returns.given)
      (framed misreads.1.between after misreads.1.between.files misreads.1.between.said after.faults misreads.1.between.room misreads.1.between.lent misreads.1.between.returned misreads.1.rest)
  changes (Err other) none = absurd none

  -- a command without files leaves them
  none_of : IsBare done → files_of (Ok done) ≡ []
  none_of bare = ap₂ (λ (streams files : List NewFile). streams ++ files) bare.1 bare.0

  -- where none is written, others stay: all of them
  none_written : (shelves : List (List StoreTold)) (between stopped : DeskTold) → GivesBack shelves before between → OthersStay (files_of (Ok done)) between.files stopped.files
      → IsBare done → stopped.files ≡ before.files
  none_written shelves between stopped given stay bare =
      all_stay between.files stopped.files (subst (λ (written : List NewFile). OthersStay written between.files stopped.files) (none_of bare) stay)
      ∙ back_files shelves before between given

  none_ceased : (shelves : List (List StoreTold)) (between stopped : DeskTold) → GivesBack shelves before between → Ceases (files_of (Ok done)) between stopped
      → Closes done.streams done.reads stopped after → IsBare done → after.files ≡ before.files
  none_ceased shelves between stopped given ceases closes bare =
      ap (λ (desk : DeskTold). desk.files) closes.rest ∙ none_written shelves between stopped given ceases.files bare

  pub leaves_files : (r : Result (Unit {0}) Refusal) → Performs done r before after → IsBare done → after.files ≡ before.files
  leaves_files (Ok x) does bare =
      let filled = unnamed does.filled (does.named ∙ ap (map (λ (file : NewFile). file.name)) bare.1) in
      ap (λ (desk : DeskTold). desk.files) does.finishes.rest
      ∙ ap₂ (λ (streams files : List NewFile). with_files does.between.files (streams ++ files)) filled bare.0 ∙ back_files does.shelves before does.between does.given
  leaves_files (Err refusal.Desk) fails bare = none_written fails.shelves fails.between after fails.returns.given fails.breaks.files bare
  leaves_files (Err refusal.Memory) stops bare = none_ceased stops.shelves stops.between stops.stopped stops.returns.given stops.ceases stops.closes bare
  leaves_files (Err (refusal.Store worker)) breaks bare =
      none_ceased breaks.1.shelves breaks.1.between breaks.1.stopped breaks.1.returns.given breaks.1.ceases breaks.1.closes bare
  leaves_files (Err (refusal.Damaged worker damage)) damages bare =
      none_ceased damages.1.shelves damages.1.between damages.1.stopped damages.1.returns.given damages.1.ceases damages.1.closes bare
  leaves_files (Err (refusal.Stream worker fault)) misreads bare =
      ap (λ (desk : DeskTold). desk.files) misreads.1.rest ∙ back_files misreads.1.shelves before misreads.1.between misreads.1.returns.given
  leaves_files (Err other) performs bare = absurd performs

  -- a command that asks for no store leaves what came of others
  pub leaves_stores : (r : Result (Unit {0}) Refusal) → Performs done r before after → done.moves ≡ [] → (after.returned ≡ before.returned) × (after.lent ≡ before.lent)
  leaves_stores (Ok x) does none =
      let many = moved_count done.moves does.shelves does.moved ∙ ap (λ (moves : List Moves). length moves) none in
      let same = back_none does.shelves before does.between many does.given in (
        ap (λ (desk : DeskTold). desk.returned) does.finishes.rest ∙ same.0,
        ap (λ (desk : DeskTold). desk.lent) does.finishes.rest ∙ same.1,
      )
  leaves_stores (Err refusal.Desk) fails none =
      let few = fails.returns.few in
      let count = ap (λ (moves : List Moves). length moves) none in
      let same = back_none fails.shelves before fails.between (omega (arith, few, count)) fails.returns.given in (
        ap (λ (desk : DeskTold). desk.returned) fails.breaks.rest ∙ same.0,
        ap (λ (desk : DeskTold). desk.lent) fails.breaks.rest ∙ same.1,
      )
  leaves_stores (Err refusal.Memory) stops none =
      let few = stops.returns.few in
      let count = ap (λ (moves : List Moves). length moves) none in
      let same = back_none stops.shelves before stops.between (omega (arith, few, count)) stops.returns.given in (
        ap (λ (desk : DeskTold). desk.returned) stops.closes.rest ∙ ap (λ (desk : DeskTold). desk.returned) stops.ceases.rest ∙ same.0,
        ap (λ (desk : DeskTold). desk.lent) stops.closes.rest ∙ ap (λ (desk : DeskTold). desk.lent) stops.ceases.rest ∙ same.1,
      )
  leaves_stores (Err (refusal.Store worker)) breaks none =
      let inside = breaks.0 in let count = ap (λ (moves : List Moves). length moves) none in absurd (omega (arith, inside, count))
  leaves_stores (Err (refusal.Damaged worker damage)) damages none =
      let inside = damages.0 in let count = ap (λ (moves : List Moves). length moves) none in absurd (omega (arith, inside, count))
  leaves_stores (Err (refusal.Stream worker fault)) misreads none =
      let inside = misreads.0 in let count = ap (λ (moves : List Moves). length moves) none in absurd (omega (arith, inside, count))
  leaves_stores (Err other) performs none = absurd performs

  -- it is what the work comes to
  pub works : (steady : Bool) (outcome : Result Done Refusal) (r : Result (Unit {0}) Refusal) → outcome ≡ Ok done → Performs done r before after →
      Works steady outcome r before after
  works steady outcome (Ok x) comes does = rw comes does
  works steady outcome (Err refusal.Desk) comes fails = rw comes (λ sure. refl, fails)
  works steady outcome (Err refusal.Memory) comes stops = rw comes (tt, stops)
  works steady outcome (Err (refusal.Store worker)) comes breaks = rw comes breaks
  works steady outcome (Err (refusal.Damaged worker damage)) comes damages = rw comes damages
  works steady outcome (Err (refusal.Stream worker fault)) comes misreads = rw comes ((misreads.0, misreads.1.reads), misreads.1)
  works steady outcome (Err other) comes none = absurd none

module _ (before after : DeskTold) (Is : Done → Type 0) where
  pub works_told : (steady : Bool) (files : Option Files) (outcome : Files → Result Done Refusal) (r : Result (Unit {0}) Refusal) →
      IfSome files (λ told. (done : Done) × Is done × (outcome told ≡ Ok done)) → ((done : Done) → Is done → Performs done r before after) →
      IfSome files (λ told. Works steady (outcome told) r before after)
  works_told steady None outcome r comes performs = tt
  works_told steady (Some told) outcome r comes performs = works comes.0 before after steady (outcome told) r comes.2 (performs comes.0 comes.1)

  pub steady_told : (files : Option Files) (outcome : Files → Result Done Refusal) (r : Result (Unit {0}) Refusal) →
      IfSome files (λ told. (done : Done) × Is done × (outcome told ≡ Ok done)) →
      ((done : Done) → Is done → IsSome files → (done.moves ≢ [] → IsTrue before.stores_tell_pages) → ReadsThese files done.reads → NothingIsWrong (length done.moves) done.reads → length done.said ≤ before.room
      → IsNoDeskFault r × (after.faults ≡ before.faults)) →
      ((told : Files) (done : Done) → outcome told ≡ Ok done → ReadsThese (Some told) done.reads) →
      IfSome files (λ told. IsNoDeskFault (outcome told) → HasRoom before (outcome told) → TellsStores before (outcome told) → StreamsAreRight (outcome told)
      → IsNoDeskFault r × (after.faults ≡ before.faults))
  steady_told None outcome r comes steady reads = tt
  steady_told (Some told) outcome r comes steady reads = λ found has tells fine.
      steady comes.0 comes.1 refl (rw comes.2 at tells) (reads told comes.0 comes.2) (rw comes.2 at fine) (rw comes.2 at has)

-- what is done without a store
pub without_stores : (text : List ℕ) (files : List NewFile) (r : Result (Unit {0}) Refusal) (before after : DeskTold) →
    Finished text files r before after → Performs (says_and_writes text files) r before after
without_stores text files (Ok x) before after finishes = record {
  shelves = [];
  moved = tt;
  between = before;
  given = none_back before;
  text = text;
  right = λ own. inl refl;
  sound = λ own. inl tt;
  filled = [];
  right_streams = inl refl;
  named = refl;
  finishes = finishes;
}
without_stores text files (Err refusal.Desk) before after breaks = record {
  shelves = [];
  between = before;
  returns = record { few = omega arith; given = none_back before };
  text = text;
  right = λ own. inl refl;
  breaks = breaks;
  fronts = quiet_begun (says_and_writes text files) before after [] refl breaks.files;
}
without_stores text files (Err refusal.Memory) before after ceases = record {
  shelves = [];
  between = before;
  returns = record { few = omega arith; given = none_back before };
  stopped = after;
  ceases = ceases;
  closes = none_closed [] None after;
  fronts = quiet_begun (says_and_writes text files) before after [] refl ceases.files;
}
without_stores text files (Err other) before after none = absurd none

-- the same of work that does this
pub work_without_stores : (done x : Done) (r : Result (Unit {0}) Refusal) (before after : DeskTold) → x.moves ≡ [] → x.streams ≡ [] → x.reads ≡ None → done ≡ x → Finished x.said x.files r before after → Performs done r before after
work_without_stores done x r before after none none_too unread same finished =
    subst (λ (d : Done). Performs d r before after)
    (ap₂ (λ (moves : List Moves) (streams : List NewFile). record { said = x.said; files = x.files; streams = streams; moves = moves; reads = None }) (sym none) (sym none_too)
    ∙ ap (λ (reads : Option Reading). record { said = x.said; files = x.files; streams = x.streams; moves = x.moves; reads = reads }) (sym unread) ∙ sym same)
    (without_stores x.said x.files r before after finished)

-- nothing failed, and no fault was counted
pub calm_too : (done : Done) (before after : DeskTold) (r : Result (Unit {0}) Refusal) → done.streams ≡ [] → done.reads ≡ None → Performs done r before after → IsNoDeskFault r
    → IsNoDeskFault r × (after.faults ≡ before.faults)
calm_too done before after r none unread performs not = (not, calm_counts done before after r none unread performs not)

-- what a step of the work refuses isn't the desk's fault, where the desk is steady and the work doesn't come to it
pub refused_steady : (steady : Bool) (why : Refusal) (outcome : Result Done Refusal) (before after : ℕ) → IsTrue steady → Refuses steady why outcome
    → RefusalCounted before after why → IsNoDeskFault outcome → IsNotDesk why × (after ≡ before)
refused_steady steady refusal.Desk outcome before after sure refuses counted not =
    absurd (subst (λ (o : Result Done Refusal). IsNoDeskFault o) (refuses sure) not)
refused_steady steady refusal.Memory outcome before after sure refuses counted not = (tt, counted)
refused_steady steady (refusal.Store worker) outcome before after sure refuses counted not =
    absurd (subst (λ (o : Result Done Refusal). IsNoDeskFault o) refuses not)
refused_steady steady (refusal.Damaged worker damage) outcome before after sure refuses counted not =
    absurd (subst (λ (o : Result Done Refusal). IsNoDeskFault o) refuses not)
refused_steady steady (refusal.Stream worker fault) outcome before after sure refuses counted not =
    absurd (subst (λ (o : Result Done Refusal). IsNoDeskFault o) refuses not)
refused_steady steady why outcome before after sure refuses counted not = (tt, counted)

-- what a step counts the whole work counts
pub work_counted : (why : Refusal) (before after : ℕ) → RefusalCounted before after why → WorkCounted {T = Unit {0}} before after (Err why)
work_counted refusal.Desk before after counted = counted
work_counted why before after counted = omega (arith, counted)

-- the desk that was read stays
pub unread : (before mid : DeskTold) → mid ≡ record before { faults = mid.faults } → mid.faults ≡ before.faults → mid ≡ before
unread before mid rest same = rest ∙ ap (λ (faults : ℕ). record before { faults = faults }) same

-- what a step of the work refuses, before anything is done
pub refused : (steady : Bool) (outcome : Result Done Refusal) (why : Refusal) (before after : DeskTold) → (IsOfStore why → outcome ≡ Err why → ⊥)
    → Refuses steady why outcome → RefusalCounted before.faults after.faults why → after ≡ record before { faults = after.faults }
    → Works {T = Unit {0}} steady outcome (Err why) before after
refused steady outcome refusal.Desk before after none refuses counted rest = (
  λ sure. rw (refuses sure) refl,
  record {
    shelves = [];
    between = before;
    returns = record { few = omega arith; given = none_back before };
    text = text_of outcome;
    right = λ own. inl refl;
    breaks = record {
      said = subst (λ (s : Option (List ℕ)). Grows before.said s (λ old new. (n : ℕ) × (new ≡ old ++ take n (text_of outcome)))) (sym (ap (λ (desk : DeskTold). desk.said) rest)) (grows_front before.said (text_of outcome));
      files = subst (λ (f : Option Files). OthersStay (files_of outcome) before.files f) (sym (ap (λ (desk : DeskTold). desk.files) rest)) (none_stays (files_of outcome) before.files);
      rises = counted.0;
      rose = counted.1;
      rest = rest ∙ ap (λ (f : Option Files). record before { files = f; faults = after.faults }) (sym (ap (λ (desk : DeskTold). desk.files) rest))
          ∙ ap₂ (λ (s : Option (List ℕ)) (n : ℕ). record before { files = after.files; said = s; faults = after.faults; room = n })
          (sym (ap (λ (desk : DeskTold). desk.said) rest)) (sym (ap (λ (desk : DeskTold). desk.room) rest));
    };
    fronts = nothing_begun outcome before after [] (ap (λ (desk : DeskTold). desk.files) rest);
  },
)
refused steady outcome refusal.Memory before after none refuses counted rest =
    let same = unread before after rest counted in (
      tt,
      record {
        shelves = [];
        between = before;
        returns = record { few = omega arith; given = none_back before };
        stopped = after;
        ceases = rw same (record { files = none_stays (files_of outcome) before.files; rest = refl });
        closes = none_closed (streams_of outcome) (reads_of outcome) after;
        fronts = nothing_begun outcome before after [] (ap (λ (desk : DeskTold). desk.files) rest);
      },
    )
refused steady outcome (refusal.Store worker) before after none refuses counted rest = absurd (none tt refuses)
refused steady outcome (refusal.Damaged worker damage) before after none refuses counted rest = absurd (none tt refuses)
refused steady outcome (refusal.Stream worker fault) before after none refuses counted rest = absurd (none tt refuses)
refused steady outcome why before after none refuses counted rest = (refuses, unread before after rest counted)

-- ---- a file, and then a text

module _ (file : NewFile) (text : List ℕ) where
  -- the file is written, and the text is said, or not
  pub written_said : (r : Result (Unit {0}) Refusal) (before mid after : DeskTold) → Writes {T = Unit {0}} (file ∷ []) (Ok tt) before mid
      → Finished text [] r mid after → Finished text (file ∷ []) r before after
  written_said (Ok x) before mid after wrote does = record {
    said = subst (λ (s : Option (List ℕ)). Grows s after.said (λ old new. new ≡ old ++ text)) (ap (λ (desk : DeskTold). desk.said) wrote) does.said;
    room = λ steady. let room = does.room (subst IsTrue (sym (ap (λ (desk : DeskTold). desk.steady) wrote)) steady) in omega (arith, room, ap (λ (desk : DeskTold). desk.room) wrote);
    rest = does.rest ∙ ap (λ (desk : DeskTold). record desk { files = desk.files; said = after.said; room = after.room }) wrote;
  }
  written_said (Err refusal.Desk) before mid after wrote fails =
      let faults = ap (λ (desk : DeskTold). desk.faults) wrote in
      let files = all_stay mid.files after.files fails.files ∙ ap (λ (desk : DeskTold). desk.files) wrote in
      record {
        said = subst (λ (s : Option (List ℕ)). Grows s after.said (λ old new. (n : ℕ) × (new ≡ old ++ take n text))) (ap (λ (desk : DeskTold). desk.said) wrote) fails.said;
        files = subst (λ (f : Option Files). OthersStay (file ∷ []) before.files f) (sym files) (one_stays before.files file.name file.bytes file.bytes);
        rises = rw faults at fails.rises;
        rose = rw faults at fails.rose;
        rest = fails.rest ∙ ap (λ (desk : DeskTold). record desk { files = after.files; said = after.said; faults = after.faults; room = after.room }) wrote;
      }
  written_said (Err refusal.Memory) before mid after wrote stops =
      let files = all_stay mid.files after.files stops.files ∙ ap (λ (desk : DeskTold). desk.files) wrote in
      record {
        files = subst (λ (f : Option Files). OthersStay (file ∷ []) before.files f) (sym files) (one_stays before.files file.name file.bytes file.bytes);
        rest = stops.rest ∙ ap (λ (desk : DeskTold). record desk { files = after.files }) wrote;
      }
  written_said (Err other) before mid after wrote none = absurd none

-- files that aren't written, or not all of them
module _ (files : List NewFile) (text : List ℕ) where
  pub unwritten : (why : Refusal) (before after : DeskTold) → Writes {T = Unit {0}} files (Err why) before after → Finished {T = Unit {0}} text files (Err why) before after
  unwritten refusal.Desk before after wrote = record {
    said = subst (λ (s : Option (List ℕ)). Grows before.said s (λ old new. (n : ℕ) × (new ≡ old ++ take n text))) (sym (ap (λ (desk : DeskTold). desk.said) wrote.rest)) (grows_front before.said text);
    files = wrote.files;
    rises = wrote.rises;
    rose = wrote.rose;
    rest = wrote.rest ∙ ap₂ (λ (s : Option (List ℕ)) (n : ℕ). record before { files = after.files; said = s; faults = after.faults; room = n })
        (sym (ap (λ (desk : DeskTold). desk.said) wrote.rest)) (sym (ap (λ (desk : DeskTold). desk.room) wrote.rest));
  }
  unwritten refusal.Memory before after wrote = record { files = wrote.files; rest = wrote.rest }
  unwritten other before after wrote = absurd wrote
