-- Files are written, and then a run's text is said behind a summary.
use Rattle.std.proofs.Common.{◌≡◌, ◌≤◌, ◌++◌, inl, inr, ℕ, List, [], ◌∷◌, length, Option, None, Result, Ok, Err, refl, sym, ap, subst, ◌∙◌, arith}
use Rattle.std.specs.Prelude.{codes}
use Rattle.mage_base.specs.declared.failure.Damage.{Damage}
use Rattle.mage_base.specs.Desk.{DeskTold, Files, Returned}
use Rattle.mage_base.specs.Store.{StoreTold}
use Rattle.mage_planner.specs.declared.refusal.Refusal.{Refusal}
use Rattle.mage_planner.specs.declared.refusal.Refusal.TheVariants as refusal
use Rattle.mage_planner.specs.Outcome.{Done, NewFile, ending_file, generates}
use Rattle.mage_planner.specs.Answer.{Finishes, BreaksOff, Ceases, Closes, OthersStay, ReadsThese, StreamsBegin, Returns, StoresAreSound, with_files}
use Rattle.mage_planner.specs.Ran.{Ran}
use Rattle.mage_planner.specs.Stores.{AreOfDesk, GivesBack, HasDamaged, IsRight, WereDeceived}
use Rattle.mage_planner.specs.Writing.{Performs, Writes}
use Rattle.mage_planner.proofs.PerformLemmas.{all_stay, back_files, none_back, none_closed, unnamed, unwritten}
use Rattle.mage_planner.proofs.HaltedLemmas.{all_sound, still_sound}
use Rattle.mage_planner.proofs.BegunLemmas.{quiet_begun}
use Rattle.mage_planner.proofs.WritingLemmas.{SoFar, first_stay, one_more_file, stopped_file}

-- ---- behind a summary

pub ran_behind : (summary : List ℕ) (done : Done) (text : List ℕ) (before after : DeskTold) → done.reads ≡ None → Ran done text before after
    → Ran (generates [] summary done) (summary ++ text) before after
ran_behind summary done text before after unread ran = record {
  shelves = ran.shelves;
  moved = ran.moved;
  given = ran.given;
  right = λ own. go (ran.right (subst (ReadsThese before.files) (sym unread) tt));
  sound = λ own. inl tt;
}
  where
    go : IsRight before ran.shelves done.said text → IsRight before ran.shelves (summary ++ done.said) (summary ++ text)
    go (inl same) = inl (ap (λ (t : List ℕ). summary ++ t) same)
    go (inr deceived) = inr deceived

-- ---- three files

module _ (first second third : NewFile) (before mid after : DeskTold) where
  abbrev all : List NewFile
  all = first ∷ second ∷ third ∷ []

  pub first_stops : (why : Refusal) → Writes {T = Unit {0}} (first ∷ []) (Err why) before after → Writes {T = Unit {0}} all (Err why) before after
  first_stops why wrote = stopped_file [] first (second ∷ third ∷ []) all before before after why (record { whole = refl; rest = refl }) wrote

  pub second_stops : (why : Refusal) → Writes {T = Unit {0}} (first ∷ []) (Ok tt) before mid → Writes {T = Unit {0}} (second ∷ []) (Err why) mid after
      → Writes {T = Unit {0}} all (Err why) before after
  second_stops why wrote stopped = stopped_file (first ∷ []) second (third ∷ []) all before mid after why (record { whole = refl; rest = wrote }) stopped

third_so : (first second third : NewFile) (before between after : DeskTold) (r : Result (Unit {0}) Refusal)
    → SoFar (first ∷ second ∷ []) (first ∷ second ∷ third ∷ []) (third ∷ []) before between → Writes (third ∷ []) r between after
    → Writes (first ∷ second ∷ third ∷ []) r before after
third_so first second third before between after (Ok x) so_far wrote =
    (one_more_file (first ∷ second ∷ []) third [] (first ∷ second ∷ third ∷ []) before between after so_far wrote).rest
third_so first second third before between after (Err why) so_far stopped =
    stopped_file (first ∷ second ∷ []) third [] (first ∷ second ∷ third ∷ []) before between after why so_far stopped

pub third_ends : (first second third : NewFile) (before mid between after : DeskTold) (r : Result (Unit {0}) Refusal)
    → Writes {T = Unit {0}} (first ∷ []) (Ok tt) before mid → Writes {T = Unit {0}} (second ∷ []) (Ok tt) mid between
    → Writes (third ∷ []) r between after → Writes (first ∷ second ∷ third ∷ []) r before after
third_ends first second third before mid between after r wrote wrote_too wrote_last =
    third_so first second third before between after r
    (one_more_file (first ∷ []) second (third ∷ []) (first ∷ second ∷ third ∷ []) before mid between (record { whole = refl; rest = wrote }) wrote_too) wrote_last

-- ---- the files that are generated

abbrev all_of : (stem source garbler evaluator : List ℕ) → List NewFile
all_of stem source garbler evaluator =
    ending_file stem (codes ".mage") source ∷ ending_file stem (codes ".garbler") garbler ∷ ending_file stem (codes ".evaluator") evaluator ∷ []

-- Below, these bytes were written for those.
module _ (stem source source' garbler garbler' evaluator evaluator' : List ℕ) (before mid between after : DeskTold) (same : source' ≡ source) where
  pub source_stops : (why : Refusal) → Writes {T = Unit {0}} (ending_file stem (codes ".mage") source' ∷ []) (Err why) before after
      → Writes {T = Unit {0}} (all_of stem source garbler evaluator) (Err why) before after
  source_stops why wrote =
      subst (λ (s : List ℕ). Writes {T = Unit {0}} (all_of stem s garbler evaluator) (Err why) before after) same
      (first_stops (ending_file stem (codes ".mage") source') (ending_file stem (codes ".garbler") garbler) (ending_file stem (codes ".evaluator") evaluator) before before after why wrote)

  module _ (same_garbler : garbler' ≡ garbler) (wrote : Writes {T = Unit {0}} (ending_file stem (codes ".mage") source' ∷ []) (Ok tt) before mid) where
    pub garbler_stops : (why : Refusal) → Writes {T = Unit {0}} (ending_file stem (codes ".garbler") garbler' ∷ []) (Err why) mid after
        → Writes {T = Unit {0}} (all_of stem source garbler evaluator) (Err why) before after
    garbler_stops why stopped =
        subst (λ (s : List ℕ). Writes {T = Unit {0}} (all_of stem s garbler evaluator) (Err why) before after) same
        (subst (λ (s : List ℕ). Writes {T = Unit {0}} (all_of stem source' s evaluator) (Err why) before after) same_garbler
        (second_stops (ending_file stem (codes ".mage") source') (ending_file stem (codes ".garbler") garbler') (ending_file stem (codes ".evaluator") evaluator) before mid after why
        wrote stopped))

    pub evaluator_ends : evaluator' ≡ evaluator → (r : Result (Unit {0}) Refusal) → Writes {T = Unit {0}} (ending_file stem (codes ".garbler") garbler' ∷ []) (Ok tt) mid between
        → Writes (ending_file stem (codes ".evaluator") evaluator' ∷ []) r between after → Writes (all_of stem source garbler evaluator) r before after
    evaluator_ends same_evaluator r wrote_too ended =
        subst (λ (s : List ℕ). Writes (all_of stem s garbler evaluator) r before after) same
        (subst (λ (s : List ℕ). Writes (all_of stem source' s evaluator) r before after) same_garbler
        (subst (λ (s : List ℕ). Writes (all_of stem source' garbler' s) r before after) same_evaluator
        (third_ends (ending_file stem (codes ".mage") source') (ending_file stem (codes ".garbler") garbler') (ending_file stem (codes ".evaluator") evaluator') before mid between after r
        wrote wrote_too ended)))

-- ---- files are written first

-- Below, these files are written, and the rest is done from there on.
module _ (files : List NewFile) (before : DeskTold) where
  abbrev wrote : DeskTold
  wrote = record before { files = with_files before.files files }

  own_before : (shelves : List (List StoreTold)) → AreOfDesk wrote shelves → AreOfDesk before shelves
  own_before [] own = tt
  own_before ((store ∷ []) ∷ shelves) own = (own.0, own_before shelves own.1)
  own_before _ own = absurd own

  -- the stores were given back as if no file had been written
  abbrev unwrote : DeskTold → DeskTold
  unwrote between = record between { files = before.files }

  given_before : (shelves : List (List StoreTold)) (between : DeskTold) → GivesBack shelves wrote between → GivesBack shelves before (unwrote between)
  given_before shelves between given = record {
    own = own_before shelves given.own;
    back = record { lent = given.back.lent; rest = ap unwrote given.back.rest };
  }

  deceived_before : (shelves : List (List StoreTold)) → WereDeceived wrote shelves → WereDeceived before shelves
  deceived_before shelves deceived = record {
    untold = deceived.untold;
    worker = deceived.worker;
    store = deceived.store;
    of_worker = deceived.of_worker;
    made = deceived.made;
    made_so = deceived.made_so;
    page = deceived.page;
    forged = deceived.forged;
  }

  right_before : (shelves : List (List StoreTold)) (own out : List ℕ) → IsRight wrote shelves own out → IsRight before shelves own out
  right_before shelves own out (inl same) = inl same
  right_before shelves own out (inr deceived) = inr (deceived_before shelves deceived)

  damaged_before : (shelves : List (List StoreTold)) (worker : ℕ) (damage : Damage) → HasDamaged wrote shelves worker damage → HasDamaged before shelves worker damage
  damaged_before shelves worker damage damaged = record {
    untold = damaged.untold;
    store = damaged.store;
    of_worker = damaged.of_worker;
    made = damaged.made;
    made_so = damaged.made_so;
    ends = damaged.ends;
  }

  returns_before : (workers : ℕ) (shelves : List (List StoreTold)) (between : DeskTold) → Returns workers shelves wrote between → Returns workers shelves before (unwrote between)
  returns_before workers shelves between returns = record { few = returns.few; given = given_before shelves between returns.given }

  -- where no more is written, the others stay
  stay_before : (shelves : List (List StoreTold)) (between : DeskTold) (after : Option Files) → GivesBack shelves wrote between → OthersStay [] between.files after
      → OthersStay files before.files after
  stay_before shelves between after given stay =
      subst (λ (f : Option Files). OthersStay files before.files f) (sym (all_stay between.files after stay ∙ back_files shelves wrote between given)) (first_stay before.files files)

  finishes_before : (text : List ℕ) (shelves : List (List StoreTold)) (between after : DeskTold) → GivesBack shelves wrote between → Finishes text [] between after
      → Finishes text files (unwrote between) after
  finishes_before text shelves between after given finishes = record {
    said = finishes.said;
    room = finishes.room;
    rest = finishes.rest ∙ ap (λ (f : Option Files). record between { files = f; said = after.said; room = after.room }) (back_files shelves wrote between given);
  }

  breaks_before : (text : List ℕ) (shelves : List (List StoreTold)) (between after : DeskTold) → GivesBack shelves wrote between → BreaksOff text [] between after
      → BreaksOff text files (unwrote between) after
  breaks_before text shelves between after given breaks = record {
    said = breaks.said;
    files = stay_before shelves between after.files given breaks.files;
    rises = breaks.rises;
    rose = breaks.rose;
    rest = breaks.rest;
  }

  ceases_before : (shelves : List (List StoreTold)) (between after : DeskTold) → GivesBack shelves wrote between → Ceases [] between after → Ceases files (unwrote between) after
  ceases_before shelves between after given ceases = record { files = stay_before shelves between after.files given ceases.files; rest = ceases.rest }

  module _ (summary : List ℕ) (run : Done) (after : DeskTold) where
    stopped_begun : (shelves : List (List StoreTold)) (between stopped : DeskTold) → GivesBack shelves wrote between → Ceases [] between stopped → Closes [] None stopped after
        → StreamsBegin (Ok (generates files summary run)) before shelves after
    stopped_begun shelves between stopped given ceases closes =
        quiet_begun (generates files summary run) before after shelves refl
        (subst (λ (f : Option Files). OthersStay files before.files f) (sym (ap (λ (desk : DeskTold). desk.files) closes.rest)) (stay_before shelves between stopped.files given ceases.files))

    performs_so : (r : Result (Unit {0}) Refusal) → Performs (generates [] summary run) r wrote after → Performs (generates files summary run) r before after
    performs_so (Ok x) does =
        let filled = unnamed does.filled does.named in
        record {
          shelves = does.shelves;
          moved = does.moved;
          between = unwrote does.between;
          given = given_before does.shelves does.between does.given;
          text = does.text;
          right = λ own. right_before does.shelves (summary ++ run.said) does.text (does.right tt);
          sound = λ own. inl tt;
          filled = [];
          right_streams = inl refl;
          named = refl;
          finishes = finishes_before does.text does.shelves does.between after does.given
              (subst (λ (streams : List NewFile). Finishes does.text (streams ++ []) does.between after) filled does.finishes);
        }
    performs_so (Err refusal.Desk) fails = record {
      shelves = fails.shelves;
      between = unwrote fails.between;
      returns = returns_before (length run.moves) fails.shelves fails.between fails.returns;
      text = fails.text;
      right = λ own. right_before fails.shelves (summary ++ run.said) fails.text (fails.right tt);
      breaks = breaks_before fails.text fails.shelves fails.between after fails.returns.given fails.breaks;
      fronts = quiet_begun (generates files summary run) before after fails.shelves refl
          (stay_before fails.shelves fails.between after.files fails.returns.given fails.breaks.files);
    }
    performs_so (Err refusal.Memory) stops = record {
      shelves = stops.shelves;
      between = unwrote stops.between;
      returns = returns_before (length run.moves) stops.shelves stops.between stops.returns;
      stopped = stops.stopped;
      ceases = ceases_before stops.shelves stops.between stops.stopped stops.returns.given stops.ceases;
      closes = stops.closes;
      fronts = stopped_begun stops.shelves stops.between stops.stopped stops.returns.given stops.ceases stops.closes;
    }
    performs_so (Err (refusal.Store worker)) breaks = (
      breaks.0,
      record {
        shelves = breaks.1.shelves;
        between = unwrote breaks.1.between;
        returns = returns_before (length run.moves) breaks.1.shelves breaks.1.between breaks.1.returns;
        broken = breaks.1.broken;
        rose = breaks.1.rose;
        stopped = breaks.1.stopped;
        ceases = ceases_before breaks.1.shelves breaks.1.between breaks.1.stopped breaks.1.returns.given breaks.1.ceases;
        closes = breaks.1.closes;
        fronts = stopped_begun breaks.1.shelves breaks.1.between breaks.1.stopped breaks.1.returns.given breaks.1.ceases breaks.1.closes;
      },
    )
    performs_so (Err (refusal.Damaged worker damage)) damages = (
      damages.0,
      record {
        shelves = damages.1.shelves;
        between = unwrote damages.1.between;
        returns = returns_before (length run.moves) damages.1.shelves damages.1.between damages.1.returns;
        damaged = damaged_before damages.1.shelves worker damage damages.1.damaged;
        stopped = damages.1.stopped;
        ceases = ceases_before damages.1.shelves damages.1.between damages.1.stopped damages.1.returns.given damages.1.ceases;
        closes = damages.1.closes;
        fronts = stopped_begun damages.1.shelves damages.1.between damages.1.stopped damages.1.returns.given damages.1.ceases damages.1.closes;
      },
    )
    performs_so (Err (refusal.Stream worker fault)) misreads = let reads = misreads.1.reads in absurd (cc)
    performs_so (Err other) none = absurd none

-- the files are written, and the rest is done
pub written_first : (files : List NewFile) (summary : List ℕ) (run : Done) (r : Result (Unit {0}) Refusal) (before mid after : DeskTold)
    → mid ≡ record before { files = with_files before.files files } → Performs (generates [] summary run) r mid after → Performs (generates files summary run) r before after
written_first files summary run r before mid after wrote performs =
    performs_so files before summary run after r (subst (λ (desk : DeskTold). Performs (generates [] summary run) r desk after) wrote performs)

-- or they aren't
pub not_written : (files : List NewFile) (summary : List ℕ) (run : Done) (why : Refusal) (before after : DeskTold)
    → Writes {T = Unit {0}} files (Err why) before after → Performs {T = Unit {0}} (generates files summary run) (Err why) before after
not_written files summary run refusal.Desk before after wrote = record {
  shelves = [];
  between = before;
  returns = record { few = omega arith; given = none_back before };
  text = summary ++ run.said;
  right = λ own. inl refl;
  breaks = unwritten files (summary ++ run.said) refusal.Desk before after wrote;
  fronts = quiet_begun (generates files summary run) before after [] refl wrote.files;
}
not_written files summary run refusal.Memory before after wrote = record {
  shelves = [];
  between = before;
  returns = record { few = omega arith; given = none_back before };
  stopped = after;
  ceases = unwritten files [] refusal.Memory before after wrote;
  closes = none_closed [] None after;
  fronts = quiet_begun (generates files summary run) before after [] refl wrote.files;
}
not_written files summary run other before after wrote = absurd wrote

-- files leave the stores that were given back
pub sound_first : (files : List NewFile) (before mid after : DeskTold) → mid ≡ record before { files = with_files before.files files }
    → StoresAreSound mid after → StoresAreSound before after
sound_first files before mid after wrote sound worker =
    subst (λ (returned : ℕ → Returned). (after.returned worker).faults ≤ (returned worker).faults) (ap (λ (desk : DeskTold). desk.returned) wrote) (sound worker)

pub not_written_sound : (files : List NewFile) (why : Refusal) (before after : DeskTold) → Writes {T = Unit {0}} files (Err why) before after → StoresAreSound before after
not_written_sound files why before after wrote = still_sound [] files (Err why) before before after (all_sound before) (unwritten files [] why before after wrote)
