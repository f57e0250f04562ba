-- What is said of a run, and what is left of one that was stopped.
use Rattle.std.proofs.Common.{◌≡◌, ◌≤◌, ◌++◌, inl, inr, ℕ, List, [], length, IsTrue, Option, Vec, Result, Ok, Err, refl, sym, ap, ap₂, subst, ◌∙◌, arith}
use Rattle.std.specs.Prelude.{IfOk, IfErr, take}
use Rattle.std.specs.declared.alloc.Global.{Global}
use Rattle.mage_base.specs.Desk.{DeskTold, Files, Returned}
use Rattle.mage_base.specs.Faults.{Rose}
use Rattle.mage_planner.specs.declared.refusal.Refusal.{Refusal}
use Rattle.mage_planner.specs.declared.refusal.Refusal.TheVariants as refusal
use Rattle.mage_planner.specs.declared.work.Running.{Running}
use Rattle.mage_planner.specs.Outcome.{Done, NewFile}
use Rattle.mage_planner.specs.Stores.{IsRight}
use Rattle.mage_planner.specs.Answer.{Finishes, BreaksOff, Ceases, StoresAreSound, StreamsBegin, OthersStay, ReadsThese}
use Rattle.mage_planner.specs.Warned.{Grows}
use Rattle.mage_planner.specs.Writing.{Finished, Interrupts, Performs}
use Rattle.mage_planner.specs.Work.{IsRunOf}
use Rattle.mage_planner.specs.Ran.{Halted, Ran, RanSo}
use Rattle.mage_planner.proofs.PerformLemmas.{all_stay, back_files, moved_count, none_closed}
use Rattle.mage_planner.proofs.BegunLemmas.{nothing_begun}
use Rattle.mage_planner.proofs.WritingLemmas.{grows_front, none_stays}

-- ---- its text

pub said_so : (done : Done) (said text : List ℕ) (before after : DeskTold) → text ≡ said → Ran done said before after → Ran done text before after
said_so done said text before after same ran = subst (λ (t : List ℕ). Ran done t before after) (sym same) ran

-- there was no memory for it
pub unsaid : (done : Done) (said : List ℕ) (before after : DeskTold) → Ran done said before after → Halted (length done.moves) refusal.Memory before after
unsaid done said before after ran =
    let many = moved_count done.moves ran.shelves ran.moved in
    record {
      shelves = ran.shelves;
      between = after;
      returns = record { few = omega (arith, many); given = ran.given };
      cause = tt;
      rest = refl;
      faults = refl;
    }

pub text_ran : (done : Done) (said : List ℕ) (r : Result (Vec ℕ Global) Refusal) → IfOk r (λ text. text.items ≡ said) → IfErr r (λ why. why ≡ refusal.Memory)
    → (before after : DeskTold) → Ran done said before after → RanSo done r before after
text_ran done said (Ok text) same memory before after ran = said_so done said text.items before after same ran
text_ran done said (Err why) same memory before after ran = subst (λ (w : Refusal). Halted (length done.moves) w before after) (sym memory) (unsaid done said before after ran)

-- ---- what stops a run stops the command

-- the desk as it was but for its count of faults
module _ (between after : DeskTold) (rest : after ≡ record between { faults = after.faults }) where
  files_same : after.files ≡ between.files
  files_same = ap (λ (desk : DeskTold). desk.files) rest

  pub none_ceases : (written : List NewFile) → after.faults ≡ between.faults → Ceases written between after
  none_ceases written same = record {
    files = subst (λ (f : Option Files). OthersStay written between.files f) (sym files_same) (none_stays written between.files);
    rest = rest ∙ ap₂ (λ (n : ℕ) (f : Option Files). record between { faults = n; files = f }) same (sym files_same);
  }

  pub none_breaks : (text : List ℕ) (written : List NewFile) → between.faults ≤ after.faults → Rose between.faults after.faults → BreaksOff text written between after
  none_breaks text written rises rose = record {
    said = subst (λ (s : Option (List ℕ)). Grows between.said s (λ old new. (n : ℕ) × (new ≡ old ++ take n text))) (sym (ap (λ (desk : DeskTold). desk.said) rest)) (grows_front between.said text);
    files = subst (λ (f : Option Files). OthersStay written between.files f) (sym files_same) (none_stays written between.files);
    rises = rises;
    rose = rose;
    rest = rest ∙ ap (λ (f : Option Files). record between { files = f; faults = after.faults }) (sym files_same)
        ∙ ap₂ (λ (s : Option (List ℕ)) (n : ℕ). record between { files = after.files; said = s; faults = after.faults; room = n })
        (sym (ap (λ (desk : DeskTold). desk.said) rest)) (sym (ap (λ (desk : DeskTold). desk.room) rest));
  }

-- no stream was begun
halted_begun : (done : Done) (why : Refusal) (before after : DeskTold) (h : Halted (length done.moves) why before after) → StreamsBegin (Ok done) before h.shelves after
halted_begun done why before after h =
    nothing_begun (Ok done) before after h.shelves (ap (λ (desk : DeskTold). desk.files) h.rest ∙ back_files h.shelves before h.between h.returns.given)

pub halted : (done : Done) (why : Refusal) (before after : DeskTold) → Halted (length done.moves) why before after → Interrupts done why before after
halted done refusal.Desk before after h = record {
  shelves = h.shelves;
  between = h.between;
  returns = h.returns;
  text = done.said;
  right = λ own. inl refl;
  breaks = none_breaks h.between after h.rest done.said (done.streams ++ done.files) h.faults.0 h.faults.1;
  fronts = halted_begun done refusal.Desk before after h;
}
halted done refusal.Memory before after h = record {
  shelves = h.shelves;
  between = h.between;
  returns = h.returns;
  stopped = after;
  ceases = none_ceases h.between after h.rest (done.streams ++ done.files) h.faults;
  closes = none_closed done.streams done.reads after;
  fronts = halted_begun done refusal.Memory before after h;
}
halted done (refusal.Store worker) before after h = (
  h.cause.0,
  record {
    shelves = h.shelves;
    between = h.between;
    returns = h.returns;
    broken = h.cause.1;
    rose = subst (λ (r : ℕ → Returned). Rose (before.returned worker).faults (r worker).faults) (sym (ap (λ (desk : DeskTold). desk.returned) h.rest)) h.cause.2;
    stopped = after;
    ceases = none_ceases h.between after h.rest (done.streams ++ done.files) h.faults;
    closes = none_closed done.streams done.reads after;
    fronts = halted_begun done (refusal.Store worker) before after h;
  },
)
halted done (refusal.Damaged worker damage) before after h = (
  h.cause.0,
  record {
    shelves = h.shelves;
    between = h.between;
    returns = h.returns;
    damaged = h.cause.1;
    stopped = after;
    ceases = none_ceases h.between after h.rest (done.streams ++ done.files) h.faults;
    closes = none_closed done.streams done.reads after;
    fronts = halted_begun done (refusal.Damaged worker damage) before after h;
  },
)
halted done why before after h = absurd h.cause

-- ---- and then it is said

pub ran_said : (done : Done) (text : List ℕ) (r : Result (Unit {0}) Refusal) (before between after : DeskTold) → done.streams ++ done.files ≡ [] → Ran done text before between
    → Finished text [] r between after → Performs done r before after
ran_said done text (Ok x) before between after none ran finishes = record {
  shelves = ran.shelves;
  moved = ran.moved;
  between = between;
  given = ran.given;
  text = text;
  right = ran.right;
  sound = ran.sound;
  filled = done.streams;
  right_streams = inl refl;
  named = refl;
  finishes = subst (λ (files : List NewFile). Finishes text files between after) (sym none) finishes;
}
ran_said done text (Err refusal.Desk) before between after none ran breaks =
    let many = moved_count done.moves ran.shelves ran.moved in
    record {
      shelves = ran.shelves;
      between = between;
      returns = record { few = omega (arith, many); given = ran.given };
      text = text;
      right = ran.right;
      breaks = subst (λ (files : List NewFile). BreaksOff text files between after) (sym none) breaks;
      fronts = nothing_begun (Ok done) before after ran.shelves (all_stay between.files after.files breaks.files ∙ back_files ran.shelves before between ran.given);
    }
ran_said done text (Err refusal.Memory) before between after none ran ceases =
    let many = moved_count done.moves ran.shelves ran.moved in
    record {
      shelves = ran.shelves;
      between = between;
      returns = record { few = omega (arith, many); given = ran.given };
      stopped = after;
      ceases = subst (λ (files : List NewFile). Ceases files between after) (sym none) ceases;
      closes = none_closed done.streams done.reads after;
      fronts = nothing_begun (Ok done) before after ran.shelves (all_stay between.files after.files ceases.files ∙ back_files ran.shelves before between ran.given);
    }
ran_said done text (Err other) before between after none ran none_too = absurd none_too

pub no_files : (running : Running) (done : Done) → IsRunOf running done → done.streams ++ done.files ≡ []
no_files running done is = ap (λ (d : Done). d.streams ++ d.files) is.is

-- where the stores tell their pages it is the text that is due, which fits the room
pub text_fits : (done : Done) (text : List ℕ) (before between : DeskTold) → IsTrue before.stores_tell_pages → ReadsThese before.files done.reads → Ran done text before between → length done.said ≤ before.room
    → length text ≤ between.room
text_fits done text before between tells own ran has = go (ran.right own) where
  room : between.room ≡ before.room
  room = ap (λ (desk : DeskTold). desk.room) ran.given.back.rest

  go : IsRight before ran.shelves done.said text → length text ≤ between.room
  go (inl same) = let long = ap (λ (t : List ℕ). length t) same in omega (arith, long, room, has)
  go (inr deceived) = let untold = deceived.untold in absurd (cc)

pub ran_steady : (done : Done) (text : List ℕ) (before between : DeskTold) → Ran done text before between → between.steady ≡ before.steady
ran_steady done text before between ran = ap (λ (desk : DeskTold). desk.steady) ran.given.back.rest

-- what is said and written leaves the stores that were given back
returned_same : (text : List ℕ) (files : List NewFile) (r : Result (Unit {0}) Refusal) (before after : DeskTold) → Finished text files r before after → after.returned ≡ before.returned
returned_same text files (Ok x) before after finishes = ap (λ (desk : DeskTold). desk.returned) finishes.rest
returned_same text files (Err refusal.Desk) before after breaks = ap (λ (desk : DeskTold). desk.returned) breaks.rest
returned_same text files (Err refusal.Memory) before after ceases = ap (λ (desk : DeskTold). desk.returned) ceases.rest
returned_same text files (Err other) before after none = absurd none

pub still_sound : (text : List ℕ) (files : List NewFile) (r : Result (Unit {0}) Refusal) (before between after : DeskTold) → StoresAreSound before between
    → Finished text files r between after → StoresAreSound before after
still_sound text files r before between after sound finished worker =
    subst (λ (returned : ℕ → Returned). (returned worker).faults ≤ (before.returned worker).faults) (sym (returned_same text files r between after finished)) (sound worker)

pub all_sound : (desk : DeskTold) → StoresAreSound desk desk
all_sound desk worker = omega arith
