-- What a command leaves of its streams that was stopped.
use Rattle.std.proofs.Common.{◌≡◌, ◌≤◌, ◌+◌, ◌++◌, inl, ℕ, zero, suc, List, [], ◌∷◌, length, drop, take, IsTrue, slice_get, Option, Some, None, IfSome, Result, Ok, refl, sym, ap, subst, ◌∙◌, append_assoc, arith}
use Rattle.std.specs.Option.{option_map}
use Rattle.std.proofs.lemmas.List.{append-nil, take-append-drop}
use Rattle.mage_base.specs.Desk.{DeskTold, Files}
use Rattle.mage_base.specs.Sink.{SinkTold}
use Rattle.mage_base.specs.Store.{StoreTold}
use Rattle.mage_driver.specs.Rules.{Begins}
use Rattle.mage_instr.specs.declared.instr.Program.{Program}
use Rattle.mage_garble.specs.Sending.{tells_taken}
use Rattle.mage_lending.specs.Names.{worker_files}
use Rattle.mage_lending.specs.Sinks as lending
use Rattle.mage_lending.specs.Sinks.{AreOpened, AreTaken}
use Rattle.mage_linked.specs.Workers.{list_at}
use Rattle.mage_solo.specs.Fronts.{TookFront, AllTookFronts}
use Rattle.mage_solo.specs.Garbling.{Sunk, AllTellTaken, NoneTook}
use Rattle.mage_streams.specs.Streams.{garbled_stream}
use Rattle.mage_planner.specs.declared.refusal.Refusal.{Refusal}
use Rattle.mage_planner.specs.Outcome.{Done, NewFile, stream_files}
use Rattle.mage_planner.specs.Answer.{AreFronts, OthersStay, StreamsBegin, others_of}
use Rattle.mage_planner.proofs.WritingLemmas.{none_stays}
use Rattle.mage_planner.proofs.StreamLemmas.{filed, nothing_in}

-- ---- commands without streams

-- no file changed
pub nothing_begun : (outcome : Result Done Refusal) (before after : DeskTold) (shelves : List (List StoreTold)) → after.files ≡ before.files
    → StreamsBegin outcome before shelves after
nothing_begun outcome before after shelves same = inl (record {
  begun = [];
  fronts = tt;
  rest = subst (λ (f : Option Files). OthersStay (others_of outcome) before.files f) (sym same) (none_stays (others_of outcome) before.files);
})

-- only files that aren't streams were written
pub quiet_begun : (done : Done) (before after : DeskTold) (shelves : List (List StoreTold)) → done.streams ≡ [] → OthersStay (done.streams ++ done.files) before.files after.files
    → StreamsBegin (Ok done) before shelves after
quiet_begun done before after shelves none stay = inl (record {
  begun = [];
  fronts = tt;
  rest = subst (λ (streams : List NewFile). OthersStay (streams ++ done.files) before.files after.files) none stay;
})

-- ---- fronts

begins_both : (x y z : List ℕ) → Begins x y → Begins y z → Begins x z
begins_both x y z first second =
    (first.0 ++ second.0, second.1 ∙ ap (λ (l : List ℕ). l ++ second.0) first.1 ∙ append_assoc x first.0 second.0)

-- what stands in a file that was closed is a front of what its sink took
abbrev pub Held : List SinkTold → (contents : List (List ℕ)) → Type 0
Held [] [] = Unit {0}
Held [] (bytes ∷ contents) = ⊥
Held (sink ∷ sinks) [] = ⊥
Held (sink ∷ sinks) (bytes ∷ contents) = IfSome sink.taken (λ taken. Begins bytes taken) × Held sinks contents

pub taken_held : (sinks : List SinkTold) (contents : List (List ℕ)) → AreTaken sinks contents → Held sinks contents
taken_held [] [] taken = tt
taken_held [] (bytes ∷ contents) taken = absurd taken
taken_held (sink ∷ sinks) [] taken = absurd taken
taken_held (sink ∷ sinks) (bytes ∷ contents) taken = (one sink.taken taken.0, taken_held sinks contents taken.1) where
  one : (told : Option (List ℕ)) → IfSome told (λ t. bytes ≡ t) → IfSome told (λ t. Begins bytes t)
  one None same = tt
  one (Some t) same = ([], sym same ∙ sym (append-nil bytes))

pub fronts_held : (sinks : List SinkTold) (contents : List (List ℕ)) → lending.AreFronts sinks contents → Held sinks contents
fronts_held [] [] fronts = tt
fronts_held [] (bytes ∷ contents) fronts = absurd fronts
fronts_held (sink ∷ sinks) [] fronts = absurd fronts
fronts_held (sink ∷ sinks) (bytes ∷ contents) fronts = (one sink.taken fronts.0, fronts_held sinks contents fronts.1) where
  one : (told : Option (List ℕ)) → IfSome told (λ t. (n : ℕ) × (bytes ≡ take n t)) → IfSome told (λ t. Begins bytes t)
  one None front = tt
  one (Some t) front = (drop front.0 t, sym (take-append-drop front.0 t) ∙ ap (λ (l : List ℕ). l ++ drop front.0 t) (sym front.1))

-- a sink that took nothing took a front
pub none_took_fronts : (before after : List SinkTold) (stream : ℕ → List ℕ) → AllTellTaken before → NoneTook before after → AllTookFronts before after stream
none_took_fronts before after stream told none w sink = record {
  front = [];
  taken = (none w sink).taken (tells w sink.old sink.old_so) ∙ kept sink.old.taken;
  begins = (stream w, refl);
}
  where
    tells : (w : ℕ) (old : SinkTold) → slice_get before w ≡ Some old → IsTrue (tells_taken old)
    tells w old is = subst (λ (o : Option SinkTold). IfSome o (λ sink. IsTrue (tells_taken sink))) is (told w)

    kept : (taken : Option (List ℕ)) → taken ≡ option_map (λ earlier. earlier ++ []) taken
    kept None = refl
    kept (Some bytes) = ap (λ (l : List ℕ). Some l) (sym (append-nil bytes))

-- the worker behind the first one
abbrev behind : {old new : SinkTold} {before after : List SinkTold} (w : ℕ) → Sunk before after w → Sunk (old ∷ before) (new ∷ after) (suc w)
behind w sink = record { old = sink.old; new = sink.new; old_so = sink.old_so; new_so = sink.new_so }

-- the files of streams of which fronts were taken
pub fronts_right : (desk : DeskTold) (files : Files) (stem : List ℕ) (program : Program) (seed : List ℕ) (garbler : List (List ℕ)) (first : ℕ) (rooms : List ℕ)
    (before after : List SinkTold) (contents : List (List ℕ)) → desk.files ≡ Some files → AreOpened desk rooms before → length after ≡ length before
    → ((w : ℕ) (sink : Sunk before after w) → TookFront sink.old sink.new (garbled_stream program seed (list_at garbler) (first + w)))
    → Held after contents → AreFronts (filed (worker_files stem first (length rooms)) contents) (stream_files stem program seed garbler first (length rooms))
fronts_right desk files stem program seed garbler first [] [] after contents told opened long took held = tt
fronts_right desk files stem program seed garbler first [] (old ∷ before) after contents told opened long took held = absurd opened
fronts_right desk files stem program seed garbler first (room ∷ rooms) [] after contents told opened long took held = absurd opened
fronts_right desk files stem program seed garbler first (room ∷ rooms) (old ∷ before) [] contents told opened long took held = absurd (omega (arith, long))
fronts_right desk files stem program seed garbler first (room ∷ rooms) (old ∷ before) (new ∷ after) [] told opened long took held = absurd held
fronts_right desk files stem program seed garbler first (room ∷ rooms) (old ∷ before) (new ∷ after) (bytes ∷ contents) told opened long took held =
    (refl, one, fronts_right desk files stem program seed garbler (first + 1) rooms before after contents told opened.1 (omega (arith, long)) others held.1)
  where
    empty : old.taken ≡ Some []
    empty = subst (λ (f : Option Files). IfSome f (λ _. old.taken ≡ Some [])) told opened.0.taken

    at_first : first + 0 ≡ first
    at_first = omega arith

    front : TookFront old new (garbled_stream program seed (list_at garbler) (first + 0))
    front = took 0 (record { old = old; new = new; old_so = refl; new_so = refl })

    whole : new.taken ≡ Some front.front
    whole = front.taken ∙ ap (λ (o : Option (List ℕ)). option_map (λ earlier. earlier ++ front.front) o) empty

    one : Begins bytes (garbled_stream program seed (list_at garbler) first)
    one =
        begins_both bytes front.front (garbled_stream program seed (list_at garbler) first) (subst (λ (o : Option (List ℕ)). IfSome o (λ taken. Begins bytes taken)) whole held.0)
        (subst (λ (n : ℕ). Begins front.front (garbled_stream program seed (list_at garbler) n)) at_first front.begins)

    others : (w : ℕ) (sink : Sunk before after w) → TookFront sink.old sink.new (garbled_stream program seed (list_at garbler) (first + 1 + w))
    others w sink =
        let next : first + suc w ≡ first + 1 + w = omega arith in
        subst (λ (n : ℕ). TookFront sink.old sink.new (garbled_stream program seed (list_at garbler) n)) next (took (suc w) (behind w sink))

-- files that were only emptied
pub empty_fronts : (stem : List ℕ) (program : Program) (seed : List ℕ) (garbler : List (List ℕ)) (first count all : ℕ) → count ≤ all
    → AreFronts (nothing_in (worker_files stem first count)) (stream_files stem program seed garbler first all)
empty_fronts stem program seed garbler first zero all few = tt
empty_fronts stem program seed garbler first (suc count) zero few = absurd (omega (arith, few))
empty_fronts stem program seed garbler first (suc count) (suc all) few =
    (refl, (garbled_stream program seed (list_at garbler) first, refl), empty_fronts stem program seed garbler (first + 1) count all (omega (arith, few)))
