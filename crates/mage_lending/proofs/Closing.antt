-- Sinks that are closed one after the other.
use Rattle.std.proofs.Common.{◌≡◌, ◌≤◌, ◌<◌, ◌+◌, ◌++◌, ◌∷◌, ℕ, suc, min, List, [], length, get_or, take, map, Option, Some, None, IfSome, Result, Ok, Err, String, refl, sym, ap, subst, ◌∙◌, append_assoc, append-nil, length-append, arith}
use Rattle.std.specs.Prelude.{IsOk, IsSome, OnOk, string_bytes}
use Rattle.std.specs.Global.{Global}
use Rattle.std.specs.List.{All}
use Rattle.std.proofs.lemmas.Bool.{false≢true}
use Rattle.std.proofs.Math.ListN.{get_or-map}
use Rattle.std.proofs.Math.Seq.{get_or-append_seam}
use Rattle.std.proofs.lemmas.List.{map-append, length-map, length-take-le, take_all}
use Rattle.mage_base.specs.Desk.{DeskTold, Files, files_with, ClosesOut}
use Rattle.mage_base.specs.Faults.{Rose, count_after, top}
use Rattle.mage_base.specs.Sink.{SinkTold}
use Rattle.mage_lending.specs.Names.{spelled}
use Rattle.mage_lending.specs.Sinks.{with_all, HaveFiles, AreTaken, AreFronts, with_faults, ClosesAll}
use Rattle.mage_lending.proofs.Files.{all_more, spelled_more, there_at}

take_whole : (xs : List ℕ) → take (length xs) xs ≡ xs
take_whole [] = refl
take_whole (x ∷ xs) = ap (λ (l : List ℕ). x ∷ l) (take_whole xs)

-- one file is what its sink took, or a front of it
abbrev IsTaken : SinkTold → List ℕ → Type 0
IsTaken sink bytes = IfSome sink.taken (λ taken. bytes ≡ taken)

abbrev IsFront : SinkTold → List ℕ → Type 0
IsFront sink bytes = IfSome sink.taken (λ taken. (n : ℕ) × (bytes ≡ take n taken))

front_of : (taken : Option (List ℕ)) (bytes : List ℕ) → IfSome taken (λ t. bytes ≡ t) → IfSome taken (λ t. (n : ℕ) × (bytes ≡ take n t))
front_of None bytes is = tt
front_of (Some taken) bytes is = (length taken, is ∙ sym (take_whole taken))

pub fronts_of : (sinks : List SinkTold) (contents : List (List ℕ)) → AreTaken sinks contents → AreFronts sinks contents
fronts_of [] [] taken = tt
fronts_of [] (bytes ∷ contents) taken = absurd taken
fronts_of (sink ∷ sinks) [] taken = absurd taken
fronts_of (sink ∷ sinks) (bytes ∷ contents) taken = (front_of sink.taken bytes taken.0, fronts_of sinks contents taken.1)

long_taken : (sinks : List SinkTold) (contents : List (List ℕ)) → AreTaken sinks contents → length contents ≡ length sinks
long_taken [] [] taken = refl
long_taken [] (bytes ∷ contents) taken = absurd taken
long_taken (sink ∷ sinks) [] taken = absurd taken
long_taken (sink ∷ sinks) (bytes ∷ contents) taken = ap suc (long_taken sinks contents taken.1)

long_fronts : (sinks : List SinkTold) (contents : List (List ℕ)) → AreFronts sinks contents → length contents ≡ length sinks
long_fronts [] [] fronts = refl
long_fronts [] (bytes ∷ contents) fronts = absurd fronts
long_fronts (sink ∷ sinks) [] fronts = absurd fronts
long_fronts (sink ∷ sinks) (bytes ∷ contents) fronts = ap suc (long_fronts sinks contents fronts.1)

taken_more : (sinks : List SinkTold) (contents : List (List ℕ)) (sink : SinkTold) (bytes : List ℕ) → AreTaken sinks contents → IsTaken sink bytes →
    AreTaken (sinks ++ sink ∷ []) (contents ++ bytes ∷ [])
taken_more [] [] sink bytes taken one = (one, tt)
taken_more [] (b ∷ contents) sink bytes taken one = absurd taken
taken_more (s ∷ sinks) [] sink bytes taken one = absurd taken
taken_more (s ∷ sinks) (b ∷ contents) sink bytes taken one = (taken.0, taken_more sinks contents sink bytes taken.1 one)

fronts_more : (sinks : List SinkTold) (contents : List (List ℕ)) (sink : SinkTold) (bytes : List ℕ) → AreFronts sinks contents → IsFront sink bytes →
    AreFronts (sinks ++ sink ∷ []) (contents ++ bytes ∷ [])
fronts_more [] [] sink bytes fronts one = (one, tt)
fronts_more [] (b ∷ contents) sink bytes fronts one = absurd fronts
fronts_more (s ∷ sinks) [] sink bytes fronts one = absurd fronts
fronts_more (s ∷ sinks) (b ∷ contents) sink bytes fronts one = (fronts.0, fronts_more sinks contents sink bytes fronts.1 one)

faults_more : (faults : ℕ) (sinks : List SinkTold) (sink : SinkTold) → with_faults faults (sinks ++ sink ∷ []) ≡ count_after (with_faults faults sinks) sink.faults
faults_more faults [] sink = refl
faults_more faults (s ∷ sinks) sink = faults_more (count_after faults s.faults) sinks sink

rose_more : (f s old t : ℕ) → min (f + 1) t ≤ old → min (min (f + s) t + 1) t ≤ min (old + s) t
rose_more f s old t rose = omega (arith, rose)

rose_again : (f s old new t : ℕ) → min (f + 1) t ≤ old → min (min (old + s) t + 1) t ≤ new → min (min (f + s) t + 1) t ≤ new
rose_again f s old new t rose again = omega (arith, rose, again)

-- the answer where these two closes come one after the other
abbrev pub both : {E : Type 0} → Result (Unit {0}) E → Result (Unit {0}) E → Result (Unit {0}) E
both (Ok x) this = this
both (Err e) this = Err e

module _ (before old new : DeskTold) (names : List (List ℕ)) (sinks : List SinkTold) (name : List ℕ) (sink : SinkTold)
    (long : length names ≡ length sinks) where
  files_are : (contents : List (List ℕ)) (bytes : List ℕ) → length contents ≡ length sinks → old.files ≡ with_all before.files names contents →
      files_with old.files name bytes ≡ with_all before.files (names ++ name ∷ []) (contents ++ bytes ∷ [])
  files_are contents bytes same is =
      ap (λ (f : Option Files). files_with f name bytes) is ∙ sym (all_more before.files names contents name bytes (long ∙ sym same))

  rest_is : (contents : List (List ℕ)) (bytes : List ℕ) (faults : ℕ) → length contents ≡ length sinks →
      old ≡ record before { files = with_all before.files names contents; faults = old.faults } →
      new ≡ record old { files = files_with old.files name bytes; faults = faults } →
      new ≡ record before { files = with_all before.files (names ++ name ∷ []) (contents ++ bytes ∷ []); faults = faults }
  rest_is contents bytes faults same was is =
      is ∙ ap (λ (d : DeskTold). record d { files = files_with old.files name bytes; faults = faults }) was
      ∙ ap (λ (f : Option Files). record before { files = f; faults = faults }) (files_are contents bytes same (ap (λ (d : DeskTold). d.files) was))

  pub closes_next : {E : Type 0} (closed this : Result (Unit {0}) E) → ClosesAll before old names sinks closed → ClosesOut old new name sink this →
      ClosesAll before new (names ++ name ∷ []) (sinks ++ sink ∷ []) (both closed this)
  closes_next (Ok x) (Ok y) so now =
      let faults = ap (λ (d : DeskTold). d.faults) so.2 in
      let was : old ≡ record before { files = with_all before.files names so.0; faults = old.faults } =
      so.2 ∙ ap (λ (n : ℕ). record before { files = with_all before.files names so.0; faults = n }) (sym faults) in (
        so.0 ++ now.0 ∷ [],
        taken_more sinks so.0 sink now.0 so.1 now.1,
        rest_is so.0 now.0 (count_after old.faults sink.faults) (long_taken sinks so.0 so.1) was now.2
            ∙ ap (λ (n : ℕ). record before { files = with_all before.files (names ++ name ∷ []) (so.0 ++ now.0 ∷ []); faults = n })
            (ap (λ (n : ℕ). count_after n sink.faults) faults ∙ sym (faults_more before.faults sinks sink)),
      )
  closes_next (Ok x) (Err e) so now =
      let faults = ap (λ (d : DeskTold). d.faults) so.2 in
      let was : old ≡ record before { files = with_all before.files names so.0; faults = old.faults } =
      so.2 ∙ ap (λ (n : ℕ). record before { files = with_all before.files names so.0; faults = n }) (sym faults) in (
        so.0 ++ now.0 ∷ [],
        fronts_more sinks so.0 sink now.0 (fronts_of sinks so.0 so.1) now.1,
        rest_is so.0 now.0 new.faults (long_taken sinks so.0 so.1) was now.2,
        subst (λ (n : ℕ). Rose n new.faults) (ap (λ (n : ℕ). count_after n sink.faults) faults ∙ sym (faults_more before.faults sinks sink)) now.3,
      )
  closes_next (Err e) (Ok y) so now =
      let faults = ap (λ (d : DeskTold). d.faults) now.2 in (
        so.0 ++ now.0 ∷ [],
        fronts_more sinks so.0 sink now.0 so.1 (front_of sink.taken now.0 now.1),
        rest_is so.0 now.0 new.faults (long_fronts sinks so.0 so.1) so.2
            (now.2 ∙ ap (λ (n : ℕ). record old { files = files_with old.files name now.0; faults = n }) (sym faults)),
        subst (λ (n : ℕ). Rose n new.faults) (sym (faults_more before.faults sinks sink))
            (subst (λ (n : ℕ). Rose (count_after (with_faults before.faults sinks) sink.faults) n) (sym faults)
            (rose_more (with_faults before.faults sinks) sink.faults old.faults top so.3)),
      )
  closes_next (Err e) (Err f) so now = (
    so.0 ++ now.0 ∷ [],
    fronts_more sinks so.0 sink now.0 so.1 now.1,
    rest_is so.0 now.0 new.faults (long_fronts sinks so.0 so.1) so.2 now.2,
    subst (λ (n : ℕ). Rose n new.faults) (sym (faults_more before.faults sinks sink))
        (rose_again (with_faults before.faults sinks) sink.faults old.faults new.faults top so.3 now.3),
  )

-- ---- the loop

pub closes_none : {S : Type 0} (E : Type 0) (tells : S → SinkTold) (before : DeskTold) (names : List (String Global)) (x : Unit {0}) →
    ClosesAll {E = E} before before (spelled (take 0 names)) (map tells []) (Ok x)
closes_none E tells before names x = ([], tt, refl)

pub as_many : {S : Type 0} (tells : S → SinkTold) (names : List (String Global)) (yielded : List S) (k : ℕ) → k ≡ length yielded → k ≤ length names →
    length (spelled (take k names)) ≡ length (map tells yielded)
as_many tells names yielded k count few =
    length-map (take k names) string_bytes ∙ length-take-le k names few ∙ count ∙ sym (length-map yielded tells)

pub closes_so : {S E : Type 0} (tells : S → SinkTold) (before new : DeskTold) (names : List (String Global)) (k : ℕ) (name : String Global) (text : List ℕ)
    (yielded : List S) (sink : S) (r : Result (Unit {0}) E) → k < length names → name ≡ get_or names k name → text ≡ string_bytes name →
    ClosesAll before new (spelled (take k names) ++ text ∷ []) (map tells yielded ++ tells sink ∷ []) r →
    ClosesAll before new (spelled (take (k + 1) names)) (map tells (yielded ++ sink ∷ [])) r
closes_so tells before new names k name text yielded sink r within at spells closed =
    subst (λ (l : List (List ℕ)). ClosesAll before new l (map tells (yielded ++ sink ∷ [])) r)
    (ap (λ (t : List ℕ). spelled (take k names) ++ t ∷ []) spells ∙ sym (spelled_more names k name within at))
    (subst (λ (l : List SinkTold). ClosesAll before new (spelled (take k names) ++ text ∷ []) l r) (sym (map-append tells yielded (sink ∷ []))) closed)

pub still_here : (told : Option Files) (names : List (String Global)) (k : ℕ) (name : String Global) (text : List ℕ) → k < length names → name ≡ get_or names k name →
    text ≡ string_bytes name → HaveFiles told (spelled names) → IfSome told (λ files. IsSome (files text))
still_here told names k name text within at spells there =
    subst (λ (t : List ℕ). IfSome told (λ files. IsSome (files t))) (sym spells)
    (there_at told (spelled names) k (string_bytes name) (omega (arith, within, length-map names string_bytes))
    (ap string_bytes at ∙ sym (get_or-map string_bytes names k name)) there)

pub this_one : {S : Type 0} (P : S → Type 0) (sinks yielded rest others : List S) (sink : S) → yielded ++ rest ≡ sinks → rest ≡ sink ∷ others → All P sinks → P sink
this_one {S} P sinks yielded rest others sink whole is all =
    let at : yielded ++ sink ∷ others ≡ sinks = ap (λ (l : List S). yielded ++ l) (sym is) ∙ whole in
    let every : All P (yielded ++ sink ∷ others) = subst (λ (l : List S). All P l) (sym at) all in
    subst P (get_or-append_seam yielded sink others sink) (every (length yielded) sink (omega (arith, length-append yielded (sink ∷ others))))

pub whole_next : {S : Type 0} (sinks yielded rest others : List S) (sink : S) → yielded ++ rest ≡ sinks → rest ≡ sink ∷ others → (yielded ++ sink ∷ []) ++ others ≡ sinks
whole_next {S} sinks yielded rest others sink whole is =
    append_assoc yielded (sink ∷ []) others ∙ ap (λ (l : List S). yielded ++ l) (sym is) ∙ whole

pub quiet_next : {E : Type 0} (closed r : Result (Unit {0}) E) (before old new : ℕ) → OnOk closed (old ≡ before) → OnOk r (IsOk closed × (new ≡ old)) →
    OnOk r (new ≡ before)
quiet_next (Ok x) (Ok y) before old new so now = now.1 ∙ so
quiet_next (Err e) (Ok y) before old new so now = absurd (false≢true now.0)
quiet_next closed (Err e) before old new so now = tt

pub closes_end : {S E : Type 0} (tells : S → SinkTold) (before now : DeskTold) (names : List (String Global)) (k : ℕ) (sinks yielded rest : List S) (r : Result (Unit {0}) E) →
    k ≡ length yielded → length names ≡ length sinks → yielded ++ rest ≡ sinks → length rest ≡ 0 →
    ClosesAll before now (spelled (take k names)) (map tells yielded) r → ClosesAll before now (spelled names) (map tells sinks) r
closes_end {S} tells before now names k sinks yielded [] r count long whole none closed =
    let same : yielded ≡ sinks = sym (append-nil yielded) ∙ whole in
    let all : length names ≤ k = omega (arith, count, long, ap (λ (l : List S). length l) same) in
    subst (λ (l : List S). ClosesAll before now (spelled names) (map tells l) r) same
    (subst (λ (l : List (String Global)). ClosesAll before now (spelled l) (map tells yielded) r) (take_all k names all) closed)
closes_end tells before now names k sinks yielded (sink ∷ others) r count long whole none closed = absurd (omega (arith, none))

pub within_now : {S : Type 0} (sinks yielded rest others : List S) (sink : S) → yielded ++ rest ≡ sinks → rest ≡ sink ∷ others → length yielded < length sinks
within_now {S} sinks yielded rest others sink whole is =
    let long = ap (λ (l : List S). length l) whole in
    let more = ap (λ (l : List S). length l) is in
    omega (arith, long, more, length-append yielded rest)
