-- Evaluators made over sources from the last worker to the first, and taken apart again.
use Rattle.std.proofs.Common.{◌≡◌, ◌<◌, ◌+◌, ◌++◌, ℕ, zero, suc, List, [], ◌∷◌, length, map, drop, get_or, slice_get, Some, refl, sym, ap, ap₂, ◌∙◌, subst, arith, append_assoc, length-append}
use Rattle.std.proofs.lemmas.List.{reverse-append, map-append, append-nil, length-map}
use Rattle.std.specs.Prelude.{reverse, Vec}
use Rattle.std.specs.Global.{Global}
use Rattle.mage_base.specs.Source.{SourceTold}
use Rattle.mage_driver.specs.Calls.{Told}
use Rattle.mage_label.specs.declared.labels.Label.{Label}
use Rattle.mage_verify.specs.Parts.{WorkerPart}
use Rattle.mage_eval.specs.Rule.{Evaluating}
use Rattle.mage_solo.specs.Plain.{lists_of}
use Rattle.mage_solo.specs.Evaluating.{NoneFailed, IsClosed, AreClosed, GivesBack, AreMadeFor, evaluator_opening, evaluator_openings, labels_in, outputs_of}
use Rattle.mage_solo.proofs.Lists.{same_some, map_get}
use Rattle.mage_solo.proofs.Popping.{popped}
use Rattle.mage_solo.proofs.Preparing.{drop_more}

last_first : {X : Type 0} (rest : List X) (x : X) → reverse (rest ++ x ∷ []) ≡ x ∷ reverse rest
last_first rest x = reverse-append rest (x ∷ [])

none_opened : (k : ℕ) (parts : List WorkerPart) → evaluator_openings k parts [] [] ≡ []
none_opened k [] = refl
none_opened k (part ∷ parts) = refl

drop_long : {X : Type 0} (n m : ℕ) (xs : List X) → length xs ≡ n + m → length (drop n xs) ≡ m
drop_long zero m xs e = omega (arith, e)
drop_long (suc n) m [] e = absurd (omega (arith, e))
drop_long (suc n) m (x ∷ xs) e = drop_long n m xs (omega (arith, e))

empty_so : {X : Type 0} (xs : List X) → length xs ≡ 0 → xs ≡ []
empty_so [] e = refl
empty_so (x ∷ xs) e = absurd (omega (arith, e))

-- how often the source of each driver has failed, in order
abbrev pub faults_of : List (Told Evaluating) → List ℕ
faults_of drivers = map (λ (driver : Told Evaluating). driver.faults) drivers

-- the drivers of parts tell the faults of their sources
pub opened_faults : (k : ℕ) (parts : List WorkerPart) (labels : List (List Label)) (sources : List SourceTold) → length parts ≡ length sources →
    length labels ≡ length sources → faults_of (evaluator_openings k parts labels sources) ≡ map (λ (s : SourceTold). s.faults) sources
opened_faults k [] ls [] e f = refl
opened_faults k [] ls (s ∷ ss) e f = absurd (omega (arith, e))
opened_faults k (p ∷ ps) ls [] e f = absurd (omega (arith, e))
opened_faults k (p ∷ ps) [] (s ∷ ss) e f = absurd (omega (arith, f))
opened_faults k (p ∷ ps) (l ∷ ls) (s ∷ ss) e f =
    ap (λ (rest : List ℕ). s.faults ∷ rest) (opened_faults (k + 1) ps ls ss (omega (arith, e)) (omega (arith, f)))

abbrev pub told_faults : List SourceTold → List ℕ
told_faults sources = map (λ (s : SourceTold). s.faults) sources

-- drivers that are taken apart tell the faults of the sources that they hand back
pub closed_faults : (drivers : List (Told Evaluating)) (sources : List SourceTold) → AreClosed drivers sources → told_faults sources ≡ faults_of drivers
closed_faults [] [] h = refl
closed_faults [] (s ∷ ss) h = absurd h
closed_faults (d ∷ ds) [] h = absurd h
closed_faults (d ∷ ds) (s ∷ ss) h = ap₂ (λ (n : ℕ) (l : List ℕ). n ∷ l) (sym h.0.faults) (closed_faults ds ss h.1)

pub closed_at : (drivers : List (Told Evaluating)) (sources : List SourceTold) (w : ℕ) (driver : Told Evaluating) → AreClosed drivers sources →
    slice_get drivers w ≡ Some driver → (source : SourceTold) × (slice_get sources w ≡ Some source) × IsClosed driver source
closed_at [] [] zero driver h e = absurd cc
closed_at [] [] (suc w) driver h e = absurd cc
closed_at [] (s ∷ ss) w driver h e = absurd h
closed_at (d ∷ ds) [] w driver h e = absurd h
closed_at (d ∷ ds) (s ∷ ss) zero driver h e = (s, refl, subst (λ (x : Told Evaluating). IsClosed x s) (same_some d driver e) h.0)
closed_at (d ∷ ds) (s ∷ ss) (suc w) driver h e = closed_at ds ss w driver h.1 e

closed_more : (drivers : List (Told Evaluating)) (sources : List SourceTold) (d : Told Evaluating) (s : SourceTold) → AreClosed drivers sources → IsClosed d s →
    AreClosed (drivers ++ d ∷ []) (sources ++ s ∷ [])
closed_more [] [] d s h k = (k, tt)
closed_more [] (t ∷ ts) d s h k = absurd h
closed_more (e ∷ es) [] d s h k = absurd h
closed_more (e ∷ es) (t ∷ ts) d s h k = (h.0, closed_more es ts d s h.1 k)

-- where no count changed, no source failed, and as many came back
pub none_failed : (all now : List SourceTold) → told_faults now ≡ told_faults all → NoneFailed all now
none_failed all now same w source =
    same_some source.new.faults source.old.faults
    (sym (map_get (λ (s : SourceTold). s.faults) now w source.new source.new_so)
    ∙ ap (λ (l : List ℕ). slice_get l w) same
    ∙ map_get (λ (s : SourceTold). s.faults) all w source.old source.old_so)

pub as_many : (all now : List SourceTold) → told_faults now ≡ told_faults all → length now ≡ length all
as_many all now same =
    sym (length-map now (λ (s : SourceTold). s.faults)) ∙ ap length same ∙ length-map all (λ (s : SourceTold). s.faults)

module _ {I : Type 0} (tells : I → SourceTold) where
  abbrev failures : List I → List ℕ
  failures sources = map (λ (source : I). (tells source).faults) sources

  pub told_failures : (sources : List I) → told_faults (map tells sources) ≡ failures sources
  told_failures [] = refl
  told_failures (source ∷ sources) = ap (λ (rest : List ℕ). (tells source).faults ∷ rest) (told_failures sources)

  -- ---- taking drivers apart

  -- some drivers are taken apart, and these are left
  pub record Closing (first left : List (Told Evaluating)) (before now : List I) (put : List (Vec ℕ Global)) : Type 0 where
    pub done : List (Told Evaluating)
    pub back : List I
    pub drivers : done ++ reverse left ≡ reverse first
    pub whole : now ≡ before ++ back
    pub closed : AreClosed done (map tells back)
    pub outputs : lists_of put ++ outputs_of (reverse left) ≡ outputs_of (reverse first)

  pub closing_none : (first : List (Told Evaluating)) (before : List I) (put : List (Vec ℕ Global)) → put ≡ [] → Closing first first before before put
  closing_none first before put none = record {
    done = [];
    back = [];
    drivers = refl;
    whole = sym (append-nil before);
    closed = tt;
    outputs = ap (λ (l : List (Vec ℕ Global)). lists_of l ++ outputs_of (reverse first)) none;
  }

  pub closing_more : (first left rest : List (Told Evaluating)) (driver : Told Evaluating) (before now now' : List I) (source : I)
      (put put' : List (Vec ℕ Global)) (own : Vec ℕ Global) → Closing first left before now put → left ≡ rest ++ driver ∷ [] →
      now' ≡ now ++ source ∷ [] → put' ≡ put ++ own ∷ [] → IsClosed driver (tells source) → own.items ≡ driver.state.evaluator.outputs →
      Closing first rest before now' put'
  closing_more first left rest driver before now now' source put put' own c last more also closes outputs = record {
    done = c.done ++ driver ∷ [];
    back = c.back ++ source ∷ [];
    drivers = append_assoc c.done (driver ∷ []) (reverse rest)
        ∙ ap (λ (l : List (Told Evaluating)). c.done ++ l) (sym (last_first rest driver) ∙ ap reverse (sym last)) ∙ c.drivers;
    whole = more ∙ ap (λ (l : List I). l ++ source ∷ []) c.whole ∙ append_assoc before c.back (source ∷ []);
    closed = subst (λ (l : List SourceTold). AreClosed (c.done ++ driver ∷ []) l) (sym (map-append tells c.back (source ∷ [])))
        (closed_more c.done (map tells c.back) driver (tells source) c.closed closes);
    outputs = popped (λ (d : Told Evaluating). d.state.evaluator.outputs) (λ (v : Vec ℕ Global). v.items) left rest driver put put' own last also outputs ∙ c.outputs;
  }

  pub closing_back : (first left : List (Told Evaluating)) (before now : List I) (put : List (Vec ℕ Global)) → Closing first left before now put → left ≡ [] →
      GivesBack tells (reverse first) before now
  closing_back first left before now put c none = record {
    back = c.back;
    whole = c.whole;
    closed = subst (λ (l : List (Told Evaluating)). AreClosed l (map tells c.back))
        (sym (append-nil c.done) ∙ ap (λ (l : List (Told Evaluating)). c.done ++ reverse l) (sym none) ∙ c.drivers) c.closed;
  }

  pub closing_put : (first left : List (Told Evaluating)) (before now : List I) (put : List (Vec ℕ Global)) → Closing first left before now put → left ≡ [] →
      lists_of put ≡ outputs_of (reverse first)
  closing_put first left before now put c none =
      sym (append-nil (lists_of put)) ∙ ap (λ (l : List (Told Evaluating)). lists_of put ++ outputs_of (reverse l)) (sym none) ∙ c.outputs

  -- ---- making drivers

  -- some drivers are made, and these labels are left
  pub record Making (parts : List WorkerPart) (labels : List (Vec Label Global)) (all left : List I) (unused : List (Vec Label Global))
      (drivers : List (Told Evaluating)) : Type 0 where
    pub made : AreMadeFor tells parts labels all left (reverse drivers)
    pub same : made.unused ≡ unused

  pub making_none : (parts : List WorkerPart) (labels : List (Vec Label Global)) (sources : List I) (drivers : List (Told Evaluating)) →
      length labels ≡ length sources → drivers ≡ [] → Making parts labels sources sources labels drivers
  making_none parts labels sources drivers long none = record {
    made = record {
      taken = [];
      used = [];
      unused = labels;
      sources = sym (append-nil sources);
      labels_are = sym (append-nil labels);
      together = long;
      made = ap reverse none ∙ sym (none_opened (length sources) (drop (length sources) parts));
    };
    same = refl;
  }

  -- one driver more
  pub making_more : (parts : List WorkerPart) (labels : List (Vec Label Global)) (all left left' : List I) (source : I) (unused unused' : List (Vec Label Global))
      (own : Vec Label Global) (drivers drivers' : List (Told Evaluating)) (driver : Told Evaluating) (part : WorkerPart) (number : ℕ) →
      Making parts labels all left unused drivers → left ≡ left' ++ source ∷ [] → unused ≡ unused' ++ own ∷ [] → number ≡ length left' →
      length left' < length parts → part ≡ get_or parts number part → driver ≡ evaluator_opening number part own.items (tells source) →
      drivers' ≡ drivers ++ driver ∷ [] → Making parts labels all left' unused' drivers'
  making_more parts labels all left left' source unused unused' own drivers drivers' driver part number m last last_own is within place made more =
      let many : length left ≡ length left' + 1 = ap length last ∙ length-append left' (source ∷ []) in
      let many_own : length m.made.unused ≡ length unused' + 1 = ap length (m.same ∙ last_own) ∙ length-append unused' (own ∷ []) in
      let both = m.made.together in
      let here : drop (length left') parts ≡ part ∷ drop (length left' + 1) parts =
      drop_more parts (length left') part within
      ∙ ap (λ (p : WorkerPart). p ∷ drop (length left' + 1) parts) (sym (place ∙ ap (λ (n : ℕ). get_or parts n part) is)) in
      record {
        made = record {
          taken = source ∷ m.made.taken;
          used = own ∷ m.made.used;
          unused = unused';
          sources = m.made.sources ∙ ap (λ (l : List I). l ++ m.made.taken) last ∙ append_assoc left' (source ∷ []) m.made.taken;
          labels_are = m.made.labels_are ∙ ap (λ (l : List (Vec Label Global)). l ++ m.made.used) (m.same ∙ last_own)
              ∙ append_assoc unused' (own ∷ []) m.made.used;
          together = omega (arith, many, many_own, both);
          made = ap reverse more ∙ last_first drivers driver
              ∙ ap₂ (λ (d : Told Evaluating) (l : List (Told Evaluating)). d ∷ l)
              (made ∙ ap (λ (n : ℕ). evaluator_opening n part own.items (tells source)) is)
              (m.made.made ∙ ap (λ (n : ℕ). evaluator_openings n (drop n parts) (labels_in m.made.used) (map tells m.made.taken)) many)
              ∙ sym (ap (λ (ps : List WorkerPart). evaluator_openings (length left') ps (own.items ∷ labels_in m.made.used)
              (tells source ∷ map tells m.made.taken)) here);
        };
        same = refl;
      }

  -- where all drivers were made
  pub made_all : (parts : List WorkerPart) (labels : List (Vec Label Global)) (all left : List I) (drivers : List (Told Evaluating)) →
      AreMadeFor tells parts labels all left drivers → left ≡ [] → drivers ≡ evaluator_openings 0 parts (labels_in labels) (map tells all)
  made_all parts labels all left drivers m none =
      let zero_left : length left ≡ 0 = ap length none in
      let no_labels : m.unused ≡ [] = empty_so m.unused (m.together ∙ zero_left) in
      m.made ∙ ap (λ (n : ℕ). evaluator_openings n (drop n parts) (labels_in m.used) (map tells m.taken)) zero_left
      ∙ ap₂ (λ (ls : List (Vec Label Global)) (ss : List I). evaluator_openings 0 parts (labels_in ls) (map tells ss))
      (sym (m.labels_are ∙ ap (λ (l : List (Vec Label Global)). l ++ m.used) no_labels))
      (sym (m.sources ∙ ap (λ (l : List I). l ++ m.taken) none))

  -- drivers that were made and taken apart at once
  pub unmade : (parts : List WorkerPart) (labels : List (Vec Label Global)) (all left now : List I) (drivers : List (Told Evaluating)) →
      length all ≡ length parts → length labels ≡ length all → AreMadeFor tells parts labels all left drivers → GivesBack tells drivers left now →
      told_faults (map tells now) ≡ told_faults (map tells all)
  unmade parts labels all left now drivers long also m g =
      told_failures now ∙ ap failures g.whole ∙ map-append (λ (source : I). (tells source).faults) left g.back
      ∙ ap (λ (l : List ℕ). failures left ++ l) same
      ∙ sym (map-append (λ (source : I). (tells source).faults) left m.taken) ∙ ap failures (sym m.sources) ∙ sym (told_failures all)
    where
      same : failures g.back ≡ failures m.taken
      same =
          let all_labels : length labels ≡ length m.unused + length m.used = ap length m.labels_are ∙ length-append m.unused m.used in
          let all_sources : length all ≡ length left + length m.taken = ap length m.sources ∙ length-append left m.taken in
          let both = m.together in
          let used : length m.used ≡ length m.taken = omega (arith, all_labels, all_sources, both, also) in
          let rest : length (drop (length left) parts) ≡ length m.taken = drop_long (length left) (length m.taken) parts (sym long ∙ all_sources) in
          sym (told_failures g.back) ∙ closed_faults drivers (map tells g.back) g.closed ∙ ap faults_of m.made
          ∙ opened_faults (length left) (drop (length left) parts) (labels_in m.used) (map tells m.taken) (rest ∙ sym (length-map m.taken tells))
          (length-map m.used (λ v. v.items) ∙ used ∙ sym (length-map m.taken tells))
          ∙ told_failures m.taken
