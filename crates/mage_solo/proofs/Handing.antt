-- Garblers made over sinks from the last worker to the first, and taken apart again.
use Rattle.std.proofs.Common.{◌≡◌, ◌+◌, ◌++◌, ℕ, List, [], ◌∷◌, length, map, refl, sym, ap, ap₂, ◌∙◌, subst, arith, append_assoc, length-append}
use Rattle.std.proofs.lemmas.List.{reverse-append, map-append, append-nil}
use Rattle.std.specs.Prelude.{reverse, Vec}
use Rattle.std.specs.Global.{Global}
use Rattle.mage_base.specs.Sink.{SinkTold}
use Rattle.mage_driver.specs.Calls.{Told}
use Rattle.mage_garble.specs.Rule.{Garbling}
use Rattle.mage_solo.specs.Plain.{lists_of}
use Rattle.mage_solo.specs.Garbling.{IsClosed, AreClosed, HandsBack, AreMadeOf, garbler_opening, garbler_openings}

reverse_last : {X : Type 0} (rest : List X) (x : X) → reverse (rest ++ x ∷ []) ≡ x ∷ reverse rest
reverse_last rest x = reverse-append rest (x ∷ [])

closed_more : (drivers : List (Told Garbling)) (sinks : List SinkTold) (d : Told Garbling) (s : SinkTold) → AreClosed drivers sinks → IsClosed d s →
    AreClosed (drivers ++ d ∷ []) (sinks ++ s ∷ [])
closed_more [] [] d s h k = (k, tt)
closed_more [] (t ∷ ts) d s h k = absurd h
closed_more (e ∷ es) [] d s h k = absurd h
closed_more (e ∷ es) (t ∷ ts) d s h k = (h.0, closed_more es ts d s h.1 k)

module _ {K : Type 0} (tells : K → SinkTold) where
  -- some drivers are taken apart, and these are left
  pub record Closing (first left : List (Told Garbling)) (before now : List K) : Type 0 where
    pub done : List (Told Garbling)
    pub back : List K
    pub drivers : done ++ reverse left ≡ reverse first
    pub whole : now ≡ before ++ back
    pub closed : AreClosed done (map tells back)

  pub closing_none : (first : List (Told Garbling)) (before : List K) → Closing first first before before
  closing_none first before = record { done = []; back = []; drivers = refl; whole = sym (append-nil before); closed = tt }

  pub closing_more : (first left rest : List (Told Garbling)) (driver : Told Garbling) (before now now' : List K) (sink : K) → Closing first left before now →
      left ≡ rest ++ driver ∷ [] → now' ≡ now ++ sink ∷ [] → IsClosed driver (tells sink) → Closing first rest before now'
  closing_more first left rest driver before now now' sink c last more closes = record {
    done = c.done ++ driver ∷ [];
    back = c.back ++ sink ∷ [];
    drivers = append_assoc c.done (driver ∷ []) (reverse rest)
        ∙ ap (λ (l : List (Told Garbling)). c.done ++ l) (sym (reverse_last rest driver) ∙ ap reverse (sym last)) ∙ c.drivers;
    whole = more ∙ ap (λ (l : List K). l ++ sink ∷ []) c.whole ∙ append_assoc before c.back (sink ∷ []);
    closed = subst (λ (l : List SinkTold). AreClosed (c.done ++ driver ∷ []) l) (sym (map-append tells c.back (sink ∷ [])))
        (closed_more c.done (map tells c.back) driver (tells sink) c.closed closes);
  }

  pub closing_all : (first left : List (Told Garbling)) (before now : List K) → Closing first left before now → left ≡ [] → HandsBack tells (reverse first) before now
  closing_all first left before now c none = record {
    back = c.back;
    whole = c.whole;
    closed = subst (λ (l : List (Told Garbling)). AreClosed l (map tells c.back))
        (sym (append-nil c.done) ∙ ap (λ (l : List (Told Garbling)). c.done ++ reverse l) (sym none) ∙ c.drivers) c.closed;
  }

  pub made_none : (seed : List ℕ) (values : List (Vec ℕ Global)) (sinks : List K) (drivers : List (Told Garbling)) → length values ≡ length sinks → drivers ≡ [] →
      AreMadeOf tells seed values sinks sinks (reverse drivers)
  made_none seed values sinks drivers long none = record {
    taken = [];
    used = [];
    unused = values;
    sinks = sym (append-nil sinks);
    values_are = sym (append-nil values);
    together = long;
    made = ap reverse none;
  }

  -- one driver more
  pub made_more : (seed : List ℕ) (values : List (Vec ℕ Global)) (all left left' : List K) (sink : K) (unused' : List (Vec ℕ Global)) (own : Vec ℕ Global)
      (drivers drivers' : List (Told Garbling)) (driver : Told Garbling) (number : ℕ) (m : AreMadeOf tells seed values all left (reverse drivers)) →
      left ≡ left' ++ sink ∷ [] → m.unused ≡ unused' ++ own ∷ [] → number ≡ length left' →
      driver ≡ garbler_opening seed number own.items (tells sink) → drivers' ≡ drivers ++ driver ∷ [] →
      AreMadeOf tells seed values all left' (reverse drivers')
  made_more seed values all left left' sink unused' own drivers drivers' driver number m last last_own is made more =
      let many : length left ≡ length left' + 1 = ap length last ∙ length-append left' (sink ∷ []) in
      let many_own : length m.unused ≡ length unused' + 1 = ap length last_own ∙ length-append unused' (own ∷ []) in
      let both = m.together in record {
        taken = sink ∷ m.taken;
        used = own ∷ m.used;
        unused = unused';
        sinks = m.sinks ∙ ap (λ (l : List K). l ++ m.taken) last ∙ append_assoc left' (sink ∷ []) m.taken;
        values_are = m.values_are ∙ ap (λ (l : List (Vec ℕ Global)). l ++ m.used) last_own ∙ append_assoc unused' (own ∷ []) m.used;
        together = omega (arith, many, many_own, both);
        made = ap reverse more ∙ reverse_last drivers driver
            ∙ ap₂ (λ (d : Told Garbling) (l : List (Told Garbling)). d ∷ l)
            (made ∙ ap (λ (n : ℕ). garbler_opening seed n own.items (tells sink)) is)
            (m.made ∙ ap (λ (n : ℕ). garbler_openings seed n (lists_of m.used) (map tells m.taken)) many);
      }

  -- the same, with the values that are left
  pub record Making (seed : List ℕ) (values : List (Vec ℕ Global)) (all left : List K) (unused : List (Vec ℕ Global)) (drivers : List (Told Garbling)) : Type 0 where
    pub made : AreMadeOf tells seed values all left (reverse drivers)
    pub same : made.unused ≡ unused

  pub making_none : (seed : List ℕ) (values : List (Vec ℕ Global)) (sinks : List K) (drivers : List (Told Garbling)) → length values ≡ length sinks → drivers ≡ [] →
      Making seed values sinks sinks values drivers
  unfolding made_none
  making_none seed values sinks drivers long none = record { made = made_none seed values sinks drivers long none; same = refl }

  pub making_more : (seed : List ℕ) (values : List (Vec ℕ Global)) (all left left' : List K) (sink : K) (unused unused' : List (Vec ℕ Global)) (own : Vec ℕ Global)
      (drivers drivers' : List (Told Garbling)) (driver : Told Garbling) (number : ℕ) → Making seed values all left unused drivers →
      left ≡ left' ++ sink ∷ [] → unused ≡ unused' ++ own ∷ [] → number ≡ length left' →
      driver ≡ garbler_opening seed number own.items (tells sink) → drivers' ≡ drivers ++ driver ∷ [] →
      Making seed values all left' unused' drivers'
  unfolding made_more
  making_more seed values all left left' sink unused unused' own drivers drivers' driver number m last last_own is made more = record {
    made = made_more seed values all left left' sink unused' own drivers drivers' driver number m.made last (m.same ∙ last_own) is made more;
    same = refl;
  }
