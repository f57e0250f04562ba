-- How circuits that were made in part go on. Crates that make circuits cite these.
use Rattle.std.proofs.Common.{◌≡◌, ◌∙◌, List, [], ◌∷◌, ◌++◌, IsTrue, Ok, inl, inr, refl, ap, sym, subst}
use Rattle.mage_instr.specs.declared.fault.DriverFault.{DriverFault}
use Rattle.mage_driver.specs.declared.standing.Standing.TheVariants as standing
use Rattle.mage_driver.specs.Rules.{Rules}
use Rattle.mage_driver.specs.Calls.{Told, And, Call, Asked, NoneIsDue, SomeStops, Fell, RoseFor}
use Rattle.mage_driver.specs.Circuits.{Circuit, given, followed, formed, anded, inverted, folded, Went}

module _ {W : Type 0} (rules : Rules W) where
  pub none_due-append : (xs ys : List (Call rules.State W)) → NoneIsDue rules xs → NoneIsDue rules ys → NoneIsDue rules (xs ++ ys)
  none_due-append [] ys first next = next
  none_due-append (x ∷ xs) ys first next = (first.0, none_due-append xs ys first.1 next)

  pub some_stops-left : (xs ys : List (Call rules.State W)) (f : DriverFault) (s : rules.State) → SomeStops rules xs f s → SomeStops rules (xs ++ ys) f s
  some_stops-left [] ys f s stops = absurd stops
  some_stops-left (x ∷ xs) ys f s stops = elim stops [ inl here ↦ inl here | inr later ↦ inr (some_stops-left xs ys f s later) ]

  pub some_stops-right : (xs ys : List (Call rules.State W)) (f : DriverFault) (s : rules.State) → SomeStops rules ys f s → SomeStops rules (xs ++ ys) f s
  some_stops-right [] ys f s stops = stops
  some_stops-right (x ∷ xs) ys f s stops = inr (some_stops-right xs ys f s stops)

  -- a circuit fell
  abbrev pub FellIn : {X : Type 0} → Circuit rules X → Told rules.State → Told rules.State → DriverFault → Type 0
  FellIn circuit before after f = Fell rules (circuit before.state).calls before f after

  -- nothing was made
  pub went_given : {X : Type 0} (x : X) (told : Told rules.State) → told.standing ≡ standing.Running → Went rules (given rules x) told told x
  went_given x told runs = record { passed = λ t. tt; state = λ t. refl; wires = λ t. refl; rest = ap (λ s. record told { standing = s }) runs }

  pub went_inverted : (a : W) (told : Told rules.State) → told.standing ≡ standing.Running → Went rules (inverted rules a) told told (rules.not told.state a)
  went_inverted a told runs = record { passed = λ t. tt; state = λ t. refl; wires = λ t. refl; rest = ap (λ s. record told { standing = s }) runs }

  pub went_anded : (a b wire : W) (before after : Told rules.State) → Asked rules {X = W} (And a b) before after (Ok wire) → (IsTrue before.told → wire ≡ (rules.and before.state a b).1) → Went rules (anded rules a b) before after wire
  went_anded a b wire before after asked same = record { passed = asked.passed; state = asked.state; wires = same; rest = asked.rest }

  pub went_formed : {X Y : Type 0} (form : X → Y) (circuit : Circuit rules X) (before after : Told rules.State) (x : X) → Went rules circuit before after x → Went rules (formed rules form circuit) before after (form x)
  went_formed form circuit before after x went = record { passed = went.passed; state = went.state; wires = λ t. ap form (went.wires t); rest = went.rest }

  -- what a driver tells, it tells after a circuit too
  still_told : {X : Type 0} (circuit : Circuit rules X) (before after : Told rules.State) (x : X) → Went rules circuit before after x → IsTrue before.told → IsTrue after.told
  still_told circuit before after x went told = subst (λ t. IsTrue t) (sym (ap (λ (t : Told rules.State). t.told) went.rest)) told

  pub went_followed : {X Y : Type 0} (first : Circuit rules X) (next : X → Circuit rules Y) (before mid after : Told rules.State) (x : X) (y : Y) →
      Went rules first before mid x → Went rules (next x) mid after y → Went rules (followed rules first next) before after y
  went_followed first next before mid after x y went went' =
      let tells = still_told first before mid x went in
      record {
        passed = λ t. none_due-append (first before.state).calls _ (went.passed t)
            (subst (λ s. NoneIsDue rules ((next (first before.state).wires s).calls)) (went.state t)
            (subst (λ v. NoneIsDue rules ((next v mid.state).calls)) (went.wires t) (went'.passed (tells t))));
        state = λ t. went'.state (tells t) ∙ ap (λ v. (next v mid.state).state) (went.wires t)
            ∙ ap (λ s. (next (first before.state).wires s).state) (went.state t);
        wires = λ t. went'.wires (tells t) ∙ ap (λ v. (next v mid.state).wires) (went.wires t)
            ∙ ap (λ s. (next (first before.state).wires s).wires) (went.state t);
        rest = went'.rest ∙ ap (λ (m : Told rules.State). record m { state = after.state; standing = standing.Running }) went.rest;
      }

  pub fell_first : {X Y : Type 0} (first : Circuit rules X) (next : X → Circuit rules Y) (before after : Told rules.State) (f : DriverFault) →
      FellIn first before after f → FellIn (followed rules first next) before after f
  fell_first first next before after f fell = record {
    stopped = λ t. some_stops-left (first before.state).calls _ f after.state (fell.stopped t);
    failed = fell.failed;
    counted = fell.counted;
    told = fell.told;
  }

  pub fell_next : {X Y : Type 0} (first : Circuit rules X) (next : X → Circuit rules Y) (before mid after : Told rules.State) (x : X) (f : DriverFault) →
      Went rules first before mid x → FellIn (next x) mid after f → FellIn (followed rules first next) before after f
  fell_next first next before mid after x f went fell' = record {
    stopped = λ t. some_stops-right (first before.state).calls _ f after.state
        (subst (λ s. SomeStops rules ((next (first before.state).wires s).calls) f after.state) (went.state t)
        (subst (λ v. SomeStops rules ((next v mid.state).calls) f after.state) (went.wires t)
        (fell'.stopped (still_told first before mid x went t))));
    failed = fell'.failed;
    counted = subst (λ n. RoseFor f n after.faults) (ap (λ (t : Told rules.State). t.faults) went.rest) fell'.counted;
    told = fell'.told ∙ ap (λ (t : Told rules.State). t.told) went.rest;
  }

  pub went_to : {X : Type 0} (circuit : Circuit rules X) (before after : Told rules.State) (x y : X) → Went rules circuit before after x → x ≡ y → Went rules circuit before after y
  went_to circuit before after x y went same = subst (λ v. Went rules circuit before after v) same went

  -- the same gate, with its wires in other words
  pub went_anded_as : (a b a' b' wire : W) (before after : Told rules.State) → a ≡ a' → b ≡ b' → Went rules (anded rules a b) before after wire → Went rules (anded rules a' b') before after wire
  went_anded_as a b a' b' wire before after same same' went =
      subst (λ x. Went rules (anded rules x b') before after wire) same (subst (λ y. Went rules (anded rules a y) before after wire) same' went)

  pub fell_anded_as : (a b a' b' : W) (before after : Told rules.State) (f : DriverFault) → a ≡ a' → b ≡ b' → FellIn (anded rules a b) before after f → FellIn (anded rules a' b') before after f
  fell_anded_as a b a' b' before after f same same' fell =
      subst (λ x. FellIn (anded rules x b') before after f) same (subst (λ y. FellIn (anded rules a y) before after f) same' fell)

  -- a driver that went runs
  pub went_runs : {X : Type 0} (circuit : Circuit rules X) (before after : Told rules.State) (x : X) → Went rules circuit before after x → after.standing ≡ standing.Running
  went_runs circuit before after x went = ap (λ (t : Told rules.State). t.standing) went.rest

  -- A fold that began somewhere has come to these wires, with these items left.
  pub record Goes {X I : Type 0} (step : X → I → Circuit rules X) (start : X) (before : Told rules.State) (items : List I) (now : X) (told : Told rules.State) (left : List I) : Type 0 where
    pub runs : told.standing ≡ standing.Running
    pub went : (after : Told rules.State) (x : X) → Went rules (folded rules step now left) told after x → Went rules (folded rules step start items) before after x
    pub fell : (after : Told rules.State) (f : DriverFault) → FellIn (folded rules step now left) told after f → FellIn (folded rules step start items) before after f

  module _ {X I : Type 0} (step : X → I → Circuit rules X) where
    pub goes_start : (start : X) (told : Told rules.State) (items : List I) → told.standing ≡ standing.Running → Goes step start told items start told items
    goes_start start told items runs = record { runs = runs; went = λ after x went. went; fell = λ after f fell. fell }

    pub goes_turn : (start : X) (before : Told rules.State) (items : List I) (now now' : X) (told told' : Told rules.State) (item : I) (left left' : List I) →
        Goes step start before items now told left → left ≡ item ∷ left' → Went rules (step now item) told told' now' → Goes step start before items now' told' left'
    goes_turn start before items now now' told told' item left left' goes split went = record {
      runs = went_runs (step now item) told told' now' went;
      went = λ after x rest. goes.went after x (subst (λ xs. Went rules (folded rules step now xs) told after x) (sym split)
          (went_followed (step now item) (λ y. folded rules step y left') told told' after now' x went rest));
      fell = λ after f rest. goes.fell after f (subst (λ xs. FellIn (folded rules step now xs) told after f) (sym split)
          (fell_next (step now item) (λ y. folded rules step y left') told told' after now' f went rest));
    }

    pub goes_falls : (start : X) (before : Told rules.State) (items : List I) (now : X) (told after : Told rules.State) (f : DriverFault) (item : I) (left left' : List I) →
        Goes step start before items now told left → left ≡ item ∷ left' → FellIn (step now item) told after f → FellIn (folded rules step start items) before after f
    goes_falls start before items now told after f item left left' goes split fell =
        goes.fell after f (subst (λ xs. FellIn (folded rules step now xs) told after f) (sym split)
        (fell_first (step now item) (λ y. folded rules step y left') told after f fell))

    pub goes_end : (start : X) (before : Told rules.State) (items : List I) (now : X) (told : Told rules.State) (left : List I) →
        Goes step start before items now told left → left ≡ [] → Went rules (folded rules step start items) before told now
    goes_end start before items now told left goes split =
        goes.went told now (subst (λ xs. Went rules (folded rules step now xs) told told now) (sym split) (went_given now told goes.runs))

    -- the same wires in another form
    pub goes_same : (start : X) (before : Told rules.State) (items : List I) (now now' : X) (told : Told rules.State) (left left' : List I) →
        Goes step start before items now told left → now ≡ now' → left ≡ left' → Goes step start before items now' told left'
    goes_same start before items now now' told left left' goes same same' =
        subst (λ x. Goes step start before items x told left') same (subst (λ xs. Goes step start before items now told xs) same' goes)
