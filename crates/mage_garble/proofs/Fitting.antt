-- A driver over a steady sink with room for its stream is never stopped.
use Rattle.std.proofs.Common.{◌≡◌, ◌≤◌, ◌<◌, ℕ, ◌+◌, ◌-◌, List, [], ◌∷◌, ◌++◌, Bool, true, false, cond, length, nat_le, Option, None, Some, option_map, refl, sym, ap, ap₂, subst, ◌∙◌, inl, inr, arith, append_assoc, length-append}
use Rattle.std.proofs.lemmas.List.{append-nil}
use Rattle.std.specs.Prelude.{IfSome, IsTrue, if◌then◌else◌}
use Rattle.mage_instr.specs.declared.fault.DriverFault.{DriverFault}
use Rattle.mage_instr.specs.declared.party.Party.{Party}
use Rattle.mage_instr.specs.declared.party.Party.TheVariants as party
use Rattle.mage_linked.specs.Emission.{emission_of}
use Rattle.mage_label.specs.declared.labels.Label.{Label}
use Rattle.mage_label.specs.Labels.{xor}
use Rattle.mage_driver.specs.Calls.{Ask, Call, And, Input, Output, Finish, SomeStops, call_of}
use Rattle.mage_relations.specs.Each.{Each}
use Rattle.mage_relations.specs.Unplaced.{Unplaced, starting_in, run_of, calls_of}
use Rattle.mage_relations.proofs.EachLemmas.{Same, each_same, each_of, same_lists}
use Rattle.mage_relations.proofs.Keeping.{KeepsCalls}
use Rattle.mage_relations.proofs.Runs.{Related, keeps_run}
use Rattle.mage_streams.specs.Garbling.{said_for}
use Rattle.mage_streams.specs.Streams.{garbled_stream}
use Rattle.mage_garble.specs.Sending.{Sending, flushed, saying, sending_to, with_waiting, most_waiting}
use Rattle.mage_garble.specs.Rule.{Garbling, garbling_from, garble_rules, sending_at_input}
use Rattle.mage_garble.specs.Laws.{program_calls, NoneStops}
use Rattle.mage_garble.proofs.Saying.{all_said, all_said-saying, says_the_stream}

-- what is said at some calls of the driver
abbrev said_of : List (Call Garbling Label) → List ℕ
said_of [] = []
said_of (call ∷ calls) = said_for call.state.garbler call.ask ++ said_of calls

-- a driver whose sink is steady or not, had taken so many bytes at first and had this room; and all that it is to say
module _ (steady : Bool) (first most : ℕ) (whole : List ℕ) where
  -- how much room a steady sink has
  record HasRoom (s : Sending) : Type 0 where
    room : IsTrue steady → s.room ≡ Some (most - (length s.stream - first))
    taken : first ≤ length s.stream

  flushed_has : (s : Sending) → HasRoom s → HasRoom (flushed s)
  flushed_has s h =
      let long : length (s.stream ++ s.waiting) ≡ length s.stream + length s.waiting = length-append s.stream s.waiting in
      let taken = h.taken in
      let less : (most - (length s.stream - first)) - length s.waiting ≡ most - (length (s.stream ++ s.waiting) - first) = omega (arith, long, taken) in
      record {
        room = λ is. ap (λ (r : Option ℕ). option_map (λ room. room - length s.waiting) r) (h.room is) ∙ ap (λ (n : ℕ). Some n) less;
        taken = omega (arith, long, taken);
      }

  saying_has : (s : Sending) (bytes : List ℕ) → HasRoom s → HasRoom (saying s bytes)
  saying_has s bytes h = by_test (nat_le (length s.waiting + length bytes) most_waiting)
    where
      by_test : (test : Bool) → HasRoom (with_waiting (cond test s (flushed s)) bytes)
      by_test true = record { room = h.room; taken = h.taken }
      by_test false = (let f = flushed_has s h in record { room = f.room; taken = f.taken })

  -- at a call, what was put and what waits is a front of the whole
  record Fits (call : Call Garbling Label) : Type 0 where
    has : HasRoom call.state.sending
    rest : List ℕ
    front : all_said call.state.sending ++ rest ≡ whole

  abbrev AllFit : List (Call Garbling Label) → Type 0
  AllFit [] = Unit {0}
  AllFit (call ∷ calls) = Fits call × AllFit calls

  all_and : (calls : List (Call Garbling Label)) (call : Call Garbling Label) → AllFit calls → Fits call → AllFit (calls ++ call ∷ [])
  all_and [] call h k = (k, tt)
  all_and (c ∷ cs) call h k = (h.0, all_and cs call h.1 k)

  none_of : (calls : List (Call Garbling Label)) → AllFit calls → IsTrue steady → length whole ≤ first + most → (f : DriverFault) (after : Garbling) →
      SomeStops garble_rules calls f after → ⊥
  none_of [] h is few f after stops = stops
  none_of (call ∷ calls) h is few f after (inl stops) =
      let s = call.state.sending in
      let fits = h.0 in
      let full : most - (length s.stream - first) < length s.waiting =
      subst (λ (r : Option ℕ). IfSome r (λ room. room < length s.waiting)) (fits.has.room is) stops.failed.full in
      let taken = fits.has.taken in
      let said : length (s.stream ++ s.waiting) ≡ length s.stream + length s.waiting = length-append s.stream s.waiting in
      let all : length ((s.stream ++ s.waiting) ++ fits.rest) ≡ length (s.stream ++ s.waiting) + length fits.rest = length-append (s.stream ++ s.waiting) fits.rest in
      let is_whole : length ((s.stream ++ s.waiting) ++ fits.rest) ≡ length whole = ap length fits.front in
      absurd (omega (arith, full, taken, said, all, is_whole, few))
  none_of (call ∷ calls) h is few f after (inr stops) = none_of calls h.1 is few f after stops

  module _ (all : List (Call Garbling Label)) where
    -- between two calls: all calls fit as soon as those that are still to come do
    record Stands (s : Garbling) (rest : List (Call Garbling Label)) : Type 0 where
      has : HasRoom s.sending
      said : all_said s.sending ++ said_of rest ≡ whole
      back : AllFit rest → AllFit all

    called : (s : Garbling) (ask : Ask Label) (rest : List (Call Garbling Label)) (after : Garbling) → Stands s (call_of garble_rules s ask ∷ rest) →
        HasRoom after.sending → all_said after.sending ≡ all_said s.sending ++ said_for s.garbler ask → Stands after rest
    called s ask rest after h has more = record {
      has = has;
      said = ap (λ (xs : List ℕ). xs ++ said_of rest) more ∙ append_assoc (all_said s.sending) (said_for s.garbler ask) (said_of rest) ∙ h.said;
      back = λ others. h.back (record { has = h.has; rest = said_for s.garbler ask ++ said_of rest; front = h.said }, others);
    }

    -- the driver, three times
    record Thrice (s t u : Garbling) (rest : List (Call Garbling Label)) : Type 0 where
      twice : s ≡ t
      thrice : u ≡ t
      stands : Stands t rest

    ands : (s t u : Garbling) (rest : List (Call Garbling Label)) (a a' b b' c c' : Label) → Thrice s t u (call_of garble_rules t (And b b') ∷ rest) → Same a b c → Same a' b' c' →
        Thrice ((garble_rules.and s a a').0) ((garble_rules.and t b b').0) ((garble_rules.and u c c').0) rest
        × Same ((garble_rules.and s a a').1) ((garble_rules.and t b b').1) ((garble_rules.and u c c').1)
    ands s t u rest a a' b b' c c' h same same' =
        let one : ◌≡◌ {A = Garbling × Label} (garble_rules.and s a a') (garble_rules.and t b b') =
        ap (λ (x : Garbling). garble_rules.and x a a') h.twice ∙ ap₂ (λ (x y : Label). garble_rules.and t x y) same.0 same'.0 in
        let other : ◌≡◌ {A = Garbling × Label} (garble_rules.and u c c') (garble_rules.and t b b') =
        ap (λ (x : Garbling). garble_rules.and x c c') h.thrice ∙ ap₂ (λ (x y : Label). garble_rules.and t x y) same.1 same'.1 in (
          record {
            twice = ap (λ (p : Garbling × Label). p.0) one;
            thrice = ap (λ (p : Garbling × Label). p.0) other;
            stands = called t (And b b') rest ((garble_rules.and t b b').0) h.stands
                (saying_has t.sending (said_for t.garbler (And b b')) h.stands.has) (all_said-saying t.sending (said_for t.garbler (And b b')));
          },
          (ap (λ (p : Garbling × Label). p.1) one, ap (λ (p : Garbling × Label). p.1) other),
        )

    inputs : (s t u : Garbling) (rest : List (Call Garbling Label)) (whose : Party) (count : ℕ) → Thrice s t u (call_of garble_rules t (Input whose count) ∷ rest) →
        Thrice ((garble_rules.input s whose count).0) ((garble_rules.input t whose count).0) ((garble_rules.input u whose count).0) rest
        × Each Same ((garble_rules.input s whose count).1) ((garble_rules.input t whose count).1) ((garble_rules.input u whose count).1)
    inputs s t u rest whose count h =
        let one : ◌≡◌ {A = Garbling × List Label} (garble_rules.input s whose count) (garble_rules.input t whose count) =
        ap (λ (x : Garbling). garble_rules.input x whose count) h.twice in
        let other : ◌≡◌ {A = Garbling × List Label} (garble_rules.input u whose count) (garble_rules.input t whose count) =
        ap (λ (x : Garbling). garble_rules.input x whose count) h.thrice in (
          record {
            twice = ap (λ (p : Garbling × List Label). p.0) one;
            thrice = ap (λ (p : Garbling × List Label). p.0) other;
            stands = called t (Input whose count) rest ((garble_rules.input t whose count).0) h.stands (has whose h.stands.has) (more whose);
          },
          each_of ((garble_rules.input s whose count).1) ((garble_rules.input t whose count).1) ((garble_rules.input u whose count).1)
              (ap (λ (p : Garbling × List Label). p.1) one) (ap (λ (p : Garbling × List Label). p.1) other),
        )
      where
        has : (p : Party) → HasRoom t.sending → HasRoom (sending_at_input t p count)
        has party.Garbler room = saying_has t.sending (said_for t.garbler (Input party.Garbler count)) room
        has party.Evaluator room = room

        more : (p : Party) → all_said (sending_at_input t p count) ≡ all_said t.sending ++ said_for t.garbler (Input p count)
        more party.Garbler = all_said-saying t.sending (said_for t.garbler (Input party.Garbler count))
        more party.Evaluator = sym (append-nil (all_said t.sending))

    outputs : (s t u : Garbling) (rest : List (Call Garbling Label)) (xs ys zs : List Label) → Thrice s t u (call_of garble_rules t (Output ys) ∷ rest) → Each Same xs ys zs →
        Thrice (garble_rules.output s xs) (garble_rules.output t ys) (garble_rules.output u zs) rest
    outputs s t u rest xs ys zs h each =
        let same = same_lists xs ys zs each in record {
          twice = ap (λ (x : Garbling). garble_rules.output x xs) h.twice ∙ ap (λ (l : List Label). garble_rules.output t l) same.0;
          thrice = ap (λ (x : Garbling). garble_rules.output x zs) h.thrice ∙ ap (λ (l : List Label). garble_rules.output t l) same.1;
          stands = called t (Output ys) rest (garble_rules.output t ys) h.stands
              (saying_has t.sending (said_for t.garbler (Output ys)) h.stands.has) (all_said-saying t.sending (said_for t.garbler (Output ys)));
        }

    calls_fit : KeepsCalls garble_rules garble_rules garble_rules Thrice Same
    calls_fit = record {
      constant = λ s t u rest bit h.
          (ap (λ (x : Garbling). garble_rules.constant x bit) h.twice, ap (λ (x : Garbling). garble_rules.constant x bit) h.thrice);
      xor = λ a a' b b' c c' same same'. (ap₂ xor same.0 same'.0, ap₂ xor same.1 same'.1);
      not = λ s t u rest a b c h same.
          (ap₂ (λ (x : Garbling) (y : Label). garble_rules.not x y) h.twice same.0, ap₂ (λ (x : Garbling) (y : Label). garble_rules.not x y) h.thrice same.1);
      and = ands;
      input = inputs;
      output = outputs;
    }

pub none_stops : NoneStops
none_stops program seed garbler sinks worker f after is fits stops =
    let start : Unplaced Garbling Label = starting_in (λ w. garbling_from seed w (garbler w) 0 0 (sinks w)) in
    let calls : ℕ → List (Call Garbling Label) = λ w. calls_of garble_rules w start (emission_of program) in
    let steady : ℕ → Bool = λ w. (sinks w).steady in
    let first : ℕ → ℕ = λ w. length (sending_to (sinks w)).stream in
    let most : ℕ → ℕ = λ w. (sinks w).room in
    let whole : ℕ → List ℕ = λ w. all_said (start.states w).sending ++ said_of (calls w) in
    let related : Related garble_rules garble_rules garble_rules (λ w. Thrice (steady w) (first w) (most w) (whole w) (calls w)) Same
    (λ w. calls_fit (steady w) (first w) (most w) (whole w) (calls w)) start start start (λ w. calls w ++ []) = record {
      states = λ w. record {
        twice = refl;
        thrice = refl;
        stands = record {
          has = record {
            room = λ at. ap (λ (b : Bool). if b then Some (sinks w).room else None) at
                ∙ ap (λ (n : ℕ). Some n) (let e : (sinks w).room ≡ (sinks w).room - (first w - first w) = omega arith in e);
            taken = omega arith;
          };
          said = ap (λ (cs : List (Call Garbling Label)). all_said (start.states w).sending ++ said_of cs) (append-nil (calls w));
          back = λ h. subst (AllFit (steady w) (first w) (most w) (whole w)) (append-nil (calls w)) h;
        };
      };
      values = λ w. tt;
      sent = λ v w. tt;
    } in
    let end = (keeps_run garble_rules garble_rules garble_rules (λ w. Thrice (steady w) (first w) (most w) (whole w) (calls w)) Same
    (λ w. calls_fit (steady w) (first w) (most w) (whole w) (calls w)) (emission_of program) start start start (λ w. []) related).states worker in
    let last : Garbling = (run_of garble_rules start (emission_of program)).states worker in
    let all : AllFit (steady worker) (first worker) (most worker) (whole worker) (program_calls program seed garbler sinks worker) =
    all_and (steady worker) (first worker) (most worker) (whole worker) (calls worker) (call_of garble_rules last Finish) (end.stands.back tt)
    (record { has = end.stands.has; rest = []; front = end.stands.said }) in
    let is_whole : whole worker ≡ (sending_to (sinks worker)).stream ++ garbled_stream program seed garbler worker =
    sym end.stands.said ∙ append-nil (all_said last.sending) ∙ says_the_stream program seed garbler sinks worker in
    let long : length (whole worker) ≡ length ((sending_to (sinks worker)).stream ++ garbled_stream program seed garbler worker) = ap length is_whole in
    let both = length-append (sending_to (sinks worker)).stream (garbled_stream program seed garbler worker) in
    none_of (steady worker) (first worker) (most worker) (whole worker) (program_calls program seed garbler sinks worker) all is (omega (arith, long, both, fits)) f after stops
