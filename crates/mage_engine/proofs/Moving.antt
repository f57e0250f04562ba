-- A machine that does a directive whole makes an event.
use Rattle.std.proofs.Common.{◌≡◌, ◌<◌, ◌+◌, ℕ, suc, ◌==◌, Bool, cond, List, Option, Some, sym, ap, ap₂, ◌∙◌, subst, arith}
use Rattle.std.specs.Prelude.{IsTrue}
use Rattle.mage_instr.specs.declared.directive.Directive.{Directive}
use Rattle.mage_network.specs.Reading.{hears_in}
use Rattle.mage_driver.specs.declared.standing.Standing.TheVariants as standing
use Rattle.mage_driver.specs.Rules.{Rules}
use Rattle.mage_driver.specs.Calls.{Told, NoneIsDue}
use Rattle.mage_link.specs.Links.{LinkTold}
use Rattle.mage_port.specs.Port.{PortTold}
use Rattle.mage_steps.specs.Engines.{doing_of, doing_at}
use Rattle.mage_engine.specs.declared.turn.Kind.{Kind}
use Rattle.mage_engine.specs.Seen.{Seen, directive_at, engine_with, worker_with, HoldSame}
use Rattle.mage_engine.specs.Ready.{IsAt, IsReady, Stands, wires_of}
use Rattle.mage_engine.specs.Steps.{kind_of, place_after, wire_after, standing_after, AtPort, Asks, AtLink, Happens, IsEvent, IsMove, calls_of, next_with}
use Rattle.mage_engine.proofs.Advancing.{wire_within, running, stands_of}

module _ {W : Type 0} (rules : Rules W) (old : Seen rules.State) (x : Directive) (at : IsAt old x) where
  -- an event at the directive
  abbrev pub EventAt : (new : Seen rules.State) → (before after : LinkTold) → Type 0
  EventAt new before after = (bank : ℕ → List ℕ) → HoldSame old bank →
      (filled : ℕ → List ℕ) × HoldSame new filled
      × Happens (hears_in (doing_of rules old.part.limits.page x (engine_with old bank)) (worker_with old bank)) old.part.worker
      (record { finished = old.port.finished; link = before })
      (record { finished = new.port.finished; link = after }) (worker_with new filled)

  pub event_so : (new : Seen rules.State) (before after : LinkTold) → EventAt new before after → IsEvent rules old new before after
  event_so new before after event bank same =
      let found = event bank same in (
        found.0,
        found.1,
        subst (λ (o : Option Directive).
            Happens (hears_in (doing_at rules old.part.limits.page o (engine_with old bank)) (worker_with old bank)) old.part.worker
            (record { finished = old.port.finished; link = before })
            (record { finished = new.port.finished; link = after }) (worker_with new found.0)) (sym at.here) found.2,
      )

  pub passed_so : NoneIsDue rules (calls_of rules (doing_of rules old.part.limits.page x (engine_with old old.bank))) →
      NoneIsDue rules (calls_of rules (next_with rules old old.bank))
  passed_so passed = subst (λ (o : Option Directive). NoneIsDue rules (calls_of rules (doing_at rules old.part.limits.page o (engine_with old old.bank))))
      (sym at.here) passed

  module _ (wb : ℕ) (finished : Bool) (stands : Stands wb finished old.fault old) (one : wires_of (Some x) ≡ 1) where
    -- the machine behind the directive
    abbrev pub Behind : (driver : Told rules.State) (port : PortTold) (bank : ℕ → List ℕ) → Seen rules.State
    Behind driver port bank = record old { driver = driver; port = port; place = suc old.place; wire = 0; bank = bank }

    first_wire : old.wire ≡ 0
    first_wire = let less : old.wire < 1 = subst (λ n. old.wire < n) one (wire_within wb finished old x at stands) in omega (arith, less)

    pub behind_is : (driver : Told rules.State) (port : PortTold) (bank : ℕ → List ℕ) →
        record old { driver = driver; port = port; place = old.place + 1; bank = bank } ≡ Behind driver port bank
    behind_is driver port bank =
        let next : old.place + 1 ≡ suc old.place = omega arith in
        ap₂ (λ (p w : ℕ). record old { driver = driver; port = port; place = p; wire = w; bank = bank }) next first_wire

    place_is : suc old.place ≡ place_after (directive_at old) old.wire old.place
    place_is = sym (ap₂ (λ (o : Option Directive) (w : ℕ). place_after o w old.place) at.here first_wire
        ∙ ap (λ n. cond (1 == n) (suc old.place) old.place) one)

    wire_is : 0 ≡ wire_after (directive_at old) old.wire
    wire_is = sym (ap₂ (λ (o : Option Directive) (w : ℕ). wire_after o w) at.here first_wire
        ∙ ap (λ n. cond (1 == n) 0 1) one)

    pub moved_so : (new : Seen rules.State) (driver : Told rules.State) (port : PortTold) (bank : ℕ → List ℕ) (moved : Kind) →
        new ≡ record old { driver = driver; port = port; place = old.place + 1; bank = bank } →
        moved ≡ kind_of (Some x) → driver ≡ record old.driver { state = driver.state; standing = standing.Running } →
        AtPort (Some x) old.bank bank old.port port → Asks (Some x) old.port → (link : LinkTold) → AtLink (Some x) old.part.worker link link →
        (IsTrue old.driver.told → EventAt (Behind driver port bank) link link) →
        (IsTrue old.driver.told → NoneIsDue rules (calls_of rules (doing_of rules old.part.limits.page x (engine_with old old.bank)))) →
        IsMove rules old new link link moved
    moved_so new driver port bank moved is kind runs ported asks link linked event passed =
        subst (λ (n : Seen rules.State). IsMove rules old n link link moved) (sym (is ∙ behind_is driver port bank)) (record {
          of_kind = kind ∙ ap kind_of (sym at.here);
          port = subst (λ (o : Option Directive). AtPort o old.bank bank old.port port) (sym at.here) ported;
          asks = subst (λ (o : Option Directive). Asks o old.port) (sym at.here) asks;
          link = subst (λ (o : Option Directive). AtLink o old.part.worker link link) (sym at.here) linked;
          driver = runs ∙ ap (λ (o : Option Directive). record old.driver { state = driver.state; standing = standing_after o }) (sym at.here);
          rest = ap₂ (λ (p w : ℕ). record old { driver = driver; port = port; place = p; wire = w; bank = bank }) place_is wire_is;
          event = λ told. event_so (Behind driver port bank) link link (event told);
          passed = λ told. passed_so (passed told);
        })

    pub stands_so : (new : Seen rules.State) (driver : Told rules.State) (port : PortTold) (bank : ℕ → List ℕ) →
        new ≡ record old { driver = driver; port = port; place = old.place + 1; bank = bank } →
        IsReady wb finished (Behind driver port bank) → Stands wb finished old.fault new
    stands_so new driver port bank is ready =
        subst (λ (n : Seen rules.State). Stands wb finished old.fault n) (sym (is ∙ behind_is driver port bank))
        (stands_of wb finished old.fault (Behind driver port bank) at.sound ready)

    -- a driver of which nothing was asked runs on
    pub same_driver : old.driver ≡ record old.driver { state = old.driver.state; standing = standing.Running }
    same_driver = ap (λ s. record old.driver { state = old.driver.state; standing = s }) (running wb finished old x at stands)
