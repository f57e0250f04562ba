-- One wire of a Send or Recv.
use Rattle.std.proofs.Common.{◌≡◌, ◌≤◌, ◌<◌, ◌+◌, ◌*◌, ℕ, suc, ◌==◌, Bool, true, false, cond, List, [], ◌∷◌, take, drop, Option, Some, nat_lt, refl, sym, ap, ap₂, ◌∙◌, subst, arith}
use Rattle.std.specs.Prelude.{IsTrue, slice_index_or}
use Rattle.std.proofs.lemmas.Bool.{eqb-false}
use Rattle.std.specs.List.{flat_map}
use Rattle.mage_instr.specs.declared.directive.Directive.{Directive}
use Rattle.mage_instr.specs.declared.directive.Directive.TheVariants as entry
use Rattle.mage_instr.specs.declared.op.Op.{Op}
use Rattle.mage_instr.specs.declared.op.Op.TheVariants as op
use Rattle.mage_instr.specs.declared.replaced.Job.{Job}
use Rattle.mage_instr.specs.Opcodes.{arity_of, has_result, width_of_arg, width_of_result}
use Rattle.mage_directives.specs.Directives.{LinksTo}
use Rattle.mage_network.specs.Slots.{Acts}
use Rattle.mage_network.specs.Reading.{hears_in}
use Rattle.mage_driver.specs.Rules.{Rules}
use Rattle.mage_driver.specs.Calls.{NoneIsDue}
use Rattle.mage_bank.specs.Jobs.{Fits}
use Rattle.mage_link.specs.Links.{LinkTold, after_send, after_receive}
use Rattle.mage_steps.specs.Frames.{spot_of_wire, wire_at, with_wires, sent_form, received_form}
use Rattle.mage_steps.specs.Engines.{Engine, advanced, no_spot, act_of_op, doing_of}
use Rattle.mage_verify.specs.Leaving.{is_left}
use Rattle.mage_engine.specs.declared.turn.Kind.{Kind}
use Rattle.mage_engine.specs.declared.turn.Kind.TheVariants as kind
use Rattle.mage_engine.specs.Seen.{Seen, engine_with, worker_with, HoldSame}
use Rattle.mage_engine.specs.Ready.{IsAt, IsReady, Stands, wires_of, wires_of_op}
use Rattle.mage_engine.specs.Steps.{IsMove, OverLink, AtLink, Happens, AtPort, Asks, kind_of, kind_of_op, place_after, wire_after, standing_after, calls_of}
use Rattle.mage_engine.proofs.Advancing.{ready, running, meets, is_directive, wire_within, next_ready, wire_ready, stands_of}
use Rattle.mage_engine.proofs.Using.{first_same, written_same, other_before}
use Rattle.mage_engine.proofs.Moving.{EventAt, event_so, passed_so}

past_so : {S : Type 0} (b : Bool) (engine : Engine S) →
    record engine { place = cond b (suc engine.place) engine.place; wire = cond b 0 (suc engine.wire) } ≡
    cond b (advanced engine) (record engine { wire = suc engine.wire })
past_so true engine = refl
past_so false engine = refl

module _ {W : Type 0} (rules : Rules W) (wb : ℕ) (finished : Bool) (old : Seen rules.State) (job : Job) (at : IsAt old (entry.Do job))
    (stands : Stands wb finished old.fault old) where
  module _ (many : wires_of (Some (entry.Do job)) ≡ job.width) where
    pub less : old.wire < job.width
    less = subst (λ n. old.wire < n) many (wire_within wb finished old (entry.Do job) at stands)

    -- the machine behind the wire, which is the last one of its value or not
    abbrev pub After : (b : Bool) (bank : ℕ → List ℕ) → Seen rules.State
    After b bank = record old { place = cond b (suc old.place) old.place; wire = cond b 0 (suc old.wire); bank = bank }

    abbrev pub is_last : Bool
    is_last = suc old.wire == job.width

    pub after_is : (place wire : ℕ) (bank : ℕ → List ℕ) → place ≡ cond (old.wire + 1 == job.width) (old.place + 1) old.place →
        wire ≡ cond (old.wire + 1 == job.width) 0 (old.wire + 1) → record old { place = place; wire = wire; bank = bank } ≡ After is_last bank
    after_is place wire bank ep ew =
        let p : old.place + 1 ≡ suc old.place = omega arith in
        let w : old.wire + 1 ≡ suc old.wire = omega arith in
        ap₂ (λ (x y : ℕ). record old { place = x; wire = y; bank = bank })
        (ep ∙ ap₂ (λ (m n : ℕ). cond (n == job.width) m old.place) p w) (ew ∙ ap (λ (n : ℕ). cond (n == job.width) 0 n) w)

    ready_after : (b : Bool) (bank : ℕ → List ℕ) → is_last ≡ b → IsReady wb finished (After b bank)
    ready_after true bank e =
        let r = ready wb finished old (entry.Do job) at stands in
        next_ready wb finished old (entry.Do job) at stands old.driver old.port bank (running wb finished old (entry.Do job) at stands) refl refl refl r.slots r.held
    ready_after false bank e =
        let l = less in
        let apart : suc old.wire ≡ job.width → ⊥ = eqb-false (suc old.wire) job.width e in
        let more : suc old.wire < job.width = omega (arith, l, apart) in
        wire_ready wb finished old (entry.Do job) at stands (suc old.wire) bank (subst (λ n. suc old.wire < n) (sym many) more)

    pub stands_wire : (new : Seen rules.State) (bank : ℕ → List ℕ) → new ≡ After is_last bank → Stands wb finished old.fault new
    stands_wire new bank is =
        subst (λ (n : Seen rules.State). Stands wb finished old.fault n) (sym is)
        (stands_of wb finished old.fault (After is_last bank) at.sound (ready_after is_last bank refl))

    holds_after : (b : Bool) (bank filled : ℕ → List ℕ) →
        ((f : ℕ) → is_left f (drop old.place old.part.directives) ≡ false → filled f ≡ bank f) → HoldSame (After b bank) filled
    holds_after true bank filled h = λ f left. h f (other_before rules old job at f left)
    holds_after false bank filled h = h

    moved_wire : (new : Seen rules.State) (bank : ℕ → List ℕ) (moved : Kind) → new ≡ After is_last bank → moved ≡ kind_of (Some (entry.Do job)) →
        (before after : LinkTold) → AtLink (Some (entry.Do job)) old.part.worker before after → (IsTrue old.driver.told → EventAt rules old (entry.Do job) at (After is_last bank) before after) →
        NoneIsDue rules (calls_of rules (doing_of rules old.part.limits.page (entry.Do job) (engine_with old old.bank))) →
        IsMove rules old new before after moved
    moved_wire new bank moved is of before after linked event passed =
        subst (λ (n : Seen rules.State). IsMove rules old n before after moved) (sym is) (record {
          of_kind = of ∙ ap kind_of (sym at.here);
          port = subst (λ (o : Option Directive). AtPort o old.bank bank old.port old.port) (sym at.here) refl;
          asks = subst (λ (o : Option Directive). Asks o old.port) (sym at.here) tt;
          link = subst (λ (o : Option Directive). AtLink o old.part.worker before after) (sym at.here) linked;
          driver = ap (λ s. record old.driver { state = old.driver.state; standing = s }) (running wb finished old (entry.Do job) at stands)
              ∙ ap (λ (o : Option Directive). record old.driver { state = old.driver.state; standing = standing_after o }) (sym at.here);
          rest = ap (λ (n : ℕ). record old {
            place = cond (suc old.wire == n) (suc old.place) old.place;
            wire = cond (suc old.wire == n) 0 (suc old.wire);
            bank = bank;
          }) (sym many)
              ∙ ap (λ (o : Option Directive). record old { place = place_after o old.wire old.place; wire = wire_after o old.wire; bank = bank }) (sym at.here);
          event = λ told. event_so rules old (entry.Do job) at (After is_last bank) before after (event told);
          passed = λ told. passed_so rules old (entry.Do job) at passed;
        })

  -- ---- a wire is sent

  module _ (sends : job.op ≡ op.Send) where
    pub many_sent : wires_of (Some (entry.Do job)) ≡ job.width
    many_sent = ap (λ (o : Op). wires_of_op o job.width) sends

    pub few_targets : job.imm < 16
    few_targets = (subst (λ (o : Op). LinksTo 16 old.part.worker o job.imm) sends (is_directive wb finished old (entry.Do job) at stands).link).0

    pub sent_fits : Fits old.part.limits.frames old.part.limits.page (old.wire + 1) (slice_index_or job.args 0 no_spot)
    sent_fits =
        let one : 0 < arity_of job.op = subst (λ (o : Op). 0 < arity_of o) (sym sends) (omega arith) in
        let fits = (meets wb finished old (entry.Do job) at stands).args 0 one in
        let within : (slice_index_or job.args 0 no_spot).offset + job.width ≤ old.part.limits.page =
        subst (λ (o : Op). (slice_index_or job.args 0 no_spot).offset + width_of_arg o job.width job.imm 0 ≤ old.part.limits.page) sends fits.1 in
        let l = less many_sent in
        (fits.0, omega (arith, within, l))

    pub pushed : (new : Seen rules.State) → new ≡ After many_sent (is_last many_sent) old.bank → (before after : LinkTold) →
        after ≡ after_send before old.part.worker job.imm (sent_form rules (wire_at rules old.bank (spot_of_wire (slice_index_or job.args 0 no_spot) old.wire))) →
        IsMove rules old new before after kind.Push
    pushed new is before after sent =
        moved_wire many_sent new old.bank kind.Push is (ap (λ (o : Op). kind_of_op o) (sym sends)) before after
        (subst (λ (o : Op). OverLink o job.imm old.part.worker before after) (sym sends) (_, sent)) event
        (subst (λ (o : Op). NoneIsDue rules (calls_of rules (Acts (act_of_op rules o job (engine_with old old.bank))))) (sym sends) tt)
      where
        has : nat_lt 0 (arity_of job.op) ≡ true
        has = ap (λ (o : Op). nat_lt 0 (arity_of o)) sends

        event : IsTrue old.driver.told → EventAt rules old (entry.Do job) at (After many_sent (is_last many_sent) old.bank) before after
        event told bank same = (
          bank,
          holds_after many_sent (is_last many_sent) old.bank bank same,
          subst (λ (o : Op). Happens (hears_in (Acts (act_of_op rules o job (engine_with old bank))) (worker_with old bank)) old.part.worker
              (record { finished = old.port.finished; link = before }) (record { finished = old.port.finished; link = after })
              (worker_with (After many_sent (is_last many_sent) old.bank) bank)) (sym sends) (
                ap (λ (e : Engine rules.State). record (worker_with old bank) { engine = e }) (past_so (is_last many_sent) (engine_with old bank)),
                sent ∙ ap (λ (bytes : List ℕ). after_send before old.part.worker job.imm (sent_form rules
                    (rules.unpack (take rules.wire_bytes (drop (((slice_index_or job.args 0 no_spot).offset + old.wire) * rules.wire_bytes) bytes)))))
                    (sym (first_same rules old job at bank same has)),
                refl,
              ),
        )

  -- ---- a wire is received

  module _ (receives : job.op ≡ op.Recv) where
    pub many_received : wires_of (Some (entry.Do job)) ≡ job.width
    many_received = ap (λ (o : Op). wires_of_op o job.width) receives

    pub few_sources : job.imm < 16
    few_sources = (subst (λ (o : Op). LinksTo 16 old.part.worker o job.imm) receives (is_directive wb finished old (entry.Do job) at stands).link).0

    has_out : has_result job.op ≡ true
    has_out = ap has_result receives

    pub received_fits : Fits old.part.limits.frames old.part.limits.page (old.wire + 1) job.out
    received_fits =
        let fits = (meets wb finished old (entry.Do job) at stands).result has_out in
        let within : job.out.offset + job.width ≤ old.part.limits.page =
        subst (λ (o : Op). job.out.offset + width_of_result o job.width ≤ old.part.limits.page) receives fits.1 in
        let l = less many_received in
        (fits.0, omega (arith, within, l))

    -- the frames with the wire that came
    abbrev pub with_wire : (bank : ℕ → List ℕ) → (bytes : List ℕ) → ℕ → List ℕ
    with_wire bank bytes = with_wires rules bank (spot_of_wire job.out old.wire) (received_form rules bytes ∷ [])

    pub popped : (new : Seen rules.State) (bytes : List ℕ) → new ≡ After many_received (is_last many_received) (with_wire old.bank bytes) →
        (before after : LinkTold) → after ≡ after_receive before old.part.worker job.imm bytes →
        IsMove rules old new before after kind.Pop
    popped new bytes is before after came =
        moved_wire many_received new (with_wire old.bank bytes) kind.Pop is (ap (λ (o : Op). kind_of_op o) (sym receives)) before after
        (subst (λ (o : Op). OverLink o job.imm old.part.worker before after) (sym receives) (bytes, came)) event
        (subst (λ (o : Op). NoneIsDue rules (calls_of rules (Acts (act_of_op rules o job (engine_with old old.bank))))) (sym receives) tt)
      where
        event : IsTrue old.driver.told → EventAt rules old (entry.Do job) at (After many_received (is_last many_received) (with_wire old.bank bytes)) before after
        event told bank same = (
          with_wire bank bytes,
          holds_after many_received (is_last many_received) (with_wire old.bank bytes) (with_wire bank bytes)
              (λ f left. written_same rules old job at bank same ((job.out.offset + old.wire) * rules.wire_bytes) (flat_map rules.pack (received_form rules bytes ∷ [])) f has_out (same f left)),
          subst (λ (o : Op). Happens (hears_in (Acts (act_of_op rules o job (engine_with old bank))) (worker_with old bank)) old.part.worker
              (record { finished = old.port.finished; link = before }) (record { finished = old.port.finished; link = after })
              (worker_with (After many_received (is_last many_received) (with_wire old.bank bytes)) (with_wire bank bytes))) (sym receives) (
                bytes,
                ap (λ (e : Engine rules.State). record (worker_with old bank) { engine = e })
                    (past_so (is_last many_received) (record (engine_with old bank) { bank = with_wire bank bytes })),
                came,
                refl,
              ),
        )
