-- One wire of a Send or Recv.
use Rattle.std.proofs.Common.{◌≡◌, ◌≢◌, ◌≤◌, ◌<◌, ◌+◌, ◌==◌, ℕ, Bool, true, false, cond, List, [], ◌∷◌, length, Option, Result, Ok, Err, nat_lt, refl, sym, ap, ◌∙◌, subst, arith}
use Rattle.std.specs.Prelude.{IfSome, IsErr, Vec, slice_index_or}
use Rattle.std.specs.Global.{Global}
use Rattle.std.proofs.lemmas.Bool.{eqb-false, lt-ltb, le-ltb}
use Rattle.mage_instr.specs.declared.directive.Directive.{Directive}
use Rattle.mage_instr.specs.declared.directive.Directive.TheVariants as entry
use Rattle.mage_instr.specs.declared.op.Op.{Op}
use Rattle.mage_instr.specs.declared.op.Op.TheVariants as op
use Rattle.mage_instr.specs.declared.replaced.Job.{Job}
use Rattle.mage_instr.specs.Opcodes.{arity_of, has_result, width_of_arg, width_of_result}
use Rattle.mage_bank.specs.Bank.{contents, bank_of, lengths_of}
use Rattle.mage_bank.specs.Jobs.{Fits}
use Rattle.mage_directives.specs.Directives.{IsDirective, LinksTo}
use Rattle.mage_driver.specs.Rules.{Rules}
use Rattle.mage_driver.specs.Calls.{Told}
use Rattle.mage_link.specs.Queues.{LinkState, QueueState, HasPlace, Appends, unused_link, link_at, lies_in, link_with, link_without, queues_with, queues_without}
use Rattle.mage_link.proofs.PlaceLemmas.{places_with}
use Rattle.mage_network.specs.Network.{put_link, appended}
use Rattle.mage_steps.specs.Frames.{spot_of_wire, with_wires, received_form}
use Rattle.mage_steps.specs.Engines.{Engine, no_spot, past_wire}
use Rattle.mage_verify.specs.Parts.{WorkerPart}
use Rattle.mage_world.specs.declared.worker.Worker.{Worker}
use Rattle.mage_world.specs.Seats.{Seat, state_of, seat_of, IsLinked, Stands, IsAt}
use Rattle.mage_world.specs.Turns.{Wires, Did}
use Rattle.mage_world.proofs.Computing.{wire_sent, past_is, sent, taken}
use Rattle.mage_world.proofs.Standing.{running, behind, one_wire, meets, is_directive, wire_is}

-- ---- links

pub queue_sent : (queues new : QueueState) (me to : ℕ) (wire : List ℕ) → HasPlace queues.links me to → new ≡ queues_with queues me to wire →
    lies_in new ≡ put_link (lies_in queues) me to (appended (lies_in queues me to) wire)
queue_sent queues new me to wire has is =
    ap lies_in is ∙ places_with (λ (l : LinkState). l.lying) unused_link queues.links me to (link_with (link_at queues me to) wire) has.within has.inside

pub queue_taken : (queues new : QueueState) (from me : ℕ) (wire : List ℕ) (left : List (List ℕ)) → HasPlace queues.links from me →
    new ≡ queues_without queues from me wire left → lies_in new ≡ put_link (lies_in queues) from me left
queue_taken queues new from me wire left has is =
    ap lies_in is ∙ places_with (λ (l : LinkState). l.lying) unused_link queues.links from me (link_without (link_at queues from me) wire left) has.within has.inside

-- a wire that was sent where there was room
pub sent_when : {T E : Type 0} (before after : QueueState) (me to : ℕ) (wire : List ℕ) (r : Result T E) → Appends before after me to wire r →
    (IsErr r → length (lies_in before me to) ≡ before.capacity) → length (lies_in before me to) ≢ before.capacity → after ≡ queues_with before me to wire
sent_when before after me to wire (Ok x) appends full room = appends
sent_when before after me to wire (Err e) appends full room = absurd (room (full refl))

pub has_room : (n capacity : ℕ) → n ≤ capacity → n ≢ capacity → nat_lt n capacity ≡ true
has_room n capacity within apart = lt-ltb n capacity (omega (arith, within, apart))

pub is_full : (n : ℕ) → nat_lt n n ≡ false
is_full n = le-ltb n n (omega arith)

module _ {W : Type 0} (rules : Rules W) (part : WorkerPart) (driver : Told rules.State) (worker : Worker)
    (stands : Stands rules part driver worker) (job : Job) (at : IsAt part worker (entry.Do job)) where
  abbrev Sits : Worker → Seat rules.State
  Sits w = seat_of rules part.limits.page driver (state_of w)

  abbrev old : Seat rules.State
  old = Sits worker

  pub less : worker.wire < job.width
  less = wire_is rules part driver worker stands (entry.Do job) at

  module _ (workers : ℕ) (linked : IsLinked workers part) where
    link_is : LinksTo workers part.worker job.op job.imm
    link_is = (subst (λ (o : Option Directive). IfSome o (IsDirective workers part.worker)) at.here (linked.each worker.place)).link

    pub send_target : job.op ≡ op.Send → (job.imm < workers) × (job.imm ≢ part.worker)
    send_target sends = subst (λ (o : Op). LinksTo workers part.worker o job.imm) sends link_is

    pub take_source : job.op ≡ op.Recv → (job.imm < workers) × (job.imm ≢ part.worker)
    take_source takes = subst (λ (o : Op). LinksTo workers part.worker o job.imm) takes link_is

  pub few_targets : job.op ≡ op.Send → job.imm < 16
  few_targets sends = (subst (λ (o : Op). LinksTo 16 part.worker o job.imm) sends (is_directive rules part driver worker stands (entry.Do job) at).link).0

  pub few_sources : job.op ≡ op.Recv → job.imm < 16
  few_sources takes = (subst (λ (o : Op). LinksTo 16 part.worker o job.imm) takes (is_directive rules part driver worker stands (entry.Do job) at).link).0

  pub sent_fits : job.op ≡ op.Send → Fits part.limits.frames part.limits.page (worker.wire + 1) (slice_index_or job.args 0 no_spot)
  sent_fits sends =
      let one : 0 < arity_of job.op = subst (λ (o : Op). 0 < arity_of o) (sym sends) (omega arith) in
      let fits = (meets rules part driver worker stands (entry.Do job) at).args 0 one in
      let within : (slice_index_or job.args 0 no_spot).offset + job.width ≤ part.limits.page =
      subst (λ (o : Op). (slice_index_or job.args 0 no_spot).offset + width_of_arg o job.width job.imm 0 ≤ part.limits.page) sends fits.1 in
      let l = less in
      (fits.0, omega (arith, within, l))

  pub received_fits : job.op ≡ op.Recv → Fits part.limits.frames part.limits.page (worker.wire + 1) job.out
  received_fits takes =
      let fits = (meets rules part driver worker stands (entry.Do job) at).result (ap has_result takes) in
      let within : job.out.offset + job.width ≤ part.limits.page =
      subst (λ (o : Op). job.out.offset + width_of_result o job.width ≤ part.limits.page) takes fits.1 in
      let l = less in
      (fits.0, omega (arith, within, l))

  -- the worker after one wire more
  module _ (frames : Vec (Vec ℕ Global) Global) (lengths : lengths_of (contents frames.items) ≡ lengths_of (contents worker.frames.items)) where
    stands_at : (b : Bool) → (worker.wire + 1 == job.width) ≡ b →
        Stands rules part driver (record worker { place = cond b (worker.place + 1) worker.place; wire = cond b 0 (worker.wire + 1); frames = frames })
    stands_at true e = behind rules part driver worker stands (entry.Do job) at driver (running rules part driver worker stands (entry.Do job) at) frames worker.slots lengths refl
        stands.worker_is.long stands.worker_is.named
    stands_at false e =
        let l = less in
        let apart : worker.wire + 1 ≡ job.width → ⊥ = eqb-false (worker.wire + 1) job.width e in
        let more : worker.wire + 1 < job.width = omega (arith, l, apart) in
        one_wire rules part driver worker stands (entry.Do job) at (worker.wire + 1) frames more lengths

    pub past_stands : (place wire : ℕ) → place ≡ cond (worker.wire + 1 == job.width) (worker.place + 1) worker.place →
        wire ≡ cond (worker.wire + 1 == job.width) 0 (worker.wire + 1) → Stands rules part driver (record worker { place = place; wire = wire; frames = frames })
    past_stands place wire placed wired =
        subst (λ (p : ℕ). Stands rules part driver (record worker { place = p; wire = wire; frames = frames })) (sym placed)
        (subst (λ (w : ℕ). Stands rules part driver (record worker { place = cond (worker.wire + 1 == job.width) (worker.place + 1) worker.place; wire = w; frames = frames })) (sym wired)
        (stands_at (worker.wire + 1 == job.width) refl))

  module _ (place wire : ℕ) (placed : place ≡ cond (worker.wire + 1 == job.width) (worker.place + 1) worker.place)
      (wired : wire ≡ cond (worker.wire + 1 == job.width) 0 (worker.wire + 1)) (capacity : ℕ) (before after : Wires) where
    pub sent_turns : job.op ≡ op.Send → nat_lt (length (before part.worker job.imm)) capacity ≡ true →
        after ≡ put_link before part.worker job.imm (appended (before part.worker job.imm) (wire_sent rules part capacity old job at.here)) →
        Did rules part capacity old (Sits (record worker { place = place; wire = wire })) before after
    sent_turns sends room links =
        sent rules part capacity old job at.here (Sits (record worker { place = place; wire = wire })) refl refl before after sends
        (past_is rules part capacity old job at.here place wire old.core.engine.bank placed wired) room links

    pub taken_turns : job.op ≡ op.Recv → (bytes : List ℕ) (rest : List (List ℕ)) → before job.imm part.worker ≡ bytes ∷ rest →
        (frames : Vec (Vec ℕ Global) Global) →
        bank_of (contents frames.items) ≡ with_wires rules (bank_of (contents worker.frames.items)) (spot_of_wire job.out worker.wire) (received_form rules bytes ∷ []) →
        after ≡ put_link before job.imm part.worker rest →
        Did rules part capacity old (Sits (record worker { place = place; wire = wire; frames = frames })) before after
    taken_turns takes bytes rest first frames filled links =
        taken rules part capacity old job at.here (Sits (record worker { place = place; wire = wire; frames = frames })) refl refl before after takes bytes rest first
        (past_is rules part capacity old job at.here place wire (bank_of (contents frames.items)) placed wired
        ∙ ap (λ (b : ℕ → List ℕ). record old.core { engine = cond_past b }) filled) links
      where
        cond_past : (ℕ → List ℕ) → Engine rules.State
        cond_past b = past_wire job.width (record old.core.engine { bank = b })
