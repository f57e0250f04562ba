-- How many wires lie on each link of queues, by what the queues tell.
use Rattle.std.proofs.Common.{◌≡◌, ◌+◌, ◌∙◌, ℕ, suc, Bool, true, false, cond, ◌&&◌, List, [], ◌∷◌, length, length-append, Option, Some, None, refl, sym, ap, subst, nat_eq, ◌⊎◌, inl, inr, arith}
use Rattle.std.proofs.lemmas.Bool.{eqb-true}
use Rattle.mage_instr.specs.declared.directive.Directive.{Directive}
use Rattle.mage_instr.specs.declared.directive.Directive.TheVariants as entry
use Rattle.mage_instr.specs.declared.op.Op.{Op}
use Rattle.mage_instr.specs.declared.op.Op.TheVariants as op
use Rattle.mage_network.specs.Network.{put_link, appended}
use Rattle.mage_network.proofs.Places.{put_link_here, put_link_source, put_link_target}
use Rattle.mage_link.specs.Links.{LinkTold, after_send, after_receive, after_wait, IsFull, IsDrained}
use Rattle.mage_link.specs.Queues.{QueueState, queue_told, received_from, lies_in}
use Rattle.mage_engine.specs.Ready.{sent_by, target_at, received_by, source_at}
use Rattle.mage_engine.specs.Steps.{OverLink, AtLink}
use Rattle.mage_progress.specs.Stands.{with_held, AreSame, HandsOver, AtLinks, WaitsAt, Waits}
use Rattle.mage_progress.specs.Machines.{lying}

-- how many wires were sent and received on a link
abbrev sent_on : LinkTold → (s t : ℕ) → ℕ
sent_on told s t = length (told.sent s t)

abbrev received_on : LinkTold → (s t : ℕ) → ℕ
received_on told s t = length (told.received s t)

module _ (before after : QueueState) where
  abbrev old : LinkTold
  old = queue_told before

  abbrev new : LinkTold
  new = queue_told after

  all_of : (queues : QueueState) (s t : ℕ) → sent_on (queue_told queues) s t ≡ received_on (queue_told queues) s t + lying queues s t
  all_of queues s t = length-append (received_from queues s t) (lies_in queues s t)

  pub same_told : (sent : (s t : ℕ) → sent_on new s t ≡ sent_on old s t) → ((s t : ℕ) → received_on new s t ≡ received_on old s t) →
      AreSame (lying before) (lying after)
  same_told sent received s t =
      let a = all_of before s t in
      let b = all_of after s t in
      let c = sent s t in
      let d = received s t in omega (arith, a, b, c, d)

  pub stays : (new ≡ old) ⊎ (new ≡ after_wait old) → AreSame (lying before) (lying after)
  stays (inl e) = same_told (λ s t. ap (λ (l : LinkTold). sent_on l s t) e) (λ s t. ap (λ (l : LinkTold). received_on l s t) e)
  stays (inr e) = same_told (λ s t. ap (λ (l : LinkTold). sent_on l s t) e) (λ s t. ap (λ (l : LinkTold). received_on l s t) e)

  -- ---- a wire is sent

  module _ (me to : ℕ) (wire : List ℕ) (e : new ≡ after_send old me to wire) where
    abbrev longer : List (List ℕ)
    longer = appended (old.sent me to) wire

    sent_so : (s t : ℕ) → sent_on new s t ≡ length (put_link old.sent me to longer s t)
    sent_so s t = ap (λ (l : LinkTold). sent_on l s t) e

    received_so : (s t : ℕ) → received_on new s t ≡ received_on old s t
    received_so s t = ap (λ (l : LinkTold). received_on l s t) e

    one_more : lying after me to ≡ suc (lying before me to)
    one_more =
        let a = all_of before me to in
        let b = all_of after me to in
        let c : sent_on new me to ≡ length longer = sent_so me to ∙ ap (λ (l : List (List ℕ)). length l) (put_link_here old.sent me to longer) in
        let d = length-append (old.sent me to) (wire ∷ []) in
        let f = received_so me to in omega (arith, a, b, c, d, f)

    unsent : (s t : ℕ) → put_link old.sent me to longer s t ≡ old.sent s t → lying after s t ≡ lying before s t
    unsent s t same =
        let a = all_of before s t in
        let b = all_of after s t in
        let c : sent_on new s t ≡ sent_on old s t = sent_so s t ∙ ap (λ (l : List (List ℕ)). length l) same in
        let f = received_so s t in omega (arith, a, b, c, f)

    pub lies_more : AreSame (with_held (lying before) me to (suc (lying before me to))) (lying after)
    lies_more s t = go (nat_eq me s) (nat_eq to t) refl refl
      where
        go : (x y : Bool) → nat_eq me s ≡ x → nat_eq to t ≡ y → lying after s t ≡ cond (x && y) (suc (lying before me to)) (lying before s t)
        go true true f g =
            subst (λ (i : ℕ). lying after i t ≡ suc (lying before me to)) (eqb-true me s f)
            (subst (λ (i : ℕ). lying after me i ≡ suc (lying before me to)) (eqb-true to t g) one_more)
        go true false f g = unsent s t (put_link_target old.sent me to longer s t g)
        go false y f g = unsent s t (put_link_source old.sent me to longer s t f)

  -- ---- a wire is received

  module _ (me from : ℕ) (wire : List ℕ) (e : new ≡ after_receive old me from wire) where
    abbrev more : List (List ℕ)
    more = appended (old.received from me) wire

    taken_so : (s t : ℕ) → received_on new s t ≡ length (put_link old.received from me more s t)
    taken_so s t = ap (λ (l : LinkTold). received_on l s t) e

    still_sent : (s t : ℕ) → sent_on new s t ≡ sent_on old s t
    still_sent s t = ap (λ (l : LinkTold). sent_on l s t) e

    one_less : lying before from me ≡ suc (lying after from me)
    one_less =
        let a = all_of before from me in
        let b = all_of after from me in
        let c : received_on new from me ≡ length more = taken_so from me ∙ ap (λ (l : List (List ℕ)). length l) (put_link_here old.received from me more) in
        let d = length-append (old.received from me) (wire ∷ []) in
        let f = still_sent from me in omega (arith, a, b, c, d, f)

    untaken : (s t : ℕ) → put_link old.received from me more s t ≡ old.received s t → lying after s t ≡ lying before s t
    untaken s t same =
        let a = all_of before s t in
        let b = all_of after s t in
        let c : received_on new s t ≡ received_on old s t = taken_so s t ∙ ap (λ (l : List (List ℕ)). length l) same in
        let f = still_sent s t in omega (arith, a, b, c, f)

    pub lies_less : AreSame (with_held (lying before) from me (lying after from me)) (lying after)
    lies_less s t = go (nat_eq from s) (nat_eq me t) refl refl
      where
        go : (x y : Bool) → nat_eq from s ≡ x → nat_eq me t ≡ y → lying after s t ≡ cond (x && y) (lying after from me) (lying before s t)
        go true true f g = ap (λ (i : ℕ). lying after i t) (sym (eqb-true from s f)) ∙ ap (lying after from) (sym (eqb-true me t g))
        go true false f g = untaken s t (put_link_target old.received from me more s t g)
        go false y f g = untaken s t (put_link_source old.received from me more s t f)

    pub takes_one : HandsOver op.Recv from me (lying before) (lying after)
    takes_one = (lying after from me, one_less, lies_less)

  -- ---- a step at a directive

  pub over_links : (o : Op) (imm worker : ℕ) → OverLink o imm worker old new → HandsOver o imm worker (lying before) (lying after)
  over_links op.Send imm worker h = lies_more worker imm h.0 h.1
  over_links op.Recv imm worker h = takes_one worker imm h.0 h.1
  over_links _ imm worker h = stays (inl h)

  pub at_links : (o : Option Directive) (worker : ℕ) → AtLink o worker old new → AtLinks o worker (lying before) (lying after)
  at_links None worker h = stays (inl h)
  at_links (Some (entry.Fresh frame page)) worker h = stays (inl h)
  at_links (Some (entry.IssueIn slot page)) worker h = stays (inl h)
  at_links (Some (entry.FinishIn slot frame)) worker h = stays (inl h)
  at_links (Some (entry.IssueOut slot frame page)) worker h = stays (inl h)
  at_links (Some (entry.FinishOut slot)) worker h = stays (inl h)
  at_links (Some (entry.Do job)) worker h = over_links job.op job.imm worker h

-- ---- waiting

module _ (queues : QueueState) (worker : ℕ) where
  full_at : (o : Op) (imm to : ℕ) → sent_by o imm ≡ Some to → IsFull (queue_told queues) worker to →
      WaitsAt o imm queues.capacity worker (lying queues)
  full_at op.Send imm to e full =
      let same : Some imm ≡ Some to = e in
      let there : imm ≡ to = cc in
      let all = length-append (received_from queues worker imm) (lies_in queues worker imm) in
      let room = subst (λ (i : ℕ). length ((queue_told queues).sent worker i) ≡ length ((queue_told queues).received worker i) + queues.capacity) (sym there) full in
      omega (arith, all, room)
  full_at _ imm to e full = absurd cc

  pub full_waits : (o : Option Directive) (to : ℕ) → target_at o ≡ Some to → IsFull (queue_told queues) worker to →
      Waits o queues.capacity worker (lying queues)
  full_waits None to e full = absurd cc
  full_waits (Some (entry.Do job)) to e full = full_at job.op job.imm to e full
  full_waits (Some (entry.Fresh frame page)) to e full = absurd cc
  full_waits (Some (entry.IssueIn slot page)) to e full = absurd cc
  full_waits (Some (entry.FinishIn slot frame)) to e full = absurd cc
  full_waits (Some (entry.IssueOut slot frame page)) to e full = absurd cc
  full_waits (Some (entry.FinishOut slot)) to e full = absurd cc

  empty_at : (o : Op) (imm from : ℕ) → received_by o imm ≡ Some from → IsDrained (queue_told queues) from worker →
      WaitsAt o imm queues.capacity worker (lying queues)
  empty_at op.Recv imm from e drained =
      let same : Some imm ≡ Some from = e in
      let there : imm ≡ from = cc in
      let all = length-append (received_from queues imm worker) (lies_in queues imm worker) in
      let none = ap (λ (l : List (List ℕ)). length l)
      (subst (λ (i : ℕ). (queue_told queues).sent i worker ≡ (queue_told queues).received i worker) (sym there) drained) in
      omega (arith, all, none)
  empty_at _ imm from e drained = absurd cc

  pub empty_waits : (o : Option Directive) (from : ℕ) → source_at o ≡ Some from → IsDrained (queue_told queues) from worker →
      Waits o queues.capacity worker (lying queues)
  empty_waits None from e drained = absurd cc
  empty_waits (Some (entry.Do job)) from e drained = empty_at job.op job.imm from e drained
  empty_waits (Some (entry.Fresh frame page)) from e drained = absurd cc
  empty_waits (Some (entry.IssueIn slot page)) from e drained = absurd cc
  empty_waits (Some (entry.FinishIn slot frame)) from e drained = absurd cc
  empty_waits (Some (entry.IssueOut slot frame page)) from e drained = absurd cc
  empty_waits (Some (entry.FinishOut slot)) from e drained = absurd cc
