-- Own runs and the pasts that lead to them.
use Rattle.std.proofs.Common.{◌≡◌, ℕ, zero, suc, Bool, true, false, cond, eqb, List, [], ◌∷◌, ◌++◌, Option, None, Some, refl, sym, ap, ◌∙◌, subst, length, slice_get}
use Rattle.mage_network.specs.Workers.{Act, Moves, Sends, Takes, Stops, Deed, Moved, Sent, Took, Worker, taken_from, fresh, taking, goes_alone, alone, own_run}
use Rattle.mage_network.specs.Pasts.{Allows, Leads, WentAlone, IsBefore, IsPrefix}
use Rattle.mage_network.proofs.Prefixes.{prefix_same, prefix_then, slice_get-next}
use Rattle.mage_network.proofs.Orders.{before_same, before_begins, taken_from-took}

-- a turn alone, of a worker that has this act
goes_leads : {S L W : Type 0} (next : S → Act S L W) (start : S) (received : ℕ → List W)
    (worker : Worker S L W) (act : Act S L W) → next worker.state ≡ act →
    WentAlone next start worker → WentAlone next start (goes_alone received act worker)
goes_leads next start received worker (Moves said after) e h =
    (worker.state, h, subst (λ a. Allows a (Moved said) after) (sym e) (refl, refl))
goes_leads next start received worker (Sends target wire after) e h =
    (worker.state, h, subst (λ a. Allows a (Sent target wire) after) (sym e) (refl, refl, refl))
goes_leads {S} {L} {W} next start received worker (Takes source after) e h =
    go (slice_get (received source) (length (taken_from source worker.past)))
  where
    go : (wire : Option W) → WentAlone next start (taking worker source after wire)
    go None = h
    go (Some wire) = (
      worker.state,
      h,
      subst (λ a. Allows a (Took source wire) (after wire)) (sym e)
          (refl, refl),
    )
goes_leads next start received worker Stops e h = h

pub own_run_leads : {S L W : Type 0} (next : S → Act S L W) (start : S) (received : ℕ → List W)
    (turns : ℕ) → WentAlone next start (own_run next start received turns)
own_run_leads next start received zero = refl
own_run_leads next start received (suc turns) =
    let before = own_run next start received turns in
    goes_leads next start received before (next before.state) refl
    (own_run_leads next start received turns)

-- a turn alone that has this deed
goes_so : {S L W : Type 0} (received : ℕ → List W) (act : Act S L W) (deed : Deed L W)
    (before state : S) (past : List (Deed L W)) →
    ((m : ℕ) → IsPrefix (taken_from m (deed ∷ past)) (received m)) → Allows act deed state →
    goes_alone received act (record { state = before; past = past }) ≡ record
    { state = state; past = deed ∷ past }
goes_so received (Moves said after) (Moved x) before state past r h =
    ap (λ y. record { state = after; past = Moved y ∷ past }) h.0 ∙ ap
    (λ y. record { state = y; past = Moved x ∷ past }) h.1
goes_so received (Sends target wire after) (Sent w x) before state past r h =
    ap (λ y. record { state = after; past = Sent y wire ∷ past })
    h.0 ∙ (ap (λ y. record { state = after; past = Sent w y ∷ past }) h.1 ∙ ap
    (λ y. record { state = y; past = Sent w x ∷ past }) h.2)
goes_so {S} {L} {W} received (Takes source after) (Took w x) before state past r h =
    let p = subst (λ l. IsPrefix l (received w)) (taken_from-took w x past) (r w) in
    let worker : Worker S L W = record { state = before; past = past } in
    let next : slice_get (received source) (length (taken_from source past)) ≡ Some x =
    subst (λ m. slice_get (received m) (length (taken_from m past)) ≡ Some x) (sym h.0)
    (slice_get-next (taken_from w past) x (received w) p) in
    ap (λ o. taking worker source after o) next
    ∙ (ap (λ y. record { state = after x; past = Took y x ∷ past }) h.0 ∙ ap
    (λ y. record { state = y; past = Took w x ∷ past }) h.1)
goes_so received _ _ before state past r h = absurd h

pub own_run_is : {S L W : Type 0} (next : S → Act S L W) (start : S) (received : ℕ → List W)
    (past : List (Deed L W)) (state : S) →
    ((m : ℕ) → IsPrefix (taken_from m past) (received m)) → Leads next start past state →
    own_run next start received (length past) ≡ record { state = state; past = past }
own_run_is next start received [] state r h = ap (λ s. fresh s) h
own_run_is next start received (deed ∷ past) state r h =
    let earlier = λ (m : ℕ). prefix_then (taken_from m past) (taken_from m (deed ∷ past))
    (received m) ((before_begins past (deed ∷ past) (inr_same deed past)).taken m) (r m) in
    ap (λ w. alone next received w) (own_run_is next start received past h.0 earlier h.1) ∙ goes_so
    received (next h.0) deed h.0 state past r h.2
  where
    inr_same : {L W : Type 0} (deed : Deed L W) (past : List (Deed L W)) →
        IsBefore past (deed ∷ past)
    inr_same deed past = Rattle.std.proofs.Common.inr (before_same past)

pub own_run_computes : {S L W : Type 0} (next : S → Act S L W) (start : S) (worker : Worker S L W) →
    WentAlone next start worker →
    own_run next start (λ m. taken_from m worker.past) (length worker.past) ≡ worker
own_run_computes next start worker h = own_run_is next start (λ m. taken_from m worker.past)
    worker.past worker.state (λ m. prefix_same (taken_from m worker.past) (taken_from m worker.past)
    refl) h
