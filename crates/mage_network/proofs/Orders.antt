-- Pasts in their order: the early one is the late one, or there is a next deed.
use Rattle.std.proofs.Common.{◌≡◌, ℕ, Bool, true, false, cond, eqb, List, [], ◌∷◌, ◌++◌, refl, sym, ap, ◌∙◌, subst, ◌⊎◌, inl, inr}
use Rattle.mage_network.specs.Workers.{Act, Moves, Sends, Takes, Stops, Deed, Moved, Sent, Took, Worker, said_in, sent_to, taken_from}
use Rattle.mage_network.specs.Pasts.{Allows, Leads, IsBefore, IsPrefix, BeginsSo}
use Rattle.mage_network.proofs.Prefixes.{prefix_same, prefix_append, prefix_then}
use Rattle.mage_network.proofs.Places.{eqb_same}

-- an act and a deed leave one state
pub allows_one : {S L W : Type 0} (act : Act S L W) (deed : Deed L W) (s t : S) →
    Allows act deed s → Allows act deed t → s ≡ t
allows_one (Moves said after) (Moved x) s t h k = sym h.1 ∙ k.1
allows_one (Sends target wire after) (Sent w x) s t h k = sym h.2 ∙ k.2
allows_one (Takes source after) (Took w x) s t h k = sym h.1 ∙ k.1
allows_one _ _ s t h k = absurd h

-- a past leaves one state
pub leads_one : {S L W : Type 0} (next : S → Act S L W) (start : S) (past : List (Deed L W))
    (s t : S) →
    Leads next start past s → Leads next start past t → s ≡ t
leads_one next start [] s t h k = sym h ∙ k
leads_one next start (deed ∷ past) s t h k =
    let e = leads_one next start past h.0 k.0 h.1 k.1 in
    allows_one (next k.0) deed s t (subst (λ b. Allows (next b) deed s) e h.2) k.2

pub moves_allows : {S L W : Type 0} (said : List L) (after : S) (deed : Deed L W) (state : S) →
    Allows (Moves said after) deed state → Moved said ≡ deed
moves_allows said after (Moved x) state h = ap (λ l. Moved l) h.0
moves_allows said after _ state h = absurd h

pub sends_allows : {S L W : Type 0} (target : ℕ) (wire : W) (after : S) (deed : Deed L W)
    (state : S) →
    Allows (Sends target wire after) deed state → Sent target wire ≡ deed
sends_allows target wire after (Sent w x) state h = ap (λ l. Sent l wire) h.0 ∙ ap (λ l. Sent w l)
    h.1
sends_allows target wire after _ state h = absurd h

pub takes_allows : {S L W : Type 0} (source : ℕ) (after : W → S) (deed : Deed L W) (state : S) →
    Allows (Takes source after) deed state → (wire : W) × (Took source wire ≡ deed)
takes_allows source after (Took w x) state h = (x, ap (λ l. Took l x) h.0)
takes_allows source after _ state h = absurd h

pub stops_allows : {S L W : Type 0} (deed : Deed L W) (state : S) → Allows {S = S} Stops deed
    state → ⊥
stops_allows (Moved x) state h = h
stops_allows _ state h = h

pub before_same : {L W : Type 0} (past : List (Deed L W)) → IsBefore past past
before_same [] = refl
before_same (deed ∷ past) = inl refl

pub before_nothing : {L W : Type 0} (past : List (Deed L W)) → IsBefore [] past
before_nothing [] = refl
before_nothing (deed ∷ past) = inr (before_nothing past)

-- one state is reached before another: both are the same, or a deed of the first leads on
abbrev pub LeadsOn : {S L W : Type 0} → (S → Act S L W) → (early : List (Deed L W)) → S →
    (late : List (Deed L W)) → S → Type 0
LeadsOn {S} {L} {W} next early s late t =
    ((early ≡ late) × (s ≡ t)) ⊎ ((deed : Deed L W) × (after : S) × Allows (next s) deed
    after × IsBefore (deed ∷ early) late)

pub before_leads_on : {S L W : Type 0} (next : S → Act S L W) (start : S)
    (early late : List (Deed L W)) (s t : S) →
    Leads next start early s → Leads next start late t → IsBefore early late →
    LeadsOn next early s late t
before_leads_on next start early [] s t h k e =
    inl (e, leads_one next start early s t h (subst (λ p. Leads next start p t) (sym e) k))
before_leads_on next start early (deed ∷ late) s t h k (inl e) =
    inl (e, leads_one next start early s t h (subst (λ p. Leads next start p t) (sym e) k))
before_leads_on {S} {L} {W} next start early (deed ∷ late) s t h k (inr e) =
    go (before_leads_on next start early late s k.0 h k.1 e)
  where
    go : LeadsOn next early s late k.0 → LeadsOn next early s (deed ∷ late) t
    go (inl same) = inr (
      deed,
      t,
      subst (λ b. Allows (next b) deed t) (sym same.1) k.2,
      inl
          (ap (λ p. deed ∷ p) same.0),
    )
    go (inr on) = inr (on.0, on.1, on.2, inr on.3)

-- what grows with each deed is, at an earlier state, a prefix
before_grows : {L W X : Type 0} (f : List (Deed L W) → List X) →
    ((deed : Deed L W) (past : List (Deed L W)) → IsPrefix (f past) (f (deed ∷ past))) →
    (early late : List (Deed L W)) → IsBefore early late → IsPrefix (f early) (f late)
before_grows f grows early [] h = prefix_same (f early) (f []) (ap f h)
before_grows f grows early (deed ∷ late) (inl h) = prefix_same (f early) (f (deed ∷ late)) (ap f h)
before_grows f grows early (deed ∷ late) (inr h) =
    prefix_then (f early) (f late) (f (deed ∷ late)) (before_grows f grows early late h)
    (grows deed late)

prefix_cond : {X : Type 0} (b : Bool) (xs ys : List X) → IsPrefix xs (cond b (xs ++ ys) xs)
prefix_cond true xs ys = prefix_append xs ys
prefix_cond false xs ys = prefix_same xs xs refl

said_grows : {L W : Type 0} (deed : Deed L W) (past : List (Deed L W)) →
    IsPrefix (said_in past) (said_in (deed ∷ past))
said_grows (Moved said) past = prefix_append (said_in past) said
said_grows _ past = prefix_same (said_in past) (said_in past) refl

sent_grows : {L W : Type 0} (n : ℕ) (deed : Deed L W) (past : List (Deed L W)) →
    IsPrefix (sent_to n past) (sent_to n (deed ∷ past))
sent_grows n (Sent target wire) past = prefix_cond (eqb target n) (sent_to n past) (wire ∷ [])
sent_grows n _ past = prefix_same (sent_to n past) (sent_to n past) refl

taken_grows : {L W : Type 0} (n : ℕ) (deed : Deed L W) (past : List (Deed L W)) →
    IsPrefix (taken_from n past) (taken_from n (deed ∷ past))
taken_grows n (Took source wire) past = prefix_cond (eqb source n) (taken_from n past) (wire ∷ [])
taken_grows n _ past = prefix_same (taken_from n past) (taken_from n past) refl

pub before_begins : {L W : Type 0} (early late : List (Deed L W)) → IsBefore early late →
    BeginsSo early late
before_begins early late h = record {
  said = before_grows said_in said_grows early late h;
  sent = λ n. before_grows (sent_to n) (sent_grows n) early late h;
  taken = λ n. before_grows (taken_from n) (taken_grows n) early late h;
}

pub sent_to-sent : {L W : Type 0} (n : ℕ) (wire : W) (past : List (Deed L W)) →
    sent_to n (Sent n wire ∷ past) ≡ sent_to n past ++ wire ∷ []
sent_to-sent n wire past = ap (λ b. cond b (sent_to n past ++ wire ∷ []) (sent_to n past))
    (eqb_same n)

pub taken_from-took : {L W : Type 0} (n : ℕ) (wire : W) (past : List (Deed L W)) →
    taken_from n (Took n wire ∷ past) ≡ taken_from n past ++ wire ∷ []
taken_from-took n wire past = ap (λ b. cond b (taken_from n past ++ wire ∷ []) (taken_from n past))
    (eqb_same n)

pub worker_same : {S L W : Type 0} (one other : Worker S L W) → one.past ≡ other.past →
    one.state ≡ other.state → one ≡ other
worker_same one other p s = ap (λ x. record { state = x; past = one.past }) s ∙ ap
    (λ x. record { state = other.state; past = x }) p

-- what a start has and each deed keeps, each state has that a past leads to
pub leads_keeps : {S L W : Type 0} (next : S → Act S L W) (start : S) (Kept : S → Type 0) →
    Kept start →
    ((before after : S) (deed : Deed L W) → Kept before → Allows (next before) deed after →
    Kept after) →
    (past : List (Deed L W)) (state : S) → Leads next start past state → Kept state
leads_keeps next start Kept first keeps [] state h = subst Kept h first
leads_keeps next start Kept first keeps (deed ∷ past) state h =
    keeps h.0 state deed (leads_keeps next start Kept first keeps past h.0 h.1) h.2
