-- Answered workers: each exit of a step adds an answer, or none; past the end of the answers, an
-- own run stops, where the joint run may go on.
use Rattle.std.proofs.Common.{◌≡◌, ℕ, Bool, true, false, cond, eqb, List, [], ◌∷◌, ◌++◌, Option, None, refl, sym, ap, ◌∙◌, subst, append_assoc, append-nil}
use Rattle.std.proofs.Math.Path.{fun_ext}
use Rattle.std.proofs.lemmas.Bool.{eqb-true}
use Rattle.mage_network.specs.Workers.{Act, Moves, Sends, Takes, Stops, Deed}
use Rattle.mage_network.specs.Pasts.{Allows, Leads, IsAlong}
use Rattle.mage_network.specs.Network.{put, appended}
use Rattle.mage_network.specs.Together.{Joint, together}
use Rattle.mage_network.specs.Laws.{AreAlong, IsAll, BeginsAlong}
use Rattle.mage_network.specs.Answers.{Hearing, Does, Hears, Answered, hears, act_on, answered, IsAlongAnswers, AreAnswered, IsAllAnswered, BeginsAnswered}
use Rattle.mage_network.proofs.Places.{put_here}
use Rattle.mage_network.proofs.Orders.{stops_allows}
use Rattle.mage_network.proofs.Steps.{along_start, along_moved, along_sends, along_takes, along_begins}

pub heard_start : {S L W B : Type 0} (next : S → Hearing S L W B) (start : S) →
    IsAlongAnswers next start start (λ key. []) [] (λ m. []) (λ m. [])
heard_start next start rest = along_start (answered None next)
    (record { state = start; answers = rest })

pub heard_moved : {S L W B : Type 0} (next : S → Hearing S L W B) (start state after : S)
    (heard : ℕ → List B) (said x : List L) (taken sent : ℕ → List W) →
    next state ≡ Does (Moves x after) → IsAlongAnswers next start state heard said taken sent →
    IsAlongAnswers next start after heard (said ++ x) taken sent
heard_moved next start state after heard said x taken sent e h rest =
    along_moved (answered None next) (record {
      state = start;
      answers =
          λ key. heard key ++ rest key;
    }) (record { state = state; answers = rest })
    (record { state = after; answers = rest }) said x taken sent
    (ap (λ a. act_on None a rest) e) (h rest)

pub heard_sends : {S L W B : Type 0} (next : S → Hearing S L W B) (start state after : S)
    (heard : ℕ → List B) (said : List L) (taken sent : ℕ → List W) (target : ℕ) (wire : W) →
    next state ≡ Does (Sends target wire after) → IsAlongAnswers next start state heard said taken
    sent →
    IsAlongAnswers next start after heard said taken (put sent target (appended (sent target) wire))
heard_sends next start state after heard said taken sent target wire e h rest =
    along_sends (answered None next) (record {
      state = start;
      answers =
          λ key. heard key ++ rest key;
    }) (record { state = state; answers = rest })
    (record { state = after; answers = rest }) said taken sent target wire
    (ap (λ a. act_on None a rest) e) (h rest)

pub heard_takes : {S L W B : Type 0} (next : S → Hearing S L W B) (start state : S) (after : W → S)
    (heard : ℕ → List B) (said : List L) (taken sent : ℕ → List W) (source : ℕ) (wire : W) →
    next state ≡ Does (Takes source after) → IsAlongAnswers next start state heard said taken sent →
    IsAlongAnswers next start (after wire) heard said
    (put taken source (appended (taken source) wire)) sent
heard_takes next start state after heard said taken sent source wire e h rest =
    along_takes (answered None next) (record {
      state = start;
      answers =
          λ key. heard key ++ rest key;
    }) (record { state = state; answers = rest })
    (λ w. record { state = after w; answers = rest }) said taken sent source wire
    (ap (λ a. act_on None a rest) e) (h rest)

-- an answer that was heard is the first of those that were to come
pub answer_first : {B : Type 0} (heard rest : ℕ → List B) (key : ℕ) (answer : B) →
    ◌≡◌ {A = ℕ → List B} (λ k. heard k ++ put rest key (answer ∷ rest key) k)
    (λ k. put heard key (appended (heard key) answer) k ++ rest k)
answer_first {B} heard rest key answer = fun_ext (λ k. go k (eqb key k) refl)
  where
    go : (k : ℕ) (b : Bool) → eqb key k ≡ b → heard k ++ cond b (answer ∷ rest key) (rest k) ≡ cond
        b (appended (heard key) answer) (heard k) ++ rest k
    go k true e = subst (λ i. heard i ++ answer ∷ rest key ≡ appended (heard key) answer ++ rest i)
        (eqb-true key k e) (sym (append_assoc (heard key) (answer ∷ []) (rest key)))
    go k false e = refl

pub answer_gone : {B : Type 0} (rest : ℕ → List B) (key : ℕ) (left : List B) →
    put (put rest key left) key (rest key) ≡ rest
answer_gone {B} rest key left = fun_ext (λ k. go k (eqb key k) refl)
  where
    go : (k : ℕ) (b : Bool) → eqb key k ≡ b → cond b (rest key) (cond b left (rest k)) ≡ rest k
    go k true e = ap rest (eqb-true key k e)
    go k false e = refl

pub heard_hears : {S L W B : Type 0} (next : S → Hearing S L W B) (start state : S) (after : B → S)
    (heard : ℕ → List B) (said : List L) (taken sent : ℕ → List W) (key : ℕ) (answer : B) →
    next state ≡ Hears key after → IsAlongAnswers next start state heard said taken sent →
    IsAlongAnswers next start (after answer) (put heard key (appended (heard key) answer)) said
    taken sent
heard_hears {S} {L} {W} {B} next start state after heard said taken sent key answer e h rest =
    subst (λ x. IsAlong (answered None next) begin end x taken sent) (append-nil said)
    (subst (λ a. IsAlong (answered None next) (record { state = start; answers = a }) end
    (said ++ []) taken sent) (answer_first heard rest key answer)
    (along_moved (answered None next) (record {
      state = start;
      answers =
          λ k. heard k ++ more k;
    }) (record { state = state; answers = more }) end said []
    taken sent goes (h more)))
  where
    more : ℕ → List B
    more = put rest key (answer ∷ rest key)

    begin : Answered S B
    begin = record {
      state = start;
      answers = λ k. put heard key (appended (heard key) answer)
          k ++ rest k;
    }

    end : Answered S B
    end = record { state = after answer; answers = rest }

    goes : answered None next (record { state = state; answers = more }) ≡ Moves [] end
    goes = ap (λ a. act_on None a more) e ∙ (ap (λ l. hears None key after l more)
        (put_here rest key (answer ∷ rest key))
        ∙ ap (λ r. Moves [] (record { state = after answer; answers = r }))
        (answer_gone rest key (answer ∷ rest key)))

-- where the own run goes on, so does the joint run
hears_too : {S L W B : Type 0} (past_end : Option B) (key : ℕ) (after : B → S) (left : List B)
    (answers : ℕ → List B) (deed : Deed L W) (state : Answered S B) →
    Allows (hears None key after left answers) deed state →
    Allows (hears past_end key after left answers) deed state
hears_too past_end key after (answer ∷ left) answers deed state h = h
hears_too {S} {L} {W} {B} past_end key after [] answers deed state h =
    absurd (stops_allows {S = Answered S B} deed state h)

acts_too : {S L W B : Type 0} (past_end : Option B) (doing : Hearing S L W B) (answers : ℕ → List B)
    (deed : Deed L W) (state : Answered S B) →
    Allows (act_on None doing answers) deed state → Allows (act_on past_end doing answers) deed
    state
acts_too past_end (Does act) answers deed state h = h
acts_too past_end (Hears key after) answers deed state h =
    hears_too past_end key after (answers key) answers deed state h

pub leads_too : {S L W B : Type 0} (past_end : Option B) (next : S → Hearing S L W B)
    (start : Answered S B) (past : List (Deed L W)) (state : Answered S B) →
    Leads (answered None next) start past state → Leads (answered past_end next) start past state
leads_too past_end next start [] state h = h
leads_too past_end next start (deed ∷ past) state h = (
  h.0,
  leads_too past_end next start past h.0 h.1,
  acts_too past_end (next h.0.state) h.0.answers
      deed state h.2,
)

pub answered_begin : {S L W B : Type 0} (past_end : Option B) (next : ℕ → S → Hearing S L W B)
    (starts states : ℕ → S) (answers heard : ℕ → ℕ → List B) (said : ℕ → List L)
    (taken sent : ℕ → ℕ → List W) (turns : List Joint) →
    AreAnswered next starts states answers heard said taken sent → (n : ℕ) →
    answered past_end (next n) (together (λ m. answered past_end (next m))
    (λ m. record { state = starts m; answers = answers m }) turns n).state ≡ Stops →
    BeginsAnswered (next n) (together (λ m. answered past_end (next m))
    (λ m. record { state = starts m; answers = answers m }) turns n) (states n) (said n)
    (sent n)
answered_begin {S} {L} {W} {B} past_end next starts states answers heard said taken sent turns h n
    stops = record {
      says = begins.says;
      sends = begins.sends;
      done = λ e. all (begins.done (ap (λ a. act_on past_end a (rest n)) e));
    }
  where
    rest : ℕ → ℕ → List B
    rest m key = (h.given m key).0

    joint : ℕ → Answered S B → Act (Answered S B) L W
    joint m = answered past_end (next m)

    opening : ℕ → Answered S B
    opening m = record { state = starts m; answers = answers m }

    given : (m : ℕ) → (λ key. heard m key ++ rest m key) ≡ answers m
    given m = fun_ext (λ key. (h.given m key).1)

    ends : ℕ → Answered S B
    ends m = record { state = states m; answers = rest m }

    too : (m : ℕ) (start : Answered S B) → IsAlong (answered None (next m)) start (ends m) (said m)
        (taken m) (sent m) → IsAlong (joint m) start (ends m) (said m) (taken m) (sent m)
    too m start k = record {
      past = k.past;
      leads = leads_too past_end (next m) start k.past
          (ends m) k.leads;
      says = k.says;
      takes = k.takes;
      sends = k.sends;
    }

    along : AreAlong joint opening ends said taken sent
    along = record {
      along = λ m. too m (opening m) (subst (λ a. IsAlong (answered None (next m))
          (record { state = starts m; answers = a }) (ends m) (said m) (taken m) (sent m)) (given m)
          (h.along m (rest m)));
      received = h.received;
    }

    begins : BeginsAlong (joint n) (together joint opening turns n) (ends n) (said n) (sent n)
    begins = along_begins joint opening ends said taken sent turns along n stops

    all : IsAll (together joint opening turns n) (ends n) (said n) (sent n) →
        IsAllAnswered (together joint opening turns n) (states n) (said n) (sent n)
    all k = record { stands = ap (λ w. w.state) k.stands; says = k.says; sends = k.sends }
