-- Where reading finds a wrong token, it is the first with which no source goes on.
use Rattle.std.proofs.Common.{◌≡◌, ℕ, ◌<◌, Bool, true, false, List, [], ◌∷◌, ◌++◌, length, cond, refl, ap, sym, ◌∙◌, append_assoc, arith}
use Rattle.std.specs.Prelude.{Option, None, Some, Result, Ok, Err}
use Rattle.mage_lex.specs.declared.token.Token.{Token}
use Rattle.mage_parser.specs.declared.stop.Stop.{Stop}
use Rattle.mage_parser.specs.declared.stop.Stop.TheVariants as stops
use Rattle.mage_tree.specs.declared.tree.Stmt.{Stmt}
use Rattle.mage_tree.specs.Sources.{IsSource}
use Rattle.mage_parser.specs.Statements.{source_at}
use Rattle.mage_tree.specs.Laws.{IsFront, Breaks}
use Rattle.mage_parser.specs.Laws.{IsFirstWrong}
use Rattle.mage_parser.proofs.SoundStatements.{source_sound}
use Rattle.mage_parser.proofs.FullStatements.{source_full}
use Rattle.mage_parser.proofs.Machine.{Want, workers, feed, ran, ends, run}
use Rattle.mage_parser.proofs.Follow.{GoesOn, Follows}
use Rattle.mage_parser.proofs.FollowStatements.{source_follows}
use Rattle.mage_parser.proofs.Room.{Deep, d_source}
use Rattle.mage_parser.proofs.Viable.{endings, can_end}

-- what the machine takes to its end is a source
accepted : (tokens : List Token) → run tokens (workers ∷ []) ≡ Ok tt → (depth : ℕ) × (count : Option Token) × (body : List Stmt) × IsSource depth count body tokens
accepted tokens h = go (source_at (length tokens) tokens) refl (source_follows (length tokens) tokens) (d_source (length tokens) tokens (length tokens) (omega arith))
  where
    go : (read : Result (Option Token × List Stmt) Stop) → source_at (length tokens) tokens ≡ read → Follows tokens (workers ∷ []) read (λ x. []) [] → Deep (length tokens) (length tokens) read →
        (depth : ℕ) × (count : Option Token) × (body : List Stmt) × IsSource depth count body tokens
    go (Ok x) e f d = (length tokens, x.0, x.1, (rw e at (source_sound (length tokens) tokens)))
    go (Err (stops.Syntax left)) e f d = absurd (cc (sym h ∙ f))
    go (Err (stops.TooDeep left)) e f d = absurd (omega arith)
    go (Err stops.Memory) e f d = absurd d

-- a source is taken by the machine to its end
takes : (depth : ℕ) (count : Option Token) (body : List Stmt) (tokens : List Token) → IsSource depth count body tokens → run tokens (workers ∷ []) ≡ Ok tt
unfolding run ends
takes depth count body tokens s = rw (source_full s) at (source_follows depth tokens)

-- the machine can't go on
abbrev Stuck : List Token → List Want → Type 0
Stuck [] here = ends here ≡ false
Stuck (token ∷ back) here = feed here token ≡ None

zero_is : {left : ℕ} → ◌≡◌ {A = Result (Unit {0}) ℕ} (Err 0) (Err left) → length {A = Token} [] ≡ left
zero_is h = cc h

same_left : {left : ℕ} {n : ℕ} → ◌≡◌ {A = Result (Unit {0}) ℕ} (Err n) (Err left) → n ≡ left
same_left h = cc h

no_more : (tokens : List Token) → tokens ++ [] ≡ tokens
no_more [] = refl
no_more (token ∷ tokens) = ap (λ l. token ∷ l) (no_more tokens)

-- where the machine stops
record Stopped (tokens : List Token) (wants : List Want) (left : ℕ) : Type 0 where
  front : List Token
  back : List Token
  here : List Want
  whole : tokens ≡ front ++ back
  rest : length back ≡ left
  along : (more : List Token) → run (front ++ more) wants ≡ run more here
  stuck : Stuck back here

abbrev ended : Bool → Result (Unit {0}) ℕ
ended b = cond b (Ok tt) (Err 0)

stopped : (tokens : List Token) (wants : List Want) (left : ℕ) → run tokens wants ≡ Err left → Stopped tokens wants left
unfolding run
stopped [] wants left h = go (ends wants) refl h
  where
    go : (b : Bool) → ends wants ≡ b → ended b ≡ Err left → Stopped [] wants left
    go true e h = absurd (cc)
    go false e h = record { front = []; back = []; here = wants; whole = refl; rest = zero_is h; along = λ more. refl; stuck = e }
stopped (token ∷ tokens) wants left h = go (feed wants token) refl h (λ next. stopped tokens next left)
  where
    go : (next : Option (List Want)) → feed wants token ≡ next → ran next (run tokens) (length (token ∷ tokens)) ≡ Err left → ((later : List Want) → run tokens later ≡ Err left → Stopped tokens later left) → Stopped (token ∷ tokens) wants left
    go None e h again = record { front = []; back = token ∷ tokens; here = wants; whole = refl; rest = same_left h; along = λ more. refl; stuck = e }
    go (Some next) e h again = let s = again next h in
        record { front = token ∷ s.front; back = s.back; here = s.here; whole = ap (λ l. token ∷ l) s.whole; rest = s.rest; along = λ more. rw e (s.along more); stuck = s.stuck }

breaks : (front back : List Token) (here : List Want) → ((more : List Token) → run (front ++ more) (workers ∷ []) ≡ run more here) → Stuck back here → Breaks front back
unfolding run
breaks front [] here along stuck = λ depth count body s.
    let t : run (front ++ []) (workers ∷ []) ≡ Ok tt = takes depth count body (front ++ []) (rw (no_more front) s) in
    let u : run [] here ≡ Ok tt = sym (along []) ∙ t in
    absurd (let v = rw stuck at u in cc v)
breaks front (token ∷ back) here along stuck = λ f.
    let t : run ((front ++ token ∷ []) ++ f.0) (workers ∷ []) ≡ Ok tt = takes f.1 f.2 f.3 ((front ++ token ∷ []) ++ f.0) f.4 in
    let u : run (token ∷ f.0) here ≡ Ok tt = sym (along (token ∷ f.0)) ∙ ap (λ l. run l (workers ∷ [])) (sym (append_assoc front (token ∷ []) f.0)) ∙ t in
    absurd (let v = rw stuck at u in cc v)

pub first_wrong : (depth : ℕ) (tokens : List Token) (left : ℕ) → source_at depth tokens ≡ Err (stops.Syntax left) → IsFirstWrong tokens left
first_wrong depth tokens left e =
    let h : run tokens (workers ∷ []) ≡ Err left = rw e at (source_follows depth tokens) in
    let s = stopped tokens (workers ∷ []) left h in
    let a = accepted (s.front ++ endings s.here) (s.along (endings s.here) ∙ can_end s.here) in
    (s.front, s.back, s.whole, s.rest, (endings s.here, a.0, a.1, a.2, a.3), breaks s.front s.back s.here s.along s.stuck)

-- what the machine takes begins a source
pub reached : (tokens : List Token) (left : ℕ) → 0 < left → GoesOn (run tokens (workers ∷ [])) left → (front : List Token) × (back : List Token) × (tokens ≡ front ++ back) × (length back < left) × IsFront front
reached tokens left some goes = go (run tokens (workers ∷ [])) refl goes
  where
    go : (ran : Result (Unit {0}) ℕ) → run tokens (workers ∷ []) ≡ ran → GoesOn ran left → (front : List Token) × (back : List Token) × (tokens ≡ front ++ back) × (length back < left) × IsFront front
    go (Ok x) e g =
        let a = accepted tokens e in (tokens, [], sym (no_more tokens), some, ([], a.0, a.1, a.2, (rw (no_more tokens) a.3)))
    go (Err other) e g =
        let s = stopped tokens (workers ∷ []) other e in
        let a = accepted (s.front ++ endings s.here) (s.along (endings s.here) ∙ can_end s.here) in
        (s.front, s.back, s.whole, omega (arith, s.rest, g), (endings s.here, a.0, a.1, a.2, a.3))
