-- The machine follows a reader: where the reader goes on, so does the machine, and where it finds a wrong token, so does the machine.
use Rattle.std.proofs.Common.{◌≡◌, ℕ, suc, ◌<◌, ◌≤◌, Bool, true, false, ◌&&◌, List, [], ◌∷◌, ◌++◌, length, cond, refl, ap, ◌∙◌, arith}
use Rattle.std.specs.Prelude.{Option, None, Some, Result, Ok, Err}
use Rattle.mage_lex.specs.declared.token.Token.{Token}
use Rattle.mage_lex.specs.Symbols.{OPEN_PAREN}
use Rattle.mage_tree.specs.declared.class.Class.{Class}
use Rattle.mage_tree.specs.declared.class.Class.TheVariants as class
use Rattle.mage_parser.specs.declared.stop.Stop.{Stop}
use Rattle.mage_parser.specs.declared.stop.Stop.TheVariants as stops
use Rattle.mage_tree.specs.Classes.{fits}
use Rattle.mage_parser.specs.Reads.{◌>>=◌, begins, calls, one, after_one}
use Rattle.mage_parser.proofs.Machine.{Want, fixed, Mark, mark_class, taken, refused, may_end, step, feed, ran, ends, run, run_taken, run_refused, run_short}

-- the machine takes more tokens than up to where so many are left
abbrev pub GoesOn : Result (Unit {0}) ℕ → ℕ → Type 0
GoesOn (Ok x) left = Unit {0}
GoesOn (Err other) left = other < left

goes_more : (outcome : Result (Unit {0}) ℕ) (n m : ℕ) → n ≤ m → GoesOn outcome n → GoesOn outcome m
goes_more (Ok x) n m h g = tt
goes_more (Err other) n m h g = omega (arith, g)

run_end_goes : (b : Bool) → GoesOn (cond b (Ok tt) (Err 0)) 1
run_end_goes true = tt
run_end_goes false = omega arith

run_within : (tokens : List Token) (wants : List Want) → GoesOn (run tokens wants) (suc (length tokens))
unfolding run
run_within [] wants = run_end_goes (ends wants)
run_within (token ∷ tokens) wants = go (feed wants token) (λ later. run_within tokens later)
  where
    go : (next : Option (List Want)) → ((later : List Want) → GoesOn (run tokens later) (suc (length tokens))) → GoesOn (ran next (run tokens) (length (token ∷ tokens))) (suc (length (token ∷ tokens)))
    go None within = omega arith
    go (Some later) within = goes_more (run tokens later) (suc (length tokens)) (suc (length (token ∷ tokens))) (omega arith) (within later)

-- behind a token that was taken the machine goes on
pub goes_on : (tokens : List Token) (token : Token) (others : List Token) (wants : List Want) → tokens ≡ token ∷ others → GoesOn (run others wants) (length tokens)
goes_on tokens token others wants e = goes_more (run others wants) (suc (length others)) (length tokens) (let k = ap length e in omega (arith, k)) (run_within others wants)

-- what the machine does from `wants` on these tokens is what it does from `later` where the reader ends
abbrev pub Stops : List Token → List Want → Stop → Type 0
Stops tokens wants (stops.Syntax left) = run tokens wants ≡ Err left
Stops tokens wants (stops.TooDeep left) = GoesOn (run tokens wants) left
Stops tokens wants stops.Memory = Unit {0}

abbrev pub Follows : {A : Type 0} → List Token → List Want → Result A Stop → (A → List Token) → List Want → Type 0
Follows tokens wants (Ok x) left later = run tokens wants ≡ run (left x) later
Follows tokens wants (Err stop) left later = Stops tokens wants stop

-- what a reader leaves
abbrev pub after : {A : Type 0} → A × List Token → List Token
after x = x.1

abbrev pub itself : List Token → List Token
itself tokens = tokens

stops_along : (tokens next : List Token) (wants later : List Want) (stop : Stop) → run tokens wants ≡ run next later → Stops next later stop → Stops tokens wants stop
stops_along tokens next wants later (stops.Syntax left) e h = e ∙ h
stops_along tokens next wants later (stops.TooDeep left) e h = rw e h
stops_along tokens next wants later stops.Memory e h = tt

-- the machine moves, and then follows
pub along : {A : Type 0} (tokens next : List Token) (wants later : List Want) (read : Result A Stop) (left : A → List Token) (last : List Want) →
    run tokens wants ≡ run next later → Follows next later read left last → Follows tokens wants read left last
along tokens next wants later (Ok x) left last e h = e ∙ h
along tokens next wants later (Err stop) left last e h = stops_along tokens next wants later stop e h

-- one reader behind another
pub read_on : {A B : Type 0} (tokens : List Token) (wants middle : List Want) (read : Result A Stop) (mid : A → List Token) (f : A → Result B Stop) (left : B → List Token) (last : List Want) →
    Follows tokens wants read mid middle → ((x : A) → read ≡ Ok x → Follows (mid x) middle (f x) left last) → Follows tokens wants (read >>= f) left last
read_on tokens wants middle (Ok x) mid f left last h g = along tokens (mid x) wants middle (f x) left last h (g x refl)
read_on tokens wants middle (Err stop) mid f left last h g = h

-- the first token is of the class that is wanted, and is taken
pub one_taken : {B : Type 0} (c : Class) (want : Want) (rest wants : List Want) (tokens : List Token) (token : Token) (others : List Token) (f : Token × List Token → Result B Stop) (left : B → List Token) (last : List Want) →
    tokens ≡ token ∷ others → fits c token ≡ true → step want token ≡ taken wants → Follows others (wants ++ rest) (f (token, others)) left last →
    Follows tokens (want ∷ rest) (one c tokens >>= f) left last
unfolding one
one_taken c want rest wants tokens token others f left last e is s h =
    rw (e, is) (along (token ∷ others) others (want ∷ rest) (wants ++ rest) (f (token, others)) left last (run_taken want rest wants token others s) h)

pub after_taken : {B : Type 0} (c : Class) (want : Want) (rest wants : List Want) (tokens : List Token) (token : Token) (others : List Token) (f : List Token → Result B Stop) (left : B → List Token) (last : List Want) →
    tokens ≡ token ∷ others → fits c token ≡ true → step want token ≡ taken wants → Follows others (wants ++ rest) (f others) left last →
    Follows tokens (want ∷ rest) (after_one c tokens >>= f) left last
unfolding after_one
after_taken c want rest wants tokens token others f left last e is s h =
    rw (e, is) (along (token ∷ others) others (want ∷ rest) (wants ++ rest) (f others) left last (run_taken want rest wants token others s) h)

-- the first token has to be of the class, or is refused
pub one_or_refused : {B : Type 0} (c : Class) (want : Want) (rest wants : List Want) (tokens : List Token) (f : Token × List Token → Result B Stop) (left : B → List Token) (last : List Want) →
    may_end want ≡ false → ((token : Token) (others : List Token) → tokens ≡ token ∷ others → fits c token ≡ true → step want token ≡ taken wants) →
    ((token : Token) (others : List Token) → tokens ≡ token ∷ others → fits c token ≡ false → step want token ≡ refused) →
    ((token : Token) (others : List Token) → tokens ≡ token ∷ others → fits c token ≡ true → Follows others (wants ++ rest) (f (token, others)) left last) →
    Follows tokens (want ∷ rest) (one c tokens >>= f) left last
unfolding one
one_or_refused c want rest wants [] f left last m t r h = run_short want rest m
one_or_refused {B} c want rest wants (token ∷ others) f left last m t r h = go (fits c token) refl
  where
    go : (b : Bool) → fits c token ≡ b → Follows (token ∷ others) (want ∷ rest) (cond b (Ok (token, others)) (Err (stops.Syntax (length (token ∷ others)))) >>= f) left last
    go true is = along (token ∷ others) others (want ∷ rest) (wants ++ rest) (f (token, others)) left last (run_taken want rest wants token others (t token others refl is)) (h token others refl is)
    go false is = run_refused want rest token others (r token others refl is)

pub after_or_refused : {B : Type 0} (c : Class) (want : Want) (rest wants : List Want) (tokens : List Token) (f : List Token → Result B Stop) (left : B → List Token) (last : List Want) →
    may_end want ≡ false → ((token : Token) (others : List Token) → tokens ≡ token ∷ others → fits c token ≡ true → step want token ≡ taken wants) →
    ((token : Token) (others : List Token) → tokens ≡ token ∷ others → fits c token ≡ false → step want token ≡ refused) →
    ((token : Token) (others : List Token) → tokens ≡ token ∷ others → fits c token ≡ true → Follows others (wants ++ rest) (f others) left last) →
    Follows tokens (want ∷ rest) (after_one c tokens >>= f) left last
unfolding after_one
after_or_refused c want rest wants [] f left last m t r h = run_short want rest m
after_or_refused {B} c want rest wants (token ∷ others) f left last m t r h = go (fits c token) refl
  where
    go : (b : Bool) → fits c token ≡ b → Follows (token ∷ others) (want ∷ rest) (cond b (Ok others) (Err (stops.Syntax (length (token ∷ others)))) >>= f) left last
    go true is = along (token ∷ others) others (want ∷ rest) (wants ++ rest) (f others) left last (run_taken want rest wants token others (t token others refl is)) (h token others refl is)
    go false is = run_refused want rest token others (r token others refl is)

fixed_taken : (mark : Mark) (token : Token) → fits (mark_class mark) token ≡ true → step (fixed mark) token ≡ taken []
unfolding step
fixed_taken mark token is = rw is

fixed_refused : (mark : Mark) (token : Token) → fits (mark_class mark) token ≡ false → step (fixed mark) token ≡ refused
unfolding step
fixed_refused mark token is = rw is

-- a token in a fixed place
pub one_fixed : {B : Type 0} (mark : Mark) (rest : List Want) (tokens : List Token) (f : Token × List Token → Result B Stop) (left : B → List Token) (last : List Want) →
    ((token : Token) (others : List Token) → tokens ≡ token ∷ others → fits (mark_class mark) token ≡ true → Follows others rest (f (token, others)) left last) →
    Follows tokens (fixed mark ∷ rest) (one (mark_class mark) tokens >>= f) left last
one_fixed mark rest tokens f left last h =
    one_or_refused (mark_class mark) (fixed mark) rest [] tokens f left last refl (λ token others e is. fixed_taken mark token is) (λ token others e is. fixed_refused mark token is) h

pub after_fixed : {B : Type 0} (mark : Mark) (rest : List Want) (tokens : List Token) (f : List Token → Result B Stop) (left : B → List Token) (last : List Want) →
    ((token : Token) (others : List Token) → tokens ≡ token ∷ others → fits (mark_class mark) token ≡ true → Follows others rest (f others) left last) →
    Follows tokens (fixed mark ∷ rest) (after_one (mark_class mark) tokens >>= f) left last
after_fixed mark rest tokens f left last h =
    after_or_refused (mark_class mark) (fixed mark) rest [] tokens f left last refl (λ token others e is. fixed_taken mark token is) (λ token others e is. fixed_refused mark token is) h

-- the first token decides
pub decides : {B : Type 0} (c : Class) (tokens : List Token) (wants : List Want) (first second : Result B Stop) (left : B → List Token) (last : List Want) →
    ((token : Token) (others : List Token) → tokens ≡ token ∷ others → fits c token ≡ true → Follows tokens wants first left last) →
    (((token : Token) (others : List Token) → tokens ≡ token ∷ others → fits c token ≡ false) → Follows tokens wants second left last) →
    Follows tokens wants (cond (begins c tokens) first second) left last
unfolding begins
decides c [] wants first second left last f g = g (λ token others e. absurd (cc))
decides {B} c (token ∷ others) wants first second left last f g = go (fits c token) refl
  where
    go : (b : Bool) → fits c token ≡ b → Follows (token ∷ others) wants (cond b first second) left last
    go true is = f token others refl is
    go false is = g (λ token2 others2 e. (let same : token ≡ token2 = cc e in rw (← same) is))

-- the first two tokens decide
pub calls_decide : {B : Type 0} (c : Class) (tokens : List Token) (wants : List Want) (first second : Result B Stop) (left : B → List Token) (last : List Want) →
    ((word bracket : Token) (others : List Token) → tokens ≡ word ∷ bracket ∷ others → fits c word ≡ true → fits (class.Symbol OPEN_PAREN) bracket ≡ true → Follows tokens wants first left last) →
    (((word : Token) (others : List Token) → tokens ≡ word ∷ others → fits c word ≡ true → begins (class.Symbol OPEN_PAREN) others ≡ false) → Follows tokens wants second left last) →
    Follows tokens wants (cond (calls c tokens) first second) left last
unfolding calls begins
calls_decide c [] wants first second left last f g = g (λ word others e w. absurd (cc))
calls_decide {B} c (word ∷ []) wants first second left last f g = go (fits c word)
  where
    alone : (word2 : Token) (others : List Token) → word ∷ [] ≡ word2 ∷ others → begins (class.Symbol OPEN_PAREN) others ≡ false
    alone word2 others e = let none : [] ≡ others = cc e in rw (← none) refl

    go : (b : Bool) → Follows (word ∷ []) wants (cond (b && false) first second) left last
    go true = g (λ word2 others e w. alone word2 others e)
    go false = g (λ word2 others e w. alone word2 others e)
calls_decide {B} c (word ∷ bracket ∷ rest) wants first second left last f g = go (fits c word) (fits (class.Symbol OPEN_PAREN) bracket) refl refl
  where
    go : (b o : Bool) → fits c word ≡ b → fits (class.Symbol OPEN_PAREN) bracket ≡ o → Follows (word ∷ bracket ∷ rest) wants (cond (b && o) first second) left last
    go true true w h = f word bracket rest refl w h
    go true false w h = g (λ word2 others e w2. (let same : bracket ∷ rest ≡ others = cc e in rw (← same) h))
    go false o w h = g (λ word2 others e w2. absurd (let same : word ≡ word2 = cc e in let both : fits c word ≡ true = rw same w2 in cc (both, w)))
