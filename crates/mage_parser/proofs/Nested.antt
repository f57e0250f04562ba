-- How deep the tokens that are read stand: what is open along them, and what a reader does with it.
use Rattle.std.proofs.Common.{◌≡◌, ℕ, suc, ◌≤◌, Bool, true, false, ◌&&◌, not, List, [], ◌∷◌, ◌++◌, length, cond, refl, ap, sym, ◌∙◌, append_assoc}
use Rattle.std.specs.Prelude.{Result, Ok, Err}
use Rattle.mage_lex.specs.Symbols.{DOTS, SEMICOLON, COLON, COMMA, OPEN_PAREN, CLOSE_PAREN, OPEN_BRACKET, CLOSE_BRACKET, OPEN_BRACE, CLOSE_BRACE, ASSIGN, MINUS, AND, XOR, OR, NOT}
use Rattle.mage_lex.specs.declared.token.Token.{Token}
use Rattle.mage_lex.specs.declared.token.TokenKind.{TokenKind}
use Rattle.mage_lex.specs.Words as words
use Rattle.mage_tree.specs.declared.class.Class.{Class}
use Rattle.mage_tree.specs.declared.class.Class.TheVariants as class
use Rattle.mage_tree.specs.declared.class.Callable.TheVariants as callable
use Rattle.mage_tree.specs.declared.class.Keyword.{Keyword}
use Rattle.mage_tree.specs.declared.class.Keyword.TheVariants as keyword
use Rattle.mage_parser.specs.declared.stop.Stop.{Stop}
use Rattle.mage_parser.specs.declared.stop.Stop.TheVariants as stops
use Rattle.mage_tree.specs.Classes.{text_of, call_text, fits}
use Rattle.mage_parser.specs.Reads.{◌>>=◌, one, after_one}
use Rattle.mage_tree.specs.Grammar.{Is}
use Rattle.mage_tree.specs.Depth.{Opened, a_bracket, a_sign, Nesting, without_signs, without_bracket, open_at, behind}
use Rattle.mage_tree.proofs.Apart.{Kinds, by_kind, each_kind}

-- behind a token with which no operand ends, and behind one with which an operand ends
abbrev pub fresh : List Opened → Nesting
fresh opened = record { opened = opened; ended = false }

abbrev pub ended : List Opened → Nesting
ended opened = record { opened = opened; ended = true }

-- what is open at a token of this kind, and where it leads
pub record Step (s : Nesting) (kind : TokenKind) (opened : List Opened) (next : Nesting) : Type 0 where
  pub opens : open_at s kind ≡ opened
  pub goes : behind s kind ≡ next

step_of : (c : Class) (s : Nesting) (opened : List Opened) (next : Nesting) → Kinds c (λ kind. Step s kind opened next) → (token : Token) → Is c token → Step s token.kind opened next
step_of c s opened next h token is = each_kind c token.kind (λ kind. Step s kind opened next) h (sym (by_kind c token) ∙ is)

plain : {s : Nesting} {kind : TokenKind} {opened : List Opened} {next : Nesting} → open_at s kind ≡ opened → behind s kind ≡ next → Step s kind opened next
plain o g = record { opens = o; goes = g }

-- a token of this class neither opens, closes nor ends anything, where no operand ended before it
abbrev pub Passes : Class → Type 0
Passes c = (o : List Opened) (token : Token) → Is c token → Step (fresh o) token.kind o (fresh o)

-- and where one ended, it ends the signs before that
abbrev pub Settles : Class → Type 0
Settles c = (o : List Opened) (token : Token) → Is c token → Step (ended o) token.kind (without_signs o) (fresh (without_signs o))

pub word_passes : (word : Keyword) → words.is_name (text_of word) ≡ false → Passes (class.Word word)
word_passes word apart o token is = step_of (class.Word word) (fresh o) o (fresh o) (record { opens = refl; goes = rw apart refl }) token is

pub word_settles : (word : Keyword) → words.is_name (text_of word) ≡ false → Settles (class.Word word)
word_settles word apart o token is = step_of (class.Word word) (ended o) (without_signs o) (fresh (without_signs o)) (record { opens = refl; goes = rw apart refl }) token is

party_apart : (words.is_name (text_of keyword.Garbler) ≡ false) × (words.is_name (text_of keyword.Evaluator) ≡ false)
unfolding text_of words.is_keyword
party_apart = (refl, refl)

pub party_passes : Passes class.Party
party_passes o token is =
    step_of class.Party (fresh o) o (fresh o) (record { opens = refl; goes = rw party_apart.0 refl }, record { opens = refl; goes = rw party_apart.1 refl }) token is

type_no_name : (text : List ℕ) → words.is_type_word text ≡ true → words.is_name text ≡ false
type_no_name text e = go (words.is_keyword text)
  where
    go : (known : Bool) → (not known && not (words.is_type_word text)) ≡ false
    go true = refl
    go false = rw e refl

pub type_passes : Passes class.Type
type_passes o token is = step_of class.Type (fresh o) o (fresh o) (λ text e. record { opens = refl; goes = rw (type_no_name text e) refl }) token is

pub semicolon_passes : Passes (class.Symbol SEMICOLON)
semicolon_passes o token is = step_of (class.Symbol SEMICOLON) (fresh o) o (fresh o) (record { opens = refl; goes = refl }) token is

pub semicolon_settles : Settles (class.Symbol SEMICOLON)
semicolon_settles o token is = step_of (class.Symbol SEMICOLON) (ended o) (without_signs o) (fresh (without_signs o)) (record { opens = refl; goes = refl }) token is

pub colon_settles : Settles (class.Symbol COLON)
colon_settles o token is = step_of (class.Symbol COLON) (ended o) (without_signs o) (fresh (without_signs o)) (record { opens = refl; goes = refl }) token is

pub comma_settles : Settles (class.Symbol COMMA)
comma_settles o token is = step_of (class.Symbol COMMA) (ended o) (without_signs o) (fresh (without_signs o)) (record { opens = refl; goes = refl }) token is

pub dots_settles : Settles (class.Symbol DOTS)
dots_settles o token is = step_of (class.Symbol DOTS) (ended o) (without_signs o) (fresh (without_signs o)) (record { opens = refl; goes = refl }) token is

pub assign_settles : Settles (class.Symbol ASSIGN)
assign_settles o token is = step_of (class.Symbol ASSIGN) (ended o) (without_signs o) (fresh (without_signs o)) (record { opens = refl; goes = refl }) token is

pub and_settles : Settles (class.Symbol AND)
and_settles o token is = step_of (class.Symbol AND) (ended o) (without_signs o) (fresh (without_signs o)) (record { opens = refl; goes = refl }) token is

pub xor_settles : Settles (class.Symbol XOR)
xor_settles o token is = step_of (class.Symbol XOR) (ended o) (without_signs o) (fresh (without_signs o)) (record { opens = refl; goes = refl }) token is

pub or_settles : Settles (class.Symbol OR)
or_settles o token is = step_of (class.Symbol OR) (ended o) (without_signs o) (fresh (without_signs o)) (record { opens = refl; goes = refl }) token is

pub adding_settles : Settles class.Adding
adding_settles o token is =
    step_of class.Adding (ended o) (without_signs o) (fresh (without_signs o)) (record { opens = refl; goes = refl }, record { opens = refl; goes = refl }) token is

pub scaling_settles : Settles class.Scaling
scaling_settles o token is =
    step_of class.Scaling (ended o) (without_signs o) (fresh (without_signs o)) (record { opens = refl; goes = refl }, record { opens = refl; goes = refl }, record { opens = refl; goes = refl }) token is

pub shifting_settles : Settles class.Shifting
shifting_settles o token is =
    step_of class.Shifting (ended o) (without_signs o) (fresh (without_signs o)) (record { opens = refl; goes = refl }, record { opens = refl; goes = refl }) token is

pub comparing_settles : Settles class.Comparing
comparing_settles o token is =
    step_of class.Comparing (ended o) (without_signs o) (fresh (without_signs o)) (record { opens = refl; goes = refl }, record { opens = refl; goes = refl }) token is

-- an operand of one token
pub number_ends : (o : List Opened) (token : Token) → Is class.Number token → Step (fresh o) token.kind o (ended o)
number_ends o token is = step_of class.Number (fresh o) o (ended o) (λ value. record { opens = refl; goes = refl }) token is

pub name_ends : (o : List Opened) (token : Token) → Is class.Name token → Step (fresh o) token.kind o (ended o)
name_ends o token is = step_of class.Name (fresh o) o (ended o) (λ text e. record { opens = refl; goes = rw e refl }) token is

call_named : (words.is_name (call_text callable.Min) ≡ true) × (words.is_name (call_text callable.Max) ≡ true) × (words.is_name (call_text callable.Count) ≡ true)
unfolding call_text words.is_keyword
call_named = (refl, refl, refl)

-- a call's word, which seems a name, and its bracket
pub choosing_ends : (o : List Opened) (token : Token) → Is class.Choosing token → Step (fresh o) token.kind o (ended o)
choosing_ends o token is =
    step_of class.Choosing (fresh o) o (ended o) (record { opens = refl; goes = rw call_named.0 refl }, record { opens = refl; goes = rw call_named.1 refl }) token is

pub counting_ends : (o : List Opened) (token : Token) → Is class.Counting token → Step (fresh o) token.kind o (ended o)
counting_ends o token is = step_of class.Counting (fresh o) o (ended o) (record { opens = refl; goes = rw call_named.2 refl }) token is

pub call_opens : (o : List Opened) (token : Token) → Is (class.Symbol OPEN_PAREN) token → Step (ended o) token.kind (a_bracket ∷ o) (fresh (a_bracket ∷ o))
call_opens o token is = step_of (class.Symbol OPEN_PAREN) (ended o) (a_bracket ∷ o) (fresh (a_bracket ∷ o)) (record { opens = refl; goes = refl }) token is

-- brackets and signs
pub paren_opens : (o : List Opened) (token : Token) → Is (class.Symbol OPEN_PAREN) token → Step (fresh o) token.kind (a_bracket ∷ o) (fresh (a_bracket ∷ o))
paren_opens o token is = step_of (class.Symbol OPEN_PAREN) (fresh o) (a_bracket ∷ o) (fresh (a_bracket ∷ o)) (record { opens = refl; goes = refl }) token is

pub index_opens : (o : List Opened) (token : Token) → Is (class.Symbol OPEN_BRACKET) token → Step (ended o) token.kind (a_bracket ∷ o) (fresh (a_bracket ∷ o))
index_opens o token is = step_of (class.Symbol OPEN_BRACKET) (ended o) (a_bracket ∷ o) (fresh (a_bracket ∷ o)) (record { opens = refl; goes = refl }) token is

pub length_opens : (o : List Opened) (token : Token) → Is (class.Symbol OPEN_BRACKET) token → Step (fresh o) token.kind (a_bracket ∷ o) (fresh (a_bracket ∷ o))
length_opens o token is = step_of (class.Symbol OPEN_BRACKET) (fresh o) (a_bracket ∷ o) (fresh (a_bracket ∷ o)) (record { opens = refl; goes = refl }) token is

pub brace_opens : (o : List Opened) (token : Token) → Is (class.Symbol OPEN_BRACE) token → Step (fresh o) token.kind (a_bracket ∷ o) (fresh (a_bracket ∷ o))
brace_opens o token is = step_of (class.Symbol OPEN_BRACE) (fresh o) (a_bracket ∷ o) (fresh (a_bracket ∷ o)) (record { opens = refl; goes = refl }) token is

pub brace_opens_behind : (o : List Opened) (token : Token) → Is (class.Symbol OPEN_BRACE) token →
    Step (ended o) token.kind (a_bracket ∷ without_signs o) (fresh (a_bracket ∷ without_signs o))
brace_opens_behind o token is =
    step_of (class.Symbol OPEN_BRACE) (ended o) (a_bracket ∷ without_signs o) (fresh (a_bracket ∷ without_signs o)) (record { opens = refl; goes = refl }) token is

pub not_opens : (o : List Opened) (token : Token) → Is (class.Symbol NOT) token → Step (fresh o) token.kind (a_sign ∷ o) (fresh (a_sign ∷ o))
not_opens o token is = step_of (class.Symbol NOT) (fresh o) (a_sign ∷ o) (fresh (a_sign ∷ o)) (record { opens = refl; goes = refl }) token is

pub minus_opens : (o : List Opened) (token : Token) → Is (class.Symbol MINUS) token → Step (fresh o) token.kind (a_sign ∷ o) (fresh (a_sign ∷ o))
minus_opens o token is = step_of (class.Symbol MINUS) (fresh o) (a_sign ∷ o) (fresh (a_sign ∷ o)) (record { opens = refl; goes = refl }) token is

paren_shuts : (o : List Opened) (token : Token) → Is (class.Symbol CLOSE_PAREN) token → Step (ended o) token.kind (without_signs o) (ended (without_bracket (without_signs o)))
paren_shuts o token is = step_of (class.Symbol CLOSE_PAREN) (ended o) (without_signs o) (ended (without_bracket (without_signs o))) (record { opens = refl; goes = refl }) token is

index_shuts : (o : List Opened) (token : Token) → Is (class.Symbol CLOSE_BRACKET) token → Step (ended o) token.kind (without_signs o) (ended (without_bracket (without_signs o)))
index_shuts o token is = step_of (class.Symbol CLOSE_BRACKET) (ended o) (without_signs o) (ended (without_bracket (without_signs o))) (record { opens = refl; goes = refl }) token is

pub brace_shuts : (o : List Opened) (token : Token) → Is (class.Symbol CLOSE_BRACE) token → Step (fresh (a_bracket ∷ o)) token.kind (a_bracket ∷ o) (fresh o)
brace_shuts o token is = step_of (class.Symbol CLOSE_BRACE) (fresh (a_bracket ∷ o)) (a_bracket ∷ o) (fresh o) (record { opens = refl; goes = refl }) token is

-- an operand has ended, and only its own signs are open besides these
abbrev pub Ends : List Opened → Nesting → Type 0
Ends o t = (p : List Opened) × (t ≡ ended p) × (without_signs p ≡ without_signs o)

pub ends_here : (o : List Opened) → Ends o (ended o)
ends_here o = (o, refl, refl)

settled : (c : Class) → Settles c → (o p : List Opened) → without_signs p ≡ o → (token : Token) → Is c token → Step (ended p) token.kind o (fresh o)
settled c settles o p e token is = rw e at (settles p token is)

-- a token behind an operand
pub settles_at : (c : Class) → Settles c → (o : List Opened) (t : Nesting) → without_signs o ≡ o → Ends o t → (token : Token) → Is c token → Step t token.kind o (fresh o)
settles_at c settles o t flat ends token is = rw ends.1 (settled c settles o ends.0 (ends.2 ∙ flat) token is)

shut : (q o : List Opened) (kind : TokenKind) → without_signs q ≡ a_bracket ∷ o → Step (ended q) kind (without_signs q) (ended (without_bracket (without_signs q))) → Step (ended q) kind (a_bracket ∷ o) (ended o)
shut q o kind e step = rw e at step

-- the bracket that closes
pub paren_shuts_at : (o : List Opened) (t : Nesting) → Ends (a_bracket ∷ o) t → (token : Token) → Is (class.Symbol CLOSE_PAREN) token → Step t token.kind (a_bracket ∷ o) (ended o)
paren_shuts_at o t ends token is = rw ends.1 (shut ends.0 o token.kind ends.2 (paren_shuts ends.0 token is))

pub index_shuts_at : (o : List Opened) (t : Nesting) → Ends (a_bracket ∷ o) t → (token : Token) → Is (class.Symbol CLOSE_BRACKET) token → Step t token.kind (a_bracket ∷ o) (ended o)
index_shuts_at o t ends token is = rw ends.1 (shut ends.0 o token.kind ends.2 (index_shuts ends.0 token is))

brace_of : (p o : List Opened) (kind : TokenKind) → without_signs p ≡ o → Step (ended p) kind (a_bracket ∷ without_signs p) (fresh (a_bracket ∷ without_signs p)) → Step (ended p) kind (a_bracket ∷ o) (fresh (a_bracket ∷ o))
brace_of p o kind e step = rw e at step

pub brace_opens_at : (o : List Opened) (t : Nesting) → without_signs o ≡ o → Ends o t → (token : Token) → Is (class.Symbol OPEN_BRACE) token → Step t token.kind (a_bracket ∷ o) (fresh (a_bracket ∷ o))
brace_opens_at o t flat ends token is = rw ends.1 (brace_of ends.0 o token.kind (ends.2 ∙ flat) (brace_opens_behind ends.0 token is))

-- what is open behind these tokens
abbrev pub nested : Nesting → List Token → Nesting
nested s [] = s
nested s (token ∷ rest) = nested (behind s token.kind) rest

-- no more than so much is open at any of them
abbrev pub Shallow : ℕ → Nesting → List Token → Type 0
Shallow limit s [] = Unit {0}
Shallow limit s (token ∷ rest) = (length (open_at s token.kind) ≤ limit) × Shallow limit (behind s token.kind) rest

pub nested_then : (front more : List Token) (s : Nesting) → nested s (front ++ more) ≡ nested (nested s front) more
nested_then [] more s = refl
nested_then (token ∷ front) more s = nested_then front more (behind s token.kind)

shallow_then : (limit : ℕ) (front more : List Token) (s : Nesting) → Shallow limit s front → Shallow limit (nested s front) more → Shallow limit s (front ++ more)
shallow_then limit [] more s a b = b
shallow_then limit (token ∷ front) more s a b = (a.0, shallow_then limit front more (behind s token.kind) a.1 b)

-- from the tokens to the rest
pub record Way (limit : ℕ) (s : Nesting) (tokens rest : List Token) (t : Nesting) : Type 0 where
  pub front : List Token
  pub whole : tokens ≡ front ++ rest
  pub shallow : Shallow limit s front
  pub comes : nested s front ≡ t

pub no_way : (limit : ℕ) (s : Nesting) (tokens : List Token) → Way limit s tokens tokens s
no_way limit s tokens = record { front = []; whole = refl; shallow = tt; comes = refl }

pub way_one : (limit : ℕ) (s : Nesting) (tokens : List Token) (token : Token) (rest : List Token) (o : List Opened) (t : Nesting) →
    tokens ≡ token ∷ rest → Step s token.kind o t → length o ≤ limit → Way limit s tokens rest t
way_one limit s tokens token rest o t e step h = record { front = token ∷ []; whole = e; shallow = (rw step.opens h, tt); comes = step.goes }

pub way_then : {limit : ℕ} {s t u : Nesting} {a b c : List Token} → Way limit s a b t → Way limit t b c u → Way limit s a c u
way_then {limit} {s} {t} {u} {a} {b} {c} w v =
    record {
      front = w.front ++ v.front;
      whole = w.whole ∙ ap (λ l. w.front ++ l) v.whole ∙ sym (append_assoc w.front v.front c);
      shallow = shallow_then limit w.front v.front s w.shallow (rw w.comes v.shallow);
      comes = nested_then w.front v.front s ∙ ap (λ x. nested x v.front) w.comes ∙ v.comes;
    }

-- what a reader does: it leaves the tokens where so much is open, or stops at a token, and up to there no more than the limit is open
abbrev pub Meets : {A : Type 0} → ℕ → Nesting → List Token → Result A Stop → (A → List Token) → (Nesting → Type 0) → Type 0
Meets limit s tokens (Ok x) left P = (t : Nesting) × Way limit s tokens (left x) t × P t
Meets limit s tokens (Err (stops.Syntax n)) left P = (back : List Token) × (t : Nesting) × Way limit s tokens back t × (length back ≡ n)
Meets limit s tokens (Err (stops.TooDeep n)) left P =
    (token : Token) × (rest : List Token) × (t : Nesting) × Way limit s tokens (token ∷ rest) t × (length (token ∷ rest) ≡ n) × (length (open_at t token.kind) ≡ suc limit)
Meets limit s tokens (Err stops.Memory) left P = ⊥

pub m_along : {A : Type 0} (limit : ℕ) (s : Nesting) (tokens middle : List Token) (t : Nesting) (read : Result A Stop) (left : A → List Token) (P : Nesting → Type 0) →
    Way limit s tokens middle t → Meets limit t middle read left P → Meets limit s tokens read left P
m_along limit s tokens middle t (Ok x) left P w m = (m.0, way_then w m.1, m.2)
m_along limit s tokens middle t (Err (stops.Syntax n)) left P w m = (m.0, m.1, way_then w m.2, m.3)
m_along limit s tokens middle t (Err (stops.TooDeep n)) left P w m = (m.0, m.1, m.2, way_then w m.3, m.4, m.5)
m_along limit s tokens middle t (Err stops.Memory) left P w m = m

pub m_weaker : {A : Type 0} (limit : ℕ) (s : Nesting) (tokens : List Token) (read : Result A Stop) (left : A → List Token) (P Q : Nesting → Type 0) →
    ((t : Nesting) → P t → Q t) → Meets limit s tokens read left P → Meets limit s tokens read left Q
m_weaker limit s tokens (Ok x) left P Q f m = (m.0, m.1, f m.0 m.2)
m_weaker limit s tokens (Err (stops.Syntax n)) left P Q f m = m
m_weaker limit s tokens (Err (stops.TooDeep n)) left P Q f m = m
m_weaker limit s tokens (Err stops.Memory) left P Q f m = m

-- one reader behind another
pub m_read : {A B : Type 0} (limit : ℕ) (s : Nesting) (tokens : List Token) (read : Result A Stop) (middle : A → List Token) (P : Nesting → Type 0) (f : A → Result B Stop) (left : B → List Token) (Q : Nesting → Type 0) →
    Meets limit s tokens read middle P → ((x : A) (t : Nesting) → P t → Meets limit t (middle x) (f x) left Q) → Meets limit s tokens (read >>= f) left Q
m_read limit s tokens (Ok x) middle P f left Q m g = m_along limit s tokens (middle x) m.0 (f x) left Q m.1 (g x m.0 m.2)
m_read limit s tokens (Err (stops.Syntax n)) middle P f left Q m g = m
m_read limit s tokens (Err (stops.TooDeep n)) middle P f left Q m g = m
m_read limit s tokens (Err stops.Memory) middle P f left Q m g = m

pub m_if : {B : Type 0} (limit : ℕ) (s : Nesting) (tokens : List Token) (b : Bool) (first second : Result B Stop) (left : B → List Token) (Q : Nesting → Type 0) →
    Meets limit s tokens first left Q → Meets limit s tokens second left Q → Meets limit s tokens (cond b first second) left Q
m_if limit s tokens true first second left Q f g = f
m_if limit s tokens false first second left Q f g = g

-- the first token is seen, and stays
pub m_one : {B : Type 0} (limit : ℕ) (s : Nesting) (c : Class) (tokens : List Token) (f : Token × List Token → Result B Stop) (left : B → List Token) (Q : Nesting → Type 0) →
    ((token : Token) (rest : List Token) → tokens ≡ token ∷ rest → Is c token → Meets limit s tokens (f (token, rest)) left Q) → Meets limit s tokens (one c tokens >>= f) left Q
unfolding one
m_one limit s c [] f left Q h = ([], s, no_way limit s [], refl)
m_one {B} limit s c (token ∷ rest) f left Q h = go (fits c token) refl
  where
    go : (b : Bool) → fits c token ≡ b → Meets limit s (token ∷ rest) (cond b (Ok (token, rest)) (Err (stops.Syntax (length (token ∷ rest)))) >>= f) left Q
    go true is = h token rest refl is
    go false is = (token ∷ rest, s, no_way limit s (token ∷ rest), refl)

pub m_after : {B : Type 0} (limit : ℕ) (s : Nesting) (c : Class) (tokens : List Token) (f : List Token → Result B Stop) (left : B → List Token) (Q : Nesting → Type 0) →
    ((token : Token) (rest : List Token) → tokens ≡ token ∷ rest → Is c token → Meets limit s tokens (f rest) left Q) → Meets limit s tokens (after_one c tokens >>= f) left Q
unfolding after_one
m_after limit s c [] f left Q h = ([], s, no_way limit s [], refl)
m_after {B} limit s c (token ∷ rest) f left Q h = go (fits c token) refl
  where
    go : (b : Bool) → fits c token ≡ b → Meets limit s (token ∷ rest) (cond b (Ok rest) (Err (stops.Syntax (length (token ∷ rest)))) >>= f) left Q
    go true is = h token rest refl is
    go false is = (token ∷ rest, s, no_way limit s (token ∷ rest), refl)

-- the first token is taken
pub m_take : {B : Type 0} (limit : ℕ) (s : Nesting) (c : Class) (tokens : List Token) (o : List Opened) (t : Nesting) (f : Token × List Token → Result B Stop) (left : B → List Token) (Q : Nesting → Type 0) →
    ((token : Token) → Is c token → Step s token.kind o t) → length o ≤ limit →
    ((token : Token) (rest : List Token) → Meets limit t rest (f (token, rest)) left Q) → Meets limit s tokens (one c tokens >>= f) left Q
m_take limit s c tokens o t f left Q step h g =
    m_one limit s c tokens f left Q (λ token rest e is. m_along limit s tokens rest t (f (token, rest)) left Q (way_one limit s tokens token rest o t e (step token is) h) (g token rest))

pub m_pass : {B : Type 0} (limit : ℕ) (s : Nesting) (c : Class) (tokens : List Token) (o : List Opened) (t : Nesting) (f : List Token → Result B Stop) (left : B → List Token) (Q : Nesting → Type 0) →
    ((token : Token) → Is c token → Step s token.kind o t) → length o ≤ limit →
    ((rest : List Token) → Meets limit t rest (f rest) left Q) → Meets limit s tokens (after_one c tokens >>= f) left Q
m_pass limit s c tokens o t f left Q step h g =
    m_after limit s c tokens f left Q (λ token rest e is. m_along limit s tokens rest t (f rest) left Q (way_one limit s tokens token rest o t e (step token is) h) (g rest))
