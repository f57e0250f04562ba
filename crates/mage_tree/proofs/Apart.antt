-- Which kinds of tokens are of a class, and which classes are apart.
use Rattle.std.proofs.Common.{◌≡◌, ℕ, Bool, true, false, ◌||◌, ◌==◌, List, refl, sym, ◌∙◌}
use Rattle.std.proofs.lemmas.Slice.Eq.{bytes_eq-Decides}
use Rattle.std.specs.Str.{bytes_eq}
use Rattle.std.proofs.lemmas.Bool.{eqb-true}
use Rattle.mage_lex.specs.Symbols.{EQUALS, SHIFT_LEFT, SHIFT_RIGHT, LESS, PLUS, MINUS, TIMES, DIVIDE, REMAINDER}
use Rattle.mage_lex.specs.declared.token.Token.{Token}
use Rattle.mage_lex.specs.declared.token.TokenKind.{TokenKind}
use Rattle.mage_lex.specs.declared.token.TokenKind.TheVariants as kinds
use Rattle.mage_lex.specs.Words as words
use Rattle.mage_tree.specs.declared.class.Keyword.{Keyword}
use Rattle.mage_tree.specs.declared.class.Keyword.TheVariants as keyword
use Rattle.mage_tree.specs.declared.class.Callable.{Callable}
use Rattle.mage_tree.specs.declared.class.Callable.TheVariants as callable
use Rattle.mage_tree.specs.declared.class.Class.{Class}
use Rattle.mage_tree.specs.declared.class.Class.TheVariants as class
use Rattle.mage_tree.specs.Classes.{text_of, call_text, is_word_with, is_word, is_call, is_symbol_kind, is_symbol, is_number_kind, is_number, is_name, is_type, fits}
use Rattle.mage_tree.specs.Grammar.{Is}

-- the kind is of the class
abbrev pub fits_kind : Class → TokenKind → Bool
fits_kind (class.Word word) kind = is_word_with (λ text. bytes_eq text (text_of word)) kind
fits_kind (class.Symbol row) kind = is_symbol_kind row kind
fits_kind class.Number kind = is_number_kind kind
fits_kind class.Name kind = is_word_with words.is_name kind
fits_kind class.Type kind = is_word_with words.is_type_word kind
fits_kind class.Party kind = is_word_with (λ text. bytes_eq text (text_of keyword.Garbler)) kind || is_word_with (λ text. bytes_eq text (text_of keyword.Evaluator)) kind
fits_kind class.Choosing kind = is_word_with (λ text. bytes_eq text (call_text callable.Min)) kind || is_word_with (λ text. bytes_eq text (call_text callable.Max)) kind
fits_kind class.Counting kind = is_word_with (λ text. bytes_eq text (call_text callable.Count)) kind
fits_kind class.Adding kind = is_symbol_kind PLUS kind || is_symbol_kind MINUS kind
fits_kind class.Scaling kind = is_symbol_kind TIMES kind || is_symbol_kind DIVIDE kind || is_symbol_kind REMAINDER kind
fits_kind class.Shifting kind = is_symbol_kind SHIFT_LEFT kind || is_symbol_kind SHIFT_RIGHT kind
fits_kind class.Comparing kind = is_symbol_kind EQUALS kind || is_symbol_kind LESS kind

pub by_kind : (c : Class) (token : Token) → fits c token ≡ fits_kind c token.kind
unfolding fits is_word is_call is_symbol is_number is_name is_type
by_kind (class.Word word) token = refl
by_kind (class.Symbol row) token = refl
by_kind class.Number token = refl
by_kind class.Name token = refl
by_kind class.Type token = refl
by_kind class.Party token = refl
by_kind class.Choosing token = refl
by_kind class.Counting token = refl
by_kind class.Adding token = refl
by_kind class.Scaling token = refl
by_kind class.Shifting token = refl
by_kind class.Comparing token = refl

-- what holds of each kind of a class
abbrev pub Kinds : Class → (TokenKind → Type 0) → Type 0
Kinds (class.Word word) P = P (kinds.Word (text_of word))
Kinds (class.Symbol row) P = P (kinds.Symbol row)
Kinds class.Number P = (value : ℕ) → P (kinds.Number value)
Kinds class.Name P = (text : List ℕ) → words.is_name text ≡ true → P (kinds.Word text)
Kinds class.Type P = (text : List ℕ) → words.is_type_word text ≡ true → P (kinds.Word text)
Kinds class.Party P = P (kinds.Word (text_of keyword.Garbler)) × P (kinds.Word (text_of keyword.Evaluator))
Kinds class.Choosing P = P (kinds.Word (call_text callable.Min)) × P (kinds.Word (call_text callable.Max))
Kinds class.Counting P = P (kinds.Word (call_text callable.Count))
Kinds class.Adding P = P (kinds.Symbol PLUS) × P (kinds.Symbol MINUS)
Kinds class.Scaling P = P (kinds.Symbol TIMES) × P (kinds.Symbol DIVIDE) × P (kinds.Symbol REMAINDER)
Kinds class.Shifting P = P (kinds.Symbol SHIFT_LEFT) × P (kinds.Symbol SHIFT_RIGHT)
Kinds class.Comparing P = P (kinds.Symbol EQUALS) × P (kinds.Symbol LESS)

same_number : (a b : ℕ) → (a == b) ≡ true → a ≡ b
same_number a b e = eqb-true a b e

same_text : (a b : List ℕ) → bytes_eq a b ≡ true → a ≡ b
same_text a b e = (bytes_eq-Decides a b).0 e

either : (a b : Bool) {P : Type 0} → (a ≡ true → P) → (b ≡ true → P) → (a || b) ≡ true → P
either true b f g e = f refl
either false b f g e = g e

word_kind : (word : Keyword) (kind : TokenKind) (P : TokenKind → Type 0) → P (kinds.Word (text_of word)) → fits_kind (class.Word word) kind ≡ true → P kind
word_kind word (kinds.Word text) P p e = rw (same_text text (text_of word) e) p
word_kind word (kinds.Number value) P p e = absurd (cc)
word_kind word (kinds.Symbol row) P p e = absurd (cc)

call_kind : (word : Callable) (kind : TokenKind) (P : TokenKind → Type 0) → P (kinds.Word (call_text word)) → is_word_with (λ text. bytes_eq text (call_text word)) kind ≡ true → P kind
call_kind word (kinds.Word text) P p e = rw (same_text text (call_text word) e) p
call_kind word (kinds.Number value) P p e = absurd (cc)
call_kind word (kinds.Symbol row) P p e = absurd (cc)

symbol_kind : (row : ℕ) (kind : TokenKind) (P : TokenKind → Type 0) → P (kinds.Symbol row) → is_symbol_kind row kind ≡ true → P kind
symbol_kind row (kinds.Word text) P p e = absurd (cc)
symbol_kind row (kinds.Number value) P p e = absurd (cc)
symbol_kind row (kinds.Symbol other) P p e = rw (same_number other row e) p

number_kind : (kind : TokenKind) (P : TokenKind → Type 0) → ((value : ℕ) → P (kinds.Number value)) → is_number_kind kind ≡ true → P kind
number_kind (kinds.Word text) P p e = absurd (cc)
number_kind (kinds.Number value) P p e = p value
number_kind (kinds.Symbol other) P p e = absurd (cc)

text_kind : (test : List ℕ → Bool) (kind : TokenKind) (P : TokenKind → Type 0) → ((text : List ℕ) → test text ≡ true → P (kinds.Word text)) → is_word_with test kind ≡ true → P kind
text_kind test (kinds.Word text) P p e = p text e
text_kind test (kinds.Number value) P p e = absurd (cc)
text_kind test (kinds.Symbol other) P p e = absurd (cc)

pub each_kind : (c : Class) (kind : TokenKind) (P : TokenKind → Type 0) → Kinds c P → fits_kind c kind ≡ true → P kind
each_kind (class.Word word) kind P p e = word_kind word kind P p e
each_kind (class.Symbol row) kind P p e = symbol_kind row kind P p e
each_kind class.Number kind P p e = number_kind kind P p e
each_kind class.Name kind P p e = text_kind words.is_name kind P p e
each_kind class.Type kind P p e = text_kind words.is_type_word kind P p e
each_kind class.Party kind P p e =
    either (fits_kind (class.Word keyword.Garbler) kind) (fits_kind (class.Word keyword.Evaluator) kind)
    (word_kind keyword.Garbler kind P p.0) (word_kind keyword.Evaluator kind P p.1) e
each_kind class.Choosing kind P p e =
    either (is_word_with (λ text. bytes_eq text (call_text callable.Min)) kind) (is_word_with (λ text. bytes_eq text (call_text callable.Max)) kind)
    (call_kind callable.Min kind P p.0) (call_kind callable.Max kind P p.1) e
each_kind class.Counting kind P p e = call_kind callable.Count kind P p e
each_kind class.Adding kind P p e = either (is_symbol_kind PLUS kind) (is_symbol_kind MINUS kind) (symbol_kind PLUS kind P p.0) (symbol_kind MINUS kind P p.1) e
each_kind class.Scaling kind P p e =
    either (is_symbol_kind TIMES kind || is_symbol_kind DIVIDE kind) (is_symbol_kind REMAINDER kind)
    (either (is_symbol_kind TIMES kind) (is_symbol_kind DIVIDE kind) (symbol_kind TIMES kind P p.0) (symbol_kind DIVIDE kind P p.1))
    (symbol_kind REMAINDER kind P p.2) e
each_kind class.Shifting kind P p e = either (is_symbol_kind SHIFT_LEFT kind) (is_symbol_kind SHIFT_RIGHT kind) (symbol_kind SHIFT_LEFT kind P p.0) (symbol_kind SHIFT_RIGHT kind P p.1) e
each_kind class.Comparing kind P p e = either (is_symbol_kind EQUALS kind) (is_symbol_kind LESS kind) (symbol_kind EQUALS kind P p.0) (symbol_kind LESS kind P p.1) e

-- a token of one class isn't of another that no kind of the first is of
pub apart : (c d : Class) → Kinds c (λ kind. fits_kind d kind ≡ false) → (token : Token) → Is c token → fits d token ≡ false
apart c d h token is = by_kind d token ∙ each_kind c token.kind (λ kind. fits_kind d kind ≡ false) h (sym (by_kind c token) ∙ is)

-- a name is no keyword
pub name_apart : (word : Keyword) → words.is_name (text_of word) ≡ false → (text : List ℕ) → words.is_name text ≡ true → bytes_eq text (text_of word) ≡ false
name_apart word h text e = go (bytes_eq text (text_of word)) refl
  where
    go : (b : Bool) → bytes_eq text (text_of word) ≡ b → b ≡ false
    go true same = absurd (let known : text ≡ text_of word = same_text text (text_of word) same in let both : words.is_name text ≡ false = rw known h in cc (both, e))
    go false same = refl
