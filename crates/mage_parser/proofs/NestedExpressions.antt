-- How deep the tokens of constants and expressions stand, as far as they are read.
use Rattle.std.proofs.Common.{◌≡◌, ℕ, zero, suc, ◌+◌, ◌≤◌, false, List, [], ◌∷◌, length, refl, ap, sym, arith}
use Rattle.mage_lex.specs.Symbols.{COMMA, OPEN_PAREN, CLOSE_PAREN, OPEN_BRACKET, CLOSE_BRACKET, MINUS, AND, XOR, OR, NOT}
use Rattle.mage_lex.specs.declared.token.Token.{Token}
use Rattle.mage_tree.specs.declared.class.Class.{Class}
use Rattle.mage_tree.specs.declared.class.Class.TheVariants as class
use Rattle.mage_tree.specs.declared.class.Keyword.TheVariants as keyword
use Rattle.mage_tree.specs.declared.tree.ConstExpr.{ConstExpr}
use Rattle.mage_tree.specs.declared.tree.Expr.{Expr}
use Rattle.mage_lex.specs.Words as words
use Rattle.mage_tree.specs.Classes.{text_of}
use Rattle.mage_parser.specs.Reads.{Read, begins, calls, operands}
use Rattle.mage_tree.specs.Grammar.{Is, const_operators, operators}
use Rattle.mage_parser.specs.Constants.{const_atom, const_unary, const_chain, const_from, const_in, const_at}
use Rattle.mage_parser.specs.Expressions.{bracketed, index_at, item_at, lit_at, resize_at, mux_at, paren_at, not_at, place_at, choose_at, count_at, name_at, unary_at, chain_at, shift_at, compare_from, compare_at, level_at, expr_from, expr_in, expr_at}
use Rattle.mage_tree.specs.Depth.{Opened, a_bracket, a_sign, Nesting, without_signs, open_at}
use Rattle.mage_parser.proofs.Follow.{after}
use Rattle.mage_parser.proofs.Nested.{fresh, ended, Step, Settles, word_passes, type_passes, comma_settles, and_settles, xor_settles, or_settles, adding_settles, scaling_settles, shifting_settles, comparing_settles, number_ends, name_ends, choosing_ends, counting_ends, call_opens, paren_opens, index_opens, not_opens, minus_opens, Ends, ends_here, settles_at, paren_shuts_at, index_shuts_at, Way, no_way, way_one, Meets, m_along, m_weaker, m_read, m_if, m_one, m_after, m_take, m_pass}

-- what is read is left where an operand has ended
abbrev ConstMeets : ℕ → Nesting → List Token → Read ConstExpr → List Opened → Type 0
ConstMeets limit s tokens read o = Meets limit s tokens read after (Ends o)

-- behind a bracket or a sign, for which there was room
abbrev pub Inside : ℕ → List Opened → Nesting → Type 0
Inside limit o t = Ends o t × (length o ≤ limit)

-- operators and their operands, where the signs before them are complete
pub m_operands : {A : Type 0} (limit : ℕ) (o : List Opened) (operand : List Token → Read A) (c : Class) → Settles c → without_signs o ≡ o → length o ≤ limit →
    ((tokens : List Token) → Meets limit (fresh o) tokens (operand tokens) after (Ends o)) → (most : ℕ) (tokens : List Token) (t : Nesting) → Ends o t →
    Meets limit t tokens (operands operand c most tokens) after (Ends o)
unfolding operands
m_operands limit o operand c settles flat h each zero tokens t ends = (t, no_way limit t tokens, ends)
m_operands limit o operand c settles flat h each (suc most) tokens t ends =
    m_if limit t tokens (begins c tokens) _ _ after (Ends o)
    (m_take limit t c tokens o (fresh o) _ _ _ (settles_at c settles o t flat ends) h (λ op rest.
    m_read limit (fresh o) rest (operand rest) after (Ends o) _ _ _ (each rest) (λ value u e.
    m_read limit u value.1 (operands operand c most value.1) after (Ends o) _ _ _ (m_operands limit o operand c settles flat h each most value.1 u e) (λ more v d. (v, no_way limit v more.1, d)))))
    (t, no_way limit t tokens, ends)

-- above the signs no sign of an operand is open
abbrev Flat : ℕ → List Opened → Type 0
Flat zero o = Unit {0}
Flat (suc zero) o = Unit {0}
Flat (suc (suc level)) o = without_signs o ≡ o

flat_down : (level : ℕ) (o : List Opened) → Flat (suc (suc level)) o → Flat (suc level) o
flat_down zero o flat = tt
flat_down (suc level) o flat = flat

abbrev ConstIn : ℕ → Type 0
ConstIn room = (level : ℕ) (tokens : List Token) (token : Token) (rest : List Token) (limit : ℕ) (s : Nesting) (x : Opened) (o : List Opened) → tokens ≡ token ∷ rest →
    Step s token.kind (x ∷ o) (fresh (x ∷ o)) → length o + room ≡ limit → Flat level (x ∷ o) → Meets limit s tokens (const_in room level tokens) after (Inside limit (x ∷ o))

m_const_atom : (room : ℕ) → ConstIn room → (tokens : List Token) (limit : ℕ) (o : List Opened) → length o + room ≡ limit → ConstMeets limit (fresh o) tokens (const_atom (const_in room) tokens) o
unfolding const_atom
m_const_atom room deep tokens limit o h =
    m_if limit (fresh o) tokens (begins class.Number tokens) _ _ after (Ends o)
    (m_take limit (fresh o) class.Number tokens o (ended o) _ _ _ (number_ends o) (omega arith) (λ token rest. (ended o, no_way limit (ended o) rest, ends_here o)))
    (m_if limit (fresh o) tokens (begins class.Name tokens) _ _ after (Ends o)
    (m_take limit (fresh o) class.Name tokens o (ended o) _ _ _ (name_ends o) (omega arith) (λ token rest. (ended o, no_way limit (ended o) rest, ends_here o)))
    (m_one limit (fresh o) (class.Symbol OPEN_PAREN) tokens _ _ _ (λ token rest e is.
    m_read limit (fresh o) tokens (const_in room 3 tokens) after (Inside limit (a_bracket ∷ o)) _ _ _ (deep 3 tokens token rest limit (fresh o) a_bracket o e (paren_opens o token is) h refl) (λ inner t i.
    m_pass limit t (class.Symbol CLOSE_PAREN) inner.1 (a_bracket ∷ o) (ended o) _ _ _ (paren_shuts_at o t i.0) i.1 (λ others. (ended o, no_way limit (ended o) others, ends_here o))))))

m_const_unary : (room : ℕ) → ConstIn room → (tokens : List Token) (limit : ℕ) (o : List Opened) → length o + room ≡ limit → ConstMeets limit (fresh o) tokens (const_unary (const_in room) tokens) o
unfolding const_unary
m_const_unary room deep tokens limit o h =
    m_if limit (fresh o) tokens (begins (class.Symbol MINUS) tokens) _ _ after (Ends o)
    (m_one limit (fresh o) (class.Symbol MINUS) tokens _ _ _ (λ token rest e is.
    m_read limit (fresh o) tokens (const_in room 1 tokens) after (Inside limit (a_sign ∷ o)) _ _ _ (deep 1 tokens token rest limit (fresh o) a_sign o e (minus_opens o token is) h tt)
    (λ operand t i. (t, no_way limit t operand.1, i.0))))
    (m_const_atom room deep tokens limit o h)

const_settles : (level : ℕ) → Settles (const_operators level)
const_settles zero = scaling_settles
const_settles (suc zero) = scaling_settles
const_settles (suc (suc zero)) = scaling_settles
const_settles (suc (suc (suc level))) = adding_settles

m_const_from : (room : ℕ) → ConstIn room → (level : ℕ) (tokens : List Token) (limit : ℕ) (o : List Opened) → length o + room ≡ limit → Flat level o →
    ConstMeets limit (fresh o) tokens (const_from (const_in room) level tokens) o
unfolding const_from const_chain
m_const_from room deep zero tokens limit o h flat = m_const_atom room deep tokens limit o h
m_const_from room deep (suc zero) tokens limit o h flat = m_const_unary room deep tokens limit o h
m_const_from room deep (suc (suc level)) tokens limit o h flat =
    m_read limit (fresh o) tokens (const_from (const_in room) (suc level) tokens) after (Ends o) _ _ _ (m_const_from room deep (suc level) tokens limit o h (flat_down level o flat)) (λ first t e.
    m_read limit t first.1 (operands (const_from (const_in room) (suc level)) (const_operators (suc (suc level))) (length first.1) first.1) after (Ends o) _ _ _
    (m_operands limit o (const_from (const_in room) (suc level)) (const_operators (suc (suc level))) (const_settles (suc (suc level))) flat (omega arith)
    (λ others. m_const_from room deep (suc level) others limit o h (flat_down level o flat)) (length first.1) first.1 t e)
    (λ rest u d. (u, no_way limit u rest.1, d)))

-- one bracket or sign too many
pub too_deep : (limit : ℕ) (s : Nesting) (tokens : List Token) (token : Token) (rest : List Token) (x : Opened) (o : List Opened) →
    tokens ≡ token ∷ rest → Step s token.kind (x ∷ o) (fresh (x ∷ o)) → length o + 0 ≡ limit →
    (one_token : Token) × (others : List Token) × (t : Nesting) × Way limit s tokens (one_token ∷ others) t × (length (one_token ∷ others) ≡ length tokens) × (length (open_at t one_token.kind) ≡ suc limit)
too_deep limit s tokens token rest x o e step h =
    (token, rest, s, record { front = []; whole = e; shallow = tt; comes = refl }, sym (ap length e), (let k = ap length step.opens in omega (arith, k)))

m_const_in : (room : ℕ) → ConstIn room
unfolding const_in
m_const_in zero level tokens token rest limit s x o e step h flat = too_deep limit s tokens token rest x o e step h
m_const_in (suc room) level tokens token rest limit s x o e step h flat =
    let within : length (x ∷ o) ≤ limit = omega arith in
    m_along limit s tokens rest (fresh (x ∷ o)) _ after (Inside limit (x ∷ o)) (way_one limit s tokens token rest (x ∷ o) (fresh (x ∷ o)) e step within)
    (m_weaker limit (fresh (x ∷ o)) rest _ after (Ends (x ∷ o)) (Inside limit (x ∷ o)) (λ t ends. (ends, within))
    (rw e (m_const_from room (m_const_in room) level rest limit (x ∷ o) (omega arith) flat)))

pub m_const : (room level : ℕ) (tokens : List Token) (limit : ℕ) (o : List Opened) → length o + room ≡ limit → without_signs o ≡ o → ConstMeets limit (fresh o) tokens (const_at room level tokens) o
unfolding const_at
m_const room zero tokens limit o h flat = m_const_from room (m_const_in room) zero tokens limit o h tt
m_const room (suc zero) tokens limit o h flat = m_const_from room (m_const_in room) 1 tokens limit o h tt
m_const room (suc (suc level)) tokens limit o h flat = m_const_from room (m_const_in room) (suc (suc level)) tokens limit o h flat

-- expressions
pub m_bracketed : (room : ℕ) (tokens : List Token) (limit : ℕ) (s : Nesting) (o : List Opened) → ((token : Token) → Is (class.Symbol OPEN_BRACKET) token → Step s token.kind (a_bracket ∷ o) (fresh (a_bracket ∷ o))) →
    length o + room ≡ limit → Meets limit s tokens (bracketed room tokens) after (λ t. t ≡ ended o)
unfolding bracketed
m_bracketed room tokens limit s o opens h =
    m_one limit s (class.Symbol OPEN_BRACKET) tokens _ _ _ (λ token rest e is.
    m_read limit s tokens (const_in room 3 tokens) after (Inside limit (a_bracket ∷ o)) _ _ _ (m_const_in room 3 tokens token rest limit s a_bracket o e (opens token is) h refl) (λ value t i.
    m_pass limit t (class.Symbol CLOSE_BRACKET) value.1 (a_bracket ∷ o) (ended o) _ _ _ (index_shuts_at o t i.0) i.1 (λ others. (ended o, no_way limit (ended o) others, refl))))

pub m_index : (room : ℕ) (tokens : List Token) (limit : ℕ) (s : Nesting) (o : List Opened) (P : Nesting → Type 0) → ((token : Token) → Is (class.Symbol OPEN_BRACKET) token → Step s token.kind (a_bracket ∷ o) (fresh (a_bracket ∷ o))) →
    length o + room ≡ limit → P s → P (ended o) → Meets limit s tokens (index_at room tokens) after P
unfolding index_at
m_index room tokens limit s o P opens h here there =
    m_if limit s tokens (begins (class.Symbol OPEN_BRACKET) tokens) _ _ after P
    (m_read limit s tokens (bracketed room tokens) after (λ t. t ≡ ended o) _ _ _ (m_bracketed room tokens limit s o opens h) (λ index t e. (t, no_way limit t index.1, (rw e there))))
    (s, no_way limit s tokens, here)

pub m_item : (room : ℕ) (tokens : List Token) (limit : ℕ) (o : List Opened) → length o + room ≡ limit → Meets limit (fresh o) tokens (item_at room tokens) after (λ t. t ≡ ended o)
unfolding item_at
m_item room tokens limit o h =
    m_take limit (fresh o) class.Name tokens o (ended o) _ _ _ (name_ends o) (omega arith) (λ name rest.
    m_read limit (ended o) rest (index_at room rest) after (λ t. t ≡ ended o) _ _ _ (m_index room rest limit (ended o) o (λ t. t ≡ ended o) (index_opens o) h refl refl) (λ index t e. (t, no_way limit t index.1, e)))

abbrev ExprMeets : ℕ → Nesting → List Token → Read Expr → List Opened → Type 0
ExprMeets limit s tokens read o = Meets limit s tokens read after (Ends o)

abbrev ExprFlat : ℕ → List Opened → Type 0
ExprFlat zero o = Unit {0}
ExprFlat (suc level) o = without_signs o ≡ o

expr_flat_down : (level : ℕ) (o : List Opened) → without_signs o ≡ o → ExprFlat level o
expr_flat_down zero o flat = tt
expr_flat_down (suc level) o flat = flat

abbrev ExprIn : ℕ → Type 0
ExprIn room = (level : ℕ) (tokens : List Token) (token : Token) (rest : List Token) (limit : ℕ) (s : Nesting) (x : Opened) (o : List Opened) → tokens ≡ token ∷ rest →
    Step s token.kind (x ∷ o) (fresh (x ∷ o)) → length o + room ≡ limit → ExprFlat level (x ∷ o) → Meets limit s tokens (expr_in room level tokens) after (Inside limit (x ∷ o))

keywords_apart : (words.is_name (text_of keyword.Lit) ≡ false) × (words.is_name (text_of keyword.Resize) ≡ false) × (words.is_name (text_of keyword.Mux) ≡ false)
unfolding text_of words.is_keyword
keywords_apart = (refl, refl, refl)

m_not : (room : ℕ) → ExprIn room → (tokens : List Token) (limit : ℕ) (o : List Opened) → length o + room ≡ limit → ExprMeets limit (fresh o) tokens (not_at (expr_in room) tokens) o
unfolding not_at
m_not room deep tokens limit o h =
    m_one limit (fresh o) (class.Symbol NOT) tokens _ _ _ (λ token rest e is.
    m_read limit (fresh o) tokens (expr_in room 0 tokens) after (Inside limit (a_sign ∷ o)) _ _ _ (deep 0 tokens token rest limit (fresh o) a_sign o e (not_opens o token is) h tt)
    (λ operand t i. (t, no_way limit t operand.1, i.0)))

m_place : (room : ℕ) (tokens : List Token) (limit : ℕ) (o : List Opened) → length o + room ≡ limit → ExprMeets limit (fresh o) tokens (place_at room tokens) o
unfolding place_at
m_place room tokens limit o h =
    m_read limit (fresh o) tokens (item_at room tokens) after (λ t. t ≡ ended o) _ _ _ (m_item room tokens limit o h) (λ item t e. (t, no_way limit t item.1, (o, e, refl)))

m_lit : (room : ℕ) (tokens : List Token) (limit : ℕ) (o : List Opened) → length o + room ≡ limit → ExprMeets limit (fresh o) tokens (lit_at room tokens) o
unfolding lit_at
m_lit room tokens limit o h =
    m_take limit (fresh o) (class.Word keyword.Lit) tokens o (fresh o) _ _ _ (word_passes keyword.Lit keywords_apart.0 o) (omega arith) (λ word r1.
    m_take limit (fresh o) class.Type r1 o (fresh o) _ _ _ (type_passes o) (omega arith) (λ ty r2.
    m_after limit (fresh o) (class.Symbol OPEN_PAREN) r2 _ _ _ (λ token rest e is.
    m_read limit (fresh o) r2 (const_in room 3 r2) after (Inside limit (a_bracket ∷ o)) _ _ _ (m_const_in room 3 r2 token rest limit (fresh o) a_bracket o e (paren_opens o token is) h refl) (λ value t i.
    m_pass limit t (class.Symbol CLOSE_PAREN) value.1 (a_bracket ∷ o) (ended o) _ _ _ (paren_shuts_at o t i.0) i.1 (λ others. (ended o, no_way limit (ended o) others, ends_here o))))))

m_resize : (room : ℕ) → ExprIn room → (tokens : List Token) (limit : ℕ) (o : List Opened) → length o + room ≡ limit → ExprMeets limit (fresh o) tokens (resize_at (expr_in room) tokens) o
unfolding resize_at
m_resize room deep tokens limit o h =
    m_take limit (fresh o) (class.Word keyword.Resize) tokens o (fresh o) _ _ _ (word_passes keyword.Resize keywords_apart.1 o) (omega arith) (λ word r1.
    m_take limit (fresh o) class.Type r1 o (fresh o) _ _ _ (type_passes o) (omega arith) (λ ty r2.
    m_after limit (fresh o) (class.Symbol OPEN_PAREN) r2 _ _ _ (λ token rest e is.
    m_read limit (fresh o) r2 (expr_in room 7 r2) after (Inside limit (a_bracket ∷ o)) _ _ _ (deep 7 r2 token rest limit (fresh o) a_bracket o e (paren_opens o token is) h refl) (λ value t i.
    m_pass limit t (class.Symbol CLOSE_PAREN) value.1 (a_bracket ∷ o) (ended o) _ _ _ (paren_shuts_at o t i.0) i.1 (λ others. (ended o, no_way limit (ended o) others, ends_here o))))))

comma_opens : (o : List Opened) (t : Nesting) → Ends (a_bracket ∷ o) t → (token : Token) → Is (class.Symbol COMMA) token → Step t token.kind (a_bracket ∷ o) (fresh (a_bracket ∷ o))
comma_opens o t ends token is = settles_at (class.Symbol COMMA) comma_settles (a_bracket ∷ o) t refl ends token is

m_mux : (room : ℕ) → ExprIn room → (tokens : List Token) (limit : ℕ) (o : List Opened) → length o + room ≡ limit → ExprMeets limit (fresh o) tokens (mux_at (expr_in room) tokens) o
unfolding mux_at
m_mux room deep tokens limit o h =
    m_take limit (fresh o) (class.Word keyword.Mux) tokens o (fresh o) _ _ _ (word_passes keyword.Mux keywords_apart.2 o) (omega arith) (λ word r1.
    m_after limit (fresh o) (class.Symbol OPEN_PAREN) r1 _ _ _ (λ token r2 e is.
    m_read limit (fresh o) r1 (expr_in room 7 r1) after (Inside limit (a_bracket ∷ o)) _ _ _ (deep 7 r1 token r2 limit (fresh o) a_bracket o e (paren_opens o token is) h refl) (λ condition t i.
    m_after limit t (class.Symbol COMMA) condition.1 _ _ _ (λ comma r3 e3 is3.
    m_read limit t condition.1 (expr_in room 7 condition.1) after (Inside limit (a_bracket ∷ o)) _ _ _ (deep 7 condition.1 comma r3 limit t a_bracket o e3 (comma_opens o t i.0 comma is3) h refl) (λ chosen u j.
    m_after limit u (class.Symbol COMMA) chosen.1 _ _ _ (λ second_comma r4 e4 is4.
    m_read limit u chosen.1 (expr_in room 7 chosen.1) after (Inside limit (a_bracket ∷ o)) _ _ _ (deep 7 chosen.1 second_comma r4 limit u a_bracket o e4 (comma_opens o u j.0 second_comma is4) h refl) (λ other v k.
    m_pass limit v (class.Symbol CLOSE_PAREN) other.1 (a_bracket ∷ o) (ended o) _ _ _ (paren_shuts_at o v k.0) k.1 (λ others. (ended o, no_way limit (ended o) others, ends_here o)))))))))

m_choose : (room : ℕ) → ExprIn room → (tokens : List Token) (limit : ℕ) (o : List Opened) → length o + room ≡ limit → ExprMeets limit (fresh o) tokens (choose_at (expr_in room) tokens) o
unfolding choose_at
m_choose room deep tokens limit o h =
    m_take limit (fresh o) class.Choosing tokens o (ended o) _ _ _ (choosing_ends o) (omega arith) (λ word r1.
    m_after limit (ended o) (class.Symbol OPEN_PAREN) r1 _ _ _ (λ token r2 e is.
    m_read limit (ended o) r1 (expr_in room 7 r1) after (Inside limit (a_bracket ∷ o)) _ _ _ (deep 7 r1 token r2 limit (ended o) a_bracket o e (call_opens o token is) h refl) (λ first t i.
    m_after limit t (class.Symbol COMMA) first.1 _ _ _ (λ comma r3 e3 is3.
    m_read limit t first.1 (expr_in room 7 first.1) after (Inside limit (a_bracket ∷ o)) _ _ _ (deep 7 first.1 comma r3 limit t a_bracket o e3 (comma_opens o t i.0 comma is3) h refl) (λ second u j.
    m_pass limit u (class.Symbol CLOSE_PAREN) second.1 (a_bracket ∷ o) (ended o) _ _ _ (paren_shuts_at o u j.0) j.1 (λ others. (ended o, no_way limit (ended o) others, ends_here o)))))))

m_count : (room : ℕ) → ExprIn room → (tokens : List Token) (limit : ℕ) (o : List Opened) → length o + room ≡ limit → ExprMeets limit (fresh o) tokens (count_at (expr_in room) tokens) o
unfolding count_at
m_count room deep tokens limit o h =
    m_take limit (fresh o) class.Counting tokens o (ended o) _ _ _ (counting_ends o) (omega arith) (λ word r1.
    m_after limit (ended o) (class.Symbol OPEN_PAREN) r1 _ _ _ (λ token r2 e is.
    m_read limit (ended o) r1 (expr_in room 7 r1) after (Inside limit (a_bracket ∷ o)) _ _ _ (deep 7 r1 token r2 limit (ended o) a_bracket o e (call_opens o token is) h refl) (λ operand t i.
    m_pass limit t (class.Symbol CLOSE_PAREN) operand.1 (a_bracket ∷ o) (ended o) _ _ _ (paren_shuts_at o t i.0) i.1 (λ others. (ended o, no_way limit (ended o) others, ends_here o)))))

m_name : (room : ℕ) → ExprIn room → (tokens : List Token) (limit : ℕ) (o : List Opened) → length o + room ≡ limit → ExprMeets limit (fresh o) tokens (name_at (expr_in room) room tokens) o
unfolding name_at
m_name room deep tokens limit o h =
    m_if limit (fresh o) tokens (calls class.Choosing tokens) _ _ after (Ends o) (m_choose room deep tokens limit o h)
    (m_if limit (fresh o) tokens (calls class.Counting tokens) _ _ after (Ends o) (m_count room deep tokens limit o h)
    (m_place room tokens limit o h))

m_paren : (room : ℕ) → ExprIn room → (tokens : List Token) (limit : ℕ) (o : List Opened) → length o + room ≡ limit → ExprMeets limit (fresh o) tokens (paren_at (expr_in room) tokens) o
unfolding paren_at
m_paren room deep tokens limit o h =
    m_one limit (fresh o) (class.Symbol OPEN_PAREN) tokens _ _ _ (λ token rest e is.
    m_read limit (fresh o) tokens (expr_in room 7 tokens) after (Inside limit (a_bracket ∷ o)) _ _ _ (deep 7 tokens token rest limit (fresh o) a_bracket o e (paren_opens o token is) h refl) (λ inner t i.
    m_pass limit t (class.Symbol CLOSE_PAREN) inner.1 (a_bracket ∷ o) (ended o) _ _ _ (paren_shuts_at o t i.0) i.1 (λ others. (ended o, no_way limit (ended o) others, ends_here o))))

m_unary : (room : ℕ) → ExprIn room → (tokens : List Token) (limit : ℕ) (o : List Opened) → length o + room ≡ limit → ExprMeets limit (fresh o) tokens (unary_at (expr_in room) room tokens) o
unfolding unary_at
m_unary room deep tokens limit o h =
    m_if limit (fresh o) tokens (begins (class.Symbol NOT) tokens) _ _ after (Ends o) (m_not room deep tokens limit o h)
    (m_if limit (fresh o) tokens (begins class.Name tokens) _ _ after (Ends o) (m_name room deep tokens limit o h)
    (m_if limit (fresh o) tokens (begins (class.Word keyword.Lit) tokens) _ _ after (Ends o) (m_lit room tokens limit o h)
    (m_if limit (fresh o) tokens (begins (class.Word keyword.Resize) tokens) _ _ after (Ends o) (m_resize room deep tokens limit o h)
    (m_if limit (fresh o) tokens (begins (class.Word keyword.Mux) tokens) _ _ after (Ends o) (m_mux room deep tokens limit o h)
    (m_paren room deep tokens limit o h)))))

-- what an operand of a level does
abbrev Each : ℕ → List Opened → (List Token → Read Expr) → Type 0
Each limit o operand = (tokens : List Token) → ExprMeets limit (fresh o) tokens (operand tokens) o

m_chain : (c : Class) → Settles c → (limit : ℕ) (o : List Opened) (operand : List Token → Read Expr) → without_signs o ≡ o → length o ≤ limit → Each limit o operand → Each limit o (chain_at operand c)
unfolding chain_at
m_chain c settles limit o operand flat h each tokens =
    m_read limit (fresh o) tokens (operand tokens) after (Ends o) _ _ _ (each tokens) (λ first t e.
    m_read limit t first.1 (operands operand c (length first.1) first.1) after (Ends o) _ _ _ (m_operands limit o operand c settles flat h each (length first.1) first.1 t e)
    (λ rest u d. (u, no_way limit u rest.1, d)))

m_shift : (room limit : ℕ) (o : List Opened) (operand : List Token → Read Expr) → without_signs o ≡ o → length o + room ≡ limit → Each limit o operand → Each limit o (shift_at operand room)
unfolding shift_at
m_shift room limit o operand flat h each tokens =
    m_read limit (fresh o) tokens (operand tokens) after (Ends o) _ _ _ (each tokens) (λ first t e.
    m_read limit t first.1 (operands (const_at room 0) class.Shifting (length first.1) first.1) after (Ends o) _ _ _
    (m_operands limit o (const_at room 0) class.Shifting shifting_settles flat (omega arith) (λ others. m_const room 0 others limit o h flat) (length first.1) first.1 t e)
    (λ rest u d. (u, no_way limit u rest.1, d)))

m_compare : (limit : ℕ) (o : List Opened) (operand : List Token → Read Expr) → without_signs o ≡ o → length o ≤ limit → Each limit o operand → Each limit o (compare_at operand)
unfolding compare_at compare_from
m_compare limit o operand flat h each tokens =
    m_read limit (fresh o) tokens (operand tokens) after (Ends o) _ _ _ (each tokens) (λ first t e.
    m_if limit t first.1 (begins class.Comparing first.1) _ _ after (Ends o)
    (m_take limit t class.Comparing first.1 o (fresh o) _ _ _ (settles_at class.Comparing comparing_settles o t flat e) h (λ op rest.
    m_read limit (fresh o) rest (operand rest) after (Ends o) _ _ _ (each rest) (λ second u d. (u, no_way limit u second.1, d))))
    (t, no_way limit t first.1, e))

m_level : (level room limit : ℕ) (o : List Opened) (operand : List Token → Read Expr) → without_signs o ≡ o → length o + room ≡ limit → Each limit o operand →
    Each limit o (level_at (operators (suc level)) operand room)
m_level zero room limit o operand flat h each tokens = m_chain class.Scaling scaling_settles limit o operand flat (omega arith) each tokens
m_level (suc zero) room limit o operand flat h each tokens = m_chain class.Adding adding_settles limit o operand flat (omega arith) each tokens
m_level (suc (suc zero)) room limit o operand flat h each tokens = m_shift room limit o operand flat h each tokens
m_level (suc (suc (suc zero))) room limit o operand flat h each tokens = m_chain (class.Symbol AND) and_settles limit o operand flat (omega arith) each tokens
m_level (suc (suc (suc (suc zero)))) room limit o operand flat h each tokens = m_chain (class.Symbol XOR) xor_settles limit o operand flat (omega arith) each tokens
m_level (suc (suc (suc (suc (suc zero))))) room limit o operand flat h each tokens = m_chain (class.Symbol OR) or_settles limit o operand flat (omega arith) each tokens
m_level (suc (suc (suc (suc (suc (suc level)))))) room limit o operand flat h each tokens = m_compare limit o operand flat (omega arith) each tokens

m_expr_from : (room : ℕ) → ExprIn room → (level : ℕ) (tokens : List Token) (limit : ℕ) (o : List Opened) → length o + room ≡ limit → ExprFlat level o →
    ExprMeets limit (fresh o) tokens (expr_from (expr_in room) room level tokens) o
unfolding expr_from
m_expr_from room deep zero tokens limit o h flat = m_unary room deep tokens limit o h
m_expr_from room deep (suc level) tokens limit o h flat =
    m_level level room limit o (expr_from (expr_in room) room level) flat h (λ others. m_expr_from room deep level others limit o h (expr_flat_down level o flat)) tokens

m_expr_in : (room : ℕ) → ExprIn room
unfolding expr_in
m_expr_in zero level tokens token rest limit s x o e step h flat = too_deep limit s tokens token rest x o e step h
m_expr_in (suc room) level tokens token rest limit s x o e step h flat =
    let within : length (x ∷ o) ≤ limit = omega arith in
    m_along limit s tokens rest (fresh (x ∷ o)) _ after (Inside limit (x ∷ o)) (way_one limit s tokens token rest (x ∷ o) (fresh (x ∷ o)) e step within)
    (m_weaker limit (fresh (x ∷ o)) rest _ after (Ends (x ∷ o)) (Inside limit (x ∷ o)) (λ t ends. (ends, within))
    (rw e (m_expr_from room (m_expr_in room) level rest limit (x ∷ o) (omega arith) flat)))

pub m_expr : (room : ℕ) (tokens : List Token) (limit : ℕ) (o : List Opened) → length o + room ≡ limit → without_signs o ≡ o → ExprMeets limit (fresh o) tokens (expr_at room 7 tokens) o
unfolding expr_at
m_expr room tokens limit o h flat = m_expr_from room (m_expr_in room) 7 tokens limit o h flat
