-- What is read as an expression is in the grammar.
use Rattle.std.proofs.Common.{◌≡◌, ℕ, zero, suc, ◌<◌, true, List, [], ◌∷◌, length, refl, arith}
use Rattle.std.specs.Prelude.{Some, IfOk}
use Rattle.mage_lex.specs.Symbols.{COMMA, OPEN_PAREN, CLOSE_PAREN, OPEN_BRACKET, CLOSE_BRACKET, NOT}
use Rattle.mage_lex.specs.declared.token.Token.{Token}
use Rattle.mage_tree.specs.declared.class.Class.TheVariants as class
use Rattle.mage_tree.specs.declared.class.Keyword.TheVariants as keyword
use Rattle.mage_tree.specs.declared.tree.ConstExpr.{ConstExpr}
use Rattle.mage_tree.specs.declared.tree.Expr.{Expr}
use Rattle.mage_tree.specs.declared.tree.Expr.TheVariants as expr
use Rattle.mage_parser.specs.Reads.{Read, begins, calls, operands}
use Rattle.mage_tree.specs.Grammar.{Is, IsIndex, IsItem, AreAmounts, IsExpr, AreExprs, operators, is_listed}
use Rattle.mage_parser.specs.Constants.{const_in, const_at}
use Rattle.mage_parser.specs.Expressions.{bracketed, index_at, item_at, lit_at, resize_at, mux_at, paren_at, not_at, place_at, choose_at, count_at, name_at, unary_at, chain_of, shift_of, chain_at, shift_at, compare_from, compare_at, level_at, expr_from, expr_in, expr_at}
use Rattle.mage_parser.proofs.Sound.{one_then, after_then, read_then, if_then, weaker, const_in_sound, const_sound}

pub bracketed_sound : (room : ℕ) (tokens : List Token) → IfOk (bracketed room tokens) (λ x. IsIndex room (Some x.0) tokens x.1)
unfolding bracketed
bracketed_sound room tokens =
    one_then (class.Symbol OPEN_BRACKET) tokens _ _ (λ token rest e is.
    read_then (const_in room 3 tokens) _ _ _ (const_in_sound room 3 tokens token rest e) (λ value d.
    after_then (class.Symbol CLOSE_BRACKET) value.1 _ _ (λ close_token after last shut.
    rw (e, d.1) (IsIndex.present is (rw last at d.2) shut))))

pub index_sound : (room : ℕ) (tokens : List Token) → IfOk (index_at room tokens) (λ x. IsIndex room x.0 tokens x.1)
unfolding index_at
index_sound room tokens =
    if_then (begins (class.Symbol OPEN_BRACKET) tokens) _ _ _
    (read_then (bracketed room tokens) _ _ _ (bracketed_sound room tokens) (λ index d. d))
    IsIndex.absent

pub item_sound : (room : ℕ) (tokens : List Token) → IfOk (item_at room tokens) (λ x. IsItem room x.0 tokens x.1)
unfolding item_at
item_sound room tokens =
    one_then class.Name tokens _ _ (λ token rest e is.
    read_then (index_at room rest) _ _ _ (index_sound room rest) (λ index d.
    rw e (IsItem.place is d)))

place_sound : (room : ℕ) (tokens : List Token) → IfOk (place_at room tokens) (λ x. IsExpr 0 room x.0 tokens x.1)
unfolding place_at
place_sound room tokens = read_then (item_at room tokens) _ _ _ (item_sound room tokens) (λ item d. IsExpr.item d)

lit_sound : (room : ℕ) (tokens : List Token) → IfOk (lit_at room tokens) (λ x. IsExpr 0 room x.0 tokens x.1)
unfolding lit_at
lit_sound room tokens =
    one_then (class.Word keyword.Lit) tokens _ _ (λ word r1 e1 i1.
    one_then class.Type r1 _ _ (λ ty r2 e2 i2.
    after_then (class.Symbol OPEN_PAREN) r2 _ _ (λ bracket r3 e3 i3.
    read_then (const_in room 3 r2) _ _ _ (const_in_sound room 3 r2 bracket r3 e3) (λ value d.
    after_then (class.Symbol CLOSE_PAREN) value.1 _ _ (λ close_token after last shut.
    rw (e1, e2, e3, d.1) (IsExpr.lit i1 i2 i3 (rw last at d.2) shut))))))

-- what `deeper` reads behind the first token is in the grammar, with less room
abbrev IsSoundIn : ℕ → (ℕ → List Token → Read Expr) → Type 0
IsSoundIn room deeper = (level : ℕ) → level < 8 → (tokens : List Token) (token : Token) (rest : List Token) → tokens ≡ token ∷ rest →
    IfOk (deeper level tokens) (λ x. (less : ℕ) × (room ≡ suc less) × IsExpr level less x.0 rest x.1)

below_eight : 7 < 8
below_eight = omega arith

none_below_eight : 0 < 8
none_below_eight = omega arith

paren_sound : (room : ℕ) (deeper : ℕ → List Token → Read Expr) → IsSoundIn room deeper → (tokens : List Token) →
    IfOk (paren_at deeper tokens) (λ x. IsExpr 0 room x.0 tokens x.1)
unfolding paren_at
paren_sound room deeper deep tokens =
    one_then (class.Symbol OPEN_PAREN) tokens _ _ (λ token rest e is.
    read_then (deeper 7 tokens) _ _ _ (deep 7 below_eight tokens token rest e) (λ inner d.
    after_then (class.Symbol CLOSE_PAREN) inner.1 _ _ (λ close_token after last shut.
    rw (e, d.1) (IsExpr.paren is (rw last at d.2) shut))))

not_sound : (room : ℕ) (deeper : ℕ → List Token → Read Expr) → IsSoundIn room deeper → (tokens : List Token) →
    IfOk (not_at deeper tokens) (λ x. IsExpr 0 room x.0 tokens x.1)
unfolding not_at
not_sound room deeper deep tokens =
    one_then (class.Symbol NOT) tokens _ _ (λ token rest e is.
    read_then (deeper 0 tokens) _ _ _ (deep 0 none_below_eight tokens token rest e) (λ operand d.
    rw (e, d.1) (IsExpr.«not» is d.2)))

resize_sound : (room : ℕ) (deeper : ℕ → List Token → Read Expr) → IsSoundIn room deeper → (tokens : List Token) →
    IfOk (resize_at deeper tokens) (λ x. IsExpr 0 room x.0 tokens x.1)
unfolding resize_at
resize_sound room deeper deep tokens =
    one_then (class.Word keyword.Resize) tokens _ _ (λ word r1 e1 i1.
    one_then class.Type r1 _ _ (λ ty r2 e2 i2.
    after_then (class.Symbol OPEN_PAREN) r2 _ _ (λ bracket r3 e3 i3.
    read_then (deeper 7 r2) _ _ _ (deep 7 below_eight r2 bracket r3 e3) (λ operand d.
    after_then (class.Symbol CLOSE_PAREN) operand.1 _ _ (λ close_token after last shut.
    rw (e1, e2, e3, d.1) (IsExpr.resize i1 i2 i3 (rw last at d.2) shut))))))

same_room : {room less other : ℕ} → room ≡ suc less → room ≡ suc other → other ≡ less
same_room a b = omega arith

mux_case : {room less second third : ℕ} {word open_token comma second_comma close_token : Token} {condition chosen other : Expr} {r0 r1 r2 after : List Token} →
    Is (class.Word keyword.Mux) word → Is (class.Symbol OPEN_PAREN) open_token →
    room ≡ suc less → IsExpr 7 less condition r0 (comma ∷ r1) → Is (class.Symbol COMMA) comma →
    room ≡ suc second → IsExpr 7 second chosen r1 (second_comma ∷ r2) → Is (class.Symbol COMMA) second_comma →
    room ≡ suc third → IsExpr 7 third other r2 (close_token ∷ after) → Is (class.Symbol CLOSE_PAREN) close_token →
    IsExpr 0 room (expr.Mux word (condition ∷ chosen ∷ other ∷ [])) (word ∷ open_token ∷ r0) after
mux_case w o a p c b q d e r s = rw a (IsExpr.mux w o p c (rw (same_room a b) at q) d (rw (same_room a e) at r) s)

mux_sound : (room : ℕ) (deeper : ℕ → List Token → Read Expr) → IsSoundIn room deeper → (tokens : List Token) →
    IfOk (mux_at deeper tokens) (λ x. IsExpr 0 room x.0 tokens x.1)
unfolding mux_at
mux_sound room deeper deep tokens =
    one_then (class.Word keyword.Mux) tokens _ _ (λ word r1 e1 i1.
    after_then (class.Symbol OPEN_PAREN) r1 _ _ (λ bracket r2 e2 i2.
    read_then (deeper 7 r1) _ _ _ (deep 7 below_eight r1 bracket r2 e2) (λ condition d.
    after_then (class.Symbol COMMA) condition.1 _ _ (λ comma r3 e3 i3.
    read_then (deeper 7 condition.1) _ _ _ (deep 7 below_eight condition.1 comma r3 e3) (λ chosen f.
    after_then (class.Symbol COMMA) chosen.1 _ _ (λ second_comma r4 e4 i4.
    read_then (deeper 7 chosen.1) _ _ _ (deep 7 below_eight chosen.1 second_comma r4 e4) (λ other g.
    after_then (class.Symbol CLOSE_PAREN) other.1 _ _ (λ close_token after last shut.
    rw (e1, e2) (mux_case i1 i2 d.1 (rw e3 at d.2) i3 f.1 (rw e4 at f.2) i4 g.1 (rw last at g.2) shut)))))))))

choose_case : {room less second : ℕ} {word open_token comma close_token : Token} {one other : Expr} {r0 r1 after : List Token} →
    Is class.Choosing word → Is (class.Symbol OPEN_PAREN) open_token →
    room ≡ suc less → IsExpr 7 less one r0 (comma ∷ r1) → Is (class.Symbol COMMA) comma →
    room ≡ suc second → IsExpr 7 second other r1 (close_token ∷ after) → Is (class.Symbol CLOSE_PAREN) close_token →
    IsExpr 0 room (expr.Call word (one ∷ other ∷ [])) (word ∷ open_token ∷ r0) after
choose_case w o a p c b q s = rw a (IsExpr.choose w o p c (rw (same_room a b) at q) s)

choose_sound : (room : ℕ) (deeper : ℕ → List Token → Read Expr) → IsSoundIn room deeper → (tokens : List Token) →
    IfOk (choose_at deeper tokens) (λ x. IsExpr 0 room x.0 tokens x.1)
unfolding choose_at
choose_sound room deeper deep tokens =
    one_then class.Choosing tokens _ _ (λ word r1 e1 i1.
    after_then (class.Symbol OPEN_PAREN) r1 _ _ (λ bracket r2 e2 i2.
    read_then (deeper 7 r1) _ _ _ (deep 7 below_eight r1 bracket r2 e2) (λ first d.
    after_then (class.Symbol COMMA) first.1 _ _ (λ comma r3 e3 i3.
    read_then (deeper 7 first.1) _ _ _ (deep 7 below_eight first.1 comma r3 e3) (λ second f.
    after_then (class.Symbol CLOSE_PAREN) second.1 _ _ (λ close_token after last shut.
    rw (e1, e2) (choose_case i1 i2 d.1 (rw e3 at d.2) i3 f.1 (rw last at f.2) shut)))))))

count_sound : (room : ℕ) (deeper : ℕ → List Token → Read Expr) → IsSoundIn room deeper → (tokens : List Token) →
    IfOk (count_at deeper tokens) (λ x. IsExpr 0 room x.0 tokens x.1)
unfolding count_at
count_sound room deeper deep tokens =
    one_then class.Counting tokens _ _ (λ word r1 e1 i1.
    after_then (class.Symbol OPEN_PAREN) r1 _ _ (λ bracket r2 e2 i2.
    read_then (deeper 7 r1) _ _ _ (deep 7 below_eight r1 bracket r2 e2) (λ operand d.
    after_then (class.Symbol CLOSE_PAREN) operand.1 _ _ (λ close_token after last shut.
    rw (e1, e2, d.1) (IsExpr.count i1 i2 (rw last at d.2) shut)))))

name_sound : (room : ℕ) (deeper : ℕ → List Token → Read Expr) → IsSoundIn room deeper → (tokens : List Token) →
    IfOk (name_at deeper room tokens) (λ x. IsExpr 0 room x.0 tokens x.1)
unfolding name_at
name_sound room deeper deep tokens =
    if_then (calls class.Choosing tokens) _ _ _ (choose_sound room deeper deep tokens)
    (if_then (calls class.Counting tokens) _ _ _ (count_sound room deeper deep tokens)
    (place_sound room tokens))

unary_sound : (room : ℕ) (deeper : ℕ → List Token → Read Expr) → IsSoundIn room deeper → (tokens : List Token) →
    IfOk (unary_at deeper room tokens) (λ x. IsExpr 0 room x.0 tokens x.1)
unfolding unary_at
unary_sound room deeper deep tokens =
    if_then (begins (class.Symbol NOT) tokens) _ _ _ (not_sound room deeper deep tokens)
    (if_then (begins class.Name tokens) _ _ _ (name_sound room deeper deep tokens)
    (if_then (begins (class.Word keyword.Lit) tokens) _ _ _ (lit_sound room tokens)
    (if_then (begins (class.Word keyword.Resize) tokens) _ _ _ (resize_sound room deeper deep tokens)
    (if_then (begins (class.Word keyword.Mux) tokens) _ _ _ (mux_sound room deeper deep tokens)
    (paren_sound room deeper deep tokens)))))

-- an operand's reader is right at a level
abbrev Reads : ℕ → ℕ → (List Token → Read Expr) → Type 0
Reads level room operand = (tokens : List Token) → IfOk (operand tokens) (λ x. IsExpr level room x.0 tokens x.1)

exprs_sound : (level room : ℕ) (operand : List Token → Read Expr) → Reads level room operand → (most : ℕ) (tokens : List Token) →
    IfOk (operands operand (operators (suc level)) most tokens) (λ x. AreExprs (suc level) room x.0 tokens x.1)
unfolding operands
exprs_sound level room operand sound zero tokens = AreExprs.none
exprs_sound level room operand sound (suc most) tokens =
    if_then (begins (operators (suc level)) tokens) _ _ _
    (one_then (operators (suc level)) tokens _ _ (λ token rest e is.
    read_then (operand rest) _ _ _ (sound rest) (λ value d.
    read_then (operands operand (operators (suc level)) most value.1) _ _ _ (exprs_sound level room operand sound most value.1) (λ others m.
    rw e (AreExprs.more is d m)))))
    AreExprs.none

amounts_sound : (room most : ℕ) (tokens : List Token) →
    IfOk (operands (const_at room 0) class.Shifting most tokens) (λ x. AreAmounts room x.0 tokens x.1)
unfolding operands
amounts_sound room zero tokens = AreAmounts.none
amounts_sound room (suc most) tokens =
    if_then (begins class.Shifting tokens) _ _ _
    (one_then class.Shifting tokens _ _ (λ token rest e is.
    read_then (const_at room 0 rest) _ _ _ (const_sound room 0 rest) (λ value d.
    read_then (operands (const_at room 0) class.Shifting most value.1) _ _ _ (amounts_sound room most value.1) (λ others m.
    rw e (AreAmounts.more is d m)))))
    AreAmounts.none

chain_case : {level room : ℕ} {first : Expr} (rest : List (Token × Expr)) {before middle after : List Token} →
    is_listed (operators (suc level)) ≡ true →
    IsExpr level room first before middle → AreExprs (suc level) room rest middle after →
    IsExpr (suc level) room (chain_of first rest) before after
chain_case [] l f AreExprs.none = IsExpr.alone f
chain_case (second ∷ rest) l f r = IsExpr.chain l f r

shift_case : {room : ℕ} {first : Expr} (rest : List (Token × ConstExpr)) {before middle after : List Token} →
    IsExpr 2 room first before middle → AreAmounts room rest middle after → IsExpr 3 room (shift_of first rest) before after
shift_case [] f AreAmounts.none = IsExpr.alone f
shift_case (second ∷ rest) f r = IsExpr.shift f r

chain_sound : (level room : ℕ) (operand : List Token → Read Expr) → is_listed (operators (suc level)) ≡ true → Reads level room operand →
    (tokens : List Token) → IfOk (chain_at operand (operators (suc level)) tokens) (λ x. IsExpr (suc level) room x.0 tokens x.1)
unfolding chain_at
chain_sound level room operand listed sound tokens =
    read_then (operand tokens) _ _ _ (sound tokens) (λ first f.
    read_then (operands operand (operators (suc level)) (length first.1) first.1) _ _ _
    (exprs_sound level room operand sound (length first.1) first.1) (λ rest r. chain_case rest.0 listed f r))

shift_sound : (room : ℕ) (operand : List Token → Read Expr) → Reads 2 room operand →
    (tokens : List Token) → IfOk (shift_at operand room tokens) (λ x. IsExpr 3 room x.0 tokens x.1)
unfolding shift_at
shift_sound room operand sound tokens =
    read_then (operand tokens) _ _ _ (sound tokens) (λ first f.
    read_then (operands (const_at room 0) class.Shifting (length first.1) first.1) _ _ _
    (amounts_sound room (length first.1) first.1) (λ rest r. shift_case rest.0 f r))

compare_from_sound : (room : ℕ) (operand : List Token → Read Expr) → Reads 6 room operand →
    (first : Expr) (before tokens : List Token) → IsExpr 6 room first before tokens →
    IfOk (compare_from operand first tokens) (λ x. IsExpr 7 room x.0 before x.1)
unfolding compare_from
compare_from_sound room operand sound first before tokens f =
    if_then (begins class.Comparing tokens) _ _ _
    (one_then class.Comparing tokens _ _ (λ op rest e is.
    read_then (operand rest) _ _ _ (sound rest) (λ second s. IsExpr.compare (rw e at f) is s)))
    (IsExpr.alone f)

compare_sound : (room : ℕ) (operand : List Token → Read Expr) → Reads 6 room operand →
    (tokens : List Token) → IfOk (compare_at operand tokens) (λ x. IsExpr 7 room x.0 tokens x.1)
unfolding compare_at
compare_sound room operand sound tokens =
    read_then (operand tokens) _ _ _ (sound tokens) (λ first f. compare_from_sound room operand sound first.0 tokens first.1 f)

level_sound : (level room : ℕ) → level < 7 → (operand : List Token → Read Expr) → Reads level room operand →
    (tokens : List Token) → IfOk (level_at (operators (suc level)) operand room tokens) (λ x. IsExpr (suc level) room x.0 tokens x.1)
level_sound zero room h operand sound tokens = chain_sound 0 room operand refl sound tokens
level_sound (suc zero) room h operand sound tokens = chain_sound 1 room operand refl sound tokens
level_sound (suc (suc zero)) room h operand sound tokens = shift_sound room operand sound tokens
level_sound (suc (suc (suc zero))) room h operand sound tokens = chain_sound 3 room operand refl sound tokens
level_sound (suc (suc (suc (suc zero)))) room h operand sound tokens = chain_sound 4 room operand refl sound tokens
level_sound (suc (suc (suc (suc (suc zero))))) room h operand sound tokens = chain_sound 5 room operand refl sound tokens
level_sound (suc (suc (suc (suc (suc (suc zero)))))) room h operand sound tokens = compare_sound room operand sound tokens
level_sound (suc (suc (suc (suc (suc (suc (suc level))))))) room h operand sound tokens = absurd (omega arith)

from_sound : (room : ℕ) (deeper : ℕ → List Token → Read Expr) → IsSoundIn room deeper → (level : ℕ) → level < 8 → (tokens : List Token) →
    IfOk (expr_from deeper room level tokens) (λ x. IsExpr level room x.0 tokens x.1)
unfolding expr_from
from_sound room deeper deep zero h tokens = unary_sound room deeper deep tokens
from_sound room deeper deep (suc level) h tokens =
    level_sound level room (omega arith) (expr_from deeper room level) (λ others. from_sound room deeper deep level (omega arith) others) tokens

pub expr_in_sound : (room : ℕ) → IsSoundIn room (expr_in room)
unfolding expr_in
expr_in_sound zero level h tokens token rest e = tt
expr_in_sound (suc room) level h tokens token rest e =
    rw e (weaker (expr_from (expr_in room) room level rest) _ _ (λ x a. (room, refl, a))
    (from_sound room (expr_in room) (expr_in_sound room) level h rest))

pub expr_sound : (room level : ℕ) → level < 8 → (tokens : List Token) → IfOk (expr_at room level tokens) (λ x. IsExpr level room x.0 tokens x.1)
unfolding expr_at
expr_sound room level h tokens = from_sound room (expr_in room) (expr_in_sound room) level h tokens
