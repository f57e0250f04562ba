-- A constant of the grammar is read, whatever follows that doesn't continue it.
use Rattle.std.proofs.Common.{◌≡◌, ℕ, zero, suc, ◌≤◌, ◌<◌, true, false, List, ◌∷◌, length, refl, sym, ◌∙◌, arith}
use Rattle.std.specs.Prelude.{Ok}
use Rattle.mage_lex.specs.Symbols.{OPEN_PAREN, CLOSE_PAREN, MINUS}
use Rattle.mage_lex.specs.declared.token.Token.{Token}
use Rattle.mage_tree.specs.declared.class.Class.{Class}
use Rattle.mage_tree.specs.declared.class.Class.TheVariants as class
use Rattle.mage_tree.specs.declared.tree.ConstExpr.{ConstExpr}
use Rattle.mage_tree.specs.declared.tree.ConstExpr.TheVariants as const
use Rattle.mage_tree.specs.Classes.{fits}
use Rattle.mage_parser.specs.Reads.{Read, begins, one, after_one, operands}
use Rattle.mage_tree.specs.Grammar.{Is, IsConst, AreOperands, const_operators}
use Rattle.mage_parser.specs.Constants.{const_atom, const_unary, const_chain, const_from, const_in, const_at}
use Rattle.mage_tree.proofs.Apart.{apart}
use Rattle.mage_parser.proofs.Fronts.{operands_none}

pub begins_is : (c : Class) (token : Token) (rest : List Token) → fits c token ≡ true → begins c (token ∷ rest) ≡ true
unfolding begins
begins_is c token rest is = is

pub begins_not : (c : Class) (token : Token) (rest : List Token) → fits c token ≡ false → begins c (token ∷ rest) ≡ false
unfolding begins
begins_not c token rest is = is

pub one_is : (c : Class) (token : Token) (rest : List Token) → fits c token ≡ true → one c (token ∷ rest) ≡ Ok (token, rest)
unfolding one
one_is c token rest is = rw is

pub after_is : (c : Class) (token : Token) (rest : List Token) → fits c token ≡ true → after_one c (token ∷ rest) ≡ Ok rest
unfolding after_one
after_is c token rest is = rw is

-- one less
abbrev below : ℕ → ℕ
below zero = zero
below (suc n) = n

-- what follows doesn't continue a constant of this level
abbrev pub ConstEnds : ℕ → List Token → Type 0
ConstEnds zero after = Unit {0}
ConstEnds (suc zero) after = Unit {0}
ConstEnds (suc (suc level)) after = ConstEnds (suc level) after × (begins (const_operators (suc (suc level))) after ≡ false)

-- an operator of a level ends the levels below
operator_ends : (level : ℕ) (op : Token) (rest : List Token) → level < 3 → Is (const_operators (suc level)) op → ConstEnds level (op ∷ rest)
operator_ends zero op rest h is = tt
operator_ends (suc zero) op rest h is = tt
operator_ends (suc (suc zero)) op rest h is =
    (tt, begins_not class.Scaling op rest (apart class.Adding class.Scaling (refl, refl) _ is))
operator_ends (suc (suc (suc level))) op rest h is = absurd (omega arith)

mutual
  pub const_shrinks : {level room : ℕ} {e : ConstExpr} {before after : List Token} → IsConst level room e before after → length after ≤ length before
  const_shrinks (IsConst.number is) = omega arith
  const_shrinks (IsConst.name is) = omega arith
  const_shrinks (IsConst.paren is d shut) = let h = const_shrinks d in omega (arith, h)
  const_shrinks (IsConst.minus is d) = let h = const_shrinks d in omega (arith, h)
  const_shrinks (IsConst.alone d) = const_shrinks d
  const_shrinks (IsConst.chain d r) = let h = const_shrinks d in let k = operands_shrink r in omega (arith, h, k)

  pub operands_shrink : {level room : ℕ} {rest : List (Token × ConstExpr)} {before after : List Token} → AreOperands level room rest before after → length after ≤ length before
  operands_shrink AreOperands.none = omega arith
  operands_shrink (AreOperands.more is d r) = let h = const_shrinks d in let k = operands_shrink r in omega (arith, h, k)

-- what ends a level ends the levels below
lower_ends : (level : ℕ) (after : List Token) → ConstEnds (suc level) after → ConstEnds level after
lower_ends zero after h = tt
lower_ends (suc level) after h = h.0

operands_end : {level room : ℕ} {rest : List (Token × ConstExpr)} {before after : List Token} → level < 3 →
    AreOperands (suc level) room rest before after → ConstEnds (suc level) after → ConstEnds level before
operands_end {level} {after = after} h AreOperands.none e = lower_ends level after e
operands_end {level} h (AreOperands.more {op = op} {before = before} is d r) e = operator_ends level op before h is

atom_number : (room : ℕ) (token : Token) (after : List Token) → Is class.Number token →
    const_atom (const_in room) (token ∷ after) ≡ Ok (const.Number token, after)
unfolding const_atom
atom_number room token after is = rw (begins_is class.Number token after is, one_is class.Number token after is)

atom_name : (room : ℕ) (token : Token) (after : List Token) → Is class.Name token →
    const_atom (const_in room) (token ∷ after) ≡ Ok (const.Name token, after)
unfolding const_atom
atom_name room token after is =
    rw (
      begins_not class.Number token after (apart class.Name class.Number (λ text e. refl) _ is),
      begins_is class.Name token after is,
      one_is class.Name token after is,
    )

pub const_in_is : (room level : ℕ) (token : Token) (rest : List Token) → const_in (suc room) level (token ∷ rest) ≡ const_at room level rest
unfolding const_in const_at
const_in_is room level token rest = refl

atom_paren : (room : ℕ) (open_token close_token : Token) (inner : ConstExpr) (before after : List Token) →
    Is (class.Symbol OPEN_PAREN) open_token → const_at room 3 before ≡ Ok (inner, close_token ∷ after) → Is (class.Symbol CLOSE_PAREN) close_token →
    const_atom (const_in (suc room)) (open_token ∷ before) ≡ Ok (const.Paren open_token inner, after)
unfolding const_atom
atom_paren room open_token close_token inner before after is d shut =
    rw (
      begins_not class.Number open_token before (apart (class.Symbol OPEN_PAREN) class.Number refl _ is),
      begins_not class.Name open_token before (apart (class.Symbol OPEN_PAREN) class.Name refl _ is),
      one_is (class.Symbol OPEN_PAREN) open_token before is,
      const_in_is room 3 open_token before,
      d,
      after_is (class.Symbol CLOSE_PAREN) close_token after shut,
    )

unary_minus : (room : ℕ) (op : Token) (operand : ConstExpr) (before after : List Token) →
    Is (class.Symbol MINUS) op → const_at room 1 before ≡ Ok (operand, after) →
    const_unary (const_in (suc room)) (op ∷ before) ≡ Ok (const.Minus op operand, after)
unfolding const_unary
unary_minus room op operand before after is d =
    rw (begins_is (class.Symbol MINUS) op before is, one_is (class.Symbol MINUS) op before is, const_in_is room 1 op before, d)

at_zero : (room : ℕ) (tokens : List Token) → const_at room 0 tokens ≡ const_atom (const_in room) tokens
unfolding const_at const_from
at_zero room tokens = refl

at_one : (room : ℕ) (tokens : List Token) → const_at room 1 tokens ≡ const_unary (const_in room) tokens
unfolding const_at const_from
at_one room tokens = refl

at_more : (room level : ℕ) (tokens : List Token) → const_at room (suc (suc level)) tokens ≡ const_chain (const_at room (suc level)) (const_operators (suc (suc level))) tokens
unfolding const_at const_from
at_more room level tokens = refl

-- an atom begins with no sign
atom_unsigned : {room : ℕ} {e : ConstExpr} {before after : List Token} → IsConst 0 room e before after → begins (class.Symbol MINUS) before ≡ false
atom_unsigned (IsConst.number {token = token} {after = after} is) = begins_not (class.Symbol MINUS) token after (apart class.Number (class.Symbol MINUS) (λ value. refl) _ is)
atom_unsigned (IsConst.name {token = token} {after = after} is) = begins_not (class.Symbol MINUS) token after (apart class.Name (class.Symbol MINUS) (λ text e. refl) _ is)
atom_unsigned (IsConst.paren {open_token = open_token} {before = before} is d shut) = begins_not (class.Symbol MINUS) open_token before (apart (class.Symbol OPEN_PAREN) (class.Symbol MINUS) refl _ is)

unary_atom : (room : ℕ) (before : List Token) → begins (class.Symbol MINUS) before ≡ false → const_unary (const_in room) before ≡ const_atom (const_in room) before
unfolding const_unary
unary_atom room before h = rw h

chain_alone : (operand : List Token → Read ConstExpr) (ops : Class) (e : ConstExpr) (before after : List Token) →
    operand before ≡ Ok (e, after) → begins ops after ≡ false → const_chain operand ops before ≡ Ok (e, after)
unfolding const_chain
chain_alone operand ops e before after d h = rw (d, operands_none operand ops (length after) after h)

chain_more : (operand : List Token → Read ConstExpr) (ops : Class) (first : ConstExpr) (second : Token × ConstExpr) (rest : List (Token × ConstExpr)) (before middle after : List Token) →
    operand before ≡ Ok (first, middle) → operands operand ops (length middle) middle ≡ Ok (second ∷ rest, after) →
    const_chain operand ops before ≡ Ok (const.Chain first (second ∷ rest), after)
unfolding const_chain
chain_more operand ops first second rest before middle after d r = rw (d, r)

pub operands_step : {A : Type 0} (operand : List Token → Read A) (ops : Class) (most : ℕ) (op : Token) (value : A) (rest : List (Token × A)) (before middle after : List Token) →
    Is ops op → operand before ≡ Ok (value, middle) → operands operand ops most middle ≡ Ok (rest, after) →
    operands operand ops (suc most) (op ∷ before) ≡ Ok ((op, value) ∷ rest, after)
unfolding operands
operands_step operand ops most op value rest before middle after is d r =
    rw (begins_is ops op before is, one_is ops op before is, d, r)

close_ends : (token : Token) (rest : List Token) → Is (class.Symbol CLOSE_PAREN) token → ConstEnds 3 (token ∷ rest)
close_ends token rest is = (
  (tt, begins_not class.Scaling token rest (apart (class.Symbol CLOSE_PAREN) class.Scaling refl _ is)),
  begins_not class.Adding token rest (apart (class.Symbol CLOSE_PAREN) class.Adding refl _ is),
)

alone_full : (level : ℕ) {room : ℕ} {e : ConstExpr} {before after : List Token} → IsConst level room e before after →
    const_at room level before ≡ Ok (e, after) → ConstEnds (suc level) after → const_at room (suc level) before ≡ Ok (e, after)
alone_full zero {room} {e} {before} {after} d q f = at_one room before ∙ unary_atom room before (atom_unsigned d) ∙ sym (at_zero room before) ∙ q
alone_full (suc level) {room} {e} {before} {after} d q f =
    at_more room level before ∙ chain_alone (const_at room (suc level)) (const_operators (suc (suc level))) e before after q f.1

mutual
  pub const_full : {level room : ℕ} {e : ConstExpr} {before after : List Token} → IsConst level room e before after → level ≤ 3 → ConstEnds level after →
      const_at room level before ≡ Ok (e, after)
  const_full {room = room} {after = after} (IsConst.number {token = token} is) h f = at_zero room (token ∷ after) ∙ atom_number room token after is
  const_full {room = room} {after = after} (IsConst.name {token = token} is) h f = at_zero room (token ∷ after) ∙ atom_name room token after is
  const_full {after = after} (IsConst.paren {room = room} {open_token = open_token} {close_token = close_token} {inner = inner} {before = before} is d shut) h f =
      at_zero (suc room) (open_token ∷ before)
      ∙ atom_paren room open_token close_token inner before after is (const_full d (omega arith) (close_ends close_token after shut)) shut
  const_full {after = after} (IsConst.minus {room = room} {op = op} {operand = operand} {before = before} is d) h f =
      at_one (suc room) (op ∷ before) ∙ unary_minus room op operand before after is (const_full d (omega arith) tt)
  const_full {room = room} {e = e} {before = before} {after = after} (IsConst.alone {level = level} d) h f =
      alone_full level d (const_full d (omega arith) (lower_ends level after f)) f
  const_full {room = room} {before = before} {after = after} (IsConst.chain {level = level} {first = first} {second = second} {rest = rest} {middle = middle} d r) h f =
      at_more room level before
      ∙ chain_more (const_at room (suc level)) (const_operators (suc (suc level))) first second rest before middle after
      (const_full d (omega arith) (operands_end (omega arith) r f)) (operands_full r (omega arith) f f.1 (length middle) (omega arith))

  pub operands_full : {upper room : ℕ} {rest : List (Token × ConstExpr)} {before after : List Token} → AreOperands upper room rest before after → upper ≤ 3 →
      ConstEnds upper after → begins (const_operators upper) after ≡ false → (most : ℕ) → length before ≤ most →
      operands (const_at room (below upper)) (const_operators upper) most before ≡ Ok (rest, after)
  operands_full {upper = upper} {room = room} {after = after} AreOperands.none h f g most m =
      operands_none (const_at room (below upper)) (const_operators upper) most after g
  operands_full (AreOperands.more is d r) h f g zero m = absurd (omega arith)
  operands_full {room = room} {after = after} (AreOperands.more {level = level} {op = op} {operand = operand} {rest = rest} {before = before} {middle = middle} is d r) h f g (suc most) m =
      operands_step (const_at room level) (const_operators (suc level)) most op operand rest before middle after is
      (const_full d (omega arith) (operands_end (omega arith) r f))
      (operands_full r h f g most (let k = const_shrinks d in omega (arith, k)))
