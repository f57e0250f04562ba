-- What is read is in the grammar.
use Rattle.std.proofs.Common.{◌≡◌, ℕ, zero, suc, Bool, true, false, List, [], ◌∷◌, length, cond, refl}
use Rattle.std.specs.Prelude.{Result, Ok, Err, IfOk}
use Rattle.mage_lex.specs.Symbols.{OPEN_PAREN, CLOSE_PAREN, MINUS}
use Rattle.mage_lex.specs.declared.token.Token.{Token}
use Rattle.mage_tree.specs.declared.class.Class.{Class}
use Rattle.mage_tree.specs.declared.class.Class.TheVariants as class
use Rattle.mage_parser.specs.declared.stop.Stop.{Stop}
use Rattle.mage_parser.specs.declared.stop.Stop.TheVariants as stops
use Rattle.mage_tree.specs.declared.tree.ConstExpr.{ConstExpr}
use Rattle.mage_tree.specs.Classes.{fits}
use Rattle.mage_parser.specs.Reads.{◌>>=◌, Read, begins, one, after_one, operands}
use Rattle.mage_tree.specs.Grammar.{Is, IsConst, AreOperands, const_operators}
use Rattle.mage_parser.specs.Constants.{const_atom, const_unary, const_chain_of, const_chain, const_from, const_in, const_at}

-- the first token's step
pub one_then : {B : Type 0} (class : Class) (tokens : List Token) (f : Token × List Token → Result B Stop) (P : B → Type 0) →
    ((token : Token) (rest : List Token) → tokens ≡ token ∷ rest → Is class token → IfOk (f (token, rest)) P) →
    IfOk (one class tokens >>= f) P
unfolding one
one_then class [] f P h = tt
one_then class (token ∷ rest) f P h = go (fits class token) refl
  where
    go : (b : Bool) → fits class token ≡ b → IfOk (cond b (Ok (token, rest)) (Err (stops.Syntax (length (token ∷ rest)))) >>= f) P
    go true e = h token rest refl e
    go false e = tt

pub after_then : {B : Type 0} (class : Class) (tokens : List Token) (f : List Token → Result B Stop) (P : B → Type 0) →
    ((token : Token) (rest : List Token) → tokens ≡ token ∷ rest → Is class token → IfOk (f rest) P) →
    IfOk (after_one class tokens >>= f) P
unfolding after_one
after_then class [] f P h = tt
after_then class (token ∷ rest) f P h = go (fits class token) refl
  where
    go : (b : Bool) → fits class token ≡ b → IfOk (cond b (Ok rest) (Err (stops.Syntax (length (token ∷ rest)))) >>= f) P
    go true e = h token rest refl e
    go false e = tt

pub read_then : {A B : Type 0} (read : Result A Stop) (Q : A → Type 0) (f : A → Result B Stop) (P : B → Type 0) →
    IfOk read Q → ((x : A) → Q x → IfOk (f x) P) → IfOk (read >>= f) P
read_then (Ok x) Q f P q h = h x q
read_then (Err e) Q f P q h = tt

pub if_then : {B : Type 0} (b : Bool) (first second : Result B Stop) (P : B → Type 0) → IfOk first P → IfOk second P → IfOk (cond b first second) P
if_then true first second P f s = f
if_then false first second P f s = s

-- what `deeper` reads behind the first token is in the grammar, with less room
abbrev IsSoundIn : ℕ → (ℕ → List Token → Read ConstExpr) → Type 0
IsSoundIn room deeper = (level : ℕ) (tokens : List Token) (token : Token) (rest : List Token) → tokens ≡ token ∷ rest →
    IfOk (deeper level tokens) (λ x. (less : ℕ) × (room ≡ suc less) × IsConst level less x.0 rest x.1)

atom_sound : (room : ℕ) (deeper : ℕ → List Token → Read ConstExpr) → IsSoundIn room deeper → (tokens : List Token) →
    IfOk (const_atom deeper tokens) (λ x. IsConst 0 room x.0 tokens x.1)
unfolding const_atom
atom_sound room deeper deep tokens =
    if_then (begins class.Number tokens) _ _ _
    (one_then class.Number tokens _ _ (λ token rest e is. rw e (IsConst.number is)))
    (if_then (begins class.Name tokens) _ _ _
    (one_then class.Name tokens _ _ (λ token rest e is. rw e (IsConst.name is)))
    (one_then (class.Symbol OPEN_PAREN) tokens _ _ (λ token rest e is.
    read_then (deeper 3 tokens) _ _ _ (deep 3 tokens token rest e) (λ inner d.
    after_then (class.Symbol CLOSE_PAREN) inner.1 _ _ (λ close_token after last shut.
    rw (e, d.1) (IsConst.paren is (rw last at d.2) shut))))))

pub weaker : {A : Type 0} (read : Result A Stop) (Q P : A → Type 0) → ((x : A) → Q x → P x) → IfOk read Q → IfOk read P
weaker (Ok x) Q P h q = h x q
weaker (Err e) Q P h q = tt

unary_sound : (room : ℕ) (deeper : ℕ → List Token → Read ConstExpr) → IsSoundIn room deeper → (tokens : List Token) →
    IfOk (const_unary deeper tokens) (λ x. IsConst 1 room x.0 tokens x.1)
unfolding const_unary
unary_sound room deeper deep tokens =
    if_then (begins (class.Symbol MINUS) tokens) _ _ _
    (one_then (class.Symbol MINUS) tokens _ _ (λ token rest e is.
    read_then (deeper 1 tokens) _ _ _ (deep 1 tokens token rest e) (λ operand d.
    rw (e, d.1) (IsConst.minus is d.2))))
    (weaker (const_atom deeper tokens) _ _ (λ x a. IsConst.alone a) (atom_sound room deeper deep tokens))

operands_sound : (level room : ℕ) (operand : List Token → Read ConstExpr) →
    ((tokens : List Token) → IfOk (operand tokens) (λ x. IsConst level room x.0 tokens x.1)) → (most : ℕ) (tokens : List Token) →
    IfOk (operands operand (const_operators (suc level)) most tokens) (λ x. AreOperands (suc level) room x.0 tokens x.1)
unfolding operands
operands_sound level room operand sound zero tokens = AreOperands.none
operands_sound level room operand sound (suc most) tokens =
    if_then (begins (const_operators (suc level)) tokens) _ _ _
    (one_then (const_operators (suc level)) tokens _ _ (λ token rest e is.
    read_then (operand rest) _ _ _ (sound rest) (λ value d.
    read_then (operands operand (const_operators (suc level)) most value.1) _ _ _ (operands_sound level room operand sound most value.1) (λ others m.
    rw e (AreOperands.more is d m)))))
    AreOperands.none

chain_case : {level room : ℕ} {first : ConstExpr} (rest : List (Token × ConstExpr)) {before middle after : List Token} →
    IsConst (suc level) room first before middle → AreOperands (suc (suc level)) room rest middle after →
    IsConst (suc (suc level)) room (const_chain_of first rest) before after
chain_case [] f AreOperands.none = IsConst.alone f
chain_case (second ∷ rest) f r = IsConst.chain f r

chain_sound : (level room : ℕ) (operand : List Token → Read ConstExpr) →
    ((tokens : List Token) → IfOk (operand tokens) (λ x. IsConst (suc level) room x.0 tokens x.1)) → (tokens : List Token) →
    IfOk (const_chain operand (const_operators (suc (suc level))) tokens) (λ x. IsConst (suc (suc level)) room x.0 tokens x.1)
unfolding const_chain
chain_sound level room operand sound tokens =
    read_then (operand tokens) _ _ _ (sound tokens) (λ first f.
    read_then (operands operand (const_operators (suc (suc level))) (length first.1) first.1) _ _ _
    (operands_sound (suc level) room operand sound (length first.1) first.1) (λ rest r.
    chain_case rest.0 f r))

from_sound : (room : ℕ) (deeper : ℕ → List Token → Read ConstExpr) → IsSoundIn room deeper → (level : ℕ) (tokens : List Token) →
    IfOk (const_from deeper level tokens) (λ x. IsConst level room x.0 tokens x.1)
unfolding const_from
from_sound room deeper deep zero tokens = atom_sound room deeper deep tokens
from_sound room deeper deep (suc zero) tokens = unary_sound room deeper deep tokens
from_sound room deeper deep (suc (suc level)) tokens =
    chain_sound level room (const_from deeper (suc level)) (λ others. from_sound room deeper deep (suc level) others) tokens

pub const_in_sound : (room : ℕ) → IsSoundIn room (const_in room)
unfolding const_in
const_in_sound zero level tokens token rest e = tt
const_in_sound (suc room) level tokens token rest e =
    rw e (weaker (const_from (const_in room) level rest) _ _ (λ x a. (room, refl, a))
    (from_sound room (const_in room) (const_in_sound room) level rest))

pub const_sound : (room level : ℕ) (tokens : List Token) → IfOk (const_at room level tokens) (λ x. IsConst level room x.0 tokens x.1)
unfolding const_at
const_sound room level tokens = from_sound room (const_in room) (const_in_sound room) level tokens
