-- The machine follows the readers of constants.
use Rattle.std.proofs.Common.{◌≡◌, ℕ, zero, suc, ◌≤◌, true, false, List, [], ◌∷◌, length, refl, ap, sym, ◌∙◌, append_assoc, arith}
use Rattle.std.specs.Prelude.{Option, None, Some, Ok}
use Rattle.mage_lex.specs.Symbols.{OPEN_PAREN, MINUS}
use Rattle.mage_lex.specs.declared.token.Token.{Token}
use Rattle.mage_tree.specs.declared.class.Class.TheVariants as class
use Rattle.mage_tree.specs.declared.tree.ConstExpr.{ConstExpr}
use Rattle.mage_tree.specs.Classes.{fits}
use Rattle.mage_parser.specs.Reads.{Read, operands}
use Rattle.mage_tree.specs.Grammar.{const_operators}
use Rattle.mage_parser.specs.Constants.{const_atom, const_unary, const_chain, const_from, const_in, const_at}
use Rattle.mage_parser.proofs.Sound.{const_sound}
use Rattle.mage_parser.proofs.FullConstants.{const_shrinks}
use Rattle.mage_parser.proofs.Machine.{Want, constant, constant_tail, fixed, close_paren, taken, passed, refused, below, may_end, then_also, started, const_start, step, feed, moved, run, run_passed, run_end, run_short}
use Rattle.mage_parser.proofs.Follow.{Follows, goes_on, after, along, read_on, one_taken, one_or_refused, after_fixed, decides}

-- what `deeper` reads behind the first token
abbrev FollowsIn : (ℕ → List Token → Read ConstExpr) → Type 0
FollowsIn deeper = (level : ℕ) (tokens : List Token) (token : Token) (others : List Token) → tokens ≡ token ∷ others → (rest : List Want) →
    Follows others (constant level ∷ rest) (deeper level tokens) after rest

start_number : (token : Token) → fits class.Number token ≡ true → step (constant 0) token ≡ taken []
unfolding step const_start
start_number token a = rw a

start_name : (token : Token) → fits class.Number token ≡ false → fits class.Name token ≡ true → step (constant 0) token ≡ taken []
unfolding step const_start
start_name token a b = rw (a, b)

start_paren : (token : Token) → fits class.Number token ≡ false → fits class.Name token ≡ false → fits (class.Symbol OPEN_PAREN) token ≡ true → step (constant 0) token ≡ taken (constant 3 ∷ fixed close_paren ∷ [])
unfolding step const_start
start_paren token a b c = rw (a, b, c)

start_none : (token : Token) → fits class.Number token ≡ false → fits class.Name token ≡ false → fits (class.Symbol OPEN_PAREN) token ≡ false → step (constant 0) token ≡ refused
unfolding step const_start
start_none token a b c = rw (a, b, c)

atom_follows : (deeper : ℕ → List Token → Read ConstExpr) → FollowsIn deeper → (tokens : List Token) (rest : List Want) →
    Follows tokens (constant 0 ∷ rest) (const_atom deeper tokens) after rest
unfolding const_atom
atom_follows deeper deep tokens rest =
    decides class.Number tokens _ _ _ _ _
    (λ token others e a. one_taken class.Number (constant 0) rest [] tokens token others _ _ _ e a (start_number token a) refl)
    (λ no_number.
    decides class.Name tokens _ _ _ _ _
    (λ token others e b. one_taken class.Name (constant 0) rest [] tokens token others _ _ _ e b (start_name token (no_number token others e) b) refl)
    (λ no_name.
    one_or_refused (class.Symbol OPEN_PAREN) (constant 0) rest (constant 3 ∷ fixed close_paren ∷ []) tokens _ _ _ refl
    (λ token others e c. start_paren token (no_number token others e) (no_name token others e) c)
    (λ token others e c. start_none token (no_number token others e) (no_name token others e) c)
    (λ token others e c.
    read_on others (constant 3 ∷ fixed close_paren ∷ rest) (fixed close_paren ∷ rest) (deeper 3 tokens) after _ _ _
    (deep 3 tokens token others e (fixed close_paren ∷ rest))
    (λ inner i. after_fixed close_paren rest inner.1 _ _ _ (λ close_token last f shut. refl)))))

start_minus : (token : Token) → fits (class.Symbol MINUS) token ≡ true → step (constant 1) token ≡ taken (constant 1 ∷ [])
unfolding step const_start
start_minus token a = rw a

start_unsigned : (token : Token) → fits (class.Symbol MINUS) token ≡ false → step (constant 1) token ≡ step (constant 0) token
unfolding step const_start
start_unsigned token a = rw a

-- two wants that move alike
pub run_alike : (want other : Want) (rest : List Want) (tokens : List Token) → may_end want ≡ false → may_end other ≡ false →
    ((token : Token) (others : List Token) → tokens ≡ token ∷ others → step want token ≡ step other token) →
    run tokens (want ∷ rest) ≡ run tokens (other ∷ rest)
unfolding run feed
run_alike want other rest [] a b h = run_short want rest a ∙ sym (run_short other rest b)
run_alike want other rest (token ∷ others) a b h = rw (h token others refl) refl

unary_follows : (deeper : ℕ → List Token → Read ConstExpr) → FollowsIn deeper → (tokens : List Token) (rest : List Want) →
    Follows tokens (constant 1 ∷ rest) (const_unary deeper tokens) after rest
unfolding const_unary
unary_follows deeper deep tokens rest =
    decides (class.Symbol MINUS) tokens _ _ _ _ _
    (λ token others e a. one_taken (class.Symbol MINUS) (constant 1) rest (constant 1 ∷ []) tokens token others _ _ _ e a (start_minus token a)
    (read_on others (constant 1 ∷ rest) rest (deeper 1 tokens) after _ _ _ (deep 1 tokens token others e rest) (λ operand i. refl)))
    (λ no_sign.
    along tokens tokens (constant 1 ∷ rest) (constant 0 ∷ rest) (const_atom deeper tokens) _ rest
    (run_alike (constant 1) (constant 0) rest tokens refl refl (λ token others e. start_unsigned token (no_sign token others e)))
    (atom_follows deeper deep tokens rest))

tail_taken : (level : ℕ) (token : Token) → fits (const_operators level) token ≡ true → step (constant_tail level) token ≡ taken (constant (below level) ∷ constant_tail level ∷ [])
unfolding step
tail_taken level token a = rw a

tail_passed : (level : ℕ) (token : Token) → fits (const_operators level) token ≡ false → step (constant_tail level) token ≡ passed
unfolding step
tail_passed level token a = rw a

-- a want that lets all of these tokens pass
pub run_lets : (want : Want) (rest : List Want) (tokens : List Token) → may_end want ≡ true →
    ((token : Token) (others : List Token) → tokens ≡ token ∷ others → step want token ≡ passed) → run tokens (want ∷ rest) ≡ run tokens rest
run_lets want rest [] m h = run_end want rest m
run_lets want rest (token ∷ others) m h = run_passed want rest token others (h token others refl)

operands_follow : (level : ℕ) (operand : List Token → Read ConstExpr) →
    ((tokens : List Token) (rest : List Want) → Follows tokens (constant level ∷ rest) (operand tokens) after rest) →
    ((tokens : List Token) (x : ConstExpr × List Token) → operand tokens ≡ Ok x → length x.1 ≤ length tokens) →
    (most : ℕ) (tokens : List Token) → length tokens ≤ most → (rest : List Want) →
    Follows tokens (constant_tail (suc level) ∷ rest) (operands operand (const_operators (suc level)) most tokens) after rest
unfolding operands
operands_follow level operand follow shrinks zero [] m rest = run_end (constant_tail (suc level)) rest refl
operands_follow level operand follow shrinks zero (token ∷ others) m rest = absurd (omega arith)
operands_follow level operand follow shrinks (suc most) tokens m rest =
    decides (const_operators (suc level)) tokens _ _ _ _ _
    (λ token others e a.
    one_taken (const_operators (suc level)) (constant_tail (suc level)) rest (constant level ∷ constant_tail (suc level) ∷ []) tokens token others _ _ _ e a (tail_taken (suc level) token a)
    (read_on others (constant level ∷ constant_tail (suc level) ∷ rest) (constant_tail (suc level) ∷ rest) (operand others) after _ _ _
    (follow others (constant_tail (suc level) ∷ rest))
    (λ value v. read_on value.1 (constant_tail (suc level) ∷ rest) rest (operands operand (const_operators (suc level)) most value.1) after _ _ _
    (operands_follow level operand follow shrinks most value.1 (let k = shrinks others value v in let l = ap length e in omega (arith, k, l)) rest)
    (λ more i. refl))))
    (λ none. run_lets (constant_tail (suc level)) rest tokens refl (λ token others e. tail_passed (suc level) token (none token others e)))

-- a level is the level below and then its operators
start_more : (level : ℕ) (token : Token) → step (constant (suc (suc level))) token ≡ started (then_also (const_start (suc level) token) (constant_tail (suc (suc level))))
unfolding step const_start
start_more level token = refl

start_is : (level : ℕ) (token : Token) → step (constant level) token ≡ started (const_start level token)
unfolding step
start_is level token = refl

also : (wants : Option (List Want)) (want : Want) (rest : List Want) (other more : Option (List Want)) → moved (started (then_also wants want)) rest other ≡ moved (started wants) (want ∷ rest) more
also None want rest other more = refl
also (Some wants) want rest other more = ap Some (append_assoc wants (want ∷ []) rest)

pub run_more : (level : ℕ) (tokens : List Token) (rest : List Want) → run tokens (constant (suc (suc level)) ∷ rest) ≡ run tokens (constant (suc level) ∷ constant_tail (suc (suc level)) ∷ rest)
unfolding run feed
run_more level [] rest = run_short (constant (suc (suc level))) rest refl ∙ sym (run_short (constant (suc level)) (constant_tail (suc (suc level)) ∷ rest) refl)
run_more level (token ∷ others) rest =
    rw (
      start_more level token,
      start_is (suc level) token,
      also (const_start (suc level) token) (constant_tail (suc (suc level))) rest (feed rest token) (feed (constant_tail (suc (suc level)) ∷ rest) token),
    )

chain_follows : (level : ℕ) (operand : List Token → Read ConstExpr) →
    ((tokens : List Token) (rest : List Want) → Follows tokens (constant (suc level) ∷ rest) (operand tokens) after rest) →
    ((tokens : List Token) (x : ConstExpr × List Token) → operand tokens ≡ Ok x → length x.1 ≤ length tokens) →
    (tokens : List Token) (rest : List Want) →
    Follows tokens (constant (suc (suc level)) ∷ rest) (const_chain operand (const_operators (suc (suc level))) tokens) after rest
unfolding const_chain
chain_follows level operand follow shrinks tokens rest =
    along tokens tokens (constant (suc (suc level)) ∷ rest) (constant (suc level) ∷ constant_tail (suc (suc level)) ∷ rest) _ _ _ (run_more level tokens rest)
    (read_on tokens (constant (suc level) ∷ constant_tail (suc (suc level)) ∷ rest) (constant_tail (suc (suc level)) ∷ rest) (operand tokens) after _ _ _
    (follow tokens (constant_tail (suc (suc level)) ∷ rest))
    (λ first f. read_on first.1 (constant_tail (suc (suc level)) ∷ rest) rest (operands operand (const_operators (suc (suc level))) (length first.1) first.1) after _ _ _
    (operands_follow (suc level) operand follow shrinks (length first.1) first.1 (omega arith) rest) (λ more i. refl)))

at_shrinks : (room level : ℕ) (tokens : List Token) (x : ConstExpr × List Token) → const_at room level tokens ≡ Ok x → length x.1 ≤ length tokens
at_shrinks room level tokens x e = const_shrinks (rw e at (const_sound room level tokens))

from_shrinks : (room level : ℕ) (tokens : List Token) (x : ConstExpr × List Token) → const_from (const_in room) level tokens ≡ Ok x → length x.1 ≤ length tokens
unfolding const_at
from_shrinks room level tokens x e = at_shrinks room level tokens x e

from_follows : (room : ℕ) → FollowsIn (const_in room) → (level : ℕ) (tokens : List Token) (rest : List Want) →
    Follows tokens (constant level ∷ rest) (const_from (const_in room) level tokens) after rest
unfolding const_from
from_follows room deep zero tokens rest = atom_follows (const_in room) deep tokens rest
from_follows room deep (suc zero) tokens rest = unary_follows (const_in room) deep tokens rest
from_follows room deep (suc (suc level)) tokens rest =
    chain_follows level (const_from (const_in room) (suc level)) (λ others later. from_follows room deep (suc level) others later)
    (λ others x e. from_shrinks room (suc level) others x e) tokens rest

pub const_in_follows : (room : ℕ) → FollowsIn (const_in room)
unfolding const_in
const_in_follows zero level tokens token others e rest = goes_on tokens token others (constant level ∷ rest) e
const_in_follows (suc room) level tokens token others e rest = rw e (from_follows room (const_in_follows room) level others rest)

pub const_follows : (room level : ℕ) (tokens : List Token) (rest : List Want) → Follows tokens (constant level ∷ rest) (const_at room level tokens) after rest
unfolding const_at
const_follows room level tokens rest = from_follows room (const_in_follows room) level tokens rest
