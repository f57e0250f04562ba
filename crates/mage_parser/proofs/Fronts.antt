-- Operands that are read one by one.
use Rattle.std.proofs.Common.{◌≡◌, ℕ, zero, suc, ◌+◌, ◌-◌, ◌<◌, true, false, List, [], ◌∷◌, ◌++◌, refl, ap, sym, arith, append_assoc, ◌∙◌}
use Rattle.std.specs.Prelude.{Ok, Err}
use Rattle.mage_lex.specs.declared.token.Token.{Token}
use Rattle.mage_tree.specs.declared.class.Class.{Class}
use Rattle.mage_parser.specs.declared.stop.Stop.{Stop}
use Rattle.mage_parser.specs.declared.stop.Stop.TheVariants as stops
use Rattle.mage_parser.specs.Reads.{◌>>=◌, Read, Fails, begins, one, operands}
use Rattle.mage_tree.specs.declared.tree.Stmt.{Stmt}
use Rattle.mage_parser.specs.Statements.{stmts_from, are_over}

-- items in front of those that are read
abbrev pub with_front : {A : Type 0} → List A → Read (List A) → Read (List A)
with_front front read = read >>= λ x. Ok (front ++ x.0, x.1)

front_again : {A : Type 0} (front : List A) (item : A) (read : Read (List A)) →
    with_front front (read >>= λ x. Ok (item ∷ x.0, x.1)) ≡ with_front (front ++ item ∷ []) read
front_again front item (Ok x) = ap (λ (l : List _). Ok (l, x.1)) (sym (append_assoc front (item ∷ []) x.0))
front_again front item (Err e) = refl

turn_left : (most turn : ℕ) → turn < most → most - turn ≡ suc (most - (turn + 1))
turn_left most turn h = omega arith

pub operands_more : {A : Type 0} (operand : List Token → Read A) (operators : Class) (most turn : ℕ) (front : List (Token × A)) (tokens rest after : List Token) (op : Token) (value : A) →
    turn < most → begins operators tokens ≡ true → one operators tokens ≡ Ok (op, rest) → operand rest ≡ Ok (value, after) →
    with_front front (operands operand operators (most - turn) tokens) ≡ with_front (front ++ (op, value) ∷ []) (operands operand operators (most - (turn + 1)) after)
unfolding operands
operands_more operand operators most turn front tokens rest after op value h b o v =
    rw (turn_left most turn h, b, o, v) (front_again front (op, value) (operands operand operators (most - (turn + 1)) after))

pub operands_none : {A : Type 0} (operand : List Token → Read A) (operators : Class) (most : ℕ) (tokens : List Token) →
    begins operators tokens ≡ false → operands operand operators most tokens ≡ Ok ([], tokens)
unfolding operands
operands_none operand operators zero tokens b = refl
operands_none operand operators (suc most) tokens b = rw b

pub operands_stop_op : {A : Type 0} (operand : List Token → Read A) (operators : Class) (most turn : ℕ) (tokens : List Token) (stop : Stop) →
    turn < most → begins operators tokens ≡ true → one operators tokens ≡ Err stop → operands operand operators (most - turn) tokens ≡ Err stop
unfolding operands
operands_stop_op operand operators most turn tokens stop h b o = rw (turn_left most turn h, b, o)

pub operands_stop : {A : Type 0} (operand : List Token → Read A) (operators : Class) (most turn : ℕ) (tokens rest : List Token) (op : Token) (stop : Stop) →
    turn < most → begins operators tokens ≡ true → one operators tokens ≡ Ok (op, rest) → operand rest ≡ Err stop → operands operand operators (most - turn) tokens ≡ Err stop
unfolding operands
operands_stop operand operators most turn tokens rest op stop h b o v = rw (turn_left most turn h, b, o, v)

pub operands_fail : {A : Type 0} (operand : List Token → Read A) (operators : Class) (most turn : ℕ) (front : List (Token × A)) (tokens rest : List Token) (op : Token) (stop : Stop) (whole : Read (List (Token × A))) →
    turn < most → begins operators tokens ≡ true → one operators tokens ≡ Ok (op, rest) → Fails stop (operand rest) →
    with_front front (operands operand operators (most - turn) tokens) ≡ whole → Fails stop whole
operands_fail operand operators most turn front tokens rest op stops.Memory whole h b o f e = tt
operands_fail operand operators most turn front tokens rest op (stops.Syntax left) whole h b o f e =
    sym e ∙ ap (with_front front) (operands_stop operand operators most turn tokens rest op (stops.Syntax left) h b o f)
operands_fail operand operators most turn front tokens rest op (stops.TooDeep left) whole h b o f e =
    sym e ∙ ap (with_front front) (operands_stop operand operators most turn tokens rest op (stops.TooDeep left) h b o f)

-- The same of statements.
pub stmts_more : (first : List Token → Read Stmt) (most turn : ℕ) (front : List Stmt) (tokens after : List Token) (stmt : Stmt) →
    turn < most → are_over tokens ≡ false → first tokens ≡ Ok (stmt, after) →
    with_front front (stmts_from first (most - turn) tokens) ≡ with_front (front ++ stmt ∷ []) (stmts_from first (most - (turn + 1)) after)
unfolding stmts_from
stmts_more first most turn front tokens after stmt h b v =
    rw (turn_left most turn h, b, v) (front_again front stmt (stmts_from first (most - (turn + 1)) after))

pub stmts_none : (first : List Token → Read Stmt) (most : ℕ) (tokens : List Token) →
    are_over tokens ≡ true → stmts_from first most tokens ≡ Ok ([], tokens)
unfolding stmts_from
stmts_none first zero tokens b = refl
stmts_none first (suc most) tokens b = rw b

pub stmts_stop : (first : List Token → Read Stmt) (most turn : ℕ) (tokens : List Token) (stop : Stop) →
    turn < most → are_over tokens ≡ false → first tokens ≡ Err stop → stmts_from first (most - turn) tokens ≡ Err stop
unfolding stmts_from
stmts_stop first most turn tokens stop h b v = rw (turn_left most turn h, b, v)

pub stmts_fail : (first : List Token → Read Stmt) (most turn : ℕ) (front : List Stmt) (tokens : List Token) (stop : Stop) (whole : Read (List Stmt)) →
    turn < most → are_over tokens ≡ false → Fails stop (first tokens) →
    with_front front (stmts_from first (most - turn) tokens) ≡ whole → Fails stop whole
stmts_fail first most turn front tokens stops.Memory whole h b f e = tt
stmts_fail first most turn front tokens (stops.Syntax left) whole h b f e =
    sym e ∙ ap (with_front front) (stmts_stop first most turn tokens (stops.Syntax left) h b f)
stmts_fail first most turn front tokens (stops.TooDeep left) whole h b f e =
    sym e ∙ ap (with_front front) (stmts_stop first most turn tokens (stops.TooDeep left) h b f)
