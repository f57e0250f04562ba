-- The grammar. `IsConst level room e before after` says that the tokens `before` are those of `e`
-- and then those of `after`; `room` is how many brackets and signs may still be open at once inside
-- it.
use Rattle.std.specs.Prelude.{◌≡◌, ℕ, suc, Bool, true, false, List, [], ◌∷◌, Option, None, Some}
use Rattle.mage_lex.specs.Symbols.{DOTS, SEMICOLON, COLON, COMMA, OPEN_PAREN, CLOSE_PAREN, OPEN_BRACKET, CLOSE_BRACKET, OPEN_BRACE, CLOSE_BRACE, ASSIGN, MINUS, AND, XOR, OR, NOT}
use Rattle.mage_lex.specs.declared.token.Token.{Token}
use Rattle.mage_tree.specs.declared.class.Class.{Class}
use Rattle.mage_tree.specs.declared.class.Class.TheVariants as class
use Rattle.mage_tree.specs.declared.tree.ConstExpr.{ConstExpr}
use Rattle.mage_tree.specs.declared.tree.ConstExpr.TheVariants as const
use Rattle.mage_tree.specs.declared.tree.Expr.{Expr}
use Rattle.mage_tree.specs.declared.tree.Expr.TheVariants as expr
use Rattle.mage_tree.specs.declared.tree.Item.{Item}
use Rattle.mage_tree.specs.declared.tree.Stmt.{Stmt}
use Rattle.mage_tree.specs.declared.tree.Stmt.TheVariants as stmt
use Rattle.mage_tree.specs.declared.class.Keyword.TheVariants as keyword
use Rattle.mage_tree.specs.Classes.{fits}

-- the token is of the class
abbrev pub Is : Class → Token → Type 0
Is class token = fits class token ≡ true

-- the operators of a level of constants: products at 2, sums at 3
abbrev pub const_operators : ℕ → Class
const_operators (suc (suc (suc level))) = class.Adding
const_operators _ = class.Scaling

-- The constants, by level: 0 an atom, 1 with signs, 2 products, 3 sums.
mutual
  pub data IsConst : ℕ → ℕ → ConstExpr → List Token → List Token → Type 0 where
    number : {room : ℕ} {token : Token} {after : List Token} →
        Is class.Number token → IsConst 0 room (const.Number token) (token ∷ after) after
    name : {room : ℕ} {token : Token} {after : List Token} →
        Is class.Name token → IsConst 0 room (const.Name token) (token ∷ after) after
    paren : {room : ℕ} {open_token close_token : Token} {inner : ConstExpr}
        {before after : List Token} →
        Is (class.Symbol OPEN_PAREN) open_token →
        IsConst 3 room inner before (close_token ∷ after) →
        Is (class.Symbol CLOSE_PAREN) close_token →
        IsConst 0 (suc room) (const.Paren open_token inner) (open_token ∷ before) after
    minus : {room : ℕ} {op : Token} {operand : ConstExpr} {before after : List Token} →
        Is (class.Symbol MINUS) op → IsConst 1 room operand before after →
        IsConst 1 (suc room) (const.Minus op operand) (op ∷ before) after
    alone : {level room : ℕ} {e : ConstExpr} {before after : List Token} →
        IsConst level room e before after → IsConst (suc level) room e before after
    chain : {level room : ℕ} {first : ConstExpr} {second : Token × ConstExpr}
        {rest : List (Token × ConstExpr)} {before middle after : List Token} →
        IsConst (suc level) room first before middle →
        AreOperands (suc (suc level)) room (second ∷ rest) middle after →
        IsConst (suc (suc level)) room (const.Chain first (second ∷ rest)) before after

  pub data AreOperands : ℕ → ℕ → List (Token × ConstExpr) → List Token → List Token → Type 0 where
    none : {level room : ℕ} {after : List Token} → AreOperands level room [] after after
    more : {level room : ℕ} {op : Token} {operand : ConstExpr} {rest : List (Token × ConstExpr)}
        {before middle after : List Token} →
        Is (const_operators (suc level)) op → IsConst level room operand before middle →
        AreOperands (suc level) room rest middle after →
        AreOperands (suc level) room ((op, operand) ∷ rest) (op ∷ before) after

-- an index or a length in its brackets, or none
pub data IsIndex : ℕ → Option (Token × ConstExpr) → List Token → List Token → Type 0 where
  absent : {room : ℕ} {after : List Token} → IsIndex room None after after
  present : {room : ℕ} {open_token close_token : Token} {index : ConstExpr}
      {before after : List Token} →
      Is (class.Symbol OPEN_BRACKET) open_token →
      IsConst 3 room index before (close_token ∷ after) →
      Is (class.Symbol CLOSE_BRACKET) close_token →
      IsIndex (suc room) (Some (open_token, index)) (open_token ∷ before) after

abbrev pub item_of : Token → Option (Token × ConstExpr) → Item
item_of token size = record { name = token; index = size }

-- a place
pub data IsItem : ℕ → Item → List Token → List Token → Type 0 where
  place : {room : ℕ} {name : Token} {index : Option (Token × ConstExpr)}
      {before after : List Token} →
      Is class.Name name → IsIndex room index before after →
      IsItem room (item_of name index) (name ∷ before) after

-- shifts and their amounts
pub data AreAmounts : ℕ → List (Token × ConstExpr) → List Token → List Token → Type 0 where
  none : {room : ℕ} {after : List Token} → AreAmounts room [] after after
  more : {room : ℕ} {op : Token} {amount : ConstExpr} {rest : List (Token × ConstExpr)}
      {before middle after : List Token} →
      Is class.Shifting op → IsConst 0 room amount before middle →
      AreAmounts room rest middle after →
      AreAmounts room ((op, amount) ∷ rest) (op ∷ before) after

-- the operators of a level of expressions: 1 products, 2 sums, 3 shifts, 4 `&`, 5 `^`, 6 `|`, 7
-- comparisons
abbrev pub operators : ℕ → Class
operators (suc (suc (suc (suc (suc (suc (suc level))))))) = class.Comparing
operators (suc (suc (suc (suc (suc (suc level)))))) = class.Symbol OR
operators (suc (suc (suc (suc (suc level))))) = class.Symbol XOR
operators (suc (suc (suc (suc level)))) = class.Symbol AND
operators (suc (suc (suc level))) = class.Shifting
operators (suc (suc level)) = class.Adding
operators _ = class.Scaling

-- the operators of a level whose operands are all of the level below, in any number
abbrev pub is_listed : Class → Bool
is_listed class.Shifting = false
is_listed class.Comparing = false
is_listed _ = true

-- The expressions, by level: 0 with `!`, then as `operators` says.
mutual
  pub data IsExpr : ℕ → ℕ → Expr → List Token → List Token → Type 0 where
    item : {room : ℕ} {place : Item} {before after : List Token} →
        IsItem room place before after → IsExpr 0 room (expr.Item place) before after
    paren : {room : ℕ} {open_token close_token : Token} {inner : Expr} {before after : List Token} →
        Is (class.Symbol OPEN_PAREN) open_token → IsExpr 7 room inner before (close_token ∷ after) →
        Is (class.Symbol CLOSE_PAREN) close_token →
        IsExpr 0 (suc room) (expr.Paren open_token inner) (open_token ∷ before) after
    lit : {room : ℕ} {word ty open_token close_token : Token} {value : ConstExpr}
        {before after : List Token} →
        Is (class.Word keyword.Lit) word → Is class.Type ty →
        Is (class.Symbol OPEN_PAREN) open_token →
        IsConst 3 room value before (close_token ∷ after) →
        Is (class.Symbol CLOSE_PAREN) close_token →
        IsExpr 0 (suc room) (expr.Lit word ty value) (word ∷ ty ∷ open_token ∷ before) after
    resize : {room : ℕ} {word ty open_token close_token : Token} {operand : Expr}
        {before after : List Token} →
        Is (class.Word keyword.Resize) word → Is class.Type ty →
        Is (class.Symbol OPEN_PAREN) open_token →
        IsExpr 7 room operand before (close_token ∷ after) →
        Is (class.Symbol CLOSE_PAREN) close_token →
        IsExpr 0 (suc room) (expr.Resize word ty operand) (word ∷ ty ∷ open_token ∷ before) after
    mux : {room : ℕ} {word open_token comma second_comma close_token : Token}
        {condition yes no : Expr} {before second third after : List Token} →
        Is (class.Word keyword.Mux) word → Is (class.Symbol OPEN_PAREN) open_token →
        IsExpr 7 room condition before (comma ∷ second) → Is (class.Symbol COMMA) comma →
        IsExpr 7 room yes second (second_comma ∷ third) → Is (class.Symbol COMMA) second_comma →
        IsExpr 7 room no third (close_token ∷ after) → Is (class.Symbol CLOSE_PAREN) close_token →
        IsExpr 0 (suc room) (expr.Mux word (condition ∷ yes ∷ no ∷ []))
        (word ∷ open_token ∷ before) after
    choose : {room : ℕ} {word open_token comma close_token : Token} {first second : Expr}
        {before middle after : List Token} →
        Is class.Choosing word → Is (class.Symbol OPEN_PAREN) open_token →
        IsExpr 7 room first before (comma ∷ middle) → Is (class.Symbol COMMA) comma →
        IsExpr 7 room second middle (close_token ∷ after) →
        Is (class.Symbol CLOSE_PAREN) close_token →
        IsExpr 0 (suc room) (expr.Call word (first ∷ second ∷ []))
        (word ∷ open_token ∷ before) after
    count : {room : ℕ} {word open_token close_token : Token} {operand : Expr}
        {before after : List Token} →
        Is class.Counting word → Is (class.Symbol OPEN_PAREN) open_token →
        IsExpr 7 room operand before (close_token ∷ after) →
        Is (class.Symbol CLOSE_PAREN) close_token →
        IsExpr 0 (suc room) (expr.Call word (operand ∷ [])) (word ∷ open_token ∷ before) after
    «not» : {room : ℕ} {op : Token} {operand : Expr} {before after : List Token} →
        Is (class.Symbol NOT) op → IsExpr 0 room operand before after →
        IsExpr 0 (suc room) (expr.Not op operand) (op ∷ before) after
    alone : {level room : ℕ} {e : Expr} {before after : List Token} →
        IsExpr level room e before after → IsExpr (suc level) room e before after
    chain : {level room : ℕ} {first : Expr} {second : Token × Expr} {rest : List (Token × Expr)}
        {before middle after : List Token} →
        is_listed (operators (suc level)) ≡ true → IsExpr level room first before middle →
        AreExprs (suc level) room (second ∷ rest) middle after →
        IsExpr (suc level) room (expr.Chain first (second ∷ rest)) before after
    shift : {room : ℕ} {first : Expr} {second : Token × ConstExpr} {rest : List (Token × ConstExpr)}
        {before middle after : List Token} →
        IsExpr 2 room first before middle → AreAmounts room (second ∷ rest) middle after →
        IsExpr 3 room (expr.Shift first (second ∷ rest)) before after
    compare : {room : ℕ} {op : Token} {first second : Expr} {before middle after : List Token} →
        IsExpr 6 room first before (op ∷ middle) → Is class.Comparing op →
        IsExpr 6 room second middle after →
        IsExpr 7 room (expr.Chain first ((op, second) ∷ [])) before after

  -- operators of a level and their operands
  pub data AreExprs : ℕ → ℕ → List (Token × Expr) → List Token → List Token → Type 0 where
    none : {level room : ℕ} {after : List Token} → AreExprs level room [] after after
    more : {level room : ℕ} {op : Token} {operand : Expr} {rest : List (Token × Expr)}
        {before middle after : List Token} →
        Is (operators (suc level)) op → IsExpr level room operand before middle →
        AreExprs (suc level) room rest middle after →
        AreExprs (suc level) room ((op, operand) ∷ rest) (op ∷ before) after

-- The statements.
mutual
  pub data IsStmt : ℕ → Stmt → List Token → List Token → Type 0 where
    constant : {room : ℕ} {word name eq end : Token} {value : ConstExpr}
        {before after : List Token} →
        Is (class.Word keyword.Const) word → Is class.Name name → Is (class.Symbol ASSIGN) eq →
        IsConst 3 room value before (end ∷ after) → Is (class.Symbol SEMICOLON) end →
        IsStmt room (stmt.Constant word name value) (word ∷ name ∷ eq ∷ before) after
    input : {room : ℕ} {word party name colon ty end : Token} {size : Option (Token × ConstExpr)}
        {before after : List Token} →
        Is (class.Word keyword.Input) word → Is class.Party party → Is class.Name name →
        Is (class.Symbol COLON) colon →
        Is class.Type ty → IsIndex room size before (end ∷ after) →
        Is (class.Symbol SEMICOLON) end →
        IsStmt room (stmt.Input word party name ty size)
        (word ∷ party ∷ name ∷ colon ∷ ty ∷ before) after
    «let» : {room : ℕ} {word name eq end : Token} {value : Expr} {before after : List Token} →
        Is (class.Word keyword.Let) word → Is class.Name name → Is (class.Symbol ASSIGN) eq →
        IsExpr 7 room value before (end ∷ after) → Is (class.Symbol SEMICOLON) end →
        IsStmt room (stmt.Let word name value) (word ∷ name ∷ eq ∷ before) after
    array : {room : ℕ} {word name colon ty eq end : Token} {size : Token × ConstExpr} {value : Expr}
        {before middle after : List Token} →
        Is (class.Word keyword.Array) word → Is class.Name name → Is (class.Symbol COLON) colon →
        Is class.Type ty →
        IsIndex room (Some size) before (eq ∷ middle) → Is (class.Symbol ASSIGN) eq →
        IsExpr 7 room value middle (end ∷ after) → Is (class.Symbol SEMICOLON) end →
        IsStmt room (stmt.Array word name ty size eq value)
        (word ∷ name ∷ colon ∷ ty ∷ before) after
    assign : {room : ℕ} {place : Item} {eq end : Token} {value : Expr}
        {before middle after : List Token} →
        IsItem room place before (eq ∷ middle) → Is (class.Symbol ASSIGN) eq →
        IsExpr 7 room value middle (end ∷ after) → Is (class.Symbol SEMICOLON) end →
        IsStmt room (stmt.Assign place eq value) before after
    move : {room : ℕ} {word name eq end : Token} {place : Item} {before after : List Token} →
        Is (class.Word keyword.Move) word → Is class.Name name → Is (class.Symbol ASSIGN) eq →
        IsItem room place before (end ∷ after) → Is (class.Symbol SEMICOLON) end →
        IsStmt room (stmt.Move word name place) (word ∷ name ∷ eq ∷ before) after
    on : {room : ℕ} {word : Token} {worker : ConstExpr} {body : List Stmt}
        {before middle after : List Token} →
        Is (class.Word keyword.On) word → IsConst 3 room worker before middle →
        IsBlock room body middle after →
        IsStmt room (stmt.On word worker body) (word ∷ before) after
    for : {room : ℕ} {word name within dots : Token} {from to : ConstExpr} {body : List Stmt}
        {before middle last after : List Token} →
        Is (class.Word keyword.For) word → Is class.Name name → Is (class.Word keyword.In) within →
        IsConst 3 room from before (dots ∷ middle) → Is (class.Symbol DOTS) dots →
        IsConst 3 room to middle last → IsBlock room body last after →
        IsStmt room (stmt.For word name from to body) (word ∷ name ∷ within ∷ before) after
    choice : {room : ℕ} {word op : Token} {left right : ConstExpr} {yes : List Stmt}
        {no : Option (List Stmt)} {before middle block last after : List Token} →
        Is (class.Word keyword.If) word → IsConst 3 room left before (op ∷ middle) →
        Is class.Comparing op →
        IsConst 3 room right middle block → IsBlock room yes block last →
        IsElse room no last after →
        IsStmt room (stmt.If word left op right yes no) (word ∷ before) after
    output : {room : ℕ} {word end : Token} {value : Expr} {before after : List Token} →
        Is (class.Word keyword.Output) word → IsExpr 7 room value before (end ∷ after) →
        Is (class.Symbol SEMICOLON) end →
        IsStmt room (stmt.Output word value) (word ∷ before) after

  pub data IsBlock : ℕ → List Stmt → List Token → List Token → Type 0 where
    block : {room : ℕ} {open_token close_token : Token} {body : List Stmt}
        {before after : List Token} →
        Is (class.Symbol OPEN_BRACE) open_token → AreStmts room body before (close_token ∷ after) →
        Is (class.Symbol CLOSE_BRACE) close_token →
        IsBlock (suc room) body (open_token ∷ before) after

  pub data IsElse : ℕ → Option (List Stmt) → List Token → List Token → Type 0 where
    nothing : {room : ℕ} {after : List Token} → IsElse room None after after
    otherwise : {room : ℕ} {word : Token} {body : List Stmt} {before after : List Token} →
        Is (class.Word keyword.Else) word → IsBlock room body before after →
        IsElse room (Some body) (word ∷ before) after

  pub data AreStmts : ℕ → List Stmt → List Token → List Token → Type 0 where
    none : {room : ℕ} {after : List Token} → AreStmts room [] after after
    more : {room : ℕ} {first : Stmt} {rest : List Stmt} {before middle after : List Token} →
        IsStmt room first before middle → AreStmts room rest middle after →
        AreStmts room (first ∷ rest) before after
