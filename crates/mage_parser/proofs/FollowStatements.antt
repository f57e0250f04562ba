-- The machine follows the readers of statements.
use Rattle.std.proofs.Common.{◌≡◌, ℕ, zero, suc, ◌≤◌, ◌<◌, Bool, true, false, List, [], ◌∷◌, ◌++◌, length, drop, cond, refl, ap, sym, ◌∙◌, append_assoc, arith}
use Rattle.std.specs.Prelude.{None, Some, Result, Ok, Err, IfOk}
use Rattle.mage_lex.specs.Symbols.{OPEN_BRACE, CLOSE_BRACE}
use Rattle.mage_lex.specs.declared.token.Token.{Token}
use Rattle.mage_tree.specs.declared.class.Class.{Class}
use Rattle.mage_tree.specs.declared.class.Class.TheVariants as class
use Rattle.mage_tree.specs.declared.class.Keyword.TheVariants as keyword
use Rattle.mage_parser.specs.declared.stop.Stop.{Stop}
use Rattle.mage_tree.specs.declared.tree.Stmt.{Stmt}
use Rattle.mage_lex.specs.Words as words
use Rattle.mage_tree.specs.Classes.{text_of, fits}
use Rattle.mage_parser.specs.Reads.{◌>>=◌, Read, begins, one, after_one}
use Rattle.mage_tree.specs.Grammar.{item_of}
use Rattle.mage_parser.specs.Constants.{const_at}
use Rattle.mage_parser.specs.Expressions.{bracketed as bracketed_at, index_at, item_at, expr_at}
use Rattle.mage_parser.specs.Statements.{constant_at, input_at, let_at, array_at, assign_at, move_at, output_at, block_at, on_at, for_at, else_at, choice_at, stmt_from, are_over, stmts_from, stmts_in, stmt_at, stmts_at, workers_at, at_end, source_at}
use Rattle.mage_tree.proofs.Apart.{apart}
use Rattle.mage_parser.proofs.SoundStatements.{stmt_at_sound}
use Rattle.mage_parser.proofs.FullStatements.{stmt_shrinks}
use Rattle.mage_parser.proofs.Machine.{Want, constant, expression, index, bracketed, block, block_rest, otherwise, workers, fixed, semicolon, colon, assign, dots, a_number, a_name, a_type, a_party, in_word, comparing, taken, passed, refused, stmt_start, step, feed, run, run_taken, run_refused, run_short}
use Rattle.mage_parser.proofs.Follow.{Follows, goes_on, after, along, read_on, after_taken, after_or_refused, one_fixed, after_fixed, decides}
use Rattle.mage_parser.proofs.FollowConstants.{run_lets, const_follows}
use Rattle.mage_parser.proofs.FollowExpressions.{bracketed_follows, index_follows, expr_follows}

whole : 7 < 8
whole = omega arith

-- where a statement is wanted: nothing else is wanted, or the end of a block is
abbrev Takes : List Want → Type 0
Takes wants = (token : Token) (others : List Token) (more : List Want) → fits (class.Symbol CLOSE_BRACE) token ≡ false → stmt_start token ≡ Some more → run (token ∷ others) wants ≡ run others (more ++ wants)

abbrev Refuses : List Want → Type 0
Refuses wants = (token : Token) (others : List Token) → fits (class.Symbol CLOSE_BRACE) token ≡ false → stmt_start token ≡ None → run (token ∷ others) wants ≡ Err (length (token ∷ others))

record Place (wants : List Want) : Type 0 where
  takes : Takes wants
  refuses : Refuses wants

no_more : (wants : List Want) → wants ++ [] ≡ wants
no_more [] = refl
no_more (want ∷ wants) = ap (λ l. want ∷ l) (no_more wants)

top_takes : Place []
unfolding run feed
top_takes = record { takes = λ token others more n s. rw s (ap (run others) (sym (no_more more))); refuses = λ token others n s. rw s }

rest_takes : (rest : List Want) → Place (block_rest ∷ rest)
unfolding step
rest_takes rest = record {
  takes = λ token others more n s. run_taken block_rest rest (more ++ block_rest ∷ []) token others (rw (n, s)) ∙ ap (run others) (append_assoc more (block_rest ∷ []) rest);
  refuses = λ token others n s. run_refused block_rest rest token others (rw (n, s));
}

-- the first token of a statement is taken
first_taken : {B : Type 0} (c : Class) (wants more : List Want) → Place wants → (tokens : List Token) (token : Token) (others : List Token) (f : Token × List Token → Result B Stop) (left : B → List Token) (last : List Want) →
    tokens ≡ token ∷ others → fits c token ≡ true → fits (class.Symbol CLOSE_BRACE) token ≡ false → stmt_start token ≡ Some more → Follows others (more ++ wants) (f (token, others)) left last →
    Follows tokens wants (one c tokens >>= f) left last
unfolding one
first_taken c wants more place tokens token others f left last e is n s h =
    rw (e, is) (along (token ∷ others) others wants (more ++ wants) (f (token, others)) left last (place.takes token others more n s) h)

start_const : (token : Token) → fits (class.Word keyword.Const) token ≡ true → stmt_start token ≡ Some (fixed a_name ∷ fixed assign ∷ constant 3 ∷ fixed semicolon ∷ [])
unfolding stmt_start
start_const token a0 = rw (a0)

start_input : (token : Token) → fits (class.Word keyword.Const) token ≡ false → fits (class.Word keyword.Input) token ≡ true → stmt_start token ≡ Some (fixed a_party ∷ fixed a_name ∷ fixed colon ∷ fixed a_type ∷ index ∷ fixed semicolon ∷ [])
unfolding stmt_start
start_input token a0 a1 = rw (a0, a1)

start_let : (token : Token) → fits (class.Word keyword.Const) token ≡ false → fits (class.Word keyword.Input) token ≡ false → fits (class.Word keyword.Let) token ≡ true → stmt_start token ≡ Some (fixed a_name ∷ fixed assign ∷ expression 7 ∷ fixed semicolon ∷ [])
unfolding stmt_start
start_let token a0 a1 a2 = rw (a0, a1, a2)

start_array : (token : Token) → fits (class.Word keyword.Const) token ≡ false → fits (class.Word keyword.Input) token ≡ false → fits (class.Word keyword.Let) token ≡ false → fits (class.Word keyword.Array) token ≡ true → stmt_start token ≡ Some (fixed a_name ∷ fixed colon ∷ fixed a_type ∷ bracketed ∷ fixed assign ∷ expression 7 ∷ fixed semicolon ∷ [])
unfolding stmt_start
start_array token a0 a1 a2 a3 = rw (a0, a1, a2, a3)

start_move : (token : Token) → fits (class.Word keyword.Const) token ≡ false → fits (class.Word keyword.Input) token ≡ false → fits (class.Word keyword.Let) token ≡ false → fits (class.Word keyword.Array) token ≡ false → fits (class.Word keyword.Move) token ≡ true → stmt_start token ≡ Some (fixed a_name ∷ fixed assign ∷ fixed a_name ∷ index ∷ fixed semicolon ∷ [])
unfolding stmt_start
start_move token a0 a1 a2 a3 a4 = rw (a0, a1, a2, a3, a4)

start_on : (token : Token) → fits (class.Word keyword.Const) token ≡ false → fits (class.Word keyword.Input) token ≡ false → fits (class.Word keyword.Let) token ≡ false → fits (class.Word keyword.Array) token ≡ false → fits (class.Word keyword.Move) token ≡ false → fits (class.Word keyword.On) token ≡ true → stmt_start token ≡ Some (constant 3 ∷ block ∷ [])
unfolding stmt_start
start_on token a0 a1 a2 a3 a4 a5 = rw (a0, a1, a2, a3, a4, a5)

start_for : (token : Token) → fits (class.Word keyword.Const) token ≡ false → fits (class.Word keyword.Input) token ≡ false → fits (class.Word keyword.Let) token ≡ false → fits (class.Word keyword.Array) token ≡ false → fits (class.Word keyword.Move) token ≡ false → fits (class.Word keyword.On) token ≡ false → fits (class.Word keyword.For) token ≡ true → stmt_start token ≡ Some (fixed a_name ∷ fixed in_word ∷ constant 3 ∷ fixed dots ∷ constant 3 ∷ block ∷ [])
unfolding stmt_start
start_for token a0 a1 a2 a3 a4 a5 a6 = rw (a0, a1, a2, a3, a4, a5, a6)

start_choice : (token : Token) → fits (class.Word keyword.Const) token ≡ false → fits (class.Word keyword.Input) token ≡ false → fits (class.Word keyword.Let) token ≡ false → fits (class.Word keyword.Array) token ≡ false → fits (class.Word keyword.Move) token ≡ false → fits (class.Word keyword.On) token ≡ false → fits (class.Word keyword.For) token ≡ false → fits (class.Word keyword.If) token ≡ true → stmt_start token ≡ Some (constant 3 ∷ fixed comparing ∷ constant 3 ∷ block ∷ otherwise ∷ [])
unfolding stmt_start
start_choice token a0 a1 a2 a3 a4 a5 a6 a7 = rw (a0, a1, a2, a3, a4, a5, a6, a7)

start_output : (token : Token) → fits (class.Word keyword.Const) token ≡ false → fits (class.Word keyword.Input) token ≡ false → fits (class.Word keyword.Let) token ≡ false → fits (class.Word keyword.Array) token ≡ false → fits (class.Word keyword.Move) token ≡ false → fits (class.Word keyword.On) token ≡ false → fits (class.Word keyword.For) token ≡ false → fits (class.Word keyword.If) token ≡ false → fits (class.Word keyword.Output) token ≡ true → stmt_start token ≡ Some (expression 7 ∷ fixed semicolon ∷ [])
unfolding stmt_start
start_output token a0 a1 a2 a3 a4 a5 a6 a7 a8 = rw (a0, a1, a2, a3, a4, a5, a6, a7, a8)

start_assign : (token : Token) → fits (class.Word keyword.Const) token ≡ false → fits (class.Word keyword.Input) token ≡ false → fits (class.Word keyword.Let) token ≡ false → fits (class.Word keyword.Array) token ≡ false → fits (class.Word keyword.Move) token ≡ false → fits (class.Word keyword.On) token ≡ false → fits (class.Word keyword.For) token ≡ false → fits (class.Word keyword.If) token ≡ false → fits (class.Word keyword.Output) token ≡ false → fits class.Name token ≡ true → stmt_start token ≡ Some (index ∷ fixed assign ∷ expression 7 ∷ fixed semicolon ∷ [])
unfolding stmt_start
start_assign token a0 a1 a2 a3 a4 a5 a6 a7 a8 a9 = rw (a0, a1, a2, a3, a4, a5, a6, a7, a8, a9)

start_none : (token : Token) → fits (class.Word keyword.Const) token ≡ false → fits (class.Word keyword.Input) token ≡ false → fits (class.Word keyword.Let) token ≡ false → fits (class.Word keyword.Array) token ≡ false → fits (class.Word keyword.Move) token ≡ false → fits (class.Word keyword.On) token ≡ false → fits (class.Word keyword.For) token ≡ false → fits (class.Word keyword.If) token ≡ false → fits (class.Word keyword.Output) token ≡ false → fits class.Name token ≡ false → stmt_start token ≡ None
unfolding stmt_start
start_none token a0 a1 a2 a3 a4 a5 a6 a7 a8 a9 = rw (a0, a1, a2, a3, a4, a5, a6, a7, a8, a9)

constant_follows : (room : ℕ) (wants : List Want) → Place wants → (tokens : List Token) (token : Token) (others : List Token) → tokens ≡ token ∷ others → fits (class.Word keyword.Const) token ≡ true →
    fits (class.Symbol CLOSE_BRACE) token ≡ false → stmt_start token ≡ Some (fixed a_name ∷ fixed assign ∷ constant 3 ∷ fixed semicolon ∷ []) → Follows tokens wants (constant_at room tokens) after wants
unfolding constant_at
constant_follows room wants place tokens token others e a n s =
    first_taken (class.Word keyword.Const) wants (fixed a_name ∷ fixed assign ∷ constant 3 ∷ fixed semicolon ∷ []) place tokens token others _ _ _ e a n s
    (one_fixed a_name (fixed assign ∷ constant 3 ∷ fixed semicolon ∷ wants) others _ _ _ (λ name1 r1 e1 i1.
    after_fixed assign (constant 3 ∷ fixed semicolon ∷ wants) r1 _ _ _ (λ eq r2 e2 i2.
    read_on r2 (constant 3 ∷ fixed semicolon ∷ wants) (fixed semicolon ∷ wants) (const_at room 3 r2) after _ _ _ (const_follows room 3 r2 (fixed semicolon ∷ wants))
    (λ value v. after_fixed semicolon wants value.1 _ _ _ (λ end last f shut. refl)))))

input_follows : (room : ℕ) (wants : List Want) → Place wants → (tokens : List Token) (token : Token) (others : List Token) → tokens ≡ token ∷ others → fits (class.Word keyword.Input) token ≡ true →
    fits (class.Symbol CLOSE_BRACE) token ≡ false → stmt_start token ≡ Some (fixed a_party ∷ fixed a_name ∷ fixed colon ∷ fixed a_type ∷ index ∷ fixed semicolon ∷ []) → Follows tokens wants (input_at room tokens) after wants
unfolding input_at
input_follows room wants place tokens token others e a n s =
    first_taken (class.Word keyword.Input) wants (fixed a_party ∷ fixed a_name ∷ fixed colon ∷ fixed a_type ∷ index ∷ fixed semicolon ∷ []) place tokens token others _ _ _ e a n s
    (one_fixed a_party (fixed a_name ∷ fixed colon ∷ fixed a_type ∷ index ∷ fixed semicolon ∷ wants) others _ _ _ (λ party r0 e0 i0.
    one_fixed a_name (fixed colon ∷ fixed a_type ∷ index ∷ fixed semicolon ∷ wants) r0 _ _ _ (λ name1 r1 e1 i1.
    after_fixed colon (fixed a_type ∷ index ∷ fixed semicolon ∷ wants) r1 _ _ _ (λ sign r2 e2 i2.
    one_fixed a_type (index ∷ fixed semicolon ∷ wants) r2 _ _ _ (λ ty r3 e3 i3.
    read_on r3 (index ∷ fixed semicolon ∷ wants) (fixed semicolon ∷ wants) (index_at room r3) after _ _ _ (index_follows room r3 (fixed semicolon ∷ wants))
    (λ value v. after_fixed semicolon wants value.1 _ _ _ (λ end last f shut. refl)))))))

let_follows : (room : ℕ) (wants : List Want) → Place wants → (tokens : List Token) (token : Token) (others : List Token) → tokens ≡ token ∷ others → fits (class.Word keyword.Let) token ≡ true →
    fits (class.Symbol CLOSE_BRACE) token ≡ false → stmt_start token ≡ Some (fixed a_name ∷ fixed assign ∷ expression 7 ∷ fixed semicolon ∷ []) → Follows tokens wants (let_at room tokens) after wants
unfolding let_at
let_follows room wants place tokens token others e a n s =
    first_taken (class.Word keyword.Let) wants (fixed a_name ∷ fixed assign ∷ expression 7 ∷ fixed semicolon ∷ []) place tokens token others _ _ _ e a n s
    (one_fixed a_name (fixed assign ∷ expression 7 ∷ fixed semicolon ∷ wants) others _ _ _ (λ name1 r1 e1 i1.
    after_fixed assign (expression 7 ∷ fixed semicolon ∷ wants) r1 _ _ _ (λ eq r2 e2 i2.
    read_on r2 (expression 7 ∷ fixed semicolon ∷ wants) (fixed semicolon ∷ wants) (expr_at room 7 r2) after _ _ _ (expr_follows room 7 whole r2 (fixed semicolon ∷ wants))
    (λ value v. after_fixed semicolon wants value.1 _ _ _ (λ end last f shut. refl)))))

array_follows : (room : ℕ) (wants : List Want) → Place wants → (tokens : List Token) (token : Token) (others : List Token) → tokens ≡ token ∷ others → fits (class.Word keyword.Array) token ≡ true →
    fits (class.Symbol CLOSE_BRACE) token ≡ false → stmt_start token ≡ Some (fixed a_name ∷ fixed colon ∷ fixed a_type ∷ bracketed ∷ fixed assign ∷ expression 7 ∷ fixed semicolon ∷ []) → Follows tokens wants (array_at room tokens) after wants
unfolding array_at
array_follows room wants place tokens token others e a n s =
    first_taken (class.Word keyword.Array) wants (fixed a_name ∷ fixed colon ∷ fixed a_type ∷ bracketed ∷ fixed assign ∷ expression 7 ∷ fixed semicolon ∷ []) place tokens token others _ _ _ e a n s
    (one_fixed a_name (fixed colon ∷ fixed a_type ∷ bracketed ∷ fixed assign ∷ expression 7 ∷ fixed semicolon ∷ wants) others _ _ _ (λ name1 r1 e1 i1.
    after_fixed colon (fixed a_type ∷ bracketed ∷ fixed assign ∷ expression 7 ∷ fixed semicolon ∷ wants) r1 _ _ _ (λ sign r2 e2 i2.
    one_fixed a_type (bracketed ∷ fixed assign ∷ expression 7 ∷ fixed semicolon ∷ wants) r2 _ _ _ (λ ty r3 e3 i3.
    read_on r3 (bracketed ∷ fixed assign ∷ expression 7 ∷ fixed semicolon ∷ wants) (fixed assign ∷ expression 7 ∷ fixed semicolon ∷ wants) (bracketed_at room r3) after _ _ _ (bracketed_follows room r3 (fixed assign ∷ expression 7 ∷ fixed semicolon ∷ wants))
    (λ size b. one_fixed assign (expression 7 ∷ fixed semicolon ∷ wants) size.1 _ _ _ (λ eq r4 e4 i4.
    read_on r4 (expression 7 ∷ fixed semicolon ∷ wants) (fixed semicolon ∷ wants) (expr_at room 7 r4) after _ _ _ (expr_follows room 7 whole r4 (fixed semicolon ∷ wants))
    (λ value v. after_fixed semicolon wants value.1 _ _ _ (λ end last f shut. refl))))))))

move_follows : (room : ℕ) (wants : List Want) → Place wants → (tokens : List Token) (token : Token) (others : List Token) → tokens ≡ token ∷ others → fits (class.Word keyword.Move) token ≡ true →
    fits (class.Symbol CLOSE_BRACE) token ≡ false → stmt_start token ≡ Some (fixed a_name ∷ fixed assign ∷ fixed a_name ∷ index ∷ fixed semicolon ∷ []) → Follows tokens wants (move_at room tokens) after wants
unfolding move_at item_at
move_follows room wants place tokens token others e a n s =
    first_taken (class.Word keyword.Move) wants (fixed a_name ∷ fixed assign ∷ fixed a_name ∷ index ∷ fixed semicolon ∷ []) place tokens token others _ _ _ e a n s
    (one_fixed a_name (fixed assign ∷ fixed a_name ∷ index ∷ fixed semicolon ∷ wants) others _ _ _ (λ name1 r1 e1 i1.
    after_fixed assign (fixed a_name ∷ index ∷ fixed semicolon ∷ wants) r1 _ _ _ (λ eq r2 e2 i2.
    read_on r2 (fixed a_name ∷ index ∷ fixed semicolon ∷ wants) (fixed semicolon ∷ wants) (item_at room r2) after _ _ _
    (one_fixed a_name (index ∷ fixed semicolon ∷ wants) r2 _ _ _ (λ name2 r3 e3 i3.
    read_on r3 (index ∷ fixed semicolon ∷ wants) (fixed semicolon ∷ wants) (index_at room r3) after _ _ _ (index_follows room r3 (fixed semicolon ∷ wants)) (λ found q. refl)))
    (λ value v. after_fixed semicolon wants value.1 _ _ _ (λ end last f shut. refl)))))

output_follows : (room : ℕ) (wants : List Want) → Place wants → (tokens : List Token) (token : Token) (others : List Token) → tokens ≡ token ∷ others → fits (class.Word keyword.Output) token ≡ true →
    fits (class.Symbol CLOSE_BRACE) token ≡ false → stmt_start token ≡ Some (expression 7 ∷ fixed semicolon ∷ []) → Follows tokens wants (output_at room tokens) after wants
unfolding output_at
output_follows room wants place tokens token others e a n s =
    first_taken (class.Word keyword.Output) wants (expression 7 ∷ fixed semicolon ∷ []) place tokens token others _ _ _ e a n s
    (read_on others (expression 7 ∷ fixed semicolon ∷ wants) (fixed semicolon ∷ wants) (expr_at room 7 others) after _ _ _ (expr_follows room 7 whole others (fixed semicolon ∷ wants))
    (λ value v. after_fixed semicolon wants value.1 _ _ _ (λ end last f shut. refl)))

-- what `deeper` reads behind a bracket
abbrev FollowsIn : (List Token → Read (List Stmt)) → Type 0
FollowsIn deeper = (tokens : List Token) (token : Token) (others : List Token) → tokens ≡ token ∷ others → (rest : List Want) →
    Follows others (block_rest ∷ rest) (deeper tokens) after (block_rest ∷ rest)

block_taken : (token : Token) → fits (class.Symbol OPEN_BRACE) token ≡ true → step block token ≡ taken (block_rest ∷ [])
unfolding step
block_taken token a = rw a

block_refused : (token : Token) → fits (class.Symbol OPEN_BRACE) token ≡ false → step block token ≡ refused
unfolding step
block_refused token a = rw a

block_closed : (token : Token) → fits (class.Symbol CLOSE_BRACE) token ≡ true → step block_rest token ≡ taken []
unfolding step
block_closed token a = rw a

-- the end of a block, where no statement follows
close_follows : {B : Type 0} (rest : List Want) (tokens : List Token) (f : List Token → Result B Stop) (left : B → List Token) (last : List Want) → are_over tokens ≡ true →
    ((token : Token) (others : List Token) → tokens ≡ token ∷ others → Follows others rest (f others) left last) →
    Follows tokens (block_rest ∷ rest) (after_one (class.Symbol CLOSE_BRACE) tokens >>= f) left last
unfolding after_one begins
close_follows rest [] f left last o h = run_short block_rest rest refl
close_follows rest (token ∷ others) f left last o h =
    rw o (along (token ∷ others) others (block_rest ∷ rest) rest (f others) left last (run_taken block_rest rest [] token others (block_closed token o)) (h token others refl))

block_follows : (deeper : List Token → Read (List Stmt)) → FollowsIn deeper → ((tokens : List Token) (x : List Stmt × List Token) → deeper tokens ≡ Ok x → are_over x.1 ≡ true) →
    (tokens : List Token) (rest : List Want) → Follows tokens (block ∷ rest) (block_at deeper tokens) after rest
unfolding block_at
block_follows deeper deep over tokens rest =
    after_or_refused (class.Symbol OPEN_BRACE) block rest (block_rest ∷ []) tokens _ _ _ refl
    (λ token others e a. block_taken token a) (λ token others e a. block_refused token a)
    (λ token others e a.
    read_on others (block_rest ∷ rest) (block_rest ∷ rest) (deeper tokens) after _ _ _ (deep tokens token others e rest)
    (λ body b. close_follows rest body.1 _ _ _ (over tokens body b) (λ close_token last f. refl)))

abbrev Over : (List Token → Read (List Stmt)) → Type 0
Over deeper = (tokens : List Token) (x : List Stmt × List Token) → deeper tokens ≡ Ok x → are_over x.1 ≡ true

on_follows : (deeper : List Token → Read (List Stmt)) → FollowsIn deeper → Over deeper → (room : ℕ) (wants : List Want) → Place wants → (tokens : List Token) (token : Token) (others : List Token) → tokens ≡ token ∷ others → fits (class.Word keyword.On) token ≡ true →
    fits (class.Symbol CLOSE_BRACE) token ≡ false → stmt_start token ≡ Some (constant 3 ∷ block ∷ []) → Follows tokens wants (on_at deeper room tokens) after wants
unfolding on_at
on_follows deeper deep over room wants place tokens token others e a n s =
    first_taken (class.Word keyword.On) wants (constant 3 ∷ block ∷ []) place tokens token others _ _ _ e a n s
    (read_on others (constant 3 ∷ block ∷ wants) (block ∷ wants) (const_at room 3 others) after _ _ _ (const_follows room 3 others (block ∷ wants))
    (λ worker w. read_on worker.1 (block ∷ wants) wants (block_at deeper worker.1) after _ _ _ (block_follows deeper deep over worker.1 wants) (λ body b. refl)))

for_follows : (deeper : List Token → Read (List Stmt)) → FollowsIn deeper → Over deeper → (room : ℕ) (wants : List Want) → Place wants → (tokens : List Token) (token : Token) (others : List Token) → tokens ≡ token ∷ others → fits (class.Word keyword.For) token ≡ true →
    fits (class.Symbol CLOSE_BRACE) token ≡ false → stmt_start token ≡ Some (fixed a_name ∷ fixed in_word ∷ constant 3 ∷ fixed dots ∷ constant 3 ∷ block ∷ []) → Follows tokens wants (for_at deeper room tokens) after wants
unfolding for_at
for_follows deeper deep over room wants place tokens token others e a n s =
    first_taken (class.Word keyword.For) wants (fixed a_name ∷ fixed in_word ∷ constant 3 ∷ fixed dots ∷ constant 3 ∷ block ∷ []) place tokens token others _ _ _ e a n s
    (one_fixed a_name (fixed in_word ∷ constant 3 ∷ fixed dots ∷ constant 3 ∷ block ∷ wants) others _ _ _ (λ name1 r1 e1 i1.
    after_fixed in_word (constant 3 ∷ fixed dots ∷ constant 3 ∷ block ∷ wants) r1 _ _ _ (λ within r2 e2 i2.
    read_on r2 (constant 3 ∷ fixed dots ∷ constant 3 ∷ block ∷ wants) (fixed dots ∷ constant 3 ∷ block ∷ wants) (const_at room 3 r2) after _ _ _ (const_follows room 3 r2 (fixed dots ∷ constant 3 ∷ block ∷ wants))
    (λ from x. after_fixed dots (constant 3 ∷ block ∷ wants) from.1 _ _ _ (λ sign r3 e3 i3.
    read_on r3 (constant 3 ∷ block ∷ wants) (block ∷ wants) (const_at room 3 r3) after _ _ _ (const_follows room 3 r3 (block ∷ wants))
    (λ to y. read_on to.1 (block ∷ wants) wants (block_at deeper to.1) after _ _ _ (block_follows deeper deep over to.1 wants) (λ body b. refl)))))))

else_taken : (token : Token) → fits (class.Word keyword.Else) token ≡ true → step otherwise token ≡ taken (block ∷ [])
unfolding step
else_taken token a = rw a

else_passed : (token : Token) → fits (class.Word keyword.Else) token ≡ false → step otherwise token ≡ passed
unfolding step
else_passed token a = rw a

else_follows : (deeper : List Token → Read (List Stmt)) → FollowsIn deeper → Over deeper → (tokens : List Token) (rest : List Want) →
    Follows tokens (otherwise ∷ rest) (else_at deeper tokens) after rest
unfolding else_at
else_follows deeper deep over tokens rest =
    decides (class.Word keyword.Else) tokens _ _ _ _ _
    (λ token others e a. after_taken (class.Word keyword.Else) otherwise rest (block ∷ []) tokens token others _ _ _ e a (else_taken token a)
    (read_on others (block ∷ rest) rest (block_at deeper others) after _ _ _ (block_follows deeper deep over others rest) (λ body b. refl)))
    (λ none. run_lets otherwise rest tokens refl (λ token others e. else_passed token (none token others e)))

choice_follows : (deeper : List Token → Read (List Stmt)) → FollowsIn deeper → Over deeper → (room : ℕ) (wants : List Want) → Place wants → (tokens : List Token) (token : Token) (others : List Token) → tokens ≡ token ∷ others → fits (class.Word keyword.If) token ≡ true →
    fits (class.Symbol CLOSE_BRACE) token ≡ false → stmt_start token ≡ Some (constant 3 ∷ fixed comparing ∷ constant 3 ∷ block ∷ otherwise ∷ []) → Follows tokens wants (choice_at deeper room tokens) after wants
unfolding choice_at
choice_follows deeper deep over room wants place tokens token others e a n s =
    first_taken (class.Word keyword.If) wants (constant 3 ∷ fixed comparing ∷ constant 3 ∷ block ∷ otherwise ∷ []) place tokens token others _ _ _ e a n s
    (read_on others (constant 3 ∷ fixed comparing ∷ constant 3 ∷ block ∷ otherwise ∷ wants) (fixed comparing ∷ constant 3 ∷ block ∷ otherwise ∷ wants) (const_at room 3 others) after _ _ _ (const_follows room 3 others (fixed comparing ∷ constant 3 ∷ block ∷ otherwise ∷ wants))
    (λ left x. one_fixed comparing (constant 3 ∷ block ∷ otherwise ∷ wants) left.1 _ _ _ (λ op r1 e1 i1.
    read_on r1 (constant 3 ∷ block ∷ otherwise ∷ wants) (block ∷ otherwise ∷ wants) (const_at room 3 r1) after _ _ _ (const_follows room 3 r1 (block ∷ otherwise ∷ wants))
    (λ right y. read_on right.1 (block ∷ otherwise ∷ wants) (otherwise ∷ wants) (block_at deeper right.1) after _ _ _ (block_follows deeper deep over right.1 (otherwise ∷ wants))
    (λ chosen b. read_on chosen.1 (otherwise ∷ wants) wants (else_at deeper chosen.1) after _ _ _ (else_follows deeper deep over chosen.1 wants) (λ other o. refl))))))

assign_follows : (room : ℕ) (wants : List Want) → Place wants → (tokens : List Token) → are_over tokens ≡ false →
    ((token : Token) (others : List Token) → tokens ≡ token ∷ others → fits class.Name token ≡ true → stmt_start token ≡ Some (index ∷ fixed assign ∷ expression 7 ∷ fixed semicolon ∷ [])) →
    ((token : Token) (others : List Token) → tokens ≡ token ∷ others → fits class.Name token ≡ false → stmt_start token ≡ None) →
    Follows tokens wants (assign_at room tokens) after wants
unfolding assign_at item_at one begins
assign_follows room wants place [] o t r = absurd (cc)
assign_follows room wants place (token ∷ others) o t r = go (fits class.Name token) refl
  where
    go : (b : Bool) → fits class.Name token ≡ b → Follows (token ∷ others) wants (assign_at room (token ∷ others)) after wants
    go true is = rw is (along (token ∷ others) others wants (index ∷ fixed assign ∷ expression 7 ∷ fixed semicolon ∷ wants) _ _ _
        (place.takes token others (index ∷ fixed assign ∷ expression 7 ∷ fixed semicolon ∷ []) o (t token others refl is))
        (read_on others (index ∷ fixed assign ∷ expression 7 ∷ fixed semicolon ∷ wants) (fixed assign ∷ expression 7 ∷ fixed semicolon ∷ wants) (index_at room others >>= λ found. Ok (item_of token found.0, found.1)) after _ _ _
        (read_on others (index ∷ fixed assign ∷ expression 7 ∷ fixed semicolon ∷ wants) (fixed assign ∷ expression 7 ∷ fixed semicolon ∷ wants) (index_at room others) after _ _ _ (index_follows room others (fixed assign ∷ expression 7 ∷ fixed semicolon ∷ wants)) (λ found q. refl))
        (λ item i. one_fixed assign (expression 7 ∷ fixed semicolon ∷ wants) item.1 _ _ _ (λ eq r1 e1 i1.
        read_on r1 (expression 7 ∷ fixed semicolon ∷ wants) (fixed semicolon ∷ wants) (expr_at room 7 r1) after _ _ _ (expr_follows room 7 whole r1 (fixed semicolon ∷ wants))
        (λ value v. after_fixed semicolon wants value.1 _ _ _ (λ end last f shut. refl))))))
    go false is = rw is (place.refuses token others o (r token others refl is))

no_close : (tokens : List Token) → are_over tokens ≡ false → (token : Token) (others : List Token) → tokens ≡ token ∷ others → fits (class.Symbol CLOSE_BRACE) token ≡ false
unfolding begins
no_close tokens o token others e = rw e at o

stmt_from_follows : (deeper : List Token → Read (List Stmt)) → FollowsIn deeper → Over deeper → (room : ℕ) (wants : List Want) → Place wants → (tokens : List Token) → are_over tokens ≡ false →
    Follows tokens wants (stmt_from deeper room tokens) after wants
unfolding stmt_from
stmt_from_follows deeper deep over room wants place tokens o =
    decides (class.Word keyword.Const) tokens _ _ _ _ _ (λ token others e a. constant_follows room wants place tokens token others e a (no_close tokens o token others e) (start_const token a)) (λ n0.
    decides (class.Word keyword.Input) tokens _ _ _ _ _ (λ token others e a. input_follows room wants place tokens token others e a (no_close tokens o token others e) (start_input token (n0 token others e) a)) (λ n1.
    decides (class.Word keyword.Let) tokens _ _ _ _ _ (λ token others e a. let_follows room wants place tokens token others e a (no_close tokens o token others e) (start_let token (n0 token others e) (n1 token others e) a)) (λ n2.
    decides (class.Word keyword.Array) tokens _ _ _ _ _ (λ token others e a. array_follows room wants place tokens token others e a (no_close tokens o token others e) (start_array token (n0 token others e) (n1 token others e) (n2 token others e) a)) (λ n3.
    decides (class.Word keyword.Move) tokens _ _ _ _ _ (λ token others e a. move_follows room wants place tokens token others e a (no_close tokens o token others e) (start_move token (n0 token others e) (n1 token others e) (n2 token others e) (n3 token others e) a)) (λ n4.
    decides (class.Word keyword.On) tokens _ _ _ _ _ (λ token others e a. on_follows deeper deep over room wants place tokens token others e a (no_close tokens o token others e) (start_on token (n0 token others e) (n1 token others e) (n2 token others e) (n3 token others e) (n4 token others e) a)) (λ n5.
    decides (class.Word keyword.For) tokens _ _ _ _ _ (λ token others e a. for_follows deeper deep over room wants place tokens token others e a (no_close tokens o token others e) (start_for token (n0 token others e) (n1 token others e) (n2 token others e) (n3 token others e) (n4 token others e) (n5 token others e) a)) (λ n6.
    decides (class.Word keyword.If) tokens _ _ _ _ _ (λ token others e a. choice_follows deeper deep over room wants place tokens token others e a (no_close tokens o token others e) (start_choice token (n0 token others e) (n1 token others e) (n2 token others e) (n3 token others e) (n4 token others e) (n5 token others e) (n6 token others e) a)) (λ n7.
    decides (class.Word keyword.Output) tokens _ _ _ _ _ (λ token others e a. output_follows room wants place tokens token others e a (no_close tokens o token others e) (start_output token (n0 token others e) (n1 token others e) (n2 token others e) (n3 token others e) (n4 token others e) (n5 token others e) (n6 token others e) (n7 token others e) a)) (λ n8.
    assign_follows room wants place tokens o (λ token others e a. start_assign token (n0 token others e) (n1 token others e) (n2 token others e) (n3 token others e) (n4 token others e) (n5 token others e) (n6 token others e) (n7 token others e) (n8 token others e) a) (λ token others e a. start_none token (n0 token others e) (n1 token others e) (n2 token others e) (n3 token others e) (n4 token others e) (n5 token others e) (n6 token others e) (n7 token others e) (n8 token others e) a))))))))))

read_known : {A B : Type 0} (read : Result A Stop) (f : A → Result B Stop) (P : B → Type 0) → ((x : A) → read ≡ Ok x → IfOk (f x) P) → IfOk (read >>= f) P
read_known (Ok x) f P h = h x refl
read_known (Err e) f P h = tt

over_or : {B : Type 0} (tokens : List Token) (first second : Result B Stop) (P : B → Type 0) → (are_over tokens ≡ true → IfOk first P) → (are_over tokens ≡ false → IfOk second P) → IfOk (cond (are_over tokens) first second) P
over_or {B} tokens first second P h g = go (are_over tokens) refl
  where
    go : (b : Bool) → are_over tokens ≡ b → IfOk (cond b first second) P
    go true o = h o
    go false o = g o

stmts_from_over : (first : List Token → Read Stmt) → ((tokens : List Token) (x : Stmt × List Token) → first tokens ≡ Ok x → length x.1 < length tokens) →
    (most : ℕ) (tokens : List Token) → length tokens ≤ most → IfOk (stmts_from first most tokens) (λ x. are_over x.1 ≡ true)
unfolding stmts_from
stmts_from_over first shrinks zero [] m = refl
stmts_from_over first shrinks zero (token ∷ others) m = absurd (omega arith)
stmts_from_over first shrinks (suc most) tokens m =
    over_or tokens _ _ _ (λ o. o) (λ o.
    read_known (first tokens) _ _ (λ one_stmt d.
    read_known (stmts_from first most one_stmt.1) _ _ (λ rest r.
    rw r at (stmts_from_over first shrinks most one_stmt.1 (let k = shrinks tokens one_stmt d in omega (arith, k))))))

over_follows : {B : Type 0} (tokens : List Token) (wants : List Want) (first second : Result B Stop) (left : B → List Token) (last : List Want) →
    (are_over tokens ≡ true → Follows tokens wants first left last) → (are_over tokens ≡ false → Follows tokens wants second left last) → Follows tokens wants (cond (are_over tokens) first second) left last
over_follows {B} tokens wants first second left last h g = go (are_over tokens) refl
  where
    go : (b : Bool) → are_over tokens ≡ b → Follows tokens wants (cond b first second) left last
    go true o = h o
    go false o = g o

stmts_from_follows : (first : List Token → Read Stmt) (wants : List Want) → ((tokens : List Token) → are_over tokens ≡ false → Follows tokens wants (first tokens) after wants) →
    (most : ℕ) (tokens : List Token) → Follows tokens wants (stmts_from first most tokens) after wants
unfolding stmts_from
stmts_from_follows first wants follow zero tokens = refl
stmts_from_follows first wants follow (suc most) tokens =
    over_follows tokens wants _ _ _ _ (λ o. refl) (λ o.
    read_on tokens wants wants (first tokens) after _ _ _ (follow tokens o) (λ one_stmt d.
    read_on one_stmt.1 wants wants (stmts_from first most one_stmt.1) after _ _ _ (stmts_from_follows first wants follow most one_stmt.1) (λ rest r. refl)))

stmt_shorter : (room : ℕ) (tokens : List Token) (x : Stmt × List Token) → stmt_from (stmts_in room) room tokens ≡ Ok x → length x.1 < length tokens
stmt_shorter room tokens x e = stmt_shrinks (rw e at (stmt_at_sound room tokens))

in_over : (room : ℕ) → Over (stmts_in room)
unfolding stmts_in
in_over zero tokens x e = absurd (cc e)
in_over (suc room) tokens x e =
    rw e at (stmts_from_over (stmt_from (stmts_in room) room) (λ others y f. stmt_shorter room others y f) (length (drop 1 tokens)) (drop 1 tokens) (omega arith))

pub stmts_in_follows : (room : ℕ) → FollowsIn (stmts_in room)
unfolding stmts_in
stmts_in_follows zero tokens token others e rest = goes_on tokens token others (block_rest ∷ rest) e
stmts_in_follows (suc room) tokens token others e rest =
    rw e (stmts_from_follows (stmt_from (stmts_in room) room) (block_rest ∷ rest)
    (λ more o. stmt_from_follows (stmts_in room) (stmts_in_follows room) (in_over room) room (block_rest ∷ rest) (rest_takes rest) more o) (length others) others)

stmts_follow : (room : ℕ) (tokens : List Token) → Follows tokens [] (stmts_at room tokens) after []
unfolding stmts_at stmt_at
stmts_follow room tokens =
    stmts_from_follows (stmt_at room) [] (λ more o. stmt_from_follows (stmts_in room) (stmts_in_follows room) (in_over room) room [] top_takes more o) (length tokens) tokens

stmts_over : (room : ℕ) (tokens : List Token) (x : List Stmt × List Token) → stmts_at room tokens ≡ Ok x → are_over x.1 ≡ true
unfolding stmts_at stmt_at
stmts_over room tokens x e = rw e at (stmts_from_over (stmt_from (stmts_in room) room) (λ others y f. stmt_shorter room others y f) (length tokens) tokens (omega arith))

close_starts_none : (token : Token) → fits (class.Symbol CLOSE_BRACE) token ≡ true → stmt_start token ≡ None
unfolding stmt_start text_of words.is_keyword
close_starts_none token is =
    rw (
      apart (class.Symbol CLOSE_BRACE) (class.Word keyword.Const) refl token is,
      apart (class.Symbol CLOSE_BRACE) (class.Word keyword.Input) refl token is,
      apart (class.Symbol CLOSE_BRACE) (class.Word keyword.Let) refl token is,
      apart (class.Symbol CLOSE_BRACE) (class.Word keyword.Array) refl token is,
      apart (class.Symbol CLOSE_BRACE) (class.Word keyword.Move) refl token is,
      apart (class.Symbol CLOSE_BRACE) (class.Word keyword.On) refl token is,
      apart (class.Symbol CLOSE_BRACE) (class.Word keyword.For) refl token is,
      apart (class.Symbol CLOSE_BRACE) (class.Word keyword.If) refl token is,
      apart (class.Symbol CLOSE_BRACE) (class.Word keyword.Output) refl token is,
      apart (class.Symbol CLOSE_BRACE) class.Name refl token is,
    )

end_case : {B : Type 0} (tokens : List Token) → are_over tokens ≡ true → (x : B) → Follows tokens [] (at_end tokens >>= λ end. Ok x) (λ y. []) []
unfolding at_end begins run feed
end_case [] o x = refl
end_case (token ∷ others) o x = rw (close_starts_none token o)

workers_taken : (token : Token) → fits (class.Word keyword.Workers) token ≡ true → step workers token ≡ taken (fixed a_number ∷ fixed semicolon ∷ [])
unfolding step
workers_taken token a = rw a

workers_passed : (token : Token) → fits (class.Word keyword.Workers) token ≡ false → step workers token ≡ passed
unfolding step
workers_passed token a = rw a

workers_follow : (tokens : List Token) → Follows tokens (workers ∷ []) (workers_at tokens) after []
unfolding workers_at
workers_follow tokens =
    decides (class.Word keyword.Workers) tokens _ _ _ _ _
    (λ token others e a. after_taken (class.Word keyword.Workers) workers [] (fixed a_number ∷ fixed semicolon ∷ []) tokens token others _ _ _ e a (workers_taken token a)
    (one_fixed a_number (fixed semicolon ∷ []) others _ _ _ (λ number r1 e1 i1.
    after_fixed semicolon [] r1 _ _ _ (λ end last f shut. refl))))
    (λ none. run_lets workers [] tokens refl (λ token others e. workers_passed token (none token others e)))

-- the machine decides what reading a source decides
pub source_follows : (room : ℕ) (tokens : List Token) → Follows tokens (workers ∷ []) (source_at room tokens) (λ x. []) []
unfolding source_at
source_follows room tokens =
    read_on tokens (workers ∷ []) [] (workers_at tokens) after _ _ _ (workers_follow tokens) (λ count c.
    read_on count.1 [] [] (stmts_at room count.1) after _ _ _ (stmts_follow room count.1) (λ body b. end_case body.1 (stmts_over room count.1 body b) (count.0, body.0)))
