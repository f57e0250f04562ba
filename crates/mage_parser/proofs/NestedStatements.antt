-- How deep the tokens of statements and of a source stand, as far as they are read.
use Rattle.std.proofs.Common.{◌≡◌, ℕ, zero, suc, ◌+◌, ◌≤◌, ◌⊎◌, inl, inr, false, List, [], ◌∷◌, length, refl, arith}
use Rattle.std.specs.Prelude.{Ok}
use Rattle.mage_lex.specs.Symbols.{DOTS, SEMICOLON, COLON, OPEN_BRACE, CLOSE_BRACE, ASSIGN}
use Rattle.mage_lex.specs.declared.token.Token.{Token}
use Rattle.mage_tree.specs.declared.class.Class.{Class}
use Rattle.mage_tree.specs.declared.class.Class.TheVariants as class
use Rattle.mage_tree.specs.declared.class.Keyword.TheVariants as keyword
use Rattle.mage_tree.specs.declared.tree.Stmt.{Stmt}
use Rattle.mage_lex.specs.Words as words
use Rattle.mage_tree.specs.Classes.{text_of}
use Rattle.mage_parser.specs.Reads.{◌>>=◌, Read, begins, after_one}
use Rattle.mage_tree.specs.Grammar.{Is}
use Rattle.mage_parser.specs.Constants.{const_at}
use Rattle.mage_parser.specs.Expressions.{bracketed, index_at, item_at, expr_at}
use Rattle.mage_parser.specs.Statements.{constant_at, input_at, let_at, array_at, assign_at, move_at, output_at, block_at, on_at, for_at, else_at, choice_at, stmt_from, are_over, stmts_from, stmts_in, stmt_at, stmts_at, workers_at, at_end, source_at}
use Rattle.mage_tree.specs.Depth.{Opened, a_bracket, Nesting, outermost, without_signs}
use Rattle.mage_parser.proofs.Follow.{after}
use Rattle.mage_parser.proofs.Nested.{fresh, ended, Step, Settles, word_passes, word_settles, party_passes, type_passes, semicolon_passes, semicolon_settles, colon_settles, dots_settles, assign_settles, comparing_settles, number_ends, name_ends, length_opens, brace_opens, brace_opens_at, brace_shuts, Ends, ends_here, settles_at, no_way, way_one, Meets, m_along, m_weaker, m_read, m_if, m_after, m_take, m_pass}
use Rattle.mage_parser.proofs.NestedExpressions.{too_deep, m_const, m_bracketed, m_index, m_item, m_expr}

abbrev StmtMeets : ℕ → List Token → Read Stmt → List Opened → Type 0
StmtMeets limit tokens read o = Meets limit (fresh o) tokens read after (λ t. t ≡ fresh o)

-- the statement begins with this word
keywords_apart : (words.is_name (text_of keyword.Const) ≡ false) × (words.is_name (text_of keyword.Input) ≡ false) × (words.is_name (text_of keyword.Let) ≡ false)
    × (words.is_name (text_of keyword.Array) ≡ false) × (words.is_name (text_of keyword.Move) ≡ false) × (words.is_name (text_of keyword.On) ≡ false)
    × (words.is_name (text_of keyword.For) ≡ false) × (words.is_name (text_of keyword.If) ≡ false) × (words.is_name (text_of keyword.Output) ≡ false)
    × (words.is_name (text_of keyword.In) ≡ false) × (words.is_name (text_of keyword.Else) ≡ false) × (words.is_name (text_of keyword.Workers) ≡ false)
unfolding text_of words.is_keyword
keywords_apart = (refl, refl, refl, refl, refl, refl, refl, refl, refl, refl, refl, refl)

-- the semicolon at the end
m_semicolon : {B : Type 0} (limit : ℕ) (o : List Opened) (t : Nesting) (tokens : List Token) (x : B) → without_signs o ≡ o → length o ≤ limit → Ends o t →
    Meets limit t tokens (after_one (class.Symbol SEMICOLON) tokens >>= λ rest. Ok (x, rest)) after (λ u. u ≡ fresh o)
m_semicolon limit o t tokens x flat h e =
    m_pass limit t (class.Symbol SEMICOLON) tokens o (fresh o) _ _ _ (settles_at (class.Symbol SEMICOLON) semicolon_settles o t flat e) h (λ rest. (fresh o, no_way limit (fresh o) rest, refl))

-- a sign behind an operand that has just ended
ended_settles : (c : Class) → Settles c → (o : List Opened) → without_signs o ≡ o → (token : Token) → Is c token → Step (ended o) token.kind o (fresh o)
ended_settles c settles o flat token is = settles_at c settles o (ended o) flat (ends_here o) token is

m_constant : (room limit : ℕ) (o : List Opened) (tokens : List Token) → without_signs o ≡ o → length o + room ≡ limit → StmtMeets limit tokens (constant_at room tokens) o
unfolding constant_at
m_constant room limit o tokens flat h =
    m_take limit (fresh o) (class.Word keyword.Const) tokens o (fresh o) _ _ _ (word_passes keyword.Const keywords_apart.0 o) (omega arith) (λ word r1.
    m_take limit (fresh o) class.Name r1 o (ended o) _ _ _ (name_ends o) (omega arith) (λ name r2.
    m_pass limit (ended o) (class.Symbol ASSIGN) r2 o (fresh o) _ _ _ (ended_settles (class.Symbol ASSIGN) assign_settles o flat) (omega arith) (λ r3.
    m_read limit (fresh o) r3 (const_at room 3 r3) after (Ends o) _ _ _ (m_const room 3 r3 limit o h flat) (λ value t e. m_semicolon limit o t value.1 _ flat (omega arith) e))))

-- an operand has ended here, or nothing has begun
abbrev Settled : List Opened → Nesting → Type 0
Settled o t = (t ≡ fresh o) ⊎ Ends o t

m_semicolon_settled : {B : Type 0} (limit : ℕ) (o : List Opened) (t : Nesting) (tokens : List Token) (x : B) → without_signs o ≡ o → length o ≤ limit → Settled o t →
    Meets limit t tokens (after_one (class.Symbol SEMICOLON) tokens >>= λ rest. Ok (x, rest)) after (λ u. u ≡ fresh o)
m_semicolon_settled limit o t tokens x flat h (inl e) =
    m_pass limit t (class.Symbol SEMICOLON) tokens o (fresh o) _ _ _ (rw e (semicolon_passes o)) h (λ rest. (fresh o, no_way limit (fresh o) rest, refl))
m_semicolon_settled limit o t tokens x flat h (inr e) = m_semicolon limit o t tokens x flat h e

m_input : (room limit : ℕ) (o : List Opened) (tokens : List Token) → without_signs o ≡ o → length o + room ≡ limit → StmtMeets limit tokens (input_at room tokens) o
unfolding input_at
m_input room limit o tokens flat h =
    m_take limit (fresh o) (class.Word keyword.Input) tokens o (fresh o) _ _ _ (word_passes keyword.Input keywords_apart.1 o) (omega arith) (λ word r1.
    m_take limit (fresh o) class.Party r1 o (fresh o) _ _ _ (party_passes o) (omega arith) (λ party r2.
    m_take limit (fresh o) class.Name r2 o (ended o) _ _ _ (name_ends o) (omega arith) (λ name r3.
    m_pass limit (ended o) (class.Symbol COLON) r3 o (fresh o) _ _ _ (ended_settles (class.Symbol COLON) colon_settles o flat) (omega arith) (λ r4.
    m_take limit (fresh o) class.Type r4 o (fresh o) _ _ _ (type_passes o) (omega arith) (λ ty r5.
    m_read limit (fresh o) r5 (index_at room r5) after (Settled o) _ _ _ (m_index room r5 limit (fresh o) o (Settled o) (length_opens o) h (inl refl) (inr (ends_here o)))
    (λ size t e. m_semicolon_settled limit o t size.1 _ flat (omega arith) e))))))

m_let : (room limit : ℕ) (o : List Opened) (tokens : List Token) → without_signs o ≡ o → length o + room ≡ limit → StmtMeets limit tokens (let_at room tokens) o
unfolding let_at
m_let room limit o tokens flat h =
    m_take limit (fresh o) (class.Word keyword.Let) tokens o (fresh o) _ _ _ (word_passes keyword.Let keywords_apart.2 o) (omega arith) (λ word r1.
    m_take limit (fresh o) class.Name r1 o (ended o) _ _ _ (name_ends o) (omega arith) (λ name r2.
    m_pass limit (ended o) (class.Symbol ASSIGN) r2 o (fresh o) _ _ _ (ended_settles (class.Symbol ASSIGN) assign_settles o flat) (omega arith) (λ r3.
    m_read limit (fresh o) r3 (expr_at room 7 r3) after (Ends o) _ _ _ (m_expr room r3 limit o h flat) (λ value t e. m_semicolon limit o t value.1 _ flat (omega arith) e))))

assign_here : (o : List Opened) (t : Nesting) → without_signs o ≡ o → t ≡ ended o → (token : Token) → Is (class.Symbol ASSIGN) token → Step t token.kind o (fresh o)
assign_here o t flat e token is = rw e (ended_settles (class.Symbol ASSIGN) assign_settles o flat token is)

m_array : (room limit : ℕ) (o : List Opened) (tokens : List Token) → without_signs o ≡ o → length o + room ≡ limit → StmtMeets limit tokens (array_at room tokens) o
unfolding array_at
m_array room limit o tokens flat h =
    m_take limit (fresh o) (class.Word keyword.Array) tokens o (fresh o) _ _ _ (word_passes keyword.Array keywords_apart.3 o) (omega arith) (λ word r1.
    m_take limit (fresh o) class.Name r1 o (ended o) _ _ _ (name_ends o) (omega arith) (λ name r2.
    m_pass limit (ended o) (class.Symbol COLON) r2 o (fresh o) _ _ _ (ended_settles (class.Symbol COLON) colon_settles o flat) (omega arith) (λ r3.
    m_take limit (fresh o) class.Type r3 o (fresh o) _ _ _ (type_passes o) (omega arith) (λ ty r4.
    m_read limit (fresh o) r4 (bracketed room r4) after (λ t. t ≡ ended o) _ _ _ (m_bracketed room r4 limit (fresh o) o (length_opens o) h) (λ size t e.
    m_take limit t (class.Symbol ASSIGN) size.1 o (fresh o) _ _ _ (assign_here o t flat e) (omega arith) (λ eq r5.
    m_read limit (fresh o) r5 (expr_at room 7 r5) after (Ends o) _ _ _ (m_expr room r5 limit o h flat) (λ value u d. m_semicolon limit o u value.1 _ flat (omega arith) d)))))))

m_assign : (room limit : ℕ) (o : List Opened) (tokens : List Token) → without_signs o ≡ o → length o + room ≡ limit → StmtMeets limit tokens (assign_at room tokens) o
unfolding assign_at
m_assign room limit o tokens flat h =
    m_read limit (fresh o) tokens (item_at room tokens) after (λ t. t ≡ ended o) _ _ _ (m_item room tokens limit o h) (λ place t e.
    m_take limit t (class.Symbol ASSIGN) place.1 o (fresh o) _ _ _ (assign_here o t flat e) (omega arith) (λ eq r1.
    m_read limit (fresh o) r1 (expr_at room 7 r1) after (Ends o) _ _ _ (m_expr room r1 limit o h flat) (λ value u d. m_semicolon limit o u value.1 _ flat (omega arith) d)))

m_move : (room limit : ℕ) (o : List Opened) (tokens : List Token) → without_signs o ≡ o → length o + room ≡ limit → StmtMeets limit tokens (move_at room tokens) o
unfolding move_at
m_move room limit o tokens flat h =
    m_take limit (fresh o) (class.Word keyword.Move) tokens o (fresh o) _ _ _ (word_passes keyword.Move keywords_apart.4 o) (omega arith) (λ word r1.
    m_take limit (fresh o) class.Name r1 o (ended o) _ _ _ (name_ends o) (omega arith) (λ name r2.
    m_pass limit (ended o) (class.Symbol ASSIGN) r2 o (fresh o) _ _ _ (ended_settles (class.Symbol ASSIGN) assign_settles o flat) (omega arith) (λ r3.
    m_read limit (fresh o) r3 (item_at room r3) after (λ t. t ≡ ended o) _ _ _ (m_item room r3 limit o h) (λ place t e. m_semicolon limit o t place.1 _ flat (omega arith) (o, e, refl)))))

m_output : (room limit : ℕ) (o : List Opened) (tokens : List Token) → without_signs o ≡ o → length o + room ≡ limit → StmtMeets limit tokens (output_at room tokens) o
unfolding output_at
m_output room limit o tokens flat h =
    m_take limit (fresh o) (class.Word keyword.Output) tokens o (fresh o) _ _ _ (word_passes keyword.Output keywords_apart.8 o) (omega arith) (λ word r1.
    m_read limit (fresh o) r1 (expr_at room 7 r1) after (Ends o) _ _ _ (m_expr room r1 limit o h flat) (λ value t e. m_semicolon limit o t value.1 _ flat (omega arith) e))

-- behind an opening brace, for which there was room
abbrev InBlock : ℕ → List Opened → Nesting → Type 0
InBlock limit o t = (t ≡ fresh (a_bracket ∷ o)) × (length (a_bracket ∷ o) ≤ limit)

abbrev StmtsIn : ℕ → Type 0
StmtsIn room = (tokens : List Token) (token : Token) (rest : List Token) (limit : ℕ) (s : Nesting) (o : List Opened) → tokens ≡ token ∷ rest →
    Step s token.kind (a_bracket ∷ o) (fresh (a_bracket ∷ o)) → length o + room ≡ limit → Meets limit s tokens (stmts_in room tokens) after (InBlock limit o)

brace_here : (o : List Opened) (t : Nesting) → t ≡ fresh (a_bracket ∷ o) → (token : Token) → Is (class.Symbol CLOSE_BRACE) token → Step t token.kind (a_bracket ∷ o) (fresh o)
brace_here o t e token is = rw e (brace_shuts o token is)

m_block : (room : ℕ) → StmtsIn room → (limit : ℕ) (s : Nesting) (o : List Opened) (tokens : List Token) → ((token : Token) → Is (class.Symbol OPEN_BRACE) token → Step s token.kind (a_bracket ∷ o) (fresh (a_bracket ∷ o))) →
    length o + room ≡ limit → Meets limit s tokens (block_at (stmts_in room) tokens) after (λ t. t ≡ fresh o)
unfolding block_at
m_block room deep limit s o tokens opens h =
    m_after limit s (class.Symbol OPEN_BRACE) tokens _ _ _ (λ token rest e is.
    m_read limit s tokens (stmts_in room tokens) after (InBlock limit o) _ _ _ (deep tokens token rest limit s o e (opens token is) h) (λ body t i.
    m_pass limit t (class.Symbol CLOSE_BRACE) body.1 (a_bracket ∷ o) (fresh o) _ _ _ (brace_here o t i.0) i.1 (λ others. (fresh o, no_way limit (fresh o) others, refl))))

m_on : (room : ℕ) → StmtsIn room → (limit : ℕ) (o : List Opened) (tokens : List Token) → without_signs o ≡ o → length o + room ≡ limit → StmtMeets limit tokens (on_at (stmts_in room) room tokens) o
unfolding on_at
m_on room deep limit o tokens flat h =
    m_take limit (fresh o) (class.Word keyword.On) tokens o (fresh o) _ _ _ (word_passes keyword.On keywords_apart.5 o) (omega arith) (λ word r1.
    m_read limit (fresh o) r1 (const_at room 3 r1) after (Ends o) _ _ _ (m_const room 3 r1 limit o h flat) (λ worker t e.
    m_read limit t worker.1 (block_at (stmts_in room) worker.1) after (λ u. u ≡ fresh o) _ _ _ (m_block room deep limit t o worker.1 (brace_opens_at o t flat e) h) (λ body u d. (u, no_way limit u body.1, d))))

m_for : (room : ℕ) → StmtsIn room → (limit : ℕ) (o : List Opened) (tokens : List Token) → without_signs o ≡ o → length o + room ≡ limit → StmtMeets limit tokens (for_at (stmts_in room) room tokens) o
unfolding for_at
m_for room deep limit o tokens flat h =
    m_take limit (fresh o) (class.Word keyword.For) tokens o (fresh o) _ _ _ (word_passes keyword.For keywords_apart.6 o) (omega arith) (λ word r1.
    m_take limit (fresh o) class.Name r1 o (ended o) _ _ _ (name_ends o) (omega arith) (λ name r2.
    m_pass limit (ended o) (class.Word keyword.In) r2 o (fresh o) _ _ _ (ended_settles (class.Word keyword.In) (word_settles keyword.In keywords_apart.9) o flat) (omega arith) (λ r3.
    m_read limit (fresh o) r3 (const_at room 3 r3) after (Ends o) _ _ _ (m_const room 3 r3 limit o h flat) (λ from t e.
    m_pass limit t (class.Symbol DOTS) from.1 o (fresh o) _ _ _ (settles_at (class.Symbol DOTS) dots_settles o t flat e) (omega arith) (λ r4.
    m_read limit (fresh o) r4 (const_at room 3 r4) after (Ends o) _ _ _ (m_const room 3 r4 limit o h flat) (λ to u d.
    m_read limit u to.1 (block_at (stmts_in room) to.1) after (λ v. v ≡ fresh o) _ _ _ (m_block room deep limit u o to.1 (brace_opens_at o u flat d) h) (λ body v c. (v, no_way limit v body.1, c))))))))

m_else : (room : ℕ) → StmtsIn room → (limit : ℕ) (o : List Opened) (t : Nesting) (tokens : List Token) → t ≡ fresh o → length o + room ≡ limit →
    Meets limit t tokens (else_at (stmts_in room) tokens) after (λ u. u ≡ fresh o)
unfolding else_at
m_else room deep limit o t tokens e h =
    m_if limit t tokens (begins (class.Word keyword.Else) tokens) _ _ after (λ u. u ≡ fresh o)
    (m_pass limit t (class.Word keyword.Else) tokens o (fresh o) _ _ _ (rw e (word_passes keyword.Else keywords_apart.10 o)) (omega arith) (λ rest.
    m_read limit (fresh o) rest (block_at (stmts_in room) rest) after (λ u. u ≡ fresh o) _ _ _ (m_block room deep limit (fresh o) o rest (brace_opens o) h) (λ body u d. (u, no_way limit u body.1, d))))
    (t, no_way limit t tokens, e)

m_choice : (room : ℕ) → StmtsIn room → (limit : ℕ) (o : List Opened) (tokens : List Token) → without_signs o ≡ o → length o + room ≡ limit → StmtMeets limit tokens (choice_at (stmts_in room) room tokens) o
unfolding choice_at
m_choice room deep limit o tokens flat h =
    m_take limit (fresh o) (class.Word keyword.If) tokens o (fresh o) _ _ _ (word_passes keyword.If keywords_apart.7 o) (omega arith) (λ word r1.
    m_read limit (fresh o) r1 (const_at room 3 r1) after (Ends o) _ _ _ (m_const room 3 r1 limit o h flat) (λ first t e.
    m_take limit t class.Comparing first.1 o (fresh o) _ _ _ (settles_at class.Comparing comparing_settles o t flat e) (omega arith) (λ op r2.
    m_read limit (fresh o) r2 (const_at room 3 r2) after (Ends o) _ _ _ (m_const room 3 r2 limit o h flat) (λ second u d.
    m_read limit u second.1 (block_at (stmts_in room) second.1) after (λ v. v ≡ fresh o) _ _ _ (m_block room deep limit u o second.1 (brace_opens_at o u flat d) h) (λ chosen v c.
    m_read limit v chosen.1 (else_at (stmts_in room) chosen.1) after (λ w. w ≡ fresh o) _ _ _ (m_else room deep limit o v chosen.1 c h) (λ other w b. (w, no_way limit w other.1, b)))))))

m_stmt : (room : ℕ) → StmtsIn room → (limit : ℕ) (o : List Opened) (tokens : List Token) → without_signs o ≡ o → length o + room ≡ limit → StmtMeets limit tokens (stmt_from (stmts_in room) room tokens) o
unfolding stmt_from
m_stmt room deep limit o tokens flat h =
    m_if limit (fresh o) tokens (begins (class.Word keyword.Const) tokens) _ _ after _ (m_constant room limit o tokens flat h)
    (m_if limit (fresh o) tokens (begins (class.Word keyword.Input) tokens) _ _ after _ (m_input room limit o tokens flat h)
    (m_if limit (fresh o) tokens (begins (class.Word keyword.Let) tokens) _ _ after _ (m_let room limit o tokens flat h)
    (m_if limit (fresh o) tokens (begins (class.Word keyword.Array) tokens) _ _ after _ (m_array room limit o tokens flat h)
    (m_if limit (fresh o) tokens (begins (class.Word keyword.Move) tokens) _ _ after _ (m_move room limit o tokens flat h)
    (m_if limit (fresh o) tokens (begins (class.Word keyword.On) tokens) _ _ after _ (m_on room deep limit o tokens flat h)
    (m_if limit (fresh o) tokens (begins (class.Word keyword.For) tokens) _ _ after _ (m_for room deep limit o tokens flat h)
    (m_if limit (fresh o) tokens (begins (class.Word keyword.If) tokens) _ _ after _ (m_choice room deep limit o tokens flat h)
    (m_if limit (fresh o) tokens (begins (class.Word keyword.Output) tokens) _ _ after _ (m_output room limit o tokens flat h)
    (m_assign room limit o tokens flat h)))))))))

m_stmts_from : (room : ℕ) → StmtsIn room → (limit : ℕ) (o : List Opened) → without_signs o ≡ o → length o + room ≡ limit → (most : ℕ) (tokens : List Token) (t : Nesting) → t ≡ fresh o →
    Meets limit t tokens (stmts_from (stmt_from (stmts_in room) room) most tokens) after (λ u. u ≡ fresh o)
unfolding stmts_from
m_stmts_from room deep limit o flat h zero tokens t e = (t, no_way limit t tokens, e)
m_stmts_from room deep limit o flat h (suc most) tokens t e =
    m_if limit t tokens (are_over tokens) _ _ after _ (t, no_way limit t tokens, e)
    (m_read limit t tokens (stmt_from (stmts_in room) room tokens) after (λ u. u ≡ fresh o) _ _ _ (rw e (m_stmt room deep limit o tokens flat h)) (λ first u d.
    m_read limit u first.1 (stmts_from (stmt_from (stmts_in room) room) most first.1) after (λ v. v ≡ fresh o) _ _ _ (m_stmts_from room deep limit o flat h most first.1 u d) (λ rest v c. (v, no_way limit v rest.1, c))))

m_stmts_in : (room : ℕ) → StmtsIn room
unfolding stmts_in
m_stmts_in zero tokens token rest limit s o e step h = too_deep limit s tokens token rest a_bracket o e step h
m_stmts_in (suc room) tokens token rest limit s o e step h =
    let within : length (a_bracket ∷ o) ≤ limit = omega arith in
    m_along limit s tokens rest (fresh (a_bracket ∷ o)) _ after (InBlock limit o) (way_one limit s tokens token rest (a_bracket ∷ o) (fresh (a_bracket ∷ o)) e step within)
    (m_weaker limit (fresh (a_bracket ∷ o)) rest _ after (λ t. t ≡ fresh (a_bracket ∷ o)) (InBlock limit o) (λ t d. (d, within))
    (rw e (m_stmts_from room (m_stmts_in room) limit (a_bracket ∷ o) refl (omega arith) (length rest) rest (fresh (a_bracket ∷ o)) refl)))

m_workers : (limit : ℕ) (tokens : List Token) → Meets limit outermost tokens (workers_at tokens) after (λ t. t ≡ outermost)
unfolding workers_at
m_workers limit tokens =
    m_if limit outermost tokens (begins (class.Word keyword.Workers) tokens) _ _ after _
    (m_pass limit outermost (class.Word keyword.Workers) tokens [] outermost _ _ _ (word_passes keyword.Workers keywords_apart.11 []) (omega arith) (λ r1.
    m_take limit outermost class.Number r1 [] (ended []) _ _ _ (number_ends []) (omega arith) (λ number r2.
    m_pass limit (ended []) (class.Symbol SEMICOLON) r2 [] outermost _ _ _ (ended_settles (class.Symbol SEMICOLON) semicolon_settles [] refl) (omega arith) (λ r3. (outermost, no_way limit outermost r3, refl)))))
    (outermost, no_way limit outermost tokens, refl)

-- nothing is left
abbrev pub nothing_left : {A : Type 0} → A → List Token
nothing_left x = []

abbrev pub Anyhow : Nesting → Type 0
Anyhow t = Unit {0}

m_end : (limit : ℕ) (t : Nesting) (tokens : List Token) → Meets limit t tokens (at_end tokens) nothing_left Anyhow
unfolding at_end
m_end limit t [] = (t, no_way limit t [], tt)
m_end limit t (token ∷ rest) = (token ∷ rest, t, no_way limit t (token ∷ rest), refl)

-- how deep the tokens of a source stand, as far as it is read
pub m_source : (room : ℕ) (tokens : List Token) → Meets room outermost tokens (source_at room tokens) nothing_left Anyhow
unfolding source_at stmts_at stmt_at
m_source room tokens =
    m_read room outermost tokens (workers_at tokens) after (λ t. t ≡ outermost) _ _ _ (m_workers room tokens) (λ workers t e.
    m_read room t workers.1 (stmts_from (stmt_from (stmts_in room) room) (length workers.1) workers.1) after (λ u. u ≡ outermost) _ _ _
    (m_stmts_from room (m_stmts_in room) room [] refl (omega arith) (length workers.1) workers.1 t e) (λ body u d.
    m_read room u body.1 (at_end body.1) nothing_left Anyhow _ _ _ (m_end room u body.1) (λ end v c. (v, no_way room v [], tt))))
