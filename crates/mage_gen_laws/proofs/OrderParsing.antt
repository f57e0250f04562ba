-- The tokens of a generated source are those of a source.
use Rattle.std.proofs.Common.{◌≡◌, ℕ, zero, suc, List, [], ◌∷◌, get_or, refl, ap, ◌∙◌}
use Rattle.std.specs.Prelude.{Option, Some, Result, Ok, Err}
use Rattle.mage_lex.specs.declared.token.Token.{Token}
use Rattle.mage_lex.specs.declared.token.TokenKind.{TokenKind}
use Rattle.mage_lex.specs.declared.token.TokenKind.TheVariants as kinds
use Rattle.mage_lex.specs.Words.{is_keyword}
use Rattle.mage_tree.specs.Classes.{text_of, call_text, is_word, is_call, is_symbol, is_number, is_name, is_type, fits}
use Rattle.mage_tree.specs.Sources.{MOST_DEPTH, kinds_of}
use Rattle.mage_tree.specs.declared.tree.Stmt.{Stmt}
use Rattle.mage_parser.specs.declared.stop.Stop.{Stop}
use Rattle.mage_parser.specs.Reads.{begins, calls, one, after_one, operands}
use Rattle.mage_parser.specs.Constants.{const_atom, const_unary, const_chain, const_from, const_in, const_at}
use Rattle.mage_parser.specs.Expressions.{bracketed, index_at, item_at, lit_at, resize_at, mux_at, choose_at, count_at, paren_at, not_at, place_at, name_at, unary_at, chain_at, shift_at, compare_from, compare_at, expr_from, expr_in, expr_at}
use Rattle.mage_parser.specs.Statements.{constant_at, input_at, let_at, array_at, assign_at, move_at, output_at, block_at, on_at, for_at, else_at, choice_at, stmt_from, stmts_from, stmts_in, stmt_at, stmts_at, workers_at, at_end, source_at}
use Rattle.mage_gen.specs.declared.order.GenOrder.{GenOrder}
use Rattle.mage_gen_laws.proofs.OrderKinds.{source_kinds}

-- tokens of these kinds, which stand where those that are given stand
abbrev tokens_at : (ℕ → Token) → List TokenKind → List Token
tokens_at token [] = []
tokens_at token (kind ∷ rest) = record (token zero) { kind = kind } ∷ tokens_at (λ i. token (suc i)) rest

tokens_back : (tokens : List Token) (others : List TokenKind) (d : Token) → kinds_of tokens ≡ others → tokens ≡ tokens_at (λ i. get_or tokens i d) others
tokens_back [] [] d same = refl
tokens_back [] (kind ∷ rest) d same = absurd (cc)
tokens_back (token ∷ tokens) [] d same = absurd (cc)
tokens_back (token ∷ tokens) (kind ∷ rest) d same =
    let here : token.kind ≡ kind = cc in
    let there : kinds_of tokens ≡ rest = cc in
    ap (λ (own : TokenKind). record token { kind = own } ∷ tokens) here
    ∙ ap (λ (others : List Token). record token { kind = kind } ∷ others) (tokens_back tokens rest d there)

abbrev Found : Type 0
Found = Result (Option Token × List Stmt) Stop

-- whether it is a source with this number of workers
abbrev is_of : ℕ → Found → Type 0
is_of workers (Err stop) = ⊥
is_of workers (Ok source) = (number : Token) × (source.0 ≡ Some number) × (number.kind ≡ kinds.Number workers)

kinds_are_read : (token : ℕ → Token) (order : GenOrder) → is_of order.workers (source_at MOST_DEPTH (tokens_at token (source_kinds order)))
unfolding source_at workers_at stmts_at stmt_at stmts_in stmts_from stmt_from at_end constant_at input_at let_at array_at assign_at move_at output_at block_at on_at for_at else_at choice_at
    const_atom const_unary const_chain const_from const_in const_at bracketed index_at item_at lit_at resize_at mux_at choose_at count_at paren_at not_at place_at name_at unary_at chain_at
    shift_at compare_from compare_at expr_from expr_in expr_at begins calls one after_one operands fits is_word is_call is_symbol is_number is_name is_type text_of call_text is_keyword
kinds_are_read token order = (record (token 1) { kind = kinds.Number order.workers }, refl, refl)

-- what is read of tokens of these kinds
pub tokens_are_read : (order : GenOrder) (tokens : List Token) (d : Token) → kinds_of tokens ≡ source_kinds order →
    (number : Token) × (body : List Stmt) × (source_at MOST_DEPTH tokens ≡ Ok (Some number, body)) × (number.kind ≡ kinds.Number order.workers)
tokens_are_read order tokens d same =
    let back = tokens_back tokens (source_kinds order) d same in
    let given = tokens_at (λ i. get_or tokens i d) (source_kinds order) in
    let found = taken order.workers (source_at MOST_DEPTH given) (kinds_are_read (λ i. get_or tokens i d) order) in
    (found.0, found.1, ap (source_at MOST_DEPTH) back ∙ found.2, found.3)
  where
    taken : (workers : ℕ) (found : Found) → is_of workers found → (number : Token) × (body : List Stmt) × (found ≡ Ok (Some number, body)) × (number.kind ≡ kinds.Number workers)
    taken workers (Err stop) is = absurd is
    taken workers (Ok source) is = (is.0, source.1, ap (λ (first : Option Token). Ok (first, source.1)) is.1, is.2)
