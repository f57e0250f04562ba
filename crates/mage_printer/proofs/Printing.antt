-- What is printed of a source.
use Rattle.std.proofs.Common.{◌≡◌, ℕ, List, [], ◌∷◌, ◌++◌, refl, ap, sym, ◌∙◌}
use Rattle.std.specs.Prelude.{Option, Result, Ok, Err, All, IfOk}
use Rattle.mage_lex.specs.declared.token.Token.{Token}
use Rattle.mage_lex.specs.declared.token.TokenKind.{TokenKind}
use Rattle.mage_lex.specs.Tokens.{tokens_after}
use Rattle.mage_tree.specs.declared.tree.Stmt.{Stmt}
use Rattle.mage_tree.specs.Sources.{MOST_DEPTH, IsSource, kinds_of, IsTokenKind, HasTokens}
use Rattle.mage_printer.specs.Printed.{written, printed, HasKinds}
use Rattle.mage_printer.specs.Made.{tokens_made, source_made}
use Rattle.mage_printer.proofs.Making.{source_is}
use Rattle.mage_printer.proofs.Spelled.{reads_all}

printed_is : (tokens : List Token) → tokens_made written tokens ≡ printed tokens
unfolding tokens_made
printed_is [] = refl
printed_is (token ∷ tokens) = ap (λ text. written token.kind ++ text) (printed_is tokens)

kinds_is : (tokens : List Token) → tokens_made (λ (kind : TokenKind). kind ∷ []) tokens ≡ kinds_of tokens
unfolding tokens_made
kinds_is [] = refl
kinds_is (token ∷ tokens) = ap (λ kinds. token.kind ∷ kinds) (kinds_is tokens)

-- a tree has one list of kinds
same_kinds : (workers : Option Token) (body : List Stmt) (tokens others : List Token) → IsSource MOST_DEPTH workers body tokens → IsSource MOST_DEPTH workers body others → kinds_of tokens ≡ kinds_of others
same_kinds workers body tokens others s t =
    sym (kinds_is tokens) ∙ source_is (λ (kind : TokenKind). kind ∷ []) s ∙ sym (source_is (λ (kind : TokenKind). kind ∷ []) t) ∙ kinds_is others

-- the text of the tree is that of its tokens
pub bytes_of_tree : (workers : Option Token) (body : List Stmt) (tokens : List Token) (text : List ℕ) → IsSource MOST_DEPTH workers body tokens → text ≡ source_made written workers body → text ≡ printed tokens
bytes_of_tree workers body tokens text s e = e ∙ sym (source_is written s) ∙ printed_is tokens

-- and has tokens of their kinds
pub kinds_of_tree : (workers : Option Token) (body : List Stmt) (tokens : List Token) (text : List ℕ) → HasTokens workers body → IsSource MOST_DEPTH workers body tokens → text ≡ source_made written workers body →
    HasKinds text (kinds_of tokens)
kinds_of_tree workers body tokens text h s e =
    let same : kinds_of h.0 ≡ kinds_of tokens = same_kinds workers body h.0 tokens h.1 s in
    let is : All IsTokenKind (kinds_of tokens) = rw same at h.2 in
    let reads = reads_all tokens [] is in
    (reads.0, ap (λ bytes. tokens_after [] bytes 0) (e ∙ sym (source_is written s)) ∙ reads.1, reads.2)

-- the same of what was returned, where it is a text
pub each_ok : {A E : Type 0} {P Q : A → Type 0} (r : Result A E) → ((a : A) → P a → Q a) → IfOk r P → IfOk r Q
each_ok (Ok a) f h = f a h
each_ok (Err e) f h = h
