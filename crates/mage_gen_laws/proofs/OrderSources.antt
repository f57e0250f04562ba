-- The texts of orders are sources.
use Rattle.std.proofs.Common.{◌≡◌, ℕ, ◌<◌, ◌≤◌, List, [], ◌∷◌, ◌++◌, length, map, refl, ap, ◌∙◌, sym, arith}
use Rattle.std.specs.Prelude.{Ok, All}
use Rattle.std.proofs.lemmas.Bool.{le-ltb}
use Rattle.std.proofs.lemmas.List.Elements.{All-from_recursion}
use Rattle.mage_lex.specs.Limits.{MOST_BYTES}
use Rattle.mage_lex.specs.declared.token.Token.{Token}
use Rattle.mage_lex.specs.declared.token.TokenKind.{TokenKind}
use Rattle.mage_lex.specs.declared.token.TokenKind.TheVariants as kinds
use Rattle.mage_lex.specs.Tokens.{tokens_after, tokens_of}
use Rattle.mage_tree.specs.Sources.{IsTokenKind, kinds_of}
use Rattle.mage_parser.specs.Faults.{parsed, parsed_from}
use Rattle.mage_printer.specs.Printed.{written, printed}
use Rattle.mage_printer.specs.Made.{tokens_made}
use Rattle.mage_printer.proofs.Spelled.{reads_all}
use Rattle.mage_gen.specs.declared.order.GenOrder.{GenOrder}
use Rattle.mage_gen.specs.Generator.{IsOrder}
use Rattle.mage_gen.specs.Source.{source_text}
use Rattle.mage_gen.proofs.OrderTexts.{source_is_short}
use Rattle.mage_gen_laws.specs.Printed.{IsPrintedSource}
use Rattle.mage_gen_laws.proofs.OrderKinds.{source_kinds, say_all, printed_says, text_says, kinds_are_of_texts}
use Rattle.mage_gen_laws.proofs.OrderParsing.{tokens_are_read}

-- a token of this kind, and tokens of these, wherever they stand
abbrev token_of : TokenKind → Token
token_of kind = record {
  kind = kind;
  start = 0;
  len = 0;
  line = 0;
  column = 0;
}

tokens_for : List TokenKind → List Token
tokens_for others = map token_of others

kinds_for : (others : List TokenKind) → kinds_of (tokens_for others) ≡ others
unfolding tokens_for
kinds_for [] = refl
kinds_for (kind ∷ rest) = ap (λ (ks : List TokenKind). kind ∷ ks) (kinds_for rest)

made_is : (tokens : List Token) → tokens_made written tokens ≡ printed tokens
unfolding tokens_made
made_is [] = refl
made_is (token ∷ tokens) = ap (λ text. written token.kind ++ text) (made_is tokens)

lexes_short : (text : List ℕ) (tokens : List Token) → length text ≤ MOST_BYTES → tokens_after [] text 0 ≡ Ok tokens → tokens_of text ≡ Ok tokens
unfolding tokens_of
lexes_short text tokens short found = rw (le-ltb MOST_BYTES (length text) short) found

pub generated_texts_are_sources : (order : GenOrder) → IsOrder order → IsPrintedSource order.workers (source_text order)
unfolding parsed
generated_texts_are_sources order is =
    let text = source_text order in
    let others = source_kinds order in
    let all : All IsTokenKind others = All-from_recursion IsTokenKind others (kinds_are_of_texts order is) in
    let known : All IsTokenKind (kinds_of (tokens_for others)) = rw (kinds_for others) all in
    let found = reads_all (tokens_for others) [] known in
    let tokens = found.0 in
    let same : kinds_of tokens ≡ others = found.2 ∙ kinds_for others in
    let made : tokens_made written (tokens_for others) ≡ text =
    made_is (tokens_for others) ∙ printed_says (tokens_for others) ∙ ap say_all (kinds_for others) ∙ text_says order in
    let after : tokens_after [] text 0 ≡ Ok tokens = sym (ap (λ bytes. tokens_after [] bytes 0) made) ∙ found.1 in
    let short : length text < 1048576 = source_is_short order is in
    let read = tokens_are_read order tokens (token_of (kinds.Number 0)) same in
    record {
      tokens = tokens;
      number = read.0;
      body = read.1;
      lexes = lexes_short text tokens (omega (arith, short)) after;
      prints = sym (printed_says tokens ∙ ap say_all same ∙ text_says order);
      parses = ap (parsed_from text tokens) read.2;
      counts = read.3;
    }
