-- What is known of a text whose tokens are known.
use Rattle.std.proofs.Common.{◌≡◌, ℕ, ◌≤◌, Bool, true, false, List, length, nat_lt, cond, refl}
use Rattle.std.specs.Prelude.{Result, Ok, Err}
use Rattle.std.proofs.lemmas.Bool.{ltb-false}
use Rattle.mage_lex.specs.declared.token.Token.{Token}
use Rattle.mage_lex.specs.declared.fault.LangFault.{LangFault}
use Rattle.mage_lex.specs.Limits.{MOST_BYTES}
use Rattle.mage_lex.specs.Tokens.{tokens_of}

pub lexed_short : (text : List ℕ) (tokens : List Token) → tokens_of text ≡ Ok tokens → length text ≤ MOST_BYTES
unfolding tokens_of
lexed_short text tokens h = go _ _ (nat_lt MOST_BYTES (length text)) refl h
  where
    go : (rest : Result (List Token) LangFault) (fault : LangFault) (b : Bool) → nat_lt MOST_BYTES (length text) ≡ b → cond b (Err fault) rest ≡ Ok tokens → length text ≤ MOST_BYTES
    go rest fault true e h = absurd (cc)
    go rest fault false e h = ltb-false MOST_BYTES (length text) e
