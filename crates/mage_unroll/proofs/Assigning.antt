-- What the binding of a place anew comes to.
use Rattle.std.proofs.Common.{◌≡◌, ℕ, List, Option, Some, None, ap, sym, ◌∙◌}
use Rattle.mage_lex.specs.declared.token.Token.{Token}
use Rattle.mage_scopes.specs.Scopes.{Meaning, found, replaced}
use Rattle.mage_scopes.proofs.Laws.{replaced-absent, replaced-replaced}
use Rattle.mage_tree.specs.Words.{bytes_of}
use Rattle.mage_unroll.specs.declared.state.Named.{Named}
use Rattle.mage_unroll.specs.State.{State, rebound, rebound_name, assigned}

-- a place that is there, taken out and put back with another variable
pub assigned-there : (s : State) (name : Token) (key : List ℕ) (position : Option ℕ) (index : ℕ) (old other new : Named) (out back : List (Meaning Named)) → key ≡ bytes_of name → found s.scopes key ≡ Some old → out ≡ replaced s.scopes key other → new ≡ rebound position index old → back ≡ replaced out key new → record s { scopes = back } ≡ assigned name position index s
assigned-there s name key position index old other new out back is there taken changed put =
    let back_is : back ≡ replaced s.scopes (bytes_of name) (rebound position index old) =
    put ∙ ap (λ (x : List (Meaning Named)). replaced x key new) taken ∙ replaced-replaced s.scopes key other new ∙ ap (λ (x : Named). replaced s.scopes key x) changed ∙ ap (λ (x : List ℕ). replaced s.scopes x (rebound position index old)) is in
    ap (λ (x : List (Meaning Named)). record s { scopes = x }) back_is
    ∙ ap (λ (x : Option Named). rebound_name x name position index s) (sym there ∙ ap (found s.scopes) is)

-- a place that isn't
pub assigned-absent : (s : State) (name : Token) (key : List ℕ) (position : Option ℕ) (index : ℕ) (other : Named) (out : List (Meaning Named)) → key ≡ bytes_of name → found s.scopes key ≡ None → out ≡ replaced s.scopes key other → record s { scopes = out } ≡ assigned name position index s
assigned-absent s name key position index other out is absent taken =
    ap (λ (x : List (Meaning Named)). record s { scopes = x }) (taken ∙ replaced-absent s.scopes key other absent)
    ∙ ap (λ (x : Option Named). rebound_name x name position index s) (sym absent ∙ ap (found s.scopes) is)
