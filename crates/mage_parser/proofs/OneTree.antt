-- At most one tree belongs to a list of tokens.
use Rattle.std.proofs.Common.{◌≡◌, ℕ, ◌+◌, List, ap, sym, ◌∙◌, arith}
use Rattle.std.specs.Prelude.{Option, Result, Ok}
use Rattle.mage_lex.specs.declared.token.Token.{Token}
use Rattle.mage_parser.specs.declared.stop.Stop.{Stop}
use Rattle.mage_tree.specs.declared.tree.Stmt.{Stmt}
use Rattle.mage_tree.specs.Laws.{HasOneTree}
use Rattle.mage_parser.proofs.FullStatements.{source_full}
use Rattle.mage_tree.proofs.Wider.{source_within}

same_sum : (a b : ℕ) → b + a ≡ a + b
same_sum a b = omega arith

both : {workers other_workers : Option Token} {body other_body : List Stmt} {read : Result (Option Token × List Stmt) Stop} →
    read ≡ Ok (workers, body) → read ≡ Ok (other_workers, other_body) → (workers ≡ other_workers) × (body ≡ other_body)
both {workers} {other_workers} {body} {other_body} a b =
    let same : ◌≡◌ {A = Option Token × List Stmt} (workers, body) (other_workers, other_body) = cc (sym a ∙ b) in
    (ap (λ (p : Option Token × List Stmt). p.0) same, ap (λ (p : Option Token × List Stmt). p.1) same)

pub one_tree : (tokens : List Token) → HasOneTree tokens
one_tree tokens depth other_depth workers other_workers body other_body s t =
    both (source_full (source_within other_depth depth s))
    (source_full (rw (same_sum depth other_depth) at (source_within depth other_depth t)))
