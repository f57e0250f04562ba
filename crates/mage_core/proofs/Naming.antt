-- The pages that directives move are among those that are named.
use Rattle.std.proofs.Common.{◌≡◌, ◌==◌, ◌||◌, ◌++◌, ℕ, zero, suc, Bool, true, false, List, [], ◌∷◌, Option, Some, None, slice_get, refl, sym, ap, subst}
use Rattle.std.specs.Prelude.{IfSome, IsTrue}
use Rattle.std.specs.List.{list_any}
use Rattle.std.specs.Option.{option_to_list}
use Rattle.std.proofs.lemmas.Bool.{eq-eqb}
use Rattle.mage_instr.specs.declared.directive.Directive.{Directive}
use Rattle.mage_port.specs.Port.{PortTold}
use Rattle.mage_verify.specs.Parts.{WorkerPart}
use Rattle.mage_engine.specs.Ready.{page_moved, Takes}
use Rattle.mage_core.specs.Ports.{pages_moved}

or_behind : (b c : Bool) → IsTrue c → IsTrue (b || c)
or_behind true c h = refl
or_behind false c h = h

or_here : (b c : Bool) → b ≡ true → IsTrue (b || c)
or_here true c e = refl
or_here false c e = absurd cc

-- what is found behind a front is found
any_behind : (p : ℕ → Bool) (front rest : List ℕ) → IsTrue (list_any p rest) → IsTrue (list_any p (front ++ rest))
any_behind p [] rest h = h
any_behind p (x ∷ front) rest h = or_behind (p x) (list_any p (front ++ rest)) (any_behind p front rest h)

pub named : (directives : List Directive) (d : ℕ) → IfSome (slice_get directives d)
    (λ directive. IfSome (page_moved directive) (λ page. IsTrue (list_any (λ p. p == page) (pages_moved directives))))
named [] zero = tt
named [] (suc d) = tt
named (x ∷ xs) zero = go (page_moved x)
  where
    go : (o : Option ℕ) → IfSome o (λ page. IsTrue (list_any (λ p. p == page) (option_to_list o ++ pages_moved xs)))
    go None = tt
    go (Some page) = or_here (page == page) (list_any (λ p. p == page) (pages_moved xs)) (eq-eqb page page refl)
named (x ∷ xs) (suc d) = go (slice_get xs d) (named xs d)
  where
    go : (o : Option Directive) →
        IfSome o (λ directive. IfSome (page_moved directive) (λ page. IsTrue (list_any (λ p. p == page) (pages_moved xs)))) →
        IfSome o (λ directive. IfSome (page_moved directive) (λ page. IsTrue (list_any (λ p. p == page) (option_to_list (page_moved x) ++ pages_moved xs))))
    go None h = tt
    go (Some y) h = deep (page_moved y) h
      where
        deep : (o : Option ℕ) → IfSome o (λ page. IsTrue (list_any (λ p. p == page) (pages_moved xs))) →
            IfSome o (λ page. IsTrue (list_any (λ p. p == page) (option_to_list (page_moved x) ++ pages_moved xs)))
        deep None k = tt
        deep (Some page) k = any_behind (λ p. p == page) (option_to_list (page_moved x)) (pages_moved xs) k

pub takes_so : (part : WorkerPart) (pages : List ℕ) (above below : PortTold) → above ≡ record below { takes = λ page. list_any (λ p. p == page) pages } →
    pages ≡ pages_moved part.directives → Takes above.takes part
takes_so part pages above below told are =
    subst (λ (t : ℕ → Bool). Takes t part) (sym (ap (λ (p : PortTold). p.takes) told))
    (subst (λ (ps : List ℕ). Takes (λ page. list_any (λ p. p == page) ps) part) (sym are) (named part.directives))
