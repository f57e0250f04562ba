-- What is taken from the end of one list and put behind another.
use Rattle.std.proofs.Common.{◌≡◌, ◌++◌, List, [], ◌∷◌, map, sym, ap, ◌∙◌, append_assoc}
use Rattle.std.proofs.lemmas.List.{reverse-append, map-append}
use Rattle.std.specs.Prelude.{reverse}

reverse_last : {X : Type 0} (rest : List X) (x : X) → reverse (rest ++ x ∷ []) ≡ x ∷ reverse rest
reverse_last rest x = reverse-append rest (x ∷ [])

pub popped : {X Y Z : Type 0} (F : X → Z) (G : Y → Z) (xs rest : List X) (x : X) (ys ys' : List Y) (y : Y) →
    xs ≡ rest ++ x ∷ [] → ys' ≡ ys ++ y ∷ [] → G y ≡ F x → map G ys' ++ map F (reverse rest) ≡ map G ys ++ map F (reverse xs)
popped {X} {Y} {Z} F G xs rest x ys ys' y last more same =
    ap (λ (l : List Y). map G l ++ map F (reverse rest)) more
    ∙ ap (λ (l : List Z). l ++ map F (reverse rest)) (map-append G ys (y ∷ []))
    ∙ append_assoc (map G ys) (G y ∷ []) (map F (reverse rest))
    ∙ ap (λ (z : Z). map G ys ++ z ∷ map F (reverse rest)) same
    ∙ ap (λ (l : List X). map G ys ++ map F l) (sym (reverse_last rest x) ∙ ap reverse (sym last))
