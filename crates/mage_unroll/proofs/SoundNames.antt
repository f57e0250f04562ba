-- Scopes in which each name stands for something of which a fact holds: each operation keeps this.
use Rattle.std.proofs.Common.{ℕ, Bool, true, false, cond, List, [], ◌∷◌, Option, Some, None, IfSome}
use Rattle.std.specs.Prelude.{is_some}
use Rattle.std.specs.Option.{option_or}
use Rattle.std.specs.Str.{bytes_eq}
use Rattle.mage_scopes.specs.Scopes.{Meaning, declared, found, entered, left, with_name, replaced}

module _ (V : Type 0) (P : V → Type 0) where
  abbrev pub EachMeans : List (Meaning V) → Type 0
  EachMeans [] = Unit {0}
  EachMeans (f ∷ fs) = ((name : List ℕ) → IfSome (f name) P) × EachMeans fs

  option_or-if : (a b : Option V) → IfSome a P → IfSome b P → IfSome (option_or a b) P
  option_or-if None b h k = k
  option_or-if (Some a) b h k = h

  pub found-Means : (fs : List (Meaning V)) (name : List ℕ) → EachMeans fs → IfSome (found fs name) P
  found-Means [] name h = tt
  found-Means (f ∷ fs) name h = option_or-if (f name) (found fs name) (h.0 name) (found-Means fs name h.1)

  cond-if : (test : Bool) (a b : Option V) → IfSome a P → IfSome b P → IfSome (cond test a b) P
  cond-if true a b h k = h
  cond-if false a b h k = k

  declared-Means : (f : Meaning V) (name : List ℕ) (a : V) → P a → ((other : List ℕ) → IfSome (f other) P) → (other : List ℕ) → IfSome (declared f name a other) P
  declared-Means f name a p h other = cond-if (bytes_eq name other) (Some a) (f other) p (h other)

  pub with_name-Means : (fs : List (Meaning V)) (name : List ℕ) (a : V) → P a → EachMeans fs → EachMeans (with_name fs name a)
  with_name-Means [] name a p h = tt
  with_name-Means (f ∷ []) name a p h = (declared-Means f name a p h.0, tt)
  with_name-Means (f ∷ g ∷ fs) name a p h = (h.0, with_name-Means (g ∷ fs) name a p h.1)

  cond-Means : (test : Bool) (fs gs : List (Meaning V)) → EachMeans fs → EachMeans gs → EachMeans (cond test fs gs)
  cond-Means true fs gs h k = h
  cond-Means false fs gs h k = k

  pub replaced-Means : (fs : List (Meaning V)) (name : List ℕ) (a : V) → P a → EachMeans fs → EachMeans (replaced fs name a)
  replaced-Means [] name a p h = tt
  replaced-Means (f ∷ fs) name a p h =
      cond-Means (is_some (f name)) (declared f name a ∷ fs) (f ∷ replaced fs name a) (declared-Means f name a p h.0, h.1) (h.0, replaced-Means fs name a p h.1)

  pub entered-Means : (fs : List (Meaning V)) → EachMeans fs → EachMeans (entered fs)
  entered-Means [] h = (λ name. tt, tt)
  entered-Means (f ∷ fs) h = (h.0, entered-Means fs h.1)

  pub left-Means : (fs : List (Meaning V)) → EachMeans fs → EachMeans (left fs)
  left-Means [] h = tt
  left-Means (f ∷ []) h = tt
  left-Means (f ∷ g ∷ fs) h = (h.0, left-Means (g ∷ fs) h.1)

-- a fact that says less
weaker-if : (V : Type 0) (P Q : V → Type 0) → ((a : V) → P a → Q a) → (o : Option V) → IfSome o P → IfSome o Q
weaker-if V P Q w None h = tt
weaker-if V P Q w (Some a) h = w a h

pub weaker-Means : (V : Type 0) (P Q : V → Type 0) → ((a : V) → P a → Q a) → (fs : List (Meaning V)) → EachMeans V P fs → EachMeans V Q fs
weaker-Means V P Q w [] h = tt
weaker-Means V P Q w (f ∷ fs) h = (λ name. weaker-if V P Q w (f name) (h.0 name), weaker-Means V P Q w fs h.1)
