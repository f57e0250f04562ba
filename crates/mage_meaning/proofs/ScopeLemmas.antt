-- Scopes of two sides, at each name of which related values stand: each operation keeps the
-- relation.
use Rattle.std.proofs.Common.{◌≡◌, ℕ, Bool, true, false, cond, List, [], ◌∷◌, Option, Some, None, refl, subst}
use Rattle.std.specs.Prelude.{is_some}
use Rattle.std.specs.Option.{option_or}
use Rattle.std.specs.Str.{bytes_eq}
use Rattle.mage_scopes.specs.Scopes.{Meaning, declared, found, entered, left, with_name, replaced}

module _ (A B : Type 0) (R : A → B → Type 0) where
  -- both have a value, and these are related; or none has one
  abbrev pub Both : Option A → Option B → Type 0
  Both None None = Unit {0}
  Both (Some a) (Some b) = R a b
  Both None (Some b) = ⊥
  Both (Some a) None = ⊥

  abbrev pub SameScope : Meaning A → Meaning B → Type 0
  SameScope f g = (name : List ℕ) → Both (f name) (g name)

  abbrev pub SameScopes : List (Meaning A) → List (Meaning B) → Type 0
  SameScopes [] [] = Unit {0}
  SameScopes (f ∷ fs) (g ∷ gs) = SameScope f g × SameScopes fs gs
  SameScopes [] (g ∷ gs) = ⊥
  SameScopes (f ∷ fs) [] = ⊥

  is_some-Both : (a : Option A) (b : Option B) → Both a b → is_some a ≡ is_some b
  is_some-Both None None h = refl
  is_some-Both (Some a) (Some b) h = refl
  is_some-Both None (Some b) h = absurd h
  is_some-Both (Some a) None h = absurd h

  option_or-Both : (a a' : Option A) (b b' : Option B) → Both a b → Both a' b' → Both (option_or a a') (option_or b b')
  option_or-Both None a' None b' h k = k
  option_or-Both (Some a) a' (Some b) b' h k = h
  option_or-Both None a' (Some b) b' h k = absurd h
  option_or-Both (Some a) a' None b' h k = absurd h

  pub found-Both : (fs : List (Meaning A)) (gs : List (Meaning B)) (name : List ℕ) → SameScopes fs gs → Both (found fs name) (found gs name)
  found-Both [] [] name h = tt
  found-Both (f ∷ fs) (g ∷ gs) name h = option_or-Both (f name) (found fs name) (g name) (found gs name) (h.0 name) (found-Both fs gs name h.1)
  found-Both [] (g ∷ gs) name h = absurd h
  found-Both (f ∷ fs) [] name h = absurd h

  cond-Both : (test : Bool) (a a' : Option A) (b b' : Option B) → Both a b → Both a' b' → Both (cond test a a') (cond test b b')
  cond-Both true a a' b b' h k = h
  cond-Both false a a' b b' h k = k

  declared-Same : (f : Meaning A) (g : Meaning B) (name : List ℕ) (a : A) (b : B) → R a b → SameScope f g → SameScope (declared f name a) (declared g name b)
  declared-Same f g name a b r h other = cond-Both (bytes_eq name other) (Some a) (f other) (Some b) (g other) r (h other)

  pub with_name-Same : (fs : List (Meaning A)) (gs : List (Meaning B)) (name : List ℕ) (a : A) (b : B) → R a b → SameScopes fs gs → SameScopes (with_name fs name a) (with_name gs name b)
  with_name-Same [] [] name a b r h = tt
  with_name-Same (f ∷ []) (g ∷ []) name a b r h = (declared-Same f g name a b r h.0, tt)
  with_name-Same (f ∷ f' ∷ fs) (g ∷ g' ∷ gs) name a b r h = (h.0, with_name-Same (f' ∷ fs) (g' ∷ gs) name a b r h.1)
  with_name-Same [] (g ∷ gs) name a b r h = absurd h
  with_name-Same (f ∷ fs) [] name a b r h = absurd h
  with_name-Same (f ∷ []) (g ∷ g' ∷ gs) name a b r h = absurd h.1
  with_name-Same (f ∷ f' ∷ fs) (g ∷ []) name a b r h = absurd h.1

  cond-Same : (test : Bool) (fs fs' : List (Meaning A)) (gs gs' : List (Meaning B)) → SameScopes fs gs → SameScopes fs' gs' → SameScopes (cond test fs fs') (cond test gs gs')
  cond-Same true fs fs' gs gs' h k = h
  cond-Same false fs fs' gs gs' h k = k

  pub replaced-Same : (fs : List (Meaning A)) (gs : List (Meaning B)) (name : List ℕ) (a : A) (b : B) → R a b → SameScopes fs gs → SameScopes (replaced fs name a) (replaced gs name b)
  replaced-Same [] [] name a b r h = tt
  replaced-Same (f ∷ fs) (g ∷ gs) name a b r h =
      let both = cond-Same (is_some (f name)) (declared f name a ∷ fs) (f ∷ replaced fs name a) (declared g name b ∷ gs) (g ∷ replaced gs name b)
      (declared-Same f g name a b r h.0, h.1) (h.0, replaced-Same fs gs name a b r h.1) in
      subst (λ test. SameScopes (replaced (f ∷ fs) name a) (cond test (declared g name b ∷ gs) (g ∷ replaced gs name b))) (is_some-Both (f name) (g name) (h.0 name)) both
  replaced-Same [] (g ∷ gs) name a b r h = absurd h
  replaced-Same (f ∷ fs) [] name a b r h = absurd h

  pub entered-Same : (fs : List (Meaning A)) (gs : List (Meaning B)) → SameScopes fs gs → SameScopes (entered fs) (entered gs)
  entered-Same [] [] h = (λ name. tt, tt)
  entered-Same (f ∷ fs) (g ∷ gs) h = (h.0, entered-Same fs gs h.1)
  entered-Same [] (g ∷ gs) h = absurd h
  entered-Same (f ∷ fs) [] h = absurd h

  pub left-Same : (fs : List (Meaning A)) (gs : List (Meaning B)) → SameScopes fs gs → SameScopes (left fs) (left gs)
  left-Same [] [] h = tt
  left-Same (f ∷ []) (g ∷ []) h = tt
  left-Same (f ∷ f' ∷ fs) (g ∷ g' ∷ gs) h = (h.0, left-Same (f' ∷ fs) (g' ∷ gs) h.1)
  left-Same [] (g ∷ gs) h = absurd h
  left-Same (f ∷ fs) [] h = absurd h
  left-Same (f ∷ []) (g ∷ g' ∷ gs) h = absurd h.1
  left-Same (f ∷ f' ∷ fs) (g ∷ []) h = absurd h.1

-- a relation that says less
weaker-Both : (A B : Type 0) (R S : A → B → Type 0) → ((a : A) (b : B) → R a b → S a b) → (a : Option A) (b : Option B) → Both A B R a b → Both A B S a b
weaker-Both A B R S w None None h = tt
weaker-Both A B R S w (Some a) (Some b) h = w a b h
weaker-Both A B R S w None (Some b) h = absurd h
weaker-Both A B R S w (Some a) None h = absurd h

pub weaker-Same : (A B : Type 0) (R S : A → B → Type 0) → ((a : A) (b : B) → R a b → S a b) → (fs : List (Meaning A)) (gs : List (Meaning B)) → SameScopes A B R fs gs → SameScopes A B S fs gs
weaker-Same A B R S w [] [] h = tt
weaker-Same A B R S w (f ∷ fs) (g ∷ gs) h = (λ name. weaker-Both A B R S w (f name) (g name) (h.0 name), weaker-Same A B R S w fs gs h.1)
weaker-Same A B R S w [] (g ∷ gs) h = absurd h
weaker-Same A B R S w (f ∷ fs) [] h = absurd h
