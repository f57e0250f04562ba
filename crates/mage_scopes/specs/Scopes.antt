-- What names stand for in nested scopes.
use Rattle.std.specs.Prelude.{ℕ, List, [], ◌∷◌, ◌++◌, Option, None, Some, is_some, map, if◌then◌else◌}
use Rattle.std.specs.Option.{option_or}
use Rattle.std.specs.Str.{bytes_eq}
use Rattle.std.specs.Ordering.{nat_cmp}
use Rattle.std.specs.Cmp.Lexicographic.{slice_cmp}
use Rattle.std.specs.BTreeMap.{BTreeMap, get_by}
use Rattle.mage_scopes.specs.declared.Scopes.{Scopes}
use denote.Ref.{Bor}

-- a scope: what each name of it stands for. Scopes are listed with the outermost first
abbrev pub Meaning : Type 0 → Type 0
Meaning V = List ℕ → Option V

-- the scope that has no name
abbrev pub nothing : {V : Type 0} → Meaning V
nothing _ = None

-- the scope, in which the name stands for the value
abbrev pub declared : {V : Type 0} → Meaning V → List ℕ → V → Meaning V
declared scope name value other = if bytes_eq name other then Some value else scope other

-- what the name stands for in the first scope that has it. No source without faults has a name in two scopes at
-- once, so for such a source the order makes no difference
abbrev pub found : {V : Type 0} → List (Meaning V) → List ℕ → Option V
found [] name = None
found (scope ∷ scopes) name = option_or (scope name) (found scopes name)

-- the scopes, and inside them one that has no name
abbrev pub entered : {V : Type 0} → List (Meaning V) → List (Meaning V)
entered scopes = scopes ++ nothing ∷ []

-- the scopes without the innermost one
abbrev pub left : {V : Type 0} → List (Meaning V) → List (Meaning V)
left [] = []
left (scope ∷ []) = []
left (scope ∷ inner ∷ scopes) = scope ∷ left (inner ∷ scopes)

-- the scopes, in the innermost of which the name stands for the value
abbrev pub with_name : {V : Type 0} → List (Meaning V) → List ℕ → V → List (Meaning V)
with_name [] name value = []
with_name (scope ∷ []) name value = declared scope name value ∷ []
with_name (scope ∷ inner ∷ scopes) name value = scope ∷ with_name (inner ∷ scopes) name value

-- the scopes, where in the first that has the name it stands for the value
abbrev pub replaced : {V : Type 0} → List (Meaning V) → List ℕ → V → List (Meaning V)
replaced [] name value = []
replaced (scope ∷ scopes) name value =
    if is_some (scope name) then declared scope name value ∷ scopes else scope ∷ replaced scopes name value

-- what the names of a map stand for
abbrev pub meaning_of : {V : Type 0} → BTreeMap (Bor (List ℕ)) V → Meaning V
meaning_of names name = get_by (λ k. slice_cmp nat_cmp name k.now) names

-- what the names of each scope stand for
unfoldable pub scopes_of : {V : Type 0} → Scopes V → List (Meaning V)
scopes_of scopes = map meaning_of scopes.maps.items
