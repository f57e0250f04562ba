-- Laws of nested scopes, for whoever stands on this crate. Each holds of all scopes, but for what it asks.
use Rattle.std.proofs.Common.{◌≡◌, ◌+◌, ◌-◌, ◌<◌, ℕ, List, [], ◌∷◌, ◌++◌, length, Option, None, Some, IsSome, is_some, Bool, true, false, cond, refl, ap, sym, ◌∙◌, arith}
use Rattle.std.specs.Option.{option_or, option_map}
use Rattle.std.specs.Str.{bytes_eq}
use Rattle.std.proofs.lemmas.Slice.Eq.{bytes_eq-Decides}
use mathlib.Core.Path.{fun_ext}
use Rattle.mage_scopes.specs.Scopes.{Meaning, nothing, declared, found, entered, left, with_name, replaced}

option_or-assoc : {V : Type 0} (a b c : Option V) → option_or a (option_or b c) ≡ option_or (option_or a b) c
option_or-assoc None b c = refl
option_or-assoc (Some x) b c = refl

pub option_or-none : {V : Type 0} (a : Option V) → option_or a None ≡ a
option_or-none None = refl
option_or-none (Some x) = refl

-- where neither has a value, the first has none, and the second has none
pub neither : {V : Type 0} (a b : Option V) → option_or a b ≡ None → (a ≡ None) × (b ≡ None)
neither None b h = (refl, h)
neither (Some x) b h = absurd (cc)

bytes_same : (name : List ℕ) → bytes_eq name name ≡ true
bytes_same name = (bytes_eq-Decides name name).1 refl

-- what a scope hasn't at a name it hasn't at other bytes that are the same
absent_at : {V : Type 0} (scope : Meaning V) (name other : List ℕ) → scope name ≡ None → bytes_eq name other ≡ true → scope other ≡ None
absent_at scope name other none same = ap scope (sym ((bytes_eq-Decides name other).0 same)) ∙ none

-- Looking up.

-- scopes inside others: the outer ones are looked through first
pub found-append : {V : Type 0} (outer inner : List (Meaning V)) (name : List ℕ) → found (outer ++ inner) name ≡ option_or (found outer name) (found inner name)
found-append [] inner name = refl
found-append (scope ∷ outer) inner name =
    ap (option_or (scope name)) (found-append outer inner name) ∙ option_or-assoc (scope name) (found outer name) (found inner name)

pub found-entered : {V : Type 0} (scopes : List (Meaning V)) (name : List ℕ) → found (entered scopes) name ≡ found scopes name
found-entered scopes name = found-append scopes (nothing ∷ []) name ∙ option_or-none (found scopes name)

-- Entering and leaving.

pub length-entered : {V : Type 0} (scopes : List (Meaning V)) → length (entered scopes) ≡ length scopes + 1
length-entered [] = refl
length-entered (scope ∷ scopes) = omega (arith, length-entered scopes)

pub left-append : {V : Type 0} (scopes : List (Meaning V)) (inner : Meaning V) → left (scopes ++ inner ∷ []) ≡ scopes
left-append [] inner = refl
left-append (scope ∷ []) inner = refl
left-append (scope ∷ next ∷ scopes) inner = ap (λ (r : List (Meaning _)). scope ∷ r) (left-append (next ∷ scopes) inner)

pub left-entered : {V : Type 0} (scopes : List (Meaning V)) → left (entered scopes) ≡ scopes
left-entered scopes = left-append scopes nothing

left-cons : {V : Type 0} (scope : Meaning V) (scopes : List (Meaning V)) → 0 < length scopes → left (scope ∷ scopes) ≡ scope ∷ left scopes
left-cons scope [] some = absurd (omega arith)
left-cons scope (next ∷ scopes) some = refl

pub length-left : {V : Type 0} (scopes : List (Meaning V)) → length (left scopes) ≡ length scopes - 1
length-left [] = refl
length-left (scope ∷ []) = refl
length-left (scope ∷ next ∷ scopes) = omega (arith, length-left (next ∷ scopes))

-- Declaring.

pub length-with_name : {V : Type 0} (scopes : List (Meaning V)) (name : List ℕ) (value : V) → length (with_name scopes name value) ≡ length scopes
length-with_name [] name value = refl
length-with_name (scope ∷ []) name value = refl
length-with_name (scope ∷ next ∷ scopes) name value = omega (arith, length-with_name (next ∷ scopes) name value)

pub with_name-append : {V : Type 0} (scopes : List (Meaning V)) (inner : Meaning V) (name : List ℕ) (value : V) → with_name (scopes ++ inner ∷ []) name value ≡ scopes ++ declared inner name value ∷ []
with_name-append [] inner name value = refl
with_name-append (scope ∷ []) inner name value = refl
with_name-append (scope ∷ next ∷ scopes) inner name value =
    ap (λ (r : List (Meaning _)). scope ∷ r) (with_name-append (next ∷ scopes) inner name value)

-- what is declared in the innermost scope goes with it
pub left-with_name : {V : Type 0} (scopes : List (Meaning V)) (name : List ℕ) (value : V) → left (with_name scopes name value) ≡ left scopes
left-with_name [] name value = refl
left-with_name (scope ∷ []) name value = refl
left-with_name (scope ∷ next ∷ scopes) name value =
    let some : 0 < length (with_name (next ∷ scopes) name value) = omega (arith, length-with_name (next ∷ scopes) name value) in
    left-cons scope (with_name (next ∷ scopes) name value) some
    ∙ ap (λ (r : List (Meaning _)). scope ∷ r) (left-with_name (next ∷ scopes) name value)

-- the name stands for the value unless an outer scope has it; every other name stands for what it stood for
pub found-with_name : {V : Type 0} (scopes : List (Meaning V)) (name : List ℕ) (value : V) (other : List ℕ) → 0 < length scopes → found (with_name scopes name value) other ≡ cond (bytes_eq name other) (option_or (found (left scopes) other) (Some value)) (found scopes other)
found-with_name [] name value other some = absurd (omega arith)
found-with_name (scope ∷ []) name value other some =
    elim (bytes_eq name other) as (λ b. option_or (cond b (Some value) (scope other)) None ≡ cond b (Some value) (option_or (scope other) None)) [ true ↦ refl | false ↦ refl ]
found-with_name (scope ∷ next ∷ scopes) name value other some =
    ap (option_or (scope other)) (found-with_name (next ∷ scopes) name value other (omega arith))
    ∙ elim (bytes_eq name other) as (λ b. option_or (scope other) (cond b (option_or (found (left (next ∷ scopes)) other) (Some value)) (found (next ∷ scopes) other)) ≡ cond b (option_or (option_or (scope other) (found (left (next ∷ scopes)) other)) (Some value)) (option_or (scope other) (found (next ∷ scopes) other)))
    [ true ↦ option_or-assoc (scope other) (found (left (next ∷ scopes)) other) (Some value) | false ↦ refl ]

found_none-left : {V : Type 0} (scopes : List (Meaning V)) (name : List ℕ) → found scopes name ≡ None → found (left scopes) name ≡ None
found_none-left [] name none = refl
found_none-left (scope ∷ []) name none = refl
found_none-left (scope ∷ next ∷ scopes) name none =
    let parts = neither (scope name) (found (next ∷ scopes) name) none in
    rw parts.0 (found_none-left (next ∷ scopes) name parts.1)

new_name_at : {V : Type 0} (scopes : List (Meaning V)) (name : List ℕ) (value : V) (other : List ℕ) → found scopes name ≡ None → (b : Bool) → bytes_eq name other ≡ b → cond (bytes_eq name other) (option_or (found (left scopes) other) (Some value)) (found scopes other) ≡ cond (bytes_eq name other) (Some value) (found scopes other)
new_name_at scopes name value other none true same =
    rw same (ap (λ (o : Option _). option_or o (Some value)) (absent_at (found (left scopes)) name other (found_none-left scopes name none) same))
new_name_at scopes name value other none false apart = rw apart refl

-- a name that no scope has
pub found-with_new_name : {V : Type 0} (scopes : List (Meaning V)) (name : List ℕ) (value : V) → 0 < length scopes → found scopes name ≡ None → found (with_name scopes name value) ≡ declared (found scopes) name value
found-with_new_name scopes name value some none =
    fun_ext (λ other. found-with_name scopes name value other some ∙ new_name_at scopes name value other none (bytes_eq name other) refl)

-- Replacing.

cond_same : {A : Type 0} (b : Bool) (a : A) → cond b a a ≡ a
cond_same true a = refl
cond_same false a = refl

declared-declared : {V : Type 0} (scope : Meaning V) (name : List ℕ) (first second : V) → declared (declared scope name first) name second ≡ declared scope name second
declared-declared scope name first second =
    fun_ext (λ other. elim (bytes_eq name other) as (λ b. cond b (Some second) (cond b (Some first) (scope other)) ≡ cond b (Some second) (scope other)) [ true ↦ refl | false ↦ refl ])

pub length-replaced : {V : Type 0} (scopes : List (Meaning V)) (name : List ℕ) (value : V) → length (replaced scopes name value) ≡ length scopes
length-replaced [] name value = refl
length-replaced (scope ∷ scopes) name value =
    elim (is_some (scope name)) as (λ b. length (cond b (declared scope name value ∷ scopes) (scope ∷ replaced scopes name value)) ≡ length (scope ∷ scopes))
    [ true ↦ refl | false ↦ omega (arith, length-replaced scopes name value) ]

absent_step : {V : Type 0} (scope : Meaning V) (name other : List ℕ) (x y : Option V) → scope name ≡ None → (b : Bool) → bytes_eq name other ≡ b → option_or (scope other) (cond (bytes_eq name other) x y) ≡ cond (bytes_eq name other) x (option_or (scope other) y)
absent_step scope name other x y none true same =
    rw same (ap (λ (o : Option _). option_or o x) (absent_at scope name other none same))
absent_step scope name other x y none false apart = rw apart refl

found-replaced-at : {V : Type 0} (scope : Meaning V) (scopes : List (Meaning V)) (name : List ℕ) (value : V) (other : List ℕ) (here : Option V) → scope name ≡ here → found (replaced scopes name value) other ≡ cond (bytes_eq name other) (option_map (λ _. value) (found scopes name)) (found scopes other) → found (cond (is_some here) (declared scope name value ∷ scopes) (scope ∷ replaced scopes name value)) other ≡ cond (bytes_eq name other) (option_map (λ _. value) (option_or here (found scopes name))) (option_or (scope other) (found scopes other))
found-replaced-at scope scopes name value other (Some held) is others =
    elim (bytes_eq name other) as (λ b. option_or (cond b (Some value) (scope other)) (found scopes other) ≡ cond b (Some value) (option_or (scope other) (found scopes other))) [ true ↦ refl | false ↦ refl ]
found-replaced-at scope scopes name value other None is others =
    ap (option_or (scope other)) others
    ∙ absent_step scope name other (option_map (λ _. value) (found scopes name)) (found scopes other) is (bytes_eq name other) refl

-- a name that stood for something stands for the value; every other name stands for what it stood for
pub found-replaced : {V : Type 0} (scopes : List (Meaning V)) (name : List ℕ) (value : V) (other : List ℕ) → found (replaced scopes name value) other ≡ cond (bytes_eq name other) (option_map (λ _. value) (found scopes name)) (found scopes other)
found-replaced [] name value other = sym (cond_same (bytes_eq name other) None)
found-replaced (scope ∷ scopes) name value other =
    found-replaced-at scope scopes name value other (scope name) refl (found-replaced scopes name value other)

-- a name that no scope has
pub replaced-absent : {V : Type 0} (scopes : List (Meaning V)) (name : List ℕ) (value : V) → found scopes name ≡ None → replaced scopes name value ≡ scopes
replaced-absent [] name value none = refl
replaced-absent (scope ∷ scopes) name value none =
    let parts = neither (scope name) (found scopes name) none in
    rw parts.0 (ap (λ (r : List (Meaning _)). scope ∷ r) (replaced-absent scopes name value parts.1))

-- a name that no outer scope has
pub replaced-inner : {V : Type 0} (outer inner : List (Meaning V)) (name : List ℕ) (value : V) → found outer name ≡ None → replaced (outer ++ inner) name value ≡ outer ++ replaced inner name value
replaced-inner [] inner name value none = refl
replaced-inner (scope ∷ outer) inner name value none =
    let parts = neither (scope name) (found outer name) none in
    rw parts.0 (ap (λ (r : List (Meaning _)). scope ∷ r) (replaced-inner outer inner name value parts.1))

replaced-outer-at : {V : Type 0} (scope : Meaning V) (outer inner : List (Meaning V)) (name : List ℕ) (value : V) (here : Option V) → IsSome (option_or here (found outer name)) → (IsSome (found outer name) → replaced (outer ++ inner) name value ≡ replaced outer name value ++ inner) → cond (is_some here) (declared scope name value ∷ outer ++ inner) (scope ∷ replaced (outer ++ inner) name value) ≡ cond (is_some here) (declared scope name value ∷ outer) (scope ∷ replaced outer name value) ++ inner
replaced-outer-at scope outer inner name value (Some held) some others = refl
replaced-outer-at scope outer inner name value None some others = ap (λ (r : List (Meaning _)). scope ∷ r) (others some)

-- a name that an outer scope has
pub replaced-outer : {V : Type 0} (outer inner : List (Meaning V)) (name : List ℕ) (value : V) → IsSome (found outer name) → replaced (outer ++ inner) name value ≡ replaced outer name value ++ inner
replaced-outer [] inner name value some = absurd (cc)
replaced-outer (scope ∷ outer) inner name value some =
    replaced-outer-at scope outer inner name value (scope name) some (replaced-outer outer inner name value)

pub replaced-entered : {V : Type 0} (scopes : List (Meaning V)) (name : List ℕ) (value : V) → replaced (entered scopes) name value ≡ entered (replaced scopes name value)
replaced-entered [] name value = refl
replaced-entered (scope ∷ scopes) name value =
    elim (is_some (scope name)) as (λ b. cond b (declared scope name value ∷ entered scopes) (scope ∷ replaced (entered scopes) name value) ≡ entered (cond b (declared scope name value ∷ scopes) (scope ∷ replaced scopes name value)))
    [ true ↦ refl | false ↦ ap (λ (r : List (Meaning _)). scope ∷ r) (replaced-entered scopes name value) ]

-- leaving takes away what the innermost scope has, and no more
pub left-replaced : {V : Type 0} (scopes : List (Meaning V)) (name : List ℕ) (value : V) → left (replaced scopes name value) ≡ replaced (left scopes) name value
left-replaced [] name value = refl
left-replaced (scope ∷ []) name value =
    elim (is_some (scope name)) as (λ b. left (cond b (declared scope name value ∷ []) (scope ∷ [])) ≡ []) [ true ↦ refl | false ↦ refl ]
left-replaced (scope ∷ next ∷ scopes) name value =
    let some : 0 < length (replaced (next ∷ scopes) name value) = omega (arith, length-replaced (next ∷ scopes) name value) in
    elim (is_some (scope name)) as (λ b. left (cond b (declared scope name value ∷ next ∷ scopes) (scope ∷ replaced (next ∷ scopes) name value)) ≡ cond b (declared scope name value ∷ left (next ∷ scopes)) (scope ∷ replaced (left (next ∷ scopes)) name value)) [
      | true ↦ refl
      | false ↦ left-cons scope (replaced (next ∷ scopes) name value) some ∙ ap (λ (r : List (Meaning _)). scope ∷ r) (left-replaced (next ∷ scopes) name value)
    ]

replaced-declared : {V : Type 0} (scope : Meaning V) (scopes : List (Meaning V)) (name : List ℕ) (first second : V) → replaced (declared scope name first ∷ scopes) name second ≡ declared scope name second ∷ scopes
replaced-declared scope scopes name first second =
    rw (bytes_same name) (ap (λ (s : Meaning _). s ∷ scopes) (declared-declared scope name first second))

replaced-replaced-at : {V : Type 0} (scope : Meaning V) (scopes : List (Meaning V)) (name : List ℕ) (first second : V) (here : Option V) → scope name ≡ here → replaced (replaced scopes name first) name second ≡ replaced scopes name second → replaced (cond (is_some here) (declared scope name first ∷ scopes) (scope ∷ replaced scopes name first)) name second ≡ cond (is_some here) (declared scope name second ∷ scopes) (scope ∷ replaced scopes name second)
replaced-replaced-at scope scopes name first second (Some held) is others = replaced-declared scope scopes name first second
replaced-replaced-at scope scopes name first second None is others = rw is (ap (λ (r : List (Meaning _)). scope ∷ r) others)

-- the later value stands
pub replaced-replaced : {V : Type 0} (scopes : List (Meaning V)) (name : List ℕ) (first second : V) → replaced (replaced scopes name first) name second ≡ replaced scopes name second
replaced-replaced [] name first second = refl
replaced-replaced (scope ∷ scopes) name first second =
    replaced-replaced-at scope scopes name first second (scope name) refl (replaced-replaced scopes name first second)

-- a new name is declared, and its value replaced
pub replaced-with_new_name : {V : Type 0} (scopes : List (Meaning V)) (name : List ℕ) (first second : V) → found scopes name ≡ None → replaced (with_name scopes name first) name second ≡ with_name scopes name second
replaced-with_new_name [] name first second none = refl
replaced-with_new_name (scope ∷ []) name first second none = replaced-declared scope [] name first second
replaced-with_new_name (scope ∷ next ∷ scopes) name first second none =
    let parts = neither (scope name) (found (next ∷ scopes) name) none in
    rw parts.0 (ap (λ (r : List (Meaning _)). scope ∷ r) (replaced-with_new_name (next ∷ scopes) name first second parts.1))

-- the laws that ask for nothing, for `grind`
pub ruleset scope_laws = (found-append, found-entered, found-replaced, length-entered, length-left, length-with_name, length-replaced, left-append, left-entered, left-with_name, left-replaced, with_name-append, replaced-entered, replaced-replaced)
