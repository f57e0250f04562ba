-- Which values a program still needs.
use Rattle.std.specs.Prelude.{◌≡◌, ◌<◌, ◌≤◌, ℕ, List, [], ◌∷◌, ◌++◌, if◌then◌else◌, take, slice_get, IsTrue, IsSomeAnd, Contains, ◌⊎◌}
use Rattle.mage_instr.specs.declared.instr.Instr.{Instr}
use Rattle.mage_instr.specs.Opcodes.{arity_of, has_result, width_of_result}
use Rattle.mage_place.specs.Classes.{class_of_width}

-- the values that an instruction takes, each as the index of the instruction that defined it
abbrev pub args_of : Instr → List ℕ
args_of i = take (arity_of i.op) i.args

-- the values that instruction t touches: those that it takes, and the one that it defines
abbrev pub values_touched_by : Instr → (t : ℕ) → List ℕ
values_touched_by i t = args_of i ++ (if has_result i.op then t ∷ [] else [])

-- instruction s takes the value of instruction v
abbrev pub Takes : List Instr → (s v : ℕ) → Type 0
Takes instrs s v = IsSomeAnd (slice_get instrs s) (λ i. Contains (args_of i) v)

-- Before instruction t the value of instruction v is live: v comes before t, and t or a later instruction takes it.
abbrev pub IsLive : List Instr → (t v : ℕ) → Type 0
IsLive instrs t v = (v < t) × (s : ℕ) × (t ≤ s) × Takes instrs s v

-- the class of an instruction's value
abbrev pub class_of_result : Instr → ℕ
class_of_result i = class_of_width (width_of_result i.op i.width)

-- instruction v defines a value of the class c
abbrev pub HasClass : List Instr → (v c : ℕ) → Type 0
HasClass instrs v c = IsSomeAnd (slice_get instrs v) (λ i. IsTrue (has_result i.op) × (class_of_result i ≡ c))

-- u is the last of the first n instructions that takes the value of v, or v where none does
pub record IsLastUse (instrs : List Instr) (n v u : ℕ) : Type 0 where
  pub use_or_own : (u ≡ v) ⊎ ((v < u) × Takes instrs u v)
  pub none_after : (s : ℕ) → s < n → Takes instrs s v → s ≤ u
