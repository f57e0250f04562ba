-- Slots of which one changes.
use Rattle.std.proofs.Common.{◌≡◌, ◌∙◌, ◌<◌, ℕ, zero, suc, List, [], ◌∷◌, length, get_or, set, Bool, true, false, refl, ap, arith}
use Rattle.std.specs.Prelude.{◌||◌}
use Rattle.std.specs.List.{list_any}
use Rattle.mage_port.specs.Port.{SlotState, Idle, is_idle, is_asked_write}
use Rattle.mage_store.specs.declared.slot.Task.{Task}
use Rattle.mage_store.specs.declared.slot.Task.TheVariants as tasks
use Rattle.mage_store.specs.Slots.{state_with}

-- a task that writes nothing is the same with any buffer
pub state_with-any : (task : Task) (buffer other : List ℕ) → is_asked_write (state_with task []) ≡ false → state_with task buffer ≡ state_with task other
state_with-any tasks.Idle buffer other no_write = refl
state_with-any (tasks.Read page) buffer other no_write = refl
state_with-any (tasks.Write page) buffer other no_write = cc
state_with-any (tasks.Failed page) buffer other no_write = refl

-- where neither the state that was nor the one that comes passes a test, as many pass it as before
pub any-set_other : (test : SlotState → Bool) (states : List SlotState) (slot : ℕ) (state : SlotState) → test (get_or states slot Idle) ≡ false → test state ≡ false → list_any test (set states slot state) ≡ list_any test states
any-set_other test [] slot state old new = refl
any-set_other test (first ∷ states) zero state old new =
    let same : test state ≡ test first = cc (old, new) in
    ap (λ (b : Bool). b || list_any test states) same
any-set_other test (first ∷ states) (suc slot) state old new = ap (λ (b : Bool). test first || b) (any-set_other test states slot state old new)

or_true : (b : Bool) → (b || true) ≡ true
or_true true = refl
or_true false = refl

-- where the state that comes passes a test, some does
pub any-set_this : (test : SlotState → Bool) (states : List SlotState) (slot : ℕ) (state : SlotState) → slot < length states → test state ≡ true → list_any test (set states slot state) ≡ true
any-set_this test [] slot state within new = absurd (omega arith)
any-set_this test (first ∷ states) zero state within new = ap (λ (b : Bool). b || list_any test states) new
any-set_this test (first ∷ states) (suc slot) state within new =
    let here : slot < length states = omega arith in
    rw (any-set_this test states slot state here new) (or_true (test first))

-- a slot that is doing something is one of the slots
pub within_active : (states : List SlotState) (slot : ℕ) (state : SlotState) → get_or states slot Idle ≡ state → is_idle state ≡ false → slot < length states
within_active [] slot state is active =
    let never : true ≡ false = ap is_idle is ∙ active in
    absurd (cc)
within_active (first ∷ states) zero state is active = omega arith
within_active (first ∷ states) (suc slot) state is active =
    let rest = within_active states slot state is active in
    omega arith
