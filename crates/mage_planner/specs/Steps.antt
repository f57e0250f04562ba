-- What a step of the work answers, against what the work comes to.
use Rattle.std.specs.Prelude.{◌≡◌, ◌≤◌, ℕ, Bool, IsTrue, Result, Ok, Err}
use Rattle.mage_base.specs.Faults.{Rose}
use Rattle.mage_planner.specs.declared.refusal.Refusal.{Refusal}
use Rattle.mage_planner.specs.declared.refusal.Refusal.TheVariants as refusal

-- A refusal is the one that the work comes to, but that want of memory may come in its place. So may the
-- desk's fault, where the desk isn't steady.
abbrev pub Refuses : {T : Type 0} → (steady : Bool) → Refusal → Result T Refusal → Type 0
Refuses steady refusal.Desk work = IsTrue steady → work ≡ Err refusal.Desk
Refuses steady refusal.Memory work = Unit {0}
Refuses steady other work = work ≡ Err other

-- a step of the work gives what it comes to, seen by view
abbrev pub Gives :
    {X Y : Type 0} → (steady : Bool) → (X → Y) → Result X Refusal → Result Y Refusal → Type 0
Gives steady view (Ok x) work = work ≡ Ok (view x)
Gives steady view (Err other) work = Refuses steady other work

-- only the desk's fault raises the count of faults
abbrev pub RefusalCounted : (before now : ℕ) → Refusal → Type 0
RefusalCounted before now refusal.Desk = (before ≤ now) × Rose before now
RefusalCounted before now other = now ≡ before

abbrev pub StepCounted : {T : Type 0} → (before now : ℕ) → Result T Refusal → Type 0
StepCounted before now (Ok x) = now ≡ before
StepCounted before now (Err other) = RefusalCounted before now other

-- The same of the whole work: where a run is stopped, closing its streams may raise the count too.
abbrev pub WorkCounted : {T : Type 0} → (before now : ℕ) → Result T Refusal → Type 0
WorkCounted before now (Ok x) = now ≡ before
WorkCounted before now (Err refusal.Desk) = (before ≤ now) × Rose before now
WorkCounted before now (Err other) = before ≤ now

-- a refusal other than a fault of the desk, of its stores or of a stream
abbrev pub IsNotDesk : Refusal → Type 0
IsNotDesk refusal.Desk = ⊥
IsNotDesk (refusal.Store worker) = ⊥
IsNotDesk (refusal.Damaged worker damage) = ⊥
IsNotDesk (refusal.Stream worker fault) = ⊥
IsNotDesk other = Unit {0}

abbrev pub IsNoDeskFault : {T : Type 0} → Result T Refusal → Type 0
IsNoDeskFault (Ok x) = Unit {0}
IsNoDeskFault (Err other) = IsNotDesk other
