-- What is known of the parts of a chain that came to something.
use Rattle.std.proofs.Common.{◌≡◌, Bool, true, false, Option, Some, None, refl}
use Rattle.std.specs.Option.{option_map}
use Rattle.mage_carry.specs.Steps.{◌>>=◌, provided}

pub none_not_some : {A : Type 0} (x : A) → ◌≡◌ {A = Option A} None (Some x) → ⊥
none_not_some x h = cc

pub some_not_none : {A : Type 0} (x : A) → ◌≡◌ {A = Option A} (Some x) None → ⊥
some_not_none x h = cc

pub same_Some : {A : Type 0} (x y : A) → ◌≡◌ {A = Option A} (Some x) (Some y) → x ≡ y
same_Some x y h = cc

-- a step and what follows it
pub then_some : {A B : Type 0} (o : Option A) (f : A → Option B) (b : B) → (o >>= f) ≡ Some b → (a : A) × (o ≡ Some a) × (f a ≡ Some b)
then_some (Some a) f b h = (a, refl, h)
then_some None f b h = absurd (none_not_some b h)

-- a step that comes to something where a condition holds
pub provided_some : {A : Type 0} (holds : Bool) (x y : A) → provided holds x ≡ Some y → (holds ≡ true) × (x ≡ y)
provided_some true x y h = (refl, same_Some x y h)
provided_some false x y h = absurd (none_not_some y h)

pub map_some : {A B : Type 0} (f : A → B) (o : Option A) (b : B) → option_map f o ≡ Some b → (a : A) × (o ≡ Some a) × (f a ≡ b)
map_some f (Some a) b h = (a, refl, same_Some (f a) b h)
map_some f None b h = absurd (none_not_some b h)
