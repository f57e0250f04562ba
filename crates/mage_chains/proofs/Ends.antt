-- What is known of the parts of a chain that ended well, and of tests in it. Other crates cite
-- these.
use Rattle.std.proofs.Common.{◌≡◌, Bool, true, false, cond, Option, Some, None, Result, Ok, Err, refl}
use Rattle.mage_chains.specs.Chains.{◌>>=◌}

pub same_Ok : {A E : Type 0} (x y : A) → ◌≡◌ {A = Result A E} (Ok x) (Ok y) → x ≡ y
same_Ok x y h = cc

pub err_not_ok : {A E : Type 0} (e : E) (x : A) → ◌≡◌ {A = Result A E} (Err e) (Ok x) → ⊥
err_not_ok e x h = cc

pub none_not_some : {A : Type 0} (x : A) → ◌≡◌ {A = Option A} None (Some x) → ⊥
none_not_some x h = cc

pub same_Some : {A : Type 0} (x y : A) → ◌≡◌ {A = Option A} (Some x) (Some y) → x ≡ y
same_Some x y h = cc

-- the first step of a chain that ended well, and the rest of it
pub then_ok : {A B E : Type 0} (r : Result A E) (f : A → Result B E) (b : B) → (r >>= f) ≡ Ok b → (a : A) × (r ≡ Ok a) × (f a ≡ Ok b)
then_ok (Ok a) f b h = (a, refl, h)
then_ok (Err e) f b h = absurd (err_not_ok e b h)

-- a test that went well
pub cond_ok : {A E : Type 0} (test : Bool) (x y : A) (e : E) → ◌≡◌ {A = Result A E} (cond test (Ok x) (Err e)) (Ok y) → (test ≡ true) × (x ≡ y)
cond_ok true x y e h = (refl, same_Ok x y h)
cond_ok false x y e h = absurd (err_not_ok e y h)

pub cond_some : {A : Type 0} (test : Bool) (x y : A) → cond test (Some x) None ≡ Some y → (test ≡ true) × (x ≡ y)
cond_some true x y h = (refl, same_Some x y h)
cond_some false x y h = absurd (none_not_some y h)
