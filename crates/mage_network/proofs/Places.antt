-- One place of a function given anew.
use Rattle.std.proofs.Common.{◌≡◌, ℕ, Bool, true, false, cond, eqb, List, refl, ap, ◌∙◌, subst, ◌⊎◌, inl, inr, ◌&&◌}
use Rattle.std.proofs.lemmas.Bool.{eqb-true, eq-eqb}
use Rattle.mage_network.specs.Network.{put, put_link}

-- a test with what it tells
pub true_or_false : (b : Bool) → (b ≡ true) ⊎ (b ≡ false)
true_or_false true = inl refl
true_or_false false = inr refl

pub eqb_same : (n : ℕ) → eqb n n ≡ true
eqb_same n = eq-eqb n n refl

-- what holds of the new value, and of each old one at another place, holds everywhere
pub put_each : {X : Type 0} (P : ℕ → X → Type 0) (each : ℕ → X) (place : ℕ) (x : X) → P place x →
    ((k : ℕ) → eqb place k ≡ false → P k (each k)) → (k : ℕ) → P k (put each place x k)
put_each {X} P each place x new old k = go (eqb place k) refl
  where
    go : (b : Bool) → eqb place k ≡ b → P k (cond b x (each k))
    go true e = subst (λ i. P i x) (eqb-true place k e) new
    go false e = old k e

pub put_here : {X : Type 0} (each : ℕ → X) (place : ℕ) (x : X) → put each place x place ≡ x
put_here each place x = ap (λ b. cond b x (each place)) (eqb_same place)

pub put_other : {X : Type 0} (each : ℕ → X) (place : ℕ) (x : X) (k : ℕ) → eqb place k ≡ false →
    put each place x k ≡ each k
put_other each place x k e = ap (λ b. cond b x (each k)) e

pub put_link_here : {W : Type 0} (links : ℕ → ℕ → List W) (n m : ℕ) (wires : List W) →
    put_link links n m wires n m ≡ wires
put_link_here links n m wires = ap (λ b. cond (b && eqb m m) wires (links n m)) (eqb_same n)
    ∙ ap (λ b. cond b wires (links n m)) (eqb_same m)

pub put_link_source : {W : Type 0} (links : ℕ → ℕ → List W) (n m : ℕ) (wires : List W) (k l : ℕ) →
    eqb n k ≡ false → put_link links n m wires k l ≡ links k l
put_link_source links n m wires k l e = ap (λ b. cond (b && eqb m l) wires (links k l)) e

pub put_link_target : {W : Type 0} (links : ℕ → ℕ → List W) (n m : ℕ) (wires : List W) (k l : ℕ) →
    eqb m l ≡ false → put_link links n m wires k l ≡ links k l
put_link_target links n m wires k l e =
    ap (λ b. cond (eqb n k && b) wires (links k l)) e ∙ go (eqb n k)
  where
    go : (b : Bool) → cond (b && false) wires (links k l) ≡ links k l
    go true = refl
    go false = refl
