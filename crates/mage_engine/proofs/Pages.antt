-- A frame whose buffer was exchanged.
use Rattle.std.proofs.Common.{◌≡◌, ◌<◌, ℕ, cond, List, length, get_or, set, refl, sym, ap, ◌∙◌, subst, arith}
use Rattle.std.proofs.lemmas.List.{with_items_is}
use Rattle.std.specs.Vec.{with_items}
use Rattle.std.proofs.lemmas.Bool.{eq-eqb}
use Rattle.std.specs.Prelude.{Vec}
use Rattle.std.specs.Global.{Global}
use Rattle.mage_network.specs.Network.{put}
use Rattle.mage_bank.specs.Bank.{contents, bank_of, lengths_of}
use Rattle.mage_bank.proofs.Banking.{bank_here, bank_put, lengths_put}

pub put_here : {X : Type 0} (each : ℕ → X) (i : ℕ) (x : X) → put each i x i ≡ x
put_here each i x = ap (λ b. cond b x (each i)) (eq-eqb i i refl)

module _ (frames : List (Vec ℕ Global)) (i f : ℕ) (at : i ≡ f) (inside : f < length frames) (old : Vec ℕ Global) (here : old ≡ get_or frames i old) where
  pub was_here : bank_of (contents frames) f ≡ old.items
  was_here = subst (λ f. f < length frames → bank_of (contents frames) f ≡ old.items) at (λ inside. bank_here frames i old inside here) inside

  module _ (frame : Vec ℕ Global) (same : length frame.items ≡ length (bank_of (contents frames) f)) where
    long : length frame.items ≡ length old.items
    long = same ∙ ap (λ (l : List ℕ). length l) was_here

    put_so : bank_of (contents (set frames i frame)) ≡ put (bank_of (contents frames)) f frame.items
    put_so = subst (λ f. f < length frames → bank_of (contents (set frames i frame)) ≡ put (bank_of (contents frames)) f frame.items) at
        (λ inside. bank_put frames i old frame inside here long) inside

    pub is_here : bank_of (contents (set frames i frame)) f ≡ frame.items
    is_here = ap (λ (b : ℕ → List ℕ). b f) put_so ∙ put_here (bank_of (contents frames)) f frame.items

    pub put_there : bank_of (contents (set frames i frame)) ≡ put (bank_of (contents frames)) f (bank_of (contents (set frames i frame)) f)
    put_there = put_so ∙ ap (put (bank_of (contents frames)) f) (sym is_here)

    pub long_there : lengths_of (contents (set frames i frame)) ≡ lengths_of (contents frames)
    long_there = lengths_put frames i old frame here long

-- what was lent as a slice came back
pub back_again : {X : Type 0} (v : Vec X Global) (new : List X) → length new ≡ length v.items → (with_items v new).items ≡ new
back_again v new same =
    let long : length new ≡ v.len = omega (arith, same, v.ok.0) in
    with_items_is v new long
