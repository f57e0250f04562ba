-- A list of machines that is turned round, and turned back.
use Rattle.std.proofs.Common.{◌≡◌, ◌≤◌, ◌+◌, ◌++◌, ℕ, zero, suc, List, [], ◌∷◌, length, map, take, drop, refl, sym, ap, ◌∙◌, subst, arith, length-append}
use Rattle.std.proofs.lemmas.List.{reverse-reverse, length-reverse, length-map, take_all, append-nil}
use Rattle.std.specs.Prelude.{reverse, Option}
use Rattle.mage_base.specs.Store.{StoreTold}
use Rattle.mage_driver.specs.Rules.{Rules}
use Rattle.mage_driver.specs.Calls.{Told}
use Rattle.mage_link.specs.Queues.{QueueState}
use Rattle.mage_verify.specs.Parts.{WorkerPart, parts_of}
use Rattle.mage_verify.specs.Runs.{AreVerified}
use Rattle.mage_core.specs.declared.fault.RunFault.{RunFault}
use Rattle.mage_core.specs.Ports.{RunMachine}
use Rattle.mage_core.specs.Turns.{sights}
use Rattle.mage_core.specs.Going.{EndsAs, start_of}
use Rattle.mage_core.proofs.Starting.{parts_count}
use Rattle.mage_core.proofs.Finishing.{parts_reversed}

drop_whole : {A : Type 0} (xs : List A) (k : ℕ) → length xs ≤ k → drop k xs ≡ []
drop_whole [] zero h = refl
drop_whole [] (suc k) h = refl
drop_whole (x ∷ xs) zero h = absurd (omega arith)
drop_whole (x ∷ xs) (suc k) h = drop_whole xs k (omega arith)

-- what a list is after all of it was lent and turned round
pub turned_so : {A : Type 0} (xs ys mid : List A) (n : ℕ) → n ≡ length xs → mid ≡ xs → ys ≡ reverse mid → take n (ys ++ drop (length ys) xs) ≡ reverse xs
turned_so xs ys mid n long lent is =
    let same : ys ≡ reverse xs = is ∙ ap reverse lent in
    let longs : length ys ≡ length xs = ap length same ∙ length-reverse xs in
    ap (λ l. take n (ys ++ l)) (drop_whole xs (length ys) (omega (arith, longs))) ∙ ap (take n) (append-nil ys) ∙ take_all n ys (omega (arith, long, longs)) ∙ same

pub verified_turned : {M : Type 0} (f : M → WorkerPart) (ms lent : List M) → lent ≡ reverse ms → AreVerified (reverse (map f ms)) → AreVerified (map f lent)
verified_turned {M} f ms lent is h = subst (λ (l : List M). AreVerified (map f l)) (sym is) (parts_reversed f ms h)

pub ends_turned : {W D S : Type 0} (rules : Rules W) (driver_tells : D → Told rules.State) (store_tells : S → StoreTold) (ms lent new back : List (RunMachine D S))
    (links : QueueState) (result : Option RunFault) → lent ≡ reverse ms → back ≡ reverse new →
    EndsAs rules (map (start_of driver_tells store_tells) lent) (sights driver_tells store_tells new) links result →
    EndsAs rules (map (start_of driver_tells store_tells) (reverse ms)) (sights driver_tells store_tells (reverse back)) links result
ends_turned {W} {D} {S} rules driver_tells store_tells ms lent new back links result is turned h =
    subst (λ (l : List (RunMachine D S)). EndsAs rules (map (start_of driver_tells store_tells) (reverse ms)) (sights driver_tells store_tells l) links result)
    (sym (ap reverse turned ∙ reverse-reverse new))
    (subst (λ (l : List (RunMachine D S)). EndsAs rules (map (start_of driver_tells store_tells) l) (sights driver_tells store_tells new) links result) is h)

-- a program has 1 to 16 workers
pub some_parts : (parts : List WorkerPart) → AreVerified parts → 1 ≤ length parts
some_parts parts verified =
    let plan = verified.whole.0 in
    let some = verified.whole.1.some_worker in
    let count = parts_count plan.limits plan.stores 0 plan.workers in
    let are : length parts ≡ length (parts_of plan) = ap length verified.whole.2 in
    omega (arith, some, count, are)

pub few_parts : (parts : List WorkerPart) → AreVerified parts → length parts ≤ 16
few_parts parts verified =
    let plan = verified.whole.0 in
    let few = verified.whole.1.few in
    let count = parts_count plan.limits plan.stores 0 plan.workers in
    let are : length parts ≡ length (parts_of plan) = ap length verified.whole.2 in
    omega (arith, few, count, are)

-- as many come back as are in the list and in the machines
pub end_count : {M D : Type 0} (f : M → D) (ds : List D) (ms : List M) (all : List D) (n : ℕ) → all ≡ ds ++ reverse (map f ms) → length ds + length ms ≡ n → length all ≡ n
end_count f ds ms all n is total =
    let long : length (ds ++ reverse (map f ms)) ≡ length ds + length (reverse (map f ms)) = length-append ds (reverse (map f ms)) in
    let turned : length (reverse (map f ms)) ≡ length (map f ms) = length-reverse (map f ms) in
    let mapped : length (map f ms) ≡ length ms = length-map ms f in
    let same : length all ≡ length (ds ++ reverse (map f ms)) = ap length is in
    omega (arith, long, turned, mapped, same, total)
