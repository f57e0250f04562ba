-- The pieces of a whole run, put together.
use Rattle.std.proofs.Common.{◌≡◌, ◌+◌, ◌++◌, ◌⊎◌, ℕ, zero, suc, List, [], ◌∷◌, length, map, take, replicate, Option, None, Some, slice_get, refl, sym, ap, ap₂, ◌∙◌, subst, arith, length-append}
use Rattle.std.proofs.lemmas.List.{length-reverse, length-map}
use Rattle.std.specs.Prelude.{IfSome, reverse, Vec}
use Rattle.std.specs.Global.{Global}
use Rattle.std.specs.List.{All}
use Rattle.mage_base.specs.Store.{StoreTold}
use Rattle.mage_driver.specs.Rules.{Rules, AreLawful}
use Rattle.mage_driver.specs.Calls.{Told}
use Rattle.mage_link.specs.Queues.{QueueState}
use Rattle.mage_verify.specs.Parts.{WorkerPart, parts_of}
use Rattle.mage_verify.specs.Runs.{AreVerified}
use Rattle.mage_core.specs.declared.fault.RunFault.{RunFault}
use Rattle.mage_core.specs.declared.fault.RunFault.TheVariants as fault
use Rattle.mage_core.specs.Ports.{RunMachine, store_of, CameBy}
use Rattle.mage_core.specs.Made.{IsNew, HasStoreOf, Hold, shelves}
use Rattle.mage_core.specs.Turns.{sights}
use Rattle.mage_core.specs.Going.{Start, EndsAs, start_of}
use Rattle.mage_core.specs.Results.{starts_of, AllStay, ComesTo}
use Rattle.mage_instr.specs.declared.directive.MemProgram.{MemProgram}
use Rattle.mage_directives.specs.Directives.{IsMemProgram}
use Rattle.mage_verify.specs.Faults.{fault_of}
use Rattle.mage_core.specs.Answered.{AreStates, AreTold, RunsAnswered}
use Rattle.mage_core.specs.Joined.{RunsJoint, WasDeceived}
use Rattle.mage_core.specs.Begun.{BeginsAnswered, BeginsJoint}
use Rattle.mage_core.proofs.Answered.{runs_answered}
use Rattle.mage_core.proofs.Beginning.{begins_answered}
use Rattle.mage_core.proofs.Trusting.{begins_or_deceived}
use Rattle.mage_core.proofs.Grown.{stays_so}
use Rattle.mage_core.proofs.Either.{joint_or_deceived}
use Rattle.mage_core.proofs.Whole.{map_reverse, all_reverse, starts_so, comes_so}

-- as many machines as parts
pub made_count : {M P : Type 0} (f : M → P) (ms : List M) (ps : List P) → reverse (map f ms) ≡ ps → length ms ≡ length ps
made_count f ms ps is = sym (length-map ms f) ∙ sym (length-reverse (map f ms)) ∙ ap length is

pub parts_reversed : {M : Type 0} (f : M → WorkerPart) (ms : List M) → AreVerified (reverse (map f ms)) → AreVerified (map f (reverse ms))
parts_reversed f ms h = subst AreVerified (sym (map_reverse f ms)) h

-- the shelf of each machine has one store
ones : {M S : Type 0} (f : M → S) (ms : List M) → map (λ (shelf : List S). length shelf) (map (λ m. f m ∷ []) ms) ≡ replicate (length ms) 1
ones f [] = refl
ones f (m ∷ ms) = ap (λ l. 1 ∷ l) (ones f ms)

pub ones_given : {S : Type 0} (wire_bytes : ℕ) (tells : S → StoreTold) (parts : List WorkerPart) (stores : List (Vec S Global)) → length stores ≡ length parts →
    ((w : ℕ) → IfSome (slice_get parts w) (λ part. IfSome (slice_get stores w) (λ shelf. HasStoreOf wire_bytes tells part shelf.items))) →
    map (λ (shelf : List S). length shelf) (shelves stores) ≡ replicate (length parts) 1
ones_given wire_bytes tells [] [] long h = refl
ones_given wire_bytes tells [] (x ∷ xs) long h = absurd (omega (arith, long))
ones_given wire_bytes tells (p ∷ ps) [] long h = absurd (omega (arith, long))
ones_given {S} wire_bytes tells (p ∷ ps) (x ∷ xs) long h =
    ap₂ (λ (n : ℕ) (l : List ℕ). n ∷ l) (h zero).one (ones_given wire_bytes tells ps xs (omega (arith, long)) (λ w. h (suc w)))

module _ {W D S : Type 0} (rules : Rules W) (driver_tells : D → Told rules.State) (store_tells : S → StoreTold) where
  abbrev pub drivers_of : List (RunMachine D S) → List D
  drivers_of machines = map (λ machine. machine.driver) machines

  abbrev pub stores_of : List (RunMachine D S) → List (List S)
  stores_of machines = map (λ machine. store_of machine ∷ []) machines

  -- the workers are those that were handed in
  pub started : (ms : List (RunMachine D S)) (parts : List WorkerPart) (ds : List D) (xs : List (Vec S Global)) (all_d : List D) (all_s : List (List S)) →
      All (IsNew rules driver_tells store_tells) ms → reverse (map (λ machine. machine.part) ms) ≡ parts → ds ≡ [] → Hold ds xs ms all_d all_s →
      map (start_of driver_tells store_tells) (reverse ms) ≡ starts_of parts (map driver_tells all_d) (map (λ shelf. map store_tells shelf) all_s)
  started ms parts ds xs all_d all_s new are none h =
      let drivers : drivers_of (reverse ms) ≡ all_d = map_reverse (λ (m : RunMachine D S). m.driver) ms
      ∙ ap (λ (l : List D). l ++ reverse (drivers_of ms)) (sym none) ∙ h.drivers_are in
      let stores : stores_of (reverse ms) ≡ all_s = map_reverse (λ (m : RunMachine D S). store_of m ∷ []) ms
      ∙ ap (λ (l : List D). shelves (take (length l) xs) ++ reverse (stores_of ms)) (sym none) ∙ h.stores_are in
      let these : map (λ machine. machine.part) (reverse ms) ≡ parts = map_reverse (λ (m : RunMachine D S). m.part) ms ∙ are in
      sym (starts_so rules driver_tells store_tells (reverse ms) (all_reverse (IsNew rules driver_tells store_tells) ms new))
      ∙ ap (λ (ps : List WorkerPart). starts_of ps (map driver_tells (drivers_of (reverse ms))) (map (λ shelf. map store_tells shelf) (stores_of (reverse ms)))) these
      ∙ ap₂ (λ (d : List D) (s : List (List S)). starts_of parts (map driver_tells d) (map (λ shelf. map store_tells shelf) s)) drivers stores

  pub held_total : (ds : List D) (xs : List (Vec S Global)) (ms : List (RunMachine D S)) (all_d : List D) (all_s : List (List S)) → Hold ds xs ms all_d all_s →
      length ds + length ms ≡ length all_d
  held_total ds xs ms all_d all_s h =
      let long : length (ds ++ reverse (drivers_of ms)) ≡ length ds + length (reverse (drivers_of ms)) = length-append ds (reverse (drivers_of ms)) in
      let turned : length (reverse (drivers_of ms)) ≡ length (drivers_of ms) = length-reverse (drivers_of ms) in
      let mapped : length (drivers_of ms) ≡ length ms = length-map ms (λ (m : RunMachine D S). m.driver) in
      let all : length (ds ++ reverse (drivers_of ms)) ≡ length all_d = ap length h.drivers_are in
      omega (arith, long, turned, mapped, all)

  -- ---- the end

  module _ (starts : List (Start rules.State)) (ms : List (RunMachine D S)) (mid drivers : List D) (shelves_mid stores : List (Vec S Global))
      (drivers_so : drivers ≡ mid ++ reverse (drivers_of ms))
      (stores_so : shelves stores ≡ shelves (take (length mid) shelves_mid) ++ reverse (stores_of ms)) (none : mid ≡ []) where
    drivers_end : drivers ≡ drivers_of (reverse ms)
    drivers_end = drivers_so ∙ ap (λ (l : List D). l ++ reverse (drivers_of ms)) none ∙ sym (map_reverse (λ (m : RunMachine D S). m.driver) ms)

    stores_end : shelves stores ≡ stores_of (reverse ms)
    stores_end = stores_so ∙ ap (λ (l : List D). shelves (take (length l) shelves_mid) ++ reverse (stores_of ms)) none
        ∙ sym (map_reverse (λ (m : RunMachine D S). store_of m ∷ []) ms)

    -- what holds of what the machines hold holds of what comes back
    pub back_end : (P : List (Told rules.State) → List (List StoreTold) → Type 0) →
        P (map driver_tells (drivers_of (reverse ms))) (map (λ shelf. map store_tells shelf) (stores_of (reverse ms))) →
        P (map driver_tells drivers) (map (λ shelf. map store_tells shelf) (shelves stores))
    back_end P h =
        subst (λ (d : List D). P (map driver_tells d) (map (λ shelf. map store_tells shelf) (shelves stores))) (sym drivers_end)
        (subst (λ (s : List (List S)). P (map driver_tells (drivers_of (reverse ms))) (map (λ shelf. map store_tells shelf) s)) (sym stores_end) h)

    pub comes_end : (links : QueueState) (result : Option RunFault) → All (CameBy store_tells) ms → EndsAs rules starts (sights driver_tells store_tells (reverse ms)) links result →
        ComesTo starts (map driver_tells drivers) (map (λ shelf. map store_tells shelf) (shelves stores)) result
    comes_end links result came ends =
        subst (λ (d : List D). ComesTo starts (map driver_tells d) (map (λ shelf. map store_tells shelf) (shelves stores)) result) (sym drivers_end)
        (subst (λ (s : List (List S)). ComesTo starts (map driver_tells (drivers_of (reverse ms))) (map (λ shelf. map store_tells shelf) s) result) (sym stores_end)
        (comes_so rules driver_tells store_tells starts (reverse ms) (all_reverse (CameBy store_tells) ms came) links result ends))

    pub answered_end : (links : QueueState) (result : Option RunFault) → All (CameBy store_tells) ms →
        EndsAs rules starts (sights driver_tells store_tells (reverse ms)) links result → result ≡ None → length ms ≡ length starts →
        (plan : MemProgram) → IsMemProgram plan → fault_of plan ≡ None → map (λ (start : Start rules.State). start.part) starts ≡ parts_of plan →
        (states : ℕ → rules.State) → AreStates starts states → AreTold starts →
        RunsAnswered rules plan states starts (map driver_tells drivers) (map (λ shelf. map store_tells shelf) (shelves stores))
    answered_end links result came ends is count plan fine sound parts states are told =
        let e = subst (λ (r : Option RunFault). EndsAs rules starts (sights driver_tells store_tells (reverse ms)) links r) is ends in
        subst (λ (d : List D). RunsAnswered rules plan states starts (map driver_tells d) (map (λ shelf. map store_tells shelf) (shelves stores))) (sym drivers_end)
        (subst (λ (s : List (List S)). RunsAnswered rules plan states starts (map driver_tells (drivers_of (reverse ms))) (map (λ shelf. map store_tells shelf) s)) (sym stores_end)
        (runs_answered rules driver_tells store_tells starts (reverse ms) (all_reverse (CameBy store_tells) ms came) (length-reverse ms ∙ count)
        plan fine sound parts states are told links e.0 e.1 e.2))

    pub stays_end : (links : QueueState) (result : Option RunFault) → All (CameBy store_tells) ms → EndsAs rules starts (sights driver_tells store_tells (reverse ms)) links result →
        AllStay starts (map driver_tells drivers) (map (λ shelf. map store_tells shelf) (shelves stores))
    stays_end links result came ends =
        subst (λ (d : List D). AllStay starts (map driver_tells d) (map (λ shelf. map store_tells shelf) (shelves stores))) (sym drivers_end)
        (subst (λ (s : List (List S)). AllStay starts (map driver_tells (drivers_of (reverse ms))) (map (λ shelf. map store_tells shelf) s)) (sym stores_end)
        (stays_so rules driver_tells store_tells starts (reverse ms) (all_reverse (CameBy store_tells) ms came) links result ends))

    pub joint_end : (links : QueueState) (result : Option RunFault) → All (CameBy store_tells) ms →
        EndsAs rules starts (sights driver_tells store_tells (reverse ms)) links result → result ≡ None → length ms ≡ length starts →
        (plan : MemProgram) → IsMemProgram plan → fault_of plan ≡ None → map (λ (start : Start rules.State). start.part) starts ≡ parts_of plan →
        (states : ℕ → rules.State) → AreStates starts states → AreTold starts →
        RunsJoint rules plan states starts (map driver_tells drivers) (map (λ shelf. map store_tells shelf) (shelves stores))
        ⊎ WasDeceived starts (map driver_tells drivers) (map (λ shelf. map store_tells shelf) (shelves stores))
    joint_end links result came ends is count plan fine sound parts states are told =
        let e = subst (λ (r : Option RunFault). EndsAs rules starts (sights driver_tells store_tells (reverse ms)) links r) is ends in
        back_end (λ ds ss. RunsJoint rules plan states starts ds ss ⊎ WasDeceived starts ds ss)
        (joint_or_deceived rules driver_tells store_tells starts (reverse ms) (all_reverse (CameBy store_tells) ms came) (length-reverse ms ∙ count)
        plan fine sound parts states are told links e.0 e.1 e.2)

    pub begins_answered_end : AreLawful rules → (links : QueueState) (result : Option RunFault) → All (CameBy store_tells) ms →
        EndsAs rules starts (sights driver_tells store_tells (reverse ms)) links result → length ms ≡ length starts →
        (plan : MemProgram) → IsMemProgram plan → fault_of plan ≡ None → map (λ (start : Start rules.State). start.part) starts ≡ parts_of plan →
        (states : ℕ → rules.State) → AreStates starts states → AreTold starts →
        BeginsAnswered rules plan states starts (map driver_tells drivers) (map (λ shelf. map store_tells shelf) (shelves stores)) result
    begins_answered_end lawful links result came ends count plan fine sound parts states are told =
        back_end (λ ds ss. BeginsAnswered rules plan states starts ds ss result)
        (begins_answered rules driver_tells store_tells starts (reverse ms) links result ends (all_reverse (CameBy store_tells) ms came)
        lawful (length-reverse ms ∙ count) plan fine sound parts states are told)

    pub begins_end : AreLawful rules → (links : QueueState) (result : Option RunFault) → All (CameBy store_tells) ms →
        EndsAs rules starts (sights driver_tells store_tells (reverse ms)) links result → length ms ≡ length starts →
        (plan : MemProgram) → IsMemProgram plan → fault_of plan ≡ None → map (λ (start : Start rules.State). start.part) starts ≡ parts_of plan →
        (states : ℕ → rules.State) → AreStates starts states → AreTold starts →
        BeginsJoint rules plan states starts (map driver_tells drivers) (map (λ shelf. map store_tells shelf) (shelves stores)) result
        ⊎ WasDeceived starts (map driver_tells drivers) (map (λ shelf. map store_tells shelf) (shelves stores))
    begins_end lawful links result came ends count plan fine sound parts states are told =
        back_end (λ ds ss. BeginsJoint rules plan states starts ds ss result ⊎ WasDeceived starts ds ss)
        (begins_or_deceived rules driver_tells store_tells starts (reverse ms) links result ends (all_reverse (CameBy store_tells) ms came)
        lawful (length-reverse ms ∙ count) plan fine sound parts states are told)

    pub ones_end : map (λ (shelf : List S). length shelf) (shelves stores) ≡ replicate (length ms) 1
    ones_end = ap (map (λ (shelf : List S). length shelf)) stores_end ∙ ones (λ (m : RunMachine D S). store_of m) (reverse ms)
        ∙ ap (λ n. replicate n 1) (length-reverse ms)

-- the parts of workers that are handed in
pub starts_parts : {S : Type 0} (ps : List WorkerPart) (ds : List (Told S)) (ss : List (List StoreTold)) → length ds ≡ length ps →
    map (λ (shelf : List StoreTold). length shelf) ss ≡ replicate (length ps) 1 → map (λ (start : Start S). start.part) (starts_of ps ds ss) ≡ ps
starts_parts [] ds ss long each = refl
starts_parts (p ∷ ps) [] ss long each = absurd (omega (arith, long))
starts_parts (p ∷ ps) (d ∷ ds) [] long each = absurd cc
starts_parts (p ∷ ps) (d ∷ ds) ([] ∷ ss) long each = absurd (
    let zero_one : ◌≡◌ {A = ℕ} 0 1 = cc in
    omega (arith, zero_one))
starts_parts (p ∷ ps) (d ∷ ds) ((s ∷ rest) ∷ ss) long each =
    ap (λ l. p ∷ l) (starts_parts ps ds ss (omega (arith, long))
    (let tails : map (λ (shelf : List StoreTold). length shelf) ss ≡ replicate (length ps) 1 = cc in tails))

pub told_lengths : {S T : Type 0} (f : S → T) (xs : List (List S)) → map (λ (shelf : List T). length shelf) (map (λ shelf. map f shelf) xs) ≡ map (λ (shelf : List S). length shelf) xs
told_lengths f [] = refl
told_lengths f (x ∷ xs) = ap₂ (λ (n : ℕ) (l : List ℕ). n ∷ l) (length-map x f) (told_lengths f xs)

-- by whether there was no memory
pub by_memory : (P : Type 0) (result : Option RunFault) → (result ≡ Some fault.Memory → P) → ((result ≡ Some fault.Memory → ⊥) → P) → P
by_memory P None yes' other = other (λ e. absurd cc)
by_memory P (Some fault.Memory) yes' other = yes' refl
by_memory P (Some (fault.Store worker)) yes' other = other (λ e. absurd cc)
by_memory P (Some (fault.Driver worker f)) yes' other = other (λ e. absurd cc)
by_memory P (Some (fault.Damaged worker damage)) yes' other = other (λ e. absurd cc)
