-- Whether each answer of a run's stores was what was last written, or some other bytes with the same digest.
use Rattle.std.proofs.Common.{◌≡◌, ◌≢◌, ◌≤◌, ◌<◌, ◌+◌, ◌==◌, ◌⊎◌, ◌++◌, inl, inr, ℕ, zero, suc, Bool, true, false, cond, List, [], ◌∷◌, Option, None, Some, slice_get, nat_eq, refl, sym, ap, ap₂, ◌∙◌, subst, arith}
use Rattle.std.specs.Prelude.{IsSome, is_some}
use Rattle.std.specs.List.{All}
use Rattle.std.specs.Option.{option_map}
use Rattle.std.proofs.lemmas.Bool.{eqb-true, eqb-false, cases_lt}
use Rattle.mage_base.specs.Store.{StoreTold, Pages, Transfer, Wrote, Answered}
use Rattle.sha2.specs.Sha256.{sha256}
use Rattle.mage_driver.specs.Rules.{Rules}
use Rattle.mage_driver.specs.Calls.{Told}
use Rattle.mage_link.specs.Queues.{QueueState}
use Rattle.mage_network.specs.Pasts.{IsPrefix}
use Rattle.mage_port.specs.Port.{Transfers, SlotState, Idle, AskedRead, AskedWrite, HasFailed, IsDamaged, slot_state, last_written_after}
use Rattle.mage_store.specs.SerialPort.{transfers_of}
use Rattle.mage_store.specs.SealedPort.{AreSealed, AreSealedAfter, is_damaged_at}
use Rattle.mage_core.specs.Ports.{RunMachine, port_tells, store_of, CameBy}
use Rattle.mage_core.specs.Turns.{sights}
use Rattle.mage_core.specs.Going.{Start, HasGone, AllGo, is_sound}
use Rattle.mage_core.specs.Paging.{AreRightAfter, AllRight}
use Rattle.mage_core.specs.Joined.{IsForged, WasDeceived}
use Rattle.mage_core.proofs.Starting.{if_found, map_get, all_get}
use Rattle.mage_core.proofs.Ending.{handed_so}
use Rattle.mage_core.proofs.Whole.{sight, drivers_in, stores_in, driver_at, store_at}

-- ---- lists of numbers

same_list : (xs ys : List ℕ) → (xs ≡ ys) ⊎ (xs ≢ ys)
same_list [] [] = inl refl
same_list [] (y ∷ ys) = inr (λ e. absurd cc)
same_list (x ∷ xs) [] = inr (λ e. absurd cc)
same_list (x ∷ xs) (y ∷ ys) = go (nat_eq x y) refl (same_list xs ys)
  where
    head_same : x ∷ xs ≡ y ∷ ys → x ≡ y
    head_same e = cc

    tail_same : x ∷ xs ≡ y ∷ ys → xs ≡ ys
    tail_same e = cc

    go : (b : Bool) → nat_eq x y ≡ b → (xs ≡ ys) ⊎ (xs ≢ ys) → (x ∷ xs ≡ y ∷ ys) ⊎ (x ∷ xs ≢ y ∷ ys)
    go true e (inl h) = inl (ap₂ (λ (z : ℕ) (zs : List ℕ). z ∷ zs) (eqb-true x y e) h)
    go true e (inr h) = inr (λ same. h (tail_same same))
    go false e h = inr (λ same. eqb-false x y e (head_same same))

-- ---- the transfers of a page

-- one of them is a read that was answered with other bytes than were last written
pub record IsWrong (written : List ℕ) (transfers : List Transfer) : Type 0 where
  pub before : List Transfer
  pub after : List Transfer
  pub page : ℕ
  pub bytes : List ℕ
  pub is : transfers ≡ before ++ Answered page bytes ∷ after
  pub other : bytes ≢ last_written_after written before

decide : (written : List ℕ) (xs : List Transfer) → AreRightAfter written xs ⊎ IsWrong written xs
decide written [] = inl tt
decide written (Wrote page bytes ∷ xs) = go (decide bytes xs)
  where
    go : AreRightAfter bytes xs ⊎ IsWrong bytes xs → AreRightAfter bytes xs ⊎ IsWrong written (Wrote page bytes ∷ xs)
    go (inl h) = inl h
    go (inr w) = inr (record {
      before = Wrote page bytes ∷ w.before;
      after = w.after;
      page = w.page;
      bytes = w.bytes;
      is = ap (λ (l : List Transfer). Wrote page bytes ∷ l) w.is;
      other = w.other;
    })
decide written (Answered page bytes ∷ xs) = go (same_list bytes written) (decide written xs)
  where
    go : (bytes ≡ written) ⊎ (bytes ≢ written) → AreRightAfter written xs ⊎ IsWrong written xs →
        AreRightAfter written (Answered page bytes ∷ xs) ⊎ IsWrong written (Answered page bytes ∷ xs)
    go (inl e) (inl h) = inl (e, h)
    go (inl e) (inr w) = inr (record {
      before = Answered page bytes ∷ w.before;
      after = w.after;
      page = w.page;
      bytes = w.bytes;
      is = ap (λ (l : List Transfer). Answered page bytes ∷ l) w.is;
      other = w.other;
    })
    go (inr ne) h = inr (record { before = []; after = xs; page = page; bytes = bytes; is = refl; other = ne })

-- where all are right, none is wrong
pub never_wrong : (written : List ℕ) (before after : List Transfer) (page : ℕ) (bytes : List ℕ) → AreRightAfter written (before ++ Answered page bytes ∷ after) →
    bytes ≡ last_written_after written before
never_wrong written [] after page bytes h = h.0
never_wrong written (Wrote p b ∷ before) after page bytes h = never_wrong b before after page bytes h
never_wrong written (Answered p b ∷ before) after page bytes h = never_wrong written before after page bytes h.1

-- where all are sealed, one that is wrong has the same digest
pub sealed_there : (written : List ℕ) (before after : List Transfer) (page : ℕ) (bytes : List ℕ) → AreSealedAfter written (before ++ Answered page bytes ∷ after) →
    sha256 bytes ≡ sha256 (last_written_after written before)
sealed_there written [] after page bytes h = h.0
sealed_there written (Wrote p b ∷ before) after page bytes h = sealed_there b before after page bytes h
sealed_there written (Answered p b ∷ before) after page bytes h = sealed_there written before after page bytes h.1

forged_so : (xs : List Transfer) → AreSealed xs → IsWrong [] xs → IsForged xs
forged_so xs sealed w = record {
  before = w.before;
  after = w.after;
  page = w.page;
  bytes = w.bytes;
  is = w.is;
  other = w.other;
  same = sealed_there [] w.before w.after w.page w.bytes (subst AreSealed w.is sealed);
}

-- ---- the transfers of all pages

-- the transfers are of pages below this number
abbrev bound : List Transfer → ℕ
bound [] = 0
bound (Wrote page bytes ∷ made) = suc page + bound made
bound (Answered page bytes ∷ made) = suc page + bound made

off_page : (p page : ℕ) (rest : ℕ) → suc page + rest ≤ p → (p == page) ≡ false
off_page p page rest past = go (p == page) refl
  where
    go : (b : Bool) → (p == page) ≡ b → (p == page) ≡ false
    go true e = absurd (let same : p ≡ page = eqb-true p page e in omega (arith, past, same))
    go false e = e

none_past : (made : List Transfer) (p : ℕ) → bound made ≤ p → transfers_of made p ≡ []
none_past [] p past = refl
none_past (Wrote page bytes ∷ made) p past =
    ap (λ b. cond b (Wrote page bytes ∷ transfers_of made p) (transfers_of made p)) (off_page p page (bound made) past) ∙ none_past made p (omega (arith, past))
none_past (Answered page bytes ∷ made) p past =
    ap (λ b. cond b (Answered page bytes ∷ transfers_of made p) (transfers_of made p)) (off_page p page (bound made) past) ∙ none_past made p (omega (arith, past))

-- some page has a wrong answer among these transfers
pub record SomeWrong (lists : Transfers) : Type 0 where
  pub page : ℕ
  pub wrong : IsWrong [] (lists page)

decide_below : (lists : Transfers) (count : ℕ) → ((p : ℕ) → p < count → AreRightAfter [] (lists p)) ⊎ SomeWrong lists
decide_below lists zero = inl (λ p less. absurd (omega (arith, less)))
decide_below lists (suc count) = go (decide_below lists count) (decide [] (lists count))
  where
    go : ((p : ℕ) → p < count → AreRightAfter [] (lists p)) ⊎ SomeWrong lists → AreRightAfter [] (lists count) ⊎ IsWrong [] (lists count) →
        ((p : ℕ) → p < suc count → AreRightAfter [] (lists p)) ⊎ SomeWrong lists
    go (inr w) h = inr w
    go (inl below) (inr w) = inr (record { page = count; wrong = w })
    go (inl below) (inl here) = inl (λ p less. at p less (p == count) refl)
      where
        at : (p : ℕ) → p < suc count → (b : Bool) → (p == count) ≡ b → AreRightAfter [] (lists p)
        at p less true e = subst (λ k. AreRightAfter [] (lists k)) (sym (eqb-true p count e)) here
        at p less false e = below p (let apart : p ≡ count → ⊥ = eqb-false p count e in omega (arith, less, apart))

-- where there are none past some page
decide_lists : (lists : Transfers) (count : ℕ) → ((p : ℕ) → count ≤ p → lists p ≡ []) → AllRight lists ⊎ SomeWrong lists
decide_lists lists count none = go (decide_below lists count)
  where
    go : ((p : ℕ) → p < count → AreRightAfter [] (lists p)) ⊎ SomeWrong lists → AllRight lists ⊎ SomeWrong lists
    go (inr w) = inr w
    go (inl below) = inl (λ p. elim (cases_lt p count) [
      | inl less ↦ below p less
      | inr past ↦ subst (λ (xs : List Transfer). AreRightAfter [] xs) (sym (none p past)) tt
    ])

decide_all : (made : List Transfer) → AllRight (transfers_of made) ⊎ SomeWrong (transfers_of made)
decide_all made = decide_lists (transfers_of made) (bound made) (none_past made)

none_before : (xs ys : List Transfer) → IsPrefix xs ys → ys ≡ [] → xs ≡ []
none_before [] ys begins e = refl
none_before (x ∷ xs) ys begins e = absurd (let never : x ∷ (xs ++ begins.0) ≡ [] = begins.1 ∙ e in cc)

-- of the first of these
pub decide_first : (made : List Transfer) (lists : Transfers) → ((p : ℕ) → IsPrefix (lists p) (transfers_of made p)) → AllRight lists ⊎ SomeWrong lists
decide_first made lists begins = decide_lists lists (bound made) (λ p past. none_before (lists p) (transfers_of made p) (begins p) (none_past made p past))

-- ---- all machines

-- some machine's store answered wrong
pub record SomeDeceived {D S : Type 0} (machines : List (RunMachine D S)) : Type 0 where
  pub worker : ℕ
  pub machine : RunMachine D S
  pub at : slice_get machines worker ≡ Some machine
  pub wrong : SomeWrong (transfers_of machine.port.port.made)

none_there : {X : Type 0} (w : ℕ) (x : X) → slice_get [] w ≡ Some x → ⊥
none_there zero x e = cc
none_there (suc w) x e = cc

pub decide_machines : {D S : Type 0} (machines : List (RunMachine D S)) →
    ((w : ℕ) (m : RunMachine D S) → slice_get machines w ≡ Some m → AllRight (transfers_of m.port.port.made)) ⊎ SomeDeceived machines
decide_machines {D} {S} [] = inl (λ w m e. absurd (none_there w m e))
decide_machines {D} {S} (machine ∷ machines) = go (decide_all machine.port.port.made) (decide_machines machines)
  where
    go : AllRight (transfers_of machine.port.port.made) ⊎ SomeWrong (transfers_of machine.port.port.made) →
        ((w : ℕ) (m : RunMachine D S) → slice_get machines w ≡ Some m → AllRight (transfers_of m.port.port.made)) ⊎ SomeDeceived machines →
        ((w : ℕ) (m : RunMachine D S) → slice_get (machine ∷ machines) w ≡ Some m → AllRight (transfers_of m.port.port.made)) ⊎ SomeDeceived (machine ∷ machines)
    go (inr w) others = inr (record { worker = 0; machine = machine; at = refl; wrong = w })
    go (inl here) (inr d) = inr (record { worker = suc d.worker; machine = d.machine; at = d.at; wrong = d.wrong })
    go (inl here) (inl others) = inl at
      where
        at : (w : ℕ) (m : RunMachine D S) → slice_get (machine ∷ machines) w ≡ Some m → AllRight (transfers_of m.port.port.made)
        at zero m e = let same : machine ≡ m = cc in subst (λ (x : RunMachine D S). AllRight (transfers_of x.port.port.made)) same here
        at (suc w) m e = others w m e

pub undamaged : (page : ℕ) (state : SlotState) → is_sound state ≡ true → is_damaged_at page state ≡ false
undamaged page Idle s = refl
undamaged page (AskedRead asked) s = refl
undamaged page (AskedWrite asked bytes) s = refl
undamaged page (HasFailed asked) s = refl
undamaged page (IsDamaged damage) s = absurd cc

pub untold_so : (o p : Option Pages) → is_some p ≡ is_some o → (IsSome p → ⊥) → o ≡ None
untold_so None p e never = refl
untold_so (Some told) p e never = absurd (never e)

module _ {W D S : Type 0} (rules : Rules W) (driver_tells : D → Told rules.State) (store_tells : S → StoreTold)
    (starts : List (Start rules.State)) (machines : List (RunMachine D S)) (came : All (CameBy store_tells) machines) (links : QueueState)
    (all : AllGo rules starts (sights driver_tells store_tells machines) links) where
  -- a store that answered wrong
  pub deceived_so : SomeDeceived machines → WasDeceived starts (drivers_in rules driver_tells store_tells machines) (stores_in rules driver_tells store_tells machines)
  deceived_so d =
      let m = d.machine in
      let w = d.wrong in
      let gone = if_found (HasGone rules starts d.worker links) (slice_get (sights driver_tells store_tells machines) d.worker) (sight rules driver_tells store_tells m)
      (map_get (sight rules driver_tells store_tells) machines d.worker m d.at) (all d.worker) in
      let c = all_get (CameBy store_tells) machines d.worker m came d.at in
      let first = handed_so rules driver_tells store_tells gone.start m gone.going.handed in
      record {
        worker = d.worker;
        back = record {
          start = gone.start;
          driver = driver_tells m.driver;
          store = store_tells (store_of m);
          starts_so = gone.from;
          driver_so = driver_at rules driver_tells store_tells machines d.worker m d.at;
          store_so = store_at rules driver_tells store_tells machines d.worker m d.at;
        };
        untold = untold_so gone.start.store.pages (store_tells (store_of m)).pages gone.going.store.pages
            (λ told. w.wrong.other (never_wrong [] w.wrong.before w.wrong.after w.wrong.page w.wrong.bytes
            (subst (λ (xs : List Transfer). AreRightAfter [] xs) w.wrong.is (gone.going.keeps.right told w.page))));
        made = m.port.port.made;
        gained = c.came.log ∙ ap (λ (s : StoreTold). option_map (λ earlier. earlier ++ m.port.port.made) s.log) first;
        page = w.page;
        forged = forged_so (transfers_of m.port.port.made w.page)
            (c.over.sealed w.page (λ slot. undamaged w.page (slot_state (port_tells store_tells m.port) slot) (gone.going.slots slot))) w.wrong;
      }
