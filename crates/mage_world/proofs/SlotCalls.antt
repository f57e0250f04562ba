-- What the calls on a slot leave.
use Rattle.std.proofs.Common.{◌≡◌, ◌<◌, ℕ, zero, suc, true, List, [], ◌∷◌, length, get_or, set, refl, sym, ap, ◌∙◌, subst, arith}
use Rattle.std.specs.Prelude.{Vec}
use Rattle.std.specs.Global.{Global}
use Rattle.std.specs.Vec.{with_items}
use Rattle.std.proofs.lemmas.List.{with_items_is, map-set}
use Rattle.mage_bank.specs.Bank.{contents, bank_of, lengths_of, AreOf}
use Rattle.mage_bank.proofs.Banking.{bank_here, bank_put, lengths_put, count_of}
use Rattle.mage_bank.proofs.Fitting.{frame_long}
use Rattle.mage_network.specs.Network.{put}
use Rattle.mage_network.specs.Slots as net
use Rattle.mage_world.specs.declared.slot.Slot.{Slot}
use Rattle.mage_world.specs.declared.slot.Transfer.{Transfer}
use Rattle.mage_world.specs.declared.slot.Transfer.TheVariants as goes
use Rattle.mage_world.specs.declared.slot.Work.{Work}
use Rattle.mage_world.specs.declared.slot.Work.TheVariants as work
use Rattle.mage_world.specs.Slots.{transfer_of, slot_with, slot_of, in_slots, page_at, AreWithin, Within, Becomes, Begins, Claims, Serves, EndsRead, EndsWrite}
use Rattle.mage_world.proofs.SlotLemmas.{put_set, slot_here, becomes, named_set, named_at, with_work}

-- bytes that were written over as many
pub written : (v : Vec ℕ Global) (bytes : List ℕ) → length bytes ≡ length v.items → (with_items v bytes).items ≡ bytes
written v bytes same =
    let long : length bytes ≡ v.len = omega (arith, same, v.ok.0) in
    with_items_is v bytes long

module _ (slots : List Slot) (i f : ℕ) (at : i ≡ f) (inside : f < length slots) (old : Slot) (here : old ≡ get_or slots i old) where
  pub in_here : i < length slots
  in_here = subst (λ k. k < length slots) (sym at) inside

  pub was : in_slots slots f ≡ slot_of old
  was = subst (λ k. in_slots slots k ≡ slot_of old) at (slot_here slots i old in_here here)

  pub was_with : (w : Work) → old.work ≡ w → in_slots slots f ≡ slot_with w old.bytes.items
  was_with w is = was ∙ with_work w old is

  pub is_now : (slot : Slot) → length slot.bytes.items ≡ length old.bytes.items → Becomes slots (set slots i slot) f (slot_of slot)
  is_now slot same = subst (λ k. Becomes slots (set slots i slot) k (slot_of slot)) at (becomes slots i old slot in_here here same)

  pub now_with : (slot : Slot) (now : net.Slot (List ℕ)) → slot_of slot ≡ now → length slot.bytes.items ≡ length old.bytes.items →
      Becomes slots (set slots i slot) f now
  now_with slot now is same = subst (λ (n : net.Slot (List ℕ)). Becomes slots (set slots i slot) f n) is (is_now slot same)

  pub begun_read : (page : ℕ) → old.work ≡ work.Idle →
      Begins slots (set slots i (record { work = work.Asked (goes.Read page); bytes = old.bytes })) f (net.Reads page) true
  begun_read page idle = (was_with work.Idle idle, is_now (record { work = work.Asked (goes.Read page); bytes = old.bytes }) refl)

  pub begun_write : (page : ℕ) (bytes : List ℕ) (now : Vec ℕ Global) → old.work ≡ work.Idle → now.items ≡ bytes → length bytes ≡ length old.bytes.items →
      Begins slots (set slots i (record { work = work.Asked (goes.Write page); bytes = now })) f (net.Writes page bytes) true
  begun_write page bytes now idle are same = (
    was_with work.Idle idle,
    now_with (record { work = work.Asked (goes.Write page); bytes = now }) (net.Asked (net.Writes page bytes))
        (ap (λ b. net.Asked (net.Writes page b)) are) (ap (λ l. length l) are ∙ same),
  )

  pub claimed : (t : Transfer) → old.work ≡ work.Asked t →
      Claims slots (set slots i (record { work = work.Busy t; bytes = old.bytes })) f true
  claimed t is = (transfer_of t old.bytes.items, was_with (work.Asked t) is, is_now (record { work = work.Busy t; bytes = old.bytes }) refl)

  -- a read: the page's bytes, as many as the slot has room for
  pub served_read : (page : ℕ) (bytes : List ℕ) (now : Vec ℕ Global) (pages : List (List ℕ)) → old.work ≡ work.Busy (goes.Read page) →
      now.items ≡ bytes → length bytes ≡ length old.bytes.items → ((empty : List ℕ) → page_at empty pages page ≡ bytes) →
      Serves slots (set slots i (record { work = work.Served (goes.Read page); bytes = now })) f pages pages true
  served_read page bytes now pages busy are same page_is = (
    net.Reads page,
    was_with (work.Busy (goes.Read page)) busy,
    (λ empty. (
      now_with (record { work = work.Served (goes.Read page); bytes = now }) (net.Served (net.Reads page) (page_at empty pages page))
          (ap (λ b. net.Served (net.Reads page) b) (are ∙ sym (page_is empty))) (ap (λ l. length l) are ∙ same),
      refl,
    )),
    refl,
  )

  pub served_write : (page : ℕ) (pages after : List (List ℕ)) → old.work ≡ work.Busy (goes.Write page) →
      ((empty : List ℕ) → page_at empty after ≡ put (page_at empty pages) page old.bytes.items) → lengths_of after ≡ lengths_of pages →
      Serves slots (set slots i (record { work = work.Served (goes.Write page); bytes = old.bytes })) f pages after true
  served_write page pages after busy are lengths = (
    net.Writes page old.bytes.items,
    was_with (work.Busy (goes.Write page)) busy,
    (λ empty. (is_now (record { work = work.Served (goes.Write page); bytes = old.bytes }) refl, are empty)),
    lengths,
  )

  pub ended_read : (page frame : ℕ) (before after : List (List ℕ)) → old.work ≡ work.Served (goes.Read page) →
      bank_of after ≡ put (bank_of before) frame old.bytes.items → lengths_of after ≡ lengths_of before →
      EndsRead slots (set slots i (record { work = work.Idle; bytes = old.bytes })) f before after frame true
  ended_read page frame before after served are lengths = (
    page,
    old.bytes.items,
    was_with (work.Served (goes.Read page)) served,
    is_now (record { work = work.Idle; bytes = old.bytes }) refl,
    are,
    lengths,
  )

  pub ended_write : (page : ℕ) → old.work ≡ work.Served (goes.Write page) →
      EndsWrite slots (set slots i (record { work = work.Idle; bytes = old.bytes })) f true
  ended_write page served = (
    page,
    old.bytes.items,
    old.bytes.items,
    was_with (work.Served (goes.Write page)) served,
    is_now (record { work = work.Idle; bytes = old.bytes }) refl,
  )

  -- the pages that slots name
  pub within_now : (pages : ℕ) (slot : Slot) → Within pages slot.work → AreWithin pages slots → AreWithin pages (set slots i slot)
  within_now pages slot is all = named_set pages slots i slot all is

  pub within_was : (pages : ℕ) (w : Work) → old.work ≡ w → AreWithin pages slots → Within pages w
  within_was pages w is all = subst (Within pages) is (named_at pages slots i old all in_here here)

-- a page of some, and one that is written over
module _ (pages : List (Vec ℕ Global)) (i f : ℕ) (at : i ≡ f) (inside : f < length pages) (old : Vec ℕ Global) (here : old ≡ get_or pages i old) where
  page_in : i < length (contents pages)
  page_in =
      let n = count_of pages in
      let below : i < length pages = subst (λ k. k < length pages) (sym at) inside in
      omega (arith, n, below)

  held : (empty : List ℕ) (ps : List (Vec ℕ Global)) (k : ℕ) → k < length ps → old ≡ get_or ps k old → page_at empty (contents ps) k ≡ old.items
  held empty [] k below is = absurd (omega arith)
  held empty (p ∷ ps) zero below is = ap (λ (v : Vec ℕ Global). v.items) (sym is)
  held empty (p ∷ ps) (suc k) below is = held empty ps k (omega arith) is

  pub page_is : (empty : List ℕ) → page_at empty (contents pages) f ≡ old.items
  page_is empty = subst (λ k. page_at empty (contents pages) k ≡ old.items) at (held empty pages i (subst (λ k. k < length pages) (sym at) inside) here)

  pub page_put : (now : Vec ℕ Global) (empty : List ℕ) → page_at empty (contents (set pages i now)) ≡ put (page_at empty (contents pages)) f now.items
  page_put now empty = subst (λ k. page_at empty (contents (set pages i now)) ≡ put (page_at empty (contents pages)) k now.items) at
      (ap (λ (l : List (List ℕ)). λ (k : ℕ). get_or l k empty) (map-set (λ (v : Vec ℕ Global). v.items) pages i now)
      ∙ put_set (contents pages) i now.items empty page_in)

  pub page_lengths : (now : Vec ℕ Global) → length now.items ≡ length old.items → lengths_of (contents (set pages i now)) ≡ lengths_of (contents pages)
  page_lengths now same = lengths_put pages i old now here same

  pub frame_put : (now : Vec ℕ Global) → length now.items ≡ length old.items → bank_of (contents (set pages i now)) ≡ put (bank_of (contents pages)) f now.items
  frame_put now same = subst (λ k. bank_of (contents (set pages i now)) ≡ put (bank_of (contents pages)) k now.items) at
      (bank_put pages i old now (subst (λ k. k < length pages) (sym at) inside) here same)

  pub frame_is : bank_of (contents pages) f ≡ old.items
  frame_is = subst (λ k. bank_of (contents pages) k ≡ old.items) at (bank_here pages i old (subst (λ k. k < length pages) (sym at) inside) here)

-- how long each page is
pub long_page : (pages : List (Vec ℕ Global)) (bytes : ℕ) → AreOf (length pages) bytes (contents pages) → (i : ℕ) (page : Vec ℕ Global) →
    i < length pages → page ≡ get_or pages i page → length page.items ≡ bytes
long_page pages bytes are i page inside here =
    ap (λ (l : List ℕ). length l) (sym (bank_here pages i page inside here)) ∙ frame_long (length pages) bytes i (contents pages) are inside

-- what was lent as a slice came back
pub back_again : {X : Type 0} (v : Vec X Global) (new : List X) → length new ≡ length v.items → (with_items v new).items ≡ new
back_again v new same =
    let long : length new ≡ v.len = omega (arith, same, v.ok.0) in
    with_items_is v new long
