-- On own runs, whose transfers are served at once, each slot is idle or served.
use Rattle.std.proofs.Common.{◌≡◌, ℕ, Bool, true, false, cond, List, [], ◌∷◌, refl, subst, nat_eq}
use Rattle.mage_network.specs.Workers.{Act, Moves, Sends, Takes, Stops, Deed}
use Rattle.mage_network.specs.Pasts.{Allows, Leads}
use Rattle.mage_network.specs.Network.{put}
use Rattle.mage_network.specs.Slots.{Transfer, Reads, Writes, Slot, Idle, Asked, Busy, Served, Paged, Doing, Acts, Asks, Finishes_read, Finishes_write, act_of, asks_of, finishes_read, finishes_write, act_in, or_stops, served_at_once, bytes_of, at_once}
use Rattle.mage_network.proofs.Orders.{stops_allows}
use Rattle.mage_steps.proofs.Deeds.{moved, sent, taken}

abbrev pub is_settled : {B : Type 0} → Slot B → Bool
is_settled Idle = true
is_settled (Asked transfer) = false
is_settled (Busy transfer) = false
is_settled (Served transfer bytes) = true

abbrev pub AreSettled : {Eng B : Type 0} → Paged Eng B → Type 0
AreSettled worker = (slot : ℕ) → is_settled (worker.slots slot) ≡ true

put_settled : {B : Type 0} (slots : ℕ → Slot B) (slot : ℕ) (word : Slot B) → is_settled word ≡ true →
    ((i : ℕ) → is_settled (slots i) ≡ true) → (i : ℕ) → is_settled (put slots slot word i) ≡ true
put_settled slots slot word one each i = go (nat_eq slot i)
  where
    go : (b : Bool) → is_settled (cond b word (slots i)) ≡ true
    go true = one
    go false = each i

module _ {Eng L W B : Type 0} where
  act_settles : (act : Act Eng L W) (before after : Paged Eng B) (deed : Deed L W) → AreSettled before →
      Allows (act_of act before) deed after → AreSettled after
  act_settles (Moves said engine) before after deed are h = subst AreSettled (moved _ _ after deed h) are
  act_settles (Sends target wire engine) before after deed are h = subst AreSettled (sent _ _ _ after deed h) are
  act_settles (Takes source engine) before after deed are h =
      let t = taken _ _ after deed h in subst AreSettled t.1 are
  act_settles Stops before after deed are h = absurd (stops_allows deed after h)

  asks_settles : (before after : Paged Eng B) (slot : ℕ) (transfer : Transfer B) (engine : Eng) (word : Slot B)
      (deed : Deed L W) → AreSettled before →
      Allows (or_stops (asks_of word (served_at_once slot transfer engine before))) deed after → AreSettled after
  asks_settles before after slot transfer engine Idle deed are h =
      subst AreSettled (moved _ _ after deed h)
      (put_settled before.slots slot (Served transfer (bytes_of transfer before.pages)) refl are)
  asks_settles before after slot transfer engine _ deed are h = absurd (stops_allows deed after h)

  reads_settles : (before after : Paged Eng B) (slot : ℕ) (to : B → Eng) (word : Slot B)
      (deed : Deed L W) → AreSettled before →
      Allows (or_stops (finishes_read word slot to before)) deed after → AreSettled after
  reads_settles before after slot to (Served (Reads page) bytes) deed are h =
      subst AreSettled (moved _ _ after deed h) (put_settled before.slots slot Idle refl are)
  reads_settles before after slot to _ deed are h = absurd (stops_allows deed after h)

  writes_settles : (before after : Paged Eng B) (slot : ℕ) (to : Eng) (word : Slot B)
      (deed : Deed L W) → AreSettled before →
      Allows (or_stops (finishes_write word slot to before)) deed after → AreSettled after
  writes_settles before after slot to (Served (Writes page sent) same) deed are h =
      subst AreSettled (moved _ _ after deed h) (put_settled before.slots slot Idle refl are)
  writes_settles before after slot to _ deed are h = absurd (stops_allows deed after h)

  doing_settles : (doing : Doing Eng L W B) (before after : Paged Eng B) (deed : Deed L W) → AreSettled before →
      Allows (or_stops (act_in served_at_once doing before)) deed after → AreSettled after
  doing_settles (Acts act) before after deed are h = act_settles act before after deed are h
  doing_settles (Asks slot transfer engine) before after deed are h =
      asks_settles before after slot transfer engine (before.slots slot) deed are h
  doing_settles (Finishes_read slot to) before after deed are h =
      reads_settles before after slot to (before.slots slot) deed are h
  doing_settles (Finishes_write slot to) before after deed are h =
      writes_settles before after slot to (before.slots slot) deed are h

  pub run_settles : (engine : ℕ → Eng → Doing Eng L W B) (n : ℕ) (start : Paged Eng B) (past : List (Deed L W))
      (worker : Paged Eng B) → AreSettled start → Leads (at_once engine n) start past worker → AreSettled worker
  run_settles engine n start [] worker are leads = subst AreSettled leads are
  run_settles engine n start (deed ∷ past) worker are leads =
      doing_settles (engine n leads.0.engine) leads.0 worker deed
      (run_settles engine n start past leads.0 are leads.1) leads.2
