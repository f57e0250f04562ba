-- What taking a wire comes to, where a link was read and is written again.
use Rattle.std.proofs.Common.{◌≡◌, ◌∙◌, sym, refl, ap, subst, ℕ, List, [], ◌∷◌, ◌++◌, drop, get_or, Some, None}
use Rattle.std.specs.Prelude.{Vec, slice_get}
use Rattle.std.specs.Vec.{with_item}
use Rattle.std.specs.declared.alloc.Global.{Global}
use Rattle.circular_buffer.specs.Buffer.{Buffer, buffer}
use Rattle.mage_link.specs.declared.wire.Wire16.{Wire16}
use Rattle.mage_history.specs.declared.wire_history.WireHistory.{WireHistory}
use Rattle.mage_link.specs.declared.link.Link.{Link}
use Rattle.mage_link.specs.Queues.{with_place}
use Rattle.mage_link.specs.Rows.{rows_of, new_link, link_in, HasLink, link_popped, Pops}
use Rattle.mage_link.proofs.PlaceLemmas.{with_place-same}
use Rattle.mage_link.proofs.RowLemmas.{link_at-is, rows-written}

first_of : {X : Type 0} (xs : List X) (x : X) → Some x ≡ slice_get xs 0 → xs ≡ x ∷ drop 1 xs
first_of [] x is = cc
first_of (y ∷ xs) x is =
    let same : y ≡ x = cc is in
    ap (λ z. z ∷ xs) same

none_of : {X : Type 0} (xs : List X) → None ≡ slice_get xs 0 → xs ≡ []
none_of [] is = refl
none_of (y ∷ xs) is = cc

-- a link whose queue and history are these
popped : (link : Link) (queue : Buffer Wire16) (received : WireHistory) (wire : Wire16) →
    queue ≡ buffer (drop 1 link.queue.items) link.queue.capacity →
    received.wires ≡ link.received.wires ++ wire.bytes ∷ [] →
    record { queue = queue; received = received }
    ≡ link_popped link wire (drop 1 link.queue.items)
popped link queue received wire queue_is wires_are =
    ap (λ (q : Buffer Wire16). record { queue = q; received = received }) queue_is
    ∙ ap (λ (wires : List (List ℕ)). record (link_popped link wire (drop 1 link.queue.items)) {
      received = record { marker = record {}; wires = wires };
    }) wires_are

module _ (links : Vec (Vec Link Global) Global) (row : Vec Link Global) (link : Link) (s t : ℕ)
    (has : HasLink (rows_of links) s t) (row_is : row ≡ get_or links.items s row)
    (link_is : link ≡ get_or row.items t link) where
  abbrev written : Buffer Wire16 → WireHistory → List (List Link)
  written queue received = rows_of (with_item links s (with_item row t (record {
    queue = queue;
    received = received;
  })))

  there : link ≡ link_in (rows_of links) s t
  there = link_at-is links row link s t has row_is link_is

  pub pops_some : (queue : Buffer Wire16) (received : WireHistory) (wire : Wire16) →
      Some wire ≡ slice_get link.queue.items 0 →
      queue ≡ buffer (drop 1 link.queue.items) link.queue.capacity →
      received.wires ≡ link.received.wires ++ wire.bytes ∷ [] →
      Pops (rows_of links) (written queue received) s t (Some wire)
  pops_some queue received wire first queue_is wires_are =
      let same = rows-written links row (record { queue = queue; received = received }) s t has
      row_is
      ∙ ap (with_place (rows_of links) s t) (popped link queue received wire queue_is wires_are) in
      subst (λ (l : Link). (left : List Wire16) × (l.queue.items ≡ wire ∷ left)
      × (written queue received ≡ with_place (rows_of links) s t (link_popped l wire left))) there
      (drop 1 link.queue.items, first_of link.queue.items wire first, same)

  pub pops_none : (queue : Buffer Wire16) → None ≡ slice_get link.queue.items 0 →
      queue ≡ buffer (drop 1 link.queue.items) link.queue.capacity →
      Pops (rows_of links) (written queue link.received) s t None
  pops_none queue first queue_is =
      let empty = none_of link.queue.items first in
      let queue_same : queue ≡ link.queue = queue_is
      ∙ ap (λ xs. buffer (drop 1 xs) link.queue.capacity) empty
      ∙ ap (λ xs. buffer xs link.queue.capacity) (sym empty) in (
        ap (λ (l : Link). l.queue.items) (sym there) ∙ empty,
        rows-written links row (record { queue = queue; received = link.received }) s t has row_is
            ∙ ap (λ (q : Buffer Wire16). with_place (rows_of links) s t (record { queue = q; received = link.received })) queue_same
            ∙ ap (with_place (rows_of links) s t) there
            ∙ with_place-same (new_link 0) (rows_of links) s t,
      )
