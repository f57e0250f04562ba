-- What a clause sees of the queues after a call, and what they tell.
use Rattle.std.proofs.Common.{◌≡◌, ◌<◌, ◌≤◌, ◌∙◌, ap, sym, subst, ℕ, List, [], ◌∷◌, length, map, get_or, arith}
use Rattle.std.specs.List.{All}
use Rattle.std.proofs.lemmas.List.{length-map}
use Rattle.std.proofs.lemmas.List.Elements.{All-get_or}
use Rattle.mage_link.specs.declared.wire.Wire16.{Wire16}
use Rattle.mage_link.specs.declared.link.Link.{Link}
use Rattle.mage_link.specs.Links.{after_send, after_receive}
use Rattle.mage_link.specs.Queues.{LinkState, QueueState, with_place, lies_in, HasPlace, queue_told, queues_with, queues_without}
use Rattle.mage_link.specs.Rows.{state_of, states_of, queues_of, new_link, link_in, HasLink, HasRoom, AreLinks, link_pushed, link_popped}
use Rattle.mage_link.proofs.PlaceLemmas.{get_or-map_all}
use Rattle.mage_link.proofs.QueueLemmas.{told_with, told_without}
use Rattle.mage_link.proofs.RowLemmas.{states-in, states-pushed, states-popped}

-- the queues with these links
abbrev with_links : QueueState → List (List LinkState) → QueueState
with_links queues links = record queues { links = links }

module _ (workers capacity waits : ℕ) (rows rows' : List (List Link)) where
  abbrev before : QueueState
  before = queues_of workers capacity rows waits

  abbrev after : QueueState
  after = queues_of workers capacity rows' waits

  -- the row of a link that is there
  pub row_within : (s t : ℕ) → HasLink rows s t → s < length before.links
  row_within s t has = omega (arith, has.row, length-map rows (map state_of))

  pub place_within : (s t : ℕ) → HasLink rows s t → t < length (get_or before.links s [])
  place_within s t has =
      let same = ap length (get_or-map_all (map state_of) rows s []) in
      omega (arith, has.place, same, length-map (get_or rows s []) state_of)

  pub appended_is : (me to : ℕ) (wire : Wire16) →
      rows' ≡ with_place rows me to (link_pushed (link_in rows me to) wire) →
      after ≡ queues_with before me to wire.bytes
  appended_is me to wire is =
      ap (λ r. with_links before (states_of r)) is
      ∙ ap (with_links before) (states-pushed rows me to wire)

  pub sent_is : (me to : ℕ) (wire : Wire16) → HasLink rows me to →
      rows' ≡ with_place rows me to (link_pushed (link_in rows me to) wire) →
      queue_told after ≡ after_send (queue_told before) me to wire.bytes
  sent_is me to wire has is =
      ap queue_told (appended_is me to wire is)
      ∙ told_with before me to wire.bytes (row_within me to has) (place_within me to has)

  pub lies_first : (me from : ℕ) (wire : Wire16) (left : List Wire16) →
      (link_in rows from me).queue.items ≡ wire ∷ left →
      lies_in before from me ≡ wire.bytes ∷ map (λ (w : Wire16). w.bytes) left
  lies_first me from wire left first =
      ap (λ (l : LinkState). l.lying) (states-in rows from me)
      ∙ ap (map (λ (w : Wire16). w.bytes)) first

  pub taken_is : (me from : ℕ) (wire : Wire16) (left : List Wire16) →
      rows' ≡ with_place rows from me (link_popped (link_in rows from me) wire left) →
      after ≡ queues_without before from me wire.bytes (map (λ (w : Wire16). w.bytes) left)
  taken_is me from wire left is =
      ap (λ r. with_links before (states_of r)) is
      ∙ ap (with_links before) (states-popped rows from me wire left)

  pub received_is : (me from : ℕ) (wire : Wire16) (left : List Wire16) → HasLink rows from me →
      (link_in rows from me).queue.items ≡ wire ∷ left →
      rows' ≡ with_place rows from me (link_popped (link_in rows from me) wire left) →
      queue_told after ≡ after_receive (queue_told before) me from wire.bytes
  received_is me from wire left has first is =
      ap queue_told (taken_is me from wire left is)
      ∙ told_without before from me wire.bytes (map (λ (w : Wire16). w.bytes) left)
      (row_within from me has) (place_within from me has) (lies_first me from wire left first)

-- how many wires lie in a link, and that there is such a place
module _ (workers capacity waits : ℕ) (rows : List (List Link)) (s t : ℕ) where
  pub lies_so : length (link_in rows s t).queue.items ≡ length (lies_in (queues_of workers capacity rows waits) s t)
  lies_so =
      sym (length-map (link_in rows s t).queue.items (λ (w : Wire16). w.bytes))
      ∙ ap (λ (l : LinkState). length l.lying) (sym (states-in rows s t))

  pub lies_within : AreLinks workers capacity rows → HasLink rows s t →
      length (lies_in (queues_of workers capacity rows waits) s t) ≤ capacity
  lies_within are has =
      let row = All-get_or (All (HasRoom capacity)) rows s [] has.row are.room in
      let link = All-get_or (HasRoom capacity) (get_or rows s []) t (new_link 0) has.place row in
      subst (λ n. n ≤ capacity) lies_so link.within

  pub has_place : HasLink rows s t → HasPlace (queues_of workers capacity rows waits).links s t
  has_place has = record {
    within = row_within workers capacity waits rows rows s t has;
    inside = place_within workers capacity waits rows rows s t has;
  }
