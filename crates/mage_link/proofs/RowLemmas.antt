-- The code's links after a call, and what a clause sees of them.
use Rattle.std.proofs.Common.{◌≡◌, ◌<◌, ◌+◌, ◌∙◌, sym, refl, ap, ℕ, zero, suc, List, [], ◌∷◌, ◌++◌, length, map, get_or, set, replicate, arith}
use Rattle.std.specs.Prelude.{Vec}
use Rattle.std.specs.Vec.{with_item}
use Rattle.std.specs.declared.alloc.Global.{Global}
use Rattle.circular_buffer.specs.Buffer.{Buffer, buffer}
use Rattle.std.proofs.lemmas.List.{length-map, map-append, map-set, get_or-map, get_or_default}
use Rattle.std.proofs.lemmas.List.Elements.{All-get_or}
use Rattle.mage_link.specs.declared.wire.Wire16.{Wire16}
use Rattle.mage_link.specs.declared.link.Link.{Link}
use Rattle.mage_link.specs.Queues.{new_queues, unused_link, place_at, with_place, link_with, link_without}
use Rattle.mage_link.specs.Rows.{rows_of, state_of, states_of, queues_of, new_link, link_in, HasLink, AreLinks, link_pushed, link_popped}
use Rattle.mage_link.proofs.PlaceLemmas.{place_at-map, map-with_place}

-- ---- one link of them

-- a link that wasn't used yet
pub is_new : (link : Link) (capacity : ℕ) → link.queue ≡ buffer [] capacity →
    link.received.wires ≡ [] → link ≡ new_link capacity
is_new link capacity queue wires =
    ap (λ (q : Buffer Wire16). record { queue = q; received = link.received }) queue
    ∙ ap (λ (ws : List (List ℕ)). record (new_link capacity) {
      received = record { marker = record {}; wires = ws };
    }) wires

replicate-end : (n : ℕ) (link : Link) → replicate n link ++ link ∷ [] ≡ replicate (suc n) link
replicate-end zero link = refl
replicate-end (suc n) link = ap (λ links. link ∷ links) (replicate-end n link)

-- so many links, and one more behind them
pub one_more : (links longer : List Link) (n : ℕ) (made link : Link) →
    links ≡ replicate n link → made ≡ link → longer ≡ links ++ made ∷ [] →
    longer ≡ replicate (n + 1) link
one_more links longer n made link are is behind =
    let more : suc n ≡ n + 1 = omega arith in
    behind ∙ ap (λ ls. ls ++ made ∷ []) are ∙ ap (λ l. replicate n link ++ l ∷ []) is
    ∙ replicate-end n link ∙ ap (λ k. replicate k link) more

-- the row of a link, and the link, that were read to be written
pub row_at : (links : Vec (Vec Link Global) Global) (row : Vec Link Global) (s t : ℕ) →
    HasLink (rows_of links) s t → row ≡ get_or links.items s row →
    row.items ≡ get_or (rows_of links) s []
row_at links row s t has is =
    let within : s < length links.items = omega (
      arith,
      has.row,
      length-map links.items
          (λ (r : Vec Link Global). r.items),
    ) in
    ap (λ (r : Vec Link Global). r.items) is
    ∙ sym (get_or-map (λ (r : Vec Link Global). r.items) links.items s row [] within)

pub link_at-is : (links : Vec (Vec Link Global) Global) (row : Vec Link Global) (link : Link)
    (s t : ℕ) → HasLink (rows_of links) s t → row ≡ get_or links.items s row →
    link ≡ get_or row.items t link → link ≡ link_in (rows_of links) s t
link_at-is links row link s t has row_is link_is =
    let same = row_at links row s t has row_is in
    let at : link ≡ get_or (get_or (rows_of links) s []) t link = link_is
    ∙ ap (λ r. get_or r t link) same in
    at ∙ get_or_default (get_or (rows_of links) s []) t link (new_link 0) has.place

-- the rows once this link is written there
pub rows-written : (links : Vec (Vec Link Global) Global) (row : Vec Link Global) (link : Link)
    (s t : ℕ) → HasLink (rows_of links) s t → row ≡ get_or links.items s row →
    rows_of (with_item links s (with_item row t link)) ≡ with_place (rows_of links) s t link
rows-written links row link s t has is =
    map-set (λ (r : Vec Link Global). r.items) links.items s (with_item row t link)
    ∙ ap (λ r. set (rows_of links) s (set r t link)) (row_at links row s t has is)

-- ---- what a clause sees

pub states-in : (rows : List (List Link)) (s t : ℕ) →
    place_at unused_link (states_of rows) s t ≡ state_of (link_in rows s t)
states-in rows s t = place_at-map state_of (new_link 0) rows s t

pub states-pushed : (rows : List (List Link)) (s t : ℕ) (wire : Wire16) →
    states_of (with_place rows s t (link_pushed (link_in rows s t) wire))
    ≡ with_place (states_of rows) s t (link_with (place_at unused_link (states_of rows) s t) wire.bytes)
states-pushed rows s t wire =
    let link = link_in rows s t in
    map-with_place state_of rows s t (link_pushed link wire)
    ∙ ap (with_place (states_of rows) s t)
    (ap (λ (lying : List (List ℕ)). record { received = link.received.wires; lying = lying })
    (map-append (λ (w : Wire16). w.bytes) link.queue.items (wire ∷ []))
    ∙ ap (λ before. link_with before wire.bytes) (sym (states-in rows s t)))

pub states-popped : (rows : List (List Link)) (s t : ℕ) (wire : Wire16) (left : List Wire16) →
    states_of (with_place rows s t (link_popped (link_in rows s t) wire left))
    ≡ with_place (states_of rows) s t (link_without (place_at unused_link (states_of rows) s t) wire.bytes (map (λ (w : Wire16). w.bytes) left))
states-popped rows s t wire left =
    map-with_place state_of rows s t (link_popped (link_in rows s t) wire left)
    ∙ ap (λ before. with_place (states_of rows) s t (link_without before wire.bytes (map (λ (w : Wire16). w.bytes) left)))
    (sym (states-in rows s t))

map-replicate : {X Y : Type 0} (f : X → Y) (n : ℕ) (x : X) →
    map f (replicate n x) ≡ replicate n (f x)
map-replicate f zero x = refl
map-replicate f (suc n) x = ap (λ ys. f x ∷ ys) (map-replicate f n x)

states-new : (workers capacity : ℕ) →
    states_of (replicate workers (replicate workers (new_link capacity)))
    ≡ replicate workers (replicate workers unused_link)
states-new workers capacity =
    map-replicate (map state_of) workers (replicate workers (new_link capacity))
    ∙ ap (replicate workers) (map-replicate state_of workers (new_link capacity))

-- the queues with as many new rows as there are workers
pub queues-new : (workers capacity count : ℕ) (rows : List (List Link)) →
    rows ≡ replicate count (replicate workers (new_link capacity)) → count ≡ workers →
    queues_of workers capacity rows 0 ≡ new_queues workers capacity
queues-new workers capacity count rows are all =
    let row = replicate workers (new_link capacity) in
    ap (λ links. record (new_queues workers capacity) { links = links })
    (ap states_of (are ∙ ap (λ k. replicate k row) all) ∙ states-new workers capacity)

-- ---- what holds of them

pub has_link : (workers capacity : ℕ) (rows : List (List Link)) (s t : ℕ) →
    AreLinks workers capacity rows → s < workers → t < workers → HasLink rows s t
has_link workers capacity rows s t are s_within t_within =
    let row : s < length rows = omega (arith, are.count) in
    let whole = All-get_or (λ (r : List Link). length r ≡ workers) rows s [] row are.counts in
    record { row = row; place = omega (arith, whole) }
