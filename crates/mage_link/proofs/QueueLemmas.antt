-- What queues tell after a call.
use Rattle.std.proofs.Common.{◌≡◌, ◌<◌, ◌∙◌, sym, refl, ap, ℕ, zero, suc, List, [], ◌∷◌, ◌++◌, length, get_or, replicate, append_assoc}
use Rattle.mage_network.specs.Network.{put_link}
use Rattle.mage_link.specs.Links.{Wires, LinkTold, IsUnused, after_send, after_receive}
use Rattle.mage_link.specs.Queues.{LinkState, QueueState, place_at, unused_link, new_queues, link_at, lies_in, received_from, queue_told, link_with, link_without, queues_with, queues_without}
use Rattle.mage_link.proofs.PlaceLemmas.{places_with, put_link-same}

-- what was sent on a link
abbrev sent_on : LinkState → List (List ℕ)
sent_on link = link.received ++ link.lying

-- the port with these wires
abbrev told_of : QueueState → (sent received : Wires) → LinkTold
told_of queues sent received = record (queue_told queues) { sent = sent; received = received }

pub told_with : (queues : QueueState) (source target : ℕ) (wire : List ℕ) →
    source < length queues.links → target < length (get_or queues.links source []) →
    queue_told (queues_with queues source target wire)
    ≡ after_send (queue_told queues) source target wire
told_with queues source target wire row place =
    let link = link_at queues source target in
    let sent = places_with sent_on unused_link queues.links source target (link_with link wire)
    row place
    ∙ ap (put_link (queue_told queues).sent source target)
    (sym (append_assoc link.received link.lying (wire ∷ []))) in
    let received = places_with (λ (l : LinkState). l.received) unused_link queues.links source
    target (link_with link wire) row place
    ∙ put_link-same (queue_told queues).received source target in
    ap (λ wires. told_of queues wires (received_from (queues_with queues source target wire))) sent
    ∙ ap (told_of queues (after_send (queue_told queues) source target wire).sent) received

pub told_without : (queues : QueueState) (source target : ℕ) (wire : List ℕ)
    (left : List (List ℕ)) →
    source < length queues.links → target < length (get_or queues.links source []) →
    lies_in queues source target ≡ wire ∷ left →
    queue_told (queues_without queues source target wire left)
    ≡ after_receive (queue_told queues) target source wire
told_without queues source target wire left row place first =
    let link = link_at queues source target in
    let after = link_without link wire left in
    let sent = places_with sent_on unused_link queues.links source target after row place
    ∙ ap (put_link (queue_told queues).sent source target)
    (append_assoc link.received (wire ∷ []) left ∙ ap (λ lying. link.received ++ lying)
    (sym first))
    ∙ put_link-same (queue_told queues).sent source target in
    let received = places_with (λ (l : LinkState). l.received) unused_link queues.links source
    target after row place in
    ap (λ wires. told_of queues wires (received_from (queues_without queues source target wire
    left))) sent
    ∙ ap (told_of queues (queue_told queues).sent) received

same_in_row : {X : Type 0} (n i : ℕ) (x : X) → get_or (replicate n x) i x ≡ x
same_in_row zero i x = refl
same_in_row (suc n) zero x = refl
same_in_row (suc n) (suc i) x = same_in_row n i x

same_in_rows : {X : Type 0} (n k s t : ℕ) (x : X) →
    place_at x (replicate n (replicate k x)) s t ≡ x
same_in_rows zero k s t x = refl
same_in_rows (suc n) k zero t x = same_in_row k t x
same_in_rows (suc n) k (suc s) t x = same_in_rows n k s t x

-- queues that were just made
pub new_is_unused : (workers capacity : ℕ) → IsUnused (queue_told (new_queues workers capacity))
new_is_unused workers capacity = record {
  sent = λ source target. ap sent_on (same_in_rows workers workers source target unused_link);
  received = λ source target. ap (λ (l : LinkState). l.received)
      (same_in_rows workers workers source target unused_link);
}
