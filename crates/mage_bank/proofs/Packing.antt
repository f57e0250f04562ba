-- Wires that are packed into frames one after another, and read from them.
use Rattle.std.proofs.Common.{◌≡◌, ◌<◌, ◌≤◌, ◌+◌, ◌*◌, ℕ, List, [], ◌∷◌, ◌++◌, length, get_or, set, take, map, sym, ap, ◌∙◌, arith}
use Rattle.std.specs.Prelude.{Vec}
use Rattle.std.specs.Global.{Global}
use Rattle.std.specs.Vec.{with_items}
use Rattle.std.specs.List.{flat_map, range_with_len}
use Rattle.std.proofs.lemmas.List.{append-nil, length-append, take_all, take_more, take_more_set}
use Rattle.std.proofs.lemmas.List.Concat.{flat_map-append}
use Rattle.std.proofs.lemmas.List.FromFn.{map-range_with_len_more}
use Rattle.std.proofs.lemmas.Nat.{mul-le}
use Rattle.mage_instr.specs.declared.replaced.Spot.{Spot}
use Rattle.mage_network.specs.Network.{put}
use Rattle.mage_driver.specs.Rules.{Rules}
use Rattle.mage_steps.specs.Frames.{with_piece, spot_of_wire, wire_at, wires_at, with_wires, sent_form}
use Rattle.mage_steps.proofs.Written.{piece_more}
use Rattle.mage_bank.specs.Bank.{contents, bank_of, wire_in}
use Rattle.mage_bank.proofs.Banking.{bank_here, bank_written}

-- one more place of a frame
pub within_turn : (place i n size long : ℕ) → (place + n) * size ≤ long → i < n → (place + i + 1) * size ≤ long
within_turn place i n size long fits inside =
    let m : (place + i + 1) * size ≤ (place + n) * size = mul-le (place + i + 1) size (place + n) size (omega arith) (omega arith) in
    omega arith

pub place_fits : (place i n size long : ℕ) → (place + n) * size ≤ long → i < n → 1 ≤ size → place + i < long
place_fits place i n size long fits inside some =
    let m : (place + i + 1) * 1 ≤ (place + n) * size = mul-le (place + i + 1) 1 (place + n) size (omega arith) some in
    omega arith

-- one more wire was read
pub read_turn : {W : Type 0} (f : ℕ → W) (into : List W) (i : ℕ) (x : W) → take i into ≡ map f (range_with_len 0 i) → x ≡ f i → i < length into →
    take (i + 1) (set into i x) ≡ map f (range_with_len 0 (i + 1))
read_turn f into i x so_far same inside =
    take_more_set into i x inside
    ∙ ap (λ ys. ys ++ x ∷ []) so_far
    ∙ ap (λ v. map f (range_with_len 0 i) ++ v ∷ []) same
    ∙ sym (map-range_with_len_more f 0 i i (omega arith))

pub read_end : {W : Type 0} (f : ℕ → W) (into : List W) (i n : ℕ) → take i into ≡ map f (range_with_len 0 i) → length into ≡ n → n ≤ i → i ≤ n →
    into ≡ map f (range_with_len 0 n)
read_end f into i n so_far long past inside =
    let same : i ≡ n = omega arith in
    sym (take_all i into (omega arith)) ∙ so_far ∙ ap (λ k. map f (range_with_len 0 k)) same

module _ {W : Type 0} (rules : Rules W) where
  -- one more wire is packed
  pub packed_more : (wires : List W) (i : ℕ) (w : W) → i < length wires → w ≡ get_or wires i w →
      flat_map rules.pack (take (i + 1) wires) ≡ flat_map rules.pack (take i wires) ++ rules.pack w
  packed_more wires i w inside here =
      ap (flat_map rules.pack) (take_more wires i w inside ∙ ap (λ v. take i wires ++ v ∷ []) (sym here))
      ∙ flat_map-append rules.pack (take i wires) (w ∷ [])
      ∙ ap (λ l. flat_map rules.pack (take i wires) ++ l) (append-nil (rules.pack w))

  pub long_turn : (wires : List W) (i : ℕ) (w : W) → i < length wires → w ≡ get_or wires i w →
      length (flat_map rules.pack (take i wires)) ≡ i * rules.wire_bytes → length (rules.pack w) ≡ rules.wire_bytes →
      length (flat_map rules.pack (take (i + 1) wires)) ≡ (i + 1) * rules.wire_bytes
  long_turn wires i w inside here long more =
      let row : (i + 1) * rules.wire_bytes ≡ i * rules.wire_bytes + rules.wire_bytes = omega arith in
      let whole : length (flat_map rules.pack (take (i + 1) wires)) ≡ length (flat_map rules.pack (take i wires)) + length (rules.pack w) =
      ap length (packed_more wires i w inside here) ∙ length-append (flat_map rules.pack (take i wires)) (rules.pack w) in
      whole ∙ omega arith

  pub pack_turn : (frame now next : List ℕ) (place : ℕ) (wires : List W) (i : ℕ) (w : W) →
      length (flat_map rules.pack (take i wires)) ≡ i * rules.wire_bytes →
      now ≡ with_piece frame (place * rules.wire_bytes) (flat_map rules.pack (take i wires)) →
      place * rules.wire_bytes ≤ length frame → i < length wires → w ≡ get_or wires i w →
      next ≡ with_piece now ((place + i) * rules.wire_bytes) (rules.pack w) →
      next ≡ with_piece frame (place * rules.wire_bytes) (flat_map rules.pack (take (i + 1) wires))
  pack_turn frame now next place wires i w long was fits inside here wrote =
      let done = flat_map rules.pack (take i wires) in
      let row : (place + i) * rules.wire_bytes ≡ place * rules.wire_bytes + i * rules.wire_bytes = omega arith in
      wrote
      ∙ ap (λ l. with_piece l ((place + i) * rules.wire_bytes) (rules.pack w)) was
      ∙ ap (λ n. with_piece (with_piece frame (place * rules.wire_bytes) done) n (rules.pack w))
      (row ∙ ap (λ n. place * rules.wire_bytes + n) (sym long))
      ∙ piece_more frame (place * rules.wire_bytes) done (rules.pack w) fits
      ∙ ap (with_piece frame (place * rules.wire_bytes)) (sym (packed_more wires i w inside here))

  pub pack_end : (frame now : List ℕ) (place : ℕ) (wires : List W) (i : ℕ) →
      now ≡ with_piece frame (place * rules.wire_bytes) (flat_map rules.pack (take i wires)) → length wires ≤ i →
      now ≡ with_piece frame (place * rules.wire_bytes) (flat_map rules.pack wires)
  pack_end frame now place wires i was past =
      was ∙ ap (λ ws. with_piece frame (place * rules.wire_bytes) (flat_map rules.pack ws)) (take_all i wires past)

  -- the wires of a value, as they were read from its frame
  pub loaded : (frames : List (Vec ℕ Global)) (spot : Spot) (n i place : ℕ) (frame : Vec ℕ Global) (bytes : List ℕ) →
      i ≡ spot.frame → place ≡ spot.offset → i < length frames → frame ≡ get_or frames i frame → bytes ≡ frame.items →
      map (λ k. wire_in rules bytes (place + k)) (range_with_len 0 n) ≡ wires_at rules (bank_of (contents frames)) spot n
  loaded frames spot n i place frame bytes at at' inside here are =
      ap (λ l. map (λ k. wire_in rules l (place + k)) (range_with_len 0 n))
      (are ∙ sym (bank_here frames i frame inside here) ∙ ap (bank_of (contents frames)) at)
      ∙ ap (λ p. map (λ k. wire_in rules (bank_of (contents frames) spot.frame) (p + k)) (range_with_len 0 n)) at'

  loaded_one : (frames : List (Vec ℕ Global)) (spot : Spot) (k i place : ℕ) (frame : Vec ℕ Global) (bytes : List ℕ) →
      i ≡ spot.frame → place ≡ spot.offset + k → i < length frames → frame ≡ get_or frames i frame → bytes ≡ frame.items →
      wire_in rules bytes place ≡ wire_at rules (bank_of (contents frames)) (spot_of_wire spot k)
  loaded_one frames spot k i place frame bytes at at' inside here are =
      ap (λ l. wire_in rules l place)
      (are ∙ sym (bank_here frames i frame inside here) ∙ ap (bank_of (contents frames)) at)
      ∙ ap (wire_in rules (bank_of (contents frames) spot.frame)) at'

  -- one of them as a link carries it
  pub sent_one : (frames : List (Vec ℕ Global)) (spot : Spot) (k i place : ℕ) (frame : Vec ℕ Global) (bytes form : List ℕ) (wire : W) →
      i ≡ spot.frame → place ≡ spot.offset + k → i < length frames → frame ≡ get_or frames i frame → bytes ≡ frame.items →
      form ≡ sent_form rules wire → wire ≡ wire_in rules bytes place →
      form ≡ sent_form rules (wire_at rules (bank_of (contents frames)) (spot_of_wire spot k))
  sent_one frames spot k i place frame bytes form wire at at' inside here are formed read =
      formed ∙ ap (sent_form rules) (read ∙ loaded_one frames spot k i place frame bytes at at' inside here are)

  -- the frames once a value was written into one
  pub stored : (frames : List (Vec ℕ Global)) (spot : Spot) (wires : List W) (i place : ℕ) (old : Vec ℕ Global) (was bytes : List ℕ) →
      i ≡ spot.frame → place ≡ spot.offset → i < length frames → old ≡ get_or frames i old → was ≡ (get_or frames i old).items →
      length bytes ≡ length was →
      bytes ≡ with_piece was (place * rules.wire_bytes) (flat_map rules.pack wires) →
      bank_of (contents (set frames i (with_items (get_or frames i old) bytes))) ≡ with_wires rules (bank_of (contents frames)) spot wires
  stored frames spot wires i place old was bytes at at' inside here are same wrote =
      let bank = bank_of (contents frames) in
      let packed = flat_map rules.pack wires in
      bank_written frames i old was bytes inside here are same
      ∙ ap (put bank i) wrote
      ∙ ap (λ p. put bank i (with_piece was (p * rules.wire_bytes) packed)) at'
      ∙ ap (λ l. put bank i (with_piece l (spot.offset * rules.wire_bytes) packed))
      (are ∙ ap (λ (v : Vec ℕ Global). v.items) (sym here) ∙ sym (bank_here frames i old inside here))
      ∙ ap (λ j. put bank j (with_piece (bank j) (spot.offset * rules.wire_bytes) packed)) at

  -- one wire in place of many
  pub wrote_one : (was bytes : List ℕ) (place : ℕ) (came wire : W) → came ≡ wire → bytes ≡ with_piece was place (rules.pack came) →
      bytes ≡ with_piece was place (flat_map rules.pack (wire ∷ []))
  wrote_one was bytes place came wire is wrote =
      wrote ∙ ap (with_piece was place) (ap rules.pack is ∙ sym (append-nil (rules.pack wire)))
