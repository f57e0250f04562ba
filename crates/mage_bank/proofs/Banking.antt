-- Frames as a function of their numbers.
use Rattle.std.proofs.Common.{◌≡◌, ◌≤◌, ◌<◌, ℕ, zero, suc, Bool, true, false, cond, List, [], ◌∷◌, length, get_or, set, replicate, nat_eq, refl, sym, ap, ◌∙◌, subst, arith}
use Rattle.std.proofs.lemmas.Bool.{eqb-true, eqb-false}
use Rattle.std.proofs.lemmas.List.{length-map, length-replicate, map-set, get_or-set_same, get_or-set_other, get_or_default, with_items_is}
use Rattle.std.specs.Prelude.{Vec}
use Rattle.std.specs.Global.{Global}
use Rattle.std.specs.Vec.{with_items}
use mathlib.Core.Path.{fun_ext}
use Rattle.mage_instr.specs.declared.replaced.Spot.{Spot}
use Rattle.mage_network.specs.Network.{put}
use Rattle.mage_bank.specs.Bank.{contents, bank_of, lengths_of, Lies}

-- the first frame stays as long as it was
first_kept : (frames : List (List ℕ)) (i : ℕ) (bytes : List ℕ) → length bytes ≡ length (get_or frames i []) →
    length (get_or (set frames i bytes) 0 []) ≡ length (get_or frames 0 [])
first_kept [] i bytes same = refl
first_kept (f ∷ frames) zero bytes same = same
first_kept (f ∷ frames) (suc i) bytes same = refl

-- A frame that is given anew, with as many bytes as it had.
pub bank_set : (frames : List (List ℕ)) (i : ℕ) (bytes : List ℕ) → i < length frames →
    length bytes ≡ length (bank_of frames i) → bank_of (set frames i bytes) ≡ put (bank_of frames) i bytes
bank_set frames i bytes inside same = fun_ext (λ k. at k (nat_eq i k) refl)
  where
    zeros : List ℕ
    zeros = replicate (length (get_or frames 0 [])) 0

    first : length (get_or (set frames i bytes) 0 []) ≡ length (get_or frames 0 [])
    first = first_kept frames i bytes (same ∙ ap (λ l. length l) (get_or_default frames i zeros [] inside))

    at : (k : ℕ) (b : Bool) → nat_eq i k ≡ b → bank_of (set frames i bytes) k ≡ cond b bytes (bank_of frames k)
    at k true e = subst (λ j. bank_of (set frames i bytes) j ≡ bytes) (eqb-true i k e)
        (get_or-set_same frames i bytes (replicate (length (get_or (set frames i bytes) 0 [])) 0) inside)
    at k false e =
        get_or-set_other frames i k bytes (replicate (length (get_or (set frames i bytes) 0 [])) 0) (λ other. eqb-false i k e (sym other))
        ∙ ap (λ n. get_or frames k (replicate n 0)) first

all_same : (blank other : List ℕ) → other ≡ blank → (i n : ℕ) → get_or (replicate n blank) i other ≡ blank
all_same blank other same i zero = same
all_same blank other same zero (suc n) = refl
all_same blank other same (suc i) (suc n) = all_same blank other same i n

-- frames of zeros, of which there is at least one
pub bank_opened : (count bytes : ℕ) → 1 ≤ count → bank_of (replicate count (replicate bytes 0)) ≡ (λ i. replicate bytes 0)
bank_opened zero bytes some = absurd (omega arith)
bank_opened (suc count) bytes some =
    let blank : List ℕ = replicate bytes 0 in
    fun_ext (λ i. all_same blank (replicate (length blank) 0) (ap (λ n. replicate n 0) (length-replicate bytes 0)) i (suc count))

-- as many lists of bytes as frames
pub count_of : (frames : List (Vec ℕ Global)) → length (contents frames) ≡ length frames
count_of frames = length-map frames (λ (frame : Vec ℕ Global). frame.items)

-- the bytes of a frame that was read
held : (other : List ℕ) (frames : List (Vec ℕ Global)) (i : ℕ) (frame : Vec ℕ Global) → i < length frames →
    frame ≡ get_or frames i frame → get_or (contents frames) i other ≡ frame.items
held other [] i frame inside here = absurd (omega arith)
held other (f ∷ frames) zero frame inside here = ap (λ (v : Vec ℕ Global). v.items) (sym here)
held other (f ∷ frames) (suc i) frame inside here = held other frames i frame (omega arith) here

pub bank_here : (frames : List (Vec ℕ Global)) (i : ℕ) (frame : Vec ℕ Global) → i < length frames →
    frame ≡ get_or frames i frame → bank_of (contents frames) i ≡ frame.items
bank_here frames i frame inside here = held (replicate (length (get_or (contents frames) 0 [])) 0) frames i frame inside here

-- a frame in whose place another stands, as long as it was
pub bank_put : (frames : List (Vec ℕ Global)) (i : ℕ) (old frame : Vec ℕ Global) → i < length frames →
    old ≡ get_or frames i old → length frame.items ≡ length old.items →
    bank_of (contents (set frames i frame)) ≡ put (bank_of (contents frames)) i frame.items
bank_put frames i old frame inside here same =
    let n = count_of frames in
    ap bank_of (map-set (λ (f : Vec ℕ Global). f.items) frames i frame)
    ∙ bank_set (contents frames) i frame.items (omega arith) (same ∙ ap (λ l. length l) (sym (bank_here frames i old inside here)))

pub lengths_put : (frames : List (Vec ℕ Global)) (i : ℕ) (old frame : Vec ℕ Global) →
    old ≡ get_or frames i old → length frame.items ≡ length old.items →
    lengths_of (contents (set frames i frame)) ≡ lengths_of (contents frames)
lengths_put [] i old frame here same = refl
lengths_put (f ∷ frames) zero old frame here same =
    ap (λ n. n ∷ lengths_of (contents frames)) (same ∙ ap (λ (v : Vec ℕ Global). length v.items) here)
lengths_put (f ∷ frames) (suc i) old frame here same =
    ap (λ ns. length f.items ∷ ns) (lengths_put frames i old frame here same)

-- what a write through a frame's slice leaves
written_items : (frames : List (Vec ℕ Global)) (i : ℕ) (old : Vec ℕ Global) (was bytes : List ℕ) →
    was ≡ (get_or frames i old).items → length bytes ≡ length was →
    (with_items (get_or frames i old) bytes).items ≡ bytes
written_items frames i old was bytes are same =
    let found = get_or frames i old in
    let long : length bytes ≡ found.len = omega (arith, ap (λ l. length l) are, found.ok.0) in
    with_items_is found bytes long

written_long : (frames : List (Vec ℕ Global)) (i : ℕ) (old : Vec ℕ Global) (was bytes : List ℕ) →
    old ≡ get_or frames i old → was ≡ (get_or frames i old).items → length bytes ≡ length was →
    length (with_items (get_or frames i old) bytes).items ≡ length old.items
written_long frames i old was bytes here are same =
    ap (λ l. length l) (written_items frames i old was bytes are same)
    ∙ same ∙ ap (λ l. length l) are ∙ ap (λ (v : Vec ℕ Global). length v.items) (sym here)

pub bank_written : (frames : List (Vec ℕ Global)) (i : ℕ) (old : Vec ℕ Global) (was bytes : List ℕ) → i < length frames →
    old ≡ get_or frames i old → was ≡ (get_or frames i old).items → length bytes ≡ length was →
    bank_of (contents (set frames i (with_items (get_or frames i old) bytes))) ≡ put (bank_of (contents frames)) i bytes
bank_written frames i old was bytes inside here are same =
    bank_put frames i old (with_items (get_or frames i old) bytes) inside here (written_long frames i old was bytes here are same)
    ∙ ap (put (bank_of (contents frames)) i) (written_items frames i old was bytes are same)

pub lengths_written : (frames : List (Vec ℕ Global)) (i : ℕ) (old : Vec ℕ Global) (was bytes : List ℕ) →
    old ≡ get_or frames i old → was ≡ (get_or frames i old).items → length bytes ≡ length was →
    lengths_of (contents (set frames i (with_items (get_or frames i old) bytes))) ≡ lengths_of (contents frames)
lengths_written frames i old was bytes here are same =
    lengths_put frames i old (with_items (get_or frames i old) bytes) here (written_long frames i old was bytes here are same)

-- the frame of a value that lies in one
pub inside : (wire_bytes width : ℕ) (frames : List (Vec ℕ Global)) (spot : Spot) (i : ℕ) →
    Lies wire_bytes (contents frames) spot width → i ≡ spot.frame → i < length frames
inside wire_bytes width frames spot i lies at =
    let n = count_of frames in
    let f : spot.frame < length (contents frames) = lies.frame in
    omega arith
