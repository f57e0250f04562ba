-- Bytes that are taken from a source, and from what is held.
use Rattle.std.proofs.Common.{◌≡◌, ◌≤◌, ℕ, zero, suc, ◌+◌, ◌-◌, ◌*◌, List, [], ◌∷◌, ◌++◌, Option, Some, None, length, take, drop, replicate, refl, sym, ap, ◌∙◌, append_assoc, length-drop, length-take, min, Bool, arith}
use Rattle.std.specs.Prelude.{unwrap_or, is_some, IfSome, IsSomeAnd, IsTrue}
use Rattle.std.proofs.Math.Seq.{take-append-add, drop-nil}
use Rattle.std.proofs.lemmas.List.{take-append-le, drop-append-le, drop-take}
use Rattle.std.proofs.lemmas.List.Edits.{take-paste}
use Rattle.std.proofs.Math.Seq.{paste}
use Rattle.mage_base.specs.Faults.{count_after, top}
use Rattle.mage_base.specs.Source.{Moved}
use Rattle.mage_label.specs.declared.labels.Label.{Label}
use Rattle.mage_streams.specs.Evaluating.{next_label}
use Rattle.mage_eval.specs.Reading.{Incoming, after_bytes, after_labels, at_after_labels}

pub drop_drop : {X : Type 0} (a b : ℕ) (xs : List X) → drop b (drop a xs) ≡ drop (a + b) xs
drop_drop zero b xs = let e : 0 + b ≡ b = omega arith in rw e refl
drop_drop (suc a) b [] = drop-nil b ∙ sym (drop-nil (suc a + b))
drop_drop (suc a) b (x ∷ xs) = let e : suc a + b ≡ suc (a + b) = omega arith in rw e (drop_drop a b xs)

-- a source moved some bytes into a piece behind others
taken_bytes : (front piece others left left' : List ℕ) (n count : ℕ) → n ≡ length front + count → count ≤ length piece → left ≡ take count piece ++ left' →
    take n (front ++ (piece ++ others)) ++ left' ≡ front ++ left
taken_bytes front piece others left left' n count size few moved =
    ap (λ (k : ℕ). take k (front ++ (piece ++ others)) ++ left') size
    ∙ ap (λ (xs : List ℕ). xs ++ left') (take-append-add front (piece ++ others) count)
    ∙ ap (λ (xs : List ℕ). front ++ xs ++ left') (take-append-le count piece others few)
    ∙ append_assoc front (take count piece) left' ∙ ap (λ (xs : List ℕ). front ++ xs) (sym moved)

pub taken : (before after : Option (List ℕ)) (front piece others : List ℕ) (n count : ℕ) → IsTrue (is_some before) → n ≡ length front + count → count ≤ length piece →
    IfSome before (λ left. IsSomeAnd after (λ left'. Moved left left' piece count)) →
    take n (front ++ (piece ++ others)) ++ unwrap_or after [] ≡ front ++ unwrap_or before []
taken None after front piece others n count told size few moved = cc told
taken (Some left) None front piece others n count told size few moved = absurd moved
taken (Some left) (Some left') front piece others n count told size few moved =
    taken_bytes front piece others left left' n count size few moved.bytes

-- bytes are read of those that are held
pub read_held : (held others : List ℕ) (from to n : ℕ) → from + n ≤ to → to ≤ length held →
    take (to - (from + n)) (drop (from + n) held) ++ others ≡ drop n (take (to - from) (drop from held) ++ others)
read_held held others from to n within fits =
    let m : ℕ = to - (from + n) in
    let size : to - from ≡ n + m = omega arith in
    let long : n ≤ length (take (to - from) (drop from held)) = omega (arith, length-take (to - from) (drop from held), length-drop from held, within, fits) in
    ap (λ (xs : List ℕ). take m xs ++ others) (sym (drop_drop from n held))
    ∙ ap (λ (xs : List ℕ). xs ++ others) (sym (drop-take n m (drop from held)))
    ∙ ap (λ (k : ℕ). drop n (take k (drop from held)) ++ others) (sym size)
    ∙ sym (drop-append-le n (take (to - from) (drop from held)) others long)

pub after_read : (s : Incoming) (n : ℕ) (left : List ℕ) (ready at : ℕ) → left ≡ drop n s.left → ready ≡ s.ready - n → at ≡ count_after s.at n →
    ◌≡◌ {A = Incoming} (record { left = left; ready = ready; at = at; steady = s.steady; faults = s.faults; told = s.told }) (after_bytes s n)
after_read s n left ready at a b c = rw (a, b, c) refl

-- a label is read
pub label_read : (left bytes : List ℕ) → bytes ≡ take 16 left → 16 ≤ length left → ◌≡◌ {A = Label} (record { bytes = bytes }) (next_label left)
label_read left bytes read long = ap (λ (xs : List ℕ). record { bytes = xs }) (read ∙ sym (take-append-le 16 left (replicate 16 0) long))

-- a label, and more labels
pub labels_after : (s : Incoming) (count : ℕ) → after_labels (after_bytes s 16) count ≡ after_labels s (suc count)
labels_after s count =
    let size : 16 * suc count ≡ 16 + 16 * count = omega arith in
    let room : s.ready - 16 - 16 * count ≡ s.ready - 16 * suc count = omega arith in
    ap (λ (xs : List ℕ). record s { left = xs; ready = s.ready - 16 - 16 * count; at = at_after_labels count (count_after s.at 16) }) (drop_drop 16 (16 * count) s.left ∙ ap (λ (k : ℕ). drop k s.left) (sym size))
    ∙ ap (λ (n : ℕ). record s { left = drop (16 * suc count) s.left; ready = n; at = at_after_labels count (count_after s.at 16) }) room

pub labels_none : (s : Incoming) → after_labels s 0 ≡ s
labels_none s = let e : s.ready - 16 * 0 ≡ s.ready = omega arith in ap (λ (n : ℕ). record s { ready = n }) e

count_twice : (n a b t : ℕ) → min (min (n + a) t + b) t ≡ min (n + (a + b)) t
count_twice n a b t = omega arith

-- two labels are read
pub tables_after : (s : Incoming) → after_bytes (after_bytes s 16) 16 ≡ record (after_bytes s 32) { ready = s.ready - 16 - 16 }
tables_after s =
    ap (λ (xs : List ℕ). record s { left = xs; ready = s.ready - 16 - 16; at = count_after (count_after s.at 16) 16 }) (drop_drop 16 16 s.left)
    ∙ ap (λ (n : ℕ). record s { left = drop 32 s.left; ready = s.ready - 16 - 16; at = n }) (count_twice s.at 16 16 top)

-- what is held is moved to the front
pub compact : (held : List ℕ) (from to : ℕ) → from ≤ to → to ≤ length held → take (to - from) (paste held 0 (drop from held) (to - from)) ≡ take (to - from) (drop from held)
compact held from to less fits =
    let n : ℕ = to - from in
    let e : 0 + n ≡ n = omega arith in
    let pasted : take (0 + n) (paste held 0 (drop from held) n) ≡ take n (drop from held) = take-paste held 0 (drop from held) n (omega arith) (omega (arith, length-drop from held, less, fits)) in
    ap (λ (k : ℕ). take k (paste held 0 (drop from held) n)) (sym e) ∙ pasted

-- more is held
pub refilled : (left : List ℕ) (ready at : ℕ) (steady steady' : Bool) (faults faults' : ℕ) (told told' : Bool) → steady' ≡ steady → faults' ≡ faults → told' ≡ told →
    ◌≡◌ {A = Incoming} (record { left = left; ready = ready; at = at; steady = steady'; faults = faults'; told = told' }) (record { left = left; ready = ready; at = at; steady = steady; faults = faults; told = told })
refilled left ready at steady steady' faults faults' told told' b c d = rw (b, c, d) refl

pub drop_next : {X : Type 0} (place count : ℕ) (xs : List X) → drop (suc count) (drop place xs) ≡ drop count (drop (place + 1) xs)
drop_next place count xs =
    let e : place + suc count ≡ place + 1 + count = omega arith in
    drop_drop place (suc count) xs ∙ ap (λ (k : ℕ). drop k xs) e ∙ sym (drop_drop (place + 1) count xs)
