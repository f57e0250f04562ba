-- Laws of reading the values of a text one after another.
use Rattle.std.proofs.Common.{◌≡◌, ℕ, ◌+◌, ◌<◌, List, [], ◌∷◌, ◌++◌, length, take, drop, get_or, map, ap, ◌∙◌, sym, refl, Result, Ok, Err, append_assoc, Vec}
use Rattle.std.specs.List.{concat}
use Rattle.std.specs.declared.alloc.Global.{Global}
use Rattle.std.proofs.lemmas.List.{take-append-drop, drop_more, append-nil, map-append, map_push, take_at, drop_at}
use Rattle.std.proofs.lemmas.List.Folds.{concat-append}
use Rattle.mage_texts.specs.Lists.{lists_of}
use Rattle.mage_texts.specs.InputText.{lines_of, numbers_of, cut_by_worker, by_worker, inputs_of, IsReadOf}
use Rattle.mage_texts.specs.Reading.{with_front, IsFront, IsFaultIn}
use Rattle.mage_texts.specs.declared.input_text.InputFault.{InputFault}
use Rattle.mage_texts.specs.declared.input_text.InputFault.TheVariants as faults
use Rattle.mage_texts.proofs.Lines.{lines_of-some}

-- a list by what stands before a place, at it, and after it
at_place : {X : Type 0} (xs : List X) (i : ℕ) (d : X) → i < length xs → xs ≡ take i xs ++ (get_or xs i d ∷ drop (i + 1) xs)
at_place xs i d inside = sym (take-append-drop i xs) ∙ ap (λ ys. take i xs ++ ys) (drop_more xs i d inside)

-- a fault of the next value is the fault of all, where the values before it were read
pub IsFaultIn-after : (first : ℕ) (text widths numbers : List ℕ) (i next : ℕ) (left : List ℕ) (fault : InputFault) (d : ℕ) → i < length widths → IsFront first text (take i widths) numbers next left → IsFaultIn next left (get_or widths i d ∷ []) fault → IsFaultIn first text widths fault
IsFaultIn-after first text widths numbers i next left (faults.Line line) d inside front fault = λ more.
    ap (λ ws. numbers_of first (lines_of text) (ws ++ more)) (at_place widths i d inside)
    ∙ ap (numbers_of first (lines_of text)) (append_assoc (take i widths) (get_or widths i d ∷ drop (i + 1) widths) more)
    ∙ front (get_or widths i d ∷ (drop (i + 1) widths ++ more))
    ∙ ap (with_front numbers) (fault (drop (i + 1) widths ++ more))
IsFaultIn-after first text widths numbers i next left faults.Memory d inside front fault = tt

with_front-with_front : (xs ys : List ℕ) (r : Result (List ℕ) ℕ) → with_front xs (with_front ys r) ≡ with_front (xs ++ ys) r
with_front-with_front xs ys (Ok numbers) = ap Ok (sym (append_assoc xs ys numbers))
with_front-with_front xs ys (Err line) = refl

-- two runs of values, one after the other, are one run
pub IsFront-then : (first : ℕ) (text widths numbers : List ℕ) (next : ℕ) (left widths' numbers' : List ℕ) (last : ℕ) (end : List ℕ) → IsFront first text widths numbers next left → IsFront next left widths' numbers' last end → IsFront first text (widths ++ widths') (numbers ++ numbers') last end
IsFront-then first text widths numbers next left widths' numbers' last end one two = λ more.
    ap (numbers_of first (lines_of text)) (append_assoc widths widths' more)
    ∙ one (widths' ++ more)
    ∙ ap (with_front numbers) (two more)
    ∙ with_front-with_front numbers numbers' (numbers_of last (lines_of end) more)

-- the vectors' lists, joined, by what stands before a place, at it, and after it
pub concat-at_place : (vectors : List (Vec ℕ Global)) (i : ℕ) (d : Vec ℕ Global) → i < length vectors → concat (lists_of vectors) ≡ concat (lists_of (take i vectors)) ++ ((get_or vectors i d).items ++ concat (lists_of (drop (i + 1) vectors)))
concat-at_place vectors i d inside =
    ap (λ vs. concat (lists_of vs)) (at_place vectors i d inside)
    ∙ ap concat (map-append (λ v. v.items) (take i vectors) (get_or vectors i d ∷ drop (i + 1) vectors))
    ∙ concat-append (lists_of (take i vectors)) (lists_of (get_or vectors i d ∷ drop (i + 1) vectors))

pub concat-push : (vectors : List (Vec ℕ Global)) (v : Vec ℕ Global) → concat (lists_of (vectors ++ v ∷ [])) ≡ concat (lists_of vectors) ++ v.items
concat-push vectors v =
    ap concat (map-append (λ v. v.items) vectors (v ∷ []))
    ∙ concat-append (lists_of vectors) (lists_of (v ∷ []))
    ∙ ap (λ ys. concat (lists_of vectors) ++ ys) (append-nil v.items)

pub lengths-push : (vectors : List (Vec ℕ Global)) (v : Vec ℕ Global) → map length (lists_of (vectors ++ v ∷ [])) ≡ map length (lists_of vectors) ++ length v.items ∷ []
lengths-push vectors v = ap (map length) (map_push (λ v. v.items) vectors v) ∙ map_push length (lists_of vectors) v.items

-- a fault of the next worker is the fault of all, where the workers before it were read
pub IsReadOf-fault : (text : List ℕ) (widths : List (List ℕ)) (before own rest numbers : List ℕ) (next : ℕ) (left : List ℕ) (fault : InputFault) → concat widths ≡ before ++ (own ++ rest) → IsFront 1 text before numbers next left → IsFaultIn next left own fault → IsReadOf (inputs_of text widths) (Err fault)
IsReadOf-fault text widths before own rest numbers next left (faults.Line line) parts front fault =
    ap (cut_by_worker widths) (ap (numbers_of 1 (lines_of text)) parts ∙ front (own ++ rest) ∙ ap (with_front numbers) (fault rest))
IsReadOf-fault text widths before own rest numbers next left faults.Memory parts front fault = tt

-- lists of those lengths, joined and cut again
by_worker-concat : (widths numbers : List (List ℕ)) → map length numbers ≡ map length widths → by_worker widths (concat numbers) ≡ numbers
by_worker-concat [] [] same = refl
by_worker-concat [] (own ∷ others) same = cc
by_worker-concat (ws ∷ widths) [] same = cc
by_worker-concat (ws ∷ widths) (own ∷ others) same =
    let len : length own ≡ length ws = cc in
    let more : map length others ≡ map length widths = cc in
    rw (take_at own (concat others) (length ws) len, drop_at own (concat others) (length ws) len, by_worker-concat widths others more)

-- all values are read and no line is left
pub inputs_of-all : (text : List ℕ) (widths numbers : List (List ℕ)) (next : ℕ) → IsFront 1 text (concat widths) (concat numbers) next [] → map length numbers ≡ map length widths → inputs_of text widths ≡ Ok numbers
inputs_of-all text widths numbers next front same =
    ap (cut_by_worker widths) (ap (numbers_of 1 (lines_of text)) (sym (append-nil (concat widths))) ∙ front [] ∙ ap Ok (append-nil (concat numbers)))
    ∙ ap Ok (by_worker-concat widths numbers same)

-- all values are read, and a line is left
pub inputs_of-too_many : (text : List ℕ) (widths : List (List ℕ)) (numbers : List ℕ) (next : ℕ) (left : List ℕ) → IsFront 1 text (concat widths) numbers next left → 0 < length left → inputs_of text widths ≡ Err next
inputs_of-too_many text widths numbers next left front some =
    let s = lines_of-some left some in
    ap (cut_by_worker widths) (ap (numbers_of 1 (lines_of text)) (sym (append-nil (concat widths))) ∙ front [] ∙ ap (λ lines. with_front numbers (numbers_of next lines [])) s.1)
