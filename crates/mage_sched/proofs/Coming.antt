-- What is known of the reads that come, by the entries before them.
use Rattle.std.proofs.Common.{◌≡◌, ◌≤◌, ◌<◌, ◌+◌, ◌&&◌, ◌||◌, ℕ, zero, suc, List, [], ◌∷◌, ◌++◌, Bool, true, false, not, cond, length, get_or, nat_eq, refl, sym, subst, ◌∙◌, ap, arith}
use Rattle.std.proofs.lemmas.Bool.{false≢true, or_from}
use Rattle.mage_instr.specs.declared.replaced.Replaced.{Replaced}
use Rattle.mage_instr.specs.declared.replaced.Replaced.TheVariants as entry
use Rattle.mage_sched.specs.declared.read.Read.{Read}
use Rattle.mage_sched.specs.declared.read.Timed.{Timed}
use Rattle.mage_sched.specs.Reads.{gap_after, page_in, is_page, lost_in, reads_from, timed_from}
use Rattle.mage_sched.specs.Rule.{in_memory, is_saved, is_loaded, AreEntries}

-- a fact of each element
abbrev pub Each : {X : Type 0} → (X → Type 0) → List X → Type 0
Each P [] = Unit {0}
Each P (x ∷ xs) = P x × Each P xs

pub each_map : {X : Type 0} (P Q : X → Type 0) → ((x : X) → P x → Q x) → (xs : List X) → Each P xs → Each Q xs
each_map P Q f [] h = tt
each_map P Q f (x ∷ xs) h = (f x h.0, each_map P Q f xs h.1)

pub each_both : {X : Type 0} (P Q R : X → Type 0) → ((x : X) → P x → Q x → R x) → (xs : List X) → Each P xs → Each Q xs → Each R xs
each_both P Q R f [] h k = tt
each_both P Q R f (x ∷ xs) h k = (f x h.0 k.0, each_both P Q R f xs h.1 k.1)

pub each_left : {X : Type 0} (P : X → Type 0) (xs ys : List X) → Each P (xs ++ ys) → Each P xs
each_left P [] ys h = tt
each_left P (x ∷ xs) ys h = (h.0, each_left P xs ys h.1)

pub each_right : {X : Type 0} (P : X → Type 0) (xs ys : List X) → Each P (xs ++ ys) → Each P ys
each_right P [] ys h = h
each_right P (x ∷ xs) ys h = each_right P xs ys h.1

pub each_append : {X : Type 0} (P : X → Type 0) (xs ys : List X) → Each P xs → Each P ys → Each P (xs ++ ys)
each_append P [] ys h k = k
each_append P (x ∷ xs) ys h k = (h.0, each_append P xs ys h.1 k)

pub each_at : {X : Type 0} (P : X → Type 0) (xs : List X) (k : ℕ) (d : X) → Each P xs → k < length xs → P (get_or xs k d)
each_at P [] k d h within = absurd (omega arith)
each_at P (x ∷ xs) zero d h within = h.0
each_at P (x ∷ xs) (suc k) d h within = each_at P xs k d h.1 (omega arith)

pick_le : (b : Bool) (x y n : ℕ) → x ≤ n → y ≤ n → cond b x y ≤ n
pick_le true x y n h k = h
pick_le false x y n h k = k

le_pick : (b : Bool) (x y n : ℕ) → n ≤ x → n ≤ y → n ≤ cond b x y
le_pick true x y n h k = h
le_pick false x y n h k = k

-- a page was lost no later than now
pub lost_by_now : (before : List Replaced) (page : ℕ) → lost_in before page ≤ gap_after before
lost_by_now [] page = omega arith
lost_by_now (entry.Fresh frame other ∷ before) page = pick_le (is_page (page_in before frame) page) (gap_after before) (lost_in before page) (gap_after before) (omega arith) (lost_by_now before page)
lost_by_now (entry.Load frame other ∷ before) page = pick_le (is_page (page_in before frame) page) (gap_after before) (lost_in before page) (gap_after before) (omega arith) (lost_by_now before page)
lost_by_now (entry.Save frame other ∷ before) page = pick_le (nat_eq other page) (gap_after before) (lost_in before page) (gap_after before) (omega arith) (lost_by_now before page)
lost_by_now (entry.Do job ∷ before) page = let e = lost_by_now before page in omega (arith, e)

-- and may be lost again later
lost_rises : (one : Replaced) (before : List Replaced) (page : ℕ) → lost_in before page ≤ lost_in (one ∷ before) page
lost_rises (entry.Fresh frame other) before page = le_pick (is_page (page_in before frame) page) (gap_after before) (lost_in before page) (lost_in before page) (lost_by_now before page) (omega arith)
lost_rises (entry.Load frame other) before page = le_pick (is_page (page_in before frame) page) (gap_after before) (lost_in before page) (lost_in before page) (lost_by_now before page) (omega arith)
lost_rises (entry.Save frame other) before page = le_pick (nat_eq other page) (gap_after before) (lost_in before page) (lost_in before page) (lost_by_now before page) (omega arith)
lost_rises (entry.Do job) before page = omega arith

-- the reads of a page that come were lost in some gap or later
abbrev pub AreLostFrom : (page gap : ℕ) → List Read → Type 0
AreLostFrom page gap reads = Each (λ read. read.page ≡ page → gap ≤ read.lost) reads

sooner : (page gap other : ℕ) (reads : List Read) → other ≤ gap → AreLostFrom page gap reads → AreLostFrom page other reads
sooner page gap other reads le h = each_map (λ (read : Read). read.page ≡ page → gap ≤ read.lost) (λ (read : Read). read.page ≡ page → other ≤ read.lost) (λ read at same. let e = at same in omega (arith, e, le)) reads h

later_lost : (before list : List Replaced) (page : ℕ) → AreLostFrom page (lost_in before page) (reads_from before list)
later_lost before [] page = tt
later_lost before (entry.Fresh frame other ∷ list) page = sooner page _ _ _ (lost_rises (entry.Fresh frame other) before page) (later_lost (entry.Fresh frame other ∷ before) list page)
later_lost before (entry.Load frame other ∷ list) page = (
  λ same. let P : ℕ → Type 0 = λ n. lost_in before page ≤ lost_in before n in subst P (sym same) (omega arith),
  sooner page _ _ _ (lost_rises (entry.Load frame other) before page) (later_lost (entry.Load frame other ∷ before) list page),
)
later_lost before (entry.Save frame other ∷ list) page = sooner page _ _ _ (lost_rises (entry.Save frame other) before page) (later_lost (entry.Save frame other ∷ before) list page)
later_lost before (entry.Do job ∷ list) page = sooner page _ _ _ (lost_rises (entry.Do job) before page) (later_lost (entry.Do job ∷ before) list page)

-- a page that leaves now, or else later
now_or_later : (b : Bool) (gap lost page : ℕ) (reads : List Read) → AreLostFrom page (cond b gap lost) reads → (b ≡ false → AreLostFrom page gap reads) → AreLostFrom page gap reads
now_or_later true gap lost page reads h k = h
now_or_later false gap lost page reads h k = k refl

not_false : (b x y : Bool) → b ≡ false → x ≡ true → (y || (x && not b)) ≡ true
not_false b x true e h = refl
not_false b x false e h = rw (e, h) refl

-- a page that is in memory leaves before it is read
pub stays : (before list : List Replaced) (page : ℕ) → AreEntries before list → in_memory before page ≡ true → AreLostFrom page (gap_after before) (reads_from before list)
stays before [] page each here = tt
stays before (entry.Fresh frame other ∷ list) page each here =
    now_or_later (is_page (page_in before frame) page) (gap_after before) (lost_in before page) page _ (later_lost (entry.Fresh frame other ∷ before) list page)
    (λ e. stays (entry.Fresh frame other ∷ before) list page each.1 (not_false (is_page (page_in before frame) page) (in_memory before page) (nat_eq other page) e here))
stays before (entry.Load frame other ∷ list) page each here = (
  λ same. absurd (false≢true (sym each.0.0 ∙ ap (λ (n : ℕ). in_memory before n) same ∙ here)),
  now_or_later (is_page (page_in before frame) page) (gap_after before) (lost_in before page) page _ (later_lost (entry.Load frame other ∷ before) list page)
      (λ e. stays (entry.Load frame other ∷ before) list page each.1 (not_false (is_page (page_in before frame) page) (in_memory before page) (nat_eq other page) e here)),
)
stays before (entry.Save frame other ∷ list) page each here = stays (entry.Save frame other ∷ before) list page each.1 here
stays before (entry.Do job ∷ list) page each here = sooner page (gap_after before + 1) (gap_after before) _ (omega arith) (stays (entry.Do job ∷ before) list page each.1 here)

-- a page that wasn't saved yet is saved before it is read
pub saved_first : (before list : List Replaced) (page : ℕ) → AreEntries before list → is_saved before page ≡ false → AreLostFrom page (gap_after before) (reads_from before list)
saved_first before [] page each none = tt
saved_first before (entry.Fresh frame other ∷ list) page each none = saved_first (entry.Fresh frame other ∷ before) list page each.1 none
saved_first before (entry.Load frame other ∷ list) page each none = (
  λ same. absurd (false≢true (sym none ∙ sym (ap (λ (n : ℕ). is_saved before n) same) ∙ each.0.1)),
  saved_first (entry.Load frame other ∷ before) list page each.1 none,
)
saved_first before (entry.Save frame other ∷ list) page each none =
    now_or_later (nat_eq other page) (gap_after before) (lost_in before page) page _ (later_lost (entry.Save frame other ∷ before) list page)
    (λ e. saved_first (entry.Save frame other ∷ before) list page each.1 (or_from (nat_eq other page) (is_saved before page) e none))
saved_first before (entry.Do job ∷ list) page each none = sooner page (gap_after before + 1) (gap_after before) _ (omega arith) (saved_first (entry.Do job ∷ before) list page each.1 none)

-- the reads that come are due from now on
pub due_from_now : (before list : List Replaced) → Each (λ (read : Read). gap_after before ≤ read.due) (reads_from before list)
due_from_now before [] = tt
due_from_now before (entry.Fresh frame other ∷ list) = due_from_now (entry.Fresh frame other ∷ before) list
due_from_now before (entry.Load frame other ∷ list) = (omega arith, due_from_now (entry.Load frame other ∷ before) list)
due_from_now before (entry.Save frame other ∷ list) = due_from_now (entry.Save frame other ∷ before) list
due_from_now before (entry.Do job ∷ list) = each_map (λ (read : Read). gap_after before + 1 ≤ read.due) (λ (read : Read). gap_after before ≤ read.due) (λ read h. omega (arith, h)) (reads_from (entry.Do job ∷ before) list) (due_from_now (entry.Do job ∷ before) list)

-- and no read before its page left
pub lost_by_due : (before list : List Replaced) → Each (λ (read : Read). read.lost ≤ read.due) (reads_from before list)
lost_by_due before [] = tt
lost_by_due before (entry.Fresh frame other ∷ list) = lost_by_due (entry.Fresh frame other ∷ before) list
lost_by_due before (entry.Load frame other ∷ list) = (lost_by_now before other, lost_by_due (entry.Load frame other ∷ before) list)
lost_by_due before (entry.Save frame other ∷ list) = lost_by_due (entry.Save frame other ∷ before) list
lost_by_due before (entry.Do job ∷ list) = lost_by_due (entry.Do job ∷ before) list

-- the reads are due in their order
abbrev pub AreDueInOrder : List Read → Type 0
AreDueInOrder [] = Unit {0}
AreDueInOrder (read ∷ reads) = Each (λ (other : Read). read.due ≤ other.due) reads × AreDueInOrder reads

pub due_in_order : (before list : List Replaced) → AreDueInOrder (reads_from before list)
due_in_order before [] = tt
due_in_order before (entry.Fresh frame other ∷ list) = due_in_order (entry.Fresh frame other ∷ before) list
due_in_order before (entry.Load frame other ∷ list) = (due_from_now (entry.Load frame other ∷ before) list, due_in_order (entry.Load frame other ∷ before) list)
due_in_order before (entry.Save frame other ∷ list) = due_in_order (entry.Save frame other ∷ before) list
due_in_order before (entry.Do job ∷ list) = due_in_order (entry.Do job ∷ before) list

-- whether a page is read
abbrev pub is_read : (page : ℕ) → List Timed → Bool
is_read page [] = false
is_read page (read ∷ reads) = nat_eq read.page page || is_read page reads

pub is_read-loaded : (buffer ahead : ℕ) (reads : List Read) (i : ℕ) (before list : List Replaced) (page : ℕ) → is_read page (timed_from buffer ahead reads i (reads_from before list)) ≡ is_loaded list page
is_read-loaded buffer ahead reads i before [] page = refl
is_read-loaded buffer ahead reads i before (entry.Fresh frame other ∷ list) page = is_read-loaded buffer ahead reads i (entry.Fresh frame other ∷ before) list page
is_read-loaded buffer ahead reads i before (entry.Load frame other ∷ list) page = ap (λ (b : Bool). nat_eq other page || b) (is_read-loaded buffer ahead reads (i + 1) (entry.Load frame other ∷ before) list page)
is_read-loaded buffer ahead reads i before (entry.Save frame other ∷ list) page = is_read-loaded buffer ahead reads i (entry.Save frame other ∷ before) list page
is_read-loaded buffer ahead reads i before (entry.Do job ∷ list) page = is_read-loaded buffer ahead reads i (entry.Do job ∷ before) list page
