-- The moves of a list, one after the other.
use Rattle.std.proofs.Common.{◌≡◌, ◌≤◌, ◌<◌, ◌+◌, ℕ, zero, suc, List, [], ◌∷◌, ◌++◌, length, get_or, drop, refl, sym, subst, ◌∙◌, ap, arith, append_assoc, append-nil}
use Rattle.std.proofs.lemmas.List.{at_drop_more}
use Rattle.mage_instr.specs.declared.directive.Directive.{Directive}
use Rattle.mage_instr.specs.declared.replaced.Replaced.{Replaced}
use Rattle.mage_instr.specs.declared.replaced.Replaced.TheVariants as entry
use Rattle.mage_instr.specs.declared.replaced.Job.{Job}
use Rattle.mage_instr.specs.declared.directive.Directive.TheVariants as directive
use Rattle.mage_sched.specs.declared.read.Timed.{Timed}
use Rattle.mage_sched.specs.Reads.{gap_after, reads_from, reads_of, timed_of}
use Rattle.mage_sched.specs.Schedule.{jobs_of, no_timed, moves_from, loaded, issued_ahead, schedule_of}
use Rattle.mage_sched.specs.Views.{AreBefore, AreFrom}
use Rattle.mage_sched.specs.Slots.{Move, Enters, Writes, Does, Buffer, Step, done, all_done, then_step, says, write_issued, idle_buffer}

-- how many loads a list has
abbrev pub loads_of : List Replaced → ℕ
loads_of [] = 0
loads_of (entry.Fresh frame page ∷ list) = loads_of list
loads_of (entry.Load frame page ∷ list) = 1 + loads_of list
loads_of (entry.Save frame page ∷ list) = loads_of list
loads_of (entry.Do job ∷ list) = loads_of list

pub length-reads_from : (before list : List Replaced) → length (reads_from before list) ≡ loads_of list
length-reads_from before [] = refl
length-reads_from before (entry.Fresh frame page ∷ list) = length-reads_from (entry.Fresh frame page ∷ before) list
length-reads_from before (entry.Load frame page ∷ list) = let e = length-reads_from (entry.Load frame page ∷ before) list in omega (arith, e)
length-reads_from before (entry.Save frame page ∷ list) = length-reads_from (entry.Save frame page ∷ before) list
length-reads_from before (entry.Do job ∷ list) = length-reads_from (entry.Do job ∷ before) list

-- one move, and then others
pub one_more : (move : Move) (moves : List Move) (was is : Buffer) (before after whole : List Directive)
    → before ++ (all_done (move ∷ moves) was).directives ≡ whole
    → after ≡ before ++ (done move was).directives → is ≡ (done move was).buffer
    → after ++ (all_done moves is).directives ≡ whole
one_more move moves was is before after whole h list buffer =
    rw (list, buffer) (append_assoc before (done move was).directives (all_done moves (done move was).buffer).directives ∙ h)

abbrev step_of : List Directive → Buffer → Step
step_of directives buffer = record { directives = directives; buffer = buffer }

same_step : (a b : Step) → a.directives ≡ b.directives → a.buffer ≡ b.buffer → a ≡ b
same_step a b p q = ap (λ (xs : List Directive). step_of xs a.buffer) p ∙ ap (λ (x : Buffer). step_of b.directives x) q

pub all_done-append : (moves others : List Move) (buffer : Buffer) → all_done (moves ++ others) buffer ≡ then_step (all_done moves buffer) (all_done others)
all_done-append [] others buffer = refl
all_done-append (move ∷ moves) others buffer =
    let e = all_done-append moves others (done move buffer).buffer in
    same_step _ _
    (rw e (sym (append_assoc (done move buffer).directives (all_done moves (done move buffer).buffer).directives (all_done others (all_done moves (done move buffer).buffer).buffer).directives)))
    (rw e refl)

-- some moves, and then others
pub some_more : (some moves : List Move) (was is : Buffer) (before after whole : List Directive)
    → before ++ (all_done (some ++ moves) was).directives ≡ whole
    → after ≡ before ++ (all_done some was).directives → is ≡ (all_done some was).buffer
    → after ++ (all_done moves is).directives ≡ whole
some_more some moves was is before after whole h list buffer =
    rw (list, buffer) (append_assoc before (all_done some was).directives (all_done moves (all_done some was).buffer).directives ∙ ap (λ (step : Step). before ++ step.directives) (sym (all_done-append some moves was)) ∙ h)

pub at_end : (was : Buffer) (out whole : List Directive) → out ++ (all_done [] was).directives ≡ whole → out ≡ whole
at_end was out whole h = sym (append-nil out) ∙ h

-- a function of what is left of a list, where the next entry is known
pub at_entry : {Y : Type 0} (F : List Replaced → Y) (list : List Replaced) (k : ℕ) (d x : Replaced) → k < length list → get_or list k d ≡ x → F (drop k list) ≡ F (x ∷ drop (k + 1) list)
at_entry F list k d x within is = at_drop_more F list k d within ∙ ap (λ (y : Replaced). F (y ∷ drop (k + 1) list)) is

jobs_of-cons : (x : Replaced) (list : List Replaced) → jobs_of (x ∷ list) ≡ jobs_of (x ∷ []) + jobs_of list
jobs_of-cons (entry.Fresh frame page) list = omega arith
jobs_of-cons (entry.Load frame page) list = omega arith
jobs_of-cons (entry.Save frame page) list = omega arith
jobs_of-cons (entry.Do job) list = omega arith

-- the instructions of what is left of a list
pub jobs_of-at : (list : List Replaced) (k : ℕ) (d : Replaced) → k < length list → jobs_of (drop k list) ≡ jobs_of (get_or list k d ∷ []) + jobs_of (drop (k + 1) list)
jobs_of-at list k d within = at_drop_more jobs_of list k d within ∙ jobs_of-cons (get_or list k d) (drop (k + 1) list)

pub gap_after-more : (x : Replaced) (before : List Replaced) → gap_after (x ∷ before) ≡ gap_after before + jobs_of (x ∷ [])
gap_after-more (entry.Fresh frame page) before = omega arith
gap_after-more (entry.Load frame page) before = omega arith
gap_after-more (entry.Save frame page) before = omega arith
gap_after-more (entry.Do job) before = omega arith

pub at_start : (reads : List Timed) (list : List Replaced) (buffer ahead : ℕ) (is : Buffer) (out : List Directive)
    → out ≡ [] → is ≡ idle_buffer buffer → reads ≡ timed_of buffer ahead (reads_of list)
    → out ++ (all_done (moves_from reads 0 0 list) is).directives ≡ schedule_of buffer ahead list
at_start reads list buffer ahead is out e f g = rw (e, f, g) refl

pub fresh_more : (reads : List Timed) (t i k : ℕ) (list : List Replaced) (d : Replaced) (frame page : ℕ) (was is : Buffer) (before after whole : List Directive)
    → k < length list → get_or list k d ≡ entry.Fresh frame page
    → before ++ (all_done (moves_from reads t i (drop k list)) was).directives ≡ whole
    → after ≡ before ++ (says (directive.Fresh frame page) was).directives → is ≡ (says (directive.Fresh frame page) was).buffer
    → after ++ (all_done (moves_from reads t i (drop (k + 1) list)) is).directives ≡ whole
fresh_more reads t i k list d frame page was is before after whole within at h out buffer =
    one_more (Enters frame page) (moves_from reads t i (drop (k + 1) list)) was is before after whole
    (sym (at_entry (λ xs. before ++ (all_done (moves_from reads t i xs) was).directives) list k d (entry.Fresh frame page) within at) ∙ h) out buffer

pub save_more : (reads : List Timed) (t i k : ℕ) (list : List Replaced) (d : Replaced) (frame page : ℕ) (was is : Buffer) (before after whole : List Directive)
    → k < length list → get_or list k d ≡ entry.Save frame page
    → before ++ (all_done (moves_from reads t i (drop k list)) was).directives ≡ whole
    → after ≡ before ++ (write_issued frame page was).directives → is ≡ (write_issued frame page was).buffer
    → after ++ (all_done (moves_from reads t i (drop (k + 1) list)) is).directives ≡ whole
save_more reads t i k list d frame page was is before after whole within at h out buffer =
    one_more (Writes frame page) (moves_from reads t i (drop (k + 1) list)) was is before after whole
    (sym (at_entry (λ xs. before ++ (all_done (moves_from reads t i xs) was).directives) list k d (entry.Save frame page) within at) ∙ h) out buffer

pub load_more : (reads : List Timed) (t i k : ℕ) (list : List Replaced) (d : Replaced) (frame page : ℕ) (was is : Buffer) (before after whole : List Directive)
    → k < length list → get_or list k d ≡ entry.Load frame page
    → before ++ (all_done (moves_from reads t i (drop k list)) was).directives ≡ whole
    → after ≡ before ++ (all_done (loaded (get_or reads i no_timed) frame page) was).directives → is ≡ (all_done (loaded (get_or reads i no_timed) frame page) was).buffer
    → after ++ (all_done (moves_from reads t (i + 1) (drop (k + 1) list)) is).directives ≡ whole
load_more reads t i k list d frame page was is before after whole within at h out buffer =
    some_more (loaded (get_or reads i no_timed) frame page) (moves_from reads t (i + 1) (drop (k + 1) list)) was is before after whole
    (sym (at_entry (λ xs. before ++ (all_done (moves_from reads t i xs) was).directives) list k d (entry.Load frame page) within at) ∙ h) out buffer

pub do_more : (reads : List Timed) (t i k : ℕ) (list : List Replaced) (d : Replaced) (job : Job) (was mid is : Buffer) (before middle after whole : List Directive)
    → k < length list → get_or list k d ≡ entry.Do job
    → before ++ (all_done (moves_from reads t i (drop k list)) was).directives ≡ whole
    → middle ≡ before ++ (all_done (issued_ahead reads t) was).directives → mid ≡ (all_done (issued_ahead reads t) was).buffer
    → after ≡ middle ++ (says (directive.Do job) mid).directives → is ≡ (says (directive.Do job) mid).buffer
    → after ++ (all_done (moves_from reads (t + 1) i (drop (k + 1) list)) is).directives ≡ whole
do_more reads t i k list d job was mid is before middle after whole within at h out buffer out_then buffer_then =
    let begun = sym (at_entry (λ xs. before ++ (all_done (moves_from reads t i xs) was).directives) list k d (entry.Do job) within at) ∙ h in
    let ahead = some_more (issued_ahead reads t) (Does job ∷ moves_from reads (t + 1) i (drop (k + 1) list)) was mid before middle whole begun out buffer in
    one_more (Does job) (moves_from reads (t + 1) i (drop (k + 1) list)) mid is middle after whole ahead out_then buffer_then

pub get_or_same : (reads : List Timed) (i : ℕ) (d e : Timed) → i < length reads → get_or reads i d ≡ get_or reads i e
get_or_same [] i d e h = absurd (omega arith)
get_or_same (read ∷ reads) zero d e h = refl
get_or_same (read ∷ reads) (suc i) d e h = get_or_same reads i d e (omega arith)

-- load_more, where the read is at hand
pub load_read : (reads : List Timed) (t i k : ℕ) (list : List Replaced) (d : Replaced) (frame page : ℕ) (read : Timed) (was is : Buffer) (before after whole : List Directive)
    → k < length list → get_or list k d ≡ entry.Load frame page → read ≡ get_or reads i no_timed
    → before ++ (all_done (moves_from reads t i (drop k list)) was).directives ≡ whole
    → after ≡ before ++ (all_done (loaded read frame page) was).directives → is ≡ (all_done (loaded read frame page) was).buffer
    → after ++ (all_done (moves_from reads t (i + 1) (drop (k + 1) list)) is).directives ≡ whole
load_read reads t i k list d frame page read was is before after whole within at same h out buffer =
    load_more reads t i k list d frame page was is before after whole within at h
    (out ∙ ap (λ (r : Timed). before ++ (all_done (loaded r frame page) was).directives) same)
    (buffer ∙ ap (λ (r : Timed). (all_done (loaded r frame page) was).buffer) same)

-- do_more, where the reads are lent
pub do_lent : (reads lent : List Timed) (t i k : ℕ) (list : List Replaced) (d : Replaced) (job : Job) (was mid is : Buffer) (before middle after whole : List Directive)
    → k < length list → get_or list k d ≡ entry.Do job → lent ≡ reads
    → before ++ (all_done (moves_from reads t i (drop k list)) was).directives ≡ whole
    → middle ≡ before ++ (all_done (issued_ahead lent t) was).directives → mid ≡ (all_done (issued_ahead lent t) was).buffer
    → after ≡ middle ++ (says (directive.Do job) mid).directives → is ≡ (says (directive.Do job) mid).buffer
    → after ++ (all_done (moves_from reads (t + 1) i (drop (k + 1) list)) is).directives ≡ whole
do_lent reads lent t i k list d job was mid is before middle after whole within at same h out buffer out_then buffer_then =
    do_more reads t i k list d job was mid is before middle after whole within at h
    (out ∙ ap (λ (r : List Timed). before ++ (all_done (issued_ahead r t) was).directives) same)
    (buffer ∙ ap (λ (r : List Timed). (all_done (issued_ahead r t) was).buffer) same)
    out_then buffer_then

pub within_lent : (lent reads : List Timed) (n : ℕ) → lent ≡ reads → n ≤ length lent → n ≤ length reads
within_lent lent reads n same h = let P : List Timed → Type 0 = λ xs. n ≤ length xs in subst P same h

pub before_lent : (lent reads : List Timed) (n gap : ℕ) → lent ≡ reads → AreBefore lent n gap → AreBefore reads n gap
before_lent lent reads n gap same h = let P : List Timed → Type 0 = λ xs. AreBefore xs n gap in subst P same h

pub after_lent : (lent reads : List Timed) (n gap : ℕ) → lent ≡ reads → AreFrom lent n gap → AreFrom reads n gap
after_lent lent reads n gap same h = let P : List Timed → Type 0 = λ xs. AreFrom xs n gap in subst P same h
