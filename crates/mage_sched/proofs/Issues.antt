-- The gaps in which reads are issued, one after the other.
use Rattle.std.proofs.Common.{◌≡◌, ◌≤◌, ◌<◌, ◌+◌, ◌-◌, ℕ, zero, suc, max, List, [], ◌∷◌, ◌++◌, length, get_or, drop, append_assoc, refl, sym, ◌∙◌, ap, arith}
use Rattle.std.proofs.lemmas.List.{at_drop_more}
use Rattle.mage_sched.specs.declared.read.Read.{Read}
use Rattle.mage_sched.specs.declared.read.Timed.{Timed}
use Rattle.mage_sched.specs.Reads.{no_read, earliest, issue_of, timed_from, timed_of}
use Rattle.mage_sched.specs.Views.{AreOrdered, issue_at}

-- the gap in which the read before read i is issued, or 0
abbrev pub issue_before : (buffer ahead : ℕ) → List Read → (i : ℕ) → ℕ
issue_before buffer ahead reads zero = 0
issue_before buffer ahead reads (suc i) = issue_of buffer ahead reads i

pub issue_of-max : (buffer ahead : ℕ) (reads : List Read) (i : ℕ) → max (earliest buffer ahead reads i) (issue_before buffer ahead reads i) ≡ issue_of buffer ahead reads i
issue_of-max buffer ahead reads zero = omega arith
issue_of-max buffer ahead reads (suc i) = omega arith

pub issue_before-next : (buffer ahead : ℕ) (reads : List Read) (i : ℕ) → issue_before buffer ahead reads (i + 1) ≡ issue_of buffer ahead reads i
issue_before-next buffer ahead reads i = let e : i + 1 ≡ suc i = omega arith in rw e refl

issue_of-rises : (buffer ahead : ℕ) (reads : List Read) (i : ℕ) → issue_of buffer ahead reads i ≤ issue_of buffer ahead reads (suc i)
issue_of-rises buffer ahead reads i = omega arith

pub issue_of-ordered : (buffer ahead : ℕ) (reads : List Read) (i n : ℕ) → issue_of buffer ahead reads i ≤ issue_of buffer ahead reads (n + i)
issue_of-ordered buffer ahead reads i zero = let e : 0 + i ≡ i = omega arith in rw e (omega arith)
issue_of-ordered buffer ahead reads i (suc n) =
    let e : suc n + i ≡ suc (n + i) = omega arith in
    rw e (omega (arith, issue_of-ordered buffer ahead reads i n, issue_of-rises buffer ahead reads (n + i)))

-- read k of those from number i on
issue_at-from : (buffer ahead : ℕ) (reads rest : List Read) (i k : ℕ) → k < length (timed_from buffer ahead reads i rest) → issue_at (timed_from buffer ahead reads i rest) k ≡ issue_of buffer ahead reads (k + i)
issue_at-from buffer ahead reads [] i k h = absurd (omega arith)
issue_at-from buffer ahead reads (read ∷ rest) i zero h = let e : 0 + i ≡ i = omega arith in rw e refl
issue_at-from buffer ahead reads (read ∷ rest) i (suc k) h =
    let e : suc k + i ≡ k + (i + 1) = omega arith in
    rw e (issue_at-from buffer ahead reads rest (i + 1) k (omega arith))

pub timed_of-ordered : (buffer ahead : ℕ) (reads : List Read) → AreOrdered (timed_of buffer ahead reads)
timed_of-ordered buffer ahead reads = record {
  order = λ j k le within.
      let a : issue_at (timed_of buffer ahead reads) j ≡ issue_of buffer ahead reads (j + 0) = issue_at-from buffer ahead reads reads 0 j (omega arith) in
      let b : issue_at (timed_of buffer ahead reads) k ≡ issue_of buffer ahead reads (k + 0) = issue_at-from buffer ahead reads reads 0 k within in
      let e : k + 0 ≡ (k - j) + (j + 0) = omega arith in
      let c : issue_of buffer ahead reads (j + 0) ≤ issue_of buffer ahead reads ((k - j) + (j + 0)) = issue_of-ordered buffer ahead reads (j + 0) (k - j) in
      rw (a, b, e) c;
}

pub length-timed_from : (buffer ahead : ℕ) (reads rest : List Read) (i : ℕ) → length (timed_from buffer ahead reads i rest) ≡ length rest
length-timed_from buffer ahead reads [] i = refl
length-timed_from buffer ahead reads (read ∷ rest) i = ap suc (length-timed_from buffer ahead reads rest (i + 1))

-- one more read
pub timed_more : (buffer ahead : ℕ) (reads : List Read) (i : ℕ) (was is whole : List Timed) (page due issue : ℕ)
    → i < length reads
    → was ++ timed_from buffer ahead reads i (drop i reads) ≡ whole
    → is ≡ was ++ record { page = page; due = due; issue = issue } ∷ []
    → page ≡ (get_or reads i no_read).page → due ≡ (get_or reads i no_read).due → issue ≡ issue_of buffer ahead reads i
    → is ++ timed_from buffer ahead reads (i + 1) (drop (i + 1) reads) ≡ whole
timed_more buffer ahead reads i was is whole page due issue within h pushed e f g =
    rw (pushed, e, f, g) (append_assoc was (record { page = (get_or reads i no_read).page; due = (get_or reads i no_read).due; issue = issue_of buffer ahead reads i } ∷ []) (timed_from buffer ahead reads (i + 1) (drop (i + 1) reads))
    ∙ sym (at_drop_more (λ xs. was ++ timed_from buffer ahead reads i xs) reads i no_read within) ∙ h)
