-- Frames of so many bytes each, and the values that fit them.
use Rattle.std.proofs.Common.{◌≡◌, ◌≤◌, ◌<◌, ◌+◌, ◌*◌, ℕ, zero, suc, List, [], ◌∷◌, length, get_or, replicate, refl, sym, ap, ap₂, ◌∙◌, subst, arith}
use Rattle.std.proofs.lemmas.List.{length-map, length-replicate}
use Rattle.std.proofs.lemmas.Nat.{mul-le}
use Rattle.mage_instr.specs.declared.replaced.Job.{Job}
use Rattle.mage_instr.specs.declared.replaced.Spot.{Spot}
use Rattle.mage_bank.specs.Bank.{bank_of, lengths_of, AreOf, Lies}
use Rattle.mage_bank.specs.Jobs.{Fits, JobFits, JobLies}

pub count_is : (count bytes : ℕ) (frames : List (List ℕ)) → AreOf count bytes frames → length frames ≡ count
count_is count bytes frames are = sym (length-map frames (λ (f : List ℕ). length f)) ∙ ap (λ l. length l) are ∙ length-replicate count bytes

-- frames of zeros are all as long
pub zeros_are_of : (count bytes : ℕ) (frames : List (List ℕ)) → frames ≡ replicate count (replicate bytes 0) → AreOf count bytes frames
zeros_are_of count bytes frames zeros = ap lengths_of zeros ∙ go count
  where
    go : (n : ℕ) → lengths_of (replicate n (replicate bytes 0)) ≡ replicate n bytes
    go zero = refl
    go (suc n) = ap₂ (λ x xs. x ∷ xs) (length-replicate bytes 0) (go n)

each_long : (other : List ℕ) (count bytes i : ℕ) (frames : List (List ℕ)) → AreOf count bytes frames → i < count →
    length (get_or frames i other) ≡ bytes
each_long other zero bytes i frames are inside = absurd (omega arith)
each_long other (suc count) bytes i [] are inside = absurd (cc)
each_long other (suc count) bytes zero (f ∷ frames) are inside = cc
each_long other (suc count) bytes (suc i) (f ∷ frames) are inside = each_long other count bytes i frames (cc) (omega arith)

pub frame_long : (count bytes i : ℕ) (frames : List (List ℕ)) → AreOf count bytes frames → i < count → length (bank_of frames i) ≡ bytes
frame_long count bytes i frames are inside = each_long (replicate (length (get_or frames 0 [])) 0) count bytes i frames are inside

-- a value that fits a page lies within a frame of that many bytes
pub value_lies : (wire_bytes count page : ℕ) (frames : List (List ℕ)) (width : ℕ) (spot : Spot) → AreOf count (page * wire_bytes) frames →
    Fits count page width spot → Lies wire_bytes frames spot width
value_lies wire_bytes count page frames width spot are fits =
    let n = count_is count (page * wire_bytes) frames are in
    let f : spot.frame < count = fits.0 in
    record {
      frame = omega arith;
      within = subst (λ n. (spot.offset + width) * wire_bytes ≤ n) (sym (frame_long count (page * wire_bytes) spot.frame frames are fits.0))
          (mul-le (spot.offset + width) wire_bytes page wire_bytes fits.1 (omega arith));
    }

pub job_lies : (wire_bytes count page : ℕ) (frames : List (List ℕ)) (job : Job) → AreOf count (page * wire_bytes) frames →
    JobFits count page job → JobLies wire_bytes frames job
job_lies wire_bytes count page frames job are fits = record {
  result = λ has. value_lies wire_bytes count page frames _ job.out are (fits.result has);
  args = λ k has. value_lies wire_bytes count page frames _ _ are (fits.args k has);
}
