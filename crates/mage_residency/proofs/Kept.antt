-- What holds of memory and store while a list of the rule is walked through.
use Rattle.std.proofs.Common.{◌≡◌, ◌≢◌, ◌<◌, ◌≤◌, ℕ, false, true, List, Some, IsSomeAnd, length, get_or}
use Rattle.std.specs.Prelude.{slice_get}
use Rattle.mage_instr.specs.declared.instr.TheConstants.{NEVER}
use Rattle.mage_instr.specs.declared.instr.Instr.{Instr}
use Rattle.mage_instr.specs.declared.instr.Place.{Place}
use Rattle.mage_instr.specs.declared.instr.Step.{Step}
use Rattle.mage_next.specs.Next.{first_use}
use Rattle.mage_place.specs.Live.{IsLive}
use Rattle.mage_place.specs.Places.{place_of}
use Rattle.mage_place.proofs.SoundFacts.{Defined}
use Rattle.mage_belady.specs.Plan.{is_in, AreDistinct}
use Rattle.mage_belady.specs.Rule.{Held, resident}
use Rattle.mage_carry.specs.State.{Content, State}
use Rattle.mage_residency.proofs.Dirty.{is_dirty}

module _ (frames : ℕ) (instrs : List Instr) (places : List Place) where
  -- each value that is live before instruction t and has its place on page q stands there
  abbrev pub HasLive : Content → (t q : ℕ) → Type 0
  HasLive content t q = (v : ℕ) → IsLive instrs t v → (place_of places v).page ≡ q → content (place_of places v).offset ≡ Some v

  -- the steps before instruction t had the page of each value so far
  abbrev pub Known : (t : ℕ) (seen : List ℕ) → Type 0
  Known t seen = (v : ℕ) → v < t → Defined instrs v → is_in (place_of places v).page seen ≡ true

  -- Before instruction t, whose step is the first of these: frames have the live values of their pages, and so have those
  -- pages in the store that a later step may read there, which are those that aren't dirty in memory.
  pub record Keeps (t : ℕ) (seen : List ℕ) (held : List Held) (steps : List Step) (s : State) : Type 0 where
    pub count : length s.frames ≡ frames
    pub next : s.next ≡ t
    pub distinct : AreDistinct (resident held)
    pub fits : length held ≤ frames
    pub in_frames : (f : ℕ) → f < length held → IsSomeAnd (slice_get s.frames f) (λ content. HasLive content t (get_or (resident held) f 0))
    pub in_store : (q : ℕ) → is_in q seen ≡ true → is_dirty q held ≡ false → first_use steps t q ≢ NEVER → IsSomeAnd (s.pages q) (λ content. HasLive content t q)

  -- the same, where frame f is still to get its page
  pub record KeepsBut (f t : ℕ) (seen : List ℕ) (held : List Held) (steps : List Step) (s : State) : Type 0 where
    pub count : length s.frames ≡ frames
    pub next : s.next ≡ t
    pub distinct : AreDistinct (resident held)
    pub fits : length held ≤ frames
    pub others : (g : ℕ) → g < length held → g ≢ f → IsSomeAnd (slice_get s.frames g) (λ content. HasLive content t (get_or (resident held) g 0))
    pub in_store : (q : ℕ) → is_in q seen ≡ true → is_dirty q held ≡ false → first_use steps t q ≢ NEVER → IsSomeAnd (s.pages q) (λ content. HasLive content t q)
