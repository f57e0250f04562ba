-- The plan of residency in which the page that is used latest leaves.
use Rattle.std.specs.Prelude.{◌≡◌, ◌≤◌, ◌+◌, ◌&&◌, ℕ, min, List, [], ◌∷◌, ◌++◌, Bool, true, false, not, if◌then◌else◌, length, map, set, nat_eq, nat_lt, slice_index_or, Option, Some, None}
use Rattle.std.specs.List.{filter, sum_by}
use Rattle.mage_instr.specs.declared.instr.TheConstants.{NEVER}
use Rattle.mage_instr.specs.declared.instr.Instr.{Instr}
use Rattle.mage_instr.specs.declared.instr.Place.{Place}
use Rattle.mage_instr.specs.declared.instr.Step.{Step}
use Rattle.mage_instr.specs.declared.replaced.Job.{Job}
use Rattle.mage_instr.specs.declared.replaced.Spot.{Spot}
use Rattle.mage_instr.specs.declared.replaced.Replaced.{Replaced}
use Rattle.mage_instr.specs.declared.replaced.Replaced.TheVariants as entry
use Rattle.mage_instr.specs.declared.replaced.Tight.{Tight}
use Rattle.mage_instr.specs.declared.replaced.Tight.TheVariants as tight
use Rattle.mage_instr.specs.Trace.{pages_of, IsTrace}
use Rattle.mage_instr.specs.Opcodes.{arity_of, has_result}
use Rattle.mage_instr.specs.Sound.{arg_of}
use Rattle.mage_next.specs.Next.{first_use}
use Rattle.mage_belady.specs.Plan.{is_in, Serves, reads_of}

-- what a frame in use has: a page, and whether a result was put in it since it came in
pub record Held : Type 0 where
  pub page : ℕ
  pub dirty : Bool

-- the pages in memory, by frame: frames are taken from 0 on, and none is given back
abbrev pub resident : List Held → List ℕ
resident held = map (λ h. h.page) held

-- of two pages the one that leaves first: the one that is used later, and of two that are used
-- alike the lower
abbrev pub later_of : (next : ℕ → ℕ) → (p q : ℕ) → ℕ
later_of next p q =
    if nat_lt (next p) (next q) then q
    else if nat_lt (next q) (next p) then p
    else min p q

-- of some pages the one that leaves first
abbrev pub victim_of : (next : ℕ → ℕ) → List ℕ → ℕ
victim_of next [] = 0
victim_of next (p ∷ []) = p
victim_of next (p ∷ q ∷ pages) = later_of next p (victim_of next (q ∷ pages))

-- of the pages in memory outside a step the one that leaves first
abbrev pub victim_in : (next : ℕ → ℕ) (pages : List ℕ) (held : List Held) → ℕ
victim_in next pages held = victim_of next (filter (λ p. not (is_in p pages)) (resident held))

-- the frame that has a page
abbrev pub frame_of : ℕ → List ℕ → ℕ
frame_of page [] = 0
frame_of page (p ∷ pages) = if nat_eq page p then 0 else frame_of page pages + 1

-- what is emitted, and what the frames have then
pub record Moved : Type 0 where
  pub entries : List Replaced
  pub held : List Held

-- a page comes into a frame
abbrev pub entering : (seen : List ℕ) (frame page : ℕ) → Replaced
entering seen frame page = if is_in page seen then entry.Load frame page else entry.Fresh frame page

-- a page comes into the next free frame
abbrev pub into_free : (seen : List ℕ) (held : List Held) (page : ℕ) → Moved
into_free seen held page = record {
  entries = entering seen (length held) page ∷ [];
  held = held ++ record { page = page; dirty = false } ∷ [];
}

-- a page comes into the frame of a victim outside the step, which is saved where it is dirty and
-- used again
abbrev pub into_victims : (next : ℕ → ℕ) (seen pages : List ℕ) (held : List Held)
    (page : ℕ) → Moved
into_victims next seen pages held page =
    let victim = victim_in next pages held in
    let frame = frame_of victim (resident held) in
    let dirty = (slice_index_or held frame (record { page = 0; dirty = false })).dirty in
    let used_again = not (nat_eq (next victim) NEVER) in
    record {
      entries = (if dirty && used_again then entry.Save frame victim ∷ [] else [])
          ++ entering seen frame page ∷ [];
      held = set held frame (record { page = page; dirty = false });
    }

-- a page that is not in memory comes in
abbrev pub brought_in : (frames : ℕ) (next : ℕ → ℕ) (seen pages : List ℕ) (held : List Held)
    (page : ℕ) → Moved
brought_in frames next seen pages held page =
    if nat_lt (length held) frames then into_free seen held page
    else into_victims next seen pages held page

-- a page of the step comes in, where it is not in memory
abbrev pub visited : (frames : ℕ) (next : ℕ → ℕ) (seen pages : List ℕ) (held : List Held)
    (page : ℕ) → Moved
visited frames next seen pages held page =
    if is_in page (resident held) then record { entries = []; held = held }
    else brought_in frames next seen pages held page

-- the pages of the step in their order
abbrev pub all_brought_in : (frames : ℕ) (next : ℕ → ℕ) (seen pages todo : List ℕ)
    (held : List Held) → Moved
all_brought_in frames next seen pages [] held = record { entries = []; held = held }
all_brought_in frames next seen pages (page ∷ todo) held =
    let one = visited frames next seen pages held page in
    let rest = all_brought_in frames next seen pages todo one.held in
    record { entries = one.entries ++ rest.entries; held = rest.held }

-- the place of the value of instruction v
abbrev pub place_of : List Place → (v : ℕ) → Place
place_of places v = slice_index_or places v (record { page = 0; offset = 0 })

-- a place in its frame
abbrev pub spot_in : List Held → Place → Spot
spot_in held place = record { frame = frame_of place.page (resident held); offset = place.offset }

-- what stands for no spot
abbrev pub no_spot : Spot
no_spot = record { frame = 0; offset = 0 }

-- the spot of argument k of an instruction
abbrev pub arg_spot : List Held → List Place → Instr → (k : ℕ) → Spot
arg_spot held places i k =
    if nat_lt k (arity_of i.op) then spot_in held (place_of places (arg_of i k)) else no_spot

-- the spot of the result of the instruction at index t
abbrev pub result_spot : List Held → List Place → (t : ℕ) → Instr → Spot
result_spot held places t i =
    if has_result i.op then spot_in held (place_of places t) else no_spot

-- the instruction at index t with its spots
abbrev pub job_in : List Held → List Place → (t : ℕ) → Instr → Job
job_in held places t i = record {
  op = i.op;
  width = i.width;
  imm = i.imm;
  out = result_spot held places t i;
  args = arg_spot held places i 0 ∷ arg_spot held places i 1 ∷ arg_spot held places i 2 ∷ [];
}

-- a result is put in a page
abbrev pub written : (page : ℕ) → List Held → List Held
written page held =
    set held (frame_of page (resident held)) (record { page = page; dirty = true })

-- the frames after the instruction at index t, whose result is put in its page
abbrev pub after_result : List Place → (t : ℕ) → Instr → List Held → List Held
after_result places t i held =
    if has_result i.op then written (place_of places t).page held else held

-- the list from index t on, where the steps before had the pages `seen`
abbrev pub rule_from : (frames : ℕ) (places : List Place) (t : ℕ) (seen : List ℕ)
    (held : List Held) → List Instr → List Step → List Replaced
rule_from frames places t seen held (i ∷ instrs) (step ∷ steps) =
    let pages = pages_of step in
    let moved = all_brought_in frames (first_use steps (t + 1)) seen pages pages held in
    let after = after_result places t i moved.held in
    let rest = rule_from frames places (t + 1) (seen ++ pages) after instrs steps in
    moved.entries ++ entry.Do (job_in moved.held places t i) ∷ rest
rule_from frames places t seen held [] steps = []
rule_from frames places t seen held (i ∷ instrs) [] = []

-- the list that the rule gives: at first no frame is in use
abbrev pub rule_of : (frames : ℕ) (instrs : List Instr) (places : List Place)
    (trace : List Step) → List Replaced
rule_of frames instrs places trace = rule_from frames places 0 [] [] instrs trace

-- the page reads of a list
abbrev pub loads_of : List Replaced → ℕ
loads_of [] = 0
loads_of (entry.Load frame page ∷ list) = 1 + loads_of list
loads_of (_ ∷ list) = loads_of list

-- the pages in memory, by frame, once a frame has taken a page
abbrev pub taken : (frame page : ℕ) → List ℕ → List ℕ
taken frame page memory =
    if nat_lt frame (length memory) then set memory frame page else memory ++ page ∷ []

-- the pages in memory at each instruction of a list
abbrev pub sets_from : (memory : List ℕ) → List Replaced → List (List ℕ)
sets_from memory [] = []
sets_from memory (entry.Fresh frame page ∷ list) = sets_from (taken frame page memory) list
sets_from memory (entry.Load frame page ∷ list) = sets_from (taken frame page memory) list
sets_from memory (entry.Save frame page ∷ list) = sets_from memory list
sets_from memory (entry.Do job ∷ list) = memory ∷ sets_from memory list

-- the plan of residency of a list
abbrev pub sets_of : List Replaced → List (List ℕ)
sets_of list = sets_from [] list

-- the pages of each step
abbrev pub pages_by_step : List Step → List (List ℕ)
pages_by_step trace = map pages_of trace

-- how many pages the steps have, each step counted by itself
abbrev pub page_uses : List Step → ℕ
page_uses trace = sum_by (λ step. step.count) trace

-- the first step, where they are numbered from t, with more pages than there are frames
abbrev pub tight_of : (frames t : ℕ) → List Step → Option Tight
tight_of frames t [] = None
tight_of frames t (step ∷ steps) =
    if nat_lt frames step.count then Some (tight.Frames t step.count frames)
    else tight_of frames (t + 1) steps

-- A list's sets are a plan of residency for a trace, its loads are what they read, and no plan that
-- serves reads fewer.
pub record ReadsLeast (list : List Replaced) (trace : List (List ℕ)) (frames : ℕ) : Type 0 where
  pub serves : Serves (sets_of list) trace frames
  pub reads : reads_of (sets_of list) trace ≡ loads_of list
  pub least : (plan : List (List ℕ)) → Serves plan trace frames
      → loads_of list ≤ reads_of plan trace

-- The rule's list reads least, where no step has more pages than there are frames.
abbrev pub RuleReadsLeast : Type 0
RuleReadsLeast =
    (frames : ℕ) (instrs : List Instr) (places : List Place) (trace : List Step)
    → IsTrace trace → length instrs ≡ length trace → tight_of frames 0 trace ≡ None
    → ReadsLeast (rule_of frames instrs places trace) (pages_by_step trace) frames
