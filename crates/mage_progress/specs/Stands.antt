-- How far the workers of a memory program are, and how many wires lie on the links between them. What their drivers and stores
-- hold has no part in it.
use Rattle.std.specs.Prelude.{◌≡◌, ◌⊎◌, ◌≢◌, ◌≤◌, ◌<◌, ◌+◌, ◌-◌, ℕ, zero, suc, List, [], ◌∷◌, length, map, drop, Bool, true, false, ◌&&◌, if◌then◌else◌, nat_eq, Option, None, Some, slice_get}
use Rattle.mage_instr.specs.declared.directive.Directive.{Directive}
use Rattle.mage_instr.specs.declared.directive.Directive.TheVariants as entry
use Rattle.mage_instr.specs.declared.op.Op.{Op}
use Rattle.mage_instr.specs.declared.op.Op.TheVariants as op
use Rattle.mage_verify.specs.Joint.{lists_at}
use Rattle.mage_verify.specs.Parts.{WorkerPart}
use Rattle.mage_engine.specs.Ready.{wires_of}
use Rattle.mage_engine.specs.Seen.{is_finished}
use Rattle.mage_engine.specs.Steps.{place_after, wire_after, standing_after}

-- how far a worker is: how many directives are done, how many wires of the one that comes next, and whether its driver is
-- finished
pub record Stand : Type 0 where
  pub place : ℕ
  pub wire : ℕ
  pub finished : Bool

-- how many wires lie on each link
abbrev pub Held : Type 0
Held = (source target : ℕ) → ℕ

-- nothing is done
abbrev pub at_first : Stand
at_first = record { place = 0; wire = 0; finished = false }

-- the directives of each worker; none beside the workers
abbrev pub directives_in : List WorkerPart → (worker : ℕ) → List Directive
directives_in parts worker = lists_at (map (λ part. part.directives) parts) worker

-- the directive at which a worker stands; none past the last one
abbrev pub next_in : List WorkerPart → (stands : ℕ → Stand) → (worker : ℕ) → Option Directive
next_in parts stands worker = slice_get (directives_in parts worker) (stands worker).place

-- a worker that stands here is past its last directive, and its driver is finished
pub record HasEnded (next : Option Directive) (stand : Stand) : Type 0 where
  pub past : next ≡ None
  pub finished : stand.finished ≡ true

-- ---- one step

-- where a worker stands after a step at this directive: a wire further, and past the last directive its driver is finished
abbrev pub stand_after : Option Directive → Stand → Stand
stand_after next stand = record {
  place = place_after next stand.wire stand.place;
  wire = wire_after next stand.wire;
  finished = is_finished (standing_after next);
}

-- so many wires lie on one link
abbrev pub with_held : Held → (source target count : ℕ) → Held
with_held held source target count s t =
    if nat_eq source s && nat_eq target t then count else held s t

abbrev pub AreSame : (held left : Held) → Type 0
AreSame held left = (s t : ℕ) → left s t ≡ held s t

-- A Send puts a wire on its link, and a Recv takes one, where there is one. No other instruction touches a link.
abbrev pub HandsOver : Op → (imm worker : ℕ) → (held left : Held) → Type 0
HandsOver op.Send imm worker held left =
    AreSame (with_held held worker imm (suc (held worker imm))) left
HandsOver op.Recv imm worker held left =
    (count : ℕ) × (held imm worker ≡ suc count) × AreSame (with_held held imm worker count) left
HandsOver _ imm worker held left = AreSame held left

abbrev pub AtLinks : Option Directive → (worker : ℕ) → (held left : Held) → Type 0
AtLinks (Some (entry.Do job)) worker held left = HandsOver job.op job.imm worker held left
AtLinks _ worker held left = AreSame held left

-- One worker that hasn't ended makes a step, whatever lies on the link to which it sends.
pub record GoesOn (parts : List WorkerPart) (worker : ℕ) (stands : ℕ → Stand) (held : Held)
    (later : ℕ → Stand) (left : Held) : Type 0 where
  pub runs : HasEnded (next_in parts stands worker) (stands worker) → ⊥
  pub stand : later worker ≡ stand_after (next_in parts stands worker) (stands worker)
  pub others : (other : ℕ) → other < length parts → worker ≢ other → later other ≡ stands other
  pub links : AtLinks (next_in parts stands worker) worker held left

-- what some steps lead to, from where nothing is done and no wire lies on any link
pub data IsReached (parts : List WorkerPart) : (ℕ → Stand) → Held → Type 0 where
  Starts : {stands : ℕ → Stand} {held : Held} →
      ((worker : ℕ) → worker < length parts → stands worker ≡ at_first) →
      ((s t : ℕ) → held s t ≡ 0) → IsReached parts stands held
  Goes : {stands later : ℕ → Stand} {held left : Held} {worker : ℕ} →
      IsReached parts stands held → worker < length parts →
      GoesOn parts worker stands held later left → IsReached parts later left

-- ---- waiting

-- a worker waits at a link: at a Send where as many wires lie on it as it holds, at a Recv where none does
abbrev pub WaitsAt : Op → (imm capacity worker : ℕ) → Held → Type 0
WaitsAt op.Send imm capacity worker held = capacity ≤ held worker imm
WaitsAt op.Recv imm capacity worker held = held imm worker ≡ 0
WaitsAt _ imm capacity worker held = ⊥

abbrev pub Waits : Option Directive → (capacity worker : ℕ) → Held → Type 0
Waits (Some (entry.Do job)) capacity worker held = WaitsAt job.op job.imm capacity worker held
Waits _ capacity worker held = ⊥

-- a worker that has ended, or waits at a link
abbrev pub StandsStill : List WorkerPart → (stands : ℕ → Stand) → (capacity worker : ℕ) → Held →
    Type 0
StandsStill parts stands capacity worker held =
    HasEnded (next_in parts stands worker) (stands worker)
    ⊎ Waits (next_in parts stands worker) capacity worker held

-- ---- what is still to come

-- the wires of some directives, where each but a Send or Recv counts as one
abbrev pub wires_in : List Directive → ℕ
wires_in [] = 0
wires_in (directive ∷ directives) = wires_of (Some directive) + wires_in directives

-- the steps that a worker has still to make: a wire each, and the end of its driver
abbrev pub left_for : List Directive → Stand → ℕ
left_for directives stand =
    wires_in (drop stand.place directives) - stand.wire + (if stand.finished then 0 else 1)

-- the same of so many workers
abbrev pub left_below : List WorkerPart → (stands : ℕ → Stand) → (count : ℕ) → ℕ
left_below parts stands zero = 0
left_below parts stands (suc count) =
    left_below parts stands count + left_for (directives_in parts count) (stands count)

abbrev pub left_of : List WorkerPart → (stands : ℕ → Stand) → ℕ
left_of parts stands = left_below parts stands (length parts)
