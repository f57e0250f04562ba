-- The transfers that a machine finished, after one step more.
use Rattle.std.proofs.Common.{◌≡◌, ◌<◌, ◌+◌, ◌==◌, ℕ, zero, suc, Bool, true, false, if◌then◌else◌, List, [], ◌∷◌, length, take, get_or, Option, Some, None, Result, Ok, Err, slice_get, refl, sym, ap, ◌∙◌, subst, arith}
use Rattle.std.proofs.lemmas.List.{get_or-set_same}
use Rattle.mage_base.specs.declared.failure.Damage.{Damage}
use Rattle.mage_instr.specs.declared.directive.Directive.{Directive}
use Rattle.mage_instr.specs.declared.directive.Directive.TheVariants as entry
use Rattle.mage_instr.specs.declared.fault.MachineFault.{MachineFault}
use Rattle.mage_instr.specs.declared.fault.MachineFault.TheVariants as stops
use Rattle.mage_driver.specs.Rules.{Rules}
use Rattle.mage_link.specs.Links.{LinkTold}
use Rattle.mage_port.specs.Port.{PortTold, SlotState, Idle, AskedRead, AskedWrite, HasFailed, IsDamaged, slot_state, Brings, Saves, Fails, Spoils}
use Rattle.mage_engine.specs.declared.turn.Turn.{Turn}
use Rattle.mage_engine.specs.declared.turn.Turn.TheVariants as turn
use Rattle.mage_engine.specs.declared.turn.Why.TheVariants as why
use Rattle.mage_engine.specs.Seen.{Seen, directive_at}
use Rattle.mage_engine.specs.Ready.{wires_of}
use Rattle.mage_engine.specs.Steps.{AtPort, IsCause, IsFall, Steps, place_after, wire_after}
use Rattle.mage_engine.specs.Tally.{reads_by, writes_by, reads_in, writes_in, HasFinished, is_damaged, IsWhole, done_by, Counts}

-- ---- one directive more

reads_next : (xs : List Directive) (d : ℕ) (x : Directive) → slice_get xs d ≡ Some x → reads_in (take (suc d) xs) ≡ reads_in (take d xs) + reads_by x
reads_next [] d x e = absurd cc
reads_next (y ∷ xs) zero x e = let same : y ≡ x = cc in let here : reads_by y ≡ reads_by x = ap reads_by same in omega (arith, here)
reads_next (y ∷ xs) (suc d) x e = let rest = reads_next xs d x e in omega (arith, rest)

writes_next : (xs : List Directive) (d : ℕ) (x : Directive) → slice_get xs d ≡ Some x → writes_in (take (suc d) xs) ≡ writes_in (take d xs) + writes_by x
writes_next [] d x e = absurd cc
writes_next (y ∷ xs) zero x e = let same : y ≡ x = cc in let here : writes_by y ≡ writes_by x = ap writes_by same in omega (arith, here)
writes_next (y ∷ xs) (suc d) x e = let rest = writes_next xs d x e in omega (arith, rest)

-- the port after a directive, whose counts rose by what it finishes
pub record Rises (before after : PortTold) (reads writes : ℕ) : Type 0 where
  pub reads_rise : after.reads ≡ before.reads + reads
  pub writes_rise : after.writes ≡ before.writes + writes

same_counts : (before after : PortTold) → after.reads ≡ before.reads → after.writes ≡ before.writes → Rises before after 0 0
same_counts before after r w = record { reads_rise = omega (arith, r); writes_rise = omega (arith, w) }

same_port : (before after : PortTold) → after ≡ before → Rises before after 0 0
same_port before after e = same_counts before after (ap (λ (p : PortTold). p.reads) e) (ap (λ (p : PortTold). p.writes) e)

brought_one : (before after : PortTold) (slot : ℕ) (bytes : List ℕ) (state : SlotState) → Brings before after slot bytes state → Rises before after 1 0
brought_one before after slot bytes Idle h = absurd h
brought_one before after slot bytes (AskedRead page) h =
    let w : after.writes ≡ before.writes = ap (λ (p : PortTold). p.writes) h.1 in
    record { reads_rise = ap (λ (p : PortTold). p.reads) h.1; writes_rise = omega (arith, w) }
brought_one before after slot bytes (AskedWrite page held) h = absurd h
brought_one before after slot bytes (HasFailed page) h = absurd h
brought_one before after slot bytes (IsDamaged damage) h = absurd h

saved_one : (before after : PortTold) (slot : ℕ) (state : SlotState) → Saves before after slot state → Rises before after 0 1
saved_one before after slot Idle h = absurd h
saved_one before after slot (AskedRead page) h = absurd h
saved_one before after slot (AskedWrite page held) h =
    let r : after.reads ≡ before.reads = ap (λ (p : PortTold). p.reads) h in
    record { reads_rise = omega (arith, r); writes_rise = ap (λ (p : PortTold). p.writes) h }
saved_one before after slot (HasFailed page) h = absurd h
saved_one before after slot (IsDamaged damage) h = absurd h

at_port : (x : Directive) (bank filled : ℕ → List ℕ) (before after : PortTold) → AtPort (Some x) bank filled before after → Rises before after (reads_by x) (writes_by x)
at_port (entry.Fresh frame page) bank filled before after h = same_port before after h
at_port (entry.IssueIn slot page) bank filled before after h =
    same_counts before after (ap (λ (p : PortTold). p.reads) h) (ap (λ (p : PortTold). p.writes) h)
at_port (entry.FinishIn slot frame) bank filled before after h = brought_one before after slot (filled frame) (slot_state before slot) h
at_port (entry.IssueOut slot frame page) bank filled before after h =
    same_counts before after (ap (λ (p : PortTold). p.reads) h) (ap (λ (p : PortTold). p.writes) h)
at_port (entry.FinishOut slot) bank filled before after h = saved_one before after slot (slot_state before slot) h
at_port (entry.Do job) bank filled before after h = same_port before after h

module _ (first before after : PortTold) (xs : List Directive) (d : ℕ) (counts : HasFinished first before (take d xs)) where
  -- a port whose counts stay, at the same place
  pub still : Rises before after 0 0 → HasFinished first after (take d xs)
  still rises =
      let r = rises.reads_rise in let w = rises.writes_rise in let cr = counts.reads in let cw = counts.writes in
      record { reads = omega (arith, r, cr); writes = omega (arith, w, cw) }

  -- a directive more
  more : (x : Directive) → slice_get xs d ≡ Some x → Rises before after (reads_by x) (writes_by x) → HasFinished first after (take (suc d) xs)
  more x here rises =
      let r = rises.reads_rise in let w = rises.writes_rise in let cr = counts.reads in let cw = counts.writes in
      let nr = reads_next xs d x here in let nw = writes_next xs d x here in
      record { reads = omega (arith, r, cr, nr); writes = omega (arith, w, cw, nw) }

  -- a directive that finishes nothing, of which perhaps a wire is left
  passing : (x : Directive) → slice_get xs d ≡ Some x → reads_by x ≡ 0 → writes_by x ≡ 0 → Rises before after (reads_by x) (writes_by x) → (last : Bool) → HasFinished first after (take (if last then suc d else d) xs)
  passing x here r0 w0 rises true = more x here rises
  passing x here r0 w0 rises false =
      let r : after.reads ≡ before.reads + 0 = rises.reads_rise ∙ ap (λ n. before.reads + n) r0 in
      let w : after.writes ≡ before.writes + 0 = rises.writes_rise ∙ ap (λ n. before.writes + n) w0 in
      still (record { reads_rise = r; writes_rise = w })

  -- a directive that isn't handed over wire by wire
  whole : (x : Directive) (wire : ℕ) → slice_get xs d ≡ Some x → wires_of (Some x) ≡ 1 → wire < wires_of (Some x) → Rises before after (reads_by x) (writes_by x) → HasFinished first after (take (place_after (Some x) wire d) xs)
  whole x wire here one less rises =
      let none : wire ≡ zero = omega (arith, one, less) in
      let last : (suc wire == wires_of (Some x)) ≡ true = ap (λ w. suc w == wires_of (Some x)) none ∙ ap (λ n. suc zero == n) one in
      subst (λ (b : Bool). HasFinished first after (take (if b then suc d else d) xs)) (sym last) (more x here rises)

  placed : (x : Directive) (wire : ℕ) → slice_get xs d ≡ Some x → wire < wires_of (Some x) → Rises before after (reads_by x) (writes_by x) → HasFinished first after (take (place_after (Some x) wire d) xs)
  placed (entry.Fresh frame page) wire here less rises = whole (entry.Fresh frame page) wire here refl less rises
  placed (entry.IssueIn slot page) wire here less rises = whole (entry.IssueIn slot page) wire here refl less rises
  placed (entry.FinishIn slot frame) wire here less rises = whole (entry.FinishIn slot frame) wire here refl less rises
  placed (entry.IssueOut slot frame page) wire here less rises = whole (entry.IssueOut slot frame page) wire here refl less rises
  placed (entry.FinishOut slot) wire here less rises = whole (entry.FinishOut slot) wire here refl less rises
  placed (entry.Do job) wire here less rises = passing (entry.Do job) here refl refl rises (suc wire == wires_of (Some (entry.Do job)))

-- a step that moved, by the directive
moved_on : (first before after : PortTold) (xs : List Directive) (d wire : ℕ) (o : Option Directive) (bank filled : ℕ → List ℕ) → slice_get xs d ≡ o → wire < wires_of o →
    HasFinished first before (take d xs) → AtPort o bank filled before after → HasFinished first after (take (place_after o wire d) xs)
moved_on first before after xs d wire None bank filled here less counts h = still first before after xs d counts (same_port before after h)
moved_on first before after xs d wire (Some x) bank filled here less counts h =
    placed first before after xs d counts x wire here less (at_port x bank filled before after h)

-- ---- faults

fails_same : (before after : PortTold) (slot : ℕ) (state : SlotState) → Fails before after slot state → Rises before after 0 0
fails_same before after slot Idle h = absurd h
fails_same before after slot (AskedRead page) h = same_counts before after (ap (λ (p : PortTold). p.reads) h) (ap (λ (p : PortTold). p.writes) h)
fails_same before after slot (AskedWrite page bytes) h = same_counts before after (ap (λ (p : PortTold). p.reads) h.1) (ap (λ (p : PortTold). p.writes) h.1)
fails_same before after slot (HasFailed page) h = same_port before after h
fails_same before after slot (IsDamaged damage) h = absurd h

-- a slot that was asked for a page is one of the slots
is_within : (states : List SlotState) (slot page : ℕ) → get_or states slot Idle ≡ AskedRead page → slot < length states
is_within [] slot page e = absurd cc
is_within (s ∷ states) zero page e = omega arith
is_within (s ∷ states) (suc slot) page e = let rest = is_within states slot page e in omega (arith, rest)

spoiled_slot : (before after : PortTold) (slot : ℕ) (damage : Damage) (state : SlotState) → slot_state before slot ≡ state → Spoils before after slot damage state → slot_state after slot ≡ IsDamaged damage
spoiled_slot before after slot damage Idle e h = absurd h
spoiled_slot before after slot damage (AskedRead page) e h =
    ap (λ (p : PortTold). slot_state p slot) h.1.left ∙ get_or-set_same before.slots slot (IsDamaged damage) Idle (is_within before.slots slot page e)
spoiled_slot before after slot damage (AskedWrite page bytes) e h = absurd h
spoiled_slot before after slot damage (HasFailed page) e h = absurd h
spoiled_slot before after slot damage (IsDamaged found) e h =
    ap (λ (p : PortTold). slot_state p slot) h.1 ∙ e ∙ ap IsDamaged (sym h.0)

-- ---- steps

module _ {W : Type 0} (rules : Rules W) (first : PortTold) (old new : Seen rules.State) (before after : LinkTold) (sound : old.fault ≡ None) where
  abbrev pub At : Seen rules.State → Type 0
  At machine = Counts machine.fault first machine

  counts_now : At old → HasFinished first old.port (done_by old)
  counts_now counts = subst (λ (f : Option MachineFault). Counts f first old) sound counts

  -- a machine without a fault
  without : (m : Seen rules.State) → m.fault ≡ None → HasFinished first m.port (done_by m) → At m
  without m none counts = subst (λ (f : Option MachineFault). Counts f first m) (sym none) counts

  cause_counts : (fault : MachineFault) → IsCause rules old new fault → HasFinished first old.port (done_by old) → At new
  cause_counts stops.Store h counts =
      subst At (sym h.3) (still first old.port new.port old.part.directives old.place counts (fails_same old.port new.port h.0 (slot_state old.port h.0) h.2))
  cause_counts (stops.Damaged damage) h counts =
      subst At (sym h.3) (h.0, spoiled_slot old.port new.port h.0 damage (slot_state old.port h.0) refl h.2)
  cause_counts (stops.Driver fault) h counts = subst At (sym h.1) counts

  fall_counts : (was : Option MachineFault) (fault : MachineFault) → was ≡ None → IsFall rules old new was fault → HasFinished first old.port (done_by old) → At new
  fall_counts None fault none h counts = cause_counts fault h counts
  fall_counts (Some f) fault none h counts = absurd cc

  -- each step of a machine without a fault keeps its counts
  pub still_counts : (result : Result Turn MachineFault) → old.wire < wires_of (directive_at old) → Steps rules old new before after result → At old → At new
  still_counts (Ok (turn.Moved kind)) less h counts =
      subst At (sym h.rest) (without (record old { driver = new.driver; port = new.port; place = place_after (directive_at old) old.wire old.place; wire = wire_after (directive_at old) old.wire; bank = new.bank }) sound
      (moved_on first old.port new.port old.part.directives old.place old.wire (directive_at old) old.bank new.bank refl less (counts_now counts) h.port))
  still_counts (Ok (turn.Blocked (why.Slot slot))) less h counts =
      let port = h.2.0 in
      subst At (sym h.1) (without (record old { port = new.port }) sound
      (still first old.port new.port old.part.directives old.place (counts_now counts)
      (same_counts old.port new.port (ap (λ (p : PortTold). p.reads) port) (ap (λ (p : PortTold). p.writes) port))))
  still_counts (Ok (turn.Blocked (why.Full to))) less h counts = subst At (sym h.1) counts
  still_counts (Ok (turn.Blocked (why.Empty from))) less h counts = subst At (sym h.1) counts
  still_counts (Ok turn.Ended) less h counts = subst At (sym h.1) counts
  still_counts (Err fault) less h counts = fall_counts old.fault fault sound h.0 (counts_now counts)

-- ---- the end

-- where no slot is damaged, the counts rose by what was done
pub counts_at_end : {S : Type 0} (first : PortTold) (machine : Seen S) (fault : Option MachineFault) → Counts fault first machine → IsWhole machine.port → HasFinished first machine.port (done_by machine)
counts_at_end first machine None counts is_whole = counts
counts_at_end first machine (Some stops.Store) counts is_whole = counts
counts_at_end first machine (Some (stops.Driver fault)) counts is_whole = counts
counts_at_end first machine (Some (stops.Damaged damage)) counts is_whole =
    let damaged : is_damaged (slot_state machine.port counts.0) ≡ true = ap is_damaged counts.1 in
    let never : true ≡ false = sym damaged ∙ is_whole counts.0 in
    absurd cc

-- past the last directive all are done
all_done : {X : Type 0} (xs : List X) (d : ℕ) → slice_get xs d ≡ None → take d xs ≡ xs
all_done [] zero e = refl
all_done [] (suc d) e = refl
all_done (x ∷ xs) zero e = absurd cc
all_done (x ∷ xs) (suc d) e = ap (λ ys. x ∷ ys) (all_done xs d e)

pub counts_of_all : {S : Type 0} (first : PortTold) (machine : Seen S) (fault : Option MachineFault) → Counts fault first machine → IsWhole machine.port → directive_at machine ≡ None → HasFinished first machine.port machine.part.directives
counts_of_all first machine fault counts is_whole past =
    subst (λ (xs : List Directive). HasFinished first machine.port xs) (all_done machine.part.directives machine.place past) (counts_at_end first machine fault counts is_whole)

-- a port of which nothing was asked yet
pub not_begun : (port : PortTold) → HasFinished port port []
not_begun port = record { reads = omega arith; writes = omega arith }
