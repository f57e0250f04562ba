-- A step of one machine takes it further, and leaves the others where they are.
use Rattle.std.proofs.Common.{◌≡◌, ◌≢◌, ◌<◌, ◌≤◌, ◌+◌, ◌==◌, ◌&&◌, ◌++◌, ℕ, zero, suc, Bool, true, false, cond, List, [], ◌∷◌, take, set, get_or, Option, None, Some, slice_get, nat_eq, refl, sym, ap, ◌∙◌, subst, arith}
use Rattle.std.specs.Prelude.{IfSome, IsTrue}
use Rattle.std.proofs.lemmas.Bool.Decides.{nat_tests}
use Rattle.mage_instr.specs.declared.directive.Directive.{Directive}
use Rattle.mage_instr.specs.declared.directive.Directive.TheVariants as entry
use Rattle.mage_instr.specs.declared.op.Op.{Op}
use Rattle.mage_instr.specs.declared.op.Op.TheVariants as op
use Rattle.mage_directives.specs.Directives.{IsDirective}
use Rattle.mage_driver.specs.Rules.{Rules}
use Rattle.mage_driver.specs.Calls.{Told}
use Rattle.mage_link.specs.Links.{LinkTold, Wires, with_wire}
use Rattle.mage_link.specs.Queues.{QueueState, queue_told}
use Rattle.mage_port.specs.Port.{PortTold, SlotState, Idle, AskedRead, AskedWrite, HasFailed, IsDamaged, slot_state, with_state, Brings, Saves}
use Rattle.mage_verify.specs.Parts.{WorkerPart}
use Rattle.mage_engine.specs.declared.turn.Kind.{Kind}
use Rattle.mage_engine.specs.Seen.{Seen, directive_at}
use Rattle.mage_engine.specs.Ready.{Connects, wires_of, wires_of_op, target_of, source_of}
use Rattle.mage_engine.specs.Steps.{IsMove, AtPort, AtLink, OverLink, place_after, wire_after, first_worker}
use Rattle.mage_engine.proofs.Advancing.{some_wires}
use Rattle.mage_engine.proofs.Along.{still_along}
use Rattle.mage_core.specs.Turns.{SameWires}
use Rattle.mage_core.specs.Paging.{first_paged}
use Rattle.mage_core.proofs.Paging.{KeepsPaging, keeps_paging, over_still, over_on}
use Rattle.mage_core.specs.Going.{Start, IsGoing, is_sound, read_in, reads_of, write_in, writes_of}
use Rattle.mage_core.proofs.Storing.{contains_at, port_keeps}

-- ---- counts

-- what counts of the directive that comes next
abbrev counts_next : (f : Directive → ℕ) → Option Directive → ℕ
counts_next f None = 0
counts_next f (Some x) = f x

reads_more : (xs : List Directive) (d : ℕ) → reads_of (take (suc d) xs) ≡ reads_of (take d xs) + counts_next read_in (slice_get xs d)
reads_more [] zero = omega arith
reads_more [] (suc d) = omega arith
reads_more (x ∷ xs) zero = omega arith
reads_more (x ∷ xs) (suc d) = let rest = reads_more xs d in omega (arith, rest)

writes_more : (xs : List Directive) (d : ℕ) → writes_of (take (suc d) xs) ≡ writes_of (take d xs) + counts_next write_in (slice_get xs d)
writes_more [] zero = omega arith
writes_more [] (suc d) = omega arith
writes_more (x ∷ xs) zero = omega arith
writes_more (x ∷ xs) (suc d) = let rest = writes_more xs d in omega (arith, rest)

-- a directive that is done one wire at a time isn't a finish
halfway : (x : Directive) (wire : ℕ) → wire < wires_of (Some x) → (suc wire == wires_of (Some x)) ≡ false → (read_in x ≡ 0) × (write_in x ≡ 0)
halfway (entry.Fresh frame page) wire less off = (refl, refl)
halfway (entry.IssueIn slot page) wire less off = (refl, refl)
halfway (entry.FinishIn slot frame) wire less off = absurd (not_first wire less off)
  where
    not_first : (wire : ℕ) → wire < 1 → (suc wire == 1) ≡ false → ⊥
    not_first zero l e = cc
    not_first (suc n) l e = omega arith
halfway (entry.IssueOut slot frame page) wire less off = (refl, refl)
halfway (entry.FinishOut slot) wire less off = absurd (not_first wire less off)
  where
    not_first : (wire : ℕ) → wire < 1 → (suc wire == 1) ≡ false → ⊥
    not_first zero l e = cc
    not_first (suc n) l e = omega arith
halfway (entry.Do job) wire less off = (refl, refl)

-- the counts up to where a machine stands after a step
module _ (xs : List Directive) (place wire : ℕ) where
  abbrev here : Option Directive
  here = slice_get xs place

  reads_then : (o : Option Directive) → o ≡ here → wire < wires_of o →
      reads_of (take (place_after o wire place) xs) ≡ reads_of (take place xs) + counts_next read_in o
  reads_then None is less = omega arith
  reads_then (Some x) is less = go (suc wire == wires_of (Some x)) refl
    where
      go : (b : Bool) → (suc wire == wires_of (Some x)) ≡ b →
          reads_of (take (cond b (suc place) place) xs) ≡ reads_of (take place xs) + read_in x
      go true e = reads_more xs place ∙ ap (λ o. reads_of (take place xs) + counts_next read_in o) (sym is)
      go false e = let none = (halfway x wire less e).0 in omega (arith, none)

  writes_then : (o : Option Directive) → o ≡ here → wire < wires_of o →
      writes_of (take (place_after o wire place) xs) ≡ writes_of (take place xs) + counts_next write_in o
  writes_then None is less = omega arith
  writes_then (Some x) is less = go (suc wire == wires_of (Some x)) refl
    where
      go : (b : Bool) → (suc wire == wires_of (Some x)) ≡ b →
          writes_of (take (cond b (suc place) place) xs) ≡ writes_of (take place xs) + write_in x
      go true e = writes_more xs place ∙ ap (λ o. writes_of (take place xs) + counts_next write_in o) (sym is)
      go false e = let none = (halfway x wire less e).1 in omega (arith, none)

-- ---- wires

wire_then : (worker : ℕ) (xs : List Directive) (place wire : ℕ) → ((d : ℕ) → IfSome (slice_get xs d) (IsDirective 16 worker)) →
    (o : Option Directive) → o ≡ slice_get xs place → wire < wires_of o → wire_after o wire < wires_of (slice_get xs (place_after o wire place))
wire_then worker xs place wire each None is less = subst (λ o. wire < wires_of o) is less
wire_then worker xs place wire each (Some x) is less = go (suc wire == wires_of (Some x)) refl
  where
    go : (b : Bool) → (suc wire == wires_of (Some x)) ≡ b → cond b 0 (suc wire) < wires_of (slice_get xs (cond b (suc place) place))
    go true e = some_wires worker (slice_get xs (suc place)) (each (suc place))
    go false e = subst (λ o. suc wire < wires_of o) is (more wire (wires_of (Some x)) less e)
      where
        more : (wire width : ℕ) → wire < width → (suc wire == width) ≡ false → suc wire < width
        more wire width l off = grind (arith, nat_tests)

-- ---- ports

-- what a step does to a port
record PortGoes (o : Option Directive) (before after : PortTold) : Type 0 where
  handed : after.handed_in ≡ before.handed_in
  reads : after.reads ≡ before.reads + counts_next read_in o
  writes : after.writes ≡ before.writes + counts_next write_in o
  slots : ((slot : ℕ) → is_sound (slot_state before slot) ≡ true) → (slot : ℕ) → is_sound (slot_state after slot) ≡ true

same_port : (o : Option Directive) (before after : PortTold) → counts_next read_in o ≡ 0 → counts_next write_in o ≡ 0 → after ≡ before →
    PortGoes o before after
same_port o before after r w e = record {
  handed = ap (λ (p : PortTold). p.handed_in) e;
  reads = (let same : after.reads ≡ before.reads = ap (λ (p : PortTold). p.reads) e in omega (arith, same, r));
  writes = (let same : after.writes ≡ before.writes = ap (λ (p : PortTold). p.writes) e in omega (arith, same, w));
  slots = λ sound slot. ap (λ (p : PortTold). is_sound (slot_state p slot)) e ∙ sound slot;
}

-- a slot that is set to a sound state leaves all sound
set_sound : (states : List SlotState) (slot : ℕ) (state : SlotState) → is_sound state ≡ true →
    ((other : ℕ) → is_sound (get_or states other Idle) ≡ true) → (other : ℕ) → is_sound (get_or (set states slot state) other Idle) ≡ true
set_sound [] zero state ok all other = all other
set_sound [] (suc slot) state ok all other = all other
set_sound (x ∷ xs) zero state ok all zero = ok
set_sound (x ∷ xs) zero state ok all (suc other) = all (suc other)
set_sound (x ∷ xs) (suc slot) state ok all zero = all zero
set_sound (x ∷ xs) (suc slot) state ok all (suc other) = set_sound xs slot state ok (λ o. all (suc o)) other

brings_goes : (slot frame : ℕ) (bytes : List ℕ) (before after : PortTold) (state : SlotState) → Brings before after slot bytes state →
    PortGoes (Some (entry.FinishIn slot frame)) before after
brings_goes slot frame bytes before after Idle h = absurd h
brings_goes slot frame bytes before after (AskedRead page) h = record {
  handed = ap (λ (p : PortTold). p.handed_in) h.1;
  reads = ap (λ (p : PortTold). p.reads) h.1;
  writes = (let same : after.writes ≡ before.writes = ap (λ (p : PortTold). p.writes) h.1 in omega (arith, same));
  slots = λ sound other. ap (λ (p : PortTold). is_sound (slot_state p other)) h.1 ∙ set_sound before.slots slot Idle refl sound other;
}
brings_goes slot frame bytes before after (AskedWrite page b) h = absurd h
brings_goes slot frame bytes before after (HasFailed page) h = absurd h
brings_goes slot frame bytes before after (IsDamaged damage) h = absurd h

saves_goes : (slot : ℕ) (before after : PortTold) (state : SlotState) → Saves before after slot state →
    PortGoes (Some (entry.FinishOut slot)) before after
saves_goes slot before after Idle h = absurd h
saves_goes slot before after (AskedRead page) h = absurd h
saves_goes slot before after (AskedWrite page b) h = record {
  handed = ap (λ (p : PortTold). p.handed_in) h;
  reads = (let same : after.reads ≡ before.reads = ap (λ (p : PortTold). p.reads) h in omega (arith, same));
  writes = ap (λ (p : PortTold). p.writes) h;
  slots = λ sound other. ap (λ (p : PortTold). is_sound (slot_state p other)) h ∙ set_sound before.slots slot Idle refl sound other;
}
saves_goes slot before after (HasFailed page) h = absurd h
saves_goes slot before after (IsDamaged damage) h = absurd h

asks_goes : (o : Option Directive) (slot : ℕ) (state : SlotState) (before after : PortTold) → counts_next read_in o ≡ 0 → counts_next write_in o ≡ 0 →
    is_sound state ≡ true → after ≡ with_state before slot state → PortGoes o before after
asks_goes o slot state before after r w ok e = record {
  handed = ap (λ (p : PortTold). p.handed_in) e;
  reads = (let same : after.reads ≡ before.reads = ap (λ (p : PortTold). p.reads) e in omega (arith, same, r));
  writes = (let same : after.writes ≡ before.writes = ap (λ (p : PortTold). p.writes) e in omega (arith, same, w));
  slots = λ sound other. ap (λ (p : PortTold). is_sound (slot_state p other)) e ∙ set_sound before.slots slot state ok sound other;
}

port_goes : (o : Option Directive) (bank filled : ℕ → List ℕ) (before after : PortTold) → AtPort o bank filled before after → PortGoes o before after
port_goes None bank filled before after h = same_port None before after refl refl h
port_goes (Some (entry.Fresh frame page)) bank filled before after h = same_port (Some (entry.Fresh frame page)) before after refl refl h
port_goes (Some (entry.IssueIn slot page)) bank filled before after h =
    asks_goes (Some (entry.IssueIn slot page)) slot (AskedRead page) before after refl refl refl h
port_goes (Some (entry.FinishIn slot frame)) bank filled before after h = brings_goes slot frame (filled frame) before after (slot_state before slot) h
port_goes (Some (entry.IssueOut slot frame page)) bank filled before after h =
    asks_goes (Some (entry.IssueOut slot frame page)) slot (AskedWrite page (bank frame)) before after refl refl refl h
port_goes (Some (entry.FinishOut slot)) bank filled before after h = saves_goes slot before after (slot_state before slot) h
port_goes (Some (entry.Do job)) bank filled before after h = same_port (Some (entry.Do job)) before after refl refl h

-- ---- links

-- what another worker does over the links leaves those of a worker
pub record LeavesLinks (worker : ℕ) (before after : LinkTold) : Type 0 where
  pub received : (source : ℕ) → after.received source worker ≡ before.received source worker
  pub sent : (target : ℕ) → after.sent worker target ≡ before.sent worker target

leaves_same : (worker : ℕ) (before after : LinkTold) → after ≡ before → LeavesLinks worker before after
leaves_same worker before after e = record {
  received = λ source. ap (λ (l : LinkTold). l.received source worker) e;
  sent = λ target. ap (λ (l : LinkTold). l.sent worker target) e;
}

and_false : (b : Bool) → (b && false) ≡ false
and_false true = refl
and_false false = refl

off_test : (n m : ℕ) → n ≢ m → nat_eq n m ≡ false
off_test n m ne = grind (arith, nat_tests)

sends_leave : (wires : Wires) (other to worker : ℕ) (wire : List ℕ) → other ≢ worker → (target : ℕ) →
    with_wire wires other to wire worker target ≡ wires worker target
sends_leave wires other to worker wire ne target =
    ap (λ b. cond (b && nat_eq to target) (wires other to ++ wire ∷ []) (wires worker target)) (off_test other worker ne)

takes_leave : (wires : Wires) (from other worker : ℕ) (wire : List ℕ) → other ≢ worker → (source : ℕ) →
    with_wire wires from other wire source worker ≡ wires source worker
takes_leave wires from other worker wire ne source =
    ap (λ b. cond (nat_eq from source && b) (wires from other ++ wire ∷ []) (wires source worker)) (off_test other worker ne)
    ∙ ap (λ b. cond b (wires from other ++ wire ∷ []) (wires source worker)) (and_false (nat_eq from source))

over_leaves : (o : Op) (imm other worker : ℕ) (before after : LinkTold) → other ≢ worker → OverLink o imm other before after →
    LeavesLinks worker before after
over_leaves op.Send imm other worker before after ne h = record {
  received = λ source. ap (λ (l : LinkTold). l.received source worker) h.1;
  sent = λ target. ap (λ (l : LinkTold). l.sent worker target) h.1 ∙ sends_leave before.sent other imm worker h.0 ne target;
}
over_leaves op.Recv imm other worker before after ne h = record {
  received = λ source. ap (λ (l : LinkTold). l.received source worker) h.1 ∙ takes_leave before.received imm other worker h.0 ne source;
  sent = λ target. ap (λ (l : LinkTold). l.sent worker target) h.1;
}
over_leaves _ imm other worker before after ne h = leaves_same worker before after h

pub link_leaves : (o : Option Directive) (other worker : ℕ) (before after : LinkTold) → other ≢ worker → AtLink o other before after →
    LeavesLinks worker before after
link_leaves None other worker before after ne h = leaves_same worker before after h
link_leaves (Some (entry.Fresh frame page)) other worker before after ne h = leaves_same worker before after h
link_leaves (Some (entry.IssueIn slot page)) other worker before after ne h = leaves_same worker before after h
link_leaves (Some (entry.FinishIn slot frame)) other worker before after ne h = leaves_same worker before after h
link_leaves (Some (entry.IssueOut slot frame page)) other worker before after ne h = leaves_same worker before after h
link_leaves (Some (entry.FinishOut slot)) other worker before after ne h = leaves_same worker before after h
link_leaves (Some (entry.Do job)) other worker before after ne h = over_leaves job.op job.imm other worker before after ne h

-- whoever may use links may use them after answers that were waited
pub connects_beside : (before after : QueueState) (part : WorkerPart) → SameWires before after → Connects (queue_told before) part → Connects (queue_told after) part
connects_beside before after part same c = let told = same.told in record {
  within = subst (λ (l : LinkTold). part.worker < l.workers) (sym told) c.within;
  allowed = subst (λ (l : LinkTold). IsTrue (l.may_be_me part.worker)) (sym told) c.allowed;
  targets = subst (λ (l : LinkTold). (d : ℕ) → IfSome (slice_get part.directives d)
      (λ directive. IfSome (target_of directive) (λ other. other < l.workers))) (sym told) c.targets;
  sources = subst (λ (l : LinkTold). (d : ℕ) → IfSome (slice_get part.directives d)
      (λ directive. IfSome (source_of directive) (λ other. other < l.workers))) (sym told) c.sources;
}

-- ---- a machine

module _ {W : Type 0} (rules : Rules W) (start : Start rules.State) (worker : ℕ) where
  -- where the links are the same for a worker, its machine stands as it stood
  pub goes_still : (machine : Seen rules.State) (before after : QueueState) → ((part : WorkerPart) → Connects (queue_told before) part → Connects (queue_told after) part) →
      LeavesLinks machine.part.worker (queue_told before) (queue_told after) → IsGoing rules start worker before machine → IsGoing rules start worker after machine
  goes_still machine before after connects leaves g = record {
    part = g.part;
    number = g.number;
    safe = g.safe;
    runs = g.runs;
    sound = g.sound;
    wire = g.wire;
    faults = g.faults;
    told = g.told;
    handed = g.handed;
    reads = g.reads;
    writes = g.writes;
    slots = g.slots;
    store = g.store;
    connects = connects start.part g.connects;
    along = λ is. let was = g.along is in record {
      bank = was.bank;
      holds = was.holds;
      said = was.said;
      along = λ rest. let a = was.along rest in record {
        past = a.past;
        leads = a.leads;
        says = a.says;
        takes = λ m. a.takes m ∙ sym (leaves.received m);
        sends = λ m. a.sends m ∙ sym (leaves.sent m);
      };
    };
    keeps = g.keeps;
    over = λ is right. over_still rules (first_paged rules start.part.limits.page start.driver.state) machine (queue_told before) (queue_told after)
        leaves.received leaves.sent (g.over is right);
  }

  -- answers that others wait leave it too
  pub goes_beside : (machine : Seen rules.State) (before after : QueueState) → SameWires before after →
      IsGoing rules start worker before machine → IsGoing rules start worker after machine
  goes_beside machine before after same g =
      goes_still machine before after
      (λ part c. connects_beside before after part same c)
      (record {
        received = λ source. ap (λ (l : LinkTold). l.received source machine.part.worker) same.told;
        sent = λ target. ap (λ (l : LinkTold). l.sent machine.part.worker target) same.told;
      }) g

  -- a step takes it further
  module _ (old new : Seen rules.State) (before after : QueueState) (kind : Kind) (move : IsMove rules old new (queue_told before) (queue_told after) kind)
      (connects : (part : WorkerPart) → Connects (queue_told before) part → Connects (queue_told after) part) (g : IsGoing rules start worker before old) where
    next_so : directive_at old ≡ slice_get start.part.directives old.place
    next_so = ap (λ (p : WorkerPart). slice_get p.directives old.place) g.part

    place_so : new.place ≡ place_after (directive_at old) old.wire old.place
    place_so = ap (λ (m : Seen rules.State). m.place) move.rest

    goes_port : PortGoes (directive_at old) old.port new.port
    goes_port = port_goes (directive_at old) old.bank new.bank old.port new.port move.port

    kept_port : KeepsPaging old.port new.port
    kept_port = keeps_paging (directive_at old) old.bank new.bank old.port new.port move.port move.asks

    part_so : new.part ≡ start.part
    part_so = ap (λ (m : Seen rules.State). m.part) move.rest ∙ g.part

    pub goes_on : IsGoing rules start worker after new
    goes_on = record {
      part = part_so;
      number = g.number;
      safe = g.safe;
      runs = g.runs;
      sound = ap (λ (m : Seen rules.State). m.fault) move.rest ∙ g.sound;
      wire = subst (λ n. n < wires_of (directive_at new)) (sym (ap (λ (m : Seen rules.State). m.wire) move.rest))
          (subst (λ (p : WorkerPart). wire_after (directive_at old) old.wire < wires_of (slice_get p.directives new.place)) (sym part_so)
          (subst (λ n. wire_after (directive_at old) old.wire < wires_of (slice_get start.part.directives n)) (sym place_so)
          (wire_then start.part.worker start.part.directives old.place old.wire g.safe.fields.each (directive_at old) next_so g.wire)));
      faults = ap (λ (d : Told rules.State). d.faults) move.driver ∙ g.faults;
      told = ap (λ (d : Told rules.State). d.told) move.driver ∙ g.told;
      handed = goes_port.handed ∙ g.handed;
      reads = (let more = goes_port.reads in let was = g.reads in
          let then = reads_then start.part.directives old.place old.wire (directive_at old) next_so g.wire in
          let sum : new.port.reads ≡ start.store.reads + reads_of (take (place_after (directive_at old) old.wire old.place) start.part.directives) =
          omega (arith, more, was, then) in
          sum ∙ ap (λ n. start.store.reads + reads_of (take n start.part.directives)) (sym place_so));
      writes = (let more = goes_port.writes in let was = g.writes in
          let then = writes_then start.part.directives old.place old.wire (directive_at old) next_so g.wire in
          let sum : new.port.writes ≡ start.store.writes + writes_of (take (place_after (directive_at old) old.wire old.place) start.part.directives) =
          omega (arith, more, was, then) in
          sum ∙ ap (λ n. start.store.writes + writes_of (take n start.part.directives)) (sym place_so));
      slots = goes_port.slots g.slots;
      store = port_keeps start.part start.store (directive_at old) old.bank new.bank old.port new.port move.port
          (contains_at start.part.directives old.place (directive_at old) next_so) g.store;
      connects = connects start.part g.connects;
      along = λ is. still_along rules (first_worker rules start.part.limits.page start.driver.state) old new (queue_told before) (queue_told after) kind move
          (subst IsTrue (sym g.told) is) (g.along is);
      keeps = kept_port.keeps g.keeps;
      over = λ is right. over_on rules (first_paged rules start.part.limits.page start.driver.state) old new (queue_told before) (queue_told after) kind move
          g.sound (subst IsTrue (sym g.told) is) g.keeps right (g.over is (kept_port.right right));
    }

  -- a step of another machine leaves it
  pub goes_by : (machine old new : Seen rules.State) (before after : QueueState) (kind : Kind) → IsMove rules old new (queue_told before) (queue_told after) kind →
      ((part : WorkerPart) → Connects (queue_told before) part → Connects (queue_told after) part) → old.part.worker ≢ machine.part.worker →
      IsGoing rules start worker before machine → IsGoing rules start worker after machine
  goes_by machine old new before after kind move connects ne g =
      goes_still machine before after connects (link_leaves (directive_at old) old.part.worker machine.part.worker (queue_told before) (queue_told after) ne move.link) g
