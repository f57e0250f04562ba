-- The directives of a walk that comes to its end are orderly.
use Rattle.std.proofs.Common.{◌≡◌, ◌≢◌, ◌<◌, ℕ, zero, suc, Bool, true, false, cond, List, [], ◌∷◌, length, take, get_or, set, nat_eq, nat_lt, Option, Some, None, IfSome, refl, sym, ap, ◌∙◌, slice_get, ◌&&◌, is_some, unwrap_or, option_map}
use Rattle.std.proofs.lemmas.Bool.{eq-eqb}
use Rattle.std.proofs.lemmas.Option.{slice_get_within, get_or_from_slice_get}
use Rattle.std.specs.List.{list_all}
use Rattle.mage_instr.specs.declared.directive.Directive.{Directive}
use Rattle.mage_instr.specs.declared.directive.Directive.TheVariants as entry
use Rattle.mage_instr.specs.declared.instr.Instr.{Instr}
use Rattle.mage_instr.specs.declared.replaced.Job.{Job}
use Rattle.mage_instr.specs.Opcodes.{has_result, width_of_result}
use Rattle.mage_network.specs.Network as net
use Rattle.mage_steps.specs.Orderly.{Flight, Reading, Writing, page_of_flight, flights_after, flights_after_all, IsStill, Fits, IsOrderly}
use Rattle.mage_carry.specs.State as walk
use Rattle.mage_carry.specs.Steps.{◌>>=◌, provided, page_read, after_write, do_job, step_of, counted, result_put, result_at, is_job_of, finds_all, placed, is_within, read_by}
use Rattle.mage_carry.specs.Carrying.{is_over}
use Rattle.mage_carried.proofs.Relation.{slot_in, set_at}
use Rattle.mage_carried.proofs.Transfers.{provided_so, both_so, MayBegin, may_begin}
use Rattle.mage_carried.proofs.Standing.{WalksOn, walks_first}

-- what a slot of the walk has in flight
abbrev pub flight_of : walk.Slot → Option Flight
flight_of walk.Idle = None
flight_of (walk.Reads page) = Some (Reading page)
flight_of (walk.Writes page content) = Some (Writing page)

abbrev pub FlightsMatch : walk.State → (ℕ → Option Flight) → Type 0
FlightsMatch w flights = (s : ℕ) → flight_of (slot_in w s) ≡ flights s

-- one slot changes in both
match_put : (w : walk.State) (flights : ℕ → Option Flight) (slot : ℕ) (x : walk.Slot) → slot < length w.slots → FlightsMatch w flights →
    (s : ℕ) → flight_of (get_or (set w.slots slot x) s walk.Idle) ≡ net.put flights slot (flight_of x) s
match_put w flights slot x within h s =
    ap flight_of (set_at w.slots slot s x walk.Idle within) ∙ go (nat_eq slot s)
  where
    go : (b : Bool) → flight_of (cond b x (slot_in w s)) ≡ cond b (flight_of x) (flights s)
    go true = refl
    go false = h s

named_so : (p : ℕ) (x : walk.Slot) (flight : Flight) → flight_of x ≡ Some flight → page_of_flight flight ≡ p → walk.names p x ≡ true
named_so p walk.Idle flight e f = absurd cc
named_so p (walk.Reads q) flight e f =
    eq-eqb p q (sym f ∙ ap page_of_flight (sym (let s : Some (Reading q) ≡ Some flight = e in (let t : Reading q ≡ flight = cc in t))))
named_so p (walk.Writes q c) flight e f =
    eq-eqb p q (sym f ∙ ap page_of_flight (sym (let s : Some (Writing q) ≡ Some flight = e in (let t : Writing q ≡ flight = cc in t))))

still_so : (w : walk.State) (flights : ℕ → Option Flight) (slot p : ℕ) → MayBegin w slot p → FlightsMatch w flights → IsStill flights p
still_so w flights slot p may h s = go (flights s) refl
  where
    go : (o : Option Flight) → flights s ≡ o → IfSome o (λ flight. page_of_flight flight ≢ p)
    go None e = tt
    go (Some flight) e = λ same. let t : true ≡ false = sym (named_so p (slot_in w s) flight (h s ∙ e) same) ∙ may.still s in absurd cc

-- what a step does to slots, and that it fits
pub record StepFits (w after : walk.State) (flights : ℕ → Option Flight) (x : Directive) : Type 0 where
  pub fits : Fits flights x
  pub next : FlightsMatch after (flights_after flights x)

same_slots : (w after : walk.State) (flights : ℕ → Option Flight) → w.slots ≡ after.slots → FlightsMatch w flights → FlightsMatch after flights
same_slots w after flights e h s = ap (λ slots. flight_of (get_or slots s walk.Idle)) (sym e) ∙ h s

slot_reads : (o : Option walk.Slot) (p : ℕ) → (elim o [ None ↦ None | Some x ↦ read_by x ]) ≡ Some p → o ≡ Some (walk.Reads p)
slot_reads None p e = absurd cc
slot_reads (Some walk.Idle) p e = absurd cc
slot_reads (Some (walk.Reads q)) p e = (let s : Some q ≡ Some p = e in ap (λ r. Some (walk.Reads r)) (let t : q ≡ p = cc in t))
slot_reads (Some (walk.Writes q c)) p e = absurd cc

job_slots : (instrs : List Instr) (wires : ℕ) (w after : walk.State) (job : Job) → do_job instrs wires job w ≡ Some after →
    w.slots ≡ after.slots
job_slots instrs wires w after job e = go (slice_get instrs w.next) e
  where
    put_slots : (i : Instr) (ready : walk.State) → option_map counted (result_put instrs wires i job ready) ≡ Some after →
        ready.slots ≡ after.slots
    put_slots i ready f = go' (has_result i.op) f
      where
        go'' : (o : Option walk.Content) → option_map counted (o >>= (λ content. provided (is_within wires (width_of_result i.op i.width) job.out)
            (walk.with_frame job.out.frame (placed instrs job.out.offset (width_of_result i.op i.width) ready.next content) ready))) ≡ Some after →
            ready.slots ≡ after.slots
        go'' None g = absurd cc
        go'' (Some content) g = go3 (is_within wires (width_of_result i.op i.width) job.out) g
          where
            go3 : (b : Bool) → option_map counted (provided b
                (walk.with_frame job.out.frame (placed instrs job.out.offset (width_of_result i.op i.width) ready.next content) ready)) ≡ Some after →
                ready.slots ≡ after.slots
            go3 false h = absurd cc
            go3 true h = ap (λ (s : walk.State). s.slots)
                (let t : Some (counted (walk.with_frame job.out.frame (placed instrs job.out.offset (width_of_result i.op i.width) ready.next content) ready)) ≡ Some after = h in
                (let u : counted (walk.with_frame job.out.frame (placed instrs job.out.offset (width_of_result i.op i.width) ready.next content) ready) ≡ after = cc in u))

        go' : (b : Bool) → option_map counted (cond b (result_at instrs wires (width_of_result i.op i.width) job.out ready) (Some ready)) ≡ Some after →
            ready.slots ≡ after.slots
        go' true g = go'' (slice_get ready.frames job.out.frame) g
        go' false g = ap (λ (s : walk.State). s.slots)
            (let t : Some (counted ready) ≡ Some after = g in (let u : counted ready ≡ after = cc in u))

    go : (o : Option Instr) → (o >>= (λ i. provided (is_job_of i job && finds_all wires w.frames i job) w
        >>= (λ ready. option_map counted (result_put instrs wires i job ready)))) ≡ Some after → w.slots ≡ after.slots
    go None f = absurd cc
    go (Some i) f = go' (is_job_of i job && finds_all wires w.frames i job) f
      where
        go' : (b : Bool) → (provided b w >>= (λ ready. option_map counted (result_put instrs wires i job ready))) ≡ Some after →
            w.slots ≡ after.slots
        go' false g = absurd cc
        go' true g = put_slots i w g

step_fits : (instrs : List Instr) (wires store : ℕ) (w after : walk.State) (flights : ℕ → Option Flight) (x : Directive) →
    step_of instrs wires store w x ≡ Some after → FlightsMatch w flights → StepFits w after flights x
step_fits instrs wires store w after flights (entry.Fresh frame page) e h =
    let p = provided_so (nat_lt frame (length w.frames)) (walk.with_frame frame walk.nothing w) after e in
    record { fits = tt; next = same_slots w after flights (ap (λ (s : walk.State). s.slots) p.1) h }
step_fits instrs wires store w after flights (entry.IssueIn slot page) e h =
    let p = provided_so (walk.may_issue store slot page w.slots && is_some (w.pages page)) (walk.with_slot slot (walk.Reads page) w) after e in
    let may = may_begin w store slot page (both_so (walk.may_issue store slot page w.slots) (is_some (w.pages page)) p.0).0 in
    record {
      fits = (sym (h slot) ∙ ap flight_of may.idle, still_so w flights slot page may h);
      next = λ s. ap (λ (a : walk.State). flight_of (slot_in a s)) (sym p.1) ∙ match_put w flights slot (walk.Reads page) may.within h s;
    }
step_fits instrs wires store w after flights (entry.FinishIn slot frame) e h = go (page_read slot w.slots) refl e
  where
    go : (o : Option ℕ) → page_read slot w.slots ≡ o →
        (o >>= (λ p. provided (nat_lt frame (length w.frames))
        (walk.with_slot slot walk.Idle (walk.with_frame frame (unwrap_or (w.pages p) walk.nothing) w)))) ≡ Some after →
        StepFits w after flights (entry.FinishIn slot frame)
    go None e' f = absurd cc
    go (Some p) e' f =
        let q = provided_so (nat_lt frame (length w.frames))
        (walk.with_slot slot walk.Idle (walk.with_frame frame (unwrap_or (w.pages p) walk.nothing) w)) after f in
        let r = slot_reads (slice_get w.slots slot) p e' in
        record {
          fits = (p, sym (h slot) ∙ ap flight_of (get_or_from_slice_get w.slots slot (walk.Reads p) walk.Idle r));
          next = λ s. ap (λ (a : walk.State). flight_of (slot_in a s)) (sym q.1)
              ∙ match_put w flights slot walk.Idle (slice_get_within w.slots slot (walk.Reads p) r) h s;
        }
step_fits instrs wires store w after flights (entry.IssueOut slot frame page) e h = go (slice_get w.frames frame) e
  where
    go : (o : Option walk.Content) →
        (o >>= (λ content. provided (walk.may_issue store slot page w.slots) (walk.with_slot slot (walk.Writes page content) w))) ≡ Some after →
        StepFits w after flights (entry.IssueOut slot frame page)
    go None f = absurd cc
    go (Some content) f =
        let p = provided_so (walk.may_issue store slot page w.slots) (walk.with_slot slot (walk.Writes page content) w) after f in
        let may = may_begin w store slot page p.0 in
        record {
          fits = (sym (h slot) ∙ ap flight_of may.idle, still_so w flights slot page may h);
          next = λ s. ap (λ (a : walk.State). flight_of (slot_in a s)) (sym p.1)
              ∙ match_put w flights slot (walk.Writes page content) may.within h s;
        }
step_fits instrs wires store w after flights (entry.FinishOut slot) e h = go (slice_get w.slots slot) refl e
  where
    go : (o : Option walk.Slot) → slice_get w.slots slot ≡ o → (o >>= (λ x. after_write slot x w)) ≡ Some after →
        StepFits w after flights (entry.FinishOut slot)
    go None e' f = absurd cc
    go (Some walk.Idle) e' f = absurd cc
    go (Some (walk.Reads p)) e' f = absurd cc
    go (Some (walk.Writes p content)) e' f =
        record {
          fits = (p, sym (h slot) ∙ ap flight_of (get_or_from_slice_get w.slots slot (walk.Writes p content) walk.Idle e'));
          next = λ s. ap (λ (a : walk.State). flight_of (slot_in a s))
              (sym (let q : Some (walk.with_slot slot walk.Idle (walk.with_page p content w)) ≡ Some after = f in
              (let t : walk.with_slot slot walk.Idle (walk.with_page p content w) ≡ after = cc in t)))
              ∙ match_put w flights slot walk.Idle (slice_get_within w.slots slot (walk.Writes p content) e') h s;
        }
step_fits instrs wires store w after flights (entry.Do job) e h =
    record { fits = tt; next = same_slots w after flights (job_slots instrs wires w after job e) h }

-- slots that are all idle have nothing in flight
all_idle : (slots : List walk.Slot) (s : ℕ) → list_all walk.is_idle slots ≡ true → flight_of (get_or slots s walk.Idle) ≡ None
all_idle [] zero e = refl
all_idle [] (suc s) e = refl
all_idle (walk.Idle ∷ slots) zero e = refl
all_idle (walk.Reads p ∷ slots) zero e = absurd cc
all_idle (walk.Writes p c ∷ slots) zero e = absurd cc
all_idle (walk.Idle ∷ slots) (suc s) e = all_idle slots s e
all_idle (walk.Reads p ∷ slots) (suc s) e = absurd cc
all_idle (walk.Writes p c ∷ slots) (suc s) e = absurd cc

module _ (instrs : List Instr) (wires store : ℕ) where
  each_fits : (left : List Directive) (w : walk.State) (flights : ℕ → Option Flight) → WalksOn instrs wires store w left →
      FlightsMatch w flights → (d : ℕ) → IfSome (slice_get left d) (Fits (flights_after_all flights (take d left)))
  each_fits [] w flights walks h zero = tt
  each_fits [] w flights walks h (suc d) = tt
  each_fits (x ∷ left) w flights walks h zero =
      let s = walks_first instrs wires store w x left walks in (step_fits instrs wires store w s.0 flights x s.1 h).fits
  each_fits (x ∷ left) w flights walks h (suc d) =
      let s = walks_first instrs wires store w x left walks in
      each_fits left s.0 (flights_after flights x) s.2 (step_fits instrs wires store w s.0 flights x s.1 h).next d

  idle_after : (left : List Directive) (w : walk.State) (flights : ℕ → Option Flight) → WalksOn instrs wires store w left →
      FlightsMatch w flights → (slot : ℕ) → flights_after_all flights (take (length left) left) slot ≡ None
  idle_after [] w flights walks h slot =
      let end : w ≡ walks.1 = (let e = walks.2 in cc) in
      let over : is_over instrs w ≡ true = ap (is_over instrs) end ∙ walks.3 in
      sym (h slot) ∙ all_idle w.slots slot (both_so (nat_eq w.next (length instrs)) (list_all walk.is_idle w.slots) over).1
  idle_after (x ∷ left) w flights walks h slot =
      let s = walks_first instrs wires store w x left walks in
      idle_after left s.0 (flights_after flights x) s.2 (step_fits instrs wires store w s.0 flights x s.1 h).next slot

  pub walk_is_orderly : (part : List Directive) (w : walk.State) → FlightsMatch w (λ slot. None) → WalksOn instrs wires store w part →
      IsOrderly part
  walk_is_orderly part w h walks = record {
    each = each_fits part w (λ slot. None) walks h;
    idle = idle_after part w (λ slot. None) walks h;
  }
