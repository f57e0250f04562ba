-- An instruction that a directive does finds the values of its arguments, and puts its own at its spot.
use Rattle.std.proofs.Common.{◌≡◌, ◌≤◌, ◌<◌, ◌+◌, ◌*◌, ℕ, zero, suc, Bool, true, false, cond, List, [], ◌∷◌, ◌++◌, length, get_or, nat_eq, nat_le, set, Option, Some, None, refl, sym, ap, ◌∙◌, subst, slice_get, arith, ◌&&◌, ◌||◌, unwrap_or, option_map}
use Rattle.std.proofs.lemmas.Bool.{eqb-true}
use Rattle.std.proofs.lemmas.Bool.Decides.{nat_tests}
use Rattle.std.specs.List.{flat_map}
use Rattle.std.proofs.lemmas.List.{length-append}
use Rattle.std.proofs.lemmas.Option.{slice_get_within, get_or_from_slice_get}
use Rattle.mage_instr.specs.declared.instr.Instr.{Instr}
use Rattle.mage_instr.specs.declared.op.Op.{Op}
use Rattle.mage_instr.specs.declared.op.Op.TheVariants as op
use Rattle.mage_instr.specs.declared.replaced.Job.{Job}
use Rattle.mage_instr.specs.declared.replaced.Spot.{Spot}
use Rattle.mage_instr.specs.Opcodes.{arity_of, has_result, width_of_result, width_of_arg}
use Rattle.mage_instr.specs.Sound.{arg_of}
use Rattle.mage_network.specs.Slots as core
use Rattle.mage_driver.specs.Rules.{Rules, AreLawful}
use Rattle.mage_steps.specs.Frames.{with_piece, wires_at, with_wires}
use Rattle.mage_steps.specs.Engines.{with_result}
use Rattle.mage_carry.specs.State as walk
use Rattle.mage_carry.specs.Opcode.{number_of, same_op}
use Rattle.mage_carry.specs.Steps.{◌>>=◌, provided, width_of, placed, is_job_of, is_within, stands_at, finds, finds_all, no_spot, result_at, result_put, counted, do_job}
use Rattle.mage_carried.specs.Wires.{AreWires}
use Rattle.mage_carried.proofs.Reading.{wires_read}
use Rattle.mage_carried.proofs.Relation.{value_of, frame_in, slot_in, IsWhole, Holds, SlotHolds, Follows, holds_more, holds_placed, set_at}
use Rattle.mage_carried.proofs.Transfers.{both_so}

-- an opcode has its number alone
abbrev op_at : ℕ → Op
op_at n = get_or (op.Input ∷ op.Const ∷ op.Output ∷ op.Add ∷ op.Sub ∷ op.Mul ∷ op.And ∷ op.Or ∷ op.Xor ∷ op.Not ∷ op.Eq ∷ op.Lt
    ∷ op.Mux ∷ op.Shl ∷ op.Shr ∷ op.Resize ∷ op.Send ∷ op.Recv ∷ op.Div ∷ op.Rem ∷ op.Count ∷ op.Min ∷ op.Max ∷ []) n op.Input

op_of_number : (o : Op) → op_at (number_of o) ≡ o
op_of_number op.Input = refl
op_of_number op.Const = refl
op_of_number op.Output = refl
op_of_number op.Add = refl
op_of_number op.Sub = refl
op_of_number op.Mul = refl
op_of_number op.And = refl
op_of_number op.Or = refl
op_of_number op.Xor = refl
op_of_number op.Not = refl
op_of_number op.Eq = refl
op_of_number op.Lt = refl
op_of_number op.Mux = refl
op_of_number op.Shl = refl
op_of_number op.Shr = refl
op_of_number op.Resize = refl
op_of_number op.Send = refl
op_of_number op.Recv = refl
op_of_number op.Div = refl
op_of_number op.Rem = refl
op_of_number op.Count = refl
op_of_number op.Min = refl
op_of_number op.Max = refl

pub same_op_so : (a b : Op) → same_op a b ≡ true → a ≡ b
same_op_so a b e = sym (op_of_number a) ∙ ap op_at (eqb-true (number_of a) (number_of b) e) ∙ op_of_number b

-- a job is the instruction
pub record IsJob (i : Instr) (job : Job) : Type 0 where
  pub op : job.op ≡ i.op
  pub width : job.width ≡ i.width
  pub imm : job.imm ≡ i.imm

job_so : (i : Instr) (job : Job) → is_job_of i job ≡ true → IsJob i job
job_so i job e =
    let a = both_so (same_op job.op i.op && nat_eq job.width i.width) (nat_eq job.imm i.imm) e in
    let b = both_so (same_op job.op i.op) (nat_eq job.width i.width) a.0 in
    record {
      op = same_op_so job.op i.op b.0;
      width = eqb-true job.width i.width b.1;
      imm = eqb-true job.imm i.imm a.1;
    }

-- the variable stands at the spot, and lies in the page
pub record Stands (page : ℕ) (frames : List walk.Content) (variable width : ℕ) (spot : Spot) : Type 0 where
  pub content : walk.Content
  pub frame : slice_get frames spot.frame ≡ Some content
  pub offset : content spot.offset ≡ Some variable
  pub within : spot.offset + width ≤ page

content_so : (o : Option walk.Content) (variable offset : ℕ) →
    walk.has (λ (content : walk.Content). walk.has (nat_eq variable) (content offset)) o ≡ true →
    (content : walk.Content) × (o ≡ Some content) × (content offset ≡ Some variable)
content_so None variable offset e = absurd cc
content_so (Some content) variable offset e = (content, refl, go (content offset) refl e)
  where
    go : (v : Option ℕ) → content offset ≡ v → walk.has (nat_eq variable) v ≡ true → content offset ≡ Some variable
    go None e' f = absurd cc
    go (Some x) e' f = e' ∙ ap (λ y. Some y) (sym (eqb-true variable x f))

stands_so : (page width : ℕ) (frames : List walk.Content) (variable : ℕ) (spot : Spot) →
    (is_within page width spot && stands_at frames variable spot) ≡ true → Stands page frames variable width spot
stands_so page width frames variable spot e =
    let a = both_so (is_within page width spot) (stands_at frames variable spot) e in
    let c = content_so (slice_get frames spot.frame) variable spot.offset a.1 in
    record { content = c.0; frame = c.1; offset = c.2; within = (let t = a.0 in grind (arith, nat_tests)) }

or_so : (a b : Bool) → a ≡ false → (a || b) ≡ true → b ≡ true
or_so true b e h = absurd cc
or_so false b e h = h

finds_so : (page : ℕ) (frames : List walk.Content) (i : Instr) (job : Job) (k : ℕ) → finds page frames i job k ≡ true →
    k < arity_of i.op →
    Stands page frames (arg_of i k) (width_of_arg i.op i.width i.imm k) (get_or job.args k no_spot)
finds_so page frames i job k e within =
    stands_so page (width_of_arg i.op i.width i.imm k) frames (arg_of i k) (get_or job.args k no_spot)
    (or_so (nat_le (arity_of i.op) k) _ (grind (arith, nat_tests)) e)

few_args : (o : Op) → arity_of o ≤ 3
few_args op.Input = omega arith
few_args op.Const = omega arith
few_args op.Output = omega arith
few_args op.Add = omega arith
few_args op.Sub = omega arith
few_args op.Mul = omega arith
few_args op.And = omega arith
few_args op.Or = omega arith
few_args op.Xor = omega arith
few_args op.Not = omega arith
few_args op.Eq = omega arith
few_args op.Lt = omega arith
few_args op.Mux = omega arith
few_args op.Shl = omega arith
few_args op.Shr = omega arith
few_args op.Resize = omega arith
few_args op.Send = omega arith
few_args op.Recv = omega arith
few_args op.Div = omega arith
few_args op.Rem = omega arith
few_args op.Count = omega arith
few_args op.Min = omega arith
few_args op.Max = omega arith

all_found : (page : ℕ) (frames : List walk.Content) (i : Instr) (job : Job) → finds_all page frames i job ≡ true →
    (k : ℕ) → k < arity_of i.op →
    Stands page frames (arg_of i k) (width_of_arg i.op i.width i.imm k) (get_or job.args k no_spot)
all_found page frames i job e k within =
    finds_so page frames i job k (go k (let f = few_args i.op in (let t : k < 3 = omega arith in t))) within
  where
    a : ((finds page frames i job 0 && finds page frames i job 1) ≡ true) × (finds page frames i job 2 ≡ true)
    a = both_so (finds page frames i job 0 && finds page frames i job 1) (finds page frames i job 2) e

    b : (finds page frames i job 0 ≡ true) × (finds page frames i job 1 ≡ true)
    b = both_so (finds page frames i job 0) (finds page frames i job 1) a.0

    go : (n : ℕ) → n < 3 → finds page frames i job n ≡ true
    go zero h = b.0
    go (suc zero) h = b.1
    go (suc (suc zero)) h = a.1
    go (suc (suc (suc n))) h = absurd (omega arith)

module _ {W : Type 0} (rules : Rules W) (lawful : AreLawful rules) (page : ℕ) (instrs : List Instr) where
  -- the wires that are read where a variable stands are its wires
  pub operand_read : (values : List (List W)) (w : walk.State) (bank : ℕ → List ℕ) (variable width : ℕ) (spot : Spot) →
      ((f : ℕ) → Holds rules page instrs values (bank f) (frame_in w f)) →
      Stands page w.frames variable width spot → width_of instrs variable ≡ width →
      IsWhole rules page instrs values variable × (wires_at rules bank spot width ≡ value_of values variable)
  operand_read values w bank variable width spot each stands wide =
      let holds = subst (Holds rules page instrs values (bank spot.frame))
      (get_or_from_slice_get w.frames spot.frame stands.content walk.nothing stands.frame) (each spot.frame) in
      let one = holds.each spot.offset variable stands.offset in (
        one.0,
        ap (wires_at rules bank spot) (sym wide ∙ sym one.0.long)
            ∙ wires_read rules lawful (bank spot.frame) spot.offset (value_of values variable) one.0.wires one.1,
      )

  -- the next instruction of a walk, done
  pub record Doing (values : List (List W)) (w after : walk.State) (job : Job) (i : Instr) : Type 0 where
    pub here : slice_get instrs (length values) ≡ Some i
    pub same : IsJob i job
    pub args : (k : ℕ) → k < arity_of i.op →
        Stands page w.frames (arg_of i k) (width_of_arg i.op i.width i.imm k) (get_or job.args k no_spot)
    pub put : option_map counted (result_put instrs page i job w) ≡ Some after

  pub doing_so : (values : List (List W)) (w after : walk.State) (job : Job) → w.next ≡ length values →
      do_job instrs page job w ≡ Some after → (i : Instr) × Doing values w after job i
  doing_so values w after job next e = go (slice_get instrs w.next) refl e
    where
      go : (o : Option Instr) → slice_get instrs w.next ≡ o →
          (o >>= (λ i. provided (is_job_of i job && finds_all page w.frames i job) w
          >>= (λ ready. option_map counted (result_put instrs page i job ready)))) ≡ Some after →
          (i : Instr) × Doing values w after job i
      go None e' f = absurd cc
      go (Some i) e' f = go' (is_job_of i job && finds_all page w.frames i job) refl f
        where
          go' : (b : Bool) → (is_job_of i job && finds_all page w.frames i job) ≡ b →
              (provided b w >>= (λ ready. option_map counted (result_put instrs page i job ready))) ≡ Some after →
              (i : Instr) × Doing values w after job i
          go' false a g = absurd cc
          go' true a g =
              let b = both_so (is_job_of i job) (finds_all page w.frames i job) a in (
                i,
                record {
                  here = ap (slice_get instrs) (sym next) ∙ e';
                  same = job_so i job b.0;
                  args = all_found page w.frames i job b.1;
                  put = g;
                },
              )

  -- what holds of slots and pages holds with one value more
  slot_more : (values : List (List W)) (wires : List W) (walked : ℕ → Option walk.Content) (pages : ℕ → List ℕ)
      (x : walk.Slot) (word : core.Slot (List ℕ)) → SlotHolds rules page instrs values walked pages x word →
      SlotHolds rules page instrs (values ++ wires ∷ []) walked pages x word
  slot_more values wires walked pages walk.Idle core.Idle h = tt
  slot_more values wires walked pages (walk.Reads p) (core.Served (core.Reads q) bytes) h =
      (h.0, (h.1.0, h.1.1, holds_more rules lawful page instrs values wires bytes h.1.0 h.1.2))
  slot_more values wires walked pages (walk.Writes p content) (core.Served (core.Writes q sent) bytes) h =
      (h.0, h.1, holds_more rules lawful page instrs values wires sent content h.2)
  slot_more values wires walked pages _ _ h = absurd h

  frames_result : (values : List (List W)) (w : walk.State) (bank : ℕ → List ℕ) (wires : List W) (content : walk.Content)
      (out : Spot) (width : ℕ) → ((f : ℕ) → Holds rules page instrs values (bank f) (frame_in w f)) →
      slice_get w.frames out.frame ≡ Some content → out.offset + width ≤ page → AreWires rules wires → length wires ≡ width →
      width_of instrs (length values) ≡ width → (f : ℕ) →
      Holds rules page instrs (values ++ wires ∷ []) (with_wires rules bank out wires f)
      (get_or (set w.frames out.frame (placed instrs out.offset width (length values) content)) f walk.nothing)
  frames_result values w bank wires content out width each here fits are long own f =
      subst (Holds rules page instrs (values ++ wires ∷ []) (with_wires rules bank out wires f))
      (sym (set_at w.frames out.frame f (placed instrs out.offset width (length values) content) walk.nothing
      (slice_get_within w.frames out.frame content here))) (go (nat_eq out.frame f))
    where
      go : (b : Bool) → Holds rules page instrs (values ++ wires ∷ [])
          (cond b (with_piece (bank out.frame) (out.offset * rules.wire_bytes) (flat_map rules.pack wires)) (bank f))
          (cond b (placed instrs out.offset width (length values) content) (frame_in w f))
      go true = holds_placed rules lawful page instrs values wires (bank out.frame) content out.offset width
          (subst (Holds rules page instrs values (bank out.frame))
          (get_or_from_slice_get w.frames out.frame content walk.nothing here) (each out.frame)) are long own fits
      go false = holds_more rules lawful page instrs values wires (bank f) (frame_in w f) (each f)

  pub follows_result : (values : List (List W)) (w after : walk.State) (bank : ℕ → List ℕ) (slots : ℕ → core.Slot (List ℕ))
      (pages : ℕ → List ℕ) (job : Job) (i : Instr) (wires : List W) → Doing values w after job i →
      Follows rules page instrs values w bank slots pages → AreWires rules wires →
      (has_result i.op ≡ true → length wires ≡ width_of_result i.op i.width) →
      Follows rules page instrs (values ++ wires ∷ []) after (with_result rules job bank wires) slots pages
  follows_result values w after bank slots pages job i wires d h are long =
      subst (λ o. Follows rules page instrs (values ++ wires ∷ []) after
      (cond (has_result o) (with_wires rules bank job.out wires) bank) slots pages) (sym d.same.op)
      (go (has_result i.op) refl d.put)
    where
      one_more : w.next + 1 ≡ length (values ++ wires ∷ [])
      one_more = ap (λ n. n + 1) h.next ∙ sym (length-append values (wires ∷ []))

      own : width_of instrs (length values) ≡ width_of_result i.op i.width
      own = ap (λ o. unwrap_or (option_map (λ (x : Instr). width_of_result x.op x.width) o) 0) d.here

      put_so : has_result i.op ≡ true → (o : Option walk.Content) → slice_get w.frames job.out.frame ≡ o →
          option_map counted (o >>= (λ content. provided (is_within page (width_of_result i.op i.width) job.out)
          (walk.with_frame job.out.frame (placed instrs job.out.offset (width_of_result i.op i.width) w.next content) w))) ≡ Some after →
          Follows rules page instrs (values ++ wires ∷ []) after (with_wires rules bank job.out wires) slots pages
      put_so has None e f = absurd cc
      put_so has (Some content) e f = go' (is_within page (width_of_result i.op i.width) job.out) refl f
        where
          go' : (b : Bool) → is_within page (width_of_result i.op i.width) job.out ≡ b →
              option_map counted (provided b
              (walk.with_frame job.out.frame (placed instrs job.out.offset (width_of_result i.op i.width) w.next content) w)) ≡ Some after →
              Follows rules page instrs (values ++ wires ∷ []) after (with_wires rules bank job.out wires) slots pages
          go' false a g = absurd cc
          go' true a g =
              subst (λ (x : walk.State). Follows rules page instrs (values ++ wires ∷ []) x (with_wires rules bank job.out wires) slots pages)
              (let s : Some (counted (walk.with_frame job.out.frame
              (placed instrs job.out.offset (width_of_result i.op i.width) w.next content) w)) ≡ Some after = g in
              (let t : counted (walk.with_frame job.out.frame
              (placed instrs job.out.offset (width_of_result i.op i.width) w.next content) w) ≡ after = cc in t))
              (record {
                frames = λ f'. subst (λ n. Holds rules page instrs (values ++ wires ∷ []) (with_wires rules bank job.out wires f')
                    (get_or (set w.frames job.out.frame (placed instrs job.out.offset (width_of_result i.op i.width) n content))
                    f' walk.nothing)) (sym h.next)
                    (frames_result values w bank wires content job.out (width_of_result i.op i.width) h.frames e
                    (let t = a in grind (arith, nat_tests)) are (long has) own f');
                each = λ s. slot_more values wires w.pages pages (slot_in w s) (slots s) (h.each s);
                stored = λ p c e' none. holds_more rules lawful page instrs values wires (pages p) c (h.stored p c e' none);
                differ = h.differ;
                next = one_more;
              })

      go : (b : Bool) → has_result i.op ≡ b →
          option_map counted (cond b (result_at instrs page (width_of_result i.op i.width) job.out w) (Some w)) ≡ Some after →
          Follows rules page instrs (values ++ wires ∷ []) after (cond b (with_wires rules bank job.out wires) bank) slots pages
      go true e f = put_so e (slice_get w.frames job.out.frame) refl f
      go false e f =
          subst (λ (x : walk.State). Follows rules page instrs (values ++ wires ∷ []) x bank slots pages)
          (let s : Some (counted w) ≡ Some after = f in (let t : counted w ≡ after = cc in t))
          (record {
            frames = λ f'. holds_more rules lawful page instrs values wires (bank f') (frame_in w f') (h.frames f');
            each = λ s. slot_more values wires w.pages pages (slot_in w s) (slots s) (h.each s);
            stored = λ p c e' none. holds_more rules lawful page instrs values wires (pages p) c (h.stored p c e' none);
            differ = h.differ;
            next = one_more;
          })
