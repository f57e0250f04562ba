-- An instruction that a worker does by itself is that of the program, on the program's values.
use Rattle.std.proofs.Common.{◌≡◌, ◌<◌, ◌+◌, ℕ, suc, Bool, true, false, cond, List, [], ◌∷◌, ◌++◌, length, get_or, nat_lt, Option, Some, None, IfSome, IsSomeAnd, refl, sym, ap, ◌∙◌, subst, slice_get, arith, append_assoc, unwrap_or, option_map}
use Rattle.std.proofs.lemmas.Bool.Decides.{nat_tests}
use Rattle.std.proofs.lemmas.List.{length-append}
use Rattle.mage_instr.specs.declared.directive.Directive.{Directive}
use Rattle.mage_instr.specs.declared.directive.Directive.TheVariants as entry
use Rattle.mage_instr.specs.declared.directive.MemProgram.{MemProgram}
use Rattle.mage_instr.specs.declared.instr.Instr.{Instr}
use Rattle.mage_instr.specs.declared.op.Op.{Op}
use Rattle.mage_instr.specs.declared.op.Op.TheVariants as op
use Rattle.mage_instr.specs.declared.replaced.Job.{Job}
use Rattle.mage_instr.specs.Opcodes.{arity_of, width_of_result, width_of_arg}
use Rattle.mage_instr.specs.Sound.{IsSound, IsSoundAt, Defines, arg_of}
use Rattle.mage_linked.specs.Transfers.{is_send, is_recv}
use Rattle.mage_network.specs.Workers.{Moves, Worker}
use Rattle.mage_network.specs.Slots as core
use Rattle.mage_driver.specs.Rules.{Rules, AreLawful}
use Rattle.mage_driver.specs.Calls.{Call}
use Rattle.mage_driver.specs.Circuits.{Made}
use Rattle.mage_driver.specs.Operations.{circuit_of}
use Rattle.mage_steps.specs.Frames.{wires_at}
use Rattle.mage_steps.specs.Engines.{Engine, Acting, advanced, operand, made_of, with_result, computes, act_of_op, doing_at}
use Rattle.mage_steps.specs.Core.{Core}
use Rattle.mage_carry.specs.State as walk
use Rattle.mage_carry.specs.Steps.{width_of, no_spot}
use Rattle.mage_carried.specs.Wires.{IsOperand, MakesWires}
use Rattle.mage_carried.proofs.Relation.{value_of, IsWhole, Follows}
use Rattle.mage_carried.proofs.Jobs.{Doing, doing_so, operand_read, follows_result}
use Rattle.mage_carried.proofs.Standing.{WalksOn, walks_first, behind, stands_at, GoesOn}
use Rattle.mage_carried.proofs.Standing as standing

-- the wires of argument k, where the opcode has one
abbrev pub used : {W : Type 0} → Op → (k : ℕ) → List W → List W
used o k wires = cond (nat_lt k (arity_of o)) wires []

module _ {W : Type 0} (rules : Rules W) where
  -- what a circuit is given beside its arguments makes no difference
  pub circuit_used : (o : Op) (width imm : ℕ) (a b c : List W) (s : rules.State) →
      circuit_of rules o width imm (used o 0 a) (used o 1 b) (used o 2 c) s ≡ circuit_of rules o width imm a b c s
  circuit_used op.Input width imm a b c s = refl
  circuit_used op.Const width imm a b c s = refl
  circuit_used op.Output width imm a b c s = refl
  circuit_used op.Add width imm a b c s = refl
  circuit_used op.Sub width imm a b c s = refl
  circuit_used op.Mul width imm a b c s = refl
  circuit_used op.And width imm a b c s = refl
  circuit_used op.Or width imm a b c s = refl
  circuit_used op.Xor width imm a b c s = refl
  circuit_used op.Not width imm a b c s = refl
  circuit_used op.Eq width imm a b c s = refl
  circuit_used op.Lt width imm a b c s = refl
  circuit_used op.Mux width imm a b c s = refl
  circuit_used op.Shl width imm a b c s = refl
  circuit_used op.Shr width imm a b c s = refl
  circuit_used op.Resize width imm a b c s = refl
  circuit_used op.Send width imm a b c s = refl
  circuit_used op.Recv width imm a b c s = refl
  circuit_used op.Div width imm a b c s = refl
  circuit_used op.Rem width imm a b c s = refl
  circuit_used op.Count width imm a b c s = refl
  circuit_used op.Min width imm a b c s = refl
  circuit_used op.Max width imm a b c s = refl

  pub act_computes : (o : Op) → is_send o ≡ false → is_recv o ≡ false → act_of_op rules o ≡ computes rules
  act_computes op.Input send recv = refl
  act_computes op.Const send recv = refl
  act_computes op.Output send recv = refl
  act_computes op.Add send recv = refl
  act_computes op.Sub send recv = refl
  act_computes op.Mul send recv = refl
  act_computes op.And send recv = refl
  act_computes op.Or send recv = refl
  act_computes op.Xor send recv = refl
  act_computes op.Not send recv = refl
  act_computes op.Eq send recv = refl
  act_computes op.Lt send recv = refl
  act_computes op.Mux send recv = refl
  act_computes op.Shl send recv = refl
  act_computes op.Shr send recv = refl
  act_computes op.Resize send recv = refl
  act_computes op.Send send recv = absurd cc
  act_computes op.Recv send recv = absurd cc
  act_computes op.Div send recv = refl
  act_computes op.Rem send recv = refl
  act_computes op.Count send recv = refl
  act_computes op.Min send recv = refl
  act_computes op.Max send recv = refl

-- argument k of a sound instruction has the width that the opcode asks for
pub sound_at : (instrs : List Instr) (t : ℕ) (i : Instr) → IsSound instrs → slice_get instrs t ≡ Some i → IsSoundAt instrs t i
sound_at instrs t i sound e = subst (λ o. IfSome o (IsSoundAt instrs t)) e (sound.each t)

width_so : (instrs : List Instr) (v width : ℕ) (o : Option Instr) → slice_get instrs v ≡ o →
    IsSomeAnd o (λ source. Defines source width) → width_of instrs v ≡ width
width_so instrs v width None e h = absurd h
width_so instrs v width (Some source) e h =
    ap (λ o. unwrap_or (option_map (λ (i : Instr). width_of_result i.op i.width) o) 0) e ∙ h.1

pub arg_width : (instrs : List Instr) (t : ℕ) (i : Instr) (k : ℕ) → IsSoundAt instrs t i → k < arity_of i.op →
    width_of instrs (arg_of i k) ≡ width_of_arg i.op i.width i.imm k
arg_width instrs t i k sound within =
    width_so instrs (arg_of i k) (width_of_arg i.op i.width i.imm k) (slice_get instrs (arg_of i k)) refl (sound.1 k within).1

module _ {W : Type 0} (rules : Rules W) (lawful : AreLawful rules) (fine : rules.State → Bool) (makes : MakesWires rules fine) (plan : MemProgram) (n : ℕ)
    (instrs : List Instr) (sound : IsSound instrs) (store : ℕ) where
  -- the circuit of an instruction on the values of its arguments
  abbrev pub made_on : (values : List (List W)) → Instr → rules.State → Made rules.State W (List W)
  made_on values i driver = circuit_of rules i.op i.width i.imm
      (value_of values (arg_of i 0)) (value_of values (arg_of i 1)) (value_of values (arg_of i 2)) driver

  -- an argument: its wires are read, and they are whole
  arg_read : (values : List (List W)) (w after : walk.State) (bank : ℕ → List ℕ) (slots : ℕ → core.Slot (List ℕ))
      (pages : ℕ → List ℕ) (job : Job) (i : Instr) (k : ℕ) → Follows rules plan.limits.page instrs values w bank slots pages →
      Doing rules lawful plan.limits.page instrs values w after job i → k < arity_of i.op →
      IsWhole rules plan.limits.page instrs values (arg_of i k)
      × (wires_at rules bank (get_or job.args k no_spot) (width_of_arg i.op i.width i.imm k) ≡ value_of values (arg_of i k))
  arg_read values w after bank slots pages job i k h d within =
      operand_read rules lawful plan.limits.page instrs values w bank (arg_of i k) (width_of_arg i.op i.width i.imm k)
      (get_or job.args k no_spot) h.frames (d.args k within)
      (arg_width instrs (length values) i k (sound_at instrs (length values) i sound d.here) within)

  operand_is : (values : List (List W)) (w after : walk.State) (bank : ℕ → List ℕ) (slots : ℕ → core.Slot (List ℕ))
      (pages : ℕ → List ℕ) (job : Job) (i : Instr) (k : ℕ) → Follows rules plan.limits.page instrs values w bank slots pages →
      Doing rules lawful plan.limits.page instrs values w after job i →
      operand rules job bank k ≡ used i.op k (value_of values (arg_of i k))
  operand_is values w after bank slots pages job i k h d =
      ap (λ o. cond (nat_lt k (arity_of o)) (wires_at rules bank (get_or job.args k no_spot) (width_of_arg o job.width job.imm k)) []) d.same.op
      ∙ ap (λ x. cond (nat_lt k (arity_of i.op)) (wires_at rules bank (get_or job.args k no_spot) (width_of_arg i.op x job.imm k)) []) d.same.width
      ∙ ap (λ x. cond (nat_lt k (arity_of i.op)) (wires_at rules bank (get_or job.args k no_spot) (width_of_arg i.op i.width x k)) []) d.same.imm
      ∙ go (nat_lt k (arity_of i.op)) refl
    where
      go : (b : Bool) → nat_lt k (arity_of i.op) ≡ b →
          cond b (wires_at rules bank (get_or job.args k no_spot) (width_of_arg i.op i.width i.imm k)) [] ≡
          cond b (value_of values (arg_of i k)) []
      go true e = (arg_read values w after bank slots pages job i k h d (grind (arith, nat_tests))).1
      go false e = refl

  is_operand : (values : List (List W)) (w after : walk.State) (bank : ℕ → List ℕ) (slots : ℕ → core.Slot (List ℕ))
      (pages : ℕ → List ℕ) (job : Job) (i : Instr) (k : ℕ) → Follows rules plan.limits.page instrs values w bank slots pages →
      Doing rules lawful plan.limits.page instrs values w after job i →
      IsOperand rules i.op i.width i.imm k (value_of values (arg_of i k))
  is_operand values w after bank slots pages job i k h d within =
      let a = arg_read values w after bank slots pages job i k h d within in (
        a.0.long ∙ arg_width instrs (length values) i k (sound_at instrs (length values) i sound d.here) within,
        a.0.wires,
      )

  -- what the engine makes is what the program makes
  pub made_same : (values : List (List W)) (w after : walk.State) (engine : Engine rules.State) (slots : ℕ → core.Slot (List ℕ))
      (pages : ℕ → List ℕ) (job : Job) (i : Instr) → Follows rules plan.limits.page instrs values w engine.bank slots pages →
      Doing rules lawful plan.limits.page instrs values w after job i →
      made_of rules job engine ≡ made_on values i engine.driver
  made_same values w after engine slots pages job i h d =
      ap (λ a. circuit_of rules job.op job.width job.imm a (operand rules job engine.bank 1) (operand rules job engine.bank 2) engine.driver)
      (operand_is values w after engine.bank slots pages job i 0 h d)
      ∙ ap (λ b. circuit_of rules job.op job.width job.imm (used i.op 0 (value_of values (arg_of i 0))) b (operand rules job engine.bank 2) engine.driver)
      (operand_is values w after engine.bank slots pages job i 1 h d)
      ∙ ap (λ c. circuit_of rules job.op job.width job.imm (used i.op 0 (value_of values (arg_of i 0)))
      (used i.op 1 (value_of values (arg_of i 1))) c engine.driver)
      (operand_is values w after engine.bank slots pages job i 2 h d)
      ∙ ap (λ o. circuit_of rules o job.width job.imm (used i.op 0 (value_of values (arg_of i 0)))
      (used i.op 1 (value_of values (arg_of i 1))) (used i.op 2 (value_of values (arg_of i 2))) engine.driver) d.same.op
      ∙ ap (λ x. circuit_of rules i.op x job.imm (used i.op 0 (value_of values (arg_of i 0)))
      (used i.op 1 (value_of values (arg_of i 1))) (used i.op 2 (value_of values (arg_of i 2))) engine.driver) d.same.width
      ∙ ap (λ x. circuit_of rules i.op i.width x (used i.op 0 (value_of values (arg_of i 0)))
      (used i.op 1 (value_of values (arg_of i 1))) (used i.op 2 (value_of values (arg_of i 2))) engine.driver) d.same.imm
      ∙ circuit_used rules i.op i.width i.imm (value_of values (arg_of i 0)) (value_of values (arg_of i 1))
      (value_of values (arg_of i 2)) engine.driver

  abbrev Standing : (values : List (List W)) → (driver : rules.State) → (calls : List (Call rules.State W)) →
      (left : List Directive) → (worker : Worker (Core rules plan) (Call rules.State W) (List ℕ)) → Type 0
  Standing = standing.Stands rules lawful fine plan n instrs store

  -- the instruction that comes next
  pub next_job : (values : List (List W)) (driver : rules.State) (calls : List (Call rules.State W)) (job : Job)
      (rest : List Directive) (worker : Worker (Core rules plan) (Call rules.State W) (List ℕ)) →
      (h : Standing values driver calls (entry.Do job ∷ rest) worker) →
      (i : Instr) × (after : walk.State) × Doing rules lawful plan.limits.page instrs values h.w after job i
      × WalksOn instrs plan.limits.page store after rest
  next_job values driver calls job rest worker h =
      let s = walks_first instrs plan.limits.page store h.w (entry.Do job) rest h.walks in
      let d = doing_so rules lawful plan.limits.page instrs values h.w s.0 job h.follows.next s.1 in
      (d.0, s.0, d.1, s.2)

  -- an instruction that speaks of no other worker is done
  pub instr_goes : (values : List (List W)) (driver : rules.State) (calls : List (Call rules.State W)) (job : Job)
      (rest : List Directive) (worker : Worker (Core rules plan) (Call rules.State W) (List ℕ)) (i : Instr) →
      Standing values driver calls (entry.Do job ∷ rest) worker → slice_get instrs (length values) ≡ Some i →
      is_send i.op ≡ false → is_recv i.op ≡ false →
      GoesOn rules lawful fine plan n instrs store (values ++ (made_on values i driver).wires ∷ [])
      (made_on values i driver).state (calls ++ (made_on values i driver).calls) rest worker (made_on values i driver).calls
  instr_goes values driver calls job rest worker i h here send recv = go next.0
      (let a : Some next.0 ≡ Some i = sym next.2.here ∙ here in (let b : next.0 ≡ i = cc in b)) next.2 next.3
    where
      next : (x : Instr) × (after : walk.State) × Doing rules lawful plan.limits.page instrs values h.w after job x
          × WalksOn instrs plan.limits.page store after rest
      next = next_job values driver calls job rest worker h

      made : Made rules.State W (List W)
      made = made_on values i driver

      go : (x : Instr) → x ≡ i → Doing rules lawful plan.limits.page instrs values h.w next.1 job x →
          WalksOn instrs plan.limits.page store next.1 rest →
          GoesOn rules lawful fine plan n instrs store (values ++ made.wires ∷ []) made.state (calls ++ made.calls) rest worker made.calls
      go x e d' walks =
          let d : Doing rules lawful plan.limits.page instrs values h.w next.1 job i = subst (λ y. Doing rules lawful plan.limits.page instrs values h.w next.1 job y) e d' in
          let engine = worker.state.engine in
          let after : Core rules plan = record worker.state {
            engine = record (advanced engine) {
              driver = made.state;
              bank = with_result rules job engine.bank made.wires;
            };
          } in
          let same : made_of rules job engine ≡ made = made_same values h.w next.1 engine worker.state.slots worker.state.pages job i h.follows d
          ∙ ap (made_on values i) h.same in
          let ready = sound_at instrs (length values) i sound d.here in
          let a = is_operand values h.w next.1 engine.bank worker.state.slots worker.state.pages job i 0 h.follows d in
          let b = is_operand values h.w next.1 engine.bank worker.state.slots worker.state.pages job i 1 h.follows d in
          let c = is_operand values h.w next.1 engine.bank worker.state.slots worker.state.pages job i 2 h.follows d in
          let given = makes.made i.op i.width i.imm (value_of values (arg_of i 0)) (value_of values (arg_of i 1))
          (value_of values (arg_of i 2)) driver h.is_fine a b c in (
            after,
            ap (λ o. core.or_stops (core.act_in core.served_at_once (doing_at rules plan.limits.page o engine) worker.state))
                (stands_at rules lawful fine plan n instrs store values driver calls (entry.Do job) rest worker h)
                ∙ ap (λ (f : Job → Engine rules.State → Acting rules). core.act_of (f job engine) worker.state)
                (ap (act_of_op rules) d.same.op ∙ act_computes rules i.op send recv)
                ∙ ap (λ (m : Made rules.State W (List W)). core.act_of (Moves m.calls (record (advanced engine) {
                  driver = m.state;
                  bank = with_result rules job engine.bank m.wires;
                })) worker.state) same,
            record {
              w = next.1;
              follows = follows_result rules lawful plan.limits.page instrs values h.w next.1 engine.bank worker.state.slots
                  worker.state.pages job i made.wires d h.follows
                  given.0
                  (λ has. makes.long i.op i.width i.imm (value_of values (arg_of i 0)) (value_of values (arg_of i 1))
                  (value_of values (arg_of i 2)) driver ready.0 has recv a b c);
              wire = refl;
              unfinished = h.unfinished;
              same = refl;
              is_fine = given.1;
              front = h.front ++ entry.Do job ∷ [];
              split = h.split ∙ sym (append_assoc h.front (entry.Do job ∷ []) rest);
              place = ap suc h.place ∙ sym (length-append h.front (entry.Do job ∷ [])
                  ∙ (let e' : length h.front + 1 ≡ suc (length h.front) = omega arith in e'));
              walks = walks;
              said = ap (λ l. l ++ made.calls) h.said;
            },
          )
