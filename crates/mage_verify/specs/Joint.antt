-- The joint run: all workers together, where a Send and its Recv happen at once, and every other directive alone. Its order
-- takes at each turn the lowest worker that can go on.
use Rattle.std.specs.Prelude.{◌+◌, ℕ, zero, suc, List, [], ◌∷◌, length, slice_get, slice_index_or, nat_eq, nat_lt, if◌then◌else◌, Option, Some, None}
use Rattle.std.specs.Option.{option_or}
use Rattle.mage_instr.specs.declared.directive.Directive.{Directive}
use Rattle.mage_instr.specs.declared.directive.Directive.TheVariants as entry
use Rattle.mage_instr.specs.declared.op.Op.{Op}
use Rattle.mage_instr.specs.declared.op.Op.TheVariants as op
use Rattle.mage_verify.specs.declared.turn.Stand.{Stand}
use Rattle.mage_verify.specs.declared.turn.Stand.TheVariants as stand
use Rattle.mage_verify.specs.declared.turn.Turn.{Turn}
use Rattle.mage_verify.specs.declared.turn.Turn.TheVariants as turn
use Rattle.mage_verify.specs.declared.turn.Place.{Place}

-- what an instruction asks of another worker
abbrev pub stand_of : Op → (imm : ℕ) → Stand
stand_of op.Input imm = stand.Alone
stand_of op.Const imm = stand.Alone
stand_of op.Output imm = stand.Alone
stand_of op.Add imm = stand.Alone
stand_of op.Sub imm = stand.Alone
stand_of op.Mul imm = stand.Alone
stand_of op.And imm = stand.Alone
stand_of op.Or imm = stand.Alone
stand_of op.Xor imm = stand.Alone
stand_of op.Not imm = stand.Alone
stand_of op.Eq imm = stand.Alone
stand_of op.Lt imm = stand.Alone
stand_of op.Mux imm = stand.Alone
stand_of op.Shl imm = stand.Alone
stand_of op.Shr imm = stand.Alone
stand_of op.Resize imm = stand.Alone
stand_of op.Send imm = stand.Sends imm
stand_of op.Recv imm = stand.Receives imm
stand_of op.Div imm = stand.Alone
stand_of op.Rem imm = stand.Alone
stand_of op.Count imm = stand.Alone
stand_of op.Min imm = stand.Alone
stand_of op.Max imm = stand.Alone

abbrev pub stand_at : Option Directive → Stand
stand_at (Some (entry.Do job)) = stand_of job.op job.imm
stand_at (Some _) = stand.Alone
stand_at None = stand.Ended

-- the width of an instruction; another directive has none, for which 0 stands
abbrev pub width_at : Option Directive → ℕ
width_at (Some (entry.Do job)) = job.width
width_at _ = 0

-- Below, `all` are the directives of each worker, and `done` says how many of them each has done.

-- the directive at which a worker stands, if it hasn't ended
abbrev pub next_of : (all : ℕ → List Directive) → (done : ℕ → ℕ) → (worker : ℕ) → Option Directive
next_of all done worker = slice_get (all worker) (done worker)

-- where each worker stands
abbrev pub stands : (ℕ → List Directive) → (ℕ → ℕ) → ℕ → Stand
stands all done worker = stand_at (next_of all done worker)

-- the other worker takes what this one sends
abbrev pub takes_from : (worker : ℕ) → Stand → (handed : Turn) → Option Turn
takes_from worker (stand.Receives source) handed = if nat_eq source worker then Some handed else None
takes_from worker _ handed = None

-- the other worker sends what this one takes
abbrev pub gives_to : (worker : ℕ) → Stand → (handed : Turn) → Option Turn
gives_to worker (stand.Sends target) handed = if nat_eq target worker then Some handed else None
gives_to worker _ handed = None

-- the turn of a worker that stands so, if it can go on
abbrev pub turn_at : (worker : ℕ) → (standing : Stand) → (others : ℕ → Stand) → Option Turn
turn_at worker stand.Ended others = None
turn_at worker stand.Alone others = Some (turn.Alone worker)
turn_at worker (stand.Sends target) others = takes_from worker (others target) (turn.Hands worker target)
turn_at worker (stand.Receives source) others = gives_to worker (others source) (turn.Hands source worker)

-- the turn of the lowest of so many workers that can go on, from one on
abbrev pub first_turn : (others : ℕ → Stand) → (from count : ℕ) → Option Turn
first_turn others from zero = None
first_turn others from (suc count) = option_or (turn_at from (others from) others) (first_turn others (from + 1) count)

-- a worker has done one directive more
abbrev pub with_one : (worker : ℕ) → (ℕ → ℕ) → ℕ → ℕ
with_one worker done other = if nat_eq other worker then done other + 1 else done other

abbrev pub after_turn : Turn → (ℕ → ℕ) → ℕ → ℕ
after_turn (turn.Alone worker) done = with_one worker done
after_turn (turn.Hands source target) done = with_one target (with_one source done)

abbrev pub after_turns : List Turn → (ℕ → ℕ) → ℕ → ℕ
after_turns [] done = done
after_turns (next ∷ turns) done = after_turns turns (after_turn next done)

-- a turn, if there is one, before the others
abbrev pub then_turns : Option Turn → (Turn → List Turn) → List Turn
then_turns None others = []
then_turns (Some next) others = next ∷ others next

-- The joint order of some workers, for so many turns at most: at each the lowest worker that can go on, until none can.
abbrev pub joint_order : (ℕ → List Directive) → (workers turns : ℕ) → (done : ℕ → ℕ) → List Turn
joint_order all workers zero done = []
joint_order all workers (suc turns) done =
    then_turns (first_turn (stands all done) 0 workers) (λ next. joint_order all workers turns (after_turn next done))

-- of two places that of the lower worker, and the first where both are of one
abbrev pub lower : Option Place → Option Place → Option Place
lower None second = second
lower (Some first) None = Some first
lower (Some first) (Some second) = if nat_lt second.worker first.worker then Some second else Some first

-- where the turn receives a value in another width than it is sent
abbrev pub differing_at : (ℕ → List Directive) → Turn → (ℕ → ℕ) → Option Place
differing_at all (turn.Alone worker) done = None
differing_at all (turn.Hands source target) done =
    if nat_eq (width_at (next_of all done source)) (width_at (next_of all done target)) then None
    else Some (record { worker = target; directive = done target })

-- the same of some turns: that of the lowest worker, and its first
abbrev pub differing : (ℕ → List Directive) → List Turn → (ℕ → ℕ) → Option Place
differing all [] done = None
differing all (next ∷ turns) done = lower (differing_at all next done) (differing all turns (after_turn next done))

-- the lowest of so many workers, from one on, that hasn't ended, and where it stands
abbrev pub waiting_at : Stand → Place → Option Place
waiting_at stand.Ended place = None
waiting_at _ place = Some place

abbrev pub waiting : (ℕ → List Directive) → (done : ℕ → ℕ) → (from count : ℕ) → Option Place
waiting all done from zero = None
waiting all done from (suc count) =
    option_or (waiting_at (stands all done from) (record { worker = from; directive = done from })) (waiting all done (from + 1) count)

-- ---- some lists

-- the directives of each worker
abbrev pub lists_at : List (List Directive) → ℕ → List Directive
lists_at workers worker = slice_index_or workers worker []

-- how many directives there are
abbrev pub count_all : List (List Directive) → ℕ
count_all [] = 0
count_all (directives ∷ workers) = length directives + count_all workers

-- no worker has done anything
abbrev pub none_done : ℕ → ℕ
none_done worker = 0

-- the joint order of all their directives
abbrev pub order_of : List (List Directive) → List Turn
order_of workers = joint_order (lists_at workers) (length workers) (count_all workers) none_done

-- how many directives each has done at its end
abbrev pub done_of : List (List Directive) → ℕ → ℕ
done_of workers = after_turns (order_of workers) none_done

-- the lowest worker that waits for ever, and where
abbrev pub waiting_of : List (List Directive) → Option Place
waiting_of workers = waiting (lists_at workers) (done_of workers) 0 (length workers)

-- the lowest worker that receives a value in another width than it is sent, and where it first does
abbrev pub differing_of : List (List Directive) → Option Place
differing_of workers = differing (lists_at workers) (order_of workers) none_done
