use Rattle.std.proofs.Common.{rules, ◌≡◌, ◌<◌, length, arith}
use Rattle.std.proofs.lemmas.List.{length-take, get_or-take}
use Rattle.mage_instr.specs.Opcodes.{arity_of}
use Rattle.mage_belady.specs.Placed.{args_of}
use Rattle.mage_belady.proofs.jobs.arg_spot.Goals as goal

pub spot_of-requires-clause-stands : goal.spot_of-requires-clause-stands
spot_of-requires-clause-stands c =
    let args = c.args.instr.args in
    let n = arity_of c.args.instr.op in
    let three : length args ≡ 3 = search rules in
    let below : c.args.k < n = search rules in
    let long = length-take n args in
    let within : c.args.k < length (args_of c.args.instr) =
    omega (arith, three, below, long, c.requires.count) in
    rw (c.from.ensures, ← get_or-take n args c.args.k 0 below) (c.requires.taken c.args.k 0 within)
