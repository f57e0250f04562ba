use Rattle.std.proofs.Common.{◌+◌, take, drop, get_or, IsTrue, subst, sym, ◌∙◌, arith}
use Rattle.std.proofs.lemmas.List.{length-set, take_more_set}
use Rattle.mage_label.specs.Labels.{blank}
use Rattle.mage_eval.proofs.Colours.{at_more, bits_more, fails_at, left_more, wrong_more}
use Rattle.mage_eval.proofs.outputs.read_value.Goals as goal

pub loop-i-preserved : goal.loop-i-preserved
loop-i-preserved g c =
    let l = c.loop-i in
    let s' = c.read_colour.new.stream in
    let less = c.loop-i-test.true in
    let colour = c.in-Ok.colour in
    let reads = c.in-Ok.ensures.read in
    let now : IsTrue c.args.stream.now.told → IsTrue l.stream.told = λ t. subst (λ b. IsTrue b) (sym l.invariant.told) t in
    let written = take_more_set l.bits l.i c.decoded.result (omega (arith, l.invariant.long, less, c.requires)) in
    record {
      long = length-set l.bits l.i c.decoded.result ∙ l.invariant.long;
      bits = λ t. rw written (bits_more c.args.wires.now l.i _ less colour l.stream s' reads (now t) (take l.i l.bits) c.decoded.result c.decoded.ensures ∙ l.invariant.bits t);
      wrong = λ t. wrong_more c.args.wires.now l.i blank less colour l.stream s' reads (now t) ∙ l.invariant.wrong t;
      left = λ t. left_more c.args.wires.now l.i blank less colour l.stream s' reads (now t) ∙ l.invariant.left t;
      at = at_more c.args.wires.now l.i blank less colour l.stream s' reads ∙ l.invariant.at;
      steady = reads.steady ∙ l.invariant.steady;
      faults = reads.faults ∙ l.invariant.faults;
      told = reads.told ∙ l.invariant.told;
    }

pub returns-in-Err-clause-fails : goal.returns-in-Err-clause-fails
returns-in-Err-clause-fails g c =
    let l = c.loop-i in
    fails_at c.args.wires.now l.i blank c.args.stream.now l.stream c.read_colour.new.stream c.in-Err.fault c.loop-i-test.true
    l.invariant.wrong l.invariant.steady l.invariant.faults l.invariant.told (c.in-Err.ensures.fails (get_or c.args.wires.now l.i blank) (drop (l.i + 1) c.args.wires.now))
