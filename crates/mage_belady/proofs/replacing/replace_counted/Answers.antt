use Rattle.std.proofs.Common.{rules, ◌≡◌, IfOk, sym}
use Rattle.std.proofs.lemmas.Result.{IfOk-weaker}
use Rattle.mage_belady.specs.Rule.{rule_of}
use Rattle.mage_belady.proofs.Fits.{ReadsLeast-rule_of}
use Rattle.mage_belady.proofs.replacing.replace_counted.Goals as goal

pub returns-clause-least : goal.returns-clause-least
returns-clause-least g c =
    let reads = ReadsLeast-rule_of c.args.frames c.args.instrs.now c.args.places.now
    c.args.trace.now c.requires.trace (sym c.requires.places.count)
    (sym c.in_default.ensures) in
    let is : IfOk c.map_err.result
    (λ list. list.items
    ≡ rule_of c.args.frames c.args.instrs.now c.args.places.now c.args.trace.now) =
    search rules in
    IfOk-weaker c.map_err.result _ _ (λ list e. rw e reads) is
