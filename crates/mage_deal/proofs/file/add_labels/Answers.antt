use Rattle.std.proofs.Common.{rules, ℕ, ◌+◌, ◌%◌, ◌^◌, List, ◌++◌, ap, ap₂, ◌∙◌}
use Rattle.mage_streams.specs.Garbling.{bytes_of}
use Rattle.mage_deal.specs.Dealing.{Dealer, all_labels}
use Rattle.mage_deal.proofs.FileLemmas.{evaluators_input}
use Rattle.mage_deal.proofs.file.add_labels.Goals as goal

pub returns-clause-labels : goal.returns-clause-labels
returns-clause-labels c = λ others.
    let d : Dealer = record {
      seed = c.args.seed.now;
      worker = c.args.worker;
      wires = c.args.place.wires;
      values = c.args.place.values.now;
    } in
    let instr = c.args.instr.now in
    let made = evaluators_input d instr others c.args.bytes.now.items c.add_active.new.bytes.items
    (search rules) (search rules) (search rules) in
    ap₂ (λ (wires : ℕ) (values : List ℕ). c.add_active.new.bytes.items ++ bytes_of (all_labels (record d { wires = wires; values = values }) others))
    (ap (λ (n : ℕ). (c.args.place.wires + n) % 2 ^ 63) (search rules)) c.behind_first.ensures
    ∙ made
