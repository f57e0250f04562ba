use Rattle.std.proofs.Common.{ℕ, List, [], Vec, sym, ◌∙◌, ap}
use Rattle.std.specs.declared.alloc.Global.{Global}
use Rattle.mage_linked.specs.Workers.{list_at}
use Rattle.mage_texts.specs.Lists.{lists_of}
use Rattle.mage_planner.proofs.labels.label_bytes.Goals as goal

pub returns : goal.returns
returns c =
    c.label_file.ensures (λ w. []) (list_at (lists_of c.args.dealing.now.evaluator.items))
    (sym (c.numbers_at-numbers.ensures ∙ ap (λ (numbers : List (Vec ℕ Global)). list_at (lists_of numbers) c.args.worker) c.as_slice.ensures.value))
