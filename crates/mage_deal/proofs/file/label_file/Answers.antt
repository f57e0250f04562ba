use Rattle.std.proofs.Common.{ℕ, List, sym, ap, ◌∙◌}
use Rattle.mage_instr.specs.declared.instr.Instr.{Instr}
use Rattle.mage_linked.specs.Emission.{emission_of, own_instrs}
use Rattle.mage_streams.specs.Garbling.{bytes_of}
use Rattle.mage_deal.specs.Dealing.{all_labels, new_dealer}
use Rattle.mage_deal.proofs.Dealt.{dealt_is}
use Rattle.mage_deal.proofs.FileLemmas.{other_bytes}
use Rattle.mage_deal.proofs.file.label_file.Goals as goal

pub returns : goal.returns
returns c = λ garbler evaluator same.
    let program = c.args.program.now in
    let seed = c.args.seed.now in
    let own = own_instrs (emission_of program) c.args.worker in
    other_bytes c.labels_of.result _ _
    (ap (λ (is : List Instr). bytes_of (all_labels (new_dealer seed c.args.worker c.args.values.now) is)) c.own_instrs.ensures
    ∙ ap (λ (values : List ℕ). bytes_of (all_labels (new_dealer seed c.args.worker values) own)) (sym same)
    ∙ ap bytes_of (sym (dealt_is program seed garbler evaluator c.args.worker)))
    c.labels_of.ensures
