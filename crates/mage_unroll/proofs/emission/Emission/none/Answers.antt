use Rattle.std.proofs.Common.{◌∙◌, sym, ap, List}
use Rattle.std.proofs.lemmas.List.{get_or-replicate}
use Rattle.mage_linked.specs.declared.emitted.Emitted.{Emitted}
use Rattle.mage_linked.specs.Emission.{count_of}
use Rattle.mage_unroll.proofs.emission.Emission.none.Goals as goal

pub invariant_of-result : goal.invariant_of-result
invariant_of-result c = record {
  counted = λ worker below. get_or-replicate 256 worker 0 0 below ∙ sym (ap (λ (x : List Emitted). count_of worker x) c.new.ensures.items);
}
