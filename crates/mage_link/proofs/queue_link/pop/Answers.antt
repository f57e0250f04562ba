use Rattle.mage_link.proofs.PopLemmas.{pops_some, pops_none}
use Rattle.mage_link.proofs.queue_link.pop.Goals as goal

pub returns-in-Some : goal.returns-in-Some
returns-in-Some c =
    pops_some c.args.links.now c.index_mut.result.now c.index_mut-link.result.now c.args.from c.args.me c.requires c.index_mut.ensures.value c.index_mut-link.ensures.value
    c.pop_front.new.self c.note.new.self c.in-Some.wire c.in-Some.ensures.value c.in-Some.ensures.items c.note.ensures

pub returns-in-None : goal.returns-in-None
returns-in-None c =
    pops_none c.args.links.now c.index_mut.result.now c.index_mut-link.result.now c.args.from c.args.me c.requires c.index_mut.ensures.value c.index_mut-link.ensures.value
    c.pop_front.new.self c.in-None.ensures.value c.in-None.ensures.items
