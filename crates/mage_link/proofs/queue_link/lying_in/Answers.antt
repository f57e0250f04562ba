use Rattle.std.proofs.Common.{length, ap, ◌∙◌}
use Rattle.mage_link.specs.declared.link.Link.{Link}
use Rattle.mage_link.proofs.RowLemmas.{link_at-is}
use Rattle.mage_link.proofs.queue_link.lying_in.Goals as goal

pub returns : goal.returns
returns c =
    let row = c.index.result.now in
    let link = c.index-link.result.now in
    let link_is = link_at-is c.args.links.now row link c.args.source c.args.target c.requires c.index.ensures c.index-link.ensures in
    c.len.ensures.len ∙ ap (λ (l : Link). length l.queue.items) link_is
