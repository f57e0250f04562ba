use Rattle.std.proofs.Common.{◌∙◌}
use Rattle.mage_link.specs.Rows.{rows_of}
use Rattle.mage_link.proofs.RowLemmas.{has_link}
use Rattle.mage_link.proofs.CallLemmas.{lies_so, lies_within, has_place}
use Rattle.mage_link.proofs.queue_link.QueueLink.lying.Goals as goal

pub lying_in-requires : goal.lying_in-requires
lying_in-requires c =
    let inside = c.self.inside in
    let s = rw (← c.self.view_is) at c.requires.source in
    let t = rw (← c.self.view_is) at c.requires.target in
    has_link inside.workers inside.capacity (rows_of inside.links) c.args.source c.args.target c.self.invariant s t

pub returns-clause-count : goal.returns-clause-count
returns-clause-count c =
    let inside = c.self.inside in
    rw (← c.self.view_is) (c.lying_in.ensures ∙ lies_so inside.workers inside.capacity inside.waits (rows_of inside.links) c.args.source c.args.target)

pub returns-clause-within : goal.returns-clause-within
returns-clause-within c =
    let inside = c.self.inside in
    let s = rw (← c.self.view_is) at c.requires.source in
    let t = rw (← c.self.view_is) at c.requires.target in
    let has = has_link inside.workers inside.capacity (rows_of inside.links) c.args.source c.args.target c.self.invariant s t in
    rw (← c.self.view_is) (lies_within inside.workers inside.capacity inside.waits (rows_of inside.links) c.args.source c.args.target c.self.invariant has)

pub returns-clause-there : goal.returns-clause-there
returns-clause-there c =
    let inside = c.self.inside in
    let s = rw (← c.self.view_is) at c.requires.source in
    let t = rw (← c.self.view_is) at c.requires.target in
    let has = has_link inside.workers inside.capacity (rows_of inside.links) c.args.source c.args.target c.self.invariant s t in
    rw (← c.self.view_is) (has_place inside.workers inside.capacity inside.waits (rows_of inside.links) c.args.source c.args.target has)
