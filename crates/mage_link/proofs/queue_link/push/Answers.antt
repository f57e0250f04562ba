use Rattle.std.proofs.Common.{ap, ◌∙◌}
use Rattle.mage_link.specs.Queues.{with_place}
use Rattle.mage_link.specs.Rows.{rows_of, new_link, link_pushed}
use Rattle.mage_link.proofs.PlaceLemmas.{with_place-same}
use Rattle.mage_link.proofs.RowLemmas.{link_at-is, rows-written}
use Rattle.mage_link.proofs.queue_link.push.Goals as goal

pub returns-in-Ok-clause-pushed : goal.returns-in-Ok-clause-pushed
returns-in-Ok-clause-pushed c =
    let links = c.args.links.now in
    let row = c.index_mut.result.now in
    let link = c.index_mut-link.result.now in
    let link_is = link_at-is links row link c.args.me c.args.to c.requires c.index_mut.ensures.value c.index_mut-link.ensures.value in
    rows-written links row (record { queue = c.try_push_back.new.self; received = link.received }) c.args.me c.args.to c.requires c.index_mut.ensures.value
    ∙ ap (λ queue. with_place (rows_of links) c.args.me c.args.to (record { queue = queue; received = link.received })) c.in-Ok.ensures.ok
    ∙ ap (λ link. with_place (rows_of links) c.args.me c.args.to (link_pushed link c.args.wire)) link_is

pub returns-in-Err-clause-pushed : goal.returns-in-Err-clause-pushed
returns-in-Err-clause-pushed c =
    let links = c.args.links.now in
    let row = c.index_mut.result.now in
    let link = c.index_mut-link.result.now in
    let link_is = link_at-is links row link c.args.me c.args.to c.requires c.index_mut.ensures.value c.index_mut-link.ensures.value in
    rows-written links row (record { queue = c.try_push_back.new.self; received = link.received }) c.args.me c.args.to c.requires c.index_mut.ensures.value
    ∙ ap (λ queue. with_place (rows_of links) c.args.me c.args.to (record { queue = queue; received = link.received })) c.in-Err.ensures.err.1
    ∙ ap (with_place (rows_of links) c.args.me c.args.to) link_is
    ∙ with_place-same (new_link 0) (rows_of links) c.args.me c.args.to
