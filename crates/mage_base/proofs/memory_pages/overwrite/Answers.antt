use Rattle.std.proofs.Common.{ap, map, set, ◌∙◌}
use Rattle.std.proofs.lemmas.List.{map-set}
use Rattle.mage_base.proofs.memory_pages.overwrite.Goals as goal

pub returns-clause-pages : goal.returns-clause-pages
returns-clause-pages c =
    map-set (λ held. held.items) c.args.pages.now.items c.args.page c.copy_from_slice.new.self
    ∙ ap (set (map (λ held. held.items) c.args.pages.now.items) c.args.page) c.copy_from_slice.ensures.items
