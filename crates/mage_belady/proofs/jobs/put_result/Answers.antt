use Rattle.std.proofs.Common.{◌≡◌, true, sym, ◌∙◌, ap}
use Rattle.std.proofs.Math.ListN.{set}
use Rattle.mage_instr.specs.Opcodes.{has_result}
use Rattle.mage_belady.proofs.Serving.{is_in-stands}
use Rattle.mage_belady.proofs.Moved.{dirty-written}
use Rattle.mage_belady.proofs.jobs.put_result.Goals as goal

pub frame_beside-frame-requires-clause-page : goal.frame_beside-frame-requires-clause-page
frame_beside-frame-requires-clause-page c =
    let has : has_result c.args.instr.op ≡ true = sym c.has_result.ensures ∙ c.if-has_result.true in
    is_in-stands c.args.places.now c.args.step c.args.t (record { page = 0; offset = 0 })
    (c.requires.finds.defined has)

pub returns-then-has_result : goal.returns-then-has_result
returns-then-has_result c =
    let has : has_result c.args.instr.op ≡ true = sym c.has_result.ensures ∙ c.if-has_result.true in
    λ held beside dirty. rw has
    (ap (λ f. set c.args.dirty.now.items f true) c.from.ensures
    ∙ dirty-written c.args.step c.args.at _ c.frame_beside-frame.result held
    c.args.dirty.now.items c.frame_beside-frame.ensures beside dirty)
