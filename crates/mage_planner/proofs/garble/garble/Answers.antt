use Rattle.std.proofs.Common.{ap, refl, ◌∙◌}
use Rattle.std.proofs.lemmas.Result.{err_from_is_err_and}
use Rattle.mage_base.specs.Desk.{DeskTold}
use Rattle.mage_planner.specs.Outcome.{garble_outcome}
use Rattle.mage_planner.proofs.StepLemmas.{only_source, source_garbler}
use Rattle.mage_planner.proofs.ProgramLemmas.{memory_alone}
use Rattle.mage_planner.proofs.GarbleLemmas.{can_be_garbled, for_garble, garble_found, garble_told, garble-source, garble-limits, garble-garbler, garble-garbler-told, garble-seed, garble-seed-told}
use Rattle.mage_planner.proofs.garble.garble.Goals as goal

pub returns-in_err-loaded-clause-some : goal.returns-in_err-loaded-clause-some
returns-in_err-loaded-clause-some g c =
    let p = err_from_is_err_and c.from_residual.result c.from_residual.ensures.1 in
    let source = c.in_err-loaded.ensures.some in
    (only_source source.0, rw (p.1, p.2) (garble-source c.args.request.limits c.args.request.stream.now source.0 c.in_err-loaded.field-0.0 source.1))

pub returns-in_err-planned-clause-some : goal.returns-in_err-planned-clause-some
returns-in_err-planned-clause-some g c =
    let p = err_from_is_err_and c.from_residual-in_err-planned.result c.from_residual-in_err-planned.ensures.1 in
    let source = c.in_ok-loaded.ensures.some in
    (only_source source.0, rw (p.1, p.2) (garble-limits c.args.request.limits c.args.request.stream.now source.0 c.in_ok-loaded.loaded c.in_err-planned.field-0.0 source.1 c.in_err-planned.ensures.program))

pub returns-in_err-rooms-clause-some : goal.returns-in_err-rooms-clause-some
returns-in_err-rooms-clause-some g c =
    let p = err_from_is_err_and c.from_residual-in_err-rooms.result c.from_residual-in_err-rooms.ensures.1 in
    let source = c.in_ok-loaded.ensures.some in
    (only_source source.0, rw (p.1, p.2) (memory_alone c.in_err-rooms.field-0.0 _ (garble_outcome (only_source source.0) c.args.request.limits c.args.request.stream.now) c.in_err-rooms.ensures.rooms))

pub returns-in_err-parts-clause-some : goal.returns-in_err-parts-clause-some
returns-in_err-parts-clause-some g c =
    let p = err_from_is_err_and c.from_residual-in_err-parts.result c.from_residual-in_err-parts.ensures.1 in
    let source = c.in_ok-loaded.ensures.some in
    (only_source source.0, rw (p.1, p.2) (memory_alone c.in_err-parts.field-0.0 _ (garble_outcome (only_source source.0) c.args.request.limits c.args.request.stream.now) c.in_err-parts.ensures.parts))

pub returns-in_err-garbler-clause-some : goal.returns-in_err-garbler-clause-some
returns-in_err-garbler-clause-some g c =
    let p = err_from_is_err_and c.from_residual-in_err-garbler.result c.from_residual-in_err-garbler.ensures.1 in
    let source = c.in_ok-loaded.ensures.some in
    let garbler = c.in_err-garbler.ensures.some in
    (source_garbler source.0 garbler.0, rw (p.1, p.2) (garble-garbler c.args.request.limits c.args.request.stream.now source.0 garbler.0 c.in_ok-loaded.loaded _ c.in_err-garbler.field-0.0 source.1 c.in_ok-planned.ensures.program garbler.1))

pub returns-in_err-garbler-clause-told : goal.returns-in_err-garbler-clause-told
returns-in_err-garbler-clause-told g c =
    let p = err_from_is_err_and c.from_residual-in_err-garbler.result c.from_residual-in_err-garbler.ensures.1 in
    let rest = c.in_ok-loaded.ensures.rest in
    let files = ap (λ (desk : DeskTold). desk.files) rest in
    let steady = ap (λ (desk : DeskTold). desk.steady) rest in
    rw (p.1, p.2) (garble-garbler-told _ _ c.args.request c.in_ok-loaded.loaded c.in_ok-planned.planned.program c.in_err-garbler.field-0.0
    c.in_ok-loaded.ensures.told c.in_ok-planned.ensures.program (rw (files, steady) at c.in_err-garbler.ensures.told))

pub returns-in_err-seed-clause-some : goal.returns-in_err-seed-clause-some
returns-in_err-seed-clause-some g c =
    let p = err_from_is_err_and c.from_residual-in_err-seed.result c.from_residual-in_err-seed.ensures.1 in
    let source = c.in_ok-loaded.ensures.some in
    let garbler = c.in_ok-garbler.ensures.some in
    let seed = c.in_err-seed.ensures.some in
    (for_garble source.0 garbler.0 seed.0, rw (p.1, p.2) (garble-seed c.args.request.limits c.args.request.stream.now source.0 garbler.0 seed.0 c.in_ok-loaded.loaded _ _ c.in_err-seed.field-0.0 source.1 c.in_ok-planned.ensures.program garbler.1 seed.1))

pub returns-in_err-seed-clause-told : goal.returns-in_err-seed-clause-told
returns-in_err-seed-clause-told g c =
    let p = err_from_is_err_and c.from_residual-in_err-seed.result c.from_residual-in_err-seed.ensures.1 in
    let first = c.in_ok-loaded.ensures.rest in
    let second = c.in_ok-garbler.ensures.rest in
    let files = ap (λ (desk : DeskTold). desk.files) first in
    let files_too = ap (λ (desk : DeskTold). desk.files) second ∙ files in
    let steady = ap (λ (desk : DeskTold). desk.steady) second ∙ ap (λ (desk : DeskTold). desk.steady) first in
    rw (p.1, p.2) (garble-seed-told _ _ c.args.request c.in_ok-loaded.loaded c.in_ok-planned.planned.program _ c.in_err-seed.field-0.0
    c.in_ok-loaded.ensures.told c.in_ok-planned.ensures.program (rw files at c.in_ok-garbler.ensures.told)
    (rw (files_too, steady) at c.in_err-seed.ensures.told))

pub returns-clause-some : goal.returns-clause-some
returns-clause-some g c =
    let source = c.in_ok-loaded.ensures.some in
    let read = c.in_ok-loaded.ensures.read in
    let garbler = c.in_ok-garbler.ensures.some in
    let seed = c.in_ok-seed.ensures.some in (
      for_garble source.0 garbler.0 seed.0,
      garble_found (record { parts = c.in_ok-parts.parts; seed = c.in_ok-seed.seed; garbler = c.in_ok-garbler.garbler; stream = c.args.request.stream; rooms = c.in_ok-rooms.rooms })
          c.args.request.limits c.requires.limits read.0 c.in_ok-loaded.loaded c.in_ok-planned.planned.program read.1 c.in_ok-planned.ensures.program
          c.in_ok-parts.ensures.parts c.in_ok-rooms.ensures.rooms c.in_ok-garbler.ensures.fit (for_garble source.0 garbler.0 seed.0)
          source.1 garbler.1 seed.1,
    )

pub returns-clause-told : goal.returns-clause-told
returns-clause-told g c =
    let read = c.in_ok-loaded.ensures.read in
    let files = ap (λ (desk : DeskTold). desk.files) c.in_ok-loaded.ensures.rest in
    let files_too = ap (λ (desk : DeskTold). desk.files) c.in_ok-garbler.ensures.rest ∙ files in
    garble_told (record { parts = c.in_ok-parts.parts; seed = c.in_ok-seed.seed; garbler = c.in_ok-garbler.garbler; stream = c.args.request.stream; rooms = c.in_ok-rooms.rooms })
    c.args.request.limits c.requires.limits read.0 c.in_ok-loaded.loaded c.in_ok-planned.planned.program read.1 c.in_ok-planned.ensures.program
    c.in_ok-parts.ensures.parts c.in_ok-rooms.ensures.rooms c.in_ok-garbler.ensures.fit _ c.args.request refl refl
    c.in_ok-loaded.ensures.told (rw files at c.in_ok-garbler.ensures.told) (rw files_too at c.in_ok-seed.ensures.told)

pub returns-clause-can : goal.returns-clause-can
returns-clause-can g c =
    let read = c.in_ok-loaded.ensures.read in
    can_be_garbled (record { parts = c.in_ok-parts.parts; seed = c.in_ok-seed.seed; garbler = c.in_ok-garbler.garbler; stream = c.args.request.stream; rooms = c.in_ok-rooms.rooms })
    c.args.request.limits c.requires.limits read.0 c.in_ok-loaded.loaded c.in_ok-planned.planned.program read.1 c.in_ok-planned.ensures.program
    c.in_ok-parts.ensures.parts c.in_ok-rooms.ensures.rooms c.in_ok-garbler.ensures.fit c.in_ok-parts.ensures.verified
