use Rattle.mage_belady.proofs.Serving.{is_in-stands}
use Rattle.mage_belady.proofs.jobs.spot_of.Goals as goal

pub frame_beside-requires-clause-page : goal.frame_beside-requires-clause-page
frame_beside-requires-clause-page c =
    is_in-stands c.args.places.now c.args.step c.args.v
    (record { page = 0; offset = 0 }) c.requires.stands
