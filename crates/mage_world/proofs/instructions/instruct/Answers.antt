use Rattle.std.proofs.Common.{refl}
use Rattle.mage_link.specs.Queues.{lies_in}
use Rattle.mage_world.proofs.instructions.instruct.Goals as goal

pub returns-in_default : goal.returns-in_default
returns-in_default g c = record {
  stands = c.compute_job.ensures.stands;
  turn = c.compute_job.ensures.turn c.args.links.now.capacity (lies_in c.args.links.now);
  links = (refl, refl);
}
