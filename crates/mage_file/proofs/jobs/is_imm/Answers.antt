use Rattle.std.specs.Bool.{one_answer}
use Rattle.mage_file.specs.Rules.{is_imm}
use Rattle.mage_file.proofs.JobLaws.{imm_decides}
use Rattle.mage_file.proofs.jobs.is_imm.Goals as goal

pub returns : goal.returns
returns c = one_answer c.width_ok.result (is_imm c.args.op c.args.width c.args.imm) c.width_ok.ensures (imm_decides c.args.op c.args.width c.args.imm)
