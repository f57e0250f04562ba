use Rattle.std.proofs.Common.{rules, ◌∙◌}
use Rattle.std.specs.Int.{w16, to_be_bytes}
use Rattle.mage_file.specs.Formats.{chain, done, field, number}
use Rattle.mage_file.specs.Grammar.{spot, instruction}
use Rattle.mage_file.proofs.Adding.{adds}
use Rattle.mage_file.proofs.writing.put_instruction.Goals as goal

pub returns : goal.returns
unfolding chain done field number spot instruction
returns c = λ more.
    c.in_ok-put_spot-4.ensures more ∙ c.in_ok-put_spot-3.ensures _ ∙ c.in_ok-put_spot-2.ensures _ ∙ c.in_ok-put_spot.ensures _
    ∙ adds c.args.out.now.items (to_be_bytes w16 c.args.job.imm) _ c.extend_from_slice.new.self.items (search rules)
