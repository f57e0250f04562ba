use Rattle.std.proofs.Common.{rules, ◌∙◌, ◌++◌}
use Rattle.std.specs.Prelude.{codes}
use Rattle.std.specs.Int.{w16, to_be_bytes}
use Rattle.mage_file.specs.Formats.{chain, done, field, number, text}
use Rattle.mage_file.specs.Grammar.{head}
use Rattle.mage_file.proofs.Adding.{adds}
use Rattle.mage_file.proofs.writing.put_head.Goals as goal

pub returns : goal.returns
unfolding chain done field number text head
returns c = λ more.
    c.in_ok-put_u16.ensures more
    ∙ adds c.extend_from_slice.new.self.items (to_be_bytes w16 c.args.workers) (to_be_bytes w16 0 ++ more) c.extend_from_slice-2.new.self.items (search rules)
    ∙ adds c.args.out.now.items (codes "MAGEMP02") (to_be_bytes w16 c.args.workers ++ (to_be_bytes w16 0 ++ more)) c.extend_from_slice.new.self.items (search rules)
