use Rattle.std.proofs.Common.{rules, length, ◌∙◌}
use Rattle.std.proofs.lemmas.Result.{on_ok_weaker}
use Rattle.std.specs.Int.{w32, to_be_bytes}
use Rattle.mage_file.specs.Formats.{chain, done, field, number}
use Rattle.mage_file.specs.Grammar.{store, section}
use Rattle.mage_file.proofs.Adding.{adds}
use Rattle.mage_file.proofs.writing.put_section.Goals as goal

pub returns : goal.returns
unfolding chain done field number store section
returns c = λ more.
    on_ok_weaker c.put_directives.result
    (λ e. e ∙ adds c.put_u32.new.out.items (to_be_bytes w32 (length c.args.directives.now)) _ c.extend_from_slice.new.self.items (search rules) ∙ c.in_ok-put_u32.ensures _)
    (c.put_directives.ensures more)
