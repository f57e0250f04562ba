use Rattle.std.proofs.Common.{rules}
use Rattle.std.specs.Int.{w16, to_be_bytes}
use Rattle.mage_file.specs.Formats.{number}
use Rattle.mage_file.proofs.Adding.{adds}
use Rattle.mage_file.proofs.writing.put_u16.Goals as goal

pub returns : goal.returns
unfolding number
returns c = λ more. adds c.args.out.now.items (to_be_bytes w16 c.args.value) more c.extend_from_slice.new.self.items (search rules)
