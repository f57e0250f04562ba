use Rattle.std.proofs.Common.{◌≡◌, length, sym, ◌∙◌}
use Rattle.mage_bank.specs.Bank.{contents, bank_of}
use Rattle.mage_engine.proofs.Pages.{put_there, long_there}
use Rattle.mage_engine.proofs.frames.give.Goals as goal

pub returns-clause-bank : goal.returns-clause-bank
returns-clause-bank g c =
    let frames = c.args.frames.now in
    let same : length c.give_write.new.from.items ≡ length (bank_of (contents frames) c.args.frame) = c.give_write.ensures.whole ∙ sym c.requires.can.whole in
    put_there frames c.from.result c.args.frame c.from.ensures c.requires.inside c.index-frames-from.result c.index-frames-from.is c.give_write.new.from same

pub returns-clause-lengths : goal.returns-clause-lengths
returns-clause-lengths g c =
    let frames = c.args.frames.now in
    let same : length c.give_write.new.from.items ≡ length (bank_of (contents frames) c.args.frame) = c.give_write.ensures.whole ∙ sym c.requires.can.whole in
    long_there frames c.from.result c.args.frame c.from.ensures c.requires.inside c.index-frames-from.result c.index-frames-from.is c.give_write.new.from same
