use Rattle.std.proofs.Common.{◌≡◌, ℕ, List, length, get_or, set, sym, ap, ◌∙◌, subst}
use Rattle.std.specs.Prelude.{Vec}
use Rattle.std.specs.Global.{Global}
use Rattle.mage_port.specs.Port.{Finishes}
use Rattle.mage_bank.specs.Bank.{contents, bank_of}
use Rattle.mage_engine.proofs.Pages.{was_here, is_here, put_there, long_there}
use Rattle.mage_engine.proofs.frames.take.Goals as goal

pub returns-clause-answer : goal.returns-clause-answer
returns-clause-answer g c =
    let frames = c.args.frames.now in
    let same : length c.try_take.new.into.items ≡ length (bank_of (contents frames) c.args.frame) = c.try_take.ensures.whole ∙ sym c.requires.whole in
    let was = was_here frames c.from.result c.args.frame c.from.ensures c.requires.inside c.index-frames-from.result c.index-frames-from.is in
    let is = is_here frames c.from.result c.args.frame c.from.ensures c.requires.inside c.index-frames-from.result c.index-frames-from.is c.try_take.new.into same in
    let before = g.P.SwapPort.tells c.args.port.now in
    let after = g.P.SwapPort.tells c.try_take.new.self in
    subst (λ (held : List ℕ). Finishes before after c.args.slot held (bank_of (contents (set frames c.from.result c.try_take.new.into)) c.args.frame) c.try_take.result) (sym (was ∙ ap (λ (v : Vec ℕ Global). v.items) c.index-frames-from.is))
    (subst (λ (holds : List ℕ). Finishes before after c.args.slot (get_or frames c.from.result c.index-frames-from.result).items holds c.try_take.result) (sym is) c.try_take.ensures.answer)

pub returns-clause-bank : goal.returns-clause-bank
returns-clause-bank g c =
    let frames = c.args.frames.now in
    let same : length c.try_take.new.into.items ≡ length (bank_of (contents frames) c.args.frame) = c.try_take.ensures.whole ∙ sym c.requires.whole in
    put_there frames c.from.result c.args.frame c.from.ensures c.requires.inside c.index-frames-from.result c.index-frames-from.is c.try_take.new.into same

pub returns-clause-lengths : goal.returns-clause-lengths
returns-clause-lengths g c =
    let frames = c.args.frames.now in
    let same : length c.try_take.new.into.items ≡ length (bank_of (contents frames) c.args.frame) = c.try_take.ensures.whole ∙ sym c.requires.whole in
    long_there frames c.from.result c.args.frame c.from.ensures c.requires.inside c.index-frames-from.result c.index-frames-from.is c.try_take.new.into same
