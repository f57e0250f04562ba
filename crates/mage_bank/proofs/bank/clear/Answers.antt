use Rattle.std.proofs.Common.{length, replicate, sym, ap, ◌∙◌, arith}
use Rattle.std.specs.Prelude.{Vec, ℕ}
use Rattle.std.specs.Global.{Global}
use Rattle.mage_network.specs.Network.{put}
use Rattle.mage_bank.specs.Bank.{contents, bank_of}
use Rattle.mage_bank.proofs.Banking.{bank_here, bank_written, lengths_written}
use Rattle.mage_bank.proofs.bank.clear.Goals as goal

pub returns-clause-bank : goal.returns-clause-bank
returns-clause-bank c =
    let frames = c.args.frames.now in
    let i = c.from.result in
    let old = c.index-frames-from.result in
    let bank = bank_of (contents frames) in
    bank_written frames i old c.deref_mut.result.now c.fill_with_zeros.new.bytes (omega arith) c.index-frames-from.is c.deref_mut.ensures.value c.fill_with_zeros.auto.bytes
    ∙ ap (put bank i) c.fill_with_zeros.ensures
    ∙ ap (λ l. put bank i (replicate (length l) 0)) (c.deref_mut.ensures.value ∙ ap (λ (v : Vec ℕ Global). v.items) (sym c.index-frames-from.is) ∙ sym (bank_here frames i old (omega arith) c.index-frames-from.is))
    ∙ ap (λ j. put bank j (replicate (length (bank j)) 0)) c.from.ensures

pub returns-clause-lengths : goal.returns-clause-lengths
returns-clause-lengths c =
    lengths_written c.args.frames.now c.from.result c.index-frames-from.result c.deref_mut.result.now c.fill_with_zeros.new.bytes c.index-frames-from.is c.deref_mut.ensures.value c.fill_with_zeros.auto.bytes
