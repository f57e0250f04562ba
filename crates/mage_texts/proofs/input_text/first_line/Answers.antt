use Rattle.std.proofs.Common.{arith, ◌≡◌, sym, length, [], ◌∙◌}
use Rattle.std.proofs.lemmas.List.{take_rest, drop_all, take_all}
use Rattle.mage_texts.proofs.Lines.{lines_of-feed, lines_of-no_feed}
use Rattle.mage_texts.proofs.input_text.first_line.Goals as goal

pub returns-in-Some-clause-lines : goal.returns-in-Some-clause-lines
returns-in-Some-clause-lines c = rw take_rest (lines_of-feed c.args.text.now c.in-Some.end (sym c.in-Some.ensures))

pub returns-in-None-clause-lines : goal.returns-in-None-clause-lines
returns-in-None-clause-lines c =
    let text = c.args.text.now in
    let front : c.split_at.result.0.now ≡ text = c.split_at.ensures.front ∙ take_all (length text) text (omega arith) in
    let back : c.split_at.result.1.now ≡ [] = c.split_at.ensures.back ∙ drop_all (length text) text (omega arith) in
    rw (front, back) (lines_of-no_feed text (sym c.in-None.ensures) c.requires)
