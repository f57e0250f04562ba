use Rattle.std.proofs.Common.{◌∙◌, ◌-◌, ap, sym, arith, drop, is_some, length, length-drop}
use Rattle.std.proofs.lemmas.List.{take_all}
use Rattle.mage_words.specs.Words.{bytes_of_words, is_option_word, is_value_word, pairs_of}
use Rattle.mage_words.proofs.PairLemmas.{few_pairs, more_pairs}
use Rattle.mage_words.proofs.pairs.behind_pair.Goals as goal

pub returns-in_default-clause-none : goal.returns-in_default-clause-none
returns-in_default-clause-none c = few_pairs c.args.words.now (λ two. omega (arith, two, c.in_default.len_below))

pub returns-then-is_value_word-clause-pairs : goal.returns-then-is_value_word-clause-pairs
returns-then-is_value_word-clause-pairs c =
    let words = c.args.words.now in
    let first = ap is_option_word (sym (c.as_bytes.ensures.value ∙ c.as_str.ensures.value)) ∙ sym c.is_option_word.ensures ∙ c.if-is_option_word.true in
    let second = ap is_value_word (sym (c.as_bytes-then-is_option_word.ensures.value ∙ c.as_str-then-is_option_word.ensures.value)) ∙ sym c.is_value_word.ensures ∙ c.if-is_value_word.true in
    ap (λ rest. is_some (pairs_of (bytes_of_words rest))) (take_all (length words - 2) (drop 2 words) (omega (arith, length-drop 2 words)))
    ∙ more_pairs words c.option-item.result c.value-item.result c.in-len2-up.len_at_least c.option-item.is c.value-item.is first second
