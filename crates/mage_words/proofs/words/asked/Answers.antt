use Rattle.std.proofs.Common.{◌∙◌, ap, map, sym}
use Rattle.std.proofs.lemmas.Result.{err_from_is_err_and}
use Rattle.clap.specs.Matches.{found_of}
use Rattle.mage_words.specs.Options.{rule_of}
use Rattle.mage_words.specs.Words.{bytes_of_words, request_of}
use Rattle.mage_words.specs.Answers.{request_view}
use Rattle.mage_words.proofs.Exactly.{all_asked, asked_is, none_asked, nothing_asked, pairs_asked, refused_is}
use Rattle.mage_words.proofs.words.asked.Goals as goal

pub returns-in_default : goal.returns-in_default
returns-in_default c = nothing_asked (bytes_of_words c.args.words.now) (sym c.command_in.ensures ∙ c.in_default.is)

pub returns-in_err-matches : goal.returns-in_err-matches
returns-in_err-matches c =
    let p = err_from_is_err_and c.from_residual.result c.from_residual.ensures.1 in
    let words = bytes_of_words c.args.words.now in
    let name = c.in-Some.command in
    let rule = c.command_rule-rule.result in
    let own = ap (λ row. map rule_of row.options) c.command_rule-rule.ensures.row in
    let asked = pairs_asked words name (sym c.in-Some.ensures) in
    rw (p.1, p.2) (refused_is request_view c.in_err-matches.field-0.0 (request_of words)
    (λ is. asked.3 ∙ none_asked name (map rule_of rule.options.now) own asked.0 (c.in_err-matches.ensures.refused asked.0 asked.2 is)))

pub returns : goal.returns
returns c =
    let words = bytes_of_words c.args.words.now in
    let name = c.in-Some.command in
    let rule = c.command_rule-rule.result in
    let own = ap (λ row. map rule_of row.options) c.command_rule-rule.ensures.row in
    let asked = pairs_asked words name (sym c.in-Some.ensures) in
    let clauses = c.in_ok-matches.ensures in
    let all = all_asked name (map rule_of rule.options.now) own asked.0 (found_of c.in_ok-matches.matches) (clauses.taken asked.0 asked.2) (clauses.values asked.0 asked.2) in
    rw c.ok_or.ensures.value (asked_is request_view c.asked_of.result (request_of words) (c.asked_of.ensures ∙ all ∙ sym asked.3))
