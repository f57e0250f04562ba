use Rattle.std.proofs.Common.{◌∙◌, ap, sym, map}
use Rattle.clap.specs.Simple.{is_simple}
use Rattle.clap.specs.Faults.{is_simple_and_free}
use Rattle.clap.specs.Walk.{first_of}
use Rattle.clap.specs.Matches.{found_of}
use Rattle.clap.proofs.WalkLemmas.{first_value-rows}
use Rattle.mage_words.specs.Options.{rule_of}
use Rattle.mage_words.specs.Words.{bytes_of_words}
use Rattle.mage_words.proofs.Faultless.{none}
use Rattle.mage_words.proofs.Parsed.{simple_app, simple_and_free}
use Rattle.mage_words.proofs.Exactly.{has_words, none_where_taken, value_where_taken, some_kind}
use Rattle.mage_words.proofs.matches.matches_of.Goals as goal

pub returns-in-Ok-try_get_matches_from-clause-taken : goal.returns-in-Ok-try_get_matches_from-clause-taken
returns-in-Ok-try_get_matches_from-clause-taken c = λ pairs is.
    let os = map rule_of c.args.options.now in
    let made = c.in-Ok.ensures in
    let free = ap is_simple_and_free made ∙ simple_and_free c.args.name.now os in
    let faultless = c.in-Ok-try_get_matches_from.ensures.kinds free in
    sym (none_where_taken c.args.name.now os _ made (bytes_of_words c.args.words.now) pairs (has_words c.args.words.now c.requires.command) is) ∙ ap none faultless

pub returns-in-Ok-try_get_matches_from-clause-values : goal.returns-in-Ok-try_get_matches_from-clause-values
returns-in-Ok-try_get_matches_from-clause-values c = λ pairs is k d lt.
    let name = c.args.name.now in
    let os = map rule_of c.args.options.now in
    let words = bytes_of_words c.args.words.now in
    let some = has_words c.args.words.now c.requires.command in
    let made = c.in-Ok.ensures in
    let parse = c.in-Ok-try_get_matches_from.ensures in
    let free = ap is_simple_and_free made ∙ simple_and_free name os in
    let simple = ap is_simple made ∙ simple_app name os in
    let taken = sym (none_where_taken name os _ made words pairs some is) ∙ ap none (parse.kinds free) in
    first_value-rows (found_of c.in-Ok-try_get_matches_from.matches) _ ∙ ap (first_of _) (parse.matches simple).0
    ∙ value_where_taken name os _ made words pairs some is taken c.requires.apart k d lt

pub returns-in-Err-clause-refused : goal.returns-in-Err-clause-refused
returns-in-Err-clause-refused c = λ pairs is words.
    let os = map rule_of c.args.options.now in
    let made = c.in-Ok.ensures in
    let free = ap is_simple_and_free made ∙ simple_and_free c.args.name.now os in
    sym (none_where_taken c.args.name.now os _ made (bytes_of_words c.args.words.now) pairs (has_words c.args.words.now c.requires.command) is) ∙ some_kind _ c.in-Err.error (c.in-Err.ensures.kinds free) (c.fault_of.ensures.words words)
