use Rattle.std.proofs.Common.{◌∙◌, sym}
use Rattle.mage_words.proofs.Numbers.{number_refused}
use Rattle.mage_words.proofs.number.number_in.Goals as goal

pub returns-in_default-3 : goal.returns-in_default-3
returns-in_default-3 c =
    sym (number_refused c.args.text.now c.parse.result c.in_default.field-0 c.args.least c.args.most c.parse.ensures.value.0 (sym c.is_number.ensures ∙ c.if-not-is_number.false) c.in_default.is c.ranges.most.fits)
