use Rattle.std.proofs.Common.{◌≡◌, ◌^◌, ◌<◌, drop, true}
use Rattle.std.specs.List.{list_all}
use Rattle.std.specs.Char.{is_ascii_digit}
use Rattle.std.specs.Str.Parse.{digits_value, digits_value_after}
use Rattle.mage_texts.proofs.input_text.value_of.Given as goal

-- the value so far, followed by the digits that are left, is the whole
abbrev pub invariant-loop-digit : goal.invariant-loop-digit
invariant-loop-digit l = record {
  fits : l.value < 2 ^ 128;
  digits : list_all is_ascii_digit (drop l.digit-index l.digits) ≡ true;
  whole : digits_value_after 10 l.value (drop l.digit-index l.digits) ≡ digits_value 10 l.digits;
}
