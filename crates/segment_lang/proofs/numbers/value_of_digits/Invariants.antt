use Rattle.std.proofs.Common.{◌≡◌, length, ◌<◌, ◌^◌}
use Rattle.std.specs.List.{list_all}
use Rattle.segment_lang.specs.Lexing.{is_digit, number_after}
use Rattle.segment_lang.proofs.numbers.value_of_digits.Given as goal

abbrev pub invariant-digits : goal.invariant-digits
invariant-digits l = record {
  digits : list_all is_digit l.rest ≡ list_all is_digit l.digits;
  value : number_after l.number l.rest ≡ number_after 0 l.digits;
  fits : l.number < 2 ^ 64;
}

abbrev pub decreases-digits : goal.decreases-digits
decreases-digits l = length l.rest
