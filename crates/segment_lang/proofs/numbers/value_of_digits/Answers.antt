use Rattle.std.proofs.Common.{arith}
use Rattle.std.proofs.lemmas.Bool.Decides.{nat_tests}
use Rattle.segment_lang.proofs.values.Decimals.{further_digits}
use Rattle.segment_lang.proofs.numbers.value_of_digits.Goals as goal

pub returns-then-next-from : goal.returns-then-next-from
returns-then-next-from c =
    let more = further_digits c.digits.number c.digits.rest.now c.in-len1-up.len_at_least in
    grind (arith, nat_tests)
