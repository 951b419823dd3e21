use Rattle.std.proofs.Common.{arith, rules}
use Rattle.std.proofs.lemmas.Fmt.{length-decimal-le}
use Rattle.segment_lang.proofs.texts.put_number_line.Goals as goal

pub write_digits-digits-requires : goal.write_digits-digits-requires
write_digits-digits-requires g c =
    let digits = length-decimal-le 20 c.args.number (omega arith) (omega arith) c.ranges.number.fits in
    (omega arith, omega arith)

pub overflow_sub-start : goal.overflow_sub-start
overflow_sub-start g c =
    let digits = length-decimal-le 20 c.args.number (omega arith) (omega arith) c.ranges.number.fits in
    let end = c.write_digits-digits.ensures.start in
    let prefix = c.if-prefix-gt-LONGEST_PREFIX.false in
    omega arith

pub copy_from_slice-requires : goal.copy_from_slice-requires
copy_from_slice-requires g c =
    let digits = length-decimal-le 20 c.args.number (omega arith) (omega arith) c.ranges.number.fits in
    search (rules, arith)
