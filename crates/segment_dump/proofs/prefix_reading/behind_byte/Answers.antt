use Rattle.segment_dump.proofs.prefix_reading.behind_byte.Goals as goal
use Rattle.segment_dump.proofs.{Common.◌≤◌, Common.length, Common.arith, Common.ltb-false, reading.Sizes.can-name-first}

pub returns-in-92-clause-non_empty : goal.returns-in-92-clause-non_empty
returns-in-92-clause-non_empty c = let long : 4 ≤ length c.args.text.now = omega arith
    in can-name-first 4 c.args.text.now (omega arith) long

pub returns-in-92-2-clause-non_empty : goal.returns-in-92-2-clause-non_empty
returns-in-92-2-clause-non_empty c = let long : 2 ≤ length c.args.text.now =
    ltb-false (length c.args.text.now) 2 c.if-text-lt2-1.false in can-name-first 2 c.args.text.now (omega arith) long

pub returns-in-len1-up-clause-non_empty : goal.returns-in-len1-up-clause-non_empty
returns-in-len1-up-clause-non_empty c = let long : 1 ≤ length c.args.text.now =
    ltb-false (length c.args.text.now) 1 c.if-text-lt1-1.false in can-name-first 1 c.args.text.now (omega arith) long
