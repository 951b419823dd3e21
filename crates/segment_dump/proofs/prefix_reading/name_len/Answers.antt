use Rattle.segment_dump.proofs.prefix_reading.name_len.Goals as goal
use Rattle.segment_dump.proofs.{Common.◌+◌, Common.[], Common.◌∷◌, Common.arith, reading.Prefixes.name-bare}
use Rattle.segment_dump.proofs.{reading.Prefixes.name-long}
use Rattle.std.proofs.lemmas.Option.{IfSome_then}
use Rattle.segment_dump.proofs.reading.Sizes.{can-name-fewer, can-name-here, can-name-more}

pub returns-then-len-gt-MAX_SEGMENT_LEN-clause-value : goal.returns-then-len-gt-MAX_SEGMENT_LEN-clause-value
returns-then-len-gt-MAX_SEGMENT_LEN-clause-value c =
    let w = c.next_token in
    name-long c.args.text.now w.result.0.now w.result.1.now c.in_default.ensures
    (record { whole = w.ensures.contents; high = w.ensures.token; breaks = w.ensures.line_breaks }) (omega arith)

pub returns-clause-value : goal.returns-clause-value
returns-clause-value c =
    let w = c.next_token in
    name-bare c.args.text.now w.result.0.now w.result.1.now c.in_default.ensures
    (record { whole = w.ensures.contents; high = w.ensures.token; breaks = w.ensures.line_breaks })

pub returns-clause-min_len : goal.returns-clause-min_len
returns-clause-min_len c = can-name-here c.args.text.now c.next_token.result.0.now c.next_token.result.1.now
    c.next_token.ensures.contents

pub returns-in-Some-clause-min_len : goal.returns-in-Some-clause-min_len
returns-in-Some-clause-min_len c =
    IfSome_then c.quoted_len.result c.quoted_len.ensures.min_len (λ r long.
    can-name-fewer c.args.text.now r.1.now r.0 (1 + r.0) (omega arith)
    (can-name-more c.args.text.now c.in-Some.rest.now r.1.now 1 r.0
    (can-name-here c.args.text.now (0x22 ∷ []) c.in-Some.rest.now c.in-Some.ensures) long))
