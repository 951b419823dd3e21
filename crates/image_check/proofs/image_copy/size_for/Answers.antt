use Rattle.image_check.proofs.Common.{arith, format_in, length, sym}
use Rattle.image_check.proofs.opening.InMemory.{front-place, misfit-cut, misfit-front, misfit-more, more-place}
use Rattle.image_check.proofs.opening.InMemory.{says-right}
use Rattle.image_check.proofs.image_copy.size_for.Goals as goal

pub returns-in-Err-2-clause-fits : goal.returns-in-Err-2-clause-fits
returns-in-Err-2-clause-fits c =
    let long = c.if-image-lt-LEAST.false in
    misfit-front (format_in c.args.versions c.args.image.now) c.args.image.now c.args.base
    (length c.args.region.now) c.in-Err.field-0 (sym c.in-Err.ensures.text) (omega arith)

pub returns-in-Err-2-clause-output : goal.returns-in-Err-2-clause-output
returns-in-Err-2-clause-output c =
    let front = c.if-image-lt-FRONT.false in
    front-place (format_in c.args.versions c.args.image.now) c.args.image.now c.in-Err.field-0.class
    c.in-Err.field-0.place (omega arith) c.in-Err.ensures.output

pub returns-in-Ok-2-clause-fits : goal.returns-in-Ok-2-clause-fits
returns-in-Ok-2-clause-fits c =
    let front = c.if-image-lt-FRONT.false in
    let room = c.if-not-in_range.ensures in
    let short = c.if-count-size.true in
    misfit-cut (format_in c.args.versions c.args.image.now) c.args.image.now c.args.base (length c.args.region.now)
    c.in-Ok.size _
    (says-right (format_in c.args.versions c.args.image.now) c.args.image.now c.in-Ok.size (omega arith)
    (sym c.in-Ok.ensures.text)) (omega arith) (omega arith)

pub returns-in-Ok-3-clause-fits : goal.returns-in-Ok-3-clause-fits
returns-in-Ok-3-clause-fits c =
    let front = c.if-image-lt-FRONT.false in
    let room = c.if-not-in_range.ensures in
    let long = c.if-size-count.true in
    misfit-more (format_in c.args.versions c.args.image.now) c.args.image.now c.args.base (length c.args.region.now)
    c.in-Ok.size _
    (says-right (format_in c.args.versions c.args.image.now) c.args.image.now c.in-Ok.size (omega arith)
    (sym c.in-Ok.ensures.text)) (omega arith) (omega arith)

pub returns-in-Ok-3-clause-output : goal.returns-in-Ok-3-clause-output
returns-in-Ok-3-clause-output c =
    let front = c.if-image-lt-FRONT.false in
    more-place (format_in c.args.versions c.args.image.now) c.args.image.now c.in-Ok.size
    (says-right (format_in c.args.versions c.args.image.now) c.args.image.now c.in-Ok.size (omega arith)
    (sym c.in-Ok.ensures.text))
