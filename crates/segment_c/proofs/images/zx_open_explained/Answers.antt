-- The code says why the image is not opened.
use Rattle.std.proofs.Common.{length, rules}
use Rattle.segment_c.proofs.transactions.Images.{placed_why, why_refused}
use Rattle.segment_c.proofs.images.zx_open_explained.Goals as goal

pub returns-in-Err-open_bytes-clause-opening : goal.returns-in-Err-open_bytes-clause-opening
returns-in-Err-open_bytes-clause-opening c =
    let o = c.in-Err-open_bytes.ensures.opening in
    let why = why_refused c.args.image.now (length c.in-Ok.region) c.in-Err-open_bytes.refused.cause o.answers.why
    o.too_small in
    rw c.refused_code.ensures.code (search (why, rules))

pub returns-in-Err-open_bytes-clause-place : goal.returns-in-Err-open_bytes-clause-place
returns-in-Err-open_bytes-clause-place c =
    placed_why c.args.image.now c.in-Err-open_bytes.refused.cause c.args.place.now _ _
    c.refused_code.ensures.code c.refused_code.ensures.place c.in-Err-open_bytes.ensures.place
