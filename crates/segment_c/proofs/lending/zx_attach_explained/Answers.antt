-- The code says why the image is not opened, and the memory is as it was.
use Rattle.std.proofs.Common.{length, rules}
use Rattle.raw_region.specs.Memory.{part}
use Rattle.segment_c.proofs.transactions.Images.{placed_why, why_refused}
use Rattle.segment_c.proofs.lending.zx_attach_explained.Goals as goal

pub returns-in-Err-clause-opening : goal.returns-in-Err-clause-opening
returns-in-Err-clause-opening c =
    let o = c.in-Err.ensures.opening in
    let it = c.over-region.result in
    let why = why_refused (part it 0 c.args.len) (length it) c.in-Err.refused.cause o.answers.why o.too_small in
    rw c.refused_code.ensures.code (search (why, rules))

pub returns-in-Err-clause-place : goal.returns-in-Err-clause-place
returns-in-Err-clause-place c =
    let placed = placed_why (part c.over-region.result 0 c.args.len) c.in-Err.refused.cause c.args.place.now _ _
    c.refused_code.ensures.code c.refused_code.ensures.place c.in-Err.ensures.place in
    search (placed, rules)
