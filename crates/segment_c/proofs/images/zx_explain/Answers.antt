-- Fewer bytes than they say are cut off; else the code says why the bytes are no image.
use Rattle.segment_c.proofs.images.zx_explain.Goals as goal
use Rattle.std.proofs.Common.{◌≤◌, inr, length, refl, rules, subst, ℕ}
use Rattle.std.specs.Prelude.{min}
use Rattle.image_check.specs.declared.classes.ImageClass.TheVariants.{Truncated}
use Rattle.segment_c.proofs.transactions.Images.{placed_why, said_more, why_examined}

pub returns-then-len-size-clause-cause : goal.returns-then-len-size-clause-cause
returns-then-len-size-clause-cause c = λ _.
    inr (Truncated, c.class_code.ensures, said_more c.args.image.now (search rules))

pub returns-then-len-size-clause-place : goal.returns-then-len-size-clause-place
returns-then-len-size-clause-place c = inr (Truncated, c.class_code.ensures, refl)

pub returns-clause-cause : goal.returns-clause-cause
returns-clause-cause c = λ _.
    let room = subst (λ (n : ℕ). min n 1073741824 ≤ length c.in-Ok.region) c.size_said-size.ensures c.in-Ok.ensures.room
    in
    let why = c.in-Err-open_bytes.ensures.opening.answers.why in
    rw c.refused_code.ensures.code
    (why_examined c.args.image.now (length c.in-Ok.region) c.in-Err-open_bytes.refused.cause why room)

pub returns-clause-place : goal.returns-clause-place
returns-clause-place c = placed_why c.args.image.now c.in-Err-open_bytes.refused.cause c.args.place.now _ _
    c.refused_code.ensures.code c.refused_code.ensures.place c.in-Err-open_bytes.ensures.place
