-- The laws of the type relate its encodings to the encodings of its kind.
use Rattle.std.proofs.Common.{◌∙◌, arith}
use Rattle.seg_types.proofs.theorems.scalar_is_number.Goals as goal
use Rattle.seg_types.proofs.scalars.PlainReads.{scalar-read}

pub returns : goal.returns
returns g c =
    let t = g.met.T.Scalar in
    scalar-read g.T.Scalar.kind g.T.Plain.is_value g.T.Plain.spelling g.T.Scalar.whole t.values t.spelled t.reached
    c.args.from.now (λ i. omega (arith, c.type_inv.from i)) (c.requires ∙ t.size) c.read.result c.read.ensures
