-- The number has the bytes that it was read from.
use Rattle.std.proofs.Common.{ap, ◌∙◌, w64, arith}
use Rattle.std.specs.Int.{from_le_bytes}
use Rattle.seg_types.proofs.scalars.U64Plain.read.Goals as goal
use Rattle.seg_types.proofs.scalars.EightBytes.{reads-u64}

pub returns : goal.returns
returns c =
    reads-u64 c.args.from.now c.from_le_bytes.result c.requires (λ i.
    omega (arith, c.type_inv.from i)) (c.from_le_bytes.ensures
    ∙ ap (from_le_bytes w64) c.in_ok-as_array.ensures.cases.same)
