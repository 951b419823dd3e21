-- The number has the bytes that it was read from.
use Rattle.std.proofs.Common.{ap, ◌∙◌, List, ℕ, w64, to_z, arith}
use Rattle.std.specs.Int.{from_le_bytes}
use Rattle.seg_types.proofs.scalars.I64Plain.read.Goals as goal
use Rattle.seg_types.proofs.scalars.EightBytes.{reads-i64}

pub returns : goal.returns
returns c =
    let same = ap (λ (bytes : List ℕ). to_z w64 (from_le_bytes w64 bytes)) c.in_ok-as_array.ensures.cases.same in
    reads-i64 c.args.from.now c.from_le_bytes.result c.requires (λ i.
    omega (arith, c.type_inv.from i)) (c.from_le_bytes.ensures ∙ same)
