-- A byte fits in eight bits.
use Rattle.std.proofs.Common.{arith}
use Rattle.raw_region.proofs.Bytes.{fits-are_bytes}
use Rattle.raw_region.proofs.slices.bytes_are_octets.Goals as goal

pub returns : goal.returns
returns c =
    record {
      each_element = λ k. omega (arith, c.type_inv.bytes k);
      every = fits-are_bytes c.args.bytes.now (λ k. omega (arith, c.type_inv.bytes k));
    }
