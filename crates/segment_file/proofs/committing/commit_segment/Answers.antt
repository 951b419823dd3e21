use Rattle.std.proofs.Common.{arith}
use Rattle.raw_region.specs.Format.{current}
use Rattle.segment_file.proofs.committing.commit_segment.Goals as goal

pub returns-clause-acceptance : goal.returns-clause-acceptance
unfolding current
returns-clause-acceptance g c d stands =
    let law = rw c.as_bytes-image.ensures.bytes at (c.one_directory.ensures current (omega arith)) in
    record { denotes = stands; accepted = law.none d stands.denotes }
