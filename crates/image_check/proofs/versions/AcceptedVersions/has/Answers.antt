use Rattle.image_check.proofs.Common.{AcceptedVersions, ap, sym}
use Rattle.raw_region.specs.Format.{current}
use Rattle.image_check.specs.Formats.{is_taken}
use Rattle.image_check.proofs.versions.AcceptedVersions.has.Goals as goal

pub returns-in-Current : goal.returns-in-Current
unfolding current
returns-in-Current c = ap (λ (v : AcceptedVersions). is_taken v c.args.version) (sym c.in-Current.is)
