use Rattle.image_check.proofs.Common.{arith}
use Rattle.image_check.proofs.opening.Saved.{accepted_image}
use Rattle.image_check.proofs.saving.write_image.Goals as goal

pub returns-clause-acceptance : goal.returns-clause-acceptance
returns-clause-acceptance g c = accepted_image c.args.bytes.now (λ k. omega (arith, c.type_inv.bytes k))
