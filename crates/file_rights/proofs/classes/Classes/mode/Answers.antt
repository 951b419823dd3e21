use Rattle.std.proofs.Common.{arith}
use Rattle.file_rights.proofs.classes.Bits.{bits_below}
use Rattle.file_rights.proofs.classes.Classes.mode.Goals as goal

pub overflow_add-result-2 : goal.overflow_add-result-2
overflow_add-result-2 c = omega (
  arith,
  bits_below c.args.self.owner,
  bits_below c.args.self.group,
  bits_below c.args.self.other,
)

pub returns-clause-upper : goal.returns-clause-upper
returns-clause-upper c =
    omega (
      arith,
      c.bits.ensures,
      bits_below c.args.self.owner,
      bits_below c.args.self.group,
      bits_below c.args.self.other,
    )
