-- Bits that are at most those of infinity, but for the sign, are of a number.
use Rattle.std.proofs.Common.{arith}
use Rattle.std.proofs.lemmas.Float.{not_nan_f64_bits}
use Rattle.examples.proofs.inventory.Article.kilograms.Goals as goal

pub float_from_bits-result : goal.float_from_bits-result
float_from_bits-result c = not_nan_f64_bits c.args.self.weight (let small = c.if-self-gt9218868437227405312.false
    in grind arith)
