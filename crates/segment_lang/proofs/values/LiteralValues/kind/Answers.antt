use Rattle.segment_lang.proofs.values.Arrays.{values_in_range}
use Rattle.segment_lang.proofs.values.LiteralValues.kind.Goals as goal

pub returns-clause-values : goal.returns-clause-values
returns-clause-values c = rw (← c.self.view_is) (values_in_range c.self.inside.kind c.self.inside.behind.now)
