use Rattle.std.proofs.Common.{◌≡◌, [], sym, subst, rules}
use Rattle.segment_lang.specs.Arguments.{TypedNumbers}
use Rattle.segment_scripts.proofs.values.ScalarBuffers.{IsFilled, filled-none}
use Rattle.segment_scripts.proofs.scalars.copy_values.Goals as goal

pub values-init : goal.values-init
values-init g c =
    let whole = g.T.Scalar.whole in
    let k = g.T.Scalar.kind in
    let same : c.into_iter-value-iterator.result ≡ c.args.values = search rules in
    let none = filled-none whole k c.args.values c.requires.kind c.requires.range c.requires.max_count in
    record {
      can = tt;
      finite = tt;
      filled = subst (λ buffer. IsFilled whole k c.args.values c.into_iter-value-iterator.result buffer) (sym
          c.clear.ensures)
          (subst (λ (t : TypedNumbers). IsFilled whole k c.args.values t []) (sym same) none);
    }
