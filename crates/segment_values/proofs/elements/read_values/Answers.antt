-- One more value is read.
use Rattle.std.proofs.Common.{◌∙◌}
use Rattle.seg_types.proofs.Laws.{all_spell_one}
use Rattle.segment_values.proofs.elements.InPlace.{reads-all, reads-value, slice-element}
use Rattle.segment_values.proofs.elements.read_values.Goals as goal

pub values-preserved : goal.values-preserved
values-preserved g c =
    reads-value g.T.Scalar.whole g.T.Scalar.kind c.args.bytes.now _ c.values.series c.values.i c.values.auto.series
    c.values.invariant c.values-test.true c.scalar_is_number.result _ _ _ c.scalar_is_number.ensures
    (λ z v e. rw (← e) at (all_spell_one g.T.Scalar.kind z v).reads)
    (slice-element c.args.bytes.now c.values.i (c.SIZE-each.ensures ∙ g.met.T.Scalar.size)) c.unwrap_or.ensures

pub returns : goal.returns
returns g c =
    reads-all g.T.Scalar.whole g.T.Scalar.kind c.args.bytes.now _ c.values.series c.values.i c.values.auto.series
    c.values.invariant c.values-test.false
