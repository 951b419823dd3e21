-- This many pairs have gone out, and the bound leads to the next one.
use Rattle.std.proofs.Common.{◌≡◌}
use Rattle.seg_types.specs.{Names.ByHandle, Values.kind_of_scalar}
use Rattle.segment_manager.specs.{Parts.parts_until, State.DenotesCurrent}
use Rattle.segment_manager.proofs.PartLaws.{well}
use Rattle.segment_values.specs.{Asked.pair_part, Writing.WritesFor}
use Rattle.segment_values.proofs.pairs.Walk.{LeadsTo}
use Rattle.segment_values.proofs.contents.put_pairs.Given as goal

abbrev pub invariant-pairs : goal.invariant-pairs
invariant-pairs g l = record {
  told : WritesFor (g.W.Sink.history l.initial.out) (g.W.Sink.history l.out) well
      (DenotesCurrent l.segment.cut.bytes) (λ d.
      parts_until (pair_part (g.L.Layout.spelling l.initial.layout) l.fn.keys l.values d (ByHandle l.object.handle))
      l.index);
  kind : kind_of_scalar l.bound ≡ l.fn.keys;
  next : LeadsTo l.segment l.object.handle l.fn.keys l.values l.above l.bound l.index;
}
