use Rattle.std.specs.Prelude.{map}
use Rattle.segment_scripts.proofs.values.Texts.{IsCut}
use Rattle.segment_scripts.proofs.text_buffers.cut.Given as goal

abbrev pub invariant-texts : goal.invariant-texts
invariant-texts g l = record { cut : IsCut l.fn.lengths l.fn.bytes l.index l.rest (map (λ t. t.now) l.slices.items) }
