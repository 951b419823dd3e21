use Rattle.std.proofs.Common.{ap, sym, arith, length, take}
use Rattle.segment_scripts.proofs.values.Texts.{parts-length}
use Rattle.segment_scripts.proofs.text_buffers.TextBuffer.len.Goals as goal

pub returns : goal.returns
returns c = omega (
  arith,
  ap length (sym c.self.view_is),
  parts-length (take c.self.inside.len c.self.inside.lengths) c.self.inside.bytes,
)
