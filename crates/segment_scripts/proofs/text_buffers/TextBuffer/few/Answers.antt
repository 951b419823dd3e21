use Rattle.std.proofs.Common.{ap, sym, ◌∙◌, arith, length, rules, take}
use Rattle.segment_scripts.proofs.values.Texts.{parts-length}
use Rattle.segment_scripts.proofs.text_buffers.TextBuffer.few.Goals as goal

pub cut-requires : goal.cut-requires
cut-requires c = (
  search rules,
  (
    omega (
      arith,
      c.requires,
      ap length (sym c.self.view_is),
      parts-length (take c.self.inside.len c.self.inside.lengths) c.self.inside.bytes,
    ),
    c.self.invariant.1 ∙ ap length (sym c.as_slice.ensures),
  ),
)
