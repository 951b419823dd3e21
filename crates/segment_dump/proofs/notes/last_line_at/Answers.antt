use Rattle.segment_dump.proofs.notes.last_line_at.Goals as goal
use Rattle.segment_dump.proofs.{Common.ap, Common.◌==◌, Common.arith, reading.NoteLines.last-byte}
use Rattle.segment_dump.proofs.{reading.NoteLines.starts-at}

pub bytes-init : goal.bytes-init
bytes-init c = (
  omega (arith, c.saturating_sub-at.ensures),
  last-byte c.args.text.now c.saturating_sub-at.result c.saturating_sub-at.ensures,
  λ s. omega (arith, c.saturating_sub-at.ensures),
)

pub returns-else-text-at-ne10 : goal.returns-else-text-at-ne10
returns-else-text-at-ne10 c = record {
  inside = c.bytes.invariant.0;
  starts = starts-at c.args.text.now c.bytes.at c.bytes.invariant.0 (λ s. ap (λ b. b == 0x0A) c.if-text-at-ne10.false);
  line = c.bytes.invariant.1;
  some = c.bytes.invariant.2;
}
