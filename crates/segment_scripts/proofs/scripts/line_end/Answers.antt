use Rattle.memchr.specs.Find.{is_byte}
use Rattle.segment_scripts.proofs.runs.LineEnds.{first_state}
use Rattle.segment_scripts.proofs.scripts.line_end.Goals as goal

pub returns : goal.returns
returns c = first_state (is_byte 0x0A) c.args.bytes.now c.memchr_iter.result c.next.new.self c.next.result
    c.memchr_iter.ensures.value c.next.ensures.steps
