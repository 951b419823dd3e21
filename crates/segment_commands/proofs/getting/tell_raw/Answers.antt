use Rattle.segment_commands.specs.Getting.{value_line}
use Rattle.segment_commands.specs.RawValues.{raw_text}
use Rattle.segment_commands.proofs.changing.Flush.{went_out}
use Rattle.segment_commands.proofs.getting.tell_raw.Goals as goal

pub returns : goal.returns
returns g c = went_out g.O.Sink.history g.O.Output.flushes c.args.out.now c.put_raw.new.out c.flush.new.self
    (value_line (raw_text c.args.value)) c.in_ok-put_raw.field-0 c.in_ok-put_raw.ensures c.flush.ensures.unchanged
    c.flush.result c.flush.ensures.flush
