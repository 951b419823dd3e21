use Rattle.segment_commands.specs.Reporting.{text_of}
use Rattle.segment_commands.proofs.changing.Flush.{went_out}
use Rattle.segment_commands.proofs.reporting.tell_report.Goals as goal

pub returns : goal.returns
returns g c d stands = went_out g.O.Sink.history g.O.Output.flushes c.args.out.now c.write_report.new.out
    c.flush.new.self (text_of c.args.what d) c.in_ok-write_report.field-0
    (c.in_ok-write_report.ensures d stands) c.flush.ensures.unchanged c.flush.result c.flush.ensures.flush
