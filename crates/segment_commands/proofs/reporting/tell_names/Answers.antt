use Rattle.segment_report.specs.Names.{names_text}
use Rattle.segment_commands.proofs.changing.Flush.{went_out}
use Rattle.segment_commands.proofs.reporting.tell_names.Goals as goal

pub returns : goal.returns
returns g c d stands = went_out g.O.Sink.history g.O.Output.flushes c.args.out.now c.put_names.new.out
    c.flush.new.self (names_text c.args.prefix.now c.args.most d) c.in_ok-put_names.field-0
    (c.in_ok-put_names.ensures.writes d stands) c.flush.ensures.unchanged c.flush.result c.flush.ensures.flush
