use Rattle.std.proofs.Common.{List, ℕ, Result, Ok, Err, inl, inr, sym, subst, arith}
use Rattle.raw_region.specs.Device.{WriterHistory, Writes}
use Rattle.segment_cli.specs.Reports.{WritesText}
use Rattle.segment_commands.specs.declared.command_faults.CommandFault.{CommandFault}
use Rattle.segment_commands.specs.Reports.{bad_dump_line, command_text, no_space_line}
use Rattle.segment_commands.proofs.reports.report.Goals as goal

puts-of : {A E : Type 0} (old new : WriterHistory) (result : Result A E) (text : List ℕ)
    → Writes old new result text → WritesText old new text
puts-of old new (Ok a) text w = let counted = w.counted in inl (omega (arith, counted), w.ok)
puts-of old new (Err e) text w = inr (w.counted, w.err)

pub returns-in-Growth-clause-text : goal.returns-in-Growth-clause-text
returns-in-Growth-clause-text g c =
    subst (λ (f : CommandFault). WritesText (g.S.Sink.history c.args.err.now)
    (g.S.Sink.history c.report-in-Growth.new.err) (command_text f)) (sym c.in-Growth.is)
    c.report-in-Growth.ensures.text

pub returns-in-InUse-clause-text : goal.returns-in-InUse-clause-text
returns-in-InUse-clause-text g c =
    subst (λ (f : CommandFault). WritesText (g.S.Sink.history c.args.err.now) (g.S.Sink.history c.put_line.new.err)
    (command_text f)) (sym c.in-InUse.is) c.put_line.ensures.text

pub returns-in-Stopped-clause-text : goal.returns-in-Stopped-clause-text
returns-in-Stopped-clause-text g c =
    subst (λ (f : CommandFault). WritesText (g.S.Sink.history c.args.err.now)
    (g.S.Sink.history c.put_line-in-Stopped.new.err) (command_text f)) (sym c.in-Stopped.is)
    c.put_line-in-Stopped.ensures.text

pub returns-in-Misspelled-clause-text : goal.returns-in-Misspelled-clause-text
returns-in-Misspelled-clause-text g c =
    subst (λ (f : CommandFault). WritesText (g.S.Sink.history c.args.err.now)
    (g.S.Sink.history c.put_line-in-Misspelled.new.err) (command_text f)) (sym c.in-Misspelled.is)
    c.put_line-in-Misspelled.ensures.text

pub returns-in-NoValue-clause-text : goal.returns-in-NoValue-clause-text
returns-in-NoValue-clause-text g c =
    subst (λ (f : CommandFault). WritesText (g.S.Sink.history c.args.err.now)
    (g.S.Sink.history c.put_line-in-NoValue.new.err) (command_text f)) (sym c.in-NoValue.is)
    c.put_line-in-NoValue.ensures.text

pub returns-in-TooManyObjects-clause-text : goal.returns-in-TooManyObjects-clause-text
returns-in-TooManyObjects-clause-text g c =
    subst (λ (f : CommandFault). WritesText (g.S.Sink.history c.args.err.now)
    (g.S.Sink.history c.put_line-in-TooManyObjects.new.err) (command_text f)) (sym c.in-TooManyObjects.is)
    c.put_line-in-TooManyObjects.ensures.text

pub returns-in-OutOfMemory-clause-text : goal.returns-in-OutOfMemory-clause-text
returns-in-OutOfMemory-clause-text g c =
    subst (λ (f : CommandFault). WritesText (g.S.Sink.history c.args.err.now)
    (g.S.Sink.history c.report_no_memory.new.err) (command_text f)) (sym c.in-OutOfMemory.is)
    c.report_no_memory.ensures.text

pub returns-in-NoSpace-clause-text : goal.returns-in-NoSpace-clause-text
returns-in-NoSpace-clause-text g c =
    subst (λ (f : CommandFault). WritesText (g.S.Sink.history c.args.err.now) (g.S.Sink.history c.put_no_space.new.err)
    (command_text f)) (sym c.in-NoSpace.is)
    (puts-of (g.S.Sink.history c.args.err.now) (g.S.Sink.history c.put_no_space.new.err) c.put_no_space.result
    (no_space_line c.in-NoSpace.needed) c.put_no_space.ensures)

pub returns-in-BadDump-clause-text : goal.returns-in-BadDump-clause-text
returns-in-BadDump-clause-text g c =
    subst (λ (f : CommandFault). WritesText (g.S.Sink.history c.args.err.now) (g.S.Sink.history c.put_bad_dump.new.err)
    (command_text f)) (sym c.in-BadDump.is)
    (puts-of (g.S.Sink.history c.args.err.now) (g.S.Sink.history c.put_bad_dump.new.err) c.put_bad_dump.result
    (bad_dump_line c.in-BadDump.bad) c.put_bad_dump.ensures)
