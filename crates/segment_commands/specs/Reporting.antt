-- What is said of the segment in a file that is read.
use Rattle.std.specs.Prelude.{◌≡◌, ◌⊎◌, ℕ, Bool, List, ◌++◌, Result, Ok, Err}
use Rattle.raw_region.specs.Device.{WriterHistory}
use Rattle.segment_manager.specs.declared.modes.Mode.TheVariants.{ReadOnly}
use Rattle.segment_manager.specs.Directory.{Directory}
use Rattle.segment_manager.specs.State.{SegmentState, DenotesCurrent}
use Rattle.segment_cli.specs.declared.faults.SessionFault.TheVariants.{WriteFault}
use Rattle.segment_commands.specs.declared.command_faults.CommandFault.{CommandFault}
use Rattle.segment_commands.specs.declared.command_faults.CommandFault.TheVariants.{Session}
use Rattle.segment_invocation.specs.declared.invocations.Report.{Report}
use Rattle.segment_invocation.specs.declared.invocations.Report.TheVariants.{Figures, Picture, Page, Dump, Capacities}
use Rattle.segment_invocation.specs.declared.invocations.Report.TheVariants.{Json}
use Rattle.segment_disk.specs.Events.{Event}
use Rattle.segment_dump.specs.Capacities.{capacities, capacities_text}
use Rattle.segment_dump.specs.Json.{json_dump}
use Rattle.segment_dump.specs.Items.{portable}
use Rattle.segment_dump.specs.Texts.{dump_text}
use Rattle.segment_report.specs.Page.{page_of}
use Rattle.segment_report.specs.Picture.{picture_of}
use Rattle.segment_report.specs.Stat.{stat_text}
use Rattle.segment_commands.specs.Commands.{RefusesUnopened}
use Rattle.segment_commands.specs.Opening.{OpensFile}
use Rattle.segment_commands.specs.Telling.{WritesAndFlushes}

-- what is told of a directory
abbrev pub text_of : Report → Directory → List ℕ
text_of Figures = stat_text
text_of Picture = picture_of
text_of Page = page_of
text_of Dump = λ d. dump_text d.size (portable d)
text_of Capacities = λ d. dump_text d.size (portable d) ++ capacities_text (capacities d)
text_of Json = λ d. json_dump (portable d)

-- the text of each directory that a segment's bytes denote was said
abbrev pub WritesTextOf : {O E : Type 0} → (O → WriterHistory) → (O → Bool → O → Type 0) → O → O → SegmentState
    → (Directory → List ℕ) → Result (Unit {0}) E → Type 0
WritesTextOf history flushes out out' s text result = (d : Directory) → DenotesCurrent s.cut.bytes d
    → WritesAndFlushes history flushes out out' (text d) result

module _ {D O : Type 0} (step : D → Event → D → Type 0) (old new : D) (path : List ℕ) (history : O
    → WriterHistory) (flushes : O → Bool → O → Type 0) (out out' : O)
    (text : Directory → List ℕ) (result : Result (Unit {0}) CommandFault) where
  -- the file has a segment, and the text of its directory was said
  pub record ReportsOk : Type 0 where
    pub segment : SegmentState
    pub opens : OpensFile step old new path ReadOnly (Ok segment)
    pub tells : WritesTextOf history flushes out out' segment text result
    pub answer : (fault : CommandFault) → result ≡ Err fault → fault ≡ Session WriteFault

  -- `stat`, `draw` and `dump`: nothing is opened for writing
  abbrev pub RunsReport : Type 0
  RunsReport = RefusesUnopened step old new path out out' result ⊎ ReportsOk
