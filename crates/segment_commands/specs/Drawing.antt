-- What `draw` says of a segment with few objects.
use Rattle.std.specs.Prelude.{◌≡◌, ◌⊎◌, ◌<◌, ◌≤◌, ℕ, Bool, List, Result, Ok, Err, length}
use Rattle.raw_region.specs.Device.{WriterHistory}
use Rattle.segment_manager.specs.declared.modes.Mode.TheVariants.{ReadOnly}
use Rattle.segment_manager.specs.Directory.{Directory}
use Rattle.segment_manager.specs.State.{SegmentState, DenotesCurrent}
use Rattle.segment_disk.specs.Events.{Event}
use Rattle.segment_commands.specs.declared.command_faults.CommandFault.{CommandFault}
use Rattle.segment_commands.specs.declared.command_faults.CommandFault.TheVariants.{TooManyObjects}
use Rattle.segment_commands.specs.Commands.{RefusesUnopened}
use Rattle.segment_commands.specs.Opening.{OpensFile}
use Rattle.segment_commands.specs.Reporting.{ReportsOk}

-- how many objects are drawn without a request for all, at most
abbrev pub max_drawn : ℕ
max_drawn = 10000

module _ {D O : Type 0} (step : D → Event → D → Type 0) (old new : D) (path : List ℕ) (history : O
    → WriterHistory) (flushes : O → Bool → O → Type 0) (out out' : O)
    (text : Directory → List ℕ) (result : Result (Unit {0}) CommandFault) where
  -- the file has a segment with more objects, and nothing was said
  pub record RefusesMany : Type 0 where
    pub segment : SegmentState
    pub opens : OpensFile step old new path ReadOnly (Ok segment)
    pub many : (d : Directory) → DenotesCurrent segment.cut.bytes d → max_drawn < length d.objects
    pub silent : out' ≡ out
    pub refused : result ≡ Err TooManyObjects

  -- the file has a segment with no more objects, and the text of its directory was said
  pub record ReportsFew : Type 0 where
    pub reports : ReportsOk step old new path history flushes out out' text result
    pub few : (d : Directory) → DenotesCurrent reports.segment.cut.bytes d → length d.objects ≤ max_drawn

  -- nothing is opened for writing
  abbrev pub DrawsFew : Type 0
  DrawsFew = RefusesUnopened step old new path out out' result ⊎ (RefusesMany ⊎ ReportsFew)
