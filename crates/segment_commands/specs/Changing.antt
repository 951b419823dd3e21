-- How the segment of a file changes without a script.
use Rattle.std.specs.Prelude.{◌≡◌, ℕ, Bool, List, Result}
use Rattle.raw_region.specs.Device.{WriterHistory}
use Rattle.grow_shrink.specs.Resized.{growth_refusal, grown, room_of, shrink_refusal, shrunk}
use Rattle.segment_disk.specs.Events.{CreateMode, Event}
use Rattle.segment_invocation.specs.declared.invocations.FileChange.{FileChange}
use Rattle.segment_invocation.specs.declared.invocations.FileChange.TheVariants.{Grow, Shrink, Migrate}
use Rattle.segment_commands.specs.declared.command_faults.CommandFault.{CommandFault}
use Rattle.segment_commands.specs.Migrating.{RunsMigrate}
use Rattle.segment_commands.specs.Resizing.{RunsResize}

module _ {D O : Type 0} (step : D → Event → D → Type 0) (old new : D) (path : List ℕ) (how : CreateMode) (history : O
    → WriterHistory) (flushes : O → Bool → O → Type 0) (out out' : O) (result : Result (Unit {0}) CommandFault) where
  -- `Changes`: what `grow`, `shrink` and `migrate` do with the right to write the file
  abbrev pub Changes : FileChange → Type 0
  Changes (Grow extra) = RunsResize step old new path how history flushes out out' extra
      (λ s d. growth_refusal s.mode d.size extra (room_of s.cut)) (λ d. grown d extra) result
  Changes Shrink = RunsResize step old new path how history flushes out out' 0 (λ s d. shrink_refusal s.mode)
      (λ d. shrunk d) result
  Changes Migrate = RunsMigrate step old new path how history flushes out out' result
