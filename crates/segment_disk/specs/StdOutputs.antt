-- A writer of std, as contracts see it.
use Rattle.std.specs.Prelude.{Bool, true, false}
use Rattle.std_io.specs.declared.io.kind.ErrorKind.{ErrorKind}
use Rattle.std_io.specs.declared.io.kind.ErrorKind.TheVariants.{BrokenPipe}
use Rattle.raw_region.specs.Device.{WriterHistory}

-- what it took
pub record StdOutputState : Type 0 where
  pub history : WriterHistory

-- the error of a pipe whose reader has ended
abbrev pub is_pipe_end : ErrorKind → Bool
is_pipe_end BrokenPipe = true
is_pipe_end _ = false
