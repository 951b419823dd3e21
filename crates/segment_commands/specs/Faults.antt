-- The faults of a refused request for memory.
use Rattle.std.specs.Prelude.{◌≡◌, ℕ}
use Rattle.raw_region.specs.Refusals.{out_of_memory_of}
use Rattle.image_check.specs.declared.errors.MemoryFault.TheVariants.{Bytes}
use Rattle.grow_shrink.specs.LargerRegion.{region_len}
use Rattle.segment_cli.specs.declared.faults.SessionFault.{SessionFault}
use Rattle.segment_cli.specs.declared.faults.SessionFault.TheVariants.{OutOfMemory}
use Rattle.segment_commands.specs.declared.command_faults.CommandFault.{CommandFault}
use Rattle.segment_commands.specs.declared.command_faults.CommandFault.TheVariants.{Session}

-- a request for this many bytes was refused
abbrev pub bytes_refused : ℕ → SessionFault
bytes_refused asked = OutOfMemory (Bytes (out_of_memory_of asked))

-- a request for a region with room for this many bytes was refused
abbrev pub region_refused : ℕ → SessionFault
region_refused room = bytes_refused (region_len room)

-- a request for some bytes was refused
abbrev pub IsNoMemory : CommandFault → Type 0
IsNoMemory fault = (asked : ℕ) × (fault ≡ Session (bytes_refused asked))
