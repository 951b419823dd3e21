-- What a reader of a file of the system has left.
use Rattle.std.specs.Prelude.{ℕ, List, drop, Option, Some, None}
use Rattle.segment_disk.specs.declared.host_reader.HostReader.{HostReader}
use Rattle.segment_disk.specs.declared.host_reader.HostReader.TheVariants.{Plain, Recovered}

-- the bytes that it will give, where they are known: all of an image that was recovered
abbrev pub left_of : HostReader → Option (List ℕ)
left_of (Plain file) = None
left_of (Recovered r) = Some (drop r.at r.image.items)
