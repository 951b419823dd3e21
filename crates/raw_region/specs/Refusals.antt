-- The error of an allocation that the allocator refused.
use Rattle.std.specs.Prelude.{ℕ}
use Rattle.raw_region.specs.declared.refused_memory.OutOfMemory.{OutOfMemory}

-- the error of a request for this many bytes
abbrev pub out_of_memory_of : ℕ → OutOfMemory
out_of_memory_of n = record { bytes = n; _made = tt }
