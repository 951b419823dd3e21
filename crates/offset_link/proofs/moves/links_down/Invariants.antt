use Rattle.std.proofs.Common.{◌≡◌, ◌-◌}
use Rattle.raw_region.specs.Memory.{bytes_of, patched}
use Rattle.offset_link.specs.Relinked.{relinked}
use Rattle.offset_link.proofs.moves.links_down.Given as goal

abbrev pub invariant-links : goal.invariant-links
invariant-links l = l.bytes ≡ patched l.initial.bytes (l.at - l.by)
    (relinked (bytes_of l.initial.bytes) l.at (l.at - l.by) l.i)
