use Rattle.std.proofs.Common.{ℕ, ◌+◌, ◌*◌, ◌<◌}
use Rattle.raw_region.specs.Memory.{bytes_of}
use Rattle.offset_link.specs.Relinked.{IsLink}
use Rattle.offset_link.proofs.moves.are_links.Given as goal

abbrev pub invariant-links : goal.invariant-links
invariant-links l = (k : ℕ) → k < l.i → IsLink (bytes_of l.w.bytes) (l.at + 8 * k)
