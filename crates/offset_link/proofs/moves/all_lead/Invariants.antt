use Rattle.std.proofs.Common.{◌≡◌, ℕ, ◌+◌, ◌*◌, ◌%◌, ◌<◌}
use Rattle.std.specs.Prelude.{Some}
use Rattle.raw_region.specs.Memory.{bytes_of}
use Rattle.offset_link.specs.Link.{link_at}
use Rattle.offset_link.proofs.moves.all_lead.Given as goal

abbrev pub invariant-links : goal.invariant-links
invariant-links l = (k : ℕ) → k < l.i → (target : ℕ) × (link_at (bytes_of l.w.bytes) (l.at + 8 * k) ≡ Some target)
    × (target % 16 ≡ 0)
