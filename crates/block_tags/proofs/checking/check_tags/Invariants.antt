use Rattle.std.proofs.Common.{◌≡◌, ◌-◌, ◌+◌, ◌*◌, ◌≤◌, length}
use Rattle.raw_region.specs.Memory.{bytes_of}
use Rattle.block_tags.proofs.tiles.TagWalk.{Walking}
use Rattle.block_tags.proofs.checking.check_tags.Given as goal

-- the tags so far were good, and each took 32 bytes at least
abbrev pub invariant-tags : goal.invariant-tags
invariant-tags l = Walking l.format (bytes_of l.reader.window.now.bytes) (length l.reader.window.now.bytes)
    l.end l.at l.before l.behind_free (l.reader.tags + 1)
    × (32 * l.reader.tags + 128 ≤ l.at)
    × (l.reader.window.now ≡ l.fn.reader.window.now)

abbrev pub decreases-tags : goal.decreases-tags
decreases-tags l = l.end - l.at
