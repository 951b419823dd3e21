use Rattle.std.proofs.Common.{◌<◌, ◌≤◌, ◌-◌, length, arith}
use Rattle.raw_region.specs.Memory.{bytes_of}
use Rattle.raw_region.specs.Format.{current}
use Rattle.block_tags.proofs.tiles.TagsSayTiles.{first_some, first_none}
use Rattle.block_tags.proofs.reading.first.Goals as goal

pub returns-then-size-gt-HEADER_LEN : goal.returns-then-size-gt-HEADER_LEN
returns-then-size-gt-HEADER_LEN c = λ ts said.
    let b = c.args.window.now.bytes in let room : 128 < length b - 16 = omega arith in
    first_some current (bytes_of b) 128 0 ts (length b - 16) said.tags room _ c.tile_there.ensures

pub returns-else-size-gt-HEADER_LEN : goal.returns-else-size-gt-HEADER_LEN
returns-else-size-gt-HEADER_LEN c = λ ts said.
    let b = c.args.window.now.bytes in let none : length b - 16 ≤ 128 = omega arith in
    first_none current (bytes_of b) 128 0 ts (length b - 16) said.tags none
