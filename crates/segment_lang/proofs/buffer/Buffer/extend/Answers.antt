use Rattle.segment_lang.proofs.values.Buffers.{room_filled}
use Rattle.segment_lang.proofs.buffer.Buffer.extend.Goals as goal

pub returns : goal.returns
returns g c =
    room_filled _ c.self.inside.len _ c.min-count.result c.self.inside.values c.args.self.now c.args.more.now
    c.copy_from_slice.new.self c.self.view_is c.self.invariant c.self.told c.min-count.ensures
    c.copy_from_slice.ensures.after
