-- Why a copy is not put back, or that it is.
use Rattle.segment_c.proofs.transactions.code_to_put_back.Goals as goal
use Rattle.std.proofs.{Common.length, Common.rules, lemmas.Bool.le-leb}
use Rattle.grow_shrink.specs.Resized.{room_of}
use Rattle.segment_c.proofs.transactions.Rooms.{fits, misses, no-room, put-back}

pub returns-then-beyond-left-clause-code : goal.returns-then-beyond-left-clause-code
returns-then-beyond-left-clause-code c =
    put-back (search rules)
    (le-leb (length c.args.copy.now.cut.bytes) (room_of c.args.segment.now.cut) (fits c.args.segment.now.cut
    c.size_of-size.ensures.size c.size_of-len.ensures.size c.saturating_sub-beyond.ensures c.region_left-left.ensures
    c.if-beyond-left.true))

pub returns-then-beyond-left-clause-room : goal.returns-then-beyond-left-clause-room
returns-then-beyond-left-clause-room c = λ _.
    fits c.args.segment.now.cut c.size_of-size.ensures.size c.size_of-len.ensures.size c.saturating_sub-beyond.ensures
    c.region_left-left.ensures c.if-beyond-left.true

pub returns-clause-code : goal.returns-clause-code
returns-clause-code c = no-room (search rules)
    (misses c.args.segment.now.cut c.size_of-size.ensures.size c.size_of-len.ensures.size
    c.saturating_sub-beyond.ensures c.region_left-left.ensures c.if-beyond-left.false)
