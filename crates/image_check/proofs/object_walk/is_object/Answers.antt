-- A value is looked at where it has room.
use Rattle.image_check.proofs.Common.{arith, bytes_of, length, sym, ◌∙◌}
use Rattle.image_check.proofs.objects.OneObject.{no-room, room-wider}
use Rattle.image_check.proofs.object_walk.is_object.Goals as goal

pub returns-then-not-has_room-clause-test : goal.returns-then-not-has_room-clause-test
returns-then-not-has_room-clause-test c =
    no-room c.args.format (bytes_of c.args.window.now.bytes) c.args.object.at c.args.end c.in-Some.kind
    (sym c.in-Some.is ∙ c.kind_of.ensures) c.count-count.result c.at-start.result
    c.count-count.ensures.count (c.at-start.ensures ∙ c.value.ensures) (sym c.has_room.ensures ∙ c.if-not-has_room.true)

pub has_room-requires : goal.has_room-requires
has_room-requires c =
    omega arith

pub has_spellings-requires-clause-room : goal.has_spellings-requires-clause-room
has_spellings-requires-clause-room c =
    room-wider c.in-Some.kind c.count-count.result c.at-start.result c.args.end (length c.args.window.now.bytes)
    (sym c.has_room.ensures ∙ c.if-not-has_room.false) c.requires.in_bounds
