use Rattle.std.proofs.Common.{◌≡◌, ◌+◌, ◌≤◌, ◌<◌, ◌^◌, List, arith}
use Rattle.raw_region.specs.Memory.{bytes_of, patched}
use Rattle.offset_link.specs.Relinked.{word_by_distance, reworded}
use Rattle.offset_link.proofs.moves.ShiftedWords.{eight_seen, put_first, put_next}
use Rattle.offset_link.proofs.moves.move_run.Goals as goal

pub returns-clause-changes : goal.returns-clause-changes
returns-clause-changes c =
    let b = c.args.bytes.now in let m = bytes_of b in let from = c.args.from in let to = c.args.to in
    let inside = c.requires.to_in_bounds in
    let one = put_first word_by_distance m b c.set_word_in.new.bytes from to c.moved_by_distance-a.result
    c.set_word_in.ensures c.moved_by_distance-a.ensures in
    let two = put_next word_by_distance m b c.set_word_in.new.bytes c.set_word_in-2.new.bytes from to 1
    c.moved_by_distance-b.result (omega (arith, inside)) one c.set_word_in-2.ensures c.moved_by_distance-b.ensures in
    let three = put_next word_by_distance m b c.set_word_in-2.new.bytes c.set_word_in-3.new.bytes from to 2
    c.moved_by_distance-c.result (omega (arith, inside)) two c.set_word_in-3.ensures c.moved_by_distance-c.ensures in
    let four = put_next word_by_distance m b c.set_word_in-3.new.bytes c.set_word_in-4.new.bytes from to 3
    c.moved_by_distance-d.result (omega (arith, inside)) three c.set_word_in-4.ensures c.moved_by_distance-d.ensures in
    let five = put_next word_by_distance m b c.set_word_in-4.new.bytes c.set_word_in-5.new.bytes from to 4
    c.moved_by_distance-e.result (omega (arith, inside)) four c.set_word_in-5.ensures c.moved_by_distance-e.ensures in
    let six = put_next word_by_distance m b c.set_word_in-5.new.bytes c.set_word_in-6.new.bytes from to 5
    c.moved_by_distance-f.result (omega (arith, inside)) five c.set_word_in-6.ensures c.moved_by_distance-f.ensures in
    let seven = put_next word_by_distance m b c.set_word_in-6.new.bytes c.set_word_in-7.new.bytes from to 6
    c.moved_by_distance-g.result (omega (arith, inside)) six c.set_word_in-7.ensures c.moved_by_distance-g.ensures in
    put_next word_by_distance m b c.set_word_in-7.new.bytes c.set_word_in-8.new.bytes from to 7
    c.moved_by_distance-h.result (omega (arith, inside)) seven c.set_word_in-8.ensures c.moved_by_distance-h.ensures

pub returns-clause-keys_seen : goal.returns-clause-keys_seen
returns-clause-keys_seen c =
    eight_seen (bytes_of c.args.bytes.now) c.args.from c.args.to (omega (arith, c.requires.from_in_bounds))
    (omega (arith, c.requires.to_in_bounds)) c.requires.slots
    c.moved_by_distance-a.result c.moved_by_distance-b.result c.moved_by_distance-c.result c.moved_by_distance-d.result
    c.moved_by_distance-e.result c.moved_by_distance-f.result c.moved_by_distance-g.result c.moved_by_distance-h.result
    c.moved_by_distance-a.ensures c.moved_by_distance-b.ensures c.moved_by_distance-c.ensures
    c.moved_by_distance-d.ensures
    c.moved_by_distance-e.ensures c.moved_by_distance-f.ensures c.moved_by_distance-g.ensures
    c.moved_by_distance-h.ensures
    c.args.seen.first c.args.seen.second
