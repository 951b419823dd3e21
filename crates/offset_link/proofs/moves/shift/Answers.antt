use Rattle.std.proofs.Common.{◌≤◌, length, ◌+◌, ◌-◌, ◌*◌, arith}
use Rattle.offset_link.proofs.moves.ShiftedWords.{lent_leads}
use Rattle.offset_link.proofs.moves.shift.Goals as goal

pub returns-in-Up-clause-lead : goal.returns-in-Up-clause-lead
returns-in-Up-clause-lead c =
    let at = c.args.at in let n = c.args.n in let to = at + 8 * c.in-Up.slots in
    let inside : to + 8 * n ≤ length c.args.w.now.bytes = rw c.in-Up.is at c.requires.target in
    rw c.in-Up.is (lent_leads c.args.w.now.bytes c.bytes_mut-bytes.result.now c.move_up.new.bytes c.size-size.result
    at to n c.size-size.ensures c.size-size.type_inv
    c.bytes_mut-bytes.ensures.bytes c.move_up.ensures inside (omega (arith, c.requires.aligned)) c.requires.links)

pub returns-in-Down-clause-lead : goal.returns-in-Down-clause-lead
returns-in-Down-clause-lead c =
    let at = c.args.at in let n = c.args.n in let to = at - 8 * c.in-Down.slots in
    let inside : to + 8 * n ≤ length c.args.w.now.bytes = rw c.in-Down.is at c.requires.target in
    let stays : 8 * c.in-Down.slots ≤ at = rw c.in-Down.is at c.requires.in_range in
    rw c.in-Down.is (lent_leads c.args.w.now.bytes c.bytes_mut-bytes.result.now c.move_down.new.bytes
    c.size-size.result at to n c.size-size.ensures c.size-size.type_inv
    c.bytes_mut-bytes.ensures.bytes c.move_down.ensures inside (omega (arith, c.requires.aligned)) c.requires.links)
