use Rattle.std.proofs.Common.{◌≤◌, ℕ, List, subst, sym, length, ◌+◌, ◌-◌, ◌*◌, arith}
use Rattle.offset_link.proofs.moves.ShiftedWords.{all_lead-links, all_lead-non_null, lent_leads, lent_whole}
use Rattle.raw_region.specs.Memory.{bytes_of}
use Rattle.offset_link.specs.Relinked.{HasNoNullLink}
use Rattle.offset_link.proofs.moves.shift_non_null.Goals as goal

pub returns-in-Up-clause-lead : goal.returns-in-Up-clause-lead
returns-in-Up-clause-lead c =
    let at = c.args.at in let n = c.args.n in let to = at + 8 * c.in-Up.slots in
    let inside : to + 8 * n ≤ length c.args.w.now.bytes = rw c.in-Up.is at c.requires.target in
    rw c.in-Up.is (lent_leads c.args.w.now.bytes c.bytes_mut-bytes.result.now c.move_up.new.bytes c.size-size.result
    at to n c.size-size.ensures c.size-size.type_inv
    c.bytes_mut-bytes.ensures.bytes c.move_up.ensures inside (omega (arith, c.requires.aligned))
    (all_lead-links (bytes_of c.args.w.now.bytes) at n c.requires.links))

pub returns-in-Down-clause-lead : goal.returns-in-Down-clause-lead
returns-in-Down-clause-lead c =
    let at = c.args.at in let n = c.args.n in let to = at - 8 * c.in-Down.slots in
    let inside : to + 8 * n ≤ length c.args.w.now.bytes = rw c.in-Down.is at c.requires.target in
    let stays : 8 * c.in-Down.slots ≤ at = rw c.in-Down.is at c.requires.in_range in
    rw c.in-Down.is (lent_leads c.args.w.now.bytes c.bytes_mut-bytes.result.now c.move_down.new.bytes
    c.size-size.result at to n c.size-size.ensures c.size-size.type_inv
    c.bytes_mut-bytes.ensures.bytes c.move_down.ensures inside (omega (arith, c.requires.aligned))
    (all_lead-links (bytes_of c.args.w.now.bytes) at n c.requires.links))

pub move_up-requires-clause-non_null : goal.move_up-requires-clause-non_null
move_up-requires-clause-non_null c = λ known.
    subst (λ (b : List ℕ). HasNoNullLink (bytes_of b) c.args.at c.args.n)
    (sym (lent_whole c.args.w.now.bytes c.bytes_mut-bytes.result.now c.size-size.result c.size-size.ensures
    c.bytes_mut-bytes.ensures.bytes))
    (all_lead-non_null (bytes_of c.args.w.now.bytes) c.args.at c.args.n c.requires.links)

pub move_down-requires-clause-non_null : goal.move_down-requires-clause-non_null
move_down-requires-clause-non_null c = λ known.
    subst (λ (b : List ℕ). HasNoNullLink (bytes_of b) c.args.at c.args.n)
    (sym (lent_whole c.args.w.now.bytes c.bytes_mut-bytes.result.now c.size-size.result c.size-size.ensures
    c.bytes_mut-bytes.ensures.bytes))
    (all_lead-non_null (bytes_of c.args.w.now.bytes) c.args.at c.args.n c.requires.links)
