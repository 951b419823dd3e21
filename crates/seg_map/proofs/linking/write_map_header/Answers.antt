-- Three words that follow each other.
use Rattle.seg_map.proofs.{◌≡◌, ◌+◌, arith, headed}
use Rattle.seg_map.proofs.linking.write_map_header.Goals as goal

pub returns : goal.returns
returns c =
    let at = c.args.place.handle + c.args.place.at in
    let second : c.args.place.handle + (c.args.place.at + 8) ≡ at + 8 = omega arith in
    let third : c.args.place.handle + (c.args.place.at + 16) ≡ at + 16 = omega arith in
    headed c.set_link.ensures.changes c.set_link.ensures.link_target (rw second at c.set_word.ensures.changes)
    (rw second at
    c.set_word.ensures.word) (rw third at c.set_word-2.ensures.changes) (rw third at c.set_word-2.ensures.word)
