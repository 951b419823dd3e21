use Rattle.image_check.proofs.Common.{Index, IsIndexNoted, MarksLink, None, arith, bytes_of, index_capacity, owner}
use Rattle.image_check.proofs.Common.{refl}
use Rattle.image_check.proofs.Common.{◌<◌}
use Rattle.image_check.specs.Passes.{tiles_in}
use Rattle.image_check.specs.Sharing.{state_of}
use Rattle.image_check.proofs.shared_blocks.Worklist.{map-marked}
use Rattle.image_check.proofs.shared_blocks.Links.{few-wait, index-may, index-start, marked-index}
use mathlib.Core.Logic.{inl}
use Rattle.image_check.proofs.links.mark_index.Goals as goal

pub mark-requires-clause-no_overflow : goal.mark-requires-clause-no_overflow
mark-requires-clause-no_overflow g c =
    few-wait g.format c.args.window.now.bytes (state_of c.args.owners.now) c.requires.0 c.requires.1.1

pub returns-clause-mark : goal.returns-clause-mark
returns-clause-mark g c =
    let b = c.args.window.now.bytes in
    let at = c.args.at in
    let o = state_of c.args.owners.now in
    let n = state_of c.mark.new.owners in
    let some : 0 < index_capacity (bytes_of b) at = let e = c.header_word.ensures in let d =
    c.if-header_word-eq0.false in omega (arith, e, d) in
    map-marked (MarksLink g.format (bytes_of b) (tiles_in b) None Index (owner at at) o n) (IsIndexNoted g.format b at
    o n)
    g.format b c.mark.result (marked-index g.format b o n at)
    (c.mark.ensures.marks g.format (bytes_of b) (tiles_in b) None c.requires.1.1 c.header_link.ensures
    (index-may g.format (bytes_of b) (tiles_in b) at c.requires.1.0 some)
    (inl (index-start b at c.requires.0 c.requires.1.0, refl)))
