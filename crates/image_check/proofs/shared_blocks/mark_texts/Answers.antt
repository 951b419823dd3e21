use Rattle.image_check.proofs.Common.{AreElementsNoted, AreTextsNoted, arith, bytes_of, sym, ◌+◌, ◌<◌, ◌∙◌}
use Rattle.raw_region.specs.Memory.{word_at}
use Rattle.image_check.specs.Passes.{tiles_in}
use Rattle.image_check.specs.Sharing.{state_of}
use Rattle.image_check.proofs.shared_blocks.Worklist.{map-marked}
use Rattle.image_check.proofs.shared_blocks.Values.{array-aligned, array-at, array-inside, array-long, texts-noted}
use Rattle.image_check.proofs.shared_blocks.Values.{texts-starts}
use Rattle.image_check.proofs.shared_blocks.mark_texts.Goals as goal

pub elements_in-count-requires : goal.elements_in-count-requires
elements_in-count-requires g c =
    let b = c.args.window.now.bytes in
    let w = array-at b c.args.value.at c.in-Some.array c.in-Some-good_len.len (sym c.in-Some-good_len.is
    ∙ c.good_len.ensures.value (tiles_in b) c.requires.1.0.blocks) (sym c.in-Some.is ∙ c.link.ensures) in
    let long = array-long b c.args.value.at c.in-Some.array c.in-Some-good_len.len c.requires.0 w in
    omega arith

pub mark_elements-requires : goal.mark_elements-requires
mark_elements-requires g c =
    let b = c.args.window.now.bytes in
    let at = c.args.value.at in
    let array = c.in-Some.array in
    let len = c.in-Some-good_len.len in
    let n = c.elements_in-count in
    let w = array-at b at array len (sym c.in-Some-good_len.is
    ∙ c.good_len.ensures.value (tiles_in b) c.requires.1.0.blocks) (sym c.in-Some.is ∙ c.link.ensures) in
    let some : 0 < word_at (bytes_of b) (at + 16) = let e = c.capacity.ensures in let d = c.if-capacity-eq0.false
    in omega (arith, e, d) in (
      c.requires.0,
      (
        c.requires.1.0,
        (
          array-inside b at array len c.requires.0 w n.result n.ensures.room,
          (
            array-aligned b at array len c.requires.0 w,
            texts-starts b at array len c.requires.0 w g.format c.len.result n.result n.ensures.in_bounds
                c.len.ensures n.ensures.room some c.requires.1.1.1.1,
          ),
        ),
      ),
    )

pub returns-clause-mark : goal.returns-clause-mark
returns-clause-mark g c =
    let b = c.args.window.now.bytes in
    let at = c.args.value.at in
    let array = c.in-Some.array in
    let len = c.in-Some-good_len.len in
    let n = c.elements_in-count in
    let o = state_of c.args.owners.now in
    let m = state_of c.mark_elements.new.owners in
    let w = array-at b at array len (sym c.in-Some-good_len.is
    ∙ c.good_len.ensures.value (tiles_in b) c.requires.1.0.blocks) (sym c.in-Some.is ∙ c.link.ensures) in
    map-marked (AreElementsNoted g.format b array n.result o m) (AreTextsNoted g.format b at o m) g.format b
    c.mark_elements.result
    (texts-noted b at array len c.requires.0 w g.format c.len.result n.result c.len.ensures n.ensures.room
    n.ensures.every o m) c.mark_elements.ensures.mark
