-- A heap of the image's blocks, with the current version.
use Rattle.image_check.proofs.Common.{IsImage, IsTrue, LiveSet, RebuildsFreeTree, SameSurroundings, UpgradesFormat}
use Rattle.image_check.proofs.Common.{WindowState, is_live_in, subst, sym, ◌∙◌}
use Rattle.raw_region.specs.Format.{current}
use Rattle.image_check.proofs.block_collection.InLiveSet.{block_live}
use Rattle.image_check.proofs.frame.OlderFormats.{image-heap, renewed-segment, upgraded, upgraded-live, upgraded-place}
use Rattle.image_check.proofs.image_window.ImageWindow.into_segment.Goals as goal

pub as_heap-heap-requires : goal.as_heap-heap-requires
as_heap-heap-requires c =
    let image = subst (λ (v : WindowState). IsImage c.args.format v.bytes) (sym c.self.view_is) c.requires.image in
    image-heap c.args.format c.self.inside.window.bytes image

pub hint_blocks-requires : goal.hint_blocks-requires
hint_blocks-requires c = λ n block is.
    let changes = subst (λ (v : WindowState). RebuildsFreeTree current v c.as_heap-heap.result) c.self.view_is
    c.as_heap-heap.ensures.changes in
    subst (λ (live : LiveSet). IsTrue (is_live_in live n))
    (sym (upgraded-live c.args.format c.args.self c.as_heap-heap.result c.set_version.new.heap changes
    c.set_version.ensures.unchanged c.set_version.ensures.changes))
    (block_live c.args.self.bytes c.args.blocks.now.entries n block c.requires.blocks is)

pub segment_of-requires : goal.segment_of-requires
segment_of-requires c =
    let changes = subst (λ (v : WindowState). RebuildsFreeTree current v c.as_heap-heap.result) c.self.view_is
    c.as_heap-heap.ensures.changes in
    renewed-segment c.args.format c.args.self.bytes c.hint_blocks.new.heap.bytes c.requires.image
    (subst (λ (v : WindowState). UpgradesFormat c.args.format c.args.self.bytes v.bytes)
    (sym c.hint_blocks.ensures.unchanged)
    (upgraded c.args.format c.args.self c.as_heap-heap.result c.set_version.new.heap c.requires.format
    c.requires.image changes (λ l. c.as_heap-heap.ensures.unchanged l ∙ c.self.view_is)
    c.set_version.ensures.unchanged c.set_version.ensures.changes c.set_version.ensures.word))

pub returns-clause-place : goal.returns-clause-place
returns-clause-place c =
    let changes = subst (λ (v : WindowState). RebuildsFreeTree current v c.as_heap-heap.result) c.self.view_is
    c.as_heap-heap.ensures.changes in
    subst (SameSurroundings c.args.self) (sym (c.segment_of.ensures.cut ∙ c.hint_blocks.ensures.unchanged))
    (upgraded-place c.args.format c.args.self c.as_heap-heap.result c.set_version.new.heap changes
    c.set_version.ensures.unchanged c.set_version.ensures.changes)

pub returns-clause-upgrade : goal.returns-clause-upgrade
returns-clause-upgrade c =
    let changes = subst (λ (v : WindowState). RebuildsFreeTree current v c.as_heap-heap.result) c.self.view_is
    c.as_heap-heap.ensures.changes in
    subst (λ (v : WindowState). UpgradesFormat c.args.format c.args.self.bytes v.bytes)
    (sym (c.segment_of.ensures.cut ∙ c.hint_blocks.ensures.unchanged))
    (upgraded c.args.format c.args.self c.as_heap-heap.result c.set_version.new.heap c.requires.format
    c.requires.image changes (λ l. c.as_heap-heap.ensures.unchanged l ∙ c.self.view_is)
    c.set_version.ensures.unchanged c.set_version.ensures.changes c.set_version.ensures.word)
