-- A window that is a heap in a format from 1 on is a heap of the current format.
use Rattle.image_check.proofs.Common.{RebuildsFreeTree, WindowState, arith, subst, sym}
use Rattle.raw_region.specs.Format.{current}
use Rattle.image_check.proofs.frame.OlderFormats.{heap-legal, heap-tags, later-heap, rebuilt-same}
use Rattle.image_check.proofs.image_window.renewing.as_heap.Goals as goal

pub rebuild-requires-clause-size : goal.rebuild-requires-clause-size
rebuild-requires-clause-size c = heap-legal c.args.format c.args.window.bytes c.requires

pub rebuild-requires-clause-tags : goal.rebuild-requires-clause-tags
rebuild-requires-clause-tags c = heap-tags c.args.format c.args.window.bytes c.if-format-eq0.true c.requires

pub adopt_without_hints-requires : goal.adopt_without_hints-requires
adopt_without_hints-requires c =
    later-heap c.args.format c.args.window.bytes (let some = c.if-format-eq0.false in omega arith) c.requires

pub returns-else-format-eq0-clause-changes : goal.returns-else-format-eq0-clause-changes
returns-else-format-eq0-clause-changes c =
    subst (λ (v : WindowState). RebuildsFreeTree current c.args.window v) (sym c.adopt_without_hints.ensures)
    (rebuilt-same c.args.window (later-heap c.args.format c.args.window.bytes (let some = c.if-format-eq0.false
    in omega arith) c.requires))
