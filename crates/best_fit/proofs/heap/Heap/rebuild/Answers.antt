-- An empty tree is written, and then one of all gaps.
use Rattle.best_fit.proofs.lending.TwoRanges.{whole_part}
use Rattle.best_fit.proofs.Common.{AreBytes, ◌∙◌, length, bytes_of, subst, sym, current, WindowState}
use Rattle.best_fit.specs.Rebuilding.{RebuildsFreeTree}
use Rattle.best_fit.proofs.free_tree.Rebuild.{rebuilt, rebuilt_heap}
use Rattle.best_fit.proofs.free_tree.EmptyTree.{tagged_says, tagged_too}
use Rattle.best_fit.proofs.heap.Heap.rebuild.Goals as goal

pub clear_gaps-requires-clause-tags : goal.clear_gaps-requires-clause-tags
clear_gaps-requires-clause-tags c = let w = c.args.window in
    tagged_too (bytes_of w.bytes) (length w.bytes) c.requires.tags

pub adopt_without_hints-requires : goal.adopt_without_hints-requires
adopt_without_hints-requires c =
    let w = c.args.window in
    rebuilt_heap w c.clear_gaps.new.window c.plant_gaps.new.gaps.window
    (tagged_says w c.requires.size (tagged_too (bytes_of w.bytes) (length w.bytes) c.requires.tags))
    c.clear_gaps.ensures.frame c.plant_gaps.ensures.frame c.plant_gaps.ensures.tree

pub returns : goal.returns
returns c =
    let w = c.args.window in
    subst (λ (v : WindowState). RebuildsFreeTree current w v) (sym c.adopt_without_hints.ensures)
    (rebuilt w c.clear_gaps.new.window c.plant_gaps.new.gaps.window
    (tagged_says w c.requires.size (tagged_too (bytes_of w.bytes) (length w.bytes) c.requires.tags))
    c.clear_gaps.ensures.frame c.plant_gaps.ensures.frame c.plant_gaps.ensures.tree
    (subst AreBytes (c.bytes.ensures.bytes ∙ whole_part w.bytes c.size.result c.size.ensures)
    c.bytes_are_octets.ensures.each_element)
    (subst AreBytes (c.bytes-2.ensures.bytes ∙ whole_part c.plant_gaps.new.gaps.window.bytes c.size-2.result
    c.size-2.ensures) c.bytes_are_octets-2.ensures.each_element))
