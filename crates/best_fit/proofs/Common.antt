-- The names that most proofs cite, passed on from one place.
pub use Rattle.std.proofs.Common.{Bool, IsTrue, List, [], ap, append_assoc, arith, drop, false, if◌then◌else◌, inl}
pub use Rattle.std.proofs.Common.{inr, length, length-append, nat_le, nat_lt, not, refl, replicate, subst, suc, sym}
pub use Rattle.std.proofs.Common.{take, true, zero, zero-add, ℕ, ◌%◌, ◌&&◌, ◌*◌, ◌++◌, ◌+◌, ◌-◌, ◌/◌, ◌<◌, ◌==◌, ◌^◌}
pub use Rattle.std.proofs.Common.{◌||◌, ◌∙◌, ◌∷◌, ◌≡◌, ◌≢◌, ◌≤◌, ◌⊎◌}
pub use Rattle.std.proofs.lemmas.Bool.{and_from, and_parts, both_ways, cases_Bool, cases_eq, cases_lt, cond-false}
pub use Rattle.std.proofs.lemmas.Bool.{cond-true, cond_both, eq-eqb, eqb-true, false≢true, le-leb, le-ltb, leb-true}
pub use Rattle.std.proofs.lemmas.Bool.{lt-leb, lt-ltb, ltb-true, ne_eqb, or_cases, or_left, or_right}
pub use Rattle.std.proofs.lemmas.List.{append-nil}
pub use Rattle.std.proofs.lemmas.List.Elements.{All-cons, All-head, All-nil, All-tail, All-weaker, filter_map-append}
pub use Rattle.std.proofs.lemmas.Option.{none-some, same_Some}
pub use Rattle.std.specs.List.{AllByRecursion, cons_option, length_refill, list_all, list_any, refill}
pub use Rattle.std.specs.Prelude.{All, IfSome, None, Option, Result, Some, filter, filter_map, find, is_some, map}
pub use Rattle.std.specs.Prelude.{min, option_map, slice_get, slice_index, ⊤}
pub use Rattle.block_tags.proofs.Laws.{prefix_is_a_window, good_tags_say_tiles, header_may_change, legal}
pub use Rattle.block_tags.proofs.Laws.{next_stands_behind, one_tile_at_an_offset, payload_may_change}
pub use Rattle.block_tags.proofs.Laws.{tile_is_read_off, tiles_are_read_off}
pub use Rattle.block_tags.specs.Format.{is_legal_size}
pub use Rattle.block_tags.specs.Lists.{IsBesideTags, first_in, free_tile, in_two, last_in, next_in, of_colour}
pub use Rattle.block_tags.specs.Lists.{previous_in, tile_in, used_for, with_red_at, with_use_at, without_last}
pub use Rattle.block_tags.specs.Tiles.{AreTags, has_tags, is_free, is_merged, may_be_red, tag_word, tile_at, tiles_of}
pub use Rattle.block_tags.specs.Windows.{PrefixSaysTiles, HasFreeNext, HasTileAt, CanTakeUse, MayHaveColour}
pub use Rattle.block_tags.specs.Windows.{SameExceptTags, EncodesTiles}
pub use Rattle.block_tags.specs.declared.tile.Role.{Role}
pub use Rattle.block_tags.specs.declared.tile.Role.TheVariants.{Index, Node, Object, Storage}
pub use Rattle.block_tags.specs.declared.tile.Tile.{Tile}
pub use Rattle.link_tree.proofs.Laws.{all_from, none_some, tree_same}
pub use Rattle.link_tree.specs.Nodes.{first_not_before, is_ordered_with, is_in, leads, insert_in_order, without}
pub use Rattle.link_tree.specs.Tree.{Cell, IsSearchTree, IsTree, Tree, bits, fork, leaf, nodes_of, is_sorted}
pub use Rattle.offset_link.proofs.Laws.{SameBytesExcept-link}
pub use Rattle.offset_link.specs.Link.{link_at, target_of}
pub use Rattle.offset_link.specs.Relinked.{KeepTargets, relinked}
pub use Rattle.raw_region.proofs.Laws.{SameBytes-refl, SameBytes-trans, SameBytes-word, SameBytesExcept-SameBytes}
pub use Rattle.raw_region.proofs.Laws.{SameBytesExcept-word, SameSurroundings-trans, length-part, length-patched}
pub use Rattle.raw_region.proofs.Laws.{part-at, patched-HasBytesAt, patched-SameBytesExcept, read-part, refill-all}
pub use Rattle.raw_region.proofs.Laws.{whole-cut_at, with_bytes-SameSurroundings, word_written-SameBytesExcept}
unfoldable pub use Rattle.raw_region.specs.Format.{current}
pub use Rattle.raw_region.specs.Memory.{WindowState, HasBytesAt, Memory, SameBytes, SameBytesExcept, SameSurroundings}
pub use Rattle.raw_region.specs.Memory.{bytes_of, part, patched, read, whole, AreBytes}
unfoldable pub use Rattle.raw_region.specs.Memory.{word_at}
pub use Rattle.raw_region.specs.Regions.{with_bytes}
pub use Rattle.best_fit.specs.Ends.{AppendsBlock, MovesEnd, KeepsTo, last_end, least_size, of_size}
pub use Rattle.best_fit.specs.Exchange.{ExchangesBlocks, RegrowsOk, Regrows, SameBlockExcept, exchanged, inserted}
pub use Rattle.best_fit.specs.Exchange.{without_all}
pub use Rattle.best_fit.specs.Extents.{Extent, Gap, LiveSet, Span, end_of, gap_between, gaps_from, handle, holds}
pub use Rattle.best_fit.specs.Extents.{is_hole, proper_from, span_between, spans_from}
unfoldable pub use Rattle.best_fit.specs.Extents.{free_bytes, gaps, is_proper}
pub use Rattle.best_fit.specs.Fit.{added, insert, is_extent, least, others, precedes, released, resized, room, share}
unfoldable pub use Rattle.best_fit.specs.Fit.{fit, gap_after, longer, place, regrow, shorter}
pub use Rattle.best_fit.specs.FreeTree.{IsFreeTree, IsTreeOf, cells_of, insert_gap, is_red, payloads, sorted_gaps, span}
pub use Rattle.best_fit.specs.GapLaws.{GapNode, GapNode-is_gap_node, IsGoodHeap, IsGoodHeap-is_good, cells_at}
pub use Rattle.best_fit.specs.GapLaws.{is_gap_node-GapNode, is_good-IsGoodHeap, links_at}
pub use Rattle.best_fit.specs.GapNodes.{GapTreeFrame, as_gap, comes_before, from_first, gap_cells, gap_of, gaps_in}
pub use Rattle.best_fit.specs.GapNodes.{gaps_of, is_kept, len_in, lies_behind, own_from, own_probe, links_among, plain}
pub use Rattle.best_fit.specs.GapNodes.{stands_before, tiles_in}
unfoldable pub use Rattle.best_fit.specs.GapNodes.{is_gap_node, kept_of}
pub use Rattle.best_fit.specs.GapTrees.{AreSomeGaps, HaveGapLengths, HasGapTree, LacksGap, CanBeginRemoval}
pub use Rattle.best_fit.specs.GapTrees.{IsUnlinkedGap, ChangesGapTree, AreAscending, gap_offset, is_long, node_of}
pub use Rattle.best_fit.specs.GapTrees.{tile_list, offset_of, start_of}
pub use Rattle.best_fit.specs.Heap.{Allocates, AllocatesOk, ChangesBytes, TryExtends, IsHeap, Recolours, Deallocates}
pub use Rattle.best_fit.specs.Heap.{ResizesBlock, ShrinksInPlace, ZeroesFree, KeepsBlocks, EncodesLiveSet, SameBlock}
pub use Rattle.best_fit.specs.Heap.{as_extent, extent_at}
pub use Rattle.best_fit.specs.Heap.{has_room, heap_touches, is_live_in, is_node_in, no_blocks, payload_at}
unfoldable pub use Rattle.best_fit.specs.Heap.{live_of}
pub use Rattle.best_fit.specs.Resizes.{SplitsBlock}
pub use Rattle.best_fit.specs.Table.{same_role, serves}
pub use Rattle.best_fit.specs.Tiling.{cut_to, free_behind, free_len, joined_before, joined_free_at, with_free_behind}
pub use Rattle.best_fit.specs.BlockHints.{IsHintedHeap, IsHinted, LeadToBlocks, slot_of}
pub use Rattle.best_fit.specs.declared.heap.nodes.GapTree.{GapTree}
pub use Rattle.best_fit.specs.declared.block_hints.BlockHints.{BlockHints}
