-- The laws of live sets, gaps and their bytes, for other crates.

-- bytes lay out one live set, and the four changes keep a proper live set proper
pub use Rattle.best_fit.proofs.tags.OneLiveSet.{lay_out_one}
pub use Rattle.best_fit.proofs.extents.Changes.{all_keep_proper, is_proper-IsProper}
-- a live set with a placed extent is proper; properties of optional results
pub use Rattle.best_fit.proofs.extents.Inverse.{placed_is_proper}
pub use Rattle.best_fit.proofs.extents.FirstFit.{IfSome_is, place-holds, shorter-IsShorter}
pub use Rattle.best_fit.proofs.extents.Requests.{place-serves}
-- a legal size, and the first extent and the holes of a proper live set
pub use Rattle.best_fit.proofs.tags.TagsAndLiveSet.{IsLegal, legal_size, gaps-live_in, proper_live, said_row}
pub use Rattle.best_fit.proofs.extents.Proper.{IsBlock, IsFirst, IsFirst-proper_from, insert-here, insert-past}
pub use Rattle.best_fit.proofs.extents.Proper.{is_hole-IsHole, proper_from-IsFirst, proper_from-others, others-here}
pub use Rattle.best_fit.proofs.extents.Proper.{others-past, proper_from-hole, proper_from-reaches}
unfoldable pub use Rattle.best_fit.proofs.extents.Proper.{IsHole}
-- extents in order: one is inserted or removed
pub use Rattle.best_fit.proofs.extents.Order.{AllByRecursion-insert, AllByRecursion-insert_from, AllByRecursion-others}
pub use Rattle.best_fit.proofs.extents.Order.{insert-comm, list_any-insert, others-comm, others-insert}
pub use Rattle.best_fit.proofs.extents.Order.{others-insert_same}
-- unchanged blocks: two steps one after the other, and all blocks but one
pub use Rattle.best_fit.proofs.tags.Frames.{AllByRecursion-beside, IsBeside, SameBlock-trans, blocks-trans}
pub use Rattle.best_fit.proofs.tags.Frames.{keeps-insert, keeps-others, keeps-refl, keeps-trans}
pub use Rattle.best_fit.proofs.tags.Frames.{keeps-refl as keeps-all}
-- a block that was placed is live, with room for the request; blocks placed before stay live, also if payloads change
pub use Rattle.best_fit.proofs.allocation.NewBlock.{changed-header_blocks, allocated-is_live, allocated-live}
pub use Rattle.best_fit.proofs.allocation.NewBlock.{allocated-room, allocated-room_before, changed-keeps}
pub use Rattle.best_fit.proofs.allocation.NewBlock.{changed-keeps_block, changed-live, changed-room, holds-fewer}
pub use Rattle.best_fit.proofs.allocation.NewBlock.{is_red-payload, released-live, resized-live, still_allocated}
pub use Rattle.best_fit.proofs.allocation.NewBlock.{still_allocated-block}
-- a tile is free or in use; the gaps and the live set of tiles in each case
pub use Rattle.best_fit.proofs.tags.TileRows.{AreContiguous-Row, free-unused, gaps_of-append, gaps_of-free}
pub use Rattle.best_fit.proofs.tags.TileRows.{gaps_of-used, span_between-none, span_between-some, spans_from-row}
pub use Rattle.best_fit.proofs.tags.TileRows.{unused, use_cases, used, is_merged-Apart}
unfoldable pub use Rattle.best_fit.proofs.tags.TileRows.{Row, extents_of, Apart}
-- no two free tiles are neighbours
-- a gap that a number names as a node: its tile and its length
pub use Rattle.best_fit.proofs.gaps.Nodes.{NodeAt, node_from, node_len}
-- gaps in the order of the tree: the same gaps, each once, and rising
pub use Rattle.best_fit.proofs.gaps.Order.{in_sorted, sorted-is_sorted}
pub use Rattle.best_fit.proofs.free_tree.Trees.{length-inserted, length-sorted, all_gaps}
-- the gaps of a heap are the gaps of its live set, and the links among them form a tree
pub use Rattle.best_fit.proofs.free_tree.LinkAndUnlink.{holds_closed}
-- a walk over the tiles of a window, from one to the next
pub use Rattle.best_fit.proofs.tile_walk.Walk.{Here, Meets, first_here, meets, next_here, next_nearer, none_left}
pub use Rattle.best_fit.proofs.tile_walk.Walk.{passed_on}
unfoldable pub use Rattle.best_fit.proofs.tile_walk.Walk.{to_go}
-- the fields of a node of a tree outside the changed bytes
pub use Rattle.best_fit.proofs.gaps.Setters.{cell_stays, beside_cell}
-- the payload of a block in use: its place, the bytes outside it, and the live set of bytes
pub use Rattle.best_fit.proofs.heap.BlockLinks.{block_aligned}
pub use Rattle.best_fit.proofs.tags.Writes.{block_payload, laid-heap, room_block, Room, header_changed}
-- no gap is longer than the largest segment, and a number has no more digits than a greater one
pub use Rattle.best_fit.proofs.allocation.LeastGap.{bits-le, too_long}
-- blocks that stay, and blocks that are found, when some are freed and others allocated
pub use Rattle.best_fit.proofs.extents.Spacing.{LiesBeside, above, apart-inserted, below, hole-order, insert-inserted}
pub use Rattle.best_fit.proofs.extents.Spacing.{inserted-comm, live-spaced, rising-inserted, rising-weak, spaced-insert}
pub use Rattle.best_fit.proofs.extents.Spacing.{all_of-inserted, among, IsAlone, IsAmong, IsFresh, IsSound}
pub use Rattle.best_fit.proofs.extents.Spacing.{all_of-insert, exchange-back, found-less, found-more, found-new}
pub use Rattle.best_fit.proofs.extents.Spacing.{found-room, in_use-all, in_use-alone, live-rises, live-sound}
pub use Rattle.best_fit.proofs.extents.Spacing.{rising-insert, room-less, without-inserted, written-keeps}
unfoldable pub use Rattle.best_fit.proofs.extents.Spacing.{Differs, Rising}
pub use Rattle.raw_region.proofs.Laws.{SameBytes-read as read-same, SameBytes-trans as same-trans}
pub use Rattle.raw_region.proofs.Laws.{SameBytes-word as word-same}
pub use Rattle.best_fit.proofs.exchange.OneExchange.{IsRoomy, all-same-but, but-trans, regrow-serves}
pub use Rattle.best_fit.proofs.exchange.OneExchange.{roomy, written-but}
-- several exchanges, one after another, and the blocks that they keep
pub use Rattle.best_fit.proofs.exchange.ManyExchanges.{AreInUse, IsFound, IsNone, SameSpread, all-found-in, all-in-use}
pub use Rattle.best_fit.proofs.exchange.ManyExchanges.{back-again, but-apart, exchange-next, exchange-order}
pub use Rattle.best_fit.proofs.exchange.ManyExchanges.{exchange-released, exchange-resized, exchange-same}
pub use Rattle.best_fit.proofs.exchange.ManyExchanges.{exchange-taken, exchange-wide, exchange-written, exchanged-live}
pub use Rattle.best_fit.proofs.exchange.ManyExchanges.{exchanged-twice, found-inserted, found-none, found-without}
pub use Rattle.best_fit.proofs.exchange.ManyExchanges.{inserted-append, kept, kept-beside, kept-but, kept-found}
pub use Rattle.best_fit.proofs.exchange.ManyExchanges.{last-first, middle-first, rest-rises, rising-others}
pub use Rattle.best_fit.proofs.exchange.ManyExchanges.{spread-behind, spread-refl, two-apart}
-- a block that is lengthened in place, and the undoing of it
pub use Rattle.best_fit.proofs.in_place_resize.Inverse.{not-wide, taken-back, wide-longer, wide-same, widened-back}
-- the end of a window moves, and then bytes of it change
pub use Rattle.best_fit.proofs.ending.TwoMemories.{ends-then}
-- a change of header words lays out the same live set
-- no byte of a gap changes where bytes of the header or of a payload do, and through several such changes
pub use Rattle.best_fit.proofs.gaps.UnchangedGaps.{free-refl, gaps-header, gaps-payload, gaps-refl, gaps-then}
pub use Rattle.best_fit.proofs.gaps.UnchangedGaps.{gaps-trans}
