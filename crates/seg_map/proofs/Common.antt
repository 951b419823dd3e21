-- The names that most proofs cite, passed on from one place.
pub use Rattle.best_fit.proofs.Laws.{beside_cell, cell_stays, changed-keeps, changed-live, changed-room, found-less}
pub use Rattle.best_fit.proofs.Laws.{found-room, is_proper-IsProper, laid-heap, lay_out_one, live-rises, room-less}
pub use Rattle.best_fit.proofs.Laws.{roomy, Rising, allocated-room}
pub use Rattle.best_fit.specs.{Exchange.SameBlockExcept, Fit.others, Fit.released, FreeTree.cells_of}
pub use Rattle.best_fit.specs.Heap.{SameBlock, extent_at, has_room, is_live_in, AllocatesOk, ChangesBytes, IsHeap}
pub use Rattle.best_fit.specs.Heap.{KeepsBlocks, EncodesLiveSet}
pub use Rattle.best_fit.specs.Extents.{Extent, LiveSet, end_of, handle, is_proper}
pub use Rattle.block_tags.specs.declared.tile.Role.TheVariants.{Node}
pub use Rattle.link_tree.proofs.Laws.{all_from, entry_same, holds_same, root_in, tree_same}
pub use Rattle.link_tree.specs.Nodes.{first_not_before, is_ordered_with, is_in, last_before, leads, insert_in_order}
pub use Rattle.link_tree.specs.Nodes.{without}
pub use Rattle.link_tree.specs.Tree.{IsSearchTree, IsTree, Tree, bits, fork, leaf, nodes_of, is_sorted, root_of}
pub use Rattle.link_tree.specs.Ways.{insert_point_of}
pub use Rattle.offset_link.proofs.Laws.{SameBytes-link, SameBytesExcept-link}
pub use Rattle.offset_link.specs.Link.{link_at}
pub use Rattle.raw_region.proofs.Laws.{HasBytesAt-same, SameBytes-trans, SameBytes-word, SameBytesExcept-SameBytes}
pub use Rattle.raw_region.proofs.Laws.{SameBytesExcept-word, SameSurroundings-trans}
pub use Rattle.raw_region.specs.{Format.current, Memory.SameBytesExcept, Memory.word_at}
pub use Rattle.raw_region.specs.Memory.{WindowState, HasBytesAt, Memory, SameBytes, SameSurroundings, bytes_of, read}
pub use Rattle.seg_map.specs.Changing.{KeepsOutsideMap, ErasesPair, WritesMapHeader, IsUnlinkedPair, AllocatesNodeOk}
pub use Rattle.seg_map.specs.{Changing.LinksPairOk, Searches.entry_in, Searches.exit_in, Places.first_pair}
pub use Rattle.seg_map.specs.Linking.{IsKeyTree, Relinked, keys_in}
pub use Rattle.seg_map.specs.PairNodes.{stands, stands_before, before_key, comes_before, is_kept}
pub use Rattle.seg_map.specs.PairNodes.{is_link_byte, is_other, links_among}
pub use Rattle.seg_map.specs.Places.{is_passed, last_pair, nodes_of_pairs, pair_node, HoldsMap, IsPairIn, final_pair}
pub use Rattle.seg_map.specs.Map.{IsPairAt, Pair, is_key, is_rising, node_len, pair_at, put_pair, remove_pair}
pub use Rattle.seg_map.specs.PairLaws.{Chains, IsGoodNodeSet, In, IsStrict, PairNode, PairNode-is_pair_node, cells_at}
pub use Rattle.seg_map.specs.PairLaws.{disjoint, is_pair_node-PairNode, lies, node_block, node_place, passing}
pub use Rattle.seg_types.specs.{declared.plain.Plain.Ghosts as Plain, Plain.value_in}
pub use Rattle.std.proofs.Common.{Bool, IsTrue, List, [], ap, arith, false, inl, inr, length, map, nat_le, nat_lt, not}
pub use Rattle.std.proofs.Common.{refl, subst, suc, sym, true, ℕ, ◌%◌, ◌&&◌, ◌*◌, ◌+◌, ◌-◌, ◌<◌, ◌==◌, ◌||◌, ◌∙◌, ◌∷◌}
pub use Rattle.std.proofs.{Common.◌≡◌, Common.◌≢◌, Common.◌≤◌, Common.◌⊎◌, Common.rules, lemmas.List.length-map}
pub use Rattle.std.proofs.lemmas.Bool.{and_parts, both_ways, cases_Bool, cases_eq, eq-eqb, eqb-true, false≢true, le-leb}
pub use Rattle.std.proofs.lemmas.Bool.{leb-true, lt-ltb, ltb-true, ne_eqb, or_cases, or_left, or_right}
pub use Rattle.std.proofs.lemmas.Bool.{false_from_ne_true, not-true, or_parts}
pub use Rattle.std.specs.List.{AllByRecursion, last_or, list_all, list_any}
pub use Rattle.std.specs.Prelude.{IfSome, None, Option, Some, find, if◌then◌else◌, option_map}
pub use mathlib.Core.List.{reverse}
unfoldable pub use Rattle.best_fit.specs.Heap.{live_of}
unfoldable pub use Rattle.seg_map.specs.PairNodes.{is_pair_node, kept_of, key_at, key_of, own_nodes, pair_cells}
