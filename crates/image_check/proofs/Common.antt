-- The names that most proofs cite, passed on from one place.
pub use Rattle.std.proofs.Common.{Err, IsTrue, List, None, Ok, Result, Some, [], add-one, ap, arith, cond, drop, false}
pub use Rattle.std.proofs.Common.{inl, inr, length, map, nat_eq, nat_le, nat_lt, not, option_to_list, refl, slice_index}
pub use Rattle.std.proofs.Common.{subst, suc, sym, take, true, zero, ℕ, ◌%◌, ◌&&◌, ◌*◌, ◌++◌, ◌+◌, ◌-◌, ◌/◌, ◌<◌, ◌==◌}
pub use Rattle.std.proofs.Common.{◌^◌, ◌||◌, ◌∙◌, ◌∷◌, ◌≡◌, ◌≢◌, ◌≤◌, ◌⊎◌}
pub use Rattle.std.proofs.lemmas.Bool.{and_from, and_left, and_parts, and_right, both_ways, cases_Bool, cases_eq}
pub use Rattle.std.proofs.lemmas.Bool.{cases_lt, cond-false, cond-true, eq-eqb, eqb-true, false≢true, le-leb, le-ltb}
pub use Rattle.std.proofs.lemmas.Bool.{leb-true, lt-ltb, ltb-false, ltb-true, ne_eqb, not-false, not-true}
pub use Rattle.std.proofs.lemmas.Bool.{not_from_false, not_from_true, or_cases, or_from, or_left, or_parts, or_right}
pub use Rattle.std.proofs.lemmas.Bool.{true≢false}
pub use Rattle.std.proofs.lemmas.List.{length-drop, length-map, length-replicate, length-take, length-take-le}
pub use Rattle.std.proofs.lemmas.List.{map-append}
pub use Rattle.std.proofs.lemmas.List.Folds.{list_all-append}
pub use Rattle.std.proofs.lemmas.Result.{err_from_is_err_and}
pub use Rattle.std.specs.List.{AllByRecursion, cons_option, list_all, list_any, range_with_len}
pub use Rattle.std.specs.Map.{set_value}
pub use Rattle.std.specs.Prelude.{Contains, IfErr, IsSome, MatchResult, Option, codes, filter, filter_map, flat_map}
pub use Rattle.std.specs.Prelude.{if◌then◌else◌, int_lt, is_none, is_some, slice_get, ℤ}
pub use Rattle.best_fit.proofs.Laws.{Apart, Row, lay_out_one, legal_size, said_row}
pub use Rattle.best_fit.specs.Extents.{Extent, LiveSet, handle}
pub use Rattle.best_fit.specs.FreeTree.{IsTreeOf, cells_of}
pub use Rattle.best_fit.specs.Heap.{EncodesLiveSet, as_extent, is_live_in}
pub use Rattle.best_fit.specs.Rebuilding.{RebuildsFreeTree}
pub use Rattle.best_fit.specs.Table.{BackingArray, has_backing, same_role, serves, table_link}
pub use Rattle.block_tags.proofs.Laws.{tiles_are_read_off}
pub use Rattle.block_tags.specs.Format.{is_legal_size}
pub use Rattle.block_tags.specs.Tiles.{has_tags, tiles_of}
pub use Rattle.block_tags.specs.Windows.{EncodesTiles}
pub use Rattle.block_tags.specs.declared.tile.Role.{Role}
pub use Rattle.block_tags.specs.declared.tile.Role.TheVariants.{Index, Node, Storage}
pub use Rattle.block_tags.specs.declared.tile.Tile.{Tile}
pub use Rattle.byteorder.specs.Endian.{little_number}
pub use Rattle.image_check.specs.Causes.{IsShown}
pub use Rattle.image_check.specs.Checking.{IsWhyRefused, OpensWindow}
pub use Rattle.image_check.specs.Classes.{class_of, classes}
pub use Rattle.image_check.specs.Containers.{AreFollowed, block_weight, container_block_rates, container_walk_rates}
pub use Rattle.image_check.specs.Containers.{has_container, rooted_weight}
pub use Rattle.image_check.specs.Owners.{AreCounted}
pub use Rattle.image_check.specs.Deciding.{decided_by}
pub use Rattle.image_check.specs.EarlyTests.{has_free_tree, has_front, has_magic, has_reserved, has_size, has_version}
pub use Rattle.image_check.specs.EarlyTests.{is_among, is_tiled, is_zero, size_word}
pub use Rattle.image_check.specs.Entered.{EntersLink, HaveEntries, EntersEntries, are_enterable, are_new, can_enter}
pub use Rattle.image_check.specs.Entered.{index_of, links_in}
pub use Rattle.image_check.specs.Fields.{Field, are_pairs, counted_fields, element_fields, element_offsets}
pub use Rattle.image_check.specs.Fields.{has_containers, has_storage, index_field, is_container, is_element_at}
pub use Rattle.image_check.specs.Fields.{is_map_at, is_node_of, is_orphaned, is_shared, key_at, leads_there}
pub use Rattle.image_check.specs.Fields.{needs_owner, node_fields, root_link, storage_field, values}
pub use Rattle.image_check.specs.Formats.{format_in, format_of}
pub use Rattle.image_check.specs.FreeLaws.{before_irreflexive, is_target-PayloadBounds, is_target-from, small_size}
pub use Rattle.image_check.specs.FreeNodes.{is_target, is_planted, stands_before}
pub use Rattle.image_check.specs.IndexOffsets.{first_targets, is_new}
pub use Rattle.image_check.specs.MapLaws.{is_pair-IsPairNode}
pub use Rattle.image_check.specs.MapNodes.{is_rooted, kept_link}
pub use Rattle.image_check.specs.Meaning.{IsCountedLink, LeadsTo}
pub use Rattle.image_check.specs.ObjectPasses.{are_ranked, is_right_tile, object_walk_rates}
pub use Rattle.image_check.specs.ObjectOffsets.{IsFirstWrongTile}
pub use Rattle.image_check.specs.ObjectTests.{are_distinct, are_spellings, entries, good_for, has_index, has_indexes}
pub use Rattle.image_check.specs.ObjectTests.{has_name, has_objects, has_padding, index_capacity, is_indexed}
pub use Rattle.image_check.specs.ObjectTests.{is_object_tile, is_table_link, is_use, is_value_in, kind_at, leads_to}
pub use Rattle.image_check.specs.ObjectTests.{object_tiles, payload, rise_by, targets, tile_of, value_offset}
pub use Rattle.image_check.specs.Opening.{IsHandedBack, IsImage, IsOpenCause, IsTooSmallFor, failed_reads}
pub use Rattle.image_check.specs.Opening.{as_given, has_early_class}
pub use Rattle.image_check.specs.Upgrading.{UpgradesFormat}
pub use Rattle.image_check.specs.Owners.{IsSharedAt}
pub use Rattle.image_check.specs.Owners.{AreBlocks, BlockMap, Blocks, IsBlockAt, IsFollowed, IsMarkedLink, IsMarking}
pub use Rattle.image_check.specs.Owners.{IsMarkingOf, IsRooted, IsSharedIn, IsTileAt, IsUnmarked, IsWholeMarking}
pub use Rattle.image_check.specs.Owners.{IsWholeMarkingOf, MarksLink, MayCount, block_at, debts, entries_of, entry_in}
pub use Rattle.image_check.specs.Owners.{entry_of, frame_of, frames, has_owner, new_block, owner, owner_at, owner_in}
pub use Rattle.image_check.specs.Owners.{unspent_budget, visit_budget}
pub use Rattle.image_check.specs.Passes.{ChecksClass, HasTiles, Spends, has_block}
pub use Rattle.image_check.specs.Reading.{HasFront, IsImageRead, IsNotRead, IsShort, ReadsPastEnd, Stops, front_of}
pub use Rattle.image_check.specs.Rows.{AreBelow, IsRow}
pub use Rattle.image_check.specs.Sharing.{AreElementsNoted, AreIndexesNoted, AreTextsNoted, IsIndexNoted}
pub use Rattle.image_check.specs.Sharing.{IsStorageNoted, IsTileGrown, IsValueGrown, IsValueReady, EntersValues}
pub use Rattle.image_check.specs.Sharing.{has_link}
pub use Rattle.image_check.specs.Verdicts.{Shows}
pub use Rattle.image_check.specs.Visits.{Rates, planting_rates, rate_of, tag_rates, tree_rates, weigh}
pub use Rattle.image_check.specs.declared.classes.ImageClass.{ImageClass}
pub use Rattle.image_check.specs.declared.classes.ImageClass.TheVariants.{BadContainer, BadFreeTree, BadIndex, BadMagic}
pub use Rattle.image_check.specs.declared.classes.ImageClass.TheVariants.{BadObject, BadReserved, BadSize, BadTag}
pub use Rattle.image_check.specs.declared.classes.ImageClass.TheVariants.{OrphanBlock, SharedBlock, Truncated}
pub use Rattle.image_check.specs.declared.classes.ImageClass.TheVariants.{UnsupportedVersion}
pub use Rattle.image_check.specs.declared.errors.OpenError.{OpenError}
pub use Rattle.image_check.specs.declared.errors.OpenRefused.{OpenRefused}
pub use Rattle.image_check.specs.declared.owners.Block.{Block}
pub use Rattle.image_check.specs.declared.owners.Owner.{Owner}
pub use Rattle.image_check.specs.declared.versions.AcceptedVersions.{AcceptedVersions}
pub use Rattle.link_tree.proofs.Laws.{all_at, all_from, in_parts, reads_off, some_same}
pub use Rattle.link_tree.specs.Checking.{IsLinkClosed}
pub use Rattle.link_tree.specs.Nodes.{is_in, leads}
pub use Rattle.link_tree.specs.Tree.{AreCellsOf, Cell, IsSearchTree, IsTree, Tree, fork, is_red_black, is_sorted, leaf}
pub use Rattle.link_tree.specs.Tree.{nodes_of, root_of, tree_from}
pub use Rattle.offset_link.specs.Link.{link_at}
pub use Rattle.offset_link.specs.Relinked.{is_bad}
pub use Rattle.raw_region.proofs.Laws.{added, both_added, read-part}
pub use Rattle.raw_region.specs.Device.{ReadDelta, ReadsSource, read_delta}
pub use Rattle.raw_region.specs.Memory.{AreZero, HasBytesAt, Memory, SameSurroundings, WindowState, are_bytes, bytes_of}
pub use Rattle.raw_region.specs.Memory.{part, patched, read}
pub use Rattle.seg_index.specs.Index.{AreIndexEntries}
pub use Rattle.seg_index.specs.Keys.{class_at, code_at, code_before, count_at, name_at, name_before, name_len_at}
pub use Rattle.seg_map.specs.Map.{is_rising}
pub use Rattle.seg_map.specs.Numbers.{IsNumberPairAt, NumberPair, is_number_pair}
pub use Rattle.seg_types.specs.Kinds.{class_code, is_spelling, is_value, kind_of_code, size_of, spelling, value_of}
pub use Rattle.seg_types.specs.Names.{is_name}
pub use Rattle.seg_types.specs.declared.kinds.Class.{Class}
pub use Rattle.seg_types.specs.declared.kinds.Class.TheVariants.{Anonymous, Named, Unique}
pub use Rattle.seg_types.specs.declared.kinds.Kind.{Kind}
pub use Rattle.seg_types.specs.declared.kinds.Kind.TheVariants.{Map, Scalar, String, Vector}
pub use Rattle.seg_types.specs.declared.kinds.ScalarKind.{ScalarKind}
pub use Rattle.seg_types.specs.declared.kinds.ScalarKind.TheVariants.{U8}
pub use Rattle.seg_vector.specs.Vector.{AreTextLinks, OwnedText, spelled}
pub use Rattle.segment_manager.proofs.Laws.{AllByRecursion-behind, AllByRecursion-front, IsRanked, Rising, live-rises}
pub use Rattle.segment_manager.proofs.Laws.{ordered, own-block, rising-weak, spelling-length}
pub use Rattle.segment_manager.specs.Denotes.{Denotes, IsObjectAt, IsValueAt, magic_number}
pub use Rattle.segment_manager.specs.Directory.{Bytes, Directory, Elements, Numbers, Pairs, Texts, Value, by_kind}
pub use Rattle.segment_manager.specs.Directory.{by_name, count_of, has_own_block, is_class, is_good_value, is_object}
pub use Rattle.segment_manager.specs.Directory.{is_owned_text, kind_of, named_objects, object_len, padded, rises}
pub use Rattle.segment_manager.specs.Directory.{rises_from, sorted, table_extents, unique_objects, value_extents}
pub use Rattle.segment_manager.specs.Directory.{value_len}
pub use Rattle.segment_manager.specs.State.{SegmentState}
pub use Rattle.segment_manager.specs.declared.modes.Mode.{Mode}
