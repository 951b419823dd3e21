-- The names that most proofs cite, passed on from one place.
pub use Rattle.std.proofs.Common.{Bool, Equal, Err, Greater, IsTrue, Less, List, None, Ok, Option, Ordering, Result}
pub use Rattle.std.proofs.Common.{Some, [], ap, append-nil, append_assoc, arith, cond, drop, false, get_or}
pub use Rattle.std.proofs.Common.{if◌then◌else◌, inl, inr, length, length-append, map, nat_abs, nat_le, nat_lt, not}
pub use Rattle.std.proofs.Common.{pos, refl, replicate, rules, slice_get, subst, suc, sym, take, true, zero, ℕ, ℤ, ◌%◌}
pub use Rattle.std.proofs.Common.{◌&&◌, ◌*◌, ◌++◌, ◌+◌, ◌-◌, ◌/◌, ◌<◌, ◌==◌, ◌||◌, ◌∙◌, ◌∷◌, ◌≡◌, ◌≢◌, ◌≤◌, ◌⊎◌}
pub use Rattle.std.proofs.Math.Nat.{mul-le-mul_left}
pub use Rattle.std.proofs.lemmas.{Bool.ltb-false, Bool.ltb-true, Bool.ne_eqb, Option.slice_get_within}
pub use Rattle.std.proofs.lemmas.Bool.{and_from, and_parts, and_right, cases_lt, cond-false, cond-true, eq-eqb}
pub use Rattle.std.proofs.lemmas.Bool.{eqb-false, eqb-true, false≢true, le-leb, le-ltb, leb-true, lt-leb, lt-ltb}
pub use Rattle.std.proofs.lemmas.List.{flat_map_more, length-map, length-replicate, map-append, take-map, take_all}
pub use Rattle.std.proofs.lemmas.Option.{none-some, same_Some, slice_get-get_or, slice_get-map, slice_get_past}
pub use Rattle.std.specs.{Cmp.Lexicographic.slice_cmp, Cmp.Lexicographic.texts_ties, Ordering.is_lt, Ordering.nat_cmp}
pub use Rattle.std.specs.{Iterator.Yields, List.AllByRecursion, List.list_all, List.list_any, Str.chars, Str.is_utf8}
pub use Rattle.std.specs.Prelude.{IfErr, IfSome, MatchOption, MatchResult, OnErr, filter, find, flat_map, fold, insert}
pub use Rattle.std.specs.Prelude.{int_lt, is_some, option_map, option_to_list, remove, slice_set}
use Rattle.std.specs.Prelude.{IsErrAnd}
pub use denote.Ref.{Bor}
pub use Rattle.raw_region.proofs.Laws.{HasBytesAt-same, SameBytes-part, SameBytes-trans, SameBytes-word}
pub use Rattle.raw_region.proofs.Laws.{SameSurroundings-trans}
unfoldable pub use Rattle.raw_region.specs.{Format.current, Memory.word_at}
pub use Rattle.raw_region.specs.Memory.{AreZero, HasBytesAt, Memory, SameBytes, SameBytesExcept, SameSurroundings}
pub use Rattle.raw_region.specs.Memory.{WindowState, are_bytes, bytes_of, part, read}
pub use Rattle.offset_link.proofs.Laws.{SameBytes-link}
pub use Rattle.offset_link.specs.Link.{link_at}
pub use Rattle.link_tree.specs.Tree.{Tree, fork, leaf, nodes_of}
pub use Rattle.block_tags.specs.{Format.is_legal_size, Tiles.tiles_of, declared.tile.Role.Role, declared.tile.Tile.Tile}
pub use Rattle.block_tags.specs.declared.tile.Role.TheVariants.{Index as IndexRole, Node, Object as ObjectRole, Storage}
pub use Rattle.best_fit.proofs.Laws.{SameSpread, allocated-live, allocated-room, blocks-trans, changed-live}
pub use Rattle.best_fit.proofs.Laws.{changed-room, keeps-refl, keeps-trans, laid-heap, lay_out_one, legal_size}
pub use Rattle.best_fit.proofs.Laws.{list_any-insert, middle-first, placed_is_proper, room_block}
pub use Rattle.best_fit.specs.{Fit.added, Fit.others, Fit.place, Fit.released, Fit.resized, declared.places.Place.Place}
unfoldable pub use Rattle.best_fit.specs.{Extents.gaps, Extents.is_proper, Fit.regrow, Table.shrunk_backing}
pub use Rattle.best_fit.specs.Exchange.{ExchangesBlocks, SameBlockExcept, exchanged}
pub use Rattle.best_fit.specs.Extents.{Extent, LiveSet, end_of, handle, holds, proper_from, spans}
pub use Rattle.best_fit.specs.FreeTree.{IsTreeOf, cells_of, gap_head}
pub use Rattle.best_fit.specs.Heap.{AllocatesNoSpace, AllocatesOk, ChangesBytes, Deallocates, EncodesLiveSet, IsHeap}
pub use Rattle.best_fit.specs.Heap.{KeepsBlocks, SameBlock, extent_at, has_room, is_live_in, live_of}
pub use Rattle.best_fit.specs.Table.{BackingArray, has_backing, no_backing, same_role, serves}
pub use Rattle.seg_types.specs.{Keys.index_key_seen, Keys.key_seen, Keys.new_key_seen, declared.kinds.Class.Class}
pub use Rattle.seg_types.specs.{Kinds.scalar_code, Kinds.size_of, Kinds.spelling, declared.kinds.ScalarKind.ScalarKind}
pub use Rattle.seg_types.specs.{ScalarLaws.transitive, declared.refusals.Refusal.Refusal}
pub use Rattle.seg_types.specs.{Values.kind_of_scalar, Values.value_of_scalar, declared.plain.Plain.Ghosts as Plain}
pub use Rattle.seg_types.specs.Commands.{Command, Content, DestroyPtr, Get, Literal, Lookup, Pop, Push, Quoted, Set}
pub use Rattle.seg_types.specs.Commands.{is_changing, literal_of, value_of_literal}
pub use Rattle.seg_types.specs.Kinds.{class_code, code_of, is_kind_of, is_value, kind_of_code, lowest, same_kind}
pub use Rattle.seg_types.specs.Literals.{IsValueOf, cons_values, pair_values, values_of}
pub use Rattle.seg_types.specs.Names.{ByHandle, ByKind, ByName, Key, is_control, is_name, is_printable_name}
unfoldable pub use Rattle.seg_types.specs.Names.{is_text_name}
pub use Rattle.seg_types.specs.declared.{refusals.Refusal.TheVariants.WrongKind, values.ScalarValue.ScalarValue}
pub use Rattle.seg_types.specs.declared.kinds.Class.TheVariants.{Anonymous, Named as NamedClass, Unique as UniqueClass}
pub use Rattle.seg_types.specs.declared.kinds.Kind.{Kind, TheVariants.Strings as StringsKind, TheVariants.Vector}
pub use Rattle.seg_types.specs.declared.kinds.Kind.TheVariants.{Map, Map as MapKind, Scalar, String}
pub use Rattle.seg_types.specs.declared.kinds.ScalarKind.TheVariants.{Bool as BoolKind, U8}
pub use Rattle.seg_types.specs.declared.refusals.Refusal.TheVariants.{Exists, NoSpace, NotFound, OutOfRange, ReadOnly}
pub use Rattle.seg_vector.specs.{TextCalls.IsSomeText, TextsCalls.with_text}
pub use Rattle.seg_vector.specs.Containers.{IsContainer, IsStorageBlock, place_at}
pub use Rattle.seg_vector.specs.TextsCalls.{AreDistinct, IsTextsContainer, ReplacesTexts, new_array, placed_text}
pub use Rattle.seg_vector.specs.TextsCalls.{placed_texts, requested_text, requested_texts, text_blocks, with_array}
pub use Rattle.seg_vector.specs.Vector.{IsContainerAt, OwnedText, capacity_for_one, capacity_for_text, spelled}
unfoldable pub use Rattle.seg_vector.specs.Vector.{grown_backing}
pub use Rattle.seg_vector.specs.VectorCalls.{Assigns, GrowsVectorOk, LacksSpace, RefusesIndex}
pub use Rattle.seg_map.specs.Changing.{ErasesKey, ErasesPair, KeepsOutsideMap, OverwritesPair, PutsNewPair, PutsNoSpace}
pub use Rattle.seg_map.specs.Changing.{PutsPair, ReleasesMap}
pub use Rattle.seg_map.specs.Map.{is_key, is_rising, node_len, pair_at, put_pair, remove_pair}
pub use Rattle.seg_map.specs.Numbers.{IsNumberPairAt, NumberPair, is_number_pair}
pub use Rattle.seg_map.specs.Places.{FindsItem, FindsItemBefore, FindsLastItem, FindsValue, HoldsMap, IsPairIn}
pub use Rattle.seg_map.specs.Places.{IsSomeMap, item_of, nodes_of_pairs, value_of_pair}
pub use Rattle.seg_index.proofs.Laws.{prepared}
pub use Rattle.seg_index.specs.{Growth.without_index_block, Growth.without_link, Index.IsIndexAt, Index.grown_capacity}
pub use Rattle.seg_index.specs.{Keys.name_len_at, Lookups.FindsPosition}
pub use Rattle.seg_index.specs.Growth.{AddKeeps, AddsEntry, KeepsOutsideIndex, PreparesOk, beside_table, grown_bytes}
pub use Rattle.seg_index.specs.Held.{HasIndex, IsIndexOf, capacity_at, entry_count, index_at}
pub use Rattle.seg_index.specs.declared.{index.Index.Index, keys.Entry.TheVariants.Code, keys.Entry.TheVariants.Name}
pub use Rattle.seg_index.specs.declared.index.Index.TheVariants.{Named, Unique}
pub use Rattle.seg_index.specs.declared.keys.{Entry.Entry, Lookup.TheVariants.Absent, Lookup.TheVariants.Found}
pub use Rattle.segment_manager.specs.{Answers.is_untouched, Answers.refusal_of, objects.NewObjects.RestoresBlocks}
pub use Rattle.segment_manager.specs.{Calls.IsTileOfIndex, Calls.elements_of, Calls.kind_at, objects.Located.IsLocated}
pub use Rattle.segment_manager.specs.{Denotes.two_halves, Keeping.HasCapacity, Keeping.LacksKey, Keeping.UnchangedWhere}
pub use Rattle.segment_manager.specs.{Plan.with_spare_entry, Plan.with_storage, Plan.with_value, Staying.is_elementwise}
pub use Rattle.segment_manager.specs.{containers.Contents.sizes_at, containers.Contents.sizes_of, objects.Heads.IsEntry}
pub use Rattle.segment_manager.specs.{containers.TextLists.LeadsOnOfKind, declared.containers.storage.Change.Change}
unfoldable pub use Rattle.segment_manager.specs.{Directory.live, Step.step, Step.step_of_kind}
pub use Rattle.segment_manager.specs.Answers.{Answer, Boolean, Done, Element, Made, Number, Refused, TextElement}
pub use Rattle.segment_manager.specs.Denotes.{Denotes, IsHeader, IsObjectAt, IsValueAt, handles, padded_name}
pub use Rattle.segment_manager.specs.Directory.{Bytes, Directory, Elements, IsDirectory, Numbers, Object, Pairs, Texts}
pub use Rattle.segment_manager.specs.Directory.{Value, by_kind, by_name, count_of, empty, extents_of, has_good_name}
pub use Rattle.segment_manager.specs.Directory.{has_key, has_own_block, insert_by, is_class, is_good_value, is_index}
pub use Rattle.segment_manager.specs.Directory.{is_object, is_owned_text, kind_of, named_objects, object_at, object_len}
pub use Rattle.segment_manager.specs.Directory.{padded, put_object, remove_object, replace_object, rises, rises_from}
pub use Rattle.segment_manager.specs.Directory.{same_bytes, sorted, table_extents, unique_objects, value_extents}
pub use Rattle.segment_manager.specs.Directory.{value_len, with_changed, with_object, without_object}
pub use Rattle.segment_manager.specs.Layout.{head_len}
pub use Rattle.segment_manager.specs.Plan.{Need, New, Plan, Refuse, Regrown as RegrownNeed, Reply, Request, bare}
pub use Rattle.segment_manager.specs.Plan.{class_of, met, name_of, perform, with, with_capacity, with_entry}
pub use Rattle.segment_manager.specs.Plan.{with_new_index, with_new_object, with_owned_text, with_owned_texts}
pub use Rattle.segment_manager.specs.State.{AnswersQuery, AnswersQueryOfKind, AnswersWith, DenotesCurrent, IsSegment}
pub use Rattle.segment_manager.specs.State.{SegmentState, StepsWithoutAnswer, TakesStep, TakesStepOfKind, Transitions}
pub use Rattle.segment_manager.specs.State.{answer_of, done_answer, handle_answer, refusal_in, truth_answer}
pub use Rattle.segment_manager.specs.Step.{changed, effect, element_at, found, found_at, get, is_read_only, map_of}
pub use Rattle.segment_manager.specs.Step.{plan, set, storage_of, texts_of, with_items, with_table}
pub use Rattle.segment_manager.specs.blocks.Resized.{Resizes, grown, shrunk}
pub use Rattle.segment_manager.specs.containers.{Filled.MakesValueOk, Filled.with_count, ToChange.IsNotToChange}
pub use Rattle.segment_manager.specs.containers.Changeable.{IsChangeable, IsChangeableObject, IsUnchangeable}
pub use Rattle.segment_manager.specs.containers.Contents.{Contents, RefillsContainer, bytes_at, container_at}
pub use Rattle.segment_manager.specs.containers.Contents.{container_place, contents_of, has_storage, has_values}
pub use Rattle.segment_manager.specs.containers.Filled.{Constructs, FindsOrConstructs, MakesValue, MakesValueErr}
pub use Rattle.segment_manager.specs.containers.Maps.{HasPairs, answer_of_map, numbers_in, numbers_of, pair_above}
pub use Rattle.segment_manager.specs.containers.Maps.{pair_from, told_of, value_or_absent}
pub use Rattle.segment_manager.specs.containers.Stored.{AnswersSafely, HasEnough, StepsSafely, command_of}
pub use Rattle.segment_manager.specs.containers.Walks.{IsMap, first_of, item_of_kinds, pairs_at, pairs_of}
pub use Rattle.segment_manager.specs.declared.{modes.Mode.Mode, objects.object_ref.Object.Object as Located}
pub use Rattle.segment_manager.specs.declared.{modes.Mode.TheVariants.Write, objects.instance_info.Instance.Instance}
pub use Rattle.segment_manager.specs.declared.containers.storage.Change.TheVariants.{Clear, Reserve, Shrink}
pub use Rattle.segment_manager.specs.declared.objects.{head.Head.Head, pending_object.PendingEntry.PendingEntry}
pub use Rattle.segment_manager.specs.indexes.Indexed.{Seeks, class_of_index, entries_of, objects_of, order_of}
pub use Rattle.segment_manager.specs.indexes.Indexed.{reserve_of, table_of, with_table_of}
pub use Rattle.segment_manager.specs.indexes.Listed.{HasEntries, HasIndexEntry, IsAnonymousAt, IsListed}
pub use Rattle.segment_manager.specs.objects.{Items.ConstructsFromItems, Standing.repeated, Standing.room_for}
pub use Rattle.segment_manager.specs.objects.Destroyed.{Becomes, Empties, HoldsObject, emptied}
pub use Rattle.segment_manager.specs.objects.ElementLists.{first_size, length_at_kind}
pub use Rattle.segment_manager.specs.objects.Found.{found_object_answer, handle_at, is_object_at}
pub use Rattle.segment_manager.specs.objects.Instances.{IsInstance, IsMissing, SaysAt, SaysOf}
pub use Rattle.segment_manager.specs.objects.NewObjects.{IsNewKeyOf, IsOfKind, RequestsBlocksErr, RequestsBlocksOk}
pub use Rattle.segment_manager.specs.objects.PendingObjects.{BeginsObject, BeginsObjectOk, IsAbsentAt, LeadsThere}
pub use Rattle.segment_manager.specs.objects.PendingObjects.{WritesObjectHeader, WritesUnindexedAlone}
pub use Rattle.segment_manager.specs.objects.PendingObjects.{WritesUnindexedForEntry, WritesUnindexedObject}
pub use Rattle.segment_manager.specs.objects.Standing.{HasObject, IsHeadAt, IsHeadOf, IsObjectInBlock, pair_of_kind}

-- the exit of a `?` returns the error that it met
pub exit-is : {T E : Type 0} (r : Result T E) (why : E) → IsErrAnd r (λ e. e ≡ why) → r ≡ Err why
exit-is (Ok x) why h = absurd h
exit-is (Err e) why h = ap Err h
