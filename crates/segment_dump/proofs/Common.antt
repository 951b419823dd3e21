-- The names that most proofs cite, passed on from one place.
pub use Rattle.std.proofs.Common.{Bool, Err, List, None, Ok, Option, Result, Some, [], ap, append-nil, append_assoc}
pub use Rattle.std.proofs.Common.{arith, cond, drop, false, get_or, if◌then◌else◌, inl, inr, length, map, nat_eq}
pub use Rattle.std.proofs.Common.{nat_le, nat_lt, negsuc, not, pos, refl, replicate, slice_get, subst, suc, sym, take}
pub use Rattle.std.proofs.Common.{true, zero, zero-add, ℕ, ℤ, ◌%◌, ◌&&◌, ◌*◌, ◌++◌, ◌+◌, ◌-◌, ◌/◌, ◌<◌, ◌==◌, ◌^◌, ◌||◌}
pub use Rattle.std.proofs.{Common.◌∙◌, Common.◌∷◌, Common.◌≡◌, Common.◌≢◌, Common.◌≤◌, Common.◌⊎◌, Math.Seq.take-add}
pub use Rattle.std.proofs.{Math.Seq.take-append_seam, lemmas.Bool.Decides.nat_tests, lemmas.Fmt.decimal_injective}
pub use Rattle.std.proofs.{lemmas.Grind.flat_map-append, lemmas.Int.ints, lemmas.Option.slice_get-get_or}
pub use Rattle.std.proofs.Math.Nat.{mul-le-mul_left, mul-zero, suc-mul, zero-mul}
pub use Rattle.std.proofs.lemmas.Bool.{and_parts, eq-eqb, eqb-true, false≢true, le-leb, leb-true, lt-leb, lt-ltb}
pub use Rattle.std.proofs.lemmas.Bool.{ltb-false, ltb-true, ne_eqb}
pub use Rattle.std.proofs.lemmas.List.{drop_at, length-append, length-drop, length-map, length-take, map-append}
pub use Rattle.std.proofs.lemmas.List.{take-append-drop, take_all, take_more}
pub use Rattle.std.specs.{Bool.OnTrue, List.AllByRecursion, List.list_all, Result.IsErr}
pub use Rattle.std.specs.Fmt.{digit_glyph, digits_onto, signed_decimal}
pub use Rattle.std.specs.Prelude.{IfOk, IsTrue, MatchResult, codes, decimal, filter, find, flat_map, fold, int_lt, max}
pub use Rattle.std.specs.Prelude.{nat_abs, option_map, option_to_list, position, slice_set, ⊤}
pub use Rattle.best_fit.specs.{Ends.last_end, Fit.room}
pub use Rattle.best_fit.specs.Extents.{Extent, Gap, end_of, gap_between, handle, holds, is_block, is_hole, proper_from}
pub use Rattle.best_fit.specs.Table.{BackingArray, has_backing, no_backing, serves}
pub use Rattle.block_tags.specs.{Format.is_legal_size, declared.tile.Role.Role}
pub use Rattle.block_tags.specs.declared.tile.Role.TheVariants.{Index, Node, Storage}
pub use Rattle.raw_region.proofs.Laws.{writes-cut, writes-then}
pub use Rattle.raw_region.specs.{Device.WriterHistory, Device.Writes, Memory.bytes_of}
pub use Rattle.seg_map.specs.{Map.is_rising, Map.node_len, Numbers.NumberPair, Numbers.is_number_pair, Places.item_of}
pub use Rattle.seg_types.specs.{Commands.Command, Commands.literal_of, Keys.name_seen, declared.kinds.Class.Class}
pub use Rattle.seg_types.specs.{declared.kinds.Kind.Kind, declared.kinds.Kind.TheVariants.Scalar}
pub use Rattle.seg_types.specs.{declared.kinds.ScalarKind.ScalarKind, declared.refusals.Refusal.Refusal}
pub use Rattle.seg_types.specs.Kinds.{class_code, code_of, is_kind_of, is_value, same_kind, size_of}
pub use Rattle.seg_types.specs.Names.{ByHandle, ByKind, ByName, Key, NoKey, is_name}
pub use Rattle.seg_types.specs.Texts.{between, digit_text, escape_text, is_bare_name, is_letter, is_name_byte}
pub use Rattle.seg_types.specs.Texts.{kind_text, name_text, quoted_text, scalar_text, value_text}
pub use Rattle.seg_types.specs.Values.{kind_of_scalar, scalar_of, value_of_scalar}
pub use Rattle.seg_types.specs.declared.kinds.Class.TheVariants.{Anonymous, Named, Unique}
pub use Rattle.seg_types.specs.declared.kinds.ScalarKind.TheVariants.{I32, I64, U64, U8}
pub use Rattle.seg_types.specs.declared.refusals.Refusal.TheVariants.{NotFound, OutOfRange, WrongKind}
pub use Rattle.seg_types.specs.declared.values.ScalarValue.{ScalarValue}
pub use Rattle.seg_vector.specs.Vector.{OwnedText}
pub use Rattle.segment_lang.specs.{Language.whole_language, Seen.bytes_said, Seen.token_of, Texts.number_text}
pub use Rattle.segment_lang.specs.Laws.{NumbersAreDecimals, TextsAreSpelled, WholesAreDecimals}
pub use Rattle.segment_lang.specs.Reading.{kind_of_token, number}
pub use Rattle.segment_lang.specs.Lexing.{Bare, Text, Token, is_bare, number_of}
pub use Rattle.segment_manager.proofs.Laws.{AllByRecursion-behind, AllByRecursion-front, IsStrict, all-ordered}
pub use Rattle.segment_manager.proofs.Laws.{all-sorted, by_kind-strict, by_name-strict, index-parts, live-extents}
pub use Rattle.segment_manager.proofs.Laws.{live-size, said-at}
pub use Rattle.segment_manager.specs.Answers.{Answer, Done, Made, Number, Boolean}
pub use Rattle.segment_manager.specs.{Calls.IsWhy, Calls.elements_of, containers.Contents.sizes_at}
pub use Rattle.segment_manager.specs.{containers.Contents.sizes_of, Directory.value_extents, Directory.value_len}
pub use Rattle.segment_manager.specs.{objects.Instances.SaysAt, objects.Instances.SaysOf, Layout.head_len}
pub use Rattle.segment_manager.specs.{objects.Located.IsLocated, blocks.Resized.shrunk, State.done_answer, Step.changed}
pub use Rattle.segment_manager.specs.{Step.effect, Step.found_at, containers.Walks.item_seen, containers.Walks.pairs_at}
pub use Rattle.segment_manager.specs.{declared.errors.CreateError.CreateError, declared.modes.Mode.TheVariants.Write}
pub use Rattle.segment_manager.specs.{Parts.part_of, Parts.parts_until}
pub use Rattle.segment_manager.specs.Directory.{Bytes, Directory, Elements, IsDirectory, Numbers, Object, Pairs, Texts}
pub use Rattle.segment_manager.specs.Directory.{Value, by_kind, by_name, empty, extents_of, has_good_name, has_key}
pub use Rattle.segment_manager.specs.Directory.{has_own_block, insert_by, is_class, is_good_value, is_object}
pub use Rattle.segment_manager.specs.Directory.{is_owned_text, kind_of, live, named_objects, object_at, object_len}
pub use Rattle.segment_manager.specs.Directory.{padded, rises_from, sorted, table_extents, unique_objects}
pub use Rattle.segment_manager.specs.Plan.{New, Plan, Reply, Request, bare, class_of, name_of, perform, with}
pub use Rattle.segment_manager.specs.State.{AnswersWith, TakesStep, TakesStepOfKind, DenotesCurrent, SegmentState}
pub use Rattle.segment_manager.specs.declared.errors.CreateRefused.{CreateRefused}
pub use Rattle.segment_manager.specs.declared.objects.instance_info.Instance.{Instance}
pub use Rattle.segment_dump.specs.Builders.{AddsElement, AreLeft, BuildsAllObjects, Collects, FillsNew, HasIndexSlot}
pub use Rattle.segment_dump.specs.Builders.{IsEmptyObject, IsFillable, CanBuildItem, IsVectorKind, PiecesLeft}
pub use Rattle.segment_dump.specs.Builders.{ReadsElement, ReadsLength, ReadsPair, ReadsPiece, ReadsKindAndCount}
pub use Rattle.segment_dump.specs.Builders.{StartsNext}
pub use Rattle.segment_dump.specs.Builders.{StartsUnder, content_need, first_content}
pub use Rattle.segment_dump.specs.Building.{AreSortedItems, EndBy, HasExactRoom, Head, HasBuiltItems, IsFilling, Site}
pub use Rattle.segment_dump.specs.Building.{all_extents, class_tokens, count_class, has_item_key, item_key, key_in}
pub use Rattle.segment_dump.specs.Building.{kind_less, measure_tokens, name_less, of_class}
pub use Rattle.segment_dump.specs.Capacities.{Capacity, Holds, Kinds, Names, all_notes, capacities, capacities_text}
pub use Rattle.segment_dump.specs.Capacities.{capacity_note, index_notes, measured_slots, slots_at}
pub use Rattle.segment_dump.specs.{Comparing.compared, Counting.IsNameless, Counting.fronted, Items.kind_of_content}
pub use Rattle.segment_dump.specs.{Items.portable, Leads.IsSmall, Leads.closed_text, Leads.entries_text}
pub use Rattle.segment_dump.specs.{Lines.bare_token, Lines.quoted_token, Lines.text, Lines.value_token}
pub use Rattle.segment_dump.specs.{Loading.asked_of}
pub use Rattle.segment_dump.specs.{Loading.cause_in, Loading.refusal_for, Need.only_room, Need.text_needs}
pub use Rattle.segment_dump.specs.{Need.texts_needs, Order.all_items, Places.line_column_behind, Reads.lines_text}
pub use Rattle.segment_dump.specs.{Reads.seen}
pub use Rattle.segment_dump.specs.{Reads.seen_rest, Succeeding.AreOf, Succeeding.Succeeds, Succeeding.Takes}
pub use Rattle.segment_dump.specs.{declared.building.ObjectLine.ObjectLine, declared.counting.Count.Count}
pub use Rattle.segment_dump.specs.{declared.counting.DumpPrefix.DumpPrefix, declared.faults.LoadError.LoadError}
pub use Rattle.segment_dump.specs.{declared.faults.LoadRefused.LoadRefused, declared.needs.Needs.Needs}
pub use Rattle.segment_dump.specs.Counting.{AreCountable, AreTexts, CountsDump, HasContentShape, IsCountable}
pub use Rattle.segment_dump.specs.Counting.{IsDumpPrefix}
pub use Rattle.segment_dump.specs.Filling.{IsByteList, AreRising, AreValues, FillState, FillsAt, IsBuildableContent}
pub use Rattle.segment_dump.specs.Filling.{IsNameIn, IsTypedPair, IsPartialValue, StandsBuilt, StandsFilling, head_of}
pub use Rattle.segment_dump.specs.Items.{ValueContent, DumpItem, Items, Map, Scalars, String, Strings, Vector}
pub use Rattle.segment_dump.specs.Items.{anonymous_objects, bytes_in, content_of, count_of_content, item_of_object}
pub use Rattle.segment_dump.specs.Layouts.{Spelling, in_lines, laid_at, laid_from, laid_object, laid_out}
pub use Rattle.segment_dump.specs.Lines.{IsShortLine, IsTokenOf, ReadsEnd, ReadsLine, ReadsThis, ReadsToken, any_token}
pub use Rattle.segment_dump.specs.Loading.{IsRequestedSize, IsExact, IsLoaded, IsNotLoaded, IsRefusalOf, IsWrong}
pub use Rattle.segment_dump.specs.Need.{all_needs, body_len, both, elements_room, item_needs, items_needs, nothing}
pub use Rattle.segment_dump.specs.Notes.{are_notes, before_notes, ends_line, is_line, without_notes}
pub use Rattle.segment_dump.specs.DumpWrites.{WritesOf, all_text, where_anonymous}
pub use Rattle.segment_values.specs.{Asked.length_in, Layouts.count_at, Layouts.object_count}
pub use Rattle.segment_dump.specs.Reads.{Any, AreLines, Breaks, HasNoEnd, IsToken, ParsesPrefix, Skips, ended, itself}
pub use Rattle.segment_dump.specs.Texts.{content_text, dump_text, element_line, end_text, prefix_text, head_line}
pub use Rattle.segment_dump.specs.Texts.{item_text, items_text, length_text, kind_and_count_text, pair_line, piece_lead}
pub use Rattle.segment_dump.specs.Texts.{piece_line, piece_of, pieces_in, pieces_text, text_lines}
pub use Rattle.segment_dump.specs.declared.faults.LoadError.TheVariants.{BadSize, LongText, NoSpace, RegionTooSmall}
unfoldable pub use Rattle.std.specs.Fmt.{digits}
unfoldable pub use Rattle.best_fit.specs.{Extents.free_bytes, Extents.is_proper, Fit.place}
unfoldable pub use Rattle.raw_region.specs.{Format.current, Memory.word_at}
unfoldable pub use Rattle.segment_lang.specs.{Reading.kind_named, Tokens.next_token}
unfoldable pub use Rattle.segment_manager.specs.Step.{step, step_of_kind}
unfoldable pub use Rattle.segment_dump.specs.{Building.total, Need.block_room, Need.prefix_room, Need.object_room}
