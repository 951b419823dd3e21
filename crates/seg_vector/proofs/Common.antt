-- The names that the proofs use, of the standard library, of the crates below and of the contracts.
pub use Rattle.best_fit.proofs.Laws.{Differs, exchange-order, last-first, others-past, rising-insert, rising-others}
pub use Rattle.best_fit.proofs.Laws.{all_keep_proper, legal_size, not-wide, wide-longer, wide-same, changed-room}
pub use Rattle.best_fit.proofs.Laws.{changed-live, written-but, IsFound, IsNone, SameSpread, all-found-in, all-in-use}
pub use Rattle.best_fit.proofs.Laws.{exchange-next, exchange-same, spread-refl, exchange-wide, exchange-written}
pub use Rattle.best_fit.proofs.Laws.{exchange-taken, keeps-refl, place-serves, too_long, Rising, found-inserted}
pub use Rattle.best_fit.proofs.Laws.{found-none, exchanged-live, found-without, IsRoomy, kept, kept-found, found-room}
pub use Rattle.best_fit.proofs.Laws.{in_use-alone, live-rises, written-keeps, word-same, laid-heap, roomy, kept-beside}
pub use Rattle.best_fit.proofs.Laws.{read-same, shorter-IsShorter, exchange-released, exchange-resized, middle-first}
pub use Rattle.best_fit.proofs.Laws.{spread-behind, all_of-inserted, but-apart, inserted-append, regrow-serves}
pub use Rattle.best_fit.proofs.Laws.{two-apart, taken-back, widened-back, lay_out_one, allocated-room, still_allocated}
pub use Rattle.best_fit.proofs.Laws.{all_of-insert, all-same-but, in_use-all, room-less, IfSome_is, without-inserted}
pub use Rattle.best_fit.proofs.Laws.{block_payload, room_block, IsSound, live-sound, SameBlock-trans, blocks-trans}
pub use Rattle.best_fit.proofs.Laws.{gaps-payload, gaps-refl, gaps-then, gaps-trans, hole-order}
pub use Rattle.best_fit.specs.Exchange.{CannotWiden, WidensBlock, CarriesOver, RegrowsOk, RegrowsNoSpace}
pub use Rattle.best_fit.specs.Exchange.{SameBlockExcept, block_of, exchanged, without_all, ExchangesBlocks, inserted}
pub use Rattle.best_fit.specs.{Exchange.KeepsLiveSet, Exchange.ReplacesBlocks, Heap.payload_at, Fit.place, Fit.shorter}
pub use Rattle.best_fit.specs.{Fit.others, Fit.resized, Fit.longer, declared.places.Place.Place}
pub use Rattle.best_fit.specs.Extents.{Extent, LiveSet, handle, holds, end_of, is_block, is_hole, proper_from}
pub use Rattle.best_fit.specs.Heap.{ChangesBytes, IsHeap, EncodesLiveSet, SameBlock, extent_at, has_room, live_of}
pub use Rattle.best_fit.specs.Heap.{Deallocates, ResizesBlock, ShrinksInPlace, AllocatesOk, KeepsGaps, is_live_in}
pub use Rattle.best_fit.specs.Table.{BackingArray, has_backing, serves, same_role, table_link, no_backing}
pub use Rattle.raw_region.proofs.Bytes.{HasBytesAt-append, HasBytesAt-beside, HasBytesAt-drop, HasBytesAt-patched}
pub use Rattle.raw_region.proofs.Bytes.{HasBytesAt-take, length-patch, length-read, more-times}
pub use Rattle.block_tags.specs.{Format.is_legal_size, declared.tile.Role.Role, declared.tile.Role.TheVariants.Storage}
pub use Rattle.offset_link.proofs.Laws.{SameBytesExcept-link}
pub use Rattle.offset_link.specs.Link.{link_at, target_of}
pub use Rattle.raw_region.proofs.Laws.{SameBytesExcept-wider, SameBytesExcept-word, HasBytesAt-same, read-part}
pub use Rattle.raw_region.specs.Memory.{Memory, WindowState, SameBytesExcept, bytes_of, word_at, SameBytes, HasBytesAt}
pub use Rattle.raw_region.specs.{Memory.part, Memory.patched, Memory.read, Format.current}
pub use Rattle.seg_types.specs.{declared.refusals.Refusal.Refusal, declared.refusals.Refusal.TheVariants.NoSpace}
pub use Rattle.seg_vector.specs.Elements.{FreesStorageOk, ShrinksStorageOk, ErasesElement, Extends, ShrinksStorage}
pub use Rattle.seg_vector.specs.Elements.{FreesStorage, Inserts, RewritesElements, Overwrites, PutsAt, ReadsOne}
pub use Rattle.seg_vector.specs.{Elements.Truncates, Containers.IsStanding, Vector.capacity_for_text}
pub use Rattle.seg_vector.specs.Containers.{IsStorageBlock, IsContainer, place_at, ReservesStorageOk, ReservesStorage}
pub use Rattle.seg_vector.specs.TextLists.{StoresFirstTexts, StoresArrayUpTo, StoresArrayOk, StoresArrayErr}
pub use Rattle.seg_vector.specs.TextParts.{FreesBlocks, AreHeldElements, IsHeldElement, SameElement, AreEvenLinks}
pub use Rattle.seg_vector.specs.TextParts.{AdoptsOk, ReservesArray, taken, widened, IsArrayReserved, IsPutAsked}
pub use Rattle.seg_vector.specs.TextParts.{PreparesPut, room_of, RefusesPut, PutsInto, SetsStorage, SwapsBlocks}
pub use Rattle.seg_vector.specs.TextParts.{SameElements, SetsWords, IsServed, TakesStorage, PlacesTextOk}
pub use Rattle.seg_vector.specs.TextsCalls.{AreDistinct, placed_text, placed_texts, text_blocks, with_text}
pub use Rattle.seg_vector.specs.TextsCalls.{requested_texts}
pub use Rattle.seg_vector.specs.TextsCalls.{ReleasesTexts, IsHeldText, IsTextElement, RefusesFirstBlock, InsertsTextOk}
pub use Rattle.seg_vector.specs.TextsCalls.{new_array, AssignsTextsOk, AssignsTexts, IsTexts, ReplacesTexts, with_array}
pub use Rattle.seg_vector.specs.TextsCalls.{requested_text, LacksFit}
pub use Rattle.seg_vector.specs.Vector.{IsStorage, AreTextLinks, IsOwnedText, OwnedText, capacity_for_one, AreInArray}
pub use Rattle.seg_vector.specs.VectorCalls.{IsVector, GrowsVectorOk, ReplacesVector, LacksSpace}
pub use Rattle.seg_vector.specs.TextCalls.{ReplacesText, IsText, GrowsTextOk}
pub use Rattle.std.proofs.Common.{None, List, [], ◌∷◌, length, arith, ◌⊎◌, ◌++◌, append-nil, ◌%◌, min, ◌==◌, zero, suc}
pub use Rattle.std.proofs.Common.{append_assoc, length-append, drop, map, slice_index_or, Bor, if◌then◌else◌, false, Ok}
pub use Rattle.std.proofs.Common.{◌≡◌, ◌≢◌, refl, sym, ap, subst, ◌∙◌, inl, inr, ℕ, ◌+◌, ◌*◌, ◌<◌, ◌≤◌, Option, Some}
pub use Rattle.std.proofs.Common.{Bool, true, take, ◌-◌, max, cond, ◌&&◌}
pub use Rattle.std.proofs.Math.Seq.{take-append-add, drop-append-add, take-append_seam, take-suc, take-nil, drop-nil}
pub use Rattle.std.proofs.{Math.Seq.drop-cons, lemmas.Grind.flat_map-append, lemmas.Option.slice_get_within}
pub use Rattle.std.proofs.{lemmas.List.Folds.list_all-append, lemmas.Result.err_from_is_err_and}
pub use Rattle.std.proofs.lemmas.Bool.{and_parts, leb-true, and_from, cond-false, cond-true, eq-eqb, le-leb, lt-ltb}
pub use Rattle.std.proofs.lemmas.Bool.{ne_eqb, or_left, or_right, eqb-true, le-ltb, lt-leb, ltb-true, or_cases}
pub use Rattle.std.proofs.lemmas.List.{drop_all, take-append-drop, length-set, length-take, take-take, length-drop}
pub use Rattle.std.proofs.lemmas.List.{drop_at, take_all, length-map, nil_from_length, drop-map}
pub use Rattle.std.proofs.lemmas.List.Edits.{length-insert, length-remove}
pub use Rattle.std.specs.Prelude.{IsTrue, nat_lt, option_to_list, option_map, IfSome, flat_map, insert, remove}
pub use Rattle.std.specs.Prelude.{slice_get, slice_set, nat_le, find, Result, Err, MatchResult, ⊤}
pub use Rattle.std.specs.List.{AllByRecursion, list_all, list_any}
