-- The names that most proofs cite, passed on from one place.
pub use Rattle.best_fit.proofs.Laws.{allocated-live, among, changed-keeps, found-less, found-new, found-room, laid-heap}
pub use Rattle.best_fit.proofs.Laws.{live-rises, released-live, rising-insert, room-less, room_block}
pub use Rattle.best_fit.specs.Heap.{AllocatesOk, ChangesBytes, IsHeap, Deallocates, KeepsBlocks, EncodesLiveSet}
pub use Rattle.best_fit.specs.Heap.{SameBlock, extent_at, has_room, heap_touches, is_live_in, live_of}
pub use Rattle.best_fit.specs.{Extents.Extent, Extents.LiveSet, Extents.handle, Extents.holds, Fit.added, Fit.others}
pub use Rattle.best_fit.specs.{Fit.place, Fit.released, Table.BackingArray, Table.same_role, Table.serves}
pub use Rattle.block_tags.specs.{declared.tile.Role.TheVariants.Index as IndexRole, declared.tile.Role.Role}
pub use Rattle.byteorder.specs.Endian.{big_number}
pub use Rattle.link_tree.specs.Tree.{bits}
pub use Rattle.offset_link.proofs.Laws.{SameBytes-link, SameBytesExcept-link}
pub use Rattle.offset_link.specs.{Relinked.AllLinksLead, Relinked.KeepTargets, Link.link_at}
pub use Rattle.raw_region.proofs.Laws.{SameBytes-part, SameBytes-word, SameBytesExcept-word, SameSurroundings-trans}
pub use Rattle.raw_region.specs.Memory.{WindowState, Memory, SameBytes, bytes_of, read, AreBytes}
pub use Rattle.raw_region.specs.Format.{current}
pub use Rattle.seg_index.specs.Comparing.{IsKeyedEntry, comparisons_in, middle, order_at}
pub use Rattle.seg_index.specs.Growth.{IsBlockFor, KeepsOutsideIndex, beside_table, without_index_block, without_link}
pub use Rattle.seg_index.specs.declared.keys.Lookup.TheVariants.{Absent, Found}
pub use Rattle.seg_index.specs.{declared.keys.Lookup.Lookup, Held.IsIndexOf, Held.capacity_at, Held.index_at}
pub use Rattle.seg_index.specs.{Beginnings.prefix, Keys.name_at, Keys.name_len_at, declared.keys.Entry.Entry}
pub use Rattle.seg_index.specs.Index.{AreIndexEntries, AreLinksTo, grown_capacity}
pub use Rattle.seg_index.specs.Lookups.{AreKeys, FindsPositionIn, order}
pub use Rattle.std.proofs.Common.{Bool, IsTrue, List, [], ap, ap₂, arith, bit_and, false, get_or, inl, inr, length, min}
pub use Rattle.std.proofs.Common.{refl, subst, suc, sym, true, zero, ℕ, ◌%◌, ◌*◌, ◌+◌, ◌-◌, ◌/◌, ◌<◌, ◌==◌, ◌^◌, ◌∙◌}
pub use Rattle.std.proofs.{Common.◌∷◌, Common.◌≡◌, Common.◌≢◌, Common.◌≤◌, lemmas.Cmp.nat_list_cmp_total}
pub use Rattle.std.proofs.lemmas.Bool.{and_from, and_parts, cases_lt, leb-true, lt-ltb, cases_Bool}
pub use Rattle.std.proofs.lemmas.Option.{none-some, same_Some, slice_get-get_or}
pub use Rattle.std.proofs.lemmas.List.Edits.{length-insert, length-remove}
pub use Rattle.std.specs.{Cmp.Lexicographic.slice_cmp, declared.cmp.Ordering.Ordering, Ordering.nat_cmp}
pub use Rattle.std.specs.{Ordering.ordering_reverse, List.AllByRecursion, List.slice_range}
pub use Rattle.std.specs.Prelude.{IfSome, None, Option, Some, insert, nat_lt, remove, slice_get, unwrap_or}
pub use Rattle.std.specs.declared.cmp.Ordering.TheVariants.{Equal, Greater, Less}
unfoldable pub use Rattle.raw_region.specs.Memory.{word_at}
unfoldable pub use Rattle.seg_index.specs.Comparing.{comparisons_among}
