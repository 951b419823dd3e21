-- What holds of images, for other crates: the laws of `laws.rt`.
pub use Rattle.image_check.proofs.opening.Decisions.{refused-class}
pub use Rattle.image_check.proofs.reading.Deciding.{all_decided}
pub use Rattle.image_check.proofs.law.OneDirectory.{one_directory}
pub use Rattle.image_check.proofs.containers.MapMeaning.{tests_mean_relations}
-- And facts about the tests of indexes and objects, for any reader of the bytes.
pub use Rattle.image_check.proofs.indexes.AllEntries.{targets-split}
pub use Rattle.image_check.proofs.objects.HeadBytes.{element-spelled, named-right, padding-read}
pub use Rattle.image_check.proofs.indexes.LinkOrder.{entry-among, entry-some}
pub use Rattle.image_check.proofs.containers.MapPairs.{size-least, size-most}
pub use Rattle.image_check.proofs.bytes.Members.{find_mem, list_all_mem}
pub use Rattle.image_check.proofs.objects.OneObject.{no-room, room-wider}
pub use Rattle.image_check.proofs.objects.AllObjects.{heads-of, right-from, wrong-named, wrong-tiles, wrong-unique}
pub use Rattle.image_check.proofs.bytes.Ranges.{all-broken, all-further, all-map, split}
pub use Rattle.image_check.proofs.indexes.Ranks.{last_of, last-of-more, ranked-broken, ranked-more}
pub use Rattle.image_check.proofs.claims.CountedFields.{Contains-Mem, Mem-Contains}
pub use Rattle.image_check.proofs.bytes.Members.{Mem, mem_filter, mem_filter_map, mem_of_filter, mem_of_filter_map}
pub use Rattle.image_check.proofs.bytes.Members.{mem_right}
pub use Rattle.image_check.proofs.block_collection.UsedTile.{one_tile, same_role-is}
pub use Rattle.image_check.proofs.frame.Tags.{has_tags-AreWholeTiles}
