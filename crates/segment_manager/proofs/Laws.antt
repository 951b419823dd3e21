-- The laws of directories, and of the bytes that denote them, for other crates.

-- lists of facts: of a part, and of two parts
pub use Rattle.raw_region.proofs.Facts.{AllByRecursion-append, AllByRecursion-behind, AllByRecursion-front}
-- extents by offset: a hole ends at or after its beginning, a rising list rises with an extent inserted and from a
-- lower offset on, and a property of each extent holds after sorting
pub use Rattle.segment_manager.proofs.directory.LiveSet.{all-sorted, all_of-sorted, rising-insert, rising-weak}
unfoldable pub use Rattle.segment_manager.proofs.directory.LiveSet.{Rising}
-- the live set of a directory: its size and its extents, which rise
pub use Rattle.segment_manager.proofs.{directory.LiveSet.live-extents, directory.LiveSet.live-size}
pub use Rattle.segment_manager.proofs.{directory.LiveSet.live-rises}
unfoldable pub use Rattle.segment_manager.proofs.directory.LiveSet.{tables_of}
-- objects inserted by an order: the first ones, the order of the whole list, and properties of all
pub use Rattle.segment_manager.proofs.objects.RankedPairs.{IsRanked, IsStrict, after, all-insert_by, all-ordered}
pub use Rattle.segment_manager.proofs.objects.RankedPairs.{all_of-insert_by, before, ranked-sym}
pub use Rattle.segment_manager.proofs.objects.RankedPairs.{insert_by-rises, rises-pairwise, rises-tail}
unfoldable pub use Rattle.segment_manager.proofs.{objects.RankedPairs.AllRanked, objects.RankedPairs.Pairwise}
-- the two indexes of a directory: each is its objects of a class by a strict order, and has a table with the places
pub use Rattle.segment_manager.proofs.indexes.Indexes.{by_kind-strict, by_name-strict, index-parts}
unfoldable pub use Rattle.segment_manager.proofs.directory.IndexedParts.{ordered}
-- heads, names and values: the words of a head, the length of an encoding, the block of a text
pub use Rattle.segment_manager.proofs.blocks.Blocks.{own-block, spelling-length}
pub use Rattle.segment_manager.proofs.objects.Heads.{Has-front, entry-name_len, good_name-short, object-entry}
-- bytes that denote a directory are a heap's, with the directory's live set
pub use Rattle.segment_manager.proofs.directory.AnyDirectory.{denotes-heap, denotes-live}
-- the kinds of codes
pub use Rattle.segment_manager.proofs.objects.KindCodes.{code-read}
-- a value as a literal means the same as its own literal, for each kind of object; the object of a key that is no
-- vector of texts
pub use Rattle.segment_manager.proofs.objects.AnyKind.{any-no_value, kind-no_texts, scalars-replies}
-- a located object is the object of its key, and a step for its handle is a step for the key
pub use Rattle.segment_manager.proofs.objects.Locating.{IsSaidAt, kind-by_key, located-here, located-steps, said-at}
pub use Rattle.segment_manager.proofs.objects.Locating.{same-object, step-by_key, step-same}
pub use Rattle.segment_manager.proofs.objects.Locating.{told-by_key}
-- a located object is bound to its kind, and a call on it when it is bound is a call on it
pub use Rattle.segment_manager.proofs.bound.ByKey.{binds, of-bound, of-change}
-- a command that only reads leaves the directory
pub use Rattle.segment_manager.proofs.directory.Unchanged.{step-reads}
-- an index that is less than the number that was answered is below
pub use Rattle.segment_manager.proofs.objects.Destroys.{named-below, unique-below}
-- the same for a call that returns less than the machine's answer
pub use Rattle.segment_manager.proofs.containers.MapSteps.{of_kind-leads_on}
-- the directory of bytes in an older format, after version, tags and free tree are changed to the current one
pub use Rattle.segment_manager.proofs.directory.Frame.{denotes-later, directory-later}
-- a command on the elements of an object keeps each object
pub use Rattle.segment_manager.proofs.objects.ArrayItems.{objects_stay}
-- the object of a handle that a construction returns exists, and so does the object of a block that a walk over the
-- tiles meets
pub use Rattle.segment_manager.proofs.objects.ArrayItems.{made-here}
pub use Rattle.segment_manager.proofs.blocks.OwnBlocks.{objects-few, tile-here}
-- the elements of a key's object, one after another: the result of reading a text
pub use Rattle.segment_manager.proofs.objects.Stored.{text-read}
-- the pairs of a key's map of kinds: functions of the map are functions of them; they rise by their map keys
pub use Rattle.segment_manager.proofs.containers.Changeable.{map-least, map-rises, map-told}
