-- The laws of indexes for other crates.

-- an index stays where its words and its block do
pub use Rattle.seg_index.proofs.entries.Frame.{Around, Around-kept, stays}
-- the result of `prepare` meets the condition of `add`
pub use Rattle.seg_index.proofs.entries.Frame.{prepared}
-- the place of an index's words
pub use Rattle.seg_index.proofs.entries.Entries.{place_behind, place_small}
-- entries stay sorted if the blocks of their objects stay, and an object whose key was not found belongs at the place
-- returned
pub use Rattle.seg_index.proofs.entries.Sorted.{ObjectStays, belongs-at, keeps-sorted, stays-itself, stays-trans}
pub use Rattle.seg_index.proofs.{entries.Sorted.taken-stays, entries.Entries.all_found}
