-- The laws of vectors for other crates.

-- a vector of texts stays after a call that failed and freed what it had allocated
pub use Rattle.seg_vector.proofs.texts.LayOut.{texts-restored}
-- the storage of a container keeps its block if the same blocks are in use
pub use Rattle.seg_vector.proofs.storage.Storage.{same-extents}
-- the blocks of a list of texts that is put together from three are theirs, one after another
pub use Rattle.seg_vector.proofs.texts.Blocks.{blocks-three}
