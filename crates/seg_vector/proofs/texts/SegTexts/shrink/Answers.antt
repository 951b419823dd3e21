-- A vector of texts is a container of elements of 16 bytes.
use Rattle.seg_vector.proofs.{length, bytes_of, raw, shrunk, texts-stand}
use Rattle.seg_vector.proofs.texts.SegTexts.shrink.Goals as goal

pub shrink_storage-requires-clause-container : goal.shrink_storage-requires-clause-container
shrink_storage-requires-clause-container c = (
  length c.requires.0,
  (
    c.requires.1.0,
    (
      raw (bytes_of c.args.heap.now.bytes) (length c.requires.0) c.requires.1.0.extent,
      texts-stand c.requires.1.1,
    ),
  ),
)

pub returns : goal.returns
returns c ps t s =
    shrunk s (c.shrink_storage.ensures (length ps) t (raw (bytes_of c.args.heap.now.bytes) (length ps) t.extent)
    (texts-stand s))
