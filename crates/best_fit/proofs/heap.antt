-- A heap with no block in use (`EmptyHeap.fresh_heap`), colours of tiles, and links in blocks.
pub mod EmptyHeap
pub mod Colours
pub mod BlockLinks
