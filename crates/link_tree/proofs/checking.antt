-- The check: a tree whose parts pass is a tree (`Soundness`), and the tree that is read is the tree there.
pub mod Soundness
pub mod ReadOff
