-- Walks over the tiles of a window, from its header or from a block hint (`Walk`).
pub mod Walk
pub mod Hints
