-- Salvage: the size of its segment (`Sizes`), and how it ends (`Ends`).
pub mod Sizes
pub mod Ends
