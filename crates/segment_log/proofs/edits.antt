-- Edits: what a text of them makes of an image (`Reading`).
pub mod Reading
pub mod Twice
pub mod Images
pub mod Within
