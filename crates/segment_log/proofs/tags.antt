-- Tags: which file a log belongs to (`Owned`).
pub mod Owned
pub mod Named
