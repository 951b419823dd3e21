-- Walks over a tree: what is ahead of a node.
pub mod Walks
pub mod Steps
