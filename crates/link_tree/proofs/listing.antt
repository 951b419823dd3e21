-- A listing: what stands in the row after the nodes of a tree.
pub mod Rows
pub mod Listings
