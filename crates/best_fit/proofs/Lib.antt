mod Common
mod extents
mod tags
mod gaps
mod free_tree
mod exchange
pub mod Laws
