mod trees
mod inserting
pub mod Laws
