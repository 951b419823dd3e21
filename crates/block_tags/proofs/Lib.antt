mod tiles
mod changes
pub mod Laws
