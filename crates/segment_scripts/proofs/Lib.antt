mod runs
mod values
pub mod Laws
