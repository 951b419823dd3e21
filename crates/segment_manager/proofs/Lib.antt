mod Common
mod directory
pub mod CommandLaws
pub mod PartLaws
pub mod NextPairs
pub mod Laws
pub mod ElementLaws
