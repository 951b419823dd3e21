mod Common
mod pairs
pub mod Laws
pub use Common.*
pub use pairs.NodeBlocks.*
pub use pairs.Lookup.*
pub use pairs.Frame.*
pub use pairs.Lists.*
pub use pairs.Erase.*
pub use pairs.Put.*
